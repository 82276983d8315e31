-- The node that the words name.
use Rattle.std.proofs.Common.{◌≡◌, ℕ, List, Option, Some, sym, ap, ◌∙◌, subst}
use Rattle.tg_base.specs.declared.ids.NodeId.{NodeId}
use Rattle.tango_words.specs.Forms.{form_of}
use Rattle.tango_words.specs.declared.forms.Form.{Form}
use Rattle.tango_words.specs.declared.forms.Form.TheVariants.{Node}

-- the node of a form, else the one given
abbrev node_of : NodeId → Option Form → NodeId
node_of other (Some (Node id)) = id
node_of other form = other

-- what holds of the node that was read holds of the one that the words name
pub moved : (words : List (List ℕ)) (read : Option Form) (form : Form) (n id : NodeId) (P : NodeId → Type 0) → read ≡ form_of words → read ≡ Some form → form ≡ Node n →
    form_of words ≡ Some (Node id) → P n → P id
moved words read form n id P is some node named h = subst P (ap (node_of n) (sym (some ∙ ap Some node) ∙ is ∙ named)) h
