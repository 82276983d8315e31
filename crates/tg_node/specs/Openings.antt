-- What the first lines of a node's text are.
use Rattle.std.specs.Prelude.{◌≡◌, ℕ, ◌≤◌, true, List, ◌++◌, Option, Some, None}
use Rattle.tg_base.specs.declared.ids.NodeId.{NodeId}
use Rattle.tg_script.specs.Headers.{header_lines}
use Rattle.tg_script.specs.Nodes.{is_declared}
use Rattle.tg_lines.specs.Lines.{lines}
use Rattle.tg_lines.specs.declared.header.Opening.{Opening}
use Rattle.tg_lines.specs.declared.header.Opening.TheVariants.{Opens, Outside}
use Rattle.tg_node.specs.Texts.{FirstOutside}

-- the text begins with a header that declares the node, and the rest is still to come; or one of the first three lines is the first outside
abbrev pub IsOpened : NodeId → List ℕ → List ℕ → Opening → Type 0
IsOpened n text rest (Opens h) = (lines text ≡ header_lines h ++ lines rest) × (is_declared h n ≡ true)
IsOpened n text rest (Outside k) = (k ≤ 3) × FirstOutside (lines text) n k

-- as far as the source tells its text
abbrev pub Opened : NodeId → Option (List ℕ) → Option (List ℕ) → Opening → Type 0
Opened n (Some text) (Some rest) opening = IsOpened n text rest opening
Opened n (Some text) None opening = ⊥
Opened n None rest opening = Unit {0}

-- what lines are after which none is read
abbrev pub IsOpening : NodeId → List (List ℕ) → Opening → Type 0
IsOpening n ls (Opens h) = (ls ≡ header_lines h) × (is_declared h n ≡ true)
IsOpening n ls (Outside k) = (k ≤ 3) × FirstOutside ls n k
