-- What the commands of scripts give is within the types of its words.
use Rattle.std.proofs.Common.{◌≡◌, ◌⊎◌, ℕ, ◌<◌, ◌≤◌, ◌^◌, List, [], ◌∷◌, ◌++◌, true, sym, subst, inl, inr, arith, Some, None, Option}
use Rattle.std.specs.Prelude.{◌&&◌, nat_lt, nat_le}
use Rattle.std.specs.List.{list_all, concat}
use Rattle.std.proofs.lemmas.Bool.Decides.{nat_tests}
use Rattle.tg_base.specs.Changes.{Changed, IsChange}
use Rattle.tg_base.specs.Clusters.{Header, IsHeader}
use Rattle.tg_base.specs.Units.{is_chain, is_unit}
use Rattle.tg_base.specs.declared.change.Join.{Join}
use Rattle.tg_codec.proofs.Laws.{and-left, and-right}
use Rattle.tg_model.specs.declared.command.Command.TheVariants as cmd
use Rattle.tg_model.specs.Kinds.{CommandOf}
use Rattle.tg_proj.specs.Refusals.{coming, joining}
use Rattle.tg_protocol.specs.Runs.{LawfulCommand}
use Rattle.tg_any.specs.AllKinds.{all_kinds}
use Rattle.tg_any.specs.AnyWords.{op_fits, ask_fits}
use Rattle.tg_any.specs.Names.{is_named}
use Rattle.tg_script.specs.Commands.{command_fits, join_fits, is_put}
use Rattle.tg_law_layouts.proofs.Moves.Members.{Has, has_either}
use Rattle.tg_law_programs.proofs.Transcripts.Given.{Few, AreFew, JoinOk, CommandOk}
use Rattle.tg_law_programs.proofs.Transcripts.Passed.{Named, OpOk, AskOk}

near_of : (n : ℕ) → nat_lt n (2 ^ 64) ≡ true → n < 2 ^ 64
near_of n e = grind (arith, nat_tests)

few_of : (count u : ℕ) → count ≤ 64 → nat_lt u count ≡ true → u < 65536
few_of count u le e = grind (arith, nat_tests)

unit_few : (u : ℕ) → is_unit u ≡ true → Few u
unit_few u e = grind (arith, nat_tests)

join_ok : (h : Header) → h.units ≤ 64 → (j : Option Join) → join_fits h j ≡ true → JoinOk j
join_ok h few None e = tt
join_ok h few (Some j) e = (few_of h.units j.unit few (and-left _ _ (and-left _ _ e)), near_of j.range (and-right _ _ (and-left _ _ e)), near_of j.stripe (and-right _ _ e))

all_units : (us : List ℕ) → list_all is_unit us ≡ true → AreFew us
all_units [] e u i = absurd i
all_units (x ∷ us) e u (inl s) = subst Few (sym s) (unit_few x (and-left (is_unit x) _ e))
all_units (x ∷ us) e u (inr i) = all_units us (and-right (is_unit x) _ e) u i

both_few : (us vs : List ℕ) → AreFew us → AreFew vs → AreFew (us ++ vs)
both_few us vs a b u i = by (has_either us vs u i)
  where
    by : Has us u ⊎ Has vs u → Few u
    by (inl j) = a u j
    by (inr j) = b u j

chains_few : (cs : List (List ℕ)) → list_all is_chain cs ≡ true → AreFew (concat cs)
chains_few [] e u i = absurd i
chains_few (c ∷ cs) e u i = both_few c (concat cs) (all_units c (and-right _ _ (and-left _ _ (and-left (is_chain c) _ e)))) (chains_few cs (and-right (is_chain c) _ e)) u i

joined_few : (j : Option Join) → JoinOk j → AreFew (joining j)
joined_few None k u i = absurd i
joined_few (Some j) k u (inl e) = subst Few (sym e) k.0
joined_few (Some j) k u (inr i) = absurd i

coming_few : (c : Changed) → IsChange c → JoinOk c.join → AreFew (coming c)
coming_few c e j = both_few (concat c.opened) (joining c.join) (chains_few c.opened (and-right _ _ (and-left _ _ (and-right _ _ (and-left _ _ e))))) (joined_few c.join j)

few_units : (h : Header) → IsHeader h → h.units ≤ 64
few_units h e = grind arith

pub given_ok : (h : Header) → IsHeader h → (x : CommandOf all_kinds) → LawfulCommand all_kinds x → command_fits h x ≡ true → CommandOk all_kinds Named OpOk AskOk x
given_ok h header (cmd.Host o) l e = e
given_ok h header cmd.Begin l e = tt
given_ok h header (cmd.Put o op) l e = (and-left (is_named o) _ e, and-left (op_fits op) (is_put op) (and-right (is_named o) _ e))
given_ok h header (cmd.Ask o q) l e = (and-left (is_named o) (ask_fits q) e, and-right (is_named o) (ask_fits q) e)
given_ok h header cmd.End l e = tt
given_ok h header cmd.Drop l e = tt
given_ok h header (cmd.Fate at) l e = near_of at e
given_ok h header (cmd.Decide at) l e = near_of at e
given_ok h header (cmd.Checkpoint o) l e = e
given_ok h header (cmd.Forget o n) l e = (and-left (is_named o) _ e, near_of n (and-left (nat_lt n (2 ^ 64)) (nat_le 1 n) (and-right (is_named o) _ e)))
given_ok h header cmd.Trim l e = tt
given_ok h header (cmd.Reconf c) l e = let j = join_ok h (few_units h header) c.join (and-right _ _ e) in (j, coming_few c l j)
given_ok h header (cmd.Copy u r s) l e = join_ok h (few_units h header) (Some (record { unit = u; range = r; stripe = s })) e
given_ok h header (cmd.AskAt at o q) l e =
    (near_of at (and-left (nat_lt at (2 ^ 64)) _ e), and-left (is_named o) (ask_fits q) (and-right (nat_lt at (2 ^ 64)) (is_named o && ask_fits q) e), and-right (is_named o) (ask_fits q) (and-right (nat_lt at (2 ^ 64)) (is_named o && ask_fits q) e))
given_ok h header (cmd.Rescue at) l e = near_of at e
