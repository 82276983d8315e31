-- The record at a position, and whether it needs a decision record.
use Rattle.std.specs.Prelude.{◌≡◌, ℕ, Bool, true, false, cond, not, ◌&&◌, ◌==◌, List, [], ◌∷◌, Option, Some, None, is_some}
use Rattle.std.proofs.Common.{sym, ap, ◌∙◌}
use Rattle.tg_entry.specs.declared.entry.Entry.{Entry}
use Rattle.tg_entry.specs.Needs.{needs_decision}
use Rattle.tg_protocol.specs.Entries.{is_commit}
use Rattle.tg_protocol.specs.Views.{Entries, decision_in}
use Rattle.tg_protocol.specs.Past.{commit_at}
use Rattle.tg_play.specs.Kept.{at_position, decisions_kept}
use Rattle.tg_play.proofs.Places.{decisions_told}

first_is : (x : ℕ × Entry) (rest : Entries) (p : ℕ) (t : Bool) → ((x.0 == p) && is_commit x.1) ≡ t → commit_at (x ∷ rest) p ≡ cond t (Some x.1) (commit_at rest p)
unfolding commit_at
first_is x rest p t is = ap (λ (u : Bool). cond u (Some x.1) (commit_at rest p)) is

pub found_record : (es xs rest : Entries) (x : ℕ × Entry) (p : ℕ) → xs ≡ x ∷ rest → ((x.0 == p) && is_commit x.1) ≡ true → commit_at xs p ≡ commit_at es p → Some x.1 ≡ commit_at es p
found_record es xs rest x p is here same = sym (first_is x rest p true here) ∙ ap (λ (ys : Entries). commit_at ys p) (sym is) ∙ same

pub passed_record : (es xs rest : Entries) (x : ℕ × Entry) (p : ℕ) → xs ≡ x ∷ rest → ((x.0 == p) && is_commit x.1) ≡ false → commit_at xs p ≡ commit_at es p → commit_at rest p ≡ commit_at es p
passed_record es xs rest x p is here same = sym (first_is x rest p false here) ∙ ap (λ (ys : Entries). commit_at ys p) (sym is) ∙ same

pub no_record : (es xs : Entries) (p : ℕ) → xs ≡ [] → commit_at xs p ≡ commit_at es p → None ≡ commit_at es p
unfolding commit_at
no_record es xs p is same = ap (λ (ys : Entries). commit_at ys p) (sym is) ∙ same

pub needs_told : (es : Entries) (ds : List (ℕ × Bool)) (at : ℕ) (e : Entry) (n : Bool) (d : Option Bool) → ds ≡ decisions_kept es → d ≡ at_position ds at → n ≡ (needs_decision e && not (is_some d))
    → n ≡ (needs_decision e && not (is_some (decision_in es at)))
needs_told es ds at e n d kept told is =
    is
    ∙ ap (λ (x : Option Bool). needs_decision e && not (is_some x)) (told ∙ ap (λ (xs : List (ℕ × Bool)). at_position xs at) kept ∙ decisions_told es at)
