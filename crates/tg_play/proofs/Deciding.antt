-- The first decision record for a position.
use Rattle.std.specs.Prelude.{◌≡◌, ℕ, Bool, List, [], ◌∷◌, Option, Some, None, refl}
use Rattle.std.proofs.Common.{sym, ap, ◌∙◌}
use Rattle.tg_entry.specs.declared.entry.Entry.{Entry}
use Rattle.tg_protocol.specs.Words.{or_else}
use Rattle.tg_protocol.specs.Entries.{decides}
use Rattle.tg_protocol.specs.Views.{Entries, View, decision_in, by_decision, verdict, fate_of, fate_or_verdict, view_outcome}
use Rattle.tg_kind.specs.Meaning.{Meaning}
use Rattle.tg_play.specs.Kept.{Kept, at_position}
use Rattle.tg_play.specs.Relations.{KeepsView}
use Rattle.tg_play.proofs.Places.{fates_told}

pub decision_step : (x : ℕ × Entry) (xs all : Entries) (p : ℕ) (said : Option Bool) → all ≡ x ∷ xs → said ≡ decides p x.1.body → decision_in all p ≡ or_else said (decision_in xs p)
unfolding decision_in
decision_step x xs all p said front is =
    ap (λ (es : Entries). decision_in es p) front
    ∙ ap (λ (d : Option Bool). or_else d (decision_in xs p)) (sym is)

pub decision_none : (all : Entries) (p : ℕ) → all ≡ [] → decision_in all p ≡ None
unfolding decision_in
decision_none all p front = ap (λ (es : Entries). decision_in es p) front

module _ (m : Meaning) where
  by_fate : (v : View m) (es : Entries) (p : ℕ) (e : Entry) (fate : Option Bool) → by_decision m v e p (or_else fate (decision_in es p)) ≡ fate_or_verdict m v es p e fate
  unfolding verdict
  by_fate v es p e None = refl
  by_fate v es p e (Some b) = refl

  -- what is said of a record, by its fate or else by the decision record for it
  pub outcome_told : (v : View m) (c : Kept m.state) (es : Entries) (p : ℕ) (e : Entry) (said : Option Bool) → KeepsView m c v → said ≡ or_else (at_position c.fates p) (decision_in es p) → by_decision m v e p said ≡ view_outcome m v es p e
  unfolding view_outcome
  outcome_told v c es p e said k is =
      ap (λ (d : Option Bool). by_decision m v e p d)
      (is ∙ ap (λ (f : Option Bool). or_else f (decision_in es p)) (ap (λ (xs : List (ℕ × Bool)). at_position xs p) k.fates ∙ fates_told m v.fates p))
      ∙ by_fate v es p e (fate_of m v p)
