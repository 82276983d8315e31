-- A play up to the tail tells of a record past it what a play past the record does.
use Rattle.std.specs.Prelude.{◌≡◌, ℕ, ◌+◌, ◌<◌, ◌≤◌, Bool, true, false, cond, ◌&&◌, ◌==◌, nat_le, nat_lt, List, [], ◌∷◌, Some, None, Result, IfOk, refl}
use Rattle.std.proofs.Common.{inl, inr, sym, ap, subst, ◌∙◌, arith}
use Rattle.std.proofs.lemmas.Bool.{cases_lt}
use Rattle.std.proofs.lemmas.Bool.Decides.{nat_tests}
use Rattle.tg_base.specs.declared.ids.Oid.{Oid}
use Rattle.tg_entry.specs.Drafts.{all_below}
use Rattle.tg_kind.specs.Meaning.{Meaning}
use Rattle.tg_model.specs.declared.play.PlayEnd.{PlayEnd}
use Rattle.tg_model.specs.declared.play.PlayEnd.TheVariants.{Played, Blocked}
use Rattle.tg_protocol.specs.Entries.{is_commit}
use Rattle.tg_protocol.specs.Views.{Entries, View, Play, On, Stuck, stands_at, step_at, between, play_on, play, view_start}
use Rattle.tg_protocol.specs.Checkpoints.{TrimPoints, view_bases}
use Rattle.tg_protocol.specs.Past.{RescueTurn, commit_at, rescue_played, rescue_turn}
use Rattle.tg_play.specs.Kept.{Kept}
use Rattle.tg_play.specs.Relations.{KeepsView}
use Rattle.tg_play.proofs.Playing.{played_on}
use Rattle.tg_rescue.specs.Answers.{play_end, told_turn}
use Rattle.tg_rescue.specs.declared.rescue.RescueTurn as declared
use Rattle.tg_rescue.proofs.Judging.{absent_turn}

-- no record is at or past the tail
none_there : (tail at : ℕ) (es : Entries) → all_below tail es ≡ true → tail ≤ at → None ≡ commit_at es at
unfolding commit_at
none_there tail at [] h le = refl
none_there tail at (x ∷ xs) h le =
    let lt : x.0 < tail = grind (arith, nat_tests) in
    let rest : all_below tail xs ≡ true = grind (arith, nat_tests) in
    let other : (x.0 == at) ≡ false = grind (arith, nat_tests) in
    none_there tail at xs rest le ∙ sym (ap (λ (b : Bool). cond (b && is_commit x.1) (Some x.1) (commit_at xs at)) other)

module _ (m : Meaning) where
  -- all entries are played
  all_due : (tail upto : ℕ) (es : Entries) → all_below tail es ≡ true → tail ≤ upto → between m 0 upto es ≡ es
  all_due tail upto [] h le = refl
  all_due tail upto (x ∷ xs) h le =
      let lt : x.0 < tail = grind (arith, nat_tests) in
      let rest : all_below tail xs ≡ true = grind (arith, nat_tests) in
      let due : (nat_le 0 x.0 && nat_lt x.0 upto) ≡ true = grind (arith, nat_tests) in
      ap (λ (b : Bool). cond b (x ∷ between m 0 upto xs) (between m 0 upto xs)) due ∙ ap (λ (ys : Entries). x ∷ ys) (all_due tail upto xs rest le)

  turn_on : (es : Entries) (oids : List Oid) (at a b : ℕ) → None ≡ commit_at es at → (v : View m) (xs : Entries) →
      rescue_played m (play_on m es a v xs) es oids at ≡ rescue_played m (play_on m es b v xs) es oids at
  unfolding play_on
  turn_on es oids at a b none v [] =
      sym (absent_turn m (record { view = stands_at m v a; came = Played a }) es oids at a none refl)
      ∙ absent_turn m (record { view = stands_at m v b; came = Played b }) es oids at b none refl
  turn_on es oids at a b none v (x ∷ xs) =
      elim (step_at m v es x.0 x.1) as (λ s. rescue_played m (elim s as (λ _. Play m) [ On w ↦ play_on m es a w xs | Stuck o ↦ record { view = stands_at m v x.0; came = Blocked x.0 o } ]) es oids at
      ≡ rescue_played m (elim s as (λ _. Play m) [ On w ↦ play_on m es b w xs | Stuck o ↦ record { view = stands_at m v x.0; came = Blocked x.0 o } ]) es oids at) [
        | On w ↦ turn_on es oids at a b none w xs
        | Stuck o ↦ refl
      ]

  whole : (v : View m) (es : Entries) (tail upto : ℕ) → v.upto ≡ 0 → all_below tail es ≡ true → tail ≤ upto → play m v es upto ≡ play_on m es upto v es
  whole v es tail upto zero h le =
      let on : v.upto ≤ upto = omega (arith, zero) in
      played_on m v es upto on
      ∙ ap (λ (n : ℕ). play_on m es upto v (between m n upto es)) zero
      ∙ ap (λ (ys : Entries). play_on m es upto v ys) (all_due tail upto es h le)

  past_tail : (v : View m) (es : Entries) (oids : List Oid) (tail at : ℕ) → v.upto ≡ 0 → all_below tail es ≡ true → tail ≤ at →
      rescue_played m (play m v es tail) es oids at ≡ rescue_played m (play m v es (at + 1)) es oids at
  past_tail v es oids tail at zero h le =
      ap (λ (p : Play m). rescue_played m p es oids at) (whole v es tail tail zero h (omega arith))
      ∙ turn_on es oids at tail (at + 1) (none_there tail at es h le) v es
      ∙ ap (λ (p : Play m). rescue_played m p es oids at) (sym (whole v es tail (at + 1) zero h (omega (arith, le))))

  pub same_turn : (v : View m) (es : Entries) (oids : List Oid) (tail at : ℕ) → v.upto ≡ 0 → all_below tail es ≡ true →
      rescue_played m (play m v es (play_end at tail)) es oids at ≡ rescue_played m (play m v es (at + 1)) es oids at
  same_turn v es oids tail at zero h =
      elim (cases_lt at tail) [
        | inl lt ↦
            let here : nat_lt at tail ≡ true = grind (arith, nat_tests, lt) in
            ap (λ (b : Bool). rescue_played m (play m v es (cond b (at + 1) tail)) es oids at) here
        | inr le ↦
            let past : nat_lt at tail ≡ false = grind (arith, nat_tests, le) in
            ap (λ (b : Bool). rescue_played m (play m v es (cond b (at + 1) tail)) es oids at) past ∙ past_tail v es oids tail at zero h le
      ]

  -- ---- a turn

  pub turn_is : {E : Type 0} (r : Result declared.RescueTurn E) (c : Kept m.state) (came : PlayEnd) (es : Entries) (tail : ℕ) (gone : TrimPoints) (oids objects : List Oid) (at upto : ℕ)
      → upto ≡ play_end at tail → all_below tail es ≡ true
      → KeepsView m c (play m (view_start m (view_bases m es gone objects oids)) es upto).view
      → came ≡ (play m (view_start m (view_bases m es gone objects oids)) es upto).came
      → ((p : Play m) → KeepsView m c p.view → came ≡ p.came → IfOk r (λ t. told_turn m t ≡ rescue_played m p es oids at))
      → IfOk r (λ t. told_turn m t ≡ rescue_turn m es gone oids objects at)
  unfolding rescue_turn view_start
  turn_is {E} r c came es tail gone oids objects at upto is h k end f =
      let v = view_start m (view_bases m es gone objects oids) in
      subst (λ (x : RescueTurn m). IfOk r (λ t. told_turn m t ≡ x)) (ap (λ (n : ℕ). rescue_played m (play m v es n) es oids at) is ∙ same_turn v es oids tail at refl h) (f (play m v es upto) k end)
