use Rattle.std.proofs.Common.{◌≡◌, ◌<◌, get_or, length, subst, ap, sym, ◌∙◌, arith}
use Rattle.std.specs.Prelude.{insert, OnOk}
use Rattle.tg_proj.specs.Next.{rising_place}
use Rattle.tg_chain.proofs.Rising.{num_there, num_new}
use Rattle.tg_chain.proofs.units.put_unit.Goals.{else-place-len-via-then-place-len+else-as_slice-place, else-place-len-via-else-place-len}
use Rattle.tg_chain.proofs.units.put_unit.Goals as goal

pub returns-then-as_slice-place : goal.returns-then-as_slice-place
returns-then-as_slice-place c =
    let units = c.args.units.now in
    let place = c.place_of-place.ensures.place ∙ ap (λ xs. rising_place xs c.args.unit) c.as_slice.ensures in
    let within : c.place_of-place.result < length units = omega (arith, c.if-place-len.true, c.len.ensures) in
    num_there units c.args.unit (subst (λ n. n < length units) place within)
    (ap (λ n. get_or units n 0) (sym place) ∙ ap (λ xs. get_or xs c.place_of-place.result 0) (sym c.as_slice-then-place-len.ensures) ∙ c.if-as_slice-place.true)

pub returns : goal.returns
returns c =
    let units = c.args.units.now in
    let unit = c.args.unit in
    let place : c.place_of-place.result ≡ rising_place units unit = c.place_of-place.ensures.place ∙ ap (λ xs. rising_place xs unit) c.as_slice.ensures in
    let new : rising_place units unit < length units → get_or units (rising_place units unit) 0 ≡ unit → ⊥ =
    λ a b. elim c.else-place-len.branch [
      | else-place-len-via-then-place-len+else-as_slice-place w ↦
          w.if-as_slice-place.false (ap (λ xs. get_or xs c.place_of-place.result 0) w.as_slice-then-place-len.ensures ∙ ap (λ n. get_or units n 0) place ∙ b)
      | else-place-len-via-else-place-len w ↦ absurd (omega (arith, w.if-place-len.false, c.len.ensures, place, a))
    ] in
    subst (λ ys. OnOk c.insert.result (c.insert.new.self ≡ ys)) (ap (λ n. insert units n unit) place ∙ num_new units unit new) c.insert.ensures.ok
