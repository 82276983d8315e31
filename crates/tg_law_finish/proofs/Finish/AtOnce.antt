-- Units that are asked the same at once, and a client that waits for their answers.
use Rattle.std.proofs.Common.{◌≡◌, ℕ, suc, ◌+◌, ◌≤◌, List, [], ◌∷◌, ◌++◌, length, true, false, refl, ap, arith, eqb}
use Rattle.tg_base.specs.Layouts.{Layout}
use Rattle.tg_base.specs.Clusters.{Header}
use Rattle.tg_base.specs.declared.ids.NodeId.{NodeId}
use Rattle.tg_base.specs.declared.msg.Msg.{Msg}
use Rattle.tg_base.specs.declared.packet.Out.{Out}
use Rattle.tg_kind.specs.Meaning.{Meaning}
use Rattle.tg_protocol.specs.Words.{unit_id}
use Rattle.tg_protocol.specs.Requests.{out, awaits, drawn_from, Waits, waits_for, asked_of, without_wait}
use Rattle.tg_law_finish.proofs.Finish.Lists.{Each}
use Rattle.tg_law_finish.proofs.Finish.Tasks.{Below, Away}
use Rattle.tg_law_finish.proofs.Finish.Writers.{unit_away, awaited_itself}

pub long_asked : (z : Msg) (ws : Waits) → length (asked_of unit_id z ws) ≡ length ws
long_asked z [] = refl
long_asked z (w ∷ ws) = ap suc (long_asked z ws)

-- Their requests are drawn in a row.

one_drawn : (o : Out) (os : List Out) (low : ℕ) → low ≤ o.rid → drawn_from low os ≡ os → drawn_from low (o ∷ os) ≡ o ∷ os
one_drawn o os low le e = grind (arith, le, e)

pub all_drawn : (z : Msg) (us : List ℕ) (rid low : ℕ) → low ≤ rid → drawn_from low (asked_of unit_id z (waits_for us rid)) ≡ asked_of unit_id z (waits_for us rid)
all_drawn z [] rid low le = refl
all_drawn z (u ∷ us) rid low le = one_drawn (out (unit_id u) rid z) (asked_of unit_id z (waits_for us (rid + 1))) low le (all_drawn z us (rid + 1) low (omega (arith, le)))

pub all_below : (z : Msg) (us : List ℕ) (rid n : ℕ) → rid + length us ≤ n → Each (Below n) (asked_of unit_id z (waits_for us rid))
all_below z [] rid n le = tt
all_below z (u ∷ us) rid n le = (omega (arith, le), all_below z us (rid + 1) n (omega (arith, le)))

-- One that has answered is waited for no more.

without_none : (u : ℕ) (ws : Waits) → Each (λ (v : ℕ × ℕ). eqb v.0 u ≡ false) ws → without_wait u ws ≡ ws
without_none u [] a = refl
without_none u (w ∷ ws) a = one u w ws a.0 (without_none u ws a.1)
  where
    one : (u : ℕ) (w : ℕ × ℕ) (ws : Waits) → eqb w.0 u ≡ false → without_wait u ws ≡ ws → without_wait u (w ∷ ws) ≡ w ∷ ws
    one u w ws e f = grind (arith, e, f)

pub without_first : (w : ℕ × ℕ) (ws : Waits) → Each (λ (v : ℕ × ℕ). eqb v.0 w.0 ≡ false) ws → without_wait w.0 (w ∷ ws) ≡ ws
without_first w ws a = one w ws (without_none w.0 ws a)
  where
    one : (w : ℕ × ℕ) (ws : Waits) → without_wait w.0 ws ≡ ws → without_wait w.0 (w ∷ ws) ≡ ws
    one w ws f = grind (arith, f)

pub nest : (xs : Waits) (w : ℕ × ℕ) (ys : Waits) → xs ++ w ∷ ys ≡ (xs ++ w ∷ []) ++ ys
nest [] w ys = refl
nest (x ∷ xs) w ys = ap (λ (l : Waits). x ∷ l) (nest xs w ys)

pub each_mid : (P : ℕ × ℕ → Type 0) (xs : Waits) (w : ℕ × ℕ) (ys : Waits) → Each P (xs ++ w ∷ ys) → P w
each_mid P [] w ys a = a.0
each_mid P (x ∷ xs) w ys a = each_mid P xs w ys a.1

pub each_to : {X : Type 0} → (P Q : X → Type 0) → ((x : X) → P x → Q x) → (xs : List X) → Each P xs → Each Q xs
each_to P Q f [] a = tt
each_to P Q f (x ∷ xs) a = (f x a.0, each_to P Q f xs a.1)

module _ (m : Meaning) (h : Header) (stopped : List NodeId) (k : ℕ) (p : Layout) (longest : ℕ) where
  pub all_away : (z : Msg) (ws : Waits) → Each Away (asked_of unit_id z ws)
  all_away z [] = tt
  all_away z (w ∷ ws) = ((λ l. unit_away m h stopped k p longest w.0 l), all_away z ws)

  pub first_awaited : (o : Out) (os : List Out) → awaits (o ∷ os) o.to o.rid ≡ true
  first_awaited o os = let e = awaited_itself m h stopped k p longest o in grind (arith, e)
