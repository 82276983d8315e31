-- Requests to several servers: who hasn't answered.
use Rattle.std.proofs.Common.{◌≡◌, ◌⊎◌, ℕ, zero, suc, ◌+◌, ◌<◌, ◌≤◌, List, [], ◌∷◌, length, Bool, true, false, eqb, refl, ap, ◌∙◌, sym, subst, inl, inr, arith}
use Rattle.tg_base.specs.declared.ids.NodeId.{NodeId}
use Rattle.tg_base.specs.declared.msg.Msg.{Msg}
use Rattle.tg_base.specs.declared.packet.Out.{Out}
use Rattle.tg_protocol.specs.Words.{numbers}
use Rattle.tg_protocol.specs.Requests.{out, Waits, waits_for, asked_of, without_wait, drawn_from}
use Rattle.tg_law_layouts.proofs.Moves.Members.{Has}
use Rattle.tg_law_layouts.proofs.Agreement.Proposers.{answered, AllWait}
use Rattle.tg_law_finish.proofs.Finish.Lists.{Each}
use Rattle.tg_law_reconfs.proofs.Votes.{tally, tally_none, contrary, one_of}

pub each_has : {X : Type 0} → (P : X → Type 0) (xs : List X) → ((x : X) → Has xs x → P x) → Each P xs
each_has P [] t = tt
each_has P (x ∷ xs) t = (t x (inl refl), each_has P xs (λ y h. t y (inr h)))

pub has_each : {X : Type 0} → (P : X → Type 0) (xs : List X) (x : X) → Each P xs → Has xs x → P x
has_each P [] x a h = absurd h
has_each P (y ∷ xs) x a (inl e) = subst P (sym e) a.0
has_each P (y ∷ xs) x a (inr h) = has_each P xs x a.1 h

same_num : (a b : ℕ) → eqb a b ≡ true → a ≡ b
same_num a b e = grind arith

waits_here : (w : ℕ × ℕ) (ws : Waits) (i : ℕ) → w.0 ≡ i → answered (w ∷ ws) i ≡ false
waits_here w ws i e = grind (arith, e)

waits_there : (w : ℕ × ℕ) (ws : Waits) (i : ℕ) → answered ws i ≡ false → answered (w ∷ ws) i ≡ false
waits_there w ws i e = grind (arith, e)

waits_either : (w : ℕ × ℕ) (ws : Waits) (i : ℕ) → answered (w ∷ ws) i ≡ false → (w.0 ≡ i) ⊎ (answered ws i ≡ false)
waits_either w ws i e = grind (arith, e)

pub unanswered_has : (ws : Waits) (i : ℕ) → answered ws i ≡ false → (j : ℕ) × Has ws (i, j)
unanswered_has [] i e = absurd cc
unanswered_has (w ∷ ws) i e = by (waits_either w ws i e) (λ f. unanswered_has ws i f)
  where
    by : (w.0 ≡ i) ⊎ (answered ws i ≡ false) → (answered ws i ≡ false → (j : ℕ) × Has ws (i, j)) → (j : ℕ) × Has (w ∷ ws) (i, j)
    by (inl f) more = (w.1, inl (ap (λ (n : ℕ). (n, w.1)) (sym f)))
    by (inr f) more = let x = more f in (x.0, inr x.1)

pub has_unanswered : (ws : Waits) (i j : ℕ) → Has ws (i, j) → answered ws i ≡ false
has_unanswered [] i j h = absurd h
has_unanswered (w ∷ ws) i j (inl e) = waits_here w ws i (ap (λ (v : ℕ × ℕ). v.0) (sym e))
has_unanswered (w ∷ ws) i j (inr h) = waits_there w ws i (has_unanswered ws i j h)

kept_or : (w : ℕ × ℕ) (ws : Waits) (u : ℕ) → ((w.0 ≡ u) × (without_wait u (w ∷ ws) ≡ without_wait u ws)) ⊎ ((eqb w.0 u ≡ false) × (without_wait u (w ∷ ws) ≡ w ∷ without_wait u ws))
kept_or w ws u = grind arith

differ : (a b : ℕ) → eqb a b ≡ false → a ≡ b → ⊥
differ a b e f = grind arith

-- of those without one server's
pub without_has : (u : ℕ) (ws : Waits) (i j : ℕ) → Has (without_wait u ws) (i, j) → Has ws (i, j) × (i ≡ u → ⊥)
without_has u [] i j h = absurd h
without_has u (w ∷ ws) i j h = by (kept_or w ws u) h (λ g. without_has u ws i j g)
  where
    by : ((w.0 ≡ u) × (without_wait u (w ∷ ws) ≡ without_wait u ws)) ⊎ ((eqb w.0 u ≡ false) × (without_wait u (w ∷ ws) ≡ w ∷ without_wait u ws)) → Has (without_wait u (w ∷ ws)) (i, j)
        → (Has (without_wait u ws) (i, j) → Has ws (i, j) × (i ≡ u → ⊥)) → Has (w ∷ ws) (i, j) × (i ≡ u → ⊥)
    by (inl e) h more = let x = more (subst (λ (l : Waits). Has l (i, j)) e.1 h) in (inr x.0, x.1)
    by (inr e) h more = here (subst (λ (l : Waits). Has l (i, j)) e.1 h)
      where
        here : Has (w ∷ without_wait u ws) (i, j) → Has (w ∷ ws) (i, j) × (i ≡ u → ⊥)
        here (inl f) = (inl f, λ g. differ w.0 u e.0 (ap (λ (v : ℕ × ℕ). v.0) (sym f) ∙ g))
        here (inr g) = let x = more g in (inr x.0, x.1)

pub has_without : (u : ℕ) (ws : Waits) (i j : ℕ) → Has ws (i, j) → (i ≡ u → ⊥) → Has (without_wait u ws) (i, j)
has_without u [] i j h off = absurd h
has_without u (w ∷ ws) i j h off = by (kept_or w ws u) h (λ g. has_without u ws i j g off)
  where
    by : ((w.0 ≡ u) × (without_wait u (w ∷ ws) ≡ without_wait u ws)) ⊎ ((eqb w.0 u ≡ false) × (without_wait u (w ∷ ws) ≡ w ∷ without_wait u ws)) → Has (w ∷ ws) (i, j)
        → (Has ws (i, j) → Has (without_wait u ws) (i, j)) → Has (without_wait u (w ∷ ws)) (i, j)
    by (inl e) (inl f) more = absurd (off (ap (λ (v : ℕ × ℕ). v.0) f ∙ e.0))
    by (inl e) (inr g) more = subst (λ (l : Waits). Has l (i, j)) (sym e.1) (more g)
    by (inr e) (inl f) more = subst (λ (l : Waits). Has l (i, j)) (sym e.1) (inl f)
    by (inr e) (inr g) more = subst (λ (l : Waits). Has l (i, j)) (sym e.1) (inr (more g))

pub without_answered : (u : ℕ) (ws : Waits) (i : ℕ) → answered (without_wait u ws) i ≡ true → (i ≡ u) ⊎ (answered ws i ≡ true)
without_answered u ws i e = by (one_of i u) (answered ws i) refl
  where
    by : (i ≡ u) ⊎ ((i ≡ u) → ⊥) → (b : Bool) → answered ws i ≡ b → (i ≡ u) ⊎ (answered ws i ≡ true)
    by (inl f) b g = inl f
    by (inr off) true g = inr g
    by (inr off) false g = let x = unanswered_has ws i g in absurd (contrary e (has_unanswered (without_wait u ws) i x.0 (has_without u ws i x.0 x.1 off)))

pub without_long : (u : ℕ) (ws : Waits) → length (without_wait u ws) ≤ length ws
without_long u [] = omega arith
without_long u (w ∷ ws) = by (kept_or w ws u) (without_long u ws)
  where
    by : ((w.0 ≡ u) × (without_wait u (w ∷ ws) ≡ without_wait u ws)) ⊎ ((eqb w.0 u ≡ false) × (without_wait u (w ∷ ws) ≡ w ∷ without_wait u ws)) → length (without_wait u ws) ≤ length ws → length (without_wait u (w ∷ ws)) ≤ length (w ∷ ws)
    by (inl e) le = let f = ap (λ (l : Waits). length l) e.1 in omega (arith, f, le)
    by (inr e) le = let f = ap (λ (l : Waits). length l) e.1 in omega (arith, f, le)

-- Of all servers.

all_from : (n a next i : ℕ) → a ≤ i → i < a + n → (j : ℕ) × Has (waits_for (numbers n a) next) (i, j)
all_from zero a next i le less = absurd (omega (arith, le, less))
all_from (suc n) a next i le less = by (one_of i a) (λ up. all_from n (a + 1) (next + 1) i up (omega (arith, less)))
  where
    by : (i ≡ a) ⊎ ((i ≡ a) → ⊥) → (a + 1 ≤ i → (j : ℕ) × Has (waits_for (numbers n (a + 1)) (next + 1)) (i, j)) → (j : ℕ) × Has (waits_for (numbers (suc n) a) next) (i, j)
    by (inl e) more = (next, inl (ap (λ (x : ℕ). (x, next)) e))
    by (inr off) more = let x = more (up a i le off) in (x.0, inr x.1)
      where
        up : (a i : ℕ) → a ≤ i → (i ≡ a → ⊥) → a + 1 ≤ i
        up a i le off = grind (arith, le, off)

pub all_have : (n next i : ℕ) → i < n → (j : ℕ) × Has (waits_for (numbers n 0) next) (i, j)
all_have n next i less = all_from n 0 next i (omega arith) (omega (arith, less))

pub all_wait : (n next : ℕ) → AllWait n (waits_for (numbers n 0) next)
all_wait n next i less = let x = all_have n next i less in has_unanswered _ i x.0 x.1

pub none_answered : (n : ℕ) (ws : Waits) → AllWait n ws → tally (answered ws) n ≡ 0
none_answered n ws all = tally_none (answered ws) n all

all_length : (n a next : ℕ) → length (waits_for (numbers n a) next) ≡ n
all_length zero a next = refl
all_length (suc n) a next = ap suc (all_length n (a + 1) (next + 1))

pub all_long : (n next : ℕ) → length (waits_for (numbers n 0) next) ≡ n
all_long n next = all_length n 0 next

from_next : (n a next at : ℕ) (i j : ℕ) → next ≤ at → Has (waits_for (numbers n a) at) (i, j) → next ≤ j
from_next zero a next at i j le h = absurd h
from_next (suc n) a next at i j le (inl e) = let f = ap (λ (v : ℕ × ℕ). v.1) e in omega (arith, f, le)
from_next (suc n) a next at i j le (inr h) = from_next n (a + 1) next (at + 1) i j (omega (arith, le)) h

pub all_new : (n next i j : ℕ) → Has (waits_for (numbers n 0) next) (i, j) → next ≤ j
all_new n next i j h = from_next n 0 next next i j (omega arith) h

pub drawn_one : (o : Out) (os : List Out) (next : ℕ) → next ≤ o.rid → drawn_from next os ≡ os → drawn_from next (o ∷ os) ≡ o ∷ os
drawn_one o os next le e = grind (arith, le, e)

drawn_at : (name : ℕ → NodeId) (y : Msg) (n a next at : ℕ) → next ≤ at → drawn_from next (asked_of name y (waits_for (numbers n a) at)) ≡ asked_of name y (waits_for (numbers n a) at)
drawn_at name y zero a next at le = refl
drawn_at name y (suc n) a next at le = drawn_one (out (name a) at y) (asked_of name y (waits_for (numbers n (a + 1)) (at + 1))) next le (drawn_at name y n (a + 1) next (at + 1) (omega (arith, le)))

pub all_drawn : (name : ℕ → NodeId) (y : Msg) (n next : ℕ) → drawn_from next (asked_of name y (waits_for (numbers n 0) next)) ≡ asked_of name y (waits_for (numbers n 0) next)
all_drawn name y n next = drawn_at name y n 0 next next (omega arith)

pub asked_has : (name : ℕ → NodeId) (y : Msg) (ws : Waits) (i j : ℕ) → Has ws (i, j) → Has (asked_of name y ws) (out (name i) j y)
asked_has name y [] i j h = absurd h
asked_has name y (w ∷ ws) i j (inl e) = inl (ap (λ (v : ℕ × ℕ). out (name v.0) v.1 y) e)
asked_has name y (w ∷ ws) i j (inr h) = inr (asked_has name y ws i j h)

pub asked_long : (name : ℕ → NodeId) (y : Msg) (ws : Waits) → length (asked_of name y ws) ≡ length ws
asked_long name y [] = refl
asked_long name y (w ∷ ws) = ap suc (asked_long name y ws)

-- one of them
pub record OneAsked (name : ℕ → NodeId) (y : Msg) (ws : Waits) (o : Out) : Type 0 where
  pub num : ℕ
  pub rid : ℕ
  pub has : Has ws (num, rid)
  pub is : o ≡ out (name num) rid y

pub has_asked : (name : ℕ → NodeId) (y : Msg) (ws : Waits) (o : Out) → Has (asked_of name y ws) o → OneAsked name y ws o
has_asked name y [] o h = absurd h
has_asked name y (w ∷ ws) o (inl e) = record { num = w.0; rid = w.1; has = inl refl; is = e }
has_asked name y (w ∷ ws) o (inr h) = let x = has_asked name y ws o h in record { num = x.num; rid = x.rid; has = inr x.has; is = x.is }
