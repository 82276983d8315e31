-- The latest layout of a world is decided, and no decided layout is newer.
use Rattle.std.proofs.Common.{◌≡◌, ℕ, ◌≤◌, List, [], ◌∷◌, Bool, true, false, refl, sym, ap, ◌∙◌, subst, inl, inr, arith, Some, None, Option}
use Rattle.std.specs.Prelude.{nat_lt, if◌then◌else◌}
use Rattle.tg_base.specs.Layouts.{Layout}
use Rattle.tg_base.specs.declared.msg.Msg.{Msg}
use Rattle.tg_base.specs.declared.msg.Msg.TheVariants as msg
use Rattle.tg_base.specs.declared.packet.Packet.{Packet}
use Rattle.tg_protocol.specs.Words.{where_true}
use Rattle.tg_protocol.specs.Logs.{by_majority, decided_by, newer, newest_among, newest}
use Rattle.tg_law_layouts.proofs.Moves.Members.{Has}
use Rattle.tg_law_layouts.proofs.Agreement.Facts.{Proposed, Truth}
use Rattle.tg_law_layouts.proofs.Layouts.Pax.{OfEpoch}
use Rattle.tg_law_layouts.proofs.Layouts.Standing.{IsKnown}

module _ (n : ℕ) (first : Layout) (ps : List Packet) (truth : (e : ℕ) → Truth e n (OfEpoch e) ps) where
  abbrev K : Layout → Type 0
  K = IsKnown n first ps

  decides : (x : Packet) → Has ps x → (y : Msg) → x.msg ≡ y → (q : Layout) → decided_by ps n y ≡ Some q → K q
  decides x h (msg.Accept e b p) i q d = by (by_majority ps n e b) refl d
    where
      same : (p q : Layout) → Some p ≡ Some q → p ≡ q
      same p q e = cc

      won : by_majority ps n e b ≡ true → K p
      won t =
          let a : Proposed e ps b p = record { packet = x; sent = h; is = i } in
          let f : p.epoch ≡ e = (truth e).allowed b p a in
          inr (record { ballot = b; proposed = subst (λ (g : ℕ). Proposed g ps b p) (sym f) a; most = subst (λ (g : ℕ). by_majority ps n g b ≡ true) (sym f) t })

      by : (c : Bool) → by_majority ps n e b ≡ c → where_true c p ≡ Some q → K q
      by true t g = subst K (same p q g) (won t)
      by false t g = absurd (cc)
  decides x h y i q d = absurd (cc)

  newer_known : (p : Layout) (o : Option Layout) → K p → ((q : Layout) → o ≡ Some q → K q) → K (newer p o)
  newer_known p None k f = k
  newer_known p (Some q) k f = by (nat_lt p.epoch q.epoch)
    where
      by : (b : Bool) → K (if b then q else p)
      by true = f q refl
      by false = k

  among_known : (xs : List Packet) (p : Layout) → ((x : Packet) → Has xs x → Has ps x) → K p → K (newest_among ps n p xs)
  among_known [] p f k = k
  among_known (x ∷ xs) p f k = among_known xs (newer p (decided_by ps n x.msg)) (λ y g. f y (inr g)) (newer_known p (decided_by ps n x.msg) k (λ q d. decides x (f x (inl refl)) x.msg refl q d))

  newer_up : (p : Layout) (o : Option Layout) → p.epoch ≤ (newer p o).epoch
  newer_up p o = grind arith

  newer_past : (p q : Layout) → q.epoch ≤ (newer p (Some q)).epoch
  newer_past p q = grind arith

  among_up : (xs : List Packet) (p : Layout) → p.epoch ≤ (newest_among ps n p xs).epoch
  among_up [] p = omega arith
  among_up (x ∷ xs) p = let a = newer_up p (decided_by ps n x.msg) in let b = among_up xs (newer p (decided_by ps n x.msg)) in omega (arith, a, b)

  among_past : (xs : List Packet) (p q : Layout) (x : Packet) → Has xs x → decided_by ps n x.msg ≡ Some q → q.epoch ≤ (newest_among ps n p xs).epoch
  among_past [] p q x h d = absurd h
  among_past (y ∷ xs) p q x (inl e) d =
      let a = subst (λ (o : Option Layout). q.epoch ≤ (newer p o).epoch) (sym (ap (λ (z : Packet). decided_by ps n z.msg) (sym e) ∙ d)) (newer_past p q) in
      let b = among_up xs (newer p (decided_by ps n y.msg)) in
      omega (arith, a, b)
  among_past (y ∷ xs) p q x (inr h) d = among_past xs (newer p (decided_by ps n y.msg)) q x h d

  pub newest_known : K (newest first ps n)
  unfolding newest
  newest_known = among_known ps first (λ x h. h) (inl refl)

  pub newest_last : (q : Layout) → K q → q.epoch ≤ (newest first ps n).epoch
  unfolding newest
  newest_last q (inl e) = let a = among_up ps first in let b = ap (λ (x : Layout). x.epoch) e in omega (arith, a, b)
  newest_last q (inr w) = among_past ps first q w.proposed.packet w.proposed.sent (ap (λ y. decided_by ps n y) w.proposed.is ∙ ap (λ b. where_true b q) w.most)
