-- What is counted of a settling, as `Finishes` counts it.
use Rattle.std.proofs.Common.{◌≡◌, ℕ, ◌+◌, ◌-◌, ◌≤◌, List, [], ◌∷◌, ◌++◌, length, filter, take, cond, Bool, true, false, ◌||◌, refl, ap, ◌∙◌, sym, subst, arith, Some, None, Option, length-append}
use Rattle.std.proofs.Math.Seq.{take-append_seam}
use Rattle.std.specs.Prelude.{slice_get}
use Rattle.tg_base.specs.declared.ids.NodeId.{NodeId}
use Rattle.tg_base.specs.declared.packet.Packet.{Packet}
use Rattle.tg_kind.specs.Meaning.{Meaning}
use Rattle.tg_model.specs.Kinds.{WhatOf}
use Rattle.tg_base.specs.Orders.{node_eq}
use Rattle.tg_protocol.specs.Words.{client_id}
use Rattle.tg_protocol.specs.Worlds.{World}
use Rattle.tg_protocol.specs.Finishing.{is_with_client, passes, deliveries, Finishes, HasReply}
use Rattle.tg_law_finish.proofs.Finish.Counted.{is_of, one_if, cost, counted, Finishes as Counted}

node_turned : (a b : NodeId) → node_eq a b ≡ node_eq b a
unfolding node_eq
node_turned a b = grind arith

pub is_same : (m : Meaning) (k : ℕ) (x : Packet) → is_of k x ≡ is_with_client m k x
is_same m k x = ap (λ b. b || node_eq x.to (client_id k)) (node_turned x.from (client_id k)) ∙ ap (λ b. node_eq (client_id k) x.from || b) (node_turned x.to (client_id k))

cost_is : (m : Meaning) (k : ℕ) (o : Option Packet) → cost k o ≡ one_if (passes m (is_with_client m k) o)
cost_is m k None = refl
cost_is m k (Some x) = ap one_if (is_same m k x)

long_by : (b : Bool) (i : ℕ) (is : List ℕ) → length (cond b (i ∷ is) is) ≡ one_if b + length is
long_by true i is = omega arith
long_by false i is = omega arith

counted_is : (m : Meaning) (k : ℕ) (ps : List Packet) (is : List ℕ) → counted k ps is ≡ length (filter (λ i. passes m (is_with_client m k) (slice_get ps i)) is)
unfolding counted
counted_is m k ps [] = refl
counted_is m k ps (i ∷ is) =
    let a = cost_is m k (slice_get ps i) in
    let b = counted_is m k ps is in
    let c : length (filter (λ i. passes m (is_with_client m k) (slice_get ps i)) (i ∷ is)) ≡ one_if (passes m (is_with_client m k) (slice_get ps i)) + length (filter (λ i. passes m (is_with_client m k) (slice_get ps i)) is) = long_by (passes m (is_with_client m k) (slice_get ps i)) i (filter (λ i. passes m (is_with_client m k) (slice_get ps i)) is) in
    omega (arith, a, b, c)

pub front_of : (xs ys zs : List ℕ) → zs ≡ xs ++ ys → take (length zs - length ys) zs ≡ xs
front_of xs ys zs e = subst (λ (l : List ℕ). take (length l - length ys) l ≡ xs) (sym e) (ap (λ n. take n (xs ++ ys)) (less xs ys) ∙ take-append_seam xs ys)
  where
    less : (xs ys : List ℕ) → length (xs ++ ys) - length ys ≡ length xs
    less xs ys = let a = length-append xs ys in omega (arith, a)

-- so many deliveries at most
pub few_by : (m : Meaning) (k n : ℕ) (w v : World m) (done : List ℕ) → v.delivered ≡ done ++ w.delivered → counted k v.packets done ≤ n → deliveries m (is_with_client m k) w v ≤ n
few_by m k n w v done since few = subst (λ (is : List ℕ). length (filter (λ i. passes m (is_with_client m k) (slice_get v.packets i)) is) ≤ n) (sym (front_of done w.delivered v.delivered since))
    (subst (λ c. c ≤ n) (counted_is m k v.packets done) few)

-- a client that is counted as answered, and has told so
pub finishes_by : (m : Meaning) (k n : ℕ) (w v : World m) (P : WhatOf m → Type 0) → Counted m k n w v → HasReply m w v k P → Finishes m w v k n P
finishes_by m k n w v P f r = record {
  idle = f.answered;
  reply = r;
  few = few_by m k n w v f.done f.since f.few;
}
