-- Numbers of requests, and steps that send nothing besides.
use Rattle.std.proofs.Common.{◌≡◌, ℕ, ◌+◌, ◌<◌, ◌≤◌, Bool, true, false, not, ◌&&◌, List, [], ◌∷◌, length, refl, sym, ap, subst, ◌∙◌, arith}
use Rattle.std.specs.Prelude.{nat_lt, nat_le, ◌==◌, if◌then◌else◌}
use Rattle.std.proofs.lemmas.Bool.Decides.{nat_tests}
use Rattle.tg_base.proofs.Exact.{and-left, and-right, both}
use Rattle.tg_base.specs.declared.ids.NodeId.{NodeId}
use Rattle.tg_base.specs.declared.msg.Msg.{Msg}
use Rattle.tg_base.specs.declared.packet.Out.{Out}
use Rattle.tg_protocol.specs.Requests.{Waits, waits_for, asked_of, without_wait, drawn_from, Next, Goes, Learns, Ends, Turn, turn, passes, ends, learns, met_gone}
use Rattle.tg_protocol.specs.Appending.{on_older}
use Rattle.tg_base.specs.Layouts.{Layout}
use Rattle.tg_chain.specs.Turns.{drawn_between}
use Rattle.tg_append.specs.Turns.{after}
use Rattle.tg_reconf.specs.Turns.{all_drawn}
use Rattle.tg_chain.proofs.Outs.{none_drawn}
use Rattle.tg_client_state.specs.Numbers.{ThenDrawn, ThenNew, FitsNumbers, all_from, ThenFresh, BeginsNumbers}

-- Numbers.

below_here : (n k : ℕ) → n < k → nat_lt n k ≡ true
below_here n k less = grind (arith, nat_tests)

below_more : (a n k : ℕ) → n ≤ k → nat_lt a n ≡ true → nat_lt a k ≡ true
below_more a n k le h = grind (arith, nat_tests)

from_here : (n k : ℕ) → n ≤ k → nat_le n k ≡ true
from_here n k le = grind (arith, nat_tests)

not_from : (a n : ℕ) → nat_lt a n ≡ true → nat_le n a ≡ false
not_from a n h = grind (arith, nat_tests)

pub more_drawn : (os : List Out) (n k : ℕ) → n ≤ k → all_drawn n os ≡ true → all_drawn k os ≡ true
more_drawn [] n k le h = refl
more_drawn (o ∷ os) n k le h = both _ _ (below_more o.rid n k le (and-left _ _ h)) (more_drawn os n k le (and-right _ _ h))

keep_both : (a b : Bool) (o : Out) (xs ys : List Out) → b ≡ true → xs ≡ ys → (if a then o ∷ xs else xs) ≡ (if a && b then o ∷ ys else ys)
keep_both true b o xs ys h e = ap (λ zs. o ∷ zs) e ∙ sym (ap (λ c. if c then o ∷ ys else ys) h)
keep_both false b o xs ys h e = e

all_new : (os : List Out) (n k : ℕ) → all_drawn k os ≡ true → drawn_from n os ≡ drawn_between n k os
unfolding drawn_between
all_new [] n k h = refl
all_new (o ∷ os) n k h = keep_both (nat_le n o.rid) (nat_lt o.rid k) o _ _ (and-left _ _ h) (all_new os n k (and-right _ _ h))

leave : (a : Bool) (o : Out) (xs : List Out) → a ≡ false → xs ≡ [] → (if a then o ∷ xs else xs) ≡ []
leave true o xs h e = absurd cc
leave false o xs h e = e

none_from : (os : List Out) (n : ℕ) → all_drawn n os ≡ true → drawn_from n os ≡ []
none_from [] n h = refl
none_from (o ∷ os) n h = leave (nat_le n o.rid) o _ (not_from o.rid n (and-left _ _ h)) (none_from os n (and-right _ _ h))

-- One request, and several.

pub one_below : (n : ℕ) → (nat_lt n (n + 1) && true) ≡ true
one_below n = both _ _ (below_here n (n + 1) (omega arith)) refl

pub one_from : (n : ℕ) → (nat_le n n && true) ≡ true
one_from n = both _ _ (from_here n n (omega arith)) refl

waits_below : (name : ℕ → NodeId) (m : Msg) (nodes : List ℕ) (n k : ℕ) → n + length nodes ≤ k → all_drawn k (asked_of name m (waits_for nodes n)) ≡ true
waits_below name m [] n k le = refl
waits_below name m (x ∷ xs) n k le = both _ _ (below_here n k (omega (arith, le))) (waits_below name m xs (n + 1) k (omega (arith, le)))

pub each_below : (name : ℕ → NodeId) (m : Msg) (nodes : List ℕ) (n : ℕ) → all_drawn (n + length nodes) (asked_of name m (waits_for nodes n)) ≡ true
each_below name m nodes n = waits_below name m nodes n (n + length nodes) (omega arith)

waits_from : (name : ℕ → NodeId) (m : Msg) (nodes : List ℕ) (n k : ℕ) → n ≤ k → all_from n (asked_of name m (waits_for nodes k)) ≡ true
waits_from name m [] n k le = refl
waits_from name m (x ∷ xs) n k le = both _ _ (from_here n k le) (waits_from name m xs n (k + 1) (omega (arith, le)))

pub each_from : (name : ℕ → NodeId) (m : Msg) (nodes : List ℕ) (n : ℕ) → all_from n (asked_of name m (waits_for nodes n)) ≡ true
each_from name m nodes n = waits_from name m nodes n n (omega arith)

others_if : (b : Bool) (name : ℕ → NodeId) (m : Msg) (w : ℕ × ℕ) (ws : Waits) (n : ℕ) → nat_lt w.1 n ≡ true → all_drawn n (asked_of name m ws) ≡ true →
    all_drawn n (asked_of name m (if b then w ∷ ws else ws)) ≡ true
others_if true name m w ws n p q = both _ _ p q
others_if false name m w ws n p q = q

pub others_below : (name : ℕ → NodeId) (m : Msg) (u : ℕ) (ws : Waits) (n : ℕ) → all_drawn n (asked_of name m ws) ≡ true → all_drawn n (asked_of name m (without_wait u ws)) ≡ true
others_below name m u [] n h = refl
others_below name m u (w ∷ ws) n h = others_if (not (w.0 == u)) name m w (without_wait u ws) n (and-left _ _ h) (others_below name m u ws n (and-right _ _ h))

-- Steps that send nothing besides.

pub record Plain {M E : Type 0} (asks : M → List Out) (old : ℕ) (t : Turn M E) : Type 0 where
  pub grows : old ≤ t.next
  pub none : t.besides ≡ []
  pub drawn : ThenDrawn asks t.next t.to

plain_new : {M E : Type 0} (asks : M → List Out) (old k : ℕ) (x : Next M E) → ThenDrawn asks k x → ThenNew asks old old k x
plain_new asks old k (Goes m) h = all_new (asks m) old k h
plain_new asks old k (Learns m) h = tt
plain_new asks old k (Ends e) h = tt

pub plain_fits : {M E : Type 0} (asks : M → List Out) (old : ℕ) (t : Turn M E) → Plain asks old t → FitsNumbers asks old t
plain_fits asks old t h = record {
  grows = h.grows;
  drawn = h.drawn;
  new = subst (λ os. ThenNew asks old (after old os) t.next t.to) (sym h.none) (plain_new asks old t.next t.to h.drawn);
}

pub plain_begins : {M E : Type 0} (asks : M → List Out) (old : ℕ) (t : Turn M E) → Plain asks old t → ThenFresh asks old t.to → BeginsNumbers asks old t
plain_begins asks old t h f = record { fits = plain_fits asks old t h; fresh = f }

-- a machine goes on at a later number, with requests that were drawn by then

pub goes_plain : {M E : Type 0} (asks : M → List Out) (old k : ℕ) (m : M) → old ≤ k → all_drawn k (asks m) ≡ true → Plain {E = E} asks old (turn k (Goes m))
goes_plain asks old k m le h = record { grows = le; none = refl; drawn = h }

pub learns_plain : {M E : Type 0} (asks : M → List Out) (old k : ℕ) (m : M) → old ≤ k → all_drawn k (asks m) ≡ true → Plain {E = E} asks old (learns k m)
learns_plain asks old k m le h = record { grows = le; none = refl; drawn = h }

pub ends_plain : {M E : Type 0} (asks : M → List Out) (old k : ℕ) (e : E) → old ≤ k → Plain {M = M} asks old (ends k e)
ends_plain asks old k e le = record { grows = le; none = refl; drawn = tt }

pub gone_plain : {M E : Type 0} (asks : M → List Out) (old b : ℕ) (t : Turn M E) → Plain asks old t → Plain asks old (met_gone b t)
gone_plain asks old b t h = record { grows = h.grows; none = h.none; drawn = h.drawn }

pub later_plain : {M E : Type 0} (asks : M → List Out) (old k : ℕ) (t : Turn M E) → old ≤ k → Plain asks k t → Plain asks old t
later_plain asks old k t le h = let more : k ≤ t.next = h.grows in record { grows = omega (arith, le, more); none = h.none; drawn = h.drawn }

-- A sequencer of an older epoch is told the layout besides.

pub older_fits : {M E : Type 0} (asks : M → List Out) (p : Layout) (old : ℕ) (m : M) (b : Bool) → all_drawn old (asks m) ≡ true → FitsNumbers {E = E} asks old (on_older p old m b)
older_fits asks p old m true h = record {
  grows = omega arith;
  drawn = more_drawn (asks m) old (old + 1) (omega arith) h;
  new = none_from (asks m) old h ∙ sym (none_drawn (old + 1) (asks m));
}
older_fits asks p old m false h = plain_fits asks old (passes old m) (goes_plain asks old old m (omega arith) h)
