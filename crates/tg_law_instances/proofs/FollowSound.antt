-- Layouts that follow one another: a test over the changes that a run's commands ask for, which proves the claim.
use Rattle.std.proofs.Common.{◌≡◌, ℕ, ◌<◌, List, [], ◌∷◌, Bool, true, false, Option, Some, None, refl, subst, inl, inr, arith}
use Rattle.std.specs.Prelude.{◌+◌, ◌&&◌, ◌==◌, not, nat_lt, is_some, if◌then◌else◌}
use Rattle.std.specs.List.{list_any, list_all}
use Rattle.tg_base.specs.Layouts.{Layout}
use Rattle.tg_base.specs.Changes.{Changed}
use Rattle.tg_base.specs.declared.change.Join.{Join}
use Rattle.tg_base.specs.declared.msg.Msg.{Msg}
use Rattle.tg_base.specs.declared.msg.Msg.TheVariants as msg
use Rattle.tg_base.specs.declared.packet.Packet.{Packet}
use Rattle.tg_model.specs.declared.command.Command.TheVariants as cmd
use Rattle.tg_model.specs.declared.command.Event.TheVariants.{Command as Commands}
use Rattle.tg_proj.specs.Refusals.{new_start}
use Rattle.tg_base.specs.Orders.{node_eq}
use Rattle.tg_protocol.specs.Words.{unit_id, or_else, where_true}
use Rattle.tg_protocol.specs.Layouts.{units_of, change_fault, next_of}
use Rattle.tg_protocol.specs.Trimming.{has_stripe}
use Rattle.tg_protocol.specs.Worlds.{Line, Happens}
use Rattle.tg_protocol.specs.Chosen.{IsDecided}
use Rattle.tg_protocol.specs.Following.{acks_of, SealedAt, HasStripe, Follows, LayoutsFollow}
use Rattle.tg_law_instances.proofs.Small.{is_none, of_some}
use Rattle.tg_law_verdicts.proofs.Members.{Has, has_contained, contained_has, and_both, found, all_pass}
use Rattle.tg_law_verdicts.proofs.Tests.{same_number, of_lt}
use Rattle.tg_law_examples.proofs.SevenKinds.{kinds}
use Rattle.tg_law_instances.proofs.Same.{nodes_same, layouts_same}
use Rattle.tg_law_instances.proofs.Readings.{then_so, layouts_decided, decided_listed}
use Rattle.tg_law_instances.proofs.HeadlineSound.{look_is, whole_is}
use Rattle.tg_law_instances.proofs.Tests.{W, implies, ranges_eq, layouts, is_look, tells_whole}

-- The changes that a script's commands ask for.

abbrev pub changes_in : List (Line kinds) → List Changed
changes_in [] = []
changes_in (Happens (Commands k (cmd.Reconf c)) ∷ xs) = c ∷ changes_in xs
changes_in (x ∷ xs) = changes_in xs

-- What a unit told where it was sealed at an epoch.

abbrev high_in : ℕ → Msg → Option ℕ
high_in e (msg.Sealed d h) = where_true (d == e) h
high_in e x = None

abbrev high_by : ℕ → ℕ → Packet → Option ℕ
high_by e u p = if node_eq p.from (unit_id u) then high_in e p.msg else None

abbrev pub high_among : List Packet → ℕ → ℕ → Option ℕ
high_among [] e u = None
high_among (p ∷ ps) e u = or_else (high_by e u p) (high_among ps e u)

abbrev or_zero : Option ℕ → ℕ
or_zero None = 0
or_zero (Some n) = n

abbrev pub high_of : W → ℕ → ℕ → ℕ
high_of w e u = or_zero (high_among w.packets e u)

-- a unit that joins has told that it has all of its stripe

abbrev answers_whole : ℕ → Packet → Packet → Bool
answers_whole u p a = node_eq a.from (unit_id u) && node_eq a.to p.from && (a.rid == p.rid) && tells_whole a.msg

abbrev asks_whole : W → ℕ → Layout → Join → Packet → Bool
asks_whole w e p j x = node_eq x.to (unit_id j.unit) && is_look (has_stripe e p j.range j.stripe) x.msg && list_any (answers_whole j.unit x) w.packets

abbrev joins_whole : W → ℕ → Layout → Option Join → Bool
joins_whole w e p None = true
joins_whole w e p (Some j) = list_any (asks_whole w e p j) w.packets

abbrev changes_so : W → Layout → Layout → Changed → Bool
changes_so w p q c = not (is_some (change_fault p c)) && ranges_eq q (next_of p c q.by q.start) && joins_whole w q.epoch p c.join

abbrev was_sealed : W → ℕ → ℕ → Bool
was_sealed w e u = is_some (high_among w.packets e u)

abbrev pub follows_so : W → List Changed → Layout → Layout → Bool
follows_so w cs p q = list_any (changes_so w p q) cs && list_all (was_sealed w q.epoch) (units_of q) && (q.start == new_start p.start (acks_of q (high_of w q.epoch)))

abbrev follows_one : W → List Changed → ℕ × Layout → ℕ × Layout → Bool
follows_one w cs y x = (x.0 + 1 == y.0) && follows_so w cs x.1 y.1

abbrev pub all_follow : W → List Changed → Bool
all_follow w cs = list_all (λ (y : ℕ × Layout). implies (nat_lt 1 y.0) (list_any (follows_one w cs y) (layouts w))) (layouts w)

-- It proves the claim.

high_at : (e h : ℕ) (x : Msg) → high_in e x ≡ Some h → x ≡ msg.Sealed e h
high_at e h (msg.Sealed d k) is = by (d == e) refl is
  where
    by : (b : Bool) → (d == e) ≡ b → where_true b k ≡ Some h → msg.Sealed d k ≡ msg.Sealed e h
    by true t f = let x = same_number d e t in let y = of_some k h f in λ i. msg.Sealed (x i) (y i)
    by false t f = absurd cc
high_at e h x is = absurd cc

by_node : (b : Bool) (o : Option ℕ) (h : ℕ) → (if b then o else None) ≡ Some h → (b ≡ true) × (o ≡ Some h)
by_node true o h e = (refl, e)
by_node false o h e = absurd cc

sealed_among : (w : W) (ps : List Packet) (e u : ℕ) → ((p : Packet) → Has ps p → Has w.packets p) → is_some (high_among ps e u) ≡ true → SealedAt kinds w e u (or_zero (high_among ps e u))
sealed_among w [] e u all h = absurd cc
sealed_among w (p ∷ ps) e u all h = by (high_by e u p) refl (λ t. sealed_among w ps e u (λ q i. all q (inr i)) t) h
  where
    by : (o : Option ℕ) → high_by e u p ≡ o → (is_some (high_among ps e u) ≡ true → SealedAt kinds w e u (or_zero (high_among ps e u)))
        → is_some (or_else o (high_among ps e u)) ≡ true → SealedAt kinds w e u (or_zero (or_else o (high_among ps e u)))
    by None is rest t = rest t
    by (Some h) is rest t =
        let b = by_node (node_eq p.from (unit_id u)) (high_in e p.msg) h is in
        record { packet = p; sent = contained_has w.packets p (all p (inl refl)); from = nodes_same p.from (unit_id u) b.0; says = high_at e h p.msg b.1 }

stripe_had : (w : W) (e : ℕ) (p : Layout) (j : Join) (o : Option Join) → o ≡ Some j → joins_whole w e p o ≡ true → HasStripe kinds w e p j.unit j.range j.stripe
stripe_had w e p j None is h = absurd cc
stripe_had w e p j (Some k) is h =
    let t = subst (λ (o : Option Join). joins_whole w e p o ≡ true) is h in
    let x = found (asks_whole w e p j) w.packets t in
    let b = and_both (node_eq x.it.to (unit_id j.unit) && is_look (has_stripe e p j.range j.stripe) x.it.msg) (list_any (answers_whole j.unit x.it) w.packets) x.passes in
    let c = and_both (node_eq x.it.to (unit_id j.unit)) (is_look (has_stripe e p j.range j.stripe) x.it.msg) b.0 in
    let a = found (answers_whole j.unit x.it) w.packets b.1 in
    let d1 = and_both (node_eq a.it.from (unit_id j.unit) && node_eq a.it.to x.it.from && (a.it.rid == x.it.rid)) (tells_whole a.it.msg) a.passes in
    let d2 = and_both (node_eq a.it.from (unit_id j.unit) && node_eq a.it.to x.it.from) (a.it.rid == x.it.rid) d1.0 in
    let d3 = and_both (node_eq a.it.from (unit_id j.unit)) (node_eq a.it.to x.it.from) d2.0 in
    record {
      asked = x.it;
      answer = a.it;
      was_asked = contained_has w.packets x.it x.has;
      was_answered = contained_has w.packets a.it a.has;
      to = nodes_same x.it.to (unit_id j.unit) c.0;
      look = look_is (has_stripe e p j.range j.stripe) x.it.msg c.1;
      from = nodes_same a.it.from (unit_id j.unit) d3.0;
      back = nodes_same a.it.to x.it.from d3.1;
      number = same_number a.it.rid x.it.rid d2.1;
      whole = whole_is a.it.msg d1.1;
    }

follows_of : (w : W) (cs : List Changed) (p q : Layout) → follows_so w cs p q ≡ true → Follows kinds w p q
follows_of w cs p q h =
    let b = and_both (list_any (changes_so w p q) cs && list_all (was_sealed w q.epoch) (units_of q)) (q.start == new_start p.start (acks_of q (high_of w q.epoch))) h in
    let a = and_both (list_any (changes_so w p q) cs) (list_all (was_sealed w q.epoch) (units_of q)) b.0 in
    let c = found (changes_so w p q) cs a.0 in
    let d = and_both (not (is_some (change_fault p c.it)) && ranges_eq q (next_of p c.it q.by q.start)) (joins_whole w q.epoch p c.it.join) c.passes in
    let f = and_both (not (is_some (change_fault p c.it))) (ranges_eq q (next_of p c.it q.by q.start)) d.0 in
    record {
      change = c.it;
      lawful = is_none (change_fault p c.it) f.0;
      is = layouts_same q (next_of p c.it q.by q.start) f.1;
      high = high_of w q.epoch;
      were_sealed = λ u i. sealed_among w w.packets q.epoch u (λ x y. y) (all_pass (was_sealed w q.epoch) (units_of q) a.1 u (has_contained (units_of q) u i));
      starts = same_number q.start (new_start p.start (acks_of q (high_of w q.epoch))) b.1;
      has_all = λ j is. stripe_had w q.epoch p j c.it.join is d.1;
    }

more_than_one : (e : ℕ) → 0 < e → 1 < e + 1
more_than_one e less = omega (arith, less)

one_more : (a b : ℕ) → a + 1 ≡ b + 1 → a ≡ b
one_more a b e = omega (arith, e)

pub follow_sound : (w : W) (cs : List Changed) → all_follow w cs ≡ true → LayoutsFollow kinds w
follow_sound w cs h e q above decided =
    let y : ℕ × Layout = (e + 1, q) in
    let t = then_so (nat_lt 1 (e + 1)) (list_any (follows_one w cs y) (layouts w))
    (all_pass (λ (z : ℕ × Layout). implies (nat_lt 1 z.0) (list_any (follows_one w cs z) (layouts w))) (layouts w) h y (decided_listed w (e + 1) q decided)) (of_lt 1 (e + 1) (more_than_one e above)) in
    let x = found (follows_one w cs y) (layouts w) t in
    let b = and_both (x.it.0 + 1 == e + 1) (follows_so w cs x.it.1 q) x.passes in
    record {
      before = x.it.1;
      decided_before = subst (λ (n : ℕ). IsDecided kinds w n x.it.1) (one_more x.it.0 e (same_number (x.it.0 + 1) (e + 1) b.0)) (layouts_decided w x.it x.has);
      follows = follows_of w cs x.it.1 q b.1;
    }
