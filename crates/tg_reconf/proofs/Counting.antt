-- How many requests a machine still draws.
use Rattle.std.proofs.Common.{◌≡◌, ℕ, ◌+◌, ◌≤◌, Bool, true, false, List, [], ◌∷◌, length, Option, Some, None, refl, sym, subst, arith}
use Rattle.std.specs.Prelude.{if◌then◌else◌, ◌==◌, ◌&&◌, ◌^◌, nat_lt}
use Rattle.tg_base.specs.Layouts.{Layout}
use Rattle.tg_base.specs.Changes.{Changed}
use Rattle.tg_base.specs.declared.change.Join.{Join}
use Rattle.tg_base.specs.declared.ids.Ballot.{Ballot}
use Rattle.tg_base.specs.declared.ids.NodeId.{NodeId}
use Rattle.tg_base.specs.declared.msg.Msg.{Msg}
use Rattle.tg_base.specs.declared.packet.Packet.{Packet}
use Rattle.tg_protocol.specs.Layouts.{next_units}
use Rattle.tg_protocol.specs.Requests.{Waits, without_wait, awaits, turn, Next, Goes, Learns, Ends}
use Rattle.tg_protocol.specs.Replies.{Reply, IsFenced, IsSealed, IsMissing, IsWhole, IsPromise, IsNack, IsAccepted, IsLatest, IsTail, IsOldEpoch, reply}
use Rattle.tg_protocol.specs.Appending.{names_all}
use Rattle.tg_protocol.specs.Trimming.{learns_if}
use Rattle.tg_protocol.specs.Reconfiguring.{Acks, Before, Stage, Preparing, Accepting, Later, Voting, ReconfWork, SealingSpare, LookingSpare, Sealing, LookingAgain, Agreeing, Telling, Starting, Reconf, ReconfEnd, ReconfTurn, at_work, next_epoch, is_majority, reconf_awaited, seals, seals_if, looks_if, seals_left, sealed_if, after_seals, promised, promised_on, accepted, accepted_on, nacked, sets_if, round_after, round_set, stage_feed, begun, is_answer, later_feed, vote_feed, has_rid, started_if, reconf_feed, reconf_start, first_step, reconf_latest, heard, heard_on, adopts, on_newer, own_decided, is_own}
use Rattle.tg_reconf.specs.Turns.{fed, fed_if}
use Rattle.tg_reconf.specs.Laws.{left_to_propose, left_to_seal, left_of_stage, left_of_later, left_in, left, left_then, cost, StepsAreFew, tells_newer, by_message, by_layout, fed_next, fed_all, cost_then, cost_of, RequestsAreFew, StartsWithFew}

abbrev Few : ReconfTurn → ℕ → Type 0
Few t most = t.next + left_then t.to ≤ most

free : (a b c : ℕ) → a ≤ b → a ≤ b + c
free a b c h = omega (arith, h)

looks_few : (r : Reconf) (k : ℕ) (b : Bool) (n : ℕ) → Few (looks_if (at_work r (SealingSpare k)) n b) (n + left (at_work r (SealingSpare k)))
looks_few r k true n = omega arith
looks_few r k false n = omega arith

spare_seals_few : (r : Reconf) (k : ℕ) (b : Bool) (n : ℕ) → Few (seals_if (at_work r (SealingSpare k)) n b) (n + left (at_work r (SealingSpare k)))
spare_seals_few r k true n = omega arith
spare_seals_few r k false n = omega arith

look_seals_few : (r : Reconf) (k : ℕ) (b : Bool) (n : ℕ) → Few (seals_if (at_work r (LookingSpare k)) n b) (n + left (at_work r (LookingSpare k)))
look_seals_few r k true n = omega arith
look_seals_few r k false n = omega arith

learns_few : (r : Reconf) (b : Bool) (n : ℕ) → Few (learns_if b r n) (n + left r)
learns_few r true n = omega arith
learns_few r false n = omega arith

after_few : (r : Reconf) (ws : Waits) (acks more : Acks) (j : Option Join) (n : ℕ) → Few (after_seals (at_work r (Sealing ws acks)) more n j) (n + left (at_work r (Sealing ws acks)))
after_few r ws acks more None n = omega arith
after_few r ws acks more (Some j) n = omega arith

left_few : (r : Reconf) (ws vs : Waits) (acks more : Acks) (n : ℕ) → Few (seals_left (at_work r (Sealing ws acks)) vs more n) (n + left (at_work r (Sealing ws acks)))
left_few r ws [] acks more n = after_few r ws acks more r.change.join n
left_few r ws (v ∷ vs) acks more n = omega arith

sealed_few : (r : Reconf) (ws : Waits) (acks : Acks) (u h : ℕ) (b : Bool) (n : ℕ) → Few (sealed_if (at_work r (Sealing ws acks)) u h ws acks n b) (n + left (at_work r (Sealing ws acks)))
sealed_few r ws acks u h true n = left_few r ws (without_wait u ws) acks ((u, h) ∷ acks) n
sealed_few r ws acks u h false n = omega arith

again_few : (r : Reconf) (k : ℕ) (acks : Acks) (rid u n : ℕ) → Few (reconf_feed (at_work r (LookingAgain k acks)) (LookingAgain k acks) u rid IsWhole n) (n + left (at_work r (LookingAgain k acks)))
unfolding reconf_feed
again_few r k acks rid u n = omega arith

-- Votes. A round may be fed while the machine still names another.

abbrev left_of : Reconf → Stage → Option Later → ℕ
left_of r s l = left_of_stage r s + left_of_later r l

promised_few : (r : Reconf) (v : Voting) (ws vs : Waits) (ps qs : List Before) (b : Bool) (n : ℕ) → Few (promised_on r v vs qs n b) (n + left_of r (Preparing ws ps) v.later)
promised_few r v ws vs ps qs true n = omega arith
promised_few r v ws vs ps qs false n = omega arith

accepted_few : (r : Reconf) (v : Voting) (ws vs : Waits) (k j : ℕ) (q : Layout) (b : Bool) (n : ℕ) → Few (accepted_on r v vs j q n b) (n + left_of r (Accepting ws k q) v.later)
accepted_few r v ws vs k j q true n = omega arith
accepted_few r v ws vs k j q false n = omega arith

sets_few : (r : Reconf) (v : Voting) (round : ℕ) (b : Bool) (n : ℕ) → Few (sets_if r v round n b) (n + left_of r v.stage v.later + (r.layouts + r.layouts))
sets_few r v round true n = omega arith
sets_few r v round false n = omega arith

promise_if : (r : Reconf) (v : Voting) (u : ℕ) (a : Before) (ws : Waits) (ps : List Before) (t : Bool) (n most : ℕ) →
    n + left r ≤ most → n + left_of r (Preparing ws ps) v.later ≤ most → Few (if t then promised r v u a ws ps n else turn n (Goes r)) most
promise_if r v u a ws ps true n most p q = let h = promised_few r v ws (without_wait u ws) ps (a ∷ ps) (is_majority r (length (a ∷ ps))) n in omega (arith, h, q)
promise_if r v u a ws ps false n most p q = p

accept_if : (r : Reconf) (v : Voting) (u : ℕ) (ws : Waits) (k : ℕ) (l : Layout) (t : Bool) (n most : ℕ) →
    n + left r ≤ most → n + left_of r (Accepting ws k l) v.later ≤ most → Few (if t then accepted r v u ws k l n else turn n (Goes r)) most
accept_if r v u ws k l true n most p q = let h = accepted_few r v ws (without_wait u ws) k (k + 1) l (is_majority r (k + 1)) n in omega (arith, h, q)
accept_if r v u ws k l false n most p q = p

nack_if : (r : Reconf) (v : Voting) (b : Ballot) (t : Bool) (n most : ℕ) →
    n + left r ≤ most → n + left_of r v.stage v.later ≤ most → Few (if t then nacked r v b n else turn n (Goes r)) (most + (r.layouts + r.layouts))
nack_if r v b true n most p q = let h = sets_few r v (round_after v b) (nat_lt (round_set v.later) (round_after v b) && nat_lt (round_after v b) (2 ^ 32)) n in omega (arith, h, q)
nack_if r v b false n most p q = omega (arith, p)

stage_few : (r : Reconf) (v : Voting) (s : Stage) (u : ℕ) (x : Reply) (n most : ℕ) → s ≡ v.stage →
    n + left r ≤ most → n + left_of r s v.later ≤ most → Few (stage_feed r v s u x n) (most + cost r x)
stage_few r v (Preparing ws ps) u (IsPromise e b a) n most is p q = free _ most 0 (promise_if r v u a ws ps _ n most p q)
stage_few r v (Accepting ws k l) u (IsAccepted e b) n most is p q = free _ most 0 (accept_if r v u ws k l _ n most p q)
stage_few r v (Preparing ws ps) u (IsNack e b) n most is p q = nack_if r v b _ n most p (subst (λ s. n + left_of r s v.later ≤ most) is q)
stage_few r v (Accepting ws k l) u (IsNack e b) n most is p q = nack_if r v b _ n most p (subst (λ s. n + left_of r s v.later ≤ most) is q)
stage_few r v _ u _ n most is p q = free _ most _ p

later_few : (r : Reconf) (v : Voting) (l : Later) (u : ℕ) (x : Reply) (b : Bool) (n most : ℕ) →
    n + left r ≤ most → n + left_of r (begun v l).stage None ≤ most → Few (later_feed r v l u x n b) (most + cost r x)
later_few r v l u x true n most p q = stage_few r (begun v l) (begun v l).stage u x n most refl p q
later_few r v l u x false n most p q = free _ most _ p

begun_few : (r : Reconf) (v : Voting) (l : Later) (s : Stage) (n : ℕ) → n + left_of r (begun v l).stage None ≤ n + left_of r s (Some l)
begun_few r v l (Preparing ws ps) n = omega arith
begun_few r v l (Accepting ws k q) n = omega arith

set_few : (r : Reconf) (v : Voting) (l : Later) (u : ℕ) (x : Reply) (b : Bool) (n most : ℕ) → n + left r ≤ most → n + left_of r v.stage v.later ≤ most →
    n + left_of r (begun v l).stage None ≤ most → Few (if b then later_feed r v l u x n (is_answer r l x) else stage_feed r v v.stage u x n) (most + cost r x)
set_few r v l u x true n most p q g = later_few r v l u x (is_answer r l x) n most p g
set_few r v l u x false n most p q g = stage_few r v v.stage u x n most refl p q

vote_few : (r : Reconf) (v : Voting) (o : Option Later) (u rid : ℕ) (x : Reply) (n most : ℕ) → o ≡ v.later → n + left r ≤ most → n + left_of r v.stage v.later ≤ most →
    Few (vote_feed r v o u rid x n) (most + cost r x)
vote_few r v None u rid x n most is p q = stage_few r v v.stage u x n most refl p q
vote_few r v (Some l) u rid x n most is p q =
    let more : n + left_of r v.stage (Some l) ≤ most = subst (λ z. n + left_of r v.stage z ≤ most) (sym is) q in
    let less = begun_few r v l v.stage n in
    set_few r v l u x (has_rid u rid l.waits) n most p q (omega (arith, less, more))

started_few : (r : Reconf) (b : Bool) (n : ℕ) → Few (started_if r n b) (n + left r)
started_few r true n = omega arith
started_few r false n = omega arith

ends_few : (n k : ℕ) → n + 0 ≤ n + k
ends_few n k = omega arith

look_few : (r : Reconf) (k n : ℕ) → Few (seals (at_work r (LookingSpare k)) n) (n + left (at_work r (LookingSpare k)))
look_few r k n = omega arith

feed_few : (r : Reconf) (w : ReconfWork) (u rid : ℕ) (x : Reply) (n : ℕ) → Few (reconf_feed (at_work r w) w u rid x n) (n + left (at_work r w) + cost r x)
unfolding reconf_feed
feed_few r (SealingSpare k) u rid (IsSealed e h) n = free _ _ 0 (looks_few r k _ n)
feed_few r (SealingSpare k) u rid (IsFenced e) n = free _ _ 0 (spare_seals_few r k _ n)
feed_few r (LookingSpare k) u rid IsWhole n = free _ _ 0 (look_few r k n)
feed_few r (LookingSpare k) u rid (IsMissing pos) n = free _ _ 0 (ends_few n _)
feed_few r (LookingSpare k) u rid (IsFenced e) n = free _ _ 0 (look_seals_few r k _ n)
feed_few r (Sealing ws acks) u rid (IsSealed e h) n = free _ _ 0 (sealed_few r ws acks u h _ n)
feed_few r (Sealing ws acks) u rid (IsFenced e) n = free _ _ 0 (learns_few (at_work r (Sealing ws acks)) _ n)
feed_few r (LookingAgain k acks) u rid IsWhole n = free _ _ 0 (again_few r k acks rid u n)
feed_few r (LookingAgain k acks) u rid (IsMissing pos) n = free _ _ 0 (ends_few n _)
feed_few r (LookingAgain k acks) u rid (IsFenced e) n = free _ _ 0 (learns_few (at_work r (LookingAgain k acks)) _ n)
feed_few r (Agreeing v) u rid x n = vote_few (at_work r (Agreeing v)) v v.later u rid x n _ refl (omega arith) (omega arith)
feed_few r (Starting k) u rid (IsTail t ls) n = free _ _ 0 (started_few (at_work r (Starting k)) _ n)
feed_few r (Starting k) u rid (IsOldEpoch e) n = free _ _ 0 (learns_few (at_work r (Starting k)) _ n)
feed_few r w u rid x n = free _ _ _ (omega arith)

fed_few_if : (b : Bool) (r : Reconf) (u rid : ℕ) (m : Msg) (n : ℕ) → Few (fed_if b r u rid m n) (n + left r + cost r (reply m))
fed_few_if true r u rid m n = feed_few r r.work u rid (reply m) n
fed_few_if false r u rid m n = omega arith

fed_few : (r : Reconf) (from : NodeId) (rid : ℕ) (m : Msg) (n : ℕ) → Few (fed r from rid m n) (n + left r + cost r (reply m))
fed_few r from rid m n = fed_few_if (awaits (reconf_awaited r) from rid) r from.num rid m n

-- Layouts.

adopts_few : (r : Reconf) (q : Layout) (b : Bool) (n : ℕ) → Few (adopts r q n b) (n + 1)
adopts_few r q true n = omega arith
adopts_few r q false n = omega arith

heard_few : (r : Reconf) (ws : Waits) (k : ℕ) (q : Layout) (b : Bool) (n : ℕ) → Few (heard_on r ws k q n b) (n + 1)
heard_few r ws k q true n = adopts_few r q (q.by == r.me) n
heard_few r ws k q false n = omega arith

-- telling costs the servers' requests and one more, which is left before all that comes before it
tells_few : (r : Reconf) (w : ReconfWork) (q : Layout) (n : ℕ) → r.layouts + 1 ≤ left_in r w → Few (own_decided (at_work r w) w q n) (n + left_in r w)
tells_few r (SealingSpare k) q n h = omega (arith, h)
tells_few r (LookingSpare k) q n h = omega (arith, h)
tells_few r (Sealing ws acks) q n h = omega (arith, h)
tells_few r (LookingAgain k acks) q n h = omega (arith, h)
tells_few r (Agreeing v) q n h = omega (arith, h)
tells_few r (Telling ws k p) q n h = omega arith
tells_few r (Starting k) q n h = omega (arith, h)

vote_left : (r : Reconf) (s : Stage) (l : Option Later) → r.layouts + 1 ≤ left_of_stage r s + left_of_later r l
vote_left r (Preparing ws ps) l = omega arith
vote_left r (Accepting ws k q) l = omega arith

newer_few : (r : Reconf) (w : ReconfWork) (q : Layout) (b : Bool) (n : ℕ) → r.layouts + 1 ≤ left_in r w → Few (on_newer (at_work r w) q n b) (n + left_in r w)
newer_few r w q true n h = tells_few r w q n h
newer_few r w q false n h = ends_few n _

told_newer_few : (r : Reconf) (ws : Waits) (k : ℕ) (p q : Layout) (b : Bool) (n : ℕ) → Few (on_newer (at_work r (Telling ws k p)) q n b) (n + 1)
told_newer_few r ws k p q true n = omega arith
told_newer_few r ws k p q false n = omega arith

told_few : (r : Reconf) (ws : Waits) (k u : ℕ) (p q : Layout) (b : Bool) (n : ℕ) →
    Few (if b then heard (at_work r (Telling ws k p)) u ws k p n else on_newer (at_work r (Telling ws k p)) q n (is_own r q)) (n + 1)
told_few r ws k u p q true n = heard_few (at_work r (Telling ws k p)) (without_wait u ws) (k + 1) p (is_majority r (k + 1)) n
told_few r ws k u p q false n = told_newer_few r ws k p q (is_own r q) n

layout_few : (r : Reconf) (w : ReconfWork) (u rid : ℕ) (q : Layout) (n : ℕ) → Few (reconf_latest (at_work r w) w u rid q n) (n + left_in r w)
unfolding reconf_latest
layout_few r (SealingSpare k) u rid q n = newer_few r (SealingSpare k) q _ n (omega arith)
layout_few r (LookingSpare k) u rid q n = newer_few r (LookingSpare k) q _ n (omega arith)
layout_few r (Sealing ws acks) u rid q n = newer_few r (Sealing ws acks) q _ n (omega arith)
layout_few r (LookingAgain k acks) u rid q n = newer_few r (LookingAgain k acks) q _ n (omega arith)
layout_few r (Agreeing v) u rid q n = newer_few r (Agreeing v) q _ n (vote_left r v.stage v.later)
layout_few r (Telling ws k p) u rid q n = told_few r ws k u p q _ n
layout_few r (Starting k) u rid q n = omega arith

latest_few : (r : Reconf) (u rid : ℕ) (q : Layout) (n : ℕ) → Few (reconf_latest r r.work u rid q n) (n + left r)
latest_few r u rid q n = layout_few r r.work u rid q n

pub steps_are_few : StepsAreFew
steps_are_few = record { answers = fed_few; layouts = latest_few }

-- Runs.

layout_or_fed : (r : Reconf) (p : Packet) (q : Layout) (b : Bool) (n : ℕ) →
    Few (if b then reconf_latest r r.work p.from.num p.rid q n else fed r p.from p.rid p.msg n) (n + left r + cost r (reply p.msg))
layout_or_fed r p q true n = free _ _ _ (latest_few r p.from.num p.rid q n)
layout_or_fed r p q false n = fed_few r p.from p.rid p.msg n

message_few : (r : Reconf) (p : Packet) (x : Reply) (n : ℕ) → Few (by_message r p x n) (n + left r + cost r (reply p.msg))
message_few r p (IsLatest q) n = layout_or_fed r p q (tells_newer r p.from q) n
message_few r p _ n = fed_few r p.from p.rid p.msg n

layout_or_learns : (r : Reconf) (p : Packet) (q : Layout) (b : Bool) (n : ℕ) → Few (if b then reconf_latest r r.work p.from.num p.rid q n else turn n (Learns r)) (n + left r + 0)
layout_or_learns r p q true n = free _ _ 0 (latest_few r p.from.num p.rid q n)
layout_or_learns r p q false n = omega arith

learning_few : (r : Reconf) (p : Packet) (x : Reply) (n : ℕ) → Few (by_layout r p x n) (n + left r + 0)
learning_few r p (IsLatest q) n = layout_or_learns r p q (tells_newer r p.from q) n
learning_few r p _ n = omega arith

next_few : (x : Next Reconf ReconfEnd) (p : Packet) (n : ℕ) → Few (fed_next x p n) (n + left_then x + cost_then x (reply p.msg))
next_few (Goes r) p n = message_few r p (reply p.msg) n
next_few (Learns r) p n = learning_few r p (reply p.msg) n
next_few (Ends e) p n = omega arith

all_few : (x : Next Reconf ReconfEnd) (ps : List Packet) (n : ℕ) → (fed_all x ps n).next ≤ n + left_then x + cost_of x ps n
unfolding fed_all cost_of
all_few x [] n = omega arith
all_few x (p ∷ ps) n =
    let one : (fed_next x p n).next + left_then (fed_next x p n).to ≤ n + left_then x + cost_then x (reply p.msg) = next_few x p n in
    let rest : (fed_all (fed_next x p n).to ps (fed_next x p n).next).next ≤ (fed_next x p n).next + left_then (fed_next x p n).to + cost_of (fed_next x p n).to ps (fed_next x p n).next =
    all_few (fed_next x p n).to ps (fed_next x p n).next in
    omega (arith, one, rest)

pub requests_are_few : RequestsAreFew
requests_are_few r ps n = all_few (Goes r) ps n

first_few : (p : Layout) (layouts : ℕ) (c : Changed) (me : ℕ) (j : Option Join) (n : ℕ) →
    Few (first_step (record { change = c; me = me; layouts = layouts; stand = p; work = SealingSpare 0 }) n j) (n + 3 + length (next_units p c) + layouts + layouts + layouts + 1)
first_few p layouts c me None n = omega arith
first_few p layouts c me (Some j) n = omega arith

pub starts_with_few : StartsWithFew
unfolding reconf_start
starts_with_few p layouts c me n = first_few p layouts c me c.join n
