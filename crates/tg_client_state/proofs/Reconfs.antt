-- The numbers of a reconfiguration.
use Rattle.std.proofs.Common.{◌≡◌, ℕ, ◌+◌, ◌≤◌, Bool, true, false, List, [], ◌∷◌, ◌++◌, length, Option, Some, None, refl, sym, ◌∙◌, arith}
use Rattle.std.specs.Prelude.{nat_lt, nat_le, if◌then◌else◌}
use Rattle.std.proofs.lemmas.List.Folds.{list_all-append}
use Rattle.tg_base.proofs.Exact.{and-left, both}
use Rattle.tg_base.specs.Layouts.{Layout}
use Rattle.tg_base.specs.Changes.{Changed}
use Rattle.tg_base.specs.declared.change.Join.{Join}
use Rattle.tg_base.specs.declared.ids.Ballot.{Ballot}
use Rattle.tg_base.specs.declared.ids.NodeId.{NodeId}
use Rattle.tg_base.specs.declared.msg.Msg.{Msg}
use Rattle.tg_base.specs.declared.packet.Out.{Out}
use Rattle.tg_protocol.specs.Words.{unit_id}
use Rattle.tg_protocol.specs.Layouts.{next_units}
use Rattle.tg_protocol.specs.Requests.{out, Waits, without_wait, awaits, turn, Next, Goes, Learns, Ends}
use Rattle.tg_protocol.specs.Replies.{Reply, IsFenced, IsSealed, IsMissing, IsWhole, IsPromise, IsNack, IsAccepted, IsTail, IsOldEpoch, reply}
use Rattle.tg_protocol.specs.Trimming.{learns_if}
use Rattle.tg_protocol.specs.Reconfiguring.{Acks, Before, Stage, Preparing, Accepting, Later, Voting, ReconfWork, SealingSpare, LookingSpare, Sealing, LookingAgain, Agreeing, Telling, Starting, Reconf, ReconfEnd, ReconfTurn, join_asks, reconf_asks, reconf_awaited, reconf_work_asks, later_asks, seals, seals_if, looks_if, seals_left, sealed_if, after_seals, proposes, promised, promised_on, accepted, accepted_on, tells, nacked, sets_if, round_after, stage_feed, begun, is_answer, later_feed, vote_feed, started_if, reconf_feed, reconf_start, first_step, reconf_latest, heard, heard_on, adopts, on_newer, own_decided, is_own}
use Rattle.tg_reconf.specs.Turns.{all_drawn, AreDrawn, StayDrawn, fed, fed_if}
use Rattle.tg_reconf.proofs.Staying.{begun_stays, fed_stays, latest_stays}
use Rattle.tg_client_state.specs.Numbers.{ThenDrawn, ThenFresh, all_from}
use Rattle.tg_client_state.specs.Laws.{ReconfNumbers}
use Rattle.tg_client_state.proofs.Steps.{one_from, each_from, Plain, plain_fits, plain_begins}

-- No number is taken back, and nothing goes besides.

pub record Sends (old : ℕ) (t : ReconfTurn) : Type 0 where
  pub grows : old ≤ t.next
  pub none : t.besides ≡ []

sends_at : (n k : ℕ) (x : Next Reconf ReconfEnd) → n ≤ k → Sends n (turn k x)
sends_at n k x le = record { grows = le; none = refl }

seals_send : (r : Reconf) (n : ℕ) → Sends n (seals r n)
seals_send r n = sends_at n (n + length (next_units r.stand r.change)) _ (omega arith)

seals_if_send : (r : Reconf) (n : ℕ) (b : Bool) → Sends n (seals_if r n b)
seals_if_send r n true = seals_send r n
seals_if_send r n false = sends_at n n _ (omega arith)

looks_send : (r : Reconf) (n : ℕ) (b : Bool) → Sends n (looks_if r n b)
looks_send r n true = sends_at n (n + 1) _ (omega arith)
looks_send r n false = sends_at n n _ (omega arith)

learns_send : (r : Reconf) (n : ℕ) (b : Bool) → Sends n (learns_if b r n)
learns_send r n true = sends_at n n _ (omega arith)
learns_send r n false = sends_at n n _ (omega arith)

proposes_send : (r : Reconf) (acks : Acks) (n : ℕ) → Sends n (proposes r acks n)
proposes_send r acks n = sends_at n (n + r.layouts) _ (omega arith)

after_send : (r : Reconf) (acks : Acks) (n : ℕ) (j : Option Join) → Sends n (after_seals r acks n j)
after_send r acks n None = proposes_send r acks n
after_send r acks n (Some j) = sends_at n (n + 1) _ (omega arith)

left_send : (r : Reconf) (ws : Waits) (acks : Acks) (n : ℕ) → Sends n (seals_left r ws acks n)
left_send r [] acks n = after_send r acks n r.change.join
left_send r (w ∷ ws) acks n = sends_at n n _ (omega arith)

sealed_send : (r : Reconf) (u h : ℕ) (ws : Waits) (acks : Acks) (n : ℕ) (b : Bool) → Sends n (sealed_if r u h ws acks n b)
sealed_send r u h ws acks n true = left_send r (without_wait u ws) ((u, h) ∷ acks) n
sealed_send r u h ws acks n false = sends_at n n _ (omega arith)

promised_send : (r : Reconf) (v : Voting) (ws : Waits) (ps : List Before) (n : ℕ) (b : Bool) → Sends n (promised_on r v ws ps n b)
promised_send r v ws ps n true = sends_at n (n + r.layouts) _ (omega arith)
promised_send r v ws ps n false = sends_at n n _ (omega arith)

tells_send : (r : Reconf) (q : Layout) (n : ℕ) → Sends n (tells r q n)
tells_send r q n = sends_at n (n + r.layouts) _ (omega arith)

accepted_send : (r : Reconf) (v : Voting) (ws : Waits) (k : ℕ) (q : Layout) (n : ℕ) (b : Bool) → Sends n (accepted_on r v ws k q n b)
accepted_send r v ws k q n true = tells_send r q n
accepted_send r v ws k q n false = sends_at n n _ (omega arith)

sets_send : (r : Reconf) (v : Voting) (round n : ℕ) (b : Bool) → Sends n (sets_if r v round n b)
sets_send r v round n true = sends_at n (n + r.layouts) _ (omega arith)
sets_send r v round n false = sends_at n n _ (omega arith)

promise_send : (r : Reconf) (v : Voting) (u : ℕ) (a : Before) (ws : Waits) (ps : List Before) (n : ℕ) (b : Bool) → Sends n (if b then promised r v u a ws ps n else turn n (Goes r))
promise_send r v u a ws ps n true = promised_send r v (without_wait u ws) (a ∷ ps) n _
promise_send r v u a ws ps n false = sends_at n n _ (omega arith)

accept_send : (r : Reconf) (v : Voting) (u : ℕ) (ws : Waits) (k : ℕ) (q : Layout) (n : ℕ) (b : Bool) → Sends n (if b then accepted r v u ws k q n else turn n (Goes r))
accept_send r v u ws k q n true = accepted_send r v (without_wait u ws) (k + 1) q n _
accept_send r v u ws k q n false = sends_at n n _ (omega arith)

nack_send : (r : Reconf) (v : Voting) (b : Ballot) (n : ℕ) (c : Bool) → Sends n (if c then nacked r v b n else turn n (Goes r))
nack_send r v b n true = sets_send r v (round_after v b) n _
nack_send r v b n false = sends_at n n _ (omega arith)

stage_send : (r : Reconf) (v : Voting) (s : Stage) (u : ℕ) (x : Reply) (n : ℕ) → Sends n (stage_feed r v s u x n)
stage_send r v (Preparing ws ps) u (IsPromise e b a) n = promise_send r v u a ws ps n _
stage_send r v (Preparing ws ps) u (IsNack e b) n = nack_send r v b n _
stage_send r v (Preparing ws ps) u _ n = sends_at n n _ (omega arith)
stage_send r v (Accepting ws k q) u (IsAccepted e b) n = accept_send r v u ws k q n _
stage_send r v (Accepting ws k q) u (IsNack e b) n = nack_send r v b n _
stage_send r v (Accepting ws k q) u _ n = sends_at n n _ (omega arith)

later_send : (r : Reconf) (v : Voting) (l : Later) (u : ℕ) (x : Reply) (n : ℕ) (b : Bool) → Sends n (later_feed r v l u x n b)
later_send r v l u x n true = stage_send r (begun v l) (begun v l).stage u x n
later_send r v l u x n false = sends_at n n _ (omega arith)

set_send : (r : Reconf) (v : Voting) (l : Later) (u : ℕ) (x : Reply) (n : ℕ) (b : Bool) → Sends n (if b then later_feed r v l u x n (is_answer r l x) else stage_feed r v v.stage u x n)
set_send r v l u x n true = later_send r v l u x n _
set_send r v l u x n false = stage_send r v v.stage u x n

vote_send : (r : Reconf) (v : Voting) (o : Option Later) (u rid : ℕ) (x : Reply) (n : ℕ) → Sends n (vote_feed r v o u rid x n)
vote_send r v None u rid x n = stage_send r v v.stage u x n
vote_send r v (Some l) u rid x n = set_send r v l u x n _

started_send : (r : Reconf) (n : ℕ) (b : Bool) → Sends n (started_if r n b)
started_send r n true = sends_at n n _ (omega arith)
started_send r n false = sends_at n n _ (omega arith)

feed_send : (r : Reconf) (w : ReconfWork) (u rid : ℕ) (x : Reply) (n : ℕ) → Sends n (reconf_feed r w u rid x n)
unfolding reconf_feed
feed_send r (SealingSpare k) u rid (IsSealed e h) n = looks_send r n _
feed_send r (SealingSpare k) u rid (IsFenced e) n = seals_if_send r n _
feed_send r (LookingSpare k) u rid IsWhole n = seals_send r n
feed_send r (LookingSpare k) u rid (IsMissing pos) n = sends_at n n _ (omega arith)
feed_send r (LookingSpare k) u rid (IsFenced e) n = seals_if_send r n _
feed_send r (Sealing ws acks) u rid (IsSealed e h) n = sealed_send r u h ws acks n _
feed_send r (Sealing ws acks) u rid (IsFenced e) n = learns_send r n _
feed_send r (LookingAgain k acks) u rid IsWhole n = proposes_send r acks n
feed_send r (LookingAgain k acks) u rid (IsMissing pos) n = sends_at n n _ (omega arith)
feed_send r (LookingAgain k acks) u rid (IsFenced e) n = learns_send r n _
feed_send r (Agreeing v) u rid x n = vote_send r v v.later u rid x n
feed_send r (Starting k) u rid (IsTail t ls) n = started_send r n _
feed_send r (Starting k) u rid (IsOldEpoch e) n = learns_send r n _
feed_send r _ u rid _ n = sends_at n n _ (omega arith)

if_send : (b : Bool) (r : Reconf) (u rid : ℕ) (m : Msg) (n : ℕ) → Sends n (fed_if b r u rid m n)
if_send true r u rid m n = feed_send r r.work u rid (reply m) n
if_send false r u rid m n = sends_at n n _ (omega arith)

pub fed_send : (r : Reconf) (from : NodeId) (rid : ℕ) (m : Msg) (n : ℕ) → Sends n (fed r from rid m n)
fed_send r from rid m n = if_send (awaits (reconf_awaited r) from rid) r from.num rid m n

first_send : (r : Reconf) (n : ℕ) (j : Option Join) → Sends n (first_step r n j)
first_send r n None = seals_send r n
first_send r n (Some j) = sends_at n (n + 1) _ (omega arith)

start_send : (p : Layout) (layouts : ℕ) (c : Changed) (me n : ℕ) → Sends n (reconf_start p layouts c me n)
unfolding reconf_start
start_send p layouts c me n = first_send (record { change = c; me = me; layouts = layouts; stand = p; work = SealingSpare 0 }) n c.join

adopts_send : (r : Reconf) (q : Layout) (n : ℕ) (b : Bool) → Sends n (adopts r q n b)
adopts_send r q n true = sends_at n (n + 1) _ (omega arith)
adopts_send r q n false = sends_at n n _ (omega arith)

heard_send : (r : Reconf) (ws : Waits) (k : ℕ) (q : Layout) (n : ℕ) (b : Bool) → Sends n (heard_on r ws k q n b)
heard_send r ws k q n true = adopts_send r q n _
heard_send r ws k q n false = sends_at n n _ (omega arith)

own_send : (r : Reconf) (w : ReconfWork) (q : Layout) (n : ℕ) → Sends n (own_decided r w q n)
own_send r (Telling ws k p) q n = sends_at n n _ (omega arith)
own_send r _ q n = tells_send r q n

newer_send : (r : Reconf) (q : Layout) (n : ℕ) (b : Bool) → Sends n (on_newer r q n b)
newer_send r q n true = own_send r r.work q n
newer_send r q n false = sends_at n n _ (omega arith)

told_send : (r : Reconf) (ws : Waits) (k u : ℕ) (p q : Layout) (n : ℕ) (b : Bool) → Sends n (if b then heard r u ws k p n else on_newer r q n (is_own r q))
told_send r ws k u p q n true = heard_send r (without_wait u ws) (k + 1) p n _
told_send r ws k u p q n false = newer_send r q n _

pub latest_send : (r : Reconf) (w : ReconfWork) (u rid : ℕ) (q : Layout) (n : ℕ) → Sends n (reconf_latest r w u rid q n)
unfolding reconf_latest
latest_send r (Starting k) u rid q n = sends_at n n _ (omega arith)
latest_send r (Telling ws k p) u rid q n = told_send r ws k u p q n _
latest_send r w u rid q n = newer_send r q n _

-- What is awaited was drawn, and so is what is sent.

awaits_drawn : (n : ℕ) (x : Next Reconf ReconfEnd) → StayDrawn n x → ThenDrawn reconf_awaited n x
awaits_drawn n (Goes r) h = h.all
awaits_drawn n (Learns r) h = h.all
awaits_drawn n (Ends e) h = tt

part_drawn : (r : Reconf) (n : ℕ) → all_drawn n (reconf_awaited r) ≡ true → all_drawn n (reconf_asks r) ≡ true
part_drawn r n h = and-left _ _ (sym (list_all-append (λ o. nat_lt o.rid n) (reconf_asks r) (later_asks r r.work)) ∙ h)

asks_drawn : (n : ℕ) (x : Next Reconf ReconfEnd) → ThenDrawn reconf_awaited n x → ThenDrawn reconf_asks n x
asks_drawn n (Goes r) h = part_drawn r n h
asks_drawn n (Learns r) h = part_drawn r n h
asks_drawn n (Ends e) h = tt

awaits_plain : (n : ℕ) (t : ReconfTurn) → Sends n t → StayDrawn t.next t.to → Plain reconf_awaited n t
awaits_plain n t s h = record { grows = s.grows; none = s.none; drawn = awaits_drawn t.next t.to h }

asks_plain : (n : ℕ) (t : ReconfTurn) → Sends n t → StayDrawn t.next t.to → Plain reconf_asks n t
asks_plain n t s h = record { grows = s.grows; none = s.none; drawn = asks_drawn t.next t.to (awaits_drawn t.next t.to h) }

are : (r : Reconf) (n : ℕ) → all_drawn n (reconf_awaited r) ≡ true → AreDrawn n r
are r n h = record { all = h }

-- A reconfiguration that begins.

from_more : (xs : List Out) (n : ℕ) → all_from n xs ≡ true → all_from n (xs ++ []) ≡ true
from_more xs n h = list_all-append (λ o. nat_le n o.rid) xs [] ∙ both _ _ h refl

joined_from : (j : Option Join) (m : Join → Msg) (n : ℕ) → all_from n (join_asks j (λ x. out (unit_id x.unit) n (m x) ∷ [])) ≡ true
joined_from None m n = refl
joined_from (Some j) m n = one_from n

seals_fresh : (r : Reconf) (n : ℕ) → ThenFresh reconf_asks n (seals r n).to
unfolding reconf_work_asks
seals_fresh r n = each_from unit_id _ (next_units r.stand r.change) n

seals_await : (r : Reconf) (n : ℕ) → ThenFresh reconf_awaited n (seals r n).to
unfolding reconf_work_asks
seals_await r n = from_more _ n (each_from unit_id _ (next_units r.stand r.change) n)

first_fresh : (r : Reconf) (n : ℕ) (j : Option Join) → ThenFresh reconf_asks n (first_step r n j).to
unfolding reconf_work_asks
first_fresh r n None = seals_fresh r n
first_fresh r n (Some j) = joined_from r.change.join _ n

first_await : (r : Reconf) (n : ℕ) (j : Option Join) → ThenFresh reconf_awaited n (first_step r n j).to
unfolding reconf_work_asks
first_await r n None = seals_await r n
first_await r n (Some j) = from_more _ n (joined_from r.change.join _ n)

start_fresh : (p : Layout) (layouts : ℕ) (c : Changed) (me n : ℕ) → ThenFresh reconf_asks n (reconf_start p layouts c me n).to
unfolding reconf_start
start_fresh p layouts c me n = first_fresh (record { change = c; me = me; layouts = layouts; stand = p; work = SealingSpare 0 }) n c.join

start_await : (p : Layout) (layouts : ℕ) (c : Changed) (me n : ℕ) → ThenFresh reconf_awaited n (reconf_start p layouts c me n).to
unfolding reconf_start
start_await p layouts c me n = first_await (record { change = c; me = me; layouts = layouts; stand = p; work = SealingSpare 0 }) n c.join

pub reconf_numbers : ReconfNumbers
reconf_numbers = record {
  start = λ p layouts c me n. plain_begins reconf_asks n _ (asks_plain n _ (start_send p layouts c me n) (begun_stays p layouts c me n)) (start_fresh p layouts c me n);
  start_awaits = λ p layouts c me n. plain_begins reconf_awaited n _ (awaits_plain n _ (start_send p layouts c me n) (begun_stays p layouts c me n)) (start_await p layouts c me n);
  fed = λ r from rid m n h. plain_fits reconf_asks n _ (asks_plain n _ (fed_send r from rid m n) (fed_stays r from rid m n (are r n h)));
  fed_awaits = λ r from rid m n h. plain_fits reconf_awaited n _ (awaits_plain n _ (fed_send r from rid m n) (fed_stays r from rid m n (are r n h)));
  latest = λ r u rid q n h. plain_fits reconf_asks n _ (asks_plain n _ (latest_send r r.work u rid q n) (latest_stays r u rid q n (are r n h)));
  latest_awaits = λ r u rid q n h. plain_fits reconf_awaited n _ (awaits_plain n _ (latest_send r r.work u rid q n) (latest_stays r u rid q n (are r n h)));
}
