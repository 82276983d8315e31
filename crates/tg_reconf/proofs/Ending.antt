-- On which answers and layouts a machine ends or waits to learn, and whose sequencer it starts.
use Rattle.std.proofs.Common.{◌≡◌, ◌⊎◌, ℕ, ◌+◌, ◌<◌, Bool, true, false, ◌&&◌, List, [], ◌∷◌, ◌++◌, length, Option, Some, None, refl, sym, ap, subst, inl, inr, ◌∙◌, arith}
use Rattle.std.specs.Prelude.{nat_lt, ◌==◌, if◌then◌else◌}
use Rattle.std.proofs.lemmas.Bool.{ltb-true, eqb-true}
use Rattle.tg_base.proofs.Exact.{and-left, and-right}
use Rattle.tg_base.specs.Layouts.{Layout}
use Rattle.tg_base.specs.Changes.{Changed}
use Rattle.tg_base.specs.declared.change.Join.{Join}
use Rattle.tg_base.specs.declared.ids.Ballot.{Ballot}
use Rattle.tg_base.specs.declared.ids.NodeId.{NodeId}
use Rattle.tg_base.specs.declared.marks.StreamLink.{StreamLink}
use Rattle.tg_base.specs.declared.msg.Msg.{Msg}
use Rattle.tg_protocol.specs.Requests.{Waits, without_wait, awaits, turn, Next, Goes, Learns, Ends}
use Rattle.tg_protocol.specs.Replies.{Reply, IsFenced, IsSealed, IsMissing, IsWhole, IsPromise, IsNack, IsAccepted, IsTail, IsOldEpoch, reply}
use Rattle.tg_protocol.specs.Appending.{names_all}
use Rattle.tg_protocol.specs.Trimming.{learns_if}
use Rattle.tg_protocol.specs.Reconfiguring.{Acks, Before, Stage, Preparing, Accepting, Later, Voting, ReconfWork, SealingSpare, LookingSpare, Sealing, LookingAgain, Agreeing, Telling, Starting, Reconf, ReconfEnd, Installed, Overtaken, NotWhole, ReconfTurn, at_work, next_epoch, is_majority, reconf_awaited, seals, seals_if, looks_if, seals_left, sealed_if, after_seals, promised, promised_on, accepted, accepted_on, nacked, sets_if, round_after, stage_feed, begun, is_answer, later_feed, vote_feed, has_rid, started_if, reconf_feed, reconf_start, first_step, reconf_latest, heard, heard_on, adopts, on_newer, own_decided, is_own}
use Rattle.tg_reconf.specs.Turns.{fed, fed_if}
use Rattle.tg_reconf.specs.Laws.{is_bare_tail, FeedEndsBy, FeedEndsByAnswers, LatestEndsBy, LatestEndsAsTold, IsHeard, IsOther, LearnsBy, LearnsByAnswers, IsOwn, NextIsOwn, StartsAreOwn}

-- Answers.

-- what an answer makes of a machine
abbrev Becomes : Reconf → ℕ → Reply → Next Reconf ReconfEnd → Type 0
Becomes r u x (Goes k) = IsOwn r → IsOwn k
Becomes r u x (Learns k) = LearnsBy r r.work x × (k ≡ r)
Becomes r u x (Ends e) = FeedEndsBy r u x e

looks : (r : Reconf) (u : ℕ) (x : Reply) (b : Bool) (n : ℕ) → Becomes r u x (looks_if r n b).to
looks r u x true n = λ o. tt
looks r u x false n = λ o. o

seals_then : (r : Reconf) (u : ℕ) (x : Reply) (b : Bool) (n : ℕ) → Becomes r u x (seals_if r n b).to
seals_then r u x true n = λ o. tt
seals_then r u x false n = λ o. o

learns : (r : Reconf) (u : ℕ) (x : Reply) (b : Bool) (n : ℕ) → (b ≡ true → LearnsBy r r.work x) → Becomes r u x (learns_if b r n).to
learns r u x true n h = (h refl, refl)
learns r u x false n h = λ o. o

after : (r : Reconf) (u : ℕ) (x : Reply) (acks : Acks) (j : Option Join) (n : ℕ) → Becomes r u x (after_seals r acks n j).to
after r u x acks None n = λ o. tt
after r u x acks (Some j) n = λ o. tt

left_over : (r : Reconf) (u : ℕ) (x : Reply) (ws : Waits) (acks : Acks) (n : ℕ) → Becomes r u x (seals_left r ws acks n).to
left_over r u x [] acks n = after r u x acks r.change.join n
left_over r u x (w ∷ ws) acks n = λ o. tt

sealed : (r : Reconf) (u : ℕ) (x : Reply) (v h : ℕ) (ws : Waits) (acks : Acks) (b : Bool) (n : ℕ) → Becomes r u x (sealed_if r v h ws acks n b).to
sealed r u x v h ws acks true n = left_over r u x (without_wait v ws) ((v, h) ∷ acks) n
sealed r u x v h ws acks false n = λ o. o

promised_then : (r : Reconf) (u : ℕ) (x : Reply) (v : Voting) (ws : Waits) (ps : List Before) (b : Bool) (n : ℕ) → Becomes r u x (promised_on r v ws ps n b).to
promised_then r u x v ws ps true n = λ o. tt
promised_then r u x v ws ps false n = λ o. tt

accepted_then : (r : Reconf) (u : ℕ) (x : Reply) (v : Voting) (ws : Waits) (k : ℕ) (q : Layout) (b : Bool) (n : ℕ) → Becomes r u x (accepted_on r v ws k q n b).to
accepted_then r u x v ws k q true n = λ o. tt
accepted_then r u x v ws k q false n = λ o. tt

sets : (r : Reconf) (u : ℕ) (x : Reply) (v : Voting) (round : ℕ) (b : Bool) (n : ℕ) → Becomes r u x (sets_if r v round n b).to
sets r u x v round true n = λ o. tt
sets r u x v round false n = λ o. tt

promise_if : (r : Reconf) (u : ℕ) (x : Reply) (v : Voting) (a : Before) (ws : Waits) (ps : List Before) (t : Bool) (n : ℕ) →
    Becomes r u x (if t then promised r v u a ws ps n else turn n (Goes r)).to
promise_if r u x v a ws ps true n = promised_then r u x v (without_wait u ws) (a ∷ ps) (is_majority r (length (a ∷ ps))) n
promise_if r u x v a ws ps false n = λ o. o

accept_if : (r : Reconf) (u : ℕ) (x : Reply) (v : Voting) (ws : Waits) (k : ℕ) (q : Layout) (t : Bool) (n : ℕ) →
    Becomes r u x (if t then accepted r v u ws k q n else turn n (Goes r)).to
accept_if r u x v ws k q true n = accepted_then r u x v (without_wait u ws) (k + 1) q (is_majority r (k + 1)) n
accept_if r u x v ws k q false n = λ o. o

nack_if : (r : Reconf) (u : ℕ) (x : Reply) (v : Voting) (b : Ballot) (t : Bool) (n : ℕ) → Becomes r u x (if t then nacked r v b n else turn n (Goes r)).to
nack_if r u x v b true n = sets r u x v (round_after v b) _ n
nack_if r u x v b false n = λ o. o

stage_then : (r : Reconf) (u : ℕ) (y : Reply) (v : Voting) (s : Stage) (x : Reply) (n : ℕ) → Becomes r u y (stage_feed r v s u x n).to
stage_then r u y v (Preparing ws ps) (IsPromise e b a) n = promise_if r u y v a ws ps _ n
stage_then r u y v (Accepting ws k q) (IsAccepted e b) n = accept_if r u y v ws k q _ n
stage_then r u y v (Preparing ws ps) (IsNack e b) n = nack_if r u y v b _ n
stage_then r u y v (Accepting ws k q) (IsNack e b) n = nack_if r u y v b _ n
stage_then r u y v _ _ n = λ o. o

later_then : (r : Reconf) (u : ℕ) (y : Reply) (v : Voting) (l : Later) (x : Reply) (b : Bool) (n : ℕ) → Becomes r u y (later_feed r v l u x n b).to
later_then r u y v l x true n = stage_then r u y (begun v l) (begun v l).stage x n
later_then r u y v l x false n = λ o. o

set_if : (r : Reconf) (u : ℕ) (y : Reply) (v : Voting) (l : Later) (x : Reply) (b : Bool) (n : ℕ) →
    Becomes r u y (if b then later_feed r v l u x n (is_answer r l x) else stage_feed r v v.stage u x n).to
set_if r u y v l x true n = later_then r u y v l x (is_answer r l x) n
set_if r u y v l x false n = stage_then r u y v v.stage x n

vote_then : (r : Reconf) (u : ℕ) (y : Reply) (v : Voting) (o : Option Later) (rid : ℕ) (x : Reply) (n : ℕ) → Becomes r u y (vote_feed r v o u rid x n).to
vote_then r u y v None rid x n = stage_then r u y v v.stage x n
vote_then r u y v (Some l) rid x n = set_if r u y v l x (has_rid u rid l.waits) n

bare : (ls : List StreamLink) (t : ℕ) → names_all [] ls ≡ true → is_bare_tail (IsTail t ls) ≡ true
bare [] t h = refl
bare (l ∷ ls) t h = absurd (cc)

started : (r : Reconf) (k u t : ℕ) (ls : List StreamLink) (b : Bool) (n : ℕ) → names_all [] ls ≡ b → Becomes (at_work r (Starting k)) u (IsTail t ls) (started_if (at_work r (Starting k)) n b).to
started r k u t ls true n h = (refl, bare ls t h, refl, refl)
started r k u t ls false n h = λ o. o

feed_then : (r : Reconf) (w : ReconfWork) (u rid : ℕ) (x : Reply) (n : ℕ) → Becomes (at_work r w) u x (reconf_feed (at_work r w) w u rid x n).to
unfolding reconf_feed
feed_then r (SealingSpare k) u rid (IsSealed e h) n = looks (at_work r (SealingSpare k)) u (IsSealed e h) _ n
feed_then r (SealingSpare k) u rid (IsFenced e) n = seals_then (at_work r (SealingSpare k)) u (IsFenced e) _ n
feed_then r (LookingSpare k) u rid IsWhole n = λ o. tt
feed_then r (LookingSpare k) u rid (IsMissing pos) n = (refl, refl, refl, refl)
feed_then r (LookingSpare k) u rid (IsFenced e) n = seals_then (at_work r (LookingSpare k)) u (IsFenced e) _ n
feed_then r (Sealing ws acks) u rid (IsSealed e h) n = sealed (at_work r (Sealing ws acks)) u (IsSealed e h) u h ws acks _ n
feed_then r (Sealing ws acks) u rid (IsFenced e) n = learns (at_work r (Sealing ws acks)) u (IsFenced e) _ n (λ t. ltb-true _ e t)
feed_then r (LookingAgain k acks) u rid IsWhole n = λ o. tt
feed_then r (LookingAgain k acks) u rid (IsMissing pos) n = (refl, refl, refl, refl)
feed_then r (LookingAgain k acks) u rid (IsFenced e) n = learns (at_work r (LookingAgain k acks)) u (IsFenced e) _ n (λ t. ltb-true _ e t)
feed_then r (Agreeing v) u rid x n = vote_then (at_work r (Agreeing v)) u x v v.later rid x n
feed_then r (Starting k) u rid (IsTail t ls) n = started r k u t ls _ n refl
feed_then r (Starting k) u rid (IsOldEpoch e) n = learns (at_work r (Starting k)) u (IsOldEpoch e) _ n (λ t. ltb-true _ e t)
feed_then r _ u rid _ n = λ o. o

-- what any message makes of it
abbrev BecomesIf : Bool → Reconf → ℕ → Reply → Next Reconf ReconfEnd → Type 0
BecomesIf b r u x (Goes k) = IsOwn r → IsOwn k
BecomesIf b r u x (Learns k) = (b ≡ true) × LearnsBy r r.work x × (k ≡ r)
BecomesIf b r u x (Ends e) = (b ≡ true) × FeedEndsBy r u x e

was_awaited : (r : Reconf) (u : ℕ) (x : Reply) (t : Next Reconf ReconfEnd) → Becomes r u x t → BecomesIf true r u x t
was_awaited r u x (Goes k) h = h
was_awaited r u x (Learns k) h = (refl, h.0, h.1)
was_awaited r u x (Ends e) h = (refl, h)

fed_then_if : (b : Bool) (r : Reconf) (u rid : ℕ) (m : Msg) (n : ℕ) → BecomesIf b r u (reply m) (fed_if b r u rid m n).to
fed_then_if true r u rid m n = was_awaited r u (reply m) (reconf_feed r r.work u rid (reply m) n).to (feed_then r r.work u rid (reply m) n)
fed_then_if false r u rid m n = λ o. o

fed_then : (r : Reconf) (from : NodeId) (rid : ℕ) (m : Msg) (n : ℕ) → BecomesIf (awaits (reconf_awaited r) from rid) r from.num (reply m) (fed r from rid m n).to
fed_then r from rid m n = fed_then_if (awaits (reconf_awaited r) from rid) r from.num rid m n

pub feed_ends_by_answers : FeedEndsByAnswers
feed_ends_by_answers r from rid m n e h = subst (BecomesIf (awaits (reconf_awaited r) from rid) r from.num (reply m)) h (fed_then r from rid m n)

pub learns_by_answers : LearnsByAnswers
learns_by_answers r from rid m n k h = subst (BecomesIf (awaits (reconf_awaited r) from rid) r from.num (reply m)) h (fed_then r from rid m n)

own_if : (b : Bool) (r : Reconf) (u : ℕ) (x : Reply) (t : Next Reconf ReconfEnd) → IsOwn r → BecomesIf b r u x t → NextIsOwn t
own_if b r u x (Goes k) o h = h o
own_if b r u x (Learns k) o h = subst IsOwn (sym h.2) o
own_if b r u x (Ends e) o h = tt

-- Layouts.

abbrev BecomesBy : Reconf → ℕ → ℕ → Layout → Next Reconf ReconfEnd → Type 0
BecomesBy r u rid q (Goes k) = IsOwn r → IsOwn k
BecomesBy r u rid q (Learns k) = ⊥
BecomesBy r u rid q (Ends e) = LatestEndsBy r u rid q e

adopts_then : (r : Reconf) (u rid : ℕ) (q p : Layout) (b : Bool) (n : ℕ) → (p.by == r.me) ≡ b → ((p.by == r.me) ≡ false → IsHeard r r.work u rid q p) →
    BecomesBy r u rid q (adopts r p n b).to
adopts_then r u rid q p true n e h = λ o. eqb-true p.by r.me e
adopts_then r u rid q p false n e h = (refl, inl (h e))

own_then : (r : Reconf) (w : ReconfWork) (u rid : ℕ) (q : Layout) (n : ℕ) → BecomesBy r u rid q (own_decided r w q n).to
own_then r (Telling ws k p) u rid q n = λ o. o
own_then r _ u rid q n = λ o. tt

newer_then : (r : Reconf) (u rid : ℕ) (q : Layout) (b : Bool) (n : ℕ) → is_own r q ≡ b → BecomesBy r u rid q (on_newer r q n b).to
newer_then r u rid q true n e = own_then r r.work u rid q n
newer_then r u rid q false n e = (refl, inr (refl, e))

heard_then : (r : Reconf) (ws vs : Waits) (k u rid : ℕ) (p q : Layout) (b : Bool) (n : ℕ) → has_rid u rid ws ≡ true → q.epoch ≡ next_epoch r →
    is_majority r (k + 1) ≡ b → BecomesBy (at_work r (Telling ws k p)) u rid q (heard_on (at_work r (Telling ws k p)) vs (k + 1) p n b).to
heard_then r ws vs k u rid p q true n a e m = adopts_then (at_work r (Telling ws k p)) u rid q p _ n refl (λ f. (a, e, m, refl, f))
heard_then r ws vs k u rid p q false n a e m = λ o. tt

told_then : (r : Reconf) (ws : Waits) (k u rid : ℕ) (p q : Layout) (b : Bool) (n : ℕ) → (has_rid u rid ws && (q.epoch == next_epoch r)) ≡ b →
    BecomesBy (at_work r (Telling ws k p)) u rid q (if b then heard (at_work r (Telling ws k p)) u ws k p n else on_newer (at_work r (Telling ws k p)) q n (is_own r q)).to
told_then r ws k u rid p q true n e = heard_then r ws (without_wait u ws) k u rid p q _ n (and-left _ _ e) (eqb-true q.epoch (next_epoch r) (and-right _ _ e)) refl
told_then r ws k u rid p q false n e = newer_then (at_work r (Telling ws k p)) u rid q _ n refl

layout_then : (r : Reconf) (w : ReconfWork) (u rid : ℕ) (q : Layout) (n : ℕ) → BecomesBy (at_work r w) u rid q (reconf_latest (at_work r w) w u rid q n).to
unfolding reconf_latest
layout_then r (Starting k) u rid q n = (refl, refl, refl)
layout_then r (Telling ws k p) u rid q n = told_then r ws k u rid p q _ n refl
layout_then r w u rid q n = newer_then (at_work r w) u rid q _ n refl

latest_then : (r : Reconf) (u rid : ℕ) (q : Layout) (n : ℕ) → BecomesBy r u rid q (reconf_latest r r.work u rid q n).to
latest_then r u rid q n = layout_then r r.work u rid q n

pub latest_ends_as_told : LatestEndsAsTold
latest_ends_as_told r u rid q n e h = subst (BecomesBy r u rid q) h (latest_then r u rid q n)

own_by : (r : Reconf) (u rid : ℕ) (q : Layout) (t : Next Reconf ReconfEnd) → IsOwn r → BecomesBy r u rid q t → NextIsOwn t
own_by r u rid q (Goes k) o h = h o
own_by r u rid q (Learns k) o h = absurd h
own_by r u rid q (Ends e) o h = tt

first_own : (r : Reconf) (j : Option Join) (n : ℕ) → NextIsOwn (first_step r n j).to
first_own r None n = tt
first_own r (Some j) n = tt

begun_own : (p : Layout) (layouts : ℕ) (c : Changed) (me n : ℕ) → NextIsOwn (reconf_start p layouts c me n).to
unfolding reconf_start
begun_own p layouts c me n = first_own (record { change = c; me = me; layouts = layouts; stand = p; work = SealingSpare 0 }) c.join n

pub starts_are_own : StartsAreOwn
starts_are_own = record {
  starts = begun_own;
  answers = λ r from rid m n o. own_if _ r from.num (reply m) (fed r from rid m n).to o (fed_then r from rid m n);
  layouts = λ r u rid q n o. own_by r u rid q (reconf_latest r r.work u rid q n).to o (latest_then r u rid q n);
}
