-- On which messages a machine goes on and sends nothing.
use Rattle.std.proofs.Common.{◌≡◌, ℕ, ◌+◌, ◌≤◌, Bool, true, false, not, ◌&&◌, List, [], ◌∷◌, length, Option, Some, None, refl, sym, ap, subst, ◌∙◌, arith}
use Rattle.std.specs.Prelude.{◌==◌, is_some, if◌then◌else◌}
use Rattle.tg_base.specs.Layouts.{Layout}
use Rattle.tg_base.specs.declared.change.Join.{Join}
use Rattle.tg_base.specs.declared.ids.NodeId.{NodeId}
use Rattle.tg_base.specs.declared.msg.Msg.{Msg}
use Rattle.tg_base.specs.declared.packet.Out.{Out}
use Rattle.tg_protocol.specs.Words.{unit_id, layout_id, numbers}
use Rattle.tg_protocol.specs.Layouts.{next_units}
use Rattle.tg_protocol.specs.Requests.{out, Waits, waits_for, asked_of, without_wait, awaits, turn, Next, Goes, Learns, Ends}
use Rattle.tg_protocol.specs.Replies.{Reply, IsFenced, IsSealed, IsMissing, IsWhole, IsPromise, IsNack, IsAccepted, IsTail, IsOldEpoch, reply}
use Rattle.tg_protocol.specs.Appending.{names_all}
use Rattle.tg_protocol.specs.Trimming.{learns_if}
use Rattle.tg_protocol.specs.Reconfiguring.{Acks, Before, Stage, Preparing, Accepting, Later, Voting, ReconfWork, SealingSpare, LookingSpare, Sealing, LookingAgain, Agreeing, Telling, Starting, Reconf, ReconfEnd, ReconfTurn, at_work, next_epoch, is_majority, join_asks, reconf_work_asks, reconf_awaited, seals, seals_if, looks_if, seals_left, sealed_if, after_seals, proposes, promised, promised_on, accepted, accepted_on, tells, stage_feed, begun, is_answer, later_feed, vote_feed, has_rid, started_if, reconf_feed, reconf_latest, heard, heard_on, adopts, on_newer, own_decided, is_own}
use Rattle.tg_chain.specs.Turns.{drawn_between}
use Rattle.tg_chain.proofs.Outs.{one_drawn, all_drawn}
use Rattle.tg_reconf.specs.Turns.{by_reconf, fed, fed_if}
use Rattle.tg_reconf.specs.Laws.{round_fed, completes_stage, completes_round, none_left, completes, HasNodes, WaitsForAnswers, tells_on, WaitsToTell}
use Rattle.tg_reconf.proofs.Drawing.{length_numbers}

-- What was asked was sent.

no_cons : (o : Out) (os : List Out) → o ∷ os ≡ [] → ⊥
no_cons o os e = cc

sent : (name : ℕ → NodeId) (m : Msg) (nodes : List ℕ) (n : ℕ) → 1 ≤ length nodes → drawn_between n (n + length nodes) (asked_of name m (waits_for nodes n)) ≡ [] → ⊥
sent name m [] n h e = absurd (omega (arith, h))
sent name m (x ∷ xs) n h e = no_cons _ _ (sym (all_drawn name m (x ∷ xs) n) ∙ e)

sent_servers : (m : Msg) (k n : ℕ) → 1 ≤ k → drawn_between n (n + k) (asked_of layout_id m (waits_for (numbers k 0) n)) ≡ [] → ⊥
sent_servers m k n = subst (λ i. 1 ≤ i → drawn_between n (n + i) (asked_of layout_id m (waits_for (numbers k 0) n)) ≡ [] → ⊥) (length_numbers k 0) (sent layout_id m (numbers k 0) n)

sent_if_joined : (j : Option Join) (m : Join → Msg) (n : ℕ) → drawn_between n (n + 1) (join_asks j (λ x. out (unit_id x.unit) n (m x) ∷ [])) ≡ [] → is_some j ≡ false
sent_if_joined None m n e = refl
sent_if_joined (Some j) m n e = absurd (no_cons _ _ (sym (one_drawn (unit_id j.unit) n (m j)) ∙ e))

not_both : true ≡ false → ⊥
not_both h = cc

ends_go : (e : ReconfEnd) (k : Reconf) → ◌≡◌ {A = Next Reconf ReconfEnd} (Ends e) (Goes k) → ⊥
ends_go e k h = cc

learns_go : (r k : Reconf) → ◌≡◌ {A = Next Reconf ReconfEnd} (Learns r) (Goes k) → ⊥
learns_go r k h = cc

-- Answers. Where a turn goes on and sends nothing, this test fails.

abbrev Idles : ReconfTurn → ℕ → Bool → Type 0
Idles t n b = (k : Reconf) → t.to ≡ Goes k → (by_reconf n t).outs ≡ [] → b ≡ false

seals_idle : (r : Reconf) (b : Bool) (n : ℕ) → 1 ≤ length (next_units r.stand r.change) → Idles (seals r n) n b
unfolding reconf_work_asks
seals_idle r b n h = λ k g e. absurd (sent unit_id _ (next_units r.stand r.change) n h e)

proposes_idle : (r : Reconf) (acks : Acks) (b : Bool) (n : ℕ) → 1 ≤ r.layouts → Idles (proposes r acks n) n b
unfolding reconf_work_asks
proposes_idle r acks b n h = λ k g e. absurd (sent_servers _ r.layouts n h e)

tells_idle : (r : Reconf) (q : Layout) (b : Bool) (n : ℕ) → 1 ≤ r.layouts → Idles (tells r q n) n b
unfolding reconf_work_asks
tells_idle r q b n h = λ k g e. absurd (sent_servers _ r.layouts n h e)

looks_idle : (r : Reconf) (b : Bool) (n : ℕ) → Idles (looks_if r n b) n (b && is_some r.change.join)
unfolding reconf_work_asks
looks_idle r true n = λ k g e. sent_if_joined r.change.join _ n e
looks_idle r false n = λ k g e. refl

seals_if_idle : (r : Reconf) (b : Bool) (n : ℕ) → 1 ≤ length (next_units r.stand r.change) → Idles (seals_if r n b) n b
seals_if_idle r true n h = seals_idle r true n h
seals_if_idle r false n h = λ k g e. refl

learns_idle : (r : Reconf) (b : Bool) (n : ℕ) → Idles (learns_if b r n) n b
learns_idle r true n = λ k g e. absurd (learns_go _ _ g)
learns_idle r false n = λ k g e. refl

after_idle : (r : Reconf) (acks : Acks) (j : Option Join) (b : Bool) (n : ℕ) → r.change.join ≡ j → 1 ≤ r.layouts → Idles (after_seals r acks n j) n b
unfolding reconf_work_asks
after_idle r acks None b n is h = proposes_idle r acks b n h
after_idle r acks (Some j) b n is h = λ k g e. absurd (not_both (sym (ap is_some is) ∙ sent_if_joined r.change.join _ n e))

left_idle : (r : Reconf) (ws : Waits) (acks : Acks) (n : ℕ) → 1 ≤ r.layouts → Idles (seals_left r ws acks n) n (none_left ws)
left_idle r [] acks n h = after_idle r acks r.change.join true n refl h
left_idle r (w ∷ ws) acks n h = λ k g e. refl

sealed_idle : (r : Reconf) (u h : ℕ) (ws : Waits) (acks : Acks) (b : Bool) (n : ℕ) → 1 ≤ r.layouts → Idles (sealed_if r u h ws acks n b) n (b && none_left (without_wait u ws))
sealed_idle r u h ws acks true n l = left_idle r (without_wait u ws) ((u, h) ∷ acks) n l
sealed_idle r u h ws acks false n l = λ k g e. refl

promised_idle : (r : Reconf) (v : Voting) (ws : Waits) (ps : List Before) (b : Bool) (n : ℕ) → 1 ≤ r.layouts → Idles (promised_on r v ws ps n b) n b
unfolding reconf_work_asks
promised_idle r v ws ps true n h = λ k g e. absurd (sent_servers _ r.layouts n h e)
promised_idle r v ws ps false n h = λ k g e. refl

accepted_idle : (r : Reconf) (v : Voting) (ws : Waits) (k : ℕ) (q : Layout) (b : Bool) (n : ℕ) → 1 ≤ r.layouts → Idles (accepted_on r v ws k q n b) n b
accepted_idle r v ws k q true n h = tells_idle r q true n h
accepted_idle r v ws k q false n h = λ m g e. refl

promise_if : (r : Reconf) (v : Voting) (u : ℕ) (a : Before) (ws : Waits) (ps : List Before) (t : Bool) (n : ℕ) → 1 ≤ r.layouts →
    Idles (if t then promised r v u a ws ps n else turn n (Goes r)) n (t && is_majority r (length (a ∷ ps)))
promise_if r v u a ws ps true n h = promised_idle r v (without_wait u ws) (a ∷ ps) (is_majority r (length (a ∷ ps))) n h
promise_if r v u a ws ps false n h = λ k g e. refl

accept_if : (r : Reconf) (v : Voting) (u : ℕ) (ws : Waits) (k : ℕ) (q : Layout) (t : Bool) (n : ℕ) → 1 ≤ r.layouts →
    Idles (if t then accepted r v u ws k q n else turn n (Goes r)) n (t && is_majority r (k + 1))
accept_if r v u ws k q true n h = accepted_idle r v (without_wait u ws) (k + 1) q (is_majority r (k + 1)) n h
accept_if r v u ws k q false n h = λ m g e. refl

stage_idle : (r : Reconf) (v : Voting) (s : Stage) (u : ℕ) (x : Reply) (n : ℕ) → 1 ≤ r.layouts → Idles (stage_feed r v s u x n) n (completes_stage r v.round s x)
stage_idle r v (Preparing ws ps) u (IsPromise e b a) n h = promise_if r v u a ws ps _ n h
stage_idle r v (Accepting ws k q) u (IsAccepted e b) n h = accept_if r v u ws k q _ n h
stage_idle r v _ u _ n h = λ k g e. refl

no_answer : (r : Reconf) (l : Later) (x : Reply) → is_answer r l x ≡ false → completes_stage r l.round (Preparing l.waits []) x ≡ false
no_answer r l (IsPromise e b a) h = ap (λ t. t && is_majority r (length (a ∷ []))) h
no_answer r l _ h = refl

later_idle : (r : Reconf) (v : Voting) (l : Later) (u : ℕ) (x : Reply) (b : Bool) (n : ℕ) → is_answer r l x ≡ b → 1 ≤ r.layouts →
    Idles (later_feed r v l u x n b) n (completes_round r (begun v l) x)
later_idle r v l u x true n is h = stage_idle r (begun v l) (begun v l).stage u x n h
later_idle r v l u x false n is h = λ k g e. no_answer r l x is

set_idle : (r : Reconf) (v : Voting) (l : Later) (u : ℕ) (x : Reply) (b : Bool) (n : ℕ) → 1 ≤ r.layouts →
    Idles (if b then later_feed r v l u x n (is_answer r l x) else stage_feed r v v.stage u x n) n (completes_round r (if b then begun v l else v) x)
set_idle r v l u x true n h = later_idle r v l u x (is_answer r l x) n refl h
set_idle r v l u x false n h = stage_idle r v v.stage u x n h

vote_idle : (r : Reconf) (v : Voting) (o : Option Later) (u rid : ℕ) (x : Reply) (n : ℕ) → 1 ≤ r.layouts →
    Idles (vote_feed r v o u rid x n) n (completes_round r (round_fed v o u rid) x)
vote_idle r v None u rid x n h = stage_idle r v v.stage u x n h
vote_idle r v (Some l) u rid x n h = set_idle r v l u x (has_rid u rid l.waits) n h

started_idle : (r : Reconf) (b : Bool) (n : ℕ) → Idles (started_if r n b) n b
started_idle r true n = λ k g e. absurd (ends_go _ _ g)
started_idle r false n = λ k g e. refl

feed_idle : (r : Reconf) (w : ReconfWork) (u rid : ℕ) (x : Reply) (n : ℕ) → 1 ≤ r.layouts → 1 ≤ length (next_units r.stand r.change) →
    Idles (reconf_feed (at_work r w) w u rid x n) n (completes (at_work r w) w u rid x)
unfolding reconf_feed
feed_idle r (SealingSpare k) u rid (IsSealed e h) n l m = looks_idle (at_work r (SealingSpare k)) _ n
feed_idle r (SealingSpare k) u rid (IsFenced e) n l m = seals_if_idle (at_work r (SealingSpare k)) _ n m
feed_idle r (LookingSpare k) u rid IsWhole n l m = seals_idle (at_work r (LookingSpare k)) true n m
feed_idle r (LookingSpare k) u rid (IsMissing pos) n l m = λ i g e. absurd (ends_go _ _ g)
feed_idle r (LookingSpare k) u rid (IsFenced e) n l m = seals_if_idle (at_work r (LookingSpare k)) _ n m
feed_idle r (Sealing ws acks) u rid (IsSealed e h) n l m = sealed_idle (at_work r (Sealing ws acks)) u h ws acks _ n l
feed_idle r (Sealing ws acks) u rid (IsFenced e) n l m = learns_idle (at_work r (Sealing ws acks)) _ n
feed_idle r (LookingAgain k acks) u rid IsWhole n l m = proposes_idle (at_work r (LookingAgain k acks)) acks true n l
feed_idle r (LookingAgain k acks) u rid (IsMissing pos) n l m = λ i g e. absurd (ends_go _ _ g)
feed_idle r (LookingAgain k acks) u rid (IsFenced e) n l m = learns_idle (at_work r (LookingAgain k acks)) _ n
feed_idle r (Agreeing v) u rid x n l m = vote_idle (at_work r (Agreeing v)) v v.later u rid x n l
feed_idle r (Starting k) u rid (IsTail t ls) n l m = started_idle (at_work r (Starting k)) _ n
feed_idle r (Starting k) u rid (IsOldEpoch e) n l m = learns_idle (at_work r (Starting k)) _ n
feed_idle r _ u rid _ n l m = λ i g e. refl

fed_idle_if : (b : Bool) (r : Reconf) (u rid : ℕ) (m : Msg) (n : ℕ) → HasNodes r → Idles (fed_if b r u rid m n) n (b && completes r r.work u rid (reply m))
fed_idle_if true r u rid m n h = feed_idle r r.work u rid (reply m) n h.servers h.units
fed_idle_if false r u rid m n h = λ k g e. refl

pub waits_for_answers : WaitsForAnswers
waits_for_answers r from rid m n k h g e = fed_idle_if (awaits (reconf_awaited r) from rid) r from.num rid m n h k g e

-- Layouts. Where a turn goes on and sends nothing, this test holds.

abbrev Rests : ReconfTurn → ℕ → Bool → Type 0
Rests t n b = (k : Reconf) → t.to ≡ Goes k → (by_reconf n t).outs ≡ [] → b ≡ true

adopts_rest : (r : Reconf) (q : Layout) (b o : Bool) (n : ℕ) → Rests (adopts r q n b) n o
unfolding reconf_work_asks
adopts_rest r q true o n = λ k g e. absurd (no_cons _ _ (sym (one_drawn _ n _) ∙ e))
adopts_rest r q false o n = λ k g e. absurd (ends_go _ _ g)

heard_rests : (r : Reconf) (ws : Waits) (k : ℕ) (q : Layout) (b : Bool) (n : ℕ) → Rests (heard_on r ws k q n b) n (not b)
heard_rests r ws k q true n = adopts_rest r q (q.by == r.me) false n
heard_rests r ws k q false n = λ m g e. refl

told_rests : (r : Reconf) (ws : Waits) (i : ℕ) (p q : Layout) (b : Bool) (n : ℕ) → Rests (on_newer (at_work r (Telling ws i p)) q n b) n b
told_rests r ws i p q true n = λ k g e. refl
told_rests r ws i p q false n = λ k g e. absurd (ends_go _ _ g)

either_rests : (r : Reconf) (ws : Waits) (i u : ℕ) (p q : Layout) (b : Bool) (n : ℕ) →
    Rests (if b then heard (at_work r (Telling ws i p)) u ws i p n else on_newer (at_work r (Telling ws i p)) q n (is_own r q)) n (if b then not (is_majority r (i + 1)) else is_own r q)
either_rests r ws i u p q true n = heard_rests (at_work r (Telling ws i p)) (without_wait u ws) (i + 1) p (is_majority r (i + 1)) n
either_rests r ws i u p q false n = told_rests r ws i p q (is_own r q) n

newer_rests : (r : Reconf) (w : ReconfWork) (q : Layout) (b : Bool) (n : ℕ) → own_decided (at_work r w) w q n ≡ tells (at_work r w) q n → 1 ≤ r.layouts →
    Rests (on_newer (at_work r w) q n b) n false
newer_rests r w q true n is h = subst (λ (t : ReconfTurn). Rests t n false) (sym is) (λ k g e. absurd (not_both (tells_idle (at_work r w) q true n h k g e)))
newer_rests r w q false n is h = λ k g e. absurd (ends_go _ _ g)

layout_rests : (r : Reconf) (w : ReconfWork) (u rid : ℕ) (q : Layout) (n : ℕ) → 1 ≤ r.layouts → Rests (reconf_latest (at_work r w) w u rid q n) n (tells_on (at_work r w) w u rid q)
unfolding reconf_latest
layout_rests r (Starting k) u rid q n h = λ i g e. absurd (ends_go _ _ g)
layout_rests r (Telling ws k p) u rid q n h = either_rests r ws k u p q (has_rid u rid ws && (q.epoch == next_epoch r)) n
layout_rests r w u rid q n h = newer_rests r w q (is_own r q) n refl h

pub waits_to_tell : WaitsToTell
waits_to_tell r u rid q n k h g e = layout_rests r r.work u rid q n h.servers k g e
