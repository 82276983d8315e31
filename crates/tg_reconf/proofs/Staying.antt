-- The numbers that a machine awaits were drawn.
use Rattle.std.proofs.Common.{◌≡◌, ℕ, zero, suc, ◌+◌, ◌<◌, ◌≤◌, Bool, true, false, not, ◌&&◌, List, [], ◌∷◌, ◌++◌, length, Option, Some, None, refl, sym, ap, subst, ◌∙◌, arith}
use Rattle.std.specs.Prelude.{nat_lt, nat_le, ◌==◌, if◌then◌else◌, ◌^◌, Result, Ok, Err, IfOk}
use Rattle.std.specs.List.{list_all}
use Rattle.std.proofs.lemmas.Bool.Decides.{nat_tests}
use Rattle.std.proofs.lemmas.List.Folds.{list_all-append}
use Rattle.tg_base.proofs.Exact.{and-left, and-right, both}
use Rattle.tg_base.specs.Layouts.{Layout}
use Rattle.tg_base.specs.Changes.{Changed}
use Rattle.tg_base.specs.declared.change.Join.{Join}
use Rattle.tg_base.specs.declared.fault.NoMemory.{NoMemory}
use Rattle.tg_base.specs.declared.ids.Ballot.{Ballot}
use Rattle.tg_base.specs.declared.ids.NodeId.{NodeId}
use Rattle.tg_base.specs.declared.msg.Msg.{Msg}
use Rattle.tg_base.specs.declared.packet.Out.{Out}
use Rattle.tg_protocol.specs.Words.{unit_id, layout_id, numbers}
use Rattle.tg_protocol.specs.Layouts.{next_units}
use Rattle.tg_protocol.specs.Requests.{out, Waits, waits_for, asked_of, without_wait, awaits, turn, Next, Goes, Learns, Ends}
use Rattle.tg_protocol.specs.Replies.{Reply, IsFenced, IsSealed, IsMissing, IsWhole, IsPromise, IsNack, IsAccepted, IsTail, IsOldEpoch, reply}
use Rattle.tg_protocol.specs.Appending.{names_all}
use Rattle.tg_protocol.specs.Trimming.{learns_if}
use Rattle.tg_protocol.specs.Reconfiguring.{Acks, Before, Stage, Preparing, Accepting, Later, Voting, ReconfWork, SealingSpare, LookingSpare, Sealing, LookingAgain, Agreeing, Telling, Starting, Reconf, ReconfEnd, ReconfTurn, at_work, next_epoch, join_asks, stage_asks, set_asks, reconf_asks, reconf_awaited, reconf_work_asks, later_asks, is_majority, seals, seals_if, looks_if, seals_left, sealed_if, after_seals, proposes, prepares, promised, promised_on, accepted, accepted_on, tells, nacked, sets_if, round_after, round_set, stage_feed, begun, is_answer, later_feed, vote_feed, has_rid, same_vote, is_of_epoch, started_if, reconf_feed, reconf_start, first_step, reconf_latest, heard, heard_on, adopts, on_newer, own_decided, is_own}
use Rattle.tg_chain.specs.Turns.{Shown, drawn_between}
use Rattle.tg_reconf.specs.declared.step.Step.{Step}
use Rattle.tg_reconf.specs.Turns.{all_drawn, AreDrawn, StayDrawn, fed, fed_if, shown, next_of, by_reconf}
use Rattle.tg_reconf.specs.Laws.{NumbersStayDrawn}
use Rattle.tg_reconf.proofs.Drawing.{length_numbers}

-- Numbers of several requests.

abbrev pub waits_drawn : ℕ → Waits → Bool
waits_drawn next ws = list_all (λ (w : ℕ × ℕ). nat_lt w.1 next) ws

asked_drawn : (name : ℕ → NodeId) (m : Msg) (ws : Waits) (n : ℕ) → all_drawn n (asked_of name m ws) ≡ waits_drawn n ws
asked_drawn name m [] n = refl
asked_drawn name m (w ∷ ws) n = ap (λ b. nat_lt w.1 n && b) (asked_drawn name m ws n)

below_more : (a n k : ℕ) → n ≤ k → nat_lt a n ≡ true → nat_lt a k ≡ true
below_more a n k le h = grind (arith, nat_tests)

more_drawn : (ws : Waits) (n k : ℕ) → n ≤ k → waits_drawn n ws ≡ true → waits_drawn k ws ≡ true
more_drawn [] n k le h = refl
more_drawn (w ∷ ws) n k le h = both _ _ (below_more w.1 n k le (and-left _ _ h)) (more_drawn ws n k le (and-right _ _ h))

below_here : (n k : ℕ) → n < k → nat_lt n k ≡ true
below_here n k less = grind (arith, nat_tests)

fresh_from : (nodes : List ℕ) (n k : ℕ) → n + length nodes ≤ k → waits_drawn k (waits_for nodes n) ≡ true
fresh_from [] n k le = refl
fresh_from (x ∷ xs) n k le = both _ _ (below_here n k (omega (arith, le))) (fresh_from xs (n + 1) k (omega (arith, le)))

fresh : (nodes : List ℕ) (n : ℕ) → waits_drawn (n + length nodes) (waits_for nodes n) ≡ true
fresh nodes n = fresh_from nodes n (n + length nodes) (omega arith)

fresh_servers : (k n : ℕ) → waits_drawn (n + k) (waits_for (numbers k 0) n) ≡ true
fresh_servers k n = subst (λ i. waits_drawn (n + i) (waits_for (numbers k 0) n) ≡ true) (length_numbers k 0) (fresh (numbers k 0) n)

others_if : (b : Bool) (w : ℕ × ℕ) (ws : Waits) (n : ℕ) → nat_lt w.1 n ≡ true → waits_drawn n ws ≡ true → waits_drawn n (if b then w ∷ ws else ws) ≡ true
others_if true w ws n p q = both _ _ p q
others_if false w ws n p q = q

others_drawn : (u : ℕ) (ws : Waits) (n : ℕ) → waits_drawn n ws ≡ true → waits_drawn n (without_wait u ws) ≡ true
others_drawn u [] n h = refl
others_drawn u (w ∷ ws) n h = others_if (not (w.0 == u)) w (without_wait u ws) n (and-left _ _ h) (others_drawn u ws n (and-right _ _ h))

-- Single ones.

number_drawn : (n : ℕ) → nat_lt n (n + 1) ≡ true
number_drawn n = below_here n (n + 1) (omega arith)

joined_drawn : (j : Option Join) (m : Join → Msg) (n : ℕ) → all_drawn (n + 1) (join_asks j (λ x. out (unit_id x.unit) n (m x) ∷ []) ++ []) ≡ true
joined_drawn None m n = refl
joined_drawn (Some j) m n = both _ _ (number_drawn n) refl

-- What a machine awaits.

abbrev pub stage_ws : Stage → Waits
stage_ws (Preparing ws ps) = ws
stage_ws (Accepting ws k q) = ws

abbrev pub later_ws : Option Later → Waits
later_ws None = []
later_ws (Some l) = l.waits

pub stage_drawn : (r : Reconf) (round : ℕ) (s : Stage) (n : ℕ) → all_drawn n (stage_asks r round s) ≡ waits_drawn n (stage_ws s)
stage_drawn r round (Preparing ws ps) n = asked_drawn layout_id _ ws n
stage_drawn r round (Accepting ws k q) n = asked_drawn layout_id _ ws n

set_drawn : (r : Reconf) (l : Option Later) (n : ℕ) → all_drawn n (set_asks r l) ≡ waits_drawn n (later_ws l)
set_drawn r None n = refl
set_drawn r (Some l) n = asked_drawn layout_id _ l.waits n

both_drawn : (xs ys : List Out) (n : ℕ) → all_drawn n (xs ++ ys) ≡ (all_drawn n xs && all_drawn n ys)
both_drawn xs ys n = list_all-append (λ o. nat_lt o.rid n) xs ys

alone_drawn : (xs : List Out) (n : ℕ) → all_drawn n xs ≡ true → all_drawn n (xs ++ []) ≡ true
alone_drawn xs n h = both_drawn xs [] n ∙ both _ _ h refl

without_more : (xs : List Out) (n : ℕ) → all_drawn n (xs ++ []) ≡ true → all_drawn n xs ≡ true
without_more xs n h = and-left _ _ (sym (both_drawn xs [] n) ∙ h)

votes_drawn : (r : Reconf) (v : Voting) (n : ℕ) → all_drawn n (reconf_awaited (at_work r (Agreeing v))) ≡ (waits_drawn n (stage_ws v.stage) && waits_drawn n (later_ws v.later))
unfolding reconf_work_asks
votes_drawn r v n =
    let k = at_work r (Agreeing v) in
    both_drawn (stage_asks k v.round v.stage) (set_asks k v.later) n ∙ ap (λ b. b && all_drawn n (set_asks k v.later)) (stage_drawn k v.round v.stage n)
    ∙ ap (λ b. waits_drawn n (stage_ws v.stage) && b) (set_drawn k v.later n)

agree : (r : Reconf) (v : Voting) (n : ℕ) → waits_drawn n (stage_ws v.stage) ≡ true → waits_drawn n (later_ws v.later) ≡ true → AreDrawn n (at_work r (Agreeing v))
agree r v n a b = record { all = votes_drawn r v n ∙ both _ _ a b }

pub agreed_stage : (r : Reconf) (v : Voting) (n : ℕ) → AreDrawn n (at_work r (Agreeing v)) → waits_drawn n (stage_ws v.stage) ≡ true
agreed_stage r v n d = and-left _ _ (sym (votes_drawn r v n) ∙ d.all)

pub agreed_later : (r : Reconf) (v : Voting) (n : ℕ) → AreDrawn n (at_work r (Agreeing v)) → waits_drawn n (later_ws v.later) ≡ true
agreed_later r v n d = and-right _ _ (sym (votes_drawn r v n) ∙ d.all)

seal : (r : Reconf) (ws : Waits) (acks : Acks) (n : ℕ) → waits_drawn n ws ≡ true → AreDrawn n (at_work r (Sealing ws acks))
unfolding reconf_work_asks
seal r ws acks n h = record { all = alone_drawn (asked_of unit_id _ ws) n (asked_drawn unit_id _ ws n ∙ h) }

sealed_ws : (r : Reconf) (ws : Waits) (acks : Acks) (n : ℕ) → AreDrawn n (at_work r (Sealing ws acks)) → waits_drawn n ws ≡ true
unfolding reconf_work_asks
sealed_ws r ws acks n d = sym (asked_drawn unit_id _ ws n) ∙ without_more (asked_of unit_id _ ws) n d.all

tell : (r : Reconf) (ws : Waits) (k : ℕ) (q : Layout) (n : ℕ) → waits_drawn n ws ≡ true → AreDrawn n (at_work r (Telling ws k q))
unfolding reconf_work_asks
tell r ws k q n h = record { all = alone_drawn (asked_of layout_id _ ws) n (asked_drawn layout_id _ ws n ∙ h) }

told_ws : (r : Reconf) (ws : Waits) (k : ℕ) (q : Layout) (n : ℕ) → AreDrawn n (at_work r (Telling ws k q)) → waits_drawn n ws ≡ true
unfolding reconf_work_asks
told_ws r ws k q n d = sym (asked_drawn layout_id _ ws n) ∙ without_more (asked_of layout_id _ ws) n d.all

-- The steps.

abbrev StaysBy : ReconfTurn → Type 0
StaysBy t = StayDrawn t.next t.to

seals_stay : (r : Reconf) (n : ℕ) → StaysBy (seals r n)
seals_stay r n = seal r (waits_for (next_units r.stand r.change) n) [] (n + length (next_units r.stand r.change)) (fresh (next_units r.stand r.change) n)

spare_stays : (r : Reconf) (n : ℕ) → AreDrawn (n + 1) (at_work r (SealingSpare n))
unfolding reconf_work_asks
spare_stays r n = record { all = joined_drawn r.change.join _ n }

look_stays : (r : Reconf) (n : ℕ) → AreDrawn (n + 1) (at_work r (LookingSpare n))
unfolding reconf_work_asks
look_stays r n = record { all = joined_drawn r.change.join _ n }

again_stays : (r : Reconf) (acks : Acks) (n : ℕ) → AreDrawn (n + 1) (at_work r (LookingAgain n acks))
unfolding reconf_work_asks
again_stays r acks n = record { all = joined_drawn r.change.join _ n }

start_stays : (r : Reconf) (n : ℕ) → AreDrawn (n + 1) (at_work r (Starting n))
unfolding reconf_work_asks
start_stays r n = record { all = both _ _ (number_drawn n) refl }

prepares_stay : (r : Reconf) (own : Layout) (n : ℕ) → StaysBy (prepares r own n)
prepares_stay r own n = agree r _ (n + r.layouts) (fresh_servers r.layouts n) refl

tells_stay : (r : Reconf) (q : Layout) (n : ℕ) → StaysBy (tells r q n)
tells_stay r q n = tell r (waits_for (numbers r.layouts 0) n) 0 q (n + r.layouts) (fresh_servers r.layouts n)

looks_stay : (r : Reconf) (b : Bool) (n : ℕ) → AreDrawn n r → StaysBy (looks_if r n b)
looks_stay r true n d = look_stays r n
looks_stay r false n d = d

seals_if_stay : (r : Reconf) (b : Bool) (n : ℕ) → AreDrawn n r → StaysBy (seals_if r n b)
seals_if_stay r true n d = seals_stay r n
seals_if_stay r false n d = d

learns_stay : (r : Reconf) (b : Bool) (n : ℕ) → AreDrawn n r → StaysBy (learns_if b r n)
learns_stay r true n d = d
learns_stay r false n d = d

after_stays : (r : Reconf) (acks : Acks) (j : Option Join) (n : ℕ) → StaysBy (after_seals r acks n j)
after_stays r acks None n = prepares_stay r _ n
after_stays r acks (Some j) n = again_stays r acks n

left_stays : (r : Reconf) (ws : Waits) (acks : Acks) (n : ℕ) → waits_drawn n ws ≡ true → StaysBy (seals_left r ws acks n)
left_stays r [] acks n h = after_stays r acks r.change.join n
left_stays r (w ∷ ws) acks n h = seal r (w ∷ ws) acks n h

sealed_stays : (r : Reconf) (u h : ℕ) (ws : Waits) (acks : Acks) (b : Bool) (n : ℕ) → waits_drawn n ws ≡ true → AreDrawn n r → StaysBy (sealed_if r u h ws acks n b)
sealed_stays r u h ws acks true n e d = left_stays r (without_wait u ws) ((u, h) ∷ acks) n (others_drawn u ws n e)
sealed_stays r u h ws acks false n e d = d

promised_stays : (r : Reconf) (v : Voting) (ws : Waits) (ps : List Before) (b : Bool) (n : ℕ) → waits_drawn n ws ≡ true → waits_drawn n (later_ws v.later) ≡ true →
    StaysBy (promised_on r v ws ps n b)
promised_stays r v ws ps true n e l = agree r _ (n + r.layouts) (fresh_servers r.layouts n) (more_drawn (later_ws v.later) n (n + r.layouts) (omega arith) l)
promised_stays r v ws ps false n e l = agree r _ n e l

accepted_stays : (r : Reconf) (v : Voting) (ws : Waits) (k : ℕ) (q : Layout) (b : Bool) (n : ℕ) → waits_drawn n ws ≡ true → waits_drawn n (later_ws v.later) ≡ true →
    StaysBy (accepted_on r v ws k q n b)
accepted_stays r v ws k q true n e l = tells_stay r q n
accepted_stays r v ws k q false n e l = agree r _ n e l

sets_stay : (r : Reconf) (v : Voting) (round : ℕ) (b : Bool) (n : ℕ) → waits_drawn n (stage_ws v.stage) ≡ true → waits_drawn n (later_ws v.later) ≡ true →
    StaysBy (sets_if r v round n b)
sets_stay r v round true n e l = agree r _ (n + r.layouts) (more_drawn (stage_ws v.stage) n (n + r.layouts) (omega arith) e) (fresh_servers r.layouts n)
sets_stay r v round false n e l = agree r v n e l

-- a refusal, whatever is awaited
nack_if : (r : Reconf) (v : Voting) (b : Ballot) (t : Bool) (n : ℕ) → waits_drawn n (stage_ws v.stage) ≡ true → waits_drawn n (later_ws v.later) ≡ true → AreDrawn n r →
    StaysBy (if t then nacked r v b n else turn n (Goes r))
nack_if r v b true n e l d = sets_stay r v (round_after v b) _ n e l
nack_if r v b false n e l d = d

promise_if : (r : Reconf) (v : Voting) (u : ℕ) (a : Before) (ws : Waits) (ps : List Before) (t : Bool) (n : ℕ) → waits_drawn n ws ≡ true → waits_drawn n (later_ws v.later) ≡ true →
    AreDrawn n r → StaysBy (if t then promised r v u a ws ps n else turn n (Goes r))
promise_if r v u a ws ps true n e l d = promised_stays r v (without_wait u ws) (a ∷ ps) _ n (others_drawn u ws n e) l
promise_if r v u a ws ps false n e l d = d

accept_if : (r : Reconf) (v : Voting) (u : ℕ) (ws : Waits) (k : ℕ) (q : Layout) (t : Bool) (n : ℕ) → waits_drawn n ws ≡ true → waits_drawn n (later_ws v.later) ≡ true →
    AreDrawn n r → StaysBy (if t then accepted r v u ws k q n else turn n (Goes r))
accept_if r v u ws k q true n e l d = accepted_stays r v (without_wait u ws) (k + 1) q _ n (others_drawn u ws n e) l
accept_if r v u ws k q false n e l d = d

stage_stays : (r : Reconf) (v : Voting) (s : Stage) (u : ℕ) (x : Reply) (n : ℕ) → waits_drawn n (stage_ws s) ≡ true → waits_drawn n (stage_ws v.stage) ≡ true →
    waits_drawn n (later_ws v.later) ≡ true → AreDrawn n r → StaysBy (stage_feed r v s u x n)
stage_stays r v (Preparing ws ps) u (IsPromise e b a) n w vs l d = promise_if r v u a ws ps _ n w l d
stage_stays r v (Accepting ws k q) u (IsAccepted e b) n w vs l d = accept_if r v u ws k q _ n w l d
stage_stays r v (Preparing ws ps) u (IsNack e b) n w vs l d = nack_if r v b _ n vs l d
stage_stays r v (Accepting ws k q) u (IsNack e b) n w vs l d = nack_if r v b _ n vs l d
stage_stays r v _ u _ n w vs l d = d

later_stays : (r : Reconf) (v : Voting) (l : Later) (u : ℕ) (x : Reply) (b : Bool) (n : ℕ) → waits_drawn n l.waits ≡ true → AreDrawn n r → StaysBy (later_feed r v l u x n b)
later_stays r v l u x true n h d = stage_stays r (begun v l) (begun v l).stage u x n h h refl d
later_stays r v l u x false n h d = d

set_if : (r : Reconf) (v : Voting) (l : Later) (u : ℕ) (x : Reply) (b : Bool) (n : ℕ) → waits_drawn n l.waits ≡ true → waits_drawn n (stage_ws v.stage) ≡ true →
    waits_drawn n (later_ws v.later) ≡ true → AreDrawn n r → StaysBy (if b then later_feed r v l u x n (is_answer r l x) else stage_feed r v v.stage u x n)
set_if r v l u x true n h s e d = later_stays r v l u x _ n h d
set_if r v l u x false n h s e d = stage_stays r v v.stage u x n s s e d

vote_stays : (r : Reconf) (v : Voting) (o : Option Later) (u rid : ℕ) (x : Reply) (n : ℕ) → waits_drawn n (later_ws o) ≡ true → waits_drawn n (stage_ws v.stage) ≡ true →
    waits_drawn n (later_ws v.later) ≡ true → AreDrawn n r → StaysBy (vote_feed r v o u rid x n)
vote_stays r v None u rid x n h s e d = stage_stays r v v.stage u x n s s e d
vote_stays r v (Some l) u rid x n h s e d = set_if r v l u x (has_rid u rid l.waits) n h s e d

started_stays : (r : Reconf) (b : Bool) (n : ℕ) → AreDrawn n r → StaysBy (started_if r n b)
started_stays r true n d = tt
started_stays r false n d = d

feed_stays : (r : Reconf) (w : ReconfWork) (u rid : ℕ) (x : Reply) (n : ℕ) → AreDrawn n (at_work r w) → StaysBy (reconf_feed (at_work r w) w u rid x n)
unfolding reconf_feed
feed_stays r (SealingSpare k) u rid (IsSealed e h) n d = looks_stay (at_work r (SealingSpare k)) _ n d
feed_stays r (SealingSpare k) u rid (IsFenced e) n d = seals_if_stay (at_work r (SealingSpare k)) _ n d
feed_stays r (LookingSpare k) u rid IsWhole n d = seals_stay (at_work r (LookingSpare k)) n
feed_stays r (LookingSpare k) u rid (IsMissing pos) n d = tt
feed_stays r (LookingSpare k) u rid (IsFenced e) n d = seals_if_stay (at_work r (LookingSpare k)) _ n d
feed_stays r (Sealing ws acks) u rid (IsSealed e h) n d = sealed_stays (at_work r (Sealing ws acks)) u h ws acks _ n (sealed_ws r ws acks n d) d
feed_stays r (Sealing ws acks) u rid (IsFenced e) n d = learns_stay (at_work r (Sealing ws acks)) _ n d
feed_stays r (LookingAgain k acks) u rid IsWhole n d = prepares_stay (at_work r (LookingAgain k acks)) _ n
feed_stays r (LookingAgain k acks) u rid (IsMissing pos) n d = tt
feed_stays r (LookingAgain k acks) u rid (IsFenced e) n d = learns_stay (at_work r (LookingAgain k acks)) _ n d
feed_stays r (Agreeing v) u rid x n d = vote_stays (at_work r (Agreeing v)) v v.later u rid x n (agreed_later r v n d) (agreed_stage r v n d) (agreed_later r v n d) d
feed_stays r (Starting k) u rid (IsTail t ls) n d = started_stays (at_work r (Starting k)) _ n d
feed_stays r (Starting k) u rid (IsOldEpoch e) n d = learns_stay (at_work r (Starting k)) _ n d
feed_stays r _ u rid _ n d = d

fed_stays_if : (b : Bool) (r : Reconf) (u rid : ℕ) (m : Msg) (n : ℕ) → AreDrawn n r → StaysBy (fed_if b r u rid m n)
fed_stays_if true r u rid m n d = feed_stays r r.work u rid (reply m) n d
fed_stays_if false r u rid m n d = d

pub fed_stays : (r : Reconf) (from : NodeId) (rid : ℕ) (m : Msg) (n : ℕ) → AreDrawn n r → StayDrawn (fed r from rid m n).next (fed r from rid m n).to
fed_stays r from rid m n d = fed_stays_if (awaits (reconf_awaited r) from rid) r from.num rid m n d

first_stays : (r : Reconf) (j : Option Join) (n : ℕ) → StaysBy (first_step r n j)
first_stays r None n = seals_stay r n
first_stays r (Some j) n = spare_stays r n

pub begun_stays : (p : Layout) (layouts : ℕ) (c : Changed) (me n : ℕ) → StayDrawn (reconf_start p layouts c me n).next (reconf_start p layouts c me n).to
unfolding reconf_start
begun_stays p layouts c me n = first_stays (record { change = c; me = me; layouts = layouts; stand = p; work = SealingSpare 0 }) c.join n

adopts_stay : (r : Reconf) (q : Layout) (b : Bool) (n : ℕ) → StaysBy (adopts r q n b)
adopts_stay r q true n = start_stays (record r { stand = q }) n
adopts_stay r q false n = tt

heard_stays : (r : Reconf) (ws : Waits) (k : ℕ) (q : Layout) (b : Bool) (n : ℕ) → waits_drawn n ws ≡ true → StaysBy (heard_on r ws k q n b)
heard_stays r ws k q true n h = adopts_stay r q _ n
heard_stays r ws k q false n h = tell r ws k q n h

own_stays : (r : Reconf) (w : ReconfWork) (q : Layout) (n : ℕ) → AreDrawn n r → StaysBy (own_decided r w q n)
own_stays r (Telling ws k p) q n d = d
own_stays r _ q n d = tells_stay r q n

newer_stays : (r : Reconf) (q : Layout) (b : Bool) (n : ℕ) → AreDrawn n r → StaysBy (on_newer r q n b)
newer_stays r q true n d = own_stays r r.work q n d
newer_stays r q false n d = tt

told_stays : (r : Reconf) (ws : Waits) (k u : ℕ) (p q : Layout) (b : Bool) (n : ℕ) → waits_drawn n ws ≡ true → AreDrawn n r →
    StaysBy (if b then heard r u ws k p n else on_newer r q n (is_own r q))
told_stays r ws k u p q true n h d = heard_stays r (without_wait u ws) (k + 1) p _ n (others_drawn u ws n h)
told_stays r ws k u p q false n h d = newer_stays r q _ n d

layout_stays : (r : Reconf) (w : ReconfWork) (u rid : ℕ) (q : Layout) (n : ℕ) → AreDrawn n (at_work r w) → StaysBy (reconf_latest (at_work r w) w u rid q n)
unfolding reconf_latest
layout_stays r (Starting k) u rid q n d = tt
layout_stays r (Telling ws k p) u rid q n d = told_stays (at_work r (Telling ws k p)) ws k u p q _ n (told_ws r ws k p n d) d
layout_stays r w u rid q n d = newer_stays (at_work r w) q _ n d

pub latest_stays : (r : Reconf) (u rid : ℕ) (q : Layout) (n : ℕ) → AreDrawn n r → StayDrawn (reconf_latest r r.work u rid q n).next (reconf_latest r r.work u rid q n).to
latest_stays r u rid q n d = layout_stays r r.work u rid q n d

pub numbers_stay_drawn : NumbersStayDrawn
numbers_stay_drawn = record { starts = begun_stays; answers = fed_stays; layouts = latest_stays }

-- What a call gives.

shown_stays : (t : Step) (n old : ℕ) (x : ReconfTurn) → shown t n ≡ by_reconf old x → StayDrawn x.next x.to → StayDrawn n (next_of t.next)
shown_stays t n old x e h = subst (λ (s : Shown Reconf ReconfEnd). StayDrawn s.next s.to) (sym e) h

pub gives_drawn : (t : Result Step NoMemory) (n old : ℕ) (x : ReconfTurn) → StayDrawn x.next x.to → IfOk t (λ s. shown s n ≡ by_reconf old x) → IfOk t (λ s. StayDrawn n (next_of s.next))
gives_drawn (Ok t) n old x h e = shown_stays t n old x e h
gives_drawn (Err f) n old x h e = e

-- requests whose numbers were drawn aren't new ones

no_new : (o : Out) (os : List Out) (n k : ℕ) → nat_lt o.rid n ≡ true → drawn_between n k os ≡ [] → drawn_between n k (o ∷ os) ≡ []
unfolding drawn_between
no_new o os n k h e = grind (arith, nat_tests)

pub none_new : (os : List Out) (n k : ℕ) → all_drawn n os ≡ true → drawn_between n k os ≡ []
unfolding drawn_between
none_new [] n k h = refl
none_new (o ∷ os) n k h = no_new o os n k (and-left _ _ h) (none_new os n k (and-right _ _ h))
