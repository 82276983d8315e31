-- What the layer above rests on: on which answers a reconfiguration ends, waits to learn and goes on, that what it installs is
-- its own, that its numbers were drawn, and how many requests it still sends.
use Rattle.std.specs.Prelude.{◌≡◌, ◌⊎◌, ℕ, ◌+◌, ◌<◌, ◌≤◌, Bool, true, false, not, ◌&&◌, ◌==◌, nat_lt, List, [], ◌∷◌, length, Option, Some, None, is_some, if◌then◌else◌}
use Rattle.tg_base.specs.Layouts.{Layout}
use Rattle.tg_base.specs.Changes.{Changed}
use Rattle.tg_base.specs.declared.ids.NodeId.{NodeId}
use Rattle.tg_base.specs.declared.msg.Msg.{Msg}
use Rattle.tg_base.specs.declared.packet.Packet.{Packet}
use Rattle.tg_base.specs.Orders.{node_eq}
use Rattle.tg_protocol.specs.Words.{layout_id}
use Rattle.tg_protocol.specs.Layouts.{next_units}
use Rattle.tg_protocol.specs.Replies.{Reply, IsFenced, IsSealed, IsMissing, IsWhole, IsPromise, IsNack, IsAccepted, IsLatest, IsTail, IsOldEpoch, reply}
use Rattle.tg_protocol.specs.Requests.{Waits, without_wait, Next, Goes, Learns, Ends, turn, awaits}
use Rattle.tg_protocol.specs.Appending.{names_all}
use Rattle.tg_protocol.specs.Reconfiguring.{Reconf, ReconfWork, SealingSpare, LookingSpare, Sealing, LookingAgain, Agreeing, Telling, Starting, Voting, Stage, Preparing, Accepting, Later, ReconfEnd, Installed, Overtaken, NotWhole, ReconfTurn, reconf_start, reconf_latest, reconf_awaited, next_epoch, has_rid, begun, same_vote, is_of_epoch, is_majority, is_own}
use Rattle.tg_reconf.specs.Turns.{by_reconf, fed, AreDrawn, StayDrawn}

-- Ends.

-- the spare is asked whether it has the whole stripe
abbrev pub looks : ReconfWork → Bool
looks (LookingSpare k) = true
looks (LookingAgain k acks) = true
looks w = false

abbrev pub starts : ReconfWork → Bool
starts (Starting k) = true
starts w = false

-- a sequencer's tail, with no links
abbrev pub is_bare_tail : Reply → Bool
is_bare_tail (IsTail t []) = true
is_bare_tail x = false

-- what a node has answered where the machine ends so: it never ends as overtaken by an answer
abbrev pub FeedEndsBy : Reconf → ℕ → Reply → ReconfEnd → Type 0
FeedEndsBy r u x (Installed e s) = (starts r.work ≡ true) × (is_bare_tail x ≡ true) × (e ≡ r.stand.epoch) × (s ≡ r.stand)
FeedEndsBy r u x (Overtaken e s) = ⊥
FeedEndsBy r u x (NotWhole v pos s) = (looks r.work ≡ true) × (x ≡ IsMissing pos) × (v ≡ u) × (s ≡ r.stand)

-- it ends only on such an answer, from a node that was asked, with the number of that request
abbrev pub FeedEndsByAnswers : Type 0
FeedEndsByAnswers = (r : Reconf) (from : NodeId) (rid : ℕ) (m : Msg) (next : ℕ) (e : ReconfEnd) →
    (fed r from rid m next).to ≡ Ends e → (awaits (reconf_awaited r) from rid ≡ true) × FeedEndsBy r from.num (reply m) e

-- the layout that the layout servers are told, and how many have heard it
abbrev pub IsHeard : Reconf → ReconfWork → ℕ → ℕ → Layout → Layout → Type 0
IsHeard r (Telling ws k p) n rid q s =
    (has_rid n rid ws ≡ true) × (q.epoch ≡ next_epoch r) × (is_majority r (k + 1) ≡ true) × (s ≡ p) × ((p.by == r.me) ≡ false)
IsHeard r w n rid q s = ⊥

-- a newer layout isn't the client's own of the next epoch
abbrev pub IsOther : Reconf → Layout → Layout → Type 0
IsOther r q s = (s ≡ q) × (is_own r q ≡ false)

-- by a layout it ends as installed while the new sequencer starts; and as overtaken by another client's, which a majority has heard
-- to be decided, or which is newer
abbrev pub LatestEndsBy : Reconf → ℕ → ℕ → Layout → ReconfEnd → Type 0
LatestEndsBy r n rid q (Installed e s) = (starts r.work ≡ true) × (e ≡ r.stand.epoch) × (s ≡ q)
LatestEndsBy r n rid q (Overtaken e s) = (e ≡ s.epoch) × (IsHeard r r.work n rid q s ⊎ IsOther r q s)
LatestEndsBy r n rid q (NotWhole u pos s) = ⊥

abbrev pub LatestEndsAsTold : Type 0
LatestEndsAsTold = (r : Reconf) (n rid : ℕ) (q : Layout) (next : ℕ) (e : ReconfEnd) →
    (reconf_latest r r.work n rid q next).to ≡ Ends e → LatestEndsBy r n rid q e

-- Learning.

-- a node's later epoch, for which a newer layout has to be learnt
abbrev pub LearnsBy : Reconf → ReconfWork → Reply → Type 0
LearnsBy r (Sealing ws acks) (IsFenced e) = next_epoch r < e
LearnsBy r (LookingAgain k acks) (IsFenced e) = next_epoch r < e
LearnsBy r (Starting k) (IsOldEpoch e) = r.stand.epoch < e
LearnsBy r w x = ⊥

-- it waits to learn only on such an answer, from a node that was asked, and is then as before
abbrev pub LearnsByAnswers : Type 0
LearnsByAnswers = (r : Reconf) (from : NodeId) (rid : ℕ) (m : Msg) (next : ℕ) (k : Reconf) →
    (fed r from rid m next).to ≡ Learns k → (awaits (reconf_awaited r) from rid ≡ true) × LearnsBy r r.work (reply m) × (k ≡ r)

-- Going on.

-- the round that an answer of this server under this number is of
abbrev pub round_fed : Voting → Option Later → ℕ → ℕ → Voting
round_fed v None u rid = v
round_fed v (Some l) u rid = if has_rid u rid l.waits then begun v l else v

-- the vote with which a majority has promised, or has accepted
abbrev pub completes_stage : Reconf → ℕ → Stage → Reply → Bool
completes_stage r round (Preparing ws ps) (IsPromise e b a) = (same_vote r round e b && is_of_epoch e a) && is_majority r (length (a ∷ ps))
completes_stage r round (Accepting ws k q) (IsAccepted e b) = same_vote r round e b && is_majority r (k + 1)
completes_stage r round s x = false

abbrev pub completes_round : Reconf → Voting → Reply → Bool
completes_round r v x = completes_stage r v.round v.stage x

abbrev pub none_left : Waits → Bool
none_left [] = true
none_left (w ∷ ws) = false

-- the answers that complete a step, or cut it short
abbrev pub completes : Reconf → ReconfWork → ℕ → ℕ → Reply → Bool
completes r (SealingSpare k) u rid (IsSealed e h) = (e == r.stand.epoch) && is_some r.change.join
completes r (SealingSpare k) u rid (IsFenced e) = nat_lt r.stand.epoch e
completes r (LookingSpare k) u rid IsWhole = true
completes r (LookingSpare k) u rid (IsMissing pos) = true
completes r (LookingSpare k) u rid (IsFenced e) = nat_lt r.stand.epoch e
completes r (Sealing ws acks) u rid (IsSealed e h) = (e == next_epoch r) && none_left (without_wait u ws)
completes r (Sealing ws acks) u rid (IsFenced e) = nat_lt (next_epoch r) e
completes r (LookingAgain k acks) u rid IsWhole = true
completes r (LookingAgain k acks) u rid (IsMissing pos) = true
completes r (LookingAgain k acks) u rid (IsFenced e) = nat_lt (next_epoch r) e
completes r (Agreeing v) u rid x = completes_round r (round_fed v v.later u rid) x
completes r (Starting k) u rid (IsTail t ls) = names_all [] ls
completes r (Starting k) u rid (IsOldEpoch e) = nat_lt r.stand.epoch e
completes r w u rid x = false

-- there is a layout server, and the next layout has a unit
pub record HasNodes (r : Reconf) : Type 0 where
  pub servers : 1 ≤ r.layouts
  pub units : 1 ≤ length (next_units r.stand r.change)

-- it goes on without sending anything only where the message isn't awaited or completes no step
abbrev pub WaitsForAnswers : Type 0
WaitsForAnswers = (r : Reconf) (from : NodeId) (rid : ℕ) (m : Msg) (next : ℕ) (k : Reconf) → HasNodes r →
    (fed r from rid m next).to ≡ Goes k → (by_reconf next (fed r from rid m next)).outs ≡ [] →
    (awaits (reconf_awaited r) from rid && completes r r.work from.num rid (reply m)) ≡ false

-- the layout servers are told a layout, which no majority has heard yet, or which is the client's own that comes otherwise
abbrev pub tells_on : Reconf → ReconfWork → ℕ → ℕ → Layout → Bool
tells_on r (Telling ws k p) n rid q = if has_rid n rid ws && (q.epoch == next_epoch r) then not (is_majority r (k + 1)) else is_own r q
tells_on r w n rid q = false

-- by a newer layout it goes on without sending anything only then
abbrev pub WaitsToTell : Type 0
WaitsToTell = (r : Reconf) (n rid : ℕ) (q : Layout) (next : ℕ) (k : Reconf) → HasNodes r →
    (reconf_latest r r.work n rid q next).to ≡ Goes k → (by_reconf next (reconf_latest r r.work n rid q next)).outs ≡ [] → tells_on r r.work n rid q ≡ true

-- The client's own layout.

-- the sequencer that is started is that of the client's own layout
abbrev pub OwnIn : Reconf → ReconfWork → Type 0
OwnIn r (Starting k) = r.stand.by ≡ r.me
OwnIn r w = Unit {0}

abbrev pub IsOwn : Reconf → Type 0
IsOwn r = OwnIn r r.work

abbrev pub NextIsOwn : Next Reconf ReconfEnd → Type 0
NextIsOwn (Goes r) = IsOwn r
NextIsOwn (Learns r) = IsOwn r
NextIsOwn (Ends e) = Unit {0}

-- each step keeps this
pub record StartsAreOwn : Type 0 where
  pub starts : (p : Layout) (layouts : ℕ) (c : Changed) (me next : ℕ) → NextIsOwn (reconf_start p layouts c me next).to
  pub answers : (r : Reconf) (from : NodeId) (rid : ℕ) (m : Msg) (next : ℕ) → IsOwn r → NextIsOwn (fed r from rid m next).to
  pub layouts : (r : Reconf) (n rid : ℕ) (q : Layout) (next : ℕ) → IsOwn r → NextIsOwn (reconf_latest r r.work n rid q next).to

-- Numbers.

-- from its beginning on the machine awaits numbers that were drawn
pub record NumbersStayDrawn : Type 0 where
  pub starts : (p : Layout) (layouts : ℕ) (c : Changed) (me next : ℕ) →
      StayDrawn (reconf_start p layouts c me next).next (reconf_start p layouts c me next).to
  pub answers : (r : Reconf) (from : NodeId) (rid : ℕ) (m : Msg) (next : ℕ) → AreDrawn next r →
      StayDrawn (fed r from rid m next).next (fed r from rid m next).to
  pub layouts : (r : Reconf) (n rid : ℕ) (q : Layout) (next : ℕ) → AreDrawn next r →
      StayDrawn (reconf_latest r r.work n rid q next).next (reconf_latest r r.work n rid q next).to

-- Requests to come.

-- the votes, that it is decided, and the sequencer: from the first `Prepare` on
abbrev pub left_to_propose : Reconf → ℕ
left_to_propose r = r.layouts + r.layouts + r.layouts + 1

abbrev pub left_to_seal : Reconf → ℕ
left_to_seal r = length (next_units r.stand r.change) + 1 + left_to_propose r

abbrev pub left_of_stage : Reconf → Stage → ℕ
left_of_stage r (Preparing ws ps) = r.layouts + r.layouts + 1
left_of_stage r (Accepting ws n q) = r.layouts + 1

-- the round that a refusal has set may begin after `Accept`s of this one
abbrev pub left_of_later : Reconf → Option Later → ℕ
left_of_later r None = 0
left_of_later r (Some l) = r.layouts

-- how many requests are still drawn until the end, where no layout server refuses a ballot
abbrev pub left_in : Reconf → ReconfWork → ℕ
left_in r (SealingSpare k) = 1 + left_to_seal r
left_in r (LookingSpare k) = left_to_seal r
left_in r (Sealing ws acks) = 1 + left_to_propose r
left_in r (LookingAgain k acks) = left_to_propose r
left_in r (Agreeing v) = left_of_stage r v.stage + left_of_later r v.later
left_in r (Telling ws n q) = 1
left_in r (Starting k) = 0

abbrev pub left : Reconf → ℕ
left r = left_in r r.work

abbrev pub left_then : Next Reconf ReconfEnd → ℕ
left_then (Goes r) = left r
left_then (Learns r) = left r
left_then (Ends e) = 0

-- a refusal costs a further round
abbrev pub cost : Reconf → Reply → ℕ
cost r (IsNack e b) = r.layouts + r.layouts
cost r x = 0

-- a step draws no more numbers than its machine then has fewer to draw, but for a refusal's cost
pub record StepsAreFew : Type 0 where
  pub answers : (r : Reconf) (from : NodeId) (rid : ℕ) (m : Msg) (next : ℕ) →
      (fed r from rid m next).next + left_then (fed r from rid m next).to ≤ next + left r + cost r (reply m)
  pub layouts : (r : Reconf) (n rid : ℕ) (q : Layout) (next : ℕ) →
      (reconf_latest r r.work n rid q next).next + left_then (reconf_latest r r.work n rid q next).to ≤ next + left r

-- A newer layout of a layout server is taken as such, and every other message as an answer. While it waits to learn nothing else
-- is awaited.

abbrev pub tells_newer : Reconf → NodeId → Layout → Bool
tells_newer r from q = node_eq from (layout_id from.num) && nat_lt r.stand.epoch q.epoch

abbrev pub by_message : Reconf → Packet → Reply → ℕ → ReconfTurn
by_message r p (IsLatest q) next = if tells_newer r p.from q then reconf_latest r r.work p.from.num p.rid q next else fed r p.from p.rid p.msg next
by_message r p x next = fed r p.from p.rid p.msg next

abbrev pub by_layout : Reconf → Packet → Reply → ℕ → ReconfTurn
by_layout r p (IsLatest q) next = if tells_newer r p.from q then reconf_latest r r.work p.from.num p.rid q next else turn next (Learns r)
by_layout r p x next = turn next (Learns r)

-- what becomes of a machine after these messages
abbrev pub fed_next : Next Reconf ReconfEnd → Packet → ℕ → ReconfTurn
fed_next (Goes r) p next = by_message r p (reply p.msg) next
fed_next (Learns r) p next = by_layout r p (reply p.msg) next
fed_next (Ends e) p next = turn next (Ends e)

unfoldable pub fed_all : Next Reconf ReconfEnd → List Packet → ℕ → ReconfTurn
fed_all x [] next = turn next x
fed_all x (p ∷ ps) next = fed_all (fed_next x p next).to ps (fed_next x p next).next

abbrev pub cost_then : Next Reconf ReconfEnd → Reply → ℕ
cost_then (Goes r) x = cost r x
cost_then (Learns r) x = 0
cost_then (Ends e) x = 0

unfoldable pub cost_of : Next Reconf ReconfEnd → List Packet → ℕ → ℕ
cost_of x [] next = 0
cost_of x (p ∷ ps) next = cost_then x (reply p.msg) + cost_of (fed_next x p next).to ps (fed_next x p next).next

-- whatever messages come, a machine draws no more numbers than these
abbrev pub RequestsAreFew : Type 0
RequestsAreFew = (r : Reconf) (ps : List Packet) (next : ℕ) →
    (fed_all (Goes r) ps next).next ≤ next + left r + cost_of (Goes r) ps next

-- and from its beginning on
abbrev pub StartsWithFew : Type 0
StartsWithFew = (p : Layout) (layouts : ℕ) (c : Changed) (me next : ℕ) →
    (reconf_start p layouts c me next).next + left_then (reconf_start p layouts c me next).to
    ≤ next + 3 + length (next_units p c) + layouts + layouts + layouts + 1
