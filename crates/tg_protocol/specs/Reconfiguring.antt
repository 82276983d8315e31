-- A reconfiguration: seal the units, agree on the next layout, tell the layout servers, and set up the sequencer.
use Rattle.std.specs.Prelude.{ℕ, ◌+◌, ◌^◌, Bool, true, false, ◌&&◌, ◌||◌, ◌==◌, nat_lt, max, List, [], ◌∷◌, ◌++◌, length, Option, Some, None, if◌then◌else◌}
use Rattle.tg_base.specs.Layouts.{Layout}
use Rattle.tg_base.specs.Changes.{Changed}
use Rattle.tg_base.specs.declared.change.Join.{Join}
use Rattle.tg_base.specs.declared.ids.Ballot.{Ballot}
use Rattle.tg_base.specs.declared.msg.Msg.TheVariants as msg
use Rattle.tg_base.specs.declared.packet.Out.{Out}
use Rattle.tg_protocol.specs.Words.{unit_id, layout_id, seqr_id, ballot_lt, numbers}
use Rattle.tg_base.specs.Orders.{ballot_eq}
use Rattle.tg_proj.specs.Refusals.{new_start}
use Rattle.tg_protocol.specs.Layouts.{next_units, next_of}
use Rattle.tg_protocol.specs.Requests.{out, Waits, waits_for, asked_of, without_wait, Goes, Turn, turn, passes, draws, ends}
use Rattle.tg_protocol.specs.Replies.{Reply, IsFenced, IsSealed, IsMissing, IsWhole, IsPromise, IsNack, IsAccepted, IsTail, IsOldEpoch}
use Rattle.tg_protocol.specs.Appending.{names_all}
use Rattle.tg_protocol.specs.Trimming.{has_stripe, learns_if}

-- `high` by unit
abbrev pub Acks : Type 0
Acks = List (ℕ × ℕ)

-- what an acceptor had accepted before
abbrev pub Before : Type 0
Before = Option (Ballot × Layout)

-- the two stages of a round
pub data Stage : Type 0 where
  Preparing : (waits : Waits) → (promises : List Before) → Stage
  Accepting : (waits : Waits) → (accepted : ℕ) → (proj : Layout) → Stage

-- the round that a `Nack` has set: the next tick begins it
pub record Later : Type 0 where
  pub round : ℕ
  pub waits : Waits

pub record Voting : Type 0 where
  pub own : Layout  -- the client's own proposal
  pub round : ℕ
  pub stage : Stage
  pub later : Option Later

pub data ReconfWork : Type 0 where
  SealingSpare : (rid : ℕ) → ReconfWork  -- at the present epoch
  LookingSpare : (rid : ℕ) → ReconfWork  -- whether it has the whole stripe
  Sealing : (waits : Waits) → (acks : Acks) → ReconfWork  -- the new layout's units, at the next epoch
  LookingAgain : (rid : ℕ) → (acks : Acks) → ReconfWork  -- at the next epoch
  Agreeing : (voting : Voting) → ReconfWork
  Telling : (waits : Waits) → (heard : ℕ) → (proj : Layout) → ReconfWork  -- that it is decided
  Starting : (rid : ℕ) → ReconfWork  -- the new sequencer

pub record Reconf : Type 0 where
  pub change : Changed
  pub me : ℕ
  pub layouts : ℕ  -- how many layout servers there are
  pub stand : Layout  -- the client's layout
  pub work : ReconfWork

pub data ReconfEnd : Type 0 where
  Installed : (epoch : ℕ) → (stand : Layout) → ReconfEnd
  Overtaken : (epoch : ℕ) → (stand : Layout) → ReconfEnd
  NotWhole : (unit pos : ℕ) → (stand : Layout) → ReconfEnd

abbrev pub ReconfTurn : Type 0
ReconfTurn = Turn Reconf ReconfEnd

abbrev pub next_epoch : Reconf → ℕ
next_epoch r = r.stand.epoch + 1

abbrev pub servers : Reconf → List ℕ
servers r = numbers r.layouts 0

abbrev pub ballot_of : Reconf → ℕ → Ballot
ballot_of r round = record { round = round; client = r.me }

abbrev pub is_majority : Reconf → ℕ → Bool
is_majority r n = nat_lt r.layouts (n + n)

abbrev pub at_work : Reconf → ReconfWork → Reconf
at_work r w = record r { work = w }

-- What is outstanding.

abbrev pub join_asks : Option Join → (Join → List Out) → List Out
join_asks None f = []
join_asks (Some j) f = f j

abbrev pub stage_asks : Reconf → ℕ → Stage → List Out
stage_asks r round (Preparing ws ps) = asked_of layout_id (msg.Prepare (next_epoch r) (ballot_of r round)) ws
stage_asks r round (Accepting ws n q) = asked_of layout_id (msg.Accept (next_epoch r) (ballot_of r round) q) ws

unfoldable pub reconf_work_asks : Reconf → ReconfWork → List Out
reconf_work_asks r (SealingSpare n) = join_asks r.change.join (λ j. out (unit_id j.unit) n (msg.Seal r.stand.epoch) ∷ [])
reconf_work_asks r (LookingSpare n) = join_asks r.change.join (λ j. out (unit_id j.unit) n (has_stripe r.stand.epoch r.stand j.range j.stripe) ∷ [])
reconf_work_asks r (Sealing ws acks) = asked_of unit_id (msg.Seal (next_epoch r)) ws
reconf_work_asks r (LookingAgain n acks) = join_asks r.change.join (λ j. out (unit_id j.unit) n (has_stripe (next_epoch r) r.stand j.range j.stripe) ∷ [])
reconf_work_asks r (Agreeing v) = stage_asks r v.round v.stage
reconf_work_asks r (Telling ws n q) = asked_of layout_id (msg.Decided q) ws
reconf_work_asks r (Starting n) = out (seqr_id r.stand.seq) n (msg.Learn r.stand) ∷ []

-- the requests of the present round or step
abbrev pub reconf_asks : Reconf → List Out
reconf_asks r = reconf_work_asks r r.work

-- the `Prepare`s of the round that a `Nack` has set
abbrev pub set_asks : Reconf → Option Later → List Out
set_asks r None = []
set_asks r (Some l) = asked_of layout_id (msg.Prepare (next_epoch r) (ballot_of r l.round)) l.waits

abbrev pub later_asks : Reconf → ReconfWork → List Out
later_asks r (Agreeing v) = set_asks r v.later
later_asks r _ = []

-- what is awaited
abbrev pub reconf_awaited : Reconf → List Out
reconf_awaited r = reconf_asks r ++ later_asks r r.work

abbrev pub this_or : List Out → List Out → List Out
this_or [] ys = ys
this_or (x ∷ xs) ys = x ∷ xs

-- what a tick sends again: the set round's `Prepare`s in place of the present requests
abbrev pub reconf_again_asks : Reconf → List Out
reconf_again_asks r = this_or (later_asks r r.work) (reconf_asks r)

-- Step 1: the seals.

abbrev pub seals : Reconf → ℕ → ReconfTurn
seals r next = turn (next + length (next_units r.stand r.change)) (Goes (at_work r (Sealing (waits_for (next_units r.stand r.change) next) [])))

abbrev pub first_step : Reconf → ℕ → Option Join → ReconfTurn
first_step r next None = seals r next
first_step r next (Some j) = draws next (at_work r (SealingSpare next))

unfoldable pub reconf_start : Layout → ℕ → Changed → ℕ → ℕ → ReconfTurn
reconf_start p layouts c me next = first_step (record { change = c; me = me; layouts = layouts; stand = p; work = SealingSpare 0 }) next c.join

abbrev pub looks_if : Reconf → ℕ → Bool → ReconfTurn
looks_if r next true = draws next (at_work r (LookingSpare next))
looks_if r next false = passes next r

-- a fence of a later epoch leads straight to the seals
abbrev pub seals_if : Reconf → ℕ → Bool → ReconfTurn
seals_if r next true = seals r next
seals_if r next false = passes next r

-- Step 2: promises.

abbrev pub prepares : Reconf → Layout → ℕ → ReconfTurn
prepares r own next = turn (next + r.layouts) (Goes (at_work r (Agreeing (record {
  own = own;
  round = 1;
  stage = Preparing (waits_for (servers r) next) [];
  later = None;
}))))

-- the proposal has the start that the acks give
abbrev pub proposes : Reconf → Acks → ℕ → ReconfTurn
proposes r acks next = prepares r (next_of r.stand r.change r.me (new_start r.stand.start acks)) next

abbrev pub after_seals : Reconf → Acks → ℕ → Option Join → ReconfTurn
after_seals r acks next None = proposes r acks next
after_seals r acks next (Some j) = draws next (at_work r (LookingAgain next acks))

abbrev pub seals_left : Reconf → Waits → Acks → ℕ → ReconfTurn
seals_left r [] acks next = after_seals r acks next r.change.join
seals_left r (w ∷ ws) acks next = turn next (Goes (at_work r (Sealing (w ∷ ws) acks)))

abbrev pub sealed_if : Reconf → ℕ → ℕ → Waits → Acks → ℕ → Bool → ReconfTurn
sealed_if r u h ws acks next true = seals_left r (without_wait u ws) ((u, h) ∷ acks) next
sealed_if r u h ws acks next false = passes next r

-- Step 3: the accepted layout of the greatest ballot, or its own.

abbrev pub greater : Before → Before → Before
greater None b = b
greater (Some a) None = Some a
greater (Some a) (Some b) = if ballot_lt a.0 b.0 then Some b else Some a

abbrev pub greatest : List Before → Before
greatest [] = None
greatest (b ∷ bs) = greater b (greatest bs)

abbrev pub value_or : Before → Layout → Layout
value_or None own = own
value_or (Some b) own = b.1

abbrev pub with_stage : Reconf → Voting → Stage → Reconf
with_stage r v s = at_work r (Agreeing (record v { stage = s }))

abbrev pub promised_on : Reconf → Voting → Waits → List Before → ℕ → Bool → ReconfTurn
promised_on r v ws ps next true = turn (next + r.layouts) (Goes (with_stage r v (Accepting (waits_for (servers r) next) 0 (value_or (greatest ps) v.own))))
promised_on r v ws ps next false = turn next (Goes (with_stage r v (Preparing ws ps)))

abbrev pub promised : Reconf → Voting → ℕ → Before → Waits → List Before → ℕ → ReconfTurn
promised r v n a ws ps next = promised_on r v (without_wait n ws) (a ∷ ps) next (is_majority r (length (a ∷ ps)))

-- Step 4: it is decided.

abbrev pub tells : Reconf → Layout → ℕ → ReconfTurn
tells r q next = turn (next + r.layouts) (Goes (at_work r (Telling (waits_for (servers r) next) 0 q)))

abbrev pub accepted_on : Reconf → Voting → Waits → ℕ → Layout → ℕ → Bool → ReconfTurn
accepted_on r v ws n q next true = tells r q next
accepted_on r v ws n q next false = turn next (Goes (with_stage r v (Accepting ws n q)))

abbrev pub accepted : Reconf → Voting → ℕ → Waits → ℕ → Layout → ℕ → ReconfTurn
accepted r v u ws n q next = accepted_on r v (without_wait u ws) (n + 1) q next (is_majority r (n + 1))

-- Nacks.

-- one above the greater of the present round and the `Nack`'s
abbrev pub round_after : Voting → Ballot → ℕ
round_after v b = max v.round b.round + 1

abbrev pub round_set : Option Later → ℕ
round_set None = 0
round_set (Some l) = l.round

abbrev pub sets_if : Reconf → Voting → ℕ → ℕ → Bool → ReconfTurn
sets_if r v round next true = turn (next + r.layouts) (Goes (at_work r (Agreeing (record v { later = Some (record { round = round; waits = waits_for (servers r) next }) }))))
sets_if r v round next false = turn next (Goes (at_work r (Agreeing v)))

-- a round that is set draws its numbers now and is sent by the next tick; a greatest round isn't raised
abbrev pub nacked : Reconf → Voting → Ballot → ℕ → ReconfTurn
nacked r v b next = sets_if r v (round_after v b) next (nat_lt (round_set v.later) (round_after v b) && nat_lt (round_after v b) (2 ^ 32))

-- Answers of a round.

abbrev pub same_vote : Reconf → ℕ → ℕ → Ballot → Bool
same_vote r round e b = (e == next_epoch r) && ballot_eq b (ballot_of r round)

abbrev pub is_of_epoch : ℕ → Before → Bool
is_of_epoch e None = true
is_of_epoch e (Some b) = b.1.epoch == e

abbrev pub stage_feed : Reconf → Voting → Stage → ℕ → Reply → ℕ → ReconfTurn
stage_feed r v (Preparing ws ps) n (IsPromise e b a) next =
    if same_vote r v.round e b && is_of_epoch e a then promised r v n a ws ps next else passes next r
stage_feed r v (Accepting ws k q) n (IsAccepted e b) next =
    if same_vote r v.round e b then accepted r v n ws k q next else passes next r
stage_feed r v s n (IsNack e b) next = if e == next_epoch r then nacked r v b next else passes next r
stage_feed r v s n x next = passes next r

-- the first answer to a set round's `Prepare` begins that round
abbrev pub begun : Voting → Later → Voting
begun v l = record { own = v.own; round = l.round; stage = Preparing l.waits []; later = None }

abbrev pub is_answer : Reconf → Later → Reply → Bool
is_answer r l (IsPromise e b a) = same_vote r l.round e b && is_of_epoch e a
is_answer r l (IsNack e b) = e == next_epoch r
is_answer r l _ = false

abbrev pub later_feed : Reconf → Voting → Later → ℕ → Reply → ℕ → Bool → ReconfTurn
later_feed r v l n x next true = stage_feed r (begun v l) (begun v l).stage n x next
later_feed r v l n x next false = passes next r

-- the answer is to a request of this number
abbrev pub has_rid : ℕ → ℕ → Waits → Bool
has_rid n rid [] = false
has_rid n rid (w ∷ ws) = ((w.0 == n) && (w.1 == rid)) || has_rid n rid ws

abbrev pub vote_feed : Reconf → Voting → Option Later → ℕ → ℕ → Reply → ℕ → ReconfTurn
vote_feed r v None n rid x next = stage_feed r v v.stage n x next
vote_feed r v (Some l) n rid x next = if has_rid n rid l.waits then later_feed r v l n x next (is_answer r l x) else stage_feed r v v.stage n x next

-- Step 6: the new sequencer.

abbrev pub started_if : Reconf → ℕ → Bool → ReconfTurn
started_if r next true = ends next (Installed r.stand.epoch r.stand)
started_if r next false = passes next r

abbrev pub not_whole : Reconf → ℕ → ℕ → ℕ → ReconfTurn
not_whole r u pos next = ends next (NotWhole u pos r.stand)

-- an awaited answer of a node with this number, but for `Latest`
unfoldable pub reconf_feed : Reconf → ReconfWork → ℕ → ℕ → Reply → ℕ → ReconfTurn
reconf_feed r (SealingSpare k) n rid (IsSealed e h) next = looks_if r next (e == r.stand.epoch)
reconf_feed r (SealingSpare k) n rid (IsFenced e) next = seals_if r next (nat_lt r.stand.epoch e)
reconf_feed r (LookingSpare k) n rid IsWhole next = seals r next
reconf_feed r (LookingSpare k) n rid (IsMissing pos) next = not_whole r n pos next
reconf_feed r (LookingSpare k) n rid (IsFenced e) next = seals_if r next (nat_lt r.stand.epoch e)
reconf_feed r (Sealing ws acks) n rid (IsSealed e h) next = sealed_if r n h ws acks next (e == next_epoch r)
reconf_feed r (Sealing ws acks) n rid (IsFenced e) next = learns_if (nat_lt (next_epoch r) e) r next
reconf_feed r (LookingAgain k acks) n rid IsWhole next = proposes r acks next
reconf_feed r (LookingAgain k acks) n rid (IsMissing pos) next = not_whole r n pos next
reconf_feed r (LookingAgain k acks) n rid (IsFenced e) next = learns_if (nat_lt (next_epoch r) e) r next
reconf_feed r (Agreeing v) n rid x next = vote_feed r v v.later n rid x next
reconf_feed r (Starting k) n rid (IsTail t ls) next = started_if r next (names_all [] ls)
reconf_feed r (Starting k) n rid (IsOldEpoch e) next = learns_if (nat_lt r.stand.epoch e) r next
reconf_feed r w n rid x next = passes next r

-- A `Latest` with a newer layout.

-- Step 5: a majority has heard it, and it is adopted
abbrev pub adopted : Reconf → Layout → Reconf
adopted r q = record r { stand = q }

abbrev pub adopts : Reconf → Layout → ℕ → Bool → ReconfTurn
adopts r q next true = draws next (record r { stand = q; work = Starting next })
adopts r q next false = ends next (Overtaken q.epoch q)

abbrev pub heard_on : Reconf → Waits → ℕ → Layout → ℕ → Bool → ReconfTurn
heard_on r ws n q next true = adopts r q next (q.by == r.me)
heard_on r ws n q next false = turn next (Goes (at_work r (Telling ws n q)))

abbrev pub heard : Reconf → ℕ → Waits → ℕ → Layout → ℕ → ReconfTurn
heard r u ws n q next = heard_on r (without_wait u ws) (n + 1) q next (is_majority r (n + 1))

abbrev pub overtaken : Reconf → Layout → ℕ → ReconfTurn
overtaken r q next = ends next (Overtaken q.epoch q)

-- the client's own layout of the next epoch is decided: it goes on from there, or is there already
abbrev pub own_decided : Reconf → ReconfWork → Layout → ℕ → ReconfTurn
own_decided r (Telling ws n p) q next = turn next (Goes r)
own_decided r w q next = tells r q next

abbrev pub on_newer : Reconf → Layout → ℕ → Bool → ReconfTurn
on_newer r q next true = own_decided r r.work q next
on_newer r q next false = overtaken r q next

abbrev pub is_own : Reconf → Layout → Bool
is_own r q = (q.by == r.me) && (q.epoch == next_epoch r)

-- of server n with this number, above the client's epoch
unfoldable pub reconf_latest : Reconf → ReconfWork → ℕ → ℕ → Layout → ℕ → ReconfTurn
reconf_latest r (Starting k) n rid q next = ends next (Installed r.stand.epoch q)
reconf_latest r (Telling ws k p) n rid q next =
    if has_rid n rid ws && (q.epoch == next_epoch r) then heard r n ws k p next else on_newer r q next (is_own r q)
reconf_latest r w n rid q next = on_newer r q next (is_own r q)
