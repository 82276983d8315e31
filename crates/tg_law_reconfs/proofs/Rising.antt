-- No round of ballots is higher than its run has steps, and no epoch much higher.
use Rattle.std.proofs.Common.{◌≡◌, ◌⊎◌, ℕ, ◌+◌, ◌^◌, ◌<◌, ◌≤◌, List, [], ◌∷◌, ◌++◌, length, map, cond, Bool, true, false, ◌&&◌, eqb, refl, ap, ◌∙◌, sym, subst, inl, inr, arith, Some, None, Option}
use Rattle.std.specs.Prelude.{nat_lt, nat_le, max, ⊤, slice_get, is_some}
use Rattle.std.specs.Ordering.{nat_cmp}
use Rattle.std.specs.Map.{lookup}
use Rattle.std.specs.BTreeMap.{insert_entry, is_at}
use Rattle.tg_base.specs.Layouts.{Layout}
use Rattle.tg_base.specs.Changes.{Changed}
use Rattle.tg_base.specs.Clusters.{Header}
use Rattle.tg_base.specs.declared.change.Join.{Join}
use Rattle.tg_base.specs.declared.ids.Ballot.{Ballot}
use Rattle.tg_base.specs.declared.ids.NodeId.{NodeId}
use Rattle.tg_base.specs.declared.ids.Role.{Role}
use Rattle.tg_base.specs.declared.ids.Role.TheVariants as role
use Rattle.tg_base.specs.declared.msg.Msg.{Msg}
use Rattle.tg_base.specs.declared.msg.Msg.TheVariants as msg
use Rattle.tg_base.specs.declared.packet.Out.{Out}
use Rattle.tg_base.specs.declared.packet.Packet.{Packet}
use Rattle.tg_base.specs.Orders.{node_eq}
use Rattle.tg_kind.specs.Meaning.{Meaning}
use Rattle.tg_model.specs.declared.command.Command.TheVariants as cmd
use Rattle.tg_model.specs.declared.command.Event.TheVariants.{Command as Commands, Deliver, Lose, Tick, Stop}
use Rattle.tg_model.specs.declared.refusal.Refusal.{Refusal}
use Rattle.tg_model.specs.Kinds.{CommandOf, EventOf, NoteOf}
use Rattle.tg_protocol.specs.Words.{unit_id, layout_id, seqr_id, client_id, ballot_lt, numbers}
use Rattle.tg_protocol.specs.Layouts.{first_layout}
use Rattle.tg_protocol.specs.Requests.{Waits, waits_for, asked_of, out, awaits, Next, Goes, Learns, Ends}
use Rattle.tg_protocol.specs.Replies.{Reply, IsNack, IsLatest, IsOther, reply}
use Rattle.tg_protocol.specs.LayoutServers.{LayoutState, LayoutTurn, Vote, vote_of, vote_or, with_vote, new_layout, layout_ask, on_layout_ask, layout_step, tells_latest, past_first, on_prepare, on_accept, on_decided}
use Rattle.tg_protocol.specs.Units.{UnitState, unit_step}
use Rattle.tg_protocol.specs.Sequencers.{SeqrState, SeqrTurn, scan_asks}
use Rattle.tg_protocol.specs.Cells.{Place, CellWork, Puts, Gets, Fills, Copies, Probes, CellJob, work_asks}
use Rattle.tg_protocol.specs.Appending.{AppendWork, Asking, Putting, Judging, Append, append_work_asks}
use Rattle.tg_protocol.specs.Syncing.{SyncWork, Checking, Settling, Probing, Sync, sync_work_asks}
use Rattle.tg_protocol.specs.Walking.{job_asks}
use Rattle.tg_protocol.specs.Trimming.{CopyWork, Reading, Storing, Looking, Copying, copy_work_asks, has_stripe}
use Rattle.tg_protocol.specs.Trimming as copying
use Rattle.tg_protocol.specs.Reconfiguring.{Stage, Preparing, Accepting, Later, Voting, ReconfWork, SealingSpare, LookingSpare, Sealing, LookingAgain, Agreeing, Telling, Starting, Reconf, ReconfEnd, Installed, Overtaken, NotWhole, ReconfTurn, next_epoch, ballot_of, join_asks, stage_asks, set_asks, reconf_work_asks, reconf_asks, later_asks, this_or, reconf_awaited, round_set, first_step, reconf_start, reconf_feed, reconf_latest}
use Rattle.tg_protocol.specs.Clients.{Task, Syncing, Walking, Appending, Trimming, Copying', Reconfiguring, Hand, Doing, Learning, Work, Client, new_client, refusal}
use Rattle.tg_protocol.specs.Answers.{Moved, moved}
use Rattle.tg_protocol.specs.ClientSteps.{ClientTurn, task_in, task_asks, task_awaited, hand_asks, task_again_asks, hand_again_asks, asks_latest, client_asks, client_command, client_deliver, client_tick, tick_by, given, called, stands, accepts, new_work, refused_or, reconf_to, on_reconf, after_turn}
use Rattle.tg_protocol.specs.ClientSteps as step
use Rattle.tg_protocol.specs.Worlds.{World, start, client, packet_of, answer_to, happens, next_event, moves, comes, handed, delivers, runs, noted_if, commands, ticks, ticks_if, stops_if, unit_moves, layout_moves, seqr_moves, client_turned}
use Rattle.tg_protocol.specs.Runs.{Moves, Next as NextMove, Takes, run, Reaches}
use Rattle.tg_law_layouts.specs.Moves.Configs.{Config, config, unit_in, layout_in, client_in}
use Rattle.tg_law_layouts.specs.Moves.Telling.{is_request}
use Rattle.tg_law_layouts.proofs.Layouts.Decisions.{Pax, pax_keep}
use Rattle.tg_law_layouts.proofs.Layouts.Layouts.{start_pax}
use Rattle.tg_law_layouts.proofs.Layouts.Pax.{task_reconf, reconf_of, calm_none, HandOk}
use Rattle.tg_law_layouts.proofs.Layouts.Phases.{told_epoch, IsTold, end_stand}
use Rattle.tg_law_layouts.proofs.Layouts.Plain.{Plain, Fed, Heard, accepts_plain, delivered_plain}
use Rattle.tg_law_layouts.proofs.Moves.Besides.{OnlyLearns, none_learns}
use Rattle.tg_law_layouts.proofs.Moves.Growth.{outs_from}
use Rattle.tg_law_layouts.proofs.Moves.Lists.{at_set, at_map, at_replicate}
use Rattle.tg_law_layouts.proofs.Moves.Members.{Has, has_left, has_right, has_either, has_map, has_filter}
use Rattle.tg_law_layouts.proofs.Moves.Moves.{Cases, Comes, unit_turn, layout_turn, seqr_turn, client_turn, SeqrInput, ClientInput, Commanded, Hears', Ticks', step_cases}
use Rattle.tg_law_layouts.proofs.Moves.Turns.{not_busy}
use Rattle.tg_law_layouts.proofs.Moves.Units.{says_answer}
use Rattle.tg_law_layouts.proofs.Requests.Numbers.{layout_answer, seqr_input_draws}
use Rattle.tg_law_steps.proofs.Machines.Reconfs as turns
use Rattle.tg_law_finish.proofs.Finish.Lists.{set_there}
use Rattle.tg_law_reconfs.proofs.Waits.{has_asked}
use Rattle.tg_law_reconfs.proofs.Answering.{node_same, awaited_one}

-- What is asked, and what layout servers tell.

abbrev pub AskLow : ℕ → Msg → Type 0
AskLow n (msg.Prepare e b) = b.round ≤ n
AskLow n (msg.Accept e b q) = b.round ≤ n
AskLow n (msg.Decided q) = q.epoch ≤ n + 2
AskLow n x = ⊤

abbrev pub ReplyLow : ℕ → Reply → Type 0
ReplyLow n (IsNack e b) = b.round ≤ n
ReplyLow n (IsLatest q) = q.epoch ≤ n + 2
ReplyLow n x = ⊤

ask_up : (n : ℕ) (y : Msg) → AskLow n y → AskLow (n + 1) y
ask_up n (msg.Prepare e b) h = omega (arith, h)
ask_up n (msg.Accept e b q) h = omega (arith, h)
ask_up n (msg.Decided q) h = omega (arith, h)
ask_up n y h = tt

reply_up : (n : ℕ) (x : Reply) → ReplyLow n x → ReplyLow (n + 1) x
reply_up n (IsNack e b) h = omega (arith, h)
reply_up n (IsLatest q) h = omega (arith, h)
reply_up n x h = tt

-- what answers asks nothing
answer_low : (n : ℕ) (y : Msg) → is_request y ≡ false → AskLow n y
unfolding is_request
answer_low n (msg.Prepare e b) h = absurd cc
answer_low n (msg.Accept e b q) h = absurd cc
answer_low n (msg.Decided q) h = absurd cc
answer_low n y h = tt

latest_low : (n : ℕ) (q : Layout) → q.epoch ≤ n + 2 → ReplyLow n (reply (msg.Latest q))
unfolding reply
latest_low n q le = by (nat_le (2 ^ 32) q.epoch)
  where
    by : (b : Bool) → ReplyLow n (cond b IsOther (IsLatest q))
    by true = tt
    by false = le

nack_low : (n e : ℕ) (b : Ballot) → b.round ≤ n → ReplyLow n (reply (msg.Nack e b))
unfolding reply
nack_low n e b le = le

promise_low : (n e : ℕ) (b : Ballot) (a : Option (Ballot × Layout)) → ReplyLow n (reply (msg.Promise e b a))
unfolding reply
promise_low n e b a = tt

accepted_low : (n e : ℕ) (b : Ballot) → ReplyLow n (reply (msg.Accepted e b))
unfolding reply
accepted_low n e b = tt

-- A layout server.

abbrev votes_at : List (ℕ × Vote) → ℕ → Option Vote
votes_at es e = lookup (is_at (nat_cmp e)) es

stored_more : (x : ℕ × Vote) (es : List (ℕ × Vote)) (k : ℕ) (v : Vote) (e : ℕ) → votes_at (insert_entry nat_cmp es k v) e ≡ cond (eqb e k) (Some v) (votes_at es e)
    → votes_at (insert_entry nat_cmp (x ∷ es) k v) e ≡ cond (eqb e k) (Some v) (votes_at (x ∷ es) e)
stored_more x es k v e ih = grind arith

vote_stored : (es : List (ℕ × Vote)) (k : ℕ) (v : Vote) (e : ℕ) → votes_at (insert_entry nat_cmp es k v) e ≡ cond (eqb e k) (Some v) (votes_at es e)
vote_stored [] k v e = grind arith
vote_stored (x ∷ es) k v e = stored_more x es k v e (vote_stored es k v e)

pub record ServerLow (n : ℕ) (s : LayoutState) : Type 0 where
  pub latest : s.latest.epoch ≤ n + 2
  pub rounds : (e : ℕ) → (vote_of s e).promised.round ≤ n

abbrev SaysLow : ℕ → Option Msg → Type 0
SaysLow n None = ⊤
SaysLow n (Some y) = ReplyLow n (reply y)

abbrev ServerTurnLow : ℕ → LayoutTurn → Type 0
ServerTurnLow n t = ServerLow n t.now × SaysLow n t.says

stored_low : (n : ℕ) (s : LayoutState) (f : ℕ) (v : Vote) → ((e : ℕ) → (vote_of s e).promised.round ≤ n) → v.promised.round ≤ n → (e : ℕ) → (vote_of (with_vote s f v) e).promised.round ≤ n
stored_low n s f v h le e = subst (λ (o : Option Vote). (vote_or o).promised.round ≤ n) (sym (vote_stored s.votes f v e)) (by (eqb e f))
  where
    by : (b : Bool) → (vote_or (cond b (Some v) (votes_at s.votes e))).promised.round ≤ n
    by true = le
    by false = h e

tells_low : (n : ℕ) (s : LayoutState) → ServerLow n s → ServerTurnLow n (tells_latest s)
tells_low n s h = (h, latest_low n s.latest h.latest)

past_low : (n : ℕ) (b : Bool) (s : LayoutState) (t : LayoutTurn) → ServerLow n s → ServerTurnLow n t → ServerTurnLow n (past_first b s t)
past_low n true s t h k = tells_low n s h
past_low n false s t h k = k

prepare_low : (n : ℕ) (s : LayoutState) (e : ℕ) (b : Ballot) (c : Bool) → ServerLow n s → b.round ≤ n → ServerTurnLow n (on_prepare s e b (vote_of s e) c)
prepare_low n s e b true h le = (h, nack_low n e (vote_of s e).promised (h.rounds e))
prepare_low n s e b false h le = (record { latest = h.latest; rounds = stored_low n s e (record { promised = b; accepted = (vote_of s e).accepted }) h.rounds le }, promise_low n e b (vote_of s e).accepted)

accept_low : (n : ℕ) (s : LayoutState) (e : ℕ) (b : Ballot) (q : Layout) (c : Bool) → ServerLow n s → b.round ≤ n → ServerTurnLow n (on_accept s e b q (vote_of s e) c)
accept_low n s e b q true h le = (h, nack_low n e (vote_of s e).promised (h.rounds e))
accept_low n s e b q false h le = (record { latest = h.latest; rounds = stored_low n s e (record { promised = b; accepted = Some (b, q) }) h.rounds le }, accepted_low n e b)

decided_low : (n : ℕ) (s : LayoutState) (q : Layout) (c : Bool) → ServerLow n s → q.epoch ≤ n + 2 → ServerTurnLow n (on_decided s q c)
decided_low n s q true h le = (record { latest = le; rounds = h.rounds }, latest_low n q le)
decided_low n s q false h le = tells_low n s h

server_low : (n : ℕ) (s : LayoutState) (y : Msg) → ServerLow n s → AskLow n y → ServerTurnLow n (layout_step s y)
unfolding layout_step layout_ask on_layout_ask
server_low n s (msg.Prepare e b) h low = past_low n (eqb e 1) s _ h (prepare_low n s e b (ballot_lt b (vote_of s e).promised) h low)
server_low n s (msg.Accept e b q) h low = past_low n (eqb e 1) s _ h (accept_low n s e b q (ballot_lt b (vote_of s e).promised) h low)
server_low n s (msg.Decided q) h low = decided_low n s q (nat_lt s.latest.epoch q.epoch) h low
server_low n s msg.AskLatest h low = tells_low n s h
server_low n s y h low = (h, tt)

server_up : (n : ℕ) (s : LayoutState) → ServerLow n s → ServerLow (n + 1) s
server_up n s h = record { latest = let a = h.latest in omega (arith, a); rounds = λ e. let a = h.rounds e in omega (arith, a) }

says_up : (n : ℕ) (o : Option Msg) → SaysLow n o → SaysLow (n + 1) o
says_up n None h = tt
says_up n (Some y) h = reply_up n (reply y) h

-- A reconfiguration.

abbrev pub WorkLow : ℕ → ReconfWork → Type 0
WorkLow n (Agreeing v) = (v.round ≤ n) × (round_set v.later ≤ n)
WorkLow n w = ⊤

work_up : (n : ℕ) (w : ReconfWork) → WorkLow n w → WorkLow (n + 1) w
work_up n (Agreeing v) h = let a = h.0 in let b = h.1 in (omega (arith, a), omega (arith, b))
work_up n w h = tt

-- after a step from n
abbrev NextLow : ℕ → Next Reconf ReconfEnd → Type 0
NextLow n (Goes r) = (r.stand.epoch ≤ n + 2) × WorkLow (n + 1) r.work
NextLow n (Learns r) = WorkLow (n + 1) r.work
NextLow n (Ends e) = (end_stand e).epoch ≤ n + 2

none_set : (v : Voting) → v.later ≡ None → round_set v.later ≡ 0
none_set v e = ap round_set e

module _ (n rid : ℕ) (x : Reply) (next : ℕ) (k : ℕ) where
  voting_low : (r : Reconf) (v u : Voting) → turns.IsVoting n rid x next r v u → WorkLow k (Agreeing v) → WorkLow k (Agreeing u)
  voting_low r v _ (turns.Present off) h = h
  voting_low r v _ (turns.IsBegun l has i a) h = (subst (λ (o : Option Later). round_set o ≤ k) has h.1, omega arith)

  fed_low : (r : Reconf) (t : ReconfTurn) → turns.Fed n rid x next r t → r.stand.epoch ≤ k + 1 → WorkLow k r.work → ((v : Voting) → r.work ≡ Agreeing v → ReplyLow k x) → NextLow k t.to
  fed_low _ _ (turns.Nothing r) le h low = (omega (arith, le), work_up k r.work h)
  fed_low _ _ (turns.SpareMisses r i pos is) le h low = omega (arith, le)
  fed_low _ _ (turns.AgainMisses r i acks pos is) le h low = omega (arith, le)
  fed_low _ _ (turns.NextFenced r w e of is f) le h low = work_up k w h
  fed_low _ _ (turns.StartsPast r i e is f) le h low = tt
  fed_low _ _ (turns.Starts r i t ls is f) le h low = omega (arith, le)
  fed_low _ _ (turns.SealsLast r ws acks e i is f none j) le h low = (omega (arith, le), (omega arith, omega arith))
  fed_low _ _ (turns.AgainWhole r i acks is) le h low = (omega (arith, le), (omega arith, omega arith))
  fed_low _ _ (turns.Promises r v u ws ps e b a of st is f g) le h low = (omega (arith, le), work_up k (Agreeing u) (voting_low r v u of h))
  fed_low _ _ (turns.PromisesMost r v u ws ps e b a of st is f g) le h low = (omega (arith, le), work_up k (Agreeing u) (voting_low r v u of h))
  fed_low _ _ (turns.Accepts r v u ws i q e b of st is f g) le h low = (omega (arith, le), work_up k (Agreeing u) (voting_low r v u of h))
  fed_low _ _ (turns.Nacks r v u e b of is f g) le h low =
      let w = voting_low r v u of h in
      let told = subst (λ (y : Reply). ReplyLow k y) is (low v refl) in
      (omega (arith, le), ((work_up k (Agreeing u) w).0, above u.round b.round k w.0 told))
    where
      above : (a b c : ℕ) → a ≤ c → b ≤ c → max a b + 1 ≤ c + 1
      above a b c x y = grind (arith, x, y)
  fed_low _ _ (turns.NacksLow r v u e b of is f g) le h low = (omega (arith, le), work_up k (Agreeing u) (voting_low r v u of h))
  fed_low _ _ y le h low = (omega (arith, le), tt)

module _ (n rid : ℕ) (q : Layout) (next : ℕ) (k : ℕ) where
  heard_low : (r : Reconf) (t : ReconfTurn) → turns.Heard n rid q next r t → r.stand.epoch ≤ k + 1 → WorkLow k r.work → q.epoch ≤ k + 2 → IsTold r → NextLow k t.to
  unfolding told_epoch
  heard_low _ _ (turns.StartedBefore r i) le h new told = new
  heard_low _ _ (turns.Adopts r ws i p e f g) le h new told = (omega (arith, le, told), tt)
  heard_low _ _ (turns.TellsOther r ws i p e f g) le h new told = omega (arith, le, told)
  heard_low _ _ (turns.IsOvertaken r w of e) le h new told = new
  heard_low _ _ y le h new told = (omega (arith, le), tt)

-- What a client asks.

abbrev AllLow : ℕ → List Out → Type 0
AllLow n os = (o : Out) → Has os o → AskLow n o.msg

none_low : (n : ℕ) → AllLow n []
none_low n o h = absurd h

one_low : (n : ℕ) (to : NodeId) (r : ℕ) (y : Msg) → AskLow n y → AllLow n (out to r y ∷ [])
one_low n to r y low o (inl e) = subst (λ (z : Out). AskLow n z.msg) (sym e) low
one_low n to r y low o (inr h) = absurd h

all_low : (n : ℕ) (name : ℕ → NodeId) (y : Msg) (ws : Waits) → AskLow n y → AllLow n (asked_of name y ws)
all_low n name y ws low o h = let i = has_asked name y ws o h in subst (λ (z : Out). AskLow n z.msg) (sym i.is) low

both_low : (n : ℕ) (xs ys : List Out) → AllLow n xs → AllLow n ys → AllLow n (xs ++ ys)
both_low n xs ys f g o h = by (has_either xs ys o h)
  where
    by : Has xs o ⊎ Has ys o → AskLow n o.msg
    by (inl i) = f o i
    by (inr i) = g o i

learns_low : (n : ℕ) (p : Layout) (os : List Out) → OnlyLearns p os → AllLow n os
learns_low n p os f o h = subst (λ (y : Msg). AskLow n y) (sym (f o h)) tt

cells_low : (n : ℕ) (a : Place) (w : CellWork) → AllLow n (work_asks a w)
unfolding work_asks
cells_low n a (Puts r d i) = one_low n _ r _ tt
cells_low n a (Gets r) = one_low n _ r _ tt
cells_low n a (Fills r) = one_low n _ r _ tt
cells_low n a (Copies r c i) = one_low n _ r _ tt
cells_low n a (Probes ws) = all_low n unit_id _ ws tt

job_low : (n : ℕ) (j : Option CellJob) → AllLow n (job_asks j)
job_low n None = none_low n
job_low n (Some j) = cells_low n j.place j.work

append_low : (n : ℕ) (p : Layout) (a : Append) (w : AppendWork) → AllLow n (append_work_asks p a w)
unfolding append_work_asks
append_low n p a (Asking r) = one_low n _ r _ tt
append_low n p a (Putting j) = cells_low n j.place j.work
append_low n p a (Judging j) = cells_low n j.place j.work

sync_low : (n : ℕ) (p : Layout) (s : Sync) (w : SyncWork) → AllLow n (sync_work_asks p s w)
unfolding sync_work_asks
sync_low n p s (Checking r) = one_low n _ r _ tt
sync_low n p s (Settling a j) = cells_low n j.place j.work
sync_low n p s (Probing a j) = cells_low n j.place j.work

copy_low : (n : ℕ) (p : Layout) (c : Copying) (w : CopyWork) → AllLow n (copy_work_asks p c w)
unfolding copy_work_asks
copy_low n p c (copying.Sealing r) = one_low n _ r _ tt
copy_low n p c (Reading j) = cells_low n j.place j.work
copy_low n p c (Storing r pos x) = one_low n _ r _ tt
copy_low n p c (copying.Trimming r b) = one_low n _ r _ tt
copy_low n p c (Looking r) = one_low n _ r _ tt

join_low : (n : ℕ) (j : Option Join) (f : Join → List Out) → ((i : Join) → AllLow n (f i)) → AllLow n (join_asks j f)
join_low n None f t = none_low n
join_low n (Some i) f t = t i

stage_low : (n : ℕ) (r : Reconf) (round : ℕ) (s : Stage) → round ≤ n → AllLow n (stage_asks r round s)
stage_low n r round (Preparing ws ps) le = all_low n layout_id (msg.Prepare (next_epoch r) (ballot_of r round)) ws le
stage_low n r round (Accepting ws i q) le = all_low n layout_id (msg.Accept (next_epoch r) (ballot_of r round) q) ws le

set_low : (n : ℕ) (r : Reconf) (o : Option Later) → round_set o ≤ n → AllLow n (set_asks r o)
set_low n r None le = none_low n
set_low n r (Some l) le = all_low n layout_id (msg.Prepare (next_epoch r) (ballot_of r l.round)) l.waits le

work_low : (n : ℕ) (r : Reconf) (w : ReconfWork) → r.work ≡ w → r.stand.epoch ≤ n + 1 → WorkLow n w → IsTold r → AllLow n (reconf_work_asks r w ++ later_asks r w)
unfolding reconf_work_asks told_epoch
work_low n r (SealingSpare i) at le h told = both_low n (join_asks r.change.join (λ j. out (unit_id j.unit) i (msg.Seal r.stand.epoch) ∷ [])) [] (join_low n r.change.join _ (λ j. one_low n (unit_id j.unit) i (msg.Seal r.stand.epoch) tt)) (none_low n)
work_low n r (LookingSpare i) at le h told = both_low n _ [] (join_low n r.change.join _ (λ j. one_low n (unit_id j.unit) i (has_stripe r.stand.epoch r.stand j.range j.stripe) tt)) (none_low n)
work_low n r (Sealing ws acks) at le h told = both_low n _ [] (all_low n unit_id (msg.Seal (next_epoch r)) ws tt) (none_low n)
work_low n r (LookingAgain i acks) at le h told = both_low n _ [] (join_low n r.change.join _ (λ j. one_low n (unit_id j.unit) i (has_stripe (next_epoch r) r.stand j.range j.stripe) tt)) (none_low n)
work_low n r (Agreeing v) at le h told = both_low n (stage_asks r v.round v.stage) (set_asks r v.later) (stage_low n r v.round v.stage h.0) (set_low n r v.later h.1)
work_low n r (Telling ws i q) at le h told = both_low n _ [] (all_low n layout_id (msg.Decided q) ws (let e = subst (λ (w : ReconfWork). told_epoch w (r.stand.epoch + 1) ≡ r.stand.epoch + 1) at told in omega (arith, e, le))) (none_low n)
work_low n r (Starting i) at le h told = both_low n (out (seqr_id r.stand.seq) i (msg.Learn r.stand) ∷ []) [] (one_low n (seqr_id r.stand.seq) i (msg.Learn r.stand) tt) (none_low n)

awaited_low : (n : ℕ) (r : Reconf) → r.stand.epoch ≤ n + 1 → WorkLow n r.work → IsTold r → AllLow n (reconf_awaited r)
awaited_low n r le h told = work_low n r r.work refl le h told

again_low : (n : ℕ) (xs ys : List Out) → AllLow n (ys ++ xs) → AllLow n (this_or xs ys)
again_low n [] ys f o h = f o (has_left ys [] o h)
again_low n (x ∷ xs) ys f o h = f o (has_right ys (x ∷ xs) o h)

module _ (m : Meaning) where
  -- of the reconfiguration in hand
  abbrev pub ReconfLow : ℕ → Option Reconf → Type 0
  ReconfLow n None = ⊤
  ReconfLow n (Some r) = WorkLow n r.work

  -- what it asks can be said
  abbrev Fits : ℕ → Option Reconf → Type 0
  Fits n None = ⊤
  Fits n (Some r) = (r.stand.epoch ≤ n + 1) × (WorkLow n r.work × IsTold r)

  task_low : (n : ℕ) (p : Layout) (t : Task m) → Fits n (task_reconf m t) → AllLow n (task_asks m p t)
  unfolding task_asks
  task_low n p (Syncing s) f = sync_low n p s s.work
  task_low n p (Walking w os) f = job_low n w.job
  task_low n p (Appending a x) f = append_low n p a a.work
  task_low n p (Trimming t) f = all_low n unit_id _ t.waits tt
  task_low n p (Copying' x) f = copy_low n p x x.work
  task_low n p (Reconfiguring r) f = λ o h. awaited_low n r f.0 f.1.0 f.1.1 o (has_left (reconf_asks r) (later_asks r r.work) o h)

  task_again_low : (n : ℕ) (p : Layout) (t : Task m) → Fits n (task_reconf m t) → AllLow n (task_again_asks m p t)
  task_again_low n p (Reconfiguring r) f = again_low n (later_asks r r.work) (reconf_asks r) (awaited_low n r f.0 f.1.0 f.1.1)
  task_again_low n p (Syncing s) f = task_low n p (Syncing s) f
  task_again_low n p (Walking w os) f = task_low n p (Walking w os) f
  task_again_low n p (Appending a x) f = task_low n p (Appending a x) f
  task_again_low n p (Trimming t) f = task_low n p (Trimming t) f
  task_again_low n p (Copying' x) f = task_low n p (Copying' x) f

  hand_low : (n : ℕ) (p : Layout) (d : Hand m) → Fits n (task_reconf m (task_in m d)) → AllLow n (hand_asks m p d)
  hand_low n p (Doing t) f = task_low n p t f
  hand_low n p (Learning ws t) f = all_low n layout_id msg.AskLatest ws tt

  hand_again_low : (n : ℕ) (p : Layout) (d : Hand m) → Fits n (task_reconf m (task_in m d)) → AllLow n (hand_again_asks m p d)
  hand_again_low n p (Doing t) f = task_again_low n p t f
  hand_again_low n p (Learning ws t) f = all_low n layout_id msg.AskLatest ws tt

  work_asks_low : (n : ℕ) (p : Layout) (o : Option (Work m)) → Fits n (reconf_of m o) → AllLow n (step.work_asks m p o)
  work_asks_low n p None f = none_low n
  work_asks_low n p (Some w) f = hand_low n p w.hand f

  -- A turn.

  pub record MovedLow (n : ℕ) (x : Moved m) : Type 0 where
    pub stand : x.now.stand.epoch ≤ n + 2
    pub hand : ReconfLow (n + 1) (reconf_of m x.now.work)
    pub besides : OnlyLearns x.now.stand x.besides

  reconf_low_up : (n : ℕ) (o : Option Reconf) → ReconfLow n o → ReconfLow (n + 1) o
  reconf_low_up n None h = tt
  reconf_low_up n (Some r) h = work_up n r.work h

  still_low : (n : ℕ) (c : Client m) (ns : List (NoteOf m)) → c.stand.epoch ≤ n + 1 → ReconfLow n (reconf_of m c.work) → MovedLow n (moved m c ns)
  still_low n c ns le h = record { stand = omega (arith, le); hand = reconf_low_up n (reconf_of m c.work) h; besides = none_learns _ }

  plain_low : (n : ℕ) (c : Client m) (x : Moved m) → c.stand.epoch ≤ n + 2 → Plain m c x → MovedLow n x
  plain_low n c x le f = record { stand = subst (λ (p : Layout). p.epoch ≤ n + 2) (sym f.stand) le; hand = subst (λ (o : Option Reconf). ReconfLow (n + 1) o) (sym (calm_none m 0 0 [] x.now.work f.calm)) tt; besides = f.quiet }

  reconf_turn_low : (n : ℕ) (c : Client m) (w : Work m) (t : ReconfTurn) → c.stand.epoch ≤ n + 1 → NextLow n t.to → MovedLow n (on_reconf m c w t)
  reconf_turn_low n c w t le h = by t.to h
    where
      by : (to : Next Reconf ReconfEnd) → NextLow n to → MovedLow n (reconf_to m (after_turn m c t) w to)
      by (Goes s) h = record { stand = h.0; hand = h.1; besides = none_learns _ }
      by (Learns s) h = record { stand = omega (arith, le); hand = h; besides = none_learns _ }
      by (Ends (Installed e p)) h = record { stand = h; hand = tt; besides = none_learns _ }
      by (Ends (Overtaken e p)) h = record { stand = h; hand = tt; besides = none_learns _ }
      by (Ends (NotWhole u i p)) h = record { stand = h; hand = tt; besides = none_learns _ }

  both_parts : (a b : Bool) → (a && b) ≡ true → (a ≡ true) × (b ≡ true)
  both_parts a b e = grind arith

  -- what is awaited while it votes is of layout servers
  vote_from : (r : Reconf) (v : Voting) (from : NodeId) (rid : ℕ) → r.work ≡ Agreeing v → awaits (reconf_awaited r) from rid ≡ true → from.role ≡ role.Layout
  unfolding reconf_work_asks
  vote_from r v from rid at e =
      let x = awaited_one (reconf_awaited r) from rid e in
      by x.0 (has_either (stage_asks r v.round v.stage) (set_asks r v.later) (out from rid x.0) (subst (λ (w : ReconfWork). Has (reconf_work_asks r w ++ later_asks r w) (out from rid x.0)) at x.1))
    where
      asked : (y z : Msg) (ws : Waits) → Has (asked_of layout_id z ws) (out from rid y) → from.role ≡ role.Layout
      asked y z ws h = let i = has_asked layout_id z ws (out from rid y) h in ap (λ (o : Out). o.to.role) i.is

      of_stage : (y : Msg) (s : Stage) → Has (stage_asks r v.round s) (out from rid y) → from.role ≡ role.Layout
      of_stage y (Preparing ws ps) h = asked y _ ws h
      of_stage y (Accepting ws i q) h = asked y _ ws h

      of_set : (y : Msg) (o : Option Later) → Has (set_asks r o) (out from rid y) → from.role ≡ role.Layout
      of_set y None h = absurd h
      of_set y (Some l) h = asked y _ l.waits h

      by : (y : Msg) → Has (stage_asks r v.round v.stage) (out from rid y) ⊎ Has (set_asks r v.later) (out from rid y) → from.role ≡ role.Layout
      by y (inl h) = of_stage y v.stage h
      by y (inr h) = of_set y v.later h

  -- what is known of a client's hand
  abbrev Held : ℕ → Layout → Option Reconf → Type 0
  Held n p None = ⊤
  Held n p (Some r) = (r.stand ≡ p) × (WorkLow n r.work × IsTold r)

  module _ (n : ℕ) (c : Client m) (le : c.stand.epoch ≤ n + 1) (held : Held n c.stand (reconf_of m c.work)) where
    hand_held : ReconfLow n (reconf_of m c.work)
    hand_held = by (reconf_of m c.work) held
      where
        by : (o : Option Reconf) → Held n c.stand o → ReconfLow n o
        by None h = tt
        by (Some r) h = h.1.0

    of_work : (w : Work m) → c.work ≡ Some w → Held n c.stand (task_reconf m (task_in m w.hand))
    of_work w has = subst (λ (o : Option (Work m)). Held n c.stand (reconf_of m o)) has held

    stands_low : (r : Reconf) → r.stand ≡ c.stand → r.stand.epoch ≤ n + 1
    stands_low r e = let s = ap (λ (p : Layout). p.epoch) e in omega (arith, s, le)

    fed_here : (w : Work m) (t : Task m) (from : NodeId) (rid : ℕ) (x : Reply) → (from.role ≡ role.Layout → ReplyLow n x) → Held n c.stand (task_reconf m t) → awaits (task_awaited m c.stand t) from rid ≡ true → Fed m (MovedLow n) c w t from.num rid x
    fed_here w (Reconfiguring r) from rid x low h a = reconf_turn_low n c w (reconf_feed r r.work from.num rid x c.next) le
        (fed_low from.num rid x c.next n r _ (turns.reconf_fed from.num rid x c.next r) (stands_low r h.0) h.1.0 (λ v at. low (vote_from r v from rid at a)))
    fed_here w t from rid x low h a = λ y p. plain_low n c y (omega (arith, le)) p

    heard_here : (w : Work m) (t : Task m) (i rid : ℕ) (q : Layout) → q.epoch ≤ n + 2 → Held n c.stand (task_reconf m t) → Heard m (MovedLow n) c w t i rid q
    heard_here w (Reconfiguring r) i rid q new h = reconf_turn_low n c w (reconf_latest r r.work i rid q c.next) le
        (heard_low i rid q c.next n r _ (turns.reconf_heard i rid q c.next r) (stands_low r h.0) h.1.0 new h.1.1)
    heard_here w t i rid q new h = λ y p. plain_low n (stands m c q) y new p

    feed_low : (from : NodeId) (rid : ℕ) (x : Reply) → (from.role ≡ role.Layout → ReplyLow n x) → MovedLow n (step.feed m c c.work from rid x)
    feed_low from rid x low = delivered_plain m (MovedLow n) c from rid x (still_low n c [] le hand_held)
        (λ w t has doing a. fed_here w t from rid x low (subst (λ (d : Hand m). Held n c.stand (task_reconf m (task_in m d))) doing (of_work w has)) a)
        (λ w q has is e. heard_here w (task_in m w.hand) from.num rid q (subst (λ (y : Reply). ReplyLow n y) is (low (of_layout (both_parts _ _ e).0))) (of_work w has))
      where
        of_layout : node_eq from (layout_id from.num) ≡ true → from.role ≡ role.Layout
        of_layout e = ap (λ (a : NodeId). a.role) (node_same from (layout_id from.num) e)

    first_low : (w : Work m) (x : Changed) (j : Option Join) → MovedLow n (on_reconf m c w (first_step (record { change = x; me = c.num; layouts = c.layouts; stand = c.stand; work = SealingSpare 0 }) c.next j))
    first_low w x None = record { stand = omega (arith, le); hand = tt; besides = none_learns _ }
    first_low w x (Some j) = record { stand = omega (arith, le); hand = tt; besides = none_learns _ }

    accepts_low : (x : CommandOf m) → c.work ≡ None → MovedLow n (accepts m c x)
    unfolding accepts reconf_start
    accepts_low (cmd.Reconf x) e = first_low (new_work m (cmd.Reconf x)) x x.join
    accepts_low x e = plain_low n c _ (omega (arith, le)) (accepts_plain m c x tt e)

    refused_low : (x : CommandOf m) (o : Option Refusal) → (o ≡ None → c.work ≡ None) → MovedLow n (refused_or m c x o)
    refused_low x None free = accepts_low x (free refl)
    refused_low x (Some why) free = still_low n c _ le hand_held

  -- What a turn comes to, with what is sent.

  pub record TurnLow (n : ℕ) (t : ClientTurn m) : Type 0 where
    pub stand : t.now.stand.epoch ≤ n + 2
    pub hand : ReconfLow (n + 1) (reconf_of m t.now.work)
    pub sends : AllLow (n + 1) t.sends

  -- what the agreement knows of a hand
  fits_of : (n k i : ℕ) (ps : List Packet) (p : Layout) (o : Option Reconf) → p.epoch ≤ i + 1 → ReconfLow i o → HandOk m n k ps p o → Fits i o
  fits_of n k i ps p None le h ok = tt
  fits_of n k i ps p (Some r) le h ok = ((let s = ap (λ (y : Layout). y.epoch) ok.stand in omega (arith, s, le)), (h, ok.told))

  held_of : (n k i : ℕ) (ps : List Packet) (p : Layout) (o : Option Reconf) → ReconfLow i o → HandOk m n k ps p o → Held i p o
  held_of n k i ps p None h ok = tt
  held_of n k i ps p (Some r) h ok = (ok.stand, (h, ok.told))

  given_low : (n j k : ℕ) (ps : List Packet) (c : Client m) (x : Moved m) → MovedLow j x → HandOk m n k ps x.now.stand (reconf_of m x.now.work) → TurnLow j (given m c x)
  unfolding client_asks
  given_low n j k ps c x f ok = record {
    stand = f.stand;
    hand = f.hand;
    sends = both_low (j + 1) x.besides _ (learns_low (j + 1) x.now.stand x.besides f.besides)
        (λ o h. work_asks_low (j + 1) x.now.stand x.now.work (fits_of n k (j + 1) ps x.now.stand (reconf_of m x.now.work) (let s = f.stand in omega (arith, s)) f.hand ok) o (has_filter _ (client_asks m x.now) o h));
  }

  tick_low : (n j k : ℕ) (ps : List Packet) (c : Client m) (w : Option (Work m)) → c.work ≡ w → c.stand.epoch ≤ j + 1 → ReconfLow j (reconf_of m c.work) → HandOk m n k ps c.stand (reconf_of m c.work) → TurnLow j (tick_by m c w)
  tick_low n j k ps c None is le h ok = record { stand = omega (arith, le); hand = reconf_low_up j (reconf_of m c.work) h; sends = none_low (j + 1) }
  tick_low n j k ps c (Some w) is le h ok = record {
    stand = omega (arith, le);
    hand = reconf_low_up j (reconf_of m c.work) h;
    sends = both_low (j + 1) (hand_again_asks m c.stand w.hand) _
        (hand_again_low (j + 1) c.stand w.hand (fits_of n k (j + 1) ps c.stand (task_reconf m (task_in m w.hand)) (omega (arith, le)) (subst (λ (o : Option (Work m)). ReconfLow (j + 1) (reconf_of m o)) is (reconf_low_up j (reconf_of m c.work) h)) (subst (λ (o : Option (Work m)). HandOk m n k ps c.stand (reconf_of m o)) is ok)))
        (all_low (j + 1) layout_id msg.AskLatest (waits_for (numbers c.layouts 0) c.next) tt);
  }

  -- Over worlds.

  pub record Low (n : ℕ) (c : Config m) : Type 0 where
    pub asks : (a : Packet) → Has c.packets a → AskLow n a.msg
    pub told : (a : Packet) → Has c.packets a → a.from.role ≡ role.Layout → ReplyLow n (reply a.msg)
    pub servers : (l : ℕ) → ServerLow n (layout_in m c l)
    pub stands : (k : ℕ) → (client_in m c k).stand.epoch ≤ n + 1
    pub hands : (k : ℕ) → ReconfLow n (reconf_of m (client_in m c k).work)

  -- others' packets
  pub record NewLow (n : ℕ) (new : List Packet) : Type 0 where
    pub asks : (a : Packet) → Has new a → AskLow (n + 1) a.msg
    pub told : (a : Packet) → Has new a → a.from.role ≡ role.Layout → ReplyLow (n + 1) (reply a.msg)

  asks_on : (n : ℕ) (c : Config m) (new : List Packet) → Low n c → NewLow n new → (a : Packet) → Has (c.packets ++ new) a → AskLow (n + 1) a.msg
  asks_on n c new h f a has = by (has_either c.packets new a has)
    where
      by : Has c.packets a ⊎ Has new a → AskLow (n + 1) a.msg
      by (inl i) = ask_up n a.msg (h.asks a i)
      by (inr i) = f.asks a i

  told_on : (n : ℕ) (c : Config m) (new : List Packet) → Low n c → NewLow n new → (a : Packet) → Has (c.packets ++ new) a → a.from.role ≡ role.Layout → ReplyLow (n + 1) (reply a.msg)
  told_on n c new h f a has from = by (has_either c.packets new a has)
    where
      by : Has c.packets a ⊎ Has new a → ReplyLow (n + 1) (reply a.msg)
      by (inl i) = reply_up n (reply a.msg) (h.told a i from)
      by (inr i) = f.told a i from

  stands_up : (n : ℕ) (c : Config m) → Low n c → (k : ℕ) → (client_in m c k).stand.epoch ≤ (n + 1) + 1
  stands_up n c h k = let a = h.stands k in omega (arith, a)

  low_up : (n : ℕ) (c : Config m) → Low n c → Low (n + 1) c
  low_up n c h = record {
    asks = λ a has. ask_up n a.msg (h.asks a has);
    told = λ a has from. reply_up n (reply a.msg) (h.told a has from);
    servers = λ l. server_up n (layout_in m c l) (h.servers l);
    stands = stands_up n c h;
    hands = λ k. reconf_low_up n (reconf_of m (client_in m c k).work) (h.hands k);
  }

  answers_new : (n : ℕ) (p : Packet) (o : Option Msg) → ((y : Msg) → o ≡ Some y → AskLow (n + 1) y) → (p.to.role ≡ role.Layout → SaysLow (n + 1) o) → NewLow n (answer_to m p o)
  answers_new n p None f g = record { asks = λ a h. absurd h; told = λ a h from. absurd h }
  answers_new n p (Some y) f g = record { asks = λ a h. asked a h; told = λ a h from. telling a h from }
    where
      asked : (a : Packet) → Has (answer_to m p (Some y)) a → AskLow (n + 1) a.msg
      asked a (inl e) = subst (λ (z : Packet). AskLow (n + 1) z.msg) (sym e) (f y refl)
      asked a (inr h) = absurd h

      telling : (a : Packet) → Has (answer_to m p (Some y)) a → a.from.role ≡ role.Layout → ReplyLow (n + 1) (reply a.msg)
      telling a (inl e) from = subst (λ (z : Packet). ReplyLow (n + 1) (reply z.msg)) (sym e) (g (sym (ap (λ (z : Packet). z.from.role) e) ∙ from))
      telling a (inr h) from = absurd h

  outs_new : (n : ℕ) (x : NodeId) (os : List Out) → (x.role ≡ role.Layout → ⊥) → AllLow (n + 1) os → NewLow n (map (packet_of m x) os)
  outs_new n x os off f = record {
    asks = λ a h. let i = has_map (packet_of m x) os a h in subst (λ (z : Packet). AskLow (n + 1) z.msg) (sym i.is) (f i.of i.has);
    told = λ a h from. absurd (off (sym (ap (λ (z : NodeId). z.role) (outs_from m x os a h)) ∙ from));
  }

  others_on : (n : ℕ) (c : Config m) (us : List UnitState) (ss : List SeqrState) (new : List Packet) → Low n c → NewLow n new → Low (n + 1) (record c { units = us; seqrs = ss; packets = c.packets ++ new })
  others_on n c us ss new h f = record {
    asks = asks_on n c new h f;
    told = told_on n c new h f;
    servers = λ l. server_up n (layout_in m c l) (h.servers l);
    stands = stands_up n c h;
    hands = λ k. reconf_low_up n (reconf_of m (client_in m c k).work) (h.hands k);
  }

  by_unit_low : (n : ℕ) (c : Config m) → Low n c → (u : ℕ) (p : Packet) → Comes m c p (unit_id u) → Low (n + 1) (unit_turn m c u p (unit_step (unit_in m c u) p.msg))
  by_unit_low n c h u p a = others_on n c _ c.seqrs _ h (answers_new n p (unit_step (unit_in m c u) p.msg).says (λ y e. answer_low (n + 1) y (says_answer (unit_in m c u) p.msg y e)) (λ r. absurd (other (sym (ap (λ (z : NodeId). z.role) a.to_node) ∙ r))))
    where
      other : role.Unit ≡ role.Layout → ⊥
      other e = cc

  seqr_sends_low : (n : ℕ) (c : Config m) (s : ℕ) (t : SeqrTurn) → SeqrInput m c s t → AllLow n t.sends
  seqr_sends_low n c s t i o has = by (is_request o.msg) refl
    where
      asked : (j : Option CellJob) → AllLow n (scan_asks j)
      asked None = none_low n
      asked (Some j) = cells_low n j.place j.work

      by : (b : Bool) → is_request o.msg ≡ b → AskLow n o.msg
      by true e = asked t.now.scan o ((seqr_input_draws m c s t i).sent o has e)
      by false e = answer_low n o.msg e

  by_seqr_low : (n : ℕ) (c : Config m) → Low n c → (s : ℕ) (t : SeqrTurn) → SeqrInput m c s t → Low (n + 1) (seqr_turn m c s t)
  by_seqr_low n c h s t i = others_on n c c.units _ _ h (outs_new n (seqr_id s) t.sends (λ e. absurd (other e)) (seqr_sends_low (n + 1) c s t i))
    where
      other : role.Seqr ≡ role.Layout → ⊥
      other e = cc

  by_layout_low : (n : ℕ) (c : Config m) → Low n c → (l : ℕ) (p : Packet) → Comes m c p (layout_id l) → l < length c.layouts → Low (n + 1) (layout_turn m c l p (layout_step (layout_in m c l) p.msg))
  by_layout_low n c h l p a less = record {
    asks = asks_on n c (answer_to m p t.says) h new;
    told = told_on n c (answer_to m p t.says) h new;
    servers = at_set c.layouts l t.now (λ j. new_layout (first_layout c.cluster)) (λ j s. ServerLow (n + 1) s) less (server_up n t.now turn.0) (λ j other. server_up n (layout_in m c j) (h.servers j));
    stands = stands_up n c h;
    hands = λ k. reconf_low_up n (reconf_of m (client_in m c k).work) (h.hands k);
  }
    where
      t : LayoutTurn
      t = layout_step (layout_in m c l) p.msg

      turn : ServerTurnLow n t
      turn = server_low n (layout_in m c l) p.msg (h.servers l) (h.asks p a.sent)

      new : NewLow n (answer_to m p t.says)
      new = answers_new n p t.says (λ y e. answer_low (n + 1) y (layout_answer (layout_in m c l) p.msg y e)) (λ r. says_up n t.says turn.1)

  input_low : (n : ℕ) (c : Config m) → Pax m c → Low n c → (k : ℕ) (t : ClientTurn m) → ClientInput m c k t → HandOk m c.cluster.layouts k (client_turn m c k t).packets t.now.stand (reconf_of m t.now.work) → TurnLow n t
  unfolding client_command client_deliver client_tick
  input_low n c p h k _ (Commanded x) ok = given_low c.cluster.layouts n k _ (client_in m c k) _
      (refused_low n (client_in m c k) (h.stands k) (held_of c.cluster.layouts k n c.packets (client_in m c k).stand (reconf_of m (client_in m c k).work) (h.hands k) (p.clients k)) x (refusal m (client_in m c k) x) (not_busy m (client_in m c k) x)) ok
  input_low n c p h k _ (Hears' y comes) ok = given_low c.cluster.layouts n k _ (client_in m c k) _
      (feed_low n (client_in m c k) (h.stands k) (held_of c.cluster.layouts k n c.packets (client_in m c k).stand (reconf_of m (client_in m c k).work) (h.hands k) (p.clients k)) y.from y.rid (reply y.msg) (λ r. h.told y comes.sent r)) ok
  input_low n c p h k _ Ticks' ok = tick_low c.cluster.layouts n k c.packets (client_in m c k) (client_in m c k).work refl (h.stands k) (h.hands k) (p.clients k)

  by_client_low : (n : ℕ) (c : Config m) → Low n c → (k : ℕ) (t : ClientTurn m) → k < length c.clients → TurnLow n t → Low (n + 1) (client_turn m c k t)
  by_client_low n c h k t less f = record {
    asks = asks_on n c _ h new;
    told = told_on n c _ h new;
    servers = λ l. server_up n (layout_in m c l) (h.servers l);
    stands = at_set c.clients k t.now (new_client m c.cluster) (λ j d. d.stand.epoch ≤ (n + 1) + 1) less (let s = f.stand in omega (arith, s)) (λ j other. stands_up n c h j);
    hands = at_set c.clients k t.now (new_client m c.cluster) (λ j d. ReconfLow (n + 1) (reconf_of m d.work)) less f.hand (λ j other. reconf_low_up n (reconf_of m (client_in m c j).work) (h.hands j));
  }
    where
      no_layout : role.Client ≡ role.Layout → ⊥
      no_layout e = cc

      new : NewLow n (map (packet_of m (client_id k)) t.sends)
      new = outs_new n (client_id k) t.sends (λ e. no_layout e) f.sends

  -- the client's hand after its turn
  hand_after : (c : Config m) → Pax m c → (k : ℕ) (t : ClientTurn m) → ClientInput m c k t → k < length c.clients → HandOk m c.cluster.layouts k (client_turn m c k t).packets t.now.stand (reconf_of m t.now.work)
  hand_after c p k t i less =
      let q = (pax_keep m c p).client k t i less in
      subst (λ (d : Client m). HandOk m c.cluster.layouts k (client_turn m c k t).packets d.stand (reconf_of m d.work)) (set_there c.clients k t.now (new_client m c.cluster k) less) (q.clients k)

  step_low : (n : ℕ) (c : Config m) → Pax m c × Low n c → Cases m c (λ d. Pax m d × Low (n + 1) d)
  step_low n c h =
      let keep = pax_keep m c h.0 in
      record {
        idle = (keep.idle, low_up n c h.1);
        unit = λ u p a less. (keep.unit u p a less, by_unit_low n c h.1 u p a);
        layout = λ l p a less. (keep.layout l p a less, by_layout_low n c h.1 l p a less);
        seqr = λ s t i less. (keep.seqr s t i less, by_seqr_low n c h.1 s t i);
        client = λ k t i less. (keep.client k t i less, by_client_low n c h.1 k t less (input_low n c h.0 h.1 k t i (hand_after c h.0 k t i less)));
      }

  -- Each event is one step.

  noted_steps : (b : Bool) (w : World m) (k : ℕ) (c : Client m) → (noted_if m b w k c).steps ≡ w.steps
  noted_steps true w k c = refl
  noted_steps false w k c = refl

  commands_steps : (b : Bool) (w : World m) (k : ℕ) (x : CommandOf m) → (commands m b w k x).steps ≡ w.steps
  unfolding client_turned
  commands_steps true w k x = noted_steps (is_some (client m w k).work) w k (client m w k)
  commands_steps false w k x = refl

  moves_steps : (w : World m) (p : Packet) (r : Role) → (moves m w p r).steps ≡ w.steps
  unfolding unit_moves layout_moves seqr_moves client_turned
  moves_steps w p role.Unit = refl
  moves_steps w p role.Layout = refl
  moves_steps w p role.Seqr = refl
  moves_steps w p role.Client = refl

  comes_steps : (b : Bool) (w : World m) (p : Packet) → (comes m b w p).steps ≡ w.steps
  comes_steps true w p = moves_steps w p p.to.role
  comes_steps false w p = refl

  delivers_steps : (w : World m) (i : ℕ) (o : Option Packet) → (delivers m w i o).steps ≡ w.steps
  delivers_steps w i None = refl
  delivers_steps w i (Some p) = comes_steps (runs m w p.to) (handed m w i) p

  ticks_steps : (w : World m) (n : ℕ) (r : Role) → (ticks m w n r).steps ≡ w.steps
  unfolding client_turned
  ticks_steps w n role.Unit = refl
  ticks_steps w n role.Layout = refl
  ticks_steps w n role.Seqr = refl
  ticks_steps w n role.Client = refl

  ticks_if_steps : (b : Bool) (w : World m) (n : NodeId) → (ticks_if m b w n).steps ≡ w.steps
  ticks_if_steps true w n = ticks_steps w n.num n.role
  ticks_if_steps false w n = refl

  stops_steps : (b : Bool) (w : World m) (n : NodeId) → (stops_if m b w n).steps ≡ w.steps
  stops_steps true w n = refl
  stops_steps false w n = refl

  happens_steps : (w : World m) (e : EventOf m) → (happens m w e).steps ≡ w.steps + 1
  unfolding happens
  happens_steps w (Commands k x) = ap (λ (n : ℕ). n + 1) (commands_steps (runs m w (client_id k)) w k x)
  happens_steps w (Deliver i) = ap (λ (n : ℕ). n + 1) (delivers_steps w i (slice_get w.packets i))
  happens_steps w (Lose i) = refl
  happens_steps w (Tick n) = ap (λ (k : ℕ). k + 1) (ticks_if_steps (runs m w n) w n)
  happens_steps w (Stop n) = ap (λ (k : ℕ). k + 1) (stops_steps (runs m w n) w n)

  abbrev Both : ℕ → Config m → Type 0
  Both n c = Pax m c × Low n c

  happens_low : (w : World m) (e : EventOf m) → Both w.steps (config m w) → Both (happens m w e).steps (config m (happens m w e))
  happens_low w e h = subst (λ (n : ℕ). Both n (config m (happens m w e))) (sym (happens_steps w e)) (step_cases m w (Both (w.steps + 1)) (step_low w.steps (config m w) h) e)

  run_low : (ms : Moves m) (w : World m) → Both w.steps (config m w) → Both (run m ms w).steps (config m (run m ms w))
  unfolding run
  run_low [] w h = h
  run_low (NextMove ∷ ms) w h = run_low ms (next_event m w) h
  run_low (Takes e ∷ ms) w h = run_low ms (happens m w e) (happens_low w e h)

  new_server_low : (p : Layout) → p.epoch ≤ 2 → ServerLow 0 (new_layout p)
  unfolding new_layout
  new_server_low p le = record { latest = le; rounds = λ e. omega arith }

  first_epoch_is : (h : Header) → (first_layout h).epoch ≤ 1
  first_epoch_is h = omega arith

  new_client_low : (h : Header) (k : ℕ) → ((new_client m h k).stand.epoch ≤ 0 + 1) × ReconfLow 0 (reconf_of m (new_client m h k).work)
  unfolding new_client
  new_client_low h k = (first_epoch_is h, tt)

  start_low : (h : Header) → Low (start m h).steps (config m (start m h))
  unfolding start
  start_low h = record {
    asks = λ a has. absurd has;
    told = λ a has from. absurd has;
    servers = λ l. at_replicate h.layouts (new_layout (first_layout h)) l (new_layout (first_layout h)) (λ s. ServerLow 0 s) (new_server_low (first_layout h) (let e = first_epoch_is h in omega (arith, e))) (new_server_low (first_layout h) (let e = first_epoch_is h in omega (arith, e)));
    stands = λ k. at_map (new_client m h) (numbers h.clients 0) k (new_client m h k) (λ (c : Client m). c.stand.epoch ≤ 0 + 1) (λ j. (new_client_low h j).0) (new_client_low h k).0;
    hands = λ k. at_map (new_client m h) (numbers h.clients 0) k (new_client m h k) (λ (c : Client m). ReconfLow 0 (reconf_of m c.work)) (λ j. (new_client_low h j).1) (new_client_low h k).1;
  }

  -- in each world of each run
  pub all_low_in : (h : Header) (ms : Moves m) (w : World m) → Reaches m h ms w → Low w.steps (config m w)
  all_low_in h ms w r = subst (λ (v : World m). Low v.steps (config m v)) (sym r.goes.is) (run_low ms (start m h) (start_pax m h, start_low h)).1
