-- Of a client's hand, in any run, through each of its turns: while it waits for a newer layout, one of the nodes that it asked
-- is past the layout at which it stands. A reconfiguration is left out: the units that it seals needn't be in that layout.
use Rattle.std.proofs.Common.{◌≡◌, ℕ, zero, suc, ◌-◌, ◌<◌, ◌≤◌, List, [], ◌∷◌, length, true, refl, sym, ap, ◌∙◌, subst, inl, inr, arith, Option, Some, None, append-nil}
use Rattle.std.specs.Prelude.{nat_lt, slice_index}
use Rattle.tg_base.specs.Clusters.{Header}
use Rattle.tg_base.specs.Layouts.{Layout, IsLayout}
use Rattle.tg_base.specs.declared.ids.NodeId.{NodeId}
use Rattle.tg_base.specs.declared.msg.Msg.{Msg}
use Rattle.tg_base.specs.declared.msg.Msg.TheVariants as msg
use Rattle.tg_base.specs.declared.packet.Out.{Out}
use Rattle.tg_base.specs.declared.packet.Packet.{Packet}
use Rattle.tg_kind.specs.Meaning.{Meaning}
use Rattle.tg_model.specs.Kinds.{CommandOf}
use Rattle.tg_model.specs.declared.command.Command.TheVariants as cmd
use Rattle.tg_protocol.specs.Words.{unit_id, seqr_id, client_id, numbers}
use Rattle.tg_protocol.specs.Layouts.{chain_of, units_of}
use Rattle.tg_protocol.specs.Requests.{out, awaits, asked_of, Next, Learns, Ends, Turn}
use Rattle.tg_protocol.specs.Replies.{Reply, IsFenced, IsOldEpoch, reply}
use Rattle.tg_protocol.specs.Cells.{Place as CellPlace, place_in, CellWork, Puts, Gets, Fills, Copies, Probes, CellJob, CellEnd, CellTurn, Fenced, work_asks, cell_asks, cell_feed}
use Rattle.tg_protocol.specs.Sequencers.{SeqrState}
use Rattle.tg_protocol.specs.Units.{unit_step}
use Rattle.tg_protocol.specs.Appending.{Append, AppendWork, Asking, Putting, Judging, AppendEnd, append_work_asks, append_start, append_feed}
use Rattle.tg_protocol.specs.Syncing.{Sync, SyncWork, Checking, Settling, Probing, Confirmed, sync_work_asks, sync_start, sync_feed}
use Rattle.tg_protocol.specs.Trimming.{Trims, Trimmed, trim_asks, trim_start, trim_feed, Copying, CopyWork, Sealing, Reading, Storing, Looking, CopyEnd, copy_work_asks, copy_start, copy_feed}
use Rattle.tg_protocol.specs.Trimming as copying
use Rattle.tg_protocol.specs.Walking.{Walk, WalkTurn, job_asks, with_job, walk_from, walk_feed, read_at}
use Rattle.tg_protocol.specs.Clients.{Task, Syncing, Walking, Appending, Trimming, Copying', Reconfiguring, Hand, Doing, Learning, Work, Client, new_client}
use Rattle.tg_protocol.specs.Answers.{Moved, appends, syncs}
use Rattle.tg_protocol.specs.ClientSteps.{ClientTurn, task_in, task_asks, task_awaited, client_command, client_deliver, client_tick}
use Rattle.tg_protocol.specs.Worlds.{start}
use Rattle.tg_protocol.specs.Runs.{Moves, Takes, Reaches}
use Rattle.tg_law_layouts.specs.Moves.After.{after}
use Rattle.tg_law_layouts.specs.Moves.Configs.{Config, config, client_in, unit_in, seqr_in}
use Rattle.tg_law_layouts.proofs.Moves.Clients.{reserved, work_reserved, hand_reserved}
use Rattle.tg_law_layouts.proofs.Moves.Growth.{unit_turn_grows}
use Rattle.tg_law_layouts.proofs.Moves.Lists.{at_set, at_map}
use Rattle.tg_law_layouts.proofs.Moves.Members.{Has, has_map}
use Rattle.tg_law_layouts.proofs.Moves.Moves.{ClientInput, Commanded, Hears', Ticks', Cases, Comes, unit_turn, seqr_turn}
use Rattle.tg_law_layouts.proofs.Moves.Turns.{not_busy}
use Rattle.tg_law_layouts.proofs.Requests.Starts.{all_hold}
use Rattle.tg_law_layouts.proofs.Layouts.Deciding.{layouts_are_known, layouts_are_sound}
use Rattle.tg_law_cells.proofs.Cells.Befores.{has_at}
use Rattle.tg_law_cells.proofs.Cells.Hands as hands
use Rattle.tg_law_cells.proofs.Cells.Jobs as jobs
use Rattle.tg_law_cells.proofs.Cells.Justified.{Awaited, awaited_ask}
use Rattle.tg_law_cells.proofs.Cells.Stores.{cells_hold}
use Rattle.tg_law_cells.proofs.Cells.Successors.{some_there}
use Rattle.tg_law_walks.proofs.Drafts.Became.{Holds}
use Rattle.tg_law_walks.proofs.Lists.Reached.{before_reached}
use Rattle.tg_law_steps.proofs.Along.{delivered, commanded, ticked, over_walks}
use Rattle.tg_law_steps.proofs.Ends.{End, GoesOn, LearnsNewer, SyncLearns, WalkLearns, AppendLearns, TrimsLearn, CopyLearns, ReconfLearns}
use Rattle.tg_law_steps.proofs.Machines.Appends as appending
use Rattle.tg_law_steps.proofs.Machines.Cells as cells
use Rattle.tg_law_steps.proofs.Machines.Copies as copies
use Rattle.tg_law_steps.proofs.Machines.Syncs as syncing
use Rattle.tg_law_steps.proofs.Machines.Trims as trimming
use Rattle.tg_law_steps.proofs.Machines.Walks as walking
use Rattle.tg_law_steps.proofs.Places.{Place, Feeds, OnSync, OnWalk, OnAppend, OnTrims, OnCopy, Walks}
use Rattle.tg_law_steps.proofs.Takes.{Taken, SaidAtOnce, said_work}
use Rattle.tg_law_steps.proofs.Ways.{Way, FeedsSync, FeedsWalk, FeedsAppend, FeedsTrims, FeedsCopy, NewerSync, NewerWalk, NewerAppend, NewerTrims, NewerCopy, AllWalked, HasPlayed, sync_fed, walk_fed, append_fed, trims_fed, copy_fed}
use Rattle.tg_law_headline.proofs.Issues.Along.{along}
use Rattle.tg_law_finish.proofs.Finish.Brought as brought
use Rattle.tg_law_finish.proofs.Finish.Brought.{OfCommand, copies_stand}
use Rattle.tg_law_finish.proofs.Finish.Fences.{fences_hold}
use Rattle.tg_law_finish.proofs.Finish.Lists.{Each}
use Rattle.tg_law_finish.proofs.Finish.Midway as midway
use Rattle.tg_law_finish.proofs.Finish.Midway.{ReadShape, SyncShape, WalkShape, TrimShape}
use Rattle.tg_law_finish.proofs.Finish.Older.{IsPast, AsksIn, WasOld, olds_hold, seqr_stays}
use Rattle.tg_law_finish.proofs.Finish.Probes.{Asked, StandsIn, ProbeShape}
use Rattle.tg_law_finish.proofs.Finish.Shaped.{shaped_hold}
use Rattle.tg_law_finish.proofs.Finish.Shapes.{Shape, PutShape, JudgeShape}
use Rattle.tg_law_finish.proofs.Finish.Standing.{chain_in_units}

less_of : (a b : ℕ) → nat_lt a b ≡ true → a < b
less_of a b e = grind arith

up_to : (a b c : ℕ) → a < b → b ≤ c → a < c
up_to a b c x y = omega (arith, x, y)

last_of : (n : ℕ) → 0 < n → n - 1 < n
last_of n some = omega (arith, some)

is_fenced : (y : Msg) (e : ℕ) → reply y ≡ IsFenced e → y ≡ msg.Fenced e
unfolding reply
is_fenced y e is = grind arith

is_old : (y : Msg) (e : ℕ) → reply y ≡ IsOldEpoch e → y ≡ msg.OldEpoch e
unfolding reply
is_old y e is = grind arith

each_has : {X : Type 0} → (P : X → Type 0) (xs : List X) (x : X) → Each P xs → Has xs x → P x
each_has P [] x a h = absurd h
each_has P (y ∷ xs) x a (inl e) = subst P (sym e) a.0
each_has P (y ∷ xs) x a (inr h) = each_has P xs x a.1 h

-- Which units are asked.

-- a unit further down stands in the chain, and a probe asks some of it
abbrev Within : CellPlace → CellWork → Type 0
Within a (Puts r d i) = i < length a.chain
Within a (Copies r c i) = i < length a.chain
Within a (Probes ws) = Asked a.chain ws
Within a w = Unit {0}

read_within : (a : CellPlace) (w : CellWork) → ReadShape a w → Within a w
read_within a (Gets r) k = tt
read_within a (Fills r) k = tt
read_within a (Copies r c i) k = k
read_within a (Puts r d i) k = absurd k
read_within a (Probes ws) k = absurd k

probe_within : (a : CellPlace) (w : CellWork) → ProbeShape a w → Within a w
probe_within a (Probes ws) k = k
probe_within a (Gets r) k = absurd k
probe_within a (Fills r) k = absurd k
probe_within a (Copies r c i) k = absurd k
probe_within a (Puts r d i) k = absurd k

judge_within : (a : CellPlace) (w : CellWork) → JudgeShape a w → Within a w
judge_within a (Fills r) k = tt
judge_within a (Copies r c i) k = k
judge_within a (Gets r) k = absurd k
judge_within a (Puts r d i) k = absurd k
judge_within a (Probes ws) k = absurd k

put_within : (a : CellPlace) (w : CellWork) → 0 < length a.chain → PutShape a w → Within a w
put_within a (Puts r d zero) some k = some
put_within a (Puts r d (suc i)) some k = k
put_within a (Gets r) some k = absurd k
put_within a (Fills r) some k = absurd k
put_within a (Copies r c i) some k = absurd k
put_within a (Probes ws) some k = absurd k

module _ (p : Layout) (rules : IsLayout p) where
  -- a request to a unit of the layout
  abbrev AsksUnit : Out → Type 0
  AsksUnit o = (u : ℕ) × (o.to ≡ unit_id u) × Has (units_of p) u

  one_asked : (pos i rid : ℕ) (y : Msg) → i < length (chain_of p pos) → (o : Out) → Has (out (unit_id (slice_index (chain_of p pos) i)) rid y ∷ []) o → AsksUnit o
  one_asked pos i rid y less o (inl e) = (slice_index (chain_of p pos) i, ap (λ (z : Out). z.to) e, chain_in_units p rules pos i less)
  one_asked pos i rid y less o (inr h) = absurd h

  -- several, of a chain or of the layout
  all_asked : (us : List ℕ) (ws : List (ℕ × ℕ)) (y : Msg) → ((u : ℕ) → StandsIn us u → Has (units_of p) u) → Asked us ws → (o : Out) → Has (asked_of unit_id y ws) o → AsksUnit o
  all_asked us ws y there k o h =
      let i = has_map (λ (w : ℕ × ℕ). out (unit_id w.0) w.1 y) ws o h in
      (i.of.0, ap (λ (z : Out). z.to) i.is, there i.of.0 (each_has (λ (w : ℕ × ℕ). StandsIn us w.0) ws i.of k.units i.has))

  chain_has : (pos u : ℕ) → StandsIn (chain_of p pos) u → Has (units_of p) u
  chain_has pos u s = subst (λ (v : ℕ). Has (units_of p) v) s.2 (chain_in_units p rules pos s.0 s.1)

  unit_has : (u : ℕ) → StandsIn (units_of p) u → Has (units_of p) u
  unit_has u s = subst (λ (v : ℕ). Has (units_of p) v) s.2 (has_at (units_of p) s.0 s.1)

  work_asked : (pos : ℕ) (w : CellWork) → Within (place_in p pos) w → (o : Out) → Has (work_asks (place_in p pos) w) o → AsksUnit o
  unfolding work_asks
  work_asked pos (Puts r d i) k o h = one_asked pos i r (msg.Write p.epoch pos d) k o h
  work_asked pos (Gets r) k o h = one_asked pos (length (chain_of p pos) - 1) r (msg.Read p.epoch pos) (last_of (length (chain_of p pos)) (some_there p pos rules)) o h
  work_asked pos (Fills r) k o h = one_asked pos 0 r (msg.Fill p.epoch pos) (some_there p pos rules) o h
  work_asked pos (Copies r c i) k o h = one_asked pos i r (msg.Copy p.epoch pos c) k o h
  work_asked pos (Probes ws) k o h = all_asked (chain_of p pos) ws (msg.Has p.epoch pos pos 1) (chain_has pos) k o h

  job_asked : (j : CellJob) → j.place ≡ place_in p j.place.pos → Within j.place j.work → (o : Out) → Has (cell_asks j) o → AsksUnit o
  job_asked j e k o h = work_asked j.place.pos j.work (subst (λ (a : CellPlace). Within a j.work) e k) o (subst (λ (a : CellPlace). Has (work_asks a j.work) o) e h)

  some_at : (a : CellPlace) → a ≡ place_in p a.pos → 0 < length a.chain
  some_at a e = subst (λ (b : CellPlace). 0 < length b.chain) (sym e) (some_there p a.pos rules)

-- Where units stand in these epochs, and sequencers so.
module _ (m : Meaning) (epochs : ℕ → ℕ) (seqrs : ℕ → SeqrState) where
  -- a node that a client asks in this layout is past it: one of its units, its sequencer, or the spare of a copy
  pub data Past (p : Layout) (y : CommandOf m) : Type 0 where
    OfUnit : (u : ℕ) → Has (units_of p) u → p.epoch < epochs u → Past p y
    OfSeqr : IsPast (seqrs p.seq) p.epoch → Past p y
    OfSpare : (u r s : ℕ) → y ≡ cmd.Copy u r s → p.epoch < epochs u → Past p y

  abbrev NextPast : {M E : Type 0} → Layout → CommandOf m → Next M E → Type 0
  NextPast p y (Learns x) = Past p y
  NextPast p y to = Unit {0}

  abbrev JobPast : Layout → CommandOf m → Next CellJob CellEnd → Type 0
  JobPast p y (Learns j) = Past p y
  JobPast p y (Ends (Fenced u e)) = Past p y
  JobPast p y to = Unit {0}

  -- A walk that begins doesn't learn, nor does an append.

  walks_past : (p : Layout) (y : CommandOf m) (next : ℕ) (w : Walk) → NextPast p y (walk_from p next w).to
  walks_past p y next w = walking.goes_on p next (λ (v : Walk). Unit {0}) (λ (t : WalkTurn). NextPast p y t.to) (λ v q c is e h. tt) (λ v h. tt) (λ v q is e h. tt) _ w tt

  again_past : (p : Layout) (y : CommandOf m) (a : Append) (next : ℕ) (to : Next Append AppendEnd) → appending.AppendAgain p a next to → NextPast p y to
  again_past p y a next _ appending.AsksAgain = tt
  again_past p y a next _ (appending.Judges t is e) = tt

  -- Of an answer of this node, by what it tells of its node's epoch.
  module _ (p : Layout) (y : CommandOf m) (n : ℕ) (x : Reply) (next : ℕ) where
    abbrev WhenFenced : Type 0
    WhenFenced = (e : ℕ) → x ≡ IsFenced e → nat_lt p.epoch e ≡ true → Past p y

    abbrev WhenOld : Type 0
    WhenOld = (e : ℕ) → x ≡ IsOldEpoch e → nat_lt p.epoch e ≡ true → Past p y

    abbrev JobWarns : CellJob → Type 0
    JobWarns j = (j.place.epoch ≡ p.epoch) × WhenFenced

    job_turn : (j : CellJob) (t : CellTurn) → cells.Fed n x next j t → JobWarns j → JobPast p y t.to
    job_turn _ _ (cells.IsFence j e is less) k = k.1 e is (subst (λ (a : ℕ). nat_lt a e ≡ true) k.0 less)
    job_turn _ _ z k = tt

    job_past : (j : CellJob) → JobWarns j → JobPast p y (cell_feed j n x next).to
    job_past j k = job_turn j _ (cells.cell_fed n x next j) k

    abbrev SyncWarns : SyncWork → Type 0
    SyncWarns (Checking r) = WhenOld
    SyncWarns (Settling a j) = JobWarns j
    SyncWarns (Probing a j) = JobWarns j

    sync_job : (w : SyncWork) (j : CellJob) → syncing.IsJob j w → SyncWarns w → JobWarns j
    sync_job _ j (syncing.OfSettle a) k = k
    sync_job _ j (syncing.OfProbe a) k = k

    sync_turn : (s : Sync) (t : Turn Sync Confirmed) → syncing.Fed p n x next s t → SyncWarns s.work → NextPast p y t.to
    sync_turn _ _ (syncing.LearnsEpoch os r e is less) k = k e is less
    sync_turn _ _ (syncing.JobLearns os w j i of e) k = subst (JobPast p y) e (job_past j (sync_job w j of k))
    sync_turn _ _ (syncing.JobFenced os w j u e of i) k = subst (JobPast p y) i (job_past j (sync_job w j of k))
    sync_turn _ _ z k = tt

    sync_past : (s : Sync) → SyncWarns s.work → NextPast p y (sync_feed p s s.work n x next).to
    sync_past s k = sync_turn s _ (syncing.sync_fed p n x next s) k

    abbrev WalkWarns : Option CellJob → Type 0
    WalkWarns None = Unit {0}
    WalkWarns (Some j) = JobWarns j

    walk_turn : (w : Walk) (t : WalkTurn) → walking.Fed p n x next w t → WalkWarns w.job → NextPast p y t.to
    walk_turn _ _ (walking.JobLearns w j i e) k = subst (JobPast p y) e (job_past j k)
    walk_turn _ _ (walking.JobFenced w j v e i) k = subst (JobPast p y) i (job_past j k)
    walk_turn _ _ (walking.ReadDone w j c e) k = walks_past p y (cell_feed j n x next).next (read_at (with_job w j) j.place.pos c)
    walk_turn _ _ z k = tt

    walk_past : (w : Walk) → WalkWarns w.job → NextPast p y (walk_feed p w w.job n x next).to
    walk_past w k = walk_turn w _ (walking.walk_fed p n x next w) k

    abbrev AppendWarns : AppendWork → Type 0
    AppendWarns (Asking r) = WhenOld
    AppendWarns (Putting j) = JobWarns j
    AppendWarns (Judging j) = JobWarns j

    append_job : (w : AppendWork) (j : CellJob) → appending.IsJob j w → AppendWarns w → JobWarns j
    append_job _ j appending.OfPut k = k
    append_job _ j appending.OfJudge k = k

    append_turn : (a : Append) (t : Turn Append AppendEnd) → appending.Fed p n x next a t → AppendWarns a.work → NextPast p y t.to
    append_turn _ _ (appending.LearnsEpoch d o r e is less) k = k e is less
    append_turn _ _ (appending.JobLearns d t w j i of e) k = subst (JobPast p y) e (job_past j (append_job w j of k))
    append_turn _ _ (appending.JobFenced d t w j u e of i) k = subst (JobPast p y) i (job_past j (append_job w j of k))
    append_turn _ _ z k = tt

    append_past : (a : Append) → AppendWarns a.work → NextPast p y (append_feed p a a.work n x next).to
    append_past a k = append_turn a _ (appending.append_fed p n x next a) k

    trims_turn : (z : Trims) (t : Turn Trims Trimmed) → trimming.Fed p n x next z t → WhenFenced → NextPast p y t.to
    trims_turn _ _ (trimming.IsFence z e is less) k = k e is less
    trims_turn _ _ z k = tt

    trims_past : (z : Trims) → WhenFenced → NextPast p y (trim_feed p z n x next).to
    trims_past z k = trims_turn z _ (trimming.trims_fed p n x next z) k

    abbrev CopyWarns : CopyWork → Type 0
    CopyWarns (Reading j) = JobWarns j
    CopyWarns w = WhenFenced

    copy_spare : (w : CopyWork) → copies.IsSpare w → CopyWarns w → WhenFenced
    copy_spare _ (copies.OfSeal r) k = k
    copy_spare _ (copies.OfStore r pos z) k = k
    copy_spare _ (copies.OfTrim r b) k = k
    copy_spare _ (copies.OfLook r) k = k

    copy_turn : (c : Copying) (t : Turn Copying CopyEnd) → copies.Fed p n x next c t → CopyWarns c.work → NextPast p y t.to
    copy_turn _ _ (copies.JobLearns c j i e) k = subst (JobPast p y) e (job_past j k)
    copy_turn _ _ (copies.JobFenced c j v e i) k = subst (JobPast p y) i (job_past j k)
    copy_turn _ _ (copies.IsFence c w e of is less) k = copy_spare w of k e is less
    copy_turn _ _ z k = tt

    copy_past : (c : Copying) → CopyWarns c.work → NextPast p y (copy_feed p c c.work n x next).to
    copy_past c k = copy_turn c _ (copies.copy_fed p n x next c) k

  -- Along a turn.

  abbrev pub HandPast : Layout → CommandOf m → Hand m → Type 0
  HandPast p y (Learning ws (Reconfiguring r)) = Unit {0}
  HandPast p y (Learning ws t) = Past p y
  HandPast p y (Doing t) = Unit {0}

  abbrev pub WorkPast : Layout → Option (Work m) → Type 0
  WorkPast p None = Unit {0}
  WorkPast p (Some w) = HandPast p w.command w.hand

  abbrev Good : Moved m → Type 0
  Good x = WorkPast x.now.stand x.now.work

  abbrev pub Here : Client m → Work m → Place m → Type 0
  Here c w (Feeds (Syncing s) n rid x) = NextPast c.stand w.command (sync_fed m c s n x).to
  Here c w (Feeds (Walking k os) n rid x) = NextPast c.stand w.command (walk_fed m c k n x).to
  Here c w (Feeds (Appending a y) n rid x) = NextPast c.stand w.command (append_fed m c a n x).to
  Here c w (Feeds (Trimming t) n rid x) = NextPast c.stand w.command (trims_fed m c t n x).to
  Here c w (Feeds (Copying' y) n rid x) = NextPast c.stand w.command (copy_fed m c y n x).to
  Here c w (OnSync bs to) = NextPast c.stand w.command to
  Here c w (OnWalk o os to) = NextPast c.stand w.command to
  Here c w (OnAppend y bs to) = NextPast c.stand w.command to
  Here c w (OnTrims b to) = NextPast c.stand w.command to
  Here c w (OnCopy x to) = NextPast c.stand w.command to
  Here c w p = Unit {0}

  way : (c : Client m) (w : Work m) (p : Place m) (d : Client m) (v : Work m) (q : Place m) → Way m c w p d v q → Here c w p → Here d v q
  unfolding sync_start trim_start copy_start
  way c w _ _ _ _ (FeedsSync s n rid x) h = h
  way c w _ _ _ _ (FeedsWalk k os n rid x) h = h
  way c w _ _ _ _ (FeedsAppend a y n rid x) h = h
  way c w _ _ _ _ (FeedsTrims t n rid x) h = h
  way c w _ _ _ _ (FeedsCopy y n rid x) h = h
  way c w _ _ _ _ (NewerSync s n rid q) h = tt
  way c w _ _ _ _ (NewerWalk k os n rid q) h = walks_past q w.command c.next k
  way c w _ _ _ _ (NewerAppend a y n rid q) h = again_past q w.command a c.next _ (appending.append_again_came q a c.next)
  way c w _ _ _ _ (NewerTrims t n rid q) h = tt
  way c w _ _ _ _ (NewerCopy x n rid q fine) h = tt
  way c w _ _ _ _ x h = tt

  walked_way : (c : Client m) (w : Work m) (d : Client m) (q : Place m) → AllWalked m c w d q → Here c w (Walks []) → Here d w q
  walked_way c w _ _ (HasPlayed of) k = tt
  walked_way c w _ _ x k = tt

  ends : (c : Client m) (w : Work m) (p : Place m) (x : Moved m) → End m c w p x → Here c w p → Good x
  unfolding appends append_start syncs sync_start
  ends c w _ _ (GoesOn _ _ _ x) k = tt
  ends c w _ _ (LearnsNewer _ (SyncLearns bs s)) k = k
  ends c w _ _ (LearnsNewer _ (WalkLearns o os x)) k = k
  ends c w _ _ (LearnsNewer _ (AppendLearns y bs a)) k = k
  ends c w _ _ (LearnsNewer _ (TrimsLearn b t)) k = k
  ends c w _ _ (LearnsNewer _ (CopyLearns x y)) k = k
  ends c w _ _ (LearnsNewer _ (ReconfLearns r)) k = tt
  ends c w _ _ x k = tt

  takes : (c : Client m) (x : CommandOf m) → c.work ≡ None → (y : Moved m) → Taken m c x y → Good y
  unfolding appends append_start syncs sync_start
  takes c _ free _ (SaidAtOnce x d ns s) = subst (WorkPast d.stand) (sym (said_work m c x d ns s ∙ free)) tt
  takes c _ free _ x = tt

  -- The turns.

  abbrev Stands : Client m → Type 0
  Stands c = WorkPast c.stand c.work

  pub commands : (c : Client m) (x : CommandOf m) → Stands c → Stands (client_command m c x).now
  unfolding client_command
  commands c x k = commanded m Good c x (λ why e. k) (λ e. takes c x (not_busy m c x e))

  pub hears : (c : Client m) (from : NodeId) (rid : ℕ) (y : Msg) → Stands c → ((w : Work m) (t : Task m) → c.work ≡ Some w → w.hand ≡ Doing t → awaits (task_awaited m c.stand t) from rid ≡ true → Here c w (Feeds t from.num rid (reply y)))
      → Stands (client_deliver m c from rid y).now
  unfolding client_deliver
  hears c from rid y k heard = delivered m Here Good ends way (over_walks m Here Good ends walked_way) c from rid (reply y) k (λ w t has doing a other. heard w t has doing a) (λ w q has is a. tt)

  pub ticks : (c : Client m) → Stands c → Stands (client_tick m c).now
  ticks c k = ticked m (λ (t : ClientTurn m). Stands t.now) c (λ none. k) (λ w has. k)

-- Nodes go to no earlier epoch.
module _ (m : Meaning) (e f : ℕ → ℕ) (a b : ℕ → SeqrState) (up : (u : ℕ) → e u ≤ f u) (stays : (s n : ℕ) → IsPast (a s) n → IsPast (b s) n) where
  past_later : (p : Layout) (y : CommandOf m) → Past m e a p y → Past m f b p y
  past_later p y (OfUnit u has less) = OfUnit u has (up_to p.epoch (e u) (f u) less (up u))
  past_later p y (OfSeqr k) = OfSeqr (stays p.seq p.epoch k)
  past_later p y (OfSpare u r s is less) = OfSpare u r s is (up_to p.epoch (e u) (f u) less (up u))

  hand_later : (p : Layout) (y : CommandOf m) (d : Hand m) → HandPast m e a p y d → HandPast m f b p y d
  hand_later p y (Doing t) k = tt
  hand_later p y (Learning ws (Reconfiguring r)) k = tt
  hand_later p y (Learning ws (Syncing s)) k = past_later p y k
  hand_later p y (Learning ws (Walking x os)) k = past_later p y k
  hand_later p y (Learning ws (Appending x z)) k = past_later p y k
  hand_later p y (Learning ws (Trimming t)) k = past_later p y k
  hand_later p y (Learning ws (Copying' x)) k = past_later p y k

  work_later : (p : Layout) (o : Option (Work m)) → WorkPast m e a p o → WorkPast m f b p o
  work_later p None k = tt
  work_later p (Some w) k = hand_later p w.command w.hand k

-- Each client of a run.
module _ (m : Meaning) where
  abbrev Epochs : Config m → ℕ → ℕ
  Epochs c = λ u. (unit_in m c u).epoch

  abbrev Seqrs : Config m → ℕ → SeqrState
  Seqrs c = λ s. seqr_in m c s

  abbrev pub AllPast : Config m → Type 0
  AllPast c = (k : ℕ) → WorkPast m (λ u. (unit_in m c u).epoch) (λ s. seqr_in m c s) (client_in m c k).stand (client_in m c k).work

  -- A client hears an answer.
  module _ (h : Header) (xs : Moves m) (r : Reaches m h xs (after m h xs)) (n : ℕ) (x : Packet) (comes : Comes m (config m (after m h xs)) x (client_id n)) where
    abbrev now : Config m
    now = config m (after m h xs)

    abbrev c : Client m
    c = client_in m (config m (after m h xs)) n

    abbrev p : Layout
    p = (client_in m (config m (after m h xs)) n).stand

    abbrev PastHere : CommandOf m → Type 0
    PastHere y = Past m (Epochs (config m (after m h xs))) (Seqrs (config m (after m h xs))) (client_in m (config m (after m h xs)) n).stand y

    rules : IsLayout p
    rules = (layouts_are_sound m h xs (after m h xs) r _ _ ((layouts_are_known m h xs (after m h xs) r).clients n)).rules

    -- a unit that tells a fence is past the layout
    fence : (u e : ℕ) → x.from ≡ unit_id u → reply x.msg ≡ IsFenced e → nat_lt p.epoch e ≡ true → p.epoch < (unit_in m now u).epoch
    fence u e from is less = up_to p.epoch e _ (less_of p.epoch e less) ((fences_hold m h xs).each u e x comes.sent from (is_fenced x.msg e is))

    unit_warns : (y : CommandOf m) (o : Out) → AsksUnit p rules o → o.to ≡ x.from → (e : ℕ) → reply x.msg ≡ IsFenced e → nat_lt p.epoch e ≡ true → PastHere y
    unit_warns y o g to e is less = OfUnit g.0 g.2 (fence g.0 e (sym to ∙ g.1) is less)

    -- so is a spare
    spare_warns : (y : CommandOf m) (z : Copying) (o : Out) → OfCommand m y z → o.to ≡ unit_id z.unit → o.to ≡ x.from → (e : ℕ) → reply x.msg ≡ IsFenced e → nat_lt p.epoch e ≡ true → PastHere y
    spare_warns y z o of at to e is less = OfSpare z.unit z.range z.stripe of (fence z.unit e (sym to ∙ at) is less)

    -- and a sequencer that tells a later epoch
    old_warns : (y : CommandOf m) (o : Out) → Has (reserved m c) o → o.to ≡ seqr_id p.seq → AsksIn o.msg p.epoch → o.to ≡ x.from → o.rid ≡ x.rid → (e : ℕ) → reply x.msg ≡ IsOldEpoch e → nat_lt p.epoch e ≡ true → PastHere y
    old_warns y o open' at asks to number e is less = OfSeqr (was.past p.epoch (subst (λ (z : Msg). AsksIn z p.epoch) same asks) (less_of p.epoch e less))
      where
        was : WasOld m now p.seq x e
        was = (olds_hold m h xs).each p.seq e x comes.sent (sym to ∙ at) (is_old x.msg e is)

        same : o.msg ≡ was.ask.msg
        same = ((all_hold m h xs).0.0.clients n).agree o was.ask open' was.asked (was.from ∙ comes.to_node) was.request (number ∙ sym was.rid) (to ∙ sym was.to)

    -- By what it waits for.
    module _ (v : Work m) (o : Out) (open' : Has (reserved m (client_in m (config m (after m h xs)) n)) o) (to : o.to ≡ x.from) (number : o.rid ≡ x.rid) where
      abbrev y : CommandOf m
      y = v.command

      job_warns : (j : CellJob) → jobs.JobOk (after m h xs).packets p j → Within j.place j.work → Has (cell_asks j) o → (j.place.epoch ≡ p.epoch) × ((e : ℕ) → reply x.msg ≡ IsFenced e → nat_lt p.epoch e ≡ true → PastHere y)
      job_warns j ok within has = (ap (λ (a : CellPlace). a.epoch) ok.place, λ e is less. unit_warns y o (job_asked p rules j ok.place within o has) to e is less)

      sync_warns : (s : Sync) (w : SyncWork) → SyncShape w → jobs.SyncOk (after m h xs).packets p w → Has (sync_work_asks p s w) o → SyncWarns m (Epochs now) (Seqrs now) p y x.from.num (reply x.msg) c.next w
      unfolding sync_work_asks
      sync_warns s (Checking i) shape ok (inl e) = old_warns y o open' (ap (λ (z : Out). z.to) e) (subst (λ (z : Out). AsksIn z.msg p.epoch) (sym e) refl) to number
      sync_warns s (Checking i) shape ok (inr g) = absurd g
      sync_warns s (Settling a j) shape ok has = job_warns j ok (read_within j.place j.work shape) has
      sync_warns s (Probing a j) shape ok has = job_warns j ok (probe_within j.place j.work shape) has

      walk_warns : (w : Option CellJob) → WalkShape w → jobs.MaybeOk (after m h xs).packets p w → Has (job_asks w) o → WalkWarns m (Epochs now) (Seqrs now) p y x.from.num (reply x.msg) c.next w
      walk_warns None shape ok has = tt
      walk_warns (Some j) shape ok has = job_warns j ok (read_within j.place j.work shape) has

      append_warns : (a : Append) (w : AppendWork) → Shape p w → jobs.AppendOk (after m h xs).packets p w → Has (append_work_asks p a w) o → AppendWarns m (Epochs now) (Seqrs now) p y x.from.num (reply x.msg) c.next w
      unfolding append_work_asks
      append_warns a (Asking i) shape ok (inl e) = old_warns y o open' (ap (λ (z : Out). z.to) e) (subst (λ (z : Out). AsksIn z.msg p.epoch) (sym e) refl) to number
      append_warns a (Asking i) shape ok (inr g) = absurd g
      append_warns a (Putting j) shape ok has = job_warns j ok (put_within j.place j.work (some_at p rules j.place ok.place) shape) has
      append_warns a (Judging j) shape ok has = job_warns j ok (judge_within j.place j.work shape.1) has

      trims_warn : (t : Trims) → TrimShape p t → Has (trim_asks p t) o → (e : ℕ) → reply x.msg ≡ IsFenced e → nat_lt p.epoch e ≡ true → PastHere y
      trims_warn t shape has = unit_warns y o (all_asked p rules (units_of p) t.waits (msg.Trim p.epoch t.below) (unit_has p rules) shape o has) to

      spare_of : (z : Copying) → OfCommand m y z → o.to ≡ unit_id z.unit → (e : ℕ) → reply x.msg ≡ IsFenced e → nat_lt p.epoch e ≡ true → PastHere y
      spare_of z of at = spare_warns y z o of at to

      copy_warns : (z : Copying) (w : CopyWork) → OfCommand m y z → brought.WorkShape p z.range z.stripe w → jobs.CopyOk (after m h xs).packets p w → Has (copy_work_asks p z w) o → CopyWarns m (Epochs now) (Seqrs now) p y x.from.num (reply x.msg) c.next w
      unfolding copy_work_asks
      copy_warns z (Reading j) of shape ok has = job_warns j ok (read_within j.place j.work shape.0) has
      copy_warns z (Sealing i) of shape ok (inl e) = spare_of z of (ap (λ (q : Out). q.to) e)
      copy_warns z (Sealing i) of shape ok (inr g) = absurd g
      copy_warns z (Storing i pos d) of shape ok (inl e) = spare_of z of (ap (λ (q : Out). q.to) e)
      copy_warns z (Storing i pos d) of shape ok (inr g) = absurd g
      copy_warns z (copying.Trimming i b) of shape ok (inl e) = spare_of z of (ap (λ (q : Out). q.to) e)
      copy_warns z (copying.Trimming i b) of shape ok (inr g) = absurd g
      copy_warns z (Looking i) of shape ok (inl e) = spare_of z of (ap (λ (q : Out). q.to) e)
      copy_warns z (Looking i) of shape ok (inr g) = absurd g

    module _ (v : Work m) (t : Task m) (works : (client_in m (config m (after m h xs)) n).work ≡ Some v) (hand : v.hand ≡ Doing t) (a : awaits (task_awaited m (client_in m (config m (after m h xs)) n).stand t) x.from x.rid ≡ true) where
      waited : Awaited (task_awaited m p t) x.from x.rid
      waited = awaited_ask (task_awaited m p t) x.from x.rid a

      kept_out : Has (reserved m c) waited.ask
      kept_out = subst (λ (z : Option (Work m)). Has (work_reserved m p z) waited.ask) (sym works) (subst (λ (d : Hand m). Has (hand_reserved m p d) waited.ask) (sym hand) waited.has)

      shaped : midway.TaskStands m p v t
      shaped = subst (λ (d : Hand m). midway.HandStands m p v d) hand (subst (λ (z : Option (Work m)). midway.WorkStands m p z) works (midway.all_stand m h xs (after m h xs) r n))

      told : hands.TaskOk m (after m h xs).packets p t
      told = subst (λ (d : Hand m). hands.HandOk m (after m h xs).packets p d) hand (subst (λ (z : Option (Work m)). hands.WorkOk m (after m h xs).packets p z) works ((cells_hold m h xs).hands n))

      brought' : brought.TaskStands m (Epochs now) p v t
      brought' = subst (λ (d : Hand m). brought.HandStands m (Epochs now) p v d) hand (subst (λ (z : Option (Work m)). brought.WorkStands m (Epochs now) p z) works (copies_stand m h xs n))

    heard : (v : Work m) (t : Task m) → c.work ≡ Some v → v.hand ≡ Doing t → awaits (task_awaited m p t) x.from x.rid ≡ true → Here m (Epochs now) (Seqrs now) c v (Feeds t x.from.num x.rid (reply x.msg))
    unfolding task_asks
    heard v (Syncing s) works hand a =
        let g = waited v (Syncing s) works hand a in
        sync_past m (Epochs now) (Seqrs now) p v.command x.from.num (reply x.msg) c.next s
        (sync_warns v g.ask (kept_out v (Syncing s) works hand a) g.to g.number s s.work (shaped v (Syncing s) works hand a) (told v (Syncing s) works hand a) g.has)
    heard v (Walking w os) works hand a =
        let g = waited v (Walking w os) works hand a in
        walk_past m (Epochs now) (Seqrs now) p v.command x.from.num (reply x.msg) c.next w
        (walk_warns v g.ask (kept_out v (Walking w os) works hand a) g.to g.number w.job (shaped v (Walking w os) works hand a).0 (told v (Walking w os) works hand a) g.has)
    heard v (Appending w z) works hand a =
        let g = waited v (Appending w z) works hand a in
        let holds : Holds m c w = record { work = v; purpose = z; has = works; holds = ap (task_in m) hand } in
        append_past m (Epochs now) (Seqrs now) p v.command x.from.num (reply x.msg) c.next w
        (append_warns v g.ask (kept_out v (Appending w z) works hand a) g.to g.number w w.work (shaped_hold m h xs r n w holds) (told v (Appending w z) works hand a) g.has)
    heard v (Trimming t) works hand a =
        let g = waited v (Trimming t) works hand a in
        trims_past m (Epochs now) (Seqrs now) p v.command x.from.num (reply x.msg) c.next t
        (trims_warn v g.ask (kept_out v (Trimming t) works hand a) g.to g.number t (shaped v (Trimming t) works hand a) g.has)
    heard v (Copying' z) works hand a =
        let g = waited v (Copying' z) works hand a in
        let b = brought' v (Copying' z) works hand a in
        copy_past m (Epochs now) (Seqrs now) p v.command x.from.num (reply x.msg) c.next z
        (copy_warns v g.ask (kept_out v (Copying' z) works hand a) g.to g.number z z.work b.1 b.0.work (told v (Copying' z) works hand a) g.has)
    heard v (Reconfiguring z) works hand a = tt

  module _ (h : Header) (xs : Moves m) (r : Reaches m h xs (after m h xs)) (held : AllPast (config m (after m h xs))) where
    abbrev g : Config m
    g = config m (after m h xs)

    turns : (k : ℕ) (t : ClientTurn m) → ClientInput m (config m (after m h xs)) k t → WorkPast m (Epochs g) (Seqrs g) t.now.stand t.now.work
    turns k t (Commanded x) = commands m (Epochs g) (Seqrs g) (client_in m g k) x (held k)
    turns k t (Hears' x comes) = hears m (Epochs g) (Seqrs g) (client_in m g k) x.from x.rid x.msg (held k) (λ v y works hand a. heard h xs r k x comes v y works hand a)
    turns k t Ticks' = ticks m (Epochs g) (Seqrs g) (client_in m g k) (held k)

    cases : Cases m (config m (after m h xs)) AllPast
    cases = record {
      idle = held;
      unit = λ u p a less. λ k. work_later m (Epochs g) (Epochs (unit_turn m g u p (unit_step (unit_in m g u) p.msg))) (Seqrs g) (Seqrs g) (λ v. ((unit_turn_grows m g u p less).unit v).epoch) (λ s n i. i) (client_in m g k).stand (client_in m g k).work (held k);
      layout = λ l p a less. held;
      seqr = λ s t i less. λ k. work_later m (Epochs g) (Epochs g) (Seqrs g) (Seqrs (seqr_turn m g s t)) (λ u. no_less (Epochs g u)) (λ j. seqr_stays m g s t i less j) (client_in m g k).stand (client_in m g k).work (held k);
      client = λ k t i less. at_set g.clients k t.now (new_client m g.cluster) (λ j d. WorkPast m (Epochs g) (Seqrs g) d.stand d.work) less (turns k t i) (λ j other. held j);
    }
      where
        no_less : (a : ℕ) → a ≤ a
        no_less a = omega arith

  new_past : (h : Header) (epochs : ℕ → ℕ) (seqrs : ℕ → SeqrState) (j : ℕ) → WorkPast m epochs seqrs (new_client m h j).stand (new_client m h j).work
  unfolding new_client
  new_past h epochs seqrs j = tt

  start_past : (h : Header) → AllPast (config m (start m h))
  unfolding start
  start_past h k =
      let e = Epochs (config m (start m h)) in
      let s = Seqrs (config m (start m h)) in
      at_map (new_client m h) (numbers h.clients 0) k (new_client m h k) (λ (d : Client m). WorkPast m e s d.stand d.work) (λ j. new_past h e s j) (new_past h e s k)

  pub all_past : (h : Header) (zs : Moves m) → Reaches m h zs (after m h zs) → AllPast (config m (after m h zs))
  all_past h zs r = along m h zs AllPast (λ xs e ys split held. cases h xs (before_reached m h zs r xs (Takes e ∷ ys) split) held) (start_past h) zs [] (sym (append-nil zs))
