-- Through each of a client's turns: what a sync or a walk in hand asks of its chain, how many streams are left to a walk,
-- and of which units a trim waits.
use Rattle.std.proofs.Common.{◌≡◌, ℕ, ◌<◌, ◌≤◌, List, [], true, refl, sym, ◌∙◌, subst, arith, Option, Some, None}
use Rattle.std.specs.Prelude.{nat_lt, length}
use Rattle.std.proofs.lemmas.Bool.Decides.{nat_tests}
use Rattle.tg_base.specs.Clusters.{Header}
use Rattle.tg_base.specs.Layouts.{Layout}
use Rattle.tg_base.specs.declared.cell.Cell.{Cell}
use Rattle.tg_base.specs.declared.ids.NodeId.{NodeId}
use Rattle.tg_base.specs.declared.ids.Oid.{Oid}
use Rattle.tg_base.specs.declared.msg.Msg.{Msg}
use Rattle.tg_kind.specs.Meaning.{Meaning}
use Rattle.tg_model.specs.Kinds.{CommandOf}
use Rattle.tg_protocol.specs.Words.{numbers}
use Rattle.tg_protocol.specs.Requests.{Next, Goes, Turn}
use Rattle.tg_protocol.specs.Replies.{Reply, reply}
use Rattle.tg_protocol.specs.Cells.{Place, CellWork, Puts, Gets, Fills, Copies, Probes, CellJob, CellEnd, cell_feed}
use Rattle.tg_protocol.specs.Appending.{append_start}
use Rattle.tg_protocol.specs.Syncing.{SyncWork, Checking, Settling, Probing, Sync, Confirmed, sync_start, sync_feed}
use Rattle.tg_protocol.specs.Layouts.{units_of}
use Rattle.tg_protocol.specs.Trimming.{Trims, Trimmed, TrimTurn, trim_start, trim_feed}
use Rattle.tg_protocol.specs.Walking.{Walk, Members, WalkTurn, trail, walk_from, walk_start, walk_feed, read_at}
use Rattle.tg_protocol.specs.Clients.{Task, Syncing, Walking, Appending, Trimming, Copying', Reconfiguring, Hand, Doing, Learning, Work, Client, new_client}
use Rattle.tg_protocol.specs.Answers.{Moved, appends, syncs}
use Rattle.tg_protocol.specs.ClientSteps.{ClientTurn, task_in, client_command, client_deliver, client_tick}
use Rattle.tg_protocol.specs.Worlds.{World, start}
use Rattle.tg_protocol.specs.Runs.{Moves, Reaches}
use Rattle.tg_law_layouts.specs.Moves.Configs.{Config, config, client_in}
use Rattle.tg_law_layouts.proofs.Moves.Lists.{at_set, at_map}
use Rattle.tg_law_layouts.proofs.Moves.Moves.{ClientInput, Commanded, Hears', Ticks', Cases, run_keeps}
use Rattle.tg_law_layouts.proofs.Moves.Turns.{not_busy}
use Rattle.tg_law_steps.proofs.Machines.Cells as cells
use Rattle.tg_law_steps.proofs.Machines.Syncs as syncing
use Rattle.tg_law_steps.proofs.Machines.Trims as trimming
use Rattle.tg_law_steps.proofs.Machines.Walks as walking
use Rattle.tg_law_steps.proofs.Places.{Place as At, Feeds, Newer, OnSync, OnWalk, OnTrims, Over, Walks}
use Rattle.tg_law_steps.proofs.Ways.{Way, FeedsSync, FeedsWalk, FeedsTrims, NewerSync, NewerWalk, NewerTrims, Confirms, Settles, EndsAtOnce, WalkEnds, MetNone, MetLow, MetHigh, StartsOver, AllWalked, HasPlayed}
use Rattle.tg_law_steps.proofs.Ends.{SyncGoes, WalkGoes, WalkBegins, TrimsGo, TrimsBegin, WalkLearns, End, GoesOn, LearnsNewer}
use Rattle.tg_law_steps.proofs.Takes.{Taken, SaidAtOnce, said_work}
use Rattle.tg_law_steps.proofs.Along.{delivered, commanded, ticked, over_walks}
use Rattle.tg_law_finish.proofs.Finish.Probes.{ProbeShape, Asked, asks_all, asks_rest}

less_of : (a b : ℕ) → nat_lt a b ≡ true → a < b
less_of a b e = grind (arith, nat_tests)

-- The machine of a cell.

-- a position is read, or filled, or its cell goes down the chain
abbrev pub ReadShape : Place → CellWork → Type 0
ReadShape a (Gets r) = Unit {0}
ReadShape a (Fills r) = Unit {0}
ReadShape a (Copies r c i) = i < length a.chain
ReadShape a (Puts r d i) = ⊥
ReadShape a (Probes ws) = ⊥

abbrev pub ReadNext : Next CellJob CellEnd → Type 0
ReadNext (Goes j) = ReadShape j.place j.work
ReadNext to = Unit {0}

abbrev ProbeNext : Next CellJob CellEnd → Type 0
ProbeNext (Goes j) = ProbeShape j.place j.work
ProbeNext to = Unit {0}

module _ (u : ℕ) (x : Reply) (next : ℕ) where
  read_turn : (j : CellJob) (t : Turn CellJob CellEnd) → cells.Fed u x next j t → ReadShape j.place j.work → ReadNext t.to
  read_turn _ _ (cells.PutsOn a r d i is e) k = absurd k
  read_turn _ _ (cells.ReadsNone a r is) k = tt
  read_turn _ _ (cells.CopiesOn a w c i is e) k = less_of i (length a.chain) e
  read_turn _ _ (cells.ProbesOn a ws v vs is e) k = absurd k
  read_turn _ _ (cells.Nothing j) k = k
  read_turn _ _ y k = tt

  pub read_job : (j : CellJob) → ReadShape j.place j.work → ReadNext (cell_feed j u x next).to
  read_job j k = read_turn j _ (cells.cell_fed u x next j) k

  no_copy : (a : Place) (w : CellWork) (c : Cell) (i : ℕ) → cells.IsCopied u x next w c i → ProbeShape a w → ⊥
  no_copy a _ _ _ (cells.FillHeld r is) k = k
  no_copy a _ _ _ (cells.FillTaken r c is) k = k
  no_copy a _ _ _ (cells.CopyHeld r c i is) k = k
  no_copy a _ _ _ (cells.CopySame r c i y is e) k = k

  probe_turn : (j : CellJob) (t : Turn CellJob CellEnd) → cells.Fed u x next j t → ProbeShape j.place j.work → ProbeNext t.to
  probe_turn _ _ (cells.PutsOn a r d i is e) k = absurd k
  probe_turn _ _ (cells.ReadsNone a r is) k = absurd k
  probe_turn _ _ (cells.CopiesOn a w c i is e) k = absurd (no_copy a w c i is k)
  probe_turn _ _ (cells.ProbesOn a ws v vs is e) k = asks_rest a.chain ws u v vs e k
  probe_turn _ _ (cells.Nothing j) k = k
  probe_turn _ _ y k = tt

  probe_job : (j : CellJob) → ProbeShape j.place j.work → ProbeNext (cell_feed j u x next).to
  probe_job j k = probe_turn j _ (cells.cell_fed u x next j) k

-- Syncs.

abbrev pub SyncShape : SyncWork → Type 0
SyncShape (Checking r) = Unit {0}
SyncShape (Settling a j) = ReadShape j.place j.work
SyncShape (Probing a j) = ProbeShape j.place j.work

abbrev SyncNext : Next Sync Confirmed → Type 0
SyncNext (Goes s) = SyncShape s.work
SyncNext to = Unit {0}

module _ (p : Layout) (s : Sync) (n : ℕ) (x : Reply) (next : ℕ) where
  sync_came : (w : SyncWork) (to : Next Sync Confirmed) → s.work ≡ w → syncing.SyncCame p s n x next w to → SyncShape w → SyncNext to
  sync_came _ _ e (syncing.Waits w) k = subst SyncShape (sym e) k
  sync_came _ _ e (syncing.FillsBelow r t ls is names more) k = tt
  sync_came _ _ e (syncing.ProbesBelow r t ls is names less) k = asks_all _ next
  sync_came _ _ e (syncing.SettlesOn a j i g) k = subst ReadNext g (read_job n x next j k)
  sync_came _ _ e (syncing.ProbesTrimmed a j b g) k = asks_all _ _
  sync_came _ _ e (syncing.ProbesOn a j i g) k = subst ProbeNext g (probe_job n x next j k)
  sync_came _ _ e y k = tt

  sync_ok : SyncShape s.work → SyncNext (sync_feed p s s.work n x next).to
  sync_ok k = sync_came s.work _ refl (syncing.sync_came p s n x next s.work) k

-- Walks.

abbrev pub WalkShape : Option CellJob → Type 0
WalkShape None = ⊥
WalkShape (Some j) = ReadShape j.place j.work

abbrev WalkNext : Next Walk Members → Type 0
WalkNext (Goes w) = WalkShape w.job
WalkNext to = Unit {0}

walks_ok : (p : Layout) (next : ℕ) (w : Walk) → WalkNext (walk_from p next w).to
walks_ok p next w = walking.goes_on p next (λ (v : Walk). Unit {0}) (λ (t : WalkTurn). WalkNext t.to) (λ v q c is e h. tt) (λ v h. tt) (λ v q is e h. tt) _ w tt

start_ok : (p : Layout) (o : Oid) (ls : List ℕ) (lo : ℕ) (cs : List (ℕ × Cell)) (next : ℕ) → WalkNext (walk_start p o ls lo cs next).to
unfolding walk_start
start_ok p o ls lo cs next = walks_ok p next (record { oid = o; lo = lo; cells = cs; trail = trail ls 0; members = []; job = None })

module _ (p : Layout) (w : Walk) (n : ℕ) (x : Reply) (next : ℕ) (k : WalkShape w.job) where
  walk_came : (o : Option CellJob) (t : WalkTurn) → walking.WalkCame p w n x next o t → WalkShape o → WalkNext t.to
  walk_came _ _ (walking.Waits o next') f = k
  walk_came _ _ (walking.ReadsOn j i e) f = subst ReadNext e (read_job n x next j f)
  walk_came _ _ (walking.HasRead j c e) f = walks_ok p (cell_feed j n x next).next (read_at w j.place.pos c)
  walk_came _ _ y f = tt

  walk_ok : WalkNext (walk_feed p w w.job n x next).to
  walk_ok = walk_came w.job _ (walking.walk_came p w n x next w.job) k

-- Trims.

-- some of the layout's units are waited for
abbrev pub TrimShape : Layout → Trims → Type 0
TrimShape p t = Asked (units_of p) t.waits

abbrev TrimNext : Layout → Next Trims Trimmed → Type 0
TrimNext p (Goes t) = TrimShape p t
TrimNext p to = Unit {0}

trim_begins : (p : Layout) (b next : ℕ) → TrimNext p (trim_start p b next).to
unfolding trim_start
trim_begins p b next = asks_all (units_of p) next

module _ (p : Layout) (u : ℕ) (x : Reply) (next : ℕ) where
  trim_turn : (t : Trims) (y : TrimTurn) → trimming.Fed p u x next t y → TrimShape p t → TrimNext p y.to
  trim_turn _ _ (trimming.TrimsOn b ws d w vs is left) k = asks_rest (units_of p) ws u w vs left k
  trim_turn _ _ (trimming.Nothing t) k = k
  trim_turn _ _ y k = tt

  trim_ok : (t : Trims) → TrimShape p t → TrimNext p (trim_feed p t u x next).to
  trim_ok t k = trim_turn t _ (trimming.trims_fed p u x next t) k

-- A client.
module _ (m : Meaning) where
  abbrev pub TaskStands : Layout → Work m → Task m → Type 0
  TaskStands p w (Syncing s) = SyncShape s.work
  TaskStands p w (Walking k os) = WalkShape k.job × (length os < length w.oids)
  TaskStands p w (Trimming t) = TrimShape p t
  TaskStands p w t = Unit {0}

  -- while it learns a newer layout
  abbrev LearnStands : Work m → Task m → Type 0
  LearnStands w (Walking k os) = length os < length w.oids
  LearnStands w t = Unit {0}

  abbrev pub HandStands : Layout → Work m → Hand m → Type 0
  HandStands p w (Doing t) = TaskStands p w t
  HandStands p w (Learning ws t) = LearnStands w t

  abbrev pub WorkStands : Layout → Option (Work m) → Type 0
  WorkStands p None = Unit {0}
  WorkStands p (Some w) = HandStands p w w.hand

  abbrev Good : Moved m → Type 0
  Good x = WorkStands x.now.stand x.now.work

  learns : (p : Layout) (w : Work m) (h : Hand m) → HandStands p w h → LearnStands w (task_in m h)
  learns p w (Doing (Walking k os)) x = x.1
  learns p w (Doing (Syncing s)) x = tt
  learns p w (Doing (Appending a y)) x = tt
  learns p w (Doing (Trimming t)) x = tt
  learns p w (Doing (Copying' c)) x = tt
  learns p w (Doing (Reconfiguring r)) x = tt
  learns p w (Learning ws t) x = x

  -- Along a turn.

  abbrev Here : Client m → Work m → At m → Type 0
  Here c w (Feeds t n rid x) = TaskStands c.stand w t
  Here c w (Newer t n rid q) = LearnStands w t
  Here c w (OnSync bs to) = SyncNext to
  Here c w (OnTrims b to) = TrimNext c.stand to
  Here c w (OnWalk o os to) = WalkNext to × (length os < length w.oids)
  Here c w (Over o os x g) = length os < length w.oids
  Here c w (Walks os) = length os ≤ length w.oids
  Here c w p = Unit {0}

  all_left : (n : ℕ) → n ≤ n
  all_left n = omega arith

  none_more : (a b : ℕ) → a < b → a ≤ b
  none_more a b less = omega (arith, less)

  way : (c : Client m) (w : Work m) (p : At m) (d : Client m) (v : Work m) (q : At m) → Way m c w p d v q → Here c w p → Here d v q
  unfolding sync_start
  way c w _ _ _ _ (FeedsSync s n rid x) k = sync_ok c.stand s n x c.next k
  way c w _ _ _ _ (FeedsWalk y os n rid x) k = (walk_ok c.stand y n x c.next k.0, k.1)
  way c w _ _ _ _ (FeedsTrims t n rid x) k = trim_ok c.stand n x c.next t k
  way c w _ _ _ _ (NewerSync s n rid q) k = tt
  way c w _ _ _ _ (NewerTrims t n rid q) k = trim_begins q t.below c.next
  way c w _ _ _ _ (NewerWalk y os n rid q) k = (walks_ok q c.next y, k)
  way c w _ _ _ _ (Confirms bs t ls) k = all_left _
  way c w _ _ _ _ (Settles bs t ls s) k = all_left _
  way c w _ _ _ _ (EndsAtOnce o os x e) k = none_more (length os) (length w.oids) k
  way c w _ _ _ _ (WalkEnds o os x) k = k.1
  way c w _ _ _ _ (MetNone o os x) k = none_more _ _ k
  way c w _ _ _ _ (MetLow o os x b e f) k = none_more _ _ k
  way c w _ _ _ _ (MetHigh o os x b e f z) k = none_more _ _ k
  way c w _ _ _ _ (StartsOver o os x b e f z) k = all_left _
  way c w _ _ _ _ x k = tt

  walked_way : (c : Client m) (w : Work m) (d : Client m) (q : At m) → AllWalked m c w d q → Here c w (Walks []) → Here d w q
  walked_way c w _ _ (HasPlayed of) k = tt
  walked_way c w _ _ x k = tt

  ends : (c : Client m) (w : Work m) (p : At m) (x : Moved m) → End m c w p x → Here c w p → Good x
  unfolding appends append_start syncs sync_start
  ends c w _ _ (GoesOn _ _ _ (SyncGoes bs s)) k = k
  ends c w _ _ (GoesOn _ _ _ (WalkGoes o os x)) k = k
  ends c w _ _ (GoesOn _ _ _ (TrimsGo b t)) k = k
  ends c w _ _ (GoesOn _ _ _ (TrimsBegin es p upto of came z)) k = asks_all (units_of c.stand) c.next
  ends c w _ _ (GoesOn _ _ _ (WalkBegins o os x e)) k = (subst WalkNext e (start_ok c.stand o _ w.lo c.cells c.next), k)
  ends c w _ _ (GoesOn _ _ _ x) k = tt
  ends c w _ _ (LearnsNewer _ (WalkLearns o os x)) k = k.1
  ends c w _ _ (LearnsNewer _ x) k = tt
  ends c w _ _ x k = tt

  takes : (c : Client m) (x : CommandOf m) → c.work ≡ None → (y : Moved m) → Taken m c x y → Good y
  unfolding appends append_start syncs sync_start
  takes c _ free _ (SaidAtOnce x d ns s) = subst (WorkStands d.stand) (sym (said_work m c x d ns s ∙ free)) tt
  takes c _ free _ x = tt

  -- The turns.

  abbrev Stands : Client m → Type 0
  Stands c = WorkStands c.stand c.work

  commands : (c : Client m) (x : CommandOf m) → Stands c → Stands (client_command m c x).now
  unfolding client_command
  commands c x k = commanded m Good c x (λ why e. k) (λ e. takes c x (not_busy m c x e))

  hears : (c : Client m) (from : NodeId) (rid : ℕ) (y : Msg) → Stands c → Stands (client_deliver m c from rid y).now
  unfolding client_deliver
  hears c from rid y k = delivered m Here Good ends way (over_walks m Here Good ends walked_way) c from rid (reply y) k
      (λ w t has doing a other. subst (HandStands c.stand w) doing (subst (WorkStands c.stand) has k))
      (λ w q has is a. learns c.stand w w.hand (subst (WorkStands c.stand) has k))

  ticks : (c : Client m) → Stands c → Stands (client_tick m c).now
  ticks c k = ticked m (λ (t : ClientTurn m). Stands t.now) c (λ none. k) (λ w has. k)

  -- Each client of a run.

  abbrev AllStand : Config m → Type 0
  AllStand c = (k : ℕ) → Stands (client_in m c k)

  turns : (c : Config m) → AllStand c → (k : ℕ) (t : ClientTurn m) → ClientInput m c k t → Stands t.now
  turns c h k t (Commanded x) = commands (client_in m c k) x (h k)
  turns c h k t (Hears' p comes) = hears (client_in m c k) p.from p.rid p.msg (h k)
  turns c h k t Ticks' = ticks (client_in m c k) (h k)

  keeps : (c : Config m) → AllStand c → Cases m c AllStand
  keeps c h = record {
    idle = h;
    unit = λ u p a less. h;
    layout = λ l p a less. h;
    seqr = λ s t i less. h;
    client = λ k t i less. at_set c.clients k t.now (new_client m c.cluster) (λ j d. Stands d) less (turns c h k t i) (λ j other. h j);
  }

  new_stands : (h : Header) (j : ℕ) → Stands (new_client m h j)
  unfolding new_client
  new_stands h j = tt

  start_stands : (h : Header) → AllStand (config m (start m h))
  unfolding start
  start_stands h k = at_map (new_client m h) (numbers h.clients 0) k (new_client m h k) (λ d. Stands d) (new_stands h) (new_stands h k)

  pub all_stand : (h : Header) (ms : Moves m) (w : World m) → Reaches m h ms w → AllStand (config m w)
  all_stand h ms w r = subst (λ (v : World m). AllStand (config m v)) (sym r.goes.is) (run_keeps m AllStand keeps ms (start m h) (start_stands h))
