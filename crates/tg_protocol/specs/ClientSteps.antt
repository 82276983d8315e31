-- A client's steps: a command, a delivered packet, a tick.
use Rattle.std.specs.Prelude.{ℕ, ◌+◌, Bool, true, false, not, ◌&&◌, ◌==◌, nat_lt, max, List, [], ◌∷◌, ◌++◌, length, Option, Some, None, is_some, if◌then◌else◌}
use Rattle.tg_base.specs.Layouts.{Layout}
use Rattle.tg_base.specs.declared.cell.Cell.{Cell}
use Rattle.tg_base.specs.declared.cell.Cell.TheVariants.{Data}
use Rattle.tg_base.specs.declared.ids.NodeId.{NodeId}
use Rattle.tg_base.specs.declared.ids.Oid.{Oid}
use Rattle.tg_base.specs.declared.msg.Msg.{Msg}
use Rattle.tg_base.specs.declared.msg.Msg.TheVariants as msg
use Rattle.tg_base.specs.declared.packet.Out.{Out}
use Rattle.tg_kind.specs.Meaning.{Meaning}
use Rattle.tg_base.specs.Orders.{node_eq, with_oid}
use Rattle.tg_protocol.specs.Words.{layout_id, with_num, with_cell, numbers}
use Rattle.tg_protocol.specs.Entries.{link_of, backs_of}
use Rattle.tg_protocol.specs.Requests.{awaits, drawn_from, Waits, waits_for, asked_of, Next, Goes, Learns, Ends, Turn}
use Rattle.tg_protocol.specs.Replies.{Reply, IsLatest, reply}
use Rattle.tg_protocol.specs.Appending.{Append, AppendEnd, At, Full, Forgotten, append_asks, append_feed, append_again}
use Rattle.tg_protocol.specs.Syncing.{Sync, Confirmed, sync_asks, sync_feed, sync_again}
use Rattle.tg_protocol.specs.Walking.{Walk, Members, walk_asks, walk_start, walk_feed, walk_again}
use Rattle.tg_protocol.specs.Trimming.{Trims, Trimmed, trim_asks, trim_start, trim_feed, Copying, CopyEnd, copy_asks, copy_start, copy_feed}
use Rattle.tg_protocol.specs.Trimming as copying
use Rattle.tg_protocol.specs.Reconfiguring.{Reconf, ReconfEnd, Installed, Overtaken, NotWhole, reconf_start, reconf_asks, reconf_awaited, reconf_again_asks, reconf_feed, reconf_latest}
use Rattle.tg_protocol.specs.Views.{View, fate_of, state_of, view_version}
use Rattle.tg_protocol.specs.Checkpoints.{load_from}
use Rattle.tg_protocol.specs.Transactions.{Tx, open_tx, tx_read, tx_put, commit_record}
use Rattle.tg_model.specs.declared.command.Command.TheVariants as cmd
use Rattle.tg_model.specs.declared.refusal.Refusal.{Refusal}
use Rattle.tg_model.specs.declared.refusal.Refusal.TheVariants as cause
use Rattle.tg_model.specs.declared.trace.What.TheVariants as told
use Rattle.tg_model.specs.Kinds.{CommandOf, WhatOf, NoteOf}
use Rattle.tg_protocol.specs.Clients.{Purpose, Writes, Judged, Decides, Rescues, Saves, Marks, Task, Syncing, Walking, Appending, Trimming, Copying', Reconfiguring, Hand, Doing, Learning, Work, Client, upto, hosts_oid, with_positions, entries_at, tx_number, number_on, write_of, copy_fault, refusal}
use Rattle.tg_protocol.specs.Answers.{Moved, moved, note, replies, refuses, took_over, answers, closed, appends, syncs, walked}

module _ (m : Meaning) where
  -- What is outstanding.

  unfoldable pub task_asks : Layout → Task m → List Out
  task_asks p (Syncing s) = sync_asks p s
  task_asks p (Walking w os) = walk_asks w
  task_asks p (Appending a x) = append_asks p a
  task_asks p (Trimming t) = trim_asks p t
  task_asks p (Copying' c) = copy_asks p c
  task_asks p (Reconfiguring r) = reconf_asks r

  abbrev pub asks_latest : Waits → List Out
  asks_latest waits = asked_of layout_id msg.AskLatest waits

  abbrev pub hand_asks : Layout → Hand m → List Out
  hand_asks p (Doing t) = task_asks p t
  hand_asks p (Learning waits t) = asks_latest waits

  abbrev pub work_asks : Layout → Option (Work m) → List Out
  work_asks p None = []
  work_asks p (Some w) = hand_asks p w.hand

  -- the requests that are outstanding; those of a reconfiguration's set round come beside them
  unfoldable pub client_asks : Client m → List Out
  client_asks c = work_asks c.stand c.work

  abbrev pub task_awaited : Layout → Task m → List Out
  task_awaited p (Reconfiguring r) = reconf_awaited r
  task_awaited p t = task_asks p t

  abbrev pub task_again_asks : Layout → Task m → List Out
  task_again_asks p (Reconfiguring r) = reconf_again_asks r
  task_again_asks p t = task_asks p t

  abbrev pub hand_again_asks : Layout → Hand m → List Out
  hand_again_asks p (Doing t) = task_again_asks p t
  hand_again_asks p (Learning waits t) = asks_latest waits

  abbrev pub task_in : Hand m → Task m
  task_in (Doing t) = t
  task_in (Learning waits t) = t

  -- What a machine's turn makes of the client.

  abbrev pub after_turn : {M E : Type 0} → Client m → Turn M E → Client m
  after_turn c t = record c { next = t.next }

  -- the greatest `Gone` is kept
  abbrev pub met : {M E : Type 0} → Work m → Turn M E → Work m
  met w t = record w { gone = max w.gone t.gone }

  abbrev pub goes_on : Client m → Work m → Task m → List Out → Moved m
  goes_on c w t besides = record { now = record c { work = Some (record w { hand = Doing t }) }; besides = besides; notes = [] }

  -- all layout servers are asked for a newer layout
  abbrev pub learns_for : Client m → Work m → Task m → Moved m
  learns_for c w t = moved m (record c {
    next = c.next + c.layouts;
    work = Some (record w { hand = Learning (waits_for (numbers c.layouts 0) c.next) t });
  }) []

  -- Walks.

  abbrev pub lasts_of : Work m → Oid → List ℕ
  lasts_of w o = backs_of (link_of o w.lasts)

  abbrev pub trims_with : List (Oid × ℕ) → Oid → Option ℕ → List (Oid × ℕ)
  trims_with ts o None = ts
  trims_with ts o (Some b) = ts ++ (o, b) ∷ []

  abbrev pub found_by : Work m → Oid → Members → Work m
  found_by w o x = record w { found = with_positions m w.found o x.list; trims = trims_with w.trims o x.gone }

  -- the walk has the known cells until it ends
  abbrev pub lends : Client m → Client m
  lends c = record c { cells = [] }

  abbrev pub takes_back : Client m → Members → Client m
  takes_back c x = record c { cells = x.cells }

  abbrev pub start_walk : Client m → Work m → Oid → Turn Walk Members
  start_walk c w o = walk_start c.stand o (lasts_of w o) w.lo c.cells c.next

  -- the streams one after the other, each as far as known cells lead; where all are walked the command goes on
  unfoldable pub walks : List Oid → Client m → Work m → Moved m
  walks [] c w = walked m c w
  walks (o ∷ os) c w = elim ((start_walk c w o).to) as (λ _. Moved m) [
    | Goes x ↦ goes_on (lends (after_turn c (start_walk c w o))) w (Walking x os) []
    | Learns x ↦ moved m c []
    | Ends x ↦ walks os (takes_back c x) (found_by w o x)
  ]

  -- Syncs.

  abbrev pub fate_missing : Option (View m) → ℕ → Bool
  fate_missing None p = true
  fate_missing (Some v) p = nat_lt p v.upto && not (is_some (fate_of m v p))

  abbrev pub zero_if : Bool → ℕ → ℕ
  zero_if true n = 0
  zero_if false n = n

  -- from where a command walks: the kept view's `upto`, or 0
  abbrev pub lo_for : Client m → CommandOf m → ℕ
  lo_for c (cmd.Forget o n) = 0
  lo_for c (cmd.Decide p) = 0
  lo_for c (cmd.AskAt p o q) = 0
  lo_for c (cmd.Rescue p) = 0
  lo_for c (cmd.Fate p) = zero_if (fate_missing c.view p) (upto m c)
  lo_for c x = upto m c

  abbrev pub knows : Client m → Option (ℕ × Cell) → Client m
  knows c None = c
  knows c (Some s) = record c { cells = with_cell c.cells s.0 s.1 }

  -- the tail is confirmed, and the walks begin
  abbrev pub synced : Client m → Work m → Confirmed → Moved m
  synced c w x = walks w.oids (knows c x.settled) (record w { tail = x.tail; lasts = x.lasts; lo = lo_for c w.command })

  abbrev pub sync_to : Client m → Work m → List Out → Next Sync Confirmed → Moved m
  sync_to c w besides (Goes s) = goes_on c w (Syncing s) besides
  sync_to c w besides (Learns s) = learns_for c w (Syncing s)
  sync_to c w besides (Ends x) = synced c w x

  abbrev pub on_sync : Client m → Work m → Turn Sync Confirmed → Moved m
  on_sync c w t = sync_to (after_turn c t) (met w t) t.besides t.to

  -- A walk that has ended.

  -- no member is a checkpoint that reaches the trim, and no such `Gone` was known before the sync: the tail is stale
  abbrev pub stale : Client m → Work m → Oid → Members → ℕ → Bool
  stale c w o x b = not (is_some (load_from m (entries_at m c.cells x.list) o b)) && nat_lt w.gone_before b

  -- past views and rescues leave the kept view alone
  abbrev pub plays_kept : CommandOf m → Bool
  plays_kept (cmd.AskAt p o q) = false
  plays_kept (cmd.Rescue p) = false
  plays_kept x = true

  -- a trim above the kept view's `upto` gives the view up at once
  abbrev pub gives_up : Client m → Work m → ℕ → Bool
  gives_up c w b = plays_kept w.command && is_some c.view && nat_lt (upto m c) b

  abbrev pub given_up_if : Bool → Client m → Client m
  given_up_if true c = record c { view = None }
  given_up_if false c = c

  -- and the walks start over from the first stream, unless all was walked from 0
  abbrev pub starts_over : Client m → Work m → List Oid → Bool → Moved m
  starts_over c w os true = walks w.oids c (record w { lo = 0; found = []; trims = [] })
  starts_over c w os false = walks os c w

  -- with a stale tail they start over in any case, after a new sync
  abbrev pub at_trim : Client m → Work m → List Oid → Bool → Bool → Moved m
  at_trim c w os true over = syncs m c w w.oids
  at_trim c w os false over = starts_over c w os over

  abbrev pub walk_ended_by : Client m → Work m → Oid → List Oid → Members → Option ℕ → Moved m
  walk_ended_by c w o os x None = walks os c w
  walk_ended_by c w o os x (Some b) =
      at_trim (given_up_if (gives_up c w b) c) w os (stale c w o x b) (gives_up c w b && not (w.lo == 0))

  abbrev pub walk_ended : Client m → Work m → Oid → List Oid → Members → Moved m
  walk_ended c w o os x = walk_ended_by (takes_back c x) (found_by w o x) o os x x.gone

  abbrev pub walk_to : Client m → Work m → Oid → List Oid → Next Walk Members → Moved m
  walk_to c w o os (Goes x) = goes_on c w (Walking x os) []
  walk_to c w o os (Learns x) = learns_for c w (Walking x os)
  walk_to c w o os (Ends x) = walk_ended c w o os x

  abbrev pub on_walk : Client m → Work m → Oid → List Oid → Turn Walk Members → Moved m
  on_walk c w o os t = walk_to (after_turn c t) (met w t) o os t.to

  -- Appends.

  -- the page of an append that ended is known
  abbrev pub knows_page : Client m → ℕ → List ℕ → Client m
  knows_page c p d = record c { cells = with_cell c.cells p (Data d) }

  abbrev pub owns : Client m → ℕ → List ℕ → Client m
  owns c p d = record c { cells = with_cell c.cells p (Data d); own = with_num p c.own }

  abbrev pub tx_of : Client m → ℕ
  tx_of c = tx_number m c.tx

  -- a record that was forgotten closes its transaction; a full log leaves it open
  abbrev pub record_lost : Client m → AppendEnd → Moved m
  record_lost c (Full l) = refuses m c (tx_of c) (cause.LogFull l)
  record_lost c (Forgotten p b) = refuses m (closed m c) (tx_of c) (cause.Forgotten p b)
  record_lost c (At p d) = moved m c []

  abbrev pub lost : Client m → ℕ → AppendEnd → Moved m
  lost c tx (Full l) = refuses m c tx (cause.LogFull l)
  lost c tx (Forgotten p b) = refuses m c tx (cause.Forgotten p b)
  lost c tx (At p d) = moved m c []

  abbrev pub page_known : Client m → AppendEnd → Client m
  page_known c (At p d) = knows_page c p d
  page_known c _ = c

  -- the answer that waited for a decision record
  abbrev pub decided_for : Client m → CommandOf m → WhatOf m → Moved m
  decided_for c cmd.End x = answers m (closed m c) (tx_of c) x
  decided_for c _ x = answers m c 0 x

  abbrev pub append_ended : Client m → Work m → Purpose m → AppendEnd → Moved m
  append_ended c w Writes (At p d) = replies m (closed m (owns c p d)) (note m (tx_of c) (told.Committed p) ∷ [])
  append_ended c w Writes e = record_lost c e
  append_ended c w Judged (At p d) = syncs m (owns c p d) (record w { at = p }) c.hosted
  append_ended c w Judged e = record_lost c e
  append_ended c w (Decides x) e = decided_for (page_known c e) w.command x
  append_ended c w (Rescues x) (At p d) = replies m (knows_page c p d) (note m 0 x ∷ [])
  append_ended c w (Rescues x) e = lost c 0 e
  append_ended c w (Saves o upto) (At p d) = answers m (knows_page c p d) 0 (told.Saved o p upto)
  append_ended c w (Saves o upto) e = lost c 0 e
  append_ended c w (Marks n o mark) (At p d) = replies m (took_over m (owns c p d) c.view) (note m n (told.Committed p) ∷ note m 0 (told.Marked o mark) ∷ [])
  append_ended c w (Marks n o mark) e = lost c n e

  abbrev pub append_to : Client m → Work m → Purpose m → List Out → Next Append AppendEnd → Moved m
  append_to c w x besides (Goes a) = goes_on c w (Appending a x) besides
  append_to c w x besides (Learns a) = learns_for c w (Appending a x)
  append_to c w x besides (Ends e) = append_ended c w x e

  abbrev pub on_append : Client m → Work m → Purpose m → Turn Append AppendEnd → Moved m
  on_append c w x t = append_to (after_turn c t) (met w t) x t.besides t.to

  -- Trims, copies, reconfigurations.

  abbrev pub trim_to : Client m → Work m → ℕ → Next Trims Trimmed → Moved m
  trim_to c w b (Goes t) = goes_on c w (Trimming t) []
  trim_to c w b (Learns t) = learns_for c w (Trimming t)
  trim_to c w b (Ends e) = answers m c 0 (told.Trimmed b)

  abbrev pub on_trims : Client m → Work m → ℕ → Turn Trims Trimmed → Moved m
  on_trims c w b t = trim_to (after_turn c t) (met w t) b t.to

  abbrev pub copy_to : Client m → Work m → Copying → Next Copying CopyEnd → Moved m
  copy_to c w x (Goes y) = goes_on c w (Copying' y) []
  copy_to c w x (Learns y) = learns_for c w (Copying' y)
  copy_to c w x (Ends e) = replies m c (note m 0 (told.Copied x.unit x.range x.stripe) ∷ [])

  abbrev pub on_copy : Client m → Work m → Copying → Turn Copying CopyEnd → Moved m
  on_copy c w x t = copy_to (after_turn c t) (met w t) x t.to

  abbrev pub stands : Client m → Layout → Client m
  stands c p = record c { stand = p }

  abbrev pub reconf_ended : Client m → ReconfEnd → Moved m
  reconf_ended c (Installed e p) = replies m (stands c p) (note m 0 (told.Installed e) ∷ [])
  reconf_ended c (Overtaken e p) = refuses m (stands c p) 0 (cause.Overtaken e)
  reconf_ended c (NotWhole u pos p) = refuses m (stands c p) 0 (cause.NotWhole u pos)

  abbrev pub reconf_to : Client m → Work m → Next Reconf ReconfEnd → Moved m
  reconf_to c w (Goes r) = goes_on (stands c r.stand) w (Reconfiguring r) []
  reconf_to c w (Learns r) = learns_for c w (Reconfiguring r)
  reconf_to c w (Ends e) = reconf_ended c e

  abbrev pub on_reconf : Client m → Work m → Turn Reconf ReconfEnd → Moved m
  on_reconf c w t = reconf_to (after_turn c t) w t.to

  -- An awaited answer.

  unfoldable pub task_feed : Client m → Work m → Task m → ℕ → ℕ → Reply → Moved m
  task_feed c w (Syncing s) n rid x = on_sync c w (sync_feed c.stand s s.work n x c.next)
  task_feed c w (Walking k os) n rid x = on_walk c w k.oid os (walk_feed c.stand k k.job n x c.next)
  task_feed c w (Appending a y) n rid x = on_append c w y (append_feed c.stand a a.work n x c.next)
  task_feed c w (Trimming t) n rid x = on_trims c w t.below (trim_feed c.stand t n x c.next)
  task_feed c w (Copying' y) n rid x = on_copy c w y (copy_feed c.stand y y.work n x c.next)
  task_feed c w (Reconfiguring r) n rid x = on_reconf c w (reconf_feed r r.work n rid x c.next)

  -- A newer layout: the task goes on there.

  abbrev pub copies_again : Client m → Work m → Copying → Option Refusal → Moved m
  copies_again c w x None = on_copy c w x (copy_start x.unit x.range x.stripe c.next)
  copies_again c w x (Some why) = refuses m c 0 why

  unfoldable pub task_again : Client m → Work m → Task m → Moved m
  task_again c w (Syncing s) = on_sync c (record w { gone_before = w.gone }) (sync_again s c.next)
  task_again c w (Walking k os) = on_walk c w k.oid os (walk_again c.stand k c.next)
  task_again c w (Appending a y) = on_append c w y (append_again c.stand a c.next)
  task_again c w (Trimming t) = on_trims c w t.below (trim_start c.stand t.below c.next)
  task_again c w (Copying' x) = copies_again c w x (copy_fault m c.stand x.unit x.range x.stripe)
  task_again c w (Reconfiguring r) = goes_on c w (Reconfiguring r) []

  abbrev pub on_newer : Client m → Work m → Task m → ℕ → ℕ → Layout → Moved m
  on_newer c w (Reconfiguring r) n rid q = on_reconf c w (reconf_latest r r.work n rid q c.next)
  on_newer c w t n rid q = task_again (stands c q) w t

  -- Deliveries.

  abbrev pub fed_if : Bool → Client m → Work m → Task m → NodeId → ℕ → Reply → Moved m
  fed_if true c w t from rid x = task_feed c w t from.num rid x
  fed_if false c w t from rid x = moved m c []

  -- while it learns nothing else is awaited
  abbrev pub hand_feed : Client m → Work m → Hand m → NodeId → ℕ → Reply → Moved m
  hand_feed c w (Doing t) from rid x = fed_if (awaits (task_awaited c.stand t) from rid) c w t from rid x
  hand_feed c w (Learning waits t) from rid x = moved m c []

  -- a newer `Latest` of a layout server is taken whatever its number
  abbrev pub latest_if : Bool → Client m → Work m → NodeId → ℕ → Layout → Moved m
  latest_if true c w from rid q = on_newer c w (task_in w.hand) from.num rid q
  latest_if false c w from rid q = moved m c []

  abbrev pub reply_feed : Client m → Work m → NodeId → ℕ → Reply → Moved m
  reply_feed c w from rid (IsLatest q) = latest_if (node_eq from (layout_id from.num) && nat_lt c.stand.epoch q.epoch) c w from rid q
  reply_feed c w from rid x = hand_feed c w w.hand from rid x

  abbrev pub feed : Client m → Option (Work m) → NodeId → ℕ → Reply → Moved m
  feed c None from rid x = moved m c []
  feed c (Some w) from rid x = reply_feed c w from rid x

  -- Commands.

  abbrev pub new_work : CommandOf m → Work m
  new_work x = record {
    command = x;
    hand = Doing (Trimming (record { below = 0; waits = [] }));
    gone = 0;
    gone_before = 0;
    tail = 0;
    lasts = [];
    oids = [];
    lo = 0;
    found = [];
    trims = [];
    at = 0;
  }

  abbrev pub hosts_more : Client m → Oid → Bool → Moved m
  hosts_more c o true = moved m c (note m 0 (told.Hosted o) ∷ [])
  hosts_more c o false = moved m (record c { hosted = with_oid o c.hosted; view = None }) (note m 0 (told.Hosted o) ∷ [])

  abbrev pub begins : Client m → Moved m
  begins c = moved m (record c { begun = c.begun + 1; tx = Some (open_tx (c.begun + 1)) }) (note m (c.begun + 1) told.Begin ∷ [])

  abbrev pub puts : Client m → Oid → m.op → Option Tx → Moved m
  puts c o op None = moved m c []
  puts c o op (Some t) = moved m (record c { tx = Some (tx_put t (write_of m o op)) }) (note m t.number (told.Put o op) ∷ [])

  -- later asks are answered at the first one's snapshot

  abbrev pub asked_of_state : Client m → Tx → ℕ → Oid → m.ask → View m → Option m.state → Moved m
  asked_of_state c t at o q v None = moved m c []
  asked_of_state c t at o q v (Some s) =
      moved m (record c { tx = Some (tx_read t (record { oid = o; part = m.look q; version = view_version m v o (m.look q) }) at) })
      (note m t.number (told.Asked o q at (m.answers s q)) ∷ [])

  abbrev pub asks_view : Client m → Tx → ℕ → Oid → m.ask → Option (View m) → Moved m
  asks_view c t at o q None = moved m c []
  asks_view c t at o q (Some v) = asked_of_state c t at o q v (state_of m v o)

  abbrev pub asks_by : Client m → CommandOf m → Oid → m.ask → Tx → Option ℕ → Moved m
  asks_by c x o q t None = syncs m c (new_work x) c.hosted
  asks_by c x o q t (Some at) = asks_view c t at o q c.view

  abbrev pub asks : Client m → CommandOf m → Oid → m.ask → Option Tx → Moved m
  asks c x o q None = moved m c []
  asks c x o q (Some t) = asks_by c x o q t t.snapshot

  abbrev pub snapshot_or : Option ℕ → ℕ
  snapshot_or None = 0
  snapshot_or (Some t) = t

  abbrev pub purpose_of : Tx → Purpose m
  purpose_of t = if length t.reads == 0 then Writes else Judged

  abbrev pub end_by : Client m → CommandOf m → Tx → Bool → Moved m
  end_by c x t true = moved m (closed m c) (note m t.number told.End ∷ note m t.number (told.Committed (snapshot_or t.snapshot)) ∷ [])
  end_by c x t false = appends m c (new_work x) (commit_record t c.num) (purpose_of t) (note m t.number told.End ∷ [])

  abbrev pub ends : Client m → CommandOf m → Option Tx → Moved m
  ends c x None = moved m c []
  ends c x (Some t) = end_by c x t (length t.writes == 0)

  abbrev pub works_on : Client m → CommandOf m → Moved m
  works_on c x = syncs m c (new_work x) c.hosted

  unfoldable pub accepts : Client m → CommandOf m → Moved m
  accepts c (cmd.Host o) = hosts_more c o (hosts_oid m c o)
  accepts c cmd.Begin = begins c
  accepts c (cmd.Put o op) = puts c o op c.tx
  accepts c (cmd.Ask o q) = asks c (cmd.Ask o q) o q c.tx
  accepts c cmd.End = ends c cmd.End c.tx
  accepts c cmd.Drop = moved m (closed m c) (note m (tx_of c) told.Dropped ∷ [])
  accepts c (cmd.Reconf x) = on_reconf c (new_work (cmd.Reconf x)) (reconf_start c.stand c.layouts x c.num c.next)
  accepts c (cmd.Copy u r s) = copies_again c (new_work (cmd.Copy u r s)) (record { unit = u; range = r; stripe = s; work = copying.Sealing 0 }) None
  accepts c x = works_on c x

  abbrev pub refused_or : Client m → CommandOf m → Option Refusal → Moved m
  refused_or c x None = accepts c x
  refused_or c x (Some why) = moved m c (note m (number_on m c why) (told.Refused why) ∷ [])

  -- The steps.

  pub record ClientTurn : Type 0 where
    pub now : Client m
    pub sends : List Out
    pub notes : List (NoteOf m)

  abbrev pub called : Client m → Client m
  called c = record c { calls = c.calls + 1 }

  -- what is sent: the new outstanding requests, and what goes besides
  abbrev pub given : Client m → Moved m → ClientTurn
  given old x = record { now = called x.now; sends = x.besides ++ drawn_from old.next (client_asks x.now); notes = x.notes }

  unfoldable pub client_command : Client m → CommandOf m → ClientTurn
  client_command c x = given c (refused_or c x (refusal m c x))

  unfoldable pub client_deliver : Client m → NodeId → ℕ → Msg → ClientTurn
  client_deliver c from rid x = given c (feed c c.work from rid (reply x))

  -- a waiting client sends its outstanding requests again, and asks for the latest layout with new numbers
  abbrev pub tick_by : Client m → Option (Work m) → ClientTurn
  tick_by c None = record { now = called c; sends = []; notes = [] }
  tick_by c (Some w) = record {
    now = called (record c { next = c.next + c.layouts });
    sends = hand_again_asks c.stand w.hand ++ asks_latest (waits_for (numbers c.layouts 0) c.next);
    notes = [];
  }

  unfoldable pub client_tick : Client m → ClientTurn
  client_tick c = tick_by c c.work
