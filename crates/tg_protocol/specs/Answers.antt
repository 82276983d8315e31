-- How a client answers a command: what it appends, and what it tells once it has played.
use Rattle.std.specs.Prelude.{ℕ, ◌+◌, Bool, true, false, not, ◌&&◌, ◌||◌, ◌==◌, nat_lt, nat_le, max, List, [], ◌∷◌, filter, Option, Some, None, is_some, if◌then◌else◌}
use Rattle.tg_base.specs.declared.cell.Cell.{Cell}
use Rattle.tg_base.specs.declared.cell.Cell.TheVariants.{Junk, Data}
use Rattle.tg_base.specs.declared.fault.Many.TheVariants as many
use Rattle.tg_base.specs.declared.ids.Oid.{Oid}
use Rattle.tg_base.specs.declared.packet.Out.{Out}
use Rattle.tg_entry.specs.declared.entry.Body.TheVariants.{Commit, Decision}
use Rattle.tg_entry.specs.declared.entry.Entry.{Entry}
use Rattle.tg_kind.specs.Meaning.{Meaning}
use Rattle.tg_model.specs.declared.play.PlayEnd.{PlayEnd}
use Rattle.tg_model.specs.declared.play.PlayEnd.TheVariants.{Played, Blocked}
use Rattle.tg_base.specs.Orders.{with_oid}
use Rattle.tg_protocol.specs.Words.{has_num, directory}
use Rattle.tg_entry.specs.Needs.{reads_of, needs_decision}
use Rattle.tg_protocol.specs.Entries.{draft, streams_of, entry_size}
use Rattle.tg_protocol.specs.Requests.{Next, Goes, Turn}
use Rattle.tg_protocol.specs.Appending.{Append, AppendEnd, append_start}
use Rattle.tg_protocol.specs.Syncing.{Sync, Confirmed, sync_start}
use Rattle.tg_protocol.specs.Trimming.{Trims, Trimmed, trim_start}
use Rattle.tg_protocol.specs.Versions.{Changed}
use Rattle.tg_protocol.specs.Views.{Entries, decision_in, Verdict, Commits, Aborts, Unknown, Base, View, Play, base_of, state_of, view_version, fate_of, changed_in, unknown_in, verdict, view_outcome, view_start, play}
use Rattle.tg_protocol.specs.Checkpoints.{checkpoint, view_bases, NoCheckpoint, OpenDecision, ForgetFault, may_forget}
use Rattle.tg_protocol.specs.Past.{commit_at, PastTurn, PastView, PastGone, past_at, RescueTurn, Wider, Wide, Absent, StuckAt, Known, rescue_turn}
use Rattle.tg_protocol.specs.Transactions.{Tx, tx_read}
use Rattle.tg_model.specs.declared.command.Command.TheVariants as cmd
use Rattle.tg_model.specs.declared.refusal.Refusal.{Refusal}
use Rattle.tg_model.specs.declared.refusal.Refusal.TheVariants as cause
use Rattle.tg_model.specs.declared.trace.What.TheVariants as told
use Rattle.tg_model.specs.Kinds.{CommandOf, WhatOf, NoteOf}
use Rattle.tg_protocol.specs.Clients.{Purpose, Decides, Rescues, Saves, Marks, Task, Syncing, Appending, Trimming, Doing, Work, Client, upto, tx_number, write_of, all_entries, member_entries}

module _ (m : Meaning) where
  -- what a step makes of a client: what it sends besides its new outstanding requests, and what it tells
  pub record Moved : Type 0 where
    pub now : Client m
    pub besides : List Out
    pub notes : List (NoteOf m)

  abbrev pub moved : Client m → List (NoteOf m) → Moved
  moved c notes = record { now = c; besides = []; notes = notes }

  abbrev pub note : ℕ → WhatOf m → NoteOf m
  note tx what = record { tx = tx; what = what }

  -- Replies.

  abbrev pub is_page : Cell → Bool
  is_page Junk = false
  is_page (Data d) = true

  -- pages below the kept view's `upto` are given up, but not those of the client's own commit records, nor junk
  abbrev pub keeps : Client m → ℕ × Cell → Bool
  keeps c e = nat_le (upto m c) e.0 || has_num e.0 c.own || not (is_page e.1)

  abbrev pub pruned : Client m → Client m
  pruned c = record c { work = None; cells = filter (keeps c) c.cells }

  abbrev pub replies : Client m → List (NoteOf m) → Moved
  replies c notes = moved (pruned c) notes

  abbrev pub refuses : Client m → ℕ → Refusal → Moved
  refuses c tx why = replies c (note tx (told.Refused why) ∷ [])

  abbrev pub dir_or : m.state → Option m.state → m.state
  dir_or s None = s
  dir_or s (Some t) = t

  abbrev pub base_upto : Option (Base m) → ℕ
  base_upto None = 0
  base_upto (Some b) = b.upto

  abbrev pub took_over : Client m → Option (View m) → Client m
  took_over c None = c
  took_over c (Some v) = record c { dir = dir_or c.dir (state_of m v directory); played = max v.upto (base_upto (base_of m v directory)) }

  -- the reply of a command that played: the directory is taken over as played
  abbrev pub answers : Client m → ℕ → WhatOf m → Moved
  answers c tx what = replies (took_over c c.view) (note tx what ∷ [])

  abbrev pub closed : Client m → Client m
  closed c = record c { tx = None }

  -- Beginnings of machines. None of them ends at once.

  abbrev pub holds : Client m → Work m → Task m → ℕ → List (NoteOf m) → Moved
  holds c w t next notes = moved (record c { next = next; work = Some (record w { hand = Doing t }) }) notes

  abbrev pub append_next : Client m → Work m → Purpose m → List (NoteOf m) → ℕ → Next Append AppendEnd → Moved
  append_next c w p notes next (Goes a) = holds c w (Appending a p) next notes
  append_next c w p notes next _ = moved c notes

  abbrev pub append_begun : Client m → Work m → Purpose m → List (NoteOf m) → Turn Append AppendEnd → Moved
  append_begun c w p notes t = append_next c w p notes t.next t.to

  unfoldable pub appends : Client m → Work m → Entry → Purpose m → List (NoteOf m) → Moved
  appends c w e p notes = append_begun c w p notes (append_start c.stand e c.next)

  abbrev pub sync_next : Client m → Work m → ℕ → Next Sync Confirmed → Moved
  sync_next c w next (Goes s) = holds c w (Syncing s) next []
  sync_next c w next _ = moved c []

  abbrev pub sync_begun : Client m → Work m → Turn Sync Confirmed → Moved
  sync_begun c w t = sync_next c w t.next t.to

  -- a sync over these streams, which are then walked
  unfoldable pub syncs : Client m → Work m → List Oid → Moved
  syncs c w os = sync_begun c (record w { oids = os; gone_before = w.gone; trims = []; found = [] }) (sync_start os c.next)

  -- Decision records.

  abbrev pub decision : Client m → Entry → ℕ → Bool → Entry
  decision c e p is_yes = draft c.num (c.decisions + 1) (streams_of e) (Decision p is_yes)

  abbrev pub with_decision : Client m → Client m
  with_decision c = record c { decisions = c.decisions + 1 }

  -- the record needs a decision record, and there is none among the entries
  abbrev pub lacks_decision : Entries → ℕ → Entry → Bool
  lacks_decision es p e = needs_decision e && not (is_some (decision_in es p))

  -- a decided record: its decision record first, where it lacks one, and then the answer
  abbrev pub decides_if : Bool → Client m → Work m → Entry → ℕ → Bool → ℕ → WhatOf m → Moved
  decides_if true c w e p is_yes tx what = appends (with_decision c) w (decision c e p is_yes) (Decides what) []
  decides_if false c w e p is_yes tx what = answers c tx what

  -- Where walks met a trim: of the least object whose trim is above the position.

  abbrev pub trim_above : List (Oid × ℕ) → ℕ → Option ℕ
  trim_above [] p = None
  trim_above (x ∷ xs) p = if nat_lt p x.1 then Some x.1 else trim_above xs p

  -- `ask`

  abbrev pub ask_answer : Client m → Work m → Tx → Oid → m.ask → View m → Option m.state → Moved
  ask_answer c w t o q v None = refuses c t.number (cause.NotHosted o)
  ask_answer c w t o q v (Some s) =
      answers (record c { tx = Some (tx_read t (record { oid = o; part = m.look q; version = view_version m v o (m.look q) }) w.tail) })
      t.number (told.Asked o q w.tail (m.answers s q))

  abbrev pub ask_in : Client m → Work m → Oid → m.ask → View m → Option Tx → Moved
  ask_in c w o q v None = refuses c 0 cause.NoTx
  ask_in c w o q v (Some t) = ask_answer c w t o q v (state_of m v o)

  abbrev pub on_ask : Client m → Work m → Oid → m.ask → View m → PlayEnd → Moved
  on_ask c w o q v (Played t) = ask_in c w o q v c.tx
  on_ask c w o q v (Blocked p x) = refuses c (tx_number m c.tx) (cause.Undecided p x)

  -- `end` of a transaction with reads and writes, whose record is at p

  abbrev pub unsure : Client m → ℕ → ℕ → Moved
  unsure c p q = answers (closed c) (tx_number m c.tx) (told.Unsure p q)

  abbrev pub aborted : ℕ → Changed → WhatOf m
  aborted p x = told.Aborted p x.read.oid x.read.part x.read.version x.now

  abbrev pub answer_closed : Client m → ℕ → WhatOf m → Moved
  answer_closed c tx what = answers (closed c) tx what

  abbrev pub end_decided : Bool → Client m → Work m → Entry → ℕ → Bool → WhatOf m → Moved
  end_decided true c w e p is_yes what = appends (with_decision c) w (decision c e p is_yes) (Decides what) []
  end_decided false c w e p is_yes what = answer_closed c (tx_number m c.tx) what

  abbrev pub end_aborted : Client m → Work m → Entries → Entry → ℕ → Option Changed → Moved
  end_aborted c w es e p None = unsure c p p
  end_aborted c w es e p (Some x) = end_decided (lacks_decision es p e) c w e p false (aborted p x)

  -- a `no` tells which read has changed, and is `unsure` where that is unknown
  abbrev pub end_no : Client m → Work m → Entries → View m → Entry → ℕ → Option Oid → Moved
  end_no c w es v e p None = end_aborted c w es e p (changed_in m v (reads_of e) p)
  end_no c w es v e p (Some o) = unsure c p p

  abbrev pub end_by : Client m → Work m → Entries → View m → Entry → ℕ → Verdict → Moved
  end_by c w es v e p Commits = end_decided (lacks_decision es p e) c w e p true (told.Committed p)
  end_by c w es v e p Aborts = end_no c w es v e p (unknown_in m v (reads_of e) p)
  end_by c w es v e p (Unknown o) = unsure c p p

  abbrev pub end_record : Client m → Work m → Entries → View m → ℕ → Option Entry → Moved
  end_record c w es v p None = unsure c p p
  end_record c w es v p (Some e) = end_by c w es v e p (verdict m v es p e)

  abbrev pub on_end : Client m → Work m → Entries → View m → PlayEnd → Moved
  on_end c w es v (Played t) = end_record c w es v w.at (commit_at es w.at)
  on_end c w es v (Blocked q x) = unsure c w.at q

  -- `fate`

  abbrev pub is_yes_of : Verdict → Option Bool
  is_yes_of Commits = Some true
  is_yes_of Aborts = Some false
  is_yes_of (Unknown o) = None

  abbrev pub forgotten_or : Client m → Work m → ℕ → WhatOf m → Option ℕ → Moved
  forgotten_or c w p what None = answers c 0 what
  forgotten_or c w p what (Some b) = refuses c 0 (cause.Forgotten p b)

  abbrev pub fate_verdict : Client m → Work m → ℕ → Verdict → Moved
  fate_verdict c w p (Unknown o) = refuses c 0 (cause.Undecided p o)
  fate_verdict c w p v = forgotten_or c w p (told.Fate p (is_yes_of v)) (trim_above w.trims p)

  abbrev pub fate_record : Client m → Work m → Entries → View m → ℕ → Option Entry → Moved
  fate_record c w es v p None = forgotten_or c w p (told.Fate p None) (trim_above w.trims p)
  fate_record c w es v p (Some e) = fate_verdict c w p (verdict m v es p e)

  -- the kept view's fate, where it has one
  abbrev pub fate_known : Client m → Work m → Entries → View m → ℕ → Option Bool → Moved
  fate_known c w es v p (Some b) = answers c 0 (told.Fate p (Some b))
  fate_known c w es v p None = fate_record c w es v p (commit_at es p)

  -- a record is there, and the play is blocked at or below it
  abbrev pub blocks : Entries → ℕ → ℕ → Bool
  blocks es p q = is_some (commit_at es p) && nat_le q p

  abbrev pub fate_blocked : Client m → Work m → Entries → View m → ℕ → ℕ → Oid → Bool → Moved
  fate_blocked c w es v p q x true = refuses c 0 (cause.Undecided q x)
  fate_blocked c w es v p q x false = fate_known c w es v p (fate_of m v p)

  abbrev pub on_fate : Client m → Work m → Entries → View m → ℕ → PlayEnd → Moved
  on_fate c w es v p (Played t) = fate_known c w es v p (fate_of m v p)
  on_fate c w es v p (Blocked q x) = fate_blocked c w es v p q x (blocks es p q)

  -- `decide`, which goes by the entries

  abbrev pub decide_verdict : Client m → Work m → Entries → ℕ → Entry → Verdict → Moved
  decide_verdict c w es p e (Unknown o) = refuses c 0 (cause.Undecided p o)
  decide_verdict c w es p e Commits = decides_if (lacks_decision es p e) c w e p true 0 (told.Decided p (Some true))
  decide_verdict c w es p e Aborts = decides_if (lacks_decision es p e) c w e p false 0 (told.Decided p (Some false))

  abbrev pub decide_record : Client m → Work m → Entries → View m → ℕ → Option Entry → Moved
  decide_record c w es v p None = answers c 0 (told.Decided p None)
  decide_record c w es v p (Some e) = decide_verdict c w es p e (view_outcome m v es p e)

  abbrev pub decide_blocked : Client m → Work m → Entries → View m → ℕ → ℕ → Oid → Bool → Moved
  decide_blocked c w es v p q x true = refuses c 0 (cause.Undecided q x)
  decide_blocked c w es v p q x false = decide_record c w es v p (commit_at es p)

  abbrev pub decide_played : Client m → Work m → Entries → View m → ℕ → PlayEnd → Moved
  decide_played c w es v p (Played t) = decide_record c w es v p (commit_at es p)
  decide_played c w es v p (Blocked q x) = decide_blocked c w es v p q x (blocks es p q)

  abbrev pub on_decide : Client m → Work m → Entries → View m → ℕ → PlayEnd → Option ℕ → Moved
  on_decide c w es v p came None = decide_played c w es v p came
  on_decide c w es v p came (Some b) = refuses c 0 (cause.Forgotten p b)

  -- `checkpoint`

  abbrev pub save_if : Bool → Client m → Work m → Oid → Entry → Moved
  save_if true c w o e = refuses c 0 (cause.TooLarge (entry_size e))
  save_if false c w o e = appends (record c { checkpoints = c.checkpoints + 1 }) w e (Saves o w.tail) []

  abbrev pub saves : Client m → Work m → Oid → Entry → Moved
  saves c w o e = save_if (nat_lt 4096 (entry_size e)) c w o e

  abbrev pub on_checkpoint : Client m → Work m → View m → Oid → PlayEnd → Moved
  on_checkpoint c w v o (Played t) = saves c w o (checkpoint m v o w.tail c.num (c.checkpoints + 1))
  on_checkpoint c w v o (Blocked q x) = refuses c 0 (cause.Undecided q x)

  -- `forget`: a transaction of its own, whose record marks the object

  abbrev pub mark_record : Client m → Oid → ℕ → Entry
  mark_record c o n = draft c.num (c.begun + 1) (directory ∷ []) (Commit [] (write_of m directory (m.mark_op o n) ∷ []))

  abbrev pub mark_notes : ℕ → Oid → ℕ → List (NoteOf m)
  mark_notes x o n = note x told.Begin ∷ note x (told.Put directory (m.mark_op o n)) ∷ note x told.End ∷ []

  abbrev pub forget_by : Client m → Work m → Oid → ℕ → Option (ForgetFault m) → Moved
  forget_by c w o n (Some NoCheckpoint) = refuses c 0 (cause.NoCheckpoint o)
  forget_by c w o n (Some (OpenDecision p)) = refuses c 0 (cause.OpenDecision p)
  forget_by c w o n None = appends (record c { begun = c.begun + 1 }) w (mark_record c o n) (Marks (c.begun + 1) o n) (mark_notes (c.begun + 1) o n)

  abbrev pub on_forget : Client m → Work m → Entries → Oid → ℕ → PlayEnd → Moved
  on_forget c w es o n (Played t) = forget_by c w o n (may_forget m es o n)
  on_forget c w es o n (Blocked q x) = refuses c 0 (cause.Undecided q x)

  -- `trim`

  abbrev pub floor_of : Option m.state → ℕ
  floor_of None = 0
  floor_of (Some s) = m.floor s

  abbrev pub trim_next : Client m → Work m → ℕ → ℕ → Next Trims Trimmed → Moved
  trim_next c w below next (Goes t) = holds c w (Trimming t) next []
  trim_next c w below next _ = answers (record c { next = next }) 0 (told.Trimmed below)

  abbrev pub trim_begun : Client m → Work m → ℕ → Turn Trims Trimmed → Moved
  trim_begun c w below t = trim_next c w below t.next t.to

  -- nothing is sent for floor 0
  abbrev pub trims_if : Client m → Work m → ℕ → Bool → Moved
  trims_if c w below true = answers c 0 (told.Trimmed below)
  trims_if c w below false = trim_begun c w below (trim_start c.stand below c.next)

  abbrev pub trims : Client m → Work m → ℕ → Moved
  trims c w below = trims_if c w below (below == 0)

  abbrev pub on_trim : Client m → Work m → View m → PlayEnd → Moved
  on_trim c w v (Played t) = trims c w (floor_of (state_of m v directory))
  on_trim c w v (Blocked q x) = refuses c 0 (cause.Undecided q x)

  -- Past views and rescues

  abbrev pub past_answer : Client m → ℕ → Oid → m.ask → Option m.state → Moved
  past_answer c p o q None = refuses c 0 (cause.NotHosted o)
  past_answer c p o q (Some s) = replies c (note 0 (told.Past o q p (m.answers s q)) ∷ [])

  abbrev pub past_played : Client m → ℕ → Oid → m.ask → Play m → PlayEnd → Moved
  past_played c p o q v (Played t) = past_answer c p o q (state_of m v.view o)
  past_played c p o q v (Blocked r x) = refuses c 0 (cause.Undecided r x)

  abbrev pub past_turn : Client m → ℕ → Oid → m.ask → PastTurn m → Moved
  past_turn c p o q (PastView v) = past_played c p o q v v.came
  past_turn c p o q (PastGone b) = refuses c 0 (cause.Forgotten p b)

  abbrev pub ahead_or : Client m → Work m → ℕ → Oid → m.ask → Bool → Moved
  ahead_or c w p o q true = refuses c 0 (cause.Ahead w.tail)
  ahead_or c w p o q false = past_turn c p o q (past_at m (member_entries m c w w.oids) w.trims w.oids c.objects o p)

  abbrev pub on_ask_at : Client m → Work m → ℕ → Oid → m.ask → Moved
  on_ask_at c w p o q = ahead_or c w p o q (nat_lt w.tail p)

  abbrev pub rescue_decision : Client m → Work m → Entries → ℕ → Bool → Option Entry → Moved
  rescue_decision c w es p is_yes None = replies c (note 0 (told.Rescued p None) ∷ [])
  rescue_decision c w es p is_yes (Some e) = appends (with_decision c) w (decision c e p is_yes) (Rescues (told.Rescued p (Some is_yes))) []

  abbrev pub rescue_known : Client m → Work m → Entries → ℕ → Bool → Bool → Moved
  rescue_known c w es p is_yes true = rescue_decision c w es p is_yes (commit_at es p)
  rescue_known c w es p is_yes false = replies c (note 0 (told.Rescued p (Some is_yes)) ∷ [])

  abbrev pub absent : Client m → ℕ → Option ℕ → Moved
  absent c p None = replies c (note 0 (told.Rescued p None) ∷ [])
  absent c p (Some b) = refuses c 0 (cause.Forgotten p b)

  abbrev pub rescue_by : Client m → Work m → Entries → ℕ → RescueTurn m → Moved
  rescue_by c w es p (Wider o) = syncs c w (with_oid o w.oids)
  rescue_by c w es p Wide = refuses c 0 (cause.TooMany many.Hosted)
  rescue_by c w es p Absent = absent c p (trim_above w.trims p)
  rescue_by c w es p (StuckAt q x) = refuses c 0 (cause.Undecided q x)
  rescue_by c w es p (Known is_yes needs) = rescue_known c w es p is_yes needs

  abbrev pub on_rescue : Client m → Work m → Entries → ℕ → Moved
  on_rescue c w es p = rescue_by c w es p (rescue_turn m es w.trims w.oids c.objects p)

  -- Playing, once the streams are walked.

  -- the kept view, or a new one over these entries
  abbrev pub view_or_new : Client m → Work m → Entries → Option (View m) → View m
  view_or_new c w es None = view_start m (view_bases m es w.trims c.objects c.hosted)
  view_or_new c w es (Some v) = v

  abbrev pub own_view : Client m → Work m → Entries → View m
  own_view c w es = view_or_new c w es c.view

  -- how far a command plays: up to its own record for `end`, else to the tail
  abbrev pub play_target : Work m → CommandOf m → ℕ
  play_target w cmd.End = w.at
  play_target w x = w.tail

  abbrev pub with_view : Client m → View m → Client m
  with_view c v = record c { view = Some v }

  abbrev pub answer_by : Client m → Work m → Entries → Play m → CommandOf m → Moved
  answer_by c w es p (cmd.Ask o q) = on_ask c w o q p.view p.came
  answer_by c w es p cmd.End = on_end c w es p.view p.came
  answer_by c w es p (cmd.Fate at) = on_fate c w es p.view at p.came
  answer_by c w es p (cmd.Decide at) = on_decide c w es p.view at p.came (trim_above w.trims at)
  answer_by c w es p (cmd.Checkpoint o) = on_checkpoint c w p.view o p.came
  answer_by c w es p (cmd.Forget o n) = on_forget c w es o n p.came
  answer_by c w es p cmd.Trim = on_trim c w p.view p.came
  answer_by c w es p x = replies c []

  abbrev pub played_on : Client m → Work m → Entries → Play m → Moved
  played_on c w es p = answer_by (with_view c p.view) w es p w.command

  abbrev pub plays_own : Client m → Work m → Entries → Moved
  plays_own c w es = played_on c w es (play m (own_view c w es) es (play_target w w.command))

  abbrev pub walked_for : Client m → Work m → CommandOf m → Moved
  walked_for c w (cmd.AskAt p o q) = on_ask_at c w p o q
  walked_for c w (cmd.Rescue p) = on_rescue c w (all_entries m c w w.oids) p
  walked_for c w x = plays_own c w (all_entries m c w c.hosted)

  -- all streams are walked
  unfoldable pub walked : Client m → Work m → Moved
  walked c w = walked_for c w w.command
