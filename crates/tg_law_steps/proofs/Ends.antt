-- What a turn comes to, and by which tests: at each place, all that ends it or leaves it with requests.
use Rattle.std.proofs.Common.{◌≡◌, ℕ, ◌+◌, List, [], ◌∷◌, Bool, true, false, length, Some, None}
use Rattle.std.specs.Prelude.{◌==◌, nat_lt}
use Rattle.tg_base.specs.Layouts.{Layout}
use Rattle.tg_base.specs.Changes.{Changed as Change}
use Rattle.tg_base.specs.declared.fault.Many.TheVariants as many
use Rattle.tg_base.specs.declared.ids.Oid.{Oid}
use Rattle.tg_base.specs.declared.packet.Out.{Out}
use Rattle.tg_base.specs.Orders.{with_oid}
use Rattle.tg_entry.specs.declared.entry.Entry.{Entry}
use Rattle.tg_entry.specs.Needs.{reads_of}
use Rattle.tg_kind.specs.Meaning.{Meaning}
use Rattle.tg_model.specs.declared.command.Command.TheVariants as cmd
use Rattle.tg_model.specs.declared.play.PlayEnd.{PlayEnd}
use Rattle.tg_model.specs.declared.play.PlayEnd.TheVariants.{Played, Blocked}
use Rattle.tg_model.specs.declared.refusal.Refusal.{Refusal}
use Rattle.tg_model.specs.declared.refusal.Refusal.TheVariants as cause
use Rattle.tg_model.specs.declared.trace.What.TheVariants as told
use Rattle.tg_model.specs.Kinds.{CommandOf, WhatOf, NoteOf}
use Rattle.tg_protocol.specs.Words.{directory}
use Rattle.tg_protocol.specs.Layouts.{units_of}
use Rattle.tg_protocol.specs.Entries.{entry_size}
use Rattle.tg_protocol.specs.Requests.{Goes, Learns, Ends, waits_for}
use Rattle.tg_protocol.specs.Appending.{Append, AppendEnd, At, Full, Forgotten}
use Rattle.tg_protocol.specs.Syncing.{Sync}
use Rattle.tg_protocol.specs.Walking.{Walk, Members}
use Rattle.tg_protocol.specs.Trimming.{Trims, Trimmed, Copying, CopyEnd}
use Rattle.tg_protocol.specs.Reconfiguring.{Reconf, Installed, Overtaken, NotWhole}
use Rattle.tg_protocol.specs.Versions.{Changed}
use Rattle.tg_protocol.specs.Views.{Entries, View, Play, Verdict, Commits, Aborts, Unknown, state_of, view_version, fate_of, changed_in, unknown_in, verdict, view_outcome}
use Rattle.tg_protocol.specs.Checkpoints.{checkpoint, NoCheckpoint, OpenDecision, may_forget}
use Rattle.tg_protocol.specs.Past.{commit_at, PastView, PastGone, past_at, Wider, Wide, Absent, StuckAt, Known, rescue_turn}
use Rattle.tg_protocol.specs.Transactions.{Tx, tx_read}
use Rattle.tg_protocol.specs.Clients.{Purpose, Writes, Judged, Decides, Rescues as RescuesWith, Saves, Marks, Task, Syncing, Walking, Appending, Trimming, Copying', Reconfiguring, Work, Client, tx_number, all_entries, member_entries, copy_fault}
use Rattle.tg_protocol.specs.Answers.{Moved, note, replies, refuses, took_over, answers, closed, appends, syncs, decision, with_decision, lacks_decision, trim_above, aborted, blocks, mark_record, mark_notes, floor_of}
use Rattle.tg_protocol.specs.ClientSteps.{after_turn, goes_on, learns_for, lends, start_walk, stale, gives_up, knows_page, owns, tx_of, stands}
use Rattle.tg_law_steps.proofs.Places.{Place, Newer, OnSync, OnWalk, OnAppend, OnTrims, OnCopy, OnReconf, Over, Walks, Plays, Looks, Rescues}

module _ (m : Meaning) where
  -- Words of the tests.

  -- a play came to its target, or is blocked above the record at a position, or where none is there
  pub data Passes (es : Entries) (at : ℕ) : PlayEnd → Type 0 where
    CameTo : (upto : ℕ) → Passes es at (Played upto)
    StuckAbove : (q : ℕ) (x : Oid) → blocks m es at q ≡ false → Passes es at (Blocked q x)

  -- a verdict that says so
  pub data SaysSo : Verdict → Bool → Type 0 where
    SaysYes : SaysSo Commits true
    SaysNo : SaysSo Aborts false

  -- how `end` judges its own record, and what it tells then
  pub data Judges (es : Entries) (v : View m) (p : ℕ) (e : Entry) : Bool → WhatOf m → Type 0 where
    Commit' : verdict m v es p e ≡ Commits → Judges es v p e true (told.Committed p)
    Abort' : (x : Changed) → verdict m v es p e ≡ Aborts → unknown_in m v (reads_of e) p ≡ None → changed_in m v (reads_of e) p ≡ Some x → Judges es v p e false (aborted m p x)

  -- why it can't
  pub data CannotJudge (es : Entries) (v : View m) (p : ℕ) : Type 0 where
    NoRecord : commit_at es p ≡ None → CannotJudge es v p
    NoVerdict : (e : Entry) (o : Oid) → commit_at es p ≡ Some e → verdict m v es p e ≡ Unknown o → CannotJudge es v p
    NoVersion : (e : Entry) (o : Oid) → commit_at es p ≡ Some e → verdict m v es p e ≡ Aborts → unknown_in m v (reads_of e) p ≡ Some o → CannotJudge es v p
    NoChange : (e : Entry) → commit_at es p ≡ Some e → verdict m v es p e ≡ Aborts → unknown_in m v (reads_of e) p ≡ None → changed_in m v (reads_of e) p ≡ None → CannotJudge es v p

  -- an append of a client's own commit record
  pub data OfRecord : Purpose m → Type 0 where
    OfWrites : OfRecord Writes
    OfJudged : OfRecord Judged

  -- another one, and the transaction of which a refusal then speaks
  pub data OfOther : Purpose m → ℕ → Type 0 where
    OfRescue : (x : WhatOf m) → OfOther (RescuesWith x) 0
    OfSave : (o : Oid) (upto : ℕ) → OfOther (Saves o upto) 0
    OfMark : (n : ℕ) (o : Oid) (mark : ℕ) → OfOther (Marks n o mark) n

  -- an append that got no position for its record
  pub data IsLost : AppendEnd → Type 0 where
    LostFull : (l : ℕ) → IsLost (Full l)
    LostForgotten : (p b : ℕ) → IsLost (Forgotten p b)

  -- commands that don't play the kept view
  pub data IsOther : CommandOf m → Type 0 where
    OtherHost : (o : Oid) → IsOther (cmd.Host o)
    OtherBegin : IsOther cmd.Begin
    OtherPut : (o : Oid) (op : m.op) → IsOther (cmd.Put o op)
    OtherDrop : IsOther cmd.Drop
    OtherReconf : (x : Change) → IsOther (cmd.Reconf x)
    OtherCopy : (u r s : ℕ) → IsOther (cmd.Copy u r s)
    OtherAskAt : (at : ℕ) (o : Oid) (q : m.ask) → IsOther (cmd.AskAt at o q)
    OtherRescue : (at : ℕ) → IsOther (cmd.Rescue at)

  module _ (c : Client m) (w : Work m) where
    -- The task goes on: at which client, and what is sent besides.
    pub data IsGoing : Place m → Client m → Task m → List Out → Type 0 where
      SyncGoes : (bs : List Out) (s : Sync) → IsGoing (OnSync bs (Goes s)) c (Syncing s) bs
      WalkGoes : (o : Oid) (os : List Oid) (x : Walk) → IsGoing (OnWalk o os (Goes x)) c (Walking x os) []
      WalkBegins : (o : Oid) (os : List Oid) (x : Walk) → (start_walk m c w o).to ≡ Goes x → IsGoing (Walks (o ∷ os)) (lends m (after_turn m c (start_walk m c w o))) (Walking x os) []
      AppendGoes : (y : Purpose m) (bs : List Out) (a : Append) → IsGoing (OnAppend y bs (Goes a)) c (Appending a y) bs
      TrimsGo : (b : ℕ) (t : Trims) → IsGoing (OnTrims b (Goes t)) c (Trimming t) []
      TrimsBegin : (es : Entries) (p : Play m) (upto : ℕ) → w.command ≡ cmd.Trim → p.came ≡ Played upto → (floor_of m (state_of m p.view directory) == 0) ≡ false
          → IsGoing (Plays es p) (record c { next = c.next + length (units_of c.stand) }) (Trimming (record { below = floor_of m (state_of m p.view directory); waits = waits_for (units_of c.stand) c.next })) []
      CopyGoes : (x y : Copying) → IsGoing (OnCopy x (Goes y)) c (Copying' y) []
      ReconfGoes : (r : Reconf) → IsGoing (OnReconf (Goes r)) (stands m c r.stand) (Reconfiguring r) []

    -- it goes on once a newer layout is learnt
    pub data IsLearning : Place m → Task m → Type 0 where
      SyncLearns : (bs : List Out) (s : Sync) → IsLearning (OnSync bs (Learns s)) (Syncing s)
      WalkLearns : (o : Oid) (os : List Oid) (x : Walk) → IsLearning (OnWalk o os (Learns x)) (Walking x os)
      AppendLearns : (y : Purpose m) (bs : List Out) (a : Append) → IsLearning (OnAppend y bs (Learns a)) (Appending a y)
      TrimsLearn : (b : ℕ) (t : Trims) → IsLearning (OnTrims b (Learns t)) (Trimming t)
      CopyLearns : (x y : Copying) → IsLearning (OnCopy x (Learns y)) (Copying' y)
      ReconfLearns : (r : Reconf) → IsLearning (OnReconf (Learns r)) (Reconfiguring r)

    -- A sync begins: at which client, with which work, over which streams.
    pub data IsSynced : Place m → Client m → Work m → List Oid → Type 0 where
      JudgedAt : (bs : List Out) (p : ℕ) (d : List ℕ) → IsSynced (OnAppend Judged bs (Ends (At p d))) (owns m c p d) (record w { at = p }) c.hosted
      StaleLow : (o : Oid) (os : List Oid) (x : Members) (b : ℕ) → gives_up m c w b ≡ false → stale m c w o x b ≡ true → IsSynced (Over o os x (Some b)) c w w.oids
      StaleHigh : (o : Oid) (os : List Oid) (x : Members) (b : ℕ) → gives_up m c w b ≡ true → stale m c w o x b ≡ true → IsSynced (Over o os x (Some b)) (record c { view = None }) w w.oids
      Widens : (at : ℕ) (o : Oid) → rescue_turn m (all_entries m c w w.oids) w.trims w.oids c.objects at ≡ Wider o → IsSynced (Rescues at) c w (with_oid o w.oids)

    -- An append begins, and some of it may be told at once.
    pub data IsAppended : Place m → Client m → Entry → Purpose m → List (NoteOf m) → Type 0 where
      EndDecides : (es : Entries) (p : Play m) (upto : ℕ) (e : Entry) (so : Bool) (what : WhatOf m) → w.command ≡ cmd.End → p.came ≡ Played upto → commit_at es w.at ≡ Some e → Judges es p.view w.at e so what
          → lacks_decision m es w.at e ≡ true → IsAppended (Plays es p) (with_decision m c) (decision m c e w.at so) (Decides what) []
      DecideDecides : (es : Entries) (p : Play m) (at : ℕ) (e : Entry) (d : Verdict) (so : Bool) → w.command ≡ cmd.Decide at → trim_above m w.trims at ≡ None → Passes es at p.came → commit_at es at ≡ Some e
          → view_outcome m p.view es at e ≡ d → SaysSo d so → lacks_decision m es at e ≡ true → IsAppended (Plays es p) (with_decision m c) (decision m c e at so) (Decides (told.Decided at (Some so))) []
      SaveBegins : (es : Entries) (p : Play m) (upto : ℕ) (o : Oid) → w.command ≡ cmd.Checkpoint o → p.came ≡ Played upto → nat_lt 4096 (entry_size (checkpoint m p.view o w.tail c.num (c.checkpoints + 1))) ≡ false
          → IsAppended (Plays es p) (record c { checkpoints = c.checkpoints + 1 }) (checkpoint m p.view o w.tail c.num (c.checkpoints + 1)) (Saves o w.tail) []
      MarkBegins : (es : Entries) (p : Play m) (upto : ℕ) (o : Oid) (n : ℕ) → w.command ≡ cmd.Forget o n → p.came ≡ Played upto → may_forget m es o n ≡ None
          → IsAppended (Plays es p) (record c { begun = c.begun + 1 }) (mark_record m c o n) (Marks (c.begun + 1) o n) (mark_notes m (c.begun + 1) o n)
      RescueDecides : (at : ℕ) (so : Bool) (e : Entry) → rescue_turn m (all_entries m c w w.oids) w.trims w.oids c.objects at ≡ Known so true → commit_at (all_entries m c w w.oids) at ≡ Some e
          → IsAppended (Rescues at) (with_decision m c) (decision m c e at so) (RescuesWith (told.Rescued at (Some so))) []

    -- The command is refused: in which state of the client, of which transaction, and why.
    pub data IsRefused : Place m → Client m → ℕ → Refusal → Type 0 where
      RecordFull : (y : Purpose m) (bs : List Out) (l : ℕ) → OfRecord y → IsRefused (OnAppend y bs (Ends (Full l))) c (tx_of m c) (cause.LogFull l)
      RecordForgotten : (y : Purpose m) (bs : List Out) (p b : ℕ) → OfRecord y → IsRefused (OnAppend y bs (Ends (Forgotten p b))) (closed m c) (tx_of m c) (cause.Forgotten p b)
      OtherFull : (y : Purpose m) (bs : List Out) (n l : ℕ) → OfOther y n → IsRefused (OnAppend y bs (Ends (Full l))) c n (cause.LogFull l)
      OtherForgotten : (y : Purpose m) (bs : List Out) (n p b : ℕ) → OfOther y n → IsRefused (OnAppend y bs (Ends (Forgotten p b))) c n (cause.Forgotten p b)
      ReconfOvertaken : (e : ℕ) (p : Layout) → IsRefused (OnReconf (Ends (Overtaken e p))) (stands m c p) 0 (cause.Overtaken e)
      ReconfNotWhole : (u pos : ℕ) (p : Layout) → IsRefused (OnReconf (Ends (NotWhole u pos p))) (stands m c p) 0 (cause.NotWhole u pos)
      CopyFault : (x : Copying) (n rid : ℕ) (q : Layout) (why : Refusal) → copy_fault m q x.unit x.range x.stripe ≡ Some why → IsRefused (Newer (Copying' x) n rid q) (stands m c q) 0 why
      AskBlocked : (es : Entries) (p : Play m) (o : Oid) (q : m.ask) (r : ℕ) (x : Oid) → w.command ≡ cmd.Ask o q → p.came ≡ Blocked r x → IsRefused (Plays es p) c (tx_number m c.tx) (cause.Undecided r x)
      AskClosed : (es : Entries) (p : Play m) (o : Oid) (q : m.ask) (upto : ℕ) → w.command ≡ cmd.Ask o q → p.came ≡ Played upto → c.tx ≡ None → IsRefused (Plays es p) c 0 cause.NoTx
      AskMissing : (es : Entries) (p : Play m) (o : Oid) (q : m.ask) (upto : ℕ) (t : Tx) → w.command ≡ cmd.Ask o q → p.came ≡ Played upto → c.tx ≡ Some t → state_of m p.view o ≡ None → IsRefused (Plays es p) c t.number (cause.NotHosted o)
      FateBlocked : (es : Entries) (p : Play m) (at q : ℕ) (x : Oid) → w.command ≡ cmd.Fate at → p.came ≡ Blocked q x → blocks m es at q ≡ true → IsRefused (Plays es p) c 0 (cause.Undecided q x)
      FateUnknown : (es : Entries) (p : Play m) (at : ℕ) (e : Entry) (o : Oid) → w.command ≡ cmd.Fate at → Passes es at p.came → fate_of m p.view at ≡ None → commit_at es at ≡ Some e → verdict m p.view es at e ≡ Unknown o
          → IsRefused (Plays es p) c 0 (cause.Undecided at o)
      FateForgotten : (es : Entries) (p : Play m) (at b : ℕ) → w.command ≡ cmd.Fate at → Passes es at p.came → fate_of m p.view at ≡ None → trim_above m w.trims at ≡ Some b → IsRefused (Plays es p) c 0 (cause.Forgotten at b)
      DecideForgotten : (es : Entries) (p : Play m) (at b : ℕ) → w.command ≡ cmd.Decide at → trim_above m w.trims at ≡ Some b → IsRefused (Plays es p) c 0 (cause.Forgotten at b)
      DecideBlocked : (es : Entries) (p : Play m) (at q : ℕ) (x : Oid) → w.command ≡ cmd.Decide at → trim_above m w.trims at ≡ None → p.came ≡ Blocked q x → blocks m es at q ≡ true → IsRefused (Plays es p) c 0 (cause.Undecided q x)
      DecideUnknown : (es : Entries) (p : Play m) (at : ℕ) (e : Entry) (o : Oid) → w.command ≡ cmd.Decide at → trim_above m w.trims at ≡ None → Passes es at p.came → commit_at es at ≡ Some e → view_outcome m p.view es at e ≡ Unknown o
          → IsRefused (Plays es p) c 0 (cause.Undecided at o)
      SaveBlocked : (es : Entries) (p : Play m) (o : Oid) (q : ℕ) (x : Oid) → w.command ≡ cmd.Checkpoint o → p.came ≡ Blocked q x → IsRefused (Plays es p) c 0 (cause.Undecided q x)
      SaveLarge : (es : Entries) (p : Play m) (upto : ℕ) (o : Oid) → w.command ≡ cmd.Checkpoint o → p.came ≡ Played upto → nat_lt 4096 (entry_size (checkpoint m p.view o w.tail c.num (c.checkpoints + 1))) ≡ true
          → IsRefused (Plays es p) c 0 (cause.TooLarge (entry_size (checkpoint m p.view o w.tail c.num (c.checkpoints + 1))))
      ForgetBlocked : (es : Entries) (p : Play m) (o : Oid) (n q : ℕ) (x : Oid) → w.command ≡ cmd.Forget o n → p.came ≡ Blocked q x → IsRefused (Plays es p) c 0 (cause.Undecided q x)
      ForgetUnsaved : (es : Entries) (p : Play m) (upto : ℕ) (o : Oid) (n : ℕ) → w.command ≡ cmd.Forget o n → p.came ≡ Played upto → may_forget m es o n ≡ Some NoCheckpoint → IsRefused (Plays es p) c 0 (cause.NoCheckpoint o)
      ForgetOpen : (es : Entries) (p : Play m) (upto : ℕ) (o : Oid) (n at : ℕ) → w.command ≡ cmd.Forget o n → p.came ≡ Played upto → may_forget m es o n ≡ Some (OpenDecision at) → IsRefused (Plays es p) c 0 (cause.OpenDecision at)
      TrimBlocked : (es : Entries) (p : Play m) (q : ℕ) (x : Oid) → w.command ≡ cmd.Trim → p.came ≡ Blocked q x → IsRefused (Plays es p) c 0 (cause.Undecided q x)
      LooksAhead : (at : ℕ) (o : Oid) (q : m.ask) → nat_lt w.tail at ≡ true → IsRefused (Looks at o q) c 0 (cause.Ahead w.tail)
      LooksForgotten : (at : ℕ) (o : Oid) (q : m.ask) (b : ℕ) → nat_lt w.tail at ≡ false → past_at m (member_entries m c w w.oids) w.trims w.oids c.objects o at ≡ PastGone b → IsRefused (Looks at o q) c 0 (cause.Forgotten at b)
      LooksBlocked : (at : ℕ) (o : Oid) (q : m.ask) (p : Play m) (r : ℕ) (x : Oid) → nat_lt w.tail at ≡ false → past_at m (member_entries m c w w.oids) w.trims w.oids c.objects o at ≡ PastView p → p.came ≡ Blocked r x
          → IsRefused (Looks at o q) c 0 (cause.Undecided r x)
      LooksMissing : (at : ℕ) (o : Oid) (q : m.ask) (p : Play m) (upto : ℕ) → nat_lt w.tail at ≡ false → past_at m (member_entries m c w w.oids) w.trims w.oids c.objects o at ≡ PastView p → p.came ≡ Played upto → state_of m p.view o ≡ None
          → IsRefused (Looks at o q) c 0 (cause.NotHosted o)
      RescueWide : (at : ℕ) → rescue_turn m (all_entries m c w w.oids) w.trims w.oids c.objects at ≡ Wide → IsRefused (Rescues at) c 0 (cause.TooMany many.Hosted)
      RescueForgotten : (at b : ℕ) → rescue_turn m (all_entries m c w w.oids) w.trims w.oids c.objects at ≡ Absent → trim_above m w.trims at ≡ Some b → IsRefused (Rescues at) c 0 (cause.Forgotten at b)
      RescueStuck : (at q : ℕ) (x : Oid) → rescue_turn m (all_entries m c w w.oids) w.trims w.oids c.objects at ≡ StuckAt q x → IsRefused (Rescues at) c 0 (cause.Undecided q x)

    -- It is answered, with the directory taken over.
    pub data IsAnswered : Place m → Client m → ℕ → WhatOf m → Type 0 where
      DecidedAt : (x : WhatOf m) (bs : List Out) (p : ℕ) (d : List ℕ) → (w.command ≡ cmd.End → ⊥) → IsAnswered (OnAppend (Decides x) bs (Ends (At p d))) (knows_page m c p d) 0 x
      DecidedLost : (x : WhatOf m) (bs : List Out) (e : AppendEnd) → IsLost e → (w.command ≡ cmd.End → ⊥) → IsAnswered (OnAppend (Decides x) bs (Ends e)) c 0 x
      JudgedSo : (x : WhatOf m) (bs : List Out) (p : ℕ) (d : List ℕ) → w.command ≡ cmd.End → IsAnswered (OnAppend (Decides x) bs (Ends (At p d))) (closed m (knows_page m c p d)) (tx_of m c) x
      JudgedLost : (x : WhatOf m) (bs : List Out) (e : AppendEnd) → IsLost e → w.command ≡ cmd.End → IsAnswered (OnAppend (Decides x) bs (Ends e)) (closed m c) (tx_of m c) x
      IsSaved : (o : Oid) (upto : ℕ) (bs : List Out) (p : ℕ) (d : List ℕ) → IsAnswered (OnAppend (Saves o upto) bs (Ends (At p d))) (knows_page m c p d) 0 (told.Saved o p upto)
      AreTrimmed : (b : ℕ) (e : Trimmed) → IsAnswered (OnTrims b (Ends e)) c 0 (told.Trimmed b)
      IsAsked : (es : Entries) (p : Play m) (o : Oid) (q : m.ask) (upto : ℕ) (t : Tx) (s : m.state) → w.command ≡ cmd.Ask o q → p.came ≡ Played upto → c.tx ≡ Some t → state_of m p.view o ≡ Some s
          → IsAnswered (Plays es p) (record c { tx = Some (tx_read t (record { oid = o; part = m.look q; version = view_version m p.view o (m.look q) }) w.tail) }) t.number (told.Asked o q w.tail (m.answers s q))
      EndBlocked : (es : Entries) (p : Play m) (q : ℕ) (x : Oid) → w.command ≡ cmd.End → p.came ≡ Blocked q x → IsAnswered (Plays es p) (closed m c) (tx_of m c) (told.Unsure w.at q)
      EndUnsure : (es : Entries) (p : Play m) (upto : ℕ) → w.command ≡ cmd.End → p.came ≡ Played upto → CannotJudge es p.view w.at → IsAnswered (Plays es p) (closed m c) (tx_of m c) (told.Unsure w.at w.at)
      EndJudged : (es : Entries) (p : Play m) (upto : ℕ) (e : Entry) (so : Bool) (what : WhatOf m) → w.command ≡ cmd.End → p.came ≡ Played upto → commit_at es w.at ≡ Some e → Judges es p.view w.at e so what
          → lacks_decision m es w.at e ≡ false → IsAnswered (Plays es p) (closed m c) (tx_of m c) what
      FateKept : (es : Entries) (p : Play m) (at : ℕ) (so : Bool) → w.command ≡ cmd.Fate at → Passes es at p.came → fate_of m p.view at ≡ Some so → IsAnswered (Plays es p) c 0 (told.Fate at (Some so))
      FateNone : (es : Entries) (p : Play m) (at : ℕ) → w.command ≡ cmd.Fate at → Passes es at p.came → fate_of m p.view at ≡ None → commit_at es at ≡ None → trim_above m w.trims at ≡ None → IsAnswered (Plays es p) c 0 (told.Fate at None)
      FateJudged : (es : Entries) (p : Play m) (at : ℕ) (e : Entry) (d : Verdict) (so : Bool) → w.command ≡ cmd.Fate at → Passes es at p.came → fate_of m p.view at ≡ None → commit_at es at ≡ Some e → verdict m p.view es at e ≡ d → SaysSo d so
          → trim_above m w.trims at ≡ None → IsAnswered (Plays es p) c 0 (told.Fate at (Some so))
      DecideNone : (es : Entries) (p : Play m) (at : ℕ) → w.command ≡ cmd.Decide at → trim_above m w.trims at ≡ None → Passes es at p.came → commit_at es at ≡ None → IsAnswered (Plays es p) c 0 (told.Decided at None)
      DecideJudged : (es : Entries) (p : Play m) (at : ℕ) (e : Entry) (d : Verdict) (so : Bool) → w.command ≡ cmd.Decide at → trim_above m w.trims at ≡ None → Passes es at p.came → commit_at es at ≡ Some e
          → view_outcome m p.view es at e ≡ d → SaysSo d so → lacks_decision m es at e ≡ false → IsAnswered (Plays es p) c 0 (told.Decided at (Some so))
      TrimZero : (es : Entries) (p : Play m) (upto : ℕ) → w.command ≡ cmd.Trim → p.came ≡ Played upto → (floor_of m (state_of m p.view directory) == 0) ≡ true → IsAnswered (Plays es p) c 0 (told.Trimmed (floor_of m (state_of m p.view directory)))

    -- It is replied to as told.
    pub data IsTold : Place m → Client m → List (NoteOf m) → Type 0 where
      IsCommitted : (bs : List Out) (p : ℕ) (d : List ℕ) → IsTold (OnAppend Writes bs (Ends (At p d))) (closed m (owns m c p d)) (note m (tx_of m c) (told.Committed p) ∷ [])
      IsRescued : (x : WhatOf m) (bs : List Out) (p : ℕ) (d : List ℕ) → IsTold (OnAppend (RescuesWith x) bs (Ends (At p d))) (knows_page m c p d) (note m 0 x ∷ [])
      IsMarked : (n : ℕ) (o : Oid) (mark : ℕ) (bs : List Out) (p : ℕ) (d : List ℕ)
          → IsTold (OnAppend (Marks n o mark) bs (Ends (At p d))) (took_over m (owns m c p d) c.view) (note m n (told.Committed p) ∷ note m 0 (told.Marked o mark) ∷ [])
      IsCopied : (x : Copying) (e : CopyEnd) → IsTold (OnCopy x (Ends e)) c (note m 0 (told.Copied x.unit x.range x.stripe) ∷ [])
      IsInstalled : (e : ℕ) (p : Layout) → IsTold (OnReconf (Ends (Installed e p))) (stands m c p) (note m 0 (told.Installed e) ∷ [])
      PlaysOther : (es : Entries) (p : Play m) → IsOther w.command → IsTold (Plays es p) c []
      LooksFound : (at : ℕ) (o : Oid) (q : m.ask) (p : Play m) (upto : ℕ) (s : m.state) → nat_lt w.tail at ≡ false → past_at m (member_entries m c w w.oids) w.trims w.oids c.objects o at ≡ PastView p → p.came ≡ Played upto
          → state_of m p.view o ≡ Some s → IsTold (Looks at o q) c (note m 0 (told.Past o q at (m.answers s q)) ∷ [])
      RescueAbsent : (at : ℕ) → rescue_turn m (all_entries m c w w.oids) w.trims w.oids c.objects at ≡ Absent → trim_above m w.trims at ≡ None → IsTold (Rescues at) c (note m 0 (told.Rescued at None) ∷ [])
      RescueMissing : (at : ℕ) (so : Bool) → rescue_turn m (all_entries m c w w.oids) w.trims w.oids c.objects at ≡ Known so true → commit_at (all_entries m c w w.oids) at ≡ None → IsTold (Rescues at) c (note m 0 (told.Rescued at None) ∷ [])
      RescueKnown : (at : ℕ) (so : Bool) → rescue_turn m (all_entries m c w w.oids) w.trims w.oids c.objects at ≡ Known so false → IsTold (Rescues at) c (note m 0 (told.Rescued at (Some so)) ∷ [])

    -- All that a turn can come to.
    pub data End : Place m → Moved m → Type 0 where
      GoesOn : {p : Place m} (d : Client m) (t : Task m) (bs : List Out) → IsGoing p d t bs → End p (goes_on m d w t bs)
      LearnsNewer : {p : Place m} (t : Task m) → IsLearning p t → End p (learns_for m c w t)
      Syncs : {p : Place m} (d : Client m) (v : Work m) (os : List Oid) → IsSynced p d v os → End p (syncs m d v os)
      Appends : {p : Place m} (d : Client m) (e : Entry) (y : Purpose m) (ns : List (NoteOf m)) → IsAppended p d e y ns → End p (appends m d w e y ns)
      Refuses : {p : Place m} (d : Client m) (n : ℕ) (why : Refusal) → IsRefused p d n why → End p (refuses m d n why)
      Answers : {p : Place m} (d : Client m) (n : ℕ) (what : WhatOf m) → IsAnswered p d n what → End p (answers m d n what)
      Tells : {p : Place m} (d : Client m) (ns : List (NoteOf m)) → IsTold p d ns → End p (replies m d ns)
