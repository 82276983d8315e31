-- What a client tells at the end of its walks names what its command gave, positions below its tail, and objects that records read.
use Rattle.std.proofs.Common.{ℕ, ◌<◌, ◌≤◌, ◌^◌, List, [], ◌∷◌, Bool, true, false, cond, Option, Some, None}
use Rattle.std.specs.Prelude.{nat_lt}
use Rattle.tg_base.specs.declared.ids.Oid.{Oid}
use Rattle.tg_entry.specs.declared.entry.Entry.{Entry}
use Rattle.tg_kind.specs.Meaning.{Meaning}
use Rattle.tg_model.specs.declared.command.Command.TheVariants as cmd
use Rattle.tg_model.specs.declared.refusal.Refusal.{Refusal}
use Rattle.tg_model.specs.declared.trace.What.TheVariants as told
use Rattle.tg_model.specs.Kinds.{CommandOf, WhatOf, NoteOf}
use Rattle.tg_protocol.specs.Words.{directory}
use Rattle.tg_protocol.specs.Appending.{append_start}
use Rattle.tg_protocol.specs.Syncing.{sync_start}
use Rattle.tg_protocol.specs.Views.{View}
use Rattle.tg_protocol.specs.Transactions.{Tx}
use Rattle.tg_protocol.specs.Clients.{Purpose, Decides, Rescues, Saves, Marks, Task, Syncing, Walking, Appending, Trimming, Copying', Reconfiguring, Work, Client, all_entries, member_entries}
use Rattle.tg_protocol.specs.Answers.{Moved, moved, note, replies, refuses, took_over, answers, appends, syncs, trim_above}
use Rattle.tg_protocol.specs.ClientSteps.{task_in}
use Rattle.tg_law_walks.proofs.Drafts.Tails.{TailOk}
use Rattle.tg_law_programs.proofs.Transcripts.Near.{Near, MetNear, TokenNear}
use Rattle.tg_law_programs.proofs.Transcripts.Votes.{ReconfOk}
use Rattle.tg_law_programs.proofs.Transcripts.Copied.{CopyOk}
use Rattle.tg_law_programs.proofs.Transcripts.Given.{CommandOk, AllowedOk, WhyOk, SayOk, NotesOk}
use Rattle.tg_law_programs.proofs.Transcripts.Blocks.{AllRead, TrimsNear, MaybeNear}

module _ (m : Meaning) (Named : Oid → Type 0) (OpOk : m.op → Type 0) (AskOk : m.ask → Type 0) (own_directory : Named directory) (marks_ok : (o : Oid) (n : ℕ) → Named o → Near n → OpOk (m.mark_op o n)) where
  abbrev Says : ℕ → WhatOf m → Type 0
  Says x what = SayOk m Named OpOk AskOk x what

  abbrev Gives : CommandOf m → Type 0
  Gives x = CommandOk m Named OpOk AskOk x

  abbrev May : CommandOf m → Type 0
  May x = AllowedOk m Named OpOk AskOk x

  -- what an append is for
  abbrev pub PurposeOk : Purpose m → Type 0
  PurposeOk (Decides what) = Says 0 what
  PurposeOk (Rescues what) = Says 0 what
  PurposeOk (Saves o u) = Named o × Near u
  PurposeOk (Marks n o j) = Named o × Near j
  PurposeOk y = Unit {0}

  -- of a client that stands at this epoch or below it
  abbrev pub TaskOk : ℕ → Task m → Type 0
  TaskOk top (Syncing s) = TailOk s.work
  TaskOk top (Walking k os) = Unit {0}
  TaskOk top (Appending a y) = TokenNear a.token × PurposeOk y
  TaskOk top (Trimming t) = Unit {0}
  TaskOk top (Copying' x) = CopyOk x
  TaskOk top (Reconfiguring r) = ReconfOk top r

  -- a command that waits, but for its task
  abbrev pub Keeps : Work m → Type 0
  Keeps w = Gives w.command × May w.command × (w.tail ≤ 2 ^ 62) × TrimsNear Named m w.trims × Near w.at

  abbrev pub WorkOk : ℕ → Option (Work m) → Type 0
  WorkOk top None = Unit {0}
  WorkOk top (Some w) = Keeps w × TaskOk top (task_in m w.hand)

  -- the snapshot of an open transaction, which has a number
  abbrev pub SnapshotNear : Option Tx → Type 0
  SnapshotNear None = Unit {0}
  SnapshotNear (Some t) = MetNear t.snapshot × (0 < t.number)

  abbrev pub Standing : ℕ → Client m → Type 0
  Standing top c = (c.stand.epoch ≤ top) × SnapshotNear c.tx

  pub record ClientOk (top : ℕ) (c : Client m) : Type 0 where
    pub work : WorkOk top c.work
    pub stand : Standing top c

  pub record Good (top : ℕ) (x : Moved m) : Type 0 where
    pub notes : NotesOk m Named OpOk AskOk x.notes
    pub now : ClientOk top x.now

  -- what is asked where the walks of a command end: its entries' records read objects that have names
  abbrev pub ReadsFor : Client m → Work m → CommandOf m → Type 0
  ReadsFor c w (cmd.AskAt p o q) = AllRead Named (member_entries m c w w.oids)
  ReadsFor c w (cmd.Rescue p) = AllRead Named (all_entries m c w w.oids)
  ReadsFor c w x = AllRead Named (all_entries m c w c.hosted)

  abbrev pub EndReads : Client m → Work m → Type 0
  EndReads c w = ReadsFor c w w.command

  -- within a step, of a client that stands so
  module _ (top : ℕ) where
    abbrev Stands : Client m → Type 0
    Stands c = Standing top c

    abbrev Fine : Moved m → Type 0
    Fine x = Good top x

    pub still : (c : Client m) → ClientOk top c → Fine (moved m c [])
    still c h = record { notes = tt; now = h }

    pub tells : (c : Client m) (n : ℕ) (what : WhatOf m) → Stands c → Says n what → Fine (replies m c (note m n what ∷ []))
    tells c n what s k = record { notes = (k, tt); now = record { work = tt; stand = s } }

    pub refused : (c : Client m) (n : ℕ) (why : Refusal) → Stands c → WhyOk m Named OpOk AskOk why → Fine (refuses m c n why)
    refused c n why s k = tells c n (told.Refused why) s k

    took : (c : Client m) (v : Option (View m)) → Stands c → Stands (took_over m c v)
    took c None s = s
    took c (Some v) s = s

    pub answered : (c : Client m) (n : ℕ) (what : WhatOf m) → Stands c → Says n what → Fine (answers m c n what)
    answered c n what s k = record { notes = (k, tt); now = record { work = tt; stand = took c c.view s } }

    pub marked : (c : Client m) (n k : ℕ) (a b : WhatOf m) → Stands c → Says n a → Says k b → Fine (replies m (took_over m c c.view) (note m n a ∷ note m k b ∷ []))
    marked c n k a b s x y = record { notes = (x, (y, tt)); now = record { work = tt; stand = took c c.view s } }

    pub appended : (c : Client m) (w : Work m) (e : Entry) (y : Purpose m) (ns : List (NoteOf m)) → Stands c → Keeps w → PurposeOk y → NotesOk m Named OpOk AskOk ns → Fine (appends m c w e y ns)
    unfolding appends append_start
    appended c w e y ns s k p n = record { notes = n; now = record { work = (k, (tt, p)); stand = s } }

    pub synced : (c : Client m) (w : Work m) (os : List Oid) → Stands c → Keeps w → Fine (syncs m c w os)
    unfolding syncs sync_start
    synced c w os s k = record { notes = tt; now = record { work = ((k.0, k.1, k.2, tt, k.4), tt); stand = s } }

    -- the least trim above a position that walks met
    pub above_near : (xs : List (Oid × ℕ)) (p : ℕ) → TrimsNear Named m xs → MaybeNear Named m (trim_above m xs p)
    above_near [] p k = tt
    above_near (x ∷ xs) p k = by (nat_lt p x.1) (above_near xs p k.1)
      where
        by : (b : Bool) → MaybeNear Named m (trim_above m xs p) → MaybeNear Named m (cond b (Some x.1) (trim_above m xs p))
        by true rest = k.0
        by false rest = rest
