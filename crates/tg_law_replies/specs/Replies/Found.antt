-- What a client has found, where the walks of its command have come to their end.
use Rattle.std.specs.Prelude.{◌≡◌, ℕ, ◌≤◌, Some, None, Contains}
use Rattle.tg_base.specs.Clusters.{Header}
use Rattle.tg_base.specs.declared.ids.Oid.{Oid}
use Rattle.tg_entry.specs.declared.entry.Entry.{Entry}
use Rattle.tg_kind.specs.Meaning.{Meaning}
use Rattle.tg_model.specs.Kinds.{CommandOf}
use Rattle.tg_model.specs.declared.command.Command.TheVariants as cmd
use Rattle.tg_protocol.specs.Views.{Entries, Base, View, base_of}
use Rattle.tg_protocol.specs.Checkpoints.{base_at}
use Rattle.tg_protocol.specs.Clients.{Work, Client, member_entries, all_entries}
use Rattle.tg_protocol.specs.Answers.{play_target}
use Rattle.tg_protocol.specs.Runs.{Moves}
use Rattle.tg_protocol.specs.Holding.{WasBegun}
use Rattle.tg_law_replies.specs.History.Logs.{state_below}
use Rattle.tg_law_replies.specs.Views.Views.{AreEntriesFor}
use Rattle.tg_law_replies.specs.Views.Exact.{AreExact, LeavesNone}

module _ (m : Meaning) where
  -- the entries of the streams that it hosts, and its own records
  abbrev pub mine : Client m → Work m → Entries
  mine c w = all_entries m c w c.hosted

  -- how far it plays
  abbrev pub target : Work m → ℕ
  target w = play_target m w w.command

  module _ (h : Header) (es : Entries) (before : Moves m) where
    -- of what a kept view has, its client lacks no entry from where the view stands
    pub record IsFurther (v : Work m) (own : Entries) (k : View m) : Type 0 where
      pub entries : AreEntriesFor m h.objects es k own v.tail
      pub stands : k.upto ≤ target v
      pub low : (o : Oid) (b : Base m) → base_of m k o ≡ Some b → b.upto ≤ v.tail

    -- by the command: what a kept view has gone past, and what is saved
    abbrev pub Fits : Client m → Work m → CommandOf m → Type 0
    Fits c v (cmd.Fate p) = (k : View m) → c.view ≡ Some k → LeavesNone m k (mine c v)
    Fits c v (cmd.Decide p) = (k : View m) → c.view ≡ Some k → LeavesNone m k (mine c v)
    Fits c v (cmd.Checkpoint o) = m.load o (m.save (state_below m h.objects es v.tail o)) ≡ Some (state_below m h.objects es v.tail o)
    Fits c v x = Unit {0}

    -- a client whose streams are walked: none of the entries of a hosted stream lacks, and each was begun by its client
    pub record HasFound (c : Client m) (v : Work m) : Type 0 where
      pub written : (p : ℕ) (e : Entry) → Contains (mine c v) (p, e) → WasBegun m h before e
      pub high : target v ≤ v.tail
      pub new : c.view ≡ None → AreExact m es (mine c v) v.trims c.hosted v.tail
      pub kept : (k : View m) → c.view ≡ Some k → IsFurther v (mine c v) k
      pub saved : (p : ℕ) (e : Entry) (o : Oid) (b : Base m) → Contains (mine c v) (p, e) → base_at m o e ≡ Some b → b.upto ≤ v.tail
      pub fits : Fits c v v.command

    -- a client whose streams are walked for a past view or a rescue
    pub record HasWalked (own : Entries) (v : Work m) : Type 0 where
      pub written : (p : ℕ) (e : Entry) → Contains own (p, e) → WasBegun m h before e
      pub exact : AreExact m es own v.trims v.oids v.tail

    abbrev pub FindsFor : Client m → Work m → CommandOf m → Type 0
    FindsFor c v (cmd.AskAt p o q) = HasWalked (member_entries m c v v.oids) v
    FindsFor c v (cmd.Rescue p) = HasWalked (all_entries m c v v.oids) v
    FindsFor c v x = HasFound c v

    abbrev pub Finds : Client m → Work m → Type 0
    Finds c v = FindsFor c v v.command
