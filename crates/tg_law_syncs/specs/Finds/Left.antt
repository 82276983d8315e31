-- What a client has found where its streams are walked, beside what exact walks tell.
use Rattle.std.specs.Prelude.{◌≡◌, ℕ, ◌≤◌, ◌++◌, Some, Contains, []}
use Rattle.tg_base.specs.Clusters.{Header}
use Rattle.tg_base.specs.declared.ids.Oid.{Oid}
use Rattle.tg_entry.specs.declared.entry.Entry.{Entry}
use Rattle.tg_kind.specs.Meaning.{Meaning}
use Rattle.tg_model.specs.Kinds.{CommandOf}
use Rattle.tg_model.specs.declared.command.Command.TheVariants as cmd
use Rattle.tg_protocol.specs.Checkpoints.{base_at}
use Rattle.tg_protocol.specs.Clients.{Work, Client, member_entries, all_entries}
use Rattle.tg_protocol.specs.Holding.{WasBegun, EntriesOwn}
use Rattle.tg_protocol.specs.Runs.{Moves, run}
use Rattle.tg_protocol.specs.Views.{Entries, Base, View, base_of}
use Rattle.tg_protocol.specs.Worlds.{World, start, log}
use Rattle.tg_law_replies.specs.History.Worlds.{entries_in}
use Rattle.tg_law_replies.specs.Replies.Found.{mine, Fits}
use Rattle.tg_law_replies.specs.Replies.Runs.{InEachStep}
use Rattle.tg_law_replies.specs.Replies.Steps.{EachEvent}
use Rattle.tg_law_walks.specs.Walks.Streams.{AreKnown}
use Rattle.tg_law_walks.specs.Walks.Rounds.{round, IsRound}

module _ (m : Meaning) where
  module _ (h : Header) (es : Entries) (before : Moves m) where
    -- entries were begun by their clients in the run so far
    abbrev pub AreBegun : Entries → Type 0
    AreBegun own = (p : ℕ) (e : Entry) → Contains own (p, e) → WasBegun m h before e

    -- no base of a kept view is past the tail: where trims left what is needed it is had of runs whose checkpoints precede (`views_are_below` of tg_law_syncs)
    abbrev pub IsBased : Client m → Work m → Type 0
    IsBased c v = (k : View m) (o : Oid) (b : Base m) → c.view ≡ Some k → base_of m k o ≡ Some b → b.upto ≤ v.tail

    -- nor is one that an entry saves
    abbrev pub SavesBelow : Client m → Work m → Type 0
    SavesBelow c v = (p : ℕ) (e : Entry) (o : Oid) (b : Base m) → Contains (mine m c v) (p, e) → base_at m o e ≡ Some b → b.upto ≤ v.tail

    -- of a client that plays its own view
    pub record IsLeft (c : Client m) (v : Work m) : Type 0 where
      pub written : AreBegun (mine m c v)
      pub based : IsBased c v
      pub saved : SavesBelow c v
      pub fits : Fits m h es before c v v.command

    abbrev pub LeftFor : Client m → Work m → CommandOf m → Type 0
    LeftFor c v (cmd.AskAt p o q) = AreBegun (member_entries m c v v.oids)
    LeftFor c v (cmd.Rescue p) = AreBegun (all_entries m c v v.oids)
    LeftFor c v x = IsLeft c v

    -- what is left for a command that plays the client's own view, where entries were begun and checkpoints save what stands below them
    pub record PlaysOwn (c : Client m) (v : Work m) : Type 0 where
      pub based : IsBased c v
      pub fits : Fits m h es before c v v.command

    abbrev pub PlaysFor : Client m → Work m → CommandOf m → Type 0
    PlaysFor c v (cmd.AskAt p o q) = Unit {0}
    PlaysFor c v (cmd.Rescue p) = Unit {0}
    PlaysFor c v x = PlaysOwn c v

  -- a checkpoint saves no more than what stands below it: it is asked for at a tail, and its token is issued there or past it
  abbrev pub SavesPrecede : Entries → Type 0
  SavesPrecede es = (p : ℕ) (e : Entry) (o : Oid) (b : Base m) → Contains es (p, e) → base_at m o e ≡ Some b → b.upto ≤ p

  module _ (h : Header) (ms : Moves m) (w : World m) where
    -- wherever a step comes to the end of a command's walks, they are exact, by the log that the run ends with
    abbrev pub RoundsExact : Type 0
    RoundsExact = InEachStep m h ms (λ before v e. EachEvent m h.objects (entries_in m w) (λ c x. IsRound m (log m w) (round m c x c.cells) []) v e)

    -- and the cells that the client knows there are the log's at hand
    abbrev pub RoundsKnown : Type 0
    RoundsKnown = InEachStep m h ms (λ before v e. EachEvent m h.objects (entries_in m w) (λ c x. AreKnown (log m v) c.cells) v e)

    -- and what is left of it holds
    abbrev pub RoundsFit : Type 0
    RoundsFit = InEachStep m h ms (λ before v e. EachEvent m h.objects (entries_in m w) (λ c x. PlaysFor h (entries_in m w) before c x x.command) v e)

    -- entries of the log of each world on the way were begun by their clients
    abbrev pub PassesOwn : Type 0
    PassesOwn = (before after : Moves m) → ms ≡ before ++ after → EntriesOwn m h before (run m before (start m h))
