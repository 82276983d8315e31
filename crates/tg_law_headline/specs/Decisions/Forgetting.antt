-- What the log has of an object that a client may forget up to a mark.
use Rattle.std.specs.Prelude.{◌≡◌, ℕ, ◌<◌, ◌≤◌, true, None, Contains}
use Rattle.tg_base.specs.Clusters.{Header}
use Rattle.tg_base.specs.declared.ids.Oid.{Oid}
use Rattle.tg_entry.specs.declared.entry.Entry.{Entry}
use Rattle.tg_entry.specs.Needs.{needs_decision}
use Rattle.tg_kind.specs.Meaning.{Meaning}
use Rattle.tg_model.specs.Kinds.{EventOf}
use Rattle.tg_model.specs.declared.command.Command.TheVariants as cmd
use Rattle.tg_protocol.specs.Alike.{HasEntry}
use Rattle.tg_protocol.specs.Checkpoints.{may_forget}
use Rattle.tg_protocol.specs.Clients.{Work, Client}
use Rattle.tg_protocol.specs.Entries.{is_commit, lists}
use Rattle.tg_protocol.specs.Holding.{EntriesOwn}
use Rattle.tg_protocol.specs.Runs.{Moves, Reaches}
use Rattle.tg_protocol.specs.Worlds.{World}
use Rattle.tg_law_replies.specs.History.Worlds.{entries_in}
use Rattle.tg_law_replies.specs.Views.Exact.{low_of}
use Rattle.tg_law_replies.specs.Replies.Found.{mine}
use Rattle.tg_law_replies.specs.Replies.Steps.{EachEvent}
use Rattle.tg_law_walks.specs.Lists.Spared.{IsSaved, TrimsWereSpare}
use Rattle.tg_law_headline.specs.Decisions.Decisions.{IsDecidedBy}

module _ (m : Meaning) where
  -- An object is saved from a mark on, below a client's tail, by an epoch; and each record of it that needs a decision record has
  -- one by that epoch, from where the client's walk of the object's stream met a trim, or from the log's beginning, up to the mark.
  pub record IsDecidedUpTo (w : World m) (last : ℕ) (o : Oid) (mark : ℕ) (v : Work m) : Type 0 where
    pub saved : IsSaved m w o last mark
    pub here : HasEntry m w saved.at saved.entry
    pub below : saved.at < v.tail
    pub decided : (p : ℕ) (e : Entry) → HasEntry m w p e → is_commit e ≡ true → needs_decision e ≡ true → lists e o ≡ true → low_of v.trims o ≤ p → p < mark → IsDecidedBy m w last p e

  -- where a client has walked its streams to forget an object that it hosts, and the test passes, it is so by the epoch in which the
  -- client stands
  abbrev pub ForgetsDecided : World m → Client m → Work m → Type 0
  ForgetsDecided w c v = (o : Oid) (mark : ℕ) → v.command ≡ cmd.Forget o mark → Contains c.hosted o → may_forget m (mine m c v) o mark ≡ None → IsDecidedUpTo w c.stand.epoch o mark v

  -- Of the log before a step, so it is wherever the step comes to the end of such walks, where each entry of that log was begun by
  -- its client.
  abbrev pub ForgetsDecide : Type 0
  ForgetsDecide = (h : Header) (before : Moves m) (w : World m) (e : EventOf m) → Reaches m h before w → TrimsWereSpare m h before → EntriesOwn m h before w →
      EachEvent m h.objects (entries_in m w) (ForgetsDecided w) w e

  -- Such walks begin at the log's beginning.
  abbrev pub WalksWhole : Client m → Work m → Type 0
  WalksWhole c v = (o : Oid) (mark : ℕ) → v.command ≡ cmd.Forget o mark → v.lo ≡ 0

  abbrev pub ForgetsWalkWhole : Type 0
  ForgetsWalkWhole = (h : Header) (before : Moves m) (w : World m) (e : EventOf m) → Reaches m h before w → EachEvent m h.objects (entries_in m w) WalksWhole w e
