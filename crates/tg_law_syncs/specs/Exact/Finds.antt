-- What exact syncs give of what clients find.
use Rattle.std.specs.Prelude.{◌≡◌, ℕ, ◌++◌, Bool, true, Some}
use Rattle.tg_base.specs.Clusters.{Header}
use Rattle.tg_base.specs.declared.ids.Oid.{Oid}
use Rattle.tg_entry.specs.declared.entry.Entry.{Entry}
use Rattle.tg_entry.specs.Format.{tag_of}
use Rattle.tg_kind.specs.Meaning.{Meaning}
use Rattle.tg_model.specs.Kinds.{CommandOf}
use Rattle.tg_model.specs.declared.command.Command.TheVariants as cmd
use Rattle.tg_protocol.specs.Clients.{Work, Client}
use Rattle.tg_protocol.specs.Views.{View}
use Rattle.tg_protocol.specs.Alike.{HasEntry}
use Rattle.tg_protocol.specs.Holding.{WasBegun}
use Rattle.tg_protocol.specs.Runs.{Moves, Reaches, run}
use Rattle.tg_protocol.specs.Worlds.{World, start}
use Rattle.tg_law_replies.specs.History.Loading.{AreStates, AreOpsOf}
use Rattle.tg_law_replies.specs.History.Worlds.{entries_in}
use Rattle.tg_law_replies.specs.Views.Exact.{LeavesNone}
use Rattle.tg_law_replies.specs.Replies.Found.{mine, Fits}
use Rattle.tg_law_replies.specs.Replies.Laws.{ClientsFind}
use Rattle.tg_law_replies.specs.Replies.Runs.{InEachStep}
use Rattle.tg_law_replies.specs.Replies.Steps.{EachEvent}
use Rattle.tg_law_walks.specs.Lists.Spared.{ByRunsOfSpareTrims}
use Rattle.tg_law_syncs.specs.Finds.Left.{IsBased, SavesPrecede, RoundsExact, RoundsKnown, PassesOwn}

module _ (m : Meaning) where
  abbrev pub RoundsExactBySpareTrims : Type 0
  RoundsExactBySpareTrims = ByRunsOfSpareTrims m (RoundsExact m)

  abbrev pub RoundsKnownBySpareTrims : Type 0
  RoundsKnownBySpareTrims = ByRunsOfSpareTrims m (RoundsKnown m)

  -- Wherever a step comes to the end of a command's walks, no base of a kept view is past the tail.
  abbrev pub ViewsBelow : Header → Moves m → World m → Type 0
  ViewsBelow h ms w = InEachStep m h ms (λ before v e. EachEvent m h.objects (entries_in m w) (λ c x. IsBased m h (entries_in m w) before c x) v e)

  abbrev pub ViewsBelowBySpareTrims : Type 0
  ViewsBelowBySpareTrims = ByRunsOfSpareTrims m (λ h ms w. SavesPrecede m (entries_in m w) → ViewsBelow h ms w)

  -- What is left there: for `fate` and `decide`, what a kept view has gone past; for `checkpoint`, that the state to be saved loads.
  abbrev pub ViewsFit : Header → Moves m → World m → Type 0
  ViewsFit h ms w = InEachStep m h ms (λ before v e. EachEvent m h.objects (entries_in m w) (λ c x. Fits m h (entries_in m w) before c x x.command) v e)

  -- So the clients of a run find what they need, where entries of each log on the way were begun by their clients, and no checkpoint
  -- saves more than what stands below it.
  abbrev pub ClientsFindWhereOwn : Type 0
  ClientsFindWhereOwn = ByRunsOfSpareTrims m (λ h ms w. PassesOwn m h ms w → SavesPrecede m (entries_in m w) → ViewsFit h ms w → ClientsFind m h ms w)

  -- What a kept view leaves for `fate` and `decide`: no record without a fate that the entries don't decide.
  abbrev pub LeavesFor : Client m → Work m → CommandOf m → Type 0
  LeavesFor c v (cmd.Fate p) = (k : View m) → c.view ≡ Some k → LeavesNone m k (mine m c v)
  LeavesFor c v (cmd.Decide p) = (k : View m) → c.view ≡ Some k → LeavesNone m k (mine m c v)
  LeavesFor c v x = Unit {0}

  abbrev pub ViewsLeaveNone : Header → Moves m → World m → Type 0
  ViewsLeaveNone h ms w = InEachStep m h ms (λ before v e. EachEvent m h.objects (entries_in m w) (λ c x. LeavesFor c x x.command) v e)

  -- States that load from what is saved of them: each object begins with one, and what is read of the log's writes keeps them.
  pub record HasStates (h : Header) (w : World m) : Type 0 where
    pub is_state : Oid → m.state → Bool
    pub is_op : m.op → Bool
    pub states : AreStates m is_state is_op
    pub fresh : (o : Oid) → is_state o (m.fresh o h.objects) ≡ true
    pub ops : AreOpsOf m is_op (entries_in m w)

  -- Of kinds that have such states only that is left.
  abbrev pub ViewsFitWhere : Type 0
  ViewsFitWhere = (h : Header) (ms : Moves m) (w : World m) → HasStates h w → ViewsLeaveNone h ms w → ViewsFit h ms w

  -- Checkpoints of the log of each world on the way were begun by their clients.
  abbrev pub SavesWereOwn : Header → Moves m → Type 0
  SavesWereOwn h ms = (before after : Moves m) → ms ≡ before ++ after → (p : ℕ) (e : Entry) → HasEntry m (run m before (start m h)) p e → tag_of e.body ≡ 3 → WasBegun m h before e

  -- Then all entries were.
  abbrev pub PassesOwnWhere : Type 0
  PassesOwnWhere = (h : Header) (ms : Moves m) (w : World m) → Reaches m h ms w → SavesWereOwn h ms → PassesOwn m h ms w
