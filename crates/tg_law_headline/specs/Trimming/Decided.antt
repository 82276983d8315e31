-- What was decided when a walk met a trim is decided below the tail of the client's later commands.
use Rattle.std.specs.Prelude.{◌≡◌, ℕ, ◌<◌, true, Bool, List, Some, Contains}
use Rattle.tg_base.specs.Clusters.{Header}
use Rattle.tg_base.specs.declared.cell.Cell.TheVariants.{Data}
use Rattle.tg_base.specs.declared.ids.Oid.{Oid}
use Rattle.tg_entry.specs.declared.entry.Entry.{Entry}
use Rattle.tg_entry.specs.Needs.{needs_decision}
use Rattle.tg_kind.specs.Meaning.{Meaning}
use Rattle.tg_protocol.specs.Entries.{is_commit, lists, decides}
use Rattle.tg_protocol.specs.Views.{Entries}
use Rattle.tg_protocol.specs.Clients.{Work, Client}
use Rattle.tg_protocol.specs.Worlds.{World}
use Rattle.tg_protocol.specs.Runs.{Moves, Reaches}
use Rattle.tg_law_cells.specs.Cells.Settled.{IsSettled}
use Rattle.tg_law_replies.specs.History.Worlds.{entries_in}
use Rattle.tg_law_headline.specs.Leaves.Passed.{WasMet, idle_world, InFates, MetDecided}

module _ (m : Meaning) where
  -- A record has its decision above it, in each of its streams. Its page was settled in a world.
  pub record IsDecidedIn (es : Entries) (u : World m) (p : ℕ) (e : Entry) : Type 0 where
    pub at : ℕ
    pub decision : Entry
    pub here : Contains es (at, decision)
    pub above : p < at
    pub is_yes : Bool
    pub says : decides p decision.body ≡ Some is_yes
    pub streams : (o : Oid) → lists e o ≡ true → lists decision o ≡ true
    pub page : List ℕ
    pub settled : IsSettled m u at (Data page)

  -- a record below a trim that an earlier walk of the client met in its stream had one in a world since, in which the client had no
  -- work, where it needs one
  abbrev pub HasSettled : Header → Entries → Moves m → Client m → Work m → Type 0
  HasSettled h es before c x = (p : ℕ) (e : Entry) (o : Oid) → Contains es (p, e) → is_commit e ≡ true → needs_decision e ≡ true → lists e o ≡ true →
      (met : WasMet m h before c.num o p) → IsDecidedIn es (idle_world m met) p e

  -- wherever a step comes to the end of the walks of `fate` or `decide`
  abbrev pub MetSettled : Header → Moves m → World m → Type 0
  MetSettled h ms w = InFates m h ms w (HasSettled h (entries_in m w))

  -- So it has one below the tail.
  abbrev pub MetDecidedWhere : Type 0
  MetDecidedWhere = (h : Header) (ms : Moves m) (w : World m) → Reaches m h ms w → MetSettled h ms w → MetDecided m h ms w
