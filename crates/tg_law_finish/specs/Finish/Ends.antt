-- A client that ends a transaction with reads: its record is appended; its sync, the walks and a decision come then.
use Rattle.std.specs.Prelude.{◌≡◌, ℕ, ◌+◌, ◌*◌, Some}
use Rattle.tg_kind.specs.Meaning.{Meaning}
use Rattle.tg_model.specs.declared.command.Command.TheVariants as cmd
use Rattle.tg_model.specs.Kinds.{CommandOf}
use Rattle.tg_protocol.specs.Appending.{Append, Asking}
use Rattle.tg_protocol.specs.Clients.{Judged, Appending, Doing, Work}
use Rattle.tg_protocol.specs.Worlds.{World, client, latest}
use Rattle.tg_protocol.specs.Finishing.{longest_chain, IsReadyFor, most_deliveries_in}
use Rattle.tg_law_finish.specs.Finish.Alone.{IsAlone}
use Rattle.tg_law_finish.specs.Finish.Laws.{IsAnswered}
use Rattle.tg_law_finish.specs.Finish.Walks.{walk_bound, passes_bound}

module _ (m : Meaning) where
  -- the request for the record's token is outstanding
  pub record EndsAppend (w : World m) (k : ℕ) : Type 0 where
    pub work : Work m
    pub waits : (client m w k).work ≡ Some work
    pub command : work.command ≡ cmd.End
    pub append : Append
    pub rid : ℕ
    pub hand : work.hand ≡ Doing (Appending append Judged)
    pub first : append.work ≡ Asking rid

  -- all streams that the client hosts are walked, up to the record's position, which is read too; and the record
  -- and a decision go down a chain
  abbrev pub end_bound : World m → ℕ
  end_bound w = walk_bound m w 128 + 6 * (longest_chain (latest m w) + 1)

  abbrev pub EndFinishes : World m → Type 0
  EndFinishes w = (k : ℕ) (x : CommandOf m) → IsAlone m w k x → IsReadyFor m w k → EndsAppend w k → IsAnswered m w k (end_bound w) × IsAnswered m w k (most_deliveries_in m w x + passes_bound m w 128)

  -- the record is being appended, wherever that stands: its token is asked for, its page goes down the chain, or
  -- the position of a token of an older layout is settled
  pub record EndsRecord (w : World m) (k : ℕ) : Type 0 where
    pub work : Work m
    pub waits : (client m w k).work ≡ Some work
    pub append : Append
    pub hand : work.hand ≡ Doing (Appending append Judged)

  -- that position may have another cell: then another token is asked for
  abbrev pub record_bound : World m → ℕ
  record_bound w = walk_bound m w 128 + 8 * (longest_chain (latest m w) + 1)

  abbrev pub RecordFinishes : World m → Type 0
  RecordFinishes w = (k : ℕ) (x : CommandOf m) → IsAlone m w k x → IsReadyFor m w k → EndsRecord w k → IsAnswered m w k (record_bound w) × IsAnswered m w k (most_deliveries_in m w x + passes_bound m w 128)
