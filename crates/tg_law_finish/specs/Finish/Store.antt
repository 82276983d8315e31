-- In a world that is ready a settling answers the client that waits for its last append, or in a sync or a walk.
use Rattle.std.specs.Prelude.{◌≡◌, ℕ, true, Some}
use Rattle.tg_kind.specs.Meaning.{Meaning}
use Rattle.tg_model.specs.Kinds.{CommandOf}
use Rattle.tg_protocol.specs.Appending.{Append}
use Rattle.tg_protocol.specs.Clients.{Purpose, Appending, Doing, Work}
use Rattle.tg_protocol.specs.Worlds.{World, client}
use Rattle.tg_protocol.specs.Finishing.{IsReadyFor, most_deliveries_in}
use Rattle.tg_law_finish.specs.Finish.Alone.{IsAlone}
use Rattle.tg_law_finish.specs.Finish.Appends.{is_last}
use Rattle.tg_law_finish.specs.Finish.Asks.{NothingTrimmed}
use Rattle.tg_law_finish.specs.Finish.Commands.{is_ask}
use Rattle.tg_law_finish.specs.Finish.Laws.{IsAnswered, append_bound, ask_bound}
use Rattle.tg_law_finish.specs.Finish.Reads.{WaitsForRead}

module _ (m : Meaning) where
  -- the client's command has an append in hand, and nothing is left to do after it
  pub record AppendsLast (w : World m) (k : ℕ) : Type 0 where
    pub work : Work m
    pub waits : (client m w k).work ≡ Some work
    pub append : Append
    pub purpose : Purpose m
    pub hand : work.hand ≡ Doing (Appending append purpose)
    pub last : is_last m purpose ≡ true

  -- within the deliveries of an append, and within the bound of the command
  abbrev pub AppendFinishes : World m → Type 0
  AppendFinishes w = (k : ℕ) (x : CommandOf m) → IsAlone m w k x → IsReadyFor m w k → AppendsLast w k →
      IsAnswered m w k (append_bound m w) × IsAnswered m w k (most_deliveries_in m w x)

  -- within the deliveries of an ask, and within the bound of the command
  abbrev pub AskFinishes : World m → Type 0
  AskFinishes w = (k : ℕ) (x : CommandOf m) → IsAlone m w k x → IsReadyFor m w k → NothingTrimmed m w → is_ask m x ≡ true → WaitsForRead m w k →
      IsAnswered m w k (ask_bound m w) × IsAnswered m w k (most_deliveries_in m w x)
