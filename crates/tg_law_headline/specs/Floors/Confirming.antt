-- Clients at the end of their walks have confirmed the tail up to which they walked.
use Rattle.tg_base.specs.Clusters.{Header}
use Rattle.tg_kind.specs.Meaning.{Meaning}
use Rattle.tg_model.specs.Kinds.{EventOf}
use Rattle.tg_protocol.specs.Clients.{Work, Client}
use Rattle.tg_protocol.specs.Worlds.{World}
use Rattle.tg_protocol.specs.Runs.{Moves, Reaches}
use Rattle.tg_law_replies.specs.History.Worlds.{entries_in}
use Rattle.tg_law_replies.specs.Replies.Steps.{EachEvent}
use Rattle.tg_law_headline.specs.Trims.Spare.{WereSpare}
use Rattle.tg_law_headline.specs.Trims.Floors.{HasTail, ConfirmsTail}

module _ (m : Meaning) where
  -- What holds in each step of a run before which trims were spare, wherever it comes to the end of a command's walks.
  abbrev pub EachEndBySpareTrims : (World m → Client m → Work m → Type 0) → Type 0
  EachEndBySpareTrims P = (h : Header) (before : Moves m) (w : World m) (e : EventOf m) → Reaches m h before w → WereSpare m h before → EachEvent m h.objects (entries_in m w) (P w) w e

  -- whatever the command is
  abbrev pub WalksHaveTails : Type 0
  WalksHaveTails = EachEndBySpareTrims (HasTail m)

  -- and so of a trim
  abbrev pub TrimsConfirmTails : Type 0
  TrimsConfirmTails = EachEndBySpareTrims (ConfirmsTail m)
