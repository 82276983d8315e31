-- The tails of commands that a client began after a world.
use Rattle.std.specs.Prelude.{◌≡◌, ℕ, ◌<◌, ◌≤◌, List, Some, None}
use Rattle.tg_base.specs.Clusters.{Header}
use Rattle.tg_base.specs.declared.cell.Cell.TheVariants.{Data}
use Rattle.tg_kind.specs.Meaning.{Meaning}
use Rattle.tg_model.specs.Kinds.{EventOf}
use Rattle.tg_protocol.specs.Walked.{Walked, walked_in}
use Rattle.tg_protocol.specs.Worlds.{World, client}
use Rattle.tg_protocol.specs.Runs.{Moves, Passes, Reaches}
use Rattle.tg_law_cells.specs.Cells.Settled.{IsSettled}
use Rattle.tg_law_cells.specs.Places.Late.{StoodTail}
use Rattle.tg_law_cells.specs.Places.Order.{IsPlace}

module _ (m : Meaning) where
  -- A tail follows a world: it is new after it, each page that was settled there lies below it, and no tail that was confirmed there
  -- lies past it.
  pub record TailFollows (u v : World m) (tail : ℕ) : Type 0 where
    pub place : IsPlace m u v tail
    pub pages : (pos : ℕ) (page : List ℕ) → IsSettled m u pos (Data page) → pos < tail
    pub tails : (epoch t : ℕ) → StoodTail m u v epoch t → t ≤ tail

  -- So it is wherever a step comes to the end of a client's walks, of each world through which the run came in which the client had
  -- no work.
  abbrev pub LaterTailsFollow : Type 0
  LaterTailsFollow = (h : Header) (ms : Moves m) (w : World m) → Reaches m h ms w → (e : EventOf m) (k : ℕ) (end : Walked m) → walked_in m w e k ≡ Some end →
      (u : World m) → Passes m h ms u → (client m u k).work ≡ None → TailFollows u w end.work.tail
