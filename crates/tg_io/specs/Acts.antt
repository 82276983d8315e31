-- What a program does with a link, as one list: what it sends, and what it is answered.
use Rattle.std.specs.Prelude.{◌≡◌, List, [], ◌∷◌, Option, Some, None}
use Rattle.tg_io.specs.declared.link.Arrival.{Arrival}
use Rattle.tg_io.specs.declared.link.Sent.{Sent}

-- a datagram that was sent, or an answer of `recv`, which is None where nothing was at hand
pub data Act : Type 0 where
  Goes : Sent → Act
  Comes : Option Arrival → Act

-- the datagrams that were sent, in order
abbrev pub sends_in : List Act → List Sent
sends_in [] = []
sends_in (Goes s ∷ acts) = s ∷ sends_in acts
sends_in (Comes a ∷ acts) = sends_in acts

-- the answers, in order
abbrev pub answers_in : List Act → List (Option Arrival)
answers_in [] = []
answers_in (Goes s ∷ acts) = answers_in acts
answers_in (Comes a ∷ acts) = a ∷ answers_in acts

-- sends and answers are those of the list, where it is told
abbrev pub IsOneList : Option (List Act) → Option (List Sent) → Option (List (Option Arrival)) → Type 0
IsOneList (Some acts) sent handed = (sent ≡ Some (sends_in acts)) × (handed ≡ Some (answers_in acts))
IsOneList None sent handed = Unit {0}
