-- A settling answers the command that waits.
use Rattle.std.specs.Prelude.{◌≡◌, ℕ, ◌+◌, ◌*◌, true, List, ◌∷◌, ◌++◌, slice_get, Some, None}
use Rattle.tg_base.specs.declared.packet.Packet.{Packet}
use Rattle.tg_kind.specs.Meaning.{Meaning}
use Rattle.tg_model.specs.declared.command.Event.TheVariants.{Deliver}
use Rattle.tg_model.specs.declared.trace.What.TheVariants as told
use Rattle.tg_model.specs.Kinds.{CommandOf, WhatOf}
use Rattle.tg_protocol.specs.Clients.{Work}
use Rattle.tg_protocol.specs.Worlds.{World, client, latest, happens, lowest, settle}
use Rattle.tg_protocol.specs.Finishing.{longest_chain, IsReadyFor, most_deliveries_in, Finishes, HasReply}
use Rattle.tg_law_finish.specs.Finish.Alone.{IsAlone}
use Rattle.tg_law_finish.specs.Finish.Commands.{plays}
use Rattle.tg_law_finish.specs.Finish.Queues.{Queue}
use Rattle.tg_law_finish.specs.Finish.Granted.{Granted, next_position}
use Rattle.tg_law_finish.specs.Finish.Appends.{WaitsForAppend}
use Rattle.tg_law_finish.specs.Finish.Asks.{NothingTrimmed, WaitsForSync}

module _ (m : Meaning) where
  -- a reply: it doesn't only mark that a transaction has begun, that it has a write, or that its end is accepted
  abbrev pub IsReply : WhatOf m → Type 0
  IsReply told.Begin = ⊥
  IsReply (told.Put o op) = ⊥
  IsReply told.End = ⊥
  IsReply what = Unit {0}

  -- the settling ends the command, the client tells a reply, and so many packets with it are delivered at most
  abbrev pub IsAnswered : World m → ℕ → ℕ → Type 0
  IsAnswered w k most = Finishes m w (settle m w).world k most IsReply

  -- an append: four deliveries for each unit of the longest chain, two for each layout server, and two more
  abbrev pub append_bound : World m → ℕ
  append_bound w = 4 * longest_chain (latest m w) + 2 * w.cluster.layouts + 2

  abbrev pub AppendAnswered : World m → Type 0
  AppendAnswered w = (k : ℕ) (x : CommandOf m) → IsAlone m w k x → IsReadyFor m w k → Granted m w → WaitsForAppend m w k →
      IsAnswered w k (append_bound w)

  -- so within the bound of its command
  abbrev pub AppendInTime : World m → Type 0
  AppendInTime w = (k : ℕ) (x : CommandOf m) → IsAlone m w k x → IsReadyFor m w k → Granted m w → WaitsForAppend m w k →
      IsAnswered w k (most_deliveries_in m w x)

  -- an ask of a log of which nothing is trimmed: two deliveries for each unit of the longest chain and one more, at
  -- each position and once more, and two for each layout server
  abbrev pub ask_bound : World m → ℕ
  ask_bound w = 2 * ((longest_chain (latest m w) + 1) * (next_position m w + 1)) + 2 * w.cluster.layouts

  abbrev pub AskAnswered : World m → Type 0
  AskAnswered w = (k : ℕ) (x : CommandOf m) → IsAlone m w k x → IsReadyFor m w k → Granted m w → NothingTrimmed m w → WaitsForSync m w k →
      IsAnswered w k (ask_bound w)

  abbrev pub AskInTime : World m → Type 0
  AskInTime w = (k : ℕ) (x : CommandOf m) → IsAlone m w k x → IsReadyFor m w k → Granted m w → NothingTrimmed m w → WaitsForSync m w k →
      IsAnswered w k (most_deliveries_in m w x)

  -- whatever the world: where a settling ends a command that plays, its client has told something
  abbrev pub EndsAreTold : Type 0
  EndsAreTold = (w : World m) (k : ℕ) (work : Work m) → (client m w k).work ≡ Some work → plays m work.command ≡ true →
      (client m (settle m w).world k).work ≡ None → HasReply m w (settle m w).world k (λ what. Unit {0})

  -- in a run it has told a reply
  abbrev pub RepliesAreTold : World m → Type 0
  RepliesAreTold w = (k : ℕ) (work : Work m) → (client m w k).work ≡ Some work → plays m work.command ≡ true →
      (client m (settle m w).world k).work ≡ None → HasReply m w (settle m w).world k IsReply

  -- whatever the world: the oldest packet's delivery takes it out, and puts what it makes a node send behind the others
  pub record TakesTurn (w v : World m) (q : List Packet) : Type 0 where
    pub sent : List Packet
    pub packets : v.packets ≡ w.packets ++ sent
    pub waiting : Queue m v (q ++ sent)

  abbrev pub DeliveriesTakeTurns : Type 0
  DeliveriesTakeTurns = (w : World m) (i : ℕ) (p : Packet) (q : List Packet) → lowest m w.waiting ≡ Some i → Queue m w (p ∷ q) →
      (slice_get w.packets i ≡ Some p) × TakesTurn w (happens m w (Deliver i)) q
