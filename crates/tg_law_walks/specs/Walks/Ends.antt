-- Where a step ends the walks of a command: what its client has there.
use Rattle.std.specs.Prelude.{◌≡◌, ℕ, true, [], Option, Some, None, Contains, slice_get}
use Rattle.tg_base.specs.declared.ids.NodeId.{NodeId}
use Rattle.tg_base.specs.declared.ids.Oid.{Oid}
use Rattle.tg_base.specs.declared.packet.Packet.{Packet}
use Rattle.tg_kind.specs.Meaning.{Meaning}
use Rattle.tg_model.specs.Kinds.{EventOf}
use Rattle.tg_model.specs.declared.command.Event.TheVariants.{Deliver}
use Rattle.tg_protocol.specs.Words.{client_id}
use Rattle.tg_protocol.specs.Requests.{awaits}
use Rattle.tg_protocol.specs.Replies.{Reply, reply}
use Rattle.tg_protocol.specs.Syncing.{sync_feed}
use Rattle.tg_protocol.specs.Logs.{Log, members}
use Rattle.tg_protocol.specs.Clients.{Task, Syncing, Walking, Hand, Doing, Learning, Work, Client}
use Rattle.tg_protocol.specs.ClientSteps.{task_awaited}
use Rattle.tg_protocol.specs.Worlds.{World, client, log, happens}
use Rattle.tg_protocol.specs.Walked.{Walked, walked_in, walked_from, positions_found}
use Rattle.tg_protocol.specs.Playing.{from_to, SyncsExact}
use Rattle.tg_protocol.specs.Runs.{Later}
use Rattle.tg_law_walks.specs.Walks.Streams.{IsByPosition, AreLinked}
use Rattle.tg_law_walks.specs.Walks.Walks.{JobEndsAs}
use Rattle.tg_law_walks.specs.Walks.Rounds.{round, IsRound, IsAtWork}
use Rattle.tg_law_walks.specs.Walks.Laws.{SyncEndsAs}

module _ (m : Meaning) where
  -- the positions that a client found of a stream, from where its walk ended up to the tail, are those of the log
  abbrev pub IsExactIn : Log → Walked m → Oid → Type 0
  IsExactIn l x o = from_to m (walked_from m x o) x.work.tail (positions_found m x o) ≡ members l o (walked_from m x o) x.work.tail

  -- where all streams are walked, each of them is found so
  abbrev pub WalksExact : Type 0
  WalksExact = (l : Log) (x : Walked m) (o : Oid) → IsByPosition l → IsRound m l (round m x.client x.work x.client.cells) [] →
      Contains x.work.oids o → IsExactIn l x o

  -- What an answer that is awaited ends is true of the log: a sync's tail with its lists, or a walk's cell.

  abbrev pub TaskEndsAs : Log → Client m → Work m → Task m → ℕ → Reply → Type 0
  TaskEndsAs l c w (Syncing s) n x = SyncEndsAs m l (round m c w c.cells) (sync_feed c.stand s s.work n x c.next).to
  TaskEndsAs l c w (Walking k os) n x = JobEndsAs l k.job n x c.next
  TaskEndsAs l c w t n x = Unit {0}

  abbrev pub HandEndsAs : Log → Client m → Work m → Hand m → NodeId → ℕ → Reply → Type 0
  HandEndsAs l c w (Doing t) from rid x = awaits (task_awaited m c.stand t) from rid ≡ true → TaskEndsAs l c w t from.num x
  HandEndsAs l c w (Learning waits t) from rid x = Unit {0}

  abbrev pub WorkEndsAs : Log → Client m → Option (Work m) → NodeId → ℕ → Reply → Type 0
  WorkEndsAs l c None from rid x = Unit {0}
  WorkEndsAs l c (Some w) from rid x = HandEndsAs l c w w.hand from rid x

  -- in a step of a world, for one of its clients
  abbrev pub StepEndsAs : Log → World m → EventOf m → ℕ → Type 0
  StepEndsAs l w (Deliver i) k = (p : Packet) → slice_get w.packets i ≡ Some p → p.to ≡ client_id k →
      WorkEndsAs l (client m w k) (client m w k).work p.from p.rid (reply p.msg)
  StepEndsAs l w e k = Unit {0}

  -- A step of a client whose walks so far are true of a log: where it ends them, what they found is exactly the log's.
  abbrev pub StepsExact : Type 0
  StepsExact = (l : Log) (w : World m) (e : EventOf m) (k : ℕ) (x : Walked m) (o : Oid) → IsByPosition l → AreLinked l →
      IsAtWork m l (client m w k) (client m w k).work → StepEndsAs l w e k →
      walked_in m w e k ≡ Some x → Contains x.work.oids o → IsExactIn l x o

  -- what `StepsExact` asks of a log
  pub record IsTrueStep (l : Log) (w : World m) (e : EventOf m) (k : ℕ) : Type 0 where
    pub linked : AreLinked l
    pub work : IsAtWork m l (client m w k) (client m w k).work
    pub ends : StepEndsAs l w e k

  -- So the claim holds of a step for which this is so of the log of each later world.
  abbrev pub SyncsExactWhere : Type 0
  SyncsExactWhere = (w : World m) (e : EventOf m) → ((later : World m) → Later m (happens m w e) later → (k : ℕ) → IsTrueStep (log m later) w e k) → SyncsExact m w e
