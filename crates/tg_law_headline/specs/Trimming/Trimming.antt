-- Where trims come from: each was told by a client that trims, as the floor that its directory had.
use Rattle.std.specs.Prelude.{◌≡◌, ℕ, ◌≤◌, Some}
use Rattle.tg_base.specs.Clusters.{Header}
use Rattle.tg_base.specs.declared.ids.Oid.{Oid}
use Rattle.tg_base.specs.declared.msg.Msg.TheVariants as msg
use Rattle.tg_base.specs.declared.packet.Packet.{Packet}
use Rattle.tg_kind.specs.Meaning.{Meaning}
use Rattle.tg_model.specs.declared.command.Command.TheVariants as cmd
use Rattle.tg_model.specs.declared.play.PlayEnd.TheVariants.{Played}
use Rattle.tg_model.specs.Kinds.{EventOf}
use Rattle.tg_protocol.specs.Words.{directory}
use Rattle.tg_protocol.specs.Views.{state_of}
use Rattle.tg_protocol.specs.Answers.{floor_of}
use Rattle.tg_protocol.specs.Checkpoints.{trim_of}
use Rattle.tg_protocol.specs.Walked.{Walked, walked_in}
use Rattle.tg_protocol.specs.Worlds.{World}
use Rattle.tg_protocol.specs.Chosen.{Sent}
use Rattle.tg_protocol.specs.Runs.{Moves, Reaches}
use Rattle.tg_law_headline.specs.Trims.Spare.{own_play}
use Rattle.tg_law_headline.specs.Leaves.Passed.{Ended}

module _ (m : Meaning) where
  -- A client had walked for a trim in a step of the run, and its view, once played, had a floor: at or past a position, in an
  -- epoch up to this one.
  pub record FloorTold (h : Header) (ms : Moves m) (epoch below : ℕ) : Type 0 where
    pub client : ℕ
    pub end : Walked m
    pub came : Ended m h ms client end
    pub command : end.work.command ≡ cmd.Trim
    pub at : ℕ
    pub played : (own_play m end.client end.work).came ≡ Played at
    pub reaches : below ≤ floor_of m (state_of m (own_play m end.client end.work).view directory)
    pub in_time : end.client.stand.epoch ≤ epoch

  -- Whatever a unit was ever asked to trim was told so: by clients that trim, however often and in whichever layout they ask again,
  -- and by copies, which ask a spare unit to trim what another unit has told as gone.
  abbrev pub TrimsComeOfFloors : Type 0
  TrimsComeOfFloors = (h : Header) (ms : Moves m) (w : World m) → Reaches m h ms w → (x : Packet) (epoch below : ℕ) → Sent m w x → x.msg ≡ msg.Trim epoch below → FloorTold h ms epoch below

  -- Where a step comes to the end of a command's walks, each trim that they met was told so before the step, in an epoch up to that
  -- in which the client stands.
  abbrev pub WalksMeetToldTrims : Type 0
  WalksMeetToldTrims = (h : Header) (ms : Moves m) (w : World m) → Reaches m h ms w → (e : EventOf m) (k : ℕ) (end : Walked m) → walked_in m w e k ≡ Some end →
      (o : Oid) (below : ℕ) → trim_of end.work.trims o ≡ Some below → FloorTold h ms end.client.stand.epoch below
