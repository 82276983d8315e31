-- Trims that leave what is needed, and the floors from which they come.
use Rattle.std.specs.Prelude.{◌≡◌, ℕ, ◌<◌, true}
use Rattle.tg_base.specs.Clusters.{Header}
use Rattle.tg_base.specs.declared.ids.Oid.{Oid}
use Rattle.tg_kind.specs.Meaning.{Meaning}
use Rattle.tg_model.specs.declared.command.Command.TheVariants as cmd
use Rattle.tg_model.specs.declared.play.PlayEnd.TheVariants.{Played}
use Rattle.tg_protocol.specs.Words.{directory}
use Rattle.tg_protocol.specs.Views.{Play, state_of, play}
use Rattle.tg_protocol.specs.Clients.{Work, Client, all_entries}
use Rattle.tg_protocol.specs.Answers.{floor_of, own_view, play_target}
use Rattle.tg_protocol.specs.Worlds.{World, start, log}
use Rattle.tg_protocol.specs.Runs.{Moves, Reaches, run}
use Rattle.tg_law_replies.specs.History.Worlds.{entries_in}
use Rattle.tg_law_replies.specs.Replies.Runs.{InEachStep}
use Rattle.tg_law_replies.specs.Replies.Steps.{EachEvent}
use Rattle.tg_law_walks.specs.Walks.Streams.{stands_in}
use Rattle.tg_law_walks.specs.Lists.Spared.{IsSaved, WasSettled, TrimsSaved, TrimsWereSpare}
use Rattle.tg_law_headline.specs.Issues.Issues.{TrimsInTime}

module _ (m : Meaning) where
  -- A position up to which units may be asked to trim in an epoch: all below it was settled in that epoch or before, and
  -- each stream that stands below it is saved past it, likewise.
  pub record IsSpare (w : World m) (epoch below : ℕ) : Type 0 where
    pub whole : (q : ℕ) → q < below → WasSettled m w epoch q
    pub saved : (q : ℕ) (o : Oid) → q < below → stands_in (log m w) o q ≡ true → IsSaved m w o epoch below

  -- how a client plays its own view, once its streams are walked
  abbrev pub own_play : Client m → Work m → Play m
  own_play c v = play m (own_view m c v (all_entries m c v c.hosted)) (all_entries m c v c.hosted) (play_target m v v.command)

  -- A client that trims tells the floor of the directory as its view has it then. It is spare.
  abbrev pub TellsSpare : World m → Client m → Work m → Type 0
  TellsSpare w c v = (t : ℕ) → v.command ≡ cmd.Trim → (own_play c v).came ≡ Played t → IsSpare w c.stand.epoch (floor_of m (state_of m (own_play c v).view directory))

  -- Before a step of a run trims were spare, and so is whatever units have been asked to trim.
  pub record WereSpare (h : Header) (before : Moves m) : Type 0 where
    pub were : TrimsWereSpare m h before
    pub now : TrimsSaved m (run m before (start m h))

  -- Wherever a step comes to the end of the walks of a client that trims, the floor that it tells is spare, where trims were so
  -- before.
  abbrev pub FloorsSpare : Header → Moves m → Type 0
  FloorsSpare h ms = InEachStep m h ms (λ before w e. WereSpare h before → EachEvent m h.objects (entries_in m w) (TellsSpare w) w e)

  -- Then trims are spare, safe and in time: those of the clients that trim, however often and in whichever layout they ask
  -- again, and those of copies, which ask a spare unit to trim what another unit has told as gone.
  pub record TrimsAre (h : Header) (ms : Moves m) (w : World m) : Type 0 where
    pub were : TrimsWereSpare m h ms
    pub spare : TrimsSaved m w
    pub in_time : TrimsInTime m w

  abbrev pub TrimsAreSpare : Type 0
  TrimsAreSpare = (h : Header) (ms : Moves m) (w : World m) → Reaches m h ms w → FloorsSpare h ms → TrimsAre h ms w
