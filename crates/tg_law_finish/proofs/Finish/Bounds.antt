-- A settling answers the command that waits, from what the settling's proof asks of a world.
use Rattle.std.specs.Prelude.{◌≡◌, ℕ, ◌+◌, ◌*◌, None}
use Rattle.tg_base.specs.Layouts.{Layout}
use Rattle.tg_kind.specs.Meaning.{Meaning}
use Rattle.tg_protocol.specs.Worlds.{World, client, settle}
use Rattle.tg_law_finish.proofs.Finish.Counted.{Finishes}
use Rattle.tg_law_finish.proofs.Finish.Working.{Working, Lawful}
use Rattle.tg_law_finish.proofs.Finish.Writing.{Writes}

abbrev pub WritesFinish : Meaning → Type 0
WritesFinish m = (w : World m) (k : ℕ) (p : Layout) (c : ℕ) → Working m w k p → Lawful m w p c → Writes m w k p → (settle m w).stopped ≡ None
    → Finishes m k (4 * c + 2 * (client m w k).layouts + 2) w (settle m w).world
