-- Refusals by sorts: those of the step that gives a command, and those of later steps.
use Rattle.std.specs.Prelude.{◌≡◌, ℕ}
use Rattle.tg_kind.specs.Meaning.{Meaning}
use Rattle.tg_model.specs.declared.command.Event.TheVariants.{Command as Commands}
use Rattle.tg_model.specs.declared.refusal.Refusal.{Refusal}
use Rattle.tg_model.specs.declared.refusal.Refusal.TheVariants as cause
use Rattle.tg_model.specs.declared.trace.What.TheVariants as told
use Rattle.tg_model.specs.Kinds.{CommandOf, EventOf}
use Rattle.tg_protocol.specs.Worlds.{World, Told}
use Rattle.tg_protocol.specs.Playing.{Replies}
use Rattle.tg_protocol.specs.Causes.{HasCause}

module _ (m : Meaning) where
  -- each refusal of the step that gives a command has its cause
  abbrev pub RefusedAtOnceTrue : World m → EventOf m → Type 0
  RefusedAtOnceTrue w e = (k : ℕ) (x : CommandOf m) → e ≡ Commands k x → (t : Told m) (why : Refusal) → Replies m w e t → t.mark.what ≡ told.Refused why → HasCause m w e t why

  -- refusals whose cause is what the client was told, or where it stands; the others go by what its walks found
  abbrev pub IsHeard : Refusal → Type 0
  IsHeard (cause.Undecided p o) = ⊥
  IsHeard (cause.NoCheckpoint o) = ⊥
  IsHeard (cause.OpenDecision p) = ⊥
  IsHeard (cause.NotHosted o) = ⊥
  IsHeard why = Unit {0}

  -- each such refusal of a command that waited has its cause
  abbrev pub RefusedLaterTrue : World m → EventOf m → Type 0
  RefusedLaterTrue w e = ((k : ℕ) (x : CommandOf m) → e ≡ Commands k x → ⊥) → (t : Told m) (why : Refusal) → Replies m w e t → t.mark.what ≡ told.Refused why → IsHeard why → HasCause m w e t why

  -- all refusals but the two of a mark, and that an object isn't hosted
  abbrev pub IsCaused : Refusal → Type 0
  IsCaused (cause.NoCheckpoint o) = ⊥
  IsCaused (cause.OpenDecision p) = ⊥
  IsCaused (cause.NotHosted o) = ⊥
  IsCaused why = Unit {0}

  -- each of them has its cause, in whatever step
  abbrev pub MostRefusalsTrue : World m → EventOf m → Type 0
  MostRefusalsTrue w e = (t : Told m) (why : Refusal) → Replies m w e t → t.mark.what ≡ told.Refused why → IsCaused why → HasCause m w e t why
