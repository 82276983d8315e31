-- What is answered, by the definitions' answers.
use Rattle.std.specs.Prelude.{◌≡◌, ℕ, Option, Some, None, is_some, if◌then◌else◌}
use Rattle.tg_base.specs.declared.ids.Oid.{Oid}
use Rattle.tg_kind.specs.Meaning.{Meaning}
use Rattle.tg_protocol.specs.Past as told
use Rattle.tg_protocol.specs.Views.{Entries}
use Rattle.tg_play.specs.Relations.{PlayedOn}
use Rattle.tg_past.specs.declared.past.PastTurn.{PastTurn}
use Rattle.tg_past.specs.declared.past.PastTurn.TheVariants.{Played, Gone}

module _ (m : Meaning) where
  -- the trim that an object's walk met, if no checkpoint of the object reaches from there to the position at most
  abbrev pub lost_by : Entries → Oid → ℕ → Option ℕ → Option ℕ
  lost_by es o pos None = None
  lost_by es o pos (Some below) = if is_some (told.last_base m es o below pos) then None else Some below

  -- the definitions' view is kept, with the end of its play, or the asked object is gone below the same trim
  abbrev pub KeepsTurn : PastTurn m.state → told.PastTurn m → Type 0
  KeepsTurn (Played c came) (told.PastView p) = PlayedOn m c came p
  KeepsTurn (Gone b) (told.PastGone below) = b ≡ below
  KeepsTurn _ _ = ⊥
