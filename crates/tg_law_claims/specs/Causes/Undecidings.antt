-- What is told of something that stays undecided.
use Rattle.std.specs.Prelude.{◌≡◌, ◌⊎◌, ℕ, Some, None}
use Rattle.tg_base.specs.declared.ids.Oid.{Oid}
use Rattle.tg_kind.specs.Meaning.{Meaning}
use Rattle.tg_model.specs.declared.refusal.Refusal.TheVariants as cause
use Rattle.tg_model.specs.declared.trace.What.TheVariants as told
use Rattle.tg_model.specs.Kinds.{EventOf}
use Rattle.tg_protocol.specs.Past.{commit_at}
use Rattle.tg_protocol.specs.Walked.{Walked, walked_in, entries_had}
use Rattle.tg_protocol.specs.Worlds.{World, Told}
use Rattle.tg_protocol.specs.Playing.{Replies}
use Rattle.tg_protocol.specs.Causes.{HasCause, IsUnsure}

module _ (m : Meaning) where
  -- each refusal that a step tells because something is undecided has its cause
  abbrev pub UndecidedTrue : World m → EventOf m → Type 0
  UndecidedTrue w e = (t : Told m) (p : ℕ) (o : Oid) → Replies m w e t → t.mark.what ≡ told.Refused (cause.Undecided p o) → HasCause m w e t (cause.Undecided p o)

  -- where this step ends the client's walks, its entries have no commit record at a position
  pub record LacksRecord (w : World m) (e : EventOf m) (t : Told m) (p : ℕ) : Type 0 where
    pub had : Walked m
    pub walked : walked_in m w e t.mark.client ≡ Some had
    pub none : commit_at (entries_had m had) p ≡ None

  -- each `unsure` has its cause, unless it names one's own record, and that isn't among the client's entries
  abbrev pub UnsureUnlessLacking : World m → EventOf m → Type 0
  UnsureUnlessLacking w e = (t : Told m) (at p : ℕ) → Replies m w e t → t.mark.what ≡ told.Unsure at p → IsUnsure m w e t at p ⊎ ((p ≡ at) × LacksRecord w e t at)
