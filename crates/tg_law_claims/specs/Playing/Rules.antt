-- Rules of playing on, as `PlaysOn` of `tg_protocol` has them.
use Rattle.std.specs.Prelude.{◌≡◌, ℕ, ◌<◌, ◌≤◌, ◌⊎◌, List, Some, None}
use Rattle.tg_base.specs.declared.cell.Cell.TheVariants.{Data}
use Rattle.tg_base.specs.declared.ids.Oid.{Oid}
use Rattle.tg_kind.specs.Meaning.{Meaning}
use Rattle.tg_model.specs.declared.trace.What.TheVariants as told
use Rattle.tg_model.specs.Kinds.{EventOf}
use Rattle.tg_protocol.specs.Clients.{upto, known}
use Rattle.tg_protocol.specs.Worlds.{World, client, noted_of, happens}
use Rattle.tg_protocol.specs.Playing.{Answers, MetTrimAbove, IsHosted, IsOwn, ReadsNow}

module _ (m : Meaning) where
  -- an answered ask leaves the view at its tail
  abbrev pub AsksStand : World m → EventOf m → Type 0
  AsksStand w e = (k : ℕ) (o : Oid) (q : m.ask) (at : ℕ) (a : m.answer) → Answers m w e k (λ t. t.mark.what ≡ told.Asked o q at a) → upto m (client m (happens m w e) k) ≡ at

  -- a view goes back only where its client hosts an object, or met a trim above it
  abbrev pub ViewsFallAtTrims : World m → EventOf m → Type 0
  ViewsFallAtTrims w e = (k : ℕ) → upto m (client m (happens m w e) k) < upto m (client m w k) → Answers m w e k (IsHosted m) ⊎ MetTrimAbove m (happens m w e) k

  -- pages below a view are given up where the command is answered, but those of one's own records
  abbrev pub PagesGiveUp : World m → EventOf m → Type 0
  PagesGiveUp w e = (k p : ℕ) (page : List ℕ) → (client m (happens m w e) k).work ≡ None → p < upto m (client m (happens m w e) k) → known m (client m (happens m w e) k) p ≡ Some (Data page) → IsOwn m k page

  -- a command that reads for the view alone reads nothing below where the view stood when it was given, but where it met such a trim
  abbrev pub ViewsReadOn : World m → EventOf m → Type 0
  ViewsReadOn w e = (k p : ℕ) → ReadsNow m w e k p → ((noted_of m (happens m w e) k).upto ≤ p) ⊎ MetTrimAbove m (happens m w e) k
