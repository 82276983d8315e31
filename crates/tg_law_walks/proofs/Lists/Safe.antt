-- Trims were safe in a run and up to each world through which it came.
use Rattle.std.proofs.Common.{◌≡◌, ◌∷◌, ◌++◌, ap, ◌∙◌}
use Rattle.tg_base.specs.Clusters.{Header}
use Rattle.tg_kind.specs.Meaning.{Meaning}
use Rattle.tg_protocol.specs.Runs.{Moves, Takes, Reaches}
use Rattle.tg_law_layouts.specs.Moves.After.{after}
use Rattle.tg_law_cells.specs.Entries.Archive.{TrimsWereSafe}
use Rattle.tg_law_cells.proofs.Entries.Lists.{joined}
use Rattle.tg_law_walks.specs.Lists.Spared.{TrimsWereSpare}

module _ (m : Meaning) (h : Header) (zs : Moves m) (r : Reaches m h zs (after m h zs)) (trims : TrimsWereSpare m h zs) where
  pub safe_of : TrimsWereSafe m h zs
  safe_of = trims.safe

  pub safe_before : (xs ys : Moves m) → zs ≡ xs ++ ys → TrimsWereSafe m h xs
  safe_before xs ys split before e later at = trims.safe before e (later ++ ys) (split ∙ (ap (λ (ms : Moves m). ms ++ ys) at ∙ joined before (Takes e ∷ later) ys))
