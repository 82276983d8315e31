-- What holds of every transcript: objects, a history and replies.
use Rattle.std.specs.Prelude.{◌≡◌, ◌↔◌, List, None}
use Rattle.tg_base.specs.declared.ids.Oid.{Oid}
use Rattle.tg_kind.specs.Meaning.{Meaning}
use Rattle.tg_model.specs.Stores.{History, Rises}
use Rattle.tg_model.specs.Traces.{Trace}
use Rattle.tg_model.specs.Legal.{Legal}
use Rattle.tg_model.specs.Verdicts.{Sameness, IsSameness, fault}

module _ (m : Meaning) where
  -- a transcript has no fault exactly where it is legal, by exact tests of the equality of ops and answers
  abbrev pub VerdictsAreTrue : Type 0
  VerdictsAreTrue = (same : Sameness m) (objects : List Oid) (h : History m) (trace : Trace m) → IsSameness m same → Rises m h →
      (fault m same objects h trace ≡ None) ↔ Legal m objects h trace
