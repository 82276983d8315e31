-- Trims are spare where clients find what they need of the log, and its marks rest on checkpoints.
use Rattle.std.proofs.Common.{[], ◌∷◌, ◌++◌, Bool, ap, ◌∙◌, subst}
use Rattle.tg_base.specs.Clusters.{Header}
use Rattle.tg_base.specs.declared.ids.Oid.{Oid}
use Rattle.tg_kind.specs.Meaning.{Meaning}
use Rattle.tg_model.specs.Kinds.{EventOf}
use Rattle.tg_protocol.specs.Runs.{Moves, Takes, Reaches}
use Rattle.tg_law_layouts.specs.Moves.After.{after}
use Rattle.tg_law_cells.proofs.Entries.Lists.{joined}
use Rattle.tg_law_replies.specs.History.Floors.{IsDirectory}
use Rattle.tg_law_replies.specs.Replies.Laws.{ClientsFind}
use Rattle.tg_law_walks.proofs.Lists.Reached.{before_reached}
use Rattle.tg_law_headline.specs.Trims.Floors.{StepRests}
use Rattle.tg_law_headline.specs.Trims.Spare.{WereSpare}
use Rattle.tg_law_headline.proofs.Trims.Floors.{trims_are_spare_by_sight}
use Rattle.tg_law_headline.proofs.Trims.Sights.{sights_by_finds}
use Rattle.tg_law_headline.proofs.Floors.Swept.{tails_are_whole}
use Rattle.tg_law_headline.proofs.Floors.Tails.{trims_confirm_tails}
use Rattle.tg_law_headline.specs.Registered.Resting.{StepFinds, TrimsAreSpareByMarks}
use Rattle.tg_law_headline.proofs.Registered.Roots.{tokens_follow_registrations}

module _ (m : Meaning) (is_object : Oid → Bool) (is_op : m.op → Bool) (dir : IsDirectory m is_object is_op) (h : Header) where
  -- a step rests where it finds
  rests : (before : Moves m) (e : EventOf m) → Reaches m h before (after m h before) → WereSpare m h before → StepFinds m is_object is_op h before (after m h before) e → StepRests m is_object is_op h.objects (after m h before) e
  rests before e r were f = record {
    ops = f.ops;
    rest = record {
      tails = tails_are_whole m h before (after m h before) r were.were;
      tokens = tokens_follow_registrations m is_object is_op dir h before (after m h before) r were.were found f.ends;
      marks = f.marks;
    };
    tails = trims_confirm_tails m h before (after m h before) e r were;
    sees = sights_by_finds m h before e (after m h before) r f.finds f.ends;
  }
    where
      found : ClientsFind m h before (after m h before)
      found b a x split = f.finds b (a ++ Takes e ∷ []) x (ap (λ (ms : Moves m). ms ++ Takes e ∷ []) split ∙ joined b (Takes x ∷ a) (Takes e ∷ []))

module _ (m : Meaning) where
  pub trims_are_spare_by_marks : TrimsAreSpareByMarks m
  trims_are_spare_by_marks is_object is_op dir h ms w r f = trims_are_spare_by_sight m is_object is_op dir h ms w r
      (λ before later e split were. rests m is_object is_op dir h before e (before_reached m h ms (subst (Reaches m h ms) r.goes.is r) before (Takes e ∷ later) split) were (f before later e split were))
