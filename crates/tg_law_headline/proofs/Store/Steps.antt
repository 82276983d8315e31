-- The steps of a run of the store, one after the other, as far as trims were spare.
use Rattle.std.proofs.Common.{◌≡◌, [], ◌∷◌, ◌++◌, refl, ap, ◌∙◌, subst}
use Rattle.tg_base.specs.Clusters.{Header}
use Rattle.tg_kind.specs.Meaning.{Meaning}
use Rattle.tg_model.specs.Kinds.{EventOf}
use Rattle.tg_protocol.specs.Runs.{Moves, Takes, Reaches}
use Rattle.tg_protocol.specs.Worlds.{World}
use Rattle.tg_dir.specs.Spellings.{is_number}
use Rattle.tg_any.specs.Anys.{is_op}
use Rattle.tg_any.specs.AllKinds.{all_kinds}
use Rattle.tg_law_layouts.specs.Moves.After.{after}
use Rattle.tg_law_cells.proofs.Entries.Lists.{joined}
use Rattle.tg_law_replies.specs.History.Worlds.{entries_in}
use Rattle.tg_law_walks.specs.Drafts.Parts.{TouchParts}
use Rattle.tg_law_replies.specs.Replies.Runs.{InEachStep}
use Rattle.tg_law_replies.specs.Replies.Steps.{EachEvent}
use Rattle.tg_law_replies.specs.Replies.Found.{Finds}
use Rattle.tg_law_walks.specs.Lists.Spared.{TrimsWereSpare}
use Rattle.tg_law_walks.proofs.Lists.Reached.{before_reached}
use Rattle.tg_law_walks.proofs.Lists.Safe.{safe_before}
use Rattle.tg_law_syncs.specs.Finds.Left.{IsBased, PlaysFor, SavesPrecede, PassesOwn}
use Rattle.tg_law_syncs.specs.Exact.Finds.{LeavesFor, HasStates, ViewsLeaveNone}
use Rattle.tg_law_syncs.proofs.Exact.Finds.{event_more}
use Rattle.tg_law_syncs.proofs.Exact.Fits.{finds, views_below, views_fit, rounds_fit}
use Rattle.tg_law_syncs.proofs.Follow.Saves.{saves_precede}
use Rattle.tg_law_walks.proofs.Checkpoints.Checkpoints.{entries_own, appends_end}
use Rattle.tg_law_headline.specs.Trims.Spare.{WereSpare}
use Rattle.tg_law_headline.specs.Trims.Floors.{FindSoFar, SeesDirectory, StepRests}
use Rattle.tg_law_headline.proofs.Trims.Sights.{sights_by_finds}
use Rattle.tg_law_headline.proofs.Trims.Floors.{trims_are_spare_by_sight}
use Rattle.tg_law_headline.proofs.Floors.Tails.{trims_confirm_tails}
use Rattle.tg_law_headline.proofs.AllKinds.Holds.{kinds_have_directory}
use Rattle.tg_law_headline.proofs.AllKinds.Touching.{kinds_touch_parts}
use Rattle.tg_law_headline.specs.Store.Steps.{StepsHold, StoreStepsRest, StoreTrimsAreSpare}
use Rattle.tg_law_headline.proofs.Store.Found.{each_so_far, based_now, finds_now}
use Rattle.tg_law_headline.proofs.Store.States.{store_reads_ops, store_has_states}

-- Of any kinds whose ops touch parts of the format: clients find what they need in a run in which trims were spare, and in the
-- step after it, by the log before that step.
module _ (m : Meaning) (parts : TouchParts m) (h : Header) (zs : Moves m) (r : Reaches m h zs (after m h zs)) (trims : TrimsWereSpare m h zs) (states : HasStates m h (after m h zs)) (e : EventOf m)
    (views : ViewsLeaveNone m h (zs ++ Takes e ∷ []) (after m h zs)) where
  own : PassesOwn m h zs (after m h zs)
  own before rest split = entries_own m parts h before (after m h before) (before_reached m h zs r before rest split)

  precede : SavesPrecede m (entries_in m (after m h zs))
  precede = saves_precede m h zs (after m h zs) r trims (entries_own m parts h zs (after m h zs) r)

  views_before : ViewsLeaveNone m h zs (after m h zs)
  views_before b a x split = views b (a ++ Takes e ∷ []) x (ap (λ (us : Moves m). us ++ Takes e ∷ []) split ∙ joined b (Takes x ∷ a) (Takes e ∷ []))

  plays : EachEvent m h.objects (entries_in m (after m h zs)) (λ c x. PlaysFor m h (entries_in m (after m h zs)) zs c x x.command) (after m h zs) e
  plays =
      rounds_fit m h (zs ++ Takes e ∷ []) (after m h zs)
      (each_so_far m h zs e (λ b u y. EachEvent m h.objects (entries_in m (after m h zs)) (λ c x. IsBased m h (entries_in m (after m h zs)) b c x) u y) (views_below m h zs (after m h zs) r trims precede) (based_now m h zs r trims precede e))
      (views_fit m h (zs ++ Takes e ∷ []) (after m h zs) states views) zs [] e refl

  pub find_so_far : FindSoFar m h zs e (after m h zs)
  find_so_far =
      each_so_far m h zs e (λ b u y. EachEvent m h.objects (entries_in m (after m h zs)) (Finds m h (entries_in m (after m h zs)) b) u y)
      (finds m h zs (after m h zs) r trims own precede (views_fit m h zs (after m h zs) states views_before)) (finds_now m h zs r trims precede (entries_own m parts h zs (after m h zs) r) e plays)

  pub sees_now : EachEvent m h.objects (entries_in m (after m h zs)) (SeesDirectory m h.objects (after m h zs)) (after m h zs) e
  sees_now = sights_by_finds m h zs e (after m h zs) r find_so_far (appends_end m parts h zs (after m h zs) r trims.safe)

-- Before each step of a front of a run trims were spare, where they were before the next step.
front_spare : (m : Meaning) (h : Header) (zs : Moves m) → Reaches m h zs (after m h zs) → TrimsWereSpare m h zs → (b a : Moves m) (x : EventOf m) → zs ≡ b ++ Takes x ∷ a → WereSpare m h b
front_spare m h zs r trims b a x split = record {
  were = record {
    safe = safe_before m h zs r trims b (Takes x ∷ a) split;
    spare = λ u g. trims.spare u (record { before = g.before; event = g.event; later = g.later ++ Takes x ∷ a; split = split ∙ (ap (λ (ms : Moves m). ms ++ Takes x ∷ a) g.split ∙ joined g.before (Takes g.event ∷ g.later) (Takes x ∷ a)); is = g.is });
  };
  now = trims.spare (after m h b) (record { before = b; event = x; later = a; split = split; is = refl });
}

-- The store.

abbrev Leaves : Header → Moves all_kinds → World all_kinds → EventOf all_kinds → Type 0
Leaves h zs u y = EachEvent all_kinds h.objects (entries_in all_kinds (after all_kinds h zs)) (λ c x. LeavesFor all_kinds c x x.command) u y

by_log : (h : Header) (zs : Moves all_kinds) (u : World all_kinds) (y : EventOf all_kinds) → EachEvent all_kinds h.objects (entries_in all_kinds u) (λ c x. LeavesFor all_kinds c x x.command) u y → Leaves h zs u y
by_log h zs u y f = event_more all_kinds h.objects (entries_in all_kinds u) (entries_in all_kinds (after all_kinds h zs)) (λ c x. LeavesFor all_kinds c x x.command) (λ c x. LeavesFor all_kinds c x x.command) (λ c x g. g) u y f

module _ (h : Header) (ms : Moves all_kinds) (r : Reaches all_kinds h ms (after all_kinds h ms)) (holds : StepsHold h ms) where
  module _ (zs : Moves all_kinds) (e : EventOf all_kinds) (later : Moves all_kinds) (split : ms ≡ zs ++ Takes e ∷ later) (spare : WereSpare all_kinds h zs) where
    here : Reaches all_kinds h zs (after all_kinds h zs)
    here = before_reached all_kinds h ms r zs (Takes e ∷ later) split

    views : ViewsLeaveNone all_kinds h (zs ++ Takes e ∷ []) (after all_kinds h zs)
    views =
        each_so_far all_kinds h zs e (λ b u y. Leaves h zs u y)
        (λ b a x at. by_log h zs (after all_kinds h b) x
        (holds b (a ++ Takes e ∷ later) x (split ∙ (ap (λ (us : Moves all_kinds). us ++ Takes e ∷ later) at ∙ joined b (Takes x ∷ a) (Takes e ∷ later))) (front_spare all_kinds h zs here spare.were b a x at)).views)
        (holds zs later e split spare).views

    rests : StepRests all_kinds is_number is_op h.objects (after all_kinds h zs) e
    rests = record {
      ops = store_reads_ops h zs (after all_kinds h zs) here spare.were.safe;
      rest = (holds zs later e split spare).floors;
      tails = trims_confirm_tails all_kinds h zs (after all_kinds h zs) e here spare;
      sees = sees_now all_kinds kinds_touch_parts h zs here spare.were (store_has_states h zs (after all_kinds h zs) here spare.were.safe) e views;
    }

  steps_rest : InEachStep all_kinds h ms (λ before u e. WereSpare all_kinds h before → StepRests all_kinds is_number is_op h.objects u e)
  steps_rest before later e split spare = rests before e later split spare

  -- in a run in which trims were spare kept views leave none
  pub views_here : TrimsWereSpare all_kinds h ms → ViewsLeaveNone all_kinds h ms (after all_kinds h ms)
  views_here trims b a x split = by_log h ms (after all_kinds h b) x (holds b a x split (front_spare all_kinds h ms r trims b a x split)).views

pub store_steps_rest : StoreStepsRest
store_steps_rest h ms w r holds = steps_rest h ms (subst (Reaches all_kinds h ms) r.goes.is r) holds

pub store_trims_are_spare : StoreTrimsAreSpare
store_trims_are_spare h ms w r holds = trims_are_spare_by_sight all_kinds is_number is_op kinds_have_directory h ms w r (store_steps_rest h ms w r holds)
