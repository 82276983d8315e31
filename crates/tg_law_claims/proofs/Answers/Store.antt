-- What holds of each step of a run of the store.
use Rattle.std.proofs.Common.{[], ◌∷◌, ◌++◌, refl, sym, ap, ◌∙◌, subst, inl, inr, arith}
use Rattle.std.specs.Prelude.{◌≡◌, ◌<◌}
use Rattle.tg_base.specs.Clusters.{Header}
use Rattle.tg_any.specs.AllKinds.{all_kinds}
use Rattle.tg_kind.specs.Meaning.{Meaning}
use Rattle.tg_model.specs.Kinds.{EventOf}
use Rattle.tg_protocol.specs.Causes.{CausesRefuse, NonesTrue, RefusalsTrue, UnsureTrue}
use Rattle.tg_protocol.specs.Worlds.{World, happens}
use Rattle.tg_protocol.specs.Runs.{Moves, Move, Takes, Reaches, Later, LawfulEvent, LawfulMove, EachStep, most_steps, run}
use Rattle.tg_law_layouts.specs.Moves.After.{after}
use Rattle.tg_law_layouts.proofs.Layouts.Layouts.{has_header}
use Rattle.tg_law_layouts.proofs.Moves.Members.{Has, has_contained}
use Rattle.tg_law_walks.proofs.Drafts.Clients.{happens_steps}
use Rattle.tg_law_walks.proofs.Walks.Reading.{reaches_later}
use Rattle.tg_law_headline.proofs.Store.Steps.{store_trims_are_spare}
use Rattle.tg_law_headline.proofs.Joint.Holding.{steps_hold}
use Rattle.tg_law_claims.specs.Causes.Undecidings.{UndecidedTrue, UnsureUnlessLacking}
use Rattle.tg_law_headline.proofs.Runs.Finding.{ends}
use Rattle.tg_law_claims.proofs.Causes.Store.{directories_true}
use Rattle.tg_law_claims.proofs.Causes.StoreStalled.{undecided_true, unsure_unless_lacking}
use Rattle.tg_law_claims.specs.Answers.Confirmed.{NonesThere, AheadsThere, FatesForgotten, PastsForgotten, UnsavedThere}
use Rattle.tg_law_claims.specs.Answers.Rescues.{RescuesForgotten, RescuesTooWide}
use Rattle.tg_law_claims.specs.Answers.Undecided.{UnsureUnlessYes, PastsUndecided, RescuesUndecided}
use Rattle.tg_law_claims.proofs.Answers.Along.{nones_last, aheads_last, fates_last, pasts_last, rescues_forgotten_last, rescues_wide_last, some_tail}
use Rattle.tg_law_claims.proofs.Answers.Lacking.{unsure_there, no_yes_there as unsure_unless_yes}
use Rattle.tg_law_claims.proofs.Answers.Refused.{refusals_true}
use Rattle.tg_law_claims.proofs.Answers.Refusing.{causes_refuse_here}
use Rattle.tg_law_claims.proofs.Answers.Unknown.{pasts_undecided_there, rescues_undecided_there}
use Rattle.tg_law_claims.proofs.Answers.Unsaved.{unsaved_there as unsaved_last}
use Rattle.tg_law_walks.proofs.Checkpoints.Checkpoints.{entries_own}
use Rattle.tg_law_syncs.proofs.Follow.Saves.{saves_precede}
use Rattle.tg_law_headline.proofs.AllKinds.Touching.{kinds_touch_parts}

pub causes_refuse : EachStep all_kinds (CausesRefuse all_kinds)
causes_refuse h ms w e r lawful few = causes_refuse_here all_kinds h ms w e r (directories_true h ms w r)

-- the run goes on with a step
module _ (m : Meaning) (h : Header) (ms : Moves m) (w : World m) (e : EventOf m) (r : Reaches m h ms w) (lawful : LawfulEvent m h e) (few : w.steps < most_steps) where
  cluster : w.cluster ≡ h
  cluster = ap (λ (u : World m). u.cluster) r.goes.is ∙ has_header m h ms

  lawful_move : (x : Move m) → Has (Takes e ∷ []) x → LawfulMove m w.cluster x
  lawful_move x (inl is) = subst (LawfulMove m w.cluster) (sym is) (subst (λ (g : Header). LawfulEvent m g e) (sym cluster) lawful)
  lawful_move x (inr i) = absurd i

  on : Later m w (happens m w e)
  unfolding run
  on = (Takes e ∷ [], record { lawful = λ x i. lawful_move x (has_contained (Takes e ∷ []) x i); is = refl; few = let s = happens_steps m w e in omega (arith, s, few) })

  reached : Reaches m h (ms ++ Takes e ∷ []) (after m h (ms ++ Takes e ∷ []))
  unfolding on
  reached = let z = reaches_later m h ms w (happens m w e) r on in subst (Reaches m h (ms ++ Takes e ∷ [])) z.goes.is z

pub nones_there : EachStep all_kinds (NonesThere all_kinds)
nones_there h ms w e r lawful few =
    let z = reached all_kinds h ms w e r lawful few in
    let t = store_trims_are_spare h (ms ++ Takes e ∷ []) (after all_kinds h (ms ++ Takes e ∷ [])) z (steps_hold h (ms ++ Takes e ∷ []) (after all_kinds h (ms ++ Takes e ∷ [])) z) in
    subst (λ (u : World all_kinds). NonesThere all_kinds u e) (sym r.goes.is) (nones_last all_kinds h ms e z t.were)

pub nones_true : EachStep all_kinds (NonesTrue all_kinds)
nones_true h ms w e r lawful few = some_tail all_kinds w e (nones_there h ms w e r lawful few)

pub unsure_true : EachStep all_kinds (UnsureTrue all_kinds)
unsure_true h ms w e r lawful few =
    let z = reached all_kinds h ms w e r lawful few in
    let t = store_trims_are_spare h (ms ++ Takes e ∷ []) (after all_kinds h (ms ++ Takes e ∷ [])) z (steps_hold h (ms ++ Takes e ∷ []) (after all_kinds h (ms ++ Takes e ∷ [])) z) in
    subst (λ (u : World all_kinds). UnsureTrue all_kinds u e) (sym r.goes.is)
    (unsure_there all_kinds h ms e (subst (Reaches all_kinds h ms) r.goes.is r) z t.were (ends h (ms ++ Takes e ∷ []) (after all_kinds h (ms ++ Takes e ∷ [])) z)
    (subst (λ (u : World all_kinds). UnsureUnlessLacking all_kinds u e) r.goes.is (unsure_unless_lacking h ms w e r lawful few)))

pub no_yes_there : EachStep all_kinds (UnsureUnlessYes all_kinds)
no_yes_there h ms w e r lawful few =
    let z = reached all_kinds h ms w e r lawful few in
    let t = store_trims_are_spare h (ms ++ Takes e ∷ []) (after all_kinds h (ms ++ Takes e ∷ [])) z (steps_hold h (ms ++ Takes e ∷ []) (after all_kinds h (ms ++ Takes e ∷ [])) z) in
    subst (λ (u : World all_kinds). UnsureUnlessYes all_kinds u e) (sym r.goes.is)
    (unsure_unless_yes all_kinds h ms e (subst (Reaches all_kinds h ms) r.goes.is r) z t.were (ends h (ms ++ Takes e ∷ []) (after all_kinds h (ms ++ Takes e ∷ [])) z))

pub aheads_there : EachStep all_kinds (AheadsThere all_kinds)
aheads_there h ms w e r lawful few =
    let z = reached all_kinds h ms w e r lawful few in
    let t = store_trims_are_spare h (ms ++ Takes e ∷ []) (after all_kinds h (ms ++ Takes e ∷ [])) z (steps_hold h (ms ++ Takes e ∷ []) (after all_kinds h (ms ++ Takes e ∷ [])) z) in
    subst (λ (u : World all_kinds). AheadsThere all_kinds u e) (sym r.goes.is) (aheads_last all_kinds h ms e z t.were)

pub fates_forgotten : EachStep all_kinds (FatesForgotten all_kinds)
fates_forgotten h ms w e r lawful few =
    let z = reached all_kinds h ms w e r lawful few in
    let t = store_trims_are_spare h (ms ++ Takes e ∷ []) (after all_kinds h (ms ++ Takes e ∷ [])) z (steps_hold h (ms ++ Takes e ∷ []) (after all_kinds h (ms ++ Takes e ∷ [])) z) in
    subst (λ (u : World all_kinds). FatesForgotten all_kinds u e) (sym r.goes.is) (fates_last all_kinds h ms e z t.were)

pub pasts_forgotten : EachStep all_kinds (PastsForgotten all_kinds)
pasts_forgotten h ms w e r lawful few =
    let z = reached all_kinds h ms w e r lawful few in
    let t = store_trims_are_spare h (ms ++ Takes e ∷ []) (after all_kinds h (ms ++ Takes e ∷ [])) z (steps_hold h (ms ++ Takes e ∷ []) (after all_kinds h (ms ++ Takes e ∷ [])) z) in
    let p = saves_precede all_kinds h (ms ++ Takes e ∷ []) (after all_kinds h (ms ++ Takes e ∷ [])) z t.were (entries_own all_kinds kinds_touch_parts h (ms ++ Takes e ∷ []) (after all_kinds h (ms ++ Takes e ∷ [])) z) in
    subst (λ (u : World all_kinds). PastsForgotten all_kinds u e) (sym r.goes.is)
    (pasts_last all_kinds h ms e z t.were p (subst (λ (u : World all_kinds). RefusalsTrue all_kinds u e) r.goes.is (refusals_true h ms w e r lawful few)))

pub pasts_undecided : EachStep all_kinds (PastsUndecided all_kinds)
pasts_undecided h ms w e r lawful few =
    let z = reached all_kinds h ms w e r lawful few in
    let t = store_trims_are_spare h (ms ++ Takes e ∷ []) (after all_kinds h (ms ++ Takes e ∷ [])) z (steps_hold h (ms ++ Takes e ∷ []) (after all_kinds h (ms ++ Takes e ∷ [])) z) in
    subst (λ (u : World all_kinds). PastsUndecided all_kinds u e) (sym r.goes.is)
    (pasts_undecided_there all_kinds h ms e z t.were (subst (λ (u : World all_kinds). UndecidedTrue all_kinds u e) r.goes.is (undecided_true h ms w e r lawful few)))

pub rescues_undecided : EachStep all_kinds (RescuesUndecided all_kinds)
rescues_undecided h ms w e r lawful few =
    let z = reached all_kinds h ms w e r lawful few in
    let t = store_trims_are_spare h (ms ++ Takes e ∷ []) (after all_kinds h (ms ++ Takes e ∷ [])) z (steps_hold h (ms ++ Takes e ∷ []) (after all_kinds h (ms ++ Takes e ∷ [])) z) in
    subst (λ (u : World all_kinds). RescuesUndecided all_kinds u e) (sym r.goes.is)
    (rescues_undecided_there all_kinds h ms e z t.were (subst (λ (u : World all_kinds). UndecidedTrue all_kinds u e) r.goes.is (undecided_true h ms w e r lawful few)))

pub rescues_forgotten : EachStep all_kinds (RescuesForgotten all_kinds)
rescues_forgotten h ms w e r lawful few =
    let z = reached all_kinds h ms w e r lawful few in
    let t = store_trims_are_spare h (ms ++ Takes e ∷ []) (after all_kinds h (ms ++ Takes e ∷ [])) z (steps_hold h (ms ++ Takes e ∷ []) (after all_kinds h (ms ++ Takes e ∷ [])) z) in
    subst (λ (u : World all_kinds). RescuesForgotten all_kinds u e) (sym r.goes.is)
    (rescues_forgotten_last all_kinds h ms e z t.were (subst (λ (u : World all_kinds). RefusalsTrue all_kinds u e) r.goes.is (refusals_true h ms w e r lawful few)))

pub rescues_too_wide : EachStep all_kinds (RescuesTooWide all_kinds)
rescues_too_wide h ms w e r lawful few =
    let z = reached all_kinds h ms w e r lawful few in
    let t = store_trims_are_spare h (ms ++ Takes e ∷ []) (after all_kinds h (ms ++ Takes e ∷ [])) z (steps_hold h (ms ++ Takes e ∷ []) (after all_kinds h (ms ++ Takes e ∷ [])) z) in
    subst (λ (u : World all_kinds). RescuesTooWide all_kinds u e) (sym r.goes.is) (rescues_wide_last all_kinds h ms e z t.were)

pub unsaved_there : EachStep all_kinds (UnsavedThere all_kinds)
unsaved_there h ms w e r lawful few =
    let z = reached all_kinds h ms w e r lawful few in
    let t = store_trims_are_spare h (ms ++ Takes e ∷ []) (after all_kinds h (ms ++ Takes e ∷ [])) z (steps_hold h (ms ++ Takes e ∷ []) (after all_kinds h (ms ++ Takes e ∷ [])) z) in
    let p = saves_precede all_kinds h (ms ++ Takes e ∷ []) (after all_kinds h (ms ++ Takes e ∷ [])) z t.were (entries_own all_kinds kinds_touch_parts h (ms ++ Takes e ∷ []) (after all_kinds h (ms ++ Takes e ∷ [])) z) in
    subst (λ (u : World all_kinds). UnsavedThere all_kinds u e) (sym r.goes.is) (unsaved_last all_kinds h ms e (subst (Reaches all_kinds h ms) r.goes.is r) z t.were p)
