-- The steps of a run of the store, one after the other: each rests on those before it.
use Rattle.std.proofs.Common.{◌≡◌, ℕ, zero, suc, ◌≤◌, [], ◌∷◌, ◌++◌, length, refl, sym, ap, ◌∙◌, subst, arith, Some}
use Rattle.tg_base.specs.Clusters.{Header}
use Rattle.tg_model.specs.declared.command.Command.TheVariants as cmd
use Rattle.tg_model.specs.Kinds.{CommandOf, EventOf}
use Rattle.tg_protocol.specs.Clients.{Client, Work}
use Rattle.tg_protocol.specs.Runs.{Moves, Takes, Reaches}
use Rattle.tg_protocol.specs.Walked.{Walked, walked_in}
use Rattle.tg_protocol.specs.Worlds.{World}
use Rattle.tg_dir.specs.Spellings.{is_number}
use Rattle.tg_any.specs.Anys.{is_op}
use Rattle.tg_any.specs.AllKinds.{all_kinds}
use Rattle.tg_law_layouts.specs.Moves.After.{after}
use Rattle.tg_law_cells.proofs.Entries.Lists.{joined}
use Rattle.tg_law_replies.specs.History.Worlds.{entries_in}
use Rattle.tg_law_replies.specs.Replies.Ended.{AppendsEnd}
use Rattle.tg_law_replies.specs.Replies.Laws.{ClientsFind}
use Rattle.tg_law_replies.specs.Replies.Runs.{InEachStep}
use Rattle.tg_law_replies.specs.Replies.Steps.{EachEvent}
use Rattle.tg_law_walks.specs.Lists.Spared.{TrimsWereSpare}
use Rattle.tg_law_walks.proofs.Lists.Reached.{before_reached}
use Rattle.tg_law_syncs.specs.Finds.Left.{PassesOwn}
use Rattle.tg_law_syncs.specs.Exact.Finds.{LeavesFor, ViewsLeaveNone}
use Rattle.tg_law_syncs.proofs.Exact.Fits.{finds, views_fit}
use Rattle.tg_law_syncs.proofs.Follow.Saves.{saves_precede}
use Rattle.tg_law_walks.proofs.Checkpoints.Checkpoints.{entries_own, appends_end}
use Rattle.tg_law_headline.specs.Leaves.Passed.{MetDecided}
use Rattle.tg_law_headline.proofs.Leaves.Ends.{event_ends}
use Rattle.tg_law_headline.proofs.Leaves.Leaving.{views_leave_none}
use Rattle.tg_law_headline.proofs.Leaves.Resting.{trims_rest}
use Rattle.tg_law_headline.specs.Trims.Spare.{WereSpare}
use Rattle.tg_law_headline.specs.Trims.Floors.{FloorsRest, HasTail, SeesDirectory, StepRests}
use Rattle.tg_law_headline.proofs.Trims.Floors.{trims_are_spare_by_sight}
use Rattle.tg_law_headline.proofs.Floors.Swept.{tails_are_whole}
use Rattle.tg_law_headline.proofs.Floors.Tails.{walks_have_tails, trims_confirm_tails}
use Rattle.tg_law_headline.proofs.Registered.Roots.{tokens_follow_registrations}
use Rattle.tg_law_headline.proofs.AllKinds.Holds.{kinds_have_directory}
use Rattle.tg_law_headline.proofs.AllKinds.Touching.{kinds_touch_parts}
use Rattle.tg_law_headline.specs.Store.Steps.{StepHolds, StepsHold}
use Rattle.tg_law_headline.proofs.Store.Found.{each_so_far}
use Rattle.tg_law_headline.proofs.Store.States.{store_reads_ops, store_has_states}
use Rattle.tg_law_headline.proofs.Store.Steps.{store_steps_rest, views_here}
use Rattle.tg_law_headline.specs.Trimming.Decided.{MetSettled}
use Rattle.tg_law_headline.proofs.Trimming.Decided.{met_decided_where}
use Rattle.tg_law_headline.specs.Joint.Joint.{JointRests, EachOwns, StepsHoldWhere}
use Rattle.tg_law_replies.proofs.Replies.Reached.{at_end}
use Rattle.tg_law_headline.proofs.Joint.Linking.{one_end}
use Rattle.tg_law_headline.proofs.Joint.Resting.{marks_rest_where}
use Rattle.tg_law_headline.proofs.Joint.Told.{longer}
use Rattle.tg_law_headline.proofs.Joint.Trimmed.{met_settled_where}

owns : EachOwns all_kinds
owns h ms w r = entries_own all_kinds kinds_touch_parts h ms w r

module _ (rests : JointRests all_kinds is_number) (h : Header) (zs : Moves all_kinds) (r : Reaches all_kinds h zs (after all_kinds h zs)) (holds : StepsHold h zs) (spare : WereSpare all_kinds h zs) where
  abbrev u : World all_kinds
  u = after all_kinds h zs

  views_before : ViewsLeaveNone all_kinds h zs (after all_kinds h zs)
  views_before = views_here h zs r holds spare.were

  all_own : PassesOwn all_kinds h zs (after all_kinds h zs)
  all_own before rest split = owns h before (after all_kinds h before) (before_reached all_kinds h zs r before rest split)

  found : ClientsFind all_kinds h zs (after all_kinds h zs)
  found =
      finds all_kinds h zs (after all_kinds h zs) r spare.were all_own (saves_precede all_kinds h zs (after all_kinds h zs) r spare.were (owns h zs (after all_kinds h zs) r))
      (views_fit all_kinds h zs (after all_kinds h zs) (store_has_states h zs (after all_kinds h zs) r spare.were.safe) views_before)

  ends : AppendsEnd all_kinds h zs (after all_kinds h zs)
  ends = appends_end all_kinds kinds_touch_parts h zs (after all_kinds h zs) r spare.were.safe

  floors : FloorsRest all_kinds is_number h.objects (after all_kinds h zs)
  floors = record {
    tails = tails_are_whole all_kinds h zs (after all_kinds h zs) r spare.were;
    tokens = tokens_follow_registrations all_kinds is_number is_op kinds_have_directory h zs (after all_kinds h zs) r spare.were found ends;
    marks = λ pos e x o mark object here commits writes to is. marks_rest_where all_kinds is_number rests owns h zs (after all_kinds h zs) r spare.were pos e x o mark object here writes to is;
  }

  -- The step after it, of which the moves on that it takes are reached.
  module _ (e : EventOf all_kinds) (on : Reaches all_kinds h (zs ++ Takes e ∷ []) (after all_kinds h (zs ++ Takes e ∷ []))) where
    abbrev ms : Moves all_kinds
    ms = zs ++ Takes e ∷ []

    abbrev w : World all_kinds
    w = after all_kinds h (zs ++ Takes e ∷ [])

    abbrev Leaves : Client all_kinds → Work all_kinds → Type 0
    Leaves c x = LeavesFor all_kinds c x x.command

    tails : EachEvent all_kinds h.objects (entries_in all_kinds (after all_kinds h zs)) (HasTail all_kinds (after all_kinds h zs)) (after all_kinds h zs) e
    tails = walks_have_tails all_kinds h zs (after all_kinds h zs) e r spare

    -- A step that ends the walks of another command tells no floor; so trims are spare after it too.
    module _ (k : ℕ) (y : Walked all_kinds) (is : walked_in all_kinds (after all_kinds h zs) e k ≡ Some y) (other : y.work.command ≡ cmd.Trim → ⊥) where
      sees : EachEvent all_kinds h.objects (entries_in all_kinds (after all_kinds h zs)) (SeesDirectory all_kinds h.objects (after all_kinds h zs)) (after all_kinds h zs) e
      sees =
          event_ends all_kinds h.objects (entries_in all_kinds (after all_kinds h zs)) (HasTail all_kinds (after all_kinds h zs)) (SeesDirectory all_kinds h.objects (after all_kinds h zs)) (after all_kinds h zs) e
          (λ n z at has. λ t command came. absurd (other (ap (λ (x : Walked all_kinds). x.work.command) (one_end all_kinds (after all_kinds h zs) e k n y z is at) ∙ command))) tails

      steps : InEachStep all_kinds h (zs ++ Takes e ∷ []) (λ b v x. WereSpare all_kinds h b → StepRests all_kinds is_number is_op h.objects v x)
      steps =
          each_so_far all_kinds h zs e (λ b v x. WereSpare all_kinds h b → StepRests all_kinds is_number is_op h.objects v x) (store_steps_rest h zs (after all_kinds h zs) r holds)
          (λ were. record { ops = store_reads_ops h zs (after all_kinds h zs) r spare.were.safe; rest = floors; tails = trims_confirm_tails all_kinds h zs (after all_kinds h zs) e r spare; sees = sees })

      trims : TrimsWereSpare all_kinds h (zs ++ Takes e ∷ [])
      trims = (trims_are_spare_by_sight all_kinds is_number is_op kinds_have_directory h ms w on steps).were

      settled : MetSettled all_kinds h (zs ++ Takes e ∷ []) (after all_kinds h (zs ++ Takes e ∷ []))
      settled = met_settled_where all_kinds is_number is_op kinds_have_directory rests owns h ms w on trims steps

      decided : MetDecided all_kinds h (zs ++ Takes e ∷ []) (after all_kinds h (zs ++ Takes e ∷ []))
      decided = met_decided_where all_kinds h ms w on settled

      leaves : ViewsLeaveNone all_kinds h (zs ++ Takes e ∷ []) (after all_kinds h (zs ++ Takes e ∷ []))
      leaves = views_leave_none all_kinds h ms w on trims (trims_rest all_kinds h ms w on trims decided)

      here : Leaves y.client y.work
      here = at_end all_kinds h.objects (entries_in all_kinds (after all_kinds h (zs ++ Takes e ∷ []))) Leaves (after all_kinds h zs) k e y (leaves zs [] e refl) is

    -- of the commands that tell fates alone something is left
    left : (k : ℕ) (y : Walked all_kinds) → walked_in all_kinds (after all_kinds h zs) e k ≡ Some y → (x : CommandOf all_kinds) → y.work.command ≡ x → LeavesFor all_kinds y.client y.work x
    left k y is (cmd.Fate p) c = subst (LeavesFor all_kinds y.client y.work) c (here k y is (λ t. no_trim (sym c ∙ t)))
      where
        no_trim : ◌≡◌ {A = CommandOf all_kinds} (cmd.Fate p) cmd.Trim → ⊥
        no_trim z = cc
    left k y is (cmd.Decide p) c = subst (LeavesFor all_kinds y.client y.work) c (here k y is (λ t. no_trim (sym c ∙ t)))
      where
        no_trim : ◌≡◌ {A = CommandOf all_kinds} (cmd.Decide p) cmd.Trim → ⊥
        no_trim z = cc
    left k y is x c = tt

    step_holds : StepHolds h (after all_kinds h zs) e
    step_holds = record {
      floors = floors;
      views = event_ends all_kinds h.objects (entries_in all_kinds (after all_kinds h zs)) (HasTail all_kinds (after all_kinds h zs)) Leaves (after all_kinds h zs) e (λ k y is has. left k y is y.work.command refl) tails;
    }

module _ (rests : JointRests all_kinds is_number) (h : Header) where
  holds_all : (n : ℕ) (ms : Moves all_kinds) → length ms ≤ n → Reaches all_kinds h ms (after all_kinds h ms) → StepsHold h ms
  holds_all zero ms short r b a e split spare = let k = longer b (Takes e) a ms split in absurd (omega (arith, k, short))
  holds_all (suc n) ms short r b a e split spare =
      let k = longer b (Takes e) a ms split in
      let rb = before_reached all_kinds h ms r b (Takes e ∷ a) split in
      step_holds rests h b rb (holds_all n b (omega (arith, k, short)) rb) spare e
      (before_reached all_kinds h ms r (b ++ Takes e ∷ []) a (split ∙ sym (joined b (Takes e ∷ []) a)))

pub steps_hold_where : StepsHoldWhere
steps_hold_where rests h ms w r = holds_all rests h (length ms) ms (omega arith) (subst (λ (v : World all_kinds). Reaches all_kinds h ms v) r.goes.is r)
