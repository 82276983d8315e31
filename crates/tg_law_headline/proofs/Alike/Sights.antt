-- Where the walks of a run's steps end: a client that trims sees the floor that the log has to which the run comes.
use Rattle.std.proofs.Common.{◌≡◌, ℕ, [], ◌∷◌, ◌++◌, ap, subst, Option, Some}
use Rattle.tg_base.specs.Clusters.{Header}
use Rattle.tg_kind.specs.Meaning.{Meaning}
use Rattle.tg_model.specs.Kinds.{EventOf}
use Rattle.tg_protocol.specs.Views.{View}
use Rattle.tg_protocol.specs.Answers.{floor_of}
use Rattle.tg_protocol.specs.ClientSteps.{task_in}
use Rattle.tg_protocol.specs.Worlds.{World, start, client}
use Rattle.tg_protocol.specs.Runs.{Moves, Takes, Reaches}
use Rattle.tg_law_layouts.specs.Moves.After.{after}
use Rattle.tg_law_replies.specs.History.Logs.{AreListed}
use Rattle.tg_law_replies.specs.History.Worlds.{entries_in}
use Rattle.tg_law_replies.specs.Replies.Ended.{AppendsEnd}
use Rattle.tg_law_replies.specs.Replies.Laws.{ClientsFind}
use Rattle.tg_law_replies.specs.Replies.Runs.{InEachStep}
use Rattle.tg_law_replies.specs.Replies.Steps.{EachEvent}
use Rattle.tg_law_replies.specs.Views.Exact.{AreWriting}
use Rattle.tg_law_replies.specs.Views.Views.{IsTrueView}
use Rattle.tg_law_replies.proofs.History.Cells.{logs_rise}
use Rattle.tg_law_replies.proofs.Pages.Read.{logs_keep_grammar}
use Rattle.tg_law_replies.proofs.Replies.Along.{Along, moved_by, passed, at_end}
use Rattle.tg_law_replies.proofs.Replies.Carried.{carried_more, event_more}
use Rattle.tg_law_replies.proofs.Replies.Found.{each_ready}
use Rattle.tg_law_replies.proofs.Replies.Ready.{Ready}
use Rattle.tg_law_replies.proofs.Replies.Telling.{RightAndKept, of_right, found_kept}
use Rattle.tg_law_headline.specs.Trims.Floors.{SeesDirectory, floor_at}
use Rattle.tg_law_headline.proofs.Trims.Sights.{stays_true, walks_true, ready_sees}
use Rattle.tg_law_headline.proofs.Alike.Since.{SeesFloor}

front : (m : Meaning) (Q : World m → Type 0) (xs ys : Moves m) (w : World m) → Along m Q (xs ++ ys) w → Along m Q xs w
front m Q [] [] w h = h
front m Q [] (y ∷ ys) w h = h.0
front m Q (x ∷ xs) ys w h = (h.0, front m Q xs ys (moved_by m x w) h.1)

module _ (m : Meaning) (h : Header) (ms : Moves m) (r : Reaches m h ms (after m h ms)) (finds : ClientsFind m h ms (after m h ms)) (ends : AppendsEnd m h ms (after m h ms)) where
  abbrev end : World m
  end = after m h ms

  -- the floor of the directory below a position
  abbrev pub FloorIs : ℕ → ℕ → Type 0
  FloorIs tail n = n ≡ floor_at m h.objects end tail

  listed : AreListed (entries_in m (after m h ms))
  listed = (logs_keep_grammar m (after m h ms)).0

  writing : AreWriting (entries_in m (after m h ms))
  writing = (logs_keep_grammar m (after m h ms)).1

  all_right : Along m (RightAndKept m h (entries_in m (after m h ms)) (logs_rise m (after m h ms)) listed) ms (start m h)
  all_right = found_kept m h ms (after m h ms) listed writing r finds ends

  pub objects_are : end.cluster.objects ≡ h.objects
  objects_are = (at_end m (RightAndKept m h (entries_in m (after m h ms)) (logs_rise m (after m h ms)) listed) ms (start m h) all_right).0.objects_are

  module _ (before later : Moves m) (e : EventOf m) (split : ms ≡ before ++ Takes e ∷ later) where
    here : Along m (RightAndKept m h (entries_in m (after m h ms)) (logs_rise m (after m h ms)) listed) (before ++ Takes e ∷ later) (start m h)
    here = subst (λ (xs : Moves m). Along m (RightAndKept m h (entries_in m (after m h ms)) (logs_rise m (after m h ms)) listed) xs (start m h)) split all_right

    sofar : Along m (RightAndKept m h (entries_in m (after m h ms)) (logs_rise m (after m h ms)) listed) before (start m h)
    sofar = front m (RightAndKept m h (entries_in m (after m h ms)) (logs_rise m (after m h ms)) listed) before (Takes e ∷ later) (start m h) here

    now : RightAndKept m h (entries_in m (after m h ms)) (logs_rise m (after m h ms)) listed (after m h before)
    now = passed m (RightAndKept m h (entries_in m (after m h ms)) (logs_rise m (after m h ms)) listed) before (Takes e ∷ later) (start m h) here

    ready : EachEvent m h.objects (entries_in m (after m h ms)) (Ready m h.objects (entries_in m (after m h ms))) (after m h before) e
    ready =
        each_ready m h (entries_in m (after m h ms)) (logs_rise m (after m h ms)) listed writing ms finds before later e split
        (of_right m h (entries_in m (after m h ms)) (logs_rise m (after m h ms)) listed before (start m h) sofar) now.2

    sight : EachEvent m h.objects (entries_in m (after m h ms)) (SeesDirectory m h.objects (after m h ms)) (after m h before) e
    sight =
        carried_more m h.objects (entries_in m (after m h ms)) (Ready m h.objects (entries_in m (after m h ms))) (Ready m h.objects (entries_in m (after m h ms))) (SeesDirectory m h.objects (after m h ms))
        (λ c v. (k : View m) → c.view ≡ Some k → IsTrueView m h.objects (entries_in m (after m h ms)) k) (stays_true m h.objects (after m h ms) listed)
        (λ c v i g f. ready_sees m h.objects (after m h ms) listed c v i g) (after m h before) e
        (λ k v is. walks_true m h.objects (after m h ms) listed (client m (after m h before) k) v (task_in m v.hand) (λ x has. ((now.0.clients k).view x has).so)) ready ready

  pub floors_seen : InEachStep m h ms (λ before u e. EachEvent m h.objects (entries_in m (after m h ms)) (SeesFloor m FloorIs) u e)
  floors_seen before later e split =
      event_more m h.objects (entries_in m (after m h ms)) (SeesDirectory m h.objects (after m h ms)) (SeesFloor m FloorIs) (λ c v f t is came. ap (λ (s : Option m.state). floor_of m s) (f t is came)) (after m h before) e (sight before later e split)
