-- Where each reply of a run was given.
use Rattle.std.proofs.Common.{◌≡◌, ◌⊎◌, ℕ, [], ◌∷◌, ◌++◌, map, refl, sym, ap, ◌∙◌, subst, inl, inr, Some}
use Rattle.tg_base.specs.Clusters.{Header}
use Rattle.tg_kind.specs.Meaning.{Meaning}
use Rattle.tg_model.specs.declared.command.Event.TheVariants.{Command as Commands}
use Rattle.tg_model.specs.Kinds.{CommandOf, EventOf, MarkOf, NoteOf, WhatOf}
use Rattle.tg_model.specs.Traces.{Trace}
use Rattle.tg_protocol.specs.Answers.{Moved}
use Rattle.tg_protocol.specs.ClientSteps.{called}
use Rattle.tg_protocol.specs.Worlds.{World, start, client, happens, trace}
use Rattle.tg_protocol.specs.Runs.{Moves, Next, Takes, run}
use Rattle.tg_law_replies.proofs.History.Members.{Has, has_image, has_either}
use Rattle.tg_law_replies.proofs.Replies.Books.{mark}
use Rattle.tg_law_replies.proofs.Books.Commands.{Turned, taken_by, ended_by}
use Rattle.tg_law_replies.proofs.Books.Worlds.{nil_right, regroup, EndsIn, Stepped, Rests, Turns, step, run_book, start_book, run_both}

module _ (m : Meaning) (h : Header) where
  abbrev at : Moves m → World m
  at xs = run m xs (start m h)

  -- a client told this in a step of these moves
  pub record ToldIn (xs : Moves m) (k x : ℕ) (what : WhatOf m) : Type 0 where
    pub before : Moves m
    pub after : Moves m
    pub event : EventOf m
    pub split : xs ≡ before ++ Takes event ∷ after
    pub moved : Moved m
    pub turn : Turned m (client m (at before) k) moved
    pub from : (x : CommandOf m) → taken_by m (client m (at before) k) moved turn ≡ Some x → event ≡ Commands k x
    pub ends : EndsIn m k event (at before) (ended_by m (client m (at before) k) moved turn)
    pub now : client m (happens m (at before) event) k ≡ called m moved.now
    pub traced : trace m (happens m (at before) event) ≡ trace m (at before) ++ map (mark m (at before).event k) moved.notes
    pub note : NoteOf m
    pub here : Has moved.notes note
    pub number : note.tx ≡ x
    pub says : note.what ≡ what

  abbrev pub AllTold : Moves m → Type 0
  AllTold xs = (u : MarkOf m) → Has (trace m (at xs)) u → ToldIn xs u.client u.tx u.what

  longer : (xs ys : Moves m) (k x : ℕ) (what : WhatOf m) → ToldIn xs k x what → ToldIn (xs ++ ys) k x what
  longer xs ys k x what t = record {
    before = t.before;
    after = t.after ++ ys;
    event = t.event;
    split = ap (λ (zs : Moves m). zs ++ ys) t.split ∙ regroup t.before (Takes t.event ∷ t.after) ys;
    moved = t.moved;
    turn = t.turn;
    from = t.from;
    ends = t.ends;
    now = t.now;
    traced = t.traced;
    note = t.note;
    here = t.here;
    number = t.number;
    says = t.says;
  }

  next_told : (done : Moves m) → AllTold done → AllTold (done ++ Next ∷ [])
  unfolding run
  next_told done all u i = longer done (Next ∷ []) u.client u.tx u.what (all u (subst (λ (v : World m). Has (trace m v) u) (run_both m done (Next ∷ []) (start m h)) i))

  event_told : (done : Moves m) (e : EventOf m) → AllTold done → AllTold (done ++ Takes e ∷ [])
  unfolding run
  event_told done e all u i = by (step m (at done) e (run_book m done (start m h) (start_book m h)) u.client)
    where
      now : Has (trace m (happens m (at done) e)) u
      now = subst (λ (v : World m). Has (trace m v) u) (run_both m done (Takes e ∷ []) (start m h)) i

      old : Has (trace m (at done)) u → ToldIn (done ++ Takes e ∷ []) u.client u.tx u.what
      old j = longer done (Takes e ∷ []) u.client u.tx u.what (all u j)

      by : Stepped m u.client e (at done) (happens m (at done) e) → ToldIn (done ++ Takes e ∷ []) u.client u.tx u.what
      by (Rests c ys t alone) = either (has_either (trace m (at done)) ys u (subst (λ (tr : Trace m). Has tr u) t now))
        where
          either : Has (trace m (at done)) u ⊎ Has ys u → ToldIn (done ++ Takes e ∷ []) u.client u.tx u.what
          either (inl j) = old j
          either (inr j) = absurd (alone u j refl)
      by (Turns r t from ends c x) = either (has_either (trace m (at done)) (map (mark m (at done).event u.client) r.notes) u (subst (λ (tr : Trace m). Has tr u) x now))
        where
          either : Has (trace m (at done)) u ⊎ Has (map (mark m (at done).event u.client) r.notes) u → ToldIn (done ++ Takes e ∷ []) u.client u.tx u.what
          either (inl j) = old j
          either (inr j) =
              let k = has_image (mark m (at done).event u.client) r.notes u j in
              record {
                before = done;
                after = [];
                event = e;
                split = refl;
                moved = r;
                turn = t;
                from = from;
                ends = ends;
                now = c;
                traced = x;
                note = k.0;
                here = k.1;
                number = sym (ap (λ (y : MarkOf m). y.tx) k.2);
                says = sym (ap (λ (y : MarkOf m). y.what) k.2);
              }

  told_on : (ms done : Moves m) → AllTold done → AllTold (done ++ ms)
  told_on [] done all = subst AllTold (sym (nil_right done)) all
  told_on (Next ∷ ms) done all = subst AllTold (regroup done (Next ∷ []) ms) (told_on ms (done ++ Next ∷ []) (next_told done all))
  told_on (Takes e ∷ ms) done all = subst AllTold (regroup done (Takes e ∷ []) ms) (told_on ms (done ++ Takes e ∷ []) (event_told done e all))

  none_told : AllTold []
  unfolding run start
  none_told u i = absurd i

  -- each reply was given in a step of the run
  pub all_told : (ms : Moves m) → AllTold ms
  all_told ms = told_on ms [] none_told
