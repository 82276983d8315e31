-- What replies tell of a record, or of a checkpoint, stands in the log.
use Rattle.std.proofs.Common.{◌≡◌, ◌⊎◌, ℕ, ◌<◌, List, [], ◌∷◌, ◌++◌, map, refl, sym, ap, ◌∙◌, subst, inl, inr, Option, Some, None}
use Rattle.tg_base.specs.Clusters.{Header}
use Rattle.tg_base.specs.declared.ids.NodeId.{NodeId}
use Rattle.tg_base.specs.declared.ids.Oid.{Oid}
use Rattle.tg_entry.specs.Records.{linked}
use Rattle.tg_kind.specs.Meaning.{Meaning}
use Rattle.tg_model.specs.declared.trace.What.TheVariants as told
use Rattle.tg_model.specs.Kinds.{EventOf, MarkOf, NoteOf, WhatOf}
use Rattle.tg_model.specs.Traces.{Trace, Tells, puts_of}
use Rattle.tg_protocol.specs.Words.{numbers}
use Rattle.tg_protocol.specs.Replies.{Reply, reply}
use Rattle.tg_protocol.specs.Appending.{Append, At}
use Rattle.tg_protocol.specs.Transactions.{Tx}
use Rattle.tg_protocol.specs.Clients.{Work, Client, new_client, tx_number, upto}
use Rattle.tg_protocol.specs.ClientSteps.{ClientTurn, task_in, client_command, client_deliver, client_tick, tick_by}
use Rattle.tg_protocol.specs.Worlds.{World, Told, start, client, happens, trace}
use Rattle.tg_protocol.specs.Runs.{Moves, Next, Takes, Reaches, run}
use Rattle.tg_protocol.specs.Alike.{HasRecord}
use Rattle.tg_protocol.specs.Holding.{append_of, append_by, HasItsRecord, RepliesHaveRecords}
use Rattle.tg_law_layouts.proofs.Moves.Lists.{at_map}
use Rattle.tg_law_replies.specs.History.Worlds.{entries_in}
use Rattle.tg_law_replies.proofs.History.Members.{Has, has_contained, contained_has, has_image, has_either}
use Rattle.tg_law_cells.specs.Entries.Archive.{TrimsWereSafe}
use Rattle.tg_law_replies.specs.Replies.Told.{HasRecordOf}
use Rattle.tg_law_replies.specs.Replies.Ended.{AppendsEnd, work_ends, ended_in}
use Rattle.tg_law_replies.proofs.Replies.Books.{mark}
use Rattle.tg_law_replies.specs.Books.Kept.{AsksPrecede}
use Rattle.tg_law_replies.specs.Books.Laws.{RepliesKnown}
use Rattle.tg_law_replies.proofs.Books.Lawful.{records_end}
use Rattle.tg_law_replies.proofs.Books.Told.{all_told}
use Rattle.tg_law_replies.proofs.Books.Turns.{BookOf, DraftOf}
use Rattle.tg_law_replies.proofs.Books.Worlds.{WorldBook, nil_right, regroup, step, run_book, start_book, run_both}
use Rattle.tg_law_walks.proofs.Once.Known.{replies_known}
use Rattle.tg_law_syncs.proofs.Follow.Says.{Other, NotSaved, IsSave, MadeTask, MadeWork, Made, Says, Others, Counts, Saved', AllSay, Open, Ready, feed_good, command_good}
use Rattle.tg_law_syncs.proofs.Follow.Shut.{EndOpen, end_stepped, start_end}
use Rattle.tg_law_syncs.proofs.Follow.Steps.{Turns as Turns', Input, Commanded, Handed, Ticked, Speaks, Silent, Speaks', speaks}
use Rattle.tg_law_syncs.proofs.Follow.Committed.{of_committed}

module _ (m : Meaning) where
  -- a checkpoint's append ends in a step of a world
  pub record SavedNow (w : World m) (e : EventOf m) (k : ℕ) (o : Oid) (p u : ℕ) : Type 0 where
    pub append : Append
    pub page : List ℕ
    pub begun : append_by m (client m w k).work ≡ Some append
    pub ends : ended_in m w e k ≡ Some (At p page)
    pub save : IsSave m (client m w k).num (upto m (client m w k)) append.draft o u

  -- Turns.

  module _ (w : World m) (e : EventOf m) (n : ℕ) (book : BookOf m n (trace m w) (client m w n)) (open' : EndOpen m (client m w n)) (made : Made m (client m w n)) where
    abbrev c : Client m
    c = client m w n

    ready : (from : NodeId) (rid : ℕ) (x : Reply) → ended_in m w e n ≡ work_ends m c c.work from rid x → (v : Work m) → c.work ≡ Some v → Open m (SavedNow w e n) c v × Ready m (SavedNow w e n) c v (task_in m v.hand) (work_ends m c c.work from rid x)
    ready from rid x ends v has = (
      λ i. let t = open' v has i in subst (λ (o : Option Tx). 0 < tx_number m o) (sym t.1) (book.number t.0 t.1).0,
      record {
        suits = book.suits v has;
        marks = λ a k o j is. (subst (DraftOf m n (trace m w) c.tx c.begun) is (book.drafts v has)).positive;
        made = subst (MadeWork m c.num (upto m c)) has made;
        saves = λ a o u p page is end. record {
          append = a;
          page = page;
          begun = ap (append_by m) has ∙ ap (append_of m) is;
          ends = ends ∙ end;
          save = subst (MadeTask m c.num (upto m c) v.command) is (subst (MadeWork m c.num (upto m c)) has made);
        };
      },
    )

    tick_good : (o : Option (Work m)) → c.work ≡ o → AllSay m (SavedNow w e n) (tick_by m c o).notes × Made m (tick_by m c o).now
    tick_good None is = (λ y i. absurd i, made)
    tick_good (Some v) is = (λ y i. absurd i, made)

    turn_good : (t : ClientTurn m) → Input m w e n t → AllSay m (SavedNow w e n) t.notes × Made m t.now
    unfolding client_command client_deliver client_tick
    turn_good t (Commanded x) = let g = command_good m (SavedNow w e n) c x (λ y is. (book.number y is).0) made in (g.says, g.made)
    turn_good t (Handed p ends) = let g = feed_good m (SavedNow w e n) c p.from p.rid (reply p.msg) made (ready p.from p.rid (reply p.msg) ends) in (g.says, g.made)
    turn_good t Ticked = tick_good c.work refl

  -- Along a run.

  module _ (h : Header) where
    abbrev at : Moves m → World m
    at xs = run m xs (start m h)

    -- what a reply is of
    pub data Fact (xs : Moves m) (u : MarkOf m) : Type 0 where
      IsOther : Other m u.what → Fact xs u
      IsOfTx : 0 < u.tx → NotSaved m u.what → Fact xs u
      IsSaved : (before after : Moves m) (e : EventOf m) → xs ≡ before ++ Takes e ∷ after → (o : Oid) (p n : ℕ) → SavedNow (at before) e u.client o p n → u.what ≡ told.Saved o p n → Fact xs u

    pub record State (xs : Moves m) : Type 0 where
      pub facts : (u : MarkOf m) → Has (trace m (at xs)) u → Fact xs u
      pub made : (k : ℕ) → Made m (client m (at xs) k)
      pub ends : (k : ℕ) → EndOpen m (client m (at xs) k)

    longer : (xs ys : Moves m) (u : MarkOf m) → Fact xs u → Fact (xs ++ ys) u
    longer xs ys u (IsOther o) = IsOther o
    longer xs ys u (IsOfTx n s) = IsOfTx n s
    longer xs ys u (IsSaved before after e split o p n now what) = IsSaved before (after ++ ys) e (ap (λ (zs : Moves m). zs ++ ys) split ∙ regroup before (Takes e ∷ after) ys) o p n now what

    next_state : (done : Moves m) → State done → State (done ++ Next ∷ [])
    unfolding run
    next_state done s = record {
      facts = λ u i. longer done (Next ∷ []) u (s.facts u (subst (λ (v : World m). Has (trace m v) u) (run_both m done (Next ∷ []) (start m h)) i));
      made = subst (λ (v : World m). (k : ℕ) → Made m (client m v k)) (sym (run_both m done (Next ∷ []) (start m h))) s.made;
      ends = subst (λ (v : World m). (k : ℕ) → EndOpen m (client m v k)) (sym (run_both m done (Next ∷ []) (start m h))) s.ends;
    }

    module _ (done : Moves m) (e : EventOf m) (s : State done) where
      abbrev w : World m
      w = at done

      abbrev v : World m
      v = happens m w e

      books : WorldBook m w
      books = run_book m done (start m h) (start_book m h)

      old : (u : MarkOf m) → Has (trace m w) u → Fact (done ++ Takes e ∷ []) u
      old u i = longer done (Takes e ∷ []) u (s.facts u i)

      good : (n : ℕ) (t : ClientTurn m) → Input m w e n t → AllSay m (SavedNow w e n) t.notes × Made m t.now
      good n t i = turn_good w e n (books n) (s.ends n) (s.made n) t i

      fact_of : (n : ℕ) (y : NoteOf m) (u : MarkOf m) → u ≡ mark m w.event n y → Says m (SavedNow w e n) y → Fact (done ++ Takes e ∷ []) u
      fact_of n y u is (Others o) = IsOther (subst (Other m) (sym (ap (λ (z : MarkOf m). z.what) is)) o)
      fact_of n y u is (Counts l z) = IsOfTx (subst (λ (i : ℕ). 0 < i) (sym (ap (λ (z : MarkOf m). z.tx) is)) l) (subst (NotSaved m) (sym (ap (λ (z : MarkOf m). z.what) is)) z)
      fact_of n y u is (Saved' o p q now what) = IsSaved done [] e refl o p q (subst (λ (k : ℕ). SavedNow w e k o p q) (sym (ap (λ (z : MarkOf m). z.client) is)) now) (ap (λ (z : MarkOf m). z.what) is ∙ ap (λ (z : NoteOf m). z.what) what)

      facts_now : Speaks m w e v → (u : MarkOf m) → Has (trace m v) u → Fact (done ++ Takes e ∷ []) u
      facts_now (Silent t c) u i = old u (subst (λ (tr : Trace m). Has tr u) t i)
      facts_now (Speaks' n t j x f) u i = by (has_either (trace m w) (map (mark m w.event n) t.notes) u (subst (λ (tr : Trace m). Has tr u) x i))
        where
          by : Has (trace m w) u ⊎ Has (map (mark m w.event n) t.notes) u → Fact (done ++ Takes e ∷ []) u
          by (inl a) = old u a
          by (inr a) = let y = has_image (mark m w.event n) t.notes u a in fact_of n y.0 u y.2 ((good n t j).0 y.0 y.1)

      made_now : Speaks m w e v → (k : ℕ) → Made m (client m v k)
      made_now (Silent t c) k = subst (Made m) (sym (c k)) (s.made k)
      made_now (Speaks' n t j x f) k = by (f k)
        where
          by : Turns' m w v n t k → Made m (client m v k)
          by (inl y) = subst (Made m) (sym y.1) (good n t j).1
          by (inr y) = subst (Made m) (sym y) (s.made k)

      event_state : State (done ++ Takes e ∷ [])
      unfolding run
      event_state = record {
        facts = subst (λ (y : World m). (u : MarkOf m) → Has (trace m y) u → Fact (done ++ Takes e ∷ []) u) (sym (run_both m done (Takes e ∷ []) (start m h))) (facts_now (speaks m w e));
        made = subst (λ (y : World m). (k : ℕ) → Made m (client m y k)) (sym (run_both m done (Takes e ∷ []) (start m h))) (made_now (speaks m w e));
        ends = subst (λ (y : World m). (k : ℕ) → EndOpen m (client m y k)) (sym (run_both m done (Takes e ∷ []) (start m h))) (λ k. end_stepped m k e w v (step m w e books k) (s.ends k));
      }

    state_on : (ms done : Moves m) → State done → State (done ++ ms)
    state_on [] done s = subst State (sym (nil_right done)) s
    state_on (Next ∷ ms) done s = subst State (regroup done (Next ∷ []) ms) (state_on ms (done ++ Next ∷ []) (next_state done s))
    state_on (Takes e ∷ ms) done s = subst State (regroup done (Takes e ∷ []) ms) (state_on ms (done ++ Takes e ∷ []) (event_state done e s))

    new_made : (j : ℕ) → Made m (new_client m h j)
    unfolding new_client
    new_made j = tt

    start_state : State []
    unfolding run start
    start_state = record {
      facts = λ u i. absurd i;
      made = λ k. at_map (new_client m h) (numbers h.clients 0) k (new_client m h k) (λ (x : Client m). Made m x) new_made (new_made k);
      ends = λ k. start_end m h k;
    }

    pub state : (ms : Moves m) → State ms
    state ms = state_on ms [] start_state

  -- The records of replies.

  marked : (ts : List (Told m)) (t : Told m) → Has ts t → Has (map (λ (x : Told m). x.mark) ts) t.mark
  marked [] t i = absurd i
  marked (x ∷ ts) t (inl e) = inl (ap (λ (y : Told m). y.mark) e)
  marked (x ∷ ts) t (inr i) = inr (marked ts t i)

  same_saved : (o o' : Oid) (p p' u u' : ℕ) → ◌≡◌ {A = WhatOf m} (told.Saved o p u) (told.Saved o' p' u') → (o' ≡ o) × (p' ≡ p)
  same_saved o o' p p' u u' e = (cc, cc)

  module _ (h : Header) (ms : Moves m) (ends : AppendsEnd m h ms (run m ms (start m h))) (known : RepliesKnown m (run m ms (start m h))) where
    abbrev end : World m
    end = run m ms (start m h)

    record_of : (p k x : ℕ) → HasRecordOf (entries_in m end) p k x → HasRecord m end p k x
    record_of p k x r = record { record_at = r.entry; here = r.here; commit = r.commit; of_client = r.client; of_number = r.number }

    not_other : {X : Type 0} (xs : Moves m) (u : MarkOf m) (what : WhatOf m) → u.what ≡ what → (Other m what → ⊥) → NotSaved m what → Fact h xs u → (0 < u.tx → X) → X
    not_other xs u what is never kind (IsOther o) f = absurd (never (subst (Other m) is o))
    not_other xs u what is never kind (IsOfTx n s) f = f n
    not_other xs u what is never kind (IsSaved before after e split o p q now saved) f = absurd (subst (NotSaved m) (sym is ∙ saved) kind)

    module _ (u : MarkOf m) (i : Has (trace m end) u) where
      tells : (what : WhatOf m) → u.what ≡ what → 0 < u.tx → Tells m (trace m end) u.client u.tx what
      tells what is n = subst (Tells m (trace m end) u.client u.tx) is (record { number = n; event = u.event; here = contained_has (trace m end) u i })

      committed : (p : ℕ) → u.what ≡ told.Committed p → 0 < u.tx → HasItsRecord m end u.client u.tx (told.Committed p)
      committed p is n puts = by (of_committed m h ms (records_end m h ms end ends) u.client u.tx p n (all_told m h ms (record { event = u.event; client = u.client; tx = u.tx; what = told.Committed p }) (subst (λ (z : WhatOf m). Has (trace m end) (record { event = u.event; client = u.client; tx = u.tx; what = z })) is i)))
        where
          by : HasRecordOf (entries_in m end) p u.client u.tx ⊎ (puts_of m (trace m end) u.client u.tx ≡ []) → HasRecord m end p u.client u.tx
          by (inl r) = record_of p u.client u.tx r
          by (inr none) = absurd (puts none)

      saved : (o : Oid) (p q : ℕ) → u.what ≡ told.Saved o p q → Fact h ms u → HasItsRecord m end u.client u.tx (told.Saved o p q)
      saved o p q is (IsOther k) = absurd (subst (Other m) is k)
      saved o p q is (IsOfTx n s) = absurd (subst (NotSaved m) is s)
      saved o p q is (IsSaved before after e split o' p' q' now what) =
          let same = same_saved o o' p p' q q' (sym is ∙ what) in
          let there = ends before after e split u.client now.append (At p' now.page) now.begun now.ends in
          subst (λ (i : Oid). HasItsRecord m end u.client u.tx (told.Saved i p q)) same.0 (subst (λ (i : ℕ). HasItsRecord m end u.client u.tx (told.Saved o' i q)) same.1 (record {
            entry = linked now.append.draft there.0;
            here = there.1;
            by = now.save.client ∙ ((run_book m before (start m h) (start_book m h)) u.client).num_is;
            upto = q';
            version = now.save.version;
            whole = now.save.whole;
            keys = now.save.keys;
            state = now.save.state;
            saves = now.save.saves;
          }))

      its_record : (what : WhatOf m) → u.what ≡ what → Fact h ms u → HasItsRecord m end u.client u.tx what
      its_record (told.Committed p) is f = not_other ms u (told.Committed p) is (λ z. z) tt f (committed p is)
      its_record (told.Aborted p o part seen now) is f = not_other ms u (told.Aborted p o part seen now) is (λ z. z) tt f (λ n. record_of p u.client u.tx (known.aborted u.client u.tx p o part seen now (tells (told.Aborted p o part seen now) is n)))
      its_record (told.Unsure p q) is f = not_other ms u (told.Unsure p q) is (λ z. z) tt f (λ n. record_of p u.client u.tx (known.unsure u.client u.tx p q (tells (told.Unsure p q) is n)))
      its_record (told.Saved o p q) is f = saved o p q is f
      its_record what is f = tt

    pub replies_here : RepliesHaveRecords m end
    replies_here t i = let j = marked end.told t (has_contained end.told t i) in its_record t.mark j t.mark.what refl ((state h ms).facts t.mark j)

  pub replies_have_records : (h : Header) (ms : Moves m) (w : World m) → Reaches m h ms w → TrimsWereSafe m h ms → AsksPrecede m w → AppendsEnd m h ms w → RepliesHaveRecords m w
  replies_have_records h ms w r safe asks ends =
      subst (λ (v : World m). AppendsEnd m h ms v → RepliesKnown m v → RepliesHaveRecords m v) (sym r.goes.is) (λ a k. replies_here h ms a k) ends (replies_known m h ms w r safe asks)
