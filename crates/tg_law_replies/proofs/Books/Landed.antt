-- The record of a transaction that was ended stands where its client says, while the end waits and once it is told.
use Rattle.std.proofs.Common.{◌≡◌, ℕ, zero, suc, ◌+◌, List, map, [], ◌∷◌, ◌++◌, length, Bool, true, false, refl, sym, ap, ◌∙◌, subst, inl, inr, Option, Some, None}
use Rattle.std.specs.Prelude.{if◌then◌else◌, ◌==◌, slice_index_or}
use Rattle.tg_base.specs.Clusters.{Header}
use Rattle.tg_entry.specs.declared.entry.Entry.{Entry}
use Rattle.tg_kind.specs.Meaning.{Meaning}
use Rattle.tg_model.specs.declared.command.Command.TheVariants as cmd
use Rattle.tg_model.specs.Kinds.{CommandOf, EventOf, WhatOf}
use Rattle.tg_model.specs.Traces.{Trace}
use Rattle.tg_protocol.specs.Words.{numbers}
use Rattle.tg_protocol.specs.Entries.{is_commit}
use Rattle.tg_entry.specs.Records.{linked}
use Rattle.tg_protocol.specs.Appending.{Append, AppendEnd, At}
use Rattle.tg_protocol.specs.Views.{Entries}
use Rattle.tg_protocol.specs.Transactions.{Tx, commit_record}
use Rattle.tg_protocol.specs.Clients.{Purpose, Writes, Judged, Decides, Task, Syncing, Walking, Appending, Trimming, Copying', Reconfiguring, Work, Client, new_client}
use Rattle.tg_protocol.specs.Answers.{Moved}
use Rattle.tg_protocol.specs.ClientSteps.{task_in}
use Rattle.tg_protocol.specs.Worlds.{World, start, client, happens, trace}
use Rattle.tg_protocol.specs.Runs.{Moves, Next, Takes, run}
use Rattle.tg_protocol.specs.Holding.{append_by, append_of}
use Rattle.tg_law_replies.specs.History.Worlds.{entries_in}
use Rattle.tg_law_replies.specs.Replies.Told.{HasRecordOf}
use Rattle.tg_law_replies.specs.Books.Kept.{RecordEndsSo, RecordsEnd}
use Rattle.tg_law_replies.proofs.Books.Effects.{IsEnd, Idle, OfRecord, DecidesOf, Onward, Same', Walks, Lands, Begins, On, Quits, Closes, Asks, Marks'}
use Rattle.tg_law_replies.proofs.Books.Commands.{Refuses, Takes', Taking, Nothing, Opening, Putting, Answering, Ending, EndingLater, Dropping, Beginning, Turned, Idles, Works, ended_by}
use Rattle.tg_law_replies.proofs.Books.Commands as turn
use Rattle.tg_law_replies.proofs.Books.Turns.{no_some, same_some, BookOf, IsOfTx, DraftOf}
use Rattle.tg_law_replies.proofs.Books.Worlds.{nil_right, regroup, EndsIn, Stepped, Rests, Turns, step, run_book, start_book, run_both}

module _ (m : Meaning) (es : Entries) (k : ℕ) where
  -- the record of the open transaction stands there
  abbrev pub HasRec : Option Tx → ℕ → Type 0
  HasRec tx p = (t : Tx) → tx ≡ Some t → HasRecordOf es p k t.number

  abbrev pub LandedFor : Option Tx → ℕ → Purpose m → Type 0
  LandedFor tx p (Decides what) = HasRec tx p × OfRecord m p what
  LandedFor tx p y = Unit {0}

  abbrev pub LandedTask : Option Tx → ℕ → Task m → Type 0
  LandedTask tx p (Appending a y) = LandedFor tx p y
  LandedTask tx p t = HasRec tx p

  abbrev pub Landed : Client m → Type 0
  Landed c = (v : Work m) → c.work ≡ Some v → IsEnd m v.command → LandedTask c.tx v.at (task_in m v.hand)

  -- what an append that ends is, by the log
  abbrev pub EndsTruly : Client m → Option AppendEnd → Type 0
  EndsTruly c end = (a : Append) (x : AppendEnd) → append_by m c.work ≡ Some a → end ≡ Some x → RecordEndsSo m es a.draft x

  pub idle_rec : (t : Task m) (tx : Option Tx) (p : ℕ) → Idle m t → LandedTask tx p t → HasRec tx p
  idle_rec (Appending a y) tx p h x = absurd h
  idle_rec (Syncing s) tx p h x = x
  idle_rec (Walking j os) tx p h x = x
  idle_rec (Trimming t) tx p h x = x
  idle_rec (Copying' y) tx p h x = x
  idle_rec (Reconfiguring r) tx p h x = x

  rec_idle : (t : Task m) (tx : Option Tx) (p : ℕ) → Idle m t → HasRec tx p → LandedTask tx p t
  rec_idle (Appending a y) tx p h x = absurd h
  rec_idle (Syncing s) tx p h x = x
  rec_idle (Walking j os) tx p h x = x
  rec_idle (Trimming t) tx p h x = x
  rec_idle (Copying' y) tx p h x = x
  rec_idle (Reconfiguring r) tx p h x = x

  rec_as : (tx tx' : Option Tx) (p p' : ℕ) → tx' ≡ tx → p' ≡ p → HasRec tx p → HasRec tx' p'
  rec_as tx tx' p p' t e x u is = subst (λ (q : ℕ). HasRecordOf es q k u.number) (sym e) (x u (sym t ∙ is))

  for_as : (y : Purpose m) (tx tx' : Option Tx) (p p' : ℕ) → tx' ≡ tx → p' ≡ p → LandedFor tx p y → LandedFor tx' p' y
  for_as (Decides what) tx tx' p p' t e x = (rec_as tx tx' p p' t e x.0, subst (λ (q : ℕ). OfRecord m q what) (sym e) x.1)
  for_as y tx tx' p p' t e x = tt

  decides_rec : (x : CommandOf m) (p : ℕ) (what : WhatOf m) → IsEnd m x → DecidesOf m x p (Decides what) → OfRecord m p what
  decides_rec cmd.End p what e h = h
  decides_rec x p what e h = absurd e

  begins_for : (y : Purpose m) (x : CommandOf m) (tx : Option Tx) (p p' : ℕ) → p' ≡ p → IsEnd m x → DecidesOf m x p y → HasRec tx p → LandedFor tx p' y
  begins_for (Decides what) x tx p p' e end of has = (rec_as tx tx p p' refl e has, subst (λ (q : ℕ). OfRecord m q what) (sym e) (decides_rec x p what end of))
  begins_for y x tx p p' e end of has = tt

  purpose_for : (t : Tx) (b : Bool) (tx : Option Tx) (p : ℕ) → LandedFor tx p (if b then Writes else Judged)
  purpose_for t true tx p = tt
  purpose_for t false tx p = tt

  pub append_in : (c : Client m) (w : Work m) (a : Append) (y : Purpose m) → c.work ≡ Some w → task_in m w.hand ≡ Appending a y → append_by m c.work ≡ Some a
  append_in c w a y has is = ap (append_by m) has ∙ ap (append_of m) is

  module _ (tr : Trace m) (c : Client m) (h : BookOf m k tr c) (l : Landed c) where
    -- the record has landed
    lands : (w : Work m) (a : Append) (p : ℕ) (page : List ℕ) → c.work ≡ Some w → task_in m w.hand ≡ Appending a Judged → RecordEndsSo m es a.draft (At p page) → HasRec c.tx p
    unfolding commit_record
    lands w a p page has is e u at = record {
      entry = linked a.draft (e commit).0;
      here = (e commit).1;
      commit = commit;
      client = ap (λ (d : Entry). d.head.client) x.draft;
      number = ap (λ (d : Entry). d.head.number) x.draft ∙ ap (λ (z : Tx). z.number) (same_some x.of u (sym x.is ∙ at));
    }
      where
        x : IsOfTx m k tr c.tx a.draft
        x = subst (DraftOf m k tr c.tx c.begun) is (h.drafts w has)

        commit : is_commit a.draft ≡ true
        commit = ap (λ (d : Entry). is_commit d) x.draft

    onward : (w0 : Work m) (end : Option AppendEnd) (d : Client m) (v : Work m) → c.work ≡ Some w0 → EndsTruly c end → d.tx ≡ c.tx → IsEnd m w0.command → Onward m c w0 end v → LandedTask d.tx v.at (task_in m v.hand)
    onward w0 end d v has so t e (Same' a b y x z draft at) =
        subst (LandedTask d.tx v.at) (sym z) (for_as y c.tx d.tx w0.at v.at t at (subst (LandedTask c.tx w0.at) x (l w0 has e)))
    onward w0 end d v has so t e (Walks i j s at) = rec_idle (task_in m v.hand) d.tx v.at j (rec_as c.tx d.tx w0.at v.at t at (idle_rec (task_in m w0.hand) c.tx w0.at i (l w0 has e)))
    onward w0 end d v has so t e (Lands a p page x ends at i s) = rec_idle (task_in m v.hand) d.tx v.at i (rec_as c.tx d.tx p v.at t at (lands w0 a p page has x (so a (At p page) (append_in c w0 a Judged has x) ends)))
    onward w0 end d v has so t e (Begins a y i z body other of s at) =
        subst (LandedTask d.tx v.at) (sym z) (begins_for y w0.command d.tx w0.at v.at at e of (rec_as c.tx d.tx w0.at w0.at t refl (idle_rec (task_in m w0.hand) c.tx w0.at i (l w0 has e))))

    by_work : (d : Client m) (u : Work m) → d.work ≡ Some u → (IsEnd m u.command → LandedTask d.tx u.at (task_in m u.hand)) → Landed d
    by_work d u is x v at e = subst (λ (z : Work m). LandedTask d.tx z.at (task_in m z.hand)) (same_some u v (sym is ∙ at)) (x (subst (λ (z : Work m). IsEnd m z.command) (sym (same_some u v (sym is ∙ at))) e))

    no_work : (d : Client m) → d.work ≡ None → Landed d
    no_work d none v is = absurd (no_some v (sym none ∙ is))

    taken : (x : CommandOf m) (r : Moved m) → Taking m c x r → Landed r.now
    taken x r (Nothing s none z) = no_work r.now none
    taken x r (Opening p) = no_work r.now p.work
    taken x r (Putting p) = no_work r.now p.work
    taken x r (Answering a) = no_work r.now a.work
    taken x r (Ending e) = no_work r.now e.work
    taken x r (EndingLater e) = by_work r.now e.work e.works (λ ends. subst (LandedTask r.now.tx e.work.at) (sym e.appends) (purpose_for e.of (length e.of.reads == 0) r.now.tx e.work.at))
    taken x r (Dropping d) = no_work r.now d.work
    taken x r (Beginning b) = by_work r.now b.work b.works (λ ends. absurd (b.not_end (subst (IsEnd m) b.command ends)))

    pub landed_turned : (r : Moved m) (t : Turned m c r) → EndsTruly c (ended_by m c r t) → Landed r.now
    landed_turned r (Idles s same notes) so = λ v is e. subst (λ (tx : Option Tx). LandedTask tx v.at (task_in m v.hand)) (sym s.0) (l v (sym same ∙ is) e)
    landed_turned r (Works w end has (On s notes v is same on)) so = by_work r.now v is (λ e. onward w end r.now v has so s.0 (subst (IsEnd m) same e) on)
    landed_turned r (Works w end has (Quits s none q)) so = no_work r.now none
    landed_turned r (Works w end has (Closes s none e what notes z)) so = no_work r.now none
    landed_turned r (Works w end has (Asks a)) so = no_work r.now a.idle
    landed_turned r (Works w end has (Marks' x)) so = by_work r.now x.work x.works (λ e. absurd (subst (IsEnd m) (x.same ∙ x.command) e))
    landed_turned r (turn.Takes x (Refuses why is e)) so = subst (λ (y : Moved m). Landed y.now) (sym e) l
    landed_turned r (turn.Takes x (Takes' idle fine t)) so = taken x r t

module _ (m : Meaning) (h : Header) (ms : Moves m) (ends : RecordsEnd m h ms (run m ms (start m h))) where
  abbrev es : Entries
  es = entries_in m (run m ms (start m h))

  abbrev at : Moves m → World m
  at xs = run m xs (start m h)

  abbrev pub AllLanded : World m → Type 0
  AllLanded w = (k : ℕ) → Landed m es k (client m w k)

  -- each append that ends in a step of the run does so by its log
  pub ends_truly : (before after : Moves m) (e : EventOf m) → ms ≡ before ++ Takes e ∷ after → (k : ℕ) (end : Option AppendEnd) → EndsIn m k e (at before) end → EndsTruly m es k (client m (at before) k) end
  ends_truly before after e split k end (inl none) a x has is = absurd (no_some x (sym none ∙ is))
  ends_truly before after e split k end (inr same) a x has is = ends before after e split k a x has (sym same ∙ is)

  stepped_landed : (before after : Moves m) (e : EventOf m) → ms ≡ before ++ Takes e ∷ after → (k : ℕ) → BookOf m k (trace m (at before)) (client m (at before) k) → Landed m es k (client m (at before) k) → Stepped m k e (at before) (happens m (at before) e) → Landed m es k (client m (happens m (at before) e) k)
  stepped_landed before after e split k book l (Rests c ys t a) = subst (λ (d : Client m). Landed m es k d) (sym c) l
  stepped_landed before after e split k book l (Turns r t from g c x) = subst (λ (d : Client m). Landed m es k d) (sym c) (landed_turned m es k (trace m (at before)) (client m (at before) k) book l r t (ends_truly before after e split k (ended_by m (client m (at before) k) r t) g))

  next_landed : (done : Moves m) → AllLanded (at done) → AllLanded (at (done ++ Next ∷ []))
  unfolding run
  next_landed done l = subst AllLanded (sym (run_both m done (Next ∷ []) (start m h))) l

  event_landed : (done rest : Moves m) (e : EventOf m) → ms ≡ done ++ Takes e ∷ rest → AllLanded (at done) → AllLanded (at (done ++ Takes e ∷ []))
  unfolding run
  event_landed done rest e split l = subst AllLanded (sym (run_both m done (Takes e ∷ []) (start m h)))
      (λ k. stepped_landed done rest e split k (run_book m done (start m h) (start_book m h) k) (l k) (step m (at done) e (run_book m done (start m h) (start_book m h)) k))

  landed_on : (xs done rest : Moves m) → ms ≡ done ++ (xs ++ rest) → AllLanded (at done) → AllLanded (at (done ++ xs))
  landed_on [] done rest split l = subst (λ (ys : Moves m). AllLanded (at ys)) (sym (nil_right done)) l
  landed_on (Next ∷ xs) done rest split l =
      subst (λ (ys : Moves m). AllLanded (at ys)) (regroup done (Next ∷ []) xs) (landed_on xs (done ++ Next ∷ []) rest (split ∙ sym (regroup done (Next ∷ []) (xs ++ rest))) (next_landed done l))
  landed_on (Takes e ∷ xs) done rest split l =
      subst (λ (ys : Moves m). AllLanded (at ys)) (regroup done (Takes e ∷ []) xs) (landed_on xs (done ++ Takes e ∷ []) rest (split ∙ sym (regroup done (Takes e ∷ []) (xs ++ rest))) (event_landed done (xs ++ rest) e split l))

  start_landed : AllLanded (at [])
  unfolding run start new_client
  start_landed k v is e = absurd (idle h.clients 0 k is)
    where
      idle : (j first i : ℕ) → (slice_index_or (map (new_client m h) (numbers j first)) i (new_client m h k)).work ≡ Some v → ⊥
      idle zero first i z = no_some v z
      idle (suc j) first zero z = no_some v z
      idle (suc j) first (suc i) z = idle j (first + 1) i z

  -- so it is in each world of the run
  pub landed_at : (xs rest : Moves m) → ms ≡ xs ++ rest → AllLanded (at xs)
  landed_at xs rest split = landed_on xs [] rest split start_landed
