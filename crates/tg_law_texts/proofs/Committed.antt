-- A world in which one transaction with one put has committed, and nothing else was told: the headline holds of it.
use Rattle.std.proofs.Common.{◌≡◌, ℕ, List, [], ◌∷◌, ◌++◌, map, Some, None, Bool, true, false, refl, sym, ap, ◌∙◌, subst, arith}
use Rattle.std.specs.Prelude.{Contains}
use Rattle.tg_base.specs.declared.ids.Oid.{Oid}
use Rattle.tg_entry.specs.declared.entry.Body.TheVariants.{Commit, Decision}
use Rattle.tg_entry.specs.declared.entry.Entry.{Entry}
use Rattle.tg_kind.specs.Meaning.{Meaning}
use Rattle.tg_model.specs.Kinds.{WhatOf, MarkOf, DoneOf}
use Rattle.tg_model.specs.Stores.{History, Rises}
use Rattle.tg_model.specs.Traces.{Trace, Says, Tells, puts_of}
use Rattle.tg_model.specs.Legal.{AsksHoldAt, Legal, AnswersRight, IsCommitted, CommitsRight, AbortsRight, EntriesRight}
use Rattle.tg_model.specs.declared.refusal.Refusal.TheVariants as cause
use Rattle.tg_model.specs.declared.trace.What.TheVariants as told
use Rattle.tg_entry.specs.Needs.{needs_decision}
use Rattle.tg_protocol.specs.Views.{Entries}
use Rattle.tg_protocol.specs.Logs.{entries_of, outcome}
use Rattle.tg_protocol.specs.Worlds.{World, Told, client, log, history, trace}
use Rattle.tg_protocol.specs.Alike.{HasEntry, HasRecord, LogAgrees, Alike, PastTrue, RescueTrue}
use Rattle.tg_protocol.specs.Headline.{Holds}
use Rattle.tg_law_texts.proofs.Small.{clash, some_or_none, no_items, none_in, only_one, of_four, in_midst}

-- the event of the commit is n
module _ (m : Meaning) (o : Oid) (op : m.op) (n : ℕ) where
  abbrev pub mark_at : ℕ → WhatOf m → MarkOf m
  mark_at event what = record { event = event; client = 0; tx = 1; what = what }

  -- the replies: an update in event 1, and later that it committed
  abbrev pub replies : Trace m
  replies = mark_at 1 told.Begin ∷ mark_at 1 (told.Put o op) ∷ mark_at 1 told.End ∷ mark_at n (told.Committed 0) ∷ []

  abbrev pub done : DoneOf m
  done = record { stamp = 0; client = 0; number = 1; writes = (o, op) ∷ [] }

  -- what may be told: of a `committed` its transaction and its place
  abbrev Fact : ℕ → ℕ → WhatOf m → Type 0
  Fact k x told.Begin = Unit {0}
  Fact k x (told.Put p op) = Unit {0}
  Fact k x told.End = Unit {0}
  Fact k x (told.Committed p) = (k ≡ 0) × (x ≡ 1) × (p ≡ 0)
  Fact k x _ = ⊥

  fact : (t : MarkOf m) → Contains replies t → Fact t.client t.tx t.what
  fact t i = of_four (λ (t : MarkOf m). Fact t.client t.tx t.what) (mark_at 1 told.Begin) (mark_at 1 (told.Put o op)) (mark_at 1 told.End) (mark_at n (told.Committed 0)) tt tt tt (refl, refl, refl) t i

  said : (k x : ℕ) (what : WhatOf m) → Says m replies k x what → Fact k x what
  said k x what s = fact (record { event = s.event; client = k; tx = x; what = what }) s.here

  tells : (k x : ℕ) (what : WhatOf m) → Tells m replies k x what → Fact k x what
  tells k x what s = fact (record { event = s.event; client = k; tx = x; what = what }) s.here

  put_once : puts_of m replies 0 1 ≡ (o, op) ∷ []
  unfolding puts_of
  put_once = refl

  ended : Tells m replies 0 1 told.End
  ended = record { number = omega arith; event = 1; here = in_midst (mark_at 1 told.Begin ∷ mark_at 1 (told.Put o op) ∷ []) (mark_at n (told.Committed 0) ∷ []) (mark_at 1 told.End) }

  none_asked : (objects : List Oid) (k x p : ℕ) → AsksHoldAt m objects (done ∷ []) replies k x p
  none_asked objects k x p o q t a s = absurd (tells k x (told.Asked o q t a) s)

  is_committed : (objects : List Oid) (k x p : ℕ) → Fact k x (told.Committed p) → IsCommitted m objects (done ∷ []) replies k x p
  is_committed objects k x p (ek, ex, ep) =
      subst (λ (k : ℕ). IsCommitted m objects (done ∷ []) replies k x p) (sym ek)
      (subst (λ (x : ℕ). IsCommitted m objects (done ∷ []) replies 0 x p) (sym ex)
      (subst (λ (p : ℕ). IsCommitted m objects (done ∷ []) replies 0 1 p) (sym ep)
      (record { done = done; here = in_midst [] [] done; stamp = refl; of = (refl, refl); writes = sym put_once; asks = none_asked objects 0 1 0 })))

  some_put : (k x p : ℕ) → Fact k x (told.Committed p) → puts_of m replies k x ≡ [] → ⊥
  some_put k x p (ek, ex, ep) none =
      let e : puts_of m replies 0 1 ≡ [] = subst (λ (x : ℕ). puts_of m replies 0 x ≡ []) ex (subst (λ (k : ℕ). puts_of m replies k x ≡ []) ek none) in
      no_items (o, op) [] (sym put_once ∙ e)

  answers : (objects : List Oid) → AnswersRight m objects (done ∷ []) replies
  answers objects = record {
    at_snapshot = λ k x o q t a s. absurd (tells k x (told.Asked o q t a) s);
    one_snapshot = λ k x o r q s t u a b one two. absurd (tells k x (told.Asked o q t a) one);
  }

  commits : (objects : List Oid) → CommitsRight m objects (done ∷ []) replies
  commits objects = record {
    with_puts = λ k x p s some. is_committed objects k x p (tells k x (told.Committed p) s);
    at_snapshot = λ k x p o q t a s none asked. absurd (tells k x (told.Asked o q t a) asked);
    at_zero = λ k x p s none ask. absurd (some_put k x p (tells k x (told.Committed p) s) none);
  }

  aborts : AbortsRight m (done ∷ []) replies
  aborts = record {
    none = λ k x p o part seen now s. absurd (tells k x (told.Aborted p o part seen now) s);
    cause = λ k x p o part seen now s. absurd (tells k x (told.Aborted p o part seen now) s);
  }

  entries : (objects : List Oid) → EntriesRight m objects (done ∷ []) replies
  entries objects = record {
    ended = λ d i. subst (λ (d : DoneOf m). Tells m replies d.client d.number told.End) (sym (only_one done d i)) ended;
    writes = λ d i. subst (λ (d : DoneOf m). d.writes ≡ puts_of m replies d.client d.number) (sym (only_one done d i)) (sym put_once);
    once = λ d e i j of. only_one done d i ∙ sym (only_one done e j);
    asks = λ d i. none_asked objects d.client d.number d.stamp;
    unsure = λ k x p q d s i of. absurd (tells k x (told.Unsure p q) s);
    forgotten = λ k x p n d s i of. absurd (tells k x (told.Refused (cause.Forgotten p n)) s);
    dropped = λ k x s d i of. tells k x told.Dropped s;
    fate_yes = λ k x p s. absurd (said k x (told.Fate p (Some true)) s);
    fate_no = λ k x p s. absurd (said k x (told.Fate p (Some false)) s);
    decided_yes = λ k x p s. absurd (said k x (told.Decided p (Some true)) s);
    decided_no = λ k x p s. absurd (said k x (told.Decided p (Some false)) s);
  }

  -- no `begin` stands behind another reply
  front : (before after : Trace m) (b r : MarkOf m) → replies ≡ before ++ b ∷ after → b.what ≡ told.Begin → Contains before r → ⊥
  front [] after b r split is i = none_in r i
  front (x ∷ []) after b r split is i = let e : told.Put o op ≡ b.what = cc in absurd cc
  front (x ∷ y ∷ []) after b r split is i = let e : told.End ≡ b.what = cc in absurd cc
  front (x ∷ y ∷ z ∷ []) after b r split is i = let e : told.Committed 0 ≡ b.what = cc in absurd cc
  front (x ∷ y ∷ z ∷ u ∷ []) after b r split is i = absurd cc
  front (x ∷ y ∷ z ∷ u ∷ v ∷ more) after b r split is i = absurd cc

  legal : (objects : List Oid) → Legal m objects (done ∷ []) replies
  legal objects = record {
    answers = answers objects;
    commits = commits objects;
    aborts = aborts;
    entries = entries objects;
    order = λ before after b r p n split is positive i point place. absurd (front before after b r split is i);
  }

  -- with what its client's replies have noted
  abbrev pub noted : MarkOf m → Told m
  noted t = record { mark = t; noted = record { next = 1; epoch = 1; upto = 0 } }

  abbrev pub record_of : List ℕ → Entry
  record_of bytes = record {
    head = record { format = 2; client = 0; number = 1; streams = record { oid = o; backs = [] } ∷ [] };
    body = Commit [] (record { oid = o; op = bytes } ∷ []);
  }

  -- these replies were told, the log has the record alone, and no view is kept
  pub record IsDone (w : World m) : Type 0 where
    pub bytes : List ℕ
    pub told : w.told ≡ map noted replies
    pub history : history m w ≡ done ∷ []
    pub entries : entries_of (log m w) ≡ (0, record_of bytes) ∷ []
    pub outcome : outcome m (log m w) 0 ≡ true
    pub views : (k : ℕ) → (client m w k).view ≡ None

  module _ (w : World m) (h : IsDone w) where
    told_fact : (t : Told m) → Contains w.told t → Fact t.mark.client t.mark.tx t.mark.what
    told_fact t i = of_four (λ (t : Told m). Fact t.mark.client t.mark.tx t.mark.what) (noted (mark_at 1 told.Begin)) (noted (mark_at 1 (told.Put o op))) (noted (mark_at 1 told.End)) (noted (mark_at n (told.Committed 0)))
        tt tt tt (refl, refl, refl) t (subst (λ (ts : List (Told m)). Contains ts t) h.told i)

    told_so : (t : Told m) (what : WhatOf m) → Contains w.told t → t.mark.what ≡ what → Fact t.mark.client t.mark.tx what
    told_so t what i e = subst (Fact t.mark.client t.mark.tx) e (told_fact t i)

    agrees : (t : Told m) → Contains w.told t → LogAgrees m w t t.mark.what
    agrees t i = of_four (λ (t : Told m). LogAgrees m w t t.mark.what) (noted (mark_at 1 told.Begin)) (noted (mark_at 1 (told.Put o op))) (noted (mark_at 1 told.End)) (noted (mark_at n (told.Committed 0)))
        tt tt tt tt t (subst (λ (ts : List (Told m)). Contains ts t) h.told i)

    is_record : (p : ℕ) (e : Entry) → HasEntry m w p e → e ≡ record_of h.bytes
    is_record p e i = ap (λ (x : ℕ × Entry). x.1) (only_one (0, record_of h.bytes) (p, e) (subst (λ (es : Entries). Contains es (p, e)) h.entries i))

    has_record : HasRecord m w 0 0 1
    has_record = record {
      record_at = record_of h.bytes;
      here = subst (λ (es : Entries). Contains es (0, record_of h.bytes)) (sym h.entries) (in_midst [] [] (0, record_of h.bytes));
      commit = refl;
      of_client = refl;
      of_number = refl;
    }

    record_told : (k x p : ℕ) → Fact k x (told.Committed p) → HasRecord m w p k x × (outcome m (log m w) p ≡ true)
    record_told k x p (ek, ex, ep) =
        subst (λ (k : ℕ). HasRecord m w p k x × (outcome m (log m w) p ≡ true)) (sym ek)
        (subst (λ (x : ℕ). HasRecord m w p 0 x × (outcome m (log m w) p ≡ true)) (sym ex)
        (subst (λ (p : ℕ). HasRecord m w p 0 1 × (outcome m (log m w) p ≡ true)) (sym ep) (has_record, h.outcome)))

    needs_none : (p : ℕ) (e : Entry) → HasEntry m w p e → needs_decision e ≡ true → ⊥
    unfolding needs_decision
    needs_none p e i needs = let f : false ≡ true = subst (λ (e : Entry). needs_decision e ≡ true) (is_record p e i) needs in clash (sym f)

    not_decision : (at p : ℕ) (e : Entry) (b : Bool) → HasEntry m w at e → e.body ≡ Decision p b → ⊥
    not_decision at p e b i body = let f : Commit [] (record { oid = o; op = h.bytes } ∷ []) ≡ Decision p b = sym (ap (λ (e : Entry). e.body) (is_record at e i)) ∙ body in absurd cc

    alike : Alike m w
    alike = record {
      decisions = λ at p e b i body. absurd (not_decision at p e b i body);
      fates = λ k p v b keeps fate. absurd (some_or_none (client m w k).view v (h.views k) keeps);
      marks = agrees;
      committed = λ t p o op i is put. record_told t.mark.client t.mark.tx p (told_so t (told.Committed p) i is);
      marked = λ before after t o n split is. absurd (told_so t (told.Marked o n) (subst (λ (ts : List (Told m)). Contains ts t) (sym split) (in_midst before after t)) is);
      installed = λ t e i is. absurd (told_so t (told.Installed e) i is);
      overtaken = λ t e i is. absurd (told_so t (told.Refused (cause.Overtaken e)) i is);
      committed_recorded = λ t p e i is has entry needs. absurd (needs_none p e entry needs);
      aborted_recorded = λ t p o k seen now e i is entry needs. absurd (needs_none p e entry needs);
      decided_recorded = λ t p b e i is entry needs. absurd (needs_none p e entry needs);
    }

    past : PastTrue m w
    past t o q p a i is = absurd (told_so t (told.Past o q p a) i is)

    rescues : RescueTrue m w
    rescues = record {
      yes_told = λ t p i is. absurd (told_so t (told.Rescued p (Some true)) i is);
      no_told = λ t p i is. absurd (told_so t (told.Rescued p (Some false)) i is);
      recorded = λ t p b e i is entry needs. absurd (needs_none p e entry needs);
    }

    -- so the headline holds of it
    pub done_holds : Holds m w
    done_holds = record {
      rises = subst (Rises m) (sym h.history) (tt, tt);
      legal = subst (λ (d : History m). Legal m w.cluster.objects d (trace m w)) (sym h.history)
          (subst (λ (ts : List (Told m)). Legal m w.cluster.objects (done ∷ []) (map (λ (t : Told m). t.mark) ts)) (sym h.told) (legal w.cluster.objects));
      alike = alike;
      past = past;
      rescues = rescues;
    }
