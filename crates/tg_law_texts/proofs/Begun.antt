-- A world in which one client has begun a transaction, and nothing else was told: the headline holds of it.
use Rattle.std.proofs.Common.{◌≡◌, ℕ, List, [], ◌∷◌, ◌++◌, Some, None, sym, ap, ◌∙◌, subst, map, true, false}
use Rattle.std.specs.Prelude.{Contains}
use Rattle.tg_base.specs.declared.ids.Oid.{Oid}
use Rattle.tg_entry.specs.declared.entry.Entry.{Entry}
use Rattle.tg_kind.specs.Meaning.{Meaning}
use Rattle.tg_model.specs.Kinds.{WhatOf, MarkOf}
use Rattle.tg_model.specs.Stores.{History, Rises}
use Rattle.tg_model.specs.Traces.{Says, Tells}
use Rattle.tg_model.specs.Legal.{Legal, AnswersRight, CommitsRight, AbortsRight, EntriesRight}
use Rattle.tg_model.specs.declared.refusal.Refusal.TheVariants as cause
use Rattle.tg_model.specs.declared.trace.What.TheVariants as told
use Rattle.tg_protocol.specs.Views.{Entries}
use Rattle.tg_protocol.specs.Logs.{entries_of}
use Rattle.tg_protocol.specs.Worlds.{World, Told, client, log, history, trace}
use Rattle.tg_protocol.specs.Alike.{HasEntry, LogAgrees, Alike, PastTrue, RescueTrue}
use Rattle.tg_protocol.specs.Headline.{Holds}
use Rattle.tg_law_texts.proofs.Small.{some_or_none, none_in, only_one, in_midst}

-- nothing stands before the first of one
none_before : {X : Type 0} (before after : List X) (y b r : X) → y ∷ [] ≡ before ++ b ∷ after → Contains before r → ⊥
none_before [] after y b r e c = none_in r c
none_before (x ∷ []) after y b r e c = absurd cc
none_before (x ∷ z ∷ zs) after y b r e c = absurd cc

module _ (m : Meaning) (mark : MarkOf m) (begins : mark.what ≡ told.Begin) where
  said : (k x : ℕ) (what : WhatOf m) → Says m (mark ∷ []) k x what → what ≡ told.Begin
  said k x what s = ap (λ (y : MarkOf m). y.what) (only_one mark (record { event = s.event; client = k; tx = x; what = what }) s.here) ∙ begins

  tells : (k x : ℕ) (what : WhatOf m) → Tells m (mark ∷ []) k x what → what ≡ told.Begin
  tells k x what s = ap (λ (y : MarkOf m). y.what) (only_one mark (record { event = s.event; client = k; tx = x; what = what }) s.here) ∙ begins

  answers : (objects : List Oid) → AnswersRight m objects [] (mark ∷ [])
  answers objects = record {
    at_snapshot = λ k x o q t a s. let e = tells k x (told.Asked o q t a) s in absurd cc;
    one_snapshot = λ k x o r q s t u a b one two. let e = tells k x (told.Asked o q t a) one in absurd cc;
  }

  commits : (objects : List Oid) → CommitsRight m objects [] (mark ∷ [])
  commits objects = record {
    with_puts = λ k x p s some. let e = tells k x (told.Committed p) s in absurd cc;
    at_snapshot = λ k x p o q t a s none asked. let e = tells k x (told.Committed p) s in absurd cc;
    at_zero = λ k x p s none ask. let e = tells k x (told.Committed p) s in absurd cc;
  }

  aborts : AbortsRight m [] (mark ∷ [])
  aborts = record {
    none = λ k x p o part seen now s. let e = tells k x (told.Aborted p o part seen now) s in absurd cc;
    cause = λ k x p o part seen now s. let e = tells k x (told.Aborted p o part seen now) s in absurd cc;
  }

  entries : (objects : List Oid) → EntriesRight m objects [] (mark ∷ [])
  entries objects = record {
    ended = λ d i. absurd (none_in d i);
    writes = λ d i. absurd (none_in d i);
    once = λ d e i j of. absurd (none_in d i);
    asks = λ d i. absurd (none_in d i);
    unsure = λ k x p q d s i of. absurd (none_in d i);
    forgotten = λ k x p n d s i of. absurd (none_in d i);
    dropped = λ k x s d i of. none_in d i;
    fate_yes = λ k x p s. let e = said k x (told.Fate p (Some true)) s in absurd cc;
    fate_no = λ k x p s. let e = said k x (told.Fate p (Some false)) s in absurd cc;
    decided_yes = λ k x p s. let e = said k x (told.Decided p (Some true)) s in absurd cc;
    decided_no = λ k x p s. let e = said k x (told.Decided p (Some false)) s in absurd cc;
  }

  legal : (objects : List Oid) → Legal m objects [] (mark ∷ [])
  legal objects = record {
    answers = answers objects;
    commits = commits objects;
    aborts = aborts;
    entries = entries objects;
    order = λ before after b r p n split is positive i point place. absurd (none_before before after mark b r split i);
  }

module _ (m : Meaning) where
  -- one client has begun a transaction, nothing is in the log, and no view is kept
  pub record IsBegun (w : World m) : Type 0 where
    pub first : Told m
    pub only : w.told ≡ first ∷ []
    pub begins : first.mark.what ≡ told.Begin
    pub history : history m w ≡ []
    pub entries : entries_of (log m w) ≡ []
    pub views : (k : ℕ) → (client m w k).view ≡ None

  module _ (w : World m) (h : IsBegun w) where
    begun_only : (t : Told m) → Contains w.told t → t ≡ h.first
    begun_only t i = only_one h.first t (subst (λ (ts : List (Told m)). Contains ts t) h.only i)

    what_is : (t : Told m) → Contains w.told t → t.mark.what ≡ told.Begin
    what_is t i = ap (λ (s : Told m). s.mark.what) (begun_only t i) ∙ h.begins

    not_said : (t : Told m) (what : WhatOf m) → Contains w.told t → t.mark.what ≡ what → what ≡ told.Begin
    not_said t what i e = sym e ∙ what_is t i

    no_entry : (p : ℕ) (e : Entry) → HasEntry m w p e → ⊥
    no_entry p e i = none_in (p, e) (subst (λ (es : Entries). Contains es (p, e)) h.entries i)

    agrees : (t : Told m) → Contains w.told t → LogAgrees m w t t.mark.what
    agrees t i = subst (LogAgrees m w t) (sym (what_is t i)) tt

    alike : Alike m w
    alike = record {
      decisions = λ at p e b i body. absurd (no_entry at e i);
      fates = λ k p v b keeps fate. absurd (some_or_none (client m w k).view v (h.views k) keeps);
      marks = agrees;
      committed = λ t p o op i is put. let e = not_said t (told.Committed p) i is in absurd cc;
      marked = λ before after t o n split is. let e = not_said t (told.Marked o n) (subst (λ (ts : List (Told m)). Contains ts t) (sym split) (in_midst before after t)) is in absurd cc;
      installed = λ t e i is. let f = not_said t (told.Installed e) i is in absurd cc;
      overtaken = λ t e i is. let f = not_said t (told.Refused (cause.Overtaken e)) i is in absurd cc;
      committed_recorded = λ t p e i is has entry needs. absurd (no_entry p e entry);
      aborted_recorded = λ t p o k seen now e i is entry needs. absurd (no_entry p e entry);
      decided_recorded = λ t p b e i is entry needs. absurd (no_entry p e entry);
    }

    past : PastTrue m w
    past t o q p a i is = let e = not_said t (told.Past o q p a) i is in absurd cc

    rescues : RescueTrue m w
    rescues = record {
      yes_told = λ t p i is. let e = not_said t (told.Rescued p (Some true)) i is in absurd cc;
      no_told = λ t p i is. let e = not_said t (told.Rescued p (Some false)) i is in absurd cc;
      recorded = λ t p b e i is entry needs. absurd (no_entry p e entry);
    }

    -- so the headline holds of it
    pub begun_holds : Holds m w
    begun_holds = record {
      rises = subst (Rises m) (sym h.history) tt;
      legal = subst (λ (d : History m). Legal m w.cluster.objects d (trace m w)) (sym h.history)
          (subst (λ (ts : List (Told m)). Legal m w.cluster.objects [] (map (λ (t : Told m). t.mark) ts)) (sym h.only) (legal m h.first.mark h.begins w.cluster.objects));
      alike = alike;
      past = past;
      rescues = rescues;
    }
