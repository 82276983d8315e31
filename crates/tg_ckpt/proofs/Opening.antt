-- The first record that needs a decision record and has none, and what may be forgotten.
use Rattle.std.specs.Prelude.{◌≡◌, ℕ, Bool, true, false, cond, not, ◌&&◌, nat_lt, List, [], ◌∷◌, Option, Some, None, is_some, Result, Ok, Err, refl}
use Rattle.std.proofs.Common.{sym, ap, ◌∙◌, subst}
use Rattle.tg_base.specs.declared.ids.Oid.{Oid}
use Rattle.tg_entry.specs.declared.entry.Entry.{Entry}
use Rattle.tg_kind.specs.Meaning.{Meaning}
use Rattle.tg_entry.specs.Needs.{needs_decision}
use Rattle.tg_protocol.specs.Entries.{lists}
use Rattle.tg_protocol.specs.Views as told
use Rattle.tg_protocol.specs.Views.{Entries, decision_in}
use Rattle.tg_protocol.specs.Checkpoints.{open_decision, open_fault, forget_fault, load_from, may_forget}
use Rattle.tg_protocol.specs.Checkpoints as forgetting
use Rattle.tg_play.specs.declared.base.Base.{Base}
use Rattle.tg_play.specs.Kept.{at_position, decisions_kept}
use Rattle.tg_play.proofs.Places.{decisions_told}
use Rattle.tg_ckpt.specs.declared.fault.LoadFault.{LoadFault}
use Rattle.tg_ckpt.specs.declared.fault.LoadFault.TheVariants as loads
use Rattle.tg_ckpt.specs.declared.fault.ForgetFault.{ForgetFault}
use Rattle.tg_ckpt.specs.declared.fault.ForgetFault.TheVariants as forgets
use Rattle.tg_ckpt.specs.Answers.{of_load, KeepsMaybe, Loads, Closes, Forgets}

-- ---- records that need a decision record

joined : (a b c d : Bool) → (a && (b && (c && d))) ≡ (a && b && c && d)
joined true true c d = refl
joined true false c d = refl
joined false b c d = refl

module _ (es : Entries) (ds : List (ℕ × Bool)) (o : Oid) (mark : ℕ) (is : ds ≡ decisions_kept es) where
  abbrev pub is_open : ℕ × Entry → Bool
  is_open x = nat_lt x.0 mark && (lists x.1 o && (needs_decision x.1 && not (is_some (at_position ds x.0))))

  told_open : (x : ℕ × Entry) → is_open x ≡ (nat_lt x.0 mark && lists x.1 o && needs_decision x.1 && not (is_some (decision_in es x.0)))
  told_open x =
      ap (λ (es' : List (ℕ × Bool)). nat_lt x.0 mark && (lists x.1 o && (needs_decision x.1 && not (is_some (at_position es' x.0))))) is
      ∙ ap (λ (d : Option Bool). nat_lt x.0 mark && (lists x.1 o && (needs_decision x.1 && not (is_some d)))) (decisions_told es x.0)
      ∙ joined (nat_lt x.0 mark) (lists x.1 o) (needs_decision x.1) (not (is_some (decision_in es x.0)))

  first_by : (x : ℕ × Entry) (xs : Entries) → open_decision es (x ∷ xs) o mark ≡ cond (is_open x) (Some x.0) (open_decision es xs o mark)
  unfolding open_decision
  first_by x xs = ap (λ (t : Bool). cond t (Some x.0) (open_decision es xs o mark)) (sym (told_open x))

  -- the first one is told
  pub found_open : (all xs rest : Entries) (x : ℕ × Entry) → xs ≡ x ∷ rest → is_open x ≡ true → open_decision es xs o mark ≡ open_decision es all o mark → Some x.0 ≡ open_decision es all o mark
  found_open all xs rest x front t so_far =
      ap (λ (b : Bool). cond b (Some x.0) (open_decision es rest o mark)) (sym t)
      ∙ sym (first_by x rest)
      ∙ ap (λ (ys : Entries). open_decision es ys o mark) (sym front)
      ∙ so_far

  -- another one is passed
  pub passed_open : (all xs rest : Entries) (x : ℕ × Entry) → xs ≡ x ∷ rest → is_open x ≡ false → open_decision es xs o mark ≡ open_decision es all o mark → open_decision es rest o mark ≡ open_decision es all o mark
  passed_open all xs rest x front t so_far =
      ap (λ (b : Bool). cond b (Some x.0) (open_decision es rest o mark)) (sym t)
      ∙ sym (first_by x rest)
      ∙ ap (λ (ys : Entries). open_decision es ys o mark) (sym front)
      ∙ so_far

  pub none_open : (all xs : Entries) → xs ≡ [] → open_decision es xs o mark ≡ open_decision es all o mark → None ≡ open_decision es all o mark
  unfolding open_decision
  none_open all xs front so_far = ap (λ (ys : Entries). open_decision es ys o mark) (sym front) ∙ so_far

-- ---- forgetting

module _ (m : Meaning) where
  forgets_by : (o : Oid) (es : Entries) (mark : ℕ) (d : Option (told.Base m)) → load_from m es o mark ≡ d → may_forget m es o mark ≡ forget_fault m es o mark d
  unfolding may_forget
  forgets_by o es mark d is = ap (λ (x : Option (told.Base m)). forget_fault m es o mark x) is

  -- no checkpoint reaches the mark
  pub forgets_fault : (A : Type 0) (o : Oid) (es : Entries) (mark : ℕ) (e : LoadFault) → Loads m o (Err e) (load_from m es o mark) → Forgets m {A = A} o (Err (of_load e)) (may_forget m es o mark)
  forgets_fault A o es mark (loads.NoCheckpoint q) h = (h.0, forgets_by o es mark None h.1)
  forgets_fault A o es mark loads.NoMemory h = tt

  some_there : (b : Base m.state) (d : Option (told.Base m)) → KeepsMaybe m (Some b) d → (o : Oid) (es : Entries) (mark : ℕ) → forget_fault m es o mark d ≡ open_fault m (open_decision es es o mark)
  some_there b None h o es mark = absurd h
  some_there b (Some d) h o es mark = refl

  closed : {A : Type 0} (o : Oid) (r : Result A ForgetFault) (p : Option ℕ) → Closes r p → Forgets m o r (open_fault m p)
  closed o (Ok x) p h = ap (λ (q : Option ℕ). open_fault m q) h
  closed o (Err (forgets.OpenDecision q)) p h = ap (λ (x : Option ℕ). open_fault m x) h
  closed o (Err forgets.NoMemory) p h = tt
  closed o (Err (forgets.NoCheckpoint q)) p h = absurd h

  -- one does, and so it rests with the decision records
  pub forgets_on : {A : Type 0} (o : Oid) (es : Entries) (mark : ℕ) (b : Base m.state) (r : Result A ForgetFault) → Loads m o (Ok b) (load_from m es o mark) → Closes r (open_decision es es o mark)
      → Forgets m o r (may_forget m es o mark)
  forgets_on o es mark b r h closes =
      subst (λ (f : Option (forgetting.ForgetFault m)). Forgets m o r f)
      (sym (forgets_by o es mark (load_from m es o mark) refl ∙ some_there b (load_from m es o mark) h o es mark))
      (closed o r (open_decision es es o mark) closes)
