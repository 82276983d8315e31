-- Answers, after the directory is taken over, and refusals.
use Rattle.std.proofs.Common.{◌≡◌, ℕ, List, [], ◌∷◌, Option, Some, None, Result, Ok, Err, refl, sym, subst}
use Rattle.std.specs.Prelude.{IfOk}
use Rattle.tg_base.specs.declared.fault.NoMemory.{NoMemory}
use Rattle.tg_kind.specs.Meaning.{Meaning}
use Rattle.tg_model.specs.Kinds.{NoteOf, WhatOf}
use Rattle.tg_model.specs.declared.refusal.Refusal.{Refusal}
use Rattle.tg_model.specs.declared.trace.What.TheVariants as told
use Rattle.tg_protocol.specs.Views.{View}
use Rattle.tg_protocol.specs.Clients.{Client}
use Rattle.tg_protocol.specs.Answers.{note, took_over, replies, refuses, answers}
use Rattle.tg_client_state.specs.States.{StateOf, MovedOf, Rest, client_of, rest_of, KeepsViewIf, KeepsMoved}

carried : {A E : Type 0} (r : Result A E) (P Q : A → Type 0) → ((x : A) → P x → Q x) → IfOk r P → IfOk r Q
carried (Ok x) P Q f h = f x h
carried (Err e) P Q f h = h

module _ (m : Meaning) where
  took-view : (c : Client m) (v : Option (View m)) → (took_over m c v).view ≡ c.view
  took-view c None = refl
  took-view c (Some v) = refl

  -- the view that is kept is as before
  pub view_taken : (s t : StateOf m) (r : Rest m) → t.view ≡ s.view → KeepsViewIf m s.view r.view → KeepsViewIf m t.view (took_over m (client_of m s r) r.view).view
  view_taken s t r e h =
      subst (λ (v : Option (View m)). KeepsViewIf m t.view v) (sym (took-view (client_of m s r) r.view))
      (subst (λ k. KeepsViewIf m k r.view) (sym e) h)

  pub answered : (s t : StateOf m) (r : Rest m) (old tx : ℕ) (what : WhatOf m) (notes : List (NoteOf m)) (x : Result (MovedOf m) NoMemory) →
      took_over m (client_of m s r) r.view ≡ client_of m t (rest_of m (took_over m (client_of m s r) r.view)) →
      notes ≡ note m tx what ∷ [] →
      IfOk x (λ y. KeepsMoved m old y (replies m (client_of m t (rest_of m (took_over m (client_of m s r) r.view))) notes)) →
      IfOk x (λ y. KeepsMoved m old y (answers m (client_of m s r) tx what))
  answered s t r old tx what notes x hc hn h =
      carried x (λ y. KeepsMoved m old y (replies m (client_of m t (rest_of m (took_over m (client_of m s r) r.view))) notes)) (λ y. KeepsMoved m old y (answers m (client_of m s r) tx what))
      (λ y k.
      subst (λ (l : List (NoteOf m)). KeepsMoved m old y (replies m (took_over m (client_of m s r) r.view) l)) hn
      (subst (λ (c : Client m). KeepsMoved m old y (replies m c notes)) (sym hc) k)) h

  pub refused : (c : Client m) (old tx : ℕ) (why : Refusal) (notes : List (NoteOf m)) (x : Result (MovedOf m) NoMemory) →
      notes ≡ note m tx (told.Refused why) ∷ [] →
      IfOk x (λ y. KeepsMoved m old y (replies m c notes)) → IfOk x (λ y. KeepsMoved m old y (refuses m c tx why))
  refused c old tx why notes x hn h = subst (λ (l : List (NoteOf m)). IfOk x (λ y. KeepsMoved m old y (replies m c l))) hn h
