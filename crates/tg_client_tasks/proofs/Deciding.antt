-- The answer that waited for a decision record.
use Rattle.std.proofs.Common.{◌≡◌, ◌≤◌, ℕ, List, Result, refl, sym, ap, subst}
use Rattle.std.specs.Prelude.{IfOk}
use Rattle.tg_base.specs.declared.fault.NoMemory.{NoMemory}
use Rattle.tg_base.specs.declared.ids.Oid.{Oid}
use Rattle.tg_kind.specs.Meaning.{Meaning}
use Rattle.tg_model.specs.declared.command.Command.TheVariants as cmd
use Rattle.tg_model.specs.Kinds.{CommandOf, WhatOf, NoteOf}
use Rattle.tg_protocol.specs.Answers.{answers, replies, syncs, took_over}
use Rattle.tg_client_state.specs.States.{StateOf, MovedOf, Rest, client_of, rest_of, KeepsViewIf, KeepsMoved}
use Rattle.tg_client_state.proofs.Answered.{view_taken}
use Rattle.tg_protocol.specs.Clients as told
use Rattle.tg_protocol.specs.Clients.{Client}
use Rattle.tg_client_state.specs.Tasks.{JobOf, PurposeOf, told_purpose, KeepsJob}
use Rattle.tg_protocol.specs.ClientSteps.{decided_for}

module _ (m : Meaning) where
  -- of every command but `end`
  pub other_decided : (c : Client m) (x : CommandOf m) (a : WhatOf m) → (x ≡ cmd.End → ⊥) → answers m c 0 a ≡ decided_for m c x a
  other_decided c cmd.End a h = absurd (h refl)
  other_decided c _ a h = refl

  pub by_purpose : (P : told.Purpose m → Type 0) (p q : PurposeOf m) → p ≡ q → P (told_purpose m q) → P (told_purpose m p)
  by_purpose P p q e h = subst (λ (x : PurposeOf m). P (told_purpose m x)) (sym e) h

  pub command_is : (j : JobOf m) (w : told.Work m) → KeepsJob m j w → j.command ≡ w.command
  command_is j w h = sym (ap (λ (u : told.Work m). u.command) h)

  pub took_replied : (x : Result (MovedOf m) NoMemory) (s t u : StateOf m) (r : Rest m) (old : ℕ) (ns ms : List (NoteOf m)) → s ≡ u →
      took_over m (client_of m s r) r.view ≡ client_of m t (rest_of m (took_over m (client_of m s r) r.view)) → t.view ≡ s.view → ns ≡ ms →
      ((q : Rest m) (o : ℕ) → KeepsViewIf m t.view q.view → IfOk x (λ y. KeepsMoved m o y (replies m (client_of m t q) ns))) → KeepsViewIf m u.view r.view →
      IfOk x (λ y. KeepsMoved m old y (replies m (took_over m (client_of m u r) r.view) ms))
  took_replied x s t u r old ns ms e ht hv hn f h =
      subst (λ (v : StateOf m). IfOk x (λ y. KeepsMoved m old y (replies m (took_over m (client_of m v r) r.view) ms))) e
      (subst (λ (l : List (NoteOf m)). IfOk x (λ y. KeepsMoved m old y (replies m (took_over m (client_of m s r) r.view) l))) hn
      (subst (λ (c : told.Client m). IfOk x (λ y. KeepsMoved m old y (replies m c ns))) (sym ht)
      (f (rest_of m (took_over m (client_of m s r) r.view)) old (view_taken m s t r hv (subst (λ (v : StateOf m). KeepsViewIf m v.view r.view) (sym e) h)))))

  pub syncs_at : (x : Result (MovedOf m) NoMemory) (s u : StateOf m) (k : JobOf m) (r : Rest m) (w : told.Work m) (old : ℕ) (os ps : List Oid) → s ≡ u → os ≡ ps →
      ((q : Rest m) (v : told.Work m) (o : ℕ) → o ≤ s.rids.next → KeepsViewIf m s.view q.view → KeepsJob m k v → IfOk x (λ y. KeepsMoved m o y (syncs m (client_of m s q) v os))) →
      old ≤ u.rids.next → KeepsViewIf m u.view r.view → KeepsJob m k w → IfOk x (λ y. KeepsMoved m old y (syncs m (client_of m u r) w ps))
  syncs_at x s u k r w old os ps e hp f since hv hk =
      subst (λ (l : List Oid). IfOk x (λ y. KeepsMoved m old y (syncs m (client_of m u r) w l))) hp
      (subst (λ (v : StateOf m). old ≤ v.rids.next → KeepsViewIf m v.view r.view → IfOk x (λ y. KeepsMoved m old y (syncs m (client_of m v r) w os))) e (λ a b. f r w old a b hk) since hv)
