-- States of objects that a run's history makes are such as their kinds have.
use Rattle.std.proofs.Common.{◌≡◌, ◌⊎◌, ℕ, List, [], ◌∷◌, Bool, true, false, cond, refl, sym, ap, ◌∙◌, subst, inl, inr}
use Rattle.std.specs.Prelude.{nat_lt}
use Rattle.tg_base.specs.declared.ids.Oid.{Oid}
use Rattle.tg_base.specs.Orders.{oid_eq}
use Rattle.tg_model.specs.Kinds.{DoneOf}
use Rattle.tg_model.specs.Stores.{History, Store, stored_state, with_stored_state, after_writes, store_after, state_at}
use Rattle.tg_any.specs.declared.any.AnyKind.{AnyKind}
use Rattle.tg_any.specs.declared.any.AnyOp.{AnyOp}
use Rattle.tg_any.specs.AllKinds.{all_kinds}
use Rattle.tg_any.specs.Anys as any
use Rattle.tg_any.specs.AnyLaws as laws
use Rattle.tg_law_layouts.proofs.Moves.Members.{Has}
use Rattle.tg_law_replies.proofs.History.Members.{same_oid}

module _ (objects : List Oid) where
  abbrev state : Store all_kinds → Oid → AnyKind
  state s o = stored_state all_kinds objects s o

  -- what a store has after a state is put in: that state, or what it had
  with_one : (s : Store all_kinds) (p : Oid) (st : AnyKind) (o : Oid) → ((state (with_stored_state all_kinds s p st) o ≡ st) × (oid_eq p o ≡ true)) ⊎ (state (with_stored_state all_kinds s p st) o ≡ state s o)
  with_one [] p st o = by (oid_eq p o) refl
    where
      by : (b : Bool) → oid_eq p o ≡ b → ((cond b st (all_kinds.fresh o objects) ≡ st) × (oid_eq p o ≡ true)) ⊎ (cond b st (all_kinds.fresh o objects) ≡ all_kinds.fresh o objects)
      by true is = inl (refl, is)
      by false is = inr refl
  with_one (x ∷ xs) p st o = by (oid_eq x.0 p) refl (with_one xs p st o)
    where
      at : (b : Bool) → oid_eq p o ≡ b → oid_eq x.0 p ≡ true → ((cond b st (state xs o) ≡ st) × (oid_eq p o ≡ true)) ⊎ (cond b st (state xs o) ≡ state (x ∷ xs) o)
      at true is same = inl (refl, is)
      at false is same = inr (ap (λ (t : Bool). cond t x.1 (state xs o)) (sym (ap (λ (q : Oid). oid_eq q o) (same_oid x.0 p same) ∙ is)))

      past : (b : Bool) → ((state (with_stored_state all_kinds xs p st) o ≡ st) × (oid_eq p o ≡ true)) ⊎ (state (with_stored_state all_kinds xs p st) o ≡ state xs o)
          → ((cond b x.1 (state (with_stored_state all_kinds xs p st) o) ≡ st) × (oid_eq p o ≡ true)) ⊎ (cond b x.1 (state (with_stored_state all_kinds xs p st) o) ≡ cond b x.1 (state xs o))
      past true rest = inr refl
      past false rest = rest

      by : (b : Bool) → oid_eq x.0 p ≡ b → ((state (with_stored_state all_kinds xs p st) o ≡ st) × (oid_eq p o ≡ true)) ⊎ (state (with_stored_state all_kinds xs p st) o ≡ state xs o)
          → ((state (cond b ((p, st) ∷ xs) (x ∷ with_stored_state all_kinds xs p st)) o ≡ st) × (oid_eq p o ≡ true)) ⊎ (state (cond b ((p, st) ∷ xs) (x ∷ with_stored_state all_kinds xs p st)) o ≡ state (x ∷ xs) o)
      by true same rest = at (oid_eq p o) refl same
      by false other rest = past (oid_eq x.0 o) rest

  -- each object's state is one of its kind
  abbrev IsKept : Store all_kinds → Type 0
  IsKept s = (o : Oid) → any.is_object o ≡ true → any.is_state o (state s o) ≡ true

  -- writes are ops
  abbrev pub AreOps : List (Oid × AnyOp) → Type 0
  AreOps ws = (w : Oid × AnyOp) → Has ws w → any.is_op w.1 ≡ true

  one_kept : (s : Store all_kinds) (w : Oid × AnyOp) → any.is_op w.1 ≡ true → IsKept s → IsKept (with_stored_state all_kinds s w.0 (all_kinds.apply (state s w.0) w.1))
  one_kept s w op k o is = by (with_one s w.0 (all_kinds.apply (state s w.0) w.1) o)
    where
      by : ((state (with_stored_state all_kinds s w.0 (all_kinds.apply (state s w.0) w.1)) o ≡ all_kinds.apply (state s w.0) w.1) × (oid_eq w.0 o ≡ true)) ⊎ (state (with_stored_state all_kinds s w.0 (all_kinds.apply (state s w.0) w.1)) o ≡ state s o)
          → any.is_state o (state (with_stored_state all_kinds s w.0 (all_kinds.apply (state s w.0) w.1)) o) ≡ true
      by (inl e) =
          let at = sym (same_oid w.0 o e.1) in
          subst (λ (t : AnyKind). any.is_state o t ≡ true) (sym e.0)
          (subst (λ (q : Oid). any.is_state o (all_kinds.apply (state s q) w.1) ≡ true) at (laws.applied_is o (state s o) w.1 (k o is) op))
      by (inr e) = subst (λ (t : AnyKind). any.is_state o t ≡ true) (sym e) (k o is)

  writes_kept : (ws : List (Oid × AnyOp)) (s : Store all_kinds) → AreOps ws → IsKept s → IsKept (after_writes all_kinds objects s ws)
  writes_kept [] s ops k = k
  writes_kept (w ∷ ws) s ops k = writes_kept ws (with_stored_state all_kinds s w.0 (all_kinds.apply (state s w.0) w.1)) (λ v i. ops v (inr i)) (one_kept s w (ops w (inl refl)) k)

  after_kept : (h : History all_kinds) (s : Store all_kinds) (n : ℕ) → ((d : DoneOf all_kinds) → Has h d → AreOps d.writes) → IsKept s → IsKept (store_after all_kinds objects s h n)
  unfolding store_after
  after_kept [] s n ops k = k
  after_kept (d ∷ ds) s n ops k = by (nat_lt d.stamp n) (after_kept ds s n (λ e i. ops e (inr i)) k) (after_kept ds (after_writes all_kinds objects s d.writes) n (λ e i. ops e (inr i)) (writes_kept d.writes s (ops d (inl refl)) k))
    where
      by : (b : Bool) → IsKept (store_after all_kinds objects s ds n) → IsKept (store_after all_kinds objects (after_writes all_kinds objects s d.writes) ds n)
          → IsKept (cond b (store_after all_kinds objects (after_writes all_kinds objects s d.writes) ds n) (store_after all_kinds objects s ds n))
      by true x y = y
      by false x y = x

  pub states_kept : (h : History all_kinds) (n : ℕ) (o : Oid) → ((d : DoneOf all_kinds) → Has h d → AreOps d.writes) → ((p : Oid) → any.is_object p ≡ true → any.is_state p (all_kinds.fresh p objects) ≡ true) → any.is_object o ≡ true → any.is_state o (state_at all_kinds objects h n o) ≡ true
  states_kept h n o ops first is = after_kept h [] n ops first o is
