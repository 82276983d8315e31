-- Decision records and commit records among entries.
use Rattle.std.proofs.Common.{◌≡◌, sym, subst, ℕ, [], ◌∷◌, Bool, true, false, refl, ◌∙◌, inl, inr, Option, Some, None}
use Rattle.std.specs.Prelude.{◌==◌, ◌&&◌, if◌then◌else◌}
use Rattle.tg_entry.specs.declared.entry.Body.{Body}
use Rattle.tg_entry.specs.declared.entry.Body.TheVariants.{Commit, Decision, Checkpoint}
use Rattle.tg_entry.specs.declared.entry.Entry.{Entry}
use Rattle.tg_kind.specs.Meaning.{Meaning}
use Rattle.tg_protocol.specs.Words.{where_true, or_else}
use Rattle.tg_protocol.specs.Entries.{is_commit, decides}
use Rattle.tg_protocol.specs.Views.{Entries, decision_in}
use Rattle.tg_protocol.specs.Past.{commit_at}
use Rattle.tg_law_replies.proofs.History.Members.{Has, same_number, and_both}

-- a decision among some entries stands in one of them
pub record IsDecision (own : Entries) (p : ℕ) (b : Bool) : Type 0 where
  pub at : ℕ
  pub entry : Entry
  pub here : Has own (at, entry)
  pub is : entry.body ≡ Decision p b

decides_is : (p : ℕ) (b : Bool) (c : Body) → decides p c ≡ Some b → c ≡ Decision p b
decides_is p b (Commit rs ws) e = absurd (none e)
  where
    none : None ≡ Some b → ⊥
    none z = cc
decides_is p b (Checkpoint o u v k ks s) e = absurd (none e)
  where
    none : None ≡ Some b → ⊥
    none z = cc
decides_is p b (Decision at c) e = by (at == p) refl e
  where
    none : None ≡ Some b → ⊥
    none z = cc

    one : Some c ≡ Some b → c ≡ b
    one z = cc

    by : (t : Bool) → (at == p) ≡ t → where_true t c ≡ Some b → Decision at c ≡ Decision p b
    by true k z = let x = same_number at p k in let y = one z in λ i. Decision (x i) (y i)
    by false k z = absurd (none z)

pub decision_there : (own : Entries) (p : ℕ) (b : Bool) → decision_in own p ≡ Some b → IsDecision own p b
unfolding decision_in
decision_there [] p b e = absurd (none e)
  where
    none : None ≡ Some b → ⊥
    none z = cc
decision_there (x ∷ own) p b e = by (decides p x.1.body) refl e (λ k. decision_there own p b k)
  where
    one : (c : Bool) → Some c ≡ Some b → Some c ≡ Some b
    one c z = z

    by : (o : Option Bool) → decides p x.1.body ≡ o → or_else o (decision_in own p) ≡ Some b → (decision_in own p ≡ Some b → IsDecision own p b) → IsDecision (x ∷ own) p b
    by (Some c) is k rest = record { at = x.0; entry = x.1; here = inl refl; is = decides_is p b x.1.body (is ∙ k) }
    by None is k rest = let d = rest k in record { at = d.at; entry = d.entry; here = inr d.here; is = d.is }

module _ (m : Meaning) where
  -- the entry that is found at a position stands there
  pub commit_there : (es : Entries) (p : ℕ) (e : Entry) → commit_at es p ≡ Some e → Has es (p, e) × (is_commit e ≡ true)
  unfolding commit_at
  commit_there [] p e is = absurd (no is)
    where
      no : None ≡ Some e → ⊥
      no z = cc
  commit_there (x ∷ es) p e is = by ((x.0 == p) && is_commit x.1) refl is (commit_there es p e)
    where
      one : Some x.1 ≡ Some e → x.1 ≡ e
      one z = cc

      by : (b : Bool) → ((x.0 == p) && is_commit x.1) ≡ b → (if b then Some x.1 else commit_at es p) ≡ Some e → (commit_at es p ≡ Some e → Has es (p, e) × (is_commit e ≡ true))
          → Has (x ∷ es) (p, e) × (is_commit e ≡ true)
      by true t i rest =
          let c = and_both (x.0 == p) (is_commit x.1) t in
          let at = same_number x.0 p c.0 in
          (inl (λ j. (sym at j, sym (one i) j)), subst (λ (f : Entry). is_commit f ≡ true) (one i) c.1)
      by false t i rest = let r = rest i in (inr r.0, r.1)
