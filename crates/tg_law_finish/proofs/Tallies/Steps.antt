-- What holds of each step of a run, one after the other.
use Rattle.std.proofs.Common.{◌≡◌, [], ◌∷◌, ◌++◌, refl, sym, ap, ◌∙◌, subst}
use Rattle.tg_base.specs.Clusters.{Header}
use Rattle.tg_kind.specs.Meaning.{Meaning}
use Rattle.tg_model.specs.Kinds.{EventOf}
use Rattle.tg_protocol.specs.Worlds.{World, start, happens, next_event}
use Rattle.tg_protocol.specs.Runs.{Move, Moves, Next, Takes, run}
use Rattle.tg_law_replies.specs.Replies.Runs.{InEachStep}
use Rattle.tg_law_replies.proofs.Replies.Along.{run_on, with_none, one_by_one}

module _ (m : Meaning) (h : Header) (P : Moves m → World m → EventOf m → Type 0) where
  -- of the moves from a world on, after others
  abbrev pub EachFrom : Moves m → World m → Moves m → Type 0
  EachFrom done w [] = Unit {0}
  EachFrom done w (Next ∷ rest) = EachFrom (done ++ Next ∷ []) (next_event m w) rest
  EachFrom done w (Takes e ∷ rest) = P done w e × EachFrom (done ++ Takes e ∷ []) (happens m w e) rest

  none_split : (before after : Moves m) (e : EventOf m) → [] ≡ before ++ Takes e ∷ after → ⊥
  none_split [] after e z = cc
  none_split (x ∷ before) after e z = cc

  no_next : (e : EventOf m) → ◌≡◌ {A = Move m} Next (Takes e) → ⊥
  no_next e z = cc

  same_event : (d e : EventOf m) → ◌≡◌ {A = Move m} (Takes d) (Takes e) → d ≡ e
  same_event d e z = cc

  first_is : (x y : Move m) (xs ys : Moves m) → x ∷ xs ≡ y ∷ ys → x ≡ y
  first_is x y xs ys z = cc

  rest_is : (x y : Move m) (xs ys : Moves m) → x ∷ xs ≡ y ∷ ys → xs ≡ ys
  rest_is x y xs ys z = cc

  now : (done : Moves m) (w : World m) (d e : EventOf m) → w ≡ run m done (start m h) → d ≡ e → P done w d → P (done ++ []) (run m (done ++ []) (start m h)) e
  now done w d e is same k =
      subst (λ (xs : Moves m). P xs (run m xs (start m h)) e) (sym (with_none done))
      (subst (λ (v : World m). P done v e) is (subst (λ (x : EventOf m). P done w x) same k))

  from_steps : (done rest : Moves m) (w : World m) → w ≡ run m done (start m h) → EachFrom done w rest → (before after : Moves m) (e : EventOf m) → rest ≡ before ++ Takes e ∷ after
      → P (done ++ before) (run m (done ++ before) (start m h)) e
  from_steps done [] w is k before after e split = absurd (none_split before after e split)
  from_steps done (Next ∷ rest) w is k [] after e split = absurd (no_next e (first_is Next (Takes e) rest after split))
  from_steps done (Takes d ∷ rest) w is k [] after e split = now done w d e is (same_event d e (first_is (Takes d) (Takes e) rest after split)) k.0
  from_steps done (Next ∷ rest) w is k (b ∷ before) after e split =
      subst (λ (x : Move m). P (done ++ x ∷ before) (run m (done ++ x ∷ before) (start m h)) e) (first_is Next b rest (before ++ Takes e ∷ after) split)
      (subst (λ (xs : Moves m). P xs (run m xs (start m h)) e) (sym (one_by_one done Next before))
      (from_steps (done ++ Next ∷ []) rest (next_event m w) (ap (λ (v : World m). next_event m v) is ∙ sym (run_on m done Next (start m h))) k before after e (rest_is Next b rest (before ++ Takes e ∷ after) split)))
  from_steps done (Takes d ∷ rest) w is k (b ∷ before) after e split =
      subst (λ (x : Move m). P (done ++ x ∷ before) (run m (done ++ x ∷ before) (start m h)) e) (first_is (Takes d) b rest (before ++ Takes e ∷ after) split)
      (subst (λ (xs : Moves m). P xs (run m xs (start m h)) e) (sym (one_by_one done (Takes d) before))
      (from_steps (done ++ Takes d ∷ []) rest (happens m w d) (ap (λ (v : World m). happens m v d) is ∙ sym (run_on m done (Takes d) (start m h))) k.1 before after e (rest_is (Takes d) b rest (before ++ Takes e ∷ after) split)))

  begins : start m h ≡ run m [] (start m h)
  unfolding run
  begins = refl

  -- so it holds in each step of the run
  pub by_steps : (ms : Moves m) → EachFrom [] (start m h) ms → InEachStep m h ms P
  by_steps ms k before after e split = from_steps [] ms (start m h) begins k before after e split
