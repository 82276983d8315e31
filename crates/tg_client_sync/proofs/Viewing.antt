-- What a kept view says, and what checkpoints reach.
use Rattle.std.proofs.Common.{◌≡◌, ℕ, Bool, true, false, not, ◌&&◌, Option, Some, None, Result, Ok, Err, refl, sym, ap, subst}
use Rattle.std.specs.Prelude.{is_some, nat_lt}
use Rattle.tg_base.specs.declared.ids.Oid.{Oid}
use Rattle.tg_kind.specs.Meaning.{Meaning}
use Rattle.tg_protocol.specs.Views as told
use Rattle.tg_protocol.specs.Views.{View, fate_of}
use Rattle.tg_protocol.specs.ClientSteps.{fate_missing}
use Rattle.tg_play.specs.Kept.{Kept}
use Rattle.tg_play.specs.Relations.{KeepsView}
use Rattle.tg_play.specs.declared.base.Base.{Base}
use Rattle.tg_ckpt.specs.declared.fault.LoadFault.{LoadFault}
use Rattle.tg_ckpt.specs.declared.fault.LoadFault.TheVariants.{NoCheckpoint}
use Rattle.tg_ckpt.specs.Answers.{Loads}
use Rattle.tg_client_state.specs.States.{KeepsViewIf}

module _ (m : Meaning) where
  -- Checkpoints.

  loads-base : (o : Oid) (b : Base m.state) (d : Option (told.Base m)) → Loads m o (Ok b) d → true ≡ is_some d
  loads-base o b None h = absurd h
  loads-base o b (Some x) h = refl

  pub loads_some : (o : Oid) (x : Result (Base m.state) LoadFault) (b : Base m.state) (d : Option (told.Base m)) → x ≡ Ok b → Loads m o x d → true ≡ is_some d
  loads_some o x b d e h = loads-base o b d (subst (λ (y : Result (Base m.state) LoadFault). Loads m o y d) e h)

  pub loads_none : (o : Oid) (x : Result (Base m.state) LoadFault) (f : LoadFault) (q : Oid) (d : Option (told.Base m)) → x ≡ Err f → f ≡ NoCheckpoint q → Loads m o x d → false ≡ is_some d
  loads_none o x f q d e k h =
      let told-of = subst (λ (y : LoadFault). Loads m o (Err y) d) k (subst (λ (y : Result (Base m.state) LoadFault). Loads m o y d) e h) in
      sym (ap (λ (y : Option (told.Base m)). is_some y) told-of.1)

  -- A view.

  none-lacks : (v : Option (View m)) (p : ℕ) → KeepsViewIf m None v → true ≡ fate_missing m v p
  none-lacks None p h = refl
  none-lacks (Some v) p h = absurd h

  pub lacks_none : (k : Option (Kept m.state)) (v : Option (View m)) (p : ℕ) → k ≡ None → KeepsViewIf m k v → true ≡ fate_missing m v p
  lacks_none k v p e h = none-lacks v p (subst (λ (y : Option (Kept m.state)). KeepsViewIf m y v) e h)

  some-lacks : (x : Kept m.state) (v : Option (View m)) (p : ℕ) (b : Bool) → KeepsViewIf m (Some x) v → ((u : View m) → KeepsView m x u → b ≡ (nat_lt p u.upto && not (is_some (fate_of m u p)))) →
      b ≡ fate_missing m v p
  some-lacks x None p b h f = absurd h
  some-lacks x (Some v) p b h f = f v h

  pub lacks_some : (k : Option (Kept m.state)) (x : Kept m.state) (v : Option (View m)) (p : ℕ) (b : Bool) → k ≡ Some x → KeepsViewIf m k v →
      ((u : View m) → KeepsView m x u → b ≡ (nat_lt p u.upto && not (is_some (fate_of m u p)))) → b ≡ fate_missing m v p
  lacks_some k x v p b e h f = some-lacks x v p b (subst (λ (y : Option (Kept m.state)). KeepsViewIf m y v) e h) f
