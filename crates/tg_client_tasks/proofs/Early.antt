-- Tests that come before that of a write's record.
use Rattle.std.proofs.Common.{◌≡◌, List, [], ◌∷◌, Option, Some, None, refl, sym, ap, ◌∙◌}
use Rattle.tg_kind.specs.Meaning.{Meaning}
use Rattle.tg_model.specs.declared.refusal.Refusal.{Refusal}
use Rattle.tg_model.specs.Kinds.{CommandOf}
use Rattle.tg_protocol.specs.Words.{first_some}
use Rattle.tg_protocol.specs.Clients.{Client}
use Rattle.tg_client_tasks.specs.Tests.{early_tests, early}

alone : (a : Option Refusal) → a ≡ first_some (a ∷ [])
alone None = refl
alone (Some x) = refl

module _ (m : Meaning) where
  early-by : (c : Client m) (x y : CommandOf m) (ts : List (Option Refusal)) (a : Option Refusal) → x ≡ y → early_tests m c y ≡ ts → a ≡ first_some ts → a ≡ early m c x
  early-by c x y ts a hx ht ha = ha ∙ ap first_some (sym ht) ∙ ap (early m c) (sym hx)

  pub early_one : (c : Client m) (x y : CommandOf m) (a p : Option Refusal) → x ≡ y → early_tests m c y ≡ p ∷ [] → a ≡ p → a ≡ early m c x
  early_one c x y a p hx ht ha = early-by c x y (p ∷ []) a hx ht (ha ∙ alone p)

  pub early_two : (c : Client m) (x y : CommandOf m) (a s t p q : Option Refusal) → x ≡ y → early_tests m c y ≡ p ∷ q ∷ [] → a ≡ first_some (s ∷ t ∷ []) → s ≡ p → t ≡ q → a ≡ early m c x
  early_two c x y a s t p q hx ht ha hs hq = early-by c x y (p ∷ q ∷ []) a hx ht (ha ∙ (λ i. first_some (hs i ∷ hq i ∷ [])))

  pub early_three : (c : Client m) (x y : CommandOf m) (a s t u p q r : Option Refusal) → x ≡ y → early_tests m c y ≡ p ∷ q ∷ r ∷ [] → a ≡ first_some (s ∷ t ∷ u ∷ []) → s ≡ p → t ≡ q → u ≡ r → a ≡ early m c x
  early_three c x y a s t u p q r hx ht ha hs hq hr = early-by c x y (p ∷ q ∷ r ∷ []) a hx ht (ha ∙ (λ i. first_some (hs i ∷ hq i ∷ hr i ∷ [])))

  pub early_four : (c : Client m) (x y : CommandOf m) (a s t u v p q r k : Option Refusal) → x ≡ y → early_tests m c y ≡ p ∷ q ∷ r ∷ k ∷ [] → a ≡ first_some (s ∷ t ∷ u ∷ v ∷ []) → s ≡ p → t ≡ q → u ≡ r → v ≡ k → a ≡ early m c x
  early_four c x y a s t u v p q r k hx ht ha hs hq hr hk = early-by c x y (p ∷ q ∷ r ∷ k ∷ []) a hx ht (ha ∙ (λ i. first_some (hs i ∷ hq i ∷ hr i ∷ hk i ∷ [])))
