-- Texts, keys and paths of one digit.
use Rattle.std.proofs.Common.{◌≡◌, ℕ, zero, suc, ◌+◌, ◌<◌, List, [], ◌∷◌, Option, Some, true, refl, arith}
use Rattle.std.specs.Prelude.{if◌then◌else◌}
use Rattle.tg_codec.specs.Codec.{fit_many}
use Rattle.tg_kind.specs.Texts as texts
use Rattle.tg_tree.specs.Paths as paths
use Rattle.tg_gen.specs.Loads.{text_of, key_of, path_of}

-- what holds of each number below 8
pub by_digit : (P : ℕ → Type 0) → P 0 → P 1 → P 2 → P 3 → P 4 → P 5 → P 6 → P 7 → (v : ℕ) → v < 8 → P v
by_digit P a b c d e f g h zero l = a
by_digit P a b c d e f g h (suc zero) l = b
by_digit P a b c d e f g h (suc (suc zero)) l = c
by_digit P a b c d e f g h (suc (suc (suc zero))) l = d
by_digit P a b c d e f g h (suc (suc (suc (suc zero)))) l = e
by_digit P a b c d e f g h (suc (suc (suc (suc (suc zero))))) l = f
by_digit P a b c d e f g h (suc (suc (suc (suc (suc (suc zero)))))) l = g
by_digit P a b c d e f g h (suc (suc (suc (suc (suc (suc (suc zero))))))) l = h
by_digit P a b c d e f g h (suc (suc (suc (suc (suc (suc (suc (suc n)))))))) l = absurd (omega (arith, l))

pub text_is : (v : ℕ) → v < 8 → texts.text_of (text_of v) ≡ Some (text_of v)
unfolding fit_many
text_is = by_digit (λ v. texts.text_of (text_of v) ≡ Some (text_of v)) refl refl refl refl refl refl refl refl

pub key_is : (v : ℕ) → v < 8 → texts.text_of (key_of v) ≡ Some (key_of v)
unfolding fit_many
key_is = by_digit (λ v. texts.text_of (key_of v) ≡ Some (key_of v)) refl refl refl refl refl refl refl refl

pub path_is : (v : ℕ) → v < 8 → paths.path_of (path_of v) ≡ Some (path_of v)
unfolding fit_many
path_is = by_digit (λ v. paths.path_of (path_of v) ≡ Some (path_of v)) refl refl refl refl refl refl refl refl

pub root_is : paths.path_of (47 ∷ []) ≡ Some (47 ∷ [])
unfolding fit_many
root_is = refl
