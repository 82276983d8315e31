-- Numbers whose bytes are all there, read at once.
use Rattle.std.proofs.Common.{◌≡◌, ℕ, suc, ◌+◌, ◌-◌, ◌≤◌, true, List, [], ◌∷◌, ◌++◌, length, get_or, take, drop, Ok, refl, sym, subst, ◌∙◌, arith}
use Rattle.std.specs.Int.{w16, w32, w64, from_be_bytes}
use Rattle.std.proofs.lemmas.List.{take_all}
use Rattle.tg_codec.specs.Reading.{meets, number_at, u8_at, u16_at, u32_at, u64_at}
use Rattle.tg_codec.proofs.Laws.{IsBytes, IsBytes-front}
use Rattle.tg_codec.proofs.Numbers.{place, worth, number_again}
use Rattle.tg_codec.proofs.Widths.{worth-w16, worth-w32, worth-w64}

-- some bytes that stand in front, read as a number of that width
module _ (allowed : List (ℕ × ℕ)) (v : ℕ) (met : meets allowed v v ≡ true) where
  at_once : (n left : ℕ) (front rest : List ℕ) → IsBytes (front ++ rest) → length front ≡ suc n → worth front ≡ v → left ≡ length rest
      → number_at allowed (suc n) (place n) 0 (front ++ rest) ≡ Ok (v, take left rest)
  at_once n left front rest fits sized is all =
      let value : 0 + worth front ≡ v = omega (arith, is) in
      number_again allowed n 0 front rest (IsBytes-front (front ++ rest) front rest refl fits) sized (subst (λ k. meets allowed k k ≡ true) (sym value) met)
      ∙ (λ i. Ok (value i, sym (take_all left rest (omega (arith, all))) i))

  pub u8_whole : (bytes : List ℕ) → IsBytes bytes → 1 ≤ length bytes → v ≡ get_or bytes 0 0 → u8_at allowed bytes ≡ Ok (v, take (length bytes - 1) (drop 1 bytes))
  unfolding u8_at
  u8_whole [] fits h is = absurd (omega (arith, h))
  u8_whole (a ∷ rest) fits h is = at_once 0 (length (a ∷ rest) - 1) (a ∷ []) rest fits refl (omega (arith, is)) (omega arith)

  pub u16_whole : (bytes : List ℕ) → IsBytes bytes → 2 ≤ length bytes → v ≡ from_be_bytes w16 (get_or bytes 0 0 ∷ get_or bytes 1 0 ∷ []) → u16_at allowed bytes ≡ Ok (v, take (length bytes - 2) (drop 2 bytes))
  unfolding u16_at
  u16_whole [] fits h is = absurd (omega (arith, h))
  u16_whole (a ∷ []) fits h is = absurd (omega (arith, h))
  u16_whole (a ∷ b ∷ rest) fits h is = at_once 1 (length (a ∷ b ∷ rest) - 2) (a ∷ b ∷ []) rest fits refl (worth-w16 (a ∷ b ∷ []) refl ∙ sym is) (omega arith)

  pub u32_whole : (bytes : List ℕ) → IsBytes bytes → 4 ≤ length bytes → v ≡ from_be_bytes w32 (get_or bytes 0 0 ∷ get_or bytes 1 0 ∷ get_or bytes 2 0 ∷ get_or bytes 3 0 ∷ [])
      → u32_at allowed bytes ≡ Ok (v, take (length bytes - 4) (drop 4 bytes))
  unfolding u32_at
  u32_whole [] fits h is = absurd (omega (arith, h))
  u32_whole (a ∷ []) fits h is = absurd (omega (arith, h))
  u32_whole (a ∷ b ∷ []) fits h is = absurd (omega (arith, h))
  u32_whole (a ∷ b ∷ c ∷ []) fits h is = absurd (omega (arith, h))
  u32_whole (a ∷ b ∷ c ∷ d ∷ rest) fits h is = at_once 3 (length (a ∷ b ∷ c ∷ d ∷ rest) - 4) (a ∷ b ∷ c ∷ d ∷ []) rest fits refl (worth-w32 (a ∷ b ∷ c ∷ d ∷ []) refl ∙ sym is) (omega arith)

  pub u64_whole : (bytes : List ℕ) → IsBytes bytes → 8 ≤ length bytes
      → v ≡ from_be_bytes w64 (get_or bytes 0 0 ∷ get_or bytes 1 0 ∷ get_or bytes 2 0 ∷ get_or bytes 3 0 ∷ get_or bytes 4 0 ∷ get_or bytes 5 0 ∷ get_or bytes 6 0 ∷ get_or bytes 7 0 ∷ [])
      → u64_at allowed bytes ≡ Ok (v, take (length bytes - 8) (drop 8 bytes))
  unfolding u64_at
  u64_whole [] fits h is = absurd (omega (arith, h))
  u64_whole (a ∷ []) fits h is = absurd (omega (arith, h))
  u64_whole (a ∷ b ∷ []) fits h is = absurd (omega (arith, h))
  u64_whole (a ∷ b ∷ c ∷ []) fits h is = absurd (omega (arith, h))
  u64_whole (a ∷ b ∷ c ∷ d ∷ []) fits h is = absurd (omega (arith, h))
  u64_whole (a ∷ b ∷ c ∷ d ∷ e ∷ []) fits h is = absurd (omega (arith, h))
  u64_whole (a ∷ b ∷ c ∷ d ∷ e ∷ f ∷ []) fits h is = absurd (omega (arith, h))
  u64_whole (a ∷ b ∷ c ∷ d ∷ e ∷ f ∷ g ∷ []) fits h is = absurd (omega (arith, h))
  u64_whole (a ∷ b ∷ c ∷ d ∷ e ∷ f ∷ g ∷ k ∷ rest) fits h is =
      at_once 7 (length (a ∷ b ∷ c ∷ d ∷ e ∷ f ∷ g ∷ k ∷ rest) - 8) (a ∷ b ∷ c ∷ d ∷ e ∷ f ∷ g ∷ k ∷ []) rest fits refl (worth-w64 (a ∷ b ∷ c ∷ d ∷ e ∷ f ∷ g ∷ k ∷ []) refl ∙ sym is) (omega arith)
