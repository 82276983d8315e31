-- The formats of numbers of one, two, four and eight bytes keep the law.
use Rattle.std.proofs.Common.{◌≡◌, ℕ, zero, suc, ◌+◌, ◌*◌, ◌^◌, ◌<◌, true, ltb, ◌&&◌, List, [], ◌∷◌, ◌++◌, length, drop, Ok, refl, sym, ap, subst, ◌∙◌, arith}
use Rattle.std.specs.Int.{w16, w32, w64, to_be_bytes, from_be_bytes}
use Rattle.std.proofs.lemmas.Nat.{be_bytes_2, be_bytes_4, be_bytes_8, from_be_bytes-to_be_bytes_2, from_be_bytes-to_be_bytes_4, from_be_bytes-to_be_bytes_8}
use Rattle.std.proofs.lemmas.Bool.{ltb-true, lt-ltb}
use Rattle.std.proofs.lemmas.List.{drop_at}
use Rattle.tg_codec.specs.Reading.{meets, number_at, u8_at, u16_at, u32_at, u64_at}
use Rattle.tg_codec.specs.Codec.{u8, u16, u32, u64}
use Rattle.tg_codec.proofs.Laws.{IsBytes, IsBytes-drop, IsBytes-front, Takes, IsCodec, and-left, and-right, both}
use Rattle.tg_codec.proofs.Stops.{u8_stops, u16_stops, u32_stops, u64_stops}
use Rattle.tg_codec.proofs.Numbers.{place, worth, worth-lt, number_takes, number_again}

-- numbers of so many bytes, spelled so, below a limit
pub record IsWide (count limit : ℕ) (spell : ℕ → List ℕ) : Type 0 where
  pub back : (front : List ℕ) → length front ≡ count → IsBytes front → (spell (worth front) ≡ front) × (worth front < limit)
  pub len : (n : ℕ) → n < limit → length (spell n) ≡ count
  pub bytes : (n : ℕ) → n < limit → IsBytes (spell n)
  pub again : (n : ℕ) → n < limit → worth (spell n) ≡ n

wide_takes : {limit : ℕ} {spell : ℕ → List ℕ} (n : ℕ) → IsWide (suc n) limit spell → (allowed : List (ℕ × ℕ)) (bytes : List ℕ) (r : ℕ) (rest : List ℕ) → IsBytes bytes → number_at allowed (suc n) (place n) 0 bytes ≡ Ok (r, rest)
    → Takes bytes (spell r) rest × ((meets allowed r r && ltb r limit) ≡ true)
wide_takes {limit} {spell} n wide allowed bytes r rest fits e =
    let t = number_takes allowed n 0 bytes r rest e in
    let value : r ≡ worth t.front = omega (arith, t.is) in
    let back = wide.back t.front t.len (IsBytes-front bytes t.front rest t.parts fits) in
    let spelled : spell r ≡ t.front = ap spell value ∙ back.0 in
    let rest-is : drop (length t.front) bytes ≡ rest = ap (drop (length t.front)) t.parts ∙ drop_at t.front rest (length t.front) refl in
    (record { parts = t.parts ∙ ap (λ (x : List ℕ). x ++ rest) (sym spelled); rest_fits = subst IsBytes rest-is (IsBytes-drop (length t.front) bytes fits) }, both _ _ t.met (lt-ltb _ _ (omega (arith, value, back.1))))

wide_again : {limit : ℕ} {spell : ℕ → List ℕ} (n : ℕ) → IsWide (suc n) limit spell → (allowed : List (ℕ × ℕ)) (r : ℕ) (rest : List ℕ) → (meets allowed r r && ltb r limit) ≡ true → number_at allowed (suc n) (place n) 0 (spell r ++ rest) ≡ Ok (r, rest)
wide_again {limit} {spell} n wide allowed r rest e =
    let lt : r < limit = ltb-true _ _ (and-right _ _ e) in
    let value : worth (spell r) ≡ r = wide.again r lt in
    let value0 : 0 + worth (spell r) ≡ r = omega (arith, value) in
    let met : meets allowed (0 + worth (spell r)) (0 + worth (spell r)) ≡ true = subst (λ k. meets allowed k k ≡ true) (sym value0) (and-left _ _ e) in
    number_again allowed n 0 (spell r) rest (wide.bytes r lt) (wide.len r lt) met ∙ ap (λ k. Ok (k, rest)) value0

pub worth-w16 : (front : List ℕ) → length front ≡ 2 → worth front ≡ from_be_bytes w16 front
worth-w16 [] sized = absurd (omega (arith, sized))
worth-w16 (a ∷ []) sized = absurd (omega (arith, sized))
worth-w16 (a ∷ b ∷ []) sized = omega arith
worth-w16 (a ∷ b ∷ x ∷ xs) sized = absurd (omega (arith, sized))

IsBytes-w16 : (n : ℕ) → IsBytes (to_be_bytes w16 n)
IsBytes-w16 n zero = omega arith
IsBytes-w16 n (suc zero) = omega arith
IsBytes-w16 n (suc (suc i)) = omega arith

pub wide_w16 : IsWide 2 (2 ^ 16) (to_be_bytes w16)
wide_w16 = record {
  back = λ front len fits. (be_bytes_2 front (worth front) len fits (worth-w16 front len), let lt = worth-lt front fits in let same = ap place len in omega (arith, lt, same));
  len = λ n lt. refl;
  bytes = λ n lt. IsBytes-w16 n;
  again = λ n lt. worth-w16 (to_be_bytes w16 n) refl ∙ from_be_bytes-to_be_bytes_2 n lt;
}

pub u16_law : (allowed : List (ℕ × ℕ)) → IsCodec (u16 allowed)
unfolding u16_at
u16_law allowed = record { exact = record { takes = wide_takes 1 wide_w16 allowed; again = wide_again 1 wide_w16 allowed }; stops = u16_stops allowed }

pub worth-w32 : (front : List ℕ) → length front ≡ 4 → worth front ≡ from_be_bytes w32 front
worth-w32 [] sized = absurd (omega (arith, sized))
worth-w32 (a ∷ []) sized = absurd (omega (arith, sized))
worth-w32 (a ∷ b ∷ []) sized = absurd (omega (arith, sized))
worth-w32 (a ∷ b ∷ c ∷ []) sized = absurd (omega (arith, sized))
worth-w32 (a ∷ b ∷ c ∷ d ∷ []) sized = omega arith
worth-w32 (a ∷ b ∷ c ∷ d ∷ x ∷ xs) sized = absurd (omega (arith, sized))

IsBytes-w32 : (n : ℕ) → IsBytes (to_be_bytes w32 n)
IsBytes-w32 n zero = omega arith
IsBytes-w32 n (suc zero) = omega arith
IsBytes-w32 n (suc (suc zero)) = omega arith
IsBytes-w32 n (suc (suc (suc zero))) = omega arith
IsBytes-w32 n (suc (suc (suc (suc i)))) = omega arith

pub wide_w32 : IsWide 4 (2 ^ 32) (to_be_bytes w32)
wide_w32 = record {
  back = λ front len fits. (be_bytes_4 front (worth front) len fits (worth-w32 front len), let lt = worth-lt front fits in let same = ap place len in omega (arith, lt, same));
  len = λ n lt. refl;
  bytes = λ n lt. IsBytes-w32 n;
  again = λ n lt. worth-w32 (to_be_bytes w32 n) refl ∙ from_be_bytes-to_be_bytes_4 n lt;
}

pub u32_law : (allowed : List (ℕ × ℕ)) → IsCodec (u32 allowed)
unfolding u32_at
u32_law allowed = record { exact = record { takes = wide_takes 3 wide_w32 allowed; again = wide_again 3 wide_w32 allowed }; stops = u32_stops allowed }

pub worth-w64 : (front : List ℕ) → length front ≡ 8 → worth front ≡ from_be_bytes w64 front
worth-w64 [] sized = absurd (omega (arith, sized))
worth-w64 (a ∷ []) sized = absurd (omega (arith, sized))
worth-w64 (a ∷ b ∷ []) sized = absurd (omega (arith, sized))
worth-w64 (a ∷ b ∷ c ∷ []) sized = absurd (omega (arith, sized))
worth-w64 (a ∷ b ∷ c ∷ d ∷ []) sized = absurd (omega (arith, sized))
worth-w64 (a ∷ b ∷ c ∷ d ∷ e ∷ []) sized = absurd (omega (arith, sized))
worth-w64 (a ∷ b ∷ c ∷ d ∷ e ∷ f ∷ []) sized = absurd (omega (arith, sized))
worth-w64 (a ∷ b ∷ c ∷ d ∷ e ∷ f ∷ g ∷ []) sized = absurd (omega (arith, sized))
worth-w64 (a ∷ b ∷ c ∷ d ∷ e ∷ f ∷ g ∷ h ∷ []) sized = omega arith
worth-w64 (a ∷ b ∷ c ∷ d ∷ e ∷ f ∷ g ∷ h ∷ x ∷ xs) sized = absurd (omega (arith, sized))

IsBytes-w64 : (n : ℕ) → IsBytes (to_be_bytes w64 n)
IsBytes-w64 n zero = omega arith
IsBytes-w64 n (suc zero) = omega arith
IsBytes-w64 n (suc (suc zero)) = omega arith
IsBytes-w64 n (suc (suc (suc zero))) = omega arith
IsBytes-w64 n (suc (suc (suc (suc zero)))) = omega arith
IsBytes-w64 n (suc (suc (suc (suc (suc zero))))) = omega arith
IsBytes-w64 n (suc (suc (suc (suc (suc (suc zero)))))) = omega arith
IsBytes-w64 n (suc (suc (suc (suc (suc (suc (suc zero))))))) = omega arith
IsBytes-w64 n (suc (suc (suc (suc (suc (suc (suc (suc i)))))))) = omega arith

pub wide_w64 : IsWide 8 (2 ^ 64) (to_be_bytes w64)
wide_w64 = record {
  back = λ front len fits. (be_bytes_8 front (worth front) len fits (worth-w64 front len), let lt = worth-lt front fits in let same = ap place len in omega (arith, lt, same));
  len = λ n lt. refl;
  bytes = λ n lt. IsBytes-w64 n;
  again = λ n lt. worth-w64 (to_be_bytes w64 n) refl ∙ from_be_bytes-to_be_bytes_8 n lt;
}

pub u64_law : (allowed : List (ℕ × ℕ)) → IsCodec (u64 allowed)
unfolding u64_at
u64_law allowed = record { exact = record { takes = wide_takes 7 wide_w64 allowed; again = wide_again 7 wide_w64 allowed }; stops = u64_stops allowed }

one-back : (front : List ℕ) → length front ≡ 1 → IsBytes front → (worth front ∷ [] ≡ front) × (worth front < 256)
one-back [] e h = absurd (omega (arith, e))
one-back (a ∷ []) e h = let same : a * 1 + 0 ≡ a = omega arith in (ap (λ k. k ∷ []) same, omega (arith, h 0))
one-back (a ∷ b ∷ bytes) e h = absurd (omega (arith, e))

one-bytes : (n : ℕ) → n < 256 → IsBytes (n ∷ [])
one-bytes n lt zero = lt
one-bytes n lt (suc i) = omega arith

pub wide_w8 : IsWide 1 256 (λ n. n ∷ [])
wide_w8 = record { back = one-back; len = λ n lt. refl; bytes = one-bytes; again = λ n lt. omega arith }

pub u8_law : (allowed : List (ℕ × ℕ)) → IsCodec (u8 allowed)
unfolding u8_at
u8_law allowed = record { exact = record { takes = wide_takes 0 wide_w8 allowed; again = wide_again 0 wide_w8 allowed }; stops = u8_stops allowed }
