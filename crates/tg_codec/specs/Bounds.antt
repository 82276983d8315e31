-- Bytes above given ones, and bytes of which each is from some ranges.
use Rattle.std.specs.Prelude.{ℕ, suc, ◌+◌, ◌-◌, Bool, true, false, ◌&&◌, ◌||◌, ◌==◌, nat_lt, List, [], ◌∷◌, if◌then◌else◌}
use Rattle.tg_codec.specs.Codec.{Codec, u8, read_many, fit_many}

-- the order of texts: by bytes, and a text is above its fronts
abbrev pub is_above : List ℕ → List ℕ → Bool
is_above [] [] = false
is_above [] (b ∷ bytes) = true
is_above (t ∷ bound) [] = false
is_above (t ∷ bound) (b ∷ bytes) = nat_lt t b || (t == b && is_above bound bytes)

-- How many of the greatest byte a text begins with. So many bytes and fewer are never above it, more can be.
abbrev pub tops : List ℕ → ℕ
tops [] = 0
tops (b ∷ bytes) = if b == 255 then suc (tops bytes) else 0

-- The least byte that so many bytes above a bound can begin with. It equals the bound's where the rest
-- can still be above the bound's rest.
abbrev pub least_above : List ℕ → ℕ → ℕ
least_above [] count = 0
least_above (t ∷ bound) count = if nat_lt (tops bound) (count - 1) then t else t + 1

-- what still bounds the bytes after one: nothing once they are above
abbrev pub bound_after : List ℕ → ℕ → List ℕ
bound_after [] b = []
bound_after (t ∷ bound) b = if nat_lt t b then [] else bound

-- a byte that goes on towards bytes above a bound, of which so many are still to come
abbrev pub byte_above : List ℕ × ℕ → Codec ℕ
byte_above s = u8 ((least_above s.0 s.1, 255) ∷ [])

abbrev pub after_byte : List ℕ × ℕ → ℕ → List ℕ × ℕ
after_byte s b = (bound_after s.0 b, s.1 - 1)

-- So many bytes above a bound, that begins with fewer of the greatest byte. A byte is refused where no such
-- bytes begin so.
abbrev pub raw_above : List ℕ → ℕ → Codec (List ℕ)
raw_above bound n = record {
  spell = λ bytes. bytes;
  fits = fit_many byte_above after_byte n (bound, n);
  read = read_many byte_above after_byte n (bound, n);
}

abbrev pub same_ranges : List (ℕ × ℕ) → ℕ → List (ℕ × ℕ)
same_ranges ranges b = ranges

-- so many bytes, each from some ranges
abbrev pub raw_in : List (ℕ × ℕ) → ℕ → Codec (List ℕ)
raw_in ranges n = record {
  spell = λ bytes. bytes;
  fits = fit_many u8 same_ranges n ranges;
  read = read_many u8 same_ranges n ranges;
}
