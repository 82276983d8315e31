-- Words whose bits tell of 64 places.
use Rattle.std.specs.Prelude.{◌≡◌, ℕ, ◌+◌, ◌-◌, ◌*◌, ◌%◌, ◌^◌, ◌<◌, ◌≤◌, Bool, if◌then◌else◌, bit_or, bit_and}
use Rattle.std.specs.Int.{bit_at}

-- with the bit of a place, if it is to be set
abbrev pub with_bit : Bool → ℕ → ℕ → ℕ
with_bit on word place = if on then bit_or word (1 * 2 ^ place % 2 ^ 64) else word

-- without the bits below a place
abbrev pub without_low : ℕ → ℕ → ℕ
without_low word place = bit_and word (2 ^ 64 - 2 ^ place)

-- n places from one on have their bits, and the next, if it is below 64, has not
pub record IsRun (word place n : ℕ) : Type 0 where
  pub within : n + place ≤ 64
  pub ones : (i : ℕ) → i < n → bit_at word (place + i) ≡ 1
  pub zero_after : n + place < 64 → bit_at word (place + n) ≡ 0
