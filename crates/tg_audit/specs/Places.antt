-- Where items stand in lists.
use Rattle.std.specs.Prelude.{◌≡◌, ℕ, ◌+◌, ◌-◌, ◌*◌, ◌<◌, ◌≤◌, ◌==◌, min, if◌then◌else◌, List, length, get_or, take, drop, Option, Some, None}
use Rattle.std.specs.Ordering.{nat_cmp}
use Rattle.std.specs.BTreeMap as tree
use Rattle.std.specs.BTreeMap.{BTreeMap}

-- a client's transaction as one number
abbrev pub key : ℕ → ℕ → ℕ
key k x = k * 4294967296 + x

-- windows of places by keys: from the first place to one past the last
abbrev pub Windows : Type 0
Windows = BTreeMap ℕ (ℕ × ℕ)

abbrev pub or_empty : Option (ℕ × ℕ) → ℕ × ℕ
or_empty None = (0, 0)
or_empty (Some w) = w

abbrev pub window_of : Windows → ℕ → ℕ × ℕ
window_of windows q = or_empty (tree.get nat_cmp windows q)

-- where a window begins that has place n, too
abbrev pub start_of : ℕ × ℕ → ℕ → ℕ
start_of w n = if w.1 == 0 then n else w.0

-- all places of a key among the first n are in the window
pub record IsWindow (keys : List ℕ) (n q : ℕ) (w : ℕ × ℕ) : Type 0 where
  pub ends : w.0 ≤ w.1
  pub within : w.1 ≤ n
  pub before : (j : ℕ) → j < w.0 → get_or keys j 0 ≡ q → ⊥
  pub after : (j : ℕ) → w.1 ≤ j → j < n → get_or keys j 0 ≡ q → ⊥

abbrev pub AreWindows : List ℕ → ℕ → Windows → Type 0
AreWindows keys n windows = (q : ℕ) → IsWindow keys n q (window_of windows q)

-- no window goes past this many items
abbrev pub AreWithin : Windows → ℕ → Type 0
AreWithin windows n = (q : ℕ) → (window_of windows q).1 ≤ n

abbrev pub between : {X : Type 0} → ℕ → ℕ → List X → List X
between a b xs = take (b - a) (drop a xs)

-- of the first n items, those of a window
abbrev pub cut : {X : Type 0} → ℕ × ℕ → ℕ → List X → List X
cut w n xs = between (min w.0 (min w.1 n)) (min w.1 n) xs

-- each number is above the one before it
abbrev pub IsRising : List ℕ → Type 0
IsRising xs = (i : ℕ) → i + 1 < length xs → get_or xs i 0 < get_or xs (i + 1) 0

-- the number before place n is below a bound, and the one at the place isn't
pub record IsBetween (xs : List ℕ) (n bound : ℕ) : Type 0 where
  pub below : (i : ℕ) → i + 1 ≡ n → get_or xs i 0 < bound
  pub above : n < length xs → bound ≤ get_or xs n 0

-- the first n numbers are below a bound, and no others
pub record Splits (xs : List ℕ) (n bound : ℕ) : Type 0 where
  pub within : n ≤ length xs
  pub below : (i : ℕ) → i < n → get_or xs i 0 < bound
  pub above : (i : ℕ) → n ≤ i → i < length xs → bound ≤ get_or xs i 0
