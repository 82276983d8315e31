-- Records of one object, the directory, and what a view of it tells once it has played them. There are 26 names in all, so
-- that the object stays small, and the time is that of plays.
use Rattle.std.specs.Prelude.{ℕ, zero, suc, ◌+◌, ◌*◌, ◌%◌, ◌≡◌, List, [], ◌∷◌, ◌++◌}
use Rattle.std.specs.Str.Parse.{digits_value, without_leading_plus}
use Rattle.tg_base.specs.declared.marks.Part.TheVariants.{All}
use Rattle.tg_entry.specs.declared.entry.Body.TheVariants.{Commit}
use Rattle.tg_entry.specs.declared.entry.Entry.{Entry}
use Rattle.tg_kind.specs.Meaning.{Meaning}
use Rattle.tg_protocol.specs.Views.{Entries, View, fresh_base, view_start, view_version, play}
use Rattle.tg_protocol.specs.Words.{directory}
use Rattle.bench_costs.specs.declared.sizes.Sizes.{Sizes}

-- a name of one letter, and a counter: the directory's op that gives it this name, where neither is taken
abbrev pub op_at : ℕ → List ℕ
op_at p = 1 ∷ 0 ∷ 1 ∷ (65 + p % 26) ∷ 1 ∷ 0 ∷ 0 ∷ (p % 26) ∷ []

-- the record at a position has read the version that the one before it made
abbrev pub record_at : ℕ → Entry
record_at p = record {
  head = record { format = 2; client = 0; number = 1; streams = [] };
  body = Commit (record { oid = directory; part = All; version = p } ∷ []) (record { oid = directory; op = op_at p } ∷ []);
}

-- one at each position from the first on
abbrev pub entries_from : ℕ → ℕ → Entries
entries_from first zero = []
entries_from first (suc n) = entries_from first n ++ (first + n, record_at (first + n)) ∷ []

module _ (m : Meaning) where
  -- a view of a directory without objects
  abbrev pub begun : View m
  begun = view_start m (fresh_base m [] directory ∷ [])

  -- the view after so many records more
  abbrev pub played : View m → ℕ → ℕ → View m
  played v first count = (play m v (entries_from first count) (first + count)).view

  -- so many at once, and then ten more so many times
  abbrev pub after : ℕ → ℕ → View m
  after count zero = played begun 0 count
  after count (suc turn) = played (after count turn) (count + turn * 10) 10

  abbrev pub version_after : ℕ → ℕ → ℕ
  version_after count more = view_version m (after count more) directory All

abbrev pub number_of : List ℕ → ℕ
number_of word = digits_value 10 (without_leading_plus word)

abbrev pub AreWords : List ℕ → List ℕ → Sizes → Type 0
AreWords count more s = (s.count ≡ number_of count) × (s.more ≡ number_of more)
