-- What is counted of a run, and the lines that say it.
use Rattle.std.specs.Prelude.{ℕ, ◌-◌, Bool, true, false, List, [], ◌∷◌, ◌++◌, length, filter, slice_get, codes, decimal, Option, Some, None, option_map}
use Rattle.tg_kind.specs.Meaning.{Meaning}
use Rattle.tg_model.specs.Kinds.{WhatOf, MarkOf, DoneOf}
use Rattle.tg_model.specs.declared.trace.What.TheVariants as told
use Rattle.tg_bench.specs.declared.summary.Summary.{Summary}

module _ (m : Meaning) where
  abbrev pub says_committed : WhatOf m → Bool
  says_committed (told.Committed at) = true
  says_committed _ = false

  abbrev pub says_aborted : WhatOf m → Bool
  says_aborted (told.Aborted at oid part seen now) = true
  says_aborted _ = false

  abbrev pub says_unsure : WhatOf m → Bool
  says_unsure (told.Unsure at pos) = true
  says_unsure _ = false

  abbrev pub says_refused : WhatOf m → Bool
  says_refused (told.Refused why) = true
  says_refused _ = false

  -- how many replies of a trace say so
  abbrev pub many : (WhatOf m → Bool) → List (MarkOf m) → ℕ
  many says trace = length (filter (λ mark. says mark.what) trace)

  -- the stamp of the last transaction of a history
  abbrev pub last_of : List (DoneOf m) → Option ℕ
  last_of history = option_map (λ done. done.stamp) (slice_get history (length history - 1))

  -- the summary of so many events and packets, these replies and this history
  abbrev pub summed : ℕ → ℕ → List (MarkOf m) → List (DoneOf m) → Summary
  summed events packets trace history = record {
    events = events;
    packets = packets;
    committed = many says_committed trace;
    aborted = many says_aborted trace;
    unsure = many says_unsure trace;
    refused = many says_refused trace;
    history = length history;
    last = last_of history;
  }

-- a line with a word and a number
abbrev pub row : List ℕ → ℕ → List ℕ
row name number = name ++ 32 ∷ [] ++ decimal number ++ 10 ∷ []

abbrev pub last_row : Option ℕ → List ℕ
last_row None = codes "last none\n"
last_row (Some stamp) = row (codes "last") stamp

-- the eight lines
abbrev pub summary_text : Summary → List ℕ
summary_text s =
    row (codes "events") s.events ++ row (codes "packets") s.packets ++ row (codes "committed") s.committed ++ row (codes "aborted") s.aborted
    ++ row (codes "unsure") s.unsure ++ row (codes "refused") s.refused ++ row (codes "history") s.history ++ last_row s.last
