-- The words that name workloads, and what is answered after their ops.
use Rattle.std.specs.Prelude.{ℕ, zero, suc, ◌+◌, ◌-◌, ◌*◌, ◌%◌, ◌^◌, ◌≡◌, List, [], length, Option, Some, None, if◌then◌else◌, codes, unsigned_abs}
use Rattle.std.specs.Str.{bytes_eq}
use Rattle.std.specs.Str.Parse.{digits_value, without_leading_plus}
use Rattle.tg_tree.specs.Trees.{Nodes, is_there}
use Rattle.tg_set.specs.Sets.{between}
use Rattle.bench_costs.specs.Rows.{scrambled, path, counter_after, register_after, map_after, set_after, tree_after, list_after, pushing_back, pushing_front, popping_back, popping_front}
use Rattle.bench_costs.specs.declared.workload.Workload.{Workload}
use Rattle.bench_costs.specs.declared.workload.Workload.TheVariants.{Counter, Register, Map, Set, Tree, ListBack, ListFront, ListPopBack, ListPopFront}
use Rattle.bench_costs.specs.declared.rounds.Rounds.{Rounds}

abbrev pub workload_named : List ℕ → Option Workload
workload_named word =
    if bytes_eq word (codes "counter") then Some Counter
    else if bytes_eq word (codes "register") then Some Register
    else if bytes_eq word (codes "map") then Some Map
    else if bytes_eq word (codes "set") then Some Set
    else if bytes_eq word (codes "tree") then Some Tree
    else if bytes_eq word (codes "list-back") then Some ListBack
    else if bytes_eq word (codes "list-front") then Some ListFront
    else if bytes_eq word (codes "list-pop-back") then Some ListPopBack
    else if bytes_eq word (codes "list-pop-front") then Some ListPopFront
    else None

abbrev pub held_length : Option (List ℕ) → ℕ
held_length None = 0
held_length (Some text) = length text

-- how many numbers below the greatest of 64 bits
abbrev pub members : List ℕ → ℕ
members numbers = length (between numbers 0 18446744073709551615)

-- how many of the first paths of a row of so many are there
abbrev pub got : Nodes → ℕ → ℕ → ℕ
got nodes count zero = 0
got nodes count (suc n) = got nodes count n + (if is_there nodes (path (scrambled count n)) then 1 else 0)

-- what a new object answers after so many ops
abbrev pub told : Workload → ℕ → ℕ
told Counter count = unsigned_abs (counter_after count)
told Register count = held_length (register_after count)
told Map count = length (map_after count)
told Set count = members (set_after count)
told Tree count = got (tree_after count) count count
told ListBack count = length (list_after pushing_back [] count)
told ListFront count = length (list_after pushing_front [] count)
told ListPopBack count = length (list_after pushing_back [] count) - length (list_after popping_back (list_after pushing_back [] count) count)
told ListPopFront count = length (list_after pushing_back [] count) - length (list_after popping_front (list_after pushing_back [] count) count)

-- the sum of what all rounds answer, modulo 2^64
abbrev pub total : Rounds → ℕ
total r = r.rounds * told r.workload r.count % 2 ^ 64

abbrev pub number_of : List ℕ → ℕ
number_of word = digits_value 10 (without_leading_plus word)

-- the words name the workload and the numbers
abbrev pub AreWords : List ℕ → List ℕ → List ℕ → Rounds → Type 0
AreWords workload count rounds r = (workload_named workload ≡ Some r.workload) × (r.count ≡ number_of count) × (r.rounds ≡ number_of rounds)
