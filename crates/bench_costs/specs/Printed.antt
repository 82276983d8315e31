-- What is printed.
use Rattle.std.specs.Prelude.{List, ℕ, Bool, true, false, ◌++◌, codes, Option, Some, None, if◌then◌else◌}
use Rattle.std.specs.Str.{bytes_eq}
use Rattle.bench_costs.specs.Workloads.{AreWords}
use Rattle.bench_costs.specs.declared.request.Request.{Request}
use Rattle.bench_costs.specs.declared.request.Request.TheVariants.{Answers, Timed}

-- a text that may be missing, as an answer
abbrev pub shown : Option (List ℕ) → List ℕ
shown None = codes "none"
shown (Some text) = codes "some " ++ text

abbrev pub yes_or_no : Bool → List ℕ
yes_or_no true = codes "yes"
yes_or_no false = codes "no"

abbrev pub answers_named : List ℕ → Option Request
answers_named word = if bytes_eq word (codes "answers") then Some Answers else None

-- the words name the workload and the numbers
abbrev pub IsTimed : List ℕ → List ℕ → List ℕ → Request → Type 0
IsTimed workload count rounds Answers = ⊥
IsTimed workload count rounds (Timed r) = AreWords workload count rounds r
