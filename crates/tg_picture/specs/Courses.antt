-- The courses of packets: each delivery and each loss in a run.
use Rattle.std.specs.Prelude.{ℕ, zero, suc, Bool, true, false, ◌==◌, nat_lt, nat_le, List, [], ◌∷◌, ◌++◌, take, length, slice_get, Option, Some, None, if◌then◌else◌}
use Rattle.std.specs.List.{list_any, position}
use Rattle.tg_base.specs.declared.packet.Packet.{Packet}
use Rattle.tg_picture.specs.declared.steps.Step.{Step}
use Rattle.tg_picture.specs.declared.steps.Happening.{Happening}
use Rattle.tg_picture.specs.declared.steps.Happening.TheVariants as happening
use Rattle.tg_picture.specs.declared.ways.Course.{Course}
use Rattle.tg_picture.specs.declared.ways.Ending.{Ending}
use Rattle.tg_picture.specs.declared.ways.Ending.TheVariants.{First, Again, Lost}

-- packet i came in the step
abbrev pub is_delivery : ℕ → Happening → Bool
is_delivery i (happening.Came j) = j == i
is_delivery i _ = false

abbrev pub or_else : Option ℕ → ℕ → ℕ
or_else None d = d
or_else (Some n) d = n

-- the first step by which more packets had been sent than this number
abbrev pub sent_in : List Step → ℕ → ℕ
sent_in ss i = or_else (position (λ (s : Step). nat_lt i s.sent) ss) (length ss)

-- packet i came in a step before step k
abbrev pub came_before : List Step → ℕ → ℕ → Bool
came_before ss k i = list_any (λ (s : Step). is_delivery i s.happening) (take k ss)

abbrev pub delivery : Bool → Ending
delivery true = Again
delivery false = First

abbrev pub sent_by : Option Step → ℕ
sent_by None = 0
sent_by (Some s) = s.sent

-- how many packets had been sent before step k
abbrev pub sent_before : List Step → ℕ → ℕ
sent_before ss zero = 0
sent_before ss (suc k) = sent_by (slice_get ss k)

-- the course of packet i that ends in step k, where the packet had been sent before
abbrev pub course_of : List Step → ℕ → ℕ → Ending → Option Packet → Option Course
course_of ss k i e None = None
course_of ss k i e (Some p) =
    if nat_lt i (sent_before ss k) then Some (record { packet = i; from = p.from; to = p.to; sent_in = sent_in ss i; ends_in = k; ending = e }) else None

abbrev pub course_by : List Packet → List Step → ℕ → Happening → Option Course
course_by ps ss k (happening.Came i) = course_of ss k i (delivery (came_before ss k i)) (slice_get ps i)
course_by ps ss k (happening.Lost i) = course_of ss k i Lost (slice_get ps i)
course_by ps ss k _ = None

abbrev pub course_in : List Packet → List Step → ℕ → Option Step → Option Course
course_in ps ss k None = None
course_in ps ss k (Some s) = course_by ps ss k s.happening

-- the course that ends in step k: a delivery or a loss has one, and no other step
abbrev pub course_at : List Packet → List Step → ℕ → Option Course
course_at ps ss k = course_in ps ss k (slice_get ss k)

abbrev pub listed : Option Course → List Course
listed None = []
listed (Some c) = c ∷ []

-- the courses that end in the steps from `from` on and below `upto`, in the order of the steps
unfoldable pub courses : List Packet → List Step → ℕ → ℕ → List Course
courses ps ss from zero = []
courses ps ss from (suc k) = courses ps ss from k ++ (if nat_le from k then listed (course_at ps ss k) else [])
