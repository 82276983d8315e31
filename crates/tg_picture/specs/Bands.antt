-- Seals, and decisions on layouts.
use Rattle.std.specs.Prelude.{ℕ, zero, suc, ◌&&◌, ◌==◌, nat_lt, nat_le, List, [], ◌∷◌, ◌++◌, take, length, slice_get, Option, Some, None, if◌then◌else◌}
use Rattle.tg_base.specs.Layouts.{Layout}
use Rattle.tg_base.specs.declared.ids.NodeId.{NodeId}
use Rattle.tg_base.specs.declared.msg.Msg.{Msg}
use Rattle.tg_base.specs.declared.msg.Msg.TheVariants as msg
use Rattle.tg_base.specs.declared.packet.Packet.{Packet}
use Rattle.tg_protocol.specs.Logs.{newest}
use Rattle.tg_picture.specs.declared.fences.Band.{Band}
use Rattle.tg_picture.specs.declared.fences.Band.TheVariants.{Sealed, Decided}
use Rattle.tg_picture.specs.declared.steps.Step.{Step}
use Rattle.tg_picture.specs.Courses.{sent_in, sent_by, sent_before}

-- Seals.

abbrev pub listed : Option Band → List Band
listed None = []
listed (Some b) = b ∷ []

-- a seal, where its step is one of those that are drawn
abbrev pub seal_in : NodeId → ℕ → ℕ → ℕ → ℕ → Option Band
seal_in unit epoch step from upto = if nat_le from step && nat_lt step upto then Some (Sealed step unit epoch) else None

-- a unit's answer tells that it is sealed
abbrev pub seal_by : Msg → NodeId → ℕ → ℕ → ℕ → Option Band
seal_by (msg.Sealed epoch high) unit step from upto = seal_in unit epoch step from upto
seal_by _ unit step from upto = None

abbrev pub seal_of : Packet → List Step → ℕ → ℕ → ℕ → Option Band
seal_of p ss from upto i = seal_by p.msg p.from (sent_in ss i) from upto

abbrev pub seal_if : Option Packet → List Step → ℕ → ℕ → ℕ → Option Band
seal_if None ss from upto i = None
seal_if (Some p) ss from upto i = seal_of p ss from upto i

-- the seal that packet i tells of, at the step by which it had been sent
abbrev pub seal_at : List Packet → List Step → ℕ → ℕ → ℕ → Option Band
seal_at ps ss from upto i = seal_if (slice_get ps i) ss from upto i

-- the seals that the packets below a number tell of
unfoldable pub seals : List Packet → List Step → ℕ → ℕ → ℕ → List Band
seals ps ss from upto zero = []
seals ps ss from upto (suc n) = seals ps ss from upto n ++ listed (seal_at ps ss from upto n)

-- Decisions on layouts.

-- the epoch of the layout that was decided last, when so many packets had been sent
abbrev pub epoch_after : Layout → ℕ → List Packet → ℕ → ℕ
epoch_after first layouts ps sent = (newest first (take sent ps) layouts).epoch

abbrev pub decision_of : ℕ → ℕ → ℕ → Option Band
decision_of k before after = if before == after then None else Some (Decided k after)

-- a new epoch that begins in step k
abbrev pub decision_at : Layout → ℕ → List Packet → List Step → ℕ → Option Band
decision_at first layouts ps ss k = decision_of k (epoch_after first layouts ps (sent_before ss k)) (epoch_after first layouts ps (sent_by (slice_get ss k)))

unfoldable pub decisions : Layout → ℕ → List Packet → List Step → ℕ → ℕ → List Band
decisions first layouts ps ss from zero = []
decisions first layouts ps ss from (suc k) = decisions first layouts ps ss from k ++ (if nat_le from k then listed (decision_at first layouts ps ss k) else [])

-- the seals and the decisions in the steps from `from` on and below `upto`
abbrev pub bands : Layout → ℕ → List Packet → List Step → ℕ → ℕ → List Band
bands first layouts ps ss from upto = seals ps ss from upto (length ps) ++ decisions first layouts ps ss from upto
