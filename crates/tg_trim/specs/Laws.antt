-- What the layer above rests on: on which answers a trim ends, pauses and goes on, that it waits for a unit as long as it goes
-- on, and how many requests it sends.
use Rattle.std.specs.Prelude.{◌≡◌, ⊤, ℕ, ◌+◌, ◌<◌, ◌≤◌, Bool, true, false, not, ◌&&◌, ◌||◌, nat_le, List, [], ◌∷◌, length}
use Rattle.tg_base.specs.Layouts.{Layout, IsLayout}
use Rattle.tg_base.specs.declared.ids.NodeId.{NodeId}
use Rattle.tg_base.specs.declared.msg.Msg.{Msg}
use Rattle.tg_base.specs.declared.packet.Packet.{Packet}
use Rattle.tg_protocol.specs.Layouts.{units_of}
use Rattle.tg_protocol.specs.Requests.{Next, Goes, Learns, Ends, turn, without_wait, awaits}
use Rattle.tg_protocol.specs.Replies.{Reply, IsGone, IsFenced, reply}
use Rattle.tg_protocol.specs.Trimming.{Trims, Trimmed, TrimTurn, trim_asks, trim_start}
use Rattle.tg_trim.specs.Turns.{trim_fed}

-- Ends and pauses.

-- a unit says that all below a position is trimmed
abbrev pub tells_trim : Reply → Bool
tells_trim (IsGone b) = true
tells_trim x = false

-- a trim ends only where the last unit that it asked says, under the number of its request, that all below a position is trimmed
abbrev pub TrimEndsByAnswers : Type 0
TrimEndsByAnswers = (p : Layout) (t : Trims) (from : NodeId) (rid : ℕ) (m : Msg) (next : ℕ) (e : Trimmed) →
    (trim_fed p t from rid m next).to ≡ Ends e →
    (awaits (trim_asks p t) from rid ≡ true) × (tells_trim (reply m) ≡ true) × (without_wait from.num t.waits ≡ [])

-- the epoch at which a node says that it stands is a later one
abbrev pub FencedAbove : ℕ → Reply → Type 0
FencedAbove epoch (IsFenced e) = epoch < e
FencedAbove epoch x = ⊥

-- a trim pauses only where a unit that it asked has left the epoch, and as it stands
abbrev pub TrimPausesByAnswers : Type 0
TrimPausesByAnswers = (p : Layout) (t : Trims) (from : NodeId) (rid : ℕ) (m : Msg) (next : ℕ) (d : Trims) →
    (trim_fed p t from rid m next).to ≡ Learns d → (awaits (trim_asks p t) from rid ≡ true) × FencedAbove p.epoch (reply m) × (d ≡ t)

-- Going on.

-- what isn't a trim, nor a fence of a later epoch
abbrev pub trim_passes : Layout → Reply → Bool
trim_passes p (IsGone b) = false
trim_passes p (IsFenced e) = nat_le e p.epoch
trim_passes p x = true

-- where a unit has answered, fewer are awaited: all others that were; and else the same ones are
abbrev pub GoesBy : Bool → Trims → ℕ → Trims → Type 0
GoesBy true t u d = (d.waits ≡ without_wait u t.waits) × (length d.waits < length t.waits)
GoesBy false t u d = d.waits ≡ t.waits

-- a trim goes on below the same position: without a unit that it asked and that says that it has trimmed, or as it stands where the
-- message isn't awaited or is passed by
pub record TrimWaitsForAnswers : Type 0 where
  pub same : (p : Layout) (t : Trims) (from : NodeId) (rid : ℕ) (m : Msg) (next : ℕ) (d : Trims) →
      (trim_fed p t from rid m next).to ≡ Goes d → d.below ≡ t.below
  pub told : (p : Layout) (t : Trims) (from : NodeId) (rid : ℕ) (m : Msg) (next : ℕ) (d : Trims) →
      (trim_fed p t from rid m next).to ≡ Goes d → GoesBy (awaits (trim_asks p t) from rid && tells_trim (reply m)) t from.num d
  pub passed : (p : Layout) (t : Trims) (from : NodeId) (rid : ℕ) (m : Msg) (next : ℕ) (d : Trims) →
      (trim_fed p t from rid m next).to ≡ Goes d → tells_trim (reply m) ≡ false → (not (awaits (trim_asks p t) from rid) || trim_passes p (reply m)) ≡ true

-- some unit hasn't answered
abbrev pub NextWaits : Next Trims Trimmed → Type 0
NextWaits (Goes t) = 1 ≤ length t.waits
NextWaits x = ⊤

-- from its beginning on a trim that goes on waits for a unit
pub record TrimsWait : Type 0 where
  pub starts : (p : Layout) (below next : ℕ) → IsLayout p → NextWaits (trim_start p below next).to
  pub steps : (p : Layout) (t : Trims) (from : NodeId) (rid : ℕ) (m : Msg) (next : ℕ) → 1 ≤ length t.waits → NextWaits (trim_fed p t from rid m next).to

-- Requests.

-- what becomes of a trim after these messages
abbrev pub fed_next : Layout → Next Trims Trimmed → Packet → ℕ → TrimTurn
fed_next p (Goes t) q next = trim_fed p t q.from q.rid q.msg next
fed_next p x q next = turn next x

unfoldable pub fed_all : Layout → Next Trims Trimmed → List Packet → ℕ → TrimTurn
fed_all p x [] next = turn next x
fed_all p x (q ∷ qs) next = fed_all p (fed_next p x q next).to qs (fed_next p x q next).next

-- a trim sends one request to each unit of the layout, of which there are at most 64, and whatever messages come none after these
pub record TrimsAreFew : Type 0 where
  pub starts : (p : Layout) (below next : ℕ) → (trim_start p below next).next ≡ next + length (units_of p)
  pub few : (p : Layout) → IsLayout p → length (units_of p) ≤ 64
  pub runs : (p : Layout) (t : Trims) (qs : List Packet) (next : ℕ) → (fed_all p (Goes t) qs next).next ≡ next
