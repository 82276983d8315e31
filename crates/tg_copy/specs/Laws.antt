-- What the layer above rests on: what a copy keeps, on which answers it ends and pauses, which it passes by, and how many
-- requests it still sends.
use Rattle.std.specs.Prelude.{◌≡◌, ⊤, ℕ, ◌+◌, ◌-◌, ◌*◌, ◌/◌, ◌<◌, ◌≤◌, Bool, true, false, not, ◌||◌, ◌==◌, nat_lt, nat_le, List, [], ◌∷◌, length, Option, Some, None}
use Rattle.tg_base.specs.Layouts.{Layout}
use Rattle.tg_base.specs.declared.change.Join.{Join}
use Rattle.tg_base.specs.declared.ids.NodeId.{NodeId}
use Rattle.tg_base.specs.declared.msg.Msg.{Msg}
use Rattle.tg_base.specs.declared.packet.Packet.{Packet}
use Rattle.tg_proj.specs.Places.{range_at}
use Rattle.tg_protocol.specs.Words.{unit_id, cell_eq}
use Rattle.tg_protocol.specs.Layouts.{chain_of, range_end, next_in_stripe}
use Rattle.tg_protocol.specs.Requests.{Next, Goes, Learns, Ends, turn, awaits}
use Rattle.tg_protocol.specs.Replies.{Reply, IsHeld, IsTaken, IsGone, IsFenced, IsSealed, IsMissing, IsWhole, reply}
use Rattle.tg_protocol.specs.Cells.{CellJob, CellWork, Gets, Fills, Copies, place_in}
use Rattle.tg_protocol.specs.Trimming.{Copying, CopyWork, Sealing, Reading, Storing, Trimming, Looking, CopyEnd, CopyTurn, copy_asks, copy_start}
use Rattle.tg_chain.specs.Laws.{left, passed_by}
use Rattle.tg_copy.specs.Stripes.{HasStripe}
use Rattle.tg_copy.specs.Turns.{spare_of, by_copy}
use Rattle.tg_copy.specs.Copies.{copy_fed}

-- What a copy keeps.

abbrev pub is_get : CellWork → Bool
is_get (Gets r) = true
is_get (Fills r) = true
is_get (Copies r c i) = true
is_get w = false

-- a position below the range's end is read at the units that hold it in the layout
abbrev pub WorkKept : Layout → Join → CopyWork → Type 0
WorkKept p s (Reading j) = (j.place ≡ place_in p j.place.pos) × (j.place.pos < range_end p s.range) × (is_get j.work ≡ true)
WorkKept p s (Storing r pos x) = pos < range_end p s.range
WorkKept p s w = ⊤

abbrev pub IsKept : Layout → Copying → Type 0
IsKept p c = WorkKept p (spare_of c) c.work

-- it is the same spare and stripe all along
abbrev pub NextKept : Layout → Join → Next Copying CopyEnd → Type 0
NextKept p s (Goes c) = (spare_of c ≡ s) × IsKept p c
NextKept p s (Learns c) = spare_of c ≡ s
NextKept p s (Ends e) = ⊤

-- the position is one of the stripe's: the first at or past it is itself
abbrev pub IsOfStripe : Layout → Join → ℕ → Type 0
IsOfStripe p s pos = next_in_stripe (range_at p.ranges s.range) s.stripe pos ≡ pos

abbrev pub WorkWithin : Layout → Join → CopyWork → Type 0
WorkWithin p s (Reading j) = IsOfStripe p s j.place.pos
WorkWithin p s (Storing r pos x) = IsOfStripe p s pos
WorkWithin p s w = ⊤

abbrev pub NextWithin : Layout → Join → Next Copying CopyEnd → Type 0
NextWithin p s (Goes c) = WorkWithin p s c.work
NextWithin p s x = ⊤

-- a position that the spare lacks is one of the stripe's
abbrev pub NamesStripe : Layout → Join → Reply → Type 0
NamesStripe p s (IsMissing pos) = IsOfStripe p s pos
NamesStripe p s x = ⊤

-- each step keeps this, and so does the beginning; and the positions that are read and stored are the stripe's
pub record CopiesKeep : Type 0 where
  pub starts : (p : Layout) (s : Join) (next : ℕ) → NextKept p s (copy_start s.unit s.range s.stripe next).to
  pub steps : (p : Layout) (c : Copying) (from : NodeId) (rid : ℕ) (m : Msg) (next : ℕ) → IsKept p c → NextKept p (spare_of c) (copy_fed p c from rid m next).to
  pub within : (p : Layout) (c : Copying) (from : NodeId) (rid : ℕ) (m : Msg) (next : ℕ) → HasStripe p (spare_of c) → NamesStripe p (spare_of c) (reply m) →
      WorkWithin p (spare_of c) c.work → NextWithin p (spare_of c) (copy_fed p c from rid m next).to

-- Ends and pauses.

-- the spare has been asked for all positions of the stripe
abbrev pub IsLooking : CopyWork → Type 0
IsLooking (Looking r) = ⊤
IsLooking w = ⊥

-- a copy ends only where the spare, asked for all positions of the stripe, answers under the number of that request that it has each
abbrev pub CopyEndsByAnswers : Type 0
CopyEndsByAnswers = (p : Layout) (c : Copying) (from : NodeId) (rid : ℕ) (m : Msg) (next : ℕ) (e : CopyEnd) →
    (copy_fed p c from rid m next).to ≡ Ends e → (awaits (copy_asks p c) from rid ≡ true) × IsLooking c.work × (reply m ≡ IsWhole)

-- the epoch at which a node says that it stands is a later one
abbrev pub FencedAbove : ℕ → Reply → Type 0
FencedAbove epoch (IsFenced e) = epoch < e
FencedAbove epoch x = ⊥

-- a copy pauses only where a unit that it asked has left the epoch, and as it stands
abbrev pub CopyPausesByAnswers : Type 0
CopyPausesByAnswers = (p : Layout) (c : Copying) (from : NodeId) (rid : ℕ) (m : Msg) (next : ℕ) (d : Copying) → IsKept p c →
    (copy_fed p c from rid m next).to ≡ Learns d → (awaits (copy_asks p c) from rid ≡ true) × FencedAbove p.epoch (reply m) × (d ≡ c)

-- What is passed by.

-- a fence that isn't of a later epoch, a seal at another epoch, another cell, a trim that isn't past the position, and what
-- answers another request
abbrev pub copy_passes : Layout → CopyWork → Reply → Bool
copy_passes p (Reading j) x = passed_by j.place j.work x
copy_passes p w (IsFenced e) = nat_le e p.epoch
copy_passes p (Sealing r) (IsSealed e h) = not (e == p.epoch)
copy_passes p (Storing r pos x) IsHeld = false
copy_passes p (Storing r pos x) (IsTaken y) = not (cell_eq x y)
copy_passes p (Storing r pos x) (IsGone b) = nat_le b pos
copy_passes p (Trimming r b) (IsGone d) = false
copy_passes p (Looking r) IsWhole = false
copy_passes p (Looking r) (IsMissing pos) = false
copy_passes p w x = true

-- a copy goes on without sending anything only where the message isn't awaited or is passed by
abbrev pub CopyWaitsForAnswers : Type 0
CopyWaitsForAnswers = (p : Layout) (c : Copying) (from : NodeId) (rid : ℕ) (m : Msg) (next : ℕ) (d : Copying) → IsKept p c →
    (copy_fed p c from rid m next).to ≡ Goes d → (by_copy p next (copy_fed p c from rid m next)).outs ≡ [] →
    (not (awaits (copy_asks p c) from rid) || copy_passes p c.work (reply m)) ≡ true

-- Requests to come.

-- no chain of the layout has more units than these
pub record HasChainsUpTo (p : Layout) (most : ℕ) : Type 0 where
  pub some : 1 ≤ most
  pub chains : (pos : ℕ) → length (chain_of p pos) ≤ most

-- how many of the stripe's positions are below this one
abbrev pub count_below : Layout → Join → ℕ → ℕ
count_below p s pos = ((pos - ((range_at p.ranges s.range).lo + s.stripe)) + (length (range_at p.ranges s.range).stripes - 1)) / length (range_at p.ranges s.range).stripes

-- how many are at or past it, below the range's end
abbrev pub count_from : Layout → Join → ℕ → ℕ
count_from p s pos = count_below p s (range_end p s.range) - count_below p s pos

-- each of them is read, filled down its chain and stored, and at the end the spare is asked
abbrev pub cost_from : Layout → ℕ → Join → ℕ → ℕ
cost_from p most s pos = count_from p s pos * (2 + most) + 1

-- how many requests are still sent until the end, where the longest chain has so many units
abbrev pub left_in : Layout → ℕ → Join → CopyWork → ℕ
left_in p most s (Sealing r) = cost_from p most s 0
left_in p most s (Reading j) = left j + 1 + cost_from p most s (j.place.pos + 1)
left_in p most s (Storing r pos x) = cost_from p most s (pos + 1)
left_in p most s (Trimming r b) = cost_from p most s b
left_in p most s (Looking r) = 0

abbrev pub copy_left : Layout → ℕ → Next Copying CopyEnd → ℕ
copy_left p most (Goes c) = left_in p most (spare_of c) c.work
copy_left p most x = 0

-- and how many besides them: the spare lacks a position, from which all is brought again
abbrev pub extra_in : Layout → ℕ → Join → CopyWork → Reply → ℕ
extra_in p most s (Looking r) (IsMissing pos) = 2 + most + cost_from p most s (pos + 1)
extra_in p most s w x = 0

abbrev pub count_if : Bool → ℕ → ℕ
count_if true n = n
count_if false n = 0

abbrev pub copy_extra : Layout → ℕ → Next Copying CopyEnd → Packet → ℕ
copy_extra p most (Goes c) q = count_if (awaits (copy_asks p c) q.from q.rid) (extra_in p most (spare_of c) c.work (reply q.msg))
copy_extra p most x q = 0

-- what becomes of a copy after these messages
abbrev pub fed_next : Layout → Next Copying CopyEnd → Packet → ℕ → CopyTurn
fed_next p (Goes c) q next = copy_fed p c q.from q.rid q.msg next
fed_next p x q next = turn next x

unfoldable pub fed_all : Layout → Next Copying CopyEnd → List Packet → ℕ → CopyTurn
fed_all p x [] next = turn next x
fed_all p x (q ∷ qs) next = fed_all p (fed_next p x q next).to qs (fed_next p x q next).next

unfoldable pub extra_all : Layout → ℕ → Next Copying CopyEnd → List Packet → ℕ → ℕ
extra_all p most x [] next = 0
extra_all p most x (q ∷ qs) next = copy_extra p most x q + extra_all p most (fed_next p x q next).to qs (fed_next p x q next).next

-- whatever messages come, a copy sends no more than these
pub record CopiesAreFew : Type 0 where
  pub starts : (p : Layout) (most : ℕ) (s : Join) (next : ℕ) →
      (copy_start s.unit s.range s.stripe next).next + copy_left p most (copy_start s.unit s.range s.stripe next).to ≤ next + 1 + cost_from p most s 0
  pub runs : (p : Layout) (most : ℕ) (c : Copying) (qs : List Packet) (next : ℕ) → HasChainsUpTo p most → HasStripe p (spare_of c) → IsKept p c →
      (fed_all p (Goes c) qs next).next ≤ next + left_in p most (spare_of c) c.work + extra_all p most (Goes c) qs next
