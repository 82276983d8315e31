-- What a turn of a copy comes to for an awaited answer, and by which tests.
use Rattle.std.proofs.Common.{◌≡◌, ℕ, ◌+◌, Bool, true, false, refl, subst}
use Rattle.std.specs.Prelude.{nat_lt, ◌==◌}
use Rattle.tg_base.specs.Layouts.{Layout}
use Rattle.tg_base.specs.declared.cell.Cell.{Cell}
use Rattle.tg_proj.specs.Places.{range_at}
use Rattle.tg_protocol.specs.Words.{cell_eq}
use Rattle.tg_protocol.specs.Layouts.{range_end, next_in_stripe}
use Rattle.tg_protocol.specs.Requests.{Next, Goes, Learns, Ends, Turn, turn, passes, draws, ends, learns, met_gone}
use Rattle.tg_protocol.specs.Replies.{Reply, IsHeld, IsTaken, IsGone, IsFenced, IsSealed, IsMissing, IsWhole}
use Rattle.tg_protocol.specs.Cells.{Gets, CellJob, CellEnd, Done, Seen, Lost, Fenced, Gone, place_in, works, get_cell, cell_feed}
use Rattle.tg_protocol.specs.Trimming.{CopyWork, Sealing, Reading, Storing, Trimming, Looking, Copying, CopyEnd, Whole, copies, copy_from, read_next, stored_if, skipped_if, sealed_if, learns_if, copy_feed}

-- a request to the spare
pub data IsSpare : CopyWork → Type 0 where
  OfSeal : (r : ℕ) → IsSpare (Sealing r)
  OfStore : (r pos : ℕ) (y : Cell) → IsSpare (Storing r pos y)
  OfTrim : (r b : ℕ) → IsSpare (Trimming r b)
  OfLook : (r : ℕ) → IsSpare (Looking r)

module _ (p : Layout) (u : ℕ) (x : Reply) (next : ℕ) where
  -- after it the copy goes on at this position; and the position below which the answer says that all is trimmed, or 0
  pub data GoesOn (c : Copying) : CopyWork → ℕ → ℕ → Type 0 where
    IsSeal : (r e h : ℕ) → x ≡ IsSealed e h → (e == p.epoch) ≡ true → GoesOn c (Sealing r) (next_in_stripe (range_at p.ranges c.range) c.stripe 0) 0
    IsStored : (r pos : ℕ) (y : Cell) → x ≡ IsHeld → GoesOn c (Storing r pos y) (next_in_stripe (range_at p.ranges c.range) c.stripe (pos + 1)) 0
    HasSame : (r pos : ℕ) (y z : Cell) → x ≡ IsTaken z → cell_eq y z ≡ true → GoesOn c (Storing r pos y) (next_in_stripe (range_at p.ranges c.range) c.stripe (pos + 1)) 0
    IsPast : (r pos : ℕ) (y : Cell) (b : ℕ) → x ≡ IsGone b → nat_lt pos b ≡ true → GoesOn c (Storing r pos y) (next_in_stripe (range_at p.ranges c.range) c.stripe b) b
    IsTrimmed : (r b d : ℕ) → x ≡ IsGone d → GoesOn c (Trimming r b) (next_in_stripe (range_at p.ranges c.range) c.stripe b) d
    Lacks : (r pos : ℕ) → x ≡ IsMissing pos → GoesOn c (Looking r) pos 0

  pub data Fed : Copying → Turn Copying CopyEnd → Type 0 where
    -- nothing comes of it
    Nothing : (c : Copying) → Fed c (passes next c)
    -- a cell's read goes on, or ends with the cell, or at a trim
    ReadGoes : (c : Copying) (j k : CellJob) → (cell_feed j u x next).to ≡ Goes k → Fed (copies c (Reading j)) (turn (cell_feed j u x next).next (Goes (copies c (Reading k))))
    Stores : (c : Copying) (j : CellJob) (y : Cell) → (cell_feed j u x next).to ≡ Ends (Done y) → Fed (copies c (Reading j)) (draws (cell_feed j u x next).next (copies c (Storing (cell_feed j u x next).next j.place.pos y)))
    Trims : (c : Copying) (j : CellJob) (b : ℕ) → (cell_feed j u x next).to ≡ Ends (Gone b) → Fed (copies c (Reading j)) (met_gone b (draws (cell_feed j u x next).next (copies c (Trimming (cell_feed j u x next).next b))))
    JobLearns : (c : Copying) (j k : CellJob) → (cell_feed j u x next).to ≡ Learns k → Fed (copies c (Reading j)) (learns (cell_feed j u x next).next (copies c (Reading j)))
    JobFenced : (c : Copying) (j : CellJob) (v e : ℕ) → (cell_feed j u x next).to ≡ Ends (Fenced v e) → Fed (copies c (Reading j)) (learns (cell_feed j u x next).next (copies c (Reading j)))
    JobPasses : (c : Copying) (j : CellJob) (e : CellEnd) → (cell_feed j u x next).to ≡ Ends e → Fed (copies c (Reading j)) (passes (cell_feed j u x next).next (copies c (Reading j)))
    -- the stripe's next cell is read; or there is none, and the spare is looked at
    Reads : (c : Copying) (w : CopyWork) (at gone : ℕ) → GoesOn c w at gone → nat_lt at (range_end p c.range) ≡ true → Fed (copies c w) (met_gone gone (draws next (copies c (Reading (works (place_in p at) (Gets next))))))
    LooksLast : (c : Copying) (w : CopyWork) (at gone : ℕ) → GoesOn c w at gone → nat_lt at (range_end p c.range) ≡ false → Fed (copies c w) (met_gone gone (draws next (copies c (Looking next))))
    -- the spare has all
    HasAll : (c : Copying) (r : ℕ) → x ≡ IsWhole → Fed (copies c (Looking r)) (ends next Whole)
    -- the spare has left the epoch
    IsFence : (c : Copying) (w : CopyWork) (e : ℕ) → IsSpare w → x ≡ IsFenced e → nat_lt p.epoch e ≡ true → Fed (copies c w) (learns next (copies c w))

  module _ (c : Copying) where
    on_fed : (w : CopyWork) (at : ℕ) (b : Bool) → GoesOn c w at 0 → nat_lt at (range_end p c.range) ≡ b → Fed (copies c w) (copy_from p (copies c w) at next b)
    unfolding get_cell
    on_fed w at true k e = Reads c w at 0 k e
    on_fed w at false k e = LooksLast c w at 0 k e

    gone_fed : (w : CopyWork) (at gone : ℕ) (b : Bool) → GoesOn c w at gone → nat_lt at (range_end p c.range) ≡ b → Fed (copies c w) (met_gone gone (copy_from p (copies c w) at next b))
    unfolding get_cell
    gone_fed w at gone true k e = Reads c w at gone k e
    gone_fed w at gone false k e = LooksLast c w at gone k e

    read_fed : (j : CellJob) (to : Next CellJob CellEnd) → (cell_feed j u x next).to ≡ to → Fed (copies c (Reading j)) (read_next p (copies c (Reading j)) j.place.pos to (cell_feed j u x next).next)
    read_fed j (Goes k) e = ReadGoes c j k e
    read_fed j (Learns k) e = JobLearns c j k e
    read_fed j (Ends (Done y)) e = Stores c j y e
    read_fed j (Ends (Gone b)) e = Trims c j b e
    read_fed j (Ends (Fenced v f)) e = JobFenced c j v f e
    read_fed j (Ends Seen) e = JobPasses c j Seen e
    read_fed j (Ends (Lost y)) e = JobPasses c j (Lost y) e

    fence_fed : (w : CopyWork) (e : ℕ) (b : Bool) → IsSpare w → x ≡ IsFenced e → nat_lt p.epoch e ≡ b → Fed (copies c w) (learns_if b (copies c w) next)
    fence_fed w e true k is f = IsFence c w e k is f
    fence_fed w e false k is f = Nothing (copies c w)

    seal_fed : (r e h : ℕ) (b : Bool) → x ≡ IsSealed e h → (e == p.epoch) ≡ b → Fed (copies c (Sealing r)) (sealed_if p (copies c (Sealing r)) next b)
    seal_fed r e h true is f = on_fed (Sealing r) _ _ (IsSeal r e h is f) refl
    seal_fed r e h false is f = Nothing (copies c (Sealing r))

    same_fed : (r pos : ℕ) (y z : Cell) (b : Bool) → x ≡ IsTaken z → cell_eq y z ≡ b → Fed (copies c (Storing r pos y)) (stored_if p (copies c (Storing r pos y)) pos next b)
    same_fed r pos y z true is f = on_fed (Storing r pos y) _ _ (HasSame r pos y z is f) refl
    same_fed r pos y z false is f = Nothing (copies c (Storing r pos y))

    past_fed : (r pos : ℕ) (y : Cell) (d : ℕ) (b : Bool) → x ≡ IsGone d → nat_lt pos d ≡ b → Fed (copies c (Storing r pos y)) (skipped_if p (copies c (Storing r pos y)) d next b)
    past_fed r pos y d true is f = gone_fed (Storing r pos y) _ d _ (IsPast r pos y d is f) refl
    past_fed r pos y d false is f = Nothing (copies c (Storing r pos y))

    work_fed : (w : CopyWork) (y : Reply) → x ≡ y → Fed (copies c w) (copy_feed p (copies c w) w u y next)
    unfolding copy_feed
    work_fed (Reading j) y is = subst (λ (z : Reply). Fed (copies c (Reading j)) (read_next p (copies c (Reading j)) j.place.pos (cell_feed j u z next).to (cell_feed j u z next).next)) is (read_fed j (cell_feed j u x next).to refl)
    work_fed (Sealing r) (IsFenced e) is = fence_fed (Sealing r) e (nat_lt p.epoch e) (OfSeal r) is refl
    work_fed (Sealing r) (IsSealed e h) is = seal_fed r e h (e == p.epoch) is refl
    work_fed (Storing r pos y) (IsFenced e) is = fence_fed (Storing r pos y) e (nat_lt p.epoch e) (OfStore r pos y) is refl
    work_fed (Storing r pos y) IsHeld is = on_fed (Storing r pos y) _ _ (IsStored r pos y is) refl
    work_fed (Storing r pos y) (IsTaken z) is = same_fed r pos y z (cell_eq y z) is refl
    work_fed (Storing r pos y) (IsGone d) is = past_fed r pos y d (nat_lt pos d) is refl
    work_fed (Trimming r b) (IsFenced e) is = fence_fed (Trimming r b) e (nat_lt p.epoch e) (OfTrim r b) is refl
    work_fed (Trimming r b) (IsGone d) is = gone_fed (Trimming r b) _ d _ (IsTrimmed r b d is) refl
    work_fed (Looking r) (IsFenced e) is = fence_fed (Looking r) e (nat_lt p.epoch e) (OfLook r) is refl
    work_fed (Looking r) IsWhole is = HasAll c r is
    work_fed (Looking r) (IsMissing pos) is = on_fed (Looking r) pos _ (Lacks r pos is) refl
    work_fed w y is = Nothing (copies c w)

  pub copy_fed : (c : Copying) → Fed c (copy_feed p c c.work u x next)
  copy_fed c = work_fed c c.work x refl
