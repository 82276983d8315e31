-- What a turn of a cell's job comes to, and by which tests.
use Rattle.std.proofs.Common.{◌≡◌, ℕ, ◌+◌, List, [], ◌∷◌, length, Bool, true, false, refl}
use Rattle.std.specs.Prelude.{nat_lt, not, ◌&&◌, ◌==◌}
use Rattle.tg_base.specs.declared.cell.Cell.{Cell}
use Rattle.tg_base.specs.declared.cell.Cell.TheVariants.{Data, Junk}
use Rattle.tg_protocol.specs.Words.{cell_eq}
use Rattle.tg_protocol.specs.Requests.{Waits, Goes, Turn, turn, passes, draws, ends, without_wait}
use Rattle.tg_protocol.specs.Replies.{Reply, IsFenced, IsHeld, IsTaken, IsUnwritten, IsGone, IsWhole, IsMissing}
use Rattle.tg_protocol.specs.Cells.{Place, CellWork, Puts, Gets, Fills, Copies, Probes, CellJob, CellEnd, Done, Seen, Lost, Fenced, Gone, works, put_on, copy_on, end_if, copy_if_same, probe_on, fill_cell, work_feed, cell_feed}

-- work about one cell, and not about the whole chain
pub data IsOne : CellWork → Type 0 where
  OnePut : (r : ℕ) (d : List ℕ) (i : ℕ) → IsOne (Puts r d i)
  OneGet : (r : ℕ) → IsOne (Gets r)
  OneFill : (r : ℕ) → IsOne (Fills r)
  OneCopy : (r : ℕ) (c : Cell) (i : ℕ) → IsOne (Copies r c i)

-- an awaited answer of this unit
module _ (u : ℕ) (x : Reply) (next : ℕ) where
  -- after it this cell is to be copied to the unit at this place
  pub data IsCopied : CellWork → Cell → ℕ → Type 0 where
    FillHeld : (r : ℕ) → x ≡ IsHeld → IsCopied (Fills r) Junk 1
    FillTaken : (r : ℕ) (c : Cell) → x ≡ IsTaken c → IsCopied (Fills r) c 1
    CopyHeld : (r : ℕ) (c : Cell) (i : ℕ) → x ≡ IsHeld → IsCopied (Copies r c i) c (i + 1)
    CopySame : (r : ℕ) (c : Cell) (i : ℕ) (y : Cell) → x ≡ IsTaken y → cell_eq y c ≡ true → IsCopied (Copies r c i) c (i + 1)

  -- units of the chain that haven't answered a probe
  pub data IsProbed : Waits → Type 0 where
    HasWhole : (ws : Waits) → x ≡ IsWhole → IsProbed ws
    HasMissing : (ws : Waits) (q : ℕ) → x ≡ IsMissing q → IsProbed ws

  pub data Fed : CellJob → Turn CellJob CellEnd → Type 0 where
    -- a fence of a later epoch, or a trim past the position
    IsFence : (j : CellJob) (e : ℕ) → x ≡ IsFenced e → nat_lt j.place.epoch e ≡ true → Fed j (ends next (Fenced u e))
    IsTrim : (a : Place) (w : CellWork) (b : ℕ) → IsOne w → x ≡ IsGone b → nat_lt a.pos b ≡ true → Fed (works a w) (ends next (Gone b))
    -- a page goes on down the chain, has reached its end, or is refused by the head
    PutsOn : (a : Place) (r : ℕ) (d : List ℕ) (i : ℕ) → x ≡ IsHeld → nat_lt (i + 1) (length a.chain) ≡ true → Fed (works a (Puts r d i)) (draws next (works a (Puts next d (i + 1))))
    PutsLast : (a : Place) (r : ℕ) (d : List ℕ) (i : ℕ) → x ≡ IsHeld → nat_lt (i + 1) (length a.chain) ≡ false → Fed (works a (Puts r d i)) (ends next (Done (Data d)))
    PutRefused : (a : Place) (r : ℕ) (d : List ℕ) (i : ℕ) (c : Cell) → x ≡ IsTaken c → ((i == 0) && not (cell_eq c (Data d))) ≡ true → Fed (works a (Puts r d i)) (ends next (Lost c))
    -- a cell is read, or filled where there is none
    ReadsCell : (a : Place) (r : ℕ) (c : Cell) → x ≡ IsTaken c → Fed (works a (Gets r)) (ends next (Done c))
    ReadsNone : (a : Place) (r : ℕ) → x ≡ IsUnwritten → Fed (works a (Gets r)) (draws next (works a (Fills next)))
    -- a cell is copied on down the chain, or has reached its end
    CopiesOn : (a : Place) (w : CellWork) (c : Cell) (i : ℕ) → IsCopied w c i → nat_lt i (length a.chain) ≡ true → Fed (works a w) (draws next (works a (Copies next c i)))
    CopiesLast : (a : Place) (w : CellWork) (c : Cell) (i : ℕ) → IsCopied w c i → nat_lt i (length a.chain) ≡ false → Fed (works a w) (ends next (Done c))
    -- all units have answered a probe, or not yet
    ProbesLast : (a : Place) (ws : Waits) → IsProbed ws → without_wait u ws ≡ [] → Fed (works a (Probes ws)) (ends next Seen)
    ProbesOn : (a : Place) (ws : Waits) (v : ℕ × ℕ) (vs : Waits) → IsProbed ws → without_wait u ws ≡ v ∷ vs → Fed (works a (Probes ws)) (turn next (Goes (works a (Probes (v ∷ vs)))))
    -- nothing comes of it
    Nothing : (j : CellJob) → Fed j (passes next j)

  module _ (a : Place) where
    fenced_fed : (w : CellWork) (e : ℕ) (b : Bool) → x ≡ IsFenced e → nat_lt a.epoch e ≡ b → Fed (works a w) (end_if b (works a w) next (Fenced u e))
    fenced_fed w e true is f = IsFence (works a w) e is f
    fenced_fed w e false is f = Nothing (works a w)

    trim_fed : (w : CellWork) (q : ℕ) (b : Bool) → IsOne w → x ≡ IsGone q → nat_lt a.pos q ≡ b → Fed (works a w) (end_if b (works a w) next (Gone q))
    trim_fed w q true k is f = IsTrim a w q k is f
    trim_fed w q false k is f = Nothing (works a w)

    put_fed : (r : ℕ) (d : List ℕ) (i : ℕ) (b : Bool) → x ≡ IsHeld → nat_lt (i + 1) (length a.chain) ≡ b → Fed (works a (Puts r d i)) (put_on a d (i + 1) next b)
    put_fed r d i true is f = PutsOn a r d i is f
    put_fed r d i false is f = PutsLast a r d i is f

    lost_fed : (r : ℕ) (d : List ℕ) (i : ℕ) (c : Cell) (b : Bool) → x ≡ IsTaken c → ((i == 0) && not (cell_eq c (Data d))) ≡ b → Fed (works a (Puts r d i)) (end_if b (works a (Puts r d i)) next (Lost c))
    lost_fed r d i c true is f = PutRefused a r d i c is f
    lost_fed r d i c false is f = Nothing (works a (Puts r d i))

    copy_fed : (w : CellWork) (c : Cell) (i : ℕ) (b : Bool) → IsCopied w c i → nat_lt i (length a.chain) ≡ b → Fed (works a w) (copy_on a c i next b)
    copy_fed w c i true k f = CopiesOn a w c i k f
    copy_fed w c i false k f = CopiesLast a w c i k f

    same_fed : (r : ℕ) (c : Cell) (i : ℕ) (y : Cell) (b : Bool) → x ≡ IsTaken y → cell_eq y c ≡ b → Fed (works a (Copies r c i)) (copy_if_same (works a (Copies r c i)) c i next b)
    same_fed r c i y true is f = copy_fed (Copies r c i) c (i + 1) (nat_lt (i + 1) (length a.chain)) (CopySame r c i y is f) refl
    same_fed r c i y false is f = Nothing (works a (Copies r c i))

    probe_fed : (ws vs : Waits) → IsProbed ws → without_wait u ws ≡ vs → Fed (works a (Probes ws)) (probe_on a vs next)
    probe_fed ws [] k e = ProbesLast a ws k e
    probe_fed ws (v ∷ vs) k e = ProbesOn a ws v vs k e

    work_fed : (w : CellWork) (y : Reply) → x ≡ y → Fed (works a w) (work_feed (works a w) w u y next)
    unfolding work_feed fill_cell
    work_fed w (IsFenced e) is = fenced_fed w e (nat_lt a.epoch e) is refl
    work_fed (Puts r d i) IsHeld is = put_fed r d i (nat_lt (i + 1) (length a.chain)) is refl
    work_fed (Puts r d i) (IsTaken c) is = lost_fed r d i c ((i == 0) && not (cell_eq c (Data d))) is refl
    work_fed (Puts r d i) (IsGone b) is = trim_fed (Puts r d i) b (nat_lt a.pos b) (OnePut r d i) is refl
    work_fed (Gets r) (IsTaken c) is = ReadsCell a r c is
    work_fed (Gets r) IsUnwritten is = ReadsNone a r is
    work_fed (Gets r) (IsGone b) is = trim_fed (Gets r) b (nat_lt a.pos b) (OneGet r) is refl
    work_fed (Fills r) IsHeld is = copy_fed (Fills r) Junk 1 (nat_lt 1 (length a.chain)) (FillHeld r is) refl
    work_fed (Fills r) (IsTaken c) is = copy_fed (Fills r) c 1 (nat_lt 1 (length a.chain)) (FillTaken r c is) refl
    work_fed (Fills r) (IsGone b) is = trim_fed (Fills r) b (nat_lt a.pos b) (OneFill r) is refl
    work_fed (Copies r c i) IsHeld is = copy_fed (Copies r c i) c (i + 1) (nat_lt (i + 1) (length a.chain)) (CopyHeld r c i is) refl
    work_fed (Copies r c i) (IsTaken y) is = same_fed r c i y (cell_eq y c) is refl
    work_fed (Copies r c i) (IsGone b) is = trim_fed (Copies r c i) b (nat_lt a.pos b) (OneCopy r c i) is refl
    work_fed (Probes ws) IsWhole is = probe_fed ws (without_wait u ws) (HasWhole ws is) refl
    work_fed (Probes ws) (IsMissing q) is = probe_fed ws (without_wait u ws) (HasMissing ws q is) refl
    work_fed w y is = Nothing (works a w)

  pub cell_fed : (j : CellJob) → Fed j (cell_feed j u x next)
  unfolding cell_feed
  cell_fed j = work_fed j.place j.work x refl
