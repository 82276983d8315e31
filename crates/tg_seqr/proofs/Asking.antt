-- The request for the next position's cell.
use Rattle.std.proofs.Common.{◌≡◌, ℕ, ◌+◌, ◌<◌, ◌&&◌, Bool, true, List, length, refl, arith, subst, sym, ap}
use Rattle.std.specs.Prelude.{nat_lt}
use Rattle.tg_base.specs.Units.{is_chain}
use Rattle.tg_base.specs.declared.turn.Turn.TheVariants.{More, End}
use Rattle.tg_chain.specs.Ends.{get_end}
use Rattle.tg_chain.specs.Turns.{Shown, shown, by_rules}
use Rattle.tg_protocol.specs.Cells.{Place, CellJob, CellEnd, Gets, cell_asks, work_asks, works, get_cell, place_in}
use Rattle.tg_protocol.specs.Requests.{Goes, Ends, drawn_from}
use Rattle.tg_protocol.specs.Sequencers.{SeqrState, scan_on, seqr_asks, job_of}
use Rattle.tg_seqr.specs.Scans.{all_drawn, is_scan, Turned, next_of, outs_of}
use Rattle.tg_seqr.proofs.Scanning.{given, drawn_same}

pub some_unit : (c : List ℕ) → is_chain c ≡ true → 0 < length c
some_unit c h = grind arith

pub record Asked (s : SeqrState) (t : Turned) (n : ℕ) : Type 0 where
  pub room : is_scan n s.next s.proj.start (job_of (next_of t)) ≡ true
  pub now : ◌≡◌ {A = SeqrState} (record s { rids = n; scan = job_of (next_of t) }) (scan_on s true)
  pub sends : outs_of t ≡ drawn_from s.rids (seqr_asks (scan_on s true))
  pub one : n ≡ s.rids + 1

get_drawn : (a : Place) (k : ℕ) → all_drawn (k + 1) (cell_asks (works a (Gets k))) ≡ true
unfolding work_asks
get_drawn a k = grind arith

both : (a b : Bool) → a ≡ true → b ≡ true → (a && b) ≡ true
both a b h k = grind arith

asked : (s : SeqrState) → nat_lt s.next s.proj.start ≡ true →
    Asked s (given (by_rules cell_asks s.rids (get_cell (place_in s.proj s.next) s.rids))) (s.rids + 1)
unfolding get_cell
asked s left = record {
  room = both _ _ left (get_drawn (place_in s.proj s.next) s.rids);
  now = refl;
  sends = drawn_same s.rids (s.rids + 1) (cell_asks (works (place_in s.proj s.next) (Gets s.rids))) (get_drawn (place_in s.proj s.next) s.rids);
  one = refl;
}

pub ask_is : (s : SeqrState) (t : Turned) (n : ℕ) → nat_lt s.next s.proj.start ≡ true →
    shown get_end t n ≡ by_rules cell_asks s.rids (get_cell (place_in s.proj s.next) s.rids) → Asked s t n
unfolding get_cell
ask_is s (More j outs) n left e = subst (λ (z : Shown CellJob CellEnd). Asked s (given z) z.next) (sym e) (asked s left)
ask_is s (End x outs) n left e =
    let h : Ends (get_end x) ≡ Goes (works (place_in s.proj s.next) (Gets s.rids)) = ap (λ (z : Shown CellJob CellEnd). z.to) e in
    absurd cc

-- the same place and number
pub got : (t : Turned) (n : ℕ) (a b : Place) (k m : ℕ) → a ≡ b → k ≡ m →
    shown get_end t n ≡ by_rules cell_asks k (get_cell a k) → shown get_end t n ≡ by_rules cell_asks m (get_cell b m)
got t n a b k m p q e =
    subst (λ (x : ℕ). shown get_end t n ≡ by_rules cell_asks x (get_cell b x)) q
    (subst (λ (x : Place). shown get_end t n ≡ by_rules cell_asks k (get_cell x k)) p e)
