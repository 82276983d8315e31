-- Packets besides those of the command: scans of older layouts, and questions for the latest one.
use Rattle.std.proofs.Common.{◌≡◌, ℕ, ◌+◌, [], ◌∷◌, Bool, true, false, refl, sym, subst, arith, Some, None, Option, eqb}
use Rattle.std.specs.Prelude.{⊤, min}
use Rattle.tg_base.specs.Layouts.{Layout}
use Rattle.tg_base.specs.declared.ids.NodeId.{NodeId}
use Rattle.tg_base.specs.declared.msg.Msg.{Msg}
use Rattle.tg_base.specs.declared.msg.Msg.TheVariants as msg
use Rattle.tg_base.specs.declared.packet.Out.{Out}
use Rattle.tg_protocol.specs.Words.{unit_id}
use Rattle.tg_protocol.specs.Units.{UnitState, UnitAsk, says, unit_ask, on_ask, unit_step}
use Rattle.tg_protocol.specs.Requests.{out, Waits, asked_of, awaits, Next, Goes, Learns, Ends}
use Rattle.tg_protocol.specs.Replies.{Reply, reply}
use Rattle.tg_protocol.specs.Cells.{Place, CellJob, CellWork, Puts, Gets, Fills, Copies, Probes, CellEnd, Done, Seen, Lost, Fenced, Gone, work_asks, cell_asks, cell_feed, work_feed, get_cell, fill_cell}
use Rattle.tg_protocol.specs.Sequencers.{SeqrState, SeqrTurn, seqr_step, seqr_tick, seqr_asks, scan_asks, scan_fed, fed_if, scan_turn, scan_next, scan_ended, scan_on, scanning, with_positions, cell_streams}
use Rattle.tg_law_layouts.specs.Steps.Runs.{epoch_of}
use Rattle.tg_law_finish.proofs.Finish.Lists.{Each, each_filter}

-- A unit and requests of another epoch.

other_epoch : (s : UnitState) (a : UnitAsk) (e : ℕ) → epoch_of a ≡ Some e → eqb s.epoch e ≡ false → on_ask s a ≡ says s (msg.Fenced s.epoch)
unfolding on_ask
other_epoch s a e is off = grind arith

pub unit_fences : (s : UnitState) (x : Msg) (e : ℕ) → epoch_of (unit_ask x) ≡ Some e → eqb s.epoch e ≡ false → unit_step s x ≡ says s (msg.Fenced s.epoch)
unfolding unit_step
unit_fences s x e is off = other_epoch s (unit_ask x) e is off

asked_epoch : (s : UnitState) (a : UnitAsk) (e : ℕ) → epoch_of a ≡ Some e → (on_ask s a).now.epoch ≡ s.epoch
unfolding on_ask
asked_epoch s a e is = grind arith

-- only a seal moves a unit to another epoch
pub same_epoch : (s : UnitState) (x : Msg) (e : ℕ) → epoch_of (unit_ask x) ≡ Some e → (unit_step s x).now.epoch ≡ s.epoch
unfolding unit_step
same_epoch s x e is = asked_epoch s (unit_ask x) e is

-- what is no request to a sequencer
unfoldable pub is_plain : Msg → Bool
is_plain (msg.Learn q) = false
is_plain (msg.Token e os) = false
is_plain (msg.Check e os) = false
is_plain _ = true

ask_plain : (s : UnitState) (a : UnitAsk) (x : Msg) → (on_ask s a).says ≡ Some x → is_plain x ≡ true
unfolding on_ask is_plain
ask_plain s a x e = grind arith

pub unit_plain : (s : UnitState) (m x : Msg) → (unit_step s m).says ≡ Some x → is_plain x ≡ true
unfolding unit_step
unit_plain s m x e = ask_plain s (unit_ask m) x e

plain_step : (s : SeqrState) (from : NodeId) (rid : ℕ) (x : Msg) → is_plain x ≡ true → seqr_step s from rid x ≡ scan_fed s s.scan from rid x
unfolding seqr_step is_plain
plain_step s from rid x e = grind arith

-- Scans of another layout than that of this epoch.
module _ (epoch : ℕ) where
  pub record AsksOf (o : Out) : Type 0 where
    pub unit : ℕ
    pub to : o.to ≡ unit_id unit
    pub at : ℕ
    pub is : epoch_of (unit_ask o.msg) ≡ Some at
    pub off : eqb at epoch ≡ false

  asks_one : (u r : ℕ) (x : Msg) (at : ℕ) → epoch_of (unit_ask x) ≡ Some at → eqb at epoch ≡ false → AsksOf (out (unit_id u) r x)
  asks_one u r x at is off = record { unit = u; to = refl; at = at; is = is; off = off }

  asks_all : (x : Msg) (at : ℕ) (ws : Waits) → epoch_of (unit_ask x) ≡ Some at → eqb at epoch ≡ false → Each AsksOf (asked_of unit_id x ws)
  asks_all x at [] is off = tt
  asks_all x at (w ∷ ws) is off = (asks_one w.0 w.1 x at is off, asks_all x at ws is off)

  cell_asks_of : (a : Place) (w : CellWork) → eqb a.epoch epoch ≡ false → Each AsksOf (work_asks a w)
  unfolding work_asks unit_ask
  cell_asks_of a (Puts r d i) off = (asks_one _ r _ a.epoch refl off, tt)
  cell_asks_of a (Gets r) off = (asks_one _ r _ a.epoch refl off, tt)
  cell_asks_of a (Fills r) off = (asks_one _ r _ a.epoch refl off, tt)
  cell_asks_of a (Copies r c i) off = (asks_one _ r _ a.epoch refl off, tt)
  cell_asks_of a (Probes ws) off = asks_all _ a.epoch ws refl off

  -- a scan of a layout of another epoch
  abbrev pub JobOff : Layout → Option CellJob → Type 0
  JobOff q None = ⊤
  JobOff q (Some j) = (eqb j.place.epoch epoch ≡ false) × (eqb q.epoch epoch ≡ false)

  pub record Old (s : SeqrState) : Type 0 where
    pub scan : JobOff s.proj s.scan

  scan_asks_of : (q : Layout) (o : Option CellJob) → JobOff q o → Each AsksOf (scan_asks o)
  scan_asks_of q None off = tt
  scan_asks_of q (Some j) off = cell_asks_of j.place j.work off.0

  same_place : (j : CellJob) (u : ℕ) (x : Reply) (next : ℕ) (k : CellJob) → ((cell_feed j u x next).to ≡ Goes k) → k.place ≡ j.place
  unfolding cell_feed work_feed get_cell fill_cell
  same_place j u x next k e = grind arith

  never_learns : (j : CellJob) (u : ℕ) (x : Reply) (next : ℕ) (k : CellJob) → ((cell_feed j u x next).to ≡ Learns k) → ⊥
  unfolding cell_feed work_feed get_cell fill_cell
  never_learns j u x next k e = grind arith

  scans_old : (s : SeqrState) (b : Bool) → eqb s.proj.epoch epoch ≡ false → Old (scan_on s b)
  unfolding get_cell
  scans_old s true off = record { scan = (off, off) }
  scans_old s false off = record { scan = tt }

  ended_old : (s : SeqrState) (e : CellEnd) → eqb s.proj.epoch epoch ≡ false → Old s → Old (scan_ended s e)
  ended_old s (Done c) off o = let t = record s { next = s.next + 1; lists = with_positions s.next (cell_streams c) s.lists } in scans_old t (scanning t) off
  ended_old s (Gone b) off o = let t = record s { next = min b s.proj.start } in scans_old t (scanning t) off
  ended_old s (Fenced u e) off o = record { scan = tt }
  ended_old s Seen off o = o
  ended_old s (Lost c) off o = o

  next_old : (s : SeqrState) (j : CellJob) (n : Next CellJob CellEnd) → ((k : CellJob) → n ≡ Goes k → k.place ≡ j.place) → ((k : CellJob) → n ≡ Learns k → ⊥) → eqb j.place.epoch epoch ≡ false → eqb s.proj.epoch epoch ≡ false → Old s → Old (scan_next s n)
  next_old s j (Goes k) same never off proj o = record { scan = (subst (λ (a : Place). eqb a.epoch epoch ≡ false) (sym (same k refl)) off, proj) }
  next_old s j (Learns k) same never off proj o = absurd (never k refl)
  next_old s j (Ends e) same never off proj o = ended_old s e proj o

  turn_old : (s : SeqrState) (j : CellJob) (u : ℕ) (x : Reply) → JobOff s.proj (Some j) → Old s → Old (scan_turn s (cell_feed j u x s.rids))
  turn_old s j u x off o = next_old _ j (cell_feed j u x s.rids).to (λ k e. same_place j u x s.rids k e) (λ k e. never_learns j u x s.rids k e) off.0 off.1 (record { scan = o.scan })

  pub record OldTurn (t : SeqrTurn) : Type 0 where
    pub now : Old t.now
    pub sends : Each AsksOf t.sends

  fed_old : (b : Bool) (old s : SeqrState) → Old old → Old s → OldTurn (fed_if b old s)
  fed_old true old s a o = record { now = o; sends = each_filter AsksOf _ (seqr_asks s) (scan_asks_of s.proj s.scan o.scan) }
  fed_old false old s a o = record { now = a; sends = tt }

  scan_fed_old : (s : SeqrState) (o : Option CellJob) (from : NodeId) (rid : ℕ) (x : Msg) → JobOff s.proj o → Old s → OldTurn (scan_fed s o from rid x)
  scan_fed_old s None from rid x off o = record { now = o; sends = tt }
  scan_fed_old s (Some j) from rid x off o = fed_old (awaits (cell_asks j) from rid) s _ o (turn_old s j from.num (reply x) off o)

  pub old_step : (s : SeqrState) (from : NodeId) (rid : ℕ) (x : Msg) → is_plain x ≡ true → Old s → OldTurn (seqr_step s from rid x)
  old_step s from rid x p o = subst (λ (t : SeqrTurn). OldTurn t) (sym (plain_step s from rid x p)) (scan_fed_old s s.scan from rid x o.scan o)

  pub old_tick : (s : SeqrState) → Old s → OldTurn (seqr_tick s)
  unfolding seqr_tick
  old_tick s o = record { now = o; sends = scan_asks_of s.proj s.scan o.scan }
