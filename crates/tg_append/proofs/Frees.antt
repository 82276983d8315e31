-- Which ends of a cell's machine come only by answers that take memory.
use Rattle.std.proofs.Common.{◌≡◌, ℕ, Bool, true, false, ◌&&◌, List, Option, Some, None, refl, sym, ap, subst, ◌∙◌, arith}
use Rattle.std.specs.Prelude.{if◌then◌else◌}
use Rattle.tg_base.specs.declared.cell.Cell.{Cell}
use Rattle.tg_base.specs.declared.ids.NodeId.{NodeId}
use Rattle.tg_base.specs.declared.msg.Msg.{Msg}
use Rattle.tg_base.specs.declared.msg.Msg.TheVariants as msg
use Rattle.tg_base.specs.declared.packet.Out.{Out}
use Rattle.tg_protocol.specs.Words.{too_far}
use Rattle.tg_protocol.specs.Requests.{Next, Goes, Ends, awaits}
use Rattle.tg_protocol.specs.Replies.{Reply, IsHeld, IsTaken, IsGone, IsSealed, IsMissing, IsLatest, IsIssued, IsTail, IsOther, reply}
use Rattle.tg_protocol.specs.Cells.{CellJob, CellWork, Puts, Gets, Fills, Copies, Probes, CellEnd, Done, Lost, Gone, cell_asks}
use Rattle.tg_chain.specs.Turns.{Shown as CellShown, by_rules as cell_rules, fed, needs_memory}
use Rattle.tg_chain.specs.Ends.{put_end as put_ended, fill_end as fill_ended}
use Rattle.tg_chain.specs.Laws.{EndsBy, Loses, settled_by}
use Rattle.tg_chain.specs.declared.ends.PutCellEnd.{PutCellEnd}
use Rattle.tg_chain.specs.declared.ends.PutCellEnd.TheVariants as put
use Rattle.tg_chain.specs.declared.ends.FillCellEnd.{FillCellEnd}
use Rattle.tg_chain.specs.declared.ends.FillCellEnd.TheVariants as fill
use Rattle.tg_chain.proofs.Steps.{ends_by_answers}
use Rattle.tg_append.specs.Needs.{is_lost, is_done, is_gone, settling_needs}

-- a unit holds a cell
abbrev shows_cell : Reply → Bool
shows_cell IsHeld = true
shows_cell (IsTaken c) = true
shows_cell x = false

abbrev shows_trim : Reply → Bool
shows_trim (IsGone b) = true
shows_trim x = false

hidden_cell : (b : Bool) (x : Reply) → shows_cell x ≡ false → shows_cell (if b then IsOther else x) ≡ true → ⊥
hidden_cell true x h g = absurd cc
hidden_cell false x h g = cc

hidden_trim : (b : Bool) (x : Reply) → shows_trim x ≡ false → shows_trim (if b then IsOther else x) ≡ true → ⊥
hidden_trim true x h g = absurd cc
hidden_trim false x h g = cc

cell_needs : (m : Msg) → shows_cell (reply m) ≡ true → needs_memory m ≡ true
unfolding reply
cell_needs msg.Held h = refl
cell_needs (msg.Taken c) h = refl
cell_needs (msg.Gone b) h = absurd (hidden_cell (too_far b) (IsGone b) refl h)
cell_needs (msg.Sealed e p) h = absurd (hidden_cell (too_far p) (IsSealed e p) refl h)
cell_needs (msg.Missing p) h = refl
cell_needs (msg.Latest q) h = absurd (hidden_cell _ (IsLatest q) refl h)
cell_needs (msg.Issued p ls) h = absurd (hidden_cell (too_far p) (IsIssued p ls) refl h)
cell_needs (msg.Tail t ls) h = absurd (hidden_cell (too_far t) (IsTail t ls) refl h)
cell_needs _ h = absurd cc

trim_needs : (m : Msg) → shows_trim (reply m) ≡ true → settling_needs m ≡ true
unfolding reply
trim_needs (msg.Gone b) h = refl
trim_needs (msg.Sealed e p) h = absurd (hidden_trim (too_far p) (IsSealed e p) refl h)
trim_needs (msg.Missing p) h = absurd (hidden_trim (too_far p) (IsMissing p) refl h)
trim_needs (msg.Latest q) h = absurd (hidden_trim _ (IsLatest q) refl h)
trim_needs (msg.Issued p ls) h = absurd (hidden_trim (too_far p) (IsIssued p ls) refl h)
trim_needs (msg.Tail t ls) h = absurd (hidden_trim (too_far t) (IsTail t ls) refl h)
trim_needs _ h = absurd cc

settled_shows : (w : CellWork) (x : Reply) (c : Cell) → settled_by w x ≡ Some c → shows_cell x ≡ true
settled_shows w x c h = grind arith

lost_shows : (w : CellWork) (x : Reply) (c : Cell) → Loses w x c → shows_cell x ≡ true
lost_shows (Puts r d i) x c h = ap shows_cell h.1
lost_shows (Gets r) x c h = absurd cc
lost_shows (Fills r) x c h = absurd cc
lost_shows (Copies r c' i) x c h = absurd cc
lost_shows (Probes ws) x c h = absurd cc

not_both : (a b : Bool) → a ≡ true → b ≡ true → (a && b) ≡ false → ⊥
not_both true true f g h = cc
not_both true false f g h = cc
not_both false b f g h = cc

-- a message that isn't awaited or needs no memory doesn't end a put as lost
pub put_frees : (d : List ℕ) (e : PutCellEnd) (j : CellJob) (from : NodeId) (rid : ℕ) (m : Msg) (old new : ℕ) (outs : List Out) →
    (awaits (cell_asks j) from rid && needs_memory m) ≡ false →
    ◌≡◌ {A = CellShown CellJob CellEnd} (record { next = new; to = Ends (put_ended d e); outs = outs }) (cell_rules cell_asks old (fed j from rid m old)) → is_lost e ≡ false
put_frees d (put.Lost c) j from rid m old new outs idle h =
    let by = ends_by_answers j from rid m old (Lost c) (sym (ap (λ (s : CellShown CellJob CellEnd). s.to) h)) in
    absurd (not_both _ _ by.0 (cell_needs m (lost_shows j.work (reply m) c by.1)) idle)
put_frees d put.Done j from rid m old new outs idle h = refl
put_frees d (put.Fenced u f) j from rid m old new outs idle h = refl
put_frees d (put.Gone b) j from rid m old new outs idle h = refl

-- nor a fill as done
pub fill_frees : (e : FillCellEnd) (j : CellJob) (from : NodeId) (rid : ℕ) (m : Msg) (old new : ℕ) (outs : List Out) →
    (awaits (cell_asks j) from rid && needs_memory m) ≡ false →
    ◌≡◌ {A = CellShown CellJob CellEnd} (record { next = new; to = Ends (fill_ended e); outs = outs }) (cell_rules cell_asks old (fed j from rid m old)) → is_done e ≡ false
fill_frees (fill.Done c) j from rid m old new outs idle h =
    let by = ends_by_answers j from rid m old (Done c) (sym (ap (λ (s : CellShown CellJob CellEnd). s.to) h)) in
    absurd (not_both _ _ by.0 (cell_needs m (settled_shows j.work (reply m) c by.1.0)) idle)
fill_frees (fill.Fenced u f) j from rid m old new outs idle h = refl
fill_frees (fill.Gone b) j from rid m old new outs idle h = refl

-- one that tells no trim either doesn't end it as gone
pub trim_frees : (e : FillCellEnd) (j : CellJob) (from : NodeId) (rid : ℕ) (m : Msg) (old new : ℕ) (outs : List Out) →
    (awaits (cell_asks j) from rid && settling_needs m) ≡ false →
    ◌≡◌ {A = CellShown CellJob CellEnd} (record { next = new; to = Ends (fill_ended e); outs = outs }) (cell_rules cell_asks old (fed j from rid m old)) → is_gone e ≡ false
trim_frees (fill.Gone b) j from rid m old new outs idle h =
    let by = ends_by_answers j from rid m old (Gone b) (sym (ap (λ (s : CellShown CellJob CellEnd). s.to) h)) in
    absurd (not_both _ _ by.0 (trim_needs m (ap shows_trim by.1.0)) idle)
trim_frees (fill.Done c) j from rid m old new outs idle h = refl
trim_frees (fill.Fenced u f) j from rid m old new outs idle h = refl

and_false : (b : Bool) → (b && false) ≡ false
and_false true = refl
and_false false = refl

-- an answer that tells no trim needs less memory
pub less_needed : (b : Bool) (m : Msg) → (b && settling_needs m) ≡ false → (b && needs_memory m) ≡ false
less_needed b (msg.Gone x) h = and_false b
less_needed b _ h = h
