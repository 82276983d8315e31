-- Which ends of the read of a cell come only by answers that take memory.
use Rattle.std.proofs.Common.{◌≡◌, ℕ, Bool, true, false, ◌&&◌, List, Option, Some, refl, sym, ap, arith}
use Rattle.std.specs.Prelude.{if◌then◌else◌}
use Rattle.tg_base.specs.declared.cell.Cell.{Cell}
use Rattle.tg_base.specs.declared.ids.NodeId.{NodeId}
use Rattle.tg_base.specs.declared.msg.Msg.{Msg}
use Rattle.tg_base.specs.declared.msg.Msg.TheVariants as msg
use Rattle.tg_base.specs.declared.packet.Out.{Out}
use Rattle.tg_protocol.specs.Words.{too_far}
use Rattle.tg_protocol.specs.Requests.{Next, Goes, Ends, awaits}
use Rattle.tg_protocol.specs.Replies.{Reply, IsHeld, IsTaken, IsGone, IsSealed, IsMissing, IsLatest, IsIssued, IsTail, IsOther, reply}
use Rattle.tg_protocol.specs.Cells.{CellJob, CellWork, CellEnd, Done, Gone, cell_asks}
use Rattle.tg_chain.specs.Turns.{Shown as CellShown, by_rules as cell_rules, fed, needs_memory}
use Rattle.tg_chain.specs.Ends.{get_end as get_ended}
use Rattle.tg_chain.specs.Laws.{EndsBy, settled_by}
use Rattle.tg_chain.specs.declared.ends.GetCellEnd.{GetCellEnd}
use Rattle.tg_chain.specs.declared.ends.GetCellEnd.TheVariants as get
use Rattle.tg_chain.proofs.Steps.{ends_by_answers}
use Rattle.tg_copy.specs.Needs.{asks_on, reading_needs}

-- a unit holds a cell
abbrev shows_cell : Reply → Bool
shows_cell IsHeld = true
shows_cell (IsTaken c) = true
shows_cell x = false

abbrev shows_trim : Reply → Bool
shows_trim (IsGone b) = true
shows_trim x = false

hidden_cell : (b : Bool) (x : Reply) → shows_cell x ≡ false → shows_cell (if b then IsOther else x) ≡ true → ⊥
hidden_cell true x h g = absurd cc
hidden_cell false x h g = cc

hidden_trim : (b : Bool) (x : Reply) → shows_trim x ≡ false → shows_trim (if b then IsOther else x) ≡ true → ⊥
hidden_trim true x h g = absurd cc
hidden_trim false x h g = cc

cell_needs : (m : Msg) → shows_cell (reply m) ≡ true → needs_memory m ≡ true
unfolding reply
cell_needs msg.Held h = refl
cell_needs (msg.Taken c) h = refl
cell_needs (msg.Gone b) h = absurd (hidden_cell (too_far b) (IsGone b) refl h)
cell_needs (msg.Sealed e p) h = absurd (hidden_cell (too_far p) (IsSealed e p) refl h)
cell_needs (msg.Missing p) h = refl
cell_needs (msg.Latest q) h = absurd (hidden_cell _ (IsLatest q) refl h)
cell_needs (msg.Issued p ls) h = absurd (hidden_cell (too_far p) (IsIssued p ls) refl h)
cell_needs (msg.Tail t ls) h = absurd (hidden_cell (too_far t) (IsTail t ls) refl h)
cell_needs _ h = absurd cc

trim_needs : (m : Msg) → shows_trim (reply m) ≡ true → reading_needs m ≡ true
unfolding reply
trim_needs (msg.Gone b) h = refl
trim_needs (msg.Sealed e p) h = absurd (hidden_trim (too_far p) (IsSealed e p) refl h)
trim_needs (msg.Missing p) h = absurd (hidden_trim (too_far p) (IsMissing p) refl h)
trim_needs (msg.Latest q) h = absurd (hidden_trim _ (IsLatest q) refl h)
trim_needs (msg.Issued p ls) h = absurd (hidden_trim (too_far p) (IsIssued p ls) refl h)
trim_needs (msg.Tail t ls) h = absurd (hidden_trim (too_far t) (IsTail t ls) refl h)
trim_needs _ h = absurd cc

settled_shows : (w : CellWork) (x : Reply) (c : Cell) → settled_by w x ≡ Some c → shows_cell x ≡ true
settled_shows w x c h = grind arith

not_both : (a b : Bool) → a ≡ true → b ≡ true → (a && b) ≡ false → ⊥
not_both true true f g h = cc
not_both true false f g h = cc
not_both false b f g h = cc

and_false : (b : Bool) → (b && false) ≡ false
and_false true = refl
and_false false = refl

-- an answer that tells no trim needs less memory
pub less_needed : (b : Bool) (m : Msg) → (b && reading_needs m) ≡ false → (b && needs_memory m) ≡ false
less_needed b (msg.Gone x) h = and_false b
less_needed b _ h = h

-- a message that isn't awaited or needs no memory doesn't end a read as done or gone
pub read_frees : (e : GetCellEnd) (j : CellJob) (from : NodeId) (rid : ℕ) (m : Msg) (old new : ℕ) (outs : List Out) →
    (awaits (cell_asks j) from rid && reading_needs m) ≡ false →
    ◌≡◌ {A = CellShown CellJob CellEnd} (record { next = new; to = Ends (get_ended e); outs = outs }) (cell_rules cell_asks old (fed j from rid m old)) → asks_on e ≡ false
read_frees (get.Done c) j from rid m old new outs idle h =
    let by = ends_by_answers j from rid m old (Done c) (sym (ap (λ (s : CellShown CellJob CellEnd). s.to) h)) in
    absurd (not_both _ _ by.0 (cell_needs m (settled_shows j.work (reply m) c by.1.0)) (less_needed _ m idle))
read_frees (get.Gone b) j from rid m old new outs idle h =
    let by = ends_by_answers j from rid m old (Gone b) (sym (ap (λ (s : CellShown CellJob CellEnd). s.to) h)) in
    absurd (not_both _ _ by.0 (trim_needs m (ap shows_trim by.1.0)) idle)
read_frees (get.Fenced u f) j from rid m old new outs idle h = refl
