-- The cells of a log by position, and its entries.
use Rattle.std.proofs.Common.{◌≡◌, ℕ, ◌+◌, ◌<◌, ◌≤◌, List, [], ◌∷◌, Bool, true, false, refl, sym, ap, ◌∙◌, inl, inr, arith, Option, Some, None, nat_cmp}
use Rattle.std.specs.Prelude.{nat_lt, nat_le, ◌&&◌, ◌==◌, if◌then◌else◌, cond}
use Rattle.std.specs.Map.{lookup}
use Rattle.std.specs.BTreeMap.{is_at}
use Rattle.tg_base.specs.Layouts.{Layout}
use Rattle.tg_base.specs.declared.cell.Cell.{Cell}
use Rattle.tg_entry.specs.declared.entry.Entry.{Entry}
use Rattle.tg_kind.specs.Meaning.{Meaning}
use Rattle.tg_protocol.specs.Words.{with_num, with_nums}
use Rattle.tg_protocol.specs.Units.{UnitState}
use Rattle.tg_protocol.specs.Views.{Entries, entry_if}
use Rattle.tg_protocol.specs.Logs.{Log, positions, all_positions, cell_if, log_cell, cells_of, log_of, entries_of, entry_at, outcome_by, outcome}
use Rattle.tg_protocol.specs.Pages.{entry_in, cell_entry}
use Rattle.tg_protocol.specs.Worlds.{World, log, latest}
use Rattle.tg_law_replies.specs.Plays.Sound.{rise_from}
use Rattle.tg_law_replies.specs.History.Worlds.{entries_in, LogsRise, OutcomesAre}
use Rattle.tg_law_replies.proofs.History.Members.{Has, has_contained, and_both, both_and, lt_of, of_le}

abbrev rises : ℕ → List ℕ → Bool
rises low [] = true
rises low (x ∷ xs) = nat_le low x && rises (x + 1) xs

le_of : (a b : ℕ) → nat_le a b ≡ true → a ≤ b
le_of a b e = grind arith

rises_less : (low less : ℕ) (xs : List ℕ) → less ≤ low → rises low xs ≡ true → rises less xs ≡ true
rises_less low less [] le h = refl
rises_less low less (x ∷ xs) le h =
    let p = and_both (nat_le low x) (rises (x + 1) xs) h in let q = le_of low x p.0 in both_and (nat_le less x) (rises (x + 1) xs) (of_le less x (omega (arith, q, le))) p.1

with_rises : (low x : ℕ) (ys : List ℕ) → low ≤ x → rises low ys ≡ true → rises low (with_num x ys) ≡ true
with_rises low x [] le h = both_and (nat_le low x) true (of_le low x le) refl
with_rises low x (y ∷ ys) le h = by (nat_lt x y) refl (x == y) refl (λ more. with_rises (y + 1) x ys more (and_both (nat_le low y) (rises (y + 1) ys) h).1)
  where
    apart : (a b : ℕ) → nat_lt a b ≡ false → (a == b) ≡ false → b + 1 ≤ a
    apart a b e f = grind arith

    by : (b : Bool) → nat_lt x y ≡ b → (c : Bool) → (x == y) ≡ c → (y + 1 ≤ x → rises (y + 1) (with_num x ys) ≡ true)
        → rises low (if b then x ∷ y ∷ ys else (if c then y ∷ ys else y ∷ with_num x ys)) ≡ true
    by true e c f rest =
        both_and (nat_le low x) (rises (x + 1) (y ∷ ys)) (of_le low x le)
        (both_and (nat_le (x + 1) y) (rises (y + 1) ys) (let less = lt_of x y e in of_le (x + 1) y (omega (arith, less))) (and_both (nat_le low y) (rises (y + 1) ys) h).1)
    by false e true f rest = h
    by false e false f rest = both_and (nat_le low y) (rises (y + 1) (with_num x ys)) (and_both (nat_le low y) (rises (y + 1) ys) h).0 (rest (apart x y e f))

all_rise : (xs ys : List ℕ) → rises 0 ys ≡ true → rises 0 (with_nums xs ys) ≡ true
all_rise [] ys h = h
all_rise (x ∷ xs) ys h = with_rises 0 x (with_nums xs ys) (omega arith) (all_rise xs ys h)

units_rise : (us : List UnitState) → rises 0 (all_positions us) ≡ true
units_rise [] = refl
units_rise (u ∷ us) = all_rise (positions u.cells) (all_positions us) (units_rise us)

-- The cells of a log rise.
cells_rise : (q : Layout) (us : List UnitState) (archive : Log) (low : ℕ) (ps : List ℕ) → rises low ps ≡ true → rises low (positions (cells_of q us archive ps)) ≡ true
cells_rise q us archive low [] h = refl
cells_rise q us archive low (p ∷ ps) h = by (log_cell q us archive p) (cells_rise q us archive (p + 1) ps (and_both (nat_le low p) (rises (p + 1) ps) h).1)
  where
    by : (c : Option Cell) → rises (p + 1) (positions (cells_of q us archive ps)) ≡ true → rises low (positions (cell_if p c (cells_of q us archive ps))) ≡ true
    by None rest = let le = le_of low p (and_both (nat_le low p) (rises (p + 1) ps) h).0 in rises_less (p + 1) low (positions (cells_of q us archive ps)) (omega (arith, le)) rest
    by (Some c) rest = both_and (nat_le low p) (rises (p + 1) (positions (cells_of q us archive ps))) (and_both (nat_le low p) (rises (p + 1) ps) h).0 rest

pub log_rises : (m : Meaning) (w : World m) → rises 0 (positions (log m w)) ≡ true
unfolding log log_of
log_rises m w = cells_rise (latest m w) w.units w.archive 0 (with_nums (positions w.archive) (all_positions w.units)) (all_rise (positions w.archive) (all_positions w.units) (units_rise w.units))

less_rise : (low less : ℕ) (es : Entries) → less ≤ low → rise_from low es ≡ true → rise_from less es ≡ true
less_rise low less [] le h = refl
less_rise low less (x ∷ es) le h =
    let p = and_both (nat_le low x.0) (rise_from (x.0 + 1) es) h in let q = le_of low x.0 p.0 in both_and (nat_le less x.0) (rise_from (x.0 + 1) es) (of_le less x.0 (omega (arith, q, le))) p.1

-- So do its entries.
entries_rise : (low : ℕ) (l : Log) → rises low (positions l) ≡ true → rise_from low (entries_of l) ≡ true
unfolding entries_of
entries_rise low [] h = refl
entries_rise low (x ∷ l) h = by (entry_in x.1) (entries_rise (x.0 + 1) l (and_both (nat_le low x.0) (rises (x.0 + 1) (positions l)) h).1)
  where
    by : (e : Option Entry) → rise_from (x.0 + 1) (entries_of l) ≡ true → rise_from low (entry_if x.0 e (entries_of l)) ≡ true
    by None rest = let le = le_of low x.0 (and_both (nat_le low x.0) (rises (x.0 + 1) (positions l)) h).0 in less_rise (x.0 + 1) low (entries_of l) (omega (arith, le)) rest
    by (Some e) rest = both_and (nat_le low x.0) (rise_from (x.0 + 1) (entries_of l)) (and_both (nat_le low x.0) (rises (x.0 + 1) (positions l)) h).0 rest

pub logs_rise : (m : Meaning) → LogsRise m
logs_rise m w = entries_rise 0 (log m w) (log_rises m w)

-- An entry is that of the cell at its position.

at_itself : (p : ℕ) → is_at (nat_cmp p) p ≡ true
at_itself p = grind arith

not_at : (p q : ℕ) → q < p → is_at (nat_cmp p) q ≡ false
not_at p q less = grind arith

from_low : (low : ℕ) (l : Log) (p : ℕ) (e : Entry) → rises low (positions l) ≡ true → Has (entries_of l) (p, e) → low ≤ p
unfolding entries_of
from_low low [] p e h i = absurd i
from_low low (x ∷ l) p e h i = by (entry_in x.1) i (from_low (x.0 + 1) l p e (and_both (nat_le low x.0) (rises (x.0 + 1) (positions l)) h).1)
  where
    first : low ≤ x.0
    first = le_of low x.0 (and_both (nat_le low x.0) (rises (x.0 + 1) (positions l)) h).0

    by : (d : Option Entry) → Has (entry_if x.0 d (entries_of l)) (p, e) → (Has (entries_of l) (p, e) → x.0 + 1 ≤ p) → low ≤ p
    by None j rest = let le = first in let later = rest j in omega (arith, le, later)
    by (Some d) (inl s) rest = let le = first in let at : p ≡ x.0 = ap (λ (y : ℕ × Entry). y.0) s in omega (arith, le, at)
    by (Some d) (inr j) rest = let le = first in let later = rest j in omega (arith, le, later)

entry_there : (low : ℕ) (l : Log) (p : ℕ) (e : Entry) → rises low (positions l) ≡ true → Has (entries_of l) (p, e) → entry_at l p ≡ Some e
unfolding entries_of
entry_there low [] p e h i = absurd i
entry_there low (x ∷ l) p e h i = by (entry_in x.1) refl i (entry_there (x.0 + 1) l p e rest_rises)
  where
    rest_rises : rises (x.0 + 1) (positions l) ≡ true
    rest_rises = (and_both (nat_le low x.0) (rises (x.0 + 1) (positions l)) h).1

    later : Has (entries_of l) (p, e) → (Has (entries_of l) (p, e) → entry_at l p ≡ Some e) → entry_at (x ∷ l) p ≡ Some e
    later j rest = let less = from_low (x.0 + 1) l p e rest_rises j in ap (λ (b : Bool). cell_entry (cond b (Some x.1) (lookup (is_at (nat_cmp p)) l))) (not_at p x.0 (omega (arith, less))) ∙ rest j

    by : (d : Option Entry) → entry_in x.1 ≡ d → Has (entry_if x.0 d (entries_of l)) (p, e) → (Has (entries_of l) (p, e) → entry_at l p ≡ Some e) → entry_at (x ∷ l) p ≡ Some e
    by None is j rest = later j rest
    by (Some d) is (inl s) rest =
        ap (λ (n : ℕ). entry_at (x ∷ l) n) (ap (λ (y : ℕ × Entry). y.0) s)
        ∙ (ap (λ (b : Bool). cell_entry (cond b (Some x.1) (lookup (is_at (nat_cmp x.0)) l))) (at_itself x.0)
        ∙ (is ∙ ap (λ (y : ℕ × Entry). Some y.1) (sym s)))
    by (Some d) is (inr j) rest = later j rest

pub outcomes_are : (m : Meaning) → OutcomesAre m
unfolding outcome
outcomes_are m w objects p b h = (
  record { record_at = h.entry; here = h.here; commit = h.commit },
  ap (λ (o : Option Entry). outcome_by m (log m w) p o) (entry_there 0 (log m w) p h.entry (log_rises m w) (has_contained (entries_in m w) (p, h.entry) h.here)) ∙ h.outcome,
)
