-- The positions that are gathered, and the entries there.
use Rattle.std.proofs.Common.{◌≡◌, ℕ, ◌<◌, Bool, true, cond, ◌&&◌, ◌||◌, List, [], ◌∷◌, nat_lt, Option, Some, None, refl, sym, ap, ◌∙◌, arith}
use Rattle.std.specs.List.{list_all}
use Rattle.std.proofs.lemmas.Bool.Decides.{nat_tests}
use Rattle.tg_base.specs.declared.ids.Oid.{Oid}
use Rattle.tg_protocol.specs.Words.{has_num, with_nums, cell_at}
use Rattle.tg_base.specs.declared.cell.Cell.{Cell}
use Rattle.tg_entry.specs.Drafts.{all_below}
use Rattle.tg_entry.specs.declared.entry.Entry.{Entry}
use Rattle.tg_protocol.specs.Past.{commit_at}
use Rattle.tg_protocol.specs.Views.{Entries, entry_if}
use Rattle.tg_client_cells.specs.Words.{ByStream, positions_of, any_has, is_within, within, below, entries_at, commit_of}
use Rattle.tg_protocol.specs.Pages.{cell_entry}
use Rattle.tg_client_cells.specs.Known.{Knowledge, all_positions, all_entries, new_entries}
use Rattle.tg_client_cells.proofs.Unions.{filter_union, has_all}
use Rattle.tg_client_cells.proofs.Streams.{rises_of, has_of}
use Rattle.tg_client_cells.proofs.Finding.{within_zero, new_at, commit_found, has_below}

pub positions_are : (k : Knowledge) (found : ByStream) (os : List Oid) (low high : ℕ) → with_nums (within low high k.own) (within low high (positions_of found os)) ≡ within low high (all_positions k found os)
positions_are k found os low high = sym (filter_union (is_within low high) k.own (positions_of found os) (rises_of found os))

pub all_are : (k : Knowledge) (found : ByStream) (os : List Oid) (tail : ℕ) → entries_at k.cells (within 0 tail (all_positions k found os)) ≡ all_entries k found os tail
all_are k found os tail = ap (entries_at k.cells) (within_zero tail (all_positions k found os))

pub new_are : (k : Knowledge) (found : ByStream) (os : List Oid) (tail : ℕ) → entries_at k.cells (within k.settled tail (all_positions k found os)) ≡ new_entries k found os tail
new_are k found os tail = new_at k.settled tail k.cells (all_positions k found os)

pub has_is : (k : Knowledge) (found : ByStream) (os : List Oid) (p : ℕ) → (has_num p k.own || any_has found os p) ≡ has_num p (all_positions k found os)
has_is k found os p = ap (λ b. has_num p k.own || b) (sym (has_of p found os)) ∙ sym (has_all p k.own (positions_of found os))

pub known_below : (k : Knowledge) (found : ByStream) (os : List Oid) (tail p : ℕ) (b : Bool) → p < tail → b ≡ (has_num p k.own || any_has found os p) → b ≡ (nat_lt p tail && has_num p (all_positions k found os))
known_below k found os tail p b lt h =
    let here : nat_lt p tail ≡ true = grind (arith, nat_tests) in
    h ∙ has_is k found os p ∙ ap (λ c. c && has_num p (all_positions k found os)) (sym here)

pub commit_is : (k : Knowledge) (found : ByStream) (os : List Oid) (tail p : ℕ) (b : Bool) → b ≡ (nat_lt p tail && has_num p (all_positions k found os)) →
    commit_at (all_entries k found os tail) p ≡ cond b (commit_of (cell_entry (cell_at k.cells p))) None
commit_is k found os tail p b h =
    commit_found k.cells (below tail (all_positions k found os)) p
    ∙ ap (λ c. cond c (commit_of (cell_entry (cell_at k.cells p))) None) (has_below p tail (all_positions k found os) ∙ sym h)

-- entries at positions below a tail

if-below : (tail p : ℕ) (e : Option Entry) (es : Entries) → nat_lt p tail ≡ true → all_below tail es ≡ true → all_below tail (entry_if p e es) ≡ true
if-below tail p None es h hs = hs
if-below tail p (Some e) es h hs = ap (λ b. b && all_below tail es) h ∙ hs

at-below : (tail : ℕ) (cells : List (ℕ × Cell)) (ps : List ℕ) → list_all (λ p. nat_lt p tail) ps ≡ true → all_below tail (entries_at cells ps) ≡ true
at-below tail cells [] h = refl
at-below tail cells (p ∷ ps) h =
    let head : nat_lt p tail ≡ true = grind (arith, nat_tests) in
    let rest : list_all (λ q. nat_lt q tail) ps ≡ true = grind (arith, nat_tests) in
    if-below tail p (cell_entry (cell_at cells p)) (entries_at cells ps) head (at-below tail cells ps rest)

filtered : (tail : ℕ) (ps : List ℕ) → list_all (λ p. nat_lt p tail) (below tail ps) ≡ true
filtered tail [] = refl
filtered tail (p ∷ ps) = let rest : list_all (λ q. nat_lt q tail) (below tail ps) ≡ true = filtered tail ps in grind (arith, nat_tests)

pub all_below_tail : (k : Knowledge) (found : ByStream) (os : List Oid) (tail : ℕ) → all_below tail (all_entries k found os tail) ≡ true
all_below_tail k found os tail = at-below tail k.cells (below tail (all_positions k found os)) (filtered tail (all_positions k found os))
