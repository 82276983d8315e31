-- The words are those of a client's rules.
use Rattle.std.proofs.Common.{◌≡◌, ℕ, cond, not, ◌||◌, List, [], ◌∷◌, filter, Option, Some, None, refl, ap, ◌∙◌}
use Rattle.std.specs.Prelude.{nat_le}
use Rattle.std.proofs.lemmas.List.Elements.{filter_agree}
use Rattle.tg_base.specs.declared.cell.Cell.{Cell}
use Rattle.tg_base.specs.declared.cell.Cell.TheVariants.{Junk, Data}
use Rattle.tg_base.specs.declared.ids.Oid.{Oid}
use Rattle.tg_entry.specs.declared.entry.Entry.{Entry}
use Rattle.tg_kind.specs.Meaning.{Meaning}
use Rattle.tg_protocol.specs.Words.{has_num, with_nums, cell_at}
use Rattle.tg_base.specs.Orders.{oid_eq, oid_lt}
use Rattle.tg_protocol.specs.Views.{Entries, entry_if}
use Rattle.tg_protocol.specs.Clients as rules
use Rattle.tg_protocol.specs.Clients.{Client, Work, upto}
use Rattle.tg_protocol.specs.Answers as replies
use Rattle.tg_client_cells.specs.Words.{ByStream, positions_in, with_positions, positions_of, entries_at, below, is_page}
use Rattle.tg_protocol.specs.Pages.{cell_entry}
use Rattle.tg_client_cells.specs.Known.{keeps, all_entries, member_entries}
use Rattle.tg_client_cells.specs.Rules.{known_by, AsRuled}

module _ (m : Meaning) where
  in-same : (xs : ByStream) (o : Oid) → positions_in xs o ≡ rules.positions_in m xs o
  in-same [] o = refl
  in-same (x ∷ xs) o = ap (λ (l : List ℕ). cond (oid_eq x.0 o) x.1 l) (in-same xs o)

  with-same : (xs : ByStream) (o : Oid) (ps : List ℕ) → with_positions xs o ps ≡ rules.with_positions m xs o ps
  with-same [] o ps = refl
  with-same (x ∷ xs) o ps =
      ap (λ (l : ByStream). cond (oid_eq x.0 o) ((x.0, with_nums ps x.1) ∷ xs) (cond (oid_lt o x.0) ((o, with_nums ps []) ∷ x ∷ xs) (x ∷ l))) (with-same xs o ps)

  of-same : (xs : ByStream) (os : List Oid) → positions_of xs os ≡ rules.positions_of m xs os
  of-same xs [] = refl
  of-same xs (o ∷ os) = ap (λ (l : List ℕ). with_nums l (positions_of xs os)) (in-same xs o) ∙ ap (with_nums (rules.positions_in m xs o)) (of-same xs os)

  at-same : (cells : List (ℕ × Cell)) (ps : List ℕ) → entries_at cells ps ≡ rules.entries_at m cells ps
  unfolding rules.entries_at
  at-same cells [] = refl
  at-same cells (p ∷ ps) = ap (entry_if p (cell_entry (cell_at cells p))) (at-same cells ps)

  all-same : (c : Client m) (w : Work m) (os : List Oid) (s : ℕ) → all_entries (known_by m c s) w.found os w.tail ≡ rules.all_entries m c w os
  all-same c w os s =
      ap (λ (l : List ℕ). entries_at c.cells (below w.tail (with_nums c.own l))) (of-same w.found os)
      ∙ at-same c.cells (rules.below m w.tail (with_nums c.own (rules.member_positions m w os)))

  found-same : (c : Client m) (w : Work m) (os : List Oid) (s : ℕ) → member_entries (known_by m c s) w.found os w.tail ≡ rules.member_entries m c w os
  found-same c w os s =
      ap (λ (l : List ℕ). entries_at c.cells (below w.tail l)) (of-same w.found os)
      ∙ at-same c.cells (rules.below m w.tail (rules.member_positions m w os))

  page-same : (c : Cell) → is_page c ≡ replies.is_page m c
  page-same Junk = refl
  page-same (Data d) = refl

  kept-same : (c : Client m) → filter (keeps (upto m c) c.own) c.cells ≡ (replies.pruned m c).cells
  kept-same c = filter_agree (keeps (upto m c) c.own) (replies.keeps m c) (λ e. ap (λ b. nat_le (upto m c) e.0 || has_num e.0 c.own || not b) (page-same e.1)) c.cells

pub as_ruled : (m : Meaning) → AsRuled m
as_ruled m = record {
  positions = in-same m;
  with_positions = with-same m;
  entries = at-same m;
  all = all-same m;
  members = found-same m;
  kept = kept-same m;
}
