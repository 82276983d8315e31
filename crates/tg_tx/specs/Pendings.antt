-- What an open transaction keeps, so that its record has a spelling.
use Rattle.std.specs.Prelude.{◌≡◌, ◌<◌, ◌≤◌, ◌^◌, ℕ, Bool, true, None, List, [], ◌∷◌, length}
use Rattle.std.specs.List.{list_all, list_any}
use Rattle.std.specs.Ordering.{is_eq, ordering_then}
use Rattle.std.specs.declared.cmp.Ordering.{Ordering}
use Rattle.std.specs.declared.cmp.Ordering.TheVariants.{Less}
use Rattle.tg_base.specs.Orders.{oid_cmp}
use Rattle.tg_base.specs.Parts.{part_cmp}
use Rattle.tg_base.specs.declared.marks.ReadMark.{ReadMark}
use Rattle.tg_entry.specs.declared.entry.WriteOp.{WriteOp}
use Rattle.tg_entry.specs.Records.{is_read, is_write}
use Rattle.tg_protocol.specs.Transactions.{Tx, tx_streams}

-- by object, and then by part
abbrev pub read_cmp : ReadMark → ReadMark → Ordering
read_cmp a b = ordering_then (oid_cmp a.oid b.oid) (part_cmp a.part b.part)

-- a list that rises by an order, each item once

abbrev pub Above : {K : Type 0} → (K → K → Ordering) → K → List K → Type 0
Above R k [] = Unit {0}
Above R k (x ∷ xs) = (R k x ≡ Less) × Above R k xs

abbrev pub Rising : {K : Type 0} → (K → K → Ordering) → List K → Type 0
Rising R [] = Unit {0}
Rising R (x ∷ xs) = Above R x xs × Rising R xs

abbrev pub has_key : {K : Type 0} → (K → K → Ordering) → K → List K → Bool
has_key R k xs = list_any (λ x. is_eq (R k x)) xs

-- reads and writes alone
abbrev pub bare : List ReadMark → List WriteOp → Tx
bare rs ws = record { number = 0; reads = rs; writes = ws; snapshot = None }

-- the numbers are those of the types, and the lists within their limits
pub record IsPending (n : ℕ) (rs : List ReadMark) (ws : List WriteOp) : Type 0 where
  pub number : 1 ≤ n
  pub within : n < 2 ^ 32
  pub reads : list_all is_read rs ≡ true
  pub few_reads : length rs ≤ 64
  pub rise : Rising read_cmp rs
  pub writes : list_all is_write ws ≡ true
  pub few_writes : length ws ≤ 64
  pub few_streams : length (tx_streams ws) ≤ 16
