-- What may be trimmed may be so later, and in later epochs.
use Rattle.std.proofs.Common.{◌≡◌, ℕ, ◌≤◌, ◌++◌, true, sym, ap, ◌∙◌, arith, Option}
use Rattle.tg_base.specs.Clusters.{Header}
use Rattle.tg_base.specs.declared.cell.Cell.{Cell}
use Rattle.tg_base.specs.declared.cell.Cell.TheVariants.{Data}
use Rattle.tg_base.specs.declared.ids.Oid.{Oid}
use Rattle.tg_kind.specs.Meaning.{Meaning}
use Rattle.tg_protocol.specs.Pages.{cell_entry}
use Rattle.tg_protocol.specs.Worlds.{World, log}
use Rattle.tg_protocol.specs.Runs.{Moves, Reaches}
use Rattle.tg_law_layouts.specs.Moves.After.{after}
use Rattle.tg_law_cells.specs.Entries.Archive.{TrimsWereSafe}
use Rattle.tg_law_walks.specs.Walks.Streams.{entry_lists, stands_in}
use Rattle.tg_law_walks.specs.Lists.Spared.{IsSaved, WasSettled}
use Rattle.tg_law_walks.proofs.Lists.Ends.{cell_of}
use Rattle.tg_law_walks.proofs.Lists.Reached.{before_reached}
use Rattle.tg_law_syncs.proofs.Syncs.Later.{late}
use Rattle.tg_law_headline.specs.Trims.Spare.{IsSpare}

module _ (m : Meaning) (w : World m) (e f : ℕ) (le : e ≤ f) where
  pub settled_on : (q : ℕ) → WasSettled m w e q → WasSettled m w f q
  settled_on q s = record { cell = s.cell; settled = s.settled; in_time = (let a = s.in_time in omega (arith, a, le)) }

  saved_on : (o : Oid) (b : ℕ) → IsSaved m w o e b → IsSaved m w o f b
  saved_on o b s = record { at = s.at; after = s.after; page = s.page; settled = s.settled; in_time = (let a = s.in_time in omega (arith, a, le)); entry = s.entry; reads = s.reads; stands = s.stands; saves = s.saves }

  pub spare_on : (b : ℕ) → IsSpare m w e b → IsSpare m w f b
  spare_on b k = record { whole = λ q less. settled_on q (k.whole q less); saved = λ q o less st. saved_on o b (k.saved q o less st) }

module _ (m : Meaning) (h : Header) (zs : Moves m) (r : Reaches m h zs (after m h zs)) (xs ys : Moves m) (split : zs ≡ xs ++ ys) (early : TrimsWereSafe m h xs) (safe : TrimsWereSafe m h zs) where
  settled_late : (e q : ℕ) → WasSettled m (after m h xs) e q → WasSettled m (after m h zs) e q
  settled_late e q s = record { cell = s.cell; settled = late m h zs r xs ys split q s.cell s.settled; in_time = s.in_time }

  saved_late : (o : Oid) (e b : ℕ) → IsSaved m (after m h xs) o e b → IsSaved m (after m h zs) o e b
  saved_late o e b s = record { at = s.at; after = s.after; page = s.page; settled = late m h zs r xs ys split s.at (Data s.page) s.settled; in_time = s.in_time; entry = s.entry; reads = s.reads; stands = s.stands; saves = s.saves }

  -- what stands at a settled position stood there before
  stood : (e q : ℕ) (o : Oid) → WasSettled m (after m h xs) e q → stands_in (log m (after m h zs)) o q ≡ true → stands_in (log m (after m h xs)) o q ≡ true
  stood e q o s st =
      let a = cell_of m h xs (before_reached m h zs r xs ys split) early q s.cell s.settled in
      let b = cell_of m h zs r safe q s.cell (late m h zs r xs ys split q s.cell s.settled) in
      ap (λ (y : Option Cell). entry_lists o (cell_entry y)) (a ∙ sym b) ∙ st

  pub spare_late : (e b : ℕ) → IsSpare m (after m h xs) e b → IsSpare m (after m h zs) e b
  spare_late e b k = record { whole = λ q less. settled_late e q (k.whole q less); saved = λ q o less st. saved_late o e b (k.saved q o less (stood e q o (k.whole q less) st)) }
