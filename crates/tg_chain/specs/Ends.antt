-- The ends of the machines in the words of the rules.
use Rattle.std.specs.Prelude.{ℕ, Bool, true, List, []}
use Rattle.tg_base.specs.declared.cell.Cell.{Cell}
use Rattle.tg_base.specs.declared.cell.Cell.TheVariants.{Data}
use Rattle.tg_chain.specs.declared.ends.PutCellEnd.{PutCellEnd}
use Rattle.tg_chain.specs.declared.ends.PutCellEnd.TheVariants as put
use Rattle.tg_chain.specs.declared.ends.GetCellEnd.{GetCellEnd}
use Rattle.tg_chain.specs.declared.ends.GetCellEnd.TheVariants as get
use Rattle.tg_chain.specs.declared.ends.FillCellEnd.{FillCellEnd}
use Rattle.tg_chain.specs.declared.ends.FillCellEnd.TheVariants as fill
use Rattle.tg_chain.specs.declared.ends.ProbeEnd.{ProbeEnd}
use Rattle.tg_chain.specs.declared.ends.ProbeEnd.TheVariants as seen
use Rattle.tg_protocol.specs.Words.{cell_eq}
use Rattle.tg_protocol.specs.Cells.{CellJob, CellWork, Puts, Copies, CellEnd, Done, Seen, Lost, Fenced, Gone}

-- the page that a put carries, and the place of the unit that it has come to
abbrev pub page_in : CellWork → List ℕ
page_in (Puts r d i) = d
page_in _ = []

abbrev pub page_of : CellJob → List ℕ
page_of j = page_in j.work

abbrev pub place_in_chain : CellWork → ℕ
place_in_chain (Puts r d i) = i
place_in_chain (Copies r c i) = i
place_in_chain _ = 0

abbrev pub at_of : CellJob → ℕ
at_of j = place_in_chain j.work

-- whether a unit of a fill that holds this cell is done: the head is, whatever it holds
abbrev pub accepted : CellWork → Cell → Bool
accepted (Copies r c i) x = cell_eq x c
accepted w x = true

-- where a put is done, each unit holds its page
abbrev pub put_end : List ℕ → PutCellEnd → CellEnd
put_end d put.Done = Done (Data d)
put_end d (put.Lost c) = Lost c
put_end d (put.Fenced u e) = Fenced u e
put_end d (put.Gone b) = Gone b

abbrev pub get_end : GetCellEnd → CellEnd
get_end (get.Done c) = Done c
get_end (get.Fenced u e) = Fenced u e
get_end (get.Gone b) = Gone b

abbrev pub fill_end : FillCellEnd → CellEnd
fill_end (fill.Done c) = Done c
fill_end (fill.Fenced u e) = Fenced u e
fill_end (fill.Gone b) = Gone b

abbrev pub probe_end : ProbeEnd → CellEnd
probe_end seen.Seen = Seen
probe_end (seen.Fenced u e) = Fenced u e
