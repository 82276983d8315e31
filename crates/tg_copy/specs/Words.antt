-- Names of the rules' own records beside those of the code.
use Rattle.tg_protocol.specs.Cells.{CellJob}
use Rattle.tg_protocol.specs.Trimming.{Copying}

abbrev pub CopyJob : Type 0
CopyJob = Copying

abbrev pub ReadJob : Type 0
ReadJob = CellJob
