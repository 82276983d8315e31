-- How a run ends: its number, and the line that is said of it.
use Rattle.std.specs.Prelude.{ℕ, List, ◌++◌, codes, decimal, Option, Some, None}
use Rattle.tg_base.specs.declared.fault.Which.{Which}
use Rattle.tg_base.specs.declared.fault.Which.TheVariants.{Steps, Bytes, Datagrams}
use Rattle.tg_io.specs.declared.status.Status.{Status}
use Rattle.tg_io.specs.declared.status.Status.TheVariants.{Done, Illegal, Words, Script, ReadFault, WriteFault, LinkFault, Limit, NoMemory}

abbrev pub status_number : Status → ℕ
status_number Done = 0
status_number (Illegal line clause) = 1
status_number Words = 2
status_number (Script line) = 3
status_number ReadFault = 4
status_number WriteFault = 5
status_number LinkFault = 6
status_number (Limit which) = 7
status_number NoMemory = 8

abbrev pub limit_word : Which → List ℕ
limit_word Steps = codes "steps"
limit_word Bytes = codes "bytes"
limit_word Datagrams = codes "datagrams"

-- the line on standard error, without its line feed; a run with a verdict has none
abbrev pub status_line : Status → Option (List ℕ)
status_line Done = None
status_line (Illegal line clause) = None
status_line Words = Some (codes "tango: words")
status_line (Script line) = Some (codes "tango: script line " ++ decimal line)
status_line ReadFault = Some (codes "tango: read fault")
status_line WriteFault = Some (codes "tango: write fault")
status_line LinkFault = Some (codes "tango: link fault")
status_line (Limit which) = Some (codes "tango: limit " ++ limit_word which)
status_line NoMemory = Some (codes "tango: no memory")
