-- A copy's state in the words of the rules.
use Rattle.std.specs.Prelude.{ℕ, Bool, true, false}
use Rattle.tg_base.specs.Layouts.{Layout}
use Rattle.tg_base.specs.declared.change.Join.{Join}
use Rattle.tg_base.specs.declared.ids.NodeId.{NodeId}
use Rattle.tg_base.specs.declared.msg.Msg.{Msg}
use Rattle.tg_protocol.specs.Cells.{CellJob}
use Rattle.tg_protocol.specs.Replies.{reply}
use Rattle.tg_protocol.specs.Requests.{passes, awaits}
use Rattle.tg_protocol.specs.Trimming.{Copying, CopyWork, Sealing, Reading, Storing, Trimming, Looking, CopyTurn, copy_asks, copy_feed}
use Rattle.tg_copy.specs.declared.copy_state.CopyState.{CopyState}
use Rattle.tg_copy.specs.declared.copy_state.CopyState.TheVariants as state
use Rattle.tg_copy.specs.declared.copy_state.Ask.{Ask}
use Rattle.tg_copy.specs.declared.copy_state.Ask.TheVariants as ask

abbrev pub copying : Join → CopyWork → Copying
copying j w = record { unit = j.unit; range = j.range; stripe = j.stripe; work = w }

-- what the spare is asked under a number
abbrev pub asked : ℕ → Ask → CopyWork
asked r ask.Seal = Sealing r
asked r (ask.Store pos x) = Storing r pos x
asked r (ask.Trim b) = Trimming r b
asked r ask.Look = Looking r

abbrev pub asking : Join → ℕ → Ask → Copying
asking j r a = copying j (asked r a)

abbrev pub getting : Join → CellJob → Copying
getting j k = copying j (Reading k)

abbrev pub work_of : CopyState → CopyWork
work_of (state.Asks r a) = asked r a
work_of (state.Reads k) = Reading k

abbrev pub copying_of : Join → CopyState → Copying
copying_of j s = copying j (work_of s)

-- an answer to an outstanding request is taken, and every other message is passed by
abbrev pub copy_fed_if : Bool → Layout → Copying → ℕ → Msg → ℕ → CopyTurn
copy_fed_if true p c n m next = copy_feed p c c.work n (reply m) next
copy_fed_if false p c n m next = passes next c

abbrev pub copy_fed : Layout → Copying → NodeId → ℕ → Msg → ℕ → CopyTurn
copy_fed p c from rid m next = copy_fed_if (awaits (copy_asks p c) from rid) p c from.num m next
