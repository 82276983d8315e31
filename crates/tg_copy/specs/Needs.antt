-- The awaited answers on which a copy sends or keeps something: on all others it takes no memory.
use Rattle.std.specs.Prelude.{Bool, true, false, ◌==◌, nat_lt}
use Rattle.tg_base.specs.Layouts.{Layout}
use Rattle.tg_base.specs.declared.msg.Msg.{Msg}
use Rattle.tg_base.specs.declared.msg.Msg.TheVariants as msg
use Rattle.tg_protocol.specs.Words.{cell_eq}
use Rattle.tg_protocol.specs.Replies.{Reply, IsHeld, IsTaken, IsGone, IsSealed, IsMissing, reply}
use Rattle.tg_protocol.specs.Trimming.{Copying, CopyWork, Sealing, Reading, Storing, Trimming, Looking}
use Rattle.tg_chain.specs.Turns.{needs_memory}
use Rattle.tg_chain.specs.declared.ends.GetCellEnd.{GetCellEnd}
use Rattle.tg_chain.specs.declared.ends.GetCellEnd.TheVariants as get

-- ends of a read after which the spare is asked
abbrev pub asks_on : GetCellEnd → Bool
asks_on (get.Done c) = true
asks_on (get.Gone b) = true
asks_on (get.Fenced u e) = false

-- what the spare answers in its epoch to what it was asked
abbrev pub asked_needs : Layout → CopyWork → Reply → Bool
asked_needs p (Sealing r) (IsSealed e h) = e == p.epoch
asked_needs p (Storing r pos x) IsHeld = true
asked_needs p (Storing r pos x) (IsTaken y) = cell_eq x y
asked_needs p (Storing r pos x) (IsGone b) = nat_lt pos b
asked_needs p (Trimming r b) (IsGone d) = true
asked_needs p (Looking r) (IsMissing pos) = true
asked_needs p w x = false

-- what a unit answers that is asked for a cell, trims with it, of which the spare is told
abbrev pub reading_needs : Msg → Bool
reading_needs (msg.Gone b) = true
reading_needs m = needs_memory m

abbrev pub work_needs : Layout → CopyWork → Msg → Bool
work_needs p (Reading j) m = reading_needs m
work_needs p w m = asked_needs p w (reply m)

abbrev pub copy_needs : Layout → Copying → Msg → Bool
copy_needs p c m = work_needs p c.work m
