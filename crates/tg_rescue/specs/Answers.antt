-- What is answered, by the definitions' answers.
use Rattle.std.specs.Prelude.{ℕ, ◌+◌, nat_lt, Bool, true, false, List, Option, Some, None, if◌then◌else◌}
use Rattle.tg_base.specs.declared.ids.Oid.{Oid}
use Rattle.tg_entry.specs.declared.entry.Entry.{Entry}
use Rattle.tg_kind.specs.Meaning.{Meaning}
use Rattle.tg_protocol.specs.Words.{has_oid}
use Rattle.tg_protocol.specs.Views.{Verdict, Commits, Aborts, Unknown}
use Rattle.tg_protocol.specs.Past as told
use Rattle.tg_rescue.specs.declared.rescue.RescueTurn.{RescueTurn}
use Rattle.tg_rescue.specs.declared.rescue.RescueTurn.TheVariants.{Wider, Wide, Absent, Stuck, Known}

-- up to where a play takes in the record at a position, where all entries are below a tail
abbrev pub play_end : ℕ → ℕ → ℕ
play_end at tail = if nat_lt at tail then at + 1 else tail

module _ (m : Meaning) where
  abbrev pub told_turn : RescueTurn → told.RescueTurn m
  told_turn (Wider added) = told.Wider added
  told_turn Wide = told.Wide
  told_turn Absent = told.Absent
  told_turn (Stuck pos missing) = told.StuckAt pos missing
  told_turn (Known is_yes needs) = told.Known is_yes needs

  -- a block at a position by an object: it joins the set, or the record is stuck, if there is one
  abbrev pub stuck_or_absent : Option Entry → ℕ → Oid → told.RescueTurn m
  stuck_or_absent None pos o = told.Absent
  stuck_or_absent (Some e) pos o = told.StuckAt pos o

  abbrev pub by_block : Option Entry → List Oid → ℕ → Oid → told.RescueTurn m
  by_block found oids pos o = if has_oid o oids then stuck_or_absent found pos o else told.grows m oids o

  -- a record by what becomes of it, and by whether it needs a decision record that there isn't
  abbrev pub judged_by : Verdict → Entry → List Oid → ℕ → Bool → told.RescueTurn m
  judged_by Commits e oids at needs = told.Known true needs
  judged_by Aborts e oids at needs = told.Known false needs
  judged_by (Unknown o) e oids at needs = by_block (Some e) oids at o
