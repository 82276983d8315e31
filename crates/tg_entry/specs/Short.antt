-- Lists whose counts fit their bytes.
use Rattle.std.specs.Prelude.{◌≤◌, length}
use Rattle.tg_entry.specs.declared.entry.Entry.{Entry}
use Rattle.tg_entry.specs.declared.entry.Body.{Body}
use Rattle.tg_entry.specs.declared.entry.Body.TheVariants.{Commit, Decision, Checkpoint}

abbrev pub IsShortBody : Body → Type 0
IsShortBody (Commit rs ws) = (length rs ≤ 255) × (length ws ≤ 255)
IsShortBody (Decision at fate) = Unit {0}
IsShortBody (Checkpoint oid upto version whole keys state) = (length keys ≤ 65535) × (length state ≤ 65535)

pub record IsShort (e : Entry) : Type 0 where
  pub streams : length e.head.streams ≤ 255
  pub body : IsShortBody e.body
