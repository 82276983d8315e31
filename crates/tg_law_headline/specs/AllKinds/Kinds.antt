-- What all kinds of objects owe the laws of the log.
use Rattle.std.specs.Prelude.{◌≡◌, ℕ, true, List, Some}
use Rattle.tg_base.specs.declared.ids.Oid.{Oid}
use Rattle.tg_kind.specs.Bytes.{IsBytes}
use Rattle.tg_kind.specs.Headers.{is_header}
use Rattle.tg_any.specs.Anys as any
use Rattle.tg_any.specs.AllKinds.{all_kinds}
use Rattle.tg_any.specs.declared.any.AnyOp.{AnyOp}
use Rattle.tg_dir.specs.Spellings.{is_number}
use Rattle.tg_law_replies.specs.History.Loading.{AreStates}
use Rattle.tg_law_replies.specs.History.Floors.{IsDirectory}
use Rattle.tg_law_walks.specs.Drafts.Parts.{TouchParts}
use Rattle.tg_law_headline.specs.AllKinds.Directories.{DirectoryLaws}

-- the directory marks what has an object's number
abbrev pub KindsHaveDirectory : Type 0
KindsHaveDirectory = IsDirectory all_kinds is_number any.is_op

-- and what is marked and registered there are objects, by ops of their own
abbrev pub KindsKeepDirectory : Type 0
KindsKeepDirectory = DirectoryLaws all_kinds is_number any.is_op

-- ops keep the states, which load again from what is saved of them
abbrev pub KindsAreStates : Type 0
KindsAreStates = AreStates all_kinds any.is_state any.is_op

-- an object is a state at first
abbrev pub KindsBegin : Type 0
KindsBegin = (o : Oid) (os : List Oid) → any.is_object o ≡ true → is_header os ≡ true → any.is_state o (all_kinds.fresh o os) ≡ true

-- what is read as an op touches a part of the format, whatever the bytes are
abbrev pub KindsTouchParts : Type 0
KindsTouchParts = TouchParts all_kinds

-- what is read of bytes is an op
abbrev pub KindsReadOps : Type 0
KindsReadOps = (o : Oid) (bytes : List ℕ) (op : AnyOp) → IsBytes bytes → all_kinds.read o bytes ≡ Some op → any.is_op op ≡ true

-- and so is what is read of the spelling of an op, whatever that is
abbrev pub KindsReadBack : Type 0
KindsReadBack = (o : Oid) (put op : AnyOp) → all_kinds.read o (all_kinds.spell put) ≡ Some op → any.is_op op ≡ true
