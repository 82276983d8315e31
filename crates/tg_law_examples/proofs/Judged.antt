-- Judged texts: the first line at which a clause of a legal run fails, and the clause, or none.
use Rattle.std.proofs.Common.{◌≡◌, List, [], ◌∷◌, refl, Some, None}
use Rattle.std.specs.Prelude.{pos}
use Rattle.tg_base.specs.declared.fault.Clause.TheVariants.{A, C, E}
use Rattle.tg_base.specs.declared.ids.Oid.{Oid}
use Rattle.tg_base.specs.declared.marks.Part.TheVariants.{All}
use Rattle.tg_model.specs.declared.trace.What.TheVariants as told
use Rattle.tg_model.specs.Stores.{History, store_after, changed}
use Rattle.tg_model.specs.Traces.{Trace, puts_of}
use Rattle.tg_model.specs.Verdicts.{asks_in, bound_in, entries_fault, replies_fault, fault}
use Rattle.tg_protocol.specs.Words.{bytes_eq}
use Rattle.tg_law_examples.proofs.Sameness.{same}
use Rattle.tg_law_examples.proofs.SevenKinds.{kinds}
use Rattle.tg_law_examples.proofs.SevenKinds as kind
use Rattle.tg_law_examples.proofs.Shown.{obj, mark, done}

abbrev pub crossed_reads_objects : List Oid
crossed_reads_objects = obj 16777216 ∷ obj 16777217 ∷ []

abbrev pub crossed_reads_trace : Trace kinds
crossed_reads_trace =
    mark 1 0 0 (told.Hosted (obj 16777216)) ∷
    mark 2 0 0 (told.Hosted (obj 16777217)) ∷
    mark 3 1 0 (told.Hosted (obj 16777216)) ∷
    mark 4 1 0 (told.Hosted (obj 16777217)) ∷
    mark 5 0 1 told.Begin ∷
    mark 7 0 1 (told.Asked (obj 16777217) (kind.Value) 0 (kind.Signed (pos 0))) ∷
    mark 8 1 1 told.Begin ∷
    mark 10 1 1 (told.Asked (obj 16777216) (kind.Value) 0 (kind.Signed (pos 0))) ∷
    mark 11 0 1 (told.Put (obj 16777216) (kind.Add (pos 1))) ∷
    mark 12 1 1 (told.Put (obj 16777217) (kind.Add (pos 1))) ∷
    mark 13 0 1 told.End ∷
    mark 14 0 1 (told.Committed 0) ∷
    mark 15 1 1 told.End ∷
    mark 16 1 1 (told.Aborted 2 (obj 16777216) All 0 1) ∷ []

abbrev pub crossed_reads_history : History kinds
crossed_reads_history =
    done 0 0 1 ((obj 16777216, (kind.Add (pos 1))) ∷ []) ∷ []

crossed_reads : fault kinds same crossed_reads_objects crossed_reads_history crossed_reads_trace ≡ None
unfolding store_after changed puts_of asks_in bound_in entries_fault replies_fault fault bytes_eq
crossed_reads = refl

abbrev pub old_snapshot_objects : List Oid
old_snapshot_objects = obj 16777216 ∷ []

abbrev pub old_snapshot_trace : Trace kinds
old_snapshot_trace =
    mark 1 0 1 told.Begin ∷
    mark 1 0 1 (told.Put (obj 16777216) (kind.Add (pos 5))) ∷
    mark 1 0 1 told.End ∷
    mark 2 0 1 (told.Committed 0) ∷
    mark 3 1 1 told.Begin ∷
    mark 4 1 1 (told.Asked (obj 16777216) (kind.Value) 0 (kind.Signed (pos 0))) ∷
    mark 5 1 1 told.End ∷
    mark 5 1 1 (told.Committed 0) ∷ []

abbrev pub old_snapshot_history : History kinds
old_snapshot_history =
    done 0 0 1 ((obj 16777216, (kind.Add (pos 5))) ∷ []) ∷ []

old_snapshot : fault kinds same old_snapshot_objects old_snapshot_history old_snapshot_trace ≡ Some (record { line = 7; clause = E })
unfolding store_after changed puts_of asks_in bound_in entries_fault replies_fault fault bytes_eq
old_snapshot = refl

abbrev pub right_answer_objects : List Oid
right_answer_objects = obj 16777216 ∷ []

abbrev pub right_answer_trace : Trace kinds
right_answer_trace =
    mark 1 0 1 told.Begin ∷
    mark 1 0 1 (told.Put (obj 16777216) (kind.Add (pos 5))) ∷
    mark 1 0 1 told.End ∷
    mark 2 0 1 (told.Committed 0) ∷
    mark 3 1 1 told.Begin ∷
    mark 4 1 1 (told.Asked (obj 16777216) (kind.Value) 1 (kind.Signed (pos 5))) ∷
    mark 5 1 1 told.End ∷
    mark 5 1 1 (told.Committed 1) ∷ []

abbrev pub right_answer_history : History kinds
right_answer_history =
    done 0 0 1 ((obj 16777216, (kind.Add (pos 5))) ∷ []) ∷ []

right_answer : fault kinds same right_answer_objects right_answer_history right_answer_trace ≡ None
unfolding store_after changed puts_of asks_in bound_in entries_fault replies_fault fault bytes_eq
right_answer = refl

abbrev pub wrong_answer_objects : List Oid
wrong_answer_objects = obj 16777216 ∷ []

abbrev pub wrong_answer_trace : Trace kinds
wrong_answer_trace =
    mark 1 0 1 told.Begin ∷
    mark 1 0 1 (told.Put (obj 16777216) (kind.Add (pos 5))) ∷
    mark 1 0 1 told.End ∷
    mark 2 0 1 (told.Committed 0) ∷
    mark 3 1 1 told.Begin ∷
    mark 4 1 1 (told.Asked (obj 16777216) (kind.Value) 1 (kind.Signed (pos 0))) ∷
    mark 5 1 1 told.End ∷
    mark 5 1 1 (told.Committed 0) ∷ []

abbrev pub wrong_answer_history : History kinds
wrong_answer_history =
    done 0 0 1 ((obj 16777216, (kind.Add (pos 5))) ∷ []) ∷ []

wrong_answer : fault kinds same wrong_answer_objects wrong_answer_history wrong_answer_trace ≡ Some (record { line = 7; clause = A })
unfolding store_after changed puts_of asks_in bound_in entries_fault replies_fault fault bytes_eq
wrong_answer = refl

abbrev pub wrong_version_objects : List Oid
wrong_version_objects = obj 16777216 ∷ obj 16777217 ∷ []

abbrev pub wrong_version_trace : Trace kinds
wrong_version_trace =
    mark 1 0 0 (told.Hosted (obj 16777216)) ∷
    mark 2 0 0 (told.Hosted (obj 16777217)) ∷
    mark 3 1 0 (told.Hosted (obj 16777216)) ∷
    mark 4 1 0 (told.Hosted (obj 16777217)) ∷
    mark 5 0 1 told.Begin ∷
    mark 7 0 1 (told.Asked (obj 16777217) (kind.Value) 0 (kind.Signed (pos 0))) ∷
    mark 8 1 1 told.Begin ∷
    mark 10 1 1 (told.Asked (obj 16777216) (kind.Value) 0 (kind.Signed (pos 0))) ∷
    mark 11 0 1 (told.Put (obj 16777216) (kind.Add (pos 1))) ∷
    mark 12 1 1 (told.Put (obj 16777217) (kind.Add (pos 1))) ∷
    mark 13 0 1 told.End ∷
    mark 14 0 1 (told.Committed 0) ∷
    mark 15 1 1 told.End ∷
    mark 16 1 1 (told.Aborted 2 (obj 16777216) All 0 2) ∷ []

abbrev pub wrong_version_history : History kinds
wrong_version_history =
    done 0 0 1 ((obj 16777216, (kind.Add (pos 1))) ∷ []) ∷ []

wrong_version : fault kinds same wrong_version_objects wrong_version_history wrong_version_trace ≡ Some (record { line = 15; clause = C })
unfolding store_after changed puts_of asks_in bound_in entries_fault replies_fault fault bytes_eq
wrong_version = refl
