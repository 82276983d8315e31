-- Equality of ops and of answers of the seven kinds, as tests.
use Rattle.std.specs.Prelude.{Bool, true, false, ◌&&◌, ◌==◌, ℤ, pos, negsuc, Option, Some, None}
use Rattle.std.specs.Cmp.Lexicographic.{pointwise}
use Rattle.tg_model.specs.Verdicts.{Sameness}
use Rattle.tg_protocol.specs.Words.{bytes_eq}
use Rattle.tg_base.specs.Orders.{oid_eq}
use Rattle.tg_law_examples.proofs.SevenKinds.{kinds, Op, Answer}
use Rattle.tg_law_examples.proofs.SevenKinds as kind

abbrev pub int_eq : ℤ → ℤ → Bool
int_eq (pos a) (pos b) = a == b
int_eq (negsuc a) (negsuc b) = a == b
int_eq _ _ = false

abbrev pub option_eq : {X : Type 0} → (X → X → Bool) → Option X → Option X → Bool
option_eq eq None None = true
option_eq eq (Some x) (Some y) = eq x y
option_eq eq _ _ = false

abbrev pub flag_eq : Bool → Bool → Bool
flag_eq true b = b
flag_eq false true = false
flag_eq false false = true

abbrev pub op_eq : Op → Op → Bool
op_eq (kind.Name s o) (kind.Name t p) = bytes_eq s t && oid_eq o p
op_eq (kind.Mark o a) (kind.Mark p b) = oid_eq o p && (a == b)
op_eq (kind.Add a) (kind.Add b) = int_eq a b
op_eq (kind.Write s) (kind.Write t) = bytes_eq s t
op_eq (kind.Set s u) (kind.Set t v) = bytes_eq s t && bytes_eq u v
op_eq (kind.Unset s) (kind.Unset t) = bytes_eq s t
op_eq (kind.PushFront s) (kind.PushFront t) = bytes_eq s t
op_eq (kind.PushBack s) (kind.PushBack t) = bytes_eq s t
op_eq (kind.InsertAt a s) (kind.InsertAt b t) = (a == b) && bytes_eq s t
op_eq (kind.RemoveAt a) (kind.RemoveAt b) = a == b
op_eq kind.PopFront kind.PopFront = true
op_eq kind.PopBack kind.PopBack = true
op_eq (kind.Create s u) (kind.Create t v) = bytes_eq s t && bytes_eq u v
op_eq (kind.Store s u) (kind.Store t v) = bytes_eq s t && bytes_eq u v
op_eq (kind.Delete s) (kind.Delete t) = bytes_eq s t
op_eq (kind.Include a) (kind.Include b) = a == b
op_eq (kind.Exclude a) (kind.Exclude b) = a == b
op_eq _ _ = false

abbrev pub answer_eq : Answer → Answer → Bool
answer_eq (kind.Number a) (kind.Number b) = a == b
answer_eq (kind.Signed a) (kind.Signed b) = int_eq a b
answer_eq (kind.Object a) (kind.Object b) = option_eq oid_eq a b
answer_eq (kind.Words a) (kind.Words b) = option_eq bytes_eq a b
answer_eq (kind.Flag a) (kind.Flag b) = flag_eq a b
answer_eq (kind.Texts a) (kind.Texts b) = pointwise bytes_eq a b
answer_eq (kind.Numbers a) (kind.Numbers b) = bytes_eq a b
answer_eq (kind.Marked a) (kind.Marked b) = pointwise (λ x y. oid_eq x.0 y.0 && (x.1 == y.1)) a b
answer_eq _ _ = false

abbrev pub same : Sameness kinds
same = record { ops = op_eq; answers = answer_eq }
