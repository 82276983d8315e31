-- What is read of bytes is an op.
use Rattle.std.proofs.Common.{◌≡◌, Bool, true, false, refl, subst, Some, None, length}
use Rattle.std.specs.Prelude.{◌&&◌, ◌==◌, Ok, Err, if◌then◌else◌}
use Rattle.tg_codec.specs.Reading.{Read}
use Rattle.tg_kind.specs.Of.{read_by}
use Rattle.tg_any.specs.declared.any.AnyOp.{AnyOp}
use Rattle.tg_any.specs.Anys as any
use Rattle.tg_any.specs.AnyLaws.{reads_only}
use Rattle.tg_law_headline.specs.AllKinds.Kinds.{KindsReadOps}

some_op : (a b : AnyOp) → Some a ≡ Some b → a ≡ b
some_op a b e = cc

chosen : (b : Bool) (x op : AnyOp) → (if b then Some x else None) ≡ Some op → x ≡ op
chosen true x op e = some_op x op e
chosen false x op e = absurd (cc)

pub kinds_read_ops : KindsReadOps
kinds_read_ops o bytes op is e = by (any.read bytes) refl e
  where
    by : (r : Read AnyOp) → any.read bytes ≡ r → read_by (any.is_of o) r ≡ Some op → any.is_op op ≡ true
    by (Ok x) i f = subst (λ (y : AnyOp). any.is_op y ≡ true) (chosen ((length x.1 == 0) && any.is_of o x.0) x.0 op f) (reads_only bytes x.0 x.1 is i).0
    by (Err n) i f = absurd (cc)
