use Rattle.std.proofs.Common.{◌≡◌, ◌++◌, List, ℕ, Option, length, ap, subst, ◌∙◌, arith}
use Rattle.std.specs.Prelude.{IfSome}
use Rattle.tg_client_answers.proofs.marking.spelled.Goals as goal

pub unwrap-blob-requires : goal.unwrap-blob-requires
unwrap-blob-requires g c =
    let bytes : c.put_op.new.out ≡ g.K.Kind.spelled c.mark_op-op.result = c.in_ok-put_op.ensures.ok ∙ ap (λ (l : List ℕ). l ++ g.K.Kind.spelled c.mark_op-op.result) c.new-bytes.ensures in
    let marking : c.put_op.new.out ≡ g.K.Kind.spelled (g.K.Registry.marking c.args.oid c.args.mark) = bytes ∙ ap (λ o. g.K.Kind.spelled o) c.mark_op-op.ensures in
    c.in_ok-new.ensures.fits.1 (omega (arith, ap length marking, g.met.K.Registry.marking_short c.args.oid c.args.mark))

pub returns-clause-some : goal.returns-clause-some
returns-clause-some g c =
    let bytes : c.put_op.new.out ≡ g.K.Kind.spelled c.mark_op-op.result = c.in_ok-put_op.ensures.ok ∙ ap (λ (l : List ℕ). l ++ g.K.Kind.spelled c.mark_op-op.result) c.new-bytes.ensures in
    let same = subst (λ (o : Option (List ℕ)). IfSome o (λ b. b ≡ c.put_op.new.out)) c.unwrap-blob.ensures c.in_ok-new.ensures.bytes in
    omega (arith, ap length (same ∙ bytes), g.met.K.Kind.spelled_some c.mark_op-op.result c.touch-known.ensures.known)
