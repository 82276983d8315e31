use Rattle.std.proofs.Common.{ℕ, ◌+◌, drop, Some, sym, ap, ◌∙◌}
use Rattle.tg_base.specs.declared.marks.ReadMark.{ReadMark}
use Rattle.tg_protocol.specs.Views.{version_at}
use Rattle.tg_vers.specs.Kept.{first_other}
use Rattle.tg_vers.proofs.Firsts.{passed, stopped, front_of}
use Rattle.tg_play.proofs.Means.{means}
use Rattle.tg_play.proofs.reads.changed.Goals as goal

pub returns-then-now-read : goal.returns-then-now-read
returns-then-now-read g c = λ v k.
    let r = c.index-reads-index.result in
    let version : ReadMark → ℕ = version_at (means g.K.Kind g.K.Registry) v c.args.pos in
    ap (λ (now : ℕ). Some (c.loop-index.index, now)) (c.version_at-now.ensures v k)
    ∙ stopped version (drop c.loop-index.index c.args.reads.now) (drop (c.loop-index.index + 1) c.args.reads.now) r c.loop-index.index (first_other version c.args.reads.now)
    (front_of c.args.reads.now c.loop-index.index r c.loop-index-test.true c.index-reads-index.is)
    (λ e. c.if-now-read.true (c.version_at-now.ensures v k ∙ e))
    (c.loop-index.invariant v k)

pub loop-index-preserved : goal.loop-index-preserved
loop-index-preserved g c = λ v k.
    let r = c.index-reads-index.result in
    let version : ReadMark → ℕ = version_at (means g.K.Kind g.K.Registry) v c.args.pos in
    passed version (drop c.loop-index.index c.args.reads.now) (drop (c.loop-index.index + 1) c.args.reads.now) r c.loop-index.index (first_other version c.args.reads.now)
    (front_of c.args.reads.now c.loop-index.index r c.loop-index-test.true c.index-reads-index.is)
    (sym (c.version_at-now.ensures v k) ∙ c.if-now-read.false)
    (c.loop-index.invariant v k)
