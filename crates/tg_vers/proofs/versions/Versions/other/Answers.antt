use Rattle.std.proofs.Common.{ℕ, ◌+◌, drop, Some, sym, ap, ◌∙◌}
use Rattle.tg_base.specs.declared.marks.ReadMark.{ReadMark}
use Rattle.tg_vers.specs.Kept.{version_kept, kept_of, first_other}
use Rattle.tg_vers.proofs.Firsts.{passed, stopped, front_of}
use Rattle.tg_vers.proofs.versions.Versions.other.Goals as goal

pub returns-then-now-read : goal.returns-then-now-read
returns-then-now-read c =
    let r = c.index-reads-index.result in
    let version : ReadMark → ℕ = λ (q : ReadMark). version_kept (kept_of c.args.self.now q.oid) q.part in
    ap (λ (now : ℕ). Some (c.loop-index.index, now)) c.version-now.ensures
    ∙ stopped version (drop c.loop-index.index c.args.reads.now) (drop (c.loop-index.index + 1) c.args.reads.now) r c.loop-index.index (first_other version c.args.reads.now)
    (front_of c.args.reads.now c.loop-index.index r c.loop-index-test.true c.index-reads-index.is)
    (λ e. c.if-now-read.true (c.version-now.ensures ∙ e))
    c.loop-index.invariant

pub loop-index-preserved : goal.loop-index-preserved
loop-index-preserved c =
    let r = c.index-reads-index.result in
    let version : ReadMark → ℕ = λ (q : ReadMark). version_kept (kept_of c.args.self.now q.oid) q.part in
    passed version (drop c.loop-index.index c.args.reads.now) (drop (c.loop-index.index + 1) c.args.reads.now) r c.loop-index.index (first_other version c.args.reads.now)
    (front_of c.args.reads.now c.loop-index.index r c.loop-index-test.true c.index-reads-index.is)
    (sym c.version-now.ensures ∙ c.if-now-read.false)
    c.loop-index.invariant
