use Rattle.std.proofs.Common.{ℕ, ◌+◌, ◌-◌, ap, sym, ◌∙◌, arith}
use Rattle.tg_audit.proofs.Means.{means}
use Rattle.tg_audit.proofs.Sweeping.{last_change, no_change_below}
use Rattle.tg_audit.proofs.versions.changed_below.Goals as goal

pub returns-then-changes : goal.returns-then-changes
returns-then-changes g c =
    ap (λ (v : ℕ). v + 1) c.from.ensures
    ∙ last_change (means g.K.Kind g.K.Registry) c.args.oid c.args.part.now c.args.before c.args.history.now c.args.most (c.args.most - 1 - c.loop-back.back) c.index-history-most.result
    c.requires.rising c.requires.split (omega (arith, c.loop-back-test.true)) c.index-history-most.is (sym c.changes.ensures ∙ c.if-changes.true)
    (λ i e l j f k. c.loop-back.invariant i e (omega (arith, l, c.loop-back-test.true)) j f k)

pub returns : goal.returns
returns g c =
    no_change_below (means g.K.Kind g.K.Registry) c.args.oid c.args.part.now c.args.before c.args.history.now c.args.most c.requires.split
    (λ i d j f k. c.loop-back.invariant i d (omega (arith, c.loop-back-test.false)) j f k)
