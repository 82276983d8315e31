use Rattle.std.proofs.Common.{◌≡◌, ◌+◌, ℕ, true, sym, ap, subst, arith}
use Rattle.tg_entry.specs.Drafts.{Placed, all_below}
use Rattle.bench_costs.proofs.Below.{below, one_more}
use Rattle.bench_costs.proofs.entries.entries_from.Goals as goal

pub push-requires : goal.push-requires
push-requires c =
    let place : c.from.result ≡ c.loop-place.place = c.from.ensures in
    subst (λ (es : Placed). all_below (c.args.first + c.from.result) es ≡ true) (sym c.loop-place.invariant.entries)
    (below c.args.first c.loop-place.place (c.args.first + c.from.result) (omega (arith, place)))

pub loop-place-preserved : goal.loop-place-preserved
loop-place-preserved c = record {
  entries = one_more c.args.first c.loop-place.place c.loop-place.entries c.push.new.self (c.args.first + c.from.result) c.in_ok-record.record c.in_ok-push.ensures.ok c.loop-place.invariant.entries
      (ap (λ (n : ℕ). c.args.first + n) c.from.ensures) c.in_ok-record.ensures;
}
