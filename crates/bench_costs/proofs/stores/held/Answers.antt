use Rattle.std.proofs.Common.{◌≡◌, ◌*◌, ◌%◌, ◌^◌, ap, ◌∙◌}
use Rattle.std.specs.Prelude.{replicate}
use Rattle.bench_costs.specs.Stores.{stored, held, sent, is_held, position}
use Rattle.bench_costs.proofs.Alike.{next, sum_of_many}
use Rattle.bench_costs.proofs.stores.held.Goals as goal

pub loop-place-preserved : goal.loop-place-preserved
loop-place-preserved c =
    let before = stored c.args.order c.args.count c.loop-place.place in
    let pos : c.position-pos.result ≡ position c.args.order c.args.count c.loop-place.place = c.position-pos.ensures in
    let here : c.in_ok-held.held ≡ c.args.many * is_held (sent before (position c.args.order c.args.count c.loop-place.place)).says % 2 ^ 64 =
    c.in_ok-held.ensures.held c.args.many before c.loop-place.invariant.units ∙ ap (λ p. c.args.many * is_held (sent before p).says % 2 ^ 64) pos in
    record {
      units = c.in_ok-held.ensures.now c.args.many before c.loop-place.invariant.units ∙ ap (λ p. replicate c.args.many (sent before p).now) pos
          ∙ ap (λ n. replicate c.args.many (stored c.args.order c.args.count n)) (next c.loop-place.place);
      sum = sum_of_many c.loop-place.sum c.in_ok-held.held c.args.many (held c.args.order c.args.count c.loop-place.place) _ c.loop-place.invariant.sum here
          ∙ ap (λ n. c.args.many * held c.args.order c.args.count n % 2 ^ 64) (next c.loop-place.place);
    }
