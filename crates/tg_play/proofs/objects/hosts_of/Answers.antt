use Rattle.std.proofs.Common.{◌≡◌, ℕ, suc, ◌-◌, ◌<◌, length, take, drop, ap, ◌∙◌, arith}
use Rattle.tg_play.specs.Kept.{hosts_from}
use Rattle.tg_play.proofs.Starting.{bases_left, one_more}
use Rattle.tg_play.proofs.objects.hosts_of.Goals as goal

pub loop-at-preserved : goal.loop-at-preserved
loop-at-preserved g c =
    let at : ℕ = c.loop-at.at - 1 in
    let within : at < length c.args.bases = omega arith in
    let next : c.loop-at.at ≡ suc at = omega arith in
    let left : c.loop-at.left ≡ take (suc at) c.args.bases = c.loop-at.invariant.left ∙ ap (λ (n : ℕ). take n c.args.bases) next in
    let kept : c.loop-at.objects.entries ≡ hosts_from (drop (suc at) c.args.bases) = c.loop-at.invariant.kept ∙ ap (λ (n : ℕ). hosts_from (drop n c.args.bases)) next in
    record {
      within = omega arith;
      left = bases_left c.args.bases c.loop-at.left c.remove.new.self at within left c.remove.ensures.rest;
      kept = one_more c.args.bases c.loop-at.left at c.loop-at.objects.entries c.host.new.objects.entries c.remove.result left c.remove.ensures.value kept c.in_ok-host.ensures;
    }
