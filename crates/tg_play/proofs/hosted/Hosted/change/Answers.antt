use Rattle.tg_play.specs.Kept.{own}
use Rattle.tg_play.proofs.Means.{means}
use Rattle.tg_play.proofs.Hosting.{applied_on, changed_keeps}
use Rattle.tg_play.proofs.Lasting.{changed_lawful}
use Rattle.tg_play.proofs.hosted.Hosted.change.Goals as goal

pub returns-clause-kept : goal.returns-clause-kept
returns-clause-kept g c = λ b s ns k. record {
  state = applied_on (means g.K.Kind g.K.Registry) c.args.op.now s _ _ k.state c.in_ok-state.ensures;
  base = k.base;
  upto = k.upto;
  noted = changed_keeps c.args.oid _ b.versions.base ns _ _ c.args.pos c.in_ok-part.ensures.part (c.in_ok-noted.ensures (own b.versions.base c.args.oid ns) k.noted);
}

pub returns-clause-lawful : goal.returns-clause-lawful
returns-clause-lawful g c = λ k. changed_lawful c.args.oid c.args.self _ _ c.args.pos c.requires.begun c.in_ok-part.ensures.spelled (λ v keeps. c.in_ok-noted.ensures v keeps) k
