use Rattle.std.proofs.Common.{◌∙◌, ap}
use Rattle.tg_protocol.specs.Versions.{Parts}
use Rattle.tg_play.specs.Kept.{own}
use Rattle.tg_play.proofs.Own.{own_parts}
use Rattle.tg_play.proofs.hosted.Hosted.parts.Goals as goal

pub returns-clause-whole : goal.returns-clause-whole
returns-clause-whole g c = λ b ns k. c.in_ok-parts.ensures.whole (own b c.args.oid ns) k ∙ ap (λ (p : Parts). p.whole) (own_parts b ns c.args.oid)

pub returns-clause-keys : goal.returns-clause-keys
returns-clause-keys g c = λ b ns k. c.in_ok-parts.ensures.keys (own b c.args.oid ns) k ∙ ap (λ (p : Parts). p.keys) (own_parts b ns c.args.oid)
