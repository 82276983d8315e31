use Rattle.std.proofs.Common.{rules, subst, List, ℕ}
use Rattle.std.proofs.lemmas.List.{take-replicate}
use Rattle.tg_codec.specs.Reading.{Gives, fixed_at}
use Rattle.tg_codec.proofs.streams.zeros.Goals as goal

pub returns : goal.returns
returns c = subst (λ (t : List ℕ). Gives (λ x. (x.0, x.1.now)) c.fixed.result (fixed_at t c.args.bytes.now)) (take-replicate c.args.count 32 0 c.requires) (search rules)
