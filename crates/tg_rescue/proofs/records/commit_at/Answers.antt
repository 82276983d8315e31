use Rattle.std.proofs.Common.{ap, ◌∙◌}
use Rattle.tg_protocol.specs.Past.{commit_at}
use Rattle.tg_protocol.specs.Views.{Entries}
use Rattle.tg_rescue.proofs.records.commit_at.Goals as goal

pub returns : goal.returns
returns c = c.commit_in.ensures ∙ ap (λ (es : Entries). commit_at es c.args.at) c.as_slice.ensures.entries
