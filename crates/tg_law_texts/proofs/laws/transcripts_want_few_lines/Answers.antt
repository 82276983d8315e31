use Rattle.tg_law_texts.proofs.Idling.{transcripts_want_few_lines}
use Rattle.tg_law_texts.proofs.laws.transcripts_want_few_lines.Goals as goal

pub returns : goal.returns
returns g = transcripts_want_few_lines
