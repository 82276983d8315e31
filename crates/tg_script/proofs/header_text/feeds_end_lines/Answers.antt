use Rattle.tg_script.proofs.LineFeeds.{header_cut}
use Rattle.tg_script.proofs.header_text.feeds_end_lines.Goals as goal

pub returns : goal.returns
returns c = header_cut c.args.cluster.now c.rules.ensures
