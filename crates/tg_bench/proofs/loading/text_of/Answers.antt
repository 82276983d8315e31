use Rattle.tg_bench.proofs.Promises.{text_summed}
use Rattle.tg_bench.proofs.loading.text_of.Goals as goal

pub returns : goal.returns
returns c = text_summed c.summary_of.result c.args.run.now c.in-Some.run' c.in-Some.is c.summary_of.ensures
