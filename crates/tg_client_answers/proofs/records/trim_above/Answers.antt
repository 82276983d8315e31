use Rattle.std.proofs.Common.{◌+◌, drop}
use Rattle.std.proofs.lemmas.Bool.{lt-ltb, le-ltb}
use Rattle.tg_play.proofs.Means.{means}
use Rattle.tg_play.proofs.Splitting.{drop_all}
use Rattle.tg_client_answers.proofs.TrimsAbove.{drop_at, found_trim, passed_trim, no_trim}
use Rattle.tg_client_answers.proofs.records.trim_above.Goals as goal

pub returns-then-pos-trim : goal.returns-then-pos-trim
returns-then-pos-trim g c = found_trim (means g.K.Kind g.K.Registry) c.args.trims.now (drop c.loop-trim.trim-index c.args.trims.now) (drop (c.loop-trim.trim-index + 1) c.args.trims.now) _ c.args.pos (drop_at c.args.trims.now c.loop-trim.trim-index _ c.loop-trim-test.true) (lt-ltb _ _ c.if-pos-trim.true) c.loop-trim.invariant

pub loop-trim-preserved : goal.loop-trim-preserved
loop-trim-preserved g c = passed_trim (means g.K.Kind g.K.Registry) c.args.trims.now (drop c.loop-trim.trim-index c.args.trims.now) (drop (c.loop-trim.trim-index + 1) c.args.trims.now) _ c.args.pos (drop_at c.args.trims.now c.loop-trim.trim-index _ c.loop-trim-test.true) (le-ltb _ _ c.if-pos-trim.false) c.loop-trim.invariant

pub returns : goal.returns
returns g c = no_trim (means g.K.Kind g.K.Registry) c.args.trims.now (drop c.loop-trim.trim-index c.args.trims.now) c.args.pos (drop_all c.args.trims.now c.loop-trim.trim-index c.loop-trim-test.false) c.loop-trim.invariant
