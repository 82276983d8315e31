use Rattle.std.proofs.Common.{◌≡◌, drop}
use Rattle.tg_play.proofs.Means.{means}
use Rattle.tg_protocol.specs.Answers.{trim_above}
use Rattle.tg_client_answers.proofs.records.trim_above.Given as goal

abbrev pub invariant-loop-trim : goal.invariant-loop-trim
invariant-loop-trim g l = trim_above (means g.K.Kind g.K.Registry) (drop l.trim-index l.trims) l.pos ≡ trim_above (means g.K.Kind g.K.Registry) l.trims l.pos
