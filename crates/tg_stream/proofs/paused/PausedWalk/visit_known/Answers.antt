use Rattle.std.proofs.Common.{◌≡◌, subst}
use Rattle.std.specs.Prelude.{is_some, IfOk, OnOk}
use Rattle.tg_protocol.specs.Words.{cell_at}
use Rattle.tg_stream.specs.Walks.{Course, seen_if}
use Rattle.tg_stream.proofs.paused.PausedWalk.visit_known.Goals as goal

pub returns-clause-known : goal.returns-clause-known
returns-clause-known c = subst (λ (s : Course). IfOk c.visit_read.result (λ known. known ≡ is_some (cell_at s.cells c.args.pos))) c.read.ensures c.visit_read.ensures.known

pub returns-clause-course : goal.returns-clause-course
returns-clause-course c = subst (λ (s : Course). OnOk c.visit_read.result (c.visit_read.new.self ≡ seen_if s c.args.pos (cell_at s.cells c.args.pos))) c.read.ensures c.visit_read.ensures.course
