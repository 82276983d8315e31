use Rattle.tg_audit.proofs.Means.{means}
use Rattle.tg_audit.proofs.Sweeping.{known_right}
use Rattle.tg_audit.proofs.run.Run.holds_here.Goals as goal

pub returns-then-is_known : goal.returns-then-is_known
returns-then-is_known g c =
    known_right (means g.K.Kind g.K.Registry) g.K.Judged.same_answers c.args.self.now.objects.now c.args.self.now.history.now c.args.self.now.trace.now c.args.self.now.tables.now.asked c.args.place c.args.before c.args.oid c.args.ask.now c.args.ans.now c.requires.run.asked (c.is_known.ensures c.if-is_known.true) c.requires.here

pub returns-then-is_known-2 : goal.returns-then-is_known-2
returns-then-is_known-2 g c =
    known_right (means g.K.Kind g.K.Registry) g.K.Judged.same_answers c.args.self.now.objects.now c.args.self.now.history.now c.args.self.now.trace.now c.args.self.now.tables.now.ended c.args.place c.args.before c.args.oid c.args.ask.now c.args.ans.now c.requires.run.ended (c.is_known-2.ensures c.if-is_known-2.true) c.requires.here
