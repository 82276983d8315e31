use Rattle.std.proofs.Common.{refl, inl}
use Rattle.tg_lines.specs.Lines.{ahead}
use Rattle.tg_node.specs.Stages.{seen}
use Rattle.tg_node.proofs.Ending.{if_any, if_weaker, opens, opens_sound, causes_none, nat_same}
use Rattle.tg_node.proofs.session.follow_header.Goals as goal

pub returns-in_default-clause-outcome : goal.returns-in_default-clause-outcome
returns-in_default-clause-outcome g c = if_any (ahead c.args.reader.now (g.S.Source.left c.args.source.now)) _ (λ rest text cut declared. inl (inl refl))

pub returns-in_default-clause-causes : goal.returns-in_default-clause-causes
returns-in_default-clause-causes g c = causes_none (g.S.Source.faults c.args.source.now) (g.S.Source.faults c.args.source.now) (g.S.Source.faults c.args.source.now) _ _ _ _ (nat_same _) (nat_same _) refl refl

pub follow_text-requires-clause-sound : goal.follow_text-requires-clause-sound
follow_text-requires-clause-sound g c = opens_sound c.args.id c.args.cluster c.in-Ok.node c.in-Ok.ensures.node c.in-Ok.ensures.steps c.in-Ok.ensures.received

pub returns-clause-outcome : goal.returns-clause-outcome
returns-clause-outcome g c =
    if_weaker (ahead c.args.reader.now (g.S.Source.left c.args.source.now)) _ _
    (λ rest h text cut declared. h text (seen (g.L.Link.sent c.args.link.now) (g.L.Link.handed c.args.link.now) (g.L.Link.acts c.args.link.now) (g.K.Sink.written c.args.sink.now))
    (opens text c.args.id c.args.cluster c.in-Ok.node rest (g.L.Link.sent c.args.link.now) (g.L.Link.handed c.args.link.now) (g.L.Link.acts c.args.link.now) (g.K.Sink.written c.args.sink.now) c.rules.ensures declared cut c.in-Ok.ensures.node c.in-Ok.ensures.steps
    c.in-Ok.ensures.received c.in-Ok.ensures.replies)) c.follow_text.ensures.outcome

pub returns-clause-first : goal.returns-clause-first
returns-clause-first g c = λ e.
    if_weaker (ahead c.args.reader.now (g.S.Source.left c.args.source.now)) _ _
    (λ rest h text cut declared feeds. h text (seen (g.L.Link.sent c.args.link.now) (g.L.Link.handed c.args.link.now) (g.L.Link.acts c.args.link.now) (g.K.Sink.written c.args.sink.now))
    (opens text c.args.id c.args.cluster c.in-Ok.node rest (g.L.Link.sent c.args.link.now) (g.L.Link.handed c.args.link.now) (g.L.Link.acts c.args.link.now) (g.K.Sink.written c.args.sink.now) c.rules.ensures declared cut c.in-Ok.ensures.node c.in-Ok.ensures.steps
    c.in-Ok.ensures.received c.in-Ok.ensures.replies) feeds) (c.follow_text.ensures.first e)
