use Rattle.std.proofs.Common.{◌≡◌, ◌≤◌, ◌+◌, ◌-◌, ◌^◌, length, refl, ap, subst, arith}
use Rattle.tg_lines.specs.Lines.{ahead}
use Rattle.tg_lines.specs.declared.header.Opening.{Opening}
use Rattle.tg_lines.specs.Openings.{OnOpens}
use Rattle.tg_node.specs.Openings.{Opened}
use Rattle.tg_node.specs.Stages.{seen}
use Rattle.tg_node.proofs.Ending.{header_failed, header_followed, header_opens, header_outside, told_cut, told_none, causes_since, causes_script, causes_read, causes_none, failed}
use Rattle.tg_node.proofs.session.run_node.Goals as goal

pub returns-in-Ok-Opens-clause-outcome : goal.returns-in-Ok-Opens-clause-outcome
returns-in-Ok-Opens-clause-outcome g c =
    let rest = ahead c.read_own_header.new.reader (g.S.Source.left c.read_own_header.new.source) in
    header_opens (g.S.Source.left c.args.source.now) c.new-reader.result rest c.args.id c.in-Ok-Opens.cluster c.follow_header.result _ _ c.new-reader.ensures (subst (λ (o : Opening). Opened c.args.id (ahead c.new-reader.result (g.S.Source.left c.args.source.now)) rest o) c.in-Ok-Opens.field-0-is c.in-Ok-Opens.ensures.opened) c.follow_header.ensures.outcome

pub returns-in-Ok-Opens-clause-causes : goal.returns-in-Ok-Opens-clause-causes
returns-in-Ok-Opens-clause-causes g c =
    causes_since (g.S.Source.faults c.args.source.now) (g.S.Source.faults c.read_own_header.new.source) (g.S.Source.faults c.follow_header.new.source) _ _ _ _ c.follow_header.result c.in-Ok-Opens.ensures.cause.later c.in-Ok-Opens.ensures.still c.follow_header.ensures.causes

pub returns-in-Ok-Outside-clause-outcome : goal.returns-in-Ok-Outside-clause-outcome
returns-in-Ok-Outside-clause-outcome g c =
    let rest = ahead c.read_own_header.new.reader (g.S.Source.left c.read_own_header.new.source) in
    header_outside (g.S.Source.left c.args.source.now) c.new-reader.result rest c.args.id c.in-Ok-Outside.line _ c.new-reader.ensures (subst (λ (o : Opening). Opened c.args.id (ahead c.new-reader.result (g.S.Source.left c.args.source.now)) rest o) c.in-Ok-Outside.field-0-is c.in-Ok-Outside.ensures.opened)

pub returns-in-Ok-Outside-clause-causes : goal.returns-in-Ok-Outside-clause-causes
returns-in-Ok-Outside-clause-causes g c = causes_script c.in-Ok-Outside.line (g.S.Source.faults c.args.source.now) (g.S.Source.faults c.read_own_header.new.source) _ _ c.in-Ok-Outside.ensures.cause.later c.in-Ok-Outside.ensures.still

pub returns-in-Err-Failed-clause-outcome : goal.returns-in-Err-Failed-clause-outcome
returns-in-Err-Failed-clause-outcome g c = told_cut (g.S.Source.left c.args.source.now) c.args.id (seen (g.L.Link.sent c.args.link.now) (g.L.Link.handed c.args.link.now) (g.L.Link.acts c.args.link.now) (g.K.Sink.written c.args.sink.now))

pub returns-in-Err-NoMemory-clause-outcome : goal.returns-in-Err-NoMemory-clause-outcome
returns-in-Err-NoMemory-clause-outcome g c = told_none (g.S.Source.left c.args.source.now) c.args.id (seen (g.L.Link.sent c.args.link.now) (g.L.Link.handed c.args.link.now) (g.L.Link.acts c.args.link.now) (g.K.Sink.written c.args.sink.now))

pub returns-in-Err-Failed-clause-causes : goal.returns-in-Err-Failed-clause-causes
returns-in-Err-Failed-clause-causes g c =
    causes_read (g.S.Source.faults c.args.source.now) (g.S.Source.faults c.args.source.now) (g.S.Source.faults c.read_own_header.new.source) _ _ _ _ (omega arith) c.in-Err-Failed.ensures.cause.later refl refl
    (c.in-Err-Failed.ensures.cause.failed (failed c.in-Err-Failed.field-0 c.in-Err-Failed.field-0-is))

pub returns-in-Err-NoMemory-clause-causes : goal.returns-in-Err-NoMemory-clause-causes
returns-in-Err-NoMemory-clause-causes g c =
    causes_none (g.S.Source.faults c.args.source.now) (g.S.Source.faults c.args.source.now) (g.S.Source.faults c.read_own_header.new.source) _ _ _ _ (omega arith) c.in-Err-NoMemory.ensures.cause.later refl refl

pub returns-in-Ok-Opens-clause-first : goal.returns-in-Ok-Opens-clause-first
returns-in-Ok-Opens-clause-first g c = λ e.
    let rest = ahead c.read_own_header.new.reader (g.S.Source.left c.read_own_header.new.source) in
    header_followed (g.S.Source.left c.args.source.now) c.new-reader.result rest (g.S.Source.left c.follow_header.new.source) c.args.id c.in-Ok-Opens.cluster c.new-reader.ensures
    (subst (λ (o : Opening). Opened c.args.id (ahead c.new-reader.result (g.S.Source.left c.args.source.now)) rest o) c.in-Ok-Opens.field-0-is c.in-Ok-Opens.ensures.opened) c.in-Ok-Opens.ensures.feeds (c.follow_header.ensures.first e)

pub returns-in-Err-Failed-clause-first : goal.returns-in-Err-Failed-clause-first
returns-in-Err-Failed-clause-first g c = λ e.
    header_failed (g.S.Source.left c.args.source.now) c.new-reader.result (g.S.Source.left c.read_own_header.new.source) c.args.id c.new-reader.ensures (c.in-Err-Failed.ensures.first (failed c.in-Err-Failed.field-0 c.in-Err-Failed.field-0-is))

pub follow_header-requires : goal.follow_header-requires
follow_header-requires g c =
    let less : length c.read_own_header.new.reader + g.S.Source.room c.read_own_header.new.source + 3 ≤ length c.new-reader.result + g.S.Source.room c.args.source.now =
    subst (λ (o : Opening). OnOpens o (length c.read_own_header.new.reader + g.S.Source.room c.read_own_header.new.source + 3 ≤ length c.new-reader.result + g.S.Source.room c.args.source.now)) c.in-Ok-Opens.field-0-is c.in-Ok-Opens.ensures.less in
    let empty : length c.new-reader.result ≡ 0 = ap length c.new-reader.ensures in
    let capped : g.S.Source.room c.args.source.now ≤ 2 ^ 64 - 1 = g.met.S.Source.capped c.args.source.now in
    omega (arith, less, empty, capped)
