use Rattle.std.proofs.Common.{◌≡◌, ◌≤◌, ◌+◌, ◌-◌, ◌^◌, ◌∙◌, length, None, Err, ap, refl, subst, arith}
use Rattle.std.proofs.lemmas.Result.{err_from_is_err_and}
use Rattle.tg_io.specs.declared.fault.IoErr.TheVariants.{Failed}
use Rattle.tg_lines.proofs.Feeding.{handed_on}
use Rattle.tg_lines.specs.Lines.{ahead}
use Rattle.tg_lines.specs.Openings.{OnOpens, Opened}
use Rattle.tg_lines.specs.declared.header.Opening.{Opening}
use Rattle.tg_replay.specs.declared.stages.End.TheVariants.{Outside}
use Rattle.tg_replay.proofs.Feeding.{header_first, header_outside, header_opens, opens_first}
use Rattle.tg_replay.proofs.reading.read_script.Goals as goal

pub returns-in-Outside-clause-finished : goal.returns-in-Outside-clause-finished
returns-in-Outside-clause-finished g c =
    let left = g.S.Source.left c.args.source.now in
    let rest = ahead c.read_header.new.reader (g.S.Source.left c.read_header.new.source) in
    let opened = subst (λ (o : Opening). Opened (ahead c.new-reader.result left) rest o) c.in-Outside.is c.in_ok-line.ensures.opened in
    header_outside c.new-reader.result left rest c.in-Outside.line (record { end = Outside c.in-Outside.line; run = None }) c.new-reader.ensures opened refl refl

pub returns-in_ok-run-in-Opens-clause-finished : goal.returns-in_ok-run-in-Opens-clause-finished
returns-in_ok-run-in-Opens-clause-finished g c =
    let left = g.S.Source.left c.args.source.now in
    let rest = ahead c.read_header.new.reader (g.S.Source.left c.read_header.new.source) in
    let opened = subst (λ (o : Opening). Opened (ahead c.new-reader.result left) rest o) c.in-Opens.is c.in_ok-line.ensures.opened in
    let run = c.in_ok-run-in-Opens in
    header_opens c.new-reader.result left rest c.in-Opens.cluster run.run' c.read_events.result c.new-reader.ensures opened c.in_ok-line.ensures.feeds
    run.ensures.lawful run.ensures.cluster run.ensures.world run.ensures.events c.read_events.ensures.finished

pub returns-in_err-line-clause-first : goal.returns-in_err-line-clause-first
returns-in_err-line-clause-first g c = λ failed.
    let p = err_from_is_err_and c.from_residual.result c.from_residual.ensures.1 in
    let end : c.from_residual.result ≡ Err c.in_err-line.field-0.0 = p.1 ∙ ap Err p.2 in
    header_first c.new-reader.result (g.S.Source.left c.args.source.now) (g.S.Source.left c.read_header.new.source) c.new-reader.ensures (c.in_err-line.ensures.first (handed_on c.from_residual.result c.in_err-line.field-0.0 Failed end failed))

pub returns-in_ok-run-in-Opens-clause-first : goal.returns-in_ok-run-in-Opens-clause-first
returns-in_ok-run-in-Opens-clause-first g c =
    let left = g.S.Source.left c.args.source.now in
    let rest = ahead c.read_header.new.reader (g.S.Source.left c.read_header.new.source) in
    let opened = subst (λ (o : Opening). Opened (ahead c.new-reader.result left) rest o) c.in-Opens.is c.in_ok-line.ensures.opened in
    let run = c.in_ok-run-in-Opens in
    λ failed. opens_first c.new-reader.result left rest (g.S.Source.left c.read_events.new.source) c.in-Opens.cluster run.run' c.new-reader.ensures opened c.in_ok-line.ensures.feeds
    run.ensures.lawful run.ensures.cluster run.ensures.world run.ensures.events (c.read_events.ensures.first failed)

pub read_events-requires-clause-room : goal.read_events-requires-clause-room
read_events-requires-clause-room g c =
    let less : length c.read_header.new.reader + g.S.Source.room c.read_header.new.source + 3 ≤ length c.new-reader.result + g.S.Source.room c.args.source.now =
    subst (λ (o : Opening). OnOpens o (length c.read_header.new.reader + g.S.Source.room c.read_header.new.source + 3 ≤ length c.new-reader.result + g.S.Source.room c.args.source.now)) c.in-Opens.is c.in_ok-line.ensures.less in
    let empty : length c.new-reader.result ≡ 0 = ap length c.new-reader.ensures in
    let capped : g.S.Source.room c.args.source.now ≤ 2 ^ 64 - 1 = g.met.S.Source.capped c.args.source.now in
    let none : c.in_ok-run-in-Opens.run'.world.event ≡ 0 = c.in_ok-run-in-Opens.ensures.events in
    omega (arith, less, empty, capped, none)
