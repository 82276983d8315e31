use Rattle.std.proofs.Common.{◌≡◌, ◌≤◌, ◌+◌, ◌-◌, ◌^◌, length, None, ap, refl, subst, arith}
use Rattle.tg_lines.specs.Lines.{ahead}
use Rattle.tg_lines.specs.Openings.{Opened, OnOpens}
use Rattle.tg_lines.specs.declared.header.Opening.{Opening}
use Rattle.tg_replay.specs.declared.stages.End.TheVariants.{Outside}
use Rattle.tg_replay.proofs.Feeding.{header_outside}
use Rattle.space_time.proofs.Feeding.{header_opens}
use Rattle.space_time.proofs.reading.record_script.Goals as goal

pub returns-in-Outside-clause-finished : goal.returns-in-Outside-clause-finished
returns-in-Outside-clause-finished g c =
    let left = g.S.Source.left c.args.source.now in
    let rest = ahead c.read_header.new.reader (g.S.Source.left c.read_header.new.source) in
    let opened = subst (λ (o : Opening). Opened (ahead c.new-reader.result left) rest o) c.in-Outside.is c.in_ok-line.ensures.opened in
    header_outside c.new-reader.result left rest c.in-Outside.line (record { end = Outside c.in-Outside.line; run = None }) c.new-reader.ensures opened refl refl

pub returns-in_ok-recording-in-Opens-clause-finished : goal.returns-in_ok-recording-in-Opens-clause-finished
returns-in_ok-recording-in-Opens-clause-finished g c =
    let left = g.S.Source.left c.args.source.now in
    let rest = ahead c.read_header.new.reader (g.S.Source.left c.read_header.new.source) in
    let opened = subst (λ (o : Opening). Opened (ahead c.new-reader.result left) rest o) c.in-Opens.is c.in_ok-line.ensures.opened in
    let r = c.in_ok-recording-in-Opens in
    header_opens c.new-reader.result left rest c.in-Opens.cluster r.recording.run c.record_events.result c.new-reader.ensures opened c.in_ok-line.ensures.feeds
    r.ensures.lawful r.ensures.cluster r.ensures.world r.ensures.events c.record_events.ensures.finished

pub record_events-requires-clause-room : goal.record_events-requires-clause-room
record_events-requires-clause-room g c =
    let less : length c.read_header.new.reader + g.S.Source.room c.read_header.new.source + 3 ≤ length c.new-reader.result + g.S.Source.room c.args.source.now =
    subst (λ (o : Opening). OnOpens o (length c.read_header.new.reader + g.S.Source.room c.read_header.new.source + 3 ≤ length c.new-reader.result + g.S.Source.room c.args.source.now)) c.in-Opens.is c.in_ok-line.ensures.less in
    let empty : length c.new-reader.result ≡ 0 = ap length c.new-reader.ensures in
    let capped : g.S.Source.room c.args.source.now ≤ 2 ^ 64 - 1 = g.met.S.Source.capped c.args.source.now in
    let none : c.in_ok-recording-in-Opens.recording.run.world.event ≡ 0 = c.in_ok-recording-in-Opens.ensures.events in
    omega (arith, less, empty, capped, none)
