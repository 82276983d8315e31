use Rattle.std.proofs.Common.{◌≡◌, ◌≤◌, ◌+◌, ◌-◌, ◌^◌, ◌∙◌, length, None, Err, ap, refl, subst, arith}
use Rattle.tg_lines.specs.Lines.{ahead}
use Rattle.tg_lines.specs.Openings.{Opened, OnOpens}
use Rattle.tg_lines.specs.declared.header.Opening.{Opening}
use Rattle.tg_replay.specs.declared.stages.End.TheVariants.{Outside}
use Rattle.tg_live.proofs.Feeding.{header_first, header_outside, header_opens, opens_first}
use Rattle.tg_live.specs.Sends.{carried}
use Rattle.std.proofs.lemmas.Result.{err_from_is_err_and, on_err_weaker}
use Rattle.tg_live.specs.declared.stages.Stop.TheVariants.{Read}
use Rattle.tg_lines.proofs.Feeding.{handed_on}
use Rattle.tg_live.proofs.Breaking.{on_err}
use Rattle.tg_live.proofs.Broken.{none_done, opens_broken}
use Rattle.tg_live.proofs.running.run_script.Goals as goal

pub returns-in-Outside-clause-finished : goal.returns-in-Outside-clause-finished
returns-in-Outside-clause-finished g c =
    let left = g.S.Source.left c.args.source.now in
    let rest = ahead c.open.new.reader (g.S.Source.left c.open.new.source) in
    let opened = subst (λ (o : Opening). Opened (ahead c.new-reader.result left) rest o) c.in-Outside.is c.in_ok-line.ensures.opened in
    header_outside c.new-reader.result left rest c.in-Outside.line (record { end = Outside c.in-Outside.line; live = None })
    (g.L.Link.handed c.args.link.now) (g.L.Link.handed c.args.link.now) (carried (g.L.Link.sent c.args.link.now) (g.L.Link.acts c.args.link.now)) (carried (g.L.Link.sent c.args.link.now) (g.L.Link.acts c.args.link.now)) c.new-reader.ensures opened refl refl refl refl

pub returns-in_ok-live-in-Opens-clause-finished : goal.returns-in_ok-live-in-Opens-clause-finished
returns-in_ok-live-in-Opens-clause-finished g c =
    let left = g.S.Source.left c.args.source.now in
    let rest = ahead c.open.new.reader (g.S.Source.left c.open.new.source) in
    let opened = subst (λ (o : Opening). Opened (ahead c.new-reader.result left) rest o) c.in-Opens.is c.in_ok-line.ensures.opened in
    let live = c.in_ok-live-in-Opens in
    header_opens c.new-reader.result left rest c.in-Opens.cluster (record { live = live.live; lines = 0 }) c.run_lines.result
    (g.L.Link.handed c.args.link.now) (g.L.Link.handed c.run_lines.new.link) (carried (g.L.Link.sent c.args.link.now) (g.L.Link.acts c.args.link.now)) (carried (g.L.Link.sent c.run_lines.new.link) (g.L.Link.acts c.run_lines.new.link)) c.new-reader.ensures opened c.in_ok-line.ensures.feeds
    live.ensures.lawful (live.ensures.opened (carried (g.L.Link.sent c.args.link.now) (g.L.Link.acts c.args.link.now))) refl c.run_lines.ensures.finished

pub returns-in_err-line-clause-first : goal.returns-in_err-line-clause-first
returns-in_err-line-clause-first g c = λ failed.
    let p = err_from_is_err_and c.from_residual.result c.from_residual.ensures.1 in
    let end : c.from_residual.result ≡ Err c.in_err-line.field-0.0 = p.1 ∙ ap Err p.2 in
    header_first c.new-reader.result (g.S.Source.left c.args.source.now) (g.S.Source.left c.open.new.source) c.new-reader.ensures (c.in_err-line.ensures.first (handed_on c.from_residual.result c.in_err-line.field-0.0 Read end failed))

pub returns-in_ok-live-in-Opens-clause-first : goal.returns-in_ok-live-in-Opens-clause-first
returns-in_ok-live-in-Opens-clause-first g c =
    let left = g.S.Source.left c.args.source.now in
    let rest = ahead c.open.new.reader (g.S.Source.left c.open.new.source) in
    let opened = subst (λ (o : Opening). Opened (ahead c.new-reader.result left) rest o) c.in-Opens.is c.in_ok-line.ensures.opened in
    let live = c.in_ok-live-in-Opens in
    let before = carried (g.L.Link.sent c.args.link.now) (g.L.Link.acts c.args.link.now) in
    λ failed. opens_first c.new-reader.result left rest (g.S.Source.left c.run_lines.new.source) c.in-Opens.cluster (record { live = live.live; lines = 0 }) (g.L.Link.handed c.args.link.now) before c.new-reader.ensures opened c.in_ok-line.ensures.feeds
    live.ensures.lawful (live.ensures.opened before) refl (c.run_lines.ensures.first failed)

pub returns-in_err-line-clause-broken : goal.returns-in_err-line-clause-broken
returns-in_err-line-clause-broken g c = on_err c.from_residual.result (none_done (g.S.Source.left c.args.source.now) (g.L.Link.acts c.args.link.now))

pub returns-in_err-live-in-Opens-clause-broken : goal.returns-in_err-live-in-Opens-clause-broken
returns-in_err-live-in-Opens-clause-broken g c = on_err c.from_residual-in_err-live-in-Opens.result (none_done (g.S.Source.left c.args.source.now) (g.L.Link.acts c.args.link.now))

pub returns-in_ok-live-in-Opens-clause-broken : goal.returns-in_ok-live-in-Opens-clause-broken
returns-in_ok-live-in-Opens-clause-broken g c =
    let left = g.S.Source.left c.args.source.now in
    let rest = ahead c.open.new.reader (g.S.Source.left c.open.new.source) in
    let opened = subst (λ (o : Opening). Opened (ahead c.new-reader.result left) rest o) c.in-Opens.is c.in_ok-line.ensures.opened in
    let live = c.in_ok-live-in-Opens in
    let before = carried (g.L.Link.sent c.args.link.now) (g.L.Link.acts c.args.link.now) in
    on_err_weaker c.run_lines.result (λ b. opens_broken c.new-reader.result left rest c.in-Opens.cluster (record { live = live.live; lines = 0 }) (g.L.Link.handed c.args.link.now) before (g.L.Link.acts c.run_lines.new.link) c.new-reader.ensures opened c.in_ok-line.ensures.feeds
    live.ensures.lawful (live.ensures.opened before) refl b) c.run_lines.ensures.broken

pub run_lines-requires-clause-room : goal.run_lines-requires-clause-room
run_lines-requires-clause-room g c =
    let less : length c.open.new.reader + g.S.Source.room c.open.new.source + 3 ≤ length c.new-reader.result + g.S.Source.room c.args.source.now =
    subst (λ (o : Opening). OnOpens o (length c.open.new.reader + g.S.Source.room c.open.new.source + 3 ≤ length c.new-reader.result + g.S.Source.room c.args.source.now)) c.in-Opens.is c.in_ok-line.ensures.less in
    let empty : length c.new-reader.result ≡ 0 = ap length c.new-reader.ensures in
    let capped : g.S.Source.room c.args.source.now ≤ 2 ^ 64 - 1 = g.met.S.Source.capped c.args.source.now in
    omega (arith, less, empty, capped)
