use Rattle.std.proofs.Common.{◌≡◌, true, Option, sym, ap, subst, ◌∙◌}
use Rattle.tg_protocol.specs.Cells.{CellJob}
use Rattle.tg_protocol.specs.Requests.{drawn_from}
use Rattle.tg_protocol.specs.Sequencers.{SeqrState, seqr_asks, scan_on}
use Rattle.tg_seqr.specs.Scans.{is_scan}
use Rattle.tg_seqr.proofs.Asking.{ask_is}
use Rattle.tg_seqr.proofs.state.State.ask.Goals as goal

pub settling-state-requires : goal.settling-state-requires
settling-state-requires c =
    let a = ask_is c.args.self c.in_ok-turn.turn c.in_ok-turn.rids.next c.requires.left c.in_ok-turn.ensures.turn in
    subst (λ (j : Option CellJob). is_scan c.in_ok-turn.rids.next c.args.self.next c.args.self.proj.start j ≡ true) (sym c.asked-scan.ensures.scan) a.room

pub returns-clause-now : goal.returns-clause-now
returns-clause-now c =
    let a = ask_is c.args.self c.in_ok-turn.turn c.in_ok-turn.rids.next c.requires.left c.in_ok-turn.ensures.turn in
    c.settling-state.ensures ∙ ap (λ (j : Option CellJob). record c.args.self { rids = c.in_ok-turn.rids.next; scan = j }) c.asked-scan.ensures.scan ∙ a.now

pub returns-clause-sends : goal.returns-clause-sends
returns-clause-sends c =
    let a = ask_is c.args.self c.in_ok-turn.turn c.in_ok-turn.rids.next c.requires.left c.in_ok-turn.ensures.turn in
    let now : c.settling-state.result ≡ scan_on c.args.self true = c.settling-state.ensures ∙ ap (λ (j : Option CellJob). record c.args.self { rids = c.in_ok-turn.rids.next; scan = j }) c.asked-scan.ensures.scan ∙ a.now in
    c.asked-scan.ensures.outs ∙ a.sends ∙ ap (λ (z : SeqrState). drawn_from c.args.self.rids (seqr_asks z)) (sym now)
