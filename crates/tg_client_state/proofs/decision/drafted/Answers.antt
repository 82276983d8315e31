use Rattle.std.proofs.Common.{◌≡◌, ◌<◌, ◌^◌, ◌++◌, true, List, map, sym, ap, ◌∙◌, arith}
use Rattle.tg_base.specs.declared.marks.StreamLink.{StreamLink}
use Rattle.tg_protocol.specs.Entries.{oid_of_link, unlinked}
use Rattle.tg_client_state.specs.Drafts.{are_streams}
use Rattle.tg_client_state.proofs.Deciding.{decision_kept}
use Rattle.tg_client_state.proofs.decision.drafted.Goals as goal

pub new-requires : goal.new-requires
new-requires c =
    let bare : c.put_unlinked.new.streams ≡ map unlinked (map oid_of_link c.args.links.now) =
    c.in_ok-put_unlinked.ensures ∙ ap (λ (ls : List StreamLink). ls ++ map unlinked (map oid_of_link c.args.links.now)) c.new-streams.ensures in
    let are : are_streams c.args.links.now ≡ true = sym c.are_streams.ensures ∙ c.if-not-are_streams.false in
    let client : c.args.client < 2 ^ 16 = omega arith in
    let number : c.args.number < 2 ^ 32 = omega arith in
    let at : c.args.at < 2 ^ 64 = omega arith in
    decision_kept c.args.client c.args.number c.args.at c.args.yes c.args.links.now c.put_unlinked.new.streams bare are client c.requires number at
