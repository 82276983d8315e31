use Rattle.std.proofs.Common.{Bool, ◌∙◌, ap}
use Rattle.tg_base.specs.declared.cell.Cell.TheVariants.{Data}
use Rattle.tg_protocol.specs.Words.{cell_eq}
use Rattle.tg_protocol.specs.Appending.{Token, own_or_not}
use Rattle.tg_append.specs.Appends.{judging, by_append}
use Rattle.tg_append.proofs.append.Append.settle.Goals as goal

pub returns-then-is_page-clause-turn : goal.returns-then-is_page-clause-turn
returns-then-is_page-clause-turn c = λ j.
    let p = c.args.proj.now in
    let n = c.args.rids.now.next in
    c.at.ensures p n
    ∙ ap (λ (b : Bool). by_append p n (own_or_not (judging c.args.draft c.args.token j) c.args.token n b)) c.if-is_page.ensures
    ∙ ap (λ (t : Token). by_append p n (own_or_not (judging c.args.draft c.args.token j) c.args.token n (cell_eq c.args.cell.now (Data t.page)))) c.token.view_is
