use Rattle.std.proofs.Common.{◌∙◌, sym, ap}
use Rattle.tg_protocol.specs.Requests.{ends, met_gone}
use Rattle.tg_protocol.specs.Appending.{Token, Judging, Forgotten, judge_end}
use Rattle.tg_chain.specs.Ends.{fill_end as fill_ended}
use Rattle.tg_append.specs.Appends.{judging, by_append}
use Rattle.tg_append.proofs.append.Append.judge_over.Goals as goal

pub returns-in-Fenced-clause-turn : goal.returns-in-Fenced-clause-turn
returns-in-Fenced-clause-turn c = λ j.
    let p = c.args.proj.now in
    let n = c.args.rids.now.next in
    c.learn.ensures p n (Judging j) ∙ ap (λ e. by_append p n (judge_end (judging c.args.draft c.args.token j) c.args.token (fill_ended e) n)) (sym c.in-Fenced.is)

pub returns-in-Gone-clause-turn : goal.returns-in-Gone-clause-turn
returns-in-Gone-clause-turn c = λ j.
    let p = c.args.proj.now in
    let n = c.args.rids.now.next in
    c.forget.ensures p n
    ∙ ap (λ (t : Token). by_append p n (met_gone c.in-Gone.below (ends n (Forgotten t.pos c.in-Gone.below)))) c.token.view_is
    ∙ ap (λ e. by_append p n (judge_end (judging c.args.draft c.args.token j) c.args.token (fill_ended e) n)) (sym c.in-Gone.is)
