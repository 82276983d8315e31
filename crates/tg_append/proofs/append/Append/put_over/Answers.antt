use Rattle.std.proofs.Common.{◌∙◌, sym, ap}
use Rattle.tg_protocol.specs.Requests.{ends, met_gone}
use Rattle.tg_protocol.specs.Appending.{Token, Putting, Forgotten, put_end}
use Rattle.tg_chain.specs.Ends.{put_end as put_ended}
use Rattle.tg_append.specs.Appends.{putting, by_append}
use Rattle.tg_append.proofs.append.Append.put_over.Goals as goal

pub returns-in-Done-clause-turn : goal.returns-in-Done-clause-turn
returns-in-Done-clause-turn c = λ j d.
    let p = c.args.proj.now in
    let n = c.args.rids.now.next in
    c.at.ensures p n ∙ ap (λ e. by_append p n (put_end (putting c.args.draft c.args.token j) c.args.token (put_ended d e) n)) (sym c.in-Done.is)

pub returns-in-Fenced-clause-turn : goal.returns-in-Fenced-clause-turn
returns-in-Fenced-clause-turn c = λ j d.
    let p = c.args.proj.now in
    let n = c.args.rids.now.next in
    c.learn.ensures p n (Putting j) ∙ ap (λ e. by_append p n (put_end (putting c.args.draft c.args.token j) c.args.token (put_ended d e) n)) (sym c.in-Fenced.is)

pub returns-in-Gone-clause-turn : goal.returns-in-Gone-clause-turn
returns-in-Gone-clause-turn c = λ j d.
    let p = c.args.proj.now in
    let n = c.args.rids.now.next in
    c.forget.ensures p n
    ∙ ap (λ (t : Token). by_append p n (met_gone c.in-Gone.below (ends n (Forgotten t.pos c.in-Gone.below)))) c.token-in-Gone.view_is
    ∙ ap (λ e. by_append p n (put_end (putting c.args.draft c.args.token j) c.args.token (put_ended d e) n)) (sym c.in-Gone.is)
