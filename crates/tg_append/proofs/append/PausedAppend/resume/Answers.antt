use Rattle.std.proofs.Common.{◌≡◌, ◌<◌, Some, ◌∙◌, sym, ap, subst}
use Rattle.tg_base.specs.Layouts.{Layout}
use Rattle.tg_entry.specs.declared.entry.Entry.{Entry}
use Rattle.tg_protocol.specs.Cells.{fill_cell, place_in}
use Rattle.tg_protocol.specs.Appending.{Token, AppendTurn, judge_turn}
use Rattle.tg_append.specs.Appends.{Paused, append_at, by_append}
use Rattle.tg_append.proofs.Turned.{if_ok_by, resumed}
use Rattle.tg_append.proofs.append.PausedAppend.resume.Goals as goal

pub returns-else-token-proj-clause-turn : goal.returns-else-token-proj-clause-turn
returns-else-token-proj-clause-turn c =
    let p = c.args.proj.now in
    let n = c.args.rids.now.next in
    let k = c.in-Some.token in
    let token_is : c.args.self.token ≡ Some k = sym (ap (λ (s : Paused). s.token) c.self.view_is) ∙ c.in-Some.is in
    let low : k.pos < p.start = subst (λ (t : Token). t.pos < p.start) c.token.view_is (subst (λ (q : Layout). c.token.inside.pos < q.start) c.proj.view_is c.if-token-proj.false) in
    let draft_is = ap (λ (s : Paused). s.draft) c.self.view_is in
    if_ok_by c.judge.result _ _ (λ t h w. h w
    ∙ ap (λ (d : Entry). by_append p n (judge_turn (append_at d (Some k) w) k (fill_cell (place_in p k.pos) n))) draft_is
    ∙ sym (ap (λ (x : AppendTurn). by_append p n x) (resumed p c.args.self.draft c.args.self.token k w n token_is low))) c.judge.ensures.turn
