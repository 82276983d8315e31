use Rattle.std.proofs.Common.{◌≡◌, ℕ, List, true, ap, ◌∙◌}
use Rattle.tg_protocol.specs.Words.{with_nums}
use Rattle.tg_client_cells.specs.Words.{rises, within}
use Rattle.tg_client_cells.proofs.Unions.{rises_union}
use Rattle.tg_client_cells.proofs.Rising.{rises_within}
use Rattle.tg_client_cells.proofs.positions.Positions.put_within.Goals as goal

pub united-requires-clause-others : goal.united-requires-clause-others
united-requires-clause-others c =
    let up : rises c.as_slice.result.now ≡ true = ap rises c.as_slice.ensures.value ∙ c.others.invariant in
    ap rises c.range_of.ensures ∙ rises_within c.args.low c.args.high c.as_slice.result.now up

pub invariant_of-result : goal.invariant_of-result
invariant_of-result c = ap rises c.in_ok-list.ensures ∙ rises_union c.range_of.result.now c.self.inside.list.items c.self.invariant

pub returns : goal.returns
returns c =
    let others : c.range_of.result.now ≡ within c.args.low c.args.high c.args.others.now =
    c.range_of.ensures ∙ ap (within c.args.low c.args.high) (c.as_slice.ensures.value ∙ c.others.view_is) in
    c.in_ok-list.ensures
    ∙ ap (λ (l : List ℕ). with_nums l c.self.inside.list.items) others
    ∙ ap (with_nums (within c.args.low c.args.high c.args.others.now)) c.self.view_is
