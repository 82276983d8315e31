use Rattle.std.proofs.Common.{◌≡◌, ℕ, ◌+◌, List, ◌∷◌, drop, get_or, ap, sym, ◌∙◌, arith}
use Rattle.tg_protocol.specs.Words.{with_nums}
use Rattle.tg_client_cells.specs.Words.{rises}
use Rattle.tg_client_cells.proofs.Unions.{put_in, rises_put}
use Rattle.std.proofs.lemmas.List.{drop_more, drop_all}
use Rattle.tg_client_cells.proofs.positions.put_listed.Goals as goal

pub loop-pos-preserved : goal.loop-pos-preserved
loop-pos-preserved c =
    let all = c.args.positions.now in
    let i = c.loop-pos.pos-index in
    let pos = get_or all i 0 in
    let front : drop i all ≡ pos ∷ drop (i + 1) all = drop_more all i 0 c.loop-pos-test.true in
    record {
      put = ap (with_nums (drop (i + 1) all)) c.in_ok-put_in.ensures
          ∙ put_in pos (drop (i + 1) all) c.loop-pos.list.items
          ∙ ap (λ (l : List ℕ). with_nums l c.loop-pos.list.items) (sym front)
          ∙ c.loop-pos.invariant.put;
      rises = ap rises c.in_ok-put_in.ensures ∙ rises_put pos c.loop-pos.list.items c.loop-pos.invariant.rises;
    }

pub returns : goal.returns
returns c = sym (ap (λ (l : List ℕ). with_nums l c.loop-pos.list.items) (drop_all c.loop-pos.pos-index c.args.positions.now (omega (arith, c.loop-pos-test.false)))) ∙ c.loop-pos.invariant.put
