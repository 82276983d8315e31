use Rattle.std.proofs.Common.{◌≡◌, ℕ, List, true, Ok, Err, ap, sym, ◌∙◌, arith}
use Rattle.std.specs.Prelude.{insert}
use Rattle.tg_protocol.specs.Words.{with_num}
use Rattle.tg_client_cells.specs.Words.{rises}
use Rattle.tg_client_cells.proofs.Rising.{places, put_same, put_new}
use Rattle.tg_client_cells.proofs.positions.put_in.Goals as goal

pub returns-in-Ok : goal.returns-in-Ok
returns-in-Ok c =
    let same = c.as_slice.ensures.value in
    let up : rises c.as_slice.result.now ≡ true = ap rises same ∙ c.requires in
    sym same
    ∙ put_same c.as_slice.result.now c.args.pos c.in-Ok.field-0 up (places c.as_slice.result.now c.args.pos (Ok c.in-Ok.field-0) up c.in-Ok.ensures.position)
    ∙ ap (with_num c.args.pos) same

pub insert-requires : goal.insert-requires
insert-requires c = omega (arith, c.in-Err.ensures.bound, c.as_slice.ensures.len)

pub returns-in_ok-insert-in-Err : goal.returns-in_ok-insert-in-Err
returns-in_ok-insert-in-Err c =
    let same = c.as_slice.ensures.value in
    let up : rises c.as_slice.result.now ≡ true = ap rises same ∙ c.requires in
    c.in_ok-insert-in-Err.ensures.items
    ∙ ap (λ (l : List ℕ). insert l c.in-Err.at c.args.pos) (sym same)
    ∙ put_new c.as_slice.result.now c.args.pos c.in-Err.at (places c.as_slice.result.now c.args.pos (Err c.in-Err.at) up c.in-Err.ensures.position)
    ∙ ap (with_num c.args.pos) same
