use Rattle.std.proofs.Common.{◌≡◌, ℕ, Bool, ◌&&◌, false, ◌∙◌, sym, ap, subst}
use Rattle.tg_protocol.specs.Requests.{Goes, awaits}
use Rattle.tg_protocol.specs.Cells.{Place, CellJob, CellEnd, cell_asks}
use Rattle.tg_protocol.specs.Trimming.{Reading, CopyTurn, read_end, copy_work_asks}
use Rattle.tg_chain.specs.Turns.{Shown as CellShown, shown as cell_shown, fed}
use Rattle.tg_chain.specs.Ends.{get_end as get_ended}
use Rattle.tg_copy.specs.Turns.{by_copy}
use Rattle.tg_copy.specs.Copies.{getting, copy_fed}
use Rattle.tg_copy.specs.Needs.{reading_needs}
use Rattle.tg_copy.proofs.Frees.{read_frees}
use Rattle.tg_copy.proofs.Jobs.{fed_stays}
use Rattle.tg_copy.proofs.Subs.{read_goes, read_ends}
use Rattle.tg_copy.proofs.Turned.{if_ok_by}
use Rattle.tg_copy.proofs.copy_range.CopyRange.read_feed.Goals as goal

pub invariant_of-reading : goal.invariant_of-reading
invariant_of-reading c =
    let j = c.reading.inside.get in
    let n = c.args.rids.now.next in
    let given = sym (ap (λ t. cell_shown get_ended t c.feed.new.rids.next) c.in-More.is) ∙ c.in_ok-get.ensures.turn in
    let to : (fed j c.args.from c.args.rid c.args.msg.now n).to ≡ Goes c.in-More.get = sym (ap (λ (s : CellShown CellJob CellEnd). s.to) given) in
    ap (λ (a : Place). a.pos) (fed_stays j c.args.from c.args.rid c.args.msg.now n c.in-More.get to) ∙ c.reading.invariant

pub returns-in-More-clause-turn : goal.returns-in-More-clause-turn
returns-in-More-clause-turn c =
    let p = c.args.proj.now in
    let n = c.args.rids.now.next in
    let given = sym (ap (λ t. cell_shown get_ended t c.feed.new.rids.next) c.in-More.is) ∙ c.in_ok-get.ensures.turn in
    read_goes p c.args.join c.reading.inside.get c.in-More.get c.args.from c.args.rid c.args.msg.now n c.feed.new.rids.next c.in-More.outs given
    ∙ ap (λ (j : CellJob). by_copy p n (copy_fed p (getting c.args.join j) c.args.from c.args.rid c.args.msg.now n)) c.reading.view_is

pub returns-clause-turn : goal.returns-clause-turn
returns-clause-turn c =
    let p = c.args.proj.now in
    let n = c.args.rids.now.next in
    let j = c.reading.inside.get in
    let given = sym (ap (λ t. cell_shown get_ended t c.feed.new.rids.next) c.in-End.is) ∙ c.in_ok-get.ensures.turn in
    let over = read_ends p c.args.join j (get_ended c.in-End.end) c.args.from c.args.rid c.args.msg.now n c.feed.new.rids.next c.in-End.outs given in
    if_ok_by c.read_over.result _ _ (λ t h. h (Reading j)
    ∙ ap (λ (k : ℕ). by_copy p n (read_end p (getting c.args.join j) k (get_ended c.in-End.end) n)) (sym c.reading.invariant)
    ∙ sym (ap (λ (x : CopyTurn). by_copy p n x) over)
    ∙ ap (λ (i : CellJob). by_copy p n (copy_fed p (getting c.args.join i) c.args.from c.args.rid c.args.msg.now n)) c.reading.view_is) c.read_over.ensures.turn

pub returns-clause-free : goal.returns-clause-free
unfolding copy_work_asks
returns-clause-free c = λ idle.
    let given = sym (ap (λ t. cell_shown get_ended t c.feed.new.rids.next) c.in-End.is) ∙ c.in_ok-get.ensures.turn in
    let still = subst (λ (j : CellJob). (awaits (cell_asks j) c.args.from c.args.rid && reading_needs c.args.msg.now) ≡ false) (sym c.reading.view_is) idle in
    c.read_over.ensures.free (read_frees c.in-End.end c.reading.inside.get c.args.from c.args.rid c.args.msg.now c.args.rids.now.next c.feed.new.rids.next c.in-End.outs still given)
