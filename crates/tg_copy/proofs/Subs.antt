-- What a step of the read of a cell is to the copy that runs it.
use Rattle.std.proofs.Common.{◌≡◌, ℕ, Bool, true, false, List, [], ◌++◌, refl, sym, ap, ◌∙◌}
use Rattle.tg_base.specs.Layouts.{Layout}
use Rattle.tg_base.specs.declared.change.Join.{Join}
use Rattle.tg_base.specs.declared.ids.NodeId.{NodeId}
use Rattle.tg_base.specs.declared.msg.Msg.{Msg}
use Rattle.tg_base.specs.declared.packet.Out.{Out}
use Rattle.tg_protocol.specs.Requests.{Next, Goes, Learns, Ends, awaits}
use Rattle.tg_protocol.specs.Cells.{CellJob, CellEnd, cell_asks}
use Rattle.tg_protocol.specs.Trimming.{read_of, read_next, read_end, copy_asks, copy_work_asks, copy_feed}
use Rattle.tg_chain.specs.Turns.{Shown as CellShown, by_rules as cell_rules, new_asks as cell_news, fed, fed_if}
use Rattle.tg_copy.specs.Turns.{On, Shown, by_copy}
use Rattle.tg_copy.specs.Copies.{getting, copy_fed, copy_fed_if}
use Rattle.tg_copy.proofs.Cells.{fed_besides, fed_over, same_job}

read_fed_if : (b : Bool) (p : Layout) (s : Join) (j : CellJob) (u : ℕ) (m : Msg) (n : ℕ) →
    copy_fed_if b p (getting s j) u m n ≡ read_of p (getting s j) j (fed_if b j u m n)
unfolding copy_feed
read_fed_if true p s j u m n = refl
read_fed_if false p s j u m n = refl

pub read_fed : (p : Layout) (s : Join) (j : CellJob) (from : NodeId) (rid : ℕ) (m : Msg) (n : ℕ) →
    copy_fed p (getting s j) from rid m n ≡ read_of p (getting s j) j (fed j from rid m n)
unfolding copy_work_asks
read_fed p s j from rid m n = read_fed_if (awaits (cell_asks j) from rid) p s j from.num m n

read_on : (p : Layout) (s : Join) (j k : CellJob) (pos old n : ℕ) (b : List Out) (x : Next CellJob CellEnd) → b ≡ [] → Goes k ≡ x →
    ◌≡◌ {A = Shown} (record { next = n; to = On (getting s k); gone = 0; outs = b ++ cell_news cell_asks old n x }) (by_copy p old (read_next p (getting s j) pos x n))
unfolding copy_work_asks
read_on p s j k pos old n b (Goes l) e g = let same : k ≡ l = same_job k l g in cc
read_on p s j k pos old n b (Learns l) e g = absurd cc
read_on p s j k pos old n b (Ends l) e g = absurd cc

-- a read that goes on
pub read_goes : (p : Layout) (s : Join) (j k : CellJob) (from : NodeId) (rid : ℕ) (m : Msg) (old new : ℕ) (outs : List Out) →
    ◌≡◌ {A = CellShown CellJob CellEnd} (record { next = new; to = Goes k; outs = outs }) (cell_rules cell_asks old (fed j from rid m old)) →
    ◌≡◌ {A = Shown} (record { next = new; to = On (getting s k); gone = 0; outs = outs }) (by_copy p old (copy_fed p (getting s j) from rid m old))
read_goes p s j k from rid m old new outs e =
    let c = fed j from rid m old in
    let next : new ≡ c.next = ap (λ x. x.next) e in
    let to : Goes k ≡ c.to = ap (λ x. x.to) e in
    let sent : outs ≡ c.besides ++ cell_news cell_asks old c.next c.to = ap (λ x. x.outs) e in
    let on = read_on p s j k j.place.pos old c.next c.besides c.to (fed_besides j from rid m old) to in
    ap (λ n. record { next = n; to = On (getting s k); gone = 0; outs = outs }) next
    ∙ ap (λ xs. record { next = c.next; to = On (getting s k); gone = 0; outs = xs }) sent
    ∙ on ∙ ap (by_copy p old) (sym (read_fed p s j from rid m old))

-- a read that has ended
pub read_ends : (p : Layout) (s : Join) (j : CellJob) (e : CellEnd) (from : NodeId) (rid : ℕ) (m : Msg) (old new : ℕ) (outs : List Out) →
    ◌≡◌ {A = CellShown CellJob CellEnd} (record { next = new; to = Ends e; outs = outs }) (cell_rules cell_asks old (fed j from rid m old)) →
    copy_fed p (getting s j) from rid m old ≡ read_end p (getting s j) j.place.pos e old
read_ends p s j e from rid m old new outs h =
    let c = fed j from rid m old in
    let to : c.to ≡ Ends e = sym (ap (λ x. x.to) h) in
    read_fed p s j from rid m old ∙ ap (λ x. read_next p (getting s j) j.place.pos x c.next) to ∙ ap (λ n. read_end p (getting s j) j.place.pos e n) (fed_over j from rid m old e to)
