-- What a step of the machine of a cell is to the append that runs it.
use Rattle.std.proofs.Common.{◌≡◌, ℕ, Bool, true, false, List, [], ◌++◌, refl, sym, ap, ◌∙◌}
use Rattle.tg_base.specs.Layouts.{Layout}
use Rattle.tg_base.specs.declared.ids.NodeId.{NodeId}
use Rattle.tg_base.specs.declared.msg.Msg.{Msg}
use Rattle.tg_base.specs.declared.packet.Out.{Out}
use Rattle.tg_entry.specs.declared.entry.Entry.{Entry}
use Rattle.tg_protocol.specs.Requests.{Next, Goes, Learns, Ends, awaits}
use Rattle.tg_protocol.specs.Cells.{CellJob, CellEnd, cell_asks}
use Rattle.tg_protocol.specs.Appending.{Token, put_turn, put_next, put_end, judge_turn, judge_next, judge_end, append_asks, append_work_asks, append_feed}
use Rattle.tg_chain.specs.Turns.{Shown as CellShown, by_rules as cell_rules, new_asks as cell_news, fed, fed_if}
use Rattle.tg_append.specs.Turns.{On, Shown}
use Rattle.tg_append.specs.Appends.{putting, judging, append_fed, append_fed_if, by_append}
use Rattle.tg_append.proofs.Cells.{fed_besides, fed_over, same_job}

-- ---- puts

put_fed_if : (b : Bool) (p : Layout) (d : Entry) (t : Token) (j : CellJob) (u : ℕ) (m : Msg) (n : ℕ) →
    append_fed_if b p (putting d t j) u m n ≡ put_turn (putting d t j) t (fed_if b j u m n)
unfolding append_feed
put_fed_if true p d t j u m n = refl
put_fed_if false p d t j u m n = refl

pub put_fed : (p : Layout) (d : Entry) (t : Token) (j : CellJob) (from : NodeId) (rid : ℕ) (m : Msg) (n : ℕ) →
    append_fed p (putting d t j) from rid m n ≡ put_turn (putting d t j) t (fed j from rid m n)
unfolding append_work_asks
put_fed p d t j from rid m n = put_fed_if (awaits (cell_asks j) from rid) p d t j from.num m n

put_on : (p : Layout) (d : Entry) (t : Token) (j k : CellJob) (old n : ℕ) (b : List Out) (x : Next CellJob CellEnd) → b ≡ [] → Goes k ≡ x →
    ◌≡◌ {A = Shown _ _ _} (record { next = n; to = On (putting d t k); gone = 0; outs = b ++ cell_news cell_asks old n x }) (by_append p old (put_next (putting d t j) t x n))
unfolding append_work_asks
put_on p d t j k old n b (Goes l) e g = let same : k ≡ l = same_job k l g in cc
put_on p d t j k old n b (Learns l) e g = absurd cc
put_on p d t j k old n b (Ends l) e g = absurd cc

-- a put that goes on
pub put_goes : (p : Layout) (d : Entry) (t : Token) (j k : CellJob) (from : NodeId) (rid : ℕ) (m : Msg) (old new : ℕ) (outs : List Out) →
    ◌≡◌ {A = CellShown CellJob CellEnd} (record { next = new; to = Goes k; outs = outs }) (cell_rules cell_asks old (fed j from rid m old)) →
    ◌≡◌ {A = Shown _ _ _} (record { next = new; to = On (putting d t k); gone = 0; outs = outs }) (by_append p old (append_fed p (putting d t j) from rid m old))
put_goes p d t j k from rid m old new outs e =
    let c = fed j from rid m old in
    let next : new ≡ c.next = ap (λ s. s.next) e in
    let to : Goes k ≡ c.to = ap (λ s. s.to) e in
    let sent : outs ≡ c.besides ++ cell_news cell_asks old c.next c.to = ap (λ s. s.outs) e in
    let on = put_on p d t j k old c.next c.besides c.to (fed_besides j from rid m old) to in
    ap (λ n. record { next = n; to = On (putting d t k); gone = 0; outs = outs }) next
    ∙ ap (λ os. record { next = c.next; to = On (putting d t k); gone = 0; outs = os }) sent
    ∙ on ∙ ap (by_append p old) (sym (put_fed p d t j from rid m old))

-- a put that has ended
pub put_ends : (p : Layout) (d : Entry) (t : Token) (j : CellJob) (e : CellEnd) (from : NodeId) (rid : ℕ) (m : Msg) (old new : ℕ) (outs : List Out) →
    ◌≡◌ {A = CellShown CellJob CellEnd} (record { next = new; to = Ends e; outs = outs }) (cell_rules cell_asks old (fed j from rid m old)) →
    append_fed p (putting d t j) from rid m old ≡ put_end (putting d t j) t e old
put_ends p d t j e from rid m old new outs h =
    let c = fed j from rid m old in
    let to : c.to ≡ Ends e = sym (ap (λ s. s.to) h) in
    put_fed p d t j from rid m old ∙ ap (λ x. put_next (putting d t j) t x c.next) to ∙ ap (λ n. put_end (putting d t j) t e n) (fed_over j from rid m old e to)

-- ---- fills of older tokens

judge_fed_if : (b : Bool) (p : Layout) (d : Entry) (t : Token) (j : CellJob) (u : ℕ) (m : Msg) (n : ℕ) →
    append_fed_if b p (judging d t j) u m n ≡ judge_turn (judging d t j) t (fed_if b j u m n)
unfolding append_feed
judge_fed_if true p d t j u m n = refl
judge_fed_if false p d t j u m n = refl

pub judge_fed : (p : Layout) (d : Entry) (t : Token) (j : CellJob) (from : NodeId) (rid : ℕ) (m : Msg) (n : ℕ) →
    append_fed p (judging d t j) from rid m n ≡ judge_turn (judging d t j) t (fed j from rid m n)
unfolding append_work_asks
judge_fed p d t j from rid m n = judge_fed_if (awaits (cell_asks j) from rid) p d t j from.num m n

judge_on : (p : Layout) (d : Entry) (t : Token) (j k : CellJob) (old n : ℕ) (b : List Out) (x : Next CellJob CellEnd) → b ≡ [] → Goes k ≡ x →
    ◌≡◌ {A = Shown _ _ _} (record { next = n; to = On (judging d t k); gone = 0; outs = b ++ cell_news cell_asks old n x }) (by_append p old (judge_next (judging d t j) t x n))
unfolding append_work_asks
judge_on p d t j k old n b (Goes l) e g = let same : k ≡ l = same_job k l g in cc
judge_on p d t j k old n b (Learns l) e g = absurd cc
judge_on p d t j k old n b (Ends l) e g = absurd cc

-- a judgement that goes on
pub judge_goes : (p : Layout) (d : Entry) (t : Token) (j k : CellJob) (from : NodeId) (rid : ℕ) (m : Msg) (old new : ℕ) (outs : List Out) →
    ◌≡◌ {A = CellShown CellJob CellEnd} (record { next = new; to = Goes k; outs = outs }) (cell_rules cell_asks old (fed j from rid m old)) →
    ◌≡◌ {A = Shown _ _ _} (record { next = new; to = On (judging d t k); gone = 0; outs = outs }) (by_append p old (append_fed p (judging d t j) from rid m old))
judge_goes p d t j k from rid m old new outs e =
    let c = fed j from rid m old in
    let next : new ≡ c.next = ap (λ s. s.next) e in
    let to : Goes k ≡ c.to = ap (λ s. s.to) e in
    let sent : outs ≡ c.besides ++ cell_news cell_asks old c.next c.to = ap (λ s. s.outs) e in
    let on = judge_on p d t j k old c.next c.besides c.to (fed_besides j from rid m old) to in
    ap (λ n. record { next = n; to = On (judging d t k); gone = 0; outs = outs }) next
    ∙ ap (λ os. record { next = c.next; to = On (judging d t k); gone = 0; outs = os }) sent
    ∙ on ∙ ap (by_append p old) (sym (judge_fed p d t j from rid m old))

-- a judgement that has ended
pub judge_ends : (p : Layout) (d : Entry) (t : Token) (j : CellJob) (e : CellEnd) (from : NodeId) (rid : ℕ) (m : Msg) (old new : ℕ) (outs : List Out) →
    ◌≡◌ {A = CellShown CellJob CellEnd} (record { next = new; to = Ends e; outs = outs }) (cell_rules cell_asks old (fed j from rid m old)) →
    append_fed p (judging d t j) from rid m old ≡ judge_end (judging d t j) t e old
judge_ends p d t j e from rid m old new outs h =
    let c = fed j from rid m old in
    let to : c.to ≡ Ends e = sym (ap (λ s. s.to) h) in
    judge_fed p d t j from rid m old ∙ ap (λ x. judge_next (judging d t j) t x c.next) to ∙ ap (λ n. judge_end (judging d t j) t e n) (fed_over j from rid m old e to)
