-- What a step of the machine of a cell is to the sync that runs it.
use Rattle.std.proofs.Common.{◌≡◌, ℕ, Bool, true, false, List, [], ◌++◌, refl, sym, ap, ◌∙◌}
use Rattle.tg_base.specs.Layouts.{Layout}
use Rattle.tg_base.specs.declared.ids.NodeId.{NodeId}
use Rattle.tg_base.specs.declared.ids.Oid.{Oid}
use Rattle.tg_base.specs.declared.msg.Msg.{Msg}
use Rattle.tg_base.specs.declared.packet.Out.{Out}
use Rattle.tg_protocol.specs.Requests.{Next, Goes, Learns, Ends, awaits}
use Rattle.tg_protocol.specs.Cells.{CellJob, CellEnd, cell_asks}
use Rattle.tg_protocol.specs.Syncing.{Answer, settle_turn, settle_next, settle_end, probe_turn, probe_next, probe_end, sync_asks, sync_work_asks, sync_feed}
use Rattle.tg_chain.specs.Turns.{Shown as CellShown, by_rules as cell_rules, new_asks as cell_news, fed, fed_if}
use Rattle.tg_append.specs.Turns.{On, Shown}
use Rattle.tg_append.specs.Syncs.{settling, probing, sync_fed, sync_fed_if, by_sync}
use Rattle.tg_append.proofs.Cells.{fed_besides, fed_over, same_job}

-- ---- fills

settle_fed_if : (b : Bool) (p : Layout) (os : List Oid) (a : Answer) (j : CellJob) (u : ℕ) (m : Msg) (n : ℕ) →
    sync_fed_if b p (settling os a j) u m n ≡ settle_turn p (settling os a j) a (fed_if b j u m n)
unfolding sync_feed
settle_fed_if true p os a j u m n = refl
settle_fed_if false p os a j u m n = refl

pub settle_fed : (p : Layout) (os : List Oid) (a : Answer) (j : CellJob) (from : NodeId) (rid : ℕ) (m : Msg) (n : ℕ) →
    sync_fed p (settling os a j) from rid m n ≡ settle_turn p (settling os a j) a (fed j from rid m n)
unfolding sync_work_asks
settle_fed p os a j from rid m n = settle_fed_if (awaits (cell_asks j) from rid) p os a j from.num m n

settle_on : (p : Layout) (os : List Oid) (a : Answer) (j k : CellJob) (old n : ℕ) (b : List Out) (x : Next CellJob CellEnd) → b ≡ [] → Goes k ≡ x →
    ◌≡◌ {A = Shown _ _ _} (record { next = n; to = On (settling os a k); gone = 0; outs = b ++ cell_news cell_asks old n x }) (by_sync p old (settle_next p (settling os a j) a x n))
unfolding sync_work_asks
settle_on p os a j k old n b (Goes l) e g = let same : k ≡ l = same_job k l g in cc
settle_on p os a j k old n b (Learns l) e g = absurd cc
settle_on p os a j k old n b (Ends l) e g = absurd cc

-- a fill that goes on
pub settle_goes : (p : Layout) (os : List Oid) (a : Answer) (j k : CellJob) (from : NodeId) (rid : ℕ) (m : Msg) (old new : ℕ) (outs : List Out) →
    ◌≡◌ {A = CellShown CellJob CellEnd} (record { next = new; to = Goes k; outs = outs }) (cell_rules cell_asks old (fed j from rid m old)) →
    ◌≡◌ {A = Shown _ _ _} (record { next = new; to = On (settling os a k); gone = 0; outs = outs }) (by_sync p old (sync_fed p (settling os a j) from rid m old))
settle_goes p os a j k from rid m old new outs e =
    let c = fed j from rid m old in
    let next : new ≡ c.next = ap (λ s. s.next) e in
    let to : Goes k ≡ c.to = ap (λ s. s.to) e in
    let sent : outs ≡ c.besides ++ cell_news cell_asks old c.next c.to = ap (λ s. s.outs) e in
    let on = settle_on p os a j k old c.next c.besides c.to (fed_besides j from rid m old) to in
    ap (λ n. record { next = n; to = On (settling os a k); gone = 0; outs = outs }) next
    ∙ ap (λ xs. record { next = c.next; to = On (settling os a k); gone = 0; outs = xs }) sent
    ∙ on ∙ ap (by_sync p old) (sym (settle_fed p os a j from rid m old))

-- a fill that has ended
pub settle_ends : (p : Layout) (os : List Oid) (a : Answer) (j : CellJob) (e : CellEnd) (from : NodeId) (rid : ℕ) (m : Msg) (old new : ℕ) (outs : List Out) →
    ◌≡◌ {A = CellShown CellJob CellEnd} (record { next = new; to = Ends e; outs = outs }) (cell_rules cell_asks old (fed j from rid m old)) →
    sync_fed p (settling os a j) from rid m old ≡ settle_end p (settling os a j) a e old
settle_ends p os a j e from rid m old new outs h =
    let c = fed j from rid m old in
    let to : c.to ≡ Ends e = sym (ap (λ s. s.to) h) in
    settle_fed p os a j from rid m old ∙ ap (λ x. settle_next p (settling os a j) a x c.next) to ∙ ap (λ n. settle_end p (settling os a j) a e n) (fed_over j from rid m old e to)

-- ---- probes

probe_fed_if : (b : Bool) (p : Layout) (os : List Oid) (a : Answer) (j : CellJob) (u : ℕ) (m : Msg) (n : ℕ) →
    sync_fed_if b p (probing os a j) u m n ≡ probe_turn (probing os a j) a (fed_if b j u m n)
unfolding sync_feed
probe_fed_if true p os a j u m n = refl
probe_fed_if false p os a j u m n = refl

pub probe_fed : (p : Layout) (os : List Oid) (a : Answer) (j : CellJob) (from : NodeId) (rid : ℕ) (m : Msg) (n : ℕ) →
    sync_fed p (probing os a j) from rid m n ≡ probe_turn (probing os a j) a (fed j from rid m n)
unfolding sync_work_asks
probe_fed p os a j from rid m n = probe_fed_if (awaits (cell_asks j) from rid) p os a j from.num m n

probe_on : (p : Layout) (os : List Oid) (a : Answer) (j k : CellJob) (old n : ℕ) (b : List Out) (x : Next CellJob CellEnd) → b ≡ [] → Goes k ≡ x →
    ◌≡◌ {A = Shown _ _ _} (record { next = n; to = On (probing os a k); gone = 0; outs = b ++ cell_news cell_asks old n x }) (by_sync p old (probe_next (probing os a j) a x n))
unfolding sync_work_asks
probe_on p os a j k old n b (Goes l) e g = let same : k ≡ l = same_job k l g in cc
probe_on p os a j k old n b (Learns l) e g = absurd cc
probe_on p os a j k old n b (Ends l) e g = absurd cc

-- a probe that goes on
pub probe_goes : (p : Layout) (os : List Oid) (a : Answer) (j k : CellJob) (from : NodeId) (rid : ℕ) (m : Msg) (old new : ℕ) (outs : List Out) →
    ◌≡◌ {A = CellShown CellJob CellEnd} (record { next = new; to = Goes k; outs = outs }) (cell_rules cell_asks old (fed j from rid m old)) →
    ◌≡◌ {A = Shown _ _ _} (record { next = new; to = On (probing os a k); gone = 0; outs = outs }) (by_sync p old (sync_fed p (probing os a j) from rid m old))
probe_goes p os a j k from rid m old new outs e =
    let c = fed j from rid m old in
    let next : new ≡ c.next = ap (λ s. s.next) e in
    let to : Goes k ≡ c.to = ap (λ s. s.to) e in
    let sent : outs ≡ c.besides ++ cell_news cell_asks old c.next c.to = ap (λ s. s.outs) e in
    let on = probe_on p os a j k old c.next c.besides c.to (fed_besides j from rid m old) to in
    ap (λ n. record { next = n; to = On (probing os a k); gone = 0; outs = outs }) next
    ∙ ap (λ xs. record { next = c.next; to = On (probing os a k); gone = 0; outs = xs }) sent
    ∙ on ∙ ap (by_sync p old) (sym (probe_fed p os a j from rid m old))

-- a probe that has ended
pub probe_ends : (p : Layout) (os : List Oid) (a : Answer) (j : CellJob) (e : CellEnd) (from : NodeId) (rid : ℕ) (m : Msg) (old new : ℕ) (outs : List Out) →
    ◌≡◌ {A = CellShown CellJob CellEnd} (record { next = new; to = Ends e; outs = outs }) (cell_rules cell_asks old (fed j from rid m old)) →
    sync_fed p (probing os a j) from rid m old ≡ probe_end (probing os a j) a e old
probe_ends p os a j e from rid m old new outs h =
    let c = fed j from rid m old in
    let to : c.to ≡ Ends e = sym (ap (λ s. s.to) h) in
    probe_fed p os a j from rid m old ∙ ap (λ x. probe_next (probing os a j) a x c.next) to ∙ ap (λ n. probe_end (probing os a j) a e n) (fed_over j from rid m old e to)
