-- What a step of the machine of a cell is to the walk that runs it.
use Rattle.std.proofs.Common.{◌≡◌, ℕ, ◌+◌, Bool, true, false, ◌&&◌, List, [], ◌++◌, Option, Some, Result, Ok, Err, IfOk, refl, sym, ap, ◌∙◌}
use Rattle.tg_base.specs.Layouts.{Layout}
use Rattle.tg_base.specs.declared.ids.NodeId.{NodeId}
use Rattle.tg_base.specs.declared.msg.Msg.{Msg}
use Rattle.tg_base.specs.declared.packet.Out.{Out}
use Rattle.tg_base.specs.declared.turn.Turn.{Turn as Given}
use Rattle.tg_base.specs.declared.turn.Turn.TheVariants.{More, End}
use Rattle.tg_protocol.specs.Layouts.{chain_of}
use Rattle.tg_protocol.specs.Requests.{Next, Goes, Learns, Ends, awaits}
use Rattle.tg_protocol.specs.Cells.{Place, CellJob, CellEnd, Gets, works, place_in, cell_asks, get_cell}
use Rattle.tg_protocol.specs.Walking.{walk_turn, walk_next, walk_end, walk_feed, reads_turn}
use Rattle.tg_chain.specs.declared.ends.GetCellEnd.{GetCellEnd}
use Rattle.tg_chain.specs.Ends.{get_end}
use Rattle.tg_chain.specs.Turns.{Shown as CellShown, shown as cell_shown, by_rules as cell_rules, new_asks as cell_news, fed, fed_if, needs_memory, drawn_between}
use Rattle.tg_stream.specs.Turns.{by_walk, awaiting}
use Rattle.tg_stream.specs.Walks.{Course, walk_of, walk_fed, walk_fed_if, has_cell}
use Rattle.tg_stream.proofs.CellSteps.{fed_besides, fed_over, fed_place, fed_quiet, same_job}

abbrev place_of : List ℕ → ℕ → ℕ → Place
place_of units epoch q = record { chain = units; epoch = epoch; pos = q }

abbrev pub told : ℕ → Next CellJob CellEnd → List Out → CellShown CellJob CellEnd
told next to outs = record { next = next; to = to; outs = outs }

-- what a call of the cell's machine gives

pub told_more : (t : Given CellJob GetCellEnd) (k : CellJob) (outs : List Out) (new : ℕ) (r : CellShown CellJob CellEnd) → t ≡ More k outs → cell_shown get_end t new ≡ r → told new (Goes k) outs ≡ r
told_more t k outs new r is h = sym (ap (λ (x : Given CellJob GetCellEnd). cell_shown get_end x new) is) ∙ h

pub told_end : (t : Given CellJob GetCellEnd) (e : GetCellEnd) (outs : List Out) (new : ℕ) (r : CellShown CellJob CellEnd) → t ≡ End e outs → cell_shown get_end t new ≡ r → told new (Ends (get_end e)) outs ≡ r
told_end t e outs new r is h = sym (ap (λ (x : Given CellJob GetCellEnd). cell_shown get_end x new) is) ∙ h

pub same_place : (p : Layout) (q epoch : ℕ) (units : List ℕ) → units ≡ chain_of p q → epoch ≡ p.epoch → ◌≡◌ {A = Place} (record { chain = units; epoch = epoch; pos = q }) (place_in p q)
same_place p q epoch units u e =
    ap (λ (us : List ℕ). place_of us epoch q) u ∙ ap (λ n. place_of (chain_of p q) n q) e

pub ok_then : {X Y : Type 0} {P Q : X → Type 0} (r : Result X Y) → IfOk r P → ((x : X) → P x → Q x) → IfOk r Q
ok_then (Ok x) h f = f x h
ok_then (Err e) h f = tt

-- ---- a read begins

begun_next : (a : Place) (old new : ℕ) (to : Next CellJob CellEnd) (outs : List Out) → told new to outs ≡ cell_rules cell_asks old (get_cell a old) → new ≡ old + 1
unfolding get_cell
begun_next a old new to outs e = ap (λ s. s.next) e

begun_to : (a : Place) (old new : ℕ) (to : Next CellJob CellEnd) (outs : List Out) → told new to outs ≡ cell_rules cell_asks old (get_cell a old) → to ≡ Goes (works a (Gets old))
unfolding get_cell
begun_to a old new to outs e = ap (λ s. s.to) e

begun_outs : (a : Place) (old new : ℕ) (to : Next CellJob CellEnd) (outs : List Out) → told new to outs ≡ cell_rules cell_asks old (get_cell a old) →
    outs ≡ drawn_between old (old + 1) (cell_asks (works a (Gets old)))
unfolding get_cell
begun_outs a old new to outs e = ap (λ s. s.outs) e

pub read_place : (a : Place) (k : CellJob) (old new : ℕ) (outs : List Out) → told new (Goes k) outs ≡ cell_rules cell_asks old (get_cell a old) → k.place ≡ a
read_place a k old new outs e = ap (λ (j : CellJob). j.place) (same_job k (works a (Gets old)) (begun_to a old new (Goes k) outs e))

pub read_goes : (s : Course) (a : Place) (k : CellJob) (j : Option CellJob) (old new : ℕ) (outs : List Out) → told new (Goes k) outs ≡ cell_rules cell_asks old (get_cell a old) →
    awaiting (walk_of s (Some k)) new outs ≡ by_walk old (reads_turn (walk_of s j) (get_cell a old))
unfolding get_cell
read_goes s a k j old new outs e =
    let next = begun_next a old new (Goes k) outs e in
    let same = same_job k (works a (Gets old)) (begun_to a old new (Goes k) outs e) in
    let sent = begun_outs a old new (Goes k) outs e in
    ap (λ n. awaiting (walk_of s (Some k)) n outs) next
    ∙ ap (λ os. awaiting (walk_of s (Some k)) (old + 1) os) sent
    ∙ ap (λ (i : CellJob). awaiting (walk_of s (Some i)) (old + 1) (drawn_between old (old + 1) (cell_asks (works a (Gets old))))) same

pub read_ends : (a : Place) (e : CellEnd) (old new : ℕ) (outs : List Out) → told new (Ends e) outs ≡ cell_rules cell_asks old (get_cell a old) → ⊥
read_ends a e old new outs h = let to = begun_to a old new (Ends e) outs h in cc

-- ---- a message comes

job_fed_if : (b : Bool) (p : Layout) (s : Course) (j : CellJob) (u : ℕ) (m : Msg) (n : ℕ) →
    walk_fed_if b p (walk_of s (Some j)) u m n ≡ walk_turn p (walk_of s (Some j)) j.place.pos (fed_if b j u m n)
unfolding walk_feed
job_fed_if true p s j u m n = refl
job_fed_if false p s j u m n = refl

pub job_fed : (p : Layout) (s : Course) (j : CellJob) (from : NodeId) (rid : ℕ) (m : Msg) (n : ℕ) →
    walk_fed p (walk_of s (Some j)) from rid m n ≡ walk_turn p (walk_of s (Some j)) j.place.pos (fed j from rid m n)
job_fed p s j from rid m n = job_fed_if (awaits (cell_asks j) from rid) p s j from.num m n

goes_on : (p : Layout) (s : Course) (j k : CellJob) (old n : ℕ) (b : List Out) (x : Next CellJob CellEnd) → b ≡ [] → Goes k ≡ x →
    awaiting (walk_of s (Some k)) n (b ++ cell_news cell_asks old n x) ≡ by_walk old (walk_next p (walk_of s (Some j)) j.place.pos x n)
goes_on p s j k old n b (Goes l) e g =
    let same : k ≡ l = same_job k l g in
    ap (λ os. awaiting (walk_of s (Some k)) n (os ++ drawn_between old n (cell_asks l))) e
    ∙ ap (λ (i : CellJob). awaiting (walk_of s (Some i)) n (drawn_between old n (cell_asks l))) same
goes_on p s j k old n b (Learns l) e g = absurd cc
goes_on p s j k old n b (Ends l) e g = absurd cc

-- the read goes on
pub feed_goes : (p : Layout) (s : Course) (j k : CellJob) (from : NodeId) (rid : ℕ) (m : Msg) (old new : ℕ) (outs : List Out) →
    told new (Goes k) outs ≡ cell_rules cell_asks old (fed j from rid m old) →
    awaiting (walk_of s (Some k)) new outs ≡ by_walk old (walk_fed p (walk_of s (Some j)) from rid m old)
feed_goes p s j k from rid m old new outs e =
    let c = fed j from rid m old in
    let next : new ≡ c.next = ap (λ s. s.next) e in
    let to : Goes k ≡ c.to = ap (λ s. s.to) e in
    let sent : outs ≡ c.besides ++ cell_news cell_asks old c.next c.to = ap (λ s. s.outs) e in
    ap (λ n. awaiting (walk_of s (Some k)) n outs) next
    ∙ ap (λ os. awaiting (walk_of s (Some k)) c.next os) sent
    ∙ goes_on p s j k old c.next c.besides c.to (fed_besides j from rid m old) to
    ∙ ap (by_walk old) (sym (job_fed p s j from rid m old))

pub feed_place : (j k : CellJob) (from : NodeId) (rid : ℕ) (m : Msg) (old new : ℕ) (outs : List Out) →
    told new (Goes k) outs ≡ cell_rules cell_asks old (fed j from rid m old) → k.place ≡ j.place
feed_place j k from rid m old new outs e = fed_place j from rid m old k (sym (ap (λ s. s.to) e))

-- the read has ended
pub feed_ends : (p : Layout) (s : Course) (j : CellJob) (e : CellEnd) (from : NodeId) (rid : ℕ) (m : Msg) (old new : ℕ) (outs : List Out) →
    told new (Ends e) outs ≡ cell_rules cell_asks old (fed j from rid m old) →
    walk_fed p (walk_of s (Some j)) from rid m old ≡ walk_end p (walk_of s (Some j)) j.place.pos e old
feed_ends p s j e from rid m old new outs h =
    let c = fed j from rid m old in
    let to : c.to ≡ Ends e = sym (ap (λ s. s.to) h) in
    job_fed p s j from rid m old
    ∙ ap (λ x. walk_next p (walk_of s (Some j)) j.place.pos x c.next) to
    ∙ ap (λ n. walk_end p (walk_of s (Some j)) j.place.pos e n) (fed_over j from rid m old e to)

pub feed_quiet : (j : CellJob) (e : CellEnd) (from : NodeId) (rid : ℕ) (m : Msg) (old new : ℕ) (outs : List Out) →
    told new (Ends e) outs ≡ cell_rules cell_asks old (fed j from rid m old) → (awaits (cell_asks j) from rid && needs_memory m) ≡ false → has_cell e ≡ false
feed_quiet j e from rid m old new outs h q = fed_quiet j from rid m old e q (sym (ap (λ s. s.to) h))
