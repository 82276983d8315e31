-- What a turn of the scan's cell makes of a sequencer.
use Rattle.std.proofs.Common.{◌≡◌, ℕ, ◌+◌, ◌&&◌, Bool, true, false, List, [], ◌∷◌, Option, Some, None, refl, arith, subst, sym, ap, ◌∙◌}
use Rattle.std.specs.Prelude.{nat_lt, min}
use Rattle.tg_base.specs.declared.cell.Cell.{Cell}
use Rattle.tg_base.specs.declared.ids.NodeId.{NodeId}
use Rattle.tg_base.specs.declared.msg.Msg.{Msg}
use Rattle.tg_base.specs.declared.packet.Out.{Out}
use Rattle.tg_base.specs.declared.turn.Turn.TheVariants.{More, End}
use Rattle.tg_chain.specs.Ends.{get_end}
use Rattle.tg_chain.specs.Turns.{needs_memory, Shown, shown, by_rules, fed, fed_if, drawn_between}
use Rattle.tg_chain.specs.declared.ends.GetCellEnd.{GetCellEnd}
use Rattle.tg_chain.specs.declared.ends.GetCellEnd.TheVariants as get
use Rattle.tg_protocol.specs.Cells.{Place, CellJob, CellWork, Puts, Gets, Fills, Copies, Probes, CellEnd, Done, Fenced, Gone, CellTurn, cell_asks, work_asks, works, end_if, probe_on, cell_feed, work_feed, fill_cell}
use Rattle.tg_protocol.specs.Requests.{Next, Goes, Learns, Ends, Waits, asked_of, without_wait, awaits, drawn_from}
use Rattle.tg_protocol.specs.Replies.{Reply, reply, IsHeld, IsTaken, IsUnwritten, IsGone, IsFenced, IsWhole, IsMissing}
use Rattle.tg_protocol.specs.Words.{unit_id}
use Rattle.tg_protocol.specs.Sequencers.{SeqrState, SeqrTurn, scan_fed, scan_turn, scan_next, scan_ended, scanning, seqr_asks, sends_new, with_positions, cell_streams}
use Rattle.tg_protocol.specs.Sequencers as rules
use Rattle.tg_seqr.specs.Scans.{all_drawn, is_scan, Turned, next_of, fits, turn_sends, is_quiet, moves_scan}

-- The numbers that a cell's machine draws.

both_true : (a b : Bool) → a ≡ true → b ≡ true → (a && b) ≡ true
both_true a b h k = grind arith

first_true : (a b : Bool) → (a && b) ≡ true → a ≡ true
first_true a b h = grind arith

second_true : (a b : Bool) → (a && b) ≡ true → b ≡ true
second_true a b h = grind arith

pub drawn_same : (k n : ℕ) (outs : List Out) → all_drawn n outs ≡ true → drawn_between k n outs ≡ drawn_from k outs
unfolding drawn_between
drawn_same k n [] h = refl
drawn_same k n (o ∷ os) h = grind (arith, drawn_same k n os)

pub none_new : (k : ℕ) (outs : List Out) → drawn_between k k outs ≡ []
unfolding drawn_between
none_new k [] = refl
none_new k (o ∷ os) = grind (arith, none_new k os)

still_drawn : (k u : ℕ) (m : Msg) (ws : Waits) → all_drawn k (asked_of unit_id m ws) ≡ true → all_drawn k (asked_of unit_id m (without_wait u ws)) ≡ true
still_drawn k u m [] h = refl
still_drawn k u m (w ∷ ws) h = grind (arith, still_drawn k u m ws)

abbrev next_drawn : ℕ → Next CellJob CellEnd → Bool
next_drawn n (Goes j) = all_drawn n (cell_asks j)
next_drawn n (Learns j) = all_drawn n (cell_asks j)
next_drawn n (Ends e) = true

abbrev drawn_then : ℕ → ℕ → Next CellJob CellEnd → Type 0
drawn_then k n (Ends e) = n ≡ k
drawn_then k n _ = Unit {0}

abbrev Draws : CellTurn → Type 0
Draws t = next_drawn t.next t.to ≡ true

puts_draw : (a : Place) (r : ℕ) (d : List ℕ) (i u : ℕ) (x : Reply) (k : ℕ) → all_drawn k (cell_asks (works a (Puts r d i))) ≡ true → Draws (cell_feed (works a (Puts r d i)) u x k)
unfolding cell_feed work_feed work_asks
puts_draw a r d i u x k h = grind arith

gets_draw : (a : Place) (r u : ℕ) (x : Reply) (k : ℕ) → all_drawn k (cell_asks (works a (Gets r))) ≡ true → Draws (cell_feed (works a (Gets r)) u x k)
unfolding cell_feed work_feed fill_cell work_asks
gets_draw a r u x k h = grind arith

fills_draw : (a : Place) (r u : ℕ) (x : Reply) (k : ℕ) → all_drawn k (cell_asks (works a (Fills r))) ≡ true → Draws (cell_feed (works a (Fills r)) u x k)
unfolding cell_feed work_feed work_asks
fills_draw a r u x k h = grind arith

copies_draw : (a : Place) (r : ℕ) (c : Cell) (i u : ℕ) (x : Reply) (k : ℕ) → all_drawn k (cell_asks (works a (Copies r c i))) ≡ true → Draws (cell_feed (works a (Copies r c i)) u x k)
unfolding cell_feed work_feed work_asks
copies_draw a r c i u x k h = grind arith

end_draws : (b : Bool) (j : CellJob) (e : CellEnd) (k : ℕ) → all_drawn k (cell_asks j) ≡ true → Draws (end_if b j k e)
end_draws true j e k h = refl
end_draws false j e k h = h

on_draws : (a : Place) (ws : Waits) (k : ℕ) → all_drawn k (cell_asks (works a (Probes ws))) ≡ true → Draws (probe_on a ws k)
on_draws a [] k h = refl
on_draws a (w ∷ ws) k h = h

fewer_drawn : (a : Place) (ws : Waits) (u k : ℕ) → all_drawn k (cell_asks (works a (Probes ws))) ≡ true → all_drawn k (cell_asks (works a (Probes (without_wait u ws)))) ≡ true
unfolding work_asks
fewer_drawn a ws u k h = still_drawn k u _ ws h

probes_draw : (a : Place) (ws : Waits) (u : ℕ) (x : Reply) (k : ℕ) → all_drawn k (cell_asks (works a (Probes ws))) ≡ true → Draws (cell_feed (works a (Probes ws)) u x k)
unfolding cell_feed work_feed
probes_draw a ws u IsWhole k h = on_draws a (without_wait u ws) k (fewer_drawn a ws u k h)
probes_draw a ws u (IsMissing p) k h = on_draws a (without_wait u ws) k (fewer_drawn a ws u k h)
probes_draw a ws u (IsFenced e) k h = end_draws (nat_lt a.epoch e) (works a (Probes ws)) (Fenced u e) k h
probes_draw a ws u _ k h = h

feed_draws : (a : Place) (w : CellWork) (u : ℕ) (x : Reply) (k : ℕ) → all_drawn k (cell_asks (works a w)) ≡ true → Draws (cell_feed (works a w) u x k)
feed_draws a (Puts r d i) u x k h = puts_draw a r d i u x k h
feed_draws a (Gets r) u x k h = gets_draw a r u x k h
feed_draws a (Fills r) u x k h = fills_draw a r u x k h
feed_draws a (Copies r c i) u x k h = copies_draw a r c i u x k h
feed_draws a (Probes ws) u x k h = probes_draw a ws u x k h

feed_besides : (a : Place) (w : CellWork) (u : ℕ) (x : Reply) (k : ℕ) → (cell_feed (works a w) u x k).besides ≡ []
unfolding cell_feed work_feed fill_cell
feed_besides a w u x k = grind arith

feed_ends : (a : Place) (w : CellWork) (u : ℕ) (x : Reply) (k : ℕ) → drawn_then k (cell_feed (works a w) u x k).next (cell_feed (works a w) u x k).to
unfolding cell_feed work_feed fill_cell
feed_ends a w u x k = grind arith

-- The turn in the words of the rules.

-- the sequencer after the cell's turn, but for its scan
abbrev pub left_with : SeqrState → ℕ → SeqrState
left_with s n = record s { rids = n; scan = None }

pub record Fed (s : SeqrState) (t : Turned) (n : ℕ) (x : SeqrTurn) : Type 0 where
  pub room : fits n s.next s.proj.start t ≡ true
  pub now : scan_next (left_with s n) (next_of t) ≡ x.now
  pub sends : turn_sends (left_with s n) t ≡ x.sends

scan_on_same : (s : SeqrState) (j : Option CellJob) (b : Bool) → rules.scan_on s b ≡ rules.scan_on (record s { scan = j }) b
scan_on_same s j true = refl
scan_on_same s j false = refl

ended_same : (s : SeqrState) (n : ℕ) (e : GetCellEnd) → scan_ended (left_with s n) (get_end e) ≡ scan_ended (record s { rids = n }) (get_end e)
ended_same s n (get.Done c) =
    scan_on_same (record (left_with s n) { next = s.next + 1; lists = with_positions s.next (cell_streams c) s.lists }) s.scan (nat_lt (s.next + 1) s.proj.start)
ended_same s n (get.Fenced u e) = refl
ended_same s n (get.Gone b) = scan_on_same (record (left_with s n) { next = min b s.proj.start }) s.scan (nat_lt (min b s.proj.start) s.proj.start)

-- it goes on
more_is : (s : SeqrState) (k : ℕ) (j : CellJob) → nat_lt s.next s.proj.start ≡ true → all_drawn k (cell_asks j) ≡ true →
    Fed s (More j (drawn_between s.rids k (cell_asks j))) k (sends_new s (scan_next (record s { rids = k }) (Goes j)))
more_is s k j left drawn = record { room = both_true _ _ left drawn; now = refl; sends = drawn_same s.rids k (cell_asks j) drawn }

-- it ends
end_is : (s : SeqrState) (e : GetCellEnd) (outs : List Out) → nat_lt s.next s.proj.start ≡ true →
    Fed s (End e outs) s.rids (sends_new s (scan_next s (Ends (get_end e))))
end_is s e outs left = record { room = left; now = ended_same s s.rids e; sends = ap (λ (r : SeqrState). drawn_from s.rids (seqr_asks r)) (ended_same s s.rids e) }

-- the turn that is shown so
abbrev pub end_back : CellEnd → GetCellEnd
end_back (Done c) = get.Done c
end_back (Fenced u e) = get.Fenced u e
end_back (Gone b) = get.Gone b
end_back _ = get.Gone 0

abbrev pub given_of : Next CellJob CellEnd → List Out → Turned
given_of (Goes j) outs = More j outs
given_of (Learns j) outs = More j outs
given_of (Ends e) outs = End (end_back e) outs

abbrev pub given : Shown CellJob CellEnd → Turned
given z = given_of z.to z.outs

abbrev turn_of : ℕ → List Out → ℕ → Next CellJob CellEnd → CellTurn
turn_of k bs g to = record { next = k; besides = bs; gone = g; to = to }

-- a turn that goes on
from_more : (s : SeqrState) (i : CellJob) (outs : List Out) (n k g : ℕ) (to : Next CellJob CellEnd) → nat_lt s.next s.proj.start ≡ true → next_drawn k to ≡ true →
    shown get_end (More i outs) n ≡ by_rules cell_asks s.rids (turn_of k [] g to) →
    Fed s (More i outs) n (sends_new s (scan_next (record s { rids = k }) to))
from_more s i outs n k g (Goes j) left drawn e =
    subst (λ (z : Shown CellJob CellEnd). Fed s (given z) z.next (sends_new s (scan_next (record s { rids = k }) (Goes j)))) (sym e) (more_is s k j left drawn)
from_more s i outs n k g (Learns j) left drawn e = let h : Goes i ≡ Learns j = ap (λ (z : Shown CellJob CellEnd). z.to) e in absurd cc
from_more s i outs n k g (Ends x) left drawn e = let h : Goes i ≡ Ends x = ap (λ (z : Shown CellJob CellEnd). z.to) e in absurd cc

-- a turn that ends
from_end : (s : SeqrState) (x : GetCellEnd) (outs : List Out) (n k : ℕ) (to : Next CellJob CellEnd) → nat_lt s.next s.proj.start ≡ true → drawn_then s.rids k to →
    n ≡ k → Ends (get_end x) ≡ to → Fed s (End x outs) n (sends_new s (scan_next (record s { rids = k }) to))
from_end s x outs n k to left drawn en et =
    let ek : k ≡ s.rids = subst (λ (t : Next CellJob CellEnd). drawn_then s.rids k t) (sym et) drawn in
    subst (λ (t : Next CellJob CellEnd). Fed s (End x outs) n (sends_new s (scan_next (record s { rids = k }) t))) et
    (subst (λ (m : ℕ). Fed s (End x outs) n (sends_new s (scan_next (record s { rids = m }) (Ends (get_end x))))) (sym ek)
    (subst (λ (m : ℕ). Fed s (End x outs) m (sends_new s (scan_next s (Ends (get_end x))))) (sym (en ∙ ek)) (end_is s x outs left)))

from_turn : (s : SeqrState) (t : Turned) (n k g : ℕ) (bs : List Out) (to : Next CellJob CellEnd) → nat_lt s.next s.proj.start ≡ true → bs ≡ [] → next_drawn k to ≡ true → drawn_then s.rids k to →
    shown get_end t n ≡ by_rules cell_asks s.rids (turn_of k bs g to) →
    Fed s t n (sends_new s (scan_next (record s { rids = k }) to))
from_turn s (More i outs) n k g bs to left none drawn at_end e =
    from_more s i outs n k g to left drawn (e ∙ ap (λ (b : List Out). by_rules cell_asks s.rids (turn_of k b g to)) none)
from_turn s (End x outs) n k g bs to left none drawn at_end e =
    from_end s x outs n k to left at_end (ap (λ (z : Shown CellJob CellEnd). z.next) e) (ap (λ (z : Shown CellJob CellEnd). z.to) e)

-- a message that is passed by leaves all as it is
stays : (s : SeqrState) (j : CellJob) → s.scan ≡ Some j → all_drawn s.rids (cell_asks j) ≡ true → ◌≡◌ {A = SeqrTurn} (sends_new s (scan_next s (Goes j))) (record { now = s; sends = [] })
stays s j is drawn =
    let none : drawn_from s.rids (cell_asks j) ≡ [] = sym (drawn_same s.rids s.rids (cell_asks j) drawn) ∙ none_new s.rids (cell_asks j) in
    λ i. record { now = record s { scan = sym is i }; sends = none i }

by_answer : (b : Bool) (s : SeqrState) (j : CellJob) (u : ℕ) (m : Msg) (t : Turned) (n : ℕ) → s.scan ≡ Some j → nat_lt s.next s.proj.start ≡ true → all_drawn s.rids (cell_asks j) ≡ true →
    shown get_end t n ≡ by_rules cell_asks s.rids (fed_if b j u m s.rids) → Fed s t n (rules.fed_if b s (scan_turn s (cell_feed j u (reply m) s.rids)))
by_answer true s j u m t n is left drawn e =
    let y = cell_feed j u (reply m) s.rids in
    from_turn s t n y.next y.gone y.besides y.to left (feed_besides j.place j.work u (reply m) s.rids) (feed_draws j.place j.work u (reply m) s.rids drawn) (feed_ends j.place j.work u (reply m) s.rids) e
by_answer false s j u m t n is left drawn e =
    subst (Fed s t n) (stays s j is drawn) (from_turn s t n s.rids 0 [] (Goes j) left refl drawn tt e)

pub turn_is : (s : SeqrState) (j : CellJob) (from : NodeId) (rid : ℕ) (m : Msg) (t : Turned) (n : ℕ) → s.scan ≡ Some j → is_scan s.rids s.next s.proj.start (Some j) ≡ true →
    shown get_end t n ≡ by_rules cell_asks s.rids (fed j from rid m s.rids) → Fed s t n (scan_fed s (Some j) from rid m)
turn_is s j from rid m t n is scan e =
    by_answer (awaits (cell_asks j) from rid) s j from.num m t n is (first_true _ _ scan) (second_true _ _ scan) e

-- The step, as the code takes it: the scan's cell is taken out, fed, and its turn taken.

pub record Moved (s z : SeqrState) (t : Turned) (from : NodeId) (rid : ℕ) (m : Msg) : Type 0 where
  pub room : fits z.rids z.next z.proj.start t ≡ true
  pub now : scan_next z (next_of t) ≡ (scan_fed s s.scan from rid m).now
  pub sends : turn_sends z t ≡ (scan_fed s s.scan from rid m).sends

-- `b` is the sequencer without the cell, and `z` with its next number after the turn
pub moved : (s b z : SeqrState) (j : CellJob) (from : NodeId) (rid : ℕ) (m : Msg) (t : Turned) (n k : ℕ) →
    ◌≡◌ {A = SeqrState} b (record s { scan = None }) → s.scan ≡ Some j → is_scan s.rids s.next s.proj.start s.scan ≡ true → k ≡ b.rids →
    shown get_end t n ≡ by_rules cell_asks k (fed j from rid m k) → ◌≡◌ {A = SeqrState} z (record b { rids = n }) → Moved s z t from rid m
moved s b z j from rid m t n k out is room number e after =
    let fit : is_scan s.rids s.next s.proj.start (Some j) ≡ true = subst (λ (x : Option CellJob). is_scan s.rids s.next s.proj.start x ≡ true) is room in
    let own : k ≡ s.rids = number ∙ ap (λ (x : SeqrState). x.rids) out in
    let turn : shown get_end t n ≡ by_rules cell_asks s.rids (fed j from rid m s.rids) = subst (λ (x : ℕ). shown get_end t n ≡ by_rules cell_asks x (fed j from rid m x)) own e in
    let f : Fed s t n (scan_fed s (Some j) from rid m) = turn_is s j from rid m t n is fit turn in
    let left : z ≡ left_with s n = after ∙ ap (λ (x : SeqrState). record x { rids = n }) out in
    record {
      room = subst (λ (x : SeqrState). fits x.rids x.next x.proj.start t ≡ true) (sym left) f.room;
      now = ap (λ (x : SeqrState). scan_next x (next_of t)) left ∙ f.now ∙ ap (λ (x : Option CellJob). (scan_fed s x from rid m).now) (sym is);
      sends = ap (λ (x : SeqrState). turn_sends x t) left ∙ f.sends ∙ ap (λ (x : Option CellJob). (scan_fed s x from rid m).sends) (sym is);
    }

-- What takes no memory.

abbrev next_quiet : Next CellJob CellEnd → Bool
next_quiet (Goes j) = true
next_quiet (Learns j) = true
next_quiet (Ends (Fenced u e)) = true
next_quiet (Ends _) = false

abbrev quiet_reply : Reply → Bool
quiet_reply IsHeld = false
quiet_reply (IsTaken c) = false
quiet_reply IsUnwritten = false
quiet_reply (IsGone b) = false
quiet_reply IsWhole = false
quiet_reply (IsMissing p) = false
quiet_reply _ = true

feed_quiet : (a : Place) (w : CellWork) (u : ℕ) (x : Reply) (k : ℕ) → quiet_reply x ≡ true → next_quiet (cell_feed (works a w) u x k).to ≡ true
unfolding cell_feed work_feed fill_cell
feed_quiet a w u x k h = grind arith

reply_quiet : (m : Msg) → moves_scan m ≡ false → quiet_reply (reply m) ≡ true
unfolding reply
reply_quiet m h = grind arith

turned_quiet : (t : Turned) (n : ℕ) → next_quiet (shown get_end t n).to ≡ true → is_quiet t ≡ true
turned_quiet (More j outs) n h = refl
turned_quiet (End (get.Done c) outs) n h = absurd cc
turned_quiet (End (get.Fenced u e) outs) n h = refl
turned_quiet (End (get.Gone b) outs) n h = absurd cc

fed_quiet : (b : Bool) (j : CellJob) (u : ℕ) (m : Msg) (k : ℕ) → (b && moves_scan m) ≡ false → next_quiet (fed_if b j u m k).to ≡ true
fed_quiet true j u m k h = feed_quiet j.place j.work u (reply m) k (reply_quiet m h)
fed_quiet false j u m k h = refl

pub quiet_turn : (j : CellJob) (from : NodeId) (rid : ℕ) (m : Msg) (t : Turned) (n k : ℕ) → (awaits (cell_asks j) from rid && moves_scan m) ≡ false →
    shown get_end t n ≡ by_rules cell_asks k (fed j from rid m k) → is_quiet t ≡ true
quiet_turn j from rid m t n k h e =
    turned_quiet t n (ap (λ (z : Shown CellJob CellEnd). next_quiet z.to) e ∙ fed_quiet (awaits (cell_asks j) from rid) j from.num m k h)

moves_more : (m : Msg) → moves_scan m ≡ false → needs_memory m ≡ false
moves_more m h = grind arith

pub quiet_feed : (b : Bool) (m : Msg) → (b && moves_scan m) ≡ false → (b && needs_memory m) ≡ false
quiet_feed true m h = moves_more m h
quiet_feed false m h = refl
