-- What each step of a machine is.
use Rattle.std.proofs.Common.{◌≡◌, ℕ, ◌+◌, ◌≤◌, Bool, true, false, List, [], ◌∷◌, refl, arith}
use Rattle.tg_base.specs.declared.packet.Packet.{Packet}
use Rattle.tg_base.specs.declared.msg.Msg.{Msg}
use Rattle.tg_protocol.specs.Requests.{Next, Goes, Learns, Ends, awaits}
use Rattle.tg_protocol.specs.Replies.{Reply, reply}
use Rattle.tg_protocol.specs.Cells.{Place, CellJob, CellWork, CellEnd, cell_asks, works, cell_feed, work_feed, fill_cell}
use Rattle.tg_chain.specs.Turns.{fed_if}
use Rattle.tg_chain.specs.Laws.{EndsBy, EndsByAnswers, left, left_then, StepsAreFew, fed_next, fed_all, RequestsAreFew}

-- Requests to come.

work_few : (a : Place) (w : CellWork) (u : ℕ) (x : Reply) (next : ℕ) →
    (cell_feed (works a w) u x next).next + left_then (cell_feed (works a w) u x next).to ≤ next + left (works a w)
unfolding cell_feed work_feed fill_cell
work_few a w u x next = grind arith

if_few : (b : Bool) (j : CellJob) (u : ℕ) (m : Msg) (next : ℕ) →
    (fed_if b j u m next).next + left_then (fed_if b j u m next).to ≤ next + left j
if_few true j u m next = work_few j.place j.work u (reply m) next
if_few false j u m next = omega arith

pub steps_are_few : StepsAreFew
steps_are_few j from rid m next = if_few (awaits (cell_asks j) from rid) j from.num m next

next_few : (x : Next CellJob CellEnd) (p : Packet) (next : ℕ) →
    (fed_next x p next).next + left_then (fed_next x p next).to ≤ next + left_then x
next_few (Goes j) p next = steps_are_few j p.from p.rid p.msg next
next_few (Learns j) p next = omega arith
next_few (Ends e) p next = omega arith

all_few : (x : Next CellJob CellEnd) (ps : List Packet) (next : ℕ) → (fed_all x ps next).next ≤ next + left_then x
unfolding fed_all
all_few x [] next = omega arith
all_few x (p ∷ ps) next =
    let one : (fed_next x p next).next + left_then (fed_next x p next).to ≤ next + left_then x = next_few x p next in
    let rest : (fed_all (fed_next x p next).to ps (fed_next x p next).next).next ≤ (fed_next x p next).next + left_then (fed_next x p next).to = all_few (fed_next x p next).to ps (fed_next x p next).next in
    omega (arith, one, rest)

pub requests_are_few : RequestsAreFew
requests_are_few j ps next = all_few (Goes j) ps next

-- Ends.

work_ends : (a : Place) (w : CellWork) (u : ℕ) (x : Reply) (next : ℕ) (e : CellEnd) →
    (cell_feed (works a w) u x next).to ≡ Ends e → EndsBy (works a w) u x e
unfolding cell_feed work_feed fill_cell
work_ends a w u x next e h = grind arith

if_ends : (b : Bool) (j : CellJob) (u : ℕ) (m : Msg) (next : ℕ) (e : CellEnd) →
    (fed_if b j u m next).to ≡ Ends e → (b ≡ true) × EndsBy j u (reply m) e
if_ends true j u m next e h = (refl, work_ends j.place j.work u (reply m) next e h)
if_ends false j u m next e h = absurd cc

pub ends_by_answers : EndsByAnswers
ends_by_answers j from rid m next e h = if_ends (awaits (cell_asks j) from rid) j from.num m next e h
