-- One event of a world is the step of one node.
use Rattle.std.proofs.Common.{◌≡◌, ◌≢◌, ◌∙◌, ◌&&◌, ◌==◌, ◌+◌, ◌<◌, ℕ, Bool, true, false, List, [], ◌∷◌, ◌++◌, map, length, refl, sym, ap, subst, Option, Some, None, append-nil}
use Rattle.std.specs.Prelude.{slice_get, is_some}
use Rattle.std.specs.List.{slice_set}
use Rattle.std.proofs.lemmas.List.{map-append, get_or-set_same, get_or-set_other, length-set}
use Rattle.std.proofs.lemmas.Bool.{eq-eqb, ltb-true}
use Rattle.tg_base.specs.declared.ids.NodeId.{NodeId}
use Rattle.tg_base.specs.declared.ids.Role.{Role}
use Rattle.tg_base.specs.declared.ids.Role.TheVariants as role
use Rattle.tg_base.specs.declared.msg.Msg.{Msg}
use Rattle.tg_base.specs.declared.packet.Packet.{Packet}
use Rattle.tg_kind.specs.Meaning.{Meaning}
use Rattle.tg_model.specs.Kinds.{CommandOf, NoteOf}
use Rattle.tg_model.specs.declared.command.Event.TheVariants.{Command as Commands, Deliver, Tick}
use Rattle.tg_base.specs.Orders.{node_eq}
use Rattle.tg_protocol.specs.Words.{unit_id, layout_id, seqr_id, client_id}
use Rattle.tg_protocol.specs.Logs.{Log}
use Rattle.tg_protocol.specs.Units.{UnitTurn, unit_step}
use Rattle.tg_protocol.specs.LayoutServers.{LayoutTurn, layout_step}
use Rattle.tg_protocol.specs.Sequencers.{SeqrTurn, seqr_step, seqr_tick}
use Rattle.tg_protocol.specs.ClientSteps.{ClientTurn, client_command, client_deliver, client_tick}
use Rattle.tg_protocol.specs.Worlds.{World, Told, CommandStart, count_of, answer_to as answers_to, client, client_turned, comes, commands, counted, delivers, handed, happens, layout, layout_moves, mark_of, moves, noted_if, packet_of, runs, sends, seqr, seqr_moves, seqr_turned, ticks, ticks_if, unit, unit_moved, unit_moves}
use Rattle.tg_node_state.specs.Nodes.{NodeTurn, UnitNode, LayoutNode, SeqrNode, ClientNode, answer_to, client_turn, layout_turn, node_step, node_takes, node_ticks, seqr_turn, still, unit_turn}
use Rattle.tg_node_state.specs.declared.input.Input.TheVariants as input
use Rattle.tg_law_programs.specs.Sessions.Sessions.{Said, node_at, node_in, said_by, said_in, says_of, sends_of}

-- the node n of a world has taken this turn, and all else stays
pub record Turned (m : Meaning) (w v : World m) (n : NodeId) (t : NodeTurn m) : Type 0 where
  pub cluster : v.cluster ≡ w.cluster
  pub units : length v.units ≡ length w.units
  pub layouts : length v.layouts ≡ length w.layouts
  pub seqrs : length v.seqrs ≡ length w.seqrs
  pub clients : length v.clients ≡ length w.clients
  pub stopped : v.stopped ≡ w.stopped
  pub packets : v.packets ≡ w.packets ++ sends_of m n t
  pub replies : said_in m v ≡ said_in m w ++ says_of m n t
  pub now : node_in m v n ≡ t.now
  pub others : (k : NodeId) → node_eq k n ≡ false → node_in m v k ≡ node_in m w k

-- a number other than another
apart : (a b : ℕ) → (a == b) ≡ false → a ≢ b
apart a b e same =
    let clash : true ≡ false = sym (eq-eqb a b same) ∙ e in
    absurd cc

-- what a unit answers is what it sends
answers : (m : Meaning) (n : NodeId) (p : Packet) (o : Option Msg) → p.to ≡ n → answers_to m p o ≡ map (packet_of m n) (answer_to p.from p.rid o)
answers m n p None to = refl
answers m n p (Some x) to = ap (λ (k : NodeId). record { from = k; to = p.from; rid = p.rid; msg = x } ∷ []) to

unit_turned : (m : Meaning) (w : World m) (n : ℕ) (p : Packet) (t : UnitTurn) (archive : Log) → p.to ≡ unit_id n → n < length w.units
    → Turned m w (unit_moved m w n p t archive) (unit_id n) (unit_turn m p t)
unfolding node_eq
unit_turned m w n p t archive to lt = record {
  cluster = refl;
  units = length-set w.units n t.now;
  layouts = refl;
  seqrs = refl;
  clients = refl;
  stopped = refl;
  packets = ap (λ (ps : List Packet). w.packets ++ ps) (answers m (unit_id n) p t.says to);
  replies = sym (append-nil _);
  now = ap UnitNode (get_or-set_same w.units n t.now _ lt);
  others = λ k other. others k.role k.num other;
}
  where
    others : (r : Role) (k : ℕ) → node_eq (record { role = r; num = k }) (unit_id n) ≡ false → node_at m (unit_moved m w n p t archive) r k ≡ node_at m w r k
    others role.Unit k other = ap UnitNode (get_or-set_other w.units n k t.now _ (apart k n other))
    others role.Layout k other = refl
    others role.Seqr k other = refl
    others role.Client k other = refl

abbrev layout_moved : (m : Meaning) → World m → ℕ → Packet → LayoutTurn → World m
layout_moved m w n p t = sends m (record w { layouts = slice_set w.layouts n t.now }) (answers_to m p t.says)

layout_turned : (m : Meaning) (w : World m) (n : ℕ) (p : Packet) (t : LayoutTurn) → p.to ≡ layout_id n → n < length w.layouts
    → Turned m w (layout_moved m w n p t) (layout_id n) (layout_turn m p t)
unfolding node_eq
layout_turned m w n p t to lt = record {
  cluster = refl;
  units = refl;
  layouts = length-set w.layouts n t.now;
  seqrs = refl;
  clients = refl;
  stopped = refl;
  packets = ap (λ (ps : List Packet). w.packets ++ ps) (answers m (layout_id n) p t.says to);
  replies = sym (append-nil _);
  now = ap LayoutNode (get_or-set_same w.layouts n t.now _ lt);
  others = λ k other. others k.role k.num other;
}
  where
    others : (r : Role) (k : ℕ) → node_eq (record { role = r; num = k }) (layout_id n) ≡ false → node_at m (layout_moved m w n p t) r k ≡ node_at m w r k
    others role.Unit k other = refl
    others role.Layout k other = ap LayoutNode (get_or-set_other w.layouts n k t.now _ (apart k n other))
    others role.Seqr k other = refl
    others role.Client k other = refl

seqr_turns : (m : Meaning) (w : World m) (n : ℕ) (t : SeqrTurn) → n < length w.seqrs → Turned m w (seqr_turned m w n t) (seqr_id n) (seqr_turn m t)
unfolding node_eq
seqr_turns m w n t lt = record {
  cluster = refl;
  units = refl;
  layouts = refl;
  seqrs = length-set w.seqrs n t.now;
  clients = refl;
  stopped = refl;
  packets = refl;
  replies = sym (append-nil _);
  now = ap SeqrNode (get_or-set_same w.seqrs n t.now _ lt);
  others = λ k other. others k.role k.num other;
}
  where
    others : (r : Role) (k : ℕ) → node_eq (record { role = r; num = k }) (seqr_id n) ≡ false → node_at m (seqr_turned m w n t) r k ≡ node_at m w r k
    others role.Unit k other = refl
    others role.Layout k other = refl
    others role.Seqr k other = ap SeqrNode (get_or-set_other w.seqrs n k t.now _ (apart k n other))
    others role.Client k other = refl

abbrev said_of : (m : Meaning) → Told m → Said m
said_of m t = record { node = client_id t.mark.client; tx = t.mark.tx; what = t.mark.what }

marks_say : (m : Meaning) (w : World m) (n : ℕ) (xs : List (NoteOf m)) → map (said_of m) (map (mark_of m w n) xs) ≡ map (said_by m (client_id n)) xs
marks_say m w n [] = refl
marks_say m w n (x ∷ xs) = ap (λ (ss : List (Said m)). said_by m (client_id n) x ∷ ss) (marks_say m w n xs)

client_turns : (m : Meaning) (w : World m) (n : ℕ) (t : ClientTurn m) → n < length w.clients → Turned m w (client_turned m w n t) (client_id n) (client_turn m t)
unfolding node_eq client_turned
client_turns m w n t lt = record {
  cluster = refl;
  units = refl;
  layouts = refl;
  seqrs = refl;
  clients = length-set w.clients n t.now;
  stopped = refl;
  packets = refl;
  replies = map-append (said_of m) w.told (map (mark_of m w n) t.notes) ∙ ap (λ (ss : List (Said m)). said_in m w ++ ss) (marks_say m w n t.notes);
  now = ap ClientNode (get_or-set_same w.clients n t.now _ lt);
  others = λ k other. others k.role k.num other;
}
  where
    others : (r : Role) (k : ℕ) → node_eq (record { role = r; num = k }) (client_id n) ≡ false → node_at m (client_turned m w n t) r k ≡ node_at m w r k
    others role.Unit k other = refl
    others role.Layout k other = refl
    others role.Seqr k other = refl
    others role.Client k other = ap ClientNode (get_or-set_other w.clients n k t.now _ (apart k n other))

turned_still : (m : Meaning) (w : World m) (n : NodeId) → Turned m w w n (still m (node_in m w n))
turned_still m w n = record {
  cluster = refl;
  units = refl;
  layouts = refl;
  seqrs = refl;
  clients = refl;
  stopped = refl;
  packets = sym (append-nil w.packets);
  replies = sym (append-nil _);
  now = refl;
  others = λ k other. refl;
}

-- what waits, what was delivered, what was noted of a client, and the count of steps don't matter
around : (m : Meaning) (w v : World m) (n : NodeId) (t : NodeTurn m) (waiting delivered : List ℕ) (noted : List CommandStart) (steps : ℕ)
    → Turned m (record w { waiting = waiting; delivered = delivered; noted = noted }) v n t → Turned m w (record v { steps = steps }) n t
around m w v n t waiting delivered noted steps h = record {
  cluster = h.cluster;
  units = h.units;
  layouts = h.layouts;
  seqrs = h.seqrs;
  clients = h.clients;
  stopped = h.stopped;
  packets = h.packets;
  replies = h.replies;
  now = h.now;
  others = h.others;
}

-- ---- a node that runs

both_true : (a b : Bool) → (a && b) ≡ true → a ≡ true
both_true true b e = refl
both_true false b e = e

runs_within : (m : Meaning) (w : World m) (n : NodeId) → runs m w n ≡ true → n.num < count_of m w n.role
runs_within m w n e = ltb-true _ _ (both_true _ _ e)

-- a tick
ticked : (m : Meaning) (w : World m) (r : Role) (k : ℕ) → k < count_of m w r → Turned m w (ticks m w k r) (record { role = r; num = k }) (node_ticks m (node_at m w r k))
ticked m w role.Unit k lt = turned_still m w (unit_id k)
ticked m w role.Layout k lt = turned_still m w (layout_id k)
ticked m w role.Seqr k lt = seqr_turns m w k (seqr_tick (seqr m w k)) lt
ticked m w role.Client k lt = client_turns m w k (client_tick m (client m w k)) lt

pub tick_turns : (m : Meaning) (w : World m) (n : NodeId) → runs m w n ≡ true → Turned m w (happens m w (Tick n)) n (node_step m (node_in m w n) input.Tick)
unfolding happens node_step
tick_turns m w n ran =
    let v : World m = ticks m w n.num n.role in
    let h : Turned m w (counted m v) n (node_ticks m (node_in m w n)) =
    around m w v n (node_ticks m (node_in m w n)) w.waiting w.delivered w.noted (v.steps + 1) (ticked m w n.role n.num (runs_within m w n ran)) in
    subst (λ (b : Bool). Turned m w (counted m (ticks_if m b w n)) n (node_ticks m (node_in m w n))) (sym ran) h

-- a packet
taken : (m : Meaning) (w : World m) (p : Packet) (r : Role) → p.to ≡ record { role = r; num = p.to.num } → p.to.num < count_of m w r
    → Turned m w (moves m w p r) (record { role = r; num = p.to.num }) (node_takes m (node_at m w r p.to.num) p)
unfolding unit_moves layout_moves seqr_moves
taken m w p role.Unit to lt = unit_turned m w p.to.num p (unit_step (unit m w p.to.num) p.msg) _ to lt
taken m w p role.Layout to lt = layout_turned m w p.to.num p (layout_step (layout m w p.to.num) p.msg) to lt
taken m w p role.Seqr to lt = seqr_turns m w p.to.num (seqr_step (seqr m w p.to.num) p.from p.rid p.msg) lt
taken m w p role.Client to lt = client_turns m w p.to.num (client_deliver m (client m w p.to.num) p.from p.rid p.msg) lt

packet_comes : (m : Meaning) (w : World m) (p : Packet) (i : ℕ) → runs m w p.to ≡ true → slice_get w.packets i ≡ Some p
    → Turned m w (happens m w (Deliver i)) p.to (node_step m (node_in m w p.to) (input.Packet p))
unfolding happens node_step
packet_comes m w p i ran here =
    let u : World m = handed m w i in
    let v : World m = moves m u p p.to.role in
    let t : NodeTurn m = node_takes m (node_in m w p.to) p in
    let h : Turned m w (counted m v) p.to t = around m w v p.to t u.waiting u.delivered w.noted (v.steps + 1) (taken m u p p.to.role refl (runs_within m w p.to ran)) in
    let comes : Turned m w (counted m (comes m (runs m w p.to) u p)) p.to t = subst (λ (b : Bool). Turned m w (counted m (comes m b u p)) p.to t) (sym ran) h in
    subst (λ (o : Option Packet). Turned m w (counted m (delivers m w i o)) p.to t) (sym here) comes

pub packet_turns : (m : Meaning) (w : World m) (n : NodeId) (p : Packet) (i : ℕ) → runs m w n ≡ true → p.to ≡ n → slice_get w.packets i ≡ Some p
    → Turned m w (happens m w (Deliver i)) n (node_step m (node_in m w n) (input.Packet p))
packet_turns m w n p i ran to here =
    subst (λ (k : NodeId). Turned m w (happens m w (Deliver i)) k (node_step m (node_in m w k) (input.Packet p))) to
    (packet_comes m w p i (ap (runs m w) to ∙ ran) here)

-- a command
commanded : (m : Meaning) (w : World m) (k : ℕ) (x : CommandOf m) (b : Bool) → k < length w.clients
    → Turned m w (counted m (client_turned m (noted_if m b w k (client m w k)) k (client_command m (client m w k) x))) (client_id k) (client_turn m (client_command m (client m w k) x))
commanded m w k x true lt =
    let t = client_command m (client m w k) x in
    let v : World m = client_turned m w k t in
    around m w v (client_id k) (client_turn m t) w.waiting w.delivered w.noted (v.steps + 1) (client_turns m w k t lt)
commanded m w k x false lt =
    let t = client_command m (client m w k) x in
    let u : World m = noted_if m false w k (client m w k) in
    let v : World m = client_turned m u k t in
    around m w v (client_id k) (client_turn m t) w.waiting w.delivered u.noted (v.steps + 1) (client_turns m u k t lt)

client_commanded : (m : Meaning) (w : World m) (k : ℕ) (x : CommandOf m) → runs m w (client_id k) ≡ true
    → Turned m w (happens m w (Commands k x)) (client_id k) (node_step m (node_in m w (client_id k)) (input.Command x))
unfolding happens node_step
client_commanded m w k x ran =
    subst (λ (b : Bool). Turned m w (counted m (commands m b w k x)) (client_id k) (client_turn m (client_command m (client m w k) x))) (sym ran)
    (commanded m w k x (is_some (client m w k).work) (runs_within m w (client_id k) ran))

pub command_turns : (m : Meaning) (w : World m) (n : NodeId) (x : CommandOf m) → runs m w n ≡ true → n.role ≡ role.Client
    → Turned m w (happens m w (Commands n.num x)) n (node_step m (node_in m w n) (input.Command x))
command_turns m w n x ran is =
    let named : n ≡ client_id n.num = λ i. record { role = is i; num = n.num } in
    subst (λ (k : NodeId). Turned m w (happens m w (Commands n.num x)) k (node_step m (node_in m w k) (input.Command x))) (sym named)
    (client_commanded m w n.num x (ap (runs m w) (sym named) ∙ ran))
