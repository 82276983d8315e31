-- A step of a world, as one of five moves.
use Rattle.std.proofs.Common.{◌≡◌, ℕ, ◌<◌, [], ◌∷◌, ◌++◌, length, map, Bool, true, false, refl, arith, Some, None, Option}
use Rattle.std.specs.Prelude.{slice_get, slice_set, is_some}
use Rattle.tg_base.specs.declared.ids.NodeId.{NodeId}
use Rattle.tg_base.specs.declared.ids.Role.{Role}
use Rattle.tg_base.specs.declared.ids.Role.TheVariants as role
use Rattle.tg_base.specs.declared.packet.Packet.{Packet}
use Rattle.tg_kind.specs.Meaning.{Meaning}
use Rattle.tg_model.specs.declared.command.Event.TheVariants.{Command as Commands, Deliver, Lose, Tick, Stop}
use Rattle.tg_model.specs.Kinds.{CommandOf, EventOf}
use Rattle.tg_protocol.specs.Words.{unit_id, layout_id, seqr_id, client_id}
use Rattle.tg_protocol.specs.Units.{UnitTurn, unit_step}
use Rattle.tg_protocol.specs.LayoutServers.{LayoutTurn, layout_step}
use Rattle.tg_protocol.specs.Sequencers.{SeqrTurn, seqr_step, seqr_tick}
use Rattle.tg_protocol.specs.ClientSteps.{ClientTurn, client_command, client_deliver, client_tick}
use Rattle.tg_protocol.specs.Worlds.{World, next_event, packet_of, answer_to, moves, comes, handed, delivers, runs, count_of, unit_moves, layout_moves, seqr_moves, client_turned, noted_if, commands, ticks, ticks_if, stops_if, happens}
use Rattle.tg_law_layouts.proofs.Moves.Members.{Has, has_got}
use Rattle.tg_law_layouts.specs.Moves.Configs.{Config, config, unit_in, layout_in, seqr_in, client_in}
use Rattle.tg_protocol.specs.Runs.{Moves, Next, Takes, run}

module _ (m : Meaning) where
  -- The moves.

  abbrev pub unit_turn : Config m → ℕ → Packet → UnitTurn → Config m
  unit_turn c u p t = record c { units = slice_set c.units u t.now; packets = c.packets ++ answer_to m p t.says }

  abbrev pub layout_turn : Config m → ℕ → Packet → LayoutTurn → Config m
  layout_turn c l p t = record c { layouts = slice_set c.layouts l t.now; packets = c.packets ++ answer_to m p t.says }

  abbrev pub seqr_turn : Config m → ℕ → SeqrTurn → Config m
  seqr_turn c s t = record c { seqrs = slice_set c.seqrs s t.now; packets = c.packets ++ map (packet_of m (seqr_id s)) t.sends }

  abbrev pub client_turn : Config m → ℕ → ClientTurn m → Config m
  client_turn c k t = record c { clients = slice_set c.clients k t.now; packets = c.packets ++ map (packet_of m (client_id k)) t.sends }

  -- a packet comes to a node
  pub record Comes (c : Config m) (p : Packet) (to : NodeId) : Type 0 where
    pub sent : Has c.packets p
    pub to_node : p.to ≡ to

  pub data SeqrInput (c : Config m) (s : ℕ) : SeqrTurn → Type 0 where
    Hears : (p : Packet) → (comes : Comes c p (seqr_id s)) → SeqrInput c s (seqr_step (seqr_in m c s) p.from p.rid p.msg)
    Ticks : SeqrInput c s (seqr_tick (seqr_in m c s))

  pub data ClientInput (c : Config m) (k : ℕ) : ClientTurn m → Type 0 where
    Commanded : (x : CommandOf m) → ClientInput c k (client_command m (client_in m c k) x)
    Hears' : (p : Packet) → (comes : Comes c p (client_id k)) → ClientInput c k (client_deliver m (client_in m c k) p.from p.rid p.msg)
    Ticks' : ClientInput c k (client_tick m (client_in m c k))

  -- what is to be shown of a fact, for each of the moves
  pub record Cases (c : Config m) (P : Config m → Type 0) : Type 0 where
    pub idle : P c
    pub unit : (u : ℕ) (p : Packet) → Comes c p (unit_id u) → u < length c.units → P (unit_turn c u p (unit_step (unit_in m c u) p.msg))
    pub layout : (l : ℕ) (p : Packet) → Comes c p (layout_id l) → l < length c.layouts → P (layout_turn c l p (layout_step (layout_in m c l) p.msg))
    pub seqr : (s : ℕ) (t : SeqrTurn) → SeqrInput c s t → s < length c.seqrs → P (seqr_turn c s t)
    pub client : (k : ℕ) (t : ClientTurn m) → ClientInput c k t → k < length c.clients → P (client_turn c k t)

  -- The same where each command that is given is of a kind.

  abbrev pub Given : (Q : CommandOf m → Type 0) → (c : Config m) (k : ℕ) (t : ClientTurn m) → ClientInput c k t → Type 0
  Given Q c k t (Commanded x) = Q x
  Given Q c k t (Hears' p comes) = Unit {0}
  Given Q c k t Ticks' = Unit {0}

  abbrev pub Gives : (CommandOf m → Type 0) → EventOf m → Type 0
  Gives Q (Commands k x) = Q x
  Gives Q e = Unit {0}

  pub record CasesOf (Q : CommandOf m → Type 0) (c : Config m) (P : Config m → Type 0) : Type 0 where
    pub idle : P c
    pub unit : (u : ℕ) (p : Packet) → Comes c p (unit_id u) → u < length c.units → P (unit_turn c u p (unit_step (unit_in m c u) p.msg))
    pub layout : (l : ℕ) (p : Packet) → Comes c p (layout_id l) → l < length c.layouts → P (layout_turn c l p (layout_step (layout_in m c l) p.msg))
    pub seqr : (s : ℕ) (t : SeqrTurn) → SeqrInput c s t → s < length c.seqrs → P (seqr_turn c s t)
    pub client : (k : ℕ) (t : ClientTurn m) → (i : ClientInput c k t) → Given Q c k t i → k < length c.clients → P (client_turn c k t)

  below : (n : NodeId) (w : World m) → runs m w n ≡ true → n.num < count_of m w n.role
  below n w h = grind arith

  named : (n : NodeId) (r : Role) → n.role ≡ r → n ≡ record { role = r; num = n.num }
  named n r e = λ i. record { role = e i; num = n.num }

  module _ (Q : CommandOf m → Type 0) (w : World m) (P : Config m → Type 0) (c : CasesOf Q (config m w) P) where
    arrives : (i : ℕ) (p : Packet) → Has w.packets p → (r : Role) → p.to.role ≡ r → p.to.num < count_of m w r → P (config m (moves m (handed m w i) p r))
    unfolding unit_moves layout_moves seqr_moves client_turned
    arrives i p s role.Unit e less = c.unit p.to.num p (record { sent = s; to_node = named p.to role.Unit e }) less
    arrives i p s role.Layout e less = c.layout p.to.num p (record { sent = s; to_node = named p.to role.Layout e }) less
    arrives i p s role.Seqr e less = c.seqr p.to.num _ (Hears p (record { sent = s; to_node = named p.to role.Seqr e })) less
    arrives i p s role.Client e less = c.client p.to.num _ (Hears' p (record { sent = s; to_node = named p.to role.Client e })) tt less

    comes_if : (i : ℕ) (p : Packet) → Has w.packets p → (b : Bool) → runs m w p.to ≡ b → P (config m (comes m b (handed m w i) p))
    comes_if i p s true e = arrives i p s p.to.role refl (below p.to w e)
    comes_if i p s false e = c.idle

    delivers_cases : (i : ℕ) (o : Option Packet) → slice_get w.packets i ≡ o → P (config m (delivers m w i o))
    delivers_cases i None e = c.idle
    delivers_cases i (Some p) e = comes_if i p (has_got w.packets i p e) (runs m w p.to) refl

    noted_cases : (k : ℕ) (x : CommandOf m) (b : Bool) → Q x → k < length w.clients
        → P (config m (client_turned m (noted_if m b w k (client_in m (config m w) k)) k (client_command m (client_in m (config m w) k) x)))
    unfolding client_turned
    noted_cases k x true q less = c.client k _ (Commanded x) q less
    noted_cases k x false q less = c.client k _ (Commanded x) q less

    commands_cases : (k : ℕ) (x : CommandOf m) (b : Bool) → Q x → runs m w (client_id k) ≡ b → P (config m (commands m b w k x))
    commands_cases k x true q e = noted_cases k x (is_some (client_in m (config m w) k).work) q (below (client_id k) w e)
    commands_cases k x false q e = c.idle

    ticks_cases : (n : ℕ) (r : Role) → n < count_of m w r → P (config m (ticks m w n r))
    unfolding client_turned
    ticks_cases n role.Unit less = c.idle
    ticks_cases n role.Layout less = c.idle
    ticks_cases n role.Seqr less = c.seqr n _ Ticks less
    ticks_cases n role.Client less = c.client n _ Ticks' tt less

    ticks_if_cases : (n : NodeId) (b : Bool) → runs m w n ≡ b → P (config m (ticks_if m b w n))
    ticks_if_cases n true e = ticks_cases n.num n.role (below n w e)
    ticks_if_cases n false e = c.idle

    stops_cases : (n : NodeId) (b : Bool) → P (config m (stops_if m b w n))
    stops_cases n true = c.idle
    stops_cases n false = c.idle

    pub step_cases_of : (e : EventOf m) → Gives Q e → P (config m (happens m w e))
    unfolding happens
    step_cases_of (Commands k x) q = commands_cases k x (runs m w (client_id k)) q refl
    step_cases_of (Deliver i) q = delivers_cases i (slice_get w.packets i) refl
    step_cases_of (Lose i) q = c.idle
    step_cases_of (Tick n) q = ticks_if_cases n (runs m w n) refl
    step_cases_of (Stop n) q = stops_cases n (runs m w n)

  abbrev Any : CommandOf m → Type 0
  Any x = Unit {0}

  pub cases_of : (Q : CommandOf m → Type 0) (c : Config m) (P : Config m → Type 0) → Cases c P → CasesOf Q c P
  cases_of Q c P k = record { idle = k.idle; unit = k.unit; layout = k.layout; seqr = k.seqr; client = λ n t i g less. k.client n t i less }

  any_gives : (e : EventOf m) → Gives Any e
  any_gives (Commands k x) = tt
  any_gives (Deliver i) = tt
  any_gives (Lose i) = tt
  any_gives (Tick n) = tt
  any_gives (Stop n) = tt

  pub step_cases : (w : World m) (P : Config m → Type 0) → Cases (config m w) P → (e : EventOf m) → P (config m (happens m w e))
  step_cases w P k e = step_cases_of Any w P (cases_of Any (config m w) P k) e (any_gives e)

  -- A fact that each step keeps is kept by each run.

  abbrev pub Keeps : (Config m → Type 0) → Type 0
  Keeps P = (c : Config m) → P c → Cases c P

  pub run_keeps : (P : Config m → Type 0) → Keeps P → (ms : Moves m) (w : World m) → P (config m w) → P (config m (run m ms w))
  unfolding run
  run_keeps P keeps [] w h = h
  run_keeps P keeps (Next ∷ ms) w h = run_keeps P keeps ms (next_event m w) h
  run_keeps P keeps (Takes e ∷ ms) w h = run_keeps P keeps ms (happens m w e) (step_cases w P (keeps (config m w) h) e)

  -- all commands of these moves are of a kind
  abbrev pub AllGive : (CommandOf m → Type 0) → Moves m → Type 0
  AllGive Q [] = Unit {0}
  AllGive Q (Next ∷ ms) = AllGive Q ms
  AllGive Q (Takes e ∷ ms) = Gives Q e × AllGive Q ms

  abbrev pub KeepsOf : (CommandOf m → Type 0) → (Config m → Type 0) → Type 0
  KeepsOf Q P = (c : Config m) → P c → CasesOf Q c P

  pub run_keeps_of : (Q : CommandOf m → Type 0) (P : Config m → Type 0) → KeepsOf Q P → (ms : Moves m) (w : World m) → AllGive Q ms → P (config m w) → P (config m (run m ms w))
  unfolding run
  run_keeps_of Q P keeps [] w q h = h
  run_keeps_of Q P keeps (Next ∷ ms) w q h = run_keeps_of Q P keeps ms (next_event m w) q h
  run_keeps_of Q P keeps (Takes e ∷ ms) w q h = run_keeps_of Q P keeps ms (happens m w e) q.1 (step_cases_of Q w P (keeps (config m w) h) e q.0)

  -- A fact that each step from a world of the run keeps, by what is known of all its worlds.
  pub run_keeps_with : (Q : CommandOf m → Type 0) (P R : Config m → Type 0) → ((c : Config m) → R c → P c → CasesOf Q c P) → (ms : Moves m) (w : World m) → ((ys : Moves m) → AllGive Q ys → R (config m (run m ys w))) → AllGive Q ms → P (config m w) → P (config m (run m ms w))
  unfolding run
  run_keeps_with Q P R keeps [] w r q h = h
  run_keeps_with Q P R keeps (Next ∷ ms) w r q h = run_keeps_with Q P R keeps ms (next_event m w) (λ ys g. r (Next ∷ ys) g) q h
  run_keeps_with Q P R keeps (Takes e ∷ ms) w r q h = run_keeps_with Q P R keeps ms (happens m w e) (λ ys g. r (Takes e ∷ ys) (q.0, g)) q.1 (step_cases_of Q w P (keeps (config m w) (r [] tt) h) e q.0)

  pub above_of : (Q : CommandOf m → Type 0) (A B : Config m → Type 0) (c : Config m) → A c → B c → Cases c A → CasesOf Q c (λ d. A d → B d) → CasesOf Q c (λ d. A d × B d)
  above_of Q A B c x y l k = record {
    idle = (x, y);
    unit = λ u p a less. let z = l.unit u p a less in (z, k.unit u p a less z);
    layout = λ n p a less. let z = l.layout n p a less in (z, k.layout n p a less z);
    seqr = λ s t i less. let z = l.seqr s t i less in (z, k.seqr s t i less z);
    client = λ n t i g less. let z = l.client n t i less in (z, k.client n t i g less z);
  }

  -- A fact over others that are kept whatever is commanded.
  pub keeps_above_of : (Q : CommandOf m → Type 0) (A B : Config m → Type 0) → Keeps A → ((c : Config m) → A c → B c → CasesOf Q c (λ d. A d → B d)) → KeepsOf Q (λ c. A c × B c)
  keeps_above_of Q A B low keeps c h = record {
    idle = h;
    unit = λ u p a less. let x = l.unit u p a less in (x, k.unit u p a less x);
    layout = λ n p a less. let x = l.layout n p a less in (x, k.layout n p a less x);
    seqr = λ s t i less. let x = l.seqr s t i less in (x, k.seqr s t i less x);
    client = λ n t i g less. let x = l.client n t i less in (x, k.client n t i g less x);
  }
    where
      l : Cases c A
      l = low c h.0

      k : CasesOf Q c (λ d. A d → B d)
      k = keeps c h.0 h.1

  pub cases_map : (c : Config m) (A B : Config m → Type 0) → ((d : Config m) → A d → B d) → Cases c A → Cases c B
  cases_map c A B f k = record {
    idle = f _ k.idle;
    unit = λ u p a less. f _ (k.unit u p a less);
    layout = λ n p a less. f _ (k.layout n p a less);
    seqr = λ s t i less. f _ (k.seqr s t i less);
    client = λ n t i less. f _ (k.client n t i less);
  }

  -- A fact over others that are kept already.
  pub keeps_above : (A B : Config m → Type 0) → Keeps A → ((c : Config m) → A c → B c → Cases c (λ d. A d → B d)) → Keeps (λ c. A c × B c)
  keeps_above A B low keeps c h = record {
    idle = h;
    unit = λ u p a less. let x = l.unit u p a less in (x, k.unit u p a less x);
    layout = λ n p a less. let x = l.layout n p a less in (x, k.layout n p a less x);
    seqr = λ s t i less. let x = l.seqr s t i less in (x, k.seqr s t i less x);
    client = λ n t i less. let x = l.client n t i less in (x, k.client n t i less x);
  }
    where
      l : Cases c A
      l = low c h.0

      k : Cases c (λ d. A d → B d)
      k = keeps c h.0 h.1

  -- two facts that are each kept
  pub both_keep : (A B : Config m → Type 0) → Keeps A → Keeps B → Keeps (λ c. A c × B c)
  both_keep A B f g c h = record {
    idle = h;
    unit = λ u p a less. ((f c h.0).unit u p a less, (g c h.1).unit u p a less);
    layout = λ l p a less. ((f c h.0).layout l p a less, (g c h.1).layout l p a less);
    seqr = λ s t i less. ((f c h.0).seqr s t i less, (g c h.1).seqr s t i less);
    client = λ k t i less. ((f c h.0).client k t i less, (g c h.1).client k t i less);
  }
