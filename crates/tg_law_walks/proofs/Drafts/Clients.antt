-- What each client of a run keeps.
use Rattle.std.proofs.Common.{◌≡◌, ℕ, zero, suc, ◌+◌, ◌<◌, ◌≤◌, ◌^◌, Bool, true, false, [], ◌∷◌, length, map, Option, Some, None, refl, sym, ap, ◌∙◌, subst, arith}
use Rattle.std.specs.Prelude.{slice_get, is_some}
use Rattle.tg_base.specs.Clusters.{Header, IsHeader}
use Rattle.tg_base.specs.declared.ids.NodeId.{NodeId}
use Rattle.tg_base.specs.declared.ids.Role.{Role}
use Rattle.tg_base.specs.declared.ids.Role.TheVariants as role
use Rattle.tg_base.specs.declared.packet.Packet.{Packet}
use Rattle.tg_entry.specs.declared.entry.Entry.{Entry}
use Rattle.tg_kind.specs.Meaning.{Meaning}
use Rattle.tg_model.specs.declared.command.Event.TheVariants.{Command as Commands, Deliver, Lose, Tick, Stop}
use Rattle.tg_model.specs.Kinds.{CommandOf, EventOf}
use Rattle.tg_protocol.specs.Words.{client_id, numbers}
use Rattle.tg_protocol.specs.Replies.{reply}
use Rattle.tg_protocol.specs.Clients.{Task, Syncing, Walking, Appending, Trimming, Copying', Reconfiguring, Work, Client, new_client, refusal}
use Rattle.tg_protocol.specs.ClientSteps.{task_in, feed, refused_or, ClientTurn, client_command, client_deliver, client_tick, tick_by}
use Rattle.tg_protocol.specs.Worlds.{World, start, client, runs, handed, noted_if, client_turned, unit_moves, layout_moves, seqr_moves, moves, comes, delivers, commands, ticks, ticks_if, stops_if, happens, next_event}
use Rattle.tg_protocol.specs.Runs.{Moves, Next, Takes, run, most_steps, LawfulCommand}
use Rattle.tg_law_layouts.specs.Moves.After.{after}
use Rattle.tg_law_layouts.specs.Moves.Configs.{Config, config, client_in}
use Rattle.tg_law_layouts.proofs.Moves.Members.{set_long}
use Rattle.tg_law_layouts.proofs.Moves.Lists.{at_set, at_map}
use Rattle.tg_law_layouts.proofs.Moves.Moves.{ClientInput, Commanded, Hears', Ticks', Given, AllGive, CasesOf, client_turn, step_cases_of}
use Rattle.tg_law_replies.proofs.Books.Worlds.{WorldBook, start_book, step_book}
use Rattle.tg_law_walks.proofs.Drafts.Sound.{Few, Sound, Kind, OfRecord, OfDecision, OfCheckpoint, Stays, Begins, TaskComes, HandComes, Good, same_comes, same_good, deliver_good}
use Rattle.tg_law_walks.proofs.Drafts.Commands.{command_good}

module _ (m : Meaning) where
  -- no more was begun than steps were taken
  pub record Counted (c : Client m) : Type 0 where
    pub begun : c.begun ≤ c.calls
    pub decisions : c.decisions ≤ c.calls
    pub checkpoints : c.checkpoints ≤ c.calls

  pub record Clients (c : Config m) : Type 0 where
    pub sound : (k : ℕ) → Sound m (client_in m c k)
    pub counted : (k : ℕ) → Counted (client_in m c k)
    pub long : length c.clients ≡ c.cluster.clients

  -- What a turn makes of a client, apart from the count of its steps.
  pub record Turned (c : Client m) (t : ClientTurn m) : Type 0 where
    pub made : Client m
    pub good : Good m c made
    pub now : t.now ≡ record made { calls = made.calls + 1 }

  tick_turned : (c : Client m) → Sound m c → (w : Option (Work m)) → c.work ≡ w → Turned c (tick_by m c w)
  tick_turned c s None is = record { made = c; good = same_good m c s; now = refl }
  tick_turned c s (Some w) is = record {
    made = record c { next = c.next + c.layouts };
    good = record { num = refl; calls = refl; begun = (omega arith, omega arith); view = s.view; tx = s.tx; hand = s.hand; comes = next c.work (same_comes m c c.work refl) };
    now = refl;
  }
    where
      next : (v : Option (Work m)) → HandComes m c c c.work v → HandComes m c (record c { next = c.next + c.layouts }) c.work v
      next None h = h
      next (Some v) h = by (task_in m v.hand) h
        where
          by : (t : Task m) → TaskComes m c c c.work t → TaskComes m c (record c { next = c.next + c.layouts }) c.work t
          by (Appending b y) (Stays u a z has at e f i) = Stays u a z has at e f i
          by (Appending b y) (Begins none asks kind) = Begins none asks kind
          by (Syncing s) h = h
          by (Walking j os) h = h
          by (Trimming t) h = h
          by (Copying' x) h = h
          by (Reconfiguring r) h = h

  pub turned : (c : Config m) (k : ℕ) (t : ClientTurn m) → (i : ClientInput m c k t) → Given m (LawfulCommand m) c k t i → Few m (client_in m c k) → Sound m (client_in m c k) → Turned (client_in m c k) t
  unfolding client_command client_deliver client_tick
  turned c k t (Commanded x) lawful few s = record { made = (refused_or m (client_in m c k) x (refusal m (client_in m c k) x)).now; good = command_good m (client_in m c k) few s x lawful; now = refl }
  turned c k t (Hears' p comes) lawful few s = record { made = (feed m (client_in m c k) (client_in m c k).work p.from p.rid (reply p.msg)).now; good = deliver_good m (client_in m c k) p.from p.rid p.msg few s; now = refl }
  turned c k t Ticks' lawful few s = tick_turned (client_in m c k) s (client_in m c k).work refl

  -- how many were begun
  pub record Grown (c d : Client m) : Type 0 where
    pub decisions : c.decisions ≤ d.decisions
    pub one : d.decisions ≤ c.decisions + 1
    pub checkpoints : c.checkpoints ≤ d.checkpoints
    pub other : d.checkpoints ≤ c.checkpoints + 1

  equal : (c d : Client m) → (d.decisions ≡ c.decisions) × (d.checkpoints ≡ c.checkpoints) → Grown c d
  equal c d h = let a = h.0 in let b = h.1 in record { decisions = omega (arith, a); one = omega (arith, a); checkpoints = omega (arith, b); other = omega (arith, b) }

  kind_grown : (c d : Client m) (e : Entry) → Kind m c d.decisions d.checkpoints e → Grown c d
  kind_grown c d e (OfRecord t a b) = equal c d (a, b)
  kind_grown c d e (OfDecision t n a b) = record { decisions = omega (arith, a); one = omega (arith, a); checkpoints = omega (arith, b); other = omega (arith, b) }
  kind_grown c d e (OfCheckpoint t n a b) = record { decisions = omega (arith, a); one = omega (arith, a); checkpoints = omega (arith, b); other = omega (arith, b) }

  pub hand_grown : (c d : Client m) (old w : Option (Work m)) → HandComes m c d old w → Grown c d
  hand_grown c d old None h = equal c d h
  hand_grown c d old (Some w) h = by (task_in m w.hand) h
    where
      by : (t : Task m) → TaskComes m c d old t → Grown c d
      by (Appending b y) (Stays v a z has at e f g) = equal c d (f, g)
      by (Appending b y) (Begins none asks kind) = kind_grown c d b.draft kind
      by (Syncing s) h = equal c d h
      by (Walking j os) h = equal c d h
      by (Trimming t) h = equal c d h
      by (Copying' x) h = equal c d h
      by (Reconfiguring r) h = equal c d h

  made_sound : (c d : Client m) (n : ℕ) → Good m c d → Sound m (record d { calls = n })
  made_sound c d n g = record { view = g.view; tx = g.tx; hand = g.hand }

  made_counted : (c d : Client m) → Good m c d → Counted c → Counted (record d { calls = d.calls + 1 })
  made_counted c d g k =
      let a = g.begun.1 in
      let x = hand_grown c d c.work d.work g.comes in
      let i = x.one in
      let j = x.other in
      let n = g.calls in
      let u = k.begun in
      let v = k.decisions in
      let w = k.checkpoints in
      record { begun = omega (arith, a, n, u); decisions = omega (arith, i, n, v); checkpoints = omega (arith, j, n, w) }

  few_clients : (h : Header) → IsHeader h → h.clients ≤ 32
  few_clients h e = grind arith

  -- Over worlds.

  module _ (h : Header) (header : IsHeader h) (n : ℕ) (short : n + 1 < 2 ^ 32) (c : Config m) (cluster : c.cluster ≡ h) (num : (k : ℕ) → (client_in m c k).num ≡ k) (s : Clients c) (calls : (k : ℕ) → (client_in m c k).calls ≤ n) where
    pub few_here : (k : ℕ) → k < length c.clients → Few m (client_in m c k)
    few_here k less =
        let a = s.counted k in
        let b = calls k in
        let x = a.begun in
        let y = a.decisions in
        let z = a.checkpoints in
        let i = num k in
        let l = s.long ∙ ap (λ (g : Header). g.clients) cluster in
        let top = few_clients h header in
        record { begun = omega (arith, b, x, short); decisions = omega (arith, b, y, short); checkpoints = omega (arith, b, z, short); client = omega (arith, i, l, less, top) }

    abbrev After : Config m → Type 0
    After d = Clients d × ((k : ℕ) → (client_in m d k).calls ≤ n + 1)

    here : After c
    here = (s, λ k. let b = calls k in omega (arith, b))

    own : (k : ℕ) (t : ClientTurn m) → (i : ClientInput m c k t) → Given m (LawfulCommand m) c k t i → k < length c.clients → After (client_turn m c k t)
    own k t i lawful less =
        let u = turned c k t i lawful (few_here k less) (s.sound k) in
        let b = calls k in
        let z = u.good.calls in (
          record {
            sound = at_set c.clients k t.now (new_client m c.cluster) (λ j x. Sound m x) less (subst (Sound m) (sym u.now) (made_sound (client_in m c k) u.made (u.made.calls + 1) u.good)) (λ j other. s.sound j);
            counted = at_set c.clients k t.now (new_client m c.cluster) (λ j x. Counted x) less (subst Counted (sym u.now) (made_counted (client_in m c k) u.made u.good (s.counted k))) (λ j other. s.counted j);
            long = set_long c.clients k t.now ∙ s.long;
          },
          at_set c.clients k t.now (new_client m c.cluster) (λ j x. x.calls ≤ n + 1) less (subst (λ (x : Client m). x.calls ≤ n + 1) (sym u.now) (omega (arith, b, z))) (λ j other. let b = calls j in omega (arith, b)),
        )

    cases : CasesOf m (LawfulCommand m) c After
    cases = record { idle = here; unit = λ u p a less. (record { sound = s.sound; counted = s.counted; long = s.long }, here.1); layout = λ l p a less. (record { sound = s.sound; counted = s.counted; long = s.long }, here.1); seqr = λ r t i less. (record { sound = s.sound; counted = s.counted; long = s.long }, here.1); client = own }

  -- steps are counted

  noted_steps : (b : Bool) (w : World m) (k : ℕ) (c : Client m) → (noted_if m b w k c).steps ≡ w.steps
  noted_steps true w k c = refl
  noted_steps false w k c = refl

  commands_steps : (b : Bool) (w : World m) (k : ℕ) (x : CommandOf m) → (commands m b w k x).steps ≡ w.steps
  unfolding client_turned
  commands_steps true w k x = noted_steps (is_some (client m w k).work) w k (client m w k)
  commands_steps false w k x = refl

  moves_steps : (w : World m) (p : Packet) (r : Role) → (moves m w p r).steps ≡ w.steps
  unfolding unit_moves layout_moves seqr_moves client_turned
  moves_steps w p role.Unit = refl
  moves_steps w p role.Layout = refl
  moves_steps w p role.Seqr = refl
  moves_steps w p role.Client = refl

  comes_steps : (b : Bool) (w : World m) (p : Packet) → (comes m b w p).steps ≡ w.steps
  comes_steps true w p = moves_steps w p p.to.role
  comes_steps false w p = refl

  delivers_steps : (w : World m) (i : ℕ) (o : Option Packet) → (delivers m w i o).steps ≡ w.steps
  delivers_steps w i None = refl
  delivers_steps w i (Some p) = comes_steps (runs m w p.to) (handed m w i) p

  ticks_steps : (w : World m) (n : ℕ) (r : Role) → (ticks m w n r).steps ≡ w.steps
  unfolding client_turned
  ticks_steps w n role.Unit = refl
  ticks_steps w n role.Layout = refl
  ticks_steps w n role.Seqr = refl
  ticks_steps w n role.Client = refl

  ticks_if_steps : (b : Bool) (w : World m) (n : NodeId) → (ticks_if m b w n).steps ≡ w.steps
  ticks_if_steps true w n = ticks_steps w n.num n.role
  ticks_if_steps false w n = refl

  stops_steps : (b : Bool) (w : World m) (n : NodeId) → (stops_if m b w n).steps ≡ w.steps
  stops_steps true w n = refl
  stops_steps false w n = refl

  pub happens_steps : (w : World m) (e : EventOf m) → (happens m w e).steps ≡ w.steps + 1
  unfolding happens
  happens_steps w (Commands k x) = ap (λ (n : ℕ). n + 1) (commands_steps (runs m w (client_id k)) w k x)
  happens_steps w (Deliver i) = ap (λ (n : ℕ). n + 1) (delivers_steps w i (slice_get w.packets i))
  happens_steps w (Lose i) = refl
  happens_steps w (Tick n) = ap (λ (n : ℕ). n + 1) (ticks_if_steps (runs m w n) w n)
  happens_steps w (Stop n) = ap (λ (n : ℕ). n + 1) (stops_steps (runs m w n) w n)

  pub more_steps : (ms : Moves m) (w : World m) → w.steps ≤ (run m ms w).steps
  unfolding run
  more_steps [] w = omega arith
  more_steps (Next ∷ ms) w = more_steps ms (next_event m w)
  more_steps (Takes e ∷ ms) w = let a = more_steps ms (happens m w e) in let b = happens_steps w e in omega (arith, a, b)

  -- Along a run.

  pub record State (h : Header) (w : World m) : Type 0 where
    pub cluster : w.cluster ≡ h
    pub book : WorldBook m w
    pub clients : Clients (config m w)
    pub calls : (k : ℕ) → (client_in m (config m w) k).calls ≤ w.steps

  pub few_in : (h : Header) → IsHeader h → (w : World m) → w.steps ≤ most_steps → State h w → (k : ℕ) → k < length w.clients → Few m (client_in m (config m w) k)
  few_in h header w short s k less = few_here h header w.steps (omega (arith, short)) (config m w) s.cluster (λ j. (s.book j).num_is) s.clients s.calls k less

  run_state : (h : Header) → IsHeader h → (ms : Moves m) (w : World m) → AllGive m (LawfulCommand m) ms → (run m ms w).steps ≤ most_steps → State h w → State h (run m ms w)
  unfolding run
  run_state h header [] w give short s = s
  run_state h header (Next ∷ ms) w give short s = run_state h header ms (next_event m w) give short (record { cluster = s.cluster; book = s.book; clients = record { sound = s.clients.sound; counted = s.clients.counted; long = s.clients.long }; calls = s.calls })
  run_state h header (Takes e ∷ ms) w give short s =
      let a = more_steps ms (happens m w e) in
      let b = happens_steps w e in
      let r = step_cases_of m (LawfulCommand m) w (λ d. After h header w.steps (omega (arith, a, b, short)) (config m w) s.cluster (λ j. (s.book j).num_is) s.clients s.calls d × (d.cluster ≡ h))
      (with_cluster h header w.steps (omega (arith, a, b, short)) (config m w) s.cluster (λ j. (s.book j).num_is) s.clients s.calls) e give.0 in
      run_state h header ms (happens m w e) give.1 short (record { cluster = r.1; book = step_book m w e s.book; clients = r.0.0; calls = λ k. let x = r.0.1 k in omega (arith, x, b) })
    where
      with_cluster : (h : Header) (header : IsHeader h) (n : ℕ) (short : n + 1 < 2 ^ 32) (c : Config m) (cluster : c.cluster ≡ h) (num : (k : ℕ) → (client_in m c k).num ≡ k) (s : Clients c) (calls : (k : ℕ) → (client_in m c k).calls ≤ n)
          → CasesOf m (LawfulCommand m) c (λ d. After h header n short c cluster num s calls d × (d.cluster ≡ h))
      with_cluster h header n short c cluster num s calls =
          let k = cases h header n short c cluster num s calls in
          record { idle = (k.idle, cluster); unit = λ u p a less. (k.unit u p a less, cluster); layout = λ l p a less. (k.layout l p a less, cluster); seqr = λ r t i less. (k.seqr r t i less, cluster); client = λ j t i g less. (k.client j t i g less, cluster) }

  new_sound : (h : Header) (k : ℕ) → Sound m (new_client m h k)
  unfolding new_client
  new_sound h k = record { view = tt; tx = tt; hand = tt }

  new_counted : (h : Header) (k : ℕ) → Counted (new_client m h k)
  unfolding new_client
  new_counted h k = record { begun = omega arith; decisions = omega arith; checkpoints = omega arith }

  new_calls : (h : Header) (k : ℕ) → (new_client m h k).calls ≤ 0
  unfolding new_client
  new_calls h k = omega arith

  many_long : (n first : ℕ) (h : Header) → length (map (new_client m h) (numbers n first)) ≡ n
  many_long zero first h = refl
  many_long (suc n) first h = ap suc (many_long n (first + 1) h)

  start_state : (h : Header) → State h (start m h)
  unfolding start
  start_state h = record {
    cluster = refl;
    book = start_book m h;
    clients = record {
      sound = λ k. at_map (new_client m h) (numbers h.clients 0) k (new_client m h k) (λ (x : Client m). Sound m x) (new_sound h) (new_sound h k);
      counted = λ k. at_map (new_client m h) (numbers h.clients 0) k (new_client m h k) (λ (x : Client m). Counted x) (new_counted h) (new_counted h k);
      long = many_long h.clients 0 h;
    };
    calls = λ k. at_map (new_client m h) (numbers h.clients 0) k (new_client m h k) (λ (x : Client m). x.calls ≤ 0) (new_calls h) (new_calls h k);
  }

  pub state_hold : (h : Header) → IsHeader h → (ms : Moves m) → AllGive m (LawfulCommand m) ms → (after m h ms).steps ≤ most_steps → State h (after m h ms)
  state_hold h header ms give short = run_state h header ms (start m h) give short (start_state h)
