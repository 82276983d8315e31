-- The numbers of each reply: its event, its client, and its transaction.
use Rattle.std.proofs.Common.{◌≡◌, ◌⊎◌, ℕ, ◌<◌, ◌≤◌, ◌^◌, List, [], ◌∷◌, length, map, Bool, true, false, refl, sym, ap, subst, inl, inr, arith, Some, None, Option}
use Rattle.std.specs.Prelude.{slice_get, is_some}
use Rattle.tg_base.specs.Clusters.{Header}
use Rattle.tg_base.specs.declared.ids.NodeId.{NodeId}
use Rattle.tg_base.specs.declared.ids.Role.{Role}
use Rattle.tg_base.specs.declared.ids.Role.TheVariants as role
use Rattle.tg_base.specs.declared.packet.Packet.{Packet}
use Rattle.tg_kind.specs.Meaning.{Meaning}
use Rattle.tg_model.specs.declared.command.Event.TheVariants.{Command as Commands, Deliver, Lose, Tick, Stop}
use Rattle.tg_model.specs.Kinds.{CommandOf, EventOf, MarkOf}
use Rattle.tg_protocol.specs.Clients.{Client}
use Rattle.tg_protocol.specs.ClientSteps.{ClientTurn, client_command, client_deliver, client_tick}
use Rattle.tg_protocol.specs.Words.{client_id}
use Rattle.tg_protocol.specs.Worlds.{World, Told, start, client, happens, runs, next_event, mark_of, trace, handed, noted_if, client_turned, unit_moves, layout_moves, seqr_moves, moves, comes, delivers, commands, ticks, ticks_if, stops_if, counted}
use Rattle.tg_protocol.specs.Runs.{Moves, Next, Takes, Reaches, run}
use Rattle.tg_law_layouts.proofs.Moves.Always.{lawful_give}
use Rattle.tg_law_layouts.proofs.Moves.Members.{Has, has_either, has_map, set_long}
use Rattle.tg_law_replies.proofs.Books.Worlds.{declared}
use Rattle.tg_law_walks.proofs.Drafts.Clients.{State, state_hold, few_in}
use Rattle.tg_law_programs.proofs.Transcripts.Events.{happens_event}

module _ (m : Meaning) where
  -- each reply is of an event up to a world's, and of one of its clients
  abbrev pub Numbered : World m → Type 0
  Numbered w = (t : Told m) → Has w.told t → (t.mark.event ≤ w.event) × (t.mark.client < length w.clients)

  -- what a step makes of a world
  record Adds (w v : World m) : Type 0 where
    long : length v.clients ≡ length w.clients
    told : (t : Told m) → Has v.told t → Has w.told t ⊎ ((t.mark.event ≡ w.event) × (t.mark.client < length w.clients))

  none : (w v : World m) → v.clients ≡ w.clients → v.told ≡ w.told → Adds w v
  none w v c t = record { long = ap (λ (xs : List (Client m)). length xs) c; told = λ x i. inl (subst (λ (xs : List (Told m)). Has xs x) t i) }

  turned : (w : World m) (n : ℕ) (t : ClientTurn m) → n < length w.clients → Adds w (client_turned m w n t)
  unfolding client_turned
  turned w n t less = record {
    long = set_long w.clients n t.now;
    told = λ x i. by x (has_either w.told (map (mark_of m w n) t.notes) x i);
  }
    where
      by : (x : Told m) → Has w.told x ⊎ Has (map (mark_of m w n) t.notes) x → Has w.told x ⊎ ((x.mark.event ≡ w.event) × (x.mark.client < length w.clients))
      by x (inl i) = inl i
      by x (inr i) = let z = has_map (mark_of m w n) t.notes x i in
          inr (ap (λ (y : Told m). y.mark.event) z.is, subst (λ (y : Told m). y.mark.client < length w.clients) (sym z.is) less)

  commands_add : (w : World m) (n : ℕ) (x : CommandOf m) (b : Bool) → runs m w (client_id n) ≡ b → Adds w (commands m b w n x)
  commands_add w n x true on = by (is_some (client m w n).work)
    where
      by : (b : Bool) → Adds w (client_turned m (noted_if m b w n (client m w n)) n (client_command m (client m w n) x))
      by true = turned w n (client_command m (client m w n) x) (declared m w (client_id n) refl on)
      by false = let a = turned (noted_if m false w n (client m w n)) n (client_command m (client m w n) x) (declared m w (client_id n) refl on) in record { long = a.long; told = a.told }
  commands_add w n x false on = none w w refl refl

  moves_add : (w : World m) (i : ℕ) (p : Packet) (r : Role) → p.to.role ≡ r → runs m w p.to ≡ true → Adds w (moves m (handed m w i) p r)
  unfolding unit_moves layout_moves seqr_moves
  moves_add w i p role.Unit is on = none w _ refl refl
  moves_add w i p role.Layout is on = none w _ refl refl
  moves_add w i p role.Seqr is on = none w _ refl refl
  moves_add w i p role.Client is on = let a = turned (handed m w i) p.to.num (client_deliver m (client m w p.to.num) p.from p.rid p.msg) (declared m w p.to is on) in record { long = a.long; told = a.told }

  ticks_add : (w : World m) (n : NodeId) (r : Role) → n.role ≡ r → runs m w n ≡ true → Adds w (ticks m w n.num r)
  ticks_add w n role.Unit is on = none w _ refl refl
  ticks_add w n role.Layout is on = none w _ refl refl
  ticks_add w n role.Seqr is on = none w _ refl refl
  ticks_add w n role.Client is on = turned w n.num (client_tick m (client m w n.num)) (declared m w n is on)

  counted_adds : (w v : World m) → Adds w v → Adds w (counted m v)
  counted_adds w v a = record { long = a.long; told = a.told }

  adds : (w : World m) (e : EventOf m) → Adds w (happens m w e)
  unfolding happens
  adds w (Commands k x) = counted_adds w _ (commands_add w k x (runs m w (client_id k)) refl)
  adds w (Deliver i) = counted_adds w _ (by (slice_get w.packets i))
    where
      to : (p : Packet) (b : Bool) → runs m w p.to ≡ b → Adds w (comes m b (handed m w i) p)
      to p true on = moves_add w i p p.to.role refl on
      to p false on = none w _ refl refl

      by : (o : Option Packet) → Adds w (delivers m w i o)
      by None = none w w refl refl
      by (Some p) = to p (runs m w p.to) refl
  adds w (Lose i) = none w _ refl refl
  adds w (Tick n) = counted_adds w _ (by (runs m w n) refl)
    where
      by : (b : Bool) → runs m w n ≡ b → Adds w (ticks_if m b w n)
      by true on = ticks_add w n n.role refl on
      by false on = none w w refl refl
  adds w (Stop n) = counted_adds w _ (by (runs m w n))
    where
      by : (b : Bool) → Adds w (stops_if m b w n)
      by true = none w _ refl refl
      by false = none w w refl refl

  step_numbered : (w : World m) (e : EventOf m) → Numbered w → Numbered (happens m w e)
  step_numbered w e s t i = by (a.told t i)
    where
      a : Adds w (happens m w e)
      a = adds w e

      by : Has w.told t ⊎ ((t.mark.event ≡ w.event) × (t.mark.client < length w.clients)) → (t.mark.event ≤ (happens m w e).event) × (t.mark.client < length (happens m w e).clients)
      by (inl j) = let z = s t j in let x = z.0 in let y = z.1 in let v = happens_event m w e in let l = a.long in (omega (arith, x, v), omega (arith, y, l))
      by (inr z) = let x = z.0 in let y = z.1 in let v = happens_event m w e in let l = a.long in (omega (arith, x, v), omega (arith, y, l))

  run_numbered : (ms : Moves m) (w : World m) → Numbered w → Numbered (run m ms w)
  unfolding run
  run_numbered [] w s = s
  run_numbered (Next ∷ ms) w s = run_numbered ms (next_event m w) (λ t i. let z = s t i in let x = z.0 in (omega (arith, x), z.1))
  run_numbered (Takes e ∷ ms) w s = run_numbered ms (happens m w e) (step_numbered w e s)

  start_numbered : (h : Header) → Numbered (start m h)
  unfolding start
  start_numbered h t i = absurd i

  pub numbered : (h : Header) (ms : Moves m) (w : World m) → Reaches m h ms w → Numbered w
  numbered h ms w r = subst Numbered (sym r.goes.is) (run_numbered ms (start m h) (start_numbered h))

  -- Transactions.

  pub state_in : (h : Header) (ms : Moves m) (w : World m) → Reaches m h ms w → State m h w
  unfolding start
  state_in h ms w r =
      subst (State m h) (sym r.goes.is) (state_hold m h r.header ms (lawful_give m h ms (r.goes.lawful)) (let few = r.goes.few in let is = ap (λ (v : World m). v.steps) r.goes.is in omega (arith, few, is)))

  pub cluster_is : (h : Header) (ms : Moves m) (w : World m) → Reaches m h ms w → w.cluster ≡ h
  cluster_is h ms w r = (state_in h ms w r).cluster

  pub few_transactions : (h : Header) (ms : Moves m) (w : World m) → Reaches m h ms w → (u : MarkOf m) → Has (trace m w) u → u.client < length w.clients → (u.client < 2 ^ 16) × (u.tx < 2 ^ 32)
  few_transactions h ms w r u i less =
      let s = state_in h ms w r in
      let few = few_in m h r.header w r.goes.few s u.client less in
      let begun = few.begun in
      let num = (s.book u.client).num_is in
      let client = few.client in
      let below = (s.book u.client).below u i refl in
      (omega (arith, num, client), omega (arith, begun, below))
