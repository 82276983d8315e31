-- Which client speaks in a step of a world, by which turn, and what is noted of its command.
use Rattle.std.proofs.Common.{◌≡◌, ◌⊎◌, ℕ, zero, suc, ◌<◌, List, [], ◌∷◌, ◌++◌, map, length, Bool, true, false, refl, ap, inl, inr, Option, Some, None, is_some}
use Rattle.std.specs.Prelude.{slice_get, slice_set, slice_index_or}
use Rattle.tg_base.specs.declared.ids.NodeId.{NodeId}
use Rattle.tg_base.specs.declared.ids.Role.{Role}
use Rattle.tg_base.specs.declared.ids.Role.TheVariants as role
use Rattle.tg_base.specs.declared.packet.Packet.{Packet}
use Rattle.tg_kind.specs.Meaning.{Meaning}
use Rattle.tg_model.specs.declared.command.Event.TheVariants.{Command as Commands, Deliver, Lose, Tick, Stop}
use Rattle.tg_model.specs.Kinds.{CommandOf, EventOf, NoteOf}
use Rattle.tg_protocol.specs.Words.{client_id}
use Rattle.tg_protocol.specs.Clients.{Work, Client, new_client, upto}
use Rattle.tg_protocol.specs.ClientSteps.{ClientTurn, client_command, client_deliver, client_tick}
use Rattle.tg_protocol.specs.Worlds.{CommandStart, World, Told, client, noted_of, unit_moves, layout_moves, seqr_moves, client_turned, moves, comes, handed, delivers, noted_if, commands, ticks, ticks_if, stops_if, counted, happens, runs}
use Rattle.tg_law_layouts.specs.Moves.Configs.{config}
use Rattle.tg_law_layouts.proofs.Moves.Lists.{at_set}
use Rattle.tg_law_layouts.proofs.Moves.Members.{has_got}
use Rattle.tg_law_layouts.proofs.Moves.Moves.{ClientInput, Commanded, Hears', Ticks'}
use Rattle.tg_law_replies.proofs.Books.Worlds.{declared}

set_other : {X : Type 0} → (xs : List X) (i : ℕ) (y : X) (k : ℕ) (d : X) → (k ≡ i → ⊥) → slice_index_or (slice_set xs i y) k d ≡ slice_index_or xs k d
set_other [] i y k d n = refl
set_other (x ∷ xs) zero y zero d n = absurd (n refl)
set_other (x ∷ xs) zero y (suc k) d n = refl
set_other (x ∷ xs) (suc i) y zero d n = refl
set_other (x ∷ xs) (suc i) y (suc k) d n = set_other xs i y k d (λ e. n (ap suc e))

set_here : {X : Type 0} → (xs : List X) (i : ℕ) (y : X) (d : X) → (slice_index_or (slice_set xs i y) i d ≡ y) ⊎ (slice_index_or (slice_set xs i y) i d ≡ slice_index_or xs i d)
set_here [] i y d = inr refl
set_here (x ∷ xs) zero y d = inl refl
set_here (x ∷ xs) (suc i) y d = set_here xs i y d

module _ (m : Meaning) where
  -- what was noted of a client that turns: what was noted before, or, where it has no work, how it stands
  pub data Noted (w : World m) (n : ℕ) (s : CommandStart) : Type 0 where
    Before : s ≡ noted_of m w n → Noted w n s
    Anew : (client m w n).work ≡ None → s ≡ record { next = (client m w n).next; epoch = (client m w n).stand.epoch; upto = upto m (client m w n) } → Noted w n s

  -- one client turns, and no other
  abbrev pub Turns : World m → World m → ℕ → ClientTurn m → CommandStart → ℕ → Type 0
  Turns w v n t s k = ((k ≡ n) × (client m v k ≡ t.now) × (noted_of m v k ≡ s)) ⊎ ((client m v k ≡ client m w k) × (noted_of m v k ≡ noted_of m w k) × (k ≡ n → ⊥))

  abbrev pub told_of : World m → ℕ → CommandStart → NoteOf m → Told m
  told_of w n s y = record { mark = record { event = w.event; client = n; tx = y.tx; what = y.what }; noted = s }

  -- an event hands a packet to a client
  pub record Delivered (w : World m) (e : EventOf m) (n : ℕ) (p : Packet) : Type 0 where
    pub at : ℕ
    pub event : e ≡ Deliver at
    pub got : slice_get w.packets at ≡ Some p
    pub of_client : p.to.role ≡ role.Client
    pub num : p.to.num ≡ n
    pub on : runs m w p.to ≡ true

  abbrev pub From : (w : World m) → EventOf m → (n : ℕ) (t : ClientTurn m) → ClientInput m (config m w) n t → Type 0
  From w e n t (Commanded x) = e ≡ Commands n x
  From w e n t (Hears' p comes) = Delivered w e n p
  From w e n t Ticks' = (a : NodeId) × (e ≡ Tick a)

  -- what a step makes of the clients, and of what is told and noted
  pub data Speaks (w : World m) (e : EventOf m) (v : World m) : Type 0 where
    Silent : v.told ≡ w.told → ((k : ℕ) → client m v k ≡ client m w k) → ((k : ℕ) → noted_of m v k ≡ noted_of m w k) → Speaks w e v
    Speaks' : (n : ℕ) (t : ClientTurn m) (s : CommandStart) → (i : ClientInput m (config m w) n t) → Noted w n s → v.told ≡ w.told ++ map (told_of w n s) t.notes → ((k : ℕ) → Turns w v n t s k) → From w e n t i → Speaks w e v

  module _ (w : World m) where
    one : (n : ℕ) (x : Client m) → n < length w.clients → (k : ℕ) → ((k ≡ n) × (slice_index_or (slice_set w.clients n x) k (new_client m w.cluster k) ≡ x)) ⊎ ((k ≡ n → ⊥) × (slice_index_or (slice_set w.clients n x) k (new_client m w.cluster k) ≡ client m w k))
    one n x less = at_set w.clients n x (new_client m w.cluster) (λ k y. ((k ≡ n) × (y ≡ x)) ⊎ ((k ≡ n → ⊥) × (y ≡ client m w k))) less (inl (refl, refl)) (λ k other. inr (other, refl))

    -- where nothing is noted anew
    kept : (n : ℕ) (t : ClientTurn m) → n < length w.clients → (k : ℕ) → Turns w (client_turned m w n t) n t (noted_of m w n) k
    unfolding client_turned
    kept n t less k = by (one n t.now less k)
      where
        by : ((k ≡ n) × (client m (client_turned m w n t) k ≡ t.now)) ⊎ ((k ≡ n → ⊥) × (client m (client_turned m w n t) k ≡ client m w k)) → Turns w (client_turned m w n t) n t (noted_of m w n) k
        by (inl e) = inl (e.0, e.1, ap (noted_of m w) e.0)
        by (inr e) = inr (e.1, refl, e.0)

    noted_now : (b : Bool) (n : ℕ) → is_some (client m w n).work ≡ b → Noted w n (noted_of m (noted_if m b w n (client m w n)) n)
    noted_now true n e = Before refl
    noted_now false n e = by (set_here w.noted n _ _)
      where
        none : (o : Option (Work m)) → is_some o ≡ false → o ≡ None
        none None f = refl
        none (Some v) f = absurd (cc)

        by : (noted_of m (noted_if m false w n (client m w n)) n ≡ record { next = (client m w n).next; epoch = (client m w n).stand.epoch; upto = upto m (client m w n) }) ⊎ (noted_of m (noted_if m false w n (client m w n)) n ≡ noted_of m w n)
            → Noted w n (noted_of m (noted_if m false w n (client m w n)) n)
        by (inl f) = Anew (none (client m w n).work e) f
        by (inr f) = Before f

    commanded : (n : ℕ) (x : CommandOf m) (b : Bool) → is_some (client m w n).work ≡ b → n < length w.clients → Speaks w (Commands n x) (client_turned m (noted_if m b w n (client m w n)) n (client_command m (client m w n) x))
    unfolding client_turned
    commanded n x true e less = Speaks' n (client_command m (client m w n) x) (noted_of m w n) (Commanded x) (Before refl) refl (kept n (client_command m (client m w n) x) less) refl
    commanded n x false e less = Speaks' n (client_command m (client m w n) x) (noted_of m u n) (Commanded x) (noted_now false n e) refl turned refl
      where
        u : World m
        u = noted_if m false w n (client m w n)

        v : World m
        v = client_turned m u n (client_command m (client m w n) x)

        turned : (k : ℕ) → Turns w v n (client_command m (client m w n) x) (noted_of m u n) k
        turned k = by (one n (client_command m (client m w n) x).now less k)
          where
            by : ((k ≡ n) × (client m v k ≡ (client_command m (client m w n) x).now)) ⊎ ((k ≡ n → ⊥) × (client m v k ≡ client m w k)) → Turns w v n (client_command m (client m w n) x) (noted_of m u n) k
            by (inl f) = inl (f.0, f.1, ap (noted_of m u) f.0)
            by (inr f) = inr (f.1, set_other w.noted n _ k _ f.0, f.0)

    commands_speak : (n : ℕ) (x : CommandOf m) (b : Bool) → runs m w (client_id n) ≡ b → Speaks w (Commands n x) (commands m b w n x)
    commands_speak n x true on = commanded n x (is_some (client m w n).work) refl (declared m w (client_id n) refl on)
    commands_speak n x false on = Silent refl (λ j. refl) (λ j. refl)

    client_is : (a : NodeId) → a.role ≡ role.Client → a ≡ client_id a.num
    client_is a e = ap (λ (r : Role). record { role = r; num = a.num }) e

    moves_speak : (i : ℕ) (p : Packet) (r : Role) → p.to.role ≡ r → slice_get w.packets i ≡ Some p → runs m w p.to ≡ true → Speaks w (Deliver i) (moves m (handed m w i) p r)
    unfolding unit_moves layout_moves seqr_moves client_turned
    moves_speak i p role.Unit is got on = Silent refl (λ j. refl) (λ j. refl)
    moves_speak i p role.Layout is got on = Silent refl (λ j. refl) (λ j. refl)
    moves_speak i p role.Seqr is got on = Silent refl (λ j. refl) (λ j. refl)
    moves_speak i p role.Client is got on =
        let t = client_deliver m (client m w p.to.num) p.from p.rid p.msg in
        Speaks' p.to.num t (noted_of m w p.to.num) (Hears' p (record { sent = has_got w.packets i p got; to_node = client_is p.to is })) (Before refl) refl (kept p.to.num t (declared m w p.to is on)) (record { at = i; event = refl; got = got; of_client = is; num = refl; on = on })

    ticks_speak : (n : NodeId) (r : Role) → n.role ≡ r → runs m w n ≡ true → Speaks w (Tick n) (ticks m w n.num r)
    unfolding client_turned
    ticks_speak n role.Unit is on = Silent refl (λ j. refl) (λ j. refl)
    ticks_speak n role.Layout is on = Silent refl (λ j. refl) (λ j. refl)
    ticks_speak n role.Seqr is on = Silent refl (λ j. refl) (λ j. refl)
    ticks_speak n role.Client is on = Speaks' n.num (client_tick m (client m w n.num)) (noted_of m w n.num) Ticks' (Before refl) refl (kept n.num (client_tick m (client m w n.num)) (declared m w n is on)) (n, refl)

    counted_speaks : (e : EventOf m) (v : World m) → Speaks w e v → Speaks w e (counted m v)
    counted_speaks e v (Silent t c n) = Silent t c n
    counted_speaks e v (Speaks' n t s i o x f d) = Speaks' n t s i o x f d

    pub speaks : (e : EventOf m) → Speaks w e (happens m w e)
    unfolding happens
    speaks (Commands k x) = counted_speaks _ _ (commands_speak k x (runs m w (client_id k)) refl)
    speaks (Deliver i) = counted_speaks _ _ (by (slice_get w.packets i) refl)
      where
        comes_speak : (p : Packet) → slice_get w.packets i ≡ Some p → (b : Bool) → runs m w p.to ≡ b → Speaks w (Deliver i) (comes m b (handed m w i) p)
        comes_speak p is true on = moves_speak i p p.to.role refl is on
        comes_speak p is false on = Silent refl (λ j. refl) (λ j. refl)

        by : (o : Option Packet) → slice_get w.packets i ≡ o → Speaks w (Deliver i) (delivers m w i o)
        by None is = Silent refl (λ j. refl) (λ j. refl)
        by (Some p) is = comes_speak p is (runs m w p.to) refl
    speaks (Lose i) = Silent refl (λ j. refl) (λ j. refl)
    speaks (Tick n) = counted_speaks _ _ (by (runs m w n) refl)
      where
        by : (b : Bool) → runs m w n ≡ b → Speaks w (Tick n) (ticks_if m b w n)
        by true on = ticks_speak n n.role refl on
        by false on = Silent refl (λ j. refl) (λ j. refl)
    speaks (Stop n) = counted_speaks _ _ (by (runs m w n))
      where
        by : (b : Bool) → Speaks w (Stop n) (stops_if m b w n)
        by true = Silent refl (λ j. refl) (λ j. refl)
        by false = Silent refl (λ j. refl) (λ j. refl)
