-- Which client turns in a step of a world, by which turn, what is noted of its command, and what it sends.
use Rattle.std.proofs.Common.{◌≡◌, ◌⊎◌, ℕ, zero, suc, ◌<◌, List, [], ◌∷◌, ◌++◌, map, length, Bool, true, false, refl, sym, ap, ◌∙◌, inl, inr, arith, Option, Some, None, is_some}
use Rattle.std.specs.Prelude.{slice_get, slice_set, slice_index_or}
use Rattle.tg_base.specs.declared.ids.NodeId.{NodeId}
use Rattle.tg_base.specs.declared.ids.Role.{Role}
use Rattle.tg_base.specs.declared.ids.Role.TheVariants as role
use Rattle.tg_base.specs.declared.packet.Packet.{Packet}
use Rattle.tg_kind.specs.Meaning.{Meaning}
use Rattle.tg_model.specs.declared.command.Event.TheVariants.{Command as Commands, Deliver, Lose, Tick, Stop}
use Rattle.tg_model.specs.Kinds.{CommandOf, EventOf, NoteOf}
use Rattle.tg_base.specs.declared.msg.Msg.{Msg}
use Rattle.tg_base.specs.declared.packet.Out.{Out}
use Rattle.tg_protocol.specs.Units.{unit_step}
use Rattle.tg_protocol.specs.LayoutServers.{layout_step}
use Rattle.tg_protocol.specs.Sequencers.{seqr_step, seqr_tick}
use Rattle.tg_protocol.specs.Words.{client_id, seqr_id}
use Rattle.tg_protocol.specs.Clients.{Work, Client, new_client, upto}
use Rattle.tg_protocol.specs.ClientSteps.{ClientTurn, client_command, client_deliver, client_tick}
use Rattle.tg_protocol.specs.Worlds.{CommandStart, World, Told, client, unit, layout, seqr, packet_of, answer_to, noted_of, unit_moves, layout_moves, seqr_moves, client_turned, moves, comes, handed, delivers, noted_if, commands, ticks, ticks_if, stops_if, counted, happens, runs, without_num}
use Rattle.tg_law_layouts.specs.Moves.Configs.{config}
use Rattle.tg_law_layouts.proofs.Moves.Lists.{at_set}
use Rattle.std.proofs.lemmas.List.{get_or-set_same}
use Rattle.tg_law_layouts.proofs.Moves.Members.{Has, has_got, has_map, set_long}
use Rattle.tg_law_layouts.proofs.Moves.Moves.{ClientInput, Commanded, Hears', Ticks'}
use Rattle.tg_law_replies.proofs.Books.Worlds.{declared, nil_right}

set_other : {X : Type 0} → (xs : List X) (i : ℕ) (y : X) (k : ℕ) (d : X) → (k ≡ i → ⊥) → slice_index_or (slice_set xs i y) k d ≡ slice_index_or xs k d
set_other [] i y k d n = refl
set_other (x ∷ xs) zero y zero d n = absurd (n refl)
set_other (x ∷ xs) zero y (suc k) d n = refl
set_other (x ∷ xs) (suc i) y zero d n = refl
set_other (x ∷ xs) (suc i) y (suc k) d n = set_other xs i y k d (λ e. n (ap suc e))

-- no client sent any of these packets
abbrev pub OfOthers : List Packet → Type 0
OfOthers ps = (p : Packet) (k : ℕ) → Has ps p → p.from ≡ client_id k → ⊥

pub none_sent : OfOthers []
none_sent p k i e = absurd i

module _ (m : Meaning) where
  -- how a client stands
  abbrev pub as_given : Client m → CommandStart
  as_given c = record { next = c.next; epoch = c.stand.epoch; upto = upto m c }

  abbrev pub IsCommanded : (w : World m) (n : ℕ) (t : ClientTurn m) → ClientInput m (config m w) n t → Type 0
  IsCommanded w n t (Commanded x) = Unit {0}
  IsCommanded w n t (Hears' p comes) = ⊥
  IsCommanded w n t Ticks' = ⊥

  -- what was noted of a client that turns: what was noted before, or, where it is given a command and has no work, how it stands
  pub data Noted (w : World m) (n : ℕ) (s : CommandStart) (given : Type 0) : Type 0 where
    Before : s ≡ noted_of m w n → (given → (client m w n).work ≡ None → ⊥) → Noted w n s given
    Anew : (client m w n).work ≡ None → s ≡ as_given (client m w n) → Noted w n s given

  -- as much is noted as there are clients
  abbrev pub IsEven : World m → Type 0
  IsEven w = length w.noted ≡ length w.clients

  -- one client turns, and no other
  abbrev pub Turns : World m → World m → ℕ → ClientTurn m → CommandStart → ℕ → Type 0
  Turns w v n t s k = ((k ≡ n) × (client m v k ≡ t.now) × (noted_of m v k ≡ s)) ⊎ ((client m v k ≡ client m w k) × (noted_of m v k ≡ noted_of m w k) × (k ≡ n → ⊥))

  abbrev pub told_of : World m → ℕ → CommandStart → NoteOf m → Told m
  told_of w n s y = record { mark = record { event = w.event; client = n; tx = y.tx; what = y.what }; noted = s }

  -- what a step makes of the clients, and of what is told, noted and sent
  pub data Acts (w : World m) (e : EventOf m) (v : World m) : Type 0 where
    Others : (ps : List Packet) → v.packets ≡ w.packets ++ ps → OfOthers ps → v.told ≡ w.told → ((k : ℕ) → client m v k ≡ client m w k) → ((k : ℕ) → noted_of m v k ≡ noted_of m w k) → IsEven v → Acts w e v
    Acts' : (n : ℕ) (t : ClientTurn m) (s : CommandStart) → (i : ClientInput m (config m w) n t) → Noted w n s (IsCommanded w n t i) → v.packets ≡ w.packets ++ map (packet_of m (client_id n)) t.sends →
        v.told ≡ w.told ++ map (told_of w n s) t.notes → ((k : ℕ) → Turns w v n t s k) → IsEven v → Acts w e v

  pub answers_others : (p : Packet) (x : Option Msg) → ((k : ℕ) → p.to ≡ client_id k → ⊥) → OfOthers (answer_to m p x)
  answers_others p None other q k i e = absurd i
  answers_others p (Some x) other q k (inl is) e = other k (ap (λ (y : Packet). y.from) (sym is) ∙ e)
  answers_others p (Some x) other q k (inr i) e = absurd i

  pub not_unit : (a : NodeId) (k : ℕ) → a.role ≡ role.Unit → a ≡ client_id k → ⊥
  not_unit a k is e = no (sym is ∙ ap (λ (z : NodeId). z.role) e)
    where
      no : ◌≡◌ {A = Role} role.Unit role.Client → ⊥
      no z = cc

  pub not_layout : (a : NodeId) (k : ℕ) → a.role ≡ role.Layout → a ≡ client_id k → ⊥
  not_layout a k is e = no (sym is ∙ ap (λ (z : NodeId). z.role) e)
    where
      no : ◌≡◌ {A = Role} role.Layout role.Client → ⊥
      no z = cc

  pub seqrs_others : (n : ℕ) (os : List Out) → OfOthers (map (packet_of m (seqr_id n)) os)
  seqrs_others n os p k i e = let y = has_map (packet_of m (seqr_id n)) os p i in no (ap (λ (z : NodeId). z.role) (ap (λ (z : Packet). z.from) (sym y.is) ∙ e))
    where
      no : ◌≡◌ {A = Role} role.Seqr role.Client → ⊥
      no z = cc

  module _ (w : World m) (even : IsEven w) where
    idle : (e : EventOf m) (v : World m) → v.packets ≡ w.packets → v.told ≡ w.told → v.clients ≡ w.clients → v.noted ≡ w.noted → v.cluster ≡ w.cluster → Acts w e v
    idle e v p t c n h = Others [] (p ∙ sym (nil_right w.packets)) none_sent t (λ k. λ i. slice_index_or (c i) k (new_client m (h i) k)) (λ k. λ i. slice_index_or (n i) k (record { next = 1; epoch = 1; upto = 0 })) (ap length n ∙ (even ∙ sym (ap length c)))

    one : (n : ℕ) (x : Client m) → n < length w.clients → (k : ℕ) → ((k ≡ n) × (slice_index_or (slice_set w.clients n x) k (new_client m w.cluster k) ≡ x)) ⊎ ((k ≡ n → ⊥) × (slice_index_or (slice_set w.clients n x) k (new_client m w.cluster k) ≡ client m w k))
    one n x less = at_set w.clients n x (new_client m w.cluster) (λ k y. ((k ≡ n) × (y ≡ x)) ⊎ ((k ≡ n → ⊥) × (y ≡ client m w k))) less (inl (refl, refl)) (λ k other. inr (other, refl))

    -- where nothing is noted anew
    kept : (n : ℕ) (t : ClientTurn m) → n < length w.clients → (k : ℕ) → Turns w (client_turned m w n t) n t (noted_of m w n) k
    unfolding client_turned
    kept n t less k = by (one n t.now less k)
      where
        by : ((k ≡ n) × (client m (client_turned m w n t) k ≡ t.now)) ⊎ ((k ≡ n → ⊥) × (client m (client_turned m w n t) k ≡ client m w k)) → Turns w (client_turned m w n t) n t (noted_of m w n) k
        by (inl e) = inl (e.0, e.1, ap (noted_of m w) e.0)
        by (inr e) = inr (e.1, refl, e.0)

    turned_even : (n : ℕ) (x : Client m) → length w.noted ≡ length (slice_set w.clients n x)
    turned_even n x = even ∙ sym (set_long w.clients n x)

    noted_even : (n : ℕ) (s : CommandStart) (x : Client m) → length (slice_set w.noted n s) ≡ length (slice_set w.clients n x)
    noted_even n s x = set_long w.noted n s ∙ (even ∙ sym (set_long w.clients n x))

    noted_here : (n : ℕ) (s d : CommandStart) → n < length w.clients → slice_index_or (slice_set w.noted n s) n d ≡ s
    noted_here n s d less = get_or-set_same w.noted n s d (omega (arith, less, even))

    commanded : (n : ℕ) (x : CommandOf m) (b : Bool) → is_some (client m w n).work ≡ b → n < length w.clients → (e : EventOf m) → Acts w e (client_turned m (noted_if m b w n (client m w n)) n (client_command m (client m w n) x))
    unfolding client_turned
    commanded n x true e less at = Acts' n (client_command m (client m w n) x) (noted_of m w n) (Commanded x) (Before refl (λ i free. busy (client m w n).work free e)) refl refl (kept n (client_command m (client m w n) x) less) (turned_even n _)
      where
        busy : (o : Option (Work m)) → o ≡ None → is_some o ≡ true → ⊥
        busy None z f = absurd (cc)
        busy (Some v) z f = absurd (cc)
    commanded n x false e less at = Acts' n (client_command m (client m w n) x) (noted_of m u n) (Commanded x) (Anew (none (client m w n).work e) (noted_here n _ _ less)) refl refl turned (noted_even n _ _)
      where
        none : (o : Option (Work m)) → is_some o ≡ false → o ≡ None
        none None f = refl
        none (Some v) f = absurd (cc)

        u : World m
        u = noted_if m false w n (client m w n)

        v : World m
        v = client_turned m u n (client_command m (client m w n) x)

        turned : (k : ℕ) → Turns w v n (client_command m (client m w n) x) (noted_of m u n) k
        turned k = by (one n (client_command m (client m w n) x).now less k)
          where
            by : ((k ≡ n) × (client m v k ≡ (client_command m (client m w n) x).now)) ⊎ ((k ≡ n → ⊥) × (client m v k ≡ client m w k)) → Turns w v n (client_command m (client m w n) x) (noted_of m u n) k
            by (inl f) = inl (f.0, f.1, ap (noted_of m u) f.0)
            by (inr f) = inr (f.1, set_other w.noted n _ k _ f.0, f.0)

    commands_act : (n : ℕ) (x : CommandOf m) (b : Bool) → runs m w (client_id n) ≡ b → (e : EventOf m) → Acts w e (commands m b w n x)
    commands_act n x true on e = commanded n x (is_some (client m w n).work) refl (declared m w (client_id n) refl on) e
    commands_act n x false on e = idle e w refl refl refl refl refl

    client_is : (a : NodeId) → a.role ≡ role.Client → a ≡ client_id a.num
    client_is a e = ap (λ (r : Role). record { role = r; num = a.num }) e

    moves_act : (i : ℕ) (p : Packet) (r : Role) → p.to.role ≡ r → slice_get w.packets i ≡ Some p → runs m w p.to ≡ true → Acts w (Deliver i) (moves m (handed m w i) p r)
    unfolding unit_moves layout_moves seqr_moves client_turned
    moves_act i p role.Unit is got on = Others (answer_to m p (unit_step (unit m w p.to.num) p.msg).says) refl (answers_others p _ (λ k e. not_unit p.to k is e)) refl (λ j. refl) (λ j. refl) even
    moves_act i p role.Layout is got on = Others (answer_to m p (layout_step (layout m w p.to.num) p.msg).says) refl (answers_others p _ (λ k e. not_layout p.to k is e)) refl (λ j. refl) (λ j. refl) even
    moves_act i p role.Seqr is got on = Others (map (packet_of m (seqr_id p.to.num)) (seqr_step (seqr m w p.to.num) p.from p.rid p.msg).sends) refl (seqrs_others p.to.num _) refl (λ j. refl) (λ j. refl) even
    moves_act i p role.Client is got on =
        let t = client_deliver m (client m w p.to.num) p.from p.rid p.msg in
        Acts' p.to.num t (noted_of m w p.to.num) (Hears' p (record { sent = has_got w.packets i p got; to_node = client_is p.to is })) (Before refl (λ j. absurd j)) refl refl (kept p.to.num t (declared m w p.to is on)) (turned_even p.to.num _)

    ticks_act : (n : NodeId) (r : Role) → n.role ≡ r → runs m w n ≡ true → Acts w (Tick n) (ticks m w n.num r)
    unfolding client_turned
    ticks_act n role.Unit is on = idle (Tick n) w refl refl refl refl refl
    ticks_act n role.Layout is on = idle (Tick n) w refl refl refl refl refl
    ticks_act n role.Seqr is on = Others (map (packet_of m (seqr_id n.num)) (seqr_tick (seqr m w n.num)).sends) refl (seqrs_others n.num _) refl (λ j. refl) (λ j. refl) even
    ticks_act n role.Client is on = Acts' n.num (client_tick m (client m w n.num)) (noted_of m w n.num) Ticks' (Before refl (λ j. absurd j)) refl refl (kept n.num (client_tick m (client m w n.num)) (declared m w n is on)) (turned_even n.num _)

    counted_acts : (e : EventOf m) (v : World m) → Acts w e v → Acts w e (counted m v)
    counted_acts e v (Others ps p o t c n z) = Others ps p o t c n z
    counted_acts e v (Acts' n t s i o p x f z) = Acts' n t s i o p x f z

    pub acts : (e : EventOf m) → Acts w e (happens m w e)
    unfolding happens
    acts (Commands k x) = counted_acts _ _ (commands_act k x (runs m w (client_id k)) refl (Commands k x))
    acts (Deliver i) = counted_acts _ _ (by (slice_get w.packets i) refl)
      where
        comes_act : (p : Packet) → slice_get w.packets i ≡ Some p → (b : Bool) → runs m w p.to ≡ b → Acts w (Deliver i) (comes m b (handed m w i) p)
        comes_act p is true on = moves_act i p p.to.role refl is on
        comes_act p is false on = idle (Deliver i) (handed m w i) refl refl refl refl refl

        by : (o : Option Packet) → slice_get w.packets i ≡ o → Acts w (Deliver i) (delivers m w i o)
        by None is = idle (Deliver i) w refl refl refl refl refl
        by (Some p) is = comes_act p is (runs m w p.to) refl
    acts (Lose i) = counted_acts _ _ (idle (Lose i) (lost i) refl refl refl refl refl)
      where
        lost : ℕ → World m
        lost i = record w { waiting = without_num m i w.waiting }
    acts (Tick n) = counted_acts _ _ (by (runs m w n) refl)
      where
        by : (b : Bool) → runs m w n ≡ b → Acts w (Tick n) (ticks_if m b w n)
        by true on = ticks_act n n.role refl on
        by false on = idle (Tick n) w refl refl refl refl refl
    acts (Stop n) = counted_acts _ _ (by (runs m w n))
      where
        by : (b : Bool) → Acts w (Stop n) (stops_if m b w n)
        by true = idle (Stop n) (record w { stopped = n ∷ w.stopped }) refl refl refl refl refl
        by false = idle (Stop n) w refl refl refl refl refl
