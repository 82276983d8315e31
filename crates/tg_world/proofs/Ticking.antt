-- Rounds of ticks.
use Rattle.std.specs.Prelude.{◌≡◌, ℕ, suc, Bool, true, false, ◌==◌, List, [], ◌∷◌, length, Option, Some, None, refl}
use Rattle.std.proofs.Common.{ap, ◌∙◌}
use Rattle.tg_base.specs.declared.fault.Which.{Which}
use Rattle.tg_base.specs.declared.ids.NodeId.{NodeId}
use Rattle.tg_kind.specs.Meaning.{Meaning}
use Rattle.tg_model.specs.declared.command.Event.TheVariants.{Tick}
use Rattle.tg_protocol.specs.Worlds.{World, Ran, ran, runs, nodes, limit_of, happens, drain, tick_all, rounds, settle, unless_stopped}

module _ (m : Meaning) where
  abbrev on_tick : List NodeId → NodeId → World m → Bool → Option Which → Ran m
  on_tick ns n w b l = elim b as (λ _. Ran m) [
    | false ↦ tick_all m ns w
    | true ↦ elim l as (λ _. Ran m) [
      | Some x ↦ ran m w (Some x)
      | None ↦ tick_all m ns (happens m w (Tick n))
    ]
  ]

  one_tick : (n : NodeId) (ns : List NodeId) (w : World m) → tick_all m (n ∷ ns) w ≡ on_tick ns n w (runs m w n) (limit_of m w)
  unfolding tick_all
  one_tick n ns w = refl

  pub no_ticks : (w : World m) → tick_all m [] w ≡ ran m w None
  unfolding tick_all
  no_ticks w = refl

  -- a node that doesn't run is passed over
  pub tick_over : (n : NodeId) (ns : List NodeId) (w : World m) → runs m w n ≡ false → tick_all m (n ∷ ns) w ≡ tick_all m ns w
  tick_over n ns w e = one_tick n ns w ∙ ap (λ (b : Bool). on_tick ns n w b (limit_of m w)) e

  pub tick_stops : (n : NodeId) (ns : List NodeId) (w : World m) (x : Which) → runs m w n ≡ true → limit_of m w ≡ Some x → tick_all m (n ∷ ns) w ≡ ran m w (Some x)
  tick_stops n ns w x e f = one_tick n ns w ∙ ap (λ (b : Bool). on_tick ns n w b (limit_of m w)) e ∙ ap (λ (l : Option Which). on_tick ns n w true l) f

  pub tick_next : (n : NodeId) (ns : List NodeId) (w : World m) → runs m w n ≡ true → limit_of m w ≡ None → tick_all m (n ∷ ns) w ≡ tick_all m ns (happens m w (Tick n))
  tick_next n ns w e f = one_tick n ns w ∙ ap (λ (b : Bool). on_tick ns n w b (limit_of m w)) e ∙ ap (λ (l : Option Which). on_tick ns n w true l) f

  -- ---- rounds

  pub no_rounds : (w : World m) → rounds m 0 w ≡ ran m w None
  unfolding rounds
  no_rounds w = refl

  abbrev pub unless : Ran m → (World m → Ran m) → Option Which → Ran m
  unless r f o = elim o as (λ _. Ran m) [ Some x ↦ r | None ↦ f r.world ]

  abbrev after_ticks : ℕ → World m → World m → Ran m
  after_ticks n w v = elim (length v.packets == length w.packets) as (λ _. Ran m) [
    | true ↦ drain m v
    | false ↦ unless_stopped m (drain m v) (λ u. rounds m n u)
  ]

  one_round : (n : ℕ) (w : World m) → rounds m (suc n) w ≡ unless (tick_all m (nodes m w) w) (after_ticks n w) (tick_all m (nodes m w) w).stopped
  unfolding rounds
  one_round n w = refl

  pub round_stops : (n : ℕ) (w : World m) (x : Which) → (tick_all m (nodes m w) w).stopped ≡ Some x → rounds m (suc n) w ≡ tick_all m (nodes m w) w
  round_stops n w x e = one_round n w ∙ ap (λ (o : Option Which). unless (tick_all m (nodes m w) w) (after_ticks n w) o) e

  ticked : (n : ℕ) (w : World m) → (tick_all m (nodes m w) w).stopped ≡ None → rounds m (suc n) w ≡ after_ticks n w (tick_all m (nodes m w) w).world
  ticked n w e = one_round n w ∙ ap (λ (o : Option Which). unless (tick_all m (nodes m w) w) (after_ticks n w) o) e

  abbrev by_sent : ℕ → World m → Bool → Ran m
  by_sent n v b = elim b as (λ _. Ran m) [ true ↦ drain m v | false ↦ unless_stopped m (drain m v) (λ u. rounds m n u) ]

  -- ticks that sent nothing: the last round
  pub round_last : (n : ℕ) (w : World m) → (tick_all m (nodes m w) w).stopped ≡ None → (length (tick_all m (nodes m w) w).world.packets == length w.packets) ≡ true
      → rounds m (suc n) w ≡ drain m (tick_all m (nodes m w) w).world
  round_last n w e f = ticked n w e ∙ ap (λ (b : Bool). by_sent n (tick_all m (nodes m w) w).world b) f

  more_sent : (n : ℕ) (w : World m) → (tick_all m (nodes m w) w).stopped ≡ None → (length (tick_all m (nodes m w) w).world.packets == length w.packets) ≡ false
      → rounds m (suc n) w ≡ unless (drain m (tick_all m (nodes m w) w).world) (λ u. rounds m n u) (drain m (tick_all m (nodes m w) w).world).stopped
  more_sent n w e f = ticked n w e ∙ ap (λ (b : Bool). by_sent n (tick_all m (nodes m w) w).world b) f

  pub round_full : (n : ℕ) (w : World m) (x : Which) → (tick_all m (nodes m w) w).stopped ≡ None → (length (tick_all m (nodes m w) w).world.packets == length w.packets) ≡ false
      → (drain m (tick_all m (nodes m w) w).world).stopped ≡ Some x → rounds m (suc n) w ≡ drain m (tick_all m (nodes m w) w).world
  round_full n w x e f g = more_sent n w e f ∙ ap (λ (o : Option Which). unless (drain m (tick_all m (nodes m w) w).world) (λ u. rounds m n u) o) g

  pub round_next : (n : ℕ) (w : World m) → (tick_all m (nodes m w) w).stopped ≡ None → (length (tick_all m (nodes m w) w).world.packets == length w.packets) ≡ false
      → (drain m (tick_all m (nodes m w) w).world).stopped ≡ None → rounds m (suc n) w ≡ rounds m n (drain m (tick_all m (nodes m w) w).world).world
  round_next n w e f g = more_sent n w e f ∙ ap (λ (o : Option Which). unless (drain m (tick_all m (nodes m w) w).world) (λ u. rounds m n u) o) g

  -- ---- a settling

  one_settling : (w : World m) → settle m w ≡ unless (drain m w) (λ v. rounds m 8 v) (drain m w).stopped
  unfolding settle
  one_settling w = refl

  pub settle_stops : (w : World m) (x : Which) → (drain m w).stopped ≡ Some x → settle m w ≡ drain m w
  settle_stops w x e = one_settling w ∙ ap (λ (o : Option Which). unless (drain m w) (λ v. rounds m 8 v) o) e

  pub settle_on : (w : World m) → (drain m w).stopped ≡ None → settle m w ≡ rounds m 8 (drain m w).world
  settle_on w e = one_settling w ∙ ap (λ (o : Option Which). unless (drain m w) (λ v. rounds m 8 v) o) e
