-- Ticks of nodes and rounds, as `tg_world` has them, by what the code tests.
use Rattle.std.specs.Prelude.{◌≡◌, ℕ, zero, suc, ◌-◌, ◌≤◌, Bool, true, false, ◌==◌, List, [], ◌∷◌, length, take, drop, Option, Some, None, refl}
use Rattle.std.proofs.Common.{sym, ap, ◌∙◌, get_or, arith}
use Rattle.std.proofs.lemmas.Bool.Decides.{nat_tests}
use Rattle.tg_play.proofs.Splitting.{split_first}
use Rattle.tg_base.specs.declared.fault.Which.{Which}
use Rattle.tg_base.specs.declared.ids.NodeId.{NodeId}
use Rattle.tg_kind.specs.Meaning.{Meaning}
use Rattle.tg_model.specs.declared.command.Event.TheVariants.{Tick}
use Rattle.tg_protocol.specs.Worlds.{World, Ran, ran, runs, nodes, limit_of, happens, drain, tick_all, rounds, settle, unless_stopped}

-- a list is its first node and the others
pub split_nodes : (ns : List NodeId) (d : NodeId) → 1 ≤ length ns → ns ≡ get_or ns 0 d ∷ take (length ns - 1) (drop 1 ns)
split_nodes [] d h = absurd (omega (arith, h))
split_nodes (n ∷ ns) d h = split_first (n ∷ ns) n h refl

-- what a test of two counts tells of them

pub as_many : (x y a b : ℕ) → x ≡ a → y ≡ b → x ≡ y → (a == b) ≡ true
as_many x y a b e f same = grind (arith, nat_tests)

pub not_as_many : (x y a b : ℕ) → x ≡ a → y ≡ b → (x ≡ y → ⊥) → (a == b) ≡ false
not_as_many x y a b e f other = grind (arith, nat_tests)

module _ (m : Meaning) where
  abbrev on_tick : List NodeId → NodeId → World m → Bool → Option Which → Ran m
  on_tick ns n w b l = elim b as (λ _. Ran m) [
    | false ↦ tick_all m ns w
    | true ↦ elim l as (λ _. Ran m) [
      | Some x ↦ ran m w (Some x)
      | None ↦ tick_all m ns (happens m w (Tick n))
    ]
  ]

  one_tick : (n : NodeId) (ns : List NodeId) (w : World m) → tick_all m (n ∷ ns) w ≡ on_tick ns n w (runs m w n) (limit_of m w)
  unfolding tick_all
  one_tick n ns w = refl

  pub no_ticks : (w : World m) → tick_all m [] w ≡ ran m w None
  unfolding tick_all
  no_ticks w = refl

  -- a node that doesn't run is passed over
  pub tick_over : (n : NodeId) (ns : List NodeId) (w : World m) → runs m w n ≡ false → tick_all m (n ∷ ns) w ≡ tick_all m ns w
  tick_over n ns w e = one_tick n ns w ∙ ap (λ (b : Bool). on_tick ns n w b (limit_of m w)) e

  pub tick_stops : (n : NodeId) (ns : List NodeId) (w : World m) (x : Which) → runs m w n ≡ true → limit_of m w ≡ Some x → tick_all m (n ∷ ns) w ≡ ran m w (Some x)
  tick_stops n ns w x e f = one_tick n ns w ∙ ap (λ (b : Bool). on_tick ns n w b (limit_of m w)) e ∙ ap (λ (l : Option Which). on_tick ns n w true l) f

  pub tick_next : (n : NodeId) (ns : List NodeId) (w : World m) → runs m w n ≡ true → limit_of m w ≡ None → tick_all m (n ∷ ns) w ≡ tick_all m ns (happens m w (Tick n))
  tick_next n ns w e f = one_tick n ns w ∙ ap (λ (b : Bool). on_tick ns n w b (limit_of m w)) e ∙ ap (λ (l : Option Which). on_tick ns n w true l) f

  -- ---- ticks of some nodes

  pub all_none : (ns : List NodeId) (w : World m) → ns ≡ [] → tick_all m ns w ≡ ran m w None
  all_none ns w e = ap (λ (xs : List NodeId). tick_all m xs w) e ∙ no_ticks w

  pub all_over : (ns : List NodeId) (n : NodeId) (rest : List NodeId) (w : World m) → ns ≡ n ∷ rest → runs m w n ≡ false → tick_all m ns w ≡ tick_all m rest w
  all_over ns n rest w e f = ap (λ (xs : List NodeId). tick_all m xs w) e ∙ tick_over n rest w f

  pub all_stops : (ns : List NodeId) (n : NodeId) (rest : List NodeId) (w : World m) (x : Which) → ns ≡ n ∷ rest → runs m w n ≡ true → limit_of m w ≡ Some x → tick_all m ns w ≡ ran m w (Some x)
  all_stops ns n rest w x e f g = ap (λ (xs : List NodeId). tick_all m xs w) e ∙ tick_stops n rest w x f g

  pub all_next : (ns : List NodeId) (n : NodeId) (rest : List NodeId) (w : World m) → ns ≡ n ∷ rest → runs m w n ≡ true → limit_of m w ≡ None → tick_all m ns w ≡ tick_all m rest (happens m w (Tick n))
  all_next ns n rest w e f g = ap (λ (xs : List NodeId). tick_all m xs w) e ∙ tick_next n rest w f g

  -- ---- rounds

  pub rounds_none : (left : ℕ) (w : World m) → left ≡ 0 → rounds m left w ≡ ran m w None
  unfolding rounds
  rounds_none left w e = ap (λ (n : ℕ). rounds m n w) e

  -- what follows the ticks of a round, before which so many packets had been sent
  abbrev pub after_ticks : ℕ → ℕ → World m → Ran m
  after_ticks n sent v = elim (length v.packets == sent) as (λ _. Ran m) [
    | true ↦ drain m v
    | false ↦ unless_stopped m (drain m v) (λ u. rounds m n u)
  ]

  one_round : (n : ℕ) (w : World m) → rounds m (suc n) w ≡ unless_stopped m (tick_all m (nodes m w) w) (after_ticks n (length w.packets))
  unfolding rounds
  one_round n w = refl

  pub round_is : (left sent : ℕ) (ns : List NodeId) (w : World m) → (left ≡ 0 → ⊥) → ns ≡ nodes m w → sent ≡ length w.packets
      → unless_stopped m (tick_all m ns w) (after_ticks (left - 1) sent) ≡ rounds m left w
  round_is zero sent ns w some a b = absurd (some refl)
  round_is (suc n) sent ns w some a b =
      let one : suc n - 1 ≡ n = omega arith in
      ap (λ (xs : List NodeId). unless_stopped m (tick_all m xs w) (after_ticks (suc n - 1) sent)) a
      ∙ ap (λ (k : ℕ). unless_stopped m (tick_all m (nodes m w) w) (after_ticks (suc n - 1) k)) b
      ∙ ap (λ (k : ℕ). unless_stopped m (tick_all m (nodes m w) w) (after_ticks k (length w.packets))) one
      ∙ sym (one_round n w)

  abbrev by_sent : ℕ → World m → Bool → Ran m
  by_sent n v b = elim b as (λ _. Ran m) [ true ↦ drain m v | false ↦ unless_stopped m (drain m v) (λ u. rounds m n u) ]

  -- ticks that sent nothing: the last round
  pub idle_round : (n sent : ℕ) (v : World m) (now : ℕ) → now ≡ length v.packets → now ≡ sent → after_ticks n sent v ≡ drain m v
  idle_round n sent v now is same = ap (λ (b : Bool). by_sent n v b) (as_many now sent (length v.packets) sent is refl same)

  pub busy_round : (n sent : ℕ) (v : World m) (now : ℕ) → now ≡ length v.packets → (now ≡ sent → ⊥) → after_ticks n sent v ≡ unless_stopped m (drain m v) (λ u. rounds m n u)
  busy_round n sent v now is other = ap (λ (b : Bool). by_sent n v b) (not_as_many now sent (length v.packets) sent is refl other)

  -- a settling
  pub settling : (w : World m) → unless_stopped m (drain m w) (λ v. rounds m 8 v) ≡ settle m w
  unfolding settle
  settling w = refl
