-- Ticks of nodes and rounds, by what the code tests.
use Rattle.std.specs.Prelude.{◌≡◌, ℕ, zero, suc, ◌-◌, ◌<◌, ◌≤◌, true, false, ◌==◌, List, [], ◌∷◌, length, take, drop, Option, Some, None, is_some, refl}
use Rattle.std.proofs.Common.{sym, ap, subst, ◌∙◌, get_or, arith}
use Rattle.std.proofs.lemmas.Bool.Decides.{nat_tests}
use Rattle.tg_play.proofs.Splitting.{split_first}
use Rattle.tg_base.specs.declared.fault.Which.{Which}
use Rattle.tg_base.specs.declared.ids.NodeId.{NodeId}
use Rattle.tg_kind.specs.Meaning.{Meaning}
use Rattle.tg_model.specs.declared.command.Event.TheVariants.{Tick}
use Rattle.tg_protocol.specs.Worlds.{World, ran, runs, nodes, limit_of, happens, drain, tick_all, rounds}
use Rattle.tg_world.proofs.Ticking.{no_ticks, tick_over, tick_stops, tick_next, no_rounds, round_stops, round_last, round_full, round_next}

-- a list is its first node and the others
pub split_nodes : (ns : List NodeId) (d : NodeId) → 1 ≤ length ns → ns ≡ get_or ns 0 d ∷ take (length ns - 1) (drop 1 ns)
split_nodes [] d h = absurd (omega (arith, h))
split_nodes (n ∷ ns) d h = split_first (n ∷ ns) n h refl

-- what a test of two counts tells of them

pub as_many : (x y a b : ℕ) → x ≡ a → y ≡ b → x ≡ y → (a == b) ≡ true
as_many x y a b e f same = grind (arith, nat_tests)

pub not_as_many : (x y a b : ℕ) → x ≡ a → y ≡ b → (x ≡ y → ⊥) → (a == b) ≡ false
not_as_many x y a b e f other = grind (arith, nat_tests)

module _ (m : Meaning) where
  -- ---- ticks of some nodes

  pub all_none : (ns : List NodeId) (w : World m) → ns ≡ [] → tick_all m ns w ≡ ran m w None
  all_none ns w e = ap (λ (xs : List NodeId). tick_all m xs w) e ∙ no_ticks m w

  pub all_over : (ns : List NodeId) (n : NodeId) (rest : List NodeId) (w : World m) → ns ≡ n ∷ rest → runs m w n ≡ false → tick_all m ns w ≡ tick_all m rest w
  all_over ns n rest w e f = ap (λ (xs : List NodeId). tick_all m xs w) e ∙ tick_over m n rest w f

  pub all_stops : (ns : List NodeId) (n : NodeId) (rest : List NodeId) (w : World m) (x : Which) → ns ≡ n ∷ rest → runs m w n ≡ true → limit_of m w ≡ Some x → tick_all m ns w ≡ ran m w (Some x)
  all_stops ns n rest w x e f g = ap (λ (xs : List NodeId). tick_all m xs w) e ∙ tick_stops m n rest w x f g

  pub all_next : (ns : List NodeId) (n : NodeId) (rest : List NodeId) (w : World m) → ns ≡ n ∷ rest → runs m w n ≡ true → limit_of m w ≡ None → tick_all m ns w ≡ tick_all m rest (happens m w (Tick n))
  all_next ns n rest w e f g = ap (λ (xs : List NodeId). tick_all m xs w) e ∙ tick_next m n rest w f g

  -- ---- rounds

  no_stop : (o : Option Which) → is_some o ≡ false → o ≡ None
  no_stop None e = refl
  no_stop (Some x) e = absurd cc

  pub rounds_none : (left : ℕ) (w : World m) → left ≡ 0 → rounds m left w ≡ ran m w None
  rounds_none left w e = ap (λ (n : ℕ). rounds m n w) e ∙ no_rounds m w

  pub rounds_stop : (left : ℕ) (w : World m) (ns : List NodeId) → 0 < left → ns ≡ nodes m w → is_some (tick_all m ns w).stopped ≡ true → rounds m left w ≡ tick_all m ns w
  rounds_stop zero w ns pos is = absurd (omega (arith, pos))
  rounds_stop (suc n) w ns pos is = subst (λ (xs : List NodeId). is_some (tick_all m xs w).stopped ≡ true → rounds m (suc n) w ≡ tick_all m xs w) (sym is) (by (tick_all m (nodes m w) w).stopped refl)
    where
      by : (o : Option Which) → (tick_all m (nodes m w) w).stopped ≡ o → is_some (tick_all m (nodes m w) w).stopped ≡ true → rounds m (suc n) w ≡ tick_all m (nodes m w) w
      by None e t = let k : false ≡ true = sym (ap (λ (x : Option Which). is_some x) e) ∙ t in absurd cc
      by (Some x) e t = round_stops m n w x e

  pub rounds_last : (left : ℕ) (w : World m) (ns : List NodeId) → 0 < left → ns ≡ nodes m w → is_some (tick_all m ns w).stopped ≡ false → (length (tick_all m ns w).world.packets == length w.packets) ≡ true
      → rounds m left w ≡ drain m (tick_all m ns w).world
  rounds_last zero w ns pos is = absurd (omega (arith, pos))
  rounds_last (suc n) w ns pos is =
      subst (λ (xs : List NodeId). is_some (tick_all m xs w).stopped ≡ false → (length (tick_all m xs w).world.packets == length w.packets) ≡ true → rounds m (suc n) w ≡ drain m (tick_all m xs w).world) (sym is)
      (λ t e. round_last m n w (no_stop (tick_all m (nodes m w) w).stopped t) e)

  pub rounds_full : (left : ℕ) (w : World m) (ns : List NodeId) → 0 < left → ns ≡ nodes m w → is_some (tick_all m ns w).stopped ≡ false → (length (tick_all m ns w).world.packets == length w.packets) ≡ false
      → is_some (drain m (tick_all m ns w).world).stopped ≡ true → rounds m left w ≡ drain m (tick_all m ns w).world
  rounds_full zero w ns pos is = absurd (omega (arith, pos))
  rounds_full (suc n) w ns pos is =
      subst (λ (xs : List NodeId). is_some (tick_all m xs w).stopped ≡ false → (length (tick_all m xs w).world.packets == length w.packets) ≡ false → is_some (drain m (tick_all m xs w).world).stopped ≡ true
      → rounds m (suc n) w ≡ drain m (tick_all m xs w).world) (sym is)
      (λ t e. by (no_stop (tick_all m (nodes m w) w).stopped t) e (drain m (tick_all m (nodes m w) w).world).stopped refl)
    where
      by : (tick_all m (nodes m w) w).stopped ≡ None → (length (tick_all m (nodes m w) w).world.packets == length w.packets) ≡ false → (o : Option Which) → (drain m (tick_all m (nodes m w) w).world).stopped ≡ o
          → is_some (drain m (tick_all m (nodes m w) w).world).stopped ≡ true → rounds m (suc n) w ≡ drain m (tick_all m (nodes m w) w).world
      by t e None d s = let k : false ≡ true = sym (ap (λ (x : Option Which). is_some x) d) ∙ s in absurd cc
      by t e (Some x) d s = round_full m n w x t e d

  pub rounds_next : (left less : ℕ) (w : World m) (ns : List NodeId) → 0 < left → less ≡ left - 1 → ns ≡ nodes m w → is_some (tick_all m ns w).stopped ≡ false → (length (tick_all m ns w).world.packets == length w.packets) ≡ false
      → is_some (drain m (tick_all m ns w).world).stopped ≡ false → rounds m left w ≡ rounds m less (drain m (tick_all m ns w).world).world
  rounds_next zero less w ns pos l is = absurd (omega (arith, pos))
  rounds_next (suc n) less w ns pos l is =
      subst (λ (xs : List NodeId). is_some (tick_all m xs w).stopped ≡ false → (length (tick_all m xs w).world.packets == length w.packets) ≡ false → is_some (drain m (tick_all m xs w).world).stopped ≡ false
      → rounds m (suc n) w ≡ rounds m less (drain m (tick_all m xs w).world).world) (sym is)
      (λ t e d.
      round_next m n w (no_stop (tick_all m (nodes m w) w).stopped t) e (no_stop (drain m (tick_all m (nodes m w) w).world).stopped d)
      ∙ ap (λ (j : ℕ). rounds m j (drain m (tick_all m (nodes m w) w).world).world) (sym same))
    where
      same : less ≡ n
      same = omega (arith, l)
