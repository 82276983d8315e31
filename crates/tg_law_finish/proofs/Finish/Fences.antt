-- What a unit told of a fence stays so: it isn't below that epoch.
use Rattle.std.proofs.Common.{◌≡◌, ◌⊎◌, ℕ, ◌<◌, ◌≤◌, length, sym, ap, ◌∙◌, subst, inl, inr, arith, Some}
use Rattle.tg_base.specs.Clusters.{Header}
use Rattle.tg_base.specs.declared.ids.NodeId.{NodeId}
use Rattle.tg_base.specs.declared.ids.Role.TheVariants as role
use Rattle.tg_base.specs.declared.msg.Msg.{Msg}
use Rattle.tg_base.specs.declared.msg.Msg.TheVariants as msg
use Rattle.tg_base.specs.declared.packet.Packet.{Packet}
use Rattle.tg_kind.specs.Meaning.{Meaning}
use Rattle.tg_protocol.specs.Words.{unit_id}
use Rattle.tg_protocol.specs.Units.{UnitState, UnitAsk, unit_ask, on_ask, unit_step}
use Rattle.tg_protocol.specs.Worlds.{start}
use Rattle.tg_protocol.specs.Runs.{Moves}
use Rattle.tg_law_layouts.specs.Moves.After.{after}
use Rattle.tg_law_layouts.specs.Moves.Configs.{Config, config, unit_in}
use Rattle.tg_law_layouts.proofs.Moves.Members.{Has}
use Rattle.tg_law_layouts.proofs.Moves.Moves.{Comes, unit_turn, Keeps, run_keeps}
use Rattle.tg_law_layouts.proofs.Moves.Growth.{IsCalm, by_unit, unit_turn_grows}
use Rattle.tg_law_layouts.proofs.Requests.Answered.{turn_on, Said, old_or_said, unit_now}

ask_fenced : (s : UnitState) (a : UnitAsk) (e : ℕ) → (on_ask s a).says ≡ Some (msg.Fenced e) → e ≡ (on_ask s a).now.epoch
unfolding on_ask
ask_fenced s a e says = grind arith

step_fenced : (s : UnitState) (x : Msg) (e : ℕ) → (unit_step s x).says ≡ Some (msg.Fenced e) → e ≡ (unit_step s x).now.epoch
unfolding unit_step
step_fenced s x e says = ask_fenced s (unit_ask x) e says

no_less : (a b : ℕ) → a ≡ b → a ≤ b
no_less a b e = omega (arith, e)

up_to : (a b c : ℕ) → a ≤ b → b ≤ c → a ≤ c
up_to a b c x y = omega (arith, x, y)

module _ (m : Meaning) where
  pub record Fences (c : Config m) : Type 0 where
    pub each : (u e : ℕ) (a : Packet) → Has c.packets a → a.from ≡ unit_id u → a.msg ≡ msg.Fenced e → e ≤ (unit_in m c u).epoch

  fences_calm : (c : Config m) → Fences c → IsCalm m role.Unit c Fences
  fences_calm c h d q = record { each = λ u e a s from is. up_to e _ _ (h.each u e a (q.old a s (ap (λ (n : NodeId). n.role) from)) from is) (q.grows.unit u).epoch }

  fences_on : (c : Config m) → Fences c → (u : ℕ) (p : Packet) → Comes m c p (unit_id u) → u < length c.units → Fences (unit_turn m c u p (turn_on m c u p))
  fences_on c h u p comes less = record { each = λ v e a s from is. by v e a from is (old_or_said m c u p a s) }
    where
      d : Config m
      d = unit_turn m c u p (turn_on m c u p)

      by : (v e : ℕ) (a : Packet) → a.from ≡ unit_id v → a.msg ≡ msg.Fenced e → Has c.packets a ⊎ Said m c u p a → e ≤ (unit_in m d v).epoch
      by v e a from is (inl s) = up_to e _ _ (h.each v e a s from is) ((unit_turn_grows m c u p less).unit v).epoch
      by v e a from is (inr s) = subst (λ (w : ℕ). e ≤ (unit_in m d w).epoch) (ap (λ (n : NodeId). n.num) (sym comes.to_node ∙ (sym s.from ∙ from)))
          (subst (λ (t : UnitState). e ≤ t.epoch) (sym (unit_now m c u p less)) (no_less e _ (step_fenced (unit_in m c u) p.msg e (s.is ∙ ap (λ (x : Msg). Some x) is))))

  fences_keep : Keeps m Fences
  fences_keep c h = by_unit m Fences c h (fences_calm c h) (fences_on c h)

  fences_start : (h : Header) → Fences (config m (start m h))
  unfolding start
  fences_start h = record { each = λ u e a s. absurd s }

  pub fences_hold : (h : Header) (xs : Moves m) → Fences (config m (after m h xs))
  fences_hold h xs = run_keeps m Fences fences_keep xs (start m h) (fences_start h)
