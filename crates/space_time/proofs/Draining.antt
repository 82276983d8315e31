-- A drain, delivery by delivery, as `tg_world` has it.
use Rattle.std.specs.Prelude.{◌≡◌, ℕ, suc, ◌+◌, ◌-◌, ◌<◌, ◌≤◌, Option, Some, None, refl}
use Rattle.std.proofs.Common.{sym, ap, subst, ◌∙◌, arith}
use Rattle.tg_base.specs.declared.fault.Which.{Which}
use Rattle.tg_kind.specs.Meaning.{Meaning}
use Rattle.tg_model.specs.declared.command.Event.TheVariants.{Deliver}
use Rattle.tg_protocol.specs.Worlds.{World, Ran, ran, lowest, limit_of, happens, drain_on, drain}
use Rattle.tg_world.specs.Kept.{KeptOf, KeepsWorld}
use Rattle.tg_world.specs.Runs.{due_by, due_of, end_by, end_of}

module _ (m : Meaning) where
  -- what a drain does by the lowest packet and the limit
  abbrev on_next : ℕ → World m → Option ℕ → Option Which → Ran m
  on_next n w o l = elim o as (λ _. Ran m) [
    | None ↦ ran m w None
    | Some i ↦ elim l as (λ _. Ran m) [
      | Some x ↦ ran m w (Some x)
      | None ↦ drain_on m n (happens m w (Deliver i))
    ]
  ]

  one_more : (n : ℕ) (w : World m) → drain_on m (suc n) w ≡ on_next n w (lowest m w.waiting) (limit_of m w)
  unfolding drain_on
  one_more n w = refl

  next_due : (n : ℕ) (w : World m) (o : Option ℕ) (l : Option Which) (i : ℕ) → due_by m l o ≡ Some i → on_next n w o l ≡ drain_on m n (happens m w (Deliver i))
  next_due n w None (Some x) i e = absurd cc
  next_due n w (Some j) (Some x) i e = absurd cc
  next_due n w None None i e = absurd cc
  next_due n w (Some j) None i e = let same : j ≡ i = cc in ap (λ (k : ℕ). drain_on m n (happens m w (Deliver k))) same

  none_due : (n : ℕ) (w : World m) (o : Option ℕ) (l : Option Which) → due_by m l o ≡ None → on_next n w o l ≡ ran m w (end_by m l o)
  none_due n w None l e = refl
  none_due n w (Some j) (Some x) e = refl
  none_due n w (Some j) None e = absurd cc

  -- a world that a drain came to
  pub record Reached (k : KeptOf m) (start : World m) : Type 0 where
    pub at : World m
    pub keeps : KeepsWorld m k at
    pub few : k.servers.steps ≤ 200000
    pub same : drain_on m (200001 - k.servers.steps) at ≡ drain m start

  steps_same : (k : KeptOf m) (w : World m) → KeepsWorld m k w → k.servers.steps ≡ w.steps
  steps_same k w h = ap (λ (v : World m). v.steps) h.same

  pub reached_start : (k : KeptOf m) (w : World m) → KeepsWorld m k w → k.servers.steps ≤ 200000 → Reached k w
  unfolding drain
  reached_start k w h few = record { at = w; keeps = h; few = few; same = ap (λ (n : ℕ). drain_on m (200001 - n) w) (steps_same k w h) }

  pub reached_next : (k l : KeptOf m) (start : World m) (i : ℕ) → (r : Reached k start) → due_of m r.at ≡ Some i → k.servers.steps < 200000 → l.servers.steps ≡ k.servers.steps + 1
      → KeepsWorld m l (happens m r.at (Deliver i)) → Reached l start
  reached_next k l start i r due room counts h =
      let few : l.servers.steps ≤ 200000 = omega (arith, room, counts) in
      let one : 200001 - k.servers.steps ≡ suc (200001 - l.servers.steps) = omega (arith, room, counts) in
      record {
        at = happens m r.at (Deliver i);
        keeps = h;
        few = few;
        same =
            sym (ap (λ (n : ℕ). drain_on m n r.at) one ∙ one_more (200001 - l.servers.steps) r.at ∙ next_due (200001 - l.servers.steps) r.at (lowest m r.at.waiting) (limit_of m r.at) i due)
            ∙ r.same;
      }

  ended : (k : KeptOf m) (start : World m) (r : Reached k start) → due_of m r.at ≡ None → drain m start ≡ ran m r.at (end_of m r.at)
  ended k start r due =
      let few : k.servers.steps ≤ 200000 = r.few in
      let one : 200001 - k.servers.steps ≡ suc (200000 - k.servers.steps) = omega (arith, few) in
      sym r.same ∙ ap (λ (n : ℕ). drain_on m n r.at) one ∙ one_more (200000 - k.servers.steps) r.at ∙ none_due (200000 - k.servers.steps) r.at (lowest m r.at.waiting) (limit_of m r.at) due

  pub ended_world : (k : KeptOf m) (start : World m) (r : Reached k start) → due_of m r.at ≡ None → KeepsWorld m k (drain m start).world
  ended_world k start r due = subst (λ (x : Ran m). KeepsWorld m k x.world) (sym (ended k start r due)) r.keeps

  pub ended_stop : (k : KeptOf m) (start : World m) (r : Reached k start) (o : Option Which) → due_of m r.at ≡ None → o ≡ end_of m r.at → o ≡ (drain m start).stopped
  ended_stop k start r o due e = e ∙ sym (ap (λ (x : Ran m). x.stopped) (ended k start r due))
