-- A settling ends a `trim`.
use Rattle.std.proofs.Common.{◌≡◌, ℕ, suc, ◌+◌, ◌*◌, ◌≤◌, List, [], ◌∷◌, length, false, refl, sym, subst, inl, arith, eqb, append-nil}
use Rattle.tg_base.specs.Layouts.{Layout}
use Rattle.tg_base.specs.declared.msg.Msg.TheVariants as msg
use Rattle.tg_base.specs.declared.packet.Out.{Out}
use Rattle.tg_kind.specs.Meaning.{Meaning}
use Rattle.tg_model.specs.declared.command.Command.TheVariants as cmd
use Rattle.tg_protocol.specs.Layouts.{units_of}
use Rattle.tg_protocol.specs.Trimming.{trim_asks}
use Rattle.tg_protocol.specs.ClientSteps.{task_asks}
use Rattle.tg_protocol.specs.Worlds.{World, unit, seqr, client}
use Rattle.tg_law_layouts.proofs.Moves.Members.{Has}
use Rattle.tg_law_cells.proofs.Cells.Befores.{has_at}
use Rattle.tg_law_finish.specs.Finish.Queues.{RisesWithin}
use Rattle.tg_law_finish.specs.Finish.Walks.{passes_of, floors}
use Rattle.tg_law_finish.proofs.Finish.Askers.{Kind, Distinct}
use Rattle.tg_law_finish.proofs.Finish.Asking.{Walkable, Reads, Trims'}
use Rattle.tg_law_finish.proofs.Finish.AtOnce.{long_asked, each_to, all_away}
use Rattle.tg_law_finish.proofs.Finish.Lines.{asks}
use Rattle.tg_law_finish.proofs.Finish.Lists.{Each}
use Rattle.tg_law_finish.proofs.Finish.Nets.{net}
use Rattle.tg_law_finish.proofs.Finish.Places.{UnitServes}
use Rattle.tg_law_finish.proofs.Finish.Probes.{StandsIn}
use Rattle.tg_law_finish.proofs.Finish.Reached.{NearFloor}
use Rattle.tg_law_finish.proofs.Finish.Rounds.{finishes_of}
use Rattle.tg_law_finish.proofs.Finish.Settles.{Facts}
use Rattle.tg_law_finish.proofs.Finish.Starts.{each_has, started}
use Rattle.tg_law_finish.proofs.Finish.Tasks.{Below}
use Rattle.tg_law_finish.proofs.Finish.Trimmers.{trimming_way}
use Rattle.tg_law_finish.proofs.Finish.Trimmings.{TrimStage, units_talk, TrimsStage, trims_talk}
use Rattle.tg_law_finish.proofs.Finish.Waited.{whole, for_trims, pays}
use Rattle.tg_law_finish.proofs.Finish.Waits.{Ends, world_kind, all_serve, waits_for}
use Rattle.tg_law_finish.proofs.Finish.Walked.{reads_few}
use Rattle.tg_law_finish.proofs.Finish.Working.{Working, Lawful}

-- Numbers that rise.

rises_long : (lo hi : ℕ) (is : List ℕ) → RisesWithin lo is hi → lo + length is ≤ hi
rises_long lo hi [] r = omega (arith, r)
rises_long lo hi (i ∷ is) r = let a = r.0 in let b = rises_long (suc i) hi is r.1 in omega (arith, a, b)

unequal : (x y : ℕ) → suc x ≤ y → eqb y x ≡ false
unequal x y le = grind (arith, le)

rises_above : (x lo hi : ℕ) (is : List ℕ) → suc x ≤ lo → RisesWithin lo is hi → Each (λ y. eqb y x ≡ false) is
rises_above x lo hi [] le r = tt
rises_above x lo hi (i ∷ is) le r = let a = r.0 in (unequal x i (omega (arith, le, a)), rises_above x (suc i) hi is (omega (arith, le, a)) r.1)

rises_distinct : (lo hi : ℕ) (is : List ℕ) → RisesWithin lo is hi → Distinct is
rises_distinct lo hi [] r = tt
rises_distinct lo hi (i ∷ is) r = (rises_above i (suc i) hi is (omega arith) r.1, rises_distinct (suc i) hi is r.1)

module _ (m : Meaning) (w : World m) (k : ℕ) (p : Layout) (longest : ℕ) (a : Working m w k p) (b : Lawful m w p longest) (u : Walkable m w p) (Fact : World m → Type 0) (facts : Facts m Fact (λ s y. NearFloor y)) (fact : Fact w) where
  abbrev tail : ℕ
  tail = (seqr m w p.seq).next

  abbrev low_at : ℕ → ℕ
  low_at n = (unit m w n).low

  abbrev many : ℕ
  many = length w.units

  abbrev layouts : ℕ
  layouts = (client m w k).layouts

  abbrev kind : Kind (λ n. (unit m w n).low) p
  kind = world_kind m w k p longest a b u

  abbrev EndsIn : ℕ → Type 0
  EndsIn n = Ends m w k p longest a b u n

  distinct : Distinct (units_of p)
  distinct = rises_distinct 0 (length w.units) (units_of p) u.units

  few_units : length (units_of p) ≤ length w.units
  few_units = let e = rises_long 0 (length w.units) (units_of p) u.units in omega (arith, e)

  -- from a sync or a walk on
  pub trims_finish_by : (f : Reads m w k p) → f.work.command ≡ cmd.Trim → EndsIn (2 * ((longest + 1) * tail) + 2 * layouts + passes_of longest (length f.work.oids) (floors m w) + 2 * many)
  trims_finish_by f such none =
      let s = length f.work.oids in
      let us = length (units_of p) in
      let x = started m w k p longest a b u s (trimming_way m) f such (whole s) in
      let few = reads_few layouts tail longest (for_trims m w.cluster w.stopped k p longest low_at many tail s kind) (passes_of longest s (floors m w)) (length x.os) x.left us x.within (pays longest s (floors m w)) in
      let short = few_units in
      finishes_of m w.cluster w.stopped k p _ (λ s y. NearFloor y) (trims_talk m w.cluster w.stopped k p longest low_at many tail s kind u.some_unit distinct) Fact facts w _ fact a.on_way refl refl
      (waits_for m w k p longest a b u x.os (TrimsStage m w.cluster w.stopped k p longest low_at many tail s kind u.some_unit distinct) (x.left + us) _ (inl (record { left = x.left; stage = x.stage; few = omega arith })) (omega (arith, few, short))) none

  -- where it waits for units
  module _ (f : Trims' m w k p) where
    abbrev os : List Out
    os = trim_asks p f.trims

    serving : (n : ℕ) → StandsIn (units_of p) n → UnitServes m w.cluster w.stopped k p longest (net m w) n
    serving n i = all_serve m w k p longest a b u n (subst (λ (v : ℕ). Has (units_of p) v) i.2 (has_at (units_of p) i.0 i.1))

    staged : TrimStage m w.cluster w.stopped k p longest (net m w) (client m w k) (asks (trim_asks p f.trims)) 0
    unfolding task_asks
    staged = record {
      below = f.trims.below;
      waits = f.trims.waits;
      done = [];
      asked = f.trims.waits;
      split = refl;
      shape = record { stand = a.client_stands; work = f.work; waits = f.waits; hand = f.hand; awaited = refl; again = refl; asks = refl; below = each_has (Below (client m w k).next) os f.below; away = all_away m w.cluster w.stopped k p longest (msg.Trim p.epoch f.trims.below) f.trims.waits };
      items = sym (append-nil _);
      some = f.asked.some u.some_unit;
      units = each_to (λ (v : ℕ × ℕ). StandsIn (units_of p) v.0) _ (λ v i. serving v.0 i) f.trims.waits f.asked.units;
      once = f.asked.once distinct;
      near = tt;
    }

    pub units_finish_by : EndsIn (2 * layouts + 2 * many)
    units_finish_by none =
        let long = long_asked (msg.Trim p.epoch f.trims.below) f.trims.waits in
        let less = f.asked.short in
        let short = few_units in
        finishes_of m w.cluster w.stopped k p _ (λ s y. NearFloor y) (units_talk m w.cluster w.stopped k p longest) Fact facts w _ fact a.on_way refl refl
        (waits_for m w k p longest a b u os (TrimStage m w.cluster w.stopped k p longest) 0 _ staged (omega (arith, long, less, short))) none
