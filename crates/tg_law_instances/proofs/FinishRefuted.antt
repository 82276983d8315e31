-- A world in which a client waits alone, ready, and isn't answered by a settling: its command doesn't finish.
use Rattle.std.proofs.Common.{◌≡◌, ℕ, List, [], ◌∷◌, length, ◌≤◌, Bool, true, false, Some, None, refl, sym, ap, subst, ◌⊎◌, inl, inr, arith}
use Rattle.std.specs.Prelude.{◌*◌, ◌&&◌, ◌||◌, ◌==◌, ◌≢◌, not, is_some, nat_lt, nat_le, filter, slice_index_or}
use Rattle.std.specs.List.{list_all}
use Rattle.tg_model.specs.declared.command.Command.TheVariants as cmd
use Rattle.tg_base.specs.Layouts.{Layout}
use Rattle.tg_base.specs.Changes.{Changed}
use Rattle.tg_base.specs.Clusters.{Header}
use Rattle.tg_model.specs.Kinds.{CommandOf}
use Rattle.tg_protocol.specs.Words.{client_id, unit_id, layout_id, seqr_id, numbers}
use Rattle.tg_protocol.specs.Layouts.{units_of, first_layout, next_units}
use Rattle.tg_protocol.specs.Units.{UnitState, new_unit}
use Rattle.tg_protocol.specs.LayoutServers.{LayoutState, new_layout}
use Rattle.tg_protocol.specs.Sequencers.{SeqrState, first_epoch, new_seqr}
use Rattle.tg_protocol.specs.Clients.{Client, Work, new_client}
use Rattle.tg_protocol.specs.Worlds.{unit, seqr, client, noted_of, runs, has_stopped, latest, settle}
use Rattle.tg_protocol.specs.Finishing.{WaitsAlone, IsReadyFor, CommandFinishes, NoneAbove, IsReadyToChange, ReconfFinishes}
use Rattle.tg_law_instances.proofs.Small.{is_none}
use Rattle.tg_law_verdicts.proofs.Members.{has_contained, and_both, all_pass}
use Rattle.tg_law_verdicts.proofs.Tests.{same_number, lt_of, le_of}
use Rattle.tg_law_examples.proofs.SevenKinds.{kinds}
use Rattle.tg_law_instances.proofs.Same.{layouts_same}
use Rattle.tg_law_instances.proofs.Readings.{either_so, index_or}
use Rattle.tg_law_instances.proofs.LogSound.{in_numbers}
use Rattle.tg_law_instances.proofs.Refuted.{not_both}
use Rattle.tg_law_instances.proofs.Tests.{W, ranges_eq}
use Rattle.tg_law_instances.proofs.StepTests.{is_idle}
use Rattle.tg_law_instances.proofs.FinishSound.{is_alone, serves, unfenced, unfenced_so}
use Rattle.tg_law_instances.proofs.PlaySound.{idle_none}

abbrev works_in : W → ℕ → Bool
works_in w u = runs kinds w (unit_id u) && ((unit kinds w u).epoch == (latest kinds w).epoch)

abbrev is_fit : W → ℕ → Bool
is_fit w k =
    list_all (works_in w) (units_of (latest kinds w)) && runs kinds w (seqr_id (latest kinds w).seq) && serves (seqr kinds w (latest kinds w).seq) (latest kinds w).epoch
    && nat_lt w.cluster.layouts (2 * length (filter (λ n. runs kinds w (layout_id n)) (numbers w.cluster.layouts 0))) && ranges_eq (client kinds w k).stand (latest kinds w)

fit_is : (w : W) (k : ℕ) → is_fit w k ≡ true → IsReadyFor kinds w k
fit_is w k h =
    let q = latest kinds w in
    let s = seqr kinds w q.seq in
    let most = nat_lt w.cluster.layouts (2 * length (filter (λ n. runs kinds w (layout_id n)) (numbers w.cluster.layouts 0))) in
    let b1 = and_both (list_all (works_in w) (units_of q) && runs kinds w (seqr_id q.seq) && serves s q.epoch && most) (ranges_eq (client kinds w k).stand q) h in
    let b2 = and_both (list_all (works_in w) (units_of q) && runs kinds w (seqr_id q.seq) && serves s q.epoch) most b1.0 in
    let b3 = and_both (list_all (works_in w) (units_of q) && runs kinds w (seqr_id q.seq)) (serves s q.epoch) b2.0 in
    let b4 = and_both (list_all (works_in w) (units_of q)) (runs kinds w (seqr_id q.seq)) b3.0 in
    let c1 = and_both ((s.epoch == q.epoch) && nat_le s.proj.start s.next) (unfenced s.fence) b3.1 in
    let c2 = and_both (s.epoch == q.epoch) (nat_le s.proj.start s.next) c1.0 in
    record {
      units = λ u i. let t = and_both (runs kinds w (unit_id u)) ((unit kinds w u).epoch == q.epoch) (all_pass (works_in w) (units_of q) b4.0 u (has_contained (units_of q) u i)) in (t.0, same_number (unit kinds w u).epoch q.epoch t.1);
      seqr_runs = b4.1;
      serves = record { epoch = same_number s.epoch q.epoch c2.0; scanned = le_of s.proj.start s.next c2.1; unfenced = unfenced_so s.fence c1.1 };
      layouts = lt_of w.cluster.layouts (2 * length (filter (λ n. runs kinds w (layout_id n)) (numbers w.cluster.layouts 0))) b2.1;
      stand = layouts_same (client kinds w k).stand q b1.1;
    }

no_more : {X : Type 0} → (xs : List X) → (length xs == 0) ≡ true → xs ≡ []
no_more [] h = refl
no_more (x ∷ xs) h = let e = same_number (length (x ∷ xs)) 0 h in absurd (omega (arith, e))

abbrev is_other : W → ℕ → ℕ → Bool
is_other w k j = (j == k) || not (runs kinds w (client_id j)) || is_idle (client kinds w j).work

other_idle : (w : W) (k : ℕ) → list_all (is_other w k) (numbers (length w.clients) 0) ≡ true → (j : ℕ) → j ≢ k → runs kinds w (client_id j) ≡ true → (client kinds w j).work ≡ None
other_idle w k all j differs run =
    let less = lt_of j (length w.clients) (and_both (nat_lt j (length w.clients)) (not (has_stopped kinds w (client_id j))) run).0 in
    let t = all_pass (is_other w k) (numbers (length w.clients) 0) all j (in_numbers (length w.clients) 0 j (omega arith) (omega (arith, less))) in
    elim (either_so ((j == k) || not (runs kinds w (client_id j))) (is_idle (client kinds w j).work) t) [
      | inl a ↦ absurd (neither (either_so (j == k) (not (runs kinds w (client_id j))) a))
      | inr b ↦ idle_none (client kinds w j).work b
    ]
  where
    neither : ((j == k) ≡ true) ⊎ (not (runs kinds w (client_id j)) ≡ true) → ⊥
    neither (inl e) = differs (same_number j k e)
    neither (inr n) = not_both (runs kinds w (client_id j)) n run

-- it waits alone, and a settling comes to its end without an answer
abbrev is_stuck : W → ℕ → Bool
is_stuck w k = is_alone w k && not (is_some (settle kinds w).stopped) && not (is_idle (client kinds (settle kinds w).world k).work)

record Stuck (w : W) (k : ℕ) (x : CommandOf kinds) : Type 0 where
  alone : WaitsAlone kinds w k x
  waits : is_idle (client kinds (settle kinds w).world k).work ≡ true → ⊥

stuck_so : (w : W) (k : ℕ) (x : CommandOf kinds) (v : Work kinds) → (client kinds w k).work ≡ Some v → v.command ≡ x → is_stuck w k ≡ true → Stuck w k x
stuck_so w k x v works command h =
    let b1 = and_both (is_alone w k && not (is_some (settle kinds w).stopped)) (not (is_idle (client kinds (settle kinds w).world k).work)) h in
    let b2 = and_both (is_alone w k) (not (is_some (settle kinds w).stopped)) b1.0 in
    let c1 = and_both ((length w.waiting == 0) && runs kinds w (client_id k)) (list_all (is_other w k) (numbers (length w.clients) 0)) b2.0 in
    let c2 = and_both (length w.waiting == 0) (runs kinds w (client_id k)) c1.0 in
    record {
      alone = record { quiet = no_more w.waiting c2.0; running = c2.1; work = v; waits = works; command = command; alone = other_idle w k c1.1; within = is_none (settle kinds w).stopped b2.1 };
      waits = λ t. not_both (is_idle (client kinds (settle kinds w).world k).work) b1.1 t;
    }

abbrev pub hangs : W → ℕ → Bool
hangs w k = is_stuck w k && is_fit w k

pub commands_refuted : (w : W) (k p : ℕ) (x : Work kinds) → (client kinds w k).work ≡ Some x → x.command ≡ cmd.Fate p → hangs w k ≡ true → CommandFinishes kinds w → ⊥
commands_refuted w k p x works command h claim =
    let b = and_both (is_stuck w k) (is_fit w k) h in
    let s = stuck_so w k (cmd.Fate p) x works command b.0 in
    s.waits (ap is_idle (claim k (cmd.Fate p) s.alone (fit_is w k b.1) tt tt).idle)

-- The same of a reconfiguration of the header's layout.

abbrev is_low : W → Bool
is_low w =
    list_all (λ (u : UnitState). nat_le u.epoch 2) w.units && list_all (λ (l : LayoutState). nat_le l.latest.epoch 2) w.layouts
    && list_all (λ (s : SeqrState). nat_le s.epoch 2) w.seqrs && list_all (λ (c : Client kinds). nat_le c.stand.epoch 2) w.clients

abbrev is_fit_to_change : W → ℕ → Changed → Bool
is_fit_to_change w k c =
    ((noted_of kinds w k).epoch == 1) && ((client kinds w k).stand.epoch == 1) && is_low w && list_all (λ u. runs kinds w (unit_id u)) (next_units (first_layout w.cluster) c)
    && runs kinds w (seqr_id c.seq) && nat_lt w.cluster.layouts (2 * length (filter (λ n. runs kinds w (layout_id n)) (numbers w.cluster.layouts 0)))

unit_low : new_unit.epoch ≤ 2
unfolding new_unit
unit_low = omega arith

layout_low : (h : Header) → (new_layout (first_layout h)).latest.epoch ≤ 2
unfolding new_layout
layout_low h = omega arith

epoch_low : (b : Bool) → first_epoch b ≤ 2
epoch_low true = omega arith
epoch_low false = omega arith

seqr_low : (n limit : ℕ) (p : Layout) → (new_seqr n limit p).epoch ≤ 2
unfolding new_seqr
seqr_low n limit p = epoch_low (n == p.seq)

client_low : (h : Header) (k : ℕ) → (new_client kinds h k).stand.epoch ≤ 2
unfolding new_client
client_low h k = omega arith

-- of a list and of what stands in place of nothing
low_at : {X : Type 0} → (epoch : X → ℕ) (xs : List X) (k : ℕ) (d : X) → list_all (λ x. nat_le (epoch x) 2) xs ≡ true → epoch d ≤ 2 → epoch (slice_index_or xs k d) ≤ 2
low_at epoch xs k d all low =
    elim (index_or xs k d) [
      | inl i ↦ le_of (epoch (slice_index_or xs k d)) 2 (all_pass (λ x. nat_le (epoch x) 2) xs all (slice_index_or xs k d) i)
      | inr e ↦ subst (λ x. epoch x ≤ 2) (sym e) low
    ]

none_above : (w : W) → is_low w ≡ true → NoneAbove kinds w 2
none_above w h =
    let units = list_all (λ (u : UnitState). nat_le u.epoch 2) w.units in
    let layouts = list_all (λ (l : LayoutState). nat_le l.latest.epoch 2) w.layouts in
    let seqrs = list_all (λ (s : SeqrState). nat_le s.epoch 2) w.seqrs in
    let b1 = and_both (units && layouts && seqrs) (list_all (λ (c : Client kinds). nat_le c.stand.epoch 2) w.clients) h in
    let b2 = and_both (units && layouts) seqrs b1.0 in
    let b3 = and_both units layouts b2.0 in
    record {
      units = λ u. low_at (λ (x : UnitState). x.epoch) w.units u new_unit b3.0 unit_low;
      layouts = λ n. low_at (λ (x : LayoutState). x.latest.epoch) w.layouts n (new_layout (first_layout w.cluster)) b3.1 (layout_low w.cluster);
      seqrs = λ n. low_at (λ (x : SeqrState). x.epoch) w.seqrs n (new_seqr n w.cluster.limit (first_layout w.cluster)) b2.1 (seqr_low n w.cluster.limit (first_layout w.cluster));
      clients = λ k. low_at (λ (x : Client kinds). x.stand.epoch) w.clients k (new_client kinds w.cluster k) b1.1 (client_low w.cluster k);
    }

change_fit : (w : W) (k : ℕ) (c : Changed) → is_fit_to_change w k c ≡ true → IsReadyToChange kinds w k 1 c
change_fit w k c h =
    let given = (noted_of kinds w k).epoch == 1 in
    let stands = (client kinds w k).stand.epoch == 1 in
    let units = list_all (λ u. runs kinds w (unit_id u)) (next_units (first_layout w.cluster) c) in
    let most = nat_lt w.cluster.layouts (2 * length (filter (λ n. runs kinds w (layout_id n)) (numbers w.cluster.layouts 0))) in
    let b1 = and_both (given && stands && is_low w && units && runs kinds w (seqr_id c.seq)) most h in
    let b2 = and_both (given && stands && is_low w && units) (runs kinds w (seqr_id c.seq)) b1.0 in
    let b3 = and_both (given && stands && is_low w) units b2.0 in
    let b4 = and_both (given && stands) (is_low w) b3.0 in
    let b5 = and_both given stands b4.0 in
    record {
      given = same_number (noted_of kinds w k).epoch 1 b5.0;
      stand = inl (same_number (client kinds w k).stand.epoch 1 b5.1);
      none_above = none_above w b4.1;
      old = first_layout w.cluster;
      decided = inl (refl, refl);
      units = λ u i. all_pass (λ (n : ℕ). runs kinds w (unit_id n)) (next_units (first_layout w.cluster) c) b3.1 u (has_contained (next_units (first_layout w.cluster) c) u i);
      seqr_runs = b2.1;
      layouts = lt_of w.cluster.layouts (2 * length (filter (λ n. runs kinds w (layout_id n)) (numbers w.cluster.layouts 0))) b1.1;
    }

abbrev pub hangs_changing : W → ℕ → Changed → Bool
hangs_changing w k c = is_stuck w k && is_fit_to_change w k c

pub reconfs_refuted : (w : W) (k : ℕ) (c : Changed) (x : Work kinds) → (client kinds w k).work ≡ Some x → x.command ≡ cmd.Reconf c → hangs_changing w k c ≡ true → ReconfFinishes kinds w → ⊥
reconfs_refuted w k c x works command h claim =
    let b = and_both (is_stuck w k) (is_fit_to_change w k c) h in
    let s = stuck_so w k (cmd.Reconf c) x works command b.0 in
    s.waits (ap is_idle (claim k 1 c s.alone (change_fit w k c b.1)).finishes.idle)
