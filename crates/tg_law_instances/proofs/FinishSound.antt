-- Tests of settlings that passed prove that each answers the one command that waits, in so many deliveries.
use Rattle.std.proofs.Common.{◌≡◌, ℕ, zero, suc, List, [], ◌∷◌, ◌++◌, length, Bool, true, false, Option, Some, None, refl, sym, ap, ◌∙◌, subst}
use Rattle.std.specs.Prelude.{◌+◌, ◌*◌, ◌-◌, ◌&&◌, ◌||◌, ◌==◌, ◌≢◌, not, nat_lt, nat_le}
use Rattle.std.specs.List.{list_any, list_all}
use Rattle.tg_base.specs.Layouts.{Layout}
use Rattle.tg_base.specs.Changes.{Changed}
use Rattle.tg_base.specs.declared.fault.Which.{Which}
use Rattle.tg_base.specs.declared.ids.NodeId.{NodeId}
use Rattle.tg_model.specs.declared.command.Command.TheVariants as cmd
use Rattle.tg_model.specs.declared.command.Event.TheVariants.{Deliver, Tick}
use Rattle.tg_model.specs.declared.refusal.Refusal.TheVariants as cause
use Rattle.tg_model.specs.declared.trace.What.TheVariants as told
use Rattle.tg_model.specs.Kinds.{CommandOf, WhatOf}
use Rattle.tg_protocol.specs.Words.{client_id, numbers}
use Rattle.tg_protocol.specs.Sequencers.{SeqrState}
use Rattle.tg_protocol.specs.Clients.{Work}
use Rattle.tg_protocol.specs.Chosen.{IsDecided}
use Rattle.tg_protocol.specs.Worlds.{Told, Line, Settle, Ran, client, seqr, noted_of, runs, has_stopped, next_event, happens, lowest, limit_of, ran, drain_on, drain, nodes, tick_all, unless_stopped, rounds, settle}
use Rattle.tg_protocol.specs.Finishing.{longest_chain, deliveries, WaitsAlone, most_deliveries_in, NoReconf, HasReply, is_with_client, Finishes, CommandFinishes, IsEnd, is_scan, IsInstalled, ReconfFinishes}
use Rattle.tg_law_instances.proofs.Small.{clash}
use Rattle.tg_law_verdicts.proofs.Members.{Has, has_contained, contained_has, and_both, both_and, found, passes_somewhere, each_passes}
use Rattle.tg_law_verdicts.proofs.Tests.{same_number, number_same, lt_of, le_of}
use Rattle.tg_law_examples.proofs.SevenKinds.{kinds}
use Rattle.tg_law_instances.proofs.Readings.{then_so, layouts_decided}
use Rattle.tg_law_instances.proofs.Tests.{W, implies, layouts}
use Rattle.tg_law_instances.proofs.StepTests.{replies, is_idle, lost, line_ev, all_of, each_client}
use Rattle.tg_law_instances.proofs.Steps.{Grows, none_added, step_adds, dropped, of_client_test}
use Rattle.tg_law_instances.proofs.PlaySound.{idle_none}

-- A settling adds replies to those before it.

append_on : (xs ys zs : List (Told kinds)) → (xs ++ ys) ++ zs ≡ xs ++ (ys ++ zs)
append_on [] ys zs = refl
append_on (x ∷ xs) ys zs = ap (λ us. x ∷ us) (append_on xs ys zs)

grows_on : (xs ys zs : List (Told kinds)) → Grows xs ys → Grows ys zs → Grows xs zs
grows_on xs ys zs a b = record { added = a.added ++ b.added; is = b.is ∙ ap (λ us. us ++ b.added) a.is ∙ append_on xs a.added b.added }

abbrev drain_turn : W → (ℕ → Ran kinds) → Option ℕ → Option Which → Ran kinds
drain_turn w next o l = elim o as (λ _. Ran kinds) [
  | None ↦ ran kinds w None
  | Some i ↦ elim l as (λ _. Ran kinds) [ Some x ↦ ran kinds w (Some x) | None ↦ next i ]
]

turn_adds : (w : W) (next : ℕ → Ran kinds) (o : Option ℕ) (l : Option Which) → ((i : ℕ) → Grows w.told (next i).world.told) → Grows w.told (drain_turn w next o l).world.told
turn_adds w next None l more = none_added w.told
turn_adds w next (Some i) None more = more i
turn_adds w next (Some i) (Some x) more = none_added w.told

drain_adds : (n : ℕ) (w : W) → Grows w.told (drain_on kinds n w).world.told
unfolding drain_on
drain_adds zero w = none_added w.told
drain_adds (suc n) w =
    turn_adds w (λ i. drain_on kinds n (happens kinds w (Deliver i))) (lowest kinds w.waiting) (limit_of kinds w)
    (λ i. grows_on w.told (happens kinds w (Deliver i)).told (drain_on kinds n (happens kinds w (Deliver i))).world.told (step_adds w (Deliver i)) (drain_adds n (happens kinds w (Deliver i))))

all_drained : (w : W) → Grows w.told (drain kinds w).world.told
unfolding drain
all_drained w = drain_adds (200001 - w.steps) w

abbrev tick_turn : W → Ran kinds → Ran kinds → Bool → Option Which → Ran kinds
tick_turn w passed ticked b l = elim b as (λ _. Ran kinds) [
  | false ↦ passed
  | true ↦ elim l as (λ _. Ran kinds) [ Some x ↦ ran kinds w (Some x) | None ↦ ticked ]
]

tick_adds : (w : W) (passed ticked : Ran kinds) (b : Bool) (l : Option Which) → Grows w.told passed.world.told → Grows w.told ticked.world.told → Grows w.told (tick_turn w passed ticked b l).world.told
tick_adds w passed ticked false l a c = a
tick_adds w passed ticked true None a c = c
tick_adds w passed ticked true (Some x) a c = none_added w.told

ticks_add : (ns : List NodeId) (w : W) → Grows w.told (tick_all kinds ns w).world.told
unfolding tick_all
ticks_add [] w = none_added w.told
ticks_add (n ∷ ns) w =
    let v = happens kinds w (Tick n) in
    tick_adds w (tick_all kinds ns w) (tick_all kinds ns v) (runs kinds w n) (limit_of kinds w) (ticks_add ns w) (grows_on w.told v.told (tick_all kinds ns v).world.told (step_adds w (Tick n)) (ticks_add ns v))

abbrev goes_on : Ran kinds → (W → Ran kinds) → Option Which → Ran kinds
goes_on r f o = elim o as (λ _. Ran kinds) [ Some x ↦ r | None ↦ f r.world ]

unless_adds : (xs : List (Told kinds)) (r : Ran kinds) (f : W → Ran kinds) (o : Option Which) → Grows xs r.world.told → ((v : W) → Grows v.told (f v).world.told) → Grows xs (goes_on r f o).world.told
unless_adds xs r f (Some x) a more = a
unless_adds xs r f None a more = grows_on xs r.world.told (f r.world).world.told a (more r.world)

abbrev round_end : ℕ → W → Bool → Ran kinds
round_end n v b = elim b as (λ _. Ran kinds) [ true ↦ drain kinds v | false ↦ unless_stopped kinds (drain kinds v) (λ u. rounds kinds n u) ]

end_adds : (n : ℕ) (v : W) (b : Bool) → ((u : W) → Grows u.told (rounds kinds n u).world.told) → Grows v.told (round_end n v b).world.told
end_adds n v true more = all_drained v
end_adds n v false more = unless_adds v.told (drain kinds v) (λ u. rounds kinds n u) (drain kinds v).stopped (all_drained v) more

rounds_add : (n : ℕ) (w : W) → Grows w.told (rounds kinds n w).world.told
unfolding rounds
rounds_add zero w = none_added w.told
rounds_add (suc n) w =
    unless_adds w.told (tick_all kinds (nodes kinds w) w) (λ v. round_end n v (length v.packets == length w.packets)) (tick_all kinds (nodes kinds w) w).stopped (ticks_add (nodes kinds w) w)
    (λ v. end_adds n v (length v.packets == length w.packets) (λ u. rounds_add n u))

settle_adds : (w : W) → Grows w.told (settle kinds w).world.told
unfolding settle
settle_adds w = unless_adds w.told (drain kinds w) (λ v. rounds kinds 8 v) (drain kinds w).stopped (all_drained w) (λ v. rounds_add 8 v)

-- The tests.

-- no packet waits, the client runs, and no other that runs waits
abbrev pub is_alone : W → ℕ → Bool
is_alone w k = (length w.waiting == 0) && runs kinds w (client_id k) && list_all (λ j. (j == k) || not (runs kinds w (client_id j)) || is_idle (client kinds w j).work) (numbers (length w.clients) 0)

abbrev replies_so : ℕ → (WhatOf kinds → Bool) → Told kinds → Bool
replies_so k f t = (t.mark.client == k) && f t.mark.what

abbrev has_finished : W → W → ℕ → ℕ → (WhatOf kinds → Bool) → Bool
has_finished w v k most f = is_idle (client kinds v k).work && list_any (replies_so k f) (replies w v) && nat_le (deliveries kinds (is_with_client kinds k) w v) most

abbrev is_end : WhatOf kinds → Bool
is_end (told.Installed e) = true
is_end (told.Refused (cause.Overtaken e)) = true
is_end (told.Refused (cause.NotWhole u p)) = true
is_end what = false

abbrev is_installed : ℕ → WhatOf kinds → Bool
is_installed e (told.Installed f) = e == f
is_installed e what = false

abbrev pub unfenced : Option ℕ → Bool
unfenced None = true
unfenced (Some e) = false

abbrev pub serves : SeqrState → ℕ → Bool
serves s e = (s.epoch == e) && nat_le s.proj.start s.next && unfenced s.fence

abbrev new_layout : W → W → ℕ → ℕ → Changed → ℕ × Layout → Bool
new_layout w v k e c y = (y.0 == e + 1) && serves (seqr kinds v c.seq) (e + 1) && nat_le (deliveries kinds (is_scan kinds c.seq k) w v) ((y.1.start + 8) * (2 * longest_chain y.1 + 2))

abbrev has_installed : W → W → ℕ → ℕ → Changed → Bool
has_installed w v k e c = implies (list_any (replies_so k (is_installed (e + 1))) (replies w v)) (list_any (new_layout w v k e c) (layouts v))

abbrev most_of_reconf : W → ℕ
most_of_reconf w = 2 * w.cluster.units + 64 * w.cluster.layouts + 22

abbrev finishes_as : W → W → ℕ → CommandOf kinds → Bool
finishes_as w v k (cmd.Reconf c) = has_finished w v k (most_of_reconf w) is_end && has_installed w v k (noted_of kinds w k).epoch c
finishes_as w v k x = has_finished w v k (most_deliveries_in kinds w x) (λ what. true)

abbrev finishes_if : W → W → ℕ → Option (Work kinds) → Bool
finishes_if w v k None = true
finishes_if w v k (Some x) = implies (is_alone w k) (finishes_as w v k x.command)

abbrev finish_by : W → W → Bool
finish_by w v = each_client w (λ k. finishes_if w v k (client kinds w k).work)

abbrev pub finish_all : W → Bool
finish_all w = finish_by w (settle kinds w).world

-- They prove the claims.

none_length : {X : Type 0} → (xs : List X) → xs ≡ [] → (length xs == 0) ≡ true
none_length xs e = ap (λ ys. length ys == 0) e

alone_at : (w : W) (k : ℕ) (x : CommandOf kinds) → WaitsAlone kinds w k x → (j : ℕ) → ((j == k) || not (runs kinds w (client_id j)) || is_idle (client kinds w j).work) ≡ true
alone_at w k x a j = by (j == k) refl (runs kinds w (client_id j)) refl
  where
    differs : (b : Bool) → b ≡ false → (j ≡ k → b ≡ true) → j ≢ k
    differs b e f same = clash b (f same) e

    by : (b : Bool) → (j == k) ≡ b → (c : Bool) → runs kinds w (client_id j) ≡ c → (b || not c || is_idle (client kinds w j).work) ≡ true
    by true e c f = refl
    by false e false f = refl
    by false e true f = ap is_idle (a.alone j (differs (j == k) e (number_same j k)) f)

is_alone_so : (w : W) (k : ℕ) (x : CommandOf kinds) → WaitsAlone kinds w k x → is_alone w k ≡ true
is_alone_so w k x a =
    both_and ((length w.waiting == 0) && runs kinds w (client_id k)) (list_all (λ j. (j == k) || not (runs kinds w (client_id j)) || is_idle (client kinds w j).work) (numbers (length w.clients) 0))
    (both_and (length w.waiting == 0) (runs kinds w (client_id k)) (none_length w.waiting a.quiet) a.running)
    (each_passes (λ (j : ℕ). (j == k) || not (runs kinds w (client_id j)) || is_idle (client kinds w j).work) (numbers (length w.clients) 0) (λ j i. alone_at w k x a j))

finishes_at : (w : W) (k : ℕ) (x : CommandOf kinds) → finish_all w ≡ true → WaitsAlone kinds w k x → finishes_as w (settle kinds w).world k x ≡ true
finishes_at w k x h a =
    let v = (settle kinds w).world in
    let less = lt_of k (length w.clients) (and_both (nat_lt k (length w.clients)) (not (has_stopped kinds w (client_id k))) a.running).0 in
    let t = subst (λ (o : Option (Work kinds)). finishes_if w v k o ≡ true) a.waits (of_client_test w (λ j. finishes_if w v j (client kinds w j).work) k h less) in
    subst (λ (y : CommandOf kinds). finishes_as w v k y ≡ true) a.command (then_so (is_alone w k) (finishes_as w v k a.work.command) t (is_alone_so w k x a))

has_reply_so : (w : W) (k : ℕ) (f : WhatOf kinds → Bool) (P : WhatOf kinds → Type 0) → ((what : WhatOf kinds) → f what ≡ true → P what) → list_any (replies_so k f) (replies w (settle kinds w).world) ≡ true
    → HasReply kinds w (settle kinds w).world k P
has_reply_so w k f P is h =
    let v = (settle kinds w).world in
    let g = settle_adds w in
    let x = found (replies_so k f) (replies w v) h in
    let b = and_both (x.it.mark.client == k) (f x.it.mark.what) x.passes in
    record {
      replies = g.added;
      are = g.is;
      told = x.it;
      here = contained_has g.added x.it (subst (λ (ts : List (Told kinds)). Has ts x.it) (dropped w.told g.added v.told g.is) x.has);
      client = same_number x.it.mark.client k b.0;
      holds = is x.it.mark.what b.1;
    }

finished_so : (w : W) (k most : ℕ) (f : WhatOf kinds → Bool) (P : WhatOf kinds → Type 0) → ((what : WhatOf kinds) → f what ≡ true → P what) → has_finished w (settle kinds w).world k most f ≡ true
    → Finishes kinds w (settle kinds w).world k most P
finished_so w k most f P is h =
    let v = (settle kinds w).world in
    let b = and_both (is_idle (client kinds v k).work && list_any (replies_so k f) (replies w v)) (nat_le (deliveries kinds (is_with_client kinds k) w v) most) h in
    let a = and_both (is_idle (client kinds v k).work) (list_any (replies_so k f) (replies w v)) b.0 in
    record { idle = idle_none (client kinds v k).work a.0; reply = has_reply_so w k f P is a.1; few = le_of (deliveries kinds (is_with_client kinds k) w v) most b.1 }

command_finished : (w : W) (k : ℕ) (x : CommandOf kinds) → NoReconf kinds x → finishes_as w (settle kinds w).world k x ≡ true → Finishes kinds w (settle kinds w).world k (most_deliveries_in kinds w x) (λ what. Unit {0})
command_finished w k (cmd.Reconf c) plain h = absurd plain
command_finished w k x plain h = finished_so w k (most_deliveries_in kinds w x) (λ what. true) (λ what. Unit {0}) (λ what t. tt) h

pub commands_sound : (w : W) → finish_all w ≡ true → CommandFinishes kinds w
commands_sound w h k x alone ready spare plain = command_finished w k x plain (finishes_at w k x h alone)

end_of : (what : WhatOf kinds) → is_end what ≡ true → IsEnd kinds what
end_of (told.Installed e) h = tt
end_of (told.Refused (cause.Overtaken e)) h = tt
end_of (told.Refused (cause.NotWhole u p)) h = tt
end_of what h = absurd cc

pub unfenced_so : (o : Option ℕ) → unfenced o ≡ true → o ≡ None
unfenced_so None h = refl
unfenced_so (Some e) h = absurd cc

installed_so : (w v : W) (k e : ℕ) (c : Changed) → list_any (new_layout w v k e c) (layouts v) ≡ true → IsInstalled kinds w v k e c
installed_so w v k e c h =
    let y = found (new_layout w v k e c) (layouts v) h in
    let most = (y.it.1.start + 8) * (2 * longest_chain y.it.1 + 2) in
    let s = seqr kinds v c.seq in
    let b = and_both ((y.it.0 == e + 1) && serves s (e + 1)) (nat_le (deliveries kinds (is_scan kinds c.seq k) w v) most) y.passes in
    let a = and_both (y.it.0 == e + 1) (serves s (e + 1)) b.0 in
    let d = and_both ((s.epoch == e + 1) && nat_le s.proj.start s.next) (unfenced s.fence) a.1 in
    let f = and_both (s.epoch == e + 1) (nat_le s.proj.start s.next) d.0 in
    record {
      new = y.it.1;
      decided = subst (λ (n : ℕ). IsDecided kinds v n y.it.1) (same_number y.it.0 (e + 1) a.0) (layouts_decided v y.it y.has);
      serves = record { epoch = same_number s.epoch (e + 1) f.0; scanned = le_of s.proj.start s.next f.1; unfenced = unfenced_so s.fence d.1 };
      few = le_of (deliveries kinds (is_scan kinds c.seq k) w v) most b.1;
    }

reply_is : (w v : W) (k e : ℕ) → HasReply kinds w v k (λ what. what ≡ told.Installed e) → list_any (replies_so k (is_installed e)) (replies w v) ≡ true
reply_is w v k e r =
    passes_somewhere (replies_so k (is_installed e)) (replies w v) r.told
    (subst (λ (ts : List (Told kinds)). Has ts r.told) (sym (dropped w.told r.replies v.told r.are)) (has_contained r.replies r.told r.here))
    (both_and (r.told.mark.client == k) (is_installed e r.told.mark.what) (number_same r.told.mark.client k r.client) (ap (is_installed e) r.holds ∙ number_same e e refl))

pub reconfs_sound : (w : W) → finish_all w ≡ true → ReconfFinishes kinds w
reconfs_sound w h k e c alone ready =
    let v = (settle kinds w).world in
    let b = and_both (has_finished w v k (most_of_reconf w) is_end) (has_installed w v k (noted_of kinds w k).epoch c) (finishes_at w k (cmd.Reconf c) h alone) in
    let t = subst (λ (n : ℕ). has_installed w v k n c ≡ true) ready.given b.1 in
    record {
      finishes = finished_so w k (most_of_reconf w) is_end (IsEnd kinds) end_of b.0;
      installed = λ r. installed_so w v k e c (then_so (list_any (replies_so k (is_installed (e + 1))) (replies w v)) (list_any (new_layout w v k e c) (layouts v)) t (reply_is w v k (e + 1) r));
    }

-- Each settling of a run, begun with all packets lost.

pub record SettlingHolds (w : W) : Type 0 where
  pub commands : CommandFinishes kinds w
  pub reconfs : ReconfFinishes kinds w

abbrev finish_at : W → Line kinds → Bool
finish_at w Settle = finish_all (lost w)
finish_at w x = true

unfoldable pub settlings_finish : List (Line kinds) → W → Bool
settlings_finish [] w = true
settlings_finish (x ∷ xs) w = let v = next_event kinds w in finish_at v x && settlings_finish xs (all_of (line_ev v x) v)

abbrev pub LineFinishes : W → Line kinds → Type 0
LineFinishes w Settle = SettlingHolds (lost w)
LineFinishes w x = Unit {0}

unfoldable pub SettlingsHold : List (Line kinds) → W → Type 0
SettlingsHold [] w = Unit {0}
SettlingsHold (x ∷ xs) w = LineFinishes (next_event kinds w) x × SettlingsHold xs (all_of (line_ev (next_event kinds w) x) (next_event kinds w))

line_finishes : (w : W) (x : Line kinds) → finish_at w x ≡ true → LineFinishes w x
line_finishes w Settle h = record { commands = commands_sound (lost w) h; reconfs = reconfs_sound (lost w) h }
line_finishes w x h = tt

pub settlings_sound : (xs : List (Line kinds)) (w : W) → settlings_finish xs w ≡ true → SettlingsHold xs w
unfolding settlings_finish SettlingsHold
settlings_sound [] w h = tt
settlings_sound (x ∷ xs) w h =
    let v = next_event kinds w in
    let b = and_both (finish_at v x) (settlings_finish xs (all_of (line_ev v x) v)) h in
    (line_finishes v x b.0, settlings_sound xs (all_of (line_ev v x) v) b.1)
