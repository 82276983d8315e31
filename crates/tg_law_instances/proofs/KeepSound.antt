-- Tests of a step that passed prove what a refusal keeps, and what is kept while a command waits.
use Rattle.std.proofs.Common.{◌≡◌, ◌⊎◌, ℕ, ◌≤◌, List, length, Bool, true, false, Option, Some, None, refl, sym, ap, ◌∙◌, subst, inl, inr, arith}
use Rattle.std.specs.Prelude.{◌+◌, is_some, nat_lt, not, ◌&&◌, ◌==◌, slice_set, slice_index_or}
use Rattle.std.specs.List.{list_all}
use Rattle.std.specs.Cmp.Lexicographic.{pointwise_decides}
use Rattle.tg_base.specs.Clusters.{Header}
use Rattle.tg_base.specs.declared.ids.Oid.{Oid}
use Rattle.tg_base.specs.declared.marks.ReadMark.{ReadMark}
use Rattle.tg_model.specs.declared.command.Event.TheVariants.{Command as Commands}
use Rattle.tg_model.specs.declared.refusal.Refusal.{Refusal}
use Rattle.tg_model.specs.declared.refusal.Refusal.TheVariants as cause
use Rattle.tg_model.specs.declared.trace.What.TheVariants as told
use Rattle.tg_model.specs.Kinds.{CommandOf, WhatOf}
use Rattle.tg_protocol.specs.Words.{client_id, directory}
use Rattle.tg_kind.specs.Parts.{part_eq}
use Rattle.tg_base.specs.Orders.{oid_eq}
use Rattle.tg_protocol.specs.Transactions.{Tx}
use Rattle.tg_protocol.specs.Clients.{Client, new_client, refusal}
use Rattle.tg_protocol.specs.ClientSteps.{refused_or, called, client_command}
use Rattle.tg_protocol.specs.Worlds.{client, runs, has_stopped, noted_if, commands, happens, client_turned}
use Rattle.tg_protocol.specs.Playing.{Answers}
use Rattle.tg_protocol.specs.Causes.{IsRefused, KeepsHosts, IsForgotten, KeepsTx, IsSilent, RefusalsKeep}
use Rattle.tg_law_instances.proofs.Small.{is_none}
use Rattle.tg_law_verdicts.proofs.Members.{and_both, both_and, all_pass}
use Rattle.tg_law_verdicts.proofs.Tests.{same_number, number_same, same_oid, oid_same, lt_of}
use Rattle.tg_law_examples.proofs.SevenKinds.{kinds}
use Rattle.tg_law_instances.proofs.Same.{Exact, exact_by, oids_exact, parts_same, part_itself, writes_exact}
use Rattle.tg_law_instances.proofs.Readings.{then_so, either_so}
use Rattle.tg_law_instances.proofs.LogSound.{states_same}
use Rattle.tg_law_instances.proofs.Tests.{W, E, implies, oids_eq, states_eq, writes_eq}
use Rattle.tg_law_instances.proofs.StepTests.{replies, says, each_client, is_refused, keeps_hosts, option_is, reads_eq, same_tx, tx_eq, is_forgotten, keeps_tx, refused_keeps, refused_first, silent_keeps, same_cluster, keeps_ok}
use Rattle.tg_law_instances.proofs.Steps.{reply_has, says_it, it_says, within, set_there, new_there, of_client_test}

-- Transactions.

abbrev read_eq : ReadMark → ReadMark → Bool
read_eq x y = oid_eq x.oid y.oid && part_eq x.part y.part && (x.version == y.version)

read_same : (x y : ReadMark) → read_eq x y ≡ true → x ≡ y
read_same x y h =
    let b = and_both (oid_eq x.oid y.oid && part_eq x.part y.part) (x.version == y.version) h in
    let c = and_both (oid_eq x.oid y.oid) (part_eq x.part y.part) b.0 in
    let o = same_oid x.oid y.oid c.0 in
    let k = parts_same x.part y.part c.1 in
    let n = same_number x.version y.version b.1 in
    λ i. record { oid = o i; part = k i; version = n i }

read_itself : (x : ReadMark) → read_eq x x ≡ true
read_itself x =
    both_and (oid_eq x.oid x.oid && part_eq x.part x.part) (x.version == x.version)
    (both_and (oid_eq x.oid x.oid) (part_eq x.part x.part) (oid_same x.oid x.oid refl) (part_itself x.part)) (number_same x.version x.version refl)

pub reads_exact : Exact reads_eq
reads_exact a b = pointwise_decides (exact_by read_eq read_same read_itself) a b

snapshots_same : (a b : Option ℕ) → option_is a b ≡ true → a ≡ b
snapshots_same None None h = refl
snapshots_same (Some x) (Some y) h = ap (λ (n : ℕ). Some n) (same_number x y h)
snapshots_same None (Some y) h = absurd cc
snapshots_same (Some x) None h = absurd cc

tx_same : (t u : Tx) → same_tx t u ≡ true → t ≡ u
tx_same t u h =
    let b = and_both ((t.number == u.number) && reads_eq t.reads u.reads && writes_eq t.writes u.writes) (option_is t.snapshot u.snapshot) h in
    let c = and_both ((t.number == u.number) && reads_eq t.reads u.reads) (writes_eq t.writes u.writes) b.0 in
    let d = and_both (t.number == u.number) (reads_eq t.reads u.reads) c.0 in
    let e0 = same_number t.number u.number d.0 in
    let e1 = (reads_exact t.reads u.reads).0 d.1 in
    let e2 = (writes_exact t.writes u.writes).0 c.1 in
    let e3 = snapshots_same t.snapshot u.snapshot b.1 in
    λ i. record { number = e0 i; reads = e1 i; writes = e2 i; snapshot = e3 i }

txs_same : (a b : Option Tx) → tx_eq a b ≡ true → a ≡ b
txs_same None None h = refl
txs_same (Some t) (Some u) h = ap (λ (x : Tx). Some x) (tx_same t u h)
txs_same None (Some u) h = absurd cc
txs_same (Some t) None h = absurd cc

-- Hosts.

hosts_kept : (c d : Client kinds) → keeps_hosts c d ≡ true → KeepsHosts kinds c d
hosts_kept c d h =
    let b = and_both (oids_eq d.hosted c.hosted && states_eq d.dir c.dir) (d.played == c.played) h in
    let a = and_both (oids_eq d.hosted c.hosted) (states_eq d.dir c.dir) b.0 in
    record { hosted = (pointwise_decides oids_exact d.hosted c.hosted).0 a.0; dir = states_same d.dir c.dir a.1; played = same_number d.played c.played b.1 }

forgotten_is : (why : Refusal) → is_forgotten (told.Refused why) ≡ true → IsForgotten kinds why
forgotten_is (cause.Forgotten at b) h = tt
forgotten_is why h = absurd cc

tx_kept : (why : Refusal) (c d : Client kinds) → keeps_tx (told.Refused why) c d ≡ true → KeepsTx kinds why c d
tx_kept why c d h =
    elim (either_so (tx_eq d.tx c.tx) (is_forgotten (told.Refused why) && not (is_some d.tx)) h) [
      | inl a ↦ inl (txs_same d.tx c.tx a)
      | inr b ↦ (let f = and_both (is_forgotten (told.Refused why)) (not (is_some d.tx)) b in inr (forgotten_is why f.0, is_none d.tx f.1))
    ]

-- A command that is refused before any work.

refused_turn : (c : Client kinds) (x : CommandOf kinds) (why : Refusal) → refusal kinds c x ≡ Some why → (client_command kinds c x).now ≡ record c { calls = c.calls + 1 }
unfolding client_command
refused_turn c x why e = ap (λ (o : Option Refusal). called kinds (refused_or kinds c x o).now) e

noted_clients : (b : Bool) (w : W) (n : ℕ) (c : Client kinds) → (noted_if kinds b w n c).clients ≡ w.clients
noted_clients true w n c = refl
noted_clients false w n c = refl

commanded : (w : W) (k : ℕ) (x : CommandOf kinds) (b : Bool) → b ≡ true → (commands kinds b w k x).clients ≡ slice_set w.clients k (client_command kinds (client kinds w k) x).now
unfolding client_turned
commanded w k x true e = ap (λ (cs : List (Client kinds)). slice_set cs k (client_command kinds (client kinds w k) x).now) (noted_clients (is_some (client kinds w k).work) w k (client kinds w k))
commanded w k x false e = absurd cc

turned : (w : W) (k : ℕ) (x : CommandOf kinds) → runs kinds w (client_id k) ≡ true → client kinds (happens kinds w (Commands k x)) k ≡ (client_command kinds (client kinds w k) x).now
unfolding happens
turned w k x run =
    let v = happens kinds w (Commands k x) in
    let now = (client_command kinds (client kinds w k) x).now in
    let less = lt_of k (length w.clients) (and_both (nat_lt k (length w.clients)) (not (has_stopped kinds w (client_id k))) run).0 in
    ap (λ (cs : List (Client kinds)). slice_index_or cs k (new_client kinds v.cluster k)) (commanded w k x (runs kinds w (client_id k)) run) ∙ set_there w.clients k now (new_client kinds v.cluster k) less

some_cause : (o : Option Refusal) → is_some o ≡ true → (why : Refusal) × (o ≡ Some why)
some_cause None h = absurd cc
some_cause (Some why) h = (why, refl)

at_once_kept : (w : W) (e : E) → refused_first w (happens kinds w e) e ≡ true → (k : ℕ) (x : CommandOf kinds) → e ≡ Commands k x → Answers kinds w e k (IsRefused kinds)
    → client kinds (happens kinds w e) k ≡ record (client kinds w k) { calls = (client kinds w k).calls + 1 }
at_once_kept w e h k x is a =
    let v = happens kinds w e in
    let t = subst (λ (d : E). refused_first w v d ≡ true) is h in
    let s = it_says w e k is_refused a.told a.says a.client (ap is_refused a.holds.1) in
    let b = and_both (runs kinds w (client_id k)) (is_some (refusal kinds (client kinds w k) x)) (then_so (says w v k is_refused) (runs kinds w (client_id k) && is_some (refusal kinds (client kinds w k) x)) t s) in
    let why = some_cause (refusal kinds (client kinds w k) x) b.1 in
    ap (λ (d : E). client kinds (happens kinds w d) k) is ∙ turned w k x b.0 ∙ refused_turn (client kinds w k) x why.0 why.1

-- Clients that say nothing.

new_kept : (g h : Header) (k : ℕ) → h.objects ≡ g.objects → KeepsHosts kinds (new_client kinds g k) (new_client kinds h k) × ((new_client kinds h k).tx ≡ (new_client kinds g k).tx)
unfolding new_client
new_kept g h k e = (record { hosted = refl; dir = ap (λ (os : List Oid). kinds.fresh directory os) e; played = refl }, refl)

silent_kept : (w : W) (e : E) → each_client w (silent_keeps w (happens kinds w e)) ≡ true → same_cluster w (happens kinds w e) ≡ true → (k : ℕ) → IsSilent kinds w e k
    → KeepsHosts kinds (client kinds w k) (client kinds (happens kinds w e) k) × ((client kinds (happens kinds w e) k).tx ≡ (client kinds w k).tx)
silent_kept w e h same k silent =
    elim (within k (length w.clients)) [
      | inl here ↦ by (either_so (says w v k (λ what. true)) (keeps_hosts (client kinds w k) (client kinds v k) && tx_eq (client kinds v k).tx (client kinds w k).tx) (of_client_test w (silent_keeps w v) k h here))
      | inr past ↦ beyond past
    ]
  where
    v : W
    v = happens kinds w e

    by : (says w v k (λ what. true) ≡ true) ⊎ ((keeps_hosts (client kinds w k) (client kinds v k) && tx_eq (client kinds v k).tx (client kinds w k).tx) ≡ true)
        → KeepsHosts kinds (client kinds w k) (client kinds (happens kinds w e) k) × ((client kinds (happens kinds w e) k).tx ≡ (client kinds w k).tx)
    by (inl a) = let s = says_it w e k (λ what. true) a in absurd (silent s.told s.reply s.client)
    by (inr b) =
        let c = and_both (keeps_hosts (client kinds w k) (client kinds v k)) (tx_eq (client kinds v k).tx (client kinds w k).tx) b in
        (hosts_kept (client kinds w k) (client kinds v k) c.0, txs_same (client kinds v k).tx (client kinds w k).tx c.1)

    beyond : length w.clients ≤ k → KeepsHosts kinds (client kinds w k) (client kinds (happens kinds w e) k) × ((client kinds (happens kinds w e) k).tx ≡ (client kinds w k).tx)
    beyond past =
        let s = and_both (length w.clients == length v.clients) (oids_eq v.cluster.objects w.cluster.objects) same in
        let n = same_number (length w.clients) (length v.clients) s.0 in
        let a = sym (new_there w k past) in
        let b = sym (new_there v k (omega (arith, past, n))) in
        subst (λ (y : Client kinds × Client kinds). KeepsHosts kinds y.0 y.1 × (y.1.tx ≡ y.0.tx)) (λ i. (a i, b i))
        (new_kept w.cluster v.cluster k ((pointwise_decides oids_exact v.cluster.objects w.cluster.objects).0 s.1))

pub keeps_sound : (w : W) (e : E) → keeps_ok w e (happens kinds w e) ≡ true → RefusalsKeep kinds w e
keeps_sound w e h =
    let v = happens kinds w e in
    let b = and_both (refused_first w v e && list_all (refused_keeps w v) (replies w v) && each_client w (silent_keeps w v)) (same_cluster w v) h in
    let c = and_both (refused_first w v e && list_all (refused_keeps w v) (replies w v)) (each_client w (silent_keeps w v)) b.0 in
    let d = and_both (refused_first w v e) (list_all (refused_keeps w v) (replies w v)) c.0 in
    record {
      at_once = at_once_kept w e d.0;
      later = λ t why r is.
          let each = all_pass (refused_keeps w v) (replies w v) d.1 t (reply_has w e t r) in
          let this = subst (λ (what : WhatOf kinds). implies (is_refused what) (keeps_hosts (client kinds w t.mark.client) (client kinds v t.mark.client) && keeps_tx what (client kinds w t.mark.client) (client kinds v t.mark.client)) ≡ true) is each in
          let both = and_both (keeps_hosts (client kinds w t.mark.client) (client kinds v t.mark.client)) (keeps_tx (told.Refused why) (client kinds w t.mark.client) (client kinds v t.mark.client)) this in
          (hosts_kept (client kinds w t.mark.client) (client kinds v t.mark.client) both.0, tx_kept why (client kinds w t.mark.client) (client kinds v t.mark.client) both.1);
      waiting = silent_kept w e c.1 b.1;
    }
