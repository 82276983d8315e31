-- Over a run: where a command's walks are over, the object of which it asks is hosted; so the view that was played has a state of it.
use Rattle.std.proofs.Common.{◌≡◌, ◌⊎◌, ℕ, ◌<◌, List, [], ◌∷◌, ◌++◌, length, Bool, true, false, refl, sym, ◌∙◌, subst, inl, inr, Option, Some, None}
use Rattle.std.specs.Prelude.{slice_index_or}
use Rattle.tg_base.specs.Clusters.{Header}
use Rattle.tg_base.specs.declared.cell.Cell.{Cell}
use Rattle.tg_base.specs.declared.ids.Oid.{Oid}
use Rattle.tg_base.specs.declared.ids.Role.TheVariants as role
use Rattle.tg_kind.specs.Meaning.{Meaning}
use Rattle.tg_model.specs.Kinds.{CommandOf, EventOf}
use Rattle.tg_protocol.specs.Words.{numbers}
use Rattle.tg_protocol.specs.Causes.{AsksOf}
use Rattle.tg_protocol.specs.Checkpoints.{TrimPoints, trim_of, load_from, base_or, base_by, view_base, view_bases}
use Rattle.tg_protocol.specs.Clients.{Work, Client, new_client}
use Rattle.tg_protocol.specs.ClientSteps.{ClientTurn, task_in, knows, given_up_if}
use Rattle.tg_protocol.specs.Answers.{play_target, view_or_new, own_view}
use Rattle.tg_protocol.specs.Runs.{Moves, Takes, Reaches}
use Rattle.tg_protocol.specs.Stuck.{command_in}
use Rattle.tg_protocol.specs.Views.{Entries, Base, View, view_start}
use Rattle.tg_protocol.specs.Walked.{Walked, walked_in}
use Rattle.tg_protocol.specs.Worlds.{World, start, client}
use Rattle.tg_law_layouts.specs.Moves.After.{after}
use Rattle.tg_law_layouts.specs.Moves.Configs.{Config, config, client_in}
use Rattle.tg_law_layouts.proofs.Moves.Growth.{IsCalm, by_client}
use Rattle.tg_law_layouts.proofs.Moves.Lists.{at_map, at_set, contained}
use Rattle.tg_law_layouts.proofs.Moves.Members.{Has}
use Rattle.tg_law_layouts.proofs.Moves.Moves.{ClientInput, Commanded, Hears', Ticks', Keeps, client_turn, run_keeps}
use Rattle.tg_law_replies.specs.Replies.Ended.{AppendsEnd}
use Rattle.tg_law_replies.specs.Replies.Laws.{ClientsFind}
use Rattle.tg_law_replies.proofs.Replies.Carried.{Carries, carried_by, carried}
use Rattle.tg_law_replies.proofs.Views.Bases.{loaded_of, oid_loaded}
use Rattle.tg_law_claims.proofs.Causes.Causing.{has_has_oid}
use Rattle.tg_law_claims.proofs.Causes.Judging.{now, view_waits}
use Rattle.tg_law_claims.proofs.Causes.Stalled.{command_waits}
use Rattle.tg_law_claims.proofs.Causes.Stalling.{hosted_entries, kept_play}
use Rattle.tg_law_claims.proofs.Answers.Hosting.{WorkHosts, ClientHosts, command_fine, deliver_fine, tick_fine}
use Rattle.tg_law_claims.proofs.Answers.States.{HasState, play_keeps, start_has}

module _ (m : Meaning) where
  record Held (c : Config m) : Type 0 where
    clients : (k : ℕ) → ClientHosts m (client_in m c k)

  keep : Keeps m Held
  keep c held = by_client m Held c held calm own
    where
      calm : IsCalm m role.Client c Held
      calm d q = record { clients = λ k. subst (λ (y : Client m). ClientHosts m y) (λ i. slice_index_or (sym (q.clients refl) i) k (new_client m (sym q.cluster i) k)) (held.clients k) }

      turned : (k : ℕ) (t : ClientTurn m) → ClientInput m c k t → ClientHosts m t.now
      turned k t (Commanded x) = command_fine m (client_in m c k) x (held.clients k)
      turned k t (Hears' p comes) = deliver_fine m (client_in m c k) p.from p.rid p.msg (held.clients k)
      turned k t Ticks' = tick_fine m (client_in m c k) (held.clients k)

      own : (k : ℕ) (t : ClientTurn m) → ClientInput m c k t → k < length c.clients → Held (client_turn m c k t)
      own k t i less = record { clients = at_set c.clients k t.now (new_client m c.cluster) (λ j y. ClientHosts m y) less (turned k t i) (λ j other. held.clients j) }

  new_hosts : (h : Header) (k : ℕ) → ClientHosts m (new_client m h k)
  unfolding new_client
  new_hosts h k = tt

  start_held : (h : Header) → Held (config m (start m h))
  unfolding start
  start_held h = record { clients = λ k. at_map (new_client m h) (numbers h.clients 0) k (new_client m h k) (λ (y : Client m). ClientHosts m y) (new_hosts h) (new_hosts h k) }

  held_after : (h : Header) (ms : Moves m) → Held (config m (after m h ms))
  held_after h ms = run_keeps m Held keep ms (start m h) (start_held h)

  -- What a client hosts stays through the walks of a step.
  module _ (w : World m) (n : ℕ) where
    abbrev Same : Client m → Work m → Type 0
    Same c v = c.hosted ≡ (client m w n).hosted

    carries : Carries m Same
    carries = record {
      turned = λ c v x g i. i;
      taken = λ c v o x i. i;
      known = λ c v s t ls lo i. known c v s i;
      given = λ c v b i. given c v b i;
      over = λ c v i. i;
      again = λ c v i. i;
      stood = λ c v q i. i;
    }
      where
        known : (c : Client m) (v : Work m) (s : Option (ℕ × Cell)) → Same c v → Same (knows m c s) v
        known c v None i = i
        known c v (Some s) i = i

        given : (c : Client m) (v : Work m) (b : Bool) → Same c v → Same (given_up_if m b c) v
        given c v true i = i
        given c v false i = i

    hosted_waits : (e : EventOf m) (y : Walked m) → walked_in m w e n ≡ Some y → y.client.hosted ≡ (client m w n).hosted
    hosted_waits e y is = carried m Same carries w e n y (λ v works. carried_by m Same carries (client m w n) v (task_in m v.hand) refl) is

  -- the object of which a command asks is hosted where its walks are over
  pub asked_hosted : (h : Header) (ms : Moves m) (e : EventOf m) (n : ℕ) (y : Walked m) → walked_in m (after m h ms) e n ≡ Some y → (o : Oid) → AsksOf m y.work.command o → Has y.client.hosted o
  asked_hosted h ms e n y is o a = subst (λ (os : List Oid). Has os o) (sym (hosted_waits (after m h ms) n e y is)) (by (client m (after m h ms) n).work ((held_after h ms).clients n) (command_waits m (after m h ms) n e y is))
    where
      none_some : None ≡ Some y.work.command → ⊥
      none_some z = cc

      same : (x z : CommandOf m) → Some x ≡ Some z → x ≡ z
      same x z f = cc

      by : (v : Option (Work m)) → WorkHosts m (client m (after m h ms) n).hosted v → command_in m v ≡ Some y.work.command → Has (client m (after m h ms) n).hosted o
      by None k z = absurd (none_some z)
      by (Some v) k z = k o (subst (λ (x : CommandOf m). AsksOf m x o) (sym (same v.command y.work.command z)) a)

  -- A new view has a state of each object.

  base_named : (es : Entries) (gone : TrimPoints) (objects : List Oid) (o : Oid) → (view_base m es gone objects o).oid ≡ o
  unfolding view_base
  base_named es gone objects o = by (trim_of gone o)
    where
      loaded : (below : ℕ) (b : Option (Base m)) → load_from m es o below ≡ b → (base_or m objects o b).oid ≡ o
      loaded below None is = refl
      loaded below (Some b) is = let e = loaded_of m objects [] refl es o below b is in oid_loaded m objects [] refl o b e.entry e.is

      by : (t : Option ℕ) → (base_by m es objects o t).oid ≡ o
      by None = refl
      by (Some below) = loaded below (load_from m es o below) refl

  new_has : (es : Entries) (gone : TrimPoints) (objects os : List Oid) (o : Oid) → Has os o → HasState m (view_start m (view_bases m es gone objects os)) o
  unfolding view_bases
  new_has es gone objects os o i = start_has m (view_base m es gone objects) os o (λ x. base_named es gone objects x) (has_has_oid o os i)

module _ (m : Meaning) (h : Header) (ms : Moves m) (e : EventOf m) (r : Reaches m h (ms ++ Takes e ∷ []) (after m h (ms ++ Takes e ∷ []))) (finds : ClientsFind m h (ms ++ Takes e ∷ []) (after m h (ms ++ Takes e ∷ [])))
    (ends : AppendsEnd m h (ms ++ Takes e ∷ []) (after m h (ms ++ Takes e ∷ []))) (n : ℕ) (y : Walked m) (walked : walked_in m (after m h ms) e n ≡ Some y) (o : Oid) (hosted : Has y.client.hosted o) where
  -- so does a kept one, of each that its client hosts
  kept_has : (v : View m) → (client m (after m h ms) n).view ≡ Some v → HasState m v o
  kept_has v is =
      let right = now m h ms e r finds ends in
      let shape = (right.2 n).0.view v is in
      let base = shape.hosts o (contained (client m (after m h ms) n).hosted o (subst (λ (os : List Oid). Has os o) (hosted_waits m (after m h ms) n e y walked) hosted)) in
      (_, (((right.0.clients n).view v is).so.told o base.0 base.1).state)

  begins_has : HasState m (own_view m y.client y.work (hosted_entries m y.client y.work)) o
  begins_has = by y.client.view refl
    where
      none_some : (v : View m) → None ≡ Some v → ⊥
      none_some v z = cc

      waits : (v : View m) → y.client.view ≡ Some v → (y.client.view ≡ (client m (after m h ms) n).view) ⊎ (y.client.view ≡ None) → HasState m v o
      waits v is (inl same) = kept_has v (sym same ∙ is)
      waits v is (inr none) = absurd (none_some v (sym none ∙ is))

      by : (s : Option (View m)) → y.client.view ≡ s → HasState m (view_or_new m y.client y.work (hosted_entries m y.client y.work) s) o
      by None is = new_has m (hosted_entries m y.client y.work) y.work.trims y.client.objects y.client.hosted o hosted
      by (Some v) is = waits v is (view_waits m (after m h ms) n e y walked)

  -- the view that a command has played has a state of each hosted object
  pub played_has : HasState m (kept_play m y.client y.work).view o
  played_has = play_keeps m (hosted_entries m y.client y.work) (own_view m y.client y.work (hosted_entries m y.client y.work)) (play_target m y.work y.work.command) o begins_has
