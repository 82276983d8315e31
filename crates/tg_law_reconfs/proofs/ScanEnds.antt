-- A client that waits for its new sequencer, which may have to learn its layout and to scan the log first, is told that the layout is installed.
use Rattle.std.proofs.Common.{◌≡◌, ◌≢◌, ◌⊎◌, ℕ, suc, ◌+◌, ◌*◌, ◌^◌, ◌<◌, ◌≤◌, List, [], ◌∷◌, ◌++◌, length, Bool, true, false, eqb, refl, ap, ◌∙◌, sym, subst, inl, inr, arith, Some, None, Option}
use Rattle.std.specs.Prelude.{nat_lt, max, slice_index_or, Contains}
use Rattle.std.proofs.lemmas.Bool.Decides.{nat_tests}
use Rattle.tg_any.specs.AllKinds.{all_kinds}
use Rattle.tg_base.specs.Changes.{Changed}
use Rattle.tg_base.specs.Clusters.{Header}
use Rattle.tg_base.specs.Layouts.{Layout, IsLayout}
use Rattle.tg_base.proofs.Rules.{layout_rules}
use Rattle.tg_base.specs.declared.ids.NodeId.{NodeId}
use Rattle.tg_base.specs.declared.msg.Msg.{Msg}
use Rattle.tg_base.specs.declared.msg.Msg.TheVariants as msg
use Rattle.tg_base.specs.declared.packet.Out.{Out}
use Rattle.tg_base.specs.declared.packet.Packet.{Packet}
use Rattle.tg_kind.specs.Meaning.{Meaning}
use Rattle.tg_model.specs.Kinds.{CommandOf, WhatOf}
use Rattle.tg_model.specs.declared.trace.What.TheVariants as told
use Rattle.tg_protocol.specs.Words.{unit_id, seqr_id, client_id, too_far}
use Rattle.tg_protocol.specs.Layouts.{units_of, first_layout}
use Rattle.tg_protocol.specs.Requests.{out, awaits}
use Rattle.tg_protocol.specs.Units.{unit_ask}
use Rattle.tg_protocol.specs.Cells.{Place, CellWork, Puts, Gets, Fills, Copies, Probes, CellJob, place_in, work_asks, cell_asks}
use Rattle.tg_protocol.specs.Sequencers.{SeqrState, new_seqr, seqr_asks, scan_asks, scanning}
use Rattle.tg_protocol.specs.Reconfiguring.{Reconf, Starting, this_or, later_asks, reconf_work_asks}
use Rattle.tg_protocol.specs.Clients.{Work, Task, Hand, Doing, Reconfiguring, new_client}
use Rattle.tg_protocol.specs.ClientSteps.{task_in, task_asks}
use Rattle.tg_protocol.specs.Worlds as Worlds
use Rattle.tg_protocol.specs.Worlds.{World, nodes, runs, unit, layout, seqr, client, settle}
use Rattle.tg_protocol.specs.Runs.{IsQuiet, Moves, Reaches, Always}
use Rattle.tg_protocol.specs.Chosen.{IsDecided}
use Rattle.tg_protocol.specs.Finishing.{IsServing, WaitsAlone, HasReply, IsEnd, ReconfFinished, longest_chain, deliveries, is_with_client, is_scan}
use Rattle.tg_law_layouts.specs.Moves.Configs.{config}
use Rattle.tg_law_layouts.specs.Moves.Telling.{is_request}
use Rattle.tg_law_layouts.specs.Layouts.Decisions.{IsOfDecided}
use Rattle.tg_law_layouts.proofs.Moves.Always.{always}
use Rattle.tg_law_layouts.proofs.Moves.Clients.{work_reserved, hand_reserved}
use Rattle.tg_law_layouts.proofs.Moves.Lists.{contained}
use Rattle.tg_law_layouts.proofs.Moves.Members.{Has}
use Rattle.tg_law_layouts.proofs.Requests.Answered.{Units}
use Rattle.tg_law_layouts.proofs.Requests.Starts.{all_hold}
use Rattle.tg_law_layouts.proofs.Layouts.Deciding.{one_layout, layouts_are_known, layouts_are_sound}
use Rattle.tg_law_layouts.proofs.Layouts.Pax.{task_reconf, reconf_of, HandOk}
use Rattle.tg_law_cells.proofs.Cells.Jobs.{MaybeOk}
use Rattle.tg_law_cells.proofs.Tokens.Named.{Naming, naming_holds}
use Rattle.tg_law_headline.specs.Trims.Spare.{TrimsAre}
use Rattle.tg_law_headline.proofs.Runs.Finding as finding
use Rattle.tg_law_finish.proofs.Finish.Counted.{is_of, one_if}
use Rattle.tg_law_finish.proofs.Finish.Finishes.{nodes_once}
use Rattle.tg_law_finish.proofs.Finish.Lists.{Each}
use Rattle.tg_law_finish.proofs.Finish.Midway.{ReadShape}
use Rattle.tg_law_finish.proofs.Finish.Nets.{Net, net, on_in, net_if, sent_if, net_ticked, sent_ticked, unit_of, layout_of, seqr_of, client_of, happens_counts}
use Rattle.tg_law_finish.proofs.Finish.Reached.{Reached, below_limit, goes, declared, tick_counts}
use Rattle.tg_law_finish.proofs.Finish.Nets.{happens_counts, Net, net, on_in, net_if, sent_if, net_ticked, sent_ticked, unit_of, layout_of, seqr_of, client_of}
use Rattle.tg_law_finish.proofs.Finish.Scans.{Fine}
use Rattle.tg_law_finish.proofs.Finish.Standing.{numbers_hold, cells_always, pax_always, cluster_is, header_limits}
use Rattle.tg_law_finish.proofs.Finish.Writers.{seqr_away}
use Rattle.tg_law_reconfs.specs.Scans.{WaitsForScan, ScanFinishes, ScansFinish, ScansInstall}
use Rattle.tg_law_reconfs.proofs.Answering.{awaited_one}
use Rattle.tg_law_reconfs.proofs.Counts.{is_same}
use Rattle.tg_law_reconfs.proofs.Ends.{WorkIs, TaskIs, settle_says}
use Rattle.tg_law_reconfs.proofs.Fencing.{fences_reached}
use Rattle.tg_law_reconfs.proofs.Grounds.{Answers, answers}
use Rattle.tg_law_reconfs.proofs.Scanning.{Scan}
use Rattle.tg_law_reconfs.proofs.Scanners.{Scanner, JobAt, scanners_reached}
use Rattle.tg_law_reconfs.proofs.ScanSteps.{contrary, Base, none_weigh, from_of, to_of, unit_client, each_has, told_packet, ask_packet, scan_weight, Weigh}
use Rattle.tg_law_reconfs.proofs.ScanTurns.{Learnt, togo, togo_of, togo_most, span, whole_span}
use Rattle.tg_law_reconfs.proofs.ScanDrains.{Flows, Waits, During, Before, Knows, Older, NotTo, during_any, before_any, spent, scanned}
use Rattle.tg_law_reconfs.proofs.ScanTicks.{Ticks, ClientTurn', SeqrTurn', SeqrAt, client_owes, nodes_owe, one_ticks, none_ticks}
use Rattle.tg_law_reconfs.proofs.Starts.{asks_learn, seqrs_always, IsStarting, started_stays}
use Rattle.tg_law_reconfs.proofs.Starts as starts
use Rattle.tg_law_reconfs.proofs.Tapes.{sum_by, deliveries_are, Rules, Ended, rounds_from, settle_ends}

-- a scan asks requests
scan_request : (y : Msg) → Scan (unit_ask y) → is_request y ≡ true
unfolding unit_ask is_request
scan_request (msg.Read e n) f = refl
scan_request (msg.Write e n c) f = refl
scan_request (msg.Copy e n c) f = refl
scan_request (msg.Fill e n) f = refl
scan_request (msg.Has e lo hi st) f = refl
scan_request y f = absurd f

read_one : (a : Place) (y : CellWork) → ReadShape a y → length (work_asks a y) ≤ 1
unfolding work_asks
read_one a (Gets i) f = omega arith
read_one a (Fills i) f = omega arith
read_one a (Copies i c n) f = omega arith
read_one a (Puts i d n) f = absurd f
read_one a (Probes ws) f = absurd f

one_job : (a b : CellJob) → Some a ≡ Some b → a ≡ b
one_job a b e = cc

none_job : (j : CellJob) → None ≡ Some j → ⊥
none_job j e = cc

no_more : {X : Type 0} (x : X) (xs ys : List X) → [] ≡ xs ++ x ∷ ys → ⊥
no_more x [] ys e = cc
no_more x (y ∷ xs) ys e = cc

differ : (j i : ℕ) → eqb j i ≡ false → j ≢ i
differ j i e g = same e g
  where
    same : eqb j i ≡ false → j ≡ i → ⊥
    same e g = grind arith

which : (a b : ℕ) → a ≤ b → (a ≡ b) ⊎ (a < b)
which a b le = grind (arith, le)

not_below : (a b : ℕ) → nat_lt a b ≡ false → b ≤ a
not_below a b e = grind arith

-- a quiet world in which no other client that runs waits
pub record Alone (m : Meaning) (w : World m) (k : ℕ) : Type 0 where
  pub quiet : IsQuiet m w
  pub running : runs m w (client_id k) ≡ true
  pub alone : (j : ℕ) → j ≢ k → runs m w (client_id j) ≡ true → (client m w j).work ≡ None

-- one that waits for its new sequencer, where the layout's nodes run
pub record Adopted (m : Meaning) (w : World m) (k : ℕ) : Type 0 where
  pub work : Work m
  pub waits : (client m w k).work ≡ Some work
  pub reconf : Reconf
  pub hand : work.hand ≡ Doing (Reconfiguring reconf)
  pub rid : ℕ
  pub starting : reconf.work ≡ Starting rid
  pub seqr_runs : runs m w (seqr_id (client m w k).stand.seq) ≡ true
  pub units : (u : ℕ) → Contains (units_of (client m w k).stand) u → runs m w (unit_id u) ≡ true
  pub low_units : (u : ℕ) → (unit m w u).epoch ≤ (client m w k).stand.epoch
  pub low_layouts : (n : ℕ) → (layout m w n).latest.epoch ≤ (client m w k).stand.epoch
  pub low_seqrs : (s : ℕ) → (seqr m w s).epoch ≤ (client m w k).stand.epoch

-- By how many rounds are left after the first one.
module _ (m : Meaning) (h : Header) (ms : Moves m) (w : World m) (reach : Reaches m h ms w) (trims : (zs : Moves m) (v : World m) → Reaches m h zs v → TrimsAre m h zs v) (k : ℕ) (a : Alone m w k) (f : Adopted m w k) (top : ℕ) (many : 1 ≤ top) where
  abbrev p : Layout
  p = (client m w k).stand

  abbrev hd : Header
  hd = w.cluster

  abbrev servers : ℕ
  servers = w.cluster.layouts

  decided : IsOfDecided m w (client m w k).stand
  decided = (layouts_are_known m h ms w reach).clients k

  rules : IsLayout (client m w k).stand
  rules = (layouts_are_sound m h ms w reach _ _ decided).rules

  stood : f.reconf.stand ≡ (client m w k).stand
  stood = (subst (λ (t : Task m). HandOk m w.cluster.layouts k w.packets (client m w k).stand (task_reconf m t)) (ap (task_in m) f.hand)
      (subst (λ (o : Option (Work m)). HandOk m w.cluster.layouts k w.packets (client m w k).stand (reconf_of m o)) f.waits ((pax_always m h ms w reach).clients k))).stand

  abbrev During' : Bool → Net m → List Packet → List Packet → Type 0
  During' late s q done = During m w.cluster w.stopped k (client m w k).stand rules f.reconf f.rid f.starting stood w.cluster.layouts late s q done

  abbrev Before' : Net m → List Packet → List Packet → Type 0
  Before' s q done = Before m w.cluster w.stopped k (client m w k).stand rules f.reconf f.rid f.starting stood w.cluster.layouts s q done

  abbrev Ticks' : Bool → List NodeId → Net m → List Packet → List Packet → Type 0
  Ticks' late xs s q done = Ticks m w.cluster w.stopped k (client m w k).stand rules f.reconf f.rid f.starting stood w.cluster.layouts late xs s q done

  abbrev Nodes : Net m → Type 0
  Nodes s = Base m w.cluster w.stopped k (client m w k).stand rules f.reconf f.rid f.starting stood w.cluster.layouts s

  abbrev Told' : ℕ → ℕ → Msg → Packet
  Told' u i y = told_packet m w.cluster w.stopped k (client m w k).stand rules f.reconf f.rid f.starting stood w.cluster.layouts (client m w k).stand.seq u i y

  abbrev Its : Net m → SeqrState
  Its s = seqr_of m w.cluster s (client m w k).stand.seq

  abbrev Sure : World m → SeqrState → Type 0
  Sure v y = Knows m w.cluster w.stopped k (client m w k).stand rules f.reconf f.rid f.starting stood w.cluster.layouts v y

  -- What is known of each world.

  same_seqr : (zs : Moves m) (v : World m) → Reaches m h zs v → Its (net m v) ≡ seqr m v (client m w k).stand.seq
  same_seqr zs v r = ap (λ (c : Header). slice_index_or v.seqrs (client m w k).stand.seq (new_seqr (client m w k).stand.seq c.limit (first_layout c))) (cluster_is m h ms w reach ∙ sym (cluster_is m h zs v r))

  units_always : Always m (λ v. Units m (config m v))
  units_always = always m (λ v. Units m (config m v)) (λ h ms. (all_hold m h ms).0.1)

  scanner : (zs : Moves m) (v : World m) → Reaches m h zs v → Scanner (Its (net m v))
  scanner zs v r = subst Scanner (sym (same_seqr zs v r)) (scanners_reached m h zs v r (client m w k).stand.seq)

  scan_ok : (zs : Moves m) (v : World m) → Reaches m h zs v → MaybeOk v.packets (Its (net m v)).proj (Its (net m v)).scan
  scan_ok zs v r = subst (λ (y : SeqrState). MaybeOk v.packets y.proj y.scan) (sym (same_seqr zs v r)) ((cells_always m h zs v r).scans (client m w k).stand.seq)

  fine : (zs : Moves m) (v : World m) → Reaches m h zs v → Fine (client m w k).stand.seq v.cluster.limit (Its (net m v))
  fine zs v r = subst (Fine (client m w k).stand.seq v.cluster.limit) (sym (same_seqr zs v r)) ((seqrs_always m h zs v r).fine (client m w k).stand.seq)

  knows : (zs : Moves m) (v : World m) → Reaches m h zs v → Nodes (net m v) → Learnt (client m w k).stand rules (Its (net m v)) → Sure v (Its (net m v))
  knows zs v r base learnt = record { answers = answer; at = λ j has. (at j has).0; asked = asked; near = near }
    where
      at : (j : CellJob) → (Its (net m v)).scan ≡ Some j → (j.place ≡ place_in (Its (net m v)).proj (Its (net m v)).next) × ReadShape j.place j.work
      at j has = subst (JobAt (Its (net m v))) has (scanner zs v r).at

      known : IsOfDecided m v (client m w k).stand
      known = subst (λ (q : Layout). IsOfDecided m v q) (ap (λ (y : SeqrState). y.proj) (sym (same_seqr zs v r)) ∙ learnt.proj) ((layouts_are_known m h zs v r).seqrs (client m w k).stand.seq)

      answer : (j : CellJob) → (Its (net m v)).scan ≡ Some j → Answers m w.stopped v j
      answer j has = answers m h zs v r (trims zs v r) w.stopped k (client m w k).stand known base.units base.units_on j (Its (net m v)).next ((at j has).0 ∙ ap (λ (q : Layout). place_in q (Its (net m v)).next) learnt.proj) (at j has).1
          (subst (λ (o : Option CellJob). MaybeOk v.packets (Its (net m v)).proj o) has (scan_ok zs v r)).work

      agreed : (j : CellJob) → (Its (net m v)).scan ≡ Some j → (u i : ℕ) (y z : Msg) → Has (cell_asks j) (out (unit_id u) i y) → Has v.packets (record { from = seqr_id (client m w k).stand.seq; to = unit_id u; rid = i; msg = z }) → is_request z ≡ true → y ≡ z
      agreed j has u i y z g sent req = ((numbers_hold m h zs v r).seqrs (client m w k).stand.seq).agree (out (unit_id u) i y) _
          (subst (λ (s : SeqrState). Has (seqr_asks s) (out (unit_id u) i y)) (same_seqr zs v r) (subst (λ (o : Option CellJob). Has (scan_asks o) (out (unit_id u) i y)) (sym has) g)) sent refl req refl refl

      asked : (j : CellJob) (u i : ℕ) (z : Msg) → (Its (net m v)).scan ≡ Some j → Has v.packets (record { from = seqr_id (client m w k).stand.seq; to = unit_id u; rid = i; msg = z }) → Scan (unit_ask z) → awaits (cell_asks j) (unit_id u) i ≡ true → cell_asks j ≡ out (unit_id u) i z ∷ []
      asked j u i z has sent scan awaited = by (awaited_one (cell_asks j) (unit_id u) i awaited)
        where
          one : (y : Msg) → Has (out (unit_id (answer j has).unit) (answer j has).rid (answer j has).says ∷ []) (out (unit_id u) i y) → out (unit_id u) i y ≡ out (unit_id (answer j has).unit) (answer j has).rid (answer j has).says
          one y (inl e) = e
          one y (inr g) = absurd g

          by : (y : Msg) × Has (cell_asks j) (out (unit_id u) i y) → cell_asks j ≡ out (unit_id u) i z ∷ []
          by (y, g) =
              let e = one y (subst (λ (os : List Out). Has os (out (unit_id u) i y)) (answer j has).is g) in
              let s = agreed j has u i y z g sent (scan_request z scan) in
              (answer j has).is ∙ (ap (λ (o : Out). o ∷ []) (sym e) ∙ ap (λ (n : Msg). out (unit_id u) i n ∷ []) s)

      near : too_far (Its (net m v)).next ≡ false
      near = far_not v.cluster.limit (Its (net m v)).proj.start (Its (net m v)).next (fine zs v r).room limit_near start_near
        where
          far_not : (a b n : ℕ) → n ≤ max a b → a < 2 ^ 62 → b < 2 ^ 62 → too_far n ≡ false
          far_not a b n le l k = grind (arith, nat_tests, le, l, k)

          limit_near : v.cluster.limit < 2 ^ 62
          limit_near = subst (λ (y : Header). y.limit < 2 ^ 62) (sym (cluster_is m h zs v r)) (header_limits h reach.header).1

          start_near : (Its (net m v)).proj.start < 2 ^ 62
          start_near = subst (λ (y : SeqrState). y.proj.start < 2 ^ 62) (sym (same_seqr zs v r)) (layouts_are_sound m h zs v r _ _ ((layouts_are_known m h zs v r).seqrs (client m w k).stand.seq)).near

  older : (zs : Moves m) (v : World m) → Reaches m h zs v → (u i : ℕ) (z : Msg) → Has v.packets (Told' u i z) → i < (Its (net m v)).rids
  older zs v r u i z has =
      let t = (units_always h zs v r).answered u (Told' u i z) has refl in
      let less = ((numbers_hold m h zs v r).seqrs (client m w k).stand.seq).below t.ask t.asked t.from t.request in
      let same = t.rid in
      let it = ap (λ (y : SeqrState). y.rids) (same_seqr zs v r) in
      omega (arith, less, same, it)

  rests : (zs : Moves m) (v : World m) → Reaches m h zs v → Learnt (client m w k).stand rules (Its (net m v)) → (Its (net m v)).scan ≡ None → scanning (Its (net m v)) ≡ false
  rests zs v r learnt none = by (scanning (Its (net m v))) refl
    where
      by : (b : Bool) → scanning (Its (net m v)) ≡ b → scanning (Its (net m v)) ≡ false
      by true e = absurd ((scanner zs v r).some e learnt.fence none)
      by false e = e

  few_asks : (zs : Moves m) (v : World m) → Reaches m h zs v → length (seqr_asks (Its (net m v))) ≤ 1
  few_asks zs v r = by (Its (net m v)).scan refl
    where
      by : (o : Option CellJob) → (Its (net m v)).scan ≡ o → length (scan_asks (Its (net m v)).scan) ≤ 1
      by None e = subst (λ (o : Option CellJob). length (scan_asks o) ≤ 1) (sym e) (omega arith)
      by (Some j) e = subst (λ (o : Option CellJob). length (scan_asks o) ≤ 1) (sym e) (read_one j.place j.work (subst (JobAt (Its (net m v))) e (scanner zs v r).at).1)

  -- The rounds.

  abbrev Inv : ℕ → Net m → List Packet → List Packet → Type 0
  Inv n s q done = ((n ≡ top) × (Before' s q done ⊎ During' false s q done)) ⊎ ((n < top) × During' true s q done)

  abbrev Pre : ℕ → List NodeId → Net m → List Packet → List Packet → Type 0
  Pre n xs s q done = ((n ≡ top) × Ticks' false xs s q done) ⊎ ((n < top) × Ticks' true xs s q done)

  record End (s : Net m) (done : List Packet) : Type 0 where
    none : (client_of m w.cluster s k).work ≡ None
    learnt : Learnt (client m w k).stand rules (Its s)
    stops : (Its s).scan ≡ None
    few : sum_by (λ y. one_if (is_of k y)) done ≤ 4 * w.cluster.layouts + 4
    scans : sum_by (λ y. one_if (is_scan m (client m w k).stand.seq k y)) done ≤ 2 * span (client m w k).stand rules (client m w k).stand.start + 2

  delivered : (n : ℕ) (v : World m) (y : Packet) (q done : List Packet) → Reached m h v → ((z : Packet) → Has (y ∷ q) z → Has v.packets z) → Inv n (net m v) (y ∷ q) done
      → Inv n (net_if m (on_in m w.stopped (net m v) y.to) w.cluster (net m v) y) (q ++ sent_if m (on_in m w.stopped (net m v) y.to) w.cluster (net m v) y) (y ∷ done)
  delivered n v y q done (zs, r) sent (inl (e, inl d)) = by (before_any m w.cluster w.stopped k (client m w k).stand rules f.reconf f.rid f.starting stood w.cluster.layouts v q done y d.front d refl (on_in m w.stopped (net m v) y.to) refl (older zs v r) sent)
    where
      by : Before' (net_if m (on_in m w.stopped (net m v) y.to) w.cluster (net m v) y) (q ++ sent_if m (on_in m w.stopped (net m v) y.to) w.cluster (net m v) y) (y ∷ done) ⊎ During' false (net_if m (on_in m w.stopped (net m v) y.to) w.cluster (net m v) y) (q ++ sent_if m (on_in m w.stopped (net m v) y.to) w.cluster (net m v) y) (y ∷ done)
          → Inv n (net_if m (on_in m w.stopped (net m v) y.to) w.cluster (net m v) y) (q ++ sent_if m (on_in m w.stopped (net m v) y.to) w.cluster (net m v) y) (y ∷ done)
      by (inl g) = inl (e, inl g)
      by (inr g) = inl (e, inr g)
  delivered n v y q done (zs, r) sent (inl (e, inr d)) = inl (e, inr (during_any m w.cluster w.stopped k (client m w k).stand rules f.reconf f.rid f.starting stood w.cluster.layouts false v y q done d.each.0 (on_in m w.stopped (net m v) y.to) refl (knows zs v r d.base d.learnt) (older zs v r) (rests zs v r d.learnt) sent d))
  delivered n v y q done (zs, r) sent (inr (less, d)) = inr (less, during_any m w.cluster w.stopped k (client m w k).stand rules f.reconf f.rid f.starting stood w.cluster.layouts true v y q done d.each.0 (on_in m w.stopped (net m v) y.to) refl (knows zs v r d.base d.learnt) (older zs v r) (rests zs v r d.learnt) sent d)

  ticked : (n : ℕ) (y : NodeId) (ys : List NodeId) (v : World m) (q done : List Packet) → Reached m h v → on_in m w.stopped (net m v) y ≡ true → Pre n (y ∷ ys) (net m v) q done → Pre n ys (net_ticked m w.cluster (net m v) y.num y.role) (q ++ sent_ticked m w.cluster (net m v) y.num y.role) done
  ticked n y ys v q done fact on (inl (e, d)) = inl (e, one_ticks m w.cluster w.stopped k (client m w k).stand rules f.reconf f.rid f.starting stood w.cluster.layouts false y ys (net m v) q done on d)
  ticked n y ys v q done fact on (inr (less, d)) = inr (less, one_ticks m w.cluster w.stopped k (client m w k).stand rules f.reconf f.rid f.starting stood w.cluster.layouts true y ys (net m v) q done on d)

  skipped : (n : ℕ) (y : NodeId) (ys : List NodeId) (s : Net m) (q done : List Packet) → on_in m w.stopped s y ≡ false → Pre n (y ∷ ys) s q done → Pre n ys s q done
  skipped n y ys s q done off (inl (e, d)) = inl (e, none_ticks m w.cluster w.stopped k (client m w k).stand rules f.reconf f.rid f.starting stood w.cluster.layouts false y ys s q done off d)
  skipped n y ys s q done off (inr (less, d)) = inr (less, none_ticks m w.cluster w.stopped k (client m w k).stand rules f.reconf f.rid f.starting stood w.cluster.layouts true y ys s q done off d)

  -- After the ticks.

  abbrev Asks : Packet
  Asks = ask_packet m w.cluster w.stopped k (client m w k).stand rules f.reconf f.rid f.starting stood w.cluster.layouts

  abbrev Aside : Packet → Type 0
  Aside y = NotTo m w.cluster w.stopped k (client m w k).stand rules f.reconf f.rid f.starting stood w.cluster.layouts y

  no_told : (front back : List Packet) → Each Aside front → Each Aside back → (u i : ℕ) (z : Msg) → Has (front ++ Asks ∷ back) (Told' u i z) → ⊥
  no_told [] back a b u i z (inl e) = unit_client u k (from_of _ _ e)
  no_told [] back a b u i z (inr g) = (each_has Aside back _ b g).0 refl
  no_told (y ∷ front) back a b u i z (inl e) = a.0.0 (sym (to_of _ _ e))
  no_told (y ∷ front) back a b u i z (inr g) = no_told front back a.1 b u i z g

  there : (front back : List Packet) → Has (front ++ Asks ∷ back) Asks
  there [] back = inl refl
  there (y ∷ front) back = inr (there front back)

  asks_scan : (y : SeqrState) (j : CellJob) (o : Out) → y.scan ≡ Some j → cell_asks j ≡ o ∷ [] → Has (seqr_asks y) o
  asks_scan y j o has is = subst (λ (c : Option CellJob). Has (scan_asks c) o) (sym has) (subst (λ (os : List Out). Has os o) (sym is) (inl refl))

  first_begins : (s : Net m) (q done : List Packet) → Ticks' false [] s q done → Before' s q done ⊎ During' false s q done
  first_begins s q done d = by d.client_turn d.seqr_turn d.at
    where
      by : ClientTurn' m w.cluster w.stopped k (client m w k).stand rules f.reconf f.rid f.starting stood w.cluster.layouts false [] (client_of m w.cluster s k) q done → SeqrTurn' m w.cluster w.stopped k (client m w k).stand rules f.reconf f.rid f.starting stood w.cluster.layouts [] (Its s) q
          → SeqrAt m w.cluster w.stopped k (client m w k).stand rules f.reconf f.rid f.starting stood w.cluster.layouts false (Its s) done → Before' s q done ⊎ During' false s q done
      by (inl c) y at = absurd c.owes.here
      by (inr (inl c)) y at = absurd (contrary c.is_late refl)
      by (inr (inr c)) (inl y) at = absurd y.0.here
      by (inr (inr c)) (inr y) (none, inl at) =
          let few = c.few in
          let one = d.one in
          let light = y.1.0 in
          let most = at.1 in
          inr (record {
            base = d.base;
            learnt = at.0;
            client = inl c.waits;
            each = d.each;
            flows = record { live = λ j u i z has is. inl (y.1.1 _ (asks_scan (Its s) j _ has is)); good = λ j u i z has g awaited. absurd (no_told c.front c.back c.before c.behind u i z (subst (λ (l : List Packet). Has l (Told' u i z)) c.is g)) };
            few = few;
            scans = omega (arith, none, one, light, most);
            late_is = λ l. absurd (contrary l refl);
          })
      by (inr (inr c)) (inr y) (none, inr at) =
          let few = c.few in
          let one = d.one in
          let light = y.1.0 in
          inl (record { base = d.base; num = at.0; old = at.1; client = c.waits; front = c.front; back = c.back; is = c.is; each = d.each; first = c.before; few = omega (arith, few); scans = omega (arith, none, one, light) })

  late_begins : (s : Net m) (q done : List Packet) → Ticks' true [] s q done → During' true s q done
  late_begins s q done d = record {
    base = d.base;
    learnt = d.at.0;
    client = own_at d.client_turn;
    each = d.each;
    flows = record { live = λ j u i z has is. absurd (none_job j (sym d.at.1.0 ∙ has)); good = λ j u i z has g awaited. absurd (none_job j (sym d.at.1.0 ∙ has)) };
    few = few d.client_turn;
    scans = scans d.seqr_turn;
    late_is = λ l. (d.at.1.0, late d.client_turn);
  }
    where
      own_at : ClientTurn' m w.cluster w.stopped k (client m w k).stand rules f.reconf f.rid f.starting stood w.cluster.layouts true [] (client_of m w.cluster s k) q done → Waits m w.cluster w.stopped k (client m w k).stand rules f.reconf f.rid f.starting stood w.cluster.layouts (client_of m w.cluster s k) ⊎ ((client_of m w.cluster s k).work ≡ None)
      own_at (inl c) = inl c.waits
      own_at (inr (inl c)) = inr c.none
      own_at (inr (inr c)) = inl c.waits

      few : ClientTurn' m w.cluster w.stopped k (client m w k).stand rules f.reconf f.rid f.starting stood w.cluster.layouts true [] (client_of m w.cluster s k) q done
          → spent m w.cluster w.stopped k (client m w k).stand rules f.reconf f.rid f.starting stood w.cluster.layouts done + Weigh m w.cluster w.stopped k (client m w k).stand rules f.reconf f.rid f.starting stood w.cluster.layouts q + 0 ≤ 4 * w.cluster.layouts + 4
      few (inl c) = let e = c.few in omega (arith, e)
      few (inr (inl c)) = let e = c.few in omega (arith, e)
      few (inr (inr c)) = let e = c.few in omega (arith, e)

      late : ClientTurn' m w.cluster w.stopped k (client m w k).stand rules f.reconf f.rid f.starting stood w.cluster.layouts true [] (client_of m w.cluster s k) q done → ((client_of m w.cluster s k).work ≡ None) ⊎ Rattle.tg_law_reconfs.proofs.ScanDrains.Flight m w.cluster w.stopped k (client m w k).stand rules f.reconf f.rid f.starting stood w.cluster.layouts q
      late (inl c) = absurd c.owes.here
      late (inr (inl c)) = inl c.none
      late (inr (inr c)) = inr (inl (subst (λ (l : List Packet). Has l Asks) (sym c.is) (there c.front c.back)))

      nothing : (togo (client m w k).stand rules (Its s) ≡ 0) × (length (seqr_asks (Its s)) ≡ 0)
      nothing = (ap (λ (o : Option CellJob). togo_of (client m w k).stand rules (Its s).next o) d.at.1.0, ap (λ (o : Option CellJob). length (scan_asks o)) d.at.1.0)

      scans : SeqrTurn' m w.cluster w.stopped k (client m w k).stand rules f.reconf f.rid f.starting stood w.cluster.layouts [] (Its s) q
          → scanned m w.cluster w.stopped k (client m w k).stand rules f.reconf f.rid f.starting stood w.cluster.layouts done + sum_by (scan_weight m w.cluster w.stopped k (client m w k).stand rules f.reconf f.rid f.starting stood w.cluster.layouts) q + 2 * togo (client m w k).stand rules (Its s) ≤ 2 * span (client m w k).stand rules (client m w k).stand.start + 2
      scans (inl y) = absurd y.0.here
      scans (inr y) = let e = nothing.0 in let g = nothing.1 in let light = y.1.0 in let most = d.at.1.1 in omega (arith, e, g, light, most)

  begun : (n : ℕ) (v : World m) (q done : List Packet) → Reached m h v → Pre n [] (net m v) q done → Inv n (net m v) q done
  begun n v q done fact (inl (e, d)) = inl (e, first_begins (net m v) q done d)
  begun n v q done fact (inr (less, d)) = inr (less, late_begins (net m v) q done d)

  -- Between two rounds.

  at_end : (s : Net m) (done : List Packet) → During' true s [] done → End s done
  at_end s done d =
      let l = d.late_is refl in
      let none = none_weigh m w.cluster w.stopped k (client m w k).stand rules f.reconf f.rid f.starting stood w.cluster.layouts in
      let few = d.few in
      let scans = d.scans in
      record { none = by l.1; learnt = d.learnt; stops = l.0; few = omega (arith, few); scans = omega (arith, scans) }
    where
      by : ((client_of m w.cluster s k).work ≡ None) ⊎ Rattle.tg_law_reconfs.proofs.ScanDrains.Flight m w.cluster w.stopped k (client m w k).stand rules f.reconf f.rid f.starting stood w.cluster.layouts [] → (client_of m w.cluster s k).work ≡ None
      by (inl e) = e
      by (inr (inl g)) = absurd g
      by (inr (inr (t, near, g))) = absurd g

  still : (n : ℕ) (s : Net m) (done : List Packet) → Pre n [] s [] done → (t : Net m) (more : List Packet) → Inv n t [] more → End t more
  still n s done (inl (e, d)) t more i = absurd (by d.client_turn)
    where
      by : ClientTurn' m w.cluster w.stopped k (client m w k).stand rules f.reconf f.rid f.starting stood w.cluster.layouts false [] (client_of m w.cluster s k) [] done → ⊥
      by (inl c) = c.owes.here
      by (inr (inl c)) = contrary c.is_late refl
      by (inr (inr c)) = no_more Asks c.front c.back c.is
  still n s done (inr (less, d)) t more (inl (e, i)) = absurd (omega (arith, less, e))
  still n s done (inr (less, d)) t more (inr (l, i)) = at_end t more i

  clients_long : (v : World m) → on_in m w.stopped (net m v) (client_id k) ≡ true → k < length v.clients
  clients_long v e = grind arith

  seqrs_long : (v : World m) → on_in m w.stopped (net m v) (seqr_id (client m w k).stand.seq) ≡ true → (client m w k).stand.seq < length v.seqrs
  seqrs_long v e = grind arith

  none_scan : (y : SeqrState) → y.scan ≡ None → length (seqr_asks y) ≤ 1
  none_scan y e = subst (λ (o : Option CellJob). length (scan_asks o) ≤ 1) (sym e) (omega arith)

  -- a drained world, in which it has scanned
  late_again : (v : World m) (done : List Packet) → Nodes (net m v) → Learnt (client m w k).stand rules (Its (net m v)) → (Its (net m v)).scan ≡ None
      → scanned m w.cluster w.stopped k (client m w k).stand rules f.reconf f.rid f.starting stood w.cluster.layouts done ≤ 2 * span (client m w k).stand rules (client m w k).stand.start + 2
      → ClientTurn' m w.cluster w.stopped k (client m w k).stand rules f.reconf f.rid f.starting stood w.cluster.layouts true (nodes m v) (client_of m w.cluster (net m v) k) [] done → Ticks' true (nodes m v) (net m v) [] done
  late_again v done base learnt stops few turn = record {
    base = base;
    at = (learnt, (stops, few));
    one = none_scan (Its (net m v)) stops;
    each = tt;
    client_turn = turn;
    seqr_turn = inl (nodes_owe (client m w k).stand.seq m v (seqrs_long v base.seqr_on), (none_weigh m w.cluster w.stopped k (client m w k).stand rules f.reconf f.rid f.starting stood w.cluster.layouts).1);
  }

  again : (n : ℕ) (v : World m) (done : List Packet) → Reached m h v → Inv (suc n) (net m v) [] done → Pre n (nodes m v) (net m v) [] done
  again n v done fact (inl (e, inl d)) = absurd (no_more Asks d.front d.back d.is)
  again n v done (zs, r) (inl (e, inr d)) = inr (omega (arith, e), late_again v done d.base d.learnt stops (let s = d.scans in omega (arith, s)) (turn d.client))
    where
      stops : (Its (net m v)).scan ≡ None
      stops = by (Its (net m v)).scan refl
        where
          by : (o : Option CellJob) → (Its (net m v)).scan ≡ o → (Its (net m v)).scan ≡ None
          by None e = e
          by (Some j) e = absurd (of (d.flows.live j _ _ _ e ((knows zs v r d.base d.learnt).answers j e).is) (λ g. g) (λ g. g.1))
            where
              of : {P Q : Type 0} → P ⊎ Q → (P → ⊥) → (Q → ⊥) → ⊥
              of (inl g) a b = a g
              of (inr g) a b = b g

      few : spent m w.cluster w.stopped k (client m w k).stand rules f.reconf f.rid f.starting stood w.cluster.layouts done + Weigh m w.cluster w.stopped k (client m w k).stand rules f.reconf f.rid f.starting stood w.cluster.layouts [] + (2 * w.cluster.layouts + 2) + 0 ≤ 4 * w.cluster.layouts + 4
      few = let s = d.few in omega (arith, s)

      turn : Waits m w.cluster w.stopped k (client m w k).stand rules f.reconf f.rid f.starting stood w.cluster.layouts (client_of m w.cluster (net m v) k) ⊎ ((client_of m w.cluster (net m v) k).work ≡ None)
          → ClientTurn' m w.cluster w.stopped k (client m w k).stand rules f.reconf f.rid f.starting stood w.cluster.layouts true (nodes m v) (client_of m w.cluster (net m v) k) [] done
      turn (inl c) = inl (record { waits = c; owes = client_owes k (nodes m v) (nodes_once k m v (clients_long v d.base.on)); aside = tt; few = few })
      turn (inr c) = inr (inl (record { none = c; is_late = refl; aside = tt; few = let s = few in omega (arith, s) }))
  again n v done fact (inr (less, d)) =
      let l = d.late_is refl in
      let e = at_end (net m v) done d in
      inr (omega (arith, less), late_again v done d.base d.learnt l.0 (let s = d.scans in omega (arith, s)) (inr (inl (record { none = e.none; is_late = refl; aside = tt; few = let s = d.few in omega (arith, s) }))))

  ends : (s : Net m) (done : List Packet) → Inv 0 s [] done → End s done
  ends s done (inl (e, d)) = absurd (omega (arith, e, many))
  ends s done (inr (less, d)) = at_end s done d

  rounds : Rules m w.cluster w.stopped (Reached m h) Inv Pre End
  rounds = record {
    facts = record {
      delivered = λ v i free g. goes m h v _ tt (below_limit m h v free) (happens_counts m v i) g;
      ticked = λ v n on free g. goes m h v _ (declared m h v n g on) (below_limit m h v free) (tick_counts m h v n) g;
      fair = λ v i z g e. tt;
    };
    deliver = delivered;
    one = ticked;
    other = skipped;
    begins = begun;
    still = still;
    again = again;
    ends = ends;
  }

  -- The world at first.

  base : Nodes (net m w)
  base = record {
    on = on_of (client_id k) a.running;
    seqr_on = on_of (seqr_id (client m w k).stand.seq) f.seqr_runs;
    units_on = λ u has. on_of (unit_id u) (f.units u (contained (units_of (client m w k).stand) u has));
    units = f.low_units;
    layouts = f.low_layouts;
    idle = λ j off on. a.alone j (differ j k off) (sym (on_is (client_id j)) ∙ on);
  }
    where
      on_is : (n : NodeId) → on_in m w.stopped (net m w) n ≡ runs m w n
      on_is n = sym (Rattle.tg_law_finish.proofs.Finish.Nets.runs_on m w n)

      on_of : (n : NodeId) → runs m w n ≡ true → on_in m w.stopped (net m w) n ≡ true
      on_of n e = on_is n ∙ e

  waits : Waits m w.cluster w.stopped k (client m w k).stand rules f.reconf f.rid f.starting stood w.cluster.layouts (client m w k)
  unfolding task_asks
  waits = let e = asks_learn m w.cluster w.stopped k (client m w k).stand f.reconf f.rid f.starting stood f.reconf.work f.starting in record {
    shape = record {
      stand = refl;
      work = f.work;
      waits = f.waits;
      hand = f.hand;
      awaited = ap (λ (os : List Out). os ++ later_asks f.reconf f.reconf.work) e.0 ∙ ap (λ (os : List Out). out (seqr_id (client m w k).stand.seq) f.rid (msg.Learn (client m w k).stand) ∷ os) e.1;
      again = ap (λ (os : List Out). this_or os (reconf_work_asks f.reconf f.reconf.work)) e.1 ∙ e.0;
      asks = e.0;
      below = (below, tt);
      away = ((λ l. seqr_away m w.cluster w.stopped k (client m w k).stand 0 (client m w k).stand.seq l), tt);
    };
    layouts = (pax_always m h ms w reach).layouts k;
  }
    where
      below : f.rid < (client m w k).next
      below = ((numbers_hold m h ms w reach).clients k).open' (out (seqr_id (client m w k).stand.seq) f.rid (msg.Learn (client m w k).stand))
          (subst (λ (y : Option (Work m)). Has (work_reserved m (client m w k).stand y) (out (seqr_id (client m w k).stand.seq) f.rid (msg.Learn (client m w k).stand))) (sym f.waits) (subst (λ (y : Hand m). Has (hand_reserved m (client m w k).stand y) (out (seqr_id (client m w k).stand.seq) f.rid (msg.Learn (client m w k).stand))) (sym f.hand)
          (subst (λ (os : List Out). Has (os ++ later_asks f.reconf f.reconf.work) (out (seqr_id (client m w k).stand.seq) f.rid (msg.Learn (client m w k).stand))) (sym (asks_learn m w.cluster w.stopped k (client m w k).stand f.reconf f.rid f.starting stood f.reconf.work f.starting).0) (inl refl))))

  naming : Naming m (config m w)
  naming = subst (λ (v : World m). Naming m (config m v)) (sym reach.goes.is) (naming_holds m h ms)

  -- where it has learnt the layout
  learnt : (Its (net m w)).epoch ≡ (client m w k).stand.epoch → Learnt (client m w k).stand rules (Its (net m w))
  learnt e = record { num = (fine ms w reach).num; epoch = e; proj = proj; fence = by (Its (net m w)).fence refl }
    where
      own : (Its (net m w)).proj.epoch ≡ (Its (net m w)).epoch
      own = ((naming.seqs (client m w k).stand.seq).own (let a = (layout_rules (client m w k).stand rules).epoch in omega (arith, a, e))).0

      proj : (Its (net m w)).proj ≡ (client m w k).stand
      proj = one_layout m h ms w reach (client m w k).stand.epoch _ (client m w k).stand (subst (λ n. IsDecided m w n (Its (net m w)).proj) (own ∙ e) ((layouts_are_known m h ms w reach).seqrs (client m w k).stand.seq)) decided

      by : (o : Option ℕ) → (Its (net m w)).fence ≡ o → (Its (net m w)).fence ≡ None
      by None g = g
      by (Some n) g =
          let past = (scanner ms w reach).fenced n g in
          let u = fences_reached m h ms w reach (client m w k).stand.seq n g in
          let low = u.1 in
          let high = f.low_units u.0 in
          let same = ap (λ (q : Layout). q.epoch) proj in
          absurd (omega (arith, past, low, high, same))

  zero_sum : (g : Packet → ℕ) → sum_by g [] ≡ 0
  unfolding sum_by
  zero_sum g = refl

  at_first : SeqrAt m w.cluster w.stopped k (client m w k).stand rules f.reconf f.rid f.starting stood w.cluster.layouts false (Its (net m w)) []
  at_first = (zero_sum _, by (which (Its (net m w)).epoch (client m w k).stand.epoch (f.low_seqrs (client m w k).stand.seq)))
    where
      most : Learnt (client m w k).stand rules (Its (net m w)) → (o : Option CellJob) → (Its (net m w)).scan ≡ o → togo (client m w k).stand rules (Its (net m w)) ≤ span (client m w k).stand rules (client m w k).stand.start
      most l None e = subst (λ (o : Option CellJob). togo_of (client m w k).stand rules (Its (net m w)).next o ≤ span (client m w k).stand rules (client m w k).stand.start) (sym e) (omega arith)
      most l (Some j) e = togo_most (client m w k).stand rules (Its (net m w)) j l e (subst (JobAt (Its (net m w))) e (scanner ms w reach).at).0 (scans (scanning (Its (net m w))) refl)
        where
          scans : (b : Bool) → scanning (Its (net m w)) ≡ b → scanning (Its (net m w)) ≡ true
          scans true g = g
          scans false g = absurd (none_job j (sym ((scanner ms w reach).rests g) ∙ e))

      by : ((Its (net m w)).epoch ≡ (client m w k).stand.epoch) ⊎ ((Its (net m w)).epoch < (client m w k).stand.epoch) → (Learnt (client m w k).stand rules (Its (net m w)) × (togo (client m w k).stand rules (Its (net m w)) ≤ span (client m w k).stand rules (client m w k).stand.start)) ⊎ (((Its (net m w)).num ≡ (client m w k).stand.seq) × ((Its (net m w)).epoch < (client m w k).stand.epoch))
      by (inl e) = inl (learnt e, most (learnt e) (Its (net m w)).scan refl)
      by (inr less) = inr ((fine ms w reach).num, less)

  first : Pre top (nodes m w) (net m w) [] []
  first =
      let none = none_weigh m w.cluster w.stopped k (client m w k).stand rules f.reconf f.rid f.starting stood w.cluster.layouts in
      let zero' = zero_sum (λ y. one_if (is_of k y)) in
      let light = none.0 in
      inl (
        refl,
        record {
          base = base;
          at = at_first;
          one = few_asks ms w reach;
          each = tt;
          client_turn = inl (record { waits = waits; owes = client_owes k (nodes m w) (nodes_once k m w (clients_long w base.on)); aside = tt; few = omega (arith, zero', light) });
          seqr_turn = inl (nodes_owe (client m w k).stand.seq m w (seqrs_long w base.seqr_on), none.1);
        },
      )

  -- where a settling comes to this world with two rounds or more left
  pub rests_then : (Worlds.rounds m (suc top) w).stopped ≡ None → (client m (Worlds.rounds m (suc top) w).world k).work ≡ None
  rests_then none =
      let e = rounds_from m w.cluster w.stopped (Reached m h) Inv Pre End w rounds top a.quiet (ms, reach) first refl refl none in
      subst (λ (c : Header). (slice_index_or (Worlds.rounds m (suc top) w).world.clients k (new_client m c k)).work ≡ None) (sym e.cluster) e.end.none

  -- A settling.
  module _ (seven : top ≡ 7) (within : (settle m w).stopped ≡ None) where
    ended : Ended m w.cluster w.stopped (Reached m h) Inv Pre End w (settle m w).world
    ended = settle_ends m w.cluster w.stopped (Reached m h) Inv Pre End w rounds a.quiet (ms, reach) (subst (λ (n : ℕ). Pre n (nodes m w) (net m w) [] []) seven first) refl refl within

    -- What it comes to.

    idle : (client m (settle m w).world k).work ≡ None
    idle = subst (λ (c : Header). (slice_index_or (settle m w).world.clients k (new_client m c k)).work ≡ None) (sym ended.cluster) ended.end.none

    abbrev Last : SeqrState
    Last = seqr m (settle m w).world (client m w k).stand.seq

    last : Its (net m (settle m w).world) ≡ seqr m (settle m w).world (client m w k).stand.seq
    last = same_seqr ended.fact.0 (settle m w).world ended.fact.1

    serves : IsServing (seqr m (settle m w).world (client m w k).stand.seq) (client m w k).stand.epoch
    serves = subst (λ (y : SeqrState). IsServing y (client m w k).stand.epoch) last (record {
      epoch = ended.end.learnt.epoch;
      scanned = not_below _ _ (rests ended.fact.0 (settle m w).world ended.fact.1 ended.end.learnt ended.end.stops);
      unfenced = ended.end.learnt.fence;
    })

    same_sum : (q : List Packet) → sum_by (λ y. one_if (is_with_client m k y)) q ≡ sum_by (λ y. one_if (is_of k y)) q
    unfolding sum_by
    same_sum [] = refl
    same_sum (y ∷ q) = let e = same_sum q in let g = ap one_if (is_same m k y) in omega (arith, e, g)

    few_client : deliveries m (is_with_client m k) w (settle m w).world ≤ 4 * w.cluster.layouts + 4
    few_client = let e = deliveries_are m (is_with_client m k) w (settle m w).world ended.done ended.since in let g = same_sum ended.done in let few = ended.end.few in omega (arith, e, g, few)

    few_scan : deliveries m (is_scan m (client m w k).stand.seq k) w (settle m w).world ≤ (client m w k).stand.start * (2 * longest_chain (client m w k).stand + 2) + 2
    few_scan = let e = deliveries_are m (is_scan m (client m w k).stand.seq k) w (settle m w).world ended.done ended.since in let g = whole_span (client m w k).stand rules (client m w k).stand.start in let few = ended.end.scans in omega (arith, e, g, few)

    pub finishes : ScanFinishes m w (settle m w).world k
    finishes = record {
      finishes = record {
        idle = idle;
        reply = settle_says m (IsStarting m (client m w k).stand) (starts.IsInstalled m (client m w k).stand) k (started_stays m (client m w k).stand) w
            (subst (λ (o : Option (Work m)). WorkIs m (IsStarting m (client m w k).stand) (starts.IsInstalled m (client m w k).stand) o) (sym f.waits) (subst (λ (d : Hand m). TaskIs m (IsStarting m (client m w k).stand) (starts.IsInstalled m (client m w k).stand) (task_in m d)) (sym f.hand) ((f.rid, f.starting), stood))) idle;
        few = few_client;
      };
      serves = serves;
      few = few_scan;
    }

    -- So for the claim of reconfigurations.

    latest_decided : IsDecided m (settle m w).world (client m w k).stand.epoch (client m w k).stand
    latest_decided = subst (λ (q : Layout). IsOfDecided m (settle m w).world q) (ap (λ (y : SeqrState). y.proj) (sym last) ∙ ended.end.learnt.proj) ((layouts_are_known m h ended.fact.0 (settle m w).world ended.fact.1).seqrs (client m w k).stand.seq)

    is_end : (v : World m) (e : ℕ) → HasReply m w v k (λ what. what ≡ told.Installed e) → HasReply m w v k (IsEnd m)
    is_end v e y = record { replies = y.replies; are = y.are; told = y.told; here = y.here; client = y.client; holds = subst (λ (what : WhatOf m). IsEnd m what) (sym y.holds) tt }

    more_few : (n l u : ℕ) → n ≤ 4 * l + 4 → n ≤ 2 * u + 64 * l + 22
    more_few n l u le = omega (arith, le)

    more_scan : (n s y : ℕ) → 1 ≤ y → n ≤ s * y + 2 → n ≤ (s + 8) * y
    more_scan n s y some le = let e = spread s y in omega (arith, e, some, le)
      where
        spread : (s y : ℕ) → (s + 8) * y ≡ s * y + 8 * y
        spread s y = grind arith

    pub installs : (e : ℕ) (c : Changed) → (client m w k).stand.epoch ≡ e + 1 → (client m w k).stand.seq ≡ c.seq → ReconfFinished m w (settle m w).world k e c
    installs e c at seq = record {
      finishes = record { idle = idle; reply = is_end (settle m w).world (client m w k).stand.epoch finishes.finishes.reply; few = more_few _ w.cluster.layouts w.cluster.units few_client };
      installed = λ y. record {
        new = (client m w k).stand;
        decided = subst (λ n. IsDecided m (settle m w).world n (client m w k).stand) at latest_decided;
        serves = subst (λ n. IsServing (seqr m (settle m w).world n) (e + 1)) seq (subst (λ n. IsServing (seqr m (settle m w).world (client m w k).stand.seq) n) at serves);
        few = subst (λ n. deliveries m (is_scan m n k) w (settle m w).world ≤ ((client m w k).stand.start + 8) * (2 * longest_chain (client m w k).stand + 2)) seq (more_scan _ (client m w k).stand.start (2 * longest_chain (client m w k).stand + 2) (omega arith) few_scan);
      };
    }

adopted : {m : Meaning} {w : World m} {k : ℕ} → WaitsForScan m w k → Adopted m w k
adopted f = record { work = f.work; waits = f.waits; reconf = f.reconf; hand = f.hand; rid = f.rid; starting = f.starting; seqr_runs = f.seqr_runs; units = f.units; low_units = f.none_above.units; low_layouts = f.none_above.layouts; low_seqrs = f.none_above.seqrs }

alone_of : {m : Meaning} {w : World m} {k : ℕ} {x : CommandOf m} → WaitsAlone m w k x → Alone m w k
alone_of a = record { quiet = a.quiet; running = a.running; alone = a.alone }

pub scans_finish : Always all_kinds (ScansFinish all_kinds)
scans_finish h ms w r k x a f = finishes all_kinds h ms w r (λ zs v g. finding.trims h zs v g) k (alone_of a) (adopted f) 7 (omega arith) refl a.within

pub scans_install : Always all_kinds (ScansInstall all_kinds)
scans_install h ms w r k e c a ready f at seq = installs all_kinds h ms w r (λ zs v g. finding.trims h zs v g) k (alone_of a) (adopted f) 7 (omega arith) refl a.within e c at seq
