-- Over a run: what each client knows was settled in the epoch in which it stands, or before.
use Rattle.std.proofs.Common.{◌≡◌, ◌⊎◌, ℕ, ◌-◌, ◌<◌, ◌≤◌, [], ◌∷◌, ◌++◌, length, Bool, true, false, refl, sym, ap, ◌∙◌, subst, inl, inr, arith, Some, None, Option, append-nil}
use Rattle.std.specs.Prelude.{slice_index_or}
use Rattle.tg_base.specs.Clusters.{Header}
use Rattle.tg_base.specs.Layouts.{Layout}
use Rattle.tg_base.specs.declared.cell.Cell.{Cell}
use Rattle.tg_base.specs.declared.ids.Role.TheVariants as role
use Rattle.tg_base.specs.declared.packet.Packet.{Packet}
use Rattle.tg_kind.specs.Meaning.{Meaning}
use Rattle.tg_model.specs.Kinds.{EventOf}
use Rattle.tg_protocol.specs.Words.{cell_at, client_id, numbers}
use Rattle.tg_protocol.specs.Requests.{awaits, Next, Ends}
use Rattle.tg_protocol.specs.Replies.{reply}
use Rattle.tg_protocol.specs.Cells.{Place, CellJob, CellEnd, Done, cell_feed}
use Rattle.tg_protocol.specs.Appending.{AppendWork, Putting, Judging, Append}
use Rattle.tg_protocol.specs.Syncing.{Answer, SyncWork, Settling, Sync}
use Rattle.tg_protocol.specs.Walking.{Walk}
use Rattle.tg_protocol.specs.Logs.{Log}
use Rattle.tg_protocol.specs.Clients.{Purpose, Task, Syncing, Walking, Appending, Trimming, Copying', Reconfiguring, Hand, Doing, Learning, Work, Client, new_client}
use Rattle.tg_protocol.specs.ClientSteps.{ClientTurn, task_awaited}
use Rattle.tg_protocol.specs.Worlds.{World, start, client, log, happens, next_event}
use Rattle.tg_protocol.specs.Runs.{Moves, Next as Counts', Takes, run, Reaches, EachLater}
use Rattle.tg_law_layouts.specs.Moves.After.{after}
use Rattle.tg_law_layouts.specs.Moves.Configs.{Config, config, client_in}
use Rattle.tg_law_layouts.proofs.Moves.Clients.{reserved, work_reserved, hand_reserved}
use Rattle.tg_law_layouts.proofs.Moves.Growth.{IsCalm, by_client}
use Rattle.tg_law_layouts.proofs.Moves.Lists.{at_map, at_set}
use Rattle.tg_law_layouts.proofs.Moves.Members.{has_contained}
use Rattle.tg_law_layouts.proofs.Moves.Moves.{Cases, Comes, client_turn, ClientInput, Commanded, Hears', Ticks', Keeps, cases_map, keeps_above, step_cases, run_keeps}
use Rattle.tg_law_layouts.proofs.Moves.Scripts.{run_both}
use Rattle.tg_law_layouts.proofs.Requests.Starts.{All, all_hold}
use Rattle.tg_law_layouts.proofs.Layouts.Decisions.{Pax, pax_keep}
use Rattle.tg_law_layouts.proofs.Layouts.Layouts.{start_pax}
use Rattle.tg_law_cells.proofs.Cells.Hands as cells
use Rattle.tg_law_cells.proofs.Cells.Jobs.{JobOk, MaybeOk, MaybeClaims, SyncOk, SyncClaims, AppendOk, AppendClaims, cell_ok}
use Rattle.tg_law_cells.proofs.Cells.Justified.{EndOk, NextOk, Claims, heard}
use Rattle.tg_law_cells.proofs.Cells.Sent.{Heard, task_claims}
use Rattle.tg_law_cells.proofs.Cells.Stores.{cells_hold}
use Rattle.tg_law_cells.proofs.Entries.Lists.{joined}
use Rattle.tg_law_walks.specs.Lists.Drafted.{DraftsFit}
use Rattle.tg_law_walks.specs.Lists.Lists.{Counts, EachLaterBySpareTrims}
use Rattle.tg_law_walks.specs.Lists.Spared.{TrimsWereSpare}
use Rattle.tg_law_walks.proofs.Lists.Ends.{cell_of}
use Rattle.tg_law_walks.proofs.Lists.Safe.{safe_of}
use Rattle.tg_law_syncs.proofs.Syncs.Clients as syncs
use Rattle.tg_law_syncs.proofs.Syncs.Confirming.{settled_by, by_run}
use Rattle.tg_law_syncs.proofs.Syncs.Hands as hands
use Rattle.tg_law_syncs.proofs.Syncs.Hands.{SyncFine}
use Rattle.tg_law_syncs.proofs.Syncs.Later.{late}
use Rattle.tg_law_syncs.proofs.Known.Knowing.{Knows, TaskHeard, command_fine, deliver_fine, tick_fine}
use Rattle.tg_law_syncs.specs.Timely.Timely.{SettledBy, KnownIsInTime, StandsRise}
use Rattle.tg_law_syncs.proofs.Timely.Standing.{turn_rises}
use Rattle.tg_law_syncs.proofs.Timely.Reading.{some_cell, Learnt, still, walk_learns, append_learns, sync_learns, knows_more, in_hand}

module _ (m : Meaning) (h : Header) (zs : Moves m) (r : Reaches m h zs (after m h zs)) (trims : TrimsWereSpare m h zs) (fit : DraftsFit m (after m h zs)) where
  abbrev pub S : ℕ → ℕ → Cell → Type 0
  S e q c = SettledBy m (after m h zs) e q c

  pub one : (e q : ℕ) (c d : Cell) → S e q c → S e q d → c ≡ d
  one e q c d x y = some_cell c d (sym (cell_of m h zs r (safe_of m h zs r trims) q c x.settled) ∙ cell_of m h zs r (safe_of m h zs r trims) q d y.settled)

  pub up : (e f q : ℕ) (c : Cell) → e ≤ f → S e q c → S f q c
  up e f q c le x = record { settled = x.settled; in_time = (let a = x.in_time in omega (arith, a, le)) }

  -- all that it knows is of a log whose cells were settled in time
  pub record Timely (x : Client m) : Type 0 where
    pub of : Log
    pub each : (q : ℕ) (c : Cell) → cell_at of q ≡ Some c → SettledBy m (after m h zs) x.stand.epoch q c
    pub knows : Knows m of x

  pub record Held (c : Config m) : Type 0 where
    pub clients : (k : ℕ) → Timely (client_in m c k)

  -- What a client hears.

  module _ (xs ys : Moves m) (split : zs ≡ xs ++ ys) (k : ℕ) (x : Packet) (comes : Comes m (config m (after m h xs)) x (client_id k)) (known : Timely (client_in m (config m (after m h xs)) k)) where
    abbrev cl : Client m
    cl = client_in m (config m (after m h xs)) k

    abbrev p : Layout
    p = (client_in m (config m (after m h xs)) k).stand

    abbrev pub E : ℕ → Cell → Type 0
    E q c = SettledBy m (after m h zs) (client_in m (config m (after m h xs)) k).stand.epoch q c

    abbrev pub Learns' : (Log → Type 0) → Type 0
    Learns' H = Learnt E (one p.epoch) known.of H

    all : All m (config m (after m h xs))
    all = all_hold m h xs

    module _ (w : Work m) (t : Task m) (works : cl.work ≡ Some w) (hand : w.hand ≡ Doing t) (awaited : awaits (task_awaited m p t) x.from x.rid ≡ true) where
      ok : cells.TaskOk m (after m h xs).packets p t
      ok = subst (λ (d : Hand m). cells.HandOk m (after m h xs).packets p d) hand (subst (λ (o : Option (Work m)). cells.WorkOk m (after m h xs).packets p o) works ((cells_hold m h xs).hands k))

      hears : Heard (after m h xs).packets x.from x.rid x.msg (reserved m cl)
      hears o g to number u from y is = (heard m (config m (after m h xs)) all.0.0 all.0.1 k u o x g comes.sent comes.to_node from to number).tells y is

      claims : cells.TaskClaims m (after m h xs).packets p t x.msg
      claims = task_claims (after m h xs).packets x.from x.rid x.msg m p t awaited
          (subst (λ (d : Hand m). Heard (after m h xs).packets x.from x.rid x.msg (hand_reserved m p d)) hand
          (subst (λ (o : Option (Work m)). Heard (after m h xs).packets x.from x.rid x.msg (work_reserved m p o)) works hears))

      -- the cell that a machine ends with
      ended : (j : CellJob) (d : Cell) → JobOk (after m h xs).packets p j → Claims (after m h xs).packets j.place j.work x.msg → (cell_feed j x.from.num (reply x.msg) cl.next).to ≡ Ends (Done d) → E j.place.pos d
      ended j d o y f =
          let end = subst (λ (q : Place). EndOk (after m h xs).packets q (Done d)) o.place (subst (λ (z : Next CellJob CellEnd). NextOk (after m h xs).packets j.place z) f (cell_ok (after m h xs).packets p j x.msg o y x.from.num cl.next)) in
          let s = settled_by m h xs ys (subst (λ (ms : Moves m). Reaches m h ms (after m h ms)) split r) (subst (λ (ms : Moves m). TrimsWereSpare m h ms) split trims) (subst (λ (ms : Moves m). DraftsFit m (after m h ms)) split fit) k j.place.pos d end in
          record { settled = late m h zs r xs ys split j.place.pos d s.settled; in_time = s.in_time }

    walk_heard : (w : Work m) (v : Walk) (os : _) → cl.work ≡ Some w → w.hand ≡ Doing (Walking v os) → awaits (task_awaited m p (Walking v os)) x.from x.rid ≡ true → Learns' (λ l. TaskHeard m l cl (Walking v os) x.from.num (reply x.msg))
    walk_heard w v os works hand awaited = walk_learns E (one p.epoch) known.of known.each x.from.num (reply x.msg) cl.next v.job
        (λ j d e f. ended w (Walking v os) works hand awaited j d (subst (λ (o : Option CellJob). MaybeOk (after m h xs).packets p o) e (ok w (Walking v os) works hand awaited))
        (subst (λ (o : Option CellJob). MaybeClaims (after m h xs).packets p o x.msg) e (claims w (Walking v os) works hand awaited)) f)

    append_heard : (w : Work m) (a : Append) (y : Purpose m) → cl.work ≡ Some w → w.hand ≡ Doing (Appending a y) → awaits (task_awaited m p (Appending a y)) x.from x.rid ≡ true → Learns' (λ l. TaskHeard m l cl (Appending a y) x.from.num (reply x.msg))
    append_heard w a y works hand awaited = append_learns E (one p.epoch) known.of known.each x.from.num (reply x.msg) cl.next a.work by
      where
        at : (v : AppendWork) (j : CellJob) (d : Cell) → a.work ≡ v → (AppendOk (after m h xs).packets p v → JobOk (after m h xs).packets p j) → (AppendClaims (after m h xs).packets p v x.msg → Claims (after m h xs).packets j.place j.work x.msg)
            → (cell_feed j x.from.num (reply x.msg) cl.next).to ≡ Ends (Done d) → E j.place.pos d
        at v j d e f g is = ended w (Appending a y) works hand awaited j d (f (subst (λ (z : AppendWork). AppendOk (after m h xs).packets p z) e (ok w (Appending a y) works hand awaited)))
            (g (subst (λ (z : AppendWork). AppendClaims (after m h xs).packets p z x.msg) e (claims w (Appending a y) works hand awaited))) is

        by : (j : CellJob) (d : Cell) → (a.work ≡ Putting j) ⊎ (a.work ≡ Judging j) → (cell_feed j x.from.num (reply x.msg) cl.next).to ≡ Ends (Done d) → E j.place.pos d
        by j d (inl e) is = at (Putting j) j d e (λ f. f) (λ g. g) is
        by j d (inr e) is = at (Judging j) j d e (λ f. f) (λ g. g) is

    sync_heard : (w : Work m) (s : Sync) → cl.work ≡ Some w → w.hand ≡ Doing (Syncing s) → awaits (task_awaited m p (Syncing s)) x.from x.rid ≡ true → Learns' (λ l. TaskHeard m l cl (Syncing s) x.from.num (reply x.msg))
    sync_heard w s works hand awaited = sync_learns E (one p.epoch) known.of known.each x.from.num (reply x.msg) cl.next m p s by
      where
        fine : SyncFine (log m (after m h zs)) (Counts m (after m h zs)) p.epoch s.oids s.work
        fine = subst (λ (d : Hand m). hands.HandOk m (log m (after m h zs)) (Counts m (after m h zs)) p d) hand
            (subst (λ (o : Option (Work m)). hands.WorkOk m (log m (after m h zs)) (Counts m (after m h zs)) p o) works ((syncs.held_at m h zs r trims fit xs ys split).clients k))

        by : (a : Answer) (j : CellJob) (d : Cell) → s.work ≡ Settling a j → (cell_feed j x.from.num (reply x.msg) cl.next).to ≡ Ends (Done d) → E (a.tail - 1) d
        by a j d e f =
            let at = (subst (SyncFine (log m (after m h zs)) (Counts m (after m h zs)) p.epoch s.oids) e fine).0 in
            subst (λ (q : ℕ). E q d) at
            (ended w (Syncing s) works hand awaited j d (subst (λ (v : SyncWork). SyncOk (after m h xs).packets p v) e (ok w (Syncing s) works hand awaited))
            (subst (λ (v : SyncWork). SyncClaims (after m h xs).packets p v x.msg) e (claims w (Syncing s) works hand awaited)) f)

    task_heard : (w : Work m) (t : Task m) → cl.work ≡ Some w → w.hand ≡ Doing t → awaits (task_awaited m p t) x.from x.rid ≡ true → Learns' (λ l. TaskHeard m l cl t x.from.num (reply x.msg))
    task_heard w (Syncing s) works hand awaited = sync_heard w s works hand awaited
    task_heard w (Walking v os) works hand awaited = walk_heard w v os works hand awaited
    task_heard w (Appending a y) works hand awaited = append_heard w a y works hand awaited
    task_heard w (Trimming t) works hand awaited = still E (one p.epoch) known.of known.each (λ l. TaskHeard m l cl (Trimming t) x.from.num (reply x.msg)) tt
    task_heard w (Copying' y) works hand awaited = still E (one p.epoch) known.of known.each (λ l. TaskHeard m l cl (Copying' y) x.from.num (reply x.msg)) tt
    task_heard w (Reconfiguring q) works hand awaited = still E (one p.epoch) known.of known.each (λ l. TaskHeard m l cl (Reconfiguring q) x.from.num (reply x.msg)) tt

    -- whatever it has in hand
    abbrev pub Tells : Log → Type 0
    Tells l = (w : Work m) (t : Task m) → cl.work ≡ Some w → w.hand ≡ Doing t → awaits (task_awaited m p t) x.from x.rid ≡ true → TaskHeard m l cl t x.from.num (reply x.msg)

    no_work : (w : Work m) → None ≡ Some w → ⊥
    no_work w e = cc

    same_work : (v w : Work m) → Some v ≡ Some w → v ≡ w
    same_work v w e = cc

    learning : (ws : _) (u t : Task m) → Learning ws u ≡ Doing t → ⊥
    learning ws u t e = cc

    same_task : (u t : Task m) → Doing u ≡ Doing t → u ≡ t
    same_task u t e = cc

    contrary : true ≡ false → ⊥
    contrary e = cc

    pub tells : Learns' Tells
    tells = by cl.work refl
      where
        idle : Tells known.of → Learns' Tells
        idle f = still E (one p.epoch) known.of known.each Tells f

        on_task : (v : Work m) (u : Task m) → cl.work ≡ Some v → v.hand ≡ Doing u → (b : Bool) → awaits (task_awaited m p u) x.from x.rid ≡ b → Learns' Tells
        on_task v u e f true a = let g = task_heard v u e f a in record {
          more = g.more;
          each = g.each;
          within = g.within;
          heard = λ w t i j y.
              subst (λ (z : Task m). TaskHeard m g.more cl z x.from.num (reply x.msg)) (same_task u t (sym f ∙ (ap (λ (z : Work m). z.hand) (same_work v w (sym e ∙ i)) ∙ j))) g.heard;
        }
        on_task v u e f false a = idle (λ w t i j y. absurd (contrary (sym y ∙ (ap (λ (z : Task m). awaits (task_awaited m p z) x.from x.rid) (sym (same_task u t (sym f ∙ (ap (λ (z : Work m). z.hand) (same_work v w (sym e ∙ i)) ∙ j)))) ∙ a))))

        on_hand : (v : Work m) (d : Hand m) → cl.work ≡ Some v → v.hand ≡ d → Learns' Tells
        on_hand v (Doing u) e f = on_task v u e f _ refl
        on_hand v (Learning ws u) e f = idle (λ w t i j y. absurd (learning ws u t (sym f ∙ (ap (λ (z : Work m). z.hand) (same_work v w (sym e ∙ i)) ∙ j))))

        by : (o : Option (Work m)) → cl.work ≡ o → Learns' Tells
        by None e = idle (λ w t i j y. absurd (no_work w (sym e ∙ i)))
        by (Some v) e = on_hand v v.hand e refl

  -- A step.

  pax : (xs : Moves m) → Pax m (config m (after m h xs))
  pax xs = run_keeps m (Pax m) (pax_keep m) xs (start m h) (start_pax m h)

  module _ (xs : Moves m) (e : EventOf m) (ys : Moves m) (split : zs ≡ xs ++ Takes e ∷ ys) (held : Held (config m (after m h xs))) where
    turned : (k : ℕ) (t : ClientTurn m) → ClientInput m (config m (after m h xs)) k t → Timely t.now
    turned k t i = by t i (turn_rises m (config m (after m h xs)) (pax xs) k t i)
      where
        known : Timely (client_in m (config m (after m h xs)) k)
        known = held.clients k

        later : (l : Log) → ((q : ℕ) (c : Cell) → cell_at l q ≡ Some c → S (client_in m (config m (after m h xs)) k).stand.epoch q c) → (y : Client m) → (client_in m (config m (after m h xs)) k).stand.epoch ≤ y.stand.epoch → Knows m l y → Timely y
        later l f y le g = record { of = l; each = λ q c is. up _ _ q c le (f q c is); knows = g }

        by : (u : ClientTurn m) → ClientInput m (config m (after m h xs)) k u → (client_in m (config m (after m h xs)) k).stand.epoch ≤ u.now.stand.epoch → Timely u.now
        by u (Commanded x) le = later known.of known.each u.now le (command_fine m known.of (client_in m (config m (after m h xs)) k) x known.knows)
        by u (Hears' x comes) le = let g = tells xs (Takes e ∷ ys) split k x comes known in
            later g.more g.each u.now le (deliver_fine m g.more (client_in m (config m (after m h xs)) k) x.from x.rid x.msg (knows_more m known.of g.more g.within (client_in m (config m (after m h xs)) k) known.knows) g.heard)
        by u Ticks' le = later known.of known.each u.now le (tick_fine m known.of (client_in m (config m (after m h xs)) k) known.knows)

    calm : IsCalm m role.Client (config m (after m h xs)) Held
    calm d q = record { clients = λ k. subst Timely (λ i. slice_index_or (sym (q.clients refl) i) k (new_client m (sym q.cluster i) k)) (held.clients k) }

    own : (k : ℕ) (t : ClientTurn m) → ClientInput m (config m (after m h xs)) k t → k < length (after m h xs).clients → Held (client_turn m (config m (after m h xs)) k t)
    own k t i less = record { clients = at_set (after m h xs).clients k t.now (new_client m (after m h xs).cluster) (λ j x. Timely x) less (turned k t i) (λ j other. held.clients j) }

    stepped : Held (config m (happens m (after m h xs) e))
    stepped = step_cases m (after m h xs) Held (by_client m Held (config m (after m h xs)) held calm own) e

  -- Along the run.

  then_takes : (xs : Moves m) (e : EventOf m) → after m h (xs ++ Takes e ∷ []) ≡ happens m (after m h xs) e
  unfolding run
  then_takes xs e = run_both m xs (Takes e ∷ []) (start m h)

  then_next : (xs : Moves m) → after m h (xs ++ Counts' ∷ []) ≡ next_event m (after m h xs)
  unfolding run
  then_next xs = run_both m xs (Counts' ∷ []) (start m h)

  held_on : (xs ms ys : Moves m) → zs ≡ xs ++ (ms ++ ys) → Held (config m (after m h xs)) → Held (config m (after m h (xs ++ ms)))
  held_on xs [] ys e a = subst (λ (us : Moves m). Held (config m (after m h us))) (sym (append-nil xs)) a
  held_on xs (Counts' ∷ ms) ys e a =
      subst (λ (us : Moves m). Held (config m (after m h us))) (joined xs (Counts' ∷ []) ms)
      (held_on (xs ++ Counts' ∷ []) ms ys (e ∙ sym (joined xs (Counts' ∷ []) (ms ++ ys))) (subst (λ (u : World m). Held (config m u)) (sym (then_next xs)) (record { clients = a.clients })))
  held_on xs (Takes x ∷ ms) ys e a =
      subst (λ (us : Moves m). Held (config m (after m h us))) (joined xs (Takes x ∷ []) ms)
      (held_on (xs ++ Takes x ∷ []) ms ys (e ∙ sym (joined xs (Takes x ∷ []) (ms ++ ys))) (subst (λ (u : World m). Held (config m u)) (sym (then_takes xs x)) (stepped xs x (ms ++ ys) e a)))

  start_client : (k : ℕ) → Timely (new_client m h k)
  unfolding new_client
  start_client k = record { of = []; each = λ q c e. absurd (cc); knows = record { cells = λ x i. absurd (has_contained [] x i); work = tt } }

  start_held : Held (config m (after m h []))
  unfolding run start
  start_held = record { clients = λ k. at_map (new_client m h) (numbers h.clients 0) k (new_client m h k) Timely (λ j. start_client j) (start_client k) }

  pub held_at : (xs ys : Moves m) → zs ≡ xs ++ ys → Held (config m (after m h xs))
  held_at xs ys e = held_on [] xs ys e start_held

-- The laws.

module _ (m : Meaning) where
  known_here : (h : Header) (xs ys : Moves m) → Reaches m h (xs ++ ys) (after m h (xs ++ ys)) → TrimsWereSpare m h (xs ++ ys) → DraftsFit m (after m h (xs ++ ys)) → KnownIsInTime m (after m h xs) (after m h (xs ++ ys))
  known_here h xs ys r trims fit k q c is = let g = (held_at m h (xs ++ ys) r trims fit xs ys refl).clients k in g.each q c (in_hand m g.of (client m (after m h xs) k) g.knows q c is)

  pub known_is_in_time : EachLaterBySpareTrims m (KnownIsInTime m)
  known_is_in_time = by_run m (KnownIsInTime m) known_here

  -- Stands.

  module _ (e : ℕ → ℕ) where
    pub record Past (c : Config m) : Type 0 where
      pub clients : (k : ℕ) → e k ≤ (client_in m c k).stand.epoch

    past_keep : (c : Config m) → Pax m c → Past c → Cases m c Past
    past_keep c x past = by_client m Past c past calm own
      where
        calm : IsCalm m role.Client c Past
        calm d q = record { clients = λ k. subst (λ (y : Client m). e k ≤ y.stand.epoch) (λ i. slice_index_or (sym (q.clients refl) i) k (new_client m (sym q.cluster i) k)) (past.clients k) }

        own : (k : ℕ) (t : ClientTurn m) → ClientInput m c k t → k < length c.clients → Past (client_turn m c k t)
        own k t i less = record { clients = at_set c.clients k t.now (new_client m c.cluster) (λ j y. e j ≤ y.stand.epoch) less (let a = past.clients k in let b = turn_rises m c x k t i in omega (arith, a, b)) (λ j other. past.clients j) }

    both_keep : Keeps m (λ c. Pax m c × Past c)
    both_keep = keeps_above m (Pax m) Past (pax_keep m) (λ c x past. cases_map m c Past (λ d. Pax m d → Past d) (λ d y z. y) (past_keep c x past))

  pub stands_rise : EachLater m (StandsRise m)
  stands_rise h ms w v r l k =
      let pax = subst (λ (u : World m). Pax m (config m u)) (sym r.goes.is) (run_keeps m (Pax m) (pax_keep m) ms (start m h) (start_pax m h)) in
      let e : ℕ → ℕ = λ j. (client m w j).stand.epoch in
      subst (λ (u : World m). (client m w k).stand.epoch ≤ (client m u k).stand.epoch) (sym l.1.is)
      ((run_keeps m (λ c. Pax m c × Past e c) (both_keep e) l.0 w (pax, record { clients = λ j. omega arith })).1.clients k)
