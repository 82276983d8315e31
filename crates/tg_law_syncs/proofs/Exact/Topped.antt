-- Over a run, the bases of each client's view save no further than what was confirmed to it, and so not past the tails of its
-- later syncs, where no checkpoint of the log saves more than what stands below it.
use Rattle.std.proofs.Common.{◌≡◌, ℕ, ◌<◌, ◌≤◌, List, [], ◌∷◌, ◌++◌, length, Bool, true, false, refl, sym, ap, ◌∙◌, subst, arith, Some, None, Option, append-nil}
use Rattle.std.specs.Prelude.{slice_index_or, not, ◌&&◌, ◌==◌, Contains}
use Rattle.tg_base.specs.Clusters.{Header}
use Rattle.tg_base.specs.Layouts.{Layout}
use Rattle.tg_base.specs.declared.cell.Cell.{Cell}
use Rattle.tg_base.specs.declared.ids.NodeId.{NodeId}
use Rattle.tg_base.specs.declared.ids.Oid.{Oid}
use Rattle.tg_base.specs.declared.ids.Role.TheVariants as role
use Rattle.tg_base.specs.declared.msg.Msg.TheVariants as msg
use Rattle.tg_base.specs.declared.packet.Packet.{Packet}
use Rattle.tg_entry.specs.declared.entry.Entry.{Entry}
use Rattle.tg_kind.specs.Meaning.{Meaning}
use Rattle.tg_model.specs.Kinds.{EventOf}
use Rattle.tg_model.specs.declared.command.Event.TheVariants.{Command as Commands, Deliver, Lose, Tick, Stop}
use Rattle.tg_protocol.specs.Words.{client_id, numbers}
use Rattle.tg_protocol.specs.Layouts.{first_layout}
use Rattle.tg_protocol.specs.LayoutServers.{layout_step}
use Rattle.tg_protocol.specs.Requests.{awaits, Next, Goes, Learns, Ends}
use Rattle.tg_protocol.specs.Replies.{reply}
use Rattle.tg_protocol.specs.Sequencers.{SeqrState, SeqrTurn, new_seqr}
use Rattle.tg_protocol.specs.Syncing.{SyncWork, Checking, Settling, Probing, Sync, Confirmed}
use Rattle.tg_protocol.specs.Walking.{Walk, Members}
use Rattle.tg_protocol.specs.Reconfiguring.{Reconf, ReconfEnd}
use Rattle.tg_protocol.specs.Logs.{Log, entries_of}
use Rattle.tg_protocol.specs.Views.{Entries, Base}
use Rattle.tg_protocol.specs.Checkpoints.{base_at}
use Rattle.tg_protocol.specs.Clients.{Task, Syncing, Walking, Appending, Trimming, Copying', Reconfiguring, Hand, Doing, Learning, Work, Client, new_client, all_entries, entries_at}
use Rattle.tg_protocol.specs.ClientSteps.{ClientTurn, task_asks, task_awaited, task_in, takes_back, found_by, knows, lo_for, stale, gives_up, given_up_if}
use Rattle.tg_protocol.specs.Worlds.{World, start, log, happens, next_event}
use Rattle.tg_protocol.specs.Runs.{Moves, Next as Counts', Takes, run, Reaches, Later}
use Rattle.tg_law_layouts.specs.Moves.After.{after}
use Rattle.tg_law_layouts.specs.Moves.Configs.{Config, config, client_in, layout_in}
use Rattle.tg_law_layouts.proofs.Moves.Growth.{Quiet, unit_quiet, layout_quiet, client_quiet}
use Rattle.tg_law_layouts.proofs.Moves.Lists.{contained, at_map, at_set}
use Rattle.tg_law_layouts.proofs.Moves.Members.{has_got}
use Rattle.tg_law_layouts.proofs.Moves.Moves.{Cases, Comes, client_turn, seqr_turn, SeqrInput, ClientInput, Commanded, Hears', Ticks', step_cases}
use Rattle.tg_law_layouts.proofs.Moves.Scripts.{run_both}
use Rattle.tg_law_layouts.proofs.Requests.Starts.{All, all_hold}
use Rattle.tg_law_layouts.specs.Layouts.Decisions.{IsOfDecided}
use Rattle.tg_law_layouts.proofs.Layouts.Deciding.{layouts_are_known}
use Rattle.tg_law_cells.proofs.Cells.Justified.{awaited_ask}
use Rattle.tg_law_cells.proofs.Entries.Lists.{joined}
use Rattle.tg_law_replies.specs.History.Worlds.{entries_in}
use Rattle.tg_law_replies.proofs.History.Members as entries
use Rattle.tg_law_replies.proofs.Views.Judges.{mine_below}
use Rattle.tg_law_replies.specs.Replies.Steps.{EachWalk, EachSync, EachOver, EachTrim, EachEnd, EachWalked, EachDelivery, EachEvent}
use Rattle.tg_law_walks.specs.Walks.Streams.{IsByPosition, AreKnown}
use Rattle.tg_law_walks.specs.Walks.Laws.{IsFound}
use Rattle.tg_law_walks.proofs.Walks.Cells.{there_entry}
use Rattle.tg_law_walks.proofs.Walks.Rounds.{read_entry}
use Rattle.tg_law_walks.proofs.Walks.Saves.{entries_have}
use Rattle.tg_law_walks.proofs.Walks.Syncs.{logs_by_position}
use Rattle.tg_law_walks.specs.Lists.Drafted.{DraftsFit}
use Rattle.tg_law_walks.specs.Lists.Spared.{TrimsWereSpare}
use Rattle.tg_law_walks.proofs.Lists.Reached.{before_reached}
use Rattle.tg_law_syncs.specs.Finds.Left.{SavesPrecede}
use Rattle.tg_law_syncs.proofs.Known.Far.{SyncFar, SyncNext, SyncHeard}
use Rattle.tg_law_syncs.proofs.Known.FarTurns as far
use Rattle.tg_law_syncs.proofs.Known.FarHeld.{asked_check, is_tail, far_at, hears_all, none_told}
use Rattle.tg_law_syncs.proofs.Known.Past.{Reached', SeqrReached, answers_hold, seqrs_reach}
use Rattle.tg_law_syncs.proofs.Known.Reaches.{Reached, Past, Told, past_low, past_down, past_on, stay}
use Rattle.tg_law_syncs.proofs.Known.Telling.{check_asks, open_sync, told_next}
use Rattle.tg_law_syncs.proofs.Exact.Bases.{new_low}
use Rattle.tg_law_syncs.proofs.Exact.Held as held
use Rattle.tg_law_syncs.proofs.Exact.Held.{goes_on}
use Rattle.tg_law_syncs.proofs.Exact.Exact.{work_ends}
use Rattle.tg_law_syncs.proofs.Each.{each_more}
use Rattle.tg_law_syncs.proofs.Exact.Finds.{delivery_exact, of_client}
use Rattle.tg_law_syncs.proofs.Exact.Tops.{Below, NewBelow, none_bases, TaskKept, TaskFar, HandFar, WorkFar, Topped, NextOnto, TaskHeard, NewerOk, Hears, command_fine, deliver_fine, tick_fine, delivery_below}

-- Through the walks of a step, a view that has no base past the tail has none at their end.
module _ (m : Meaning) (objects : List Oid) (es : Entries) where
  abbrev pub AtTail : Client m → Work m → Type 0
  AtTail c w = Below m c.view w.tail

  walk_at : (os : List Oid) (c : Client m) (w : Work m) → Below m c.view w.tail → EachWalk m objects es (AtTail) os c w
  walk_at [] c w b = b
  walk_at (o ∷ os) c w b = λ x is. walk_at os (takes_back m c x) (found_by m w o x) b

  synced_at : (c : Client m) (w : Work m) (x : Confirmed) → Below m c.view x.tail → EachSync m objects es (AtTail) c w (Ends x)
  synced_at c w x b = by x.settled
    where
      by : (s : Option (ℕ × Cell)) → EachWalk m objects es (AtTail) w.oids (knows m c s) (record w { tail = x.tail; lasts = x.lasts; lo = lo_for m c w.command })
      by None = walk_at w.oids c (record w { tail = x.tail; lasts = x.lasts; lo = lo_for m c w.command }) b
      by (Some s) = walk_at w.oids (knows m c (Some s)) (record w { tail = x.tail; lasts = x.lasts; lo = lo_for m c w.command }) b

  over_at : (c : Client m) (w : Work m) (os : List Oid) (over : Bool) → Below m c.view w.tail → EachOver m objects es (AtTail) c w os over
  over_at c w os true b = walk_at w.oids c (record w { lo = 0; found = []; trims = [] }) b
  over_at c w os false b = walk_at os c w b

  trim_at : (c : Client m) (w : Work m) (os : List Oid) (s over : Bool) → Below m c.view w.tail → EachTrim m objects es (AtTail) c w os s over
  trim_at c w os true over b = tt
  trim_at c w os false over b = over_at c w os over b

  end_at : (c : Client m) (w : Work m) (o : Oid) (os : List Oid) (x : Members) (g : Option ℕ) → Below m c.view w.tail → EachEnd m objects es (AtTail) c w o os x g
  end_at c w o os x None b = walk_at os c w b
  end_at c w o os x (Some g) b = by (gives_up m c w g)
    where
      by : (z : Bool) → EachTrim m objects es (AtTail) (given_up_if m z c) w os (stale m c w o x g) (z && not (w.lo == 0))
      by true = trim_at (record c { view = None }) w os (stale m c w o x g) (not (w.lo == 0)) (none_bases m (λ u. u ≤ w.tail))
      by false = trim_at c w os (stale m c w o x g) false b

  pub walked_at : (c : Client m) (w : Work m) (o : Oid) (os : List Oid) (to : Next Walk Members) → Below m c.view w.tail → EachWalked m objects es (AtTail) c w o os to
  walked_at c w o os (Goes x) b = tt
  walked_at c w o os (Learns x) b = tt
  walked_at c w o os (Ends x) b = end_at (takes_back m c x) (found_by m w o x) o os x x.gone b

  pub sync_at : (p : Layout) (reached past : ℕ → Type 0) (told : ℕ → (ℕ → Type 0) → Type 0) (c : Client m) (w : Work m) (to : Next Sync Confirmed) → SyncNext p reached past told (Below m c.view) to → EachSync m objects es (AtTail) c w to
  sync_at p reached past told c w (Goes s) n = tt
  sync_at p reached past told c w (Learns s) n = tt
  sync_at p reached past told c w (Ends x) n = synced_at c w x n.0

-- A new view has no base past the tail.
module _ (m : Meaning) (l : Log) (byp : IsByPosition l) (precede : SavesPrecede m (entries_of l)) where
  known_there : (cells : List (ℕ × Cell)) (ps : List ℕ) → AreKnown l cells → (p : ℕ) (e : Entry) → Contains (entries_at m cells ps) (p, e) → Contains (entries_of l) (p, e)
  known_there cells ps known p e i =
      let k = entries_have m cells ps p e (entries.has_contained (entries_at m cells ps) (p, e) i) in
      entries.contained_has (entries_of l) (p, e) (there_entry l p e (read_entry m l byp cells p e known k.1))

  pub new_below : (c : Client m) (w : Work m) → IsFound m l c w → NewBelow m c w
  new_below c w f o b is = new_low m (all_entries m c w c.hosted) w.trims c.objects w.tail saved c.hosted o b is
    where
      saved : (p : ℕ) (e : Entry) (x : Oid) (a : Base m) → entries.Has (all_entries m c w c.hosted) (p, e) → base_at m x e ≡ Some a → a.upto ≤ w.tail
      saved p e x a i at =
          let less = mine_below m c w c.hosted p e i in
          let low = precede p e x a (known_there c.cells _ f.known p e (entries.contained_has (all_entries m c w c.hosted) (p, e) i)) at in
          omega (arith, less, low)

module _ (m : Meaning) (h : Header) (zs : Moves m) (r : Reaches m h zs (after m h zs)) (trims : TrimsWereSpare m h zs) (fit : DraftsFit m (after m h zs)) (precede : SavesPrecede m (entries_in m (after m h zs))) where
  abbrev R : Config m → Layout → ℕ → Type 0
  R c p t = Reached m h zs r trims fit c p t

  abbrev P : Config m → Layout → ℕ → Type 0
  P c p t = Past m h zs r trims fit c p t

  abbrev T : Config m → ℕ → Layout → ℕ → (ℕ → Type 0) → Type 0
  T c k p rid G = Told m h zs r trims fit c k p rid G

  abbrev D : Layout → Type 0
  D q = IsOfDecided m (after m h zs) q

  abbrev pub TopIn : Config m → ℕ → Client m → Type 0
  TopIn c k x = Topped m (Reached m h zs r trims fit c) (Past m h zs r trims fit c) (Told m h zs r trims fit c k) x

  pub record Tops (c : Config m) : Type 0 where
    pub clients : (k : ℕ) → TopIn c k (client_in m c k)

  abbrev Stand : Config m → Type 0
  Stand c = (k : ℕ) → IsOfDecided m (after m h zs) (client_in m c k).stand

  -- While others take their turns.

  abbrev Tells : Config m → Config m → ℕ → Client m → Type 0
  Tells c d k x = (w : Work m) (s : Sync) (rid : ℕ) → x.work ≡ Some w → w.hand ≡ Doing (Syncing s) → s.work ≡ Checking rid → T c k x.stand rid (Below m x.view) → T d k x.stand rid (Below m x.view)

  module _ (c d : Config m) (k : ℕ) (x : Client m) (on : (s e t : ℕ) → SeqrReached m c s e t → SeqrReached m d s e t) (more : Tells c d k x) where
    past_more : (p : Layout) (t : ℕ) → P c p t → P d p t
    past_more p t f = past_on m h zs r trims fit c d on p t f

    kept_more : (w : Work m) (t : Task m) → TaskKept m (R c) (P c) (T c k) x w t → TaskKept m (R d) (P d) (T d k) x w t
    kept_more w (Walking v os) f = (f.0, past_more x.stand w.tail f.1)
    kept_more w t f = tt

    far_more : (w : Work m) (t : Task m) → x.work ≡ Some w → w.hand ≡ Doing t → TaskFar m (R c) (P c) (T c k) x t → TaskFar m (R d) (P d) (T d k) x t
    far_more w (Syncing s) has at f = by s.work refl f
      where
        by : (v : SyncWork) → s.work ≡ v → SyncFar x.stand (R c x.stand) (P c x.stand) (T c k x.stand) (Below m x.view) v → SyncFar x.stand (R d x.stand) (P d x.stand) (T d k x.stand) (Below m x.view) v
        by (Checking rid) e g = more w s rid has at e g
        by (Settling a j) e g = (g.0, g.1, on x.stand.seq x.stand.epoch a.tail g.2)
        by (Probing a j) e g = (g.0, past_more x.stand a.tail g.1)
    far_more w t has at f = tt

    grows : TopIn c k x → TopIn d k x
    grows f = record { view = λ v o b i at. past_more x.stand b.upto (f.view v o b i at); work = by x.work refl f.work }
      where
        hand : (w : Work m) (v : Hand m) → x.work ≡ Some w → w.hand ≡ v → HandFar m (R c) (P c) (T c k) x w v → HandFar m (R d) (P d) (T d k) x w v
        hand w (Doing t) has at g = (kept_more w t g.0, far_more w t has at g.1)
        hand w (Learning ws t) has at g = kept_more w t g

        by : (v : Option (Work m)) → x.work ≡ v → WorkFar m (R c) (P c) (T c k) x v → WorkFar m (R d) (P d) (T d k) x v
        by None e g = tt
        by (Some w) e g = hand w w.hand e refl g

  -- A step.

  module _ (xs : Moves m) (e : EventOf m) (ys : Moves m) (split : zs ≡ xs ++ Takes e ∷ ys) (tops : Tops (config m (after m h xs))) where
    abbrev c : Config m
    c = config m (after m h xs)

    rw : Reaches m h xs (after m h xs)
    rw = before_reached m h zs r xs (Takes e ∷ ys) split

    abbrev later : Later m (after m h xs) (after m h zs)
    later = (Takes e ∷ ys, goes_on m h zs r xs (Takes e ∷ ys) split)

    all : All m (config m (after m h xs))
    all = all_hold m h xs

    quiet : (d : Config m) → Quiet m role.Seqr c d → (k : ℕ) (x : Client m) → TopIn c k x → TopIn d k x
    quiet d q k x f = grows c d k x
        (λ s j t g. subst (λ (ss : List SeqrState). Reached' (slice_index_or ss s (new_seqr s d.cluster.limit (first_layout d.cluster))) j t) (sym (q.seqrs refl))
        (subst (λ (hd : Header). Reached' (slice_index_or c.seqrs s (new_seqr s hd.limit (first_layout hd))) j t) (sym q.cluster) g))
        (λ w s rid has at e f a g to from number t ls tells. f a (q.old a g (ap (λ (n : NodeId). n.role) from)) to from number t ls tells) f

    told_none : (k : ℕ) (q : Layout) (rid : ℕ) (G : ℕ → Type 0) → (client_in m c k).next ≤ rid → T c k q rid G
    told_none k q rid G le = none_told m h zs r trims fit xs e ys split (far_at m h zs r trims fit xs (Takes e ∷ ys) split) k q rid G le

    -- What a client hears.

    module _ (k : ℕ) (x : Packet) (comes : Comes m (config m (after m h xs)) x (client_id k)) where
      abbrev cl : Client m
      cl = client_in m (config m (after m h xs)) k

      abbrev p : Layout
      p = (client_in m (config m (after m h xs)) k).stand

      heard : far.Hears m (log m (after m h zs)) (R c) (P c) (T c k) D cl.next cl x.from x.rid x.msg
      heard = hears_all m h zs r trims fit xs e ys split (far_at m h zs r trims fit xs (Takes e ∷ ys) split) k x comes

      in_hand : (w : Work m) (t : Task m) → cl.work ≡ Some w → w.hand ≡ Doing t → TaskFar m (R c) (P c) (T c k) cl t
      in_hand w t works hand =
          (subst (λ (d : Hand m). HandFar m (R c) (P c) (T c k) cl w d) hand (subst (λ (o : Option (Work m)). WorkFar m (R c) (P c) (T c k) cl o) works (tops.clients k).work)).1

      sync_hears : (w : Work m) (s : Sync) → cl.work ≡ Some w → w.hand ≡ Doing (Syncing s) → awaits (task_awaited m p (Syncing s)) x.from x.rid ≡ true
          → SyncHeard p (R c p) (P c p) (T c k p) (Below m cl.view) s x.from.num (reply x.msg) cl.next
      unfolding task_asks
      sync_hears w s works hand awaited =
          let f = (heard.answer w (Syncing s) works hand awaited).0 in
          record {
            tail = λ rid t ls at is.
                let a = awaited_ask (task_awaited m p (Syncing s)) x.from x.rid awaited in
                let o = asked_check p s s.work rid at a.ask a.has in
                let old = subst (λ (v : SyncWork). SyncFar p (R c p) (P c p) (T c k p) (Below m cl.view) v) at (in_hand w (Syncing s) works hand) in
                (old x comes.sent comes.to_node (sym a.to ∙ o.0) (sym a.number ∙ o.1) t ls (is_tail x.msg t ls is), (f.tail rid t ls at is).1);
            gone = f.gone;
            done = f.done;
          }

      reconf_onto : (q : Layout) (to : Next Reconf ReconfEnd) → far.NextOnto m (log m (after m h zs)) (R c) (P c) (T c k) q to → NextOnto m (R c) (P c) (T c k) q to
      reconf_onto q (Goes s) f = f
      reconf_onto q (Learns s) f = tt
      reconf_onto q (Ends s) f = f

      hears_task : (w : Work m) (t : Task m) → cl.work ≡ Some w → w.hand ≡ Doing t → awaits (task_awaited m p t) x.from x.rid ≡ true → TaskHeard m (R c) (P c) (T c k) D cl.next cl w t x.from.num x.rid (reply x.msg)
      hears_task w (Syncing s) works hand awaited = (sync_hears w s works hand awaited, (heard.answer w (Syncing s) works hand awaited).1.up)
      hears_task w (Walking v os) works hand awaited = (heard.answer w (Walking v os) works hand awaited).up
      hears_task w (Appending a y) works hand awaited = (heard.answer w (Appending a y) works hand awaited).1.up
      hears_task w (Trimming t) works hand awaited = tt
      hears_task w (Copying' y) works hand awaited = tt
      hears_task w (Reconfiguring q) works hand awaited = λ d. reconf_onto p _ (heard.answer w (Reconfiguring q) works hand awaited d)

      hears_newer : (w : Work m) (q : Layout) (t : Task m) → far.NewerOk m (log m (after m h zs)) (R c) (P c) (T c k) D cl.next cl w t x.from.num x.rid q → NewerOk m (R c) (P c) (T c k) D cl.next cl w t x.from.num x.rid q
      hears_newer w q (Reconfiguring s) f = λ d. reconf_onto p _ (f d)
      hears_newer w q (Syncing s) f = f
      hears_newer w q (Walking v os) f = (f.0, f.1.up)
      hears_newer w q (Appending a y) f = (f.0, f.1.up)
      hears_newer w q (Trimming t) f = f
      hears_newer w q (Copying' y) f = f

      hears : Hears m (R c) (P c) (T c k) D cl.next cl x.from x.rid x.msg
      hears = record { answer = hears_task; newer = λ w q works is b. hears_newer w q (task_in m w.hand) (heard.newer w q works is b) }

      spare : TrimsWereSpare m h (xs ++ Takes e ∷ ys)
      spare = subst (λ (ms : Moves m). TrimsWereSpare m h ms) split trims

      each : EachDelivery m h.objects (entries_in m (after m h zs)) (NewBelow m) cl cl.work x.from x.rid (reply x.msg)
      each =
          let byp = logs_by_position m (after m h zs) in
          each_more m h.objects (entries_in m (after m h zs)) (entries_in m (after m h zs)) (IsFound m (log m (after m h zs))) (NewBelow m) (λ d w f. new_below m (log m (after m h zs)) byp precede d w f) cl x.from x.rid (reply x.msg)
          (delivery_exact m (log m (after m h zs)) byp (held.linked m h zs r trims fit) h.objects cl cl.work x.from x.rid (reply x.msg) refl ((held.held_at m h zs r trims fit xs (Takes e ∷ ys) split).clients k).work
          (work_ends m h xs (after m h xs) (after m h zs) rw later spare k x (contained (after m h xs).packets x comes.sent) comes.to_node cl.work refl))

      -- where it ends the walks of the client
      pub delivery_at : EachDelivery m h.objects (entries_in m (after m h zs)) (AtTail m h.objects (entries_in m (after m h zs))) cl cl.work x.from x.rid (reply x.msg)
      delivery_at = delivery_below m h.objects (entries_in m (after m h zs)) (R c) (P c) (T c k) (past_low m h zs r trims fit c) (past_down m h zs r trims fit c) cl.next (told_none k) D cl x.from x.rid x.msg (omega arith) (tops.clients k) hears each

    turned : (k : ℕ) (t : ClientTurn m) → ClientInput m c k t → D t.now.stand → TopIn c k t.now
    turned k t (Commanded x) d = command_fine m h.objects (entries_in m (after m h zs)) (R c) (P c) (T c k) (past_low m h zs r trims fit c) (past_down m h zs r trims fit c) (client_in m c k).next (told_none k) D (client_in m c k) x (omega arith) (tops.clients k)
    turned k t (Hears' x comes) d = deliver_fine m h.objects (entries_in m (after m h zs)) (R c) (P c) (T c k) (past_low m h zs r trims fit c) (past_down m h zs r trims fit c) (client_in m c k).next (told_none k) D (client_in m c k) x.from x.rid x.msg (omega arith) (tops.clients k) (hears k x comes) (each k x comes) d
    turned k t Ticks' d = tick_fine m h.objects (entries_in m (after m h zs)) (R c) (P c) (T c k) (past_low m h zs r trims fit c) (past_down m h zs r trims fit c) (client_in m c k).next (told_none k) D (client_in m c k) (tops.clients k)

    by_client' : (k : ℕ) (t : ClientTurn m) → ClientInput m c k t → k < length c.clients → Stand (client_turn m c k t) → Tops (client_turn m c k t)
    by_client' k t i less stand = record {
      clients = λ j. quiet (client_turn m c k t) (client_quiet m role.Seqr (λ e. cc) c k t) j (client_in m (client_turn m c k t) j)
          (at_set c.clients k t.now (new_client m c.cluster) (λ n x. D x.stand → TopIn c n x) less (turned k t i) (λ n other d. tops.clients n) j (stand j));
    }

    seqr_tells : (k s : ℕ) (t : SeqrTurn) → SeqrInput m c s t → Tells c (seqr_turn m c s t) k (client_in m c k)
    seqr_tells k s t i w y rid has at is old =
        told_next m h zs r trims fit xs (Takes e ∷ ys) split k rid (msg.Check (client_in m c k).stand.epoch y.oids) y.oids (check_asks (client_in m c k).stand.epoch y.oids)
        (open_sync m h zs r trims fit xs (Takes e ∷ ys) split k w y rid has at is) s t i (Below m (client_in m c k).view) (λ n below v o b is of. below b.upto ((tops.clients k).view v o b is of)) old

    by_seqr' : (s : ℕ) (t : SeqrTurn) → SeqrInput m c s t → s < length c.seqrs → Tops (seqr_turn m c s t)
    by_seqr' s t i less = record { clients = λ k. grows c (seqr_turn m c s t) k (client_in m c k) (λ j e p f. seqrs_reach m c (answers_hold m h xs).0 s t i less j e p f) (seqr_tells k s t i) (tops.clients k) }

    cases : Cases m c (λ d. Stand d → Tops d)
    cases = record {
      idle = λ stand. tops;
      unit = λ u q a less stand. record { clients = λ k. quiet _ (unit_quiet m role.Seqr (λ e. cc) c u q a less) k (client_in m c k) (tops.clients k) };
      layout = λ n q a less stand. record { clients = λ k. quiet _ (layout_quiet m role.Seqr (λ e. cc) c n q (layout_step (layout_in m c n) q.msg) a) k (client_in m c k) (tops.clients k) };
      seqr = λ s t i less stand. by_seqr' s t i less;
      client = by_client';
    }

    stepped : Stand (config m (happens m (after m h xs) e)) → Tops (config m (happens m (after m h xs) e))
    stepped = step_cases m (after m h xs) (λ d. Stand d → Tops d) cases e

  -- Along the run.

  then_takes : (xs : Moves m) (e : EventOf m) → after m h (xs ++ Takes e ∷ []) ≡ happens m (after m h xs) e
  unfolding run
  then_takes xs e = run_both m xs (Takes e ∷ []) (start m h)

  then_next : (xs : Moves m) → after m h (xs ++ Counts' ∷ []) ≡ next_event m (after m h xs)
  unfolding run
  then_next xs = run_both m xs (Counts' ∷ []) (start m h)

  stands_at : (xs ys : Moves m) → zs ≡ xs ++ ys → Stand (config m (after m h xs))
  stands_at xs ys e k = stay m h zs r trims fit xs ys e (client_in m (config m (after m h xs)) k).stand ((layouts_are_known m h xs (after m h xs) (before_reached m h zs r xs ys e)).clients k)

  tops_on : (xs ms ys : Moves m) → zs ≡ xs ++ (ms ++ ys) → Tops (config m (after m h xs)) → Tops (config m (after m h (xs ++ ms)))
  tops_on xs [] ys e a = subst (λ (us : Moves m). Tops (config m (after m h us))) (sym (append-nil xs)) a
  tops_on xs (Counts' ∷ ms) ys e a =
      subst (λ (us : Moves m). Tops (config m (after m h us))) (joined xs (Counts' ∷ []) ms)
      (tops_on (xs ++ Counts' ∷ []) ms ys (e ∙ sym (joined xs (Counts' ∷ []) (ms ++ ys))) (subst (λ (u : World m). Tops (config m u)) (sym (then_next xs)) (record { clients = λ k. quiet_next xs k (a.clients k) })))
    where
      quiet_next : (xs : Moves m) (k : ℕ) → TopIn (config m (after m h xs)) k (client_in m (config m (after m h xs)) k) → TopIn (config m (next_event m (after m h xs))) k (client_in m (config m (next_event m (after m h xs))) k)
      quiet_next xs k f = f
  tops_on xs (Takes x ∷ ms) ys e a =
      subst (λ (us : Moves m). Tops (config m (after m h us))) (joined xs (Takes x ∷ []) ms)
      (tops_on (xs ++ Takes x ∷ []) ms ys (e ∙ sym (joined xs (Takes x ∷ []) (ms ++ ys)))
      (subst (λ (u : World m). Tops (config m u)) (sym (then_takes xs x))
      (stepped xs x (ms ++ ys) e a (subst (λ (u : World m). Stand (config m u)) (then_takes xs x) (stands_at (xs ++ Takes x ∷ []) (ms ++ ys) (e ∙ sym (joined xs (Takes x ∷ []) (ms ++ ys))))))))

  start_top : (k j : ℕ) → TopIn (config m (after m h [])) k (new_client m h j)
  unfolding new_client
  start_top k j = record { view = none_bases m _; work = tt }

  start_tops : Tops (config m (after m h []))
  unfolding run start
  start_tops = record { clients = λ k. at_map (new_client m h) (numbers h.clients 0) k (new_client m h k) (λ (x : Client m). TopIn (config m (start m h)) k x) (λ j. start_top k j) (start_top k k) }

  pub tops_at : (xs ys : Moves m) → zs ≡ xs ++ ys → Tops (config m (after m h xs))
  tops_at xs ys e = tops_on [] xs ys e start_tops

  -- so wherever a step comes to the end of a command's walks
  pub event_at : (xs : Moves m) (e : EventOf m) (ys : Moves m) → zs ≡ xs ++ Takes e ∷ ys → EachEvent m h.objects (entries_in m (after m h zs)) (AtTail m h.objects (entries_in m (after m h zs))) (after m h xs) e
  event_at xs (Deliver i) ys split = λ x at is on. delivery_at xs (Deliver i) ys split (tops_at xs (Takes (Deliver i) ∷ ys) split) x.to.num x (record { sent = has_got (after m h xs).packets i x at; to_node = of_client x.to is })
  event_at xs (Commands j x) ys split = tt
  event_at xs (Lose i) ys split = tt
  event_at xs (Tick n) ys split = tt
  event_at xs (Stop n) ys split = tt
