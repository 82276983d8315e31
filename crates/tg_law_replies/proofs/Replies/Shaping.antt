-- A client keeps its shape through its steps.
use Rattle.std.proofs.Common.{◌≡◌, ◌⊎◌, ℕ, zero, suc, ◌+◌, List, [], ◌∷◌, map, Bool, true, false, refl, sym, ap, ◌∙◌, subst, inl, inr, Option, Some, None, Contains, is_some}
use Rattle.std.specs.Prelude.{not, ◌||◌, slice_set, slice_index_or, slice_get}
use Rattle.tg_base.specs.Clusters.{Header}
use Rattle.tg_base.specs.declared.ids.NodeId.{NodeId}
use Rattle.tg_base.specs.declared.ids.Oid.{Oid}
use Rattle.tg_base.specs.declared.ids.Role.{Role}
use Rattle.tg_base.specs.declared.ids.Role.TheVariants as role
use Rattle.tg_base.specs.declared.msg.Msg.{Msg}
use Rattle.tg_base.specs.declared.packet.Packet.{Packet}
use Rattle.tg_kind.specs.Meaning.{Meaning}
use Rattle.tg_model.specs.Kinds.{CommandOf, EventOf}
use Rattle.tg_model.specs.declared.command.Command.TheVariants as cmd
use Rattle.tg_model.specs.declared.command.Event.TheVariants.{Command as Commands, Deliver, Lose, Tick, Stop}
use Rattle.tg_model.specs.declared.refusal.Refusal.{Refusal}
use Rattle.tg_model.specs.declared.refusal.Refusal.TheVariants as cause
use Rattle.tg_model.specs.declared.trace.What.TheVariants as told
use Rattle.tg_protocol.specs.Words.{client_id, directory, has_oid, numbers, first_some, where_true}
use Rattle.tg_base.specs.Orders.{oid_eq, with_oid}
use Rattle.tg_protocol.specs.Layouts.{change_fault}
use Rattle.tg_protocol.specs.Replies.{reply}
use Rattle.tg_protocol.specs.Views.{Entries, View, view_version}
use Rattle.tg_protocol.specs.Transactions.{Tx, open_tx, tx_put, tx_read, commit_record}
use Rattle.tg_protocol.specs.Clients.{Purpose, Hand, Work, Client, new_client, busy, tests, tx_open, not_hosted, not_registered, too_many_hosted, wrong_kind, by_layout, hosts_oid, copy_fault, write_of, refusal}
use Rattle.tg_protocol.specs.Answers.{Moved, moved, note, closed}
use Rattle.tg_protocol.specs.ClientSteps.{task_in, walks, new_work, ClientTurn, client_command, client_deliver, client_tick, tick_by}
use Rattle.tg_protocol.specs.Worlds.{World, start, client, unit_moves, layout_moves, seqr_moves, client_turned, moves, comes, handed, delivers, noted_if, commands, ticks, ticks_if, stops_if, happens, runs}
use Rattle.tg_law_steps.proofs.Takes.{IsFor, ForWrites, ForJudged, HostsAlready, Hosts, Begins, Puts, Asks as Asks', ReadsOnly, Drops, IsWalked, WalksAsk, Taken, SaidAtOnce, SyncsFirst, AppendsRecord, ReconfBegins, CopyBegins}
use Rattle.tg_law_steps.proofs.Along.{commanded}
use Rattle.tg_law_layouts.proofs.Moves.Turns.{not_busy}
use Rattle.tg_law_replies.proofs.History.Members.{Has, has_contained, contained_has, same_oid}
use Rattle.tg_law_replies.proofs.Views.Judges.{with_others}
use Rattle.tg_law_replies.specs.Replies.Steps.{EachDelivery, EachEvent}
use Rattle.tg_law_replies.proofs.Replies.Shape.{StandsIn, WalksFor, AppendsFor, WaitsFor, WorksFor, untold, unseen, unasked, Shape, InShape, Good, appended, synced, idle_stands}
use Rattle.tg_law_replies.proofs.Replies.Answering.{AsksAt, Along, way, walked_way, ends_shaped}
use Rattle.tg_law_replies.proofs.Replies.Each.{delivered}
use Rattle.tg_law_replies.proofs.Replies.Steps.{set_at}

has_oid_has : (o : Oid) (os : List Oid) → has_oid o os ≡ true → Has os o
has_oid_has o [] e = absurd cc
has_oid_has o (x ∷ os) e = by (oid_eq o x) refl e (has_oid_has o os)
  where
    by : (b : Bool) → oid_eq o x ≡ b → (b || has_oid o os) ≡ true → (has_oid o os ≡ true → Has os o) → Has (x ∷ os) o
    by true is k rest = inl (same_oid o x is)
    by false is k rest = inr (rest k)

module _ (m : Meaning) (objects : List Oid) (es : Entries) where
  abbrev Fits : Client m → Type 0
  Fits c = Shape m objects c

  abbrev So : Moved m → Type 0
  So x = Good m objects x

  -- where an ask's walks are over, its play comes to the tail
  abbrev pub Asks : Client m → Work m → Type 0
  Asks c w = AsksAt m objects c w w.command

  -- Commands.

  stands_more : (t u : Tx) (view : Option (View m)) → u.snapshot ≡ t.snapshot → StandsIn m (Some t) view → StandsIn m (Some u) view
  stands_more t u view same h x at v o is snap has = h t at v o refl (sym same ∙ (ap (λ (y : Tx). y.snapshot) (one u x is) ∙ snap)) has
    where
      one : (x y : Tx) → Some x ≡ Some y → x ≡ y
      one x y e = cc

  -- none of its tests refuses the command
  abbrev Passed : Client m → CommandOf m → Type 0
  Passed c (cmd.Put o op) = Unit {0}
  Passed c (cmd.Ask o q) = Unit {0}
  Passed c cmd.End = Unit {0}
  Passed c cmd.Drop = Unit {0}
  Passed c (cmd.Checkpoint o) = (c.tx ≡ None) × Contains c.hosted o
  Passed c x = c.tx ≡ None

  first_none : (x : Option Refusal) (xs : List (Option Refusal)) → first_some (x ∷ xs) ≡ None → (x ≡ None) × (first_some xs ≡ None)
  first_none None xs e = (refl, e)
  first_none (Some why) xs e = absurd (one e)
    where
      one : Some why ≡ None → ⊥
      one z = cc

  is_closed : (c : Client m) (xs : List (Option Refusal)) → first_some (tx_open m c ∷ xs) ≡ None → c.tx ≡ None
  is_closed c xs e = by c.tx (first_none (tx_open m c) xs e).0
    where
      by : (t : Option Tx) → where_true (is_some t) cause.TxOpen ≡ None → t ≡ None
      by None e = refl
      by (Some t) e = absurd (one e)
        where
          one : Some cause.TxOpen ≡ None → ⊥
          one z = cc

  is_hosted : (c : Client m) (o : Oid) → not_hosted m c o ≡ None → Contains c.hosted o
  is_hosted c o e = by (hosts_oid m c o) refl e
    where
      by : (b : Bool) → hosts_oid m c o ≡ b → where_true (not b) (cause.NotHosted o) ≡ None → Contains c.hosted o
      by true is e = contained_has c.hosted o (has_oid_has o c.hosted is)
      by false is e = absurd (one e)
        where
          one : Some (cause.NotHosted o) ≡ None → ⊥
          one z = cc

  passes : (c : Client m) (x : CommandOf m) → first_some (tests m c x) ≡ None → Passed c x
  unfolding tests
  passes c (cmd.Host o) e = is_closed c (not_registered m c o ∷ too_many_hosted m c o ∷ []) e
  passes c cmd.Begin e = is_closed c [] e
  passes c (cmd.Put o op) e = tt
  passes c (cmd.Ask o q) e = tt
  passes c cmd.End e = tt
  passes c cmd.Drop e = tt
  passes c (cmd.Fate p) e = is_closed c [] e
  passes c (cmd.Decide p) e = is_closed c [] e
  passes c (cmd.Checkpoint o) e = (is_closed c (not_hosted m c o ∷ []) e, is_hosted c o (first_none (not_hosted m c o) [] (first_none (tx_open m c) (not_hosted m c o ∷ []) e).1).0)
  passes c (cmd.Forget o n) e = is_closed c (not_hosted m c o ∷ []) e
  passes c cmd.Trim e = is_closed c [] e
  passes c (cmd.Reconf x) e = is_closed c (by_layout m (change_fault c.stand x) ∷ []) e
  passes c (cmd.Copy u r s) e = is_closed c (copy_fault m c.stand u r s ∷ []) e
  passes c (cmd.AskAt p o q) e = is_closed c (wrong_kind m (m.allows_ask o q) o ∷ not_hosted m c o ∷ []) e
  passes c (cmd.Rescue p) e = is_closed c [] e

  passed : (c : Client m) (x : CommandOf m) → refusal m c x ≡ None → Passed c x
  unfolding refusal
  passed c x e = passes c x (first_none (busy m c.work) (tests m c x) e).1

  -- while no command waits
  idle_so : (c d : Client m) → c.work ≡ None → d.work ≡ c.work → Fits d → StandsIn m d.tx d.view → So (moved m d [])
  idle_so c d idle same h k = (h, subst (WorksFor m d.tx d.view d.hosted) (sym (same ∙ idle)) k)

  of_purpose : (t : Tx) (c : Client m) (y : Purpose m) → IsFor m t y → StandsIn m c.tx c.view → AppendsFor m c.tx c.view c.hosted cmd.End y
  of_purpose t c _ (ForWrites e) h = h
  of_purpose t c _ (ForJudged e) h = (h, tt)

  walks_for : (c : Client m) (x : CommandOf m) → IsWalked m c x → Passed c x → WalksFor m c.tx c.hosted x
  walks_for c _ (WalksAsk o q t is snap) k = λ x has. ap (λ (y : Tx). y.snapshot) (one x t (sym has ∙ is)) ∙ snap
    where
      one : (x y : Tx) → Some x ≡ Some y → x ≡ y
      one x y e = cc
  walks_for c _ x k = k

  takes_in : (c : Client m) (x : CommandOf m) (y : Moved m) → InShape m objects c → c.work ≡ None → Passed c x → Taken m c x y → So y
  takes_in c _ _ h idle k (SaidAtOnce _ _ _ (HostsAlready o e)) = h
  takes_in c _ _ h idle k (SaidAtOnce _ _ _ (Hosts o e)) =
      idle_so c (record c { hosted = with_oid o c.hosted; view = None }) idle refl
      (record { objects_are = h.0.objects_are; dir = contained_has (with_oid o c.hosted) directory (with_others o directory c.hosted (has_contained c.hosted directory h.0.dir)); view = λ v is. absurd (no v is) }) (unseen m c.tx)
    where
      no : (v : View m) → None ≡ Some v → ⊥
      no v e = cc
  takes_in c _ _ h idle k (SaidAtOnce _ _ _ Begins) =
      idle_so c (record c { begun = c.begun + 1; tx = Some (open_tx (c.begun + 1)) }) idle refl h.0 (unasked m (Some (open_tx (c.begun + 1))) c.view (λ t is. ap (λ (y : Tx). y.snapshot) (one t (open_tx (c.begun + 1)) (sym is))))
    where
      one : (x y : Tx) → Some x ≡ Some y → x ≡ y
      one x y e = cc
  takes_in c _ _ h idle k (SaidAtOnce _ _ _ (Puts o op t is)) =
      idle_so c (record c { tx = Some (tx_put t (write_of m o op)) }) idle refl h.0 (stands_more t (tx_put t (write_of m o op)) c.view refl (subst (λ (x : Option Tx). StandsIn m x c.view) is (idle_stands m objects c h idle)))
  takes_in c _ _ h idle k (SaidAtOnce _ _ _ (Asks' o q t at v s is snap sees e)) =
      idle_so c (record c { tx = Some (tx_read t (record { oid = o; part = m.look q; version = view_version m v o (m.look q) }) at) }) idle refl h.0
      (stands_more t (tx_read t (record { oid = o; part = m.look q; version = view_version m v o (m.look q) }) at) c.view (sym snap) (subst (λ (x : Option Tx). StandsIn m x c.view) is (idle_stands m objects c h idle)))
  takes_in c _ _ h idle k (SaidAtOnce _ _ _ (ReadsOnly t is e)) = idle_so c (closed m c) idle refl h.0 (untold m None c.view refl)
  takes_in c _ _ h idle k (SaidAtOnce _ _ _ Drops) = idle_so c (closed m c) idle refl h.0 (untold m None c.view refl)
  takes_in c _ _ h idle k (SaidAtOnce _ _ _ x) = h
  takes_in c _ _ h idle k (SyncsFirst x walks) = synced m objects c (new_work m x) c.hosted h.0 (walks_for c x walks k)
  takes_in c _ _ h idle k (AppendsRecord t y is e for) = appended m objects c (new_work m cmd.End) (commit_record t c.num) y (note m t.number told.End ∷ []) h.0 (of_purpose t c y for (idle_stands m objects c h idle))
  takes_in c _ _ h idle k (ReconfBegins x n r e) = (h.0, untold m c.tx c.view k)
  takes_in c _ _ h idle k (CopyBegins u r s) = (h.0, untold m c.tx c.view k)

  -- Turns.

  command_in : (c : Client m) (x : CommandOf m) → InShape m objects c → InShape m objects (client_command m c x).now
  unfolding client_command
  command_in c x h = commanded m So c x (λ why e. h) (λ e y k. takes_in c x y h (not_busy m c x e) (passed c x e) k)

  deliver_in : (c : Client m) (from : NodeId) (rid : ℕ) (x : Msg) → InShape m objects c → EachDelivery m objects es Asks c c.work from rid (reply x) → InShape m objects (client_deliver m c from rid x).now
  unfolding client_deliver
  deliver_in c from rid x h r =
      delivered m objects es Asks (Along m objects) So (ends_shaped m objects) (way m objects) (walked_way m objects) c from rid (reply x) h
      (λ w t has doing a other. record { fits = h.0; waits = subst (λ (d : Hand m). WaitsFor m c.tx c.view c.hosted w.command (task_in m d)) doing (subst (WorksFor m c.tx c.view c.hosted) has h.1) })
      (λ w q has is new. record { fits = h.0; waits = subst (WorksFor m c.tx c.view c.hosted) has h.1 })
      r

  tick_in : (c : Client m) → InShape m objects c → InShape m objects (client_tick m c).now
  unfolding client_tick
  tick_in c h = by c.work
    where
      by : (w : Option (Work m)) → InShape m objects (tick_by m c w).now
      by None = h
      by (Some w) = h

  -- Worlds.

  abbrev pub AllShaped : World m → Type 0
  AllShaped w = (k : ℕ) → InShape m objects (client m w k)

  turned : (w : World m) (n : ℕ) (t : ClientTurn m) → AllShaped w → InShape m objects t.now → AllShaped (client_turned m w n t)
  unfolding client_turned
  turned w n t h turn k = by (set_at w.clients n t.now k (new_client m w.cluster k))
    where
      by : (slice_index_or (slice_set w.clients n t.now) k (new_client m w.cluster k) ≡ t.now) ⊎ (slice_index_or (slice_set w.clients n t.now) k (new_client m w.cluster k) ≡ slice_index_or w.clients k (new_client m w.cluster k))
          → InShape m objects (slice_index_or (slice_set w.clients n t.now) k (new_client m w.cluster k))
      by (inl e) = subst (InShape m objects) (sym e) turn
      by (inr e) = subst (InShape m objects) (sym e) (h k)

  moves_in : (w : World m) (p : Packet) (r : Role) → AllShaped w → (r ≡ role.Client → EachDelivery m objects es Asks (client m w p.to.num) (client m w p.to.num).work p.from p.rid (reply p.msg)) → AllShaped (moves m w p r)
  unfolding unit_moves layout_moves seqr_moves
  moves_in w p role.Unit h e = h
  moves_in w p role.Layout h e = h
  moves_in w p role.Seqr h e = h
  moves_in w p role.Client h e = turned w p.to.num (client_deliver m (client m w p.to.num) p.from p.rid p.msg) h (deliver_in (client m w p.to.num) p.from p.rid p.msg (h p.to.num) (e refl))

  pub happens_shaped : (w : World m) (e : EventOf m) → AllShaped w → EachEvent m objects es Asks w e → AllShaped (happens m w e)
  unfolding happens
  happens_shaped w (Commands k x) h r = by (runs m w (client_id k))
    where
      after : (b : Bool) → AllShaped (client_turned m (noted_if m b w k (client m w k)) k (client_command m (client m w k) x))
      after true = turned w k (client_command m (client m w k) x) h (command_in (client m w k) x (h k))
      after false = turned (noted_if m false w k (client m w k)) k (client_command m (client m w k) x) h (command_in (client m w k) x (h k))

      by : (b : Bool) → AllShaped (commands m b w k x)
      by true = after (is_some (client m w k).work)
      by false = h
  happens_shaped w (Deliver i) h r = by (slice_get w.packets i) refl
    where
      comes_in : (p : Packet) → slice_get w.packets i ≡ Some p → (b : Bool) → runs m w p.to ≡ b → AllShaped (comes m b (handed m w i) p)
      comes_in p is true on = moves_in (handed m w i) p p.to.role h (λ c. r p is c on)
      comes_in p is false on = h

      by : (p : Option Packet) → slice_get w.packets i ≡ p → AllShaped (delivers m w i p)
      by None is = h
      by (Some p) is = comes_in p is (runs m (handed m w i) p.to) refl
  happens_shaped w (Lose i) h r = h
  happens_shaped w (Tick n) h r = by (runs m w n)
    where
      ticks_in : (x : Role) → AllShaped (ticks m w n.num x)
      ticks_in role.Unit = h
      ticks_in role.Layout = h
      ticks_in role.Seqr = h
      ticks_in role.Client = turned w n.num (client_tick m (client m w n.num)) h (tick_in (client m w n.num) (h n.num))

      by : (b : Bool) → AllShaped (ticks_if m b w n)
      by true = ticks_in n.role
      by false = h
  happens_shaped w (Stop n) h r = by (runs m w n)
    where
      by : (b : Bool) → AllShaped (stops_if m b w n)
      by true = h
      by false = h

module _ (m : Meaning) (h : Header) where
  new_shaped : (n : ℕ) → InShape m h.objects (new_client m h n)
  unfolding new_client
  new_shaped n = (record { objects_are = refl; dir = contained_has (directory ∷ []) directory (inl refl); view = λ v is. absurd (none v is) }, untold m None None refl)
    where
      none : (v : View m) → None ≡ Some v → ⊥
      none v e = cc

  each_new : (ns : List ℕ) (k : ℕ) (d : Client m) → InShape m h.objects d → InShape m h.objects (slice_index_or (map (new_client m h) ns) k d)
  each_new [] k d r = r
  each_new (n ∷ ns) zero d r = new_shaped n
  each_new (n ∷ ns) (suc k) d r = each_new ns k d r

  pub start_shaped : (es : Entries) → AllShaped m h.objects es (start m h)
  unfolding start
  start_shaped es k = each_new (numbers h.clients 0) k (new_client m h k) (new_shaped k)
