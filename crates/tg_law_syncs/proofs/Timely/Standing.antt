-- The epoch in which a client stands doesn't fall in any of its turns.
use Rattle.std.proofs.Common.{◌≡◌, ◌⊎◌, ℕ, ◌<◌, ◌≤◌, List, Bool, true, ◌&&◌, refl, sym, ap, subst, inl, inr, arith, Some, None, Option}
use Rattle.std.specs.Prelude.{nat_lt}
use Rattle.tg_base.specs.Layouts.{Layout}
use Rattle.tg_base.specs.Changes.{Changed}
use Rattle.tg_base.specs.declared.change.Join.{Join}
use Rattle.tg_base.specs.declared.packet.Packet.{Packet}
use Rattle.tg_kind.specs.Meaning.{Meaning}
use Rattle.tg_model.specs.Kinds.{CommandOf}
use Rattle.tg_model.specs.declared.command.Command.TheVariants as cmd
use Rattle.tg_model.specs.declared.refusal.Refusal.{Refusal}
use Rattle.tg_protocol.specs.Requests.{Next, Goes, Learns, Ends}
use Rattle.tg_protocol.specs.Replies.{Reply, reply}
use Rattle.tg_protocol.specs.Reconfiguring.{Reconf, ReconfEnd, Installed, Overtaken, NotWhole, ReconfTurn, SealingSpare, first_step, reconf_start, reconf_feed, reconf_latest}
use Rattle.tg_protocol.specs.Clients.{Task, Reconfiguring, Hand, Work, Client, refusal}
use Rattle.tg_protocol.specs.Answers.{Moved}
use Rattle.tg_protocol.specs.ClientSteps.{ClientTurn, after_turn, task_in, stands, accepts, new_work, refused_or, reconf_to, on_reconf, client_command, client_deliver, client_tick}
use Rattle.tg_law_layouts.specs.Moves.Configs.{Config, client_in}
use Rattle.tg_law_layouts.proofs.Moves.Moves.{ClientInput, Commanded, Hears', Ticks'}
use Rattle.tg_law_layouts.proofs.Moves.Turns.{not_busy}
use Rattle.tg_law_layouts.proofs.Layouts.Decisions.{Pax}
use Rattle.tg_law_layouts.proofs.Layouts.Pax.{HandOk, reconf_of, task_reconf}
use Rattle.tg_law_layouts.proofs.Layouts.Phases.{phase, Follows, TurnFollows, end_stand, latest_follows, feed_follows}
use Rattle.tg_law_layouts.proofs.Layouts.Plain.{Plain, Fed, Heard, accepts_plain, delivered_plain}
use Rattle.tg_law_steps.proofs.Along.{ticked}
use Rattle.tg_law_syncs.proofs.Known.FarHeld.{proposed_next}

pub later : (a : Bool) (d e : ℕ) → (a && nat_lt d e) ≡ true → d < e
later a d e h = grind arith

module _ (m : Meaning) (n k : ℕ) (ps : List Packet) where
  abbrev Rises : Client m → Moved m → Type 0
  Rises c x = c.stand.epoch ≤ x.now.stand.epoch

  plain : (c : Client m) (p : Layout) (x : Moved m) → c.stand.epoch ≤ p.epoch → Plain m (stands m c p) x → Rises c x
  plain c p x le f = let e = ap (λ (q : Layout). q.epoch) f.stand in omega (arith, e, le)

  calm : (c : Client m) (x : Moved m) → Plain m c x → Rises c x
  calm c x f = let e = ap (λ (q : Layout). q.epoch) f.stand in omega (arith, e)

  reconf_rises : (c : Client m) (w : Work m) (r : Reconf) (t : ReconfTurn) → r.stand ≡ c.stand → TurnFollows r t → Rises c (on_reconf m c w t)
  reconf_rises c w r t at f = by t.to refl
    where
      here : r.stand.epoch ≡ c.stand.epoch
      here = ap (λ (q : Layout). q.epoch) at

      goes : (s : Reconf) → Follows r s → c.stand.epoch ≤ s.stand.epoch
      goes s g = which g.stand
        where
          which : ((s.stand ≡ r.stand) × ((phase s.work ≡ 1) ⊎ (phase s.work ≡ phase r.work))) ⊎ ((r.stand.epoch < s.stand.epoch) × (phase s.work ≡ 2)) → c.stand.epoch ≤ s.stand.epoch
          which (inl x) = let a = ap (λ (q : Layout). q.epoch) x.0 in omega (arith, a, here)
          which (inr x) = let a = x.0 in omega (arith, a, here)

      ended : (e : ReconfEnd) → ((end_stand e ≡ r.stand) × (phase r.work ≡ 1 → ⊥)) ⊎ (r.stand.epoch < (end_stand e).epoch) → c.stand.epoch ≤ (end_stand e).epoch
      ended e (inl x) = let a = ap (λ (q : Layout). q.epoch) x.0 in omega (arith, a, here)
      ended e (inr less) = omega (arith, less, here)

      by : (to : Next Reconf ReconfEnd) → t.to ≡ to → Rises c (reconf_to m (after_turn m c t) w to)
      by (Goes s) e = goes s (f.goes s e)
      by (Learns s) e = omega arith
      by (Ends (Installed a p)) e = ended (Installed a p) (f.ends (Installed a p) e)
      by (Ends (Overtaken a p)) e = ended (Overtaken a p) (f.ends (Overtaken a p) e)
      by (Ends (NotWhole u i p)) e = ended (NotWhole u i p) (f.ends (NotWhole u i p) e)

  -- A delivery.

  fed_rises : (c : Client m) (w : Work m) (t : Task m) (i rid : ℕ) (x : Reply) → HandOk m n k ps c.stand (task_reconf m t) → Fed m (Rises c) c w t i rid x
  fed_rises c w (Reconfiguring r) i rid x h = reconf_rises c w r (reconf_feed r r.work i rid x c.next) h.stand (feed_follows r i rid x c.next h.told (proposed_next m n k ps c.stand r h))
  fed_rises c w t i rid x h = λ y f. calm c y f

  heard_rises : (c : Client m) (w : Work m) (t : Task m) (i rid : ℕ) (q : Layout) → HandOk m n k ps c.stand (task_reconf m t) → c.stand.epoch < q.epoch → Heard m (Rises c) c w t i rid q
  heard_rises c w (Reconfiguring r) i rid q h less = reconf_rises c w r (reconf_latest r r.work i rid q c.next) h.stand (latest_follows r i rid q c.next h.told (subst (λ (p : Layout). p.epoch < q.epoch) (sym h.stand) less))
  heard_rises c w t i rid q h less = λ y f. plain c q y (omega (arith, less)) f

  deliver_rises : (c : Client m) (x : Packet) → HandOk m n k ps c.stand (reconf_of m c.work) → c.stand.epoch ≤ (client_deliver m c x.from x.rid x.msg).now.stand.epoch
  unfolding client_deliver
  deliver_rises c x h = delivered_plain m (Rises c) c x.from x.rid (reply x.msg) (omega arith)
      (λ w t has doing a. fed_rises c w t x.from.num x.rid (reply x.msg) (subst (λ (d : Hand m). HandOk m n k ps c.stand (task_reconf m (task_in m d))) doing (hand w has)))
      (λ w q has is e. heard_rises c w (task_in m w.hand) x.from.num x.rid q (hand w has) (later _ c.stand.epoch q.epoch e))
    where
      hand : (w : Work m) → c.work ≡ Some w → HandOk m n k ps c.stand (task_reconf m (task_in m w.hand))
      hand w has = subst (λ (o : Option (Work m)). HandOk m n k ps c.stand (reconf_of m o)) has h

  -- Commands.

  first_rises : (c : Client m) (w : Work m) (x : Changed) (j : Option Join) → Rises c (on_reconf m c w (first_step (record { change = x; me = c.num; layouts = c.layouts; stand = c.stand; work = SealingSpare 0 }) c.next j))
  first_rises c w x None = omega arith
  first_rises c w x (Some j) = omega arith

  start_rises : (c : Client m) (w : Work m) (x : Changed) → Rises c (on_reconf m c w (reconf_start c.stand c.layouts x c.num c.next))
  unfolding reconf_start
  start_rises c w x = first_rises c w x x.join

  accepts_rise : (c : Client m) (x : CommandOf m) → c.work ≡ None → Rises c (accepts m c x)
  unfolding accepts
  accepts_rise c (cmd.Reconf x) e = start_rises c (new_work m (cmd.Reconf x)) x
  accepts_rise c x e = calm c _ (accepts_plain m c x tt e)

  refused_rises : (c : Client m) (x : CommandOf m) (o : Option Refusal) → (o ≡ None → c.work ≡ None) → Rises c (refused_or m c x o)
  refused_rises c x None free = accepts_rise c x (free refl)
  refused_rises c x (Some why) free = omega arith

  command_rises : (c : Client m) (x : CommandOf m) → c.stand.epoch ≤ (client_command m c x).now.stand.epoch
  unfolding client_command
  command_rises c x = refused_rises c x (refusal m c x) (not_busy m c x)

  tick_rises : (c : Client m) → c.stand.epoch ≤ (client_tick m c).now.stand.epoch
  tick_rises c = ticked m (λ (t : ClientTurn m). c.stand.epoch ≤ t.now.stand.epoch) c (λ e. omega arith) (λ w e. omega arith)

module _ (m : Meaning) where
  pub turn_rises : (c : Config m) → Pax m c → (k : ℕ) (t : ClientTurn m) → ClientInput m c k t → (client_in m c k).stand.epoch ≤ t.now.stand.epoch
  turn_rises c x k t (Commanded y) = command_rises m c.cluster.layouts k c.packets (client_in m c k) y
  turn_rises c x k t (Hears' p comes) = deliver_rises m c.cluster.layouts k c.packets (client_in m c k) p (x.clients k)
  turn_rises c x k t Ticks' = tick_rises m c.cluster.layouts k c.packets (client_in m c k)
