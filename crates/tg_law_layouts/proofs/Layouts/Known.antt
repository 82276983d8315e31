-- Every layout that a node stands at or tells is decided.
use Rattle.std.proofs.Common.{◌≡◌, ◌⊎◌, ℕ, List, [], true, refl, sym, subst, inl, inr, Some, None, Option}
use Rattle.tg_base.specs.Layouts.{Layout}
use Rattle.tg_base.specs.Changes.{Changed}
use Rattle.tg_base.specs.declared.change.Join.{Join}
use Rattle.tg_base.specs.declared.packet.Packet.{Packet}
use Rattle.tg_kind.specs.Meaning.{Meaning}
use Rattle.tg_model.specs.Kinds.{CommandOf, NoteOf}
use Rattle.tg_model.specs.declared.refusal.Refusal.{Refusal}
use Rattle.tg_model.specs.declared.command.Command.TheVariants as cmd
use Rattle.tg_protocol.specs.Words.{layout_id}
use Rattle.tg_protocol.specs.Requests.{awaits, Next, Goes, Learns, Ends}
use Rattle.tg_protocol.specs.Replies.{reply}
use Rattle.tg_protocol.specs.Replies as replied
use Rattle.tg_protocol.specs.Reconfiguring.{Reconf, ReconfEnd, Installed, Overtaken, NotWhole, ReconfTurn, SealingSpare, first_step, reconf_start, reconf_feed, reconf_latest}
use Rattle.tg_protocol.specs.Clients.{Task, Reconfiguring, Hand, Work, Client}
use Rattle.tg_protocol.specs.Answers.{Moved, moved}
use Rattle.tg_protocol.specs.ClientSteps.{task_awaited, task_in, stands, accepts, new_work, refused_or, reconf_to, on_reconf, after_turn}
use Rattle.tg_protocol.specs.ClientSteps as step
use Rattle.tg_law_layouts.proofs.Moves.Besides.{OnlyLearns, none_learns}
use Rattle.tg_law_layouts.proofs.Layouts.Plain.{Plain, accepts_plain, Fed, Heard, delivered_plain}
use Rattle.tg_law_layouts.proofs.Layouts.Pax.{task_reconf, reconf_of, calm_none}
use Rattle.tg_law_layouts.proofs.Layouts.Tellings.{WorkKnown, NextKnown, WorkWinner, Tells, turn_known, newer_known}

module _ (m : Meaning) (n : ℕ) (ps : List Packet) (Known : Layout → Type 0) where
  abbrev pub ReconfKnown : Option Reconf → Type 0
  ReconfKnown None = Unit {0}
  ReconfKnown (Some r) = WorkKnown n ps Known r r.work

  pub record HandKnown (p : Layout) (w : Option (Work m)) : Type 0 where
    pub stand : Known p
    pub hand : ReconfKnown (reconf_of m w)

  pub record MovedKnown (x : Moved m) : Type 0 where
    pub hand : HandKnown x.now.stand x.now.work
    pub besides : OnlyLearns x.now.stand x.besides

  still : (c : Client m) (ns : List (NoteOf m)) → HandKnown c.stand c.work → MovedKnown (moved m c ns)
  still c ns k = record { hand = k; besides = none_learns _ }

  plain_known : (c : Client m) (x : Moved m) → Known c.stand → Plain m c x → MovedKnown x
  plain_known c x k f = record { hand = record { stand = subst Known (sym f.stand) k; hand = subst ReconfKnown (sym (calm_none m n 0 ps x.now.work f.calm)) tt }; besides = f.quiet }

  either : (p q : Layout) → Known q → (p ≡ q) ⊎ Known p → Known p
  either p q k (inl e) = subst Known (sym e) k
  either p q k (inr h) = h

  reconf_known : (c : Client m) (w : Work m) (r : Reconf) (t : ReconfTurn) → Known c.stand → r.stand ≡ c.stand → NextKnown n ps Known r t.to → MovedKnown (on_reconf m c w t)
  reconf_known c w r t k at h = by t.to h
    where
      same : Known r.stand
      same = subst Known (sym at) k

      by : (to : Next Reconf ReconfEnd) → NextKnown n ps Known r to → MovedKnown (reconf_to m (after_turn m c t) w to)
      by (Goes s) h = record { hand = record { stand = either s.stand r.stand same h.1; hand = h.0 }; besides = none_learns _ }
      by (Learns s) h = record { hand = record { stand = k; hand = h.0 }; besides = none_learns _ }
      by (Ends (Installed e p)) h = record { hand = record { stand = either p r.stand same h; hand = tt }; besides = none_learns _ }
      by (Ends (Overtaken e p)) h = record { hand = record { stand = either p r.stand same h; hand = tt }; besides = none_learns _ }
      by (Ends (NotWhole u i p)) h = record { hand = record { stand = either p r.stand same h; hand = tt }; besides = none_learns _ }

  -- what is asked of the hand of a client that stands at p
  abbrev pub Fits : Layout → Option Reconf → Type 0
  Fits p None = Unit {0}
  Fits p (Some r) = (r.stand ≡ p) × (r.layouts ≡ n) × WorkWinner n ps Known r r.work

  module _ (x : Packet) (tells : x.from ≡ layout_id x.from.num → Tells n ps Known x.from.num (reply x.msg)) (latest : (q : Layout) → reply x.msg ≡ replied.IsLatest q → Known q) where
    task_known : (c : Client m) (w : Work m) (t : Task m) → Known c.stand → ReconfKnown (task_reconf m t) → Fits c.stand (task_reconf m t) → awaits (task_awaited m c.stand t) x.from x.rid ≡ true
        → Fed m MovedKnown c w t x.from.num x.rid (reply x.msg)
    task_known c w (Reconfiguring r) k h f a = reconf_known c w r (reconf_feed r r.work x.from.num x.rid (reply x.msg) c.next) k f.0 (turn_known n ps Known r x.from x.rid (reply x.msg) c.next h f.1 f.2 a tells)
    task_known c w t k h f a = λ y p. plain_known c y k p

    again_known : (c : Client m) (w : Work m) (t : Task m) (q : Layout) → Known c.stand → Known q → ReconfKnown (task_reconf m t) → Fits c.stand (task_reconf m t) → Heard m MovedKnown c w t x.from.num x.rid q
    again_known c w (Reconfiguring r) q k known h f = reconf_known c w r (reconf_latest r r.work x.from.num x.rid q c.next) k f.0 (newer_known n ps Known r x.from.num x.rid q c.next h known)
    again_known c w t q k known h f = λ y p. plain_known (stands m c q) y known p

    pub feed_known : (c : Client m) → HandKnown c.stand c.work → Fits c.stand (reconf_of m c.work) → MovedKnown (step.feed m c c.work x.from x.rid (reply x.msg))
    feed_known c k f = delivered_plain m MovedKnown c x.from x.rid (reply x.msg) (still c [] k)
        (λ w t has doing a. let g = subst (λ (d : Hand m). Held (task_reconf m (task_in m d))) doing (held w has) in task_known c w t k.stand g.0 g.1 a)
        (λ w q has is e. let g = held w has in again_known c w (task_in m w.hand) q k.stand (latest q is) g.0 g.1)
      where
        Held : Option Reconf → Type 0
        Held o = ReconfKnown o × Fits c.stand o

        held : (w : Work m) → c.work ≡ Some w → Held (task_reconf m (task_in m w.hand))
        held w has = subst (λ (o : Option (Work m)). Held (reconf_of m o)) has (k.hand, f)

  -- Commands.

  first_known : (c : Client m) (w : Work m) (x : Changed) (j : Option Join) → Known c.stand → MovedKnown (on_reconf m c w (first_step (record { change = x; me = c.num; layouts = c.layouts; stand = c.stand; work = SealingSpare 0 }) c.next j))
  first_known c w x None k = record { hand = record { stand = k; hand = tt }; besides = none_learns _ }
  first_known c w x (Some j) k = record { hand = record { stand = k; hand = tt }; besides = none_learns _ }

  accepts_known : (c : Client m) (x : CommandOf m) → c.work ≡ None → Known c.stand → MovedKnown (accepts m c x)
  unfolding accepts reconf_start
  accepts_known c (cmd.Reconf x) e k = first_known c (new_work m (cmd.Reconf x)) x x.join k
  accepts_known c x e k = plain_known c _ k (accepts_plain m c x tt e)

  pub refused_known : (c : Client m) (x : CommandOf m) (o : Option Refusal) → (o ≡ None → c.work ≡ None) → HandKnown c.stand c.work → MovedKnown (refused_or m c x o)
  refused_known c x None free k = accepts_known c x (free refl) k.stand
  refused_known c x (Some why) free k = still c _ k
