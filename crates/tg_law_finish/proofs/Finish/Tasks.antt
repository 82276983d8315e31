-- A client that does a task with these requests outstanding.
use Rattle.std.proofs.Common.{◌≡◌, ℕ, ◌+◌, ◌^◌, ◌<◌, ◌≤◌, List, [], ◌∷◌, cond, Bool, true, false, refl, ap, ◌∙◌, sym, subst, arith, Some}
use Rattle.std.specs.Prelude.{nat_le}
use Rattle.tg_base.specs.Layouts.{Layout}
use Rattle.tg_base.specs.Clusters.{Header}
use Rattle.tg_base.specs.declared.ids.NodeId.{NodeId}
use Rattle.tg_base.specs.declared.msg.Msg.TheVariants as msg
use Rattle.tg_base.specs.declared.packet.Out.{Out}
use Rattle.tg_base.specs.Orders.{node_eq}
use Rattle.tg_kind.specs.Meaning.{Meaning}
use Rattle.tg_protocol.specs.Words.{layout_id}
use Rattle.tg_protocol.specs.Requests.{awaits, drawn_from}
use Rattle.tg_protocol.specs.Replies.{Reply, IsLatest, IsOther, reply}
use Rattle.tg_protocol.specs.Clients.{Task, Doing, Work, Client}
use Rattle.tg_protocol.specs.Answers.{moved}
use Rattle.tg_protocol.specs.ClientSteps.{task_asks, task_awaited, task_again_asks, hand_again_asks, hand_asks, client_asks, given, called, client_deliver, feed, reply_feed, hand_feed, fed_if, task_feed}
use Rattle.tg_protocol.specs.ClientSteps as steps
use Rattle.tg_law_finish.proofs.Finish.Lists.{Each}
use Rattle.tg_law_finish.proofs.Finish.Others.{Calm}
use Rattle.tg_law_finish.proofs.Finish.Lines.{Busied, Again}
use Rattle.tg_law_finish.proofs.Finish.Appends.{is_latest}
use Rattle.tg_law_finish.proofs.Finish.Writers.{to_hand, other_latest}

-- requests of numbers below this one, none of them to a layout server
abbrev pub Below : ℕ → Out → Type 0
Below next o = o.rid < next

abbrev pub Away : Out → Type 0
Away o = (l : ℕ) → node_eq o.to (layout_id l) ≡ false

one_drawn : (o : Out) (os : List Out) (next : ℕ) → o.rid < next → drawn_from next os ≡ [] → drawn_from next (o ∷ os) ≡ []
one_drawn o os next less e = grind (arith, less, e)

pub none_drawn : (os : List Out) (next : ℕ) → Each (Below next) os → drawn_from next os ≡ []
none_drawn [] next a = refl
none_drawn (o ∷ os) next a = one_drawn o os next a.0 (none_drawn os next a.1)

one_awaited : (o : Out) (os : List Out) (from : NodeId) (rid : ℕ) → node_eq o.to from ≡ false → awaits os from rid ≡ false → awaits (o ∷ os) from rid ≡ false
one_awaited o os from rid e f = grind (arith, e, f)

none_awaited : (os : List Out) (l rid : ℕ) → Each Away os → awaits os (layout_id l) rid ≡ false
none_awaited [] l rid a = refl
none_awaited (o ∷ os) l rid a = one_awaited o os (layout_id l) rid (a.0 l) (none_awaited os l rid a.1)

pub further : (os : List Out) (a b : ℕ) → a ≤ b → Each (Below a) os → Each (Below b) os
further [] a b le x = tt
further (o ∷ os) a b le x = ((let less = x.0 in omega (arith, less, le)), further os a b le x.1)

module _ (m : Meaning) (h : Header) (stopped : List NodeId) (k : ℕ) (p : Layout) (longest : ℕ) where
  pub record TaskShape (c : Client m) (t : Task m) (os : List Out) : Type 0 where
    pub stand : c.stand ≡ p
    pub work : Work m
    pub waits : c.work ≡ Some work
    pub hand : work.hand ≡ Doing t
    pub awaited : task_awaited m p t ≡ os
    pub again : task_again_asks m p t ≡ os
    pub asks : task_asks m p t ≡ os
    pub below : Each (Below c.next) os
    pub away : Each Away os

  abbrev pub shape_called : (c : Client m) (t : Task m) (os : List Out) → TaskShape c t os → TaskShape (called m c) t os
  shape_called c t os x = record { stand = x.stand; work = x.work; waits = x.waits; hand = x.hand; awaited = x.awaited; again = x.again; asks = x.asks; below = x.below; away = x.away }

  abbrev pub shape_ticked : (c : Client m) (t : Task m) (os : List Out) → TaskShape c t os → TaskShape (called m (record c { next = c.next + c.layouts })) t os
  shape_ticked c t os x = record { stand = x.stand; work = x.work; waits = x.waits; hand = x.hand; awaited = x.awaited; again = x.again; asks = x.asks; below = further os c.next (c.next + c.layouts) (omega arith) x.below; away = x.away }

  asks_is : (c : Client m) (t : Task m) (os : List Out) → TaskShape c t os → client_asks m c ≡ os
  unfolding client_asks
  asks_is c t os x = ap (λ w. steps.work_asks m c.stand w) x.waits ∙ (ap (λ y. hand_asks m c.stand y) x.hand ∙ (ap (λ q. task_asks m q t) x.stand ∙ x.asks))

  awaited_is : (c : Client m) (t : Task m) (os : List Out) → TaskShape c t os → task_awaited m c.stand t ≡ os
  awaited_is c t os x = ap (λ q. task_awaited m q t) x.stand ∙ x.awaited

  pub again_is : (c : Client m) (t : Task m) (os : List Out) → TaskShape c t os → Again m h stopped k p c os
  again_is c t os x = record { work = x.work; waits = x.waits; again = ap (λ y. hand_again_asks m c.stand y) x.hand ∙ (ap (λ q. task_again_asks m q t) x.stand ∙ x.again) }

  calm_fed : (c : Client m) (t : Task m) (os : List Out) (l rid : ℕ) (q : Layout) (b : Bool) (x : TaskShape c t os) → q.epoch ≤ p.epoch → reply_feed m c x.work (layout_id l) rid (cond b IsOther (IsLatest q)) ≡ moved m c []
  calm_fed c t os l rid q true x le = ap (λ y. hand_feed m c x.work y (layout_id l) rid IsOther) x.hand ∙ ap (λ b. fed_if m b c x.work t (layout_id l) rid IsOther) (ap (λ ys. awaits ys (layout_id l) rid) (awaited_is c t os x) ∙ none_awaited os l rid x.away)
  calm_fed c t os l rid q false x le = other_latest m h stopped k p longest c x.work (layout_id l) rid q (subst (λ y. q.epoch ≤ y.epoch) (sym x.stand) le)

  calm_shape : (c : Client m) (t : Task m) (os : List Out) → TaskShape c t os → Calm m h stopped k p c
  unfolding client_deliver reply
  calm_shape c t os x = λ l rid q le.
      ap (λ y. given m c y) (ap (λ w. feed m c w (layout_id l) rid (reply (msg.Latest q))) x.waits ∙ calm_fed c t os l rid q (nat_le (2 ^ 32) q.epoch) x le)
      ∙ ap (λ ys. record { now = called m c; sends = ys; notes = [] }) (ap (λ ys. drawn_from c.next ys) (asks_is c t os x) ∙ none_drawn os c.next x.below)

  pub busied : (c : Client m) (t : Task m) (os : List Out) → TaskShape c t os → Busied m h stopped k p c
  busied c t os x = record { work = x.work; waits = x.waits; calm = calm_shape c t os x }

  -- an awaited answer comes to the task
  pub task_fed : (c : Client m) (t : Task m) (os : List Out) (from : NodeId) (rid : ℕ) (r : Reply) (x : TaskShape c t os) → awaits os from rid ≡ true → is_latest r ≡ false → feed m c c.work from rid r ≡ task_feed m c x.work t from.num rid r
  task_fed c t os from rid r x awaited plain = ap (λ w. feed m c w from rid r) x.waits ∙ (to_hand m c x.work from rid r plain ∙ (ap (λ z. hand_feed m c x.work z from rid r) x.hand
      ∙ ap (λ b. fed_if m b c x.work t from rid r) (ap (λ ys. awaits ys from rid) (awaited_is c t os x) ∙ awaited)))
