-- Along a run: what each client's work has been told since its command began, by the packets of a later world.
use Rattle.std.proofs.Common.{◌≡◌, ◌⊎◌, ℕ, ◌≤◌, List, [], ◌∷◌, ◌++◌, refl, sym, ap, ◌∙◌, subst, inl, inr, arith, true, Option, Some, None}
use Rattle.tg_base.specs.Clusters.{Header}
use Rattle.tg_base.specs.declared.ids.NodeId.{NodeId}
use Rattle.tg_base.specs.declared.msg.Msg.{Msg}
use Rattle.tg_base.specs.declared.packet.Out.{Out}
use Rattle.tg_base.specs.declared.packet.Packet.{Packet}
use Rattle.tg_kind.specs.Meaning.{Meaning}
use Rattle.tg_protocol.specs.Words.{unit_id, client_id}
use Rattle.tg_protocol.specs.Requests.{awaits}
use Rattle.tg_protocol.specs.Replies.{reply}
use Rattle.tg_protocol.specs.Clients.{Task, Hand, Doing, Work, Client, new_client, refusal}
use Rattle.tg_protocol.specs.Answers.{Moved}
use Rattle.tg_protocol.specs.ClientSteps.{ClientTurn, task_awaited, feed, client_command, client_deliver, client_tick, tick_by}
use Rattle.tg_protocol.specs.Worlds.{CommandStart, World, start, client, noted_of}
use Rattle.tg_protocol.specs.Runs.{Moves, Takes, Reaches}
use Rattle.tg_law_layouts.specs.Moves.After.{after}
use Rattle.tg_law_layouts.specs.Moves.Configs.{config}
use Rattle.tg_law_layouts.proofs.Moves.Members.{Has, has_right}
use Rattle.tg_law_layouts.proofs.Moves.Moves.{ClientInput, Commanded, Hears', Ticks', run_keeps}
use Rattle.tg_law_layouts.proofs.Moves.Clients.{reserved, hand_reserved, work_reserved}
use Rattle.tg_law_layouts.proofs.Moves.Turns.{TurnDraws', not_busy, command_draws, deliver_draws, tick_draws}
use Rattle.tg_law_layouts.proofs.Requests.Starts.{All, all_keeps, start_all}
use Rattle.tg_law_layouts.proofs.Layouts.Layouts.{stays_sent}
use Rattle.tg_law_walks.proofs.Lists.Reached.{before_reached}
use Rattle.tg_law_replies.proofs.Books.Worlds.{run_both}
use Rattle.tg_law_headline.proofs.Alike.Appends.{asked}
use Rattle.tg_law_claims.proofs.Causes.Turns.{Fine}
use Rattle.tg_law_claims.proofs.Causes.Keeping.{all_fine}
use Rattle.tg_law_claims.proofs.Causes.Jobs.{Heard}
use Rattle.tg_law_claims.proofs.Causes.Reasoning.{WorkHeld, Good, feed_good, command_held}
use Rattle.tg_law_headline.proofs.Alike.Running.{starts_at, end_state as run_end}

module _ (m : Meaning) (h : Header) (ms : Moves m) (r : Reaches m h ms (after m h ms)) (P : List Packet) (within : (p : Packet) → Has (after m h ms).packets p → Has P p) where
  -- what a client got, and what it asked
  abbrev pub Got : ℕ → NodeId → ℕ → Msg → Type 0
  Got k from rid y = Has P (record { from = from; to = client_id k; rid = rid; msg = y })

  abbrev pub AskSent : ℕ → NodeId → ℕ → Msg → Type 0
  AskSent k to rid y = Has P (record { from = client_id k; to = to; rid = rid; msg = y })

  pub record Kept (s : CommandStart) (k : ℕ) (c : Client m) : Type 0 where
    pub next : s.next ≤ c.next
    pub since : (o : Out) → Has (reserved m c) o → s.next ≤ o.rid
    pub held : WorkHeld m (Got k) (AskSent k) s.next c.work

  abbrev pub State : World m → Type 0
  State w = (k : ℕ) → Kept (noted_of m w k) k (client m w k)

  -- A step at a world of the run.

  module _ (xs ys : Moves m) (split : ms ≡ xs ++ ys) where
    abbrev w : World m
    w = after m h xs

    sent : (p : Packet) → Has w.packets p → Has P p
    sent p i = within p (subst (λ (v : World m). Has v.packets p) (sym (ap (λ (zs : Moves m). after m h zs) split ∙ run_both m xs ys (start m h))) (stays_sent m ys w p i))

    all : All m (config m (after m h xs))
    all = run_keeps m (All m) (all_keeps m) xs (start m h) (start_all m h)

    fine : (k : ℕ) → Fine m (client m w k).work
    fine = all_fine m h xs w (before_reached m h ms r xs ys split)

    module _ (n : ℕ) (s : CommandStart) (kept : Kept s n (client m w n)) where
      abbrev c : Client m
      c = client m w n

      kept_out : (v : Work m) (t : Task m) (o : Out) → c.work ≡ Some v → v.hand ≡ Doing t → Has (task_awaited m c.stand t) o → Has (reserved m c) o
      kept_out v t o is e j = subst (λ (z : Option (Work m)). Has (work_reserved m c.stand z) o) (sym is) (subst (λ (d : Hand m). Has (hand_reserved m c.stand d) o) (sym e) j)

      module _ (p : Packet) (i : Has w.packets p) (to : p.to ≡ client_id n) where
        got : Got n p.from p.rid p.msg
        got = subst (λ (z : NodeId). Has P (record { from = p.from; to = z; rid = p.rid; msg = p.msg })) to (sent p i)

        look_sent : (u : ℕ) (o : Out) → Has (reserved m c) o → o.to ≡ unit_id u → o.to ≡ p.from → o.rid ≡ p.rid → AskSent n o.to o.rid o.msg
        look_sent u o has unit at number =
            let a = all.0.1.answered u p i (sym at ∙ unit) in
            let from = a.from ∙ to in
            let same = (all.0.0.clients n).agree o a.ask has a.asked from a.request (number ∙ sym a.rid) (at ∙ sym a.to) in
            same_packet a.ask from (a.to ∙ sym at) (a.rid ∙ sym number) (sym same) (sent a.ask a.asked)
          where
            same_packet : (x : Packet) → x.from ≡ client_id n → x.to ≡ o.to → x.rid ≡ o.rid → x.msg ≡ o.msg → Has P x → AskSent n o.to o.rid o.msg
            same_packet x a b d e g =
                subst (λ (z : NodeId). Has P (record { from = z; to = o.to; rid = o.rid; msg = o.msg })) a
                (subst (λ (z : NodeId). Has P (record { from = x.from; to = z; rid = o.rid; msg = o.msg })) b
                (subst (λ (z : ℕ). Has P (record { from = x.from; to = x.to; rid = z; msg = o.msg })) d
                (subst (λ (z : Msg). Has P (record { from = x.from; to = x.to; rid = x.rid; msg = z })) e g)))

        heard : (v : Work m) (t : Task m) → c.work ≡ Some v → v.hand ≡ Doing t → awaits (task_awaited m c.stand t) p.from p.rid ≡ true → Heard (Got n) (AskSent n) s.next (task_awaited m c.stand t) p.from p.rid p.msg
        heard v t is e a =
            let k = asked (task_awaited m c.stand t) p.from p.rid a in
            record {
              got = got;
              now = let l = kept.since k.of (kept_out v t k.of is e k.has) in let q = k.number in omega (arith, l, q);
              asked = k;
              sent = λ u o j unit at number. look_sent u o (kept_out v t o is e j) unit at number;
            }

        abbrev pub FeedOk : Option (Work m) → Moved m → Type 0
        FeedOk None x = WorkHeld m (Got n) (AskSent n) s.next x.now.work × (x.notes ≡ [])
        FeedOk (Some v) x = Good m (Got n) (AskSent n) s.next v.command v.oids x

        pub feed_ok : (o : Option (Work m)) → c.work ≡ o → FeedOk o (feed m c o p.from p.rid (reply p.msg))
        feed_ok None is = (kept.held, refl)
        feed_ok (Some v) is =
            subst (λ (o : Option (Work m)). Good m (Got n) (AskSent n) s.next v.command v.oids (feed m c o p.from p.rid (reply p.msg))) is
            (feed_good m (Got n) (AskSent n) s.next v.command v.oids p.from p.rid p.msg c v is refl refl kept.held (subst (Fine m) is (fine n)) (λ t e a. heard v t is e a))

      feed_held : (o : Option (Work m)) (x : Moved m) → (p : Packet) (i : Has w.packets p) (to : p.to ≡ client_id n) → FeedOk p i to o x → WorkHeld m (Got n) (AskSent n) s.next x.now.work
      feed_held None x p i to k = k.0
      feed_held (Some v) x p i to k = k.held

      tick_held : (o : Option (Work m)) → c.work ≡ o → WorkHeld m (Got n) (AskSent n) s.next (tick_by m c o).now.work
      tick_held None is = kept.held
      tick_held (Some v) is = kept.held

      turn_held : (t : ClientTurn m) → ClientInput m (config m w) n t → WorkHeld m (Got n) (AskSent n) s.next t.now.work
      unfolding client_command client_deliver client_tick
      turn_held t (Commanded x) = command_held m (Got n) (AskSent n) s.next c x (refusal m c x) (not_busy m c x) kept.held
      turn_held t (Hears' p comes) = feed_held c.work (feed m c c.work p.from p.rid (reply p.msg)) p comes.sent comes.to_node (feed_ok p comes.sent comes.to_node c.work refl)
      turn_held t Ticks' = tick_held c.work refl

      draws : (t : ClientTurn m) → ClientInput m (config m w) n t → TurnDraws' m c t
      draws t (Commanded x) = command_draws m c x
      draws t (Hears' p comes) = deliver_draws m c p.from p.rid p.msg
      draws t Ticks' = tick_draws m c

      now_since : (t : ClientTurn m) (d : TurnDraws' m c t) (o : Out) → Has (reserved m t.now) o → s.next ≤ o.rid
      now_since t d o i = by (d.is.either o (has_right t.sends (reserved m t.now) o i))
        where
          by : Has (reserved m c) o ⊎ Has d.is.new o → s.next ≤ o.rid
          by (inl j) = kept.since o j
          by (inr j) = let a = d.is.is_new.from o j in let b = kept.next in omega (arith, a, b)

      now_kept : (t : ClientTurn m) → ClientInput m (config m w) n t → Kept s n t.now
      now_kept t i = record {
        next = let a = kept.next in let b = (draws t i).is.up in omega (arith, a, b);
        since = now_since t (draws t i);
        held = turn_held t i;
      }

  -- The start.

  new_kept : (k j : ℕ) → Kept (record { next = 1; epoch = 1; upto = 0 }) k (new_client m h j)
  unfolding new_client
  new_kept k j = record { next = omega arith; since = λ o i. absurd i; held = tt }

  begins : (s : CommandStart) (k : ℕ) (c : Client m) → c.work ≡ None → Kept s k c → Kept (starts_at m c) k c
  begins s k c idle kept = record {
    next = omega arith;
    since = λ o i. absurd (subst (λ (z : Option (Work m)). Has (work_reserved m c.stand z) o) idle i);
    held = subst (WorkHeld m (Got k) (AskSent k) c.next) (sym idle) tt;
  }

  pub end_state : State (after m h ms)
  end_state = (run_end m h ms Kept (λ ts. Unit {0}) tt (λ ts us a b. tt) new_kept begins (λ xs e ys split n s kept t i f told now. (now_kept xs (Takes e ∷ ys) split n s kept t i, tt))).clients
