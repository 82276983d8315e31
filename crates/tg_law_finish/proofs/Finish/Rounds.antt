-- A settling of a world in which one client waits: its requests are on their way, or the first round of ticks sends
-- them again.
use Rattle.std.proofs.Common.{◌≡◌, ◌⊎◌, ℕ, zero, suc, ◌+◌, ◌≤◌, List, [], ◌∷◌, ◌++◌, length, map, Bool, true, false, refl, ap, ◌∙◌, sym, subst, inl, inr, arith, Some, None, eqb}
use Rattle.std.specs.Prelude.{slice_set, ⊤}
use Rattle.tg_base.specs.Layouts.{Layout}
use Rattle.tg_base.specs.Clusters.{Header}
use Rattle.tg_base.specs.declared.ids.NodeId.{NodeId}
use Rattle.tg_base.specs.declared.ids.Role.{Role}
use Rattle.tg_base.specs.declared.ids.Role.TheVariants as role
use Rattle.tg_base.specs.declared.msg.Msg.{Msg}
use Rattle.tg_base.specs.declared.msg.Msg.TheVariants as msg
use Rattle.tg_base.specs.declared.packet.Out.{Out}
use Rattle.tg_base.specs.declared.packet.Packet.{Packet}
use Rattle.tg_kind.specs.Meaning.{Meaning}
use Rattle.tg_base.specs.Orders.{node_eq}
use Rattle.tg_protocol.specs.Words.{layout_id, client_id, numbers}
use Rattle.tg_protocol.specs.Requests.{waits_for}
use Rattle.tg_protocol.specs.Clients.{Client, Work}
use Rattle.tg_protocol.specs.ClientSteps.{client_tick, tick_by, called, ClientTurn, hand_again_asks, asks_latest}
use Rattle.tg_protocol.specs.Worlds.{packet_of, World, nodes, settle}
use Rattle.tg_law_finish.specs.Finish.Alone.{awaited, own_requests}
use Rattle.tg_law_finish.specs.Finish.Queues.{Queue}
use Rattle.tg_law_finish.proofs.Finish.Counted.{Finishes}
use Rattle.tg_law_finish.proofs.Finish.Nets.{Net, net, net_ticked, sent_ticked, on_in, client_alike, client_of}
use Rattle.tg_law_finish.proofs.Finish.Lists.{Each, each_both}
use Rattle.tg_law_finish.proofs.Finish.Others.{Stray, AsksLatest, weigh, weigh_both, Ready, Passes, from_weighs, other_ticks, client_turns, idle_ticks, nothing_sent, keeps_same}
use Rattle.tg_law_finish.proofs.Finish.Settles.{Facts, no_facts, Drained, Rounding, settles, settles_from}
use Rattle.tg_law_finish.proofs.Finish.Lines.{Item, asks, TalkOf, Talk, Over, Busy, Idle, Inv, line_more, line_behind, line_strays, line_asks, weigh_asks, idle_passes, stage_passes, any_step, is_idle}

code_client : (r : Role) (n k : ℕ) → node_eq (record { role = r; num = n }) (client_id k) ≡ true → record { role = r; num = n } ≡ client_id k
unfolding node_eq
code_client role.Unit n k e = absurd cc
code_client role.Layout n k e = absurd cc
code_client role.Seqr n k e = absurd cc
code_client role.Client n k e = ap client_id (same n k e)
  where
    same : (n k : ℕ) → eqb n k ≡ true → n ≡ k
    same n k e = grind arith

itself : (k : ℕ) → node_eq (client_id k) (client_id k) ≡ true
unfolding node_eq
itself k = grind arith

head_is : (x y : NodeId) (xs ys : List NodeId) → x ∷ xs ≡ y ∷ ys → x ≡ y
head_is x y xs ys e = cc

tail_is : (x y : NodeId) (xs ys : List NodeId) → x ∷ xs ≡ y ∷ ys → xs ≡ ys
tail_is x y xs ys e = cc

is_itself : (x : NodeId) (k : ℕ) → x ≡ client_id k → node_eq x (client_id k) ≡ true
is_itself x k e = subst (λ y. node_eq y (client_id k) ≡ true) (sym e) (itself k)

never_both : (b : Bool) → b ≡ true → b ≡ false → ⊥
never_both b e f = grind arith

long_numbers : (n a : ℕ) → length (numbers n a) ≡ n
long_numbers zero a = refl
long_numbers (suc n) a = ap suc (long_numbers n (a + 1))

module _ (m : Meaning) (h : Header) (stopped : List NodeId) (k : ℕ) (p : Layout) where
  abbrev pub NotIt : NodeId → Type 0
  NotIt x = node_eq x (client_id k) ≡ false

  latest_asks : (ns : List ℕ) (rid : ℕ) → Each (Stray m h stopped k p) (map (packet_of m (client_id k)) (asks_latest m (waits_for ns rid))) × (weigh m h stopped k p (map (packet_of m (client_id k)) (asks_latest m (waits_for ns rid))) ≡ length ns + length ns)
  unfolding weigh
  latest_asks [] rid = (tt, refl)
  latest_asks (l ∷ ns) rid =
      let rest = latest_asks ns (rid + 1) in
      let e = rest.1 in
      let w = (from_weighs m h stopped k p (record { to = layout_id l; rid = rid; msg = msg.AskLatest })).0 in
      ((AsksLatest l rid, rest.0), omega (arith, e, w))

  module _ (Stage : Net m → Client m → List Item → ℕ → Type 0) where
    pub record After (xs : List NodeId) (s : Net m) (q : List Packet) (n : ℕ) : Type 0 where
      pub rest : Each NotIt xs
      pub busy : Busy m h stopped k p Stage s q n

    pub record Waiting (xs : List NodeId) (s : Net m) (q : List Packet) (n : ℕ) : Type 0 where
      pub ready : Ready m h stopped k p s
      pub os : List Out
      pub left : ℕ
      pub stage : Stage s (client_of m h s k) (asks os) left
      pub strays : Each (Stray m h stopped k p) q
      pub layouts : ℕ
      pub same : (client_of m h s k).layouts ≡ layouts
      pub few : weigh m h stopped k p q + (((length os + length os) + (layouts + layouts)) + (left + left)) ≤ n
      pub front : List NodeId
      pub back : List NodeId
      pub is : xs ≡ front ++ client_id k ∷ back
      pub not_front : Each NotIt front
      pub not_back : Each NotIt back

    abbrev pub Pre : List NodeId → Net m → List Packet → ℕ → Type 0
    Pre xs s q n = Idle m h stopped k p Stage s q n ⊎ (After xs s q n ⊎ Waiting xs s q n)

    module _ (Fair : Net m → Msg → Type 0) (talk : TalkOf m h stopped k p Stage Fair (Over m h stopped k p)) where
      idle_other : (s t : Net m) (q sent : List Packet) (n : ℕ) → Passes m h stopped k p s t sent 0 0 → Idle m h stopped k p Stage s q n → Idle m h stopped k p Stage t (q ++ sent) n
      idle_other s t q sent n pass i =
          let both = weigh_both m h stopped k p q sent in
          let w = pass.weighs in
          let few = i.few in
          record { ready = pass.ready; none = idle_passes m h stopped k p Stage s t sent 0 0 pass i.none; strays = each_both (Stray m h stopped k p) q sent i.strays pass.strays; few = omega (arith, both, w, few) }

      busy_other : (s t : Net m) (q sent : List Packet) (n : ℕ) → Passes m h stopped k p s t sent 0 0 → Busy m h stopped k p Stage s q n → Busy m h stopped k p Stage t (q ++ sent) n
      busy_other s t q sent n pass b =
          let both = weigh_both m h stopped k p q sent in
          let w = pass.weighs in
          let few = b.few in
          record {
            ready = pass.ready;
            items = b.items;
            left = b.left;
            line = line_behind m h stopped k p q sent b.items b.line pass.strays;
            stage = stage_passes m h stopped k p Stage Fair talk s t sent b.items 0 0 b.left pass b.stage;
            few = omega (arith, both, w, few);
          }

      layouts_pass : (s t : Net m) (sent : List Packet) → Passes m h stopped k p s t sent 0 0 → (client_of m h t k).layouts ≡ (client_of m h s k).layouts
      layouts_pass s t sent pass = by pass.client
        where
          by : (client_of m h t k ≡ client_of m h s k) ⊎ (client_of m h t k ≡ called m (client_of m h s k)) → (client_of m h t k).layouts ≡ (client_of m h s k).layouts
          by (inl e) = ap (λ (c : Client m). c.layouts) e
          by (inr e) = ap (λ (c : Client m). c.layouts) e

      waits_other : (s t : Net m) (q sent : List Packet) (n : ℕ) (x : NodeId) (xs : List NodeId) (w : Waiting (x ∷ xs) s q n) (fs : List NodeId) → w.front ≡ fs → NotIt x → Passes m h stopped k p s t sent 0 0 → Waiting xs t (q ++ sent) n
      waits_other s t q sent n x xs w [] e off pass = absurd (never_both (node_eq x (client_id k)) (is_itself x k (head_is x (client_id k) xs w.back (subst (λ fs. x ∷ xs ≡ fs ++ client_id k ∷ w.back) e w.is))) off)
      waits_other s t q sent n x xs w (y ∷ fs) e off pass =
          let both = weigh_both m h stopped k p q sent in
          let light = pass.weighs in
          let few = w.few in
          record {
            ready = pass.ready;
            os = w.os;
            left = w.left;
            stage = stage_passes m h stopped k p Stage Fair talk s t sent (asks w.os) 0 0 w.left pass w.stage;
            strays = each_both (Stray m h stopped k p) q sent w.strays pass.strays;
            layouts = w.layouts;
            same = layouts_pass s t sent pass ∙ w.same;
            few = omega (arith, both, light, few);
            front = fs;
            back = w.back;
            is = tail_is x y xs (fs ++ client_id k ∷ w.back) (subst (λ gs. x ∷ xs ≡ gs ++ client_id k ∷ w.back) e w.is);
            not_front = (subst (λ gs. Each NotIt gs) e w.not_front).1;
            not_back = w.not_back;
          }

      tick_is : (c : Client m) (work : Work m) (os : List Out) → c.work ≡ Some work → hand_again_asks m c.stand work.hand ≡ os
          → client_tick m c ≡ record { now = called m (record c { next = c.next + c.layouts }); sends = os ++ asks_latest m (waits_for (numbers c.layouts 0) c.next); notes = [] }
      unfolding client_tick
      tick_is c work os e f = ap (λ x. tick_by m c x) e ∙ ap (λ os. record { now = called m (record c { next = c.next + c.layouts }); sends = os ++ asks_latest m (waits_for (numbers c.layouts 0) c.next); notes = [] }) f

      mapped : (xs ys : List Out) → map (packet_of m (client_id k)) (xs ++ ys) ≡ map (packet_of m (client_id k)) xs ++ map (packet_of m (client_id k)) ys
      mapped [] ys = refl
      mapped (x ∷ xs) ys = ap (λ l. packet_of m (client_id k) x ∷ l) (mapped xs ys)

      -- the client itself ticks
      self_waits : (s : Net m) (q : List Packet) (n : ℕ) (xs : List NodeId) (w : Waiting (client_id k ∷ xs) s q n) → Each NotIt xs → After xs (net_ticked m h s k role.Client) (q ++ sent_ticked m h s k role.Client) n
      self_waits s q n xs w rest =
          let c = client_of m h s k in
          let f = talk.again s c (asks w.os) w.os w.left w.stage refl in
          let now = called m (record c { next = c.next + c.layouts }) in
          let latest = asks_latest m (waits_for (numbers c.layouts 0) c.next) in
          let news = map (packet_of m (client_id k)) w.os in
          let others = map (packet_of m (client_id k)) latest in
          let about = latest_asks (numbers c.layouts 0) c.next in
          let t = client_turns m h stopped k p s now w.ready in
          let both = weigh_both m h stopped k p q (news ++ others) in
          let two = weigh_both m h stopped k p news others in
          let heavy = weigh_asks m h stopped k p w.os in
          let light = about.1 ∙ ap (λ i. i + i) (long_numbers c.layouts 0 ∙ w.same) in
          let few = w.few in
          subst (λ (t : ClientTurn m). After xs (record s { clients = slice_set s.clients k t.now }) (q ++ map (packet_of m (client_id k)) t.sends) n) (sym (tick_is c f.work w.os f.waits f.again))
          (subst (λ (r : List Packet). After xs (record s { clients = slice_set s.clients k now }) (q ++ r) n) (sym (mapped w.os latest)) (record {
            rest = rest;
            busy = record {
              ready = t.1;
              items = asks w.os;
              left = w.left;
              line = line_more m h stopped k p q (news ++ others) [] (asks w.os) (line_strays m h stopped k p q w.strays) (line_behind m h stopped k p news others (asks w.os) (line_asks m h stopped k p w.os) about.0);
              stage = subst (λ (d : Client m). Stage (record s { clients = slice_set s.clients k now }) d (asks w.os) w.left) (sym t.0)
                  (talk.stays s (record s { clients = slice_set s.clients k now }) now (asks w.os) w.left (record { units = λ u e. refl; epochs = λ u. refl; seqr = refl; alike = client_alike m s k now }) (talk.ticked s c (asks w.os) w.os w.left w.stage refl));
              few = omega (arith, both, two, heavy, light, few);
            };
          }))

      idle_self : (s : Net m) (q : List Packet) (n : ℕ) → Idle m h stopped k p Stage s q n → Idle m h stopped k p Stage (net_ticked m h s k role.Client) (q ++ sent_ticked m h s k role.Client) n
      idle_self s q n i = subst (λ (t : ClientTurn m). Idle m h stopped k p Stage (record s { clients = slice_set s.clients k t.now }) (q ++ map (packet_of m (client_id k)) t.sends) n) (sym (idle_ticks m h stopped k p c i.none))
          (let t = client_turns m h stopped k p s (called m c) i.ready in
          subst (λ r. Idle m h stopped k p Stage (record s { clients = slice_set s.clients k (called m c) }) r n) (whole q)
          (record { ready = t.1; none = subst (λ (d : Client m). d.work ≡ None) (sym t.0) i.none; strays = i.strays; few = i.few }))
        where
          c : Client m
          c = client_of m h s k

          whole : (q : List Packet) → q ≡ q ++ []
          whole [] = refl
          whole (x ∷ q) = ap (λ l. x ∷ l) (whole q)

      it_or_not : (x : NodeId) → (node_eq x (client_id k) ≡ true) ⊎ NotIt x
      it_or_not x = by (node_eq x (client_id k)) refl
        where
          by : (b : Bool) → node_eq x (client_id k) ≡ b → (node_eq x (client_id k) ≡ true) ⊎ NotIt x
          by true e = inl e
          by false e = inr e

      back_rest : (s : Net m) (q : List Packet) (n : ℕ) (x : NodeId) (xs : List NodeId) (w : Waiting (x ∷ xs) s q n) (fs : List NodeId) → w.front ≡ fs → x ≡ client_id k → Each NotIt xs
      back_rest s q n x xs w [] e is = subst (λ l. Each NotIt l) (sym (tail_is x (client_id k) xs w.back (subst (λ fs. x ∷ xs ≡ fs ++ client_id k ∷ w.back) e w.is))) w.not_back
      back_rest s q n x xs w (y ∷ fs) e is = absurd (never_both (node_eq x (client_id k)) (is_itself x k is) (subst (λ z. NotIt z) (sym (head_is x y xs (fs ++ client_id k ∷ w.back) (subst (λ gs. x ∷ xs ≡ gs ++ client_id k ∷ w.back) e w.is))) (subst (λ gs. Each NotIt gs) e w.not_front).0))

      one_self : (xs : List NodeId) (s : Net m) (q : List Packet) (n : ℕ) → Pre (client_id k ∷ xs) s q n → Pre xs (net_ticked m h s k role.Client) (q ++ sent_ticked m h s k role.Client) n
      one_self xs s q n (inl i) = inl (idle_self s q n i)
      one_self xs s q n (inr (inl a)) = absurd (never_both (node_eq (client_id k) (client_id k)) (itself k) a.rest.0)
      one_self xs s q n (inr (inr w)) = inr (inl (self_waits s q n xs w (back_rest s q n (client_id k) xs w w.front refl refl)))

      one_other : (x : NodeId) (xs : List NodeId) (s t : Net m) (q sent : List Packet) (n : ℕ) → NotIt x → Pre (x ∷ xs) s q n → (Ready m h stopped k p s → Passes m h stopped k p s t sent 0 0) → Pre xs t (q ++ sent) n
      one_other x xs s t q sent n off (inl i) pass = inl (idle_other s t q sent n (pass i.ready) i)
      one_other x xs s t q sent n off (inr (inl a)) pass = inr (inl (record { rest = a.rest.1; busy = busy_other s t q sent n (pass a.busy.ready) a.busy }))
      one_other x xs s t q sent n off (inr (inr w)) pass = inr (inr (waits_other s t q sent n x xs w w.front refl off (pass w.ready)))

      one_ticks : (x : NodeId) (xs : List NodeId) (s : Net m) (q : List Packet) (n : ℕ) → Pre (x ∷ xs) s q n → on_in m stopped s x ≡ true → Pre xs (net_ticked m h s x.num x.role) (q ++ sent_ticked m h s x.num x.role) n
      one_ticks x xs s q n pre on = by (it_or_not x)
        where
          by : (node_eq x (client_id k) ≡ true) ⊎ NotIt x → Pre xs (net_ticked m h s x.num x.role) (q ++ sent_ticked m h s x.num x.role) n
          by (inl e) = let is = code_client x.role x.num k e in
              subst (λ (y : NodeId). Pre xs (net_ticked m h s y.num y.role) (q ++ sent_ticked m h s y.num y.role) n) (sym is) (one_self xs s q n (subst (λ (y : NodeId). Pre (y ∷ xs) s q n) is pre))
          by (inr off) = one_other x xs s _ q _ n off pre (λ r. other_ticks m h stopped k p s x.num x.role r off on)

      -- a node that has stopped doesn't tick
      off_ticks : (x : NodeId) (xs : List NodeId) (s : Net m) (q : List Packet) (n : ℕ) → Pre (x ∷ xs) s q n → on_in m stopped s x ≡ false → Pre xs s q n
      off_ticks x xs s q n (inl i) off = inl i
      off_ticks x xs s q n (inr (inl a)) off = inr (inl (record { rest = a.rest.1; busy = a.busy }))
      off_ticks x xs s q n (inr (inr w)) off = inr (inr (by (it_or_not x)))
        where
          whole : (q : List Packet) → q ++ [] ≡ q
          whole [] = refl
          whole (x ∷ q) = ap (λ l. x ∷ l) (whole q)

          by : (node_eq x (client_id k) ≡ true) ⊎ NotIt x → Waiting xs s q n
          by (inl e) = absurd (never_both (on_in m stopped s x) (subst (λ (y : NodeId). on_in m stopped s y ≡ true) (sym (code_client x.role x.num k e)) w.ready.on) off)
          by (inr not_it) = subst (λ r. Waiting xs s r n) (whole q) (waits_other s s q [] n x xs w w.front refl not_it (nothing_sent m h stopped k p s s w.ready (keeps_same m h stopped k p s) refl))

      no_middle : (fs : List NodeId) (y : NodeId) (ys : List NodeId) → [] ≡ fs ++ y ∷ ys → ⊥
      no_middle [] y ys e = absurd cc
      no_middle (f ∷ fs) y ys e = absurd cc

      all_ticked : (s : Net m) (q : List Packet) (n : ℕ) → Pre [] s q n → Inv m h stopped k p Stage s q n
      all_ticked s q n (inl i) = inl i
      all_ticked s q n (inr (inl a)) = inr a.busy
      all_ticked s q n (inr (inr w)) = absurd (no_middle w.front (client_id k) w.back w.is)

      rounding : Rounding m k h stopped (Inv m h stopped k p Stage) Pre Fair
      rounding = record {
        keeps = λ s x q n fair i. any_step m h stopped k p Stage Fair talk s x q n fair i;
        ticking = record { one = one_ticks; other = off_ticks; all = all_ticked };
        again = λ w n i. inl (is_idle m h stopped k p Stage Fair talk (net m w) n i);
      }

      -- the client has its answer
      has_answer : (w v : World m) (n : ℕ) → Drained m k h stopped (Inv m h stopped k p Stage) w v n → Finishes m k n w v
      has_answer w v n d =
          let i = is_idle m h stopped k p Stage Fair talk (net m v) d.left d.holds.inv in
          let few = d.spent.few in
          record { done = d.spent.done; since = d.spent.since; few = omega (arith, few); answered = subst (λ (x : Header). (client_of m x (net m v) k).work ≡ None) (sym d.holds.cluster) i.none }

      -- Its requests are on their way, and nothing else: the first drain ends its command.

      own_are : (w : World m) (n : ℕ) → w.cluster ≡ h → (x : Waiting (nodes m w) (net m w) [] n) → own_requests m w k ≡ map (packet_of m (client_id k)) x.os
      own_are w n cluster x =
          let c = client_of m h (net m w) k in
          let f = talk.again (net m w) c (asks x.os) x.os x.left x.stage refl in
          ap (λ (os : List Out). map (packet_of m (client_id k)) os)
          (subst (λ (y : Header). awaited m (client_of m y (net m w) k) (client_of m y (net m w) k).work ≡ x.os) (sym cluster) (ap (λ o. awaited m c o) f.waits ∙ f.again))

      sent_once : (w : World m) (n : ℕ) (x : Waiting (nodes m w) (net m w) [] n) → Busy m h stopped k p Stage (net m w) (map (packet_of m (client_id k)) x.os) n
      sent_once w n x =
          let heavy = weigh_asks m h stopped k p x.os in
          let few = x.few in
          record { ready = x.ready; items = asks x.os; left = x.left; line = line_asks m h stopped k p x.os; stage = x.stage; few = omega (arith, heavy, few) }

      -- nothing is on its way, or its requests alone
      pub finishes_of : (Fact : World m → Type 0) → Facts m Fact Fair → (w : World m) (n : ℕ) → Fact w → (w.waiting ≡ []) ⊎ Queue m w (own_requests m w k) → w.cluster ≡ h → w.stopped ≡ stopped → Waiting (nodes m w) (net m w) [] n → (settle m w).stopped ≡ None
          → Finishes m k n w (settle m w).world
      finishes_of Fact facts w n fact (inl quiet) cluster stops waits none = has_answer w (settle m w).world n
          (settles m k h stopped (Inv m h stopped k p Stage) Pre Fact Fair facts rounding w n quiet fact (inr (inr waits)) cluster stops none).0
      finishes_of Fact facts w n fact (inr sent) cluster stops waits none = has_answer w (settle m w).world n
          (settles_from m k h stopped (Inv m h stopped k p Stage) Pre Fact Fair facts rounding w n (map (packet_of m (client_id k)) waits.os) fact
          (record { queue = subst (λ q. Queue m w q) (own_are w n cluster waits) sent; inv = inr (sent_once w n waits); cluster = cluster; stops = stops }) none).0

    module _ (talk : Talk m h stopped k p Stage (Over m h stopped k p)) where
      pub finishes_from : (w : World m) (n : ℕ) → (w.waiting ≡ []) ⊎ Queue m w (own_requests m w k) → w.cluster ≡ h → w.stopped ≡ stopped → Waiting (nodes m w) (net m w) [] n → (settle m w).stopped ≡ None
          → Finishes m k n w (settle m w).world
      finishes_from w n on_way cluster stops waits none = finishes_of (λ s x. ⊤) talk (λ v. ⊤) (no_facts m) w n tt on_way cluster stops waits none

      pub finishes : (w : World m) (n : ℕ) → w.waiting ≡ [] → w.cluster ≡ h → w.stopped ≡ stopped → Waiting (nodes m w) (net m w) [] n → (settle m w).stopped ≡ None → Finishes m k n w (settle m w).world
      finishes w n quiet cluster stops waits none = finishes_from w n (inl quiet) cluster stops waits none
