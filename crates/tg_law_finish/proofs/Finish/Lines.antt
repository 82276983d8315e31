-- A client that waits with one request or several: each, or the answer to it, is on its way, in the order in which it was sent.
use Rattle.std.proofs.Common.{◌≡◌, ◌⊎◌, ℕ, ◌+◌, ◌≤◌, List, [], ◌∷◌, ◌++◌, length, map, true, false, refl, ap, ◌∙◌, sym, subst, inl, inr, arith, Some, None, Option}
use Rattle.std.specs.Prelude.{slice_set, ⊤}
use Rattle.tg_base.specs.Layouts.{Layout}
use Rattle.tg_base.specs.Clusters.{Header}
use Rattle.tg_base.specs.declared.ids.NodeId.{NodeId}
use Rattle.tg_base.specs.declared.msg.Msg.{Msg}
use Rattle.tg_base.specs.declared.msg.Msg.TheVariants as msg
use Rattle.tg_base.specs.declared.packet.Out.{Out}
use Rattle.tg_base.specs.declared.packet.Packet.{Packet}
use Rattle.tg_kind.specs.Meaning.{Meaning}
use Rattle.tg_base.specs.Orders.{node_eq}
use Rattle.tg_protocol.specs.Words.{layout_id, client_id}
use Rattle.tg_protocol.specs.Clients.{Client, Work}
use Rattle.tg_protocol.specs.Replies.{Reply, reply}
use Rattle.tg_protocol.specs.Requests.{drawn_from}
use Rattle.tg_protocol.specs.Answers.{moved}
use Rattle.tg_protocol.specs.ClientSteps.{feed, given, work_asks, client_asks, client_deliver, called, ClientTurn, hand_again_asks}
use Rattle.tg_protocol.specs.Worlds.{packet_of}
use Rattle.tg_law_finish.proofs.Finish.Counted.{cost}
use Rattle.tg_law_finish.proofs.Finish.Nets.{Net, net_if, sent_if, net_after, sent_then, on_in, client_alike, client_of}
use Rattle.tg_law_finish.proofs.Finish.Lists.{Each, each_both}
use Rattle.tg_law_finish.proofs.Finish.Others.{Stray, weight, weigh, weigh_both, Ready, Keeps, Calm, Passes, from_weighs, to_weighs, stray_passes, client_turns}
use Rattle.tg_law_finish.proofs.Finish.Settles.{Step}

-- a request that is on its way, or an answer
pub data Item : Type 0 where
  Ask : (o : Out) → Item
  Tell : (from : NodeId) → (rid : ℕ) → (says : Msg) → Item

abbrev pub asks : List Out → List Item
asks os = map (λ o. Ask o) os

module _ (m : Meaning) where
  idle_feed : (c : Client m) (o : Option (Work m)) (from : NodeId) (rid : ℕ) (x : Reply) → o ≡ None → feed m c o from rid x ≡ moved m c []
  idle_feed c None from rid x e = refl
  idle_feed c (Some w) from rid x e = absurd cc

  idle_asks : (c : Client m) → c.work ≡ None → client_asks m c ≡ []
  unfolding client_asks
  idle_asks c e = ap (λ w. work_asks m c.stand w) e

  -- a client that waits for nothing
  pub idle_deliver : (c : Client m) (from : NodeId) (rid : ℕ) (x : Msg) → c.work ≡ None → client_deliver m c from rid x ≡ record { now = called m c; sends = []; notes = [] }
  unfolding client_deliver
  idle_deliver c from rid x e = ap (λ y. given m c y) (idle_feed c c.work from rid (reply x) e) ∙ ap (λ os. record { now = called m c; sends = drawn_from c.next os; notes = [] }) (idle_asks c e)

module _ (m : Meaning) (h : Header) (stopped : List NodeId) (k : ℕ) (p : Layout) where
  abbrev pub answer_packet : NodeId → ℕ → Msg → Packet
  answer_packet x rid y = record { from = x; to = client_id k; rid = rid; msg = y }

  -- these items are on their way, and strays between them
  pub data Line : List Packet → List Item → Type 0 where
    Nothing : Line [] []
    Passing : (x : Packet) (q : List Packet) (is : List Item) → Stray m h stopped k p x → Line q is → Line (x ∷ q) is
    Asking : (o : Out) (q : List Packet) (is : List Item) → Line q is → Line (packet_of m (client_id k) o ∷ q) (Ask o ∷ is)
    Telling : (x : NodeId) (rid : ℕ) (y : Msg) (q : List Packet) (is : List Item) → node_eq x (client_id k) ≡ false → Line q is → Line (answer_packet x rid y ∷ q) (Tell x rid y ∷ is)

  first_same : (x y : Packet) (xs ys : List Packet) → x ∷ xs ≡ y ∷ ys → x ≡ y
  first_same x y xs ys e = cc

  rest_same : (x y : Packet) (xs ys : List Packet) → x ∷ xs ≡ y ∷ ys → xs ≡ ys
  rest_same x y xs ys e = cc

  pub line_more : (q r : List Packet) (is js : List Item) → Line q is → Line r js → Line (q ++ r) (is ++ js)
  line_more q r is js Nothing l = l
  line_more q r is js (Passing x p i s a) l = Passing x (p ++ r) (i ++ js) s (line_more p r i js a l)
  line_more q r is js (Asking o p i a) l = Asking o (p ++ r) (i ++ js) (line_more p r i js a l)
  line_more q r is js (Telling x rid y p i far a) l = Telling x rid y (p ++ r) (i ++ js) far (line_more p r i js a l)

  pub line_strays : (q : List Packet) → Each (Stray m h stopped k p) q → Line q []
  line_strays [] a = Nothing
  line_strays (x ∷ q) a = Passing x q [] a.0 (line_strays q a.1)

  pub line_behind : (q r : List Packet) (is : List Item) → Line q is → Each (Stray m h stopped k p) r → Line (q ++ r) is
  line_behind q r is Nothing a = line_strays r a
  line_behind q r is (Passing x p i s l) a = Passing x (p ++ r) i s (line_behind p r i l a)
  line_behind q r is (Asking o p i l) a = Asking o (p ++ r) i (line_behind p r i l a)
  line_behind q r is (Telling x rid y p i far l) a = Telling x rid y (p ++ r) i far (line_behind p r i l a)

  pub line_asks : (os : List Out) → Line (map (packet_of m (client_id k)) os) (asks os)
  line_asks [] = Nothing
  line_asks (o ∷ os) = Asking o (map (packet_of m (client_id k)) os) (asks os) (line_asks os)

  -- without items all are strays
  all_strays : (q : List Packet) (is : List Item) → Line q is → is ≡ [] → Each (Stray m h stopped k p) q
  all_strays q is Nothing e = tt
  all_strays q is (Passing x r i s l) e = (s, all_strays r i l e)
  all_strays q is (Asking o r i l) e = absurd cc
  all_strays q is (Telling x rid y r i far l) e = absurd cc

  none_left : (q : List Packet) (is : List Item) → Line q is → q ≡ [] → is ≡ []
  none_left q is Nothing e = refl
  none_left q is (Passing x r i s l) e = absurd cc
  none_left q is (Asking o r i l) e = absurd cc
  none_left q is (Telling x rid y r i far l) e = absurd cc

  pub weigh_asks : (os : List Out) → weigh m h stopped k p (map (packet_of m (client_id k)) os) ≡ length os + length os
  unfolding weigh
  weigh_asks [] = refl
  weigh_asks (o ∷ os) = let e = weigh_asks os in let w = (from_weighs m h stopped k p o).0 in omega (arith, e, w)

  -- what a client is that waits
  pub record Busied (c : Client m) : Type 0 where
    pub work : Work m
    pub waits : c.work ≡ Some work
    pub calm : Calm m h stopped k p c

  -- a tick sends these again
  pub record Again (c : Client m) (os : List Out) : Type 0 where
    pub work : Work m
    pub waits : c.work ≡ Some work
    pub again : hand_again_asks m c.stand work.hand ≡ os

  -- the command has ended
  pub record IsOver (t : ClientTurn m) : Type 0 where
    pub none : t.now.work ≡ None
    pub sends : t.sends ≡ []

  abbrev pub Over : Net m → Client m → ClientTurn m → ℕ → Type 0
  Over s c t n = IsOver t

  -- A piece of work: where it stands with these items on their way, and how many requests it may send after them.
  module _ (Stage : Net m → Client m → List Item → ℕ → Type 0) where
    -- a request has come to its node, which answers
    pub record Told (s : Net m) (o : Out) (is : List Item) (n : ℕ) : Type 0 where
      pub running : on_in m stopped s o.to ≡ true
      pub from : NodeId
      pub rid : ℕ
      pub says : Msg
      pub sent : sent_then m h s (packet_of m (client_id k) o) o.to.role ≡ answer_packet from rid says ∷ []
      pub no_client : node_eq from (client_id k) ≡ false
      pub ready : Ready m h stopped k p (net_after m h s (packet_of m (client_id k) o) o.to.role)
      pub client : client_of m h (net_after m h s (packet_of m (client_id k) o) o.to.role) k ≡ client_of m h s k
      pub stage : Stage (net_after m h s (packet_of m (client_id k) o) o.to.role) (client_of m h s k) (is ++ Tell from rid says ∷ []) n

    -- an answer has come, and the work goes on with new requests, or with none where others are on their way
    pub record Goes (s : Net m) (t : ClientTurn m) (is : List Item) (n : ℕ) : Type 0 where
      pub os : List Out
      pub left : ℕ
      pub sends : t.sends ≡ os
      pub stage : Stage s t.now (is ++ asks os) left
      pub less : left + length os ≤ n

    -- Or it has come to its exit, and nothing is on its way. Of what its nodes are asked it may be known that it is fair.
    pub record TalkOf (Fair : Net m → Msg → Type 0) (Exit : Net m → Client m → ClientTurn m → ℕ → Type 0) : Type 0 where
      pub facts : (s : Net m) (c : Client m) (is : List Item) (n : ℕ) → Stage s c is n → Busied c
      pub some : (s : Net m) (c : Client m) (is : List Item) (n : ℕ) → Stage s c is n → is ≡ [] → ⊥
      pub stays : (s t : Net m) (c : Client m) (is : List Item) (n : ℕ) → Keeps m h stopped k p s t → Stage s c is n → Stage t c is n
      pub calls : (s : Net m) (c : Client m) (is : List Item) (n : ℕ) → Stage s c is n → Stage s (called m c) is n
      pub again : (s : Net m) (c : Client m) (is : List Item) (os : List Out) (n : ℕ) → Stage s c is n → is ≡ asks os → Again c os
      pub ticked : (s : Net m) (c : Client m) (is : List Item) (os : List Out) (n : ℕ) → Stage s c is n → is ≡ asks os → Stage s (called m (record c { next = c.next + c.layouts })) is n
      pub asked : (s : Net m) (o : Out) (is : List Item) (n : ℕ) → Fair s o.msg → Ready m h stopped k p s → Stage s (client_of m h s k) (Ask o ∷ is) n → Told s o is n
      pub answered : (s : Net m) (x : NodeId) (rid : ℕ) (y : Msg) (is : List Item) (n : ℕ) → Ready m h stopped k p s → Stage s (client_of m h s k) (Tell x rid y ∷ is) n
          → (Exit s (client_of m h s k) (client_deliver m (client_of m h s k) x rid y) n × (is ≡ [])) ⊎ Goes s (client_deliver m (client_of m h s k) x rid y) is n

    -- whatever they are asked
    abbrev pub Talk : (Net m → Client m → ClientTurn m → ℕ → Type 0) → Type 0
    Talk Exit = TalkOf (λ s x. ⊤) Exit

    pub record Busy (s : Net m) (q : List Packet) (n : ℕ) : Type 0 where
      pub ready : Ready m h stopped k p s
      pub items : List Item
      pub left : ℕ
      pub line : Line q items
      pub stage : Stage s (client_of m h s k) items left
      pub few : weigh m h stopped k p q + (left + left) ≤ n

    pub record Idle (s : Net m) (q : List Packet) (n : ℕ) : Type 0 where
      pub ready : Ready m h stopped k p s
      pub none : (client_of m h s k).work ≡ None
      pub strays : Each (Stray m h stopped k p) q
      pub few : weigh m h stopped k p q ≤ n

    abbrev pub Inv : Net m → List Packet → ℕ → Type 0
    Inv s q n = Idle s q n ⊎ Busy s q n

    pub idle_passes : (s t : Net m) (sent : List Packet) (a b : ℕ) → Passes m h stopped k p s t sent a b → (client_of m h s k).work ≡ None → (client_of m h t k).work ≡ None
    idle_passes s t sent a b pass e = by pass.client
      where
        by : (client_of m h t k ≡ client_of m h s k) ⊎ (client_of m h t k ≡ called m (client_of m h s k)) → (client_of m h t k).work ≡ None
        by (inl f) = subst (λ (c : Client m). c.work ≡ None) (sym f) e
        by (inr f) = subst (λ (c : Client m). c.work ≡ None) (sym f) e

    module _ (Fair : Net m → Msg → Type 0) (talk : TalkOf Fair Over) where
      pub stage_passes : (s t : Net m) (sent : List Packet) (is : List Item) (a b left : ℕ) → Passes m h stopped k p s t sent a b → Stage s (client_of m h s k) is left → Stage t (client_of m h t k) is left
      stage_passes s t sent is a b left pass stage = by pass.client
        where
          by : (client_of m h t k ≡ client_of m h s k) ⊎ (client_of m h t k ≡ called m (client_of m h s k)) → Stage t (client_of m h t k) is left
          by (inl e) = subst (λ (c : Client m). Stage t c is left) (sym e) (talk.stays s t (client_of m h s k) is left pass.keeps stage)
          by (inr e) = subst (λ (c : Client m). Stage t c is left) (sym e) (talk.stays s t (called m (client_of m h s k)) is left pass.keeps (talk.calls s (client_of m h s k) is left stage))

      abbrev Next : Net m → List Packet → Packet → ℕ → Type 0
      Next s q x n = Step m k h stopped Inv s q x n

      -- a stray packet
      idle_step : (s : Net m) (x : Packet) (q : List Packet) (n : ℕ) → Idle s (x ∷ q) n → Next (net_if m (on_in m stopped s x.to) h s x) (q ++ sent_if m (on_in m stopped s x.to) h s x) x n
      unfolding weigh
      idle_step s x q n i =
          let b = on_in m stopped s x.to in
          let pass = stray_passes m h stopped k p s x b i.strays.0 i.ready (λ l rid z le. idle_deliver m (client_of m h s k) (layout_id l) rid (msg.Latest z) i.none) in
          let few = i.few in
          let both = weigh_both m h stopped k p q (sent_if m b h s x) in
          let w = pass.weighs in
          record {
            left = weigh m h stopped k p (q ++ sent_if m b h s x);
            keeps = inl (record { ready = pass.ready; none = idle_passes s _ _ _ _ pass i.none; strays = each_both (Stray m h stopped k p) q _ i.strays.1 pass.strays; few = omega arith });
            pays = omega (arith, few, both, w);
          }

      stray_step : (s : Net m) (x : Packet) (q : List Packet) (n : ℕ) (is : List Item) (left : ℕ) → Ready m h stopped k p s → Stray m h stopped k p x → Line q is
          → Stage s (client_of m h s k) is left → weigh m h stopped k p (x ∷ q) + (left + left) ≤ n → Next (net_if m (on_in m stopped s x.to) h s x) (q ++ sent_if m (on_in m stopped s x.to) h s x) x n
      unfolding weigh
      stray_step s x q n is left ready stray line stage few =
          let b = on_in m stopped s x.to in
          let pass = stray_passes m h stopped k p s x b stray ready (talk.facts s (client_of m h s k) is left stage).calm in
          let both = weigh_both m h stopped k p q (sent_if m b h s x) in
          let w = pass.weighs in
          record {
            left = weigh m h stopped k p (q ++ sent_if m b h s x) + (left + left);
            keeps = inr (record { ready = pass.ready; items = is; left = left; line = line_behind q (sent_if m b h s x) is line pass.strays; stage = stage_passes s _ _ is _ _ left pass stage; few = omega arith });
            pays = omega (arith, few, both, w);
          }

      -- a request comes to its node
      request_step : (s : Net m) (q : List Packet) (n : ℕ) (o : Out) (is : List Item) (left : ℕ) → Fair s o.msg → Ready m h stopped k p s → Line q is → Stage s (client_of m h s k) (Ask o ∷ is) left
          → weigh m h stopped k p (packet_of m (client_id k) o ∷ q) + (left + left) ≤ n
          → Next (net_if m (on_in m stopped s o.to) h s (packet_of m (client_id k) o)) (q ++ sent_if m (on_in m stopped s o.to) h s (packet_of m (client_id k) o)) (packet_of m (client_id k) o) n
      unfolding weigh
      request_step s q n o is left fair ready line stage few =
          let x = packet_of m (client_id k) o in
          let a = talk.asked s o is left fair ready stage in
          let back = answer_packet a.from a.rid a.says in
          let t = net_after m h s x o.to.role in
          let both = weigh_both m h stopped k p q (back ∷ []) in
          let out = from_weighs m h stopped k p o in
          let heavy = out.0 in
          let costs = out.1 in
          let light = (to_weighs m h stopped k p a.from a.rid a.says a.no_client).0 in
          subst (λ b. Next (net_if m b h s x) (q ++ sent_if m b h s x) x n) (sym a.running)
          (subst (λ (sent : List Packet). Next t (q ++ sent) x n) (sym a.sent) (record {
            left = weigh m h stopped k p (q ++ back ∷ []) + (left + left);
            keeps = inr (record {
              ready = a.ready;
              items = is ++ Tell a.from a.rid a.says ∷ [];
              left = left;
              line = line_more q (back ∷ []) is (Tell a.from a.rid a.says ∷ []) line (Telling a.from a.rid a.says [] [] a.no_client Nothing);
              stage = subst (λ (c : Client m). Stage t c (is ++ Tell a.from a.rid a.says ∷ []) left) (sym a.client) a.stage;
              few = omega arith;
            });
            pays = omega (arith, few, both, heavy, costs, light);
          }))

      abbrev turned_net : Net m → ClientTurn m → Net m
      turned_net s t = record s { clients = slice_set s.clients k t.now }

      keeps_client : (s : Net m) (now : Client m) → Keeps m h stopped k p s (record s { clients = slice_set s.clients k now })
      keeps_client s now = record { units = λ u e. refl; epochs = λ u. refl; seqr = refl; alike = client_alike m s k now }

      nothing_new : (q : List Packet) → q ≡ q ++ []
      nothing_new [] = refl
      nothing_new (x ∷ q) = ap (λ l. x ∷ l) (nothing_new q)

      over_step : (s : Net m) (x : Packet) (q : List Packet) (n left : ℕ) (t : ClientTurn m) → Ready m h stopped k p s → IsOver t → Each (Stray m h stopped k p) q
          → cost k (Some x) ≡ 1 → weight m h stopped k p x ≡ 1 → weigh m h stopped k p (x ∷ q) + (left + left) ≤ n → Next (turned_net s t) (q ++ map (packet_of m (client_id k)) t.sends) x n
      unfolding weigh
      over_step s x q n left t ready over others costs heavy few =
          let c = client_turns m h stopped k p s t.now ready in
          subst (λ (os : List Out). Next (turned_net s t) (q ++ map (packet_of m (client_id k)) os) x n) (sym over.sends)
          (subst (λ (r : List Packet). Next (turned_net s t) r x n) (nothing_new q) (record {
            left = weigh m h stopped k p q;
            keeps = inl (record { ready = c.1; none = subst (λ (d : Client m). d.work ≡ None) (sym c.0) over.none; strays = others; few = omega arith });
            pays = omega (arith, few, costs, heavy);
          }))

      more_step : (s : Net m) (x : Packet) (q : List Packet) (n left : ℕ) (is : List Item) (t : ClientTurn m) → Ready m h stopped k p s → Goes s t is left → Line q is
          → cost k (Some x) ≡ 1 → weight m h stopped k p x ≡ 1 → weigh m h stopped k p (x ∷ q) + (left + left) ≤ n → Next (turned_net s t) (q ++ map (packet_of m (client_id k)) t.sends) x n
      unfolding weigh
      more_step s x q n left is t ready more line costs heavy few =
          let c = client_turns m h stopped k p s t.now ready in
          let news = map (packet_of m (client_id k)) more.os in
          let both = weigh_both m h stopped k p q news in
          let out = weigh_asks more.os in
          let less = more.less in
          subst (λ (os : List Out). Next (turned_net s t) (q ++ map (packet_of m (client_id k)) os) x n) (sym more.sends) (record {
            left = weigh m h stopped k p (q ++ news) + (more.left + more.left);
            keeps = inr (record {
              ready = c.1;
              items = is ++ asks more.os;
              left = more.left;
              line = line_more q news is (asks more.os) line (line_asks more.os);
              stage = subst (λ (d : Client m). Stage (turned_net s t) d (is ++ asks more.os) more.left) (sym c.0) (talk.stays s (turned_net s t) t.now (is ++ asks more.os) more.left (keeps_client s t.now) more.stage);
              few = omega arith;
            });
            pays = omega (arith, few, costs, heavy, both, out, less);
          })

      -- the answer comes to the client
      answer_step : (s : Net m) (q : List Packet) (n : ℕ) (x : NodeId) (rid : ℕ) (y : Msg) (is : List Item) (left : ℕ) → Ready m h stopped k p s → node_eq x (client_id k) ≡ false → Line q is → Stage s (client_of m h s k) (Tell x rid y ∷ is) left
          → weigh m h stopped k p (answer_packet x rid y ∷ q) + (left + left) ≤ n
          → Next (net_if m (on_in m stopped s (client_id k)) h s (answer_packet x rid y)) (q ++ sent_if m (on_in m stopped s (client_id k)) h s (answer_packet x rid y)) (answer_packet x rid y) n
      answer_step s q n x rid y is left ready far line stage few =
          let z = answer_packet x rid y in
          let w = to_weighs m h stopped k p x rid y far in
          let t = client_deliver m (client_of m h s k) x rid y in
          subst (λ b. Next (net_if m b h s z) (q ++ sent_if m b h s z) z n) (sym ready.on) (by t (talk.answered s x rid y is left ready stage) w.0 w.1)
        where
          by : (t : ClientTurn m) → (IsOver t × (is ≡ [])) ⊎ Goes s t is left → weight m h stopped k p (answer_packet x rid y) ≡ 1 → cost k (Some (answer_packet x rid y)) ≡ 1 → Next (turned_net s t) (q ++ map (packet_of m (client_id k)) t.sends) (answer_packet x rid y) n
          by t (inl over) heavy costs = over_step s (answer_packet x rid y) q n left t ready over.0 (all_strays q is line over.1) costs heavy few
          by t (inr more) heavy costs = more_step s (answer_packet x rid y) q n left is t ready more line costs heavy few

      busy_step : (s : Net m) (q r : List Packet) (is : List Item) (n left : ℕ) → Line r is → (x : Packet) → r ≡ x ∷ q → Fair s x.msg → Ready m h stopped k p s → Stage s (client_of m h s k) is left → weigh m h stopped k p (x ∷ q) + (left + left) ≤ n
          → Next (net_if m (on_in m stopped s x.to) h s x) (q ++ sent_if m (on_in m stopped s x.to) h s x) x n
      busy_step s q r is n left Nothing x e fair ready stage few = absurd cc
      busy_step s q r is n left (Passing y z i stray l) x e fair ready stage few =
          stray_step s x q n i left ready (subst (λ (w : Packet). Stray m h stopped k p w) (first_same y x z q e) stray) (subst (λ (w : List Packet). Line w i) (rest_same y x z q e) l) stage few
      busy_step s q r is n left (Asking o z i l) x e fair ready stage few =
          subst (λ (w : Packet). weigh m h stopped k p (w ∷ q) + (left + left) ≤ n → Next (net_if m (on_in m stopped s w.to) h s w) (q ++ sent_if m (on_in m stopped s w.to) h s w) w n) (first_same (packet_of m (client_id k) o) x z q e)
          (λ enough. request_step s q n o i left (subst (λ (w : Packet). Fair s w.msg) (sym (first_same (packet_of m (client_id k) o) x z q e)) fair) ready (subst (λ (w : List Packet). Line w i) (rest_same (packet_of m (client_id k) o) x z q e) l) stage enough) few
      busy_step s q r is n left (Telling from rid y z i far l) x e fair ready stage few =
          subst (λ (w : Packet). weigh m h stopped k p (w ∷ q) + (left + left) ≤ n → Next (net_if m (on_in m stopped s w.to) h s w) (q ++ sent_if m (on_in m stopped s w.to) h s w) w n) (first_same (answer_packet from rid y) x z q e)
          (λ enough. answer_step s q n from rid y i left ready far (subst (λ (w : List Packet). Line w i) (rest_same (answer_packet from rid y) x z q e) l) stage enough) few

      pub any_step : (s : Net m) (x : Packet) (q : List Packet) (n : ℕ) → Fair s x.msg → Inv s (x ∷ q) n → Next (net_if m (on_in m stopped s x.to) h s x) (q ++ sent_if m (on_in m stopped s x.to) h s x) x n
      any_step s x q n fair (inl i) = idle_step s x q n i
      any_step s x q n fair (inr b) = busy_step s q (x ∷ q) b.items n b.left b.line x refl fair b.ready b.stage b.few

      -- with an empty queue the client waits no more
      pub is_idle : (s : Net m) (n : ℕ) → Inv s [] n → Idle s [] n
      is_idle s n (inl i) = i
      is_idle s n (inr b) = absurd (talk.some s (client_of m h s k) b.items b.left b.stage (none_left [] b.items b.line refl))
