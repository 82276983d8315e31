-- A round of ticks: such a client sends its requests again.
use Rattle.std.proofs.Common.{◌≡◌, ◌⊎◌, ℕ, suc, zero, ◌+◌, ◌*◌, ◌^◌, ◌<◌, ◌≤◌, List, [], ◌∷◌, ◌++◌, length, map, Bool, true, false, eqb, refl, ap, ◌∙◌, sym, subst, inl, inr, arith, Some, None, Option}
use Rattle.std.specs.Prelude.{nat_lt, slice_set, slice_index_or, ⊤}
use Rattle.tg_base.specs.Layouts.{Layout}
use Rattle.tg_base.specs.Clusters.{Header}
use Rattle.tg_base.specs.declared.ids.NodeId.{NodeId}
use Rattle.tg_base.specs.declared.ids.Role.{Role}
use Rattle.tg_base.specs.declared.ids.Role.TheVariants as role
use Rattle.tg_base.specs.declared.msg.Msg.{Msg}
use Rattle.tg_base.specs.declared.msg.Msg.TheVariants as msg
use Rattle.tg_base.specs.declared.packet.Out.{Out}
use Rattle.tg_base.specs.declared.packet.Packet.{Packet}
use Rattle.tg_base.specs.Orders.{node_eq}
use Rattle.tg_kind.specs.Meaning.{Meaning}
use Rattle.tg_protocol.specs.Words.{layout_id, client_id, numbers}
use Rattle.tg_protocol.specs.Layouts.{first_layout}
use Rattle.tg_protocol.specs.Requests.{Waits, out, waits_for, asked_of}
use Rattle.tg_protocol.specs.Reconfiguring.{Stage, Preparing, Accepting, Later, Voting, ReconfWork, SealingSpare, LookingSpare, Sealing, LookingAgain, Agreeing, Telling, Starting, Reconf, reconf_awaited, reconf_again_asks}
use Rattle.tg_protocol.specs.Clients.{Client, Work, new_client}
use Rattle.tg_protocol.specs.ClientSteps.{ClientTurn, called, client_tick, tick_by, hand_again_asks}
use Rattle.tg_protocol.specs.Worlds.{packet_of}
use Rattle.tg_law_layouts.proofs.Moves.Clients.{reserved}
use Rattle.tg_law_layouts.proofs.Moves.Draws.{Drawn}
use Rattle.tg_law_layouts.proofs.Moves.Members.{Has, has_left, has_right}
use Rattle.tg_law_layouts.proofs.Moves.Turns.{tick_draws}
use Rattle.tg_law_finish.proofs.Finish.Lines.{weigh_asks}
use Rattle.tg_law_finish.proofs.Finish.Lists.{Each, each_both, set_index, set_there, set_other}
use Rattle.tg_law_finish.proofs.Finish.Nets.{Net, on_in, Alike, on_alike, client_alike, seqr_of, client_of, net_ticked, sent_ticked}
use Rattle.tg_law_finish.proofs.Finish.Others.{weigh, weigh_both, idle_ticks}
use Rattle.tg_law_finish.proofs.Finish.Settles.{Ticking}
use Rattle.tg_law_layouts.proofs.Agreement.Proposers.{answered}
use Rattle.tg_law_reconfs.proofs.Votes.{contrary, tally, tally_more, tally_some, AskOk, Base, Ok, Asks, grows_same, all_grow}
use Rattle.tg_law_reconfs.proofs.Nodes.{seqr_turned, tick_low}
use Rattle.tg_law_reconfs.proofs.Waits.{unanswered_has, has_asked, asked_long, all_long, all_new}
use Rattle.tg_law_reconfs.proofs.Turns.{Enough, StageFine, stage_waits, later_waits, Begun, Heard, WorkFine, Mode, live, left_of, HeardIn}
use Rattle.tg_law_reconfs.proofs.Answering.{node_same}
use Rattle.tg_law_reconfs.proofs.Drains.{Nums, renumbered, Votes, reserves}
use Rattle.tg_law_reconfs.proofs.Steps.{nothing_new, Inv, Idle, Busy, InFlight, Turned, each_turned, votes_rise, work_heard, base_client, rises_client, clients_long, new_each, mapped}

-- it asks some
asks_some : (n : ℕ) → 0 < n → (next : ℕ) → (o : Out) × Has (asked_of layout_id msg.AskLatest (waits_for (numbers n 0) next)) o
asks_some zero less next = absurd (omega (arith, less))
asks_some (suc n) less next = (_, inl refl)

module _ (m : Meaning) (h : Header) (stopped : List NodeId) (k epoch servers top round : ℕ) (past : 2 ≤ epoch) (near : epoch < 2 ^ 32) (small : top + 1 < 2 ^ 32) (fits : round ≤ top) (mode : Mode) (rest : ℕ) where
  abbrev pub NotIt : NodeId → Type 0
  NotIt x = node_eq x (client_id k) ≡ false

  abbrev Fits : Net m → Type 0
  Fits s = Base m h stopped k epoch servers top round s

  abbrev OkFor : Net m → Client m → Packet → Type 0
  OkFor s c x = Ok m h stopped k epoch servers top round s c.next (reserved m c) x

  abbrev heavy : List Packet → ℕ
  heavy q = weigh m h stopped k (first_layout h) q

  abbrev State : Net m → List Packet → ℕ → Type 0
  State s q n = Inv m h stopped k epoch servers top round past near small fits mode rest s q n

  abbrev Flight : List Packet → ℕ → ℕ → Type 0
  Flight q i j = InFlight m h stopped k epoch servers top round past near small fits mode rest q i j

  abbrev Turn' : Net m → Net m → List Packet → List Packet → Type 0
  Turn' s t q sent = Turned m h stopped k epoch servers top round past near small fits mode rest s t q sent 0

  -- right after a tick: where the present stage's requests were sent again, no round is set
  abbrev pub Laterless : Bool → ReconfWork → Type 0
  Laterless true (Agreeing v) = v.later ≡ None
  Laterless b w = ⊤

  -- the client hasn't ticked yet, and these requests it sends again
  pub record Wait (xs : List NodeId) (s : Net m) (q : List Packet) (n : ℕ) : Type 0 where
    pub base : Fits s
    pub there : (i : ℕ) → on_in m stopped s (layout_id i) ≡ true → i < servers
    pub each : Each (OkFor s (client_of m h s k)) q
    pub begun : Bool
    pub reconf : Reconf
    pub votes : Votes m h stopped k epoch servers top round mode s begun (client_of m h s k) reconf
    pub nums : Nums m h stopped k epoch servers top round (client_of m h s k)
    pub layouts : (client_of m h s k).layouts ≡ servers
    pub laterless : Laterless begun reconf.work
    pub os : List Out
    pub again : reconf_again_asks reconf ≡ os
    pub asks : (o : Out) → Has os o → AskOk m h stopped k epoch servers top round o.to o.msg × Has (reconf_awaited reconf) o
    pub covers : (i j : ℕ) → Has (live begun reconf.work) (i, j) → (y : Msg) × Has os (out (layout_id i) j y)
    pub left : ℕ
    pub enough : left_of m h stopped k epoch servers top round begun reconf.work ≤ left
    pub few : heavy q + ((length os + length os) + (servers + servers)) + (left + left) + rest ≤ n
    pub front : List NodeId
    pub back : List NodeId
    pub is : xs ≡ front ++ client_id k ∷ back
    pub not_front : Each NotIt front
    pub not_back : Each NotIt back

  pub record After (xs : List NodeId) (s : Net m) (q : List Packet) (n : ℕ) : Type 0 where
    pub others : Each NotIt xs
    pub busy : Busy m h stopped k epoch servers top round past near small fits mode rest s q n
    pub laterless : Laterless busy.begun busy.reconf.work
    -- it has asked layout servers for the latest layout
    pub sent : 0 < servers → (y : Packet) × Has q y

  abbrev pub Pre : List NodeId → Net m → List Packet → ℕ → Type 0
  Pre xs s q n = Idle m h stopped k epoch servers top round past near small fits mode rest s q n ⊎ (After xs s q n ⊎ Wait xs s q n)

  -- Another node ticks.

  nothing_turned : (s : Net m) (q : List Packet) → Fits s → Turn' s s q []
  unfolding weigh
  nothing_turned s q b = record { turn = record { base = b; grows = grows_same m h stopped k epoch servers top round s; alike = record { counts = λ r. refl }; client = refl; each = tt; few = omega arith } }

  off_num : (j : ℕ) → node_eq (client_id j) (client_id k) ≡ false → eqb j k ≡ false
  unfolding node_eq
  off_num j e = e

  flip : (a b : ℕ) → eqb a b ≡ false → eqb b a ≡ false
  flip a b e = grind arith

  client_turned : (s : Net m) (q : List Packet) (j : ℕ) → Fits s → eqb j k ≡ false → (client_of m h s j).work ≡ None → Turn' s (record s { clients = slice_set s.clients j (called m (client_of m h s j)) }) q []
  unfolding weigh
  client_turned s q j b off none = record {
    turn = record {
      base = record { on = on_alike m stopped s _ a (client_id k) ∙ b.on; units = b.units; layouts = b.layouts; seqrs = b.seqrs; idle = λ i away on. by i (b.idle i away (sym (on_alike m stopped s _ a (client_id i)) ∙ on)) (set_index s.clients j (called m (client_of m h s j)) i (new_client m h i)) };
      grows = record { on = λ n e. on_alike m stopped s _ a n ∙ e; low = λ n e. e; high = λ n b e f. e };
      alike = a;
      client = set_other s.clients j (called m (client_of m h s j)) k (new_client m h k) (flip j k off);
      each = tt;
      few = omega arith;
    };
  }
    where
      a : Alike m s (record s { clients = slice_set s.clients j (called m (client_of m h s j)) })
      a = client_alike m s j (called m (client_of m h s j))

      by : (i : ℕ) → (client_of m h s i).work ≡ None → ((i ≡ j) × (slice_index_or (slice_set s.clients j (called m (client_of m h s j))) i (new_client m h i) ≡ called m (client_of m h s j))) ⊎ (slice_index_or (slice_set s.clients j (called m (client_of m h s j))) i (new_client m h i) ≡ client_of m h s i)
          → (slice_index_or (slice_set s.clients j (called m (client_of m h s j))) i (new_client m h i)).work ≡ None
      by i e (inl c) = ap (λ (d : Client m). d.work) c.1 ∙ none
      by i e (inr c) = ap (λ (d : Client m). d.work) c ∙ e

  pub other_turned : (s : Net m) (q : List Packet) (n : ℕ) (r : Role) → Fits s → node_eq (record { role = r; num = n }) (client_id k) ≡ false → on_in m stopped s (record { role = r; num = n }) ≡ true → Turn' s (net_ticked m h s n r) q (sent_ticked m h s n r)
  other_turned s q n role.Unit b off on = nothing_turned s q b
  other_turned s q n role.Layout b off on = nothing_turned s q b
  other_turned s q n role.Seqr b off on = record { turn = seqr_turned m h stopped k epoch servers top round past near fits s (client_of m h s k).next (reserved m (client_of m h s k)) n _ (tick_low m h stopped k epoch servers top round (seqr_of m h s n) (b.seqrs n)) b }
  other_turned s q n role.Client b off on = let none = b.idle n (off_num n off) on in
      subst (λ (t : ClientTurn m). Turn' s (record s { clients = slice_set s.clients n t.now }) q (map (packet_of m (client_id n)) t.sends)) (sym (idle_ticks m h stopped k (first_layout h) (client_of m h s n) none)) (client_turned s q n b (off_num n off) none)

  back_on : (s t : Net m) (n : NodeId) → Alike m s t → on_in m stopped t n ≡ true → on_in m stopped s n ≡ true
  back_on s t n a on = sym (on_alike m stopped s t a n) ∙ on

  idle_other : (s t : Net m) (q sent : List Packet) (n : ℕ) → Turn' s t q sent → Idle m h stopped k epoch servers top round past near small fits mode rest s q n → Idle m h stopped k epoch servers top round past near small fits mode rest t (q ++ sent) n
  idle_other s t q sent n d i =
      let both = weigh_both m h stopped k (first_layout h) q sent in
      let light = d.turn.few in
      let few = i.few in
      record { base = d.turn.base; there = λ j on. i.there j (back_on s t (layout_id j) d.turn.alike on); each = each_turned m h stopped k epoch servers top round past near small fits mode rest s t q sent 0 i.each d; none = ap (λ (c : Client m). c.work) d.turn.client ∙ i.none; few = omega (arith, both, light, few) }

  flight_more : (q sent : List Packet) (i j : ℕ) → Flight q i j → Flight (q ++ sent) i j
  flight_more q sent i j (inl f) = inl (f.0, has_left q sent _ f.1)
  flight_more q sent i j (inr f) = inr (f.0, has_left q sent _ f.1)

  abbrev busy_other : (s t : Net m) (q sent : List Packet) (n : ℕ) → Turn' s t q sent → Busy m h stopped k epoch servers top round past near small fits mode rest s q n → Busy m h stopped k epoch servers top round past near small fits mode rest t (q ++ sent) n
  busy_other s t q sent n d b =
      let both = weigh_both m h stopped k (first_layout h) q sent in
      let light = d.turn.few in
      let few = b.few in
      record {
        base = d.turn.base;
        there = λ j on. b.there j (back_on s t (layout_id j) d.turn.alike on);
        each = each_turned m h stopped k epoch servers top round past near small fits mode rest s t q sent 0 b.each d;
        begun = b.begun;
        reconf = b.reconf;
        votes = subst (λ (c : Client m). Votes m h stopped k epoch servers top round mode t b.begun c b.reconf) (sym d.turn.client) (votes_rise m h stopped k epoch servers top round past near small fits mode rest s t b.begun (client_of m h s k) b.reconf d.turn.grows d.turn.alike b.votes);
        nums = subst (λ (c : Client m). Nums m h stopped k epoch servers top round c) (sym d.turn.client) b.nums;
        flight = λ i j on has. by i j (b.flight i j (back_on s t (layout_id i) d.turn.alike on) has);
        left = b.left;
        enough = b.enough;
        few = omega (arith, both, light, few);
      }
    where
      by : (i j : ℕ) → Flight q i j ⊎ HeardIn m h stopped k epoch servers top round b.begun s b.reconf.work i → Flight (q ++ sent) i j ⊎ HeardIn m h stopped k epoch servers top round b.begun t b.reconf.work i
      by i j (inl f) = inl (flight_more q sent i j f)
      by i j (inr f) = inr (work_heard m h stopped k epoch servers top round past near small fits mode rest s t b.begun b.reconf.stand b.reconf.work i d.turn.grows b.votes.fine.work f)

  head_is : (x y : NodeId) (xs ys : List NodeId) → x ∷ xs ≡ y ∷ ys → x ≡ y
  head_is x y xs ys e = cc

  tail_is : (x y : NodeId) (xs ys : List NodeId) → x ∷ xs ≡ y ∷ ys → xs ≡ ys
  tail_is x y xs ys e = cc

  itself : node_eq (client_id k) (client_id k) ≡ true
  unfolding node_eq
  itself = same k
    where
      same : (n : ℕ) → eqb n n ≡ true
      same n = grind arith

  is_it : (x : NodeId) → x ≡ client_id k → node_eq x (client_id k) ≡ true
  is_it x e = subst (λ y. node_eq y (client_id k) ≡ true) (sym e) itself

  wait_other : (s t : Net m) (q sent : List Packet) (n : ℕ) (x : NodeId) (xs : List NodeId) (w : Wait (x ∷ xs) s q n) (fs : List NodeId) → w.front ≡ fs → NotIt x → Turn' s t q sent → Wait xs t (q ++ sent) n
  wait_other s t q sent n x xs w [] e off d = absurd (contrary (is_it x (head_is x (client_id k) xs w.back (subst (λ fs. x ∷ xs ≡ fs ++ client_id k ∷ w.back) e w.is))) off)
  wait_other s t q sent n x xs w (y ∷ fs) e off d =
      let both = weigh_both m h stopped k (first_layout h) q sent in
      let light = d.turn.few in
      let few = w.few in
      record {
        base = d.turn.base;
        there = λ j on. w.there j (back_on s t (layout_id j) d.turn.alike on);
        each = each_turned m h stopped k epoch servers top round past near small fits mode rest s t q sent 0 w.each d;
        begun = w.begun;
        reconf = w.reconf;
        votes = subst (λ (c : Client m). Votes m h stopped k epoch servers top round mode t w.begun c w.reconf) (sym d.turn.client) (votes_rise m h stopped k epoch servers top round past near small fits mode rest s t w.begun (client_of m h s k) w.reconf d.turn.grows d.turn.alike w.votes);
        nums = subst (λ (c : Client m). Nums m h stopped k epoch servers top round c) (sym d.turn.client) w.nums;
        layouts = ap (λ (c : Client m). c.layouts) d.turn.client ∙ w.layouts;
        laterless = w.laterless;
        os = w.os;
        again = w.again;
        asks = w.asks;
        covers = w.covers;
        left = w.left;
        enough = w.enough;
        few = omega (arith, both, light, few);
        front = fs;
        back = w.back;
        is = tail_is x y xs (fs ++ client_id k ∷ w.back) (subst (λ gs. x ∷ xs ≡ gs ++ client_id k ∷ w.back) e w.is);
        not_front = (subst (λ gs. Each NotIt gs) e w.not_front).1;
        not_back = w.not_back;
      }

  pre_base : (xs : List NodeId) (s : Net m) (q : List Packet) (n : ℕ) → Pre xs s q n → Fits s
  pre_base xs s q n (inl i) = i.base
  pre_base xs s q n (inr (inl a)) = a.busy.base
  pre_base xs s q n (inr (inr w)) = w.base

  one_other : (x : NodeId) (xs : List NodeId) (s t : Net m) (q sent : List Packet) (n : ℕ) → NotIt x → Pre (x ∷ xs) s q n → Turn' s t q sent → Pre xs t (q ++ sent) n
  one_other x xs s t q sent n off (inl i) d = inl (idle_other s t q sent n d i)
  one_other x xs s t q sent n off (inr (inl a)) d = inr (inl (record { others = a.others.1; busy = busy_other s t q sent n d a.busy; laterless = a.laterless; sent = λ filled. let z = a.sent filled in (z.0, has_left q sent z.0 z.1) }))
  one_other x xs s t q sent n off (inr (inr w)) d = inr (inr (wait_other s t q sent n x xs w w.front refl off d))

  -- The client ticks.

  pub tick_is : (c : Client m) (w : Work m) (os : List Out) → c.work ≡ Some w → hand_again_asks m c.stand w.hand ≡ os
      → client_tick m c ≡ record { now = called m (record c { next = c.next + c.layouts }); sends = os ++ asked_of layout_id msg.AskLatest (waits_for (numbers c.layouts 0) c.next); notes = [] }
  unfolding client_tick
  tick_is c w os e f = ap (λ x. tick_by m c x) e ∙ ap (λ os. record { now = called m (record c { next = c.next + c.layouts }); sends = os ++ asked_of layout_id msg.AskLatest (waits_for (numbers c.layouts 0) c.next); notes = [] }) f

  pub maps_both : (xs ys : List Out) → map (packet_of m (client_id k)) (xs ++ ys) ≡ map (packet_of m (client_id k)) xs ++ map (packet_of m (client_id k)) ys
  maps_both [] ys = refl
  maps_both (x ∷ xs) ys = ap (λ l. packet_of m (client_id k) x ∷ l) (maps_both xs ys)

  self_tick : (s : Net m) (q : List Packet) (n : ℕ) (xs : List NodeId) (w : Wait (client_id k ∷ xs) s q n) → Each NotIt xs → After xs (net_ticked m h s k role.Client) (q ++ sent_ticked m h s k role.Client) n
  self_tick s q n xs w rest' =
      let c = client_of m h s k in
      let v = w.votes in
      let now = called m (record c { next = c.next + c.layouts }) in
      let latest = asked_of layout_id msg.AskLatest (waits_for (numbers c.layouts 0) c.next) in
      let is = tick_is c v.work w.os v.waits (ap (λ d. hand_again_asks m c.stand d) v.hand ∙ w.again) in
      let drawn = subst (λ (t : ClientTurn m). Drawn (reserved m c) c.next (t.sends ++ reserved m t.now) t.now.next) is (tick_draws m c).is in
      let moves = renumbered m h stopped k epoch servers top round c now (w.os ++ latest) w.nums drawn in
      let news = map (packet_of m (client_id k)) w.os in
      let asks = map (packet_of m (client_id k)) latest in
      let t : Net m = record s { clients = slice_set s.clients k now } in
      let here = set_there s.clients k now (new_client m h k) (clients_long m h stopped k epoch servers top round past near small fits mode rest s w.base.on) in
      let rises = rises_client m h stopped k epoch servers top round past near small fits mode rest s now in
      let both = weigh_both m h stopped k (first_layout h) q (news ++ asks) in
      let two = weigh_both m h stopped k (first_layout h) news asks in
      let a = weigh_asks m h stopped k (first_layout h) w.os in
      let b = weigh_asks m h stopped k (first_layout h) latest in
      let long = asked_long layout_id msg.AskLatest (waits_for (numbers c.layouts 0) c.next) in
      let all = all_long c.layouts c.next in
      let lay = w.layouts in
      let few = w.few in
      subst (λ (u : ClientTurn m). After xs (record s { clients = slice_set s.clients k u.now }) (q ++ map (packet_of m (client_id k)) u.sends) n) (sym is)
      (subst (λ (r : List Packet). After xs t (q ++ r) n) (sym (maps_both w.os latest)) (record {
        others = rest';
        laterless = w.laterless;
        sent = λ filled. let lay = w.layouts in let o = asks_some c.layouts (omega (arith, lay, filled)) c.next in (packet_of m (client_id k) o.0, has_right q (news ++ asks) _ (has_right news asks _ (mapped (packet_of m (client_id k)) latest o.0 o.1)));
        busy = record {
          base = base_client m h stopped k epoch servers top round past near small fits mode rest s now w.base;
          there = λ j on. w.there j (back_on s t (layout_id j) (client_alike m s k now) on);
          each = subst (λ (d : Client m). Each (OkFor t d) (q ++ (news ++ asks))) (sym here) (each_both (OkFor t now) q (news ++ asks)
              (all_grow m h stopped k epoch servers top round s t c.next now.next (reserved m c) (reserved m now) q rises moves.up moves.back w.each)
              (each_both (OkFor t now) news asks
              (new_each (OkFor t now) w.os (λ o has. let z = w.asks o has in Asks o (moves.nums.below o (kept o z.1)) z.0 (λ y f. moves.nums.one (out o.to o.rid y) o f (kept o z.1) refl refl)))
              (new_each (OkFor t now) latest (λ o has. latest_ok drawn o has))));
          begun = w.begun;
          reconf = w.reconf;
          votes = subst (λ (d : Client m). Votes m h stopped k epoch servers top round mode t w.begun d w.reconf) (sym here)
              (votes_rise m h stopped k epoch servers top round past near small fits mode rest s t w.begun now w.reconf rises (client_alike m s k now) (record { work = v.work; waits = v.waits; hand = v.hand; stand = v.stand; layouts = v.layouts; fine = v.fine }));
          nums = subst (λ (d : Client m). Nums m h stopped k epoch servers top round d) (sym here) moves.nums;
          flight = λ i j on has. let y = w.covers i j has in inl (inl (y.0, has_right q (news ++ asks) _ (has_left news asks _ (mapped (packet_of m (client_id k)) w.os (out (layout_id i) j y.0) y.1))));
          left = w.left;
          enough = w.enough;
          few = omega (arith, both, two, a, b, long, all, lay, few);
        };
      }))
    where
      c : Client m
      c = client_of m h s k

      now : Client m
      now = called m (record c { next = c.next + c.layouts })

      latest : List Out
      latest = asked_of layout_id msg.AskLatest (waits_for (numbers c.layouts 0) c.next)

      kept : (o : Out) → Has (reconf_awaited w.reconf) o → Has (reserved m now) o
      kept o has = subst (λ (os : List Out). Has os o) (sym (reserves m h stopped k epoch servers top round mode s w.begun c w.reconf w.votes)) has

      latest_ok : Drawn (reserved m c) c.next ((w.os ++ latest) ++ reserved m now) now.next → (o : Out) → Has latest o → OkFor (record s { clients = slice_set s.clients k now }) now (packet_of m (client_id k) o)
      latest_ok d o has =
          let x = has_asked layout_id msg.AskLatest (waits_for (numbers c.layouts 0) c.next) o has in
          let high = all_new c.layouts c.next x.num x.rid x.has in
          let same = ap (λ (z : Out). z.rid) x.is in
          Asks o (below d o high same (d.either o (has_left (w.os ++ latest) (reserved m now) o (has_right w.os latest o has))))
          (subst (λ (z : Out). AskOk m h stopped k epoch servers top round z.to z.msg) (sym x.is) (x.num, refl))
          (λ y f. let less = w.nums.below (out o.to o.rid y) f in absurd (omega (arith, less, high, same)))
        where
          below : (d : Drawn (reserved m c) c.next ((w.os ++ latest) ++ reserved m now) now.next) (o : Out) → {r : ℕ} → c.next ≤ r → o.rid ≡ r → Has (reserved m c) o ⊎ Has d.new o → o.rid < now.next
          below d o high same (inl f) = let less = w.nums.below o f in absurd (omega (arith, less, high, same))
          below d o high same (inr f) = d.is_new.below o f

  -- All nodes tick.

  -- the state right after the ticks
  pub record Again (s : Net m) (q : List Packet) (n : ℕ) : Type 0 where
    pub busy : Busy m h stopped k epoch servers top round past near small fits mode rest s q n
    pub laterless : Laterless busy.begun busy.reconf.work
    pub sent : 0 < servers → (y : Packet) × Has q y

  abbrev pub Fresh : Net m → List Packet → ℕ → Type 0
  Fresh s q n = Idle m h stopped k epoch servers top round past near small fits mode rest s q n ⊎ Again s q n

  idle_self : (s : Net m) (q : List Packet) (n : ℕ) → Idle m h stopped k epoch servers top round past near small fits mode rest s q n → Idle m h stopped k epoch servers top round past near small fits mode rest (net_ticked m h s k role.Client) (q ++ sent_ticked m h s k role.Client) n
  idle_self s q n i =
      let c = client_of m h s k in
      let now = called m c in
      let t : Net m = record s { clients = slice_set s.clients k now } in
      let here = set_there s.clients k now (new_client m h k) (clients_long m h stopped k epoch servers top round past near small fits mode rest s i.base.on) in
      subst (λ (u : ClientTurn m). Idle m h stopped k epoch servers top round past near small fits mode rest (record s { clients = slice_set s.clients k u.now }) (q ++ map (packet_of m (client_id k)) u.sends) n) (sym (idle_ticks m h stopped k (first_layout h) c i.none))
      (subst (λ (r : List Packet). Idle m h stopped k epoch servers top round past near small fits mode rest t r n) (nothing_new q) (record {
        base = base_client m h stopped k epoch servers top round past near small fits mode rest s now i.base;
        there = λ j on. i.there j (back_on s t (layout_id j) (client_alike m s k now) on);
        each = subst (λ (d : Client m). Each (OkFor t d) q) (sym here) (all_grow m h stopped k epoch servers top round s t c.next c.next (reserved m c) (reserved m c) q (rises_client m h stopped k epoch servers top round past near small fits mode rest s now) (omega arith) (λ o has less. has) i.each);
        none = ap (λ (d : Client m). d.work) here ∙ i.none;
        few = i.few;
      }))

  back_rest : (x : NodeId) (xs : List NodeId) (s : Net m) (q : List Packet) (n : ℕ) (w : Wait (x ∷ xs) s q n) (fs : List NodeId) → w.front ≡ fs → x ≡ client_id k → Each NotIt xs
  back_rest x xs s q n w [] e is = subst (λ l. Each NotIt l) (sym (tail_is x (client_id k) xs w.back (subst (λ fs. x ∷ xs ≡ fs ++ client_id k ∷ w.back) e w.is))) w.not_back
  back_rest x xs s q n w (y ∷ fs) e is = absurd (contrary (is_it x is) (subst (λ z. NotIt z) (sym (head_is x y xs (fs ++ client_id k ∷ w.back) (subst (λ gs. x ∷ xs ≡ gs ++ client_id k ∷ w.back) e w.is))) (subst (λ gs. Each NotIt gs) e w.not_front).0))

  one_self : (xs : List NodeId) (s : Net m) (q : List Packet) (n : ℕ) → Pre (client_id k ∷ xs) s q n → Pre xs (net_ticked m h s k role.Client) (q ++ sent_ticked m h s k role.Client) n
  one_self xs s q n (inl i) = inl (idle_self s q n i)
  one_self xs s q n (inr (inl a)) = absurd (contrary itself a.others.0)
  one_self xs s q n (inr (inr w)) = inr (inl (self_tick s q n xs w (back_rest (client_id k) xs s q n w w.front refl refl)))

  it_or_not : (x : NodeId) → (node_eq x (client_id k) ≡ true) ⊎ NotIt x
  it_or_not x = by (node_eq x (client_id k)) refl
    where
      by : (b : Bool) → node_eq x (client_id k) ≡ b → (node_eq x (client_id k) ≡ true) ⊎ NotIt x
      by true e = inl e
      by false e = inr e

  one_ticks : (x : NodeId) (xs : List NodeId) (s : Net m) (q : List Packet) (n : ℕ) → Pre (x ∷ xs) s q n → on_in m stopped s x ≡ true → Pre xs (net_ticked m h s x.num x.role) (q ++ sent_ticked m h s x.num x.role) n
  one_ticks x xs s q n pre on = by (it_or_not x)
    where
      by : (node_eq x (client_id k) ≡ true) ⊎ NotIt x → Pre xs (net_ticked m h s x.num x.role) (q ++ sent_ticked m h s x.num x.role) n
      by (inl e) = let is = node_same x (client_id k) e in
          subst (λ (y : NodeId). Pre xs (net_ticked m h s y.num y.role) (q ++ sent_ticked m h s y.num y.role) n) (sym is) (one_self xs s q n (subst (λ (y : NodeId). Pre (y ∷ xs) s q n) is pre))
      by (inr off) = one_other x xs s _ q _ n off pre (other_turned s q x.num x.role (pre_base (x ∷ xs) s q n pre) off on)

  whole : (q : List Packet) → q ++ [] ≡ q
  whole q = sym (nothing_new q)

  off_ticks : (x : NodeId) (xs : List NodeId) (s : Net m) (q : List Packet) (n : ℕ) → Pre (x ∷ xs) s q n → on_in m stopped s x ≡ false → Pre xs s q n
  off_ticks x xs s q n (inl i) off = inl i
  off_ticks x xs s q n (inr (inl a)) off = inr (inl (record { others = a.others.1; busy = a.busy; laterless = a.laterless; sent = a.sent }))
  off_ticks x xs s q n (inr (inr w)) off = inr (inr (by (it_or_not x)))
    where
      by : (node_eq x (client_id k) ≡ true) ⊎ NotIt x → Wait xs s q n
      by (inl e) = absurd (contrary (subst (λ (y : NodeId). on_in m stopped s y ≡ true) (sym (node_same x (client_id k) e)) w.base.on) off)
      by (inr not_it) = subst (λ r. Wait xs s r n) (whole q) (wait_other s s q [] n x xs w w.front refl not_it (nothing_turned s q w.base))

  no_middle : (fs : List NodeId) (y : NodeId) (ys : List NodeId) → [] ≡ fs ++ y ∷ ys → ⊥
  no_middle [] y ys e = absurd cc
  no_middle (f ∷ fs) y ys e = absurd cc

  all_ticked : (s : Net m) (q : List Packet) (n : ℕ) → Pre [] s q n → Fresh s q n
  all_ticked s q n (inl i) = inl i
  all_ticked s q n (inr (inl a)) = inr (record { busy = a.busy; laterless = a.laterless; sent = a.sent })
  all_ticked s q n (inr (inr w)) = absurd (no_middle w.front (client_id k) w.back w.is)

  pub ticking : Ticking m k h stopped Fresh Pre
  ticking = record { one = one_ticks; other = off_ticks; all = all_ticked }

  -- Where nothing is on its way.

  nothing_flies : (i j : ℕ) → Flight [] i j → ⊥
  nothing_flies i j (inl f) = f.1
  nothing_flies i j (inr f) = f.1

  not_few : (n c : ℕ) → servers < 2 * n → n ≤ c → nat_lt servers (c + c) ≡ false → ⊥
  not_few n c most le few = grind (arith, most, le, few)

  -- what the drain has come to: the client stands at the new layout, or its vote has set a round
  abbrev pub Comes : Bool → Layout → ReconfWork → Type 0
  Comes c p w = ((i : ℕ) × ((w ≡ Starting i) × (p.epoch ≡ epoch))) ⊎ ((c ≡ true) × ((v : Voting) × ((w ≡ Agreeing v) × ((l : Later) × (v.later ≡ Some l)))))

  -- where no running server is waited for, too many have answered
  module _ (s : Net m) (most : servers < 2 * tally (λ i. on_in m stopped s (layout_id i)) servers) where
    all_answered : (ws : Waits) (c : ℕ) → ((i j : ℕ) → on_in m stopped s (layout_id i) ≡ true → Has ws (i, j) → ⊥) → Enough m h stopped k epoch servers top round ws c → ⊥
    all_answered ws c none e = let le = tally_more (λ i. on_in m stopped s (layout_id i)) (answered ws) servers (λ i on. by i on (answered ws i) refl) in let f = e.counted in not_few (tally (λ i. on_in m stopped s (layout_id i)) servers) c most (omega (arith, le, f)) e.few
      where
        by : (i : ℕ) → on_in m stopped s (layout_id i) ≡ true → (b : Bool) → answered ws i ≡ b → answered ws i ≡ true
        by i on true e = e
        by i on false e = let x = unanswered_has ws i e in absurd (none i x.0 on x.1)

    stage_counts : (st : Stage) → StageFine m h stopped k epoch servers top round st → (c : ℕ) × Enough m h stopped k epoch servers top round (stage_waits st) c
    stage_counts (Preparing ws ps) f = (length ps, f.0)
    stage_counts (Accepting ws c q) f = (c, f.0)

    calm_votes : (p : Layout) (v : Voting) (o : Option Later) → v.later ≡ o → Begun m h stopped k epoch servers top round v → ((i j : ℕ) → on_in m stopped s (layout_id i) ≡ true → Has (stage_waits v.stage) (i, j) → Heard m h stopped k epoch servers top round s v i) → Comes true p (Agreeing v)
    calm_votes p v (Some l) e b f = inr (refl, (v, (refl, (l, e))))
    calm_votes p v None e b f = let c = stage_counts v.stage b.stage in absurd (all_answered (stage_waits v.stage) c.0 (λ i j on has. never (f i j on has)) c.1)
      where
        none_some : (l : Later) → None ≡ Some l → ⊥
        none_some l e = cc

        never : {i : ℕ} → Heard m h stopped k epoch servers top round s v i → ⊥
        never x = none_some x.later (sym e ∙ x.has)

    calm_by : (c : Bool) (p : Layout) (w : ReconfWork) → WorkFine m h stopped k epoch servers top round mode s c p w → ((i j : ℕ) → on_in m stopped s (layout_id i) ≡ true → Has (live c w) (i, j) → HeardIn m h stopped k epoch servers top round c s w i) → Comes c p w
    calm_by true p (Agreeing v) f heard = calm_votes p v v.later refl f.1.0 heard
    calm_by false p (Agreeing v) f heard =
        let x = tally_some (λ i. on_in m stopped s (layout_id i)) servers (let y = most in omega (arith, y)) in
        let l = f.1.0 in
        let y = unanswered_has l.later.waits x.0 (l.fine.all x.0 x.1.1) in
        absurd (heard x.0 y.0 x.1.0 (subst (λ (o : Option Later). Has (later_waits o) (x.0, y.0)) (sym l.has) y.1))
    calm_by c p (Telling ws n q) f heard = absurd (all_answered ws n (λ i j on has. heard i j on has) f.1.1)
    calm_by c p (Starting n) f heard = inl (n, (refl, f))
    calm_by c p (SealingSpare n) f heard = absurd f
    calm_by c p (LookingSpare n) f heard = absurd f
    calm_by c p (Sealing ws acks) f heard = absurd f
    calm_by c p (LookingAgain n acks) f heard = absurd f

    -- with nothing on its way the client has ended, stands at the new layout, or has set a round
    pub calm : (n : ℕ) (b : Busy m h stopped k epoch servers top round past near small fits mode rest s [] n) → Comes b.begun b.reconf.stand b.reconf.work
    calm n b = calm_by b.begun b.reconf.stand b.reconf.work b.votes.fine.work (λ i j on has. by i j (b.flight i j on has))
      where
        by : (i j : ℕ) → Flight [] i j ⊎ HeardIn m h stopped k epoch servers top round b.begun s b.reconf.work i → HeardIn m h stopped k epoch servers top round b.begun s b.reconf.work i
        by i j (inl f) = absurd (nothing_flies i j f)
        by i j (inr f) = f
