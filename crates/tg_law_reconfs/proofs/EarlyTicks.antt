-- A round of ticks before the votes: the client asks units again.
use Rattle.std.proofs.Common.{◌≡◌, ◌⊎◌, ℕ, zero, suc, ◌+◌, ◌^◌, ◌<◌, ◌≤◌, List, [], ◌∷◌, ◌++◌, length, map, Bool, true, false, refl, ap, ◌∙◌, sym, subst, inl, inr, arith, Some, None, Option}
use Rattle.std.specs.Prelude.{slice_set, slice_index_or}
use Rattle.tg_base.specs.Clusters.{Header}
use Rattle.tg_base.specs.declared.ids.NodeId.{NodeId}
use Rattle.tg_base.specs.declared.ids.Role.{Role}
use Rattle.tg_base.specs.declared.ids.Role.TheVariants as role
use Rattle.tg_base.specs.declared.msg.Msg.TheVariants as msg
use Rattle.tg_base.specs.declared.packet.Out.{Out}
use Rattle.tg_base.specs.declared.packet.Packet.{Packet}
use Rattle.tg_base.specs.Orders.{node_eq}
use Rattle.tg_kind.specs.Meaning.{Meaning}
use Rattle.tg_protocol.specs.Words.{layout_id, client_id, numbers}
use Rattle.tg_protocol.specs.Layouts.{first_layout}
use Rattle.tg_protocol.specs.Requests.{out, waits_for, asked_of}
use Rattle.tg_protocol.specs.Sequencers.{SeqrState, new_seqr, seqr_tick}
use Rattle.tg_protocol.specs.Reconfiguring.{this_or}
use Rattle.tg_protocol.specs.Clients.{Client, Hand, new_client}
use Rattle.tg_protocol.specs.ClientSteps.{ClientTurn, called, hand_again_asks}
use Rattle.tg_protocol.specs.Worlds.{packet_of}
use Rattle.tg_law_layouts.proofs.Moves.Clients.{reserved}
use Rattle.tg_law_layouts.proofs.Moves.Draws.{Drawn}
use Rattle.tg_law_layouts.proofs.Moves.Members.{Has, has_left, has_right}
use Rattle.tg_law_layouts.proofs.Moves.Turns.{tick_draws}
use Rattle.tg_law_finish.proofs.Finish.Lines.{weigh_asks}
use Rattle.tg_law_finish.proofs.Finish.Lists.{Each, each_both, set_index, set_there}
use Rattle.tg_law_finish.proofs.Finish.Nets.{Net, on_in, Alike, on_alike, client_alike, unit_of, seqr_of, client_of, net_ticked, sent_ticked}
use Rattle.tg_law_finish.proofs.Finish.Others.{weigh, weigh_both, idle_ticks}
use Rattle.tg_law_finish.proofs.Finish.Settles.{Ticking}
use Rattle.tg_law_reconfs.proofs.Votes.{contrary, Base}
use Rattle.tg_law_reconfs.proofs.Waits.{has_asked, asked_long, all_long}
use Rattle.tg_law_reconfs.proofs.Turns.{First}
use Rattle.tg_law_reconfs.proofs.Answering.{node_same}
use Rattle.tg_law_reconfs.proofs.Drains.{Nums, renumbered}
use Rattle.tg_law_reconfs.proofs.Steps.{nothing_new, new_each, mapped, base_client, clients_long}
use Rattle.tg_law_reconfs.proofs.Ticks.{NotIt, other_turned, tick_is, maps_both}
use Rattle.tg_law_reconfs.proofs.Nodes.{tick_low}
use Rattle.tg_law_reconfs.proofs.Scanning.{tick_sends, scans_near}
use Rattle.tg_law_reconfs.proofs.Phases.{votes_first, units_left, asks_one, units_asked, none_later, UnitsHand, hand_again, one_reserved}
use Rattle.tg_law_reconfs.proofs.Early.{SeqrNear, scans_early, Flight, Early, AsksOf, AsksLatest, all_early, Later, later_by, EarlyFor, EarlyAt, itself, hand_on}

below_from : (n a at i j : ℕ) → Has (waits_for (numbers n a) at) (i, j) → j < at + n
below_from zero a at i j h = absurd h
below_from (suc n) a at i j (inl e) = let f = ap (λ (v : ℕ × ℕ). v.1) e in omega (arith, f)
below_from (suc n) a at i j (inr h) = let less = below_from n (a + 1) (at + 1) i j h in omega (arith, less)

module _ (m : Meaning) (h : Header) (stopped : List NodeId) (k epoch servers top round : ℕ) (past : 2 ≤ epoch) (near : epoch < 2 ^ 32) (small : top + 1 < 2 ^ 32) (fits : round ≤ top) (first : round ≡ 1) (rest : ℕ) where
  abbrev Fits : Net m → Type 0
  Fits s = Base m h stopped k epoch servers top round s

  abbrev heavy : List Packet → ℕ
  heavy q = weigh m h stopped k (first_layout h) q

  abbrev At : Net m → List Packet → ℕ → Type 0
  At s q n = EarlyAt m h stopped k epoch servers top round past near small fits first rest s q n

  abbrev Hand' : Net m → Client m → Type 0
  Hand' s c = UnitsHand m h stopped k epoch servers top round past near small fits first s c

  abbrev asked : {s : Net m} → {c : Client m} → Hand' s c → List Out
  asked f = units_asked f.reconf

  abbrev left_for : {s : Net m} → {c : Client m} → Hand' s c → ℕ
  left_for f = units_left f.reconf f.reconf.work

  abbrev votes_left : ℕ
  votes_left = votes_first m h stopped k epoch servers top round past near small fits first

  abbrev Later' : Net m → Net m → Type 0
  Later' s t = Later m h stopped k epoch servers top round past near small fits first rest s t

  abbrev EarlyIn : Net m → ℕ → Packet → Type 0
  EarlyIn s next x = Early m h stopped k epoch servers top round past near small fits first rest s next x

  abbrev Near : SeqrState → Type 0
  Near x = SeqrNear m h stopped k epoch servers top round past near small fits first rest x

  abbrev Off : NodeId → Type 0
  Off x = NotIt m h stopped k epoch servers top round past near small fits First rest x

  is_it : (x : NodeId) → x ≡ client_id k → node_eq x (client_id k) ≡ true
  is_it x e = subst (λ (y : NodeId). node_eq y (client_id k) ≡ true) (sym e) (itself m h stopped k epoch servers top round past near small fits first rest)

  -- the client hasn't ticked yet
  pub record WaitFor (xs : List NodeId) (s : Net m) (c : Client m) (q : List Packet) (n : ℕ) : Type 0 where
    pub base : Fits s
    pub there : (i : ℕ) → on_in m stopped s (layout_id i) ≡ true → i < servers
    pub highs : (u : ℕ) → (unit_of m s u).high < 2 ^ 62
    pub rests : (x : ℕ) → Near (seqr_of m h s x)
    pub hand : Hand' s c
    pub nums : Nums m h stopped k epoch servers top round c
    pub each : Each (EarlyIn s c.next) q
    pub few : heavy q + ((length (asked hand) + length (asked hand)) + (servers + servers)) + (left_for hand + left_for hand) + (votes_left + votes_left) + rest ≤ n
    pub front : List NodeId
    pub back : List NodeId
    pub is : xs ≡ front ++ client_id k ∷ back
    pub not_front : Each Off front
    pub not_back : Each Off back

  pub record After (xs : List NodeId) (s : Net m) (q : List Packet) (n : ℕ) : Type 0 where
    pub others : Each Off xs
    pub early : At s q n

  abbrev pub EarlyPre : List NodeId → Net m → List Packet → ℕ → Type 0
  EarlyPre xs s q n = After xs s q n ⊎ WaitFor xs s (client_of m h s k) q n

  -- what another node's tick leaves
  record Left (s t : Net m) (sent : List Packet) : Type 0 where
    base : Fits t
    alike : Alike m s t
    client : client_of m h t k ≡ client_of m h s k
    rises : (u : ℕ) → (unit_of m s u).epoch ≤ (unit_of m t u).epoch
    highs : (u : ℕ) → (unit_of m t u).high < 2 ^ 62
    rests : (x : ℕ) → Near (seqr_of m h t x)
    each : Each (EarlyIn t (client_of m h s k).next) sent
    light : heavy sent ≤ 0

  later_as : (s t : Net m) (sent : List Packet) → Left s t sent → Later' s t
  later_as s t sent d = later_by m h stopped k epoch servers top round past near small fits first rest s t d.alike d.rises

  back_as : (s t : Net m) → Alike m s t → (n : NodeId) → on_in m stopped t n ≡ true → on_in m stopped s n ≡ true
  back_as s t a n e = sym (on_alike m stopped s t a n) ∙ e

  early_left : (s t : Net m) (q sent : List Packet) (n : ℕ) → Left s t sent → At s q n → At t (q ++ sent) n
  early_left s t q sent n d e =
      let both = weigh_both m h stopped k (first_layout h) q sent in
      let light = d.light in
      let few = e.few in
      subst (λ (c : Client m). EarlyFor m h stopped k epoch servers top round past near small fits first rest t c (q ++ sent) n) (sym d.client) (record {
        base = d.base;
        there = λ j on. e.there j (back_as s t d.alike (layout_id j) on);
        highs = d.highs;
        rests = d.rests;
        hand = hand_on m h stopped k epoch servers top round past near small fits first rest s t (client_of m h s k) (later_as s t sent d) e.hand;
        nums = e.nums;
        each = each_both (EarlyIn t (client_of m h s k).next) q sent (all_early m h stopped k epoch servers top round past near small fits first rest s t (client_of m h s k).next (client_of m h s k).next q (later_as s t sent d) (omega arith) e.each) d.each;
        flight = λ o has. more o (e.flight o has);
        few = omega (arith, both, light, few);
      })
    where
      more : (o : Out) → Flight m h stopped k epoch servers top round past near small fits first rest q o → Flight m h stopped k epoch servers top round past near small fits first rest (q ++ sent) o
      more o (inl f) = inl (has_left q sent _ f)
      more o (inr f) = inr (f.0, (has_left q sent _ f.1.0, f.1.1))

  wait_left : (x : NodeId) (xs : List NodeId) (s t : Net m) (q sent : List Packet) (n : ℕ) → Off x → Left s t sent → WaitFor (x ∷ xs) s (client_of m h s k) q n → WaitFor xs t (client_of m h t k) (q ++ sent) n
  wait_left x xs s t q sent n off d w = by w.front refl
    where
      head_is : (x y : NodeId) (xs ys : List NodeId) → x ∷ xs ≡ y ∷ ys → x ≡ y
      head_is x y xs ys e = cc

      tail_is : (x y : NodeId) (xs ys : List NodeId) → x ∷ xs ≡ y ∷ ys → xs ≡ ys
      tail_is x y xs ys e = cc

      by : (fs : List NodeId) → w.front ≡ fs → WaitFor xs t (client_of m h t k) (q ++ sent) n
      by [] e = absurd (contrary (is_it x (head_is x (client_id k) xs w.back (subst (λ (gs : List NodeId). x ∷ xs ≡ gs ++ client_id k ∷ w.back) e w.is))) off)
      by (y ∷ fs) e = subst (λ (c : Client m). WaitFor xs t c (q ++ sent) n) (sym d.client) (record {
        base = d.base;
        there = λ j on. w.there j (back_as s t d.alike (layout_id j) on);
        highs = d.highs;
        rests = d.rests;
        hand = hand_on m h stopped k epoch servers top round past near small fits first rest s t (client_of m h s k) (later_as s t sent d) w.hand;
        nums = w.nums;
        each = each_both (EarlyIn t (client_of m h s k).next) q sent (all_early m h stopped k epoch servers top round past near small fits first rest s t (client_of m h s k).next (client_of m h s k).next q (later_as s t sent d) (omega arith) w.each) d.each;
        few = (let both = weigh_both m h stopped k (first_layout h) q sent in let light = d.light in let few = w.few in omega (arith, both, light, few));
        front = fs;
        back = w.back;
        is = tail_is x y xs (fs ++ client_id k ∷ w.back) (subst (λ (gs : List NodeId). x ∷ xs ≡ gs ++ client_id k ∷ w.back) e w.is);
        not_front = (subst (λ (gs : List NodeId). Each Off gs) e w.not_front).1;
        not_back = w.not_back;
      })

  pre_left : (x : NodeId) (xs : List NodeId) (s t : Net m) (q sent : List Packet) (n : ℕ) → Off x → Left s t sent → EarlyPre (x ∷ xs) s q n → EarlyPre xs t (q ++ sent) n
  pre_left x xs s t q sent n off d (inl a) = inl (record { others = a.others.1; early = early_left s t q sent n d a.early })
  pre_left x xs s t q sent n off d (inr w) = inr (wait_left x xs s t q sent n off d w)

  same_left : (s : Net m) → Fits s → ((u : ℕ) → (unit_of m s u).high < 2 ^ 62) → ((x : ℕ) → Near (seqr_of m h s x)) → Left s s []
  unfolding weigh
  same_left s b highs rests = record { base = b; alike = record { counts = λ r. refl }; client = refl; rises = λ u. omega arith; highs = highs; rests = rests; each = tt; light = omega arith }

  -- Another node ticks.

  tick_near : (x : SeqrState) → Near x → Near (seqr_tick x).now
  unfolding seqr_tick
  tick_near x e = e

  tick_highs : (s : Net m) (i : ℕ) (r : Role) → ((u : ℕ) → (unit_of m s u).high < 2 ^ 62) → (u : ℕ) → (unit_of m (net_ticked m h s i r) u).high < 2 ^ 62
  tick_highs s i role.Unit f u = f u
  tick_highs s i role.Layout f u = f u
  tick_highs s i role.Seqr f u = f u
  tick_highs s i role.Client f u = f u

  tick_rises : (s : Net m) (i : ℕ) (r : Role) (u : ℕ) → (unit_of m s u).epoch ≤ (unit_of m (net_ticked m h s i r) u).epoch
  tick_rises s i role.Unit u = omega arith
  tick_rises s i role.Layout u = omega arith
  tick_rises s i role.Seqr u = omega arith
  tick_rises s i role.Client u = omega arith

  tick_rests : (s : Net m) (i : ℕ) (r : Role) → ((x : ℕ) → Near (seqr_of m h s x)) → (x : ℕ) → Near (seqr_of m h (net_ticked m h s i r) x)
  tick_rests s i role.Unit f x = f x
  tick_rests s i role.Layout f x = f x
  tick_rests s i role.Client f x = f x
  tick_rests s i role.Seqr f x = by (set_index s.seqrs i (seqr_tick (seqr_of m h s i)).now x (new_seqr x h.limit (first_layout h)))
    where
      by : ((x ≡ i) × (slice_index_or (slice_set s.seqrs i (seqr_tick (seqr_of m h s i)).now) x (new_seqr x h.limit (first_layout h)) ≡ (seqr_tick (seqr_of m h s i)).now)) ⊎ (slice_index_or (slice_set s.seqrs i (seqr_tick (seqr_of m h s i)).now) x (new_seqr x h.limit (first_layout h)) ≡ seqr_of m h s x)
          → Near (slice_index_or (slice_set s.seqrs i (seqr_tick (seqr_of m h s i)).now) x (new_seqr x h.limit (first_layout h)))
      by (inl c) = subst (λ (z : SeqrState). Near z) (sym c.1) (tick_near (seqr_of m h s i) (f i))
      by (inr c) = subst (λ (z : SeqrState). Near z) (sym c) (f x)

  off_num : (j : ℕ) → node_eq (client_id j) (client_id k) ≡ false → Rattle.std.proofs.Common.eqb j k ≡ false
  unfolding node_eq
  off_num j e = e

  tick_each : (s t : Net m) (next i : ℕ) (r : Role) → Fits s → ((x : ℕ) → Near (seqr_of m h s x)) → node_eq (record { role = r; num = i }) (client_id k) ≡ false → on_in m stopped s (record { role = r; num = i }) ≡ true → Each (EarlyIn t next) (sent_ticked m h s i r)
  tick_each s t next i role.Unit b f off on = tt
  tick_each s t next i role.Layout b f off on = tt
  tick_each s t next i role.Seqr b f off on =
      let x = seqr_of m h s i in
      let n = tick_near x (f i) in
      scans_early m h stopped k epoch servers top round past near small fits first rest t next i (seqr_tick x).sends (tick_low m h stopped k epoch servers top round x (b.seqrs i)).sends (λ o has. scans_near (seqr_tick x).now.proj (seqr_tick x).now.scan n.0 n.1 o (tick_sends x o has))
  tick_each s t next i role.Client b f off on = subst (λ (ps : List Packet). Each (EarlyIn t next) ps) (sym (ap (λ (u : ClientTurn m). map (packet_of m (client_id i)) u.sends) (idle_ticks m h stopped k (first_layout h) (client_of m h s i) (b.idle i (off_num i off) on)))) tt

  tick_left : (s : Net m) (i : ℕ) (r : Role) → Fits s → ((u : ℕ) → (unit_of m s u).high < 2 ^ 62) → ((x : ℕ) → Near (seqr_of m h s x)) → node_eq (record { role = r; num = i }) (client_id k) ≡ false → on_in m stopped s (record { role = r; num = i }) ≡ true → Left s (net_ticked m h s i r) (sent_ticked m h s i r)
  tick_left s i r b highs rests off on =
      let d = other_turned m h stopped k epoch servers top round past near small fits First rest s [] i r b off on in
      record { base = d.turn.base; alike = d.turn.alike; client = d.turn.client; rises = tick_rises s i r; highs = tick_highs s i r highs; rests = tick_rests s i r rests; each = tick_each s (net_ticked m h s i r) (client_of m h s k).next i r b rests off on; light = d.turn.few }

  pre_base : (xs : List NodeId) (s : Net m) (q : List Packet) (n : ℕ) → EarlyPre xs s q n → Fits s
  pre_base xs s q n (inl a) = a.early.base
  pre_base xs s q n (inr w) = w.base

  pre_highs : (xs : List NodeId) (s : Net m) (q : List Packet) (n : ℕ) → EarlyPre xs s q n → (u : ℕ) → (unit_of m s u).high < 2 ^ 62
  pre_highs xs s q n (inl a) = a.early.highs
  pre_highs xs s q n (inr w) = w.highs

  pre_rests : (xs : List NodeId) (s : Net m) (q : List Packet) (n : ℕ) → EarlyPre xs s q n → (x : ℕ) → Near (seqr_of m h s x)
  pre_rests xs s q n (inl a) = a.early.rests
  pre_rests xs s q n (inr w) = w.rests

  other_ticks : (x : NodeId) (xs : List NodeId) (s : Net m) (q : List Packet) (n : ℕ) → Off x → on_in m stopped s x ≡ true → EarlyPre (x ∷ xs) s q n → EarlyPre xs (net_ticked m h s x.num x.role) (q ++ sent_ticked m h s x.num x.role) n
  other_ticks x xs s q n off on p = pre_left x xs s (net_ticked m h s x.num x.role) q (sent_ticked m h s x.num x.role) n off (tick_left s x.num x.role (pre_base (x ∷ xs) s q n p) (pre_highs (x ∷ xs) s q n p) (pre_rests (x ∷ xs) s q n p) off on) p

  -- The client ticks.

  asks_again : (s : Net m) (c : Client m) (f : Hand' s c) → hand_again_asks m c.stand f.work.hand ≡ asked f
  asks_again s c f = ap (λ (d : Hand m). hand_again_asks m c.stand d) f.hand ∙ ap (λ (os : List Out). this_or os (asked f)) (none_later m h stopped k epoch servers top round past near small fits first s f.reconf f.reconf.work f.ahead)

  self_tick : (s : Net m) (q : List Packet) (n : ℕ) (xs : List NodeId) (w : WaitFor (client_id k ∷ xs) s (client_of m h s k) q n) → Each Off xs → After xs (net_ticked m h s k role.Client) (q ++ sent_ticked m h s k role.Client) n
  self_tick s q n xs w rest' =
      let c = client_of m h s k in
      let f = w.hand in
      let now = called m (record c { next = c.next + c.layouts }) in
      let os = asked f in
      let latest = asked_of layout_id msg.AskLatest (waits_for (numbers c.layouts 0) c.next) in
      let is = tick_is m h stopped k epoch servers top round past near small fits First rest c f.work os f.waits (asks_again s c f) in
      let drawn = subst (λ (t : ClientTurn m). Drawn (reserved m c) c.next (t.sends ++ reserved m t.now) t.now.next) is (tick_draws m c).is in
      let moves = renumbered m h stopped k epoch servers top round c now (os ++ latest) w.nums drawn in
      let news = map (packet_of m (client_id k)) os in
      let asks = map (packet_of m (client_id k)) latest in
      let t : Net m = record s { clients = slice_set s.clients k now } in
      let here = set_there s.clients k now (new_client m h k) (clients_long m h stopped k epoch servers top round past near small fits First rest s w.base.on) in
      let both = weigh_both m h stopped k (first_layout h) q (news ++ asks) in
      let two = weigh_both m h stopped k (first_layout h) news asks in
      let a = weigh_asks m h stopped k (first_layout h) os in
      let b = weigh_asks m h stopped k (first_layout h) latest in
      let long = asked_long layout_id msg.AskLatest (waits_for (numbers c.layouts 0) c.next) in
      let all = all_long c.layouts c.next in
      let lay = f.layouts in
      let few = w.few in
      let l = later_by m h stopped k epoch servers top round past near small fits first rest s t (client_alike m s k now) (λ u. omega arith) in
      subst (λ (u : ClientTurn m). After xs (record s { clients = slice_set s.clients k u.now }) (q ++ map (packet_of m (client_id k)) u.sends) n) (sym is)
      (subst (λ (r : List Packet). After xs t (q ++ r) n) (sym (maps_both m h stopped k epoch servers top round past near small fits First rest os latest)) (record {
        others = rest';
        early = subst (λ (d : Client m). EarlyFor m h stopped k epoch servers top round past near small fits first rest t d (q ++ (news ++ asks)) n) (sym here) (record {
          base = base_client m h stopped k epoch servers top round past near small fits First rest s now w.base;
          there = λ j f. w.there j (back_as s t (client_alike m s k now) (layout_id j) f);
          highs = w.highs;
          rests = w.rests;
          hand = hand_on m h stopped k epoch servers top round past near small fits first rest s t now l (hand_again m h stopped k epoch servers top round past near small fits first s c now refl refl refl f);
          nums = moves.nums;
          each = each_both (EarlyIn t now.next) q (news ++ asks) (all_early m h stopped k epoch servers top round past near small fits first rest s t c.next now.next q l (omega arith) w.each)
              (each_both (EarlyIn t now.next) news asks (new_each (EarlyIn t now.next) os (λ o has. unit_new o has)) (new_each (EarlyIn t now.next) latest (λ o has. latest_new o has)));
          flight = λ o has. inl (has_right q (news ++ asks) _ (has_left news asks _ (mapped (packet_of m (client_id k)) os o has)));
          few = omega (arith, both, two, a, b, long, all, lay, few);
        });
      }))
    where
      unit_new : (o : Out) → Has (asked w.hand) o
          → EarlyIn (record s { clients = slice_set s.clients k (called m (record (client_of m h s k) { next = (client_of m h s k).next + (client_of m h s k).layouts })) }) ((client_of m h s k).next + (client_of m h s k).layouts) (packet_of m (client_id k) o)
      unit_new o has =
          let d = asks_one m h stopped k epoch servers top round past near small fits first s w.hand.reconf w.hand.reconf.work w.hand.next w.hand.ahead o has in
          let less = w.nums.below o (one_reserved m h stopped k epoch servers top round past near small fits first s (client_of m h s k) w.hand o has) in
          subst (λ (z : NodeId). EarlyIn (record s { clients = slice_set s.clients k (called m (record (client_of m h s k) { next = (client_of m h s k).next + (client_of m h s k).layouts })) }) ((client_of m h s k).next + (client_of m h s k).layouts) (packet_of m (client_id k) (out z o.rid o.msg))) (sym d.to) (AsksOf d.num o.rid o.msg (omega (arith, less)) d.of d.close)

      latest_new : (o : Out) → Has (asked_of layout_id msg.AskLatest (waits_for (numbers (client_of m h s k).layouts 0) (client_of m h s k).next)) o
          → EarlyIn (record s { clients = slice_set s.clients k (called m (record (client_of m h s k) { next = (client_of m h s k).next + (client_of m h s k).layouts })) }) ((client_of m h s k).next + (client_of m h s k).layouts) (packet_of m (client_id k) o)
      latest_new o has =
          let x = has_asked layout_id msg.AskLatest (waits_for (numbers (client_of m h s k).layouts 0) (client_of m h s k).next) o has in
          subst (λ (z : Out). EarlyIn (record s { clients = slice_set s.clients k (called m (record (client_of m h s k) { next = (client_of m h s k).next + (client_of m h s k).layouts })) }) ((client_of m h s k).next + (client_of m h s k).layouts) (packet_of m (client_id k) z)) (sym x.is)
          (AsksLatest x.num x.rid (below_from (client_of m h s k).layouts 0 (client_of m h s k).next x.num x.rid x.has))

  rest_off : (xs : List NodeId) (s : Net m) (q : List Packet) (n : ℕ) (w : WaitFor (client_id k ∷ xs) s (client_of m h s k) q n) (fs : List NodeId) → w.front ≡ fs → Each Off xs
  rest_off xs s q n w [] e = subst (λ (l : List NodeId). Each Off l) (sym (tail_is (client_id k) (client_id k) xs w.back (subst (λ (fs : List NodeId). client_id k ∷ xs ≡ fs ++ client_id k ∷ w.back) e w.is))) w.not_back
    where
      tail_is : (x y : NodeId) (xs ys : List NodeId) → x ∷ xs ≡ y ∷ ys → xs ≡ ys
      tail_is x y xs ys e = cc
  rest_off xs s q n w (y ∷ fs) e = absurd (contrary (is_it (client_id k) refl) (subst (λ (z : NodeId). Off z) (sym (head_is (client_id k) y xs (fs ++ client_id k ∷ w.back) (subst (λ (gs : List NodeId). client_id k ∷ xs ≡ gs ++ client_id k ∷ w.back) e w.is))) (subst (λ (gs : List NodeId). Each Off gs) e w.not_front).0))
    where
      head_is : (x y : NodeId) (xs ys : List NodeId) → x ∷ xs ≡ y ∷ ys → x ≡ y
      head_is x y xs ys e = cc

  one_self : (xs : List NodeId) (s : Net m) (q : List Packet) (n : ℕ) → EarlyPre (client_id k ∷ xs) s q n → EarlyPre xs (net_ticked m h s k role.Client) (q ++ sent_ticked m h s k role.Client) n
  one_self xs s q n (inl a) = absurd (contrary (itself m h stopped k epoch servers top round past near small fits first rest) a.others.0)
  one_self xs s q n (inr w) = inl (self_tick s q n xs w (rest_off xs s q n w w.front refl))

  it_or_not : (x : NodeId) → (node_eq x (client_id k) ≡ true) ⊎ Off x
  it_or_not x = by (node_eq x (client_id k)) refl
    where
      by : (b : Bool) → node_eq x (client_id k) ≡ b → (node_eq x (client_id k) ≡ true) ⊎ Off x
      by true e = inl e
      by false e = inr e

  one_ticks : (x : NodeId) (xs : List NodeId) (s : Net m) (q : List Packet) (n : ℕ) → EarlyPre (x ∷ xs) s q n → on_in m stopped s x ≡ true → EarlyPre xs (net_ticked m h s x.num x.role) (q ++ sent_ticked m h s x.num x.role) n
  one_ticks x xs s q n p on = by (it_or_not x)
    where
      by : (node_eq x (client_id k) ≡ true) ⊎ Off x → EarlyPre xs (net_ticked m h s x.num x.role) (q ++ sent_ticked m h s x.num x.role) n
      by (inl e) = let is = node_same x (client_id k) e in
          subst (λ (y : NodeId). EarlyPre xs (net_ticked m h s y.num y.role) (q ++ sent_ticked m h s y.num y.role) n) (sym is) (one_self xs s q n (subst (λ (y : NodeId). EarlyPre (y ∷ xs) s q n) is p))
      by (inr off) = other_ticks x xs s q n off on p

  off_ticks : (x : NodeId) (xs : List NodeId) (s : Net m) (q : List Packet) (n : ℕ) → EarlyPre (x ∷ xs) s q n → on_in m stopped s x ≡ false → EarlyPre xs s q n
  off_ticks x xs s q n p off = by (it_or_not x)
    where
      by : (node_eq x (client_id k) ≡ true) ⊎ Off x → EarlyPre xs s q n
      by (inl e) = absurd (contrary (subst (λ (y : NodeId). on_in m stopped s y ≡ true) (sym (node_same x (client_id k) e)) (pre_base (x ∷ xs) s q n p).on) off)
      by (inr not_it) = subst (λ (r : List Packet). EarlyPre xs s r n) (sym (nothing_new q)) (pre_left x xs s s q [] n not_it (same_left s (pre_base (x ∷ xs) s q n p) (pre_highs (x ∷ xs) s q n p) (pre_rests (x ∷ xs) s q n p)) p)

  no_middle : (fs : List NodeId) (y : NodeId) (ys : List NodeId) → [] ≡ fs ++ y ∷ ys → ⊥
  no_middle [] y ys e = absurd cc
  no_middle (f ∷ fs) y ys e = absurd cc

  all_ticked : (s : Net m) (q : List Packet) (n : ℕ) → EarlyPre [] s q n → At s q n
  all_ticked s q n (inl a) = a.early
  all_ticked s q n (inr w) = absurd (no_middle w.front (client_id k) w.back w.is)

  pub early_ticking : Ticking m k h stopped At EarlyPre
  early_ticking = record { one = one_ticks; other = off_ticks; all = all_ticked }
