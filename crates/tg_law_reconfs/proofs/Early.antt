-- Before the votes: units are asked, and then they begin.
use Rattle.std.proofs.Common.{◌≡◌, ◌⊎◌, ℕ, ◌+◌, ◌^◌, ◌<◌, ◌≤◌, List, [], ◌∷◌, ◌++◌, length, map, Bool, true, false, eqb, refl, ap, ◌∙◌, sym, subst, inl, inr, arith, Some, None, Option}
use Rattle.std.specs.Prelude.{slice_set, slice_index_or}
use Rattle.tg_base.specs.Layouts.{Layout}
use Rattle.tg_base.specs.Clusters.{Header}
use Rattle.tg_base.specs.declared.ids.NodeId.{NodeId}
use Rattle.tg_base.specs.declared.ids.Role.TheVariants as role
use Rattle.tg_base.specs.declared.msg.Msg.{Msg}
use Rattle.tg_base.specs.declared.msg.Msg.TheVariants as msg
use Rattle.tg_base.specs.declared.packet.Out.{Out}
use Rattle.tg_base.specs.declared.packet.Packet.{Packet}
use Rattle.tg_base.specs.Orders.{node_eq}
use Rattle.tg_kind.specs.Meaning.{Meaning}
use Rattle.tg_protocol.specs.Words.{unit_id, layout_id, seqr_id, client_id}
use Rattle.tg_protocol.specs.Layouts.{first_layout}
use Rattle.tg_protocol.specs.Requests.{out}
use Rattle.tg_protocol.specs.Replies.{Reply, IsLatest, reply}
use Rattle.tg_protocol.specs.Units.{UnitState, UnitAsk, Reads, Stores, Fills, Looks, new_unit, unit_ask, unit_step}
use Rattle.tg_protocol.specs.Sequencers.{SeqrState, new_seqr, seqr_step}
use Rattle.tg_protocol.specs.LayoutServers.{LayoutState, LayoutTurn, layout_ask, on_layout_ask, layout_step}
use Rattle.tg_protocol.specs.Reconfiguring.{Reconf, reconf_asks, later_asks}
use Rattle.tg_protocol.specs.Clients.{Client, new_client}
use Rattle.tg_protocol.specs.ClientSteps.{ClientTurn, client_deliver}
use Rattle.tg_protocol.specs.Worlds.{packet_of, answer_to}
use Rattle.tg_law_layouts.proofs.Moves.Clients.{reserved}
use Rattle.tg_law_layouts.proofs.Moves.Members.{Has, has_left, has_right, has_filter}
use Rattle.tg_law_layouts.proofs.Moves.Turns.{deliver_draws}
use Rattle.tg_law_finish.proofs.Finish.Counted.{cost}
use Rattle.tg_law_finish.proofs.Finish.Lines.{weigh_asks}
use Rattle.tg_law_finish.proofs.Finish.Lists.{Each, each_both, set_index, set_there}
use Rattle.tg_law_finish.proofs.Finish.Nets.{Net, net_if, sent_if, net_after, sent_then, on_in, Alike, on_alike, client_alike, unit_of, layout_of, seqr_of, client_of}
use Rattle.tg_law_finish.proofs.Finish.Others.{weigh, weight, weigh_both, from_weighs, to_weighs}
use Rattle.tg_law_finish.proofs.Finish.Settles.{Step}
use Rattle.tg_law_reconfs.proofs.Votes.{contrary, OfUnit, Base, Ok, Scans, Scanned, Asks, AsksUnit, Tells, TellOk, LatestLow, IsScan, TellsLow, scan_packet, told_packet, answer_packet}
use Rattle.tg_law_reconfs.proofs.Looks.{AsksNear, Since, ToldBy, GoesOn, told_rises, unit_says}
use Rattle.tg_law_reconfs.proofs.Nodes.{scan_epoch, latest_is, tells_low, layout_far, unit_far, AskTurn, AsksScan, scan_tells, scan_comes, told_low, seqr_turned, unit_tells, unit_comes, server_comes}
use Rattle.tg_law_reconfs.proofs.Scanning.{ScanBelow, LearnsNone, PosNear, Scan, step_below, step_proj, step_sends, scans_near, scan_high}
use Rattle.tg_law_reconfs.proofs.Turns.{First, left_of, HeardIn, Onward}
use Rattle.tg_law_reconfs.proofs.Drains.{Nums, Renumbered, renumbered, Votes, reserves}
use Rattle.tg_law_reconfs.proofs.Steps.{nothing_new, new_each, mapped, Inv, InFlight, any_step, votes_rise, work_heard, base_client, rises_client, clients_long}
use Rattle.tg_law_reconfs.proofs.Phases.{unit_layout, votes_first, units_left, Along, AsksOne, asks_one, asks_some, UnitsHand, hand_along, units_asked, reserved_one, one_reserved, Further, Comes', EOver, EFurther, EOn, answer_comes, latest_comes}

unit_num : (u v : ℕ) → unit_id u ≡ unit_id v → u ≡ v
unit_num u v e = ap (λ (n : NodeId). n.num) e

unit_client : (u k : ℕ) → unit_id u ≡ client_id k → ⊥
unit_client u k e = no (ap (λ (n : NodeId). n.role) e)
  where
    no : role.Unit ≡ role.Client → ⊥
    no e = cc

client_seqr : (k a : ℕ) → client_id k ≡ seqr_id a → ⊥
client_seqr k a e = no (ap (λ (n : NodeId). n.role) e)
  where
    no : role.Client ≡ role.Seqr → ⊥
    no e = cc

unit_seqr : (u a : ℕ) → unit_id u ≡ seqr_id a → ⊥
unit_seqr u a e = no (ap (λ (n : NodeId). n.role) e)
  where
    no : role.Unit ≡ role.Seqr → ⊥
    no e = cc

latest_step : (s : LayoutState) → layout_step s msg.AskLatest ≡ record { now = s; says = Some (msg.Latest s.latest) }
unfolding layout_step layout_ask on_layout_ask
latest_step s = refl

module _ (m : Meaning) (h : Header) (stopped : List NodeId) (k epoch servers top round : ℕ) (past : 2 ≤ epoch) (near : epoch < 2 ^ 32) (small : top + 1 < 2 ^ 32) (fits : round ≤ top) (first : round ≡ 1) (rest : ℕ) where
  abbrev Fits : Net m → Type 0
  Fits s = Base m h stopped k epoch servers top round s

  abbrev heavy : List Packet → ℕ
  heavy q = weigh m h stopped k (first_layout h) q

  abbrev votes_left : ℕ
  votes_left = votes_first m h stopped k epoch servers top round past near small fits first

  abbrev pub Hand' : Net m → Client m → Type 0
  Hand' s c = UnitsHand m h stopped k epoch servers top round past near small fits first s c

  abbrev pub asked : {s : Net m} → {c : Client m} → Hand' s c → List Out
  asked f = units_asked f.reconf

  abbrev left_for : {s : Net m} → {c : Client m} → Hand' s c → ℕ
  left_for f = units_left f.reconf f.reconf.work

  abbrev pub Later : Net m → Net m → Type 0
  Later s t = Along m h stopped k epoch servers top round past near small fits first s t

  abbrev asks_of : ℕ → ℕ → Msg → Packet
  asks_of u j y = packet_of m (client_id k) (out (unit_id u) j y)

  abbrev latest_ask : ℕ → ℕ → Packet
  latest_ask i j = packet_of m (client_id k) (out (layout_id i) j msg.AskLatest)

  abbrev pub told_by : NodeId → ℕ → Msg → Packet
  told_by a j y = answer_packet m h stopped k epoch servers top round a j y

  -- what is on its way
  pub data Early (s : Net m) (next : ℕ) : Packet → Type 0 where
    AsksOf : (u j : ℕ) (y : Msg) → j < next → OfUnit epoch y → AsksNear y → Early s next (asks_of u j y)
    AsksLatest : (i j : ℕ) → j < next → Early s next (latest_ask i j)
    TellsOf : (u j : ℕ) (y : Msg) → j < next → on_in m stopped s (unit_id u) ≡ true → ToldBy (unit_of m s u) (reply y) → Early s next (told_by (unit_id u) j y)
    TellsLatest : (i j : ℕ) (q : Layout) → j < next → on_in m stopped s (layout_id i) ≡ true → q.epoch ≤ epoch → Early s next (told_by (layout_id i) j (msg.Latest q))
    ScansUnit : (a u rid : ℕ) (y : Msg) → IsScan m h stopped k epoch servers top round (unit_ask y) → PosNear (unit_ask y) → Early s next (scan_packet m h stopped k epoch servers top round a u rid y)
    UnitScanned : (a u rid : ℕ) (y : Msg) → TellsLow m h stopped k epoch servers top round y → Early s next (told_packet m h stopped k epoch servers top round a u rid y)

  -- a sequencer's scan is of near positions
  abbrev pub SeqrNear : SeqrState → Type 0
  SeqrNear x = (x.proj.start < 2 ^ 62) × ScanBelow x

  early_grows : (s t : Net m) (next end : ℕ) (x : Packet) → Later s t → next ≤ end → Early s next x → Early t end x
  early_grows s t next end x l le (AsksOf u j y less of close) = AsksOf u j y (omega (arith, le, less)) of close
  early_grows s t next end x l le (AsksLatest i j less) = AsksLatest i j (omega (arith, le, less))
  early_grows s t next end x l le (TellsOf u j y less runs told) = TellsOf u j y (omega (arith, le, less)) (l.on (unit_id u) runs) (told_rises (unit_of m s u) (unit_of m t u) (reply y) (l.rises u) told)
  early_grows s t next end x l le (TellsLatest i j q less runs low) = TellsLatest i j q (omega (arith, le, less)) (l.on (layout_id i) runs) low
  early_grows s t next end x l le (ScansUnit a u rid y f g) = ScansUnit a u rid y f g
  early_grows s t next end x l le (UnitScanned a u rid y low) = UnitScanned a u rid y low

  pub all_early : (s t : Net m) (next end : ℕ) (q : List Packet) → Later s t → next ≤ end → Each (Early s next) q → Each (Early t end) q
  all_early s t next end [] l le a = tt
  all_early s t next end (x ∷ q) l le a = (early_grows s t next end x l le a.0, all_early s t next end q l le a.1)

  -- the request is on its way, or an answer with which the client goes on
  abbrev pub Flight : List Packet → Out → Type 0
  Flight q o = Has q (packet_of m (client_id k) o) ⊎ ((z : Msg) × (Has q (told_by o.to o.rid z) × GoesOn o.msg (reply z)))

  pub record EarlyFor (s : Net m) (c : Client m) (q : List Packet) (n : ℕ) : Type 0 where
    pub base : Fits s
    pub there : (i : ℕ) → on_in m stopped s (layout_id i) ≡ true → i < servers
    pub highs : (u : ℕ) → (unit_of m s u).high < 2 ^ 62
    pub rests : (x : ℕ) → SeqrNear (seqr_of m h s x)
    pub hand : Hand' s c
    pub nums : Nums m h stopped k epoch servers top round c
    pub each : Each (Early s c.next) q
    pub flight : (o : Out) → Has (asked hand) o → Flight q o
    pub few : heavy q + (left_for hand + left_for hand) + (votes_left + votes_left) + rest ≤ n

  abbrev pub EarlyAt : Net m → List Packet → ℕ → Type 0
  EarlyAt s q n = EarlyFor s (client_of m h s k) q n

  abbrev pub Before : Net m → List Packet → ℕ → Type 0
  Before s q n = Inv m h stopped k epoch servers top round past near small fits First rest s q n ⊎ EarlyAt s q n

  abbrev pub Next' : Net m → List Packet → Packet → ℕ → Type 0
  Next' s q x n = Step m k h stopped Before s q x n

  -- what is awaited
  ask_one : (s : Net m) (c : Client m) (f : Hand' s c) (o : Out) → Has (asked f) o → AsksOne m h stopped k epoch servers top round past near small fits first s o
  ask_one s c f o has = asks_one m h stopped k epoch servers top round past near small fits first s f.reconf f.reconf.work f.next f.ahead o has

  pub reserved_unit : (s : Net m) (c : Client m) (f : Hand' s c) (o : Out) → Has (reserved m c) o → AsksOne m h stopped k epoch servers top round past near small fits first s o
  reserved_unit s c f o has = ask_one s c f o (reserved_one m h stopped k epoch servers top round past near small fits first s c f o has)

  -- Where the votes begin, what is on its way is as it should be.

  abbrev OnlyUnits : List Out → ℕ → Type 0
  OnlyUnits aw next = (o : Out) → Has aw o → o.rid < next → ((u : ℕ) × (o.to ≡ unit_id u)) × OfUnit epoch o.msg

  -- a unit tells no layout
  told_no_layout : (x : UnitState) (y : Reply) → ToldBy x y → LatestLow m h stopped k epoch servers top round y
  told_no_layout x (IsLatest q) told = absurd told
  told_no_layout x y told = tt

  early_ok : (s t : Net m) (next end : ℕ) (aw : List Out) (x : Packet) → Later s t → next ≤ end → OnlyUnits aw next → Early s next x → Ok m h stopped k epoch servers top round t end aw x
  early_ok s t next end aw x l le back (AsksOf u j y less of close) = AsksUnit u j y (omega (arith, le, less)) of (λ z g. (back (out (unit_id u) j z) g less).1)
  early_ok s t next end aw x l le back (AsksLatest i j less) = Asks (out (layout_id i) j msg.AskLatest) (omega (arith, le, less)) (i, refl) (λ y g. let z = back (out (layout_id i) j y) g less in absurd (unit_layout z.0.0 i (sym z.0.1)))
  early_ok s t next end aw x l le back (TellsOf u j y less runs told) = Tells (unit_id u) j y (l.on (unit_id u) runs) (unit_far m h stopped k epoch servers top round past near fits u) (omega (arith, le, less)) (told_no_layout (unit_of m s u) (reply y) told)
      (λ w g. unit_tells m h stopped k epoch servers top round past near fits t (unit_id u) w (reply y) (back (out (unit_id u) j w) g less).1)
  early_ok s t next end aw x l le back (TellsLatest i j q less runs low) = Tells (layout_id i) j (msg.Latest q) (l.on (layout_id i) runs) (layout_far m h stopped k epoch servers top round past near fits i) (omega (arith, le, less)) (tells_low m h stopped k epoch servers top round past near fits q low)
      (λ w g. let z = back (out (layout_id i) j w) g less in absurd (unit_layout z.0.0 i (sym z.0.1)))
  early_ok s t next end aw x l le back (ScansUnit a u rid y f g) = Scans a u rid y f
  early_ok s t next end aw x l le back (UnitScanned a u rid y low) = Scanned a u rid y low

  all_ok : (s t : Net m) (next end : ℕ) (aw : List Out) (q : List Packet) → Later s t → next ≤ end → OnlyUnits aw next → Each (Early s next) q → Each (Ok m h stopped k epoch servers top round t end aw) q
  all_ok s t next end aw [] l le back a = tt
  all_ok s t next end aw (x ∷ q) l le back a = (early_ok s t next end aw x l le back a.0, all_ok s t next end aw q l le back a.1)

  -- A delivery.

  pub itself : node_eq (client_id k) (client_id k) ≡ true
  unfolding node_eq
  itself = same k
    where
      same : (n : ℕ) → eqb n n ≡ true
      same n = grind arith

  abbrev pub hand_on : (s t : Net m) (c : Client m) → Later s t → Hand' s c → Hand' t c
  hand_on s t c l f = hand_along m h stopped k epoch servers top round past near small fits first s t c l f

  abbrev OfHead : Packet → Out → Type 0
  OfHead x o = (packet_of m (client_id k) o ≡ x) ⊎ ((z : Msg) × ((told_by o.to o.rid z ≡ x) × GoesOn o.msg (reply z)))

  flight_tail : (x : Packet) (q sent : List Packet) (o : Out) → (OfHead x o → Flight (q ++ sent) o) → Flight (x ∷ q) o → Flight (q ++ sent) o
  flight_tail x q sent o f (inl (inl e)) = f (inl e)
  flight_tail x q sent o f (inl (inr g)) = inl (has_left q sent _ g)
  flight_tail x q sent o f (inr (z, (inl e, g))) = f (inr (z, (e, g)))
  flight_tail x q sent o f (inr (z, (inr i, g))) = inr (z, (has_left q sent _ i, g))

  pub later_by : (s t : Net m) → Alike m s t → ((u : ℕ) → (unit_of m s u).epoch ≤ (unit_of m t u).epoch) → Later s t
  later_by s t a rises = record { on = λ n e. on_alike m stopped s t a n ∙ e; rises = rises }

  on_back : (s t : Net m) → Alike m s t → (n : NodeId) → on_in m stopped t n ≡ true → on_in m stopped s n ≡ true
  on_back s t a n e = sym (on_alike m stopped s t a n) ∙ e

  -- another node's turn
  pub record Stays (s t : Net m) (sent : List Packet) (light : ℕ) : Type 0 where
    pub base : Fits t
    pub alike : Alike m s t
    pub client : client_of m h t k ≡ client_of m h s k
    pub rises : (u : ℕ) → (unit_of m s u).epoch ≤ (unit_of m t u).epoch
    pub highs : (u : ℕ) → (unit_of m t u).high < 2 ^ 62
    pub rests : (x : ℕ) → SeqrNear (seqr_of m h t x)
    pub each : Each (Early t (client_of m h s k).next) sent
    pub few : heavy sent ≤ light

  stays_step : (s t : Net m) (x : Packet) (q sent : List Packet) (n light : ℕ) (e : EarlyAt s (x ∷ q) n) → Stays s t sent light → cost k (Some x) + light ≤ weight m h stopped k (first_layout h) x → ((o : Out) → Has (asked e.hand) o → OfHead x o → Flight (q ++ sent) o) → Next' t (q ++ sent) x n
  unfolding weigh
  stays_step s t x q sent n light e d pays head =
      let both = weigh_both m h stopped k (first_layout h) q sent in
      let light' = d.few in
      let few = e.few in
      let l = later_by s t d.alike d.rises in
      record {
        left = heavy (q ++ sent) + (left_for e.hand + left_for e.hand) + (votes_left + votes_left) + rest;
        keeps = inr (subst (λ (c : Client m). EarlyFor t c (q ++ sent) (heavy (q ++ sent) + (left_for e.hand + left_for e.hand) + (votes_left + votes_left) + rest)) (sym d.client) (record {
          base = d.base;
          there = λ j on. e.there j (on_back s t d.alike (layout_id j) on);
          highs = d.highs;
          rests = d.rests;
          hand = hand_on s t (client_of m h s k) l e.hand;
          nums = e.nums;
          each = each_both (Early t (client_of m h s k).next) q sent (all_early s t (client_of m h s k).next (client_of m h s k).next q l (omega arith) e.each.1) d.each;
          flight = λ o has. flight_tail x q sent o (head o has) (e.flight o has);
          few = omega arith;
        }));
        pays = omega (arith, both, light', few, pays);
      }

  cost_light : (x : Packet) → cost k (Some x) + 0 ≤ weight m h stopped k (first_layout h) x
  unfolding weight
  cost_light x = omega arith

  ask_pays : (o : Out) → cost k (Some (packet_of m (client_id k) o)) + 1 ≤ weight m h stopped k (first_layout h) (packet_of m (client_id k) o)
  ask_pays o = let w = from_weighs m h stopped k (first_layout h) o in let a = w.0 in let b = w.1 in omega (arith, a, b)

  from_of : (x y : Packet) → x ≡ y → x.from ≡ y.from
  from_of x y e = ap (λ (z : Packet). z.from) e

  to_of : (x y : Packet) → x ≡ y → x.to ≡ y.to
  to_of x y e = ap (λ (z : Packet). z.to) e

  -- no request to a unit
  not_asked : (o z : Out) (u : ℕ) → z.to ≡ unit_id u → (o.to ≡ unit_id u → ⊥) → OfHead (packet_of m (client_id k) o) z → ⊥
  not_asked o z u to off (inl e) = off (sym (to_of (packet_of m (client_id k) z) (packet_of m (client_id k) o) e) ∙ to)
  not_asked o z u to off (inr (y, (e, g))) = unit_client u k (sym to ∙ from_of (told_by z.to z.rid y) (packet_of m (client_id k) o) e)

  pub scans_early : (t : Net m) (next a : ℕ) (os : List Out) → Each (AsksScan m h stopped k epoch servers top round) os → ((o : Out) → Has os o → PosNear (unit_ask o.msg)) → Each (Early t next) (map (packet_of m (seqr_id a)) os)
  scans_early t next a [] f g = tt
  scans_early t next a (o ∷ os) f g = (subst (λ (z : NodeId). Early t next (record { from = seqr_id a; to = z; rid = o.rid; msg = o.msg })) (sym f.0.to) (ScansUnit a f.0.unit o.rid o.msg f.0.scan (g o (inl refl))), scans_early t next a os f.1 (λ x h. g x (inr h)))

  units_long : (s : Net m) (u : ℕ) → on_in m stopped s (unit_id u) ≡ true → u < length s.units
  units_long s u e = grind arith

  module _ (s : Net m) (q : List Packet) (n : ℕ) where
    -- One unit goes on.

    unit_rises : (u : ℕ) (now : UnitState) → (unit_of m s u).epoch ≤ now.epoch → (v : ℕ) → (unit_of m s v).epoch ≤ (unit_of m (record s { units = slice_set s.units u now }) v).epoch
    unit_rises u now le v = by (set_index s.units u now v new_unit)
      where
        by : ((v ≡ u) × (slice_index_or (slice_set s.units u now) v new_unit ≡ now)) ⊎ (slice_index_or (slice_set s.units u now) v new_unit ≡ unit_of m s v) → (unit_of m s v).epoch ≤ (slice_index_or (slice_set s.units u now) v new_unit).epoch
        by (inl c) = let same = ap (λ (w : ℕ). (unit_of m s w).epoch) c.0 in let is = ap (λ (z : UnitState). z.epoch) c.1 in omega (arith, same, is, le)
        by (inr c) = let is = ap (λ (z : UnitState). z.epoch) c in omega (arith, is)

    unit_highs : (u : ℕ) (now : UnitState) → now.high < 2 ^ 62 → ((v : ℕ) → (unit_of m s v).high < 2 ^ 62) → (v : ℕ) → (unit_of m (record s { units = slice_set s.units u now }) v).high < 2 ^ 62
    unit_highs u now less all v = by (set_index s.units u now v new_unit)
      where
        by : ((v ≡ u) × (slice_index_or (slice_set s.units u now) v new_unit ≡ now)) ⊎ (slice_index_or (slice_set s.units u now) v new_unit ≡ unit_of m s v) → (slice_index_or (slice_set s.units u now) v new_unit).high < 2 ^ 62
        by (inl c) = subst (λ (z : UnitState). z.high < 2 ^ 62) (sym c.1) less
        by (inr c) = subst (λ (z : UnitState). z.high < 2 ^ 62) (sym c) (all v)

    -- a seal or a look comes to a unit
    unit_on : (u j : ℕ) (y : Msg) → j < (client_of m h s k).next → OfUnit epoch y → AsksNear y → on_in m stopped s (unit_id u) ≡ true → EarlyAt s (asks_of u j y ∷ q) n → Next' (net_after m h s (asks_of u j y) role.Unit) (q ++ sent_then m h s (asks_of u j y) role.Unit) (asks_of u j y) n
    unit_on u j y less of close on e =
        let x = unit_of m s u in
        let f = unit_says x y epoch of (e.base.units u) in
        let now = (unit_step x y).now in
        let t : Net m = record s { units = slice_set s.units u now } in
        let a = subst (λ (o : Option Msg). AskTurn m h stopped k epoch servers top round past near fits s (client_of m h s k).next [] (unit_id u) j t (answer_to m (asks_of u j y) o)) f.is
        (unit_comes m h stopped k epoch servers top round past near fits s (client_of m h s k).next [] u j y on less of (λ z g. absurd g) e.base) in
        let there = set_there s.units u now new_unit (units_long s u on) in
        let high = f.high in
        let old = e.highs u in
        subst (λ (o : Option Msg). Next' t (q ++ answer_to m (asks_of u j y) o) (asks_of u j y) n) (sym f.is)
        (stays_step s t (asks_of u j y) q (told_by (unit_id u) j f.says ∷ []) n 1 e (record {
          base = a.turn.base;
          alike = a.turn.alike;
          client = a.turn.client;
          rises = unit_rises u now f.rises;
          highs = unit_highs u now (omega (arith, high, old)) e.highs;
          rests = e.rests;
          each = (TellsOf u j f.says less (on_alike m stopped s _ a.turn.alike (unit_id u) ∙ on) (subst (λ (z : UnitState). ToldBy z (reply f.says)) (sym there) (f.told close old)), tt);
          few = a.turn.few;
        }) (ask_pays (out (unit_id u) j y)) (λ o has g. head f.says (f.good close old) o has g))
      where
        head : (z : Msg) → (Since y (unit_of m s u) → GoesOn y (reply z)) → (o : Out) → Has (asked e.hand) o → OfHead (asks_of u j y) o → Flight (q ++ (told_by (unit_id u) j z ∷ [])) o
        head z good o has (inl g) =
            let d = ask_one s (client_of m h s k) e.hand o has in
            let to : o.to ≡ unit_id u = to_of (packet_of m (client_id k) o) (asks_of u j y) g in
            let is : o.msg ≡ y = ap (λ (p : Packet). p.msg) g in
            let rid : o.rid ≡ j = ap (λ (p : Packet). p.rid) g in
            let num = unit_num d.num u (sym d.to ∙ to) in
            let ready : Since y (unit_of m s u) = subst (λ (w : Msg). Since w (unit_of m s u)) is (subst (λ (v : ℕ). Since o.msg (unit_of m s v)) num d.since) in
            inr (z, (subst (λ (a : NodeId). Has (q ++ (told_by (unit_id u) j z ∷ [])) (told_by a o.rid z)) (sym to) (subst (λ (i : ℕ). Has (q ++ (told_by (unit_id u) j z ∷ [])) (told_by (unit_id u) i z)) (sym rid) (has_right q (told_by (unit_id u) j z ∷ []) _ (inl refl))), subst (λ (w : Msg). GoesOn w (reply z)) (sym is) (good ready)))
        head z good o has (inr (w, (g, i))) = let d = ask_one s (client_of m h s k) e.hand o has in absurd (unit_client d.num k (sym d.to ∙ from_of (told_by o.to o.rid w) (asks_of u j y) g))

    off_step : (x : Packet) → (e : EarlyAt s (x ∷ q) n) → ((o : Out) → Has (asked e.hand) o → OfHead x o → ⊥) → Next' s (q ++ []) x n
    unfolding weigh
    off_step x e never = stays_step s s x q [] n 0 e (record { base = e.base; alike = record { counts = λ r. refl }; client = refl; rises = λ u. omega arith; highs = e.highs; rests = e.rests; each = tt; few = omega arith }) (cost_light x) (λ o has g. absurd (never o has g))

    ask_step : (u j : ℕ) (y : Msg) → j < (client_of m h s k).next → OfUnit epoch y → AsksNear y → (b : Bool) → on_in m stopped s (unit_id u) ≡ b → EarlyAt s (asks_of u j y ∷ q) n → Next' (net_if m b h s (asks_of u j y)) (q ++ sent_if m b h s (asks_of u j y)) (asks_of u j y) n
    ask_step u j y less of close true on e = unit_on u j y less of close on e
    ask_step u j y less of close false off e = off_step (asks_of u j y) e (λ o has g. never o has g)
      where
        never : (o : Out) → Has (asked e.hand) o → OfHead (asks_of u j y) o → ⊥
        never o has (inl g) =
            let d = ask_one s (client_of m h s k) e.hand o has in
            contrary d.runs (ap (λ (w : ℕ). on_in m stopped s (unit_id w)) (unit_num d.num u (sym d.to ∙ to_of (packet_of m (client_id k) o) (asks_of u j y) g)) ∙ off)
        never o has (inr (w, (g, i))) = let d = ask_one s (client_of m h s k) e.hand o has in unit_client d.num k (sym d.to ∙ from_of (told_by o.to o.rid w) (asks_of u j y) g)

    latest_away : (i j : ℕ) (o : Out) → AsksOne m h stopped k epoch servers top round past near small fits first s o → OfHead (latest_ask i j) o → ⊥
    latest_away i j o d g = not_asked (out (layout_id i) j msg.AskLatest) o d.num d.to (λ f. unit_layout d.num i (sym f)) g

    -- a layout server tells its latest layout
    latest_on : (i j : ℕ) → j < (client_of m h s k).next → on_in m stopped s (layout_id i) ≡ true → EarlyAt s (latest_ask i j ∷ q) n → Next' (net_after m h s (latest_ask i j) role.Layout) (q ++ sent_then m h s (latest_ask i j) role.Layout) (latest_ask i j) n
    latest_on i j less on e =
        let x = layout_of m h s i in
        let a = subst (λ (z : LayoutTurn). AskTurn m h stopped k epoch servers top round past near fits s (client_of m h s k).next [] (layout_id i) j (record s { layouts = slice_set s.layouts i z.now }) (answer_to m (latest_ask i j) z.says)) (latest_step x)
        (server_comes m h stopped k epoch servers top round past near fits s (client_of m h s k).next [] i j msg.AskLatest on less (i, refl) (λ z g. absurd g) e.base) in
        subst (λ (z : LayoutTurn). Next' (record s { layouts = slice_set s.layouts i z.now }) (q ++ answer_to m (latest_ask i j) z.says) (latest_ask i j) n) (sym (latest_step x))
        (stays_step s (record s { layouts = slice_set s.layouts i x }) (latest_ask i j) q (told_by (layout_id i) j (msg.Latest x.latest) ∷ []) n 1 e (record {
          base = a.turn.base;
          alike = a.turn.alike;
          client = a.turn.client;
          rises = λ u. omega arith;
          highs = e.highs;
          rests = e.rests;
          each = (TellsLatest i j x.latest less (on_alike m stopped s _ a.turn.alike (layout_id i) ∙ on) (e.base.layouts i).latest, tt);
          few = a.turn.few;
        }) (ask_pays (out (layout_id i) j msg.AskLatest)) (λ o has g. absurd (latest_away i j o (ask_one s (client_of m h s k) e.hand o has) g)))

    latest_step' : (i j : ℕ) → j < (client_of m h s k).next → (b : Bool) → on_in m stopped s (layout_id i) ≡ b → EarlyAt s (latest_ask i j ∷ q) n → Next' (net_if m b h s (latest_ask i j)) (q ++ sent_if m b h s (latest_ask i j)) (latest_ask i j) n
    latest_step' i j less true on e = latest_on i j less on e
    latest_step' i j less false off e = off_step (latest_ask i j) e (λ o has g. latest_away i j o (ask_one s (client_of m h s k) e.hand o has) g)

    -- A scan comes to a unit, and its answer to a sequencer.

    scan_of : (x : UnitAsk) → IsScan m h stopped k epoch servers top round x → Scan x
    scan_of (Reads e p) f = tt
    scan_of (Stores e p c) f = tt
    scan_of (Fills e p) f = tt
    scan_of (Looks e lo hi st) f = tt
    scan_of y f = absurd f

    answered : (t : Net m) (next a u rid : ℕ) (y : Msg) (o : Option Msg) → ((z : Msg) → o ≡ Some z → TellsLow m h stopped k epoch servers top round z) → Each (Early t next) (answer_to m (scan_packet m h stopped k epoch servers top round a u rid y) o)
    answered t next a u rid y None f = tt
    answered t next a u rid y (Some z) f = (UnitScanned a u rid z (f z refl), tt)

    scan_away : (a u rid : ℕ) (y : Msg) (o : Out) → AsksOne m h stopped k epoch servers top round past near small fits first s o → OfHead (scan_packet m h stopped k epoch servers top round a u rid y) o → ⊥
    scan_away a u rid y o d (inl f) = client_seqr k a (from_of (packet_of m (client_id k) o) (scan_packet m h stopped k epoch servers top round a u rid y) f)
    scan_away a u rid y o d (inr (z, (f, g))) = unit_seqr d.num a (sym d.to ∙ from_of (told_by o.to o.rid z) (scan_packet m h stopped k epoch servers top round a u rid y) f)

    told_away : (a u rid : ℕ) (y : Msg) (o : Out) → OfHead (told_packet m h stopped k epoch servers top round a u rid y) o → ⊥
    told_away a u rid y o (inl f) = unit_client u k (sym (from_of (packet_of m (client_id k) o) (told_packet m h stopped k epoch servers top round a u rid y) f))
    told_away a u rid y o (inr (z, (f, g))) = client_seqr k a (to_of (told_by o.to o.rid z) (told_packet m h stopped k epoch servers top round a u rid y) f)

    scan_on_unit : (a u rid : ℕ) (y : Msg) → IsScan m h stopped k epoch servers top round (unit_ask y) → PosNear (unit_ask y) → EarlyAt s (scan_packet m h stopped k epoch servers top round a u rid y ∷ q) n → Next' (net_after m h s (scan_packet m h stopped k epoch servers top round a u rid y) role.Unit) (q ++ sent_then m h s (scan_packet m h stopped k epoch servers top round a u rid y) role.Unit) (scan_packet m h stopped k epoch servers top round a u rid y) n
    unfolding unit_step
    scan_on_unit a u rid y f g e =
        let d = scan_comes m h stopped k epoch servers top round past near fits s (client_of m h s k).next [] a u rid y f e.base in
        stays_step s _ (scan_packet m h stopped k epoch servers top round a u rid y) q _ n 0 e (record {
          base = d.base;
          alike = d.alike;
          client = d.client;
          rises = unit_rises u (unit_step (unit_of m s u) y).now (let same = scan_epoch m h stopped k epoch servers top round (unit_of m s u) (unit_ask y) f in omega (arith, same));
          highs = unit_highs u (unit_step (unit_of m s u) y).now (scan_high (unit_of m s u) (unit_ask y) (scan_of (unit_ask y) f) g (e.highs u)) e.highs;
          rests = e.rests;
          each = answered _ (client_of m h s k).next a u rid y (unit_step (unit_of m s u) y).says (λ z i. scan_tells m h stopped k epoch servers top round (unit_of m s u) y z (e.base.units u) i);
          few = d.few;
        }) (cost_light (scan_packet m h stopped k epoch servers top round a u rid y)) (λ o has g'. absurd (scan_away a u rid y o (ask_one s (client_of m h s k) e.hand o has) g'))

    scan_step : (a u rid : ℕ) (y : Msg) → IsScan m h stopped k epoch servers top round (unit_ask y) → PosNear (unit_ask y) → (b : Bool) → EarlyAt s (scan_packet m h stopped k epoch servers top round a u rid y ∷ q) n → Next' (net_if m b h s (scan_packet m h stopped k epoch servers top round a u rid y)) (q ++ sent_if m b h s (scan_packet m h stopped k epoch servers top round a u rid y)) (scan_packet m h stopped k epoch servers top round a u rid y) n
    scan_step a u rid y f g true e = scan_on_unit a u rid y f g e
    scan_step a u rid y f g false e = off_step (scan_packet m h stopped k epoch servers top round a u rid y) e (λ o has g'. scan_away a u rid y o (ask_one s (client_of m h s k) e.hand o has) g')

    learns_none : (y : Msg) → TellsLow m h stopped k epoch servers top round y → LearnsNone y
    learns_none (msg.Learn q) f = f
    learns_none (msg.Token e os) f = f
    learns_none (msg.Check e os) f = f
    learns_none y f = tt

    told_seqr : (a u rid : ℕ) (y : Msg) → TellsLow m h stopped k epoch servers top round y → EarlyAt s (told_packet m h stopped k epoch servers top round a u rid y ∷ q) n → Next' (net_after m h s (told_packet m h stopped k epoch servers top round a u rid y) role.Seqr) (q ++ sent_then m h s (told_packet m h stopped k epoch servers top round a u rid y) role.Seqr) (told_packet m h stopped k epoch servers top round a u rid y) n
    told_seqr a u rid y low e =
        let x = seqr_of m h s a in
        let t = seqr_step x (unit_id u) rid y in
        let f = told_low m h stopped k epoch servers top round x (unit_id u) rid y low (e.base.seqrs a) in
        let d = seqr_turned m h stopped k epoch servers top round past near fits s (client_of m h s k).next [] a t f e.base in
        let proj = step_proj x (unit_id u) rid y (learns_none y low) in
        let fine : SeqrNear t.now = (subst (λ (p : Layout). p.start < 2 ^ 62) (sym proj) (e.rests a).0, step_below x (unit_id u) rid y (e.rests a).1) in
        stays_step s _ (told_packet m h stopped k epoch servers top round a u rid y) q _ n 0 e (record {
          base = d.base;
          alike = d.alike;
          client = d.client;
          rises = λ u. omega arith;
          highs = e.highs;
          rests = λ v. by t.now fine v (set_index s.seqrs a t.now v (new_seqr v h.limit (first_layout h)));
          each = scans_early (record s { seqrs = slice_set s.seqrs a t.now }) (client_of m h s k).next a t.sends f.sends (λ o has. scans_near t.now.proj t.now.scan fine.0 fine.1 o (step_sends x (unit_id u) rid y (learns_none y low) o has));
          few = d.few;
        }) (cost_light (told_packet m h stopped k epoch servers top round a u rid y)) (λ o has g. absurd (told_away a u rid y o g))
      where
        by : (now : SeqrState) → SeqrNear now → (v : ℕ) → ((v ≡ a) × (slice_index_or (slice_set s.seqrs a now) v (new_seqr v h.limit (first_layout h)) ≡ now)) ⊎ (slice_index_or (slice_set s.seqrs a now) v (new_seqr v h.limit (first_layout h)) ≡ seqr_of m h s v) → SeqrNear (slice_index_or (slice_set s.seqrs a now) v (new_seqr v h.limit (first_layout h)))
        by now fine v (inl c) = subst (λ (z : SeqrState). SeqrNear z) (sym c.1) fine
        by now fine v (inr c) = subst (λ (z : SeqrState). SeqrNear z) (sym c) (e.rests v)

    told_step : (a u rid : ℕ) (y : Msg) → TellsLow m h stopped k epoch servers top round y → (b : Bool) → EarlyAt s (told_packet m h stopped k epoch servers top round a u rid y ∷ q) n → Next' (net_if m b h s (told_packet m h stopped k epoch servers top round a u rid y)) (q ++ sent_if m b h s (told_packet m h stopped k epoch servers top round a u rid y)) (told_packet m h stopped k epoch servers top round a u rid y) n
    told_step a u rid y low true e = told_seqr a u rid y low e
    told_step a u rid y low false e = off_step (told_packet m h stopped k epoch servers top round a u rid y) e (λ o has g. told_away a u rid y o g)

    -- The client's own turn.
    module _ (a : NodeId) (rid : ℕ) (y : Msg) (far : node_eq a (client_id k) ≡ false) (e : EarlyAt s (told_by a rid y ∷ q) n) where
      abbrev x : Packet
      x = told_by a rid y

      abbrev c : Client m
      c = client_of m h s k

      abbrev t : ClientTurn m
      t = client_deliver m c a rid y

      abbrev s' : Client m → Net m
      s' now = record s { clients = slice_set s.clients k now }

      here : (now : Client m) → client_of m h (s' now) k ≡ now
      here now = set_there s.clients k now (new_client m h k) (clients_long m h stopped k epoch servers top round past near small fits First rest s e.base.on)

      costs : (weight m h stopped k (first_layout h) x ≡ 1) × (cost k (Some x) ≡ 1)
      costs = to_weighs m h stopped k (first_layout h) a rid y far

      later' : (now : Client m) → Later s (s' now)
      later' now = later_by s (s' now) (client_alike m s k now) (λ u. omega arith)

      back' : (now : Client m) (z : NodeId) → on_in m stopped (s' now) z ≡ true → on_in m stopped s z ≡ true
      back' now z f = sym (on_alike m stopped s (s' now) (client_alike m s k now) z) ∙ f

      moves : Renumbered m h stopped k epoch servers top round c t.now
      moves = renumbered m h stopped k epoch servers top round c t.now t.sends e.nums (deliver_draws m c a rid y).is

      olds : OnlyUnits (reserved m t.now) c.next
      olds o has less = let d = reserved_unit s c e.hand o (moves.back o has less) in ((d.num, d.to), d.of)

      old_each : Each (Ok m h stopped k epoch servers top round (s' t.now) t.now.next (reserved m t.now)) q
      old_each = all_ok s (s' t.now) c.next t.now.next (reserved m t.now) q (later' t.now) moves.up olds e.each.1

      base' : (now : Client m) → Fits (s' now)
      base' now = base_client m h stopped k epoch servers top round past near small fits First rest s now e.base

      flight_on : (o : Out) → Has (asked e.hand) o → (o.to ≡ a → o.rid ≡ rid → GoesOn o.msg (reply y) → ⊥) → Flight q o
      flight_on o has off = by (e.flight o has)
        where
          by : Flight (x ∷ q) o → Flight q o
          by (inl (inl f)) = absurd (contrary (subst (λ (z : NodeId). node_eq z (client_id k) ≡ true) (from_of (packet_of m (client_id k) o) x f) itself) far)
          by (inl (inr g)) = inl g
          by (inr (z, (inl f, g))) = absurd (off (from_of (told_by o.to o.rid z) x f) (ap (λ (p : Packet). p.rid) f) (subst (λ (w : Msg). GoesOn o.msg (reply w)) (ap (λ (p : Packet). p.msg) f) g))
          by (inr (z, (inr i, g))) = inr (z, (i, g))

      over_turn : t.now.work ≡ None → t.sends ≡ [] → Next' (s' t.now) (q ++ map (packet_of m (client_id k)) t.sends) x n
      unfolding weigh
      over_turn none sends = subst (λ (os : List Out). Next' (s' t.now) (q ++ map (packet_of m (client_id k)) os) x n) (sym sends)
          (subst (λ (r : List Packet). Next' (s' t.now) r x n) (nothing_new q) (
          let few = e.few in
          let w = costs in
          let one = w.0 in
          let two = w.1 in
          record {
            left = heavy q + rest;
            keeps = inl (inl (record {
              base = base' t.now;
              there = λ j on. e.there j (back' t.now (layout_id j) on);
              each = subst (λ (d : Client m). Each (Ok m h stopped k epoch servers top round (s' t.now) d.next (reserved m d)) q) (sym (here t.now)) old_each;
              none = ap (λ (d : Client m). d.work) (here t.now) ∙ none;
              few = omega arith;
            }));
            pays = omega (arith, few, one, two);
          }))

      further_turn : Further m h stopped k epoch servers top round past near small fits first s c e.hand a rid (reply y) t → Next' (s' t.now) (q ++ map (packet_of m (client_id k)) t.sends) x n
      unfolding weigh
      further_turn g = subst (λ (os : List Out). Next' (s' t.now) (q ++ map (packet_of m (client_id k)) os) x n) (sym g.sends) (
          let few = e.few in
          let w = costs in
          let one = w.0 in
          let two = w.1 in
          let news = map (packet_of m (client_id k)) g.new in
          let both = weigh_both m h stopped k (first_layout h) q news in
          let out' = weigh_asks m h stopped k (first_layout h) g.new in
          let less = g.few in
          record {
            left = heavy (q ++ news) + (left_for g.hand + left_for g.hand) + (votes_left + votes_left) + rest;
            keeps = inr (subst (λ (z : Client m). EarlyFor (s' t.now) z (q ++ news) (heavy (q ++ news) + (left_for g.hand + left_for g.hand) + (votes_left + votes_left) + rest)) (sym (here t.now)) (record {
              base = base' t.now;
              there = λ j on. e.there j (back' t.now (layout_id j) on);
              highs = e.highs;
              rests = e.rests;
              hand = hand_on s (s' t.now) t.now (later' t.now) g.hand;
              nums = moves.nums;
              each = each_both (Early (s' t.now) t.now.next) q news (all_early s (s' t.now) c.next t.now.next q (later' t.now) moves.up e.each.1) (new_each _ g.new (λ o has. new_early o has));
              flight = λ o has. by o (g.kept o has);
              few = omega arith;
            }));
            pays = omega (arith, few, one, two, both, out', less);
          })
        where
          new_early : (o : Out) → Has g.new o → Early (s' t.now) t.now.next (packet_of m (client_id k) o)
          new_early o has =
              let d = ask_one s t.now g.hand o (g.only o has) in
              let less = moves.nums.below o (one_reserved m h stopped k epoch servers top round past near small fits first s t.now g.hand o (g.only o has)) in
              subst (λ (z : NodeId). Early (s' t.now) t.now.next (packet_of m (client_id k) (out z o.rid o.msg))) (sym d.to) (AsksOf d.num o.rid o.msg less d.of d.close)

          by : (o : Out) → Has g.new o ⊎ (Has (asked e.hand) o × (o.to ≡ a → o.rid ≡ rid → GoesOn o.msg (reply y) → ⊥)) → Flight (q ++ map (packet_of m (client_id k)) g.new) o
          by o (inl has) = inl (has_right q (map (packet_of m (client_id k)) g.new) _ (mapped (packet_of m (client_id k)) g.new o has))
          by o (inr old) = on (flight_on o old.0 old.1)
            where
              on : Flight q o → Flight (q ++ map (packet_of m (client_id k)) g.new) o
              on (inl i) = inl (has_left q (map (packet_of m (client_id k)) g.new) _ i)
              on (inr (z, i)) = inr (z, (has_left q (map (packet_of m (client_id k)) g.new) _ i.0, i.1))

      on_turn : (r : Reconf) (o : Onward m h stopped k epoch servers top round First s a rid [] (λ i. ⊥) votes_left c.next r) → Votes m h stopped k epoch servers top round First s true t.now r → t.sends ≡ o.new
          → Next' (s' t.now) (q ++ map (packet_of m (client_id k)) t.sends) x n
      unfolding weigh
      on_turn r o v sends = subst (λ (os : List Out). Next' (s' t.now) (q ++ map (packet_of m (client_id k)) os) x n) (sym sends) (
          let few = e.few in
          let w = costs in
          let one = w.0 in
          let two = w.1 in
          let news = map (packet_of m (client_id k)) o.new in
          let both = weigh_both m h stopped k (first_layout h) q news in
          let out' = weigh_asks m h stopped k (first_layout h) o.new in
          let less = o.few in
          let left' = left_of m h stopped k epoch servers top round true r.work in
          record {
            left = heavy (q ++ news) + (left' + left') + rest;
            keeps = inl (inr (record {
              base = base' t.now;
              there = λ j on. e.there j (back' t.now (layout_id j) on);
              each = subst (λ (d : Client m). Each (Ok m h stopped k epoch servers top round (s' t.now) d.next (reserved m d)) (q ++ news)) (sym (here t.now)) (each_both _ q news old_each (new_each _ o.new (λ z has. new_ok z has)));
              begun = true;
              reconf = r;
              votes = subst (λ (d : Client m). Votes m h stopped k epoch servers top round First (s' t.now) true d r) (sym (here t.now)) (votes_rise m h stopped k epoch servers top round past near small fits First rest s (s' t.now) true t.now r rises (client_alike m s k t.now) v);
              nums = subst (λ (d : Client m). Nums m h stopped k epoch servers top round d) (sym (here t.now)) moves.nums;
              flight = λ i j on has. by i j (o.live i j has);
              left = left';
              enough = omega arith;
              few = omega arith;
            }));
            pays = omega (arith, few, one, two, both, out', less);
          })
        where
          rises : Rattle.tg_law_reconfs.proofs.Votes.Grows m h stopped k epoch servers top round s (s' t.now)
          rises = rises_client m h stopped k epoch servers top round past near small fits First rest s t.now

          in_asks : (z : Out) → Has o.new z → Has (reserved m t.now) z
          in_asks z has = subst (λ (os : List Out). Has os z) (sym (reserves m h stopped k epoch servers top round First s true t.now r v)) (has_left (reconf_asks r) (later_asks r r.work) z (has_filter _ (reconf_asks r) z (subst (λ (os : List Out). Has os z) (sym o.drawn) has)))

          new_ok : (z : Out) → Has o.new z → Ok m h stopped k epoch servers top round (s' t.now) t.now.next (reserved m t.now) (packet_of m (client_id k) z)
          new_ok z has = Asks z (moves.nums.below z (in_asks z has)) (o.asks z has) (λ w f. moves.nums.one (out z.to z.rid w) z f (in_asks z has) refl refl)

          by : (i j : ℕ) → ((w : Msg) × Has o.new (out (layout_id i) j w)) ⊎ (((Has {X = ℕ × ℕ} [] (i, j) × ((a ≡ layout_id i) → rid ≡ j → ⊥)) × (⊥ → HeardIn m h stopped k epoch servers top round true s r.work i)) ⊎ HeardIn m h stopped k epoch servers top round true s r.work i)
              → InFlight m h stopped k epoch servers top round past near small fits First rest (q ++ map (packet_of m (client_id k)) o.new) i j ⊎ HeardIn m h stopped k epoch servers top round true (s' t.now) r.work i
          by i j (inl (w, has)) = inl (inl (w, has_right q (map (packet_of m (client_id k)) o.new) _ (mapped (packet_of m (client_id k)) o.new (out (layout_id i) j w) has)))
          by i j (inr (inl f)) = absurd f.0.0
          by i j (inr (inr f)) = inr (work_heard m h stopped k epoch servers top round past near small fits First rest s (s' t.now) true r.stand r.work i rises v.fine.work f)

      client_turn : Comes' m h stopped k epoch servers top round past near small fits first s c e.hand a rid (reply y) t → Next' (s' t.now) (q ++ map (packet_of m (client_id k)) t.sends) x n
      client_turn (EOver none sends) = over_turn none sends
      client_turn (EFurther g) = further_turn g
      client_turn (EOn r o v sends) = on_turn r o v sends

  -- All packets.

  any_early : (s : Net m) (x : Packet) (q : List Packet) (n : ℕ) → Early s (client_of m h s k).next x → EarlyAt s (x ∷ q) n → (b : Bool) → on_in m stopped s x.to ≡ b → Next' (net_if m b h s x) (q ++ sent_if m b h s x) x n
  any_early s _ q n (AsksOf u j y less of close) e b on = ask_step s q n u j y less of close b on e
  any_early s _ q n (AsksLatest i j less) e b on = latest_step' s q n i j less b on e
  any_early s _ q n (TellsOf u j y less runs told) e true on = client_turn s q n (unit_id u) j y (unit_far m h stopped k epoch servers top round past near fits u) e (answer_comes m h stopped k epoch servers top round past near small fits first s e.there e.base.units (client_of m h s k) e.hand e.nums u j y told)
  any_early s _ q n (TellsOf u j y less runs told) e false off = absurd (contrary e.base.on off)
  any_early s _ q n (TellsLatest i j p less runs low) e true on = client_turn s q n (layout_id i) j (msg.Latest p) (layout_far m h stopped k epoch servers top round past near fits i) e
      (subst (λ (y : Reply). Comes' m h stopped k epoch servers top round past near small fits first s (client_of m h s k) e.hand (layout_id i) j y (client_deliver m (client_of m h s k) (layout_id i) j (msg.Latest p))) (sym (latest_is m h stopped k epoch servers top round past near fits p low))
      (latest_comes m h stopped k epoch servers top round past near small fits first s e.there e.base.units (client_of m h s k) e.hand e.nums i j p low))
  any_early s _ q n (TellsLatest i j p less runs low) e false off = absurd (contrary e.base.on off)
  any_early s _ q n (ScansUnit a u rid y f g) e b on = scan_step s q n a u rid y f g b e
  any_early s _ q n (UnitScanned a u rid y low) e b on = told_step s q n a u rid y low b e

  pub before_step : (s : Net m) (x : Packet) (q : List Packet) (n : ℕ) → Before s (x ∷ q) n → Next' (net_if m (on_in m stopped s x.to) h s x) (q ++ sent_if m (on_in m stopped s x.to) h s x) x n
  before_step s x q n (inl i) = let y = any_step m h stopped k epoch servers top round past near small fits First rest s x q n i in record { left = y.left; keeps = inl y.keeps; pays = y.pays }
  before_step s x q n (inr e) = any_early s x q n e.each.0 e (on_in m stopped s x.to) refl

  -- where nothing is on its way it isn't so early
  pub not_early : (s : Net m) (n : ℕ) → EarlyAt s [] n → ⊥
  not_early s n e = by (asks_some m h stopped k epoch servers top round past near small fits first s e.hand.reconf e.hand.reconf.work e.hand.ahead)
    where
      by : ((o : Out) × Has (asked e.hand) o) → ⊥
      by x = no (e.flight x.0 x.1)
        where
          no : Flight [] x.0 → ⊥
          no (inl g) = g
          no (inr g) = g.1.0
