-- A drain while the new sequencer scans: what may be on its way, and what each delivery makes of it.
use Rattle.std.proofs.Common.{◌≡◌, ◌⊎◌, ℕ, ◌+◌, ◌*◌, ◌<◌, ◌≤◌, List, [], ◌∷◌, length, map, not, ◌&&◌, ◌||◌, Bool, true, false, eqb, refl, ap, ◌∙◌, sym, subst, inl, inr, arith, Some, None, Option}
use Rattle.std.specs.Prelude.{slice_set, slice_index_or, ⊤}
use Rattle.tg_base.specs.Clusters.{Header}
use Rattle.tg_base.specs.Layouts.{Layout, IsLayout}
use Rattle.tg_base.specs.declared.ids.NodeId.{NodeId}
use Rattle.tg_base.specs.declared.ids.Role.TheVariants as role
use Rattle.tg_base.specs.declared.msg.Msg.{Msg}
use Rattle.tg_base.specs.declared.msg.Msg.TheVariants as msg
use Rattle.tg_base.specs.declared.packet.Out.{Out}
use Rattle.tg_base.specs.declared.packet.Packet.{Packet}
use Rattle.tg_base.specs.Orders.{node_eq}
use Rattle.tg_kind.specs.Meaning.{Meaning}
use Rattle.tg_protocol.specs.Words.{unit_id, layout_id, seqr_id, client_id, too_far}
use Rattle.tg_protocol.specs.Layouts.{units_of, first_layout}
use Rattle.tg_protocol.specs.Requests.{out}
use Rattle.tg_protocol.specs.Units.{UnitState, UnitAsk, Reads, Stores, Fills, Looks, Seals, TrimsBelow, Nothing, new_unit, unit_ask, unit_step}
use Rattle.tg_protocol.specs.LayoutServers.{LayoutState, new_layout, layout_ask, on_layout_ask, layout_step}
use Rattle.tg_protocol.specs.Sequencers.{SeqrState, SeqrTurn, new_seqr, seqr_asks, scan_asks}
use Rattle.tg_protocol.specs.Reconfiguring.{Reconf, Starting}
use Rattle.tg_protocol.specs.Clients.{Client, new_client}
use Rattle.tg_protocol.specs.Worlds.{packet_of, answer_to}
use Rattle.tg_protocol.specs.Finishing.{is_with, is_with_client, is_scan}
use Rattle.tg_law_layouts.specs.Steps.Runs.{epoch_of}
use Rattle.tg_law_layouts.proofs.Moves.Members.{Has}
use Rattle.tg_law_finish.proofs.Finish.Counted.{one_if, cost}
use Rattle.tg_law_finish.proofs.Finish.Lists.{Each, set_there, set_index, set_other}
use Rattle.tg_law_finish.proofs.Finish.Nets.{Net, net_after, sent_then, on_in, on_alike, Alike, unit_alike, seqr_alike, client_alike, alike_if, unit_of, layout_of, seqr_of, client_of}
use Rattle.tg_law_finish.proofs.Finish.Others.{weight, weigh, from_weighs, to_weighs}
use Rattle.tg_law_finish.proofs.Finish.Strays.{is_plain, same_epoch, unit_plain}
use Rattle.tg_law_reconfs.proofs.Nodes.{AsksScan, scans_ask}
use Rattle.tg_law_reconfs.proofs.Scanning.{Scan, LearnsNone}
use Rattle.tg_law_reconfs.proofs.Tapes.{sum_by}

-- Small words.

pub contrary : {b : Bool} → b ≡ true → b ≡ false → ⊥
contrary e f = grind arith

pub num_same : (a b : ℕ) → eqb a b ≡ true → a ≡ b
num_same a b e = grind arith

pub num_itself : (a : ℕ) → eqb a a ≡ true
num_itself a = grind arith

pub not_itself : (a b : ℕ) → a ≡ b → eqb a b ≡ false → ⊥
not_itself a b e f = same e f
  where
    same : a ≡ b → eqb a b ≡ false → ⊥
    same e f = grind arith

pub from_of : (x y : Packet) → x ≡ y → x.from ≡ y.from
from_of x y e = ap (λ (z : Packet). z.from) e

pub to_of : (x y : Packet) → x ≡ y → x.to ≡ y.to
to_of x y e = ap (λ (z : Packet). z.to) e

pub unit_seqr : (a b : ℕ) → unit_id a ≡ seqr_id b → ⊥
unit_seqr a b e = apart (ap (λ (n : NodeId). n.role) e)
  where
    apart : role.Unit ≡ role.Seqr → ⊥
    apart e = cc

pub unit_layout : (a b : ℕ) → unit_id a ≡ layout_id b → ⊥
unit_layout a b e = apart (ap (λ (n : NodeId). n.role) e)
  where
    apart : role.Unit ≡ role.Layout → ⊥
    apart e = cc

pub unit_client : (a b : ℕ) → unit_id a ≡ client_id b → ⊥
unit_client a b e = apart (ap (λ (n : NodeId). n.role) e)
  where
    apart : role.Unit ≡ role.Client → ⊥
    apart e = cc

pub seqr_layout : (a b : ℕ) → seqr_id a ≡ layout_id b → ⊥
seqr_layout a b e = apart (ap (λ (n : NodeId). n.role) e)
  where
    apart : role.Seqr ≡ role.Layout → ⊥
    apart e = cc

pub seqr_client : (a b : ℕ) → seqr_id a ≡ client_id b → ⊥
seqr_client a b e = apart (ap (λ (n : NodeId). n.role) e)
  where
    apart : role.Seqr ≡ role.Client → ⊥
    apart e = cc

pub layout_client : (a b : ℕ) → layout_id a ≡ client_id b → ⊥
layout_client a b e = apart (ap (λ (n : NodeId). n.role) e)
  where
    apart : role.Layout ≡ role.Client → ⊥
    apart e = cc

pub unit_num : (a b : ℕ) → unit_id a ≡ unit_id b → a ≡ b
unit_num a b e = ap (λ (n : NodeId). n.num) e

pub seqr_num : (a b : ℕ) → seqr_id a ≡ seqr_id b → a ≡ b
seqr_num a b e = ap (λ (n : NodeId). n.num) e

pub each_of : {X : Type 0} → (P : X → Type 0) (xs : List X) → ((x : X) → Has xs x → P x) → Each P xs
each_of P [] f = tt
each_of P (x ∷ xs) f = (f x (inl refl), each_of P xs (λ y h. f y (inr h)))

pub each_has : {X : Type 0} → (P : X → Type 0) (xs : List X) (x : X) → Each P xs → Has xs x → P x
each_has P [] x a h = absurd h
each_has P (y ∷ xs) x a (inl e) = subst P (sym e) a.0
each_has P (y ∷ xs) x a (inr h) = each_has P xs x a.1 h

-- what a scan asks is in some epoch
scan_at : (a : UnitAsk) → Scan a → (e : ℕ) × (epoch_of a ≡ Some e)
scan_at (Reads e p) f = (e, refl)
scan_at (Stores e p c) f = (e, refl)
scan_at (Fills e p) f = (e, refl)
scan_at (Looks e lo hi st) f = (e, refl)
scan_at (Seals e) f = absurd f
scan_at (TrimsBelow e b) f = absurd f
scan_at Nothing f = absurd f

pub plain_none : (y : Msg) → is_plain y ≡ true → LearnsNone y
unfolding is_plain
plain_none (msg.Learn q) e = absurd (cc)
plain_none (msg.Token d os) e = absurd (cc)
plain_none (msg.Check d os) e = absurd (cc)
plain_none y e = tt

-- Counting.

no_scan : (a b c : Bool) → b ≡ true → one_if (a && not (b || c)) ≡ 0
no_scan a b c e = grind (arith, e)

no_scan_to : (a b c : Bool) → c ≡ true → one_if (a && not (b || c)) ≡ 0
no_scan_to a b c e = grind (arith, e)

off_scan : (b : Bool) → b ≡ false → one_if ((b || false) && true) ≡ 0
off_scan b e = grind (arith, e)

own_scan : (b : Bool) → b ≡ true → one_if ((b || false) && true) ≡ 1
own_scan b e = grind (arith, e)

off_from : (b : Bool) → b ≡ false → one_if (b && true) ≡ 0
off_from b e = grind (arith, e)

own_from : (b : Bool) → b ≡ true → one_if (b && true) ≡ 1
own_from b e = grind (arith, e)

module _ (m : Meaning) (h : Header) (stopped : List NodeId) (k : ℕ) (p : Layout) (rules : IsLayout p) (r : Reconf) (rid : ℕ) (starting : r.work ≡ Starting rid) (stand : r.stand ≡ p) (servers : ℕ) where
  -- Packets.

  abbrev pub ask : Out
  ask = out (seqr_id p.seq) rid (msg.Learn p)

  abbrev pub ask_packet : Packet
  ask_packet = record { from = client_id k; to = seqr_id p.seq; rid = rid; msg = msg.Learn p }

  abbrev pub scan_packet : ℕ → ℕ → ℕ → Msg → Packet
  scan_packet x u i y = record { from = seqr_id x; to = unit_id u; rid = i; msg = y }

  abbrev pub told_packet : ℕ → ℕ → ℕ → Msg → Packet
  told_packet x u i y = record { from = unit_id u; to = seqr_id x; rid = i; msg = y }

  abbrev pub latest_packet : ℕ → ℕ → Packet
  latest_packet n i = record { from = client_id k; to = layout_id n; rid = i; msg = msg.AskLatest }

  abbrev pub newest_packet : ℕ → ℕ → Layout → Packet
  newest_packet n i q = record { from = layout_id n; to = client_id k; rid = i; msg = msg.Latest q }

  abbrev pub stand_packet : Msg → Packet
  stand_packet y = record { from = seqr_id p.seq; to = client_id k; rid = rid; msg = y }

  -- it scans still, or has come to the log's end
  abbrev pub Stand : Msg → Type 0
  Stand (msg.Scanning a b) = ⊤
  Stand (msg.Tail t ls) = (ls ≡ []) × (too_far t ≡ false)
  Stand y = ⊥

  pub data Ok : Packet → Type 0 where
    Scans : (x u i : ℕ) (y : Msg) → Scan (unit_ask y) → Ok (scan_packet x u i y)
    Scanned : (x u i : ℕ) (y : Msg) → is_plain y ≡ true → Ok (told_packet x u i y)
    AsksLatest : (n i : ℕ) → Ok (latest_packet n i)
    TellsLatest : (n i : ℕ) (q : Layout) → q.epoch ≤ p.epoch → Ok (newest_packet n i q)
    Learns : Ok ask_packet
    Tells : (y : Msg) → Stand y → Ok (stand_packet y)

  -- What packets may cost: of those with the client, and of the scan's.

  abbrev pub scan_cost : Packet → ℕ
  scan_cost x = one_if (is_scan m p.seq k x)

  abbrev pub scan_weight : Packet → ℕ
  scan_weight x = one_if (node_eq (seqr_id p.seq) x.from && not (is_with_client m k x)) + one_if (is_scan m p.seq k x)

  abbrev pub Weight : Packet → ℕ
  Weight x = weight m h stopped k p x

  abbrev pub Weigh : List Packet → ℕ
  Weigh q = weigh m h stopped k p q

  pub record Costs (x : Packet) (a b c d : ℕ) : Type 0 where
    pub weighs : Weight x ≡ a
    pub costs : cost k (Some x) ≡ b
    pub scan_weighs : scan_weight x ≡ c
    pub scan_costs : scan_cost x ≡ d

  self_client : node_eq (client_id k) (client_id k) ≡ true
  unfolding node_eq
  self_client = num_itself k

  two_of : (a b x y : ℕ) → a ≡ x → b ≡ y → a + b ≡ x + y
  two_of a b x y e f = omega (arith, e, f)

  pub scan_off : (x u i : ℕ) (y : Msg) → eqb p.seq x ≡ false → Costs (scan_packet x u i y) 0 0 0 0
  unfolding weight node_eq
  scan_off x u i y e = record { weighs = refl; costs = refl; scan_weighs = two_of _ _ 0 0 (off_from (eqb p.seq x) e) (off_scan (eqb p.seq x) e); scan_costs = off_scan (eqb p.seq x) e }

  pub scan_own : (x u i : ℕ) (y : Msg) → eqb p.seq x ≡ true → Costs (scan_packet x u i y) 0 0 2 1
  unfolding weight node_eq
  scan_own x u i y e = record { weighs = refl; costs = refl; scan_weighs = two_of _ _ 1 1 (own_from (eqb p.seq x) e) (own_scan (eqb p.seq x) e); scan_costs = own_scan (eqb p.seq x) e }

  pub told_off : (x u i : ℕ) (y : Msg) → eqb p.seq x ≡ false → Costs (told_packet x u i y) 0 0 0 0
  unfolding weight node_eq
  told_off x u i y e = record { weighs = refl; costs = refl; scan_weighs = two_of 0 _ 0 0 refl (off_from (eqb p.seq x) e); scan_costs = off_from (eqb p.seq x) e }

  pub told_own : (x u i : ℕ) (y : Msg) → eqb p.seq x ≡ true → Costs (told_packet x u i y) 0 0 1 1
  unfolding weight node_eq
  told_own x u i y e = record { weighs = refl; costs = refl; scan_weighs = two_of 0 _ 0 1 refl (own_from (eqb p.seq x) e); scan_costs = own_from (eqb p.seq x) e }

  pub from_costs : (o : Out) → Costs (packet_of m (client_id k) o) 2 1 0 0
  from_costs o =
      let w = from_weighs m h stopped k p o in
      record {
        weighs = w.0;
        costs = w.1;
        scan_weighs = two_of _ _ 0 0 (no_scan (node_eq (seqr_id p.seq) (client_id k)) (node_eq (client_id k) (client_id k)) (node_eq (client_id k) o.to) self_client) (no_scan (is_with m (seqr_id p.seq) (packet_of m (client_id k) o)) (node_eq (client_id k) (client_id k)) (node_eq (client_id k) o.to) self_client);
        scan_costs = no_scan (is_with m (seqr_id p.seq) (packet_of m (client_id k) o)) (node_eq (client_id k) (client_id k)) (node_eq (client_id k) o.to) self_client;
      }

  pub to_costs : (x : NodeId) (i : ℕ) (y : Msg) → node_eq x (client_id k) ≡ false → Costs (record { from = x; to = client_id k; rid = i; msg = y }) 1 1 0 0
  to_costs x i y off =
      let w = to_weighs m h stopped k p x i y off in
      record {
        weighs = w.0;
        costs = w.1;
        scan_weighs = two_of _ _ 0 0 (no_scan_to (node_eq (seqr_id p.seq) x) (node_eq (client_id k) x) (node_eq (client_id k) (client_id k)) self_client) (no_scan_to (is_with m (seqr_id p.seq) (record { from = x; to = client_id k; rid = i; msg = y })) (node_eq (client_id k) x) (node_eq (client_id k) (client_id k)) self_client);
        scan_costs = no_scan_to (is_with m (seqr_id p.seq) (record { from = x; to = client_id k; rid = i; msg = y })) (node_eq (client_id k) x) (node_eq (client_id k) (client_id k)) self_client;
      }

  pub seqr_far : (x : ℕ) → node_eq (seqr_id x) (client_id k) ≡ false
  unfolding node_eq
  seqr_far x = refl

  pub layout_far : (x : ℕ) → node_eq (layout_id x) (client_id k) ≡ false
  unfolding node_eq
  layout_far x = refl

  -- a list of one
  pub one_weighs : (x : Packet) (a b c d : ℕ) → Costs x a b c d → (Weigh (x ∷ []) ≡ a) × (sum_by scan_weight (x ∷ []) ≡ c)
  unfolding weigh sum_by
  one_weighs x a b c d f = let e = f.weighs in let g = f.scan_weighs in (omega (arith, e), omega (arith, g))

  pub none_weigh : (Weigh [] ≡ 0) × (sum_by scan_weight [] ≡ 0)
  unfolding weigh sum_by
  none_weigh = (refl, refl)

  pub more_weigh : (x : Packet) (q : List Packet) → (Weigh (x ∷ q) ≡ Weight x + Weigh q) × (sum_by scan_weight (x ∷ q) ≡ scan_weight x + sum_by scan_weight q)
  unfolding weigh sum_by
  more_weigh x q = (refl, refl)

  -- Nodes.

  abbrev pub Seqr : Net m → SeqrState
  Seqr s = seqr_of m h s p.seq

  abbrev pub Own : Net m → Client m
  Own s = client_of m h s k

  pub record Base (s : Net m) : Type 0 where
    pub on : on_in m stopped s (client_id k) ≡ true
    pub seqr_on : on_in m stopped s (seqr_id p.seq) ≡ true
    pub units_on : (u : ℕ) → Has (units_of p) u → on_in m stopped s (unit_id u) ≡ true
    pub units : (u : ℕ) → (unit_of m s u).epoch ≤ p.epoch
    pub layouts : (n : ℕ) → (layout_of m h s n).latest.epoch ≤ p.epoch
    pub idle : (j : ℕ) → eqb j k ≡ false → on_in m stopped s (client_id j) ≡ true → (client_of m h s j).work ≡ None

  pub base_of : (s t : Net m) → Alike m s t → Base s → ((u : ℕ) → (unit_of m t u).epoch ≤ p.epoch) → ((n : ℕ) → (layout_of m h t n).latest.epoch ≤ p.epoch)
      → ((j : ℕ) → eqb j k ≡ false → on_in m stopped s (client_id j) ≡ true → (client_of m h t j).work ≡ None) → Base t
  base_of s t a b units layouts idle = record {
    on = on_alike m stopped s t a (client_id k) ∙ b.on;
    seqr_on = on_alike m stopped s t a (seqr_id p.seq) ∙ b.seqr_on;
    units_on = λ u has. on_alike m stopped s t a (unit_id u) ∙ b.units_on u has;
    units = units;
    layouts = layouts;
    idle = λ j off on. idle j off (sym (on_alike m stopped s t a (client_id j)) ∙ on);
  }

  pub base_seqr : (s : Net m) (x : ℕ) (now : SeqrState) → Base s → Base (record s { seqrs = slice_set s.seqrs x now })
  base_seqr s x now b = base_of s (record s { seqrs = slice_set s.seqrs x now }) (seqr_alike m s x now) b b.units b.layouts b.idle

  pub base_client : (s : Net m) (now : Client m) → Base s → Base (record s { clients = slice_set s.clients k now })
  base_client s now b = base_of s (record s { clients = slice_set s.clients k now }) (client_alike m s k now) b b.units b.layouts (λ j off on. subst (λ (c : Client m). c.work ≡ None) (sym (set_other s.clients k now j (new_client m h j) off)) (b.idle j off on))

  pub clients_long : (s : Net m) → on_in m stopped s (client_id k) ≡ true → k < length s.clients
  clients_long s e = grind arith

  pub seqrs_long : (s : Net m) → on_in m stopped s (seqr_id p.seq) ≡ true → p.seq < length s.seqrs
  seqrs_long s e = grind arith

  pub own_there : (s : Net m) (now : Client m) → Base s → client_of m h (record s { clients = slice_set s.clients k now }) k ≡ now
  own_there s now b = set_there s.clients k now (new_client m h k) (clients_long s b.on)

  pub seqr_there : (s : Net m) (now : SeqrState) → Base s → seqr_of m h (record s { seqrs = slice_set s.seqrs p.seq now }) p.seq ≡ now
  seqr_there s now b = set_there s.seqrs p.seq now (new_seqr p.seq h.limit (first_layout h)) (seqrs_long s b.seqr_on)

  pub seqr_else : (s : Net m) (x : ℕ) (now : SeqrState) → eqb p.seq x ≡ false → seqr_of m h (record s { seqrs = slice_set s.seqrs x now }) p.seq ≡ seqr_of m h s p.seq
  seqr_else s x now off = set_other s.seqrs x now p.seq (new_seqr p.seq h.limit (first_layout h)) off

  -- A node's turn that doesn't touch the sequencer or the client.
  pub record Side (s t : Net m) (sent : List Packet) (a c : ℕ) : Type 0 where
    pub base : Base t
    pub seqr : Seqr t ≡ Seqr s
    pub client : Own t ≡ Own s
    pub each : Each Ok sent
    pub few : Weigh sent ≤ a
    pub scans : sum_by scan_weight sent ≤ c

  pub nothing_side : (s : Net m) → Base s → Side s s [] 0 0
  nothing_side s b = let w = none_weigh in let e = w.0 in let f = w.1 in record { base = b; seqr = refl; client = refl; each = tt; few = omega (arith, e); scans = omega (arith, f) }

  -- a unit
  answer_each : (x u i : ℕ) (y : Msg) (o : Option Msg) (c : ℕ) → ((z : Msg) → o ≡ Some z → is_plain z ≡ true) → ((z : Msg) → Costs (told_packet x u i z) 0 0 c c)
      → Each Ok (answer_to m (scan_packet x u i y) o) × ((Weigh (answer_to m (scan_packet x u i y) o) ≤ 0) × (sum_by scan_weight (answer_to m (scan_packet x u i y) o) ≤ c))
  answer_each x u i y None c plain costs = let w = none_weigh in let e = w.0 in let f = w.1 in (tt, (omega (arith, e), omega (arith, f)))
  answer_each x u i y (Some z) c plain costs = let w = one_weighs (told_packet x u i z) 0 0 c c (costs z) in let e = w.0 in let f = w.1 in ((Scanned x u i z (plain z refl), tt), (omega (arith, e), omega (arith, f)))

  pub unit_side : (s : Net m) (x u i : ℕ) (y : Msg) (c : ℕ) → Scan (unit_ask y) → ((z : Msg) → Costs (told_packet x u i z) 0 0 c c) → Base s
      → Side s (net_after m h s (scan_packet x u i y) role.Unit) (sent_then m h s (scan_packet x u i y) role.Unit) 0 c
  unit_side s x u i y c scan costs b =
      let now = (unit_step (unit_of m s u) y).now in
      let t : Net m = record s { units = slice_set s.units u now } in
      let a = answer_each x u i y (unit_step (unit_of m s u) y).says c (λ z e. unit_plain (unit_of m s u) y z e) costs in
      record { base = base_of s t (unit_alike m s u now) b units b.layouts b.idle; seqr = refl; client = refl; each = a.0; few = a.1.0; scans = a.1.1 }
    where
      level : (unit_step (unit_of m s u) y).now.epoch ≤ p.epoch
      level = let at = scan_at (unit_ask y) scan in let e = same_epoch (unit_of m s u) y at.0 at.1 in let le = b.units u in omega (arith, e, le)

      units : (v : ℕ) → (slice_index_or (slice_set s.units u (unit_step (unit_of m s u) y).now) v new_unit).epoch ≤ p.epoch
      units v = by (set_index s.units u (unit_step (unit_of m s u) y).now v new_unit)
        where
          by : ((v ≡ u) × (slice_index_or (slice_set s.units u (unit_step (unit_of m s u) y).now) v new_unit ≡ (unit_step (unit_of m s u) y).now)) ⊎ (slice_index_or (slice_set s.units u (unit_step (unit_of m s u) y).now) v new_unit ≡ unit_of m s v)
              → (slice_index_or (slice_set s.units u (unit_step (unit_of m s u) y).now) v new_unit).epoch ≤ p.epoch
          by (inl e) = subst (λ (z : UnitState). z.epoch ≤ p.epoch) (sym e.1) level
          by (inr e) = subst (λ (z : UnitState). z.epoch ≤ p.epoch) (sym e) (b.units v)

  -- a layout server
  pub layout_side : (s : Net m) (n i : ℕ) → Base s → Side s (net_after m h s (latest_packet n i) role.Layout) (sent_then m h s (latest_packet n i) role.Layout) 1 0
  unfolding layout_step layout_ask on_layout_ask
  layout_side s n i b =
      let q = (layout_of m h s n).latest in
      let w = one_weighs (newest_packet n i q) 1 1 0 0 (to_costs (layout_id n) i (msg.Latest q) (layout_far n)) in
      let e = w.0 in
      let f = w.1 in
      record {
        base = base_of s _ (alike_if m true h s (latest_packet n i)) b b.units stays b.idle;
        seqr = refl;
        client = refl;
        each = (TellsLatest n i q (b.layouts n), tt);
        few = omega (arith, e);
        scans = omega (arith, f);
      }
    where
      stays : (v : ℕ) → (slice_index_or (slice_set s.layouts n (layout_of m h s n)) v (new_layout (first_layout h))).latest.epoch ≤ p.epoch
      stays v = by (set_index s.layouts n (layout_of m h s n) v (new_layout (first_layout h)))
        where
          by : ((v ≡ n) × (slice_index_or (slice_set s.layouts n (layout_of m h s n)) v (new_layout (first_layout h)) ≡ layout_of m h s n)) ⊎ (slice_index_or (slice_set s.layouts n (layout_of m h s n)) v (new_layout (first_layout h)) ≡ layout_of m h s v)
              → (slice_index_or (slice_set s.layouts n (layout_of m h s n)) v (new_layout (first_layout h))).latest.epoch ≤ p.epoch
          by (inl c) = subst (λ (t : LayoutState). t.latest.epoch ≤ p.epoch) (sym c.1) (b.layouts n)
          by (inr c) = subst (λ (t : LayoutState). t.latest.epoch ≤ p.epoch) (sym c) (b.layouts v)

  -- What sequencers ask.

  abbrev pub IsAsk : Out → Type 0
  IsAsk o = (u : ℕ) × (o.to ≡ unit_id u) × Scan (unit_ask o.msg)

  scan_is : (a : UnitAsk) → Rattle.tg_law_reconfs.proofs.Votes.IsScan m h stopped k p.epoch 0 0 0 a → Scan a
  scan_is (Reads e n) f = tt
  scan_is (Stores e n c) f = tt
  scan_is (Fills e n) f = tt
  scan_is (Looks e lo hi st) f = tt
  scan_is (Seals e) f = absurd f
  scan_is (TrimsBelow e b) f = absurd f
  scan_is Nothing f = absurd f

  pub asks_are : (s : SeqrState) (o : Out) → Has (seqr_asks s) o → IsAsk o
  asks_are s o has = let a = each_has (AsksScan m h stopped k p.epoch 0 0 0) (scan_asks s.scan) o (scans_ask m h stopped k p.epoch 0 0 0 s.scan) has in (a.unit, a.to, scan_is (unit_ask o.msg) a.scan)

  ask_ok : (x : ℕ) (o : Out) → IsAsk o → Ok (packet_of m (seqr_id x) o)
  ask_ok x o a = subst (λ (n : NodeId). Ok (record { from = seqr_id x; to = n; rid = o.rid; msg = o.msg })) (sym a.1) (Scans x a.0 o.rid o.msg a.2)

  pub asks_ok : (x : ℕ) (os : List Out) → ((o : Out) → Has os o → IsAsk o) → Each Ok (map (packet_of m (seqr_id x)) os)
  asks_ok x [] f = tt
  asks_ok x (o ∷ os) f = (ask_ok x o (f o (inl refl)), asks_ok x os (λ z has. f z (inr has)))

  ask_costs : (x c d : ℕ) (o : Out) → ((u i : ℕ) (y : Msg) → Costs (scan_packet x u i y) 0 0 c d) → IsAsk o → Costs (packet_of m (seqr_id x) o) 0 0 c d
  ask_costs x c d o f a = subst (λ (n : NodeId). Costs (record { from = seqr_id x; to = n; rid = o.rid; msg = o.msg }) 0 0 c d) (sym a.1) (f a.0 o.rid o.msg)

  pub asks_weigh : (x : ℕ) (os : List Out) → ((o : Out) → Has os o → IsAsk o) → Weigh (map (packet_of m (seqr_id x)) os) ≡ 0
  unfolding weigh
  asks_weigh x [] f = refl
  asks_weigh x (o ∷ os) f =
      let e = asks_weigh x os (λ z has. f z (inr has)) in
      let c = one (eqb p.seq x) refl in
      omega (arith, e, c)
    where
      one : (b : Bool) → eqb p.seq x ≡ b → Weight (packet_of m (seqr_id x) o) ≡ 0
      one true e = (ask_costs x 2 1 o (λ u i y. scan_own x u i y e) (f o (inl refl))).weighs
      one false e = (ask_costs x 0 0 o (λ u i y. scan_off x u i y e) (f o (inl refl))).weighs

  pub asks_off : (x : ℕ) (os : List Out) → eqb p.seq x ≡ false → ((o : Out) → Has os o → IsAsk o) → sum_by scan_weight (map (packet_of m (seqr_id x)) os) ≡ 0
  unfolding sum_by
  asks_off x [] e f = refl
  asks_off x (o ∷ os) e f = let g = asks_off x os e (λ z has. f z (inr has)) in let c = (ask_costs x 0 0 o (λ u i y. scan_off x u i y e) (f o (inl refl))).scan_weighs in omega (arith, g, c)

  pub asks_own : (os : List Out) → ((o : Out) → Has os o → IsAsk o) → sum_by scan_weight (map (packet_of m (seqr_id p.seq)) os) ≡ 2 * length os
  unfolding sum_by
  asks_own [] f = refl
  asks_own (o ∷ os) f = let g = asks_own os (λ z has. f z (inr has)) in let c = (ask_costs p.seq 2 1 o (λ u i y. scan_own p.seq u i y (num_itself p.seq)) (f o (inl refl))).scan_weighs in omega (arith, g, c)

  -- another sequencer
  pub other_seqr : (s : Net m) (x : ℕ) (t : SeqrTurn) → eqb p.seq x ≡ false → ((o : Out) → Has t.sends o → Has (seqr_asks t.now) o) → Base s → Side s (record s { seqrs = slice_set s.seqrs x t.now }) (map (packet_of m (seqr_id x)) t.sends) 0 0
  other_seqr s x t off sends b =
      let are : (o : Out) → Has t.sends o → IsAsk o = λ o has. asks_are t.now o (sends o has) in
      let e = asks_weigh x t.sends are in
      let f = asks_off x t.sends off are in
      record { base = base_seqr s x t.now b; seqr = seqr_else s x t.now off; client = refl; each = asks_ok x t.sends are; few = omega (arith, e); scans = omega (arith, f) }
