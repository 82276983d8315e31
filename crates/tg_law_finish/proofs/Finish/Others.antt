-- What the packets besides those of the command do: nothing that matters to it.
use Rattle.std.proofs.Common.{◌≡◌, ◌⊎◌, ℕ, ◌+◌, ◌<◌, ◌≤◌, List, [], ◌∷◌, ◌++◌, length, map, Bool, true, false, refl, ap, ◌∙◌, sym, subst, inl, inr, arith, Some, None, Option, eqb}
use Rattle.std.specs.Prelude.{slice_set, slice_index_or}
use Rattle.tg_base.specs.Layouts.{Layout}
use Rattle.tg_base.specs.Clusters.{Header}
use Rattle.tg_base.specs.declared.ids.NodeId.{NodeId}
use Rattle.tg_base.specs.declared.ids.Role.{Role}
use Rattle.tg_base.specs.declared.ids.Role.TheVariants as role
use Rattle.tg_base.specs.declared.msg.Msg.{Msg}
use Rattle.tg_base.specs.declared.msg.Msg.TheVariants as msg
use Rattle.tg_base.specs.declared.packet.Out.{Out}
use Rattle.tg_base.specs.declared.packet.Packet.{Packet}
use Rattle.tg_kind.specs.Meaning.{Meaning}
use Rattle.tg_base.specs.Orders.{node_eq}
use Rattle.tg_protocol.specs.Words.{unit_id, layout_id, seqr_id, client_id}
use Rattle.tg_protocol.specs.Layouts.{first_layout}
use Rattle.tg_protocol.specs.Units.{UnitState, new_unit, unit_ask, unit_step}
use Rattle.tg_protocol.specs.LayoutServers.{LayoutState, new_layout, layout_ask, on_layout_ask, layout_step}
use Rattle.tg_protocol.specs.Sequencers.{SeqrState, SeqrTurn, new_seqr, seqr_tick, scan_asks}
use Rattle.tg_protocol.specs.Clients.{Client, new_client}
use Rattle.tg_protocol.specs.ClientSteps.{client_deliver, client_tick, tick_by, called, ClientTurn}
use Rattle.tg_protocol.specs.Worlds.{packet_of, answer_to}
use Rattle.tg_law_layouts.specs.Steps.Runs.{epoch_of}
use Rattle.tg_law_finish.proofs.Finish.Counted.{one_if, cost}
use Rattle.tg_law_finish.proofs.Finish.Nets.{Net, net_if, sent_if, net_after, net_ticked, sent_ticked, on_in, on_alike, Alike, alike_if, seqr_alike, client_alike, unit_of, layout_of, seqr_of, client_of}
use Rattle.tg_law_finish.proofs.Finish.Lists.{Each, set_there, set_index, set_other}
use Rattle.tg_law_finish.proofs.Finish.Strays.{AsksOf, Old, old_step, old_tick, unit_fences, same_epoch, unit_plain, is_plain}

eq_flip : (a b : ℕ) → eqb a b ≡ false → eqb b a ≡ false
eq_flip a b e = grind arith

off_by : (e at epoch : ℕ) → e ≡ epoch → eqb at epoch ≡ false → eqb e at ≡ false
off_by e at epoch is off = grind arith

module _ (m : Meaning) (h : Header) (stopped : List NodeId) (k : ℕ) (p : Layout) where
  -- Packets besides those of the command.
  pub data Stray : Packet → Type 0 where
    Scans : (x u rid : ℕ) (y : Msg) (at : ℕ) → eqb x p.seq ≡ false → epoch_of (unit_ask y) ≡ Some at → eqb at p.epoch ≡ false → Stray (record { from = seqr_id x; to = unit_id u; rid = rid; msg = y })
    Scanned : (x u rid : ℕ) (y : Msg) → eqb x p.seq ≡ false → is_plain y ≡ true → Stray (record { from = unit_id u; to = seqr_id x; rid = rid; msg = y })
    AsksLatest : (l rid : ℕ) → Stray (record { from = client_id k; to = layout_id l; rid = rid; msg = msg.AskLatest })
    TellsLatest : (l rid : ℕ) (q : Layout) → q.epoch ≤ p.epoch → Stray (record { from = layout_id l; to = client_id k; rid = rid; msg = msg.Latest q })

  -- what a packet may still cost: a request its own delivery and its answer's
  unfoldable pub weight : Packet → ℕ
  weight x = one_if (node_eq x.from (client_id k)) + cost k (Some x)

  unfoldable pub weigh : List Packet → ℕ
  weigh [] = 0
  weigh (x ∷ q) = weight x + weigh q

  pub weigh_both : (q r : List Packet) → weigh (q ++ r) ≡ weigh q + weigh r
  unfolding weigh
  weigh_both [] r = omega arith
  weigh_both (x ∷ q) r = let e = weigh_both q r in omega (arith, e)

  -- The nodes besides the client and those that serve it.
  pub record Ready (s : Net m) : Type 0 where
    pub on : on_in m stopped s (client_id k) ≡ true
    pub rests : (seqr_of m h s p.seq).scan ≡ None
    pub old : (x : ℕ) → eqb x p.seq ≡ false → Old p.epoch (seqr_of m h s x)
    pub layouts : (l : ℕ) → (layout_of m h s l).latest.epoch ≤ p.epoch
    pub idle : (j : ℕ) → eqb j k ≡ false → on_in m stopped s (client_id j) ≡ true → (client_of m h s j).work ≡ None

  -- units of this epoch and its sequencer stay as they are, and no unit goes to another epoch
  pub record Keeps (s t : Net m) : Type 0 where
    pub units : (u : ℕ) → (unit_of m s u).epoch ≡ p.epoch → unit_of m t u ≡ unit_of m s u
    pub epochs : (u : ℕ) → (unit_of m t u).epoch ≡ (unit_of m s u).epoch
    pub seqr : seqr_of m h t p.seq ≡ seqr_of m h s p.seq
    pub alike : Alike m s t

  -- a newer layout doesn't come, and nothing else is awaited of a layout server
  abbrev pub Calm : Client m → Type 0
  Calm c = (l rid : ℕ) (q : Layout) → q.epoch ≤ p.epoch → client_deliver m c (layout_id l) rid (msg.Latest q) ≡ record { now = called m c; sends = []; notes = [] }

  pub record Passes (s t : Net m) (sent : List Packet) (before after : ℕ) : Type 0 where
    pub ready : Ready t
    pub keeps : Keeps s t
    pub strays : Each Stray sent
    pub weighs : after + weigh sent ≤ before
    pub client : (client_of m h t k ≡ client_of m h s k) ⊎ (client_of m h t k ≡ called m (client_of m h s k))

  pub keeps_same : (s : Net m) → Keeps s s
  keeps_same s = record { units = λ u e. refl; epochs = λ u. refl; seqr = refl; alike = record { counts = λ r. refl } }

  below : (s : Net m) (j : ℕ) → on_in m stopped s (client_id j) ≡ true → j < length s.clients
  below s j e = grind arith

  -- a packet for a node that has stopped
  lost : (s : Net m) (x : Packet) → Ready s → Passes s s [] (weight x) (cost k (Some x))
  unfolding weight weigh
  lost s x r = record { ready = r; keeps = keeps_same s; strays = tt; weighs = omega arith; client = inl refl }

  answer_strays : (x u rid : ℕ) (y : Msg) (o : Option Msg) → eqb x p.seq ≡ false → ((z : Msg) → o ≡ Some z → is_plain z ≡ true)
      → Each Stray (answer_to m (record { from = seqr_id x; to = unit_id u; rid = rid; msg = y }) o) × (weigh (answer_to m (record { from = seqr_id x; to = unit_id u; rid = rid; msg = y }) o) ≡ 0)
  unfolding weigh weight node_eq
  answer_strays x u rid y None other plain = (tt, refl)
  answer_strays x u rid y (Some z) other plain = ((Scanned x u rid z other (plain z refl), tt), refl)

  scans_unit : (s : Net m) (x u rid : ℕ) (y : Msg) (at : ℕ) → eqb x p.seq ≡ false → epoch_of (unit_ask y) ≡ Some at → eqb at p.epoch ≡ false → Ready s
      → Passes s (record s { units = slice_set s.units u (unit_step (unit_of m s u) y).now }) (answer_to m (record { from = seqr_id x; to = unit_id u; rid = rid; msg = y }) (unit_step (unit_of m s u) y).says) 0 0
  scans_unit s x u rid y at other is off r =
      let a = answer_strays x u rid y (unit_step (unit_of m s u) y).says other (λ z e. unit_plain (unit_of m s u) y z e) in
      let w = a.1 in
      record {
        ready = record { on = r.on; rests = r.rests; old = r.old; layouts = r.layouts; idle = r.idle };
        keeps = record { units = same; epochs = level; seqr = refl; alike = alike_if m true h s (record { from = seqr_id x; to = unit_id u; rid = rid; msg = y }) };
        strays = a.0;
        weighs = omega (arith, w);
        client = inl refl;
      }
    where
      same : (v : ℕ) → (unit_of m s v).epoch ≡ p.epoch → slice_index_or (slice_set s.units u (unit_step (unit_of m s u) y).now) v new_unit ≡ unit_of m s v
      same v e = by (set_index s.units u (unit_step (unit_of m s u) y).now v new_unit)
        where
          by : ((v ≡ u) × (slice_index_or (slice_set s.units u (unit_step (unit_of m s u) y).now) v new_unit ≡ (unit_step (unit_of m s u) y).now)) ⊎ (slice_index_or (slice_set s.units u (unit_step (unit_of m s u) y).now) v new_unit ≡ unit_of m s v)
              → slice_index_or (slice_set s.units u (unit_step (unit_of m s u) y).now) v new_unit ≡ unit_of m s v
          by (inl c) = c.1 ∙ (ap (λ t. t.now) (unit_fences (unit_of m s u) y at is (off_by (unit_of m s u).epoch at p.epoch (ap (λ n. (unit_of m s n).epoch) (sym c.0) ∙ e) off)) ∙ ap (λ n. unit_of m s n) (sym c.0))
          by (inr c) = c

      level : (v : ℕ) → (slice_index_or (slice_set s.units u (unit_step (unit_of m s u) y).now) v new_unit).epoch ≡ (unit_of m s v).epoch
      level v = by (set_index s.units u (unit_step (unit_of m s u) y).now v new_unit)
        where
          by : ((v ≡ u) × (slice_index_or (slice_set s.units u (unit_step (unit_of m s u) y).now) v new_unit ≡ (unit_step (unit_of m s u) y).now)) ⊎ (slice_index_or (slice_set s.units u (unit_step (unit_of m s u) y).now) v new_unit ≡ unit_of m s v)
              → (slice_index_or (slice_set s.units u (unit_step (unit_of m s u) y).now) v new_unit).epoch ≡ (unit_of m s v).epoch
          by (inl c) = ap (λ (x : UnitState). x.epoch) c.1 ∙ (same_epoch (unit_of m s u) y at is ∙ ap (λ n. (unit_of m s n).epoch) (sym c.0))
          by (inr c) = ap (λ (x : UnitState). x.epoch) c

  light_scan : (x u rid : ℕ) (y : Msg) → weight (record { from = seqr_id x; to = unit_id u; rid = rid; msg = y }) ≡ 0
  unfolding weight node_eq
  light_scan x u rid y = refl

  asks_strays : (x : ℕ) → eqb x p.seq ≡ false → (os : List Out) → Each (AsksOf p.epoch) os → Each Stray (map (packet_of m (seqr_id x)) os) × (weigh (map (packet_of m (seqr_id x)) os) ≡ 0)
  unfolding weigh
  asks_strays x other [] a = (tt, refl)
  asks_strays x other (o ∷ os) a =
      let rest = asks_strays x other os a.1 in
      let f = one o a.0 in
      let e = f.1 in
      let g = rest.1 in
      ((f.0, rest.0), omega (arith, e, g))
    where
      one : (o : Out) → AsksOf p.epoch o → Stray (packet_of m (seqr_id x) o) × (weight (packet_of m (seqr_id x) o) ≡ 0)
      one o a = (
        subst (λ (n : NodeId). Stray (record { from = seqr_id x; to = n; rid = o.rid; msg = o.msg })) (sym a.to) (Scans x a.unit o.rid o.msg a.at other a.is a.off),
        subst (λ (n : NodeId). weight (record { from = seqr_id x; to = n; rid = o.rid; msg = o.msg }) ≡ 0) (sym a.to) (light_scan x a.unit o.rid o.msg),
      )

  seqr_turns : (s : Net m) (x : ℕ) (now : SeqrState) (os : List Out) → eqb x p.seq ≡ false → Old p.epoch now → Each (AsksOf p.epoch) os → Ready s
      → Passes s (record s { seqrs = slice_set s.seqrs x now }) (map (packet_of m (seqr_id x)) os) 0 0
  seqr_turns s x now os other o asks r =
      let a = asks_strays x other os asks in
      let w = a.1 in
      let same = set_other s.seqrs x now p.seq (new_seqr p.seq h.limit (first_layout h)) (eq_flip x p.seq other) in
      record {
        ready = record { on = r.on; rests = subst (λ (t : SeqrState). t.scan ≡ None) (sym same) r.rests; old = olds; layouts = r.layouts; idle = r.idle };
        keeps = record { units = λ u e. refl; epochs = λ u. refl; seqr = same; alike = alike_ticked_by s x now };
        strays = a.0;
        weighs = omega (arith, w);
        client = inl refl;
      }
    where
      alike_ticked_by : (s : Net m) (x : ℕ) (now : SeqrState) → Alike m s (record s { seqrs = slice_set s.seqrs x now })
      alike_ticked_by s x now = seqr_alike m s x now

      olds : (y : ℕ) → eqb y p.seq ≡ false → Old p.epoch (slice_index_or (slice_set s.seqrs x now) y (new_seqr y h.limit (first_layout h)))
      olds y off = by (set_index s.seqrs x now y (new_seqr y h.limit (first_layout h)))
        where
          by : ((y ≡ x) × (slice_index_or (slice_set s.seqrs x now) y (new_seqr y h.limit (first_layout h)) ≡ now)) ⊎ (slice_index_or (slice_set s.seqrs x now) y (new_seqr y h.limit (first_layout h)) ≡ seqr_of m h s y) → Old p.epoch (slice_index_or (slice_set s.seqrs x now) y (new_seqr y h.limit (first_layout h)))
          by (inl c) = subst (λ (t : SeqrState). Old p.epoch t) (sym c.1) o
          by (inr c) = subst (λ (t : SeqrState). Old p.epoch t) (sym c) (r.old y off)

  to_client : (x : NodeId) (rid : ℕ) (y : Msg) → cost k (Some (record { from = x; to = client_id k; rid = rid; msg = y })) ≡ 1
  unfolding node_eq
  to_client x rid y = grind arith

  told_weighs : (l rid : ℕ) (q : Layout) → weight (record { from = layout_id l; to = client_id k; rid = rid; msg = msg.Latest q }) ≡ 1
  unfolding weight node_eq
  told_weighs l rid q = let e = to_client (layout_id l) rid (msg.Latest q) in omega (arith, e)

  -- a packet of the client, and one to it
  pub from_weighs : (o : Out) → (weight (packet_of m (client_id k) o) ≡ 2) × (cost k (Some (packet_of m (client_id k) o)) ≡ 1)
  unfolding weight node_eq
  from_weighs o = (grind arith, grind arith)

  pub to_weighs : (x : NodeId) (rid : ℕ) (y : Msg) → node_eq x (client_id k) ≡ false → (weight (record { from = x; to = client_id k; rid = rid; msg = y }) ≡ 1) × (cost k (Some (record { from = x; to = client_id k; rid = rid; msg = y })) ≡ 1)
  unfolding weight
  to_weighs x rid y e = let c = to_client x rid y in (grind arith, c)

  asks_layout : (s : Net m) (l rid : ℕ) → Ready s
      → Passes s (net_after m h s (record { from = client_id k; to = layout_id l; rid = rid; msg = msg.AskLatest }) role.Layout) (answer_to m (record { from = client_id k; to = layout_id l; rid = rid; msg = msg.AskLatest }) (layout_step (layout_of m h s l) msg.AskLatest).says) 2 1
  unfolding layout_step layout_ask on_layout_ask weigh
  asks_layout s l rid r = record {
    ready = record { on = r.on; rests = r.rests; old = r.old; layouts = stays; idle = r.idle };
    keeps = record { units = λ u e. refl; epochs = λ u. refl; seqr = refl; alike = alike_if m true h s (record { from = client_id k; to = layout_id l; rid = rid; msg = msg.AskLatest }) };
    strays = (TellsLatest l rid (layout_of m h s l).latest (r.layouts l), tt);
    weighs = let e = told_weighs l rid (layout_of m h s l).latest in omega (arith, e);
    client = inl refl;
  }
    where
      stays : (n : ℕ) → (slice_index_or (slice_set s.layouts l (layout_of m h s l)) n (new_layout (first_layout h))).latest.epoch ≤ p.epoch
      stays n = by (set_index s.layouts l (layout_of m h s l) n (new_layout (first_layout h)))
        where
          by : ((n ≡ l) × (slice_index_or (slice_set s.layouts l (layout_of m h s l)) n (new_layout (first_layout h)) ≡ layout_of m h s l)) ⊎ (slice_index_or (slice_set s.layouts l (layout_of m h s l)) n (new_layout (first_layout h)) ≡ layout_of m h s n) → (slice_index_or (slice_set s.layouts l (layout_of m h s l)) n (new_layout (first_layout h))).latest.epoch ≤ p.epoch
          by (inl c) = subst (λ (t : LayoutState). t.latest.epoch ≤ p.epoch) (sym c.1) (r.layouts l)
          by (inr c) = subst (λ (t : LayoutState). t.latest.epoch ≤ p.epoch) (sym c) (r.layouts n)

  pub client_turns : (s : Net m) (now : Client m) → Ready s → client_of m h (record s { clients = slice_set s.clients k now }) k ≡ now × Ready (record s { clients = slice_set s.clients k now })
  client_turns s now r = (set_there s.clients k now (new_client m h k) (below s k r.on), record { on = ons (client_id k) ∙ r.on; rests = r.rests; old = r.old; layouts = r.layouts; idle = idles })
    where
      ons : (n : NodeId) → on_in m stopped (record s { clients = slice_set s.clients k now }) n ≡ on_in m stopped s n
      ons n = on_alike m stopped s _ (client_alike m s k now) n

      idles : (j : ℕ) → eqb j k ≡ false → on_in m stopped (record s { clients = slice_set s.clients k now }) (client_id j) ≡ true → (slice_index_or (slice_set s.clients k now) j (new_client m h j)).work ≡ None
      idles j off on = subst (λ (c : Client m). c.work ≡ None) (sym (set_other s.clients k now j (new_client m h j) off)) (r.idle j off (sym (ons (client_id j)) ∙ on))

  told_client : (s : Net m) (l rid : ℕ) (q : Layout) → q.epoch ≤ p.epoch → Ready s → Calm (client_of m h s k)
      → Passes s (record s { clients = slice_set s.clients k (client_deliver m (client_of m h s k) (layout_id l) rid (msg.Latest q)).now })
      (map (packet_of m (client_id k)) (client_deliver m (client_of m h s k) (layout_id l) rid (msg.Latest q)).sends) 1 1
  unfolding weigh
  told_client s l rid q le r calm =
      let now = (client_deliver m (client_of m h s k) (layout_id l) rid (msg.Latest q)).now in
      let t = client_turns s now r in
      let e = ap (λ x. x.sends) (calm l rid q le) in
      record {
        ready = t.1;
        keeps = record { units = λ u e. refl; epochs = λ u. refl; seqr = refl; alike = client_alike m s k now };
        strays = subst (λ (os : List Out). Each Stray (map (packet_of m (client_id k)) os)) (sym e) tt;
        weighs = subst (λ (os : List Out). 1 + weigh (map (packet_of m (client_id k)) os) ≤ 1) (sym e) (omega arith);
        client = inr (t.0 ∙ ap (λ x. x.now) (calm l rid q le));
      }

  scan_weighs : (x u rid : ℕ) (y : Msg) → (weight (record { from = seqr_id x; to = unit_id u; rid = rid; msg = y }) ≡ 0) × (cost k (Some (record { from = seqr_id x; to = unit_id u; rid = rid; msg = y })) ≡ 0)
  unfolding weight node_eq
  scan_weighs x u rid y = (refl, refl)

  scanned_weighs : (x u rid : ℕ) (y : Msg) → (weight (record { from = unit_id u; to = seqr_id x; rid = rid; msg = y }) ≡ 0) × (cost k (Some (record { from = unit_id u; to = seqr_id x; rid = rid; msg = y })) ≡ 0)
  unfolding weight node_eq
  scanned_weighs x u rid y = (refl, refl)

  weighing : (s t : Net m) (sent : List Packet) (x : Packet) (a b : ℕ) → (weight x ≡ a) × (cost k (Some x) ≡ b) → Passes s t sent a b → Passes s t sent (weight x) (cost k (Some x))
  weighing s t sent x a b e q = subst (λ n. Passes s t sent n (cost k (Some x))) (sym e.0) (subst (λ n. Passes s t sent a n) (sym e.1) q)

  layout_no_client : (l : ℕ) → node_eq (layout_id l) (client_id k) ≡ false
  unfolding node_eq
  layout_no_client l = refl

  -- a stray packet comes to a node, or is lost
  pub stray_passes : (s : Net m) (x : Packet) (b : Bool) → Stray x → Ready s → Calm (client_of m h s k) → Passes s (net_if m b h s x) (sent_if m b h s x) (weight x) (cost k (Some x))
  stray_passes s x false stray r calm = lost s x r
  stray_passes s x true (Scans y u rid z at other is off) r calm = weighing s _ _ _ 0 0 (scan_weighs y u rid z) (scans_unit s y u rid z at other is off r)
  stray_passes s x true (Scanned y u rid z other plain) r calm = let o = old_step p.epoch (seqr_of m h s y) (unit_id u) rid z plain (r.old y other) in weighing s _ _ _ 0 0 (scanned_weighs y u rid z) (seqr_turns s y _ _ other o.now o.sends r)
  stray_passes s x true (AsksLatest l rid) r calm = weighing s _ _ _ 2 1 (from_weighs (record { to = layout_id l; rid = rid; msg = msg.AskLatest })) (asks_layout s l rid r)
  stray_passes s x true (TellsLatest l rid q le) r calm = weighing s _ _ _ 1 1 (to_weighs (layout_id l) rid (msg.Latest q) (layout_no_client l)) (told_client s l rid q le r calm)

  -- Ticks of other nodes.

  same_client : (j : ℕ) → node_eq (client_id j) (client_id k) ≡ false → eqb j k ≡ false
  unfolding node_eq
  same_client j e = e

  seqr_off : (n : ℕ) → (eqb n p.seq ≡ true) ⊎ (eqb n p.seq ≡ false)
  seqr_off n = grind arith

  pub nothing_sent : (s t : Net m) → Ready t → Keeps s t → client_of m h t k ≡ client_of m h s k → Passes s t [] 0 0
  unfolding weigh
  nothing_sent s t r keep e = record { ready = r; keeps = keep; strays = tt; weighs = omega arith; client = inl e }

  eqb_same : (a b : ℕ) → eqb a b ≡ true → a ≡ b
  eqb_same a b e = grind arith

  ticks_now : (x : SeqrState) → x.scan ≡ None → seqr_tick x ≡ record { now = x; sends = [] }
  unfolding seqr_tick
  ticks_now x e = ap (λ o. record { now = x; sends = scan_asks o }) e

  -- the sequencer of this layout scans no more
  rest_ticks : (s : Net m) → Ready s → Passes s (net_ticked m h s p.seq role.Seqr) (sent_ticked m h s p.seq role.Seqr) 0 0
  rest_ticks s r = subst (λ (t : SeqrTurn). Passes s (record s { seqrs = slice_set s.seqrs p.seq t.now }) (map (packet_of m (seqr_id p.seq)) t.sends) 0 0) (sym (ticks_now (seqr_of m h s p.seq) r.rests))
      (nothing_sent s _ (record { on = r.on; rests = subst (λ (t : SeqrState). t.scan ≡ None) (sym (stays p.seq)) r.rests; old = λ x off. subst (λ (t : SeqrState). Old p.epoch t) (sym (stays x)) (r.old x off); layouts = r.layouts; idle = r.idle })
      (record { units = λ u e. refl; epochs = λ u. refl; seqr = stays p.seq; alike = seqr_alike m s p.seq (seqr_of m h s p.seq) }) refl)
    where
      stays : (x : ℕ) → slice_index_or (slice_set s.seqrs p.seq (seqr_of m h s p.seq)) x (new_seqr x h.limit (first_layout h)) ≡ seqr_of m h s x
      stays x = by (set_index s.seqrs p.seq (seqr_of m h s p.seq) x (new_seqr x h.limit (first_layout h)))
        where
          by : ((x ≡ p.seq) × (slice_index_or (slice_set s.seqrs p.seq (seqr_of m h s p.seq)) x (new_seqr x h.limit (first_layout h)) ≡ seqr_of m h s p.seq)) ⊎ (slice_index_or (slice_set s.seqrs p.seq (seqr_of m h s p.seq)) x (new_seqr x h.limit (first_layout h)) ≡ seqr_of m h s x)
              → slice_index_or (slice_set s.seqrs p.seq (seqr_of m h s p.seq)) x (new_seqr x h.limit (first_layout h)) ≡ seqr_of m h s x
          by (inl c) = c.1 ∙ ap (λ n. seqr_of m h s n) (sym c.0)
          by (inr c) = c

  seqr_ticks : (s : Net m) (n : ℕ) → Ready s → Passes s (net_ticked m h s n role.Seqr) (sent_ticked m h s n role.Seqr) 0 0
  seqr_ticks s n r = by (seqr_off n)
    where
      by : (eqb n p.seq ≡ true) ⊎ (eqb n p.seq ≡ false) → Passes s (net_ticked m h s n role.Seqr) (sent_ticked m h s n role.Seqr) 0 0
      by (inl e) = subst (λ y. Passes s (net_ticked m h s y role.Seqr) (sent_ticked m h s y role.Seqr) 0 0) (sym (eqb_same n p.seq e)) (rest_ticks s r)
      by (inr off) = let o = old_tick p.epoch (seqr_of m h s n) (r.old n off) in seqr_turns s n _ _ off o.now o.sends r

  pub idle_ticks : (c : Client m) → c.work ≡ None → client_tick m c ≡ record { now = called m c; sends = []; notes = [] }
  unfolding client_tick
  idle_ticks c e = ap (λ w. tick_by m c w) e

  client_ticks : (s : Net m) (j : ℕ) → Ready s → node_eq (client_id j) (client_id k) ≡ false → on_in m stopped s (client_id j) ≡ true → Passes s (net_ticked m h s j role.Client) (sent_ticked m h s j role.Client) 0 0
  client_ticks s j r other on = subst (λ (t : ClientTurn m). Passes s (record s { clients = slice_set s.clients j t.now }) (map (packet_of m (client_id j)) t.sends) 0 0) (sym (idle_ticks c (r.idle j off on)))
      (nothing_sent s t (record { on = ons (client_id k) ∙ r.on; rests = r.rests; old = r.old; layouts = r.layouts; idle = idles }) (record { units = λ u e. refl; epochs = λ u. refl; seqr = refl; alike = client_alike m s j (called m c) })
      (set_other s.clients j (called m c) k (new_client m h k) (eq_flip j k off)))
    where
      off : eqb j k ≡ false
      off = same_client j other

      c : Client m
      c = client_of m h s j

      t : Net m
      t = record s { clients = slice_set s.clients j (called m c) }

      ons : (n : NodeId) → on_in m stopped t n ≡ on_in m stopped s n
      ons n = on_alike m stopped s _ (client_alike m s j (called m c)) n

      idles : (y : ℕ) → eqb y k ≡ false → on_in m stopped t (client_id y) ≡ true → (client_of m h t y).work ≡ None
      idles y far run = by (set_index s.clients j (called m c) y (new_client m h y))
        where
          by : ((y ≡ j) × (slice_index_or (slice_set s.clients j (called m c)) y (new_client m h y) ≡ called m c)) ⊎ (slice_index_or (slice_set s.clients j (called m c)) y (new_client m h y) ≡ client_of m h s y) → (client_of m h t y).work ≡ None
          by (inl e) = subst (λ (x : Client m). x.work ≡ None) (sym e.1) (r.idle j off on)
          by (inr e) = subst (λ (x : Client m). x.work ≡ None) (sym e) (r.idle y far (sym (ons (client_id y)) ∙ run))

  pub other_ticks : (s : Net m) (n : ℕ) (x : Role) → Ready s → node_eq (record { role = x; num = n }) (client_id k) ≡ false → on_in m stopped s (record { role = x; num = n }) ≡ true
      → Passes s (net_ticked m h s n x) (sent_ticked m h s n x) 0 0
  other_ticks s n role.Unit r other on = nothing_sent s s r (keeps_same s) refl
  other_ticks s n role.Layout r other on = nothing_sent s s r (keeps_same s) refl
  other_ticks s n role.Seqr r other on = seqr_ticks s n r
  other_ticks s n role.Client r other on = client_ticks s n r other on
