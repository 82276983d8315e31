-- What a unit tells as its highest position is less than 2 ^ 62: sequencers issue positions below their limit, and tell
-- tails up to it or up to their layout's start, and no request names a position past these.
use Rattle.std.proofs.Common.{◌≡◌, ◌⊎◌, ℕ, ◌+◌, ◌^◌, ◌<◌, ◌≤◌, List, [], ◌∷◌, ◌++◌, length, map, Bool, true, false, not, ◌||◌, eqb, refl, ap, ◌∙◌, sym, subst, inl, inr, arith, Some, None, Option, append-nil}
use Rattle.std.specs.Prelude.{slice_index_or, nat_lt, nat_le, max}
use Rattle.std.proofs.lemmas.Bool.Decides.{nat_tests}
use Rattle.tg_base.specs.Clusters.{Header}
use Rattle.tg_base.specs.Layouts.{Layout}
use Rattle.tg_base.specs.declared.cell.Cell.{Cell}
use Rattle.tg_base.specs.declared.ids.NodeId.{NodeId}
use Rattle.tg_base.specs.declared.ids.Oid.{Oid}
use Rattle.tg_base.specs.declared.ids.Role.TheVariants as role
use Rattle.tg_base.specs.declared.marks.StreamLink.{StreamLink}
use Rattle.tg_base.specs.declared.msg.Msg.{Msg}
use Rattle.tg_base.specs.declared.msg.Msg.TheVariants as msg
use Rattle.tg_base.specs.declared.packet.Out.{Out}
use Rattle.tg_base.specs.declared.packet.Packet.{Packet}
use Rattle.tg_kind.specs.Meaning.{Meaning}
use Rattle.tg_protocol.specs.Words.{unit_id, seqr_id, cell_at, cell_eq, plus_one}
use Rattle.tg_protocol.specs.Sequencers.{SeqrState, SeqrTurn, scanning, scan_on, begun, stand_answer, issue, on_token, unfenced, own_epoch, on_learn, learn_or_old, seqr_step, links_of}
use Rattle.tg_protocol.specs.Units.{UnitState, UnitTurn, UnitAsk, Reads, Stores, Fills as FillsAt, Looks, Seals, TrimsBelow, Nothing, new_unit, unit_ask, in_epoch, not_gone, on_same, on_store, on_ask, unit_step}
use Rattle.tg_protocol.specs.Worlds.{World, start, unit, packet_of}
use Rattle.tg_protocol.specs.Runs.{Moves, Takes, Reaches}
use Rattle.tg_law_layouts.specs.Moves.After.{after}
use Rattle.tg_law_layouts.specs.Moves.Configs.{Config, config, seqr_in, unit_in}
use Rattle.tg_law_layouts.specs.Moves.Telling.{is_request}
use Rattle.tg_law_layouts.proofs.Moves.Lists.{contained, at_set, at_replicate}
use Rattle.tg_law_layouts.proofs.Moves.Members.{Has, has_left, has_either, has_contained, has_map}
use Rattle.tg_law_layouts.proofs.Moves.Moves.{Comes, SeqrInput, Hears, Ticks, unit_turn, seqr_turn}
use Rattle.tg_law_layouts.proofs.Moves.Growth.{IsCalm, by_seqr, by_unit}
use Rattle.tg_law_layouts.proofs.Requests.Answered.{turn_on}
use Rattle.tg_law_layouts.proofs.Layouts.Deciding.{layouts_are_known, layouts_are_sound}
use Rattle.tg_law_layouts.proofs.Layouts.Layouts.{has_header}
use Rattle.tg_law_walks.proofs.Lists.Reached.{before_reached}
use Rattle.tg_law_headline.specs.Issues.Issues.{position_named, IsBelow, BelowStart, WasIssued, BelowTail, TrimsInTime}
use Rattle.tg_law_headline.proofs.Issues.Along.{along}
use Rattle.tg_law_headline.proofs.Issues.Positions.{below_here}
use Rattle.tg_law_headline.proofs.Issues.Sent.{named_pair}
use Rattle.tg_law_finish.proofs.Finish.Scans.{seqrs_hold}
use Rattle.tg_law_finish.proofs.Finish.Sends.{AllSent, one_sent, begun_sent, scan_fed_sent, tick_sent}
use Rattle.tg_law_finish.proofs.Finish.Standing.{header_limits}

-- What sequencers tell.

-- a position that is issued, and a tail
abbrev pub NearMsg : Msg → Type 0
NearMsg (msg.Issued p ls) = p + 1 < 2 ^ 62
NearMsg (msg.Tail t ls) = t < 2 ^ 62
NearMsg x = Unit {0}

abbrev AllNear : List Out → Type 0
AllNear os = AllSent NearMsg os

near_asks : (y : Msg) → is_request y ≡ true → NearMsg y
unfolding is_request
near_asks (msg.Issued p ls) e = absurd cc
near_asks (msg.Tail t ls) e = absurd cc
near_asks y e = tt

room_issued : (limit next : ℕ) → nat_le limit next ≡ false → limit < 2 ^ 62 → next + 1 < 2 ^ 62
room_issued limit next e less = grind (arith, nat_tests, e, less)

stand_near : (s : SeqrState) (ls : List StreamLink) (b : Bool) → s.next < 2 ^ 62 → NearMsg (stand_answer s ls b)
stand_near s ls true less = tt
stand_near s ls false less = less

issue_near : (s : SeqrState) (os : List Oid) (from : NodeId) (rid : ℕ) (b : Bool) → nat_le s.limit s.next ≡ b → s.limit < 2 ^ 62 → AllNear (issue s os from rid b).sends
issue_near s os from rid true e less = one_sent NearMsg from rid _ tt
issue_near s os from rid false e less = one_sent NearMsg from rid _ (room_issued s.limit s.next e less)

token_near : (s : SeqrState) (os : List Oid) (from : NodeId) (rid : ℕ) (b : Bool) → s.limit < 2 ^ 62 → AllNear (on_token s os from rid b).sends
token_near s os from rid true less = one_sent NearMsg from rid _ tt
token_near s os from rid false less = issue_near s os from rid (nat_le s.limit s.next) refl less

unfenced_near : (f : Option ℕ) (s : SeqrState) (from : NodeId) (rid : ℕ) (t : SeqrTurn) → AllNear t.sends → AllNear (unfenced f s from rid t).sends
unfenced_near None s from rid t n = n
unfenced_near (Some e) s from rid t n = one_sent NearMsg from rid _ tt

own_near : (b : Bool) (s : SeqrState) (from : NodeId) (rid : ℕ) (t : SeqrTurn) → AllNear t.sends → AllNear (own_epoch b s from rid t).sends
own_near true s from rid t n = unfenced_near s.fence s from rid t n
own_near false s from rid t n = one_sent NearMsg from rid _ tt

same_next : (s : SeqrState) (b : Bool) → (scan_on s b).next ≡ s.next
same_next s true = refl
same_next s false = refl

learn_near : (s : SeqrState) (q : Layout) (from : NodeId) (rid : ℕ) (b : Bool) → s.next < 2 ^ 62 → AllNear (on_learn s q from rid b).sends
learn_near s q from rid true less =
    let t = begun s q in
    let e = same_next (record s { epoch = q.epoch; proj = q; next = 0; lists = []; fence = None; scan = None }) (nat_lt 0 q.start) in
    begun_sent NearMsg near_asks s q from rid (stand_near t [] (scanning t) (omega (arith, e)))
learn_near s q from rid false less = unfenced_near s.fence s from rid _ (one_sent NearMsg from rid _ (stand_near s [] (scanning s) less))

old_near : (s : SeqrState) (q : Layout) (from : NodeId) (rid : ℕ) (b : Bool) → s.next < 2 ^ 62 → AllNear (learn_or_old s q from rid b).sends
old_near s q from rid true less = one_sent NearMsg from rid _ tt
old_near s q from rid false less = learn_near s q from rid (nat_lt s.epoch q.epoch) less

step_near : (s : SeqrState) (from : NodeId) (rid : ℕ) (y : Msg) → s.limit < 2 ^ 62 → s.next < 2 ^ 62 → AllNear (seqr_step s from rid y).sends
unfolding seqr_step
step_near s from rid (msg.Learn q) limit next = old_near s q from rid (not (eqb q.seq s.num) || nat_lt q.epoch s.epoch) next
step_near s from rid (msg.Token e os) limit next = own_near (eqb e s.epoch) s from rid _ (token_near s os from rid (scanning s) limit)
step_near s from rid (msg.Check e os) limit next = own_near (eqb e s.epoch) s from rid _ (one_sent NearMsg from rid _ (stand_near s (links_of s.lists os) (scanning s) next))
step_near s from rid y limit next = scan_fed_sent NearMsg near_asks s s.scan from rid y

-- What a unit's highest position comes from.

abbrev StoresAt : UnitAsk → ℕ → Type 0
StoresAt (Stores e q c) p = q ≡ p
StoresAt (FillsAt e q) p = q ≡ p
StoresAt a p = ⊥

abbrev HighBy : UnitState → UnitAsk → ℕ → Type 0
HighBy s a n = (n ≡ s.high) ⊎ ((p : ℕ) × StoresAt a p × (n ≡ plus_one p))

one_of : (a b : ℕ) → (max a b ≡ a) ⊎ (max a b ≡ b)
one_of a b = grind arith

abbrev StoredHigh : UnitState → ℕ → ℕ → Type 0
StoredHigh s p n = (n ≡ s.high) ⊎ (n ≡ plus_one p)

same_high : (s : UnitState) (p : ℕ) (x : Cell) (b : Bool) → StoredHigh s p (on_same s x b).now.high
same_high s p x true = inl refl
same_high s p x false = inl refl

store_high : (s : UnitState) (p : ℕ) (c : Cell) (o : Option Cell) → StoredHigh s p (on_store s p c o).now.high
store_high s p c None = one_of s.high (plus_one p)
store_high s p c (Some x) = same_high s p x (cell_eq x c)

gone_high : (g : Bool) (s : UnitState) (p : ℕ) (t : UnitTurn) → StoredHigh s p t.now.high → StoredHigh s p (not_gone g s t).now.high
gone_high true s p t h = inl refl
gone_high false s p t h = h

epoch_high : (b : Bool) (s : UnitState) (p : ℕ) (t : UnitTurn) → StoredHigh s p t.now.high → StoredHigh s p (in_epoch b s t).now.high
epoch_high true s p t h = h
epoch_high false s p t h = inl refl

kept_high : (s : UnitState) (a : UnitAsk) → (on_ask s a).now.high ≡ s.high → HighBy s a (on_ask s a).now.high
kept_high s a e = inl e

ask_high : (s : UnitState) (a : UnitAsk) → HighBy s a (on_ask s a).now.high
unfolding on_ask
ask_high s (Stores e p c) = by (epoch_high (eqb s.epoch e) s p _ (gone_high (nat_lt p s.low) s p _ (store_high s p c (cell_at s.cells p))))
  where
    by : StoredHigh s p (on_ask s (Stores e p c)).now.high → HighBy s (Stores e p c) (on_ask s (Stores e p c)).now.high
    by (inl i) = inl i
    by (inr i) = inr (p, refl, i)
ask_high s (FillsAt e p) = by (epoch_high (eqb s.epoch e) s p _ (gone_high (nat_lt p s.low) s p _ (store_high s p _ (cell_at s.cells p))))
  where
    by : StoredHigh s p (on_ask s (FillsAt e p)).now.high → HighBy s (FillsAt e p) (on_ask s (FillsAt e p)).now.high
    by (inl i) = inl i
    by (inr i) = inr (p, refl, i)
ask_high s (Reads e p) = inl (grind arith)
ask_high s (Looks e lo hi step) = inl (grind arith)
ask_high s (Seals e) = inl (grind arith)
ask_high s (TrimsBelow e b) = inl (grind arith)
ask_high s Nothing = inl refl

step_high : (s : UnitState) (x : Msg) → HighBy s (unit_ask x) (unit_step s x).now.high
unfolding unit_step
step_high s x = ask_high s (unit_ask x)

names_it : (x : Msg) (p : ℕ) → StoresAt (unit_ask x) p → (e : ℕ) × (position_named x ≡ named_pair e p)
unfolding unit_ask position_named
names_it (msg.Write e q d) p i = (e, ap (λ (n : ℕ). named_pair e n) i)
names_it (msg.Copy e q c) p i = (e, ap (λ (n : ℕ). named_pair e n) i)
names_it (msg.Fill e q) p i = (e, ap (λ (n : ℕ). named_pair e n) i)
names_it x p i = absurd i

-- one past a position that a request names
pub record IsNamed (ps : List Packet) (n : ℕ) : Type 0 where
  pub ask : Packet
  pub has : Has ps ask
  pub epoch : ℕ
  pub pos : ℕ
  pub names : position_named ask.msg ≡ named_pair epoch pos
  pub is : n ≡ plus_one pos

module _ (m : Meaning) where
  abbrev Nears : Config m → Type 0
  Nears c = (a : Packet) → Has c.packets a → a.from.role ≡ role.Seqr → NearMsg a.msg

  nears_calm : (c : Config m) → Nears c → IsCalm m role.Seqr c Nears
  nears_calm c h d q a has from = h a (q.old a has from) from

  near_turn : (c : Config m) (s : ℕ) (t : SeqrTurn) → SeqrInput m c s t → (seqr_in m c s).limit < 2 ^ 62 → (seqr_in m c s).next < 2 ^ 62 → AllNear t.sends
  near_turn c s t (Hears p comes) limit next = step_near (seqr_in m c s) p.from p.rid p.msg limit next
  near_turn c s t Ticks limit next = tick_sent NearMsg near_asks (seqr_in m c s)

  nears_on : (c : Config m) → Nears c → (s : ℕ) (t : SeqrTurn) → AllNear t.sends → Nears (seqr_turn m c s t)
  nears_on c h s t n a has from = by (has_either c.packets (map (packet_of m (seqr_id s)) t.sends) a has)
    where
      by : Has c.packets a ⊎ Has (map (packet_of m (seqr_id s)) t.sends) a → NearMsg a.msg
      by (inl x) = h a x from
      by (inr x) = let i = has_map (packet_of m (seqr_id s)) t.sends a x in subst (λ (y : Packet). NearMsg y.msg) (sym i.is) (n i.of i.has)

  start_nears : (h : Header) → Nears (config m (start m h))
  unfolding start
  start_nears h a has = absurd has

  abbrev HighOk : List Packet → UnitState → Type 0
  HighOk ps s = (s.high ≡ 0) ⊎ IsNamed ps s.high

  abbrev Highs : Config m → Type 0
  Highs c = (u : ℕ) → HighOk c.packets (unit_in m c u)

  high_more : (ps qs : List Packet) (s : UnitState) → ((x : Packet) → Has ps x → Has qs x) → HighOk ps s → HighOk qs s
  high_more ps qs s g (inl e) = inl e
  high_more ps qs s g (inr k) = inr (record { ask = k.ask; has = g k.ask k.has; epoch = k.epoch; pos = k.pos; names = k.names; is = k.is })

  highs_calm : (c : Config m) → Highs c → IsCalm m role.Unit c Highs
  highs_calm c h d q u =
      let same : unit_in m d u ≡ unit_in m c u = λ j. slice_index_or (q.units refl j) u new_unit in
      subst (λ (z : UnitState). HighOk d.packets z) (sym same) (high_more c.packets d.packets (unit_in m c u) q.grows.sent (h u))

  highs_on : (c : Config m) → Highs c → (u : ℕ) (p : Packet) → Comes m c p (unit_id u) → u < length c.units → Highs (unit_turn m c u p (turn_on m c u p))
  highs_on c h u p comes less = at_set c.units u (turn_on m c u p).now (λ v. new_unit) (λ v t. HighOk qs t) less (by (step_high (unit_in m c u) p.msg)) (λ v other. high_more c.packets qs (unit_in m c v) grown (h v))
    where
      qs : List Packet
      qs = (unit_turn m c u p (turn_on m c u p)).packets

      grown : (y : Packet) → Has c.packets y → Has qs y
      grown y g = has_left c.packets _ y g

      kept : (n : ℕ) → n ≡ (unit_in m c u).high → HighOk c.packets (unit_in m c u) → (n ≡ 0) ⊎ IsNamed qs n
      kept n e (inl z) = inl (e ∙ z)
      kept n e (inr k) = inr (record { ask = k.ask; has = grown k.ask k.has; epoch = k.epoch; pos = k.pos; names = k.names; is = e ∙ k.is })

      by : HighBy (unit_in m c u) (unit_ask p.msg) (unit_step (unit_in m c u) p.msg).now.high → HighOk qs (turn_on m c u p).now
      by (inl e) = kept _ e (h u)
      by (inr k) = let i = names_it p.msg k.0 k.1 in inr (record { ask = p; has = grown p comes.sent; epoch = i.0; pos = k.0; names = i.1; is = k.2 })

  start_highs : (g : Header) → Highs (config m (start m g))
  unfolding start new_unit
  start_highs g u = at_replicate g.units new_unit u new_unit (λ (t : UnitState). HighOk [] t) (inl refl) (inl refl)

  highs_hold : (h : Header) (xs : Moves m) → Highs (config m (after m h xs))
  highs_hold h xs = along m h xs Highs (λ ys e zs split k. by_unit m Highs (config m (after m h ys)) k (highs_calm (config m (after m h ys)) k) (λ u p a less. highs_on (config m (after m h ys)) k u p a less)) (start_highs h) xs [] (sym (append-nil xs))

  -- In a world to which a run comes.
  module _ (h : Header) (zs : Moves m) (r : Reaches m h zs (after m h zs)) where
    limit_near : h.limit < 2 ^ 62
    limit_near = (header_limits h r.header).1

    least : (n l b : ℕ) → n ≤ max l b → l < 2 ^ 62 → b < 2 ^ 62 → n < 2 ^ 62
    least n l b le x y = grind (arith, le, x, y)

    nears_hold : Nears (config m (after m h zs))
    nears_hold = along m h zs Nears (λ ys e rest split k. by_seqr m Nears (config m (after m h ys)) k (nears_calm (config m (after m h ys)) k) (λ s t i less. nears_on (config m (after m h ys)) k s t (here ys (Takes e ∷ rest) split s t i))) (start_nears h) zs [] (sym (append-nil zs))
      where
        here : (ys rest : Moves m) → zs ≡ ys ++ rest → (s : ℕ) (t : SeqrTurn) → SeqrInput m (config m (after m h ys)) s t → AllNear t.sends
        here ys rest split s t i =
            let q = before_reached m h zs r ys rest split in
            let f = (seqrs_hold m h ys).fine s in
            let limit = f.limit ∙ ap (λ (x : Header). x.limit) (has_header m h ys) in
            let low = limit_near in
            let near = (layouts_are_sound m h ys (after m h ys) q _ _ ((layouts_are_known m h ys (after m h ys) q).seqrs s)).near in
            let room = subst (λ (l : ℕ). (seqr_in m (config m (after m h ys)) s).next ≤ max l (seqr_in m (config m (after m h ys)) s).proj.start) (ap (λ (x : Header). x.limit) (has_header m h ys)) f.room in
            near_turn (config m (after m h ys)) s t i (omega (arith, limit, low)) (least _ h.limit _ room low near)

    -- a position that a request names
    named_near : (e p : ℕ) → IsBelow m (after m h zs) e p → p + 1 < 2 ^ 62
    named_near e p (BelowStart l d less) = let n = (layouts_are_sound m h zs (after m h zs) r e l d).near in omega (arith, less, n)
    named_near e p (WasIssued l d os ls i) = subst NearMsg i.issues (nears_hold i.answer (has_contained _ i.answer i.answered) (ap (λ (n : NodeId). n.role) i.from_seqr))
    named_near e p (BelowTail l d t i less) = let n = subst NearMsg i.tells (nears_hold i.answer (has_contained _ i.answer i.answered) (ap (λ (x : NodeId). x.role) i.from_seqr)) in omega (arith, less, n)

    least_one : (p : ℕ) → plus_one p ≤ p + 1
    least_one p = grind arith

    high_here : TrimsInTime m (after m h zs) → (u : ℕ) → (unit m (after m h zs) u).high < 2 ^ 62
    high_here trims u = by (highs_hold h zs u)
      where
        by : HighOk (after m h zs).packets (unit m (after m h zs) u) → (unit m (after m h zs) u).high < 2 ^ 62
        by (inl e) = omega (arith, e)
        by (inr k) =
            let n = named_near k.epoch k.pos (below_here m h zs r trims k.ask k.epoch k.pos (contained (after m h zs).packets k.ask k.has) k.names) in
            let o = least_one k.pos in
            let e = k.is in
            omega (arith, n, o, e)

  -- no unit tells a position of 2 ^ 62 or more as one past its highest
  pub high_near : (h : Header) (zs : Moves m) (w : World m) → Reaches m h zs w → TrimsInTime m w → (u : ℕ) → (unit m w u).high < 2 ^ 62
  high_near h zs w r trims = subst (λ (v : World m). Reaches m h zs v → TrimsInTime m v → (u : ℕ) → (unit m v u).high < 2 ^ 62) (sym r.goes.is) (high_here h zs) r trims
