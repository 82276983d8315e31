-- Request numbers over runs: under one number a node asks one thing of a node.
use Rattle.std.proofs.Common.{◌≡◌, ◌≢◌, ◌⊎◌, ℕ, ◌<◌, List, ◌++◌, length, map, true, false, refl, sym, ap, ◌∙◌, subst, inl, inr, arith, Some, None, Option}
use Rattle.std.specs.Prelude.{slice_index_or}
use Rattle.tg_base.specs.declared.ids.NodeId.{NodeId}
use Rattle.tg_base.specs.declared.ids.Role.{Role}
use Rattle.tg_base.specs.declared.ids.Role.TheVariants as role
use Rattle.tg_base.specs.declared.msg.Msg.{Msg}
use Rattle.tg_base.specs.declared.packet.Out.{Out}
use Rattle.tg_base.specs.declared.packet.Packet.{Packet}
use Rattle.tg_kind.specs.Meaning.{Meaning}
use Rattle.tg_protocol.specs.Words.{unit_id, layout_id, seqr_id, client_id}
use Rattle.tg_protocol.specs.Layouts.{first_layout}
use Rattle.tg_protocol.specs.LayoutServers.{LayoutState, LayoutAsk, layout_ask, on_layout_ask, layout_step}
use Rattle.tg_protocol.specs.Sequencers.{SeqrState, SeqrTurn, new_seqr, seqr_asks}
use Rattle.tg_protocol.specs.Clients.{Client, new_client}
use Rattle.tg_protocol.specs.ClientSteps.{ClientTurn}
use Rattle.tg_protocol.specs.Worlds.{packet_of, answer_to}
use Rattle.tg_law_layouts.proofs.Moves.Members.{Has, has_left, has_right, has_either, has_map}
use Rattle.tg_law_layouts.specs.Moves.Configs.{Config, layout_in, seqr_in, client_in}
use Rattle.tg_law_layouts.specs.Moves.Telling.{is_request}
use Rattle.tg_law_layouts.proofs.Moves.Lists.{at_set}
use Rattle.tg_law_layouts.proofs.Moves.Draws.{Drawn}
use Rattle.tg_law_layouts.proofs.Moves.Clients.{reserved}
use Rattle.tg_law_layouts.proofs.Moves.Turns.{TurnDraws', command_draws, deliver_draws, tick_draws}
use Rattle.tg_law_layouts.proofs.Moves.Seqrs.{SeqrDraws, seqr_step_draws, seqr_tick_draws}
use Rattle.tg_law_layouts.proofs.Moves.Moves.{Comes, unit_turn, layout_turn, seqr_turn, client_turn, SeqrInput, Hears, Ticks, ClientInput, Commanded, Hears', Ticks', Keeps}
use Rattle.tg_law_layouts.proofs.Moves.Growth.{Quiet, outs_from, unit_quiet, layout_quiet, seqr_quiet, client_quiet}
use Rattle.tg_law_layouts.proofs.Moves.Units.{says_answer}
use Rattle.tg_law_layouts.proofs.Requests.Answered.{Said, turn_on, old_or_said}
use Rattle.tg_law_layouts.proofs.Requests.Told.{NumbersOnce}

-- One node, its next number, and what it may still take an answer to.
pub record Asks (ps : List Packet) (n : NodeId) (next : ℕ) (old : List Out) : Type 0 where
  pub below : (p : Packet) → Has ps p → p.from ≡ n → is_request p.msg ≡ true → p.rid < next
  pub open' : (o : Out) → Has old o → o.rid < next
  pub agree : (o : Out) (p : Packet) → Has old o → Has ps p → p.from ≡ n → is_request p.msg ≡ true → o.rid ≡ p.rid → o.to ≡ p.to → o.msg ≡ p.msg
  pub one : (o q : Out) → Has old o → Has old q → o.rid ≡ q.rid → o.to ≡ q.to → o.msg ≡ q.msg
  pub once : (p q : Packet) → Has ps p → Has ps q → p.from ≡ n → q.from ≡ n → is_request p.msg ≡ true → is_request q.msg ≡ true → p.rid ≡ q.rid → p.to ≡ q.to → p.msg ≡ q.msg

-- no packet of the node is new
asks_still : (ps qs : List Packet) (n : NodeId) (next : ℕ) (old : List Out) → ((p : Packet) → Has qs p → p.from ≡ n → Has ps p) → Asks ps n next old → Asks qs n next old
asks_still ps qs n next old back a = record {
  below = λ p h f r. a.below p (back p h f) f r;
  open' = a.open';
  agree = λ o p g h f r e t. a.agree o p g (back p h f) f r e t;
  one = a.one;
  once = λ p q h g f f' r r' e t. a.once p q (back p h f) (back q g f') f f' r r' e t;
}

-- The node takes a turn.
module _ (m : Meaning) (ps : List Packet) (n : NodeId) (next : ℕ) (old : List Out) (a : Asks ps n next old) (now : List Out) (end : ℕ) (d : Drawn old next now end)
    (sends : List Out) (sent : (o : Out) → Has sends o → is_request o.msg ≡ true → Has now o) (left : List Out) (kept : (o : Out) → Has left o → Has now o) where
  abbrev new : List Packet
  new = map (packet_of m n) sends

  here : (o : Out) → Has old o ⊎ Has d.new o → o.rid < end
  here o (inl h) = let b = a.open' o h in let u = d.up in omega (arith, b, u)
  here o (inr h) = d.is_new.below o h

  agree_now : (o q : Out) → o.rid ≡ q.rid → o.to ≡ q.to → Has old o ⊎ Has d.new o → Has old q ⊎ Has d.new q → o.msg ≡ q.msg
  agree_now o q e t (inl h) (inl g) = a.one o q h g e t
  agree_now o q e t (inl h) (inr g) = let b = a.open' o h in let f = d.is_new.from q g in absurd (omega (arith, b, f, e))
  agree_now o q e t (inr h) (inl g) = let b = a.open' q g in let f = d.is_new.from o h in absurd (omega (arith, b, f, e))
  agree_now o q e t (inr h) (inr g) = d.is_new.one o q h g e

  -- with a packet that was sent before
  agree_old : (o : Out) (p : Packet) → Has old o ⊎ Has d.new o → Has ps p → p.from ≡ n → is_request p.msg ≡ true → o.rid ≡ p.rid → o.to ≡ p.to → o.msg ≡ p.msg
  agree_old o p (inl h) s f r e t = a.agree o p h s f r e t
  agree_old o p (inr h) s f r e t = let b = a.below p s f r in let g = d.is_new.from o h in absurd (omega (arith, b, g, e))

  -- a new packet, as what was sent
  pub record Sent (p : Packet) : Type 0 where
    pub of : Out
    pub has : Has sends of
    pub is : p ≡ packet_of m n of

  new_sent : (p : Packet) → Has new p → Sent p
  new_sent p h = let i = has_map (packet_of m n) sends p h in record { of = i.of; has = i.has; is = i.is }

  place : (p : Packet) (s : Sent p) → is_request p.msg ≡ true → Has old s.of ⊎ Has d.new s.of
  place p s r = d.either s.of (sent s.of s.has (subst (λ (q : Packet). is_request q.msg ≡ true) s.is r))

  below : (p : Packet) → p.from ≡ n → is_request p.msg ≡ true → Has ps p ⊎ Has new p → p.rid < end
  below p f r (inl h) = let b = a.below p h f r in let u = d.up in omega (arith, b, u)
  below p f r (inr h) = let s = new_sent p h in let e = ap (λ (q : Packet). q.rid) s.is in let b = here s.of (place p s r) in omega (arith, e, b)

  agree : (o : Out) (p : Packet) → Has now o → p.from ≡ n → is_request p.msg ≡ true → o.rid ≡ p.rid → o.to ≡ p.to → Has ps p ⊎ Has new p → o.msg ≡ p.msg
  agree o p g f r e t (inl h) = agree_old o p (d.either o g) h f r e t
  agree o p g f r e t (inr h) =
      let s = new_sent p h in
      agree_now o s.of (e ∙ ap (λ (q : Packet). q.rid) s.is) (t ∙ ap (λ (q : Packet). q.to) s.is) (d.either o g) (place p s r) ∙ sym (ap (λ (q : Packet). q.msg) s.is)

  once : (p q : Packet) → p.from ≡ n → q.from ≡ n → is_request p.msg ≡ true → is_request q.msg ≡ true → p.rid ≡ q.rid → p.to ≡ q.to → Has ps p ⊎ Has new p → Has ps q ⊎ Has new q → p.msg ≡ q.msg
  once p q f f' r r' e t (inl h) (inl g) = a.once p q h g f f' r r' e t
  once p q f f' r r' e t (inr h) (inl g) =
      let s = new_sent p h in
      ap (λ (x : Packet). x.msg) s.is ∙ agree_old s.of q (place p s r) g f' r' (sym (ap (λ (x : Packet). x.rid) s.is) ∙ e) (sym (ap (λ (x : Packet). x.to) s.is) ∙ t)
  once p q f f' r r' e t (inl h) (inr g) =
      let s = new_sent q g in
      sym (ap (λ (x : Packet). x.msg) s.is ∙ agree_old s.of p (place q s r') h f r (sym (ap (λ (x : Packet). x.rid) s.is) ∙ sym e) (sym (ap (λ (x : Packet). x.to) s.is) ∙ sym t))
  once p q f f' r r' e t (inr h) (inr g) =
      let s = new_sent p h in
      let z = new_sent q g in
      ap (λ (x : Packet). x.msg) s.is ∙ (agree_now s.of z.of (sym (ap (λ (x : Packet). x.rid) s.is) ∙ (e ∙ ap (λ (x : Packet). x.rid) z.is)) (sym (ap (λ (x : Packet). x.to) s.is) ∙ (t ∙ ap (λ (x : Packet). x.to) z.is))
      (place p s r) (place q z r') ∙ sym (ap (λ (x : Packet). x.msg) z.is))

  pub asks_turn : Asks (ps ++ new) n end left
  asks_turn = record {
    below = λ p h f r. below p f r (has_either ps new p h);
    open' = λ o h. here o (d.either o (kept o h));
    agree = λ o p g h f r e t. agree o p (kept o g) f r e t (has_either ps new p h);
    one = λ o q g h e t. agree_now o q e t (d.either o (kept o g)) (d.either q (kept q h));
    once = λ p q h g f f' r r' e t. once p q f f' r r' e t (has_either ps new p h) (has_either ps new q g);
  }

-- Over the nodes.

layout_says : (s : LayoutState) (x : LayoutAsk) (y : Msg) → (on_layout_ask s x).says ≡ Some y → is_request y ≡ false
unfolding on_layout_ask is_request
layout_says s x y h = grind arith

pub layout_answer : (s : LayoutState) (x y : Msg) → (layout_step s x).says ≡ Some y → is_request y ≡ false
unfolding layout_step
layout_answer s x y h = layout_says s (layout_ask x) y h

module _ (m : Meaning) where
  pub record Numbers (c : Config m) : Type 0 where
    pub clients : (k : ℕ) → Asks c.packets (client_id k) (client_in m c k).next (reserved m (client_in m c k))
    pub seqrs : (s : ℕ) → Asks c.packets (seqr_id s) (seqr_in m c s).rids (seqr_asks (seqr_in m c s))
    -- units and layout servers answer alone
    pub units : (p : Packet) → Has c.packets p → p.from.role ≡ role.Unit → is_request p.msg ≡ false
    pub layouts : (p : Packet) → Has c.packets p → p.from.role ≡ role.Layout → is_request p.msg ≡ false

  -- each part is kept where its role is quiet
  clients_calm : (c d : Config m) → Numbers c → Quiet m role.Client c d → (k : ℕ) → Asks d.packets (client_id k) (client_in m d k).next (reserved m (client_in m d k))
  clients_calm c d h q k = subst (λ (x : Client m). Asks d.packets (client_id k) x.next (reserved m x)) (sym same)
      (asks_still c.packets d.packets (client_id k) _ _ (λ p s f. q.old p s (ap (λ (n : NodeId). n.role) f)) (h.clients k))
    where
      same : client_in m d k ≡ client_in m c k
      same = λ i. slice_index_or (q.clients refl i) k (new_client m (q.cluster i) k)

  seqrs_calm : (c d : Config m) → Numbers c → Quiet m role.Seqr c d → (s : ℕ) → Asks d.packets (seqr_id s) (seqr_in m d s).rids (seqr_asks (seqr_in m d s))
  seqrs_calm c d h q s = subst (λ (x : SeqrState). Asks d.packets (seqr_id s) x.rids (seqr_asks x)) (sym same)
      (asks_still c.packets d.packets (seqr_id s) _ _ (λ p t f. q.old p t (ap (λ (n : NodeId). n.role) f)) (h.seqrs s))
    where
      same : seqr_in m d s ≡ seqr_in m c s
      same = λ i. slice_index_or (q.seqrs refl i) s (new_seqr s (q.cluster i).limit (first_layout (q.cluster i)))

  units_calm : (c d : Config m) → Numbers c → Quiet m role.Unit c d → (p : Packet) → Has d.packets p → p.from.role ≡ role.Unit → is_request p.msg ≡ false
  units_calm c d h q p s f = h.units p (q.old p s f) f

  layouts_calm : (c d : Config m) → Numbers c → Quiet m role.Layout c d → (p : Packet) → Has d.packets p → p.from.role ≡ role.Layout → is_request p.msg ≡ false
  layouts_calm c d h q p s f = h.layouts p (q.old p s f) f

  -- The moves.

  by_unit' : (c : Config m) → Numbers c → (u : ℕ) (p : Packet) → Comes m c p (unit_id u) → u < length c.units → Numbers (unit_turn m c u p (turn_on m c u p))
  by_unit' c h u p comes less = record {
    clients = clients_calm c _ h (unit_quiet m role.Client (λ e. cc) c u p comes less);
    seqrs = seqrs_calm c _ h (unit_quiet m role.Seqr (λ e. cc) c u p comes less);
    units = λ q s f. by q f (old_or_said m c u p q s);
    layouts = layouts_calm c _ h (unit_quiet m role.Layout (λ e. cc) c u p comes less);
  }
    where
      by : (q : Packet) → q.from.role ≡ role.Unit → Has c.packets q ⊎ Said m c u p q → is_request q.msg ≡ false
      by q f (inl x) = h.units q x f
      by q f (inr x) = says_answer _ p.msg q.msg x.is

  by_layout' : (c : Config m) → Numbers c → (l : ℕ) (p : Packet) → Comes m c p (layout_id l) → Numbers (layout_turn m c l p (layout_step (layout_in m c l) p.msg))
  by_layout' c h l p comes = record {
    clients = clients_calm c _ h (layout_quiet m role.Client (λ e. cc) c l p (layout_step (layout_in m c l) p.msg) comes);
    seqrs = seqrs_calm c _ h (layout_quiet m role.Seqr (λ e. cc) c l p (layout_step (layout_in m c l) p.msg) comes);
    units = units_calm c _ h (layout_quiet m role.Unit (λ e. cc) c l p (layout_step (layout_in m c l) p.msg) comes);
    layouts = λ q s f. by q f (has_either c.packets _ q s);
  }
    where
      said : (q : Packet) (o : Option Msg) → (layout_step (layout_in m c l) p.msg).says ≡ o → Has (answer_to m p o) q → is_request q.msg ≡ false
      said q None e g = absurd g
      said q (Some x) e (inl i) = subst (λ (y : Packet). is_request y.msg ≡ false) (sym i) (layout_answer _ p.msg x e)
      said q (Some x) e (inr g) = absurd g

      by : (q : Packet) → q.from.role ≡ role.Layout → Has c.packets q ⊎ Has (answer_to m p (layout_step (layout_in m c l) p.msg).says) q → is_request q.msg ≡ false
      by q f (inl x) = h.layouts q x f
      by q f (inr x) = said q _ refl x

  -- the packets of another node of the role
  others_old : (ps : List Packet) (n : NodeId) (os : List Out) (j : NodeId) → n ≢ j → (p : Packet) → Has (ps ++ map (packet_of m n) os) p → p.from ≡ j → Has ps p
  others_old ps n os j other p h f = by (has_either ps _ p h)
    where
      by : Has ps p ⊎ Has (map (packet_of m n) os) p → Has ps p
      by (inl x) = x
      by (inr x) = absurd (other (sym (outs_from m n os p x) ∙ f))

  seqr_other : (s j : ℕ) → j ≢ s → seqr_id s ≢ seqr_id j
  seqr_other s j other e = other (sym (ap (λ (n : NodeId). n.num) e))

  client_other : (s j : ℕ) → j ≢ s → client_id s ≢ client_id j
  client_other s j other e = other (sym (ap (λ (n : NodeId). n.num) e))

  pub seqr_input_draws : (c : Config m) (s : ℕ) (t : SeqrTurn) → SeqrInput m c s t → SeqrDraws (seqr_in m c s) t
  seqr_input_draws c s t (Hears p comes) = seqr_step_draws (seqr_in m c s) p.from p.rid p.msg
  seqr_input_draws c s t Ticks = seqr_tick_draws (seqr_in m c s)

  by_seqr' : (c : Config m) → Numbers c → (s : ℕ) (t : SeqrTurn) → SeqrInput m c s t → s < length c.seqrs → Numbers (seqr_turn m c s t)
  by_seqr' c h s t i less = record {
    clients = clients_calm c _ h (seqr_quiet m role.Client (λ e. cc) c s t);
    seqrs = at_set c.seqrs s t.now (λ j. new_seqr j c.cluster.limit (first_layout c.cluster)) (λ j x. Asks (c.packets ++ map (packet_of m (seqr_id s)) t.sends) (seqr_id j) x.rids (seqr_asks x)) less
        (let d = seqr_input_draws c s t i in asks_turn m c.packets (seqr_id s) _ _ (h.seqrs s) (seqr_asks t.now) t.now.rids d.drawn t.sends d.sent (seqr_asks t.now) (λ o x. x))
        (λ j other. asks_still c.packets _ (seqr_id j) _ _ (others_old c.packets (seqr_id s) t.sends (seqr_id j) (seqr_other s j other)) (h.seqrs j));
    units = units_calm c _ h (seqr_quiet m role.Unit (λ e. cc) c s t);
    layouts = layouts_calm c _ h (seqr_quiet m role.Layout (λ e. cc) c s t);
  }

  client_input_draws : (c : Config m) (k : ℕ) (t : ClientTurn m) → ClientInput m c k t → TurnDraws' m (client_in m c k) t
  client_input_draws c k t (Commanded x) = command_draws m (client_in m c k) x
  client_input_draws c k t (Hears' p comes) = deliver_draws m (client_in m c k) p.from p.rid p.msg
  client_input_draws c k t Ticks' = tick_draws m (client_in m c k)

  by_client' : (c : Config m) → Numbers c → (k : ℕ) (t : ClientTurn m) → ClientInput m c k t → k < length c.clients → Numbers (client_turn m c k t)
  by_client' c h k t i less = record {
    clients = at_set c.clients k t.now (new_client m c.cluster) (λ j x. Asks (c.packets ++ map (packet_of m (client_id k)) t.sends) (client_id j) x.next (reserved m x)) less
        (let d = client_input_draws c k t i in
        asks_turn m c.packets (client_id k) _ _ (h.clients k) (t.sends ++ reserved m t.now) t.now.next d.is t.sends (λ o x r. has_left t.sends _ o x) (reserved m t.now) (λ o x. has_right t.sends _ o x))
        (λ j other. asks_still c.packets _ (client_id j) _ _ (others_old c.packets (client_id k) t.sends (client_id j) (client_other k j other)) (h.clients j));
    seqrs = seqrs_calm c _ h (client_quiet m role.Seqr (λ e. cc) c k t);
    units = units_calm c _ h (client_quiet m role.Unit (λ e. cc) c k t);
    layouts = layouts_calm c _ h (client_quiet m role.Layout (λ e. cc) c k t);
  }

  pub numbers_keep : Keeps m Numbers
  numbers_keep c h = record {
    idle = h;
    unit = by_unit' c h;
    layout = λ l p comes less. by_layout' c h l p comes;
    seqr = by_seqr' c h;
    client = by_client' c h;
  }

  -- One thing under one number.

  named : (n : NodeId) (r : Role) → n.role ≡ r → n ≡ record { role = r; num = n.num }
  named n r e = λ i. record { role = e i; num = n.num }

  no_request : (x : Msg) → is_request x ≡ true → is_request x ≡ false → ⊥
  no_request x e f = cc

  pub numbers_once : (c : Config m) → Numbers c → NumbersOnce c.packets
  numbers_once c h = record { same = λ p q s t r r' f to rid. by p q s t r r' f to rid p.from.role refl }
    where
      by : (p q : Packet) → Has c.packets p → Has c.packets q → is_request p.msg ≡ true → is_request q.msg ≡ true → p.from ≡ q.from → p.to ≡ q.to → p.rid ≡ q.rid → (x : Role) → p.from.role ≡ x → p.msg ≡ q.msg
      by p q s t r r' f to rid role.Unit e = absurd (no_request p.msg r (h.units p s e))
      by p q s t r r' f to rid role.Layout e = absurd (no_request p.msg r (h.layouts p s e))
      by p q s t r r' f to rid role.Seqr e = let n = named p.from role.Seqr e in (h.seqrs p.from.num).once p q s t n (sym f ∙ n) r r' rid to
      by p q s t r r' f to rid role.Client e = let n = named p.from role.Client e in (h.clients p.from.num).once p q s t n (sym f ∙ n) r r' rid to
