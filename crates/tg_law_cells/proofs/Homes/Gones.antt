-- What a unit has trimmed it was asked to trim, in its epoch or before.
use Rattle.std.proofs.Common.{◌≡◌, ◌⊎◌, ℕ, ◌<◌, ◌≤◌, List, [], length, true, refl, sym, ap, ◌∙◌, subst, inl, inr, arith, Some}
use Rattle.std.specs.Prelude.{slice_index_or}
use Rattle.tg_base.specs.Clusters.{Header}
use Rattle.tg_base.specs.declared.ids.NodeId.{NodeId}
use Rattle.tg_base.specs.declared.ids.Role.TheVariants as role
use Rattle.tg_base.specs.declared.msg.Msg.{Msg}
use Rattle.tg_base.specs.declared.msg.Msg.TheVariants as msg
use Rattle.tg_base.specs.declared.packet.Packet.{Packet}
use Rattle.tg_kind.specs.Meaning.{Meaning}
use Rattle.tg_protocol.specs.Words.{unit_id}
use Rattle.tg_protocol.specs.Runs.{Moves, Always}
use Rattle.tg_protocol.specs.Units.{UnitState, UnitAsk, TrimsBelow, new_unit, unit_ask, on_ask, unit_step}
use Rattle.tg_protocol.specs.Worlds.{start}
use Rattle.tg_law_layouts.specs.Moves.After.{after}
use Rattle.tg_law_layouts.specs.Moves.Configs.{Config, config, unit_in}
use Rattle.tg_law_layouts.specs.Moves.Telling.{is_request}
use Rattle.tg_law_layouts.proofs.Moves.Always.{always}
use Rattle.tg_law_layouts.proofs.Moves.Growth.{IsCalm, by_unit}
use Rattle.tg_law_layouts.proofs.Moves.Lists.{contained, at_set, at_replicate}
use Rattle.tg_law_layouts.proofs.Moves.Members.{Has, has_contained, has_left}
use Rattle.tg_law_layouts.proofs.Moves.Moves.{Comes, Keeps, unit_turn, run_keeps}
use Rattle.tg_law_layouts.proofs.Moves.Units.{answers_request, unit_grows}
use Rattle.tg_law_layouts.proofs.Requests.Answered.{turn_on, Said, old_or_said}
use Rattle.tg_law_layouts.proofs.Requests.Starts.{known}
use Rattle.tg_law_cells.specs.Homes.Homes.{epoch_asked, TrimAsked, GonesAsked}

-- a trim up to a position was asked, in an epoch up to this one
pub record Asked (ps : List Packet) (epoch below : ℕ) : Type 0 where
  pub packet : Packet
  pub sent : Has ps packet
  pub of : ℕ
  pub up_to : of ≤ epoch
  pub is : packet.msg ≡ msg.Trim of below

abbrev None' : List Packet → ℕ → ℕ → Type 0
None' ps epoch below = (below ≡ 0) ⊎ Asked ps epoch below

grown : (ps qs : List Packet) (e f below : ℕ) → ((x : Packet) → Has ps x → Has qs x) → e ≤ f → None' ps e below → None' qs f below
grown ps qs e f below more le (inl i) = inl i
grown ps qs e f below more le (inr a) = inr (record { packet = a.packet; sent = more a.packet a.sent; of = a.of; up_to = (let x = a.up_to in omega (arith, x, le)); is = a.is })

-- What a unit's step says is gone, and what it trims.

ask_gone : (s : UnitState) (a : UnitAsk) (b : ℕ) → (on_ask s a).says ≡ Some (msg.Gone b) → (b ≡ (on_ask s a).now.low) × (epoch_asked a ≡ (on_ask s a).now.epoch)
unfolding on_ask epoch_asked
ask_gone s a b says = grind arith

gone_now : (s : UnitState) (y : Msg) (b : ℕ) → (unit_step s y).says ≡ Some (msg.Gone b) → (b ≡ (unit_step s y).now.low) × (epoch_asked (unit_ask y) ≡ (unit_step s y).now.epoch)
unfolding unit_step
gone_now s y b says = ask_gone s (unit_ask y) b says

is_trim : (y : Msg) (e b : ℕ) → unit_ask y ≡ TrimsBelow e b → y ≡ msg.Trim e b
unfolding unit_ask
is_trim y e b h = grind arith

ask_low : (s : UnitState) (a : UnitAsk) → ((on_ask s a).now.low ≡ s.low) ⊎ (a ≡ TrimsBelow s.epoch (on_ask s a).now.low)
unfolding on_ask
ask_low s a = grind arith

low_now : (s : UnitState) (y : Msg) → ((unit_step s y).now.low ≡ s.low) ⊎ (y ≡ msg.Trim s.epoch (unit_step s y).now.low)
unfolding unit_step
low_now s y = by (ask_low s (unit_ask y))
  where
    by : ((on_ask s (unit_ask y)).now.low ≡ s.low) ⊎ (unit_ask y ≡ TrimsBelow s.epoch (on_ask s (unit_ask y)).now.low) → ((on_ask s (unit_ask y)).now.low ≡ s.low) ⊎ (y ≡ msg.Trim s.epoch (on_ask s (unit_ask y)).now.low)
    by (inl e) = inl e
    by (inr e) = inr (is_trim y s.epoch _ e)

-- an answer that all below a position is gone, and its request
pub record Gone' (ps : List Packet) (a : Packet) (below : ℕ) : Type 0 where
  pub ask : Packet
  pub asked : Has ps ask
  pub to : ask.to ≡ a.from
  pub from : ask.from ≡ a.to
  pub rid : ask.rid ≡ a.rid
  pub request : is_request ask.msg ≡ true
  pub trimmed : None' ps (epoch_asked (unit_ask ask.msg)) below

module _ (m : Meaning) where
  pub record Trims (c : Config m) : Type 0 where
    pub lows : (u : ℕ) → None' c.packets (unit_in m c u).epoch (unit_in m c u).low
    pub gones : (u : ℕ) (a : Packet) (b : ℕ) → Has c.packets a → a.from ≡ unit_id u → a.msg ≡ msg.Gone b → Gone' c.packets a b

  gone_grows : (ps qs : List Packet) (a : Packet) (b : ℕ) → ((x : Packet) → Has ps x → Has qs x) → Gone' ps a b → Gone' qs a b
  gone_grows ps qs a b more g = record { ask = g.ask; asked = more g.ask g.asked; to = g.to; from = g.from; rid = g.rid; request = g.request; trimmed = grown ps qs _ _ b more (omega arith) g.trimmed }

  calm : (c : Config m) → Trims c → IsCalm m role.Unit c Trims
  calm c k d q = record {
    lows = λ u. subst (λ us. None' d.packets (slice_index_or us u new_unit).epoch (slice_index_or us u new_unit).low) (sym (q.units refl)) (grown c.packets d.packets _ _ _ q.grows.sent (omega arith) (k.lows u));
    gones = λ u a b has from is. gone_grows c.packets d.packets a b q.grows.sent (k.gones u a b (q.old a has (ap (λ (n : NodeId). n.role) from)) from is);
  }

  module _ (c : Config m) (k : Trims c) (u : ℕ) (p : Packet) (comes : Comes m c p (unit_id u)) (less : u < length c.units) where
    abbrev qs : List Packet
    qs = (unit_turn m c u p (turn_on m c u p)).packets

    more : (x : Packet) → Has c.packets x → Has (unit_turn m c u p (turn_on m c u p)).packets x
    more x g = has_left c.packets _ x g

    low_here : None' (unit_turn m c u p (turn_on m c u p)).packets (turn_on m c u p).now.epoch (turn_on m c u p).now.low
    low_here = by (low_now (unit_in m c u) p.msg)
      where
        le : (unit_in m c u).epoch ≤ (turn_on m c u p).now.epoch
        le = (unit_grows (unit_in m c u) p.msg).epoch

        by : ((turn_on m c u p).now.low ≡ (unit_in m c u).low) ⊎ (p.msg ≡ msg.Trim (unit_in m c u).epoch (turn_on m c u p).now.low) → None' (unit_turn m c u p (turn_on m c u p)).packets (turn_on m c u p).now.epoch (turn_on m c u p).now.low
        by (inl e) = subst (λ (n : ℕ). None' (unit_turn m c u p (turn_on m c u p)).packets (turn_on m c u p).now.epoch n) (sym e) (grown c.packets _ _ _ _ more le (k.lows u))
        by (inr e) = inr (record { packet = p; sent = more p comes.sent; of = (unit_in m c u).epoch; up_to = le; is = e })

    gone_here : (a : Packet) (b : ℕ) → a.msg ≡ msg.Gone b → Said m c u p a → Gone' (unit_turn m c u p (turn_on m c u p)).packets a b
    gone_here a b is s =
        let says : (turn_on m c u p).says ≡ Some (msg.Gone b) = s.is ∙ ap (λ (y : Msg). Some y) is in
        let g = gone_now (unit_in m c u) p.msg b says in
        record {
          ask = p;
          asked = more p comes.sent;
          to = sym s.from;
          from = sym s.to;
          rid = sym s.rid;
          request = answers_request (unit_in m c u) p.msg a.msg s.is;
          trimmed = subst (λ (n : ℕ). None' (unit_turn m c u p (turn_on m c u p)).packets (epoch_asked (unit_ask p.msg)) n) (sym g.0)
              (subst (λ (n : ℕ). None' (unit_turn m c u p (turn_on m c u p)).packets n (turn_on m c u p).now.low) (sym g.1) low_here);
        }

    own : Trims (unit_turn m c u p (turn_on m c u p))
    own = record {
      lows = at_set c.units u (turn_on m c u p).now (λ v. new_unit) (λ v t. None' (unit_turn m c u p (turn_on m c u p)).packets t.epoch t.low) less low_here (λ v other. grown c.packets _ _ _ _ more (omega arith) (k.lows v));
      gones = λ v a b has from is. by v a b from is (old_or_said m c u p a has);
    }
      where
        by : (v : ℕ) (a : Packet) (b : ℕ) → a.from ≡ unit_id v → a.msg ≡ msg.Gone b → Has c.packets a ⊎ Said m c u p a → Gone' (unit_turn m c u p (turn_on m c u p)).packets a b
        by v a b from is (inl x) = gone_grows c.packets _ a b more (k.gones v a b x from is)
        by v a b from is (inr s) = gone_here a b is s

  trims_keep : Keeps m Trims
  trims_keep c k = by_unit m Trims c k (calm c k) (λ u p a less. own c k u p a less)

  start_trims : (h : Header) → Trims (config m (start m h))
  unfolding start new_unit
  start_trims h = record {
    lows = λ u. at_replicate h.units new_unit u new_unit (λ (t : UnitState). None' [] t.epoch t.low) (inl refl) (inl refl);
    gones = λ u a b has. absurd has;
  }

  trims_hold : (h : Header) (xs : Moves m) → Trims (config m (after m h xs))
  trims_hold h xs = run_keeps m Trims trims_keep xs (start m h) (start_trims h)

  asked_here : (h : Header) (xs : Moves m) → GonesAsked m (after m h xs)
  asked_here h xs u epoch below t some =
      by ((trims_hold h xs).gones u t.answer below (has_contained _ t.answer t.answered) t.from_unit t.is)
    where
      by : Gone' (after m h xs).packets t.answer below → TrimAsked m (after m h xs) epoch below
      by g = which g.trimmed
        where
          same : g.ask.msg ≡ t.ask.msg
          same = (known m h xs).numbers.same g.ask t.ask g.asked (has_contained _ t.ask t.asked) g.request t.request (g.from ∙ t.back) (g.to ∙ (t.from_unit ∙ sym t.to_unit)) (g.rid ∙ t.number)

          of : epoch_asked (unit_ask g.ask.msg) ≡ epoch
          of = ap (λ (y : Msg). epoch_asked (unit_ask y)) same ∙ t.of

          which : None' (after m h xs).packets (epoch_asked (unit_ask g.ask.msg)) below → TrimAsked m (after m h xs) epoch below
          which (inl z) = absurd (omega (arith, z, some))
          which (inr a) = record { packet = a.packet; sent = contained _ a.packet a.sent; of = a.of; up_to = (let x = a.up_to in omega (arith, x, of)); is = a.is }

  pub gone_is_asked : Always m (GonesAsked m)
  gone_is_asked = always m (GonesAsked m) asked_here
