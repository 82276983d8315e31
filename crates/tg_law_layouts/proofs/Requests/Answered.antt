-- Units and their answers: every answer was made to a request that was sent, and is true from then on.
use Rattle.std.proofs.Common.{◌≡◌, ◌⊎◌, ℕ, ◌<◌, length, true, refl, sym, ap, ◌∙◌, subst, inl, inr, Some, None, Option}
use Rattle.std.specs.Prelude.{slice_index_or}
use Rattle.tg_base.specs.declared.ids.NodeId.{NodeId}
use Rattle.tg_base.specs.declared.ids.Role.TheVariants as role
use Rattle.tg_base.specs.declared.msg.Msg.{Msg}
use Rattle.tg_base.specs.declared.packet.Packet.{Packet}
use Rattle.tg_kind.specs.Meaning.{Meaning}
use Rattle.tg_protocol.specs.Words.{unit_id}
use Rattle.tg_protocol.specs.Units.{UnitTurn, new_unit, unit_ask, unit_step}
use Rattle.tg_protocol.specs.Worlds.{answer_to}
use Rattle.tg_law_layouts.proofs.Moves.Members.{Has, has_left, has_either}
use Rattle.tg_law_layouts.specs.Moves.Configs.{Config, unit_in}
use Rattle.tg_law_layouts.specs.Moves.Telling.{is_request}
use Rattle.tg_law_layouts.proofs.Moves.Lists.{at_set}
use Rattle.tg_law_layouts.proofs.Moves.Units.{UnitRight, IsTrue, right_step, true_now, true_grows, answers_request}
use Rattle.tg_law_layouts.proofs.Moves.Moves.{Comes, unit_turn, Keeps}
use Rattle.tg_law_layouts.proofs.Moves.Growth.{Grows, IsCalm, by_unit, unit_turn_grows}

module _ (m : Meaning) where
  -- what a unit is to say to a packet
  abbrev pub turn_on : Config m → ℕ → Packet → UnitTurn
  turn_on c u p = unit_step (unit_in m c u) p.msg

  -- a new packet of a unit
  pub record Said (c : Config m) (u : ℕ) (p q : Packet) : Type 0 where
    pub is : (turn_on c u p).says ≡ Some q.msg
    pub from : q.from ≡ p.to
    pub to : q.to ≡ p.from
    pub rid : q.rid ≡ p.rid

  pub said_by : (c : Config m) (u : ℕ) (p q : Packet) (o : Option Msg) → (turn_on c u p).says ≡ o → Has (answer_to m p o) q → Said c u p q
  said_by c u p q None e h = absurd h
  said_by c u p q (Some x) e (inl i) = record {
    is = e ∙ ap (λ (z : Packet). Some z.msg) (sym i);
    from = ap (λ (z : Packet). z.from) i;
    to = ap (λ (z : Packet). z.to) i;
    rid = ap (λ (z : Packet). z.rid) i;
  }
  said_by c u p q (Some x) e (inr h) = absurd h

  pub old_or_said : (c : Config m) (u : ℕ) (p q : Packet) → Has (unit_turn m c u p (turn_on c u p)).packets q → Has c.packets q ⊎ Said c u p q
  old_or_said c u p q h = by (has_either c.packets _ q h)
    where
      by : Has c.packets q ⊎ Has (answer_to m p (turn_on c u p).says) q → Has c.packets q ⊎ Said c u p q
      by (inl x) = inl x
      by (inr x) = inr (said_by c u p q (turn_on c u p).says refl x)

  pub unit_now : (c : Config m) (u : ℕ) (p : Packet) → u < length c.units → unit_in m (unit_turn m c u p (turn_on c u p)) u ≡ (turn_on c u p).now
  unit_now c u p less = at_set c.units u (turn_on c u p).now (λ v. new_unit) (λ v t. v ≡ u → t ≡ (turn_on c u p).now) less (λ e. refl) (λ v other e. absurd (other e)) u refl

  -- The answer's request.

  pub record Answered (c : Config m) (u : ℕ) (a : Packet) : Type 0 where
    pub ask : Packet
    pub asked : Has c.packets ask
    pub to : ask.to ≡ a.from
    pub from : ask.from ≡ a.to
    pub rid : ask.rid ≡ a.rid
    pub request : is_request ask.msg ≡ true
    pub true : IsTrue (unit_in m c u) (unit_ask ask.msg) a.msg

  pub record Units (c : Config m) : Type 0 where
    pub right : (u : ℕ) → UnitRight (unit_in m c u)
    pub answered : (u : ℕ) (a : Packet) → Has c.packets a → a.from ≡ unit_id u → Answered c u a

  still : (c d : Config m) (u : ℕ) (a : Packet) → Grows m c d → Answered c u a → Answered d u a
  still c d u a g h = record {
    ask = h.ask;
    asked = g.sent h.ask h.asked;
    to = h.to;
    from = h.from;
    rid = h.rid;
    request = h.request;
    true = true_grows _ _ (unit_ask h.ask.msg) a.msg (g.unit u) h.true;
  }

  calm : (c : Config m) → Units c → IsCalm m role.Unit c Units
  calm c h d q = record {
    right = λ u. subst (λ us. UnitRight (slice_index_or us u new_unit)) (sym (q.units refl)) (h.right u);
    answered = λ u a s from. still c d u a q.grows (h.answered u a (q.old a s (ap (λ (n : NodeId). n.role) from)) from);
  }

  same_unit : (u v : ℕ) → unit_id u ≡ unit_id v → u ≡ v
  same_unit u v e = ap (λ (n : NodeId). n.num) e

  own : (c : Config m) → Units c → (u : ℕ) (p : Packet) → Comes m c p (unit_id u) → u < length c.units → Units (unit_turn m c u p (turn_on c u p))
  own c h u p comes less = record {
    right = at_set c.units u (turn_on c u p).now (λ v. new_unit) (λ v t. UnitRight t) less (right_step (unit_in m c u) p.msg (h.right u)) (λ v other. h.right v);
    answered = λ v a s from. by v a from (old_or_said c u p a s);
  }
    where
      d : Config m
      d = unit_turn m c u p (turn_on c u p)

      by : (v : ℕ) (a : Packet) → a.from ≡ unit_id v → Has c.packets a ⊎ Said c u p a → Answered d v a
      by v a from (inl s) = still c d v a (unit_turn_grows m c u p less) (h.answered v a s from)
      by v a from (inr s) = record {
        ask = p;
        asked = has_left c.packets _ p comes.sent;
        to = sym s.from;
        from = sym s.to;
        rid = sym s.rid;
        request = answers_request (unit_in m c u) p.msg a.msg s.is;
        true = subst (λ (w : ℕ). IsTrue (unit_in m d w) (unit_ask p.msg) a.msg) (same_unit u v (sym comes.to_node ∙ sym s.from ∙ from))
            (subst (λ t. IsTrue t (unit_ask p.msg) a.msg) (sym (unit_now c u p less)) (true_now (unit_in m c u) p.msg a.msg (h.right u) s.is));
      }

  pub units_keep : Keeps m Units
  units_keep c h = by_unit m Units c h (calm c h) (own c h)
