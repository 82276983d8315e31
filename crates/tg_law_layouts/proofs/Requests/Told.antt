-- What units have told: one cell at a position, and nothing at or past a seal's position before the seal.
use Rattle.std.proofs.Common.{◌≡◌, ◌⊎◌, ℕ, ◌<◌, ◌≤◌, List, length, true, false, refl, sym, ap, ◌∙◌, subst, inl, inr, arith, Some, Option}
use Rattle.tg_base.specs.declared.cell.Cell.{Cell}
use Rattle.tg_base.specs.declared.ids.NodeId.{NodeId}
use Rattle.tg_base.specs.declared.ids.Role.TheVariants as role
use Rattle.tg_base.specs.declared.msg.Msg.{Msg}
use Rattle.tg_base.specs.declared.msg.Msg.TheVariants as msg
use Rattle.tg_base.specs.declared.packet.Packet.{Packet}
use Rattle.tg_kind.specs.Meaning.{Meaning}
use Rattle.tg_protocol.specs.Words.{unit_id, cell_at, plus_one}
use Rattle.tg_protocol.specs.Units.{UnitState, unit_ask}
use Rattle.tg_law_layouts.proofs.Moves.Members.{Has}
use Rattle.tg_law_layouts.specs.Moves.Configs.{Config, unit_in}
use Rattle.tg_law_layouts.specs.Moves.Telling.{Claim, claimed, is_request}
use Rattle.tg_law_layouts.proofs.Moves.Units.{Holds, Now, unit_grows, holds_grows, claim_now, seal_now, answers_request, says_answer, claim_asked}
use Rattle.tg_law_layouts.proofs.Moves.Moves.{Cases, Comes, unit_turn}
use Rattle.tg_law_layouts.proofs.Moves.Growth.{Quiet, IsCalm, by_unit}
use Rattle.tg_law_layouts.proofs.Requests.Answered.{Said, turn_on, old_or_said, Answered, Units}

-- two requests of one node to one node with one number are the same
pub record NumbersOnce (ps : List Packet) : Type 0 where
  pub same : (p q : Packet) → Has ps p → Has ps q → is_request p.msg ≡ true → is_request q.msg ≡ true → p.from ≡ q.from → p.to ≡ q.to → p.rid ≡ q.rid → p.msg ≡ q.msg

pub record Tells (ps : List Packet) (u : ℕ) (k : Claim) : Type 0 where
  pub ask : Packet
  pub answer : Packet
  pub asked : Has ps ask
  pub answered : Has ps answer
  pub to_unit : ask.to ≡ unit_id u
  pub from_unit : answer.from ≡ unit_id u
  pub back : answer.to ≡ ask.from
  pub number : answer.rid ≡ ask.rid
  pub tells : claimed (unit_ask ask.msg) answer.msg ≡ Some k

pub record Seals (ps : List Packet) (u e h : ℕ) : Type 0 where
  pub answer : Packet
  pub answered : Has ps answer
  pub from_unit : answer.from ≡ unit_id u
  pub is : answer.msg ≡ msg.Sealed e h

pub tells_grows : (ps qs : List Packet) (u : ℕ) (k : Claim) → ((q : Packet) → Has ps q → Has qs q) → Tells ps u k → Tells qs u k
tells_grows ps qs u k g t = record {
  ask = t.ask;
  answer = t.answer;
  asked = g t.ask t.asked;
  answered = g t.answer t.answered;
  to_unit = t.to_unit;
  from_unit = t.from_unit;
  back = t.back;
  number = t.number;
  tells = t.tells;
}

module _ (m : Meaning) where
  -- What is known below.
  pub record Base (c : Config m) : Type 0 where
    pub numbers : NumbersOnce c.packets
    pub units : Units m c

  -- the request that an answer was made to is the one with its number
  same_ask : (c : Config m) (u : ℕ) (a p : Packet) → Base c → (h : Answered m c u a) → Has c.packets p → is_request p.msg ≡ true → p.to ≡ a.from → a.to ≡ p.from → a.rid ≡ p.rid → h.ask.msg ≡ p.msg
  same_ask c u a p b h sent request to back number = b.numbers.same h.ask p h.asked sent h.request request (h.from ∙ back) (h.to ∙ sym to) (h.rid ∙ number)

  -- what was told holds
  pub told_holds : (c : Config m) (u : ℕ) (k : Claim) → Base c → Tells c.packets u k → Holds (unit_in m c u) k
  told_holds c u k b t =
      let h = b.units.answered u t.answer t.answered t.from_unit in
      let same = same_ask c u t.answer t.ask b h t.asked (claim_asked t.ask.msg t.answer.msg k t.tells) (t.to_unit ∙ sym t.from_unit) t.back t.number in
      h.true.cell k (subst (λ (x : Msg). claimed (unit_ask x) t.answer.msg ≡ Some k) (sym same) t.tells)

  pub seal_holds : (c : Config m) (u e h : ℕ) → Base c → Seals c.packets u e h → e ≤ (unit_in m c u).epoch
  seal_holds c u e h b s = (b.units.answered u s.answer s.answered s.from_unit).true.sealed e h s.is

  pub record Facts (c : Config m) : Type 0 where
    -- a position has one cell
    pub once : (u : ℕ) (k l : Claim) → Tells c.packets u k → Tells c.packets u l → k.pos ≡ l.pos → k.cell ≡ l.cell
    -- what is told below a seal's epoch lies below its high
    pub sealed : (u e h : ℕ) (k : Claim) → Seals c.packets u e h → Tells c.packets u k → k.epoch < e → plus_one k.pos ≤ h

  -- Units are quiet.

  pub old_tells : (c d : Config m) (u : ℕ) (k : Claim) → Quiet m role.Unit c d → Base d → Tells d.packets u k → Base c → Tells c.packets u k
  old_tells c d u k q low t below =
      let s = q.old t.answer t.answered (ap (λ (n : NodeId). n.role) t.from_unit) in
      let h = below.units.answered u t.answer s t.from_unit in
      let same = low.numbers.same h.ask t.ask (q.grows.sent h.ask h.asked) t.asked h.request (claim_asked t.ask.msg t.answer.msg k t.tells) (h.from ∙ t.back) (h.to ∙ (t.from_unit ∙ sym t.to_unit)) (h.rid ∙ t.number) in
      record {
        ask = h.ask;
        answer = t.answer;
        asked = h.asked;
        answered = s;
        to_unit = h.to ∙ t.from_unit;
        from_unit = t.from_unit;
        back = sym h.from;
        number = sym h.rid;
        tells = subst (λ (x : Msg). claimed (unit_ask x) t.answer.msg ≡ Some k) (sym same) t.tells;
      }

  old_seals : (c d : Config m) (u e h : ℕ) → Quiet m role.Unit c d → Seals d.packets u e h → Seals c.packets u e h
  old_seals c d u e h q s = record { answer = s.answer; answered = q.old s.answer s.answered (ap (λ (n : NodeId). n.role) s.from_unit); from_unit = s.from_unit; is = s.is }

  calm : (c : Config m) → Base c → Facts c → IsCalm m role.Unit c (λ d. Base d → Facts d)
  calm c b f d q low = record {
    once = λ u k l s t. f.once u k l (old_tells c d u k q low s b) (old_tells c d u l q low t b);
    sealed = λ u e h k s t. f.sealed u e h k (old_seals c d u e h q s) (old_tells c d u k q low t b);
  }

  -- A unit answers.

  module _ (c : Config m) (b : Base c) (f : Facts c) (u : ℕ) (p : Packet) (comes : Comes m c p (unit_id u)) (less : u < length c.units) (low : Base (unit_turn m c u p (turn_on m c u p))) where
    abbrev d : Config m
    d = unit_turn m c u p (turn_on m c u p)

    abbrev now : UnitState
    now = (turn_on m c u p).now

    -- a claim that the unit makes now
    pub record Anew (v : ℕ) (k : Claim) : Type 0 where
      pub unit : v ≡ u
      pub holds : Now now k

    same_unit : (x y : ℕ) → unit_id x ≡ unit_id y → x ≡ y
    same_unit x y e = ap (λ (n : NodeId). n.num) e

    not_both : (x y : Msg) → x ≡ y → is_request x ≡ true → is_request y ≡ false → ⊥
    not_both x y e s t = cc

    old_ask : (x : Packet) → is_request x.msg ≡ true → Has c.packets x ⊎ Said m c u p x → Has c.packets x
    old_ask x r (inl h) = h
    old_ask x r (inr s) = absurd (not_both x.msg x.msg refl r (says_answer (unit_in m c u) p.msg x.msg s.is))

    pub tells_or_anew : (v : ℕ) (k : Claim) → Tells d.packets v k → Tells c.packets v k ⊎ Anew v k
    tells_or_anew v k t = by (old_or_said m c u p t.answer t.answered)
      where
        request : is_request t.ask.msg ≡ true
        request = claim_asked t.ask.msg t.answer.msg k t.tells

        asked : Has c.packets t.ask
        asked = old_ask t.ask request (old_or_said m c u p t.ask t.asked)

        by : Has c.packets t.answer ⊎ Said m c u p t.answer → Tells c.packets v k ⊎ Anew v k
        by (inl s) = inl (record {
          ask = t.ask;
          answer = t.answer;
          asked = asked;
          answered = s;
          to_unit = t.to_unit;
          from_unit = t.from_unit;
          back = t.back;
          number = t.number;
          tells = t.tells;
        })
        by (inr s) =
            let same : t.ask.msg ≡ p.msg = b.numbers.same t.ask p asked comes.sent request (answers_request (unit_in m c u) p.msg t.answer.msg s.is) (sym t.back ∙ s.to)
            (t.to_unit ∙ (sym t.from_unit ∙ s.from)) (sym t.number ∙ s.rid) in
            inr (record {
              unit = same_unit v u (sym t.from_unit ∙ (s.from ∙ comes.to_node));
              holds = claim_now (unit_in m c u) p.msg t.answer.msg k s.is (subst (λ (x : Msg). claimed (unit_ask x) t.answer.msg ≡ Some k) same t.tells);
            })

    -- it is sealed now
    pub record SealsNow (v e h : ℕ) : Type 0 where
      pub unit : v ≡ u
      pub epoch : e ≡ now.epoch
      pub high : h ≡ (unit_in m c u).high

    seals_or_now : (v e h : ℕ) → Seals d.packets v e h → Seals c.packets v e h ⊎ SealsNow v e h
    seals_or_now v e h s = by (old_or_said m c u p s.answer s.answered)
      where
        by : Has c.packets s.answer ⊎ Said m c u p s.answer → Seals c.packets v e h ⊎ SealsNow v e h
        by (inl x) = inl (record { answer = s.answer; answered = x; from_unit = s.from_unit; is = s.is })
        by (inr x) =
            let n = seal_now (unit_in m c u) p.msg e h (subst (λ (y : Msg). (turn_on m c u p).says ≡ Some y) s.is x.is) in
            inr (record { unit = same_unit v u (sym s.from_unit ∙ (x.from ∙ comes.to_node)); epoch = n.0; high = n.1 })

    -- what was told holds in the new state too
    old_holds : (v : ℕ) (k : Claim) → v ≡ u → Tells c.packets v k → Holds now k
    old_holds v k is t = holds_grows _ _ k (unit_grows (unit_in m c u) p.msg) (subst (λ w. Holds (unit_in m c w) k) is (told_holds c v k b t))

    cell_is : (k l : Claim) → k.pos ≡ l.pos → Holds now k → Now now l → k.cell ≡ l.cell
    cell_is k l same h n = by h.cell
      where
        at_l : cell_at now.cells k.pos ≡ Some l.cell
        at_l = subst (λ (q : ℕ). cell_at now.cells q ≡ Some l.cell) (sym same) n.cell

        some_same : (x y : Cell) (o : Option Cell) → o ≡ Some x → o ≡ Some y → x ≡ y
        some_same x y o e i = cc

        by : (cell_at now.cells k.pos ≡ Some k.cell) ⊎ (k.pos < now.low) → k.cell ≡ l.cell
        by (inl x) = some_same k.cell l.cell (cell_at now.cells k.pos) x at_l
        by (inr x) = let le = n.low in absurd (omega (arith, x, le, same))

    once : (v : ℕ) (k l : Claim) → k.pos ≡ l.pos → Tells c.packets v k ⊎ Anew v k → Tells c.packets v l ⊎ Anew v l → k.cell ≡ l.cell
    once v k l same (inl s) (inl t) = f.once v k l s t same
    once v k l same (inl s) (inr t) = cell_is k l same (old_holds v k t.unit s) t.holds
    once v k l same (inr s) (inl t) = sym (cell_is l k (sym same) (old_holds v l s.unit t) s.holds)
    once v k l same (inr s) (inr t) = some_same k.cell l.cell _ (subst (λ (q : ℕ). cell_at now.cells q ≡ Some k.cell) same s.holds.cell) t.holds.cell
      where
        some_same : (x y : Cell) (o : Option Cell) → o ≡ Some x → o ≡ Some y → x ≡ y
        some_same x y o e i = cc

    sealed : (v e h : ℕ) (k : Claim) → k.epoch < e → Seals c.packets v e h ⊎ SealsNow v e h → Tells c.packets v k ⊎ Anew v k → plus_one k.pos ≤ h
    sealed v e h k less' (inl s) (inl t) = f.sealed v e h k s t less'
    sealed v e h k less' (inl s) (inr t) =
        let a = subst (λ w. e ≤ (unit_in m c w).epoch) t.unit (seal_holds c v e h b s) in
        let g = (unit_grows (unit_in m c u) p.msg).epoch in
        let n = t.holds.epoch in
        absurd (omega (arith, a, g, n, less'))
    sealed v e h k less' (inr s) (inl t) = let a = (subst (λ w. Holds (unit_in m c w) k) s.unit (told_holds c v k b t)).high in let i = s.high in omega (arith, a, i)
    sealed v e h k less' (inr s) (inr t) = let a = s.epoch in let n = t.holds.epoch in absurd (omega (arith, a, n, less'))

    own : Facts d
    own = record {
      once = λ v k l s t same. once v k l same (tells_or_anew v k s) (tells_or_anew v l t);
      sealed = λ v e h k s t less'. sealed v e h k less' (seals_or_now v e h s) (tells_or_anew v k t);
    }

  pub facts_keep : (c : Config m) → Base c → Facts c → Cases m c (λ d. Base d → Facts d)
  facts_keep c b f = by_unit m (λ d. Base d → Facts d) c (λ _. f) (calm c b f) (λ u p a less low. own c b f u p a less low)
