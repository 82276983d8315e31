-- Over a run, what a unit has, and where it has told a cell, was stored by a request that it answered so.
use Rattle.std.proofs.Common.{◌≡◌, ◌⊎◌, ℕ, ◌<◌, ◌≤◌, List, [], length, refl, sym, subst, inl, inr, arith, Some, Option}
use Rattle.std.specs.Prelude.{slice_index_or}
use Rattle.tg_base.specs.Clusters.{Header}
use Rattle.tg_base.specs.declared.cell.Cell.{Cell}
use Rattle.tg_base.specs.declared.ids.Role.TheVariants as role
use Rattle.tg_base.specs.declared.msg.Msg.{Msg}
use Rattle.tg_base.specs.declared.msg.Msg.TheVariants as msg
use Rattle.tg_base.specs.declared.packet.Packet.{Packet}
use Rattle.tg_kind.specs.Meaning.{Meaning}
use Rattle.tg_protocol.specs.Words.{unit_id, cell_at}
use Rattle.tg_protocol.specs.Units.{UnitState, new_unit, unit_ask}
use Rattle.tg_protocol.specs.Worlds.{start, answer_to}
use Rattle.tg_law_layouts.specs.Moves.Configs.{Config, config, unit_in}
use Rattle.tg_law_layouts.specs.Moves.Telling.{Claim, claimed}
use Rattle.tg_law_layouts.proofs.Moves.Members.{Has, has_left, has_right}
use Rattle.tg_law_layouts.proofs.Moves.Lists.{at_set, at_replicate}
use Rattle.tg_law_layouts.proofs.Moves.Units.{unit_grows, unit_stores}
use Rattle.tg_law_layouts.proofs.Moves.Moves.{Cases, Comes, unit_turn}
use Rattle.tg_law_layouts.proofs.Moves.Growth.{IsCalm, by_unit, unit_turn_grows}
use Rattle.tg_law_layouts.proofs.Requests.Answered.{turn_on}
use Rattle.tg_law_layouts.proofs.Requests.Told.{Tells, Base, Anew, tells_grows, tells_or_anew, old_tells}
use Rattle.tg_law_layouts.proofs.Requests.Starts.{All, base_of}

-- the unit was sent a request to store a cell there, and told that it has it
pub record StoreTold (ps : List Packet) (u p : ℕ) : Type 0 where
  pub claim : Claim
  pub told : Tells ps u claim
  pub at : claim.pos ≡ p
  pub ask : Packet
  pub asked : Has ps ask
  pub stores : claimed (unit_ask ask.msg) msg.Held ≡ Some claim

pub store_grows : (ps qs : List Packet) (u p : ℕ) → ((q : Packet) → Has ps q → Has qs q) → StoreTold ps u p → StoreTold qs u p
store_grows ps qs u p g s = record { claim = s.claim; told = tells_grows ps qs u s.claim g s.told; at = s.at; ask = s.ask; asked = g s.ask s.asked; stores = s.stores }

module _ (m : Meaning) where
  base : (c : Config m) → All m c → Base m c
  base c b = base_of m c b.0

  pub record Owned (c : Config m) : Type 0 where
    pub cells : (u p : ℕ) (x : Cell) → cell_at (unit_in m c u).cells p ≡ Some x → StoreTold c.packets u p
    pub tells : (u : ℕ) (k : Claim) → Tells c.packets u k → StoreTold c.packets u k.pos

  calm : (c : Config m) → All m c → Owned c → IsCalm m role.Unit c (λ d. All m d → Owned d)
  calm c b o d q low = record {
    cells = λ u p x i. store_grows c.packets d.packets u p q.grows.sent (o.cells u p x (subst (λ us. cell_at (slice_index_or us u new_unit).cells p ≡ Some x) (q.units refl) i));
    tells = λ u k t. store_grows c.packets d.packets u k.pos q.grows.sent (o.tells u k (old_tells m c d u k q (base d low) t (base c b)));
  }

  module _ (c : Config m) (b : All m c) (o : Owned c) (u : ℕ) (p : Packet) (comes : Comes m c p (unit_id u)) (less : u < length c.units) (low : All m (unit_turn m c u p (turn_on m c u p))) where
    grown : (v q : ℕ) → StoreTold c.packets v q → StoreTold (unit_turn m c u p (turn_on m c u p)).packets v q
    grown v q s = store_grows c.packets _ v q (λ x g. has_left c.packets _ x g) s

    -- it stores a cell
    fresh : (q : ℕ) (x : Cell) → (turn_on m c u p).says ≡ Some msg.Held → claimed (unit_ask p.msg) msg.Held ≡ Some (record { epoch = (turn_on m c u p).now.epoch; pos = q; cell = x }) → StoreTold (unit_turn m c u p (turn_on m c u p)).packets u q
    fresh q x says is = record {
      claim = record { epoch = (turn_on m c u p).now.epoch; pos = q; cell = x };
      told = record {
        ask = p;
        answer = record { from = p.to; to = p.from; rid = p.rid; msg = msg.Held };
        asked = has_left c.packets _ p comes.sent;
        answered = has_right c.packets _ _ (subst (λ (y : Option Msg). Has (answer_to m p y) (record { from = p.to; to = p.from; rid = p.rid; msg = msg.Held })) (sym says) (inl refl));
        to_unit = comes.to_node;
        from_unit = comes.to_node;
        back = refl;
        number = refl;
        tells = is;
      };
      at = refl;
      ask = p;
      asked = has_left c.packets _ p comes.sent;
      stores = is;
    }

    here : (q : ℕ) (x : Cell) → cell_at (turn_on m c u p).now.cells q ≡ Some x → StoreTold (unit_turn m c u p (turn_on m c u p)).packets u q
    here q x i = by (unit_stores (unit_in m c u) p.msg q x i)
      where
        by : (cell_at (unit_in m c u).cells q ≡ Some x) ⊎ (((turn_on m c u p).says ≡ Some msg.Held) × (claimed (unit_ask p.msg) msg.Held ≡ Some (record { epoch = (turn_on m c u p).now.epoch; pos = q; cell = x }))) → StoreTold (unit_turn m c u p (turn_on m c u p)).packets u q
        by (inl e) = grown u q (o.cells u q x e)
        by (inr e) = fresh q x e.0 e.1

    told_now : (v : ℕ) (k : Claim) → Tells c.packets v k ⊎ Anew m c (base c b) b.1 u p comes less (base _ low) v k → StoreTold (unit_turn m c u p (turn_on m c u p)).packets v k.pos
    told_now v k (inl t) = grown v k.pos (o.tells v k t)
    told_now v k (inr n) = subst (λ (w : ℕ). StoreTold (unit_turn m c u p (turn_on m c u p)).packets w k.pos) (sym n.unit) (here k.pos k.cell n.holds.cell)

    own : Owned (unit_turn m c u p (turn_on m c u p))
    own = record {
      cells = at_set c.units u (turn_on m c u p).now (λ v. new_unit) (λ v t. (q : ℕ) (x : Cell) → cell_at t.cells q ≡ Some x → StoreTold (unit_turn m c u p (turn_on m c u p)).packets v q) less here (λ v other q x i. grown v q (o.cells v q x i));
      tells = λ v k t. told_now v k (tells_or_anew m c (base c b) b.1 u p comes less (base _ low) v k t);
    }

  pub owned_keep : (c : Config m) → All m c → Owned c → Cases m c (λ d. All m d → Owned d)
  owned_keep c b o = by_unit m (λ d. All m d → Owned d) c (λ _. o) (calm c b o) (λ u p a less low. own c b o u p a less low)

  pub start_owned : (g : Header) → Owned (config m (start m g))
  unfolding start new_unit
  start_owned g = record {
    cells = λ u. at_replicate g.units new_unit u new_unit (λ (t : UnitState). (p : ℕ) (x : Cell) → cell_at t.cells p ≡ Some x → StoreTold [] u p) (λ p x i. absurd (cc)) (λ p x i. absurd (cc));
    tells = λ u k t. absurd t.asked;
  }

  -- Seen from a later world: units trim no less, and tell nothing more of what they have trimmed.

  pub record Ahead (fin c : Config m) : Type 0 where
    pub low : (u : ℕ) → (unit_in m c u).low ≤ (unit_in m fin u).low
    pub told : (u : ℕ) (k : Claim) → Tells fin.packets u k → k.pos < (unit_in m c u).low → Tells c.packets u k

  ahead_calm : (fin c : Config m) → All m c → IsCalm m role.Unit c (λ d. All m d → Ahead fin d → Ahead fin c)
  ahead_calm fin c b d q low a = record {
    low = λ u. let x = (q.grows.unit u).low in let y = a.low u in omega (arith, x, y);
    told = λ u k t less. old_tells m c d u k q (base d low) (a.told u k t (let x = (q.grows.unit u).low in omega (arith, x, less))) (base c b);
  }

  ahead_own : (fin c : Config m) (b : All m c) (u : ℕ) (p : Packet) (comes : Comes m c p (unit_id u)) (less : u < length c.units) (low : All m (unit_turn m c u p (turn_on m c u p))) → Ahead fin (unit_turn m c u p (turn_on m c u p)) → Ahead fin c
  ahead_own fin c b u p comes less low a = record {
    low = λ v. let x = (grows.unit v).low in let y = a.low v in omega (arith, x, y);
    told = λ v k t short. by v k short (tells_or_anew m c (base c b) b.1 u p comes less (base _ low) v k (a.told v k t (let x = (grows.unit v).low in omega (arith, x, short))));
  }
    where
      grows : Rattle.tg_law_layouts.proofs.Moves.Growth.Grows m c (unit_turn m c u p (turn_on m c u p))
      grows = unit_turn_grows m c u p less

      by : (v : ℕ) (k : Claim) → k.pos < (unit_in m c v).low → Tells c.packets v k ⊎ Anew m c (base c b) b.1 u p comes less (base _ low) v k → Tells c.packets v k
      by v k short (inl t) = t
      by v k short (inr n) =
          let x = n.holds.low in
          let y = (unit_grows (unit_in m c u) p.msg).low in
          let z = subst (λ (w : ℕ). k.pos < (unit_in m c w).low) n.unit short in
          absurd (omega (arith, x, y, z))

  pub ahead_back : (fin c : Config m) → All m c → Cases m c (λ d. All m d → Ahead fin d → Ahead fin c)
  ahead_back fin c b = by_unit m (λ d. All m d → Ahead fin d → Ahead fin c) c (λ _ a. a) (ahead_calm fin c b) (λ u p a less low y. ahead_own fin c b u p a less low y)
