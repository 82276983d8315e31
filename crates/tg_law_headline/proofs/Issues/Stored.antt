-- What a unit has at a position it was asked to store there, and has answered that it holds.
use Rattle.std.proofs.Common.{◌≡◌, ◌≢◌, ◌⊎◌, ℕ, ◌+◌, ◌<◌, ◌≤◌, List, [], ◌∷◌, ◌++◌, length, refl, sym, ap, ◌∙◌, subst, inl, inr, arith, Some, None, Option}
use Rattle.std.specs.Prelude.{slice_index_or}
use Rattle.tg_base.specs.Clusters.{Header}
use Rattle.tg_base.specs.declared.cell.Cell.{Cell}
use Rattle.tg_base.specs.declared.ids.Role.TheVariants as role
use Rattle.tg_base.specs.declared.msg.Msg.{Msg}
use Rattle.tg_base.specs.declared.msg.Msg.TheVariants as msg
use Rattle.tg_base.specs.declared.packet.Packet.{Packet}
use Rattle.tg_kind.specs.Meaning.{Meaning}
use Rattle.tg_protocol.specs.Words.{unit_id, cell_at}
use Rattle.tg_protocol.specs.Units.{UnitState, new_unit, unit_ask}
use Rattle.tg_protocol.specs.Worlds.{start, answer_to}
use Rattle.tg_protocol.specs.Runs.{Moves}
use Rattle.tg_law_layouts.specs.Moves.After.{after}
use Rattle.tg_law_layouts.specs.Moves.Configs.{Config, config, unit_in}
use Rattle.tg_law_layouts.specs.Moves.Telling.{claimed, claim}
use Rattle.tg_law_layouts.proofs.Moves.Members.{Has, has_left, has_right}
use Rattle.tg_law_layouts.proofs.Moves.Lists.{at_set, at_replicate}
use Rattle.tg_law_layouts.proofs.Moves.Units.{unit_stores, unit_grows}
use Rattle.tg_law_layouts.proofs.Moves.Moves.{Comes, unit_turn}
use Rattle.tg_law_layouts.proofs.Moves.Growth.{IsCalm, by_unit}
use Rattle.tg_law_layouts.proofs.Requests.Answered.{turn_on}
use Rattle.tg_law_headline.proofs.Issues.Along.{along}

-- a request to store, in this epoch or before, and its answer
pub record StoredBy (ps : List Packet) (u epoch pos : ℕ) (c : Cell) : Type 0 where
  pub ask : Packet
  pub answer : Packet
  pub of : ℕ
  pub some : 1 ≤ of
  pub up_to : of ≤ epoch
  pub asked : Has ps ask
  pub answered : Has ps answer
  pub to_unit : ask.to ≡ unit_id u
  pub from_unit : answer.from ≡ unit_id u
  pub back : answer.to ≡ ask.from
  pub number : answer.rid ≡ ask.rid
  pub held : answer.msg ≡ msg.Held
  pub tells : claimed (unit_ask ask.msg) msg.Held ≡ claim of pos c

stored_grows : (ps qs : List Packet) (u e f pos : ℕ) (c : Cell) → ((x : Packet) → Has ps x → Has qs x) → e ≤ f → StoredBy ps u e pos c → StoredBy qs u f pos c
stored_grows ps qs u e f pos c g le s = record { ask = s.ask; answer = s.answer; of = s.of; some = s.some; up_to = (let a = s.up_to in omega (arith, a, le)); asked = g s.ask s.asked; answered = g s.answer s.answered; to_unit = s.to_unit; from_unit = s.from_unit; back = s.back; number = s.number; held = s.held; tells = s.tells }

module _ (m : Meaning) where
  abbrev pub IsStored : List Packet → ℕ → UnitState → Type 0
  IsStored ps u s = (1 ≤ s.epoch) × ((p : ℕ) (x : Cell) → cell_at s.cells p ≡ Some x → StoredBy ps u s.epoch p x)

  abbrev pub AllStored : Config m → Type 0
  AllStored c = (u : ℕ) → IsStored c.packets u (unit_in m c u)

  stored_more : (ps qs : List Packet) (u : ℕ) (s : UnitState) → ((x : Packet) → Has ps x → Has qs x) → IsStored ps u s → IsStored qs u s
  stored_more ps qs u s g k = (k.0, λ p x i. stored_grows ps qs u _ _ p x g (omega arith) (k.1 p x i))

  calm : (c : Config m) → AllStored c → IsCalm m role.Unit c AllStored
  calm c h d q u =
      let same : unit_in m d u ≡ unit_in m c u = λ j. slice_index_or (q.units refl j) u new_unit in
      subst (λ (z : UnitState). IsStored d.packets u z) (sym same) (stored_more c.packets d.packets u (unit_in m c u) q.grows.sent (h u))

  module _ (c : Config m) (h : AllStored c) (u : ℕ) (p : Packet) (comes : Comes m c p (unit_id u)) (less : u < length c.units) where
    abbrev qs : List Packet
    qs = (unit_turn m c u p (turn_on m c u p)).packets

    grown : (y : Packet) → Has c.packets y → Has qs y
    grown y g = has_left c.packets _ y g

    up : (unit_in m c u).epoch ≤ (turn_on m c u p).now.epoch
    up = (unit_grows (unit_in m c u) p.msg).epoch

    some : 1 ≤ (turn_on m c u p).now.epoch
    some = let a = (h u).0 in let b = up in omega (arith, a, b)

    said : (o : Option Msg) → o ≡ Some msg.Held → Has (answer_to m p o) (record { from = p.to; to = p.from; rid = p.rid; msg = msg.Held })
    said o e = subst (λ (z : Option Msg). Has (answer_to m p z) (record { from = p.to; to = p.from; rid = p.rid; msg = msg.Held })) (sym e) (inl refl)

    here : (q : ℕ) (x : Cell) → cell_at (turn_on m c u p).now.cells q ≡ Some x → StoredBy qs u (turn_on m c u p).now.epoch q x
    here q x i = by (unit_stores (unit_in m c u) p.msg q x i)
      where
        by : (cell_at (unit_in m c u).cells q ≡ Some x) ⊎ (((turn_on m c u p).says ≡ Some msg.Held) × (claimed (unit_ask p.msg) msg.Held ≡ Some (record { epoch = (turn_on m c u p).now.epoch; pos = q; cell = x }))) → StoredBy qs u (turn_on m c u p).now.epoch q x
        by (inl e) = stored_grows c.packets qs u _ _ q x grown up ((h u).1 q x e)
        by (inr e) = record {
          ask = p;
          answer = record { from = p.to; to = p.from; rid = p.rid; msg = msg.Held };
          of = (turn_on m c u p).now.epoch;
          some = some;
          up_to = omega arith;
          asked = grown p comes.sent;
          answered = has_right c.packets _ _ (said (turn_on m c u p).says e.0);
          to_unit = comes.to_node;
          from_unit = comes.to_node;
          back = refl;
          number = refl;
          held = refl;
          tells = e.1;
        }

    stored_on : AllStored (unit_turn m c u p (turn_on m c u p))
    stored_on = at_set c.units u (turn_on m c u p).now (λ v. new_unit) (λ v t. IsStored qs v t) less (some, here) (λ v other. stored_more c.packets qs v (unit_in m c v) grown (h v))

  start_stored : (g : Header) → AllStored (config m (start m g))
  unfolding start new_unit
  start_stored g u = at_replicate g.units new_unit u new_unit (λ (t : UnitState). IsStored [] u t) (omega arith, λ p x i. absurd (cc)) (omega arith, λ p x i. absurd (cc))

  pub stored_hold : (h : Header) (xs : Moves m) → AllStored (config m (after m h xs))
  stored_hold h xs = along m h xs AllStored (λ ys e zs split k. by_unit m AllStored (config m (after m h ys)) k (calm (config m (after m h ys)) k) (λ u p a less. stored_on (config m (after m h ys)) k u p a less)) (start_stored h) xs [] (sym (Rattle.std.proofs.Common.append-nil xs))
