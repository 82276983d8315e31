-- What a unit tells as missing is one of the positions at which it was asked to look.
use Rattle.std.proofs.Common.{◌≡◌, ◌⊎◌, ℕ, zero, suc, ◌+◌, ◌*◌, ◌<◌, List, length, Bool, true, false, sym, ap, ◌∙◌, subst, inl, inr, arith, Option, Some, None}
use Rattle.std.proofs.Math.Nat.{suc-mul}
use Rattle.std.specs.Prelude.{◌==◌}
use Rattle.tg_base.specs.Clusters.{Header}
use Rattle.tg_base.specs.declared.ids.NodeId.{NodeId}
use Rattle.tg_base.specs.declared.ids.Role.TheVariants as role
use Rattle.tg_base.specs.declared.msg.Msg.{Msg}
use Rattle.tg_base.specs.declared.msg.Msg.TheVariants as msg
use Rattle.tg_base.specs.declared.packet.Packet.{Packet}
use Rattle.tg_kind.specs.Meaning.{Meaning}
use Rattle.tg_protocol.specs.Words.{unit_id}
use Rattle.tg_protocol.specs.Units.{UnitState, UnitAsk, Looks, unit_ask, settled_at, first_missing, how_many, in_epoch, on_has, on_ask, unit_step}
use Rattle.tg_protocol.specs.Worlds.{start}
use Rattle.tg_protocol.specs.Runs.{Moves}
use Rattle.tg_law_layouts.specs.Moves.Configs.{Config, config, unit_in}
use Rattle.tg_law_layouts.specs.Moves.After.{after}
use Rattle.tg_law_layouts.specs.Moves.Telling.{is_request}
use Rattle.tg_law_layouts.proofs.Moves.Members.{Has, has_left}
use Rattle.tg_law_layouts.proofs.Moves.Units.{answers_request}
use Rattle.tg_law_layouts.proofs.Moves.Moves.{Comes, unit_turn, Keeps, run_keeps}
use Rattle.tg_law_layouts.proofs.Moves.Growth.{IsCalm, by_unit, unit_turn_grows}
use Rattle.tg_law_layouts.proofs.Requests.Answered.{turn_on, Said, old_or_said}

-- one of the positions from one on that are a step apart
pub record IsStep (lo step pos : ℕ) : Type 0 where
  pub at : ℕ
  pub is : pos ≡ lo + at * step

some_num : (a b : ℕ) → Some a ≡ Some b → a ≡ b
some_num a b e = cc

first_by : (s : UnitState) (step n lo pos : ℕ) (b : Bool) → (first_missing s step n (lo + step) ≡ Some pos → IsStep (lo + step) step pos)
    → (elim b as (λ _. Option ℕ) [ true ↦ first_missing s step n (lo + step) | false ↦ Some lo ]) ≡ Some pos → IsStep lo step pos
first_by s step n lo pos true rest h = let y = rest h in let x = suc-mul y.at step in let i = y.is in record { at = suc y.at; is = omega (arith, i, x) }
first_by s step n lo pos false rest h = let i = some_num lo pos h in record { at = 0; is = omega (arith, i) }

first_step : (s : UnitState) (step n lo pos : ℕ) → first_missing s step n lo ≡ Some pos → IsStep lo step pos
unfolding first_missing
first_step s step zero lo pos h = absurd (cc)
first_step s step (suc n) lo pos h = first_by s step n lo pos (settled_at s lo) (λ g. first_step s step n (lo + step) pos g) h

look_by : (s : UnitState) (b : Bool) (o : Option ℕ) (pos : ℕ) → (in_epoch b s (on_has s o)).says ≡ Some (msg.Missing pos) → o ≡ Some pos
look_by s true None pos h = absurd (cc)
look_by s true (Some q) pos h = same h
  where
    same : Some (msg.Missing q) ≡ Some (msg.Missing pos) → Some q ≡ Some pos
    same e = cc
look_by s false o pos h = absurd (cc)

look_missing : (s : UnitState) (e lo hi step pos : ℕ) → (on_ask s (Looks e lo hi step)).says ≡ Some (msg.Missing pos) → IsStep lo step pos
unfolding on_ask
look_missing s e lo hi step pos h = first_step s step (how_many lo hi step) lo pos (look_by s (s.epoch == e) (first_missing s step (how_many lo hi step) lo) pos h)

step_missing : (s : UnitState) (x : Msg) (e lo hi step pos : ℕ) → unit_ask x ≡ Looks e lo hi step → (unit_step s x).says ≡ Some (msg.Missing pos) → IsStep lo step pos
unfolding unit_step
step_missing s x e lo hi step pos is h = look_missing s e lo hi step pos (subst (λ (a : UnitAsk). (on_ask s a).says ≡ Some (msg.Missing pos)) is h)

module _ (m : Meaning) where
  -- the request to which a unit told that a position is missing
  pub record IsMissed (ps : List Packet) (a : Packet) (pos : ℕ) : Type 0 where
    pub ask : Packet
    pub asked : Has ps ask
    pub to : ask.to ≡ a.from
    pub from : ask.from ≡ a.to
    pub rid : ask.rid ≡ a.rid
    pub request : is_request ask.msg ≡ true
    pub steps : (e lo hi step : ℕ) → unit_ask ask.msg ≡ Looks e lo hi step → IsStep lo step pos

  pub record Misses (c : Config m) : Type 0 where
    pub each : (u : ℕ) (a : Packet) (pos : ℕ) → Has c.packets a → a.from ≡ unit_id u → a.msg ≡ msg.Missing pos → IsMissed c.packets a pos

  still : (c d : Config m) (a : Packet) (pos : ℕ) → ((q : Packet) → Has c.packets q → Has d.packets q) → IsMissed c.packets a pos → IsMissed d.packets a pos
  still c d a pos g h = record { ask = h.ask; asked = g h.ask h.asked; to = h.to; from = h.from; rid = h.rid; request = h.request; steps = h.steps }

  calm : (c : Config m) → Misses c → IsCalm m role.Unit c Misses
  calm c h d q = record { each = λ u a pos s from is. still c d a pos q.grows.sent (h.each u a pos (q.old a s (ap (λ (n : NodeId). n.role) from)) from is) }

  own : (c : Config m) → Misses c → (u : ℕ) (p : Packet) → Comes m c p (unit_id u) → u < length c.units → Misses (unit_turn m c u p (turn_on m c u p))
  own c h u p comes less = record { each = λ v a pos s from is. by v a pos from is (old_or_said m c u p a s) }
    where
      d : Config m
      d = unit_turn m c u p (turn_on m c u p)

      by : (v : ℕ) (a : Packet) (pos : ℕ) → a.from ≡ unit_id v → a.msg ≡ msg.Missing pos → Has c.packets a ⊎ Said m c u p a → IsMissed d.packets a pos
      by v a pos from is (inl s) = still c d a pos (unit_turn_grows m c u p less).sent (h.each v a pos s from is)
      by v a pos from is (inr s) = record {
        ask = p;
        asked = has_left c.packets _ p comes.sent;
        to = sym s.from;
        from = sym s.to;
        rid = sym s.rid;
        request = answers_request (unit_in m c u) p.msg a.msg s.is;
        steps = λ e lo hi step asks. step_missing (unit_in m c u) p.msg e lo hi step pos asks (s.is ∙ ap (λ (x : Msg). Some x) is);
      }

  misses_keep : Keeps m Misses
  misses_keep c h = by_unit m Misses c h (calm c h) (own c h)

  misses_start : (h : Header) → Misses (config m (start m h))
  unfolding start
  misses_start h = record { each = λ u a pos s. absurd s }

  -- in each world of a run
  pub misses : (h : Header) (xs : Moves m) → Misses (config m (after m h xs))
  misses h xs = run_keeps m Misses misses_keep xs (start m h) (misses_start h)
