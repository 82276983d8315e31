-- Units, from a world of a run on: they don't fall back, tell nothing more of the epochs that they have left, and serve nothing
-- of them.
use Rattle.std.proofs.Common.{◌≡◌, ◌⊎◌, ℕ, ◌<◌, ◌≤◌, List, length, Bool, true, false, refl, sym, ap, ◌∙◌, subst, inl, inr, arith, Some}
use Rattle.std.specs.Prelude.{◌==◌}
use Rattle.tg_base.specs.declared.ids.NodeId.{NodeId}
use Rattle.tg_base.specs.declared.ids.Role.TheVariants as role
use Rattle.tg_base.specs.declared.msg.Msg.{Msg}
use Rattle.tg_base.specs.declared.msg.Msg.TheVariants as msg
use Rattle.tg_base.specs.declared.packet.Packet.{Packet}
use Rattle.tg_kind.specs.Meaning.{Meaning}
use Rattle.tg_protocol.specs.Words.{unit_id}
use Rattle.tg_protocol.specs.Units.{UnitState, UnitAsk, UnitTurn, Reads, Stores, Fills, Looks, Seals, TrimsBelow, Nothing, in_epoch, on_ask, unit_ask, unit_step}
use Rattle.tg_protocol.specs.Runs.{Moves, run}
use Rattle.tg_protocol.specs.Worlds.{World}
use Rattle.tg_law_layouts.specs.Moves.Configs.{Config, config, unit_in}
use Rattle.tg_law_layouts.specs.Moves.Telling.{Claim, is_request}
use Rattle.tg_law_layouts.proofs.Moves.Members.{Has}
use Rattle.tg_law_layouts.proofs.Moves.Units.{unit_grows, answers_request}
use Rattle.tg_law_layouts.proofs.Moves.Moves.{Cases, Comes, Keeps, unit_turn, keeps_above, run_keeps}
use Rattle.tg_law_layouts.proofs.Moves.Growth.{IsCalm, by_unit, unit_turn_grows}
use Rattle.tg_law_layouts.proofs.Requests.Answered.{Said, turn_on, old_or_said}
use Rattle.tg_law_layouts.proofs.Requests.Told.{Tells, Base, Anew, tells_or_anew, old_tells}
use Rattle.tg_law_layouts.proofs.Requests.Starts.{All, all_keeps, base_of}
use Rattle.tg_law_cells.specs.Places.Left.{served_in}

-- What a unit answers to a request of another epoch.

fenced_else : (s : UnitState) (b : Bool) (t : UnitTurn) (x : Msg) → (in_epoch b s t).says ≡ Some x → ((e : ℕ) → x ≡ msg.Fenced e → ⊥) → b ≡ true
fenced_else s true t x says kept = refl
fenced_else s false t x says kept = absurd (kept s.epoch (same (msg.Fenced s.epoch) x says))
  where
    same : (y z : Msg) → Some y ≡ Some z → z ≡ y
    same y z e = cc

of_epoch : (s : UnitState) (e f : ℕ) → (s.epoch == e) ≡ true → Some e ≡ Some f → f ≡ s.epoch
of_epoch s e f is h = grind arith

serves_now : (s : UnitState) (a : UnitAsk) (x : Msg) (e : ℕ) → (on_ask s a).says ≡ Some x → served_in a ≡ Some e → ((f : ℕ) → x ≡ msg.Fenced f → ⊥) → e ≡ s.epoch
unfolding on_ask served_in
serves_now s (Reads f p) x e says of kept = of_epoch s f e (fenced_else s (s.epoch == f) _ x says kept) of
serves_now s (Stores f p c) x e says of kept = of_epoch s f e (fenced_else s (s.epoch == f) _ x says kept) of
serves_now s (Fills f p) x e says of kept = of_epoch s f e (fenced_else s (s.epoch == f) _ x says kept) of
serves_now s (Looks f lo hi step) x e says of kept = of_epoch s f e (fenced_else s (s.epoch == f) _ x says kept) of
serves_now s (TrimsBelow f b) x e says of kept = of_epoch s f e (fenced_else s (s.epoch == f) _ x says kept) of
serves_now s (Seals f) x e says of kept = absurd (cc)
serves_now s Nothing x e says of kept = absurd (cc)

step_serves : (s : UnitState) (y x : Msg) (e : ℕ) → (unit_step s y).says ≡ Some x → served_in (unit_ask y) ≡ Some e → ((f : ℕ) → x ≡ msg.Fenced f → ⊥) → e ≡ s.epoch
unfolding unit_step
step_serves s y x e says of kept = serves_now s (unit_ask y) x e says of kept

-- a request of an epoch was answered by a unit, not with a fence
pub record Serves (ps : List Packet) (n epoch : ℕ) (answer : Packet) : Type 0 where
  pub ask : Packet
  pub asked : Has ps ask
  pub to_unit : ask.to ≡ unit_id n
  pub from_unit : answer.from ≡ unit_id n
  pub back : answer.to ≡ ask.from
  pub number : answer.rid ≡ ask.rid
  pub request : is_request ask.msg ≡ true
  pub of : served_in (unit_ask ask.msg) ≡ Some epoch
  pub kept : (e : ℕ) → answer.msg ≡ msg.Fenced e → ⊥

module _ (m : Meaning) (old : Config m) where
  abbrev at : ℕ → ℕ
  at n = (unit_in m old n).epoch

  pub record Since (d : Config m) : Type 0 where
    pub up : (n : ℕ) → at n ≤ (unit_in m d n).epoch
    pub told : (n : ℕ) (k : Claim) → Tells d.packets n k → k.epoch < at n → Tells old.packets n k
    pub served : (n epoch : ℕ) (a : Packet) → Has d.packets a → Serves d.packets n epoch a → Has old.packets a ⊎ (at n ≤ epoch)

  base : (c : Config m) → All m c → Base m c
  base c b = base_of m c b.0

  -- an answer that was sent before was to a request that was
  old_serves : (c d : Config m) (n epoch : ℕ) (a : Packet) → Base m c → Base m d → ((q : Packet) → Has c.packets q → Has d.packets q) → Has c.packets a → Serves d.packets n epoch a → Serves c.packets n epoch a
  old_serves c d n epoch a low high more has s =
      let h = low.units.answered n a has s.from_unit in
      let same = high.numbers.same h.ask s.ask (more h.ask h.asked) s.asked h.request s.request (h.from ∙ s.back) (h.to ∙ (s.from_unit ∙ sym s.to_unit)) (h.rid ∙ s.number) in
      record {
        ask = h.ask;
        asked = h.asked;
        to_unit = h.to ∙ s.from_unit;
        from_unit = s.from_unit;
        back = sym h.from;
        number = sym h.rid;
        request = h.request;
        of = subst (λ (x : Msg). served_in (unit_ask x) ≡ Some epoch) (sym same) s.of;
        kept = s.kept;
      }

  calm : (c : Config m) → All m c → Since c → IsCalm m role.Unit c (λ d. All m d → Since d)
  calm c b h d q low = record {
    up = λ n. let x = h.up n in let y = (q.grows.unit n).epoch in omega (arith, x, y);
    told = λ n k t less. h.told n k (old_tells m c d n k q (base d low) t (base c b)) less;
    served = λ n epoch a has s.
        let i = q.old a has (ap (λ (x : NodeId). x.role) s.from_unit) in
        h.served n epoch a i (old_serves c d n epoch a (base c b) (base d low) q.grows.sent i s);
  }

  module _ (c : Config m) (b : All m c) (h : Since c) (u : ℕ) (p : Packet) (comes : Comes m c p (unit_id u)) (less : u < length c.units) (low : All m (unit_turn m c u p (turn_on m c u p))) where
    abbrev now : Config m
    now = unit_turn m c u p (turn_on m c u p)

    told_now : (n : ℕ) (k : Claim) → k.epoch < at n → Tells c.packets n k ⊎ Anew m c (base c b) b.1 u p comes less (base _ low) n k → Tells old.packets n k
    told_now n k early (inl t) = h.told n k t early
    told_now n k early (inr x) =
        let is = x.holds.epoch in
        let grown = (unit_grows (unit_in m c u) p.msg).epoch in
        let up = h.up u in
        let here = subst (λ (j : ℕ). k.epoch < at j) x.unit early in
        absurd (omega (arith, is, grown, up, here))

    served_now : (n epoch : ℕ) (a : Packet) → Serves now.packets n epoch a → Has c.packets a ⊎ Said m c u p a → Has old.packets a ⊎ (at n ≤ epoch)
    served_now n epoch a s (inl has) = h.served n epoch a has (old_serves c now n epoch a (base c b) (base _ low) (unit_turn_grows m c u p less).sent has s)
    served_now n epoch a s (inr x) = inr (subst (λ (j : ℕ). at j ≤ epoch) (sym unit) (omega (arith, is, up)))
      where
        unit : n ≡ u
        unit = ap (λ (y : NodeId). y.num) (sym s.from_unit ∙ (x.from ∙ comes.to_node))

        same : s.ask.msg ≡ p.msg
        same = (base _ low).numbers.same s.ask p s.asked ((unit_turn_grows m c u p less).sent p comes.sent) s.request (answers_request (unit_in m c u) p.msg a.msg x.is) (sym s.back ∙ x.to)
            (s.to_unit ∙ (sym s.from_unit ∙ x.from)) (sym s.number ∙ x.rid)

        is : epoch ≡ (unit_in m c u).epoch
        is = step_serves (unit_in m c u) p.msg a.msg epoch x.is (subst (λ (y : Msg). served_in (unit_ask y) ≡ Some epoch) same s.of) s.kept

        up : at u ≤ (unit_in m c u).epoch
        up = h.up u

    own : Since now
    own = record {
      up = λ n. let x = h.up n in let y = ((unit_turn_grows m c u p less).unit n).epoch in omega (arith, x, y);
      told = λ n k t early. told_now n k early (tells_or_anew m c (base c b) b.1 u p comes less (base _ low) n k t);
      served = λ n epoch a has s. served_now n epoch a s (old_or_said m c u p a has);
    }

  since_keep : (c : Config m) → All m c → Since c → Cases m c (λ d. All m d → Since d)
  since_keep c b h = by_unit m (λ d. All m d → Since d) c (λ _. h) (calm c b h) (λ u p a less low. own c b h u p a less low)

  since_keeps : Keeps m (λ c. All m c × Since c)
  since_keeps = keeps_above m (All m) Since (all_keeps m) since_keep

  start_since : Since old
  start_since = record { up = λ n. omega arith; told = λ n k t less. t; served = λ n epoch a has s. inl has }

module _ (m : Meaning) where
  -- from a world on
  pub since : (w : World m) → All m (config m w) → (ys : Moves m) → Since m (config m w) (config m (run m ys w))
  since w b ys = (run_keeps m (λ c. All m c × Since m (config m w) c) (since_keeps m (config m w)) ys w (b, start_since m (config m w))).1
