-- Trims: a unit that answers one has trimmed as far as it was asked, from then on; and which units a client has heard so.
use Rattle.std.proofs.Common.{◌≡◌, ◌⊎◌, ℕ, ◌+◌, ◌<◌, ◌≤◌, List, [], ◌∷◌, length, filter, cond, Bool, true, false, refl, sym, ap, ◌∙◌, subst, inl, inr, arith, Some}
use Rattle.std.specs.Prelude.{◌==◌, not, max}
use Rattle.tg_base.specs.Clusters.{Header}
use Rattle.tg_base.specs.Layouts.{Layout}
use Rattle.tg_base.specs.declared.ids.NodeId.{NodeId}
use Rattle.tg_base.specs.declared.ids.Role.TheVariants as role
use Rattle.tg_base.specs.declared.msg.Msg.{Msg}
use Rattle.tg_base.specs.declared.msg.Msg.TheVariants as msg
use Rattle.tg_base.specs.declared.packet.Out.{Out}
use Rattle.tg_base.specs.declared.packet.Packet.{Packet}
use Rattle.tg_kind.specs.Meaning.{Meaning}
use Rattle.tg_protocol.specs.Words.{unit_id}
use Rattle.tg_protocol.specs.Layouts.{units_of}
use Rattle.tg_protocol.specs.Requests.{out, Waits, waits_for, without_wait, Next, Goes, Learns, Ends}
use Rattle.tg_protocol.specs.Replies.{reply}
use Rattle.tg_protocol.specs.Trimming.{Trims, Trimmed, TrimTurn, trim_asks, trim_start, trim_feed}
use Rattle.tg_protocol.specs.Units.{UnitState, unit_ask, in_epoch, on_trim, on_ask, unit_step}
use Rattle.tg_protocol.specs.Worlds.{start}
use Rattle.tg_protocol.specs.Runs.{Moves}
use Rattle.tg_law_layouts.specs.Moves.After.{after}
use Rattle.tg_law_layouts.specs.Moves.Configs.{Config, config, unit_in}
use Rattle.tg_law_layouts.specs.Moves.Telling.{is_request}
use Rattle.tg_law_layouts.proofs.Moves.Members.{Has, Image, has_left, has_map}
use Rattle.tg_law_layouts.proofs.Moves.Moves.{Comes, unit_turn, Keeps, run_keeps}
use Rattle.tg_law_layouts.proofs.Moves.Growth.{Grows, IsCalm, by_unit, unit_turn_grows}
use Rattle.tg_law_layouts.proofs.Moves.Units.{answers_request}
use Rattle.tg_law_layouts.proofs.Requests.Answered.{turn_on, Said, old_or_said, unit_now}
use Rattle.tg_law_steps.proofs.Machines.Trims.{trims, Fed, TrimsOn, TrimsLast, IsFence, Nothing, trims_fed}
use Rattle.tg_law_headline.proofs.Alike.Appends.{is_gone, Asked}

-- The units' side.

trims_so : (s : UnitState) (b d : ℕ) (here : Bool) → (in_epoch here s (on_trim s (max s.low b))).says ≡ Some (msg.Gone d) → b ≤ (in_epoch here s (on_trim s (max s.low b))).now.low
trims_so s b d true says = omega arith
trims_so s b d false says = absurd (cc)

trims_now : (s : UnitState) (y : Msg) (e b d : ℕ) → y ≡ msg.Trim e b → (unit_step s y).says ≡ Some (msg.Gone d) → b ≤ (unit_step s y).now.low
unfolding unit_step unit_ask on_ask
trims_now s y e b d is says = subst (λ (z : Msg). (unit_step s z).says ≡ Some (msg.Gone d) → b ≤ (unit_step s z).now.low) (sym is) (λ k. trims_so s b d (s.epoch == e) k) says

module _ (m : Meaning) where
  -- the request that an answer was made to: if it was a trim, it is done
  pub record TrimAnswered (c : Config m) (u : ℕ) (a : Packet) : Type 0 where
    pub ask : Packet
    pub asked : Has c.packets ask
    pub to : ask.to ≡ a.from
    pub from : ask.from ≡ a.to
    pub rid : ask.rid ≡ a.rid
    pub request : is_request ask.msg ≡ true
    pub low : (e b d : ℕ) → ask.msg ≡ msg.Trim e b → a.msg ≡ msg.Gone d → b ≤ (unit_in m c u).low

  pub record TrimsTold (c : Config m) : Type 0 where
    pub answered : (u : ℕ) (a : Packet) → Has c.packets a → a.from ≡ unit_id u → TrimAnswered c u a

  still : (c d : Config m) (u : ℕ) (a : Packet) → Grows m c d → TrimAnswered c u a → TrimAnswered d u a
  still c d u a g h = record {
    ask = h.ask;
    asked = g.sent h.ask h.asked;
    to = h.to;
    from = h.from;
    rid = h.rid;
    request = h.request;
    low = λ e b k is gone. let x = h.low e b k is gone in let y = (g.unit u).low in omega (arith, x, y);
  }

  calm : (c : Config m) → TrimsTold c → IsCalm m role.Unit c TrimsTold
  calm c h d q = record { answered = λ u a s from. still c d u a q.grows (h.answered u a (q.old a s (ap (λ (n : NodeId). n.role) from)) from) }

  same_unit : (u v : ℕ) → unit_id u ≡ unit_id v → u ≡ v
  same_unit u v e = ap (λ (n : NodeId). n.num) e

  own : (c : Config m) → TrimsTold c → (u : ℕ) (p : Packet) → Comes m c p (unit_id u) → u < length c.units → TrimsTold (unit_turn m c u p (turn_on m c u p))
  own c h u p comes less = record { answered = λ v a s from. by v a from (old_or_said m c u p a s) }
    where
      d : Config m
      d = unit_turn m c u p (turn_on m c u p)

      by : (v : ℕ) (a : Packet) → a.from ≡ unit_id v → Has c.packets a ⊎ Said m c u p a → TrimAnswered d v a
      by v a from (inl s) = still c d v a (unit_turn_grows m c u p less) (h.answered v a s from)
      by v a from (inr s) = record {
        ask = p;
        asked = has_left c.packets _ p comes.sent;
        to = sym s.from;
        from = sym s.to;
        rid = sym s.rid;
        request = answers_request (unit_in m c u) p.msg a.msg s.is;
        low = λ e b k is gone. subst (λ (w : ℕ). b ≤ (unit_in m d w).low) (same_unit u v (sym comes.to_node ∙ sym s.from ∙ from))
            (subst (λ (x : UnitState). b ≤ x.low) (sym (unit_now m c u p less)) (trims_now (unit_in m c u) p.msg e b k is (subst (λ (x : Msg). (turn_on m c u p).says ≡ Some x) gone s.is)));
      }

  trims_keep : Keeps m TrimsTold
  trims_keep c h = by_unit m TrimsTold c h (calm c h) (own c h)

  start_trims : (h : Header) → TrimsTold (config m (start m h))
  unfolding start
  start_trims h = record { answered = λ u a x. absurd x }

  pub trims_told : (h : Header) (ms : Moves m) → TrimsTold (config m (after m h ms))
  trims_told h ms = run_keeps m TrimsTold trims_keep ms (start m h) (start_trims h)

-- The client's side.

-- a unit is waited for
abbrev pub HasWait : Waits → ℕ → Type 0
HasWait ws u = (r : ℕ) × Has ws (u, r)

wait_more : (x : ℕ × ℕ) (ws : Waits) (u : ℕ) → HasWait ws u → HasWait (x ∷ ws) u
wait_more x ws u h = (h.0, inr h.1)

all_wait : (us : List ℕ) (next u : ℕ) → Has us u → HasWait (waits_for us next) u
all_wait [] next u h = absurd h
all_wait (x ∷ us) next u (inl e) = (next, inl (ap (λ (z : ℕ). (z, next)) e))
all_wait (x ∷ us) next u (inr h) = wait_more (x, next) (waits_for us (next + 1)) u (all_wait us (next + 1) u h)

stays_here : {X : Type 0} → (b : Bool) (x y : X) (ys : List X) → b ≡ true → x ≡ y → Has (cond b (y ∷ ys) ys) x
stays_here true x y ys is e = inl e
stays_here false x y ys is e = absurd (cc)

stays_past : {X : Type 0} → (b : Bool) (x y : X) (ys : List X) → Has ys x → Has (cond b (y ∷ ys) ys) x
stays_past true x y ys h = inr h
stays_past false x y ys h = h

stays_in : {X : Type 0} → (f : X → Bool) (xs : List X) (x : X) → f x ≡ true → Has xs x → Has (filter f xs) x
stays_in f [] x t h = absurd h
stays_in f (y ∷ ys) x t (inl e) = stays_here (f y) x y (filter f ys) (sym (ap f e) ∙ t) e
stays_in f (y ∷ ys) x t (inr h) = stays_past (f y) x y (filter f ys) (stays_in f ys x t h)

-- Of a client: what it got, of which node and with which number, and what it has asked so. Its command began in this epoch.
module _ (Got AskSent : NodeId → ℕ → Msg → Type 0) (e0 : ℕ) (Known : Layout → Type 0) where
  -- a unit has answered that it trimmed so far
  pub record TrimTold (u n : ℕ) : Type 0 where
    pub rid : ℕ
    pub epoch : ℕ
    pub low : ℕ
    pub ask : AskSent (unit_id u) rid (msg.Trim epoch n)
    pub gone : Got (unit_id u) rid (msg.Gone low)

  -- so has each unit of a layout, or it is waited for
  pub record TrimsOk (n : ℕ) (ws : Waits) : Type 0 where
    pub layout : Layout
    pub known : Known layout
    pub later : e0 ≤ layout.epoch
    pub units : (u : ℕ) → Has (units_of layout) u → HasWait ws u ⊎ TrimTold u n

  -- so has each of them, where there was anything to trim
  pub record AllTold (n : ℕ) : Type 0 where
    pub layout : Layout
    pub known : Known layout
    pub later : e0 ≤ layout.epoch
    pub units : (u : ℕ) → Has (units_of layout) u → (n ≡ 0) ⊎ TrimTold u n

  abbrev pub TrimNext : ℕ → Next Trims Trimmed → Type 0
  TrimNext n (Goes t) = (t.below ≡ n) × TrimsOk n t.waits
  TrimNext n (Learns t) = t.below ≡ n
  TrimNext n (Ends e) = AllTold n

  pub trim_start_ok : (p : Layout) (n next : ℕ) → Known p → e0 ≤ p.epoch → TrimNext n (trim_start p n next).to
  unfolding trim_start
  trim_start_ok p n next known later = (refl, record { layout = p; known = known; later = later; units = λ u h. inl (all_wait (units_of p) next u h) })

  module _ (p : Layout) (from : NodeId) (rid : ℕ) (y : Msg) (got : Got from rid y) (next : ℕ) where
    -- what is looked for in the requests, once they are found to be trims
    abbrev Looks : Trims → Type 0
    Looks t = (u : ℕ) (o : Out) → Has (trim_asks p t) o → o.to ≡ unit_id u → o.to ≡ from → o.rid ≡ rid → AskSent o.to o.rid o.msg

    -- the unit that answers now
    answered : (t : Trims) → Asked (trim_asks p t) from rid → Looks t → (b : ℕ) → y ≡ msg.Gone b → (u : ℕ) → u ≡ from.num → TrimTold u t.below
    answered t a looks b is u at = by (has_map (λ (w : ℕ × ℕ). out (unit_id w.0) w.1 (msg.Trim p.epoch t.below)) t.waits a.of a.has)
      where
        by : Image (λ (w : ℕ × ℕ). out (unit_id w.0) w.1 (msg.Trim p.epoch t.below)) t.waits a.of → TrimTold u t.below
        by w =
            let unit : a.of.to ≡ unit_id w.of.0 = ap (λ (z : Out). z.to) w.is in
            let here : from ≡ unit_id u = (sym a.to ∙ unit) ∙ ap unit_id (sym (at ∙ ap (λ (z : NodeId). z.num) (sym a.to ∙ unit))) in
            record {
              rid = rid;
              epoch = p.epoch;
              low = b;
              ask = subst (λ (z : NodeId). AskSent z rid (msg.Trim p.epoch t.below)) (a.to ∙ here)
                  (subst (λ (r : ℕ). AskSent a.of.to r (msg.Trim p.epoch t.below)) a.number
                  (subst (λ (z : Msg). AskSent a.of.to a.of.rid z) (ap (λ (z : Out). z.msg) w.is) (looks w.of.0 a.of a.has unit a.to a.number)));
              gone = subst (λ (z : NodeId). Got z rid (msg.Gone b)) here (subst (Got from rid) is got);
            }

    -- each is waited for still, or has answered
    unit_left : (t : Trims) → Asked (trim_asks p t) from rid → Looks t → (b : ℕ) → y ≡ msg.Gone b → (ws : Waits) → without_wait from.num t.waits ≡ ws → (u : ℕ) → HasWait t.waits u ⊎ TrimTold u t.below → HasWait ws u ⊎ TrimTold u t.below
    unit_left t a looks b is ws left u (inr d) = inr d
    unit_left t a looks b is ws left u (inl w) = by (u == from.num) refl
      where
        same : (i j : ℕ) → (i == j) ≡ true → i ≡ j
        same i j h = grind arith

        other : (i j : ℕ) → (i == j) ≡ false → not (i == j) ≡ true
        other i j h = grind arith

        by : (x : Bool) → (u == from.num) ≡ x → HasWait ws u ⊎ TrimTold u t.below
        by true e = inr (answered t a looks b is u (same u from.num e))
        by false e = inl (w.0, subst (λ (z : Waits). Has z (u, w.0)) left (stays_in (λ (x : ℕ × ℕ). not (x.0 == from.num)) t.waits (u, w.0) (other u from.num e) w.1))

    turn_ok : (t : Trims) (c : TrimTurn) → Fed p from.num (reply y) next t c → TrimsOk t.below t.waits → Asked (trim_asks p t) from rid → Looks t → TrimNext t.below c.to
    turn_ok _ _ (TrimsOn b ws d w vs is left) ok a looks =
        (refl, record { layout = ok.layout; known = ok.known; later = ok.later; units = λ u h. unit_left (trims b ws) a looks d (is_gone y d is) (w ∷ vs) left u (ok.units u h) })
    turn_ok _ _ (TrimsLast b ws d is left) ok a looks =
        record { layout = ok.layout; known = ok.known; later = ok.later; units = λ u h. none u (unit_left (trims b ws) a looks d (is_gone y d is) [] left u (ok.units u h)) }
      where
        none : (u : ℕ) → HasWait [] u ⊎ TrimTold u b → (b ≡ 0) ⊎ TrimTold u b
        none u (inl w) = absurd w.1
        none u (inr d) = inr d
    turn_ok _ _ (IsFence t e is f) ok a looks = refl
    turn_ok _ _ (Nothing t) ok a looks = (refl, ok)

  pub trim_fed : (p : Layout) (t : Trims) (ok : TrimsOk t.below t.waits) (from : NodeId) (rid : ℕ) (y : Msg) (got : Got from rid y) (next : ℕ) (a : Asked (trim_asks p t) from rid)
      (looks : (u : ℕ) (o : Out) → Has (trim_asks p t) o → o.to ≡ unit_id u → o.to ≡ from → o.rid ≡ rid → AskSent o.to o.rid o.msg) → TrimNext t.below (trim_feed p t from.num (reply y) next).to
  trim_fed p t ok from rid y got next a looks = turn_ok p from rid y got next t _ (trims_fed p from.num (reply y) next t) ok a looks
