-- What a client that waits for units makes of an answer: the phases of a reconfiguration before the votes.
use Rattle.std.proofs.Common.{◌≡◌, ◌⊎◌, ℕ, suc, ◌+◌, ◌^◌, ◌<◌, ◌≤◌, List, [], ◌∷◌, ◌++◌, length, Bool, true, false, ◌&&◌, eqb, refl, ap, ◌∙◌, sym, subst, inl, inr, arith, Some, None, Option}
use Rattle.std.specs.Prelude.{◌==◌, nat_lt}
use Rattle.tg_base.specs.Layouts.{Layout}
use Rattle.tg_base.specs.Clusters.{Header}
use Rattle.tg_base.specs.declared.change.Join.{Join}
use Rattle.tg_base.specs.declared.ids.NodeId.{NodeId}
use Rattle.tg_base.specs.declared.ids.Role.TheVariants as role
use Rattle.tg_base.specs.declared.msg.Msg.{Msg}
use Rattle.tg_base.specs.declared.msg.Msg.TheVariants as msg
use Rattle.tg_base.specs.declared.packet.Out.{Out}
use Rattle.tg_base.specs.Orders.{node_eq}
use Rattle.tg_kind.specs.Meaning.{Meaning}
use Rattle.tg_protocol.specs.Words.{unit_id, layout_id}
use Rattle.tg_protocol.specs.Layouts.{next_units}
use Rattle.tg_protocol.specs.Requests.{out, Waits, waits_for, asked_of, without_wait, awaits, drawn_from, passes, turn, draws, Next, Goes, Learns, Ends}
use Rattle.tg_protocol.specs.Replies.{Reply, IsFenced, IsSealed, IsMissing, IsWhole, IsLatest, reply}
use Rattle.tg_protocol.specs.Trimming.{has_stripe, learns_if}
use Rattle.tg_protocol.specs.Reconfiguring.{Acks, ReconfWork, SealingSpare, LookingSpare, Sealing, LookingAgain, Agreeing, Telling, Starting, Reconf, ReconfEnd, Installed, Overtaken, NotWhole, ReconfTurn, next_epoch, at_work, join_asks, reconf_awaited, reconf_asks, reconf_work_asks, later_asks, seals, looks_if, seals_if, sealed_if, seals_left, after_seals, proposes, not_whole, own_decided, on_newer as on_newer_layout, is_own, reconf_feed, reconf_latest}
use Rattle.tg_protocol.specs.Clients.{Client, Work, Hand, Reconfiguring, Doing}
use Rattle.tg_protocol.specs.Answers.{moved}
use Rattle.tg_protocol.specs.ClientSteps.{ClientTurn, called, given, client_deliver, client_asks, task_asks, hand_asks, feed, hand_feed, fed_if, latest_if, on_newer, task_in, task_feed, after_turn, on_reconf, reconf_to}
use Rattle.tg_protocol.specs.ClientSteps as steps
use Rattle.tg_law_layouts.proofs.Moves.Clients.{reserved, work_reserved, hand_reserved}
use Rattle.tg_law_layouts.proofs.Moves.Members.{Has, has_left, has_either, passes_somewhere}
use Rattle.tg_law_finish.proofs.Finish.Nets.{Net, on_in, unit_of}
use Rattle.tg_law_finish.proofs.Finish.Tasks.{none_drawn}
use Rattle.tg_law_reconfs.proofs.Votes.{contrary, one_of, OfUnit}
use Rattle.tg_law_reconfs.proofs.Looks.{is_less, AsksNear, Since, ToldBy, GoesOn}
use Rattle.tg_law_reconfs.proofs.Nodes.{latest_is}
use Rattle.tg_law_reconfs.proofs.Waits.{each_has, without_has, has_without, has_asked, asked_has, asked_long, drawn_one}
use Rattle.tg_law_reconfs.proofs.Turns.{First, Onward, To, tells_to, proposes_to}
use Rattle.tg_law_reconfs.proofs.Answering.{both_parts, both_true, awaited_one}
use Rattle.tg_law_reconfs.proofs.Drains.{Nums, Votes}

is_least : (a b : ℕ) → nat_lt a b ≡ false → a < b → ⊥
is_least a b e less = grind (arith, e, less)

num_itself : (a b : ℕ) → a ≡ b → eqb a b ≡ true
num_itself a b e = grind (arith, e)

num_same : (a b : ℕ) → (a == b) ≡ true → a ≡ b
num_same a b e = grind arith

unit_num : (u v : ℕ) → unit_id u ≡ unit_id v → u ≡ v
unit_num u v e = ap (λ (n : NodeId). n.num) e

pub unit_layout : (u i : ℕ) → unit_id u ≡ layout_id i → ⊥
unit_layout u i e = no (ap (λ (n : NodeId). n.role) e)
  where
    no : role.Unit ≡ role.Layout → ⊥
    no e = cc

unit_itself : (v : ℕ) → node_eq (unit_id v) (unit_id v) ≡ true
unfolding node_eq
unit_itself v = num_itself v v refl

awaits_unit : (os : List Out) (u rid : ℕ) (o : Out) → Has os o → o.to ≡ unit_id u → o.rid ≡ rid → awaits os (unit_id u) rid ≡ true
awaits_unit os u rid o has to is = passes_somewhere (λ (z : Out). node_eq z.to (unit_id u) && eqb z.rid rid) os o has (both_true _ _ (subst (λ (n : NodeId). node_eq n (unit_id u) ≡ true) (sym to) (unit_itself u)) (num_itself o.rid rid is))

one_join : (x y : Join) → Some x ≡ Some y → x ≡ y
one_join x y e = cc

-- Several nodes that draw numbers at once.

drawn_nodes : (name : ℕ → NodeId) (y : Msg) (us : List ℕ) (next at : ℕ) → next ≤ at → drawn_from next (asked_of name y (waits_for us at)) ≡ asked_of name y (waits_for us at)
drawn_nodes name y [] next at le = refl
drawn_nodes name y (u ∷ us) next at le = drawn_one (out (name u) at y) (asked_of name y (waits_for us (at + 1))) next le (drawn_nodes name y us next (at + 1) (omega (arith, le)))

nodes_at : (us : List ℕ) (at u : ℕ) → Has us u → (i : ℕ) × Has (waits_for us at) (u, i)
nodes_at [] at u has = absurd has
nodes_at (x ∷ us) at u (inl e) = (at, inl (ap (λ v. (v, at)) e))
nodes_at (x ∷ us) at u (inr has) = let y = nodes_at us (at + 1) u has in (y.0, inr y.1)

nodes_within : (us : List ℕ) (at u i : ℕ) → Has (waits_for us at) (u, i) → Has us u
nodes_within [] at u i has = absurd has
nodes_within (x ∷ us) at u i (inl e) = inl (ap (λ (y : ℕ × ℕ). y.0) e)
nodes_within (x ∷ us) at u i (inr has) = inr (nodes_within us (at + 1) u i has)

nodes_long : (us : List ℕ) (at : ℕ) → length (waits_for us at) ≡ length us
nodes_long [] at = refl
nodes_long (u ∷ us) at = ap suc (nodes_long us (at + 1))

-- What units are asked for.

-- a unit that joins, whether it has all of its stripe
abbrev pub look_at : Layout → Join → ℕ → Msg
look_at p j e = has_stripe e p j.range j.stripe

-- what is outstanding
abbrev pub units_asked : Reconf → List Out
units_asked r = reconf_work_asks r r.work

-- how many requests units may still be sent
abbrev pub spares : Option Join → ℕ
spares None = 0
spares (Some j) = 1

abbrev pub units_left : Reconf → ReconfWork → ℕ
units_left r (SealingSpare n) = length (next_units r.stand r.change) + 2
units_left r (LookingSpare n) = length (next_units r.stand r.change) + 1
units_left r (Sealing ws acks) = spares r.change.join
units_left r w = 0

-- The one request to a unit that joins.

module _ (o : Option Join) (j : Join) (is : o ≡ Some j) (f : Join → Msg) (n : ℕ) where
  abbrev join_ask : Out
  join_ask = out (unit_id j.unit) n (f j)

  abbrev join_all : Option Join → List Out
  join_all p = join_asks p (λ x. out (unit_id x.unit) n (f x) ∷ [])

  join_is : (z : Out) → Has (join_all o) z → z ≡ join_ask
  join_is z has = by (subst (λ (p : Option Join). Has (join_all p) z) is has)
    where
      by : Has (join_ask ∷ []) z → z ≡ join_ask
      by (inl e) = e
      by (inr h) = absurd h

  join_has : Has (join_all o) join_ask
  join_has = subst (λ (p : Option Join). Has (join_all p) join_ask) (sym is) (inl refl)

  join_drawn : drawn_from n (join_all o) ≡ join_ask ∷ []
  join_drawn = subst (λ (p : Option Join). drawn_from n (join_all p) ≡ join_ask ∷ []) (sym is) (drawn_one join_ask [] n (omega arith) refl)

module _ (m : Meaning) (h : Header) (stopped : List NodeId) (k epoch servers top round : ℕ) (past : 2 ≤ epoch) (near : epoch < 2 ^ 32) (small : top + 1 < 2 ^ 32) (fits : round ≤ top) (first : round ≡ 1) where
  -- what the votes may still send before the next tick
  abbrev pub votes_first : ℕ
  votes_first = servers + (servers + servers + 1)

  -- The phases.

  -- the unit that joins runs, and is in this epoch or a later one
  pub record Spare (s : Net m) (r : Reconf) (e : ℕ) : Type 0 where
    pub join : Join
    pub is : r.change.join ≡ Some join
    pub runs : on_in m stopped s (unit_id join.unit) ≡ true
    pub close : AsksNear (look_at r.stand join e)
    pub since : e ≤ (unit_of m s join.unit).epoch

  -- the next layout's units run, and the one that joins is among them
  pub record AllRun (s : Net m) (r : Reconf) : Type 0 where
    pub some : (u : ℕ) × Has (next_units r.stand r.change) u
    pub run : (u : ℕ) → Has (next_units r.stand r.change) u → on_in m stopped s (unit_id u) ≡ true
    pub joins : (j : Join) → r.change.join ≡ Some j → Has (next_units r.stand r.change) j.unit

  -- those that are waited for run; one that joins is waited for, or is sealed
  pub record SealsRun (s : Net m) (r : Reconf) (ws : Waits) : Type 0 where
    pub some : (w : ℕ × ℕ) × Has ws w
    pub run : (u j : ℕ) → Has ws (u, j) → on_in m stopped s (unit_id u) ≡ true
    pub joins : (j : Join) → r.change.join ≡ Some j → (Spare s r 0 × AsksNear (look_at r.stand j epoch)) × ((((i : ℕ) × Has ws (j.unit, i))) ⊎ (epoch ≤ (unit_of m s j.unit).epoch))

  abbrev pub Ahead : Net m → Reconf → ReconfWork → Type 0
  Ahead s r (SealingSpare n) = Spare s r 0 × AllRun s r
  Ahead s r (LookingSpare n) = Spare s r r.stand.epoch × AllRun s r
  Ahead s r (Sealing ws acks) = SealsRun s r ws
  Ahead s r (LookingAgain n acks) = Spare s r epoch
  Ahead s r w = ⊥

  -- from one state of the nodes to a later one
  pub record Along (s t : Net m) : Type 0 where
    pub on : (n : NodeId) → on_in m stopped s n ≡ true → on_in m stopped t n ≡ true
    pub rises : (u : ℕ) → (unit_of m s u).epoch ≤ (unit_of m t u).epoch

  pub along_same : (s : Net m) → Along s s
  along_same s = record { on = λ n e. e; rises = λ u. omega arith }

  spare_along : (s t : Net m) (r : Reconf) (e : ℕ) → Along s t → Spare s r e → Spare t r e
  spare_along s t r e a x = let up = a.rises x.join.unit in let since = x.since in record { join = x.join; is = x.is; runs = a.on (unit_id x.join.unit) x.runs; close = x.close; since = omega (arith, up, since) }

  all_along : (s t : Net m) (r : Reconf) → Along s t → AllRun s r → AllRun t r
  all_along s t r a x = record { some = x.some; run = λ u has. a.on (unit_id u) (x.run u has); joins = x.joins }

  seals_along : (s t : Net m) (r : Reconf) (ws : Waits) → Along s t → SealsRun s r ws → SealsRun t r ws
  seals_along s t r ws a x = record { some = x.some; run = λ u j has. a.on (unit_id u) (x.run u j has); joins = λ j is. let y = x.joins j is in ((spare_along s t r 0 a y.0.0, y.0.1), by j y.1) }
    where
      by : (j : Join) → (((i : ℕ) × Has ws (j.unit, i))) ⊎ (epoch ≤ (unit_of m s j.unit).epoch) → (((i : ℕ) × Has ws (j.unit, i))) ⊎ (epoch ≤ (unit_of m t j.unit).epoch)
      by j (inl y) = inl y
      by j (inr le) = let up = a.rises j.unit in inr (omega (arith, up, le))

  pub ahead_along : (s t : Net m) (r : Reconf) (w : ReconfWork) → Along s t → Ahead s r w → Ahead t r w
  ahead_along s t r (SealingSpare n) a x = (spare_along s t r 0 a x.0, all_along s t r a x.1)
  ahead_along s t r (LookingSpare n) a x = (spare_along s t r r.stand.epoch a x.0, all_along s t r a x.1)
  ahead_along s t r (Sealing ws acks) a x = seals_along s t r ws a x
  ahead_along s t r (LookingAgain n acks) a x = spare_along s t r epoch a x
  ahead_along s t r w a x = absurd x

  -- What is outstanding.

  pub record AsksOne (s : Net m) (o : Out) : Type 0 where
    pub num : ℕ
    pub to : o.to ≡ unit_id num
    pub of : OfUnit epoch o.msg
    pub close : AsksNear o.msg
    pub since : Since o.msg (unit_of m s num)
    pub runs : on_in m stopped s (unit_id num) ≡ true

  asks_same : (s : Net m) (o p : Out) → o ≡ p → AsksOne s p → AsksOne s o
  asks_same s o p e a = subst (λ (z : Out). AsksOne s z) (sym e) a

  pub asks_one : (s : Net m) (r : Reconf) (w : ReconfWork) → r.stand.epoch + 1 ≡ epoch → Ahead s r w → (o : Out) → Has (reconf_work_asks r w) o → AsksOne s o
  unfolding reconf_work_asks
  asks_one s r (SealingSpare n) next x o has = let j = x.0.join in asks_same s o _ (join_is r.change.join j x.0.is (λ j. msg.Seal r.stand.epoch) n o has) (record { num = j.unit; to = refl; of = omega (arith, next); close = tt; since = tt; runs = x.0.runs })
  asks_one s r (LookingSpare n) next x o has = let j = x.0.join in asks_same s o _ (join_is r.change.join j x.0.is (λ j. look_at r.stand j r.stand.epoch) n o has) (record { num = j.unit; to = refl; of = tt; close = x.0.close; since = x.0.since; runs = x.0.runs })
  asks_one s r (Sealing ws acks) next x o has = let y = has_asked unit_id (msg.Seal (next_epoch r)) ws o has in asks_same s o _ y.is (record { num = y.num; to = refl; of = omega (arith, next); close = tt; since = tt; runs = x.run y.num y.rid y.has })
  asks_one s r (LookingAgain n acks) next x o has = let j = x.join in asks_same s o _ (join_is r.change.join j x.is (λ j. look_at r.stand j (next_epoch r)) n o has) (record { num = j.unit; to = refl; of = tt; close = x.close; since = (let z = x.since in omega (arith, next, z)); runs = x.runs })
  asks_one s r (Agreeing v) next x o has = absurd x
  asks_one s r (Telling ws n q) next x o has = absurd x
  asks_one s r (Starting n) next x o has = absurd x

  pub asks_some : (s : Net m) (r : Reconf) (w : ReconfWork) → Ahead s r w → (o : Out) × Has (reconf_work_asks r w) o
  unfolding reconf_work_asks
  asks_some s r (SealingSpare n) x = (_, join_has r.change.join x.0.join x.0.is (λ j. msg.Seal r.stand.epoch) n)
  asks_some s r (LookingSpare n) x = (_, join_has r.change.join x.0.join x.0.is (λ j. look_at r.stand j r.stand.epoch) n)
  asks_some s r (Sealing ws acks) x = (_, asked_has unit_id (msg.Seal (next_epoch r)) ws x.some.0.0 x.some.0.1 x.some.1)
  asks_some s r (LookingAgain n acks) x = (_, join_has r.change.join x.join x.is (λ j. look_at r.stand j (next_epoch r)) n)
  asks_some s r (Agreeing v) x = absurd x
  asks_some s r (Telling ws n q) x = absurd x
  asks_some s r (Starting n) x = absurd x

  -- no round is set yet
  pub none_later : (s : Net m) (r : Reconf) (w : ReconfWork) → Ahead s r w → later_asks r w ≡ []
  none_later s r (Agreeing v) x = absurd x
  none_later s r w x = refl

  -- the client waits for units
  pub record UnitsHand (s : Net m) (c : Client m) : Type 0 where
    pub work : Work m
    pub waits : c.work ≡ Some work
    pub reconf : Reconf
    pub hand : work.hand ≡ Doing (Reconfiguring reconf)
    pub stand : c.stand ≡ reconf.stand
    pub layouts : c.layouts ≡ servers
    pub me : reconf.me ≡ k
    pub lays : reconf.layouts ≡ servers
    pub next : reconf.stand.epoch + 1 ≡ epoch
    pub ahead : Ahead s reconf reconf.work

  abbrev pub hand_along : (s t : Net m) (c : Client m) → Along s t → UnitsHand s c → UnitsHand t c
  hand_along s t c a f = record { work = f.work; waits = f.waits; reconf = f.reconf; hand = f.hand; stand = f.stand; layouts = f.layouts; me = f.me; lays = f.lays; next = f.next; ahead = ahead_along s t f.reconf f.reconf.work a f.ahead }

  -- whatever is counted of it, or its next number
  abbrev pub hand_again : (s : Net m) (c d : Client m) → d.work ≡ c.work → d.stand ≡ c.stand → d.layouts ≡ c.layouts → UnitsHand s c → UnitsHand s d
  hand_again s c d work stand layouts f = record { work = f.work; waits = work ∙ f.waits; reconf = f.reconf; hand = f.hand; stand = stand ∙ f.stand; layouts = layouts ∙ f.layouts; me = f.me; lays = f.lays; next = f.next; ahead = f.ahead }

  pub units_reserved : (s : Net m) (c : Client m) (f : UnitsHand s c) → reserved m c ≡ units_asked f.reconf ++ []
  units_reserved s c f = ap (λ (w : Option (Work m)). work_reserved m c.stand w) f.waits ∙ (ap (λ (d : Hand m). hand_reserved m c.stand d) f.hand ∙ ap (λ (os : List Out). units_asked f.reconf ++ os) (none_later s f.reconf f.reconf.work f.ahead))

  pub reserved_one : (s : Net m) (c : Client m) (f : UnitsHand s c) (o : Out) → Has (reserved m c) o → Has (units_asked f.reconf) o
  reserved_one s c f o has = by (has_either (units_asked f.reconf) [] o (subst (λ (os : List Out). Has os o) (units_reserved s c f) has))
    where
      by : Has (units_asked f.reconf) o ⊎ Has [] o → Has (units_asked f.reconf) o
      by (inl g) = g
      by (inr g) = absurd g

  pub one_reserved : (s : Net m) (c : Client m) (f : UnitsHand s c) (o : Out) → Has (units_asked f.reconf) o → Has (reserved m c) o
  one_reserved s c f o has = subst (λ (os : List Out). Has os o) (sym (units_reserved s c f)) (has_left (units_asked f.reconf) [] o has)

  -- The client's turn.

  -- it goes on before the votes, with new requests, or with those that this doesn't answer
  pub record Further (s : Net m) (c : Client m) (f : UnitsHand s c) (a : NodeId) (rid : ℕ) (x : Reply) (t : ClientTurn m) : Type 0 where
    pub hand : UnitsHand s t.now
    pub new : List Out
    pub sends : t.sends ≡ new
    pub few : length new + units_left hand.reconf hand.reconf.work ≤ units_left f.reconf f.reconf.work
    pub only : (o : Out) → Has new o → Has (units_asked hand.reconf) o
    pub kept : (o : Out) → Has (units_asked hand.reconf) o → Has new o ⊎ (Has (units_asked f.reconf) o × (o.to ≡ a → o.rid ≡ rid → GoesOn o.msg x → ⊥))

  pub data Comes' (s : Net m) (c : Client m) (f : UnitsHand s c) (a : NodeId) (rid : ℕ) (x : Reply) (t : ClientTurn m) : Type 0 where
    EOver : t.now.work ≡ None → t.sends ≡ [] → Comes' s c f a rid x t
    EFurther : Further s c f a rid x t → Comes' s c f a rid x t
    EOn : (y : Reconf) (o : Onward m h stopped k epoch servers top round First s a rid [] (λ i. ⊥) votes_first c.next y) → Votes m h stopped k epoch servers top round First s true t.now y → t.sends ≡ o.new → Comes' s c f a rid x t

  module _ (s : Net m) (there : (i : ℕ) → on_in m stopped s (layout_id i) ≡ true → i < servers) (low : (u : ℕ) → (unit_of m s u).epoch ≤ epoch) (c : Client m) (f : UnitsHand s c) (nums : Nums m h stopped k epoch servers top round c) where
    abbrev r : Reconf
    r = f.reconf

    abbrev OnwardTo : NodeId → ℕ → Next Reconf ReconfEnd → Type 0
    OnwardTo a rid to = To m h stopped k epoch servers top round First s a rid [] (λ i. ⊥) votes_first c.next to

    abbrev Turned : NodeId → ℕ → Reply → ReconfTurn → Type 0
    Turned a rid x t = Comes' s c f a rid x (given m c (on_reconf m c f.work t))

    -- the votes begin, or it ends
    on_given : (a : NodeId) (rid : ℕ) (x : Reply) (t : ReconfTurn) (to : Next Reconf ReconfEnd) → OnwardTo a rid to → Comes' s c f a rid x (given m c (reconf_to m (after_turn m c t) f.work to))
    unfolding client_asks task_asks
    on_given a rid x t (Goes y) o = EOn y o (record { work = _; waits = refl; hand = refl; stand = refl; layouts = f.layouts; fine = o.fine }) o.drawn
    on_given a rid x t (Learns y) o = absurd o
    on_given a rid x t (Ends (Installed e p)) o = EOver refl refl
    on_given a rid x t (Ends (Overtaken e p)) o = EOver refl refl
    on_given a rid x t (Ends (NotWhole u i p)) o = EOver refl refl

    -- it goes on before the votes
    goes_given : (a : NodeId) (rid : ℕ) (x : Reply) (t : ReconfTurn) (w : ReconfWork) → r.work ≡ w → (y : Reconf) → y.me ≡ k → y.layouts ≡ servers → y.stand.epoch + 1 ≡ epoch → Ahead s y y.work → (new : List Out) → drawn_from c.next (reconf_asks y) ≡ new
        → length new + units_left y y.work ≤ units_left r w → ((o : Out) → Has new o → Has (units_asked y) o)
        → ((o : Out) → Has (units_asked y) o → Has new o ⊎ (Has (reconf_work_asks r w) o × (o.to ≡ a → o.rid ≡ rid → GoesOn o.msg x → ⊥)))
        → Comes' s c f a rid x (given m c (reconf_to m (after_turn m c t) f.work (Goes y)))
    unfolding client_asks task_asks
    goes_given a rid x t w at y me lays next ahead new drawn few only kept = EFurther (record {
      hand = record { work = _; waits = refl; reconf = y; hand = refl; stand = refl; layouts = f.layouts; me = me; lays = lays; next = next; ahead = ahead };
      new = new;
      sends = drawn;
      few = subst (λ (z : ReconfWork). length new + units_left y y.work ≤ units_left r z) (sym at) few;
      only = only;
      kept = subst (λ (z : ReconfWork). (o : Out) → Has (units_asked y) o → Has new o ⊎ (Has (reconf_work_asks r z) o × (o.to ≡ a → o.rid ≡ rid → GoesOn o.msg x → ⊥))) (sym at) kept;
    })

    old_asks : (os : List Out) → ((o : Out) → Has os o → Has (units_asked r) o) → drawn_from c.next os ≡ []
    old_asks os sub = none_drawn os c.next (each_has _ os (λ o has. nums.below o (one_reserved s c f o (sub o has))))

    -- an answer that is passed by
    off_given : (a : NodeId) (rid : ℕ) (x : Reply) → ((o : Out) → Has (units_asked r) o → o.to ≡ a → o.rid ≡ rid → GoesOn o.msg x → ⊥) → Turned a rid x (passes c.next r)
    off_given a rid x off = goes_given a rid x (passes c.next r) r.work refl r f.me f.lays f.next f.ahead [] (old_asks (units_asked r) (λ o has. has)) (omega arith) (λ o has. absurd has) (λ o has. inr (has, off o has))

    off_at : (a : NodeId) (rid : ℕ) (x : Reply) (w : ReconfWork) → r.work ≡ w → ((o : Out) → Has (reconf_work_asks r w) o → GoesOn o.msg x → ⊥) → Turned a rid x (passes c.next r)
    off_at a rid x w at off = off_given a rid x (λ o has e g. off o (subst (λ (z : ReconfWork). Has (reconf_work_asks r z) o) at has))

    no_new : drawn_from c.next (client_asks m c) ≡ []
    unfolding client_asks task_asks
    no_new = ap (λ (w : Option (Work m)). drawn_from c.next (steps.work_asks m c.stand w)) f.waits ∙ (ap (λ (d : Hand m). drawn_from c.next (hand_asks m c.stand d)) f.hand ∙ old_asks (units_asked r) (λ o has. has))

    same_given : (a : NodeId) (rid : ℕ) (x : Reply) → ((o : Out) → Has (units_asked r) o → o.to ≡ a → o.rid ≡ rid → GoesOn o.msg x → ⊥) → Comes' s c f a rid x (given m c (moved m c []))
    same_given a rid x off = EFurther (record { hand = hand_again s c (called m c) refl refl refl f; new = []; sends = no_new; few = omega arith; only = λ o has. absurd has; kept = λ o has. inr (has, off o has) })

    -- The seals begin.
    seals_given : (a : NodeId) (rid : ℕ) (x : Reply) (w : ReconfWork) → r.work ≡ w → length (next_units r.stand r.change) + 1 ≤ units_left r w → (e : ℕ) → Spare s r e → AllRun s r → Turned a rid x (seals r c.next)
    unfolding reconf_work_asks
    seals_given a rid x w at few e p all =
        let us = next_units r.stand r.change in
        let ws = waits_for us c.next in
        let y = at_work r (Sealing ws []) in
        let os = asked_of unit_id (msg.Seal (next_epoch r)) ws in
        let u = all.some in
        let i = nodes_at us c.next u.0 u.1 in
        let long = asked_long unit_id (msg.Seal (next_epoch r)) ws in
        let all' = nodes_long us c.next in
        let one = ap spares p.is in
        goes_given a rid x (seals r c.next) w at y f.me f.lays f.next (record {
          some = ((u.0, i.0), i.1);
          run = λ v j has. all.run v (nodes_within us c.next v j has);
          joins = λ j is. ((record { join = p.join; is = p.is; runs = p.runs; close = p.close; since = omega arith }, subst (λ (z : Join). AsksNear (look_at r.stand z epoch)) (one_join p.join j (sym p.is ∙ is)) p.close), inl (nodes_at us c.next j.unit (all.joins j is)));
        }) os (drawn_nodes unit_id (msg.Seal (next_epoch r)) us c.next c.next (omega arith)) (omega (arith, long, all', few, one)) (λ o has. has) (λ o has. inl has)

    -- The unit that joins is looked at.
    spare_looked : (a : NodeId) (rid : ℕ) (x : Reply) (n : ℕ) → r.work ≡ SealingSpare n → Spare s r r.stand.epoch → AllRun s r → Turned a rid x (draws c.next (at_work r (LookingSpare c.next)))
    unfolding reconf_work_asks
    spare_looked a rid x n at p all =
        let f' = λ (j : Join). look_at r.stand j r.stand.epoch in
        goes_given a rid x (draws c.next (at_work r (LookingSpare c.next))) (SealingSpare n) at (at_work r (LookingSpare c.next)) f.me f.lays f.next (record { join = p.join; is = p.is; runs = p.runs; close = p.close; since = p.since }, record { some = all.some; run = all.run; joins = all.joins })
        (join_ask r.change.join p.join p.is f' c.next ∷ []) (join_drawn r.change.join p.join p.is f' c.next) (omega arith) (λ o has. by o has) (λ o has. inl (inl (join_is r.change.join p.join p.is f' c.next o has)))
      where
        by : (o : Out) → Has (join_ask r.change.join p.join p.is (λ (j : Join). look_at r.stand j r.stand.epoch) c.next ∷ []) o → Has (join_asks r.change.join (λ j. out (unit_id j.unit) c.next (look_at r.stand j r.stand.epoch) ∷ [])) o
        by o (inl e) = subst (λ (z : Out). Has (join_asks r.change.join (λ j. out (unit_id j.unit) c.next (look_at r.stand j r.stand.epoch) ∷ [])) z) (sym e) (join_has r.change.join p.join p.is (λ (j : Join). look_at r.stand j r.stand.epoch) c.next)
        by o (inr g) = absurd g

    again_looked : (a : NodeId) (rid : ℕ) (x : Reply) (ws : Waits) (acks more : Acks) → r.work ≡ Sealing ws acks → Spare s r epoch → Turned a rid x (draws c.next (at_work r (LookingAgain c.next more)))
    unfolding reconf_work_asks
    again_looked a rid x ws acks more at p =
        let f' = λ (j : Join). look_at r.stand j (next_epoch r) in
        let one = ap spares p.is in
        goes_given a rid x (draws c.next (at_work r (LookingAgain c.next more))) (Sealing ws acks) at (at_work r (LookingAgain c.next more)) f.me f.lays f.next (record { join = p.join; is = p.is; runs = p.runs; close = p.close; since = p.since })
        (join_ask r.change.join p.join p.is f' c.next ∷ []) (join_drawn r.change.join p.join p.is f' c.next) (omega (arith, one)) (λ o has. by o has) (λ o has. inl (inl (join_is r.change.join p.join p.is f' c.next o has)))
      where
        by : (o : Out) → Has (join_ask r.change.join p.join p.is (λ (j : Join). look_at r.stand j (next_epoch r)) c.next ∷ []) o → Has (join_asks r.change.join (λ j. out (unit_id j.unit) c.next (look_at r.stand j (next_epoch r)) ∷ [])) o
        by o (inl e) = subst (λ (z : Out). Has (join_asks r.change.join (λ j. out (unit_id j.unit) c.next (look_at r.stand j (next_epoch r)) ∷ [])) z) (sym e) (join_has r.change.join p.join p.is (λ (j : Join). look_at r.stand j (next_epoch r)) c.next)
        by o (inr g) = absurd g

    -- Phase by phase.

    -- who is asked is the unit that joins
    spare_is : (u rid n : ℕ) (y : Msg) (g : Join → Msg) (j : Join) → r.change.join ≡ Some j → Has (join_asks r.change.join (λ x. out (unit_id x.unit) n (g x) ∷ [])) (out (unit_id u) rid y) → u ≡ j.unit
    spare_is u rid n y g j is has = unit_num u j.unit (ap (λ (z : Out). z.to) (join_is r.change.join j is g n (out (unit_id u) rid y) has))

    spare_off : (x : Reply) (n : ℕ) (g : Join → Msg) (j : Join) → r.change.join ≡ Some j → (GoesOn (g j) x → ⊥) → (o : Out) → Has (join_asks r.change.join (λ z. out (unit_id z.unit) n (g z) ∷ [])) o → GoesOn o.msg x → ⊥
    spare_off x n g j is off o has e = off (subst (λ (z : Out). GoesOn z.msg x) (join_is r.change.join j is g n o has) e)

    seals_off : (x : Reply) (ws : Waits) → (GoesOn (msg.Seal (next_epoch r)) x → ⊥) → (o : Out) → Has (asked_of unit_id (msg.Seal (next_epoch r)) ws) o → GoesOn o.msg x → ⊥
    seals_off x ws off o has e = let y = has_asked unit_id (msg.Seal (next_epoch r)) ws o has in off (subst (λ (z : Out). GoesOn z.msg x) y.is e)

    spare_sealed : (u rid e z n : ℕ) (y : Msg) (b : Bool) → (e == r.stand.epoch) ≡ b → r.work ≡ SealingSpare n → Ahead s r (SealingSpare n) → Has (reconf_work_asks r (SealingSpare n)) (out (unit_id u) rid y) → e ≤ (unit_of m s u).epoch
        → Turned (unit_id u) rid (IsSealed e z) (looks_if r c.next b)
    unfolding reconf_work_asks
    spare_sealed u rid e z n y true same at d has told =
        let j = d.0.join in
        let is = spare_is u rid n y (λ j. msg.Seal r.stand.epoch) j d.0.is has in
        let same' = num_same e r.stand.epoch same in
        let up : r.stand.epoch ≤ (unit_of m s j.unit).epoch = subst (λ (v : ℕ). r.stand.epoch ≤ (unit_of m s v).epoch) is (omega (arith, told, same')) in
        spare_looked (unit_id u) rid (IsSealed e z) n at (record { join = j; is = d.0.is; runs = d.0.runs; close = d.0.close; since = up }) d.1
    spare_sealed u rid e z n y false same at d has told = off_at (unit_id u) rid (IsSealed e z) (SealingSpare n) at (spare_off (IsSealed e z) n (λ j. msg.Seal r.stand.epoch) d.0.join d.0.is (λ g. contrary (num_itself e r.stand.epoch g) same))

    -- a fence of a later epoch
    fenced_given : (u rid e n : ℕ) (w : ReconfWork) (b : Bool) → nat_lt r.stand.epoch e ≡ b → r.work ≡ w → length (next_units r.stand r.change) + 1 ≤ units_left r w → (at : ℕ) → Spare s r at → AllRun s r
        → ((r.stand.epoch < e → ⊥) → (o : Out) → Has (reconf_work_asks r w) o → GoesOn o.msg (IsFenced e) → ⊥) → Turned (unit_id u) rid (IsFenced e) (seals_if r c.next b)
    fenced_given u rid e n w true past at few from p all off = seals_given (unit_id u) rid (IsFenced e) w at few from p all
    fenced_given u rid e n w false past at few from p all off = off_at (unit_id u) rid (IsFenced e) w at (off (λ less. is_least r.stand.epoch e past less))

    -- all are sealed
    after_given : (u rid : ℕ) (x : Reply) (ws : Waits) (acks more : Acks) → r.work ≡ Sealing ws acks → (o : Option Join) → r.change.join ≡ o → ((j : Join) → r.change.join ≡ Some j → Spare s r epoch) → Turned (unit_id u) rid x (after_seals r more c.next o)
    after_given u rid x ws acks more at None e joins = on_given (unit_id u) rid x (proposes r more c.next) (proposes r more c.next).to (proposes_to m h stopped k epoch servers top round First s r f.me f.lays there (unit_id u) rid [] (λ i. ⊥) votes_first c.next more first (λ v. tt) f.next (omega arith))
    after_given u rid x ws acks more at (Some j) e joins = again_looked (unit_id u) rid x ws acks more at (joins j e)

    -- the unit that joins is sealed, or waited for still
    joins_left : (u : ℕ) (ws : Waits) → SealsRun s r ws → epoch ≤ (unit_of m s u).epoch → (j : Join) → (((i : ℕ) × Has ws (j.unit, i))) ⊎ (epoch ≤ (unit_of m s j.unit).epoch) → (((i : ℕ) × Has (without_wait u ws) (j.unit, i))) ⊎ (epoch ≤ (unit_of m s j.unit).epoch)
    joins_left u ws d up j (inr le) = inr le
    joins_left u ws d up j (inl i) = by (one_of j.unit u)
      where
        by : (j.unit ≡ u) ⊎ ((j.unit ≡ u) → ⊥) → (((i : ℕ) × Has (without_wait u ws) (j.unit, i))) ⊎ (epoch ≤ (unit_of m s j.unit).epoch)
        by (inl e) = inr (subst (λ (v : ℕ). epoch ≤ (unit_of m s v).epoch) (sym e) up)
        by (inr off) = inl (i.0, has_without u ws j.unit i.0 i.1 off)

    left_given : (u rid : ℕ) (x : Reply) (ws : Waits) (acks more : Acks) (vs : Waits) → without_wait u ws ≡ vs → r.work ≡ Sealing ws acks → SealsRun s r ws → epoch ≤ (unit_of m s u).epoch → Turned (unit_id u) rid x (seals_left r vs more c.next)
    unfolding reconf_work_asks
    left_given u rid x ws acks more [] none at d up = after_given u rid x ws acks more at r.change.join refl (λ j is. all_sealed j is (joins_left u ws d up j (d.joins j is).1))
      where
        all_sealed : (j : Join) → r.change.join ≡ Some j → (((i : ℕ) × Has (without_wait u ws) (j.unit, i))) ⊎ (epoch ≤ (unit_of m s j.unit).epoch) → Spare s r epoch
        all_sealed j is (inl i) = absurd (subst (λ (vs : Waits). Has vs (j.unit, i.0)) none i.1)
        all_sealed j is (inr le) =
            let y = (d.joins j is).0 in
            let same = one_join y.0.join j (sym y.0.is ∙ is) in
            record { join = j; is = is; runs = subst (λ (z : Join). on_in m stopped s (unit_id z.unit) ≡ true) same y.0.runs; close = y.1; since = le }
    left_given u rid x ws acks more (w ∷ vs) is at d up =
        goes_given (unit_id u) rid x (turn c.next (Goes (at_work r (Sealing (w ∷ vs) more)))) (Sealing ws acks) at (at_work r (Sealing (w ∷ vs) more)) f.me f.lays f.next (record {
          some = (w, inl refl);
          run = λ v j has. d.run v j (old v j has).0;
          joins = λ j e. let y = d.joins j e in ((record { join = y.0.0.join; is = y.0.0.is; runs = y.0.0.runs; close = y.0.0.close; since = y.0.0.since }, y.0.1), subst (λ (us : Waits). (((i : ℕ) × Has us (j.unit, i))) ⊎ (epoch ≤ (unit_of m s j.unit).epoch)) is (joins_left u ws d up j y.1));
        }) [] (old_asks (asked_of unit_id (msg.Seal (next_epoch r)) (w ∷ vs)) (λ o has. subst (λ (z : ReconfWork). Has (reconf_work_asks r z) o) (sym at) (sub o has).0)) (omega arith) (λ o has. absurd has) (λ o has. inr ((sub o has).0, λ e g. absurd ((sub o has).1 e)))
      where
        old : (v j : ℕ) → Has (w ∷ vs) (v, j) → Has ws (v, j) × (v ≡ u → ⊥)
        old v j has = without_has u ws v j (subst (λ (us : Waits). Has us (v, j)) (sym is) has)

        sub : (o : Out) → Has (asked_of unit_id (msg.Seal (next_epoch r)) (w ∷ vs)) o → Has (asked_of unit_id (msg.Seal (next_epoch r)) ws) o × (o.to ≡ unit_id u → ⊥)
        sub o has =
            let y = has_asked unit_id (msg.Seal (next_epoch r)) (w ∷ vs) o has in
            let z = old y.num y.rid y.has in
            (subst (λ (q : Out). Has (asked_of unit_id (msg.Seal (next_epoch r)) ws) q) (sym y.is) (asked_has unit_id (msg.Seal (next_epoch r)) ws y.num y.rid z.0), λ e. z.1 (unit_num y.num u (sym (ap (λ (q : Out). q.to) y.is) ∙ e)))

    seal_given : (u rid e z : ℕ) (ws : Waits) (acks : Acks) (b : Bool) → (e == next_epoch r) ≡ b → r.work ≡ Sealing ws acks → SealsRun s r ws → e ≤ (unit_of m s u).epoch → Turned (unit_id u) rid (IsSealed e z) (sealed_if r u z ws acks c.next b)
    unfolding reconf_work_asks
    seal_given u rid e z ws acks true same at d told = let is = num_same e (next_epoch r) same in let next = f.next in left_given u rid (IsSealed e z) ws acks ((u, z) ∷ acks) (without_wait u ws) refl at d (omega (arith, is, next, told))
    seal_given u rid e z ws acks false same at d told = off_at (unit_id u) rid (IsSealed e z) (Sealing ws acks) at (seals_off (IsSealed e z) ws (λ g. contrary (num_itself e (next_epoch r) g) same))

    -- no unit is past this epoch
    never_learns : (u rid e : ℕ) (w : ReconfWork) (b : Bool) → nat_lt (next_epoch r) e ≡ b → r.work ≡ w → e ≤ (unit_of m s u).epoch → ((next_epoch r < e → ⊥) → (o : Out) → Has (reconf_work_asks r w) o → GoesOn o.msg (IsFenced e) → ⊥) → Turned (unit_id u) rid (IsFenced e) (learns_if b r c.next)
    never_learns u rid e w true past at told off = let less = is_less (next_epoch r) e past in let most = low u in let next = f.next in absurd (omega (arith, less, told, most, next))
    never_learns u rid e w false past at told off = off_at (unit_id u) rid (IsFenced e) w at (off (λ less. is_least (next_epoch r) e past less))

    unit_fed : (u rid : ℕ) (y : Msg) (x : Reply) (w : ReconfWork) → r.work ≡ w → Ahead s r w → Has (reconf_work_asks r w) (out (unit_id u) rid y) → ToldBy (unit_of m s u) x → Turned (unit_id u) rid x (reconf_feed r w u rid x c.next)
    unfolding reconf_feed reconf_work_asks
    unit_fed u rid y (IsSealed e z) (SealingSpare n) at d has told = spare_sealed u rid e z n y (e == r.stand.epoch) refl at d has told
    unit_fed u rid y (IsFenced e) (SealingSpare n) at d has told = fenced_given u rid e n (SealingSpare n) (nat_lt r.stand.epoch e) refl at (omega arith) 0 d.0 d.1 (λ off. spare_off (IsFenced e) n (λ j. msg.Seal r.stand.epoch) d.0.join d.0.is off)
    unit_fed u rid y IsWhole (SealingSpare n) at d has told = off_at (unit_id u) rid IsWhole (SealingSpare n) at (spare_off IsWhole n (λ j. msg.Seal r.stand.epoch) d.0.join d.0.is (λ g. g))
    unit_fed u rid y (IsMissing p) (SealingSpare n) at d has told = off_at (unit_id u) rid (IsMissing p) (SealingSpare n) at (spare_off (IsMissing p) n (λ j. msg.Seal r.stand.epoch) d.0.join d.0.is (λ g. g))
    unit_fed u rid y (IsSealed e z) (LookingSpare n) at d has told = off_at (unit_id u) rid (IsSealed e z) (LookingSpare n) at (spare_off (IsSealed e z) n (λ j. look_at r.stand j r.stand.epoch) d.0.join d.0.is (λ g. g))
    unit_fed u rid y (IsFenced e) (LookingSpare n) at d has told = fenced_given u rid e n (LookingSpare n) (nat_lt r.stand.epoch e) refl at (omega arith) r.stand.epoch d.0 d.1 (λ off. spare_off (IsFenced e) n (λ j. look_at r.stand j r.stand.epoch) d.0.join d.0.is off)
    unit_fed u rid y IsWhole (LookingSpare n) at d has told = seals_given (unit_id u) rid IsWhole (LookingSpare n) at (omega arith) r.stand.epoch d.0 d.1
    unit_fed u rid y (IsMissing p) (LookingSpare n) at d has told = on_given (unit_id u) rid (IsMissing p) (not_whole r u p c.next) (not_whole r u p c.next).to tt
    unit_fed u rid y (IsSealed e z) (Sealing ws acks) at d has told = seal_given u rid e z ws acks (e == next_epoch r) refl at d told
    unit_fed u rid y (IsFenced e) (Sealing ws acks) at d has told = never_learns u rid e (Sealing ws acks) (nat_lt (next_epoch r) e) refl at told (λ off. seals_off (IsFenced e) ws off)
    unit_fed u rid y IsWhole (Sealing ws acks) at d has told = off_at (unit_id u) rid IsWhole (Sealing ws acks) at (seals_off IsWhole ws (λ g. g))
    unit_fed u rid y (IsMissing p) (Sealing ws acks) at d has told = off_at (unit_id u) rid (IsMissing p) (Sealing ws acks) at (seals_off (IsMissing p) ws (λ g. g))
    unit_fed u rid y (IsSealed e z) (LookingAgain n acks) at d has told = off_at (unit_id u) rid (IsSealed e z) (LookingAgain n acks) at (spare_off (IsSealed e z) n (λ j. look_at r.stand j (next_epoch r)) d.join d.is (λ g. g))
    unit_fed u rid y (IsFenced e) (LookingAgain n acks) at d has told = never_learns u rid e (LookingAgain n acks) (nat_lt (next_epoch r) e) refl at told (λ off. spare_off (IsFenced e) n (λ j. look_at r.stand j (next_epoch r)) d.join d.is off)
    unit_fed u rid y IsWhole (LookingAgain n acks) at d has told = on_given (unit_id u) rid IsWhole (proposes r acks c.next) (proposes r acks c.next).to (proposes_to m h stopped k epoch servers top round First s r f.me f.lays there (unit_id u) rid [] (λ i. ⊥) votes_first c.next acks first (λ v. tt) f.next (omega arith))
    unit_fed u rid y (IsMissing p) (LookingAgain n acks) at d has told = on_given (unit_id u) rid (IsMissing p) (not_whole r u p c.next) (not_whole r u p c.next).to tt
    unit_fed u rid y x (Agreeing v) at d has told = absurd d
    unit_fed u rid y x (Telling ws n q) at d has told = absurd d
    unit_fed u rid y x (Starting n) at d has told = absurd d
    unit_fed u rid y x w at d has told = absurd told

    -- an awaited answer or another one
    fed_given : (u rid : ℕ) (x : Reply) (b : Bool) → awaits (reconf_awaited r) (unit_id u) rid ≡ b → ToldBy (unit_of m s u) x → Comes' s c f (unit_id u) rid x (given m c (fed_if m b c f.work (Reconfiguring r) (unit_id u) rid x))
    unfolding task_feed
    fed_given u rid x true e told =
        let y = awaited_one (reconf_awaited r) (unit_id u) rid e in
        unit_fed u rid y.0 x r.work refl f.ahead (reserved_one s c f (out (unit_id u) rid y.0) (subst (λ (os : List Out). Has os (out (unit_id u) rid y.0)) (sym waits_are) y.1)) told
      where
        waits_are : reserved m c ≡ reconf_awaited r
        waits_are = ap (λ (w : Option (Work m)). work_reserved m c.stand w) f.waits ∙ ap (λ (d : Hand m). hand_reserved m c.stand d) f.hand
    fed_given u rid x false e told = same_given (unit_id u) rid x (λ o has to rid' g. contrary (there_is o has to rid') e)
      where
        there_is : (o : Out) → Has (units_asked r) o → o.to ≡ unit_id u → o.rid ≡ rid → awaits (reconf_awaited r) (unit_id u) rid ≡ true
        there_is o has to rid' = awaits_unit (reconf_awaited r) u rid o (has_left (units_asked r) (later_asks r r.work) o has) to rid'

    pub answer_comes : (u rid : ℕ) (y : Msg) → ToldBy (unit_of m s u) (reply y) → Comes' s c f (unit_id u) rid (reply y) (client_deliver m c (unit_id u) rid y)
    unfolding client_deliver
    answer_comes u rid y told =
        subst (λ (o : Option (Work m)). Comes' s c f (unit_id u) rid (reply y) (given m c (feed m c o (unit_id u) rid (reply y)))) (sym f.waits)
        (by (reply y) told)
      where
        fed : (x : Reply) → ToldBy (unit_of m s u) x → Comes' s c f (unit_id u) rid x (given m c (hand_feed m c f.work f.work.hand (unit_id u) rid x))
        fed x told = subst (λ (d : Hand m). Comes' s c f (unit_id u) rid x (given m c (hand_feed m c f.work d (unit_id u) rid x))) (sym f.hand) (fed_given u rid x (awaits (reconf_awaited r) (unit_id u) rid) refl told)

        by : (x : Reply) → ToldBy (unit_of m s u) x → Comes' s c f (unit_id u) rid x (given m c (feed m c (Some f.work) (unit_id u) rid x))
        by (IsSealed e z) told = fed (IsSealed e z) told
        by (IsFenced e) told = fed (IsFenced e) told
        by IsWhole told = fed IsWhole told
        by (IsMissing p) told = fed (IsMissing p) told
        by x told = absurd told

    -- A layout is told.

    own_turn : (i rid : ℕ) (q : Layout) (w : ReconfWork) (b : Bool) → r.work ≡ w → Ahead s r w → q.epoch ≡ epoch → OnwardTo (layout_id i) rid (on_newer_layout r q c.next b).to
    own_turn i rid q w false at d of = tt
    own_turn i rid q w true at d of = subst (λ (z : ReconfWork). OnwardTo (layout_id i) rid (own_decided r z q c.next).to) (sym at) (tells w d)
      where
        own : OnwardTo (layout_id i) rid (Rattle.tg_protocol.specs.Reconfiguring.tells r q c.next).to
        own = tells_to m h stopped k epoch servers top round First s r f.me f.lays there (layout_id i) rid [] (λ i. ⊥) votes_first c.next q f.next of (omega arith)

        tells : (w : ReconfWork) → Ahead s r w → OnwardTo (layout_id i) rid (own_decided r w q c.next).to
        tells (SealingSpare n) d = own
        tells (LookingSpare n) d = own
        tells (Sealing ws acks) d = own
        tells (LookingAgain n acks) d = own
        tells w d = absurd d

    newer_turn : (i rid : ℕ) (q : Layout) (w : ReconfWork) → r.work ≡ w → Ahead s r w → q.epoch ≡ epoch → Turned (layout_id i) rid (IsLatest q) (reconf_latest r w i rid q c.next)
    unfolding reconf_latest
    newer_turn i rid q w at d of = by w d
      where
        own : Turned (layout_id i) rid (IsLatest q) (on_newer_layout r q c.next (is_own r q))
        own = on_given (layout_id i) rid (IsLatest q) (on_newer_layout r q c.next (is_own r q)) (on_newer_layout r q c.next (is_own r q)).to (own_turn i rid q w (is_own r q) at d of)

        by : (w : ReconfWork) → Ahead s r w → Turned (layout_id i) rid (IsLatest q) (reconf_latest r w i rid q c.next)
        by (SealingSpare n) d = own
        by (LookingSpare n) d = own
        by (Sealing ws acks) d = own
        by (LookingAgain n acks) d = own
        by w d = absurd d

    latest_case : (i rid : ℕ) (q : Layout) (b : Bool) → (node_eq (layout_id i) (layout_id i) && nat_lt c.stand.epoch q.epoch) ≡ b → q.epoch ≤ epoch → Comes' s c f (layout_id i) rid (IsLatest q) (given m c (latest_if m b c f.work (layout_id i) rid q))
    latest_case i rid q true e le =
        let less = is_less c.stand.epoch q.epoch (both_parts (node_eq (layout_id i) (layout_id i)) (nat_lt c.stand.epoch q.epoch) e).1 in
        let at = ap (λ (p : Layout). p.epoch) f.stand in
        let next' = f.next in
        subst (λ (d : Hand m). Comes' s c f (layout_id i) rid (IsLatest q) (given m c (on_newer m c f.work (task_in m d) i rid q))) (sym f.hand) (newer_turn i rid q r.work refl f.ahead (omega (arith, less, le, at, next')))
    latest_case i rid q false e le = same_given (layout_id i) rid (IsLatest q) (λ o has to rid' g. let a = asks_one s r r.work f.next f.ahead o has in absurd (unit_layout a.num i (sym a.to ∙ to)))

    pub latest_comes : (i rid : ℕ) (q : Layout) → q.epoch ≤ epoch → Comes' s c f (layout_id i) rid (IsLatest q) (client_deliver m c (layout_id i) rid (msg.Latest q))
    unfolding client_deliver
    latest_comes i rid q le = subst (λ (y : Reply). Comes' s c f (layout_id i) rid (IsLatest q) (given m c (feed m c c.work (layout_id i) rid y))) (sym (latest_is m h stopped k epoch servers top round past near fits q le))
        (subst (λ (o : Option (Work m)). Comes' s c f (layout_id i) rid (IsLatest q) (given m c (feed m c o (layout_id i) rid (IsLatest q)))) (sym f.waits) (latest_case i rid q _ refl le))
