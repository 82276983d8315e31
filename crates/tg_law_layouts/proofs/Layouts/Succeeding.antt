-- Over all worlds, each decided layout but the first is made of a decided one, after its units were sealed.
use Rattle.std.proofs.Common.{◌≡◌, ◌⊎◌, ℕ, ◌^◌, ◌<◌, List, [], ◌∷◌, ◌++◌, length, map, true, false, ◌&&◌, refl, sym, ap, ◌∙◌, subst, inl, inr, arith, Some, None, Option}
use Rattle.std.specs.Prelude.{◌==◌}
use Rattle.tg_base.specs.Layouts.{Layout}
use Rattle.tg_base.specs.Changes.{Changed, IsChange}
use Rattle.tg_base.specs.declared.change.Join.{Join}
use Rattle.tg_base.specs.Clusters.{Header}
use Rattle.tg_base.specs.declared.ids.Ballot.{Ballot}
use Rattle.tg_base.specs.declared.ids.NodeId.{NodeId}
use Rattle.tg_base.specs.declared.msg.Msg.{Msg}
use Rattle.tg_base.specs.declared.msg.Msg.TheVariants as msg
use Rattle.tg_base.specs.declared.packet.Out.{Out}
use Rattle.tg_base.specs.declared.packet.Packet.{Packet}
use Rattle.tg_kind.specs.Meaning.{Meaning}
use Rattle.tg_model.specs.Kinds.{CommandOf}
use Rattle.tg_model.specs.declared.command.Command.TheVariants as cmd
use Rattle.tg_base.specs.Orders.{node_eq}
use Rattle.tg_protocol.specs.Words.{unit_id, layout_id, seqr_id, client_id, numbers}
use Rattle.tg_protocol.specs.Layouts.{first_layout, change_fault}
use Rattle.tg_protocol.specs.LayoutServers.{layout_step}
use Rattle.tg_protocol.specs.Requests.{out, Waits, awaits, asked_of}
use Rattle.tg_protocol.specs.Replies.{Reply, reply}
use Rattle.tg_protocol.specs.Replies as replied
use Rattle.tg_protocol.specs.Trimming.{has_stripe}
use Rattle.tg_protocol.specs.Sequencers.{SeqrTurn}
use Rattle.tg_protocol.specs.Reconfiguring.{Stage, Preparing, Accepting, Later, ReconfWork, SealingSpare, LookingSpare, Sealing, LookingAgain, Agreeing, Telling, Starting, Reconf, next_epoch, ballot_of, join_asks, stage_asks, set_asks, later_asks, reconf_work_asks}
use Rattle.tg_protocol.specs.Clients.{Task, Reconfiguring, Hand, Doing, Work, Client, new_client, refusal, tests}
use Rattle.tg_protocol.specs.ClientSteps.{task_awaited, task_in, ClientTurn, client_command, client_deliver, client_tick}
use Rattle.tg_protocol.specs.ClientSteps as step
use Rattle.tg_protocol.specs.Worlds.{start, packet_of, answer_to}
use Rattle.tg_law_layouts.proofs.Moves.Members.{Has, has_left, has_either, has_map, found}
use Rattle.tg_law_layouts.specs.Moves.Configs.{Config, config, client_in, layout_in}
use Rattle.tg_law_layouts.specs.Moves.Telling.{is_request}
use Rattle.tg_law_layouts.proofs.Moves.Lists.{at_set, at_map}
use Rattle.tg_law_layouts.proofs.Moves.Units.{says_answer}
use Rattle.tg_law_layouts.proofs.Moves.Moves.{Cases, CasesOf, Keeps, client_turn, SeqrInput, ClientInput, Commanded, Hears', Ticks', Given, AllGive, both_keep, above_of, run_keeps_with}
use Rattle.tg_law_layouts.proofs.Requests.Answered.{turn_on}
use Rattle.tg_law_layouts.proofs.Requests.Starts.{All, all_keeps, start_all}
use Rattle.tg_law_layouts.proofs.Moves.Clients.{reserved, hand_reserved, work_reserved}
use Rattle.tg_law_layouts.proofs.Moves.Reconfs.{join_plain}
use Rattle.tg_law_layouts.proofs.Moves.Turns.{not_busy}
use Rattle.tg_law_layouts.proofs.Requests.Numbers.{seqr_input_draws, layout_answer}
use Rattle.tg_law_layouts.proofs.Layouts.Plain.{NoAccepts, none_plain, one_plain, all_plain, both_plain, job_plain}
use Rattle.tg_law_layouts.proofs.Layouts.Pax.{reconf_of, task_reconf}
use Rattle.tg_law_layouts.proofs.Layouts.Decisions.{Pax, input_fine}
use Rattle.tg_law_layouts.proofs.Layouts.Layouts.{start_pax, has_header}
use Rattle.tg_law_steps.proofs.Machines.Awaited.{awaited_either, awaited_asked, stage_awaited}
use Rattle.tg_law_layouts.proofs.Layouts.Standing.{IsKnown, known_grows}
use Rattle.tg_law_layouts.proofs.Layouts.Decided.{Lay, start_lay, keeps as lay_keeps}
use Rattle.tg_law_layouts.proofs.Layouts.Successions.{Good, Sealed, own_of, WorkGood, StageGood, SealTold, IsLooked, PromiseTold, Promises, ReconfGood, HearsSeal, delivered_good, commanded_good}
use Rattle.tg_protocol.specs.Runs.{Moves, LawfulCommand}
use Rattle.tg_law_layouts.specs.Moves.After.{after}

-- Small facts.

unit_more : (x : Msg) (w : ℕ × ℕ) (ws : Waits) (from : NodeId) (rid : ℕ) → (awaits (asked_of unit_id x ws) from rid ≡ true → from ≡ unit_id from.num) → awaits (asked_of unit_id x (w ∷ ws)) from rid ≡ true → from ≡ unit_id from.num
unfolding node_eq
unit_more x w ws from rid rest h = grind arith

asked_unit : (x : Msg) (ws : Waits) (from : NodeId) (rid : ℕ) → awaits (asked_of unit_id x ws) from rid ≡ true → from ≡ unit_id from.num
asked_unit x [] from rid h = absurd (cc)
asked_unit x (w ∷ ws) from rid h = unit_more x w ws from rid (asked_unit x ws from rid) h

none_awaited : (from : NodeId) (rid : ℕ) → awaits [] from rid ≡ true → ⊥
none_awaited from rid h = cc

sealed_is : (x : Msg) (e h : ℕ) → reply x ≡ replied.IsSealed e h → x ≡ msg.Sealed e h
unfolding reply
sealed_is x e h i = grind arith

seal_near : (x : Msg) (e h : ℕ) → reply x ≡ replied.IsSealed e h → h < 2 ^ 62
unfolding reply
seal_near x e h i = grind arith

promise_is : (x : Msg) (e : ℕ) (b : Ballot) (a : Option (Ballot × Layout)) → reply x ≡ replied.IsPromise e b a → x ≡ msg.Promise e b a
unfolding reply
promise_is x e b a i = grind arith

not_both : (x : Msg) (e : ℕ) (b : Ballot) (q : Layout) → x ≡ msg.Accept e b q → is_request x ≡ false → ⊥
unfolding is_request
not_both x e b q i j = cc

accept_asks : (x : Msg) (e : ℕ) (b : Ballot) (q : Layout) → x ≡ msg.Accept e b q → is_request x ≡ true
unfolding is_request
accept_asks x e b q i = cc

unit_num : (u n rid : ℕ) (from : NodeId) → (node_eq (unit_id u) from && (n == rid)) ≡ true → u ≡ from.num
unfolding node_eq
unit_num u n rid from h = grind arith

unit_from : (u n rid : ℕ) (from : NodeId) → (node_eq (unit_id u) from && (n == rid)) ≡ true → from ≡ unit_id u
unfolding node_eq
unit_from u n rid from h = grind arith

unit_rid : (u n rid : ℕ) (from : NodeId) → (node_eq (unit_id u) from && (n == rid)) ≡ true → n ≡ rid
unit_rid u n rid from h = grind arith

-- the wait of the unit that has answered
wait_of : (x : Msg) (ws : Waits) (from : NodeId) (rid : ℕ) → awaits (asked_of unit_id x ws) from rid ≡ true → (r : ℕ) × Has ws (from.num, r)
wait_of x ws from rid h =
    let p = found (λ (o : Out). node_eq o.to from && (o.rid == rid)) (asked_of unit_id x ws) h in
    let i = has_map (λ (w : ℕ × ℕ). Rattle.tg_protocol.specs.Requests.out (unit_id w.0) w.1 x) ws p.it p.has in
    let e = unit_num i.of.0 i.of.1 rid from (subst (λ (o : Out). (node_eq o.to from && (o.rid == rid)) ≡ true) i.is p.passes) in
    (i.of.1, subst (λ (n : ℕ). Has ws (n, i.of.1)) e i.has)

whole_is : (x : Msg) → reply x ≡ replied.IsWhole → x ≡ msg.Whole
unfolding reply
whole_is x i = grind arith

one_awaited : (o : Out) (from : NodeId) (rid : ℕ) → awaits (o ∷ []) from rid ≡ true → (node_eq o.to from && (o.rid == rid)) ≡ true
one_awaited o from rid h = grind arith

lawful_change : (m : Meaning) (x : CommandOf m) → LawfulCommand m x → (y : Changed) → x ≡ cmd.Reconf y → IsChange y
lawful_change m x q y e = subst (λ (z : CommandOf m). LawfulCommand m z) e q

module _ (m : Meaning) (h : Header) (final : List Packet) (X : Layout → Type 0) (Ahead : Config m → Type 0) where
  abbrev K : Layout → Type 0
  K = IsKnown h.layouts (first_layout h) final

  -- what a reconfiguration awaits proposes good layouts

  all_good : (name : ℕ → NodeId) (x : Msg) (ws : Waits) (q : Layout) (e : ℕ) (b : Ballot) (o : Out) → ((y : Layout) → x ≡ msg.Accept e b y → Good final K X y) → Has (asked_of name x ws) o → o.msg ≡ msg.Accept e b q → Good final K X q
  all_good name x ws q e b o f g is = let i = has_map (λ (w : ℕ × ℕ). Rattle.tg_protocol.specs.Requests.out (name w.0) w.1 x) ws o g in f q (sym (ap (λ (y : Out). y.msg) i.is) ∙ is)

  stage_good : (r : Reconf) (round : ℕ) (s : Stage) (o : Out) (e : ℕ) (b : Ballot) (q : Layout) → StageGood final K X s → Has (stage_asks r round s) o → o.msg ≡ msg.Accept e b q → Good final K X q
  stage_good r round (Preparing ws hs) o e b q g has is = all_good layout_id (msg.Prepare (next_epoch r) (ballot_of r round)) ws q e b o (λ y i. absurd (cc)) has is
  stage_good r round (Accepting ws n y) o e b q g has is = all_good layout_id (msg.Accept (next_epoch r) (ballot_of r round) y) ws q e b o (λ z i. subst (λ (v : Layout). Good final K X v) (same (next_epoch r) e (ballot_of r round) b y z i) g) has is
    where
      same : (d e : ℕ) (a b : Ballot) (y z : Layout) → msg.Accept d a y ≡ msg.Accept e b z → y ≡ z
      same d e a b y z i = cc

  set_plain : (r : Reconf) (l : Option Later) → NoAccepts (set_asks r l)
  set_plain r None = none_plain
  set_plain r (Some l) = all_plain layout_id _ l.waits (λ e b q i. cc)

  work_good : (r : Reconf) (w : ReconfWork) (o : Out) (e : ℕ) (b : Ballot) (q : Layout) → WorkGood final K X r w → Has (reconf_work_asks r w ++ later_asks r w) o → o.msg ≡ msg.Accept e b q → Good final K X q
  unfolding reconf_work_asks
  work_good r (Agreeing v) o e b q g has is = by (has_either (stage_asks r v.round v.stage) (set_asks r v.later) o has)
    where
      by : Has (stage_asks r v.round v.stage) o ⊎ Has (set_asks r v.later) o → Good final K X q
      by (inl x) = stage_good r v.round v.stage o e b q g.1 x is
      by (inr x) = absurd (set_plain r v.later o e b q x is)
  work_good r (SealingSpare n) o e b q g has is = absurd (both_plain _ [] (join_plain NoAccepts r.change.join _ none_plain (λ j. one_plain _ n (msg.Seal r.stand.epoch) (λ e b q i. cc))) none_plain o e b q has is)
  work_good r (LookingSpare n) o e b q g has is = absurd (both_plain _ [] (join_plain NoAccepts r.change.join _ none_plain (λ j. one_plain _ n (has_stripe r.stand.epoch r.stand j.range j.stripe) (λ e b q i. cc))) none_plain o e b q has is)
  work_good r (Sealing ws acks) o e b q g has is = absurd (both_plain _ [] (all_plain unit_id (msg.Seal (next_epoch r)) ws (λ e b q i. cc)) none_plain o e b q has is)
  work_good r (LookingAgain n acks) o e b q g has is = absurd (both_plain _ [] (join_plain NoAccepts r.change.join _ none_plain (λ j. one_plain _ n (has_stripe (next_epoch r) r.stand j.range j.stripe) (λ e b q i. cc))) none_plain o e b q has is)
  work_good r (Telling ws n y) o e b q g has is = absurd (both_plain _ [] (all_plain layout_id (msg.Decided y) ws (λ e b q i. cc)) none_plain o e b q has is)
  work_good r (Starting n) o e b q g has is = absurd (one_plain (seqr_id r.stand.seq) n (msg.Learn r.stand) (λ e b q i. cc) o e b q has is)

  -- Over a run.

  pub record Succ (c : Config m) : Type 0 where
    pub hands : (k : ℕ) → ReconfGood m final K X (reconf_of m (client_in m c k).work)
    pub sent : (x : Packet) (e : ℕ) (b : Ballot) (q : Layout) → Has c.packets x → x.msg ≡ msg.Accept e b q → Good final K X q

  pub record Early (c : Config m) : Type 0 where
    pub cluster : c.cluster ≡ h
    pub sent : (x : Packet) → Has c.packets x → Has final x
    pub ahead : Ahead c

  pub record Kept (c : Config m) : Type 0 where
    pub succ : Early c → Succ c

  abbrev Low : Config m → Type 0
  Low c = (Pax m c × Lay m c) × All m c

  -- others send no proposals
  quiet : (c d : Config m) (new : List Packet) → (Ahead d → Ahead c) → Kept c → d.packets ≡ c.packets ++ new → d.clients ≡ c.clients → d.cluster ≡ c.cluster → ((x : Packet) (e : ℕ) (b : Ballot) (q : Layout) → Has new x → x.msg ≡ msg.Accept e b q → ⊥) → Kept d
  quiet c d new back k i j g none = record { succ = λ a. both (k.succ (record { cluster = sym g ∙ a.cluster; sent = λ x y. a.sent x (subst (λ ps. Has ps x) (sym i) (has_left c.packets new x y)); ahead = back a.ahead })) }
    where
      both : Succ c → Succ d
      both s = record {
        hands = λ n. subst (λ (v : Config m). ReconfGood m final K X (reconf_of m (client_in m v n).work)) (λ t. record { cluster = sym g t; units = d.units; layouts = d.layouts; seqrs = d.seqrs; clients = sym j t; packets = d.packets }) (s.hands n);
        sent = λ x e b q y is. by x e b q is (has_either c.packets new x (subst (λ ps. Has ps x) i y));
      }
        where
          by : (x : Packet) (e : ℕ) (b : Ballot) (q : Layout) → x.msg ≡ msg.Accept e b q → Has c.packets x ⊎ Has new x → Good final K X q
          by x e b q is (inl y) = s.sent x e b q y is
          by x e b q is (inr y) = absurd (none x e b q y is)

  answers_none : (p : Packet) (o : Option Msg) → ((y : Msg) → o ≡ Some y → is_request y ≡ false) → (x : Packet) (e : ℕ) (b : Ballot) (q : Layout) → Has (answer_to m p o) x → x.msg ≡ msg.Accept e b q → ⊥
  answers_none p None f x e b q g is = g
  answers_none p (Some y) f x e b q (inl i) is = not_both y e b q (sym (ap (λ (z : Packet). z.msg) i) ∙ is) (f y refl)
  answers_none p (Some y) f x e b q (inr g) is = g

  -- A client's turn.

  -- what a proposal of a client is ready for, at a world of the run
  abbrev pub ReadyAt : Config m → Type 0
  ReadyAt c = (k : ℕ) (r : Reconf) (acks : List (ℕ × ℕ)) → reconf_of m (client_in m c k).work ≡ Some r → Sealed final K X r [] acks → IsLooked c.packets K X r → X (own_of final K X r acks)

  module _ (c : Config m) (low : Low c) (a : Early c) (s : Succ c) (ready : ReadyAt c) where
    known : (q : Layout) → IsKnown c.cluster.layouts (first_layout c.cluster) c.packets q → K q
    known q k = known_grows h.layouts (first_layout h) c.packets final a.sent q (subst (λ (x : Header). IsKnown x.layouts (first_layout x) c.packets q) a.cluster k)

    promised : (x : Packet) → Has c.packets x → x.from ≡ layout_id x.from.num → (y : Reply) → reply x.msg ≡ y → Promises final K X y
    promised x g from (replied.IsPromise e b (Some z)) i =
        let t = (low.0.0.truth e).told x.from.num b z (record { packet = x; sent = g; from = from; is = promise_is x.msg e b (Some z) i }) in
        s.sent t.0.packet e z.0 z.1 t.0.sent t.0.is
    promised x g from y i = tt

    -- where no unit joins there is nothing to look at
    none_looked : (r : Reconf) → r.change.join ≡ None → IsLooked c.packets K X r
    none_looked r e j f = absurd (no (sym e ∙ f))
      where
        no : None ≡ Some j → ⊥
        no i = cc

    sealed : (k : ℕ) (r : Reconf) → reconf_of m (client_in m c k).work ≡ Some r → (x : Packet) → Has c.packets x → x.from ≡ unit_id x.from.num → (ws : Waits) (acks : List (ℕ × ℕ)) → (n : ℕ) × Has ws (x.from.num, n) → (y : Reply) → reply x.msg ≡ y → SealTold final K X r (Sealing ws acks) x.from.num y
    sealed k r hand x g from ws acks w (replied.IsSealed e high) i = ((record { answer = x; answered = a.sent x g; from_unit = from; is = sealed_is x.msg e high i }, seal_near x.msg e high i, w), (λ j bs y l. ready k r bs hand y (none_looked r j)))
    sealed k r hand x g from ws acks w y i = tt

    -- an answer to the last look
    looked : (k : ℕ) (r : Reconf) (n : ℕ) (x : Packet) → Has c.packets x → x.to ≡ client_id k → (later : List Out)
        → ((o : Out) → Has (join_asks r.change.join (λ j. out (unit_id j.unit) n (has_stripe (next_epoch r) r.stand j.range j.stripe) ∷ []) ++ later) o → Has (reserved m (client_in m c k)) o)
        → awaits (join_asks r.change.join (λ j. out (unit_id j.unit) n (has_stripe (next_epoch r) r.stand j.range j.stripe) ∷ [])) x.from x.rid ≡ true → x.msg ≡ msg.Whole → IsLooked c.packets K X r
    looked k r n x g to later open' i whole j e =
        let f : Join → List Out = λ z. out (unit_id z.unit) n (has_stripe (next_epoch r) r.stand z.range z.stripe) ∷ [] in
        let o = out (unit_id j.unit) n (has_stripe (next_epoch r) r.stand j.range j.stripe) in
        let b = one_awaited o x.from x.rid (subst (λ (z : Option Join). awaits (join_asks z f) x.from x.rid ≡ true) e i) in
        let from = unit_from j.unit n x.rid x.from b in
        let number = unit_rid j.unit n x.rid x.from b in
        let s = low.1.0.1.answered j.unit x g from in
        let here : Has (reserved m (client_in m c k)) o = open' o (subst (λ (z : Option Join). Has (join_asks z f ++ later) o) (sym e) (inl refl)) in
        let same : o.msg ≡ s.ask.msg = (low.1.0.0.clients k).agree o s.ask here s.asked (s.from ∙ to) s.request (number ∙ sym s.rid) (sym from ∙ sym s.to) in
        record { ask = s.ask; answer = x; asked = s.asked; answered = g; to = s.to ∙ from; look = sym same; from = from; back = sym s.from; number = sym s.rid; is = whole }

    looked_later : (r : Reconf) → IsLooked c.packets K X r → IsLooked final K X r
    looked_later r l j e = let y = l j e in record { ask = y.ask; answer = y.answer; asked = a.sent y.ask y.asked; answered = a.sent y.answer y.answered; to = y.to; look = y.look; from = y.from; back = y.back; number = y.number; is = y.is }

    looked_by : (k : ℕ) (r : Reconf) → reconf_of m (client_in m c k).work ≡ Some r → (n : ℕ) (acks : List (ℕ × ℕ)) (x : Packet) → Has c.packets x → x.to ≡ client_id k → (later : List Out)
        → ((o : Out) → Has (join_asks r.change.join (λ j. out (unit_id j.unit) n (has_stripe (next_epoch r) r.stand j.range j.stripe) ∷ []) ++ later) o → Has (reserved m (client_in m c k)) o)
        → awaits (join_asks r.change.join (λ j. out (unit_id j.unit) n (has_stripe (next_epoch r) r.stand j.range j.stripe) ∷ [])) x.from x.rid ≡ true → (y : Reply) → reply x.msg ≡ y → SealTold final K X r (LookingAgain n acks) x.from.num y
    looked_by k r hand n acks x g to later open' i replied.IsWhole e = let l = looked k r n x g to later open' i (whole_is x.msg e) in (looked_later r l, (λ bs y z. ready k r bs hand y l))
    looked_by k r hand n acks x g to later open' i y e = tt

    hears_work : (k : ℕ) (r : Reconf) → reconf_of m (client_in m c k).work ≡ Some r → (w : ReconfWork) (x : Packet) → Has c.packets x → x.to ≡ client_id k → ((o : Out) → Has (reconf_work_asks r w ++ later_asks r w) o → Has (reserved m (client_in m c k)) o)
        → awaits (reconf_work_asks r w ++ later_asks r w) x.from x.rid ≡ true → SealTold final K X r w x.from.num (reply x.msg) × PromiseTold final K X w (reply x.msg)
    unfolding reconf_work_asks
    hears_work k r hand (Sealing ws acks) x g to open' i = by (awaited_either (asked_of unit_id (msg.Seal (next_epoch r)) ws) [] x.from x.rid i)
      where
        by : (awaits (asked_of unit_id (msg.Seal (next_epoch r)) ws) x.from x.rid ≡ true) ⊎ (awaits [] x.from x.rid ≡ true) → SealTold final K X r (Sealing ws acks) x.from.num (reply x.msg) × PromiseTold final K X (Sealing ws acks) (reply x.msg)
        by (inl j) = (sealed k r hand x g (asked_unit _ ws x.from x.rid j) ws acks (wait_of _ ws x.from x.rid j) (reply x.msg) refl, tt)
        by (inr j) = absurd (none_awaited x.from x.rid j)
    hears_work k r hand (Agreeing v) x g to open' i = (tt, promised x g (by (awaited_either (stage_asks r v.round v.stage) (set_asks r v.later) x.from x.rid i)) (reply x.msg) refl)
      where
        set_server : (l : Option Later) → awaits (set_asks r l) x.from x.rid ≡ true → x.from ≡ layout_id x.from.num
        set_server None j = absurd (none_awaited x.from x.rid j)
        set_server (Some l) j = (awaited_asked _ l.waits x.from x.rid j).server

        by : (awaits (stage_asks r v.round v.stage) x.from x.rid ≡ true) ⊎ (awaits (set_asks r v.later) x.from x.rid ≡ true) → x.from ≡ layout_id x.from.num
        by (inl j) = (stage_awaited r v.round v.stage x.from x.rid j).server
        by (inr j) = set_server v.later j
    hears_work k r hand (LookingAgain n acks) x g to open' i = by (awaited_either (join_asks r.change.join (λ j. out (unit_id j.unit) n (has_stripe (next_epoch r) r.stand j.range j.stripe) ∷ [])) [] x.from x.rid i)
      where
        by : (awaits (join_asks r.change.join (λ j. out (unit_id j.unit) n (has_stripe (next_epoch r) r.stand j.range j.stripe) ∷ [])) x.from x.rid ≡ true) ⊎ (awaits [] x.from x.rid ≡ true)
            → SealTold final K X r (LookingAgain n acks) x.from.num (reply x.msg) × PromiseTold final K X (LookingAgain n acks) (reply x.msg)
        by (inl j) = (looked_by k r hand n acks x g to [] open' j (reply x.msg) refl, tt)
        by (inr j) = absurd (none_awaited x.from x.rid j)
    hears_work k r hand (SealingSpare n) x g to open' i = (tt, tt)
    hears_work k r hand (LookingSpare n) x g to open' i = (tt, tt)
    hears_work k r hand (Telling ws n q) x g to open' i = (tt, tt)
    hears_work k r hand (Starting n) x g to open' i = (tt, tt)

    hears_task : (k : ℕ) (p : Layout) (t : Task m) → reconf_of m (client_in m c k).work ≡ task_reconf m t → (x : Packet) → Has c.packets x → x.to ≡ client_id k → ((o : Out) → Has (task_awaited m p t) o → Has (reserved m (client_in m c k)) o)
        → awaits (task_awaited m p t) x.from x.rid ≡ true → HearsSeal m final K X (task_reconf m t) x.from.num (reply x.msg)
    hears_task k p (Reconfiguring r) hand x g to open' i = hears_work k r hand r.work x g to open' i
    hears_task k p t hand x g to open' i = tt

    -- what the client in hand awaits is among what it may take an answer to
    awaited_here : (v : Client m) (w : Work m) (t : Task m) → v.work ≡ Some w → w.hand ≡ Doing t → (o : Out) → Has (task_awaited m v.stand t) o → Has (reserved m v) o
    awaited_here v w t i j o g = subst (λ (z : Option (Work m)). Has (work_reserved m v.stand z) o) (sym i) (subst (λ (d : Hand m). Has (hand_reserved m v.stand d) o) (sym j) g)

    no_fault : (v : Client m) (x : CommandOf m) → refusal m v x ≡ None → (y : Changed) → x ≡ cmd.Reconf y → change_fault v.stand y ≡ None
    unfolding refusal tests
    no_fault v x i y e = grind arith

    tick_good : (v : Client m) (w : Option (Work m)) → ReconfGood m final K X (reconf_of m v.work) → v.work ≡ w → ReconfGood m final K X (reconf_of m (step.tick_by m v w).now.work)
    tick_good v None k e = k
    tick_good v (Some w) k e = k

    input_good : (k : ℕ) (t : ClientTurn m) → (i : ClientInput m c k t) → Given m (LawfulCommand m) c k t i → ReconfGood m final K X (reconf_of m t.now.work)
    unfolding client_command client_deliver client_tick
    input_good k t (Commanded x) q = (commanded_good m final K X (client_in m c k) x (refusal m (client_in m c k) x) (not_busy m (client_in m c k) x) (λ f y e. (no_fault (client_in m c k) x f y e, lawful_change m x q y e)) (known _ (low.0.1.clients k).stand) (s.hands k)).hand
    input_good k t (Hears' x comes) q = (delivered_good m final K X x (client_in m c k) (client_in m c k).work refl (s.hands k) (λ w t i j o. hears_task k (client_in m c k).stand t (ap (λ (z : Option (Work m)). reconf_of m z) i ∙ ap (λ (d : Hand m). task_reconf m (task_in m d)) j) x comes.sent comes.to_node (awaited_here (client_in m c k) w t i j) o)).hand
    input_good k t Ticks' q = tick_good (client_in m c k) (client_in m c k).work (s.hands k) refl

    turned : (k : ℕ) (t : ClientTurn m) → (i : ClientInput m c k t) → Given m (LawfulCommand m) c k t i → k < length c.clients → Succ (client_turn m c k t)
    turned k t i q less = record {
      hands = at_set c.clients k t.now (new_client m c.cluster) (λ j x. ReconfGood m final K X (reconf_of m x.work)) less (input_good k t i q) (λ j other. s.hands j);
      sent = λ x e b q g is. by x e b q is (has_either c.packets (map (packet_of m (client_id k)) t.sends) x g);
    }
      where
        fresh : (o : Out) (e : ℕ) (b : Ballot) (q : Layout) → Has t.sends o → o.msg ≡ msg.Accept e b q → Good final K X q
        fresh o e b l g is =
            let p = (input_fine m c low.0.0 k t i).sends o e b l g is in
            work_good p.reconf p.reconf.work o e b l (subst (λ (v : Option Reconf). ReconfGood m final K X v) p.hand (input_good k t i q)) p.has is

        by : (x : Packet) (e : ℕ) (b : Ballot) (q : Layout) → x.msg ≡ msg.Accept e b q → Has c.packets x ⊎ Has (map (packet_of m (client_id k)) t.sends) x → Good final K X q
        by x e b q is (inl g) = s.sent x e b q g is
        by x e b q is (inr g) = let y = has_map (packet_of m (client_id k)) t.sends x g in fresh y.of e b q y.has (sym (ap (λ (z : Packet). z.msg) y.is) ∙ is)

  seqr_none : (c : Config m) (n : ℕ) (t : SeqrTurn) → SeqrInput m c n t → (x : Packet) (e : ℕ) (b : Ballot) (q : Layout) → Has (map (packet_of m (seqr_id n)) t.sends) x → x.msg ≡ msg.Accept e b q → ⊥
  seqr_none c n t i x e b q g is =
      let y = has_map (packet_of m (seqr_id n)) t.sends x g in
      let said = sym (ap (λ (z : Packet). z.msg) y.is) ∙ is in
      job_plain t.now.scan y.of e b q ((seqr_input_draws m c _ t i).sent y.of y.has (accept_asks y.of.msg e b q said)) said

  start_reconf : (g : Header) (k : ℕ) → ReconfGood m final K X (reconf_of m (new_client m g k).work)
  unfolding new_client
  start_reconf g k = tt

  start_kept : (g : Header) → Kept (config m (start m g))
  unfolding start
  start_kept g = record {
    succ = λ a. record {
      hands = λ k. at_map (new_client m g) (numbers g.clients 0) k (new_client m g k) (λ (x : Client m). ReconfGood m final K X (reconf_of m x.work)) (λ j. start_reconf g j) (start_reconf g k);
      sent = λ x e b q g. absurd g;
    };
  }

  pub low_keeps : Keeps m Low
  low_keeps = both_keep m (λ c. Pax m c × Lay m c) (All m) (lay_keeps m) (all_keeps m)

  -- over facts of which these are a part, and which give what a proposal is ready for
  module _ (Below : Config m → Type 0) (low_of : (c : Config m) → Below c → Low c) (below_keeps : Keeps m Below) (start_below : (g : Header) → Below (config m (start m g)))
      (R : Config m → Type 0) (reached : (ys : Moves m) → AllGive m (LawfulCommand m) ys → R (config m (after m h ys)))
      (back : (c : Config m) → Below c → Cases m c (λ d. Below d → Ahead d → Ahead c)) (ready : (c : Config m) → R c → Below c → Early c → Succ c → ReadyAt c) where
    kept_keep : (c : Config m) → R c → Below c → Kept c → CasesOf m (LawfulCommand m) c (λ d. Below d → Kept d)
    kept_keep c z b k = record {
      idle = λ y. k;
      unit = λ u p a less y. quiet c _ (answer_to m p (turn_on m c u p).says) ((back c b).unit u p a less y) k refl refl refl (answers_none p _ (λ z e. says_answer _ p.msg z e));
      layout = λ l p a less y. quiet c _ (answer_to m p (layout_step (layout_in m c l) p.msg).says) ((back c b).layout l p a less y) k refl refl refl (answers_none p _ (λ z e. layout_answer _ p.msg z e));
      seqr = λ n t i less y. quiet c _ (map (packet_of m (seqr_id n)) t.sends) ((back c b).seqr n t i less y) k refl refl refl (seqr_none c n t i);
      client = λ n t i q less y. record {
        succ = λ a.
            let e : Early c = record { cluster = a.cluster; sent = λ x g. a.sent x (has_left c.packets _ x g); ahead = (back c b).client n t i less y a.ahead } in
            turned c (low_of c b) e (k.succ e) (ready c z b e (k.succ e)) n t i q less;
      };
    }

    pub succ_holds : (xs : Moves m) → AllGive m (LawfulCommand m) xs → Early (config m (after m h xs)) → Succ (config m (after m h xs))
    succ_holds xs q a = (run_keeps_with m (LawfulCommand m) (λ c. Below c × Kept c) R (λ c z b. above_of m (LawfulCommand m) Below Kept c b.0 b.1 (below_keeps c b.0) (kept_keep c z b.0 b.1)) xs (start m h) reached q (start_below h, start_kept h)).1.succ a

-- with nothing besides

abbrev pub Any : Layout → Type 0
Any q = Unit {0}

module _ (m : Meaning) where
  abbrev Anywhere : Config m → Type 0
  Anywhere c = Unit {0}

  back_any : (h : Header) (ps : List Packet) (c : Config m) → Low m h ps Any Anywhere c → Cases m c (λ d. Low m h ps Any Anywhere d → Anywhere d → Anywhere c)
  back_any h ps c b = record { idle = λ x y. tt; unit = λ u p a less x y. tt; layout = λ l p a less x y. tt; seqr = λ n t i less x y. tt; client = λ n t i less x y. tt }

  -- each decided layout but the first is good
  pub good_or_first : (h : Header) (xs : Moves m) → AllGive m (LawfulCommand m) xs → (q : Layout) → IsKnown h.layouts (first_layout h) (after m h xs).packets q
      → (q ≡ first_layout h) ⊎ Good (after m h xs).packets (IsKnown h.layouts (first_layout h) (after m h xs).packets) Any q
  good_or_first h xs g q (inl e) = inl e
  good_or_first h xs g q (inr w) = inr ((succ_holds m h (after m h xs).packets Any Anywhere (λ c. (Pax m c × Lay m c) × All m c) (λ c b. b) (low_keeps m h (after m h xs).packets Any Anywhere) (λ k. ((start_pax m k, start_lay m k), start_all m k)) Anywhere (λ ys z. tt)
      (back_any h (after m h xs).packets) (λ c z b a s k r acks hand x l. tt) xs g (record { cluster = has_header m h xs; sent = λ x i. i; ahead = tt })).sent w.proposed.packet q.epoch w.ballot q w.proposed.sent w.proposed.is)
