-- A client's own layout is of its change: along a run, what a client proposes of its own comes of the reconfiguration in hand.
use Rattle.std.proofs.Common.{◌≡◌, ◌⊎◌, ℕ, ◌+◌, ◌<◌, ◌≤◌, List, [], ◌∷◌, ◌++◌, length, map, true, false, refl, sym, ap, ◌∙◌, subst, inl, inr, arith, Some, None, Option}
use Rattle.std.specs.Prelude.{◌==◌, ⊤}
use Rattle.tg_base.specs.Layouts.{Layout}
use Rattle.tg_base.specs.Clusters.{Header}
use Rattle.tg_base.specs.declared.change.Join.{Join}
use Rattle.tg_base.specs.declared.ids.Ballot.{Ballot}
use Rattle.tg_base.specs.declared.ids.NodeId.{NodeId}
use Rattle.tg_base.specs.declared.msg.Msg.{Msg}
use Rattle.tg_base.specs.declared.msg.Msg.TheVariants as msg
use Rattle.tg_base.specs.declared.packet.Packet.{Packet}
use Rattle.tg_kind.specs.Meaning.{Meaning}
use Rattle.tg_model.specs.Kinds.{CommandOf}
use Rattle.tg_model.specs.declared.refusal.Refusal.{Refusal}
use Rattle.tg_model.specs.declared.command.Command.TheVariants as cmd
use Rattle.tg_protocol.specs.Words.{layout_id, seqr_id, client_id, numbers}
use Rattle.tg_protocol.specs.Layouts.{first_layout, units_of, next_of, next_units}
use Rattle.tg_protocol.specs.Requests.{awaits, Next, Goes, Learns, Ends}
use Rattle.tg_protocol.specs.Replies.{Reply, IsPromise, reply}
use Rattle.tg_protocol.specs.LayoutServers.{layout_step}
use Rattle.tg_protocol.specs.Sequencers.{SeqrTurn}
use Rattle.tg_protocol.specs.Reconfiguring.{Before, Stage, Preparing, Accepting, Later, Voting, ReconfWork, SealingSpare, LookingSpare, Sealing, LookingAgain, Agreeing, Telling, Starting, Reconf, ReconfEnd, Installed, Overtaken, NotWhole, ReconfTurn, greatest, value_or, stage_asks, set_asks, later_asks, reconf_work_asks, first_step, reconf_start, reconf_feed, reconf_latest}
use Rattle.tg_protocol.specs.Clients.{Task, Reconfiguring, Hand, Work, Client, new_client, refusal}
use Rattle.tg_protocol.specs.Answers.{Moved}
use Rattle.tg_protocol.specs.ClientSteps.{ClientTurn, task_in, task_awaited, stands, accepts, new_work, refused_or, reconf_to, on_reconf, after_turn, client_command, client_deliver, client_tick}
use Rattle.tg_protocol.specs.ClientSteps as step
use Rattle.tg_protocol.specs.Worlds.{start, packet_of, answer_to}
use Rattle.tg_protocol.specs.Runs.{Moves}
use Rattle.tg_law_layouts.specs.Moves.After.{after}
use Rattle.tg_law_layouts.specs.Moves.Configs.{Config, config, client_in, layout_in}
use Rattle.tg_law_layouts.specs.Moves.Telling.{is_request}
use Rattle.tg_law_layouts.proofs.Agreement.Ballots.{top_there}
use Rattle.tg_law_layouts.proofs.Agreement.Facts.{Proposed, proposed_grows}
use Rattle.tg_law_layouts.proofs.Agreement.Proposers.{WorkProposes, awaited_proposes}
use Rattle.tg_law_layouts.proofs.Agreement.Votes.{NewProposal, proposed_either}
use Rattle.tg_law_layouts.proofs.Layouts.Pax.{task_reconf, reconf_of, calm_none, Silent, WorkerOk, HandOk, TurnFine}
use Rattle.tg_law_layouts.proofs.Layouts.Phases.{told_epoch}
use Rattle.tg_law_layouts.proofs.Layouts.Plain.{WorkCalm, Fed, Heard, accepts_plain, delivered_plain, job_plain}
use Rattle.tg_law_layouts.proofs.Layouts.Decisions.{Pax, input_fine}
use Rattle.tg_law_layouts.proofs.Layouts.Layouts.{start_pax}
use Rattle.tg_law_layouts.proofs.Layouts.Standing.{IsKnown, known_grows}
use Rattle.tg_law_reconfs.proofs.NextUnits.{next_same}
use Rattle.tg_base.specs.Changes.{Changed}
use Rattle.tg_law_layouts.proofs.Layouts.Tellings.{WorkKnown}
use Rattle.tg_law_layouts.proofs.Layouts.Known.{ReconfKnown}
use Rattle.tg_law_layouts.proofs.Layouts.Decided.{Lay, start_lay, keeps as lay_keeps}
use Rattle.tg_law_layouts.proofs.Moves.Lists.{at_set, at_map}
use Rattle.tg_law_layouts.proofs.Moves.Members.{Has, has_left, has_map}
use Rattle.tg_law_layouts.proofs.Moves.Moves.{Cases, ClientInput, Commanded, Hears', Ticks', SeqrInput, client_turn, keeps_above, run_keeps}
use Rattle.tg_law_layouts.proofs.Moves.Turns.{not_busy}
use Rattle.tg_law_layouts.proofs.Moves.Units.{says_answer}
use Rattle.tg_law_layouts.proofs.Requests.Answered.{turn_on}
use Rattle.tg_law_layouts.proofs.Requests.Numbers.{layout_answer, seqr_input_draws}
use Rattle.tg_law_steps.proofs.Machines.Awaited.{awaited_either, awaited_asked, stage_awaited}
use Rattle.tg_law_steps.proofs.Machines.Reconfs as turns

-- Among these packets.
module _ (ps : List Packet) where
  -- a layout was proposed
  abbrev pub Was : Layout → Type 0
  Was q = (e : ℕ) × (b : Ballot) × Proposed e ps b q

  -- and the client whose it is proposed it
  pub record Origin (q : Layout) : Type 0 where
    pub epoch : ℕ
    pub ballot : Ballot
    pub proposed : Proposed epoch ps ballot q
    pub by : ballot.client ≡ q.by

-- the change makes this layout, so far as its sequencer and its units go
abbrev pub IsOf : Layout → Changed → Layout → Type 0
IsOf p c q = (q.seq ≡ c.seq) × (units_of q ≡ next_units p c)

-- the change makes what it makes at whatever start
is_of : (p : Layout) (c : Changed) (by start : ℕ) → IsOf p c (next_of p c by start)
unfolding next_of
is_of p c by start = (refl, next_same p c by start)

-- Of client k, in a cluster of this header.
module _ (g : Header) (ps : List Packet) (k : ℕ) where
  abbrev IsOwn : Reconf → Layout → Type 0
  IsOwn r q = (q.by ≡ k) × IsOf r.stand r.change q

  -- the layout that it has adopted is what the change made of one that was decided
  pub record Comes (r : Reconf) : Type 0 where
    pub old : Layout
    pub known : IsKnown g.layouts (first_layout g) ps old
    pub before : old.epoch + 1 ≡ r.stand.epoch
    pub is : IsOf old r.change r.stand

  -- the client's own, or one that was proposed before
  abbrev pub Value : Reconf → Layout → Type 0
  Value r q = IsOwn r q ⊎ Was ps q

  abbrev StageMine : Reconf → Stage → Type 0
  StageMine r (Preparing ws hs) = (b : Ballot × Layout) → Has hs (Some b) → Was ps b.1
  StageMine r (Accepting ws n q) = Value r q

  abbrev pub WorkMine : Reconf → ReconfWork → Type 0
  WorkMine r (Agreeing v) = IsOwn r v.own × StageMine r v.stage
  WorkMine r (Starting n) = (r.stand.epoch ≤ 1) ⊎ Comes r
  WorkMine r w = ⊤

  pub record ReconfMine (r : Reconf) : Type 0 where
    -- all that it has proposed of its own past its layout is of the change
    pub seqs : (q : Layout) → Was ps q → q.by ≡ k → r.stand.epoch < q.epoch → IsOf r.stand r.change q
    pub work : WorkMine r r.work

  abbrev pub NextMine : Next Reconf ReconfEnd → Type 0
  NextMine (Goes r) = ReconfMine r
  NextMine (Learns r) = ReconfMine r
  NextMine (Ends e) = ⊤

  abbrev pub HandMine : Option Reconf → Type 0
  HandMine None = ⊤
  HandMine (Some r) = ReconfMine r

  -- what a promise tells was proposed
  abbrev pub Tells : ReconfWork → Reply → Type 0
  Tells (Agreeing v) x = (e : ℕ) (b : Ballot) (y : Ballot × Layout) → x ≡ IsPromise e b (Some y) → Was ps y.1
  Tells w x = ⊤

  -- An awaited answer.

  own_of : (r : Reconf) (start : ℕ) → r.me ≡ k → IsOwn r (next_of r.stand r.change r.me start)
  unfolding next_of
  own_of r start me = (me, is_of r.stand r.change r.me start)

  value_mine : (r : Reconf) (hs : List Before) (own : Layout) → IsOwn r own → ((b : Ballot × Layout) → Has hs (Some b) → Was ps b.1) → Value r (value_or (greatest hs) own)
  value_mine r hs own mine f = by (greatest hs) (λ y e. top_there hs y e)
    where
      by : (o : Before) → ((y : Ballot × Layout) → o ≡ Some y → Has hs (Some y)) → Value r (value_or o own)
      by None g = inl mine
      by (Some y) g = inr (f y (g y refl))

  module _ (n rid : ℕ) (x : Reply) (next : ℕ) where
    voting_mine : (r : Reconf) (v u : Voting) → turns.IsVoting n rid x next r v u → IsOwn r v.own × StageMine r v.stage → IsOwn r u.own × StageMine r u.stage
    voting_mine r v _ (turns.Present off) h = h
    voting_mine r v _ (turns.IsBegun l has i a) h = (h.0, λ b g. absurd g)

    heard_more : (v : Voting) (e : ℕ) (b : Ballot) (a : Before) (hs : List Before) → x ≡ IsPromise e b a → Tells (Agreeing v) x → ((y : Ballot × Layout) → Has hs (Some y) → Was ps y.1) → (y : Ballot × Layout) → Has (a ∷ hs) (Some y) → Was ps y.1
    heard_more v e b a hs is told f y (inl same) = told e b y (is ∙ ap (λ (o : Before). IsPromise e b o) (sym same))
    heard_more v e b a hs is told f y (inr g) = f y g

    fed_mine : (r : Reconf) (t : ReconfTurn) → turns.Fed n rid x next r t → r.me ≡ k → Tells r.work x → ReconfMine r → NextMine t.to
    fed_mine _ _ (turns.Nothing r) me told h = h
    fed_mine _ _ (turns.SpareMisses r i pos is) me told h = tt
    fed_mine _ _ (turns.AgainMisses r i acks pos is) me told h = tt
    fed_mine _ _ (turns.Starts r i t ls is f) me told h = tt
    fed_mine _ _ (turns.NextFenced r w e of is f) me told h = h
    fed_mine _ _ (turns.StartsPast r i e is f) me told h = h
    fed_mine _ _ (turns.SealsLast r ws acks e i is f none j) me told h = record { seqs = h.seqs; work = (own_of r _ me, λ b g. absurd g) }
    fed_mine _ _ (turns.AgainWhole r i acks is) me told h = record { seqs = h.seqs; work = (own_of r _ me, λ b g. absurd g) }
    fed_mine _ _ (turns.Promises r v u ws hs e b a of st is f g) me told h =
        let w = voting_mine r v u of h.work in
        record { seqs = h.seqs; work = (w.0, heard_more v e b a hs is told (subst (λ (s : Stage). StageMine r s) st w.1)) }
    fed_mine _ _ (turns.PromisesMost r v u ws hs e b a of st is f g) me told h =
        let w = voting_mine r v u of h.work in
        record { seqs = h.seqs; work = (w.0, value_mine r (a ∷ hs) u.own w.0 (heard_more v e b a hs is told (subst (λ (s : Stage). StageMine r s) st w.1))) }
    fed_mine _ _ (turns.Accepts r v u ws i q e b of st is f g) me told h =
        let w = voting_mine r v u of h.work in
        record { seqs = h.seqs; work = (w.0, subst (λ (s : Stage). StageMine r s) st w.1) }
    fed_mine _ _ (turns.Nacks r v u e b of is f g) me told h = record { seqs = h.seqs; work = voting_mine r v u of h.work }
    fed_mine _ _ (turns.NacksLow r v u e b of is f g) me told h = record { seqs = h.seqs; work = voting_mine r v u of h.work }
    fed_mine _ _ y me told h = record { seqs = h.seqs; work = tt }

  -- A newer layout. Where the one that is told is adopted, it was proposed, or is the first.
  abbrev pub Adopting : Reconf → ReconfWork → Type 0
  Adopting r (Telling ws i p) = (p.by ≡ k) → (next : ℕ) → ReconfMine (record r { stand = p; work = Starting next })
  Adopting r w = ⊤

  same_client : (a b : ℕ) → (a == b) ≡ true → a ≡ b
  same_client a b e = grind arith

  heard_mine : (n rid : ℕ) (q : Layout) (next : ℕ) (r : Reconf) (t : ReconfTurn) → turns.Heard n rid q next r t → r.me ≡ k → Adopting r r.work → ReconfMine r → NextMine t.to
  heard_mine n rid q next _ _ (turns.StartedBefore r i) me adopts h = tt
  heard_mine n rid q next _ _ (turns.Adopts r ws i p e f g) me adopts h = adopts (same_client p.by r.me g ∙ me) next
  heard_mine n rid q next _ _ (turns.TellsOther r ws i p e f g) me adopts h = tt
  heard_mine n rid q next _ _ (turns.IsOvertaken r w of e) me adopts h = tt
  heard_mine n rid q next _ _ (turns.TellsOwn r ws i p e) me adopts h = h
  heard_mine n rid q next _ _ y me adopts h = record { seqs = h.seqs; work = tt }

was_more : (ps new : List Packet) (q : Layout) → Was ps q → Was (ps ++ new) q
was_more ps new q w = (w.0, w.1, proposed_grows w.0 ps (ps ++ new) (λ x h. has_left ps new x h) w.1 q w.2)

origin_more : (ps new : List Packet) (q : Layout) → Origin ps q → Origin (ps ++ new) q
origin_more ps new q o = record { epoch = o.epoch; ballot = o.ballot; proposed = proposed_grows o.epoch ps (ps ++ new) (λ x h. has_left ps new x h) o.ballot q o.proposed; by = o.by }

-- more packets
module _ (g : Header) (ps new : List Packet) (k : ℕ) where
  value_more : (r : Reconf) (q : Layout) → Value g ps k r q → Value g (ps ++ new) k r q
  value_more r q (inl own) = inl own
  value_more r q (inr was) = inr (was_more ps new q was)

  work_more : (r : Reconf) (w : ReconfWork) → WorkMine g ps k r w → WorkMine g (ps ++ new) k r w
  work_more r (Agreeing v) h = (h.0, by v.stage h.1)
    where
      by : (s : Stage) → StageMine g ps k r s → StageMine g (ps ++ new) k r s
      by (Preparing ws hs) f = λ b i. was_more ps new b.1 (f b i)
      by (Accepting ws n q) f = value_more r q f
  work_more r (Starting n) (inl low) = inl low
  work_more r (Starting n) (inr c) = inr (record { old = c.old; known = known_grows g.layouts (first_layout g) ps (ps ++ new) (λ x i. has_left ps new x i) c.old c.known; before = c.before; is = c.is })
  work_more r (SealingSpare n) h = tt
  work_more r (LookingSpare n) h = tt
  work_more r (Sealing ws acks) h = tt
  work_more r (LookingAgain n acks) h = tt
  work_more r (Telling ws n q) h = tt

  -- of what is new all is of the change, or none is the client's
  hand_more : (o : Option Reconf) → ((q : Layout) → Was (ps ++ new) q → q.by ≡ k → Was ps q ⊎ ((r : Reconf) → o ≡ Some r → IsOf r.stand r.change q)) → HandMine g ps k o → HandMine g (ps ++ new) k o
  hand_more None f h = tt
  hand_more (Some r) f h = record { seqs = λ q was mine less. by q mine less (f q was mine); work = work_more r r.work h.work }
    where
      by : (q : Layout) → q.by ≡ k → r.stand.epoch < q.epoch → Was ps q ⊎ ((s : Reconf) → Some r ≡ Some s → IsOf s.stand s.change q) → IsOf r.stand r.change q
      by q mine less (inl was) = h.seqs q was mine less
      by q mine less (inr f) = f r refl

  -- what its hand proposes
  value_of : (r : Reconf) (w : ReconfWork) (b : Ballot) (q : Layout) → WorkMine g ps k r w → WorkProposes k w b q → Value g ps k r q × (b.client ≡ k)
  value_of r (Agreeing v) b q h p = by v.stage h.1 p
    where
      by : (s : Stage) → StageMine g ps k r s → WorkProposes k (Agreeing (record v { stage = s })) b q → Value g ps k r q × (b.client ≡ k)
      by (Preparing ws hs) f i = absurd i
      by (Accepting ws n y) f i = (subst (λ (z : Layout). Value g ps k r z) (sym i.1) f, ap (λ (d : Ballot). d.client) i.0)
  value_of r (Starting n) b q h p = absurd p
  value_of r (SealingSpare n) b q h p = absurd p
  value_of r (LookingSpare n) b q h p = absurd p
  value_of r (Sealing ws acks) b q h p = absurd p
  value_of r (LookingAgain n acks) b q h p = absurd p
  value_of r (Telling ws n y) b q h p = absurd p

promise_is : (x : Msg) (e : ℕ) (b : Ballot) (a : Before) → reply x ≡ IsPromise e b a → x ≡ msg.Promise e b a
unfolding reply
promise_is x e b a i = grind arith

none_awaited : (from : NodeId) (rid : ℕ) → awaits [] from rid ≡ true → ⊥
none_awaited from rid h = cc

not_request : (x : Msg) (e : ℕ) (b : Ballot) (q : Layout) → x ≡ msg.Accept e b q → is_request x ≡ false → ⊥
unfolding is_request
not_request x e b q i j = cc

is_asked : (x : Msg) (e : ℕ) (b : Ballot) (q : Layout) → x ≡ msg.Accept e b q → is_request x ≡ true
unfolding is_request
is_asked x e b q i = cc

module _ (m : Meaning) where
  pub record Mine (c : Config m) : Type 0 where
    pub origin : (q : Layout) → Was c.packets q → Origin c.packets q
    pub hands : (k : ℕ) → HandMine c.cluster c.packets k (reconf_of m (client_in m c k).work)

  abbrev Low : Config m → Type 0
  Low c = Pax m c × Lay m c

  -- Others propose nothing.

  others : (c d : Config m) (new : List Packet) → Mine c → d.packets ≡ c.packets ++ new → d.clients ≡ c.clients → d.cluster ≡ c.cluster → ((x : Packet) (e : ℕ) (b : Ballot) (q : Layout) → Has new x → x.msg ≡ msg.Accept e b q → ⊥) → Mine d
  others c d new h i j g none = record {
    origin = λ q was. subst (λ (ps : List Packet). Origin ps q) (sym i) (origin_more c.packets new q (h.origin q (old q (subst (λ (ps : List Packet). Was ps q) i was))));
    hands = λ k. subst (λ (ps : List Packet). HandMine d.cluster ps k (reconf_of m (client_in m d k).work)) (sym i) (hand_more d.cluster c.packets new k _ (λ q was mine. inl (old q was)) (same k));
  }
    where
      old : (q : Layout) → Was (c.packets ++ new) q → Was c.packets q
      old q was = (was.0, was.1, by (proposed_either was.0 c.packets new was.1 q was.2))
        where
          by : Proposed was.0 c.packets was.1 q ⊎ NewProposal was.0 c.packets new was.1 q → Proposed was.0 c.packets was.1 q
          by (inl x) = x
          by (inr x) = absurd (none x.packet was.0 was.1 q x.sent x.is)

      same : (k : ℕ) → HandMine d.cluster c.packets k (reconf_of m (client_in m d k).work)
      same k = subst (λ (v : Config m). HandMine v.cluster c.packets k (reconf_of m (client_in m v k).work)) (λ t. record { cluster = sym g t; units = d.units; layouts = d.layouts; seqrs = d.seqrs; clients = sym j t; packets = d.packets }) (h.hands k)

  answers_none : (p : Packet) (o : Option Msg) → ((y : Msg) → o ≡ Some y → is_request y ≡ false) → (x : Packet) (e : ℕ) (b : Ballot) (q : Layout) → Has (answer_to m p o) x → x.msg ≡ msg.Accept e b q → ⊥
  answers_none p None f x e b q g is = g
  answers_none p (Some y) f x e b q (inl i) is = not_request y e b q (sym (ap (λ (z : Packet). z.msg) i) ∙ is) (f y refl)
  answers_none p (Some y) f x e b q (inr g) is = g

  seqr_none : (c : Config m) (n : ℕ) (t : SeqrTurn) → SeqrInput m c n t → (x : Packet) (e : ℕ) (b : Ballot) (q : Layout) → Has (map (packet_of m (seqr_id n)) t.sends) x → x.msg ≡ msg.Accept e b q → ⊥
  seqr_none c n t i x e b q g is =
      let y = has_map (packet_of m (seqr_id n)) t.sends x g in
      let said = sym (ap (λ (z : Packet). z.msg) y.is) ∙ is in
      job_plain t.now.scan y.of e b q ((seqr_input_draws m c _ t i).sent y.of y.has (is_asked y.of.msg e b q said)) said

  -- A client's turn.
  module _ (c : Config m) (low : Low c) (h : Mine c) (k : ℕ) where
    abbrev ps : List Packet
    ps = c.packets

    abbrev GoodTurn : Moved m → Type 0
    GoodTurn x = HandMine c.cluster c.packets k (reconf_of m x.now.work)

    -- none of its own is past a bound past which it has proposed nothing
    none_past : (n : ℕ) → Silent ps k n → (q : Layout) → Was ps q → q.by ≡ k → n < q.epoch → ⊥
    none_past n silent q was mine less =
        let o = h.origin q was in
        let at = (low.0.truth o.epoch).allowed o.ballot q o.proposed in
        silent o.epoch o.ballot q (omega (arith, less, at)) o.proposed (o.by ∙ mine)

    calm_mine : (x : Moved m) → WorkCalm m x.now.work → GoodTurn x
    calm_mine x calm = subst (HandMine c.cluster ps k) (sym (calm_none m 0 0 ps x.now.work calm)) tt

    turn_mine : (d : Client m) (w : Work m) (t : ReconfTurn) → NextMine c.cluster ps k t.to → GoodTurn (on_reconf m d w t)
    turn_mine d w t g = by t.to g
      where
        by : (to : Next Reconf ReconfEnd) → NextMine c.cluster ps k to → GoodTurn (reconf_to m (after_turn m d t) w to)
        by (Goes s) g = g
        by (Learns s) g = g
        by (Ends (Installed e p)) g = tt
        by (Ends (Overtaken e p)) g = tt
        by (Ends (NotWhole u i p)) g = tt

    abbrev v : Client m
    v = client_in m c k

    -- what is known of the reconfiguration in hand
    module _ (r : Reconf) (hand : reconf_of m (client_in m c k).work ≡ Some r) where
      worker : WorkerOk m c.cluster.layouts k ps v.stand r
      worker = subst (λ (o : Option Reconf). HandOk m c.cluster.layouts k ps v.stand o) hand (low.0.clients k)

      mine_in : ReconfMine c.cluster ps k r
      mine_in = subst (λ (o : Option Reconf). HandMine c.cluster ps k o) hand (h.hands k)

      known : WorkKnown c.cluster.layouts ps (IsKnown c.cluster.layouts (first_layout c.cluster) ps) r r.work
      known = subst (λ (o : Option Reconf). ReconfKnown m c.cluster.layouts ps (IsKnown c.cluster.layouts (first_layout c.cluster) ps) o) hand (low.1.clients k).hand

      adopting : (w : ReconfWork) → r.work ≡ w → Adopting c.cluster ps k r w
      unfolding told_epoch
      adopting (Telling ws i p) is = λ mine' next. record { seqs = λ q was of less. absurd (none_past (r.stand.epoch + 1) worker.above q was of (omega (arith, less, at))); work = by mine' known' next }
        where
          at : p.epoch ≡ r.stand.epoch + 1
          at = subst (λ (w : ReconfWork). told_epoch w (r.stand.epoch + 1) ≡ r.stand.epoch + 1) is worker.told

          old : IsKnown c.cluster.layouts (first_layout c.cluster) ps r.stand
          old = subst (λ (q : Layout). IsKnown c.cluster.layouts (first_layout c.cluster) ps q) (sym worker.stand) (low.1.clients k).stand

          known' : IsKnown c.cluster.layouts (first_layout c.cluster) ps p
          known' = subst (λ (w : ReconfWork). WorkKnown c.cluster.layouts ps (IsKnown c.cluster.layouts (first_layout c.cluster) ps) r w) is known

          by : p.by ≡ k → IsKnown c.cluster.layouts (first_layout c.cluster) ps p → (next : ℕ) → (p.epoch ≤ 1) ⊎ Comes c.cluster ps k (record r { stand = p; work = Starting next })
          by of (inl e) next = let f = ap (λ (z : Layout). z.epoch) e in inl (omega (arith, f))
          by of (inr won) next = inr (record { old = r.stand; known = old; before = sym at; is = mine_in.seqs p (p.epoch, won.ballot, won.proposed) of (omega (arith, at)) })
      adopting (Agreeing x) is = tt
      adopting (Starting n) is = tt
      adopting (SealingSpare n) is = tt
      adopting (LookingSpare n) is = tt
      adopting (Sealing ws acks) is = tt
      adopting (LookingAgain n acks) is = tt

      -- what a promise tells was proposed
      module _ (x : Packet) (sent : Has c.packets x) where
        told : x.from ≡ layout_id x.from.num → (e : ℕ) (b : Ballot) (y : Ballot × Layout) → reply x.msg ≡ IsPromise e b (Some y) → Was ps y.1
        told from e b y i = let t = (low.0.truth e).told x.from.num b y (record { packet = x; sent = sent; from = from; is = promise_is x.msg e b (Some y) i }) in (e, y.0, t.0)

        set_server : (l : Option Later) → awaits (set_asks r l) x.from x.rid ≡ true → x.from ≡ layout_id x.from.num
        set_server None j = absurd (none_awaited x.from x.rid j)
        set_server (Some l) j = (awaited_asked _ l.waits x.from x.rid j).server

        tells : (w : ReconfWork) → awaits (reconf_work_asks r w ++ later_asks r w) x.from x.rid ≡ true → Tells c.cluster ps k w (reply x.msg)
        unfolding reconf_work_asks
        tells (Agreeing u) a = told (by (awaited_either (stage_asks r u.round u.stage) (set_asks r u.later) x.from x.rid a))
          where
            by : (awaits (stage_asks r u.round u.stage) x.from x.rid ≡ true) ⊎ (awaits (set_asks r u.later) x.from x.rid ≡ true) → x.from ≡ layout_id x.from.num
            by (inl j) = (stage_awaited r u.round u.stage x.from x.rid j).server
            by (inr j) = set_server u.later j
        tells (Telling ws i p) a = tt
        tells (Starting n) a = tt
        tells (SealingSpare n) a = tt
        tells (LookingSpare n) a = tt
        tells (Sealing ws acks) a = tt
        tells (LookingAgain n acks) a = tt

    module _ (x : Packet) (sent : Has c.packets x) where
      task_mine : (w : Work m) (t : Task m) → reconf_of m v.work ≡ task_reconf m t → awaits (task_awaited m v.stand t) x.from x.rid ≡ true → Fed m GoodTurn v w t x.from.num x.rid (reply x.msg)
      task_mine w (Reconfiguring r) hand a = turn_mine v w (reconf_feed r r.work x.from.num x.rid (reply x.msg) v.next)
          (fed_mine c.cluster ps k x.from.num x.rid (reply x.msg) v.next r _ (turns.reconf_fed x.from.num x.rid (reply x.msg) v.next r) (worker r hand).ok.me (tells r hand x sent r.work a) (mine_in r hand))
      task_mine w t hand a = λ y p. calm_mine y p.calm

      again_mine : (w : Work m) (t : Task m) (q : Layout) → reconf_of m v.work ≡ task_reconf m t → Heard m GoodTurn v w t x.from.num x.rid q
      again_mine w (Reconfiguring r) q hand = turn_mine v w (reconf_latest r r.work x.from.num x.rid q v.next)
          (heard_mine c.cluster ps k x.from.num x.rid q v.next r _ (turns.reconf_heard x.from.num x.rid q v.next r) (worker r hand).ok.me (adopting r hand r.work refl) (mine_in r hand))
      again_mine w t q hand = λ y p. calm_mine y p.calm

    first_mine : (r : Reconf) (next : ℕ) (j : Option Join) → ((q : Layout) → Was ps q → q.by ≡ k → r.stand.epoch < q.epoch → ⊥) → NextMine c.cluster ps k (first_step r next j).to
    first_mine r next None none = record { seqs = λ q was of less. absurd (none q was of less); work = tt }
    first_mine r next (Some j) none = record { seqs = λ q was of less. absurd (none q was of less); work = tt }

    accepts_mine : (x : CommandOf m) → v.work ≡ None → GoodTurn (accepts m v x)
    unfolding accepts reconf_start
    accepts_mine (cmd.Reconf x) e = turn_mine v (new_work m (cmd.Reconf x)) (reconf_start v.stand v.layouts x v.num v.next)
        (first_mine (record { change = x; me = v.num; layouts = v.layouts; stand = v.stand; work = SealingSpare 0 }) v.next x.join (none_past v.stand.epoch (subst (λ (o : Option (Work m)). HandOk m c.cluster.layouts k ps v.stand (reconf_of m o)) e (low.0.clients k))))
    accepts_mine x e = calm_mine (accepts m v x) (accepts_plain m v x tt e).calm

    refused_mine : (x : CommandOf m) (o : Option Refusal) → (o ≡ None → v.work ≡ None) → GoodTurn (refused_or m v x o)
    refused_mine x None free = accepts_mine x (free refl)
    refused_mine x (Some why) free = h.hands k

    tick_mine : (o : Option (Work m)) → v.work ≡ o → HandMine c.cluster ps k (reconf_of m (step.tick_by m v o).now.work)
    tick_mine None e = h.hands k
    tick_mine (Some w) e = h.hands k

    input_mine : (t : ClientTurn m) → ClientInput m c k t → HandMine c.cluster ps k (reconf_of m t.now.work)
    unfolding client_command client_deliver client_tick
    input_mine _ (Commanded x) = refused_mine x (refusal m v x) (not_busy m v x)
    input_mine _ (Hears' x comes) = delivered_plain m GoodTurn v x.from x.rid (reply x.msg) (h.hands k)
        (λ w t has doing a. task_mine x comes.sent w t (ap (λ (o : Option (Work m)). reconf_of m o) has ∙ ap (λ (d : Hand m). task_reconf m (task_in m d)) doing) a)
        (λ w q has is a. again_mine x comes.sent w (task_in m w.hand) q (ap (λ (o : Option (Work m)). reconf_of m o) has))
    input_mine _ Ticks' = tick_mine v.work refl

    -- What it proposes now.
    module _ (t : ClientTurn m) (i : ClientInput m c k t) where
      abbrev new : List Packet
      new = map (packet_of m (client_id k)) t.sends

      fine : TurnFine m c.cluster.layouts k ps v t
      fine = input_fine m c low.0 k t i

      record Now (q : Layout) : Type 0 where
        reconf : Reconf
        hand : reconf_of m t.now.work ≡ Some reconf
        value : Value c.cluster ps k reconf q

      proposed_now : (e : ℕ) (b : Ballot) (q : Layout) → NewProposal e ps new b q → Now q × (b.client ≡ k)
      proposed_now e b q x =
          let y = has_map (packet_of m (client_id k)) t.sends x.packet x.sent in
          let is = sym (ap (λ (z : Packet). z.msg) y.is) ∙ x.is in
          let g = fine.sends y.of e b q y.has is in
          let ok = subst (λ (o : Option Reconf). HandOk m c.cluster.layouts k ps t.now.stand o) g.hand fine.ok in
          let own = subst (λ (o : Option Reconf). HandMine c.cluster ps k o) g.hand (input_mine t i) in
          let z = value_of c.cluster ps new k g.reconf g.reconf.work b q own.work (awaited_proposes g.reconf k y.of e b q ok.ok.me g.has is) in
          (record { reconf = g.reconf; hand = g.hand; value = z.0 }, z.1)

      either : (q : Layout) → Was (ps ++ new) q → Was ps q ⊎ ((e : ℕ) × (b : Ballot) × Proposed e (ps ++ new) b q × Now q × (b.client ≡ k))
      either q was = by (proposed_either was.0 ps new was.1 q was.2)
        where
          by : Proposed was.0 ps was.1 q ⊎ NewProposal was.0 ps new was.1 q → Was ps q ⊎ ((e : ℕ) × (b : Ballot) × Proposed e (ps ++ new) b q × Now q × (b.client ≡ k))
          by (inl x) = inl (was.0, was.1, x)
          by (inr x) = let n = proposed_now was.0 was.1 q x in inr (was.0, was.1, was.2, n.0, n.1)

      origins : (q : Layout) → Was (ps ++ new) q → Origin (ps ++ new) q
      origins q was = by (either q was)
        where
          by : Was ps q ⊎ ((e : ℕ) × (b : Ballot) × Proposed e (ps ++ new) b q × Now q × (b.client ≡ k)) → Origin (ps ++ new) q
          by (inl x) = origin_more ps new q (h.origin q x)
          by (inr x) = which x.3.value
            where
              which : Value c.cluster ps k x.3.reconf q → Origin (ps ++ new) q
              which (inl own) = record { epoch = x.0; ballot = x.1; proposed = x.2; by = x.4 ∙ sym own.0 }
              which (inr old) = origin_more ps new q (h.origin q old)

      same_reconf : (r s : Reconf) → reconf_of m t.now.work ≡ Some r → reconf_of m t.now.work ≡ Some s → r ≡ s
      same_reconf r s e f = cc

      own_hand : HandMine c.cluster (ps ++ new) k (reconf_of m t.now.work)
      own_hand = hand_more c.cluster ps new k (reconf_of m t.now.work) (λ q was mine. by q (either q was)) (input_mine t i)
        where
          by : (q : Layout) → Was ps q ⊎ ((e : ℕ) × (b : Ballot) × Proposed e (ps ++ new) b q × Now q × (b.client ≡ k)) → Was ps q ⊎ ((r : Reconf) → reconf_of m t.now.work ≡ Some r → IsOf r.stand r.change q)
          by q (inl x) = inl x
          by q (inr x) = which x.3.value
            where
              which : Value c.cluster ps k x.3.reconf q → Was ps q ⊎ ((r : Reconf) → reconf_of m t.now.work ≡ Some r → IsOf r.stand r.change q)
              which (inl own) = inr (λ r e. subst (λ (z : Reconf). IsOf z.stand z.change q) (same_reconf x.3.reconf r x.3.hand e) own.1)
              which (inr old) = inl old

      other_hand : (j : ℕ) → (j ≡ k → ⊥) → (o : Option Reconf) → HandMine c.cluster ps j o → HandMine c.cluster (ps ++ new) j o
      other_hand j other o g = hand_more c.cluster ps new j o (λ q was mine. inl (by q mine (either q was))) g
        where
          by : (q : Layout) → q.by ≡ j → Was ps q ⊎ ((e : ℕ) × (b : Ballot) × Proposed e (ps ++ new) b q × Now q × (b.client ≡ k)) → Was ps q
          by q mine (inl x) = x
          by q mine (inr x) = which x.3.value
            where
              which : Value c.cluster ps k x.3.reconf q → Was ps q
              which (inl own) = absurd (other (sym mine ∙ own.0))
              which (inr old) = old

      turned : k < length c.clients → Mine (client_turn m c k t)
      turned less = record {
        origin = origins;
        hands = at_set c.clients k t.now (new_client m c.cluster) (λ j d. HandMine c.cluster (ps ++ new) j (reconf_of m d.work)) less own_hand (λ j other. other_hand j other _ (h.hands j));
      }

  -- Over a run.

  keeps_mine : (c : Config m) → Low c → Mine c → Cases m c (λ d. Low d → Mine d)
  keeps_mine c low h = record {
    idle = λ y. h;
    unit = λ u p a less y. others c _ (answer_to m p (turn_on m c u p).says) h refl refl refl (answers_none p _ (λ z e. says_answer _ p.msg z e));
    layout = λ l p a less y. others c _ (answer_to m p (layout_step (layout_in m c l) p.msg).says) h refl refl refl (answers_none p _ (λ z e. layout_answer _ p.msg z e));
    seqr = λ n t i less y. others c _ (map (packet_of m (seqr_id n)) t.sends) h refl refl refl (seqr_none c n t i);
    client = λ k t i less y. turned c low h k t i less;
  }

  start_hand : (g : Header) (j k : ℕ) → HandMine g [] k (reconf_of m (new_client m g j).work)
  unfolding new_client
  start_hand g j k = tt

  start_mine : (g : Header) → Mine (config m (start m g))
  unfolding start
  start_mine g = record {
    origin = λ q was. absurd was.2.sent;
    hands = λ k. at_map (new_client m g) (numbers g.clients 0) k (new_client m g k) (λ (d : Client m). HandMine g [] k (reconf_of m d.work)) (λ j. start_hand g j k) (start_hand g k k);
  }

  -- in each world of each run
  pub mine_hold : (g : Header) (xs : Moves m) → Mine (config m (after m g xs))
  mine_hold g xs = (run_keeps m (λ c. Low c × Mine c) (keeps_above m Low Mine (lay_keeps m) keeps_mine) xs (start m g) ((start_pax m g, start_lay m g), start_mine g)).1
