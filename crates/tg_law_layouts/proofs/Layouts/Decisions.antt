-- One layout is decided for an epoch.
use Rattle.std.proofs.Common.{◌≡◌, ◌⊎◌, ℕ, ◌+◌, ◌<◌, List, ◌++◌, length, map, true, false, refl, sym, ap, ◌∙◌, subst, inl, inr, arith, Some, None, Option}
use Rattle.tg_base.specs.Layouts.{Layout}
use Rattle.tg_base.specs.declared.ids.Ballot.{Ballot}
use Rattle.tg_base.specs.declared.ids.NodeId.{NodeId}
use Rattle.tg_base.specs.declared.ids.Role.TheVariants as role
use Rattle.tg_base.specs.declared.msg.Msg.{Msg}
use Rattle.tg_base.specs.declared.msg.Msg.TheVariants as msg
use Rattle.tg_base.specs.declared.packet.Packet.{Packet}
use Rattle.tg_kind.specs.Meaning.{Meaning}
use Rattle.tg_protocol.specs.Words.{unit_id, layout_id, seqr_id, client_id}
use Rattle.tg_protocol.specs.Layouts.{first_layout}
use Rattle.tg_protocol.specs.LayoutServers.{LayoutState, new_layout, vote_of, Vote, layout_step}
use Rattle.tg_protocol.specs.Reconfiguring as re
use Rattle.tg_protocol.specs.Reconfiguring.{Before, Reconf, next_epoch, reconf_awaited}
use Rattle.tg_protocol.specs.Sequencers.{SeqrTurn}
use Rattle.tg_protocol.specs.Clients.{new_client}
use Rattle.tg_protocol.specs.ClientSteps.{ClientTurn}
use Rattle.tg_protocol.specs.Worlds.{packet_of, answer_to}
use Rattle.tg_law_layouts.proofs.Moves.Members.{Has, has_left, has_map, set_long}
use Rattle.tg_law_layouts.proofs.Agreement.Facts.{Proposed, Elected, Truth}
use Rattle.tg_law_layouts.proofs.Agreement.Servers.{Stands, Moved, server_moves}
use Rattle.tg_law_layouts.proofs.Agreement.Proposers.{WorkProposes, awaited_proposes, reconf_still, work_own, work_one}
use Rattle.tg_law_layouts.specs.Moves.Configs.{Config, layout_in, client_in}
use Rattle.tg_law_layouts.specs.Moves.Telling.{is_request}
use Rattle.tg_law_layouts.proofs.Moves.Lists.{at_set}
use Rattle.tg_law_layouts.proofs.Moves.Moves.{Comes, unit_turn, layout_turn, seqr_turn, client_turn, SeqrInput, ClientInput, Commanded, Hears', Ticks', Keeps}
use Rattle.tg_law_layouts.proofs.Moves.Growth.{outs_from, answer_from}
use Rattle.tg_law_layouts.proofs.Moves.Units.{says_answer}
use Rattle.tg_law_layouts.proofs.Requests.Answered.{turn_on, said_by}
use Rattle.tg_law_layouts.proofs.Requests.Numbers.{seqr_input_draws}
use Rattle.tg_law_layouts.proofs.Layouts.Plain.{job_plain}
use Rattle.tg_law_layouts.proofs.Layouts.Phases.{phase}
use Rattle.tg_law_layouts.proofs.Agreement.Votes.{Said, said_this, NewProposal, NewPromise, NewAcceptance, proposed_either, sent_truth, sent_stands, answered_truth, own_stands, other_stands, proposed_old}
use Rattle.tg_law_layouts.proofs.Layouts.Pax.{OfEpoch, Silent, WorkerOk, HandOk, ClientOk, reconf_of, TurnFine, command_fine, deliver_fine, tick_fine, awaited_of}

-- Packets that propose, promise and accept nothing.
pub record Still (new : List Packet) : Type 0 where
  pub proposes : (x : Packet) (e : ℕ) (b : Ballot) (q : Layout) → Has new x → x.msg ≡ msg.Accept e b q → ⊥
  pub from : (x : Packet) → Has new x → x.from.role ≡ role.Layout → ⊥

module _ (m : Meaning) where
  pub record Pax (c : Config m) : Type 0 where
    pub num : (k : ℕ) → (client_in m c k).num ≡ k
    pub layouts : (k : ℕ) → (client_in m c k).layouts ≡ c.cluster.layouts
    pub long : length c.layouts ≡ c.cluster.layouts
    pub truth : (e : ℕ) → Truth e c.cluster.layouts (OfEpoch e) c.packets
    pub stands : (l e : ℕ) → Stands e c.packets l (vote_of (layout_in m c l) e)
    pub clients : (k : ℕ) → ClientOk m c.cluster.layouts k c.packets (client_in m c k)

  -- A client's hand, while others send.

  silent_still : (ps qs : List Packet) (k e : ℕ) → ((f : ℕ) (b : Ballot) (q : Layout) → Proposed f qs b q → b.client ≡ k → Proposed f ps b q) → Silent ps k e → Silent qs k e
  silent_still ps qs k e back s f b q less x mine = s f b q less (back f b q x mine) mine

  hand_still : (n k : ℕ) (ps qs : List Packet) → ((x : Packet) → Has ps x → Has qs x) → ((f : ℕ) (b : Ballot) (q : Layout) → Proposed f qs b q → b.client ≡ k → Proposed f ps b q) → (p : Layout) (o : Option Reconf)
      → HandOk m n k ps p o → HandOk m n k qs p o
  hand_still n k ps qs more back p None h = silent_still ps qs k p.epoch back h
  hand_still n k ps qs more back p (Some r) h = record {
    stand = h.stand;
    told = h.told;
    ok = reconf_still r.stand r.change n k (OfEpoch (r.stand.epoch + 1)) ps qs more r (λ b q x mine. inl (back _ b q x mine)) h.ok;
    above = silent_still ps qs k _ back h.above;
    rests = λ not. silent_still ps qs k _ back (h.rests not);
  }

  -- Others send.

  module _ (c : Config m) (h : Pax c) (new : List Packet) (s : Still new) where
    no_promise : (e l : ℕ) (b : Ballot) (a : Before) → NewPromise e c.packets new l b a → ⊥
    no_promise e l b a x = s.from x.packet x.sent (ap (λ (n : NodeId). n.role) x.from)

    no_acceptance : (e l : ℕ) (b : Ballot) → NewAcceptance e c.packets new l b → ⊥
    no_acceptance e l b x = s.from x.packet x.sent (ap (λ (n : NodeId). n.role) x.from)

    proposed_back : (e : ℕ) (b : Ballot) (q : Layout) → Proposed e (c.packets ++ new) b q → Proposed e c.packets b q
    proposed_back e b q x = by (proposed_either e c.packets new b q x)
      where
        by : Proposed e c.packets b q ⊎ NewProposal e c.packets new b q → Proposed e c.packets b q
        by (inl y) = y
        by (inr y) = absurd (s.proposes y.packet e b q y.sent y.is)

    still_truth : (e : ℕ) → Truth e c.cluster.layouts (OfEpoch e) (c.packets ++ new)
    still_truth e = sent_truth e c.cluster.layouts (OfEpoch e) c.packets (h.truth e) 0 new (no_promise e) (no_acceptance e) (λ b q. ⊥) (λ b q y. s.proposes y.packet e b q y.sent y.is) (λ b q y. absurd y) (λ b q r y. absurd y)

    still_stands : (l e : ℕ) (v : Vote) → Stands e c.packets l v → Stands e (c.packets ++ new) l v
    still_stands l e v y = sent_stands e c.cluster.layouts (OfEpoch e) c.packets (h.truth e) 0 new (no_promise e) (no_acceptance e) (λ b q. ⊥) (λ b q y. s.proposes y.packet e b q y.sent y.is) (λ b q y. absurd y) (λ b q r y. absurd y) l v y

    still_hand : (k : ℕ) (p : Layout) (o : Option Reconf) → HandOk m c.cluster.layouts k c.packets p o → HandOk m c.cluster.layouts k (c.packets ++ new) p o
    still_hand k p o y = hand_still c.cluster.layouts k c.packets (c.packets ++ new) (λ x g. has_left c.packets new x g) (λ f b q z mine. proposed_back f b q z) p o y

  answer_of_request : (x y : Msg) → x ≡ y → is_request x ≡ false → is_request y ≡ true → ⊥
  answer_of_request x y e f g = cc

  accept_asks : (e : ℕ) (b : Ballot) (q : Layout) → is_request (msg.Accept e b q) ≡ true
  unfolding is_request
  accept_asks e b q = refl

  by_unit' : (c : Config m) → Pax c → (u : ℕ) (p : Packet) → Comes m c p (unit_id u) → u < length c.units → Pax (unit_turn m c u p (turn_on m c u p))
  by_unit' c h u p comes less = record {
    num = h.num;
    layouts = h.layouts;
    long = h.long;
    truth = still_truth c h new still;
    stands = λ l e. still_stands c h new still l e _ (h.stands l e);
    clients = λ k. still_hand c h new still k _ _ (h.clients k);
  }
    where
      new : List Packet
      new = answer_to m p (turn_on m c u p).says

      role_is : role.Unit ≡ role.Layout → ⊥
      role_is e = cc

      still : Still new
      still = record {
        proposes = λ x e b q g is. answer_of_request x.msg _ is (says_answer _ p.msg x.msg (said_by m c u p x _ refl g).is) (accept_asks e b q);
        from = λ x g r. role_is (sym (ap (λ (n : NodeId). n.role) (answer_from m p _ x g ∙ comes.to_node)) ∙ r);
      }

  by_seqr' : (c : Config m) → Pax c → (s : ℕ) (t : SeqrTurn) → SeqrInput m c s t → Pax (seqr_turn m c s t)
  by_seqr' c h s t i = record {
    num = h.num;
    layouts = h.layouts;
    long = h.long;
    truth = still_truth c h new still;
    stands = λ l e. still_stands c h new still l e _ (h.stands l e);
    clients = λ k. still_hand c h new still k _ _ (h.clients k);
  }
    where
      new : List Packet
      new = map (packet_of m (seqr_id s)) t.sends

      role_is : role.Seqr ≡ role.Layout → ⊥
      role_is e = cc

      proposes : (x : Packet) (e : ℕ) (b : Ballot) (q : Layout) → Has new x → x.msg ≡ msg.Accept e b q → ⊥
      proposes x e b q g is =
          let y = has_map (packet_of m (seqr_id s)) t.sends x g in
          let said = sym (ap (λ (z : Packet). z.msg) y.is) ∙ is in
          job_plain t.now.scan y.of e b q ((seqr_input_draws m c _ t i).sent y.of y.has (subst (λ (z : Msg). is_request z ≡ true) (sym said) (accept_asks e b q))) said

      still : Still new
      still = record { proposes = proposes; from = λ x g r. role_is (sym (ap (λ (n : NodeId). n.role) (outs_from m (seqr_id s) t.sends x g)) ∙ r) }

  said_in : (l : ℕ) (p : Packet) (o : Option Msg) → p.to ≡ layout_id l → (y : Packet) → Has (answer_to m p o) y → Said l o y
  said_in l p None to y h = absurd h
  said_in l p (Some x) to y h = said_this l x _ y to refl h

  by_layout' : (c : Config m) → Pax c → (l : ℕ) (p : Packet) → Comes m c p (layout_id l) → l < length c.layouts → Pax (layout_turn m c l p (layout_step (layout_in m c l) p.msg))
  by_layout' c h l p comes less = record {
    num = h.num;
    layouts = h.layouts;
    long = set_long c.layouts l t.now ∙ h.long;
    truth = λ e. answered_truth e n (OfEpoch e) c.packets (h.truth e) p comes.sent l less' (vote_of s e) (vote_of t.now e) (h.stands l e) t.says (moved e) (answer_to m p t.says) says;
    stands = λ i e. at_set c.layouts l t.now (λ j. new_layout (first_layout c.cluster)) (λ j y. Stands e (c.packets ++ answer_to m p t.says) j (vote_of y e)) less
        (own_stands e n (OfEpoch e) c.packets (h.truth e) p comes.sent l less' (vote_of s e) (vote_of t.now e) (h.stands l e) t.says (moved e) (answer_to m p t.says) says)
        (λ j other. other_stands e n (OfEpoch e) c.packets (h.truth e) p comes.sent l less' (vote_of s e) (vote_of t.now e) (h.stands l e) t.says (moved e) (answer_to m p t.says) says j _ other (h.stands j e))
        i;
    clients = λ k. hand_still n k c.packets (c.packets ++ answer_to m p t.says) (λ x g. has_left c.packets _ x g)
        (λ e b q y mine. proposed_old e n (OfEpoch e) c.packets (h.truth e) p comes.sent l less' (vote_of s e) (vote_of t.now e) (h.stands l e) t.says (moved e) (answer_to m p t.says) says b q y) _ _ (h.clients k);
  }
    where
      n : ℕ
      n = c.cluster.layouts

      s : LayoutState
      s = layout_in m c l

      t : Rattle.tg_protocol.specs.LayoutServers.LayoutTurn
      t = layout_step (layout_in m c l) p.msg

      less' : l < c.cluster.layouts
      less' = subst (λ i. l < i) h.long less

      moved : (e : ℕ) → Moved e (vote_of (layout_in m c l) e) p.msg (vote_of (layout_step (layout_in m c l) p.msg).now e) (layout_step (layout_in m c l) p.msg).says
      moved e = server_moves e (layout_in m c l) p.msg

      says : (y : Packet) → Has (answer_to m p t.says) y → Said l t.says y
      says y g = said_in l p t.says comes.to_node y g

  -- A client's turn.

  worker_of : (n k : ℕ) (ps : List Packet) (p : Layout) (o : Option Reconf) (r : Reconf) → o ≡ Some r → HandOk m n k ps p o → WorkerOk m n k ps p r
  worker_of n k ps p o r e h = subst (λ (x : Option Reconf). HandOk m n k ps p x) e h

  proposes_phase : (k : ℕ) (w : Rattle.tg_protocol.specs.Reconfiguring.ReconfWork) (b : Ballot) (q : Layout) → WorkProposes k w b q → phase w ≡ 1
  unfolding phase
  proposes_phase k (re.Agreeing v) b q h = refl
  proposes_phase k (re.Telling ws i y) b q h = absurd h
  proposes_phase k (re.Starting i) b q h = absurd h
  proposes_phase k (re.SealingSpare i) b q h = absurd h
  proposes_phase k (re.LookingSpare i) b q h = absurd h
  proposes_phase k (re.Sealing ws acks) b q h = absurd h
  proposes_phase k (re.LookingAgain i acks) b q h = absurd h

  module _ (c : Config m) (h : Pax c) (k : ℕ) (t : ClientTurn m) (f : TurnFine m c.cluster.layouts k c.packets (client_in m c k) t) where
    abbrev n : ℕ
    n = c.cluster.layouts

    abbrev ps : List Packet
    ps = c.packets

    abbrev new : List Packet
    new = map (packet_of m (client_id k)) t.sends

    -- what the client proposes now
    pub record Now (e : ℕ) (b : Ballot) (q : Layout) : Type 0 where
      pub reconf : Reconf
      pub hand : reconf_of m t.now.work ≡ Some reconf
      pub epoch : e ≡ reconf.stand.epoch + 1
      pub proposes : WorkProposes k reconf.work b q

    role_is : role.Client ≡ role.Layout → ⊥
    role_is e = cc

    from_layout : (x : Packet) (l : ℕ) → Has new x → x.from ≡ layout_id l → ⊥
    from_layout x l g is = role_is (ap (λ (z : NodeId). z.role) (sym (outs_from m (client_id k) t.sends x g) ∙ is))

    worker : (r : Reconf) → reconf_of m t.now.work ≡ Some r → WorkerOk m n k ps t.now.stand r
    worker r e = worker_of n k ps t.now.stand _ r e f.ok

    new_proposes : (e : ℕ) (b : Ballot) (q : Layout) → NewProposal e ps new b q → Now e b q
    new_proposes e b q x =
        let i = has_map (packet_of m (client_id k)) t.sends x.packet x.sent in
        let is = sym (ap (λ (z : Packet). z.msg) i.is) ∙ x.is in
        let g = f.sends i.of e b q i.has is in
        record {
          reconf = g.reconf;
          hand = g.hand;
          epoch = awaited_of g.reconf i.of e b q g.has is;
          proposes = awaited_proposes g.reconf k i.of e b q (worker g.reconf g.hand).ok.me g.has is;
        }

    own : (e : ℕ) (b : Ballot) (q : Layout) → Now e b q → (b.client ≡ k) × Elected e n ps b q × OfEpoch e q × ((y : Layout) → Proposed e ps b y → y ≡ q)
    own e b q x =
        let r = x.reconf in
        subst (λ (d : ℕ). (b.client ≡ k) × Elected d n ps b q × OfEpoch d q × ((y : Layout) → Proposed d ps b y → y ≡ q)) (sym x.epoch)
        (work_own r.stand r.change n k (OfEpoch (r.stand.epoch + 1)) ps r r.work b q (worker r x.hand).ok.work x.proposes)

    same_hand : (r s : Reconf) → reconf_of m t.now.work ≡ Some r → reconf_of m t.now.work ≡ Some s → s ≡ r
    same_hand r s e i = cc

    one : (e : ℕ) (b : Ballot) (q r : Layout) → Now e b q → Now e b r → q ≡ r
    one e b q r x y = work_one k x.reconf.work b q r x.proposes (subst (λ (z : Reconf). WorkProposes k z.work b r) (same_hand x.reconf y.reconf x.hand y.hand) y.proposes)

    turn_truth : (e : ℕ) → Truth e n (OfEpoch e) (ps ++ new)
    turn_truth e = sent_truth e n (OfEpoch e) ps (h.truth e) k new (λ l b a x. from_layout x.packet l x.sent x.from) (λ l b x. from_layout x.packet l x.sent x.from) (Now e) (new_proposes e) (own e) (one e)

    turn_stands : (l e : ℕ) (v : Vote) → Stands e ps l v → Stands e (ps ++ new) l v
    turn_stands l e v y = sent_stands e n (OfEpoch e) ps (h.truth e) k new (λ l b a x. from_layout x.packet l x.sent x.from) (λ l b x. from_layout x.packet l x.sent x.from) (Now e) (new_proposes e) (own e) (one e) l v y

    old_or_now : (e : ℕ) (b : Ballot) (q : Layout) → Proposed e (ps ++ new) b q → Proposed e ps b q ⊎ Now e b q
    old_or_now e b q x = by (proposed_either e ps new b q x)
      where
        by : Proposed e ps b q ⊎ NewProposal e ps new b q → Proposed e ps b q ⊎ Now e b q
        by (inl y) = inl y
        by (inr y) = inr (new_proposes e b q y)

    more : (x : Packet) → Has ps x → Has (ps ++ new) x
    more x g = has_left ps new x g

    other_hand : (i : ℕ) → (i ≡ k → ⊥) → (p : Layout) (o : Option Reconf) → HandOk m n i ps p o → HandOk m n i (ps ++ new) p o
    other_hand i other p o y = hand_still n i ps (ps ++ new) more (λ e b q x mine. by e b q mine (old_or_now e b q x)) p o y
      where
        by : (e : ℕ) (b : Ballot) (q : Layout) → b.client ≡ i → Proposed e ps b q ⊎ Now e b q → Proposed e ps b q
        by e b q mine (inl x) = x
        by e b q mine (inr x) = absurd (other (sym mine ∙ (own e b q x).0))

    own_hand : (o : Option Reconf) → reconf_of m t.now.work ≡ o → HandOk m n k ps t.now.stand o → HandOk m n k (ps ++ new) t.now.stand o
    own_hand None e y = λ d b q less x mine. by d b q less mine (old_or_now d b q x)
      where
        nothing : (r : Reconf) → reconf_of m t.now.work ≡ None → reconf_of m t.now.work ≡ Some r → ⊥
        nothing r e i = cc

        by : (d : ℕ) (b : Ballot) (q : Layout) → t.now.stand.epoch < d → b.client ≡ k → Proposed d ps b q ⊎ Now d b q → ⊥
        by d b q less mine (inl x) = y d b q less x mine
        by d b q less mine (inr x) = nothing x.reconf e x.hand
    own_hand (Some r) e y = record {
      stand = y.stand;
      told = y.told;
      ok = reconf_still r.stand r.change n k (OfEpoch (r.stand.epoch + 1)) ps (ps ++ new) more r (λ b q x mine. by b q (old_or_now _ b q x)) y.ok;
      above = λ d b q less x mine. up d b q less mine (old_or_now d b q x);
      rests = λ not d b q less x mine. rest not d b q less mine (old_or_now d b q x);
    }
      where
        by : (b : Ballot) (q : Layout) → Proposed (r.stand.epoch + 1) ps b q ⊎ Now (r.stand.epoch + 1) b q → Proposed (r.stand.epoch + 1) ps b q ⊎ WorkProposes k r.work b q
        by b q (inl x) = inl x
        by b q (inr x) = inr (subst (λ (z : Reconf). WorkProposes k z.work b q) (same_hand r x.reconf e x.hand) x.proposes)

        up : (d : ℕ) (b : Ballot) (q : Layout) → r.stand.epoch + 1 < d → b.client ≡ k → Proposed d ps b q ⊎ Now d b q → ⊥
        up d b q less mine (inl x) = y.above d b q less x mine
        up d b q less mine (inr x) = let a = x.epoch in let s = ap (λ (z : Reconf). z.stand.epoch) (same_hand r x.reconf e x.hand) in omega (arith, less, a, s)

        rest : (phase r.work ≡ 1 → ⊥) → (d : ℕ) (b : Ballot) (q : Layout) → r.stand.epoch < d → b.client ≡ k → Proposed d ps b q ⊎ Now d b q → ⊥
        rest not d b q less mine (inl x) = y.rests not d b q less x mine
        rest not d b q less mine (inr x) = not (subst (λ (z : Reconf). phase z.work ≡ 1) (same_hand r x.reconf e x.hand) (proposes_phase k x.reconf.work b q x.proposes))

    turned : k < length c.clients → Pax (client_turn m c k t)
    turned less = record {
      num = at_set c.clients k t.now (new_client m c.cluster) (λ i x. x.num ≡ i) less (f.num ∙ h.num k) (λ i other. h.num i);
      layouts = at_set c.clients k t.now (new_client m c.cluster) (λ i x. x.layouts ≡ n) less (f.layouts ∙ h.layouts k) (λ i other. h.layouts i);
      long = h.long;
      truth = turn_truth;
      stands = λ l e. turn_stands l e _ (h.stands l e);
      clients = at_set c.clients k t.now (new_client m c.cluster) (λ i x. ClientOk m n i (ps ++ new) x) less (own_hand _ refl f.ok) (λ i other. other_hand i other _ _ (h.clients i));
    }

  pub input_fine : (c : Config m) → Pax c → (k : ℕ) (t : ClientTurn m) → ClientInput m c k t → TurnFine m c.cluster.layouts k c.packets (client_in m c k) t
  input_fine c h k t (Commanded x) = command_fine m c.cluster.layouts k c.packets (client_in m c k) x (h.num k) (h.layouts k) (h.clients k)
  input_fine c h k t (Hears' p comes) = deliver_fine m c.cluster.layouts k c.packets h.truth p comes.sent (client_in m c k) (h.clients k)
  input_fine c h k t Ticks' = tick_fine m c.cluster.layouts k c.packets (client_in m c k) (h.clients k)

  pub pax_keep : Keeps m Pax
  pax_keep c h = record {
    idle = h;
    unit = by_unit' c h;
    layout = by_layout' c h;
    seqr = λ s t i less. by_seqr' c h s t i;
    client = λ k t i less. turned c h k t (input_fine c h k t i) less;
  }
