-- Every layout that is told in a world is the first one or decided.
use Rattle.std.proofs.Common.{◌≡◌, ◌⊎◌, ℕ, ◌<◌, List, [], ◌++◌, length, map, true, false, ◌&&◌, refl, sym, ap, ◌∙◌, subst, inl, inr, arith, Some, None, Option}
use Rattle.tg_base.specs.Layouts.{Layout}
use Rattle.tg_base.specs.Clusters.{Header}
use Rattle.tg_base.specs.declared.ids.Ballot.{Ballot}
use Rattle.tg_base.specs.declared.ids.NodeId.{NodeId}
use Rattle.tg_base.specs.declared.ids.Role.TheVariants as role
use Rattle.tg_base.specs.declared.msg.Msg.{Msg}
use Rattle.tg_base.specs.declared.msg.Msg.TheVariants as msg
use Rattle.tg_base.specs.declared.packet.Packet.{Packet}
use Rattle.tg_kind.specs.Meaning.{Meaning}
use Rattle.tg_base.specs.Orders.{node_eq}
use Rattle.tg_protocol.specs.Words.{unit_id, layout_id, seqr_id, client_id, numbers}
use Rattle.tg_protocol.specs.Layouts.{first_layout}
use Rattle.tg_protocol.specs.Logs.{is_acceptance}
use Rattle.tg_protocol.specs.LayoutServers.{LayoutState, new_layout, vote_of, layout_step}
use Rattle.tg_protocol.specs.Replies.{Reply, reply}
use Rattle.tg_protocol.specs.Replies as replied
use Rattle.tg_protocol.specs.Sequencers.{SeqrState, SeqrTurn, new_seqr, seqr_step, seqr_tick}
use Rattle.tg_protocol.specs.Reconfiguring.{Reconf}
use Rattle.tg_protocol.specs.Clients.{Work, Client, new_client}
use Rattle.tg_protocol.specs.ClientSteps.{ClientTurn}
use Rattle.tg_protocol.specs.Worlds.{start, packet_of, answer_to}
use Rattle.tg_law_layouts.proofs.Moves.Members.{Has, has_left, has_either, has_map, passes_somewhere}
use Rattle.tg_law_layouts.proofs.Agreement.Facts.{Proposed, proposed_grows, Accepts as Acceptance}
use Rattle.tg_law_layouts.proofs.Agreement.Servers.{Moved, Kept, Promises, Votes, server_moves}
use Rattle.tg_law_layouts.specs.Moves.Configs.{Config, config, layout_in, seqr_in, client_in}
use Rattle.tg_law_layouts.proofs.Moves.Lists.{at_set, at_map, at_replicate}
use Rattle.tg_law_layouts.proofs.Moves.Moves.{Cases, Comes, unit_turn, layout_turn, seqr_turn, client_turn, SeqrInput, Hears, Ticks, ClientInput, Commanded, Hears', Ticks', Keeps, cases_map, keeps_above, run_keeps}
use Rattle.tg_law_layouts.proofs.Moves.Growth.{outs_from, answer_from}
use Rattle.tg_law_layouts.proofs.Requests.Answered.{turn_on, said_by}
use Rattle.tg_law_layouts.proofs.Moves.Seqrs.{tells_layout}
use Rattle.tg_law_layouts.proofs.Requests.Numbers.{seqr_input_draws}
use Rattle.tg_law_layouts.proofs.Layouts.Pax.{WorkerOk, ClientOk, reconf_of}
use Rattle.tg_law_layouts.proofs.Layouts.Pax as pax
use Rattle.tg_law_layouts.proofs.Layouts.Decisions.{Pax, pax_keep, input_fine}
use Rattle.tg_law_layouts.proofs.Layouts.Layouts.{start_pax}
use Rattle.tg_law_layouts.proofs.Layouts.Tellings.{Tells}
use Rattle.tg_law_layouts.proofs.Layouts.Known.{HandKnown, ReconfKnown, Fits}
use Rattle.tg_law_layouts.proofs.Layouts.Standing.{IsKnown, known_grows, work_grows, WasProposed, winner, Says, quiet_says}
use Rattle.tg_law_layouts.proofs.Layouts.Lays.{unit_silent, ask_latest, ask_tells, seqr_proj, StandsAt, TurnKnown, command_known, deliver_known, tick_known}
use Rattle.tg_protocol.specs.Runs.{Moves}
use Rattle.tg_law_layouts.specs.Moves.After.{after}

module _ (m : Meaning) where
  abbrev pub K : Config m → List Packet → Layout → Type 0
  K c ps = IsKnown c.cluster.layouts (first_layout c.cluster) ps

  pub record Lay (c : Config m) : Type 0 where
    pub accepts : (e l : ℕ) (b : Ballot) → Acceptance e c.packets l b → WasProposed c.cluster.layouts c.packets e l b
    pub clients : (k : ℕ) → HandKnown m c.cluster.layouts c.packets (K c c.packets) (client_in m c k).stand (client_in m c k).work
    pub servers : (l : ℕ) → K c c.packets (layout_in m c l).latest
    pub seqrs : (s : ℕ) → K c c.packets (seqr_in m c s).proj
    pub sent : (x : Packet) → Has c.packets x → Says (K c c.packets) x.msg

  -- More packets.

  module _ (c : Config m) (new : List Packet) where
    abbrev ps : List Packet
    ps = c.packets

    more : (x : Packet) → Has ps x → Has (ps ++ new) x
    more x h = has_left ps new x h

    grown : (q : Layout) → K c ps q → K c (ps ++ new) q
    grown q k = known_grows c.cluster.layouts (first_layout c.cluster) ps (ps ++ new) more q k

    hand_grown : (p : Layout) (w : Option (Work m)) → HandKnown m c.cluster.layouts ps (K c ps) p w → HandKnown m c.cluster.layouts (ps ++ new) (K c (ps ++ new)) p w
    hand_grown p w k = record { stand = grown p k.stand; hand = by (reconf_of m w) k.hand }
      where
        by : (o : Option Reconf) → ReconfKnown m c.cluster.layouts ps (K c ps) o → ReconfKnown m c.cluster.layouts (ps ++ new) (K c (ps ++ new)) o
        by None h = tt
        by (Some r) h = work_grows c.cluster.layouts (first_layout c.cluster) ps (ps ++ new) more r r.work h

    was_grown : (e l : ℕ) (b : Ballot) → WasProposed c.cluster.layouts ps e l b → WasProposed c.cluster.layouts (ps ++ new) e l b
    was_grown e l b w = record { below = w.below; layout = w.layout; proposed = proposed_grows e ps (ps ++ new) more b w.layout w.proposed }

    says_grown : (y : Msg) → Says (K c ps) y → Says (K c (ps ++ new)) y
    says_grown (msg.Latest q) k = grown q k
    says_grown (msg.Decided q) k = grown q k
    says_grown (msg.Learn q) k = grown q k
    says_grown y k = tt

    sent_grown : ((x : Packet) → Has ps x → Says (K c ps) x.msg) → ((x : Packet) → Has new x → Says (K c ps) x.msg) → (x : Packet) → Has (ps ++ new) x → Says (K c (ps ++ new)) x.msg
    sent_grown old fresh x h = says_grown x.msg (by (has_either ps new x h))
      where
        by : Has ps x ⊎ Has new x → Says (K c ps) x.msg
        by (inl y) = old x y
        by (inr y) = fresh x y

    -- no new acceptance
    accepts_grown : ((e l : ℕ) (b : Ballot) → Acceptance e ps l b → WasProposed c.cluster.layouts ps e l b) → ((x : Packet) → Has new x → x.from.role ≡ role.Layout → ⊥) → (e l : ℕ) (b : Ballot) → Acceptance e (ps ++ new) l b
        → WasProposed c.cluster.layouts (ps ++ new) e l b
    accepts_grown old other e l b a = was_grown e l b (by (has_either ps new a.packet a.sent))
      where
        by : Has ps a.packet ⊎ Has new a.packet → WasProposed c.cluster.layouts ps e l b
        by (inl y) = old e l b (record { packet = a.packet; sent = y; from = a.from; is = a.is })
        by (inr y) = absurd (other a.packet y (ap (λ (n : NodeId). n.role) a.from))

  -- The moves.

  by_unit' : (c : Config m) → Lay c → (u : ℕ) (p : Packet) → Comes m c p (unit_id u) → u < length c.units → Lay (unit_turn m c u p (turn_on m c u p))
  by_unit' c h u p comes less =
      let new = answer_to m p (turn_on m c u p).says in
      record {
        accepts = accepts_grown c new h.accepts (λ x g r. role_is (sym (ap (λ (n : NodeId). n.role) (answer_from m p _ x g ∙ comes.to_node)) ∙ r));
        clients = λ k. hand_grown c new _ _ (h.clients k);
        servers = λ l. grown c new _ (h.servers l);
        seqrs = λ s. grown c new _ (h.seqrs s);
        sent = sent_grown c new h.sent (λ x g. quiet_says (K c c.packets) x.msg (unit_silent _ p.msg x.msg (said_by m c u p x _ refl g).is));
      }
    where
      role_is : role.Unit ≡ role.Layout → ⊥
      role_is e = cc

  says_of : (c : Config m) (x y : Msg) → x ≡ y → Says (K c c.packets) x → Says (K c c.packets) y
  says_of c x y e k = subst (Says (K c c.packets)) e k

  by_layout' : (c : Config m) → Pax m c → Lay c → (l : ℕ) (p : Packet) → Comes m c p (layout_id l) → l < length c.layouts → Lay (layout_turn m c l p (layout_step (layout_in m c l) p.msg))
  by_layout' c x h l p comes less =
      record {
        accepts = λ e i b a. accepts e i b a (has_either c.packets new a.packet a.sent);
        clients = λ k. hand_grown c new _ _ (h.clients k);
        servers = at_set c.layouts l t.now (λ j. new_layout (first_layout c.cluster)) (λ j s. K c (c.packets ++ new) s.latest) less (grown c new _ latest) (λ j other. grown c new _ (h.servers j));
        seqrs = λ s. grown c new _ (h.seqrs s);
        sent = sent_grown c new h.sent (λ y g. said y _ refl g);
      }
    where
      t : Rattle.tg_protocol.specs.LayoutServers.LayoutTurn
      t = layout_step (layout_in m c l) p.msg

      new : List Packet
      new = answer_to m p (layout_step (layout_in m c l) p.msg).says

      latest : K c c.packets (layout_step (layout_in m c l) p.msg).now.latest
      latest = by (ask_latest (layout_in m c l) p.msg)
        where
          by : ((layout_step (layout_in m c l) p.msg).now.latest ≡ (layout_in m c l).latest) ⊎ (p.msg ≡ msg.Decided (layout_step (layout_in m c l) p.msg).now.latest) → K c c.packets (layout_step (layout_in m c l) p.msg).now.latest
          by (inl e) = subst (K c c.packets) (sym e) (h.servers l)
          by (inr e) = says_of c _ _ e (h.sent p comes.sent)

      said : (y : Packet) (o : Option Msg) → (layout_step (layout_in m c l) p.msg).says ≡ o → Has (answer_to m p o) y → Says (K c c.packets) y.msg
      said y None e g = absurd g
      said y (Some z) e (inl i) = subst (λ (v : Packet). Says (K c c.packets) v.msg) (sym i) (by (ask_tells (layout_in m c l) p.msg z e))
        where
          by : (z ≡ msg.Latest (layout_step (layout_in m c l) p.msg).now.latest) ⊎ (tells_layout z ≡ false) → Says (K c c.packets) z
          by (inl f) = says_of c _ _ (sym f) latest
          by (inr f) = quiet_says (K c c.packets) z f
      said y (Some z) e (inr g) = absurd g

      -- a new acceptance is of a layout that was proposed
      voted : (e : ℕ) (b : Ballot) → (layout_step (layout_in m c l) p.msg).says ≡ Some (msg.Accepted e b) → WasProposed c.cluster.layouts c.packets e l b
      voted e b s = by (server_moves e (layout_in m c l) p.msg)
        where
          same : (d : Ballot) → Some (msg.Accepted e d) ≡ Some (msg.Accepted e b) → d ≡ b
          same d i = cc

          not_both : (d : Ballot) (a : _) → Some (msg.Promise e d a) ≡ Some (msg.Accepted e b) → ⊥
          not_both d a i = cc

          by : Moved e (vote_of (layout_in m c l) e) p.msg (vote_of (layout_step (layout_in m c l) p.msg).now e) (layout_step (layout_in m c l) p.msg).says → WasProposed c.cluster.layouts c.packets e l b
          by (Kept i np na nq) = absurd (na b s)
          by (Promises d above i said) = absurd (not_both d _ (sym said ∙ s))
          by (Votes d q asked above i said) = record {
            below = subst (λ n. l < n) x.long less;
            layout = q;
            proposed = subst (λ (f : Ballot). Proposed e c.packets f q) (same d (sym said ∙ s)) (record { packet = p; sent = comes.sent; is = asked });
          }

      accepts : (e i : ℕ) (b : Ballot) (a : Acceptance e (c.packets ++ new) i b) → Has c.packets a.packet ⊎ Has new a.packet → WasProposed c.cluster.layouts (c.packets ++ new) e i b
      accepts e i b a (inl y) = was_grown c new e i b (h.accepts e i b (record { packet = a.packet; sent = y; from = a.from; is = a.is }))
      accepts e i b a (inr y) = at _ refl y
        where
          same : layout_id l ≡ layout_id i → l ≡ i
          same f = ap (λ (n : NodeId). n.num) f

          at : (o : Option Msg) → (layout_step (layout_in m c l) p.msg).says ≡ o → Has (answer_to m p o) a.packet → WasProposed c.cluster.layouts (c.packets ++ new) e i b
          at None f g = absurd g
          at (Some z) f (inl j) =
              was_grown c new e i b (subst (λ (n : ℕ). WasProposed c.cluster.layouts c.packets e n b) (same (sym comes.to_node ∙ (sym (ap (λ (v : Packet). v.from) j) ∙ a.from)))
              (voted e b (f ∙ ap (λ (v : Msg). Some v) (sym (ap (λ (v : Packet). v.msg) j) ∙ a.is))))
          at (Some z) f (inr g) = absurd g

  -- where a sequencer stands after a turn
  pub seqr_known : (c : Config m) → Lay c → (s : ℕ) (t : SeqrTurn) → SeqrInput m c s t → K c c.packets t.now.proj
  unfolding seqr_tick
  seqr_known c h s t (Hears p comes) = by (seqr_proj (seqr_in m c s) p.from p.rid p.msg)
    where
      by : ((seqr_step (seqr_in m c s) p.from p.rid p.msg).now.proj ≡ (seqr_in m c s).proj) ⊎ (p.msg ≡ msg.Learn (seqr_step (seqr_in m c s) p.from p.rid p.msg).now.proj) → K c c.packets (seqr_step (seqr_in m c s) p.from p.rid p.msg).now.proj
      by (inl e) = subst (K c c.packets) (sym e) (h.seqrs s)
      by (inr e) = says_of c _ _ e (h.sent p comes.sent)
  seqr_known c h s t Ticks = h.seqrs s

  by_seqr' : (c : Config m) → Lay c → (s : ℕ) (t : SeqrTurn) → SeqrInput m c s t → s < length c.seqrs → Lay (seqr_turn m c s t)
  by_seqr' c h s t i less =
      let new = map (packet_of m (seqr_id s)) t.sends in
      record {
        accepts = accepts_grown c new h.accepts (λ x g r. role_is (sym (ap (λ (n : NodeId). n.role) (outs_from m (seqr_id s) t.sends x g)) ∙ r));
        clients = λ k. hand_grown c new _ _ (h.clients k);
        servers = λ l. grown c new _ (h.servers l);
        seqrs = at_set c.seqrs s t.now (λ j. new_seqr j c.cluster.limit (first_layout c.cluster)) (λ j x. K c (c.packets ++ new) x.proj) less (grown c new _ (seqr_known c h s t i)) (λ j other. grown c new _ (h.seqrs j));
        sent = sent_grown c new h.sent (λ x g. let y = has_map (packet_of m (seqr_id s)) t.sends x g in subst (λ (z : Packet). Says (K c c.packets) z.msg) (sym y.is) (quiet_says (K c c.packets) y.of.msg ((seqr_input_draws m c s t i).said y.of y.has)));
      }
    where
      role_is : role.Seqr ≡ role.Layout → ⊥
      role_is e = cc

  -- A client's turn.

  stands_of : (c : Config m) (k : ℕ) (p : Layout) (o : Option Reconf) → pax.HandOk m c.cluster.layouts k c.packets p o → StandsAt m c.cluster.layouts c.packets (K c c.packets) p o
  stands_of c k p None h = tt
  stands_of c k p (Some r) h = h.stand

  fits_of : (c : Config m) → Lay c → (k : ℕ) (p : Layout) (o : Option Reconf) → pax.HandOk m c.cluster.layouts k c.packets p o → Fits m c.cluster.layouts c.packets (K c c.packets) p o
  fits_of c h k p None o = tt
  fits_of c h k p (Some r) o = (o.stand, o.ok.layouts, winner c.cluster.layouts (first_layout c.cluster) c.packets h.accepts m k p r o)

  reply_latest : (x : Msg) (q : Layout) → reply x ≡ replied.IsLatest q → x ≡ msg.Latest q
  unfolding reply
  reply_latest x q h = grind arith

  reply_accepted : (x : Msg) (e : ℕ) (b : Ballot) → reply x ≡ replied.IsAccepted e b → x ≡ msg.Accepted e b
  unfolding reply
  reply_accepted x e b h = grind arith

  passes : (from : NodeId) (l e : ℕ) (b : Ballot) (x : Msg) → from ≡ layout_id l → x ≡ msg.Accepted e b → (node_eq from (layout_id l) && is_acceptance e b x) ≡ true
  unfolding node_eq
  passes from l e b x f i = grind arith

  tells_of : (c : Config m) → Lay c → (x : Packet) → Has c.packets x → x.from ≡ layout_id x.from.num → Tells c.cluster.layouts c.packets (K c c.packets) x.from.num (reply x.msg)
  tells_of c h x sent from e b is =
      let i = reply_accepted x.msg e b is in (
        (h.accepts e x.from.num b (record { packet = x; sent = sent; from = from; is = i })).below,
        passes_somewhere (λ (p : Packet). node_eq p.from (layout_id x.from.num) && is_acceptance e b p.msg) c.packets x sent (passes x.from x.from.num e b x.msg from i),
      )

  turn_known : (c : Config m) → Pax m c → Lay c → (k : ℕ) (t : ClientTurn m) → ClientInput m c k t → StandsAt m c.cluster.layouts c.packets (K c c.packets) t.now.stand (reconf_of m t.now.work) → TurnKnown m c.cluster.layouts c.packets (K c c.packets) t
  turn_known c x h k t (Commanded y) at = command_known m c.cluster.layouts c.packets (K c c.packets) (client_in m c k) y (h.clients k) at
  turn_known c x h k t (Hears' p comes) at = deliver_known m c.cluster.layouts c.packets (K c c.packets) (client_in m c k) p (tells_of c h p comes.sent) (λ q e. says_of c _ _ (reply_latest p.msg q e) (h.sent p comes.sent)) (h.clients k)
      (fits_of c h k _ _ (x.clients k)) at
  turn_known c x h k t Ticks' at = tick_known m c.cluster.layouts c.packets (K c c.packets) (client_in m c k) (h.clients k) (stands_of c k _ _ (x.clients k))

  pub stand_known : (c : Config m) → Pax m c → Lay c → (k : ℕ) (t : ClientTurn m) → ClientInput m c k t → K c c.packets t.now.stand
  stand_known c x h k t i = (turn_known c x h k t i (stands_of c k _ _ (input_fine m c x k t i).ok)).hand.stand

  by_client' : (c : Config m) → Pax m c → Lay c → (k : ℕ) (t : ClientTurn m) → ClientInput m c k t → k < length c.clients → Lay (client_turn m c k t)
  by_client' c x h k t i less =
      let new = map (packet_of m (client_id k)) t.sends in
      let f = turn_known c x h k t i (stands_of c k _ _ (input_fine m c x k t i).ok) in
      record {
        accepts = accepts_grown c new h.accepts (λ y g r. role_is (sym (ap (λ (n : NodeId). n.role) (outs_from m (client_id k) t.sends y g)) ∙ r));
        clients = at_set c.clients k t.now (new_client m c.cluster) (λ j y. HandKnown m c.cluster.layouts (c.packets ++ new) (K c (c.packets ++ new)) y.stand y.work) less (hand_grown c new _ _ f.hand) (λ j other. hand_grown c new _ _ (h.clients j));
        servers = λ l. grown c new _ (h.servers l);
        seqrs = λ s. grown c new _ (h.seqrs s);
        sent = sent_grown c new h.sent (λ y g. let z = has_map (packet_of m (client_id k)) t.sends y g in subst (λ (v : Packet). Says (K c c.packets) v.msg) (sym z.is) (f.says z.of z.has));
      }
    where
      role_is : role.Client ≡ role.Layout → ⊥
      role_is e = cc

  lay_keep : (c : Config m) → Pax m c → Lay c → Cases m c Lay
  lay_keep c x h = record {
    idle = h;
    unit = by_unit' c h;
    layout = by_layout' c x h;
    seqr = by_seqr' c h;
    client = by_client' c x h;
  }

  -- The start.

  start_hand : (h : Header) (k : ℕ) → HandKnown m h.layouts [] (IsKnown h.layouts (first_layout h) []) (new_client m h k).stand (new_client m h k).work
  unfolding new_client
  start_hand h k = record { stand = inl refl; hand = tt }

  start_server : (h : Header) → IsKnown h.layouts (first_layout h) [] (new_layout (first_layout h)).latest
  unfolding new_layout
  start_server h = inl refl

  start_seqr : (h : Header) (s : ℕ) → IsKnown h.layouts (first_layout h) [] (new_seqr s h.limit (first_layout h)).proj
  unfolding new_seqr
  start_seqr h s = inl refl

  pub start_lay : (h : Header) → Lay (config m (start m h))
  unfolding start
  start_lay h = record {
    accepts = λ e l b a. absurd a.sent;
    clients = λ k. at_map (new_client m h) (numbers h.clients 0) k (new_client m h k) (λ (x : Client m). HandKnown m h.layouts [] (IsKnown h.layouts (first_layout h) []) x.stand x.work) (λ j. start_hand h j) (start_hand h k);
    servers = λ l. at_replicate h.layouts (new_layout (first_layout h)) l (new_layout (first_layout h)) (λ s. IsKnown h.layouts (first_layout h) [] s.latest) (start_server h) (start_server h);
    seqrs = λ s. at_map (λ n. new_seqr n h.limit (first_layout h)) (numbers h.seqs 0) s (new_seqr s h.limit (first_layout h)) (λ (x : SeqrState). IsKnown h.layouts (first_layout h) [] x.proj) (λ j. start_seqr h j) (start_seqr h s);
    sent = λ x g. absurd g;
  }

  pub keeps : Keeps m (λ c. Pax m c × Lay c)
  keeps = keeps_above m (Pax m) Lay (pax_keep m) (λ c x h. cases_map m c Lay (λ d. Pax m d → Lay d) (λ d y z. y) (lay_keep c x h))

  pub lay_holds : (h : Header) (xs : Moves m) → Lay (config m (after m h xs))
  lay_holds h xs = (run_keeps m (λ c. Pax m c × Lay c) keeps xs (start m h) (start_pax m h, start_lay h)).1
