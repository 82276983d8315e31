-- A step, for any predicate B of what units are asked to trim, which stays so in later epochs: where clients hold only such, and units
-- were asked for such alone, it is so after the step, where a client that tells a floor has B of it.
use Rattle.std.proofs.Common.{◌≡◌, ◌⊎◌, ℕ, ◌<◌, ◌≤◌, List, length, map, ◌++◌, true, false, sym, ap, ◌∙◌, subst, inl, inr, arith, Some, None, Option}
use Rattle.tg_base.specs.Clusters.{Header}
use Rattle.tg_base.specs.declared.ids.NodeId.{NodeId}
use Rattle.tg_base.specs.declared.msg.Msg.{Msg}
use Rattle.tg_base.specs.declared.packet.Out.{Out}
use Rattle.tg_base.specs.declared.packet.Packet.{Packet}
use Rattle.tg_kind.specs.Meaning.{Meaning}
use Rattle.tg_model.specs.Kinds.{EventOf}
use Rattle.tg_protocol.specs.Words.{client_id, seqr_id, unit_id, layout_id}
use Rattle.tg_protocol.specs.Requests.{awaits, Ends}
use Rattle.tg_protocol.specs.Replies.{reply}
use Rattle.tg_protocol.specs.Cells.{CellJob, Gone, cell_feed}
use Rattle.tg_protocol.specs.Units.{unit_step}
use Rattle.tg_protocol.specs.LayoutServers.{layout_step}
use Rattle.tg_protocol.specs.Sequencers.{SeqrTurn, scan_asks}
use Rattle.tg_protocol.specs.Trimming.{CopyWork, Sealing, Reading, Storing, Looking, Copying}
use Rattle.tg_protocol.specs.Trimming as copying
use Rattle.tg_protocol.specs.Clients.{Syncing, Walking, Appending, Trimming, Copying', Reconfiguring, Hand, Doing, Learning, Work, Client, new_client}
use Rattle.tg_protocol.specs.ClientSteps.{ClientTurn, task_awaited, client_command, client_deliver, client_tick}
use Rattle.tg_protocol.specs.Views.{Entries}
use Rattle.tg_protocol.specs.Worlds.{packet_of, answer_to, happens}
use Rattle.tg_protocol.specs.Runs.{Moves, Reaches}
use Rattle.tg_law_layouts.specs.Moves.After.{after}
use Rattle.tg_law_layouts.specs.Moves.Configs.{Config, config, client_in, seqr_in, unit_in, layout_in}
use Rattle.tg_law_layouts.specs.Moves.Telling.{is_request}
use Rattle.tg_law_layouts.proofs.Moves.Growth.{answer_from}
use Rattle.tg_law_layouts.proofs.Moves.Lists.{at_set}
use Rattle.tg_law_layouts.proofs.Moves.Members.{Has, has_contained, has_either, has_map}
use Rattle.tg_law_layouts.proofs.Moves.Moves.{Comes, seqr_turn, client_turn, unit_turn, layout_turn, SeqrInput, Hears, Ticks}
use Rattle.tg_law_layouts.proofs.Moves.Seqrs.{SeqrDraws, seqr_step_draws, seqr_tick_draws}
use Rattle.tg_law_layouts.proofs.Requests.Numbers.{numbers_keep}
use Rattle.tg_law_layouts.proofs.Requests.Starts.{All, all_hold}
use Rattle.tg_law_cells.specs.Homes.Homes.{TrimAsked}
use Rattle.tg_law_replies.specs.Replies.Steps.{EachEvent}
use Rattle.tg_law_headline.proofs.Trims.Machines.{CopyOk, CopyHears}
use Rattle.tg_law_headline.proofs.Trims.Hands.{HandOk, WorkOk, FloorOk, ClientOk, ClientHears}
use Rattle.tg_law_headline.proofs.Trims.Sent.{trim_named, named_pair, trim_is, TrimsOnly, job_trims, TurnOk, command_ok, deliver_ok, tick_ok}
use Rattle.tg_law_headline.proofs.Trims.Copies.{copy_gone}
use Rattle.tg_law_headline.proofs.Trims.Steps.{Moves', step_by}

trim_asks : (x : Msg) (e b : ℕ) → trim_named x ≡ named_pair e b → is_request x ≡ true
unfolding trim_named is_request
trim_asks x e b h = grind arith

contrary : {X : Type 0} → true ≡ false → X
contrary z = absurd (cc)

module _ (m : Meaning) (h : Header) (es : Entries) (B : ℕ → ℕ → Type 0) (grows : (e f b : ℕ) → e ≤ f → B e b → B f b) where
  -- what a client holds
  abbrev pub Ok : Client m → Type 0
  Ok c = ClientOk m B grows h.objects es c

  -- what units were asked to trim has B, and so has what clients hold
  pub record Held (c : Config m) : Type 0 where
    pub sent : (x : Packet) (e b : ℕ) → Has c.packets x → trim_named x.msg ≡ named_pair e b → B e b
    pub clients : (k : ℕ) → ClientOk m B grows h.objects es (client_in m c k)

  -- A step, by the world before it.

  module _ (xs : Moves m) (r : Reaches m h xs (after m h xs)) (held : Held (config m (after m h xs))) where
    abbrev c : Config m
    c = config m (after m h xs)

    abbrev Turned : ClientTurn m → Type 0
    Turned t = TurnOk B m grows h.objects es t

    all : All m (config m (after m h xs))
    all = all_hold m h xs

    -- whatever a unit was asked to trim in an epoch up to this one
    pub asked_has : (e b : ℕ) → TrimAsked m (after m h xs) e b → B e b
    asked_has e b t = grows t.of e b t.up_to (held.sent t.packet t.of b (has_contained _ t.packet t.sent) (trim_is t.packet.msg t.of b t.is))

    more : (new : List Packet) → ((x : Packet) (e b : ℕ) → Has new x → trim_named x.msg ≡ named_pair e b → B e b) → (x : Packet) (e b : ℕ) → Has ((after m h xs).packets ++ new) x → trim_named x.msg ≡ named_pair e b → B e b
    more new f x e b has is = by (has_either (after m h xs).packets new x has)
      where
        by : Has (after m h xs).packets x ⊎ Has new x → B e b
        by (inl g) = held.sent x e b g is
        by (inr g) = f x e b g is

    outs : (n : NodeId) (os : List Out) → TrimsOnly B os → (x : Packet) (e b : ℕ) → Has (map (packet_of m n) os) x → trim_named x.msg ≡ named_pair e b → B e b
    outs n os f x e b has is = let o = has_map (packet_of m n) os x has in f o.of e b o.has (ap (λ (y : Packet). trim_named y.msg) (sym o.is) ∙ is)

    turned : (k : ℕ) (t : ClientTurn m) → k < length (after m h xs).clients → Turned t → Held (client_turn m c k t)
    turned k t less f = record {
      sent = more (map (packet_of m (client_id k)) t.sends) (outs (client_id k) t.sends f.trims);
      clients = at_set (after m h xs).clients k t.now (new_client m (after m h xs).cluster) (λ j x. Ok x) less f.ok (λ j other. held.clients j);
    }

    -- a copy hears of what units were asked to trim
    module _ (k : ℕ) (x : Packet) (comes : Comes m c x (client_id k)) where
      abbrev cl : Client m
      cl = client_in m (config m (after m h xs)) k

      held_copy : (work : Work m) (y : Copying) → cl.work ≡ Some work → work.hand ≡ Doing (Copying' y) → CopyOk B cl.stand.epoch y.work
      held_copy work y works hand =
          subst (λ (d : Hand m). HandOk m B grows h.objects es cl.stand d) hand
          (subst (λ (o : Option (Work m)). WorkOk m B grows h.objects es cl.stand o) works (held.clients k))

      copy_hears : (work : Work m) (y : Copying) → cl.work ≡ Some work → work.hand ≡ Doing (Copying' y) → awaits (task_awaited m cl.stand (Copying' y)) x.from x.rid ≡ true → CopyHears B cl.stand y x.from.num (reply x.msg) cl.next
      copy_hears work y works hand awaited = record { gone = gone }
        where
          gone : (j : CellJob) (b : ℕ) → y.work ≡ Reading j → (cell_feed j x.from.num (reply x.msg) cl.next).to ≡ Ends (Gone b) → B cl.stand.epoch b
          gone j b is ends = asked_has cl.stand.epoch b
              (copy_gone m h xs r k x comes work y works hand awaited j b cl.next is (subst (λ (w : CopyWork). CopyOk B cl.stand.epoch w) is (held_copy work y works hand)) ends)

      client_hears : ClientHears m B grows h.objects es cl x.from x.rid (reply x.msg)
      client_hears w (Copying' y) is hand awaited = copy_hears w y is hand awaited
      client_hears w (Syncing s) is hand awaited = tt
      client_hears w (Walking v os) is hand awaited = tt
      client_hears w (Appending a y) is hand awaited = tt
      client_hears w (Trimming t) is hand awaited = tt
      client_hears w (Reconfiguring v) is hand awaited = tt

    -- units, layout servers and sequencers ask nothing to be trimmed
    by_unit : (v : ℕ) (x : Packet) → Comes m c x (unit_id v) → v < length (after m h xs).units → Held (unit_turn m c v x (unit_step (unit_in m c v) x.msg))
    by_unit v x a less = record { sent = λ y e b has is. by y e b has is (has_either (after m h xs).packets _ y has); clients = held.clients }
      where
        by : (y : Packet) (e b : ℕ) → Has (unit_turn m c v x (unit_step (unit_in m c v) x.msg)).packets y → trim_named y.msg ≡ named_pair e b → Has (after m h xs).packets y ⊎ Has (answer_to m x (unit_step (unit_in m c v) x.msg).says) y → B e b
        by y e b has is (inl g) = held.sent y e b g is
        by y e b has is (inr g) = contrary (sym (trim_asks y.msg e b is) ∙ ((numbers_keep m c all.0.0).unit v x a less).units y has (ap (λ (n : NodeId). n.role) (answer_from m x (unit_step (unit_in m c v) x.msg).says y g ∙ a.to_node)))

    by_layout : (l : ℕ) (x : Packet) → Comes m c x (layout_id l) → l < length (after m h xs).layouts → Held (layout_turn m c l x (layout_step (layout_in m c l) x.msg))
    by_layout l x a less = record { sent = λ y e b has is. by y e b has is (has_either (after m h xs).packets _ y has); clients = held.clients }
      where
        by : (y : Packet) (e b : ℕ) → Has (layout_turn m c l x (layout_step (layout_in m c l) x.msg)).packets y → trim_named y.msg ≡ named_pair e b → Has (after m h xs).packets y ⊎ Has (answer_to m x (layout_step (layout_in m c l) x.msg).says) y → B e b
        by y e b has is (inl g) = held.sent y e b g is
        by y e b has is (inr g) = contrary (sym (trim_asks y.msg e b is) ∙ ((numbers_keep m c all.0.0).layout l x a less).layouts y has (ap (λ (n : NodeId). n.role) (answer_from m x (layout_step (layout_in m c l) x.msg).says y g ∙ a.to_node)))

    by_seqr : (s : ℕ) (t : SeqrTurn) → SeqrInput m c s t → s < length (after m h xs).seqrs → Held (seqr_turn m c s t)
    by_seqr s t i less = record { sent = more (map (packet_of m (seqr_id s)) t.sends) (outs (seqr_id s) t.sends trims); clients = held.clients }
      where
        draws : (v : SeqrTurn) → SeqrInput m c s v → SeqrDraws (seqr_in m c s) v
        draws v (Hears x comes) = seqr_step_draws (seqr_in m c s) x.from x.rid x.msg
        draws v Ticks = seqr_tick_draws (seqr_in m c s)

        scan_trims : (j : Option CellJob) → TrimsOnly B (scan_asks j)
        scan_trims None o e b has is = absurd has
        scan_trims (Some j) o e b has is = job_trims B j o e b has is

        trims : TrimsOnly B t.sends
        trims o e b has is = scan_trims t.now.scan o e b ((draws t i).sent o has (trim_asks o.msg e b is)) is

    moves : Moves' m h.objects es (FloorOk m B grows h.objects es) c Held
    moves = record {
      idle = record { sent = held.sent; clients = held.clients };
      unit = by_unit;
      layout = by_layout;
      seqr = by_seqr;
      commanded = λ k x less. turned k (client_command m (client_in m c k) x) less (command_ok B m grows h.objects es (client_in m c k) x (held.clients k));
      ticked = λ k less. turned k (client_tick m (client_in m c k)) less (tick_ok B m grows h.objects es (client_in m c k) (held.clients k));
      heard = λ k x comes f less. turned k (client_deliver m (client_in m c k) x.from x.rid x.msg) less (deliver_ok B m grows h.objects es (client_in m c k) x.from x.rid x.msg (held.clients k) (client_hears k x comes) f);
    }

    pub stepped : (e : EventOf m) → EachEvent m h.objects es (FloorOk m B grows h.objects es) (after m h xs) e → Held (config m (happens m (after m h xs) e))
    stepped e f = step_by m h.objects es (FloorOk m B grows h.objects es) (after m h xs) Held moves e f

-- What has B has what follows of B.
module _ (m : Meaning) (h : Header) (es ds : Entries) (B : ℕ → ℕ → Type 0) (grows : (e f b : ℕ) → e ≤ f → B e b → B f b) (C : ℕ → ℕ → Type 0) (rises : (e f b : ℕ) → e ≤ f → C e b → C f b) (f : (e b : ℕ) → B e b → C e b) where
  copy_more : (e : ℕ) (w : CopyWork) → CopyOk B e w → CopyOk C e w
  copy_more e (Reading j) k = k
  copy_more e (copying.Trimming r b) k = f e b k
  copy_more e (Sealing r) k = tt
  copy_more e (Storing r q x) k = tt
  copy_more e (Looking r) k = tt

  hand_more : (c : Client m) (d : Hand m) → HandOk m B grows h.objects es c.stand d → HandOk m C rises h.objects ds c.stand d
  hand_more c (Doing (Trimming t)) k = f c.stand.epoch t.below k
  hand_more c (Doing (Copying' y)) k = copy_more c.stand.epoch y.work k
  hand_more c (Doing (Syncing s)) k = tt
  hand_more c (Doing (Walking v os)) k = tt
  hand_more c (Doing (Appending a y)) k = tt
  hand_more c (Doing (Reconfiguring v)) k = tt
  hand_more c (Learning ws (Trimming t)) k = f c.stand.epoch t.below k
  hand_more c (Learning ws (Copying' y)) k = tt
  hand_more c (Learning ws (Syncing s)) k = tt
  hand_more c (Learning ws (Walking v os)) k = tt
  hand_more c (Learning ws (Appending a y)) k = tt
  hand_more c (Learning ws (Reconfiguring v)) k = tt

  work_more : (c : Client m) (o : Option (Work m)) → WorkOk m B grows h.objects es c.stand o → WorkOk m C rises h.objects ds c.stand o
  work_more c None k = tt
  work_more c (Some w) k = hand_more c w.hand k

  pub held_more : (c : Config m) → Held m h es B grows c → Held m h ds C rises c
  held_more c k = record { sent = λ x e b has is. f e b (k.sent x e b has is); clients = λ i. work_more (client_in m c i) (client_in m c i).work (k.clients i) }
