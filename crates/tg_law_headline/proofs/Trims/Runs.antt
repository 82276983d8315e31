-- Over a run, whatever units are asked to trim is spare.
use Rattle.std.proofs.Common.{◌≡◌, ◌⊎◌, ℕ, ◌<◌, ◌≤◌, List, [], ◌∷◌, ◌++◌, length, map, true, false, refl, sym, ap, ◌∙◌, subst, inl, inr, arith, Some, None, Option, append-nil}
use Rattle.tg_base.specs.Clusters.{Header}
use Rattle.tg_base.specs.declared.ids.NodeId.{NodeId}
use Rattle.tg_base.specs.declared.msg.Msg.{Msg}
use Rattle.tg_base.specs.declared.packet.Out.{Out}
use Rattle.tg_base.specs.declared.packet.Packet.{Packet}
use Rattle.tg_kind.specs.Meaning.{Meaning}
use Rattle.tg_model.specs.Kinds.{EventOf}
use Rattle.tg_protocol.specs.Words.{client_id, seqr_id, unit_id, layout_id, numbers}
use Rattle.tg_protocol.specs.Requests.{awaits, Ends}
use Rattle.tg_protocol.specs.Replies.{reply}
use Rattle.tg_protocol.specs.Cells.{CellJob, Gone, cell_feed}
use Rattle.tg_protocol.specs.Units.{unit_step}
use Rattle.tg_protocol.specs.LayoutServers.{layout_step}
use Rattle.tg_protocol.specs.Sequencers.{SeqrTurn, scan_asks}
use Rattle.tg_protocol.specs.Trimming.{CopyWork, Reading, Copying}
use Rattle.tg_protocol.specs.Clients.{Syncing, Walking, Appending, Trimming, Copying', Reconfiguring, Hand, Doing, Learning, Work, Client, new_client}
use Rattle.tg_protocol.specs.ClientSteps.{ClientTurn, task_awaited, client_command, client_deliver, client_tick}
use Rattle.tg_protocol.specs.Worlds.{World, start, packet_of, answer_to, happens, next_event}
use Rattle.tg_protocol.specs.Runs.{Moves, Move, Next, Takes, Reaches, run}
use Rattle.tg_protocol.specs.Holding.{HasCell}
use Rattle.tg_law_layouts.specs.Moves.After.{after}
use Rattle.tg_law_layouts.specs.Moves.Configs.{Config, config, client_in, seqr_in, unit_in, layout_in}
use Rattle.tg_law_layouts.specs.Moves.Telling.{is_request}
use Rattle.tg_law_layouts.proofs.Moves.Growth.{answer_from}
use Rattle.tg_law_layouts.proofs.Moves.Lists.{at_map, at_set}
use Rattle.tg_law_layouts.proofs.Moves.Members.{Has, has_contained, has_either, has_map}
use Rattle.tg_law_layouts.proofs.Moves.Moves.{Comes, seqr_turn, client_turn, unit_turn, layout_turn, SeqrInput, Hears, Ticks}
use Rattle.tg_law_layouts.proofs.Moves.Scripts.{run_both}
use Rattle.tg_law_layouts.proofs.Moves.Seqrs.{SeqrDraws, seqr_step_draws, seqr_tick_draws}
use Rattle.tg_law_layouts.proofs.Requests.Numbers.{numbers_keep}
use Rattle.tg_law_layouts.proofs.Requests.Starts.{All, all_hold}
use Rattle.tg_law_cells.specs.Homes.Homes.{TrimAsked}
use Rattle.tg_law_cells.specs.Entries.Archive.{TrimsSafely, TrimsWereSafe}
use Rattle.tg_law_cells.proofs.Entries.Archive.{log_is_settled}
use Rattle.tg_law_cells.proofs.Entries.Lists.{joined}
use Rattle.tg_law_replies.specs.History.Worlds.{entries_in}
use Rattle.tg_law_replies.specs.Replies.Steps.{EachEvent}
use Rattle.tg_law_walks.specs.Lists.Spared.{TrimsSaved, TrimsWereSpare, GoesOn}
use Rattle.tg_law_walks.proofs.Lists.Reached.{before_reached}
use Rattle.tg_law_headline.specs.Trims.Spare.{IsSpare, TellsSpare, WereSpare, FloorsSpare, TrimsAre, TrimsAreSpare}
use Rattle.tg_law_headline.proofs.Trims.Machines.{CopyOk, CopyHears}
use Rattle.tg_law_headline.proofs.Trims.Hands.{HandOk, WorkOk, FloorOk, ClientOk, ClientHears}
use Rattle.tg_law_headline.proofs.Trims.Sent.{trim_named, named_pair, trim_is, TrimsOnly, job_trims, TurnOk, command_ok, deliver_ok, tick_ok}
use Rattle.tg_law_headline.proofs.Trims.Growing.{spare_on, spare_late}
use Rattle.tg_law_headline.proofs.Trims.Copies.{copy_gone}
use Rattle.tg_law_headline.proofs.Trims.Steps.{Moves', step_by}

-- Where a list with one more element is split.

pub data Splits {X : Type 0} (xs : List X) (y : X) (before : List X) (x : X) (later : List X) : Type 0 where
  AtEnd : xs ≡ before → y ≡ x → Splits xs y before x later
  Before : (rest : List X) → xs ≡ before ++ x ∷ rest → Splits xs y before x later

heads : {X : Type 0} → (a b : X) (xs ys : List X) → a ∷ xs ≡ b ∷ ys → a ≡ b
heads a b xs ys e = cc

tails : {X : Type 0} → (a b : X) (xs ys : List X) → a ∷ xs ≡ b ∷ ys → xs ≡ ys
tails a b xs ys e = cc

none_more : {X Z : Type 0} → (bs : List X) (x : X) (later : List X) → [] ≡ bs ++ x ∷ later → Z
none_more [] x later e = absurd (cc)
none_more (b ∷ bs) x later e = absurd (cc)

pub splits : {X : Type 0} → (xs : List X) (y : X) (before : List X) (x : X) (later : List X) → xs ++ y ∷ [] ≡ before ++ x ∷ later → Splits xs y before x later
splits [] y [] x later e = AtEnd refl (heads y x [] later e)
splits [] y (b ∷ bs) x later e = none_more bs x later (tails y b [] (bs ++ x ∷ later) e)
splits (z ∷ zs) y [] x later e = Before zs (ap (λ a. a ∷ zs) (heads z x (zs ++ y ∷ []) later e))
splits (z ∷ zs) y (b ∷ bs) x later e = by (splits zs y bs x later (tails z b (zs ++ y ∷ []) (bs ++ x ∷ later) e))
  where
    first : z ≡ b
    first = heads z b (zs ++ y ∷ []) (bs ++ x ∷ later) e

    by : Splits zs y bs x later → Splits (z ∷ zs) y (b ∷ bs) x later
    by (AtEnd i j) = AtEnd (λ t. first t ∷ i t) j
    by (Before rest i) = Before rest (λ t. first t ∷ i t)

trim_asks : (x : Msg) (e b : ℕ) → trim_named x ≡ named_pair e b → is_request x ≡ true
unfolding trim_named is_request
trim_asks x e b h = grind arith

contrary : {X : Type 0} → true ≡ false → X
contrary z = absurd (cc)

module _ (m : Meaning) (h : Header) where
  abbrev Spare : Moves m → ℕ → ℕ → Type 0
  Spare xs e b = IsSpare m (after m h xs) e b

  grows : (xs : Moves m) (e f b : ℕ) → e ≤ f → Spare xs e b → Spare xs f b
  grows xs e f b le k = spare_on m (after m h xs) e f le b k

  -- what a client holds, by the world after these moves
  abbrev Ok : Moves m → Client m → Type 0
  Ok xs c = ClientOk m (Spare xs) (grows xs) h.objects (entries_in m (after m h xs)) c

  -- After some moves: trims were spare, what units were asked to trim is, and so is what clients hold.
  record Held (xs : Moves m) : Type 0 where
    were : TrimsWereSpare m h xs
    sent : (x : Packet) (e b : ℕ) → Has (after m h xs).packets x → trim_named x.msg ≡ named_pair e b → Spare xs e b
    clients : (k : ℕ) → Ok xs (client_in m (config m (after m h xs)) k)

  -- A step, by the world before it.

  module _ (xs : Moves m) (r : Reaches m h xs (after m h xs)) (held : Held xs) where
    abbrev u : World m
    u = after m h xs

    abbrev c : Config m
    c = config m (after m h xs)

    abbrev Turned : ClientTurn m → Type 0
    Turned t = TurnOk (Spare xs) m (grows xs) h.objects (entries_in m (after m h xs)) t

    record Steps (d : Config m) : Type 0 where
      sent : (x : Packet) (e b : ℕ) → Has d.packets x → trim_named x.msg ≡ named_pair e b → Spare xs e b
      clients : (k : ℕ) → Ok xs (client_in m d k)

    all : All m (config m (after m h xs))
    all = all_hold m h xs

    now : TrimsSaved m (after m h xs)
    now = record {
      whole = λ x e b q has is less. (held.sent x e b (has_contained _ x has) (trim_is x.msg e b is)).whole q less;
      saved = λ x e b q o has is less st. (held.sent x e b (has_contained _ x has) (trim_is x.msg e b is)).saved q o less st;
    }

    more : (new : List Packet) → ((x : Packet) (e b : ℕ) → Has new x → trim_named x.msg ≡ named_pair e b → Spare xs e b) → (x : Packet) (e b : ℕ) → Has ((after m h xs).packets ++ new) x → trim_named x.msg ≡ named_pair e b → Spare xs e b
    more new f x e b has is = by (has_either (after m h xs).packets new x has)
      where
        by : Has (after m h xs).packets x ⊎ Has new x → Spare xs e b
        by (inl g) = held.sent x e b g is
        by (inr g) = f x e b g is

    outs : (n : NodeId) (os : List Out) → TrimsOnly (Spare xs) os → (x : Packet) (e b : ℕ) → Has (map (packet_of m n) os) x → trim_named x.msg ≡ named_pair e b → Spare xs e b
    outs n os f x e b has is = let o = has_map (packet_of m n) os x has in f o.of e b o.has (ap (λ (y : Packet). trim_named y.msg) (sym o.is) ∙ is)

    turned : (k : ℕ) (t : ClientTurn m) → k < length (after m h xs).clients → Turned t → Steps (client_turn m c k t)
    turned k t less f = record {
      sent = more (map (packet_of m (client_id k)) t.sends) (outs (client_id k) t.sends f.trims);
      clients = at_set (after m h xs).clients k t.now (new_client m (after m h xs).cluster) (λ j x. Ok xs x) less f.ok (λ j other. held.clients j);
    }

    -- a copy hears of what units were asked to trim
    module _ (k : ℕ) (x : Packet) (comes : Comes m c x (client_id k)) where
      abbrev cl : Client m
      cl = client_in m (config m (after m h xs)) k

      held_copy : (work : Work m) (y : Copying) → cl.work ≡ Some work → work.hand ≡ Doing (Copying' y) → CopyOk (Spare xs) cl.stand.epoch y.work
      held_copy work y works hand =
          subst (λ (d : Hand m). HandOk m (Spare xs) (grows xs) h.objects (entries_in m (after m h xs)) cl.stand d) hand
          (subst (λ (o : Option (Work m)). WorkOk m (Spare xs) (grows xs) h.objects (entries_in m (after m h xs)) cl.stand o) works (held.clients k))

      copy_hears : (work : Work m) (y : Copying) → cl.work ≡ Some work → work.hand ≡ Doing (Copying' y) → awaits (task_awaited m cl.stand (Copying' y)) x.from x.rid ≡ true → CopyHears (Spare xs) cl.stand y x.from.num (reply x.msg) cl.next
      copy_hears work y works hand awaited = record { gone = gone }
        where
          gone : (j : CellJob) (b : ℕ) → y.work ≡ Reading j → (cell_feed j x.from.num (reply x.msg) cl.next).to ≡ Ends (Gone b) → Spare xs cl.stand.epoch b
          gone j b is ends = asked (copy_gone m h xs r k x comes work y works hand awaited j b cl.next is (subst (λ (w : CopyWork). CopyOk (Spare xs) cl.stand.epoch w) is (held_copy work y works hand)) ends)
            where
              asked : TrimAsked m (after m h xs) cl.stand.epoch b → Spare xs cl.stand.epoch b
              asked t = grows xs t.of cl.stand.epoch b t.up_to (held.sent t.packet t.of b (has_contained _ t.packet t.sent) (trim_is t.packet.msg t.of b t.is))

      client_hears : ClientHears m (Spare xs) (grows xs) h.objects (entries_in m (after m h xs)) cl x.from x.rid (reply x.msg)
      client_hears w (Copying' y) is hand awaited = copy_hears w y is hand awaited
      client_hears w (Syncing s) is hand awaited = tt
      client_hears w (Walking v os) is hand awaited = tt
      client_hears w (Appending a y) is hand awaited = tt
      client_hears w (Trimming t) is hand awaited = tt
      client_hears w (Reconfiguring v) is hand awaited = tt

    -- units, layout servers and sequencers ask nothing to be trimmed
    by_unit : (v : ℕ) (x : Packet) → Comes m c x (unit_id v) → v < length (after m h xs).units → Steps (unit_turn m c v x (unit_step (unit_in m c v) x.msg))
    by_unit v x a less = record { sent = λ y e b has is. by y e b has is (has_either (after m h xs).packets _ y has); clients = held.clients }
      where
        by : (y : Packet) (e b : ℕ) → Has (unit_turn m c v x (unit_step (unit_in m c v) x.msg)).packets y → trim_named y.msg ≡ named_pair e b → Has (after m h xs).packets y ⊎ Has (answer_to m x (unit_step (unit_in m c v) x.msg).says) y → Spare xs e b
        by y e b has is (inl g) = held.sent y e b g is
        by y e b has is (inr g) = contrary (sym (trim_asks y.msg e b is) ∙ ((numbers_keep m c all.0.0).unit v x a less).units y has (ap (λ (n : NodeId). n.role) (answer_from m x (unit_step (unit_in m c v) x.msg).says y g ∙ a.to_node)))

    by_layout : (l : ℕ) (x : Packet) → Comes m c x (layout_id l) → l < length (after m h xs).layouts → Steps (layout_turn m c l x (layout_step (layout_in m c l) x.msg))
    by_layout l x a less = record { sent = λ y e b has is. by y e b has is (has_either (after m h xs).packets _ y has); clients = held.clients }
      where
        by : (y : Packet) (e b : ℕ) → Has (layout_turn m c l x (layout_step (layout_in m c l) x.msg)).packets y → trim_named y.msg ≡ named_pair e b → Has (after m h xs).packets y ⊎ Has (answer_to m x (layout_step (layout_in m c l) x.msg).says) y → Spare xs e b
        by y e b has is (inl g) = held.sent y e b g is
        by y e b has is (inr g) = contrary (sym (trim_asks y.msg e b is) ∙ ((numbers_keep m c all.0.0).layout l x a less).layouts y has (ap (λ (n : NodeId). n.role) (answer_from m x (layout_step (layout_in m c l) x.msg).says y g ∙ a.to_node)))

    by_seqr : (s : ℕ) (t : SeqrTurn) → SeqrInput m c s t → s < length (after m h xs).seqrs → Steps (seqr_turn m c s t)
    by_seqr s t i less = record { sent = more (map (packet_of m (seqr_id s)) t.sends) (outs (seqr_id s) t.sends trims); clients = held.clients }
      where
        draws : (v : SeqrTurn) → SeqrInput m c s v → SeqrDraws (seqr_in m c s) v
        draws v (Hears x comes) = seqr_step_draws (seqr_in m c s) x.from x.rid x.msg
        draws v Ticks = seqr_tick_draws (seqr_in m c s)

        scan_trims : (j : Option CellJob) → TrimsOnly (Spare xs) (scan_asks j)
        scan_trims None o e b has is = absurd has
        scan_trims (Some j) o e b has is = job_trims (Spare xs) j o e b has is

        trims : TrimsOnly (Spare xs) t.sends
        trims o e b has is = scan_trims t.now.scan o e b ((draws t i).sent o has (trim_asks o.msg e b is)) is

    abbrev Tells : Client m → Work m → Type 0
    Tells = FloorOk m (Spare xs) (grows xs) h.objects (entries_in m (after m h xs))

    moves : Moves' m h.objects (entries_in m (after m h xs)) (FloorOk m (Spare xs) (grows xs) h.objects (entries_in m (after m h xs))) c Steps
    moves = record {
      idle = record { sent = held.sent; clients = held.clients };
      unit = by_unit;
      layout = by_layout;
      seqr = by_seqr;
      commanded = λ k x less. turned k (client_command m (client_in m c k) x) less (command_ok (Spare xs) m (grows xs) h.objects (entries_in m (after m h xs)) (client_in m c k) x (held.clients k));
      ticked = λ k less. turned k (client_tick m (client_in m c k)) less (tick_ok (Spare xs) m (grows xs) h.objects (entries_in m (after m h xs)) (client_in m c k) (held.clients k));
      heard = λ k x comes f less. turned k (client_deliver m (client_in m c k) x.from x.rid x.msg) less (deliver_ok (Spare xs) m (grows xs) h.objects (entries_in m (after m h xs)) (client_in m c k) x.from x.rid x.msg (held.clients k) (client_hears k x comes) f);
    }

    stepped : (e : EventOf m) → EachEvent m h.objects (entries_in m (after m h xs)) (TellsSpare m (after m h xs)) (after m h xs) e → Steps (config m (happens m (after m h xs) e))
    stepped e f = step_by m h.objects (entries_in m (after m h xs)) (TellsSpare m (after m h xs)) (after m h xs) Steps moves e f

    in_log : (e b q : ℕ) → Spare xs e b → q < b → HasCell m (after m h xs) q
    in_log e b q k less = let s = k.whole q less in (s.cell, (log_is_settled m h xs (after m h xs) r held.were.safe).has q s.cell s.settled)

    safely : (e : EventOf m) → Steps (config m (happens m (after m h xs) e)) → TrimsSafely m (after m h xs) (happens m (after m h xs) e)
    safely e k x epoch b has is = inr (λ q less. in_log epoch b q (k.sent x epoch b (has_contained _ x has) (trim_is x.msg epoch b is)) less)

    were_now : WereSpare m h xs
    were_now = record { were = held.were; now = now }

  -- What a client holds is so by a later world too.

  module _ (xs zs : Moves m) (f : (e b : ℕ) → Spare xs e b → Spare zs e b) where
    copy_more : (e : ℕ) (w : CopyWork) → CopyOk (Spare xs) e w → CopyOk (Spare zs) e w
    copy_more e (Reading j) k = k
    copy_more e (Rattle.tg_protocol.specs.Trimming.Trimming r b) k = f e b k
    copy_more e (Rattle.tg_protocol.specs.Trimming.Sealing r) k = tt
    copy_more e (Rattle.tg_protocol.specs.Trimming.Storing r q x) k = tt
    copy_more e (Rattle.tg_protocol.specs.Trimming.Looking r) k = tt

    hand_more : (c : Client m) (d : Hand m) → HandOk m (Spare xs) (grows xs) h.objects (entries_in m (after m h xs)) c.stand d → HandOk m (Spare zs) (grows zs) h.objects (entries_in m (after m h zs)) c.stand d
    hand_more c (Doing (Trimming t)) k = f c.stand.epoch t.below k
    hand_more c (Doing (Copying' y)) k = copy_more c.stand.epoch y.work k
    hand_more c (Doing (Syncing s)) k = tt
    hand_more c (Doing (Walking v os)) k = tt
    hand_more c (Doing (Appending a y)) k = tt
    hand_more c (Doing (Reconfiguring v)) k = tt
    hand_more c (Learning ws (Trimming t)) k = f c.stand.epoch t.below k
    hand_more c (Learning ws (Copying' y)) k = tt
    hand_more c (Learning ws (Syncing s)) k = tt
    hand_more c (Learning ws (Walking v os)) k = tt
    hand_more c (Learning ws (Appending a y)) k = tt
    hand_more c (Learning ws (Reconfiguring v)) k = tt

    work_more : (c : Client m) (o : Option (Work m)) → WorkOk m (Spare xs) (grows xs) h.objects (entries_in m (after m h xs)) c.stand o → WorkOk m (Spare zs) (grows zs) h.objects (entries_in m (after m h zs)) c.stand o
    work_more c None k = tt
    work_more c (Some w) k = hand_more c w.hand k

    ok_more : (c : Client m) → Ok xs c → Ok zs c
    ok_more c k = work_more c c.work k

  -- Along the run.

  then_takes : (xs : Moves m) (e : EventOf m) → after m h (xs ++ Takes e ∷ []) ≡ happens m (after m h xs) e
  unfolding run
  then_takes xs e = run_both m xs (Takes e ∷ []) (start m h)

  then_next : (xs : Moves m) → after m h (xs ++ Next ∷ []) ≡ next_event m (after m h xs)
  unfolding run
  then_next xs = run_both m xs (Next ∷ []) (start m h)

  -- where an event was taken before a further move
  abbrev taken : EventOf m → Move m
  taken x = Takes x

  abbrev counted : Move m
  counted = Next

  is_event : (x y : EventOf m) → taken x ≡ taken y → x ≡ y
  is_event x y e = cc

  no_event : {X : Type 0} (x : EventOf m) → counted ≡ taken x → X
  no_event x e = absurd (cc)

  module _ (xs : Moves m) (e : EventOf m) (r : Reaches m h xs (after m h xs)) (rz : Reaches m h (xs ++ Takes e ∷ []) (after m h (xs ++ Takes e ∷ []))) (held : Held xs)
      (f : EachEvent m h.objects (entries_in m (after m h xs)) (TellsSpare m (after m h xs)) (after m h xs) e) where
    abbrev zs : Moves m
    zs = xs ++ Takes e ∷ []

    done : Steps xs r held (config m (happens m (after m h xs) e))
    done = stepped xs r held e f

    safe_on : TrimsWereSafe m h (xs ++ Takes e ∷ [])
    safe_on before y later split = by (splits xs (Takes e) before (Takes y) later split)
      where
        by : Splits xs (Takes e) before (Takes y) later → TrimsSafely m (run m before (start m h)) (happens m (run m before (start m h)) y)
        by (AtEnd i j) = subst (λ (ws : Moves m). TrimsSafely m (after m h ws) (happens m (after m h ws) y)) i (subst (λ (z : EventOf m). TrimsSafely m (after m h xs) (happens m (after m h xs) z)) (is_event e y j) (safely xs r held e done))
        by (Before rest i) = held.were.safe before y rest i

    spare_then : (v : World m) → GoesOn m h (xs ++ Takes e ∷ []) v → TrimsSaved m v
    spare_then v g = by (splits xs (Takes e) g.before (Takes g.event) g.later g.split)
      where
        by : Splits xs (Takes e) g.before (Takes g.event) g.later → TrimsSaved m v
        by (AtEnd i j) = subst (λ (w : World m). TrimsSaved m w) (ap (λ (ws : Moves m). after m h ws) i ∙ sym g.is) (now xs r held)
        by (Before rest i) = held.were.spare v (record { before = g.before; event = g.event; later = rest; split = i; is = g.is })

    late : (n b : ℕ) → Spare xs n b → Spare (xs ++ Takes e ∷ []) n b
    late n b k = spare_late m h (xs ++ Takes e ∷ []) rz xs (Takes e ∷ []) refl held.were.safe safe_on n b k

    done_then : Steps xs r held (config m (after m h (xs ++ Takes e ∷ [])))
    done_then = subst (λ (w : World m). Steps xs r held (config m w)) (sym (then_takes xs e)) done

    takes_held : Held (xs ++ Takes e ∷ [])
    takes_held = record {
      were = record { safe = safe_on; spare = spare_then };
      sent = λ x n b has is. late n b (done_then.sent x n b has is);
      clients = λ k. ok_more xs (xs ++ Takes e ∷ []) late (client_in m (config m (after m h (xs ++ Takes e ∷ []))) k) (done_then.clients k);
    }

  module _ (xs : Moves m) (rz : Reaches m h (xs ++ Next ∷ []) (after m h (xs ++ Next ∷ []))) (held : Held xs) where
    safe_next : TrimsWereSafe m h (xs ++ Next ∷ [])
    safe_next before y later split = by (splits xs Next before (Takes y) later split)
      where
        by : Splits xs Next before (Takes y) later → TrimsSafely m (run m before (start m h)) (happens m (run m before (start m h)) y)
        by (AtEnd i j) = no_event y j
        by (Before rest i) = held.were.safe before y rest i

    spare_next : (v : World m) → GoesOn m h (xs ++ Next ∷ []) v → TrimsSaved m v
    spare_next v g = by (splits xs Next g.before (Takes g.event) g.later g.split)
      where
        by : Splits xs Next g.before (Takes g.event) g.later → TrimsSaved m v
        by (AtEnd i j) = no_event g.event j
        by (Before rest i) = held.were.spare v (record { before = g.before; event = g.event; later = rest; split = i; is = g.is })

    late_next : (n b : ℕ) → Spare xs n b → Spare (xs ++ Next ∷ []) n b
    late_next n b k = spare_late m h (xs ++ Next ∷ []) rz xs (Next ∷ []) refl held.were.safe safe_next n b k

    next_held : Held (xs ++ Next ∷ [])
    next_held = record {
      were = record { safe = safe_next; spare = spare_next };
      sent = λ x n b has is. late_next n b (held.sent x n b (subst (λ (w : World m). Has w.packets x) (then_next xs) has) is);
      clients = λ k. ok_more xs (xs ++ Next ∷ []) late_next (client_in m (config m (after m h (xs ++ Next ∷ []))) k) (subst (λ (w : World m). Ok xs (client_in m (config m w) k)) (sym (then_next xs)) (held.clients k));
    }

  module _ (zs : Moves m) (r : Reaches m h zs (after m h zs)) (floors : FloorsSpare m h zs) where
    shifts : (xs : Moves m) (x : Move m) (ys : Moves m) → zs ≡ xs ++ x ∷ ys → zs ≡ (xs ++ x ∷ []) ++ ys
    shifts xs x ys e = e ∙ sym (joined xs (x ∷ []) ys)

    goes_on : (xs ms ys : Moves m) → zs ≡ xs ++ (ms ++ ys) → Held xs → Held (xs ++ ms)
    goes_on xs [] ys e a = subst (λ (us : Moves m). Held us) (sym (append-nil xs)) a
    goes_on xs (Next ∷ ms) ys e a =
        let s = shifts xs Next (ms ++ ys) e in
        subst (λ (us : Moves m). Held us) (joined xs (Next ∷ []) ms)
        (goes_on (xs ++ Next ∷ []) ms ys s (next_held xs (before_reached m h zs r (xs ++ Next ∷ []) (ms ++ ys) s) a))
    goes_on xs (Takes x ∷ ms) ys e a =
        let s = shifts xs (Takes x) (ms ++ ys) e in
        let rx = before_reached m h zs r xs (Takes x ∷ (ms ++ ys)) e in
        subst (λ (us : Moves m). Held us) (joined xs (Takes x ∷ []) ms)
        (goes_on (xs ++ Takes x ∷ []) ms ys s (takes_held xs x rx (before_reached m h zs r (xs ++ Takes x ∷ []) (ms ++ ys) s) a (floors xs (ms ++ ys) x e (were_now xs rx a))))

    start_client : (k : ℕ) → Ok [] (new_client m h k)
    unfolding new_client
    start_client k = tt

    start_held : Held []
    unfolding run start
    start_held = record {
      were = record { safe = λ before y later split. none_more before (Takes y) later split; spare = λ v g. none_more g.before (Takes g.event) g.later g.split };
      sent = λ x e b has. absurd has;
      clients = λ k. at_map (new_client m h) (numbers h.clients 0) k (new_client m h k) (λ (c : Client m). Ok [] c) (λ j. start_client j) (start_client k);
    }

    held_at : Held zs
    held_at = goes_on [] zs [] (sym (append-nil zs)) start_held

    pub trims_here : TrimsAre m h zs (after m h zs)
    trims_here =
        let spare = now zs r held_at in
        record { were = held_at.were; spare = spare; in_time = record { settled = λ x e b q has is less. spare.whole x e b q has is less } }

module _ (m : Meaning) where
  pub trims_are_spare : TrimsAreSpare m
  trims_are_spare h ms w r floors = subst (λ (v : World m). TrimsAre m h ms v) (sym r.goes.is) (trims_here m h ms (subst (λ (v : World m). Reaches m h ms v) r.goes.is r) floors)
