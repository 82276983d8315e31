-- What units, layout servers and sequencers make of such packets.
use Rattle.std.proofs.Common.{◌≡◌, ◌⊎◌, ℕ, ◌+◌, ◌^◌, ◌<◌, ◌≤◌, List, [], ◌∷◌, length, map, Bool, true, false, cond, eqb, refl, ap, ◌∙◌, sym, subst, inl, inr, arith, Some, None, Option}
use Rattle.std.specs.Prelude.{nat_lt, nat_le, min, slice_set, slice_index_or}
use Rattle.std.proofs.lemmas.Bool.Decides.{nat_tests}
use Rattle.tg_base.specs.Layouts.{Layout}
use Rattle.tg_base.specs.Clusters.{Header}
use Rattle.tg_base.specs.declared.ids.Ballot.{Ballot}
use Rattle.tg_base.specs.declared.ids.NodeId.{NodeId}
use Rattle.tg_base.specs.declared.ids.Role.TheVariants as role
use Rattle.tg_base.specs.declared.msg.Msg.{Msg}
use Rattle.tg_base.specs.declared.msg.Msg.TheVariants as msg
use Rattle.tg_base.specs.declared.packet.Out.{Out}
use Rattle.tg_base.specs.declared.packet.Packet.{Packet}
use Rattle.tg_base.specs.Orders.{node_eq}
use Rattle.tg_kind.specs.Meaning.{Meaning}
use Rattle.tg_protocol.specs.Words.{unit_id, layout_id, seqr_id, client_id, ballot_lt}
use Rattle.tg_protocol.specs.Layouts.{first_layout}
use Rattle.tg_protocol.specs.Requests.{out, awaits, Waits, asked_of, Next, Goes, Learns, Ends}
use Rattle.tg_protocol.specs.Replies.{Reply, IsFenced, IsLatest, IsOther, reply}
use Rattle.tg_protocol.specs.Units.{UnitState, UnitAsk, UnitTurn, Reads, Stores, Fills, Looks, new_unit, unit_ask, unit_step, on_ask}
use Rattle.tg_protocol.specs.LayoutServers.{LayoutState, LayoutTurn, Vote, vote_of, new_layout, says, tells_latest, layout_ask, on_layout_ask, layout_step, on_prepare, on_accept, on_decided, past_first}
use Rattle.tg_protocol.specs.Cells.{Place, CellJob, CellWork, Puts, Gets, Fills as FillsCell, Copies, Probes, CellEnd, Done, Seen, Lost, Fenced, Gone, work_asks, cell_asks, cell_feed, work_feed, get_cell, fill_cell}
use Rattle.tg_protocol.specs.Sequencers.{SeqrState, SeqrTurn, new_seqr, seqr_step, seqr_tick, seqr_asks, scan_asks, scan_fed, fed_if, scan_next, scan_ended, scan_on, scanning, with_positions, cell_streams, begun, answers, on_learn, learn_or_old, unfenced, stand_answer}
use Rattle.tg_protocol.specs.Worlds.{packet_of, answer_to}
use Rattle.tg_law_layouts.proofs.Moves.Members.{Has, set_long}
use Rattle.tg_law_layouts.proofs.Agreement.Servers as votes
use Rattle.tg_law_layouts.proofs.Agreement.Servers.{server_moves}
use Rattle.tg_law_finish.proofs.Finish.Lists.{Each, each_filter, set_index, set_there}
use Rattle.tg_law_finish.proofs.Finish.Nets.{Net, net_after, sent_then, on_in, Alike, on_alike, unit_alike, seqr_alike, unit_of, layout_of, seqr_of, client_of}
use Rattle.tg_law_finish.proofs.Finish.Others.{weigh, weight, to_weighs}
use Rattle.tg_law_finish.proofs.Finish.Strays.{is_plain, unit_plain}
use Rattle.tg_law_reconfs.proofs.Votes.{contrary, ballot, promised, OfEpoch, ServerFine, FenceLow, SeqrLow, Base, IsScan, OfUnit, TellsLow, AskOk, TellOk, LearnTold, LatestLow, DecidedTold, scan_packet, told_packet, answer_packet, Ok, Scans, Scanned, Tells, Grows}
use Rattle.tg_law_reconfs.proofs.Looks.{unit_says}

-- A unit's answer to a scan.

fenced_is : (s : UnitState) (a : UnitAsk) (e : ℕ) → (on_ask s a).says ≡ Some (msg.Fenced e) → e ≡ s.epoch
unfolding on_ask
fenced_is s a e is = grind arith

read_epoch : (s : UnitState) (e p : ℕ) → (on_ask s (Reads e p)).now.epoch ≡ s.epoch
unfolding on_ask
read_epoch s e p = grind arith

store_epoch : (s : UnitState) (e p : ℕ) (c : Rattle.tg_base.specs.declared.cell.Cell.Cell) → (on_ask s (Stores e p c)).now.epoch ≡ s.epoch
unfolding on_ask
store_epoch s e p c = grind arith

fill_epoch : (s : UnitState) (e p : ℕ) → (on_ask s (Fills e p)).now.epoch ≡ s.epoch
unfolding on_ask
fill_epoch s e p = grind arith

look_epoch : (s : UnitState) (e lo hi step : ℕ) → (on_ask s (Looks e lo hi step)).now.epoch ≡ s.epoch
unfolding on_ask
look_epoch s e lo hi step = grind arith

-- A scan's fence is the unit's.

fence_from : (j : CellJob) (u : ℕ) (x : Reply) (next v e : ℕ) → (cell_feed j u x next).to ≡ Ends (Fenced v e) → x ≡ IsFenced e
unfolding cell_feed work_feed get_cell fill_cell
fence_from j u x next v e is = grind arith

reply_fence : (y : Msg) (e : ℕ) → reply y ≡ IsFenced e → y ≡ msg.Fenced e
unfolding reply
reply_fence y e is = grind arith

pub never_learns : (j : CellJob) (u : ℕ) (x : Reply) (next : ℕ) (i : CellJob) → (cell_feed j u x next).to ≡ Learns i → ⊥
unfolding cell_feed work_feed get_cell fill_cell
never_learns j u x next i e = grind arith

not_below_itself : (b : Ballot) → ballot_lt b b ≡ false
not_below_itself b = grind arith

at_least : (a b : ℕ) → nat_lt a b ≡ false → b ≤ a
at_least a b e = grind arith

some_is : {A : Type 0} → (x y : A) → Some x ≡ Some y → x ≡ y
some_is x y e = cc

module _ (m : Meaning) (h : Header) (stopped : List NodeId) (k epoch servers top round : ℕ) where
  abbrev Low : SeqrState → Type 0
  Low s = SeqrLow m h stopped k epoch servers top round s

  abbrev FineServer : LayoutState → Type 0
  FineServer s = ServerFine m h stopped k epoch servers top round s

  abbrev B : Ballot
  B = ballot m h stopped k epoch servers top round

  abbrev TellsLow' : Msg → Type 0
  TellsLow' y = TellsLow m h stopped k epoch servers top round y

  pub scan_epoch : (s : UnitState) (a : UnitAsk) → IsScan m h stopped k epoch servers top round a → (on_ask s a).now.epoch ≡ s.epoch
  scan_epoch s (Reads e p) f = read_epoch s e p
  scan_epoch s (Stores e p c) f = store_epoch s e p c
  scan_epoch s (Fills e p) f = fill_epoch s e p
  scan_epoch s (Looks e lo hi step) f = look_epoch s e lo hi step
  scan_epoch s (Rattle.tg_protocol.specs.Units.Seals e) f = absurd f
  scan_epoch s (Rattle.tg_protocol.specs.Units.TrimsBelow e b) f = absurd f
  scan_epoch s Rattle.tg_protocol.specs.Units.Nothing f = absurd f

  low_by : (z : Msg) → is_plain z ≡ true → ((e : ℕ) → z ≡ msg.Fenced e → e ≤ epoch) → TellsLow' z
  unfolding is_plain
  low_by (msg.Fenced e) p f = f e refl
  low_by (msg.Learn q) p f = absurd cc
  low_by (msg.Token e os) p f = absurd cc
  low_by (msg.Check e os) p f = absurd cc
  low_by z p f = tt

  pub scan_tells : (s : UnitState) (y z : Msg) → s.epoch ≤ epoch → (unit_step s y).says ≡ Some z → TellsLow' z
  unfolding unit_step
  scan_tells s y z le e = low_by z (unit_plain s y z e) (λ f g. let i = fenced_is s (unit_ask y) f (e ∙ ap (λ (x : Msg). Some x) g) in omega (arith, i, le))

  -- Scans.

  pub record AsksScan (o : Out) : Type 0 where
    pub unit : ℕ
    pub to : o.to ≡ unit_id unit
    pub scan : IsScan m h stopped k epoch servers top round (unit_ask o.msg)

  asks_all : (y : Msg) (ws : Waits) → IsScan m h stopped k epoch servers top round (unit_ask y) → Each AsksScan (asked_of unit_id y ws)
  asks_all y [] f = tt
  asks_all y (w ∷ ws) f = (record { unit = w.0; to = refl; scan = f }, asks_all y ws f)

  cell_asks_scan : (a : Place) (w : CellWork) → Each AsksScan (work_asks a w)
  unfolding work_asks unit_ask
  cell_asks_scan a (Puts r d i) = (record { unit = _; to = refl; scan = tt }, tt)
  cell_asks_scan a (Gets r) = (record { unit = _; to = refl; scan = tt }, tt)
  cell_asks_scan a (FillsCell r) = (record { unit = _; to = refl; scan = tt }, tt)
  cell_asks_scan a (Copies r c i) = (record { unit = _; to = refl; scan = tt }, tt)
  cell_asks_scan a (Probes ws) = asks_all _ ws tt

  pub scans_ask : (o : Option CellJob) → Each AsksScan (scan_asks o)
  scans_ask None = tt
  scans_ask (Some j) = cell_asks_scan j.place j.work

  on_low : (s : SeqrState) (b : Bool) → Low s → Low (scan_on s b)
  unfolding get_cell
  on_low s true f = record { stands = f.stands; fence = f.fence }
  on_low s false f = record { stands = f.stands; fence = f.fence }

  ended_low : (s : SeqrState) (e : CellEnd) → ((u f : ℕ) → e ≡ Fenced u f → f ≤ epoch) → Low s → Low (scan_ended s e)
  ended_low s (Done c) t f = on_low (record s { next = s.next + 1; lists = with_positions s.next (cell_streams c) s.lists }) _ (record { stands = f.stands; fence = f.fence })
  ended_low s (Gone b) t f = on_low (record s { next = min b s.proj.start }) _ (record { stands = f.stands; fence = f.fence })
  ended_low s (Fenced u e) t f = record { stands = f.stands; fence = t u e refl }
  ended_low s Seen t f = f
  ended_low s (Lost c) t f = f

  next_low : (s : SeqrState) (n : Next CellJob CellEnd) → ((u f : ℕ) → n ≡ Ends (Fenced u f) → f ≤ epoch) → Low s → Low (scan_next s n)
  next_low s (Goes j) t f = record { stands = f.stands; fence = f.fence }
  next_low s (Learns j) t f = record { stands = f.stands; fence = f.fence }
  next_low s (Ends e) t f = ended_low s e (λ u g is. t u g (ap (λ (x : CellEnd). Ends x) is)) f

  fence_low : (y : Msg) (e : ℕ) → TellsLow' y → y ≡ msg.Fenced e → e ≤ epoch
  fence_low y e low is = subst TellsLow' is low

  pub record LowTurn (t : SeqrTurn) : Type 0 where
    pub now : Low t.now
    pub sends : Each AsksScan t.sends

  fed_low : (b : Bool) (old s : SeqrState) → Low old → Low s → LowTurn (fed_if b old s)
  fed_low true old s a f = record { now = f; sends = each_filter AsksScan _ (seqr_asks s) (scans_ask s.scan) }
  fed_low false old s a f = record { now = a; sends = tt }

  scan_fed_low : (s : SeqrState) (o : Option CellJob) (from : NodeId) (rid : ℕ) (y : Msg) → TellsLow' y → Low s → LowTurn (scan_fed s o from rid y)
  scan_fed_low s None from rid y low f = record { now = f; sends = tt }
  scan_fed_low s (Some j) from rid y low f = fed_low (awaits (cell_asks j) from rid) s _ f
      (next_low _ (cell_feed j from.num (reply y) s.rids).to (λ u e is. fence_low y e low (reply_fence y e (fence_from j from.num (reply y) s.rids u e is))) (record { stands = f.stands; fence = f.fence }))

  pub told_low : (s : SeqrState) (from : NodeId) (rid : ℕ) (y : Msg) → TellsLow' y → Low s → LowTurn (seqr_step s from rid y)
  unfolding seqr_step
  told_low s from rid (msg.Learn q) low f = absurd low
  told_low s from rid (msg.Token e os) low f = absurd low
  told_low s from rid (msg.Check e os) low f = absurd low
  told_low s from rid y low f = scan_fed_low s s.scan from rid y low f

  -- A sequencer learns a layout.

  pub record LearnTurn (from : NodeId) (rid : ℕ) (t : SeqrTurn) : Type 0 where
    pub now : Low t.now
    pub says : Msg
    pub scans : List Out
    pub sends : t.sends ≡ out from rid says ∷ scans
    pub ask : Each AsksScan scans
    pub told : LearnTold m h stopped k epoch servers top round (reply says)
    pub low : LatestLow m h stopped k epoch servers top round (reply says)

  stand_told : (s : SeqrState) (b : Bool) → LearnTold m h stopped k epoch servers top round (reply (stand_answer s [] b)) × LatestLow m h stopped k epoch servers top round (reply (stand_answer s [] b))
  unfolding reply
  stand_told s true = (tt, tt)
  stand_told s false = by (Rattle.tg_protocol.specs.Words.too_far s.next)
    where
      by : (b : Bool) → LearnTold m h stopped k epoch servers top round (cond b IsOther (Rattle.tg_protocol.specs.Replies.IsTail s.next [])) × LatestLow m h stopped k epoch servers top round (cond b IsOther (Rattle.tg_protocol.specs.Replies.IsTail s.next []))
      by true = (tt, tt)
      by false = (tt, tt)

  old_told : (e : ℕ) → e ≤ epoch → LearnTold m h stopped k epoch servers top round (reply (msg.OldEpoch e)) × LatestLow m h stopped k epoch servers top round (reply (msg.OldEpoch e))
  unfolding reply
  old_told e le = (le, tt)

  unfenced_learns : (o : Option ℕ) (s : SeqrState) (from : NodeId) (rid : ℕ) → FenceLow m h stopped k epoch servers top round o → Low s → LearnTurn from rid (unfenced o s from rid (answers s from rid (stand_answer s [] (scanning s))))
  unfenced_learns None s from rid low f = let a = stand_told s (scanning s) in record { now = f; says = _; scans = []; sends = refl; ask = tt; told = a.0; low = a.1 }
  unfenced_learns (Some e) s from rid low f = let a = old_told e low in record { now = f; says = _; scans = []; sends = refl; ask = tt; told = a.0; low = a.1 }

  begun_low : (s : SeqrState) (q : Layout) → q.epoch ≤ epoch → Low (begun s q)
  begun_low s q le = on_low (record s { epoch = q.epoch; proj = q; next = 0; lists = []; fence = None; scan = None }) _ (record { stands = le; fence = tt })

  on_learns : (s : SeqrState) (q : Layout) (from : NodeId) (rid : ℕ) (b : Bool) → q.epoch ≤ epoch → Low s → LearnTurn from rid (on_learn s q from rid b)
  on_learns s q from rid true le f = let a = stand_told (begun s q) (scanning (begun s q)) in record { now = begun_low s q le; says = _; scans = _; sends = refl; ask = each_filter AsksScan _ (seqr_asks (begun s q)) (scans_ask (begun s q).scan); told = a.0; low = a.1 }
  on_learns s q from rid false le f = unfenced_learns s.fence s from rid f.fence f

  learn_or : (s : SeqrState) (q : Layout) (from : NodeId) (rid : ℕ) (b : Bool) → q.epoch ≤ epoch → Low s → LearnTurn from rid (learn_or_old s q from rid b)
  learn_or s q from rid true le f = let a = old_told s.epoch f.stands in record { now = f; says = _; scans = []; sends = refl; ask = tt; told = a.0; low = a.1 }
  learn_or s q from rid false le f = on_learns s q from rid _ le f

  pub learn_low : (s : SeqrState) (q : Layout) (from : NodeId) (rid : ℕ) → q.epoch ≤ epoch → Low s → LearnTurn from rid (seqr_step s from rid (msg.Learn q))
  unfolding seqr_step
  learn_low s q from rid le f = learn_or s q from rid _ le f

  pub tick_low : (s : SeqrState) → Low s → LowTurn (seqr_tick s)
  unfolding seqr_tick
  tick_low s f = record { now = f; sends = scans_ask s.scan }

  -- Layout servers.

  module _ (past : 2 ≤ epoch) (small : epoch < 2 ^ 32) where
    abbrev vote : LayoutState → Vote
    vote s = vote_of s epoch

    -- how a server goes on, and what it says
    pub record ServerTurn (s : LayoutState) (i : ℕ) (y : Msg) (t : LayoutTurn) : Type 0 where
      pub now : FineServer t.now
      pub says : Msg
      pub is : t.says ≡ Some says
      pub low : LatestLow m h stopped k epoch servers top round (reply says)
      pub same_or : ((vote t.now).promised ≡ (vote s).promised) ⊎ (((vote t.now).promised ≡ B) × (ballot_lt B (vote s).promised ≡ false))
      pub told : (v : Net m) → (promised m h stopped k epoch servers top round v i ≡ (vote t.now).promised) → TellOk m h stopped k epoch servers top round v (layout_id i) y (reply says)

    not_first : eqb epoch 1 ≡ false
    not_first = grind (arith, past)

    promise_told : (v : Net m) (i : ℕ) (s : LayoutState) (a : Rattle.tg_protocol.specs.Reconfiguring.Before) → OfEpoch m h stopped k epoch servers top round a → ballot_lt B (promised m h stopped k epoch servers top round v i) ≡ false
        → TellOk m h stopped k epoch servers top round v (layout_id i) (msg.Prepare epoch B) (reply (msg.Promise epoch B a))
    unfolding reply
    promise_told v i s a f e = (refl, (refl, (refl, (f, e))))

    nack_prepare : (v : Net m) (i : ℕ) (b : Ballot) → b ≡ promised m h stopped k epoch servers top round v i → ballot_lt B b ≡ true → TellOk m h stopped k epoch servers top round v (layout_id i) (msg.Prepare epoch B) (reply (msg.Nack epoch b))
    unfolding reply
    nack_prepare v i b e f = (refl, (refl, (e, f)))

    nack_accept : (v : Net m) (i : ℕ) (b : Ballot) (q : Layout) → b ≡ promised m h stopped k epoch servers top round v i → ballot_lt B b ≡ true → TellOk m h stopped k epoch servers top round v (layout_id i) (msg.Accept epoch B q) (reply (msg.Nack epoch b))
    unfolding reply
    nack_accept v i b q e f = (refl, (refl, (e, f)))

    accept_told : (v : Net m) (i : ℕ) (q : Layout) → ballot_lt B (promised m h stopped k epoch servers top round v i) ≡ false → TellOk m h stopped k epoch servers top round v (layout_id i) (msg.Accept epoch B q) (reply (msg.Accepted epoch B))
    unfolding reply
    accept_told v i q e = (refl, (refl, (refl, e)))

    nack_low : (b : Ballot) → LatestLow m h stopped k epoch servers top round (reply (msg.Nack epoch b))
    unfolding reply
    nack_low b = tt

    promise_low : (a : Rattle.tg_protocol.specs.Reconfiguring.Before) → LatestLow m h stopped k epoch servers top round (reply (msg.Promise epoch B a))
    unfolding reply
    promise_low a = tt

    accepted_low : LatestLow m h stopped k epoch servers top round (reply (msg.Accepted epoch B))
    unfolding reply
    accepted_low = tt

    -- the vote after a promise
    promised_vote : (s : LayoutState) (t : LayoutTurn) (y : Msg) → votes.Moved epoch (vote s) y (vote t.now) t.says → (a : Rattle.tg_protocol.specs.Reconfiguring.Before) → t.says ≡ Some (msg.Promise epoch B a) → vote t.now ≡ record { promised = B; accepted = (vote s).accepted }
    promised_vote s t y (votes.Kept same no_promise no_acceptance no_proposal) a is = absurd (no_promise B a is)
    promised_vote s t y (votes.Promises b above is said) a says = is ∙ ap (λ (c : Ballot). record { promised = c; accepted = (vote s).accepted }) (same b B (vote s).accepted a (sym said ∙ says))
      where
        same : (b c : Ballot) (x y : Rattle.tg_protocol.specs.Reconfiguring.Before) → Some (msg.Promise epoch b x) ≡ Some (msg.Promise epoch c y) → b ≡ c
        same b c x y e = cc
    promised_vote s t y (votes.Votes b q asked above is said) a says = absurd (never b a (sym said ∙ says))
      where
        never : (b : Ballot) (x : Rattle.tg_protocol.specs.Reconfiguring.Before) → Some (msg.Accepted epoch b) ≡ Some (msg.Promise epoch B x) → ⊥
        never b x e = cc

    accepted_vote : (s : LayoutState) (t : LayoutTurn) (q : Layout) → votes.Moved epoch (vote s) (msg.Accept epoch B q) (vote t.now) t.says → t.says ≡ Some (msg.Accepted epoch B) → vote t.now ≡ record { promised = B; accepted = Some (B, q) }
    accepted_vote s t q (votes.Kept same no_promise no_acceptance no_proposal) is = absurd (no_acceptance B is)
    accepted_vote s t q (votes.Promises b above is said) says = absurd (never b (vote s).accepted (sym said ∙ says))
      where
        never : (b : Ballot) (x : Rattle.tg_protocol.specs.Reconfiguring.Before) → Some (msg.Promise epoch b x) ≡ Some (msg.Accepted epoch B) → ⊥
        never b x e = cc
    accepted_vote s t q (votes.Votes b p asked above is said) told = is ∙ (ap (λ (x : Ballot). record { promised = x; accepted = Some (x, p) }) (same b B p q (sym said ∙ told)) ∙ ap (λ (x : Layout). record { promised = B; accepted = Some (B, x) }) (same' b B p q asked))
      where
        same : (b c : Ballot) (p q : Layout) → Some (msg.Accepted epoch b) ≡ Some (msg.Accepted epoch c) → b ≡ c
        same b c p q e = cc

        same' : (b c : Ballot) (p q : Layout) → msg.Accept epoch c q ≡ msg.Accept epoch b p → p ≡ q
        same' b c p q f = cc

    module _ (fits : round ≤ top) where
      prepare_is : (s : LayoutState) (b : Bool) → ballot_lt B (vote s).promised ≡ b → layout_step s (msg.Prepare epoch B) ≡ on_prepare s epoch B (vote s) b
      unfolding layout_step layout_ask on_layout_ask
      prepare_is s b e = ap (λ c. past_first c s (on_prepare s epoch B (vote s) (ballot_lt B (vote s).promised))) not_first ∙ ap (λ c. on_prepare s epoch B (vote s) c) e

      accept_is : (s : LayoutState) (q : Layout) (b : Bool) → ballot_lt B (vote s).promised ≡ b → layout_step s (msg.Accept epoch B q) ≡ on_accept s epoch B q (vote s) b
      unfolding layout_step layout_ask on_layout_ask
      accept_is s q b e = ap (λ c. past_first c s (on_accept s epoch B q (vote s) (ballot_lt B (vote s).promised))) not_first ∙ ap (λ c. on_accept s epoch B q (vote s) c) e

      prepare_by : (s : LayoutState) (i : ℕ) (b : Bool) → ballot_lt B (vote s).promised ≡ b → FineServer s → ServerTurn s i (msg.Prepare epoch B) (on_prepare s epoch B (vote s) b)
      prepare_by s i true e f = record { now = f; says = _; is = refl; low = nack_low _; same_or = inl refl; told = λ v g. nack_prepare v i _ (sym g) e }
      prepare_by s i false e f =
          let t = on_prepare s epoch B (vote s) false in
          let g = promised_vote s t (msg.Prepare epoch B) (subst (λ (u : LayoutTurn). votes.Moved epoch (vote s) (msg.Prepare epoch B) (vote u.now) u.says) (prepare_is s false e) (server_moves epoch s (msg.Prepare epoch B))) (vote s).accepted refl in
          record {
            now = record { latest = f.latest; rounds = subst (λ (v : Vote). v.promised.round ≤ top) (sym g) fits; accepted = subst (λ (v : Vote). OfEpoch m h stopped k epoch servers top round v.accepted) (sym g) f.accepted };
            says = _;
            is = refl;
            low = promise_low _;
            same_or = inr (ap (λ (v : Vote). v.promised) g, e);
            told = λ v same. promise_told v i s _ f.accepted (ap (λ (b : Ballot). ballot_lt B b) (same ∙ ap (λ (v : Vote). v.promised) g) ∙ not_below_itself B);
          }

      accept_by : (s : LayoutState) (i : ℕ) (q : Layout) (b : Bool) → q.epoch ≡ epoch → ballot_lt B (vote s).promised ≡ b → FineServer s → ServerTurn s i (msg.Accept epoch B q) (on_accept s epoch B q (vote s) b)
      accept_by s i q true of e f = record { now = f; says = _; is = refl; low = nack_low _; same_or = inl refl; told = λ v g. nack_accept v i _ q (sym g) e }
      accept_by s i q false of e f =
          let t = on_accept s epoch B q (vote s) false in
          let g = accepted_vote s t q (subst (λ (u : LayoutTurn). votes.Moved epoch (vote s) (msg.Accept epoch B q) (vote u.now) u.says) (accept_is s q false e) (server_moves epoch s (msg.Accept epoch B q))) refl in
          record {
            now = record { latest = f.latest; rounds = subst (λ (v : Vote). v.promised.round ≤ top) (sym g) fits; accepted = subst (λ (v : Vote). OfEpoch m h stopped k epoch servers top round v.accepted) (sym g) of };
            says = _;
            is = refl;
            low = accepted_low;
            same_or = inr (ap (λ (v : Vote). v.promised) g, e);
            told = λ v same. accept_told v i q (ap (λ (b : Ballot). ballot_lt B b) (same ∙ ap (λ (v : Vote). v.promised) g) ∙ not_below_itself B);
          }

      pub latest_is : (q : Layout) → q.epoch ≤ epoch → reply (msg.Latest q) ≡ IsLatest q
      unfolding reply
      latest_is q le = ap (λ b. cond b IsOther (IsLatest q)) (not_far q.epoch (omega (arith, le, small)))
        where
          not_far : (a : ℕ) → a < 2 ^ 32 → nat_le (2 ^ 32) a ≡ false
          not_far a less = grind (arith, nat_tests, less)

      pub tells_low : (q : Layout) → q.epoch ≤ epoch → LatestLow m h stopped k epoch servers top round (reply (msg.Latest q))
      tells_low q le = subst (λ (x : Reply). LatestLow m h stopped k epoch servers top round x) (sym (latest_is q le)) le

      told_decided : (v : Net m) (i : ℕ) (p q : Layout) → q.epoch ≡ epoch → TellOk m h stopped k epoch servers top round v (layout_id i) (msg.Decided p) (reply (msg.Latest q))
      told_decided v i p q e = subst (λ (x : Reply). DecidedTold m h stopped k epoch servers top round x) (sym (latest_is q (omega (arith, e)))) e

      decided_by : (s : LayoutState) (i : ℕ) (q : Layout) (b : Bool) → q.epoch ≡ epoch → nat_lt s.latest.epoch q.epoch ≡ b → FineServer s → ServerTurn s i (msg.Decided q) (on_decided s q b)
      decided_by s i q true of e f = record { now = record { latest = omega (arith, of); rounds = f.rounds; accepted = f.accepted }; says = _; is = refl; low = tells_low q (omega (arith, of)); same_or = inl refl; told = λ v g. told_decided v i q q of }
      decided_by s i q false of e f = record { now = f; says = _; is = refl; low = tells_low s.latest f.latest; same_or = inl refl; told = λ v g. told_decided v i q s.latest (let a = at_least s.latest.epoch q.epoch e in let b = f.latest in omega (arith, a, b, of)) }

      latest_by : (s : LayoutState) (i : ℕ) → FineServer s → ServerTurn s i msg.AskLatest (tells_latest s)
      latest_by s i f = record { now = f; says = _; is = refl; low = tells_low s.latest f.latest; same_or = inl refl; told = λ v g. tt }

      pub server_turn : (s : LayoutState) (i : ℕ) (to : NodeId) (y : Msg) → ((x : ℕ) → to ≡ seqr_id x → ⊥) → AskOk m h stopped k epoch servers top round to y → FineServer s → ServerTurn s i y (layout_step s y)
      unfolding layout_step layout_ask on_layout_ask
      server_turn s i to (msg.Prepare e b) far ok f = subst (λ (x : ℕ). ServerTurn s i (msg.Prepare x b) (layout_step s (msg.Prepare x b))) (sym ok.1.0) (subst (λ (x : Ballot). ServerTurn s i (msg.Prepare epoch x) (layout_step s (msg.Prepare epoch x))) (sym ok.1.1)
          (subst (λ (t : LayoutTurn). ServerTurn s i (msg.Prepare epoch B) t) (sym (prepare_is s (ballot_lt B (vote s).promised) refl)) (prepare_by s i _ refl f)))
      server_turn s i to (msg.Accept e b q) far ok f = subst (λ (x : ℕ). ServerTurn s i (msg.Accept x b q) (layout_step s (msg.Accept x b q))) (sym ok.1.0) (subst (λ (x : Ballot). ServerTurn s i (msg.Accept epoch x q) (layout_step s (msg.Accept epoch x q))) (sym ok.1.1.0)
          (subst (λ (t : LayoutTurn). ServerTurn s i (msg.Accept epoch B q) t) (sym (accept_is s q (ballot_lt B (vote s).promised) refl)) (accept_by s i q _ ok.1.1.1 refl f)))
      server_turn s i to (msg.Decided q) far ok f = decided_by s i q _ ok.1 refl f
      server_turn s i to msg.AskLatest far ok f = latest_by s i f
      server_turn s i to (msg.Learn q) far ok f = absurd (far ok.0.0 ok.0.1)
      server_turn s i to y far ok f = absurd ok

      -- All nodes.

      abbrev Fits : Net m → Type 0
      Fits s = Base m h stopped k epoch servers top round s

      abbrev Rises : Net m → Net m → Type 0
      Rises s t = Grows m h stopped k epoch servers top round s t

      abbrev OkAt : Net m → ℕ → List Out → Packet → Type 0
      OkAt s next aw x = Ok m h stopped k epoch servers top round s next aw x

      abbrev heavy : List Packet → ℕ
      heavy q = weigh m h stopped k (first_layout h) q

      pub record NodeTurn (s t : Net m) (next : ℕ) (aw : List Out) (sent : List Packet) (light : ℕ) : Type 0 where
        pub base : Fits t
        pub grows : Rises s t
        pub alike : Alike m s t
        pub client : client_of m h t k ≡ client_of m h s k
        pub each : Each (OkAt t next aw) sent
        pub few : heavy sent ≤ light

      on_same : (s t : Net m) → Alike m s t → on_in m stopped s (client_id k) ≡ true → on_in m stopped t (client_id k) ≡ true
      on_same s t a e = on_alike m stopped s t a (client_id k) ∙ e

      told_scan : (x u rid : ℕ) (y : Msg) → heavy (told_packet m h stopped k epoch servers top round x u rid y ∷ []) ≡ 0
      unfolding weigh weight node_eq
      told_scan x u rid y = refl

      unit_each : (s : Net m) (next : ℕ) (aw : List Out) (x u rid : ℕ) (y : Msg) (o : Option Msg) → ((z : Msg) → o ≡ Some z → TellsLow' z) → Each (OkAt s next aw) (answer_to m (scan_packet m h stopped k epoch servers top round x u rid y) o) × (heavy (answer_to m (scan_packet m h stopped k epoch servers top round x u rid y) o) ≡ 0)
      unfolding weigh
      unit_each s next aw x u rid y None low = (tt, refl)
      unit_each s next aw x u rid y (Some z) low = ((Scanned x u rid z (low z refl), tt), told_scan x u rid z)

      -- a scan comes to a unit
      pub scan_comes : (s : Net m) (next : ℕ) (aw : List Out) (x u rid : ℕ) (y : Msg) → IsScan m h stopped k epoch servers top round (unit_ask y) → Fits s
          → NodeTurn s (net_after m h s (scan_packet m h stopped k epoch servers top round x u rid y) role.Unit) next aw (sent_then m h s (scan_packet m h stopped k epoch servers top round x u rid y) role.Unit) 0
      unfolding unit_step
      scan_comes s next aw x u rid y scan b =
          let now = (unit_step (unit_of m s u) y).now in
          let t = net_after m h s (scan_packet m h stopped k epoch servers top round x u rid y) role.Unit in
          let alike = unit_alike m s u now in
          let e = unit_each t next aw x u rid y (unit_step (unit_of m s u) y).says (λ z i. scan_tells (unit_of m s u) y z (b.units u) i) in
          let light = e.1 in
          record {
            base = record { on = on_same s t alike b.on; units = units; layouts = b.layouts; seqrs = b.seqrs; idle = λ j off on. b.idle j off (sym (on_alike m stopped s t alike (client_id j)) ∙ on) };
            grows = record { on = λ n e. on_alike m stopped s t alike n ∙ e; low = λ n e. e; high = λ n b e f. e };
            alike = alike;
            client = refl;
            each = e.0;
            few = omega (arith, light);
          }
        where
          units : (v : ℕ) → (slice_index_or (slice_set s.units u (unit_step (unit_of m s u) y).now) v new_unit).epoch ≤ epoch
          units v = by (set_index s.units u (unit_step (unit_of m s u) y).now v new_unit)
            where
              by : ((v ≡ u) × (slice_index_or (slice_set s.units u (unit_step (unit_of m s u) y).now) v new_unit ≡ (unit_step (unit_of m s u) y).now)) ⊎ (slice_index_or (slice_set s.units u (unit_step (unit_of m s u) y).now) v new_unit ≡ unit_of m s v)
                  → (slice_index_or (slice_set s.units u (unit_step (unit_of m s u) y).now) v new_unit).epoch ≤ epoch
              by (inl c) = subst (λ (z : UnitState). z.epoch ≤ epoch) (sym c.1) (let le = b.units u in let e = scan_epoch (unit_of m s u) (unit_ask y) scan in omega (arith, le, e))
              by (inr c) = subst (λ (z : UnitState). z.epoch ≤ epoch) (sym c) (b.units v)

      scan_light : (x u rid : ℕ) (y : Msg) → weight m h stopped k (first_layout h) (scan_packet m h stopped k epoch servers top round x u rid y) ≡ 0
      unfolding weight node_eq
      scan_light x u rid y = refl

      pub scans_each : (s : Net m) (next : ℕ) (aw : List Out) (x : ℕ) (os : List Out) → Each AsksScan os → Each (OkAt s next aw) (map (packet_of m (seqr_id x)) os) × (heavy (map (packet_of m (seqr_id x)) os) ≡ 0)
      unfolding weigh
      scans_each s next aw x [] a = (tt, refl)
      scans_each s next aw x (o ∷ os) a =
          let rest = scans_each s next aw x os a.1 in
          let f = one o a.0 in
          let e = f.1 in
          let g = rest.1 in
          ((f.0, rest.0), omega (arith, e, g))
        where
          one : (o : Out) → AsksScan o → OkAt s next aw (packet_of m (seqr_id x) o) × (weight m h stopped k (first_layout h) (packet_of m (seqr_id x) o) ≡ 0)
          one o a = (
            subst (λ (n : NodeId). OkAt s next aw (record { from = seqr_id x; to = n; rid = o.rid; msg = o.msg })) (sym a.to) (Scans x a.unit o.rid o.msg a.scan),
            subst (λ (n : NodeId). weight m h stopped k (first_layout h) (record { from = seqr_id x; to = n; rid = o.rid; msg = o.msg }) ≡ 0) (sym a.to) (scan_light x a.unit o.rid o.msg),
          )

      pub base_seqr : (s : Net m) (x : ℕ) (now : SeqrState) → Low now → Fits s → Fits (record s { seqrs = slice_set s.seqrs x now })
      base_seqr s x now low b = record {
        on = on_same s _ (seqr_alike m s x now) b.on;
        units = b.units;
        layouts = b.layouts;
        seqrs = λ y. by y (set_index s.seqrs x now y (new_seqr y h.limit (first_layout h)));
        idle = λ j off on. b.idle j off (sym (on_alike m stopped s (record s { seqrs = slice_set s.seqrs x now }) (seqr_alike m s x now) (client_id j)) ∙ on);
      }
        where
          by : (y : ℕ) → ((y ≡ x) × (slice_index_or (slice_set s.seqrs x now) y (new_seqr y h.limit (first_layout h)) ≡ now)) ⊎ (slice_index_or (slice_set s.seqrs x now) y (new_seqr y h.limit (first_layout h)) ≡ seqr_of m h s y) → Low (slice_index_or (slice_set s.seqrs x now) y (new_seqr y h.limit (first_layout h)))
          by y (inl c) = subst Low (sym c.1) low
          by y (inr c) = subst Low (sym c) (b.seqrs y)

      -- a sequencer's turn without an answer to the client
      pub seqr_turned : (s : Net m) (next : ℕ) (aw : List Out) (x : ℕ) (t : SeqrTurn) → LowTurn t → Fits s → NodeTurn s (record s { seqrs = slice_set s.seqrs x t.now }) next aw (map (packet_of m (seqr_id x)) t.sends) 0
      seqr_turned s next aw x t f b =
          let e = scans_each (record s { seqrs = slice_set s.seqrs x t.now }) next aw x t.sends f.sends in
          let light = e.1 in
          record { base = base_seqr s x t.now f.now b; grows = record { on = λ n e. on_alike m stopped s _ (seqr_alike m s x t.now) n ∙ e; low = λ n e. e; high = λ n b e f. e }; alike = seqr_alike m s x t.now; client = refl; each = e.0; few = omega (arith, light) }

      -- the client's request comes to a layout server, which answers
      to_light : (a : NodeId) (rid : ℕ) (y : Msg) → node_eq a (client_id k) ≡ false → heavy (answer_packet m h stopped k epoch servers top round a rid y ∷ []) ≡ 1
      unfolding weigh
      to_light a rid y e = let w = (to_weighs m h stopped k (first_layout h) a rid y e).0 in omega (arith, w)

      pub layout_far : (i : ℕ) → node_eq (layout_id i) (client_id k) ≡ false
      unfolding node_eq
      layout_far i = refl

      seqr_far : (i : ℕ) → node_eq (seqr_id i) (client_id k) ≡ false
      unfolding node_eq
      seqr_far i = refl

      no_seqr : (i x : ℕ) → layout_id i ≡ seqr_id x → ⊥
      no_seqr i x e = never (ap (λ (n : NodeId). n.role) e)
        where
          never : role.Layout ≡ role.Seqr → ⊥
          never e = cc

      layouts_long : (s : Net m) (i : ℕ) → on_in m stopped s (layout_id i) ≡ true → i < length s.layouts
      layouts_long s i e = grind arith

      pub record AskTurn (s : Net m) (next : ℕ) (aw : List Out) (a : NodeId) (rid : ℕ) (t : Net m) (sent : List Packet) : Type 0 where
        pub says : Msg
        pub turn : NodeTurn s t next aw sent 1
        pub back : Has sent (answer_packet m h stopped k epoch servers top round a rid says)

      layout_counts : (s : Net m) (i : ℕ) (now : LayoutState) → Alike m s (record s { layouts = slice_set s.layouts i now })
      layout_counts s i now = record { counts = λ r. by r }
        where
          by : (r : Rattle.tg_base.specs.declared.ids.Role.Role) → Rattle.tg_law_finish.proofs.Finish.Nets.count_in m (record s { layouts = slice_set s.layouts i now }) r ≡ Rattle.tg_law_finish.proofs.Finish.Nets.count_in m s r
          by role.Unit = refl
          by role.Layout = set_long s.layouts i now
          by role.Seqr = refl
          by role.Client = refl

      base_layout : (s : Net m) (i : ℕ) (now : LayoutState) → FineServer now → Fits s → Fits (record s { layouts = slice_set s.layouts i now })
      base_layout s i now fine b = record {
        on = on_same s _ (layout_counts s i now) b.on;
        units = b.units;
        layouts = λ n. by n (set_index s.layouts i now n (new_layout (first_layout h)));
        seqrs = b.seqrs;
        idle = λ j off on. b.idle j off (sym (on_alike m stopped s (record s { layouts = slice_set s.layouts i now }) (layout_counts s i now) (client_id j)) ∙ on);
      }
        where
          by : (n : ℕ) → ((n ≡ i) × (slice_index_or (slice_set s.layouts i now) n (new_layout (first_layout h)) ≡ now)) ⊎ (slice_index_or (slice_set s.layouts i now) n (new_layout (first_layout h)) ≡ layout_of m h s n) → FineServer (slice_index_or (slice_set s.layouts i now) n (new_layout (first_layout h)))
          by n (inl c) = subst FineServer (sym c.1) fine
          by n (inr c) = subst FineServer (sym c) (b.layouts n)

      layout_rises : (s : Net m) (i : ℕ) (now : LayoutState) → ((vote now).promised ≡ promised m h stopped k epoch servers top round s i) ⊎ (((vote now).promised ≡ B) × (ballot_lt B (promised m h stopped k epoch servers top round s i) ≡ false)) → Rises s (record s { layouts = slice_set s.layouts i now })
      layout_rises s i now same_or = record { on = λ n e. on_alike m stopped s (record s { layouts = slice_set s.layouts i now }) (layout_counts s i now) n ∙ e; low = λ n e. low n e (set_index s.layouts i now n (new_layout (first_layout h))) same_or; high = λ n b e f. high n b e f (set_index s.layouts i now n (new_layout (first_layout h))) same_or }
        where
          Same : Type 0
          Same = ((vote now).promised ≡ promised m h stopped k epoch servers top round s i) ⊎ (((vote now).promised ≡ B) × (ballot_lt B (promised m h stopped k epoch servers top round s i) ≡ false))

          At : ℕ → Type 0
          At n = ((n ≡ i) × (slice_index_or (slice_set s.layouts i now) n (new_layout (first_layout h)) ≡ now)) ⊎ (slice_index_or (slice_set s.layouts i now) n (new_layout (first_layout h)) ≡ layout_of m h s n)

          low : (n : ℕ) → ballot_lt B (promised m h stopped k epoch servers top round s n) ≡ false → At n → Same → ballot_lt B (vote (slice_index_or (slice_set s.layouts i now) n (new_layout (first_layout h)))).promised ≡ false
          low n e (inr c) same = ap (λ (z : LayoutState). ballot_lt B (vote z).promised) c ∙ e
          low n e (inl c) (inl same) = ap (λ (z : LayoutState). ballot_lt B (vote z).promised) c.1 ∙ (ap (λ (z : Ballot). ballot_lt B z) same ∙ (ap (λ (j : ℕ). ballot_lt B (promised m h stopped k epoch servers top round s j)) (sym c.0) ∙ e))
          low n e (inl c) (inr same) = ap (λ (z : LayoutState). ballot_lt B (vote z).promised) c.1 ∙ (ap (λ (z : Ballot). ballot_lt B z) same.0 ∙ not_below_itself B)

          high : (n : ℕ) (b : Ballot) → promised m h stopped k epoch servers top round s n ≡ b → ballot_lt B b ≡ true → At n → Same → (vote (slice_index_or (slice_set s.layouts i now) n (new_layout (first_layout h)))).promised ≡ b
          high n b e f (inr c) same = ap (λ (z : LayoutState). (vote z).promised) c ∙ e
          high n b e f (inl c) (inl same) = ap (λ (z : LayoutState). (vote z).promised) c.1 ∙ (same ∙ (ap (λ (j : ℕ). promised m h stopped k epoch servers top round s j) (sym c.0) ∙ e))
          high n b e f (inl c) (inr same) = absurd (contrary f (ap (λ (z : Ballot). ballot_lt B z) (sym e ∙ ap (λ (j : ℕ). promised m h stopped k epoch servers top round s j) c.0) ∙ same.1))

      pub server_comes : (s : Net m) (next : ℕ) (aw : List Out) (i rid : ℕ) (y : Msg) → on_in m stopped s (layout_id i) ≡ true → rid < next → AskOk m h stopped k epoch servers top round (layout_id i) y → ((z : Msg) → Has aw (out (layout_id i) rid z) → z ≡ y) → Fits s
          → AskTurn s next aw (layout_id i) rid (net_after m h s (packet_of m (client_id k) (out (layout_id i) rid y)) role.Layout) (sent_then m h s (packet_of m (client_id k) (out (layout_id i) rid y)) role.Layout)
      server_comes s next aw i rid y on less ok one b =
          let f = server_turn (layout_of m h s i) i (layout_id i) y (no_seqr i) ok (b.layouts i) in
          let now = (layout_step (layout_of m h s i) y).now in
          let t : Net m = record s { layouts = slice_set s.layouts i now } in
          let there = set_there s.layouts i now (new_layout (first_layout h)) (layouts_long s i on) in
          let light = to_light (layout_id i) rid f.says (layout_far i) in
          subst (λ (o : Option Msg). AskTurn s next aw (layout_id i) rid t (answer_to m (packet_of m (client_id k) (out (layout_id i) rid y)) o)) (sym f.is) (record {
            says = f.says;
            turn = record {
              base = base_layout s i now f.now b;
              grows = layout_rises s i now f.same_or;
              alike = layout_counts s i now;
              client = refl;
              each = (Tells (layout_id i) rid f.says (on_alike m stopped s t (layout_counts s i now) (layout_id i) ∙ on) (layout_far i) less f.low (λ z g. subst (λ (x : Msg). TellOk m h stopped k epoch servers top round t (layout_id i) x (reply f.says)) (sym (one z g)) (f.told t (ap (λ (z : LayoutState). (vote z).promised) there))), tt);
              few = omega (arith, light);
            };
            back = inl refl;
          })

      seqrs_long : (s : Net m) (i : ℕ) → on_in m stopped s (seqr_id i) ≡ true → i < length s.seqrs
      seqrs_long s i e = grind arith

      -- and to a sequencer, which learns a layout
      pub learn_comes : (s : Net m) (next : ℕ) (aw : List Out) (i rid : ℕ) (q : Layout) → on_in m stopped s (seqr_id i) ≡ true → rid < next → q.epoch ≡ epoch → ((z : Msg) → Has aw (out (seqr_id i) rid z) → z ≡ msg.Learn q) → Fits s
          → AskTurn s next aw (seqr_id i) rid (net_after m h s (packet_of m (client_id k) (out (seqr_id i) rid (msg.Learn q))) role.Seqr) (sent_then m h s (packet_of m (client_id k) (out (seqr_id i) rid (msg.Learn q))) role.Seqr)
      unfolding weigh
      learn_comes s next aw i rid q on less of one b =
          let f = learn_low (seqr_of m h s i) q (client_id k) rid (omega (arith, of)) (b.seqrs i) in
          let now = (seqr_step (seqr_of m h s i) (client_id k) rid (msg.Learn q)).now in
          let t : Net m = record s { seqrs = slice_set s.seqrs i now } in
          let e = scans_each t next aw i f.scans f.ask in
          let light = to_light (seqr_id i) rid f.says (seqr_far i) in
          let rest = e.1 in
          subst (λ (os : List Out). AskTurn s next aw (seqr_id i) rid t (map (packet_of m (seqr_id i)) os)) (sym f.sends) (record {
            says = f.says;
            turn = record {
              base = base_seqr s i now f.now b;
              grows = record { on = λ n e. on_alike m stopped s t (seqr_alike m s i now) n ∙ e; low = λ n e. e; high = λ n b e f. e };
              alike = seqr_alike m s i now;
              client = refl;
              each = (Tells (seqr_id i) rid f.says (on_alike m stopped s t (seqr_alike m s i now) (seqr_id i) ∙ on) (seqr_far i) less f.low (λ z g. subst (λ (x : Msg). TellOk m h stopped k epoch servers top round t (seqr_id i) x (reply f.says)) (sym (one z g)) f.told), e.0);
              few = omega (arith, light, rest);
            };
            back = inl refl;
          })

      -- What was asked before the votes comes to a unit.

      pub unit_far : (i : ℕ) → node_eq (unit_id i) (client_id k) ≡ false
      unfolding node_eq
      unit_far i = refl

      -- it tells no layout
      unit_low : (y : Msg) (r : Reply) → ((q : Layout) → reply y ≡ IsLatest q → ⊥) → reply y ≡ r → LatestLow m h stopped k epoch servers top round r
      unit_low y (IsLatest q) never e = absurd (never q e)
      unit_low y r never e = tt

      -- what it was asked it may answer as it likes
      pub unit_tells : (t : Net m) (a : NodeId) (y : Msg) (x : Reply) → OfUnit epoch y → TellOk m h stopped k epoch servers top round t a y x
      unit_tells t a (msg.Seal e) x of = tt
      unit_tells t a (msg.Has e lo hi step) x of = tt
      unit_tells t a y x of = absurd of

      pub unit_comes : (s : Net m) (next : ℕ) (aw : List Out) (u rid : ℕ) (y : Msg) → on_in m stopped s (unit_id u) ≡ true → rid < next → OfUnit epoch y
          → ((z : Msg) → Has aw (out (unit_id u) rid z) → OfUnit epoch z) → Fits s
          → AskTurn s next aw (unit_id u) rid (net_after m h s (packet_of m (client_id k) (out (unit_id u) rid y)) role.Unit) (sent_then m h s (packet_of m (client_id k) (out (unit_id u) rid y)) role.Unit)
      unit_comes s next aw u rid y on less of one b =
          let x = unit_of m s u in
          let f = unit_says x y epoch of (b.units u) in
          let now : UnitState = (unit_step x y).now in
          let t : Net m = record s { units = slice_set s.units u now } in
          let alike = unit_alike m s u now in
          let light = to_light (unit_id u) rid f.says (unit_far u) in
          subst (λ (o : Option Msg). AskTurn s next aw (unit_id u) rid t (answer_to m (packet_of m (client_id k) (out (unit_id u) rid y)) o)) (sym f.is) (record {
            says = f.says;
            turn = record {
              base = record { on = on_same s t alike b.on; units = λ v. by f.below v (set_index s.units u now v new_unit); layouts = b.layouts; seqrs = b.seqrs; idle = λ j off on. b.idle j off (sym (on_alike m stopped s t alike (client_id j)) ∙ on) };
              grows = record { on = λ n e. on_alike m stopped s t alike n ∙ e; low = λ n e. e; high = λ n b e f. e };
              alike = alike;
              client = refl;
              each = (Tells (unit_id u) rid f.says (on_alike m stopped s t alike (unit_id u) ∙ on) (unit_far u) less (unit_low f.says (reply f.says) f.never refl) (λ z g. unit_tells t (unit_id u) z (reply f.says) (one z g)), tt);
              few = omega (arith, light);
            };
            back = inl refl;
          })
        where
          by : (unit_step (unit_of m s u) y).now.epoch ≤ epoch → (v : ℕ) → ((v ≡ u) × (slice_index_or (slice_set s.units u (unit_step (unit_of m s u) y).now) v new_unit ≡ (unit_step (unit_of m s u) y).now)) ⊎ (slice_index_or (slice_set s.units u (unit_step (unit_of m s u) y).now) v new_unit ≡ unit_of m s v)
              → (slice_index_or (slice_set s.units u (unit_step (unit_of m s u) y).now) v new_unit).epoch ≤ epoch
          by le v (inl c) = subst (λ (z : UnitState). z.epoch ≤ epoch) (sym c.1) le
          by le v (inr c) = subst (λ (z : UnitState). z.epoch ≤ epoch) (sym c) (b.units v)
