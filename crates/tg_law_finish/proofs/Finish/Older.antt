-- What a sequencer told of an epoch stays so: where it told a request of a later epoch, it is past the request's own, or in it
-- and fenced. Only a later layout takes a fence away.
use Rattle.std.proofs.Common.{◌≡◌, ◌⊎◌, ℕ, ◌+◌, ◌<◌, List, [], length, map, Bool, true, false, not, ◌||◌, eqb, refl, ap, ◌∙◌, sym, subst, inl, inr, arith, Some, None, Option}
use Rattle.std.specs.Prelude.{nat_lt, nat_le, min, slice_index_or}
use Rattle.tg_base.specs.Clusters.{Header}
use Rattle.tg_base.specs.Layouts.{Layout}
use Rattle.tg_base.specs.declared.ids.NodeId.{NodeId}
use Rattle.tg_base.specs.declared.ids.Oid.{Oid}
use Rattle.tg_base.specs.declared.ids.Role.TheVariants as role
use Rattle.tg_base.specs.declared.marks.StreamLink.{StreamLink}
use Rattle.tg_base.specs.declared.msg.Msg.{Msg}
use Rattle.tg_base.specs.declared.msg.Msg.TheVariants as msg
use Rattle.tg_base.specs.declared.packet.Out.{Out}
use Rattle.tg_base.specs.declared.packet.Packet.{Packet}
use Rattle.tg_kind.specs.Meaning.{Meaning}
use Rattle.tg_protocol.specs.Words.{seqr_id}
use Rattle.tg_protocol.specs.Layouts.{first_layout}
use Rattle.tg_protocol.specs.Requests.{awaits, Next, Goes, Learns, Ends}
use Rattle.tg_protocol.specs.Replies.{reply}
use Rattle.tg_protocol.specs.Cells.{CellJob, CellEnd, Done, Seen, Lost, Fenced, Gone, cell_asks, cell_feed}
use Rattle.tg_protocol.specs.Sequencers.{SeqrState, SeqrTurn, new_seqr, with_positions, cell_streams, links_of, scanning, scan_on, scan_ended, scan_next, scan_turn, scan_fed, fed_if, answers, begun, stand_answer, issue, on_token, unfenced, own_epoch, on_learn, learn_or_old, seqr_step, seqr_tick}
use Rattle.tg_protocol.specs.Worlds.{start, packet_of}
use Rattle.tg_protocol.specs.Runs.{Moves}
use Rattle.tg_law_layouts.specs.Moves.After.{after}
use Rattle.tg_law_layouts.specs.Moves.Configs.{Config, config, seqr_in}
use Rattle.tg_law_layouts.specs.Moves.Telling.{is_request}
use Rattle.tg_law_layouts.proofs.Moves.Lists.{at_set}
use Rattle.tg_law_layouts.proofs.Moves.Members.{Has, has_left, has_either, has_map}
use Rattle.tg_law_layouts.proofs.Moves.Moves.{Comes, SeqrInput, Hears, Ticks, seqr_turn, Keeps, run_keeps}
use Rattle.tg_law_layouts.proofs.Moves.Growth.{IsCalm, by_seqr}
use Rattle.tg_law_finish.proofs.Finish.Sends.{AllSent, one_sent, begun_sent, scan_fed_sent, tick_sent}

-- past an epoch, or in it and fenced by a later one
pub data IsPast (s : SeqrState) (e : ℕ) : Type 0 where
  IsLater : e < s.epoch → IsPast s e
  IsFencedIn : (by : ℕ) → s.epoch ≡ e → s.fence ≡ Some by → IsPast s e

-- the epoch in which a sequencer is asked
abbrev pub AsksIn : Msg → ℕ → Type 0
AsksIn (msg.Token e os) n = e ≡ n
AsksIn (msg.Check e os) n = e ≡ n
AsksIn x n = ⊥

-- It stays so.

abbrev Stays : SeqrState → SeqrState → Type 0
Stays s t = (n : ℕ) → IsPast s n → IsPast t n

same_stays : (s t : SeqrState) → t.epoch ≡ s.epoch → t.fence ≡ s.fence → Stays s t
same_stays s t e f n (IsLater less) = IsLater (omega (arith, e, less))
same_stays s t e f n (IsFencedIn by at is) = IsFencedIn by (e ∙ at) (f ∙ is)

later_stays : (s t : SeqrState) → s.epoch < t.epoch → Stays s t
later_stays s t l n (IsLater less) = IsLater (omega (arith, l, less))
later_stays s t l n (IsFencedIn by at is) = IsLater (omega (arith, l, at))

fenced_stays : (s : SeqrState) (e : ℕ) → Stays s (record s { fence = Some e; scan = None })
fenced_stays s e n (IsLater less) = IsLater less
fenced_stays s e n (IsFencedIn by at is) = IsFencedIn e at refl

on_epoch : (s : SeqrState) (b : Bool) → (scan_on s b).epoch ≡ s.epoch
on_epoch s true = refl
on_epoch s false = refl

on_fence : (s : SeqrState) (b : Bool) → (scan_on s b).fence ≡ s.fence
on_fence s true = refl
on_fence s false = refl

scans_stays : (s d : SeqrState) → d.epoch ≡ s.epoch → d.fence ≡ s.fence → Stays s (scan_on d (scanning d))
scans_stays s d e f = same_stays s (scan_on d (scanning d)) (on_epoch d (scanning d) ∙ e) (on_fence d (scanning d) ∙ f)

ended_stays : (s : SeqrState) (e : CellEnd) → Stays s (scan_ended s e)
ended_stays s (Done c) = scans_stays s (record s { next = s.next + 1; lists = with_positions s.next (cell_streams c) s.lists }) refl refl
ended_stays s (Gone b) = scans_stays s (record s { next = min b s.proj.start }) refl refl
ended_stays s (Fenced u e) = fenced_stays s e
ended_stays s Seen = λ n p. p
ended_stays s (Lost c) = λ n p. p

next_stays : (s : SeqrState) (to : Next CellJob CellEnd) → Stays s (scan_next s to)
next_stays s (Goes j) = same_stays s (record s { scan = Some j }) refl refl
next_stays s (Learns j) = same_stays s (record s { scan = Some j }) refl refl
next_stays s (Ends e) = ended_stays s e

turn_stays : (s : SeqrState) (rids : ℕ) (to : Next CellJob CellEnd) → Stays s (scan_next (record s { rids = rids }) to)
turn_stays s rids to n p = next_stays (record s { rids = rids }) to n (same_stays s (record s { rids = rids }) refl refl n p)

fed_stays : (b : Bool) (s t : SeqrState) → Stays s t → Stays s (fed_if b s t).now
fed_stays true s t k = k
fed_stays false s t k = λ n p. p

scan_fed_stays : (s : SeqrState) (o : Option CellJob) (from : NodeId) (rid : ℕ) (y : Msg) → Stays s (scan_fed s o from rid y).now
scan_fed_stays s None from rid y = λ n p. p
scan_fed_stays s (Some j) from rid y = fed_stays (awaits (cell_asks j) from rid) s (scan_turn s (cell_feed j from.num (reply y) s.rids)) (turn_stays s (cell_feed j from.num (reply y) s.rids).next (cell_feed j from.num (reply y) s.rids).to)

less_of : (a b : ℕ) → nat_lt a b ≡ true → a < b
less_of a b e = grind arith

begun_stays : (s : SeqrState) (q : Layout) → s.epoch < q.epoch → Stays s (begun s q)
begun_stays s q less =
    let d : SeqrState = record s { epoch = q.epoch; proj = q; next = 0; lists = []; fence = None; scan = None } in
    let e : (scan_on d (scanning d)).epoch ≡ q.epoch = on_epoch d (scanning d) in
    later_stays s (scan_on d (scanning d)) (subst (λ (n : ℕ). s.epoch < n) (sym e) less)

unfenced_stays : (f : Option ℕ) (s : SeqrState) (from : NodeId) (rid : ℕ) (t : SeqrTurn) → Stays s t.now → Stays s (unfenced f s from rid t).now
unfenced_stays None s from rid t k = k
unfenced_stays (Some e) s from rid t k = λ n p. p

own_stays : (b : Bool) (s : SeqrState) (from : NodeId) (rid : ℕ) (t : SeqrTurn) → Stays s t.now → Stays s (own_epoch b s from rid t).now
own_stays true s from rid t k = unfenced_stays s.fence s from rid t k
own_stays false s from rid t k = λ n p. p

issue_stays : (s : SeqrState) (os : List Oid) (from : NodeId) (rid : ℕ) (b : Bool) → Stays s (issue s os from rid b).now
issue_stays s os from rid true = λ n p. p
issue_stays s os from rid false = same_stays s (issue s os from rid false).now refl refl

token_stays : (s : SeqrState) (os : List Oid) (from : NodeId) (rid : ℕ) (b : Bool) → Stays s (on_token s os from rid b).now
token_stays s os from rid true = λ n p. p
token_stays s os from rid false = issue_stays s os from rid (nat_le s.limit s.next)

learn_stays : (s : SeqrState) (q : Layout) (from : NodeId) (rid : ℕ) (b : Bool) → nat_lt s.epoch q.epoch ≡ b → Stays s (on_learn s q from rid b).now
learn_stays s q from rid true e = begun_stays s q (less_of s.epoch q.epoch e)
learn_stays s q from rid false e = unfenced_stays s.fence s from rid (answers s from rid (stand_answer s [] (scanning s))) (λ n p. p)

learn_or_stays : (s : SeqrState) (q : Layout) (from : NodeId) (rid : ℕ) (b : Bool) → Stays s (learn_or_old s q from rid b).now
learn_or_stays s q from rid true = λ n p. p
learn_or_stays s q from rid false = learn_stays s q from rid (nat_lt s.epoch q.epoch) refl

step_stays : (s : SeqrState) (from : NodeId) (rid : ℕ) (y : Msg) → Stays s (seqr_step s from rid y).now
unfolding seqr_step
step_stays s from rid (msg.Learn q) = learn_or_stays s q from rid (not (eqb q.seq s.num) || nat_lt q.epoch s.epoch)
step_stays s from rid (msg.Token e os) = own_stays (eqb e s.epoch) s from rid (on_token s os from rid (scanning s)) (token_stays s os from rid (scanning s))
step_stays s from rid (msg.Check e os) = own_stays (eqb e s.epoch) s from rid (answers s from rid (stand_answer s (links_of s.lists os) (scanning s))) (λ n p. p)
step_stays s from rid y = scan_fed_stays s s.scan from rid y

tick_stays : (s : SeqrState) → Stays s (seqr_tick s).now
unfolding seqr_tick
tick_stays s n p = p

-- What else it sends tells of no epoch.

abbrev NoEpoch : Msg → Type 0
NoEpoch (msg.OldEpoch e) = ⊥
NoEpoch x = Unit {0}

abbrev Plain : List Out → Type 0
Plain os = AllSent NoEpoch os

asks_plain : (y : Msg) → is_request y ≡ true → NoEpoch y
unfolding is_request
asks_plain (msg.OldEpoch e) is = absurd cc
asks_plain y is = tt

stand_plain : (s : SeqrState) (ls : List StreamLink) (b : Bool) → NoEpoch (stand_answer s ls b)
stand_plain s ls true = tt
stand_plain s ls false = tt

issue_plain : (s : SeqrState) (os : List Oid) (from : NodeId) (rid : ℕ) (b : Bool) → Plain (issue s os from rid b).sends
issue_plain s os from rid true = one_sent NoEpoch from rid _ tt
issue_plain s os from rid false = one_sent NoEpoch from rid _ tt

token_plain : (s : SeqrState) (os : List Oid) (from : NodeId) (rid : ℕ) (b : Bool) → Plain (on_token s os from rid b).sends
token_plain s os from rid true = one_sent NoEpoch from rid _ tt
token_plain s os from rid false = issue_plain s os from rid (nat_le s.limit s.next)

-- What it tells of an epoch answers a request.

pub record SaysOld (from : NodeId) (rid : ℕ) (y : Msg) (s : SeqrState) (o : Out) (e : ℕ) : Type 0 where
  pub to : o.to ≡ from
  pub number : o.rid ≡ rid
  pub request : is_request y ≡ true
  pub past : (n : ℕ) → AsksIn y n → n < e → IsPast s n

abbrev TellsOld : NodeId → ℕ → Msg → SeqrTurn → Type 0
TellsOld from rid y t = (o : Out) (e : ℕ) → Has t.sends o → o.msg ≡ msg.OldEpoch e → SaysOld from rid y t.now o e

same_epoch : (a b : ℕ) → msg.OldEpoch a ≡ msg.OldEpoch b → a ≡ b
same_epoch a b e = cc

equal_of : (a b : ℕ) → eqb a b ≡ true → a ≡ b
equal_of a b e = grind arith

module _ (from : NodeId) (rid : ℕ) (y : Msg) where
  plain_tells : (t : SeqrTurn) → Plain t.sends → TellsOld from rid y t
  plain_tells t p o e h is = absurd (subst NoEpoch is (p o h))

  old_tells : (s : SeqrState) (f : ℕ) → is_request y ≡ true → ((n : ℕ) → AsksIn y n → n < f → IsPast s n) → TellsOld from rid y (answers s from rid (msg.OldEpoch f))
  old_tells s f r past o e (inl i) is = record {
    to = ap (λ (x : Out). x.to) i;
    number = ap (λ (x : Out). x.rid) i;
    request = r;
    past = λ n a less. past n a (subst (λ (z : ℕ). n < z) (same_epoch e f (sym is ∙ ap (λ (x : Out). x.msg) i)) less);
  }
  old_tells s f r past o e (inr h) is = absurd h

  unfenced_tells : (f : Option ℕ) (s : SeqrState) (t : SeqrTurn) → s.fence ≡ f → is_request y ≡ true → ((n : ℕ) → AsksIn y n → s.epoch ≡ n) → TellsOld from rid y t → TellsOld from rid y (unfenced f s from rid t)
  unfenced_tells None s t is r at k = k
  unfenced_tells (Some e) s t is r at k = old_tells s e r (λ n a less. IsFencedIn e (at n a) is)

  own_tells : (b : Bool) (d : ℕ) (s : SeqrState) (t : SeqrTurn) → eqb d s.epoch ≡ b → is_request y ≡ true → ((n : ℕ) → AsksIn y n → d ≡ n) → TellsOld from rid y t → TellsOld from rid y (own_epoch b s from rid t)
  own_tells true d s t is r of k = unfenced_tells s.fence s t refl r (λ n a. sym (equal_of d s.epoch is) ∙ of n a) k
  own_tells false d s t is r of k = old_tells s s.epoch r (λ n a less. IsLater less)

  learn_tells : (s : SeqrState) (q : Layout) (b : Bool) → is_request y ≡ true → ((n : ℕ) → AsksIn y n → ⊥) → TellsOld from rid y (on_learn s q from rid b)
  learn_tells s q true r never = plain_tells (on_learn s q from rid true) (begun_sent NoEpoch asks_plain s q from rid (stand_plain (begun s q) [] (scanning (begun s q))))
  learn_tells s q false r never = unfenced_tells s.fence s (answers s from rid (stand_answer s [] (scanning s))) refl r (λ n a. absurd (never n a))
      (plain_tells (answers s from rid (stand_answer s [] (scanning s))) (one_sent NoEpoch from rid (stand_answer s [] (scanning s)) (stand_plain s [] (scanning s))))

  learn_or_tells : (s : SeqrState) (q : Layout) (b : Bool) → is_request y ≡ true → ((n : ℕ) → AsksIn y n → ⊥) → TellsOld from rid y (learn_or_old s q from rid b)
  learn_or_tells s q true r never = old_tells s s.epoch r (λ n a less. absurd (never n a))
  learn_or_tells s q false r never = learn_tells s q (nat_lt s.epoch q.epoch) r never

step_tells : (s : SeqrState) (from : NodeId) (rid : ℕ) (y : Msg) → TellsOld from rid y (seqr_step s from rid y)
unfolding seqr_step is_request
step_tells s from rid (msg.Learn q) = learn_or_tells from rid (msg.Learn q) s q (not (eqb q.seq s.num) || nat_lt q.epoch s.epoch) refl (λ n a. a)
step_tells s from rid (msg.Token e os) = own_tells from rid (msg.Token e os) (eqb e s.epoch) e s (on_token s os from rid (scanning s)) refl refl (λ n a. a) (plain_tells from rid (msg.Token e os) (on_token s os from rid (scanning s)) (token_plain s os from rid (scanning s)))
step_tells s from rid (msg.Check e os) =
    let t = answers s from rid (stand_answer s (links_of s.lists os) (scanning s)) in
    own_tells from rid (msg.Check e os) (eqb e s.epoch) e s t refl refl (λ n a. a) (plain_tells from rid (msg.Check e os) t (one_sent NoEpoch from rid (stand_answer s (links_of s.lists os) (scanning s)) (stand_plain s (links_of s.lists os) (scanning s))))
step_tells s from rid y = plain_tells from rid y (scan_fed s s.scan from rid y) (scan_fed_sent NoEpoch asks_plain s s.scan from rid y)

-- Each sequencer of a run.
module _ (m : Meaning) where
  -- the request that a sequencer answered by an epoch
  pub record WasOld (c : Config m) (s : ℕ) (a : Packet) (e : ℕ) : Type 0 where
    pub ask : Packet
    pub asked : Has c.packets ask
    pub to : ask.to ≡ a.from
    pub from : ask.from ≡ a.to
    pub rid : ask.rid ≡ a.rid
    pub request : is_request ask.msg ≡ true
    pub past : (n : ℕ) → AsksIn ask.msg n → n < e → IsPast (seqr_in m c s) n

  pub record Olds (c : Config m) : Type 0 where
    pub each : (s e : ℕ) (a : Packet) → Has c.packets a → a.from ≡ seqr_id s → a.msg ≡ msg.OldEpoch e → WasOld c s a e

  still : (c d : Config m) (s e : ℕ) (a : Packet) → ((q : Packet) → Has c.packets q → Has d.packets q) → Stays (seqr_in m c s) (seqr_in m d s) → WasOld c s a e → WasOld d s a e
  still c d s e a grown kept w = record { ask = w.ask; asked = grown w.ask w.asked; to = w.to; from = w.from; rid = w.rid; request = w.request; past = λ n b less. kept n (w.past n b less) }

  olds_calm : (c : Config m) → Olds c → IsCalm m role.Seqr c Olds
  olds_calm c h d q = record { each = λ s e a g from is. still c d s e a q.grows.sent (kept s) (h.each s e a (q.old a g (ap (λ (n : NodeId). n.role) from)) from is) }
    where
      kept : (s : ℕ) → Stays (seqr_in m c s) (seqr_in m d s)
      kept s n p = subst (λ (x : SeqrState). IsPast x n) (λ i. slice_index_or (sym (q.seqrs refl) i) s (new_seqr s (sym q.cluster i).limit (first_layout (sym q.cluster i)))) p

  pub input_stays : (c : Config m) (s : ℕ) (t : SeqrTurn) → SeqrInput m c s t → Stays (seqr_in m c s) t.now
  input_stays c s _ (Hears p comes) = step_stays (seqr_in m c s) p.from p.rid p.msg
  input_stays c s _ Ticks = tick_stays (seqr_in m c s)

  input_tells : (c : Config m) (s : ℕ) (t : SeqrTurn) → SeqrInput m c s t → (o : Out) (e : ℕ) → Has t.sends o → o.msg ≡ msg.OldEpoch e → (p : Packet) × Comes m c p (seqr_id s) × SaysOld p.from p.rid p.msg t.now o e
  input_tells c s _ (Hears p comes) o e h is = (p, comes, step_tells (seqr_in m c s) p.from p.rid p.msg o e h is)
  input_tells c s _ Ticks o e h is = absurd (subst NoEpoch is (tick_sent NoEpoch asks_plain (seqr_in m c s) o h))

  -- of a world's sequencers and those after one of them took its turn
  pub seqr_stays : (c : Config m) (s : ℕ) (t : SeqrTurn) → SeqrInput m c s t → s < length c.seqrs → (k : ℕ) → Stays (seqr_in m c k) (seqr_in m (seqr_turn m c s t) k)
  seqr_stays c s t i less = at_set c.seqrs s t.now (λ j. new_seqr j c.cluster.limit (first_layout c.cluster)) (λ j x. Stays (seqr_in m c j) x) less (input_stays c s t i) (λ j other n p. p)

  seqr_now : (c : Config m) (s : ℕ) (t : SeqrTurn) → s < length c.seqrs → seqr_in m (seqr_turn m c s t) s ≡ t.now
  seqr_now c s t less = at_set c.seqrs s t.now (λ j. new_seqr j c.cluster.limit (first_layout c.cluster)) (λ j x. j ≡ s → x ≡ t.now) less (λ e. refl) (λ j other e. absurd (other e)) s refl

  olds_on : (c : Config m) → Olds c → (s : ℕ) (t : SeqrTurn) → SeqrInput m c s t → s < length c.seqrs → Olds (seqr_turn m c s t)
  olds_on c h s t i less = record { each = λ k e a g from is. by k e a from is (has_either c.packets (map (packet_of m (seqr_id s)) t.sends) a g) }
    where
      d : Config m
      d = seqr_turn m c s t

      by : (k e : ℕ) (a : Packet) → a.from ≡ seqr_id k → a.msg ≡ msg.OldEpoch e → Has c.packets a ⊎ Has (map (packet_of m (seqr_id s)) t.sends) a → WasOld d k a e
      by k e a from is (inl g) = still c d k e a (λ q x. has_left c.packets _ q x) (seqr_stays c s t i less k) (h.each k e a g from is)
      by k e a from is (inr g) =
          let o = has_map (packet_of m (seqr_id s)) t.sends a g in
          let w = input_tells c s t i o.of e o.has (sym (ap (λ (x : Packet). x.msg) o.is) ∙ is) in
          let sent = ap (λ (x : Packet). x.from) o.is in
          record {
            ask = w.0;
            asked = has_left c.packets _ w.0 w.1.sent;
            to = w.1.to_node ∙ sym sent;
            from = sym (ap (λ (x : Packet). x.to) o.is ∙ w.2.to);
            rid = sym (ap (λ (x : Packet). x.rid) o.is ∙ w.2.number);
            request = w.2.request;
            past = λ n b l. subst (λ (j : ℕ). IsPast (seqr_in m d j) n) (ap (λ (x : NodeId). x.num) (sym sent ∙ from)) (subst (λ (x : SeqrState). IsPast x n) (sym (seqr_now c s t less)) (w.2.past n b l));
          }

  olds_keep : Keeps m Olds
  olds_keep c h = by_seqr m Olds c h (olds_calm c h) (λ s t i less. olds_on c h s t i less)

  olds_start : (h : Header) → Olds (config m (start m h))
  unfolding start
  olds_start h = record { each = λ s e a g. absurd g }

  pub olds_hold : (h : Header) (xs : Moves m) → Olds (config m (after m h xs))
  olds_hold h xs = run_keeps m Olds olds_keep xs (start m h) (olds_start h)
