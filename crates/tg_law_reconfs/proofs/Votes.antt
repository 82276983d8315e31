-- What is on its way while a client agrees on a layout with the layout servers: for the layout after its own, with one ballot.
use Rattle.std.proofs.Common.{◌≡◌, ◌⊎◌, ℕ, zero, suc, ◌+◌, ◌<◌, ◌≤◌, List, [], ◌∷◌, length, filter, Bool, true, false, eqb, refl, ap, ◌∙◌, sym, inl, inr, arith, Some, None, Option}
use Rattle.std.specs.Prelude.{⊤}
use Rattle.tg_base.specs.Clusters.{Header}
use Rattle.tg_base.specs.declared.ids.Ballot.{Ballot}
use Rattle.tg_base.specs.declared.ids.NodeId.{NodeId}
use Rattle.tg_base.specs.declared.msg.Msg.{Msg}
use Rattle.tg_base.specs.declared.msg.Msg.TheVariants as msg
use Rattle.tg_base.specs.declared.packet.Out.{Out}
use Rattle.tg_base.specs.declared.packet.Packet.{Packet}
use Rattle.tg_base.specs.Orders.{node_eq}
use Rattle.tg_kind.specs.Meaning.{Meaning}
use Rattle.tg_protocol.specs.Words.{unit_id, layout_id, seqr_id, client_id, ballot_lt, numbers}
use Rattle.tg_protocol.specs.Requests.{out}
use Rattle.tg_protocol.specs.Replies.{Reply, IsPromise, IsNack, IsAccepted, IsLatest, IsOldEpoch, reply}
use Rattle.tg_protocol.specs.Units.{UnitAsk, Reads, Stores, Fills, Looks, unit_ask}
use Rattle.tg_protocol.specs.LayoutServers.{LayoutState, vote_of}
use Rattle.tg_protocol.specs.Sequencers.{SeqrState}
use Rattle.tg_protocol.specs.Reconfiguring.{Before}
use Rattle.tg_protocol.specs.Worlds.{packet_of}
use Rattle.tg_law_layouts.proofs.Moves.Members.{Has}
use Rattle.tg_law_finish.proofs.Finish.Lists.{Each}
use Rattle.tg_law_finish.proofs.Finish.Nets.{Net, on_in, unit_of, layout_of, seqr_of, client_of}

-- How many of the first servers pass a test.
abbrev pub tally : (ℕ → Bool) → ℕ → ℕ
tally f n = length (filter f (numbers n 0))

longer_by : (b c : Bool) (x y : ℕ) (xs ys : List ℕ) → (b ≡ true → c ≡ true) → length xs ≤ length ys → length (filter (λ (z : ℕ). b) (x ∷ [])) + length xs ≤ length (filter (λ (z : ℕ). c) (y ∷ [])) + length ys
longer_by b c x y xs ys implied le = grind arith

first_of : (f : ℕ → Bool) (x : ℕ) (xs : List ℕ) → ((f x ≡ true) × (filter f (x ∷ xs) ≡ x ∷ filter f xs)) ⊎ ((f x ≡ false) × (filter f (x ∷ xs) ≡ filter f xs))
first_of f x xs = grind arith

pub one_of : (a b : ℕ) → (a ≡ b) ⊎ ((a ≡ b) → ⊥)
one_of a b = by (eqb a b) refl
  where
    by : (c : Bool) → eqb a b ≡ c → (a ≡ b) ⊎ ((a ≡ b) → ⊥)
    by true e = inl (grind arith)
    by false e = inr (λ f. absurd (grind arith))

pub contrary : {b : Bool} → b ≡ true → b ≡ false → ⊥
contrary e f = grind arith

module _ (f g : ℕ → Bool) where
  more_from : (n a : ℕ) → ((i : ℕ) → a ≤ i → f i ≡ true → g i ≡ true) → length (filter f (numbers n a)) ≤ length (filter g (numbers n a))
  more_from zero a t = omega arith
  more_from (suc n) a t = by (first_of f a (numbers n (a + 1))) (first_of g a (numbers n (a + 1))) (more_from n (a + 1) (λ i le e. t i (omega (arith, le)) e))
    where
      by : ((f a ≡ true) × (filter f (a ∷ numbers n (a + 1)) ≡ a ∷ filter f (numbers n (a + 1)))) ⊎ ((f a ≡ false) × (filter f (a ∷ numbers n (a + 1)) ≡ filter f (numbers n (a + 1))))
          → ((g a ≡ true) × (filter g (a ∷ numbers n (a + 1)) ≡ a ∷ filter g (numbers n (a + 1)))) ⊎ ((g a ≡ false) × (filter g (a ∷ numbers n (a + 1)) ≡ filter g (numbers n (a + 1))))
          → length (filter f (numbers n (a + 1))) ≤ length (filter g (numbers n (a + 1))) → length (filter f (a ∷ numbers n (a + 1))) ≤ length (filter g (a ∷ numbers n (a + 1)))
      by (inl x) (inl y) le = let c = ap (λ (l : List ℕ). length l) x.1 in let d = ap (λ (l : List ℕ). length l) y.1 in omega (arith, le, c, d)
      by (inl x) (inr y) le = absurd (contrary (t a (omega arith) x.0) y.0)
      by (inr x) (inl y) le = let c = ap (λ (l : List ℕ). length l) x.1 in let d = ap (λ (l : List ℕ). length l) y.1 in omega (arith, le, c, d)
      by (inr x) (inr y) le = let c = ap (λ (l : List ℕ). length l) x.1 in let d = ap (λ (l : List ℕ). length l) y.1 in omega (arith, le, c, d)

  -- where the second passes more
  pub tally_more : (n : ℕ) → ((i : ℕ) → f i ≡ true → g i ≡ true) → tally f n ≤ tally g n
  tally_more n t = more_from n 0 (λ i le e. t i e)

  one_from : (u n a : ℕ) → ((i : ℕ) → f i ≡ true → (i ≡ u) ⊎ (g i ≡ true)) → length (filter f (numbers n a)) ≤ length (filter g (numbers n a)) + 1
  one_from u zero a t = omega arith
  one_from u (suc n) a t = by (one_of a u) (first_of f a (numbers n (a + 1))) (first_of g a (numbers n (a + 1))) (one_from u n (a + 1) t)
    where
      rest : (a ≡ u) → length (filter f (numbers n (a + 1))) ≤ length (filter g (numbers n (a + 1)))
      rest e = more_from n (a + 1) (λ i le h. off i le (t i h))
        where
          off : (i : ℕ) → a + 1 ≤ i → (i ≡ u) ⊎ (g i ≡ true) → g i ≡ true
          off i le (inl h) = absurd (omega (arith, e, h, le))
          off i le (inr h) = h

      by : ((a ≡ u) ⊎ ((a ≡ u) → ⊥)) → ((f a ≡ true) × (filter f (a ∷ numbers n (a + 1)) ≡ a ∷ filter f (numbers n (a + 1)))) ⊎ ((f a ≡ false) × (filter f (a ∷ numbers n (a + 1)) ≡ filter f (numbers n (a + 1))))
          → ((g a ≡ true) × (filter g (a ∷ numbers n (a + 1)) ≡ a ∷ filter g (numbers n (a + 1)))) ⊎ ((g a ≡ false) × (filter g (a ∷ numbers n (a + 1)) ≡ filter g (numbers n (a + 1))))
          → length (filter f (numbers n (a + 1))) ≤ length (filter g (numbers n (a + 1))) + 1 → length (filter f (a ∷ numbers n (a + 1))) ≤ length (filter g (a ∷ numbers n (a + 1))) + 1
      by (inl e) (inl x) (inl y) more = let le = rest e in let c = ap (λ (l : List ℕ). length l) x.1 in let d = ap (λ (l : List ℕ). length l) y.1 in omega (arith, le, c, d)
      by (inl e) (inl x) (inr y) more = let le = rest e in let c = ap (λ (l : List ℕ). length l) x.1 in let d = ap (λ (l : List ℕ). length l) y.1 in omega (arith, le, c, d)
      by (inl e) (inr x) (inl y) more = let le = rest e in let c = ap (λ (l : List ℕ). length l) x.1 in let d = ap (λ (l : List ℕ). length l) y.1 in omega (arith, le, c, d)
      by (inl e) (inr x) (inr y) more = let le = rest e in let c = ap (λ (l : List ℕ). length l) x.1 in let d = ap (λ (l : List ℕ). length l) y.1 in omega (arith, le, c, d)
      by (inr e) (inl x) (inl y) le = let c = ap (λ (l : List ℕ). length l) x.1 in let d = ap (λ (l : List ℕ). length l) y.1 in omega (arith, le, c, d)
      by (inr e) (inl x) (inr y) le = absurd (not_it (t a x.0))
        where
          not_it : (a ≡ u) ⊎ (g a ≡ true) → ⊥
          not_it (inl h) = e h
          not_it (inr h) = contrary h y.0
      by (inr e) (inr x) (inl y) le = let c = ap (λ (l : List ℕ). length l) x.1 in let d = ap (λ (l : List ℕ). length l) y.1 in omega (arith, le, c, d)
      by (inr e) (inr x) (inr y) le = let c = ap (λ (l : List ℕ). length l) x.1 in let d = ap (λ (l : List ℕ). length l) y.1 in omega (arith, le, c, d)

  -- where the first passes at one number more
  pub tally_one : (u n : ℕ) → ((i : ℕ) → f i ≡ true → (i ≡ u) ⊎ (g i ≡ true)) → tally f n ≤ tally g n + 1
  tally_one u n t = one_from u n 0 t

none_from : (f : ℕ → Bool) (n a b : ℕ) → a + n ≤ b → ((i : ℕ) → i < b → f i ≡ false) → length (filter f (numbers n a)) ≡ 0
none_from f zero a b le t = refl
none_from f (suc n) a b le t = by (first_of f a (numbers n (a + 1))) (none_from f n (a + 1) b (omega (arith, le)) t)
  where
    by : ((f a ≡ true) × (filter f (a ∷ numbers n (a + 1)) ≡ a ∷ filter f (numbers n (a + 1)))) ⊎ ((f a ≡ false) × (filter f (a ∷ numbers n (a + 1)) ≡ filter f (numbers n (a + 1)))) → length (filter f (numbers n (a + 1))) ≡ 0 → length (filter f (a ∷ numbers n (a + 1))) ≡ 0
    by (inl x) rest = absurd (contrary x.0 (t a (omega (arith, le))))
    by (inr x) rest = ap (λ (l : List ℕ). length l) x.1 ∙ rest

pub tally_none : (f : ℕ → Bool) (n : ℕ) → ((i : ℕ) → i < n → f i ≡ false) → tally f n ≡ 0
tally_none f n t = none_from f n 0 n (omega arith) t

some_from : (f : ℕ → Bool) (n a : ℕ) → 0 < length (filter f (numbers n a)) → (i : ℕ) × ((f i ≡ true) × (i < a + n))
some_from f zero a less = absurd (omega (arith, less))
some_from f (suc n) a less = by (first_of f a (numbers n (a + 1))) (λ l. some_from f n (a + 1) l)
  where
    by : ((f a ≡ true) × (filter f (a ∷ numbers n (a + 1)) ≡ a ∷ filter f (numbers n (a + 1)))) ⊎ ((f a ≡ false) × (filter f (a ∷ numbers n (a + 1)) ≡ filter f (numbers n (a + 1))))
        → (0 < length (filter f (numbers n (a + 1))) → (i : ℕ) × ((f i ≡ true) × (i < (a + 1) + n))) → (i : ℕ) × ((f i ≡ true) × (i < a + suc n))
    by (inl x) rest = (a, (x.0, omega arith))
    by (inr x) rest = let e = ap (λ (l : List ℕ). length l) x.1 in let y = rest (omega (arith, less, e)) in (y.0, (y.1.0, let z = y.1.1 in omega (arith, z)))

-- where a test passes at all
pub tally_some : (f : ℕ → Bool) (n : ℕ) → 0 < tally f n → (i : ℕ) × ((f i ≡ true) × (i < n))
tally_some f n less = let x = some_from f n 0 less in (x.0, (x.1.0, let z = x.1.1 in omega (arith, z)))

-- What units were asked for before the votes: seals, of this epoch at most, and looks.
abbrev pub OfUnit : ℕ → Msg → Type 0
OfUnit epoch (msg.Seal e) = e ≤ epoch
OfUnit epoch (msg.Has e lo hi step) = ⊤
OfUnit epoch x = ⊥

-- A client of number k agrees on a layout of this epoch with so many servers; all rounds so far are at most `top`, and the ballot on
-- its way is of this round.
module _ (m : Meaning) (h : Header) (stopped : List NodeId) (k epoch servers top round : ℕ) where
  abbrev pub ballot : Ballot
  ballot = record { round = round; client = k }

  abbrev pub promised : Net m → ℕ → Ballot
  promised s n = (vote_of (layout_of m h s n) epoch).promised

  -- the server's promise isn't above the ballot
  abbrev pub NotAbove : Net m → ℕ → Type 0
  NotAbove s n = ballot_lt ballot (promised s n) ≡ false

  abbrev pub OfEpoch : Before → Type 0
  OfEpoch None = ⊤
  OfEpoch (Some b) = b.1.epoch ≡ epoch

  -- Nodes.

  pub record ServerFine (s : LayoutState) : Type 0 where
    pub latest : s.latest.epoch ≤ epoch
    pub rounds : (vote_of s epoch).promised.round ≤ top
    pub accepted : OfEpoch (vote_of s epoch).accepted

  abbrev pub FenceLow : Option ℕ → Type 0
  FenceLow None = ⊤
  FenceLow (Some e) = e ≤ epoch

  pub record SeqrLow (s : SeqrState) : Type 0 where
    pub stands : s.epoch ≤ epoch
    pub fence : FenceLow s.fence

  pub record Base (s : Net m) : Type 0 where
    pub on : on_in m stopped s (client_id k) ≡ true
    pub units : (u : ℕ) → (unit_of m s u).epoch ≤ epoch
    pub layouts : (n : ℕ) → ServerFine (layout_of m h s n)
    pub seqrs : (x : ℕ) → SeqrLow (seqr_of m h s x)
    pub idle : (j : ℕ) → eqb j k ≡ false → on_in m stopped s (client_id j) ≡ true → (client_of m h s j).work ≡ None

  -- Packets.

  -- of a scan
  abbrev pub IsScan : UnitAsk → Type 0
  IsScan (Reads e p) = ⊤
  IsScan (Stores e p c) = ⊤
  IsScan (Fills e p) = ⊤
  IsScan (Looks e lo hi step) = ⊤
  IsScan a = ⊥

  abbrev pub TellsLow : Msg → Type 0
  TellsLow (msg.Fenced e) = e ≤ epoch
  TellsLow (msg.Learn q) = ⊥
  TellsLow (msg.Token e os) = ⊥
  TellsLow (msg.Check e os) = ⊥
  TellsLow x = ⊤

  -- what the client asks
  abbrev pub AskOk : NodeId → Msg → Type 0
  AskOk to (msg.Prepare e b) = ((i : ℕ) × (to ≡ layout_id i)) × ((e ≡ epoch) × (b ≡ ballot))
  AskOk to (msg.Accept e b q) = ((i : ℕ) × (to ≡ layout_id i)) × ((e ≡ epoch) × ((b ≡ ballot) × (q.epoch ≡ epoch)))
  AskOk to (msg.Decided q) = ((i : ℕ) × (to ≡ layout_id i)) × (q.epoch ≡ epoch)
  AskOk to msg.AskLatest = (i : ℕ) × (to ≡ layout_id i)
  AskOk to (msg.Learn q) = ((i : ℕ) × (to ≡ seqr_id i)) × (q.epoch ≡ epoch)
  AskOk to x = ⊥

  -- and is answered
  abbrev pub Nacks : Net m → ℕ → ℕ → Ballot → Type 0
  Nacks s n e b = (e ≡ epoch) × ((b ≡ promised s n) × (ballot_lt ballot b ≡ true))

  abbrev pub PrepareTold : Net m → ℕ → Reply → Type 0
  PrepareTold s n (IsPromise e b a) = (e ≡ epoch) × ((b ≡ ballot) × (OfEpoch a × NotAbove s n))
  PrepareTold s n (IsNack e b) = Nacks s n e b
  PrepareTold s n x = ⊥

  abbrev pub AcceptTold : Net m → ℕ → Reply → Type 0
  AcceptTold s n (IsAccepted e b) = (e ≡ epoch) × ((b ≡ ballot) × NotAbove s n)
  AcceptTold s n (IsNack e b) = Nacks s n e b
  AcceptTold s n x = ⊥

  abbrev pub DecidedTold : Reply → Type 0
  DecidedTold (IsLatest q) = q.epoch ≡ epoch
  DecidedTold x = ⊥

  abbrev pub LearnTold : Reply → Type 0
  LearnTold (IsOldEpoch e) = e ≤ epoch
  LearnTold x = ⊤

  abbrev pub TellOk : Net m → NodeId → Msg → Reply → Type 0
  TellOk s a (msg.Prepare e b) x = (b ≡ ballot) × PrepareTold s a.num x
  TellOk s a (msg.Accept e b q) x = (b ≡ ballot) × AcceptTold s a.num x
  TellOk s a (msg.Decided q) x = DecidedTold x
  TellOk s a (msg.Learn q) x = LearnTold x
  TellOk s a y x = ⊤

  abbrev pub LatestLow : Reply → Type 0
  LatestLow (IsLatest q) = q.epoch ≤ epoch
  LatestLow x = ⊤

  abbrev pub scan_packet : ℕ → ℕ → ℕ → Msg → Packet
  scan_packet x u rid y = record { from = seqr_id x; to = unit_id u; rid = rid; msg = y }

  abbrev pub told_packet : ℕ → ℕ → ℕ → Msg → Packet
  told_packet x u rid y = record { from = unit_id u; to = seqr_id x; rid = rid; msg = y }

  abbrev pub answer_packet : NodeId → ℕ → Msg → Packet
  answer_packet a rid y = record { from = a; to = client_id k; rid = rid; msg = y }

  -- scans, the client's requests, what is left over of those to units, and the answers to it, by what it awaits and its
  -- next number
  pub data Ok (s : Net m) (next : ℕ) (aw : List Out) : Packet → Type 0 where
    Scans : (x u rid : ℕ) (y : Msg) → IsScan (unit_ask y) → Ok s next aw (scan_packet x u rid y)
    Scanned : (x u rid : ℕ) (y : Msg) → TellsLow y → Ok s next aw (told_packet x u rid y)
    Asks : (o : Out) → o.rid < next → AskOk o.to o.msg → ((y : Msg) → Has aw (out o.to o.rid y) → y ≡ o.msg) → Ok s next aw (packet_of m (client_id k) o)
    AsksUnit : (u rid : ℕ) (y : Msg) → rid < next → OfUnit epoch y → ((z : Msg) → Has aw (out (unit_id u) rid z) → OfUnit epoch z) → Ok s next aw (packet_of m (client_id k) (out (unit_id u) rid y))
    Tells : (a : NodeId) (rid : ℕ) (y : Msg) → on_in m stopped s a ≡ true → node_eq a (client_id k) ≡ false → rid < next → LatestLow (reply y)
        → ((x : Msg) → Has aw (out a rid x) → TellOk s a x (reply y)) → Ok s next aw (answer_packet a rid y)

  -- From one state of the nodes to a later one.
  pub record Grows (s t : Net m) : Type 0 where
    pub on : (n : NodeId) → on_in m stopped s n ≡ true → on_in m stopped t n ≡ true
    pub low : (n : ℕ) → NotAbove s n → NotAbove t n
    pub high : (n : ℕ) (b : Ballot) → promised s n ≡ b → ballot_lt ballot b ≡ true → promised t n ≡ b

  nack_grows : (s t : Net m) (n e : ℕ) (b : Ballot) → Grows s t → Nacks s n e b → Nacks t n e b
  nack_grows s t n e b g x = (x.0, (sym (g.high n b (sym x.1.0) x.1.1), x.1.1))

  prepare_grows : (s t : Net m) (n : ℕ) (x : Reply) → Grows s t → PrepareTold s n x → PrepareTold t n x
  prepare_grows s t n (IsPromise e b a) g z = (z.0, (z.1.0, (z.1.1.0, g.low n z.1.1.1)))
  prepare_grows s t n (IsNack e b) g z = nack_grows s t n e b g z
  prepare_grows s t n x g z = z

  accept_grows : (s t : Net m) (n : ℕ) (x : Reply) → Grows s t → AcceptTold s n x → AcceptTold t n x
  accept_grows s t n (IsAccepted e b) g z = (z.0, (z.1.0, g.low n z.1.1))
  accept_grows s t n (IsNack e b) g z = nack_grows s t n e b g z
  accept_grows s t n x g z = z

  tell_grows : (s t : Net m) (a : NodeId) (y : Msg) (x : Reply) → Grows s t → TellOk s a y x → TellOk t a y x
  tell_grows s t a (msg.Prepare e b) x g z = (z.0, prepare_grows s t a.num x g z.1)
  tell_grows s t a (msg.Accept e b q) x g z = (z.0, accept_grows s t a.num x g z.1)
  tell_grows s t a y x g z = z

  pub ok_grows : (s t : Net m) (next end : ℕ) (aw now : List Out) (x : Packet) → Grows s t → next ≤ end → ((o : Out) → Has now o → o.rid < next → Has aw o) → Ok s next aw x → Ok t end now x
  ok_grows s t next end aw now x g le back (Scans a u rid y scan) = Scans a u rid y scan
  ok_grows s t next end aw now x g le back (Scanned a u rid y low) = Scanned a u rid y low
  ok_grows s t next end aw now x g le back (Asks o less ok one) = Asks o (omega (arith, le, less)) ok (λ y h. one y (back (out o.to o.rid y) h less))
  ok_grows s t next end aw now x g le back (AsksUnit u rid y less of one) = AsksUnit u rid y (omega (arith, le, less)) of (λ z h. one z (back (out (unit_id u) rid z) h less))
  ok_grows s t next end aw now x g le back (Tells a rid y on far less low ok) = Tells a rid y (g.on a on) far (omega (arith, le, less)) low (λ z h. tell_grows s t a z (reply y) g (ok z (back (out a rid z) h less)))

  pub all_grow : (s t : Net m) (next end : ℕ) (aw now : List Out) (q : List Packet) → Grows s t → next ≤ end → ((o : Out) → Has now o → o.rid < next → Has aw o) → Each (Ok s next aw) q → Each (Ok t end now) q
  all_grow s t next end aw now [] g le back a = tt
  all_grow s t next end aw now (x ∷ q) g le back a = (ok_grows s t next end aw now x g le back a.0, all_grow s t next end aw now q g le back a.1)

  pub grows_same : (s : Net m) → Grows s s
  grows_same s = record { on = λ n e. e; low = λ n e. e; high = λ n b e f. e }
