-- Each delivery keeps what such a client waits for on its way.
use Rattle.std.proofs.Common.{◌≡◌, ◌⊎◌, ℕ, ◌+◌, ◌^◌, ◌<◌, ◌≤◌, List, [], ◌∷◌, ◌++◌, length, map, Bool, true, false, eqb, refl, ap, ◌∙◌, sym, subst, inl, inr, arith, Some, None, Option}
use Rattle.std.specs.Prelude.{slice_set}
use Rattle.tg_base.specs.Layouts.{Layout}
use Rattle.tg_base.specs.Clusters.{Header}
use Rattle.tg_base.specs.declared.ids.Ballot.{Ballot}
use Rattle.tg_base.specs.declared.ids.NodeId.{NodeId}
use Rattle.tg_base.specs.declared.msg.Msg.{Msg}
use Rattle.tg_base.specs.declared.msg.Msg.TheVariants as msg
use Rattle.tg_base.specs.declared.packet.Out.{Out}
use Rattle.tg_base.specs.declared.packet.Packet.{Packet}
use Rattle.tg_base.specs.Orders.{node_eq}
use Rattle.tg_kind.specs.Meaning.{Meaning}
use Rattle.tg_protocol.specs.Words.{unit_id, layout_id, seqr_id, client_id, ballot_lt}
use Rattle.tg_protocol.specs.Layouts.{first_layout}
use Rattle.tg_protocol.specs.Requests.{out}
use Rattle.tg_protocol.specs.Replies.{reply}
use Rattle.tg_protocol.specs.Reconfiguring.{Voting, ReconfWork, SealingSpare, LookingSpare, Sealing, LookingAgain, Agreeing, Telling, Starting, Reconf, reconf_asks, later_asks}
use Rattle.tg_protocol.specs.Clients.{Client, new_client}
use Rattle.tg_protocol.specs.ClientSteps.{ClientTurn, called, client_deliver}
use Rattle.tg_protocol.specs.Worlds.{packet_of}
use Rattle.tg_law_layouts.proofs.Moves.Clients.{reserved}
use Rattle.tg_law_layouts.proofs.Moves.Members.{Has, has_left, has_right, has_filter}
use Rattle.tg_law_layouts.proofs.Moves.Turns.{deliver_draws}
use Rattle.tg_law_finish.proofs.Finish.Counted.{cost}
use Rattle.tg_law_finish.proofs.Finish.Lines.{idle_deliver, weigh_asks}
use Rattle.tg_law_finish.proofs.Finish.Lists.{Each, each_both, set_there, set_other}
use Rattle.tg_law_finish.proofs.Finish.Nets.{Net, net_if, sent_if, net_after, sent_then, on_in, Alike, on_alike, client_alike, client_of}
use Rattle.tg_law_finish.proofs.Finish.Others.{weigh, weight, weigh_both, from_weighs, to_weighs}
use Rattle.tg_law_finish.proofs.Finish.Settles.{Step}
use Rattle.tg_law_reconfs.proofs.Votes.{contrary, ballot, promised, NotAbove, AskOk, TellOk, LatestLow, Base, Ok, Scans, Scanned, Asks, AsksUnit, Tells, Grows, grows_same, all_grow, scan_packet, told_packet, answer_packet}
use Rattle.tg_law_reconfs.proofs.Nodes.{NodeTurn, scan_comes, told_low, seqr_turned, server_comes, learn_comes, unit_comes}
use Rattle.tg_law_reconfs.proofs.Turns.{Mode, First, Second, Third, live, left_of, Begun, Heard, HeardIn, Claim, WorkFine, ReconfFine, Onward}
use Rattle.tg_law_reconfs.proofs.Drains.{Nums, Renumbered, renumbered, Votes, reserves, Comes, Over, Same, On, comes}

pub nothing_new : (q : List Packet) → q ≡ q ++ []
nothing_new [] = refl
nothing_new (x ∷ q) = ap (λ l. x ∷ l) (nothing_new q)

under_round : (b p : Ballot) → ballot_lt b p ≡ false → p.round ≤ b.round
under_round b p e = grind arith

pub new_each : {X Y : Type 0} {f : X → Y} → (P : Y → Type 0) (xs : List X) → ((x : X) → Has xs x → P (f x)) → Each P (map f xs)
new_each P [] t = tt
new_each P (x ∷ xs) t = (t x (inl refl), new_each P xs (λ y h. t y (inr h)))

pub mapped : {X Y : Type 0} (f : X → Y) (xs : List X) (x : X) → Has xs x → Has (map f xs) (f x)
mapped f [] x h = absurd h
mapped f (y ∷ xs) x (inl e) = inl (ap f e)
mapped f (y ∷ xs) x (inr h) = inr (mapped f xs x h)

module _ (m : Meaning) (h : Header) (stopped : List NodeId) (k epoch servers top round : ℕ) (past : 2 ≤ epoch) (near : epoch < 2 ^ 32) (small : top + 1 < 2 ^ 32) (fits : round ≤ top) (mode : Mode) (rest : ℕ) where
  abbrev Fits : Net m → Type 0
  Fits s = Base m h stopped k epoch servers top round s

  abbrev Rises : Net m → Net m → Type 0
  Rises s t = Grows m h stopped k epoch servers top round s t

  abbrev OkFor : Net m → Client m → Packet → Type 0
  OkFor s c x = Ok m h stopped k epoch servers top round s c.next (reserved m c) x

  abbrev heavy : List Packet → ℕ
  heavy q = weigh m h stopped k (first_layout h) q

  abbrev weighs : Packet → ℕ
  weighs x = weight m h stopped k (first_layout h) x

  abbrev VotesOn : Net m → Bool → Client m → Reconf → Type 0
  VotesOn s b c r = Votes m h stopped k epoch servers top round mode s b c r

  abbrev HeardOf : Bool → Net m → ReconfWork → ℕ → Type 0
  HeardOf b s w i = HeardIn m h stopped k epoch servers top round b s w i

  abbrev asked_packet : ℕ → ℕ → Msg → Packet
  asked_packet i j y = packet_of m (client_id k) (out (layout_id i) j y)

  abbrev told_by : ℕ → ℕ → Msg → Packet
  told_by i j y = answer_packet m h stopped k epoch servers top round (layout_id i) j y

  -- the request or its answer is on its way
  abbrev pub InFlight : List Packet → ℕ → ℕ → Type 0
  InFlight q i j = ((y : Msg) × Has q (asked_packet i j y)) ⊎ ((y : Msg) × Has q (told_by i j y))

  abbrev OfHead : Packet → ℕ → ℕ → Type 0
  OfHead x i j = ((y : Msg) × (asked_packet i j y ≡ x)) ⊎ ((y : Msg) × (told_by i j y ≡ x))

  pub record Idle (s : Net m) (q : List Packet) (n : ℕ) : Type 0 where
    pub base : Fits s
    pub there : (i : ℕ) → on_in m stopped s (layout_id i) ≡ true → i < servers
    pub each : Each (OkFor s (client_of m h s k)) q
    pub none : (client_of m h s k).work ≡ None
    pub few : heavy q + rest ≤ n

  pub record Busy (s : Net m) (q : List Packet) (n : ℕ) : Type 0 where
    pub base : Fits s
    pub there : (i : ℕ) → on_in m stopped s (layout_id i) ≡ true → i < servers
    pub each : Each (OkFor s (client_of m h s k)) q
    pub begun : Bool
    pub reconf : Reconf
    pub votes : VotesOn s begun (client_of m h s k) reconf
    pub nums : Nums m h stopped k epoch servers top round (client_of m h s k)
    pub flight : (i j : ℕ) → on_in m stopped s (layout_id i) ≡ true → Has (live begun reconf.work) (i, j) → InFlight q i j ⊎ HeardOf begun s reconf.work i
    pub left : ℕ
    pub enough : left_of m h stopped k epoch servers top round begun reconf.work ≤ left
    pub few : heavy q + (left + left) + rest ≤ n

  abbrev pub Inv : Net m → List Packet → ℕ → Type 0
  Inv s q n = Idle s q n ⊎ Busy s q n

  abbrev Next : Net m → List Packet → Packet → ℕ → Type 0
  Next s q x n = Step m k h stopped Inv s q x n

  -- What is kept from one state of the nodes to the next.

  heard_rises : (s t : Net m) (v : Voting) (i : ℕ) → Begun m h stopped k epoch servers top round v → Rises s t → Heard m h stopped k epoch servers top round s v i → Heard m h stopped k epoch servers top round t v i
  heard_rises s t v i vote g x = record { later = x.later; has = x.has; above = by (ballot_lt (ballot m h stopped k epoch servers top round) (promised m h stopped k epoch servers top round s i)) refl }
    where
      by : (c : Bool) → ballot_lt (ballot m h stopped k epoch servers top round) (promised m h stopped k epoch servers top round s i) ≡ c → (promised m h stopped k epoch servers top round t i).round < x.later.round
      by true e = let f = ap (λ (b : Ballot). b.round) (g.high i (promised m h stopped k epoch servers top round s i) refl e) in let a = x.above in omega (arith, f, a)
      by false e = let f = under_round (ballot m h stopped k epoch servers top round) (promised m h stopped k epoch servers top round t i) (g.low i e) in let a = (vote.later x.later x.has).1 in omega (arith, f, a)

  claim_rises : (mo : Mode) (s t : Net m) (b : Bool) (v : Voting) → Rattle.tg_law_reconfs.proofs.Turns.VoteFine m h stopped k epoch servers top round b v → Rises s t → Alike m s t → Claim m h stopped k epoch servers top round mo s b v → Claim m h stopped k epoch servers top round mo t b v
  claim_rises First s t b v vote g a c = tt
  claim_rises Second s t true v vote g a c = λ i on. by i (c i (sym (on_alike m stopped s t a (layout_id i)) ∙ on))
    where
      by : (i : ℕ) → NotAbove m h stopped k epoch servers top round s i ⊎ (Heard m h stopped k epoch servers top round s v i ⊎ ((j : ℕ) × Has (live true (Agreeing v)) (i, j))) → NotAbove m h stopped k epoch servers top round t i ⊎ (Heard m h stopped k epoch servers top round t v i ⊎ ((j : ℕ) × Has (live true (Agreeing v)) (i, j)))
      by i (inl x) = inl (g.low i x)
      by i (inr (inl x)) = inr (inl (heard_rises s t v i vote g x))
      by i (inr (inr x)) = inr (inr x)
  claim_rises Second s t false v vote g a c = λ i on. by i (c i (sym (on_alike m stopped s t a (layout_id i)) ∙ on))
    where
      by : (i : ℕ) → NotAbove m h stopped k epoch servers top round s i ⊎ (⊥ ⊎ ((j : ℕ) × Has (live false (Agreeing v)) (i, j))) → NotAbove m h stopped k epoch servers top round t i ⊎ (⊥ ⊎ ((j : ℕ) × Has (live false (Agreeing v)) (i, j)))
      by i (inl x) = inl (g.low i x)
      by i (inr x) = inr x
  claim_rises Third s t b v vote g a c = ((λ i on. g.low i (c.0 i (sym (on_alike m stopped s t a (layout_id i)) ∙ on))), c.1)

  work_rises : (s t : Net m) (b : Bool) (p : Layout) (w : ReconfWork) → Rises s t → Alike m s t → WorkFine m h stopped k epoch servers top round mode s b p w → WorkFine m h stopped k epoch servers top round mode t b p w
  work_rises s t b p (Agreeing v) g a f = (f.0, (f.1.0, claim_rises mode s t b v f.1.0 g a f.1.1))
  work_rises s t b p (Telling ws n q) g a f = f
  work_rises s t b p (Starting i) g a f = f
  work_rises s t b p (SealingSpare n) g a f = f
  work_rises s t b p (LookingSpare n) g a f = f
  work_rises s t b p (Sealing ws acks) g a f = f
  work_rises s t b p (LookingAgain n acks) g a f = f

  pub votes_rise : (s t : Net m) (b : Bool) (c : Client m) (r : Reconf) → Rises s t → Alike m s t → VotesOn s b c r → VotesOn t b c r
  votes_rise s t b c r g a v = record { work = v.work; waits = v.waits; hand = v.hand; stand = v.stand; layouts = v.layouts; fine = record { me = v.fine.me; layouts = v.fine.layouts; work = work_rises s t b r.stand r.work g a v.fine.work } }

  pub work_heard : (s t : Net m) (b : Bool) (p : Layout) (w : ReconfWork) (i : ℕ) → Rises s t → WorkFine m h stopped k epoch servers top round mode s b p w → HeardOf b s w i → HeardOf b t w i
  work_heard s t true p (Agreeing v) i g f x = heard_rises s t v i f.1.0 g x
  work_heard s t false p (Agreeing v) i g f x = x
  work_heard s t b p (Telling ws n q) i g f x = x
  work_heard s t b p (Starting n) i g f x = x
  work_heard s t b p (SealingSpare n) i g f x = x
  work_heard s t b p (LookingSpare n) i g f x = x
  work_heard s t b p (Sealing ws acks) i g f x = x
  work_heard s t b p (LookingAgain n acks) i g f x = x

  -- A packet comes to another node, or to none.
  pub record Turned (s t : Net m) (q sent : List Packet) (light : ℕ) : Type 0 where
    pub turn : NodeTurn m h stopped k epoch servers top round past near fits s t (client_of m h s k).next (reserved m (client_of m h s k)) sent light

  pub on_back : (s t : Net m) (n : NodeId) → Alike m s t → on_in m stopped t n ≡ true → on_in m stopped s n ≡ true
  on_back s t n a on = sym (on_alike m stopped s t a n) ∙ on

  flight_tail : (x : Packet) (q sent : List Packet) (i j : ℕ) → (OfHead x i j → InFlight (q ++ sent) i j) → InFlight (x ∷ q) i j → InFlight (q ++ sent) i j
  flight_tail x q sent i j f (inl (y, inl e)) = f (inl (y, e))
  flight_tail x q sent i j f (inl (y, inr g)) = inl (y, has_left q sent _ g)
  flight_tail x q sent i j f (inr (y, inl e)) = f (inr (y, e))
  flight_tail x q sent i j f (inr (y, inr g)) = inr (y, has_left q sent _ g)

  pub each_turned : (s t : Net m) (q sent : List Packet) (light : ℕ) → Each (OkFor s (client_of m h s k)) q → Turned s t q sent light → Each (OkFor t (client_of m h t k)) (q ++ sent)
  each_turned s t q sent light a d =
      let c = client_of m h s k in
      subst (λ (e : Client m). Each (OkFor t e) (q ++ sent)) (sym d.turn.client)
      (each_both (OkFor t c) q sent (all_grow m h stopped k epoch servers top round s t c.next c.next (reserved m c) (reserved m c) q d.turn.grows (omega arith) (λ o has less. has) a) d.turn.each)

  pub node_step : (s t : Net m) (x : Packet) (q sent : List Packet) (n light : ℕ) → Inv s (x ∷ q) n → Turned s t q sent light → cost k (Some x) + light ≤ weighs x
      → ((i j : ℕ) → on_in m stopped s (layout_id i) ≡ true → OfHead x i j → InFlight (q ++ sent) i j) → Next t (q ++ sent) x n
  unfolding weigh
  node_step s t x q sent n light (inl i) d pays head =
      let both = weigh_both m h stopped k (first_layout h) q sent in
      let light' = d.turn.few in
      let few = i.few in
      record {
        left = heavy (q ++ sent) + rest;
        keeps = inl (record { base = d.turn.base; there = λ j on. i.there j (on_back s t (layout_id j) d.turn.alike on); each = each_turned s t q sent light i.each.1 d; none = ap (λ (c : Client m). c.work) d.turn.client ∙ i.none; few = omega arith });
        pays = omega (arith, both, light', few, pays);
      }
  node_step s t x q sent n light (inr b) d pays head =
      let both = weigh_both m h stopped k (first_layout h) q sent in
      let light' = d.turn.few in
      let few = b.few in
      record {
        left = heavy (q ++ sent) + (b.left + b.left) + rest;
        keeps = inr (record {
          base = d.turn.base;
          there = λ j on. b.there j (on_back s t (layout_id j) d.turn.alike on);
          each = each_turned s t q sent light b.each.1 d;
          begun = b.begun;
          reconf = b.reconf;
          votes = subst (λ (c : Client m). VotesOn t b.begun c b.reconf) (sym d.turn.client) (votes_rise s t b.begun (client_of m h s k) b.reconf d.turn.grows d.turn.alike b.votes);
          nums = subst (λ (c : Client m). Nums m h stopped k epoch servers top round c) (sym d.turn.client) b.nums;
          flight = λ i j on has. by i j (on_back s t (layout_id i) d.turn.alike on) (b.flight i j (on_back s t (layout_id i) d.turn.alike on) has);
          left = b.left;
          enough = b.enough;
          few = omega arith;
        });
        pays = omega (arith, both, light', few, pays);
      }
    where
      by : (i j : ℕ) → on_in m stopped s (layout_id i) ≡ true → InFlight (x ∷ q) i j ⊎ HeardOf b.begun s b.reconf.work i → InFlight (q ++ sent) i j ⊎ HeardOf b.begun t b.reconf.work i
      by i j on (inl f) = inl (flight_tail x q sent i j (head i j on) f)
      by i j on (inr f) = inr (work_heard s t b.begun b.reconf.stand b.reconf.work i d.turn.grows b.votes.fine.work f)

  -- Each packet.

  role_not : (a b : NodeId) → (a.role ≡ b.role → ⊥) → a ≡ b → ⊥
  role_not a b f e = f (ap (λ (n : NodeId). n.role) e)

  client_seqr : (a : ℕ) → client_id k ≡ seqr_id a → ⊥
  client_seqr a e = role_not (client_id k) (seqr_id a) (λ f. cc) e

  layout_seqr : (i a : ℕ) → layout_id i ≡ seqr_id a → ⊥
  layout_seqr i a e = role_not (layout_id i) (seqr_id a) (λ f. cc) e

  client_unit : (a : ℕ) → client_id k ≡ unit_id a → ⊥
  client_unit a e = role_not (client_id k) (unit_id a) (λ f. cc) e

  layout_unit : (i a : ℕ) → layout_id i ≡ unit_id a → ⊥
  layout_unit i a e = role_not (layout_id i) (unit_id a) (λ f. cc) e

  layout_client : (i : ℕ) → layout_id i ≡ client_id k → ⊥
  layout_client i e = role_not (layout_id i) (client_id k) (λ f. cc) e

  client_itself : node_eq (client_id k) (client_id k) ≡ true
  unfolding node_eq
  client_itself = same k
    where
      same : (n : ℕ) → eqb n n ≡ true
      same n = grind arith

  cost_light : (x : Packet) → cost k (Some x) + 0 ≤ weighs x
  unfolding weight
  cost_light x = omega arith

  base_of : (s : Net m) (q : List Packet) (n : ℕ) → Inv s q n → Fits s
  base_of s q n (inl i) = i.base
  base_of s q n (inr b) = b.base

  from_of : (x y : Packet) → x ≡ y → x.from ≡ y.from
  from_of x y e = ap (λ (z : Packet). z.from) e

  to_of : (x y : Packet) → x ≡ y → x.to ≡ y.to
  to_of x y e = ap (λ (z : Packet). z.to) e

  -- a node that has stopped
  off_step : (s : Net m) (x : Packet) (q : List Packet) (n : ℕ) → Inv s (x ∷ q) n → on_in m stopped s x.to ≡ false → Next s (q ++ []) x n
  unfolding weigh
  off_step s x q n inv off = node_step s s x q [] n 0 inv
      (record { turn = record { base = base_of s (x ∷ q) n inv; grows = grows_same m h stopped k epoch servers top round s; alike = record { counts = λ r. refl }; client = refl; each = tt; few = omega arith } })
      (cost_light x) (λ i j on f. absurd (never i j on f))
    where
      never : (i j : ℕ) → on_in m stopped s (layout_id i) ≡ true → OfHead x i j → ⊥
      never i j on (inl (y, e)) = contrary (subst (λ (p : NodeId). on_in m stopped s p ≡ true) (to_of (asked_packet i j y) x e) on) off
      never i j on (inr (y, e)) = contrary (subst (λ (p : NodeId). on_in m stopped s p ≡ true) (to_of (told_by i j y) x e) (base_of s (x ∷ q) n inv).on) off

  ask_head : (x : Packet) (to : NodeId) (rid : ℕ) (y : Msg) (q sent : List Packet) (i j : ℕ) → x ≡ packet_of m (client_id k) (out to rid y) → (z : Msg) → Has sent (answer_packet m h stopped k epoch servers top round to rid z) → OfHead x i j → InFlight (q ++ sent) i j
  ask_head x to rid y q sent i j is z back (inl (w, e)) =
      let f = to_of (asked_packet i j w) (packet_of m (client_id k) (out to rid y)) (e ∙ is) in
      let g = ap (λ (p : Packet). p.rid) (e ∙ is) in
      inr (z, has_right q sent (told_by i j z) (subst (λ (p : NodeId). Has sent (answer_packet m h stopped k epoch servers top round p j z)) (sym f) (subst (λ (l : ℕ). Has sent (answer_packet m h stopped k epoch servers top round to l z)) (sym g) back)))
  ask_head x to rid y q sent i j is z back (inr (w, e)) = absurd (layout_client i (from_of (told_by i j w) (packet_of m (client_id k) (out to rid y)) (e ∙ is)))

  ask_pays : (o : Out) → cost k (Some (packet_of m (client_id k) o)) + 1 ≤ weighs (packet_of m (client_id k) o)
  ask_pays o = let w = from_weighs m h stopped k (first_layout h) o in let a = w.0 in let b = w.1 in omega (arith, a, b)

  -- where a request goes
  abbrev LearnsAt : NodeId → Msg → Type 0
  LearnsAt to y = (i : ℕ) × ((to ≡ seqr_id i) × ((p : Layout) × ((y ≡ msg.Learn p) × (p.epoch ≡ epoch))))

  target : (to : NodeId) (y : Msg) → AskOk m h stopped k epoch servers top round to y → ((i : ℕ) × (to ≡ layout_id i)) ⊎ LearnsAt to y
  target to (msg.Prepare e b) ok = inl ok.0
  target to (msg.Accept e b q) ok = inl ok.0
  target to (msg.Decided q) ok = inl ok.0
  target to msg.AskLatest ok = inl ok
  target to (msg.Learn q) ok = inr (ok.0.0, (ok.0.1, (q, (refl, ok.1))))
  target to y ok = absurd ok

  abbrev AskGoal : Net m → List Packet → ℕ → ℕ → NodeId → Msg → Type 0
  AskGoal s q n rid z w = on_in m stopped s z ≡ true → Inv s (packet_of m (client_id k) (out z rid w) ∷ q) n → ((v : Msg) → Has (reserved m (client_of m h s k)) (out z rid v) → v ≡ w)
      → Next (net_after m h s (packet_of m (client_id k) (out z rid w)) z.role) (q ++ sent_then m h s (packet_of m (client_id k) (out z rid w)) z.role) (packet_of m (client_id k) (out z rid w)) n

  ask_step : (s : Net m) (q : List Packet) (n : ℕ) (to : NodeId) (rid : ℕ) (y : Msg) → Inv s (packet_of m (client_id k) (out to rid y) ∷ q) n → on_in m stopped s to ≡ true → rid < (client_of m h s k).next → AskOk m h stopped k epoch servers top round to y
      → ((z : Msg) → Has (reserved m (client_of m h s k)) (out to rid z) → z ≡ y) → ((i : ℕ) × (to ≡ layout_id i)) ⊎ LearnsAt to y
      → Next (net_after m h s (packet_of m (client_id k) (out to rid y)) to.role) (q ++ sent_then m h s (packet_of m (client_id k) (out to rid y)) to.role) (packet_of m (client_id k) (out to rid y)) n
  ask_step s q n to rid y inv on less ok one (inl (i, e)) =
      subst (λ (p : NodeId). on_in m stopped s p ≡ true → Inv s (packet_of m (client_id k) (out p rid y) ∷ q) n → AskOk m h stopped k epoch servers top round p y → ((z : Msg) → Has (reserved m (client_of m h s k)) (out p rid z) → z ≡ y)
      → Next (net_after m h s (packet_of m (client_id k) (out p rid y)) p.role) (q ++ sent_then m h s (packet_of m (client_id k) (out p rid y)) p.role) (packet_of m (client_id k) (out p rid y)) n) (sym e)
      (λ on' inv' ok' one'.
      let c = client_of m h s k in
      let a = server_comes m h stopped k epoch servers top round past near fits s c.next (reserved m c) i rid y on' less ok' one' (base_of s _ n inv') in
      node_step s _ (packet_of m (client_id k) (out (layout_id i) rid y)) q _ n 1 inv' (record { turn = a.turn }) (ask_pays (out (layout_id i) rid y)) (λ i' j r f. ask_head _ (layout_id i) rid y q _ i' j refl a.says a.back f))
      on inv ok one
  ask_step s q n to rid y inv on less ok one (inr (i, (e, (p, (is, of))))) =
      subst (λ (w : Msg). AskGoal s q n rid to w) (sym is) (subst (λ (z : NodeId). AskGoal s q n rid z (msg.Learn p)) (sym e)
      (λ on' inv' one'.
      let c = client_of m h s k in
      let a = learn_comes m h stopped k epoch servers top round past near fits s c.next (reserved m c) i rid p on' less of one' (base_of s _ n inv') in
      node_step s _ (packet_of m (client_id k) (out (seqr_id i) rid (msg.Learn p))) q _ n 1 inv' (record { turn = a.turn }) (ask_pays (out (seqr_id i) rid (msg.Learn p))) (λ i' j r f. ask_head _ (seqr_id i) rid (msg.Learn p) q _ i' j refl a.says a.back f)))
      on inv one

  -- The client's own turn.

  pub clients_long : (s : Net m) → on_in m stopped s (client_id k) ≡ true → k < length s.clients
  clients_long s on = grind arith

  pub base_client : (s : Net m) (now : Client m) → Fits s → Fits (record s { clients = slice_set s.clients k now })
  base_client s now b = record {
    on = on_alike m stopped s _ (client_alike m s k now) (client_id k) ∙ b.on;
    units = b.units;
    layouts = b.layouts;
    seqrs = b.seqrs;
    idle = λ j off on. ap (λ (c : Client m). c.work) (set_other s.clients k now j (new_client m h j) off) ∙ b.idle j off (sym (on_alike m stopped s (record s { clients = slice_set s.clients k now }) (client_alike m s k now) (client_id j)) ∙ on);
  }

  pub rises_client : (s : Net m) (now : Client m) → Rises s (record s { clients = slice_set s.clients k now })
  rises_client s now = record { on = λ n e. on_alike m stopped s (record s { clients = slice_set s.clients k now }) (client_alike m s k now) n ∙ e; low = λ n e. e; high = λ n b e f. e }

  none_reserved : (c : Client m) → c.work ≡ None → (o : Out) → Has (reserved m c) o → ⊥
  none_reserved c e o has = subst (λ (w : Option (Rattle.tg_protocol.specs.Clients.Work m)). Has (Rattle.tg_law_layouts.proofs.Moves.Clients.work_reserved m c.stand w) o) e has

  module _ (s : Net m) (q : List Packet) (n : ℕ) (a : NodeId) (rid : ℕ) (y : Msg) (on : on_in m stopped s a ≡ true) (far : node_eq a (client_id k) ≡ false) (low : LatestLow m h stopped k epoch servers top round (reply y))
      (told : (x : Msg) → Has (reserved m (client_of m h s k)) (out a rid x) → TellOk m h stopped k epoch servers top round s a x (reply y)) where
    abbrev x : Packet
    x = answer_packet m h stopped k epoch servers top round a rid y

    abbrev c : Client m
    c = client_of m h s k

    abbrev t : ClientTurn m
    t = client_deliver m c a rid y

    abbrev s' : Client m → Net m
    s' now = record s { clients = slice_set s.clients k now }

    here : Fits s → (now : Client m) → client_of m h (s' now) k ≡ now
    here b now = set_there s.clients k now (new_client m h k) (clients_long s b.on)

    costs : (weighs x ≡ 1) × (cost k (Some x) ≡ 1)
    costs = to_weighs m h stopped k (first_layout h) a rid y far

    -- a client that waits for nothing
    idle_turn : Idle s (x ∷ q) n → Next (s' t.now) (q ++ map (packet_of m (client_id k)) t.sends) x n
    unfolding weigh
    idle_turn i = subst (λ (u : ClientTurn m). Next (s' u.now) (q ++ map (packet_of m (client_id k)) u.sends) x n) (sym (idle_deliver m c a rid y i.none))
        (subst (λ (r : List Packet). Next (s' (called m c)) r x n) (nothing_new q) (
        let few = i.few in
        let w = costs in
        let heavy' = w.0 in
        let one = w.1 in
        record {
          left = heavy q + rest;
          keeps = inl (record {
            base = base_client s (called m c) i.base;
            there = λ j on'. i.there j (on_back s (s' (called m c)) (layout_id j) (client_alike m s k (called m c)) on');
            each = subst (λ (d : Client m). Each (OkFor (s' (called m c)) d) q) (sym (here i.base (called m c))) (all_grow m h stopped k epoch servers top round s (s' (called m c)) c.next c.next (reserved m c) (reserved m c) q (rises_client s (called m c)) (omega arith) (λ o has less. has) i.each.1);
            none = ap (λ (d : Client m). d.work) (here i.base (called m c)) ∙ i.none;
            few = omega arith;
          });
          pays = omega (arith, few, heavy', one);
        }))

    module _ (b : Busy s (x ∷ q) n) where
      moves : Renumbered m h stopped k epoch servers top round c t.now
      moves = renumbered m h stopped k epoch servers top round c t.now t.sends b.nums (deliver_draws m c a rid y).is

      -- what was on its way stays, but for the answer
      flight_on : (sent : List Packet) (i j : ℕ) → ((a ≡ layout_id i) → rid ≡ j → ⊥) → InFlight (x ∷ q) i j → InFlight (q ++ sent) i j
      flight_on sent i j off f = flight_tail x q sent i j (λ g. absurd (at g)) f
        where
          itself : (z : NodeId) → z ≡ client_id k → node_eq z (client_id k) ≡ true
          itself z e = subst (λ (w : NodeId). node_eq w (client_id k) ≡ true) (sym e) client_itself

          at : OfHead x i j → ⊥
          at (inl (w, e)) = contrary (itself a (sym (from_of (asked_packet i j w) x e))) far
          at (inr (w, e)) = off (sym (from_of (told_by i j w) x e)) (sym (ap (λ (p : Packet). p.rid) e))

      over_turn : t.now.work ≡ None → t.sends ≡ [] → Next (s' t.now) (q ++ map (packet_of m (client_id k)) t.sends) x n
      unfolding weigh
      over_turn none sends = subst (λ (os : List Out). Next (s' t.now) (q ++ map (packet_of m (client_id k)) os) x n) (sym sends)
          (subst (λ (r : List Packet). Next (s' t.now) r x n) (nothing_new q) (
          let few = b.few in
          let w = costs in
          let heavy' = w.0 in
          let one = w.1 in
          record {
            left = heavy q + rest;
            keeps = inl (record {
              base = base_client s t.now b.base;
              there = λ j on'. b.there j (on_back s (s' t.now) (layout_id j) (client_alike m s k t.now) on');
              each = subst (λ (d : Client m). Each (OkFor (s' t.now) d) q) (sym (here b.base t.now)) (all_grow m h stopped k epoch servers top round s (s' t.now) c.next t.now.next (reserved m c) (reserved m t.now) q (rises_client s t.now) moves.up moves.back b.each.1);
              none = ap (λ (d : Client m). d.work) (here b.base t.now) ∙ none;
              few = omega arith;
            });
            pays = omega (arith, few, heavy', one);
          }))

      same_turn : t.now ≡ called m c → t.sends ≡ [] → ((i j : ℕ) → Has (live b.begun b.reconf.work) (i, j) → a ≡ layout_id i → rid ≡ j → ⊥) → Next (s' t.now) (q ++ map (packet_of m (client_id k)) t.sends) x n
      unfolding weigh
      same_turn now sends off = subst (λ (os : List Out). Next (s' t.now) (q ++ map (packet_of m (client_id k)) os) x n) (sym sends) (subst (λ (d : Client m). Next (s' d) (q ++ []) x n) (sym now) (
          let few = b.few in
          let w = costs in
          let heavy' = w.0 in
          let one = w.1 in
          let both = weigh_both m h stopped k (first_layout h) q [] in
          let v = b.votes in
          record {
            left = heavy q + (b.left + b.left) + rest;
            keeps = inr (record {
              base = base_client s (called m c) b.base;
              there = λ j on'. b.there j (on_back s (s' (called m c)) (layout_id j) (client_alike m s k (called m c)) on');
              each = subst (λ (d : Client m). Each (OkFor (s' (called m c)) d) (q ++ [])) (sym (here b.base (called m c))) (each_both _ q [] (all_grow m h stopped k epoch servers top round s (s' (called m c)) c.next c.next (reserved m c) (reserved m c) q (rises_client s (called m c)) (omega arith) (λ o has less. has) b.each.1) tt);
              begun = b.begun;
              reconf = b.reconf;
              votes = subst (λ (d : Client m). VotesOn (s' (called m c)) b.begun d b.reconf) (sym (here b.base (called m c)))
                  (votes_rise s (s' (called m c)) b.begun (called m c) b.reconf (rises_client s (called m c)) (client_alike m s k (called m c)) (record { work = v.work; waits = v.waits; hand = v.hand; stand = v.stand; layouts = v.layouts; fine = v.fine }));
              nums = subst (λ (d : Client m). Nums m h stopped k epoch servers top round d) (sym (here b.base (called m c))) (record { below = b.nums.below; one = b.nums.one });
              flight = λ i j on' has. by i j (off i j has) (b.flight i j (on_back s (s' (called m c)) (layout_id i) (client_alike m s k (called m c)) on') has);
              left = b.left;
              enough = b.enough;
              few = omega (arith, both);
            });
            pays = omega (arith, few, heavy', one);
          }))
        where
          by : (i j : ℕ) → (a ≡ layout_id i → rid ≡ j → ⊥) → InFlight (x ∷ q) i j ⊎ HeardOf b.begun s b.reconf.work i → InFlight (q ++ []) i j ⊎ HeardOf b.begun (s' (called m c)) b.reconf.work i
          by i j off (inl f) = inl (flight_on [] i j off f)
          by i j off (inr f) = inr (work_heard s (s' (called m c)) b.begun b.reconf.stand b.reconf.work i (rises_client s (called m c)) b.votes.fine.work f)

      on_turn : (r : Reconf) (o : Onward m h stopped k epoch servers top round mode s a rid (live b.begun b.reconf.work) (λ i. HeardOf b.begun s b.reconf.work i) (left_of m h stopped k epoch servers top round b.begun b.reconf.work) c.next r) → VotesOn s true t.now r → t.sends ≡ o.new
          → Next (s' t.now) (q ++ map (packet_of m (client_id k)) t.sends) x n
      unfolding weigh
      on_turn r o v sends = subst (λ (os : List Out). Next (s' t.now) (q ++ map (packet_of m (client_id k)) os) x n) (sym sends) (
          let few = b.few in
          let w = costs in
          let heavy' = w.0 in
          let one = w.1 in
          let news = map (packet_of m (client_id k)) o.new in
          let both = weigh_both m h stopped k (first_layout h) q news in
          let out' = weigh_asks m h stopped k (first_layout h) o.new in
          let less = o.few in
          let enough = b.enough in
          let left' = left_of m h stopped k epoch servers top round true r.work in
          record {
            left = heavy (q ++ news) + (left' + left') + rest;
            keeps = inr (record {
              base = base_client s t.now b.base;
              there = λ j on'. b.there j (on_back s (s' t.now) (layout_id j) (client_alike m s k t.now) on');
              each = subst (λ (d : Client m). Each (OkFor (s' t.now) d) (q ++ news)) (sym (here b.base t.now)) (each_both _ q news
                  (all_grow m h stopped k epoch servers top round s (s' t.now) c.next t.now.next (reserved m c) (reserved m t.now) q (rises_client s t.now) moves.up moves.back b.each.1)
                  (each_new o.new (λ z has. new_ok z has)));
              begun = true;
              reconf = r;
              votes = subst (λ (d : Client m). VotesOn (s' t.now) true d r) (sym (here b.base t.now)) (votes_rise s (s' t.now) true t.now r (rises_client s t.now) (client_alike m s k t.now) v);
              nums = subst (λ (d : Client m). Nums m h stopped k epoch servers top round d) (sym (here b.base t.now)) moves.nums;
              flight = λ i j on' has. by i j (on_back s (s' t.now) (layout_id i) (client_alike m s k t.now) on') (o.live i j has);
              left = left';
              enough = omega arith;
              few = omega arith;
            });
            pays = omega (arith, few, heavy', one, both, out', less, enough);
          })
        where
          in_asks : (z : Out) → Has o.new z → Has (reserved m t.now) z
          in_asks z has = subst (λ (os : List Out). Has os z) (sym (reserves m h stopped k epoch servers top round mode s true t.now r v)) (has_left (reconf_asks r) (later_asks r r.work) z (has_filter _ (reconf_asks r) z (subst (λ (os : List Out). Has os z) (sym o.drawn) has)))

          new_ok : (z : Out) → Has o.new z → OkFor (s' t.now) t.now (packet_of m (client_id k) z)
          new_ok z has = Asks z (moves.nums.below z (in_asks z has)) (o.asks z has) (λ w f. moves.nums.one (out z.to z.rid w) z f (in_asks z has) refl refl)

          each_new : (zs : List Out) → ((z : Out) → Has zs z → OkFor (s' t.now) t.now (packet_of m (client_id k) z)) → Each (OkFor (s' t.now) t.now) (map (packet_of m (client_id k)) zs)
          each_new zs f = new_each (OkFor (s' t.now) t.now) zs f

          by : (i j : ℕ) → on_in m stopped s (layout_id i) ≡ true → ((w : Msg) × Has o.new (out (layout_id i) j w)) ⊎ (((Has (live b.begun b.reconf.work) (i, j) × ((a ≡ layout_id i) → rid ≡ j → ⊥)) × (HeardOf b.begun s b.reconf.work i → HeardOf true s r.work i)) ⊎ HeardOf true s r.work i)
              → InFlight (q ++ map (packet_of m (client_id k)) o.new) i j ⊎ HeardOf true (s' t.now) r.work i
          by i j on' (inl (w, has)) = inl (inl (w, has_right q (map (packet_of m (client_id k)) o.new) (asked_packet i j w) (mapped (packet_of m (client_id k)) o.new (out (layout_id i) j w) has)))
          by i j on' (inr (inr f)) = inr (work_heard s (s' t.now) true r.stand r.work i (rises_client s t.now) v.fine.work f)
          by i j on' (inr (inl f)) = at (b.flight i j on' f.0.0)
            where
              at : InFlight (x ∷ q) i j ⊎ HeardOf b.begun s b.reconf.work i → InFlight (q ++ map (packet_of m (client_id k)) o.new) i j ⊎ HeardOf true (s' t.now) r.work i
              at (inl g) = inl (flight_on (map (packet_of m (client_id k)) o.new) i j f.0.1 g)
              at (inr g) = inr (work_heard s (s' t.now) true r.stand r.work i (rises_client s t.now) v.fine.work (f.1 g))

      client_turn : Comes m h stopped k epoch servers top round mode s small fits b.there (λ i. (b.base.layouts i).rounds) b.begun c b.reconf b.votes b.nums a rid on t → Next (s' t.now) (q ++ map (packet_of m (client_id k)) t.sends) x n
      client_turn (Over none sends) = over_turn none sends
      client_turn (Same now sends off) = same_turn now sends off
      client_turn (On r o v sends) = on_turn r o v sends

    tell_step : Inv s (x ∷ q) n → Next (s' t.now) (q ++ map (packet_of m (client_id k)) t.sends) x n
    tell_step (inl i) = idle_turn i
    tell_step (inr b) = client_turn b (comes m h stopped k epoch servers top round mode s small fits b.there (λ i. (b.base.layouts i).rounds) b.begun c b.reconf b.votes b.nums a rid on y low
        (λ z has. told z (subst (λ (os : List Out). Has os (out a rid z)) (sym (reserves m h stopped k epoch servers top round mode s b.begun c b.reconf b.votes)) has)))

  -- All packets.

  on_step : (s : Net m) (x : Packet) (q : List Packet) (n : ℕ) → Inv s (x ∷ q) n → OkFor s (client_of m h s k) x → on_in m stopped s x.to ≡ true → Next (net_after m h s x x.to.role) (q ++ sent_then m h s x x.to.role) x n
  on_step s x q n inv (Scans a u rid y scan) on = node_step s _ x q _ n 0 inv (record { turn = scan_comes m h stopped k epoch servers top round past near fits s (client_of m h s k).next (reserved m (client_of m h s k)) a u rid y scan (base_of s (x ∷ q) n inv) }) (cost_light x) (λ i j r f. absurd (never i j f))
    where
      never : (i j : ℕ) → OfHead (scan_packet m h stopped k epoch servers top round a u rid y) i j → ⊥
      never i j (inl (w, e)) = client_seqr a (from_of (asked_packet i j w) (scan_packet m h stopped k epoch servers top round a u rid y) e)
      never i j (inr (w, e)) = layout_seqr i a (from_of (told_by i j w) (scan_packet m h stopped k epoch servers top round a u rid y) e)
  on_step s x q n inv (Scanned a u rid y low) on = node_step s _ x q _ n 0 inv (record { turn = seqr_turned m h stopped k epoch servers top round past near fits s (client_of m h s k).next (reserved m (client_of m h s k)) a _ (told_low m h stopped k epoch servers top round (Rattle.tg_law_finish.proofs.Finish.Nets.seqr_of m h s a) (unit_id u) rid y low ((base_of s (x ∷ q) n inv).seqrs a)) (base_of s (x ∷ q) n inv) }) (cost_light x) (λ i j r f. absurd (never i j f))
    where
      never : (i j : ℕ) → OfHead (told_packet m h stopped k epoch servers top round a u rid y) i j → ⊥
      never i j (inl (w, e)) = client_unit u (from_of (asked_packet i j w) (told_packet m h stopped k epoch servers top round a u rid y) e)
      never i j (inr (w, e)) = layout_unit i u (from_of (told_by i j w) (told_packet m h stopped k epoch servers top round a u rid y) e)
  on_step s x q n inv (Asks o less ok one) on = ask_step s q n o.to o.rid o.msg inv on less ok one (target o.to o.msg ok)
  on_step s x q n inv (AsksUnit u rid y less of one) on =
      let c = client_of m h s k in
      let a = unit_comes m h stopped k epoch servers top round past near fits s c.next (reserved m c) u rid y on less of one (base_of s (x ∷ q) n inv) in
      node_step s _ (packet_of m (client_id k) (out (unit_id u) rid y)) q _ n 1 inv (record { turn = a.turn }) (ask_pays (out (unit_id u) rid y)) (λ i j r f. absurd (never i j f))
    where
      never : (i j : ℕ) → OfHead (packet_of m (client_id k) (out (unit_id u) rid y)) i j → ⊥
      never i j (inl (w, e)) = layout_unit i u (to_of (asked_packet i j w) (packet_of m (client_id k) (out (unit_id u) rid y)) e)
      never i j (inr (w, e)) = layout_client i (from_of (told_by i j w) (packet_of m (client_id k) (out (unit_id u) rid y)) e)
  on_step s x q n inv (Tells a rid y on' far less low told) on = tell_step s q n a rid y on' far low told inv

  pub any_step : (s : Net m) (x : Packet) (q : List Packet) (n : ℕ) → Inv s (x ∷ q) n → Next (net_if m (on_in m stopped s x.to) h s x) (q ++ sent_if m (on_in m stopped s x.to) h s x) x n
  any_step s x q n inv = by (on_in m stopped s x.to) refl (ok inv)
    where
      ok : Inv s (x ∷ q) n → OkFor s (client_of m h s k) x
      ok (inl i) = i.each.0
      ok (inr b) = b.each.0

      by : (b : Bool) → on_in m stopped s x.to ≡ b → OkFor s (client_of m h s k) x → Next (net_if m b h s x) (q ++ sent_if m b h s x) x n
      by true e o = on_step s x q n inv o e
      by false e o = off_step s x q n inv e
