-- What stays true of the packets of one epoch when a client or a layout server sends more.
use Rattle.std.proofs.Common.{◌≡◌, ◌⊎◌, ℕ, ◌<◌, List, [], ◌∷◌, ◌++◌, true, false, refl, sym, ap, ◌∙◌, subst, inl, inr, arith, Some, None, Option}
use Rattle.tg_base.specs.Layouts.{Layout}
use Rattle.tg_base.specs.declared.ids.Ballot.{Ballot}
use Rattle.tg_base.specs.declared.ids.NodeId.{NodeId}
use Rattle.tg_base.specs.declared.msg.Msg.{Msg}
use Rattle.tg_base.specs.declared.msg.Msg.TheVariants as msg
use Rattle.tg_base.specs.declared.packet.Packet.{Packet}
use Rattle.tg_protocol.specs.Words.{ballot_lt, layout_id}
use Rattle.tg_protocol.specs.LayoutServers.{Vote}
use Rattle.tg_protocol.specs.Reconfiguring.{Before}
use Rattle.tg_law_layouts.proofs.Moves.Members.{Has, has_left, has_either}
use Rattle.tg_law_layouts.proofs.Agreement.Ballots.{not_less_then}
use Rattle.tg_law_layouts.proofs.Agreement.Facts.{Proposed, Promised, Elected, Covers, Truth, Grows, proposed_grows, elected_grows, Accepts as Acceptance}
use Rattle.tg_law_layouts.proofs.Agreement.Servers.{Moved, Kept, Promises, Votes, Stands}

-- Some more packets.

module _ (e : ℕ) (ps new : List Packet) where
  pub record NewProposal (b : Ballot) (q : Layout) : Type 0 where
    pub packet : Packet
    pub sent : Has new packet
    pub is : packet.msg ≡ msg.Accept e b q

  pub grows : Grows ps (ps ++ new)
  grows x h = has_left ps new x h

  pub proposed_either : (b : Ballot) (q : Layout) → Proposed e (ps ++ new) b q → Proposed e ps b q ⊎ NewProposal b q
  proposed_either b q x = by (has_either ps new x.packet x.sent)
    where
      by : Has ps x.packet ⊎ Has new x.packet → Proposed e ps b q ⊎ NewProposal b q
      by (inl h) = inl (record { packet = x.packet; sent = h; is = x.is })
      by (inr h) = inr (record { packet = x.packet; sent = h; is = x.is })

  pub record NewPromise (l : ℕ) (b : Ballot) (a : Before) : Type 0 where
    pub packet : Packet
    pub sent : Has new packet
    pub from : packet.from ≡ layout_id l
    pub is : packet.msg ≡ msg.Promise e b a

  promised_either : (l : ℕ) (b : Ballot) (a : Before) → Promised e (ps ++ new) l b a → Promised e ps l b a ⊎ NewPromise l b a
  promised_either l b a x = by (has_either ps new x.packet x.sent)
    where
      by : Has ps x.packet ⊎ Has new x.packet → Promised e ps l b a ⊎ NewPromise l b a
      by (inl h) = inl (record { packet = x.packet; sent = h; from = x.from; is = x.is })
      by (inr h) = inr (record { packet = x.packet; sent = h; from = x.from; is = x.is })

  pub record NewAcceptance (l : ℕ) (b : Ballot) : Type 0 where
    pub packet : Packet
    pub sent : Has new packet
    pub from : packet.from ≡ layout_id l
    pub is : packet.msg ≡ msg.Accepted e b

  accepted_either : (l : ℕ) (b : Ballot) → Acceptance e (ps ++ new) l b → Acceptance e ps l b ⊎ NewAcceptance l b
  accepted_either l b x = by (has_either ps new x.packet x.sent)
    where
      by : Has ps x.packet ⊎ Has new x.packet → Acceptance e ps l b ⊎ NewAcceptance l b
      by (inl h) = inl (record { packet = x.packet; sent = h; from = x.from; is = x.is })
      by (inr h) = inr (record { packet = x.packet; sent = h; from = x.from; is = x.is })

-- what a layout server says in a packet
pub record Said (l : ℕ) (says : Option Msg) (y : Packet) : Type 0 where
  pub msg : Msg
  pub is : says ≡ Some msg
  pub same : y.msg ≡ msg
  pub from : y.from ≡ layout_id l

pub said_this : (l : ℕ) (m : Msg) (x y : Packet) → x.from ≡ layout_id l → x.msg ≡ m → Has (x ∷ []) y → Said l (Some m) y
said_this l m x y from is (inl e) = record { msg = m; is = refl; same = ap (λ (z : Packet). z.msg) e ∙ is; from = ap (λ (z : Packet). z.from) e ∙ from }
said_this l m x y from is (inr h) = absurd h

module _ (E n : ℕ) (Mine : Layout → Type 0) where
  -- A client sends: what it proposes now is its own, and one layout for a ballot.

  module _ (ps : List Packet) (truth : Truth E n Mine ps) (k : ℕ) (new : List Packet) (no_promise : (l : ℕ) (b : Ballot) (a : Before) → NewPromise E ps new l b a → ⊥)
      (no_acceptance : (l : ℕ) (b : Ballot) → NewAcceptance E ps new l b → ⊥) (Now : Ballot → Layout → Type 0)
      (new_proposes : (b : Ballot) (q : Layout) → NewProposal E ps new b q → Now b q)
      (own : (b : Ballot) (q : Layout) → Now b q → (b.client ≡ k) × Elected E n ps b q × Mine q × ((y : Layout) → Proposed E ps b y → y ≡ q))
      (one : (b : Ballot) (q r : Layout) → Now b q → Now b r → q ≡ r) where
    promised_before : (l : ℕ) (b : Ballot) (a : Before) → Promised E (ps ++ new) l b a → Promised E ps l b a
    promised_before l b a x = by (promised_either E ps new l b a x)
      where
        by : Promised E ps l b a ⊎ NewPromise E ps new l b a → Promised E ps l b a
        by (inl y) = y
        by (inr y) = absurd (no_promise l b a y)

    accepted_before : (l : ℕ) (b : Ballot) → Acceptance E (ps ++ new) l b → Acceptance E ps l b
    accepted_before l b x = by (accepted_either E ps new l b x)
      where
        by : Acceptance E ps l b ⊎ NewAcceptance E ps new l b → Acceptance E ps l b
        by (inl y) = y
        by (inr y) = absurd (no_acceptance l b y)

    pub proposed_or_now : (b : Ballot) (q : Layout) → Proposed E (ps ++ new) b q → Proposed E ps b q ⊎ Now b q
    proposed_or_now b q x = by (proposed_either E ps new b q x)
      where
        by : Proposed E ps b q ⊎ NewProposal E ps new b q → Proposed E ps b q ⊎ Now b q
        by (inl y) = inl y
        by (inr y) = inr (new_proposes b q y)

    unique : (b : Ballot) (q r : Layout) → Proposed E ps b q ⊎ Now b q → Proposed E ps b r ⊎ Now b r → q ≡ r
    unique b q r (inl x) (inl y) = truth.facts.unique b q r x y
    unique b q r (inl x) (inr y) = (own b r y).3 q x
    unique b q r (inr x) (inl y) = sym ((own b q x).3 r y)
    unique b q r (inr x) (inr y) = one b q r x y

    elected : (b : Ballot) (q : Layout) → Proposed E ps b q ⊎ Now b q → Elected E n (ps ++ new) b q
    elected b q (inl x) = elected_grows E n ps (ps ++ new) (grows E ps new) b q (truth.facts.elected b q x)
    elected b q (inr x) = elected_grows E n ps (ps ++ new) (grows E ps new) b q (own b q x).1

    allowed : (b : Ballot) (q : Layout) → Proposed E ps b q ⊎ Now b q → Mine q
    allowed b q (inl x) = truth.allowed b q x
    allowed b q (inr x) = (own b q x).2

    pub sent_truth : Truth E n Mine (ps ++ new)
    sent_truth = record {
      facts = record {
        unique = λ b q r x y. unique b q r (proposed_or_now b q x) (proposed_or_now b r y);
        elected = λ b q x. elected b q (proposed_or_now b q x);
        tells = λ l b d a x y less. truth.facts.tells l b d a (promised_before l b a x) (accepted_before l d y) less;
      };
      servers = λ l b a x. truth.servers l b a (promised_before l b a x);
      told = λ l b x y. let t = truth.told l b x (promised_before l b (Some x) y) in (proposed_grows E ps (ps ++ new) (grows E ps new) x.0 x.1 t.0, t.1);
      allowed = λ b q x. allowed b q (proposed_or_now b q x);
    }

    pub sent_stands : (l : ℕ) (v : Vote) → Stands E ps l v → Stands E (ps ++ new) l v
    sent_stands l v s = record {
      promised = λ b a x. s.promised b a (promised_before l b a x);
      covered = λ b x. s.covered b (accepted_before l b x);
      proposed = λ x is. let t = s.proposed x is in (proposed_grows E ps (ps ++ new) (grows E ps new) x.0 x.1 t.0, t.1);
    }

  -- A server answers.

  module _ (ps : List Packet) (truth : Truth E n Mine ps) (x : Packet) (sent : Has ps x) (l : ℕ) (less : l < n) (v u : Vote) (stands : Stands E ps l v) (says : Option Msg) (moved : Moved E v x.msg u says)
      (answers : List Packet) (said : (y : Packet) → Has answers y → Said l says y) where
    says_this : (y : Packet) (m : Msg) → Has answers y → y.msg ≡ m → says ≡ Some m
    says_this y m h is = let s = said y h in s.is ∙ ap (λ (z : Msg). Some z) (sym s.same ∙ is)

    same_server : (i : ℕ) → layout_id l ≡ layout_id i → i ≡ l
    same_server i e = sym (ap (λ (z : NodeId). z.num) e)

    server_is : (y : Packet) (i : ℕ) → Has answers y → y.from ≡ layout_id i → i ≡ l
    server_is y i h from = same_server i (sym (said y h).from ∙ from)

    no_accept : (b : Ballot) (q : Layout) → Moved E v x.msg u says → says ≡ Some (msg.Accept E b q) → ⊥
    no_accept b q (Kept a c d f) is = f b q is
    no_accept b q (Promises c above t s) is = not_both c b q (sym s ∙ is)
      where
        not_both : (c b : Ballot) (q : Layout) → Some (msg.Promise E c v.accepted) ≡ Some (msg.Accept E b q) → ⊥
        not_both c b q h = cc
    no_accept b q (Votes c r asked above t s) is = not_both c b q (sym s ∙ is)
      where
        not_both : (c b : Ballot) (q : Layout) → Some (msg.Accepted E c) ≡ Some (msg.Accept E b q) → ⊥
        not_both c b q h = cc

    pub proposed_old : (b : Ballot) (q : Layout) → Proposed E (ps ++ answers) b q → Proposed E ps b q
    proposed_old b q y = by (proposed_either E ps answers b q y)
      where
        by : Proposed E ps b q ⊎ NewProposal E ps answers b q → Proposed E ps b q
        by (inl z) = z
        by (inr z) = absurd (no_accept b q moved (says_this z.packet _ z.sent z.is))

    -- a new promise is the server's, of its vote
    pub record Vows (i : ℕ) (b : Ballot) (a : Before) : Type 0 where
      pub server : i ≡ l
      pub told : a ≡ v.accepted
      pub above : ballot_lt b v.promised ≡ false
      pub now : u ≡ record { promised = b; accepted = v.accepted }
      pub is : says ≡ Some (msg.Promise E b a)

    promise_same : (c b : Ballot) (a d : Before) → Some (msg.Promise E c a) ≡ Some (msg.Promise E b d) → (c ≡ b) × (a ≡ d)
    promise_same c b a d h = (cc, cc)

    vows : (i : ℕ) (b : Ballot) (a : Before) → i ≡ l → Moved E v x.msg u says → says ≡ Some (msg.Promise E b a) → Vows i b a
    vows i b a same (Kept s c d f) is = absurd (c b a is)
    vows i b a same (Promises c above t s) is =
        let z = promise_same c b v.accepted a (sym s ∙ is) in
        record { server = same; told = sym z.1; above = subst (λ (y : Ballot). ballot_lt y v.promised ≡ false) z.0 above; now = t ∙ ap (λ (y : Ballot). record { promised = y; accepted = v.accepted }) z.0; is = is }
    vows i b a same (Votes c r asked above t s) is = absurd (not_both (sym s ∙ is))
      where
        not_both : Some (msg.Accepted E c) ≡ Some (msg.Promise E b a) → ⊥
        not_both h = cc

    promised_now : (i : ℕ) (b : Ballot) (a : Before) → Promised E (ps ++ answers) i b a → Promised E ps i b a ⊎ Vows i b a
    promised_now i b a y = by (promised_either E ps answers i b a y)
      where
        by : Promised E ps i b a ⊎ NewPromise E ps answers i b a → Promised E ps i b a ⊎ Vows i b a
        by (inl z) = inl z
        by (inr z) = inr (vows i b a (server_is z.packet i z.sent z.from) moved (says_this z.packet _ z.sent z.is))

    -- a new acceptance is the server's, of a proposal
    pub record Takes (i : ℕ) (b : Ballot) : Type 0 where
      pub server : i ≡ l
      pub layout : Layout
      pub asked : x.msg ≡ msg.Accept E b layout
      pub above : ballot_lt b v.promised ≡ false
      pub now : u ≡ record { promised = b; accepted = Some (b, layout) }
      pub is : says ≡ Some (msg.Accepted E b)

    accepted_same : (c b : Ballot) → Some (msg.Accepted E c) ≡ Some (msg.Accepted E b) → c ≡ b
    accepted_same c b h = cc

    takes : (i : ℕ) (b : Ballot) → i ≡ l → Moved E v x.msg u says → says ≡ Some (msg.Accepted E b) → Takes i b
    takes i b same (Kept s c d f) is = absurd (d b is)
    takes i b same (Promises c above t s) is = absurd (not_both (sym s ∙ is))
      where
        not_both : Some (msg.Promise E c v.accepted) ≡ Some (msg.Accepted E b) → ⊥
        not_both h = cc
    takes i b same (Votes c r asked above t s) is =
        let z = accepted_same c b (sym s ∙ is) in
        record {
          server = same;
          layout = r;
          asked = subst (λ (y : Ballot). x.msg ≡ msg.Accept E y r) z asked;
          above = subst (λ (y : Ballot). ballot_lt y v.promised ≡ false) z above;
          now = t ∙ ap (λ (y : Ballot). record { promised = y; accepted = Some (y, r) }) z;
          is = is;
        }

    accepted_now : (i : ℕ) (b : Ballot) → Acceptance E (ps ++ answers) i b → Acceptance E ps i b ⊎ Takes i b
    accepted_now i b y = by (accepted_either E ps answers i b y)
      where
        by : Acceptance E ps i b ⊎ NewAcceptance E ps answers i b → Acceptance E ps i b ⊎ Takes i b
        by (inl z) = inl z
        by (inr z) = inr (takes i b (server_is z.packet i z.sent z.from) moved (says_this z.packet _ z.sent z.is))

    tells_now : (i : ℕ) (b d : Ballot) (a : Before) → ballot_lt d b ≡ true → Promised E ps i b a ⊎ Vows i b a → Acceptance E ps i d ⊎ Takes i d → Covers a d
    tells_now i b d a below (inl y) (inl z) = truth.facts.tells i b d a y z below
    tells_now i b d a below (inr y) (inl z) = subst (λ (c : Before). Covers c d) (sym y.told) (stands.covered d (subst (λ (j : ℕ). Acceptance E ps j d) y.server z))
    tells_now i b d a below (inl y) (inr z) = absurd (contrary v.promised (stands.promised b a (subst (λ (j : ℕ). Promised E ps j b a) z.server y)) z.above below)
      where
        contrary : (c : Ballot) → ballot_lt c b ≡ false → ballot_lt d c ≡ false → ballot_lt d b ≡ true → ⊥
        contrary c f g h = grind arith
    tells_now i b d a below (inr y) (inr z) = absurd (not_both y.now z.now)
      where
        not_both : u ≡ record { promised = b; accepted = v.accepted } → u ≡ record { promised = d; accepted = Some (d, z.layout) } → ⊥
        not_both f g = let same = ap (λ (t : Vote). t.promised) (sym f ∙ g) in itself (subst (λ (c : Ballot). ballot_lt d c ≡ true) same below)
          where
            itself : ballot_lt d d ≡ true → ⊥
            itself h = grind arith

    told_now : (i : ℕ) (b : Ballot) (y : Ballot × Layout) → Promised E ps i b (Some y) ⊎ Vows i b (Some y) → Proposed E (ps ++ answers) y.0 y.1 × (ballot_lt b y.0 ≡ false)
    told_now i b y (inl z) = let t = truth.told i b y z in (proposed_grows E ps (ps ++ answers) (grows E ps answers) y.0 y.1 t.0, t.1)
    told_now i b y (inr z) =
        let t = stands.proposed y (sym z.told) in
        (proposed_grows E ps (ps ++ answers) (grows E ps answers) y.0 y.1 t.0, not_less_then y.0 v.promised b t.1 z.above)

    pub answered_truth : Truth E n Mine (ps ++ answers)
    answered_truth = record {
      facts = record {
        unique = λ b q r y z. truth.facts.unique b q r (proposed_old b q y) (proposed_old b r z);
        elected = λ b q y. elected_grows E n ps (ps ++ answers) (grows E ps answers) b q (truth.facts.elected b q (proposed_old b q y));
        tells = λ i b d a y z below. tells_now i b d a below (promised_now i b a y) (accepted_now i d z);
      };
      servers = λ i b a y. of_server i b a (promised_now i b a y);
      told = λ i b y z. told_now i b y (promised_now i b (Some y) z);
      allowed = λ b q y. truth.allowed b q (proposed_old b q y);
    }
      where
        of_server : (i : ℕ) (b : Ballot) (a : Before) → Promised E ps i b a ⊎ Vows i b a → i < n
        of_server i b a (inl y) = truth.servers i b a y
        of_server i b a (inr y) = subst (λ (j : ℕ). j < n) (sym y.server) less

    -- the servers that stood at their votes

    pub other_stands : (i : ℕ) (t : Vote) → (i ≡ l → ⊥) → Stands E ps i t → Stands E (ps ++ answers) i t
    other_stands i t other s = record {
      promised = λ b a y. by b a (promised_now i b a y);
      covered = λ b y. at b (accepted_now i b y);
      proposed = λ y is. let z = s.proposed y is in (proposed_grows E ps (ps ++ answers) (grows E ps answers) y.0 y.1 z.0, z.1);
    }
      where
        by : (b : Ballot) (a : Before) → Promised E ps i b a ⊎ Vows i b a → ballot_lt t.promised b ≡ false
        by b a (inl y) = s.promised b a y
        by b a (inr y) = absurd (other y.server)

        at : (b : Ballot) → Acceptance E ps i b ⊎ Takes i b → Covers t.accepted b
        at b (inl y) = s.covered b y
        at b (inr y) = absurd (other y.server)

    covers_more : (a : Before) (b c : Ballot) (q : Layout) → ((y : Ballot × Layout) → a ≡ Some y → ballot_lt c y.0 ≡ false) → Covers a b → Covers (Some (c, q)) b
    covers_more None b c q up h = absurd h
    covers_more (Some y) b c q up h = not_less_then b y.0 c h (up y refl)

    promise_stands : (b : Ballot) → ballot_lt b v.promised ≡ false → u ≡ record { promised = b; accepted = v.accepted } → says ≡ Some (msg.Promise E b v.accepted)
        → Stands E (ps ++ answers) l (record { promised = b; accepted = v.accepted })
    promise_stands b above now is = record {
      promised = λ d a y. by d a (promised_now l d a y);
      covered = λ d y. at d (accepted_now l d y);
      proposed = λ y q. let z = stands.proposed y q in (proposed_grows E ps (ps ++ answers) (grows E ps answers) y.0 y.1 z.0, not_less_then y.0 v.promised b z.1 above);
    }
      where
        by : (d : Ballot) (a : Before) → Promised E ps l d a ⊎ Vows l d a → ballot_lt b d ≡ false
        by d a (inl y) = not_less_then d v.promised b (stands.promised d a y) above
        by d a (inr y) = let same = ap (λ (t : Vote). t.promised) (sym now ∙ y.now) in subst (λ (c : Ballot). ballot_lt b c ≡ false) same (itself b)
          where
            itself : (c : Ballot) → ballot_lt c c ≡ false
            itself c = grind arith

        at : (d : Ballot) → Acceptance E ps l d ⊎ Takes l d → Covers v.accepted d
        at d (inl y) = stands.covered d y
        at d (inr y) = absurd (not_both (sym is ∙ y.is))
          where
            not_both : Some (msg.Promise E b v.accepted) ≡ Some (msg.Accepted E d) → ⊥
            not_both h = cc

    vote_stands : (b : Ballot) (q : Layout) → x.msg ≡ msg.Accept E b q → ballot_lt b v.promised ≡ false → says ≡ Some (msg.Accepted E b)
        → Stands E (ps ++ answers) l (record { promised = b; accepted = Some (b, q) })
    vote_stands b q asked above is = record {
      promised = λ d a y. by d a (promised_now l d a y);
      covered = λ d y. at d (accepted_now l d y);
      proposed = λ y h. subst (λ (z : Ballot × Layout). Proposed E (ps ++ answers) z.0 z.1 × (ballot_lt b z.0 ≡ false)) (some_is (b, q) y h) (here, itself b);
    }
      where
        itself : (c : Ballot) → ballot_lt c c ≡ false
        itself c = grind arith

        some_is : (y z : Ballot × Layout) → Some y ≡ Some z → y ≡ z
        some_is y z h = cc

        here : Proposed E (ps ++ answers) b q
        here = record { packet = x; sent = has_left ps answers x sent; is = asked }

        by : (d : Ballot) (a : Before) → Promised E ps l d a ⊎ Vows l d a → ballot_lt b d ≡ false
        by d a (inl y) = not_less_then d v.promised b (stands.promised d a y) above
        by d a (inr y) = absurd (not_both (sym is ∙ y.is))
          where
            not_both : Some (msg.Accepted E b) ≡ Some (msg.Promise E d a) → ⊥
            not_both h = cc

        at : (d : Ballot) → Acceptance E ps l d ⊎ Takes l d → Covers (Some (b, q)) d
        at d (inl y) = covers_more v.accepted d b q (λ z h. not_less_then z.0 v.promised b (stands.proposed z h).1 above) (stands.covered d y)
        at d (inr y) = subst (λ (c : Ballot). ballot_lt b c ≡ false) (accepted_same b d (sym is ∙ y.is)) (itself b)

    kept_stands : ((b : Ballot) (a : Before) → says ≡ Some (msg.Promise E b a) → ⊥) → ((b : Ballot) → says ≡ Some (msg.Accepted E b) → ⊥) → Stands E (ps ++ answers) l v
    kept_stands c d = record {
      promised = λ b a y. by b a (promised_now l b a y);
      covered = λ b y. at b (accepted_now l b y);
      proposed = λ y h. let z = stands.proposed y h in (proposed_grows E ps (ps ++ answers) (grows E ps answers) y.0 y.1 z.0, z.1);
    }
      where
        by : (b : Ballot) (a : Before) → Promised E ps l b a ⊎ Vows l b a → ballot_lt v.promised b ≡ false
        by b a (inl y) = stands.promised b a y
        by b a (inr y) = absurd (c b a y.is)

        at : (b : Ballot) → Acceptance E ps l b ⊎ Takes l b → Covers v.accepted b
        at b (inl y) = stands.covered b y
        at b (inr y) = absurd (d b y.is)

    stands_by : Moved E v x.msg u says → Stands E (ps ++ answers) l u
    stands_by (Kept same c d f) = subst (λ (t : Vote). Stands E (ps ++ answers) l t) (sym same) (kept_stands c d)
    stands_by (Promises b above t s) = subst (λ (z : Vote). Stands E (ps ++ answers) l z) (sym t) (promise_stands b above t s)
    stands_by (Votes b q asked above t s) = subst (λ (z : Vote). Stands E (ps ++ answers) l z) (sym t) (vote_stands b q asked above s)

    pub own_stands : Stands E (ps ++ answers) l u
    own_stands = stands_by moved
