-- A client that reconfigures, seen from the epoch that it proposes a layout for.
use Rattle.std.proofs.Common.{◌≡◌, ◌⊎◌, ℕ, zero, suc, ◌+◌, ◌<◌, ◌≤◌, List, [], ◌∷◌, length, Bool, true, false, not, ◌&&◌, refl, sym, ap, ◌∙◌, subst, inl, inr, arith, Some, None, Option}
use Rattle.std.specs.Prelude.{nat_lt, ◌==◌}
use Rattle.std.specs.List.{list_any}
use Rattle.tg_base.specs.Layouts.{Layout}
use Rattle.tg_base.specs.Changes.{Changed}
use Rattle.tg_base.specs.declared.change.Join.{Join}
use Rattle.tg_base.specs.declared.ids.Ballot.{Ballot}
use Rattle.tg_base.specs.declared.ids.NodeId.{NodeId}
use Rattle.tg_base.specs.declared.msg.Msg.{Msg}
use Rattle.tg_base.specs.declared.msg.Msg.TheVariants as msg
use Rattle.tg_base.specs.declared.packet.Out.{Out}
use Rattle.tg_base.specs.declared.packet.Packet.{Packet}
use Rattle.tg_protocol.specs.Words.{ballot_lt, unit_id, layout_id, numbers}
use Rattle.tg_protocol.specs.Layouts.{next_of}
use Rattle.tg_protocol.specs.Requests.{awaits, Waits, waits_for, without_wait, asked_of, out, Next, Goes, Learns, Ends}
use Rattle.tg_protocol.specs.Trimming.{has_stripe}
use Rattle.tg_protocol.specs.Replies.{Reply}
use Rattle.tg_protocol.specs.Replies as reply
use Rattle.tg_protocol.specs.Reconfiguring.{Acks, join_asks, at_work, with_stage, Before, Stage, Preparing, Accepting, Later, Voting, ReconfWork, SealingSpare, LookingSpare, Sealing, LookingAgain, Agreeing, Telling, Starting, Reconf, ReconfEnd, ReconfTurn, next_epoch, servers, ballot_of, is_majority, greatest, value_or, proposes, tells, round_after, begun, has_rid, reconf_feed, reconf_latest, reconf_awaited, reconf_again_asks, reconf_asks, reconf_work_asks, later_asks, stage_asks, set_asks, this_or, heard, same_vote, is_of_epoch}
use Rattle.tg_law_layouts.proofs.Moves.Members.{Has, has_left, has_right, has_either, has_map}
use Rattle.tg_law_layouts.proofs.Agreement.Ballots.{equal_or_less, top_there}
use Rattle.tg_law_layouts.proofs.Agreement.Counts.{count, count_one_more, Implies}
use Rattle.tg_law_steps.proofs.Machines.Awaited.{stage_waits, voting_fed}
use Rattle.tg_law_steps.proofs.Machines.Reconfs as turns
use Rattle.tg_law_layouts.proofs.Agreement.Facts.{Proposed, Promised, Elected, Truth, Grows, proposed_grows, promised_grows, elected_grows}

-- Waits.

-- no request waits for this server
abbrev pub answered : Waits → ℕ → Bool
answered ws l = not (list_any (λ (w : ℕ × ℕ). w.0 == l) ws)

-- requests wait for each of n servers
abbrev pub AllWait : ℕ → Waits → Type 0
AllWait n ws = (l : ℕ) → l < n → answered ws l ≡ false

first_waits : (k rid l : ℕ) (ws : Waits) → (k ≡ l) ⊎ (answered ws l ≡ false) → answered ((k, rid) ∷ ws) l ≡ false
first_waits k rid l ws h = grind arith

here_or_later : (m k l : ℕ) → k ≤ l → l < k + suc m → (k ≡ l) ⊎ ((k + 1 ≤ l) × (l < k + 1 + m))
here_or_later m k l le less = grind arith

all_wait_from : (m k rid l : ℕ) → k ≤ l → l < k + m → answered (waits_for (numbers m k) rid) l ≡ false
all_wait_from zero k rid l le less = absurd (omega (arith, le, less))
all_wait_from (suc m) k rid l le less = first_waits k rid l (waits_for (numbers m (k + 1)) (rid + 1)) (by (λ p q. all_wait_from m (k + 1) (rid + 1) l p q) (here_or_later m k l le less))
  where
    by : (k + 1 ≤ l → l < k + 1 + m → answered (waits_for (numbers m (k + 1)) (rid + 1)) l ≡ false) → (k ≡ l) ⊎ ((k + 1 ≤ l) × (l < k + 1 + m)) → (k ≡ l) ⊎ (answered (waits_for (numbers m (k + 1)) (rid + 1)) l ≡ false)
    by rest (inl e) = inl e
    by rest (inr x) = inr (rest x.0 x.1)

all_wait : (n rid : ℕ) → AllWait n (waits_for (numbers n 0) rid)
all_wait n rid l less = all_wait_from n 0 rid l (omega arith) (omega (arith, less))

asked_more : (w : ℕ × ℕ) (ws : Waits) (l rid : ℕ) → (has_rid l rid ws ≡ true → answered ws l ≡ false) → has_rid l rid (w ∷ ws) ≡ true → answered (w ∷ ws) l ≡ false
asked_more w ws l rid rest h = grind arith

pub waits_rid : (ws : Waits) (l rid : ℕ) → has_rid l rid ws ≡ true → answered ws l ≡ false
waits_rid [] l rid h = absurd (cc)
waits_rid (w ∷ ws) l rid h = asked_more w ws l rid (waits_rid ws l rid) h

without_more : (w : ℕ × ℕ) (ws : Waits) (l i : ℕ) → (answered (without_wait l ws) i ≡ true → (i ≡ l) ⊎ (answered ws i ≡ true))
    → answered (without_wait l (w ∷ ws)) i ≡ true → (i ≡ l) ⊎ (answered (w ∷ ws) i ≡ true)
without_more w ws l i rest h = grind arith

without : (ws : Waits) (l i : ℕ) → answered (without_wait l ws) i ≡ true → (i ≡ l) ⊎ (answered ws i ≡ true)
without [] l i h = inr refl
without (w ∷ ws) l i h = without_more w ws l i (without ws l i) h

answered_more : (w : ℕ × ℕ) (ws : Waits) (l i : ℕ) → (answered ws i ≡ true → answered (without_wait l ws) i ≡ true)
    → answered (w ∷ ws) i ≡ true → answered (without_wait l (w ∷ ws)) i ≡ true
answered_more w ws l i rest h = grind arith

pub answered_still : (ws : Waits) (l : ℕ) → Implies (answered ws) (answered (without_wait l ws))
answered_still [] l i h = refl
answered_still (w ∷ ws) l i h = answered_more w ws l i (answered_still ws l i) h

answered_first : (w : ℕ × ℕ) (ws : Waits) (l : ℕ) → answered (without_wait l ws) l ≡ true → answered (without_wait l (w ∷ ws)) l ≡ true
answered_first w ws l rest = grind arith

pub answered_now : (ws : Waits) (l : ℕ) → answered (without_wait l ws) l ≡ true
answered_now [] l = refl
answered_now (w ∷ ws) l = answered_first w ws l (answered_now ws l)

-- A client's state.

module _ (e n k : ℕ) (Mine : Layout → Type 0) (ps : List Packet) where
  -- it proposed in no round at or past this one
  abbrev pub Below : ℕ → Type 0
  Below round = (b : Ballot) (q : Layout) → Proposed e ps b q → b.client ≡ k → b.round < round

  pub record Prepared (round : ℕ) (ws : Waits) (heard : List Before) : Type 0 where
    pub below : Below round
    pub enough : length heard ≤ count (answered ws) n
    pub promises : (l : ℕ) → l < n → answered ws l ≡ true → (a : Before) × Promised e ps l (record { round = round; client = k }) a × Has heard a
    pub lower : (x : Ballot × Layout) → Has heard (Some x) → ballot_lt x.0 (record { round = round; client = k }) ≡ true
    pub before : (x : Ballot × Layout) → Has heard (Some x) → Proposed e ps x.0 x.1

  pub record Accepted (round : ℕ) (q : Layout) : Type 0 where
    pub below : (b : Ballot) (r : Layout) → Proposed e ps b r → b.client ≡ k → (b.round < round) ⊎ ((b.round ≡ round) × (r ≡ q))
    pub elected : Elected e n ps (record { round = round; client = k }) q
    pub allowed : Mine q

  abbrev pub StageOk : ℕ → Stage → Type 0
  StageOk round (Preparing ws heard) = Prepared round ws heard
  StageOk round (Accepting ws m q) = Accepted round q

  pub record VotingOk (v : Voting) : Type 0 where
    pub own : Mine v.own
    pub later : (l : Later) → v.later ≡ Some l → v.round < l.round
    pub waits : (l : Later) → v.later ≡ Some l → AllWait n l.waits
    pub stage : StageOk v.round v.stage

-- A client that begins to propose for the epoch after layout p, by change c.
module _ (p : Layout) (c : Changed) (n k : ℕ) (Mine : Layout → Type 0) (ps : List Packet) where
  abbrev pub Early : Reconf → Type 0
  Early r = (r.stand ≡ p) × (r.change ≡ c) × Below (p.epoch + 1) n k Mine ps 0

  abbrev pub WorkOk : Reconf → ReconfWork → Type 0
  WorkOk r (Agreeing v) = (r.stand ≡ p) × VotingOk (p.epoch + 1) n k Mine ps v
  WorkOk r (Telling ws h q) = Unit {0}
  WorkOk r (Starting rid) = Unit {0}
  WorkOk r w = Early r

  pub record ReconfOk (r : Reconf) : Type 0 where
    pub me : r.me ≡ k
    pub layouts : r.layouts ≡ n
    pub work : WorkOk r r.work

  abbrev pub NextOk : Next Reconf ReconfEnd → Type 0
  NextOk (Goes r) = ReconfOk r
  NextOk (Learns r) = ReconfOk r
  NextOk (Ends x) = Unit {0}

  abbrev pub TurnOk : ReconfTurn → Type 0
  TurnOk t = NextOk t.to

-- Answers.

module _ (p : Layout) (c : Changed) (n k : ℕ) (Mine : Layout → Type 0) (mine : (start : ℕ) → Mine (next_of p c k start)) (ps : List Packet) (truth : Truth (p.epoch + 1) n Mine ps) where
  abbrev E : ℕ
  E = p.epoch + 1

  -- Below the votes.

  prepared_first : (r : Reconf) (rid : ℕ) → r.layouts ≡ n → Below E n k Mine ps 0 → (round : ℕ) → Prepared E n k Mine ps round (waits_for (servers r) rid) []
  prepared_first r rid is below round = record {
    below = λ b q x y. let less = below b q x y in absurd (omega (arith, less));
    enough = omega arith;
    promises = λ l less t. absurd (contrary (waits l less) t);
    lower = λ x h. absurd h;
    before = λ x h. absurd h;
  }
    where
      waits : AllWait n (waits_for (servers r) rid)
      waits = subst (λ m. AllWait n (waits_for (numbers m 0) rid)) (sym is) (all_wait n rid)

      contrary : {b : Bool} → b ≡ false → b ≡ true → ⊥
      contrary f t = cc

  own_mine : (r : Reconf) (start : ℕ) → r.me ≡ k → r.stand ≡ p → r.change ≡ c → Mine (next_of r.stand r.change r.me start)
  own_mine r start me stand change =
      subst (λ (m : ℕ). Mine (next_of r.stand r.change m start)) (sym me)
      (subst (λ (d : Changed). Mine (next_of r.stand d k start)) (sym change) (subst (λ (q : Layout). Mine (next_of q c k start)) (sym stand) (mine start)))

  none_some : (l : Later) → None ≡ Some l → ⊥
  none_some l x = cc

  at_ok : (r : Reconf) (w : ReconfWork) → r.me ≡ k → r.layouts ≡ n → WorkOk p c n k Mine ps r w → ReconfOk p c n k Mine ps (at_work r w)
  at_ok r w me layouts ok = record { me = me; layouts = layouts; work = ok }

  proposes_ok : (r : Reconf) (acks : Acks) (next : ℕ) → r.me ≡ k → r.layouts ≡ n → Early p c n k Mine ps r → TurnOk p c n k Mine ps (proposes r acks next)
  proposes_ok r acks next me layouts early = record {
    me = me;
    layouts = layouts;
    work = (
      early.0,
      record {
        own = own_mine r _ me early.0 early.1;
        later = λ l x. absurd (none_some l x);
        waits = λ l x. absurd (none_some l x);
        stage = prepared_first r next layouts early.2 1;
      },
    );
  }

  -- work below the votes
  spare_early : (r : Reconf) (w : ReconfWork) → turns.IsSpare w → WorkOk p c n k Mine ps r w → Early p c n k Mine ps r
  spare_early r _ (turns.OfSeal i) early = early
  spare_early r _ (turns.OfLook i) early = early

  -- The votes.

  -- what an answer of a server tells
  abbrev pub Tells : ℕ → Reply → Type 0
  Tells l x = (b : Ballot) (a : Before) → x ≡ reply.IsPromise E b a → Promised E ps l b a

  -- a client's rounds so far are below a later one
  below_later : (v : Voting) (round : ℕ) → VotingOk E n k Mine ps v → v.round < round → Below E n k Mine ps round
  below_later v round ok less = by v.stage ok.stage
    where
      by : (s : Stage) → StageOk E n k Mine ps v.round s → Below E n k Mine ps round
      by (Preparing ws hs) o b q x y = let l = o.below b q x y in omega (arith, l, less)
      by (Accepting ws m r) o b q x y = up (o.below b q x y)
        where
          up : (b.round < v.round) ⊎ ((b.round ≡ v.round) × (q ≡ r)) → b.round < round
          up (inl l) = omega (arith, l, less)
          up (inr z) = let same = z.0 in omega (arith, same, less)

  prepared_later : (round : ℕ) (ws : Waits) → AllWait n ws → Below E n k Mine ps round → Prepared E n k Mine ps round ws []
  prepared_later round ws all below = record {
    below = below;
    enough = omega arith;
    promises = λ l less t. absurd (contrary (all l less) t);
    lower = λ x h. absurd h;
    before = λ x h. absurd h;
  }
    where
      contrary : {b : Bool} → b ≡ false → b ≡ true → ⊥
      contrary f t = cc

  begun_ok : (v : Voting) (l : Later) → v.later ≡ Some l → VotingOk E n k Mine ps v → VotingOk E n k Mine ps (begun v l)
  begun_ok v l is ok = record {
    own = ok.own;
    later = λ m x. absurd (none_some m x);
    waits = λ m x. absurd (none_some m x);
    stage = prepared_later l.round l.waits (ok.waits l is) (below_later v l.round ok (ok.later l is));
  }

  -- one more promise
  more_heard : (round : ℕ) (ws : Waits) (hs : List Before) (l : ℕ) (a : Before) → Prepared E n k Mine ps round ws hs → answered ws l ≡ false
      → Promised E ps l (record { round = round; client = k }) a → Prepared E n k Mine ps round (without_wait l ws) (a ∷ hs)
  more_heard round ws hs l a o waits promise = record {
    below = o.below;
    enough =
        let one = count_one_more (answered ws) (answered (without_wait l ws)) (answered_still ws l) l waits (answered_now ws l) n (truth.servers l own a promise) in
        let old = o.enough in
        omega (arith, one, old);
    promises = λ i less t. by i less (without ws l i t);
    lower = λ x h. lower x h;
    before = λ x h. before x h;
  }
    where
      own : Ballot
      own = record { round = round; client = k }

      by : (i : ℕ) → i < n → (i ≡ l) ⊎ (answered ws i ≡ true) → (b : Before) × Promised E ps i own b × Has (a ∷ hs) b
      by i less (inl e) = (a, subst (λ (j : ℕ). Promised E ps j own a) (sym e) promise, inl refl)
      by i less (inr t) = let q = o.promises i less t in (q.0, q.1, inr q.2)

      told : (x : Ballot × Layout) → Some x ≡ a → Proposed E ps x.0 x.1 × (ballot_lt own x.0 ≡ false)
      told x e = truth.told l own x (subst (λ (b : Before). Promised E ps l own b) (sym e) promise)

      lower : (x : Ballot × Layout) → Has (a ∷ hs) (Some x) → ballot_lt x.0 own ≡ true
      lower x (inl e) = at (told x e).0 (equal_or_less x.0 own (told x e).1)
        where
          at : Proposed E ps x.0 x.1 → (x.0 ≡ own) ⊎ (ballot_lt x.0 own ≡ true) → ballot_lt x.0 own ≡ true
          at z (inl same) = let less = o.below x.0 x.1 z (ap (λ (b : Ballot). b.client) same) in let at_round = ap (λ (b : Ballot). b.round) same in absurd (omega (arith, less, at_round))
          at z (inr less) = less
      lower x (inr h) = o.lower x h

      before : (x : Ballot × Layout) → Has (a ∷ hs) (Some x) → Proposed E ps x.0 x.1
      before x (inl e) = (told x e).0
      before x (inr h) = o.before x h

  -- the value that a quorum leads to is one that may be proposed
  value_mine : (own : Layout) (hs : List Before) → Mine own → ((x : Ballot × Layout) → Has hs (Some x) → Proposed E ps x.0 x.1) → Mine (value_or (greatest hs) own)
  value_mine own hs ok before = by (greatest hs) refl
    where
      by : (g : Before) → greatest hs ≡ g → Mine (value_or g own)
      by None e = ok
      by (Some y) e = truth.allowed y.0 y.1 (before y (top_there hs y e))

  voting_ok : (r : Reconf) (v : Voting) (s : Stage) → r.me ≡ k → r.layouts ≡ n → r.stand ≡ p → VotingOk E n k Mine ps v → StageOk E n k Mine ps v.round s
      → ReconfOk p c n k Mine ps (with_stage r v s)
  voting_ok r v s me layouts stand ok stage = record { me = me; layouts = layouts; work = (stand, record { own = ok.own; later = ok.later; waits = ok.waits; stage = stage }) }

  most_of : (m len many : ℕ) → m ≡ n → nat_lt m (len + len) ≡ true → len ≤ many → n < many + many
  most_of m len many is most le = grind arith

  -- most servers have promised
  most_ok : (r : Reconf) (v : Voting) (ws : Waits) (hs : List Before) → is_majority r (length hs) ≡ true → r.layouts ≡ n → VotingOk E n k Mine ps v → Prepared E n k Mine ps v.round ws hs
      → Accepted E n k Mine ps v.round (value_or (greatest hs) v.own)
  most_ok r v ws hs is layouts ok o = record {
    below = λ b q x y. inl (o.below b q x y);
    elected = record {
      quorum = answered ws;
      most = most_of r.layouts (length hs) (count (answered ws) n) layouts is o.enough;
      heard = hs;
      promises = o.promises;
      lower = o.lower;
      before = o.before;
      own = v.own;
      value = refl;
    };
    allowed = value_mine v.own hs ok.own o.before;
  }

  later_is : (x y : Later) → Some x ≡ Some y → x ≡ y
  later_is x y e = cc

  -- a later round is set
  sets_ok : (r : Reconf) (v : Voting) (round next : ℕ) → r.layouts ≡ n → v.round < round → VotingOk E n k Mine ps v
      → VotingOk E n k Mine ps (record v { later = Some (record { round = round; waits = waits_for (servers r) next }) })
  sets_ok r v round next layouts less ok = record {
    own = ok.own;
    later = λ l x. subst (λ (m : Later). v.round < m.round) (later_is _ l x) less;
    waits = λ l x. subst (λ (m : Later). AllWait n m.waits) (later_is _ l x) (subst (λ m. AllWait n (waits_for (numbers m 0) next)) (sym layouts) (all_wait n next));
    stage = ok.stage;
  }

  round_above : (v : Voting) (b : Ballot) → v.round < round_after v b
  round_above v b = grind arith

  vote_is : (r : Reconf) (round f : ℕ) (b : Ballot) (other : Bool) → r.me ≡ k → r.stand ≡ p → (same_vote r round f b && other) ≡ true → (f ≡ E) × (b ≡ record { round = round; client = k })
  vote_is r round f b other me stand h = grind arith

  told_here : (r : Reconf) (round l f : ℕ) (b : Ballot) (a : Before) (other : Bool) → r.me ≡ k → r.stand ≡ p → Tells l (reply.IsPromise f b a)
      → (same_vote r round f b && other) ≡ true → Promised E ps l (record { round = round; client = k }) a
  told_here r round l f b a other me stand tells h =
      let same = vote_is r round f b other me stand h in
      subst (λ (d : Ballot). Promised E ps l d a) same.1 (tells b a (ap (λ (g : ℕ). reply.IsPromise g b a) same.0))

  voting_ok_on : (from : NodeId) (rid : ℕ) (x : Reply) (next : ℕ) (r : Reconf) (v u : Voting) → turns.IsVoting from.num rid x next r v u → VotingOk E n k Mine ps v → VotingOk E n k Mine ps u
  voting_ok_on from rid x next r v _ (turns.Present none) ok = ok
  voting_ok_on from rid x next r v _ (turns.IsBegun l is has answers) ok = begun_ok v l is ok

  -- For an awaited answer.

  module _ (from : NodeId) (rid : ℕ) (x : Reply) (next : ℕ) (tells : from ≡ layout_id from.num → Tells from.num x) where
    one_more : (r : Reconf) (v u : Voting) (ws : Waits) (hs : List Before) (e : ℕ) (b : Ballot) (a : Before) → turns.IsVoting from.num rid x next r v u → u.stage ≡ Preparing ws hs → x ≡ reply.IsPromise e b a
        → (same_vote r u.round e b && is_of_epoch e a) ≡ true → ReconfOk p c n k Mine ps (at_work r (Agreeing v)) → awaits (reconf_awaited (at_work r (Agreeing v))) from rid ≡ true
        → Prepared E n k Mine ps u.round (without_wait from.num ws) (a ∷ hs)
    unfolding reconf_work_asks
    one_more r v u ws hs e b a of st is f ok awaited =
        let s = voting_fed r v u from rid x next of awaited in
        more_heard u.round ws hs from.num a (subst (λ (t : Stage). StageOk E n k Mine ps u.round t) st (voting_ok_on from rid x next r v u of ok.work.1).stage)
        (waits_rid ws from.num rid (subst (λ (t : Stage). has_rid from.num rid (stage_waits t) ≡ true) st s.waits))
        (told_here r u.round from.num e b a _ ok.me ok.work.0 (subst (λ (y : Reply). Tells from.num y) is (tells s.server)) f)

    fed_ok : (r : Reconf) (t : ReconfTurn) → turns.Fed from.num rid x next r t → ReconfOk p c n k Mine ps r → awaits (reconf_awaited r) from rid ≡ true → TurnOk p c n k Mine ps t
    fed_ok _ _ (turns.Nothing r) ok awaited = ok
    fed_ok _ _ (turns.LooksSpare r i e h is f) ok awaited = at_ok r _ ok.me ok.layouts ok.work
    fed_ok _ _ (turns.SpareWhole r i is) ok awaited = at_ok r _ ok.me ok.layouts ok.work
    fed_ok _ _ (turns.SpareMisses r i pos is) ok awaited = tt
    fed_ok _ _ (turns.SpareFenced r w e of is f) ok awaited = at_ok r _ ok.me ok.layouts (spare_early r w of ok.work)
    fed_ok _ _ (turns.SealsMore r ws acks e h w vs is f left) ok awaited = at_ok r _ ok.me ok.layouts ok.work
    fed_ok _ _ (turns.SealsLast r ws acks e h is f none j) ok awaited = proposes_ok r ((from.num, h) ∷ acks) next ok.me ok.layouts ok.work
    fed_ok _ _ (turns.LooksAgain r ws acks e h j is f none i) ok awaited = at_ok r _ ok.me ok.layouts ok.work
    fed_ok _ _ (turns.AgainWhole r i acks is) ok awaited = proposes_ok r acks next ok.me ok.layouts ok.work
    fed_ok _ _ (turns.AgainMisses r i acks pos is) ok awaited = tt
    fed_ok _ _ (turns.NextFenced r w e of is f) ok awaited = ok
    fed_ok _ _ (turns.Promises r v u ws hs e b a of st is f g) ok awaited =
        voting_ok r u (Preparing (without_wait from.num ws) (a ∷ hs)) ok.me ok.layouts ok.work.0 (voting_ok_on from rid x next r v u of ok.work.1) (one_more r v u ws hs e b a of st is f ok awaited)
    fed_ok _ _ (turns.PromisesMost r v u ws hs e b a of st is f g) ok awaited =
        let votes = voting_ok_on from rid x next r v u of ok.work.1 in
        voting_ok r u (Accepting (waits_for (servers r) next) 0 (value_or (greatest (a ∷ hs)) u.own)) ok.me ok.layouts ok.work.0 votes
        (most_ok r u (without_wait from.num ws) (a ∷ hs) g ok.layouts votes (one_more r v u ws hs e b a of st is f ok awaited))
    fed_ok _ _ (turns.Accepts r v u ws i q e b of st is f g) ok awaited =
        let votes = voting_ok_on from rid x next r v u of ok.work.1 in
        voting_ok r u (Accepting (without_wait from.num ws) (i + 1) q) ok.me ok.layouts ok.work.0 votes (subst (λ (t : Stage). StageOk E n k Mine ps u.round t) st votes.stage)
    fed_ok _ _ (turns.AcceptsMost r v u ws i q e b of st is f g) ok awaited = at_ok r _ ok.me ok.layouts tt
    fed_ok _ _ (turns.Nacks r v u e b of is f g) ok awaited = at_ok r _ ok.me ok.layouts (ok.work.0, sets_ok r u (round_after u b) next ok.layouts (round_above u b) (voting_ok_on from rid x next r v u of ok.work.1))
    fed_ok _ _ (turns.NacksLow r v u e b of is f g) ok awaited = at_ok r _ ok.me ok.layouts (ok.work.0, voting_ok_on from rid x next r v u of ok.work.1)
    fed_ok _ _ (turns.Starts r i t ls is f) ok awaited = tt
    fed_ok _ _ (turns.StartsPast r i e is f) ok awaited = ok

  pub feed_ok : (r : Reconf) (from : NodeId) (rid : ℕ) (x : Reply) (next : ℕ) → ReconfOk p c n k Mine ps r → awaits (reconf_awaited r) from rid ≡ true
      → (from ≡ layout_id from.num → Tells from.num x) → TurnOk p c n k Mine ps (reconf_feed r r.work from.num rid x next)
  feed_ok r from rid x next ok awaited tells = fed_ok from rid x next tells r _ (turns.reconf_fed from.num rid x next r) ok awaited

  -- For a newer layout.

  heard_ok : (l rid : ℕ) (q : Layout) (next : ℕ) (r : Reconf) (t : ReconfTurn) → turns.Heard l rid q next r t → ReconfOk p c n k Mine ps r → TurnOk p c n k Mine ps t
  heard_ok l rid q next _ _ (turns.HearsOne r ws i y e f) ok = at_ok r _ ok.me ok.layouts tt
  heard_ok l rid q next _ _ (turns.Adopts r ws i y e f g) ok = record { me = ok.me; layouts = ok.layouts; work = tt }
  heard_ok l rid q next _ _ (turns.TellsOwn r ws i y e) ok = ok
  heard_ok l rid q next _ _ (turns.OwnDecided r w of e) ok = at_ok r _ ok.me ok.layouts tt
  heard_ok l rid q next _ _ x ok = tt

  pub latest_ok : (r : Reconf) (l rid : ℕ) (q : Layout) (next : ℕ) → ReconfOk p c n k Mine ps r → TurnOk p c n k Mine ps (reconf_latest r r.work l rid q next)
  latest_ok r l rid q next ok = heard_ok l rid q next r _ (turns.reconf_heard l rid q next r) ok

-- What a client sends.

-- the layout that it proposes now
abbrev pub StageProposes : ℕ → ℕ → Stage → Ballot → Layout → Type 0
StageProposes k round (Preparing ws hs) b q = ⊥
StageProposes k round (Accepting ws m r) b q = (b ≡ record { round = round; client = k }) × (q ≡ r)

abbrev pub WorkProposes : ℕ → ReconfWork → Ballot → Layout → Type 0
WorkProposes k (Agreeing v) b q = StageProposes k v.round v.stage b q
WorkProposes k w b q = ⊥

asked_msg : (name : ℕ → NodeId) (m : Msg) (ws : Waits) (o : Out) → Has (asked_of name m ws) o → o.msg ≡ m
asked_msg name m ws o h = let i = has_map (λ (w : ℕ × ℕ). out (name w.0) w.1 m) ws o h in ap (λ (x : Out). x.msg) i.is

one_not : (x o : Out) (e : ℕ) (b : Ballot) (q : Layout) → Has (x ∷ []) o → o.msg ≡ msg.Accept e b q → x.msg ≡ msg.Accept e b q
one_not x o e b q (inl same) is = sym (ap (λ (y : Out). y.msg) same) ∙ is
one_not x o e b q (inr h) is = absurd h

join_not : (j : Option Join) (f : Join → List Out) (o : Out) → ((i : Join) → Has (f i) o → ⊥) → Has (join_asks j f) o → ⊥
join_not None f o never h = h
join_not (Some i) f o never h = never i h

accept_same : (e f : ℕ) (b d : Ballot) (q r : Layout) → msg.Accept e b q ≡ msg.Accept f d r → (d ≡ b) × (r ≡ q)
accept_same e f b d q r h = (cc, cc)

ballot_is : (r : Reconf) (k round : ℕ) (b : Ballot) → r.me ≡ k → b ≡ ballot_of r round → b ≡ record { round = round; client = k }
ballot_is r k round b me h = h ∙ ap (λ m. record { round = round; client = m }) me

stage_proposes : (r : Reconf) (k round : ℕ) (s : Stage) (o : Out) (e : ℕ) (b : Ballot) (q : Layout) → r.me ≡ k → Has (stage_asks r round s) o → o.msg ≡ msg.Accept e b q
    → StageProposes k round s b q
stage_proposes r k round (Preparing ws hs) o e b q me h is = let m = sym (asked_msg layout_id _ ws o h) ∙ is in absurd (no m)
  where
    no : msg.Prepare (next_epoch r) (ballot_of r round) ≡ msg.Accept e b q → ⊥
    no x = cc
stage_proposes r k round (Accepting ws i y) o e b q me h is =
    let same = accept_same _ e _ b _ q (sym (asked_msg layout_id _ ws o h) ∙ is) in (ballot_is r k round b me same.0, same.1)

set_not : (r : Reconf) (l : Option Later) (o : Out) (e : ℕ) (b : Ballot) (q : Layout) → Has (set_asks r l) o → o.msg ≡ msg.Accept e b q → ⊥
set_not r None o e b q h is = h
set_not r (Some l) o e b q h is = no (sym (asked_msg layout_id _ l.waits o h) ∙ is)
  where
    no : msg.Prepare (next_epoch r) (ballot_of r l.round) ≡ msg.Accept e b q → ⊥
    no x = cc

later_not : (r : Reconf) (w : ReconfWork) (o : Out) (e : ℕ) (b : Ballot) (q : Layout) → Has (later_asks r w) o → o.msg ≡ msg.Accept e b q → ⊥
later_not r (Agreeing v) o e b q h is = set_not r v.later o e b q h is
later_not r w o e b q h is = h

seal_not : (f e : ℕ) (b : Ballot) (q : Layout) → msg.Seal f ≡ msg.Accept e b q → ⊥
seal_not f e b q h = cc

work_proposes : (r : Reconf) (k : ℕ) (w : ReconfWork) (o : Out) (e : ℕ) (b : Ballot) (q : Layout) → r.me ≡ k → Has (reconf_work_asks r w) o → o.msg ≡ msg.Accept e b q
    → WorkProposes k w b q
unfolding reconf_work_asks
work_proposes r k (SealingSpare i) o e b q me h is = join_not r.change.join _ o (λ j x. no (one_not _ o e b q x is)) h
  where
    no : msg.Seal r.stand.epoch ≡ msg.Accept e b q → ⊥
    no x = cc
work_proposes r k (LookingSpare i) o e b q me h is = join_not r.change.join _ o (λ j x. no j (one_not _ o e b q x is)) h
  where
    no : (j : Join) → has_stripe r.stand.epoch r.stand j.range j.stripe ≡ msg.Accept e b q → ⊥
    no j x = cc
work_proposes r k (Sealing ws acks) o e b q me h is = seal_not _ e b q (sym (asked_msg unit_id _ ws o h) ∙ is)
work_proposes r k (LookingAgain i acks) o e b q me h is = join_not r.change.join _ o (λ j x. no j (one_not _ o e b q x is)) h
  where
    no : (j : Join) → has_stripe (next_epoch r) r.stand j.range j.stripe ≡ msg.Accept e b q → ⊥
    no j x = cc
work_proposes r k (Agreeing v) o e b q me h is = stage_proposes r k v.round v.stage o e b q me h is
work_proposes r k (Telling ws m y) o e b q me h is = no (sym (asked_msg layout_id _ ws o h) ∙ is)
  where
    no : msg.Decided y ≡ msg.Accept e b q → ⊥
    no x = cc
work_proposes r k (Starting i) o e b q me h is = no (one_not _ o e b q h is)
  where
    no : msg.Learn r.stand ≡ msg.Accept e b q → ⊥
    no x = cc

-- what is awaited proposes the layout of its stage, and no other
pub awaited_proposes : (r : Reconf) (k : ℕ) (o : Out) (e : ℕ) (b : Ballot) (q : Layout) → r.me ≡ k → Has (reconf_awaited r) o → o.msg ≡ msg.Accept e b q
    → WorkProposes k r.work b q
awaited_proposes r k o e b q me h is = by (has_either (reconf_asks r) (later_asks r r.work) o h)
  where
    by : Has (reconf_asks r) o ⊎ Has (later_asks r r.work) o → WorkProposes k r.work b q
    by (inl x) = work_proposes r k r.work o e b q me x is
    by (inr x) = absurd (later_not r r.work o e b q x is)

this_or_has : (xs ys : List Out) (o : Out) → Has (this_or xs ys) o → Has xs o ⊎ Has ys o
this_or_has [] ys o h = inr h
this_or_has (x ∷ xs) ys o h = inl h

-- what a tick sends again is awaited
pub again_awaited : (r : Reconf) (o : Out) → Has (reconf_again_asks r) o → Has (reconf_awaited r) o
again_awaited r o h = by (this_or_has (later_asks r r.work) (reconf_asks r) o h)
  where
    by : Has (later_asks r r.work) o ⊎ Has (reconf_asks r) o → Has (reconf_awaited r) o
    by (inl x) = has_right (reconf_asks r) (later_asks r r.work) o x
    by (inr x) = has_left (reconf_asks r) (later_asks r r.work) o x

-- More packets leave a client's state as it should be, where it proposed no others than those of its stage.

module _ (p : Layout) (c : Changed) (n k : ℕ) (Mine : Layout → Type 0) (ps qs : List Packet) (grows : Grows ps qs) where
  abbrev E' : ℕ
  E' = p.epoch + 1

  -- client k's proposals among the packets are older ones, or its stage's
  abbrev pub Only : (Ballot → Layout → Type 0) → Type 0
  Only Now = (b : Ballot) (q : Layout) → Proposed E' qs b q → b.client ≡ k → Proposed E' ps b q ⊎ Now b q

  below_still : (round : ℕ) → Only (λ b q. ⊥) → Below E' n k Mine ps round → Below E' n k Mine qs round
  below_still round only below b q x mine = by (only b q x mine)
    where
      by : Proposed E' ps b q ⊎ ⊥ → b.round < round
      by (inl y) = below b q y mine
      by (inr y) = absurd y

  stage_still : (round : ℕ) (s : Stage) → Only (StageProposes k round s) → StageOk E' n k Mine ps round s → StageOk E' n k Mine qs round s
  stage_still round (Preparing ws hs) only o = record {
    below = below_still round only o.below;
    enough = o.enough;
    promises = λ l less t. let a = o.promises l less t in (a.0, promised_grows E' ps qs grows l _ a.0 a.1, a.2);
    lower = o.lower;
    before = λ x h. proposed_grows E' ps qs grows x.0 x.1 (o.before x h);
  }
  stage_still round (Accepting ws m r) only o = record {
    below = λ b q x mine. by b q mine (only b q x mine);
    elected = elected_grows E' n ps qs grows _ r o.elected;
    allowed = o.allowed;
  }
    where
      by : (b : Ballot) (q : Layout) → b.client ≡ k → Proposed E' ps b q ⊎ ((b ≡ record { round = round; client = k }) × (q ≡ r)) → (b.round < round) ⊎ ((b.round ≡ round) × (q ≡ r))
      by b q mine (inl y) = o.below b q y mine
      by b q mine (inr y) = inr (ap (λ (d : Ballot). d.round) y.0, y.1)

  work_still : (r : Reconf) (w : ReconfWork) → Only (WorkProposes k w) → WorkOk p c n k Mine ps r w → WorkOk p c n k Mine qs r w
  work_still r (Agreeing v) only o = (o.0, record { own = o.1.own; later = o.1.later; waits = o.1.waits; stage = stage_still v.round v.stage only o.1.stage })
  work_still r (Telling ws m q) only o = tt
  work_still r (Starting i) only o = tt
  work_still r (SealingSpare i) only o = (o.0, o.1, below_still 0 only o.2)
  work_still r (LookingSpare i) only o = (o.0, o.1, below_still 0 only o.2)
  work_still r (Sealing ws acks) only o = (o.0, o.1, below_still 0 only o.2)
  work_still r (LookingAgain i acks) only o = (o.0, o.1, below_still 0 only o.2)

  pub reconf_still : (r : Reconf) → Only (WorkProposes k r.work) → ReconfOk p c n k Mine ps r → ReconfOk p c n k Mine qs r
  reconf_still r only o = record { me = o.me; layouts = o.layouts; work = work_still r r.work only o.work }

-- A ballot that a client proposes now is its own, and what it proposes may be.

stage_own : (e n k : ℕ) (Mine : Layout → Type 0) (ps : List Packet) (round : ℕ) (s : Stage) (b : Ballot) (q : Layout) → StageOk e n k Mine ps round s → StageProposes k round s b q
    → (b.client ≡ k) × Elected e n ps b q × Mine q × ((r : Layout) → Proposed e ps b r → r ≡ q)
stage_own e n k Mine ps round (Preparing ws hs) b q o h = absurd h
stage_own e n k Mine ps round (Accepting ws m r) b q o h = (
  ap (λ (d : Ballot). d.client) h.0,
  subst (λ (d : Ballot). Elected e n ps d q) (sym h.0) (subst (λ (y : Layout). Elected e n ps own y) (sym h.1) o.elected),
  subst Mine (sym h.1) o.allowed,
  λ y x. by y (o.below b y x (ap (λ (d : Ballot). d.client) h.0)),
)
  where
    own : Ballot
    own = record { round = round; client = k }

    by : (y : Layout) → (b.round < round) ⊎ ((b.round ≡ round) × (y ≡ r)) → y ≡ q
    by y (inl less) = let same = ap (λ (d : Ballot). d.round) h.0 in absurd (omega (arith, less, same))
    by y (inr z) = z.1 ∙ sym h.1

stage_one : (k round : ℕ) (s : Stage) (b : Ballot) (q r : Layout) → StageProposes k round s b q → StageProposes k round s b r → q ≡ r
stage_one k round (Preparing ws hs) b q r x y = absurd x
stage_one k round (Accepting ws m z) b q r x y = x.1 ∙ sym y.1

pub work_own : (p : Layout) (c : Changed) (n k : ℕ) (Mine : Layout → Type 0) (ps : List Packet) (r : Reconf) (w : ReconfWork) (b : Ballot) (q : Layout)
    → WorkOk p c n k Mine ps r w → WorkProposes k w b q
    → (b.client ≡ k) × Elected (p.epoch + 1) n ps b q × Mine q × ((y : Layout) → Proposed (p.epoch + 1) ps b y → y ≡ q)
work_own p c n k Mine ps r (Agreeing v) b q o h = stage_own (p.epoch + 1) n k Mine ps v.round v.stage b q o.1.stage h
work_own p c n k Mine ps r (Telling ws m x) b q o h = absurd h
work_own p c n k Mine ps r (Starting i) b q o h = absurd h
work_own p c n k Mine ps r (SealingSpare i) b q o h = absurd h
work_own p c n k Mine ps r (LookingSpare i) b q o h = absurd h
work_own p c n k Mine ps r (Sealing ws acks) b q o h = absurd h
work_own p c n k Mine ps r (LookingAgain i acks) b q o h = absurd h

pub work_one : (k : ℕ) (w : ReconfWork) (b : Ballot) (q r : Layout) → WorkProposes k w b q → WorkProposes k w b r → q ≡ r
work_one k (Agreeing v) b q r x y = stage_one k v.round v.stage b q r x y
work_one k (Telling ws m z) b q r x y = absurd x
work_one k (Starting i) b q r x y = absurd x
work_one k (SealingSpare i) b q r x y = absurd x
work_one k (LookingSpare i) b q r x y = absurd x
work_one k (Sealing ws acks) b q r x y = absurd x
work_one k (LookingAgain i acks) b q r x y = absurd x
