-- What is true of the packets of one epoch, and that two majorities then accept the same layout.
use Rattle.std.proofs.Common.{◌≡◌, ◌⊎◌, ℕ, zero, suc, ◌+◌, ◌<◌, List, Bool, true, false, refl, sym, ap, ◌∙◌, subst, inl, inr, arith, Some, None, ◌&&◌}
use Rattle.std.specs.Prelude.{if◌then◌else◌}
use Rattle.tg_base.specs.Layouts.{Layout}
use Rattle.tg_base.specs.declared.ids.Ballot.{Ballot}
use Rattle.tg_base.specs.declared.ids.NodeId.{NodeId}
use Rattle.tg_base.specs.declared.msg.Msg.{Msg}
use Rattle.tg_base.specs.declared.msg.Msg.TheVariants as msg
use Rattle.tg_base.specs.declared.packet.Packet.{Packet}
use Rattle.tg_base.specs.Orders.{node_eq}
use Rattle.tg_protocol.specs.Words.{layout_id, ballot_lt}
use Rattle.tg_protocol.specs.Logs.{is_acceptance, has_accepted, acceptances}
use Rattle.tg_protocol.specs.Reconfiguring.{Before, greatest, value_or}
use Rattle.tg_law_layouts.proofs.Moves.Members.{Has, found}
use Rattle.tg_law_layouts.proofs.Agreement.Counts.{count, Meet, majorities_meet}
use Rattle.tg_law_layouts.proofs.Agreement.Ballots.{equal_or_less, less_or_not, by_ballots, top_above, top_there}

-- Of epoch e, among these packets.

-- a layout was proposed with this ballot
pub record Proposed (e : ℕ) (ps : List Packet) (b : Ballot) (q : Layout) : Type 0 where
  pub packet : Packet
  pub sent : Has ps packet
  pub is : packet.msg ≡ msg.Accept e b q

-- server l promised, and told what it had accepted
pub record Promised (e : ℕ) (ps : List Packet) (l : ℕ) (b : Ballot) (a : Before) : Type 0 where
  pub packet : Packet
  pub sent : Has ps packet
  pub from : packet.from ≡ layout_id l
  pub is : packet.msg ≡ msg.Promise e b a

-- server l told that it accepted
pub record Accepts (e : ℕ) (ps : List Packet) (l : ℕ) (b : Ballot) : Type 0 where
  pub packet : Packet
  pub sent : Has ps packet
  pub from : packet.from ≡ layout_id l
  pub is : packet.msg ≡ msg.Accepted e b

-- A quorum of the n servers has promised a ballot, and the layout is that of the greatest ballot that these told, or
-- the proposer's own.
pub record Elected (e n : ℕ) (ps : List Packet) (b : Ballot) (q : Layout) : Type 0 where
  pub quorum : ℕ → Bool
  pub most : n < count quorum n + count quorum n
  pub heard : List Before
  pub promises : (l : ℕ) → l < n → quorum l ≡ true → (a : Before) × Promised e ps l b a × Has heard a
  pub lower : (x : Ballot × Layout) → Has heard (Some x) → ballot_lt x.0 b ≡ true
  pub before : (x : Ballot × Layout) → Has heard (Some x) → Proposed e ps x.0 x.1
  pub own : Layout
  pub value : q ≡ value_or (greatest heard) own

-- what was told as accepted isn't below a ballot
abbrev pub Covers : Before → Ballot → Type 0
Covers None b = ⊥
Covers (Some x) b = ballot_lt x.0 b ≡ false

pub record Facts (e n : ℕ) (ps : List Packet) : Type 0 where
  -- one layout for a ballot
  pub unique : (b : Ballot) (q r : Layout) → Proposed e ps b q → Proposed e ps b r → q ≡ r
  pub elected : (b : Ballot) (q : Layout) → Proposed e ps b q → Elected e n ps b q
  -- a promise tells of what the server had accepted below it
  pub tells : (l : ℕ) (b c : Ballot) (a : Before) → Promised e ps l b a → Accepts e ps l c → ballot_lt c b ≡ true → Covers a c

-- Agreement.

acceptances_count : (ps : List Packet) (e : ℕ) (b : Ballot) (n : ℕ) → acceptances ps e b n ≡ count (has_accepted ps e b) n
acceptances_count ps e b zero = refl
acceptances_count ps e b (suc n) = ap (λ k. (if has_accepted ps e b n then 1 else 0) + k) (acceptances_count ps e b n)

from_layout : (a : NodeId) (n : ℕ) → node_eq a (layout_id n) ≡ true → a ≡ layout_id n
unfolding node_eq
from_layout a n h = grind arith

is_accepted : (m : Msg) (e : ℕ) (b : Ballot) → is_acceptance e b m ≡ true → m ≡ msg.Accepted e b
is_accepted m e b h = grind arith

both_true : (a b : Bool) → (a && b) ≡ true → (a ≡ true) × (b ≡ true)
both_true a b h = grind arith

accepted_of : (ps : List Packet) (e : ℕ) (b : Ballot) (l : ℕ) → has_accepted ps e b l ≡ true → Accepts e ps l b
accepted_of ps e b l h =
    let p = found (λ (x : Packet). node_eq x.from (layout_id l) && is_acceptance e b x.msg) ps h in
    let t = both_true (node_eq p.it.from (layout_id l)) (is_acceptance e b p.it.msg) p.passes in
    record { packet = p.it; sent = p.has; from = from_layout p.it.from l t.0; is = is_accepted p.it.msg e b t.1 }

-- accepted by a majority
abbrev pub IsMost : List Packet → ℕ → ℕ → Ballot → Type 0
IsMost ps e n b = n < acceptances ps e b n + acceptances ps e b n

covered : (a : Before) (b : Ballot) → Covers a b → (x : Ballot × Layout) × (a ≡ Some x) × (ballot_lt x.0 b ≡ false)
covered None b c = absurd c
covered (Some x) b c = (x, refl, c)

meet_above : (n x y : ℕ) → n < x + x → n < y + y → n < x + y
meet_above n x y p q = omega (arith, p, q)

-- a ballot above one that a majority accepted proposes the same layout
module _ (e n : ℕ) (ps : List Packet) (facts : Facts e n ps) (b : Ballot) (q : Layout) (most : IsMost ps e n b) (first : Proposed e ps b q) where
  abbrev Same : Ballot → Type 0
  Same c = (r : Layout) → ballot_lt b c ≡ true → Proposed e ps c r → r ≡ q

  -- the layout of the greatest ballot that was told
  at_top : (c : Ballot) (r : Layout) → ((d : Ballot) → ballot_lt d c ≡ true → Same d) → (x : Elected e n ps c r) → (y : Ballot × Layout) → greatest x.heard ≡ Some y
      → ballot_lt y.0 b ≡ false → r ≡ q
  at_top c r below x y is above = (x.value ∙ ap (λ (g : Before). value_or g x.own) is) ∙ by (equal_or_less b y.0 above)
    where
      there : Has x.heard (Some y)
      there = top_there x.heard y is

      proposed : Proposed e ps y.0 y.1
      proposed = x.before y there

      by : (b ≡ y.0) ⊎ (ballot_lt b y.0 ≡ true) → y.1 ≡ q
      by (inl s) = facts.unique y.0 y.1 q proposed (subst (λ (d : Ballot). Proposed e ps d q) s first)
      by (inr less) = below y.0 (x.lower y there) y.1 less proposed

  at_meet : (c : Ballot) (r : Layout) → ((d : Ballot) → ballot_lt d c ≡ true → Same d) → ballot_lt b c ≡ true → (x : Elected e n ps c r)
      → Meet x.quorum (has_accepted ps e b) n → r ≡ q
  at_meet c r below less x m =
      let p = x.promises m.at m.below m.first in
      let z = covered p.0 b (facts.tells m.at c b p.0 p.1 (accepted_of ps e b m.at m.second) less) in
      let t = top_above x.heard z.0 (subst (λ (a : Before). Has x.heard a) z.1 p.2) in
      at_top c r below x t.top t.is (not_under t.top.0 z.0.0 t.above z.2)
    where
      not_under : (y z : Ballot) → ballot_lt y z ≡ false → ballot_lt z b ≡ false → ballot_lt y b ≡ false
      not_under y z p q = grind arith

  step : (c : Ballot) → ((d : Ballot) → ballot_lt d c ≡ true → Same d) → Same c
  step c below r less proposed =
      let x = facts.elected c r proposed in
      let same = acceptances_count ps e b n in
      let more : n < count (has_accepted ps e b) n + count (has_accepted ps e b) n = subst (λ k. n < k + k) same most in
      at_meet c r below less x (majorities_meet x.quorum (has_accepted ps e b) n (meet_above n _ _ x.most more))

  pub later_same : (c : Ballot) → Same c
  later_same c = by_ballots Same step c

-- two layouts that majorities accepted are one
pub agreed : (e n : ℕ) (ps : List Packet) → Facts e n ps → (b c : Ballot) (q r : Layout) → Proposed e ps b q → IsMost ps e n b → Proposed e ps c r → IsMost ps e n c → q ≡ r
agreed e n ps facts b c q r first most second more = by (less_or_not b c)
  where
    by : (b ≡ c) ⊎ (ballot_lt b c ≡ true) ⊎ (ballot_lt c b ≡ true) → q ≡ r
    by (inl s) = facts.unique c q r (subst (λ (d : Ballot). Proposed e ps d q) s first) second
    by (inr (inl less)) = sym (later_same e n ps facts b q most first c r less second)
    by (inr (inr less)) = later_same e n ps facts c r more second b q less first

-- What is known of all packets; the layouts that clients may propose are given.
pub record Truth (e n : ℕ) (Mine : Layout → Type 0) (ps : List Packet) : Type 0 where
  pub facts : Facts e n ps
  pub servers : (l : ℕ) (b : Ballot) (a : Before) → Promised e ps l b a → l < n
  -- what a promise tells was proposed, with no greater ballot
  pub told : (l : ℕ) (b : Ballot) (x : Ballot × Layout) → Promised e ps l b (Some x) → Proposed e ps x.0 x.1 × (ballot_lt b x.0 ≡ false)
  pub allowed : (b : Ballot) (q : Layout) → Proposed e ps b q → Mine q

-- More packets.

abbrev pub Grows : List Packet → List Packet → Type 0
Grows ps qs = (x : Packet) → Has ps x → Has qs x

pub proposed_grows : (e : ℕ) (ps qs : List Packet) → Grows ps qs → (b : Ballot) (q : Layout) → Proposed e ps b q → Proposed e qs b q
proposed_grows e ps qs g b q x = record { packet = x.packet; sent = g x.packet x.sent; is = x.is }

pub promised_grows : (e : ℕ) (ps qs : List Packet) → Grows ps qs → (l : ℕ) (b : Ballot) (a : Before) → Promised e ps l b a → Promised e qs l b a
promised_grows e ps qs g l b a x = record { packet = x.packet; sent = g x.packet x.sent; from = x.from; is = x.is }

pub elected_grows : (e n : ℕ) (ps qs : List Packet) → Grows ps qs → (b : Ballot) (q : Layout) → Elected e n ps b q → Elected e n qs b q
elected_grows e n ps qs g b q x = record {
  quorum = x.quorum;
  most = x.most;
  heard = x.heard;
  promises = λ l less t. let p = x.promises l less t in (p.0, promised_grows e ps qs g l b p.0 p.1, p.2);
  lower = x.lower;
  before = λ y h. proposed_grows e ps qs g y.0 y.1 (x.before y h);
  own = x.own;
  value = x.value;
}
