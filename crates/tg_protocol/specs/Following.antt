-- Which layout may follow another in a world, by what its units have answered.
use Rattle.std.specs.Prelude.{◌≡◌, ℕ, ◌+◌, ◌<◌, List, map, Some, None, Contains}
use Rattle.tg_base.specs.Layouts.{Layout}
use Rattle.tg_base.specs.Changes.{Changed}
use Rattle.tg_base.specs.declared.change.Join.{Join}
use Rattle.tg_base.specs.declared.msg.Msg.TheVariants as msg
use Rattle.tg_base.specs.declared.packet.Packet.{Packet}
use Rattle.tg_kind.specs.Meaning.{Meaning}
use Rattle.tg_proj.specs.Refusals.{new_start}
use Rattle.tg_protocol.specs.Words.{unit_id}
use Rattle.tg_protocol.specs.Layouts.{units_of, change_fault, next_of}
use Rattle.tg_protocol.specs.Trimming.{has_stripe}
use Rattle.tg_protocol.specs.Worlds.{World}
use Rattle.tg_protocol.specs.Chosen.{Sent, IsDecided}

-- one answer for each unit of a layout
abbrev pub acks_of : Layout → (ℕ → ℕ) → List (ℕ × ℕ)
acks_of q high = map (λ u. (u, high u)) (units_of q)

module _ (m : Meaning) where
  -- a unit was sealed at an epoch, and told its `high`
  pub record SealedAt (w : World m) (e u h : ℕ) : Type 0 where
    pub packet : Packet
    pub sent : Sent m w packet
    pub from : packet.from ≡ unit_id u
    pub says : packet.msg ≡ msg.Sealed e h

  -- a unit has answered, in an epoch, that it has every position of a stripe
  pub record HasStripe (w : World m) (e : ℕ) (p : Layout) (u r s : ℕ) : Type 0 where
    pub asked : Packet
    pub answer : Packet
    pub was_asked : Sent m w asked
    pub was_answered : Sent m w answer
    pub to : asked.to ≡ unit_id u
    pub look : asked.msg ≡ has_stripe e p r s
    pub from : answer.from ≡ unit_id u
    pub back : answer.to ≡ asked.from
    pub number : answer.rid ≡ asked.rid
    pub whole : answer.msg ≡ msg.Whole

  -- q is p after a lawful change. Each unit of q was sealed at q's epoch and told its `high`, and q starts at the
  -- greatest of these and of p's start.
  pub record Follows (w : World m) (p q : Layout) : Type 0 where
    pub change : Changed
    pub lawful : change_fault p change ≡ None
    pub is : q ≡ next_of p change q.by q.start
    pub high : ℕ → ℕ
    pub were_sealed : (u : ℕ) → Contains (units_of q) u → SealedAt w q.epoch u (high u)
    pub starts : q.start ≡ new_start p.start (acks_of q high)
    pub has_all : (j : Join) → change.join ≡ Some j → HasStripe w q.epoch p j.unit j.range j.stripe

  pub record FollowsSome (w : World m) (e : ℕ) (q : Layout) : Type 0 where
    pub before : Layout
    pub decided_before : IsDecided m w e before
    pub follows : Follows w before q

  -- each decided layout follows the one before it
  abbrev pub LayoutsFollow : World m → Type 0
  LayoutsFollow w = (e : ℕ) (q : Layout) → 0 < e → IsDecided m w (e + 1) q → FollowsSome w e q
