-- When a layout may follow another, as far as the two layouts tell.
use Rattle.std.specs.Prelude.{◌≡◌, ℕ, ◌+◌, ◌<◌, ◌≤◌, true, false, ◌||◌, ◌++◌, length, drop, IsTrue, IfSome}
use Rattle.std.specs.List.{concat}
use Rattle.tg_base.specs.declared.change.Join.{Join}
use Rattle.tg_base.specs.Units.{has, is_rising}
use Rattle.tg_base.specs.Layouts.{Layout}
use Rattle.tg_base.specs.Changes.{Changed}
use Rattle.tg_proj.specs.Places.{range_at, chain_at}
use Rattle.tg_proj.specs.Next.{kept, joined, opened_at}

-- a unit may join a chain of a range that isn't the last
pub record IsJoined (p q : Layout) (j : Join) : Type 0 where
  pub closed : j.range + 1 < length p.ranges
  pub there : j.stripe < length (range_at p.ranges j.range).stripes
  pub not_gone : has q.gone j.unit ≡ false
  pub new : has (chain_at p.ranges j.range j.stripe) j.unit ≡ false
  pub fits : length (chain_at q.ranges j.range j.stripe) ≤ 5

-- layout q follows layout p by a change c
pub record Follows (p : Layout) (c : Changed) (q : Layout) : Type 0 where
  pub epoch : q.epoch ≡ p.epoch + 1
  -- each range stands in place, with the same lo and as many stripes
  pub in_place : (n : ℕ) → n < length p.ranges → (range_at q.ranges n).lo ≡ (range_at p.ranges n).lo
  pub stripes : (n : ℕ) → n < length p.ranges → length (range_at q.ranges n).stripes ≡ length (range_at p.ranges n).stripes
  -- each chain is the old one without the dropped units, and at most one has a further unit
  pub chains : (n k : ℕ) → n < length p.ranges → k < length (range_at p.ranges n).stripes → chain_at q.ranges n k ≡ kept c.drop (chain_at p.ranges n k) ++ joined c.join n k
  pub left : (n k : ℕ) → n < length p.ranges → k < length (range_at p.ranges n).stripes → 0 < length (kept c.drop (chain_at p.ranges n k))
  pub join : IfSome c.join (IsJoined p q)
  -- at most one further range stands last
  pub further : drop (length p.ranges) q.ranges ≡ opened_at c.opened q.start
  pub opened : (u : ℕ) → has (concat c.opened) u ≡ true → has q.gone u ≡ false
  pub few : length q.ranges ≤ 32
  -- the units that are gone are the old ones and the dropped, rising
  pub gone : (u : ℕ) → has q.gone u ≡ (has p.gone u || has c.drop u)
  pub rising : IsTrue (is_rising q.gone)
  pub start : p.start ≤ q.start
