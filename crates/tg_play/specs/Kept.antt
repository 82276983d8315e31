-- What is kept of a view: of each hosted object its state and its versions apart from those of the others, and fates
-- and open records by position.
use Rattle.std.specs.Prelude.{ℕ, Bool, List, [], ◌∷◌, filter, Option}
use Rattle.std.specs.BTreeMap.{insert_entry, is_at}
use Rattle.std.specs.BTreeSet.{insert_key}
use Rattle.std.specs.Map.{lookup}
use Rattle.std.specs.Ordering.{nat_cmp}
use Rattle.tg_base.specs.Orders.{oid_cmp, oid_eq}
use Rattle.tg_base.specs.declared.ids.Oid.{Oid}
use Rattle.tg_entry.specs.declared.entry.Body.{Body}
use Rattle.tg_entry.specs.declared.entry.Body.TheVariants.{Commit, Decision, Checkpoint}
use Rattle.tg_protocol.specs.Versions.{Versions, Based, PartVersion}
use Rattle.tg_protocol.specs.Views.{Entries}
use Rattle.tg_play.specs.declared.base.Base.{Base}
use Rattle.tg_play.specs.declared.hosted.Hosted.{Hosted}

-- by object, rising, each once
abbrev pub Hosts : Type 0 → Type 0
Hosts S = List (Oid × Hosted S)

pub record Kept (S : Type 0) : Type 0 where
  pub objects : List (Oid × Hosted S)
  pub upto : ℕ
  pub fates : List (ℕ × Bool)  -- by position, rising
  pub open_records : List ℕ  -- rising

abbrev pub hosted_of : {S : Type 0} → Hosts S → Oid → Option (Hosted S)
hosted_of hs o = lookup (is_at (oid_cmp o)) hs

abbrev pub at_position : {X : Type 0} → List (ℕ × X) → ℕ → Option X
at_position xs p = lookup (is_at (nat_cmp p)) xs

-- an object begins with its base's versions
abbrev pub hosted_from : {S : Type 0} → Base S → Hosted S
hosted_from b = record { state = b.state; base = b.vers; upto = b.upto; noted = b.vers }

-- of several bases of one object the first counts
abbrev pub hosts_from : {S : Type 0} → List (Base S) → Hosts S
hosts_from [] = []
hosts_from (b ∷ bs) = insert_entry oid_cmp (hosts_from bs) b.oid (hosted_from b)

-- fates by position, of which the first one given counts
abbrev pub fates_kept : List (ℕ × Bool) → List (ℕ × Bool)
fates_kept [] = []
fates_kept (x ∷ xs) = insert_entry nat_cmp (fates_kept xs) x.0 x.1

-- positions, rising, each once
abbrev pub rising_positions : List ℕ → List ℕ
rising_positions [] = []
rising_positions (p ∷ ps) = insert_key nat_cmp (rising_positions ps) p

abbrev pub with_decision : List (ℕ × Bool) → Body → List (ℕ × Bool)
with_decision ds (Commit reads writes) = ds
with_decision ds (Decision at is_yes) = insert_entry nat_cmp ds at is_yes
with_decision ds (Checkpoint oid upto version whole keys state) = ds

-- what decision records say by position; the first one counts
abbrev pub decisions_kept : Entries → List (ℕ × Bool)
decisions_kept [] = []
decisions_kept (x ∷ xs) = with_decision (decisions_kept xs) x.1.body

-- the changes of one object alone
abbrev pub own_noted : Oid → List PartVersion → List PartVersion
own_noted o ns = filter (λ (n : PartVersion). oid_eq n.oid o) ns

abbrev pub own : Option Based → Oid → List PartVersion → Versions
own b o ns = record { base = b; noted = own_noted o ns }
