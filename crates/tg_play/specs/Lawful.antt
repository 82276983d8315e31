-- What is true of the versions of a view's objects, so that a checkpoint may tell them.
use Rattle.std.specs.Prelude.{◌≡◌, ℕ, ◌+◌, ◌≤◌, Bool, true, not, ◌&&◌, nat_lt, nat_le, List, [], ◌∷◌, length, Option, Some, None}
use Rattle.std.specs.List.{list_all}
use Rattle.tg_base.specs.Units.{is_within}
use Rattle.tg_base.specs.declared.ids.Oid.{Oid}
use Rattle.tg_base.specs.declared.marks.Part.{Part}
use Rattle.tg_base.specs.declared.marks.Part.TheVariants.{All, Text, Num}
use Rattle.tg_entry.specs.Checkpoints.{Keyed}
use Rattle.tg_entry.specs.Reads.{is_all}
use Rattle.tg_entry.specs.Records.{is_number, keys_rise}
use Rattle.tg_protocol.specs.Versions.{Based, PartVersion}
use Rattle.tg_vers.specs.Kept as vers
use Rattle.tg_vers.specs.Kept.{Objects, Keeps, kept_of, version_kept}
use Rattle.tg_play.specs.declared.base.Base.{Base}
use Rattle.tg_play.specs.declared.hosted.Hosted.{Hosted}
use Rattle.tg_play.specs.Kept.{Hosts, Kept, hosted_of, own}

-- a part whose name is long enough and not too long
abbrev pub is_named : Part → Bool
is_named All = true
is_named (Text t) = is_within 1 4096 (length t)
is_named (Num n) = is_number n

-- a part with a version that isn't above the object's
abbrev pub is_told : ℕ → Part × ℕ → Bool
is_told version k = is_named k.0 && nat_le k.1 version

-- the same of a part that isn't the whole, with a version above that of the whole
abbrev pub is_shown : ℕ → ℕ → Part × ℕ → Bool
is_shown whole version k = is_named k.0 && not (is_all k.0) && nat_lt whole k.1 && nat_le k.1 version

-- what a checkpoint of an object with this version tells of the object's parts
pub record AreKeys (version whole : ℕ) (keys : Keyed) : Type 0 where
  pub below : whole ≤ version
  pub each : list_all (is_shown whole version) keys ≡ true
  pub rising : keys_rise keys ≡ true

pub record IsTold (k : vers.Kept) : Type 0 where
  pub below : k.whole ≤ k.version
  pub each : list_all (is_told k.version) k.keys ≡ true

-- an object's versions: they keep some of the definitions, and no part is later than the object
pub record IsLawful (o : Oid) (os : Objects) : Type 0 where
  pub base : Option Based
  pub changes : List PartVersion
  pub keeps : Keeps os (own base o changes)
  pub told : IsTold (kept_of os o)

module _ {S : Type 0} where
  -- a base, whose object has no version above its `upto`
  pub record IsLawfulBase (b : Base S) : Type 0 where
    pub lawful : IsLawful b.oid b.vers
    pub reach : (kept_of b.vers b.oid).version ≤ b.upto

  abbrev pub AreLawfulBases : List (Base S) → Type 0
  AreLawfulBases [] = Unit {0}
  AreLawfulBases (b ∷ bs) = IsLawfulBase b × AreLawfulBases bs

  -- a hosted object, with no version above both a bound and its base's `upto`
  pub record IsLawfulHosted (bound : ℕ) (o : Oid) (h : Hosted S) : Type 0 where
    pub lawful : IsLawful o h.noted
    pub reach : (n : ℕ) → bound ≤ n → h.upto ≤ n → (kept_of h.noted o).version ≤ n

  pub record AreLawful (bound : ℕ) (hs : Hosts S) : Type 0 where
    pub each : (o : Oid) (h : Hosted S) → hosted_of hs o ≡ Some h → IsLawfulHosted bound o h

  -- a view's objects, with no version above its `upto` but those of their bases
  abbrev pub IsLawfulView : Kept S → Type 0
  IsLawfulView c = AreLawful c.upto c.objects

  -- objects after the step of a record at a position, or as they were where an object is missing
  abbrev pub StaysLawful : ℕ → ℕ → Option Oid → Hosts S → Type 0
  StaysLawful bound pos None hs = bound ≤ pos + 1 → AreLawful (pos + 1) hs
  StaysLawful bound pos (Some o) hs = AreLawful bound hs

  abbrev pub hosted_version : Option (Hosted S) → Oid → Part → ℕ
  hosted_version None o k = 0
  hosted_version (Some h) o k = version_kept (kept_of h.noted o) k

  -- the version that is kept of a part
  abbrev pub version_at_end : Kept S → Oid → Part → ℕ
  version_at_end c o k = hosted_version (hosted_of c.objects o) o k
