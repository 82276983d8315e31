-- What is kept of the definitions' bases, and which of them is chosen.
use Rattle.std.specs.Prelude.{ℕ, Bool, ◌&&◌, ◌==◌, nat_lt, nat_le, [], ◌∷◌, Option, Some, None, if◌then◌else◌}
use Rattle.tg_base.specs.declared.ids.Oid.{Oid}
use Rattle.tg_entry.specs.declared.entry.Body.{Body}
use Rattle.tg_entry.specs.declared.entry.Body.TheVariants.{Commit, Decision, Checkpoint}
use Rattle.tg_entry.specs.declared.entry.Entry.{Entry}
use Rattle.tg_kind.specs.Meaning.{Meaning}
use Rattle.tg_base.specs.Orders.{oid_eq}
use Rattle.tg_protocol.specs.Views as told
use Rattle.tg_protocol.specs.Views.{Entries}
use Rattle.tg_protocol.specs.Checkpoints.{base_at}
use Rattle.tg_vers.specs.Kept.{notes_kept}
use Rattle.tg_play.specs.declared.base.Base.{Base}

-- the `upto` of a checkpoint that counts, if its state loads

abbrev pub offer_in : Oid → Body → Option ℕ
offer_in o (Commit reads writes) = None
offer_in o (Decision at is_yes) = None
offer_in o (Checkpoint p upto version whole keys bytes) = if oid_eq o p && nat_le version upto then Some upto else None

abbrev pub offered : Oid → Entry → Option ℕ
offered o e = if e.head.format == 2 then offer_in o e.body else None

-- a base that isn't below a position, and one from one position to another

abbrev pub counted : {S : Type 0} → ℕ → Option (Base S) → Option (Base S)
counted below None = None
counted below (Some b) = if nat_le below b.upto then Some b else None

abbrev pub inside : {S : Type 0} → ℕ → ℕ → Option (Base S) → Option (Base S)
inside below high None = None
inside below high (Some b) = if nat_le below b.upto && nat_le b.upto high then Some b else None

-- the lower one of two bases, and the higher one; the first where they reach equally far

abbrev pub lower_of : {S : Type 0} → Option (Base S) → Option (Base S) → Option (Base S)
lower_of None c = c
lower_of (Some b) None = Some b
lower_of (Some b) (Some c) = Some (if nat_le b.upto c.upto then b else c)

abbrev pub higher_of : {S : Type 0} → Option (Base S) → Option (Base S) → Option (Base S)
higher_of None c = c
higher_of (Some b) None = Some b
higher_of (Some b) (Some c) = Some (if nat_le c.upto b.upto then b else c)

-- whether a checkpoint with this `upto` takes the place of the one that was chosen so far

abbrev pub is_lower : {S : Type 0} → Option (Base S) → ℕ → ℕ → Bool
is_lower None below upto = nat_le below upto
is_lower (Some b) below upto = nat_le below upto && nat_lt upto b.upto

abbrev pub is_higher : {S : Type 0} → Option (Base S) → ℕ → ℕ → ℕ → Bool
is_higher None below high upto = nat_le below upto && nat_le upto high
is_higher (Some b) below high upto = (nat_le below upto && nat_le upto high) && nat_le b.upto upto

module _ (m : Meaning) where
  abbrev pub kept_base : told.Base m → Base m.state
  kept_base d = record { oid = d.oid; state = d.state; vers = notes_kept d.versions.base d.versions.noted; upto = d.upto }

  abbrev pub kept_maybe : Option (told.Base m) → Option (Base m.state)
  kept_maybe None = None
  kept_maybe (Some d) = Some (kept_base d)

  -- the base that an entry gives
  abbrev pub kept_at : Oid → Entry → Option (Base m.state)
  kept_at o e = kept_maybe (base_at m o e)

  -- the lowest base that isn't below a position, and the highest one from one position to another

  abbrev pub lowest : Oid → ℕ → Entries → Option (Base m.state)
  lowest o below [] = None
  lowest o below (x ∷ xs) = lower_of (counted below (kept_at o x.1)) (lowest o below xs)

  abbrev pub highest : Oid → ℕ → ℕ → Entries → Option (Base m.state)
  highest o below high [] = None
  highest o below high (x ∷ xs) = higher_of (inside below high (kept_at o x.1)) (highest o below high xs)
