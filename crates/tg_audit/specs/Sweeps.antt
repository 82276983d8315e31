-- States of one object as the history is gone over.
use Rattle.std.specs.Prelude.{◌≡◌, ℕ, ◌+◌, ◌<◌, ◌≤◌, List, [], ◌∷◌, length, map, get_or, take}
use Rattle.tg_base.specs.declared.ids.Oid.{Oid}
use Rattle.tg_kind.specs.Meaning.{Meaning}
use Rattle.tg_model.specs.Stores.{History}
use Rattle.tg_audit.specs.Judging.{written}
use Rattle.tg_audit.specs.Places.{IsBetween}
use Rattle.tg_audit.specs.Runs.{stamp_of}

module _ (m : Meaning) where
  -- the state of an object after the writes of entries
  unfoldable pub after : Oid → m.state → History m → m.state
  after o s [] = s
  after o s (d ∷ ds) = after o (written m o s d.writes) ds

  -- the last of the first n entries is below a bound
  abbrev pub EndsBelow : History m → ℕ → ℕ → Type 0
  EndsBelow h n bound = (i : ℕ) → i + 1 ≡ n → get_or (map (stamp_of m) h) i 0 < bound

  -- from a state after n entries to one after those below a bound, which are k
  pub record IsUpTo (h : History m) (o : Oid) (bound : ℕ) (s : m.state) (n : ℕ) (t : m.state) (k : ℕ) : Type 0 where
    pub within : k ≤ length h
    pub state : (x : m.state) → s ≡ after o x (take n h) → t ≡ after o x (take k h)
    pub between : IsBetween (map (stamp_of m) h) k bound

  -- an object's state after the first n entries
  pub record IsSweep (objects : List Oid) (h : History m) (o : Oid) (s : m.state) (n : ℕ) : Type 0 where
    pub within : n ≤ length h
    pub state : s ≡ after o (m.fresh o objects) (take n h)

  -- and up to a bound
  pub record IsSweepTo (objects : List Oid) (h : History m) (o : Oid) (bound : ℕ) (s : m.state) (n : ℕ) : Type 0 where
    pub sweep : IsSweep objects h o s n
    pub between : IsBetween (map (stamp_of m) h) n bound
