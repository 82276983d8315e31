-- Which views of the definitions are kept so.
use Rattle.std.specs.Prelude.{◌≡◌, ℕ, ◌+◌, ◌≤◌, Bool, List, [], ◌∷◌, Option, Some, None, if◌then◌else◌}
use Rattle.tg_base.specs.declared.ids.Oid.{Oid}
use Rattle.tg_entry.specs.declared.entry.Entry.{Entry}
use Rattle.tg_entry.specs.declared.entry.WriteOp.{WriteOp}
use Rattle.tg_kind.specs.Meaning.{Meaning}
use Rattle.tg_model.specs.declared.play.PlayEnd.{PlayEnd}
use Rattle.tg_protocol.specs.Versions.{PartVersion}
use Rattle.tg_protocol.specs.Views as told
use Rattle.tg_vers.specs.Kept.{Keeps}
use Rattle.tg_play.specs.declared.base.Base.{Base}
use Rattle.tg_play.specs.declared.hosted.Hosted.{Hosted}
use Rattle.tg_play.specs.declared.verdict.Verdict.{Verdict}
use Rattle.tg_play.specs.declared.verdict.Verdict.TheVariants as verdicts
use Rattle.tg_play.specs.Kept.{Hosts, Kept, hosted_of, fates_kept, rising_positions, own}

-- no change is noted above a position
abbrev pub AtMost : ℕ → List PartVersion → Type 0
AtMost bound [] = Unit {0}
AtMost bound (n ∷ ns) = (n.version ≤ bound) × AtMost bound ns

abbrev pub told_verdict : Verdict → told.Verdict
told_verdict verdicts.Commits = told.Commits
told_verdict verdicts.Aborts = told.Aborts
told_verdict (verdicts.Unknown o) = told.Unknown o

module _ (m : Meaning) where
  -- a base of the definitions, which has no changes but those that a checkpoint tells
  pub record KeepsBase (b : Base m.state) (d : told.Base m) : Type 0 where
    pub oid : b.oid ≡ d.oid
    pub state : b.state ≡ d.state
    pub versions : Keeps b.vers d.versions
    pub based : d.versions.noted ≡ []
    pub upto : b.upto ≡ d.upto

  abbrev pub KeepsBases : List (Base m.state) → List (told.Base m) → Type 0
  KeepsBases [] [] = Unit {0}
  KeepsBases (b ∷ bs) (d ∷ ds) = KeepsBase b d × KeepsBases bs ds
  KeepsBases _ _ = ⊥

  -- a hosted object: its base, its state, and the changes that were noted
  pub record KeepsHosted (o : Oid) (h : Hosted m.state) (b : told.Base m) (s : Option m.state) (ns : List PartVersion) : Type 0 where
    pub state : s ≡ Some h.state
    pub base : Keeps h.base b.versions
    pub upto : h.upto ≡ b.upto
    pub noted : Keeps h.noted (own b.versions.base o ns)

  abbrev pub KeepsObject : Oid → Option (Hosted m.state) → Option (told.Base m) → Option m.state → List PartVersion → Type 0
  KeepsObject o None None s ns = s ≡ None
  KeepsObject o (Some h) (Some b) s ns = KeepsHosted o h b s ns
  KeepsObject o _ _ s ns = ⊥

  pub record KeepsObjects (hs : Hosts m.state) (v : told.View m) : Type 0 where
    pub each : (o : Oid) → KeepsObject o (hosted_of hs o) (told.base_of m v o) (told.state_of m v o) v.noted

  -- a view whose changes aren't above a position
  pub record KeepsTo (bound : ℕ) (c : Kept m.state) (v : told.View m) : Type 0 where
    pub objects : KeepsObjects c.objects v
    pub upto : c.upto ≡ v.upto
    pub fates : c.fates ≡ fates_kept v.fates
    pub open_records : c.open_records ≡ rising_positions v.open_records
    pub noted : AtMost bound v.noted

  -- a view, whose changes come from below its `upto`
  abbrev pub KeepsView : Kept m.state → told.View m → Type 0
  KeepsView c v = KeepsTo v.upto c v

  -- a hosted object after a write, which is played unless its base is past the position
  abbrev pub written_state : ℕ → WriteOp → told.Base m → Option m.state → Option m.state
  written_state p w b s = if told.plays m p (Some b) then told.applied m (m.read w.oid w.op) s else s

  abbrev pub written_noted : ℕ → WriteOp → told.Base m → List PartVersion → List PartVersion
  written_noted p w b ns = if told.plays m p (Some b) then record { oid = w.oid; part = told.touched m (m.read w.oid w.op); version = p + 1 } ∷ ns else ns

  -- what the record at a position makes of a view, or the object without which it can't be decided
  abbrev pub Stepped : ℕ → Kept m.state → told.View m → Option Oid → told.Step m → Type 0
  Stepped p c v None (told.On w) = KeepsTo (p + 1) c w
  Stepped p c v (Some o) (told.Stuck q) = (o ≡ q) × KeepsTo p c v
  Stepped p c v _ _ = ⊥

  -- the same where it is known what becomes of the record, and whether it needs a decision record that there isn't
  abbrev pub record_made : told.View m → ℕ → Entry → Bool → told.Verdict → told.Step m
  record_made v p e needs d = told.record_step m (if needs then record v { open_records = p ∷ v.open_records } else v) p e d (told.passed_over m v p e)

  -- what a play came to
  pub record PlayedOn (c : Kept m.state) (end : PlayEnd) (p : told.Play m) : Type 0 where
    pub view : KeepsView c p.view
    pub came : end ≡ p.came
