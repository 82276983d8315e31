-- The versions that reads have.
use Rattle.std.specs.Prelude.{◌≡◌, ℕ, Bool, true, false, cond, ◌&&◌, ◌==◌, List, [], ◌∷◌, Option, Some, None, is_none, refl}
use Rattle.std.specs.List.{list_all}
use Rattle.std.proofs.Common.{ap, ◌∙◌}
use Rattle.tg_base.specs.declared.marks.ReadMark.{ReadMark}
use Rattle.tg_kind.specs.Meaning.{Meaning}
use Rattle.tg_protocol.specs.Versions.{PartVersion, version_of}
use Rattle.tg_protocol.specs.Logs.{is_current}
use Rattle.tg_vers.specs.Kept.{first_other, one_later}
use Rattle.tg_world_log.specs.Turns.{changed}

later_none : (o : Option (ℕ × ℕ)) → is_none (one_later o) ≡ is_none o
later_none None = refl
later_none (Some x) = refl

by_test : (b : Bool) (o : Option (ℕ × ℕ)) (x : ℕ × ℕ) (all : Bool) → is_none o ≡ all → is_none (cond b (one_later o) (Some x)) ≡ (b && all)
by_test true o x all h = later_none o ∙ h
by_test false o x all h = refl

-- all reads have the version that their part has where no other one is found
pub all_current : (m : Meaning) (ns : List PartVersion) (rs : List ReadMark) → is_none (first_other (λ (r : ReadMark). version_of (changed ns) r.oid r.part) rs) ≡ list_all (is_current m ns) rs
unfolding version_of
all_current m ns [] = refl
all_current m ns (r ∷ rs) =
    by_test (version_of (changed ns) r.oid r.part == r.version) (first_other (λ (q : ReadMark). version_of (changed ns) q.oid q.part) rs) (0, version_of (changed ns) r.oid r.part)
    (list_all (is_current m ns) rs) (all_current m ns rs)

pub current_by : (m : Meaning) (ns : List PartVersion) (rs : List ReadMark) (o : Option (ℕ × ℕ)) → o ≡ first_other (λ (r : ReadMark). version_of (changed ns) r.oid r.part) rs → is_none o ≡ list_all (is_current m ns) rs
current_by m ns rs o e = ap (λ (x : Option (ℕ × ℕ)). is_none x) e ∙ all_current m ns rs
