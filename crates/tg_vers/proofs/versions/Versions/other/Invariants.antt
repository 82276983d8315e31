use Rattle.std.proofs.Common.{◌≡◌, ℕ, drop}
use Rattle.tg_base.specs.declared.marks.ReadMark.{ReadMark}
use Rattle.tg_vers.specs.Kept.{version_kept, kept_of, first_other}
use Rattle.tg_vers.proofs.Firsts.{moved}
use Rattle.tg_vers.proofs.versions.Versions.other.Given as goal

abbrev pub invariant-loop-index : goal.invariant-loop-index
invariant-loop-index l =
    let version : ReadMark → ℕ = λ (r : ReadMark). version_kept (kept_of l.self r.oid) r.part in
    moved l.index (first_other version (drop l.index l.reads)) ≡ first_other version l.reads
