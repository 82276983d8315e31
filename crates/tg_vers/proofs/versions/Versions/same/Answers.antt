use Rattle.std.proofs.Common.{◌≡◌, ℕ, ap, ◌∙◌}
use Rattle.tg_base.specs.declared.marks.ReadMark.{ReadMark}
use Rattle.tg_protocol.specs.Versions.{Versions, version_of}
use Rattle.tg_vers.specs.Kept.{Objects, Keeps, version_kept, kept_of, first_other, changed_of}
use Rattle.tg_vers.proofs.Firsts.{changed_first}
use Rattle.tg_vers.proofs.Keeping.{version_told}
use Rattle.tg_vers.proofs.versions.Versions.same.Goals as goal

told_alike : (os : Objects) (v : Versions) → Keeps os v → ◌≡◌ {A = ReadMark → ℕ} (λ r. version_kept (kept_of os r.oid) r.part) (λ r. version_of v r.oid r.part)
told_alike os v keeps = λ i r. version_told os v r.oid r.part keeps i

pub returns-clause-first : goal.returns-clause-first
returns-clause-first c = λ v keeps. c.other.ensures ∙ ap (λ (version : ReadMark → ℕ). first_other version c.args.reads.now) (told_alike c.args.self.now v keeps)

pub returns-clause-changed : goal.returns-clause-changed
returns-clause-changed c = λ v keeps.
    ap (changed_of c.args.reads.now) (c.other.ensures ∙ ap (λ (version : ReadMark → ℕ). first_other version c.args.reads.now) (told_alike c.args.self.now v keeps))
    ∙ changed_first (λ (r : ReadMark). version_of v r.oid r.part) c.args.reads.now
