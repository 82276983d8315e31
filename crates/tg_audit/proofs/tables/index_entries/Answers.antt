use Rattle.std.proofs.Common.{ℕ, List, length, subst, ◌∙◌}
use Rattle.std.specs.Prelude.{IfOk}
use Rattle.tg_audit.specs.Places.{AreWindows}
use Rattle.tg_audit.specs.declared.index.Index.{Index}
use Rattle.tg_audit.proofs.tables.index_entries.Goals as goal

pub returns : goal.returns
returns g c = subst (λ (ks : List ℕ). IfOk c.index_of.result (λ (x : Index). AreWindows ks (length ks) x.windows)) (c.as_slice.ensures ∙ c.in_ok-keys.ensures) c.index_of.ensures
