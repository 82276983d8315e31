use Rattle.std.proofs.Common.{Option, ap, subst, ◌∙◌}
use Rattle.std.specs.Prelude.{option_copied}
use Rattle.tg_entry.specs.declared.entry.Entry.{Entry}
use Rattle.tg_stream.specs.Pages.{Says}
use Rattle.tg_client_cells.specs.Words.{commits_by}
use Rattle.tg_client_cells.proofs.entries.commits.Goals as goal

pub returns-in-Some : goal.returns-in-Some
returns-in-Some c = c.is_commit.ensures ∙ ap (λ (o : Option Entry). commits_by o) (subst (Says c.args.page.now) (ap option_copied c.in-Some.is) c.kept.ensures).0
