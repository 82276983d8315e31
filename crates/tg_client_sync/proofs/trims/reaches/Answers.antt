use Rattle.std.proofs.Common.{◌≡◌, List, ℕ, ap, ◌∙◌, subst}
use Rattle.tg_play.proofs.Means.{means}
use Rattle.tg_protocol.specs.Checkpoints.{load_from}
use Rattle.tg_protocol.specs.Views.{Entries}
use Rattle.tg_client_cells.specs.Words.{entries_at}
use Rattle.tg_ckpt.specs.Answers.{Loads}
use Rattle.tg_client_sync.proofs.Viewing.{loads_some, loads_none}
use Rattle.tg_client_sync.proofs.trims.reaches.Goals as goal

pub returns-in-Ok : goal.returns-in-Ok
returns-in-Ok g c =
    let same : c.in_ok-entries.entries ≡ entries_at c.args.known.now.cells c.args.list.now = c.in_ok-entries.ensures.entries ∙ ap (λ (ps : List ℕ). entries_at c.args.known.now.cells ps) c.requires in
    loads_some (means g.K.Kind g.K.Registry) c.args.oid c.load_from.result c.in-Ok.field-0 (load_from (means g.K.Kind g.K.Registry) (entries_at c.args.known.now.cells c.args.list.now) c.args.oid c.args.below) c.in-Ok.is
    (subst (λ (es : Entries). Loads (means g.K.Kind g.K.Registry) c.args.oid c.load_from.result (load_from (means g.K.Kind g.K.Registry) es c.args.oid c.args.below)) same c.load_from.ensures.told)

pub returns-in-Err-NoCheckpoint : goal.returns-in-Err-NoCheckpoint
returns-in-Err-NoCheckpoint g c =
    let same : c.in_ok-entries.entries ≡ entries_at c.args.known.now.cells c.args.list.now = c.in_ok-entries.ensures.entries ∙ ap (λ (ps : List ℕ). entries_at c.args.known.now.cells ps) c.requires in
    loads_none (means g.K.Kind g.K.Registry) c.args.oid c.load_from.result c.in-Err-NoCheckpoint.field-0 c.in-Err-NoCheckpoint.field-0-0 (load_from (means g.K.Kind g.K.Registry) (entries_at c.args.known.now.cells c.args.list.now) c.args.oid c.args.below) c.in-Err-NoCheckpoint.is c.in-Err-NoCheckpoint.field-0-is
    (subst (λ (es : Entries). Loads (means g.K.Kind g.K.Registry) c.args.oid c.load_from.result (load_from (means g.K.Kind g.K.Registry) es c.args.oid c.args.below)) same c.load_from.ensures.told)
