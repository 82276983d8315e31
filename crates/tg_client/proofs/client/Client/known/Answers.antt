use Rattle.std.proofs.Common.{ℕ, List, sym, ap, ◌∙◌}
use Rattle.tg_base.specs.declared.cell.Cell.{Cell}
use Rattle.tg_protocol.specs.Clients as told
use Rattle.tg_protocol.specs.Words.{cell_at}
use Rattle.tg_play.proofs.Means.{means}
use Rattle.tg_client_state.specs.States.{StateOf}
use Rattle.tg_client.proofs.client.Client.known.Goals as goal

pub returns : goal.returns
returns g c = λ d h. c.known_cell.ensures d.work h.kept.work
    ∙ ap (λ (s : StateOf (means g.K.Kind g.K.Registry)). cell_at (told.work_cells (means g.K.Kind g.K.Registry) d.work s.known.cells) c.args.pos) (c.deref.ensures ∙ c.state.view_is)
    ∙ ap (λ (cells : List (ℕ × Cell)). cell_at (told.work_cells (means g.K.Kind g.K.Registry) d.work cells) c.args.pos)
    (sym (ap (λ (x : told.Client (means g.K.Kind g.K.Registry)). x.cells) h.kept.is))
