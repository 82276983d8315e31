use Rattle.std.proofs.Common.{ℕ, List, [], Option, ap, sym, ◌∙◌}
use Rattle.std.specs.Prelude.{unwrap_or}
use Rattle.tg_client_cells.proofs.Streams.{found}
use Rattle.tg_client_cells.proofs.by_stream.taken.Goals as goal

pub returns-in-None-clause-positions : goal.returns-in-None-clause-positions
returns-in-None-clause-positions c =
    c.new.ensures ∙ ap (λ (o : Option (List ℕ)). unwrap_or o []) (sym c.in-None.is ∙ c.remove.ensures.value) ∙ found c.args.streams.now.entries c.args.oid

pub returns-in-Some-clause-positions : goal.returns-in-Some-clause-positions
returns-in-Some-clause-positions c =
    ap (λ (o : Option (List ℕ)). unwrap_or o []) (sym c.in-Some.is ∙ c.remove.ensures.value) ∙ found c.args.streams.now.entries c.args.oid
