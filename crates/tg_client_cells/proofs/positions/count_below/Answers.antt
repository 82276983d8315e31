use Rattle.tg_client_cells.proofs.Rising.{places, found_split, lacking_split}
use Rattle.std.proofs.Common.{Ok, Err}
use Rattle.tg_client_cells.proofs.positions.count_below.Goals as goal

pub returns-in-Ok : goal.returns-in-Ok
returns-in-Ok c =
    let s = found_split c.args.positions.now c.args.pos c.in-Ok.at c.requires (places c.args.positions.now c.args.pos (Ok c.in-Ok.at) c.requires c.in-Ok.ensures.position) in
    record { within = s.0; before = s.1; after = s.2 }

pub returns-in-Err : goal.returns-in-Err
returns-in-Err c =
    let s = lacking_split c.args.positions.now c.args.pos c.in-Err.at (places c.args.positions.now c.args.pos (Err c.in-Err.at) c.requires c.in-Err.ensures.position) in
    record { within = s.0; before = s.1; after = s.2 }
