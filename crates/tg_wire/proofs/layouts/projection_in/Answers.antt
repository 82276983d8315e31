use Rattle.std.proofs.Common.{arith}
use Rattle.tg_codec.proofs.Shapes.{met_within}
use Rattle.tg_wire.proofs.Building.{is_layout_of}
use Rattle.tg_wire.proofs.layouts.projection_in.Goals as goal

pub invariant_of-layout : goal.invariant_of-layout
invariant_of-layout c =
    let epoch = met_within c.args.epochs.0 c.args.epochs.1 c.in_ok-epoch.epoch c.in_ok-epoch.ensures.met in
    is_layout_of (record {
      epoch = c.in_ok-epoch.epoch;
      seq = c.in_ok-seq.seq;
      start = c.in_ok-start.start;
      by = c.in_ok-by.by;
      gone = c.in_ok-gone.gone;
      ranges = c.in_ok-ranges.ranges;
    }) (omega (arith, epoch.0, c.requires)) c.in_ok-gone.ensures.fits c.in_ok-ranges.ensures.fits
