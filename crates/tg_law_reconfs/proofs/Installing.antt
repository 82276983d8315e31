-- A reconfiguration that is ready, where its client stands at the next epoch already: the new sequencer runs, as do the new
-- layout's units, which the change made of the layout before it.
use Rattle.std.proofs.Common.{◌≡◌, ℕ, ◌+◌, true, sym, subst}
use Rattle.tg_any.specs.AllKinds.{all_kinds}
use Rattle.tg_protocol.specs.Words.{seqr_id}
use Rattle.tg_protocol.specs.Worlds.{client, runs}
use Rattle.tg_protocol.specs.Runs.{Always}
use Rattle.tg_protocol.specs.Finishing.{NoneAbove}
use Rattle.tg_law_reconfs.specs.Reconfs.{WaitsToStart}
use Rattle.tg_law_reconfs.specs.Changes.{ChangesInstall}
use Rattle.tg_law_reconfs.specs.Scans.{WaitsForScan}
use Rattle.tg_law_reconfs.proofs.Changes.{has_given, prepared, changes_start, stands_next}
use Rattle.tg_law_reconfs.proofs.ScanEnds.{scans_install}

pub changes_install : Always all_kinds (ChangesInstall all_kinds)
changes_install h ms w r k e c a b at = scans_install h ms w r k e c a b waits at starts.1
  where
    starts : WaitsToStart all_kinds w k (e + 1) × ((client all_kinds w k).stand.seq ≡ c.seq)
    starts = changes_start h ms w r k e c a b at

    waits : WaitsForScan all_kinds w k
    waits = let s = starts.0 in record {
      work = s.work;
      waits = s.waits;
      reconf = s.reconf;
      hand = s.hand;
      rid = s.rid;
      starting = s.starting;
      seqr_runs = subst (λ (n : ℕ). runs all_kinds w (seqr_id n) ≡ true) (sym starts.1) b.seqr_runs;
      units = (stands_next h ms w r k e c (has_given all_kinds w k c a) (prepared all_kinds w k e c b) at).1;
      none_above = subst (λ (i : ℕ). NoneAbove all_kinds w i) (sym at) b.none_above;
    }
