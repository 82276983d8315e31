use Rattle.std.proofs.Common.{◌<◌, ◌≤◌, ◌+◌, ◌^◌, ℕ, List, length, Option, Some, IfSome, refl, subst, arith, ◌∙◌, ◌≡◌, Err, ap}
use Rattle.tg_io.proofs.Faults.{sure_since}
use Rattle.tg_lines.specs.Lines.{ahead, TakesLine}
use Rattle.tg_replay.specs.declared.stages.Fed.{Fed}
use Rattle.tg_replay.specs.declared.stages.End.TheVariants.{Whole}
use Rattle.tg_replay.specs.Stages.{CountsOn, GoesOnKept}
use Rattle.tg_replay.proofs.Feeding.{Feeds, still_more, still_first, still_stops, still_ends}
use Rattle.std.proofs.lemmas.Result.{err_from_is_err_and}
use Rattle.tg_io.specs.declared.fault.IoErr.TheVariants.{Failed}
use Rattle.tg_lines.proofs.Feeding.{handed_on}
use Rattle.tg_replay.proofs.reading.read_events.Goals as goal

pub returns-in-Stops-clause-finished : goal.returns-in-Stops-clause-finished
returns-in-Stops-clause-finished g c =
    let before = ahead c.args.reader.now (g.S.Source.left c.args.source.now) in
    let rest = ahead c.loop-run.reader (g.S.Source.left c.loop-run.source) in
    let after = ahead c.next.new.self (g.S.Source.left c.next.new.source) in
    let line = subst (λ (o : Option (List ℕ)). TakesLine rest after o) c.in-Some.is c.in_ok-line.ensures.line in
    let fed = subst (λ (l : List ℕ). Feeds c.loop-run.run l c.in_ok-next.field-0) c.as_slice.ensures c.in_ok-next.ensures.took in
    let feeds = subst (λ (f : Fed). Feeds c.loop-run.run c.in-Some.line f) c.in-Stops.is fed in
    still_stops before rest after c.args.run c.loop-run.run c.in-Stops.finish c.in-Some.line c.loop-run.invariant.reads line feeds

pub loop-run-preserved : goal.loop-run-preserved
loop-run-preserved g c =
    let before = ahead c.args.reader.now (g.S.Source.left c.args.source.now) in
    let rest = ahead c.loop-run.reader (g.S.Source.left c.loop-run.source) in
    let after = ahead c.next.new.self (g.S.Source.left c.next.new.source) in
    let i = c.loop-run.invariant in
    let line = subst (λ (o : Option (List ℕ)). TakesLine rest after o) c.in-Some.is c.in_ok-line.ensures.line in
    let fed = subst (λ (l : List ℕ). Feeds c.loop-run.run l c.in_ok-next.field-0) c.as_slice.ensures c.in_ok-next.ensures.took in
    let feeds = subst (λ (f : Fed). Feeds c.loop-run.run c.in-Some.line f) c.in-Goes.is fed in
    let later : g.S.Source.faults c.args.source.now ≤ g.S.Source.faults c.loop-run.source = i.later in
    let rose : g.S.Source.faults c.loop-run.source ≤ g.S.Source.faults c.next.new.source = c.in_ok-line.ensures.cause.later in
    let less : length c.next.new.self + g.S.Source.room c.next.new.source < length c.loop-run.reader + g.S.Source.room c.loop-run.source =
    subst (λ (o : Option (List ℕ)). IfSome o (λ l. length c.next.new.self + g.S.Source.room c.next.new.source < length c.loop-run.reader + g.S.Source.room c.loop-run.source)) c.in-Some.is c.in_ok-line.ensures.less in
    let room : c.loop-run.run.world.event + 3 + (length c.loop-run.reader + g.S.Source.room c.loop-run.source) < 2 ^ 64 = i.room in
    let counts : c.in-Goes.next.world.event ≡ c.loop-run.run.world.event + 1 = subst (CountsOn c.loop-run.run.world.event) c.in-Goes.is c.in_ok-next.ensures.counts in
    record {
      reads = still_more before rest after c.args.run c.loop-run.run c.in-Goes.next c.in-Some.line i.reads line c.in_ok-line.ensures.feeds feeds;
      kept = subst GoesOnKept c.in-Goes.is c.in_ok-next.ensures.kept;
      room = omega (arith, room, less, counts);
      later = omega arith;
      still = c.in_ok-line.ensures.still ∙ i.still;
      sure = sure_since _ _ _ _ _ _ i.sure c.in_ok-line.ensures.sure;
    }

pub returns-clause-finished : goal.returns-clause-finished
returns-clause-finished g c =
    let before = ahead c.args.reader.now (g.S.Source.left c.args.source.now) in
    let rest = ahead c.loop-run.reader (g.S.Source.left c.loop-run.source) in
    let after = ahead c.next.new.self (g.S.Source.left c.next.new.source) in
    let none = subst (λ (o : Option (List ℕ)). TakesLine rest after o) c.in_default.is c.in_ok-line.ensures.line in
    still_ends before rest after c.args.run c.loop-run.run (record { end = Whole; run = Some c.loop-run.run }) c.loop-run.invariant.reads none refl refl

pub returns-in_err-line-clause-first : goal.returns-in_err-line-clause-first
returns-in_err-line-clause-first g c = λ failed.
    let p = err_from_is_err_and c.from_residual.result c.from_residual.ensures.1 in
    let end : c.from_residual.result ≡ Err c.in_err-line.field-0.0 = p.1 ∙ ap Err p.2 in
    still_first (ahead c.args.reader.now (g.S.Source.left c.args.source.now)) (ahead c.loop-run.reader (g.S.Source.left c.loop-run.source)) (g.S.Source.left c.next.new.source) c.args.run c.loop-run.run c.loop-run.invariant.reads
    (c.in_err-line.ensures.first (handed_on c.from_residual.result c.in_err-line.field-0.0 Failed end failed))

pub feed-requires-clause-room : goal.feed-requires-clause-room
feed-requires-clause-room g c =
    let less : length c.next.new.self + g.S.Source.room c.next.new.source < length c.loop-run.reader + g.S.Source.room c.loop-run.source =
    subst (λ (o : Option (List ℕ)). IfSome o (λ l. length c.next.new.self + g.S.Source.room c.next.new.source < length c.loop-run.reader + g.S.Source.room c.loop-run.source)) c.in-Some.is c.in_ok-line.ensures.less in
    let room : c.loop-run.run.world.event + 3 + (length c.loop-run.reader + g.S.Source.room c.loop-run.source) < 2 ^ 64 = c.loop-run.invariant.room in
    omega (arith, less, room)
