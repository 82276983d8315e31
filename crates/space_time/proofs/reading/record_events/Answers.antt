use Rattle.std.proofs.Common.{◌^◌, ◌≡◌, ◌<◌, ◌≤◌, ◌+◌, ℕ, List, Option, Some, IfSome, length, refl, subst, arith}
use Rattle.tg_io.proofs.Faults.{sure_since}
use Rattle.tg_lines.specs.Lines.{ahead, TakesLine}
use Rattle.tg_replay.specs.declared.stages.End.TheVariants.{Whole}
use Rattle.tg_replay.proofs.Feeding.{Feeds, still_more, still_stops, still_ends}
use Rattle.space_time.specs.declared.reading.Fed.{Fed}
use Rattle.space_time.specs.Records.{GoesOnRecorded, CountsOn, run_in, finish_in}
use Rattle.space_time.proofs.reading.record_events.Goals as goal

pub feed-requires-clause-recorded : goal.feed-requires-clause-recorded
feed-requires-clause-recorded g c = c.loop-line.invariant.kept

pub returns-in-Stops-clause-finished : goal.returns-in-Stops-clause-finished
returns-in-Stops-clause-finished g c =
    let before = ahead c.args.reader.now (g.S.Source.left c.args.source.now) in
    let rest = ahead c.loop-line.reader (g.S.Source.left c.loop-line.source) in
    let after = ahead c.next.new.self (g.S.Source.left c.next.new.source) in
    let line = subst (λ (o : Option (List ℕ)). TakesLine rest after o) c.in-Some.is c.in_ok-line.ensures.line in
    let feeds = subst (λ (f : Fed). Feeds c.loop-line.recording.run c.in-Some.line (run_in f)) c.in-Stops.is c.in_ok-next.ensures.took in
    still_stops before rest after c.args.recording.run c.loop-line.recording.run (finish_in c.in-Stops.recorded) c.in-Some.line c.loop-line.invariant.reads line feeds

pub returns-in-Stops-clause-recorded : goal.returns-in-Stops-clause-recorded
returns-in-Stops-clause-recorded g c = subst GoesOnRecorded c.in-Stops.is c.in_ok-next.ensures.kept

pub loop-line-preserved : goal.loop-line-preserved
loop-line-preserved g c =
    let before = ahead c.args.reader.now (g.S.Source.left c.args.source.now) in
    let rest = ahead c.loop-line.reader (g.S.Source.left c.loop-line.source) in
    let after = ahead c.next.new.self (g.S.Source.left c.next.new.source) in
    let i = c.loop-line.invariant in
    let line = subst (λ (o : Option (List ℕ)). TakesLine rest after o) c.in-Some.is c.in_ok-line.ensures.line in
    let feeds = subst (λ (f : Fed). Feeds c.loop-line.recording.run c.in-Some.line (run_in f)) c.in-Goes.is c.in_ok-next.ensures.took in
    let later : g.S.Source.faults c.args.source.now ≤ g.S.Source.faults c.loop-line.source = i.later in
    let rose : g.S.Source.faults c.loop-line.source ≤ g.S.Source.faults c.next.new.source = c.in_ok-line.ensures.cause.later in
    let less : length c.next.new.self + g.S.Source.room c.next.new.source < length c.loop-line.reader + g.S.Source.room c.loop-line.source =
    subst (λ (o : Option (List ℕ)). IfSome o (λ l. length c.next.new.self + g.S.Source.room c.next.new.source < length c.loop-line.reader + g.S.Source.room c.loop-line.source)) c.in-Some.is c.in_ok-line.ensures.less in
    let room : c.loop-line.recording.run.world.event + 3 + (length c.loop-line.reader + g.S.Source.room c.loop-line.source) < 2 ^ 64 = i.room in
    let counts : c.in-Goes.next.run.world.event ≡ c.loop-line.recording.run.world.event + 1 = subst (CountsOn c.loop-line.recording.run.world.event) c.in-Goes.is c.in_ok-next.ensures.counts in
    record {
      reads = still_more before rest after c.args.recording.run c.loop-line.recording.run c.in-Goes.next.run c.in-Some.line i.reads line c.in_ok-line.ensures.feeds feeds;
      kept = subst GoesOnRecorded c.in-Goes.is c.in_ok-next.ensures.kept;
      room = omega (arith, room, less, counts);
      later = omega arith;
      sure = sure_since _ _ _ _ _ _ i.sure c.in_ok-line.ensures.sure;
    }

pub returns-clause-finished : goal.returns-clause-finished
returns-clause-finished g c =
    let before = ahead c.args.reader.now (g.S.Source.left c.args.source.now) in
    let rest = ahead c.loop-line.reader (g.S.Source.left c.loop-line.source) in
    let after = ahead c.next.new.self (g.S.Source.left c.next.new.source) in
    let none = subst (λ (o : Option (List ℕ)). TakesLine rest after o) c.in_default.is c.in_ok-line.ensures.line in
    still_ends before rest after c.args.recording.run c.loop-line.recording.run (record { end = Whole; run = Some c.loop-line.recording.run }) c.loop-line.invariant.reads none refl refl

pub feed-requires-clause-room : goal.feed-requires-clause-room
feed-requires-clause-room g c =
    let less : length c.next.new.self + g.S.Source.room c.next.new.source < length c.loop-line.reader + g.S.Source.room c.loop-line.source =
    subst (λ (o : Option (List ℕ)). IfSome o (λ l. length c.next.new.self + g.S.Source.room c.next.new.source < length c.loop-line.reader + g.S.Source.room c.loop-line.source)) c.in-Some.is c.in_ok-line.ensures.less in
    let room : c.loop-line.recording.run.world.event + 3 + (length c.loop-line.reader + g.S.Source.room c.loop-line.source) < 2 ^ 64 = c.loop-line.invariant.room in
    omega (arith, less, room)
