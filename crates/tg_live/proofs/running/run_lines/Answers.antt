use Rattle.std.proofs.Common.{◌≡◌, ◌<◌, ◌≤◌, ◌+◌, ◌^◌, ◌∙◌, ℕ, List, length, Option, Some, IfSome, refl, subst, arith, Err, ap}
use Rattle.tg_io.proofs.Faults.{sure_since}
use Rattle.tg_lines.specs.Lines.{ahead, TakesLine}
use Rattle.tg_replay.specs.declared.stages.End.TheVariants.{Whole}
use Rattle.tg_live.specs.declared.stages.Fed.{Fed}
use Rattle.tg_live.specs.Stages.{GoesOnKept, CountsOn, Feeds}
use Rattle.tg_live.proofs.Feeding.{still_first, still_more, still_stops, still_ends}
use Rattle.tg_live.specs.Sends.{carried}
use Rattle.std.proofs.lemmas.Result.{err_from_is_err_and}
use Rattle.tg_live.specs.declared.stages.Stop.TheVariants.{Read}
use Rattle.tg_lines.proofs.Feeding.{handed_on}
use Rattle.tg_live.specs.Breaks.{BreaksOff}
use Rattle.tg_live.proofs.Breaking.{on_err}
use Rattle.tg_live.proofs.Broken.{still_broken, still_breaks}
use Rattle.tg_live.proofs.running.run_lines.Goals as goal

pub returns-in-Stops-clause-finished : goal.returns-in-Stops-clause-finished
returns-in-Stops-clause-finished g c =
    let before = ahead c.args.reader.now (g.S.Source.left c.args.source.now) in
    let rest = ahead c.loop-running.reader (g.S.Source.left c.loop-running.source) in
    let after = ahead c.next_line.new.reader (g.S.Source.left c.next_line.new.source) in
    let line = subst (λ (o : Option (List ℕ)). TakesLine rest after o) c.in-Some.is c.in_ok-line.ensures.line in
    let fed = subst (λ (l : List ℕ). Feeds c.loop-running.running l (g.L.Link.handed c.loop-running.link) (g.L.Link.handed c.fed.new.link) (carried (g.L.Link.sent c.loop-running.link) (g.L.Link.acts c.loop-running.link)) (carried (g.L.Link.sent c.fed.new.link) (g.L.Link.acts c.fed.new.link)) c.in_ok-next.field-0) c.as_slice.ensures c.in_ok-next.ensures.took in
    let feeds = subst (λ (f : Fed). Feeds c.loop-running.running c.in-Some.line (g.L.Link.handed c.loop-running.link) (g.L.Link.handed c.fed.new.link) (carried (g.L.Link.sent c.loop-running.link) (g.L.Link.acts c.loop-running.link)) (carried (g.L.Link.sent c.fed.new.link) (g.L.Link.acts c.fed.new.link)) f) c.in-Stops.is fed in
    still_stops before rest after c.args.running c.loop-running.running c.in-Stops.finish c.in-Some.line
    (g.L.Link.handed c.args.link.now) (g.L.Link.handed c.loop-running.link) (g.L.Link.handed c.fed.new.link) (carried (g.L.Link.sent c.args.link.now) (g.L.Link.acts c.args.link.now)) (carried (g.L.Link.sent c.loop-running.link) (g.L.Link.acts c.loop-running.link)) (carried (g.L.Link.sent c.fed.new.link) (g.L.Link.acts c.fed.new.link))
    c.loop-running.invariant.reads line feeds

pub loop-running-preserved : goal.loop-running-preserved
loop-running-preserved g c =
    let before = ahead c.args.reader.now (g.S.Source.left c.args.source.now) in
    let rest = ahead c.loop-running.reader (g.S.Source.left c.loop-running.source) in
    let after = ahead c.next_line.new.reader (g.S.Source.left c.next_line.new.source) in
    let i = c.loop-running.invariant in
    let line = subst (λ (o : Option (List ℕ)). TakesLine rest after o) c.in-Some.is c.in_ok-line.ensures.line in
    let fed = subst (λ (l : List ℕ). Feeds c.loop-running.running l (g.L.Link.handed c.loop-running.link) (g.L.Link.handed c.fed.new.link) (carried (g.L.Link.sent c.loop-running.link) (g.L.Link.acts c.loop-running.link)) (carried (g.L.Link.sent c.fed.new.link) (g.L.Link.acts c.fed.new.link)) c.in_ok-next.field-0) c.as_slice.ensures c.in_ok-next.ensures.took in
    let feeds = subst (λ (f : Fed). Feeds c.loop-running.running c.in-Some.line (g.L.Link.handed c.loop-running.link) (g.L.Link.handed c.fed.new.link) (carried (g.L.Link.sent c.loop-running.link) (g.L.Link.acts c.loop-running.link)) (carried (g.L.Link.sent c.fed.new.link) (g.L.Link.acts c.fed.new.link)) f) c.in-Goes.is fed in
    let later : g.S.Source.faults c.args.source.now ≤ g.S.Source.faults c.loop-running.source = i.later in
    let rose : g.S.Source.faults c.loop-running.source ≤ g.S.Source.faults c.next_line.new.source = c.in_ok-line.ensures.cause.later in
    let less : length c.next_line.new.reader + g.S.Source.room c.next_line.new.source < length c.loop-running.reader + g.S.Source.room c.loop-running.source =
    subst (λ (o : Option (List ℕ)). IfSome o (λ l. length c.next_line.new.reader + g.S.Source.room c.next_line.new.source < length c.loop-running.reader + g.S.Source.room c.loop-running.source)) c.in-Some.is c.in_ok-line.ensures.less in
    let room : c.loop-running.running.lines + 3 + (length c.loop-running.reader + g.S.Source.room c.loop-running.source) < 2 ^ 64 = i.room in
    let counts : c.in-Goes.next.lines ≡ c.loop-running.running.lines + 1 = subst (CountsOn c.loop-running.running.lines) c.in-Goes.is c.in_ok-next.ensures.counts in
    let link_later : g.L.Link.faults c.args.link.now ≤ g.L.Link.faults c.loop-running.link = i.link_later in
    let link_rose : g.L.Link.faults c.loop-running.link ≤ g.L.Link.faults c.fed.new.link = c.in_ok-next.ensures.cause.later in
    record {
      reads = still_more before rest after c.args.running c.loop-running.running c.in-Goes.next c.in-Some.line
          (g.L.Link.handed c.args.link.now) (g.L.Link.handed c.loop-running.link) (g.L.Link.handed c.fed.new.link) (carried (g.L.Link.sent c.args.link.now) (g.L.Link.acts c.args.link.now)) (carried (g.L.Link.sent c.loop-running.link) (g.L.Link.acts c.loop-running.link)) (carried (g.L.Link.sent c.fed.new.link) (g.L.Link.acts c.fed.new.link)) i.reads line c.in_ok-line.ensures.feeds feeds;
      kept = subst GoesOnKept c.in-Goes.is c.in_ok-next.ensures.kept;
      room = omega (arith, room, less, counts);
      still = c.in_ok-line.ensures.still ∙ i.still;
      later = omega arith;
      sure = sure_since _ _ _ _ _ _ i.sure c.in_ok-line.ensures.sure;
      link_still = c.in_ok-next.ensures.still ∙ i.link_still;
      link_later = omega arith;
      link_sure = sure_since _ _ _ _ _ _ i.link_sure c.in_ok-next.ensures.sure;
    }

pub returns-clause-finished : goal.returns-clause-finished
returns-clause-finished g c =
    let before = ahead c.args.reader.now (g.S.Source.left c.args.source.now) in
    let rest = ahead c.loop-running.reader (g.S.Source.left c.loop-running.source) in
    let after = ahead c.next_line.new.reader (g.S.Source.left c.next_line.new.source) in
    let none = subst (λ (o : Option (List ℕ)). TakesLine rest after o) c.in_default.is c.in_ok-line.ensures.line in
    still_ends before rest after c.args.running c.loop-running.running (record { end = Whole; live = Some c.loop-running.running.live })
    (g.L.Link.handed c.args.link.now) (g.L.Link.handed c.loop-running.link) (carried (g.L.Link.sent c.args.link.now) (g.L.Link.acts c.args.link.now)) (carried (g.L.Link.sent c.loop-running.link) (g.L.Link.acts c.loop-running.link)) c.loop-running.invariant.reads none refl refl

pub returns-in_err-line-clause-first : goal.returns-in_err-line-clause-first
returns-in_err-line-clause-first g c = λ failed.
    let p = err_from_is_err_and c.from_residual.result c.from_residual.ensures.1 in
    let end : c.from_residual.result ≡ Err c.in_err-line.field-0.0 = p.1 ∙ ap Err p.2 in
    still_first (ahead c.args.reader.now (g.S.Source.left c.args.source.now)) (ahead c.loop-running.reader (g.S.Source.left c.loop-running.source)) (g.S.Source.left c.next_line.new.source) c.args.running c.loop-running.running
    (g.L.Link.handed c.args.link.now) (g.L.Link.handed c.loop-running.link) (carried (g.L.Link.sent c.args.link.now) (g.L.Link.acts c.args.link.now)) (carried (g.L.Link.sent c.loop-running.link) (g.L.Link.acts c.loop-running.link))
    c.loop-running.invariant.reads (c.in_err-line.ensures.first (handed_on c.from_residual.result c.in_err-line.field-0.0 Read end failed))

pub returns-in_err-line-clause-broken : goal.returns-in_err-line-clause-broken
returns-in_err-line-clause-broken g c = on_err c.from_residual.result (still_broken (ahead c.args.reader.now (g.S.Source.left c.args.source.now)) (ahead c.loop-running.reader (g.S.Source.left c.loop-running.source)) c.args.running c.loop-running.running
    (g.L.Link.handed c.args.link.now) (g.L.Link.handed c.loop-running.link) (carried (g.L.Link.sent c.args.link.now) (g.L.Link.acts c.args.link.now)) (carried (g.L.Link.sent c.loop-running.link) (g.L.Link.acts c.loop-running.link)) c.loop-running.invariant.reads)

pub returns-in_err-next-clause-broken : goal.returns-in_err-next-clause-broken
returns-in_err-next-clause-broken g c =
    let before = ahead c.args.reader.now (g.S.Source.left c.args.source.now) in
    let rest = ahead c.loop-running.reader (g.S.Source.left c.loop-running.source) in
    let after = ahead c.next_line.new.reader (g.S.Source.left c.next_line.new.source) in
    let line = subst (λ (o : Option (List ℕ)). TakesLine rest after o) c.in-Some.is c.in_ok-line.ensures.line in
    let breaks = subst (λ (l : List ℕ). BreaksOff c.loop-running.running l (g.L.Link.handed c.loop-running.link) (carried (g.L.Link.sent c.loop-running.link) (g.L.Link.acts c.loop-running.link)) (g.L.Link.acts c.fed.new.link)) c.as_slice.ensures c.in_err-next.ensures.broken in
    on_err c.from_residual-in_err-next.result (still_breaks before rest after c.args.running c.loop-running.running c.in-Some.line
    (g.L.Link.handed c.args.link.now) (g.L.Link.handed c.loop-running.link) (carried (g.L.Link.sent c.args.link.now) (g.L.Link.acts c.args.link.now)) (carried (g.L.Link.sent c.loop-running.link) (g.L.Link.acts c.loop-running.link)) (g.L.Link.acts c.fed.new.link)
    c.loop-running.invariant.reads line breaks)

pub fed-requires-clause-room : goal.fed-requires-clause-room
fed-requires-clause-room g c =
    let less : length c.next_line.new.reader + g.S.Source.room c.next_line.new.source < length c.loop-running.reader + g.S.Source.room c.loop-running.source =
    subst (λ (o : Option (List ℕ)). IfSome o (λ l. length c.next_line.new.reader + g.S.Source.room c.next_line.new.source < length c.loop-running.reader + g.S.Source.room c.loop-running.source)) c.in-Some.is c.in_ok-line.ensures.less in
    let room : c.loop-running.running.lines + 3 + (length c.loop-running.reader + g.S.Source.room c.loop-running.source) < 2 ^ 64 = c.loop-running.invariant.room in
    omega (arith, less, room)
