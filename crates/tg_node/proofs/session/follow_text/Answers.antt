use Rattle.std.proofs.Common.{ℕ, List, Option, ◌≡◌, ◌<◌, ◌≤◌, ◌+◌, ◌-◌, ◌^◌, ◌∙◌, length, IfSome, refl, subst, arith}
use Rattle.tg_io.proofs.Faults.{sure_since}
use Rattle.tg_lines.specs.Lines.{ahead, TakesLine}
use Rattle.tg_lines.proofs.Feeding.{takes_more, takes_nothing}
use Rattle.tg_node.specs.Stages.{seen, GoesSound, IsNextLine, IsOfLine, LineCauses}
use Rattle.tg_node.specs.declared.stages.Next.{Next}
use Rattle.tg_node.specs.declared.stages.Next.TheVariants.{Goes, Ends}
use Rattle.tg_node.proofs.Ending.{still_first, still_none, still_more, still_ends, still_done, still_cut, still_none_left, line_step, causes_ends, causes_done, causes_read, causes_none, no_read, failed}
use Rattle.tg_node.proofs.session.follow_text.Goals as goal

pub loop-line-init : goal.loop-line-init
loop-line-init g c = record {
  follows = still_none (ahead c.args.reader.now (g.S.Source.left c.args.source.now)) c.args.run (seen (g.L.Link.sent c.args.link.now) (g.L.Link.handed c.args.link.now) (g.L.Link.acts c.args.link.now) (g.K.Sink.written c.args.sink.now));
  sound = c.requires.sound;
  room = c.requires.room;
  lines = omega arith;
  feeds = takes_nothing (ahead c.args.reader.now (g.S.Source.left c.args.source.now)) _;
  read_still = refl;
  read_later = omega arith;
  write_still = refl;
  link_still = refl;
  source = record { sure = λ e. e; still = λ e. refl };
  sink = record { sure = λ e. e; still = λ e. refl };
  link = record { sure = λ e. e; still = λ e. refl };
}

pub follow_line-requires-clause-sound : goal.follow_line-requires-clause-sound
follow_line-requires-clause-sound g c = c.loop-line.invariant.sound

pub loop-line-preserved : goal.loop-line-preserved
loop-line-preserved g c =
    let i = c.loop-line.invariant in
    let s = c.in-Ok-Some in
    let l = c.follow_line in
    let now = seen (g.L.Link.sent c.loop-line.link) (g.L.Link.handed c.loop-line.link) (g.L.Link.acts c.loop-line.link) (g.K.Sink.written c.loop-line.sink) in
    let later = seen (g.L.Link.sent l.new.link) (g.L.Link.handed l.new.link) (g.L.Link.acts l.new.link) (g.K.Sink.written l.new.sink) in
    let ahead_of : c.args.run.lines ≤ c.loop-line.run.lines = i.lines in
    let next : c.in-Goes.next.lines ≡ c.loop-line.run.lines + 1 = subst (λ (x : Next). IsNextLine c.loop-line.run.lines x) c.in-Goes.is l.ensures.next in
    let r0 : g.S.Source.faults c.args.source.now ≤ g.S.Source.faults c.loop-line.source = i.read_later in
    let r1 : g.S.Source.faults c.loop-line.source ≤ g.S.Source.faults c.next.new.source = s.ensures.cause.later in
    let causes : LineCauses (g.K.Sink.faults c.loop-line.sink) (g.K.Sink.faults l.new.sink) (g.L.Link.faults c.loop-line.link) (g.L.Link.faults l.new.link) (Goes c.in-Goes.next) =
    subst (λ (x : Next). LineCauses (g.K.Sink.faults c.loop-line.sink) (g.K.Sink.faults l.new.sink) (g.L.Link.faults c.loop-line.link) (g.L.Link.faults l.new.link) x) c.in-Goes.is l.ensures.causes in
    record {
      follows =
          still_more (ahead c.args.reader.now (g.S.Source.left c.args.source.now)) (ahead c.loop-line.reader (g.S.Source.left c.loop-line.source)) (ahead c.next.new.self (g.S.Source.left c.next.new.source)) c.args.run c.loop-line.run c.in-Goes.next
          (seen (g.L.Link.sent c.args.link.now) (g.L.Link.handed c.args.link.now) (g.L.Link.acts c.args.link.now) (g.K.Sink.written c.args.sink.now)) now later s.line i.follows (subst (λ (o : Option (List ℕ)). TakesLine (ahead c.loop-line.reader (g.S.Source.left c.loop-line.source)) (ahead c.next.new.self (g.S.Source.left c.next.new.source)) o) s.field-0-is s.ensures.line)
          (line_step c.loop-line.run now later c.as_slice.result.now s.line l.result (Goes c.in-Goes.next) c.as_slice.ensures c.in-Goes.is l.ensures.follows);
      sound = subst GoesSound c.in-Goes.is l.ensures.sound;
      room =
          let less : length c.next.new.self + g.S.Source.room c.next.new.source < length c.loop-line.reader + g.S.Source.room c.loop-line.source =
          subst (λ (o : Option (List ℕ)). IfSome o (λ _. length c.next.new.self + g.S.Source.room c.next.new.source < length c.loop-line.reader + g.S.Source.room c.loop-line.source)) s.field-0-is s.ensures.less in
          let room : c.loop-line.run.lines + 3 + (length c.loop-line.reader + g.S.Source.room c.loop-line.source) < 2 ^ 64 = i.room in omega (arith, room, less, next);
      read_later = omega (arith, r0, r1);
      lines = omega (arith, ahead_of, next);
      feeds = takes_more (ahead c.args.reader.now (g.S.Source.left c.args.source.now)) (ahead c.loop-line.reader (g.S.Source.left c.loop-line.source)) (ahead c.next.new.self (g.S.Source.left c.next.new.source)) (c.loop-line.run.lines - c.args.run.lines) 1 (c.in-Goes.next.lines - c.args.run.lines) (omega (arith, ahead_of, next)) i.feeds s.ensures.feeds;
      read_still = s.ensures.still ∙ i.read_still;
      write_still = causes.write_still (λ e. absurd cc) (λ e. absurd cc) ∙ i.write_still;
      link_still = causes.link_still (λ e. absurd cc) (λ e. absurd cc) ∙ i.link_still;
      source = sure_since _ _ _ _ _ _ i.source s.ensures.sure;
      sink = sure_since _ _ _ _ _ _ i.sink l.ensures.sink;
      link = sure_since _ _ _ _ _ _ i.link l.ensures.link;
    }

pub returns-in-Ends-clause-outcome : goal.returns-in-Ends-clause-outcome
returns-in-Ends-clause-outcome g c =
    let i = c.loop-line.invariant in
    let s = c.in-Ok-Some in
    let l = c.follow_line in
    let now = seen (g.L.Link.sent c.loop-line.link) (g.L.Link.handed c.loop-line.link) (g.L.Link.acts c.loop-line.link) (g.K.Sink.written c.loop-line.sink) in
    let later = seen (g.L.Link.sent l.new.link) (g.L.Link.handed l.new.link) (g.L.Link.acts l.new.link) (g.K.Sink.written l.new.sink) in
    still_ends (ahead c.args.reader.now (g.S.Source.left c.args.source.now)) (ahead c.loop-line.reader (g.S.Source.left c.loop-line.source)) (ahead c.next.new.self (g.S.Source.left c.next.new.source)) c.args.run c.loop-line.run
    (seen (g.L.Link.sent c.args.link.now) (g.L.Link.handed c.args.link.now) (g.L.Link.acts c.args.link.now) (g.K.Sink.written c.args.sink.now)) now later s.line c.in-Ends.status i.follows (subst (λ (o : Option (List ℕ)). TakesLine (ahead c.loop-line.reader (g.S.Source.left c.loop-line.source)) (ahead c.next.new.self (g.S.Source.left c.next.new.source)) o) s.field-0-is s.ensures.line)
    (line_step c.loop-line.run now later c.as_slice.result.now s.line l.result (Ends c.in-Ends.status) c.as_slice.ensures c.in-Ends.is l.ensures.follows)

pub returns-in-Ends-clause-causes : goal.returns-in-Ends-clause-causes
returns-in-Ends-clause-causes g c =
    let i = c.loop-line.invariant in
    let l = c.follow_line in
    causes_ends (g.S.Source.faults c.args.source.now) (g.S.Source.faults c.loop-line.source) (g.S.Source.faults c.next.new.source) (g.K.Sink.faults c.args.sink.now) (g.K.Sink.faults c.loop-line.sink) (g.K.Sink.faults l.new.sink)
    (g.L.Link.faults c.args.link.now) (g.L.Link.faults c.loop-line.link) (g.L.Link.faults l.new.link) c.in-Ends.status i.read_later c.in-Ok-Some.ensures.cause.later (c.in-Ok-Some.ensures.still ∙ i.read_still) i.write_still i.link_still
    (subst (λ (x : Next). LineCauses (g.K.Sink.faults c.loop-line.sink) (g.K.Sink.faults l.new.sink) (g.L.Link.faults c.loop-line.link) (g.L.Link.faults l.new.link) x) c.in-Ends.is l.ensures.causes)

pub returns-in-Ok-None-clause-outcome : goal.returns-in-Ok-None-clause-outcome
returns-in-Ok-None-clause-outcome g c =
    still_done (ahead c.args.reader.now (g.S.Source.left c.args.source.now)) (ahead c.loop-line.reader (g.S.Source.left c.loop-line.source)) (ahead c.next.new.self (g.S.Source.left c.next.new.source)) c.args.run c.loop-line.run
    (seen (g.L.Link.sent c.args.link.now) (g.L.Link.handed c.args.link.now) (g.L.Link.acts c.args.link.now) (g.K.Sink.written c.args.sink.now)) (g.L.Link.sent c.loop-line.link) (g.L.Link.handed c.loop-line.link) (g.L.Link.acts c.loop-line.link) (g.K.Sink.written c.loop-line.sink) c.loop-line.invariant.follows (subst (λ (o : Option (List ℕ)). TakesLine (ahead c.loop-line.reader (g.S.Source.left c.loop-line.source)) (ahead c.next.new.self (g.S.Source.left c.next.new.source)) o) c.in-Ok-None.field-0-is c.in-Ok-None.ensures.line)

pub returns-in-Ok-None-clause-causes : goal.returns-in-Ok-None-clause-causes
returns-in-Ok-None-clause-causes g c =
    let i = c.loop-line.invariant in
    let r0 : g.S.Source.faults c.args.source.now ≤ g.S.Source.faults c.loop-line.source = i.read_later in
    let r1 : g.S.Source.faults c.loop-line.source ≤ g.S.Source.faults c.next.new.source = c.in-Ok-None.ensures.cause.later in
    causes_done (g.S.Source.faults c.args.source.now) (g.S.Source.faults c.next.new.source) _ _ _ _ (omega (arith, r0, r1)) (c.in-Ok-None.ensures.still ∙ i.read_still) i.write_still i.link_still

pub returns-in-Err-Failed-clause-outcome : goal.returns-in-Err-Failed-clause-outcome
returns-in-Err-Failed-clause-outcome g c =
    still_cut (ahead c.args.reader.now (g.S.Source.left c.args.source.now)) (ahead c.loop-line.reader (g.S.Source.left c.loop-line.source)) c.args.run c.loop-line.run
    (seen (g.L.Link.sent c.args.link.now) (g.L.Link.handed c.args.link.now) (g.L.Link.acts c.args.link.now) (g.K.Sink.written c.args.sink.now)) (g.L.Link.sent c.loop-line.link) (g.L.Link.handed c.loop-line.link) (g.L.Link.acts c.loop-line.link) (g.K.Sink.written c.loop-line.sink) c.loop-line.invariant.follows

pub returns-in-Err-Failed-clause-causes : goal.returns-in-Err-Failed-clause-causes
returns-in-Err-Failed-clause-causes g c =
    causes_read (g.S.Source.faults c.args.source.now) (g.S.Source.faults c.loop-line.source) (g.S.Source.faults c.next.new.source) _ _ _ _ c.loop-line.invariant.read_later c.in-Err-Failed.ensures.cause.later c.loop-line.invariant.write_still c.loop-line.invariant.link_still (c.in-Err-Failed.ensures.cause.failed (failed c.in-Err-Failed.field-0 c.in-Err-Failed.field-0-is))

pub returns-in-Err-NoMemory-clause-outcome : goal.returns-in-Err-NoMemory-clause-outcome
returns-in-Err-NoMemory-clause-outcome g c =
    still_none_left (ahead c.args.reader.now (g.S.Source.left c.args.source.now)) c.args.run.id c.args.run (seen (g.L.Link.sent c.args.link.now) (g.L.Link.handed c.args.link.now) (g.L.Link.acts c.args.link.now) (g.K.Sink.written c.args.sink.now))
    (seen (g.L.Link.sent c.loop-line.link) (g.L.Link.handed c.loop-line.link) (g.L.Link.acts c.loop-line.link) (g.K.Sink.written c.loop-line.sink))
    (still_cut (ahead c.args.reader.now (g.S.Source.left c.args.source.now)) (ahead c.loop-line.reader (g.S.Source.left c.loop-line.source)) c.args.run c.loop-line.run
    (seen (g.L.Link.sent c.args.link.now) (g.L.Link.handed c.args.link.now) (g.L.Link.acts c.args.link.now) (g.K.Sink.written c.args.sink.now)) (g.L.Link.sent c.loop-line.link) (g.L.Link.handed c.loop-line.link) (g.L.Link.acts c.loop-line.link) (g.K.Sink.written c.loop-line.sink) c.loop-line.invariant.follows)

pub returns-in-Err-NoMemory-clause-causes : goal.returns-in-Err-NoMemory-clause-causes
returns-in-Err-NoMemory-clause-causes g c =
    causes_none (g.S.Source.faults c.args.source.now) (g.S.Source.faults c.loop-line.source) (g.S.Source.faults c.next.new.source) _ _ _ _ c.loop-line.invariant.read_later c.in-Err-NoMemory.ensures.cause.later c.loop-line.invariant.write_still c.loop-line.invariant.link_still

pub returns-in-Ends-clause-first : goal.returns-in-Ends-clause-first
returns-in-Ends-clause-first g c = λ e. absurd (no_read c.in-Ends.status (subst (λ (x : Next). IsOfLine x) c.in-Ends.is c.follow_line.ensures.causes.ways) e)

pub returns-in-Err-Failed-clause-first : goal.returns-in-Err-Failed-clause-first
returns-in-Err-Failed-clause-first g c = λ e.
    let i = c.loop-line.invariant in
    let more = c.loop-line.run.lines - c.args.run.lines in
    let behind : c.args.run.lines ≤ c.loop-line.run.lines = i.lines in
    let many : c.loop-line.run.lines ≡ c.args.run.lines + more = omega (arith, behind) in
    still_first (ahead c.args.reader.now (g.S.Source.left c.args.source.now)) (ahead c.loop-line.reader (g.S.Source.left c.loop-line.source)) (g.S.Source.left c.next.new.source) c.args.run c.loop-line.run
    (seen (g.L.Link.sent c.args.link.now) (g.L.Link.handed c.args.link.now) (g.L.Link.acts c.args.link.now) (g.K.Sink.written c.args.sink.now)) (seen (g.L.Link.sent c.loop-line.link) (g.L.Link.handed c.loop-line.link) (g.L.Link.acts c.loop-line.link) (g.K.Sink.written c.loop-line.sink))
    more many i.follows i.feeds (c.in-Err-Failed.ensures.first (failed c.in-Err-Failed.field-0 c.in-Err-Failed.field-0-is))

pub follow_line-requires-clause-room : goal.follow_line-requires-clause-room
follow_line-requires-clause-room g c =
    let less : length c.next.new.self + g.S.Source.room c.next.new.source < length c.loop-line.reader + g.S.Source.room c.loop-line.source =
    subst (λ (o : Option (List ℕ)). IfSome o (λ l. length c.next.new.self + g.S.Source.room c.next.new.source < length c.loop-line.reader + g.S.Source.room c.loop-line.source)) c.in-Ok-Some.field-0-is c.in-Ok-Some.ensures.less in
    let room : c.loop-line.run.lines + 3 + (length c.loop-line.reader + g.S.Source.room c.loop-line.source) < 2 ^ 64 = c.loop-line.invariant.room in
    omega (arith, less, room)
