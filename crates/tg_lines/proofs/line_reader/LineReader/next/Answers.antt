use Rattle.std.proofs.Common.{◌≡◌, ◌≤◌, ◌+◌, List, [], ℕ, Bool, Option, false, length, sym, ap, subst, refl, arith, ◌∙◌}
use Rattle.tg_io.proofs.Faults.{sure_since}
use Rattle.tg_lines.specs.Lines.{IsTaken, TakesLine, ahead}
use Rattle.tg_lines.proofs.Pieces.{begun_none, begun_more, begun_ends, begun_fed, begun_last, gives_end, taken_counts}
use Rattle.tg_lines.specs.Reads.{ReadsLine}
use Rattle.tg_lines.proofs.Feeding.{begun_feeds, ended_feeds, failed_feeds, wider_feeds}
use Rattle.tg_lines.proofs.Reading.{reading_none, reading_next, reading_feed, reading_end, found_first}
use Rattle.tg_lines.proofs.line_reader.LineReader.next.Goals as goal

pub loop-line-init : goal.loop-line-init
loop-line-init g c =
    let none : c.new-line.result ≡ [] = c.new-line.ensures in
    let zero : length c.new-line.result ≡ 0 = ap length none in
    record {
      begun = begun_none (ahead c.args.self.now (g.S.Source.left c.args.source.now)) c.new-line.result none;
      count = omega arith;
      still = refl;
      sure = record { sure = λ t. t; still = λ t. refl };
      reading = reading_none c.args.self.now c.new-line.result (g.S.Source.pieces c.args.source.now) none;
      hand = λ broken. (refl, refl);
    }

pub returns-then-branch-clause-line : goal.returns-then-branch-clause-line
returns-then-branch-clause-line g c =
    let t = subst (λ (b : Bool). IsTaken c.loop-line.self c.take.new.self c.loop-line.line c.take.new.line b) c.if-branch.true c.in_ok-take.ensures in
    begun_ends (ahead c.args.self.now (g.S.Source.left c.args.source.now)) (g.S.Source.left c.loop-line.source) c.loop-line.self c.take.new.self c.loop-line.line c.take.new.line c.loop-line.invariant.begun t

pub returns-then-not-branch-clause-line : goal.returns-then-not-branch-clause-line
returns-then-not-branch-clause-line g c =
    let text = ahead c.args.self.now (g.S.Source.left c.args.source.now) in
    let was = g.S.Source.left c.loop-line.source in
    let is = g.S.Source.left c.fill.new.source in
    let t = subst (λ (b : Bool). IsTaken c.loop-line.self c.take.new.self c.loop-line.line c.take.new.line b) c.if-branch.false c.in_ok-take.ensures in
    let more = begun_more text was c.loop-line.self c.take.new.self c.loop-line.line c.take.new.line c.loop-line.invariant.begun t in
    let on = begun_fed text was is c.take.new.self c.fill.new.self c.take.new.line more (t.all refl) c.in_ok-fill.ensures.given in
    let stops : c.in_ok-fill.field-0 ≡ false = c.if-not-branch.true in
    let none : c.fill.new.self ≡ [] = c.in_ok-fill.ensures.none stops in
    let end = gives_end was is c.fill.new.self c.in_ok-fill.ensures.given none (c.in_ok-fill.ensures.end stops) in
    subst (λ (last : Option (List ℕ)). TakesLine text (ahead c.fill.new.self is) last) (sym c.ended.ensures) (begun_last text is c.fill.new.self c.take.new.line on none end)

pub loop-line-preserved : goal.loop-line-preserved
loop-line-preserved g c =
    let text = ahead c.args.self.now (g.S.Source.left c.args.source.now) in
    let was = g.S.Source.left c.loop-line.source in
    let is = g.S.Source.left c.fill.new.source in
    let i = c.loop-line.invariant in
    let t = subst (λ (b : Bool). IsTaken c.loop-line.self c.take.new.self c.loop-line.line c.take.new.line b) c.if-branch.false c.in_ok-take.ensures in
    let more = begun_more text was c.loop-line.self c.take.new.self c.loop-line.line c.take.new.line i.begun t in
    let counts : length c.take.new.self + length c.take.new.line ≤ length c.loop-line.self + length c.loop-line.line = taken_counts c.loop-line.self c.take.new.self c.loop-line.line c.take.new.line t in
    let room : g.S.Source.room c.fill.new.source + length c.fill.new.self ≡ g.S.Source.room c.loop-line.source = c.in_ok-fill.ensures.room in
    let before : length c.loop-line.self + length c.loop-line.line + g.S.Source.room c.loop-line.source ≤ length c.args.self.now + g.S.Source.room c.args.source.now = i.count in
    record {
      begun = begun_fed text was is c.take.new.self c.fill.new.self c.take.new.line more (t.all refl) c.in_ok-fill.ensures.given;
      count = omega arith;
      still = c.in_ok-fill.ensures.still ∙ i.still;
      sure = sure_since _ _ _ _ _ _ i.sure c.in_ok-fill.ensures.sure;
      reading = reading_next c.args.self.now c.loop-line.self c.take.new.self c.loop-line.line c.take.new.line c.fill.new.self _ _ _ i.reading t c.in_ok-fill.ensures.piece;
      hand = λ broken. absurd (found_first c.args.self.now c.loop-line.self c.take.new.self c.loop-line.line c.take.new.line i.hand t broken);
    }

pub returns-then-branch-clause-reads : goal.returns-then-branch-clause-reads
returns-then-branch-clause-reads g c =
    let t = subst (λ (b : Bool). IsTaken c.loop-line.self c.take.new.self c.loop-line.line c.take.new.line b) c.if-branch.true c.in_ok-take.ensures in
    reading_feed c.args.self.now c.loop-line.self c.take.new.self c.loop-line.line c.take.new.line _ _ c.loop-line.invariant.reading t

pub returns-then-not-branch-clause-reads : goal.returns-then-not-branch-clause-reads
returns-then-not-branch-clause-reads g c =
    let t = subst (λ (b : Bool). IsTaken c.loop-line.self c.take.new.self c.loop-line.line c.take.new.line b) c.if-branch.false c.in_ok-take.ensures in
    let none : c.fill.new.self ≡ [] = c.in_ok-fill.ensures.none c.if-not-branch.true in
    let ends = reading_end c.args.self.now c.loop-line.self c.take.new.self c.loop-line.line c.take.new.line c.fill.new.self _ _ _ c.loop-line.invariant.reading t c.in_ok-fill.ensures.piece none in
    subst (λ (last : Option (List ℕ)). ReadsLine c.args.self.now c.fill.new.self (g.S.Source.pieces c.args.source.now) (g.S.Source.pieces c.fill.new.source) last) (sym c.ended.ensures) ends

pub returns-then-branch-clause-feeds : goal.returns-then-branch-clause-feeds
returns-then-branch-clause-feeds g c =
    let t = subst (λ (b : Bool). IsTaken c.loop-line.self c.take.new.self c.loop-line.line c.take.new.line b) c.if-branch.true c.in_ok-take.ensures in
    ended_feeds (ahead c.args.self.now (g.S.Source.left c.args.source.now)) (g.S.Source.left c.loop-line.source) c.loop-line.self c.take.new.self c.loop-line.line c.take.new.line c.loop-line.invariant.begun t

pub returns-in_err-fill-clause-first : goal.returns-in_err-fill-clause-first
returns-in_err-fill-clause-first g c =
    let text = ahead c.args.self.now (g.S.Source.left c.args.source.now) in
    let was = g.S.Source.left c.loop-line.source in
    let t = subst (λ (b : Bool). IsTaken c.loop-line.self c.take.new.self c.loop-line.line c.take.new.line b) c.if-branch.false c.in_ok-take.ensures in
    let more = begun_more text was c.loop-line.self c.take.new.self c.loop-line.line c.take.new.line c.loop-line.invariant.begun t in
    λ failed. failed_feeds text was (g.S.Source.left c.fill.new.source) c.take.new.self c.take.new.line more (t.all refl) c.in_err-fill.ensures.kept

pub returns-then-not-branch-clause-feeds : goal.returns-then-not-branch-clause-feeds
returns-then-not-branch-clause-feeds g c =
    let text = ahead c.args.self.now (g.S.Source.left c.args.source.now) in
    let was = g.S.Source.left c.loop-line.source in
    let is = g.S.Source.left c.fill.new.source in
    let t = subst (λ (b : Bool). IsTaken c.loop-line.self c.take.new.self c.loop-line.line c.take.new.line b) c.if-branch.false c.in_ok-take.ensures in
    let more = begun_more text was c.loop-line.self c.take.new.self c.loop-line.line c.take.new.line c.loop-line.invariant.begun t in
    let on = begun_fed text was is c.take.new.self c.fill.new.self c.take.new.line more (t.all refl) c.in_ok-fill.ensures.given in
    let least : 0 ≤ 1 = omega arith in
    wider_feeds text (ahead c.fill.new.self is) 0 1 least (begun_feeds text (ahead c.fill.new.self is) c.take.new.line on)
