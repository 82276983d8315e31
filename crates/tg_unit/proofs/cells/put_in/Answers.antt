use Rattle.std.proofs.Common.{◌≡◌, ◌∙◌, ℕ, List, Some, refl, sym, ap, subst}
use Rattle.std.specs.Ordering.{nat_cmp}
use Rattle.std.specs.Map.{set_value}
use Rattle.std.specs.BTreeMap.{is_at}
use Rattle.std.proofs.lemmas.Result.{on_ok_weaker, on_err_weaker}
use Rattle.tg_unit.specs.declared.segment.Segment.{Segment}
use Rattle.tg_unit.specs.Segments.{cells_of, IsSegment, AreSegments}
use Rattle.tg_unit.proofs.Keys.{put}
use Rattle.tg_unit.proofs.Found.{found-whole, at-place}
use Rattle.tg_unit.proofs.Inserts.{set-same}
use Rattle.tg_unit.proofs.Puts.{on-ok-both, put-old, put-old-whole, put-new, put-new-whole}
use Rattle.tg_unit.proofs.cells.put_in.Goals as goal

pub put-requires-clause-whole : goal.put-requires-clause-whole
put-requires-clause-whole c = (found-whole c.args.segments.now.entries c.args.num 0 c.in-Some.segment.now (sym c.in-Some.ensures.value) c.requires.whole).0

pub put-requires-clause-free : goal.put-requires-clause-free
put-requires-clause-free c =
    sym (at-place c.args.segments.now.entries (cells_of c.args.segments.now.entries) c.args.num c.args.place (Some c.in-Some.segment.now) refl c.requires.whole c.requires.place (sym c.in-Some.ensures.value))
    ∙ c.requires.free

pub returns-in-Some-clause-cells : goal.returns-in-Some-clause-cells
returns-in-Some-clause-cells c =
    on_ok_weaker c.put.result
    (λ (cells : c.put.new.self.cells ≡ put c.in-Some.segment.now.cells c.args.place c.args.cell).
    ap cells_of (c.get_mut.follows.holds c.put.new.self).0
    ∙ put-old c.args.segments.now.entries c.args.num c.args.place c.args.cell c.in-Some.segment.now c.put.new.self c.requires.place (sym c.in-Some.ensures.value) c.requires.whole cells)
    c.put.ensures.cells

pub returns-in-Some-clause-whole : goal.returns-in-Some-clause-whole
returns-in-Some-clause-whole c =
    on-ok-both c.put.result (IsSegment c.put.new.self) (c.put.new.self.cells ≡ put c.in-Some.segment.now.cells c.args.place c.args.cell)
    (AreSegments 0 (c.get_mut.follows.lender c.put.new.self).entries)
    (λ whole cells.
    subst (AreSegments 0) (sym (c.get_mut.follows.holds c.put.new.self).0)
    (put-old-whole c.args.segments.now.entries c.args.num c.args.place c.args.cell c.in-Some.segment.now c.put.new.self c.requires.whole whole cells))
    c.put.ensures.whole c.put.ensures.cells

pub returns-in-Some-clause-err : goal.returns-in-Some-clause-err
returns-in-Some-clause-err c =
    on_err_weaker c.put.result
    (λ (same : c.put.new.self ≡ c.in-Some.segment.now).
    (c.get_mut.follows.holds c.put.new.self).0
    ∙ ap (set_value (is_at (nat_cmp c.args.num)) c.args.segments.now.entries) same
    ∙ set-same c.args.segments.now.entries c.args.num c.in-Some.segment.now (sym c.in-Some.ensures.value))
    c.put.ensures.err

pub returns-in_ok-insert-in-None-clause-cells : goal.returns-in_ok-insert-in-None-clause-cells
returns-in_ok-insert-in-None-clause-cells c =
    let stays = c.get_mut.follows.holds-at-none in
    let same : c.get_mut.follows.lender-at-none.entries ≡ c.args.segments.now.entries = cc in
    let seg = c.in_ok-segment-in-None.segment in
    ap cells_of (c.in_ok-insert-in-None.ensures.entries ∙ ap (λ (es : List (ℕ × Segment)). put es c.args.num seg) same)
    ∙ put-new c.args.segments.now.entries c.args.num c.args.place c.args.cell seg c.requires.place (sym c.in-None.ensures.value) c.requires.whole c.in_ok-segment-in-None.ensures.cells

pub returns-in_ok-insert-in-None-clause-whole : goal.returns-in_ok-insert-in-None-clause-whole
returns-in_ok-insert-in-None-clause-whole c =
    let stays = c.get_mut.follows.holds-at-none in
    let same : c.get_mut.follows.lender-at-none.entries ≡ c.args.segments.now.entries = cc in
    let seg = c.in_ok-segment-in-None.segment in
    subst (AreSegments 0) (sym (c.in_ok-insert-in-None.ensures.entries ∙ ap (λ (es : List (ℕ × Segment)). put es c.args.num seg) same))
    (put-new-whole c.args.segments.now.entries c.args.num c.args.place c.args.cell seg c.requires.near c.requires.whole c.in_ok-segment-in-None.ensures.whole c.in_ok-segment-in-None.ensures.cells)
