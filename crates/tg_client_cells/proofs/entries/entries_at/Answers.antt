use Rattle.std.proofs.Common.{◌≡◌, ℕ, ◌+◌, List, ◌∷◌, ◌++◌, drop, get_or, ap, sym, ◌∙◌, arith}
use Rattle.std.proofs.lemmas.List.{append-nil, drop_more, drop_all}
use Rattle.tg_protocol.specs.Views.{Entries}
use Rattle.tg_client_cells.specs.Words.{entries_at, rises}
use Rattle.tg_client_cells.proofs.Ascending.{left_above, above_none, above_next, next_over}
use Rattle.tg_client_cells.proofs.Finding.{one_entry}
use Rattle.tg_client_cells.proofs.Spelled.{none_spelled, next_spelled}
use Rattle.tg_client_cells.proofs.entries.entries_at.Goals as goal

pub loop-pos-init : goal.loop-pos-init
loop-pos-init c =
    let cells = c.args.cells.now.entries in
    let all = c.as_slice-rising.result.now in
    record {
      put = ap (λ (es : Entries). es ++ entries_at cells all) c.new-entries.ensures ∙ ap (entries_at cells) c.as_slice-rising.ensures.positions;
      left = ap (λ (es : Entries). left_above es all) c.new-entries.ensures ∙ above_none all (ap rises c.as_slice-rising.ensures.positions ∙ c.as_slice-rising.ensures.rises);
      spelled = none_spelled c.new-entries.result c.new-entries.ensures;
    }

pub put_entry-requires : goal.put_entry-requires
put_entry-requires c =
    let all = c.as_slice-rising.result.now in
    let i = c.loop-pos.pos-index in
    let front : drop i all ≡ get_or all i 0 ∷ drop (i + 1) all = drop_more all i 0 c.loop-pos-test.true in
    next_over c.loop-pos.entries (get_or all i 0) (drop (i + 1) all) (ap (left_above c.loop-pos.entries) (sym front) ∙ c.loop-pos.invariant.left)

pub loop-pos-preserved : goal.loop-pos-preserved
loop-pos-preserved c =
    let cells = c.args.cells.now.entries in
    let all = c.as_slice-rising.result.now in
    let i = c.loop-pos.pos-index in
    let pos = get_or all i 0 in
    let old = c.loop-pos.entries in
    let new = c.put_entry.new.entries in
    let front : drop i all ≡ pos ∷ drop (i + 1) all = drop_more all i 0 c.loop-pos-test.true in
    record {
      put = one_entry cells pos (drop (i + 1) all) c.in_ok-entry.entry old new (entries_at cells c.args.positions.now) c.in_ok-entry.ensures.entry c.in_ok-put_entry.ensures
          (ap (λ (ps : List ℕ). old ++ entries_at cells ps) (sym front) ∙ c.loop-pos.invariant.put);
      left = above_next old new c.in_ok-entry.entry pos (drop (i + 1) all) c.in_ok-put_entry.ensures (ap (left_above old) (sym front) ∙ c.loop-pos.invariant.left);
      spelled = next_spelled old new c.in_ok-entry.entry pos c.in_ok-put_entry.ensures c.loop-pos.invariant.spelled c.in_ok-entry.ensures.spelled;
    }

pub returns-clause-entries : goal.returns-clause-entries
returns-clause-entries c =
    let cells = c.args.cells.now.entries in
    let es = c.loop-pos.entries in
    sym (append-nil es)
    ∙ sym (ap (λ (ps : List ℕ). es ++ entries_at cells ps) (drop_all c.loop-pos.pos-index c.as_slice-rising.result.now (omega (arith, c.loop-pos-test.false))))
    ∙ c.loop-pos.invariant.put
