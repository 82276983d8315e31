use Rattle.std.proofs.Common.{◌≡◌, ◌∙◌, [], ◌∷◌, ◌++◌, ap, sym, Some, None, cond}
use Rattle.std.specs.Ordering.{nat_cmp}
use Rattle.std.specs.Cmp.Lexicographic.{slice_cmp}
use Rattle.std.specs.BTreeMap.{is_at}
use Rattle.std.specs.Map.{set_value}
use Rattle.std.specs.Str.{bytes_eq}
use Rattle.std.proofs.lemmas.Map.Text.{is_eq-slice_cmp}
use Rattle.std.proofs.lemmas.Map.Steps.{set_value_same}
use Rattle.std.proofs.lemmas.Result.{on_ok_weaker, on_err_weaker}
use Rattle.tg_live.specs.Books.{found, with_number}
use Rattle.tg_live.proofs.Lookups.{found_set, found_at}
use Rattle.tg_live.proofs.book.put.Goals as goal

pub returns-in-Some-clause-ok : goal.returns-in-Some-clause-ok
returns-in-Some-clause-ok c = λ d.
    let at : found c.args.copies.now.entries c.args.datagram.now ≡ Some c.in-Some.equal.now = sym (found_at c.args.copies.now.entries c.args.datagram.now) ∙ sym c.in-Some.ensures.value in
    on_ok_weaker c.push.result
    (λ (e : c.push.new.self ≡ record c.in-Some.equal.now { numbers = c.in-Some.equal.now.numbers ++ c.args.number ∷ [] }).
    ap (λ es. found es d) (c.get_mut.follows.holds c.push.new.self).0
    ∙ found_set c.args.copies.now.entries (is_at (λ k. slice_cmp nat_cmp c.args.datagram.now k.items)) c.args.datagram.now d c.in-Some.equal.now c.push.new.self (λ k. is_eq-slice_cmp c.args.datagram.now k.items) at
    ∙ ap (λ f. cond (bytes_eq c.args.datagram.now d) (Some f) (found c.args.copies.now.entries d)) (e ∙ sym (ap (with_number c.args.to c.args.number) at)))
    c.push.ensures.ok

pub returns-in-Some-clause-err : goal.returns-in-Some-clause-err
returns-in-Some-clause-err c = λ d.
    on_err_weaker c.push.result
    (λ (same : c.push.new.self ≡ c.in-Some.equal.now).
    ap (λ es. found es d)
    ((c.get_mut.follows.holds c.push.new.self).0
    ∙ ap (set_value (is_at (λ k. slice_cmp nat_cmp c.args.datagram.now k.items)) c.args.copies.now.entries) same
    ∙ set_value_same (is_at (λ k. slice_cmp nat_cmp c.args.datagram.now k.items)) c.args.copies.now.entries c.in-Some.equal.now (sym c.in-Some.ensures.value)))
    c.push.ensures.err

pub returns-in-None-clause-ok : goal.returns-in-None-clause-ok
returns-in-None-clause-ok c = λ d.
    let none : found c.args.copies.now.entries c.args.datagram.now ≡ None = sym (found_at c.args.copies.now.entries c.args.datagram.now) ∙ sym c.in-None.ensures.value in
    on_ok_weaker c.put_first.result
    (λ (e : found c.put_first.new.copies.entries d ≡ cond (bytes_eq c.args.datagram.now d) (Some (with_number c.args.to c.args.number None)) (found c.get_mut.follows.lender-at-none.entries d)).
    e ∙ ap (λ m. cond (bytes_eq c.args.datagram.now d) (Some (with_number c.args.to c.args.number None)) (found m.entries d)) c.get_mut.follows.holds-at-none
    ∙ ap (λ o. cond (bytes_eq c.args.datagram.now d) (Some (with_number c.args.to c.args.number o)) (found c.args.copies.now.entries d)) (sym none))
    (c.put_first.ensures.ok d)
