use Rattle.std.proofs.Common.{◌≡◌, ◌∙◌, ℕ, List, ap, sym, Some, None, cond, true, false}
use Rattle.std.specs.Ordering.{nat_cmp}
use Rattle.std.specs.Cmp.Lexicographic.{slice_cmp}
use Rattle.std.specs.BTreeMap.{is_at}
use Rattle.std.proofs.lemmas.Map.Text.{is_eq-slice_cmp}
use Rattle.std.proofs.lemmas.Map.Steps.{set_value_same}
use Rattle.tg_base.specs.Orders.{node_eq}
use Rattle.tg_live.specs.Books.{found, answer, handed, next_of, after}
use Rattle.tg_live.proofs.Lookups.{found_set, found_at, at_key, unless_key}
use Rattle.tg_live.proofs.book.deliver.Goals as goal

pub returns-then-is_same-clause-number : goal.returns-then-is_same-clause-number
returns-then-is_same-clause-number c =
    let at : found c.args.copies.now.entries c.args.datagram.now ≡ Some c.in-Some.equal.now = sym (found_at c.args.copies.now.entries c.args.datagram.now) ∙ sym c.in-Some.ensures.value in
    let here : node_eq c.in-Some.equal.now.to c.args.node ≡ true = sym c.is_same.ensures.value ∙ c.if-is_same.true in
    c.deliver.ensures.number ∙ sym (ap (answer c.args.node) at ∙ ap (λ b. cond b (next_of c.in-Some.equal.now) None) here)

pub returns-then-is_same-clause-after : goal.returns-then-is_same-clause-after
returns-then-is_same-clause-after c = λ d.
    let at : found c.args.copies.now.entries c.args.datagram.now ≡ Some c.in-Some.equal.now = sym (found_at c.args.copies.now.entries c.args.datagram.now) ∙ sym c.in-Some.ensures.value in
    let here : node_eq c.in-Some.equal.now.to c.args.node ≡ true = sym c.is_same.ensures.value ∙ c.if-is_same.true in
    ap (λ es. found es d) (c.get_mut.follows.holds c.deliver.new.self).0
    ∙ found_set c.args.copies.now.entries (is_at (λ k. slice_cmp nat_cmp c.args.datagram.now k.items)) c.args.datagram.now d c.in-Some.equal.now c.deliver.new.self (λ k. is_eq-slice_cmp c.args.datagram.now k.items) at
    ∙ at_key c.args.datagram.now d (Some c.deliver.new.self) (handed c.args.node (found c.args.copies.now.entries d)) (found c.args.copies.now.entries d)
    (λ (e : c.args.datagram.now ≡ d).
    sym (ap (λ (x : List ℕ). handed c.args.node (found c.args.copies.now.entries x)) (sym e) ∙ ap (handed c.args.node) at ∙ ap (λ b. Some (cond b (after c.in-Some.equal.now) c.in-Some.equal.now)) here
    ∙ ap Some (sym c.deliver.ensures.after)))

pub returns-in-None-clause-number : goal.returns-in-None-clause-number
returns-in-None-clause-number c =
    let none : found c.args.copies.now.entries c.args.datagram.now ≡ None = sym (found_at c.args.copies.now.entries c.args.datagram.now) ∙ sym c.in-None.ensures.value in
    sym (ap (answer c.args.node) none)

pub returns-in-None-clause-after : goal.returns-in-None-clause-after
returns-in-None-clause-after c = λ d.
    let none : found c.args.copies.now.entries c.args.datagram.now ≡ None = sym (found_at c.args.copies.now.entries c.args.datagram.now) ∙ sym c.in-None.ensures.value in
    ap (λ m. found m.entries d) c.get_mut.follows.holds-at-none
    ∙ unless_key c.args.datagram.now d (handed c.args.node (found c.args.copies.now.entries d)) (found c.args.copies.now.entries d)
    (λ (e : c.args.datagram.now ≡ d).
    let gone : found c.args.copies.now.entries d ≡ None = ap (λ (x : List ℕ). found c.args.copies.now.entries x) (sym e) ∙ none in
    gone ∙ sym (ap (handed c.args.node) gone))

pub returns-else-is_same-clause-number : goal.returns-else-is_same-clause-number
returns-else-is_same-clause-number c =
    let at : found c.args.copies.now.entries c.args.datagram.now ≡ Some c.in-Some.equal.now = sym (found_at c.args.copies.now.entries c.args.datagram.now) ∙ sym c.in-Some.ensures.value in
    let there : node_eq c.in-Some.equal.now.to c.args.node ≡ false = sym c.is_same.ensures.value ∙ c.if-is_same.false in
    sym (ap (answer c.args.node) at ∙ ap (λ b. cond b (next_of c.in-Some.equal.now) None) there)

pub returns-else-is_same-clause-after : goal.returns-else-is_same-clause-after
returns-else-is_same-clause-after c = λ d.
    let at : found c.args.copies.now.entries c.args.datagram.now ≡ Some c.in-Some.equal.now = sym (found_at c.args.copies.now.entries c.args.datagram.now) ∙ sym c.in-Some.ensures.value in
    let there : node_eq c.in-Some.equal.now.to c.args.node ≡ false = sym c.is_same.ensures.value ∙ c.if-is_same.false in
    ap (λ es. found es d) ((c.get_mut.follows.holds c.in-Some.equal.now).0
    ∙ set_value_same (is_at (λ k. slice_cmp nat_cmp c.args.datagram.now k.items)) c.args.copies.now.entries c.in-Some.equal.now (sym c.in-Some.ensures.value))
    ∙ unless_key c.args.datagram.now d (handed c.args.node (found c.args.copies.now.entries d)) (found c.args.copies.now.entries d)
    (λ (e : c.args.datagram.now ≡ d).
    let here : found c.args.copies.now.entries d ≡ Some c.in-Some.equal.now = ap (λ (x : List ℕ). found c.args.copies.now.entries x) (sym e) ∙ at in
    here ∙ sym (ap (handed c.args.node) here ∙ ap (λ b. Some (cond b (after c.in-Some.equal.now) c.in-Some.equal.now)) there))
