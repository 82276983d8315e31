use Rattle.std.proofs.Common.{◌≡◌, ◌∙◌, ℕ, List, ap, Some, cond, ◌∷◌, [], ◌++◌}
use Rattle.std.specs.Ordering.{nat_cmp}
use Rattle.std.specs.Cmp.Lexicographic.{slice_cmp}
use Rattle.std.specs.Str.{bytes_eq}
use Rattle.std.proofs.lemmas.Map.Text.{is_eq-slice_cmp}
use Rattle.tg_live.specs.Books.{found}
use Rattle.tg_live.proofs.Lookups.{found_insert}
use Rattle.tg_live.proofs.book.put_first.Goals as goal

pub returns-clause-ok : goal.returns-clause-ok
returns-clause-ok c = λ d.
    let key : c.extend_from_slice.new.self.items ≡ c.args.datagram.now = c.in_ok-extend_from_slice.ensures.items ∙ ap (λ (xs : List ℕ). xs ++ c.args.datagram.now) c.new-key.ensures.items in
    let first : c.in_ok-first.first ≡ record { to = c.args.to; numbers = c.args.number ∷ []; done = 0 } = c.in_ok-first.ensures in
    let put : found c.insert.new.self.entries d ≡ cond (bytes_eq c.extend_from_slice.new.self.items d) (Some c.in_ok-first.first) (found c.args.copies.now.entries d)
    = ap (λ es. found es d) c.in_ok-insert.ensures.entries ∙ found_insert c.args.copies.now.entries (λ x y. slice_cmp nat_cmp x.items y.items) c.extend_from_slice.new.self c.in_ok-first.first d (λ x y. is_eq-slice_cmp x.items y.items) in
    put ∙ ap (λ (k : List ℕ). cond (bytes_eq k d) (Some c.in_ok-first.first) (found c.args.copies.now.entries d)) key
    ∙ ap (λ f. cond (bytes_eq c.args.datagram.now d) (Some f) (found c.args.copies.now.entries d)) first
