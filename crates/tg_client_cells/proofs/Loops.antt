-- What loops over lists leave.
use Rattle.std.proofs.Common.{◌≡◌, ℕ, ◌+◌, ◌-◌, ◌<◌, ◌≤◌, List, ◌∷◌, length, get_or, drop, sym, ap, ◌∙◌, arith}
use Rattle.std.specs.Ordering.{nat_cmp}
use Rattle.std.specs.BTreeMap.{is_at}
use Rattle.std.specs.Map.{remove_entry}
use Rattle.std.proofs.lemmas.List.{drop_more}
use Rattle.tg_base.specs.declared.cell.Cell.{Cell}
use Rattle.tg_client_cells.specs.Pruned.{without}

drop_item : (xs : List ℕ) (i : ℕ) → i < length xs → drop i xs ≡ get_or xs i 0 ∷ drop (i + 1) xs
drop_item xs i lt = drop_more xs i 0 lt

-- without one position more, from the last on
pub one_more : (ps : List ℕ) (i : ℕ) (all now next : List (ℕ × Cell)) → 0 < i → i ≤ length ps → now ≡ without (drop i ps) all → next ≡ remove_entry (is_at (nat_cmp (get_or ps (i - 1) 0))) now → next ≡ without (drop (i - 1) ps) all
one_more ps i all now next some within was put =
    let same : (i - 1) + 1 ≡ i = omega (arith, some) in
    put
    ∙ ap (remove_entry (is_at (nat_cmp (get_or ps (i - 1) 0)))) (was ∙ ap (λ n. without (drop n ps) all) (sym same))
    ∙ ap (λ (l : List ℕ). without l all) (sym (drop_item ps (i - 1) (omega (arith, some, within))))
