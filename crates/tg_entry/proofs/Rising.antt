-- What is put last above all others keeps the order.
use Rattle.std.proofs.Common.{◌≡◌, ℕ, true, [], ◌∷◌, ◌++◌, refl}
use Rattle.std.specs.Prelude.{nat_lt}
use Rattle.tg_base.specs.Units.{is_rising}
use Rattle.tg_codec.proofs.Laws.{and-left, and-right, both}
use Rattle.tg_entry.specs.declared.entry.Entry.{Entry}
use Rattle.tg_entry.specs.Drafts.{Placed, positions, all_below}

pub still_rising : (es : Placed) (at : ℕ) (e : Entry) → is_rising (positions es) ≡ true → all_below at es ≡ true → is_rising (positions (es ++ (at, e) ∷ [])) ≡ true
still_rising [] at e h b = refl
still_rising (x ∷ []) at e h b = both _ _ (and-left _ _ b) refl
still_rising (x ∷ y ∷ es) at e h b =
    let first = and-left (nat_lt x.0 y.0) (is_rising (positions (y ∷ es))) h in
    let others = still_rising (y ∷ es) at e (and-right (nat_lt x.0 y.0) (is_rising (positions (y ∷ es))) h) (and-right (nat_lt x.0 at) (all_below at (y ∷ es)) b) in
    both (nat_lt x.0 y.0) (is_rising (positions ((y ∷ es) ++ (at, e) ∷ []))) first others
