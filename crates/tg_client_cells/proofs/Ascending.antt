-- Entries that are put in order.
use Rattle.std.proofs.Common.{◌≡◌, ℕ, Bool, true, ◌&&◌, List, [], ◌∷◌, ◌++◌, nat_lt, Option, Some, None, refl, ap, ◌∙◌, arith}
use Rattle.std.specs.List.{list_all}
use Rattle.std.proofs.lemmas.List.{append-nil}
use Rattle.tg_entry.specs.declared.entry.Entry.{Entry}
use Rattle.tg_entry.specs.Drafts.{all_below}
use Rattle.tg_protocol.specs.Views.{Entries, entry_if}
use Rattle.tg_client_cells.specs.Words.{rises}

-- the positions that are left rise, and all entries stand below each
abbrev pub left_above : Entries → List ℕ → Bool
left_above es ps = rises ps && list_all (λ q. all_below q es) ps

below-last : (q p : ℕ) (e : Entry) (es : Entries) → all_below q es ≡ true → nat_lt p q ≡ true → all_below q (es ++ (p, e) ∷ []) ≡ true
below-last q p e [] h lt = rw lt refl
below-last q p e (x ∷ es) h lt =
    let head : nat_lt x.0 q ≡ true = grind arith in
    let tail : all_below q es ≡ true = grind arith in
    rw head (below-last q p e es tail lt)

below-put : (q p : ℕ) (x : Option Entry) (es : Entries) → all_below q es ≡ true → nat_lt p q ≡ true → all_below q (es ++ entry_if p x []) ≡ true
below-put q p None es h lt = ap (all_below q) (append-nil es) ∙ h
below-put q p (Some e) es h lt = below-last q p e es h lt

below-all : (p : ℕ) (x : Option Entry) (es : Entries) (ps : List ℕ) → list_all (λ q. nat_lt p q) ps ≡ true → list_all (λ q. all_below q es) ps ≡ true → list_all (λ q. all_below q (es ++ entry_if p x [])) ps ≡ true
below-all p x es [] lt h = refl
below-all p x es (q ∷ ps) lt h =
    let lt-one : nat_lt p q ≡ true = grind arith in
    let lt-more : list_all (λ r. nat_lt p r) ps ≡ true = grind arith in
    let one : all_below q es ≡ true = grind arith in
    let more : list_all (λ r. all_below r es) ps ≡ true = grind arith in
    rw (below-put q p x es one lt-one) (below-all p x es ps lt-more more)

pub above_next : (es new : Entries) (x : Option Entry) (p : ℕ) (ps : List ℕ) → new ≡ es ++ entry_if p x [] → left_above es (p ∷ ps) ≡ true → left_above new ps ≡ true
above_next es new x p ps put h =
    let over : list_all (λ q. nat_lt p q) ps ≡ true = grind arith in
    let rest : rises ps ≡ true = grind arith in
    let more : list_all (λ q. all_below q es) ps ≡ true = grind arith in
    ap (λ (l : Entries). left_above l ps) put ∙ ap (λ b. b && list_all (λ q. all_below q (es ++ entry_if p x [])) ps) rest ∙ below-all p x es ps over more

none-above : (ps : List ℕ) → list_all (λ q. all_below q []) ps ≡ true
none-above [] = refl
none-above (p ∷ ps) = none-above ps

pub above_none : (ps : List ℕ) → rises ps ≡ true → left_above [] ps ≡ true
above_none ps h = ap (λ b. b && list_all (λ q. all_below q []) ps) h ∙ none-above ps

-- the next one stands above all entries
pub next_over : (es : Entries) (p : ℕ) (ps : List ℕ) → left_above es (p ∷ ps) ≡ true → all_below p es ≡ true
next_over es p ps h = grind arith
