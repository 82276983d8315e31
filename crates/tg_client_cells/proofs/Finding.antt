-- Entries at positions.
use Rattle.std.proofs.Common.{◌≡◌, ◌≢◌, ℕ, Bool, true, false, cond, ◌&&◌, ◌||◌, List, [], ◌∷◌, ◌++◌, filter, nat_lt, Option, Some, None, refl, sym, ap, subst, ◌∙◌, inl, inr, arith}
use Rattle.std.specs.Prelude.{nat_le}
use Rattle.std.specs.List.{list_all}
use Rattle.std.proofs.lemmas.Bool.{cases_eq}
use Rattle.std.proofs.lemmas.List.{append_assoc}
use Rattle.std.proofs.lemmas.Bool.Decides.{nat_tests}
use Rattle.tg_base.specs.declared.cell.Cell.{Cell}
use Rattle.tg_base.specs.declared.cell.Cell.TheVariants.{Junk, Data}
use Rattle.tg_entry.specs.declared.entry.Entry.{Entry}
use Rattle.tg_protocol.specs.Words.{has_num, cell_at}
use Rattle.tg_protocol.specs.Entries.{is_commit}
use Rattle.tg_protocol.specs.Pages.{entry_of, cell_entry}
use Rattle.tg_protocol.specs.Views.{Entries, entry_if}
use Rattle.tg_protocol.specs.Past.{commit_at}
use Rattle.tg_client_cells.specs.Words.{entries_at, entries_from, commits_by, commit_by, commit_of, below, within, is_within}
use Rattle.tg_client_cells.specs.Known.{settles, IsSettled, CommitsBelow}

pub put_if : (p : ℕ) (x : Option Entry) (es : Entries) → entry_if p x [] ++ es ≡ entry_if p x es
put_if p None es = refl
put_if p (Some e) es = refl

-- the entry at one position more
pub one_entry : (cells : List (ℕ × Cell)) (p : ℕ) (ps : List ℕ) (x : Option Entry) (old new whole : Entries) → x ≡ cell_entry (cell_at cells p) → new ≡ old ++ entry_if p x [] → old ++ entries_at cells (p ∷ ps) ≡ whole → new ++ entries_at cells ps ≡ whole
one_entry cells p ps x old new whole is put so_far =
    ap (λ (es : Entries). es ++ entries_at cells ps) put
    ∙ append_assoc old (entry_if p x []) (entries_at cells ps)
    ∙ ap (λ (es : Entries). old ++ es) (put_if p x (entries_at cells ps) ∙ ap (λ (y : Option Entry). entry_if p y (entries_at cells ps)) is)
    ∙ so_far

-- ---- filtered

filter-if : (f : ℕ → Bool) (p : ℕ) (x : Option Entry) (es : Entries) (b : Bool) → f p ≡ b → cond b (entry_if p x (filter (λ (y : ℕ × Entry). f y.0) es)) (filter (λ (y : ℕ × Entry). f y.0) es) ≡ filter (λ (y : ℕ × Entry). f y.0) (entry_if p x es)
filter-if f p None es true h = refl
filter-if f p None es false h = refl
filter-if f p (Some e) es true h = ap (λ b. cond b ((p, e) ∷ filter (λ (y : ℕ × Entry). f y.0) es) (filter (λ (y : ℕ × Entry). f y.0) es)) (sym h)
filter-if f p (Some e) es false h = ap (λ b. cond b ((p, e) ∷ filter (λ (y : ℕ × Entry). f y.0) es) (filter (λ (y : ℕ × Entry). f y.0) es)) (sym h)

at-if : (cells : List (ℕ × Cell)) (p : ℕ) (ps : List ℕ) (b : Bool) → entries_at cells (cond b (p ∷ ps) ps) ≡ cond b (entry_if p (cell_entry (cell_at cells p)) (entries_at cells ps)) (entries_at cells ps)
at-if cells p ps true = refl
at-if cells p ps false = refl

pub at_filter : (f : ℕ → Bool) (cells : List (ℕ × Cell)) (ps : List ℕ) → entries_at cells (filter f ps) ≡ filter (λ (y : ℕ × Entry). f y.0) (entries_at cells ps)
at_filter f cells [] = refl
at_filter f cells (p ∷ ps) =
    at-if cells p (filter f ps) (f p)
    ∙ ap (λ (l : Entries). cond (f p) (entry_if p (cell_entry (cell_at cells p)) l) l) (at_filter f cells ps)
    ∙ filter-if f p (cell_entry (cell_at cells p)) (entries_at cells ps) (f p) refl

-- a range is what is below its end, from its beginning on
split-if : (low high p : ℕ) (ps : List ℕ) (a b : Bool) → nat_le low p ≡ a → nat_lt p high ≡ b → within low high ps ≡ filter (λ q. nat_le low q) (below high ps) →
    within low high (p ∷ ps) ≡ filter (λ q. nat_le low q) (below high (p ∷ ps))
split-if low high p ps true true e f h = grind arith
split-if low high p ps true false e f h = grind arith
split-if low high p ps false true e f h = grind arith
split-if low high p ps false false e f h = grind arith

pub within_from : (low high : ℕ) (ps : List ℕ) → within low high ps ≡ filter (λ q. nat_le low q) (below high ps)
within_from low high [] = refl
within_from low high (p ∷ ps) = split-if low high p ps (nat_le low p) (nat_lt p high) refl refl (within_from low high ps)

pub within_zero : (high : ℕ) (ps : List ℕ) → within 0 high ps ≡ below high ps
within_zero high [] = refl
within_zero high (p ∷ ps) =
    let is : is_within 0 high p ≡ nat_lt p high = grind (arith, nat_tests) in
    ap (λ b. cond b (p ∷ within 0 high ps) (within 0 high ps)) is ∙ ap (λ (l : List ℕ). cond (nat_lt p high) (p ∷ l) l) (within_zero high ps)

pub new_at : (low high : ℕ) (cells : List (ℕ × Cell)) (ps : List ℕ) → entries_at cells (within low high ps) ≡ entries_from low (entries_at cells (below high ps))
new_at low high cells ps = ap (entries_at cells) (within_from low high ps) ∙ at_filter (λ q. nat_le low q) cells (below high ps)

-- ---- commit records

-- of an entry at the position
commit-by : (e : Entry) (es : Entries) (p q : ℕ) (b : Bool) → is_commit e ≡ b → q ≡ p → commit_at ((q, e) ∷ es) p ≡ cond b (Some e) (commit_at es p)
unfolding commit_at
commit-by e es p q true h same = grind (arith, nat_tests)
commit-by e es p q false h same = grind (arith, nat_tests)

commit-past : (e : Entry) (es : Entries) (p q : ℕ) → q ≢ p → commit_at ((q, e) ∷ es) p ≡ commit_at es p
unfolding commit_at
commit-past e es p q other = grind (arith, nat_tests)

pub past-if : (x : Option Entry) (es : Entries) (p q : ℕ) → q ≢ p → commit_at (entry_if q x es) p ≡ commit_at es p
past-if None es p q other = refl
past-if (Some e) es p q other = commit-past e es p q other

commit-of : (e : Entry) (b : Bool) (rest : Option Entry) (has : Bool) → is_commit e ≡ b → rest ≡ cond has (commit_by b e) None → cond b (Some e) rest ≡ commit_by b e
commit-of e true rest has h r = refl
commit-of e false rest true h r = r
commit-of e false rest false h r = r

here-if : (x : Option Entry) (es : Entries) (p q : ℕ) (has : Bool) → q ≡ p → commit_at es p ≡ cond has (commit_of x) None → commit_at (entry_if q x es) p ≡ commit_of x
here-if None es p q true same h = h
here-if None es p q false same h = h
here-if (Some e) es p q has same h = commit-by e es p q (is_commit e) refl same ∙ commit-of e (is_commit e) (commit_at es p) has refl h

pub commit_found : (cells : List (ℕ × Cell)) (ps : List ℕ) (p : ℕ) → commit_at (entries_at cells ps) p ≡ cond (has_num p ps) (commit_of (cell_entry (cell_at cells p))) None
unfolding commit_at
commit_found cells [] p = refl
commit_found cells (q ∷ ps) p =
    elim (cases_eq q p) [
      | inl same ↦
          let met : has_num p (q ∷ ps) ≡ true = grind (arith, nat_tests) in
          ap (λ n. commit_at (entry_if q (cell_entry (cell_at cells n)) (entries_at cells ps)) p) same
          ∙ here-if (cell_entry (cell_at cells p)) (entries_at cells ps) p q (has_num p ps) same (commit_found cells ps p)
          ∙ ap (λ b. cond b (commit_of (cell_entry (cell_at cells p))) None) (sym met)
      | inr other ↦
          let past : has_num p (q ∷ ps) ≡ has_num p ps = grind (arith, nat_tests) in
          past-if (cell_entry (cell_at cells q)) (entries_at cells ps) p q other
          ∙ commit_found cells ps p
          ∙ ap (λ b. cond b (commit_of (cell_entry (cell_at cells p))) None) (sym past)
    ]

pub has_below : (p high : ℕ) (ps : List ℕ) → has_num p (below high ps) ≡ (nat_lt p high && has_num p ps)
has_below p high [] = grind arith
has_below p high (q ∷ ps) = below-by p q high ps (nat_lt q high) refl (has_below p high ps)
  where
    below-by : (p q high : ℕ) (ps : List ℕ) (b : Bool) → nat_lt q high ≡ b → has_num p (below high ps) ≡ (nat_lt p high && has_num p ps) → has_num p (below high (q ∷ ps)) ≡ (nat_lt p high && has_num p (q ∷ ps))
    below-by p q high ps true h more = grind (arith, nat_tests)
    below-by p q high ps false h more = grind (arith, nat_tests)

-- ---- settled cells

looked : (P : ℕ × Cell → Bool) (cells : List (ℕ × Cell)) (p : ℕ) (c : Cell) → list_all P cells ≡ true → cell_at cells p ≡ Some c → P (p, c) ≡ true
looked P [] p c h is = absurd cc
looked P (e ∷ cells) p c h is =
    let head : P e ≡ true = grind arith in
    let tail : list_all P cells ≡ true = grind arith in
    elim (cases_eq e.0 p) [
      | inl same ↦
          let found : cell_at (e ∷ cells) p ≡ Some e.1 = grind (arith, nat_tests) in
          let one : Some e.1 ≡ Some c = sym found ∙ is in
          let cell : e.1 ≡ c = cc in
          subst (λ (x : ℕ × Cell). P x ≡ true) (pair e p c same cell) head
      | inr other ↦ let past : cell_at (e ∷ cells) p ≡ cell_at cells p = grind (arith, nat_tests) in looked P cells p c tail (sym past ∙ is)
    ]
  where
    pair : (e : ℕ × Cell) (p : ℕ) (c : Cell) → e.0 ≡ p → e.1 ≡ c → ◌≡◌ {A = ℕ × Cell} e (p, c)
    pair e p c a b = ap (λ (n : ℕ). (n, e.1)) a ∙ ap (λ (x : Cell). (p, x)) b

settled-page : (own : List ℕ) (s p : ℕ) (d : List ℕ) (e : Entry) → settles own s (p, Data d) ≡ true → entry_of d ≡ Some e → (nat_le s p || is_commit e) ≡ true
settled-page own s p d e h is = by (nat_le s p) (has_num p own) refl refl
  where
    by : (a b : Bool) → nat_le s p ≡ a → has_num p own ≡ b → (nat_le s p || is_commit e) ≡ true
    by true b x y = ap (λ t. t || is_commit e) x
    by false true x y =
        let commit : commits_by (entry_of d) ≡ true = grind arith in
        ap (λ t. t || is_commit e) x ∙ subst (λ o. commits_by o ≡ true) is commit
    by false false x y = absurd (grind arith)

commits-if : (own : List ℕ) (s p : ℕ) (c : Option Cell) (x : Option Entry) (es : Entries) → ((d : Cell) → c ≡ Some d → settles own s (p, d) ≡ true) → cell_entry c ≡ x → CommitsBelow s es → CommitsBelow s (entry_if p x es)
commits-if own s p c None es h is more = more
commits-if own s p None (Some e) es h is more = absurd cc
commits-if own s p (Some Junk) (Some e) es h is more = absurd cc
commits-if own s p (Some (Data d)) (Some e) es h is more =
    let one : (nat_le s p || is_commit e) ≡ true = settled-page own s p d e (h (Data d) refl) is in
    rw one more

pub commits_at : (own : List ℕ) (s : ℕ) (cells : List (ℕ × Cell)) (ps : List ℕ) → IsSettled own s cells → CommitsBelow s (entries_at cells ps)
commits_at own s cells [] h = refl
commits_at own s cells (p ∷ ps) h =
    commits-if own s p (cell_at cells p) (cell_entry (cell_at cells p)) (entries_at cells ps) (λ d is. looked (settles own s) cells p d h is) refl (commits_at own s cells ps h)
