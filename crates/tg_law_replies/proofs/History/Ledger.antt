-- The committed writes of a log below a position, the last one first.
use Rattle.std.proofs.Common.{◌≡◌, ℕ, ◌+◌, ◌<◌, ◌≤◌, List, [], ◌∷◌, Bool, true, false, refl, sym, ap, ◌∙◌, subst, inl, inr, arith}
use Rattle.std.specs.Prelude.{nat_lt, if◌then◌else◌}
use Rattle.tg_entry.specs.declared.entry.WriteOp.{WriteOp}
use Rattle.tg_entry.specs.declared.entry.Entry.{Entry}
use Rattle.tg_kind.specs.Meaning.{Meaning}
use Rattle.tg_entry.specs.Needs.{writes_of}
use Rattle.tg_protocol.specs.Versions.{PartVersion}
use Rattle.tg_protocol.specs.Views.{Entries}
use Rattle.tg_protocol.specs.Logs.{change_of, commits_after, with_changes, changes_after, changes_below}
use Rattle.tg_law_replies.specs.Plays.Sound.{rise_from}
use Rattle.tg_law_replies.proofs.History.Members.{Has, of_lt, of_not_lt, lt_of, not_lt}

pub rises_next : (r : ℕ) (x : ℕ × Entry) (xs : Entries) → rise_from r (x ∷ xs) ≡ true → (r ≤ x.0) × (rise_from (x.0 + 1) xs ≡ true)
rises_next r x xs h = grind arith

pub rises_here : (r : ℕ) (x : ℕ × Entry) (xs : Entries) → rise_from r (x ∷ xs) ≡ true → rise_from x.0 (x ∷ xs) ≡ true
rises_here r x xs h = grind arith

-- the entries of a rising list stand at or past its first position
pub has_from : (r : ℕ) (es : Entries) (x : ℕ × Entry) → rise_from r es ≡ true → Has es x → r ≤ x.0
has_from r [] x h i = absurd i
has_from r (y ∷ es) x h (inl e) = let n = (rises_next r y es h).0 in let is = ap (λ (z : ℕ × Entry). z.0) e in omega (arith, n, is)
has_from r (y ∷ es) x h (inr i) = let n = rises_next r y es h in let first = n.0 in let rest = has_from (y.0 + 1) es x n.1 i in omega (arith, first, rest)

-- each position has one entry
pub one_entry : (r : ℕ) (es : Entries) (p : ℕ) (d e : Entry) → rise_from r es ≡ true → Has es (p, d) → Has es (p, e) → d ≡ e
one_entry r [] p d e h i j = absurd i
one_entry r (y ∷ es) p d e h (inl a) (inl b) = ap (λ (z : ℕ × Entry). z.1) (a ∙ sym b)
one_entry r (y ∷ es) p d e h (inl a) (inr j) =
    let rest = has_from (y.0 + 1) es (p, e) (rises_next r y es h).1 j in let is : p ≡ y.0 = ap (λ (z : ℕ × Entry). z.0) a in absurd (omega (arith, rest, is))
one_entry r (y ∷ es) p d e h (inr i) (inl b) =
    let rest = has_from (y.0 + 1) es (p, d) (rises_next r y es h).1 i in let is : p ≡ y.0 = ap (λ (z : ℕ × Entry). z.0) b in absurd (omega (arith, rest, is))
one_entry r (y ∷ es) p d e h (inr i) (inr j) = one_entry (y.0 + 1) es p d e (rises_next r y es h).1 i j

module _ (m : Meaning) where
  abbrev pub Ledger : Type 0
  Ledger = List (ℕ × WriteOp)

  -- as changes
  abbrev pub noted : Ledger → List PartVersion
  noted [] = []
  noted (x ∷ xs) = change_of m x.0 x.1 ∷ noted xs

  abbrev pub with_writes : ℕ → List WriteOp → Ledger → Ledger
  with_writes p [] xs = xs
  with_writes p (w ∷ ws) xs = with_writes p ws ((p, w) ∷ xs)

  abbrev pub after : Ledger → ℕ → Entry → Ledger
  after xs p e = if commits_after m (noted xs) e then with_writes p (writes_of e) xs else xs

  unfoldable pub below : Ledger → Entries → ℕ → Ledger
  below xs [] n = xs
  below xs (x ∷ es) n = if nat_lt x.0 n then below (after xs x.0 x.1) es n else xs

  -- its changes are the log's

  noted_with : (p : ℕ) (ws : List WriteOp) (xs : Ledger) → noted (with_writes p ws xs) ≡ with_changes m p ws (noted xs)
  noted_with p [] xs = refl
  noted_with p (w ∷ ws) xs = noted_with p ws ((p, w) ∷ xs)

  pub noted_after : (p : ℕ) (e : Entry) (xs : Ledger) → noted (after xs p e) ≡ changes_after m (noted xs) p e
  noted_after p e xs = by (commits_after m (noted xs) e)
    where
      by : (b : Bool) → noted (if b then with_writes p (writes_of e) xs else xs) ≡ (if b then with_changes m p (writes_of e) (noted xs) else noted xs)
      by true = noted_with p (writes_of e) xs
      by false = refl

  pub noted_below : (xs : Ledger) (es : Entries) (n : ℕ) → noted (below xs es n) ≡ changes_below m (noted xs) es n
  unfolding below changes_below
  noted_below xs [] n = refl
  noted_below xs (x ∷ es) n = by (nat_lt x.0 n) (noted_below (after xs x.0 x.1) es n ∙ ap (λ (ns : List PartVersion). changes_below m ns es n) (noted_after x.0 x.1 xs))
    where
      by : (b : Bool) → noted (below (after xs x.0 x.1) es n) ≡ changes_below m (changes_after m (noted xs) x.0 x.1) es n
          → noted (if b then below (after xs x.0 x.1) es n else xs) ≡ (if b then changes_below m (changes_after m (noted xs) x.0 x.1) es n else noted xs)
      by true rest = rest
      by false rest = refl

  -- Entries below a position, and others.

  pub on_below : (xs : Ledger) (x : ℕ × Entry) (es : Entries) (n : ℕ) → x.0 < n → below xs (x ∷ es) n ≡ below (after xs x.0 x.1) es n
  unfolding below
  on_below xs x es n less = ap (λ (b : Bool). if b then below (after xs x.0 x.1) es n else xs) (of_lt x.0 n less)

  pub none_below : (xs : Ledger) (r : ℕ) (es : Entries) (n : ℕ) → rise_from r es ≡ true → n ≤ r → below xs es n ≡ xs
  unfolding below
  none_below xs r [] n h le = refl
  none_below xs r (x ∷ es) n h le =
      let first = (rises_next r x es h).0 in ap (λ (b : Bool). if b then below (after xs x.0 x.1) es n else xs) (of_not_lt x.0 n (omega (arith, first, le)))

  -- past an entry
  pub below_next : (xs : Ledger) (r : ℕ) (es : Entries) (p : ℕ) (e : Entry) → rise_from r es ≡ true → Has es (p, e) → below xs es (p + 1) ≡ after (below xs es p) p e
  below_next xs r [] p e h i = absurd i
  below_next xs r (x ∷ es) p e h (inl is) = subst (λ (y : ℕ × Entry). below xs (x ∷ es) (y.0 + 1) ≡ after (below xs (x ∷ es) y.0) y.0 y.1) (sym is) at
    where
      none : below xs (x ∷ es) x.0 ≡ xs
      none = none_below xs x.0 (x ∷ es) x.0 (rises_here r x es h) (omega arith)

      at : below xs (x ∷ es) (x.0 + 1) ≡ after (below xs (x ∷ es) x.0) x.0 x.1
      at =
          on_below xs x es (x.0 + 1) (omega arith)
          ∙ (none_below (after xs x.0 x.1) (x.0 + 1) es (x.0 + 1) (rises_next r x es h).1 (omega arith) ∙ ap (λ (ys : Ledger). after ys x.0 x.1) (sym none))
  below_next xs r (x ∷ es) p e h (inr i) =
      let later = has_from (x.0 + 1) es (p, e) (rises_next r x es h).1 i in
      on_below xs x es (p + 1) (omega (arith, later))
      ∙ (below_next (after xs x.0 x.1) (x.0 + 1) es p e (rises_next r x es h).1 i
      ∙ ap (λ (ys : Ledger). after ys p e) (sym (on_below xs x es p (omega (arith, later)))))

  -- What holds of a ledger, and of it with each further committed write, holds of a later one.

  -- a committed write of the log from a position on and below another
  abbrev pub Steps : Ledger → Entries → ℕ → ℕ → (Ledger → Type 0) → Type 0
  Steps xs es low high P = (p : ℕ) (e : Entry) (w : WriteOp) (ys : Ledger) → Has es (p, e) → low ≤ p → p < high → commits_after m (noted (below xs es p)) e ≡ true →
      Has (writes_of e) w → P ys → P ((p, w) ∷ ys)

  with_each : (P : Ledger → Type 0) (p : ℕ) (ws : List WriteOp) (xs : Ledger) → ((w : WriteOp) (ys : Ledger) → Has ws w → P ys → P ((p, w) ∷ ys)) → P xs → P (with_writes p ws xs)
  with_each P p [] xs step h = h
  with_each P p (w ∷ ws) xs step h = with_each P p ws ((p, w) ∷ xs) (λ v ys i k. step v ys (inr i) k) (step w xs (inl refl) h)

  steps_on : (P : Ledger → Type 0) (xs : Ledger) (r : ℕ) (x : ℕ × Entry) (es : Entries) (low high : ℕ) → rise_from r (x ∷ es) ≡ true → Steps xs (x ∷ es) low high P
      → Steps (after xs x.0 x.1) es low high P
  steps_on P xs r x es low high h step p e w ys i le less c j k =
      let later = has_from (x.0 + 1) es (p, e) (rises_next r x es h).1 i in
      step p e w ys (inr i) le less (ap (λ (zs : Ledger). commits_after m (noted zs) e) (on_below xs x es p (omega (arith, later))) ∙ c) j k

  pub grow_from : (P : Ledger → Type 0) (xs : Ledger) (r : ℕ) (es : Entries) (low high : ℕ) → rise_from r es ≡ true → low ≤ r → Steps xs es low high P → P xs → P (below xs es high)
  unfolding below
  grow_from P xs r [] low high rise le step h = h
  grow_from P xs r (x ∷ es) low high rise le step h =
      let first = (rises_next r x es rise).0 in
      by (nat_lt x.0 high) refl (grow_from P (after xs x.0 x.1) (x.0 + 1) es low high (rises_next r x es rise).1 (omega (arith, first, le)) (steps_on P xs r x es low high rise step))
    where
      here : x.0 < high → (b : Bool) → commits_after m (noted xs) x.1 ≡ b → P (if b then with_writes x.0 (writes_of x.1) xs else xs)
      here less false c = h
      here less true c =
          let first = (rises_next r x es rise).0 in
          with_each P x.0 (writes_of x.1) xs
          (λ w ys i k. step x.0 x.1 w ys (inl refl) (omega (arith, first, le)) less
          (ap (λ (zs : Ledger). commits_after m (noted zs) x.1) (none_below xs x.0 (x ∷ es) x.0 (rises_here r x es rise) (omega arith)) ∙ c) i k) h

      by : (b : Bool) → nat_lt x.0 high ≡ b → (P (after xs x.0 x.1) → P (below (after xs x.0 x.1) es high)) → P (if b then below (after xs x.0 x.1) es high else xs)
      by true e rest = rest (here (lt_of x.0 high e) (commits_after m (noted xs) x.1) refl)
      by false e rest = h

  pub grow : (P : Ledger → Type 0) (xs : Ledger) (r : ℕ) (es : Entries) (low high : ℕ) → rise_from r es ≡ true → low ≤ high → Steps xs es low high P → P (below xs es low) → P (below xs es high)
  unfolding below
  grow P xs r [] low high rise le step h = h
  grow P xs r (x ∷ es) low high rise le step h =
      by (nat_lt x.0 low) refl (grow P (after xs x.0 x.1) (x.0 + 1) es low high (rises_next r x es rise).1 le (steps_on P xs r x es low high rise step)) h
    where
      by : (b : Bool) → nat_lt x.0 low ≡ b → (P (below (after xs x.0 x.1) es low) → P (below (after xs x.0 x.1) es high)) → P (if b then below (after xs x.0 x.1) es low else xs)
          → P (below xs (x ∷ es) high)
      by true e rest k = let less = lt_of x.0 low e in subst P (sym (on_below xs x es high (omega (arith, less, le)))) (rest k)
      by false e rest k = grow_from P xs x.0 (x ∷ es) low high (rises_here r x es rise) (not_lt x.0 low e) step k
