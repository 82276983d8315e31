-- The law for lists behind a count, for texts, and for values behind a tag.
use Rattle.std.proofs.Common.{◌≡◌, ℕ, ◌<◌, ◌≤◌, max, min, Bool, true, false, cond, ◌||◌, List, [], ◌∷◌, ◌++◌, length, Err, refl, sym, ap, ◌∙◌, eqb, arith}
use Rattle.std.proofs.lemmas.Bool.{eqb-true, leb-true, ltb-true}
use Rattle.std.proofs.lemmas.List.{length-append}
use Rattle.tg_codec.proofs.Stops.{err_is}
use Rattle.tg_codec.specs.Reading.{meets}
use Rattle.tg_codec.specs.Codec.{Codec, u16, dep, many, behind, counted, text, tagged, never, from_table}
use Rattle.tg_codec.proofs.Laws.{IsExact, IsCodec, and-left, and-right, dep_exact, dep_law, via_exact, via_law, many_exact, many_law, raw_law, length-fit_many}
use Rattle.tg_codec.proofs.Widths.{u8_law, u16_law}

-- a first part that the second determines
paired : {A B : Type 0} (f : B → A) (p : A × B) → f p.1 ≡ p.0 → ◌≡◌ {A = A × B} (f p.1, p.1) p
paired f p e = λ i. (e i, p.1)

pub behind_exact : {X : Type 0} {count : Codec ℕ} {body : ℕ → Codec (List X)} → IsExact count → ((n : ℕ) → IsExact (body n)) → ((n : ℕ) (xs : List X) → (body n).fits xs ≡ true → length xs ≡ n) → IsExact (behind count body)
behind_exact count_law law len =
    via_exact (λ p. p.1) (λ xs. (length xs, xs)) (dep_exact count_law law) (λ p e. paired length p (len p.0 p.1 (and-right _ _ e))) (λ xs. refl)

pub behind_law : {X : Type 0} {count : Codec ℕ} {body : ℕ → Codec (List X)} → IsCodec count → ((n : ℕ) → IsCodec (body n)) → ((n : ℕ) (xs : List X) → (body n).fits xs ≡ true → length xs ≡ n) → IsCodec (behind count body)
behind_law count_law law len =
    via_law (λ p. p.1) (λ xs. (length xs, xs)) (dep_law count_law law) (λ p e. paired length p (len p.0 p.1 (and-right _ _ e))) (λ xs. refl)

pub behind_many_exact : {S X : Type 0} {count : Codec ℕ} (item : S → Codec X) (next : S → X → S) (start : ℕ → S) → IsExact count → ((s : S) → IsExact (item s)) → IsExact (behind count (λ n. many item next n (start n)))
behind_many_exact item next start count_law law =
    behind_exact count_law (λ n. many_exact item next law n (start n)) (λ n xs e. length-fit_many item next n (start n) xs e)

pub behind_many_law : {S X : Type 0} {count : Codec ℕ} (item : S → Codec X) (next : S → X → S) (start : ℕ → S) → IsCodec count → ((s : S) → IsCodec (item s)) → IsCodec (behind count (λ n. many item next n (start n)))
behind_many_law item next start count_law law =
    behind_law count_law (λ n. many_law item next law n (start n)) (λ n xs e. length-fit_many item next n (start n) xs e)

pub counted_law : {X : Type 0} (counts : List (ℕ × ℕ)) (body : ℕ → Codec (List X)) → ((n : ℕ) → IsCodec (body n)) → ((n : ℕ) (xs : List X) → (body n).fits xs ≡ true → length xs ≡ n) → IsCodec (counted counts body)
counted_law counts body law len = behind_law (u8_law counts) law len

pub text_law : (lengths : List (ℕ × ℕ)) → IsCodec (text lengths)
text_law lengths = behind_law (u16_law lengths) raw_law (λ n xs e. eqb-true _ _ e)

pub tagged_law : {X : Type 0} (tags : List (ℕ × ℕ)) (tag : X → ℕ) (body : ℕ → Codec X) → ((t : ℕ) → IsCodec (body t)) → ((t : ℕ) (x : X) → meets tags t t ≡ true → (body t).fits x ≡ true → tag x ≡ t) → IsCodec (tagged tags tag body)
tagged_law tags tag body law is =
    via_law (λ p. p.1) (λ x. (tag x, x)) (dep_law (u8_law tags) law) (λ p e. paired tag p (is p.0 p.1 (and-left _ _ (and-left _ _ e)) (and-right _ _ e))) (λ x. refl)

pub counted_many_law : {S X : Type 0} (counts : List (ℕ × ℕ)) (item : S → Codec X) (next : S → X → S) (start : ℕ → S) → ((s : S) → IsCodec (item s)) → IsCodec (counted counts (λ n. many item next n (start n)))
counted_many_law counts item next start law = behind_many_law item next start (u8_law counts) law

never_law : {X : Type 0} → IsCodec (never {X = X})
never_law {X} = record {
  exact = record { takes = λ bytes x rest fits e. absurd cc; again = λ x rest e. absurd cc };
  stops = record {
    within_ok = λ x v rest e. absurd cc;
    within_err = λ x left e. let same : length x ≡ left = err_is {A = X × List ℕ} _ _ e in omega (arith, same);
    cut_ok = λ x y v rest e. absurd cc;
    cut_err = λ x y left e. let same : length (x ++ y) ≡ left = err_is {A = X × List ℕ} _ _ e in ap (λ k. Err k) (omega (arith, same, length-append x y));
  };
}

-- each format of the table keeps the law, and has the values of its tag alone
abbrev pub IsTable : {X : Type 0} → (X → ℕ) → List (ℕ × Codec X) → Type 0
IsTable tag [] = Unit {0}
IsTable {X} tag (e ∷ es) = (IsCodec e.1 × ((x : X) → e.1.fits x ≡ true → tag x ≡ e.0)) × IsTable tag es

pub chosen_law : {X : Type 0} (b : Bool) (c d : Codec X) → IsCodec c → IsCodec d → IsCodec (cond b c d)
chosen_law true c d p q = p
chosen_law false c d p q = q

pub chosen_len : {X : Type 0} (b : Bool) (c d : Codec (List X)) (xs : List X) (n : ℕ) → (c.fits xs ≡ true → length xs ≡ n) → (d.fits xs ≡ true → length xs ≡ n) → (cond b c d).fits xs ≡ true → length xs ≡ n
chosen_len true c d xs n p q e = p e
chosen_len false c d xs n p q e = q e

chosen_tag : {X : Type 0} (b : Bool) (c d : Codec X) (x : X) (n m t : ℕ) → eqb t n ≡ b → (c.fits x ≡ true → m ≡ n) → (d.fits x ≡ true → m ≡ t) → (cond b c d).fits x ≡ true → m ≡ t
chosen_tag true c d x n m t is p q e = p e ∙ sym (eqb-true _ _ is)
chosen_tag false c d x n m t is p q e = q e

pub table_law : {X : Type 0} (tag : X → ℕ) (es : List (ℕ × Codec X)) → IsTable tag es → (t : ℕ) → IsCodec (from_table es t)
table_law tag [] h t = never_law
table_law tag (e ∷ es) h t = chosen_law (eqb t e.0) e.1 (from_table es t) h.0.0 (table_law tag es h.1 t)

pub table_tag : {X : Type 0} (tag : X → ℕ) (es : List (ℕ × Codec X)) → IsTable tag es → (t : ℕ) (x : X) → (from_table es t).fits x ≡ true → tag x ≡ t
table_tag tag [] h t x e = absurd cc
table_tag tag (e ∷ es) h t x f = chosen_tag (eqb t e.0) e.1 (from_table es t) x e.0 (tag x) t refl (h.0.1 x) (table_tag tag es h.1 t x) f

-- ---- what fits

or-false : (a : Bool) → (a || false) ≡ true → a ≡ true
or-false true e = refl
or-false false e = absurd cc

-- a number from one range
pub met_within : (low high n : ℕ) → meets ((low, high) ∷ []) n n ≡ true → (low ≤ n) × (n ≤ high)
met_within low high n e =
    let le : max low n ≤ min high n = leb-true _ _ (or-false _ e) in
    (omega (arith, le), omega (arith, le))

pub counted_len : {X : Type 0} (counts : List (ℕ × ℕ)) (body : ℕ → Codec (List X)) (xs : List X) → (counted counts body).fits xs ≡ true → length xs < 256
counted_len counts body xs e = ltb-true _ _ (and-right _ _ (and-left _ _ e))

pub behind_u16_len : {X : Type 0} (counts : List (ℕ × ℕ)) (body : ℕ → Codec (List X)) (xs : List X) → (behind (u16 counts) body).fits xs ≡ true → length xs < 65536
behind_u16_len counts body xs e = ltb-true _ _ (and-right _ _ (and-left _ _ e))

-- both parts of a pair that fits do
pub dep_first : {A B : Type 0} (a : Codec A) (b : A → Codec B) (p : A × B) → (dep a b).fits p ≡ true → a.fits p.0 ≡ true
dep_first a b p e = and-left (a.fits p.0) ((b p.0).fits p.1) e

pub dep_second : {A B : Type 0} (a : Codec A) (b : A → Codec B) (p : A × B) → (dep a b).fits p ≡ true → (b p.0).fits p.1 ≡ true
dep_second a b p e = and-right (a.fits p.0) ((b p.0).fits p.1) e
