-- What is read is spelled so, and what is spelled so is read, for each word that formats are made of.
use Rattle.std.proofs.Common.{◌≡◌, ℕ, zero, suc, ◌+◌, ◌<◌, ◌≤◌, Bool, true, false, cond, eqb, ltb, ◌&&◌, List, [], ◌∷◌, ◌++◌, length, get_or, take, drop, Option, Some, None, Result, Ok, Err, refl, sym, ap, subst, ◌∙◌, append_assoc, arith, inl, inr}
use Rattle.std.proofs.lemmas.Bool.{cases_lt, ltb-false, le-ltb, eqb-true}
use Rattle.std.proofs.lemmas.List.{take_at, drop_at, take-append-drop, length-append, length-take, get_or-drop, get_or_past, get_or_append_left}
use Rattle.tg_codec.specs.Reading.{Read, ◌>>=◌, raw_at, fixed_at}
use Rattle.tg_codec.proofs.Stops.{Stops, nothing_stops, raw_stops, fixed_stops, dep_stops, via_stops, many_stops, variant_stops}
use Rattle.tg_codec.specs.Codec.{Codec, raw, nothing, fixed, dep, via, narrow, many, read_many, spell_many, fit_many, from_option, variant, only_if, tested}

abbrev pub IsBytes : List ℕ → Type 0
IsBytes bytes = (i : ℕ) → get_or bytes i 0 < 256

pub IsBytes-drop : (n : ℕ) (bytes : List ℕ) → IsBytes bytes → IsBytes (drop n bytes)
IsBytes-drop n bytes h i = rw get_or-drop (h (n + i))

pub IsBytes-front : (bytes front rest : List ℕ) → bytes ≡ front ++ rest → IsBytes bytes → IsBytes front
IsBytes-front bytes front rest e h i =
    elim (cases_lt i (length front)) [
      | inl lt ↦ let at : get_or (front ++ rest) i 0 ≡ get_or front i 0 = get_or_append_left front rest 0 i lt in subst (λ n. n < 256) at (subst (λ (t : List ℕ). get_or t i 0 < 256) e (h i))
      | inr le ↦ rw (get_or_past front i 0 le) (omega arith)
    ]

-- what was taken from the front
pub record Takes (bytes text rest : List ℕ) : Type 0 where
  pub parts : bytes ≡ text ++ rest
  pub rest_fits : IsBytes rest

Takes-then : (a x b y c : List ℕ) → Takes a x b → Takes b y c → Takes a (x ++ y) c
Takes-then a x b y c p q = record { parts = p.parts ∙ ap (λ (t : List ℕ). x ++ t) q.parts ∙ sym (append_assoc x y c); rest_fits = q.rest_fits }

abbrev done : {A : Type 0} → A → Result A ℕ
done x = Ok x

ok_is : {A : Type 0} (x y : A) → done x ≡ done y → x ≡ y
ok_is x y e = cc

-- The law of every format.
pub record IsExact {A : Type 0} (c : Codec A) : Type 0 where
  -- what is read is spelled so
  pub takes : (bytes : List ℕ) (x : A) (rest : List ℕ) → IsBytes bytes → c.read bytes ≡ Ok (x, rest) → Takes bytes (c.spell x) rest × (c.fits x ≡ true)
  -- what is spelled so is read, whatever follows
  pub again : (x : A) (rest : List ℕ) → c.fits x ≡ true → c.read (c.spell x ++ rest) ≡ Ok (x, rest)

-- The law of a format that refuses a byte as soon as it is read.
pub record IsCodec {A : Type 0} (c : Codec A) : Type 0 where
  pub exact : IsExact c
  pub stops : Stops c.read

-- no spelling begins another
pub no_front : {A : Type 0} (c : Codec A) → IsExact c → (x y : A) (a b : List ℕ) → c.fits x ≡ true → c.fits y ≡ true → c.spell x ++ a ≡ c.spell y ++ b → x ≡ y
no_front {A} c law x y a b f g e =
    let same : done {A = A × List ℕ} (x, a) ≡ done (y, b) = sym (law.again x a f) ∙ ap (λ t. c.read t) e ∙ law.again y b g in
    ap (λ (p : A × List ℕ). p.0) (ok_is (x, a) (y, b) same)

-- ---- steps that did not stop

bind_ok : {A B : Type 0} (r : Result A ℕ) (f : A → Result B ℕ) (y : B) → (r >>= f) ≡ Ok y → (x : A) × (r ≡ Ok x) × (f x ≡ Ok y)
bind_ok (Ok x) f y e = (x, refl, e)
bind_ok (Err d) f y e = absurd cc

guard_ok : {A : Type 0} (b : Bool) (d : ℕ) (x y : A) → cond b (Err d) (Ok x) ≡ Ok y → (b ≡ false) × (x ≡ y)
guard_ok true d x y e = absurd cc
guard_ok false d x y e = (refl, cc)

guard_true : {A : Type 0} (b : Bool) (x : Result A ℕ) (d : ℕ) (y : A) → cond b x (Err d) ≡ Ok y → (b ≡ true) × (x ≡ Ok y)
guard_true true x d y e = (refl, e)
guard_true false x d y e = absurd cc

cons-same : (a b : ℕ) (xs ys : List ℕ) → a ≡ b → xs ≡ ys → a ∷ xs ≡ b ∷ ys
cons-same a b xs ys p q = rw (p, q) refl

pub and-left : (a b : Bool) → (a && b) ≡ true → a ≡ true
and-left true b e = refl
and-left false b e = absurd cc

pub and-right : (a b : Bool) → (a && b) ≡ true → b ≡ true
and-right true b e = e
and-right false b e = absurd cc

pub both : (a b : Bool) → a ≡ true → b ≡ true → (a && b) ≡ true
both a b p q = rw (p, q) refl

-- ---- the words

pub nothing_exact : IsExact nothing
nothing_exact = record {
  takes = λ bytes x rest fits e.
      let same : bytes ≡ rest = ap (λ (p : Unit {0} × List ℕ). p.1) (ok_is (tt, bytes) (x, rest) e) in
      (record { parts = same; rest_fits = rw (← same) fits }, refl);
  again = λ x rest e. refl;
}

pub nothing_law : IsCodec nothing
nothing_law = record { exact = nothing_exact; stops = nothing_stops }

raw-takes : (n : ℕ) (bytes x rest : List ℕ) → IsBytes bytes → raw_at n bytes ≡ Ok (x, rest) → Takes bytes x rest × (eqb (length x) n ≡ true)
unfolding raw_at
raw-takes n bytes x rest fits e =
    let g = guard_ok (ltb (length bytes) n) 0 (take n bytes, drop n bytes) (x, rest) e in
    let long : n ≤ length bytes = ltb-false _ _ g.0 in
    let whole : Takes bytes (take n bytes) (drop n bytes) = record { parts = sym (take-append-drop n bytes); rest_fits = IsBytes-drop n bytes fits } in
    let len : length (take n bytes) ≡ n = omega (arith, length-take n bytes) in
    subst (λ (p : List ℕ × List ℕ). Takes bytes p.0 p.1 × (eqb (length p.0) n ≡ true)) g.1 (whole, rw len (grind arith))

raw-again : (n : ℕ) (x rest : List ℕ) → eqb (length x) n ≡ true → raw_at n (x ++ rest) ≡ Ok (x, rest)
unfolding raw_at
raw-again n x rest e =
    let len : length x ≡ n = eqb-true _ _ e in
    let long : ltb (length (x ++ rest)) n ≡ false = le-ltb _ _ (omega (arith, length-append x rest)) in
    rw (long, take_at x rest n len, drop_at x rest n len) refl

pub raw_law : (n : ℕ) → IsCodec (raw n)
raw_law n = record { exact = record { takes = raw-takes n; again = raw-again n }; stops = raw_stops n }

pub dep_exact : {A B : Type 0} {a : Codec A} {b : A → Codec B} → IsExact a → ((x : A) → IsExact (b x)) → IsExact (dep a b)
dep_exact {A} {B} {a} {b} p q = record {
  takes = λ bytes x rest fits e.
      let f = bind_ok (a.read bytes) (λ x. (b x.0).read x.1 >>= λ y. Ok ((x.0, y.0), y.1)) (x, rest) e in
      let s = bind_ok ((b f.0.0).read f.0.1) (λ y. Ok ((f.0.0, y.0), y.1)) (x, rest) f.2 in
      let t = p.takes bytes f.0.0 f.0.1 fits f.1 in
      let u = (q f.0.0).takes f.0.1 s.0.0 s.0.1 t.0.rest_fits s.1 in
      let is : ((f.0.0, s.0.0), s.0.1) ≡ (x, rest) = ok_is ((f.0.0, s.0.0), s.0.1) (x, rest) s.2 in
      subst (λ (z : (A × B) × List ℕ). Takes bytes (a.spell z.0.0 ++ (b z.0.0).spell z.0.1) z.1 × ((a.fits z.0.0 && (b z.0.0).fits z.0.1) ≡ true)) is
      (Takes-then bytes _ f.0.1 _ s.0.1 t.0 u.0, both _ _ t.1 u.1);
  again = λ x rest e.
      let first = p.again x.0 ((b x.0).spell x.1 ++ rest) (and-left _ _ e) in
      let second = (q x.0).again x.1 rest (and-right _ _ e) in
      ap (λ (t : List ℕ). a.read t >>= λ x. (b x.0).read x.1 >>= λ y. Ok ((x.0, y.0), y.1)) (append_assoc (a.spell x.0) ((b x.0).spell x.1) rest) ∙ rw (first, second) refl;
}

pub dep_law : {A B : Type 0} {a : Codec A} {b : A → Codec B} → IsCodec a → ((x : A) → IsCodec (b x)) → IsCodec (dep a b)
dep_law {A} {B} {a} {b} p q = record { exact = dep_exact p.exact (λ x. (q x).exact); stops = dep_stops a b p.stops (λ x. (q x).stops) }

pub via_exact : {A B : Type 0} (to : A → B) (from : B → A) {c : Codec A} → IsExact c → ((x : A) → c.fits x ≡ true → from (to x) ≡ x) → ((y : B) → to (from y) ≡ y) → IsExact (via to from c)
via_exact {A} {B} to from {c} p back forth = record {
  takes = λ bytes y rest fits e.
      let f = bind_ok (c.read bytes) (λ x. Ok (to x.0, x.1)) (y, rest) e in
      let t = p.takes bytes f.0.0 f.0.1 fits f.1 in
      let is : (to f.0.0, f.0.1) ≡ (y, rest) = ok_is (to f.0.0, f.0.1) (y, rest) f.2 in
      let same = back f.0.0 t.1 in
      subst (λ (z : B × List ℕ). Takes bytes (c.spell (from z.0)) z.1 × (c.fits (from z.0) ≡ true)) is (rw same t.0, rw same t.1);
  again = λ y rest e. let one = p.again (from y) rest e in let same = forth y in rw (one, same) refl;
}

pub via_law : {A B : Type 0} (to : A → B) (from : B → A) {c : Codec A} → IsCodec c → ((x : A) → c.fits x ≡ true → from (to x) ≡ x) → ((y : B) → to (from y) ≡ y) → IsCodec (via to from c)
via_law to from {c} p back forth = record { exact = via_exact to from p.exact back forth; stops = via_stops to from c p.stops }

pub narrow_exact : {A B : Type 0} (test : B → Bool) (to : A → B) (from : B → A) {c : Codec A} → IsExact c → ((x : A) → c.fits x ≡ true → from (to x) ≡ x) → ((y : B) → test y ≡ true → to (from y) ≡ y) → ((x : A) → test (to x) ≡ true)
    → IsExact (narrow test to from c)
narrow_exact {A} {B} test to from {c} p back forth kept = record {
  takes = λ bytes y rest fits e.
      let f = bind_ok (c.read bytes) (λ x. Ok (to x.0, x.1)) (y, rest) e in
      let t = p.takes bytes f.0.0 f.0.1 fits f.1 in
      let is : (to f.0.0, f.0.1) ≡ (y, rest) = ok_is (to f.0.0, f.0.1) (y, rest) f.2 in
      let same = back f.0.0 t.1 in
      subst (λ (z : B × List ℕ). Takes bytes (c.spell (from z.0)) z.1 × ((test z.0 && c.fits (from z.0)) ≡ true)) is (rw same t.0, both _ _ (kept f.0.0) (rw same t.1));
  again = λ y rest e. let one = p.again (from y) rest (and-right _ _ e) in let same = forth y (and-left _ _ e) in rw (one, same) refl;
}

pub narrow_law : {A B : Type 0} (test : B → Bool) (to : A → B) (from : B → A) {c : Codec A} → IsCodec c → ((x : A) → c.fits x ≡ true → from (to x) ≡ x) → ((y : B) → test y ≡ true → to (from y) ≡ y) → ((x : A) → test (to x) ≡ true)
    → IsCodec (narrow test to from c)
narrow_law test to from {c} p back forth kept = record { exact = narrow_exact test to from p.exact back forth kept; stops = via_stops to from c p.stops }

many-takes : {S X : Type 0} (item : S → Codec X) (next : S → X → S) → ((s : S) → IsExact (item s)) → (n : ℕ) (s : S) (bytes : List ℕ) (xs : List X) (rest : List ℕ) → IsBytes bytes
    → read_many item next n s bytes ≡ Ok (xs, rest) → Takes bytes (spell_many item next s xs) rest × (fit_many item next n s xs ≡ true)
unfolding read_many spell_many fit_many
many-takes {S} {X} item next p zero s bytes xs rest fits e =
    subst (λ (z : List X × List ℕ). Takes bytes (spell_many item next s z.0) z.1 × (fit_many item next zero s z.0 ≡ true)) (ok_is ([], bytes) (xs, rest) e) (record { parts = refl; rest_fits = fits }, refl)
many-takes {S} {X} item next p (suc n) s bytes xs rest fits e =
    let f = bind_ok ((item s).read bytes) (λ x. read_many item next n (next s x.0) x.1 >>= λ xs. Ok (x.0 ∷ xs.0, xs.1)) (xs, rest) e in
    let g = bind_ok (read_many item next n (next s f.0.0) f.0.1) (λ xs. Ok (f.0.0 ∷ xs.0, xs.1)) (xs, rest) f.2 in
    let t = (p s).takes bytes f.0.0 f.0.1 fits f.1 in
    let u = many-takes item next p n (next s f.0.0) f.0.1 g.0.0 g.0.1 t.0.rest_fits g.1 in
    subst (λ (z : List X × List ℕ). Takes bytes (spell_many item next s z.0) z.1 × (fit_many item next (suc n) s z.0 ≡ true)) (ok_is (f.0.0 ∷ g.0.0, g.0.1) (xs, rest) g.2)
    (Takes-then bytes _ f.0.1 _ g.0.1 t.0 u.0, both _ _ t.1 u.1)

many-again : {S X : Type 0} (item : S → Codec X) (next : S → X → S) → ((s : S) → IsExact (item s)) → (n : ℕ) (s : S) (xs : List X) (rest : List ℕ)
    → fit_many item next n s xs ≡ true → read_many item next n s (spell_many item next s xs ++ rest) ≡ Ok (xs, rest)
unfolding read_many spell_many fit_many
many-again item next p zero s [] rest e = refl
many-again item next p zero s (x ∷ xs) rest e = absurd cc
many-again item next p (suc n) s [] rest e = absurd cc
many-again item next p (suc n) s (x ∷ xs) rest e =
    let first = (p s).again x (spell_many item next (next s x) xs ++ rest) (and-left _ _ e) in
    let others = many-again item next p n (next s x) xs rest (and-right _ _ e) in
    ap (λ (t : List ℕ). (item s).read t >>= λ x. read_many item next n (next s x.0) x.1 >>= λ xs. Ok (x.0 ∷ xs.0, xs.1)) (append_assoc ((item s).spell x) (spell_many item next (next s x) xs) rest) ∙ rw (first, others) refl

pub many_exact : {S X : Type 0} (item : S → Codec X) (next : S → X → S) → ((s : S) → IsExact (item s)) → (n : ℕ) (s : S) → IsExact (many item next n s)
many_exact item next p n s = record { takes = many-takes item next p n s; again = many-again item next p n s }

pub many_law : {S X : Type 0} (item : S → Codec X) (next : S → X → S) → ((s : S) → IsCodec (item s)) → (n : ℕ) (s : S) → IsCodec (many item next n s)
many_law item next p n s = record { exact = many_exact item next (λ s. (p s).exact) n s; stops = many_stops item next (λ s. (p s).stops) n s }

fixed-takes : (text bytes : List ℕ) (x : Unit {0}) (rest : List ℕ) → IsBytes bytes → fixed_at text bytes ≡ Ok (x, rest) → Takes bytes text rest
unfolding fixed_at
fixed-takes [] bytes x rest fits e =
    let same : bytes ≡ rest = ap (λ (p : Unit {0} × List ℕ). p.1) (ok_is (tt, bytes) (x, rest) e) in
    record { parts = same; rest_fits = rw (← same) fits }
fixed-takes (t ∷ text) [] x rest fits e = absurd cc
fixed-takes (t ∷ text) (b ∷ bytes) x rest fits e =
    let c = guard_true (eqb b t) (fixed_at text bytes) (suc (length bytes)) (x, rest) e in
    let same : b ≡ t = eqb-true _ _ c.0 in
    let tail = fixed-takes text bytes x rest (λ i. fits (suc i)) c.1 in
    record { parts = cons-same b t bytes (text ++ rest) same tail.parts; rest_fits = tail.rest_fits }

fixed-again : (text : List ℕ) (x : Unit {0}) (rest : List ℕ) → fixed_at text (text ++ rest) ≡ Ok (x, rest)
unfolding fixed_at
fixed-again [] x rest = refl
fixed-again (t ∷ text) x rest = let same : eqb t t ≡ true = grind arith in rw same (fixed-again text x rest)

pub fixed_law : (text : List ℕ) → IsCodec (fixed text)
fixed_law text = record {
  exact = record { takes = λ bytes x rest fits e. (fixed-takes text bytes x rest fits e, refl); again = λ x rest e. fixed-again text x rest };
  stops = fixed_stops text;
}

pub length-fit_many : {S X : Type 0} (item : S → Codec X) (next : S → X → S) (n : ℕ) (s : S) (xs : List X) → fit_many item next n s xs ≡ true → length xs ≡ n
unfolding fit_many
length-fit_many item next zero s [] e = refl
length-fit_many item next zero s (x ∷ xs) e = absurd cc
length-fit_many item next (suc n) s [] e = absurd cc
length-fit_many item next (suc n) s (x ∷ xs) e = ap suc (length-fit_many item next n (next s x) xs (and-right _ _ e))

variant-spell : {P X : Type 0} (c : Codec P) (x : X) (back : X → Option P) (p : P) → back x ≡ Some p → (from_option [] c.spell (back x) ≡ c.spell p) × (from_option false c.fits (back x) ≡ c.fits p)
variant-spell c x back p e = (rw e refl, rw e refl)

variant-again : {P X : Type 0} (make : P → X) (back : X → Option P) (c : Codec P) → IsExact c → ((x : X) (p : P) → back x ≡ Some p → make p ≡ x) → (x : X) (o : Option P) (rest : List ℕ)
    → back x ≡ o → from_option false c.fits o ≡ true → (variant make back c).read (from_option [] c.spell o ++ rest) ≡ Ok (x, rest)
variant-again make back c law forth x None rest e h = absurd cc
variant-again make back c law forth x (Some p) rest e h = let one = law.again p rest h in let same = forth x p e in rw (one, same) refl

pub variant_exact : {P X : Type 0} (make : P → X) (back : X → Option P) {c : Codec P} → IsExact c → ((p : P) → back (make p) ≡ Some p) → ((x : X) (p : P) → back x ≡ Some p → make p ≡ x) → IsExact (variant make back c)
variant_exact {P} {X} make back {c} law forward forth = record {
  takes = λ bytes x rest fits e.
      let f = bind_ok (c.read bytes) (λ p. Ok (make p.0, p.1)) (x, rest) e in
      let t = law.takes bytes f.0.0 f.0.1 fits f.1 in
      let v = variant-spell c (make f.0.0) back f.0.0 (forward f.0.0) in
      subst (λ (z : X × List ℕ). Takes bytes (from_option [] c.spell (back z.0)) z.1 × (from_option false c.fits (back z.0) ≡ true)) (ok_is (make f.0.0, f.0.1) (x, rest) f.2)
      (subst (λ text. Takes bytes text f.0.1) (sym v.0) t.0, v.1 ∙ t.1);
  again = λ x rest h. variant-again make back c law forth x (back x) rest refl h;
}

pub variant_law : {P X : Type 0} (make : P → X) (back : X → Option P) {c : Codec P} → IsCodec c → ((p : P) → back (make p) ≡ Some p) → ((x : X) (p : P) → back x ≡ Some p → make p ≡ x) → IsCodec (variant make back c)
variant_law make back {c} law forward forth = record { exact = variant_exact make back law.exact forward forth; stops = variant_stops make back c law.stops }

-- the law of a format that is spelled alike and fits alike
pub alike_law : {A : Type 0} (c : Codec A) (spell : A → List ℕ) → ((x : A) → c.spell x ≡ spell x) → IsCodec c → IsCodec (record { spell = spell; fits = c.fits; read = c.read })
alike_law {A} c spell same law = record {
  exact = record {
    takes = λ bytes x rest fits e. let t = law.exact.takes bytes x rest fits e in (subst (λ text. Takes bytes text rest) (same x) t.0, t.1);
    again = λ x rest e. ap (λ (t : List ℕ). c.read (t ++ rest)) (sym (same x)) ∙ law.exact.again x rest e;
  };
  stops = law.stops;
}

-- ---- a test of the whole value

only_if-ok : {A : Type 0} (test : A → Bool) (n : ℕ) (r : Read A) (x : A) (rest : List ℕ) → tested test n r ≡ Ok (x, rest) → (r ≡ Ok (x, rest)) × (test x ≡ true)
only_if-ok {A} test n (Ok y) x rest e =
    let g = guard_true (test y.0) (Ok y) n (x, rest) e in
    (g.1, subst (λ (z : A × List ℕ). test z.0 ≡ true) (ok_is y (x, rest) g.1) g.0)
only_if-ok test n (Err left) x rest e = absurd cc

only_if-again : {A : Type 0} (test : A → Bool) (n : ℕ) (r : Read A) (x : A) (rest : List ℕ) → r ≡ Ok (x, rest) → test x ≡ true → tested test n r ≡ Ok (x, rest)
only_if-again test n r x rest e t = rw (e, t) refl

pub only_if_exact : {A : Type 0} (test : A → Bool) {c : Codec A} → IsExact c → IsExact (only_if test c)
only_if_exact test {c} law = record {
  takes = λ bytes x rest fits e.
      let g = only_if-ok test (length bytes) (c.read bytes) x rest e in
      let t = law.takes bytes x rest fits g.0 in
      (t.0, both _ _ t.1 g.1);
  again = λ x rest e. only_if-again test (length (c.spell x ++ rest)) _ x rest (law.again x rest (and-left _ _ e)) (and-right _ _ e);
}
