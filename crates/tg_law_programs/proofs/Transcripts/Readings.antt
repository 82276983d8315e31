-- What holds of what is read, for each word that formats are made of.
use Rattle.std.proofs.Common.{◌≡◌, ℕ, zero, suc, true, List, [], ◌∷◌, length, Result, Ok, Err, refl, ap, subst}
use Rattle.tg_codec.specs.Reading.{◌>>=◌, meets, u8_at, u32_at}
use Rattle.tg_codec.specs.Codec.{Codec, u8, u32, dep, via, many, read_many, counted}
use Rattle.tg_codec.proofs.Numbers.{number_takes}

-- each value that the format reads is such a one
abbrev pub Reads : {A : Type 0} → Codec A → (A → Type 0) → Type 0
Reads {A} c P = (bytes : List ℕ) (x : A) (rest : List ℕ) → c.read bytes ≡ Ok (x, rest) → P x

bind_ok : {A B : Type 0} (r : Result A ℕ) (f : A → Result B ℕ) (y : B) → (r >>= f) ≡ Ok y → (x : A) × (r ≡ Ok x) × (f x ≡ Ok y)
bind_ok (Ok x) f y e = (x, refl, e)
bind_ok (Err d) f y e = absurd cc

abbrev done : {A : Type 0} → A → Result A ℕ
done x = Ok x

ok_is : {A : Type 0} (x y : A) → done x ≡ done y → x ≡ y
ok_is x y e = cc

-- any value
pub reads_any : {A : Type 0} (c : Codec A) → Reads c (λ x. Unit {0})
reads_any c bytes x rest e = tt

-- one value and then another
pub reads_dep : {A B : Type 0} (a : Codec A) (b : A → Codec B) (P : A → Type 0) (Q : A → B → Type 0) → Reads a P → ((x : A) → P x → Reads (b x) (Q x)) → Reads (dep a b) (λ p. P p.0 × Q p.0 p.1)
reads_dep a b P Q first second bytes p rest e =
    let r = bind_ok (a.read bytes) (λ x. (b x.0).read x.1 >>= λ y. Ok ((x.0, y.0), y.1)) (p, rest) e in
    let s = bind_ok ((b r.0.0).read r.0.1) (λ y. Ok ((r.0.0, y.0), y.1)) (p, rest) r.2 in
    let at = first bytes r.0.0 r.0.1 r.1 in
    subst (λ q. P q.0 × Q q.0 q.1) (ap (λ z. z.0) (ok_is ((r.0.0, s.0.0), s.0.1) (p, rest) s.2)) (at, second r.0.0 at r.0.1 s.0.0 s.0.1 s.1)

-- the same values in another shape
pub reads_via : {A B : Type 0} (to : A → B) (from : B → A) (c : Codec A) (P : A → Type 0) (Q : B → Type 0) → Reads c P → ((x : A) → P x → Q (to x)) → Reads (via to from c) Q
reads_via to from c P Q first more bytes y rest e =
    let r = bind_ok (c.read bytes) (λ x. Ok (to x.0, x.1)) (y, rest) e in
    subst Q (ap (λ z. z.0) (ok_is (to r.0.0, r.0.1) (y, rest) r.2)) (more r.0.0 (first bytes r.0.0 r.0.1 r.1))

-- so many values, by what each adds to those after it
module _ {S X : Type 0} (item : S → Codec X) (next : S → X → S) (P : S → X → Type 0) (Q : S → List X → Type 0) (none : (s : S) → Q s [])
    (one : (s : S) (x : X) (xs : List X) → P s x → Q (next s x) xs → Q s (x ∷ xs)) (each : (s : S) → Reads (item s) (P s)) where
  pub reads_many : (n : ℕ) (s : S) → Reads (many item next n s) (λ xs. Q s xs × (length xs ≡ n))
  unfolding read_many
  reads_many zero s bytes xs rest e = subst (λ ys. Q s ys × (length ys ≡ 0)) (ap (λ z. z.0) (ok_is ([], bytes) (xs, rest) e)) (none s, refl)
  reads_many (suc n) s bytes xs rest e =
      let r = bind_ok ((item s).read bytes) (λ x. read_many item next n (next s x.0) x.1 >>= λ ys. Ok (x.0 ∷ ys.0, ys.1)) (xs, rest) e in
      let t = bind_ok (read_many item next n (next s r.0.0) r.0.1) (λ ys. Ok (r.0.0 ∷ ys.0, ys.1)) (xs, rest) r.2 in
      let more = reads_many n (next s r.0.0) r.0.1 t.0.0 t.0.1 t.1 in
      subst (λ ys. Q s ys × (length ys ≡ suc n)) (ap (λ z. z.0) (ok_is (r.0.0 ∷ t.0.0, t.0.1) (xs, rest) t.2)) (one s r.0.0 t.0.0 (each s bytes r.0.0 r.0.1 r.1) more.0, ap suc more.1)

-- numbers are among those that are allowed

pub reads_u8 : (allowed : List (ℕ × ℕ)) → Reads (u8 allowed) (λ n. meets allowed n n ≡ true)
unfolding u8_at
reads_u8 allowed bytes n rest e = (number_takes allowed 0 0 bytes n rest e).met

pub reads_u32 : (allowed : List (ℕ × ℕ)) → Reads (u32 allowed) (λ n. meets allowed n n ≡ true)
unfolding u32_at
reads_u32 allowed bytes n rest e = (number_takes allowed 3 0 bytes n rest e).met

-- a list behind its count
pub reads_counted : {X : Type 0} (counts : List (ℕ × ℕ)) (body : ℕ → Codec (List X)) (P : ℕ → List X → Type 0) (Q : List X → Type 0) → ((n : ℕ) → Reads (body n) (P n))
    → ((n : ℕ) (xs : List X) → meets counts n n ≡ true → P n xs → Q xs) → Reads (counted counts body) Q
reads_counted counts body P Q each more =
    reads_via (λ p. p.1) (λ xs. (length xs, xs)) (dep (u8 counts) body) (λ p. (meets counts p.0 p.0 ≡ true) × P p.0 p.1) Q
    (reads_dep (u8 counts) body (λ n. meets counts n n ≡ true) P (reads_u8 counts) (λ n k. each n)) (λ p h. more p.0 p.1 h.0 h.1)
