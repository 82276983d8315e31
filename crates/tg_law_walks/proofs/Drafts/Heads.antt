-- The entry that is read of a page has the head that was spelled, and a body of the same kind.
use Rattle.std.proofs.Common.{◌≡◌, ℕ, ◌-◌, Result, Bool, true, false, cond, eqb, List, [], ◌∷◌, ◌++◌, length, Ok, Err, Some, refl, sym, ap, ◌∙◌, subst}
use Rattle.std.proofs.lemmas.List.{nil_from_length}
use Rattle.std.proofs.lemmas.Bool.{eqb-true}
use Rattle.tg_base.specs.declared.marks.StreamLink.{StreamLink}
use Rattle.tg_codec.specs.Reading.{Read, ◌>>=◌}
use Rattle.tg_codec.specs.Codec.{Codec, u8, u16, u32, fixed, dep}
use Rattle.tg_codec.specs.Whole.{ended, whole}
use Rattle.tg_codec.specs.Streams.{any, from_one, links}
use Rattle.tg_codec.proofs.Laws.{IsExact, fixed_law}
use Rattle.tg_codec.proofs.Shapes.{dep_first, dep_second}
use Rattle.tg_codec.proofs.Widths.{u8_law, u16_law, u32_law}
use Rattle.tg_codec.proofs.Objects.{links_law}
use Rattle.tg_entry.specs.declared.entry.Body.{Body}
use Rattle.tg_entry.specs.declared.entry.Body.TheVariants.{Commit, Decision, Checkpoint}
use Rattle.tg_entry.specs.declared.entry.Entry.{Entry}
use Rattle.tg_entry.specs.Format.{tag_of, body, stream_counts, in_streams, by_number, by_client, of_tag, of_format, Row, to_entry, from_entry, entry}
use Rattle.tg_protocol.specs.Pages.{page_of, entry_of, if_read}

some_entry : (a b : Entry) → Some a ≡ Some b → a ≡ b
some_entry a b e = cc

abbrev done : {A : Type 0} → A → Result A ℕ
done x = Ok x

pub ok_is : {A : Type 0} (x y : A) → done x ≡ done y → x ≡ y
ok_is x y e = cc

guard : {A : Type 0} (b : Bool) (x y : A) (d : ℕ) → cond b (Ok x) (Err d) ≡ Ok y → (b ≡ true) × (x ≡ y)
guard true x y d e = (refl, cc)
guard false x y d e = absurd cc

-- what was read whole
pub ended_ok : {A : Type 0} (bytes : List ℕ) (r : Read A) (x : A) → ended bytes r ≡ Ok x → r ≡ Ok (x, [])
ended_ok {A} bytes (Ok y) x e =
    let g = guard (eqb (length y.1) 0) y.0 x (length bytes - length y.1) e in
    let none : y.1 ≡ [] = nil_from_length y.1 (eqb-true _ _ g.0) in
    λ i. Ok (g.1 i, none i)
ended_ok bytes (Err left) x e = absurd cc

-- reading a pair, and in another shape

abbrev pub pair_with : {A B : Type 0} → A → Read B → Read (A × B)
pair_with {A} {B} x r = r >>= λ (z : B × List ℕ). Ok ((x, z.0), z.1)

abbrev pub pair_on : {A B : Type 0} → (A → Codec B) → Read A → Read (A × B)
pair_on {A} {B} b r = r >>= λ (y : A × List ℕ). pair_with y.0 ((b y.0).read y.1)

abbrev pub shape : {A B : Type 0} → (A → B) → Read A → Read B
shape {A} {B} to r = r >>= λ (x : A × List ℕ). Ok (to x.0, x.1)

-- what follows a first value that was spelled
pub dep_front : {A B : Type 0} {a : Codec A} (b : A → Codec B) → IsExact a → (x : A) (rest : List ℕ) (p : A × B) (left : List ℕ) → a.fits x ≡ true → (dep a b).read (a.spell x ++ rest) ≡ Ok (p, left)
    → (p.0 ≡ x) × ((b x).read rest ≡ Ok (p.1, left))
dep_front {A} {B} {a} b law x rest p left fits e = by ((b x).read rest) (sym (ap (λ (r : Read A). pair_on b r) (law.again x rest fits)) ∙ e)
  where
    by : (r : Read B) → pair_with x r ≡ Ok (p, left) → (p.0 ≡ x) × (r ≡ Ok (p.1, left))
    by (Ok z) f = let s = ok_is ((x, z.0), z.1) (p, left) f in (sym (ap (λ (y : (A × B) × List ℕ). y.0.0) s), λ i. Ok ((s i).0.1, (s i).1))
    by (Err n) f = absurd cc

-- a made body has the kind of what makes it
made_tag : {P : Type 0} (make : P → Body) (n : ℕ) → ((p : P) → tag_of (make p) ≡ n) → (r : Read P) (b : Body) (left : List ℕ) → shape make r ≡ Ok (b, left) → tag_of b ≡ n
made_tag {P} make n is (Ok p) b left e = let same = ok_is (make p.0, p.1) (b, left) e in ap (λ (y : Body × List ℕ). tag_of y.0) (sym same) ∙ is p.0
made_tag make n is (Err m) b left e = absurd cc

body_tag : (format : ℕ) (ls : List StreamLink) (x b : Body) (rest left : List ℕ) → (body format ls (tag_of x)).read rest ≡ Ok (b, left) → tag_of b ≡ tag_of x
unfolding body
body_tag format ls (Commit rs ws) b rest left e = made_tag _ 1 (λ p. refl) _ b left e
body_tag format ls (Decision at fate) b rest left e = made_tag _ 2 (λ p. refl) _ b left e
body_tag format ls (Checkpoint o u v w ks s) b rest left e = made_tag _ 3 (λ p. refl) _ b left e

-- the same head, and a body of the same kind
pub record SameHead (x e : Entry) : Type 0 where
  pub head : e.head ≡ x.head
  pub tag : tag_of e.body ≡ tag_of x.body

-- the head has a spelling, with some body of the same kind
pub record HasTwin (x : Entry) : Type 0 where
  pub body : Body
  pub tag : tag_of body ≡ tag_of x.body
  pub fits : entry.fits (record { head = x.head; body = body }) ≡ true

pub read_row : (r : Read (Unit {0} × Row)) (e : Entry) (left : List ℕ) → shape to_entry r ≡ Ok (e, left) → (q : Unit {0} × Row) × (r ≡ Ok (q, left)) × (to_entry q ≡ e)
read_row (Ok q) e left f = let s = ok_is (to_entry q.0, q.1) (e, left) f in (q.0, (λ i. Ok (q.0, (s i).1)), ap (λ (y : Entry × List ℕ). y.0) s)
read_row (Err n) e left f = absurd cc

pub read_whole : (r : Result Entry ℕ) (e : Entry) → if_read r ≡ Some e → r ≡ Ok e
read_whole (Ok x) e f = ap (λ (y : Entry). Ok y) (some_entry x e f)
read_whole (Err n) e f = absurd cc

pub head_read : (x e : Entry) → HasTwin x → entry_of (page_of x) ≡ Some e → SameHead x e
unfolding entry_of page_of entry
head_read x e t is =
    let row = (from_entry (record { head = x.head; body = t.body })).1 in
    let f = x.head.format in
    let f1 = dep_second (fixed (0x54 ∷ [])) (λ _. of_format) (tt, row) t.fits in
    let a1 = dep_first (u8 ((1, 2) ∷ [])) of_tag row f1 in
    let f2 = dep_second (u8 ((1, 2) ∷ [])) of_tag row f1 in
    let a2 = dep_first (u8 ((1, 3) ∷ [])) (by_client f) row.1 f2 in
    let f3 = dep_second (u8 ((1, 3) ∷ [])) (by_client f) row.1 f2 in
    let a3 = dep_first (u16 any) (λ _. by_number f (tag_of t.body)) row.1.1 f3 in
    let f4 = dep_second (u16 any) (λ _. by_number f (tag_of t.body)) row.1.1 f3 in
    let a4 = dep_first (u32 from_one) (λ _. in_streams f (tag_of t.body)) row.1.1.1 f4 in
    let f5 = dep_second (u32 from_one) (λ _. in_streams f (tag_of t.body)) row.1.1.1 f4 in
    let a5 = dep_first (links (stream_counts (tag_of t.body))) (λ ls. body f ls (tag_of t.body)) row.1.1.1.1 f5 in
    let q = read_row _ e [] (ended_ok (entry.spell x) (entry.read (entry.spell x)) e (read_whole (whole entry (entry.spell x)) e is)) in
    let h0 = dep_front (λ _. of_format) (fixed_law (0x54 ∷ [])).exact tt _ q.0 [] refl q.1 in
    let h1 = dep_front of_tag (u8_law ((1, 2) ∷ [])).exact f _ q.0.1 [] a1 h0.1 in
    let h2 = dep_front (by_client f) (u8_law ((1, 3) ∷ [])).exact (tag_of x.body) _ q.0.1.1 [] (subst (λ n. (u8 ((1, 3) ∷ [])).fits n ≡ true) t.tag a2) h1.1 in
    let h3 = dep_front (λ _. by_number f (tag_of x.body)) (u16_law any).exact x.head.client _ q.0.1.1.1 [] a3 h2.1 in
    let h4 = dep_front (λ _. in_streams f (tag_of x.body)) (u32_law from_one).exact x.head.number _ q.0.1.1.1.1 [] a4 h3.1 in
    let h5 = dep_front (λ ls. body f ls (tag_of x.body)) (links_law (stream_counts (tag_of x.body))).exact x.head.streams _ q.0.1.1.1.1.1 [] (subst (λ n. (links (stream_counts n)).fits x.head.streams ≡ true) t.tag a5) h4.1 in
    record {
      head = ap (λ (y : Entry). y.head) (sym q.2) ∙ (λ i. record { format = h1.0 i; client = h3.0 i; number = h4.0 i; streams = h5.0 i });
      tag = ap (λ (y : Entry). tag_of y.body) (sym q.2) ∙ body_tag f x.head.streams x.body _ _ [] h5.1;
    }
