-- What is read of a page keeps its ranges, whatever its bytes are: the streams of an entry, and the versions of a
-- checkpoint.
use Rattle.std.proofs.Common.{◌≡◌, ℕ, zero, suc, ◌+◌, ◌*◌, ◌-◌, ◌<◌, ◌≤◌, ◌^◌, Bool, true, false, cond, eqb, List, [], ◌∷◌, length, Ok, Err, Option, Some, None, refl, sym, ap, ◌∙◌, subst, arith}
use Rattle.std.specs.Prelude.{◌/◌, ◌&&◌, nat_lt}
use Rattle.std.specs.List.{list_all}
use Rattle.tg_base.specs.declared.ids.Oid.{Oid}
use Rattle.tg_base.specs.declared.marks.Part.{Part}
use Rattle.tg_base.specs.declared.marks.Part.TheVariants.{All, Text, Num}
use Rattle.tg_base.specs.declared.marks.StreamLink.{StreamLink}
use Rattle.tg_codec.specs.Reading.{Read, ◌>>=◌, meets, number_at, u8_at, u16_at, u32_at, u64_at}
use Rattle.tg_codec.specs.Codec.{Codec, u8, u16, u32, u64, text, fixed, dep, behind, many, read_many}
use Rattle.tg_codec.specs.Bounds.{tops, raw_above, byte_above, after_byte}
use Rattle.tg_codec.specs.Streams.{any, from_one, oids_from, oid, backs, link, after_link, links}
use Rattle.tg_codec.proofs.Shapes.{met_within}
use Rattle.tg_entry.specs.declared.entry.Body.{Body}
use Rattle.tg_entry.specs.declared.entry.Body.TheVariants.{Checkpoint}
use Rattle.tg_entry.specs.declared.entry.Entry.{Entry}
use Rattle.tg_entry.specs.declared.checkpoints.KeyBound.{KeyBound}
use Rattle.tg_entry.specs.Checkpoints.{key, after_key, first_key, keys, Fields, new_fields, by_version, by_versions, new_rest, make_checkpoint}
use Rattle.tg_entry.specs.Format.{body, stream_counts, in_streams, by_number, by_client, of_tag, of_format, entry}
use Rattle.tg_entry.specs.Parts.{over, least_tag, text_bound, text_above, number_range, part_body, part_above}
use Rattle.tg_entry.specs.Records.{is_object}
use Rattle.tg_base.specs.Parts.{is_part}
use Rattle.tg_kind.specs.Parts.{is_whole}
use Rattle.tg_protocol.specs.Pages.{entry_of}
use Rattle.tg_law_walks.proofs.Drafts.Heads.{ok_is, ended_ok, pair_with, pair_on, shape, read_row, read_whole}

-- Numbers.

-- so many bytes, the last of which counts once
abbrev Ends : ℕ → ℕ → Type 0
Ends zero p = ⊥
Ends (suc zero) p = p ≡ 1
Ends (suc (suc n)) p = Ends (suc n) (p / 256)

number_step : (allowed : List (ℕ × ℕ)) (n p v b : ℕ) (bytes : List ℕ) (x : ℕ) (rest : List ℕ) → number_at allowed (suc n) p v (b ∷ bytes) ≡ Ok (x, rest)
    → (meets allowed (v + b * p) (v + b * p + (p - 1)) ≡ true) × (number_at allowed n (p / 256) (v + b * p) bytes ≡ Ok (x, rest))
number_step allowed n p v b bytes x rest e = by (meets allowed (v + b * p) (v + b * p + (p - 1))) refl e
  where
    by : (t : Bool) → meets allowed (v + b * p) (v + b * p + (p - 1)) ≡ t → cond t (number_at allowed n (p / 256) (v + b * p) bytes) (Err (suc (length bytes))) ≡ Ok (x, rest)
        → (meets allowed (v + b * p) (v + b * p + (p - 1)) ≡ true) × (number_at allowed n (p / 256) (v + b * p) bytes ≡ Ok (x, rest))
    by true s f = (s, f)
    by false s f = absurd cc

abbrev got : {A : Type 0} → A → List ℕ → Read A
got x r = Ok (x, r)

same_read : (v x : ℕ) (bytes rest : List ℕ) → got v bytes ≡ got x rest → v ≡ x
same_read v x bytes rest e = ap (λ (y : ℕ × List ℕ). y.0) (ok_is (v, bytes) (x, rest) e)

number_met : (allowed : List (ℕ × ℕ)) (n p v : ℕ) (bytes : List ℕ) (x : ℕ) (rest : List ℕ) → Ends n p → number_at allowed n p v bytes ≡ Ok (x, rest) → meets allowed x x ≡ true
number_met allowed zero p v bytes x rest ends e = absurd ends
number_met allowed (suc n) p v [] x rest ends e = absurd cc
number_met allowed (suc zero) p v (b ∷ bytes) x rest ends e =
    let s = number_step allowed zero p v b bytes x rest e in
    let at : v + b * p ≡ x = same_read (v + b * p) x bytes rest s.1 in
    let top : v + b * p + (p - 1) ≡ x = ap (λ q. v + b * p + (q - 1)) ends ∙ omega (arith, at) in
    subst (λ k. meets allowed x k ≡ true) top (subst (λ k. meets allowed k (v + b * p + (p - 1)) ≡ true) at s.0)
number_met allowed (suc (suc n)) p v (b ∷ bytes) x rest ends e = number_met allowed (suc n) (p / 256) (v + b * p) bytes x rest ends (number_step allowed (suc n) p v b bytes x rest e).1

pub u8_met : (allowed : List (ℕ × ℕ)) (bytes : List ℕ) (x : ℕ) (rest : List ℕ) → (u8 allowed).read bytes ≡ Ok (x, rest) → meets allowed x x ≡ true
unfolding u8_at
u8_met allowed bytes x rest e = number_met allowed 1 1 0 bytes x rest refl e

pub u16_met : (allowed : List (ℕ × ℕ)) (bytes : List ℕ) (x : ℕ) (rest : List ℕ) → (u16 allowed).read bytes ≡ Ok (x, rest) → meets allowed x x ≡ true
unfolding u16_at
u16_met allowed bytes x rest e = number_met allowed 2 (2 ^ 8) 0 bytes x rest refl e

u32_met : (allowed : List (ℕ × ℕ)) (bytes : List ℕ) (x : ℕ) (rest : List ℕ) → (u32 allowed).read bytes ≡ Ok (x, rest) → meets allowed x x ≡ true
unfolding u32_at
u32_met allowed bytes x rest e = number_met allowed 4 (2 ^ 24) 0 bytes x rest refl e

pub u64_met : (allowed : List (ℕ × ℕ)) (bytes : List ℕ) (x : ℕ) (rest : List ℕ) → (u64 allowed).read bytes ≡ Ok (x, rest) → meets allowed x x ≡ true
unfolding u64_at
u64_met allowed bytes x rest e = number_met allowed 8 (2 ^ 56) 0 bytes x rest refl e

-- Parts.

ok_pair : {A : Type 0} (x y : A) (r s : List ℕ) → got x r ≡ got y s → (x ≡ y) × (r ≡ s)
ok_pair {A} x y r s e = let t = ok_is (x, r) (y, s) e in (ap (λ (z : A × List ℕ). z.0) t, ap (λ (z : A × List ℕ). z.1) t)

record Parts {A B : Type 0} (a : Codec A) (b : A → Codec B) (bytes : List ℕ) (p : A × B) (left : List ℕ) : Type 0 where
  rest : List ℕ
  first : a.read bytes ≡ Ok (p.0, rest)
  second : (b p.0).read rest ≡ Ok (p.1, left)

dep_parts : {A B : Type 0} (a : Codec A) (b : A → Codec B) (bytes : List ℕ) (p : A × B) (left : List ℕ) → (dep a b).read bytes ≡ Ok (p, left) → Parts a b bytes p left
dep_parts {A} {B} a b bytes p left e = by (a.read bytes) refl e
  where
    then : (x : A) (r : List ℕ) → a.read bytes ≡ Ok (x, r) → (t : Read B) → (b x).read r ≡ t → pair_with x t ≡ Ok (p, left) → Parts a b bytes p left
    then x r f (Ok z) g h =
        let s = ok_pair (x, z.0) p z.1 left h in
        let s0 : x ≡ p.0 = ap (λ (q : A × B). q.0) s.0 in
        record { rest = r; first = f ∙ (λ i. Ok (s0 i, r)); second = subst (λ (y : A). (b y).read r ≡ Ok (p.1, left)) s0 (g ∙ (λ i. Ok ((s.0 i).1, s.1 i))) }
    then x r f (Err n) g h = absurd cc

    by : (t : Read A) → a.read bytes ≡ t → pair_on b t ≡ Ok (p, left) → Parts a b bytes p left
    by (Ok y) f g = then y.0 y.1 f ((b y.0).read y.1) refl g
    by (Err n) f g = absurd cc

-- what was read in another shape
shaped : {A B : Type 0} (to : A → B) (r : Read A) (y : B) (left : List ℕ) → shape to r ≡ Ok (y, left) → (x : A) × (r ≡ Ok (x, left)) × (to x ≡ y)
shaped to (Ok x) y left e = let s = ok_pair (to x.0) y x.1 left e in (x.0, (λ i. Ok (x.0, s.1 i)), s.0)
shaped to (Err n) y left e = absurd cc

-- each value that a format reads is such a one
abbrev pub Reads : {A : Type 0} → Codec A → (A → Type 0) → Type 0
Reads {A} c P = (bytes : List ℕ) (x : A) (left : List ℕ) → c.read bytes ≡ Ok (x, left) → P x

pub reads_dep : {A B : Type 0} (a : Codec A) (b : A → Codec B) (P : A → Type 0) (Q : A → B → Type 0) → Reads a P → ((x : A) → P x → Reads (b x) (Q x)) → Reads (dep a b) (λ p. P p.0 × Q p.0 p.1)
reads_dep a b P Q first second bytes p left e = let s = dep_parts a b bytes p left e in let at = first bytes p.0 s.rest s.first in (at, second p.0 at s.rest p.1 left s.second)

pub reads_shape : {A B : Type 0} (to : A → B) (c : Codec A) (P : A → Type 0) (Q : B → Type 0) → Reads c P → ((x : A) → P x → Q (to x)) → (bytes : List ℕ) (y : B) (left : List ℕ) → shape to (c.read bytes) ≡ Ok (y, left) → Q y
reads_shape to c P Q first more bytes y left e = let s = shaped to (c.read bytes) y left e in subst Q s.2 (more s.0 (first bytes s.0 left s.1))

-- lists

abbrev cons_on : {X : Type 0} → X → Read (List X) → Read (List X)
cons_on {X} x r = r >>= λ (xs : List X × List ℕ). Ok (x ∷ xs.0, xs.1)

abbrev more_on : {S X : Type 0} → (S → Codec X) → (S → X → S) → ℕ → S → Read X → Read (List X)
more_on {S} {X} item next n s r = r >>= λ (x : X × List ℕ). cons_on x.0 (read_many item next n (next s x.0) x.1)

-- so many values, by what each adds to those after it
module _ {S X : Type 0} (item : S → Codec X) (next : S → X → S) (P : S → X → Type 0) (Q : S → List X → Type 0) (none : (s : S) → Q s []) (one : (s : S) (x : X) (xs : List X) → P s x → Q (next s x) xs → Q s (x ∷ xs)) (each : (s : S) → Reads (item s) (P s)) where
  abbrev ManyAre : ℕ → Type 0
  ManyAre n = (s : S) → Reads (many item next n s) (λ xs. (length xs ≡ n) × Q s xs)

  pub reads_many : (n : ℕ) (s : S) → Reads (many item next n s) (λ xs. (length xs ≡ n) × Q s xs)
  unfolding read_many
  reads_many zero s bytes xs left e = let t = ok_pair [] xs bytes left e in (ap length (sym t.0), subst (Q s) t.0 (none s))
  reads_many (suc n) s bytes xs left e = by ((item s).read bytes) refl e (reads_many n)
    where
      then : (x : X) (r : List ℕ) → (item s).read bytes ≡ Ok (x, r) → (t : Read (List X)) → read_many item next n (next s x) r ≡ t → cons_on x t ≡ Ok (xs, left) → ManyAre n → (length xs ≡ suc n) × Q s xs
      then x r f (Ok ys) g h ih =
          let t = ok_pair (x ∷ ys.0) xs ys.1 left h in
          let b = ih (next s x) r ys.0 ys.1 g in
          (ap length (sym t.0) ∙ ap suc b.0, subst (Q s) t.0 (one s x ys.0 (each s bytes x r f) b.1))
      then x r f (Err k) g h ih = absurd cc

      by : (t : Read X) → (item s).read bytes ≡ t → more_on item next n s t ≡ Ok (xs, left) → ManyAre n → (length xs ≡ suc n) × Q s xs
      by (Ok x) f g ih = then x.0 x.1 f (read_many item next n (next s x.0) x.1) refl g ih
      by (Err k) f g ih = absurd cc

-- Streams.

-- objects that rise from a number on
abbrev pub RiseFrom : ℕ → List StreamLink → Type 0
RiseFrom low [] = Unit {0}
RiseFrom low (l ∷ ls) = (low ≤ l.oid.0) × (is_object l.oid ≡ true) × RiseFrom (l.oid.0 + 1) ls

in_range : (low n : ℕ) → meets (oids_from low) n n ≡ true → (low ≤ n) × (is_object (record { 0 = n }) ≡ true)
in_range low n e = (grind arith, grind arith)

link_read : (low : ℕ) → Reads (link low) (λ l. (low ≤ l.oid.0) × (is_object l.oid ≡ true))
link_read low bytes l left e =
    let a = shaped _ _ l left e in
    let b = dep_parts (oid (oids_from low)) (λ _. backs) bytes a.0 left a.1 in
    let c = shaped _ _ a.0.0 b.rest b.first in
    let d = in_range low c.0 (u32_met (oids_from low) bytes c.0 b.rest c.1) in
    subst (λ (o : Oid). (low ≤ o.0) × (is_object o ≡ true)) (c.2 ∙ ap (λ (x : StreamLink). x.oid) a.2) d

links_rise : (n low : ℕ) → Reads (many link after_link n low) (λ ls. (length ls ≡ n) × RiseFrom low ls)
links_rise = reads_many link after_link (λ low l. (low ≤ l.oid.0) × (is_object l.oid ≡ true)) RiseFrom (λ low. tt) (λ low l ls h more. (h.0, h.1, more)) link_read

-- one to sixteen streams that rise
pub record AreStreams (ls : List StreamLink) : Type 0 where
  pub some : 1 ≤ length ls
  pub few : length ls ≤ 16
  pub rise : RiseFrom 0 ls

links_read : (high : ℕ) (bytes : List ℕ) (ls : List StreamLink) (left : List ℕ) → high ≤ 16 → (links ((1, high) ∷ [])).read bytes ≡ Ok (ls, left) → AreStreams ls
links_read high bytes ls left le e =
    let a = shaped _ _ ls left e in
    let b = dep_parts (u8 ((1, high) ∷ [])) (λ n. many link after_link n 0) bytes a.0 left a.1 in
    let c = met_within 1 high a.0.0 (u8_met ((1, high) ∷ []) bytes a.0.0 b.rest b.first) in
    let d = links_rise a.0.0 0 b.rest a.0.1 left b.second in
    let long : length ls ≡ a.0.0 = ap length (sym a.2) ∙ d.0 in
    let low = c.0 in
    let top = c.1 in
    record { some = omega (arith, long, low); few = omega (arith, long, top, le); rise = subst (RiseFrom 0) a.2 d.1 }

-- Entries.

-- the streams that were read, and the body in them
record Row' (e : Entry) : Type 0 where
  tag : ℕ
  front : List ℕ
  middle : List ℕ
  left : List ℕ
  streams : (links (stream_counts tag)).read front ≡ Ok (e.head.streams, middle)
  kept : (body e.head.format e.head.streams tag).read middle ≡ Ok (e.body, left)

rows : (d : List ℕ) (e : Entry) → entry_of d ≡ Some e → Row' e
unfolding entry_of entry
rows d e is =
    let q = read_row _ e [] (ended_ok d (entry.read d) e (read_whole _ e is)) in
    let p0 = dep_parts (fixed (0x54 ∷ [])) (λ _. of_format) d q.0 [] q.1 in
    let p1 = dep_parts (u8 ((1, 2) ∷ [])) of_tag p0.rest q.0.1 [] p0.second in
    let p2 = dep_parts (u8 ((1, 3) ∷ [])) (by_client q.0.1.0) p1.rest q.0.1.1 [] p1.second in
    let p3 = dep_parts (u16 any) (λ _. by_number q.0.1.0 q.0.1.1.0) p2.rest q.0.1.1.1 [] p2.second in
    let p4 = dep_parts (u32 from_one) (λ _. in_streams q.0.1.0 q.0.1.1.0) p3.rest q.0.1.1.1.1 [] p3.second in
    let p5 = dep_parts (links (stream_counts q.0.1.1.0)) (λ ls. body q.0.1.0 ls q.0.1.1.0) p4.rest q.0.1.1.1.1.1 [] p4.second in
    subst Row' q.2 (record { tag = q.0.1.1.0; front = p4.rest; middle = p5.rest; left = []; streams = p5.first; kept = p5.second })

pub entry_streams : (d : List ℕ) (e : Entry) → entry_of d ≡ Some e → AreStreams e.head.streams
entry_streams d e is = let r = rows d e is in by r (eqb r.tag 3) refl
  where
    by : (r : Row' e) (b : Bool) → eqb r.tag 3 ≡ b → AreStreams e.head.streams
    by r true t = links_read 1 r.front e.head.streams r.middle (omega arith) (subst (λ (k : Bool). (links ((1, cond k 1 16) ∷ [])).read r.front ≡ Ok (e.head.streams, r.middle)) t r.streams)
    by r false t = links_read 16 r.front e.head.streams r.middle (omega arith) (subst (λ (k : Bool). (links ((1, cond k 1 16) ∷ [])).read r.front ≡ Ok (e.head.streams, r.middle)) t r.streams)

-- Checkpoints.

-- no version is above this one
abbrev pub KeysBelow : ℕ → List (Part × ℕ) → Type 0
KeysBelow n [] = Unit {0}
KeysBelow n (k ∷ ks) = (k.1 ≤ n) × KeysBelow n ks

-- keys name parts of the format, none of them the whole, each with a version above that of the whole and not above the object's
abbrev pub IsTold : ℕ → ℕ → Part × ℕ → Type 0
IsTold whole version k = (is_whole k.0 ≡ false) × (is_part k.0 ≡ true) × (whole < k.1) × (k.1 ≤ version)

abbrev pub AreTold : ℕ → ℕ → List (Part × ℕ) → Type 0
AreTold whole version [] = Unit {0}
AreTold whole version (k ∷ ks) = IsTold whole version k × AreTold whole version ks

pub told_below : (whole version : ℕ) (ks : List (Part × ℕ)) → AreTold whole version ks → KeysBelow version ks
told_below whole version [] h = tt
told_below whole version (k ∷ ks) h = (h.0.3, told_below whole version ks h.1)

over_in : (low high n : ℕ) → meets (over low high ∷ []) n n ≡ true → (low < n) × (n ≤ high)
over_in low high n e = by (nat_lt low high) e
  where
    by : (b : Bool) → meets (cond b (low + 1, high) (1, 0) ∷ []) n n ≡ true → (low < n) × (n ≤ high)
    by true f = let h = met_within (low + 1) high n f in let a = h.0 in (omega (arith, a), h.1)
    by false f = let h = met_within 1 0 n f in let a = h.0 in let b = h.1 in absurd (omega (arith, a, b))

abbrev pub is_small : ℕ → Bool
is_small b = nat_lt b 256

byte_small : (low n : ℕ) → meets ((low, 255) ∷ []) n n ≡ true → is_small n ≡ true
byte_small low n e = let top = (met_within low 255 n e).1 in grind (arith, top)

one_more : (a b : Bool) → a ≡ true → b ≡ true → (a && b) ≡ true
one_more a b e f = grind arith

-- a text of up to 4,096 bytes behind its length
pub reads_short : (low : ℕ) (body : ℕ → Codec (List ℕ)) → 1 ≤ low → ((n : ℕ) → Reads (body n) (λ t. (length t ≡ n) × (list_all is_small t ≡ true))) → Reads (behind (u16 ((low, 4096) ∷ [])) body) (λ t. is_part (Text t) ≡ true)
reads_short low body some each =
    reads_shape (λ p. p.1) (dep (u16 counts) body) (λ p. (meets counts p.0 p.0 ≡ true) × ((length p.1 ≡ p.0) × (list_all is_small p.1 ≡ true))) (λ t. is_part (Text t) ≡ true)
    (reads_dep (u16 counts) body (λ n. meets counts n n ≡ true) (λ n t. (length t ≡ n) × (list_all is_small t ≡ true)) (u16_met counts) (λ n k. each n)) (λ p h. sized p.0 p.1 (met_within low 4096 p.0 h.0) h.1.0 h.1.1)
  where
    counts : List (ℕ × ℕ)
    counts = (low, 4096) ∷ []

    sized : (n : ℕ) (t : List ℕ) → (low ≤ n) × (n ≤ 4096) → length t ≡ n → list_all is_small t ≡ true → is_part (Text t) ≡ true
    sized n t h long small = let a = h.0 in let b = h.1 in grind (arith, a, b, small, long, some)

pub small_more : {S : Type 0} (s : S) (b : ℕ) (bs : List ℕ) → is_small b ≡ true → list_all is_small bs ≡ true → list_all is_small (b ∷ bs) ≡ true
small_more s b bs p q = one_more (is_small b) (list_all is_small bs) p q

reads_text : (bound : List ℕ) → Reads (text_above bound) (λ t. is_part (Text t) ≡ true)
reads_text bound = reads_short (tops bound + 1) (raw_above bound) (omega arith)
    (λ n. reads_many byte_above after_byte (λ s b. is_small b ≡ true) (λ s bs. list_all is_small bs ≡ true) (λ s. refl) small_more (λ s bytes b rest e. byte_small _ b (u8_met _ bytes b rest e)) n (bound, n))

reads_number : (before : Option Part) → Reads (u64 (number_range before ∷ [])) (λ n. is_part (Num n) ≡ true)
reads_number before bytes n rest e = by before (u64_met (number_range before ∷ []) bytes n rest e)
  where
    least : n ≤ 2 ^ 64 - 1 → is_part (Num n) ≡ true
    least le = grind (arith, le)

    by : (p : Option Part) → meets (number_range p ∷ []) n n ≡ true → is_part (Num n) ≡ true
    by None f = least (met_within 0 (2 ^ 64 - 1) n f).1
    by (Some All) f = least (met_within 0 (2 ^ 64 - 1) n f).1
    by (Some (Text t)) f = least (met_within 0 (2 ^ 64 - 1) n f).1
    by (Some (Num j)) f = least (over_in j (2 ^ 64 - 1) n f).1

abbrev IsNamed : Part → Type 0
IsNamed k = (is_whole k ≡ false) × (is_part k ≡ true)

reads_body : (before : Option Part) (tag : ℕ) → 1 ≤ tag → Reads (part_body before tag) IsNamed
reads_body before zero le = absurd (omega (arith, le))
reads_body before (suc zero) le = reads_shape Text (text_above (text_bound before)) (λ t. is_part (Text t) ≡ true) IsNamed (reads_text (text_bound before)) (λ t h. (refl, h))
reads_body before (suc (suc n)) le = reads_shape Num (u64 (number_range before ∷ [])) (λ j. is_part (Num j) ≡ true) IsNamed (reads_number before) (λ j h. (refl, h))

-- no part above another is the whole
least_one : (p : Part) → 1 ≤ least_tag (Some p)
least_one All = omega arith
least_one (Text t) = by (nat_lt (tops t) 4096)
  where
    by : (b : Bool) → 1 ≤ cond b 1 2
    by true = omega arith
    by false = omega arith
least_one (Num n) = by (nat_lt n (2 ^ 64 - 1))
  where
    by : (b : Bool) → 1 ≤ cond b 2 3
    by true = omega arith
    by false = omega arith

reads_part : (p : Part) → Reads (part_above (Some p)) IsNamed
reads_part p =
    reads_shape (λ x. x.1) (dep (u8 tags) (part_body (Some p))) (λ x. (meets tags x.0 x.0 ≡ true) × IsNamed x.1) IsNamed
    (reads_dep (u8 tags) (part_body (Some p)) (λ n. meets tags n n ≡ true) (λ n k. IsNamed k) (u8_met tags) (λ n e. reads_body (Some p) n (let a = (met_within (least_tag (Some p)) 2 n e).0 in let b = least_one p in omega (arith, a, b))))
    (λ x h. h.1)
  where
    tags : List (ℕ × ℕ)
    tags = (least_tag (Some p), 2) ∷ []

reads_key : (s : KeyBound) (p : Part) → s.part ≡ Some p → Reads (key s) (IsTold s.whole s.version)
reads_key s p is bytes k rest e =
    let h = reads_dep (part_above s.part) (λ _. u64 (over s.whole s.version ∷ [])) IsNamed (λ x n. meets (over s.whole s.version ∷ []) n n ≡ true) (subst (λ (b : Option Part). Reads (part_above b) IsNamed) (sym is) (reads_part p)) (λ x i. u64_met (over s.whole s.version ∷ [])) bytes k rest e in
    let v = over_in s.whole s.version k.1 h.1 in
    (h.0.0, h.0.1, v.0, v.1)

-- after a part
abbrev AfterOne : KeyBound → (ℕ → ℕ → Type 0) → Type 0
AfterOne s P = (p : Part) → s.part ≡ Some p → P s.whole s.version

keys_told : (n : ℕ) (s : KeyBound) → Reads (many key after_key n s) (λ ks. (length ks ≡ n) × AfterOne s (λ w v. AreTold w v ks))
keys_told = reads_many key after_key (λ s k. AfterOne s (λ w v. IsTold w v k)) (λ s ks. AfterOne s (λ w v. AreTold w v ks)) (λ s p e. tt) (λ s k ks h more p e. (h p e, more k.0 refl)) (λ s bytes k rest e p is. reads_key s p is bytes k rest e)

-- a checkpoint's versions are numbers of eight bytes, and none is above the object's; its keys name parts
pub record AreVersions (version whole : ℕ) (ks : List (Part × ℕ)) : Type 0 where
  pub fits : version < 2 ^ 64
  pub below : whole ≤ version
  pub keys : AreTold whole version ks

fields_read : (oids : List (ℕ × ℕ)) (bytes : List ℕ) (f : Fields) (left : List ℕ) → (new_fields oids).read bytes ≡ Ok (f, left) → AreVersions f.1.1.0 f.1.1.1.0 f.1.1.1.1.0
unfolding new_fields keys
fields_read oids bytes f left e =
    let p0 = dep_parts (oid oids) (λ _. dep (u64 any) (λ _. new_rest)) bytes f left e in
    let p1 = dep_parts (u64 any) (λ _. new_rest) p0.rest f.1 left p0.second in
    let p2 = dep_parts (u64 any) by_version p1.rest f.1.1 left p1.second in
    let p3 = dep_parts (u64 ((0, f.1.1.0) ∷ [])) (by_versions f.1.1.0) p2.rest f.1.1.1 left p2.second in
    let p4 = dep_parts (keys f.1.1.1.0 f.1.1.0) (λ _. text any) p3.rest f.1.1.1.1 left p3.second in
    let top = (met_within 0 (2 ^ 64 - 1) f.1.1.0 (u64_met any p1.rest f.1.1.0 p2.rest p2.first)).1 in
    let low = (met_within 0 f.1.1.0 f.1.1.1.0 (u64_met ((0, f.1.1.0) ∷ []) p2.rest f.1.1.1.0 p3.rest p3.first)).1 in
    let k = shaped _ _ f.1.1.1.1.0 p4.rest p4.first in
    let m = dep_parts (u16 any) (λ n. many key after_key n (first_key f.1.1.1.0 f.1.1.0)) p3.rest k.0 p4.rest k.1 in
    record { fits = omega (arith, top); below = low; keys = subst (AreTold f.1.1.1.0 f.1.1.0) k.2 ((keys_told k.0.0 (first_key f.1.1.1.0 f.1.1.0) m.rest k.0.1 p4.rest m.second).1 All refl) }

module _ (o : Oid) (u v w : ℕ) (ks : List (Part × ℕ)) (s : List ℕ) where
  -- the body is this one
  of_made : (f : Fields) → AreVersions f.1.1.0 f.1.1.1.0 f.1.1.1.1.0 → make_checkpoint f ≡ Checkpoint o u v w ks s → AreVersions v w ks
  of_made f h e =
      let a : f.1.1.0 ≡ v = cc in
      let b : f.1.1.1.0 ≡ w = cc in
      let c : f.1.1.1.1.0 ≡ ks = cc in
      subst (λ (x : ℕ). AreVersions x w ks) a (subst (λ (x : ℕ). AreVersions f.1.1.0 x ks) b (subst (λ (x : List (Part × ℕ)). AreVersions f.1.1.0 f.1.1.1.0 x) c h))

  body_versions : (format : ℕ) (ls : List StreamLink) (tag : ℕ) (bytes : List ℕ) (left : List ℕ) → format ≡ 2 → (body format ls tag).read bytes ≡ Ok (Checkpoint o u v w ks s, left) → AreVersions v w ks
  unfolding body
  body_versions format ls tag bytes left is e = by (eqb tag 1) (eqb tag 2) (eqb tag 3) (subst (λ (n : ℕ). (body n ls tag).read bytes ≡ Ok (Checkpoint o u v w ks s, left)) is e)
    where
      by : (a b c : Bool)
          → (cond a (Rattle.tg_entry.specs.Format.commit 2 ls) (cond b Rattle.tg_entry.specs.Format.decision (cond c (Rattle.tg_entry.specs.Format.checkpoint 2 ls) Rattle.tg_codec.specs.Codec.never))).read bytes ≡ Ok (Checkpoint o u v w ks s, left) → AreVersions v w ks
      by true b c f = let x = shaped _ _ _ left f in absurd (cc)
      by false true c f = let x = shaped _ _ _ left f in absurd (cc)
      by false false true f = let x = shaped make_checkpoint _ _ left f in of_made x.0 (fields_read _ bytes x.0 left x.1) x.2
      by false false false f = absurd cc

pub checkpoint_versions : (d : List ℕ) (e : Entry) (o : Oid) (u v w : ℕ) (ks : List (Part × ℕ)) (s : List ℕ) → entry_of d ≡ Some e → e.head.format ≡ 2 → e.body ≡ Checkpoint o u v w ks s → AreVersions v w ks
checkpoint_versions d e o u v w ks s is format made =
    let r = rows d e is in
    body_versions o u v w ks s e.head.format e.head.streams r.tag r.middle r.left format (subst (λ (b : Body). (body e.head.format e.head.streams r.tag).read r.middle ≡ Ok (b, r.left)) made r.kept)
