-- A checkpoint that is read off a page stands in the stream of the object that it saves: as `Read` of `tg_law_replies` has it of writes.
use Rattle.std.proofs.Common.{◌≡◌, ℕ, ◌-◌, max, min, Bool, true, false, List, [], ◌∷◌, length, Some, None, Result, Ok, Err, refl, sym, ap, subst, inl, inr, arith}
use Rattle.std.specs.Prelude.{nat_le, ◌==◌, ◌&&◌, if◌then◌else◌}
use Rattle.std.specs.List.{list_any}
use Rattle.std.proofs.lemmas.Bool.{leb-true, or_cases, or_left, or_right}
use Rattle.tg_base.specs.Orders.{oid_eq}
use Rattle.tg_base.specs.declared.ids.Oid.{Oid}
use Rattle.tg_base.specs.declared.marks.StreamLink.{StreamLink}
use Rattle.tg_codec.specs.Reading.{◌>>=◌, meets, u32_at}
use Rattle.tg_codec.specs.Codec.{Codec, u8, u16, u32, u64, fixed, dep, via, from_table}
use Rattle.tg_codec.specs.Owing.{points}
use Rattle.tg_codec.specs.Streams.{any, from_one, oid, links}
use Rattle.tg_codec.specs.Whole.{ended}
use Rattle.tg_codec.proofs.Numbers.{number_takes}
use Rattle.tg_entry.specs.Checkpoints.{Fields, new_rest, new_fields, old_fields, fields, make_checkpoint}
use Rattle.tg_entry.specs.Reads.{reads}
use Rattle.tg_entry.specs.Format.{commit, truth, decision, checkpoint, body, stream_counts, in_streams, by_number, by_client, of_tag, of_format, Row, to_entry, from_entry, entry}
use Rattle.tg_entry.specs.Writes.{stream_numbers, writes}
use Rattle.tg_entry.specs.declared.entry.Body.{Body}
use Rattle.tg_entry.specs.declared.entry.Body.TheVariants.{Commit, Decision, Checkpoint}
use Rattle.tg_entry.specs.declared.entry.Entry.{Entry}
use Rattle.tg_kind.specs.Meaning.{Meaning}
use Rattle.tg_protocol.specs.Checkpoints.{loaded, base_in, base_at}
use Rattle.tg_protocol.specs.Entries.{lists}
use Rattle.tg_protocol.specs.Pages.{entry_of, if_read}
use Rattle.tg_protocol.specs.Versions.{based}
use Rattle.tg_protocol.specs.Views.{Base}
use Rattle.tg_law_replies.proofs.History.Members.{Has, number_same, same_oid}

-- each value that the format reads is such a one
abbrev Reads : {A : Type 0} → Codec A → (A → Type 0) → Type 0
Reads {A} c P = (bytes : List ℕ) (x : A) (rest : List ℕ) → c.read bytes ≡ Ok (x, rest) → P x

bind_ok : {A B : Type 0} (r : Result A ℕ) (f : A → Result B ℕ) (y : B) → (r >>= f) ≡ Ok y → (x : A) × (r ≡ Ok x) × (f x ≡ Ok y)
bind_ok (Ok x) f y e = (x, refl, e)
bind_ok (Err d) f y e = absurd cc

abbrev done : {A : Type 0} → A → Result A ℕ
done x = Ok x

ok_is : {A : Type 0} (x y : A) → done x ≡ done y → x ≡ y
ok_is x y e = cc

reads_any : {A : Type 0} (c : Codec A) → Reads c (λ x. Unit {0})
reads_any c bytes x rest e = tt

reads_dep : {A B : Type 0} (a : Codec A) (b : A → Codec B) (P : A → Type 0) (Q : A → B → Type 0) → Reads a P → ((x : A) → P x → Reads (b x) (Q x)) → Reads (dep a b) (λ p. P p.0 × Q p.0 p.1)
reads_dep a b P Q first second bytes p rest e =
    let r = bind_ok (a.read bytes) (λ x. (b x.0).read x.1 >>= λ y. Ok ((x.0, y.0), y.1)) (p, rest) e in
    let s = bind_ok ((b r.0.0).read r.0.1) (λ y. Ok ((r.0.0, y.0), y.1)) (p, rest) r.2 in
    let at = first bytes r.0.0 r.0.1 r.1 in
    subst (λ q. P q.0 × Q q.0 q.1) (ap (λ z. z.0) (ok_is ((r.0.0, s.0.0), s.0.1) (p, rest) s.2)) (at, second r.0.0 at r.0.1 s.0.0 s.0.1 s.1)

reads_via : {A B : Type 0} (to : A → B) (from : B → A) (c : Codec A) (P : A → Type 0) (Q : B → Type 0) → Reads c P → ((x : A) → P x → Q (to x)) → Reads (via to from c) Q
reads_via to from c P Q first more bytes y rest e =
    let r = bind_ok (c.read bytes) (λ x. Ok (to x.0, x.1)) (y, rest) e in
    subst Q (ap (λ z. z.0) (ok_is (to r.0.0, r.0.1) (y, rest) r.2)) (more r.0.0 (first bytes r.0.0 r.0.1 r.1))

reads_u32 : (allowed : List (ℕ × ℕ)) → Reads (u32 allowed) (λ n. meets allowed n n ≡ true)
unfolding u32_at
reads_u32 allowed bytes n rest e = (number_takes allowed 3 0 bytes n rest e).met

reads_oid : (allowed : List (ℕ × ℕ)) → Reads (oid allowed) (λ o. meets allowed o.0 o.0 ≡ true)
reads_oid allowed = reads_via (λ n. record { 0 = n }) (λ o. o.0) (u32 allowed) (λ n. meets allowed n n ≡ true) (λ o. meets allowed o.0 o.0 ≡ true) (reads_u32 allowed) (λ n h. h)

of_points : (xs : List ℕ) (n : ℕ) → meets (points xs) n n ≡ true → Has xs n
of_points [] n e = absurd cc
of_points (x ∷ xs) n e = elim (or_cases (nat_le (max x n) (min x n)) (meets (points xs) n n) e) [
  | inl first ↦ let le = leb-true _ _ first in inl (omega (arith, le))
  | inr rest ↦ inr (of_points xs n rest)
]

-- The object of a checkpoint of format 2 is one of the streams.

abbrev IsNamed : ℕ → List StreamLink → Fields → Type 0
IsNamed format ls f = (format == 2) ≡ true → Has (stream_numbers ls) f.0.0

reads_new : (format : ℕ) (ls : List StreamLink) → Reads (new_fields (points (stream_numbers ls))) (IsNamed format ls)
unfolding new_fields
reads_new format ls bytes f rest e two =
    of_points (stream_numbers ls) f.0.0 (reads_dep (oid (points (stream_numbers ls))) (λ _. dep (u64 any) (λ _. new_rest)) (λ o. meets (points (stream_numbers ls)) o.0 o.0 ≡ true) (λ o x. Unit {0})
    (reads_oid (points (stream_numbers ls))) (λ o h. reads_any (dep (u64 any) (λ _. new_rest))) bytes f rest e).0

reads_fields : (format : ℕ) (ls : List StreamLink) → Reads (fields format (points (stream_numbers ls))) (IsNamed format ls)
reads_fields format ls bytes f rest e = by (format == 1) refl e
  where
    apart : (format == 1) ≡ true → (format == 2) ≡ true → ⊥
    apart a b = grind arith

    by : (b : Bool) → (format == 1) ≡ b → (if b then old_fields (points (stream_numbers ls)) else new_fields (points (stream_numbers ls))).read bytes ≡ Ok (f, rest) → IsNamed format ls f
    by true is e two = absurd (apart is two)
    by false is e two = reads_new format ls bytes f rest e two

abbrev IsBodyOf : ℕ → List StreamLink → Body → Type 0
IsBodyOf format ls (Checkpoint o u v whole keys state) = (format == 2) ≡ true → Has (stream_numbers ls) o.0
IsBodyOf format ls b = Unit {0}

reads_commit : (format : ℕ) (ls : List StreamLink) → Reads (commit format ls) (IsBodyOf format ls)
reads_commit format ls =
    reads_via (λ p. Commit p.0 p.1) (λ b. ([], [])) (dep (reads format) (λ _. writes ls)) (λ p. Unit {0}) (IsBodyOf format ls) (reads_any (dep (reads format) (λ _. writes ls))) (λ p h. tt)

reads_decision : (format : ℕ) (ls : List StreamLink) → Reads decision (IsBodyOf format ls)
reads_decision format ls = reads_via (λ p. Decision p.0 p.1) (λ b. (0, true)) (dep (u64 any) (λ _. truth)) (λ p. Unit {0}) (IsBodyOf format ls) (reads_any (dep (u64 any) (λ _. truth))) (λ p h. tt)

reads_checkpoint : (format : ℕ) (ls : List StreamLink) → Reads (checkpoint format ls) (IsBodyOf format ls)
reads_checkpoint format ls bytes b rest e = reads_via {B = Body} make_checkpoint (λ b. back) (fields format (points (stream_numbers ls))) (IsNamed format ls) (IsBodyOf format ls) (reads_fields format ls) (λ f h. h) bytes b rest e
  where
    back : Fields
    back = (record { 0 = 0 }, (0, (0, (0, ([], [])))))

reads_body : (format : ℕ) (ls : List StreamLink) (tag : ℕ) → Reads (body format ls tag) (IsBodyOf format ls)
unfolding body
reads_body format ls tag bytes b rest e = by (tag == 1) (tag == 2) (tag == 3) e
  where
    by : (x y z : Bool) → (if x then commit format ls else (if y then decision else (if z then checkpoint format ls else from_table [] tag))).read bytes ≡ Ok (b, rest) → IsBodyOf format ls b
    by true y z e = reads_commit format ls bytes b rest e
    by false true z e = reads_decision format ls bytes b rest e
    by false false true e = reads_checkpoint format ls bytes b rest e
    by false false false e = absurd cc

-- Entries.

abbrev IsOf : ℕ → List StreamLink × Body → Type 0
IsOf format p = IsBodyOf format p.0 p.1

reads_streams : (format tag : ℕ) → Reads (in_streams format tag) (IsOf format)
reads_streams format tag bytes p rest e =
    (reads_dep (links (stream_counts tag)) (λ ls. body format ls tag) (λ ls. Unit {0}) (λ ls. IsBodyOf format ls) (reads_any (links (stream_counts tag))) (λ ls h. reads_body format ls tag) bytes p rest e).1

abbrev IsRow : Row → Type 0
IsRow p = IsOf p.0 p.1.1.1.1

-- after a value that doesn't matter
after : {A B : Type 0} (a : Codec A) (b : A → Codec B) (Q : B → Type 0) → ((x : A) → Reads (b x) Q) → Reads (dep a b) (λ p. Q p.1)
after {A} {B} a b Q each bytes p rest e = (reads_dep a b (λ x. Unit {0}) (λ x. Q) (reads_any a) (λ x h. each x) bytes p rest e).1

reads_tagged : (format : ℕ) → Reads (of_tag format) (λ p. IsOf format p.1.1.1)
reads_tagged format = after {B = ℕ × (ℕ × (List StreamLink × Body))} (u8 ((1, 3) ∷ [])) (by_client format) (λ p. IsOf format p.1.1)
    (λ tag. after {B = ℕ × (List StreamLink × Body)} (u16 any) (λ _. by_number format tag) (λ p. IsOf format p.1)
    (λ client. after {B = List StreamLink × Body} (u32 from_one) (λ _. in_streams format tag) (IsOf format) (λ number. reads_streams format tag)))

reads_format : Reads of_format IsRow
reads_format bytes p rest e = (reads_dep (u8 ((1, 2) ∷ [])) of_tag (λ format. Unit {0}) (λ format q. IsOf format q.1.1.1) (reads_any (u8 ((1, 2) ∷ []))) (λ format h. reads_tagged format) bytes p rest e).1

abbrev IsRead : Entry → Type 0
IsRead e = IsBodyOf e.head.format e.head.streams e.body

reads_entry : Reads entry IsRead
unfolding entry
reads_entry = reads_via to_entry from_entry (dep (fixed (0x54 ∷ [])) (λ _. of_format)) (λ p. Unit {0} × IsRow p.1) IsRead
    (reads_dep (fixed (0x54 ∷ [])) (λ _. of_format) (λ x. Unit {0}) (λ x. IsRow) (reads_any (fixed (0x54 ∷ []))) (λ x h. reads_format)) (λ p h. h.1)

page_read : (page : List ℕ) (e : Entry) → entry_of page ≡ Some e → IsRead e
unfolding entry_of
page_read page e is = by (entry.read page) refl is
  where
    none : {X : Type 0} → None ≡ Some e → X
    none z = absurd cc

    one : (x : Entry) → Some x ≡ Some e → x ≡ e
    one x z = cc

    ended_by : (x : Entry) (rest : List ℕ) → entry.read page ≡ Ok (x, rest) → (b : Bool) → if_read (if b then Ok x else Err (length page - length rest)) ≡ Some e → IsRead e
    ended_by x rest at true z = subst IsRead (one x z) (reads_entry page x rest at)
    ended_by x rest at false z = none z

    by : (r : Result (Entry × List ℕ) ℕ) → entry.read page ≡ r → if_read (ended page r) ≡ Some e → IsRead e
    by (Ok x) at z = ended_by x.0 x.1 at (length x.1 == 0) z
    by (Err n) at z = none z

number_listed : (ls : List StreamLink) (o : Oid) → Has (stream_numbers ls) o.0 → list_any (λ l. oid_eq l.oid o) ls ≡ true
number_listed [] o i = absurd i
number_listed (l ∷ ls) o (inl e) = or_left _ _ (number_same l.oid.0 o.0 (sym e))
number_listed (l ∷ ls) o (inr i) = or_right _ _ (number_listed ls o i)

-- A base is read of an entry that stands in the object's stream.
module _ (m : Meaning) where
  no_base : {X : Type 0} (b : Base m) → None ≡ Some b → X
  no_base b e = absurd cc

  of_body : (page : List ℕ) (e : Entry) (o : Oid) (b : Base m) (d : Body) → (e.head.format == 2) ≡ true → e.body ≡ d → IsBodyOf e.head.format e.head.streams d → base_in m o d ≡ Some b → lists e o ≡ true
  of_body page e o b (Commit rs ws) two is k z = no_base b z
  of_body page e o b (Decision p so) two is k z = no_base b z
  of_body page e o b (Checkpoint p u version whole keys state) two is k z = by (oid_eq o p) refl (nat_le version u) z
    where
      by : (s : Bool) → oid_eq o p ≡ s → (t : Bool) → (if s && t then loaded m o u (based o version whole keys) (m.load o state) else None) ≡ Some b → lists e o ≡ true
      by true same t z = subst (λ (x : Oid). lists e x ≡ true) (sym (same_oid o p same)) (number_listed e.head.streams p (k two))
      by false same t z = no_base b z

  pub saves_listed : (page : List ℕ) (e : Entry) (o : Oid) (b : Base m) → entry_of page ≡ Some e → base_at m o e ≡ Some b → lists e o ≡ true
  saves_listed page e o b read is = by (e.head.format == 2) refl is
    where
      by : (s : Bool) → (e.head.format == 2) ≡ s → (if s then base_in m o e.body else None) ≡ Some b → lists e o ≡ true
      by true two z = of_body page e o b e.body two refl (page_read page e read) z
      by false two z = no_base b z
