-- The format of entries keeps the law.
use Rattle.std.proofs.Common.{◌≡◌, ℕ, zero, suc, Bool, true, false, cond, eqb, ◌&&◌, List, [], ◌∷◌, length, Option, Some, refl, sym, ap, arith}
use Rattle.std.proofs.lemmas.Bool.{eqb-true}
use Rattle.std.proofs.lemmas.List.{nil_from_length}
use Rattle.tg_base.specs.declared.marks.Part.{Part}
use Rattle.tg_base.specs.declared.marks.Part.TheVariants.{All, Text, Num}
use Rattle.tg_base.specs.declared.marks.ReadMark.{ReadMark}
use Rattle.tg_base.specs.declared.marks.StreamLink.{StreamLink}
use Rattle.tg_codec.specs.Reading.{meets}
use Rattle.tg_codec.specs.Codec.{u8, u16, u32, fixed, dep, many}
use Rattle.tg_codec.specs.Bounds.{byte_above, after_byte}
use Rattle.tg_codec.specs.Owing.{Debt, owing}
use Rattle.tg_codec.specs.Streams.{any, from_one, oids_from, links}
use Rattle.tg_codec.proofs.Laws.{IsCodec, and-left, and-right, nothing_law, fixed_law, dep_law, via_law, narrow_law, many_law, variant_law, length-fit_many}
use Rattle.tg_codec.proofs.Widths.{u8_law, u16_law, u32_law, u64_law}
use Rattle.tg_codec.proofs.Shapes.{IsTable, behind_law, behind_many_law, counted_law, counted_many_law, text_law, tagged_law, chosen_law, chosen_len, table_law, table_tag, met_within, dep_second}
use Rattle.tg_codec.proofs.Bounds.{raw_above_law}
use Rattle.tg_codec.proofs.Objects.{oid_law, links_law}
use Rattle.tg_entry.specs.declared.entry.WriteOp.{WriteOp}
use Rattle.tg_entry.specs.declared.entry.Body.{Body}
use Rattle.tg_entry.specs.declared.entry.Body.TheVariants.{Commit, Decision, Checkpoint}
use Rattle.tg_entry.specs.declared.reads.LastRead.{LastRead}
use Rattle.tg_entry.specs.declared.checkpoints.KeyBound.{KeyBound}
use Rattle.tg_entry.specs.Parts.{part_tag, as_all, as_text, as_num, least_tag, text_bound, text_above, number_range, part_body, part_above}
use Rattle.tg_entry.specs.Reads.{bound_of, mark, after_mark, is_all, old_mark, after_old_mark, no_read, marks, reads}
use Rattle.tg_entry.specs.Writes.{write, after_write, stream_numbers, writes}
use Rattle.tg_entry.specs.Checkpoints.{key, after_key, first_key, keys, Fields, new_fields, is_plain, to_fields, from_fields, old_fields, fields, make_checkpoint, as_checkpoint}
use Rattle.tg_entry.specs.Format.{tag_of, as_commit, as_decision, commit, truth, decision, checkpoint, bodies, body, stream_counts, in_streams, by_number, by_client, of_tag, of_format, Row, to_entry, from_entry, entry}

-- ---- parts

all-back : (x : Part) (p : Unit {0}) → as_all x ≡ Some p → All ≡ x
all-back All p e = refl
all-back (Text t) p e = absurd cc
all-back (Num n) p e = absurd cc

text-back : (x : Part) (p : List ℕ) → as_text x ≡ Some p → Text p ≡ x
text-back All p e = absurd cc
text-back (Text t) p e = cc
text-back (Num n) p e = absurd cc

num-back : (x : Part) (p : ℕ) → as_num x ≡ Some p → Num p ≡ x
num-back All p e = absurd cc
num-back (Text t) p e = absurd cc
num-back (Num n) p e = cc

text_above_law : (bound : List ℕ) → IsCodec (text_above bound)
text_above_law bound = behind_law (u16_law _) (raw_above_law bound) (λ n xs e. length-fit_many byte_above after_byte n (bound, n) xs e)

part_body_law : (before : Option Part) (t : ℕ) → IsCodec (part_body before t)
part_body_law before zero = variant_law _ _ nothing_law (λ p. refl) all-back
part_body_law before (suc zero) = variant_law _ _ (text_above_law (text_bound before)) (λ p. refl) text-back
part_body_law before (suc (suc n)) = variant_law _ _ (u64_law (number_range before ∷ [])) (λ p. refl) num-back

-- the last tag is 2
last_tag : (low k : ℕ) → meets ((low, 2) ∷ []) (suc (suc k)) (suc (suc k)) ≡ true → 2 ≡ suc (suc k)
last_tag low k e = let h = met_within low 2 (suc (suc k)) e in omega (arith, h.1)

-- a body that fits has the tag
part-tag : (before : Option Part) (t : ℕ) (x : Part) → meets ((least_tag before, 2) ∷ []) t t ≡ true → (part_body before t).fits x ≡ true → part_tag x ≡ t
part-tag before zero All m e = refl
part-tag before zero (Text p) m e = absurd cc
part-tag before zero (Num n) m e = absurd cc
part-tag before (suc zero) All m e = absurd cc
part-tag before (suc zero) (Text p) m e = refl
part-tag before (suc zero) (Num n) m e = absurd cc
part-tag before (suc (suc k)) All m e = absurd cc
part-tag before (suc (suc k)) (Text p) m e = absurd cc
part-tag before (suc (suc k)) (Num n) m e = last_tag (least_tag before) k m

pub part_law : (before : Option Part) → IsCodec (part_above before)
part_law before = tagged_law _ part_tag (part_body before) (part_body_law before) (part-tag before)

-- ---- reads

mark_law : (last : LastRead) → IsCodec (mark last)
mark_law last =
    via_law (λ p. record { oid = p.0; part = p.1.0; version = p.1.1 }) (λ m. (m.oid, (m.part, m.version)))
    (dep_law (oid_law (oids_from last.oid)) (λ o. dep_law (part_law (bound_of last o)) (λ _. u64_law any))) (λ x e. refl) (λ y. refl)

is-all : (p : Part) → is_all p ≡ true → All ≡ p
is-all All e = refl
is-all (Text t) e = absurd cc
is-all (Num n) e = absurd cc

whole-again : (m : ReadMark) → is_all m.part ≡ true → record { oid = m.oid; part = All; version = m.version } ≡ m
whole-again m e = let same = is-all m.part e in λ i. record { oid = m.oid; part = same i; version = m.version }

old_mark_law : (low : ℕ) → IsCodec (old_mark low)
old_mark_law low = narrow_law _ _ _ (dep_law (oid_law _) (λ _. u64_law _)) (λ x e. refl) whole-again (λ x. refl)

marks_law : (format n : ℕ) → IsCodec (marks format n)
unfolding marks
marks_law format n = chosen_law (eqb format 1) (many old_mark after_old_mark n 0) (many mark after_mark n no_read) (many_law old_mark after_old_mark old_mark_law n 0) (many_law mark after_mark mark_law n no_read)

marks_len : (format n : ℕ) (xs : List ReadMark) → (marks format n).fits xs ≡ true → length xs ≡ n
unfolding marks
marks_len format n xs e =
    chosen_len (eqb format 1) (many old_mark after_old_mark n 0) (many mark after_mark n no_read) xs n (λ h. length-fit_many old_mark after_old_mark n 0 xs h) (λ h. length-fit_many mark after_mark n no_read xs h) e

reads_law : (format : ℕ) → IsCodec (reads format)
unfolding reads
reads_law format = counted_law _ (marks format) (marks_law format) (marks_len format)

-- ---- writes

write_law : (o : Debt) → IsCodec (write o)
write_law o = via_law _ _ (dep_law (oid_law _) (λ _. text_law _)) (λ x e. refl) (λ y. refl)

writes_law : (ls : List StreamLink) → IsCodec (writes ls)
unfolding writes
writes_law ls = counted_many_law _ write after_write (λ n. owing n (stream_numbers ls)) write_law

-- ---- checkpoints

key_law : (s : KeyBound) → IsCodec (key s)
key_law s = dep_law (part_law s.part) (λ _. u64_law _)

keys_law : (whole version : ℕ) → IsCodec (keys whole version)
unfolding keys
keys_law whole version = behind_many_law key after_key (λ n. first_key whole version) (u16_law _) key_law

new_fields_law : (oids : List (ℕ × ℕ)) → IsCodec (new_fields oids)
unfolding new_fields
new_fields_law oids =
    dep_law (oid_law oids) (λ _. dep_law (u64_law _) (λ _. dep_law (u64_law _) (λ version. dep_law (u64_law _) (λ whole. dep_law (keys_law whole version) (λ _. text_law _)))))

plain-again : (f : Fields) → is_plain f ≡ true → ◌≡◌ {A = Fields} (f.0, (f.1.0, (f.1.1.0, (f.1.1.0, ([], f.1.1.1.1.1))))) f
plain-again f e =
    let same : f.1.1.1.0 ≡ f.1.1.0 = eqb-true _ _ (and-left _ _ e) in
    let none : f.1.1.1.1.0 ≡ [] = nil_from_length f.1.1.1.1.0 (eqb-true _ _ (and-right _ _ e)) in
    λ i. (f.0, (f.1.0, (f.1.1.0, (sym same i, (sym none i, f.1.1.1.1.1)))))

self-equal : (n : ℕ) → (eqb n n && true) ≡ true
self-equal n = let same : eqb n n ≡ true = grind arith in rw same refl

old_fields_law : (oids : List (ℕ × ℕ)) → IsCodec (old_fields oids)
unfolding old_fields
old_fields_law oids = narrow_law is_plain to_fields from_fields (dep_law (oid_law oids) (λ _. dep_law (u64_law _) (λ _. dep_law (u64_law _) (λ _. text_law _)))) (λ x e. refl) plain-again (λ x. self-equal x.1.1.0)

-- ---- bodies

inner : {A : Type 0} (p q : A) → Some p ≡ Some q → p ≡ q
inner p q e = cc

commit-back : (x : Body) (p : List ReadMark × List WriteOp) → as_commit x ≡ Some p → Commit p.0 p.1 ≡ x
commit-back (Commit rs ws) p e = ap (λ (q : List ReadMark × List WriteOp). Commit q.0 q.1) (sym (inner (rs, ws) p e))
commit-back (Decision at fate) p e = absurd cc
commit-back (Checkpoint o u v w ks s) p e = absurd cc

decision-back : (x : Body) (p : ℕ × Bool) → as_decision x ≡ Some p → Decision p.0 p.1 ≡ x
decision-back (Commit rs ws) p e = absurd cc
decision-back (Decision at fate) p e = ap (λ (q : ℕ × Bool). Decision q.0 q.1) (sym (inner (at, fate) p e))
decision-back (Checkpoint o u v w ks s) p e = absurd cc

checkpoint-back : (x : Body) (p : Fields) → as_checkpoint x ≡ Some p → make_checkpoint p ≡ x
checkpoint-back (Commit rs ws) p e = absurd cc
checkpoint-back (Decision at fate) p e = absurd cc
checkpoint-back (Checkpoint o u v w ks s) p e = ap make_checkpoint (sym (inner (o, (u, (v, (w, (ks, s))))) p e))

bit-back : (n : ℕ) → (u8 ((0, 1) ∷ [])).fits n ≡ true → cond (eqb n 1) 1 0 ≡ n
bit-back zero e = refl
bit-back (suc zero) e = refl
bit-back (suc (suc k)) e = let h = met_within 0 1 (suc (suc k)) (and-left _ _ e) in absurd (omega (arith, h.1))

bit-again : (b : Bool) → eqb (cond b 1 0) 1 ≡ b
bit-again true = refl
bit-again false = refl

truth_law : IsCodec truth
truth_law = via_law _ _ (u8_law _) bit-back bit-again

commit_law : (format : ℕ) (ls : List StreamLink) → IsCodec (commit format ls)
commit_law format ls = variant_law _ _ (dep_law (reads_law format) (λ _. writes_law ls)) (λ p. refl) commit-back

decision_law : IsCodec decision
decision_law = variant_law _ _ (dep_law (u64_law _) (λ _. truth_law)) (λ p. refl) decision-back

fields_law : (format : ℕ) (oids : List (ℕ × ℕ)) → IsCodec (fields format oids)
fields_law format oids = chosen_law (eqb format 1) (old_fields oids) (new_fields oids) (old_fields_law oids) (new_fields_law oids)

checkpoint_law : (format : ℕ) (ls : List StreamLink) → IsCodec (checkpoint format ls)
checkpoint_law format ls = variant_law _ _ (fields_law format _) (λ p. refl) checkpoint-back

commit-tag : (format : ℕ) (ls : List StreamLink) (x : Body) → (commit format ls).fits x ≡ true → tag_of x ≡ 1
commit-tag format ls (Commit rs ws) e = refl
commit-tag format ls (Decision at fate) e = absurd cc
commit-tag format ls (Checkpoint o u v w ks s) e = absurd cc

decision-tag : (x : Body) → decision.fits x ≡ true → tag_of x ≡ 2
decision-tag (Commit rs ws) e = absurd cc
decision-tag (Decision at fate) e = refl
decision-tag (Checkpoint o u v w ks s) e = absurd cc

checkpoint-tag : (format : ℕ) (ls : List StreamLink) (x : Body) → (checkpoint format ls).fits x ≡ true → tag_of x ≡ 3
checkpoint-tag format ls (Commit rs ws) e = absurd cc
checkpoint-tag format ls (Decision at fate) e = absurd cc
checkpoint-tag format ls (Checkpoint o u v w ks s) e = refl

is_table : (format : ℕ) (ls : List StreamLink) → IsTable tag_of (bodies format ls)
is_table format ls = ((commit_law format ls, commit-tag format ls), ((decision_law, decision-tag), ((checkpoint_law format ls, checkpoint-tag format ls), tt)))

body_law : (format : ℕ) (ls : List StreamLink) (tag : ℕ) → IsCodec (body format ls tag)
unfolding body
body_law format ls tag = table_law tag_of (bodies format ls) (is_table format ls) tag

body-tag : (format : ℕ) (ls : List StreamLink) (tag : ℕ) (x : Body) → (body format ls tag).fits x ≡ true → tag_of x ≡ tag
unfolding body
body-tag format ls tag x e = table_tag tag_of (bodies format ls) (is_table format ls) tag x e

-- ---- entries

retagged : (p : Unit {0} × Row) → tag_of p.1.1.1.1.1.1 ≡ p.1.1.0 → from_entry (to_entry p) ≡ p
retagged p e = λ i. (p.0, (p.1.0, (e i, p.1.1.1)))

-- the tag of a row that fits is its body's
row-tag : (p : Unit {0} × Row) → (dep (fixed (0x54 ∷ [])) (λ _. of_format)).fits p ≡ true → tag_of p.1.1.1.1.1.1 ≡ p.1.1.0
row-tag p e =
    let r = p.1 in
    let h1 = dep_second (fixed (0x54 ∷ [])) (λ _. of_format) p e in
    let h2 = dep_second (u8 ((1, 2) ∷ [])) of_tag r h1 in
    let h3 = dep_second (u8 ((1, 3) ∷ [])) (by_client r.0) r.1 h2 in
    let h4 = dep_second (u16 any) (λ _. by_number r.0 r.1.0) r.1.1 h3 in
    let h5 = dep_second (u32 from_one) (λ _. in_streams r.0 r.1.0) r.1.1.1 h4 in
    let h6 = dep_second (links (stream_counts r.1.0)) (λ ls. body r.0 ls r.1.0) r.1.1.1.1 h5 in
    body-tag r.0 r.1.1.1.1.0 r.1.0 r.1.1.1.1.1 h6

of_format_law : IsCodec of_format
of_format_law =
    dep_law (u8_law _) (λ format. dep_law (u8_law _) (λ tag. dep_law (u16_law _) (λ _. dep_law (u32_law _) (λ _. dep_law (links_law _) (λ ls. body_law format ls tag)))))

pub entry_law : IsCodec entry
unfolding entry
entry_law = via_law to_entry from_entry (dep_law (fixed_law _) (λ _. of_format_law)) (λ p e. retagged p (row-tag p e)) (λ y. refl)
