-- What is decoded is spelled so, what is spelled so is decoded, and the place of a fault is right.
use Rattle.std.proofs.Common.{◌≡◌, ◌≤◌, ℕ, true, false, Bool, cond, eqb, List, [], ◌∷◌, length, Result, Ok, Err, subst, arith}
use Rattle.std.specs.Prelude.{IfOk}
use Rattle.tg_base.specs.declared.marks.Part.{Part}
use Rattle.tg_base.specs.declared.marks.ReadMark.{ReadMark}
use Rattle.tg_entry.specs.declared.entry.WriteOp.{WriteOp}
use Rattle.tg_codec.specs.Whole.{whole, IsSpelling, IsLongestLawful}
use Rattle.tg_codec.proofs.Laws.{IsBytes, and-left, and-right}
use Rattle.tg_codec.specs.Codec.{u8, u16, u32, u64, raw, fixed, dep, many, text}
use Rattle.tg_codec.specs.Owing.{owing, points}
use Rattle.tg_codec.specs.Streams.{any, from_one, oid, link, after_link, links}
use Rattle.tg_codec.proofs.Shapes.{counted_len, behind_u16_len, dep_first, dep_second}
use Rattle.tg_codec.proofs.Wholes.{whole_law}
use Rattle.std.proofs.lemmas.Bool.{eqb-true}
use Rattle.tg_entry.specs.declared.entry.Entry.{Entry}
use Rattle.tg_entry.specs.declared.entry.Body.{Body}
use Rattle.tg_entry.specs.declared.entry.Body.TheVariants.{Commit, Decision, Checkpoint}
use Rattle.tg_entry.specs.declared.fault.EntryFault.{EntryFault}
use Rattle.tg_entry.specs.declared.fault.EntryFault.TheVariants as faults
use Rattle.tg_entry.specs.Answers.{Decodes, OnBadEntry}
use Rattle.tg_entry.specs.Reads.{marks, reads}
use Rattle.tg_entry.specs.Writes.{write, after_write, stream_numbers, writes}
use Rattle.tg_entry.specs.Checkpoints.{Fields, Ranges, key, after_key, first_key, keys, by_versions, by_version, new_rest, new_fields, is_plain, old_rest, from_fields, old_fields}
use Rattle.tg_entry.specs.Format.{tag_of, body, stream_counts, in_streams, by_number, by_client, of_tag, of_format, from_entry, entry}
use Rattle.tg_entry.specs.Short.{IsShortBody, IsShort}
use Rattle.tg_base.specs.declared.marks.StreamLink.{StreamLink}
use Rattle.tg_entry.proofs.Laws.{entry_law}

pub is_found : (bytes : List ℕ) (r : Result Entry EntryFault) → IsBytes bytes → Decodes r (whole entry bytes) → IfOk r (λ e. IsSpelling entry e bytes)
is_found bytes (Ok e) fits h = (whole_law entry_law bytes fits).found e h
is_found bytes (Err faults.NoMemory) fits h = tt
is_found bytes (Err (faults.BadEntry at)) fits h = tt
is_found bytes (Err (faults.TooLarge n)) fits h = tt

pub is_only : (bytes : List ℕ) (r : Result Entry EntryFault) (e : Entry) → IsBytes bytes → IsSpelling entry e bytes → Decodes r (whole entry bytes) → Decodes r (Ok e)
is_only bytes r e fits s h = subst (λ f. Decodes r f) ((whole_law entry_law bytes fits).only e s) h

pub is_placed : (bytes : List ℕ) (r : Result Entry EntryFault) → IsBytes bytes → Decodes r (whole entry bytes) → OnBadEntry r (IsLongestLawful entry bytes)
is_placed bytes (Ok e) fits h = tt
is_placed bytes (Err faults.NoMemory) fits h = tt
is_placed bytes (Err (faults.BadEntry at)) fits h = (whole_law entry_law bytes fits).place at h
is_placed bytes (Err (faults.TooLarge n)) fits h = tt

-- ---- counts fit their bytes

reads-short : (format : ℕ) → (rs : List ReadMark) → (reads format).fits rs ≡ true → length rs ≤ 255
unfolding reads
reads-short format rs e = omega (arith, counted_len ((0, 64) ∷ []) (marks format) rs e)

writes-short : (ls : List StreamLink) (ws : List WriteOp) → (writes ls).fits ws ≡ true → length ws ≤ 255
unfolding writes
writes-short ls ws e = omega (arith, counted_len ((length ls, 64) ∷ []) (λ n. many write after_write n (owing n (stream_numbers ls))) ws e)

keys-short : (whole version : ℕ) (ks : List (Part × ℕ)) → (keys whole version).fits ks ≡ true → length ks ≤ 65535
unfolding keys
keys-short whole version ks e = omega (arith, behind_u16_len any (λ n. many key after_key n (first_key whole version)) ks e)

abbrev IsShortFields : Fields → Type 0
IsShortFields f = (length f.1.1.1.1.0 ≤ 65535) × (length f.1.1.1.1.1 ≤ 65535)

new-short : (oids : Ranges) (f : Fields) → (new_fields oids).fits f ≡ true → IsShortFields f
unfolding new_fields
new-short oids f e =
    let h1 = dep_second (oid oids) (λ _. dep (u64 any) (λ _. new_rest)) f e in
    let h2 = dep_second (u64 any) (λ _. new_rest) f.1 h1 in
    let h3 = dep_second (u64 any) by_version f.1.1 h2 in
    let h4 = dep_second (u64 ((0, f.1.1.0) ∷ [])) (by_versions f.1.1.0) f.1.1.1 h3 in
    let ks = dep_first (keys f.1.1.1.0 f.1.1.0) (λ _. text any) f.1.1.1.1 h4 in
    let state = dep_second (keys f.1.1.1.0 f.1.1.0) (λ _. text any) f.1.1.1.1 h4 in
    let len = behind_u16_len any raw f.1.1.1.1.1 state in
    (keys-short f.1.1.1.0 f.1.1.0 f.1.1.1.1.0 ks, omega (arith, len))

old-short : (oids : Ranges) (f : Fields) → (old_fields oids).fits f ≡ true → IsShortFields f
unfolding old_fields
old-short oids f e =
    let plain = and-left (is_plain f) ((dep (oid oids) (λ _. old_rest)).fits (from_fields f)) e in
    let none : length f.1.1.1.1.0 ≡ 0 = eqb-true _ _ (and-right (eqb f.1.1.1.0 f.1.1.0) (eqb (length f.1.1.1.1.0) 0) plain) in
    let h0 = and-right (is_plain f) ((dep (oid oids) (λ _. old_rest)).fits (from_fields f)) e in
    let h1 = dep_second (oid oids) (λ _. old_rest) (from_fields f) h0 in
    let h2 = dep_second (u64 any) (λ _. dep (u64 any) (λ _. text any)) (from_fields f).1 h1 in
    let state = dep_second (u64 any) (λ _. text any) (from_fields f).1.1 h2 in
    let len = behind_u16_len any raw f.1.1.1.1.1 state in
    (omega (arith, none), omega (arith, len))

fields-short : (b : Bool) (oids : Ranges) (f : Fields) → (cond b (old_fields oids) (new_fields oids)).fits f ≡ true → IsShortFields f
fields-short true oids f e = old-short oids f e
fields-short false oids f e = new-short oids f e

body-short : (format : ℕ) (ls : List StreamLink) (x : Body) → (body format ls (tag_of x)).fits x ≡ true → IsShortBody x
unfolding body
body-short format ls (Commit rs ws) e = (reads-short format rs (dep_first (reads format) (λ _. writes ls) (rs, ws) e), writes-short ls ws (dep_second (reads format) (λ _. writes ls) (rs, ws) e))
body-short format ls (Decision at fate) e = tt
body-short format ls (Checkpoint o u v w ks s) e = fields-short (eqb format 1) (points (stream_numbers ls)) (o, (u, (v, (w, (ks, s))))) e

pub is_short : (e : Entry) → entry.fits e ≡ true → IsShort e
unfolding entry
is_short e fits =
    let p = from_entry e in
    let r = p.1 in
    let h1 = dep_second (fixed (0x54 ∷ [])) (λ _. of_format) p fits in
    let h2 = dep_second (u8 ((1, 2) ∷ [])) of_tag r h1 in
    let h3 = dep_second (u8 ((1, 3) ∷ [])) (by_client r.0) r.1 h2 in
    let h4 = dep_second (u16 any) (λ _. by_number r.0 r.1.0) r.1.1 h3 in
    let h5 = dep_second (u32 from_one) (λ _. in_streams r.0 r.1.0) r.1.1.1 h4 in
    let streams = dep_first (links (stream_counts r.1.0)) (λ ls. body r.0 ls r.1.0) r.1.1.1.1 h5 in
    let rest = dep_second (links (stream_counts r.1.0)) (λ ls. body r.0 ls r.1.0) r.1.1.1.1 h5 in
    let len = counted_len (stream_counts r.1.0) (λ n. many link after_link n 0) e.head.streams streams in
    record { streams = omega (arith, len); body = body-short e.head.format e.head.streams e.body rest }
