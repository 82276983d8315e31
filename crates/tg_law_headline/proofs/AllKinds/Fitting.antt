-- What the store's kinds read of the spelling of an op has a spelling too, whatever was spelled.
use Rattle.std.proofs.Common.{◌≡◌, ℕ, zero, suc, ◌-◌, ◌<◌, ◌^◌, Bool, true, false, cond, List, [], ◌∷◌, ◌++◌, length, Ok, Err, Some, None, refl, sym, ap, ◌∙◌, subst, arith}
use Rattle.std.specs.Prelude.{◌&&◌, ◌==◌, nat_lt, if◌then◌else◌}
use Rattle.std.specs.Int.{w32, w64, to_be_bytes, cast_signed}
use Rattle.std.proofs.lemmas.Bool.{eqb-true, lt-ltb}
use Rattle.std.proofs.lemmas.Int.{ints}
use Rattle.tg_codec.specs.Reading.{Read, meets, u32_at}
use Rattle.tg_codec.specs.Codec.{Codec, u8, u16, u32, u64, fixed, dep, behind, tagged, from_table, fit_many, many, variant, nothing, never}
use Rattle.tg_codec.specs.Bounds.{same_ranges, raw_in}
use Rattle.tg_codec.specs.Streams.{any, oids_from}
use Rattle.tg_codec.proofs.Laws.{IsBytes, both}
use Rattle.tg_codec.proofs.Numbers.{worth, number_takes}
use Rattle.tg_codec.proofs.Shapes.{met_within}
use Rattle.tg_codec.proofs.Widths.{u8_law, u32_law, wide_w32}
use Rattle.tg_kind.specs.Of.{read_by}
use Rattle.tg_kind.specs.Texts.{text_bytes, text_format}
use Rattle.tg_kind.specs.Words.{after}
use Rattle.tg_dir.specs.Directories as directories
use Rattle.tg_dir.specs.declared.directory.DirectoryOp.TheVariants.{Name, Mark}
use Rattle.tg_dir.specs.Spellings.{object}
use Rattle.tg_cell.specs.Signed.{in_i64, i64, spells_i64}
use Rattle.tg_cell.specs.Counters as counters
use Rattle.tg_cell.specs.declared.counter.CounterOp.TheVariants.{Add}
use Rattle.tg_cell.specs.Registers as registers
use Rattle.tg_cell.specs.declared.register.RegisterOp.TheVariants.{Write}
use Rattle.tg_map.specs.Maps as maps
use Rattle.tg_map.specs.declared.map.MapOp.TheVariants as map
use Rattle.tg_list.specs.TextLists as lists
use Rattle.tg_list.specs.declared.text_list.TextListOp.{TextListOp}
use Rattle.tg_list.specs.declared.text_list.TextListOp.TheVariants as list
use Rattle.tg_tree.specs.Paths.{next_bytes, path_byte, after_byte, path_body, path_format}
use Rattle.tg_tree.specs.Trees as trees
use Rattle.tg_tree.specs.declared.tree.TreeOp.{TreeOp}
use Rattle.tg_tree.specs.declared.tree.TreeOp.TheVariants as tree
use Rattle.tg_set.specs.Sets as sets
use Rattle.tg_set.specs.declared.set.SetOp.TheVariants as set
use Rattle.tg_any.specs.Anys as any_kind
use Rattle.tg_any.specs.declared.any.AnyOp.{AnyOp}
use Rattle.tg_any.specs.declared.any.AnyOp.TheVariants as ops
use Rattle.tg_law_walks.proofs.Drafts.Heads.{ok_is, shape, dep_front}
use Rattle.tg_law_walks.proofs.Drafts.Ranges.{Reads, reads_dep, reads_shape, reads_many, u8_met, u16_met, u64_met}
use Rattle.tg_law_headline.specs.AllKinds.Kinds.{KindsReadBack}
use Rattle.tg_law_headline.proofs.AllKinds.Touching.{letter_small, path_small}

-- each value that a format reads has a spelling, whatever the bytes are
abbrev FitsRead : {A : Type 0} → Codec A → Type 0
FitsRead c = Reads c (λ x. c.fits x ≡ true)

fits_dep : {A B : Type 0} (a : Codec A) (b : A → Codec B) → FitsRead a → ((x : A) → FitsRead (b x)) → FitsRead (dep a b)
fits_dep a b first second bytes p left e =
    let s = reads_dep a b (λ x. a.fits x ≡ true) (λ x y. (b x).fits y ≡ true) first (λ x h. second x) bytes p left e in
    both (a.fits p.0) ((b p.0).fits p.1) s.0 s.1

-- Numbers.

fits_object : FitsRead object
unfolding u32_at
fits_object = reads_shape (λ n. record { 0 = n }) (u32 (oids_from 0)) (λ n. (u32 (oids_from 0)).fits n ≡ true) (λ o. object.fits o ≡ true) number (λ n h. h)
  where
    low : (n : ℕ) → meets (oids_from 0) n n ≡ true → nat_lt n (2 ^ 32) ≡ true
    low n e = grind (arith, e)

    number : FitsRead (u32 (oids_from 0))
    number bytes n rest e = let met = (number_takes (oids_from 0) 3 0 bytes n rest e).met in both (meets (oids_from 0) n n) (nat_lt n (2 ^ 32)) met (low n met)

fits_number : FitsRead (u64 any)
fits_number bytes n rest e =
    let met = u64_met any bytes n rest e in
    let top = (met_within 0 (2 ^ 64 - 1) n met).1 in
    both (meets any n n) (nat_lt n (2 ^ 64)) met (lt-ltb n (2 ^ 64) (omega (arith, top)))

fits_signed : FitsRead i64
fits_signed = reads_shape (cast_signed w64) (u64 any) (λ n. Unit {0}) (λ z. i64.fits z ≡ true) (λ bytes n rest e. tt) (λ n h. spells_i64 (cast_signed w64 n) (casts n))
  where
    casts : (n : ℕ) → in_i64 (cast_signed w64 n) ≡ true
    casts n = grind (arith, ints)

-- Texts and paths.

fits_behind : (counts : List (ℕ × ℕ)) (body : ℕ → Codec (List ℕ)) → ((n : ℕ) → meets counts n n ≡ true → nat_lt n (2 ^ 16) ≡ true) → ((n : ℕ) → Reads (body n) (λ t. (length t ≡ n) × ((body (length t)).fits t ≡ true))) → FitsRead (behind (u16 counts) body)
fits_behind counts body low each =
    reads_shape (λ p. p.1) (dep (u16 counts) body) (λ p. (meets counts p.0 p.0 ≡ true) × ((length p.1 ≡ p.0) × ((body (length p.1)).fits p.1 ≡ true))) (λ t. (behind (u16 counts) body).fits t ≡ true)
    (reads_dep (u16 counts) body (λ n. meets counts n n ≡ true) (λ n t. (length t ≡ n) × ((body (length t)).fits t ≡ true)) (u16_met counts) (λ n k. each n)) (λ p h. sized p.0 p.1 h.0 h.1.0 h.1.1)
  where
    sized : (n : ℕ) (t : List ℕ) → meets counts n n ≡ true → length t ≡ n → (body (length t)).fits t ≡ true → (behind (u16 counts) body).fits t ≡ true
    sized n t met is fits = both ((u16 counts).fits (length t)) ((body (length t)).fits t) (subst (λ (k : ℕ). (u16 counts).fits k ≡ true) (sym is) (both (meets counts n n) (nat_lt n (2 ^ 16)) met (low n met))) fits

few : (n : ℕ) → meets ((1, 4096) ∷ []) n n ≡ true → nat_lt n (2 ^ 16) ≡ true
few n e = let top = (met_within 1 4096 n e).1 in lt-ltb n (2 ^ 16) (omega (arith, top))

fits_text : FitsRead text_format
unfolding fit_many
fits_text = fits_behind ((1, 4096) ∷ []) (raw_in text_bytes) few (λ n bytes t left e. let h = letters n text_bytes bytes t left e in (h.0, h.1 refl))
  where
    one : (s : List (ℕ × ℕ)) (b : ℕ) (rest : List ℕ) (bytes : List ℕ) → (u8 s).read bytes ≡ Ok (b, rest) → s ≡ text_bytes → (u8 s).fits b ≡ true
    one s b rest bytes e is = both (meets s b b) (nat_lt b 256) (u8_met s bytes b rest e) (letter_small b (subst (λ (r : List (ℕ × ℕ)). meets r b b ≡ true) is (u8_met s bytes b rest e)))

    letters : (n : ℕ) (s : List (ℕ × ℕ)) (bytes t left : List ℕ) → (raw_in s n).read bytes ≡ Ok (t, left) → (length t ≡ n) × (s ≡ text_bytes → fit_many u8 same_ranges (length t) s t ≡ true)
    letters n s = reads_many u8 same_ranges (λ s b. s ≡ text_bytes → (u8 s).fits b ≡ true) (λ s bs. s ≡ text_bytes → fit_many u8 same_ranges (length bs) s bs ≡ true) (λ s is. refl)
        (λ s b bs p q is. both ((u8 s).fits b) (fit_many u8 same_ranges (length bs) s bs) (p is) (q is)) (λ s bytes b rest e is. one s b rest bytes e is) n s

fits_path : FitsRead path_format
unfolding fit_many
fits_path = fits_behind ((1, 4096) ∷ []) path_body few each
  where
    steps : (n : ℕ) (s : ℕ × ℕ) (bytes t left : List ℕ) → (many path_byte after_byte n s).read bytes ≡ Ok (t, left) → (length t ≡ n) × (fit_many path_byte after_byte (length t) s t ≡ true)
    steps n s = reads_many path_byte after_byte (λ s b. (path_byte s).fits b ≡ true) (λ s bs. fit_many path_byte after_byte (length bs) s bs ≡ true) (λ s. refl)
        (λ s b bs p q. both ((path_byte s).fits b) (fit_many path_byte after_byte (length bs) (after_byte s b) bs) p q)
        (λ s bytes b rest e. both (meets (next_bytes s) b b) (nat_lt b 256) (u8_met (next_bytes s) bytes b rest e) (path_small s b (u8_met (next_bytes s) bytes b rest e))) n s

    each : (n : ℕ) → Reads (path_body n) (λ t. (length t ≡ n) × ((path_body (length t)).fits t ≡ true))
    each n bytes t left e = let h = steps n (n, 0) bytes t left e in (h.0, subst (λ (k : ℕ). fit_many path_byte after_byte (length t) (k, 0) t ≡ true) (sym h.0) h.1)

-- Ops behind their codes.

fits_after : {A : Type 0} (code : ℕ) (c : Codec A) → FitsRead c → FitsRead (after code c)
fits_after code c first =
    reads_shape (λ p. p.1) (dep (fixed (code ∷ [])) (λ u. c)) (λ p. Unit {0} × (c.fits p.1 ≡ true)) (λ x. (after code c).fits x ≡ true)
    (reads_dep (fixed (code ∷ [])) (λ u. c) (λ u. Unit {0}) (λ u x. c.fits x ≡ true) (λ bytes u rest e. tt) (λ u h. first)) (λ p h. h.1)

-- an op of a code, which its body spells
abbrev IsCoded : {X : Type 0} → (X → ℕ) → (ℕ → Codec X) → ℕ → X → Type 0
IsCoded tag body n x = (tag x ≡ n) × ((body n).fits x ≡ true)

coded : {X : Type 0} (tags : List (ℕ × ℕ)) (tag : X → ℕ) (body : ℕ → Codec X) (n : ℕ) (x : X) → (u8 tags).fits n ≡ true → IsCoded tag body n x → (tagged tags tag body).fits x ≡ true
coded tags tag body n x fits h = subst (λ (k : ℕ). ((u8 tags).fits k && (body k).fits x) ≡ true) (sym h.0) (both ((u8 tags).fits n) ((body n).fits x) fits h.1)

fits_tagged : {X : Type 0} (tags : List (ℕ × ℕ)) (tag : X → ℕ) (body : ℕ → Codec X) → ((n : ℕ) → meets tags n n ≡ true → nat_lt n 256 ≡ true) → ((n : ℕ) → meets tags n n ≡ true → Reads (body n) (IsCoded tag body n)) → FitsRead (tagged tags tag body)
fits_tagged tags tag body low each =
    reads_shape (λ p. p.1) (dep (u8 tags) body) (λ p. (meets tags p.0 p.0 ≡ true) × IsCoded tag body p.0 p.1) (λ x. (tagged tags tag body).fits x ≡ true)
    (reads_dep (u8 tags) body (λ n. meets tags n n ≡ true) (λ n x. IsCoded tag body n x) (u8_met tags) (λ n h. each n h))
    (λ p h. coded tags tag body p.0 p.1 (both (meets tags p.0 p.0) (nat_lt p.0 256) h.0 (low p.0 h.0)) h.1)

small_range : (low high : ℕ) → high < 256 → (n : ℕ) → meets ((low, high) ∷ []) n n ≡ true → nat_lt n 256 ≡ true
small_range low high less n e = let top = (met_within low high n e).1 in lt-ltb n 256 (omega (arith, top, less))

-- of two codes the second, where it isn't the first
other : (low n : ℕ) → meets ((low, suc low) ∷ []) n n ≡ true → (n == low) ≡ false → suc low ≡ n
other low n e differs = let m = met_within low (suc low) n e in let a = m.0 in let b = m.1 in grind (arith, a, b, differs)

fits_directory : FitsRead directories.op_format
unfolding directories.op_format
fits_directory = fits_tagged ((1, 2) ∷ []) directories.code_of directories.op_body (small_range 1 2 (omega arith)) (λ n met. body n (n == 1) refl met)
  where
    body : (n : ℕ) (b : Bool) → (n == 1) ≡ b → meets ((1, 2) ∷ []) n n ≡ true → Reads (cond b directories.name_format directories.mark_format) (λ x. (directories.code_of x ≡ n) × ((cond b directories.name_format directories.mark_format).fits x ≡ true))
    body n true is met = reads_shape (λ p. Name p.0 p.1) (dep text_format (λ t. object)) (λ p. (dep text_format (λ t. object)).fits p ≡ true) (λ x. (directories.code_of x ≡ n) × (directories.name_format.fits x ≡ true)) (fits_dep text_format (λ t. object) fits_text (λ t. fits_object)) (λ p h. (sym (eqb-true n 1 is), h))
    body n false is met = reads_shape (λ p. Mark p.0 p.1) (dep object (λ o. u64 any)) (λ p. (dep object (λ o. u64 any)).fits p ≡ true) (λ x. (directories.code_of x ≡ n) × (directories.mark_format.fits x ≡ true)) (fits_dep object (λ o. u64 any) fits_object (λ o. fits_number)) (λ p h. (other 1 n met is, h))

fits_counter : FitsRead counters.op_format
fits_counter = reads_shape Add (after 0x10 i64) (λ z. (after 0x10 i64).fits z ≡ true) (λ x. counters.op_format.fits x ≡ true) (fits_after 0x10 i64 fits_signed) (λ z h. h)

fits_register : FitsRead registers.op_format
fits_register = reads_shape Write (after 0x20 text_format) (λ t. (after 0x20 text_format).fits t ≡ true) (λ x. registers.op_format.fits x ≡ true) (fits_after 0x20 text_format fits_text) (λ t h. h)

fits_map : FitsRead maps.op_format
unfolding maps.op_format
fits_map = fits_tagged ((0x30, 0x31) ∷ []) maps.op_code (λ code. if code == 0x30 then maps.set_format else maps.unset_format) (small_range 0x30 0x31 (omega arith)) (λ n met. body n (n == 0x30) refl met)
  where
    body : (n : ℕ) (b : Bool) → (n == 0x30) ≡ b → meets ((0x30, 0x31) ∷ []) n n ≡ true → Reads (cond b maps.set_format maps.unset_format) (λ x. (maps.op_code x ≡ n) × ((cond b maps.set_format maps.unset_format).fits x ≡ true))
    body n true is met = reads_shape (λ p. map.Set p.0 p.1) (dep text_format (λ t. text_format)) (λ p. (dep text_format (λ t. text_format)).fits p ≡ true) (λ x. (maps.op_code x ≡ n) × (maps.set_format.fits x ≡ true)) (fits_dep text_format (λ t. text_format) fits_text (λ t. fits_text)) (λ p h. (sym (eqb-true n 0x30 is), h))
    body n false is met = reads_shape map.Unset text_format (λ t. text_format.fits t ≡ true) (λ x. (maps.op_code x ≡ n) × (maps.unset_format.fits x ≡ true)) fits_text (λ t h. (other 0x30 n met is, h))

fits_set : FitsRead sets.op_format
unfolding sets.op_format
fits_set = fits_tagged ((0x60, 0x61) ∷ []) sets.op_code (λ code. if code == 0x60 then sets.include_format else sets.exclude_format) (small_range 0x60 0x61 (omega arith)) (λ n met. body n (n == 0x60) refl met)
  where
    body : (n : ℕ) (b : Bool) → (n == 0x60) ≡ b → meets ((0x60, 0x61) ∷ []) n n ≡ true → Reads (cond b sets.include_format sets.exclude_format) (λ x. (sets.op_code x ≡ n) × ((cond b sets.include_format sets.exclude_format).fits x ≡ true))
    body n true is met = reads_shape set.Include (u64 any) (λ t. (u64 any).fits t ≡ true) (λ x. (sets.op_code x ≡ n) × (sets.include_format.fits x ≡ true)) fits_number (λ t h. (sym (eqb-true n 0x60 is), h))
    body n false is met = reads_shape set.Exclude (u64 any) (λ t. (u64 any).fits t ≡ true) (λ x. (sets.op_code x ≡ n) × (sets.exclude_format.fits x ≡ true)) fits_number (λ t h. (other 0x60 n met is, h))

abbrev created : Codec TreeOp
created = variant (λ x. tree.Create x.0 x.1) trees.as_create trees.path_and_text

abbrev stored : Codec TreeOp
stored = variant (λ x. tree.Store x.0 x.1) trees.as_store trees.path_and_text

abbrev deleted : Codec TreeOp
deleted = variant tree.Delete trees.as_delete path_format

abbrev tree_body : Bool → Bool → Bool → Codec TreeOp
tree_body a b c = cond a created (cond b stored (cond c deleted never))

tree_fits : (n : ℕ) (a b c : Bool) → (n == 0x50) ≡ a → (n == 0x51) ≡ b → (n == 0x52) ≡ c → Reads (tree_body a b c) (λ x. (trees.code_of x ≡ n) × ((tree_body a b c).fits x ≡ true))
tree_fits n true b c e f g = reads_shape (λ p. tree.Create p.0 p.1) trees.path_and_text (λ p. trees.path_and_text.fits p ≡ true) (λ x. (trees.code_of x ≡ n) × (created.fits x ≡ true)) (fits_dep path_format (λ t. text_format) fits_path (λ t. fits_text)) (λ p h. (sym (eqb-true n 0x50 e), h))
tree_fits n false true c e f g = reads_shape (λ p. tree.Store p.0 p.1) trees.path_and_text (λ p. trees.path_and_text.fits p ≡ true) (λ x. (trees.code_of x ≡ n) × (stored.fits x ≡ true)) (fits_dep path_format (λ t. text_format) fits_path (λ t. fits_text)) (λ p h. (sym (eqb-true n 0x51 f), h))
tree_fits n false false true e f g = reads_shape tree.Delete path_format (λ t. path_format.fits t ≡ true) (λ x. (trees.code_of x ≡ n) × (deleted.fits x ≡ true)) fits_path (λ t h. (sym (eqb-true n 0x52 g), h))
tree_fits n false false false e f g = λ bytes x rest h. absurd (cc)

fits_tree : FitsRead trees.op_format
fits_tree = fits_tagged ((0x50, 0x52) ∷ []) trees.code_of (from_table trees.op_bodies) (small_range 0x50 0x52 (omega arith)) (λ n met. tree_fits n (n == 0x50) (n == 0x51) (n == 0x52) refl refl refl)

-- A list's op has a place in four bytes. Of numbers that are no bytes one is read that has no spelling, so here what is read was
-- spelled.

abbrev IsListOp : ℕ → TextListOp → Type 0
IsListOp n x = IsCoded lists.code (from_table lists.ops) n x

word_bytes : (n : ℕ) → IsBytes (to_be_bytes w32 n)
word_bytes n zero = omega arith
word_bytes n (suc zero) = omega arith
word_bytes n (suc (suc zero)) = omega arith
word_bytes n (suc (suc (suc zero))) = omega arith
word_bytes n (suc (suc (suc (suc i)))) = omega arith

-- the number that four bytes spell
record Spelled (n : ℕ) : Type 0 where
  number : ℕ
  spelled : lists.place.spell number ≡ to_be_bytes w32 n
  fits : lists.place.fits number ≡ true

spelled_place : (n : ℕ) → Spelled n
spelled_place n =
    let b = wide_w32.back (to_be_bytes w32 n) refl (word_bytes n) in
    let less = b.1 in
    record {
      number = worth (to_be_bytes w32 n);
      spelled = b.0;
      fits = both (meets any (worth (to_be_bytes w32 n)) (worth (to_be_bytes w32 n))) (nat_lt (worth (to_be_bytes w32 n)) (2 ^ 32)) (free (worth (to_be_bytes w32 n)) less) (lt-ltb (worth (to_be_bytes w32 n)) (2 ^ 32) less);
    }
  where
    free : (k : ℕ) → k < 2 ^ 32 → meets any k k ≡ true
    free k less = grind (arith, less)

place_back : (n : ℕ) (rest : List ℕ) (x : ℕ) (left : List ℕ) → lists.place.read (to_be_bytes w32 n ++ rest) ≡ Ok (x, left) → (lists.place.fits x ≡ true) × (rest ≡ left)
place_back n rest x left e =
    let s = spelled_place n in
    let r = sym ((u32_law any).exact.again s.number rest s.fits) ∙ (ap (λ (bs : List ℕ). lists.place.read (bs ++ rest)) s.spelled ∙ e) in
    let same = ok_is (s.number, rest) (x, left) r in
    (subst (λ (k : ℕ). lists.place.fits k ≡ true) (ap (λ (p : ℕ × List ℕ). p.0) same) s.fits, ap (λ (p : ℕ × List ℕ). p.1) same)

-- behind a code
list_coded : (n : ℕ) (rest : List ℕ) (op : TextListOp) (left : List ℕ) → (u8 lists.codes).fits n ≡ true → ((x : TextListOp) (r : List ℕ) → (from_table lists.ops n).read rest ≡ Ok (x, r) → IsListOp n x) → (tagged lists.codes lists.code (from_table lists.ops)).read ((n ∷ []) ++ rest) ≡ Ok (op, left) → (tagged lists.codes lists.code (from_table lists.ops)).fits op ≡ true
list_coded n rest op left fits each e = by ((dep (u8 lists.codes) (from_table lists.ops)).read ((n ∷ []) ++ rest)) refl e
  where
    by : (r : Read (ℕ × TextListOp)) → (dep (u8 lists.codes) (from_table lists.ops)).read ((n ∷ []) ++ rest) ≡ r → shape (λ (p : ℕ × TextListOp). p.1) r ≡ Ok (op, left) → (tagged lists.codes lists.code (from_table lists.ops)).fits op ≡ true
    by (Ok x) f g =
        let s = ok_is (x.0.1, x.1) (op, left) g in
        let d = dep_front (from_table lists.ops) (u8_law lists.codes).exact n rest x.0 x.1 fits f in
        subst (λ (y : TextListOp). (tagged lists.codes lists.code (from_table lists.ops)).fits y ≡ true) (ap (λ (q : TextListOp × List ℕ). q.0) s)
        (coded lists.codes lists.code (from_table lists.ops) n x.0.1 fits (each x.0.1 x.1 d.1))
    by (Err k) f g = absurd cc

list_back : (op x : TextListOp) (left : List ℕ) → lists.op_format.read (lists.op_format.spell op) ≡ Ok (x, left) → lists.op_format.fits x ≡ true
unfolding lists.op_format
list_back (list.PushFront t) x left = list_coded 0x40 (text_format.spell t) x left refl (reads_shape list.PushFront text_format (λ s. text_format.fits s ≡ true) (IsListOp 0x40) fits_text (λ s h. (refl, h)) (text_format.spell t))
list_back (list.PushBack t) x left = list_coded 0x41 (text_format.spell t) x left refl (reads_shape list.PushBack text_format (λ s. text_format.fits s ≡ true) (IsListOp 0x41) fits_text (λ s h. (refl, h)) (text_format.spell t))
list_back (list.Insert at t) x left = list_coded 0x42 (lists.place.spell at ++ text_format.spell t) x left refl insert
  where
    insert : (y : TextListOp) (r : List ℕ) → lists.insert_op.read (lists.place.spell at ++ text_format.spell t) ≡ Ok (y, r) → IsListOp 0x42 y
    insert y r e = by ((dep lists.place (λ s. text_format)).read (lists.place.spell at ++ text_format.spell t)) refl e
      where
        s : Spelled at
        s = spelled_place at

        by : (q : Read (ℕ × List ℕ)) → (dep lists.place (λ s. text_format)).read (lists.place.spell at ++ text_format.spell t) ≡ q → shape (λ (p : ℕ × List ℕ). list.Insert p.0 p.1) q ≡ Ok (y, r) → IsListOp 0x42 y
        by (Ok p) f g =
            let d = dep_front (λ (n : ℕ). text_format) (u32_law any).exact s.number (text_format.spell t) p.0 p.1 s.fits (ap (λ (bs : List ℕ). (dep lists.place (λ s. text_format)).read (bs ++ text_format.spell t)) s.spelled ∙ f) in
            let low = subst (λ (k : ℕ). lists.place.fits k ≡ true) (sym d.0) s.fits in
            subst (IsListOp 0x42) (ap (λ (q : TextListOp × List ℕ). q.0) (ok_is (list.Insert p.0.0 p.0.1, p.1) (y, r) g)) (refl, both (lists.place.fits p.0.0) (text_format.fits p.0.1) low (fits_text (text_format.spell t) p.0.1 p.1 d.1))
        by (Err k) f g = absurd cc
list_back (list.Remove at) x left = list_coded 0x43 (lists.place.spell at) x left refl remove
  where
    remove : (y : TextListOp) (r : List ℕ) → lists.remove_op.read (lists.place.spell at) ≡ Ok (y, r) → IsListOp 0x43 y
    remove y r e = by (lists.place.read (lists.place.spell at ++ [])) refl e
      where
        by : (q : Read ℕ) → lists.place.read (lists.place.spell at ++ []) ≡ q → shape list.Remove q ≡ Ok (y, r) → IsListOp 0x43 y
        by (Ok p) f g = subst (IsListOp 0x43) (ap (λ (q : TextListOp × List ℕ). q.0) (ok_is (list.Remove p.0, p.1) (y, r) g)) (refl, (place_back at [] p.0 p.1 f).0)
        by (Err k) f g = absurd cc
list_back list.PopFront x left = list_coded 0x44 [] x left refl (reads_shape (λ u. list.PopFront) nothing (λ u. Unit {0}) (IsListOp 0x44) (λ bytes u rest e. tt) (λ u h. (refl, refl)) [])
list_back list.PopBack x left = list_coded 0x45 [] x left refl (reads_shape (λ u. list.PopBack) nothing (λ u. Unit {0}) (IsListOp 0x45) (λ bytes u rest e. tt) (λ u h. (refl, refl)) [])

-- All kinds as one.

abbrev Good : Read AnyOp → Type 0
Good r = (op : AnyOp) (rest : List ℕ) → r ≡ Ok (op, rest) → any_kind.is_op op ≡ true

made_good : {A : Type 0} (make : A → AnyOp) (fits : A → Bool) → ((x : A) → fits x ≡ true → any_kind.is_op (make x) ≡ true) → (r : Read A) → ((x : A) (rest : List ℕ) → r ≡ Ok (x, rest) → fits x ≡ true) → Good (any_kind.made_op make r)
made_good make fits is (Ok x) reads op rest e = subst (λ (y : AnyOp). any_kind.is_op y ≡ true) (ap (λ (q : AnyOp × List ℕ). q.0) (ok_is (make x.0, x.1) (op, rest) e)) (is x.0 (reads x.0 x.1 refl))
made_good make fits is (Err n) reads op rest e = absurd cc

of_directory : (bytes : List ℕ) → Good (any_kind.made_op ops.Directory (directories.op_format.read bytes))
unfolding any_kind.is_op
of_directory bytes = made_good ops.Directory directories.op_format.fits (λ x h. h) (directories.op_format.read bytes) (fits_directory bytes)

of_counter : (bytes : List ℕ) → Good (any_kind.made_op ops.Counter (counters.op_format.read bytes))
unfolding any_kind.is_op
of_counter bytes = made_good ops.Counter counters.op_format.fits (λ x h. h) (counters.op_format.read bytes) (fits_counter bytes)

of_register : (bytes : List ℕ) → Good (any_kind.made_op ops.Register (registers.op_format.read bytes))
unfolding any_kind.is_op
of_register bytes = made_good ops.Register registers.op_format.fits (λ x h. h) (registers.op_format.read bytes) (fits_register bytes)

of_map : (bytes : List ℕ) → Good (any_kind.made_op ops.Map (maps.op_format.read bytes))
unfolding any_kind.is_op
of_map bytes = made_good ops.Map maps.op_format.fits (λ x h. h) (maps.op_format.read bytes) (fits_map bytes)

of_list : (op : TextListOp) → Good (any_kind.made_op ops.List (lists.op_format.read (lists.op_format.spell op)))
unfolding any_kind.is_op
of_list op = made_good ops.List lists.op_format.fits (λ x h. h) (lists.op_format.read (lists.op_format.spell op)) (list_back op)

of_tree : (bytes : List ℕ) → Good (any_kind.made_op ops.Tree (trees.op_format.read bytes))
unfolding any_kind.is_op
of_tree bytes = made_good ops.Tree trees.op_format.fits (λ x h. h) (trees.op_format.read bytes) (fits_tree bytes)

of_set : (bytes : List ℕ) → Good (any_kind.made_op ops.Set (sets.op_format.read bytes))
unfolding any_kind.is_op
of_set bytes = made_good ops.Set sets.op_format.fits (λ x h. h) (sets.op_format.read bytes) (fits_set bytes)

-- the first byte of an op's spelling tells its kind
reads_back : (op : AnyOp) → Good (any_kind.read (any_kind.spelled op))
unfolding any_kind.read any_kind.spelled directories.op_format maps.op_format lists.op_format sets.op_format
reads_back (ops.Directory (Name t o)) = of_directory (directories.op_format.spell (Name t o))
reads_back (ops.Directory (Mark o n)) = of_directory (directories.op_format.spell (Mark o n))
reads_back (ops.Counter (Add n)) = of_counter (counters.op_format.spell (Add n))
reads_back (ops.Register (Write t)) = of_register (registers.op_format.spell (Write t))
reads_back (ops.Map (map.Set k t)) = of_map (maps.op_format.spell (map.Set k t))
reads_back (ops.Map (map.Unset k)) = of_map (maps.op_format.spell (map.Unset k))
reads_back (ops.List (list.PushFront t)) = of_list (list.PushFront t)
reads_back (ops.List (list.PushBack t)) = of_list (list.PushBack t)
reads_back (ops.List (list.Insert at t)) = of_list (list.Insert at t)
reads_back (ops.List (list.Remove at)) = of_list (list.Remove at)
reads_back (ops.List list.PopFront) = of_list list.PopFront
reads_back (ops.List list.PopBack) = of_list list.PopBack
reads_back (ops.Tree (tree.Create p t)) = of_tree (trees.op_format.spell (tree.Create p t))
reads_back (ops.Tree (tree.Store p t)) = of_tree (trees.op_format.spell (tree.Store p t))
reads_back (ops.Tree (tree.Delete p)) = of_tree (trees.op_format.spell (tree.Delete p))
reads_back (ops.Set (set.Include n)) = of_set (sets.op_format.spell (set.Include n))
reads_back (ops.Set (set.Exclude n)) = of_set (sets.op_format.spell (set.Exclude n))

some_op : (a b : AnyOp) → Some a ≡ Some b → a ≡ b
some_op a b e = cc

pub kinds_read_back : KindsReadBack
kinds_read_back o put op e = by (any_kind.read (any_kind.spelled put)) refl e
  where
    of : (x : AnyOp) (b : Bool) → any_kind.is_op x ≡ true → cond b (Some x) None ≡ Some op → any_kind.is_op op ≡ true
    of x true h f = subst (λ (y : AnyOp). any_kind.is_op y ≡ true) (some_op x op f) h
    of x false h f = absurd cc

    by : (r : Read AnyOp) → any_kind.read (any_kind.spelled put) ≡ r → read_by (any_kind.is_of o) r ≡ Some op → any_kind.is_op op ≡ true
    by (Ok x) is f = of x.0 ((length x.1 == 0) && any_kind.is_of o x.0) (reads_back put x.0 x.1 is) f
    by (Err n) is f = absurd cc
