-- The laws of the directory.
use Rattle.std.specs.Prelude.{◌≡◌, ℕ, suc, ◌+◌, ◌-◌, ◌^◌, ◌<◌, ◌≤◌, max, min, Bool, true, false, ◌&&◌, ◌||◌, ◌==◌, not, List, [], ◌∷◌, ◌++◌, length, get_or, take, map, filter, find, fold, Option, Some, None, Ok, option_map, refl}
use Rattle.std.specs.List.{list_all}
use Rattle.std.specs.Option.{option_or}
use Rattle.std.proofs.Common.{arith, sym, ap, subst, ◌∙◌, cond, leb, ltb, eqb, append_assoc}
use Rattle.std.proofs.lemmas.Bool.{le-leb, lt-ltb, ltb-true, leb-true, leb-false, eqb-true, eq-eqb, false_from_ne_true}
use Rattle.std.proofs.lemmas.Bool.Decides.{nat_tests}
use Rattle.tg_codec.specs.Reading.{meets}
use Rattle.std.proofs.lemmas.List.{append-nil, length-append, length-map, map-append, take_more}
use Rattle.std.proofs.lemmas.List.Elements.{filter-append}
use Rattle.std.proofs.lemmas.List.Folds.{list_any-append, list_all-append, find-append}
use Rattle.std.proofs.lemmas.Slice.Eq.{bytes_eq-Decides}
use Rattle.tg_base.specs.declared.ids.Oid.{Oid}
use Rattle.tg_codec.specs.Codec.{u32, u64, fit_many}
use Rattle.tg_codec.specs.Streams.{any, oid, oids_from}
use Rattle.tg_codec.proofs.Laws.{IsExact, IsCodec, fixed_law, dep_exact, via_exact, only_if_exact, variant_law, dep_law, no_front, and-left, and-right, both}
use Rattle.tg_codec.proofs.Shapes.{behind_many_exact, tagged_law, chosen_law}
use Rattle.tg_codec.proofs.Widths.{u32_law, u64_law}
use Rattle.tg_codec.proofs.Objects.{oid_law}
use Rattle.tg_kind.specs.Bytes.{IsBytes}
use Rattle.tg_kind.specs.Headers.{is_header, directory, names, distinct}
use Rattle.tg_base.specs.Parts.{is_part}
use Rattle.tg_kind.specs.Parts.{overlap}
use Rattle.tg_kind.specs.Texts.{IsText, text_format, text_law, text_is_part}
use Rattle.tg_kind.specs.Words as words
use Rattle.tg_dir.specs.Spellings.{is_number, spelling}
use Rattle.tg_dir.specs.SpellingLaws.{spelling_is_text, spells_one}
use Rattle.tg_dir.specs.declared.listing.Listing.{Listing}
use Rattle.tg_dir.specs.declared.directory.DirectoryOp.{DirectoryOp}
use Rattle.tg_dir.specs.declared.directory.DirectoryOp.TheVariants.{Name, Mark}
use Rattle.tg_dir.specs.declared.directory.DirectoryAsk.{DirectoryAsk}
use Rattle.tg_dir.specs.declared.directory.DirectoryAsk.TheVariants as asks
use Rattle.tg_dir.specs.declared.directory.DirectoryAns.TheVariants as answers
use Rattle.tg_dir.specs.Directories.{Listings, is_object, is_state, is_of, same_text, is_name, is_listed, found, is_full, at_first, first, named, is_raised, with_mark, least_mark, risen, marked, applied, answered, touched, looked, listing, after_listing, listings, state_format, saved, loaded, code_of, as_name, as_mark, name_format, mark_format, op_body, op_format, allowed, marking}

-- ---- the formats

listing_exact : (before : List Listing) → IsExact (listing before)
listing_exact before =
    via_exact _ _ (dep_exact (only_if_exact _ text_law.exact) (λ _. dep_exact (only_if_exact _ (oid_law _).exact) (λ _. (u64_law _).exact))) (λ p e. refl) (λ l. refl)

listings_exact : IsExact listings
listings_exact =
    via_exact _ _ (dep_exact (behind_many_exact listing after_listing (λ _. []) (u32_law _).exact listing_exact) (λ _. (u64_law _).exact)) (λ p e. refl) (λ s. refl)

pub state_exact : IsExact state_format
unfolding state_format
state_exact = via_exact _ _ (dep_exact (fixed_law (0 ∷ [])).exact (λ _. listings_exact)) (λ p e. refl) (λ s. refl)

name_forth : (op : DirectoryOp) (p : List ℕ × Oid) → as_name op ≡ Some p → Name p.0 p.1 ≡ op
name_forth (Name name o) p e = cc
name_forth (Mark o mark) p e = absurd cc

mark_forth : (op : DirectoryOp) (p : Oid × ℕ) → as_mark op ≡ Some p → Mark p.0 p.1 ≡ op
mark_forth (Name name o) p e = absurd cc
mark_forth (Mark o mark) p e = cc

name_law : IsCodec name_format
name_law = variant_law _ _ (dep_law text_law (λ _. oid_law (oids_from 0))) (λ p. refl) name_forth

mark_law : IsCodec mark_format
mark_law = variant_law _ _ (dep_law (oid_law (oids_from 0)) (λ _. u64_law any)) (λ p. refl) mark_forth

body_law : (code : ℕ) → IsCodec (op_body code)
body_law code = chosen_law (eqb code 1) name_format mark_format name_law mark_law

body_code : (b : Bool) (t : ℕ) (op : DirectoryOp) → eqb t 1 ≡ b → meets ((1, 2) ∷ []) t t ≡ true → (cond b name_format mark_format).fits op ≡ true → code_of op ≡ t
body_code true t (Name name o) is m e = sym (eqb-true _ _ is)
body_code true t (Mark o mark) is m e = absurd cc
body_code false t (Name name o) is m e = absurd cc
body_code false t (Mark o mark) is m e = grind (arith, nat_tests)

pub op_law : IsCodec op_format
unfolding op_format
op_law = tagged_law ((1, 2) ∷ []) code_of op_body body_law (λ t op m e. body_code (eqb t 1) t op refl m e)

pub loads_saved : (o : Oid) (s : Listings) → is_state o s ≡ true → loaded o (saved s) ≡ Ok s
loads_saved o s e = words.loads_saved state_format state_exact s (and-right _ _ e)

pub loads_only : (o : Oid) (bytes : List ℕ) (s : Listings) → is_object o ≡ true → IsBytes bytes → loaded o bytes ≡ Ok s → (is_state o s ≡ true) × (bytes ≡ saved s)
loads_only o bytes s is fits e = let t = words.loads_only state_format state_exact bytes s fits e in (both _ _ is t.0, t.1)

pub reads_spelled : (op : DirectoryOp) (rest : List ℕ) → op_format.fits op ≡ true → op_format.read (op_format.spell op ++ rest) ≡ Ok (op, rest)
reads_spelled op rest e = op_law.exact.again op rest e

pub reads_only : (bytes : List ℕ) (op : DirectoryOp) (rest : List ℕ) → IsBytes bytes → op_format.read bytes ≡ Ok (op, rest) → (op_format.fits op ≡ true) × (bytes ≡ op_format.spell op ++ rest)
reads_only bytes op rest fits e = words.reads_only op_format op_law.exact bytes op rest fits e

pub spelled_some : (op : DirectoryOp) → op_format.fits op ≡ true → 1 ≤ length (op_format.spell op)
unfolding op_format
spelled_some op e = words.tagged_some ((1, 2) ∷ []) code_of op_body op

pub no_front_law : (a b : DirectoryOp) (x y : List ℕ) → op_format.fits a ≡ true → op_format.fits b ≡ true → op_format.spell a ++ x ≡ op_format.spell b ++ y → a ≡ b
no_front_law a b x y f g e = no_front op_format op_law.exact a b x y f g e

-- ---- ops keep the state's rules

not_false : (b : Bool) → b ≡ true → b ≡ false → ⊥
not_false true e f = absurd cc
not_false false e f = absurd cc

pub other_kind : (o : Oid) (s : Listings) (op : DirectoryOp) → is_state o s ≡ true → is_of o op ≡ false → applied s op ≡ s
other_kind o s op e f = absurd (not_false (is_object o) (and-left _ _ e) f)

number_fits : (n : ℕ) → n < 2 ^ 64 → (u64 any).fits n ≡ true
number_fits n lt =
    let whole : leb (max 0 n) (min (2 ^ 64 - 1) n) ≡ true = le-leb _ _ (omega (arith, lt)) in
    let short : ltb n (2 ^ 64) ≡ true = lt-ltb _ _ lt in
    rw (whole, short) refl

count_fits : (n : ℕ) → n < 2 ^ 32 → (u32 any).fits n ≡ true
count_fits n lt =
    let whole : leb (max 0 n) (min (2 ^ 64 - 1) n) ≡ true = le-leb _ _ (omega (arith, lt)) in
    let short : ltb n (2 ^ 32) ≡ true = lt-ltb _ _ lt in
    rw (whole, short) refl

-- entries of which each fits after those before it
abbrev fit : List Listing → List Listing → Bool
fit before entries = fit_many listing after_listing (length entries) before entries

record AreListings (entries : List Listing) : Type 0 where
  few : length entries < 2 ^ 32
  each : fit [] entries ≡ true

record Lawful (s : Listings) : Type 0 where
  entries : AreListings s.entries
  floor : s.floor < 2 ^ 64

lawful : (s : Listings) → state_format.fits s ≡ true → Lawful s
unfolding state_format
lawful s e =
    record {
      entries = record { few = ltb-true _ _ (and-right _ _ (and-left _ _ (and-left _ _ e))); each = and-right _ _ (and-left _ _ e) };
      floor = ltb-true _ _ (and-right _ _ (and-right _ _ e));
    }

is_lawful : (s : Listings) → Lawful s → state_format.fits s ≡ true
unfolding state_format
is_lawful s h = both _ _ (both _ _ (count_fits _ h.entries.few) h.entries.each) (number_fits _ h.floor)

fit-push : (before entries : List Listing) (e : Listing) → fit before entries ≡ true → (listing (before ++ entries)).fits e ≡ true → fit before (entries ++ e ∷ []) ≡ true
unfolding fit_many
fit-push before [] e h f = both _ _ (subst (λ (b : List Listing). (listing b).fits e ≡ true) (append-nil before) f) refl
fit-push before (x ∷ entries) e h f =
    let more : (listing ((before ++ x ∷ []) ++ entries)).fits e ≡ true = subst (λ (b : List Listing). (listing b).fits e ≡ true) (sym (append_assoc before (x ∷ []) entries)) f in
    both _ _ (and-left _ _ h) (fit-push (before ++ x ∷ []) entries e (and-right _ _ h) more)

push-listing : (b : Bool) (entries : List Listing) (e : Listing) → AreListings entries → (b ≡ false → length entries + 1 < 2 ^ 32) → (b ≡ false → (listing entries).fits e ≡ true) → AreListings (cond b entries (entries ++ e ∷ []))
push-listing true entries e h few fits = h
push-listing false entries e h few fits =
    let len : length (entries ++ e ∷ []) ≡ length entries + 1 = length-append entries (e ∷ []) in
    let room : length entries + 1 < 2 ^ 32 = few refl in
    record { few = omega (arith, len, room); each = fit-push [] entries e h.each (fits refl) }

or-left : (a b : Bool) → (a || b) ≡ false → a ≡ false
or-left true b e = absurd cc
or-left false b e = refl

or-right : (a b : Bool) → (a || b) ≡ false → b ≡ false
or-right true b e = absurd cc
or-right false b e = e

negated : (b : Bool) → b ≡ false → not b ≡ true
negated true e = absurd cc
negated false e = refl

none-of : (a b c : Bool) → (a || b || c) ≡ false → (a ≡ false) × (b ≡ false) × (c ≡ false)
none-of true b c e = absurd cc
none-of false true c e = absurd cc
none-of false false c e = (refl, refl, e)

all-of : (a b c d m : Bool) → a ≡ true → b ≡ false → c ≡ true → d ≡ false → m ≡ true → ((a && not b) && ((c && not d) && m)) ≡ true
all-of a b c d m p q r s t = rw (p, q, r, s, t) refl

-- an entry with a new name and a new object
entry-fits : (before : List Listing) (e : Listing) → IsText e.name → is_name before e.name ≡ false → is_number e.oid ≡ true → is_listed before e.oid ≡ false → e.mark < 2 ^ 64 → (listing before).fits e ≡ true
entry-fits before e text new number unlisted small = all-of (text_format.fits e.name) (is_name before e.name) (is_number e.oid) (is_listed before e.oid) ((u64 any).fits e.mark) text new number unlisted (number_fits e.mark small)

name-op : (name : List ℕ) (o : Oid) → op_format.fits (Name name o) ≡ true → IsText name × (is_number o ≡ true)
unfolding op_format
name-op name o f = (and-left (text_format.fits name) (is_number o) f, and-right (text_format.fits name) (is_number o) f)

mark-op : (o : Oid) (mark : ℕ) → op_format.fits (Mark o mark) ≡ true → mark < 2 ^ 64
unfolding op_format
mark-op o mark f = let short : ltb mark (2 ^ 64) ≡ true = and-right _ _ (and-right (is_number o) ((u64 any).fits mark) f) in ltb-true _ _ short

pub touched_is : (op : DirectoryOp) → op_format.fits op ≡ true → is_part (touched op) ≡ true
touched_is (Name name o) e = text_is_part name (name-op name o e).0
touched_is (Mark o mark) e = refl

-- each mark of an object is one
pub mark_fits : (o : Oid) (mark : ℕ) → is_number o ≡ true → mark < 2 ^ 64 → op_format.fits (Mark o mark) ≡ true
unfolding op_format
mark_fits o mark number small = both _ _ number (number_fits mark small)

named-fits : (s : Listings) (name : List ℕ) (o : Oid) → Lawful s → op_format.fits (Name name o) ≡ true → AreListings (named s.entries name o)
named-fits s name o h f =
    let op = name-op name o f in
    push-listing (is_name s.entries name || is_listed s.entries o || is_full s.entries) s.entries (record { name = name; oid = o; mark = 0 }) h.entries
    (λ e. let free = none-of (is_name s.entries name) (is_listed s.entries o) (is_full s.entries) e in let room : length s.entries < 2 ^ 32 - 1 = leb-false _ _ free.2 in omega (arith, room))
    (λ e. let free = none-of (is_name s.entries name) (is_listed s.entries o) (is_full s.entries) e in entry-fits s.entries (record { name = name; oid = o; mark = 0 }) op.0 free.0 op.1 free.1 (omega arith))

-- ---- marks

mark-fits : (b : Bool) (m n : ℕ) → (u64 any).fits m ≡ true → (u64 any).fits n ≡ true → (u64 any).fits (cond b m n) ≡ true
mark-fits true m n e f = e
mark-fits false m n e f = f

names-stay : (f : Listing → Listing) (kept : (e : Listing) → (f e).name ≡ e.name) (name : List ℕ) (entries : List Listing) → is_name (map f entries) name ≡ is_name entries name
names-stay f kept name [] = refl
names-stay f kept name (e ∷ entries) = rw (kept e, names-stay f kept name entries) refl

listed-stay : (f : Listing → Listing) (kept : (e : Listing) → (f e).oid.0 ≡ e.oid.0) (o : Oid) (entries : List Listing) → is_listed (map f entries) o ≡ is_listed entries o
listed-stay f kept o [] = refl
listed-stay f kept o (e ∷ entries) = rw (kept e, listed-stay f kept o entries) refl

marked-entry : (o : Oid) (mark : ℕ) (before : List Listing) (e : Listing) → mark < 2 ^ 64 → (listing before).fits e ≡ true → (listing (map (with_mark o mark) before)).fits (with_mark o mark e) ≡ true
marked-entry o mark before e small h =
    let same_names : is_name (map (with_mark o mark) before) e.name ≡ is_name before e.name = names-stay (with_mark o mark) (λ e. refl) e.name before in
    let same_objects : is_listed (map (with_mark o mark) before) e.oid ≡ is_listed before e.oid = listed-stay (with_mark o mark) (λ e. refl) e.oid before in
    let name : (text_format.fits e.name && not (is_name before e.name)) ≡ true = and-left _ _ h in
    let object_is : (is_number e.oid && not (is_listed before e.oid)) ≡ true = and-left _ _ (and-right _ _ h) in
    let fits : (u64 any).fits e.mark ≡ true = and-right _ _ (and-right _ _ h) in
    let new : (u64 any).fits (cond (eqb e.oid.0 o.0) mark e.mark) ≡ true = mark-fits (eqb e.oid.0 o.0) mark e.mark (number_fits mark small) fits in
    rw (same_names, same_objects, name, object_is, new) refl

marked-fit : (o : Oid) (mark : ℕ) (before entries : List Listing) → mark < 2 ^ 64 → fit before entries ≡ true → fit (map (with_mark o mark) before) (map (with_mark o mark) entries) ≡ true
unfolding fit_many
marked-fit o mark before [] small h = refl
marked-fit o mark before (e ∷ entries) small h =
    let more = marked-fit o mark (before ++ e ∷ []) entries small (and-right _ _ h) in
    let same : map (with_mark o mark) (before ++ e ∷ []) ≡ map (with_mark o mark) before ++ with_mark o mark e ∷ [] = map-append (with_mark o mark) before (e ∷ []) in
    both _ _ (marked-entry o mark before e small (and-left _ _ h)) (subst (λ (b : List Listing). fit b (map (with_mark o mark) entries) ≡ true) same more)

least-within : (start : ℕ) (entries : List Listing) → fold (λ least (e : Listing). min least e.mark) start entries ≤ start
least-within start [] = omega arith
least-within start (e ∷ entries) = let le = least-within (min start e.mark) entries in omega (arith, le)

marked-case : (b : Bool) (s t : Listings) → Lawful s → Lawful t → Lawful (cond b t s)
marked-case true s t p q = q
marked-case false s t p q = p

marked-lawful : (s : Listings) (o : Oid) (mark : ℕ) → Lawful s → mark < 2 ^ 64 → Lawful (marked s o mark)
marked-lawful s o mark h small =
    let entries = map (with_mark o mark) s.entries in
    let least : least_mark entries ≤ 2 ^ 64 - 1 = least-within (2 ^ 64 - 1) entries in
    let len : length entries ≡ length s.entries = length-map s.entries (with_mark o mark) in
    marked-case (is_raised s.entries o mark) s (risen s.floor entries) h
    (record { entries = record { few = omega (arith, len, h.entries.few); each = marked-fit o mark [] s.entries small h.entries.each }; floor = omega (arith, least, h.floor) })

applied-lawful : (s : Listings) (op : DirectoryOp) → Lawful s → op_format.fits op ≡ true → Lawful (applied s op)
applied-lawful s (Name name o) h f = record { entries = named-fits s name o h f; floor = h.floor }
applied-lawful s (Mark o mark) h f = marked-lawful s o mark h (mark-op o mark f)

pub applied_is : (o : Oid) (s : Listings) (op : DirectoryOp) → is_state o s ≡ true → op_format.fits op ≡ true → is_state o (applied s op) ≡ true
applied_is o s op e f = both _ _ (and-left _ _ e) (is_lawful (applied s op) (applied-lawful s op (lawful s (and-right _ _ e)) f))

-- ---- an op that names elsewhere

same-none : {A : Type 0} (x : Option A) → option_or x None ≡ x
same-none None = refl
same-none (Some x) = refl

found-push : (b : Bool) (entries : List Listing) (e : Listing) (name : List ℕ) → same_text e.name name ≡ false → found (cond b entries (entries ++ e ∷ [])) name ≡ found entries name
found-push true entries e name f = refl
found-push false entries e name f =
    ap (option_map (λ (e : Listing). e.oid)) (find-append (λ (e : Listing). same_text e.name name) entries (e ∷ []) ∙ rw f (same-none (find (λ (e : Listing). same_text e.name name) entries)))

pub apart : (s : Listings) (op : DirectoryOp) (ask : DirectoryAsk) → overlap (touched op) (looked ask) ≡ false → answered (applied s op) ask ≡ answered s ask
apart s (Name name o) (asks.Find other) e =
    ap (λ x. answers.Found x) (found-push (is_name s.entries name || is_listed s.entries o || is_full s.entries) s.entries (record { name = name; oid = o; mark = 0 }) other e)
apart s (Name name o) asks.Marks e = absurd cc
apart s (Name name o) asks.Floor e = absurd cc
apart s (Mark o mark) ask e = absurd cc

-- ---- the state at first

name-new : (o : Oid) (ps : List Oid) → is_number o ≡ true → list_all is_number ps ≡ true → names o ps ≡ false → is_name (map at_first ps) (spelling o) ≡ false
name-new o [] n all e = refl
name-new o (p ∷ ps) n all e =
    let here : eqb p.0 o.0 ≡ false = or-left _ _ e in
    let other : same_text (spelling p) (spelling o) ≡ false = false_from_ne_true _ (λ t.
    let same : p ≡ o = spells_one p o (and-left _ _ all) n ((bytes_eq-Decides _ _).0 t) in
    not_false (eqb p.0 o.0) (eq-eqb _ _ (ap (λ (x : Oid). x.0) same)) here) in
    let rest = name-new o ps n (and-right _ _ all) (or-right _ _ e) in
    rw (other, rest) refl

object-new : (o : Oid) (ps : List Oid) → is_listed (map at_first ps) o ≡ names o ps
object-new o [] = refl
object-new o (p ∷ ps) = ap (λ b. eqb p.0 o.0 || b) (object-new o ps)

-- none of these objects is among those
abbrev strange : List Oid → List Oid → Bool
strange ps qs = list_all (λ (q : Oid). not (names q ps)) qs

not-not : (b : Bool) → not b ≡ true → b ≡ false
not-not true e = absurd cc
not-not false e = refl

names-more : (q r : Oid) (ps : List Oid) → names r ps ≡ false → eqb r.0 q.0 ≡ false → names r (ps ++ q ∷ []) ≡ false
names-more q r ps e f =
    let other : eqb q.0 r.0 ≡ false = grind (arith, nat_tests) in
    list_any-append (λ (p : Oid). p.0 == r.0) ps (q ∷ []) ∙ rw (e, other) refl

strange-more : (q : Oid) (ps qs : List Oid) → strange ps qs ≡ true → names q qs ≡ false → strange (ps ++ q ∷ []) qs ≡ true
strange-more q ps [] e f = refl
strange-more q ps (r ∷ qs) e f =
    let new = names-more q r ps (not-not _ (and-left _ _ e)) (or-left _ _ f) in
    both _ _ (negated _ new) (strange-more q ps qs (and-right _ _ e) (or-right _ _ f))

strange-none : (qs : List Oid) → strange [] qs ≡ true
strange-none [] = refl
strange-none (q ∷ qs) = strange-none qs

first-fit : (ps qs : List Oid) → list_all is_number ps ≡ true → list_all is_number qs ≡ true → distinct qs ≡ true → strange ps qs ≡ true → fit (map at_first ps) (map at_first qs) ≡ true
unfolding fit_many
first-fit ps [] a b c d = refl
first-fit ps (q ∷ qs) a b c d =
    let number : is_number q ≡ true = and-left _ _ b in
    let free : names q ps ≡ false = not-not _ (and-left _ _ d) in
    let here : (listing (map at_first ps)).fits (at_first q) ≡ true = entry-fits (map at_first ps) (at_first q) (spelling_is_text q number) (name-new q ps number a free) number (object-new q ps ∙ free) (omega arith) in
    let numbers : list_all is_number (ps ++ q ∷ []) ≡ true = list_all-append is_number ps (q ∷ []) ∙ rw (a, number) refl in
    let rest = first-fit (ps ++ q ∷ []) qs numbers (and-right _ _ b) (and-right _ _ c) (strange-more q ps qs (and-right _ _ d) (not-not _ (and-left _ _ c))) in
    let same : map at_first (ps ++ q ∷ []) ≡ map at_first ps ++ at_first q ∷ [] = map-append at_first ps (q ∷ []) in
    both _ _ here (subst (λ (b : List Listing). fit b (map at_first qs) ≡ true) same rest)

names-kept : (b : Bool) (o p : Oid) (os ps : List Oid) → names o (p ∷ ps) ≡ false → names o os ≡ false → names o (cond b (p ∷ os) os) ≡ false
names-kept true o p os ps e f = let other : eqb p.0 o.0 ≡ false = or-left _ _ e in rw (other, f) refl
names-kept false o p os ps e f = f

filter-names : (f : Oid → Bool) (o : Oid) (os : List Oid) → names o os ≡ false → names o (filter f os) ≡ false
filter-names f o [] e = refl
filter-names f o (p ∷ os) e = names-kept (f p) o p (filter f os) os e (filter-names f o os (or-right _ _ e))

distinct-kept : (b : Bool) (p : Oid) (os : List Oid) → names p os ≡ false → distinct os ≡ true → distinct (cond b (p ∷ os) os) ≡ true
distinct-kept true p os e f = both _ _ (negated _ e) f
distinct-kept false p os e f = f

filter-distinct : (f : Oid → Bool) (os : List Oid) → distinct os ≡ true → distinct (filter f os) ≡ true
filter-distinct f [] e = refl
filter-distinct f (p ∷ os) e = distinct-kept (f p) p (filter f os) (filter-names f p os (not-not _ (and-left _ _ e))) (filter-distinct f os (and-right _ _ e))

all-kept : (f : Oid → Bool) (b : Bool) (p : Oid) (os : List Oid) → f p ≡ b → list_all f os ≡ true → list_all f (cond b (p ∷ os) os) ≡ true
all-kept f true p os e h = both _ _ e h
all-kept f false p os e h = h

filter-all : (f : Oid → Bool) (os : List Oid) → list_all f (filter f os) ≡ true
filter-all f [] = refl
filter-all f (p ∷ os) = all-kept f (f p) p (filter f os) refl (filter-all f os)

few-kept : (b : Bool) (p : Oid) (os : List Oid) (n : ℕ) → length os ≤ n → length (cond b (p ∷ os) os) ≤ suc n
few-kept true p os n le = omega (arith, le)
few-kept false p os n le = omega (arith, le)

filter-few : (f : Oid → Bool) (os : List Oid) → length (filter f os) ≤ length os
filter-few f [] = omega arith
filter-few f (p ∷ os) = few-kept (f p) p (filter f os) (length os) (filter-few f os)

few-entries : (os : List Oid) → length os ≤ 256 → length (map at_first (directory ∷ filter is_number os)) < 2 ^ 32
few-entries os few =
    let len : length (map at_first (directory ∷ filter is_number os)) ≡ suc (length (filter is_number os)) = length-map (directory ∷ filter is_number os) at_first in
    omega (arith, few, len, filter-few is_number os)

zero_small : 0 < 2 ^ 64
zero_small = omega arith

first-lawful : (o : Oid) (os : List Oid) → is_header os ≡ true → Lawful (first o os)
first-lawful o os h =
    let few : length os ≤ 256 = leb-true _ _ (and-left _ _ (and-left _ _ h)) in
    let apart_all : distinct os ≡ true = and-right _ _ (and-left _ _ h) in
    let no_directory : names directory os ≡ false = not-not _ (and-right _ _ h) in
    let qs = directory ∷ filter is_number os in
    let distinct_all : distinct qs ≡ true = both _ _ (negated _ (filter-names is_number directory os no_directory)) (filter-distinct is_number os apart_all) in
    record {
      entries = record { few = few-entries os few; each = first-fit [] qs refl (filter-all is_number os) distinct_all (strange-none qs) };
      floor = zero_small;
    }

pub first_is : (o : Oid) (os : List Oid) → is_object o ≡ true → is_header os ≡ true → is_state o (first o os) ≡ true
first_is o os e h = both _ _ e (is_lawful (first o os) (first-lawful o os h))

-- Of objects' numbers none is left out: the directory comes first, and then each object of the header.

all-numbers : (os : List Oid) → list_all is_number os ≡ true → filter is_number os ≡ os
all-numbers [] e = refl
all-numbers (o ∷ os) e = let here : is_number o ≡ true = and-left _ _ e in rw here (ap (λ (ps : List Oid). o ∷ ps) (all-numbers os (and-right _ _ e)))

pub lists_header : (o : Oid) (os : List Oid) → list_all is_number os ≡ true → (first o os).entries ≡ map at_first (directory ∷ os)
lists_header o os e = ap (λ (ps : List Oid). map at_first (directory ∷ ps)) (all-numbers os e)

-- one more object of a header
pub one_more : (os : List Oid) (i : ℕ) (o : Oid) → i < length os
    → map at_first (directory ∷ filter is_number (take i os)) ++ map at_first (filter is_number (get_or os i o ∷ [])) ≡ map at_first (directory ∷ filter is_number (take (i + 1) os))
one_more os i o lt =
    sym (map-append at_first (directory ∷ filter is_number (take i os)) (filter is_number (get_or os i o ∷ []))) ∙
    ap (λ (ps : List Oid). map at_first (directory ∷ ps)) (sym (filter-append is_number (take i os) (get_or os i o ∷ [])) ∙ ap (filter is_number) (sym (take_more os i o lt)))

-- ---- what a user may put

pub allowed_is : (o : Oid) (op : DirectoryOp) → allowed o op ≡ true → is_of o op ≡ true
allowed_is o op e = and-left _ _ e

no-mark : (b : Bool) (o : Oid) (mark : ℕ) → allowed directory (cond b (Mark o mark) (Mark directory 0)) ≡ false
no-mark true o mark = refl
no-mark false o mark = refl

pub marking_is : (o : Oid) (mark : ℕ) → (is_of directory (marking o mark) ≡ true) × (allowed directory (marking o mark) ≡ false)
marking_is o mark = (refl, no-mark (is_number o) o mark)

mark-short : (b : Bool) (o : Oid) (mark : ℕ) → length (op_format.spell (cond b (Mark o mark) (Mark directory 0))) ≤ 64
unfolding op_format
mark-short true o mark = omega (arith)
mark-short false o mark = omega (arith)

pub marking_short : (o : Oid) (mark : ℕ) → length (op_format.spell (marking o mark)) ≤ 64
marking_short o mark = mark-short (is_number o) o mark
