-- The laws of lists.
use Rattle.std.specs.Prelude.{◌≡◌, ℕ, zero, suc, ◌-◌, ◌^◌, ◌<◌, ◌≤◌, min, max, Bool, true, false, ◌&&◌, nat_lt, nat_le, List, [], ◌∷◌, ◌++◌, length, take, drop, insert, remove, Some, Ok, refl, if◌then◌else◌}
use Rattle.std.specs.List.{list_all}
use Rattle.std.proofs.Common.{arith, sym, ap, ◌∙◌}
use Rattle.std.proofs.lemmas.Bool.{ltb-true, lt-ltb, leb-true, le-leb}
use Rattle.std.proofs.lemmas.List.{length-append, length-take, length-drop}
use Rattle.tg_base.specs.declared.ids.Oid.{Oid}
use Rattle.tg_codec.proofs.Laws.{IsCodec, nothing_law, dep_law, variant_law, no_front, and-left, and-right, both}
use Rattle.tg_codec.proofs.Shapes.{IsTable, behind_many_law, tagged_law, table_law, table_tag}
use Rattle.tg_codec.proofs.Widths.{u32_law}
use Rattle.tg_codec.specs.Codec.{u32, fit_many, from_table}
use Rattle.tg_codec.specs.Reading.{meets}
use Rattle.tg_codec.specs.Streams.{any}
use Rattle.tg_kind.specs.Bytes.{IsBytes}
use Rattle.tg_kind.specs.Headers.{is_header}
use Rattle.tg_base.specs.Parts.{is_part}
use Rattle.tg_kind.specs.Parts.{overlap}
use Rattle.tg_kind.specs.Words as words
use Rattle.tg_kind.specs.Texts.{text_format, text_law}
use Rattle.tg_list.specs.declared.text_list.TextListOp.{TextListOp}
use Rattle.tg_list.specs.declared.text_list.TextListOp.TheVariants.{PushFront, PushBack, Insert, Remove, PopFront, PopBack}
use Rattle.tg_list.specs.declared.text_list.TextListAsk.{TextListAsk}
use Rattle.tg_list.specs.TextLists.{Texts, most, is_object, is_list, is_state, is_of, first, applied, answered, touched, looked, has_room, has_place, item, onward, texts_format, state_format, saved, loaded, code, codes, as_push_front, as_push_back, as_insert, as_remove, as_pop_front, as_pop_back, push_front_op, push_back_op, insert_op, remove_op, pop_front_op, pop_back_op, ops, op_format}

-- ---- the formats

pub state_law : IsCodec state_format
unfolding state_format
state_law = words.after_law 4 texts_format (behind_many_law item onward (λ _. tt) (u32_law any) (λ _. text_law))

inner : {A : Type 0} (p q : A) → Some p ≡ Some q → p ≡ q
inner p q e = cc

push_front_back : (op : TextListOp) (text : List ℕ) → as_push_front op ≡ Some text → PushFront text ≡ op
push_front_back (PushFront t) text e = ap (λ (u : List ℕ). PushFront u) (sym (inner t text e))
push_front_back other text e = absurd cc

push_front_code : (op : TextListOp) → push_front_op.fits op ≡ true → code op ≡ 0x40
push_front_code (PushFront t) e = refl
push_front_code other e = absurd cc

push_back_back : (op : TextListOp) (text : List ℕ) → as_push_back op ≡ Some text → PushBack text ≡ op
push_back_back (PushBack t) text e = ap (λ (u : List ℕ). PushBack u) (sym (inner t text e))
push_back_back other text e = absurd cc

push_back_code : (op : TextListOp) → push_back_op.fits op ≡ true → code op ≡ 0x41
push_back_code (PushBack t) e = refl
push_back_code other e = absurd cc

insert_back : (op : TextListOp) (p : ℕ × List ℕ) → as_insert op ≡ Some p → Insert p.0 p.1 ≡ op
insert_back (Insert at t) p e = ap (λ (q : ℕ × List ℕ). Insert q.0 q.1) (sym (inner (at, t) p e))
insert_back other p e = absurd cc

insert_code : (op : TextListOp) → insert_op.fits op ≡ true → code op ≡ 0x42
insert_code (Insert at t) e = refl
insert_code other e = absurd cc

remove_back : (op : TextListOp) (at : ℕ) → as_remove op ≡ Some at → Remove at ≡ op
remove_back (Remove n) at e = ap (λ (k : ℕ). Remove k) (sym (inner n at e))
remove_back other at e = absurd cc

remove_code : (op : TextListOp) → remove_op.fits op ≡ true → code op ≡ 0x43
remove_code (Remove at) e = refl
remove_code other e = absurd cc

pop_front_back : (op : TextListOp) (u : Unit {0}) → as_pop_front op ≡ Some u → PopFront ≡ op
pop_front_back PopFront u e = refl
pop_front_back other u e = absurd cc

pop_front_code : (op : TextListOp) → pop_front_op.fits op ≡ true → code op ≡ 0x44
pop_front_code PopFront e = refl
pop_front_code other e = absurd cc

pop_back_back : (op : TextListOp) (u : Unit {0}) → as_pop_back op ≡ Some u → PopBack ≡ op
pop_back_back PopBack u e = refl
pop_back_back other u e = absurd cc

pop_back_code : (op : TextListOp) → pop_back_op.fits op ≡ true → code op ≡ 0x45
pop_back_code PopBack e = refl
pop_back_code other e = absurd cc

ops_table : IsTable code ops
ops_table = (
  (variant_law _ _ text_law (λ t. refl) push_front_back, push_front_code),
  (
    (variant_law _ _ text_law (λ t. refl) push_back_back, push_back_code),
    (
      (variant_law _ _ (dep_law (u32_law any) (λ _. text_law)) (λ p. refl) insert_back, insert_code),
      (
        (variant_law _ _ (u32_law any) (λ n. refl) remove_back, remove_code),
        (
          (variant_law _ _ nothing_law (λ u. refl) pop_front_back, pop_front_code),
          (
            (variant_law _ _ nothing_law (λ u. refl) pop_back_back, pop_back_code),
            tt,
          ),
        ),
      ),
    ),
  ),
)

pub op_law : IsCodec op_format
unfolding op_format
op_law = tagged_law codes code _ (table_law code ops ops_table) (λ t op m e. table_tag code ops ops_table t op e)

-- ---- a list is what has a spelling

fit_all : (texts : Texts) → fit_many item onward (length texts) tt texts ≡ list_all text_format.fits texts
unfolding fit_many
fit_all [] = refl
fit_all (text ∷ texts) = ap (λ b. text_format.fits text && b) (fit_all texts)

counts : (n : ℕ) → n ≤ most → (u32 any).fits n ≡ true
counts n le =
    let met : nat_le (max 0 n) (min (2 ^ 64 - 1) n) ≡ true = le-leb _ _ (omega (arith, le)) in
    let short : nat_lt n (2 ^ 32) ≡ true = lt-ltb _ _ (omega (arith, le)) in
    rw (met, short) refl

counted : (n : ℕ) → (u32 any).fits n ≡ true → n ≤ most
counted n e = let lt : n < 2 ^ 32 = ltb-true n (2 ^ 32) (and-right (meets any n n) _ e) in omega (arith, lt)

pub spells_list : (texts : Texts) → is_list texts ≡ true → state_format.fits texts ≡ true
unfolding state_format
spells_list texts e = both _ _ (counts (length texts) (leb-true _ _ (and-left _ _ e))) (fit_all texts ∙ and-right _ _ e)

pub list_of_spelling : (texts : Texts) → state_format.fits texts ≡ true → is_list texts ≡ true
unfolding state_format
list_of_spelling texts e = both _ _ (le-leb _ _ (counted (length texts) (and-left _ _ e))) (sym (fit_all texts) ∙ and-right _ _ e)

-- ---- ops make lists of lists

all_append : (xs ys : Texts) → list_all text_format.fits xs ≡ true → list_all text_format.fits ys ≡ true → list_all text_format.fits (xs ++ ys) ≡ true
all_append [] ys e f = f
all_append (x ∷ xs) ys e f = both _ _ (and-left _ _ e) (all_append xs ys (and-right _ _ e) f)

all_take : (n : ℕ) (xs : Texts) → list_all text_format.fits xs ≡ true → list_all text_format.fits (take n xs) ≡ true
all_take zero xs e = refl
all_take (suc n) [] e = refl
all_take (suc n) (x ∷ xs) e = both _ _ (and-left _ _ e) (all_take n xs (and-right _ _ e))

all_drop : (n : ℕ) (xs : Texts) → list_all text_format.fits xs ≡ true → list_all text_format.fits (drop n xs) ≡ true
all_drop zero xs e = e
all_drop (suc n) [] e = refl
all_drop (suc n) (x ∷ xs) e = all_drop n xs (and-right _ _ e)

-- of two lists, one is chosen by a test that the first may need
chosen : (b : Bool) (xs ys : Texts) → (b ≡ true → is_list xs ≡ true) → is_list ys ≡ true → is_list (if b then xs else ys) ≡ true
chosen true xs ys p q = p refl
chosen false xs ys p q = q

make : (texts : Texts) → length texts ≤ most → list_all text_format.fits texts ≡ true → is_list texts ≡ true
make texts le e = both _ _ (le-leb _ _ le) e

short : (texts : Texts) → is_list texts ≡ true → length texts ≤ most
short texts e = leb-true _ _ (and-left _ _ e)

room : (texts : Texts) → has_room texts ≡ true → length texts < most
room texts e = ltb-true _ _ e

stays_list : (texts : Texts) (op : TextListOp) → is_list texts ≡ true → op_format.fits op ≡ true → is_list (applied texts op) ≡ true
unfolding op_format
stays_list texts (PushFront t) e f =
    chosen (has_room texts) _ texts (λ b. make (t ∷ texts) (omega (arith, room texts b)) (both _ _ f (and-right _ _ e))) e
stays_list texts (PushBack t) e f =
    chosen (has_room texts) _ texts (λ b. make (texts ++ t ∷ []) (omega (arith, room texts b, length-append texts (t ∷ []))) (all_append texts (t ∷ []) (and-right _ _ e) (both _ _ f refl))) e
stays_list texts (Insert at t) e f =
    chosen (has_place texts at) _ texts
    (λ b. make (insert texts at t)
    (omega (arith, room texts (and-right _ _ b), length-append (take at texts) (t ∷ drop at texts), length-take at texts, length-drop at texts))
    (all_append (take at texts) (t ∷ drop at texts) (all_take at texts (and-right _ _ e)) (both _ _ (and-right _ _ f) (all_drop at texts (and-right _ _ e)))))
    e
stays_list texts (Remove at) e f =
    chosen (nat_lt at (length texts)) _ texts
    (λ b. make (remove texts at)
    (omega (arith, short texts e, length-append (take at texts) (drop (suc at) texts), length-take at texts, length-drop (suc at) texts))
    (all_append (take at texts) (drop (suc at) texts) (all_take at texts (and-right _ _ e)) (all_drop (suc at) texts (and-right _ _ e))))
    e
stays_list texts PopFront e f = make (drop 1 texts) (omega (arith, short texts e, length-drop 1 texts)) (all_drop 1 texts (and-right _ _ e))
stays_list texts PopBack e f = make (take (length texts - 1) texts) (omega (arith, short texts e, length-take (length texts - 1) texts)) (all_take (length texts - 1) texts (and-right _ _ e))

-- ---- the laws of kinds

pub first_is : (o : Oid) (os : List Oid) → is_object o ≡ true → is_header os ≡ true → is_state o (first o os) ≡ true
first_is o os e h = both _ _ e refl

pub applied_is : (o : Oid) (s : Texts) (op : TextListOp) → is_state o s ≡ true → op_format.fits op ≡ true → is_state o (applied s op) ≡ true
applied_is o s op e f = both _ _ (and-left _ _ e) (stays_list s op (and-right _ _ e) f)

not_false : (b : Bool) → b ≡ true → b ≡ false → ⊥
not_false true e f = absurd cc
not_false false e f = absurd cc

pub other_kind : (o : Oid) (s : Texts) (op : TextListOp) → is_state o s ≡ true → is_of o op ≡ false → applied s op ≡ s
other_kind o s op e f = absurd (not_false (is_object o) (and-left _ _ e) f)

pub touched_is : (op : TextListOp) → op_format.fits op ≡ true → is_part (touched op) ≡ true
touched_is op e = refl

pub apart : (s : Texts) (op : TextListOp) (ask : TextListAsk) → overlap (touched op) (looked ask) ≡ false → answered (applied s op) ask ≡ answered s ask
apart s op ask e = absurd cc

pub loads_saved : (o : Oid) (s : Texts) → is_state o s ≡ true → loaded o (saved s) ≡ Ok s
loads_saved o s e = words.loads_saved state_format state_law.exact s (spells_list s (and-right _ _ e))

pub loads_only : (o : Oid) (bytes : List ℕ) (s : Texts) → is_object o ≡ true → IsBytes bytes → loaded o bytes ≡ Ok s → (is_state o s ≡ true) × (bytes ≡ saved s)
loads_only o bytes s is fits e = let t = words.loads_only state_format state_law.exact bytes s fits e in (both _ _ is (list_of_spelling s t.0), t.1)

pub reads_spelled : (op : TextListOp) (rest : List ℕ) → op_format.fits op ≡ true → op_format.read (op_format.spell op ++ rest) ≡ Ok (op, rest)
reads_spelled op rest e = op_law.exact.again op rest e

pub reads_only : (bytes : List ℕ) (op : TextListOp) (rest : List ℕ) → IsBytes bytes → op_format.read bytes ≡ Ok (op, rest) → (op_format.fits op ≡ true) × (bytes ≡ op_format.spell op ++ rest)
reads_only bytes op rest fits e = words.reads_only op_format op_law.exact bytes op rest fits e

pub spelled_some : (op : TextListOp) → op_format.fits op ≡ true → 1 ≤ length (op_format.spell op)
unfolding op_format
spelled_some op e = words.tagged_some codes code (from_table ops) op

pub no_front_law : (a b : TextListOp) (x y : List ℕ) → op_format.fits a ≡ true → op_format.fits b ≡ true → op_format.spell a ++ x ≡ op_format.spell b ++ y → a ≡ b
no_front_law a b x y f g e = no_front op_format op_law.exact a b x y f g e
