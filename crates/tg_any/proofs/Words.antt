-- What is read of words is what they spell, and nothing else.
use Rattle.std.proofs.Common.{◌≡◌, ℕ, ◌^◌, ◌<◌, ℤ, pos, negsuc, FitsSigned, Bool, true, false, ◌&&◌, cond, ltb, List, [], ◌∷◌, length, codes, Option, Some, None, sym, refl, subst, ap, ◌∙◌, arith}
use Rattle.std.specs.Prelude.{option_map, option_and_then}
use Rattle.std.specs.Str.{bytes_eq}
use Rattle.std.specs.Int.{w64}
use Rattle.std.specs.Fmt.{decimal, signed_decimal}
use Rattle.std.proofs.lemmas.Fmt.{decimal_nonempty}
use Rattle.std.proofs.lemmas.Bool.{ltb-true, lt-ltb}
use Rattle.std.proofs.lemmas.Slice.Eq.{bytes_eq-Decides}
use Rattle.tg_base.specs.declared.ids.Oid.{Oid}
use Rattle.tg_codec.proofs.Laws.{and-left, and-right, both}
use Rattle.tg_kind.specs.Texts.{text_format}
use Rattle.tg_tree.specs.Paths.{path_format}
use Rattle.tg_cell.specs.Signed.{fits_i64, in_of_fits}
use Rattle.tg_any.specs.Decimals.{number_in, signed_in}
use Rattle.tg_any.specs.Fronts.{after}
use Rattle.tg_dir.specs.Spellings.{is_number}
use Rattle.std.proofs.lemmas.Bool.Decides.{nat_tests}
use Rattle.tg_any.specs.Names.{is_named, object_at, object_in, mark_in}
use Rattle.tg_any.specs.Words.{Word, number, index, signed, text, path, object, mark, flag, Phrase, none_read, nothing, one_read, one, two_read, two, verb, maybe, maybe_read}
use Rattle.tg_any.proofs.Numbers.{map_takes, bind_takes, when_takes, number_in_takes, number_in_again, signed_in_takes, signed_in_again}
use Rattle.tg_any.proofs.Fronts.{some_is, bind_again, if_again}
use Rattle.tg_any.proofs.ObjectWords.{object_in_takes, object_in_again, mark_in_takes, mark_in_again}

-- a word that is read is the value's, and each value's word is read
pub record IsWord {A : Type 0} (w : Word A) : Type 0 where
  pub takes : (t : List ℕ) (x : A) → w.read t ≡ Some x → (t ≡ w.spell x) × (w.fits x ≡ true)
  pub again : (x : A) → w.fits x ≡ true → w.read (w.spell x) ≡ Some x
  pub some : w.read [] ≡ None

pub record IsPhrase {A : Type 0} (p : Phrase A) : Type 0 where
  pub takes : (ws : List (List ℕ)) (x : A) → p.read ws ≡ Some x → (ws ≡ p.spell x) × (p.fits x ≡ true)
  pub again : (x : A) → p.fits x ≡ true → p.read (p.spell x) ≡ Some x

pub none_of : {A : Type 0} (o : Option A) → ((x : A) → o ≡ Some x → ⊥) → o ≡ None
none_of None h = refl
none_of (Some x) h = absurd (h x refl)

some_digit : (n : ℕ) → n < 2 ^ 64 → [] ≡ decimal n → ⊥
some_digit n small e = let len : 0 ≡ length (decimal n) = ap length e in omega (arith, len, decimal_nonempty n small)

no_number : number_in [] ≡ None
no_number = none_of _ (λ n e. let h = number_in_takes [] n e in some_digit n h.0 h.1)

some_sign : (z : ℤ) → FitsSigned w64 z → [] ≡ signed_decimal z → ⊥
some_sign (pos n) f e = some_digit n (omega (arith, f.sfits)) e
some_sign (negsuc n) f e = absurd cc

no_signed : signed_in [] ≡ None
no_signed = none_of _ (λ z e. let h = signed_in_takes [] z e in some_sign z h.0 h.1)

no_object : object_in [] ≡ None
unfolding object_in object_at after
no_object = refl

no_mark : mark_in [] ≡ None
unfolding mark_in object_at after
no_mark = refl

-- words
pub number_law : IsWord number
number_law = record {
  takes = λ t n e. let h = number_in_takes t n e in (h.1, lt-ltb _ _ h.0);
  again = λ n e. number_in_again n (ltb-true _ _ e);
  some = no_number;
}

pub index_law : IsWord index
index_law = record {
  takes = λ t n e.
      let b = bind_takes _ _ _ e in
      let d = when_takes _ _ _ b.2 in
      let h = number_in_takes t b.0 b.1 in
      subst (λ (n : ℕ). (t ≡ number.spell n) × (ltb n (2 ^ 32) ≡ true)) d.1 (h.1, d.0);
  again = λ n e. let small : n < 2 ^ 32 = ltb-true _ _ e in bind_again _ _ _ _ (number_in_again n (omega arith)) (if_again _ _ _ e refl);
  some = ap (option_and_then (λ (n : ℕ). cond (ltb n (2 ^ 32)) (Some n) None)) no_number;
}

pub signed_law : IsWord signed
signed_law = record {
  takes = λ t z e. let h = signed_in_takes t z e in (h.1, in_of_fits z h.0);
  again = λ z e. signed_in_again z (fits_i64 z e);
  some = no_signed;
}

pub text_law : IsWord text
text_law = record {
  takes = λ t x e. let d = when_takes _ _ _ e in (d.1, subst (λ (x : List ℕ). text_format.fits x ≡ true) d.1 d.0);
  again = λ x e. if_again _ _ _ e refl;
  some = refl;
}

no_path : path.read [] ≡ None
no_path = refl

pub path_law : IsWord path
path_law = record {
  takes = λ t x e. let d = when_takes _ _ _ e in (d.1, subst (λ (x : List ℕ). path_format.fits x ≡ true) d.1 d.0);
  again = λ x e. if_again _ _ _ e refl;
  some = no_path;
}

pub object_law : IsWord object
object_law = record { takes = object_in_takes; again = object_in_again; some = no_object }

pub mark_law : IsWord mark
mark_law = record {
  takes = λ t m e. let h = mark_in_takes t m e in (h.0, both _ _ h.1 (lt-ltb _ _ h.2));
  again = λ m e. mark_in_again m (and-left _ _ e) (ltb-true _ _ (and-right _ _ e));
  some = no_mark;
}

bytes_is : (a b : List ℕ) → bytes_eq a b ≡ true → a ≡ b
bytes_is a b e = (bytes_eq-Decides a b).0 e

flag-takes : (p q : Bool) (t : List ℕ) (b : Bool) → (p ≡ true → t ≡ codes "yes") → (q ≡ true → t ≡ codes "no") → cond p (Some true) (cond q (Some false) None) ≡ Some b → t ≡ flag.spell b
flag-takes true q t b is_yes is_no e = is_yes refl ∙ ap (λ (b : Bool). flag.spell b) (some_is _ _ e)
flag-takes false true t b is_yes is_no e = is_no refl ∙ ap (λ (b : Bool). flag.spell b) (some_is _ _ e)
flag-takes false false t b is_yes is_no e = absurd cc

flag-again : (b : Bool) → flag.read (flag.spell b) ≡ Some b
flag-again true = refl
flag-again false = refl

pub flag_law : IsWord flag
flag_law = record {
  takes = λ t b e. (flag-takes (bytes_eq t (codes "yes")) (bytes_eq t (codes "no")) t b (bytes_is t (codes "yes")) (bytes_is t (codes "no")) e, refl);
  again = λ b e. flag-again b;
  some = refl;
}

-- phrases
nothing-takes : (ws : List (List ℕ)) (x : Unit {0}) → none_read ws ≡ Some x → ws ≡ []
nothing-takes [] x e = refl
nothing-takes (w ∷ ws) x e = absurd cc

pub nothing_law : IsPhrase nothing
nothing_law = record { takes = λ ws x e. (nothing-takes ws x e, refl); again = λ x e. refl }

one-takes : {A : Type 0} (a : Word A) → IsWord a → (ws : List (List ℕ)) (x : A) → one_read a ws ≡ Some x → (ws ≡ a.spell x ∷ []) × (a.fits x ≡ true)
one-takes a law [] x e = absurd cc
one-takes a law (w ∷ []) x e = let h = law.takes w x e in (ap (λ (w : List ℕ). w ∷ []) h.0, h.1)
one-takes a law (w ∷ v ∷ ws) x e = absurd cc

pub one_law : {A : Type 0} (a : Word A) → IsWord a → IsPhrase (one a)
one_law a law = record { takes = one-takes a law; again = law.again }

same_two : (w v : List ℕ) (ws vs : List (List ℕ)) → w ≡ v → ws ≡ vs → w ∷ ws ≡ v ∷ vs
same_two w v ws vs e f = rw (e, f) refl

two-takes : {A B : Type 0} (a : Word A) (b : Word B) → IsWord a → IsWord b → (ws : List (List ℕ)) (p : A × B) → two_read a b ws ≡ Some p → (ws ≡ a.spell p.0 ∷ b.spell p.1 ∷ []) × ((a.fits p.0 && b.fits p.1) ≡ true)
two-takes a b law more [] p e = absurd cc
two-takes {A} {B} a b law more (w ∷ ws) p e =
    let f = bind_takes _ _ _ e in
    let g = bind_takes _ _ _ f.2 in
    let h = law.takes w f.0 f.1 in
    let k = one-takes b more ws g.0 g.1 in
    let is : (f.0, g.0) ≡ p = some_is _ _ g.2 in
    subst (λ (p : A × B). (w ∷ ws ≡ a.spell p.0 ∷ b.spell p.1 ∷ []) × ((a.fits p.0 && b.fits p.1) ≡ true)) is (same_two _ _ _ _ h.0 k.0, both _ _ h.1 k.1)

pub two_law : {A B : Type 0} (a : Word A) (b : Word B) → IsWord a → IsWord b → IsPhrase (two a b)
two_law a b law more = record {
  takes = two-takes a b law more;
  again = λ p e. bind_again _ _ _ _ (law.again p.0 (and-left _ _ e)) (bind_again _ _ _ _ (more.again p.1 (and-right _ _ e)) refl);
}

-- verbs
pub cond_takes : {A : Type 0} (b : Bool) (o other : Option A) (y : A) (P : Type 0) → cond b o other ≡ Some y → (b ≡ true → o ≡ Some y → P) → (other ≡ Some y → P) → P
cond_takes true o other y P e first second = first refl e
cond_takes false o other y P e first second = second e

pub verb_takes : {A B : Type 0} (name : List ℕ) (phrase : Phrase A) → IsPhrase phrase → (make : A → B) (word : List ℕ) (fields : List (List ℕ)) (other : Option B) (y : B) (P : B → Type 0)
    → verb name phrase make word fields other ≡ Some y → ((x : A) → phrase.fits x ≡ true → word ∷ fields ≡ name ∷ phrase.spell x → P (make x)) → (other ≡ Some y → P y) → P y
verb_takes name phrase law make word fields other y P e first second =
    cond_takes (bytes_eq word name) (option_map make (phrase.read fields)) other y (P y) e
    (λ is f. let m = map_takes make (phrase.read fields) y f in let h = law.takes fields m.0 m.1 in subst P m.2 (first m.0 h.1 (same_two _ _ _ _ (bytes_is word name is) h.0)))
    second

pub made_again : {A B : Type 0} (phrase : Phrase A) → IsPhrase phrase → (make : A → B) (x : A) → phrase.fits x ≡ true → option_map make (phrase.read (phrase.spell x)) ≡ Some (make x)
made_again phrase law make x e = ap (option_map make) (law.again x e)

pub made_takes : {A B : Type 0} (phrase : Phrase A) → IsPhrase phrase → (make : A → B) (ws : List (List ℕ)) (y : B) (P : B → Type 0) → option_map make (phrase.read ws) ≡ Some y
    → ((x : A) → phrase.fits x ≡ true → ws ≡ phrase.spell x → P (make x)) → P y
made_takes phrase law make ws y P e is = let m = map_takes make (phrase.read ws) y e in let h = law.takes ws m.0 m.1 in subst P m.2 (is m.0 h.1 h.0)

-- options
abbrev IsMaybe : {A : Type 0} → Word A → List (List ℕ) → Option A → Type 0
IsMaybe a ws x = (ws ≡ (maybe a).spell x) × ((maybe a).fits x ≡ true)

maybe-takes : {A : Type 0} (a : Word A) → IsWord a → (ws : List (List ℕ)) (x : Option A) → maybe_read a ws ≡ Some x → IsMaybe a ws x
maybe-takes a law [] x e = absurd cc
maybe-takes {A} a law (w ∷ ws) x e =
    verb_takes (codes "some") (one a) (one_law a law) (λ (x : A). Some x) w ws _ x (IsMaybe a (w ∷ ws)) e (λ y fits is. (is, fits))
    (λ e. verb_takes (codes "none") nothing nothing_law (λ _. None) w ws None x (IsMaybe a (w ∷ ws)) e (λ u fits is. (is, refl)) (λ e. absurd cc))

maybe-again : {A : Type 0} (a : Word A) → IsWord a → (x : Option A) → (maybe a).fits x ≡ true → maybe_read a ((maybe a).spell x) ≡ Some x
maybe-again a law None e = refl
maybe-again {A} a law (Some x) e = made_again (one a) (one_law a law) (λ (x : A). Some x) x e

pub maybe_law : {A : Type 0} (a : Word A) → IsWord a → IsPhrase (maybe a)
maybe_law a law = record { takes = maybe-takes a law; again = maybe-again a law }

-- an object that is read has an object's number
named_number : (o : Oid) → is_named o ≡ true → is_number o ≡ true
named_number o e = grind (arith, nat_tests)

pub object_number : (word : List ℕ) (o : Oid) → Some o ≡ object_in word → cond (is_number o) (Some o) None ≡ object_in word
object_number word o e = ap (λ (b : Bool). cond b (Some o) None) (named_number o (object_in_takes word o (sym e)).1) ∙ e
