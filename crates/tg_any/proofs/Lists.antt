-- Lists in brackets, and what is read of them.
use Rattle.std.proofs.Common.{◌≡◌, ◌≢◌, ℕ, zero, suc, ◌-◌, ◌<◌, ◌≤◌, Bool, true, false, cond, List, [], ◌∷◌, ◌++◌, length, take, drop, map, codes, Option, Some, None, sym, refl, subst, ap, ◌∙◌, arith, length-append}
use Rattle.std.specs.Prelude.{option_map, option_and_then, MatchOption}
use Rattle.std.specs.Borrow.{Bor}
use Rattle.std.specs.List.{list_all, flat_map}
use mathlib.Core.List.{append_assoc, append-nil}
use Rattle.std.specs.Str.{bytes_eq}
use Rattle.std.proofs.lemmas.Bool.{false_from_ne_true}
use Rattle.std.proofs.lemmas.List.{take-append-drop}
use Rattle.std.proofs.lemmas.Slice.Eq.{bytes_eq-Decides}
use Rattle.std.proofs.Math.Seq.{take-append_seam, drop-append_seam}
use Rattle.tg_codec.proofs.Laws.{and-left, and-right, both}
use Rattle.tg_any.specs.Fronts.{after}
use Rattle.tg_any.specs.Words.{texts, Word, closed, opened, bracketed, before, items_read, bracketed_read, is_empty_list, list_read, list, joined}
use Rattle.tg_any.proofs.Numbers.{bind_takes, when_takes}
use Rattle.tg_any.proofs.Fronts.{some_is, bind_again, after_takes, after_again}
use Rattle.tg_any.proofs.Words.{IsWord, IsPhrase, cond_takes, none_of}

pub before_takes : (word text front : List ℕ) → before word text ≡ Some front → text ≡ front ++ word
unfolding before
before_takes word text front e =
    let h = when_takes _ _ _ e in
    sym (take-append-drop (length text - length word) text) ∙ ap (λ (t : List ℕ). take (length text - length word) text ++ t) ((bytes_eq-Decides _ _).0 h.0) ∙ ap (λ (t : List ℕ). t ++ word) h.1

seam : (word front : List ℕ) → length (front ++ word) - length word ≡ length front
seam word front = omega (arith, length-append front word)

pub before_again : (word front : List ℕ) → before word (front ++ word) ≡ Some front
unfolding before
before_again word front = rw (seam word front, take-append_seam front word, drop-append_seam front word, (bytes_eq-Decides word word).1 refl) refl

same_cons : (w v : List ℕ) (ws vs : List (List ℕ)) → w ≡ v → ws ≡ vs → w ∷ ws ≡ v ∷ vs
same_cons w v ws vs e f = rw (e, f) refl

-- the words of items, and that each fits
record AreItems {A : Type 0} (a : Word A) (ws : List (List ℕ)) (xs : List A) : Type 0 where
  words : ws ≡ closed (map a.spell xs)
  fit : list_all a.fits xs ≡ true

more_items : {A : Type 0} (a : Word A) (w : List ℕ) (v : List ℕ) (ws : List (List ℕ)) (x : A) (xs : List A) → w ≡ a.spell x → a.fits x ≡ true → AreItems a (v ∷ ws) xs → AreItems a (w ∷ v ∷ ws) (x ∷ xs)
more_items a w v ws x [] e fits h = let none : v ∷ ws ≡ [] = h.words in absurd cc
more_items a w v ws x (y ∷ ys) e fits h = record { words = same_cons _ _ _ _ e h.words; fit = both _ _ fits h.fit }

last_item : {A : Type 0} (a : Word A) (w t : List ℕ) (x : A) → w ≡ t ++ codes "]" → t ≡ a.spell x → a.fits x ≡ true → AreItems a (w ∷ []) (x ∷ [])
last_item a w t x e f fits = record { words = ap (λ (w : List ℕ). w ∷ []) (e ∙ ap (λ (t : List ℕ). t ++ codes "]") f); fit = both _ _ fits refl }

items_takes : {A : Type 0} (a : Word A) → IsWord a → (w : List ℕ) (ws : List (List ℕ)) (xs : List A) → items_read a w ws ≡ Some xs → AreItems a (w ∷ ws) xs
items_takes {A} a law w [] xs e =
    let f = bind_takes _ _ _ e in
    let g = bind_takes _ _ _ f.2 in
    let h = law.takes f.0 g.0 g.1 in
    subst (λ (xs : List A). AreItems a (w ∷ []) xs) (some_is _ _ g.2) (last_item a w f.0 g.0 (before_takes (codes "]") w f.0 f.1) h.0 h.1)
items_takes {A} a law w (v ∷ ws) xs e =
    let f = bind_takes _ _ _ e in
    let g = bind_takes _ _ _ f.2 in
    let h = law.takes w f.0 f.1 in
    subst (λ (xs : List A). AreItems a (w ∷ v ∷ ws) xs) (some_is _ _ g.2) (more_items a w v ws f.0 g.0 h.0 h.1 (items_takes a law v ws g.0 g.1))

abbrev items_from : {A : Type 0} → Word A → List (List ℕ) → Option (List A)
items_from a [] = None
items_from a (w ∷ ws) = items_read a w ws

items_again : {A : Type 0} (a : Word A) → IsWord a → (x : A) (xs : List A) → list_all a.fits (x ∷ xs) ≡ true → items_from a (closed (map a.spell (x ∷ xs))) ≡ Some (x ∷ xs)
items_again a law x [] e = bind_again _ _ _ _ (before_again (codes "]") (a.spell x)) (bind_again _ _ _ _ (law.again x (and-left _ _ e)) refl)
items_again a law x (y ∷ []) e =
    bind_again _ _ _ _ (law.again x (and-left _ _ e)) (bind_again _ _ _ _ (items_again a law y [] (and-right _ _ e)) refl)
items_again a law x (y ∷ z ∷ zs) e =
    bind_again _ _ _ _ (law.again x (and-left _ _ e)) (bind_again _ _ _ _ (items_again a law y (z ∷ zs) (and-right _ _ e)) refl)

-- the bracket before the first
abbrev IsList : {A : Type 0} → Word A → List (List ℕ) → List A → Type 0
IsList a ws xs = (ws ≡ bracketed (map a.spell xs)) × (list_all a.fits xs ≡ true)

opened_items : {A : Type 0} (a : Word A) (w first : List ℕ) (ws : List (List ℕ)) (xs : List A) → w ≡ codes "[" ++ first → AreItems a (first ∷ ws) xs → IsList a (w ∷ ws) xs
opened_items a w first ws [] e h = let none : first ∷ ws ≡ [] = h.words in absurd cc
opened_items a w first ws (x ∷ xs) e h = (ap (λ (w : List ℕ). w ∷ ws) e ∙ ap opened h.words, h.fit)

bracketed_takes : {A : Type 0} (a : Word A) → IsWord a → (ws : List (List ℕ)) (xs : List A) → bracketed_read a ws ≡ Some xs → IsList a ws xs
bracketed_takes a law [] xs e = absurd cc
bracketed_takes a law (w ∷ ws) xs e =
    let f = bind_takes _ _ _ e in
    opened_items a w f.0 ws xs (after_takes (codes "[") w f.0 f.1) (items_takes a law f.0 ws xs f.2)

empty_is : (ws : List (List ℕ)) → is_empty_list ws ≡ true → ws ≡ codes "[]" ∷ []
empty_is [] e = absurd cc
empty_is (w ∷ []) e = ap (λ (w : List ℕ). w ∷ []) ((bytes_eq-Decides w (codes "[]")).0 e)
empty_is (w ∷ v ∷ ws) e = absurd cc

list-takes : {A : Type 0} (a : Word A) → IsWord a → (ws : List (List ℕ)) (xs : List A) → list_read a ws ≡ Some xs → IsList a ws xs
list-takes {A} a law ws xs e =
    cond_takes (is_empty_list ws) (Some []) (bracketed_read a ws) xs (IsList a ws xs) e
    (λ is f. subst (λ (xs : List A). IsList a ws xs) (some_is _ _ f) (empty_is ws is, refl)) (bracketed_takes a law ws xs)

nothing_left : (t : List ℕ) → length t ≡ 0 → t ≡ []
nothing_left [] e = refl
nothing_left (b ∷ t) e = absurd (omega arith)

no_item : (t : List ℕ) → t ≢ [] → bytes_eq (codes "[" ++ (t ++ codes "]")) (codes "[]") ≡ false
no_item t some = false_from_ne_true _ (λ is.
    let whole : codes "[" ++ (t ++ codes "]") ≡ codes "[]" = (bytes_eq-Decides _ _).0 is in
    let same : length (codes "[" ++ (t ++ codes "]")) ≡ 2 = ap length whole in
    some (nothing_left t (omega (arith, same, length-append t (codes "]")))))

-- a word that is read is not empty
some_word : {A : Type 0} (a : Word A) → IsWord a → (x : A) → a.fits x ≡ true → a.spell x ≢ []
some_word a law x e is = let read : None ≡ Some x = sym law.some ∙ ap a.read (sym is) ∙ law.again x e in absurd cc

list-again : {A : Type 0} (a : Word A) → IsWord a → (xs : List A) → list_all a.fits xs ≡ true → list_read a (bracketed (map a.spell xs)) ≡ Some xs
list-again a law [] e = refl
list-again {A} a law (x ∷ []) e =
    ap (λ (b : Bool). cond b (Some []) (bracketed_read a ((codes "[" ++ (a.spell x ++ codes "]")) ∷ []))) (no_item (a.spell x) (some_word a law x (and-left _ _ e))) ∙
    bind_again _ _ _ _ (after_again (codes "[") (a.spell x ++ codes "]")) (items_again a law x [] e)
list-again a law (x ∷ y ∷ []) e = bind_again _ _ _ _ (after_again (codes "[") (a.spell x)) (items_again a law x (y ∷ []) e)
list-again a law (x ∷ y ∷ z ∷ zs) e = bind_again _ _ _ _ (after_again (codes "[") (a.spell x)) (items_again a law x (y ∷ z ∷ zs) e)

pub list_law : {A : Type 0} (a : Word A) → IsWord a → IsPhrase (list a)
list_law a law = record { takes = list-takes a law; again = list-again a law }

-- the list as it is put
pub joined_items : {A : Type 0} (f : A → List ℕ) (x : A) (xs : List A) → f x ++ flat_map (λ (y : A). 32 ∷ f y) xs ≡ joined (map f (x ∷ xs))
joined_items f x [] = append-nil (f x)
joined_items f x (y ∷ ys) = ap (λ (t : List ℕ). f x ++ 32 ∷ t) (joined_items f y ys)

joined_closed : (w : List ℕ) (ws : List (List ℕ)) → joined (closed (w ∷ ws)) ≡ joined (w ∷ ws) ++ codes "]"
joined_closed w [] = refl
joined_closed w (v ∷ []) = sym (append_assoc w (32 ∷ v) (codes "]"))
joined_closed w (v ∷ u ∷ ws) = ap (λ (t : List ℕ). w ++ 32 ∷ t) (joined_closed v (u ∷ ws)) ∙ sym (append_assoc w (32 ∷ joined (v ∷ u ∷ ws)) (codes "]"))

pub joined_bracketed : (ws : List (List ℕ)) → joined (bracketed ws) ≡ codes "[" ++ (joined ws ++ codes "]")
joined_bracketed [] = refl
joined_bracketed (w ∷ []) = refl
joined_bracketed (w ∷ v ∷ []) = ap (λ (t : List ℕ). codes "[" ++ t) (joined_closed w (v ∷ []))
joined_bracketed (w ∷ v ∷ u ∷ ws) = ap (λ (t : List ℕ). codes "[" ++ t) (joined_closed w (v ∷ u ∷ ws))

-- brackets off words
pub opened_is : (r : Option (Bor (List ℕ))) (word : List ℕ) → MatchOption r ((rest : List ℕ) → word ≢ 91 ∷ rest) (λ x. word ≡ 91 ∷ x.now) → option_map (λ (x : Bor (List ℕ)). x.now) r ≡ after (codes "[") word
opened_is None word h = sym (none_of (after (codes "[") word) (λ rest e. h rest (after_takes (codes "[") word rest e)))
opened_is (Some x) word h = sym (ap (after (codes "[")) h ∙ after_again (codes "[") x.now)

pub closed_is : (r : Option (Bor (List ℕ))) (word : List ℕ) → MatchOption r ((front : List ℕ) → word ≢ front ++ (93 ∷ [])) (λ x. word ≡ x.now ++ (93 ∷ [])) → option_map (λ (x : Bor (List ℕ)). x.now) r ≡ before (codes "]") word
closed_is None word h = sym (none_of (before (codes "]") word) (λ front e. h front (before_takes (codes "]") word front e)))
closed_is (Some x) word h = sym (ap (before (codes "]")) h ∙ before_again (codes "]") x.now)

-- reading item by item
abbrev More : {A : Type 0} → Word A → Option (List A) → List A → List ℕ → List (List ℕ) → Type 0
More {A} a all items word rest = all ≡ option_map (λ (xs : List A). items ++ xs) (items_read a word rest)

item_more : {A : Type 0} (items : List A) (item : A) (r : Option (List A)) → option_map (λ (xs : List A). items ++ xs) (option_and_then (λ (xs : List A). Some (item ∷ xs)) r) ≡ option_map (λ (xs : List A). (items ++ item ∷ []) ++ xs) r
item_more items item None = refl
item_more {A} items item (Some xs) = ap (λ (xs : List A). Some xs) (sym (append_assoc items (item ∷ []) xs))

pub items_step : {A : Type 0} (a : Word A) (all : Option (List A)) (items : List A) (word next : List ℕ) (rest : List (List ℕ)) (item : A) → More a all items word (next ∷ rest) → a.read word ≡ Some item → More a all (items ++ item ∷ []) next rest
items_step {A} a all items word next rest item h e =
    h ∙ ap (λ (r : Option A). option_map (λ (xs : List A). items ++ xs) (option_and_then (λ (x : A). option_and_then (λ (xs : List A). Some (x ∷ xs)) (items_read a next rest)) r)) e ∙ item_more items item (items_read a next rest)

pub items_stuck : {A : Type 0} (a : Word A) (all : Option (List A)) (items : List A) (word next : List ℕ) (rest : List (List ℕ)) → More a all items word (next ∷ rest) → a.read word ≡ None → all ≡ None
items_stuck {A} a all items word next rest h e =
    h ∙ ap (λ (r : Option A). option_map (λ (xs : List A). items ++ xs) (option_and_then (λ (x : A). option_and_then (λ (xs : List A). Some (x ∷ xs)) (items_read a next rest)) r)) e

abbrev last_read : {A : Type 0} → Word A → List A → Option (List ℕ) → Option (List A)
last_read {A} a items front = option_map (λ (xs : List A). items ++ xs) (option_and_then (λ (t : List ℕ). option_and_then (λ (x : A). Some (x ∷ [])) (a.read t)) front)

pub items_last : {A : Type 0} (a : Word A) (all : Option (List A)) (items : List A) (word front : List ℕ) (item : A) → More a all items word [] → before (codes "]") word ≡ Some front → a.read front ≡ Some item → all ≡ Some (items ++ item ∷ [])
items_last {A} a all items word front item h e f = h ∙ ap (last_read a items) e ∙ ap (λ (r : Option A). option_map (λ (xs : List A). items ++ xs) (option_and_then (λ (x : A). Some (x ∷ [])) r)) f

pub items_open : {A : Type 0} (a : Word A) (all : Option (List A)) (items : List A) (word : List ℕ) → More a all items word [] → before (codes "]") word ≡ None → all ≡ None
items_open {A} a all items word h e = h ∙ ap (last_read a items) e

pub items_wrong : {A : Type 0} (a : Word A) (all : Option (List A)) (items : List A) (word front : List ℕ) → More a all items word [] → before (codes "]") word ≡ Some front → a.read front ≡ None → all ≡ None
items_wrong {A} a all items word front h e f = h ∙ ap (last_read a items) e ∙ ap (λ (r : Option A). option_map (λ (xs : List A). items ++ xs) (option_and_then (λ (x : A). Some (x ∷ [])) r)) f

pub items_stuck_at : {A : Type 0} (a : Word A) (all : Option (List A)) (items : List A) (word : List ℕ) (rest : List (Bor (List ℕ))) (i : ℕ) → i < length rest → More a all items word (texts (drop i rest)) → a.read word ≡ None → all ≡ None
items_stuck_at a all items word [] i lt h e = absurd (omega (arith, lt))
items_stuck_at a all items word (r ∷ rest) zero lt h e = items_stuck a all items word r.now (texts rest) h e
items_stuck_at a all items word (r ∷ rest) (suc i) lt h e = items_stuck_at a all items word rest i (omega (arith, lt)) h e

take_all : {A : Type 0} (xs : List A) (i : ℕ) → length xs ≤ i → take i xs ≡ xs
take_all [] zero le = refl
take_all [] (suc i) le = refl
take_all (x ∷ xs) zero le = absurd (omega (arith, le))
take_all (x ∷ xs) (suc i) le = ap (λ ys. x ∷ ys) (take_all xs i (omega (arith, le)))

-- putting item by item
pub items_put : {A : Type 0} (f : A → List ℕ) (out begun done : List ℕ) (x : A) (xs : List A) (i : ℕ) → length xs ≤ i → begun ≡ out ++ f x → done ≡ begun ++ flat_map (λ (y : A). 32 ∷ f y) (take i xs) → done ≡ out ++ joined (map f (x ∷ xs))
items_put {A} f out begun done x xs i le e h =
    h ∙ ap (λ (ys : List A). begun ++ flat_map (λ (y : A). 32 ∷ f y) ys) (take_all xs i le) ∙ ap (λ (t : List ℕ). t ++ flat_map (λ (y : A). 32 ∷ f y) xs) e
    ∙ append_assoc out (f x) (flat_map (λ (y : A). 32 ∷ f y) xs) ∙ ap (λ (t : List ℕ). out ++ t) (joined_items f x xs)

pub list_put : (out begun put done : List ℕ) (ws : List (List ℕ)) → begun ≡ out ++ 91 ∷ [] → put ≡ begun ++ joined ws → done ≡ put ++ 93 ∷ [] → done ≡ out ++ joined (bracketed ws)
list_put out begun put done ws e f g =
    g ∙ ap (λ (t : List ℕ). t ++ 93 ∷ []) (f ∙ ap (λ (t : List ℕ). t ++ joined ws) e ∙ append_assoc out (91 ∷ []) (joined ws)) ∙ append_assoc out (91 ∷ joined ws) (93 ∷ [])
    ∙ ap (λ (t : List ℕ). out ++ t) (sym (joined_bracketed ws))
