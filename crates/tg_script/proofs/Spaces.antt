-- Words with a space between any two, and how they are written one after the other.
use Rattle.std.proofs.Common.{◌≡◌, ℕ, zero, suc, ◌≤◌, List, [], ◌∷◌, ◌++◌, length, map, take, sym, refl, ap, ◌∙◌, arith, codes}
use Rattle.std.specs.Prelude.{Result, Ok, Err, OnOk}
use Rattle.std.specs.List.{join_with_byte, flat_map, concat}
use mathlib.Core.List.{append_assoc, append-nil}
use Rattle.tg_any.specs.Words.{joined}
use Rattle.std.specs.Fmt.{decimal}
use Rattle.tg_base.specs.declared.ids.Oid.{Oid}
use Rattle.tg_any.specs.Names.{object_word}
use Rattle.tg_script.specs.Parts.{spaced}
use Rattle.tg_base.specs.Clusters.{Header}
use Rattle.tg_script.specs.Nodes.{chains_word}
use Rattle.tg_script.specs.Headers.{sizes_words, sizes_of, header_lines, lines_text}
use Rattle.tg_script.specs.declared.header.Sizes.{Sizes}
use Rattle.tg_script.proofs.Lines.{joined_is}
use Rattle.tg_script.specs.Commands.{part_words}

-- what follows where the last step succeeded
pub on_ok : {T E : Type 0} (r : Result T E) (P Q : Type 0) → OnOk r P → (P → Q) → OnOk r Q
on_ok (Ok x) P Q p f = f p
on_ok (Err e) P Q p f = tt

-- Words.

pub joined_spaced : (w : List ℕ) (ws : List (List ℕ)) → joined (w ∷ ws) ≡ w ++ spaced ws
joined_spaced w [] = sym (append-nil w)
joined_spaced w (v ∷ ws) = refl

pub spaced_append : (a b : List (List ℕ)) → spaced (a ++ b) ≡ spaced a ++ spaced b
spaced_append [] b = refl
spaced_append (w ∷ ws) b =
    ap (λ (t : List ℕ). 32 ∷ t) (joined_spaced w (ws ++ b) ∙ ap (λ (t : List ℕ). w ++ t) (spaced_append ws b)
    ∙ sym (append_assoc w (spaced ws) (spaced b)) ∙ ap (λ (t : List ℕ). t ++ spaced b) (sym (joined_spaced w ws)))

spaced_some : (ws : List (List ℕ)) → (ws ≡ [] → ⊥) → 32 ∷ joined ws ≡ spaced ws
spaced_some [] some = absurd (some refl)
spaced_some (w ∷ ws) some = refl

-- words behind one, two or three others
pub front_one : (w : List ℕ) (ws : List (List ℕ)) → (ws ≡ [] → ⊥) → w ++ 32 ∷ joined ws ≡ joined (w ∷ ws)
front_one w ws some = ap (λ (t : List ℕ). w ++ t) (spaced_some ws some) ∙ sym (joined_spaced w ws)

pub front_two : (v w : List ℕ) (ws : List (List ℕ)) → (ws ≡ [] → ⊥) → joined (v ∷ w ∷ []) ++ 32 ∷ joined ws ≡ joined (v ∷ w ∷ ws)
front_two v w ws some = append_assoc v (32 ∷ w) (32 ∷ joined ws) ∙ ap (λ (t : List ℕ). v ++ 32 ∷ t) (front_one w ws some)

pub front_three : (u v w : List ℕ) (ws : List (List ℕ)) → (ws ≡ [] → ⊥) → joined (u ∷ v ∷ w ∷ []) ++ 32 ∷ joined ws ≡ joined (u ∷ v ∷ w ∷ ws)
front_three u v w ws some = append_assoc u (32 ∷ joined (v ∷ w ∷ [])) (32 ∷ joined ws) ∙ ap (λ (t : List ℕ). u ++ 32 ∷ t) (front_two v w ws some)

-- what is written in two or three steps
pub written_two : (out a b front back all : List ℕ) → a ≡ out ++ front → b ≡ a ++ back → front ++ back ≡ all → b ≡ out ++ all
written_two out a b front back all e f whole = f ∙ ap (λ (t : List ℕ). t ++ back) e ∙ append_assoc out front back ∙ ap (λ (t : List ℕ). out ++ t) whole

pub written_behind : (out a b c front back all : List ℕ) → a ≡ out ++ front → b ≡ a ++ 32 ∷ [] → c ≡ b ++ back → front ++ 32 ∷ back ≡ all → c ≡ out ++ all
written_behind out a b c front back all e f g whole =
    written_two out a c front (32 ∷ back) all e (written_two a b c (32 ∷ []) back (32 ∷ back) f g refl) whole

-- Changes.

regroup : (o p m a b c : List ℕ) → ((((o ++ p) ++ m) ++ a) ++ b) ++ c ≡ o ++ (p ++ (m ++ (a ++ (b ++ c))))
regroup o p m a b c = simp append_assoc

pub change_written : (out s t u v w verb seq : List ℕ) (a b c : List (List ℕ)) → s ≡ out ++ (verb ++ 32 ∷ []) → t ≡ s ++ seq → u ≡ t ++ spaced a → v ≡ u ++ spaced b → w ≡ v ++ spaced c
    → w ≡ out ++ joined (verb ∷ seq ∷ (a ++ (b ++ c)))
change_written out s t u v w verb seq a b c e f g h i =
    let whole : w ≡ ((((out ++ (verb ++ 32 ∷ [])) ++ seq) ++ spaced a) ++ spaced b) ++ spaced c = rw (i, h, g, f, e) refl in
    let tail : seq ++ (spaced a ++ (spaced b ++ spaced c)) ≡ joined (seq ∷ (a ++ (b ++ c))) =
    ap (λ (t : List ℕ). seq ++ t) (ap (λ (t : List ℕ). spaced a ++ t) (sym (spaced_append b c)) ∙ sym (spaced_append a (b ++ c))) ∙ sym (joined_spaced seq (a ++ (b ++ c))) in
    whole ∙ regroup out (verb ++ 32 ∷ []) seq (spaced a) (spaced b) (spaced c)
    ∙ ap (λ (t : List ℕ). out ++ t) (append_assoc verb (32 ∷ []) (seq ++ (spaced a ++ (spaced b ++ spaced c))) ∙ ap (λ (t : List ℕ). verb ++ 32 ∷ t) tail)

pub some_part : {A : Type 0} (name : List ℕ) (spell : List A → List ℕ) (xs : List A) → (length xs ≡ 0 → ⊥) → 32 ∷ (name ++ 32 ∷ spell xs) ≡ spaced (part_words name spell xs)
some_part name spell [] some = absurd (some refl)
some_part name spell (x ∷ xs) some = refl

-- Lists.

-- a word and items, each behind a byte
pub joined_each : {A : Type 0} (byte : ℕ) (f : A → List ℕ) (w : List ℕ) (xs : List A) → w ++ flat_map (λ (x : A). byte ∷ f x) xs ≡ join_with_byte byte (w ∷ map f xs)
joined_each byte f w [] = append-nil w
joined_each byte f w (x ∷ xs) = ap (λ (t : List ℕ). w ++ byte ∷ t) (joined_each byte f (f x) xs)

take_all : {A : Type 0} (xs : List A) (i : ℕ) → length xs ≤ i → take i xs ≡ xs
take_all [] zero le = refl
take_all [] (suc i) le = refl
take_all (x ∷ xs) zero le = absurd (omega (arith, le))
take_all (x ∷ xs) (suc i) le = ap (λ ys. x ∷ ys) (take_all xs i (omega (arith, le)))

pub all_written : {A : Type 0} (f : A → List ℕ) (out done : List ℕ) (xs : List A) (i : ℕ) → length xs ≤ i → done ≡ out ++ flat_map f (take i xs) → done ≡ out ++ flat_map f xs
all_written f out done xs i le h = h ∙ ap (λ ys. out ++ flat_map f ys) (take_all xs i le)

flat_is_concat : (xs : List (List ℕ)) → flat_map (λ (x : List ℕ). x) xs ≡ concat xs
flat_is_concat [] = refl
flat_is_concat (x ∷ xs) = ap (λ (t : List ℕ). x ++ t) (flat_is_concat xs)

pub concat_written : (out done : List ℕ) (xs : List (List ℕ)) (i : ℕ) → out ≡ [] → length xs ≤ i → done ≡ out ++ flat_map (λ (x : List ℕ). x) (take i xs) → done ≡ concat xs
concat_written out done xs i e le h = all_written (λ (x : List ℕ). x) out done xs i le h ∙ ap (λ (t : List ℕ). t ++ flat_map (λ (x : List ℕ). x) xs) e ∙ flat_is_concat xs

pub some_written : {A : Type 0} (byte : ℕ) (f : A → List ℕ) (out begun done : List ℕ) (x : A) (xs : List A) (i : ℕ) → length xs ≤ i → begun ≡ out ++ f x → done ≡ begun ++ flat_map (λ (y : A). byte ∷ f y) (take i xs)
    → done ≡ out ++ join_with_byte byte (map f (x ∷ xs))
some_written {A} byte f out begun done x xs i le e h =
    written_two out begun done (f x) (flat_map (λ (y : A). byte ∷ f y) xs) (join_with_byte byte (map f (x ∷ xs))) e (all_written (λ (y : A). byte ∷ f y) begun done xs i le h) (joined_each byte f (f x) xs)

-- Headers.

pub sizes_written : (o a b c d e f : List ℕ) (s : Sizes) → a ≡ o ++ (codes "cluster units " ++ decimal s.units) → b ≡ a ++ (codes " layouts " ++ decimal s.layouts) → c ≡ b ++ (codes " seqs " ++ decimal s.seqs)
    → d ≡ c ++ (codes " clients " ++ decimal s.clients) → e ≡ d ++ (codes " limit " ++ decimal s.limit) → f ≡ e ++ 10 ∷ [] → f ≡ o ++ (joined (sizes_words s) ++ 10 ∷ [])
sizes_written o a b c d e f s g h i j k l = rw (l, k, j, i, h, g) (simp append_assoc)

pub objects_written : (o a b c : List ℕ) (os : List Oid) → a ≡ o ++ codes "objects" → b ≡ a ++ flat_map (λ (x : Oid). 32 ∷ object_word x) os → c ≡ b ++ 10 ∷ [] → c ≡ o ++ (joined (codes "objects" ∷ map object_word os) ++ 10 ∷ [])
objects_written o a b c os e f g =
    let whole : codes "objects" ++ flat_map (λ (x : Oid). 32 ∷ object_word x) os ≡ joined (codes "objects" ∷ map object_word os) =
    joined_each 32 object_word (codes "objects") os ∙ sym (joined_is (codes "objects" ∷ map object_word os)) in
    g ∙ ap (λ (t : List ℕ). t ++ 10 ∷ []) (written_two o a b (codes "objects") (flat_map (λ (x : Oid). 32 ∷ object_word x) os) (joined (codes "objects" ∷ map object_word os)) e f whole)
    ∙ append_assoc o (joined (codes "objects" ∷ map object_word os)) (10 ∷ [])

three_written : (out a b c x y z : List ℕ) → a ≡ out ++ (x ++ 10 ∷ []) → b ≡ a ++ (y ++ 10 ∷ []) → c ≡ b ++ (z ++ 10 ∷ []) → c ≡ out ++ lines_text (x ∷ y ∷ z ∷ [])
three_written out a b c x y z e f g = rw (g, f, e) (simp append_assoc)

same_sizes : (h : Header) (units layouts seqs clients limit : ℕ) → units ≡ h.units → layouts ≡ h.layouts → seqs ≡ h.seqs → clients ≡ h.clients → limit ≡ h.limit
    → ◌≡◌ {A = Sizes} (record { units = units; layouts = layouts; seqs = seqs; clients = clients; limit = limit }) (sizes_of h)
same_sizes h units layouts seqs clients limit d e f g k = λ i. record { units = d i; layouts = e i; seqs = f i; clients = g i; limit = k i }

pub header_written : (h : Header) (out a b c : List ℕ) (units layouts seqs clients limit : ℕ) (cs : List (List ℕ)) (os : List Oid)
    → units ≡ h.units → layouts ≡ h.layouts → seqs ≡ h.seqs → clients ≡ h.clients → limit ≡ h.limit → cs ≡ h.chains → os ≡ h.objects
    → a ≡ out ++ (joined (sizes_words (record { units = units; layouts = layouts; seqs = seqs; clients = clients; limit = limit })) ++ 10 ∷ [])
    → b ≡ a ++ (joined (codes "chains" ∷ chains_word cs ∷ []) ++ 10 ∷ []) → c ≡ b ++ (joined (codes "objects" ∷ map object_word os) ++ 10 ∷ []) → c ≡ out ++ lines_text (header_lines h)
header_written h out a b c units layouts seqs clients limit cs os d e f g k is_cs is_os first second third =
    three_written out a b c (joined (sizes_words (sizes_of h))) (joined (codes "chains" ∷ chains_word h.chains ∷ [])) (joined (codes "objects" ∷ map object_word h.objects))
    (first ∙ ap (λ (s : Sizes). out ++ (joined (sizes_words s) ++ 10 ∷ [])) (same_sizes h units layouts seqs clients limit d e f g k))
    (second ∙ ap (λ (cs : List (List ℕ)). a ++ (joined (codes "chains" ∷ chains_word cs ∷ []) ++ 10 ∷ [])) is_cs)
    (third ∙ ap (λ (os : List Oid). b ++ (joined (codes "objects" ∷ map object_word os) ++ 10 ∷ [])) is_os)
