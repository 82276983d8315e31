-- The lines of headers: a header is read from its own lines alone, and the first line outside is the first that isn't read.
use Rattle.std.proofs.Common.{◌≡◌, ℕ, zero, suc, ◌<◌, ◌≤◌, ◌^◌, Bool, true, not, ◌&&◌, eqb, ltb, List, [], ◌∷◌, ◌++◌, length, take, Option, Some, None, sym, refl, subst, ap, ◌∙◌, arith}
use Rattle.std.specs.List.{list_all, concat}
use Rattle.std.proofs.lemmas.Bool.{lt-ltb}
use Rattle.std.proofs.lemmas.Bool.Decides.{nat_tests}
use Rattle.std.proofs.lemmas.List.Folds.{list_all-append}
use Rattle.tg_base.specs.declared.ids.Oid.{Oid}
use Rattle.tg_base.specs.Units.{is_within, is_chain}
use Rattle.tg_base.specs.Clusters.{Header, IsHeader, are_chains, are_objects, is_user_object}
use Rattle.tg_codec.proofs.Laws.{and-left, and-right, both}
use Rattle.tg_any.specs.Names.{is_named}
use Rattle.tg_any.proofs.Fronts.{some_is}
use Rattle.tg_any.specs.Words.{joined}
use Rattle.tg_script.specs.Nodes.{chain, few_apart, chains}
use Rattle.tg_script.specs.declared.header.Sizes.{Sizes}
use Rattle.tg_script.specs.Headers.{are_sizes, sizes, stripes, objects, sizes_of, header_lines, IsFront, IsFirstOutside, sizes_in, stripes_in, objects_in}
use Rattle.tg_script.proofs.Parts.{not_empty}
use Rattle.tg_script.proofs.Lines.{line_takes, line_again}
use Rattle.tg_script.proofs.Headers.{sizes_small, sizes_law, sizes_plain, stripes_law, stripes_plain, objects_law, objects_plain}

-- The chains of a header, and the chains that are read.

all_weaker : {A : Type 0} (p q : A → Bool) → ((x : A) → p x ≡ true → q x ≡ true) → (xs : List A) → list_all p xs ≡ true → list_all q xs ≡ true
all_weaker p q weaker [] e = refl
all_weaker p q weaker (x ∷ xs) e = both _ _ (weaker x (and-left _ _ e)) (all_weaker p q weaker xs (and-right _ _ e))

all_join : (p : ℕ → Bool) (x y : List ℕ) → list_all p x ≡ true → list_all p y ≡ true → list_all p (x ++ y) ≡ true
all_join p x y e f = list_all-append p x y ∙ both _ _ e f

concat_all : (p : ℕ → Bool) (cs : List (List ℕ)) → list_all (list_all p) cs ≡ true → list_all p (concat cs) ≡ true
concat_all p [] e = refl
concat_all p (c ∷ cs) e = all_join p c (concat cs) (and-left _ _ e) (concat_all p cs (and-right _ _ e))

pub chains_are : (units : ℕ) (cs : List (List ℕ)) → (chains units).fits cs ≡ true → are_chains units cs ≡ true
chains_are units cs e =
    let each : list_all (chain units).fits cs ≡ true = and-right _ _ (and-left _ _ e) in
    let few : few_apart cs ≡ true = and-right _ _ e in
    both _ _ (both _ _ (both _ _ (and-left _ _ few)
    (all_weaker (chain units).fits is_chain (λ c f. and-right _ _ f) cs each))
    (concat_all (λ (u : ℕ). ltb u units) cs (all_weaker (chain units).fits (list_all (λ (u : ℕ). ltb u units)) (λ c f. and-right _ _ (and-left _ _ f)) cs each)))
    (and-right _ _ few)

some_unit : (c : List ℕ) → is_chain c ≡ true → not (eqb (length c) 0) ≡ true
some_unit [] e = absurd cc
some_unit (u ∷ c) e = not_empty u c

each_chain : (units : ℕ) (cs : List (List ℕ)) → list_all is_chain cs ≡ true → list_all (λ (u : ℕ). ltb u units) (concat cs) ≡ true → list_all (chain units).fits cs ≡ true
each_chain units [] e f = refl
each_chain units (c ∷ cs) e f =
    let parts : (list_all (λ (u : ℕ). ltb u units) c && list_all (λ (u : ℕ). ltb u units) (concat cs)) ≡ true = sym (list_all-append (λ (u : ℕ). ltb u units) c (concat cs)) ∙ f in
    both _ _ (both _ _ (both _ _ (some_unit c (and-left _ _ e)) (and-left _ _ parts)) (and-left _ _ e)) (each_chain units cs (and-right _ _ e) (and-right _ _ parts))

some_chain : (cs : List (List ℕ)) → is_within 1 8 (length cs) ≡ true → not (eqb (length cs) 0) ≡ true
some_chain [] e = absurd cc
some_chain (c ∷ cs) e = not_empty c cs

pub chains_fit : (units : ℕ) (cs : List (List ℕ)) → are_chains units cs ≡ true → (chains units).fits cs ≡ true
chains_fit units cs e =
    let count : is_within 1 8 (length cs) ≡ true = and-left _ _ (and-left _ _ (and-left _ _ e)) in
    both _ _ (both _ _ (some_chain cs count) (each_chain units cs (and-right _ _ (and-left _ _ (and-left _ _ e))) (and-right _ _ (and-left _ _ e)))) (both _ _ count (and-right _ _ e))

-- The objects of a header.

user_named : (o : Oid) → is_user_object o ≡ true → is_named o ≡ true
user_named o e = grind (arith, nat_tests)

pub objects_fit : (os : List Oid) → are_objects os ≡ true → objects.fits os ≡ true
objects_fit os e = both _ _ (all_weaker is_user_object is_named user_named os (and-right _ _ (and-left _ _ e))) e

-- Headers.

abbrev pub header_of : Sizes → List (List ℕ) → List Oid → Header
header_of s cs os = record { units = s.units; layouts = s.layouts; seqs = s.seqs; clients = s.clients; limit = s.limit; chains = cs; objects = os }

pub header_sizes : (h : Header) → IsHeader h → are_sizes (sizes_of h) ≡ true
header_sizes h e = and-left _ _ (and-left _ _ e)

pub few_units : (s : Sizes) → are_sizes s ≡ true → s.units ≤ 2 ^ 64
few_units s e = let small = (sizes_small s e).units in omega (arith, small)

pub record IsRead (lines : List (List ℕ)) (h : Header) : Type 0 where
  pub first : sizes_in lines ≡ Some (sizes_of h)
  pub second : stripes_in h.units lines ≡ Some h.chains
  pub third : objects_in lines ≡ Some h.objects

-- a header's lines are read as the header
pub lines_again : (h : Header) → IsHeader h → IsRead (header_lines h) h
lines_again h e = record {
  first = line_again sizes sizes_law sizes_plain (sizes_of h) (header_sizes h e);
  second =
      let few = few_units (sizes_of h) (header_sizes h e) in
      line_again (stripes h.units) (stripes_law h.units few) (stripes_plain h.units few) h.chains (chains_fit h.units h.chains (and-right _ _ (and-left _ _ e)));
  third = line_again objects objects_law objects_plain h.objects (objects_fit h.objects (and-right _ _ e));
}

-- what is read of each line
sizes_first : (lines : List (List ℕ)) (s : Sizes) → sizes_in lines ≡ Some s → (take 1 lines ≡ joined (sizes.spell s) ∷ []) × (are_sizes s ≡ true)
sizes_first [] s e = absurd cc
sizes_first (line ∷ lines) s e = let h = line_takes sizes sizes_law line s e in (ap (λ (t : List ℕ). t ∷ []) h.0, h.1)

two_lines : (a b x y : List ℕ) → a ∷ [] ≡ x ∷ [] → b ≡ y → a ∷ b ∷ [] ≡ x ∷ y ∷ []
two_lines a b x y e f = cc

three_lines : (a b c x y z : List ℕ) → a ∷ b ∷ [] ≡ x ∷ y ∷ [] → c ≡ z → a ∷ b ∷ c ∷ [] ≡ x ∷ y ∷ z ∷ []
three_lines a b c x y z e f = cc

stripes_second : (units : ℕ) (lines : List (List ℕ)) (cs : List (List ℕ)) (first : List ℕ) → units ≤ 2 ^ 64 → take 1 lines ≡ first ∷ [] → stripes_in units lines ≡ Some cs
    → (take 2 lines ≡ first ∷ joined ((stripes units).spell cs) ∷ []) × (are_chains units cs ≡ true)
stripes_second units [] cs first most e f = absurd cc
stripes_second units (a ∷ []) cs first most e f = absurd cc
stripes_second units (a ∷ b ∷ lines) cs first most e f =
    let h = line_takes (stripes units) (stripes_law units most) b cs f in
    (two_lines a b first _ e h.0, chains_are units cs h.1)

objects_third : (lines : List (List ℕ)) (os : List Oid) (first second : List ℕ) → take 2 lines ≡ first ∷ second ∷ [] → objects_in lines ≡ Some os
    → (take 3 lines ≡ first ∷ second ∷ joined (objects.spell os) ∷ []) × (are_objects os ≡ true)
objects_third [] os first second e f = absurd cc
objects_third (a ∷ []) os first second e f = absurd cc
objects_third (a ∷ b ∷ []) os first second e f = absurd cc
objects_third (a ∷ b ∷ c ∷ lines) os first second e f =
    let h = line_takes objects objects_law c os f in
    (three_lines a b c first second _ e h.0, and-right _ _ h.1)

whole : (lines : List (List ℕ)) → length lines ≤ 3 → take 3 lines ≡ lines
whole [] le = refl
whole (a ∷ []) le = refl
whole (a ∷ b ∷ []) le = refl
whole (a ∷ b ∷ c ∷ []) le = refl
whole (a ∷ b ∷ c ∷ d ∷ lines) le = absurd (omega (arith, le))

-- what is read of three lines is a header, and they are its lines
pub read_lines : (lines : List (List ℕ)) (s : Sizes) (cs : List (List ℕ)) (os : List Oid) → length lines ≤ 3 → sizes_in lines ≡ Some s → stripes_in s.units lines ≡ Some cs → objects_in lines ≡ Some os
    → (lines ≡ header_lines (header_of s cs os)) × IsHeader (header_of s cs os)
read_lines lines s cs os le e f g =
    let a = sizes_first lines s e in
    let b = stripes_second s.units lines cs _ (few_units s a.1) a.0 f in
    let c = objects_third lines os _ _ b.0 g in
    (sym (whole lines le) ∙ c.0, both _ _ (both _ _ a.1 b.1) c.1)

-- the first line tells at most 64 units
pub few_first : (lines : List (List ℕ)) (s : Sizes) → sizes_in lines ≡ Some s → s.units ≤ 64
few_first lines s e =
    let units : is_within 1 64 s.units ≡ true = and-left _ _ (and-left _ _ (and-left _ _ (and-left _ _ (sizes_first lines s e).1))) in
    grind (arith, nat_tests)

-- The first line outside.

one_unit : (units : ℕ) → 0 < units → are_chains units ((0 ∷ []) ∷ []) ≡ true
one_unit units some = both _ _ (both _ _ (both _ _ refl refl) (both _ _ (lt-ltb 0 units some) refl)) refl

some_units : (s : Sizes) → are_sizes s ≡ true → 0 < s.units
some_units s e = let units : is_within 1 64 s.units ≡ true = and-left _ _ (and-left _ _ (and-left _ _ (and-left _ _ e))) in grind (arith, nat_tests)

front_0 : (lines : List (List ℕ)) → IsFront lines 0
front_0 lines = record { header = header_of (record { units = 1; layouts = 1; seqs = 1; clients = 1; limit = 1 }) ((0 ∷ []) ∷ []) []; lawful = refl; same = refl }

front_1 : (lines : List (List ℕ)) (s : Sizes) → sizes_in lines ≡ Some s → IsFront lines 1
front_1 lines s e =
    let a = sizes_first lines s e in
    record { header = header_of s ((0 ∷ []) ∷ []) []; lawful = both _ _ (both _ _ a.1 (one_unit s.units (some_units s a.1))) refl; same = a.0 }

front_2 : (lines : List (List ℕ)) (s : Sizes) (cs : List (List ℕ)) → sizes_in lines ≡ Some s → stripes_in s.units lines ≡ Some cs → IsFront lines 2
front_2 lines s cs e f =
    let a = sizes_first lines s e in
    let b = stripes_second s.units lines cs _ (few_units s a.1) a.0 f in
    record { header = header_of s cs []; lawful = both _ _ (both _ _ a.1 b.1) refl; same = b.0 }

-- a front is read as far as it goes
first_read : (lines : List (List ℕ)) (h : Header) → IsHeader h → take 1 lines ≡ take 1 (header_lines h) → sizes_in lines ≡ Some (sizes_of h)
first_read [] h e f = absurd cc
first_read (a ∷ lines) h e f = ap sizes_in f ∙ (lines_again h e).first

second_read : (lines : List (List ℕ)) (h : Header) → IsHeader h → take 2 lines ≡ take 2 (header_lines h) → stripes_in h.units lines ≡ Some h.chains
second_read [] h e f = absurd cc
second_read (a ∷ []) h e f = absurd cc
second_read (a ∷ b ∷ lines) h e f = ap (stripes_in h.units) f ∙ (lines_again h e).second

third_read : (lines : List (List ℕ)) (h : Header) → IsHeader h → take 3 lines ≡ take 3 (header_lines h) → objects_in lines ≡ Some h.objects
third_read [] h e f = absurd cc
third_read (a ∷ []) h e f = absurd cc
third_read (a ∷ b ∷ []) h e f = absurd cc
third_read (a ∷ b ∷ c ∷ lines) h e f = ap objects_in f ∙ (lines_again h e).third

first_of : (xs ys : List (List ℕ)) → take 2 xs ≡ take 2 ys → take 1 xs ≡ take 1 ys
first_of [] [] e = refl
first_of [] (y ∷ ys) e = absurd cc
first_of (x ∷ xs) [] e = absurd cc
first_of (x ∷ xs) (y ∷ ys) e = let same : x ≡ y = cc in ap (λ (t : List ℕ). t ∷ []) same

below_1 : (P : ℕ → Type 0) → P 0 → (m : ℕ) → m < 1 → P m
below_1 P a zero lt = a
below_1 P a (suc m) lt = absurd (omega (arith, lt))

below_2 : (P : ℕ → Type 0) → P 0 → P 1 → (m : ℕ) → m < 2 → P m
below_2 P a b zero lt = a
below_2 P a b (suc zero) lt = b
below_2 P a b (suc (suc m)) lt = absurd (omega (arith, lt))

below_3 : (P : ℕ → Type 0) → P 0 → P 1 → P 2 → (m : ℕ) → m < 3 → P m
below_3 P a b c zero lt = a
below_3 P a b c (suc zero) lt = b
below_3 P a b c (suc (suc zero)) lt = c
below_3 P a b c (suc (suc (suc m))) lt = absurd (omega (arith, lt))

unread : {A : Type 0} (o : Option A) (x : A) → o ≡ None → o ≡ Some x → ⊥
unread o x e f = absurd cc

pub outside_1 : (lines : List (List ℕ)) → sizes_in lines ≡ None → IsFirstOutside lines 1
outside_1 lines e = record {
  before = below_1 (IsFront lines) (front_0 lines);
  outside = λ front. unread _ _ e (first_read lines front.header front.lawful front.same);
}

pub outside_2 : (lines : List (List ℕ)) (s : Sizes) → sizes_in lines ≡ Some s → stripes_in s.units lines ≡ None → IsFirstOutside lines 2
outside_2 lines s e f = record {
  before = below_2 (IsFront lines) (front_0 lines) (front_1 lines s e);
  outside = λ front.
      let is : sizes_of front.header ≡ s = some_is _ _ (sym (first_read lines front.header front.lawful (first_of lines (header_lines front.header) front.same)) ∙ e) in
      let units : front.header.units ≡ s.units = ap (λ (s : Sizes). s.units) is in
      unread _ _ f (subst (λ (u : ℕ). stripes_in u lines ≡ Some front.header.chains) units (second_read lines front.header front.lawful front.same));
}

pub outside_3 : (lines : List (List ℕ)) (s : Sizes) (cs : List (List ℕ)) → sizes_in lines ≡ Some s → stripes_in s.units lines ≡ Some cs → objects_in lines ≡ None → IsFirstOutside lines 3
outside_3 lines s cs e f g = record {
  before = below_3 (IsFront lines) (front_0 lines) (front_1 lines s e) (front_2 lines s cs e f);
  outside = λ front. unread _ _ g (third_read lines front.header front.lawful front.same);
}

-- no header has these lines
pub no_header : (lines : List (List ℕ)) (n : ℕ) → IsFirstOutside lines n → (h : Header) → IsHeader h → lines ≡ header_lines h → ⊥
no_header lines n out h lawful e = out.outside (record { header = h; lawful = lawful; same = ap (take n) e })

same_parts : (s t : Sizes) (cs ds : List (List ℕ)) (os ps : List Oid) → s ≡ t → cs ≡ ds → os ≡ ps → header_of s cs os ≡ header_of t ds ps
same_parts s t cs ds os ps e f g = rw (e, f, g) refl

-- headers with the same lines are the same
pub same_header : (a b : Header) → IsHeader a → IsHeader b → (lines : List (List ℕ)) → lines ≡ header_lines a → lines ≡ header_lines b → a ≡ b
same_header a b e f lines is_a is_b =
    let same : header_lines a ≡ header_lines b = sym is_a ∙ is_b in
    let first = some_is _ _ (sym (lines_again a e).first ∙ ap sizes_in same ∙ (lines_again b f).first) in
    let units : b.units ≡ a.units = sym (ap (λ (s : Sizes). s.units) first) in
    let second : stripes_in a.units (header_lines b) ≡ Some b.chains = subst (λ (u : ℕ). stripes_in u (header_lines b) ≡ Some b.chains) units (lines_again b f).second in
    same_parts (sizes_of a) (sizes_of b) a.chains b.chains a.objects b.objects first
    (some_is _ _ (sym (lines_again a e).second ∙ ap (stripes_in a.units) same ∙ second))
    (some_is _ _ (sym (lines_again a e).third ∙ ap objects_in same ∙ (lines_again b f).third))
