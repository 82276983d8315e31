-- What is read of a header's lines is what they spell, and nothing else.
use Rattle.std.proofs.Common.{◌≡◌, ℕ, ◌<◌, ◌≤◌, ◌%◌, ◌^◌, Bool, true, false, cond, eqb, List, [], ◌∷◌, length, Option, Some, refl, subst, arith, codes}
use Rattle.std.specs.List.{list_all}
use Rattle.std.specs.Str.{bytes_eq}
use Rattle.std.specs.Fmt.{decimal}
use Rattle.std.proofs.lemmas.Bool.{eqb-true}
use Rattle.std.proofs.lemmas.Bool.Decides.{nat_tests}
use Rattle.std.proofs.lemmas.Slice.Eq.{bytes_eq-Decides}
use Rattle.tg_base.specs.declared.ids.Oid.{Oid}
use Rattle.tg_base.specs.Units.{is_within}
use Rattle.tg_base.specs.Clusters.{is_odd_to_seven, are_objects}
use Rattle.tg_codec.proofs.Laws.{and-left, and-right, both}
use Rattle.tg_kind.specs.Parts.{tag_of}
use Rattle.tg_any.specs.Names.{kind_name}
use Rattle.tg_any.specs.Words.{object}
use Rattle.tg_any.proofs.Numbers.{bind_takes, number_in_takes, number_in_again}
use Rattle.tg_any.proofs.Fronts.{some_is, bind_again, if_takes, if_again}
use Rattle.tg_any.proofs.Words.{IsPhrase, one_law, object_law}
use Rattle.tg_script.specs.Nodes.{chains}
use Rattle.tg_script.specs.declared.header.Sizes.{Sizes}
use Rattle.tg_script.specs.Headers.{are_sizes, sizes_words, field_at, sizes_after, sizes_read, sizes, stripes_read, stripes, objects_read, objects}
use Rattle.tg_script.proofs.Bytes.{is_graphic, digit_is_graphic, decimal_passes, all_append, Passes, each_passes}
use Rattle.tg_script.proofs.NodeWords.{chains_law, chains_graphic}
use Rattle.tg_script.proofs.Lines.{IsPlain, many_law}

text_is : (a b : List ℕ) → bytes_eq a b ≡ true → a ≡ b
text_is a b e = (bytes_eq-Decides a b).0 e

same_text : (a : List ℕ) → bytes_eq a a ≡ true
same_text a = (bytes_eq-Decides a a).1 refl

-- Sizes.

two_words : (w v a b : List ℕ) (ws : List (List ℕ)) → w ≡ a → v ≡ b → w ∷ v ∷ ws ≡ a ∷ b ∷ ws
two_words w v a b ws e f = rw (e, f) refl

field_takes : (name : List ℕ) (words : List (List ℕ)) (q : ℕ × List (List ℕ)) → field_at name words ≡ Some q → words ≡ name ∷ decimal q.0 ∷ q.1
field_takes name [] q e = absurd cc
field_takes name (w ∷ []) q e = absurd cc
field_takes name (w ∷ v ∷ words) q e =
    let d = if_takes (bytes_eq w name) _ q e in
    let b = bind_takes _ _ _ d.1 in
    let h = number_in_takes v b.0 b.1 in
    subst (λ (q : ℕ × List (List ℕ)). w ∷ v ∷ words ≡ name ∷ decimal q.0 ∷ q.1) (some_is _ _ b.2) (two_words _ _ _ _ words (text_is w name d.0) h.1)

field_again : (name : List ℕ) (n : ℕ) (words : List (List ℕ)) → n < 2 ^ 64 → ◌≡◌ {A = Option (ℕ × List (List ℕ))} (field_at name (name ∷ decimal n ∷ words)) (Some (n, words))
field_again name n words small = if_again _ _ _ (same_text name) (bind_again _ _ _ _ (number_in_again n small) refl)

nothing_left : (words : List (List ℕ)) → eqb (length words) 0 ≡ true → words ≡ []
nothing_left [] e = refl
nothing_left (w ∷ words) e = let z : length (w ∷ words) ≡ 0 = eqb-true _ _ e in absurd (omega (arith, z))

abbrev fields_of : Sizes → List (List ℕ)
fields_of s =
    codes "units" ∷ decimal s.units ∷ codes "layouts" ∷ decimal s.layouts ∷ codes "seqs" ∷ decimal s.seqs
    ∷ codes "clients" ∷ decimal s.clients ∷ codes "limit" ∷ decimal s.limit ∷ []

-- what stands after each number, with nothing after the last
fields_joined : (a b c d e f : List (List ℕ)) (units layouts seqs clients limit : ℕ) → a ≡ codes "units" ∷ decimal units ∷ b → b ≡ codes "layouts" ∷ decimal layouts ∷ c → c ≡ codes "seqs" ∷ decimal seqs ∷ d
    → d ≡ codes "clients" ∷ decimal clients ∷ e → e ≡ codes "limit" ∷ decimal limit ∷ f → f ≡ []
    → a ≡ fields_of (record { units = units; layouts = layouts; seqs = seqs; clients = clients; limit = limit })
fields_joined a b c d e f units layouts seqs clients limit g h i j k l = rw (g, h, i, j, k, l) refl

after-takes : (words : List (List ℕ)) (s : Sizes) → sizes_after words ≡ Some s → (words ≡ fields_of s) × (are_sizes s ≡ true)
unfolding sizes_after
after-takes words s e =
    let u = bind_takes _ _ _ e in
    let l = bind_takes _ _ _ u.2 in
    let q = bind_takes _ _ _ l.2 in
    let c = bind_takes _ _ _ q.2 in
    let m = bind_takes _ _ _ c.2 in
    let d = if_takes _ _ s m.2 in
    subst (λ (s : Sizes). (words ≡ fields_of s) × (are_sizes s ≡ true)) (some_is _ _ d.1) (
      fields_joined words u.0.1 l.0.1 q.0.1 c.0.1 m.0.1 u.0.0 l.0.0 q.0.0 c.0.0 m.0.0 (field_takes (codes "units") words u.0 u.1) (field_takes (codes "layouts") u.0.1 l.0 l.1)
          (field_takes (codes "seqs") l.0.1 q.0 q.1) (field_takes (codes "clients") q.0.1 c.0 c.1) (field_takes (codes "limit") c.0.1 m.0 m.1) (nothing_left m.0.1 (and-left _ _ d.0)),
      and-right _ _ d.0,
    )

-- numbers within a header's limits are of 64 bits
pub record AreSmall (s : Sizes) : Type 0 where
  pub units : s.units < 2 ^ 64
  pub layouts : s.layouts < 2 ^ 64
  pub seqs : s.seqs < 2 ^ 64
  pub clients : s.clients < 2 ^ 64
  pub limit : s.limit < 2 ^ 64

within_small : (low high n : ℕ) → high < 2 ^ 64 → is_within low high n ≡ true → n < 2 ^ 64
within_small low high n small e = grind (arith, nat_tests)

odd_small : (n : ℕ) → is_odd_to_seven n ≡ true → n < 2 ^ 64
odd_small n e = grind (arith, nat_tests)

pub sizes_small : (s : Sizes) → are_sizes s ≡ true → AreSmall s
sizes_small s e = record {
  units = within_small 1 64 s.units (omega arith) (and-left _ _ (and-left _ _ (and-left _ _ (and-left _ _ e))));
  layouts = odd_small s.layouts (and-right _ _ (and-left _ _ (and-left _ _ (and-left _ _ e))));
  seqs = within_small 1 16 s.seqs (omega arith) (and-right _ _ (and-left _ _ (and-left _ _ e)));
  clients = within_small 1 32 s.clients (omega arith) (and-right _ _ (and-left _ _ e));
  limit = within_small 1 1000000 s.limit (omega arith) (and-right _ _ e);
}

after-again : (s : Sizes) → are_sizes s ≡ true → sizes_after (fields_of s) ≡ Some s
unfolding sizes_after
after-again s e =
    let small = sizes_small s e in
    bind_again _ _ _ _ (field_again (codes "units") s.units _ small.units) (
    bind_again _ _ _ _ (field_again (codes "layouts") s.layouts _ small.layouts) (
    bind_again _ _ _ _ (field_again (codes "seqs") s.seqs _ small.seqs) (
    bind_again _ _ _ _ (field_again (codes "clients") s.clients _ small.clients) (
    bind_again _ _ _ _ (field_again (codes "limit") s.limit [] small.limit) (if_again _ _ _ e refl)))))

same_first : (w a : List ℕ) (ws bs : List (List ℕ)) → w ≡ a → ws ≡ bs → w ∷ ws ≡ a ∷ bs
same_first w a ws bs e f = rw (e, f) refl

sizes-takes : (words : List (List ℕ)) (s : Sizes) → sizes_read words ≡ Some s → (words ≡ sizes_words s) × (are_sizes s ≡ true)
sizes-takes [] s e = absurd cc
sizes-takes (w ∷ words) s e =
    let d = if_takes (bytes_eq w (codes "cluster")) _ s e in
    let h = after-takes words s d.1 in
    (same_first _ _ _ _ (text_is w (codes "cluster") d.0) h.0, h.1)

pub sizes_law : IsPhrase sizes
sizes_law = record { takes = sizes-takes; again = λ s e. if_again _ _ _ refl (after-again s e) }

number_word : (n : ℕ) → n < 2 ^ 64 → list_all is_graphic (decimal n) ≡ true
number_word n small = decimal_passes is_graphic digit_is_graphic n small

sizes-graphic : (s : Sizes) → are_sizes s ≡ true → list_all (list_all is_graphic) (sizes_words s) ≡ true
sizes-graphic s e =
    let small = sizes_small s e in
    both _ _ (number_word s.units small.units) (both _ _ (number_word s.layouts small.layouts) (both _ _ (number_word s.seqs small.seqs)
    (both _ _ (number_word s.clients small.clients) (both _ _ (number_word s.limit small.limit) refl))))

pub sizes_plain : IsPlain sizes
sizes_plain = record { some = λ s e none. absurd cc; graphic = sizes-graphic }

-- Chains.

stripes-takes : (units : ℕ) → units ≤ 2 ^ 64 → (words : List (List ℕ)) (cs : List (List ℕ)) → stripes_read units words ≡ Some cs → (words ≡ (stripes units).spell cs) × ((stripes units).fits cs ≡ true)
stripes-takes units most [] cs e = absurd cc
stripes-takes units most (w ∷ words) cs e =
    let d = if_takes (bytes_eq w (codes "chains")) _ cs e in
    let h = (one_law (chains units) (chains_law units most)).takes words cs d.1 in
    (same_first _ _ _ _ (text_is w (codes "chains") d.0) h.0, h.1)

pub stripes_law : (units : ℕ) → units ≤ 2 ^ 64 → IsPhrase (stripes units)
stripes_law units most = record {
  takes = stripes-takes units most;
  again = λ cs e. if_again _ _ _ refl ((one_law (chains units) (chains_law units most)).again cs e);
}

pub stripes_plain : (units : ℕ) → units ≤ 2 ^ 64 → IsPlain (stripes units)
stripes_plain units most = record {
  some = λ cs e none. absurd cc;
  graphic = λ cs e. both _ _ (chains_graphic units most cs e) refl;
}

-- Objects.

objects-takes : (words : List (List ℕ)) (os : List Oid) → objects_read words ≡ Some os → (words ≡ objects.spell os) × (objects.fits os ≡ true)
objects-takes [] os e = absurd cc
objects-takes (w ∷ words) os e =
    let d = if_takes (bytes_eq w (codes "objects")) _ os e in
    let h = (many_law object object_law are_objects).takes words os d.1 in
    (same_first _ _ _ _ (text_is w (codes "objects") d.0) h.0, h.1)

pub objects_law : IsPhrase objects
objects_law = record {
  takes = objects-takes;
  again = λ os e. if_again _ _ _ refl ((many_law object object_law are_objects).again os e);
}

kind_graphic : (b : Bool) (x y : List ℕ) → list_all is_graphic x ≡ true → list_all is_graphic y ≡ true → list_all is_graphic (cond b x y) ≡ true
kind_graphic true x y e f = e
kind_graphic false x y e f = f

name_graphic : (tag : ℕ) → list_all is_graphic (kind_name tag) ≡ true
name_graphic tag =
    kind_graphic (eqb tag 0) _ _ refl (kind_graphic (eqb tag 1) _ _ refl (kind_graphic (eqb tag 2) _ _ refl (kind_graphic (eqb tag 3) _ _ refl
    (kind_graphic (eqb tag 4) _ _ refl (kind_graphic (eqb tag 5) _ _ refl refl)))))

pub object_graphic : Passes is_graphic object
object_graphic o e = all_append is_graphic (kind_name (tag_of o)) (decimal (o.0 % 2 ^ 24)) (name_graphic (tag_of o)) (number_word (o.0 % 2 ^ 24) (omega arith))

pub objects_plain : IsPlain objects
objects_plain = record {
  some = λ os e none. absurd cc;
  graphic = λ os e. each_passes is_graphic object object_graphic os (and-left _ _ e);
}
