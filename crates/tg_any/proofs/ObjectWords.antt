-- Objects as words, and what is read of them.
use Rattle.std.proofs.Common.{◌≡◌, ℕ, zero, suc, ◌+◌, ◌*◌, ◌/◌, ◌%◌, ◌^◌, ◌<◌, ◌≤◌, true, List, [], ◌∷◌, ◌++◌, length, Option, Some, eqb, sym, refl, subst, ap, ◌∙◌, arith, codes}
use Rattle.std.specs.List.{prefix_len}
use Rattle.std.specs.Char.{is_ascii_digit}
use Rattle.std.specs.Fmt.{decimal}
use Rattle.std.proofs.lemmas.Bool.{ltb-true, lt-ltb, eqb-true}
use Rattle.std.proofs.lemmas.Bool.Decides.{nat_tests}
use mathlib.Core.List.{append_assoc, append-nil}
use Rattle.tg_base.specs.declared.ids.Oid.{Oid}
use Rattle.tg_kind.specs.Parts.{tag_of}
use Rattle.tg_any.specs.Fronts.{after}
use Rattle.tg_any.specs.Names.{kind_name, is_named, object_word, numbered, object_at, object_in, mark_word, mark_in}
use Rattle.tg_any.proofs.Numbers.{bind_takes, when_takes, number_in_takes, number_in_again, number_at_takes, number_at_again}
use Rattle.tg_any.proofs.Fronts.{some_is, bind_again, if_again, after_takes, after_again, or_else_takes}

tag_sum : (tag m : ℕ) → m < 2 ^ 24 → (tag * 2 ^ 24 + m) / 2 ^ 24 ≡ tag
tag_sum tag m small = omega arith

index_sum : (tag m : ℕ) → m < 2 ^ 24 → (tag * 2 ^ 24 + m) % 2 ^ 24 ≡ m
index_sum tag m small = omega arith

whole_sum : (n tag : ℕ) → n / 2 ^ 24 ≡ tag → tag * 2 ^ 24 + n % 2 ^ 24 ≡ n
whole_sum n tag e = omega arith

below_24 : (n : ℕ) → n % 2 ^ 24 < 2 ^ 24
below_24 n = omega arith

-- an object of a kind with an index below a limit, whose decimal is in front
record IsNumbered (tag limit : ℕ) (text : List ℕ) (q : Oid × List ℕ) : Type 0 where
  kind : tag_of q.0 ≡ tag
  index : q.0.0 % 2 ^ 24 < limit
  front : text ≡ decimal (q.0.0 % 2 ^ 24) ++ q.1

numbered_takes : (tag limit : ℕ) (text : List ℕ) (q : Oid × List ℕ) → limit ≤ 2 ^ 24 → numbered tag limit text ≡ Some q → IsNumbered tag limit text q
unfolding numbered
numbered_takes tag limit text q most e =
    let b = bind_takes _ _ _ e in
    let d = when_takes _ _ _ b.2 in
    let lt : b.0.0 < limit = ltb-true _ _ d.0 in
    let small : b.0.0 < 2 ^ 24 = omega arith in
    let index = index_sum tag b.0.0 small in
    subst (IsNumbered tag limit text) d.1 (record {
      kind = tag_sum tag b.0.0 small;
      index = subst (λ n. n < limit) (sym index) lt;
      front = (number_at_takes _ _ b.1).1 ∙ ap (λ n. decimal n ++ b.0.1) (sym index);
    })

numbered_again : (tag limit : ℕ) (oid : Oid) (rest : List ℕ) → tag_of oid ≡ tag → oid.0 % 2 ^ 24 < limit → prefix_len is_ascii_digit rest ≡ 0
    → ◌≡◌ {A = Option (Oid × List ℕ)} (numbered tag limit (decimal (oid.0 % 2 ^ 24) ++ rest)) (Some (oid, rest))
unfolding numbered
numbered_again tag limit oid rest e lt stop =
    bind_again _ _ _ _ (number_at_again (oid.0 % 2 ^ 24) rest (omega arith) stop)
    (if_again _ _ _ (lt-ltb _ _ lt) (ap (λ n. Some (record { 0 = n }, rest)) (whole_sum oid.0 tag e)))

-- an object whose word is in front
pub record IsFront (text : List ℕ) (q : Oid × List ℕ) : Type 0 where
  pub named : is_named q.0 ≡ true
  pub front : text ≡ object_word q.0 ++ q.1

named_front : (tag limit : ℕ) (text rest : List ℕ) (q : Oid × List ℕ) → limit ≤ 2 ^ 24 → ((o : Oid) → tag_of o ≡ tag → o.0 % 2 ^ 24 < limit → is_named o ≡ true)
    → after (kind_name tag) text ≡ Some rest → numbered tag limit rest ≡ Some q → IsFront text q
named_front tag limit text rest q most lawful e f =
    let h = numbered_takes tag limit rest q most f in
    record {
      named = lawful q.0 h.kind h.index;
      front = after_takes _ _ _ e ∙ ap (λ t. kind_name tag ++ t) h.front ∙ sym (append_assoc (kind_name tag) (decimal (q.0.0 % 2 ^ 24)) q.1)
          ∙ ap (λ t. (kind_name t ++ decimal (q.0.0 % 2 ^ 24)) ++ q.1) (sym h.kind);
    }

named_0 : (o : Oid) → tag_of o ≡ 0 → o.0 % 2 ^ 24 < 1 → is_named o ≡ true
named_0 o e lt = let z : o.0 ≡ 0 = omega arith in rw (e, z) refl

named_more : (tag : ℕ) → 0 < tag → tag ≤ 6 → (o : Oid) → tag_of o ≡ tag → o.0 % 2 ^ 24 < 2 ^ 24 → is_named o ≡ true
named_more tag some most o e lt = rw e (grind (arith, nat_tests))

pub object_at_takes : (text : List ℕ) (q : Oid × List ℕ) → object_at text ≡ Some q → IsFront text q
unfolding object_at
object_at_takes text q e =
    or_else_takes _ _ _ q (IsFront text q) e (λ rest a b. named_front 0 1 text rest q (omega arith) named_0 a b) (λ e.
    or_else_takes _ _ _ q (IsFront text q) e (λ rest a b. named_front 1 (2 ^ 24) text rest q (omega arith) (named_more 1 (omega arith) (omega arith)) a b) (λ e.
    or_else_takes _ _ _ q (IsFront text q) e (λ rest a b. named_front 2 (2 ^ 24) text rest q (omega arith) (named_more 2 (omega arith) (omega arith)) a b) (λ e.
    or_else_takes _ _ _ q (IsFront text q) e (λ rest a b. named_front 3 (2 ^ 24) text rest q (omega arith) (named_more 3 (omega arith) (omega arith)) a b) (λ e.
    or_else_takes _ _ _ q (IsFront text q) e (λ rest a b. named_front 4 (2 ^ 24) text rest q (omega arith) (named_more 4 (omega arith) (omega arith)) a b) (λ e.
    or_else_takes _ _ _ q (IsFront text q) e (λ rest a b. named_front 5 (2 ^ 24) text rest q (omega arith) (named_more 5 (omega arith) (omega arith)) a b) (λ e.
    or_else_takes _ _ _ q (IsFront text q) e (λ rest a b. named_front 6 (2 ^ 24) text rest q (omega arith) (named_more 6 (omega arith) (omega arith)) a b) (λ e. absurd cc)))))))

-- by the tag, which is 6 at most
by_tag : (P : ℕ → Type 0) → P 0 → P 1 → P 2 → P 3 → P 4 → P 5 → P 6 → (t : ℕ) → t ≤ 6 → P t
by_tag P a b c d e f g zero h = a
by_tag P a b c d e f g (suc zero) h = b
by_tag P a b c d e f g (suc (suc zero)) h = c
by_tag P a b c d e f g (suc (suc (suc zero))) h = d
by_tag P a b c d e f g (suc (suc (suc (suc zero)))) h = e
by_tag P a b c d e f g (suc (suc (suc (suc (suc zero))))) h = f
by_tag P a b c d e f g (suc (suc (suc (suc (suc (suc zero)))))) h = g
by_tag P a b c d e f g (suc (suc (suc (suc (suc (suc (suc n))))))) h = absurd (omega (arith, h))

named_most : (o : Oid) → is_named o ≡ true → tag_of o ≤ 6
named_most o e = grind (arith, nat_tests)

named_zero : (o : Oid) → is_named o ≡ true → tag_of o ≡ 0 → o.0 % 2 ^ 24 < 1
named_zero o e t = let z : eqb o.0 0 ≡ true = rw t at e in let n : o.0 ≡ 0 = eqb-true _ _ z in omega arith

abbrev Again : Oid → List ℕ → ℕ → Type 0
Again o rest t = tag_of o ≡ t → ◌≡◌ {A = Option (Oid × List ℕ)} (object_at ((kind_name t ++ decimal (o.0 % 2 ^ 24)) ++ rest)) (Some (o, rest))

again_at : (o : Oid) (rest : List ℕ) → is_named o ≡ true → prefix_len is_ascii_digit rest ≡ 0 → (t : ℕ) → t ≤ 6 → Again o rest t
unfolding object_at after
again_at o rest named stop = by_tag (Again o rest)
    (λ e. numbered_again 0 1 o rest e (named_zero o named e) stop)
    (λ e. numbered_again 1 (2 ^ 24) o rest e (below_24 o.0) stop)
    (λ e. numbered_again 2 (2 ^ 24) o rest e (below_24 o.0) stop)
    (λ e. numbered_again 3 (2 ^ 24) o rest e (below_24 o.0) stop)
    (λ e. numbered_again 4 (2 ^ 24) o rest e (below_24 o.0) stop)
    (λ e. numbered_again 5 (2 ^ 24) o rest e (below_24 o.0) stop)
    (λ e. numbered_again 6 (2 ^ 24) o rest e (below_24 o.0) stop)

pub object_at_again : (o : Oid) (rest : List ℕ) → is_named o ≡ true → prefix_len is_ascii_digit rest ≡ 0 → ◌≡◌ {A = Option (Oid × List ℕ)} (object_at (object_word o ++ rest)) (Some (o, rest))
object_at_again o rest named stop = again_at o rest named stop (tag_of o) (named_most o named) refl

-- whole words
none_left : (t : List ℕ) → eqb (length t) 0 ≡ true → t ≡ []
none_left [] e = refl
none_left (x ∷ xs) e = let z : length (x ∷ xs) ≡ 0 = eqb-true _ _ e in absurd (omega arith)

pub object_in_takes : (word : List ℕ) (o : Oid) → object_in word ≡ Some o → (word ≡ object_word o) × (is_named o ≡ true)
unfolding object_in
object_in_takes word o e =
    let b = bind_takes _ _ _ e in
    let d = when_takes _ _ _ b.2 in
    let h = object_at_takes word b.0 b.1 in
    subst (λ (o : Oid). (word ≡ object_word o) × (is_named o ≡ true)) d.1
    (h.front ∙ ap (λ t. object_word b.0.0 ++ t) (none_left _ d.0) ∙ append-nil (object_word b.0.0), h.named)

pub object_in_again : (o : Oid) → is_named o ≡ true → object_in (object_word o) ≡ Some o
unfolding object_in
object_in_again o named = bind_again _ _ _ _ (ap object_at (sym (append-nil (object_word o))) ∙ object_at_again o [] named refl) refl

pub mark_in_takes : (word : List ℕ) (m : Oid × ℕ) → mark_in word ≡ Some m → (word ≡ mark_word m) × (is_named m.0 ≡ true) × (m.1 < 2 ^ 64)
unfolding mark_in
mark_in_takes word m e =
    let a = bind_takes _ _ _ e in
    let b = bind_takes _ _ _ a.2 in
    let d = bind_takes _ _ _ b.2 in
    let h = object_at_takes word a.0 a.1 in
    let n = number_in_takes _ _ d.1 in
    let tail = after_takes _ _ _ b.1 ∙ ap (λ t. codes "=" ++ t) n.1 in
    subst (λ (m : Oid × ℕ). (word ≡ mark_word m) × (is_named m.0 ≡ true) × (m.1 < 2 ^ 64)) (some_is _ _ d.2)
    (h.front ∙ ap (λ t. object_word a.0.0 ++ t) tail ∙ sym (append_assoc (object_word a.0.0) (codes "=") (decimal d.0)), h.named, n.0)

pub mark_in_again : (m : Oid × ℕ) → is_named m.0 ≡ true → m.1 < 2 ^ 64 → mark_in (mark_word m) ≡ Some m
unfolding mark_in
mark_in_again m named small =
    ap mark_in (append_assoc (object_word m.0) (codes "=") (decimal m.1)) ∙
    bind_again _ _ _ _ (object_at_again m.0 (codes "=" ++ decimal m.1) named refl)
    (bind_again _ _ _ _ (after_again (codes "=") (decimal m.1)) (bind_again _ _ _ _ (number_in_again m.1 small) refl))
