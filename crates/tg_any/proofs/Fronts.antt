-- What is read from the front of a text.
use Rattle.std.proofs.Common.{◌≡◌, Bool, true, false, cond, List, ◌++◌, length, drop, Option, Some, None, sym, refl, ap, ◌∙◌}
use Rattle.std.specs.Prelude.{option_and_then, IfSome}
use Rattle.std.specs.Option.{unwrap_or}
use Rattle.std.proofs.lemmas.List.{take-append-drop}
use Rattle.std.proofs.lemmas.Slice.Eq.{bytes_eq-Decides}
use Rattle.std.proofs.Math.Seq.{take-append_seam, drop-append_seam}
use Rattle.tg_any.specs.Fronts.{after, or_else}
use Rattle.tg_any.proofs.Numbers.{when_takes}
use Prim.Native.Nat.{ℕ}

pub some_is : {A : Type 0} (x y : A) → Some x ≡ Some y → x ≡ y
some_is x y e = ap (λ o. unwrap_or o x) e

pub bind_again : {A B : Type 0} (f : A → Option B) (o : Option A) (x : A) (y : B) → o ≡ Some x → f x ≡ Some y → option_and_then f o ≡ Some y
bind_again f o x y e r = ap (option_and_then f) e ∙ r

pub if_takes : {A : Type 0} (b : Bool) (o : Option A) (y : A) → cond b o None ≡ Some y → (b ≡ true) × (o ≡ Some y)
if_takes true o y e = (refl, e)
if_takes false o y e = absurd cc

pub if_again : {A : Type 0} (b : Bool) (o : Option A) (y : A) → b ≡ true → o ≡ Some y → cond b o None ≡ Some y
if_again true o y b e = e
if_again false o y b e = absurd cc

pub after_takes : (word text rest : List ℕ) → after word text ≡ Some rest → text ≡ word ++ rest
unfolding after
after_takes word text rest e =
    let h = when_takes _ _ _ e in
    sym (take-append-drop (length word) text) ∙ ap (λ t. t ++ drop (length word) text) ((bytes_eq-Decides _ _).0 h.0) ∙ ap (λ t. word ++ t) h.1

pub after_again : (word rest : List ℕ) → after word (word ++ rest) ≡ Some rest
unfolding after
after_again word rest = rw (take-append_seam word rest, drop-append_seam word rest, (bytes_eq-Decides word word).1 refl) refl

pub or_else_takes : {A : Type 0} (o : Option (List ℕ)) (f : List ℕ → Option A) (other : Option A) (x : A) (P : Type 0) → or_else o f other ≡ Some x
    → ((rest : List ℕ) → o ≡ Some rest → f rest ≡ Some x → P) → (other ≡ Some x → P) → P
or_else_takes None f other x P e some none = none e
or_else_takes (Some rest) f other x P e some none = some rest refl e

-- what holds of all that a reading gives
pub if_some : {A : Type 0} (r o : Option A) (P : A → Type 0) → r ≡ o → ((x : A) → o ≡ Some x → P x) → IfSome r P
if_some None o P e h = tt
if_some (Some x) o P e h = h x (sym e)
