-- Replies are put last, one by one.
use Rattle.std.specs.Prelude.{◌≡◌, ℕ, ◌+◌, Bool, true, ◌==◌, List, [], ◌∷◌, ◌++◌, map, length, slice_get, remove, Some, None, refl}
use Rattle.std.proofs.Common.{sym, ap, ◌∙◌, arith}
use Rattle.std.proofs.lemmas.Bool.Decides.{nat_tests}
use Rattle.std.proofs.lemmas.List.{append_assoc}
use Rattle.tg_kind.specs.Meaning.{Meaning}
use Rattle.tg_model.specs.Kinds.{NoteOf, MarkOf}
use Rattle.tg_protocol.specs.Worlds.{CommandStart, Told}
use Rattle.tg_world.specs.Kept.{told_all, told_by}

head_of : {X : Type 0} (xs : List X) (x : X) → slice_get xs 0 ≡ Some x → xs ≡ x ∷ remove xs 0
head_of [] x h = let e : None ≡ Some x = h in absurd cc
head_of (y ∷ xs) x h = let e : Some y ≡ Some x = h in let same : y ≡ x = cc in ap (λ (z : _). z ∷ xs) same

is_zero : (n : ℕ) → (n == 0) ≡ true → n ≡ 0
is_zero n e = grind (arith, nat_tests)

pub none_left : {X : Type 0} (xs : List X) (b : Bool) → b ≡ (length xs == 0) → b ≡ true → length xs ≡ 0
none_left xs b e h = is_zero (length xs) (sym e ∙ h)

module _ (m : Meaning) where
  told_last : (ts : List (MarkOf m)) (ns : List CommandStart) (t : MarkOf m) (n : CommandStart) → length ns ≡ length ts → told_all m (ts ++ t ∷ []) (ns ++ n ∷ []) ≡ told_all m ts ns ++ record { mark = t; noted = n } ∷ []
  told_last [] [] t n e = refl
  told_last [] (x ∷ ns) t n e = absurd (omega (arith, e))
  told_last (y ∷ ts) [] t n e = absurd (omega (arith, e))
  told_last (y ∷ ts) (x ∷ ns) t n e = let f : length ns ≡ length ts = omega (arith, e) in λ i. record { mark = y; noted = x } ∷ told_last ts ns t n f i

  -- the replies so far, and those that are left
  pub record So (event k : ℕ) (noted : CommandStart) (first : List (Told m)) (all notes : List (NoteOf m)) (ts : List (MarkOf m)) (ns : List CommandStart) : Type 0 where
    pub told : told_all m ts ns ++ map (told_by m event k noted) notes ≡ first ++ map (told_by m event k noted) all
    pub many : length ns ≡ length ts

  pub told_next : (event k : ℕ) (noted : CommandStart) (first : List (Told m)) (all notes rest : List (NoteOf m)) (ts us : List (MarkOf m)) (ns ms : List CommandStart) (x : NoteOf m) → So event k noted first all notes ts ns
      → slice_get notes 0 ≡ Some x → rest ≡ remove notes 0 → us ≡ ts ++ record { event = event; client = k; tx = x.tx; what = x.what } ∷ [] → ms ≡ ns ++ noted ∷ [] → So event k noted first all rest us ms
  told_next event k noted first all notes rest ts us ns ms x h at left e f = record {
    told =
        (λ i. told_all m (e i) (f i) ++ map (told_by m event k noted) rest)
        ∙ ap (λ (l : List (Told m)). l ++ map (told_by m event k noted) rest) (told_last ts ns (record { event = event; client = k; tx = x.tx; what = x.what }) noted h.many)
        ∙ append_assoc (told_all m ts ns) (told_by m event k noted x ∷ []) (map (told_by m event k noted) rest)
        ∙ ap (λ (l : List (NoteOf m)). told_all m ts ns ++ map (told_by m event k noted) l) (ap (λ (l : List (NoteOf m)). x ∷ l) left ∙ sym (head_of notes x at))
        ∙ h.told;
    many = ap (λ (l : List CommandStart). length l) f ∙ longer ns noted ∙ ap (λ (j : ℕ). j + 1) h.many ∙ sym (longer ts (record { event = event; client = k; tx = x.tx; what = x.what })) ∙ sym (ap (λ (l : List (MarkOf m)). length l) e);
  }
    where
      longer : {X : Type 0} (xs : List X) (y : X) → length (xs ++ y ∷ []) ≡ length xs + 1
      longer [] y = refl
      longer (z ∷ xs) y = let l : length (xs ++ y ∷ []) ≡ length xs + 1 = longer xs y in omega (arith, l)

  pub told_end : (event k : ℕ) (noted : CommandStart) (first : List (Told m)) (all notes : List (NoteOf m)) (ts : List (MarkOf m)) (ns : List CommandStart) → So event k noted first all notes ts ns → length notes ≡ 0
      → told_all m ts ns ≡ first ++ map (told_by m event k noted) all
  told_end event k noted first all notes ts ns h none = sym (nothing (told_all m ts ns)) ∙ ap (λ (l : List (NoteOf m)). told_all m ts ns ++ map (told_by m event k noted) l) (sym (empty notes none)) ∙ h.told
    where
      nothing : (xs : List (Told m)) → xs ++ [] ≡ xs
      nothing [] = refl
      nothing (x ∷ xs) = λ i. x ∷ nothing xs i

      empty : (xs : List (NoteOf m)) → length xs ≡ 0 → xs ≡ []
      empty [] e = refl
      empty (x ∷ xs) e = absurd (omega (arith, e))
