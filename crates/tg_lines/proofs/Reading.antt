-- Which reads a line takes.
use Rattle.std.proofs.Common.{◌≡◌, ◌≢◌, ◌⊎◌, inl, inr, ℕ, List, [], ◌∷◌, ◌++◌, true, false, Option, Some, refl, sym, ap, ◌∙◌, subst, append_assoc}
use Rattle.std.proofs.lemmas.List.{append-nil}
use Rattle.tg_io.specs.Bytes.{Grows}
use Rattle.tg_io.proofs.Bytes.{grows_none, grows_more}
use Rattle.tg_lines.specs.Lines.{IsTaken, IsUnbroken, last_of}
use Rattle.tg_lines.specs.Reads.{text_of, AreUnbroken, ReadsLine}

-- a line that has begun: no piece before the one at hand has a line feed
pub record Reading (held now line : List ℕ) (before after : Option (List (List ℕ))) : Type 0 where
  pub came : List (List ℕ)
  pub grown : Grows before came after
  pub earlier : List (List ℕ)
  pub pieces : held ∷ came ≡ earlier ++ now ∷ []
  pub unbroken : AreUnbroken earlier
  pub begun : line ≡ text_of earlier

pub reading_none : (held line : List ℕ) (before : Option (List (List ℕ))) → line ≡ [] → Reading held held line before before
reading_none held line before e = record { came = []; grown = grows_none before; earlier = []; pieces = refl; unbroken = tt; begun = e }

text_last : (ps : List (List ℕ)) (p : List ℕ) → text_of (ps ++ p ∷ []) ≡ text_of ps ++ p
text_last [] p = append-nil p
text_last (q ∷ ps) p = ap (λ (bs : List ℕ). q ++ bs) (text_last ps p) ∙ sym (append_assoc q (text_of ps) p)

unbroken_last : (ps : List (List ℕ)) (p : List ℕ) → AreUnbroken ps → IsUnbroken p → AreUnbroken (ps ++ p ∷ [])
unbroken_last [] p h k = (k, tt)
unbroken_last (q ∷ ps) p h k = (h.0, unbroken_last ps p h.1 k)

not_empty : (ps : List (List ℕ)) (p : List ℕ) → (ps ++ p ∷ []) ≢ []
not_empty [] p e = absurd cc
not_empty (q ∷ ps) p e = absurd cc

-- what was taken without a line feed is all that was at hand
taken_all : (now rest line after : List ℕ) (t : IsTaken now rest line after false) → now ≡ t.part
taken_all now rest line after t = t.cut ∙ ap (λ (bs : List ℕ). t.part ++ bs) (t.all refl) ∙ append-nil t.part

pub taken_unbroken : (now rest line after : List ℕ) → IsTaken now rest line after false → IsUnbroken now
taken_unbroken now rest line after t = subst IsUnbroken (sym (taken_all now rest line after t)) t.unbroken

-- a further piece comes
pub reading_next : (held now rest line after piece : List ℕ) (before was is : Option (List (List ℕ))) → Reading held now line before was → IsTaken now rest line after false
    → Grows was (piece ∷ []) is → Reading held piece after before is
reading_next held now rest line after piece before was is h t g = record {
  came = h.came ++ piece ∷ [];
  grown = grows_more before was is h.came (piece ∷ []) h.grown g;
  earlier = h.earlier ++ now ∷ [];
  pieces = ap (λ (ps : List (List ℕ)). ps ++ piece ∷ []) h.pieces;
  unbroken = unbroken_last h.earlier now h.unbroken (taken_unbroken now rest line after t);
  begun = t.added ∙ ap (λ (bs : List ℕ). bs ++ t.part) h.begun ∙ ap (λ (bs : List ℕ). text_of h.earlier ++ bs) (sym (taken_all now rest line after t))
      ∙ sym (text_last h.earlier now);
}

-- the line feed has come
pub reading_feed : (held now rest line after : List ℕ) (before is : Option (List (List ℕ))) → Reading held now line before is → IsTaken now rest line after true → ReadsLine held rest before is (Some after)
reading_feed held now rest line after before is h t = (
  h.came,
  h.grown,
  inl (
    after,
    refl,
    record {
      earlier = h.earlier;
      part = t.part;
      pieces = h.pieces ∙ ap (λ (bs : List ℕ). h.earlier ++ bs ∷ []) t.cut;
      unbroken = h.unbroken;
      within = t.unbroken;
      whole = t.added ∙ ap (λ (bs : List ℕ). bs ++ t.part) h.begun;
    },
  ),
)

-- nothing more comes
pub reading_end : (held now rest line after piece : List ℕ) (before was is : Option (List (List ℕ))) → Reading held now line before was → IsTaken now rest line after false
    → Grows was (piece ∷ []) is → piece ≡ [] → ReadsLine held piece before is (last_of after)
unfolding reading_next
reading_end held now rest line after piece before was is h t g e =
    let r = reading_next held now rest line after piece before was is h t g in (
      r.came,
      r.grown,
      inr (record {
        earlier = r.earlier;
        pieces = r.pieces ∙ ap (λ (bs : List ℕ). r.earlier ++ bs ∷ []) e;
        read = not_empty h.earlier now;
        unbroken = r.unbroken;
        none = e;
        whole = ap last_of r.begun;
      }),
    )

-- a line feed at hand is found before a read
pub found_first : {X : Type 0} (held now rest line after : List ℕ) → ((IsUnbroken held → ⊥) → X × (now ≡ held)) → IsTaken now rest line after false → (IsUnbroken held → ⊥) → ⊥
found_first held now rest line after h t broken = broken (subst IsUnbroken (h broken).1 (taken_unbroken now rest line after t))
