-- Replies are written one by one.
use Rattle.std.specs.Prelude.{◌≡◌, ℕ, ◌==◌, Bool, true, List, [], ◌∷◌, ◌++◌, length, slice_get, remove, Some, None, refl}
use Rattle.std.proofs.Common.{sym, ap, ◌∙◌, arith}
use Rattle.std.proofs.lemmas.Bool.Decides.{nat_tests}
use Rattle.std.proofs.lemmas.List.{append_assoc, append-nil}
use Rattle.tg_trace.specs.Transcripts.{reply_text}
use Rattle.tg_node.specs.Replies.{AnyNote, reply_in, replies_in, replies_text}

-- the text so far, and what the notes that are left add to it, are the whole
abbrev pub Writing : ℕ → ℕ → List ℕ → List AnyNote → List AnyNote → List ℕ → Type 0
Writing event client first all rest out = out ++ replies_text (replies_in event client rest) ≡ first ++ replies_text (replies_in event client all)

head_of : {X : Type 0} (xs : List X) (x : X) → slice_get xs 0 ≡ Some x → xs ≡ x ∷ remove xs 0
head_of [] x h = let e : None ≡ Some x = h in absurd cc
head_of (y ∷ xs) x h = let e : Some y ≡ Some x = h in let same : y ≡ x = cc in ap (λ (z : _). z ∷ xs) same

is_zero : (n : ℕ) → (n == 0) ≡ true → n ≡ 0
is_zero n e = grind (arith, nat_tests)

empty : {X : Type 0} (xs : List X) → length xs ≡ 0 → xs ≡ []
empty [] e = refl
empty (x ∷ xs) e = absurd (omega (arith, e))

pub writing_next : (event client : ℕ) (first : List ℕ) (all rest left : List AnyNote) (out after : List ℕ) (x : AnyNote) → Writing event client first all rest out → slice_get rest 0 ≡ Some x → left ≡ remove rest 0
    → after ≡ out ++ reply_text (reply_in event client x) → Writing event client first all left after
writing_next event client first all rest left out after x h at e f =
    ap (λ (l : List ℕ). l ++ replies_text (replies_in event client left)) f
    ∙ append_assoc out (reply_text (reply_in event client x)) (replies_text (replies_in event client left))
    ∙ ap (λ (l : List AnyNote). out ++ replies_text (replies_in event client l)) (ap (λ (l : List AnyNote). x ∷ l) e ∙ sym (head_of rest x at))
    ∙ h

pub writing_end : (event client : ℕ) (first : List ℕ) (all rest : List AnyNote) (out : List ℕ) (b : Bool) → Writing event client first all rest out → b ≡ (length rest == 0) → b ≡ true
    → out ≡ first ++ replies_text (replies_in event client all)
writing_end event client first all rest out b h e t =
    sym (append-nil out) ∙ ap (λ (l : List AnyNote). out ++ replies_text (replies_in event client l)) (sym (empty rest (is_zero (length rest) (sym e ∙ t)))) ∙ h
