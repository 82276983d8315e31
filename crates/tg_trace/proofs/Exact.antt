-- What is said of a reader's result by what is found, and by what alone is found, is what is read.
use Rattle.std.proofs.Common.{◌≡◌, ℕ, true, List, Option, Some, None, Result, Ok, Err, sym, ap, ◌∙◌}
use Rattle.std.specs.Prelude.{IfOk, IfSome}
use Rattle.tg_any.specs.Words.{Phrase}
use Rattle.tg_any.proofs.Words.{IsPhrase, none_of}

pub exact_read : {A E : Type 0} (p : Phrase A) → IsPhrase p → (r : Result (Option A) E) (ws : List (List ℕ)) → IfOk r (λ o. IfSome o (λ x. (ws ≡ p.spell x) × (p.fits x ≡ true)))
    → ((x : A) → p.fits x ≡ true → ws ≡ p.spell x → IfOk r (λ o. o ≡ Some x)) → IfOk r (λ o. o ≡ p.read ws)
exact_read p law (Err e) ws found only = tt
exact_read p law (Ok (Some x)) ws found only = sym (ap p.read found.0 ∙ law.again x found.1)
exact_read {A} p law (Ok None) ws found only =
    sym (none_of (p.read ws) (λ x e. let h = law.takes ws x e in let bad : ◌≡◌ {A = Option A} None (Some x) = only x h.1 h.0 in absurd cc))
