-- What is read of the words of refusals is what they spell, and nothing else.
use Rattle.std.proofs.Common.{◌≡◌, ℕ, true, List, [], ◌∷◌, codes, Some, None, refl}
use Rattle.tg_base.specs.declared.ids.Oid.{Oid}
use Rattle.tg_model.specs.declared.refusal.Refusal.{Refusal}
use Rattle.tg_model.specs.declared.refusal.Refusal.TheVariants as cause
use Rattle.tg_any.specs.Words.{number, object, nothing, one, two}
use Rattle.tg_any.proofs.Words.{IsPhrase, number_law, object_law, nothing_law, one_law, two_law, verb_takes, made_again}
use Rattle.tg_trace.specs.Fields.{waiting, crowd, unit}
use Rattle.tg_trace.specs.Refusals.{refusal_words, refusal_fits, state_refusal, object_refusal, number_refusal, pair_refusal, unit_refusal, refusal_read, refusal}
use Rattle.tg_trace.proofs.Phrases.{or_other_takes, or_other_first, or_other_second}
use Rattle.tg_trace.proofs.FieldWords.{waiting_law, crowd_law, unit_law}

abbrev IsRefusal : List (List ℕ) → Refusal → Type 0
IsRefusal ws y = (ws ≡ refusal_words y) × (refusal_fits y ≡ true)

state-refusal-takes : (w : List ℕ) (fields : List (List ℕ)) (y : Refusal) → state_refusal w fields ≡ Some y → IsRefusal (w ∷ fields) y
state-refusal-takes w fields y e =
    verb_takes (codes "busy") (one waiting) (one_law waiting waiting_law) cause.Busy w fields _ y (IsRefusal (w ∷ fields)) e (λ x fits is. (is, fits))
    (λ e. verb_takes (codes "no-tx") nothing nothing_law (λ (u : Unit {0}). cause.NoTx) w fields _ y (IsRefusal (w ∷ fields)) e (λ x fits is. (is, fits))
    (λ e. verb_takes (codes "tx-open") nothing nothing_law (λ (u : Unit {0}). cause.TxOpen) w fields _ y (IsRefusal (w ∷ fields)) e (λ x fits is. (is, fits))
    (λ e. verb_takes (codes "too-many") (one crowd) (one_law crowd crowd_law) cause.TooMany w fields None y (IsRefusal (w ∷ fields)) e (λ x fits is. (is, fits))
    (λ e. absurd cc))))

object-refusal-takes : (w : List ℕ) (fields : List (List ℕ)) (y : Refusal) → object_refusal w fields ≡ Some y → IsRefusal (w ∷ fields) y
object-refusal-takes w fields y e =
    verb_takes (codes "not-hosted") (one object) (one_law object object_law) cause.NotHosted w fields _ y (IsRefusal (w ∷ fields)) e (λ x fits is. (is, fits))
    (λ e. verb_takes (codes "not-registered") (one object) (one_law object object_law) cause.NotRegistered w fields _ y (IsRefusal (w ∷ fields)) e (λ x fits is. (is, fits))
    (λ e. verb_takes (codes "wrong-kind") (one object) (one_law object object_law) cause.WrongKind w fields _ y (IsRefusal (w ∷ fields)) e (λ x fits is. (is, fits))
    (λ e. verb_takes (codes "no-checkpoint") (one object) (one_law object object_law) cause.NoCheckpoint w fields None y (IsRefusal (w ∷ fields)) e (λ x fits is. (is, fits))
    (λ e. absurd cc))))

number-refusal-takes : (w : List ℕ) (fields : List (List ℕ)) (y : Refusal) → number_refusal w fields ≡ Some y → IsRefusal (w ∷ fields) y
number-refusal-takes w fields y e =
    verb_takes (codes "too-large") (one number) (one_law number number_law) cause.TooLarge w fields _ y (IsRefusal (w ∷ fields)) e (λ x fits is. (is, fits))
    (λ e. verb_takes (codes "log-full") (one number) (one_law number number_law) cause.LogFull w fields _ y (IsRefusal (w ∷ fields)) e (λ x fits is. (is, fits))
    (λ e. verb_takes (codes "overtaken") (one number) (one_law number number_law) cause.Overtaken w fields _ y (IsRefusal (w ∷ fields)) e (λ x fits is. (is, fits))
    (λ e. verb_takes (codes "open-decision") (one number) (one_law number number_law) cause.OpenDecision w fields _ y (IsRefusal (w ∷ fields)) e (λ x fits is. (is, fits))
    (λ e. verb_takes (codes "not-closed") (one number) (one_law number number_law) cause.NotClosed w fields _ y (IsRefusal (w ∷ fields)) e (λ x fits is. (is, fits))
    (λ e. verb_takes (codes "ahead") (one number) (one_law number number_law) cause.Ahead w fields None y (IsRefusal (w ∷ fields)) e (λ x fits is. (is, fits))
    (λ e. absurd cc))))))

pair-refusal-takes : (w : List ℕ) (fields : List (List ℕ)) (y : Refusal) → pair_refusal w fields ≡ Some y → IsRefusal (w ∷ fields) y
pair-refusal-takes w fields y e =
    verb_takes (codes "undecided") (two number object) (two_law number object number_law object_law) (λ (p : ℕ × Oid). cause.Undecided p.0 p.1) w fields _ y (IsRefusal (w ∷ fields)) e (λ x fits is. (is, fits))
    (λ e. verb_takes (codes "forgotten") (two number number) (two_law number number number_law number_law) (λ (p : ℕ × ℕ). cause.Forgotten p.0 p.1) w fields _ y (IsRefusal (w ∷ fields)) e (λ x fits is. (is, fits))
    (λ e. verb_takes (codes "no-replica") (two number number) (two_law number number number_law number_law) (λ (p : ℕ × ℕ). cause.NoReplica p.0 p.1) w fields _ y (IsRefusal (w ∷ fields)) e (λ x fits is. (is, fits))
    (λ e. verb_takes (codes "no-stripe") (two number number) (two_law number number number_law number_law) (λ (p : ℕ × ℕ). cause.NoStripe p.0 p.1) w fields None y (IsRefusal (w ∷ fields)) e (λ x fits is. (is, fits))
    (λ e. absurd cc))))

unit-refusal-takes : (w : List ℕ) (fields : List (List ℕ)) (y : Refusal) → unit_refusal w fields ≡ Some y → IsRefusal (w ∷ fields) y
unit-refusal-takes w fields y e =
    verb_takes (codes "returned") (one unit) (one_law unit unit_law) cause.Returned w fields _ y (IsRefusal (w ∷ fields)) e (λ x fits is. (is, fits))
    (λ e. verb_takes (codes "in-chain") (one unit) (one_law unit unit_law) cause.InChain w fields _ y (IsRefusal (w ∷ fields)) e (λ x fits is. (is, fits))
    (λ e. verb_takes (codes "not-whole") (two unit number) (two_law unit number unit_law number_law) (λ (p : ℕ × ℕ). cause.NotWhole p.0 p.1) w fields None y (IsRefusal (w ∷ fields)) e (λ x fits is. (is, fits))
    (λ e. absurd cc)))

refusal-takes : (ws : List (List ℕ)) (y : Refusal) → refusal_read ws ≡ Some y → IsRefusal ws y
unfolding refusal_read
refusal-takes [] y e = absurd cc
refusal-takes (w ∷ fields) y e =
    or_other_takes _ _ y (IsRefusal (w ∷ fields) y) e (state-refusal-takes w fields y)
    (λ e. or_other_takes _ _ y (IsRefusal (w ∷ fields) y) e (object-refusal-takes w fields y)
    (λ e. or_other_takes _ _ y (IsRefusal (w ∷ fields) y) e (number-refusal-takes w fields y)
    (λ e. or_other_takes _ _ y (IsRefusal (w ∷ fields) y) e (pair-refusal-takes w fields y)
    (λ e. unit-refusal-takes w fields y e))))

refusal-again : (y : Refusal) → refusal_fits y ≡ true → refusal_read (refusal_words y) ≡ Some y
unfolding refusal_read
refusal-again (cause.Busy c) e = or_other_first _ _ _ (made_again (one waiting) (one_law waiting waiting_law) cause.Busy c refl)
refusal-again cause.NoTx e = refl
refusal-again cause.TxOpen e = refl
refusal-again (cause.NotHosted o) e = or_other_second _ _ _ refl (or_other_first _ _ _ (made_again (one object) (one_law object object_law) cause.NotHosted o e))
refusal-again (cause.NotRegistered o) e = or_other_second _ _ _ refl (or_other_first _ _ _ (made_again (one object) (one_law object object_law) cause.NotRegistered o e))
refusal-again (cause.WrongKind o) e = or_other_second _ _ _ refl (or_other_first _ _ _ (made_again (one object) (one_law object object_law) cause.WrongKind o e))
refusal-again (cause.TooLarge n) e = or_other_second _ _ _ refl (or_other_second _ _ _ refl (or_other_first _ _ _ (made_again (one number) (one_law number number_law) cause.TooLarge n e)))
refusal-again (cause.Undecided n o) e = or_other_second _ _ _ refl (or_other_second _ _ _ refl (or_other_second _ _ _ refl (or_other_first _ _ _ (made_again (two number object) (two_law number object number_law object_law) (λ (p : ℕ × Oid). cause.Undecided p.0 p.1) (n, o) e))))
refusal-again (cause.LogFull n) e = or_other_second _ _ _ refl (or_other_second _ _ _ refl (or_other_first _ _ _ (made_again (one number) (one_law number number_law) cause.LogFull n e)))
refusal-again (cause.Forgotten n m) e = or_other_second _ _ _ refl (or_other_second _ _ _ refl (or_other_second _ _ _ refl (or_other_first _ _ _ (made_again (two number number) (two_law number number number_law number_law) (λ (p : ℕ × ℕ). cause.Forgotten p.0 p.1) (n, m) e))))
refusal-again (cause.NoReplica n m) e = or_other_second _ _ _ refl (or_other_second _ _ _ refl (or_other_second _ _ _ refl (or_other_first _ _ _ (made_again (two number number) (two_law number number number_law number_law) (λ (p : ℕ × ℕ). cause.NoReplica p.0 p.1) (n, m) e))))
refusal-again (cause.Returned u) e = or_other_second _ _ _ refl (or_other_second _ _ _ refl (or_other_second _ _ _ refl (or_other_second _ _ _ refl (made_again (one unit) (one_law unit unit_law) cause.Returned u e))))
refusal-again (cause.Overtaken n) e = or_other_second _ _ _ refl (or_other_second _ _ _ refl (or_other_first _ _ _ (made_again (one number) (one_law number number_law) cause.Overtaken n e)))
refusal-again (cause.OpenDecision n) e = or_other_second _ _ _ refl (or_other_second _ _ _ refl (or_other_first _ _ _ (made_again (one number) (one_law number number_law) cause.OpenDecision n e)))
refusal-again (cause.NoCheckpoint o) e = or_other_second _ _ _ refl (or_other_first _ _ _ (made_again (one object) (one_law object object_law) cause.NoCheckpoint o e))
refusal-again (cause.TooMany c) e = or_other_first _ _ _ (made_again (one crowd) (one_law crowd crowd_law) cause.TooMany c refl)
refusal-again (cause.NotClosed n) e = or_other_second _ _ _ refl (or_other_second _ _ _ refl (or_other_first _ _ _ (made_again (one number) (one_law number number_law) cause.NotClosed n e)))
refusal-again (cause.NoStripe n m) e = or_other_second _ _ _ refl (or_other_second _ _ _ refl (or_other_second _ _ _ refl (or_other_first _ _ _ (made_again (two number number) (two_law number number number_law number_law) (λ (p : ℕ × ℕ). cause.NoStripe p.0 p.1) (n, m) e))))
refusal-again (cause.InChain u) e = or_other_second _ _ _ refl (or_other_second _ _ _ refl (or_other_second _ _ _ refl (or_other_second _ _ _ refl (made_again (one unit) (one_law unit unit_law) cause.InChain u e))))
refusal-again (cause.NotWhole u n) e = or_other_second _ _ _ refl (or_other_second _ _ _ refl (or_other_second _ _ _ refl (or_other_second _ _ _ refl (made_again (two unit number) (two_law unit number unit_law number_law) (λ (p : ℕ × ℕ). cause.NotWhole p.0 p.1) (u, n) e))))
refusal-again (cause.Ahead n) e = or_other_second _ _ _ refl (or_other_second _ _ _ refl (or_other_first _ _ _ (made_again (one number) (one_law number number_law) cause.Ahead n e)))

pub refusal_law : IsPhrase refusal
refusal_law = record { takes = refusal-takes; again = refusal-again }
