-- What is read of the words of replies is what they spell, and nothing else.
use Rattle.std.proofs.Common.{◌≡◌, ℕ, Bool, true, List, [], ◌∷◌, codes, Option, Some, None, refl}
use Rattle.tg_base.specs.declared.ids.Oid.{Oid}
use Rattle.tg_base.specs.declared.marks.Part.{Part}
use Rattle.tg_model.specs.declared.trace.What.TheVariants as told
use Rattle.tg_any.specs.declared.any.AnyOp.{AnyOp}
use Rattle.tg_any.specs.declared.any.AnyAsk.{AnyAsk}
use Rattle.tg_any.specs.declared.any.AnyAns.{AnyAns}
use Rattle.tg_any.specs.Words.{number, object, nothing, one, two}
use Rattle.tg_any.proofs.Words.{IsPhrase, number_law, object_law, nothing_law, one_law, two_law, verb_takes, made_again}
use Rattle.tg_trace.specs.Lines.{first}
use Rattle.tg_trace.specs.Fields.{fate, unit, clash, any_op, answered}
use Rattle.tg_trace.specs.Refusals.{refusal}
use Rattle.tg_trace.specs.Replies.{Told, what_words, what_fits, transaction_told, answer_told, record_told, fate_told, object_told, layout_told, what_read, what}
use Rattle.tg_trace.proofs.Phrases.{first_law, or_other_takes, or_other_first, or_other_second}
use Rattle.tg_trace.proofs.FieldWords.{fate_law, unit_law, clash_law, any_op_law, answered_law}
use Rattle.tg_trace.proofs.RefusalWords.{refusal_law}

abbrev IsTold : List (List ℕ) → Told → Type 0
IsTold ws y = (ws ≡ what_words y) × (what_fits y ≡ true)

transaction-told-takes : (w : List ℕ) (fields : List (List ℕ)) (y : Told) → transaction_told w fields ≡ Some y → IsTold (w ∷ fields) y
transaction-told-takes w fields y e =
    verb_takes (codes "begin") nothing nothing_law (λ (u : Unit {0}). told.Begin) w fields _ y (IsTold (w ∷ fields)) e (λ x fits is. (is, fits))
    (λ e. verb_takes (codes "put") (first object any_op) (first_law object any_op object_law any_op_law) (λ (p : Oid × AnyOp). told.Put p.0 p.1) w fields _ y (IsTold (w ∷ fields)) e (λ x fits is. (is, fits))
    (λ e. verb_takes (codes "end") nothing nothing_law (λ (u : Unit {0}). told.End) w fields _ y (IsTold (w ∷ fields)) e (λ x fits is. (is, fits))
    (λ e. verb_takes (codes "dropped") nothing nothing_law (λ (u : Unit {0}). told.Dropped) w fields None y (IsTold (w ∷ fields)) e (λ x fits is. (is, fits))
    (λ e. absurd cc))))

answer-told-takes : (w : List ℕ) (fields : List (List ℕ)) (y : Told) → answer_told w fields ≡ Some y → IsTold (w ∷ fields) y
answer-told-takes w fields y e =
    verb_takes (codes "asked") (first object answered) (first_law object answered object_law answered_law) (λ (p : Oid × (AnyAsk × (ℕ × AnyAns))). told.Asked p.0 p.1.0 p.1.1.0 p.1.1.1) w fields _ y (IsTold (w ∷ fields)) e (λ x fits is. (is, fits))
    (λ e. verb_takes (codes "past") (first object answered) (first_law object answered object_law answered_law) (λ (p : Oid × (AnyAsk × (ℕ × AnyAns))). told.Past p.0 p.1.0 p.1.1.0 p.1.1.1) w fields None y (IsTold (w ∷ fields)) e (λ x fits is. (is, fits))
    (λ e. absurd cc))

record-told-takes : (w : List ℕ) (fields : List (List ℕ)) (y : Told) → record_told w fields ≡ Some y → IsTold (w ∷ fields) y
record-told-takes w fields y e =
    verb_takes (codes "committed") (one number) (one_law number number_law) told.Committed w fields _ y (IsTold (w ∷ fields)) e (λ x fits is. (is, fits))
    (λ e. verb_takes (codes "aborted") (first number (first object clash)) (first_law number _ number_law (first_law object clash object_law clash_law)) (λ (p : ℕ × (Oid × (Part × (ℕ × ℕ)))). told.Aborted p.0 p.1.0 p.1.1.0 p.1.1.1.0 p.1.1.1.1) w fields _ y (IsTold (w ∷ fields)) e (λ x fits is. (is, fits))
    (λ e. verb_takes (codes "unsure") (two number number) (two_law number number number_law number_law) (λ (p : ℕ × ℕ). told.Unsure p.0 p.1) w fields None y (IsTold (w ∷ fields)) e (λ x fits is. (is, fits))
    (λ e. absurd cc)))

fate-told-takes : (w : List ℕ) (fields : List (List ℕ)) (y : Told) → fate_told w fields ≡ Some y → IsTold (w ∷ fields) y
fate-told-takes w fields y e =
    verb_takes (codes "fate") (two number fate) (two_law number fate number_law fate_law) (λ (p : ℕ × (Option Bool)). told.Fate p.0 p.1) w fields _ y (IsTold (w ∷ fields)) e (λ x fits is. (is, fits))
    (λ e. verb_takes (codes "decided") (two number fate) (two_law number fate number_law fate_law) (λ (p : ℕ × (Option Bool)). told.Decided p.0 p.1) w fields _ y (IsTold (w ∷ fields)) e (λ x fits is. (is, fits))
    (λ e. verb_takes (codes "rescued") (two number fate) (two_law number fate number_law fate_law) (λ (p : ℕ × (Option Bool)). told.Rescued p.0 p.1) w fields None y (IsTold (w ∷ fields)) e (λ x fits is. (is, fits))
    (λ e. absurd cc)))

object-told-takes : (w : List ℕ) (fields : List (List ℕ)) (y : Told) → object_told w fields ≡ Some y → IsTold (w ∷ fields) y
object-told-takes w fields y e =
    verb_takes (codes "hosted") (one object) (one_law object object_law) told.Hosted w fields _ y (IsTold (w ∷ fields)) e (λ x fits is. (is, fits))
    (λ e. verb_takes (codes "saved") (first object (two number number)) (first_law object _ object_law (two_law number number number_law number_law)) (λ (p : Oid × (ℕ × ℕ)). told.Saved p.0 p.1.0 p.1.1) w fields _ y (IsTold (w ∷ fields)) e (λ x fits is. (is, fits))
    (λ e. verb_takes (codes "marked") (two object number) (two_law object number object_law number_law) (λ (p : Oid × ℕ). told.Marked p.0 p.1) w fields None y (IsTold (w ∷ fields)) e (λ x fits is. (is, fits))
    (λ e. absurd cc)))

layout-told-takes : (w : List ℕ) (fields : List (List ℕ)) (y : Told) → layout_told w fields ≡ Some y → IsTold (w ∷ fields) y
layout-told-takes w fields y e =
    verb_takes (codes "trimmed") (one number) (one_law number number_law) told.Trimmed w fields _ y (IsTold (w ∷ fields)) e (λ x fits is. (is, fits))
    (λ e. verb_takes (codes "installed") (one number) (one_law number number_law) told.Installed w fields _ y (IsTold (w ∷ fields)) e (λ x fits is. (is, fits))
    (λ e. verb_takes (codes "copied") (first unit (two number number)) (first_law unit _ unit_law (two_law number number number_law number_law)) (λ (p : ℕ × (ℕ × ℕ)). told.Copied p.0 p.1.0 p.1.1) w fields _ y (IsTold (w ∷ fields)) e (λ x fits is. (is, fits))
    (λ e. verb_takes (codes "refused") refusal refusal_law told.Refused w fields None y (IsTold (w ∷ fields)) e (λ x fits is. (is, fits))
    (λ e. absurd cc))))

what-takes : (ws : List (List ℕ)) (y : Told) → what_read ws ≡ Some y → IsTold ws y
unfolding what_read
what-takes [] y e = absurd cc
what-takes (w ∷ fields) y e =
    or_other_takes _ _ y (IsTold (w ∷ fields) y) e (transaction-told-takes w fields y)
    (λ e. or_other_takes _ _ y (IsTold (w ∷ fields) y) e (answer-told-takes w fields y)
    (λ e. or_other_takes _ _ y (IsTold (w ∷ fields) y) e (record-told-takes w fields y)
    (λ e. or_other_takes _ _ y (IsTold (w ∷ fields) y) e (fate-told-takes w fields y)
    (λ e. or_other_takes _ _ y (IsTold (w ∷ fields) y) e (object-told-takes w fields y)
    (λ e. layout-told-takes w fields y e)))))

what-again : (y : Told) → what_fits y ≡ true → what_read (what_words y) ≡ Some y
unfolding what_read
what-again told.Begin e = refl
what-again (told.Put o op) e = or_other_first _ _ _ (made_again (first object any_op) (first_law object any_op object_law any_op_law) (λ (p : Oid × AnyOp). told.Put p.0 p.1) (o, op) e)
what-again (told.Asked o q t a) e = or_other_second _ _ _ refl (or_other_first _ _ _ (made_again (first object answered) (first_law object answered object_law answered_law) (λ (p : Oid × (AnyAsk × (ℕ × AnyAns))). told.Asked p.0 p.1.0 p.1.1.0 p.1.1.1) (o, (q, (t, a))) e))
what-again told.End e = refl
what-again (told.Committed n) e = or_other_second _ _ _ refl (or_other_second _ _ _ refl (or_other_first _ _ _ (made_again (one number) (one_law number number_law) told.Committed n e)))
what-again (told.Aborted n o part s v) e = or_other_second _ _ _ refl (or_other_second _ _ _ refl (or_other_first _ _ _ (made_again (first number (first object clash)) (first_law number _ number_law (first_law object clash object_law clash_law)) (λ (p : ℕ × (Oid × (Part × (ℕ × ℕ)))). told.Aborted p.0 p.1.0 p.1.1.0 p.1.1.1.0 p.1.1.1.1) (n, (o, (part, (s, v)))) e)))
what-again (told.Unsure n m) e = or_other_second _ _ _ refl (or_other_second _ _ _ refl (or_other_first _ _ _ (made_again (two number number) (two_law number number number_law number_law) (λ (p : ℕ × ℕ). told.Unsure p.0 p.1) (n, m) e)))
what-again told.Dropped e = refl
what-again (told.Hosted o) e = or_other_second _ _ _ refl (or_other_second _ _ _ refl (or_other_second _ _ _ refl (or_other_second _ _ _ refl (or_other_first _ _ _ (made_again (one object) (one_law object object_law) told.Hosted o e)))))
what-again (told.Fate n y) e = or_other_second _ _ _ refl (or_other_second _ _ _ refl (or_other_second _ _ _ refl (or_other_first _ _ _ (made_again (two number fate) (two_law number fate number_law fate_law) (λ (p : ℕ × (Option Bool)). told.Fate p.0 p.1) (n, y) e))))
what-again (told.Decided n y) e = or_other_second _ _ _ refl (or_other_second _ _ _ refl (or_other_second _ _ _ refl (or_other_first _ _ _ (made_again (two number fate) (two_law number fate number_law fate_law) (λ (p : ℕ × (Option Bool)). told.Decided p.0 p.1) (n, y) e))))
what-again (told.Saved o n m) e = or_other_second _ _ _ refl (or_other_second _ _ _ refl (or_other_second _ _ _ refl (or_other_second _ _ _ refl (or_other_first _ _ _ (made_again (first object (two number number)) (first_law object _ object_law (two_law number number number_law number_law)) (λ (p : Oid × (ℕ × ℕ)). told.Saved p.0 p.1.0 p.1.1) (o, (n, m)) e)))))
what-again (told.Marked o n) e = or_other_second _ _ _ refl (or_other_second _ _ _ refl (or_other_second _ _ _ refl (or_other_second _ _ _ refl (or_other_first _ _ _ (made_again (two object number) (two_law object number object_law number_law) (λ (p : Oid × ℕ). told.Marked p.0 p.1) (o, n) e)))))
what-again (told.Trimmed n) e = or_other_second _ _ _ refl (or_other_second _ _ _ refl (or_other_second _ _ _ refl (or_other_second _ _ _ refl (or_other_second _ _ _ refl (made_again (one number) (one_law number number_law) told.Trimmed n e)))))
what-again (told.Installed n) e = or_other_second _ _ _ refl (or_other_second _ _ _ refl (or_other_second _ _ _ refl (or_other_second _ _ _ refl (or_other_second _ _ _ refl (made_again (one number) (one_law number number_law) told.Installed n e)))))
what-again (told.Refused why) e = or_other_second _ _ _ refl (or_other_second _ _ _ refl (or_other_second _ _ _ refl (or_other_second _ _ _ refl (or_other_second _ _ _ refl (made_again refusal refusal_law told.Refused why e)))))
what-again (told.Copied u n m) e = or_other_second _ _ _ refl (or_other_second _ _ _ refl (or_other_second _ _ _ refl (or_other_second _ _ _ refl (or_other_second _ _ _ refl (made_again (first unit (two number number)) (first_law unit _ unit_law (two_law number number number_law number_law)) (λ (p : ℕ × (ℕ × ℕ)). told.Copied p.0 p.1.0 p.1.1) (u, (n, m)) e)))))
what-again (told.Past o q t a) e = or_other_second _ _ _ refl (or_other_first _ _ _ (made_again (first object answered) (first_law object answered object_law answered_law) (λ (p : Oid × (AnyAsk × (ℕ × AnyAns))). told.Past p.0 p.1.0 p.1.1.0 p.1.1.1) (o, (q, (t, a))) e))
what-again (told.Rescued n y) e = or_other_second _ _ _ refl (or_other_second _ _ _ refl (or_other_second _ _ _ refl (or_other_first _ _ _ (made_again (two number fate) (two_law number fate number_law fate_law) (λ (p : ℕ × (Option Bool)). told.Rescued p.0 p.1) (n, y) e))))

pub what_law : IsPhrase what
what_law = record { takes = what-takes; again = what-again }
