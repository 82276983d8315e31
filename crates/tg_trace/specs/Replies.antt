-- The words of replies.
use Rattle.std.specs.Prelude.{ℕ, Bool, true, List, [], ◌∷◌, codes, Option, None}
use Rattle.tg_model.specs.declared.trace.What.{What}
use Rattle.tg_model.specs.declared.trace.What.TheVariants as told
use Rattle.tg_any.specs.declared.any.AnyOp.{AnyOp}
use Rattle.tg_any.specs.declared.any.AnyAsk.{AnyAsk}
use Rattle.tg_any.specs.declared.any.AnyAns.{AnyAns}
use Rattle.tg_any.specs.AnyWords.{or_other}
use Rattle.tg_any.specs.Words.{Phrase, number, object, nothing, one, two, verb}
use Rattle.tg_trace.specs.Lines.{first}
use Rattle.tg_trace.specs.Fields.{fate, unit, clash, any_op, answered}
use Rattle.tg_trace.specs.Refusals.{refusal}

-- what is told over all kinds
abbrev pub Told : Type 0
Told = What AnyOp AnyAsk AnyAns

abbrev pub what_words : Told → List (List ℕ)
what_words told.Begin = codes "begin" ∷ []
what_words (told.Put oid op) = codes "put" ∷ (first object any_op).spell (oid, op)
what_words (told.Asked oid ask at ans) = codes "asked" ∷ (first object answered).spell (oid, (ask, (at, ans)))
what_words told.End = codes "end" ∷ []
what_words (told.Committed at) = codes "committed" ∷ (one number).spell at
what_words (told.Aborted at oid part seen now) = codes "aborted" ∷ (first number (first object clash)).spell (at, (oid, (part, (seen, now))))
what_words (told.Unsure at pos) = codes "unsure" ∷ (two number number).spell (at, pos)
what_words told.Dropped = codes "dropped" ∷ []
what_words (told.Hosted oid) = codes "hosted" ∷ (one object).spell oid
what_words (told.Fate at b) = codes "fate" ∷ (two number fate).spell (at, b)
what_words (told.Decided at b) = codes "decided" ∷ (two number fate).spell (at, b)
what_words (told.Saved oid at upto) = codes "saved" ∷ (first object (two number number)).spell (oid, (at, upto))
what_words (told.Marked oid mark) = codes "marked" ∷ (two object number).spell (oid, mark)
what_words (told.Trimmed mark) = codes "trimmed" ∷ (one number).spell mark
what_words (told.Installed epoch) = codes "installed" ∷ (one number).spell epoch
what_words (told.Refused why) = codes "refused" ∷ refusal.spell why
what_words (told.Copied u range stripe) = codes "copied" ∷ (first unit (two number number)).spell (u, (range, stripe))
what_words (told.Past oid ask at ans) = codes "past" ∷ (first object answered).spell (oid, (ask, (at, ans)))
what_words (told.Rescued at b) = codes "rescued" ∷ (two number fate).spell (at, b)

-- the fields are within their types, and an answer has the form of its ask's
abbrev pub what_fits : Told → Bool
what_fits told.Begin = true
what_fits (told.Put oid op) = (first object any_op).fits (oid, op)
what_fits (told.Asked oid ask at ans) = (first object answered).fits (oid, (ask, (at, ans)))
what_fits told.End = true
what_fits (told.Committed at) = number.fits at
what_fits (told.Aborted at oid part seen now) = (first number (first object clash)).fits (at, (oid, (part, (seen, now))))
what_fits (told.Unsure at pos) = (two number number).fits (at, pos)
what_fits told.Dropped = true
what_fits (told.Hosted oid) = object.fits oid
what_fits (told.Fate at b) = (two number fate).fits (at, b)
what_fits (told.Decided at b) = (two number fate).fits (at, b)
what_fits (told.Saved oid at upto) = (first object (two number number)).fits (oid, (at, upto))
what_fits (told.Marked oid mark) = (two object number).fits (oid, mark)
what_fits (told.Trimmed mark) = number.fits mark
what_fits (told.Installed epoch) = number.fits epoch
what_fits (told.Refused why) = refusal.fits why
what_fits (told.Copied u range stripe) = (first unit (two number number)).fits (u, (range, stripe))
what_fits (told.Past oid ask at ans) = (first object answered).fits (oid, (ask, (at, ans)))
what_fits (told.Rescued at b) = (two number fate).fits (at, b)

-- What is read of a verb and its fields, in groups.

abbrev pub transaction_told : List ℕ → List (List ℕ) → Option Told
transaction_told w fields =
    verb (codes "begin") nothing (λ _. told.Begin) w fields (verb (codes "put") (first object any_op) (λ p. told.Put p.0 p.1) w fields
    (verb (codes "end") nothing (λ _. told.End) w fields (verb (codes "dropped") nothing (λ _. told.Dropped) w fields None)))

abbrev pub answer_told : List ℕ → List (List ℕ) → Option Told
answer_told w fields =
    verb (codes "asked") (first object answered) (λ p. told.Asked p.0 p.1.0 p.1.1.0 p.1.1.1) w fields
    (verb (codes "past") (first object answered) (λ p. told.Past p.0 p.1.0 p.1.1.0 p.1.1.1) w fields None)

abbrev pub record_told : List ℕ → List (List ℕ) → Option Told
record_told w fields =
    verb (codes "committed") (one number) told.Committed w fields
    (verb (codes "aborted") (first number (first object clash)) (λ p. told.Aborted p.0 p.1.0 p.1.1.0 p.1.1.1.0 p.1.1.1.1) w fields
    (verb (codes "unsure") (two number number) (λ p. told.Unsure p.0 p.1) w fields None))

abbrev pub fate_told : List ℕ → List (List ℕ) → Option Told
fate_told w fields =
    verb (codes "fate") (two number fate) (λ p. told.Fate p.0 p.1) w fields (verb (codes "decided") (two number fate) (λ p. told.Decided p.0 p.1) w fields
    (verb (codes "rescued") (two number fate) (λ p. told.Rescued p.0 p.1) w fields None))

abbrev pub object_told : List ℕ → List (List ℕ) → Option Told
object_told w fields =
    verb (codes "hosted") (one object) told.Hosted w fields
    (verb (codes "saved") (first object (two number number)) (λ p. told.Saved p.0 p.1.0 p.1.1) w fields
    (verb (codes "marked") (two object number) (λ p. told.Marked p.0 p.1) w fields None))

abbrev pub layout_told : List ℕ → List (List ℕ) → Option Told
layout_told w fields =
    verb (codes "trimmed") (one number) told.Trimmed w fields (verb (codes "installed") (one number) told.Installed w fields
    (verb (codes "copied") (first unit (two number number)) (λ p. told.Copied p.0 p.1.0 p.1.1) w fields
    (verb (codes "refused") refusal told.Refused w fields None)))

unfoldable pub what_read : List (List ℕ) → Option Told
what_read [] = None
what_read (w ∷ fields) =
    or_other (transaction_told w fields) (or_other (answer_told w fields) (or_other (record_told w fields) (or_other (fate_told w fields)
    (or_other (object_told w fields) (layout_told w fields)))))

abbrev pub what : Phrase Told
what = record { spell = what_words; fits = what_fits; read = what_read }
