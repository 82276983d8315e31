-- The words of refusals.
use Rattle.std.specs.Prelude.{ℕ, Bool, true, List, [], ◌∷◌, codes, Option, None}
use Rattle.tg_model.specs.declared.refusal.Refusal.{Refusal}
use Rattle.tg_model.specs.declared.refusal.Refusal.TheVariants as cause
use Rattle.tg_any.specs.AnyWords.{or_other}
use Rattle.tg_any.specs.Words.{Phrase, number, object, nothing, one, two, verb}
use Rattle.tg_trace.specs.Fields.{waiting, crowd, unit}

abbrev pub refusal_words : Refusal → List (List ℕ)
refusal_words (cause.Busy command) = codes "busy" ∷ (one waiting).spell command
refusal_words cause.NoTx = codes "no-tx" ∷ []
refusal_words cause.TxOpen = codes "tx-open" ∷ []
refusal_words (cause.NotHosted oid) = codes "not-hosted" ∷ (one object).spell oid
refusal_words (cause.NotRegistered oid) = codes "not-registered" ∷ (one object).spell oid
refusal_words (cause.WrongKind oid) = codes "wrong-kind" ∷ (one object).spell oid
refusal_words (cause.TooLarge bytes) = codes "too-large" ∷ (one number).spell bytes
refusal_words (cause.Undecided pos missing) = codes "undecided" ∷ (two number object).spell (pos, missing)
refusal_words (cause.LogFull limit) = codes "log-full" ∷ (one number).spell limit
refusal_words (cause.Forgotten at below) = codes "forgotten" ∷ (two number number).spell (at, below)
refusal_words (cause.NoReplica range stripe) = codes "no-replica" ∷ (two number number).spell (range, stripe)
refusal_words (cause.Returned u) = codes "returned" ∷ (one unit).spell u
refusal_words (cause.Overtaken epoch) = codes "overtaken" ∷ (one number).spell epoch
refusal_words (cause.OpenDecision pos) = codes "open-decision" ∷ (one number).spell pos
refusal_words (cause.NoCheckpoint oid) = codes "no-checkpoint" ∷ (one object).spell oid
refusal_words (cause.TooMany what) = codes "too-many" ∷ (one crowd).spell what
refusal_words (cause.NotClosed range) = codes "not-closed" ∷ (one number).spell range
refusal_words (cause.NoStripe range stripe) = codes "no-stripe" ∷ (two number number).spell (range, stripe)
refusal_words (cause.InChain u) = codes "in-chain" ∷ (one unit).spell u
refusal_words (cause.NotWhole u pos) = codes "not-whole" ∷ (two unit number).spell (u, pos)
refusal_words (cause.Ahead tail) = codes "ahead" ∷ (one number).spell tail

-- the fields are within their types
abbrev pub refusal_fits : Refusal → Bool
refusal_fits (cause.Busy command) = true
refusal_fits cause.NoTx = true
refusal_fits cause.TxOpen = true
refusal_fits (cause.NotHosted oid) = object.fits oid
refusal_fits (cause.NotRegistered oid) = object.fits oid
refusal_fits (cause.WrongKind oid) = object.fits oid
refusal_fits (cause.TooLarge bytes) = number.fits bytes
refusal_fits (cause.Undecided pos missing) = (two number object).fits (pos, missing)
refusal_fits (cause.LogFull limit) = number.fits limit
refusal_fits (cause.Forgotten at below) = (two number number).fits (at, below)
refusal_fits (cause.NoReplica range stripe) = (two number number).fits (range, stripe)
refusal_fits (cause.Returned u) = unit.fits u
refusal_fits (cause.Overtaken epoch) = number.fits epoch
refusal_fits (cause.OpenDecision pos) = number.fits pos
refusal_fits (cause.NoCheckpoint oid) = object.fits oid
refusal_fits (cause.TooMany what) = true
refusal_fits (cause.NotClosed range) = number.fits range
refusal_fits (cause.NoStripe range stripe) = (two number number).fits (range, stripe)
refusal_fits (cause.InChain u) = unit.fits u
refusal_fits (cause.NotWhole u pos) = (two unit number).fits (u, pos)
refusal_fits (cause.Ahead tail) = number.fits tail

-- What is read of a verb and its fields, in groups.

abbrev pub state_refusal : List ℕ → List (List ℕ) → Option Refusal
state_refusal w fields =
    verb (codes "busy") (one waiting) cause.Busy w fields (verb (codes "no-tx") nothing (λ _. cause.NoTx) w fields
    (verb (codes "tx-open") nothing (λ _. cause.TxOpen) w fields (verb (codes "too-many") (one crowd) cause.TooMany w fields None)))

abbrev pub object_refusal : List ℕ → List (List ℕ) → Option Refusal
object_refusal w fields =
    verb (codes "not-hosted") (one object) cause.NotHosted w fields (verb (codes "not-registered") (one object) cause.NotRegistered w fields
    (verb (codes "wrong-kind") (one object) cause.WrongKind w fields (verb (codes "no-checkpoint") (one object) cause.NoCheckpoint w fields None)))

abbrev pub number_refusal : List ℕ → List (List ℕ) → Option Refusal
number_refusal w fields =
    verb (codes "too-large") (one number) cause.TooLarge w fields (verb (codes "log-full") (one number) cause.LogFull w fields
    (verb (codes "overtaken") (one number) cause.Overtaken w fields (verb (codes "open-decision") (one number) cause.OpenDecision w fields
    (verb (codes "not-closed") (one number) cause.NotClosed w fields (verb (codes "ahead") (one number) cause.Ahead w fields None)))))

abbrev pub pair_refusal : List ℕ → List (List ℕ) → Option Refusal
pair_refusal w fields =
    verb (codes "undecided") (two number object) (λ p. cause.Undecided p.0 p.1) w fields (verb (codes "forgotten") (two number number) (λ p. cause.Forgotten p.0 p.1) w fields
    (verb (codes "no-replica") (two number number) (λ p. cause.NoReplica p.0 p.1) w fields
    (verb (codes "no-stripe") (two number number) (λ p. cause.NoStripe p.0 p.1) w fields None)))

abbrev pub unit_refusal : List ℕ → List (List ℕ) → Option Refusal
unit_refusal w fields =
    verb (codes "returned") (one unit) cause.Returned w fields (verb (codes "in-chain") (one unit) cause.InChain w fields
    (verb (codes "not-whole") (two unit number) (λ p. cause.NotWhole p.0 p.1) w fields None))

unfoldable pub refusal_read : List (List ℕ) → Option Refusal
refusal_read [] = None
refusal_read (w ∷ fields) =
    or_other (state_refusal w fields) (or_other (object_refusal w fields) (or_other (number_refusal w fields) (or_other (pair_refusal w fields) (unit_refusal w fields))))

abbrev pub refusal : Phrase Refusal
refusal = record { spell = refusal_words; fits = refusal_fits; read = refusal_read }
