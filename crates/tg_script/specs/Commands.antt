-- The words of a client's command: a verb and its fields.
use Rattle.std.specs.Prelude.{ℕ, Bool, true, false, ◌&&◌, nat_le, List, [], ◌∷◌, ◌++◌, codes, Option, Some, None, option_map, if◌then◌else◌}
use Rattle.std.specs.Fmt.{decimal}
use Rattle.std.specs.Str.{bytes_eq}
use Rattle.tg_base.specs.declared.ids.Oid.{Oid}
use Rattle.tg_base.specs.declared.ids.Role.TheVariants as role
use Rattle.tg_base.specs.declared.change.Join.{Join}
use Rattle.tg_base.specs.Changes.{Changed}
use Rattle.tg_base.specs.Clusters.{Header}
use Rattle.tg_dir.specs.declared.directory.DirectoryOp.TheVariants as directory_ops
use Rattle.tg_model.specs.declared.command.Command.{Command}
use Rattle.tg_model.specs.declared.command.Command.TheVariants as cmd
use Rattle.tg_any.specs.declared.any.AnyOp.{AnyOp}
use Rattle.tg_any.specs.declared.any.AnyOp.TheVariants as ops
use Rattle.tg_any.specs.declared.any.AnyAsk.{AnyAsk}
use Rattle.tg_any.specs.AnyWords.{op_words, op_fits, op_read, ask_words, ask_fits, ask_read, or_other}
use Rattle.tg_any.specs.Fronts.{◌>>=◌}
use Rattle.tg_any.specs.Words.{Word, Phrase, number, object, nothing, one, two, verb}
use Rattle.tg_script.specs.Parts.{narrowed}
use Rattle.tg_script.specs.Nodes.{member_word, units_word, chains_word, numbered, distinct_units, chains}

-- an op that a user may put is any but `mark`
abbrev pub is_put : AnyOp → Bool
is_put (ops.Directory (directory_ops.Mark oid mark)) = false
is_put op = true

abbrev pub put_read : List (List ℕ) → Option AnyOp
put_read words = op_read words >>= λ op. if is_put op then Some op else None

abbrev pub put_op : Phrase AnyOp
put_op = record { spell = op_words; fits = λ op. op_fits op && is_put op; read = put_read }

abbrev pub any_ask : Phrase AnyAsk
any_ask = record { spell = ask_words; fits = ask_fits; read = ask_read }

-- a word, and then others
abbrev pub first_read : {A B : Type 0} → Word A → Phrase B → List (List ℕ) → Option (A × B)
first_read a b [] = None
first_read a b (word ∷ words) = a.read word >>= λ x. b.read words >>= λ y. Some (x, y)

abbrev pub first : {A B : Type 0} → Word A → Phrase B → Phrase (A × B)
first a b = record { spell = λ p. a.spell p.0 ∷ b.spell p.1; fits = λ p. a.fits p.0 && b.fits p.1; read = first_read a b }

-- a position above the first
abbrev pub mark : Word ℕ
mark = narrowed (λ n. nat_le 1 n) number

-- The words of a reconfiguration.

-- a name and a word, or nothing for the empty list
abbrev pub part_words : {A : Type 0} → List ℕ → (List A → List ℕ) → List A → List (List ℕ)
part_words name spell [] = []
part_words name spell (x ∷ xs) = name ∷ spell (x ∷ xs) ∷ []

abbrev pub part_fits : {A : Type 0} → Word (List A) → List A → Bool
part_fits word [] = true
part_fits word (x ∷ xs) = word.fits (x ∷ xs)

-- the word after a name at the front, where it stands there, and the words that follow
abbrev pub part_at : List ℕ → List (List ℕ) → Option (List ℕ) × List (List ℕ)
part_at name (w ∷ v ∷ words) = if bytes_eq w name then (Some v, words) else (None, w ∷ v ∷ words)
part_at name (w ∷ []) = (None, w ∷ [])
part_at name [] = (None, [])

-- what is read of the word, and the empty list where there is none
abbrev pub part_read : {A : Type 0} → Word (List A) → Option (List ℕ) → Option (List A)
part_read word None = Some []
part_read word (Some w) = word.read w

abbrev pub place_words : ℕ → ℕ → ℕ → List (List ℕ)
place_words unit range stripe = member_word role.Unit unit ∷ decimal range ∷ decimal stripe ∷ []

abbrev pub join_at : ℕ × (ℕ × ℕ) → Join
join_at p = record { unit = p.0; range = p.1.0; stripe = p.1.1 }

-- a unit, and the range and the stripe that it joins
abbrev pub place : Header → Phrase Join
place h = record {
  spell = λ j. place_words j.unit j.range j.stripe;
  fits = λ j. (numbered h role.Unit).fits j.unit && number.fits j.range && number.fits j.stripe;
  read = λ words. option_map join_at ((first (numbered h role.Unit) (two number number)).read words);
}

abbrev pub join_words : Option Join → List (List ℕ)
join_words None = []
join_words (Some j) = codes "join" ∷ place_words j.unit j.range j.stripe

abbrev pub join_fits : Header → Option Join → Bool
join_fits h None = true
join_fits h (Some j) = (place h).fits j

abbrev pub join_read : Header → List (List ℕ) → Option (Option Join)
join_read h [] = Some None
join_read h (w ∷ words) = verb (codes "join") (place h) (λ j. Some j) w words None

-- `s1 drop u0,u3 open u1,u2/u4 join u5 0 1`, of which all after the first may be missing
abbrev pub change_words : Changed → List (List ℕ)
change_words c =
    member_word role.Seqr c.seq ∷ (part_words (codes "drop") units_word c.drop ++ (part_words (codes "open") chains_word c.opened ++ join_words c.join))

abbrev pub change_fits : Header → Changed → Bool
change_fits h c =
    (numbered h role.Seqr).fits c.seq && part_fits (distinct_units h.units) c.drop && part_fits (chains h.units) c.opened && join_fits h c.join

-- the change whose last words are those of the unit that joins
abbrev pub joined_change : Header → ℕ → List ℕ → List (List ℕ) → List (List ℕ) → Option Changed
joined_change h seq drop opened words = join_read h words >>= λ j. Some (record { seq = seq; drop = drop; opened = opened; join = j })

abbrev pub opened_change : Header → ℕ → List ℕ → Option (List ℕ) × List (List ℕ) → Option Changed
opened_change h seq drop p = part_read (chains h.units) p.0 >>= λ o. joined_change h seq drop o p.1

abbrev pub dropped_change : Header → ℕ → Option (List ℕ) × List (List ℕ) → Option Changed
dropped_change h seq p = part_read (distinct_units h.units) p.0 >>= λ d. opened_change h seq d (part_at (codes "open") p.1)

abbrev pub change_read : Header → List (List ℕ) → Option Changed
change_read h [] = None
change_read h (w ∷ words) = (numbered h role.Seqr).read w >>= λ s. dropped_change h s (part_at (codes "drop") words)

abbrev pub change : Header → Phrase Changed
change h = record { spell = change_words; fits = change_fits h; read = change_read h }

-- Commands, one line each.

abbrev pub command_words : Command AnyOp AnyAsk → List (List ℕ)
command_words (cmd.Host oid) = codes "host" ∷ (one object).spell oid
command_words cmd.Begin = codes "begin" ∷ []
command_words (cmd.Put oid op) = codes "put" ∷ (first object put_op).spell (oid, op)
command_words (cmd.Ask oid ask) = codes "ask" ∷ (first object any_ask).spell (oid, ask)
command_words cmd.End = codes "end" ∷ []
command_words cmd.Drop = codes "drop" ∷ []
command_words (cmd.Fate at) = codes "fate" ∷ (one number).spell at
command_words (cmd.Decide at) = codes "decide" ∷ (one number).spell at
command_words (cmd.Checkpoint oid) = codes "checkpoint" ∷ (one object).spell oid
command_words (cmd.Forget oid m) = codes "forget" ∷ (two object mark).spell (oid, m)
command_words cmd.Trim = codes "trim" ∷ []
command_words (cmd.Reconf c) = codes "reconf" ∷ change_words c
command_words (cmd.Copy unit range stripe) = codes "copy" ∷ place_words unit range stripe
command_words (cmd.AskAt at oid ask) = codes "ask-at" ∷ (first number (first object any_ask)).spell (at, (oid, ask))
command_words (cmd.Rescue at) = codes "rescue" ∷ (one number).spell at

-- the command's fields are within their types, and its nodes are declared
abbrev pub command_fits : Header → Command AnyOp AnyAsk → Bool
command_fits h (cmd.Host oid) = object.fits oid
command_fits h cmd.Begin = true
command_fits h (cmd.Put oid op) = (first object put_op).fits (oid, op)
command_fits h (cmd.Ask oid ask) = (first object any_ask).fits (oid, ask)
command_fits h cmd.End = true
command_fits h cmd.Drop = true
command_fits h (cmd.Fate at) = number.fits at
command_fits h (cmd.Decide at) = number.fits at
command_fits h (cmd.Checkpoint oid) = object.fits oid
command_fits h (cmd.Forget oid m) = (two object mark).fits (oid, m)
command_fits h cmd.Trim = true
command_fits h (cmd.Reconf c) = (change h).fits c
command_fits h (cmd.Copy unit range stripe) = (place h).fits (record { unit = unit; range = range; stripe = stripe })
command_fits h (cmd.AskAt at oid ask) = (first number (first object any_ask)).fits (at, (oid, ask))
command_fits h (cmd.Rescue at) = number.fits at

-- What is read of a verb and its fields, in four groups.

-- the commands of transactions
abbrev pub transaction_read : List ℕ → List (List ℕ) → Option (Command AnyOp AnyAsk)
transaction_read w fields =
    verb (codes "begin") nothing (λ _. cmd.Begin) w fields (verb (codes "put") (first object put_op) (λ p. cmd.Put p.0 p.1) w fields
    (verb (codes "ask") (first object any_ask) (λ p. cmd.Ask p.0 p.1) w fields (verb (codes "end") nothing (λ _. cmd.End) w fields
    (verb (codes "drop") nothing (λ _. cmd.Drop) w fields None))))

-- those of a record at a position
abbrev pub record_read : List ℕ → List (List ℕ) → Option (Command AnyOp AnyAsk)
record_read w fields =
    verb (codes "fate") (one number) cmd.Fate w fields (verb (codes "decide") (one number) cmd.Decide w fields (verb (codes "rescue") (one number) cmd.Rescue w fields None))

-- those of an object
abbrev pub object_read : List ℕ → List (List ℕ) → Option (Command AnyOp AnyAsk)
object_read w fields =
    verb (codes "host") (one object) cmd.Host w fields (verb (codes "checkpoint") (one object) cmd.Checkpoint w fields
    (verb (codes "forget") (two object mark) (λ p. cmd.Forget p.0 p.1) w fields
    (verb (codes "ask-at") (first number (first object any_ask)) (λ p. cmd.AskAt p.0 p.1.0 p.1.1) w fields None)))

-- those of layouts and units
abbrev pub layout_read : Header → List ℕ → List (List ℕ) → Option (Command AnyOp AnyAsk)
layout_read h w fields =
    verb (codes "trim") nothing (λ _. cmd.Trim) w fields (verb (codes "reconf") (change h) cmd.Reconf w fields
    (verb (codes "copy") (place h) (λ j. cmd.Copy j.unit j.range j.stripe) w fields None))

-- the command that has these words
unfoldable pub command_read : Header → List (List ℕ) → Option (Command AnyOp AnyAsk)
command_read h [] = None
command_read h (w ∷ fields) = or_other (transaction_read w fields) (or_other (record_read w fields) (or_other (object_read w fields) (layout_read h w fields)))
