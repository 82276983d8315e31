-- The fields of a reply.
use Rattle.std.specs.Prelude.{ℕ, Bool, true, ◌&&◌, ◌||◌, List, [], ◌∷◌, ◌++◌, codes, take, drop, Option, Some, None, option_map, if◌then◌else◌}
use Rattle.std.specs.Fmt.{decimal}
use Rattle.std.specs.Str.{bytes_eq}
use Rattle.tg_base.specs.declared.fault.Many.{Many}
use Rattle.tg_base.specs.declared.fault.Many.TheVariants as many
use Rattle.tg_base.specs.declared.marks.Part.{Part}
use Rattle.tg_base.specs.declared.marks.Part.TheVariants.{All, Text, Num}
use Rattle.tg_kind.specs.Texts.{text_format}
use Rattle.tg_tree.specs.Paths.{path_format}
use Rattle.tg_model.specs.declared.command.Word.{Word as Command}
use Rattle.tg_model.specs.declared.command.Word.TheVariants as command
use Rattle.tg_any.specs.declared.any.AnyOp.{AnyOp}
use Rattle.tg_any.specs.declared.any.AnyAsk.{AnyAsk}
use Rattle.tg_any.specs.declared.any.AnyAns.{AnyAns}
use Rattle.tg_any.specs.AnyWords.{op_words, op_fits, op_read, ask_words, ask_fits, ask_read, answer_words, answer_fits, answer_read}
use Rattle.tg_any.specs.Fronts.{◌>>=◌}
use Rattle.tg_any.specs.Words.{Word, Phrase, flag, number, one, verb}
use Rattle.tg_trace.specs.Lines.{lettered, first, named}

-- the value whose word this is
abbrev pub in_table : {A : Type 0} → List (List ℕ × A) → List ℕ → Option A
in_table [] word = None
in_table (row ∷ rows) word = if bytes_eq word row.0 then Some row.1 else in_table rows word

-- Commands.

abbrev pub command_word : Command → List ℕ
command_word command.Host = codes "host"
command_word command.Begin = codes "begin"
command_word command.Put = codes "put"
command_word command.Ask = codes "ask"
command_word command.End = codes "end"
command_word command.Drop = codes "drop"
command_word command.Fate = codes "fate"
command_word command.Decide = codes "decide"
command_word command.Checkpoint = codes "checkpoint"
command_word command.Forget = codes "forget"
command_word command.Trim = codes "trim"
command_word command.Reconf = codes "reconf"
command_word command.Copy = codes "copy"
command_word command.AskAt = codes "ask-at"
command_word command.Rescue = codes "rescue"

abbrev pub commands : List (List ℕ × Command)
commands =
    (codes "host", command.Host) ∷ (codes "begin", command.Begin) ∷ (codes "put", command.Put) ∷ (codes "ask", command.Ask) ∷ (codes "end", command.End)
    ∷ (codes "drop", command.Drop) ∷ (codes "fate", command.Fate) ∷ (codes "decide", command.Decide) ∷ (codes "checkpoint", command.Checkpoint)
    ∷ (codes "forget", command.Forget) ∷ (codes "trim", command.Trim) ∷ (codes "reconf", command.Reconf) ∷ (codes "copy", command.Copy)
    ∷ (codes "ask-at", command.AskAt) ∷ (codes "rescue", command.Rescue) ∷ []

abbrev pub waiting : Word Command
waiting = record { spell = command_word; fits = λ _. true; read = in_table commands }

-- What there are too many of.

abbrev pub many_word : Many → List ℕ
many_word many.Streams = codes "streams"
many_word many.Reads = codes "reads"
many_word many.Writes = codes "writes"
many_word many.Hosted = codes "hosted"
many_word many.Ranges = codes "ranges"
many_word many.Units = codes "units"

abbrev pub manies : List (List ℕ × Many)
manies =
    (codes "streams", many.Streams) ∷ (codes "reads", many.Reads) ∷ (codes "writes", many.Writes) ∷ (codes "hosted", many.Hosted)
    ∷ (codes "ranges", many.Ranges) ∷ (codes "units", many.Units) ∷ []

abbrev pub crowd : Word Many
crowd = record { spell = many_word; fits = λ _. true; read = in_table manies }

-- `yes`, `no`, or `none`
abbrev pub fate_word : Option Bool → List ℕ
fate_word None = codes "none"
fate_word (Some b) = flag.spell b

abbrev pub fate_in : List ℕ → Option (Option Bool)
fate_in word = if bytes_eq word (codes "none") then Some None else option_map (λ b. Some b) (flag.read word)

abbrev pub fate : Word (Option Bool)
fate = record { spell = fate_word; fits = λ _. true; read = fate_in }

-- nodes
abbrev pub client : Word ℕ
client = lettered (codes "c")

abbrev pub unit : Word ℕ
unit = lettered (codes "u")

-- a text or a path
abbrev pub is_key : List ℕ → Bool
is_key t = text_format.fits t || path_format.fits t

abbrev pub key : Word (List ℕ)
key = record { spell = λ t. t; fits = is_key; read = λ word. if is_key word then Some word else None }

-- the version that was read, and the one that stands there now
abbrev pub versions : Phrase (ℕ × ℕ)
versions = named (codes "seen") (first number (named (codes "now") (one number)))

-- a part of an object
abbrev pub part_words : Part → List (List ℕ)
part_words All = codes "all" ∷ []
part_words (Text t) = codes "key" ∷ t ∷ []
part_words (Num n) = codes "num" ∷ decimal n ∷ []

abbrev pub part_fits : Part → Bool
part_fits All = true
part_fits (Text t) = key.fits t
part_fits (Num n) = number.fits n

abbrev pub clash_read : List (List ℕ) → Option (Part × (ℕ × ℕ))
clash_read [] = None
clash_read (w ∷ ws) =
    verb (codes "all") versions (λ v. (All, v)) w ws (verb (codes "key") (first key versions) (λ p. (Text p.0, p.1)) w ws
    (verb (codes "num") (first number versions) (λ p. (Num p.0, p.1)) w ws None))

-- a part and its two versions
abbrev pub clash : Phrase (Part × (ℕ × ℕ))
clash = record {
  spell = λ p. part_words p.0 ++ versions.spell p.1;
  fits = λ p. part_fits p.0 && versions.fits p.1;
  read = clash_read;
}

-- an op
abbrev pub any_op : Phrase AnyOp
any_op = record { spell = op_words; fits = op_fits; read = op_read }

-- an ask
abbrev pub any_ask : Phrase AnyAsk
any_ask = record { spell = ask_words; fits = ask_fits; read = ask_read }

-- an answer of an ask's form
abbrev pub answer_to : AnyAsk → Phrase AnyAns
answer_to ask = record { spell = answer_words; fits = answer_fits ask; read = answer_read ask }

-- how many words an ask has, by its verb
abbrev pub has_two : List ℕ → Bool
has_two verb = bytes_eq verb (codes "count") || bytes_eq verb (codes "between")

abbrev pub has_one : List ℕ → Bool
has_one verb =
    bytes_eq verb (codes "find") || bytes_eq verb (codes "get") || bytes_eq verb (codes "at") || bytes_eq verb (codes "data")
    || bytes_eq verb (codes "has") || bytes_eq verb (codes "children") || bytes_eq verb (codes "member")

abbrev pub ask_len : List ℕ → ℕ
ask_len verb = if has_two verb then 3 else (if has_one verb then 2 else 1)

-- `at 3 = some x`: a position and the answer there
abbrev pub told_at : AnyAsk → Phrase (ℕ × AnyAns)
told_at ask = named (codes "at") (first number (named (codes "=") (answer_to ask)))

abbrev pub answered_read : List (List ℕ) → Option (AnyAsk × (ℕ × AnyAns))
answered_read [] = None
answered_read (w ∷ ws) =
    ask_read (take (ask_len w) (w ∷ ws)) >>= λ ask. (told_at ask).read (drop (ask_len w) (w ∷ ws)) >>= λ p. Some (ask, p)

-- an ask, and how it was answered
abbrev pub answered : Phrase (AnyAsk × (ℕ × AnyAns))
answered = record {
  spell = λ p. ask_words p.0 ++ (told_at p.0).spell p.1;
  fits = λ p. ask_fits p.0 && (told_at p.0).fits p.1;
  read = answered_read;
}
