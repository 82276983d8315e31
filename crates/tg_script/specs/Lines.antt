-- The lines of events.
use Rattle.std.specs.Prelude.{◌≡◌, ℕ, ◌≤◌, Bool, true, ◌&&◌, nat_le, List, [], ◌∷◌, codes, length, Option, Some, None, option_map, if◌then◌else◌}
use Rattle.tg_base.specs.declared.ids.Role.TheVariants as role
use Rattle.tg_base.specs.Clusters.{Header}
use Rattle.tg_model.specs.declared.command.Event.TheVariants as event
use Rattle.tg_any.specs.AnyWords.{or_other}
use Rattle.tg_any.specs.Fronts.{◌>>=◌}
use Rattle.tg_any.specs.Words.{Phrase, number, object, nothing, one, verb, joined}
use Rattle.tg_script.specs.declared.line.Line.{Line}
use Rattle.tg_script.specs.declared.line.Line.TheVariants as line
use Rattle.tg_script.specs.Parts.{words_of}
use Rattle.tg_script.specs.Nodes.{member_word, node_word, numbered, node}
use Rattle.tg_script.specs.Commands.{first, put_op, command_words, command_fits, command_read}

-- the words of a line
abbrev pub line_words : Line → List (List ℕ)
line_words (line.Event (event.Command client c)) = member_word role.Client client ∷ command_words c
line_words (line.Event (event.Deliver packet)) = codes "deliver" ∷ (one number).spell packet
line_words (line.Event (event.Lose packet)) = codes "lose" ∷ (one number).spell packet
line_words (line.Event (event.Tick n)) = codes "tick" ∷ node_word n ∷ []
line_words (line.Event (event.Stop n)) = codes "stop" ∷ node_word n ∷ []
line_words (line.Update client oid op) = member_word role.Client client ∷ codes "update" ∷ (first object put_op).spell (oid, op)
line_words line.Drain = codes "drain" ∷ []
line_words line.Settle = codes "settle" ∷ []

-- the line's fields are within their types, and its nodes are declared
abbrev pub line_fits : Header → Line → Bool
line_fits h (line.Event (event.Command client c)) = (numbered h role.Client).fits client && command_fits h c
line_fits h (line.Event (event.Deliver packet)) = number.fits packet
line_fits h (line.Event (event.Lose packet)) = number.fits packet
line_fits h (line.Event (event.Tick n)) = (node h).fits n
line_fits h (line.Event (event.Stop n)) = (node h).fits n
line_fits h (line.Update client oid op) = (numbered h role.Client).fits client && (first object put_op).fits (oid, op)
line_fits h line.Drain = true
line_fits h line.Settle = true

-- a text is the line of a value, of at most 8,192 bytes without its line feed
pub record IsLine (h : Header) (text : List ℕ) (l : Line) : Type 0 where
  pub spelled : text ≡ joined (line_words l)
  pub fits : line_fits h l ≡ true
  pub short : length text ≤ 8192

-- What is read of the words of a line.

-- an event that is no client's command
abbrev pub event_of : Header → List ℕ → List (List ℕ) → Option Line → Option Line
event_of h w fields other =
    verb (codes "drain") nothing (λ _. line.Drain) w fields (verb (codes "settle") nothing (λ _. line.Settle) w fields
    (verb (codes "deliver") (one number) (λ i. line.Event (event.Deliver i)) w fields (verb (codes "lose") (one number) (λ i. line.Event (event.Lose i)) w fields
    (verb (codes "tick") (one (node h)) (λ n. line.Event (event.Tick n)) w fields (verb (codes "stop") (one (node h)) (λ n. line.Event (event.Stop n)) w fields other)))))

-- an update
abbrev pub update_read : ℕ → List (List ℕ) → Option Line
update_read c [] = None
update_read c (w ∷ fields) = verb (codes "update") (first object put_op) (λ p. line.Update c p.0 p.1) w fields None

-- what a client is given
abbrev pub given_of : Header → ℕ → List (List ℕ) → Option Line
given_of h c words = or_other (option_map (λ x. line.Event (event.Command c x)) (command_read h words)) (update_read c words)

-- the line that has these words
unfoldable pub line_read : Header → List (List ℕ) → Option Line
line_read h [] = None
line_read h (w ∷ fields) = event_of h w fields ((numbered h role.Client).read w >>= λ c. given_of h c fields)

-- what is read of a line's bytes, which is none where there are too many
abbrev pub short_read : Header → List ℕ → Option Line
short_read h text = if nat_le (length text) 8192 then line_read h (words_of text) else None

-- a line of a script below its header
abbrev pub script_line : Header → Phrase Line
script_line h = record { spell = line_words; fits = line_fits h; read = line_read h }
