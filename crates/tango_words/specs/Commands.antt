-- How `clap` reads the words: the program's command, and the form of what it found.
use Rattle.std.specs.Prelude.{ℕ, ◌==◌, Bool, true, false, List, [], ◌∷◌, Option, Some, None, if◌then◌else◌, codes, option_and_then, option_map}
use Rattle.std.specs.Str.{bytes_eq}
use Rattle.clap.specs.Words.{App, Row, Rule, Shape, Text, first_of, new_app, new_rule, with_rule, with_subcommand}
use Rattle.clap.specs.Simple.{on_top}
use Rattle.tango_words.specs.Forms.{node_in, of_bench}
use Rattle.tango_words.specs.declared.forms.Form.{Form}
use Rattle.tango_words.specs.declared.forms.Form.TheVariants.{Replay, Live, Node, Audit}

-- 45 is `-`
abbrev pub begins_with_dash : List ℕ → Bool
begins_with_dash [] = false
begins_with_dash (first ∷ rest) = first == 45

-- The program's command: subcommands by their names, of which two have words of their own, and no flags.

abbrev pub required_rule : Text → Rule
required_rule id = record (new_rule id) { required = true }

abbrev pub node_app : App
node_app = with_rule (new_app (codes "node")) (required_rule (codes "ID"))

abbrev pub bench_app : App
bench_app = with_rule (with_rule (new_app (codes "bench")) (required_rule (codes "START"))) (required_rule (codes "COUNT"))

abbrev pub top_app : App
top_app = on_top (λ (s : Shape). record s {
  no_binary_name = true;
  disable_help_flag = true;
  disable_help_subcommand = true;
  subcommand_required = true;
}) (new_app (codes "tango"))

abbrev pub command_app : App
command_app =
    with_subcommand (with_subcommand (with_subcommand (with_subcommand (with_subcommand top_app (new_app (codes "replay")).top) (new_app (codes "live")).top)
    node_app.top) bench_app.top) (new_app (codes "audit")).top

-- The form of what was found, by a subcommand's name and the values of its arguments.

abbrev pub of_id : Option Text → Option Form
of_id = option_and_then (λ id. option_map Node (node_in id))

abbrev pub of_both : Option Text → Option Text → Option Form
of_both start count = option_and_then (λ s. option_and_then (λ n. of_bench (s ∷ n ∷ [])) count) start

abbrev pub form_with : Text → (Text → Option Text) → Option Form
form_with name value =
    if bytes_eq name (codes "replay") then Some Replay
    else (if bytes_eq name (codes "live") then Some Live
    else (if bytes_eq name (codes "node") then of_id (value (codes "ID"))
    else (if bytes_eq name (codes "bench") then of_both (value (codes "START")) (value (codes "COUNT"))
    else (if bytes_eq name (codes "audit") then Some Audit
    else None))))

-- the same, by the rows that a parse gives
abbrev pub form_in : Text → List Row → Option Form
form_in name rows = form_with name (λ id. first_of id rows)

abbrev pub form_named : Option (Text × List Row) → Option Form
form_named = option_and_then (λ (p : Text × List Row). form_in p.0 p.1)
