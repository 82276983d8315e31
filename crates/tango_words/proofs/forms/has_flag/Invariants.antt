use Rattle.std.proofs.Common.{◌≡◌, map, drop, string_bytes}
use Rattle.std.specs.List.{list_any}
use Rattle.tango_words.specs.Commands.{begins_with_dash}
use Rattle.tango_words.proofs.forms.has_flag.Given as goal

abbrev pub invariant-loop-word : goal.invariant-loop-word
invariant-loop-word l =
    list_any begins_with_dash (map string_bytes l.words) ≡ list_any begins_with_dash (map string_bytes (drop l.word-index l.words))
