-- What the forms use: the link, and the source.
use Rattle.std.specs.Prelude.{Bool, true, false, Option, Some, None}
use Rattle.tango_words.specs.declared.forms.Form.{Form}
use Rattle.tango_words.specs.declared.forms.Form.TheVariants.{Live, Node, Bench}

-- a live run and a node send and receive
abbrev pub is_over_link : Option Form → Bool
is_over_link (Some Live) = true
is_over_link (Some (Node id)) = true
is_over_link form = false

-- a load is made and not read
abbrev pub is_reading : Option Form → Bool
is_reading (Some (Bench start count)) = false
is_reading (Some form) = true
is_reading None = false
