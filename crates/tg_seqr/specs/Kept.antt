-- What a sequencer keeps of streams, in the words of the rules.
use Rattle.std.specs.Prelude.{ℕ, List, map}
use Rattle.tg_base.specs.declared.marks.StreamLink.{StreamLink}

-- by the object's number its last positions
abbrev pub link_kept : ℕ × List ℕ → StreamLink
link_kept e = record { oid = record { 0 = e.0 }; backs = e.1 }

abbrev pub links_kept : List (ℕ × List ℕ) → List StreamLink
links_kept es = map link_kept es
