use Rattle.std.proofs.Common.{◌≡◌, ◌++◌, option_map, drop, List}
use denote.Text.{Utf8}
use denote.Shadow.{shadow}
use Rattle.tg_any.specs.Words.{texts, items_read}
use Rattle.tg_any.proofs.phrase.items.Given as goal

-- the items so far, and those that are still to be read, are all of them
abbrev pub invariant-loop-next : goal.invariant-loop-next
invariant-loop-next g l =
    shadow (Utf8 l.word) × (items_read g.A.Field.word l.first (texts l.rest) ≡ option_map (λ (xs : List g.row.A.Denot). l.items ++ xs) (items_read g.A.Field.word l.word (texts (drop l.next-index l.rest))))
