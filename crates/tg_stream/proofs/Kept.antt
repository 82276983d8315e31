-- What is kept with a cell is what it says.
use Rattle.std.proofs.Common.{◌≡◌, ℕ, List, true, nat_lt, filter, Option, Some, None, ap, ◌∙◌}
use Rattle.std.specs.List.{list_any}
use Rattle.tg_base.specs.declared.cell.Cell.{Cell}
use Rattle.tg_base.specs.declared.cell.Cell.TheVariants.{Junk, Data}
use Rattle.tg_base.specs.declared.ids.Oid.{Oid}
use Rattle.tg_base.specs.declared.marks.StreamLink.{StreamLink}
use Rattle.tg_base.specs.Orders.{oid_eq}
use Rattle.tg_entry.specs.declared.entry.Entry.{Entry}
use Rattle.tg_protocol.specs.Words.{where_true}
use Rattle.tg_protocol.specs.Entries.{backs_of, link_of}
use Rattle.tg_protocol.specs.Pages.{entry_in}
use Rattle.tg_protocol.specs.Walking.{listed, pointers_at}
use Rattle.tg_stream.specs.Pages.{fits_by, Says}

pub says : (c : Cell) (o : Option Entry) → o ≡ entry_in c → fits_by o ≡ true → Says c o
says c None is fits = tt
says c (Some e) is fits = (is, fits)

-- what a stream's walk goes by
pub kept-listed : (o : Oid) (q : ℕ) (c : Cell) (e : Entry) (ls : List StreamLink) (r : Option (List ℕ)) → Says c (Some e) → ls ≡ e.head.streams →
    r ≡ where_true (list_any (λ l. oid_eq l.oid o) ls) (filter (λ b. nat_lt b q) (backs_of (link_of o ls))) → r ≡ pointers_at o q c
kept-listed o q Junk e ls r says streams is = let read : Some e ≡ None = says.0 in absurd cc
kept-listed o q (Data d) e ls r says streams is =
    is
    ∙ ap (λ xs. where_true (list_any (λ l. oid_eq l.oid o) xs) (filter (λ b. nat_lt b q) (backs_of (link_of o xs)))) streams
    ∙ ap (listed o q) says.0
