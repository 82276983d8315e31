-- What a page says of a stream.
use Rattle.std.proofs.Common.{◌≡◌, ℕ, List, nat_lt, filter, Option, Some, Ok, sym, ap, ◌∙◌}
use Rattle.std.specs.List.{list_any}
use Rattle.tg_base.specs.declared.ids.Oid.{Oid}
use Rattle.tg_base.specs.declared.marks.StreamLink.{StreamLink}
use Rattle.tg_codec.specs.Whole.{whole}
use Rattle.tg_entry.specs.declared.entry.Entry.{Entry}
use Rattle.tg_entry.specs.Format.{entry}
use Rattle.tg_protocol.specs.Words.{where_true}
use Rattle.tg_base.specs.Orders.{oid_eq}
use Rattle.tg_protocol.specs.Entries.{backs_of, link_of}
use Rattle.tg_protocol.specs.Pages.{entry_of, if_read}
use Rattle.tg_protocol.specs.Walking.{listed}

pub read-listed : (o : Oid) (q : ℕ) (bytes page : List ℕ) (e : Entry) (ls : List StreamLink) (r : Option (List ℕ)) → bytes ≡ page → whole entry bytes ≡ Ok e → ls ≡ e.head.streams →
    r ≡ where_true (list_any (λ l. oid_eq l.oid o) ls) (filter (λ b. nat_lt b q) (backs_of (link_of o ls))) → r ≡ listed o q (entry_of page)
unfolding entry_of
read-listed o q bytes page e ls r same h streams is =
    let read : Some e ≡ entry_of page = sym (ap if_read h) ∙ ap entry_of same in
    is
    ∙ ap (λ xs. where_true (list_any (λ l. oid_eq l.oid o) xs) (filter (λ b. nat_lt b q) (backs_of (link_of o xs)))) streams
    ∙ ap (listed o q) read
