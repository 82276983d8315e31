use Rattle.std.proofs.Common.{rules}
use Rattle.std.proofs.lemmas.List.Sorted.{answers_always}
use Rattle.tg_entry.proofs.Lookups.{searched}
use Rattle.tg_entry.proofs.drafts.place_of.Goals as goal

pub returns : goal.returns
returns c =
    let facts = c.binary_search_by_key.ensures in
    let by_key = facts.position (λ e. e.0) (answers_always _ _ _ (λ f a r g called. search rules)) in
    let s = searched c.args.list.now c.args.at c.binary_search_by_key.result c.requires facts.bound by_key in
    record { found = s.found; absent = s.absent }
