-- Each draft has a spelling, so that what is read of its page is the draft again.
use Rattle.std.proofs.Common.{◌≡◌, ℕ, List, [], ◌++◌, map, true, refl, sym, ap, ◌∙◌, subst, ◌≤◌}
use Rattle.std.proofs.lemmas.List.{append-nil}
use Rattle.tg_base.specs.Clusters.{Header, IsHeader}
use Rattle.tg_base.specs.declared.marks.StreamLink.{StreamLink}
use Rattle.tg_entry.specs.Format.{entry}
use Rattle.tg_entry.specs.Records.{linked}
use Rattle.tg_append.proofs.Pages.{linked_fits}
use Rattle.tg_kind.specs.Meaning.{Meaning}
use Rattle.tg_protocol.specs.Entries.{oid_of_link, streams_of}
use Rattle.tg_protocol.specs.Appending.{Append}
use Rattle.tg_protocol.specs.Worlds.{client}
use Rattle.tg_protocol.specs.Runs.{Moves, Reaches, most_steps, LawfulCommand}
use Rattle.tg_protocol.specs.Holding.{EntriesOwn}
use Rattle.tg_law_layouts.specs.Moves.After.{after}
use Rattle.tg_law_layouts.specs.Moves.Configs.{config, client_in}
use Rattle.tg_law_layouts.proofs.Moves.Moves.{AllGive}
use Rattle.tg_law_cells.proofs.Tokens.Linked.{some_entry, read_back}
use Rattle.tg_law_replies.specs.Replies.Ended.{AppendsEnd}
use Rattle.tg_law_replies.proofs.Books.Records.{in_hand}
use Rattle.tg_law_walks.specs.Drafts.Parts.{TouchParts}
use Rattle.tg_law_walks.proofs.Drafts.Became.{Holds}
use Rattle.tg_law_walks.proofs.Drafts.Written.{Drafted, draft_in}
use Rattle.tg_law_walks.proofs.Drafts.Drafts.{named, begun_of, Source, source, always_short}
use Rattle.tg_law_walks.proofs.Once.Nowhere.{reached}
use Rattle.tg_law_walks.proofs.Once.Reached.{header, give, short}
use Rattle.tg_law_walks.proofs.Once.Ending.{all_end_here}
use Rattle.tg_law_walks.specs.Checkpoints.Checkpoints.{AppendsFit, DraftsFitByParts, EntriesOwnByParts, AppendsEndByParts}

module _ (m : Meaning) (parts : TouchParts m) where
  held_fits : (h : Header) (zs : Moves m) (reach : Reaches m h zs (after m h zs)) (xs ys : Moves m) → zs ≡ xs ++ ys → (k : ℕ) (a : Append) → Holds m (client m (after m h xs) k) a → entry.fits a.draft ≡ true
  held_fits h zs reach xs ys split k a o = (draft_in m h zs (header m h zs reach) (give m h zs reach) (short m h zs reach) xs ys split k a o).spelled parts

  fits_here : (h : Header) (zs : Moves m) → Reaches m h zs (after m h zs) → AppendsFit m (after m h zs)
  fits_here h zs reach k a has =
      let y = in_hand m (client m (after m h zs) k) a has in
      held_fits h zs reach zs [] (sym (append-nil zs)) k a (record { work = y.work; purpose = y.purpose; has = y.works; holds = y.task })

  own_here : (h : Header) (zs : Moves m) → IsHeader h → AllGive m (LawfulCommand m) zs → (after m h zs).steps ≤ most_steps → EntriesOwn m h zs (after m h zs)
  own_here h zs header give short p e i = record {
    at = after m h x.before;
    passed = record { before = x.before; after = x.later; split = x.split; is = refl };
    append = x.append;
    begun = begun_of m (client_in m (config m (after m h x.before)) e.head.client) x.append x.holds;
    draft = same ∙ ap (λ (ls : List StreamLink). linked x.append.draft ls) (sym links);
    streams = ap (λ (ls : List StreamLink). map oid_of_link ls) links ∙ named (streams_of x.append.draft) x.links x.names;
  }
    where
      s : Source m h zs header give short p e
      s = source m h zs header give short p e i

      x : Drafted m h zs header give short e.head.client s.epoch p s.page
      x = s.drafted

      links : e.head.streams ≡ x.links
      links = ap (λ y. y.streams) s.same.head

      same : e ≡ linked x.append.draft x.links
      same = some_entry e (linked x.append.draft x.links) (sym s.reads ∙ read_back (linked x.append.draft x.links) s.page (linked_fits x.append.draft x.links x.names (x.ok.spelled parts)) x.page)

pub drafts_fit : (m : Meaning) → DraftsFitByParts m
drafts_fit m parts h ms v r = subst (AppendsFit m) (sym r.goes.is) (fits_here m parts h ms (reached m h ms v r))

pub entries_own : (m : Meaning) → EntriesOwnByParts m
entries_own m parts = always_short m (EntriesOwn m) (own_here m parts)

pub appends_end : (m : Meaning) → AppendsEndByParts m
appends_end m parts h ms v r safe = subst (AppendsEnd m h ms) (sym r.goes.is) (all_end_here m h ms (reached m h ms v r) (λ k xs ys a split o. held_fits m parts h ms (reached m h ms v r) xs ys split k a o) safe)
