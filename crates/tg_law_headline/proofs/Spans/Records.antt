-- The page of a record was sent only with tokens that were asked for after its transaction was begun.
use Rattle.std.proofs.Common.{◌≡◌, ℕ, ◌<◌, ◌++◌, refl, sym, subst, arith}
use Rattle.tg_base.specs.Clusters.{Header}
use Rattle.tg_entry.specs.Format.{tag_of}
use Rattle.tg_kind.specs.Meaning.{Meaning}
use Rattle.tg_protocol.specs.Appending.{Append}
use Rattle.tg_protocol.specs.Worlds.{World, start, trace}
use Rattle.tg_protocol.specs.Runs.{Moves, Reaches}
use Rattle.tg_law_layouts.specs.Moves.After.{after}
use Rattle.tg_law_layouts.specs.Moves.Configs.{config, client_in}
use Rattle.tg_law_cells.specs.Entries.Archive.{TrimsWereSafe}
use Rattle.tg_law_replies.proofs.Books.Worlds.{WorldBook, run_book, start_book}
use Rattle.tg_law_walks.proofs.Drafts.Became.{Holds}
use Rattle.tg_law_walks.proofs.Once.Along.{spent_at}
use Rattle.tg_law_walks.proofs.Once.Nowhere.{reached}
use Rattle.tg_law_walks.proofs.Once.Spending.{Put}
use Rattle.tg_law_walks.proofs.Once.Turning.{commit_tag, tag_commit, record_number}
use Rattle.tg_law_cells.specs.Places.Order.{OfPage}
use Rattle.tg_law_headline.specs.Spans.Begun.{RecordsNew, EachPassedBySafeTrims}
use Rattle.tg_law_headline.proofs.Spans.Later as later

module _ (m : Meaning) (h : Header) (zs : Moves m) (reach : Reaches m h zs (after m h zs)) (us vs : Moves m) (begins : zs ≡ us ++ vs) where
  -- the number of the transaction that a client had begun last
  abbrev last : ℕ → ℕ
  last k = (client_in m (config m (after m h us)) k).begun

  books : WorldBook m (after m h us)
  books = run_book m us (start m h) (start_book m h)

  none_put : (k : ℕ) (x : Put (after m h us).packets k) → tag_of x.entry.body ≡ 1 → last k < x.entry.head.number → ⊥
  none_put k x tag less = let le = (((spent_at m h zs reach us vs begins).of k).below x).commit tag in omega (arith, le, less)

  none_held : (k : ℕ) (b : Append) → Holds m (client_in m (config m (after m h us)) k) b → tag_of b.draft.body ≡ 1 → last k < b.draft.head.number → ⊥
  none_held k b o tag less = let le = record_number m k (trace m (after m h us)) (client_in m (config m (after m h us)) k) (books k) b o (commit_tag b.draft.body tag b.draft refl) in omega (arith, le, less)

  record_here : TrimsWereSafe m h zs → RecordsNew m (after m h us) (after m h zs)
  record_here safe k n p since has =
      OfPage p (later.page_there m h zs reach us vs begins 1 last none_put none_held safe p has.record_at has.here begun)
      (later.page_settled m h zs reach us vs begins 1 last none_put none_held safe p has.record_at has.here begun) (later.page_new m h zs reach us vs begins 1 last none_put none_held safe p has.record_at has.here begun)
    where
      begun : (tag_of has.record_at.body ≡ 1) × (last has.record_at.head.client < has.record_at.head.number)
      begun = (tag_commit has.record_at.body has.record_at refl has.commit, subst (λ (j : ℕ). last j < has.record_at.head.number) (sym has.of_client) (subst (λ (j : ℕ). last k < j) (sym has.of_number) since))

module _ (m : Meaning) where
  pub records_are_new : EachPassedBySafeTrims m (RecordsNew m)
  records_are_new h ms u v r x safe =
      subst (λ (y : World m). RecordsNew m y v) (sym x.is) (subst (λ (y : World m). RecordsNew m (after m h x.before) y) (sym r.goes.is) (record_here m h ms (reached m h ms v r) x.before x.after x.split safe))
