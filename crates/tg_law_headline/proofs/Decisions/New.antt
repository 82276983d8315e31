-- The page of a decision record was sent only with tokens that were asked for after it was begun.
use Rattle.std.proofs.Common.{◌≡◌, ℕ, ◌<◌, List, ◌++◌, arith}
use Rattle.tg_base.specs.Clusters.{Header}
use Rattle.tg_base.specs.declared.cell.Cell.TheVariants.{Data}
use Rattle.tg_entry.specs.declared.entry.Entry.{Entry}
use Rattle.tg_entry.specs.Format.{tag_of}
use Rattle.tg_kind.specs.Meaning.{Meaning}
use Rattle.tg_protocol.specs.Appending.{Append}
use Rattle.tg_protocol.specs.Alike.{HasEntry}
use Rattle.tg_protocol.specs.Runs.{Moves, Reaches}
use Rattle.tg_law_layouts.specs.Moves.After.{after}
use Rattle.tg_law_layouts.specs.Moves.Configs.{config, client_in}
use Rattle.tg_law_cells.specs.Cells.Settled.{IsSettled}
use Rattle.tg_law_cells.specs.Entries.Archive.{TrimsWereSafe}
use Rattle.tg_law_walks.proofs.Drafts.Became.{Holds}
use Rattle.tg_law_walks.proofs.Once.Along.{spent_at}
use Rattle.tg_law_walks.proofs.Once.Spending.{Put}
use Rattle.tg_law_cells.specs.Places.Late.{IsNew as IsNewAfter}
use Rattle.tg_law_headline.proofs.Spans.Later as later

module _ (m : Meaning) (h : Header) (zs : Moves m) (reach : Reaches m h zs (after m h zs)) (us vs : Moves m) (begins : zs ≡ us ++ vs) where
  -- the number of the decision record that a client had begun last
  abbrev pub last : ℕ → ℕ
  last k = (client_in m (config m (after m h us)) k).decisions

  -- a decision record that the client has begun since
  abbrev pub IsLater : ℕ → Entry → Type 0
  IsLater k d = (tag_of d.body ≡ 2) × (last k < d.head.number)

  pub none_put : (k : ℕ) (x : Put (after m h us).packets k) → tag_of x.entry.body ≡ 2 → last k < x.entry.head.number → ⊥
  none_put k x tag less = let le = (((spent_at m h zs reach us vs begins).of k).below x).decision tag in omega (arith, le, less)

  pub none_held : (k : ℕ) (b : Append) → Holds m (client_in m (config m (after m h us)) k) b → tag_of b.draft.body ≡ 2 → last k < b.draft.head.number → ⊥
  none_held k b o tag less = let le = (((spent_at m h zs reach us vs begins).of k).bounds b o).0 tag in omega (arith, le, less)

  module _ (safe : TrimsWereSafe m h zs) (p : ℕ) (e : Entry) (has : HasEntry m (after m h zs) p e) (since : IsLater e.head.client e) where
    abbrev pub page_there : List ℕ
    page_there = later.page_there m h zs reach us vs begins 2 last none_put none_held safe p e has since

    pub page_settled : IsSettled m (after m h zs) p (Data page_there)
    page_settled = later.page_settled m h zs reach us vs begins 2 last none_put none_held safe p e has since

    pub page_new : IsNewAfter m (after m h us) (after m h zs) p page_there
    page_new = later.page_new m h zs reach us vs begins 2 last none_put none_held safe p e has since
