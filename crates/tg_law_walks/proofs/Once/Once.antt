-- The laws on entries: each stands once.
use Rattle.std.proofs.Common.{◌≡◌, ◌⊎◌, ℕ, List, sym, ap, ◌∙◌, subst, inl, inr}
use Rattle.tg_base.specs.Clusters.{Header}
use Rattle.tg_base.specs.declared.cell.Cell.TheVariants.{Data}
use Rattle.tg_entry.specs.declared.entry.Entry.{Entry}
use Rattle.tg_kind.specs.Meaning.{Meaning}
use Rattle.tg_protocol.specs.Words.{client_id}
use Rattle.tg_protocol.specs.Worlds.{World, log}
use Rattle.tg_protocol.specs.Runs.{Moves, Reaches, Always}
use Rattle.tg_protocol.specs.Alike.{HasEntry}
use Rattle.tg_protocol.specs.Holding.{EntriesOnce}
use Rattle.tg_law_layouts.specs.Moves.After.{after}
use Rattle.tg_law_layouts.specs.Moves.Configs.{config, client_in}
use Rattle.tg_law_layouts.proofs.Moves.Lists.{contained}
use Rattle.tg_law_layouts.proofs.Moves.Members.{Has, has_contained}
use Rattle.tg_law_cells.proofs.Tokens.Linked.{page_in}
use Rattle.tg_law_cells.specs.Entries.Archive.{TrimsWereSafe, AlwaysBySafeTrims}
use Rattle.tg_law_walks.proofs.Drafts.Senders.{sender}
use Rattle.tg_law_walks.proofs.Drafts.Drafts.{sourced}
use Rattle.tg_law_walks.specs.Once.GivenUp.{IsGivenUp, HasPut, OnePosition}
use Rattle.tg_law_walks.proofs.Once.Nowhere.{reached, log_has_no_given_up}
use Rattle.tg_law_walks.proofs.Once.Reached.{header, give, short}
use Rattle.tg_law_walks.proofs.Once.Spending.{Put, SpentOf}
use Rattle.tg_law_walks.proofs.Once.Along.{spent}

module _ (m : Meaning) (h : Header) (zs : Moves m) (reach : Reaches m h zs (after m h zs)) where
  abbrev w : World m
  w = after m h zs

  spent_of : (k : ℕ) → SpentOf m w w.packets k (client_in m (config m w) k)
  spent_of k = (spent m h zs reach).of k

  abbrev put_of : (k e p : ℕ) (d : List ℕ) (y : Entry) → HasPut m w k e p d y → Put w.packets k
  put_of k e p d y x = record { packet = x.packet; sent = has_contained w.packets x.packet x.sent; from = x.from; epoch = e; pos = p; page = d; is = x.is; entry = y; reads = x.reads }

  pub one_here : OnePosition m w
  one_here k e f p q c d a b x y tag number = (spent_of k).pairs (put_of k e p c a x) (put_of k f q d b y) tag number

  -- An entry of the log stands with a page that its client has put, and hasn't given up.

  pub record Stands (p : ℕ) (e : Entry) : Type 0 where
    pub epoch : ℕ
    pub page : List ℕ
    pub here : Has (log m w) (p, Data page)
    pub put : HasPut m w e.head.client epoch p page e
    pub kept : IsGivenUp m w epoch p page → ⊥

  -- this page
  abbrev pub put_there : (k p : ℕ) (e : Entry) → Stands p e → e.head.client ≡ k → Put w.packets k
  put_there k p e z same = record { packet = z.put.packet; sent = has_contained w.packets z.put.packet z.put.sent; from = z.put.from ∙ ap client_id same; epoch = z.epoch; pos = p; page = z.page; is = z.put.is; entry = e; reads = z.put.reads }

  pub stands : TrimsWereSafe m h zs → (p : ℕ) (e : Entry) → HasEntry m w p e → Stands p e
  stands safe p e i =
      let k = page_in (log m w) p e (has_contained _ (p, e) i) in
      let l = log_has_no_given_up m h zs w reach safe p k.page (contained (log m w) (p, Data k.page) k.here) in
      let home = l.1.home in
      let sent = has_contained w.packets home.write home.sent in
      let from = sender m h zs home.write sent home.epoch p k.page home.is in
      let s = sourced m h zs (header m h zs reach) (give m h zs reach) (short m h zs reach) p e home.write home.write.from.num home.epoch k.page sent from home.is k.reads in
      record {
        epoch = home.epoch;
        page = k.page;
        here = k.here;
        put = record { packet = home.write; sent = home.sent; from = from ∙ ap client_id s.2; is = home.is; reads = k.reads };
        kept = l.1.kept;
      }

  pub once_here : TrimsWereSafe m h zs → EntriesOnce m w
  once_here safe p q e f i j same tag number = by (one_here e.head.client x.epoch y.epoch p q x.page y.page e f x.put (subst (λ (n : ℕ). HasPut m w n y.epoch q y.page f) (sym same) y.put) tag number)
    where
      x : Stands p e
      x = stands safe p e i

      y : Stands q f
      y = stands safe q f j

      by : IsGivenUp m w x.epoch p x.page ⊎ (IsGivenUp m w y.epoch q y.page ⊎ (p ≡ q)) → p ≡ q
      by (inl a) = absurd (x.kept a)
      by (inr (inl a)) = absurd (y.kept a)
      by (inr (inr a)) = a

module _ (m : Meaning) where
  pub pages_have_one_position : Always m (OnePosition m)
  pages_have_one_position h ms v r = subst (OnePosition m) (sym r.goes.is) (one_here m h ms (reached m h ms v r))

  pub entries_stand_once : AlwaysBySafeTrims m (EntriesOnce m)
  entries_stand_once h ms v r safe = subst (EntriesOnce m) (sym r.goes.is) (once_here m h ms (reached m h ms v r) safe)
