-- An entry of the log is the draft of a token with its links, if they fit the format.
use Rattle.std.proofs.Common.{◌≡◌, ℕ, List, [], ◌∷◌, true, refl, sym, ap, ◌∙◌, subst, inl, inr, Option, Some, None}
use Rattle.tg_base.specs.Clusters.{Header}
use Rattle.tg_base.specs.declared.cell.Cell.{Cell}
use Rattle.tg_base.specs.declared.cell.Cell.TheVariants.{Junk, Data}
use Rattle.tg_codec.proofs.Wholes.{whole_only}
use Rattle.tg_entry.specs.declared.entry.Entry.{Entry}
use Rattle.tg_entry.specs.Format.{entry}
use Rattle.tg_entry.proofs.Laws.{entry_law}
use Rattle.tg_kind.specs.Meaning.{Meaning}
use Rattle.tg_entry.specs.Records.{linked}
use Rattle.tg_protocol.specs.Pages.{page_of, entry_of, if_read, entry_in}
use Rattle.tg_protocol.specs.Logs.{Log, entries_of}
use Rattle.tg_protocol.specs.Views.{entry_if}
use Rattle.tg_protocol.specs.Worlds.{log}
use Rattle.tg_protocol.specs.Runs.{Moves, Always}
use Rattle.tg_law_layouts.specs.Moves.After.{after}
use Rattle.tg_law_layouts.proofs.Moves.Always.{always}
use Rattle.tg_law_layouts.proofs.Moves.Members.{Has, has_contained}
use Rattle.tg_law_layouts.proofs.Moves.Lists.{contained}
use Rattle.tg_law_cells.specs.Tokens.Entries.{LogEntriesLinked}
use Rattle.tg_law_cells.proofs.Tokens.Archive.{log_own}

pub some_entry : (a b : Entry) → Some a ≡ Some b → a ≡ b
some_entry a b e = cc

-- the page of an entry that a log has
pub record PageOf (l : Log) (p : ℕ) (e : Entry) : Type 0 where
  pub page : List ℕ
  pub here : Has l (p, Data page)
  pub reads : entry_of page ≡ Some e

page_later : (x : ℕ × Cell) (l : Log) (p : ℕ) (e : Entry) → PageOf l p e → PageOf (x ∷ l) p e
page_later x l p e k = record { page = k.page; here = inr k.here; reads = k.reads }

pub page_in : (l : Log) (p : ℕ) (e : Entry) → Has (entries_of l) (p, e) → PageOf l p e
unfolding entries_of
page_in [] p e i = absurd i
page_in (x ∷ l) p e i = by x.1 refl i (λ j. page_in l p e j)
  where
    pair : (c : Cell) → x.1 ≡ c → p ≡ x.0 → (p, c) ≡ x
    pair c s t = λ k. (t k, sym s k)

    data_in : (d : List ℕ) → x.1 ≡ Data d → (o : Option Entry) → entry_of d ≡ o → Has (entry_if x.0 o (entries_of l)) (p, e) → (Has (entries_of l) (p, e) → PageOf l p e) → PageOf (x ∷ l) p e
    data_in d s None r j rest = page_later x l p e (rest j)
    data_in d s (Some f) r (inl g) rest = record { page = d; here = inl (pair (Data d) s (ap (λ (y : ℕ × Entry). y.0) g)); reads = r ∙ ap (λ (y : ℕ × Entry). Some y.1) (sym g) }
    data_in d s (Some f) r (inr j) rest = page_later x l p e (rest j)

    by : (c : Cell) → x.1 ≡ c → Has (entry_if x.0 (entry_in x.1) (entries_of l)) (p, e) → (Has (entries_of l) (p, e) → PageOf l p e) → PageOf (x ∷ l) p e
    by Junk s j rest = page_later x l p e (rest (none_in s j))
      where
        none_in : x.1 ≡ Junk → Has (entry_if x.0 (entry_in x.1) (entries_of l)) (p, e) → Has (entries_of l) (p, e)
        none_in s j = subst (λ (c : Cell). Has (entry_if x.0 (entry_in c) (entries_of l)) (p, e)) s j
    by (Data d) s j rest = data_in d s (entry_of d) refl (subst (λ (c : Cell). Has (entry_if x.0 (entry_in c) (entries_of l)) (p, e)) s j) rest

-- what is spelled is read back
pub read_back : (x : Entry) (d : List ℕ) → entry.fits x ≡ true → d ≡ page_of x → entry_of d ≡ Some x
unfolding entry_of page_of
read_back x d fits e = ap if_read (whole_only entry_law.exact d x (fits, e))

module _ (m : Meaning) where
  linked_here : (h : Header) (ms : Moves m) → LogEntriesLinked m (after m h ms)
  linked_here h ms p e i =
      let k = page_in (log m (after m h ms)) p e (has_contained _ (p, e) i) in
      let t = log_own m h ms p k.page (contained _ (p, Data k.page) k.here) in
      record {
        node = t.node;
        epoch = t.epoch;
        page = k.page;
        own = t.own;
        is = λ fits. some_entry e (linked t.own.draft t.own.links) (sym k.reads ∙ read_back (linked t.own.draft t.own.links) k.page fits t.own.is);
      }

  pub log_entries_are_linked : Always m (LogEntriesLinked m)
  log_entries_are_linked = always m (LogEntriesLinked m) linked_here
