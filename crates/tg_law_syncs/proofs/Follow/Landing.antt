-- An append that ends stands where it says, where those of checkpoints do.
use Rattle.std.proofs.Common.{◌≡◌, ◌⊎◌, ℕ, List, [], ◌∷◌, ◌++◌, true, refl, sym, ap, ◌∙◌, subst, inl, inr, Option, Some, None}
use Rattle.std.specs.Prelude.{Contains}
use Rattle.tg_base.specs.Clusters.{Header}
use Rattle.tg_base.specs.declared.cell.Cell.{Cell}
use Rattle.tg_base.specs.declared.cell.Cell.TheVariants.{Data}
use Rattle.tg_base.specs.declared.marks.StreamLink.{StreamLink}
use Rattle.tg_base.specs.declared.packet.Packet.{Packet}
use Rattle.tg_entry.specs.declared.entry.Entry.{Entry}
use Rattle.tg_entry.specs.Format as format
use Rattle.tg_entry.specs.Records.{linked}
use Rattle.tg_append.proofs.Pages.{linked_fits}
use Rattle.tg_kind.specs.Meaning.{Meaning}
use Rattle.tg_protocol.specs.Pages.{entry_of, entry_in}
use Rattle.tg_protocol.specs.Cells.{Place, place_in, Done}
use Rattle.tg_protocol.specs.Appending.{AppendWork, Putting, Judging, Append, AppendEnd, At, Full, Forgotten}
use Rattle.tg_protocol.specs.Logs.{Log, entries_of}
use Rattle.tg_protocol.specs.Views.{entry_if}
use Rattle.tg_protocol.specs.Clients.{Appending, Doing, Client}
use Rattle.tg_protocol.specs.Worlds.{World, client, log}
use Rattle.tg_protocol.specs.Runs.{Moves, Takes, Reaches}
use Rattle.tg_law_layouts.specs.Moves.After.{after}
use Rattle.tg_law_layouts.proofs.Moves.Lists.{contained}
use Rattle.tg_law_layouts.proofs.Moves.Members.{Has, has_contained}
use Rattle.tg_law_layouts.proofs.Layouts.Deciding.{layouts_are_known}
use Rattle.tg_law_cells.specs.Cells.Settled.{IsSettled}
use Rattle.tg_law_cells.proofs.Cells.Justified.{EndOk}
use Rattle.tg_law_cells.proofs.Cells.Jobs.{JobOk, AppendOk}
use Rattle.tg_law_cells.proofs.Tokens.Linked.{read_back}
use Rattle.tg_law_cells.specs.Entries.Archive.{TrimsWereSafe}
use Rattle.tg_law_cells.proofs.Entries.Archive.{log_is_settled}
use Rattle.tg_law_replies.specs.History.Worlds.{entries_in}
use Rattle.tg_law_replies.specs.Replies.Ended.{AppendsEnd, EndsSo}
use Rattle.tg_law_replies.proofs.Books.Records.{in_hand}
use Rattle.tg_law_walks.proofs.Drafts.Became.{Holds}
use Rattle.tg_law_walks.proofs.Drafts.Drafting.{Fitting, Whole, Saving}
use Rattle.tg_law_walks.proofs.Drafts.Written.{draft_in}
use Rattle.tg_law_walks.proofs.Once.Along.{spent_at}
use Rattle.tg_law_walks.proofs.Once.Ending.{ended_so, appends_end}
use Rattle.tg_law_walks.proofs.Once.Feeding as feeding
use Rattle.tg_law_walks.proofs.Once.Nowhere.{reached}
use Rattle.tg_law_walks.proofs.Once.Reached.{header, give, short, reach_at, ends_settle, append_ok}
use Rattle.tg_law_syncs.specs.Follow.Laws.{SavesEnd, AppendsEndBySpareTrims}

entry_more : (p : ℕ) (o : Option Entry) (l : List (ℕ × Entry)) (x : ℕ × Entry) → Has l x → Has (entry_if p o l) x
entry_more p None l x i = i
entry_more p (Some e) l x i = inr i

entry_has : (l : Log) (p : ℕ) (d : List ℕ) (e : Entry) → Has l (p, Data d) → entry_of d ≡ Some e → Has (entries_of l) (p, e)
unfolding entries_of
entry_has [] p d e i reads = absurd i
entry_has (x ∷ l) p d e (inl same) reads = subst (λ (y : ℕ × Cell). Has (entry_if y.0 (entry_in y.1) (entries_of l)) (p, e)) same (subst (λ (o : Option Entry). Has (entry_if p o (entries_of l)) (p, e)) (sym reads) (inl refl))
entry_has (x ∷ l) p d e (inr i) reads = entry_more x.0 (entry_in x.1) (entries_of l) (p, e) (entry_has l p d e i reads)

module _ (m : Meaning) (h : Header) (zs : Moves m) (reach : Reaches m h zs (after m h zs)) (safe : TrimsWereSafe m h zs) where
  abbrev w : World m
  w = after m h zs

  module _ (xs ys : Moves m) (split : zs ≡ xs ++ ys) (k : ℕ) (a : Append) (o : Holds m (client m (after m h xs) k) a) where
    abbrev c : Client m
    c = client m (after m h xs) k

    abbrev ps : List Packet
    ps = (after m h xs).packets

    -- a draft that fits the format
    landed : o.work.hand ≡ Doing (Appending a o.purpose) → (p : ℕ) (d : List ℕ) → (l : feeding.Lands ps a p d) → format.entry.fits a.draft ≡ true → (ls : List StreamLink) × Contains (entries_in m w) (p, linked a.draft ls)
    landed doing p d l fit =
        let drawn = ((spent_at m h zs reach xs ys split).of k).drawn a o l.of l.had in
        let fits = linked_fits a.draft drawn.0 drawn.1 fit in
        let reads = read_back (linked a.draft drawn.0) l.of.page fits drawn.2 in
        let here = (log_is_settled m h zs w reach safe).has p (Data l.of.page) settled in
        (drawn.0, contained (entries_in m w) (p, linked a.draft drawn.0) (entry_has (log m w) p l.of.page (linked a.draft drawn.0) (has_contained (log m w) (p, Data l.of.page) here) reads))
      where
        -- the machine stands in the client's layout
        job : (a.work ≡ Putting l.job) ⊎ (a.work ≡ Judging l.job) → JobOk ps c.stand l.job
        job (inl is) = subst (λ (z : AppendWork). AppendOk ps c.stand z) is (append_ok m h zs reach xs ys split k a o doing)
        job (inr is) = subst (λ (z : AppendWork). AppendOk ps c.stand z) is (append_ok m h zs reach xs ys split k a o doing)

        place : l.job.place ≡ place_in c.stand p
        place = (job l.works).place ∙ ap (λ (n : ℕ). place_in c.stand n) (l.pos ∙ sym l.at)

        settled : IsSettled m w p (Data l.of.page)
        settled = ends_settle m h zs reach xs ys split c.stand ((layouts_are_known m h xs (after m h xs) (reach_at m h zs reach xs ys split)).clients k) p (Data l.of.page) (subst (λ (z : Place). EndOk ps z (Done (Data l.of.page))) place l.told)

  appends_here : SavesEnd m h zs w → AppendsEnd m h zs w
  appends_here saves before rest e split k a x has is = by x refl
    where
      o : Holds m (client m (after m h before) k) a
      o = let y = in_hand m (client m (after m h before) k) a has in record { work = y.work; purpose = y.purpose; has = y.works; holds = y.task }

      at : (p : ℕ) (d : List ℕ) → x ≡ At p d → Fitting a.draft → EndsSo m (entries_in m w) a.draft (At p d)
      at p d same (Whole fits) =
          let f = ended_so m h zs reach before (Takes e ∷ rest) split k a o (((spent_at m h zs reach before (Takes e ∷ rest) split).of k).tokens a o) e (At p d) (is ∙ ap Some same) in
          landed before (Takes e ∷ rest) split k a o f.doing p d f.so fits
      at p d same (Saving tag twin) = saves before rest e split k p a d has (is ∙ ap Some same) tag

      by : (y : AppendEnd) → x ≡ y → EndsSo m (entries_in m w) a.draft y
      by (At p d) same = at p d same (draft_in m h zs (header m h zs reach) (give m h zs reach) (short m h zs reach) before (Takes e ∷ rest) split k a o).fits
      by (Full l) same = tt
      by (Forgotten p below) same = appends_end m h zs w reach safe before rest e split k a (Forgotten p below) has (is ∙ ap Some same)

module _ (m : Meaning) where
  pub appends_stand : AppendsEndBySpareTrims m
  appends_stand h ms v r trims = subst (λ (u : World m). SavesEnd m h ms u → AppendsEnd m h ms u) (sym r.goes.is) (appends_here m h ms (reached m h ms v r) trims.safe)
