-- Where a step ends a client's append at a position, a page is settled there in the world before the step.
use Rattle.std.proofs.Common.{◌≡◌, ◌⊎◌, ℕ, List, [], ◌++◌, sym, ap, ◌∙◌, subst, inl, inr, Some, append-nil}
use Rattle.tg_base.specs.Clusters.{Header}
use Rattle.tg_base.specs.declared.cell.Cell.TheVariants.{Data}
use Rattle.tg_kind.specs.Meaning.{Meaning}
use Rattle.tg_model.specs.Kinds.{EventOf}
use Rattle.tg_protocol.specs.Cells.{Place, place_in, Done}
use Rattle.tg_protocol.specs.Appending.{AppendWork, Putting, Judging, Append, At}
use Rattle.tg_protocol.specs.Clients.{Appending, Doing, Client}
use Rattle.tg_protocol.specs.Holding.{append_by}
use Rattle.tg_protocol.specs.Worlds.{World, client}
use Rattle.tg_protocol.specs.Runs.{Moves, Reaches}
use Rattle.tg_law_layouts.specs.Moves.After.{after}
use Rattle.tg_law_layouts.proofs.Layouts.Deciding.{layouts_are_known}
use Rattle.tg_law_cells.specs.Cells.Settled.{IsSettled}
use Rattle.tg_law_cells.proofs.Cells.Justified.{EndOk}
use Rattle.tg_law_cells.proofs.Cells.Jobs.{JobOk, AppendOk}
use Rattle.tg_law_replies.specs.Replies.Ended.{ended_in}
use Rattle.tg_law_replies.proofs.Books.Records.{in_hand}
use Rattle.tg_law_walks.proofs.Drafts.Became.{Holds}
use Rattle.tg_law_walks.proofs.Once.Along.{spent_at}
use Rattle.tg_law_walks.proofs.Once.Ending.{ended_so}
use Rattle.tg_law_walks.proofs.Once.Feeding as feeding
use Rattle.tg_law_walks.proofs.Once.Reached.{ends_settle, append_ok}

-- a page is settled there
abbrev pub HasPage : (m : Meaning) → World m → ℕ → Type 0
HasPage m w p = (page : List ℕ) × IsSettled m w p (Data page)

module _ (m : Meaning) (h : Header) (xs : Moves m) (reach : Reaches m h xs (after m h xs)) (k : ℕ) where
  whole : xs ≡ xs ++ []
  whole = sym (append-nil xs)

  module _ (a : Append) (o : Holds m (client m (after m h xs) k) a) where
    abbrev c : Client m
    c = client m (after m h xs) k

    page_there : o.work.hand ≡ Doing (Appending a o.purpose) → (p : ℕ) (d : List ℕ) → feeding.Lands (after m h xs).packets a p d → HasPage m (after m h xs) p
    page_there doing p d l = (l.of.page, settled)
      where
        -- the machine stands in the client's layout
        job : (a.work ≡ Putting l.job) ⊎ (a.work ≡ Judging l.job) → JobOk (after m h xs).packets c.stand l.job
        job (inl is) = subst (λ (z : AppendWork). AppendOk (after m h xs).packets c.stand z) is (append_ok m h xs reach xs [] whole k a o doing)
        job (inr is) = subst (λ (z : AppendWork). AppendOk (after m h xs).packets c.stand z) is (append_ok m h xs reach xs [] whole k a o doing)

        place : l.job.place ≡ place_in c.stand p
        place = (job l.works).place ∙ ap (λ (n : ℕ). place_in c.stand n) (l.pos ∙ sym l.at)

        settled : IsSettled m (after m h xs) p (Data l.of.page)
        settled = ends_settle m h xs reach xs [] whole c.stand ((layouts_are_known m h xs (after m h xs) reach).clients k) p (Data l.of.page) (subst (λ (z : Place). EndOk (after m h xs).packets z (Done (Data l.of.page))) place l.told)

  pub ends_settled : (e : EventOf m) (a : Append) (p : ℕ) (d : List ℕ) → append_by m (client m (after m h xs) k).work ≡ Some a → ended_in m (after m h xs) e k ≡ Some (At p d) → HasPage m (after m h xs) p
  ends_settled e a p d has is =
      let f = ended_so m h xs reach xs [] whole k a o (((spent_at m h xs reach xs [] whole).of k).tokens a o) e (At p d) is in
      page_there a o f.doing p d f.so
    where
      o : Holds m (client m (after m h xs) k) a
      o = let y = in_hand m (client m (after m h xs) k) a has in record { work = y.work; purpose = y.purpose; has = y.works; holds = y.task }
