-- Cells that are settled stay so while a stream is walked.
use Rattle.std.proofs.Common.{ℕ, ◌≤◌, List, refl, sym, subst}
use Rattle.tg_base.specs.declared.cell.Cell.{Cell}
use Rattle.tg_protocol.specs.Requests.{Next, Goes, Learns, Ends}
use Rattle.tg_protocol.specs.Walking.{Walk, Members}
use Rattle.tg_client_cells.specs.Known.{IsSettled}
use Rattle.tg_client_cells.specs.Walks.{ReadsFrom, Leaves, ThenLeaves, OverSettled, ThenSettled, KeepsSettled}
use Rattle.tg_client_cells.proofs.Settling.{back_settled}
use Rattle.tg_client_cells.proofs.Leaving.{leaves_below}

same-walk : (w : Walk) → ReadsFrom w.lo w.job → Leaves w.lo w.cells w
same-walk w h = record { lo = refl; job = h; cells = refl }

over : (own : List ℕ) (s lo : ℕ) (old : List (ℕ × Cell)) (w : Walk) → s ≤ lo → IsSettled own s old → Leaves lo old w → OverSettled own s w
over own s lo old w le h l = record {
  from = subst (λ n. s ≤ n) (sym l.lo) le;
  job = subst (λ n. ReadsFrom n w.job) (sym l.lo) l.job;
  cells = back_settled own s lo old w.cells le l.cells h;
}

over-then : (own : List ℕ) (s lo : ℕ) (old : List (ℕ × Cell)) (x : Next Walk Members) → s ≤ lo → IsSettled own s old → ThenLeaves lo old x → ThenSettled own s x
over-then own s lo old (Goes w) le h l = over own s lo old w le h l
over-then own s lo old (Learns w) le h l = over own s lo old w le h l
over-then own s lo old (Ends x) le h l = back_settled own s lo old x.cells le l h

pub keeps_settled : KeepsSettled
keeps_settled = record {
  starts = λ p o lasts lo cells next own s le h. over-then own s lo cells _ le h (leaves_below.starts p o lasts lo cells next);
  feeds = λ p w unit x next own s h. over-then own s w.lo w.cells _ h.from h.cells (leaves_below.feeds p w unit x next w.lo w.cells (same-walk w h.job));
  resumes = λ p w next own s h. over-then own s w.lo w.cells _ h.from h.cells (leaves_below.resumes p w next w.lo w.cells (same-walk w h.job));
}
