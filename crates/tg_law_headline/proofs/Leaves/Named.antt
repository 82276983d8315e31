-- Where the walks of a client end, it has its number still.
use Rattle.std.proofs.Common.{◌≡◌, ℕ, Bool, true, false, Some, None, Option}
use Rattle.tg_base.specs.Clusters.{Header}
use Rattle.tg_base.specs.Layouts.{Layout}
use Rattle.tg_base.specs.declared.cell.Cell.{Cell}
use Rattle.tg_kind.specs.Meaning.{Meaning}
use Rattle.tg_model.specs.Kinds.{EventOf}
use Rattle.tg_protocol.specs.Requests.{Next, Goes, Learns, Ends}
use Rattle.tg_protocol.specs.Walking.{Walk, Members, walk_feed}
use Rattle.tg_protocol.specs.Clients.{Task, Syncing, Walking, Appending, Trimming, Copying', Reconfiguring, Work, Client}
use Rattle.tg_protocol.specs.ClientSteps.{knows, given_up_if, task_in}
use Rattle.tg_protocol.specs.Walked.{Walked, walked_in}
use Rattle.tg_protocol.specs.Worlds.{start, client}
use Rattle.tg_protocol.specs.Runs.{Moves, run}
use Rattle.tg_law_layouts.proofs.Moves.Moves.{run_keeps}
use Rattle.tg_law_layouts.proofs.Layouts.Decisions.{Pax, pax_keep}
use Rattle.tg_law_layouts.proofs.Layouts.Layouts.{start_pax}
use Rattle.tg_law_replies.proofs.Replies.Carried.{WalksBy}
use Rattle.tg_law_headline.proofs.Leaves.Walks.{MetBy}
use Rattle.tg_law_headline.proofs.Leaves.Ended.{Stays, TaskTells, stays_there}

module _ (m : Meaning) (k : ℕ) where
  abbrev Any : Layout → ℕ → Type 0
  Any p b = Unit {0}

  abbrev Numbered : Client m → Work m → Type 0
  Numbered c w = c.num ≡ k

  stays : Stays m Any Numbered
  stays = record {
    turned = λ c w n g i. i;
    taken = λ c w o x f i. i;
    known = λ c w s t ls lo i. known c s i;
    given = λ c w b i. given c b i;
    over = λ c w i. i;
    stood = λ c w q less i. i;
  }
    where
      known : (c : Client m) (s : Option (ℕ × Cell)) → c.num ≡ k → (knows m c s).num ≡ k
      known c None i = i
      known c (Some s) i = i

      given : (c : Client m) (b : Bool) → c.num ≡ k → (given_up_if m b c).num ≡ k
      given c true i = i
      given c false i = i

  walks : (c : Client m) (w : Work m) (t : Task m) → c.num ≡ k → WalksBy m Numbered c w t
  walks c w (Syncing s) i = i
  walks c w (Walking v os) i = i
  walks c w (Appending a y) i = tt
  walks c w (Trimming t) i = tt
  walks c w (Copying' y) i = tt
  walks c w (Reconfiguring r) i = tt

  any_met : (p : Layout) (to : Next Walk Members) → MetBy (Any p) to
  any_met p (Goes w) = tt
  any_met p (Learns w) = tt
  any_met p (Ends x) = λ b is. tt

  tells : (c : Client m) (t : Task m) (n : ℕ) (x : _) → TaskTells m Any Numbered c t n x
  tells c (Walking v os) n x = any_met c.stand (walk_feed c.stand v v.job n x c.next).to
  tells c (Syncing s) n x = tt
  tells c (Appending a y) n x = tt
  tells c (Trimming t) n x = tt
  tells c (Copying' y) n x = tt
  tells c (Reconfiguring r) n x = tt

module _ (m : Meaning) (h : Header) (xs : Moves m) where
  -- each client has the number of its place
  pub numbered : (k : ℕ) → (client m (run m xs (start m h)) k).num ≡ k
  numbered k = (run_keeps m (Pax m) (pax_keep m) xs (start m h) (start_pax m h)).num k

  pub walked_number : (e : EventOf m) (k : ℕ) (y : Walked m) → walked_in m (run m xs (start m h)) e k ≡ Some y → y.client.num ≡ k
  walked_number e k y is =
      stays_there m (Any m k) (Numbered m k) (stays m k) (run m xs (start m h)) k (λ v works. walks m k (client m (run m xs (start m h)) k) v (task_in m v.hand) (numbered k))
      (λ x sent to w t works hand awaited. tells m k (client m (run m xs (start m h)) k) t x.from.num _) e y is
