-- The stamps of a history are positions of entries, which rise.
use Rattle.std.proofs.Common.{◌≡◌, ℕ, ◌+◌, ◌<◌, List, [], ◌∷◌, Bool, true, false, arith}
use Rattle.tg_kind.specs.Meaning.{Meaning}
use Rattle.tg_model.specs.Kinds.{DoneOf}
use Rattle.tg_model.specs.Stores.{AllAbove, Rises}
use Rattle.tg_protocol.specs.Versions.{PartVersion}
use Rattle.tg_protocol.specs.Views.{Entries}
use Rattle.tg_protocol.specs.Logs.{commits_after, changes_after, done_at, done_if, history_after, history_of}
use Rattle.tg_protocol.specs.Worlds.{history}
use Rattle.tg_law_replies.specs.Plays.Sound.{rise_from}
use Rattle.tg_law_replies.specs.History.Worlds.{entries_in}
use Rattle.tg_law_replies.proofs.History.Cells.{logs_rise}
use Rattle.tg_law_replies.proofs.History.Ledger.{rises_next}
use Rattle.tg_law_headline.specs.Ordered.Orders.{HistoriesRise}

module _ (m : Meaning) where
  above : (d : DoneOf m) (ns : List PartVersion) (r : ℕ) (es : Entries) → d.stamp < r → rise_from r es ≡ true → AllAbove m d (history_after m ns es)
  above d ns r [] less rise = tt
  above d ns r (x ∷ es) less rise =
      let n = rises_next r x es rise in
      let a = n.0 in
      by (commits_after m ns x.1) (omega (arith, less, a)) (above d (changes_after m ns x.0 x.1) (x.0 + 1) es (omega (arith, less, a)) n.1)
    where
      by : (b : Bool) → d.stamp < x.0 → AllAbove m d (history_after m (changes_after m ns x.0 x.1) es) → AllAbove m d (done_if m b x.0 x.1 (history_after m (changes_after m ns x.0 x.1) es))
      by true here later = (here, later)
      by false here later = later

  rises : (ns : List PartVersion) (r : ℕ) (es : Entries) → rise_from r es ≡ true → Rises m (history_after m ns es)
  rises ns r [] rise = tt
  rises ns r (x ∷ es) rise =
      let later = (rises_next r x es rise).1 in
      by (commits_after m ns x.1) (above (done_at m x.0 x.1) (changes_after m ns x.0 x.1) (x.0 + 1) es (omega arith) later) (rises (changes_after m ns x.0 x.1) (x.0 + 1) es later)
    where
      by : (b : Bool) → AllAbove m (done_at m x.0 x.1) (history_after m (changes_after m ns x.0 x.1) es) → Rises m (history_after m (changes_after m ns x.0 x.1) es)
          → Rises m (done_if m b x.0 x.1 (history_after m (changes_after m ns x.0 x.1) es))
      by true here later = (here, later)
      by false here later = later

  pub histories_rise : HistoriesRise m
  unfolding history history_of
  histories_rise w = rises [] 0 (entries_in m w) (logs_rise m w)
