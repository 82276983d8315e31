-- The laws on the order of transactions and of replies.
use Rattle.std.proofs.Common.{◌≡◌, ◌≤◌, ℕ, ◌<◌, ◌∷◌, ◌++◌, sym, subst, Some}
use Rattle.std.specs.Prelude.{Contains}
use Rattle.tg_base.specs.Clusters.{Header}
use Rattle.tg_kind.specs.Meaning.{Meaning}
use Rattle.tg_model.specs.declared.trace.What.TheVariants as told
use Rattle.tg_model.specs.Kinds.{MarkOf}
use Rattle.tg_model.specs.Traces.{Trace, point_of}
use Rattle.tg_protocol.specs.Worlds.{World, trace}
use Rattle.tg_protocol.specs.Runs.{Moves, Reaches}
use Rattle.tg_law_walks.specs.Lists.Spared.{TrimsWereSpare}
use Rattle.tg_law_cells.specs.Places.Order.{IsPlace}
use Rattle.tg_law_headline.proofs.Points.Points.{replies_precede_places}
use Rattle.tg_law_headline.specs.Spans.Begun.{NotBegun}
use Rattle.tg_law_headline.proofs.Spans.Beginnings.{begins_are_apart}
use Rattle.tg_law_headline.proofs.Spans.Places.{places_are_new}
use Rattle.tg_law_headline.proofs.Spans.Records.{records_are_new}
use Rattle.tg_law_headline.specs.Ordered.Orders.{OrderBySpareTrims, RecordsOrderBySpareTrims}

module _ (m : Meaning) where
  -- what is new after each world in which a transaction wasn't begun doesn't precede a reply that came before its begin
  module _ (h : Header) (ms : Moves m) (w : World m) (r : Reaches m h ms w) (trims : TrimsWereSpare m h ms) (earlier rest : Trace m) (b reply : MarkOf m) (p n : ℕ) (is : trace m w ≡ earlier ++ b ∷ rest) (begins : b.what ≡ told.Begin)
      (some : 0 < b.tx) (here : Contains earlier reply) (point : point_of m (trace m w) reply ≡ Some p) where
    precedes : ((x : NotBegun m h ms earlier b.client b.tx) → IsPlace m x.at w n) → p ≤ n
    precedes place =
        let x = begins_are_apart m h ms w r earlier rest b is begins some in
        replies_precede_places m h ms x.at w r trims x.passed reply p n (subst (λ (us : Trace m). Contains us reply) (sym x.traced) here) point (place x)

  pub runs_are_in_order : OrderBySpareTrims m
  runs_are_in_order h ms w r trims earlier rest b reply p n is begins some here point place =
      precedes h ms w r trims earlier rest b reply p n is begins some here point (λ x. places_are_new m h ms x.at w r x.passed trims.safe b.client b.tx n x.since place)

  pub records_are_in_order : RecordsOrderBySpareTrims m
  records_are_in_order h ms w r trims = record {
    places = runs_are_in_order h ms w r trims;
    records = λ earlier rest b reply p n is begins some here point stands.
        precedes h ms w r trims earlier rest b reply p n is begins some here point (λ x. records_are_new m h ms x.at w r x.passed trims.safe b.client b.tx n x.since stands);
  }
