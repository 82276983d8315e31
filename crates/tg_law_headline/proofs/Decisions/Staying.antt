-- What has its decision record has it in each later world, and by each later epoch.
use Rattle.std.proofs.Common.{ℕ, ◌≤◌, ◌∷◌, ◌++◌, refl, sym, ap, ◌∙◌, subst, arith, Option}
use Rattle.tg_base.specs.Clusters.{Header}
use Rattle.tg_base.specs.declared.cell.Cell.{Cell}
use Rattle.tg_base.specs.declared.cell.Cell.TheVariants.{Data}
use Rattle.tg_entry.specs.declared.entry.Entry.{Entry}
use Rattle.tg_kind.specs.Meaning.{Meaning}
use Rattle.tg_protocol.specs.Alike.{HasEntry}
use Rattle.tg_protocol.specs.Logs.{entries_of}
use Rattle.tg_protocol.specs.Pages.{cell_entry}
use Rattle.tg_protocol.specs.Runs.{Moves, Takes, Reaches}
use Rattle.tg_protocol.specs.Worlds.{World, log}
use Rattle.tg_law_layouts.specs.Moves.After.{after}
use Rattle.tg_law_layouts.proofs.Moves.Lists.{contained}
use Rattle.tg_law_layouts.proofs.Moves.Members.{has_contained}
use Rattle.tg_law_cells.proofs.Tokens.Linked.{page_in}
use Rattle.tg_law_cells.specs.Entries.Archive.{TrimsWereSafe, EachLaterBySafeTrims}
use Rattle.tg_law_cells.proofs.Entries.Archive.{log_is_settled}
use Rattle.tg_law_cells.proofs.Entries.Lists.{joined}
use Rattle.tg_law_replies.proofs.History.Members.{contained_has}
use Rattle.tg_law_walks.proofs.Walks.Cells.{there_entry}
use Rattle.tg_law_walks.proofs.Walks.Reading.{reaches_later}
use Rattle.tg_law_walks.specs.Lists.Spared.{WasSettled}
use Rattle.tg_law_walks.proofs.Lists.Ends.{cell_of}
use Rattle.tg_law_walks.proofs.Lists.Reached.{before_reached}
use Rattle.tg_law_syncs.proofs.Syncs.Later.{late}
use Rattle.tg_law_headline.specs.Decisions.Decisions.{DecisionsStay}

module _ (m : Meaning) (h : Header) (xs ys : Moves m) (r : Reaches m h (xs ++ ys) (after m h (xs ++ ys))) (safe : TrimsWereSafe m h (xs ++ ys)) where
  early : TrimsWereSafe m h xs
  early before e later at = safe before e (later ++ ys) (ap (λ (ms : Moves m). ms ++ ys) at ∙ joined before (Takes e ∷ later) ys)

  reached : Reaches m h xs (after m h xs)
  reached = before_reached m h (xs ++ ys) r xs ys refl

  pub entry_stays : (p : ℕ) (e : Entry) → HasEntry m (after m h xs) p e → HasEntry m (after m h (xs ++ ys)) p e
  entry_stays p e i =
      let k = page_in (log m (after m h xs)) p e (has_contained (entries_of (log m (after m h xs))) (p, e) i) in
      let s = (log_is_settled m h xs (after m h xs) reached early).settled p (Data k.page) (contained (log m (after m h xs)) (p, Data k.page) k.here) in
      let c = cell_of m h (xs ++ ys) r safe p (Data k.page) (late m h (xs ++ ys) r xs ys refl p (Data k.page) s) in
      contained_has (entries_of (log m (after m h (xs ++ ys)))) (p, e) (there_entry (log m (after m h (xs ++ ys))) p e (ap (λ (y : Option Cell). cell_entry y) c ∙ k.reads))

  settled_stays : (last later p : ℕ) → last ≤ later → WasSettled m (after m h xs) last p → WasSettled m (after m h (xs ++ ys)) later p
  settled_stays last later p le s = record { cell = s.cell; settled = late m h (xs ++ ys) r xs ys refl p s.cell s.settled; in_time = (let a = s.in_time in omega (arith, a, le)) }

  stays_here : DecisionsStay m (after m h xs) (after m h (xs ++ ys))
  stays_here last later p e le d = record {
    at = d.at;
    decision = d.decision;
    here = entry_stays d.at d.decision d.here;
    above = d.above;
    settled = settled_stays last later d.at le d.settled;
    is_yes = d.is_yes;
    says = d.says;
    streams = d.streams;
  }

module _ (m : Meaning) where
  pub decided_stays : EachLaterBySafeTrims m (DecisionsStay m)
  decided_stays h ms w v r l safe =
      let on : Reaches m h (ms ++ l.0) v = reaches_later m h ms w v r l in
      subst (λ (u : World m). DecisionsStay m u v) (sym r.goes.is)
      (subst (λ (u : World m). DecisionsStay m (after m h ms) u) (sym on.goes.is) (stays_here m h ms l.0 (subst (Reaches m h (ms ++ l.0)) on.goes.is on) safe))
