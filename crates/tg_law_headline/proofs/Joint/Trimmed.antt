-- What a walk met a trim above was decided and settled before.
use Rattle.std.proofs.Common.{◌≡◌, ℕ, ◌∷◌, ◌++◌, refl, length, Bool, true, sym, ap, ◌∙◌, subst, arith}
use Rattle.tg_base.specs.Clusters.{Header}
use Rattle.tg_base.specs.declared.cell.Cell.TheVariants.{Data}
use Rattle.tg_base.specs.declared.ids.Oid.{Oid}
use Rattle.tg_entry.specs.Needs.{needs_decision}
use Rattle.tg_entry.specs.declared.entry.Entry.{Entry}
use Rattle.tg_kind.specs.Meaning.{Meaning}
use Rattle.tg_model.specs.Kinds.{EventOf}
use Rattle.tg_protocol.specs.Alike.{HasEntry}
use Rattle.tg_protocol.specs.Entries.{is_commit, lists}
use Rattle.tg_protocol.specs.Logs.{entries_of}
use Rattle.tg_protocol.specs.Runs.{Moves, Takes, Reaches}
use Rattle.tg_protocol.specs.Worlds.{World, log}
use Rattle.tg_law_layouts.specs.Moves.After.{after}
use Rattle.tg_law_layouts.proofs.Moves.Lists.{contained}
use Rattle.tg_law_layouts.proofs.Moves.Members.{has_contained}
use Rattle.tg_law_cells.proofs.Tokens.Linked.{PageOf, page_in}
use Rattle.tg_law_cells.proofs.Entries.Archive.{log_is_settled}
use Rattle.tg_law_cells.proofs.Entries.Lists.{joined}
use Rattle.tg_law_replies.specs.History.Worlds.{entries_in}
use Rattle.tg_law_replies.specs.History.Floors.{IsDirectory}
use Rattle.tg_law_replies.specs.Replies.Runs.{InEachStep}
use Rattle.tg_law_walks.specs.Lists.Spared.{TrimsWereSpare}
use Rattle.tg_law_walks.proofs.Lists.Reached.{before_reached}
use Rattle.tg_law_syncs.proofs.Syncs.Later.{late}
use Rattle.tg_law_syncs.proofs.Exact.Finds.{event_more}
use Rattle.tg_law_headline.specs.Leaves.Passed.{WasMet, TellsFates}
use Rattle.tg_law_headline.specs.Trims.Spare.{WereSpare}
use Rattle.tg_law_headline.specs.Trims.Floors.{HasTail, StepRests}
use Rattle.tg_law_headline.proofs.Floors.Tails.{walks_have_tails}
use Rattle.tg_law_headline.specs.Decisions.Decisions.{IsDecidedBy}
use Rattle.tg_law_headline.specs.Trimming.Trimming.{FloorTold}
use Rattle.tg_law_headline.proofs.Trimming.Meeting.{walks_meet_told_trims}
use Rattle.tg_law_headline.specs.Trimming.Decided.{IsDecidedIn, HasSettled, MetSettled}
use Rattle.tg_law_headline.specs.Joint.Joint.{JointRests, EachOwns, MetSettledWhere}
use Rattle.tg_law_headline.proofs.Joint.Lifting.{entry_stays, front_spare, step_spare}
use Rattle.tg_law_headline.proofs.Joint.Told.{told_decided}

module _ (m : Meaning) (is_object : Oid → Bool) (is_op : m.op → Bool) (d : IsDirectory m is_object is_op) (rests : JointRests m is_object) (owns : EachOwns m)
    (h : Header) (zs : Moves m) (r : Reaches m h zs (after m h zs)) (trims : TrimsWereSpare m h zs) (steps : InEachStep m h zs (λ before u e. WereSpare m h before → StepRests m is_object is_op h.objects u e)) where
  module _ (before later : Moves m) (ev : EventOf m) (split : zs ≡ before ++ Takes ev ∷ later) (n p : ℕ) (e : Entry) (o : Oid) (here : HasEntry m (after m h zs) p e) (commit : is_commit e ≡ true) (needs : needs_decision e ≡ true)
      (stands : lists e o ≡ true) (x : WasMet m h before n o p) where
    abbrev rest : Moves m
    rest = x.came.after ++ Takes ev ∷ later

    at : zs ≡ x.came.before ++ Takes x.came.event ∷ rest
    at = split ∙ (ap (λ (ms : Moves m). ms ++ Takes ev ∷ later) x.came.split ∙ joined x.came.before (Takes x.came.event ∷ x.came.after) (Takes ev ∷ later))

    rx : Reaches m h x.came.before (after m h x.came.before)
    rx = before_reached m h zs r x.came.before (Takes x.came.event ∷ rest) at

    -- the run up to a world since, in which the client had no work
    abbrev idle : Moves m
    idle = x.came.before ++ Takes x.came.event ∷ x.until

    abbrev onward : Moves m
    onward = x.since ++ Takes ev ∷ later

    idle_at : zs ≡ (x.came.before ++ Takes x.came.event ∷ x.until) ++ (x.since ++ Takes ev ∷ later)
    idle_at =
        at
        ∙ (ap (λ (ms : Moves m). x.came.before ++ Takes x.came.event ∷ (ms ++ Takes ev ∷ later)) x.rest
        ∙ (ap (λ (ms : Moves m). x.came.before ++ Takes x.came.event ∷ ms) (joined x.until x.since (Takes ev ∷ later)) ∙ sym (joined x.came.before (Takes x.came.event ∷ x.until) onward)))

    floor : FloorTold m h x.came.before x.end.client.stand.epoch x.below
    floor = walks_meet_told_trims m h x.came.before (after m h x.came.before) rx x.came.event x.client x.end x.came.walked o x.below x.met

    decided : (last : ℕ) × IsDecidedBy m (after m h x.came.before) last p e
    decided =
        told_decided m is_object is_op d rests owns h zs r trims steps p e o commit needs stands here (length x.came.before) x.came.before (Takes x.came.event ∷ rest) at (omega arith) x.end.client.stand.epoch x.below floor x.above

    settled : IsDecidedIn m (entries_in m (after m h zs)) (after m h (x.came.before ++ Takes x.came.event ∷ x.until)) p e
    settled = by decided
      where
        by : (last : ℕ) × IsDecidedBy m (after m h x.came.before) last p e → IsDecidedIn m (entries_in m (after m h zs)) (after m h (x.came.before ++ Takes x.came.event ∷ x.until)) p e
        by k = of_page (page_in (log m (after m h x.came.before)) k.1.at k.1.decision (has_contained (entries_of (log m (after m h x.came.before))) (k.1.at, k.1.decision) k.1.here))
          where
            of_page : PageOf (log m (after m h x.came.before)) k.1.at k.1.decision → IsDecidedIn m (entries_in m (after m h zs)) (after m h (x.came.before ++ Takes x.came.event ∷ x.until)) p e
            of_page g = record {
              at = k.1.at;
              decision = k.1.decision;
              here = entry_stays m h zs r x.came.before (Takes x.came.event ∷ rest) at trims.safe k.1.at k.1.decision k.1.here;
              above = k.1.above;
              is_yes = k.1.is_yes;
              says = k.1.says;
              streams = k.1.streams;
              page = g.page;
              settled = late m h idle (before_reached m h zs r idle onward idle_at) x.came.before (Takes x.came.event ∷ x.until) refl k.1.at (Data g.page) ((log_is_settled m h x.came.before (after m h x.came.before) rx (front_spare m h zs r trims x.came.before (Takes x.came.event ∷ rest) at).safe).settled k.1.at (Data g.page) (contained (log m (after m h x.came.before)) (k.1.at, Data g.page) g.here));
            }

  pub met_settled : MetSettled m h zs (after m h zs)
  met_settled before later ev split =
      event_more m h.objects (entries_in m (after m h before)) (entries_in m (after m h zs)) (HasTail m (after m h before)) (λ c x. TellsFates m x.command → HasSettled m h (entries_in m (after m h zs)) before c x)
      (λ c x has tells p e o here commit needs stands met. settled before later ev split c.num p e o here commit needs stands met) (after m h before) ev
      (walks_have_tails m h before (after m h before) ev (before_reached m h zs r before (Takes ev ∷ later) split) (step_spare m h zs r trims before later ev split))

module _ (m : Meaning) where
  pub met_settled_where : MetSettledWhere m
  met_settled_where is_object is_op d rests owns h ms w r trims steps =
      subst (λ (v : World m). MetSettled m h ms v) (sym r.goes.is) (met_settled m is_object is_op d rests owns h ms (subst (λ (v : World m). Reaches m h ms v) r.goes.is r) trims steps)
