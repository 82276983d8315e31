-- What is told of rescues and of the past is so, and so is what is written.
use Rattle.std.proofs.Common.{◌≡◌, ℕ, [], true, false, refl, sym, ap, ◌∙◌, subst, Some, Contains, List}
use Rattle.tg_base.specs.Clusters.{Header}
use Rattle.tg_entry.specs.declared.entry.Entry.{Entry}
use Rattle.tg_kind.specs.Meaning.{Meaning}
use Rattle.tg_model.specs.Kinds.{DoneOf}
use Rattle.tg_model.specs.declared.trace.What.TheVariants as told
use Rattle.tg_model.specs.Stores.{has_stamp, is_stamp}
use Rattle.tg_protocol.specs.Views.{Entries}
use Rattle.tg_protocol.specs.Logs.{history_of, history_after, done_at, version}
use Rattle.tg_protocol.specs.Worlds.{World, history, start}
use Rattle.tg_protocol.specs.Alike.{RescueTrue, PastTrue}
use Rattle.tg_law_replies.specs.Plays.Sound.{IsRising}
use Rattle.tg_law_replies.specs.History.Logs.{commits, AreListed, state_below}
use Rattle.tg_law_replies.specs.History.Worlds.{entries_in}
use Rattle.tg_law_replies.proofs.History.Members.{Has, has_contained, same_number, number_same, passes_somewhere, none_passes, contrary}
use Rattle.tg_law_replies.proofs.History.Ledger.{one_entry}
use Rattle.tg_law_replies.proofs.History.Versions.{commits_at}
use Rattle.tg_law_replies.proofs.History.History.{Made, has_made, made_has}
use Rattle.tg_law_replies.proofs.History.Cells.{logs_rise, outcomes_are}
use Rattle.tg_law_replies.specs.Replies.Laws.{RunsTellTruth, ClientsFind, TellsSo, WritesTruth, RunsWriteTruth}
use Rattle.tg_law_replies.proofs.Replies.Steps.{IsRightWorld}
use Rattle.tg_law_replies.proofs.Replies.Telling.{true_reply, IsKeptWorld, RightAndKept, of_right, found_kept, tells_outcomes}
use Rattle.tg_base.specs.declared.ids.Oid.{Oid}
use Rattle.tg_entry.specs.declared.entry.Body.{Body}
use Rattle.tg_protocol.specs.Runs.{Moves, Reaches}
use Rattle.tg_protocol.specs.Holding.{EntriesOwn}
use Rattle.tg_law_replies.specs.Replies.Ended.{AppendsEnd}
use Rattle.tg_law_replies.proofs.Replies.Moves.{TrueBody, TrueDraft}
use Rattle.tg_law_replies.proofs.Replies.Along.{Along, at_end}
use Rattle.tg_law_replies.proofs.Replies.Runs.{Right}
use Rattle.tg_law_replies.specs.Views.Exact.{AreWriting}
use Rattle.tg_law_replies.proofs.Pages.Read.{logs_keep_grammar}
use Rattle.tg_law_replies.proofs.Replies.Found.{was_begun}

-- A committed record stands in the history, and no other does.

module _ (m : Meaning) (es : Entries) (rising : IsRising es) where
  stamped : (p : ℕ) (e : Entry) → Contains es (p, e) → commits m [] es p e ≡ true → is_stamp m (history_after m [] es) p ≡ true
  stamped p e i c =
      passes_somewhere (has_stamp m p) (history_after m [] es) (done_at m p e) (made_has m [] 0 es p e rising (has_contained es (p, e) i) (commits_at m [] es rising p e ∙ c)) (number_same p p refl)

  unstamped : (p : ℕ) (e : Entry) → Contains es (p, e) → commits m [] es p e ≡ false → is_stamp m (history_after m [] es) p ≡ false
  unstamped p e i c = none_passes (has_stamp m p) (history_after m [] es) none
    where
      none : (d : DoneOf m) → Has (history_after m [] es) d → has_stamp m p d ≡ true → ⊥
      none d j passes =
          let k : Made m [] es d = has_made m [] 0 es d rising j in
          let at : k.at ≡ p = sym (ap (λ (x : DoneOf m). x.stamp) k.is) ∙ same_number d.stamp p passes in
          let same = one_entry 0 es p k.entry e rising (subst (λ (n : ℕ). Has es (n, k.entry)) at k.here) (has_contained es (p, e) i) in
          contrary (commits m [] es p e) c
          (subst (λ (x : Entry). commits m [] es p x ≡ true) same (subst (λ (n : ℕ). commits m [] es n k.entry ≡ true) at (sym (commits_at m [] es rising k.at k.entry) ∙ k.commit)))

module _ (m : Meaning) (h : Header) (w : World m) (listed : AreListed (entries_in m w)) (right : IsRightWorld m h.objects (entries_in m w) (logs_rise m w) listed w)
    (kept : IsKeptWorld m h.objects (entries_in m w) (logs_rise m w) listed w) where
  rescues_true : RescueTrue m w
  unfolding history history_of
  rescues_true = record {
    yes_told = λ t p i is. let r = (true_reply m h w listed right kept t (told.Rescued p (Some true)) i is refl).0 in stamped m (entries_in m w) (logs_rise m w) p r.entry r.here r.outcome;
    no_told = λ t p i is. let r = (true_reply m h w listed right kept t (told.Rescued p (Some false)) i is refl).0 in
        ((outcomes_are m w h.objects p false r).0, unstamped m (entries_in m w) (logs_rise m w) p r.entry r.here r.outcome);
    recorded = λ t p b e i is j needs. let r = (true_reply m h w listed right kept t (told.Rescued p (Some b)) i is refl).1 e j needs in
        record { at = r.at; entry = r.entry; is_yes = r.is_yes; here = r.here; decides = r.is };
  }

-- What a run tells.

module _ (m : Meaning) (h : Header) (ms : Moves m) (w : World m) (r : Reaches m h ms w) (listed : AreListed (entries_in m w)) (writing : AreWriting (entries_in m w)) (finds : ClientsFind m h ms w) (ends : AppendsEnd m h ms w) where
  abbrev es : Entries
  es = entries_in m w

  rising : IsRising es
  rising = logs_rise m w

  both : Along m (RightAndKept m h (entries_in m w) (logs_rise m w) listed) ms (start m h)
  both = found_kept m h ms w listed writing r finds ends

  all : Along m (Right m h (entries_in m w) (logs_rise m w) listed) ms (start m h)
  all = of_right m h es (logs_rise m w) listed ms (start m h) both

  right : IsRightWorld m h.objects (entries_in m w) (logs_rise m w) listed w
  right = subst (λ (u : World m). Right m h es (logs_rise m w) listed u) (sym r.goes.is) (at_end m (Right m h es (logs_rise m w) listed) ms (start m h) all)

  kept : IsKeptWorld m h.objects (entries_in m w) (logs_rise m w) listed w
  kept = subst (λ (u : World m). IsKeptWorld m h.objects es (logs_rise m w) listed u) (sym r.goes.is) (at_end m (RightAndKept m h es (logs_rise m w) listed) ms (start m h) both).1

  past_true : PastTrue m w
  unfolding history history_of
  past_true t o q p a i is =
      true_reply m h w listed right kept t (told.Past o q p a) i is refl
      ∙ ap (λ (os : List Oid). m.answers (state_below m os (entries_in m w) p o) q) (sym right.objects_are)

  tells_so : TellsSo m w
  tells_so = record { past = past_true; rescues = rescues_true m h w listed right kept; outcomes = tells_outcomes m h w listed right kept }

  -- The log's decision records and checkpoints.

  writes_truth : EntriesOwn m h ms w → WritesTruth m w
  unfolding version history history_of
  writes_truth own = record {
    decisions = λ at p e b i is. outcomes_are m w h.objects p b (subst (λ (x : Body). TrueBody m h.objects es (logs_rise m w) listed x) is (entry_true at e i).0);
    checkpoints = λ p e o u v whole keys state i format is.
        let c = subst (λ (x : Body). TrueBody m h.objects es (logs_rise m w) listed x) is (entry_true p e i).0 in
        record {
          saved = c.saved ∙ ap (λ (os : List Oid). m.save (state_below m os es u o)) (sym right.objects_are);
          version_all = c.version_all;
          parts = c.parts;
        };
  }
    where
      entry_true : (p : ℕ) (e : Entry) → Contains (entries_in m w) (p, e) → TrueDraft m h.objects (entries_in m w) (logs_rise m w) listed e
      entry_true p e i = was_begun m h (entries_in m w) (logs_rise m w) listed writing ms all e (own p e i)

pub runs_tell_truth : (m : Meaning) → RunsTellTruth m
runs_tell_truth m h ms w r finds ends = let g = logs_keep_grammar m w in tells_so m h ms w r g.0 g.1 finds ends

pub runs_write_truth : (m : Meaning) → RunsWriteTruth m
runs_write_truth m h ms w r finds ends own = let g = logs_keep_grammar m w in writes_truth m h ms w r g.0 g.1 finds ends own
