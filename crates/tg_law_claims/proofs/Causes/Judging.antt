-- Where a transaction's record is among its client's entries, and a decision record says no: a read has changed, or is unknown.
use Rattle.std.proofs.Common.{◌≡◌, ◌⊎◌, ℕ, [], ◌∷◌, ◌++◌, Bool, true, false, refl, sym, ap, ◌∙◌, subst, inl, inr, Option, Some, None}
use Rattle.tg_base.specs.Clusters.{Header}
use Rattle.tg_base.specs.declared.cell.Cell.{Cell}
use Rattle.tg_base.specs.declared.ids.Oid.{Oid}
use Rattle.tg_entry.specs.Needs.{reads_of}
use Rattle.tg_entry.specs.declared.entry.Entry.{Entry}
use Rattle.tg_kind.specs.Meaning.{Meaning}
use Rattle.tg_model.specs.Kinds.{CommandOf, EventOf}
use Rattle.tg_model.specs.declared.command.Command.TheVariants as cmd
use Rattle.tg_model.specs.declared.play.PlayEnd.TheVariants.{Played}
use Rattle.tg_protocol.specs.Versions.{Changed}
use Rattle.tg_protocol.specs.Views.{Entries, View, Commits, Aborts, decision_in, unknown_in, changed_in, by_changes, by_versions, verdict}
use Rattle.tg_protocol.specs.Checkpoints.{view_bases}
use Rattle.tg_protocol.specs.Past.{commit_at}
use Rattle.tg_protocol.specs.Clients.{Work, Client}
use Rattle.tg_protocol.specs.Answers.{play_target, view_or_new}
use Rattle.tg_protocol.specs.ClientSteps.{task_in, knows, given_up_if}
use Rattle.tg_protocol.specs.Walked.{Walked, walked_in}
use Rattle.tg_protocol.specs.Worlds.{World, start, client}
use Rattle.tg_protocol.specs.Runs.{Moves, Takes, Reaches}
use Rattle.tg_law_layouts.specs.Moves.After.{after}
use Rattle.tg_law_replies.specs.History.Logs.{commits, HasOutcome}
use Rattle.tg_law_replies.specs.History.Worlds.{entries_in}
use Rattle.tg_law_replies.specs.Views.Views.{IsTrueView, AreTrueDecisions}
use Rattle.tg_law_replies.specs.Replies.Ended.{AppendsEnd}
use Rattle.tg_law_replies.specs.Replies.Found.{mine, target}
use Rattle.tg_law_replies.specs.Replies.Laws.{ClientsFind}
use Rattle.tg_law_replies.specs.Replies.Steps.{EachEvent}
use Rattle.tg_law_replies.proofs.History.Cells.{logs_rise}
use Rattle.tg_law_replies.proofs.History.Ledger.{one_entry}
use Rattle.tg_law_replies.proofs.History.Members.{has_contained, contained_has}
use Rattle.tg_law_replies.proofs.Pages.Read.{logs_keep_grammar}
use Rattle.tg_law_replies.proofs.Replies.Along.{Along, moved_by, passed}
use Rattle.tg_law_replies.proofs.Replies.Carried.{Carries, carried_by, carried}
use Rattle.tg_law_replies.proofs.Replies.Found.{each_ready}
use Rattle.tg_law_replies.proofs.Replies.Ready.{IsReady, IsReadyToPlay, Ready, view_of, played}
use Rattle.tg_law_replies.proofs.Replies.Telling.{RightAndKept, of_right, found_kept}
use Rattle.tg_law_replies.proofs.Views.Plays.{verdicts_true, plays_true, played_stands, starts_true}
use Rattle.tg_law_replies.proofs.Views.Records.{commit_there}
use Rattle.tg_law_claims.proofs.Causes.EndsGive.{ends_give}

-- The kept view is given up, or stays through the walks of a step.
module _ (m : Meaning) (w : World m) (k : ℕ) where
  abbrev pub SameView : Client m → Work m → Type 0
  SameView c v = (c.view ≡ (client m w k).view) ⊎ (c.view ≡ None)

  carries : Carries m SameView
  carries = record {
    turned = λ c v n g i. i;
    taken = λ c v o x i. i;
    known = λ c v s t ls lo i. known c v s i;
    given = λ c v b i. given c v b i;
    over = λ c v i. i;
    again = λ c v i. i;
    stood = λ c v q i. i;
  }
    where
      known : (c : Client m) (v : Work m) (s : Option (ℕ × Cell)) → SameView c v → SameView (knows m c s) v
      known c v None i = i
      known c v (Some s) i = i

      given : (c : Client m) (v : Work m) (b : Bool) → SameView c v → SameView (given_up_if m b c) v
      given c v true i = inr refl
      given c v false i = i

  pub view_waits : (e : EventOf m) (y : Walked m) → walked_in m w e k ≡ Some y → SameView y.client y.work
  view_waits e y is = carried m SameView carries w e k y (λ v works. carried_by m SameView carries (client m w k) v (task_in m v.hand) (inl refl)) is

-- known reads that haven't changed commit a record, as far as no decision record is looked at
unchanged_commits : (m : Meaning) (v : View m) (p : ℕ) (d : Entry) → unknown_in m v (reads_of d) p ≡ None → changed_in m v (reads_of d) p ≡ None → verdict m v [] p d ≡ Commits
unfolding verdict decision_in
unchanged_commits m v p d known same = ap (λ (o : Option Oid). by_versions m v (reads_of d) p o) known ∙ ap (λ (x : Option Changed). by_changes m x) same

nothing_decides : (p : ℕ) (b : Bool) → decision_in [] p ≡ Some b → ⊥
unfolding decision_in
nothing_decides p b is = cc

module _ (m : Meaning) (h : Header) (ms : Moves m) (e : EventOf m) (r : Reaches m h (ms ++ Takes e ∷ []) (after m h (ms ++ Takes e ∷ []))) (finds : ClientsFind m h (ms ++ Takes e ∷ []) (after m h (ms ++ Takes e ∷ [])))
    (ends : AppendsEnd m h (ms ++ Takes e ∷ []) (after m h (ms ++ Takes e ∷ []))) where
  abbrev end : World m
  end = after m h (ms ++ Takes e ∷ [])

  abbrev es : Entries
  es = entries_in m (after m h (ms ++ Takes e ∷ []))

  abbrev Right : World m → Type 0
  Right u = RightAndKept m h (entries_in m (after m h (ms ++ Takes e ∷ []))) (logs_rise m (after m h (ms ++ Takes e ∷ []))) (logs_keep_grammar m (after m h (ms ++ Takes e ∷ []))).0 u

  all_right : Along m Right (ms ++ Takes e ∷ []) (start m h)
  all_right = found_kept m h (ms ++ Takes e ∷ []) (after m h (ms ++ Takes e ∷ [])) (logs_keep_grammar m (after m h (ms ++ Takes e ∷ []))).0 (logs_keep_grammar m (after m h (ms ++ Takes e ∷ []))).1 r finds ends

  prefix : (Q : World m → Type 0) (before after' : Moves m) (w : World m) → Along m Q (before ++ after') w → Along m Q before w
  prefix Q [] [] w k = k
  prefix Q [] (x ∷ rest) w k = k.0
  prefix Q (x ∷ before) rest w k = (k.0, prefix Q before rest (moved_by m x w) k.1)

  pub now : Right (after m h ms)
  now = passed m Right ms (Takes e ∷ []) (start m h) all_right

  each : EachEvent m h.objects (entries_in m (after m h (ms ++ Takes e ∷ []))) (Ready m h.objects (entries_in m (after m h (ms ++ Takes e ∷ [])))) (after m h ms) e
  each = each_ready m h es (logs_rise m end) (logs_keep_grammar m end).0 (logs_keep_grammar m end).1 (ms ++ Takes e ∷ []) finds ms [] e refl
      (of_right m h es (logs_rise m end) (logs_keep_grammar m end).0 ms (start m h) (prefix Right ms (Takes e ∷ []) (start m h) all_right)) now.2

  module _ (k : ℕ) (y : Walked m) (walked : walked_in m (after m h ms) e k ≡ Some y) (ending : y.work.command ≡ cmd.End) where
    ready : IsReadyToPlay m h.objects es y.client y.work
    ready = subst (λ (x : CommandOf m). IsReady m h.objects es y.client y.work x) ending (ends_give m h.objects es (Ready m h.objects es) (after m h ms) k e y each walked)

    viewed : (v : View m) → y.client.view ≡ Some v → IsTrueView m h.objects es v
    viewed v is = by (view_waits m (after m h ms) k e y walked)
      where
        none_some : None ≡ Some v → ⊥
        none_some z = cc

        by : (y.client.view ≡ (client m (after m h ms) k).view) ⊎ (y.client.view ≡ None) → IsTrueView m h.objects es v
        by (inl same) = ((now.0.clients k).view v (sym same ∙ is)).so
        by (inr none) = absurd (none_some (sym none ∙ is))

    begins : IsTrueView m h.objects es (view_of m h.objects es y.client y.work)
    begins = by y.client.view refl
      where
        by : (o : Option (View m)) → y.client.view ≡ o → IsTrueView m h.objects es (view_or_new m y.client y.work (mine m y.client y.work) o)
        by None is = starts_true m h.objects es (view_bases m (mine m y.client y.work) y.work.trims y.client.objects y.client.hosted) (logs_rise m end) (ready.bases is)
        by (Some v) is = viewed v is

    abbrev seen : View m
    seen = (played m h.objects es y.client y.work).view

    so : IsTrueView m h.objects es (played m h.objects es y.client y.work).view
    so = plays_true m h.objects es (mine m y.client y.work) (view_of m h.objects es y.client y.work) (target m y.work) (logs_rise m end) (logs_keep_grammar m end).0 ready.decisions ready.entries begins

    one_outcome : (p : ℕ) → HasOutcome m h.objects es p true → HasOutcome m h.objects es p false → ⊥
    one_outcome p a b =
        let same = one_entry 0 es p a.entry b.entry (logs_rise m end) (has_contained es (p, a.entry) a.here) (has_contained es (p, b.entry) b.here) in
        contrary (sym a.outcome ∙ (ap (λ (d : Entry). commits m h.objects es p d) same ∙ b.outcome))
      where
        contrary : true ≡ false → ⊥
        contrary z = cc

    -- a record that its client has isn't decided no where all reads are known and none has changed
    pub never_unchanged : (t : ℕ) (d : Entry) → (played m h.objects es y.client y.work).came ≡ Played t → commit_at (mine m y.client y.work) y.work.at ≡ Some d → verdict m seen (mine m y.client y.work) y.work.at d ≡ Aborts
        → unknown_in m seen (reads_of d) y.work.at ≡ None → changed_in m seen (reads_of d) y.work.at ≡ None → ⊥
    never_unchanged t d came here aborts known same =
        let g = commit_there m (mine m y.client y.work) y.work.at d here in
        let there = ready.entries.only y.work.at d (contained_has (mine m y.client y.work) (y.work.at, d) g.0) in
        one_outcome y.work.at
        ((verdicts_true m h.objects es [] seen y.work.at d (logs_rise m end) no_decisions so there g.1 (λ a b q i x is le. stands)).0 (unchanged_commits m seen y.work.at d known same))
        ((verdicts_true m h.objects es (mine m y.client y.work) seen y.work.at d (logs_rise m end) ready.decisions so there g.1 (λ a b q i x is le. stands)).1 aborts)
      where
        stands : seen.upto ≡ y.work.at
        stands = played_stands m (mine m y.client y.work) (target m y.work) t (view_of m h.objects es y.client y.work) ready.low came ∙ ap (λ (x : CommandOf m). play_target m y.work x) ending

        no_decisions : AreTrueDecisions m h.objects es []
        no_decisions p b is = absurd (nothing_decides p b is)
