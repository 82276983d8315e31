-- The new entries suffice for a view that has come so far.
use Rattle.std.proofs.Common.{◌≡◌, ℕ, ◌≤◌, Bool, true, false, not, ◌&&◌, Option, Some, None, refl, ap, ◌∙◌}
use Rattle.std.proofs.lemmas.Bool.{leb-true}
use Rattle.std.specs.Prelude.{is_some}
use Rattle.tg_base.specs.declared.ids.Oid.{Oid}
use Rattle.tg_entry.specs.declared.entry.Entry.{Entry}
use Rattle.tg_kind.specs.Meaning.{Meaning}
use Rattle.tg_model.specs.Kinds.{CommandOf}
use Rattle.tg_model.specs.declared.command.Command.TheVariants as cmd
use Rattle.tg_model.specs.declared.play.PlayEnd.{PlayEnd}
use Rattle.tg_model.specs.declared.play.PlayEnd.TheVariants.{Played, Blocked}
use Rattle.tg_entry.specs.Needs.{needs_decision, reads_of}
use Rattle.tg_protocol.specs.Past.{commit_at}
use Rattle.tg_protocol.specs.Versions.{Changed}
use Rattle.tg_protocol.specs.Views.{Entries, View, Play, Verdict, Commits, Aborts, Unknown, verdict, unknown_in, changed_in, play}
use Rattle.tg_protocol.specs.Clients.{Client, Work}
use Rattle.tg_protocol.specs.Answers.{lacks_decision, aborted, end_decided, end_aborted, end_no, end_by, end_record, on_end, answer_by, view_or_new, own_view, with_view, play_target, played_on, plays_own}
use Rattle.tg_model.specs.declared.trace.What.TheVariants as what
use Rattle.tg_client_cells.specs.Words.{entries_from}
use Rattle.tg_client_cells.specs.Rules.{PlaysNew}
use Rattle.tg_client_answers.specs.Playing.{goes_by_new, plays_from}

module _ (m : Meaning) (es : Entries) (s : ℕ) (same : PlaysNew m es s) (c : Client m) (w : Work m) where
  abbrev fs : Entries
  fs = entries_from s es

  lacks_same : (p : ℕ) (e : Entry) → lacks_decision m fs p e ≡ lacks_decision m es p e
  lacks_same p e = ap (λ (d : Option Bool). needs_decision e && not (is_some d)) (same.decisions p)

  aborted_same : (d : Client m) (e : Entry) (p : ℕ) (x : Option Changed) → end_aborted m d w fs e p x ≡ end_aborted m d w es e p x
  aborted_same d e p None = refl
  aborted_same d e p (Some x) = ap (λ (b : Bool). end_decided m b d w e p false (aborted m p x)) (lacks_same p e)

  no_same : (d : Client m) (v : View m) (e : Entry) (p : ℕ) (u : Option Oid) → end_no m d w fs v e p u ≡ end_no m d w es v e p u
  no_same d v e p None = aborted_same d e p (changed_in m v (reads_of e) p)
  no_same d v e p (Some o) = refl

  by_same : (d : Client m) (v : View m) (e : Entry) (p : ℕ) (x : Verdict) → end_by m d w fs v e p x ≡ end_by m d w es v e p x
  by_same d v e p Commits = ap (λ (b : Bool). end_decided m b d w e p true (what.Committed p)) (lacks_same p e)
  by_same d v e p Aborts = no_same d v e p (unknown_in m v (reads_of e) p)
  by_same d v e p (Unknown o) = refl

  record_same : (d : Client m) (v : View m) (p : ℕ) (x : Option Entry) → end_record m d w fs v p x ≡ end_record m d w es v p x
  record_same d v p None = refl
  record_same d v p (Some e) = by_same d v e p (verdict m v fs p e) ∙ ap (λ (x : Verdict). end_by m d w es v e p x) (same.verdicts v p e)

  end_same : (d : Client m) (v : View m) (came : PlayEnd) → s ≤ w.at → on_end m d w fs v came ≡ on_end m d w es v came
  end_same d v (Played t) h = ap (λ (x : Option Entry). end_record m d w fs v w.at x) (same.commits w.at h) ∙ record_same d v w.at (commit_at es w.at)
  end_same d v (Blocked q x) h = refl

  answer_same : (d : Client m) (p : Play m) (x : CommandOf m) → goes_by_new m x w.at s ≡ true → answer_by m d w fs p x ≡ answer_by m d w es p x
  answer_same d p (cmd.Ask o q) h = refl
  answer_same d p cmd.End h = end_same d p.view p.came (leb-true _ _ h)
  answer_same d p (cmd.Checkpoint o) h = refl
  answer_same d p cmd.Trim h = refl
  answer_same d p x h = absurd (cc)

  play_same : (u : Option (View m)) (target : ℕ) → plays_from m u s ≡ true → play m (view_or_new m c w fs u) fs target ≡ play m (view_or_new m c w es u) es target
  play_same None target h = absurd (cc)
  play_same (Some v) target h = same.plays v target (leb-true _ _ h)

  pub plays_same : plays_from m c.view s ≡ true → goes_by_new m w.command w.at s ≡ true → plays_own m c w fs ≡ plays_own m c w es
  plays_same hv hc =
      ap (λ (p : Play m). played_on m c w fs p) (play_same c.view (play_target m w w.command) hv)
      ∙ answer_same (with_view m c (play m (own_view m c w es) es (play_target m w w.command)).view) (play m (own_view m c w es) es (play_target m w w.command)) w.command hc
