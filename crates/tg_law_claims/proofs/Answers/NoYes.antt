-- Where a client that has walked tells that an outcome is unsure, no decision record that it has says yes for the record that it names.
use Rattle.std.proofs.Common.{◌≡◌, ℕ, List, [], ◌∷◌, Bool, true, sym, ap, ◌∙◌, subst, inl, inr, Option, Some, None}
use Rattle.tg_entry.specs.declared.entry.Entry.{Entry}
use Rattle.tg_kind.specs.Meaning.{Meaning}
use Rattle.tg_model.specs.declared.command.Command.TheVariants as cmd
use Rattle.tg_model.specs.declared.trace.What.TheVariants as told
use Rattle.tg_model.specs.Kinds.{WhatOf, NoteOf}
use Rattle.tg_protocol.specs.Answers.{Moved, appends, syncs, own_view, play_target, walked}
use Rattle.tg_protocol.specs.Appending.{append_start}
use Rattle.tg_protocol.specs.Clients.{Purpose, Work, Client, all_entries}
use Rattle.tg_protocol.specs.Past.{commit_at}
use Rattle.tg_protocol.specs.Syncing.{sync_start}
use Rattle.tg_protocol.specs.Views.{Entries, View, Verdict, Commits, Aborts, by_decision, verdict, decision_in}
use Rattle.tg_law_replies.proofs.History.Members.{Has}
use Rattle.tg_law_steps.proofs.Places.{Place}
use Rattle.tg_law_steps.proofs.Ways.{AllWalked, HasPlayed}
use Rattle.tg_law_steps.proofs.Ends.{Judges, Commit', Abort', CannotJudge, NoRecord, NoVerdict, NoVersion, NoChange, End, GoesOn, LearnsNewer, Syncs, Appends, Refuses, Answers, Tells, IsAppended, MarkBegins, IsAnswered, DecidedAt, DecidedLost, JudgedSo, JudgedLost, EndBlocked, EndUnsure, EndJudged, IsTold, IsRescued, IsMarked, PlaysOther}
use Rattle.tg_law_steps.proofs.Along.{Answered, AnsweredBy, walked_is}
use Rattle.tg_law_claims.proofs.Causes.Stalling.{verdict_there, blocked_there}

module _ (m : Meaning) where
  -- a decision record that says yes makes a record commit
  yes_commits : (v : View m) (es : Entries) (p : ℕ) (e : Entry) → decision_in es p ≡ Some true → verdict m v es p e ≡ Commits
  unfolding verdict
  yes_commits v es p e is = ap (λ (d : Option Bool). by_decision m v e p d) is

  no_yes : (v : View m) (es : Entries) (p : ℕ) (e : Entry) → verdict m v es p e ≡ Aborts → decision_in es p ≡ Some true → ⊥
  no_yes v es p e aborts is = differ (sym (yes_commits v es p e is) ∙ aborts)
    where
      differ : ◌≡◌ {A = Verdict} Commits Aborts → ⊥
      differ z = cc

  none_yes : (d : Option Bool) → d ≡ None → d ≡ Some true → ⊥
  none_yes d none is = differ (sym none ∙ is)
    where
      differ : ◌≡◌ {A = Option Bool} None (Some true) → ⊥
      differ z = cc

-- A client that has walked, whose own record is among its entries where its command is `end`.
module _ (m : Meaning) (c : Client m) (w : Work m) (own_there : w.command ≡ cmd.End → commit_at (all_entries m c w c.hosted) w.at ≡ None → ⊥) where
  abbrev own : Entries
  own = all_entries m c w c.hosted

  abbrev pub Ok : WhatOf m → Type 0
  Ok (told.Unsure at p) = (w.command ≡ cmd.End) × (decision_in (all_entries m c w c.hosted) p ≡ Some true → ⊥)
  Ok what = Unit {0}

  abbrev pub EachOk : List (NoteOf m) → Type 0
  EachOk [] = Unit {0}
  EachOk (n ∷ ns) = Ok n.what × EachOk ns

  pub each_has : (ns : List (NoteOf m)) (n : NoteOf m) → EachOk ns → Has ns n → Ok n.what
  each_has [] n k i = absurd i
  each_has (x ∷ ns) n k (inl e) = subst (λ (y : NoteOf m). Ok y.what) (sym e) k.0
  each_has (x ∷ ns) n k (inr i) = each_has ns n k.1 i

  judges_ok : (es : Entries) (v : View m) (p : ℕ) (e : Entry) (so : Bool) (what : WhatOf m) → Judges m es v p e so what → Ok what
  judges_ok es v p e _ _ (Commit' k) = tt
  judges_ok es v p e _ _ (Abort' x k u i) = tt

  unclear : (v : View m) → w.command ≡ cmd.End → CannotJudge m (all_entries m c w c.hosted) v w.at → decision_in (all_entries m c w c.hosted) w.at ≡ Some true → ⊥
  unclear v ending (NoRecord none) = λ yes. own_there ending none
  unclear v ending (NoVerdict e o at is) = none_yes m (decision_in own w.at) (verdict_there m own v w.at e o at is).1
  unclear v ending (NoVersion e o at says known) = no_yes m v own w.at e says
  unclear v ending (NoChange e at says known same) = no_yes m v own w.at e says

  appended_ok : (d : Client m) (p : Place m) (f : Client m) (e : Entry) (y : Purpose m) (ns : List (NoteOf m)) → IsAppended m d w p f e y ns → EachOk ns
  appended_ok d _ _ _ _ _ (MarkBegins es p t o n of is may) = (tt, (tt, (tt, tt)))
  appended_ok d _ _ _ _ _ x = tt

  answered_ok : (d : Client m) (p : Place m) (f : Client m) (n : ℕ) (what : WhatOf m) → IsAnswered m d w p f n what → AllWalked m c w d p → Ok what
  answered_ok _ _ _ _ _ (EndBlocked es p q x ending is) (HasPlayed k) =
      (ending, none_yes m (decision_in own q) (blocked_there m own (own_view m c w own) (play_target m w w.command) q x is).undecided)
  answered_ok _ _ _ _ _ (EndUnsure es p t ending is j) (HasPlayed k) = (ending, unclear _ ending j)
  answered_ok d _ _ _ _ (EndJudged es p t e so what ending is at k l) h = judges_ok es p.view w.at e so what k
  answered_ok _ _ _ _ _ (DecidedAt x bs p page other) h = elim h [ ]
  answered_ok _ _ _ _ _ (DecidedLost x bs e l other) h = elim h [ ]
  answered_ok _ _ _ _ _ (JudgedSo x bs p page of) h = elim h [ ]
  answered_ok _ _ _ _ _ (JudgedLost x bs e l of) h = elim h [ ]
  answered_ok _ _ _ _ _ x h = tt

  told_ok : (d : Client m) (p : Place m) (f : Client m) (ns : List (NoteOf m)) → IsTold m d w p f ns → AllWalked m c w d p → EachOk ns
  told_ok _ _ _ _ (IsRescued x bs p page) h = elim h [ ]
  told_ok _ _ _ _ (IsMarked n o mark bs p page) h = elim h [ ]
  told_ok _ _ _ _ (PlaysOther es p k) h = tt
  told_ok _ _ _ _ x h = (tt, tt)

  ends_ok : (d : Client m) (p : Place m) (x : Moved m) → End m d w p x → AllWalked m c w d p → EachOk x.notes
  unfolding appends append_start syncs sync_start
  ends_ok d p _ (GoesOn f t bs x) h = tt
  ends_ok d p _ (LearnsNewer t x) h = tt
  ends_ok d p _ (Syncs f u os x) h = tt
  ends_ok d p _ (Appends f e y ns x) h = appended_ok d p f e y ns x
  ends_ok d p _ (Refuses f n why x) h = (tt, tt)
  ends_ok d p _ (Answers f n what x) h = (answered_ok d p f n what x h, tt)
  ends_ok d p _ (Tells f ns x) h = told_ok d p f ns x h

  pub walked_ok : EachOk (walked m c w).notes
  walked_ok = by (walked m c w) (walked_is m c w)
    where
      by : (x : Moved m) → Answered m c w x → EachOk x.notes
      by _ (AnsweredBy d p x at e) = ends_ok d p x e at
