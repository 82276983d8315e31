-- What a command tells whose streams are walked: where something stays undecided, the play was blocked, or a read is unknown; and why
-- it may not forget, or has no state of an object.
use Rattle.std.proofs.Common.{◌≡◌, ℕ, ◌<◌, ◌≤◌, List, [], ◌∷◌, Bool, true, false, refl, sym, ap, ◌∙◌, subst, inl, inr, arith, Option, Some, None}
use Rattle.std.specs.Prelude.{nat_lt, nat_le, ◌&&◌, if◌then◌else◌}
use Rattle.std.proofs.lemmas.Bool.Decides.{nat_tests}
use Rattle.tg_base.specs.declared.ids.Oid.{Oid}
use Rattle.tg_base.specs.declared.packet.Out.{Out}
use Rattle.tg_base.specs.declared.marks.ReadMark.{ReadMark}
use Rattle.tg_entry.specs.declared.entry.Entry.{Entry}
use Rattle.tg_entry.specs.Needs.{reads_of}
use Rattle.tg_kind.specs.Meaning.{Meaning}
use Rattle.tg_model.specs.declared.command.Command.TheVariants as cmd
use Rattle.tg_model.specs.declared.play.PlayEnd.{PlayEnd}
use Rattle.tg_model.specs.declared.play.PlayEnd.TheVariants.{Played, Blocked}
use Rattle.tg_model.specs.declared.refusal.Refusal.{Refusal}
use Rattle.tg_model.specs.declared.refusal.Refusal.TheVariants as cause
use Rattle.tg_model.specs.declared.trace.What.TheVariants as told
use Rattle.tg_model.specs.Kinds.{CommandOf, WhatOf, NoteOf}
use Rattle.tg_base.specs.Orders.{with_oid}
use Rattle.tg_protocol.specs.Entries.{is_commit}
use Rattle.tg_protocol.specs.Versions.{Changed}
use Rattle.tg_protocol.specs.Appending.{append_start}
use Rattle.tg_protocol.specs.Syncing.{sync_start}
use Rattle.tg_protocol.specs.Views.{Entries, View, Play, Step, On, Stuck, Verdict, Commits, Aborts, Unknown, base_of, state_of, changed_in, unknown_by, unknown_in, by_changes, by_versions, by_decision, said, fate_or_verdict, verdict, view_outcome, fate_of, decision_in, passed_over, stands_at, decided_step, record_step, entry_step, step_at, between, play_on, play_from, play}
use Rattle.tg_protocol.specs.Checkpoints.{NoCheckpoint, OpenDecision, may_forget}
use Rattle.tg_protocol.specs.Past.{commit_at, PastView, past_at, StuckAt, rescue_turn}
use Rattle.tg_protocol.specs.Clients.{Purpose, Writes, Judged, Decides, Rescues, Marks, Task, Syncing, Walking, Appending, Work, Client, all_entries, member_entries, tx_number}
use Rattle.tg_protocol.specs.Answers.{Moved, replies, refuses, answers, closed, appends, syncs, play_target, own_view, with_view, walked}
use Rattle.tg_protocol.specs.ClientSteps.{plays_kept, goes_on, learns_for, task_in}
use Rattle.tg_law_replies.proofs.History.Members.{Has}
use Rattle.tg_law_replies.proofs.Views.Records.{commit_there}
use Rattle.tg_law_replies.proofs.Views.Settled.{unknown_same}
use Rattle.tg_law_steps.proofs.Places.{Place}
use Rattle.tg_law_steps.proofs.Ways.{AllWalked, HasPlayed, LooksBack, IsRescue}
use Rattle.tg_law_steps.proofs.Ends.{Judges, Commit', Abort', CannotJudge, NoRecord, NoVerdict, NoVersion, NoChange, End, GoesOn, LearnsNewer, Syncs, Appends, Refuses, Answers, Tells, IsGoing, TrimsBegin, IsLearning, SyncLearns, IsSynced, Widens, IsAppended, EndDecides, MarkBegins, IsRefused, CopyFault, AskBlocked, AskMissing, FateBlocked, FateUnknown, DecideBlocked, DecideUnknown, SaveBlocked, ForgetBlocked, ForgetUnsaved, ForgetOpen, TrimBlocked, LooksBlocked, LooksMissing, RescueStuck, IsAnswered, DecidedAt, DecidedLost, JudgedSo, JudgedLost, EndBlocked, EndUnsure, EndJudged, IsTold, IsRescued, IsMarked, PlaysOther}
use Rattle.tg_law_steps.proofs.Along.{Answered, AnsweredBy, walked_is}

-- What isn't told of what walks found: neither of something undecided, nor why nothing may be forgotten, nor that an object isn't hosted.
module _ (m : Meaning) where
  abbrev pub Plain : WhatOf m → Type 0
  Plain (told.Refused (cause.Undecided p o)) = ⊥
  Plain (told.Refused (cause.NoCheckpoint o)) = ⊥
  Plain (told.Refused (cause.OpenDecision p)) = ⊥
  Plain (told.Refused (cause.NotHosted o)) = ⊥
  Plain (told.Unsure p q) = ⊥
  Plain what = Unit {0}

  -- what may be told in any step but at the end of walks: that an object isn't hosted is told at once, too
  abbrev pub Brief : WhatOf m → Type 0
  Brief (told.Refused (cause.Undecided p o)) = ⊥
  Brief (told.Refused (cause.NoCheckpoint o)) = ⊥
  Brief (told.Refused (cause.OpenDecision p)) = ⊥
  Brief (told.Unsure p q) = ⊥
  Brief what = Unit {0}

  pub brief_of : (what : WhatOf m) → Plain what → Brief what
  brief_of (told.Refused (cause.Undecided p o)) k = k
  brief_of (told.Refused (cause.NoCheckpoint o)) k = k
  brief_of (told.Refused (cause.OpenDecision p)) k = k
  brief_of (told.Unsure p q) k = k
  brief_of what k = tt

  abbrev pub BriefNotes : List (NoteOf m) → Type 0
  BriefNotes [] = Unit {0}
  BriefNotes (n ∷ ns) = Brief n.what × BriefNotes ns

  abbrev pub PlainNotes : List (NoteOf m) → Type 0
  PlainNotes [] = Unit {0}
  PlainNotes (n ∷ ns) = Plain n.what × PlainNotes ns

  pub brief_notes : (ns : List (NoteOf m)) → PlainNotes ns → BriefNotes ns
  brief_notes [] k = tt
  brief_notes (n ∷ ns) k = (brief_of n.what k.0, brief_notes ns k.1)

  -- an answer that waits for a decision record
  abbrev pub PlainPurpose : Purpose m → Type 0
  PlainPurpose (Decides what) = Plain what
  PlainPurpose (Rescues what) = Plain what
  PlainPurpose y = Unit {0}

  abbrev pub PlainTask : Task m → Type 0
  PlainTask (Appending a y) = PlainPurpose y
  PlainTask t = Unit {0}

  abbrev pub PlainWork : Option (Work m) → Type 0
  PlainWork None = Unit {0}
  PlainWork (Some w) = PlainTask (task_in m w.hand)

  -- an append of a commit record
  abbrev pub IsRecord : Purpose m → Type 0
  IsRecord Writes = Unit {0}
  IsRecord Judged = Unit {0}
  IsRecord (Marks n o j) = Unit {0}
  IsRecord y = ⊥

  abbrev pub DraftFits : Entry → Purpose m → Type 0
  DraftFits e y = IsRecord y → is_commit e ≡ true

  abbrev pub TaskDrafts : Task m → Type 0
  TaskDrafts (Appending a y) = DraftFits a.draft y
  TaskDrafts t = Unit {0}

  abbrev pub WorkDrafts : Option (Work m) → Type 0
  WorkDrafts None = Unit {0}
  WorkDrafts (Some w) = TaskDrafts (task_in m w.hand)

  -- only a rescue walks other streams than the client hosts
  abbrev pub widens : CommandOf m → Bool
  widens (cmd.Rescue p) = true
  widens x = false

  abbrev pub StreamsFit : List Oid → Work m → Type 0
  StreamsFit hosted w = widens w.command ≡ false → w.oids ≡ hosted

  abbrev pub TaskStreams : List Oid → Work m → Task m → Type 0
  TaskStreams hosted w (Syncing s) = StreamsFit hosted w
  TaskStreams hosted w (Walking k os) = StreamsFit hosted w
  TaskStreams hosted w t = Unit {0}

  abbrev pub WorkStreams : List Oid → Option (Work m) → Type 0
  WorkStreams hosted None = Unit {0}
  WorkStreams hosted (Some w) = TaskStreams hosted w (task_in m w.hand)

  -- a command that plays the client's kept view
  abbrev pub PlaysKept : CommandOf m → Type 0
  PlaysKept (cmd.AskAt p o q) = ⊥
  PlaysKept (cmd.Rescue p) = ⊥
  PlaysKept x = Unit {0}

  -- A commit record among entries, of which a view doesn't know a read, and the first such.
  pub record Unknowns (own : Entries) (v : View m) (p : ℕ) (o : Oid) : Type 0 where
    pub entry : Entry
    pub here : Has own (p, entry)
    pub commit : is_commit entry ≡ true
    pub read : ReadMark
    pub reads : Has (reads_of entry) read
    pub of : read.oid ≡ o
    pub unknown : unknown_by m p (base_of m v o) read ≡ true
    pub first : unknown_in m v (reads_of entry) p ≡ Some o

  pub record UnknownRead (v : View m) (rs : List ReadMark) (p : ℕ) (o : Oid) : Type 0 where
    pub read : ReadMark
    pub reads : Has rs read
    pub of : read.oid ≡ o
    pub unknown : unknown_by m p (base_of m v o) read ≡ true

  one_oid : (a b : Oid) → Some a ≡ Some b → a ≡ b
  one_oid a b e = cc

  unknown_read : (v : View m) (rs : List ReadMark) (p : ℕ) (o : Oid) → unknown_in m v rs p ≡ Some o → UnknownRead v rs p o
  unfolding unknown_in
  unknown_read v [] p o h = absurd (cc)
  unknown_read v (r ∷ rs) p o h = by (unknown_by m p (base_of m v r.oid) r) refl h (λ k. unknown_read v rs p o k)
    where
      by : (b : Bool) → unknown_by m p (base_of m v r.oid) r ≡ b → (if b then Some r.oid else unknown_in m v rs p) ≡ Some o → (unknown_in m v rs p ≡ Some o → UnknownRead v rs p o) → UnknownRead v (r ∷ rs) p o
      by true e k rest = record { read = r; reads = inl refl; of = one_oid r.oid o k; unknown = subst (λ (x : Oid). unknown_by m p (base_of m v x) r ≡ true) (one_oid r.oid o k) e }
      by false e k rest = let g = rest k in record { read = g.read; reads = inr g.reads; of = g.of; unknown = g.unknown }

  one_missing : (a b : Oid) → Unknown a ≡ Unknown b → a ≡ b
  one_missing a b e = cc

  -- a verdict that is unknown
  unknown_verdict : (v : View m) (es : Entries) (p : ℕ) (e : Entry) (o : Oid) → verdict m v es p e ≡ Unknown o → (decision_in es p ≡ None) × (unknown_in m v (reads_of e) p ≡ Some o)
  unfolding verdict
  unknown_verdict v es p e o h = by (decision_in es p) refl h
    where
      saids : (b : Bool) → said m b ≡ Unknown o → ⊥
      saids true k = absurd (cc)
      saids false k = absurd (cc)

      changes : (x : Option Changed) → by_changes m x ≡ Unknown o → ⊥
      changes None k = absurd (cc)
      changes (Some c) k = absurd (cc)

      versions : (x : Option Oid) → by_versions m v (reads_of e) p x ≡ Unknown o → x ≡ Some o
      versions None k = absurd (changes (changed_in m v (reads_of e) p) k)
      versions (Some x) k = ap (λ (y : Oid). Some y) (one_missing x o k)

      by : (d : Option Bool) → decision_in es p ≡ d → by_decision m v e p d ≡ Unknown o → (decision_in es p ≡ None) × (unknown_in m v (reads_of e) p ≡ Some o)
      by (Some b) is k = absurd (saids b k)
      by None is k = (is, versions (unknown_in m v (reads_of e) p) k)

  unknowns_of : (own : Entries) (v : View m) (p : ℕ) (e : Entry) (o : Oid) → Has own (p, e) → is_commit e ≡ true → unknown_in m v (reads_of e) p ≡ Some o → Unknowns own v p o
  unknowns_of own v p e o i c h = let g = unknown_read v (reads_of e) p o h in record { entry = e; here = i; commit = c; read = g.read; reads = g.reads; of = g.of; unknown = g.unknown; first = h }

  pub unknown_there : (own : Entries) (v : View m) (p : ℕ) (e : Entry) (o : Oid) → commit_at own p ≡ Some e → unknown_in m v (reads_of e) p ≡ Some o → Unknowns own v p o
  unknown_there own v p e o at h = let g = commit_there m own p e at in unknowns_of own v p e o g.0 g.1 h

  pub verdict_there : (own : Entries) (v : View m) (p : ℕ) (e : Entry) (o : Oid) → commit_at own p ≡ Some e → verdict m v own p e ≡ Unknown o → Unknowns own v p o × (decision_in own p ≡ None)
  verdict_there own v p e o at h = let g = unknown_verdict v own p e o h in (unknown_there own v p e o at g.1, g.0)

  pub outcome_there : (own : Entries) (v : View m) (p : ℕ) (e : Entry) (o : Oid) → commit_at own p ≡ Some e → view_outcome m v own p e ≡ Unknown o → Unknowns own v p o × (decision_in own p ≡ None)
  unfolding view_outcome
  outcome_there own v p e o at h = by (fate_of m v p) h
    where
      saids : (b : Bool) → said m b ≡ Unknown o → ⊥
      saids true k = absurd (cc)
      saids false k = absurd (cc)

      by : (b : Option Bool) → fate_or_verdict m v own p e b ≡ Unknown o → Unknowns own v p o × (decision_in own p ≡ None)
      by None k = verdict_there own v p e o at k
      by (Some b) k = absurd (saids b k)

  -- A play that is blocked.
  module _ (own : Entries) where
    pub record IsBlocked (v : View m) (upto q : ℕ) (o : Oid) : Type 0 where
      pub unknowns : Unknowns own v q o
      pub undecided : decision_in own q ≡ None
      pub below : q < upto
      pub played : passed_over m v q unknowns.entry ≡ false

    not_played : (t q : ℕ) (x : Oid) → Played t ≡ Blocked q x → ⊥
    not_played t q x e = cc

    abbrev place : PlayEnd → ℕ
    place (Played t) = t
    place (Blocked q x) = q

    same_place : (p q : ℕ) (o x : Oid) → Blocked p o ≡ Blocked q x → p ≡ q
    same_place p q o x e = ap place e

    same_object : (p q : ℕ) (o x : Oid) → Blocked p o ≡ Blocked q x → o ≡ x
    same_object p q o x e = cc

    one_stuck : (a b : Oid) → ◌≡◌ {A = Step m} (Stuck a) (Stuck b) → a ≡ b
    one_stuck a b e = cc

    stuck_by : (v : View m) (p : ℕ) (e : Entry) (o : Oid) → step_at m v own p e ≡ Stuck o → (is_commit e ≡ true) × (verdict m v own p e ≡ Unknown o) × (passed_over m v p e ≡ false)
    unfolding step_at
    stuck_by v p e o h = by (is_commit e) refl h
      where
        decided : (u : View m) (d : Verdict) → decided_step m u p e d ≡ Stuck o → d ≡ Unknown o
        decided u Commits k = absurd (cc)
        decided u Aborts k = absurd (cc)
        decided u (Unknown x) k = ap (λ (y : Oid). Unknown y) (one_stuck x o k)

        at : (u : View m) (d : Verdict) (b : Bool) → record_step m u p e d b ≡ Stuck o → (d ≡ Unknown o) × (b ≡ false)
        at u d true k = absurd (cc)
        at u d false k = (decided u d k, refl)

        by : (b : Bool) → is_commit e ≡ b → entry_step m v own p e b ≡ Stuck o → (is_commit e ≡ true) × (verdict m v own p e ≡ Unknown o) × (passed_over m v p e ≡ false)
        by true is k = let g = at _ (verdict m v own p e) (passed_over m v p e) k in (is, g.0, g.1)
        by false is k = absurd (cc)

    abbrev Inside : ℕ → ℕ × Entry → Type 0
    Inside upto y = Has own y × (y.0 < upto)

    on_blocked : (upto q : ℕ) (x : Oid) (v : View m) (xs : Entries) → ((y : ℕ × Entry) → Has xs y → Inside upto y) → (play_on m own upto v xs).came ≡ Blocked q x → IsBlocked (play_on m own upto v xs).view upto q x
    unfolding play_on
    on_blocked upto q x v [] only h = absurd (not_played upto q x h)
    on_blocked upto q x v (y ∷ xs) only h = by (step_at m v own y.0 y.1) refl h (λ w k. on_blocked upto q x w xs (λ z i. only z (inr i)) k)
      where
        stuck : (o : Oid) → step_at m v own y.0 y.1 ≡ Stuck o → Blocked y.0 o ≡ Blocked q x → IsBlocked (stands_at m v y.0) upto q x
        stuck o is k =
            let s = stuck_by v y.0 y.1 o is in
            let g = unknown_verdict v own y.0 y.1 o s.1 in
            let u = unknown_read v (reads_of y.1) y.0 o g.1 in
            subst (λ (n : ℕ). IsBlocked (stands_at m v y.0) upto n x) (same_place y.0 q o x k)
            (subst (λ (z : Oid). IsBlocked (stands_at m v y.0) upto y.0 z) (same_object y.0 q o x k)
            (record {
              unknowns = record { entry = y.1; here = (only y (inl refl)).0; commit = s.0; read = u.read; reads = u.reads; of = u.of; unknown = u.unknown; first = unknown_same m (stands_at m v y.0) v (reads_of y.1) y.0 refl ∙ g.1 };
              undecided = g.0;
              below = (only y (inl refl)).1;
              played = s.2;
            }))

        by : (s : Step m) → step_at m v own y.0 y.1 ≡ s
            → (elim s as (λ _. Play m) [
              | On w ↦ play_on m own upto w xs
              | Stuck o ↦ record { view = stands_at m v y.0; came = Blocked y.0 o }
            ]).came ≡ Blocked q x → ((w : View m) → (play_on m own upto w xs).came ≡ Blocked q x → IsBlocked (play_on m own upto w xs).view upto q x)
            → IsBlocked (elim s as (λ _. Play m) [
              | On w ↦ play_on m own upto w xs
              | Stuck o ↦ record { view = stands_at m v y.0; came = Blocked y.0 o }
            ]).view upto q x
        by (On w) is k rest = rest w k
        by (Stuck o) is k rest = stuck o is k

    among : (low high : ℕ) (es : Entries) (y : ℕ × Entry) → Has (between m low high es) y → Has es y × (y.0 < high)
    among low high [] y i = absurd i
    among low high (z ∷ es) y i = by (nat_le low z.0 && nat_lt z.0 high) refl i (λ j. among low high es y j)
      where
        inside : (nat_le low z.0 && nat_lt z.0 high) ≡ true → z.0 < high
        inside e = grind (arith, nat_tests, e)

        by : (b : Bool) → (nat_le low z.0 && nat_lt z.0 high) ≡ b → Has (if b then z ∷ between m low high es else between m low high es) y → (Has (between m low high es) y → Has es y × (y.0 < high)) → Has (z ∷ es) y × (y.0 < high)
        by true is (inl e) rest = (inl e, subst (λ (n : ℕ × Entry). n.0 < high) (sym e) (inside is))
        by true is (inr j) rest = let g = rest j in (inr g.0, g.1)
        by false is j rest = let g = rest j in (inr g.0, g.1)

    pub blocked_there : (v : View m) (upto q : ℕ) (x : Oid) → (play m v own upto).came ≡ Blocked q x → IsBlocked (play m v own upto).view upto q x
    unfolding play
    blocked_there v upto q x h = by (nat_lt upto v.upto) h
      where
        by : (b : Bool) → (play_from m v own upto b).came ≡ Blocked q x → IsBlocked (play_from m v own upto b).view upto q x
        by true k = absurd (not_played v.upto q x k)
        by false k = on_blocked upto q x v (between m v.upto upto own) (among v.upto upto own) k

-- What a client plays whose streams are walked.
module _ (m : Meaning) (c : Client m) (w : Work m) where
  abbrev pub hosted_entries : Entries
  hosted_entries = all_entries m c w c.hosted

  abbrev pub kept_play : Play m
  kept_play = play m (own_view m c w (all_entries m c w c.hosted)) (all_entries m c w c.hosted) (play_target m w w.command)

  -- what it is then
  pub record SeenBy (d : Client m) : Type 0 where
    pub view : d.view ≡ Some kept_play.view
    pub own_same : d.own ≡ c.own
    pub hosted : d.hosted ≡ c.hosted

-- What is told by a client that has walked, and the client then.
module _ (m : Meaning) (Ok : Client m → WhatOf m → Type 0) (ok : (d : Client m) (what : WhatOf m) → Plain m what → Ok d what) where
  abbrev pub EachOk : Client m → List (NoteOf m) → Type 0
  EachOk d [] = Unit {0}
  EachOk d (n ∷ ns) = Ok d n.what × EachOk d ns

  pub each_has : (d : Client m) (ns : List (NoteOf m)) (n : NoteOf m) → EachOk d ns → Has ns n → Ok d n.what
  each_has d [] n all i = absurd i
  each_has d (y ∷ ns) n all (inl same) = subst (λ (z : NoteOf m). Ok d z.what) (sym same) all.0
  each_has d (y ∷ ns) n all (inr i) = each_has d ns n all.1 i

  pub record Said (x : Moved m) : Type 0 where
    pub notes : EachOk x.now x.notes
    pub work : PlainWork m x.now.work
    pub streams : WorkStreams m x.now.hosted x.now.work
    pub drafts : WorkDrafts m x.now.work

  synced : (c : Client m) (w : Work m) (os : List Oid) → widens m w.command ≡ true → Said (syncs m c w os)
  unfolding syncs sync_start
  synced c w os wide = record { notes = tt; work = tt; streams = λ narrow. absurd (both (widens m w.command) wide narrow); drafts = tt }
    where
      both : (b : Bool) → b ≡ true → b ≡ false → ⊥
      both b x y = cc

  -- A client that has played.
  module _ (c : Client m) (w : Work m) where
    abbrev pub own : Entries
    own = all_entries m c w c.hosted

    abbrev pub plays : Play m
    plays = play m (own_view m c w (all_entries m c w c.hosted)) (all_entries m c w c.hosted) (play_target m w w.command)

    abbrev pub Seen : Client m → Type 0
    Seen d = SeenBy m c w d

    -- What each case has to give.
    pub record Cases : Type 0 where
      pub undecided : (d : Client m) (p : ℕ) (o : Oid) → PlaysKept m w.command → Seen d → Unknowns m own plays.view p o → decision_in own p ≡ None → Ok d (told.Refused (cause.Undecided p o))
      pub unsure : (d : Client m) (q : ℕ) (o : Oid) → w.command ≡ cmd.End → Seen d → Unknowns m own plays.view q o → q ≤ w.at → (q < w.at → decision_in own q ≡ None) → Ok d (told.Unsure w.at q)
      pub none : (d : Client m) (t : ℕ) → w.command ≡ cmd.End → plays.came ≡ Played t → commit_at own w.at ≡ None → Ok d (told.Unsure w.at w.at)
      pub same : (d : Client m) (t : ℕ) (e : Entry) → w.command ≡ cmd.End → plays.came ≡ Played t → commit_at own w.at ≡ Some e → verdict m plays.view own w.at e ≡ Aborts → unknown_in m plays.view (reads_of e) w.at ≡ None
          → changed_in m plays.view (reads_of e) w.at ≡ None → Ok d (told.Unsure w.at w.at)
      pub past : (d : Client m) (p : ℕ) (o : Oid) (q : m.ask) (v : Play m) (r : ℕ) (x : Oid) → w.command ≡ cmd.AskAt p o q → d.hosted ≡ c.hosted → past_at m (member_entries m c w w.oids) w.trims w.oids c.objects o p ≡ PastView v → v.came ≡ Blocked r x
          → Ok d (told.Refused (cause.Undecided r x))
      pub no_save : (d : Client m) (o : Oid) (n : ℕ) → w.command ≡ cmd.Forget o n → Seen d → may_forget m own o n ≡ Some NoCheckpoint → Ok d (told.Refused (cause.NoCheckpoint o))
      pub is_open : (d : Client m) (o : Oid) (n p : ℕ) → w.command ≡ cmd.Forget o n → Seen d → may_forget m own o n ≡ Some (OpenDecision p) → Ok d (told.Refused (cause.OpenDecision p))
      pub no_state : (d : Client m) (o : Oid) (q : m.ask) → w.command ≡ cmd.Ask o q → Seen d → state_of m plays.view o ≡ None → Ok d (told.Refused (cause.NotHosted o))
      pub no_past : (d : Client m) (p : ℕ) (o : Oid) (q : m.ask) (v : Play m) → w.command ≡ cmd.AskAt p o q → past_at m (member_entries m c w w.oids) w.trims w.oids c.objects o p ≡ PastView v → state_of m v.view o ≡ None → Ok d (told.Refused (cause.NotHosted o))
      pub rescue : (d : Client m) (p q : ℕ) (x : Oid) → w.command ≡ cmd.Rescue p → rescue_turn m (all_entries m c w w.oids) w.trims w.oids c.objects p ≡ StuckAt q x → Ok d (told.Refused (cause.Undecided q x))

    module _ (cases : Cases) where
      abbrev cv : Client m
      cv = with_view m c plays.view

      kept_of : (x : CommandOf m) → plays_kept m x ≡ true → PlaysKept m x
      kept_of (cmd.AskAt p o q) e = absurd cc
      kept_of (cmd.Rescue p) e = absurd cc
      kept_of x e = tt

      undecided_so : (n p : ℕ) (o : Oid) → PlaysKept m w.command → Unknowns m own plays.view p o → decision_in own p ≡ None → Said (refuses m cv n (cause.Undecided p o))
      undecided_so n p o kept u d = record { notes = (cases.undecided _ p o kept (record { view = refl; own_same = refl; hosted = refl }) u d, tt); work = tt; streams = tt; drafts = tt }

      stuck_so : (n q : ℕ) (x : Oid) → PlaysKept m w.command → plays.came ≡ Blocked q x → Said (refuses m cv n (cause.Undecided q x))
      stuck_so n q x kept is = let g = blocked_there m own (own_view m c w own) (play_target m w w.command) q x is in undecided_so n q x kept g.unknowns g.undecided

      unsure_so : (n q : ℕ) → ((d : Client m) → Seen d → Ok d (told.Unsure w.at q)) → Said (answers m (closed m cv) n (told.Unsure w.at q))
      unsure_so n q f = record { notes = (f _ (record { view = refl; own_same = refl; hosted = refl }), tt); work = tt; streams = tt; drafts = tt }

      unclear : (n t : ℕ) → w.command ≡ cmd.End → plays.came ≡ Played t → CannotJudge m own plays.view w.at → Said (answers m (closed m cv) n (told.Unsure w.at w.at))
      unclear n t ending is (NoRecord at) = unsure_so n w.at (λ d s. cases.none d t ending is at)
      unclear n t ending is (NoVerdict e o at d) = let g = verdict_there m own plays.view w.at e o at d in unsure_so n w.at (λ y s. cases.unsure y w.at o ending s g.0 (omega arith) (λ l. g.1))
      unclear n t ending is (NoVersion e o at says known) = unsure_so n w.at (λ d s. cases.unsure d w.at o ending s (unknown_there m own plays.view w.at e o at known) (omega arith) (λ l. absurd (omega (arith, l))))
      unclear n t ending is (NoChange e at says known same) = unsure_so n w.at (λ d s. cases.same d t e ending is at says known same)

      judges_plain : (es : Entries) (v : View m) (p : ℕ) (e : Entry) (so : Bool) (what : WhatOf m) → Judges m es v p e so what → Plain m what
      judges_plain es v p e _ _ (Commit' k) = tt
      judges_plain es v p e _ _ (Abort' x k u i) = tt

      goes_so : (d : Client m) (p : Place m) (f : Client m) (t : Task m) (bs : List Out) → IsGoing m d w p f t bs → AllWalked m c w d p → Said (goes_on m f w t bs)
      goes_so d _ _ _ _ (TrimsBegin es p t of is z) h = record { notes = tt; work = tt; streams = tt; drafts = tt }
      goes_so d _ _ _ _ x h = elim h [ ]

      learns_so : (d : Client m) (p : Place m) (t : Task m) → IsLearning m d w p t → AllWalked m c w d p → Said (learns_for m d w t)
      learns_so d _ _ (SyncLearns bs s) h = elim h [ ]
      learns_so d _ _ x h = elim h [ ]

      synced_so : (d : Client m) (p : Place m) (f : Client m) (u : Work m) (os : List Oid) → IsSynced m d w p f u os → AllWalked m c w d p → Said (syncs m f u os)
      synced_so _ _ _ _ _ (Widens at o is) (IsRescue _ of) = synced c w (with_oid o w.oids) (ap (λ (x : CommandOf m). widens m x) of)
      synced_so _ _ _ _ _ x h = elim h [ ]

      appended_so : (d : Client m) (p : Place m) (f : Client m) (e : Entry) (y : Purpose m) (ns : List (NoteOf m)) → IsAppended m d w p f e y ns → AllWalked m c w d p → Said (appends m f w e y ns)
      unfolding appends append_start
      appended_so d _ _ _ _ _ (EndDecides es p t e so what of is at k l) h = record { notes = tt; work = judges_plain es p.view w.at e so what k; streams = tt; drafts = λ i. absurd i }
      appended_so d _ _ _ _ _ (MarkBegins es p t o n of is f) h = record { notes = (ok _ _ tt, (ok _ _ tt, (ok _ _ tt, tt))); work = tt; streams = tt; drafts = λ i. refl }
      appended_so d _ _ _ _ _ x h = record { notes = tt; work = tt; streams = tt; drafts = λ i. absurd i }

      refused_so : (d : Client m) (p : Place m) (f : Client m) (n : ℕ) (why : Refusal) → IsRefused m d w p f n why → AllWalked m c w d p → Said (refuses m f n why)
      refused_so _ _ _ _ _ (AskBlocked es p o q r x of is) (HasPlayed k) = stuck_so (tx_number m cv.tx) r x (kept_of w.command k) is
      refused_so _ _ _ _ _ (AskMissing es p o q t tx of came open' none) (HasPlayed k) =
          record { notes = (cases.no_state _ o q of (record { view = refl; own_same = refl; hosted = refl }) none, tt); work = tt; streams = tt; drafts = tt }
      refused_so _ _ _ _ _ (FateBlocked es p at q x of is b) (HasPlayed k) = stuck_so 0 q x (kept_of w.command k) is
      refused_so _ _ _ _ _ (FateUnknown es p at e o of j f is d) (HasPlayed k) = let g = verdict_there m own plays.view at e o is d in undecided_so 0 at o (kept_of w.command k) g.0 g.1
      refused_so _ _ _ _ _ (DecideBlocked es p at q x of t is b) (HasPlayed k) = stuck_so 0 q x (kept_of w.command k) is
      refused_so _ _ _ _ _ (DecideUnknown es p at e o of t j is d) (HasPlayed k) = let g = outcome_there m own plays.view at e o is d in undecided_so 0 at o (kept_of w.command k) g.0 g.1
      refused_so _ _ _ _ _ (SaveBlocked es p o q x of is) (HasPlayed k) = stuck_so 0 q x (kept_of w.command k) is
      refused_so _ _ _ _ _ (ForgetBlocked es p o n q x of is) (HasPlayed k) = stuck_so 0 q x (kept_of w.command k) is
      refused_so _ _ _ _ _ (ForgetUnsaved es p t o n of is f) (HasPlayed k) =
          record { notes = (cases.no_save _ o n of (record { view = refl; own_same = refl; hosted = refl }) f, tt); work = tt; streams = tt; drafts = tt }
      refused_so _ _ _ _ _ (ForgetOpen es p t o n at of is f) (HasPlayed k) =
          record { notes = (cases.is_open _ o n at of (record { view = refl; own_same = refl; hosted = refl }) f, tt); work = tt; streams = tt; drafts = tt }
      refused_so _ _ _ _ _ (TrimBlocked es p q x of is) (HasPlayed k) = stuck_so 0 q x (kept_of w.command k) is
      refused_so _ _ _ _ _ (LooksBlocked at o q p r x l view came) (LooksBack _ _ _ of) = record { notes = (cases.past _ at o q p r x of refl view came, tt); work = tt; streams = tt; drafts = tt }
      refused_so _ _ _ _ _ (LooksMissing at o q p t l view came none) (LooksBack _ _ _ of) = record { notes = (cases.no_past _ at o q p of view none, tt); work = tt; streams = tt; drafts = tt }
      refused_so _ _ _ _ _ (RescueStuck at q x is) (IsRescue _ of) = record { notes = (cases.rescue _ at q x of is, tt); work = tt; streams = tt; drafts = tt }
      refused_so _ _ _ _ _ (CopyFault x n rid q why e) h = elim h [ ]
      refused_so _ _ _ _ _ x h = record { notes = (ok _ _ tt, tt); work = tt; streams = tt; drafts = tt }

      answered_so : (d : Client m) (p : Place m) (f : Client m) (n : ℕ) (what : WhatOf m) → IsAnswered m d w p f n what → AllWalked m c w d p → Said (answers m f n what)
      answered_so _ _ _ _ _ (EndBlocked es p q x ending is) (HasPlayed k) =
          let g = blocked_there m own (own_view m c w own) (play_target m w w.command) q x is in
          let less = subst (λ (y : CommandOf m). q < play_target m w y) ending g.below in
          unsure_so (tx_number m cv.tx) q (λ d s. cases.unsure d q x ending s g.unknowns (omega (arith, less)) (λ l. g.undecided))
      answered_so _ _ _ _ _ (EndUnsure es p t ending is j) (HasPlayed k) = unclear (tx_number m cv.tx) t ending is j
      answered_so d _ _ _ _ (EndJudged es p t e so what ending is at k l) h = record { notes = (ok _ what (judges_plain es p.view w.at e so what k), tt); work = tt; streams = tt; drafts = tt }
      answered_so _ _ _ _ _ (DecidedAt x bs p page other) h = elim h [ ]
      answered_so _ _ _ _ _ (DecidedLost x bs e l other) h = elim h [ ]
      answered_so _ _ _ _ _ (JudgedSo x bs p page of) h = elim h [ ]
      answered_so _ _ _ _ _ (JudgedLost x bs e l of) h = elim h [ ]
      answered_so _ _ _ _ _ x h = record { notes = (ok _ _ tt, tt); work = tt; streams = tt; drafts = tt }

      told_so : (d : Client m) (p : Place m) (f : Client m) (ns : List (NoteOf m)) → IsTold m d w p f ns → AllWalked m c w d p → Said (replies m f ns)
      told_so _ _ _ _ (IsRescued x bs p page) h = elim h [ ]
      told_so _ _ _ _ (IsMarked n o mark bs p page) h = elim h [ ]
      told_so _ _ _ _ (PlaysOther es p k) h = record { notes = tt; work = tt; streams = tt; drafts = tt }
      told_so _ _ _ _ x h = record { notes = (ok _ _ tt, tt); work = tt; streams = tt; drafts = tt }

      ends_so : (d : Client m) (p : Place m) (x : Moved m) → End m d w p x → AllWalked m c w d p → Said x
      ends_so d p _ (GoesOn f t bs x) h = goes_so d p f t bs x h
      ends_so d p _ (LearnsNewer t x) h = learns_so d p t x h
      ends_so d p _ (Syncs f u os x) h = synced_so d p f u os x h
      ends_so d p _ (Appends f e y ns x) h = appended_so d p f e y ns x h
      ends_so d p _ (Refuses f n why x) h = refused_so d p f n why x h
      ends_so d p _ (Answers f n what x) h = answered_so d p f n what x h
      ends_so d p _ (Tells f ns x) h = told_so d p f ns x h

      pub walked_so : Said (walked m c w)
      walked_so = by (walked m c w) (walked_is m c w)
        where
          by : (x : Moved m) → Answered m c w x → Said x
          by _ (AnsweredBy d p x at e) = ends_so d p x e at
