-- Through each of a client's turns: a record that it tells decided has its decision record, or what the client was told since
-- says why there is none.
use Rattle.std.proofs.Common.{◌≡◌, ◌⊎◌, ℕ, suc, ◌+◌, ◌<◌, ◌≤◌, List, [], ◌∷◌, length, Bool, true, false, refl, sym, ap, ◌∙◌, subst, inl, inr, arith, Option, Some, None, is_some, Contains}
use Rattle.std.specs.Prelude.{not, nat_le, ◌==◌, ◌&&◌}
use Rattle.tg_base.specs.declared.ids.NodeId.{NodeId}
use Rattle.tg_base.specs.declared.ids.Oid.{Oid}
use Rattle.tg_base.specs.declared.marks.ReadMark.{ReadMark}
use Rattle.tg_base.specs.declared.msg.Msg.{Msg}
use Rattle.tg_base.specs.declared.packet.Out.{Out}
use Rattle.tg_base.specs.Layouts.{Layout}
use Rattle.tg_entry.specs.declared.entry.Body.TheVariants.{Decision}
use Rattle.tg_entry.specs.declared.entry.Entry.{Entry}
use Rattle.tg_entry.specs.Needs.{reads_of, objects_of, needs_decision}
use Rattle.tg_entry.specs.Records.{linked}
use Rattle.tg_kind.specs.Meaning.{Meaning}
use Rattle.tg_model.specs.declared.command.Command.TheVariants as cmd
use Rattle.tg_model.specs.declared.refusal.Refusal.{Refusal}
use Rattle.tg_model.specs.declared.trace.What.TheVariants as told
use Rattle.tg_model.specs.Kinds.{CommandOf, WhatOf, NoteOf}
use Rattle.tg_protocol.specs.Words.{directory}
use Rattle.tg_protocol.specs.Requests.{Next, Goes, Learns, Ends}
use Rattle.tg_protocol.specs.Replies.{reply}
use Rattle.tg_protocol.specs.Appending.{Asking, Append, AppendEnd, At, Full, Forgotten, append_start, append_again}
use Rattle.tg_protocol.specs.Syncing.{sync_start}
use Rattle.tg_protocol.specs.Walking.{walk_asks}
use Rattle.tg_protocol.specs.Transactions.{Tx, commit_record}
use Rattle.tg_protocol.specs.Views.{Entries, View, decision_in}
use Rattle.tg_protocol.specs.Past.{commit_at}
use Rattle.tg_protocol.specs.Clients.{Purpose, Writes, Judged, Decides, Rescues, Saves, Marks, Task, Syncing, Walking, Appending, Trimming, Copying', Reconfiguring, Hand, Doing, Work, Client}
use Rattle.tg_protocol.specs.Answers.{Moved, note, appends, syncs, lacks_decision, mark_notes, decision}
use Rattle.tg_protocol.specs.ClientSteps as step
use Rattle.tg_protocol.specs.ClientSteps.{task_in, tx_of, task_asks, task_awaited, met, start_walk, walks, stands, accepts, refused_or}
use Rattle.tg_protocol.specs.Holding.{append_of, append_by}
use Rattle.tg_law_layouts.proofs.Moves.Members.{Has}
use Rattle.tg_law_layouts.proofs.Moves.Draws.{NextDraws}
use Rattle.tg_law_layouts.proofs.Moves.Machines.{walk_start_draws}
use Rattle.tg_law_replies.specs.Plays.Sound.{IsRising}
use Rattle.tg_law_replies.specs.Views.Exact.{DecisionStands}
use Rattle.tg_law_replies.specs.Replies.Found.{mine}
use Rattle.tg_law_replies.specs.Replies.Steps.{EachDelivery}
use Rattle.tg_law_replies.specs.Replies.Ended.{end_of, task_ends, again_ends, work_ends, EndsSo}
use Rattle.tg_law_replies.proofs.History.Members.{has_contained, contained_has}
use Rattle.tg_law_replies.proofs.History.Ledger.{one_entry}
use Rattle.tg_law_replies.proofs.Views.Records.{decision_there, commit_there}
use Rattle.tg_law_replies.proofs.Replies.Turns.{Keeps, feed_keeps, again_keeps, LandsBy}
use Rattle.tg_law_headline.proofs.Alike.Appends.{Asked, asked, Issued, FullTold, GoneTold, AppendOk, NextOk, append_on, EndOk, feed_ok, again_ok}
use Rattle.tg_law_layouts.proofs.Moves.Ways.{way_up}
use Rattle.tg_law_replies.proofs.Replies.Ways.{EachAt, each_way, each_fed, each_newer, end_fed, end_newer}
use Rattle.tg_law_steps.proofs.Places.{Place, Feeds, Newer, OnAppend, OnTrims, OnCopy, OnReconf, Walks, Plays, Looks}
use Rattle.tg_law_steps.proofs.Ways.{append_fed, Way, FeedsSync, FeedsWalk, NewerSync, NewerWalk, AllWalked, HasPlayed, LooksBack, IsRescue}
use Rattle.tg_law_steps.proofs.Ends.{Judges, Commit', Abort', End, GoesOn, LearnsNewer, Syncs, Appends, Refuses, Answers, Tells, IsGoing, SyncGoes, WalkGoes, WalkBegins, AppendGoes, IsLearning, SyncLearns, WalkLearns, AppendLearns, IsSynced, JudgedAt, IsAppended, EndDecides, DecideDecides, SaveBegins, MarkBegins, RescueDecides, IsAnswered, DecidedAt, DecidedLost, JudgedSo, JudgedLost, EndJudged, DecideJudged, IsTold, IsCommitted, IsRescued, IsMarked, PlaysOther}
use Rattle.tg_law_steps.proofs.Takes.{IsFor as IsFor', ForWrites, ForJudged, IsSaid, NoTxOpen, NoViewKept, NoStateKept, ReadsOnly, IsWalked, WalksFate, Taken, SaidAtOnce, SyncsFirst, AppendsRecord, ReconfBegins, CopyBegins, said_work, taken}
use Rattle.tg_law_steps.proofs.Along.{delivered, over_walks}

-- a turn draws no number below its next
up_of : {M E : Type 0} → (asks : M → List Out) (old : List Out) (next : ℕ) (bs : List Out) (end : ℕ) (to : Next M E) → NextDraws asks old next bs end to → next ≤ end
up_of asks old next bs end (Goes x) d = d.up
up_of asks old next bs end (Learns x) d = d.0
up_of asks old next bs end (Ends e) d = d

no_reads : (rs : List ReadMark) → (length rs == 0) ≡ true → rs ≡ []
no_reads [] e = refl
no_reads (r ∷ rs) e = absurd (some (length rs) e)
  where
    some : (n : ℕ) → (suc n == 0) ≡ true → ⊥
    some n z = grind arith

-- a record without reads needs none
blind_needs : (e : Entry) → reads_of e ≡ [] → needs_decision e ≡ false
unfolding needs_decision
blind_needs e none = by (length (reads_of e) == 0) (ap (λ (rs : List ReadMark). length rs == 0) none)
  where
    by : (b : Bool) → b ≡ true → (not b && nat_le 2 (length (objects_of e))) ≡ false
    by true k = refl
    by false k = absurd cc

-- Of the entries of a log; of what a client got, of which node and with which number; and of its transactions that have put
-- nothing, whose commit has no record. Its command began with this number.
module _ (m : Meaning) (objects : List Oid) (es : Entries) (rising : IsRising es) (Got : NodeId → ℕ → Msg → Type 0) (Idle : ℕ → Type 0) (lo : ℕ) where
  -- an append met the log's end, or a trim, told with numbers from this one on
  pub data Met (b : ℕ) : Type 0 where
    MetFull : (limit : ℕ) → FullTold Got b limit → Met b
    MetGone : (p below : ℕ) → GoneTold Got b p below → Met b

  -- after the position of a record was issued
  pub record MetSince (p : ℕ) : Type 0 where
    pub since : ℕ
    pub issued : Issued Got lo since p
    pub met : Met since

  abbrev pub DecideSaid : ℕ → Type 0
  DecideSaid p = (e : Entry) → Contains es (p, e) → needs_decision e ≡ true → DecisionStands es p ⊎ Met lo

  abbrev pub EndSaid : ℕ → Type 0
  EndSaid p = (e : Entry) → Contains es (p, e) → needs_decision e ≡ true → DecisionStands es p ⊎ MetSince p

  abbrev pub Say : ℕ → WhatOf m → Type 0
  Say x (told.Committed p) = Idle x ⊎ EndSaid p
  Say x (told.Aborted p o k seen now) = EndSaid p
  Say x (told.Decided p (Some b)) = DecideSaid p
  Say x what = Unit {0}

  abbrev pub EachSays : List (NoteOf m) → Type 0
  EachSays ns = (n : NoteOf m) → Has ns n → Say n.tx n.what

  -- what tells of no such record
  abbrev pub Free : WhatOf m → Type 0
  Free (told.Committed p) = ⊥
  Free (told.Aborted p o k seen now) = ⊥
  Free (told.Decided p (Some b)) = ⊥
  Free what = Unit {0}

  free_say : (x : ℕ) (what : WhatOf m) → Free what → Say x what
  free_say x (told.Committed p) f = absurd f
  free_say x (told.Aborted p o k seen now) f = absurd f
  free_say x (told.Decided p (Some b)) f = absurd f
  free_say x what f = tt

  -- What an append is for.

  pub record IsFor (d : Entry) (p : ℕ) : Type 0 where
    pub is_yes : Bool
    pub is : d.body ≡ Decision p is_yes

  -- the append of the decision record of a client's own record, from a number on past that with which its position was issued
  pub record AfterRecord (next : ℕ) (a : Append) (p : ℕ) : Type 0 where
    pub since : ℕ
    pub issued : Issued Got lo since p
    pub le : since ≤ next
    pub append : AppendOk Got since next a
    pub decides : IsFor a.draft p

  abbrev pub DecidesFits : ℕ → Append → WhatOf m → Type 0
  DecidesFits next a (told.Committed p) = AfterRecord next a p
  DecidesFits next a (told.Aborted p o k seen now) = AfterRecord next a p
  DecidesFits next a (told.Decided p (Some b)) = AppendOk Got lo next a × IsFor a.draft p
  DecidesFits next a what = Unit {0}

  abbrev pub Fits : ℕ → Append → Purpose m → Type 0
  Fits next a Writes = reads_of a.draft ≡ []
  Fits next a Judged = AppendOk Got lo next a
  Fits next a (Decides what) = DecidesFits next a what
  Fits next a (Rescues what) = Free what
  Fits next a (Saves o u) = Unit {0}
  Fits next a (Marks x o j) = reads_of a.draft ≡ []

  -- the position of the record that the command appended was issued, and all that is asked now has a later number
  pub record Since (next at : ℕ) : Type 0 where
    pub since : ℕ
    pub issued : Issued Got lo since at
    pub le : since ≤ next

  abbrev pub EndsAt : ℕ → ℕ → CommandOf m → Type 0
  EndsAt next at cmd.End = Since next at
  EndsAt next at x = Unit {0}

  abbrev pub TaskHeld : ℕ → ℕ → CommandOf m → Task m → Type 0
  TaskHeld next at x (Syncing s) = EndsAt next at x
  TaskHeld next at x (Walking k os) = EndsAt next at x
  TaskHeld next at x (Appending a y) = Fits next a y
  TaskHeld next at x t = Unit {0}

  abbrev pub WorkHeld : ℕ → Option (Work m) → Type 0
  WorkHeld next None = Unit {0}
  WorkHeld next (Some w) = TaskHeld next w.at w.command (task_in m w.hand)

  abbrev pub Held : Client m → Type 0
  Held c = WorkHeld c.next c.work

  -- With a later number, and with an append that goes on.

  -- from whatever number on its answers were told, an append goes on as another
  abbrev Goes' : ℕ → ℕ → Append → Append → Type 0
  Goes' next later a b = (s : ℕ) → s ≤ next → AppendOk Got s next a → (next ≤ later) × AppendOk Got s later b

  fits_goes : (next later : ℕ) (a b : Append) (y : Purpose m) → lo ≤ next → b.draft ≡ a.draft → Goes' next later a b → Fits next a y → Fits later b y
  fits_goes next later a b Writes l same go k = ap (λ (d : Entry). reads_of d) same ∙ k
  fits_goes next later a b Judged l same go k = (go lo l k).1
  fits_goes next later a b (Rescues what) l same go k = k
  fits_goes next later a b (Saves o u) l same go k = tt
  fits_goes next later a b (Marks x o j) l same go k = ap (λ (d : Entry). reads_of d) same ∙ k
  fits_goes next later a b (Decides what) l same go k = by what k
    where
      still : (p : ℕ) → IsFor a.draft p → IsFor b.draft p
      still p f = record { is_yes = f.is_yes; is = ap (λ (d : Entry). d.body) same ∙ f.is }

      after : (p : ℕ) → AfterRecord next a p → AfterRecord later b p
      after p r =
          let g = go r.since r.le r.append in
          record { since = r.since; issued = r.issued; le = let i = r.le in let j = g.0 in omega (arith, i, j); append = g.1; decides = still p r.decides }

      by : (x : WhatOf m) → DecidesFits next a x → DecidesFits later b x
      by (told.Committed p) k = after p k
      by (told.Aborted p o i seen now) k = after p k
      by (told.Decided p (Some z)) k = ((go lo l k.0).1, still p k.1)
      by x k = tt

  ends_on : (next later at : ℕ) (x : CommandOf m) → next ≤ later → EndsAt next at x → EndsAt later at x
  ends_on next later at cmd.End le s = record { since = s.since; issued = s.issued; le = let i = s.le in omega (arith, i, le) }
  ends_on next later at x le s = tt

  task_on : (next later at : ℕ) (x : CommandOf m) (t : Task m) → lo ≤ next → next ≤ later → TaskHeld next at x t → TaskHeld later at x t
  task_on next later at x (Syncing s) l le k = ends_on next later at x le k
  task_on next later at x (Walking v os) l le k = ends_on next later at x le k
  task_on next later at x (Appending a y) l le k = fits_goes next later a a y l refl (λ s i ok. (le, append_on Got s next later a le ok)) k
  task_on next later at x (Trimming t) l le k = tt
  task_on next later at x (Copying' y) l le k = tt
  task_on next later at x (Reconfiguring r) l le k = tt

  pub work_on : (next later : ℕ) (w : Option (Work m)) → lo ≤ next → next ≤ later → WorkHeld next w → WorkHeld later w
  work_on next later None l le k = tt
  work_on next later (Some w) l le k = task_on next later w.at w.command (task_in m w.hand) l le k

  -- What a turn makes of the client.

  pub record Good (x : Moved m) : Type 0 where
    pub held : Held x.now
    pub says : EachSays x.notes

  abbrev Le : Client m → Type 0
  Le c = lo ≤ c.next

  none_says : EachSays []
  none_says n i = absurd i

  and_says : (k : NoteOf m) (ns : List (NoteOf m)) → Say k.tx k.what → EachSays ns → EachSays (k ∷ ns)
  and_says k ns s rest n (inl e) = subst (λ (z : NoteOf m). Say z.tx z.what) (sym e) s
  and_says k ns s rest n (inr i) = rest n i

  one_says : (k : NoteOf m) → Say k.tx k.what → EachSays (k ∷ [])
  one_says k s = and_says k [] s none_says

  -- an append that was just begun
  abbrev begun : ℕ → Entry → Append
  begun next d = record { draft = d; token = None; work = Asking next }

  -- A record that has its decision among the entries of a client.

  abbrev pub Only : Entries → Type 0
  Only own = (p : ℕ) (e : Entry) → Contains own (p, e) → Contains es (p, e)

  has_decision : (own : Entries) (p : ℕ) (e : Entry) → Only own → commit_at own p ≡ Some e → lacks_decision m own p e ≡ false → (d : Entry) → Contains es (p, d) → needs_decision d ≡ true → DecisionStands es p
  has_decision own p e only here lacks d i needs = by (decision_in own p) refl (lacks_none (needs_decision e) (is_some (decision_in own p)) (subst (λ (x : Entry). needs_decision x ≡ true) same needs) lacks)
    where
      same : d ≡ e
      same = one_entry 0 es p d e rising (has_contained es (p, d) i) (has_contained es (p, e) (only p e (contained_has own (p, e) (commit_there m own p e here).0)))

      lacks_none : (a b : Bool) → a ≡ true → (a && not b) ≡ false → b ≡ true
      lacks_none a b x y = grind arith

      by : (o : Option Bool) → decision_in own p ≡ o → is_some (decision_in own p) ≡ true → DecisionStands es p
      by None k t = absurd (no (sym (ap (λ (o : Option Bool). is_some o) k) ∙ t))
        where
          no : false ≡ true → ⊥
          no z = cc
      by (Some c) k t =
          let f = decision_there own p c k in
          record { at = f.at; entry = f.entry; is_yes = c; here = only f.at f.entry (contained_has own (f.at, f.entry) f.here); is = f.is }

  marks_say : (x : ℕ) (o : Oid) (n : ℕ) → EachSays (mark_notes m x o n)
  marks_say x o n = and_says (note m x told.Begin) (note m x (told.Put directory (m.mark_op o n)) ∷ note m x told.End ∷ []) tt
      (and_says (note m x (told.Put directory (m.mark_op o n))) (note m x told.End ∷ []) tt (one_says (note m x told.End) tt))

  after_record : (next p : ℕ) (d : Entry) → Since next p → IsFor d p → AfterRecord (next + 1) (begun next d) p
  after_record next p d s f = record { since = s.since; issued = s.issued; le = let i = s.le in omega (arith, i); append = (s.le, tt); decides = f }

  -- what a client that ends or decides has found is of the log
  abbrev SeesIn : Entries → CommandOf m → Type 0
  SeesIn own cmd.End = Only own
  SeesIn own (cmd.Decide p) = Only own
  SeesIn own x = Unit {0}

  abbrev pub SeesFor : Client m → Work m → CommandOf m → Type 0
  SeesFor c w x = SeesIn (mine m c w) x

  abbrev pub Sees : Client m → Work m → Type 0
  Sees c w = SeesFor c w w.command

  -- Appends.

  -- from whatever number on an append's answers were told, it ends as told
  abbrev Ends' : ℕ → ℕ → Append → AppendEnd → Type 0
  Ends' next end a e = (s : ℕ) → s ≤ next → AppendOk Got s next a → EndOk Got s end e

  -- a decision record stands, or its append met the log's end, or a trim
  stands_or_met : (d : Entry) (p s end : ℕ) (e : AppendEnd) → IsFor d p → EndOk Got s end e → EndsSo m es d e → DecisionStands es p ⊎ Met s
  stands_or_met d p s end (At q page) f ok so = inl (record { at = q; entry = linked d so.0; is_yes = f.is_yes; here = so.1; is = f.is })
  stands_or_met d p s end (Full l) f ok so = inr (MetFull l ok)
  stands_or_met d p s end (Forgotten q b) f ok so = inr (MetGone q b ok)

  decides_say : (next end : ℕ) (a : Append) (e : AppendEnd) (what : WhatOf m) → lo ≤ next → DecidesFits next a what → Ends' next end a e → EndsSo m es a.draft e → (x : ℕ) → Say x what
  decides_say next end a e what l k ends so x = by what k
    where
      after : (p : ℕ) → AfterRecord next a p → EndSaid p
      after p r d i needs = since (stands_or_met a.draft p r.since end e r.decides (ends r.since r.le r.append) so)
        where
          since : DecisionStands es p ⊎ Met r.since → DecisionStands es p ⊎ MetSince p
          since (inl y) = inl y
          since (inr y) = inr (record { since = r.since; issued = r.issued; met = y })

      by : (z : WhatOf m) → DecidesFits next a z → Say x z
      by (told.Committed p) k = inr (after p k)
      by (told.Aborted p o i seen now) k = after p k
      by (told.Decided p (Some b)) k = λ d i needs. stands_or_met a.draft p lo end e k.1 (ends lo l k.0) so
      by z k = tt

  -- a record without reads needs none where it stands
  blind_say : (d : Entry) (p : ℕ) (page : List ℕ) → reads_of d ≡ [] → EndsSo m es d (At p page) → EndSaid p
  blind_say d p page none so e i needs = absurd (no (sym (blind_needs (linked d so.0) none) ∙ subst (λ (x : Entry). needs_decision x ≡ true) same needs))
    where
      same : e ≡ linked d so.0
      same = one_entry 0 es p e (linked d so.0) rising (has_contained es (p, e) i) (has_contained es (p, linked d so.0) so.1)

      no : false ≡ true → ⊥
      no z = cc

  since_at : (next at : ℕ) (x : CommandOf m) → Issued Got lo next at → EndsAt next at x
  since_at next at cmd.End i = record { since = next; issued = i; le = omega arith }
  since_at next at x i = tt

  -- Along a turn.

  -- an append, with the next number before the turn that went on with it, and after
  record Fed (y : Purpose m) (now : ℕ) (to : Next Append AppendEnd) : Type 0 where
    next : ℕ
    append : Append
    low : lo ≤ next
    fits : Fits next append y
    keeps : Keeps append.draft to
    lands : (e : AppendEnd) → end_of to ≡ Some e → EndsSo m es append.draft e
    goes : (s : ℕ) → s ≤ next → AppendOk Got s next append → (next ≤ now) × NextOk Got s now to

  abbrev Here : Client m → Work m → Place m → Type 0
  Here c w (Feeds (Syncing s) n rid x) = EndsAt c.next w.at w.command
  Here c w (Feeds (Walking v os) n rid x) = EndsAt c.next w.at w.command
  Here c w (Feeds (Appending a y) n rid x) = Fed y (append_fed m c a n x).next (append_fed m c a n x).to
  Here c w (Feeds t n rid x) = Unit {0}
  Here c w (Newer (Syncing s) n rid q) = EndsAt c.next w.at w.command
  Here c w (Newer (Walking v os) n rid q) = EndsAt c.next w.at w.command
  Here c w (Newer (Appending a y) n rid q) = Fed y (append_again q a c.next).next (append_again q a c.next).to
  Here c w (Newer t n rid q) = Unit {0}
  Here c w (OnAppend y bs to) = Fed y c.next to
  Here c w (OnTrims b to) = Unit {0}
  Here c w (OnCopy x to) = Unit {0}
  Here c w (OnReconf to) = Unit {0}
  Here c w (Plays own p) = EndsAt c.next w.at w.command × SeesIn own w.command
  Here c w (Looks at o q) = Unit {0}
  Here c w p = EndsAt c.next w.at w.command

  abbrev At' : Client m → Work m → Place m → Type 0
  At' c w p = Le c × Here c w p × EachAt m objects es Sees c w p

  here_way : (c : Client m) (w : Work m) (p : Place m) (d : Client m) (v : Work m) (q : Place m) → Way m c w p d v q → c.next ≤ d.next → Here c w p → Here d v q
  here_way c w _ _ _ _ (FeedsSync s n rid x) up h = ends_on c.next _ w.at w.command up h
  here_way c w _ _ _ _ (FeedsWalk v os n rid x) up h = ends_on c.next _ w.at w.command up h
  here_way c w _ _ _ _ (NewerSync s n rid q) up h = ends_on c.next _ w.at w.command up h
  here_way c w _ _ _ _ (NewerWalk v os n rid q) up h = ends_on c.next _ w.at w.command up h
  here_way c w _ _ _ _ x up h = h

  way : (c : Client m) (w : Work m) (p : Place m) (d : Client m) (v : Work m) (q : Place m) → Way m c w p d v q → At' c w p → At' d v q
  way c w p d v q x h =
      let up = way_up m c w p d v q x in
      (let l = h.0 in omega (arith, l, up), here_way c w p d v q x up h.1, each_way m objects es Sees c w p d v q x h.2)

  walked_way : (c : Client m) (w : Work m) (d : Client m) (q : Place m) → AllWalked m c w d q → At' c w (Walks []) → At' d w q
  walked_way c w _ _ (HasPlayed k) h = (h.0, (h.1, h.2), tt)
  walked_way c w _ _ (LooksBack at o q of) h = (h.0, tt, tt)
  walked_way c w _ _ (IsRescue at of) h = (h.0, h.1, tt)

  begins_up : (c : Client m) (w : Work m) (o : Oid) → c.next ≤ (start_walk m c w o).next
  begins_up c w o = up_of walk_asks [] c.next (start_walk m c w o).besides (start_walk m c w o).next (start_walk m c w o).to (walk_start_draws c.stand o _ w.lo c.cells c.next)

  goes_held : (c : Client m) (w : Work m) (p : Place m) (d : Client m) (t : Task m) (bs : List Out) → IsGoing m c w p d t bs → Here c w p → TaskHeld d.next w.at w.command t
  goes_held c w _ _ _ _ (SyncGoes bs s) h = h
  goes_held c w _ _ _ _ (WalkGoes o os x) h = h
  goes_held c w _ _ _ _ (WalkBegins o os x is) h = ends_on c.next (start_walk m c w o).next w.at w.command (begins_up c w o) h
  goes_held c w _ _ _ _ (AppendGoes y bs b) h = fits_goes h.next c.next h.append b y h.low h.keeps (λ s le k. h.goes s le k) h.fits
  goes_held c w _ _ _ _ x h = tt

  learns_held : (c : Client m) (w : Work m) (p : Place m) (t : Task m) → IsLearning m c w p t → Here c w p → TaskHeld (c.next + c.layouts) w.at w.command t
  learns_held c w _ _ (SyncLearns bs s) h = ends_on c.next (c.next + c.layouts) w.at w.command (omega arith) h
  learns_held c w _ _ (WalkLearns o os x) h = ends_on c.next (c.next + c.layouts) w.at w.command (omega arith) h
  learns_held c w _ _ (AppendLearns y bs b) h = fits_goes h.next (c.next + c.layouts) h.append b y h.low h.keeps
      (λ s le k. let g = h.goes s le k in let u = g.0 in (omega (arith, u), append_on Got s c.next (c.next + c.layouts) b (omega arith) g.1)) h.fits
  learns_held c w _ _ x h = tt

  syncs_on : (c : Client m) (w : Work m) (os : List Oid) → EndsAt c.next w.at w.command → Good (syncs m c w os)
  unfolding syncs sync_start
  syncs_on c w os k = record { held = ends_on c.next (c.next + 1) w.at w.command (omega arith) k; says = none_says }

  synced : (c : Client m) (w : Work m) (p : Place m) (d : Client m) (v : Work m) (os : List Oid) → IsSynced m c w p d v os → Here c w p → EndsAt d.next v.at v.command
  synced c w _ _ _ _ (JudgedAt bs p d) h = since_at c.next p w.command (h.goes lo h.low h.fits).1
  synced c w _ _ _ _ x h = h

  -- the record that `end` judges, and the command's own decision
  judges_fit : (c : Client m) (at : ℕ) (own : Entries) (v : View m) (e : Entry) (so : Bool) (what : WhatOf m) → Judges m own v at e so what → Since c.next at → DecidesFits (c.next + 1) (begun c.next (decision m c e at so)) what
  judges_fit c at own v e _ _ (Commit' k) s = after_record c.next at (decision m c e at true) s (record { is_yes = true; is = refl })
  judges_fit c at own v e _ _ (Abort' x k u i) s = after_record c.next at (decision m c e at false) s (record { is_yes = false; is = refl })

  judges_say : (own : Entries) (v : View m) (at : ℕ) (e : Entry) (so : Bool) (what : WhatOf m) → Judges m own v at e so what → ((d : Entry) → Contains es (at, d) → needs_decision d ≡ true → DecisionStands es at) → (x : ℕ) → Say x what
  judges_say own v at e _ _ (Commit' k) stands x = inr (λ d i needs. inl (stands d i needs))
  judges_say own v at e _ _ (Abort' y k u i) stands x = λ d i needs. inl (stands d i needs)

  appended : (c : Client m) (w : Work m) (p : Place m) (d : Client m) (e : Entry) (y : Purpose m) (ns : List (NoteOf m)) → IsAppended m c w p d e y ns → Le c → Here c w p → Good (appends m d w e y ns)
  unfolding appends append_start
  appended c w _ _ _ _ _ (EndDecides own p t e so what of came is k x) l h = record { held = judges_fit c w.at own p.view e so what k (subst (EndsAt c.next w.at) of h.0); says = none_says }
  appended c w _ _ _ _ _ (DecideDecides own p at e d so of t k is v s x) l h = record { held = ((l, tt), record { is_yes = so; is = refl }); says = none_says }
  appended c w _ _ _ _ _ (SaveBegins own p t o of came small) l h = record { held = tt; says = none_says }
  appended c w _ _ _ _ _ (MarkBegins own p t o n of came may) l h = record { held = refl; says = marks_say (c.begun + 1) o n }
  appended c w _ _ _ _ _ (RescueDecides at so e is k) l h = record { held = tt; says = none_says }

  answered : (c : Client m) (w : Work m) (p : Place m) (d : Client m) (n : ℕ) (what : WhatOf m) → IsAnswered m c w p d n what → Here c w p → Say n what
  answered c w _ _ _ _ (DecidedAt x bs p d other) h = decides_say h.next c.next h.append (At p d) x h.low h.fits (λ s le k. (h.goes s le k).1) (h.lands (At p d) refl) 0
  answered c w _ _ _ _ (DecidedLost x bs e lost other) h = decides_say h.next c.next h.append e x h.low h.fits (λ s le k. (h.goes s le k).1) (h.lands e refl) 0
  answered c w _ _ _ _ (JudgedSo x bs p d of) h = decides_say h.next c.next h.append (At p d) x h.low h.fits (λ s le k. (h.goes s le k).1) (h.lands (At p d) refl) (tx_of m c)
  answered c w _ _ _ _ (JudgedLost x bs e lost of) h = decides_say h.next c.next h.append e x h.low h.fits (λ s le k. (h.goes s le k).1) (h.lands e refl) (tx_of m c)
  answered c w _ _ _ _ (EndJudged own p t e so what of came is k lacks) h = judges_say own p.view w.at e so what k (λ d i needs. has_decision own w.at e (subst (SeesIn own) of h.1) is lacks d i needs) (tx_of m c)
  answered c w _ _ _ _ (DecideJudged own p at e d so of t k is v s lacks) h = λ d i needs. inl (has_decision own at e (subst (SeesIn own) of h.1) is lacks d i needs)
  answered c w _ _ _ _ x h = tt

  tells : (c : Client m) (w : Work m) (p : Place m) (d : Client m) (ns : List (NoteOf m)) → IsTold m c w p d ns → Here c w p → EachSays ns
  tells c w _ _ _ (IsCommitted bs p d) h = one_says _ (inr (blind_say h.append.draft p d h.fits (h.lands (At p d) refl)))
  tells c w _ _ _ (IsRescued x bs p d) h = one_says (note m 0 x) (free_say 0 x h.fits)
  tells c w _ _ _ (IsMarked n o mark bs p d) h =
      and_says (note m n (told.Committed p)) (note m 0 (told.Marked o mark) ∷ []) (inr (blind_say h.append.draft p d h.fits (h.lands (At p d) refl))) (one_says (note m 0 (told.Marked o mark)) tt)
  tells c w _ _ _ (PlaysOther own p k) h = none_says
  tells c w _ _ _ x h = one_says _ tt

  ends_good : (c : Client m) (w : Work m) (p : Place m) (x : Moved m) → End m c w p x → At' c w p → Good x
  ends_good c w p _ (GoesOn d t bs x) h = record { held = goes_held c w p d t bs x h.1; says = none_says }
  ends_good c w p _ (LearnsNewer t x) h = record { held = learns_held c w p t x h.1; says = none_says }
  ends_good c w p _ (Syncs d v os x) h = syncs_on d v os (synced c w p d v os x h.1)
  ends_good c w p _ (Appends d e y ns x) h = appended c w p d e y ns x h.0 h.1
  ends_good c w p _ (Refuses d n why x) h = record { held = tt; says = one_says (note m n (told.Refused why)) tt }
  ends_good c w p _ (Answers d n what x) h = record { held = tt; says = one_says (note m n what) (answered c w p d n what x h.1) }
  ends_good c w p _ (Tells d ns x) h = record { held = tt; says = tells c w p d ns x h.1 }

  -- Deliveries.

  abbrev LandsTask : Task m → Option AppendEnd → Type 0
  LandsTask t end = LandsBy m es (append_of m t) end

  -- a message of a node comes
  module _ (from : NodeId) (rid : ℕ) (y : Msg) (got : Got from rid y) where
    -- what is outstanding was numbered below the next number
    abbrev pub Below : Client m → Task m → Type 0
    Below c t = (o : Out) → Has (task_awaited m c.stand t) o → o.rid < c.next

    -- of work that may be none
    abbrev pub BelowIn : Client m → Option (Work m) → Type 0
    BelowIn c None = Unit {0}
    BelowIn c (Some w) = (t : Task m) → w.hand ≡ Doing t → Below c t

    module _ (c : Client m) (w : Work m) (l : Le c) where
      fed_here : (t : Task m) → TaskHeld c.next w.at w.command t → Asked (task_awaited m c.stand t) from rid → Below c t → LandsTask t (task_ends m c t from.num (reply y)) → Here c w (Feeds t from.num rid (reply y))
      unfolding task_asks
      fed_here (Appending b z) k a below lands = record {
        next = c.next;
        append = b;
        low = l;
        fits = k;
        keeps = feed_keeps c.stand b from.num (reply y) c.next;
        lands = λ e is. lands b e refl is;
        goes = λ s le ok. feed_ok Got c.stand s b from.num c.next from rid y ok got (let u = below a.of a.has in let e = a.number in omega (arith, u, e)) a;
      }
      fed_here (Syncing s) k a below lands = k
      fed_here (Walking v os) k a below lands = k
      fed_here t k a below lands = tt

      newer_here : (t : Task m) (q : Layout) → TaskHeld c.next w.at w.command t → LandsTask t (again_ends m (stands m c q) t) → Here c w (Newer t from.num rid q)
      newer_here (Appending a z) q k lands = record {
        next = c.next;
        append = a;
        low = l;
        fits = k;
        keeps = again_keeps q a c.next;
        lands = λ e is. lands a e refl is;
        goes = λ s le ok. again_ok Got q s a c.next le ok;
      }
      newer_here (Syncing s) q k lands = k
      newer_here (Walking v os) q k lands = k
      newer_here t q k lands = tt

    fed_good : (c : Client m) → Le c → Held c → BelowIn c c.work → LandsBy m es (append_by m c.work) (work_ends m c c.work from rid (reply y)) → EachDelivery m objects es Sees c c.work from rid (reply y) → Good (step.feed m c c.work from rid (reply y))
    fed_good c l k below lands each = delivered m At' Good ends_good way (over_walks m At' Good ends_good walked_way) c from rid (reply y) (record { held = k; says = none_says })
        (λ w t has doing a other. (
          l,
          fed_here c w l t (subst (λ (d : Hand m). TaskHeld c.next w.at w.command (task_in m d)) doing (subst (WorkHeld c.next) has k)) (asked (task_awaited m c.stand t) from rid a) (subst (BelowIn c) has below t doing)
              (λ b e is k. lands b e (ap (append_by m) has ∙ (ap (λ (d : Hand m). append_of m (task_in m d)) doing ∙ is)) (end_fed m c from rid (reply y) w t has doing a other ∙ k)),
          each_fed m objects es Sees c from rid (reply y) each w t has doing a other,
        ))
        (λ w q has is e. (l, newer_here c w l (task_in m w.hand) q (subst (WorkHeld c.next) has k) (λ b z of k. lands b z (ap (append_by m) has ∙ of) (end_newer m c from rid (reply y) w q has is e ∙ k)), each_newer m objects es Sees c from rid (reply y) each w q has is e))

    pub feed_good : (c : Client m) (o : Option (Work m)) → c.work ≡ o → lo ≤ c.next → Held c → BelowIn c o → LandsBy m es (append_by m o) (work_ends m c o from rid (reply y)) → EachDelivery m objects es Sees c o from rid (reply y)
        → Good (step.feed m c o from rid (reply y))
    feed_good c o is l k below lands each =
        subst (λ (z : Option (Work m)). BelowIn c z → LandsBy m es (append_by m z) (work_ends m c z from rid (reply y)) → EachDelivery m objects es Sees c z from rid (reply y) → Good (step.feed m c z from rid (reply y))) is
        (λ below lands each. fed_good c l k below lands each) below lands each

  -- Commands.

  -- an end without writes is of a transaction that has put nothing
  abbrev pub EndsIdle : Client m → CommandOf m → Type 0
  EndsIdle c cmd.End = (t : Tx) → c.tx ≡ Some t → (length t.writes == 0) ≡ true → Idle t.number
  EndsIdle c x = Unit {0}

  -- a command that walks isn't `end`
  ends_none : (c : Client m) (next at : ℕ) (x : CommandOf m) → IsWalked m c x → EndsAt next at x
  ends_none c next at _ (WalksFate p) = tt
  ends_none c next at _ k = tt

  takes_good : (c : Client m) (x : CommandOf m) → c.work ≡ None → Le c → EndsIdle c x → (y : Moved m) → Taken m c x y → Good y
  unfolding appends append_start commit_record
  takes_good c _ free l idle _ (SaidAtOnce x d ns s) = record { held = subst (WorkHeld d.next) (sym (said_work m c x d ns s ∙ free)) tt; says = said x d ns idle s }
    where
      said : (x : CommandOf m) (d : Client m) (ns : List (NoteOf m)) → EndsIdle c x → IsSaid m c x d ns → EachSays ns
      said _ _ _ idle (NoTxOpen x is) = none_says
      said _ _ _ idle (NoViewKept o q t at is a b) = none_says
      said _ _ _ idle (NoStateKept o q t at v is a b e) = none_says
      said _ _ _ idle (ReadsOnly t is e) =
          and_says (note m t.number told.End) (note m t.number (told.Committed (step.snapshot_or m t.snapshot)) ∷ []) tt (one_says (note m t.number (told.Committed (step.snapshot_or m t.snapshot))) (inl (idle t is e)))
      said _ _ _ idle s = one_says _ tt
  takes_good c _ free l idle _ (SyncsFirst x k) = syncs_on c _ c.hosted (ends_none c c.next 0 x k)
  takes_good c _ free l idle _ (AppendsRecord t y is e k) = record { held = purpose y k; says = one_says (note m t.number told.End) tt }
    where
      purpose : (y : Purpose m) → IsFor' m t y → Fits (c.next + 1) (begun c.next (commit_record t c.num)) y
      purpose _ (ForWrites e) = no_reads t.reads e
      purpose _ (ForJudged e) = (l, tt)
  takes_good c _ free l idle _ (ReconfBegins x n r e) = record { held = tt; says = none_says }
  takes_good c _ free l idle _ (CopyBegins u r s) = record { held = tt; says = none_says }

  pub command_good : (c : Client m) (x : CommandOf m) (o : Option Refusal) → (o ≡ None → c.work ≡ None) → lo ≤ c.next → (o ≡ None → EndsIdle c x) → Held c → Good (refused_or m c x o)
  command_good c x None free l idle k = takes_good c x (free refl) l (idle refl) (accepts m c x) (taken m c x)
  command_good c x (Some why) free l idle k = record { held = k; says = one_says _ tt }
