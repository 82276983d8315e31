-- Through each of a client's turns: what it tells, and what it keeps for the replies to come.
use Rattle.std.proofs.Common.{◌≡◌, ℕ, ◌+◌, ◌<◌, ◌≤◌, ◌^◌, List, [], ◌∷◌, ◌++◌, true, refl, sym, subst, arith, Option, Some, None, inl, inr, ap, ◌∙◌}
use Rattle.tg_base.specs.Layouts.{Layout}
use Rattle.tg_base.specs.declared.ids.NodeId.{NodeId}
use Rattle.tg_base.specs.declared.ids.Oid.{Oid}
use Rattle.tg_base.specs.declared.msg.Msg.{Msg}
use Rattle.tg_base.specs.declared.msg.Msg.TheVariants as msg
use Rattle.tg_base.specs.declared.packet.Out.{Out}
use Rattle.tg_kind.specs.Meaning.{Meaning}
use Rattle.tg_model.specs.declared.command.Command.TheVariants as cmd
use Rattle.tg_model.specs.declared.refusal.Refusal.{Refusal}
use Rattle.tg_model.specs.declared.trace.What.TheVariants as told
use Rattle.tg_entry.specs.declared.entry.Entry.{Entry}
use Rattle.tg_model.specs.Kinds.{CommandOf, WhatOf, NoteOf}
use Rattle.tg_base.specs.Orders.{with_oid}
use Rattle.tg_protocol.specs.Words.{directory, with_nums, seqr_id}
use Rattle.tg_protocol.specs.Entries.{streams_of}
use Rattle.tg_protocol.specs.Requests.{out, awaits, Turn}
use Rattle.tg_protocol.specs.Replies.{Reply, IsFull, reply}
use Rattle.tg_protocol.specs.Appending.{Append, AppendWork, Asking, Putting, Judging, append_work_asks}
use Rattle.tg_protocol.specs.Reconfiguring.{Reconf, ReconfEnd}
use Rattle.tg_protocol.specs.Views.{Entries, view_version}
use Rattle.tg_protocol.specs.Transactions.{Tx, open_tx, tx_read, tx_put, commit_record}
use Rattle.tg_protocol.specs.Clients.{Purpose, Writes, Judged, Task, Syncing, Walking, Appending, Trimming, Copying', Reconfiguring, Hand, Work, Client, write_of, refusal, all_entries, member_entries, member_positions}
use Rattle.tg_protocol.specs.Answers.{Moved, moved, closed, syncs, replies, trim_above, own_view, play_target}
use Rattle.tg_protocol.specs.ClientSteps.{task_in, task_asks, task_awaited, after_turn, met, goes_on, learns_for, lends, takes_back, found_by, trims_with, start_walk, walks, lo_for, knows, sync_to, on_sync, stale, starts_over, gives_up, given_up_if, at_trim, walk_ended_by, walk_to, on_walk, knows_page, owns, record_lost, lost, page_known, decided_for, append_ended, append_to, on_append, trim_to, on_trims, copy_to, on_copy, stands, reconf_ended, reconf_to, on_reconf, task_feed, copies_again, task_again, on_newer, fed_if, hand_feed, latest_if, reply_feed, feed, new_work, hosts_more, puts, asked_of_state, asks_view, asks_by, asks, purpose_of, ends, accepts, refused_or, given, ClientTurn, client_command, client_deliver, client_tick, tick_by, plays_kept}
use Rattle.tg_protocol.specs.ClientSteps as step
use Rattle.tg_law_layouts.proofs.Moves.Members.{Has}
use Rattle.tg_law_cells.proofs.Cells.Justified.{Awaited, awaited_ask}
use Rattle.tg_law_replies.specs.Replies.Steps.{EachDelivery}
use Rattle.tg_law_walks.proofs.Drafts.Tails.{TailNext, tail_feed_ok, tail_start_ok}
use Rattle.tg_law_programs.proofs.Transcripts.Near.{Near, ReplyNear, LimitNear, FullNear, AppendNear, MetNear, WalkNear, append_near, again_near, start_near, walk_again_near, walk_near, TokenNear}
use Rattle.tg_law_programs.proofs.Transcripts.Votes.{ReconfNextOk, reconf_started, reconf_fed, reconf_newer}
use Rattle.tg_law_programs.proofs.Transcripts.Copied.{CopyOk, CopyNext, copy_begun, copy_fed}
use Rattle.tg_law_programs.proofs.Transcripts.Given.{Few, CommandOk, AllowedOk, SayOk, NotesOk, at_number, WhyOk}
use Rattle.tg_law_programs.proofs.Transcripts.Faults.{SmallLayout, OptOk, copying_ok, refusal_ok, allowed_of}
use Rattle.tg_law_programs.proofs.Transcripts.Blocks.{TrimsNear, AllRead, EntriesOk, VerdictOk, BlockOk, ForgetOk, MaybeNear, PastOk, RescueOk, below_ok, commit_ok, verdict_ok, outcome_ok, play_ok, forget_ok, past_ok, rescue_ok}
use Rattle.tg_law_programs.proofs.Transcripts.Spoken.{PurposeOk, TaskOk, Keeps, WorkOk, SnapshotNear, Standing, ClientOk, Good, EndReads, still, tells, refused, answered, marked, appended, synced, ReadsFor, above_near}
use Rattle.tg_law_replies.proofs.Replies.Ways.{EachAt, each_way, each_fed, each_newer}
use Rattle.tg_law_steps.proofs.Places.{Place, Feeds, Newer, OnSync, OnWalk, OnAppend, OnCopy, OnReconf, Walks, Plays, Looks, Rescues as Rescues'}
use Rattle.tg_law_steps.proofs.Ways.{Way, FeedsSync, FeedsWalk, FeedsAppend, FeedsCopy, FeedsReconf, NewerSync, NewerWalk, NewerAppend, NewerTrims, NewerCopy, NewerReconf, Confirms, Settles, EndsAtOnce, WalkEnds, StartsOver, sync_fed, walk_fed, append_fed, copy_fed as copy_fed', reconf_fed as reconf_fed', reconf_newer as reconf_newer', AllWalked, HasPlayed, LooksBack, IsRescue}
use Rattle.tg_law_steps.proofs.Ends.{End, GoesOn, LearnsNewer, Syncs, Appends, Refuses, Answers, Tells, IsGoing, SyncGoes, AppendGoes, CopyGoes, ReconfGoes, IsLearning, SyncLearns, AppendLearns, CopyLearns, ReconfLearns, IsSynced, JudgedAt, IsAppended, EndDecides, DecideDecides, SaveBegins, MarkBegins, RescueDecides, Commit', IsRefused, RecordFull, OtherFull, RecordForgotten, OtherForgotten, ReconfOvertaken, ReconfNotWhole, CopyFault, AskBlocked, AskMissing, FateBlocked, FateUnknown, FateForgotten, DecideForgotten, DecideBlocked, DecideUnknown, SaveBlocked, ForgetBlocked, ForgetUnsaved, ForgetOpen, TrimBlocked, LooksAhead, LooksForgotten, LooksBlocked, LooksMissing, RescueForgotten, RescueStuck, IsAnswered, DecidedAt, DecidedLost, JudgedSo, JudgedLost, IsSaved, AreTrimmed, IsAsked, EndBlocked, EndUnsure, EndJudged, FateKept, FateNone, FateJudged, DecideNone, DecideJudged, TrimZero, IsTold, IsCommitted, IsRescued, IsMarked, IsCopied, IsInstalled, PlaysOther, LooksFound, RescueAbsent, RescueMissing, RescueKnown}
use Rattle.tg_law_steps.proofs.Takes.{IsSaid, HostsAlready, Hosts, Begins, Puts, Asks, ReadsOnly, Drops, Taken, SaidAtOnce, SyncsFirst, AppendsRecord, ForWrites, ForJudged, ReconfBegins, CopyBegins, taken}
use Rattle.tg_law_steps.proofs.Along.{delivered as delivered', over_walks}

-- The log is full where a sequencer says so, which an append asks for a token.

full_said : (y : Msg) (l : ℕ) → reply y ≡ IsFull l → y ≡ msg.Full l
unfolding reply
full_said y l i = grind arith

limit_near : (y : Msg) → ((l : ℕ) → y ≡ msg.Full l → Near l) → LimitNear (reply y)
limit_near y k = by (reply y) refl
  where
    by : (x : Reply) → reply y ≡ x → LimitNear x
    by (IsFull l) is = k l (full_said y l is)
    by x is = tt

asked_near : (p : Layout) (a : Append) (w : AppendWork) (from : NodeId) (rid : ℕ) (y : Msg) → ((s l : ℕ) → from ≡ seqr_id s → y ≡ msg.Full l → Near l) → awaits (append_work_asks p a w) from rid ≡ true → FullNear w (reply y)
unfolding append_work_asks
asked_near p a (Asking r) from rid y k i = limit_near y (λ l is. k p.seq l (of_one (awaited_ask (out (seqr_id p.seq) r (msg.Token p.epoch (streams_of a.draft)) ∷ []) from rid i)) is)
  where
    of_one : Awaited (out (seqr_id p.seq) r (msg.Token p.epoch (streams_of a.draft)) ∷ []) from rid → from ≡ seqr_id p.seq
    of_one z = by z.ask z.has z.to
      where
        by : (o : Out) → Has (out (seqr_id p.seq) r (msg.Token p.epoch (streams_of a.draft)) ∷ []) o → o.to ≡ from → from ≡ seqr_id p.seq
        by o (inl e) to = sym to ∙ ap (λ (x : Out). x.to) e
        by o (inr h) to = absurd h
asked_near p a (Putting j) from rid y k i = tt
asked_near p a (Judging j) from rid y k i = tt

trims_more : (m : Meaning) (Named : Oid → Type 0) (ts : List (Oid × ℕ)) (o : Oid) (g : Option ℕ) → TrimsNear Named m ts → MetNear g → TrimsNear Named m (trims_with m ts o g)
trims_more m Named ts o None k n = k
trims_more m Named ts o (Some b) k n = added ts k
  where
    added : (xs : List (Oid × ℕ)) → TrimsNear Named m xs → TrimsNear Named m (xs ++ (o, b) ∷ [])
    added [] k = (n, tt)
    added (x ∷ xs) k = (k.0, added xs k.1)

module _ (m : Meaning) (Named : Oid → Type 0) (OpOk : m.op → Type 0) (AskOk : m.ask → Type 0) (own_directory : Named directory) (marks_ok : (o : Oid) (n : ℕ) → Named o → Near n → OpOk (m.mark_op o n)) (objects : List Oid) (es : Entries) where
  abbrev P : Client m → Work m → Type 0
  P c w = EndReads m Named OpOk AskOk own_directory marks_ok c w

  abbrev Kept' : Work m → Type 0
  Kept' w = Keeps m Named OpOk AskOk own_directory marks_ok w

  abbrev Says : ℕ → WhatOf m → Type 0
  Says x what = SayOk m Named OpOk AskOk x what

  abbrev Aim : Purpose m → Type 0
  Aim y = PurposeOk m Named OpOk AskOk own_directory marks_ok y

  -- within a step, of a client that stands at this epoch or below it
  module _ (top : ℕ) (high : top < 2 ^ 64) where
    abbrev Stands : Client m → Type 0
    Stands c = Standing m Named OpOk AskOk own_directory marks_ok top c

    abbrev Fine : Moved m → Type 0
    Fine x = Good m Named OpOk AskOk own_directory marks_ok top x

    abbrev In : Client m → Type 0
    In c = ClientOk m Named OpOk AskOk own_directory marks_ok top c

    abbrev Job : Task m → Type 0
    Job t = TaskOk m Named OpOk AskOk own_directory marks_ok top t

    -- Along a turn.

    abbrev Here : Client m → Work m → Place m → Type 0
    Here c w (Feeds (Syncing s) n rid x) = TailNext (sync_fed m c s n x).to
    Here c w (Feeds (Walking k os) n rid x) = WalkNear (walk_fed m c k n x).to
    Here c w (Feeds (Appending a y) n rid x) = Aim y × AppendNear (append_fed m c a n x).to
    Here c w (Feeds (Trimming t) n rid x) = Unit {0}
    Here c w (Feeds (Copying' y) n rid x) = CopyOk y × CopyNext (copy_fed' m c y n x).to
    Here c w (Feeds (Reconfiguring r) n rid x) = ReconfNextOk top (reconf_fed' m c r n rid x).to
    Here c w (Newer (Reconfiguring r) n rid q) = ReconfNextOk top (reconf_newer' m c r n rid q).to
    Here c w (Newer (Appending a y) n rid q) = (q.epoch ≤ top) × Aim y × TokenNear a.token
    Here c w (Newer (Copying' y) n rid q) = (q.epoch ≤ top) × CopyOk y
    Here c w (Newer t n rid q) = (q.epoch ≤ top) × Unit {0}
    Here c w (OnSync bs to) = TailNext to
    Here c w (OnWalk o os to) = WalkNear to
    Here c w (OnAppend y bs to) = Aim y × AppendNear to
    Here c w (OnCopy y to) = CopyOk y × CopyNext to
    Here c w (OnReconf to) = ReconfNextOk top to
    Here c w (Plays own p) = EntriesOk Named own × BlockOk Named p.came
    Here c w (Looks at o q) = (w.command ≡ cmd.AskAt at o q) × EntriesOk Named (member_entries m c w w.oids)
    Here c w (Rescues' at) = (w.command ≡ cmd.Rescue at) × EntriesOk Named (all_entries m c w w.oids)
    Here c w p = Unit {0}

    abbrev At' : Client m → Work m → Place m → Type 0
    At' c w p = Stands c × Kept' w × Here c w p × EachAt m objects es P c w p

    stands_way : (c : Client m) (w : Work m) (p : Place m) (d : Client m) (v : Work m) (q : Place m) → Way m c w p d v q → Stands c → Here c w p → Stands d
    stands_way c w _ _ _ _ (NewerSync s n rid q) k h = (h.0, k.1)
    stands_way c w _ _ _ _ (NewerWalk j os n rid q) k h = (h.0, k.1)
    stands_way c w _ _ _ _ (NewerAppend a y n rid q) k h = (h.0, k.1)
    stands_way c w _ _ _ _ (NewerTrims t n rid q) k h = (h.0, k.1)
    stands_way c w _ _ _ _ (NewerCopy y n rid q fine) k h = (h.0, k.1)
    stands_way c w _ _ _ _ x k h = k

    kept_way : (c : Client m) (w : Work m) (p : Place m) (d : Client m) (v : Work m) (q : Place m) → Way m c w p d v q → Kept' w → Here c w p → Kept' v
    kept_way c w _ _ _ _ (Confirms bs t ls) k h = (k.0, k.1, h, k.3, k.4)
    kept_way c w _ _ _ _ (Settles bs t ls s) k h = (k.0, k.1, h, k.3, k.4)
    kept_way c w _ _ _ _ (EndsAtOnce o os x e) k h = (k.0, k.1, k.2, trims_more m Named w.trims o x.gone k.3 (subst WalkNear e (start_near c.stand o _ w.lo c.cells c.next)), k.4)
    kept_way c w _ _ _ _ (WalkEnds o os x) k h = (k.0, k.1, k.2, trims_more m Named w.trims o x.gone k.3 h, k.4)
    kept_way c w _ _ _ _ (StartsOver o os x b e f z) k h = (k.0, k.1, k.2, tt, k.4)
    kept_way c w _ _ _ _ x k h = k

    here_way : (c : Client m) (w : Work m) (p : Place m) (d : Client m) (v : Work m) (q : Place m) → Way m c w p d v q → Here c w p → Here d v q
    here_way c w _ _ _ _ (FeedsSync s n rid x) h = h
    here_way c w _ _ _ _ (FeedsWalk k os n rid x) h = h
    here_way c w _ _ _ _ (FeedsAppend a y n rid x) h = h
    here_way c w _ _ _ _ (FeedsCopy y n rid x) h = h
    here_way c w _ _ _ _ (FeedsReconf r n rid x) h = h
    here_way c w _ _ _ _ (NewerSync s n rid q) h = tail_start_ok s.oids c.next
    here_way c w _ _ _ _ (NewerWalk k os n rid q) h = walk_again_near q k c.next
    here_way c w _ _ _ _ (NewerAppend a y n rid q) h = (h.1, again_near q a h.2 c.next)
    here_way c w _ _ _ _ (NewerCopy y n rid q fine) h = (h.1, copy_begun y.unit y.range y.stripe c.next h.1)
    here_way c w _ _ _ _ (NewerReconf r n rid q) h = h
    here_way c w _ _ _ _ x h = tt

    way : (c : Client m) (w : Work m) (p : Place m) (d : Client m) (v : Work m) (q : Place m) → Way m c w p d v q → At' c w p → At' d v q
    way c w p d v q x h = (stands_way c w p d v q x h.0 h.2, kept_way c w p d v q x h.1 h.2, here_way c w p d v q x h.2, each_way m objects es P c w p d v q x h.3)

    -- the entries from which a command plays or looks back
    own_reads : (c : Client m) (w : Work m) (x : CommandOf m) → plays_kept m x ≡ true → ReadsFor m Named OpOk AskOk own_directory marks_ok c w x → AllRead Named (all_entries m c w c.hosted)
    own_reads c w (cmd.AskAt at o q) k r = absurd (cc)
    own_reads c w (cmd.Rescue at) k r = absurd (cc)
    own_reads c w x k r = r

    walked_way : (c : Client m) (w : Work m) (d : Client m) (q : Place m) → AllWalked m c w d q → At' c w (Walks []) → At' d w q
    walked_way c w _ _ (HasPlayed k) h =
        let own = below_ok Named m c.cells w.tail (with_nums c.own (member_positions m w c.hosted)) h.1.2 (own_reads c w w.command k h.3) in
        (h.0, h.1, (own, play_ok Named m (own_view m c w (all_entries m c w c.hosted)) (all_entries m c w c.hosted) (play_target m w w.command) own), tt)
    walked_way c w _ _ (LooksBack at o q of) h =
        (h.0, h.1, (of, below_ok Named m c.cells w.tail (member_positions m w w.oids) h.1.2 (subst (λ (x : CommandOf m). ReadsFor m Named OpOk AskOk own_directory marks_ok c w x) of h.3)), tt)
    walked_way c w _ _ (IsRescue at of) h =
        (h.0, h.1, (of, below_ok Named m c.cells w.tail (with_nums c.own (member_positions m w w.oids)) h.1.2 (subst (λ (x : CommandOf m). ReadsFor m Named OpOk AskOk own_directory marks_ok c w x) of h.3)), tt)

    -- What a turn comes to.

    near : (n : ℕ) → n ≤ 2 ^ 62 → Near n
    near n le = omega (arith, le)

    -- what its command gave
    gave : (w : Work m) (x : CommandOf m) → Kept' w → w.command ≡ x → CommandOk m Named OpOk AskOk x
    gave w x k of = subst (CommandOk m Named OpOk AskOk) of k.0

    allows : (w : Work m) (x : CommandOf m) → Kept' w → w.command ≡ x → AllowedOk m Named OpOk AskOk x
    allows w x k of = subst (AllowedOk m Named OpOk AskOk) of k.1

    -- a trim above a position
    above : (w : Work m) (at b : ℕ) → Kept' w → trim_above m w.trims at ≡ Some b → Near b
    above w at b k t = subst (MaybeNear Named m) t (above_near m Named OpOk AskOk own_directory marks_ok top w.trims at k.3)

    snapped : (c : Client m) (t : Tx) → Stands c → c.tx ≡ Some t → 0 < t.number
    snapped c t s has = (subst (SnapshotNear m Named OpOk AskOk own_directory marks_ok) has s.1).1

    refused_ok : (c : Client m) (w : Work m) (p : Place m) (d : Client m) (n : ℕ) (why : Refusal) → IsRefused m c w p d n why → Stands c → Kept' w → Here c w p → Stands d × WhyOk m Named OpOk AskOk why
    refused_ok c w _ _ _ _ (RecordFull y bs l r) s k h = (s, h.1)
    refused_ok c w _ _ _ _ (OtherFull y bs n l r) s k h = (s, h.1)
    refused_ok c w _ _ _ _ (RecordForgotten y bs p b r) s k h = ((s.0, tt), h.1)
    refused_ok c w _ _ _ _ (OtherForgotten y bs n p b r) s k h = (s, h.1)
    refused_ok c w _ _ _ _ (ReconfOvertaken e p) s k h = ((h.1, s.1), let l = h.0 in omega (arith, l, high))
    refused_ok c w _ _ _ _ (ReconfNotWhole u q p) s k h = ((h.2, s.1), (h.1, h.0))
    refused_ok c w _ _ _ _ (CopyFault y n rid q why is) s k h = ((h.0, s.1), subst (OptOk m Named OpOk AskOk) is (copying_ok m Named OpOk AskOk q y.unit y.range y.stripe h.1.0 h.1.1 h.1.2))
    refused_ok c w _ _ _ _ (AskBlocked own p o q r x of came) s k h = (s, subst (BlockOk Named) came h.1)
    refused_ok c w _ _ _ _ (AskMissing own p o q to t of came has none) s k h = (s, (gave w (cmd.Ask o q) k of).0)
    refused_ok c w _ _ _ _ (FateBlocked own p at q x of came b) s k h = (s, subst (BlockOk Named) came h.1)
    refused_ok c w _ _ _ _ (FateUnknown own p at e o of pass f i v) s k h = (s, (gave w (cmd.Fate at) k of, subst (VerdictOk Named) v (verdict_ok Named m p.view own at e (commit_ok Named own at e h.0 i))))
    refused_ok c w _ _ _ _ (FateForgotten own p at b of pass f t) s k h = (s, (gave w (cmd.Fate at) k of, above w at b k t))
    refused_ok c w _ _ _ _ (DecideForgotten own p at b of t) s k h = (s, (gave w (cmd.Decide at) k of, above w at b k t))
    refused_ok c w _ _ _ _ (DecideBlocked own p at q x of t came b) s k h = (s, subst (BlockOk Named) came h.1)
    refused_ok c w _ _ _ _ (DecideUnknown own p at e o of t pass i v) s k h = (s, (gave w (cmd.Decide at) k of, subst (VerdictOk Named) v (outcome_ok Named m p.view own at e (commit_ok Named own at e h.0 i))))
    refused_ok c w _ _ _ _ (SaveBlocked own p o q x of came) s k h = (s, subst (BlockOk Named) came h.1)
    refused_ok c w _ _ _ _ (ForgetBlocked own p o n q x of came) s k h = (s, subst (BlockOk Named) came h.1)
    refused_ok c w _ _ _ _ (ForgetUnsaved own p to o n of came f) s k h = (s, (gave w (cmd.Forget o n) k of).0)
    refused_ok c w _ _ _ _ (ForgetOpen own p to o n at of came f) s k h = (s, subst (ForgetOk Named m) f (forget_ok Named m own o n h.0))
    refused_ok c w _ _ _ _ (TrimBlocked own p q x of came) s k h = (s, subst (BlockOk Named) came h.1)
    refused_ok c w _ _ _ _ (LooksAhead at o q l) s k h = (s, near w.tail k.2)
    refused_ok c w _ _ _ _ (LooksForgotten at o q b l e) s k h = (s, ((gave w (cmd.AskAt at o q) k h.0).0, subst (PastOk Named m) e (past_ok Named m (member_entries m c w w.oids) w.trims w.oids c.objects o at h.1 k.3)))
    refused_ok c w _ _ _ _ (LooksBlocked at o q p r x l e came) s k h = (s, subst (BlockOk Named) came (subst (PastOk Named m) e (past_ok Named m (member_entries m c w w.oids) w.trims w.oids c.objects o at h.1 k.3)))
    refused_ok c w _ _ _ _ (LooksMissing at o q p to l e came none) s k h = (s, (gave w (cmd.AskAt at o q) k h.0).1)
    refused_ok c w _ _ _ _ (RescueForgotten at b e t) s k h = (s, (gave w (cmd.Rescue at) k h.0, above w at b k t))
    refused_ok c w _ _ _ _ (RescueStuck at q x e) s k h = (s, subst (RescueOk Named m) e (rescue_ok Named m (all_entries m c w w.oids) w.trims w.oids c.objects at h.1 (gave w (cmd.Rescue at) k h.0)))
    refused_ok c w _ _ _ _ x s k h = (s, tt)

    answered_ok : (c : Client m) (w : Work m) (p : Place m) (d : Client m) (n : ℕ) (what : WhatOf m) → IsAnswered m c w p d n what → Stands c → Kept' w → Here c w p → Stands d × Says n what
    answered_ok c w _ _ _ _ (DecidedAt x bs p page no_end) s k h = (s, h.0)
    answered_ok c w _ _ _ _ (DecidedLost x bs e lost no_end) s k h = (s, h.0)
    answered_ok c w _ _ _ _ (JudgedSo x bs p page of) s k h = ((s.0, tt), at_number m Named OpOk AskOk _ x h.0)
    answered_ok c w _ _ _ _ (JudgedLost x bs e lost of) s k h = ((s.0, tt), at_number m Named OpOk AskOk _ x h.0)
    answered_ok c w _ _ _ _ (IsSaved o u bs p page) s k h = (s, (h.0.0, h.1, h.0.1))
    answered_ok c w _ _ _ _ (AreTrimmed b e) s k h = (s, tt)
    answered_ok c w _ _ _ _ (IsAsked own p o q to t z of came has state) s k h =
        let g = gave w (cmd.Ask o q) k of in let l = snapped c t s has in ((s.0, (near w.tail k.2, l)), (g.0, g.1, allows w (cmd.Ask o q) k of, near w.tail k.2, l))
    answered_ok c w _ _ _ _ (EndBlocked own p q x of came) s k h = ((s.0, tt), tt)
    answered_ok c w _ _ _ _ (EndUnsure own p to of came i) s k h = ((s.0, tt), tt)
    answered_ok c w _ _ _ _ (EndJudged own p to e _ _ of came i (Commit' v) l) s k h = ((s.0, tt), k.4)
    answered_ok c w _ _ _ _ (EndJudged own p to e _ _ of came i j l) s k h = ((s.0, tt), tt)
    answered_ok c w _ _ _ _ (FateKept own p at so of pass f) s k h = (s, gave w (cmd.Fate at) k of)
    answered_ok c w _ _ _ _ (FateNone own p at of pass f i t) s k h = (s, gave w (cmd.Fate at) k of)
    answered_ok c w _ _ _ _ (FateJudged own p at e d so of pass f i v z t) s k h = (s, gave w (cmd.Fate at) k of)
    answered_ok c w _ _ _ _ (DecideNone own p at of t pass i) s k h = (s, gave w (cmd.Decide at) k of)
    answered_ok c w _ _ _ _ (DecideJudged own p at e d so of t pass i v z l) s k h = (s, gave w (cmd.Decide at) k of)
    answered_ok c w _ _ _ _ (TrimZero own p to of came z) s k h = (s, tt)

    appended_ok : (c : Client m) (w : Work m) (p : Place m) (d : Client m) (e : Entry) (y : Purpose m) (ns : List (NoteOf m)) → IsAppended m c w p d e y ns → Stands c → Kept' w → Here c w p → Stands d × Aim y × NotesOk m Named OpOk AskOk ns
    appended_ok c w _ _ _ _ _ (EndDecides own p to e _ _ of came i (Commit' v) l) s k h = (s, k.4, tt)
    appended_ok c w _ _ _ _ _ (EndDecides own p to e _ _ of came i j l) s k h = (s, tt, tt)
    appended_ok c w _ _ _ _ _ (DecideDecides own p at e d so of t pass i v z l) s k h = (s, gave w (cmd.Decide at) k of, tt)
    appended_ok c w _ _ _ _ _ (SaveBegins own p to o of came l) s k h = (s, (gave w (cmd.Checkpoint o) k of, near w.tail k.2), tt)
    appended_ok c w _ _ _ _ _ (MarkBegins own p to o n of came may) s k h = let g = gave w (cmd.Forget o n) k of in (s, g, (tt, ((own_directory, marks_ok o n g.0 g.1), (tt, tt))))
    appended_ok c w _ _ _ _ _ (RescueDecides at so e is i) s k h = (s, gave w (cmd.Rescue at) k h.0, tt)

    told_fine : (c : Client m) (w : Work m) (p : Place m) (d : Client m) (ns : List (NoteOf m)) → IsTold m c w p d ns → Stands c → Kept' w → Here c w p → Fine (replies m d ns)
    told_fine c w _ _ _ (IsCommitted bs p page) s k h = tells m Named OpOk AskOk own_directory marks_ok top (closed m (owns m c p page)) _ (told.Committed p) (s.0, tt) h.1
    told_fine c w _ _ _ (IsRescued x bs p page) s k h = tells m Named OpOk AskOk own_directory marks_ok top (knows_page m c p page) 0 x s h.0
    told_fine c w _ _ _ (IsMarked n o mark bs p page) s k h = marked m Named OpOk AskOk own_directory marks_ok top (owns m c p page) n 0 (told.Committed p) (told.Marked o mark) s h.1 h.0
    told_fine c w _ _ _ (IsCopied y e) s k h = tells m Named OpOk AskOk own_directory marks_ok top c 0 (told.Copied y.unit y.range y.stripe) s h.0
    told_fine c w _ _ _ (IsInstalled e p) s k h = tells m Named OpOk AskOk own_directory marks_ok top (stands m c p) 0 (told.Installed e) (h.1, s.1) (let l = h.0 in omega (arith, l, high))
    told_fine c w _ _ _ (PlaysOther own p is) s k h = record { notes = tt; now = record { work = tt; stand = s } }
    told_fine c w _ _ _ (LooksFound at o q p to z l e came is) s k h = let g = gave w (cmd.AskAt at o q) k h.0 in tells m Named OpOk AskOk own_directory marks_ok top c 0 (told.Past o q at (m.answers z q)) s (g.1, g.2, allows w (cmd.AskAt at o q) k h.0, g.0)
    told_fine c w _ _ _ (RescueAbsent at e t) s k h = tells m Named OpOk AskOk own_directory marks_ok top c 0 (told.Rescued at None) s (gave w (cmd.Rescue at) k h.0)
    told_fine c w _ _ _ (RescueMissing at so e i) s k h = tells m Named OpOk AskOk own_directory marks_ok top c 0 (told.Rescued at None) s (gave w (cmd.Rescue at) k h.0)
    told_fine c w _ _ _ (RescueKnown at so e) s k h = tells m Named OpOk AskOk own_directory marks_ok top c 0 (told.Rescued at (Some so)) s (gave w (cmd.Rescue at) k h.0)

    going_ok : (c : Client m) (w : Work m) (p : Place m) (d : Client m) (t : Task m) (bs : List Out) → IsGoing m c w p d t bs → Stands c → Here c w p → Stands d × Job t
    going_ok c w _ _ _ _ (SyncGoes bs x) s h = (s, h)
    going_ok c w _ _ _ _ (AppendGoes y bs a) s h = (s, (h.1, h.0))
    going_ok c w _ _ _ _ (CopyGoes x y) s h = (s, h.1)
    going_ok c w _ _ _ _ (ReconfGoes r) s h = ((h.0, s.1), h)
    going_ok c w _ _ _ _ x s h = (s, tt)

    learning_ok : (c : Client m) (w : Work m) (p : Place m) (t : Task m) → IsLearning m c w p t → Here c w p → Job t
    learning_ok c w _ _ (SyncLearns bs x) h = h
    learning_ok c w _ _ (AppendLearns y bs a) h = (h.1, h.0)
    learning_ok c w _ _ (CopyLearns x y) h = h.1
    learning_ok c w _ _ (ReconfLearns r) h = h
    learning_ok c w _ _ x h = tt

    syncs_fine : (c : Client m) (w : Work m) (p : Place m) (d : Client m) (v : Work m) (os : List Oid) → IsSynced m c w p d v os → Stands c → Kept' w → Here c w p → Fine (syncs m d v os)
    syncs_fine c w _ _ _ _ (JudgedAt bs p page) s k h = synced m Named OpOk AskOk own_directory marks_ok top (owns m c p page) (record w { at = p }) c.hosted s (k.0, k.1, k.2, k.3, h.1)
    syncs_fine c w _ d v os x s k h = synced m Named OpOk AskOk own_directory marks_ok top d v os s k

    ends_fine : (c : Client m) (w : Work m) (p : Place m) (x : Moved m) → End m c w p x → At' c w p → Fine x
    ends_fine c w p _ (GoesOn d t bs x) h = let g = going_ok c w p d t bs x h.0 h.2 in record { notes = tt; now = record { work = (h.1, g.1); stand = g.0 } }
    ends_fine c w p _ (LearnsNewer t x) h = record { notes = tt; now = record { work = (h.1, learning_ok c w p t x h.2); stand = h.0 } }
    ends_fine c w p _ (Syncs d v os x) h = syncs_fine c w p d v os x h.0 h.1 h.2
    ends_fine c w p _ (Appends d e y ns x) h = let g = appended_ok c w p d e y ns x h.0 h.1 h.2 in appended m Named OpOk AskOk own_directory marks_ok top d w e y ns g.0 h.1 g.1 g.2
    ends_fine c w p _ (Refuses d n why x) h = let g = refused_ok c w p d n why x h.0 h.1 h.2 in refused m Named OpOk AskOk own_directory marks_ok top d n why g.0 g.1
    ends_fine c w p _ (Answers d n what x) h = let g = answered_ok c w p d n what x h.0 h.1 h.2 in answered m Named OpOk AskOk own_directory marks_ok top d n what g.0 g.1
    ends_fine c w p _ (Tells d ns x) h = told_fine c w p d ns x h.0 h.1 h.2

  -- An awaited answer, and a newer layout, of a client that stood at an epoch or below it: it stands one further at most.
  module _ (top : ℕ) (low : 2 ^ 32 ≤ top) (high : top + 1 < 2 ^ 64) where
    abbrev Fine' : Moved m → Type 0
    Fine' x = Good m Named OpOk AskOk own_directory marks_ok (top + 1) x

    abbrev Old : Task m → Type 0
    Old t = TaskOk m Named OpOk AskOk own_directory marks_ok top t

    task_up : (t : Task m) → Old t → TaskOk m Named OpOk AskOk own_directory marks_ok (top + 1) t
    task_up (Syncing s) k = k
    task_up (Walking j os) k = k
    task_up (Appending a y) k = k
    task_up (Trimming t) k = k
    task_up (Copying' x) k = k
    task_up (Reconfiguring r) k = (let l = k.0 in omega (arith, l), k.1)

    work_up : (w : Option (Work m)) → WorkOk m Named OpOk AskOk own_directory marks_ok top w → WorkOk m Named OpOk AskOk own_directory marks_ok (top + 1) w
    work_up None k = tt
    work_up (Some w) k = (k.0, task_up (task_in m w.hand) k.1)

    pub up : (c : Client m) → ClientOk m Named OpOk AskOk own_directory marks_ok top c → ClientOk m Named OpOk AskOk own_directory marks_ok (top + 1) c
    up c h = record { work = work_up c.work h.work; stand = (let l = h.stand.0 in omega (arith, l), h.stand.1) }

    -- what an append is told while it asks for a token
    abbrev Limits : Task m → Reply → Type 0
    Limits (Appending a z) x = FullNear a.work x
    Limits t x = Unit {0}

    limits_of : (p : Layout) (t : Task m) (from : NodeId) (rid : ℕ) (y : Msg) → ((s l : ℕ) → from ≡ seqr_id s → y ≡ msg.Full l → Near l) → awaits (task_awaited m p t) from rid ≡ true → Limits t (reply y)
    unfolding task_asks
    limits_of p (Appending a z) from rid y k i = asked_near p a a.work from rid y k i
    limits_of p (Syncing s) from rid y k i = tt
    limits_of p (Walking v os) from rid y k i = tt
    limits_of p (Trimming t) from rid y k i = tt
    limits_of p (Copying' x) from rid y k i = tt
    limits_of p (Reconfiguring z) from rid y k i = tt

    -- what an awaited answer makes of a task
    module _ (c : Client m) (from : NodeId) (rid : ℕ) (y : Msg) (near : ReplyNear (reply y)) (few : Few from.num) (w : Work m) where
      task_fed : (t : Task m) → Old t → Limits t (reply y) → Here (top + 1) high c w (Feeds t from.num rid (reply y))
      task_fed (Syncing s) j u = tail_feed_ok c.stand s from.num y c.next j
      task_fed (Walking v os) j u = walk_near c.stand v from.num (reply y) c.next near
      task_fed (Appending a z) j u = (j.1, append_near c.stand a j.0 c.next from.num (reply y) near u)
      task_fed (Trimming t) j u = tt
      task_fed (Copying' x) j u = (j, copy_fed c.stand x j from.num c.next (reply y))
      task_fed (Reconfiguring z) j u = reconf_fed top z j c.next from.num rid (reply y) near few

    -- and a newer layout
    task_newer : (c : Client m) (w : Work m) (t : Task m) (n rid : ℕ) (q : Layout) → q.epoch < 2 ^ 32 → Old t → Here (top + 1) high c w (Newer t n rid q)
    task_newer c w (Syncing s) n rid q l j = (omega (arith, l, low), tt)
    task_newer c w (Walking v os) n rid q l j = (omega (arith, l, low), tt)
    task_newer c w (Appending a z) n rid q l j = (omega (arith, l, low), j.1, j.0)
    task_newer c w (Trimming t) n rid q l j = (omega (arith, l, low), tt)
    task_newer c w (Copying' x) n rid q l j = (omega (arith, l, low), j)
    task_newer c w (Reconfiguring z) n rid q l j = reconf_newer top z j c.next n rid q (omega (arith, l, low))

    feed_turn : (c : Client m) (from : NodeId) (rid : ℕ) (y : Msg) → ClientOk m Named OpOk AskOk own_directory marks_ok top c → ReplyNear (reply y) → ((s l : ℕ) → from ≡ seqr_id s → y ≡ msg.Full l → Near l) → Few from.num → EachDelivery m objects es P c c.work from rid (reply y) → Fine' (feed m c c.work from rid (reply y))
    feed_turn c from rid y h l u f r =
        delivered' m (At' (top + 1) high) Fine' (ends_fine (top + 1) high) (way (top + 1) high) (over_walks m (At' (top + 1) high) Fine' (ends_fine (top + 1) high) (walked_way (top + 1) high)) c from rid (reply y)
        (still m Named OpOk AskOk own_directory marks_ok (top + 1) c (up c h))
        (λ w t has doing a other. let k = held w has in
        ((up c h).stand, k.0, task_fed c from rid y l f w t (subst (λ (d : Hand m). Old (task_in m d)) doing k.1) (limits_of c.stand t from rid y u a), each_fed m objects es P c from rid (reply y) r w t has doing a other))
        (λ w q has is e. let k = held w has in ((up c h).stand, k.0, task_newer c w (task_in m w.hand) from.num rid q (subst ReplyNear is l) k.1, each_newer m objects es P c from rid (reply y) r w q has is e))
      where
        held : (w : Work m) → c.work ≡ Some w → Kept' w × Old (task_in m w.hand)
        held w has = subst (WorkOk m Named OpOk AskOk own_directory marks_ok top) has h.work

    -- Commands.

    module _ (c0 : Client m) (h : ClientOk m Named OpOk AskOk own_directory marks_ok top c0) where
      stand' : Standing m Named OpOk AskOk own_directory marks_ok (top + 1) c0
      stand' = (let l = h.stand.0 in omega (arith, l), h.stand.1)

      says : (d : Client m) (n : NoteOf m) (ns : List (NoteOf m)) → d.work ≡ c0.work → Standing m Named OpOk AskOk own_directory marks_ok (top + 1) d → NotesOk m Named OpOk AskOk (n ∷ ns) → Fine' (moved m d (n ∷ ns))
      says d n ns same s k = record { notes = k; now = record { work = subst (WorkOk m Named OpOk AskOk own_directory marks_ok (top + 1)) (sym same) (work_up c0.work h.work); stand = s } }

      begins : (x : CommandOf m) → CommandOk m Named OpOk AskOk x → AllowedOk m Named OpOk AskOk x → Kept' (new_work m x)
      begins x g a = (g, a, omega arith, tt, omega arith)

      snapshot_near : (x : Option ℕ) → MetNear x → Near (step.snapshot_or m x)
      snapshot_near None n = omega arith
      snapshot_near (Some t) n = n

      snapshot : (t : Tx) → c0.tx ≡ Some t → MetNear t.snapshot × (0 < t.number)
      snapshot t has = subst (SnapshotNear m Named OpOk AskOk own_directory marks_ok) has h.stand.1

      said_fine : (x : CommandOf m) (d : Client m) (ns : List (NoteOf m)) → IsSaid m c0 x d ns → CommandOk m Named OpOk AskOk x → AllowedOk m Named OpOk AskOk x → Fine' (moved m d ns)
      said_fine _ _ _ (HostsAlready o is) g a = says c0 _ [] refl stand' (g, tt)
      said_fine _ _ _ (Hosts o is) g a = says (record c0 { hosted = with_oid o c0.hosted; view = None }) _ [] refl stand' (g, tt)
      said_fine _ _ _ Begins g a = says (record c0 { begun = c0.begun + 1; tx = Some (open_tx (c0.begun + 1)) }) _ [] refl (stand'.0, (tt, omega arith)) (tt, tt)
      said_fine _ _ _ (Puts o op t has) g a = says (record c0 { tx = Some (tx_put t (write_of m o op)) }) _ [] refl (stand'.0, snapshot t has) (g, tt)
      said_fine _ _ _ (Asks o q t at v z has snap kept is) g a =
          let s = snapshot t has in
          let n = subst MetNear snap s.0 in
          says (record c0 { tx = Some (tx_read t (record { oid = o; part = m.look q; version = view_version m v o (m.look q) }) at) }) _ [] refl (stand'.0, (n, s.1)) ((g.0, g.1, a, n, s.1), tt)
      said_fine _ _ _ (ReadsOnly t has none) g a = says (closed m c0) _ _ refl (stand'.0, tt) (tt, (snapshot_near t.snapshot (snapshot t has).0, tt))
      said_fine _ _ _ Drops g a = says (closed m c0) _ [] refl (stand'.0, tt) (tt, tt)
      said_fine _ _ _ s g a = still m Named OpOk AskOk own_directory marks_ok (top + 1) c0 (up c0 h)

      begun : (x : CommandOf m) (t : Task m) (d : Client m) (bs : List Out) → Standing m Named OpOk AskOk own_directory marks_ok (top + 1) d → Kept' (new_work m x) → TaskOk m Named OpOk AskOk own_directory marks_ok (top + 1) t → Fine' (goes_on m d (new_work m x) t bs)
      begun x t d bs s k j = record { notes = tt; now = record { work = (k, j); stand = s } }

      takes_fine : (x : CommandOf m) (y : Moved m) → Taken m c0 x y → CommandOk m Named OpOk AskOk x → AllowedOk m Named OpOk AskOk x → Fine' y
      takes_fine _ _ (SaidAtOnce x d ns s) g a = said_fine x d ns s g a
      takes_fine _ _ (SyncsFirst x k) g a = synced m Named OpOk AskOk own_directory marks_ok (top + 1) c0 (new_work m x) c0.hosted stand' (begins x g a)
      takes_fine _ _ (AppendsRecord t _ has some (ForWrites e)) g a = appended m Named OpOk AskOk own_directory marks_ok (top + 1) c0 (new_work m cmd.End) (commit_record t c0.num) Writes _ stand' (begins cmd.End tt tt) tt (tt, tt)
      takes_fine _ _ (AppendsRecord t _ has some (ForJudged e)) g a = appended m Named OpOk AskOk own_directory marks_ok (top + 1) c0 (new_work m cmd.End) (commit_record t c0.num) Judged _ stand' (begins cmd.End tt tt) tt (tt, tt)
      takes_fine _ _ (ReconfBegins x n r e) g a =
          let j = subst (λ (t : Turn Reconf ReconfEnd). ReconfNextOk (top + 1) t.to) e (reconf_started top c0.stand c0.layouts x c0.num c0.next h.stand.0) in
          begun (cmd.Reconf x) (Reconfiguring r) (stands m (record c0 { next = n }) r.stand) [] (j.0, stand'.1) (begins (cmd.Reconf x) g a) j
      takes_fine _ _ (CopyBegins u r s) g a = begun (cmd.Copy u r s) _ (record c0 { next = c0.next + 1 }) [] stand' (begins (cmd.Copy u r s) g a) g

    -- The turns.

    pub record GoodTurn (t : ClientTurn m) : Type 0 where
      pub notes : NotesOk m Named OpOk AskOk t.notes
      pub now : ClientOk m Named OpOk AskOk own_directory marks_ok (top + 1) t.now

    of_moved : (c : Client m) (y : Moved m) → Fine' y → GoodTurn (given m c y)
    of_moved c y g = record { notes = g.notes; now = record { work = g.now.work; stand = g.now.stand } }

    pub commanded : (c : Client m) (x : CommandOf m) → ClientOk m Named OpOk AskOk own_directory marks_ok top c → CommandOk m Named OpOk AskOk x → SmallLayout c.stand → GoodTurn (client_command m c x)
    unfolding client_command
    commanded c x h g small = by (refusal m c x) refl (refusal_ok m Named OpOk AskOk c x g small)
      where
        by : (o : Option Refusal) → refusal m c x ≡ o → OptOk m Named OpOk AskOk o → GoodTurn (given m c (refused_or m c x o))
        by None is k = of_moved c (accepts m c x) (takes_fine c h x (accepts m c x) (taken m c x) g (allowed_of m Named OpOk AskOk c x is))
        by (Some why) is k = record { notes = (k, tt); now = record { work = (up c h).work; stand = (up c h).stand } }

    pub delivered : (c : Client m) (from : NodeId) (rid : ℕ) (y : Msg) → ClientOk m Named OpOk AskOk own_directory marks_ok top c → ReplyNear (reply y) → ((s l : ℕ) → from ≡ seqr_id s → y ≡ msg.Full l → Near l) → Few from.num → EachDelivery m objects es P c c.work from rid (reply y) → GoodTurn (client_deliver m c from rid y)
    unfolding client_deliver
    delivered c from rid y h l u f r = of_moved c (feed m c c.work from rid (reply y)) (feed_turn c from rid y h l u f r)

    pub ticked : (c : Client m) → ClientOk m Named OpOk AskOk own_directory marks_ok top c → GoodTurn (client_tick m c)
    unfolding client_tick
    ticked c h = by c.work refl
      where
        by : (w : Option (Work m)) → c.work ≡ w → GoodTurn (tick_by m c w)
        by None is = record { notes = tt; now = record { work = (up c h).work; stand = (up c h).stand } }
        by (Some w) is = record { notes = tt; now = record { work = (up c h).work; stand = (up c h).stand } }
