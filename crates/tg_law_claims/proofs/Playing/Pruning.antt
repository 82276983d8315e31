-- Through each of a client's turns: where its command ends, the pages that it keeps below its view are of its own records; these stand as
-- their appends ended; and an ask that is answered leaves its transaction asked where the answer says.
use Rattle.std.proofs.Common.{◌≡◌, ◌⊎◌, ℕ, ◌+◌, ◌<◌, List, [], ◌∷◌, filter, Bool, true, false, cond, refl, sym, ◌∙◌, subst, inl, inr, arith, nat_cmp, Option, Some, None}
use Rattle.std.specs.BTreeMap.{is_at}
use Rattle.std.specs.Prelude.{not, nat_le, ◌||◌}
use Rattle.tg_base.specs.declared.cell.Cell.{Cell}
use Rattle.tg_base.specs.declared.cell.Cell.TheVariants.{Data}
use Rattle.tg_base.specs.declared.ids.NodeId.{NodeId}
use Rattle.tg_base.specs.declared.ids.Oid.{Oid}
use Rattle.tg_base.specs.declared.msg.Msg.{Msg}
use Rattle.tg_entry.specs.declared.entry.Entry.{Entry}
use Rattle.tg_kind.specs.Meaning.{Meaning}
use Rattle.tg_model.specs.declared.command.Command.TheVariants as cmd
use Rattle.tg_model.specs.declared.refusal.Refusal.{Refusal}
use Rattle.tg_model.specs.declared.trace.What.TheVariants as told
use Rattle.tg_model.specs.Kinds.{CommandOf, WhatOf, NoteOf}
use Rattle.tg_base.specs.Orders.{with_oid}
use Rattle.tg_protocol.specs.Words.{cell_at, has_num, with_num}
use Rattle.tg_protocol.specs.Replies.{Reply, reply}
use Rattle.tg_protocol.specs.Appending.{AppendEnd, At, append_start}
use Rattle.tg_protocol.specs.Syncing.{sync_start}
use Rattle.tg_protocol.specs.Views.{View, view_version}
use Rattle.tg_protocol.specs.Transactions.{Tx, tx_read, commit_record}
use Rattle.tg_protocol.specs.Clients.{Purpose, Writes, Judged, Decides, Rescues, Marks, Task, Appending, Hand, Work, Client, refusal, upto}
use Rattle.tg_protocol.specs.Answers.{keeps, is_page, pruned, Moved, moved, note, mark_notes, replies, refuses, took_over, answers, closed, appends, syncs, with_decision}
use Rattle.tg_protocol.specs.ClientSteps.{task_in, task_awaited, after_turn, met, goes_on, learns_for, lends, takes_back, found_by, start_walk, walks, lo_for, knows, sync_to, on_sync, stale, starts_over, gives_up, given_up_if, at_trim, walk_ended_by, walk_to, on_walk, knows_page, owns, record_lost, lost, page_known, decided_for, append_ended, append_to, on_append, trim_to, on_trims, copy_to, on_copy, stands, reconf_ended, reconf_to, on_reconf, task_feed, copies_again, task_again, on_newer, fed_if, hand_feed, latest_if, reply_feed, feed, new_work, hosts_more, puts, asked_of_state, asks_view, asks_by, asks, purpose_of, ends, accepts, refused_or, given, ClientTurn, client_command, client_deliver, client_tick, tick_by}
use Rattle.tg_protocol.specs.ClientSteps as step
use Rattle.tg_law_layouts.proofs.Moves.Turns.{not_busy}
use Rattle.tg_law_replies.specs.Replies.Ended.{end_of, task_ends, again_ends, work_ends}
use Rattle.tg_law_replies.proofs.History.Members.{Has}
use Rattle.tg_law_replies.proofs.Books.Turns.{no_some}
use Rattle.tg_law_walks.proofs.Walks.Positions.{nums_split}
use Rattle.tg_law_replies.proofs.Replies.Ways.{end_fed, end_newer}
use Rattle.tg_law_steps.proofs.Places.{Place, Feeds, Newer, OnAppend, Walks}
use Rattle.tg_law_steps.proofs.Ways.{Way, FeedsAppend, NewerAppend, AllWalked, HasPlayed}
use Rattle.tg_law_steps.proofs.Ends.{End, GoesOn, LearnsNewer, Syncs, Appends, Refuses, Answers, Tells, AppendGoes, AppendLearns, JudgedAt, IsAppended, EndDecides, MarkBegins, Commit', RecordForgotten, IsAnswered, IsAsked, DecidedAt, DecidedLost, JudgedSo, JudgedLost, EndJudged, IsTold, IsCommitted, IsRescued, IsMarked, PlaysOther}
use Rattle.tg_law_steps.proofs.Takes.{IsSaid, Hosts, Asks, ReadsOnly, NoTxOpen, NoViewKept, NoStateKept, Taken, SaidAtOnce, SyncsFirst, AppendsRecord, ForWrites, taken}
use Rattle.tg_law_steps.proofs.Along.{delivered as delivered', over_walks}

-- Pages that are kept.

record Passed (f : ℕ × Cell → Bool) (p : ℕ) (c : Cell) : Type 0 where
  of : ℕ × Cell
  at : of.0 ≡ p
  is : of.1 ≡ c
  passes : f of ≡ true

same_cell : (a b : Cell) → Some a ≡ Some b → a ≡ b
same_cell a b e = cc

-- a cell that is found among those that pass a test passes it
filtered : (f : ℕ × Cell → Bool) (cells : List (ℕ × Cell)) (p : ℕ) (c : Cell) → cell_at (filter f cells) p ≡ Some c → Passed f p c
filtered f [] p c e = absurd (no_some c e)
filtered f (x ∷ cells) p c e = by (f x) refl e (λ g. filtered f cells p c g)
  where
    same : is_at (nat_cmp p) x.0 ≡ true → x.0 ≡ p
    same e = grind arith

    here : (a : Bool) → is_at (nat_cmp p) x.0 ≡ a → f x ≡ true → cond a (Some x.1) (cell_at (filter f cells) p) ≡ Some c → (cell_at (filter f cells) p ≡ Some c → Passed f p c) → Passed f p c
    here true at passes e rest = record { of = x; at = same at; is = same_cell x.1 c e; passes = passes }
    here false at passes e rest = rest e

    by : (b : Bool) → f x ≡ b → cell_at (cond b (x ∷ filter f cells) (filter f cells)) p ≡ Some c → (cell_at (filter f cells) p ≡ Some c → Passed f p c) → Passed f p c
    by true passes e rest = here (is_at (nat_cmp p) x.0) refl passes e rest
    by false passes e rest = rest e

owned_below : (u p : ℕ) (b : Bool) → p < u → (nat_le u p || b || false) ≡ true → b ≡ true
owned_below u p b less e = grind arith

module _ (m : Meaning) where
  -- each page below a client's view is of a position of its own records
  abbrev pub Clean : Client m → Type 0
  Clean c = (p : ℕ) (page : List ℕ) → cell_at c.cells p ≡ Some (Data page) → p < upto m c → has_num p c.own ≡ true

  pruned_clean : (c : Client m) → Clean (pruned m c)
  pruned_clean c p page e less =
      let y = filtered (keeps m c) c.cells p (Data page) e in
      owned_below (upto m c) p (has_num p c.own) less
      (subst (λ (n : ℕ). (nat_le (upto m c) n || has_num n c.own || false) ≡ true) y.at
      (subst (λ (z : Cell). (nat_le (upto m c) y.of.0 || has_num y.of.0 c.own || not (is_page m z)) ≡ true) y.is y.passes))

  abbrev pub NotAsked : WhatOf m → Type 0
  NotAsked (told.Asked o q at a) = ⊥
  NotAsked what = Unit {0}

  abbrev pub NoneAsked : List (NoteOf m) → Type 0
  NoneAsked [] = Unit {0}
  NoneAsked (n ∷ ns) = NotAsked n.what × NoneAsked ns

  -- the open transaction was asked at a position
  pub record Snapped (c : Client m) (at : ℕ) : Type 0 where
    pub of : Tx
    pub tx : c.tx ≡ Some of
    pub snapshot : of.snapshot ≡ Some at

  -- what an answer to an ask leaves of its client
  abbrev pub Says : Client m → WhatOf m → Type 0
  Says c (told.Asked o q at a) = (c.work ≡ None) × Snapped c at
  Says c what = Unit {0}

  abbrev pub SaysAll : Client m → List (NoteOf m) → Type 0
  SaysAll c [] = Unit {0}
  SaysAll c (n ∷ ns) = Says c n.what × SaysAll c ns

  plain : (c : Client m) (what : WhatOf m) → NotAsked what → Says c what
  plain c (told.Asked o q at a) k = absurd k
  plain c what k = tt

  plain_all : (c : Client m) (ns : List (NoteOf m)) → NoneAsked ns → SaysAll c ns
  plain_all c [] k = tt
  plain_all c (n ∷ ns) k = (plain c n.what k.0, plain_all c ns k.1)

  -- an answer that waits for its decision record is to no ask
  abbrev pub PurposeOk : Purpose m → Type 0
  PurposeOk (Decides what) = NotAsked what
  PurposeOk (Rescues what) = NotAsked what
  PurposeOk y = Unit {0}

  abbrev pub TaskOk : Task m → Type 0
  TaskOk (Appending a y) = PurposeOk y
  TaskOk t = Unit {0}

  abbrev pub WorkOk : Option (Work m) → Type 0
  WorkOk None = Unit {0}
  WorkOk (Some w) = TaskOk (task_in m w.hand)

-- What is asked of the positions of a client's own records.
module _ (m : Meaning) (Mine : ℕ → Type 0) where
  abbrev pub Owned : List ℕ → Type 0
  Owned own = (p : ℕ) → Has own p → Mine p

  -- the append of a record that ends has it so
  abbrev pub LandsFor : Purpose m → AppendEnd → Type 0
  LandsFor Writes (At p d) = Mine p
  LandsFor Judged (At p d) = Mine p
  LandsFor (Marks n o j) (At p d) = Mine p
  LandsFor y e = Unit {0}

  abbrev pub TaskLands : Task m → AppendEnd → Type 0
  TaskLands (Appending a y) e = LandsFor y e
  TaskLands t e = Unit {0}

  abbrev pub WorkLands : Option (Work m) → AppendEnd → Type 0
  WorkLands None e = Unit {0}
  WorkLands (Some w) e = TaskLands (task_in m w.hand) e

  pub record Good (x : Moved m) : Type 0 where
    pub clean : x.now.work ≡ None → Clean m x.now
    pub owned : Owned x.now.own
    pub work : WorkOk m x.now.work
    pub notes : SaysAll m x.now x.notes

  replied : (c : Client m) (ns : List (NoteOf m)) → Owned c.own → NoneAsked m ns → Good (replies m c ns)
  replied c ns o k = record { clean = λ e. pruned_clean m c; owned = o; work = tt; notes = plain_all m (pruned m c) ns k }

  took_own : (c : Client m) (v : Option (View m)) → Owned c.own → Owned (took_over m c v).own
  took_own c None o = o
  took_own c (Some v) o = o

  took_tx : (c : Client m) (v : Option (View m)) → (took_over m c v).tx ≡ c.tx
  took_tx c None = refl
  took_tx c (Some v) = refl

  answered : (c : Client m) (n : ℕ) (what : WhatOf m) → Owned c.own → NotAsked m what → Good (answers m c n what)
  answered c n what o k = replied (took_over m c c.view) (note m n what ∷ []) (took_own c c.view o) (k, tt)

  tells : (c : Client m) (n : ℕ) (what : WhatOf m) → Owned c.own → NotAsked m what → Good (replies m c (note m n what ∷ []))
  tells c n what o k = replied c (note m n what ∷ []) o (k, tt)

  refused : (c : Client m) (n : ℕ) (why : Refusal) → Owned c.own → Good (refuses m c n why)
  refused c n why o = replied c (note m n (told.Refused why) ∷ []) o (tt, tt)

  appended : (c : Client m) (w : Work m) (e : Entry) (y : Purpose m) (ns : List (NoteOf m)) → Owned c.own → PurposeOk m y → NoneAsked m ns → Good (appends m c w e y ns)
  unfolding appends append_start
  appended c w e y ns o k f = record { clean = λ e. absurd (cc); owned = o; work = k; notes = plain_all m _ ns f }

  synced : (c : Client m) (w : Work m) (os : List Oid) → Owned c.own → Good (syncs m c w os)
  unfolding syncs sync_start
  synced c w os o = record { clean = λ e. absurd (cc); owned = o; work = tt; notes = tt }

  own_more : (own : List ℕ) (p : ℕ) → Mine p → Owned own → Owned (with_num p own)
  own_more own p k o q i = by (nums_split (p ∷ []) own q i)
    where
      by : Has (p ∷ []) q ⊎ Has own q → Mine q
      by (inl (inl e)) = subst Mine (sym e) k
      by (inl (inr e)) = absurd e
      by (inr j) = o q j

  says : (d : Client m) (ns : List (NoteOf m)) → d.work ≡ None → Clean m d → Owned d.own → NoneAsked m ns → Good (moved m d ns)
  says d ns e clean o f = record { clean = λ z. clean; owned = o; work = subst (WorkOk m) (sym e) tt; notes = plain_all m d ns f }

  -- Along a turn.

  abbrev Here : Client m → Place m → Type 0
  Here c (Feeds t n rid x) = TaskOk m t × ((e : AppendEnd) → task_ends m c t n x ≡ Some e → TaskLands t e)
  Here c (Newer t n rid q) = TaskOk m t × ((e : AppendEnd) → again_ends m (stands m c q) t ≡ Some e → TaskLands t e)
  Here c (OnAppend y bs to) = PurposeOk m y × ((e : AppendEnd) → end_of to ≡ Some e → LandsFor y e)
  Here c p = Unit {0}

  abbrev At' : Client m → Work m → Place m → Type 0
  At' c w p = Owned c.own × Here c p

  way : (c : Client m) (w : Work m) (p : Place m) (d : Client m) (v : Work m) (q : Place m) → Way m c w p d v q → At' c w p → At' d v q
  way c w _ _ _ _ (FeedsAppend a y n rid x) h = h
  way c w _ _ _ _ (NewerAppend a y n rid q) h = h
  way c w _ _ _ _ x h = (h.0, tt)

  walked_way : (c : Client m) (w : Work m) (d : Client m) (q : Place m) → AllWalked m c w d q → At' c w (Walks []) → At' d w q
  walked_way c w _ _ (HasPlayed k) h = h
  walked_way c w _ _ x h = h

  appends_good : (c : Client m) (w : Work m) (p : Place m) (d : Client m) (e : Entry) (y : Purpose m) (ns : List (NoteOf m)) → IsAppended m c w p d e y ns → Owned c.own → Good (appends m d w e y ns)
  appends_good c w _ _ _ _ _ (EndDecides es p upto e _ _ of came i (Commit' v) l) o = appended (with_decision m c) w _ _ [] o tt tt
  appends_good c w _ _ _ _ _ (EndDecides es p upto e _ _ of came i j l) o = appended (with_decision m c) w _ _ [] o tt tt
  appends_good c w _ _ _ _ _ (MarkBegins es p upto a n of came may) o = appended (record c { begun = c.begun + 1 }) w _ _ (mark_notes m (c.begun + 1) a n) o tt (tt, (tt, (tt, tt)))
  appends_good c w _ d e y _ x o = appended d w e y [] o tt tt

  answers_good : (c : Client m) (w : Work m) (p : Place m) (d : Client m) (n : ℕ) (what : WhatOf m) → IsAnswered m c w p d n what → At' c w p → Good (answers m d n what)
  answers_good c w _ _ _ _ (IsAsked es p o q upto t s of came has state) h =
      let d : Client m = record c { tx = Some (tx_read t (record { oid = o; part = m.look q; version = view_version m p.view o (m.look q) }) w.tail) } in
      record {
        clean = λ e. pruned_clean m (took_over m d d.view);
        owned = took_own d d.view h.0;
        work = tt;
        notes = ((refl, record { of = tx_read t (record { oid = o; part = m.look q; version = view_version m p.view o (m.look q) }) w.tail; tx = took_tx d d.view; snapshot = refl }), tt);
      }
  answers_good c w _ _ _ _ (DecidedAt x bs p page no_end) h = answered _ _ x h.0 h.1.0
  answers_good c w _ _ _ _ (DecidedLost x bs e lost no_end) h = answered c _ x h.0 h.1.0
  answers_good c w _ _ _ _ (JudgedSo x bs p page of) h = answered _ _ x h.0 h.1.0
  answers_good c w _ _ _ _ (JudgedLost x bs e lost of) h = answered (closed m c) _ x h.0 h.1.0
  answers_good c w _ _ _ _ (EndJudged es p upto e _ _ of came i (Commit' v) l) h = answered (closed m c) _ _ h.0 tt
  answers_good c w _ _ _ _ (EndJudged es p upto e _ _ of came i j l) h = answered (closed m c) _ _ h.0 tt
  answers_good c w _ d n what x h = answered d n what h.0 tt

  tells_good : (c : Client m) (w : Work m) (p : Place m) (d : Client m) (ns : List (NoteOf m)) → IsTold m c w p d ns → At' c w p → Good (replies m d ns)
  tells_good c w _ _ _ (IsCommitted bs p page) h = replied (closed m (owns m c p page)) _ (own_more c.own p (h.1.1 (At p page) refl) h.0) (tt, tt)
  tells_good c w _ _ _ (IsRescued x bs p page) h = replied (knows_page m c p page) _ h.0 (h.1.0, tt)
  tells_good c w _ _ _ (IsMarked n o mark bs p page) h =
      replied (took_over m (owns m c p page) c.view) (note m n (told.Committed p) ∷ note m 0 (told.Marked o mark) ∷ []) (took_own (owns m c p page) c.view (own_more c.own p (h.1.1 (At p page) refl) h.0)) (tt, (tt, tt))
  tells_good c w _ _ _ (PlaysOther es p is) h = replied c [] h.0 tt
  tells_good c w _ d ns x h = replied d ns h.0 (tt, tt)

  ends_good : (c : Client m) (w : Work m) (p : Place m) (x : Moved m) → End m c w p x → At' c w p → Good x
  ends_good c w _ _ (GoesOn _ _ _ (AppendGoes y bs a)) h = record { clean = λ e. absurd (cc); owned = h.0; work = h.1.0; notes = tt }
  ends_good c w _ _ (GoesOn _ _ _ x) h = record { clean = λ e. absurd (cc); owned = h.0; work = tt; notes = tt }
  ends_good c w _ _ (LearnsNewer _ (AppendLearns y bs a)) h = record { clean = λ e. absurd (cc); owned = h.0; work = h.1.0; notes = tt }
  ends_good c w _ _ (LearnsNewer _ x) h = record { clean = λ e. absurd (cc); owned = h.0; work = tt; notes = tt }
  ends_good c w _ _ (Syncs _ _ _ (JudgedAt bs p page)) h = synced (owns m c p page) (record w { at = p }) c.hosted (own_more c.own p (h.1.1 (At p page) refl) h.0)
  ends_good c w _ _ (Syncs d v os x) h = synced d v os h.0
  ends_good c w p _ (Appends d e y ns x) h = appends_good c w p d e y ns x h.0
  ends_good c w _ _ (Refuses _ n why (RecordForgotten y bs p b of)) h = refused (closed m c) n why h.0
  ends_good c w _ _ (Refuses d n why x) h = refused d n why h.0
  ends_good c w p _ (Answers d n what x) h = answers_good c w p d n what x h
  ends_good c w p _ (Tells d ns x) h = tells_good c w p d ns x h

  -- between its turns
  abbrev pub Fits : Client m → Type 0
  Fits c = (c.work ≡ None → Clean m c) × Owned c.own × WorkOk m c.work

  feed_turn : (c : Client m) (from : NodeId) (rid : ℕ) (x : Reply) → Fits c → ((e : AppendEnd) → work_ends m c c.work from rid x ≡ Some e → WorkLands c.work e) → Good (feed m c c.work from rid x)
  feed_turn c from rid x h l = delivered' m At' Good ends_good way (over_walks m At' Good ends_good walked_way) c from rid x (record { clean = h.0; owned = h.1; work = h.2; notes = tt })
      (λ w t has doing a other. (h.1, (subst (λ (d : Hand m). TaskOk m (task_in m d)) doing (subst (WorkOk m) has h.2), λ e is. subst (λ (d : Hand m). TaskLands (task_in m d) e) doing (lands w e has (end_fed m c from rid x w t has doing a other ∙ is)))))
      (λ w q has is e. (h.1, (subst (WorkOk m) has h.2, λ g i. lands w g has (end_newer m c from rid x w q has is e ∙ i))))
    where
      lands : (w : Work m) (e : AppendEnd) → c.work ≡ Some w → work_ends m c c.work from rid x ≡ Some e → TaskLands (task_in m w.hand) e
      lands w e has is = subst (λ (o : Option (Work m)). WorkLands o e) has (l e is)

  -- Commands.

  module _ (c0 : Client m) (free : c0.work ≡ None) (k : Clean m c0) (o0 : Owned c0.own) where
    said_good : (x : CommandOf m) (d : Client m) (ns : List (NoteOf m)) → IsSaid m c0 x d ns → Good (moved m d ns)
    said_good _ _ _ (Hosts o new) = says (record c0 { hosted = with_oid o c0.hosted; view = None }) _ free (λ p page is less. absurd (omega (arith, less))) o0 (tt, tt)
    said_good _ _ _ (Asks o q t at v s has snap kept is) = record {
      clean = λ e. k;
      owned = o0;
      work = subst (WorkOk m) (sym free) tt;
      notes = ((free, record { of = tx_read t (record { oid = o; part = m.look q; version = view_version m v o (m.look q) }) at; tx = refl; snapshot = refl }), tt);
    }
    said_good _ _ _ (ReadsOnly t has none) = says (closed m c0) _ free k o0 (tt, (tt, tt))
    said_good _ _ _ (NoTxOpen x is) = says c0 [] free k o0 tt
    said_good _ _ _ (NoViewKept o q t at is snap none) = says c0 [] free k o0 tt
    said_good _ _ _ (NoStateKept o q t at v is snap has none) = says c0 [] free k o0 tt
    said_good _ d ns s = says d ns free k o0 (tt, tt)

    takes_good : (x : CommandOf m) (y : Moved m) → Taken m c0 x y → Good y
    takes_good _ _ (SaidAtOnce x d ns s) = said_good x d ns s
    takes_good _ _ (SyncsFirst x j) = synced c0 (new_work m x) c0.hosted o0
    takes_good _ _ (AppendsRecord t _ has some (ForWrites e)) = appended c0 (new_work m cmd.End) (commit_record t c0.num) Writes _ o0 tt (tt, tt)
    takes_good _ _ (AppendsRecord t y has some j) = appended c0 (new_work m cmd.End) (commit_record t c0.num) y _ o0 tt (tt, tt)
    takes_good _ _ x = record { clean = λ e. absurd (cc); owned = o0; work = tt; notes = tt }

  -- The turns.

  pub record GoodTurn (t : ClientTurn m) : Type 0 where
    pub fits : Fits t.now
    pub notes : SaysAll m t.now t.notes

  -- the count of a client's steps is all that is added
  says_called : (c : Client m) (what : WhatOf m) → Says m c what → Says m (step.called m c) what
  says_called c (told.Asked o q at a) k = (k.0, record { of = k.1.of; tx = k.1.tx; snapshot = k.1.snapshot })
  says_called c what k = tt

  all_called : (c : Client m) (ns : List (NoteOf m)) → SaysAll m c ns → SaysAll m (step.called m c) ns
  all_called c [] k = tt
  all_called c (n ∷ ns) k = (says_called c n.what k.0, all_called c ns k.1)

  pub commanded : (c : Client m) (x : CommandOf m) → Fits c → GoodTurn (client_command m c x)
  unfolding client_command
  commanded c x h = by (refusal m c x) (not_busy m c x)
    where
      given' : (y : Moved m) → Good y → GoodTurn (given m c y)
      given' y g = record { fits = (g.clean, g.owned, g.work); notes = all_called y.now y.notes g.notes }

      by : (o : Option Refusal) → (o ≡ None → c.work ≡ None) → GoodTurn (given m c (refused_or m c x o))
      by None free = given' (accepts m c x) (takes_good c (free refl) (h.0 (free refl)) h.1 x (accepts m c x) (taken m c x))
      by (Some why) free = record { fits = h; notes = (tt, tt) }

  pub delivered : (c : Client m) (from : NodeId) (rid : ℕ) (x : Msg) → Fits c → ((e : AppendEnd) → work_ends m c c.work from rid (reply x) ≡ Some e → WorkLands c.work e) → GoodTurn (client_deliver m c from rid x)
  unfolding client_deliver
  delivered c from rid x h l =
      let g = feed_turn c from rid (reply x) h l in
      record { fits = (g.clean, g.owned, g.work); notes = all_called (feed m c c.work from rid (reply x)).now (feed m c c.work from rid (reply x)).notes g.notes }

  pub ticked : (c : Client m) → Fits c → GoodTurn (client_tick m c)
  unfolding client_tick
  ticked c h = by c.work
    where
      by : (w : Option (Work m)) → GoodTurn (tick_by m c w)
      by None = record { fits = h; notes = tt }
      by (Some w) = record { fits = h; notes = tt }
