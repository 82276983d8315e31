-- A client's steps keep it right, and what they tell is true of the log.
use Rattle.std.proofs.Common.{◌≡◌, ◌<◌, ◌⊎◌, ◌+◌, ◌∙◌, is_some, arith, ℕ, List, [], ◌∷◌, Bool, true, false, refl, sym, ap, subst, inl, inr, Option, Some, None, Contains}
use Rattle.std.specs.Prelude.{nat_le, ◌&&◌}
use Rattle.tg_base.specs.Layouts.{Layout}
use Rattle.tg_base.specs.declared.ids.NodeId.{NodeId}
use Rattle.tg_base.specs.declared.ids.Oid.{Oid}
use Rattle.std.specs.List.{list_all}
use Rattle.tg_base.specs.declared.marks.ReadMark.{ReadMark}
use Rattle.tg_base.specs.declared.marks.StreamLink.{StreamLink}
use Rattle.tg_base.specs.declared.packet.Out.{Out}
use Rattle.tg_entry.specs.declared.entry.Entry.{Entry}
use Rattle.tg_kind.specs.Meaning.{Meaning}
use Rattle.tg_model.specs.declared.command.Command.TheVariants as cmd
use Rattle.tg_model.specs.declared.refusal.Refusal.{Refusal}
use Rattle.tg_model.specs.declared.trace.What.TheVariants as told
use Rattle.tg_model.specs.Kinds.{CommandOf, WhatOf, NoteOf}
use Rattle.tg_entry.specs.Needs.{reads_of}
use Rattle.tg_protocol.specs.Entries.{is_commit}
use Rattle.tg_entry.specs.Records.{linked}
use Rattle.tg_protocol.specs.Logs.{is_current, changes_below}
use Rattle.tg_protocol.specs.Views.{Entries, View, Play, Verdict, Commits, Aborts, state_of, view_version, fate_of, verdict, view_outcome}
use Rattle.tg_protocol.specs.Past.{commit_at}
use Rattle.tg_model.specs.declared.play.PlayEnd.{PlayEnd}
use Rattle.tg_model.specs.declared.play.PlayEnd.TheVariants.{Played, Blocked}
use Rattle.tg_protocol.specs.Transactions.{Tx, tx_read}
use Rattle.tg_law_replies.specs.Views.Views.{StandsAt}
use Rattle.tg_law_replies.specs.Views.Looking.{IsTrueAt, IsJudge}
use Rattle.tg_law_replies.proofs.History.Ledger.{one_entry}
use Rattle.tg_law_replies.proofs.Views.Plays.{changes_true}
use Rattle.tg_law_replies.proofs.Replies.Ways.{end_fed, end_newer}
use Rattle.tg_law_replies.proofs.Replies.Each.{delivered}
use Rattle.tg_protocol.specs.Requests.{Next, Goes, Learns, Ends}
use Rattle.tg_protocol.specs.Replies.{Reply}
use Rattle.tg_protocol.specs.Appending.{AppendWork, Append, AppendEnd, At, append_feed, append_again}
use Rattle.tg_protocol.specs.Clients.{Purpose, Decides, Rescues, Saves, Task, Appending, Hand, Doing, Learning, Work, Client, all_entries}
use Rattle.tg_protocol.specs.Answers.{Moved, moved, note, took_over, replies, answers, appends, syncs, decision, with_decision}
use Rattle.tg_protocol.specs.ClientSteps.{task_in, goes_on, learns_for, plays_kept, knows_page, owns, stands, feed}
use Rattle.tg_protocol.specs.Holding.{append_of, append_by}
use Rattle.tg_law_steps.proofs.Places.{Place, Feeds, Newer, OnAppend, Walks, Plays, Looks, Rescues as Rescues'}
use Rattle.tg_law_steps.proofs.Ways.{Way, FeedsAppend, NewerAppend, MetHigh, StartsOver, AllWalked, HasPlayed, LooksBack, IsRescue}
use Rattle.tg_law_steps.proofs.Ends as end
use Rattle.tg_law_steps.proofs.Machines.Appends.{AppendCame, LogFull, IsPut, PutTrimmed, IsOwn, JudgedTrimmed, append_came, AppendAgain, AsksAgain, append_again_came}
use Rattle.tg_law_replies.specs.Plays.Sound.{IsRising}
use Rattle.tg_law_replies.specs.History.Logs.{AreListed, HasOutcome}
use Rattle.tg_law_replies.proofs.History.Members.{both_and, has_contained, not_lt}
use Rattle.tg_law_replies.specs.Replies.Steps.{EachDelivery}
use Rattle.tg_law_replies.specs.Replies.Ended.{end_of, task_ends, again_ends, work_ends, EndsSo}
use Rattle.tg_law_replies.proofs.Replies.Ready.{Ready, IsReady, IsReadyToPlay}
use Rattle.tg_law_replies.proofs.Replies.Books.{IsPlain, ArePlain}
use Rattle.tg_law_replies.proofs.Replies.Moves.{InStep, IsRightMove, TrueWhat, TrueNotes, TrueDraft, RescuesBy, IsBlind, TruePurpose, TrueTask, TrueHand, one_note, one_plain, one_work, replies_now, took_now, took_tx, took_begun, decision_right, answer_there, version_there, judged, outcome_right, replies_right, refuses_right, answers_right, appends_right, close_right, took_right}
use Rattle.tg_law_replies.proofs.Replies.Upkeep.{saves_body, saves_draft, syncs_right, marks_right, rescued}
use Rattle.tg_law_replies.proofs.Replies.Played.{IsTruePlay, keeps_right, own_play_true}

-- An append keeps its draft.

abbrev pub Keeps : Entry → Next Append AppendEnd → Type 0
Keeps d (Goes a) = a.draft ≡ d
Keeps d (Learns a) = a.draft ≡ d
Keeps d (Ends e) = Unit {0}

came_keeps : (p : Layout) (a : Append) (n : ℕ) (x : Reply) (next : ℕ) (w : AppendWork) (to : Next Append AppendEnd) → AppendCame p a n x next w to → Keeps a.draft to
came_keeps p a n x next _ _ (LogFull r l is) = tt
came_keeps p a n x next _ _ (IsPut j t c has e) = tt
came_keeps p a n x next _ _ (PutTrimmed j t b has e) = tt
came_keeps p a n x next _ _ (IsOwn j t c has e own) = tt
came_keeps p a n x next _ _ (JudgedTrimmed j t b has e) = tt
came_keeps p a n x next _ _ s = refl

pub feed_keeps : (p : Layout) (a : Append) (n : ℕ) (x : Reply) (next : ℕ) → Keeps a.draft (append_feed p a a.work n x next).to
feed_keeps p a n x next = came_keeps p a n x next a.work _ (append_came p a n x next a.work)

anew_keeps : (q : Layout) (a : Append) (next : ℕ) (to : Next Append AppendEnd) → AppendAgain q a next to → Keeps a.draft to
anew_keeps q a next _ AsksAgain = refl
anew_keeps q a next _ s = refl

pub again_keeps : (q : Layout) (a : Append) (next : ℕ) → Keeps a.draft (append_again q a next).to
again_keeps q a next = anew_keeps q a next _ (append_again_came q a next)

-- an append that ends does so by the log
abbrev pub LandsBy : (m : Meaning) → Entries → Option Append → Option AppendEnd → Type 0
LandsBy m es o end = (a : Append) (e : AppendEnd) → o ≡ Some a → end ≡ Some e → EndsSo m es a.draft e

module _ (m : Meaning) (objects : List Oid) (es : Entries) (rising : IsRising es) (listed : AreListed es) (tx0 : Option Tx) (n0 : ℕ) where
  abbrev Held : Client m → Type 0
  Held c = InStep m objects es rising listed tx0 n0 c

  abbrev RightMove : Moved m → Type 0
  RightMove x = IsRightMove m objects es rising listed tx0 n0 x

  abbrev True : Task m → Type 0
  True t = TrueTask m objects es rising listed t

  -- Machines that go on.

  pub still : (c : Client m) → Held c → RightMove (moved m c [])
  still c h = (h.right, λ n i. absurd i, inl (record { tx = h.tx; begun = h.begun; plain = λ n i. absurd i }))

  pub goes_right : (c : Client m) (w : Work m) (t : Task m) (besides : List Out) → Held c → True t → RightMove (goes_on m c w t besides)
  goes_right c w t besides h k =
      (record { view = h.right.view; dir = h.right.dir; work = λ x is. subst (λ (y : Work m). TrueHand m objects es rising listed y.hand) (one_work m objects es rising listed (record w { hand = Doing t }) x is) k }, λ n i. absurd i, inl (record { tx = h.tx; begun = h.begun; plain = λ n i. absurd i }))

  learns_right : (c : Client m) (w : Work m) (t : Task m) → Held c → True t → RightMove (learns_for m c w t)
  learns_right c w t h k =
      (record { view = h.right.view; dir = h.right.dir; work = λ x is. subst (λ (y : Work m). TrueHand m objects es rising listed y.hand) (one_work m objects es rising listed _ x is) k }, λ n i. absurd i, inl (record { tx = h.tx; begun = h.begun; plain = λ n i. absurd i }))

  -- Along a turn.

  -- an append whose draft and purpose are so, and that ends by the log
  record TrueAppend (y : Purpose m) (to : Next Append AppendEnd) : Type 0 where
    pub draft : Entry
    pub so : TrueDraft m objects es rising listed draft
    pub purpose : TruePurpose m objects es rising listed draft y
    pub keeps : Keeps draft to
    pub lands : (e : AppendEnd) → end_of to ≡ Some e → EndsSo m es draft e

  abbrev Fits : Client m → Work m → Place m → Type 0
  Fits c w (Feeds t n rid x) = True t × LandsBy m es (append_of m t) (task_ends m c t n x)
  Fits c w (Newer t n rid q) = True t × LandsBy m es (append_of m t) (again_ends m (stands m c q) t)
  Fits c w (OnAppend y bs to) = TrueAppend y to
  Fits c w (Plays own p) = IsTruePlay m objects es rising listed tx0 n0 c w own p
  Fits c w (Looks at o q) = IsReady m objects es c w (cmd.AskAt at o q)
  Fits c w (Rescues' at) = IsReady m objects es c w (cmd.Rescue at)
  Fits c w p = Unit {0}

  record Along (c : Client m) (w : Work m) (p : Place m) : Type 0 where
    pub held : Held c
    pub fits : Fits c w p

  no_view : (c : Client m) → Held c → Held (record c { view = None })
  no_view c h = record { right = record { view = λ v is. absurd (none v is); dir = h.right.dir; work = h.right.work }; tx = h.tx; begun = h.begun }
    where
      none : (v : View m) → None ≡ Some v → ⊥
      none v e = cc

  way : (c : Client m) (w : Work m) (p : Place m) (d : Client m) (v : Work m) (q : Place m) → Way m c w p d v q → Along c w p → Along d v q
  way c w _ _ _ _ (FeedsAppend a y n rid x) h = record {
    held = record { right = record { view = h.held.right.view; dir = h.held.right.dir; work = h.held.right.work }; tx = h.held.tx; begun = h.held.begun };
    fits = record { draft = a.draft; so = h.fits.0.0; purpose = h.fits.0.1; keeps = feed_keeps c.stand a n x c.next; lands = λ e is. h.fits.1 a e refl is };
  }
  way c w _ _ _ _ (NewerAppend a y n rid q) h = record {
    held = record { right = record { view = h.held.right.view; dir = h.held.right.dir; work = h.held.right.work }; tx = h.held.tx; begun = h.held.begun };
    fits = record { draft = a.draft; so = h.fits.0.0; purpose = h.fits.0.1; keeps = again_keeps q a c.next; lands = λ e is. h.fits.1 a e refl is };
  }
  way c w _ _ _ _ (MetHigh o os x b e f z) h = record { held = no_view c h.held; fits = tt }
  way c w _ _ _ _ (StartsOver o os x b e f z) h = record { held = no_view c h.held; fits = tt }
  way c w _ _ _ _ x h = record { held = record { right = record { view = h.held.right.view; dir = h.held.right.dir; work = h.held.right.work }; tx = h.held.tx; begun = h.held.begun }; fits = tt }

  ready_to_play : (c : Client m) (w : Work m) (x : CommandOf m) → plays_kept m x ≡ true → IsReady m objects es c w x → IsReadyToPlay m objects es c w
  ready_to_play c w (cmd.AskAt at o q) e r = absurd cc
  ready_to_play c w (cmd.Rescue at) e r = absurd cc
  ready_to_play c w x e r = r

  walked_way : (c : Client m) (w : Work m) (d : Client m) (q : Place m) → AllWalked m c w d q → Along c w (Walks []) → Ready m objects es c w → Along d w q
  walked_way c w _ _ (HasPlayed k) h r =
      let ready = ready_to_play c w w.command k r in
      record { held = keeps_right m objects es rising listed tx0 n0 c w h.held ready; fits = own_play_true m objects es rising listed tx0 n0 c w h.held ready }
  walked_way c w _ _ (LooksBack at o q of) h r = record { held = h.held; fits = subst (λ (x : CommandOf m). IsReady m objects es c w x) of r }
  walked_way c w _ _ (IsRescue at of) h r = record { held = h.held; fits = subst (λ (x : CommandOf m). IsReady m objects es c w x) of r }

  -- What is said of records.

  not_blocked : (t q : ℕ) (x : Oid) → Played t ≡ Blocked q x → ⊥
  not_blocked t q x e = cc

  above : (p q : ℕ) → nat_le q p ≡ false → p < q
  above p q e = grind arith

  abbrev end_at : PlayEnd → ℕ
  end_at (Played t) = t
  end_at (Blocked q x) = q

  goes_past : (own : Entries) (at : ℕ) (came : PlayEnd) (e : Entry) → end.Passes m own at came → commit_at own at ≡ Some e → (r : ℕ) (y : Oid) → came ≡ Blocked r y → at < r
  goes_past own at _ e (end.CameTo upto) k r y is = absurd (not_blocked upto r y is)
  goes_past own at _ e (end.StuckAbove q x f) k r y is = subst (λ (n : ℕ). at < n) (ap end_at is) (above at q (ap (λ (o : Option Entry). is_some o && nat_le q at) (sym k) ∙ f))

  said_so : (at : ℕ) (d : Verdict) (b : Bool) → end.SaysSo m d b → (d ≡ Commits → HasOutcome m objects es at true) × (d ≡ Aborts → HasOutcome m objects es at false) → HasOutcome m objects es at b
  said_so at _ _ end.SaysYes out = out.0 refl
  said_so at _ _ end.SaysNo out = out.1 refl

  judged_so : (own : Entries) (v : View m) (at : ℕ) (e : Entry) (b : Bool) (what : WhatOf m) → end.Judges m own v at e b what → IsJudge m objects es v own at e × StandsAt m v at (reads_of e)
      → HasOutcome m objects es at b × TrueWhat m objects es rising listed what × IsPlain m what
  judged_so own v at e _ _ (end.Commit' is) j = let out = (judged m objects es rising listed v own at e j.0 Commits is).0 refl in (out, out, tt)
  judged_so own v at e _ _ (end.Abort' x is stands k) j =
      let out = (judged m objects es rising listed v own at e j.0 Aborts is).1 refl in
      let same = one_entry 0 es at e out.entry rising (has_contained es (at, e) j.0.here) (has_contained es (at, out.entry) out.here) in
      let f = changes_true m objects es v at (reads_of e) x rising j.0.so j.1 stands k in
      (out, record { out = out; read = subst (λ (d : Entry). Contains (reads_of d) x.read) same f.read; is = f.now; differs = f.differs }, tt)

  fate_so : (c : Client m) (w : Work m) (own : Entries) (p : Play m) (at : ℕ) (e : Entry) (d : Verdict) (b : Bool) → IsTruePlay m objects es rising listed tx0 n0 c w own p → w.command ≡ cmd.Fate at → end.Passes m own at p.came
      → fate_of m p.view at ≡ None → commit_at own at ≡ Some e → verdict m p.view own at e ≡ d → end.SaysSo m d b → HasOutcome m objects es at b
  fate_so c w own p at e d b y of k none here is s = said_so at d b s (judged m objects es rising listed p.view own at e (y.judged at e (inl of) here (λ r z past. goes_past own at p.came e k here r z past) none) d is)

  decided_so : (c : Client m) (w : Work m) (own : Entries) (p : Play m) (at : ℕ) (e : Entry) (d : Verdict) (b : Bool) → IsTruePlay m objects es rising listed tx0 n0 c w own p → w.command ≡ cmd.Decide at → end.Passes m own at p.came
      → commit_at own at ≡ Some e → view_outcome m p.view own at e ≡ d → end.SaysSo m d b → HasOutcome m objects es at b
  decided_so c w own p at e d b y of k here is s =
      let out = outcome_right m objects es rising listed p.view own at e y.so (λ none. y.judged at e (inr of) here (λ r z past. goes_past own at p.came e k here r z past) none) in
      said_so at d b s ((λ j. out.0 (is ∙ j)), (λ j. out.1 (is ∙ j)))

  -- a rescue whose decision record has landed
  rescue_said : (d : Entry) (q : ℕ) (what : WhatOf m) → RescuesBy m objects es rising listed d what → ((links : List StreamLink) × Contains es (q, linked d links)) → TrueWhat m objects es rising listed what
  rescue_said d q (told.Rescued p (Some b)) k l = (k.0, λ e i needs. record { at = q; entry = linked d l.0; is_yes = b; here = l.1; is = k.1 })
  rescue_said d q what k l = k

  -- a record without reads commits where it stands
  landed : (d : Entry) (p : ℕ) → IsBlind m objects es rising listed d → ((links : List StreamLink) × Contains es (p, linked d links)) → HasOutcome m objects es p true
  landed d p blind l = record {
    entry = linked d l.0;
    here = l.1;
    commit = blind.0;
    outcome = both_and (is_commit d) (list_all (is_current m (changes_below m [] es p)) (reads_of d)) blind.0 (ap (λ (rs : List ReadMark). list_all (is_current m (changes_below m [] es p)) rs) blind.1);
  }

  -- What the turn comes to.

  kept : (c : Client m) → Held c → Held (with_decision m c)
  kept c h = record { right = record { view = h.right.view; dir = h.right.dir; work = h.right.work }; tx = h.tx; begun = h.begun }

  page_right : (c : Client m) (p : ℕ) (d : List ℕ) → Held c → Held (knows_page m c p d)
  page_right c p d h = record { right = record { view = h.right.view; dir = h.right.dir; work = h.right.work }; tx = h.tx; begun = h.begun }

  owns_right : (c : Client m) (p : ℕ) (d : List ℕ) → Held c → Held (owns m c p d)
  owns_right c p d h = record { right = record { view = h.right.view; dir = h.right.dir; work = h.right.work }; tx = h.tx; begun = h.begun }

  stands_right : (c : Client m) (p : Layout) → Held c → Held (stands m c p)
  stands_right c p h = record { right = record { view = h.right.view; dir = h.right.dir; work = h.right.work }; tx = h.tx; begun = h.begun }

  one_told : (c : Client m) (n : ℕ) (what : WhatOf m) → Held c → TrueWhat m objects es rising listed what → IsPlain m what → RightMove (replies m c (note m n what ∷ []))
  one_told c n what h t y = replies_right m objects es rising listed tx0 n0 c (note m n what ∷ []) h (one_note m objects es rising listed n what t) (one_plain m objects es rising listed tx0 n0 n what y)

  answered : (c : Client m) (n : ℕ) (what : WhatOf m) → Held c → TrueWhat m objects es rising listed what → IsPlain m what → RightMove (answers m c n what)
  answered c n what h t y = answers_right m objects es rising listed tx0 n0 c n what h t y

  decides : (c : Client m) (w : Work m) (e : Entry) (at : ℕ) (b : Bool) (y : Purpose m) → Held c → HasOutcome m objects es at b → TruePurpose m objects es rising listed (decision m c e at b) y → RightMove (appends m (with_decision m c) w (decision m c e at b) y [])
  decides c w e at b y h out t = appends_right m objects es rising listed tx0 n0 (with_decision m c) w (decision m c e at b) y [] (kept c h) (decision_right m objects es rising listed c e at b out) t (λ n i. absurd i) (λ n i. absurd i)

  goes : (c : Client m) (w : Work m) (p : Place m) (d : Client m) (t : Task m) (bs : List Out) → end.IsGoing m c w p d t bs → Along c w p → RightMove (goes_on m d w t bs)
  goes c w _ _ _ bs (end.AppendGoes y _ a) h = goes_right c w (Appending a y) bs h.held (subst (λ (e : Entry). TrueDraft m objects es rising listed e × TruePurpose m objects es rising listed e y) (sym h.fits.keeps) (h.fits.so, h.fits.purpose))
  goes c w _ d t bs x h = goes_right d w t bs (record { right = record { view = h.held.right.view; dir = h.held.right.dir; work = h.held.right.work }; tx = h.held.tx; begun = h.held.begun }) tt

  learns : (c : Client m) (w : Work m) (p : Place m) (t : Task m) → end.IsLearning m c w p t → Along c w p → RightMove (learns_for m c w t)
  learns c w _ _ (end.AppendLearns y bs a) h = learns_right c w (Appending a y) h.held (subst (λ (e : Entry). TrueDraft m objects es rising listed e × TruePurpose m objects es rising listed e y) (sym h.fits.keeps) (h.fits.so, h.fits.purpose))
  learns c w _ t x h = learns_right c w t h.held tt

  synced : (c : Client m) (w : Work m) (p : Place m) (d : Client m) (v : Work m) (os : List Oid) → end.IsSynced m c w p d v os → Along c w p → RightMove (syncs m d v os)
  synced c w _ _ v os (end.JudgedAt bs p page) h = syncs_right m objects es rising listed tx0 n0 (owns m c p page) v os (owns_right c p page h.held)
  synced c w _ _ v os (end.StaleHigh o ws x b e f) h = syncs_right m objects es rising listed tx0 n0 (record c { view = None }) v os (no_view c h.held)
  synced c w _ _ v os x h = syncs_right m objects es rising listed tx0 n0 c v os h.held

  appended : (c : Client m) (w : Work m) (p : Place m) (d : Client m) (e : Entry) (y : Purpose m) (ns : List (NoteOf m)) → end.IsAppended m c w p d e y ns → Along c w p → RightMove (appends m d w e y ns)
  appended c w _ _ _ _ _ (end.EndDecides own p upto e b what of a i j l) h = let k = judged_so own p.view w.at e b what j (h.fits.ended upto e of a i) in decides c w e w.at b (Decides what) h.held k.0 (k.1, k.2)
  appended c w _ _ _ _ _ (end.DecideDecides own p at e d b of t k i v s l) h = let out = decided_so c w own p at e d b h.fits of k i v s in decides c w e at b (Decides (told.Decided at (Some b))) h.held out (out, tt)
  appended c w _ _ _ _ _ (end.SaveBegins own p upto o of a l) h =
      let saver = h.fits.saves o upto of a in
      appends_right m objects es rising listed tx0 n0 (record c { checkpoints = c.checkpoints + 1 }) w _ (Saves o w.tail) []
      (record { right = record { view = h.held.right.view; dir = h.held.right.dir; work = h.held.right.work }; tx = h.held.tx; begun = h.held.begun })
      (saves_body m objects es rising listed tx0 n0 p.view o w.tail c.num (c.checkpoints + 1) saver, saves_draft m objects es rising listed tx0 n0 p.view o w.tail c.num (c.checkpoints + 1) saver) tt (λ n i. absurd i) (λ n i. absurd i)
  appended c w _ _ _ _ _ (end.MarkBegins own p upto o n of a f) h = marks_right m objects es rising listed tx0 n0 c w o n h.held
  appended c w _ _ _ _ _ (end.RescueDecides at b e k i) h =
      let out = (rescued m objects es rising listed tx0 n0 (all_entries m c w w.oids) w.trims w.oids c.objects at b true k h.fits).0 in decides c w e at b (Rescues (told.Rescued at (Some b))) h.held out ((out, refl), tt)

  refused_held : (c : Client m) (w : Work m) (p : Place m) (d : Client m) (n : ℕ) (why : Refusal) → end.IsRefused m c w p d n why → Held c → Held d
  refused_held c w _ _ _ _ (end.RecordForgotten y bs p b of) h = close_right m objects es rising listed tx0 n0 c h
  refused_held c w _ _ _ _ (end.ReconfOvertaken e p) h = stands_right c p h
  refused_held c w _ _ _ _ (end.ReconfNotWhole u pos p) h = stands_right c p h
  refused_held c w _ _ _ _ (end.CopyFault x n rid q why f) h = stands_right c q h
  refused_held c w _ _ _ _ x h = h

  -- an ask's answer
  asked : (c : Client m) (w : Work m) (own : Entries) (p : Play m) (o : Oid) (q : m.ask) (upto : ℕ) (t : Tx) (s : m.state) → w.command ≡ cmd.Ask o q → p.came ≡ Played upto → c.tx ≡ Some t → state_of m p.view o ≡ Some s
      → Held c → IsTruePlay m objects es rising listed tx0 n0 c w own p
      → RightMove (answers m (record c { tx = Some (tx_read t (record { oid = o; part = m.look q; version = view_version m p.view o (m.look q) }) w.tail) }) t.number (told.Asked o q w.tail (m.answers s q)))
  asked c w own p o q upto t s of a has is h y = (
    replies_now m objects es rising listed (took_over m d c.view) (note m t.number (told.Asked o q w.tail (m.answers s q)) ∷ []) (took_now m objects es rising listed d c.view (record { view = h.right.view; dir = h.right.dir; work = h.right.work }) refl),
    one_note m objects es rising listed t.number (told.Asked o q w.tail (m.answers s q)) (answer_there m objects es rising listed p.view w.tail o q s at is),
    inr (inl (record {
      of = t;
      from = from h.tx;
      oid = o;
      ask = q;
      snapshot = w.tail;
      answer = m.answers s q;
      first = inl (y.first o q t of has);
      tx = took_tx m objects es rising listed d c.view ∙ ap (λ (n : ℕ). Some (tx_read t (record { oid = o; part = m.look q; version = n }) w.tail)) (version_there m objects es rising listed p.view w.tail o s (m.look q) at is);
      begun = took_begun m objects es rising listed d c.view ∙ h.begun;
      notes = refl;
    })),
  )
    where
      d : Client m
      d = record c { tx = Some (tx_read t (record { oid = o; part = m.look q; version = view_version m p.view o (m.look q) }) w.tail) }

      at : IsTrueAt m objects es p.view w.tail o
      at = y.asked o q upto of a

      none : None ≡ Some t → ⊥
      none e = cc

      from : (c.tx ≡ tx0) ⊎ (c.tx ≡ None) → tx0 ≡ Some t
      from (inl e) = sym e ∙ has
      from (inr e) = absurd (none (sym e ∙ has))

  answers_so : (c : Client m) (w : Work m) (p : Place m) (d : Client m) (n : ℕ) (what : WhatOf m) → end.IsAnswered m c w p d n what → Along c w p → RightMove (answers m d n what)
  answers_so c w _ d n what (end.DecidedAt _ bs p page free) h = answered d n what (page_right c p page h.held) h.fits.purpose.0 h.fits.purpose.1
  answers_so c w _ d n what (end.DecidedLost _ bs e l free) h = answered c n what h.held h.fits.purpose.0 h.fits.purpose.1
  answers_so c w _ d n what (end.JudgedSo _ bs p page of) h = answered d n what (close_right m objects es rising listed tx0 n0 (knows_page m c p page) (page_right c p page h.held)) h.fits.purpose.0 h.fits.purpose.1
  answers_so c w _ d n what (end.JudgedLost _ bs e l of) h = answered d n what (close_right m objects es rising listed tx0 n0 c h.held) h.fits.purpose.0 h.fits.purpose.1
  answers_so c w _ d n what (end.IsSaved o upto bs p page) h = answered d n what (page_right c p page h.held) tt tt
  answers_so c w _ d n what (end.AreTrimmed b e) h = answered d n what h.held tt tt
  answers_so c w _ d n what (end.IsAsked own p o q upto t s of a has is) h = asked c w own p o q upto t s of a has is h.held h.fits
  answers_so c w _ d n what (end.EndBlocked own p q x of a) h = answered d n what (close_right m objects es rising listed tx0 n0 c h.held) (inr (h.fits.stuck q x a)) tt
  answers_so c w _ d n what (end.EndUnsure own p upto of a k) h = answered d n what (close_right m objects es rising listed tx0 n0 c h.held) (inl refl) tt
  answers_so c w _ d n what (end.EndJudged own p upto e b _ of a i j l) h =
      let k = judged_so own p.view w.at e b what j (h.fits.ended upto e of a i) in answered d n what (close_right m objects es rising listed tx0 n0 c h.held) k.1 k.2
  answers_so c w _ d n what (end.FateKept own p at b of k f) h = answered d n what h.held (h.fits.so.fates at b f) tt
  answers_so c w _ d n what (end.FateJudged own p at e v b of k f i is s t) h = answered d n what h.held (fate_so c w own p at e v b h.fits of k f i is s) tt
  answers_so c w _ d n what (end.DecideJudged own p at e v b of t k i is s l) h = answered d n what h.held (decided_so c w own p at e v b h.fits of k i is s) tt
  answers_so c w _ d n what x h = answered d n what h.held tt tt

  tells_so : (c : Client m) (w : Work m) (p : Place m) (d : Client m) (ns : List (NoteOf m)) → end.IsTold m c w p d ns → Along c w p → RightMove (replies m d ns)
  tells_so c w _ d _ (end.IsCommitted bs p page) h =
      one_told d _ (told.Committed p) (close_right m objects es rising listed tx0 n0 (owns m c p page) (owns_right c p page h.held)) (landed h.fits.draft p h.fits.purpose (h.fits.lands (At p page) refl)) tt
  tells_so c w _ d _ (end.IsRescued x bs p page) h = one_told d 0 x (page_right c p page h.held) (rescue_said h.fits.draft p x h.fits.purpose.0 (h.fits.lands (At p page) refl)) h.fits.purpose.1
  tells_so c w _ d _ (end.IsMarked n o mark bs p page) h =
      replies_right m objects es rising listed tx0 n0 d (note m n (told.Committed p) ∷ note m 0 (told.Marked o mark) ∷ []) (took_right m objects es rising listed tx0 n0 (owns m c p page) c.view (owns_right c p page h.held) refl) said plain
    where
      said : TrueNotes m objects es rising listed (note m n (told.Committed p) ∷ note m 0 (told.Marked o mark) ∷ [])
      said x (inl e) = subst (λ (y : NoteOf m). TrueWhat m objects es rising listed y.what) (sym e) (landed h.fits.draft p h.fits.purpose (h.fits.lands (At p page) refl))
      said x (inr (inl e)) = subst (λ (y : NoteOf m). TrueWhat m objects es rising listed y.what) (sym e) tt
      said x (inr (inr i)) = absurd i

      plain : ArePlain m (note m n (told.Committed p) ∷ note m 0 (told.Marked o mark) ∷ [])
      plain x (inl e) = subst (λ (y : NoteOf m). IsPlain m y.what) (sym e) tt
      plain x (inr (inl e)) = subst (λ (y : NoteOf m). IsPlain m y.what) (sym e) tt
      plain x (inr (inr i)) = absurd i
  tells_so c w _ d _ (end.IsInstalled e p) h = one_told d 0 (told.Installed e) (stands_right c p h.held) tt tt
  tells_so c w _ d _ (end.PlaysOther own p k) h = replies_right m objects es rising listed tx0 n0 c [] h.held (λ n i. absurd i) (λ n i. absurd i)
  tells_so c w _ d _ (end.LooksFound at o q p upto s l e a is) h = one_told c 0 (told.Past o q at (m.answers s q)) h.held (answer_there m objects es rising listed p.view at o q s (h.fits (not_lt w.tail at l) p upto e a) is) tt
  tells_so c w _ d _ (end.RescueKnown at b e) h =
      let out = rescued m objects es rising listed tx0 n0 (all_entries m c w w.oids) w.trims w.oids c.objects at b false e h.fits in one_told c 0 (told.Rescued at (Some b)) h.held (out.0, out.1 refl) tt
  tells_so c w _ d _ x h = one_told c 0 _ h.held tt tt

  right_ends : (c : Client m) (w : Work m) (p : Place m) (x : Moved m) → end.End m c w p x → Along c w p → RightMove x
  right_ends c w p _ (end.GoesOn d t bs x) h = goes c w p d t bs x h
  right_ends c w p _ (end.LearnsNewer t x) h = learns c w p t x h
  right_ends c w p _ (end.Syncs d v os x) h = synced c w p d v os x h
  right_ends c w p _ (end.Appends d e y ns x) h = appended c w p d e y ns x h
  right_ends c w p _ (end.Refuses d n why x) h = refuses_right m objects es rising listed tx0 n0 d n why (refused_held c w p d n why x h.held)
  right_ends c w p _ (end.Answers d n what x) h = answers_so c w p d n what x h
  right_ends c w p _ (end.Tells d ns x) h = tells_so c w p d ns x h

  -- A delivery.

  task_true : (d : Hand m) → TrueHand m objects es rising listed d → True (task_in m d)
  task_true (Doing t) k = k
  task_true (Learning waits t) k = k

  pub feed_right : (c : Client m) (from : NodeId) (rid : ℕ) (x : Reply) → Held c → LandsBy m es (append_by m c.work) (work_ends m c c.work from rid x) → EachDelivery m objects es (Ready m objects es) c c.work from rid x → RightMove (feed m c c.work from rid x)
  feed_right c from rid x h l r =
      delivered m objects es (Ready m objects es) Along RightMove right_ends way walked_way c from rid x (still c h)
      (λ w t has doing a other. record {
        held = h;
        fits = (
          subst (λ (d : Hand m). TrueHand m objects es rising listed d) doing (h.right.work w has),
          λ b e is k. l b e (ap (append_by m) has ∙ ap (λ (d : Hand m). append_of m (task_in m d)) doing ∙ is) (end_fed m c from rid x w t has doing a other ∙ k),
        );
      })
      (λ w q has is new. record { held = h; fits = (task_true w.hand (h.right.work w has), λ b e is' k. l b e (ap (append_by m) has ∙ is') (end_newer m c from rid x w q has is new ∙ k)) })
      r
