-- Through each of a client's turns: what its work has been told since its command began, and so why it refuses the command.
use Rattle.std.proofs.Common.{◌≡◌, ◌⊎◌, ℕ, ◌+◌, ◌<◌, ◌≤◌, List, [], ◌∷◌, length, Bool, true, false, refl, sym, ap, ◌∙◌, subst, inl, inr, arith, Option, Some, None}
use Rattle.std.specs.Prelude.{if◌then◌else◌, nat_le, nat_lt}
use Rattle.tg_base.specs.Orders.{oid_eq}
use Rattle.tg_base.specs.declared.fault.Many.TheVariants as many
use Rattle.tg_base.specs.declared.msg.Msg.{Msg}
use Rattle.tg_base.specs.declared.msg.Msg.TheVariants as msg
use Rattle.tg_base.specs.declared.packet.Out.{Out}
use Rattle.tg_base.specs.Layouts.{Layout}
use Rattle.tg_base.specs.declared.ids.NodeId.{NodeId}
use Rattle.tg_base.specs.declared.ids.Oid.{Oid}
use Rattle.tg_entry.specs.declared.entry.Entry.{Entry}
use Rattle.tg_kind.specs.Meaning.{Meaning}
use Rattle.tg_model.specs.declared.command.Command.TheVariants as cmd
use Rattle.tg_model.specs.declared.refusal.Refusal.{Refusal}
use Rattle.tg_model.specs.declared.refusal.Refusal.TheVariants as cause
use Rattle.tg_model.specs.declared.trace.What.TheVariants as told
use Rattle.tg_model.specs.Kinds.{CommandOf, WhatOf, NoteOf}
use Rattle.tg_proj.specs.declared.fault.ProjFault.{ProjFault}
use Rattle.tg_proj.specs.declared.fault.ProjFault.TheVariants as layout
use Rattle.tg_protocol.specs.Words.{seqr_id, has_oid}
use Rattle.tg_protocol.specs.Layouts.{spare_fault}
use Rattle.tg_protocol.specs.Entries.{entry_size}
use Rattle.tg_protocol.specs.Requests.{out, awaits, Next, Goes, Learns, Ends}
use Rattle.tg_protocol.specs.Replies.{reply}
use Rattle.tg_protocol.specs.Appending.{append_start}
use Rattle.tg_protocol.specs.Syncing.{SyncWork, Checking, Settling, Probing, Sync, Confirmed, sync_work_asks, sync_asks, sync_start}
use Rattle.tg_protocol.specs.Trimming.{Copying}
use Rattle.tg_protocol.specs.Views.{Entries, View, Play, Verdict, Commits, Aborts, Unknown, view_start, view_outcome, play}
use Rattle.tg_protocol.specs.Checkpoints.{TrimPoints, trim_of, checkpoint, view_bases}
use Rattle.tg_protocol.specs.Past.{commit_at, PastTurn, PastView, PastGone, past_by, past_or_gone, last_base, past_play, past_at, RescueTurn, Wider, Wide, Absent, StuckAt, Known, known_by, at_record, block_in, rescue_played, rescue_turn}
use Rattle.tg_protocol.specs.Past as past
use Rattle.tg_protocol.specs.Clients.{Purpose, Task, Syncing, Walking, Appending, Trimming, Copying', Reconfiguring, Hand, Doing, Learning, Work, Client, all_entries, member_entries, by_layout, layout_refusal, copy_fault}
use Rattle.tg_protocol.specs.Answers.{Moved, note, replies, answers, appends, syncs, trim_above}
use Rattle.tg_protocol.specs.ClientSteps.{task_in, task_asks, task_awaited, trims_with, feed, stands, accepts, refused_or}
use Rattle.tg_protocol.specs.Causes.{IsRescue, is_of_tx, layout_cause}
use Rattle.tg_law_layouts.proofs.Moves.Members.{Has, has_either}
use Rattle.tg_law_headline.proofs.Alike.Appends.{Asked}
use Rattle.tg_law_headline.proofs.Alike.Machines.{TailTold, SyncOk, SyncNext, sync_ok}
use Rattle.tg_law_claims.proofs.Causes.Turns.{NotRefused, NoneRefused, PurposeFine, TaskFine, Aims, answer_fine, told_fine}
use Rattle.tg_law_claims.proofs.Causes.AtOnce.{spare_few}
use Rattle.tg_law_claims.proofs.Causes.Jobs.{Heard, ToldNow, OwnGone, Places, AppendNext, append_told, append_anew, WalkNext, walk_begun, walk_anew, walk_told}
use Rattle.tg_law_claims.proofs.Causes.Sights.{MissingNow, ReconfNext, latest_told, reconf_told, IsSame, CopyNext, copy_stays, copy_begun}
use Rattle.tg_law_steps.proofs.Places.{Place, Feeds, Newer, OnSync, OnWalk, OnAppend, OnTrims, OnCopy, OnReconf, Over, Walks, Plays, Looks, Rescues as Rescues'}
use Rattle.tg_law_steps.proofs.Ways.{Way, NewerSync, NewerWalk, NewerAppend, NewerTrims, NewerCopy, NewerReconf, EndsAtOnce, WalkEnds, StartsOver, sync_fed, walk_fed, append_fed, copy_fed, reconf_fed, AllWalked, HasPlayed, LooksBack, IsRescue as IsRescue'}
use Rattle.tg_law_steps.proofs.Ends.{End, GoesOn, LearnsNewer, Syncs, Appends, Refuses, Answers, Tells, IsGoing, SyncGoes, WalkGoes, WalkBegins, AppendGoes, CopyGoes, IsLearning, WalkLearns, AppendLearns, CopyLearns, IsAppended, MarkBegins, IsRefused, RecordFull, RecordForgotten, OtherFull, OtherForgotten, ReconfNotWhole, CopyFault, AskClosed, FateForgotten, DecideForgotten, SaveLarge, LooksAhead, LooksForgotten, RescueWide, RescueForgotten}
use Rattle.tg_law_steps.proofs.Takes.{Taken, SaidAtOnce, CopyBegins, said_work, taken}
use Rattle.tg_law_steps.proofs.Along.{delivered, over_walks}

-- What a client got, of which node and with which number, and what it has asked so. Its command began with this number.
module _ (m : Meaning) (Got AskSent : NodeId → ℕ → Msg → Type 0) (lo : ℕ) where
  -- a position that the command names is trimmed
  abbrev pub NamedGone : CommandOf m → ℕ → ℕ → Type 0
  NamedGone (cmd.Fate p) at below = (p ≡ at) × (at < below) × ToldNow Got AskSent lo (msg.Gone below)
  NamedGone (cmd.Decide p) at below = (p ≡ at) × (at < below) × ToldNow Got AskSent lo (msg.Gone below)
  NamedGone (cmd.Rescue p) at below = (p ≡ at) × (at < below) × ToldNow Got AskSent lo (msg.Gone below)
  NamedGone (cmd.AskAt p o q) at below = (p ≡ at) × ToldNow Got AskSent lo (msg.Gone below)
  NamedGone x at below = ⊥

  abbrev pub AheadOf : CommandOf m → ℕ → Type 0
  AheadOf (cmd.AskAt p o q) tail = (tail < p) × TailTold Got lo tail
  AheadOf x tail = ⊥

  -- a checkpoint of the view, whoever saves it
  abbrev pub LargeOf : CommandOf m → Option (View m) → ℕ → Type 0
  LargeOf (cmd.Checkpoint o) view n = (4096 < n) × ((v : View m) × ((view ≡ Some v) × ((k : ℕ) → n ≡ entry_size (checkpoint m v o v.upto k 1))))
  LargeOf x view n = ⊥

  -- why a client that stands so refuses a command that waited with these streams
  abbrev pub Because : Client m → CommandOf m → List Oid → Refusal → Type 0
  Because d x os (cause.Undecided p o) = Unit {0}
  Because d x os (cause.NoCheckpoint o) = Unit {0}
  Because d x os (cause.OpenDecision p) = Unit {0}
  Because d x os (cause.NotHosted o) = Unit {0}
  Because d x os (cause.Overtaken e) = Unit {0}
  Because d x os cause.NoTx = (is_of_tx m x ≡ true) × (d.tx ≡ None)
  Because d x os (cause.LogFull l) = ToldNow Got AskSent lo (msg.Full l)
  Because d x os (cause.Forgotten at below) = NamedGone x at below ⊎ OwnGone Got AskSent lo at below
  Because d x os (cause.Ahead tail) = AheadOf x tail
  Because d x os (cause.NotWhole u pos) = MissingNow m Got AskSent lo u pos
  Because d x os (cause.TooLarge n) = LargeOf x d.view n
  Because d x os (cause.TooMany many.Hosted) = IsRescue m x × (128 ≤ length os)
  Because d x os why = layout_cause m d.stand x ≡ Some why

  abbrev pub SayOk : Client m → CommandOf m → List Oid → WhatOf m → Type 0
  SayOk d x os (told.Refused why) = Because d x os why
  SayOk d x os what = Unit {0}

  abbrev pub EachSays : Client m → CommandOf m → List Oid → List (NoteOf m) → Type 0
  EachSays d x os ns = (n : NoteOf m) → Has ns n → SayOk d x os n.what

  -- each trim that the walks met was told
  abbrev pub AllGone : TrimPoints → Type 0
  AllGone ts = (x : Oid × ℕ) → Has ts x → ToldNow Got AskSent lo (msg.Gone x.1)

  abbrev pub SyncHeld : SyncWork → Type 0
  SyncHeld (Checking r) = Unit {0}
  SyncHeld (Settling a j) = TailTold Got lo a.tail
  SyncHeld (Probing a j) = TailTold Got lo a.tail

  abbrev pub TaskHeld : CommandOf m → ℕ → Task m → Type 0
  TaskHeld x tail (Syncing s) = SyncHeld s.work
  TaskHeld x tail (Walking k os) = TailTold Got lo tail
  TaskHeld x tail (Appending a y) = Places Got AskSent lo a
  TaskHeld x tail (Trimming t) = Unit {0}
  TaskHeld x tail (Copying' c) = x ≡ cmd.Copy c.unit c.range c.stripe
  TaskHeld x tail (Reconfiguring r) = Unit {0}

  -- while it learns a newer layout
  abbrev pub LearnHeld : CommandOf m → ℕ → Task m → Type 0
  LearnHeld x tail (Syncing s) = Unit {0}
  LearnHeld x tail t = TaskHeld x tail t

  abbrev pub HandHeld : CommandOf m → ℕ → Hand m → Type 0
  HandHeld x tail (Doing t) = TaskHeld x tail t
  HandHeld x tail (Learning ws t) = LearnHeld x tail t

  abbrev pub WorkHeld : Option (Work m) → Type 0
  WorkHeld None = Unit {0}
  WorkHeld (Some w) = AllGone w.trims × HandHeld w.command w.tail w.hand

  learn_of : (x : CommandOf m) (tail : ℕ) (d : Hand m) → HandHeld x tail d → LearnHeld x tail (task_in m d)
  learn_of x tail (Doing (Syncing s)) k = tt
  learn_of x tail (Doing (Walking v os)) k = k
  learn_of x tail (Doing (Appending a y)) k = k
  learn_of x tail (Doing (Trimming t)) k = k
  learn_of x tail (Doing (Copying' c)) k = k
  learn_of x tail (Doing (Reconfiguring r)) k = k
  learn_of x tail (Learning ws t) k = k

  sync_held : (w : SyncWork) → SyncOk Got lo w → SyncHeld w
  sync_held (Checking r) k = tt
  sync_held (Settling a j) k = k
  sync_held (Probing a j) k = k

  none_gone : AllGone []
  none_gone x i = absurd i

  found_gone : (ts : TrimPoints) (o : Oid) (g : Option ℕ) → AllGone ts → ((b : ℕ) → g ≡ Some b → ToldNow Got AskSent lo (msg.Gone b)) → AllGone (trims_with m ts o g)
  found_gone ts o None h k = h
  found_gone ts o (Some b) h k = λ x i. by x (has_either ts ((o, b) ∷ []) x i)
    where
      by : (x : Oid × ℕ) → Has ts x ⊎ Has ((o, b) ∷ []) x → ToldNow Got AskSent lo (msg.Gone x.1)
      by x (inl i) = h x i
      by x (inr (inl e)) = subst (λ (z : Oid × ℕ). ToldNow Got AskSent lo (msg.Gone z.1)) (sym e) (k b refl)
      by x (inr (inr i)) = absurd i

  above_told : (ts : TrimPoints) (p b : ℕ) → AllGone ts → trim_above m ts p ≡ Some b → (p < b) × ToldNow Got AskSent lo (msg.Gone b)
  above_told [] p b h e = absurd (no' e)
    where
      no' : None ≡ Some b → ⊥
      no' z = cc
  above_told (x ∷ xs) p b h e = by (nat_lt p x.1) refl e (λ f. above_told xs p b (λ y i. h y (inr i)) f)
    where
      by : (c : Bool) → nat_lt p x.1 ≡ c → (if c then Some x.1 else trim_above m xs p) ≡ Some b → (trim_above m xs p ≡ Some b → (p < b) × ToldNow Got AskSent lo (msg.Gone b)) → (p < b) × ToldNow Got AskSent lo (msg.Gone b)
      by true l e rest = (less p x.1 b l e, subst (λ (z : ℕ). ToldNow Got AskSent lo (msg.Gone z)) (one x.1 b e) (h x (inl refl)))
        where
          one : (a c : ℕ) → Some a ≡ Some c → a ≡ c
          one a c z = cc

          less : (a c d : ℕ) → nat_lt a c ≡ true → Some c ≡ Some d → a < d
          less a c d l e = grind arith
      by false l e rest = rest e

  of_told : (ts : TrimPoints) (o : Oid) (b : ℕ) → AllGone ts → trim_of ts o ≡ Some b → ToldNow Got AskSent lo (msg.Gone b)
  of_told [] o b h e = absurd (no' e)
    where
      no' : None ≡ Some b → ⊥
      no' z = cc
  of_told (x ∷ xs) o b h e = by (oid_eq x.0 o) e (λ f. of_told xs o b (λ y i. h y (inr i)) f)
    where
      one : (a c : ℕ) → Some a ≡ Some c → a ≡ c
      one a c z = cc

      by : (c : Bool) → (if c then Some x.1 else trim_of xs o) ≡ Some b → (trim_of xs o ≡ Some b → ToldNow Got AskSent lo (msg.Gone b)) → ToldNow Got AskSent lo (msg.Gone b)
      by true e rest = subst (λ (z : ℕ). ToldNow Got AskSent lo (msg.Gone z)) (one x.1 b e) (h x (inl refl))
      by false e rest = rest e

  past_gone : (es : Entries) (o : Oid) (pos : ℕ) (t : Option ℕ) (v : Play m) (b : ℕ) → past_by m es o pos t v ≡ PastGone b → t ≡ Some b
  past_gone es o pos None v b e = absurd cc
  past_gone es o pos (Some below) v b e = by (last_base m es o below pos) e
    where
      by : (c : Option _) → past_or_gone m c below v ≡ PastGone b → Some below ≡ Some b
      by None e = cc
      by (Some c) e = absurd cc

  past_at_gone : (es : Entries) (ts : TrimPoints) (os objects : List Oid) (o : Oid) (pos b : ℕ) → past_at m es ts os objects o pos ≡ PastGone b → trim_of ts o ≡ Some b
  unfolding past_at
  past_at_gone es ts os objects o pos b e = past_gone es o pos (trim_of ts o) (past_play m es ts os objects pos) b e

  record_narrow : (v : View m) (es : Entries) (at : ℕ) (b : Option (ℕ × Oid)) (e : Option Entry) → at_record m v es at b e ≡ Wide → ⊥
  record_narrow v es at b None e = cc
  record_narrow v es at (Some b) (Some d) e = cc
  record_narrow v es at None (Some d) e = by (view_outcome m v es at d) e
    where
      by : (o : Verdict) → known_by m es at d o ≡ Wide → ⊥
      by Commits e = cc
      by Aborts e = cc
      by (Unknown o) e = cc

  grown : (os : List Oid) (o : Oid) → past.grows m os o ≡ Wide → 128 ≤ length os
  grown os o e = by (nat_le 128 (length os)) refl e
    where
      many : (n : ℕ) → nat_le 128 n ≡ true → 128 ≤ n
      many n l = grind arith

      by : (b : Bool) → nat_le 128 (length os) ≡ b → ◌≡◌ {A = RescueTurn m} (if b then Wide else Wider o) Wide → 128 ≤ length os
      by true l e = many (length os) l
      by false l e = absurd cc

  wide_is : (es : Entries) (ts : TrimPoints) (os objects : List Oid) (at : ℕ) → rescue_turn m es ts os objects at ≡ Wide → 128 ≤ length os
  unfolding rescue_turn
  wide_is es ts os objects at e = by (play m (view_start m (view_bases m es ts objects os)) es (at + 1)) e
    where
      block : (p : Play m) (b : Option (ℕ × Oid)) → past.rescue_by m p es os at b ≡ Wide → 128 ≤ length os
      block p None e = absurd (record_narrow p.view es at None (commit_at es at) e)
      block p (Some b) e = has (has_oid b.1 os) e
        where
          has : (c : Bool) → (if c then at_record m p.view es at (Some b) (commit_at es at) else past.grows m os b.1) ≡ Wide → 128 ≤ length os
          has true e = absurd (record_narrow p.view es at (Some b) (commit_at es at) e)
          has false e = grown os b.1 e

      by : (p : Play m) → rescue_played m p es os at ≡ Wide → 128 ≤ length os
      by p e = block p (block_in m p es at p.came) e

  -- The turns of a command, with the streams that it walks.
  module _ (x : CommandOf m) (os : List Oid) where
    pub record Good (r : Moved m) : Type 0 where
      pub held : WorkHeld r.now.work
      pub says : EachSays r.now x os r.notes

    other_says : (d : Client m) (what : WhatOf m) → NotRefused m what → SayOk d x os what
    other_says d (told.Refused why) k = absurd k
    other_says d what k = tt

    fine_says : (d : Client m) (ns : List (NoteOf m)) → NoneRefused m ns → EachSays d x os ns
    fine_says d [] k n i = absurd i
    fine_says d (j ∷ ns) k n (inl e) = subst (λ (z : NoteOf m). SayOk d x os z.what) (sym e) (other_says d j.what k.0)
    fine_says d (j ∷ ns) k n (inr i) = fine_says d ns k.1 n i

    one_says : (d : Client m) (k : NoteOf m) → SayOk d x os k.what → EachSays d x os (k ∷ [])
    one_says d k s n (inl e) = subst (λ (z : NoteOf m). SayOk d x os z.what) (sym e) s
    one_says d k s n (inr i) = absurd i

    -- Along a turn.

    -- what a sync comes to; after a newer layout its answer may be of a request before this command
    abbrev SyncCame : Next Sync Confirmed → Type 0
    SyncCame (Goes s) = SyncHeld s.work
    SyncCame (Learns s) = Unit {0}
    SyncCame (Ends y) = TailTold Got lo y.tail

    sync_came : (to : Next Sync Confirmed) → SyncNext Got lo to → SyncCame to
    sync_came (Goes s) k = sync_held s.work k
    sync_came (Learns s) k = tt
    sync_came (Ends y) k = k

    abbrev IsOf : Work m → Copying → Type 0
    IsOf w y = w.command ≡ cmd.Copy y.unit y.range y.stripe

    abbrev Here : Client m → Work m → Place m → Type 0
    Here c w (Feeds (Syncing s) n rid z) = SyncCame (sync_fed m c s n z).to
    Here c w (Feeds (Walking k rs) n rid z) = TailTold Got lo w.tail × WalkNext Got AskSent lo (walk_fed m c k n z).to
    Here c w (Feeds (Appending a y) n rid z) = PurposeFine m y × AppendNext Got AskSent lo (append_fed m c a n z).to
    Here c w (Feeds (Trimming t) n rid z) = Unit {0}
    Here c w (Feeds (Copying' y) n rid z) = IsOf w y × CopyNext y (copy_fed m c y n z).to
    Here c w (Feeds (Reconfiguring r) n rid z) = ReconfNext m Got AskSent lo (reconf_fed m c r n rid z).to
    Here c w (Newer t n rid q) = LearnHeld w.command w.tail t × TaskFine m t
    Here c w (OnSync bs to) = SyncCame to
    Here c w (OnWalk o rs to) = TailTold Got lo w.tail × WalkNext Got AskSent lo to
    Here c w (OnAppend y bs to) = PurposeFine m y × AppendNext Got AskSent lo to
    Here c w (OnTrims b to) = Unit {0}
    Here c w (OnCopy y to) = IsOf w y × CopyNext y to
    Here c w (OnReconf to) = ReconfNext m Got AskSent lo to
    Here c w (Over o rs y g) = TailTold Got lo w.tail
    Here c w (Walks rs) = TailTold Got lo w.tail
    Here c w (Plays es p) = c.view ≡ Some p.view
    Here c w (Looks at o q) = (w.command ≡ cmd.AskAt at o q) × TailTold Got lo w.tail
    Here c w (Rescues' at) = w.command ≡ cmd.Rescue at

    -- of the command's work
    record Of (w : Work m) : Type 0 where
      of : w.command ≡ x
      has : w.oids ≡ os
      gone : AllGone w.trims

    abbrev At' : Client m → Work m → Place m → Type 0
    At' c w p = Of w × Here c w p

    of_way : (c : Client m) (w : Work m) (p : Place m) (d : Client m) (v : Work m) (q : Place m) → Way m c w p d v q → Of w → Here c w p → Of v
    of_way c w _ _ _ _ (EndsAtOnce o rs y e) k h = record { of = k.of; has = k.has; gone = found_gone w.trims o y.gone k.gone (subst (WalkNext Got AskSent lo) e (walk_begun Got AskSent lo c.stand o _ w.lo c.cells c.next)) }
    of_way c w _ _ _ _ (WalkEnds o rs y) k h = record { of = k.of; has = k.has; gone = found_gone w.trims o y.gone k.gone h.1 }
    of_way c w _ _ _ _ (StartsOver o rs y b e f z) k h = record { of = k.of; has = k.has; gone = none_gone }
    of_way c w _ _ _ _ y k h = record { of = k.of; has = k.has; gone = k.gone }

    here_way : (c : Client m) (w : Work m) (p : Place m) (d : Client m) (v : Work m) (q : Place m) → Way m c w p d v q → Here c w p → Here d v q
    unfolding sync_start
    here_way c w _ _ _ _ (NewerSync s n rid q) h = tt
    here_way c w _ _ _ _ (NewerWalk k rs n rid q) h = (h.0, walk_anew Got AskSent lo q k c.next)
    here_way c w _ _ _ _ (NewerAppend a y n rid q) h = (h.1, append_anew Got AskSent lo a h.0 q c.next)
    here_way c w _ _ _ _ (NewerTrims t n rid q) h = tt
    here_way c w _ _ _ _ (NewerCopy y n rid q fine) h = (h.0, copy_begun y c.next)
    here_way c w _ _ _ _ (NewerReconf r n rid q) h = latest_told m Got AskSent lo r n rid q c.next
    here_way c w _ _ _ _ (WalkEnds o rs y) h = h.0
    here_way c w _ _ _ _ y h = h

    way : (c : Client m) (w : Work m) (p : Place m) (d : Client m) (v : Work m) (q : Place m) → Way m c w p d v q → At' c w p → At' d v q
    way c w p d v q y h = (of_way c w p d v q y h.0 h.1, here_way c w p d v q y h.1)

    walked_way : (c : Client m) (w : Work m) (d : Client m) (q : Place m) → AllWalked m c w d q → At' c w (Walks []) → At' d w q
    walked_way c w _ _ (HasPlayed k) h = (h.0, refl)
    walked_way c w _ _ (LooksBack at o q is) h = (h.0, (is, h.1))
    walked_way c w _ _ (IsRescue' at is) h = (h.0, is)

    -- What a turn comes to.

    same_copy : (z : CommandOf m) (a b : Copying) → IsSame a b → z ≡ cmd.Copy a.unit a.range a.stripe → z ≡ cmd.Copy b.unit b.range b.stripe
    same_copy z a b s e = cc

    going_held : (c : Client m) (w : Work m) (p : Place m) (d : Client m) (t : Task m) (bs : List Out) → IsGoing m c w p d t bs → Here c w p → TaskHeld w.command w.tail t
    going_held c w _ _ _ _ (SyncGoes bs s) h = h
    going_held c w _ _ _ _ (WalkGoes o rs y) h = h.0
    going_held c w _ _ _ _ (WalkBegins o rs y e) h = h
    going_held c w _ _ _ _ (AppendGoes y bs a) h = h.1
    going_held c w _ _ _ _ (CopyGoes y z) h = same_copy w.command y z h.1 h.0
    going_held c w _ _ _ _ y h = tt

    learning_held : (c : Client m) (w : Work m) (p : Place m) (t : Task m) → IsLearning m c w p t → Here c w p → LearnHeld w.command w.tail t
    learning_held c w _ _ (WalkLearns o rs y) h = h.0
    learning_held c w _ _ (AppendLearns y bs a) h = h.1
    learning_held c w _ _ (CopyLearns y z) h = same_copy w.command y z h.1 h.0
    learning_held c w _ _ y h = tt

    appended_fine : (c : Client m) (w : Work m) (p : Place m) (d : Client m) (e : Entry) (y : Purpose m) (ns : List (NoteOf m)) → IsAppended m c w p d e y ns → NoneRefused m ns
    appended_fine c w _ _ _ _ _ (MarkBegins es p upto o n of came may) = (tt, (tt, (tt, tt)))
    appended_fine c w _ _ _ _ _ y = tt

    -- where a walk met a trim above the position that the command names
    named : (w : Work m) (z : CommandOf m) (p b : ℕ) → Of w → w.command ≡ z → trim_above m w.trims p ≡ Some b → ((p ≡ p) × (p < b) × ToldNow Got AskSent lo (msg.Gone b) → NamedGone z p b) → NamedGone x p b
    named w z p b k is e f = let t = above_told w.trims p b k.gone e in subst (λ (y : CommandOf m). NamedGone y p b) (sym is ∙ k.of) (f (refl, t.0, t.1))

    less : (i j : ℕ) → nat_lt i j ≡ true → i < j
    less i j e = grind arith

    size_same : (v : View m) (o : Oid) (u n k j : ℕ) → entry_size (checkpoint m v o u n j) ≡ entry_size (checkpoint m v o v.upto k 1)
    unfolding entry_size checkpoint
    size_same v o u n k j = refl

    -- a copy's fault in the layout where the client stands
    copy_because : (d : Client m) (y : Copying) (f : ProjFault) → spare_fault d.stand (record { unit = y.unit; range = y.range; stripe = y.stripe }) ≡ Some f → layout_cause m d.stand x ≡ Some (layout_refusal m f) → Because d x os (layout_refusal m f)
    copy_because d y (layout.TooMany n) is e = absurd (spare_few d.stand (record { unit = y.unit; range = y.range; stripe = y.stripe }) n is)
    copy_because d y (layout.NotClosed r) is e = e
    copy_because d y (layout.NoStripe r s) is e = e
    copy_because d y (layout.InChain u) is e = e
    copy_because d y (layout.Returned u) is e = e
    copy_because d y (layout.NoReplica r s) is e = e
    copy_because d y (layout.NotAcked u) is e = e

    copy_refused : (d : Client m) (y : Copying) (why : Refusal) → copy_fault m d.stand y.unit y.range y.stripe ≡ Some why → cmd.Copy y.unit y.range y.stripe ≡ x → Because d x os why
    unfolding copy_fault
    copy_refused d y why is of = by (spare_fault d.stand (record { unit = y.unit; range = y.range; stripe = y.stripe })) refl is
      where
        by : (o : Option ProjFault) → spare_fault d.stand (record { unit = y.unit; range = y.range; stripe = y.stripe }) ≡ o → by_layout m o ≡ Some why → Because d x os why
        by None e i = absurd cc
        by (Some f) e i = subst (Because d x os) (one (layout_refusal m f) why i)
            (copy_because d y f e (subst (λ (z : CommandOf m). layout_cause m d.stand z ≡ Some (layout_refusal m f)) of (ap (λ (o : Option ProjFault). by_layout m o) e)))
          where
            one : (a b : Refusal) → Some a ≡ Some b → a ≡ b
            one a b j = cc

    because : (c : Client m) (w : Work m) (p : Place m) (d : Client m) (n : ℕ) (why : Refusal) → IsRefused m c w p d n why → Of w → Here c w p → Because (replies m d []).now x os why
    unfolding copy_fault
    because c w _ _ _ _ (RecordFull y bs i r) k h = h.1
    because c w _ _ _ _ (RecordForgotten y bs p b r) k h = inr h.1
    because c w _ _ _ _ (OtherFull y bs n i r) k h = h.1
    because c w _ _ _ _ (OtherForgotten y bs n p b r) k h = inr h.1
    because c w _ _ _ _ (ReconfNotWhole u i p) k h = h
    because c w _ _ _ _ (CopyFault y n rid q why is) k h = copy_refused (stands m c q) y why is (sym h.0 ∙ k.of)
    because c w _ _ _ _ (AskClosed es p o q upto of came none) k h = (subst (λ (z : CommandOf m). is_of_tx m z ≡ true) (sym of ∙ k.of) refl, none)
    because c w _ _ _ _ (FateForgotten es p at b of came f t) k h = inl (named w (cmd.Fate at) at b k of t (λ g. g))
    because c w _ _ _ _ (DecideForgotten es p at b of t) k h = inl (named w (cmd.Decide at) at b k of t (λ g. g))
    because c w _ _ _ _ (SaveLarge es p upto o of came l) k h = subst (λ (z : CommandOf m). LargeOf z c.view (entry_size (checkpoint m p.view o w.tail c.num (c.checkpoints + 1)))) (sym of ∙ k.of)
        (less 4096 (entry_size (checkpoint m p.view o w.tail c.num (c.checkpoints + 1))) l, (p.view, (h, λ n. size_same p.view o w.tail c.num n (c.checkpoints + 1))))
    because c w _ _ _ _ (LooksAhead at o q l) k h = subst (λ (z : CommandOf m). AheadOf z w.tail) (sym h.0 ∙ k.of) (less w.tail at l, h.1)
    because c w _ _ _ _ (LooksForgotten at o q b l e) k h =
        inl (subst (λ (z : CommandOf m). NamedGone z at b) (sym h.0 ∙ k.of) (refl, of_told w.trims o b k.gone (past_at_gone (member_entries m c w w.oids) w.trims w.oids c.objects o at b e)))
    because c w _ _ _ _ (RescueWide at e) k h = (subst (λ (z : CommandOf m). IsRescue m z) (sym h ∙ k.of) tt, subst (λ (rs : List Oid). 128 ≤ length rs) k.has (wide_is (all_entries m c w w.oids) w.trims w.oids c.objects at e))
    because c w _ _ _ _ (RescueForgotten at b e t) k h = inl (named w (cmd.Rescue at) at b k h t (λ g. g))
    because c w _ _ _ _ y k h = tt

    aims : (c : Client m) (w : Work m) (p : Place m) → Here c w p → Aims m p
    aims c w (OnAppend y bs to) h = h.0
    aims c w p h = tt

    ends_good : (c : Client m) (w : Work m) (p : Place m) (r : Moved m) → End m c w p r → At' c w p → Good r
    unfolding appends append_start syncs sync_start
    ends_good c w p _ (GoesOn d t bs y) h = record { held = (h.0.gone, going_held c w p d t bs y h.1); says = (λ n i. absurd i) }
    ends_good c w p _ (LearnsNewer t y) h = record { held = (h.0.gone, learning_held c w p t y h.1); says = (λ n i. absurd i) }
    ends_good c w p _ (Syncs d v rs y) h = record { held = (none_gone, tt); says = (λ n i. absurd i) }
    ends_good c w p _ (Appends d e z ns y) h = record { held = (h.0.gone, tt); says = fine_says (appends m d w e z ns).now ns (appended_fine c w p d e z ns y) }
    ends_good c w p _ (Refuses d n why y) h = record { held = tt; says = one_says (replies m d []).now (note m n (told.Refused why)) (because c w p d n why y h.0 h.1) }
    ends_good c w p _ (Answers d n what y) h = record { held = tt; says = fine_says (answers m d n what).now (note m n what ∷ []) (answer_fine m c w p d n what y (aims c w p h.1), tt) }
    ends_good c w p _ (Tells d ns y) h = record { held = tt; says = fine_says (replies m d ns).now ns (told_fine m c w p d ns y (aims c w p h.1)) }

    -- Deliveries.

    module _ (from : NodeId) (rid : ℕ) (y : Msg) (c : Client m) where
      check_rid : (p : Layout) (s : Sync) (r : ℕ) → Asked (sync_work_asks p s (Checking r)) from rid → rid ≡ r
      unfolding sync_work_asks
      check_rid p s r k = by k.of k.has k.number
        where
          by : (o : Out) → Has (out (seqr_id p.seq) r (msg.Check p.epoch s.oids) ∷ []) o → o.rid ≡ rid → rid ≡ r
          by o (inl e) i = sym i ∙ ap (λ (z : Out). z.rid) e
          by o (inr h) i = absurd h

      sync_told : (s : Sync) (v : SyncWork) → s.work ≡ v → SyncHeld v → Heard Got AskSent lo (sync_asks c.stand s) from rid y → SyncOk Got lo s.work
      sync_told s (Checking r) is k h = let e = check_rid c.stand s r (subst (λ (z : SyncWork). Asked (sync_work_asks c.stand s z) from rid) is h.asked) in let l = h.now in subst (SyncOk Got lo) (sym is) (omega (arith, e, l))
      sync_told s (Settling a j) is k h = subst (SyncOk Got lo) (sym is) k
      sync_told s (Probing a j) is k h = subst (SyncOk Got lo) (sym is) k

      task_told : (w : Work m) (t : Task m) → TaskHeld w.command w.tail t → TaskFine m t → Heard Got AskSent lo (task_awaited m c.stand t) from rid y → Here c w (Feeds t from.num rid (reply y))
      unfolding task_asks
      task_told w (Syncing s) k f h = sync_came _ (sync_ok Got lo c.stand s (sync_told s s.work refl k h) from rid y h.got from.num c.next h.asked)
      task_told w (Walking v rs) k f h = (k, walk_told Got AskSent lo c.stand v from.num c.next from rid y h)
      task_told w (Appending a z) k f h = (f, append_told Got AskSent lo a k from rid y c.stand from.num c.next h)
      task_told w (Trimming t) k f h = tt
      task_told w (Copying' z) k f h = (k, copy_stays c.stand z from.num c.next (reply y))
      task_told w (Reconfiguring r) k f h = reconf_told m Got AskSent lo r from rid y h c.next

      -- of a client that works for this command
      pub feed_good : (v : Work m) → c.work ≡ Some v → v.command ≡ x → v.oids ≡ os → WorkHeld c.work → TaskFine m (task_in m v.hand)
          → ((t : Task m) → v.hand ≡ Doing t → awaits (task_awaited m c.stand t) from rid ≡ true → Heard Got AskSent lo (task_awaited m c.stand t) from rid y) → Good (feed m c c.work from rid (reply y))
      feed_good v is of has held fine heard = delivered m At' Good ends_good way (over_walks m At' Good ends_good walked_way) c from rid (reply y) (record { held = held; says = (λ n i. absurd i) })
          (λ w t here doing a other. let e = same w here in (work w e, task_told w t (subst (HandHeld w.command w.tail) doing (held_of w here).1) (subst (λ (d : Hand m). TaskFine m (task_in m d)) doing (fine_of w e)) (heard t (ap (λ (z : Work m). z.hand) e ∙ doing) a)))
          (λ w q here is' e'. let e = same w here in (work w e, (learn_of w.command w.tail w.hand (held_of w here).1, fine_of w e)))
        where
          same : (w : Work m) → c.work ≡ Some w → v ≡ w
          same w here = one v w (sym is ∙ here)
            where
              one : (a b : Work m) → Some a ≡ Some b → a ≡ b
              one a b e = cc

          held_of : (w : Work m) → c.work ≡ Some w → WorkHeld (Some w)
          held_of w here = subst WorkHeld here held

          fine_of : (w : Work m) → v ≡ w → TaskFine m (task_in m w.hand)
          fine_of w e = subst (λ (z : Work m). TaskFine m (task_in m z.hand)) e fine

          work : (w : Work m) → v ≡ w → Of w
          work w e = subst Of e (record { of = of; has = has; gone = (subst WorkHeld is held).0 })

  -- Commands.

  taken_held : (c : Client m) → c.work ≡ None → (x : CommandOf m) (y : Moved m) → Taken m c x y → WorkHeld y.now.work
  unfolding appends append_start syncs sync_start
  taken_held c free _ _ (SaidAtOnce x d ns s) = subst WorkHeld (sym (said_work m c x d ns s ∙ free)) tt
  taken_held c free _ _ (CopyBegins u r s) = (none_gone, refl)
  taken_held c free _ _ x = (none_gone, tt)

  pub command_held : (c : Client m) (x : CommandOf m) (o : Option Refusal) → (o ≡ None → c.work ≡ None) → WorkHeld c.work → WorkHeld (refused_or m c x o).now.work
  command_held c x None free h = taken_held c (free refl) x (accepts m c x) (taken m c x)
  command_held c x (Some why) free h = h
