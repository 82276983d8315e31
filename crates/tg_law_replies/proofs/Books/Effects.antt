-- What a delivery makes of a waiting client: its transaction, what it appends, and what it tells.
use Rattle.std.proofs.Common.{◌≡◌, ℕ, ◌+◌, List, [], ◌∷◌, Bool, false, refl, sym, ap, ◌∙◌, subst, Option, Some, None}
use Rattle.std.specs.Prelude.{not}
use Rattle.tg_base.specs.declared.packet.Out.{Out}
use Rattle.tg_base.specs.declared.ids.NodeId.{NodeId}
use Rattle.tg_base.specs.declared.ids.Oid.{Oid}
use Rattle.tg_entry.specs.declared.entry.Entry.{Entry}
use Rattle.tg_kind.specs.Meaning.{Meaning}
use Rattle.tg_model.specs.declared.command.Command.TheVariants as cmd
use Rattle.tg_model.specs.declared.refusal.Refusal.{Refusal}
use Rattle.tg_model.specs.declared.refusal.Refusal.TheVariants as cause
use Rattle.tg_model.specs.declared.trace.What.TheVariants as told
use Rattle.tg_model.specs.Kinds.{CommandOf, WhatOf, NoteOf}
use Rattle.tg_protocol.specs.Entries.{is_commit}
use Rattle.tg_protocol.specs.Replies.{Reply}
use Rattle.tg_protocol.specs.Appending.{Asking, Append, AppendEnd, At, Full, Forgotten, append_start}
use Rattle.tg_protocol.specs.Syncing.{sync_start}
use Rattle.tg_law_steps.proofs.Places.{Place, Feeds, Newer, OnAppend, OnTrims, OnCopy, OnReconf, Plays, Looks, Rescues as Rescues'}
use Rattle.tg_law_steps.proofs.Places
use Rattle.tg_law_steps.proofs.Ways.{Way, FeedsSync, FeedsWalk, FeedsAppend, FeedsTrims, FeedsCopy, FeedsReconf, NewerSync, NewerWalk, NewerAppend, NewerTrims, NewerCopy, NewerReconf, AllWalked, HasPlayed, LooksBack, IsRescue}
use Rattle.tg_law_steps.proofs.Ends as end
use Rattle.tg_law_steps.proofs.Served.{refused_other, other_not_end}
use Rattle.tg_law_steps.proofs.Along.{replied, over_walks}
use Rattle.tg_protocol.specs.Views.{Entries, View, view_version}
use Rattle.tg_protocol.specs.Checkpoints.{checkpoint}
use Rattle.tg_protocol.specs.Transactions.{Tx, tx_read}
use Rattle.tg_protocol.specs.Clients.{Purpose, Writes, Judged, Decides, Rescues, Saves, Marks, Task, Syncing, Walking, Appending, Work, Client, tx_number}
use Rattle.tg_protocol.specs.Answers.{Moved, moved, note, mark_notes, mark_record, replies, refuses, took_over, answers, closed, appends, syncs, decision, with_decision}
use Rattle.tg_protocol.specs.ClientSteps.{task_in, goes_on, learns_for, knows_page, owns, stands, reply_feed}
use Rattle.tg_law_replies.proofs.Replies.Turns.{Keeps, feed_keeps, again_keeps}
use Rattle.tg_law_replies.specs.Replies.Ended.{end_of, task_ends, again_ends, reply_ends, work_ends}
use Rattle.tg_law_replies.proofs.Replies.Ways.{end_fed, end_newer}

module _ (m : Meaning) where
  abbrev pub IsEnd : CommandOf m → Type 0
  IsEnd cmd.End = Unit {0}
  IsEnd x = ⊥

  abbrev pub IsAsk : CommandOf m → Type 0
  IsAsk (cmd.Ask o q) = Unit {0}
  IsAsk x = ⊥

  -- no append
  abbrev pub Idle : Task m → Type 0
  Idle (Appending a y) = ⊥
  Idle t = Unit {0}

  -- appends of `end` are of it alone, and it has no others
  abbrev pub SuitsPurpose : CommandOf m → Purpose m → Type 0
  SuitsPurpose x Writes = IsEnd x
  SuitsPurpose x Judged = IsEnd x
  SuitsPurpose x (Decides what) = Unit {0}
  SuitsPurpose x (Marks n o mark) = x ≡ cmd.Forget o mark
  SuitsPurpose x y = IsEnd x → ⊥

  abbrev pub Suits : CommandOf m → Task m → Type 0
  Suits x (Appending a y) = SuitsPurpose x y
  Suits x (Syncing s) = Unit {0}
  Suits x (Walking k os) = Unit {0}
  Suits x t = IsEnd x → ⊥

  -- the record of a transaction
  abbrev pub IsRecord : Purpose m → Type 0
  IsRecord Writes = Unit {0}
  IsRecord Judged = Unit {0}
  IsRecord y = ⊥

  -- neither that nor a mark
  abbrev pub IsOther : Purpose m → Type 0
  IsOther Writes = ⊥
  IsOther Judged = ⊥
  IsOther (Marks n o k) = ⊥
  IsOther y = Unit {0}

  -- what is told of a record
  abbrev pub OfRecord : ℕ → WhatOf m → Type 0
  OfRecord p (told.Committed q) = q ≡ p
  OfRecord p (told.Aborted q o part seen now) = q ≡ p
  OfRecord p (told.Unsure q r) = q ≡ p
  OfRecord p what = ⊥

  abbrev pub DecidesOf : CommandOf m → ℕ → Purpose m → Type 0
  DecidesOf cmd.End p (Decides what) = OfRecord p what
  DecidesOf x p y = Unit {0}

  abbrev pub NotForgotten : Refusal → Type 0
  NotForgotten (cause.Forgotten p b) = ⊥
  NotForgotten (cause.LogFull l) = ⊥
  NotForgotten why = Unit {0}

  -- replies that speak of no transaction
  abbrev pub AllZero : List (NoteOf m) → Type 0
  AllZero [] = Unit {0}
  AllZero (n ∷ ns) = (n.tx ≡ 0) × AllZero ns

-- The client before the step, its command in hand, and how the step ends an append of it.
module _ (m : Meaning) (c0 : Client m) (w0 : Work m) (end0 : Option AppendEnd) where
  abbrev pub Same : Client m → Type 0
  Same d = (d.tx ≡ c0.tx) × (d.begun ≡ c0.begun) × (d.num ≡ c0.num)

  abbrev pub Shut : Client m → Type 0
  Shut d = (d.tx ≡ None) × (d.begun ≡ c0.begun) × (d.num ≡ c0.num)

  -- the command goes on
  pub data Onward (v : Work m) : Type 0 where
    Same' : (a b : Append) (y : Purpose m) → task_in m w0.hand ≡ Appending a y → task_in m v.hand ≡ Appending b y → b.draft ≡ a.draft → v.at ≡ w0.at → Onward v
    Walks : Idle m (task_in m w0.hand) → Idle m (task_in m v.hand) → Suits m w0.command (task_in m v.hand) → v.at ≡ w0.at → Onward v
    Lands : (a : Append) (p : ℕ) (page : List ℕ) → task_in m w0.hand ≡ Appending a Judged → end0 ≡ Some (At p page) → v.at ≡ p → Idle m (task_in m v.hand) → Suits m w0.command (task_in m v.hand) → Onward v
    Begins : (a : Append) (y : Purpose m) → Idle m (task_in m w0.hand) → task_in m v.hand ≡ Appending a y → is_commit a.draft ≡ false → IsOther m y → DecidesOf m w0.command w0.at y → SuitsPurpose m w0.command y → v.at ≡ w0.at → Onward v

  -- replies that leave the transaction open
  pub data Quit : List (NoteOf m) → Type 0 where
    Zeros : {ns : List (NoteOf m)} → (IsEnd m w0.command → ⊥) → AllZero m ns → Quit ns
    AskFails : (why : Refusal) → IsAsk m w0.command → NotForgotten m why → Quit (note m (tx_number m c0.tx) (told.Refused why) ∷ [])
    Filled : (a : Append) (y : Purpose m) (l : ℕ) → task_in m w0.hand ≡ Appending a y → IsRecord m y → end0 ≡ Some (Full l) → Quit (note m (tx_number m c0.tx) (told.Refused (cause.LogFull l)) ∷ [])
    Marked : (a : Append) (n : ℕ) (o : Oid) (k p : ℕ) (page : List ℕ) → task_in m w0.hand ≡ Appending a (Marks n o k) → end0 ≡ Some (At p page) → Quit (note m n (told.Committed p) ∷ note m 0 (told.Marked o k) ∷ [])
    MarkFilled : (a : Append) (n : ℕ) (o : Oid) (k l : ℕ) → task_in m w0.hand ≡ Appending a (Marks n o k) → end0 ≡ Some (Full l) → Quit (note m n (told.Refused (cause.LogFull l)) ∷ [])
    MarkLost : (a : Append) (n : ℕ) (o : Oid) (k p b : ℕ) → task_in m w0.hand ≡ Appending a (Marks n o k) → end0 ≡ Some (Forgotten p b) → Quit (note m n (told.Refused (cause.Forgotten p b)) ∷ [])

  -- what is told of the transaction that is closed
  pub data Close : WhatOf m → Type 0 where
    Lost : (a : Append) (y : Purpose m) (p b : ℕ) → task_in m w0.hand ≡ Appending a y → IsRecord m y → end0 ≡ Some (Forgotten p b) → Close (told.Refused (cause.Forgotten p b))
    Written : (a : Append) (p : ℕ) (page : List ℕ) → task_in m w0.hand ≡ Appending a Writes → end0 ≡ Some (At p page) → Close (told.Committed p)
    Decided : (a : Append) (what : WhatOf m) → task_in m w0.hand ≡ Appending a (Decides what) → Close what
    Told : (what : WhatOf m) → Idle m (task_in m w0.hand) → OfRecord m w0.at what → Close what

  pub record Asked (x : Moved m) : Type 0 where
    pub of : Tx
    pub from : c0.tx ≡ Some of
    pub oid : Oid
    pub ask : m.ask
    pub version : ℕ
    pub tail : ℕ
    pub answer : m.answer
    pub is_ask : IsAsk m w0.command
    pub tx : x.now.tx ≡ Some (tx_read of (record { oid = oid; part = m.look ask; version = version }) tail)
    pub begun : x.now.begun ≡ c0.begun
    pub num : x.now.num ≡ c0.num
    pub idle : x.now.work ≡ None
    pub notes : x.notes ≡ note m of.number (told.Asked oid ask tail answer) ∷ []

  pub record Marking (x : Moved m) : Type 0 where
    pub oid : Oid
    pub mark : ℕ
    pub command : w0.command ≡ cmd.Forget oid mark
    pub idle : Idle m (task_in m w0.hand)
    pub tx : x.now.tx ≡ c0.tx
    pub begun : x.now.begun ≡ c0.begun + 1
    pub num : x.now.num ≡ c0.num
    pub work : Work m
    pub works : x.now.work ≡ Some work
    pub same : work.command ≡ w0.command
    pub append : Append
    pub appends : task_in m work.hand ≡ Appending append (Marks (c0.begun + 1) oid mark)
    pub draft : append.draft ≡ mark_record m c0 oid mark
    pub notes : x.notes ≡ mark_notes m (c0.begun + 1) oid mark

  pub data Effect (x : Moved m) : Type 0 where
    On : Same x.now → x.notes ≡ [] → (v : Work m) → x.now.work ≡ Some v → v.command ≡ w0.command → Onward v → Effect x
    Quits : Same x.now → x.now.work ≡ None → Quit x.notes → Effect x
    Closes : Shut x.now → x.now.work ≡ None → IsEnd m w0.command → (what : WhatOf m) → x.notes ≡ note m (tx_number m c0.tx) what ∷ [] → Close what → Effect x
    Asks : Asked x → Effect x
    Marks' : Marking x → Effect x

  -- a client and its work within the step
  abbrev In : Client m → Work m → Type 0
  In c w = (c.tx ≡ c0.tx) × (c.begun ≡ c0.begun) × (c.num ≡ c0.num) × (w.command ≡ w0.command) × (w.at ≡ w0.at)

  -- what is known of the task at a place
  abbrev Fits : Client m → Place m → Type 0
  Fits c (Feeds t n rid x) = (task_in m w0.hand ≡ t) × (task_ends m c t n x ≡ end0)
  Fits c (Newer t n rid q) = (task_in m w0.hand ≡ t) × (again_ends m (stands m c q) t ≡ end0)
  Fits c (OnAppend y bs to) = (a : Append) × (task_in m w0.hand ≡ Appending a y) × Keeps a.draft to × (end_of to ≡ end0)
  Fits c (OnTrims b to) = Idle m (task_in m w0.hand) × (IsEnd m w0.command → ⊥)
  Fits c (OnCopy x to) = Idle m (task_in m w0.hand) × (IsEnd m w0.command → ⊥)
  Fits c (OnReconf to) = Idle m (task_in m w0.hand) × (IsEnd m w0.command → ⊥)
  Fits c (Looks at o q) = Idle m (task_in m w0.hand) × (IsEnd m w0.command → ⊥)
  Fits c (Rescues' at) = Idle m (task_in m w0.hand) × (IsEnd m w0.command → ⊥)
  Fits c p = Idle m (task_in m w0.hand)

  record Along (c : Client m) (w : Work m) (p : Place m) : Type 0 where
    pub held : In c w
    pub fits : Fits c p

  took_same : (c : Client m) (v : Option (View m)) → Same c → Same (took_over m c v)
  took_same c None h = h
  took_same c (Some v) h = h

  took_shut : (c : Client m) (v : Option (View m)) → Shut c → Shut (took_over m c v)
  took_shut c None h = h
  took_shut c (Some v) h = h

  same : (c : Client m) (w : Work m) → In c w → Same c
  same c w h = (h.0, h.1, h.2)

  number_is : (c : Client m) (w : Work m) → In c w → tx_number m c.tx ≡ tx_number m c0.tx
  number_is c w h = ap (λ (t : Option Tx). tx_number m t) h.0

  zeros : (c : Client m) (w : Work m) (ns : List (NoteOf m)) → In c w → (IsEnd m w0.command → ⊥) → AllZero m ns → Effect (replies m c ns)
  zeros c w ns h other z = Quits (same c w h) refl (Zeros other z)

  zero_refuses : (c : Client m) (w : Work m) (why : Refusal) → In c w → (IsEnd m w0.command → ⊥) → Effect (refuses m c 0 why)
  zero_refuses c w why h other = zeros c w _ h other (refl, tt)

  zero_answers : (c : Client m) (w : Work m) (what : WhatOf m) → In c w → (IsEnd m w0.command → ⊥) → Effect (answers m c 0 what)
  zero_answers c w what h other = Quits (took_same c c.view (same c w h)) refl (Zeros other (refl, tt))

  closes_with : (c : Client m) (w : Work m) (what : WhatOf m) → In c w → IsEnd m w0.command → Close what → Effect (answers m (closed m c) (tx_number m c.tx) what)
  closes_with c w what h end k = Closes (took_shut (closed m c) c.view (refl, h.1, h.2)) refl end what (ap (λ (i : ℕ). note m i what ∷ []) (number_is c w h)) k

  -- an append that isn't of a record or a mark begins
  begins_with : (c : Client m) (w : Work m) (e : Entry) (y : Purpose m) → In c w → Idle m (task_in m w0.hand) → is_commit e ≡ false → IsOther m y → DecidesOf m w0.command w0.at y → SuitsPurpose m w0.command y → Effect (appends m c w e y [])
  unfolding appends append_start
  begins_with c w e y h idle body other of suits = On (same c w h) refl _ refl h.3 (Begins _ y idle refl body other of suits h.4)

  ask_fails : (c : Client m) (w : Work m) (n : ℕ) (why : Refusal) → In c w → IsAsk m w0.command → NotForgotten m why → n ≡ tx_number m c.tx → Effect (refuses m c n why)
  ask_fails c w n why h is not at = Quits (same c w h) refl (subst (λ (i : ℕ). Quit (note m i (told.Refused why) ∷ [])) (sym (at ∙ number_is c w h)) (AskFails why is not))

  -- Commands.

  -- what is so of the command at a place, by what it is there
  of_command : {v x : CommandOf m} (K : CommandOf m → Type 0) → v ≡ w0.command → v ≡ x → K x → K w0.command
  of_command K h of k = subst K (sym of ∙ h) k

  other : {v x : CommandOf m} → v ≡ w0.command → v ≡ x → IsEnd m w0.command → IsEnd m x
  other h of i = subst (λ (y : CommandOf m). IsEnd m y) (sym h ∙ of) i

  never : (x : CommandOf m) → (x ≡ cmd.End → ⊥) → IsEnd m x → ⊥
  never cmd.End free e = free refl
  never x free e = e

  end_decides : (x : CommandOf m) (p : ℕ) (what : WhatOf m) → OfRecord m p what → DecidesOf m x p (Decides what)
  end_decides cmd.End p what k = k
  end_decides x p what k = tt

  not_end : (x : CommandOf m) (p : ℕ) (what : WhatOf m) → (IsEnd m x → ⊥) → DecidesOf m x p (Decides what)
  not_end cmd.End p what free = absurd (free tt)
  not_end x p what free = tt

  of_nothing : (x : CommandOf m) (p : ℕ) (o : Oid) (u : ℕ) → DecidesOf m x p (Saves o u)
  of_nothing cmd.End p o u = tt
  of_nothing x p o u = tt

  of_rescue : (x : CommandOf m) (p : ℕ) (what : WhatOf m) → DecidesOf m x p (Rescues what)
  of_rescue cmd.End p what = tt
  of_rescue x p what = tt

  is_record : (y : Purpose m) → end.OfRecord m y → IsRecord m y
  is_record _ end.OfWrites = tt
  is_record _ end.OfJudged = tt

  record_ends : (y : Purpose m) → end.OfRecord m y → SuitsPurpose m w0.command y → IsEnd m w0.command
  record_ends _ end.OfWrites e = e
  record_ends _ end.OfJudged e = e

  judges_own : (es : Entries) (v : View m) (p : ℕ) (e : Entry) (so : Bool) (what : WhatOf m) → end.Judges m es v p e so what → p ≡ w0.at → OfRecord m w0.at what
  judges_own es v p e _ _ (end.Commit' j) at = at
  judges_own es v p e _ _ (end.Abort' x j u k) at = at

  is_checkpoint : (v : View m) (o : Oid) (upto client number : ℕ) → is_commit (checkpoint m v o upto client number) ≡ false
  unfolding checkpoint
  is_checkpoint v o upto client number = refl

  -- Along the turn.

  module _ (suits0 : Suits m w0.command (task_in m w0.hand)) where
    still : (c : Client m) (w : Work m) → In c w → c.work ≡ Some w0 → Effect (moved m c [])
    still c w h has = by (task_in m w0.hand) refl
      where
        by : (t : Task m) → task_in m w0.hand ≡ t → Effect (moved m c [])
        by (Appending a y) is = On (same c w h) refl w0 has refl (Same' a a y is is refl refl)
        by t is = On (same c w h) refl w0 has refl (Walks (subst (Idle m) (sym is) tt) (subst (Idle m) (sym is) tt) suits0 refl)

    suits : {t : Task m} → task_in m w0.hand ≡ t → Suits m w0.command t
    suits is = subst (λ (z : Task m). Suits m w0.command z) is suits0

    idle : {t : Task m} → task_in m w0.hand ≡ t → Idle m t → Idle m (task_in m w0.hand)
    idle is i = subst (Idle m) (sym is) i

    way : (c : Client m) (w : Work m) (p : Place m) (d : Client m) (v : Work m) (q : Place m) → Way m c w p d v q → Along c w p → Along d v q
    way c w _ _ _ _ (FeedsSync s n rid x) h = record { held = h.held; fits = idle h.fits.0 tt }
    way c w _ _ _ _ (FeedsWalk k os n rid x) h = record { held = h.held; fits = idle h.fits.0 tt }
    way c w _ _ _ _ (FeedsAppend a y n rid x) h = record { held = h.held; fits = (a, h.fits.0, feed_keeps c.stand a n x c.next, h.fits.1) }
    way c w _ _ _ _ (FeedsTrims t n rid x) h = record { held = h.held; fits = (idle h.fits.0 tt, suits h.fits.0) }
    way c w _ _ _ _ (FeedsCopy y n rid x) h = record { held = h.held; fits = (idle h.fits.0 tt, suits h.fits.0) }
    way c w _ _ _ _ (FeedsReconf r n rid x) h = record { held = h.held; fits = (idle h.fits.0 tt, suits h.fits.0) }
    way c w _ _ _ _ (NewerSync s n rid q) h = record { held = h.held; fits = idle h.fits.0 tt }
    way c w _ _ _ _ (NewerWalk k os n rid q) h = record { held = h.held; fits = idle h.fits.0 tt }
    way c w _ _ _ _ (NewerAppend a y n rid q) h = record { held = h.held; fits = (a, h.fits.0, again_keeps q a c.next, h.fits.1) }
    way c w _ _ _ _ (NewerTrims t n rid q) h = record { held = h.held; fits = (idle h.fits.0 tt, suits h.fits.0) }
    way c w _ _ _ _ (NewerCopy x n rid q f) h = record { held = h.held; fits = (idle h.fits.0 tt, suits h.fits.0) }
    way c w _ _ _ _ (NewerReconf r n rid q) h = record { held = h.held; fits = (idle h.fits.0 tt, suits h.fits.0) }
    way c w _ _ _ _ x h = record { held = h.held; fits = h.fits }

    walked_way : (c : Client m) (w : Work m) (d : Client m) (q : Place m) → AllWalked m c w d q → Along c w (Places.Walks []) → Along d w q
    walked_way c w _ _ (HasPlayed k) h = record { held = h.held; fits = h.fits }
    walked_way c w _ _ (LooksBack at o q of) h = record { held = h.held; fits = (h.fits, other h.held.3 of) }
    walked_way c w _ _ (IsRescue at of) h = record { held = h.held; fits = (h.fits, other h.held.3 of) }

    goes_effect : (c : Client m) (w : Work m) (p : Place m) (d : Client m) (t : Task m) (bs : List Out) → end.IsGoing m c w p d t bs → Along c w p → Effect (goes_on m d w t bs)
    goes_effect c w _ _ _ _ (end.AppendGoes y bs b) h = On (same c w h.held) refl _ refl h.held.3 (Same' h.fits.0 b y h.fits.1 refl h.fits.2 h.held.4)
    goes_effect c w _ _ _ _ (end.TrimsBegin es p upto of a z) h = On (same c w h.held) refl _ refl h.held.3 (Walks h.fits tt (other h.held.3 of) h.held.4)
    goes_effect c w _ _ _ _ (end.TrimsGo b t) h = On (same c w h.held) refl _ refl h.held.3 (Walks h.fits.0 tt h.fits.1 h.held.4)
    goes_effect c w _ _ _ _ (end.CopyGoes x y) h = On (same c w h.held) refl _ refl h.held.3 (Walks h.fits.0 tt h.fits.1 h.held.4)
    goes_effect c w _ _ _ _ (end.ReconfGoes r) h = On (same c w h.held) refl _ refl h.held.3 (Walks h.fits.0 tt h.fits.1 h.held.4)
    goes_effect c w _ _ _ _ x h = On (same c w h.held) refl _ refl h.held.3 (Walks h.fits tt tt h.held.4)

    learns_effect : (c : Client m) (w : Work m) (p : Place m) (t : Task m) → end.IsLearning m c w p t → Along c w p → Effect (learns_for m c w t)
    learns_effect c w _ _ (end.AppendLearns y bs b) h = On (same c w h.held) refl _ refl h.held.3 (Same' h.fits.0 b y h.fits.1 refl h.fits.2 h.held.4)
    learns_effect c w _ _ (end.SyncLearns bs s) h = On (same c w h.held) refl _ refl h.held.3 (Walks h.fits tt tt h.held.4)
    learns_effect c w _ _ (end.WalkLearns o os x) h = On (same c w h.held) refl _ refl h.held.3 (Walks h.fits tt tt h.held.4)
    learns_effect c w _ _ x h = On (same c w h.held) refl _ refl h.held.3 (Walks h.fits.0 tt h.fits.1 h.held.4)

    syncs_effect : (c : Client m) (w : Work m) (p : Place m) (d : Client m) (v : Work m) (os : List Oid) → end.IsSynced m c w p d v os → Along c w p → Effect (syncs m d v os)
    unfolding syncs sync_start
    syncs_effect c w _ _ _ _ (end.JudgedAt bs p page) h = On (same c w h.held) refl _ refl h.held.3 (Lands h.fits.0 p page h.fits.1 (sym h.fits.3) refl tt tt)
    syncs_effect c w _ _ _ _ (end.Widens at o e) h = On (same c w h.held) refl _ refl h.held.3 (Walks h.fits.0 tt tt h.held.4)
    syncs_effect c w _ _ _ _ x h = On (same c w h.held) refl _ refl h.held.3 (Walks h.fits tt tt h.held.4)

    appends_effect : (c : Client m) (w : Work m) (p : Place m) (d : Client m) (e : Entry) (y : Purpose m) (ns : List (NoteOf m)) → end.IsAppended m c w p d e y ns → Along c w p → Effect (appends m d w e y ns)
    unfolding appends append_start
    appends_effect c w _ _ _ _ _ (end.EndDecides es p upto e so what of a k j l) h =
        begins_with (with_decision m c) w (decision m c e w.at so) (Decides what) h.held h.fits refl tt (end_decides w0.command w0.at what (judges_own es p.view w.at e so what j h.held.4)) tt
    appends_effect c w _ _ _ _ _ (end.DecideDecides es p at e d so of t k i v s l) h =
        begins_with (with_decision m c) w (decision m c e at so) (Decides _) h.held h.fits refl tt (not_end w0.command w0.at _ (other h.held.3 of)) tt
    appends_effect c w _ _ _ _ _ (end.SaveBegins es p upto o of a l) h =
        begins_with (record c { checkpoints = c.checkpoints + 1 }) w _ (Saves o w.tail) h.held h.fits (is_checkpoint p.view o w.tail c.num (c.checkpoints + 1)) tt (of_nothing w0.command w0.at o w.tail) (other h.held.3 of)
    appends_effect c w _ _ _ _ _ (end.RescueDecides at so e k i) h = begins_with (with_decision m c) w (decision m c e at so) (Rescues _) h.held h.fits.0 refl tt (of_rescue w0.command w0.at _) h.fits.1
    appends_effect c w _ _ _ _ _ (end.MarkBegins es p upto o n of a f) h = Marks' (record {
      oid = o;
      mark = n;
      command = sym h.held.3 ∙ of;
      idle = h.fits;
      tx = h.held.0;
      begun = ap (λ (i : ℕ). i + 1) h.held.1;
      num = h.held.2;
      work = _;
      works = refl;
      same = h.held.3;
      append = record { draft = mark_record m c o n; token = None; work = Asking c.next };
      appends = ap (λ (i : ℕ). Appending (record { draft = mark_record m c o n; token = None; work = Asking c.next }) (Marks (i + 1) o n)) h.held.1;
      draft = λ i. mark_record m (record c0 { num = h.held.2 i; begun = h.held.1 i }) o n;
      notes = ap (λ (i : ℕ). mark_notes m (i + 1) o n) h.held.1;
    })

    refuses_effect : (c : Client m) (w : Work m) (p : Place m) (d : Client m) (n : ℕ) (why : Refusal) → end.IsRefused m c w p d n why → Along c w p → Effect (refuses m d n why)
    refuses_effect c w _ _ _ _ (end.RecordFull y bs l of) h =
        Quits (same c w h.held) refl (subst (λ (i : ℕ). Quit (note m i (told.Refused (cause.LogFull l)) ∷ [])) (sym (number_is c w h.held)) (Filled h.fits.0 y l h.fits.1 (is_record y of) (sym h.fits.3)))
    refuses_effect c w _ _ _ _ (end.RecordForgotten y bs p b of) h =
        Closes (refl, h.held.1, h.held.2) refl (record_ends y of (suits h.fits.1)) (told.Refused (cause.Forgotten p b)) (ap (λ (i : ℕ). note m i (told.Refused (cause.Forgotten p b)) ∷ []) (number_is c w h.held))
        (Lost h.fits.0 y p b h.fits.1 (is_record y of) (sym h.fits.3))
    refuses_effect c w _ _ _ _ (end.OtherFull _ bs _ l (end.OfMark n o j)) h = Quits (same c w h.held) refl (MarkFilled h.fits.0 n o j l h.fits.1 (sym h.fits.3))
    refuses_effect c w _ _ _ _ (end.OtherFull _ bs _ l of) h = zero_refuses c w _ h.held (suits h.fits.1)
    refuses_effect c w _ _ _ _ (end.OtherForgotten _ bs _ p b (end.OfMark n o j)) h = Quits (same c w h.held) refl (MarkLost h.fits.0 n o j p b h.fits.1 (sym h.fits.3))
    refuses_effect c w _ _ _ _ (end.OtherForgotten _ bs _ p b of) h = zero_refuses c w _ h.held (suits h.fits.1)
    refuses_effect c w _ _ _ _ (end.CopyFault x n rid q why f) h = zero_refuses (stands m c q) w _ h.held (suits h.fits.0)
    refuses_effect c w _ _ _ _ (end.AskBlocked es p o q r x of a) h = ask_fails c w _ _ h.held (of_command (IsAsk m) h.held.3 of tt) tt refl
    refuses_effect c w _ _ _ _ (end.AskMissing es p o q upto t of a is s) h = ask_fails c w _ _ h.held (of_command (IsAsk m) h.held.3 of tt) tt (ap (λ (t : Option Tx). tx_number m t) (sym is))
    refuses_effect c w (Plays es p) d n why x h = zero_refuses d w why h.held (never w0.command (λ e. refused_other m c w es p d n why x (h.held.3 ∙ e)))
    refuses_effect c w _ d _ _ x h = zero_refuses d w _ h.held h.fits.1

    answers_effect : (c : Client m) (w : Work m) (p : Place m) (d : Client m) (n : ℕ) (what : WhatOf m) → end.IsAnswered m c w p d n what → Along c w p → Effect (answers m d n what)
    answers_effect c w _ _ _ _ (end.DecidedAt x bs p page free) h = zero_answers (knows_page m c p page) w x h.held (never w0.command (λ e. free (h.held.3 ∙ e)))
    answers_effect c w _ _ _ _ (end.DecidedLost x bs e l free) h = zero_answers c w x h.held (never w0.command (λ e. free (h.held.3 ∙ e)))
    answers_effect c w _ _ _ _ (end.JudgedSo x bs p page of) h = closes_with (knows_page m c p page) w x h.held (of_command (IsEnd m) h.held.3 of tt) (Decided h.fits.0 x h.fits.1)
    answers_effect c w _ _ _ _ (end.JudgedLost x bs e l of) h = closes_with c w x h.held (of_command (IsEnd m) h.held.3 of tt) (Decided h.fits.0 x h.fits.1)
    answers_effect c w _ _ _ _ (end.IsSaved o upto bs p page) h = zero_answers (knows_page m c p page) w _ h.held (suits h.fits.1)
    answers_effect c w _ _ _ _ (end.AreTrimmed b e) h = zero_answers c w _ h.held h.fits.1
    answers_effect c w _ d _ _ (end.IsAsked es p o q upto t s of a is k) h = Asks (took c.view)
      where
        took : (u : Option (View m)) → Asked (replies m (took_over m (record c { tx = Some (tx_read t (record { oid = o; part = m.look q; version = view_version m p.view o (m.look q) }) w.tail) }) u) (note m t.number (told.Asked o q w.tail (m.answers s q)) ∷ []))
        took None = record { of = t; from = sym h.held.0 ∙ is; oid = o; ask = q; version = view_version m p.view o (m.look q); tail = w.tail; answer = m.answers s q; is_ask = of_command (IsAsk m) h.held.3 of tt; tx = refl; begun = h.held.1; num = h.held.2; idle = refl; notes = refl }
        took (Some u) = record { of = t; from = sym h.held.0 ∙ is; oid = o; ask = q; version = view_version m p.view o (m.look q); tail = w.tail; answer = m.answers s q; is_ask = of_command (IsAsk m) h.held.3 of tt; tx = refl; begun = h.held.1; num = h.held.2; idle = refl; notes = refl }
    answers_effect c w _ _ _ _ (end.EndBlocked es p q x of a) h = closes_with c w _ h.held (of_command (IsEnd m) h.held.3 of tt) (Told _ h.fits h.held.4)
    answers_effect c w _ _ _ _ (end.EndUnsure es p upto of a k) h = closes_with c w _ h.held (of_command (IsEnd m) h.held.3 of tt) (Told _ h.fits h.held.4)
    answers_effect c w _ _ _ _ (end.EndJudged es p upto e so what of a i j l) h = closes_with c w what h.held (of_command (IsEnd m) h.held.3 of tt) (Told what h.fits (judges_own es p.view w.at e so what j h.held.4))
    answers_effect c w _ _ _ _ (end.FateKept es p at so of k f) h = zero_answers c w _ h.held (other h.held.3 of)
    answers_effect c w _ _ _ _ (end.FateNone es p at of k f i t) h = zero_answers c w _ h.held (other h.held.3 of)
    answers_effect c w _ _ _ _ (end.FateJudged es p at e d so of k f i v s t) h = zero_answers c w _ h.held (other h.held.3 of)
    answers_effect c w _ _ _ _ (end.DecideNone es p at of t k i) h = zero_answers c w _ h.held (other h.held.3 of)
    answers_effect c w _ _ _ _ (end.DecideJudged es p at e d so of t k i v s l) h = zero_answers c w _ h.held (other h.held.3 of)
    answers_effect c w _ _ _ _ (end.TrimZero es p upto of a z) h = zero_answers c w _ h.held (other h.held.3 of)

    tells_effect : (c : Client m) (w : Work m) (p : Place m) (d : Client m) (ns : List (NoteOf m)) → end.IsTold m c w p d ns → Along c w p → Effect (replies m d ns)
    tells_effect c w _ _ _ (end.IsCommitted bs p page) h =
        Closes (refl, h.held.1, h.held.2) refl (suits h.fits.1) (told.Committed p) (ap (λ (i : ℕ). note m i (told.Committed p) ∷ []) (number_is c w h.held)) (Written h.fits.0 p page h.fits.1 (sym h.fits.3))
    tells_effect c w _ _ _ (end.IsRescued x bs p page) h = zeros (knows_page m c p page) w _ h.held (suits h.fits.1) (refl, tt)
    tells_effect c w _ _ _ (end.IsMarked n o j bs p page) h = Quits (took_same (owns m c p page) c.view (same c w h.held)) refl (Marked h.fits.0 n o j p page h.fits.1 (sym h.fits.3))
    tells_effect c w _ _ _ (end.PlaysOther es p k) h = zeros c w [] h.held (never w0.command (λ e. other_not_end m w.command k (h.held.3 ∙ e))) tt
    tells_effect c w _ d _ x h = zeros d w _ h.held h.fits.1 (refl, tt)

    ends_effect : (c : Client m) (w : Work m) (p : Place m) (x : Moved m) → end.End m c w p x → Along c w p → Effect x
    ends_effect c w p _ (end.GoesOn d t bs x) h = goes_effect c w p d t bs x h
    ends_effect c w p _ (end.LearnsNewer t x) h = learns_effect c w p t x h
    ends_effect c w p _ (end.Syncs d v os x) h = syncs_effect c w p d v os x h
    ends_effect c w p _ (end.Appends d e y ns x) h = appends_effect c w p d e y ns x h
    ends_effect c w p _ (end.Refuses d n why x) h = refuses_effect c w p d n why x h
    ends_effect c w p _ (end.Answers d n what x) h = answers_effect c w p d n what x h
    ends_effect c w p _ (end.Tells d ns x) h = tells_effect c w p d ns x h

-- of a client that waits
pub feed_effect : (m : Meaning) (c : Client m) (w : Work m) (from : NodeId) (rid : ℕ) (x : Reply) → c.work ≡ Some w → Suits m w.command (task_in m w.hand) → Effect m c w (reply_ends m c w from rid x) (reply_feed m c w from rid x)
feed_effect m c w from rid x is suits =
    replied m P (Effect m c w how) (ends_effect m c w how suits) (way m c w how suits) (over_walks m P (Effect m c w how) (ends_effect m c w how suits) (walked_way m c w how suits)) c w from rid x (still m c w how suits c w start is)
    (λ t doing a other. record { held = start; fits = (ap (task_in m) doing, sym (end_fed m c from rid x w t is doing a other) ∙ same) })
    (λ q k new. record { held = start; fits = (refl, sym (end_newer m c from rid x w q is k new) ∙ same) })
  where
    how : Option AppendEnd
    how = reply_ends m c w from rid x

    same : work_ends m c c.work from rid x ≡ how
    same = ap (λ (o : Option (Work m)). work_ends m c o from rid x) is

    P : Client m → Work m → Place m → Type 0
    P = Along m c w how

    start : In m c w how c w
    start = (refl, refl, refl, refl, refl)
