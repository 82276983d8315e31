-- A client that ends a command tells a reply, whatever it hears.
use Rattle.std.proofs.Common.{◌≡◌, ◌⊎◌, ℕ, List, [], ◌∷◌, Bool, true, refl, ap, ◌∙◌, subst, inl, inr, Option, Some, None}
use Rattle.tg_base.specs.declared.ids.NodeId.{NodeId}
use Rattle.tg_base.specs.declared.msg.Msg.{Msg}
use Rattle.tg_kind.specs.Meaning.{Meaning}
use Rattle.tg_model.specs.declared.trace.What.TheVariants as told
use Rattle.tg_model.specs.Kinds.{CommandOf, WhatOf, NoteOf}
use Rattle.tg_protocol.specs.Replies.{reply}
use Rattle.tg_protocol.specs.Appending.{append_start}
use Rattle.tg_protocol.specs.Syncing.{sync_start}
use Rattle.tg_protocol.specs.Views.{Entries, View}
use Rattle.tg_entry.specs.declared.entry.Entry.{Entry}
use Rattle.tg_protocol.specs.Clients.{Purpose, Decides, Rescues as RescuesWith, Task, Appending, Copying', Hand, Doing, Work, Client}
use Rattle.tg_protocol.specs.Answers.{Moved, note, appends, syncs}
use Rattle.tg_protocol.specs.ClientSteps.{ClientTurn, task_in, plays_kept, client_deliver, client_tick}
use Rattle.tg_law_layouts.proofs.Moves.Members.{Has}
use Rattle.tg_law_steps.proofs.Places.{Place, Feeds, Newer, OnAppend, OnCopy, Walks, Plays}
use Rattle.tg_law_steps.proofs.Ways.{Way, FeedsAppend, FeedsCopy, NewerAppend, NewerCopy, AllWalked, HasPlayed}
use Rattle.tg_law_steps.proofs.Ends as end
use Rattle.tg_law_steps.proofs.Along.{delivered, ticked, over_walks}
use Rattle.tg_law_finish.specs.Finish.Commands.{plays}
use Rattle.tg_law_finish.specs.Finish.Laws.{IsReply}

-- What counts as a reply.
module _ (m : Meaning) (P : WhatOf m → Type 0) where
  pub record Says (ns : List (NoteOf m)) : Type 0 where
    pub note : NoteOf m
    pub here : Has ns note
    pub holds : P note.what

  -- what is told once an append has ended is one
  abbrev pub SoundPurpose : Purpose m → Type 0
  SoundPurpose (Decides what) = P what
  SoundPurpose (RescuesWith what) = P what
  SoundPurpose y = Unit {0}

  abbrev pub Sound : Task m → Type 0
  Sound (Appending a y) = SoundPurpose y
  Sound t = Unit {0}

  -- the command is in hand
  abbrev pub HasIt : CommandOf m → Option (Work m) → Type 0
  HasIt x None = ⊥
  HasIt x (Some w) = (w.command ≡ x) × Sound (task_in m w.hand)

  module _ (replies : (what : WhatOf m) → IsReply m what → P what) (x : CommandOf m) (good : plays m x ≡ true) where
    -- it stays in hand, or a reply is told
    abbrev Good : Moved m → Type 0
    Good y = HasIt x y.now.work ⊎ Says y.notes

    abbrev Here : Client m → Work m → Place m → Type 0
    Here c w (Feeds t n rid y) = (w.command ≡ x) × Sound t
    Here c w (Newer t n rid q) = (w.command ≡ x) × Sound t
    Here c w (OnAppend y bs to) = (w.command ≡ x) × SoundPurpose y
    Here c w (Plays es p) = (w.command ≡ x) × (plays_kept m w.command ≡ true)
    Here c w p = (w.command ≡ x) × Unit {0}

    command : (c : Client m) (w : Work m) (p : Place m) → Here c w p → w.command ≡ x
    command c w (Feeds t n rid y) k = k.0
    command c w (Newer t n rid q) k = k.0
    command c w (OnAppend y bs to) k = k.0
    command c w (Plays es p) k = k.0
    command c w p k = k.0

    way : (c : Client m) (w : Work m) (p : Place m) (d : Client m) (v : Work m) (q : Place m) → Way m c w p d v q → Here c w p → Here d v q
    way c w _ _ _ _ (FeedsAppend a y n rid z) k = k
    way c w _ _ _ _ (NewerAppend a y n rid q) k = k
    way c w _ _ _ _ z k = (k.0, tt)

    walked_way : (c : Client m) (w : Work m) (d : Client m) (q : Place m) → AllWalked m c w d q → Here c w (Walks []) → Here d w q
    walked_way c w _ _ (HasPlayed of) k = (k.0, of)
    walked_way c w _ _ z k = (k.0, tt)

    judged : (es : Entries) (v : View m) (p : ℕ) (e : Entry) (so : Bool) (what : WhatOf m) → end.Judges m es v p e so what → P what
    judged es v p e _ _ (end.Commit' i) = replies _ tt
    judged es v p e _ _ (end.Abort' y i j k) = replies _ tt

    says : (n : ℕ) (what : WhatOf m) (ns : List (NoteOf m)) → P what → Says (note m n what ∷ ns)
    says n what ns y = record { note = note m n what; here = inl refl; holds = y }

    -- the append that begins tells such
    appended : (c : Client m) (w : Work m) (p : Place m) (d : Client m) (e : Entry) (y : Purpose m) (ns : List (NoteOf m)) → end.IsAppended m c w p d e y ns → SoundPurpose y
    appended c w _ _ _ _ _ (end.EndDecides es p upto e so what of a i j l) = judged es p.view w.at e so what j
    appended c w _ _ _ _ _ (end.DecideDecides es p at e d so of t k i v s l) = replies _ tt
    appended c w _ _ _ _ _ (end.RescueDecides at so e i f) = replies _ tt
    appended c w _ _ _ _ _ z = tt

    answered : (c : Client m) (w : Work m) (p : Place m) (d : Client m) (n : ℕ) (what : WhatOf m) → end.IsAnswered m c w p d n what → Here c w p → P what
    answered c w _ _ _ _ (end.DecidedAt z bs p d of) k = k.1
    answered c w _ _ _ _ (end.DecidedLost z bs e i of) k = k.1
    answered c w _ _ _ _ (end.JudgedSo z bs p d of) k = k.1
    answered c w _ _ _ _ (end.JudgedLost z bs e i of) k = k.1
    answered c w _ _ _ _ (end.EndJudged es p upto e so what of a i j l) k = judged es p.view w.at e so what j
    answered c w _ _ _ _ z k = replies _ tt

    -- commands that play their own views
    other : (y : CommandOf m) → end.IsOther m y → plays m y ≡ true → plays_kept m y ≡ true → ⊥
    unfolding plays
    other _ (end.OtherHost o) e f = cc
    other _ end.OtherBegin e f = cc
    other _ (end.OtherPut o op) e f = cc
    other _ end.OtherDrop e f = cc
    other _ (end.OtherReconf z) e f = cc
    other _ (end.OtherCopy u r s) e f = cc
    other _ (end.OtherAskAt at o q) e f = cc
    other _ (end.OtherRescue at) e f = cc

    tells : (c : Client m) (w : Work m) (p : Place m) (d : Client m) (ns : List (NoteOf m)) → end.IsTold m c w p d ns → Here c w p → Says ns
    tells c w _ _ _ (end.IsCommitted bs p d) k = says _ _ [] (replies _ tt)
    tells c w _ _ _ (end.IsRescued z bs p d) k = says _ _ [] k.1
    tells c w _ _ _ (end.IsMarked n o mark bs p d) k = says _ _ _ (replies _ tt)
    tells c w _ _ _ (end.IsCopied z e) k = says _ _ [] (replies _ tt)
    tells c w _ _ _ (end.IsInstalled e p) k = says _ _ [] (replies _ tt)
    tells c w _ _ _ (end.PlaysOther es p i) k = absurd (other w.command i (ap (λ (y : CommandOf m). plays m y) k.0 ∙ good) k.1)
    tells c w _ _ _ z k = says _ _ [] (replies _ tt)

    ends : (c : Client m) (w : Work m) (p : Place m) (y : Moved m) → end.End m c w p y → Here c w p → Good y
    unfolding appends append_start syncs sync_start
    ends c w _ _ (end.GoesOn _ _ _ (end.AppendGoes y bs a)) k = inl k
    ends c w _ _ (end.GoesOn _ _ _ z) k = inl (k.0, tt)
    ends c w _ _ (end.LearnsNewer _ (end.AppendLearns y bs a)) k = inl k
    ends c w _ _ (end.LearnsNewer _ z) k = inl (k.0, tt)
    ends c w _ _ (end.Syncs _ _ _ (end.JudgedAt bs p d)) k = inl (k.0, tt)
    ends c w _ _ (end.Syncs _ _ _ z) k = inl (k.0, tt)
    ends c w p _ (end.Appends d e y ns z) k = inl (command c w p k, appended c w p d e y ns z)
    ends c w _ _ (end.Refuses d n why z) k = inr (says n (told.Refused why) [] (replies _ tt))
    ends c w p _ (end.Answers d n what z) k = inr (says n what [] (answered c w p d n what z k))
    ends c w p _ (end.Tells d ns z) k = inr (tells c w p d ns z k)

    sound_in : (w : Work m) (t : Task m) → w.hand ≡ Doing t → Sound (task_in m w.hand) → Sound t
    sound_in w t doing k = subst (λ (h : Hand m). Sound (task_in m h)) doing k

    pub deliver_told : (c : Client m) (from : NodeId) (rid : ℕ) (y : Msg) → HasIt x c.work → HasIt x (client_deliver m c from rid y).now.work ⊎ Says (client_deliver m c from rid y).notes
    unfolding client_deliver
    deliver_told c from rid y h = delivered m Here Good ends way (over_walks m Here Good ends walked_way) c from rid (reply y) (inl h)
        (λ w t has doing a other. let k = subst (HasIt x) has h in (k.0, sound_in w t doing k.1))
        (λ w q has is a. subst (HasIt x) has h)

    pub tick_told : (c : Client m) → HasIt x c.work → HasIt x (client_tick m c).now.work
    tick_told c h = ticked m (λ (t : ClientTurn m). HasIt x t.now.work) c (λ none. h) (λ w has. h)

-- A client that copies.
module _ (m : Meaning) (P : WhatOf m → Type 0) where
  abbrev IsCopy : Task m → Type 0
  IsCopy (Copying' y) = Unit {0}
  IsCopy t = ⊥

  -- a copy is in hand
  abbrev pub HasCopy : Option (Work m) → Type 0
  HasCopy None = ⊥
  HasCopy (Some w) = IsCopy (task_in m w.hand)

  module _ (replies : (what : WhatOf m) → IsReply m what → P what) where
    -- it stays in hand, or a reply is told
    abbrev Copies : Moved m → Type 0
    Copies y = HasCopy y.now.work ⊎ Says m P y.notes

    abbrev At : Client m → Work m → Place m → Type 0
    At c w (Feeds t n rid y) = IsCopy t
    At c w (Newer t n rid q) = IsCopy t
    At c w (OnCopy x to) = Unit {0}
    At c w p = ⊥

    copy_way : (c : Client m) (w : Work m) (p : Place m) (d : Client m) (v : Work m) (q : Place m) → Way m c w p d v q → At c w p → At d v q
    copy_way c w _ _ _ _ (FeedsCopy y n rid x) k = tt
    copy_way c w _ _ _ _ (NewerCopy x n rid q fine) k = tt
    copy_way c w _ _ _ _ x k = absurd k

    never_walked : (c : Client m) (w : Work m) (d : Client m) (q : Place m) → AllWalked m c w d q → At c w (Walks []) → At d w q
    never_walked c w d q x k = absurd k

    copy_says : (n : ℕ) (what : WhatOf m) → P what → Says m P (note m n what ∷ [])
    copy_says n what y = record { note = note m n what; here = inl refl; holds = y }

    copy_ends : (c : Client m) (w : Work m) (p : Place m) (y : Moved m) → end.End m c w p y → At c w p → Copies y
    copy_ends c w _ _ (end.GoesOn _ _ _ (end.CopyGoes x y)) k = inl tt
    copy_ends c w _ _ (end.GoesOn _ _ _ z) k = absurd k
    copy_ends c w _ _ (end.LearnsNewer _ (end.CopyLearns x y)) k = inl tt
    copy_ends c w _ _ (end.LearnsNewer _ z) k = absurd k
    copy_ends c w _ _ (end.Refuses d n why z) k = inr (copy_says n (told.Refused why) (replies _ tt))
    copy_ends c w _ _ (end.Tells _ _ (end.IsCopied z e)) k = inr (copy_says 0 _ (replies _ tt))
    copy_ends c w _ _ (end.Tells _ _ z) k = absurd k
    copy_ends c w _ _ (end.Syncs _ _ _ (end.JudgedAt bs p d)) k = absurd k
    copy_ends c w _ _ (end.Syncs _ _ _ z) k = absurd k
    copy_ends c w _ _ (end.Appends _ _ _ _ (end.RescueDecides at so e i f)) k = absurd k
    copy_ends c w _ _ (end.Appends _ _ _ _ z) k = absurd k
    copy_ends c w _ _ (end.Answers _ _ _ (end.AreTrimmed b e)) k = absurd k
    copy_ends c w _ _ (end.Answers _ _ _ z) k = absurd k

    pub deliver_copied : (c : Client m) (from : NodeId) (rid : ℕ) (y : Msg) → HasCopy c.work → HasCopy (client_deliver m c from rid y).now.work ⊎ Says m P (client_deliver m c from rid y).notes
    unfolding client_deliver
    deliver_copied c from rid y h = delivered m At Copies copy_ends copy_way (over_walks m At Copies copy_ends never_walked) c from rid (reply y) (inl h)
        (λ w t has doing a other. subst (λ (d : Hand m). IsCopy (task_in m d)) doing (subst HasCopy has h))
        (λ w q has is a. subst HasCopy has h)

    pub tick_copied : (c : Client m) → HasCopy c.work → HasCopy (client_tick m c).now.work
    tick_copied c h = ticked m (λ (t : ClientTurn m). HasCopy t.now.work) c (λ none. h) (λ w has. h)
