-- Through each of a client's turns: where it tells that no record is there, its walks are over, and there is none that is for it.
use Rattle.std.proofs.Common.{◌≡◌, ◌⊎◌, ℕ, ◌<◌, ◌≤◌, List, [], ◌∷◌, Bool, true, false, refl, sym, ap, ◌∙◌, subst, inl, inr, arith, Option, Some, None}
use Rattle.std.specs.Prelude.{nat_lt, if◌then◌else◌}
use Rattle.tg_base.specs.Layouts.{Layout}
use Rattle.tg_base.specs.Units.{has}
use Rattle.tg_base.specs.declared.change.Join.{Join}
use Rattle.tg_base.specs.declared.fault.Many.TheVariants as many
use Rattle.tg_base.specs.declared.ids.NodeId.{NodeId}
use Rattle.tg_base.specs.declared.ids.Oid.{Oid}
use Rattle.tg_base.specs.declared.msg.Msg.{Msg}
use Rattle.tg_base.specs.declared.packet.Out.{Out}
use Rattle.tg_entry.specs.declared.entry.Entry.{Entry}
use Rattle.tg_kind.specs.Meaning.{Meaning}
use Rattle.tg_model.specs.declared.command.Command.TheVariants as cmd
use Rattle.tg_model.specs.declared.refusal.Refusal.{Refusal}
use Rattle.tg_model.specs.declared.refusal.Refusal.TheVariants as cause
use Rattle.tg_model.specs.declared.trace.What.TheVariants as told
use Rattle.tg_model.specs.Kinds.{CommandOf, WhatOf, NoteOf}
use Rattle.tg_proj.specs.Refusals.{is_not_closed, has_no_stripe, stands_there}
use Rattle.tg_proj.specs.declared.fault.ProjFault.TheVariants as layout
use Rattle.tg_protocol.specs.Logs.{Log, entries_of}
use Rattle.tg_protocol.specs.Requests.{awaits}
use Rattle.tg_protocol.specs.Replies.{reply}
use Rattle.tg_protocol.specs.Appending.{append_start}
use Rattle.tg_protocol.specs.Syncing.{sync_start}
use Rattle.tg_protocol.specs.Views.{Entries, View, play, fate_of}
use Rattle.tg_protocol.specs.Past.{PastGone, commit_at, past_at, RescueTurn, Absent, Wide, rescue_turn}
use Rattle.tg_protocol.specs.Clients.{Purpose, Decides, Rescues, Task, Syncing, Walking, Appending, Trimming, Copying', Reconfiguring, Hand, Doing, Learning, Work, Client, all_entries, member_entries, by_layout, copy_fault}
use Rattle.tg_protocol.specs.Answers.{Moved, keeps, pruned, closed, replies, refuses, took_over, answers, appends, syncs, view_or_new, own_view, play_target, trim_above}
use Rattle.tg_protocol.specs.ClientSteps.{plays_kept, stands, task_in, task_awaited, task_asks, feed, accepts, refused_or}
use Rattle.tg_protocol.specs.Stuck.{command_in}
use Rattle.tg_protocol.specs.Walked.{Walked, walks_end, work_end}
use Rattle.tg_law_replies.proofs.Views.Settled.{IsFated, plays_further}
use Rattle.tg_law_replies.specs.Replies.Steps.{EachDelivery}
use Rattle.tg_law_walks.specs.Walks.Streams.{IsByPosition}
use Rattle.tg_law_walks.specs.Walks.Rounds.{round, IsRound}
use Rattle.tg_law_walks.proofs.Walks.Members.{lt_of, not_lt}
use Rattle.tg_law_headline.proofs.Alike.Appends.{asked}
use Rattle.tg_law_headline.proofs.Alike.Refusals.{IsAtOnce, IsByLayout, copy_by_layout}
use Rattle.tg_law_headline.proofs.Alike.Machines.{TailTold, SyncOk, SyncNext, sync_ok, sync_start_ok}
use Rattle.tg_law_claims.proofs.Answers.Absent.{Owned, fewer_owned, HasFate, LowFor, zero_low, lo_low, NoneFor, none_at, RescueFits, rescue_fits}
use Rattle.tg_law_steps.proofs.Places.{Place, Feeds, Newer, OnSync, OnWalk, OnAppend, Over, Walks, Plays, Looks, Rescues as Rescues'}
use Rattle.tg_law_steps.proofs.Ways.{Way, FeedsSync, NewerSync, Confirms, Settles, MetHigh, StartsOver, sync_fed, AllWalked, HasPlayed, LooksBack, IsRescue}
use Rattle.tg_law_steps.proofs.Ends.{End, GoesOn, LearnsNewer, Syncs, Appends, Refuses, Answers, Tells, IsGoing, TrimsGo, TrimsBegin, CopyGoes, ReconfGoes, IsLearning, WalkLearns, AppendLearns, IsSynced, JudgedAt, IsAppended, EndDecides, DecideDecides, SaveBegins, MarkBegins, RescueDecides, Commit', IsRefused, RecordForgotten, OtherForgotten, CopyFault, FateForgotten, DecideForgotten, LooksAhead, LooksForgotten, RescueForgotten, RescueWide, IsAnswered, FateNone, DecideNone, DecidedAt, DecidedLost, JudgedSo, JudgedLost, EndJudged, IsTold, RescueAbsent, RescueMissing, IsRescued, IsMarked, PlaysOther}
use Rattle.tg_law_steps.proofs.Takes.{IsSaid, Begins, Taken, SaidAtOnce, SyncsFirst, AppendsRecord, ForWrites, said_work, taken}
use Rattle.tg_law_steps.proofs.Along.{delivered, over_walks}
use Rattle.tg_law_steps.proofs.Reaches.{reaches, reach_way, reach_fed, reach_newer}
use Rattle.tg_law_layouts.proofs.Moves.Ways.{way_up}
use Rattle.tg_law_replies.proofs.Replies.Ways.{EachAt, each_way, each_fed, each_newer}

less_of : (a b : ℕ) → nat_lt a b ≡ true → a < b
less_of a b e = grind arith

module _ (m : Meaning) where
  -- what tells of a record, and isn't a refusal
  abbrev pub NotNone : WhatOf m → Type 0
  NotNone (told.Fate p None) = ⊥
  NotNone (told.Decided p None) = ⊥
  NotNone (told.Rescued p None) = ⊥
  NotNone (told.Refused why) = ⊥
  NotNone what = Unit {0}

  abbrev pub NoNones : List (NoteOf m) → Type 0
  NoNones [] = Unit {0}
  NoNones (n ∷ ns) = NotNone n.what × NoNones ns

module _ (m : Meaning) where
  -- a copy isn't refused for a number of objects
  copies_few : (p : Layout) (u r s : ℕ) → copy_fault m p u r s ≡ Some (cause.TooMany many.Hosted) → ⊥
  unfolding copy_fault
  copies_few p u r s is = by (is_not_closed p j) (has_no_stripe p j) (stands_there p j) (has p.gone j.unit) is
    where
      j : Join
      j = record { unit = u; range = r; stripe = s }

      by : (a b c d : Bool) → by_layout m (if a then Some (layout.NotClosed r) else if b then Some (layout.NoStripe r s) else if c then Some (layout.InChain u) else if d then Some (layout.Returned u) else None) ≡ Some (cause.TooMany many.Hosted) → ⊥
      by true b c d e = cc
      by false true c d e = cc
      by false false true d e = cc
      by false false false true e = cc
      by false false false false e = cc

  -- a command that may append something where its streams are walked
  abbrev pub MayAppend : CommandOf m → Type 0
  MayAppend (cmd.Fate p) = ⊥
  MayAppend (cmd.AskAt p o q) = ⊥
  MayAppend x = Unit {0}

-- By the entries of a log, what a client got, and the number with which its command began.
module _ (m : Meaning) (objects : List Oid) (l : Log) (byp : IsByPosition l) (Got : NodeId → ℕ → Msg → Type 0) (lo : ℕ) where
  -- an answer that waits for its decision record tells of one
  abbrev pub PurposeOk : Purpose m → Type 0
  PurposeOk (Decides what) = NotNone m what
  PurposeOk (Rescues what) = NotNone m what
  PurposeOk y = Unit {0}

  -- while a client learns a newer layout, and while it doesn't
  abbrev pub LearnHeld : Option (View m) → Work m → Task m → Type 0
  LearnHeld v w (Walking k os) = TailTold Got lo w.tail × LowFor m v w.lo w.command
  LearnHeld v w (Appending a y) = PurposeOk y × MayAppend m w.command
  LearnHeld v w t = Unit {0}

  abbrev pub TaskHeld : Option (View m) → Work m → Task m → Type 0
  TaskHeld v w (Syncing s) = SyncOk Got lo s.work
  TaskHeld v w (Walking k os) = TailTold Got lo w.tail × LowFor m v w.lo w.command
  TaskHeld v w (Appending a y) = PurposeOk y × MayAppend m w.command
  TaskHeld v w t = Unit {0}

  abbrev pub HandHeld : Option (View m) → Work m → Hand m → Type 0
  HandHeld v w (Doing t) = TaskHeld v w t
  HandHeld v w (Learning ws t) = LearnHeld v w t

  abbrev pub WorkHeld : Option (View m) → Option (Work m) → Type 0
  WorkHeld v None = Unit {0}
  WorkHeld v (Some w) = HandHeld v w w.hand

  abbrev pub Held : Client m → Type 0
  Held c = WorkHeld c.view c.work

  learn_of : (v : Option (View m)) (w : Work m) (d : Hand m) → HandHeld v w d → LearnHeld v w (task_in m d)
  learn_of v w (Doing (Syncing s)) k = tt
  learn_of v w (Doing (Walking j os)) k = k
  learn_of v w (Doing (Appending a y)) k = k
  learn_of v w (Doing (Trimming t)) k = tt
  learn_of v w (Doing (Copying' x)) k = tt
  learn_of v w (Doing (Reconfiguring r)) k = tt
  learn_of v w (Learning ws t) k = k

  abbrev pub Found : Client m → Work m → Type 0
  Found c w = IsRound m l (round m c w c.cells) []

  -- By the end to which the turn's walks come, and the command.
  module _ (end : Option (Walked m)) (command : Option (CommandOf m)) where
    -- they come to one, whose tail was told, and below it no commit record is there that is for the client, where the pages of its own
    -- records are known
    pub record NoneTold (d : Client m) (p : ℕ) : Type 0 where
      pub idle : d.work ≡ None
      pub had : Walked m
      pub ended : end ≡ Some had
      pub synced : TailTold Got lo had.work.tail
      pub none : Owned d.own d.cells → NoneFor m (entries_of l) had.work.tail d p

    -- a past position is above the tail
    pub record AheadTold (tail : ℕ) : Type 0 where
      pub had : Walked m
      pub ended : end ≡ Some had
      pub synced : TailTold Got lo had.work.tail
      pub is : had.work.tail ≡ tail
      pub pos : ℕ
      pub oid : Oid
      pub ask : m.ask
      pub asks : had.work.command ≡ cmd.AskAt pos oid ask
      pub above : tail < pos

    -- there is no past view at a position, for a trim
    pub record PastGoneAt (p : ℕ) (o : Oid) (at below : ℕ) : Type 0 where
      pub had : Walked m
      pub ended : end ≡ Some had
      pub synced : TailTold Got lo had.work.tail
      pub found : IsRound m l (round m had.client had.work had.client.cells) []
      pub named : p ≡ at
      pub gone : past_at m (member_entries m had.client had.work had.work.oids) had.work.trims had.work.oids had.client.objects o at ≡ PastGone below

    -- the view has no fate at a position
    abbrev pub NoFate : Client m → ℕ → Type 0
    NoFate d at = (v : View m) → d.view ≡ Some v → fate_of m v at ≡ None

    -- what the turn of a rescue came to, and of which own records
    pub record RescueAt (own : List ℕ) (p : ℕ) (r : RescueTurn m) : Type 0 where
      pub had : Walked m
      pub ended : end ≡ Some had
      pub synced : TailTold Got lo had.work.tail
      pub found : IsRound m l (round m had.client had.work had.client.cells) []
      pub asks : had.work.command ≡ cmd.Rescue p
      pub same : own ≡ had.client.own
      pub turn : rescue_turn m (all_entries m had.client had.work had.work.oids) had.work.trims had.work.oids had.client.objects p ≡ r

    -- no record is there, for a trim above its position
    pub record RescueGoneAt (own : List ℕ) (p at below : ℕ) : Type 0 where
      pub named : at ≡ p
      pub was : RescueAt own p Absent
      pub met : trim_above m was.had.work.trims p ≡ Some below

    abbrev pub ForgottenOk : Client m → Option (CommandOf m) → ℕ → ℕ → Type 0
    ForgottenOk d (Some (cmd.Fate p)) at below = NoFate d at
    ForgottenOk d (Some (cmd.AskAt p o q)) at below = PastGoneAt p o at below
    ForgottenOk d (Some (cmd.Rescue p)) at below = (end ≡ None) ⊎ RescueGoneAt d.own p at below
    ForgottenOk d x at below = Unit {0}

    abbrev pub WideOk : Client m → Option (CommandOf m) → Type 0
    WideOk d (Some (cmd.Rescue p)) = RescueAt d.own p Wide
    WideOk d x = Unit {0}

    abbrev pub Ok : Client m → WhatOf m → Type 0
    Ok d (told.Fate p None) = NoneTold d p
    Ok d (told.Decided p None) = NoneTold d p
    Ok d (told.Rescued p None) = NoneTold d p
    Ok d (told.Refused (cause.Ahead tail)) = AheadTold tail
    Ok d (told.Refused (cause.Forgotten at below)) = ForgottenOk d command at below
    Ok d (told.Refused (cause.TooMany many.Hosted)) = WideOk d command
    Ok d what = Unit {0}

    -- what isn't told of what walks found
    forgotten_ok : (d : Client m) (x : CommandOf m) (at below : ℕ) → MayAppend m x → end ≡ None → ForgottenOk d (Some x) at below
    forgotten_ok d (cmd.Fate p) at below h none = absurd h
    forgotten_ok d (cmd.AskAt p o q) at below h none = absurd h
    forgotten_ok d (cmd.Rescue p) at below h none = inl none
    forgotten_ok d x at below h none = tt

    at_once_ok : (d : Client m) (why : Refusal) → IsAtOnce (Some why) → (why ≡ cause.TooMany many.Hosted → command ≡ None) → Ok d (told.Refused why)
    at_once_ok d (cause.Ahead tail) h free = absurd h
    at_once_ok d (cause.Forgotten at below) h free = absurd h
    at_once_ok d (cause.TooMany many.Hosted) h free = subst (WideOk d) (sym (free refl)) tt
    at_once_ok d why h free = tt

    layout_ok : (d : Client m) (why : Refusal) → IsByLayout (Some why) → (why ≡ cause.TooMany many.Hosted → ⊥) → Ok d (told.Refused why)
    layout_ok d (cause.Ahead tail) h few = absurd h
    layout_ok d (cause.Forgotten at below) h few = absurd h
    layout_ok d (cause.TooMany many.Hosted) h few = absurd (few refl)
    layout_ok d why h few = tt

    plain : (d : Client m) (what : WhatOf m) → NotNone m what → Ok d what
    plain d (told.Fate p None) h = absurd h
    plain d (told.Decided p None) h = absurd h
    plain d (told.Rescued p None) h = absurd h
    plain d (told.Refused why) h = absurd h
    plain d what h = tt

    abbrev pub EachOk : Client m → List (NoteOf m) → Type 0
    EachOk d [] = Unit {0}
    EachOk d (n ∷ ns) = Ok d n.what × EachOk d ns

    each_ok : (d : Client m) (ns : List (NoteOf m)) → NoNones m ns → EachOk d ns
    each_ok d [] k = tt
    each_ok d (n ∷ ns) k = (plain d n.what k.0, each_ok d ns k.1)

    pub record Good (x : Moved m) : Type 0 where
      pub held : Held x.now
      pub says : EachOk x.now x.notes

    abbrev Le : Client m → Type 0
    Le c = lo ≤ c.next

    -- the work is that of the end to which they come
    pub record IsHad (w : Work m) : Type 0 where
      pub client : Client m
      pub ended : end ≡ Some (record { client = client; work = w })

    -- Where no record is there.

    -- a reply gives up known cells
    pruned_none : (c : Client m) (w : Work m) (p : ℕ) → IsHad w → TailTold Got lo w.tail → (Owned c.own c.cells → NoneFor m (entries_of l) w.tail c p) → NoneTold (pruned m c) p
    pruned_none c w p had heard none = record {
      idle = refl;
      had = record { client = had.client; work = w };
      ended = had.ended;
      synced = heard;
      none = λ known e there commit less for. none (fewer_owned (keeps m c) c.own c.cells known) e there commit less for;
    }

    took_none : (c : Client m) (v : Option (View m)) (w : Work m) (p : ℕ) → IsHad w → TailTold Got lo w.tail → (Owned c.own c.cells → NoneFor m (entries_of l) w.tail c p) → NoneTold (pruned m (took_over m c v)) p
    took_none c None w p had heard none = pruned_none c w p had heard none
    took_none c (Some v) w p had heard none = pruned_none (took_over m c (Some v)) w p had heard (λ known e there commit less for. none known e there commit less for)

    -- what is had of it at the end of walks
    abbrev NoneHere : Client m → Work m → ℕ → Type 0
    NoneHere c w p = Owned c.own c.cells → NoneFor m (entries_of l) w.tail c p

    -- by the command: what a position without a record wants
    abbrev Wants : Client m → Work m → Entries → View m → CommandOf m → Type 0
    Wants c w own v (cmd.Fate p) = fate_of m v p ≡ None → commit_at own p ≡ None → trim_above m w.trims p ≡ None → NoneHere c w p
    Wants c w own v (cmd.Decide p) = trim_above m w.trims p ≡ None → commit_at own p ≡ None → NoneHere c w p
    Wants c w own v x = Unit {0}

    module _ (c : Client m) (w : Work m) (h : IsRound m l (round m c w c.cells) []) where
      abbrev hosted : Entries
      hosted = all_entries m c w c.hosted

      here : (p : ℕ) → w.lo ≤ p → trim_above m w.trims p ≡ None → commit_at (all_entries m c w c.hosted) p ≡ None → NoneHere c w p
      here p low none missing = none_at m l byp c w h c.hosted h.hosts (λ o i. i) p low none missing

      not_fated : (p : ℕ) → HasFate m c.view p → fate_of m (play m (own_view m c w (all_entries m c w c.hosted)) (all_entries m c w c.hosted) (play_target m w w.command)).view p ≡ None → ⊥
      not_fated p f none =
          let k = (plays_further m hosted (own_view m c w hosted) (play_target m w w.command)).fates p (subst (λ (u : View m). IsFated m u p) (sym own) f.fated) in no k.0 (sym none ∙ k.1)
        where
          own : own_view m c w (all_entries m c w c.hosted) ≡ f.view
          own = ap (λ (o : Option (View m)). view_or_new m c w (all_entries m c w c.hosted) o) f.is

          no : (b : Bool) → None ≡ Some b → ⊥
          no b e = cc

      fated : (p : ℕ) → (p < w.lo → HasFate m c.view p) → Wants c w (all_entries m c w c.hosted) (play m (own_view m c w (all_entries m c w c.hosted)) (all_entries m c w c.hosted) (play_target m w w.command)).view (cmd.Fate p)
      fated p low none missing clear = by (nat_lt p w.lo) refl
        where
          by : (b : Bool) → nat_lt p w.lo ≡ b → NoneHere c w p
          by true is = absurd (not_fated p (low (lt_of p w.lo is)) none)
          by false is = here p (not_lt p w.lo is) clear missing

      wants : (x : CommandOf m) → LowFor m c.view w.lo x → Wants c w (all_entries m c w c.hosted) (play m (own_view m c w (all_entries m c w c.hosted)) (all_entries m c w c.hosted) (play_target m w w.command)).view x
      wants (cmd.Fate p) low = fated p low
      wants (cmd.Decide p) low = λ clear missing. here p (omega (arith, low)) clear missing
      wants x low = tt

      rescued : (p : ℕ) → w.command ≡ cmd.Rescue p → commit_at (all_entries m c w w.oids) p ≡ None → trim_above m w.trims p ≡ None → NoneHere c w p
      rescued p is missing clear = let z = h.whole (ap (λ (x : CommandOf m). plays_kept m x) is) in none_at m l byp c w h w.oids (λ o i. i) h.hosts p (omega (arith, z)) clear missing

    -- Along a turn.

    -- a tail was told, and from where the command walks there is what it wants
    abbrev Walking' : Client m → Work m → Type 0
    Walking' c w = TailTold Got lo w.tail × LowFor m c.view w.lo w.command

    abbrev Here : Client m → Work m → Place m → Type 0
    Here c w (Feeds (Syncing s) n rid x) = SyncNext Got lo (sync_fed m c s n x).to
    Here c w (Feeds t n rid x) = LearnHeld c.view w t
    Here c w (Newer t n rid q) = LearnHeld c.view w t
    Here c w (OnSync bs to) = SyncNext Got lo to
    Here c w (OnWalk o os to) = Walking' c w
    Here c w (OnAppend y bs to) = PurposeOk y × MayAppend m w.command
    Here c w (Over o os x g) = Walking' c w
    Here c w (Walks os) = Walking' c w
    Here c w (Plays es p) = TailTold Got lo w.tail × Wants c w es p.view w.command × (c.view ≡ Some p.view)
    Here c w (Looks at o q) = TailTold Got lo w.tail × IsRound m l (round m c w c.cells) [] × (w.command ≡ cmd.AskAt at o q)
    Here c w (Rescues' at) = TailTold Got lo w.tail × IsRound m l (round m c w c.cells) [] × (w.command ≡ cmd.Rescue at)
    Here c w p = Unit {0}

    -- the walks of the turn come to that end from there, or it is the work's
    abbrev Comes : Client m → Work m → Place m → Type 0
    Comes c w (Plays es p) = IsHad w
    Comes c w (Looks at o q) = end ≡ Some (record { client = c; work = w })
    Comes c w (Rescues' at) = end ≡ Some (record { client = c; work = w })
    Comes c w p = end ≡ reaches m c w p

    abbrev At' : Client m → Work m → Place m → Type 0
    At' c w p = Le c × Here c w p × EachAt m objects (entries_of l) Found c w p × Comes c w p × (Some w.command ≡ command)

    from_zero : (n : ℕ) (x : CommandOf m) → n ≡ 0 → LowFor m None n x
    from_zero n x e = subst (λ (k : ℕ). LowFor m None k x) (sym e) (zero_low m None x)

    here_way : (c : Client m) (w : Work m) (p : Place m) (d : Client m) (v : Work m) (q : Place m) → Way m c w p d v q → Le c → Here c w p → Here d v q
    here_way c w _ _ _ _ (NewerSync s n rid q) le h = sync_start_ok Got lo s.oids c.next le
    here_way c w _ _ _ _ (Confirms bs t ls) le h = (h, lo_low m c w.command)
    here_way c w _ _ _ _ (Settles bs t ls s) le h = (h, lo_low m c w.command)
    here_way c w _ _ _ _ (MetHigh o os x b e f k) le h = (h.0, from_zero w.lo w.command k)
    here_way c w _ _ _ _ (StartsOver o os x b e f k) le h = (h.0, zero_low m None w.command)
    here_way c w _ _ _ _ x le h = h

    comes_way : (c : Client m) (w : Work m) (p : Place m) (d : Client m) (v : Work m) (q : Place m) → Way m c w p d v q → Comes c w p → Comes d v q
    comes_way c w _ _ _ _ (FeedsSync s n rid x) h = h ∙ reach_way m c w _ _ _ _ (FeedsSync s n rid x)
    comes_way c w _ _ _ _ x h = h ∙ reach_way m c w _ _ _ _ x

    same_way : (c : Client m) (w : Work m) (p : Place m) (d : Client m) (v : Work m) (q : Place m) → Way m c w p d v q → Some w.command ≡ command → Some v.command ≡ command
    same_way c w _ _ _ _ (FeedsSync s n rid x) h = h
    same_way c w _ _ _ _ x h = h

    way : (c : Client m) (w : Work m) (p : Place m) (d : Client m) (v : Work m) (q : Place m) → Way m c w p d v q → At' c w p → At' d v q
    way c w p d v q x h = (
      let u = way_up m c w p d v q x in let le = h.0 in omega (arith, u, le),
      here_way c w p d v q x h.0 h.1,
      each_way m objects (entries_of l) Found c w p d v q x h.2,
      comes_way c w p d v q x h.3,
      same_way c w p d v q x h.4,
    )

    ended : (c : Client m) (w : Work m) → end ≡ reaches m c w (Walks []) → end ≡ Some (record { client = c; work = w })
    unfolding walks_end
    ended c w is = is

    had : (c : Client m) (w : Work m) → end ≡ reaches m c w (Walks []) → IsHad w
    had c w is = record { client = c; ended = ended c w is }

    walked_way : (c : Client m) (w : Work m) (d : Client m) (q : Place m) → AllWalked m c w d q → At' c w (Walks []) → At' d w q
    walked_way c w _ _ (HasPlayed k) h = (h.0, (h.1.0, wants c w h.2 w.command h.1.1, refl), tt, had c w h.3, h.4)
    walked_way c w _ _ (LooksBack at o q of) h = (h.0, (h.1.0, h.2, of), tt, ended c w h.3, h.4)
    walked_way c w _ _ (IsRescue at of) h = (h.0, (h.1.0, h.2, of), tt, ended c w h.3, h.4)

    -- What a turn comes to.

    going_held : (c : Client m) (w : Work m) (p : Place m) (d : Client m) (t : Task m) (bs : List Out) → IsGoing m c w p d t bs → Here c w p → TaskHeld d.view w t
    going_held c w _ _ _ _ (TrimsGo b t) h = tt
    going_held c w _ _ _ _ (TrimsBegin es p upto of came some) h = tt
    going_held c w _ _ _ _ (CopyGoes x y) h = tt
    going_held c w _ _ _ _ (ReconfGoes r) h = tt
    going_held c w _ _ _ _ x h = h

    learning_held : (c : Client m) (w : Work m) (p : Place m) (t : Task m) → IsLearning m c w p t → Here c w p → LearnHeld c.view w t
    learning_held c w _ _ (WalkLearns o os x) h = h
    learning_held c w _ _ (AppendLearns y bs a) h = h
    learning_held c w _ _ x h = tt

    synced_held : (c : Client m) (w : Work m) (p : Place m) (d : Client m) (v : Work m) (os : List Oid) → IsSynced m c w p d v os → Le c → Le d
    synced_held c w _ _ _ _ (JudgedAt bs p d) le = le
    synced_held c w _ _ _ _ x le = le

    may : (w : Work m) (x : CommandOf m) → w.command ≡ x → MayAppend m x → MayAppend m w.command
    may w x of k = subst (λ (y : CommandOf m). MayAppend m y) (sym of) k

    appended_held : (c : Client m) (w : Work m) (p : Place m) (d : Client m) (e : Entry) (y : Purpose m) (ns : List (NoteOf m)) → IsAppended m c w p d e y ns → Here c w p → (PurposeOk y × MayAppend m w.command) × NoNones m ns
    appended_held c w _ _ _ _ _ (EndDecides es p upto e _ _ of came i (Commit' v) k) h = ((tt, may w cmd.End of tt), tt)
    appended_held c w _ _ _ _ _ (EndDecides es p upto e _ _ of came i j k) h = ((tt, may w cmd.End of tt), tt)
    appended_held c w _ _ _ _ _ (DecideDecides es p at e d so of t came i is says k) h = ((tt, may w (cmd.Decide at) of tt), tt)
    appended_held c w _ _ _ _ _ (SaveBegins es p upto o of came fits) h = ((tt, may w (cmd.Checkpoint o) of tt), tt)
    appended_held c w _ _ _ _ _ (MarkBegins es p upto o n of came fits) h = ((tt, may w (cmd.Forget o n) of tt), (tt, (tt, (tt, tt))))
    appended_held c w _ _ _ _ _ (RescueDecides at so e is there) h = ((tt, may w (cmd.Rescue at) h.2 tt), tt)

    answered_so : (c : Client m) (w : Work m) (p : Place m) (d : Client m) (n : ℕ) (what : WhatOf m) → IsAnswered m c w p d n what → Here c w p → Comes c w p → Ok (answers m d n what).now what
    answered_so c w _ _ _ _ (FateNone es p at of k f i t) h y = took_none c c.view w at y h.0 (subst (λ (x : CommandOf m). Wants c w es p.view x) of h.1 f i t)
    answered_so c w _ _ _ _ (DecideNone es p at of t k i) h y = took_none c c.view w at y h.0 (subst (λ (x : CommandOf m). Wants c w es p.view x) of h.1 t i)
    answered_so c w _ _ _ _ (DecidedAt x bs p d no_end) h y = plain _ x h.0
    answered_so c w _ _ _ _ (DecidedLost x bs e lost no_end) h y = plain _ x h.0
    answered_so c w _ _ _ _ (JudgedSo x bs p d of) h y = plain _ x h.0
    answered_so c w _ _ _ _ (JudgedLost x bs e lost of) h y = plain _ x h.0
    answered_so c w _ _ _ _ (EndJudged es p upto e _ _ of came i (Commit' v) k) h y = tt
    answered_so c w _ _ _ _ (EndJudged es p upto e _ _ of came i j k) h y = tt
    answered_so c w _ _ _ _ x h y = tt

    -- why it is refused
    of_command : (d : Client m) (w : Work m) (x : CommandOf m) (at below : ℕ) → Some w.command ≡ command → w.command ≡ x → ForgottenOk d (Some x) at below → ForgottenOk d command at below
    of_command d w x at below same of k = subst (λ (y : Option (CommandOf m)). ForgottenOk d y at below) (ap (λ (y : CommandOf m). Some y) (sym of) ∙ same) k

    one_view : (a b : View m) → Some a ≡ Some b → a ≡ b
    one_view a b z = cc

    abbrev rescue_at : (c : Client m) (w : Work m) (at : ℕ) (r : RescueTurn m) → Here c w (Rescues' at) → Comes c w (Rescues' at) → rescue_turn m (all_entries m c w w.oids) w.trims w.oids c.objects at ≡ r → RescueAt c.own at r
    rescue_at c w at r h z is = record { had = record { client = c; work = w }; ended = z; synced = h.0; found = h.1; asks = h.2; same = refl; turn = is }

    refused_so : (c : Client m) (w : Work m) (p : Place m) (d : Client m) (n : ℕ) (why : Refusal) → IsRefused m c w p d n why → Here c w p → Comes c w p → Some w.command ≡ command → Ok (refuses m d n why).now (told.Refused why)
    refused_so c w _ _ _ _ (RecordForgotten y bs p b of) h z same = of_command (pruned m (closed m c)) w w.command p b same refl (forgotten_ok (pruned m (closed m c)) w.command p b h.1 z)
    refused_so c w _ _ _ _ (OtherForgotten y bs n p b of) h z same = of_command (pruned m c) w w.command p b same refl (forgotten_ok (pruned m c) w.command p b h.1 z)
    refused_so c w _ _ _ _ (CopyFault x n rid q why e) h z same = layout_ok (pruned m (stands m c q)) why (subst IsByLayout e (copy_by_layout m q x.unit x.range x.stripe)) (λ is. copies_few m q x.unit x.range x.stripe (e ∙ ap (λ (y : Refusal). Some y) is))
    refused_so c w _ _ _ _ (FateForgotten es p at b of came none met) h z same =
        of_command (pruned m c) w (cmd.Fate at) at b same of (λ v is. subst (λ (u : View m). fate_of m u at ≡ None) (one_view p.view v (sym h.2 ∙ is)) none)
    refused_so c w _ _ _ _ (DecideForgotten es p at b of met) h z same = of_command (pruned m c) w (cmd.Decide at) at b same of tt
    refused_so c w _ _ _ _ (LooksAhead at o q above) h z same = record {
      had = record { client = c; work = w };
      ended = z;
      synced = h.0;
      is = refl;
      pos = at;
      oid = o;
      ask = q;
      asks = h.2;
      above = less_of w.tail at above;
    }
    refused_so c w _ _ _ _ (LooksForgotten at o q b low gone) h z same =
        of_command (pruned m c) w (cmd.AskAt at o q) at b same h.2 (record { had = record { client = c; work = w }; ended = z; synced = h.0; found = h.1; named = refl; gone = gone })
    refused_so c w _ _ _ _ (RescueForgotten at b absent met) h z same = of_command (pruned m c) w (cmd.Rescue at) at b same h.2 (inr (record { named = refl; was = rescue_at c w at Absent h z absent; met = met }))
    refused_so c w _ _ _ _ (RescueWide at wide) h z same = subst (WideOk (pruned m c)) (ap (λ (y : CommandOf m). Some y) (sym h.2) ∙ same) (rescue_at c w at Wide h z wide)
    refused_so c w _ _ _ _ x h z same = tt

    told_so : (c : Client m) (w : Work m) (p : Place m) (d : Client m) (ns : List (NoteOf m)) → IsTold m c w p d ns → Here c w p → Comes c w p → EachOk (replies m d ns).now ns
    told_so c w _ _ _ (RescueAbsent at e t) h y = (pruned_none c w at (record { client = c; ended = y }) h.0 (rescued c w h.1 at h.2 (subst (RescueFits m (all_entries m c w w.oids) at) e (rescue_fits m (all_entries m c w w.oids) w.trims w.oids c.objects at)) t), tt)
    told_so c w _ _ _ (RescueMissing at so e i) h y = absurd (subst (RescueFits m (all_entries m c w w.oids) at) e (rescue_fits m (all_entries m c w w.oids) w.trims w.oids c.objects at) i)
    told_so c w _ _ _ (IsRescued x bs p d) h y = (plain _ x h.0, tt)
    told_so c w _ _ _ (IsMarked n o mark bs p d) h y = (tt, (tt, tt))
    told_so c w _ _ _ (PlaysOther es p k) h y = tt
    told_so c w _ _ _ x h y = (tt, tt)

    ends_good : (c : Client m) (w : Work m) (p : Place m) (x : Moved m) → End m c w p x → At' c w p → Good x
    unfolding appends append_start syncs sync_start
    ends_good c w p _ (GoesOn d t bs x) h = record { held = going_held c w p d t bs x h.1; says = tt }
    ends_good c w p _ (LearnsNewer t x) h = record { held = learning_held c w p t x h.1; says = tt }
    ends_good c w p _ (Syncs d v os x) h = record { held = synced_held c w p d v os x h.0; says = tt }
    ends_good c w p _ (Appends d e y ns x) h = let k = appended_held c w p d e y ns x h.1 in record { held = k.0; says = each_ok _ ns k.1 }
    ends_good c w p _ (Refuses d n why x) h = record { held = tt; says = (refused_so c w p d n why x h.1 h.3 h.4, tt) }
    ends_good c w p _ (Answers d n what x) h = record { held = tt; says = (answered_so c w p d n what x h.1 h.3, tt) }
    ends_good c w p _ (Tells d ns x) h = record { held = tt; says = told_so c w p d ns x h.1 h.3 }

  -- A message of a node comes.

  module _ (end : Option (Walked m)) (command : Option (CommandOf m)) (from : NodeId) (rid : ℕ) (y : Msg) (got : Got from rid y) (c : Client m) (w : Work m) where
    task_fed : (t : Task m) → awaits (task_awaited m c.stand t) from rid ≡ true → TaskHeld c.view w t → Here end command c w (Feeds t from.num rid (reply y))
    unfolding task_asks
    task_fed (Syncing s) a k = sync_ok Got lo c.stand s k from rid y got from.num c.next (asked (task_awaited m c.stand (Syncing s)) from rid a)
    task_fed (Walking v os) a k = k
    task_fed (Appending z v) a k = k
    task_fed t a k = tt

  pub feed_turn : (from : NodeId) (rid : ℕ) (y : Msg) → Got from rid y → (c : Client m) → lo ≤ c.next → Held c → EachDelivery m objects (entries_of l) Found c c.work from rid (reply y)
      → Good (work_end m c c.work from rid (reply y)) (command_in m c.work) (feed m c c.work from rid (reply y))
  feed_turn from rid y got c le h each = delivered m (At' end command) (Good end command) (ends_good end command) (way end command) (over_walks m (At' end command) (Good end command) (ends_good end command) (walked_way end command)) c from rid (reply y)
      (record { held = h; says = tt })
      (λ w t has doing a other. (
        le,
        task_fed end command from rid y got c w t a (subst (HandHeld c.view w) doing (subst (WorkHeld c.view) has h)),
        each_fed m objects (entries_of l) Found c from rid (reply y) each w t has doing a other,
        reach_fed m c from rid (reply y) w t has doing a other,
        ap (λ (o : Option (Work m)). command_in m o) (sym has),
      ))
      (λ w q has is e. (
        le,
        learn_of c.view w w.hand (subst (WorkHeld c.view) has h),
        each_newer m objects (entries_of l) Found c from rid (reply y) each w q has is e,
        reach_newer m c from rid (reply y) w q has is e,
        ap (λ (o : Option (Work m)). command_in m o) (sym has),
      ))
    where
      end : Option (Walked m)
      end = work_end m c c.work from rid (reply y)

      command : Option (CommandOf m)
      command = command_in m c.work

  -- Commands.

  said_none : (c : Client m) (x : CommandOf m) (d : Client m) (ns : List (NoteOf m)) → IsSaid m c x d ns → NoNones m ns
  said_none c _ _ _ Begins = (tt, tt)
  said_none c _ _ _ x = assumption

  takes_good : (command : Option (CommandOf m)) (c : Client m) (x : CommandOf m) → c.work ≡ None → lo ≤ c.next → (y : Moved m) → Taken m c x y → Good None command y
  unfolding appends append_start syncs sync_start
  takes_good command c _ free le _ (SaidAtOnce x d ns s) = record { held = subst (WorkHeld d.view) (sym (said_work m c x d ns s ∙ free)) tt; says = each_ok None command d ns (said_none c x d ns s) }
  takes_good command c _ free le _ (SyncsFirst x k) = record { held = le; says = tt }
  takes_good command c _ free le _ (AppendsRecord t _ has some (ForWrites e)) = record { held = (tt, tt); says = (tt, tt) }
  takes_good command c _ free le _ (AppendsRecord t _ has some k) = record { held = (tt, tt); says = (tt, tt) }
  takes_good command c _ free le _ x = record { held = tt; says = tt }

  pub command_turn : (command : Option (CommandOf m)) (c : Client m) (x : CommandOf m) (o : Option Refusal) → IsAtOnce o → (o ≡ None → c.work ≡ None) → (o ≡ Some (cause.TooMany many.Hosted) → command ≡ None) → lo ≤ c.next → Held c → Good None command (refused_or m c x o)
  command_turn command c x None once free few le h = takes_good command c x (free refl) le (accepts m c x) (taken m c x)
  command_turn command c x (Some why) once free few le h = record { held = h; says = (at_once_ok None command c why once (λ is. few (ap (λ (y : Refusal). Some y) is)), tt) }
