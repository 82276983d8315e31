-- What each reply of a step speaks of, and what each append is for.
use Rattle.std.proofs.Common.{◌≡◌, ℕ, ◌+◌, ◌<◌, ◌≤◌, List, [], ◌∷◌, Bool, refl, sym, ap, ◌∙◌, subst, inl, inr, arith, Option, Some, None}
use Rattle.tg_base.specs.declared.ids.NodeId.{NodeId}
use Rattle.tg_base.specs.declared.ids.Oid.{Oid}
use Rattle.tg_base.specs.declared.marks.Part.{Part}
use Rattle.tg_entry.specs.declared.entry.Body.TheVariants.{Checkpoint}
use Rattle.tg_entry.specs.declared.entry.Entry.{Entry}
use Rattle.tg_entry.specs.Format.{tag_of}
use Rattle.tg_kind.specs.Meaning.{Meaning}
use Rattle.tg_model.specs.declared.command.Command.TheVariants as cmd
use Rattle.tg_model.specs.declared.play.PlayEnd.TheVariants.{Played}
use Rattle.tg_model.specs.declared.trace.What.TheVariants as told
use Rattle.tg_model.specs.Kinds.{CommandOf, WhatOf, NoteOf}
use Rattle.tg_protocol.specs.Words.{directory}
use Rattle.tg_protocol.specs.Requests.{Next, Goes, Learns, Ends}
use Rattle.tg_protocol.specs.Replies.{Reply}
use Rattle.tg_protocol.specs.Appending.{Append, AppendEnd, At, append_start, append_again}
use Rattle.tg_protocol.specs.Syncing.{sync_start}
use Rattle.tg_protocol.specs.Transactions.{Tx}
use Rattle.tg_protocol.specs.Views.{Entries, View}
use Rattle.tg_protocol.specs.Checkpoints.{checkpoint}
use Rattle.tg_protocol.specs.Clients.{Purpose, Decides, Rescues, Saves, Marks, Task, Appending, Hand, Work, Client, upto, all_entries, tx_number, refusal}
use Rattle.tg_protocol.specs.Answers.{Moved, note, appends, syncs, own_view, play_target, mark_notes}
use Rattle.tg_protocol.specs.ClientSteps.{task_in, stands, refused_or, snapshot_or, feed}
use Rattle.tg_law_replies.proofs.History.Members.{Has}
use Rattle.tg_law_layouts.proofs.Moves.Turns.{not_busy}
use Rattle.tg_law_replies.specs.Replies.Ended.{end_of, task_ends, again_ends, work_ends}
use Rattle.tg_law_replies.proofs.Replies.Ways.{end_fed, end_newer}
use Rattle.tg_law_replies.proofs.Replies.Turns.{Keeps, feed_keeps, again_keeps}
use Rattle.tg_law_replies.proofs.Books.Effects.{IsEnd, Suits, SuitsPurpose}
use Rattle.tg_law_syncs.proofs.Follow.Looks.{played_to}
use Rattle.tg_law_steps.proofs.Places.{Place, Feeds, Newer, OnAppend, Plays, Walks}
use Rattle.tg_law_steps.proofs.Ways.{Way, append_fed, FeedsAppend, NewerAppend, AllWalked, HasPlayed}
use Rattle.tg_law_steps.proofs.Ends.{Judges, Commit', Abort', AppendGoes, AppendLearns, IsAppended, EndDecides, DecideDecides, SaveBegins, MarkBegins, RescueDecides, IsAnswered, DecidedAt, DecidedLost, JudgedSo, JudgedLost, IsSaved, EndBlocked, EndUnsure, EndJudged, IsTold, IsCommitted, IsRescued, IsMarked, PlaysOther, End, GoesOn, LearnsNewer, Syncs, Appends, Refuses, Answers, Tells}
use Rattle.tg_law_steps.proofs.Takes.{ForWrites, ForJudged, IsSaid, ReadsOnly, NoTxOpen, NoViewKept, NoStateKept, Taken, SaidAtOnce, AppendsRecord, said_work}
use Rattle.tg_law_steps.proofs.Along.{delivered, commanded, over_walks}

module _ (m : Meaning) where
  -- neither of a record, nor of a checkpoint
  abbrev pub Other : WhatOf m → Type 0
  Other (told.Committed p) = ⊥
  Other (told.Aborted p o part seen now) = ⊥
  Other (told.Unsure p q) = ⊥
  Other (told.Saved o p u) = ⊥
  Other what = Unit {0}

  -- not of a checkpoint
  abbrev pub NotSaved : WhatOf m → Type 0
  NotSaved (told.Saved o p u) = ⊥
  NotSaved what = Unit {0}

  -- A draft saves an object up to where its client's view has played.
  pub record IsSave (num top : ℕ) (d : Entry) (o : Oid) (u : ℕ) : Type 0 where
    pub client : d.head.client ≡ num
    pub low : u ≤ top
    pub version : ℕ
    pub whole : ℕ
    pub keys : List (Part × ℕ)
    pub state : List ℕ
    pub saves : d.body ≡ Checkpoint o u version whole keys state

  -- what an append is for, by the command that waits
  abbrev pub MadeFor : ℕ → ℕ → CommandOf m → Entry → Purpose m → Type 0
  MadeFor num top x d (Decides what) = (tag_of d.body ≡ 2) × NotSaved what × ((IsEnd m x → ⊥) → Other what)
  MadeFor num top x d (Rescues what) = (tag_of d.body ≡ 2) × Other what
  MadeFor num top x d (Saves o u) = IsSave num top d o u
  MadeFor num top x d y = Unit {0}

  abbrev pub MadeTask : ℕ → ℕ → CommandOf m → Task m → Type 0
  MadeTask num top x (Appending a y) = MadeFor num top x a.draft y
  MadeTask num top x t = Unit {0}

  abbrev pub MadeWork : ℕ → ℕ → Option (Work m) → Type 0
  MadeWork num top None = Unit {0}
  MadeWork num top (Some w) = MadeTask num top w.command (task_in m w.hand)

  abbrev pub Made : Client m → Type 0
  Made c = MadeWork c.num (upto m c) c.work

-- What the replies of a step speak of, where those of checkpoints are of saved ones.
module _ (m : Meaning) (saved : Oid → ℕ → ℕ → Type 0) where
  pub data Says (n : NoteOf m) : Type 0 where
    Others : Other m n.what → Says n
    Counts : 0 < n.tx → NotSaved m n.what → Says n
    Saved' : (o : Oid) (p u : ℕ) → saved o p u → n ≡ note m 0 (told.Saved o p u) → Says n

  abbrev pub AllSay : List (NoteOf m) → Type 0
  AllSay ns = (n : NoteOf m) → Has ns n → Says n

  pub record Good (x : Moved m) : Type 0 where
    pub made : Made m x.now
    pub says : AllSay x.notes

  none_says : AllSay []
  none_says n i = absurd i

  and_says : (k : NoteOf m) (ns : List (NoteOf m)) → Says k → AllSay ns → AllSay (k ∷ ns)
  and_says k ns s rest n (inl e) = subst Says (sym e) s
  and_says k ns s rest n (inr i) = rest n i

  one_says : (k : NoteOf m) → Says k → AllSay (k ∷ [])
  one_says k s = and_says k [] s none_says

  -- The number of the transaction whose end waits.
  abbrev pub Open : Client m → Work m → Type 0
  Open c w = IsEnd m w.command → 0 < tx_number m c.tx

  -- what an append's end is to have
  pub record EndsWell (x : CommandOf m) (y : Purpose m) (e : AppendEnd) : Type 0 where
    pub suits : SuitsPurpose m x y
    pub marks : (n : ℕ) (o : Oid) (j : ℕ) → y ≡ Marks n o j → 0 < n
    pub decides : (what : WhatOf m) → y ≡ Decides what → NotSaved m what × ((IsEnd m x → ⊥) → Other m what)
    pub rescues : (what : WhatOf m) → y ≡ Rescues what → Other m what
    pub saves : (o : Oid) (u p : ℕ) (page : List ℕ) → y ≡ Saves o u → e ≡ At p page → saved o p u

  abbrev NextWell : ℕ → ℕ → CommandOf m → Purpose m → Next Append AppendEnd → Type 0
  NextWell num top x y (Goes a) = MadeFor m num top x a.draft y
  NextWell num top x y (Learns a) = MadeFor m num top x a.draft y
  NextWell num top x y (Ends e) = EndsWell x y e

  -- what a client that waits is to have
  pub record Ready (c : Client m) (w : Work m) (t : Task m) (end : Option AppendEnd) : Type 0 where
    pub suits : Suits m w.command t
    pub marks : (a : Append) (n : ℕ) (o : Oid) (j : ℕ) → t ≡ Appending a (Marks n o j) → 0 < n
    pub made : MadeTask m c.num (upto m c) w.command t
    pub saves : (a : Append) (o : Oid) (u p : ℕ) (page : List ℕ) → t ≡ Appending a (Saves o u) → end ≡ Some (At p page) → saved o p u

  next_well : (c : Client m) (w : Work m) (a : Append) (y : Purpose m) (to : Next Append AppendEnd) → Keeps a.draft to → Ready c w (Appending a y) (end_of to) → NextWell c.num (upto m c) w.command y to
  next_well c w a y (Goes b) d k = subst (λ (e : Entry). MadeFor m c.num (upto m c) w.command e y) (sym d) k.made
  next_well c w a y (Learns b) d k = subst (λ (e : Entry). MadeFor m c.num (upto m c) w.command e y) (sym d) k.made
  next_well c w a y (Ends e) d k = record {
    suits = k.suits;
    marks = λ n o j s. k.marks a n o j (ap (λ (z : Purpose m). Appending a z) s);
    decides = λ what s. (let x = subst (MadeFor m c.num (upto m c) w.command a.draft) s k.made in (x.1, x.2));
    rescues = λ what s. (subst (MadeFor m c.num (upto m c) w.command a.draft) s k.made).1;
    saves = λ o u p page s f. k.saves a o u p page (ap (λ (z : Purpose m). Appending a z) s) (ap Some f);
  }

  -- Along a turn.

  abbrev pub Fit : Client m → Work m → Place m → Type 0
  Fit c w (Feeds t n rid x) = Open c w × Ready c w t (task_ends m c t n x)
  Fit c w (Newer t n rid q) = Open c w × Ready c w t (again_ends m (stands m c q) t)
  Fit c w (OnAppend y bs to) = Open c w × NextWell c.num (upto m c) w.command y to
  Fit c w (Plays es p) = Open c w × ((t : ℕ) → p.came ≡ Played t → play_target m w w.command ≤ upto m c)
  Fit c w p = Open c w × Unit {0}

  way : (c : Client m) (w : Work m) (p : Place m) (d : Client m) (v : Work m) (q : Place m) → Way m c w p d v q → Fit c w p → Fit d v q
  way c w _ _ _ _ (FeedsAppend a y n rid x) k = (k.0, next_well c w a y (append_fed m c a n x).to (feed_keeps c.stand a n x c.next) k.1)
  way c w _ _ _ _ (NewerAppend a y n rid q) k = (k.0, next_well c w a y (append_again q a c.next).to (again_keeps q a c.next) k.1)
  way c w _ _ _ _ x k = (k.0, tt)

  walked_way : (c : Client m) (w : Work m) (d : Client m) (q : Place m) → AllWalked m c w d q → Fit c w (Walks []) → Fit d w q
  walked_way c w _ _ (HasPlayed of) k = (k.0, λ t came. played_to m (all_entries m c w c.hosted) (play_target m w w.command) t (own_view m c w (all_entries m c w c.hosted)) came)
  walked_way c w _ _ x k = (k.0, tt)

  is_end : (x : CommandOf m) → x ≡ cmd.End → IsEnd m x
  is_end x e = subst (IsEnd m) (sym e) tt

  no_end : (x : CommandOf m) → (x ≡ cmd.End → ⊥) → IsEnd m x → ⊥
  no_end cmd.End other i = other refl
  no_end x other i = i

  marks_say : (x : ℕ) (o : Oid) (n : ℕ) → AllSay (mark_notes m x o n)
  marks_say x o n = and_says (note m x told.Begin) (note m x (told.Put directory (m.mark_op o n)) ∷ note m x told.End ∷ []) (Others tt)
      (and_says (note m x (told.Put directory (m.mark_op o n))) (note m x told.End ∷ []) (Others tt) (one_says (note m x told.End) (Others tt)))

  judged_says : (es : Entries) (v : View m) (p : ℕ) (e : Entry) (so : Bool) (what : WhatOf m) → Judges m es v p e so what → NotSaved m what
  judged_says es v p e _ _ (Commit' _) = tt
  judged_says es v p e _ _ (Abort' _ _ _ _) = tt

  begun : (c : Client m) (w : Work m) (p : Place m) (d : Client m) (e : Entry) (y : Purpose m) (ns : List (NoteOf m)) → IsAppended m c w p d e y ns → Fit c w p → MadeFor m d.num (upto m d) w.command e y × AllSay ns
  unfolding checkpoint
  begun c w _ _ _ _ _ (EndDecides es p upto e so what of came i j l) k = ((refl, judged_says es p.view w.at e so what j, λ never. absurd (never (is_end w.command of))), none_says)
  begun c w _ _ _ _ _ (DecideDecides es p at e d so of t passes i v s l) k = ((refl, tt, λ never. tt), none_says)
  begun c w _ _ _ _ _ (SaveBegins es p upto o of came small) k = (record { client = refl; low = let a = k.1 upto came in let e = ap (play_target m w) of in omega (arith, a, e); version = _; whole = _; keys = _; state = _; saves = refl }, none_says)
  begun c w _ _ _ _ _ (MarkBegins es p upto o n of came may) k = (tt, marks_say (c.begun + 1) o n)
  begun c w _ _ _ _ _ (RescueDecides at so e is i) k = ((refl, tt), none_says)

  answer_says : (c : Client m) (w : Work m) (p : Place m) (d : Client m) (n : ℕ) (what : WhatOf m) → IsAnswered m c w p d n what → Fit c w p → Says (note m n what)
  answer_says c w _ _ _ _ (DecidedAt x bs p d other) k = Others ((k.1.decides x refl).1 (no_end w.command other))
  answer_says c w _ _ _ _ (DecidedLost x bs e lost other) k = Others ((k.1.decides x refl).1 (no_end w.command other))
  answer_says c w _ _ _ _ (JudgedSo x bs p d of) k = Counts (k.0 (is_end w.command of)) (k.1.decides x refl).0
  answer_says c w _ _ _ _ (JudgedLost x bs e lost of) k = Counts (k.0 (is_end w.command of)) (k.1.decides x refl).0
  answer_says c w _ _ _ _ (IsSaved o u bs p d) k = Saved' o p u (k.1.saves o u p d refl refl) refl
  answer_says c w _ _ _ _ (EndBlocked es p q x of came) k = Counts (k.0 (is_end w.command of)) tt
  answer_says c w _ _ _ _ (EndUnsure es p upto of came cannot) k = Counts (k.0 (is_end w.command of)) tt
  answer_says c w _ _ _ _ (EndJudged es p upto e so what of came i j l) k = Counts (k.0 (is_end w.command of)) (judged_says es p.view w.at e so what j)
  answer_says c w _ _ _ _ x k = Others tt

  told_says : (c : Client m) (w : Work m) (p : Place m) (d : Client m) (ns : List (NoteOf m)) → IsTold m c w p d ns → Fit c w p → AllSay ns
  told_says c w _ _ _ (IsCommitted bs p d) k = one_says _ (Counts (k.0 k.1.suits) tt)
  told_says c w _ _ _ (IsRescued x bs p d) k = one_says _ (Others (k.1.rescues x refl))
  told_says c w _ _ _ (IsMarked n o j bs p d) k = and_says (note m n (told.Committed p)) (note m 0 (told.Marked o j) ∷ []) (Counts (k.1.marks n o j refl) tt) (one_says _ (Others tt))
  told_says c w _ _ _ (PlaysOther es p other) k = none_says
  told_says c w _ _ _ x k = one_says _ (Others tt)

  ends_good : (c : Client m) (w : Work m) (p : Place m) (x : Moved m) → End m c w p x → Fit c w p → Good x
  unfolding appends append_start syncs sync_start
  ends_good c w _ _ (GoesOn _ _ _ (AppendGoes y bs a)) k = record { made = k.1; says = none_says }
  ends_good c w _ _ (GoesOn _ _ _ x) k = record { made = tt; says = none_says }
  ends_good c w _ _ (LearnsNewer _ (AppendLearns y bs a)) k = record { made = k.1; says = none_says }
  ends_good c w _ _ (LearnsNewer _ x) k = record { made = tt; says = none_says }
  ends_good c w _ _ (Syncs d v os x) k = record { made = tt; says = none_says }
  ends_good c w p _ (Appends d e y ns x) k = let b = begun c w p d e y ns x k in record { made = b.0; says = b.1 }
  ends_good c w _ _ (Refuses d n why x) k = record { made = tt; says = one_says (note m n (told.Refused why)) (Others tt) }
  ends_good c w p _ (Answers d n what x) k = record { made = tt; says = one_says (note m n what) (answer_says c w p d n what x k) }
  ends_good c w p _ (Tells d ns x) k = record { made = tt; says = told_says c w p d ns x k }

  -- Deliveries.

  pub feed_good : (c : Client m) (from : NodeId) (rid : ℕ) (x : Reply) → Made m c → ((w : Work m) → c.work ≡ Some w → Open c w × Ready c w (task_in m w.hand) (work_ends m c c.work from rid x)) → Good (feed m c c.work from rid x)
  feed_good c from rid x made k = delivered m Fit Good ends_good way (over_walks m Fit Good ends_good walked_way) c from rid x (record { made = made; says = none_says })
      (λ w t has doing a other. let r = k w has in (r.0, subst (λ (d : Hand m). Ready c w (task_in m d) (task_ends m c t from.num x)) doing (subst (Ready c w (task_in m w.hand)) (end_fed m c from rid x w t has doing a other) r.1)))
      (λ w q has is newer. let r = k w has in (r.0, subst (Ready c w (task_in m w.hand)) (end_newer m c from rid x w q has is newer) r.1))

  -- Commands.

  said : (c : Client m) (x : CommandOf m) (d : Client m) (ns : List (NoteOf m)) → ((t : Tx) → c.tx ≡ Some t → 0 < t.number) → IsSaid m c x d ns → AllSay ns
  said c _ _ _ number (ReadsOnly t is none) = and_says (note m t.number told.End) (note m t.number (told.Committed (snapshot_or m t.snapshot)) ∷ []) (Others tt) (one_says _ (Counts (number t is) tt))
  said c _ _ _ number (NoTxOpen x none) = none_says
  said c _ _ _ number (NoViewKept o q t at of came none) = none_says
  said c _ _ _ number (NoStateKept o q t at v of came has none) = none_says
  said c _ _ _ number x = one_says _ (Others tt)

  takes_good : (c : Client m) (x : CommandOf m) → c.work ≡ None → ((t : Tx) → c.tx ≡ Some t → 0 < t.number) → (y : Moved m) → Taken m c x y → Good y
  unfolding appends append_start syncs sync_start
  takes_good c _ free number _ (SaidAtOnce x d ns s) = record { made = subst (MadeWork m d.num (upto m d)) (sym (said_work m c x d ns s ∙ free)) tt; says = said c x d ns number s }
  takes_good c _ free number _ (AppendsRecord t _ is some (ForWrites e)) = record { made = tt; says = one_says _ (Others tt) }
  takes_good c _ free number _ (AppendsRecord t _ is some (ForJudged e)) = record { made = tt; says = one_says _ (Others tt) }
  takes_good c _ free number _ x = record { made = tt; says = none_says }

  pub command_good : (c : Client m) (x : CommandOf m) → ((t : Tx) → c.tx ≡ Some t → 0 < t.number) → Made m c → Good (refused_or m c x (refusal m c x))
  command_good c x number k = commanded m Good c x (λ why e. record { made = k; says = one_says _ (Others tt) }) (λ e. takes_good c x (not_busy m c x e) number)
