-- What a client makes of its commands, once it has played: what it tells and what it appends is true of the log.
use Rattle.std.proofs.Common.{◌≡◌, ◌⊎◌, ℕ, ◌+◌, ◌≤◌, max, List, [], ◌∷◌, Bool, true, false, refl, sym, ap, ◌∙◌, subst, inl, inr, arith, Option, Some, None, Contains}
use Rattle.tg_base.specs.declared.ids.Oid.{Oid}
use Rattle.tg_base.specs.declared.marks.Part.{Part}
use Rattle.tg_entry.specs.declared.entry.Body.{Body}
use Rattle.tg_entry.specs.declared.entry.Body.TheVariants.{Decision, Checkpoint}
use Rattle.tg_entry.specs.declared.entry.Entry.{Entry}
use Rattle.tg_kind.specs.Meaning.{Meaning}
use Rattle.tg_model.specs.declared.refusal.Refusal.{Refusal}
use Rattle.tg_model.specs.declared.trace.What.TheVariants as told
use Rattle.tg_model.specs.Kinds.{WhatOf, NoteOf}
use Rattle.tg_protocol.specs.Words.{directory}
use Rattle.tg_entry.specs.Needs.{reads_of}
use Rattle.tg_protocol.specs.Entries.{is_commit}
use Rattle.tg_protocol.specs.Views.{Entries, Verdict, Commits, Aborts, Base, View, base_of, state_of, view_version, fate_of, verdict, view_outcome, fate_or_verdict}
use Rattle.tg_protocol.specs.Checkpoints.{base_at}
use Rattle.tg_protocol.specs.Transactions.{Tx, tx_read, commit_record}
use Rattle.tg_protocol.specs.Appending.{append_start}
use Rattle.tg_protocol.specs.Clients.{Purpose, Writes, Marks, Decides, Rescues, Task, Appending, Hand, Doing, Learning, Work, Client}
use Rattle.tg_protocol.specs.Answers.{Moved, note, mark_notes, replies, refuses, dir_or, base_upto, took_over, answers, closed, appends, decision}
use Rattle.tg_law_replies.specs.Plays.Sound.{IsRising, IsBase, IsSound}
use Rattle.tg_law_replies.specs.History.Logs.{state_below, version_below, AreListed, HasOutcome}
use Rattle.tg_law_replies.proofs.History.Members.{Has}
use Rattle.tg_law_replies.specs.Views.Views.{IsTrueCheckpoint, IsTrueBase, IsTrueView}
use Rattle.tg_law_replies.specs.Views.Exact.{IsRecorded}
use Rattle.tg_law_replies.specs.Views.Looking.{IsTrueAt, IsJudge}
use Rattle.tg_law_replies.proofs.Views.Plays.{max_left, verdicts_true}
use Rattle.tg_law_replies.proofs.Replies.Books.{IsPlain, ArePlain}

module _ (m : Meaning) (objects : List Oid) (es : Entries) (rising : IsRising es) (listed : AreListed es) where
  -- What is told is so.

  pub record IsFailed (p : ℕ) (o : Oid) (k : Part) (seen now : ℕ) : Type 0 where
    pub out : HasOutcome m objects es p false
    pub read : Contains (reads_of out.entry) (record { oid = o; part = k; version = seen })
    pub is : now ≡ version_below m objects es p o k
    pub differs : now ≡ seen → ⊥

  -- a commit record stands at a position
  pub record IsCommitAt (p : ℕ) : Type 0 where
    pub entry : Entry
    pub here : Contains es (p, entry)
    pub commit : is_commit entry ≡ true

  abbrev pub TrueWhat : WhatOf m → Type 0
  TrueWhat (told.Asked o q t a) = a ≡ m.answers (state_below m objects es t o) q
  TrueWhat (told.Past o q p a) = a ≡ m.answers (state_below m objects es p o) q
  TrueWhat (told.Fate p (Some b)) = HasOutcome m objects es p b
  TrueWhat (told.Decided p (Some b)) = HasOutcome m objects es p b
  TrueWhat (told.Rescued p (Some b)) = HasOutcome m objects es p b × IsRecorded es p
  TrueWhat (told.Committed p) = HasOutcome m objects es p true
  TrueWhat (told.Unsure p q) = (q ≡ p) ⊎ IsCommitAt q
  TrueWhat (told.Aborted p o k seen now) = IsFailed p o k seen now
  TrueWhat _ = Unit {0}

  abbrev pub TrueNotes : List (NoteOf m) → Type 0
  TrueNotes ns = (n : NoteOf m) → Has ns n → TrueWhat n.what

  pub one_note : (x : ℕ) (what : WhatOf m) → TrueWhat what → TrueNotes (note m x what ∷ [])
  one_note x what h n (inl e) = subst (λ (k : NoteOf m). TrueWhat k.what) (sym e) h
  one_note x what h n (inr i) = absurd i

  -- What is appended is so.

  abbrev pub TrueBody : Body → Type 0
  TrueBody (Decision p b) = HasOutcome m objects es p b
  TrueBody (Checkpoint o u v whole keys bytes) = IsTrueCheckpoint m objects es o u v whole keys bytes
  TrueBody _ = Unit {0}

  abbrev pub TrueDraft : Entry → Type 0
  TrueDraft e = TrueBody e.body × ((o : Oid) (b : Base m) → base_at m o e ≡ Some b → IsTrueBase m objects es o b × IsBase m b)

  -- what a rescue tells once its decision record stands
  abbrev pub RescuesBy : Entry → WhatOf m → Type 0
  RescuesBy d (told.Rescued p (Some b)) = HasOutcome m objects es p b × (d.body ≡ Decision p b)
  RescuesBy d what = TrueWhat what

  -- a commit record without reads
  abbrev pub IsBlind : Entry → Type 0
  IsBlind d = (is_commit d ≡ true) × (reads_of d ≡ [])

  abbrev pub TruePurpose : Entry → Purpose m → Type 0
  TruePurpose d Writes = IsBlind d
  TruePurpose d (Marks n o mark) = IsBlind d
  TruePurpose d (Decides what) = TrueWhat what × IsPlain m what
  TruePurpose d (Rescues what) = RescuesBy d what × IsPlain m what
  TruePurpose d _ = Unit {0}

  abbrev pub TrueTask : Task m → Type 0
  TrueTask (Appending a p) = TrueDraft a.draft × TruePurpose a.draft p
  TrueTask t = Unit {0}

  abbrev pub TrueHand : Hand m → Type 0
  TrueHand (Doing t) = TrueTask t
  TrueHand (Learning waits t) = TrueTask t

  -- Clients that are right: their view, their directory, and what they append.

  pub record IsRightView (v : View m) : Type 0 where
    pub so : IsTrueView m objects es v
    pub sound : IsSound m v
    pub dir : Base m
    pub hosted : base_of m v directory ≡ Some dir

  pub record IsRight (c : Client m) : Type 0 where
    pub view : (v : View m) → c.view ≡ Some v → IsRightView v
    pub dir : c.dir ≡ state_below m objects es c.played directory
    pub work : (w : Work m) → c.work ≡ Some w → TrueHand w.hand

  no_work : (w : Work m) → None ≡ Some w → ⊥
  no_work w e = cc

  one_view : (v w : View m) → Some v ≡ Some w → v ≡ w
  one_view v w e = cc

  pub one_work : (v w : Work m) → Some v ≡ Some w → v ≡ w
  one_work v w e = cc

  pub no_base : (b : Base m) → None ≡ Some b → ⊥
  no_base b e = cc

  pub replies_now : (c : Client m) (ns : List (NoteOf m)) → IsRight c → IsRight (replies m c ns).now
  replies_now c ns h = record { view = h.view; dir = h.dir; work = λ w is. absurd (no_work w is) }

  pub took_now : (c : Client m) (o : Option (View m)) → IsRight c → c.view ≡ o → IsRight (took_over m c o)
  took_now c None h is = h
  took_now c (Some v) h is =
      let r = h.view v is in
      let t = r.so.told directory r.dir r.hosted in
      record {
        view = h.view;
        dir = ap (λ (s : Option m.state). dir_or m c.dir s) t.state ∙ ap (λ (b : Option (Base m)). state_below m objects es (max v.upto (base_upto m b)) directory) (sym r.hosted);
        work = h.work;
      }

  pub took_tx : (c : Client m) (o : Option (View m)) → (took_over m c o).tx ≡ c.tx
  took_tx c None = refl
  took_tx c (Some v) = refl

  pub took_begun : (c : Client m) (o : Option (View m)) → (took_over m c o).begun ≡ c.begun
  took_begun c None = refl
  took_begun c (Some v) = refl

  pub commit_draft : (t : Tx) (client : ℕ) → TrueDraft (commit_record t client)
  unfolding commit_record
  commit_draft t client = (tt, λ o x is. absurd (no_base x is))

  pub decision_right : (c : Client m) (e : Entry) (p : ℕ) (b : Bool) → HasOutcome m objects es p b → TrueDraft (decision m c e p b)
  decision_right c e p b h = (h, λ o x is. absurd (no_base x is))

  -- Views that answer.

  -- a view that stands at a position and is based no further has the states there
  state_there : (v : View m) (t : ℕ) (o : Oid) (s : m.state) → IsTrueView m objects es v → v.upto ≡ t → ((b : Base m) → base_of m v o ≡ Some b → b.upto ≤ t) → (b : Base m) → base_of m v o ≡ Some b
      → state_of m v o ≡ Some s → s ≡ state_below m objects es t o
  state_there v t o s h at low b is told =
      let k = (h.told o b is).state in
      let le = low b is in
      one s (state_below m objects es t o) (sym told ∙ (k ∙ ap (λ (n : ℕ). Some (state_below m objects es n o)) (max_left v.upto b.upto (omega (arith, at, le)) ∙ at)))
    where
      one : (x y : m.state) → Some x ≡ Some y → x ≡ y
      one x y e = cc

  pub answer_there : (v : View m) (t : ℕ) (o : Oid) (q : m.ask) (s : m.state) → IsTrueAt m objects es v t o → state_of m v o ≡ Some s → m.answers s q ≡ m.answers (state_below m objects es t o) q
  answer_there v t o q s h told =
      let b = h.based s told in
      ap (λ (x : m.state). m.answers x q) (state_there v t o s h.so h.stands (λ c is. subst (λ (x : Base m). x.upto ≤ t) (one b.0 c (sym b.1 ∙ is)) b.2) b.0 b.1 told)
    where
      one : (x y : Base m) → Some x ≡ Some y → x ≡ y
      one x y e = cc

  -- and the versions
  pub version_there : (v : View m) (t : ℕ) (o : Oid) (s : m.state) (k : Part) → IsTrueAt m objects es v t o → state_of m v o ≡ Some s → view_version m v o k ≡ version_below m objects es t o k
  version_there v t o s k h told =
      let b = h.based s told in
      let at = h.stands in let le = b.2 in
      (h.so.told o b.0 b.1).versions k ∙ ap (λ (n : ℕ). version_below m objects es n o k) (max_left v.upto b.0.upto (omega (arith, at, le)) ∙ at)

  pub judged : (v : View m) (own : Entries) (p : ℕ) (e : Entry) → IsJudge m objects es v own p e → (d : Verdict) → verdict m v own p e ≡ d
      → (d ≡ Commits → HasOutcome m objects es p true) × (d ≡ Aborts → HasOutcome m objects es p false)
  judged v own p e j d is =
      let t = verdicts_true m objects es own v p e rising j.decisions j.so j.here j.commit j.can in
      ((λ k. t.0 (is ∙ k)), (λ k. t.1 (is ∙ k)))

  -- what a view says of a record: its fate, where it has one
  pub outcome_right : (v : View m) (own : Entries) (p : ℕ) (e : Entry) → IsTrueView m objects es v → (fate_of m v p ≡ None → IsJudge m objects es v own p e)
      → (view_outcome m v own p e ≡ Commits → HasOutcome m objects es p true) × (view_outcome m v own p e ≡ Aborts → HasOutcome m objects es p false)
  unfolding view_outcome
  outcome_right v own p e so judge = by (fate_of m v p) refl
    where
      no : Commits ≡ Aborts → ⊥
      no z = cc

      by : (b : Option Bool) → fate_of m v p ≡ b
          → (fate_or_verdict m v own p e b ≡ Commits → HasOutcome m objects es p true) × (fate_or_verdict m v own p e b ≡ Aborts → HasOutcome m objects es p false)
      by None is = judged v own p e (judge is) (verdict m v own p e) refl
      by (Some true) is = ((λ k. so.fates p true is), (λ k. absurd (no k)))
      by (Some false) is = ((λ k. absurd (no (sym k))), (λ k. so.fates p false is))

module _ (m : Meaning) (objects : List Oid) (es : Entries) (rising : IsRising es) (listed : AreListed es) (tx0 : Option Tx) (n0 : ℕ) where
  abbrev Right : Client m → Type 0
  Right c = IsRight m objects es rising listed c

  abbrev True : WhatOf m → Type 0
  True w = TrueWhat m objects es rising listed w

  -- A client within a step: its transaction is the one that the step began with, or closed.
  pub record InStep (c : Client m) : Type 0 where
    pub right : Right c
    pub tx : (c.tx ≡ tx0) ⊎ (c.tx ≡ None)
    pub begun : c.begun ≡ n0

  -- What a step makes of it.

  pub record IsPlainly (x : Moved m) : Type 0 where
    pub tx : (x.now.tx ≡ tx0) ⊎ (x.now.tx ≡ None)
    pub begun : x.now.begun ≡ n0
    pub plain : ArePlain m x.notes

  -- an ask is answered
  pub record IsAsking (x : Moved m) : Type 0 where
    pub of : Tx
    pub from : tx0 ≡ Some of
    pub oid : Oid
    pub ask : m.ask
    pub snapshot : ℕ
    pub answer : m.answer
    pub first : (of.snapshot ≡ None) ⊎ (of.snapshot ≡ Some snapshot)
    pub tx : x.now.tx ≡ Some (tx_read of (record { oid = oid; part = m.look ask; version = version_below m objects es snapshot oid (m.look ask) }) snapshot)
    pub begun : x.now.begun ≡ n0
    pub notes : x.notes ≡ note m of.number (told.Asked oid ask snapshot answer) ∷ []

  -- an object is marked, by a transaction of its own
  pub record IsMarking (x : Moved m) : Type 0 where
    pub tx : (x.now.tx ≡ tx0) ⊎ (x.now.tx ≡ None)
    pub begun : x.now.begun ≡ n0 + 1
    pub oid : Oid
    pub mark : ℕ
    pub notes : x.notes ≡ mark_notes m (n0 + 1) oid mark

  abbrev pub IsBooked : Moved m → Type 0
  IsBooked x = IsPlainly x ⊎ (IsAsking x ⊎ IsMarking x)

  abbrev pub IsRightMove : Moved m → Type 0
  IsRightMove x = Right x.now × TrueNotes m objects es rising listed x.notes × IsBooked x

  pub one_plain : (x : ℕ) (what : WhatOf m) → IsPlain m what → ArePlain m (note m x what ∷ [])
  one_plain x what h n (inl e) = subst (λ (k : NoteOf m). IsPlain m k.what) (sym e) h
  one_plain x what h n (inr i) = absurd i

  pub replies_right : (c : Client m) (ns : List (NoteOf m)) → InStep c → TrueNotes m objects es rising listed ns → ArePlain m ns → IsRightMove (replies m c ns)
  replies_right c ns h t p = (replies_now m objects es rising listed c ns h.right, t, inl (record { tx = h.tx; begun = h.begun; plain = p }))

  pub refuses_right : (c : Client m) (x : ℕ) (why : Refusal) → InStep c → IsRightMove (refuses m c x why)
  refuses_right c x why h =
      replies_right c (note m x (told.Refused why) ∷ []) h (one_note m objects es rising listed x (told.Refused why) tt) (one_plain x (told.Refused why) tt)

  same_tx : (s t : Option Tx) → s ≡ t → (t ≡ tx0) ⊎ (t ≡ None) → (s ≡ tx0) ⊎ (s ≡ None)
  same_tx s t e (inl i) = inl (e ∙ i)
  same_tx s t e (inr i) = inr (e ∙ i)

  pub took_right : (c : Client m) (o : Option (View m)) → InStep c → c.view ≡ o → InStep (took_over m c o)
  took_right c o h is = record {
    right = took_now m objects es rising listed c o h.right is;
    tx = same_tx (took_over m c o).tx c.tx (took_tx m objects es rising listed c o) h.tx;
    begun = took_begun m objects es rising listed c o ∙ h.begun;
  }

  pub answers_right : (c : Client m) (x : ℕ) (what : WhatOf m) → InStep c → True what → IsPlain m what → IsRightMove (answers m c x what)
  answers_right c x what h t p =
      replies_right (took_over m c c.view) (note m x what ∷ []) (took_right c c.view h refl) (one_note m objects es rising listed x what t) (one_plain x what p)

  pub appends_right : (c : Client m) (w : Work m) (e : Entry) (p : Purpose m) (ns : List (NoteOf m)) → InStep c → TrueDraft m objects es rising listed e → TruePurpose m objects es rising listed e p
      → TrueNotes m objects es rising listed ns → ArePlain m ns → IsRightMove (appends m c w e p ns)
  unfolding appends append_start
  appends_right c w e p ns h d q t plain = (
    record { view = h.right.view; dir = h.right.dir; work = λ x is. subst (λ (y : Work m). TrueHand m objects es rising listed y.hand) (one_work m objects es rising listed _ x is) (d, q) },
    t,
    inl (record { tx = h.tx; begun = h.begun; plain = plain }),
  )

  pub close_right : (c : Client m) → InStep c → InStep (closed m c)
  close_right c h = record { right = record { view = h.right.view; dir = h.right.dir; work = h.right.work }; tx = inr refl; begun = h.begun }
