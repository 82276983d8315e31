-- What replies tell of a client's transactions, through its turns.
use Rattle.std.proofs.Common.{◌≡◌, ◌⊎◌, ℕ, ◌+◌, ◌<◌, ◌≤◌, List, [], ◌∷◌, ◌++◌, map, Bool, true, false, refl, sym, ap, ◌∙◌, subst, inl, inr, arith, Option, Some, None}
use Rattle.std.specs.Prelude.{◌==◌}
use Rattle.tg_base.specs.declared.ids.Oid.{Oid}
use Rattle.tg_entry.specs.declared.entry.WriteOp.{WriteOp}
use Rattle.tg_kind.specs.Meaning.{Meaning}
use Rattle.tg_model.specs.declared.trace.What.TheVariants as told
use Rattle.tg_model.specs.Kinds.{WhatOf, MarkOf, NoteOf}
use Rattle.tg_model.specs.Traces.{Trace, Tells, puts_of}
use Rattle.tg_model.specs.Legal.{HasNoAsk}
use Rattle.tg_protocol.specs.Views.{Entries}
use Rattle.tg_protocol.specs.Logs.{ops_of}
use Rattle.tg_protocol.specs.Transactions.{Tx, open_tx}
use Rattle.tg_protocol.specs.Clients.{Client}
use Rattle.tg_protocol.specs.Answers.{note, mark_notes}
use Rattle.tg_protocol.specs.ClientSteps.{ClientTurn, snapshot_or}
use Rattle.tg_law_replies.specs.Plays.Sound.{IsRising}
use Rattle.tg_law_replies.specs.History.Logs.{AreListed, HasOutcome}
use Rattle.tg_law_replies.proofs.History.Members.{Has, contained_has, has_contained, same_number, number_same, contrary, has_image, has_either}
use Rattle.tg_law_replies.proofs.Replies.Books.{mark, IsPlain, ArePlain, IsOpen, plain_open, put_open, ask_open}
use Rattle.tg_law_replies.proofs.Replies.Closed.{LeavesAlone, none_put, puts_stay, told_still, told_before, open_stays}
use Rattle.tg_law_replies.proofs.Replies.Moves.{TrueWhat, TrueNotes}
use Rattle.tg_law_replies.proofs.Replies.Steps.{IsEffect, as_moved}

module _ (m : Meaning) (objects : List Oid) (es : Entries) (rising : IsRising es) (listed : AreListed es) (k : ℕ) where
  abbrev Open : Trace m → Tx → Type 0
  Open replies t = IsOpen m objects es k replies t × (0 < t.number)

  -- a transaction that was begun, and isn't open
  abbrev pub IsOver : Client m → ℕ → Type 0
  IsOver c x = (0 < x) × (x ≤ c.begun) × ((t : Tx) → c.tx ≡ Some t → t.number ≡ x → ⊥)

  abbrev OneSnapshot : Trace m → ℕ → Type 0
  OneSnapshot replies x = (o r : Oid) (q s : m.ask) (t u : ℕ) (a b : m.answer) → Tells m replies k x (told.Asked o q t a) → Tells m replies k x (told.Asked r s u b) → t ≡ u

  -- a transaction put nothing, and commits where it asked, or at 0
  pub record OnlyReads (replies : Trace m) (x p : ℕ) : Type 0 where
    pub puts : puts_of m replies k x ≡ []
    pub asks : (o : Oid) (q : m.ask) (s : ℕ) (a : m.answer) → Tells m replies k x (told.Asked o q s a) → p ≡ s
    pub idle : HasNoAsk m replies k x → p ≡ 0

  abbrev Committed : Trace m → Client m → ℕ → ℕ → Type 0
  Committed replies c x p = HasOutcome m objects es p true ⊎ (IsOver c x × OnlyReads replies x p)

  -- what holds of a client and of its replies
  pub record IsKept (replies : Trace m) (c : Client m) : Type 0 where
    pub «open» : (t : Tx) → c.tx ≡ Some t → Open replies t × (t.number ≤ c.begun)
    pub later : (x : ℕ) → c.begun < x → LeavesAlone m objects es k x replies
    pub snapshots : (x : ℕ) → IsOver c x → OneSnapshot replies x
    pub committed : (x p : ℕ) → Tells m replies k x (told.Committed p) → Committed replies c x p

  -- Replies of others, and of other transactions.

  others_alone : (event n x : ℕ) (ns : List (NoteOf m)) → (n ≡ k → ⊥) → LeavesAlone m objects es k x (map (mark m event n) ns)
  others_alone event n x ns other t i c d = let r = has_image (mark m event n) ns t i in absurd (other (sym (ap (λ (y : MarkOf m). y.client) r.2) ∙ c))

  plain_alone : (event x : ℕ) (ns : List (NoteOf m)) → ArePlain m ns → LeavesAlone m objects es k x (map (mark m event k) ns)
  plain_alone event x ns plain t i c d = let r = has_image (mark m event k) ns t i in subst (λ (w : WhatOf m). IsPlain m w) (sym (ap (λ (y : MarkOf m). y.what) r.2)) (plain r.0 r.1)

  one_alone : (event x : ℕ) (n : NoteOf m) → (n.tx ≡ x → ⊥) → LeavesAlone m objects es k x (map (mark m event k) (n ∷ []))
  one_alone event x n other t (inl e) c d = absurd (other (sym (ap (λ (y : MarkOf m). y.tx) e) ∙ d))
  one_alone event x n other t (inr i) c d = absurd i

  marks_alone : (event x y : ℕ) (o : Oid) (p : ℕ) → (y ≡ x → ⊥) → LeavesAlone m objects es k x (map (mark m event k) (mark_notes m y o p))
  marks_alone event x y o p other t (inl e) c d = absurd (other (sym (ap (λ (z : MarkOf m). z.tx) e) ∙ d))
  marks_alone event x y o p other t (inr (inl e)) c d = absurd (other (sym (ap (λ (z : MarkOf m). z.tx) e) ∙ d))
  marks_alone event x y o p other t (inr (inr (inl e))) c d = absurd (other (sym (ap (λ (z : MarkOf m). z.tx) e) ∙ d))
  marks_alone event x y o p other t (inr (inr (inr i))) c d = absurd i

  both_alone : (x : ℕ) (xs ys : Trace m) → LeavesAlone m objects es k x xs → LeavesAlone m objects es k x ys → LeavesAlone m objects es k x (xs ++ ys)
  both_alone x xs ys a b t i c d = by (has_either xs ys t i)
    where
      by : Has xs t ⊎ Has ys t → IsPlain m t.what
      by (inl j) = a t j c d
      by (inr j) = b t j c d

  snap_before : (x : ℕ) (replies ys : Trace m) → LeavesAlone m objects es k x ys → OneSnapshot replies x → OneSnapshot (replies ++ ys) x
  snap_before x replies ys alone h o r q s t u a b i j =
      h o r q s t u a b (told_before m objects es k x replies ys o q t a alone i) (told_before m objects es k x replies ys r s u b alone j)

  -- what isn't asked has one snapshot
  no_snapshot : (x : ℕ) (replies : Trace m) → LeavesAlone m objects es k x replies → OneSnapshot replies x
  no_snapshot x replies alone o r q s t u a b i j = absurd (alone (record { event = i.event; client = k; tx = x; what = told.Asked o q t a }) (has_contained replies (record { event = i.event; client = k; tx = x; what = told.Asked o q t a }) i.here) refl refl)

  pub reads_stay : (x p : ℕ) (replies ys : Trace m) → LeavesAlone m objects es k x ys → OnlyReads replies x p → OnlyReads (replies ++ ys) x p
  reads_stay x p replies ys alone h = record {
    puts = puts_stay m objects es k x replies ys alone ∙ h.puts;
    asks = λ o q s a i. h.asks o q s a (told_before m objects es k x replies ys o q s a alone i);
    idle = λ none. h.idle (λ o q s a i. none o q s a (told_still m objects es k x replies ys (told.Asked o q s a) i));
  }

  -- what an open transaction without writes comes to
  pub reads_only : (replies : Trace m) (t : Tx) → IsOpen m objects es k replies t → t.writes ≡ [] → OnlyReads replies t.number (snapshot_or m t.snapshot)
  reads_only replies t h none = record {
    puts = sym h.puts ∙ ap (λ (ws : List WriteOp). ops_of m ws) none;
    asks = λ o q s a i. ap (λ (y : Option ℕ). snapshot_or m y) (h.snap o q s a i);
    idle = λ no_ask. by t.snapshot refl no_ask;
  }
    where
      by : (s : Option ℕ) → t.snapshot ≡ s → HasNoAsk m replies k t.number → snapshot_or m s ≡ 0
      by None is no_ask = refl
      by (Some s) is no_ask = let x = h.asked s is in absurd (no_ask x.oid x.ask s x.answer x.tells)

  -- another client's replies
  pub others_kept : (replies : Trace m) (c : Client m) (event n : ℕ) (ns : List (NoteOf m)) → (n ≡ k → ⊥) → IsKept replies c → IsKept (replies ++ map (mark m event n) ns) c
  others_kept replies c event n ns other h = record {
    «open» = λ t is. let x = h.«open» t is in ((open_stays m objects es k replies (map (mark m event n) ns) t (others_alone event n t.number ns other) x.0.0, x.0.1), x.1);
    later = λ x less. both_alone x replies (map (mark m event n) ns) (h.later x less) (others_alone event n x ns other);
    snapshots = λ x over. snap_before x replies (map (mark m event n) ns) (others_alone event n x ns other) (h.snapshots x over);
    committed = λ x p tells. by x p tells (has_either replies (map (mark m event n) ns) (record { event = tells.event; client = k; tx = x; what = told.Committed p }) (has_contained (replies ++ map (mark m event n) ns) (record { event = tells.event; client = k; tx = x; what = told.Committed p }) tells.here));
  }
    where
      still : (x p : ℕ) → Committed replies c x p → Committed (replies ++ map (mark m event n) ns) c x p
      still x p (inl out) = inl out
      still x p (inr o) = inr (o.0, reads_stay x p replies (map (mark m event n) ns) (others_alone event n x ns other) o.1)

      by : (x p : ℕ) (tells : Tells m (replies ++ map (mark m event n) ns) k x (told.Committed p))
          → Has replies (record { event = tells.event; client = k; tx = x; what = told.Committed p }) ⊎ Has (map (mark m event n) ns) (record { event = tells.event; client = k; tx = x; what = told.Committed p })
          → Committed (replies ++ map (mark m event n) ns) c x p
      by x p tells (inl i) = still x p (h.committed x p (record { number = tells.number; event = tells.event; here = contained_has replies (record { event = tells.event; client = k; tx = x; what = told.Committed p }) i }))
      by x p tells (inr i) = let r = has_image (mark m event n) ns (record { event = tells.event; client = k; tx = x; what = told.Committed p }) i in absurd (other (sym (ap (λ (y : MarkOf m). y.client) r.2)))

  -- A client's turn keeps what holds, where it says so of the transaction that it begins, and of what it tells.

  one_number : (a b : ℕ) → Some a ≡ Some b → a ≡ b
  one_number a b e = cc

  some_tx : (s t : Tx) → Some s ≡ Some t → s ≡ t
  some_tx s t e = cc

  no_tx : (t : Tx) → None ≡ Some t → ⊥
  no_tx t e = cc

  build : (replies ys : Trace m) (c d : Client m) → IsKept replies c → c.begun ≤ d.begun
      → ((x : ℕ) → (x ≤ c.begun) × IsOver d x ⊎ (d.begun < x) → LeavesAlone m objects es k x ys) → ((x : ℕ) → IsOver c x → IsOver d x)
      → ((t : Tx) → d.tx ≡ Some t → Open (replies ++ ys) t × (t.number ≤ d.begun))
      → ((x : ℕ) → c.begun < x → IsOver d x → OneSnapshot (replies ++ ys) x)
      → ((x p : ℕ) → Tells m ys k x (told.Committed p) → Committed (replies ++ ys) d x p) → IsKept (replies ++ ys) d
  build replies ys c d h begun alone over opens new told_now = record {
    «open» = opens;
    later = λ x less. both_alone x replies ys (h.later x (omega (arith, less, begun))) (alone x (inr less));
    snapshots = λ x o. snap x o (split x c.begun);
    committed = λ x p tells. by x p tells (has_either replies ys (record { event = tells.event; client = k; tx = x; what = told.Committed p }) (has_contained (replies ++ ys) (record { event = tells.event; client = k; tx = x; what = told.Committed p }) tells.here));
  }
    where
      split : (x n : ℕ) → (x ≤ n) ⊎ (n < x)
      split x n = grind arith

      -- a transaction that is over now was over, or was open
      early : (x : ℕ) → IsOver d x → x ≤ c.begun → (t : Option Tx) → c.tx ≡ t → OneSnapshot replies x
      early x o le None is = h.snapshots x (o.0, le, λ t has at. no_tx t (sym is ∙ has))
      early x o le (Some t) is = same (t.number == x) refl
        where
          same : (b : Bool) → (t.number == x) ≡ b → OneSnapshot replies x
          same true e = subst (λ (y : ℕ). OneSnapshot replies y) (same_number t.number x e) (let w = (h.«open» t is).0.0 in λ o r q s u v a b i j. one_number u v (sym (w.snap o q u a i) ∙ w.snap r s v b j))
          same false e = h.snapshots x (o.0, le, λ y has at. contrary (t.number == x) e (number_same t.number x (ap (λ (z : Tx). z.number) (some_tx t y (sym is ∙ has)) ∙ at)))

      snap : (x : ℕ) → IsOver d x → (x ≤ c.begun) ⊎ (c.begun < x) → OneSnapshot (replies ++ ys) x
      snap x o (inl le) = snap_before x replies ys (alone x (inl (le, o))) (early x o le c.tx refl)
      snap x o (inr less) = new x less o

      still : (x p : ℕ) → Committed replies c x p → Committed (replies ++ ys) d x p
      still x p (inl out) = inl out
      still x p (inr o) = let now = over x o.0 in inr (now, reads_stay x p replies ys (alone x (inl (o.0.1, now))) o.1)

      by : (x p : ℕ) (tells : Tells m (replies ++ ys) k x (told.Committed p))
          → Has replies (record { event = tells.event; client = k; tx = x; what = told.Committed p }) ⊎ Has ys (record { event = tells.event; client = k; tx = x; what = told.Committed p }) → Committed (replies ++ ys) d x p
      by x p tells (inl i) = still x p (h.committed x p (record { number = tells.number; event = tells.event; here = contained_has replies (record { event = tells.event; client = k; tx = x; what = told.Committed p }) i }))
      by x p tells (inr i) = told_now x p (record { number = tells.number; event = tells.event; here = contained_has ys (record { event = tells.event; client = k; tx = x; what = told.Committed p }) i })

  fresh_open : (replies : Trace m) (x : ℕ) → 0 < x → LeavesAlone m objects es k x replies → Open replies (open_tx x)
  fresh_open replies x positive alone = (
    record {
      puts = sym (none_put m objects es k x replies alone);
      snap = λ o q s a i. absurd (never o q s a i);
      asks = λ o q s a i. absurd (never o q s a i);
      reads = λ r i. absurd i;
      ops = λ w i. absurd (has_contained [] w i);
      asked = λ s none. absurd (no s none);
    },
    positive,
  )
    where
      never : (o : Oid) (q : m.ask) (s : ℕ) (a : m.answer) → Tells m replies k x (told.Asked o q s a) → ⊥
      never o q s a i = alone (record { event = i.event; client = k; tx = x; what = told.Asked o q s a }) (has_contained replies (record { event = i.event; client = k; tx = x; what = told.Asked o q s a }) i.here) refl refl

      no : (s : ℕ) → None ≡ Some s → ⊥
      no s e = cc

  -- what is told of an outcome in true notes is so
  so_told : (replies : Trace m) (d : Client m) (event : ℕ) (ns : List (NoteOf m)) → TrueNotes m objects es rising listed ns → (x p : ℕ) → Tells m (map (mark m event k) ns) k x (told.Committed p) → Committed (replies ++ map (mark m event k) ns) d x p
  so_told replies d event ns so x p tells =
      let r = has_image (mark m event k) ns (record { event = tells.event; client = k; tx = x; what = told.Committed p }) (has_contained (map (mark m event k) ns) (record { event = tells.event; client = k; tx = x; what = told.Committed p }) tells.here) in
      inl (subst (λ (w : WhatOf m). TrueWhat m objects es rising listed w) (sym (ap (λ (y : MarkOf m). y.what) r.2)) (so r.0 r.1))

  -- the transaction that it was, or none
  same_over : (c d : Client m) → c.begun ≤ d.begun → (d.tx ≡ c.tx) ⊎ (d.tx ≡ None) → (x : ℕ) → IsOver c x → IsOver d x
  same_over c d begun (inl same) x o = let le = o.1 in (o.0, omega (arith, le, begun), λ t is at. o.2 t (sym same ∙ is) at)
  same_over c d begun (inr gone) x o = let le = o.1 in (o.0, omega (arith, le, begun), λ t is at. no_tx t (sym gone ∙ is))

  -- the same one, with more in it
  more_over : (c d : Client m) (of of' : Tx) → c.begun ≤ d.begun → c.tx ≡ Some of → d.tx ≡ Some of' → of'.number ≡ of.number → (x : ℕ) → IsOver c x → IsOver d x
  more_over c d of of' begun from tx number x o =
      let le = o.1 in (o.0, omega (arith, le, begun), λ t is at. o.2 of from (sym number ∙ (ap (λ (z : Tx). z.number) (some_tx of' t (sym tx ∙ is)) ∙ at)))

  -- notes of the open transaction leave others alone
  its_alone : (event : ℕ) (c d : Client m) (of of' : Tx) (w : WhatOf m) → of.number ≤ c.begun → c.begun ≤ d.begun → d.tx ≡ Some of' → of'.number ≡ of.number → (x : ℕ) → (x ≤ c.begun) × IsOver d x ⊎ (d.begun < x)
      → LeavesAlone m objects es k x (map (mark m event k) (note m of.number w ∷ []))
  its_alone event c d of of' w le begun tx number x (inl o) = one_alone event x (note m of.number w) (λ at. o.1.2 of' tx (number ∙ at))
  its_alone event c d of of' w le begun tx number x (inr less) = one_alone event x (note m of.number w) (λ at. omega (arith, at, less, le, begun))

  -- nothing above what was begun
  none_new : (c d : Client m) (tr : Trace m) → d.begun ≡ c.begun → (x : ℕ) → c.begun < x → IsOver d x → OneSnapshot tr x
  none_new c d tr begun x less o = let le = o.1 in absurd (omega (arith, less, le, begun))

  abbrev end_notes : ℕ → ℕ → List (NoteOf m)
  end_notes x p = note m x told.End ∷ note m x (told.Committed p) ∷ []

  ends_plain : (x p : ℕ) → ArePlain m (end_notes x p)
  ends_plain x p n (inl i) = subst (λ (y : NoteOf m). IsPlain m y.what) (sym i) tt
  ends_plain x p n (inr (inl i)) = subst (λ (y : NoteOf m). IsPlain m y.what) (sym i) tt
  ends_plain x p n (inr (inr i)) = absurd i

  not_end : (p : ℕ) → ◌≡◌ {A = WhatOf m} (told.Committed p) told.End → ⊥
  not_end p e = cc

  abbrev commit_place : WhatOf m → ℕ
  commit_place (told.Committed p) = p
  commit_place what = 0

  same_commit : (p q : ℕ) → ◌≡◌ {A = WhatOf m} (told.Committed p) (told.Committed q) → p ≡ q
  same_commit p q e = ap commit_place e

  abbrev NotAsk : WhatOf m → Type 0
  NotAsk (told.Asked o q s a) = ⊥
  NotAsk what = Unit {0}

  no_ask : (what : WhatOf m) (o : Oid) (q : m.ask) (s : ℕ) (a : m.answer) → NotAsk what → what ≡ told.Asked o q s a → ⊥
  no_ask what o q s a n is = subst NotAsk is n

  pub turn_kept : (replies : Trace m) (event : ℕ) (c : Client m) (t : ClientTurn m) → IsKept replies c → IsEffect m objects es rising listed c (as_moved m objects es rising listed t) → IsKept (replies ++ map (mark m event k) t.notes) t.now
  turn_kept replies event c t h (inl (so, inl (inl e))) =
      build replies (map (mark m event k) t.notes) c t.now h (let b = e.begun in omega (arith, b)) (λ x o. plain_alone event x t.notes e.plain) (same_over c t.now (let b = e.begun in omega (arith, b)) e.tx) (opens e.tx)
      (none_new c t.now (replies ++ map (mark m event k) t.notes) e.begun) (so_told replies t.now event t.notes so)
    where
      opens : (t.now.tx ≡ c.tx) ⊎ (t.now.tx ≡ None) → (y : Tx) → t.now.tx ≡ Some y → Open (replies ++ map (mark m event k) t.notes) y × (y.number ≤ t.now.begun)
      opens (inl same) y is =
          let o = h.«open» y (sym same ∙ is) in
          let le = o.1 in let b = e.begun in
          ((plain_open m objects es k event replies t.notes y e.plain o.0.0, o.0.1), omega (arith, le, b))
      opens (inr gone) y is = absurd (no_tx y (sym gone ∙ is))
  turn_kept replies event c t h (inl (so, inl (inr (inl e)))) =
      subst (λ (ns : List (NoteOf m)). IsKept (replies ++ map (mark m event k) ns) t.now) (sym e.notes)
      (build replies (map (mark m event k) (note m e.of.number (told.Asked e.oid e.ask e.snapshot e.answer) ∷ [])) c t.now h begun (its_alone event c t.now e.of _ (told.Asked e.oid e.ask e.snapshot e.answer) (h.«open» e.of e.from).1 begun e.tx refl)
      (more_over c t.now e.of _ begun e.from e.tx refl) opens (none_new c t.now _ e.begun)
      (so_told replies t.now event (note m e.of.number (told.Asked e.oid e.ask e.snapshot e.answer) ∷ []) (subst (λ (ns : List (NoteOf m)). TrueNotes m objects es rising listed ns) e.notes so)))
    where
      begun : c.begun ≤ t.now.begun
      begun = let b = e.begun in omega (arith, b)

      opens : (y : Tx) → t.now.tx ≡ Some y → Open (replies ++ map (mark m event k) (note m e.of.number (told.Asked e.oid e.ask e.snapshot e.answer) ∷ [])) y × (y.number ≤ t.now.begun)
      opens y is =
          let o = h.«open» e.of e.from in
          let le = o.1 in let b = e.begun in
          subst (λ (z : Tx). Open (replies ++ map (mark m event k) (note m e.of.number (told.Asked e.oid e.ask e.snapshot e.answer) ∷ [])) z × (z.number ≤ t.now.begun)) (some_tx _ y (sym e.tx ∙ is))
          ((ask_open m objects es k event replies e.of e.oid e.ask e.snapshot e.answer o.0.1 e.first o.0.0, o.0.1), omega (arith, le, b))
  turn_kept replies event c t h (inl (so, inl (inr (inr e)))) =
      subst (λ (ns : List (NoteOf m)). IsKept (replies ++ map (mark m event k) ns) t.now) (sym e.notes)
      (build replies (map (mark m event k) (mark_notes m (c.begun + 1) e.oid e.mark)) c t.now h begun alone (same_over c t.now begun e.tx) (opens e.tx) new
      (so_told replies t.now event (mark_notes m (c.begun + 1) e.oid e.mark) (subst (λ (ns : List (NoteOf m)). TrueNotes m objects es rising listed ns) e.notes so)))
    where
      begun : c.begun ≤ t.now.begun
      begun = let b = e.begun in omega (arith, b)

      alone : (x : ℕ) → (x ≤ c.begun) × IsOver t.now x ⊎ (t.now.begun < x) → LeavesAlone m objects es k x (map (mark m event k) (mark_notes m (c.begun + 1) e.oid e.mark))
      alone x (inl o) = marks_alone event x (c.begun + 1) e.oid e.mark (λ at. let le = o.0 in omega (arith, at, le))
      alone x (inr less) = marks_alone event x (c.begun + 1) e.oid e.mark (λ at. let b = e.begun in omega (arith, at, less, b))

      asks_none : (u : MarkOf m) → Has (map (mark m event k) (mark_notes m (c.begun + 1) e.oid e.mark)) u → (o : Oid) (q : m.ask) (s : ℕ) (a : m.answer) → u.what ≡ told.Asked o q s a → ⊥
      asks_none u (inl i) o q s a is = no_ask told.Begin o q s a tt (sym (ap (λ (y : MarkOf m). y.what) i) ∙ is)
      asks_none u (inr (inl i)) o q s a is = no_ask (told.Put _ _) o q s a tt (sym (ap (λ (y : MarkOf m). y.what) i) ∙ is)
      asks_none u (inr (inr (inl i))) o q s a is = no_ask told.End o q s a tt (sym (ap (λ (y : MarkOf m). y.what) i) ∙ is)
      asks_none u (inr (inr (inr i))) o q s a is = absurd i

      new : (x : ℕ) → c.begun < x → IsOver t.now x → OneSnapshot (replies ++ map (mark m event k) (mark_notes m (c.begun + 1) e.oid e.mark)) x
      new x less over o r q s i u a b tells again = absurd (by (has_either replies (map (mark m event k) (mark_notes m (c.begun + 1) e.oid e.mark)) (record { event = tells.event; client = k; tx = x; what = told.Asked o q i a }) (has_contained _ (record { event = tells.event; client = k; tx = x; what = told.Asked o q i a }) tells.here)))
        where
          by : Has replies (record { event = tells.event; client = k; tx = x; what = told.Asked o q i a }) ⊎ Has (map (mark m event k) (mark_notes m (c.begun + 1) e.oid e.mark)) (record { event = tells.event; client = k; tx = x; what = told.Asked o q i a }) → ⊥
          by (inl j) = h.later x less (record { event = tells.event; client = k; tx = x; what = told.Asked o q i a }) j refl refl
          by (inr j) = asks_none (record { event = tells.event; client = k; tx = x; what = told.Asked o q i a }) j o q i a refl

      opens : (t.now.tx ≡ c.tx) ⊎ (t.now.tx ≡ None) → (y : Tx) → t.now.tx ≡ Some y → Open (replies ++ map (mark m event k) (mark_notes m (c.begun + 1) e.oid e.mark)) y × (y.number ≤ t.now.begun)
      opens (inl same) y is =
          let o = h.«open» y (sym same ∙ is) in
          let le = o.1 in let b = e.begun in (
            (open_stays m objects es k replies (map (mark m event k) (mark_notes m (c.begun + 1) e.oid e.mark)) y (marks_alone event y.number (c.begun + 1) e.oid e.mark (λ at. omega (arith, at, le))) o.0.0, o.0.1),
            omega (arith, le, b),
          )
      opens (inr gone) y is = absurd (no_tx y (sym gone ∙ is))
  turn_kept replies event c t h (inl (so, inr (inl e))) =
      subst (λ (ns : List (NoteOf m)). IsKept (replies ++ map (mark m event k) ns) t.now) (sym e.notes)
      (build replies (map (mark m event k) (note m (c.begun + 1) told.Begin ∷ [])) c t.now h (let b = e.begun in omega (arith, b)) (λ x o. plain_alone event x (note m (c.begun + 1) told.Begin ∷ []) plain)
      (λ x o. let le = o.1 in let b = e.begun in (o.0, omega (arith, le, b), λ y is at. let n = ap (λ (z : Tx). z.number) (some_tx (open_tx (c.begun + 1)) y (sym e.tx ∙ is)) in omega (arith, n, at, le))) opens
      (λ x less o. let le = o.1 in let b = e.begun in absurd (o.2 (open_tx (c.begun + 1)) e.tx (omega (arith, less, le, b))))
      (so_told replies t.now event (note m (c.begun + 1) told.Begin ∷ []) (subst (λ (ns : List (NoteOf m)). TrueNotes m objects es rising listed ns) e.notes so)))
    where
      plain : ArePlain m (note m (c.begun + 1) told.Begin ∷ [])
      plain n (inl i) = subst (λ (y : NoteOf m). IsPlain m y.what) (sym i) tt
      plain n (inr i) = absurd i

      opens : (y : Tx) → t.now.tx ≡ Some y → Open (replies ++ map (mark m event k) (note m (c.begun + 1) told.Begin ∷ [])) y × (y.number ≤ t.now.begun)
      opens y is =
          let b = e.begun in
          let fresh = fresh_open replies (c.begun + 1) (omega arith) (h.later (c.begun + 1) (omega arith)) in
          subst (λ (z : Tx). Open (replies ++ map (mark m event k) (note m (c.begun + 1) told.Begin ∷ [])) z × (z.number ≤ t.now.begun)) (some_tx (open_tx (c.begun + 1)) y (sym e.tx ∙ is))
          ((plain_open m objects es k event replies (note m (c.begun + 1) told.Begin ∷ []) (open_tx (c.begun + 1)) plain fresh.0, fresh.1), omega (arith, b))
  turn_kept replies event c t h (inl (so, inr (inr e))) =
      subst (λ (ns : List (NoteOf m)). IsKept (replies ++ map (mark m event k) ns) t.now) (sym e.notes)
      (build replies (map (mark m event k) (note m e.of.number (told.Put e.oid e.op) ∷ [])) c t.now h begun (its_alone event c t.now e.of _ (told.Put e.oid e.op) (h.«open» e.of e.from).1 begun e.tx refl)
      (more_over c t.now e.of _ begun e.from e.tx refl) opens (none_new c t.now _ e.begun)
      (so_told replies t.now event (note m e.of.number (told.Put e.oid e.op) ∷ []) (subst (λ (ns : List (NoteOf m)). TrueNotes m objects es rising listed ns) e.notes so)))
    where
      begun : c.begun ≤ t.now.begun
      begun = let b = e.begun in omega (arith, b)

      opens : (y : Tx) → t.now.tx ≡ Some y → Open (replies ++ map (mark m event k) (note m e.of.number (told.Put e.oid e.op) ∷ [])) y × (y.number ≤ t.now.begun)
      opens y is =
          let o = h.«open» e.of e.from in
          let le = o.1 in let b = e.begun in
          subst (λ (z : Tx). Open (replies ++ map (mark m event k) (note m e.of.number (told.Put e.oid e.op) ∷ [])) z × (z.number ≤ t.now.begun)) (some_tx _ y (sym e.tx ∙ is))
          ((put_open m objects es k event replies e.of e.oid e.op e.spelled o.0.0, o.0.1), omega (arith, le, b))
  turn_kept replies event c t h (inr e) =
      subst (λ (ns : List (NoteOf m)). IsKept (replies ++ map (mark m event k) ns) t.now) (sym e.notes)
      (build replies (map (mark m event k) (end_notes e.of.number (snapshot_or m e.of.snapshot))) c t.now h (let b = e.begun in omega (arith, b)) (λ x o. plain_alone event x (end_notes e.of.number (snapshot_or m e.of.snapshot)) (ends_plain e.of.number (snapshot_or m e.of.snapshot)))
      (same_over c t.now (let b = e.begun in omega (arith, b)) (inr e.tx)) (λ y is. absurd (no_tx y (sym e.tx ∙ is))) (none_new c t.now _ e.begun)
      (λ x p tells. committed x p tells.event (has_contained (map (mark m event k) (end_notes e.of.number (snapshot_or m e.of.snapshot))) (record { event = tells.event; client = k; tx = x; what = told.Committed p }) tells.here)))
    where
      over : IsOver t.now e.of.number
      over = let o = h.«open» e.of e.from in let le = o.1 in let b = e.begun in (o.0.1, omega (arith, le, b), λ y is at. no_tx y (sym e.tx ∙ is))

      reads : OnlyReads (replies ++ map (mark m event k) (end_notes e.of.number (snapshot_or m e.of.snapshot))) e.of.number (snapshot_or m e.of.snapshot)
      reads = reads_stay e.of.number (snapshot_or m e.of.snapshot) replies (map (mark m event k) (end_notes e.of.number (snapshot_or m e.of.snapshot)))
          (plain_alone event e.of.number (end_notes e.of.number (snapshot_or m e.of.snapshot)) (ends_plain e.of.number (snapshot_or m e.of.snapshot))) (reads_only replies e.of (h.«open» e.of e.from).0.0 e.none)

      committed : (x p at : ℕ) → Has (map (mark m event k) (end_notes e.of.number (snapshot_or m e.of.snapshot))) (record { event = at; client = k; tx = x; what = told.Committed p })
          → Committed (replies ++ map (mark m event k) (end_notes e.of.number (snapshot_or m e.of.snapshot))) t.now x p
      committed x p at (inl i) = absurd (not_end p (ap (λ (y : MarkOf m). y.what) i))
      committed x p at (inr (inl i)) =
          let n = ap (λ (y : MarkOf m). y.tx) i in
          let q = same_commit p (snapshot_or m e.of.snapshot) (ap (λ (y : MarkOf m). y.what) i) in
          inr (
            subst (IsOver t.now) (sym n) over,
            subst (λ (y : ℕ). OnlyReads (replies ++ map (mark m event k) (end_notes e.of.number (snapshot_or m e.of.snapshot))) y p) (sym n)
                (subst (λ (y : ℕ). OnlyReads (replies ++ map (mark m event k) (end_notes e.of.number (snapshot_or m e.of.snapshot))) e.of.number y) (sym q) reads),
          )
      committed x p at (inr (inr i)) = absurd i
