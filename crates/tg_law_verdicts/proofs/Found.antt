-- A transcript without a fault is legal.
use Rattle.std.proofs.Common.{◌≡◌, ℕ, ◌<◌, ◌≤◌, List, [], ◌∷◌, ◌++◌, Bool, true, false, refl, sym, ap, ◌∙◌, subst, inl, inr, arith}
use Rattle.std.specs.Prelude.{Option, Some, None, Contains, ◌+◌, ◌&&◌, ◌||◌, ◌==◌, not, nat_lt, nat_le, max, ◌≢◌, if◌then◌else◌}
use Rattle.std.specs.List.{list_any, list_all}
use Rattle.tg_base.specs.Orders.{oid_eq}
use Rattle.tg_base.specs.declared.fault.Clause.{Clause}
use Rattle.tg_base.specs.declared.fault.Clause.TheVariants.{A, B, C, D, E}
use Rattle.tg_base.specs.declared.ids.Oid.{Oid}
use Rattle.tg_base.specs.declared.marks.Part.{Part}
use Rattle.tg_kind.specs.Meaning.{Meaning}
use Rattle.tg_model.specs.declared.refusal.Refusal.TheVariants as cause
use Rattle.tg_model.specs.declared.trace.What.TheVariants as told
use Rattle.tg_model.specs.Kinds.{WhatOf, MarkOf, DoneOf}
use Rattle.tg_model.specs.Stores.{History, answer_at, changes, changed, is_stamp}
use Rattle.tg_model.specs.Traces.{Trace, Says, Tells, puts_of, point_of, has_items, IsOf, HasNone, Place, Snapshot, Stamp}
use Rattle.tg_model.specs.Legal.{Legal, AsksHoldAt, AnswersRight, IsCommitted, CommitsRight, IsAborted, AbortsRight, EntriesRight, InOrder}
use Rattle.tg_model.specs.Verdicts.{Sameness, IsSameness, first_failed, is_of, asks_in, asks, puts, is_begin, is_end, begins, ended, or_zero, bound_in, bound, same_writes, entry_of, has_entry, holds_at, all_hold_at, answer_is_right, commit_is_right, is_cause, explains, abort_is_right, only_at, fate_is_right, entry_is_right, tests, reply_fault, entry_fault}
use Rattle.tg_kind.specs.Parts.{part_eq}
use Rattle.tg_law_verdicts.proofs.Members.{Has, has_left, has_right, has_contained, contained_has, and_both, both_and, not_true, found, passes_somewhere, no_pass, all_pass}
use Rattle.tg_law_verdicts.proofs.Tests.{same_number, number_same, le_of, lt_of, of_lt, same_oid, same_part, writes_decide}
use Rattle.tg_law_verdicts.proofs.Lines.{first_fine, Replies, Entries, Fine, reply_at, entry_at}
use Rattle.tg_law_verdicts.proofs.Asks.{mark, mark_is, Q, Answered, answered, asked_in, end_is}

has_some : (m : Meaning) {X : Type 0} (xs : List X) → xs ≢ [] → has_items m xs ≡ true
has_some m [] n = absurd (n refl)
has_some m (x ∷ xs) n = refl

has_nothing : (m : Meaning) {X : Type 0} (xs : List X) → ((x : X) → Has xs x → ⊥) → has_items m xs ≡ false
has_nothing m [] n = refl
has_nothing m (x ∷ xs) n = absurd (n x (inl refl))

if_yes : (b x y : Bool) → b ≡ true → (if b then x else y) ≡ true → x ≡ true
if_yes true x y e f = f
if_yes false x y e f = absurd cc

if_no : (b x y : Bool) → b ≡ false → (if b then x else y) ≡ true → y ≡ true
if_no true x y e f = absurd cc
if_no false x y e f = f

or_then : (a b : Bool) → a ≡ true → (not a || b) ≡ true → b ≡ true
or_then true b e f = f
or_then false b e f = absurd cc

or_second : (a b : Bool) → a ≡ false → (a || b) ≡ true → b ≡ true
or_second true b e f = absurd cc
or_second false b e f = f

first_most : (a b : ℕ) → a ≤ max a b
first_most a b = omega arith

second_most : (a b c : ℕ) → c ≤ b → c ≤ max a b
second_most a b c le = omega (arith, le)

module _ (m : Meaning) (same : Sameness m) (objects : List Oid) (h : History m) (trace : Trace m) where
  abbrev question : Oid → m.ask → ℕ → m.answer → Q m same objects h trace
  question o a s r = record { oid = o; ask = a; at = s; ans = r }

  abbrev asks_of : Trace m → ℕ → ℕ → List (Q m same objects h trace)
  asks_of ts k x = asks_in m same objects h trace ts k x

  abbrev at_in : WhatOf m → ℕ
  at_in (told.Asked o a s r) = s
  at_in _ = 0

  abbrev what_of : MarkOf m → WhatOf m
  what_of t = t.what

  abbrev Right : Trace m → ℕ → ℕ → WhatOf m → Type 0
  Right before k x w = first_failed (tests m same objects h trace before k x true w) ≡ None

  right_of : (before : Trace m) (event k x : ℕ) (w : WhatOf m) → 0 < x → reply_fault m same objects h trace before (mark m same objects h trace event k x w) ≡ None → Right before k x w
  right_of before event k x w pos f = subst (λ (b : Bool). first_failed (tests m same objects h trace before k x b w) ≡ None) (of_lt 0 x pos) f

  -- the tests of an answer

  abbrev asked_test : Trace m → ℕ → ℕ → Oid → m.ask → ℕ → m.answer → Bool
  asked_test before k x o a s r = answer_is_right m same objects h trace (question o a s r) (asks_of before k x)

  abbrev alike_test : ℕ → List (Q m same objects h trace) → Bool
  alike_test s qs = list_all (λ (r : Q m same objects h trace). r.at == s) qs

  abbrev bound_test : ℕ → ℕ → ℕ → Bool
  bound_test k x n = nat_le (bound m same objects h trace k x) n

  asked_right : (before : Trace m) (k x : ℕ) (o : Oid) (a : m.ask) (s : ℕ) (r : m.answer) → Right before k x (told.Asked o a s r)
      → (holds_at m same objects h trace s (question o a s r) ≡ true) × ((alike_test s (asks_of before k x) ≡ true) × (bound_test k x s ≡ true))
  asked_right before k x o a s r f =
      let p = first_fine A (asked_test before k x o a s r) ((E, bound_test k x s) ∷ []) f in
      let b = first_fine E (bound_test k x s) [] p.1 in
      let c = and_both (holds_at m same objects h trace s (question o a s r)) (alike_test s (asks_of before k x)) p.0 in
      (c.0, (c.1, b.0))

  -- earlier asks have the same snapshot
  same_before : (earlier ts : Trace m) → Replies m same objects h trace earlier ts → (k x : ℕ) → 0 < x → (q : Q m same objects h trace) → Answered m same objects h trace earlier k x q
      → (event : ℕ) (o : Oid) (a : m.ask) (s : ℕ) (r : m.answer) → Has ts (mark m same objects h trace event k x (told.Asked o a s r)) → q.at ≡ s
  same_before earlier [] rs k x pos q an event o a s r i = absurd i
  same_before earlier (u ∷ ts) rs k x pos q an event o a s r (inl e) =
      let f = right_of earlier event k x (told.Asked o a s r) pos (subst (λ (y : MarkOf m). reply_fault m same objects h trace earlier y ≡ None) (sym e) rs.0) in
      let l = (asked_right earlier k x o a s r f).1.0 in
      same_number q.at s (all_pass (λ (y : Q m same objects h trace). y.at == s) (asks_of earlier k x) l q (asked_in m same objects h trace earlier an.event k x q.oid q.ask q.at q.ans an.has))
  same_before earlier (u ∷ ts) rs k x pos q an event o a s r (inr i) =
      same_before (earlier ++ u ∷ []) ts rs.1 k x pos q (record { event = an.event; has = has_left earlier (u ∷ []) (mark m same objects h trace an.event k x (told.Asked q.oid q.ask q.at q.ans)) an.has }) event o a s r i

  abbrev asks_mark : ℕ → ℕ → ℕ → Q m same objects h trace → MarkOf m
  asks_mark event k x q = mark m same objects h trace event k x (told.Asked q.oid q.ask q.at q.ans)

  same_both : (earlier ts : Trace m) → Replies m same objects h trace earlier ts → (k x : ℕ) → 0 < x → (q r : Q m same objects h trace) (d e : ℕ)
      → Has ts (asks_mark d k x q) → Has ts (asks_mark e k x r) → q.at ≡ r.at
  same_both earlier [] rs k x pos q r d e i j = absurd i
  same_both earlier (u ∷ ts) rs k x pos q r d e (inl a) (inl b) = ap (λ (t : MarkOf m). at_in (what_of t)) (a ∙ sym b)
  same_both earlier (u ∷ ts) rs k x pos q r d e (inl a) (inr j) =
      same_before (earlier ++ u ∷ []) ts rs.1 k x pos q (record { event = d; has = has_right earlier (u ∷ []) (asks_mark d k x q) (inl a) }) e r.oid r.ask r.at r.ans j
  same_both earlier (u ∷ ts) rs k x pos q r d e (inr i) (inl b) =
      sym (same_before (earlier ++ u ∷ []) ts rs.1 k x pos r (record { event = e; has = has_right earlier (u ∷ []) (asks_mark e k x r) (inl b) }) d q.oid q.ask q.at q.ans i)
  same_both earlier (u ∷ ts) rs k x pos q r d e (inr i) (inr j) = same_both (earlier ++ u ∷ []) ts rs.1 k x pos q r d e i j

  -- no earlier entry is of the same transaction

  pub record RightEntry (before : History m) (d : DoneOf m) : Type 0 where
    pub ended : ended m same objects h trace d.client d.number ≡ true
    pub writes : same_writes m same objects h trace d.writes (puts m same objects h trace d.client d.number) ≡ true
    pub new : has_entry m same objects h trace d.client d.number before ≡ false
    pub asks : all_hold_at m same objects h trace d.stamp (asks m same objects h trace d.client d.number) ≡ true
    pub bound : bound_test d.client d.number d.stamp ≡ true

  right_entry : (before : History m) (d : DoneOf m) → entry_fault m same objects h trace before d ≡ None → RightEntry before d
  right_entry before d f =
      let e1 = ended m same objects h trace d.client d.number in
      let e2 = same_writes m same objects h trace d.writes (puts m same objects h trace d.client d.number) in
      let e3 = not (has_entry m same objects h trace d.client d.number before) in
      let e4 = all_hold_at m same objects h trace d.stamp (asks m same objects h trace d.client d.number) in
      let p = first_fine D (entry_is_right m same objects h trace before d) ((E, bound_test d.client d.number d.stamp) ∷ []) f in
      let b = first_fine E (bound_test d.client d.number d.stamp) [] p.1 in
      let c = and_both (e1 && e2 && e3) e4 p.0 in
      let g = and_both (e1 && e2) e3 c.0 in
      let i = and_both e1 e2 g.0 in
      record { ended = i.0; writes = i.1; new = not_true (has_entry m same objects h trace d.client d.number before) g.1; asks = c.1; bound = b.0 }

  entry_is : (d : DoneOf m) (k x : ℕ) → IsOf m d k x → entry_of m same objects h trace k x d ≡ true
  entry_is d k x of = both_and (d.client == k) (d.number == x) (number_same d.client k of.0) (number_same d.number x of.1)

  differs : (earlier ds : History m) → Entries m same objects h trace earlier ds → (d e : DoneOf m) → Has earlier d → Has ds e → IsOf m d e.client e.number → ⊥
  differs earlier [] es d e i j of = absurd j
  differs earlier (u ∷ ds) es d e i (inl s) of =
      let f = subst (λ (y : DoneOf m). entry_fault m same objects h trace earlier y ≡ None) (sym s) es.0 in
      no_pass (entry_of m same objects h trace e.client e.number) earlier (right_entry earlier e f).new d i (entry_is d e.client e.number of)
  differs earlier (u ∷ ds) es d e i (inr j) of = differs (earlier ++ u ∷ []) ds es.1 d e (has_left earlier (u ∷ []) d i) j of

  once_in : (earlier ds : History m) → Entries m same objects h trace earlier ds → (d e : DoneOf m) → Has ds d → Has ds e → IsOf m e d.client d.number → d ≡ e
  once_in earlier [] es d e i j of = absurd i
  once_in earlier (u ∷ ds) es d e (inl a) (inl b) of = a ∙ sym b
  once_in earlier (u ∷ ds) es d e (inl a) (inr j) of = absurd (differs (earlier ++ u ∷ []) ds es.1 d e (has_right earlier (u ∷ []) d (inl a)) j (sym of.0, sym of.1))
  once_in earlier (u ∷ ds) es d e (inr i) (inl b) of = absurd (differs (earlier ++ u ∷ []) ds es.1 e d (has_right earlier (u ∷ []) e (inl b)) i of)
  once_in earlier (u ∷ ds) es d e (inr i) (inr j) of = once_in (earlier ++ u ∷ []) ds es.1 d e i j of

  -- the bound is at or above the point of each reply before a `begin`

  begins_after : (b : MarkOf m) (us vs : Trace m) (k x : ℕ) → (is_of m same objects h trace k x b && is_begin m same objects h trace b.what) ≡ true
      → begins m same objects h trace k x (us ++ b ∷ vs) ≡ true
  begins_after b us vs k x is =
      passes_somewhere (λ (t : MarkOf m). is_of m same objects h trace k x t && is_begin m same objects h trace t.what) (us ++ b ∷ vs) b (has_right us (b ∷ vs) b (inl refl)) is

  abbrev reach : MarkOf m → ℕ
  reach t = or_zero m same objects h trace (point_of m trace t)

  bounded : (t : MarkOf m) (rest : ℕ) (c : Bool) → c ≡ true → reach t ≤ (if c then max (reach t) rest else 0)
  bounded t rest true e = first_most (reach t) rest
  bounded t rest false e = absurd cc

  bounded_on : (t : MarkOf m) (rest n : ℕ) (c : Bool) → c ≡ true → n ≤ rest → n ≤ (if c then max (reach t) rest else 0)
  bounded_on t rest n true e le = second_most (reach t) rest n le
  bounded_on t rest n false e le = absurd cc

  bound_above : (us vs : Trace m) (b r : MarkOf m) (k x : ℕ) → (is_of m same objects h trace k x b && is_begin m same objects h trace b.what) ≡ true → Has us r
      → reach r ≤ bound_in m same objects h trace (us ++ b ∷ vs) k x
  unfolding bound_in
  bound_above [] vs b r k x is i = absurd i
  bound_above (t ∷ us) vs b r k x is (inl e) =
      subst (λ (y : MarkOf m). reach y ≤ bound_in m same objects h trace (t ∷ us ++ b ∷ vs) k x) (sym e)
      (bounded t (bound_in m same objects h trace (us ++ b ∷ vs) k x) (begins m same objects h trace k x (us ++ b ∷ vs)) (begins_after b us vs k x is))
  bound_above (t ∷ us) vs b r k x is (inr i) =
      bounded_on t (bound_in m same objects h trace (us ++ b ∷ vs) k x) (reach r) (begins m same objects h trace k x (us ++ b ∷ vs)) (begins_after b us vs k x is) (bound_above us vs b r k x is i)

  begin_mark : (b : MarkOf m) → b.what ≡ told.Begin → (is_of m same objects h trace b.client b.tx b && is_begin m same objects h trace b.what) ≡ true
  begin_mark b e = both_and (is_of m same objects h trace b.client b.tx b) (is_begin m same objects h trace b.what)
      (both_and (b.client == b.client) (b.tx == b.tx) (number_same b.client b.client refl) (number_same b.tx b.tx refl))
      (ap (λ (w : WhatOf m). is_begin m same objects h trace w) e)

  module _ (exact : IsSameness m same) (fine : Fine m same objects h trace) where
    pub record Told (k x : ℕ) (w : WhatOf m) : Type 0 where
      pub before : Trace m
      pub right : Right before k x w

    told_right : (k x : ℕ) (w : WhatOf m) → Tells m trace k x w → Told k x w
    told_right k x w t =
        let r = reply_at m same objects h trace [] trace (mark m same objects h trace t.event k x w) fine.replies (has_contained trace (mark m same objects h trace t.event k x w) t.here) in
        record { before = r.before; right = right_of r.before t.event k x w t.number r.fine }

    abbrev answer_of : ℕ → Oid → m.ask → m.answer
    answer_of n o q = answer_at m objects h n o q

    answers_right : AnswersRight m objects h trace
    answers_right = record {
      at_snapshot = λ k x o q t a tells.
          let f = told_right k x (told.Asked o q t a) tells in
          (exact.answers a (answer_of t o q)).0 (asked_right f.before k x o q t a f.right).0;
      one_snapshot = λ k x o r q s t u a b one other.
          same_both [] trace fine.replies k x one.number (question o q t a) (question r s u b) one.event other.event
          (has_contained trace (asks_mark one.event k x (question o q t a)) one.here) (has_contained trace (asks_mark other.event k x (question r s u b)) other.here);
    }

    in_asks : (k x : ℕ) (o : Oid) (q : m.ask) (t : ℕ) (a : m.answer) → Tells m trace k x (told.Asked o q t a) → Has (asks m same objects h trace k x) (question o q t a)
    in_asks k x o q t a tells = asked_in m same objects h trace trace tells.event k x o q t a (has_contained trace (asks_mark tells.event k x (question o q t a)) tells.here)

    tells_of : (k x : ℕ) → 0 < x → (q : Q m same objects h trace) → Has (asks m same objects h trace k x) q → Tells m trace k x (told.Asked q.oid q.ask q.at q.ans)
    tells_of k x pos q i =
        let an = answered m same objects h trace trace k x q i in
        record { number = pos; event = an.event; here = contained_has trace (asks_mark an.event k x q) an.has }

    holds_all : (k x p : ℕ) → all_hold_at m same objects h trace p (asks m same objects h trace k x) ≡ true → AsksHoldAt m objects h trace k x p
    holds_all k x p l o q t a tells =
        let b = all_pass (λ (y : Q m same objects h trace). nat_le y.at p && holds_at m same objects h trace p y) (asks m same objects h trace k x) l (question o q t a) (in_asks k x o q t a tells) in
        let c = and_both (nat_le t p) (holds_at m same objects h trace p (question o q t a)) b in
        (le_of t p c.0, (exact.answers a (answer_of p o q)).0 c.1)

    -- commits

    abbrev commit_entry : ℕ → ℕ → ℕ → DoneOf m → Bool
    commit_entry k x p d = (d.stamp == p) && entry_of m same objects h trace k x d && same_writes m same objects h trace d.writes (puts m same objects h trace k x)

    abbrev with_test : ℕ → ℕ → ℕ → Bool
    with_test k x p = list_any (commit_entry k x p) h && all_hold_at m same objects h trace p (asks m same objects h trace k x)

    abbrev without_test : ℕ → ℕ → ℕ → Bool
    without_test k x p = list_all (λ (q : Q m same objects h trace). q.at == p) (asks m same objects h trace k x) && (has_items m (asks m same objects h trace k x) || (p == 0))

    commit_right : (k x p : ℕ) → Tells m trace k x (told.Committed p) → commit_is_right m same objects h trace k x p ≡ true
    commit_right k x p tells = let f = told_right k x (told.Committed p) tells in (first_fine B (commit_is_right m same objects h trace k x p) [] f.right).0

    of_entry : (d : DoneOf m) (k x : ℕ) → entry_of m same objects h trace k x d ≡ true → IsOf m d k x
    of_entry d k x e = let p = and_both (d.client == k) (d.number == x) e in (same_number d.client k p.0, same_number d.number x p.1)

    committed : (k x p : ℕ) → with_test k x p ≡ true → IsCommitted m objects h trace k x p
    committed k x p e =
        let b = and_both (list_any (commit_entry k x p) h) (all_hold_at m same objects h trace p (asks m same objects h trace k x)) e in
        let f = found (commit_entry k x p) h b.0 in
        let d = f.it in
        let c = and_both ((d.stamp == p) && entry_of m same objects h trace k x d) (same_writes m same objects h trace d.writes (puts m same objects h trace k x)) f.passes in
        let g = and_both (d.stamp == p) (entry_of m same objects h trace k x d) c.0 in
        record {
          done = d;
          here = contained_has h d f.has;
          stamp = same_number d.stamp p g.0;
          of = of_entry d k x g.1;
          writes = (writes_decide exact.ops d.writes (puts_of m trace k x)).0 c.1;
          asks = holds_all k x p b.1;
        }

    without : (k x p : ℕ) → Tells m trace k x (told.Committed p) → puts_of m trace k x ≡ [] → without_test k x p ≡ true
    without k x p tells none =
        if_no (has_items m (puts m same objects h trace k x)) (with_test k x p) (without_test k x p) (ap (λ (ws : List (Oid × m.op)). has_items m ws) none) (commit_right k x p tells)

    abbrev at_p : ℕ → Q m same objects h trace → Bool
    at_p p q = q.at == p

    commits_right : CommitsRight m objects h trace
    commits_right = record {
      with_puts = λ k x p tells some.
          committed k x p (if_yes (has_items m (puts m same objects h trace k x)) (with_test k x p) (without_test k x p) (has_some m (puts_of m trace k x) some) (commit_right k x p tells));
      at_snapshot = λ k x p o q t a tells none asked.
          let b = and_both (list_all (at_p p) (asks m same objects h trace k x)) (has_items m (asks m same objects h trace k x) || (p == 0)) (without k x p tells none) in
          sym (same_number t p (all_pass (at_p p) (asks m same objects h trace k x) b.0 (question o q t a) (in_asks k x o q t a asked)));
      at_zero = λ k x p tells none silent.
          let b = and_both (list_all (at_p p) (asks m same objects h trace k x)) (has_items m (asks m same objects h trace k x) || (p == 0)) (without k x p tells none) in
          same_number p 0 (or_second (has_items m (asks m same objects h trace k x)) (p == 0)
          (has_nothing m (asks m same objects h trace k x) (λ q i. silent q.oid q.ask q.at q.ans (tells_of k x tells.number q i))) b.1);
    }

    -- aborts

    has_none : (k x : ℕ) → has_entry m same objects h trace k x h ≡ false → HasNone m h k x
    has_none k x e d here of = no_pass (entry_of m same objects h trace k x) h e d (has_contained h d here) (entry_is d k x of)

    abort_right : (k x p : ℕ) (o : Oid) (part : Part) (seen now : ℕ) → Tells m trace k x (told.Aborted p o part seen now)
        → (has_entry m same objects h trace k x h ≡ false) × (list_any (explains m same objects h trace p o part seen now) (asks m same objects h trace k x) ≡ true)
    abort_right k x p o part seen now tells =
        let f = told_right k x (told.Aborted p o part seen now) tells in
        let b = (first_fine C (abort_is_right m same objects h trace k x p o part seen now) [] f.right).0 in
        let c = and_both (not (has_entry m same objects h trace k x h)) (list_any (explains m same objects h trace p o part seen now) (asks m same objects h trace k x)) b in
        (not_true (has_entry m same objects h trace k x h) c.0, c.1)

    aborted : (k x p : ℕ) (o : Oid) (part : Part) (seen now : ℕ) → Tells m trace k x (told.Aborted p o part seen now) → IsAborted m h trace k x p o part seen now
    aborted k x p o part seen now tells =
        let f = found (explains m same objects h trace p o part seen now) (asks m same objects h trace k x) (abort_right k x p o part seen now tells).1 in
        let q = f.it in
        let e1 = oid_eq q.oid o in
        let e2 = part_eq (m.look q.ask) part in
        let e3 = list_any (is_cause m same objects h trace p o part now q.at) h in
        let e4 = seen == changed m h o part q.at in
        let e5 = now == changed m h o part p in
        let a5 = and_both (e1 && e2 && e3 && e4) e5 f.passes in
        let a4 = and_both (e1 && e2 && e3) e4 a5.0 in
        let a3 = and_both (e1 && e2) e3 a4.0 in
        let a2 = and_both e1 e2 a3.0 in
        let c = found (is_cause m same objects h trace p o part now q.at) h a3.1 in
        let d = c.it in
        let b1 = d.stamp + 1 == now in
        let b2 = changes m d o part in
        let b3 = nat_le q.at d.stamp in
        let b4 = nat_lt d.stamp p in
        let c4 = and_both (b1 && b2 && b3) b4 c.passes in
        let c3 = and_both (b1 && b2) b3 c4.0 in
        let c2 = and_both b1 b2 c3.0 in
        record {
          ask = q.ask;
          snapshot = q.at;
          answer = q.ans;
          asked = subst (λ (y : Oid). Tells m trace k x (told.Asked y q.ask q.at q.ans)) (same_oid q.oid o a2.0) (tells_of k x tells.number q f.has);
          looks = same_part (m.look q.ask) part a2.1;
          change = d;
          here = contained_has h d c.has;
          stamp = same_number (d.stamp + 1) now c2.0;
          changes_it = c2.1;
          after = le_of q.at d.stamp c3.1;
          before = lt_of d.stamp p c4.1;
          was = same_number seen (changed m h o part q.at) a4.1;
          is = same_number now (changed m h o part p) a5.1;
        }

    aborts_right : AbortsRight m h trace
    aborts_right = record {
      none = λ k x p o part seen now tells. has_none k x (abort_right k x p o part seen now tells).0;
      cause = aborted;
    }

    -- entries

    entry_right : (d : DoneOf m) → Contains h d → (before : History m) × RightEntry before d
    entry_right d here = let f = entry_at m same objects h trace [] h d fine.entries (has_contained h d here) in (f.before, right_entry f.before d f.fine)

    entry_ended : (d : DoneOf m) → Contains h d → Tells m trace d.client d.number told.End
    entry_ended d here =
        let r = (entry_right d here).1 in
        let k = d.client in
        let x = d.number in
        let b = and_both (nat_lt 0 x) (list_any (λ (t : MarkOf m). is_of m same objects h trace k x t && is_end m same objects h trace t.what) trace) r.ended in
        let f = found (λ (t : MarkOf m). is_of m same objects h trace k x t && is_end m same objects h trace t.what) trace b.1 in
        let c = and_both (is_of m same objects h trace k x f.it) (is_end m same objects h trace f.it.what) f.passes in
        let e = mark_is m same objects h trace f.it k x told.End c.0 (end_is m same objects h trace f.it.what c.1) in
        record { number = lt_of 0 x b.0; event = f.it.event; here = contained_has trace (mark m same objects h trace f.it.event k x told.End) (subst (λ (t : MarkOf m). Has trace t) e f.has) }

    stamped_at : (k x p : ℕ) (d : DoneOf m) → only_at m same objects h trace k x p ≡ true → Contains h d → IsOf m d k x → d.stamp ≡ p
    stamped_at k x p d e here of =
        let b = all_pass (λ (y : DoneOf m). not (entry_of m same objects h trace k x y) || (y.stamp == p)) h e d (has_contained h d here) in
        same_number d.stamp p (or_then (entry_of m same objects h trace k x d) (d.stamp == p) (entry_is d k x of) b)

    says_fine : (k x : ℕ) (w : WhatOf m) → Says m trace k x w → (before : Trace m) × (first_failed (tests m same objects h trace before k x (nat_lt 0 x) w) ≡ None)
    says_fine k x w s =
        let r = reply_at m same objects h trace [] trace (mark m same objects h trace s.event k x w) fine.replies (has_contained trace (mark m same objects h trace s.event k x w) s.here) in
        (r.before, r.fine)

    fate_fine : (k x p : ℕ) (b : Bool) → Says m trace k x (told.Fate p (Some b)) → fate_is_right m same objects h trace p (Some b) ≡ true
    fate_fine k x p b s = (first_fine D (fate_is_right m same objects h trace p (Some b)) [] (says_fine k x (told.Fate p (Some b)) s).1).0

    decided_fine : (k x p : ℕ) (b : Bool) → Says m trace k x (told.Decided p (Some b)) → fate_is_right m same objects h trace p (Some b) ≡ true
    decided_fine k x p b s = (first_fine D (fate_is_right m same objects h trace p (Some b)) [] (says_fine k x (told.Decided p (Some b)) s).1).0

    entries_right : EntriesRight m objects h trace
    entries_right = record {
      ended = entry_ended;
      writes = λ d here. (writes_decide exact.ops d.writes (puts_of m trace d.client d.number)).0 (entry_right d here).1.writes;
      once = λ d e here there of. once_in [] h fine.entries d e (has_contained h d here) (has_contained h e there) of;
      asks = λ d here. holds_all d.client d.number d.stamp (entry_right d here).1.asks;
      unsure = λ k x p q d tells here of.
          stamped_at k x p d (first_fine D (only_at m same objects h trace k x p) [] (told_right k x (told.Unsure p q) tells).right).0 here of;
      forgotten = λ k x p n d tells here of.
          stamped_at k x p d (first_fine D (only_at m same objects h trace k x p) [] (told_right k x (told.Refused (cause.Forgotten p n)) tells).right).0 here of;
      dropped = λ k x tells.
          has_none k x (not_true (has_entry m same objects h trace k x h) (first_fine D (not (has_entry m same objects h trace k x h)) [] (told_right k x told.Dropped tells).right).0);
      fate_yes = λ k x p s. fate_fine k x p true s;
      fate_no = λ k x p s. not_true (is_stamp m h p) (fate_fine k x p false s);
      decided_yes = λ k x p s. decided_fine k x p true s;
      decided_no = λ k x p s. not_true (is_stamp m h p) (decided_fine k x p false s);
    }

    -- order

    place_above : (k x n : ℕ) → Place m h trace k x n → bound m same objects h trace k x ≤ n
    place_above k x n (Snapshot o q t a tells) =
        let f = told_right k x (told.Asked o q t a) tells in
        le_of (bound m same objects h trace k x) t (asked_right f.before k x o q t a f.right).1.1
    place_above k x n (Stamp d here of) =
        subst (λ (j : ℕ). bound m same objects h trace j x ≤ d.stamp) of.0
        (subst (λ (j : ℕ). bound m same objects h trace d.client j ≤ d.stamp) of.1
        (le_of (bound m same objects h trace d.client d.number) d.stamp (entry_right d here).1.bound))

    in_order : InOrder m h trace
    in_order before after b r p n is begin pos here point place =
        let over : reach r ≤ bound_in m same objects h trace (before ++ b ∷ after) b.client b.tx =
        bound_above before after b r b.client b.tx (begin_mark b begin) (has_contained before r here) in
        let at : reach r ≡ p = ap (λ (o : Option ℕ). or_zero m same objects h trace o) point in
        let all : bound_in m same objects h trace (before ++ b ∷ after) b.client b.tx ≤ n =
        subst (λ (ts : Trace m). bound_in m same objects h trace ts b.client b.tx ≤ n) is (place_above b.client b.tx n place) in
        omega (arith, over, at, all)

    pub legal_of : Legal m objects h trace
    legal_of = record { answers = answers_right; commits = commits_right; aborts = aborts_right; entries = entries_right; order = in_order }
