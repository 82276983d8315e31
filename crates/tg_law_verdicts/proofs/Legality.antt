-- A legal transcript has no fault.
use Rattle.std.proofs.Common.{◌≡◌, ℕ, ◌<◌, ◌≤◌, List, [], ◌∷◌, ◌++◌, Bool, true, false, refl, sym, ap, ◌∙◌, subst, inl, inr, arith}
use Rattle.std.specs.Prelude.{Option, Some, None, Contains, ◌+◌, ◌&&◌, ◌||◌, ◌==◌, not, nat_lt, nat_le, max, ◌≢◌, if◌then◌else◌}
use Rattle.std.specs.List.{list_any, list_all}
use Rattle.tg_base.specs.Orders.{oid_eq}
use Rattle.tg_base.specs.declared.fault.Clause.TheVariants.{A, B, C, D, E}
use Rattle.tg_base.specs.declared.ids.Oid.{Oid}
use Rattle.tg_base.specs.declared.marks.Part.{Part}
use Rattle.tg_kind.specs.Meaning.{Meaning}
use Rattle.tg_model.specs.declared.refusal.Refusal.{Refusal}
use Rattle.tg_model.specs.declared.refusal.Refusal.TheVariants as cause
use Rattle.tg_model.specs.declared.trace.What.TheVariants as told
use Rattle.tg_model.specs.Kinds.{WhatOf, MarkOf, DoneOf}
use Rattle.tg_model.specs.Stores.{History, AllAbove, Rises, answer_at, changes, changed, is_stamp}
use Rattle.tg_model.specs.Traces.{Trace, Says, Tells, puts_of, point_of, has_items, IsOf, HasNone, Place, Snapshot, Stamp}
use Rattle.tg_model.specs.Legal.{Legal, IsCommitted, IsAborted}
use Rattle.tg_model.specs.Verdicts.{Sameness, IsSameness, first_failed, is_of, asks_in, asks, puts, is_begin, is_end, begins, ended, or_zero, bound_in, bound, same_writes, entry_of, has_entry, holds_at, all_hold_at, answer_is_right, commit_is_right, is_cause, explains, abort_is_right, only_at, fate_is_right, entry_is_right, tests, entry_fault}
use Rattle.tg_kind.specs.Parts.{part_eq}
use Rattle.tg_law_verdicts.specs.Laws.{VerdictsAreTrue}
use Rattle.tg_law_verdicts.proofs.Members.{Has, has_left, has_right, has_contained, contained_has, joined, cut_at, contrary, and_both, both_and, not_false, found, passes_somewhere, none_passes, each_passes}
use Rattle.tg_law_verdicts.proofs.Tests.{same_number, number_same, of_le, lt_of, of_lt, oid_same, part_itself, writes_decide}
use Rattle.tg_law_verdicts.proofs.Lines.{fine_first, Replies, Entries, Fine, fine_of, of_fine}
use Rattle.tg_law_verdicts.proofs.Asks.{mark, of_itself, Q, answered, asked_in, begin_is}
use Rattle.tg_law_verdicts.proofs.Found.{legal_of}

nothing_is : (m : Meaning) {X : Type 0} (xs : List X) → has_items m xs ≡ false → xs ≡ []
nothing_is m [] e = refl
nothing_is m (x ∷ xs) e = absurd cc

some_is : (m : Meaning) {X : Type 0} (xs : List X) → has_items m xs ≡ true → xs ≢ []
some_is m xs e none = contrary (has_items m xs) (ap (λ ys. has_items m ys) none) e

either_if : (b x y : Bool) → (b ≡ true → x ≡ true) → (b ≡ false → y ≡ true) → (if b then x else y) ≡ true
either_if true x y yes' no' = yes' refl
either_if false x y yes' no' = no' refl

or_unless : (a b : Bool) → (a ≡ true → b ≡ true) → (not a || b) ≡ true
or_unless true b f = f refl
or_unless false b f = refl

or_else_true : (a b : Bool) → (a ≡ false → b ≡ true) → (a || b) ≡ true
or_else_true true b f = refl
or_else_true false b f = f refl

most_of : (a b n : ℕ) → a ≤ n → b ≤ n → max a b ≤ n
most_of a b n p q = omega (arith, p, q)

module _ (m : Meaning) (same : Sameness m) (objects : List Oid) (h : History m) (trace : Trace m) where
  above_has : (d e : DoneOf m) (es : History m) → AllAbove m d es → Has es e → d.stamp < e.stamp
  above_has d e [] a i = absurd i
  above_has d e (u ∷ es) a (inl s) = subst (λ (y : DoneOf m). d.stamp < y.stamp) (sym s) a.0
  above_has d e (u ∷ es) a (inr i) = above_has d e es a.1 i

  rises_apart : (earlier rest : History m) (d y : DoneOf m) → Rises m (earlier ++ d ∷ rest) → Has earlier y → y.stamp < d.stamp
  rises_apart [] rest d y r i = absurd i
  rises_apart (u ∷ us) rest d y r (inl s) = subst (λ (z : DoneOf m). z.stamp < d.stamp) (sym s) (above_has u d (us ++ d ∷ rest) r.0 (has_right us (d ∷ rest) d (inl refl)))
  rises_apart (u ∷ us) rest d y r (inr i) = rises_apart us rest d y r.1 i

  reach_le : (o : Option ℕ) (n : ℕ) → ((p : ℕ) → o ≡ Some p → p ≤ n) → or_zero m same objects h trace o ≤ n
  reach_le None n f = omega arith
  reach_le (Some p) n f = f p refl

  abbrev question : Oid → m.ask → ℕ → m.answer → Q m same objects h trace
  question o a s r = record { oid = o; ask = a; at = s; ans = r }

  abbrev at_p : ℕ → Q m same objects h trace → Bool
  at_p p q = q.at == p

  bound_step : (a b n : ℕ) (c : Bool) → (c ≡ true → a ≤ n) → b ≤ n → (if c then max a b else 0) ≤ n
  bound_step a b n true f q = most_of a b n (f refl) q
  bound_step a b n false f q = omega arith

  module _ (exact : IsSameness m same) (rises : Rises m h) (legal : Legal m objects h trace) where
    -- the bound is at or below each place

    begun : (k x n : ℕ) → 0 < x → Place m h trace k x n → (pre ts : Trace m) (t : MarkOf m) → trace ≡ pre ++ t ∷ ts → begins m same objects h trace k x ts ≡ true
        → (p : ℕ) → point_of m trace t ≡ Some p → p ≤ n
    begun k x n pos place pre ts t is b p point =
        let f = found (λ (y : MarkOf m). is_of m same objects h trace k x y && is_begin m same objects h trace y.what) ts b in
        let g = f.it in
        let c = and_both (is_of m same objects h trace k x g) (is_begin m same objects h trace g.what) f.passes in
        let e = and_both (g.client == k) (g.tx == x) c.0 in
        let client : g.client ≡ k = same_number g.client k e.0 in
        let number : g.tx ≡ x = same_number g.tx x e.1 in
        let cut = cut_at ts g f.has in
        let whole : trace ≡ (pre ++ t ∷ cut.before) ++ g ∷ cut.after = is ∙ ap (λ (ys : Trace m). pre ++ t ∷ ys) cut.is ∙ sym (append_assoc' pre (t ∷ cut.before) (g ∷ cut.after)) in
        let there : Place m h trace g.client g.tx n = subst (λ (j : ℕ). Place m h trace j g.tx n) (sym client) (subst (λ (j : ℕ). Place m h trace k j n) (sym number) place) in
        let some : 0 < g.tx = subst (λ (j : ℕ). 0 < j) (sym number) pos in
        legal.order (pre ++ t ∷ cut.before) cut.after g t p n whole (begin_is m same objects h trace g.what c.1) some
        (contained_has (pre ++ t ∷ cut.before) t (has_right pre (t ∷ cut.before) t (inl refl))) point there
      where
        append_assoc' : (xs ys zs : Trace m) → (xs ++ ys) ++ zs ≡ xs ++ (ys ++ zs)
        append_assoc' [] ys zs = refl
        append_assoc' (u ∷ us) ys zs = ap (λ ws. u ∷ ws) (append_assoc' us ys zs)

    bound_from : (k x n : ℕ) → 0 < x → Place m h trace k x n → (pre ts : Trace m) → trace ≡ pre ++ ts → bound_in m same objects h trace ts k x ≤ n
    unfolding bound_in
    bound_from k x n pos place pre [] is = omega arith
    bound_from k x n pos place pre (t ∷ ts) is =
        bound_step (or_zero m same objects h trace (point_of m trace t)) (bound_in m same objects h trace ts k x) n (begins m same objects h trace k x ts)
        (λ b. reach_le (point_of m trace t) n (λ p point. begun k x n pos place pre ts t is b p point))
        (bound_from k x n pos place (pre ++ t ∷ []) ts (is ∙ sym (joined pre t ts)))

    bound_least : (k x n : ℕ) → 0 < x → Place m h trace k x n → nat_le (bound m same objects h trace k x) n ≡ true
    bound_least k x n pos place = of_le (bound m same objects h trace k x) n (bound_from k x n pos place [] trace refl)

    -- asks

    in_asks : (k x : ℕ) (o : Oid) (q : m.ask) (t : ℕ) (a : m.answer) → Tells m trace k x (told.Asked o q t a) → Has (asks m same objects h trace k x) (question o q t a)
    in_asks k x o q t a tells = asked_in m same objects h trace trace tells.event k x o q t a (has_contained trace (mark m same objects h trace tells.event k x (told.Asked o q t a)) tells.here)

    tells_in : (ts : Trace m) → ((y : MarkOf m) → Has ts y → Has trace y) → (k x : ℕ) → 0 < x → (q : Q m same objects h trace) → Has (asks_in m same objects h trace ts k x) q → Tells m trace k x (told.Asked q.oid q.ask q.at q.ans)
    tells_in ts within k x pos q i =
        let an = answered m same objects h trace ts k x q i in
        let t = mark m same objects h trace an.event k x (told.Asked q.oid q.ask q.at q.ans) in
        record { number = pos; event = an.event; here = contained_has trace t (within t an.has) }

    tells_of : (k x : ℕ) → 0 < x → (q : Q m same objects h trace) → Has (asks m same objects h trace k x) q → Tells m trace k x (told.Asked q.oid q.ask q.at q.ans)
    tells_of k x pos q i = tells_in trace (λ y j. j) k x pos q i

    hold_all : (k x p : ℕ) → 0 < x → ((o : Oid) (q : m.ask) (t : ℕ) (a : m.answer) → Tells m trace k x (told.Asked o q t a) → (t ≤ p) × (a ≡ answer_at m objects h p o q))
        → all_hold_at m same objects h trace p (asks m same objects h trace k x) ≡ true
    hold_all k x p pos f =
        each_passes (λ (y : Q m same objects h trace). nat_le y.at p && holds_at m same objects h trace p y) (asks m same objects h trace k x)
        (λ q i. let a = f q.oid q.ask q.at q.ans (tells_of k x pos q i) in
        both_and (nat_le q.at p) (holds_at m same objects h trace p q) (of_le q.at p a.0) ((exact.answers q.ans (answer_at m objects h p q.oid q.ask)).1 a.1))

    entry_is : (d : DoneOf m) (k x : ℕ) → IsOf m d k x → entry_of m same objects h trace k x d ≡ true
    entry_is d k x of = both_and (d.client == k) (d.number == x) (number_same d.client k of.0) (number_same d.number x of.1)

    of_entry : (d : DoneOf m) (k x : ℕ) → entry_of m same objects h trace k x d ≡ true → IsOf m d k x
    of_entry d k x e = let p = and_both (d.client == k) (d.number == x) e in (same_number d.client k p.0, same_number d.number x p.1)

    no_entry : (k x : ℕ) → HasNone m h k x → has_entry m same objects h trace k x h ≡ false
    no_entry k x none = none_passes (entry_of m same objects h trace k x) h (λ d i e. none d (contained_has h d i) (of_entry d k x e))

    only_fine : (k x p : ℕ) → ((d : DoneOf m) → Contains h d → IsOf m d k x → d.stamp ≡ p) → only_at m same objects h trace k x p ≡ true
    only_fine k x p f =
        each_passes (λ (d : DoneOf m). not (entry_of m same objects h trace k x d) || (d.stamp == p)) h
        (λ d i. or_unless (entry_of m same objects h trace k x d) (d.stamp == p) (λ e. number_same d.stamp p (f d (contained_has h d i) (of_entry d k x e))))

    -- the tests of a reply

    asked_fine : (earlier : Trace m) → ((y : MarkOf m) → Has earlier y → Has trace y) → (k x : ℕ) (o : Oid) (q : m.ask) (s : ℕ) (a : m.answer) → Tells m trace k x (told.Asked o q s a)
        → first_failed (tests m same objects h trace earlier k x true (told.Asked o q s a)) ≡ None
    asked_fine earlier within k x o q s a tells =
        fine_first A (answer_is_right m same objects h trace (question o q s a) (asks_in m same objects h trace earlier k x)) ((E, nat_le (bound m same objects h trace k x) s) ∷ [])
        (both_and (holds_at m same objects h trace s (question o q s a)) (list_all (at_p s) (asks_in m same objects h trace earlier k x))
        ((exact.answers a (answer_at m objects h s o q)).1 (legal.answers.at_snapshot k x o q s a tells))
        (each_passes (at_p s) (asks_in m same objects h trace earlier k x)
        (λ r i. number_same r.at s (legal.answers.one_snapshot k x r.oid o r.ask q r.at s r.ans a (tells_in earlier within k x tells.number r i) tells))))
        (fine_first E (nat_le (bound m same objects h trace k x) s) [] (bound_least k x s tells.number (Snapshot o q s a tells)) refl)

    abbrev commit_entry : ℕ → ℕ → ℕ → DoneOf m → Bool
    commit_entry k x p d = (d.stamp == p) && entry_of m same objects h trace k x d && same_writes m same objects h trace d.writes (puts m same objects h trace k x)

    commit_found : (k x p : ℕ) → 0 < x → IsCommitted m objects h trace k x p
        → (list_any (commit_entry k x p) h && all_hold_at m same objects h trace p (asks m same objects h trace k x)) ≡ true
    commit_found k x p pos c =
        let d = c.done in
        both_and (list_any (commit_entry k x p) h) (all_hold_at m same objects h trace p (asks m same objects h trace k x))
        (passes_somewhere (commit_entry k x p) h d (has_contained h d c.here)
        (both_and ((d.stamp == p) && entry_of m same objects h trace k x d) (same_writes m same objects h trace d.writes (puts m same objects h trace k x))
        (both_and (d.stamp == p) (entry_of m same objects h trace k x d) (number_same d.stamp p c.stamp) (entry_is d k x c.of))
        ((writes_decide exact.ops d.writes (puts_of m trace k x)).1 c.writes)))
        (hold_all k x p pos c.asks)

    silent : (k x : ℕ) → has_items m (asks m same objects h trace k x) ≡ false → (o : Oid) (q : m.ask) (t : ℕ) (a : m.answer) → Tells m trace k x (told.Asked o q t a) → ⊥
    silent k x none o q t a tells = subst (λ (qs : List (Q m same objects h trace)). Has qs (question o q t a)) (nothing_is m (asks m same objects h trace k x) none) (in_asks k x o q t a tells)

    commit_fine : (k x p : ℕ) → Tells m trace k x (told.Committed p) → commit_is_right m same objects h trace k x p ≡ true
    commit_fine k x p tells =
        either_if (has_items m (puts m same objects h trace k x)) (list_any (commit_entry k x p) h && all_hold_at m same objects h trace p (asks m same objects h trace k x))
        (list_all (at_p p) (asks m same objects h trace k x) && (has_items m (asks m same objects h trace k x) || (p == 0)))
        (λ some. commit_found k x p tells.number (legal.commits.with_puts k x p tells (some_is m (puts_of m trace k x) some)))
        (λ none.
        both_and (list_all (at_p p) (asks m same objects h trace k x)) (has_items m (asks m same objects h trace k x) || (p == 0))
        (each_passes (at_p p) (asks m same objects h trace k x)
        (λ q i. number_same q.at p (sym (legal.commits.at_snapshot k x p q.oid q.ask q.at q.ans tells (nothing_is m (puts_of m trace k x) none) (tells_of k x tells.number q i)))))
        (or_else_true (has_items m (asks m same objects h trace k x)) (p == 0)
        (λ nothing. number_same p 0 (legal.commits.at_zero k x p tells (nothing_is m (puts_of m trace k x) none) (silent k x nothing)))))

    abort_found : (k x p : ℕ) (o : Oid) (part : Part) (seen now : ℕ) → IsAborted m h trace k x p o part seen now
        → list_any (explains m same objects h trace p o part seen now) (asks m same objects h trace k x) ≡ true
    abort_found k x p o part seen now c =
        let q = question o c.ask c.snapshot c.answer in
        let d = c.change in
        let e1 = oid_eq o o in
        let e2 = part_eq (m.look c.ask) part in
        let e3 = list_any (is_cause m same objects h trace p o part now c.snapshot) h in
        let e4 = seen == changed m h o part c.snapshot in
        let e5 = now == changed m h o part p in
        let b1 = d.stamp + 1 == now in
        let b2 = changes m d o part in
        let b3 = nat_le c.snapshot d.stamp in
        let b4 = nat_lt d.stamp p in
        let cause' = passes_somewhere (is_cause m same objects h trace p o part now c.snapshot) h d (has_contained h d c.here)
        (both_and (b1 && b2 && b3) b4 (both_and (b1 && b2) b3 (both_and b1 b2 (number_same (d.stamp + 1) now c.stamp) c.changes_it) (of_le c.snapshot d.stamp c.after)) (of_lt d.stamp p c.before)) in
        let looks = subst (λ (y : Part). part_eq (m.look c.ask) y ≡ true) c.looks (part_itself (m.look c.ask)) in
        passes_somewhere (explains m same objects h trace p o part seen now) (asks m same objects h trace k x) q (in_asks k x o c.ask c.snapshot c.answer c.asked)
        (both_and (e1 && e2 && e3 && e4) e5
        (both_and (e1 && e2 && e3) e4 (both_and (e1 && e2) e3 (both_and e1 e2 (oid_same o o refl) looks) cause') (number_same seen (changed m h o part c.snapshot) c.was))
        (number_same now (changed m h o part p) c.is))

    abort_fine : (k x p : ℕ) (o : Oid) (part : Part) (seen now : ℕ) → Tells m trace k x (told.Aborted p o part seen now) → abort_is_right m same objects h trace k x p o part seen now ≡ true
    abort_fine k x p o part seen now tells =
        both_and (not (has_entry m same objects h trace k x h)) (list_any (explains m same objects h trace p o part seen now) (asks m same objects h trace k x))
        (not_false (has_entry m same objects h trace k x h) (no_entry k x (legal.aborts.none k x p o part seen now tells)))
        (abort_found k x p o part seen now (legal.aborts.cause k x p o part seen now tells))

    refused_fine : (earlier : Trace m) (k x : ℕ) (why : Refusal) → Tells m trace k x (told.Refused why) → first_failed (tests m same objects h trace earlier k x true (told.Refused why)) ≡ None
    refused_fine earlier k x (cause.Forgotten p n) tells =
        fine_first D (only_at m same objects h trace k x p) [] (only_fine k x p (λ d here of. legal.entries.forgotten k x p n d tells here of)) refl
    refused_fine earlier k x (cause.Busy a) tells = refl
    refused_fine earlier k x cause.NoTx tells = refl
    refused_fine earlier k x cause.TxOpen tells = refl
    refused_fine earlier k x (cause.NotHosted a) tells = refl
    refused_fine earlier k x (cause.NotRegistered a) tells = refl
    refused_fine earlier k x (cause.WrongKind a) tells = refl
    refused_fine earlier k x (cause.TooLarge a) tells = refl
    refused_fine earlier k x (cause.Undecided a b) tells = refl
    refused_fine earlier k x (cause.LogFull a) tells = refl
    refused_fine earlier k x (cause.NoReplica a b) tells = refl
    refused_fine earlier k x (cause.Returned a) tells = refl
    refused_fine earlier k x (cause.Overtaken a) tells = refl
    refused_fine earlier k x (cause.OpenDecision a) tells = refl
    refused_fine earlier k x (cause.NoCheckpoint a) tells = refl
    refused_fine earlier k x (cause.TooMany a) tells = refl
    refused_fine earlier k x (cause.NotClosed a) tells = refl
    refused_fine earlier k x (cause.NoStripe a b) tells = refl
    refused_fine earlier k x (cause.InChain a) tells = refl
    refused_fine earlier k x (cause.NotWhole a b) tells = refl
    refused_fine earlier k x (cause.Ahead a) tells = refl

    fate_fine : (k x p : ℕ) (b : Option Bool) → Says m trace k x (told.Fate p b) → fate_is_right m same objects h trace p b ≡ true
    fate_fine k x p None says = refl
    fate_fine k x p (Some true) says = legal.entries.fate_yes k x p says
    fate_fine k x p (Some false) says = not_false (is_stamp m h p) (legal.entries.fate_no k x p says)

    decided_fine : (k x p : ℕ) (b : Option Bool) → Says m trace k x (told.Decided p b) → fate_is_right m same objects h trace p b ≡ true
    decided_fine k x p None says = refl
    decided_fine k x p (Some true) says = legal.entries.decided_yes k x p says
    decided_fine k x p (Some false) says = not_false (is_stamp m h p) (legal.entries.decided_no k x p says)

    tells_from : (k x : ℕ) (w : WhatOf m) → nat_lt 0 x ≡ true → Says m trace k x w → Tells m trace k x w
    tells_from k x w pos says = record { number = lt_of 0 x pos; event = says.event; here = says.here }

    told_fine : (earlier : Trace m) → ((y : MarkOf m) → Has earlier y → Has trace y) → (k x : ℕ) (b : Bool) (w : WhatOf m) → nat_lt 0 x ≡ b → Says m trace k x w
        → first_failed (tests m same objects h trace earlier k x b w) ≡ None
    told_fine earlier within k x b (told.Fate p f) pos says = fine_first D (fate_is_right m same objects h trace p f) [] (fate_fine k x p f says) refl
    told_fine earlier within k x b (told.Decided p f) pos says = fine_first D (fate_is_right m same objects h trace p f) [] (decided_fine k x p f says) refl
    told_fine earlier within k x true (told.Asked o q s a) pos says = asked_fine earlier within k x o q s a (tells_from k x (told.Asked o q s a) pos says)
    told_fine earlier within k x true (told.Committed p) pos says =
        fine_first B (commit_is_right m same objects h trace k x p) [] (commit_fine k x p (tells_from k x (told.Committed p) pos says)) refl
    told_fine earlier within k x true (told.Aborted p o part seen now) pos says =
        fine_first C (abort_is_right m same objects h trace k x p o part seen now) [] (abort_fine k x p o part seen now (tells_from k x (told.Aborted p o part seen now) pos says)) refl
    told_fine earlier within k x true (told.Unsure p q) pos says =
        fine_first D (only_at m same objects h trace k x p) [] (only_fine k x p (λ d here of. legal.entries.unsure k x p q d (tells_from k x (told.Unsure p q) pos says) here of)) refl
    told_fine earlier within k x true (told.Refused why) pos says = refused_fine earlier k x why (tells_from k x (told.Refused why) pos says)
    told_fine earlier within k x true told.Dropped pos says =
        fine_first D (not (has_entry m same objects h trace k x h)) []
        (not_false (has_entry m same objects h trace k x h) (no_entry k x (legal.entries.dropped k x (tells_from k x told.Dropped pos says)))) refl
    told_fine earlier within k x true told.Begin pos says = refl
    told_fine earlier within k x true (told.Put a b) pos says = refl
    told_fine earlier within k x true told.End pos says = refl
    told_fine earlier within k x true (told.Hosted a) pos says = refl
    told_fine earlier within k x true (told.Saved a b c) pos says = refl
    told_fine earlier within k x true (told.Marked a b) pos says = refl
    told_fine earlier within k x true (told.Trimmed a) pos says = refl
    told_fine earlier within k x true (told.Installed a) pos says = refl
    told_fine earlier within k x true (told.Copied a b c) pos says = refl
    told_fine earlier within k x true (told.Past a b c d) pos says = refl
    told_fine earlier within k x true (told.Rescued a b) pos says = refl
    told_fine earlier within k x false told.Begin pos says = refl
    told_fine earlier within k x false (told.Put a b) pos says = refl
    told_fine earlier within k x false told.End pos says = refl
    told_fine earlier within k x false (told.Hosted a) pos says = refl
    told_fine earlier within k x false (told.Saved a b c) pos says = refl
    told_fine earlier within k x false (told.Marked a b) pos says = refl
    told_fine earlier within k x false (told.Trimmed a) pos says = refl
    told_fine earlier within k x false (told.Installed a) pos says = refl
    told_fine earlier within k x false (told.Copied a b c) pos says = refl
    told_fine earlier within k x false (told.Past a b c d) pos says = refl
    told_fine earlier within k x false (told.Rescued a b) pos says = refl
    told_fine earlier within k x false (told.Asked a b c d) pos says = refl
    told_fine earlier within k x false (told.Committed a) pos says = refl
    told_fine earlier within k x false (told.Aborted a b c d f) pos says = refl
    told_fine earlier within k x false (told.Unsure a b) pos says = refl
    told_fine earlier within k x false told.Dropped pos says = refl
    told_fine earlier within k x false (told.Refused a) pos says = refl

    replies_fine : (earlier ts : Trace m) → trace ≡ earlier ++ ts → Replies m same objects h trace earlier ts
    replies_fine earlier [] is = tt
    replies_fine earlier (t ∷ ts) is = (
      told_fine earlier (λ y i. subst (λ (ys : Trace m). Has ys y) (sym is) (has_left earlier (t ∷ ts) y i)) t.client t.tx (nat_lt 0 t.tx) t.what refl
          (record { event = t.event; here = contained_has trace t (subst (λ (ys : Trace m). Has ys t) (sym is) (has_right earlier (t ∷ ts) t (inl refl))) }),
      replies_fine (earlier ++ t ∷ []) ts (is ∙ sym (joined earlier t ts)),
    )

    -- the tests of an entry

    entry_new : (earlier rest : History m) (d : DoneOf m) → h ≡ earlier ++ d ∷ rest → has_entry m same objects h trace d.client d.number earlier ≡ false
    entry_new earlier rest d is =
        none_passes (entry_of m same objects h trace d.client d.number) earlier
        (λ y i e.
        let here : Has h y = subst (λ (ys : History m). Has ys y) (sym is) (has_left earlier (d ∷ rest) y i) in
        let there : Has h d = subst (λ (ys : History m). Has ys d) (sym is) (has_right earlier (d ∷ rest) d (inl refl)) in
        let one : d ≡ y = legal.entries.once d y (contained_has h d there) (contained_has h y here) (of_entry y d.client d.number e) in
        let less = rises_apart earlier rest d y (subst (λ (ys : History m). Rises m ys) is rises) i in
        let alike : d.stamp ≡ y.stamp = ap (λ (z : DoneOf m). z.stamp) one in
        omega (arith, less, alike))

    entry_fine : (earlier rest : History m) (d : DoneOf m) → h ≡ earlier ++ d ∷ rest → entry_fault m same objects h trace earlier d ≡ None
    entry_fine earlier rest d is =
        let there = contained_has h d (subst (λ (ys : History m). Has ys d) (sym is) (has_right earlier (d ∷ rest) d (inl refl))) in
        let k = d.client in
        let x = d.number in
        let tells = legal.entries.ended d there in
        let e1 = ended m same objects h trace k x in
        let e2 = same_writes m same objects h trace d.writes (puts m same objects h trace k x) in
        let e3 = not (has_entry m same objects h trace k x earlier) in
        let e4 = all_hold_at m same objects h trace d.stamp (asks m same objects h trace k x) in
        let t = mark m same objects h trace tells.event k x told.End in
        let ends = both_and (nat_lt 0 x) (list_any (λ (y : MarkOf m). is_of m same objects h trace k x y && is_end m same objects h trace y.what) trace) (of_lt 0 x tells.number)
        (passes_somewhere (λ (y : MarkOf m). is_of m same objects h trace k x y && is_end m same objects h trace y.what) trace t (has_contained trace t tells.here)
        (both_and (is_of m same objects h trace k x t) true (of_itself m same objects h trace tells.event k x told.End) refl)) in
        fine_first D (entry_is_right m same objects h trace earlier d) ((E, nat_le (bound m same objects h trace k x) d.stamp) ∷ [])
        (both_and (e1 && e2 && e3) e4
        (both_and (e1 && e2) e3 (both_and e1 e2 ends ((writes_decide exact.ops d.writes (puts_of m trace k x)).1 (legal.entries.writes d there)))
        (not_false (has_entry m same objects h trace k x earlier) (entry_new earlier rest d is)))
        (hold_all k x d.stamp tells.number (legal.entries.asks d there)))
        (fine_first E (nat_le (bound m same objects h trace k x) d.stamp) [] (bound_least k x d.stamp tells.number (Stamp d there (refl, refl))) refl)

    entries_fine : (earlier ds : History m) → h ≡ earlier ++ ds → Entries m same objects h trace earlier ds
    entries_fine earlier [] is = tt
    entries_fine earlier (d ∷ ds) is = (entry_fine earlier ds d is, entries_fine (earlier ++ d ∷ []) ds (is ∙ sym (joined earlier d ds)))

    pub fine_if_legal : Fine m same objects h trace
    fine_if_legal = record { replies = replies_fine [] trace refl; entries = entries_fine [] h refl }

pub verdicts_are_true : (m : Meaning) → VerdictsAreTrue m
verdicts_are_true m same objects h trace exact rises =
    ((λ e. legal_of m same objects h trace exact (fine_of m same objects h trace e)), (λ legal. of_fine m same objects h trace (fine_if_legal m same objects h trace exact rises legal)))
