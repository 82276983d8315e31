-- The judge's tests are those of the definitions, and so is the verdict.
use Rattle.std.proofs.Common.{◌≡◌, ℕ, suc, ◌+◌, List, [], ◌∷◌, ◌++◌, length, Bool, true, false, refl, sym, ap, ◌∙◌, arith}
use Rattle.std.specs.Prelude.{not, ◌&&◌, ◌||◌, ◌==◌, nat_lt, nat_le, Option, Some, None, Result, Ok, Err, IfOk, if◌then◌else◌}
use Rattle.std.specs.List.{list_any, list_all}
use Rattle.tg_base.specs.declared.fault.Clause.{Clause}
use Rattle.tg_base.specs.declared.fault.Clause.TheVariants.{A, B, C, D, E}
use Rattle.tg_base.specs.declared.ids.Oid.{Oid}
use Rattle.tg_base.specs.declared.marks.Part.{Part}
use Rattle.tg_kind.specs.Meaning.{Meaning}
use Rattle.tg_model.specs.declared.refusal.Refusal.{Refusal}
use Rattle.tg_model.specs.declared.refusal.Refusal.TheVariants as cause
use Rattle.tg_model.specs.declared.trace.What.TheVariants as told
use Rattle.tg_model.specs.Kinds.{WhatOf, MarkOf, DoneOf}
use Rattle.tg_model.specs.Stores.{History}
use Rattle.tg_model.specs.Traces.{Trace, puts_of, has_items}
use Rattle.tg_model.specs.Verdicts as judge
use Rattle.tg_audit.proofs.Bounds.{bound_is}
use Rattle.tg_audit.proofs.Links.{all_asks, any_asks, test_of}
use Rattle.tg_audit.proofs.Lists.{any_same}
use Rattle.tg_audit.specs.declared.verdict.Verdict.{Verdict}
use Rattle.tg_audit.specs.declared.verdict.Verdict.TheVariants.{Legal, Illegal}
use Rattle.tg_audit.specs.Judging.{holds, holds_still, snapshot_is, any_ask, meets, is_end, ends_by, commits, entry_of, failed, or_later, first_fault, told_at}
use Rattle.tg_audit.specs.Ruling as rule
use Rattle.tg_audit.specs.Told.{sameness, told_of, verdict_of}

module _ (m : Meaning) (ops : m.op → m.op → Bool) (answers : m.answer → m.answer → Bool) (objects : List Oid) (h : History m) (trace : Trace m) where
  abbrev same : judge.Sameness m
  same = sameness m ops answers

  abbrev Q : Type 0
  Q = judge.Question m same objects h trace

  abbrev asked : Trace m → ℕ → ℕ → List Q
  asked ts k x = judge.asks_in m same objects h trace ts k x

  -- Tests.

  hold_is : (k x p : ℕ) → judge.all_hold_at m same objects h trace p (asked trace k x) ≡ rule.all_hold m ops answers objects h trace k x p
  hold_is k x p = all_asks m same objects h trace (holds_still m answers objects h p) k x trace

  at_is : (ts : Trace m) (k x p : ℕ) → list_all (λ (q : Q). q.at == p) (asked ts k x) ≡ rule.all_at m ops answers objects h trace ts k x p
  at_is ts k x p = all_asks m same objects h trace (snapshot_is m p) k x ts

  answer_is : (earlier : Trace m) (k x : ℕ) (o : Oid) (q : m.ask) (t : ℕ) (a : m.answer)
      → judge.answer_is_right m same objects h trace (record { oid = o; ask = q; at = t; ans = a }) (asked earlier k x) ≡ rule.right_answer m ops answers objects h trace earlier k x o q t a
  answer_is earlier k x o q t a = ap (λ b. holds m answers objects h t o q a && b) (at_is earlier k x t)

  some_is : (qs : List Q) → has_items m qs ≡ list_any (test_of m same objects h trace (any_ask m)) qs
  some_is [] = refl
  some_is (q ∷ qs) = refl

  commit_by : (k x p : ℕ) (b : Bool) →
      (if b then list_any (commits m ops trace k x p) h && judge.all_hold_at m same objects h trace p (asked trace k x)
      else list_all (λ (q : Q). q.at == p) (asked trace k x) && (has_items m (asked trace k x) || (p == 0)))
      ≡ (if b then rule.right_write m ops answers objects h trace k x p else rule.right_read m ops answers objects h trace k x p)
  commit_by k x p true = ap (λ b. list_any (commits m ops trace k x p) h && b) (hold_is k x p)
  commit_by k x p false =
      ap (λ b. b && (has_items m (asked trace k x) || (p == 0))) (at_is trace k x p)
      ∙ ap (λ b. rule.all_at m ops answers objects h trace trace k x p && (b || (p == 0))) (some_is (asked trace k x) ∙ any_asks m same objects h trace (any_ask m) k x trace)

  commit_is : (k x p : ℕ) → judge.commit_is_right m same objects h trace k x p ≡ rule.right_commit m ops answers objects h trace k x p
  unfolding rule.right_commit
  commit_is k x p = commit_by k x p (has_items m (puts_of m trace k x))

  abort_is : (k x p : ℕ) (o : Oid) (part : Part) (seen now : ℕ) → judge.abort_is_right m same objects h trace k x p o part seen now ≡ rule.right_abort m ops answers objects h trace k x p o part seen now
  unfolding rule.right_abort
  abort_is k x p o part seen now =
      ap (λ b. not (list_any (entry_of m k x) h) && b) (any_asks m same objects h trace (rule.explains m ops answers objects h trace p o part seen now) k x trace)

  fate_is : (p : ℕ) (f : Option Bool) → judge.fate_is_right m same objects h trace p f ≡ rule.right_fate m ops answers objects h trace p f
  fate_is p None = refl
  fate_is p (Some true) = refl
  fate_is p (Some false) = refl

  bound_same : (k x : ℕ) → judge.bound m same objects h trace k x ≡ rule.reach_before m ops answers objects h trace k x
  unfolding rule.reach_before
  bound_same k x = sym (bound_is m same objects h trace k x trace)

  end_same : (w : WhatOf m) → judge.is_end m same objects h trace w ≡ is_end m w
  end_same w = grind arith

  ended_is : (k x : ℕ) → judge.ended m same objects h trace k x ≡ (nat_lt 0 x && list_any (ends_by m k x) trace)
  ended_is k x =
      ap (λ b. nat_lt 0 x && b) (any_same (λ (t : MarkOf m). judge.is_of m same objects h trace k x t && judge.is_end m same objects h trace t.what) (ends_by m k x)
      (λ t. ap (λ b. judge.is_of m same objects h trace k x t && b) (end_same t.what)) trace)

  entry_is : (earlier : History m) (d : DoneOf m) → judge.entry_is_right m same objects h trace earlier d ≡ rule.right_entry m ops answers objects h trace earlier d
  entry_is earlier d =
      ap (λ b. b && judge.same_writes m same objects h trace d.writes (puts_of m trace d.client d.number) && not (judge.has_entry m same objects h trace d.client d.number earlier)
      && judge.all_hold_at m same objects h trace d.stamp (asked trace d.client d.number)) (ended_is d.client d.number)
      ∙ ap (λ b. nat_lt 0 d.number && list_any (ends_by m d.client d.number) trace && judge.same_writes m same objects h trace d.writes (puts_of m trace d.client d.number)
      && not (judge.has_entry m same objects h trace d.client d.number earlier) && b) (hold_is d.client d.number d.stamp)

  -- Clauses.

  one_failed : (c : Clause) (b : Bool) → judge.first_failed ((c, b) ∷ []) ≡ failed c b
  one_failed c true = refl
  one_failed c false = refl

  two_failed : (c : Clause) (a b : Bool) → judge.first_failed ((c, a) ∷ (E, b) ∷ []) ≡ (if a then failed E b else Some c)
  two_failed c true true = refl
  two_failed c true false = refl
  two_failed c false b = refl

  by_cause : (earlier : Trace m) (k x : ℕ) (why : Refusal)
      → judge.first_failed (judge.tests m same objects h trace earlier k x true (told.Refused why)) ≡ rule.transaction_fault m ops answers objects h trace earlier k x (told.Refused why)
  unfolding rule.transaction_fault
  by_cause earlier k x (cause.Forgotten p n) = one_failed D (rule.right_place m ops answers objects h trace k x p)
  by_cause earlier k x (cause.Busy a) = refl
  by_cause earlier k x cause.NoTx = refl
  by_cause earlier k x cause.TxOpen = refl
  by_cause earlier k x (cause.NotHosted a) = refl
  by_cause earlier k x (cause.NotRegistered a) = refl
  by_cause earlier k x (cause.WrongKind a) = refl
  by_cause earlier k x (cause.TooLarge a) = refl
  by_cause earlier k x (cause.Undecided a b) = refl
  by_cause earlier k x (cause.LogFull a) = refl
  by_cause earlier k x (cause.NoReplica a b) = refl
  by_cause earlier k x (cause.Returned a) = refl
  by_cause earlier k x (cause.Overtaken a) = refl
  by_cause earlier k x (cause.OpenDecision a) = refl
  by_cause earlier k x (cause.NoCheckpoint a) = refl
  by_cause earlier k x (cause.TooMany a) = refl
  by_cause earlier k x (cause.NotClosed a) = refl
  by_cause earlier k x (cause.NoStripe a b) = refl
  by_cause earlier k x (cause.InChain a) = refl
  by_cause earlier k x (cause.NotWhole a b) = refl
  by_cause earlier k x (cause.Ahead a) = refl

  -- of a transaction, or of none
  by_number : (earlier : Trace m) (k x : ℕ) (b : Bool) (w : WhatOf m)
      → judge.first_failed (judge.tests m same objects h trace earlier k x b w) ≡ rule.number_fault m ops answers objects h trace earlier k x b w
  unfolding rule.transaction_fault rule.answer_fault
  by_number earlier k x b (told.Fate p f) = one_failed D (judge.fate_is_right m same objects h trace p f) ∙ ap (failed D) (fate_is p f)
  by_number earlier k x b (told.Decided p f) = one_failed D (judge.fate_is_right m same objects h trace p f) ∙ ap (failed D) (fate_is p f)
  by_number earlier k x true (told.Asked o q t a) =
      two_failed A (judge.answer_is_right m same objects h trace (record { oid = o; ask = q; at = t; ans = a }) (asked earlier k x)) (nat_le (judge.bound m same objects h trace k x) t)
      ∙ ap (λ b. if b then failed E (nat_le (judge.bound m same objects h trace k x) t) else Some A) (answer_is earlier k x o q t a)
      ∙ ap (λ n. if rule.right_answer m ops answers objects h trace earlier k x o q t a then failed E (nat_le n t) else Some A) (bound_same k x)
  by_number earlier k x true (told.Committed p) = one_failed B (judge.commit_is_right m same objects h trace k x p) ∙ ap (failed B) (commit_is k x p)
  by_number earlier k x true (told.Aborted p o part seen now) =
      one_failed C (judge.abort_is_right m same objects h trace k x p o part seen now) ∙ ap (failed C) (abort_is k x p o part seen now)
  by_number earlier k x true (told.Unsure p q) = one_failed D (rule.right_place m ops answers objects h trace k x p)
  by_number earlier k x true told.Dropped = one_failed D (not (list_any (entry_of m k x) h))
  by_number earlier k x true (told.Refused why) = by_cause earlier k x why
  by_number earlier k x true told.Begin = refl
  by_number earlier k x true (told.Put a b) = refl
  by_number earlier k x true told.End = refl
  by_number earlier k x true (told.Hosted a) = refl
  by_number earlier k x true (told.Saved a b c) = refl
  by_number earlier k x true (told.Marked a b) = refl
  by_number earlier k x true (told.Trimmed a) = refl
  by_number earlier k x true (told.Installed a) = refl
  by_number earlier k x true (told.Copied a b c) = refl
  by_number earlier k x true (told.Past a b c d) = refl
  by_number earlier k x true (told.Rescued a b) = refl
  by_number earlier k x false told.Begin = refl
  by_number earlier k x false (told.Put a b) = refl
  by_number earlier k x false (told.Asked a b c d) = refl
  by_number earlier k x false told.End = refl
  by_number earlier k x false (told.Committed a) = refl
  by_number earlier k x false (told.Aborted a b c d e) = refl
  by_number earlier k x false (told.Unsure a b) = refl
  by_number earlier k x false told.Dropped = refl
  by_number earlier k x false (told.Hosted a) = refl
  by_number earlier k x false (told.Saved a b c) = refl
  by_number earlier k x false (told.Marked a b) = refl
  by_number earlier k x false (told.Trimmed a) = refl
  by_number earlier k x false (told.Installed a) = refl
  by_number earlier k x false (told.Refused a) = refl
  by_number earlier k x false (told.Copied a b c) = refl
  by_number earlier k x false (told.Past a b c d) = refl
  by_number earlier k x false (told.Rescued a b) = refl

  mark_is : (earlier : Trace m) (t : MarkOf m) → judge.reply_fault m same objects h trace earlier t ≡ rule.mark_fault m ops answers objects h trace earlier t
  unfolding rule.mark_fault
  mark_is earlier t = by_number earlier t.client t.tx (nat_lt 0 t.tx) t.what

  done_is : (earlier : History m) (d : DoneOf m) → judge.entry_fault m same objects h trace earlier d ≡ rule.done_fault m ops answers objects h trace earlier d
  unfolding rule.done_fault
  done_is earlier d =
      two_failed D (judge.entry_is_right m same objects h trace earlier d) (nat_le (judge.bound m same objects h trace d.client d.number) d.stamp)
      ∙ ap (λ b. if b then failed E (nat_le (judge.bound m same objects h trace d.client d.number) d.stamp) else Some D) (entry_is earlier d)
      ∙ ap (λ n. if rule.right_entry m ops answers objects h trace earlier d then failed E (nat_le n d.stamp) else Some D) (bound_same d.client d.number)

  -- Lines.

  abbrev told_later : ℕ → Option Clause → Verdict → Verdict
  told_later line None later = later
  told_later line (Some c) later = Illegal line c

  told_first : (line : ℕ) (c : Option Clause) (rest : Option judge.Fault) → told_of (judge.fault_or m same objects h trace line c rest) ≡ told_later line c (told_of rest)
  told_first line None rest = refl
  told_first line (Some c) rest = refl

  told_place : (line n : ℕ) (c : Option Clause) (later : Option (ℕ × Clause)) (other : Verdict) → told_at line (or_later n c later) other ≡ told_later (line + n) c (told_at line later other)
  told_place line n None later other = refl
  told_place line n (Some c) later other = refl

  one_further : (line n : ℕ) → (line + n) + 1 ≡ line + (n + 1)
  one_further line n = omega arith

  history_told : (line n : ℕ) (earlier ds : History m)
      → told_of (judge.entries_fault m same objects h trace (line + n) earlier ds) ≡ told_at line (first_fault (rule.done_fault m ops answers objects h trace) n earlier ds) Legal
  unfolding judge.entries_fault first_fault
  history_told line n earlier [] = refl
  history_told line n earlier (d ∷ ds) =
      told_first (line + n) (judge.entry_fault m same objects h trace earlier d) (judge.entries_fault m same objects h trace (line + n + 1) (earlier ++ d ∷ []) ds)
      ∙ ap (λ (c : Option Clause). told_later (line + n) c (told_of (judge.entries_fault m same objects h trace (line + n + 1) (earlier ++ d ∷ []) ds))) (done_is earlier d)
      ∙ ap (λ (i : ℕ). told_later (line + n) (rule.done_fault m ops answers objects h trace earlier d) (told_of (judge.entries_fault m same objects h trace i (earlier ++ d ∷ []) ds))) (one_further line n)
      ∙ ap (told_later (line + n) (rule.done_fault m ops answers objects h trace earlier d)) (history_told line (n + 1) (earlier ++ d ∷ []) ds)
      ∙ sym (told_place line n (rule.done_fault m ops answers objects h trace earlier d) (first_fault (rule.done_fault m ops answers objects h trace) (n + 1) (earlier ++ d ∷ []) ds) Legal)

  trace_told : (line n : ℕ) (earlier ts : Trace m)
      → told_of (judge.replies_fault m same objects h trace (line + n) earlier ts)
      ≡ told_at line (first_fault (rule.mark_fault m ops answers objects h trace) n earlier ts) (told_of (judge.entries_fault m same objects h trace (line + (n + length ts) + 1) [] h))
  unfolding judge.replies_fault first_fault
  trace_told line n earlier [] =
      let same_line : line + n + 1 ≡ line + (n + 0) + 1 = omega arith in
      ap (λ (i : ℕ). told_of (judge.entries_fault m same objects h trace i [] h)) same_line
  trace_told line n earlier (t ∷ ts) =
      let same_line : line + ((n + 1) + length ts) + 1 ≡ line + (n + suc (length ts)) + 1 = omega arith in
      let rest = first_fault (rule.mark_fault m ops answers objects h trace) (n + 1) (earlier ++ t ∷ []) ts in
      told_first (line + n) (judge.reply_fault m same objects h trace earlier t) (judge.replies_fault m same objects h trace (line + n + 1) (earlier ++ t ∷ []) ts)
      ∙ ap (λ (c : Option Clause). told_later (line + n) c (told_of (judge.replies_fault m same objects h trace (line + n + 1) (earlier ++ t ∷ []) ts))) (mark_is earlier t)
      ∙ ap (λ (i : ℕ). told_later (line + n) (rule.mark_fault m ops answers objects h trace earlier t) (told_of (judge.replies_fault m same objects h trace i (earlier ++ t ∷ []) ts))) (one_further line n)
      ∙ ap (told_later (line + n) (rule.mark_fault m ops answers objects h trace earlier t)) (trace_told line (n + 1) (earlier ++ t ∷ []) ts)
      ∙ ap (λ (i : ℕ). told_later (line + n) (rule.mark_fault m ops answers objects h trace earlier t) (told_at line rest (told_of (judge.entries_fault m same objects h trace i [] h)))) same_line
      ∙ sym (told_place line n (rule.mark_fault m ops answers objects h trace earlier t) rest (told_of (judge.entries_fault m same objects h trace (line + (n + suc (length ts)) + 1) [] h)))

  -- what the judge's tests tell is the verdict
  pub verdict_is : rule.verdict m ops answers objects h trace ≡ verdict_of m ops answers objects h trace
  unfolding judge.fault
  verdict_is =
      let same_line : 2 + (0 + length trace) + 1 ≡ (length trace + 3) + 0 = omega arith in
      ap (told_at 2 (rule.in_trace m ops answers objects h trace)) (sym (history_told (length trace + 3) 0 [] h))
      ∙ ap (λ (i : ℕ). told_at 2 (rule.in_trace m ops answers objects h trace) (told_of (judge.entries_fault m same objects h trace i [] h))) (sym same_line)
      ∙ sym (trace_told 2 0 [] trace)

  pub verdict_told : {E : Type 0} (r : Result Verdict E) → IfOk r (λ v. v ≡ rule.verdict m ops answers objects h trace) → IfOk r (λ v. v ≡ verdict_of m ops answers objects h trace)
  verdict_told (Ok v) e = e ∙ verdict_is
  verdict_told (Err x) e = e
