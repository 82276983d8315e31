-- The judge's tests of a reply and of an entry, by what is asked of one reply or one entry at a time.
use Rattle.std.specs.Prelude.{ℕ, ◌+◌, Bool, true, false, not, ◌&&◌, ◌||◌, ◌==◌, nat_lt, nat_le, List, [], ◌∷◌, length, Option, Some, None, if◌then◌else◌}
use Rattle.std.specs.List.{list_any, list_all}
use Rattle.tg_base.specs.Orders.{oid_eq}
use Rattle.tg_base.specs.declared.fault.Clause.{Clause}
use Rattle.tg_base.specs.declared.fault.Clause.TheVariants.{A, B, C, D, E}
use Rattle.tg_base.specs.declared.ids.Oid.{Oid}
use Rattle.tg_base.specs.declared.marks.Part.{Part}
use Rattle.tg_kind.specs.Meaning.{Meaning}
use Rattle.tg_model.specs.declared.refusal.Refusal.{Refusal}
use Rattle.tg_model.specs.declared.refusal.Refusal.TheVariants as cause
use Rattle.tg_model.specs.declared.trace.What.TheVariants as told
use Rattle.tg_model.specs.Kinds.{WhatOf, MarkOf, DoneOf}
use Rattle.tg_model.specs.Stores.{History, changed, is_stamp}
use Rattle.tg_model.specs.Traces.{Trace, puts_of, has_items}
use Rattle.tg_kind.specs.Parts.{part_eq}
use Rattle.tg_audit.specs.declared.verdict.Verdict.{Verdict}
use Rattle.tg_audit.specs.declared.verdict.Verdict.TheVariants.{Legal}
use Rattle.tg_audit.specs.Judging.{Test, passes, meets, any_ask, snapshot_is, ends_by, are_same, entry_of, only_here, commits, causes, holds, holds_still, reach, bound_by, failed, first_fault, told_at}

module _ (m : Meaning) (ops : m.op → m.op → Bool) (answers : m.answer → m.answer → Bool) (objects : List Oid) (h : History m) (trace : Trace m) where
  unfoldable pub reach_before : ℕ → ℕ → ℕ
  reach_before k x = bound_by m (reach m trace) k x 0 0 trace

  abbrev pub all_hold : ℕ → ℕ → ℕ → Bool
  all_hold k x p = list_all (passes m k x (holds_still m answers objects h p)) trace

  abbrev pub all_at : Trace m → ℕ → ℕ → ℕ → Bool
  all_at ts k x p = list_all (passes m k x (snapshot_is m p)) ts

  abbrev pub right_answer : Trace m → ℕ → ℕ → Oid → m.ask → ℕ → m.answer → Bool
  right_answer earlier k x o q t a = holds m answers objects h t o q a && all_at earlier k x t

  abbrev pub right_write : ℕ → ℕ → ℕ → Bool
  right_write k x p = list_any (commits m ops trace k x p) h && all_hold k x p

  abbrev pub right_read : ℕ → ℕ → ℕ → Bool
  right_read k x p = all_at trace k x p && (list_any (meets m k x (any_ask m)) trace || (p == 0))

  unfoldable pub right_commit : ℕ → ℕ → ℕ → Bool
  right_commit k x p = if has_items m (puts_of m trace k x) then right_write k x p else right_read k x p

  abbrev pub explains_part : ℕ → Oid → Part → ℕ → ℕ → m.ask → ℕ → Bool
  explains_part p o part seen now q t =
      part_eq (m.look q) part && list_any (causes m p o part now t) h && (seen == changed m h o part t) && (now == changed m h o part p)

  abbrev pub explains : ℕ → Oid → Part → ℕ → ℕ → Test m
  explains p o part seen now r q t a =
      oid_eq r o && part_eq (m.look q) part && list_any (causes m p o part now t) h && (seen == changed m h o part t) && (now == changed m h o part p)

  unfoldable pub right_abort : ℕ → ℕ → ℕ → Oid → Part → ℕ → ℕ → Bool
  right_abort k x p o part seen now = not (list_any (entry_of m k x) h) && list_any (meets m k x (explains p o part seen now)) trace

  abbrev pub right_fate : ℕ → Option Bool → Bool
  right_fate p None = true
  right_fate p (Some true) = is_stamp m h p
  right_fate p (Some false) = not (is_stamp m h p)

  abbrev pub right_place : ℕ → ℕ → ℕ → Bool
  right_place k x p = list_all (only_here m k x p) h

  abbrev pub asked_fault : Bool → Bool → Option Clause
  asked_fault right bounded = if right then failed E bounded else Some A

  unfoldable pub answer_fault : Trace m → ℕ → ℕ → Oid → m.ask → ℕ → m.answer → Option Clause
  answer_fault earlier k x o q t a = asked_fault (right_answer earlier k x o q t a) (nat_le (reach_before k x) t)

  abbrev pub refused_fault : ℕ → ℕ → Refusal → Option Clause
  refused_fault k x (cause.Forgotten p n) = failed D (right_place k x p)
  refused_fault k x _ = None

  -- the clause that fails at a reply of a transaction
  unfoldable pub transaction_fault : Trace m → ℕ → ℕ → WhatOf m → Option Clause
  transaction_fault earlier k x (told.Asked o q t a) = answer_fault earlier k x o q t a
  transaction_fault earlier k x (told.Committed p) = failed B (right_commit k x p)
  transaction_fault earlier k x (told.Aborted p o part seen now) = failed C (right_abort k x p o part seen now)
  transaction_fault earlier k x (told.Unsure p q) = failed D (right_place k x p)
  transaction_fault earlier k x (told.Refused why) = refused_fault k x why
  transaction_fault earlier k x told.Dropped = failed D (not (list_any (entry_of m k x) h))
  transaction_fault earlier k x _ = None

  -- the clause that fails at a reply: a fate may be told without a transaction
  abbrev pub number_fault : Trace m → ℕ → ℕ → Bool → WhatOf m → Option Clause
  number_fault earlier k x of_tx (told.Fate p b) = failed D (right_fate p b)
  number_fault earlier k x of_tx (told.Decided p b) = failed D (right_fate p b)
  number_fault earlier k x of_tx w = if of_tx then transaction_fault earlier k x w else None

  unfoldable pub mark_fault : Trace m → MarkOf m → Option Clause
  mark_fault earlier t = number_fault earlier t.client t.tx (nat_lt 0 t.tx) t.what

  abbrev pub right_entry : History m → DoneOf m → Bool
  right_entry earlier d =
      nat_lt 0 d.number && list_any (ends_by m d.client d.number) trace && are_same m ops d.writes (puts_of m trace d.client d.number)
      && not (list_any (entry_of m d.client d.number) earlier) && all_hold d.client d.number d.stamp

  abbrev pub entry_fault_by : Bool → Bool → Option Clause
  entry_fault_by right bounded = if right then failed E bounded else Some D

  -- the clause that fails at an entry
  unfoldable pub done_fault : History m → DoneOf m → Option Clause
  done_fault earlier d = entry_fault_by (right_entry earlier d) (nat_le (reach_before d.client d.number) d.stamp)

  abbrev pub in_trace : Option (ℕ × Clause)
  in_trace = first_fault mark_fault 0 [] trace

  abbrev pub in_history : Option (ℕ × Clause)
  in_history = first_fault done_fault 0 [] h

  -- the line of the objects is the first, and one line counts the history
  abbrev pub past_trace : Verdict
  past_trace = told_at (length trace + 3) in_history Legal

  abbrev pub verdict : Verdict
  verdict = told_at 2 in_trace past_trace
