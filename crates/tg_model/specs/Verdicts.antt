-- The fault of a transcript: its first line at which a clause of a legal run fails, and there the first clause.
-- The lines are the one of the objects, one for each reply, the one that counts the history, and one for each of its entries.
use Rattle.std.specs.Prelude.{◌≡◌, ◌↔◌, ℕ, ◌+◌, Bool, true, false, not, ◌&&◌, ◌||◌, ◌==◌, nat_lt, nat_le, max, List, [], ◌∷◌, ◌++◌, Option, Some, None, if◌then◌else◌}
use Rattle.std.specs.Cmp.Lexicographic.{pointwise}
use Rattle.std.specs.List.{list_any, list_all}
use Rattle.tg_base.specs.Orders.{oid_eq}
use Rattle.tg_base.specs.declared.fault.Clause.{Clause}
use Rattle.tg_base.specs.declared.fault.Clause.TheVariants.{A, B, C, D, E}
use Rattle.tg_base.specs.declared.ids.Oid.{Oid}
use Rattle.tg_base.specs.declared.marks.Part.{Part}
use Rattle.tg_base.specs.declared.marks.Part.TheVariants.{All, Text, Num}
use Rattle.tg_kind.specs.Meaning.{Meaning}
use Rattle.tg_kind.specs.Parts.{part_eq}
use Rattle.tg_model.specs.declared.refusal.Refusal.TheVariants as cause
use Rattle.tg_model.specs.declared.trace.What.TheVariants as told
use Rattle.tg_model.specs.Kinds.{WhatOf, MarkOf, DoneOf}
use Rattle.tg_model.specs.Stores.{History, answer_at, changes, changed, is_stamp}
use Rattle.tg_model.specs.Traces.{Trace, puts_of, point_of, has_items}

-- tests of equality
pub record Sameness (m : Meaning) : Type 0 where
  pub ops : m.op → m.op → Bool
  pub answers : m.answer → m.answer → Bool

pub record IsSameness (m : Meaning) (same : Sameness m) : Type 0 where
  pub ops : (a b : m.op) → (same.ops a b ≡ true) ↔ (a ≡ b)
  pub answers : (a b : m.answer) → (same.answers a b ≡ true) ↔ (a ≡ b)

-- a clause that fails at a line, which count from 1
pub record Fault : Type 0 where
  pub line : ℕ
  pub clause : Clause

-- the clause of the first test that fails
abbrev pub first_failed : List (Clause × Bool) → Option Clause
first_failed [] = None
first_failed (x ∷ xs) = if x.1 then first_failed xs else Some x.0

module _ (m : Meaning) (same : Sameness m) (objects : List Oid) (h : History m) (trace : Trace m) where
  -- Of transactions.

  -- an ask, and how it was answered
  pub record Question : Type 0 where
    pub oid : Oid
    pub ask : m.ask
    pub at : ℕ
    pub ans : m.answer

  abbrev pub is_of : ℕ → ℕ → MarkOf m → Bool
  is_of k x t = (t.client == k) && (t.tx == x)

  abbrev pub with_ask : Bool → WhatOf m → List Question → List Question
  with_ask true (told.Asked o q t a) qs = record { oid = o; ask = q; at = t; ans = a } ∷ qs
  with_ask _ _ qs = qs

  -- what a transaction asked in these replies
  unfoldable pub asks_in : Trace m → ℕ → ℕ → List Question
  asks_in [] k x = []
  asks_in (t ∷ ts) k x = with_ask (is_of k x t) t.what (asks_in ts k x)

  abbrev pub asks : ℕ → ℕ → List Question
  asks k x = asks_in trace k x

  abbrev pub puts : ℕ → ℕ → List (Oid × m.op)
  puts k x = puts_of m trace k x

  abbrev pub is_begin : WhatOf m → Bool
  is_begin told.Begin = true
  is_begin _ = false

  abbrev pub is_end : WhatOf m → Bool
  is_end told.End = true
  is_end _ = false

  abbrev pub begins : ℕ → ℕ → Trace m → Bool
  begins k x ts = list_any (λ (t : MarkOf m). is_of k x t && is_begin t.what) ts

  abbrev pub ended : ℕ → ℕ → Bool
  ended k x = nat_lt 0 x && list_any (λ (t : MarkOf m). is_of k x t && is_end t.what) trace

  abbrev pub or_zero : Option ℕ → ℕ
  or_zero None = 0
  or_zero (Some p) = p

  -- the greatest point of the replies that stand before a `begin` of the transaction
  unfoldable pub bound_in : Trace m → ℕ → ℕ → ℕ
  bound_in [] k x = 0
  bound_in (t ∷ ts) k x = if begins k x ts then max (or_zero (point_of m trace t)) (bound_in ts k x) else 0

  abbrev pub bound : ℕ → ℕ → ℕ
  bound k x = bound_in trace k x

  -- Of the history.

  abbrev pub same_writes : List (Oid × m.op) → List (Oid × m.op) → Bool
  same_writes vs ws = pointwise (λ v w. oid_eq v.0 w.0 && same.ops v.1 w.1) vs ws

  abbrev pub entry_of : ℕ → ℕ → DoneOf m → Bool
  entry_of k x d = (d.client == k) && (d.number == x)

  abbrev pub has_entry : ℕ → ℕ → History m → Bool
  has_entry k x ds = list_any (entry_of k x) ds

  -- the plain machine's answer before position n is the one that was given
  abbrev pub holds_at : ℕ → Question → Bool
  holds_at n q = same.answers q.ans (answer_at m objects h n q.oid q.ask)

  -- every snapshot is at or below a position, and every answer is the same there
  abbrev pub all_hold_at : ℕ → List Question → Bool
  all_hold_at p qs = list_all (λ (q : Question). nat_le q.at p && holds_at p q) qs

  -- a: the answer is that at the snapshot, and earlier asks have the same snapshot
  abbrev pub answer_is_right : Question → List Question → Bool
  answer_is_right q earlier = holds_at q.at q && list_all (λ (r : Question). r.at == q.at) earlier

  -- b: the transaction stands in the history with its writes, or is at its snapshot where it put nothing
  abbrev pub commit_is_right : ℕ → ℕ → ℕ → Bool
  commit_is_right k x p =
      if has_items m (puts k x)
      then list_any (λ (d : DoneOf m). (d.stamp == p) && entry_of k x d && same_writes d.writes (puts k x)) h && all_hold_at p (asks k x)
      else list_all (λ (q : Question). q.at == p) (asks k x) && (has_items m (asks k x) || (p == 0))

  -- a committed change after the snapshot and below p, by which the part has this version
  abbrev pub is_cause : ℕ → Oid → Part → ℕ → ℕ → DoneOf m → Bool
  is_cause p o part now t d = (d.stamp + 1 == now) && changes m d o part && nat_le t d.stamp && nat_lt d.stamp p

  abbrev pub explains : ℕ → Oid → Part → ℕ → ℕ → Question → Bool
  explains p o part seen now q =
      oid_eq q.oid o && part_eq (m.look q.ask) part && list_any (is_cause p o part now q.at) h
      && (seen == changed m h o part q.at) && (now == changed m h o part p)

  -- c: the transaction isn't in the history, and an ask of it looked at what was changed
  abbrev pub abort_is_right : ℕ → ℕ → ℕ → Oid → Part → ℕ → ℕ → Bool
  abort_is_right k x p o part seen now = not (has_entry k x h) && list_any (explains p o part seen now) (asks k x)

  -- d: the transaction is in the history at this position alone, if at all
  abbrev pub only_at : ℕ → ℕ → ℕ → Bool
  only_at k x p = list_all (λ (d : DoneOf m). not (entry_of k x d) || (d.stamp == p)) h

  abbrev pub fate_is_right : ℕ → Option Bool → Bool
  fate_is_right p None = true
  fate_is_right p (Some true) = is_stamp m h p
  fate_is_right p (Some false) = not (is_stamp m h p)

  abbrev pub entry_is_right : History m → DoneOf m → Bool
  entry_is_right earlier d =
      ended d.client d.number && same_writes d.writes (puts d.client d.number) && not (has_entry d.client d.number earlier)
      && all_hold_at d.stamp (asks d.client d.number)

  -- Of lines.

  -- the tests of a reply, by the replies before it
  abbrev pub tests : Trace m → ℕ → ℕ → Bool → WhatOf m → List (Clause × Bool)
  tests earlier k x of_tx (told.Fate p b) = (D, fate_is_right p b) ∷ []
  tests earlier k x of_tx (told.Decided p b) = (D, fate_is_right p b) ∷ []
  tests earlier k x true (told.Asked o q t a) =
      (A, answer_is_right (record { oid = o; ask = q; at = t; ans = a }) (asks_in earlier k x)) ∷ (E, nat_le (bound k x) t) ∷ []
  tests earlier k x true (told.Committed p) = (B, commit_is_right k x p) ∷ []
  tests earlier k x true (told.Aborted p o part seen now) = (C, abort_is_right k x p o part seen now) ∷ []
  tests earlier k x true (told.Unsure p q) = (D, only_at k x p) ∷ []
  tests earlier k x true (told.Refused (cause.Forgotten p n)) = (D, only_at k x p) ∷ []
  tests earlier k x true told.Dropped = (D, not (has_entry k x h)) ∷ []
  tests earlier k x of_tx _ = []

  abbrev pub reply_fault : Trace m → MarkOf m → Option Clause
  reply_fault earlier t = first_failed (tests earlier t.client t.tx (nat_lt 0 t.tx) t.what)

  abbrev pub entry_fault : History m → DoneOf m → Option Clause
  entry_fault earlier d = first_failed ((D, entry_is_right earlier d) ∷ (E, nat_le (bound d.client d.number) d.stamp) ∷ [])

  abbrev pub fault_or : ℕ → Option Clause → Option Fault → Option Fault
  fault_or line None rest = rest
  fault_or line (Some c) rest = Some (record { line = line; clause = c })

  -- of the history's lines from this one on
  unfoldable pub entries_fault : ℕ → History m → History m → Option Fault
  entries_fault line earlier [] = None
  entries_fault line earlier (d ∷ ds) = fault_or line (entry_fault earlier d) (entries_fault (line + 1) (earlier ++ d ∷ []) ds)

  -- of the replies from this line on, and then of the history
  unfoldable pub replies_fault : ℕ → Trace m → Trace m → Option Fault
  replies_fault line earlier [] = entries_fault (line + 1) [] h
  replies_fault line earlier (t ∷ ts) = fault_or line (reply_fault earlier t) (replies_fault (line + 1) (earlier ++ t ∷ []) ts)

  -- the first fault; None where the transcript is legal
  unfoldable pub fault : Option Fault
  fault = replies_fault 2 [] trace
