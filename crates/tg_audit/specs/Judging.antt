-- What is asked of one reply or one write at a time.
use Rattle.std.specs.Borrow.{Bor}
use Rattle.std.specs.Prelude.{◌≡◌, ℕ, ◌+◌, Bool, true, false, not, ◌&&◌, ◌||◌, ◌==◌, nat_lt, nat_le, max, List, [], ◌∷◌, ◌++◌, map, Option, Some, None, if◌then◌else◌}
use Rattle.std.specs.Cmp.Lexicographic.{pointwise}
use Rattle.std.specs.List.{list_any, list_all}
use Rattle.tg_base.specs.Orders.{oid_eq}
use Rattle.tg_base.specs.declared.ids.Oid.{Oid}
use Rattle.tg_base.specs.declared.marks.Part.{Part}
use Rattle.tg_base.specs.declared.fault.Clause.{Clause}
use Rattle.tg_kind.specs.Meaning.{Meaning}
use Rattle.tg_model.specs.declared.trace.What.TheVariants as told
use Rattle.tg_model.specs.Kinds.{WhatOf, MarkOf, DoneOf}
use Rattle.tg_model.specs.Stores.{History, changes, later_of, answer_at}
use Rattle.tg_model.specs.Traces.{Trace, puts_of, point_of}
use Rattle.tg_audit.specs.declared.verdict.Verdict.{Verdict}
use Rattle.tg_audit.specs.declared.verdict.Verdict.TheVariants.{Legal, Illegal}

module _ (m : Meaning) where
  -- a test of an ask and its answer: the object, the ask, the snapshot and the answer
  abbrev pub Test : Type 0
  Test = Oid → m.ask → ℕ → m.answer → Bool

  abbrev pub is_of : ℕ → ℕ → MarkOf m → Bool
  is_of k x t = (t.client == k) && (t.tx == x)

  abbrev pub asked_all : Test → WhatOf m → Bool
  asked_all p (told.Asked o q t a) = p o q t a
  asked_all p _ = true

  abbrev pub asked_any : Test → WhatOf m → Bool
  asked_any p (told.Asked o q t a) = p o q t a
  asked_any p _ = false

  -- the reply passes the test, where it answers an ask of the transaction
  abbrev pub passes : ℕ → ℕ → Test → MarkOf m → Bool
  passes k x p t = if is_of k x t then asked_all p t.what else true

  -- the reply answers an ask of the transaction, and passes the test
  abbrev pub meets : ℕ → ℕ → Test → MarkOf m → Bool
  meets k x p t = if is_of k x t then asked_any p t.what else false

  abbrev pub any_ask : Test
  any_ask o q t a = true

  abbrev pub snapshot_is : ℕ → Test
  snapshot_is n o q t a = t == n

  abbrev pub is_put : WhatOf m → Bool
  is_put (told.Put o op) = true
  is_put _ = false

  abbrev pub is_end : WhatOf m → Bool
  is_end told.End = true
  is_end _ = false

  abbrev pub is_begin : WhatOf m → Bool
  is_begin told.Begin = true
  is_begin _ = false

  abbrev pub puts_by : ℕ → ℕ → MarkOf m → Bool
  puts_by k x t = is_of k x t && is_put t.what

  abbrev pub ends_by : ℕ → ℕ → MarkOf m → Bool
  ends_by k x t = is_of k x t && is_end t.what

  abbrev pub begins_by : ℕ → ℕ → MarkOf m → Bool
  begins_by k x t = is_of k x t && is_begin t.what

  -- the write that a reply tells of the transaction
  abbrev pub put_in : WhatOf m → Option (Oid × m.op)
  put_in (told.Put o op) = Some (o, op)
  put_in _ = None

  abbrev pub put_by : ℕ → ℕ → MarkOf m → Option (Oid × m.op)
  put_by k x t = if is_of k x t then put_in t.what else None

  abbrev pub same_write : (m.op → m.op → Bool) → Oid × m.op → Oid × m.op → Bool
  same_write ops v w = oid_eq v.0 w.0 && ops v.1 w.1

  abbrev pub are_same : (m.op → m.op → Bool) → List (Oid × m.op) → List (Oid × m.op) → Bool
  are_same ops vs ws = pointwise (same_write ops) vs ws

  -- the state of an object after a write, if it is its own
  abbrev pub write : Oid → m.state → Oid × m.op → m.state
  write o s w = if oid_eq w.0 o then m.apply s w.1 else s

  unfoldable pub written : Oid → m.state → List (Oid × m.op) → m.state
  written o s [] = s
  written o s (w ∷ ws) = written o (write o s w) ws

  -- and after a transaction, if it is below position n
  abbrev pub step : Oid → ℕ → m.state → DoneOf m → m.state
  step o n s d = if nat_lt d.stamp n then written o s d.writes else s

  unfoldable pub played : Oid → ℕ → m.state → History m → m.state
  played o n s [] = s
  played o n s (d ∷ ds) = played o n (step o n s d) ds

  -- the point of a reply, or 0
  abbrev pub or_zero : Option ℕ → ℕ
  or_zero None = 0
  or_zero (Some p) = p

  abbrev pub reach : Trace m → MarkOf m → ℕ
  reach trace t = or_zero (point_of m trace t)

  abbrev pub reaches : Trace m → List ℕ
  reaches trace = map (reach trace) trace

  abbrev pub entry_of : ℕ → ℕ → DoneOf m → Bool
  entry_of k x d = (d.client == k) && (d.number == x)

  abbrev pub only_here : ℕ → ℕ → ℕ → DoneOf m → Bool
  only_here k x p d = not (entry_of k x d) || (d.stamp == p)

  -- the entry is the transaction's, at this place and with its writes
  abbrev pub commits : (m.op → m.op → Bool) → Trace m → ℕ → ℕ → ℕ → DoneOf m → Bool
  commits ops trace k x p d = (d.stamp == p) && entry_of k x d && are_same ops d.writes (puts_of m trace k x)

  -- the entry, from a snapshot on and below a place, gave the part this version
  abbrev pub causes : ℕ → Oid → Part → ℕ → ℕ → DoneOf m → Bool
  causes p o part now t d = (d.stamp + 1 == now) && changes m d o part && nat_le t d.stamp && nat_lt d.stamp p

  -- the answer is that of the plain machine at position n
  abbrev pub holds : (m.answer → m.answer → Bool) → List Oid → History m → ℕ → Oid → m.ask → m.answer → Bool
  holds answers objects h n o q a = answers a (answer_at m objects h n o q)

  -- the snapshot is at or below position n, and the answer is the same there
  abbrev pub holds_still : (m.answer → m.answer → Bool) → List Oid → History m → ℕ → Test
  holds_still answers objects h n o q t a = nat_le t n && holds answers objects h n o q a

  -- the writes that are left where the first is the one that is told; None where it isn't
  abbrev pub after_write : (m.op → m.op → Bool) → List (Oid × m.op) → Oid × m.op → Option (List (Oid × m.op))
  after_write ops [] w = None
  after_write ops (v ∷ vs) w = if same_write ops v w then Some vs else None

  abbrev pub after_put : (m.op → m.op → Bool) → List (Oid × m.op) → WhatOf m → Option (List (Oid × m.op))
  after_put ops vs (told.Put o op) = after_write ops vs (o, op)
  after_put ops vs _ = Some vs

  -- what a slice tells of what is left
  abbrev pub left_is : Option (List (Oid × m.op)) → Option (Bor (List (Oid × m.op))) → Type 0
  left_is None None = Unit {0}
  left_is (Some vs) (Some s) = s.now ≡ vs
  left_is _ _ = ⊥

  -- the version of a part after a transaction, if that is below position n and changed the part
  abbrev pub later : Oid → Part → ℕ → ℕ → DoneOf m → ℕ
  later o k n v d = if nat_lt d.stamp n && changes m d o k then later_of m v (d.stamp + 1) else v

  unfoldable pub latest : Oid → Part → ℕ → ℕ → History m → ℕ
  latest o k n v [] = v
  latest o k n v (d ∷ ds) = latest o k n (later o k n v d) ds

  -- the greatest point so far where a reply is the transaction's begin
  abbrev pub after_begin : ℕ → ℕ → ℕ → ℕ → MarkOf m → ℕ
  after_begin k x r b t = if begins_by k x t then r else b

  -- the greatest point before the last begin of a transaction, from the greatest one so far
  unfoldable pub bound_by : (MarkOf m → ℕ) → ℕ → ℕ → ℕ → ℕ → Trace m → ℕ
  bound_by f k x r b [] = b
  bound_by f k x r b (t ∷ ts) = bound_by f k x (max r (f t)) (after_begin k x r b t) ts

-- the clause, where its test fails
abbrev pub failed : Clause → Bool → Option Clause
failed c right = if right then None else Some c

-- The place, from n, of the first item that has a fault by those before it, and its clause.
abbrev pub or_later : ℕ → Option Clause → Option (ℕ × Clause) → Option (ℕ × Clause)
or_later n None later = later
or_later n (Some c) later = Some (n, c)

unfoldable pub first_fault : {X : Type 0} → (List X → X → Option Clause) → ℕ → List X → List X → Option (ℕ × Clause)
first_fault f n earlier [] = None
first_fault f n earlier (x ∷ xs) = or_later n (f earlier x) (first_fault f (n + 1) (earlier ++ x ∷ []) xs)

-- what is told of such a place, where the first item has this line
abbrev pub told_at : ℕ → Option (ℕ × Clause) → Verdict → Verdict
told_at line None other = other
told_at line (Some p) other = Illegal (line + p.0) p.1
