-- The trace, which is the list of replies in the order in which they were given, and what it says of a transaction.
use Rattle.std.specs.Prelude.{◌≡◌, ℕ, ◌+◌, ◌<◌, Bool, true, false, ◌&&◌, ◌==◌, List, [], ◌∷◌, Option, Some, None, Contains, if◌then◌else◌}
use Rattle.tg_base.specs.declared.ids.Oid.{Oid}
use Rattle.tg_kind.specs.Meaning.{Meaning}
use Rattle.tg_model.specs.declared.trace.What.TheVariants as told
use Rattle.tg_model.specs.Kinds.{WhatOf, MarkOf, DoneOf}
use Rattle.tg_model.specs.Stores.{History}

module _ (m : Meaning) where
  abbrev pub Trace : Type 0
  Trace = List (MarkOf m)

  -- a client told this, with this number of a transaction, or 0
  pub record Says (trace : Trace) (k x : ℕ) (what : WhatOf m) : Type 0 where
    pub event : ℕ
    pub here : Contains trace (record { event = event; client = k; tx = x; what = what })

  -- a client told this of its transaction with this number; transactions count from 1
  pub record Tells (trace : Trace) (k x : ℕ) (what : WhatOf m) : Type 0 where
    pub number : 0 < x
    pub event : ℕ
    pub here : Contains trace (record { event = event; client = k; tx = x; what = what })

  abbrev pub put_of : ℕ → ℕ → ℕ → ℕ → WhatOf m → List (Oid × m.op) → List (Oid × m.op)
  put_of k x client tx (told.Put o op) ws = if (k == client) && (x == tx) then (o, op) ∷ ws else ws
  put_of k x client tx _ ws = ws

  -- the writes that a transaction put, in order
  unfoldable pub puts_of : Trace → ℕ → ℕ → List (Oid × m.op)
  puts_of [] k x = []
  puts_of (t ∷ ts) k x = put_of k x t.client t.tx t.what (puts_of ts k x)

  -- the history's entry of a transaction
  abbrev pub IsOf : DoneOf m → ℕ → ℕ → Type 0
  IsOf d k x = (d.client ≡ k) × (d.number ≡ x)

  abbrev pub HasNone : History m → ℕ → ℕ → Type 0
  HasNone h k x = (d : DoneOf m) → Contains h d → IsOf d k x → ⊥

  -- the point of a reply: what begins after it has no place below it
  abbrev pub point : Bool → WhatOf m → Option ℕ
  point puts (told.Asked o q t a) = Some t
  point puts (told.Unsure p q) = Some (p + 1)
  point puts (told.Aborted p o k seen now) = Some (p + 1)
  point true (told.Committed p) = Some (p + 1)
  point puts _ = None

  abbrev pub has_items : {X : Type 0} → List X → Bool
  has_items [] = false
  has_items (x ∷ xs) = true

  -- a reply that speaks of no transaction has none
  abbrev pub point_of : Trace → MarkOf m → Option ℕ
  point_of trace t = if t.tx == 0 then None else point (has_items (puts_of trace t.client t.tx)) t.what

  -- the places of a transaction: its snapshot, and its stamp
  pub data Place (h : History m) (trace : Trace) (k x : ℕ) : ℕ → Type 0 where
    Snapshot : (o : Oid) (q : m.ask) (t : ℕ) (a : m.answer) → Tells trace k x (told.Asked o q t a) → Place h trace k x t
    Stamp : (d : DoneOf m) → Contains h d → IsOf d k x → Place h trace k x d.stamp
