-- The plain machine: the states of objects, and the list of committed transactions that makes them.
use Rattle.std.specs.Prelude.{ℕ, ◌+◌, ◌<◌, Bool, ◌&&◌, ◌==◌, nat_lt, List, [], ◌∷◌, Contains, ◌≡◌, if◌then◌else◌}
use Rattle.std.specs.List.{list_any}
use Rattle.tg_base.specs.Orders.{oid_eq}
use Rattle.tg_base.specs.declared.ids.Oid.{Oid}
use Rattle.tg_base.specs.declared.marks.Part.{Part}
use Rattle.tg_kind.specs.Meaning.{Meaning}
use Rattle.tg_kind.specs.Parts.{overlap}
use Rattle.tg_model.specs.Kinds.{DoneOf}

module _ (m : Meaning) where
  -- the states of the objects that were written
  abbrev pub Store : Type 0
  Store = List (Oid × m.state)

  -- an object's state: fresh where it was never written
  abbrev pub stored_state : List Oid → Store → Oid → m.state
  stored_state objects [] o = m.fresh o objects
  stored_state objects (x ∷ xs) o = if oid_eq x.0 o then x.1 else stored_state objects xs o

  abbrev pub with_stored_state : Store → Oid → m.state → Store
  with_stored_state [] o s = (o, s) ∷ []
  with_stored_state (x ∷ xs) o s = if oid_eq x.0 o then (o, s) ∷ xs else x ∷ with_stored_state xs o s

  -- each write in order
  abbrev pub after_writes : List Oid → Store → List (Oid × m.op) → Store
  after_writes objects s [] = s
  after_writes objects s (w ∷ ws) = after_writes objects (with_stored_state s w.0 (m.apply (stored_state objects s w.0) w.1)) ws

  abbrev pub History : Type 0
  History = List (DoneOf m)

  -- every stamp is above this entry's
  abbrev pub AllAbove : DoneOf m → History → Type 0
  AllAbove d [] = Unit {0}
  AllAbove d (e ∷ es) = (d.stamp < e.stamp) × AllAbove d es

  -- the stamps rise
  abbrev pub Rises : History → Type 0
  Rises [] = Unit {0}
  Rises (d ∷ ds) = AllAbove d ds × Rises ds

  -- the writes of every transaction with a stamp below n
  unfoldable pub store_after : List Oid → Store → History → ℕ → Store
  store_after objects s [] n = s
  store_after objects s (d ∷ ds) n = if nat_lt d.stamp n then store_after objects (after_writes objects s d.writes) ds n else store_after objects s ds n

  -- the store before position n
  abbrev pub store_at : List Oid → History → ℕ → Store
  store_at objects h n = store_after objects [] h n

  -- an object's state before position n
  abbrev pub state_at : List Oid → History → ℕ → Oid → m.state
  state_at objects h n o = stored_state objects (store_at objects h n) o

  -- the plain machine's answer before position n
  abbrev pub answer_at : List Oid → History → ℕ → Oid → m.ask → m.answer
  answer_at objects h n o q = m.answers (state_at objects h n o) q

  -- a write of this part of the object
  abbrev pub writes_part : Oid → Part → Oid × m.op → Bool
  writes_part o k w = oid_eq w.0 o && overlap (m.touch w.1) k

  abbrev pub changes : DoneOf m → Oid → Part → Bool
  changes d o k = list_any (writes_part o k) d.writes

  abbrev pub later_of : ℕ → ℕ → ℕ
  later_of a b = if nat_lt a b then b else a

  -- one past the greatest stamp below n with a write of this part, 0 where there is none
  unfoldable pub changed : History → Oid → Part → ℕ → ℕ
  changed [] o k n = 0
  changed (d ∷ ds) o k n = if nat_lt d.stamp n && changes d o k then later_of (d.stamp + 1) (changed ds o k n) else changed ds o k n

  abbrev pub stamped : History → ℕ → DoneOf m → Type 0
  stamped h p d = Contains h d × (d.stamp ≡ p)

  abbrev pub has_stamp : ℕ → DoneOf m → Bool
  has_stamp p d = d.stamp == p

  -- the history has a transaction with this stamp
  abbrev pub is_stamp : History → ℕ → Bool
  is_stamp h p = list_any (has_stamp p) h
