-- What tables have of a run.
use Rattle.std.specs.Prelude.{◌≡◌, ℕ, ◌<◌, ◌≤◌, true, Bool, List, length, map, get_or, drop, Option, Some, None}
use Rattle.std.specs.List.{list_all}
use Rattle.std.specs.Ordering.{nat_cmp}
use Rattle.std.specs.BTreeMap as tree
use Rattle.std.specs.BTreeMap.{BTreeMap}
use Rattle.tg_base.specs.declared.ids.Oid.{Oid}
use Rattle.tg_kind.specs.Headers.{is_header}
use Rattle.tg_kind.specs.Meaning.{Meaning}
use Rattle.tg_model.specs.declared.trace.What.TheVariants as told
use Rattle.tg_model.specs.Kinds.{MarkOf, DoneOf}
use Rattle.tg_model.specs.Stores.{History}
use Rattle.tg_model.specs.Traces.{Trace}
use Rattle.tg_audit.specs.declared.index.Index.{Index}
use Rattle.tg_audit.specs.declared.tables.Tables.{Tables}
use Rattle.tg_audit.specs.Judging.{Test, passes, or_zero, reach, bound_by, asked_all, holds}
use Rattle.tg_audit.specs.Places.{key, AreWindows, IsRising}

module _ (m : Meaning) where
  abbrev pub mark_key : MarkOf m → ℕ
  mark_key t = key t.client t.tx

  abbrev pub entry_key : DoneOf m → ℕ
  entry_key d = key d.client d.number

  abbrev pub stamp_of : DoneOf m → ℕ
  stamp_of d = d.stamp

  abbrev pub HasMarks : Trace m → Index → Type 0
  HasMarks trace x = AreWindows (map mark_key trace) (length (map mark_key trace)) x.windows

  abbrev pub HasEntries : History m → Index → Type 0
  HasEntries h x = AreWindows (map entry_key h) (length (map entry_key h)) x.windows

  abbrev pub HasStamps : History m → Index → Type 0
  HasStamps h x = AreWindows (map stamp_of h) (length (map stamp_of h)) x.windows

  -- the bound that is noted for a transaction, or 0
  abbrev pub bound_at : BTreeMap ℕ ℕ → ℕ → ℕ → ℕ
  bound_at bounds k x = or_zero m (tree.get nat_cmp bounds (key k x))

  abbrev pub AreBounds : Trace m → BTreeMap ℕ ℕ → Type 0
  AreBounds trace bounds = (k x : ℕ) → x < 4294967296 → bound_at bounds k x ≡ bound_by m (reach m trace) k x 0 0 trace

  -- the reply at a place answers this
  pub record IsAskedAt (trace : Trace m) (place : ℕ) (o : Oid) (q : m.ask) (a : m.answer) : Type 0 where
    pub snapshot : ℕ
    pub mark : MarkOf m
    pub within : place < length trace
    pub here : mark ≡ get_or trace place mark
    pub asks : mark.what ≡ told.Asked o q snapshot a

  -- all replies of a transaction stand in a window
  pub record Covers (trace : Trace m) (k x : ℕ) (w : ℕ × ℕ) : Type 0 where
    pub within : w.1 ≤ length trace
    pub front : (q : Test m) → list_all (passes m k x q) (drop w.0 trace) ≡ list_all (passes m k x q) trace
    pub back : (q : Test m) (n : ℕ) → w.1 ≤ n → true ≡ list_all (passes m k x q) (drop n trace)

  module _ (answers : m.answer → m.answer → Bool) (objects : List Oid) (h : History m) (trace : Trace m) where
    -- the answer at a place holds at a position
    abbrev pub IsRight : ℕ → ℕ → Type 0
    IsRight place n = (t : MarkOf m) → place < length trace → t ≡ get_or trace place t → asked_all m (λ o q s a. holds m answers objects h n o q a) t.what ≡ true

    abbrev pub AreRight : BTreeMap ℕ ℕ → Type 0
    AreRight right = (place n : ℕ) → tree.get nat_cmp right place ≡ Some n → IsRight place n

    pub record IsRun (t : Tables) : Type 0 where
      pub header : is_header objects ≡ true
      pub marks : HasMarks trace t.marks
      pub entries : HasEntries h t.entries
      pub stamps : t.stamps ≡ map stamp_of h
      pub rise : t.rise ≡ true → IsRising (map stamp_of h)
      pub stamped : HasStamps h t.stamped
      pub bounds : AreBounds trace t.bounds
      pub asked : AreRight t.asked
      pub ended : AreRight t.ended
