-- A client's view: the states of the objects that it hosts, played from the log's entries.
use Rattle.std.specs.Prelude.{ℕ, ◌+◌, Bool, true, false, not, ◌&&◌, ◌==◌, nat_lt, nat_le, List, [], ◌∷◌, filter, map, find, Option, Some, None, is_some, if◌then◌else◌}
use Rattle.std.specs.List.{list_any}
use Rattle.tg_base.specs.declared.ids.Oid.{Oid}
use Rattle.tg_base.specs.declared.marks.Part.{Part}
use Rattle.tg_base.specs.declared.marks.Part.TheVariants.{All}
use Rattle.tg_base.specs.declared.marks.ReadMark.{ReadMark}
use Rattle.tg_entry.specs.declared.entry.WriteOp.{WriteOp}
use Rattle.tg_entry.specs.declared.entry.Entry.{Entry}
use Rattle.tg_kind.specs.Meaning.{Meaning}
use Rattle.tg_model.specs.declared.play.PlayEnd.{PlayEnd}
use Rattle.tg_model.specs.declared.play.PlayEnd.TheVariants.{Played, Blocked}
use Rattle.tg_protocol.specs.Words.{or_else}
use Rattle.tg_base.specs.Orders.{oid_eq}
use Rattle.tg_entry.specs.Needs.{reads_of, writes_of, needs_decision}
use Rattle.tg_protocol.specs.Entries.{is_commit, decides}
use Rattle.tg_protocol.specs.Versions.{Versions, PartVersion, Changed, no_versions, version_of, first_changed, Parts, parts_of}

-- entries with their positions, rising
abbrev pub Entries : Type 0
Entries = List (ℕ × Entry)

-- with an entry at its position, where there is one
abbrev pub entry_if : ℕ → Option Entry → Entries → Entries
entry_if p None es = es
entry_if p (Some e) es = (p, e) ∷ es

-- what the decision records among the entries say of a position; the first one counts
unfoldable pub decision_in : Entries → ℕ → Option Bool
decision_in [] p = None
decision_in (x ∷ xs) p = or_else (decides p x.1.body) (decision_in xs p)

-- whether a commit record is committed, as far as a view can tell
pub data Verdict : Type 0 where
  Commits : Verdict
  Aborts : Verdict
  Unknown : (missing : Oid) → Verdict

module _ (m : Meaning) where
  -- where a view begins with an object: its state below `upto`, and the versions there
  pub record Base : Type 0 where
    pub oid : Oid
    pub state : m.state
    pub versions : Versions
    pub upto : ℕ

  pub record View : Type 0 where
    pub bases : List Base  -- one for each hosted object
    pub states : List (Oid × m.state)
    pub noted : List PartVersion  -- changes since the bases, the last one first
    pub upto : ℕ  -- entries below it are played
    pub fates : List (ℕ × Bool)  -- of commit records
    pub open_records : List ℕ  -- played records that need a decision record and had none, the last one first

  abbrev pub base_state : Base → Oid × m.state
  base_state b = (b.oid, b.state)

  unfoldable pub view_start : List Base → View
  view_start bases = record { bases = bases; states = map base_state bases; noted = []; upto = 0; fates = []; open_records = [] }

  abbrev pub fresh_base : List Oid → Oid → Base
  fresh_base objects o = record { oid = o; state = m.fresh o objects; versions = no_versions; upto = 0 }

  -- what a view tells

  abbrev pub base_of : View → Oid → Option Base
  base_of v o = find (λ b. oid_eq b.oid o) v.bases

  abbrev pub state_in : List (Oid × m.state) → Oid → Option m.state
  state_in [] o = None
  state_in (x ∷ xs) o = if oid_eq x.0 o then Some x.1 else state_in xs o

  abbrev pub state_of : View → Oid → Option m.state
  state_of v o = state_in v.states o

  abbrev pub hosts : View → Oid → Bool
  hosts v o = is_some (base_of v o)

  -- the versions of a hosted object as played
  abbrev pub played_versions : View → Base → Versions
  played_versions v b = record { base = b.versions.base; noted = v.noted }

  abbrev pub played_version : View → Option Base → Oid → Part → ℕ
  played_version v None o k = 0
  played_version v (Some b) o k = version_of (played_versions v b) o k

  unfoldable pub view_version : View → Oid → Part → ℕ
  view_version v o k = played_version v (base_of v o) o k

  abbrev pub played_parts : View → Option Base → Oid → Parts
  played_parts v None o = record { whole = 0; keys = [] }
  played_parts v (Some b) o = parts_of (played_versions v b) o

  unfoldable pub view_parts : View → Oid → Parts
  view_parts v o = played_parts v (base_of v o) o

  abbrev pub fate_in : List (ℕ × Bool) → ℕ → Option Bool
  fate_in [] p = None
  fate_in (x ∷ xs) p = if x.0 == p then Some x.1 else fate_in xs p

  abbrev pub fate_of : View → ℕ → Option Bool
  fate_of v p = fate_in v.fates p

  -- deciding a record at p

  abbrev pub past : Base → ℕ → Bool
  past b p = nat_lt p b.upto

  -- of an object whose base is past p, the base's versions speak of p, also where the view has played further
  abbrev pub version_by : View → ℕ → Option Base → ReadMark → ℕ
  version_by v p None r = 0
  version_by v p (Some b) r = if past b p then version_of b.versions r.oid r.part else version_of (played_versions v b) r.oid r.part

  abbrev pub version_at : View → ℕ → ReadMark → ℕ
  version_at v p r = version_by v p (base_of v r.oid) r

  -- the object isn't hosted, or its base tells only a later version
  abbrev pub unknown_by : ℕ → Option Base → ReadMark → Bool
  unknown_by p None r = true
  unknown_by p (Some b) r = past b p && nat_lt p (version_of b.versions r.oid r.part)

  -- the first read, and so that of the least object, whose version at p is unknown
  unfoldable pub unknown_in : View → List ReadMark → ℕ → Option Oid
  unknown_in v [] p = None
  unknown_in v (r ∷ rs) p = if unknown_by p (base_of v r.oid) r then Some r.oid else unknown_in v rs p

  -- the first read whose version differs at p
  unfoldable pub changed_in : View → List ReadMark → ℕ → Option Changed
  changed_in v rs p = first_changed (version_at v p) rs

  abbrev pub by_changes : Option Changed → Verdict
  by_changes None = Commits
  by_changes (Some c) = Aborts

  abbrev pub by_versions : View → List ReadMark → ℕ → Option Oid → Verdict
  by_versions v rs p None = by_changes (changed_in v rs p)
  by_versions v rs p (Some o) = Unknown o

  abbrev pub said : Bool → Verdict
  said true = Commits
  said false = Aborts

  -- by a decision record, else by the versions
  abbrev pub by_decision : View → Entry → ℕ → Option Bool → Verdict
  by_decision v e p (Some b) = said b
  by_decision v e p None = by_versions v (reads_of e) p (unknown_in v (reads_of e) p)

  unfoldable pub verdict : View → Entries → ℕ → Entry → Verdict
  verdict v es p e = by_decision v e p (decision_in es p)

  -- what a view that may have played further says of a record: its fate, where it has one
  abbrev pub fate_or_verdict : View → Entries → ℕ → Entry → Option Bool → Verdict
  fate_or_verdict v es p e None = verdict v es p e
  fate_or_verdict v es p e (Some b) = said b

  unfoldable pub view_outcome : View → Entries → ℕ → Entry → Verdict
  view_outcome v es p e = fate_or_verdict v es p e (fate_of v p)

  -- applying a record

  abbrev pub with_state : List (Oid × m.state) → Oid → m.state → List (Oid × m.state)
  with_state [] o s = []
  with_state (x ∷ xs) o s = if oid_eq x.0 o then (o, s) ∷ xs else x ∷ with_state xs o s

  abbrev pub applied : Option m.op → Option m.state → Option m.state
  applied (Some op) (Some s) = Some (m.apply s op)
  applied None s = s
  applied op None = None

  abbrev pub set_state : View → Oid → Option m.state → View
  set_state v o None = v
  set_state v o (Some s) = record v { states = with_state v.states o s }

  -- bytes that spell no op of the object's kind change all of it, and leave it as it was
  abbrev pub touched : Option m.op → Part
  touched None = All
  touched (Some op) = m.touch op

  abbrev pub note : View → Oid → Part → ℕ → View
  note v o k p = record v { noted = record { oid = o; part = k; version = p + 1 } ∷ v.noted }

  abbrev pub write_by : View → ℕ → WriteOp → Option m.op → View
  write_by v p w op = note (set_state v w.oid (applied op (state_of v w.oid))) w.oid (touched op) p

  -- a write is played where its object is hosted and its base isn't past p
  abbrev pub plays : ℕ → Option Base → Bool
  plays p None = false
  plays p (Some b) = not (past b p)

  abbrev pub write : ℕ → View → WriteOp → View
  write p v w = if plays p (base_of v w.oid) then write_by v p w (m.read w.oid w.op) else v

  abbrev pub write_all : ℕ → View → List WriteOp → View
  write_all p v [] = v
  write_all p v (w ∷ ws) = write_all p (write p v w) ws

  -- playing

  -- no hosted object that the record writes has a base at or before it
  abbrev pub passed_over : View → ℕ → Entry → Bool
  passed_over v p e = not (list_any (λ (w : WriteOp). plays p (base_of v w.oid)) (writes_of e))

  abbrev pub with_fate : View → ℕ → Bool → View
  with_fate v p b = record v { fates = (p, b) ∷ v.fates }

  abbrev pub with_verdict : View → ℕ → Verdict → View
  with_verdict v p Commits = with_fate v p true
  with_verdict v p Aborts = with_fate v p false
  with_verdict v p (Unknown o) = v

  abbrev pub with_open : View → Entries → ℕ → Entry → View
  with_open v es p e = if needs_decision e && not (is_some (decision_in es p)) then record v { open_records = p ∷ v.open_records } else v

  -- a view, and where its play came to
  pub record Play : Type 0 where
    pub view : View
    pub came : PlayEnd

  abbrev pub stands_at : View → ℕ → View
  stands_at v p = record v { upto = p }

  -- what the record at p makes of a view; None where it can't be decided
  pub data Step : Type 0 where
    On : View → Step
    Stuck : (missing : Oid) → Step

  abbrev pub decided_step : View → ℕ → Entry → Verdict → Step
  decided_step v p e Commits = On (write_all p (with_fate v p true) (writes_of e))
  decided_step v p e Aborts = On (with_fate v p false)
  decided_step v p e (Unknown o) = Stuck o

  abbrev pub record_step : View → ℕ → Entry → Verdict → Bool → Step
  record_step v p e d true = On (with_verdict v p d)
  record_step v p e d false = decided_step v p e d

  abbrev pub entry_step : View → Entries → ℕ → Entry → Bool → Step
  entry_step v es p e true = record_step (with_open v es p e) p e (verdict v es p e) (passed_over v p e)
  entry_step v es p e false = On v

  unfoldable pub step_at : View → Entries → ℕ → Entry → Step
  step_at v es p e = entry_step v es p e (is_commit e)

  -- the entries from the view's `upto` on and below the target
  abbrev pub between : ℕ → ℕ → Entries → Entries
  between low high es = filter (λ (x : ℕ × Entry). nat_le low x.0 && nat_lt x.0 high) es

  unfoldable pub play_on : Entries → ℕ → View → Entries → Play
  play_on es upto v [] = record { view = stands_at v upto; came = Played upto }
  play_on es upto v (x ∷ xs) = elim (step_at v es x.0 x.1) as (λ _. Play) [
    | On w ↦ play_on es upto w xs
    | Stuck o ↦ record { view = stands_at v x.0; came = Blocked x.0 o }
  ]

  abbrev pub play_from : View → Entries → ℕ → Bool → Play
  play_from v es upto true = record { view = v; came = Played v.upto }
  play_from v es upto false = play_on es upto v (between v.upto upto es)

  -- the play of a view over these entries, decision records past the target among them
  unfoldable pub play : View → Entries → ℕ → Play
  play v es upto = play_from v es upto (nat_lt upto v.upto)
