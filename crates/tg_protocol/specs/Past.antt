-- A view at a past position, and the temporary view of a rescue.
use Rattle.std.specs.Prelude.{ℕ, ◌+◌, Bool, true, false, not, ◌&&◌, ◌==◌, nat_le, List, [], ◌∷◌, map, filter, length, Option, Some, None, is_some, if◌then◌else◌}
use Rattle.tg_base.specs.declared.ids.Oid.{Oid}
use Rattle.tg_entry.specs.declared.entry.Entry.{Entry}
use Rattle.tg_kind.specs.Meaning.{Meaning}
use Rattle.tg_model.specs.declared.play.PlayEnd.{PlayEnd}
use Rattle.tg_model.specs.declared.play.PlayEnd.TheVariants.{Played, Blocked}
use Rattle.tg_protocol.specs.Words.{has_oid}
use Rattle.tg_entry.specs.Needs.{needs_decision}
use Rattle.tg_protocol.specs.Entries.{is_commit}
use Rattle.tg_protocol.specs.Views.{Entries, decision_in, Verdict, Commits, Aborts, Unknown, Base, View, Play, view_start, fresh_base, view_outcome, play}
use Rattle.tg_protocol.specs.Checkpoints.{TrimPoints, trim_of, bases_in, greatest_base, within, base_or, load_from, view_bases}

-- the commit record at a position
unfoldable pub commit_at : Entries → ℕ → Option Entry
commit_at [] p = None
commit_at (x ∷ xs) p = if (x.0 == p) && is_commit x.1 then Some x.1 else commit_at xs p

module _ (m : Meaning) where
  -- Past views.

  pub data PastTurn : Type 0 where
    PastView : Play m → PastTurn
    PastGone : (below : ℕ) → PastTurn  -- the asked object has no base between the trim and the position

  -- the checkpoint of greatest `upto` from the trim to the position
  abbrev pub last_base : Entries → Oid → ℕ → ℕ → Option (Base m)
  last_base es o below pos = greatest_base m (filter (within m below pos) (bases_in m es o))

  abbrev pub past_base_or : Entries → List Oid → Oid → ℕ → Option (Base m) → Base m
  past_base_or es objects o below None = base_or m objects o (load_from m es o below)
  past_base_or es objects o below (Some b) = b

  abbrev pub past_base_by : Entries → List Oid → ℕ → Oid → Option ℕ → Base m
  past_base_by es objects pos o None = fresh_base m objects o
  past_base_by es objects pos o (Some below) = past_base_or es objects o below (last_base es o below pos)

  abbrev pub past_base : Entries → TrimPoints → List Oid → ℕ → Oid → Base m
  past_base es gone objects pos o = past_base_by es objects pos o (trim_of gone o)

  abbrev pub past_play : Entries → TrimPoints → List Oid → List Oid → ℕ → Play m
  past_play es gone oids objects pos = play m (view_start m (map (past_base es gone objects pos) oids)) es pos

  abbrev pub past_or_gone : Option (Base m) → ℕ → Play m → PastTurn
  past_or_gone None below v = PastGone below
  past_or_gone (Some b) below v = PastView v

  abbrev pub past_by : Entries → Oid → ℕ → Option ℕ → Play m → PastTurn
  past_by es o pos None v = PastView v
  past_by es o pos (Some below) v = past_or_gone (last_base es o below pos) below v

  -- the view of these objects at a position, for an ask of one of them
  unfoldable pub past_at : Entries → TrimPoints → List Oid → List Oid → Oid → ℕ → PastTurn
  past_at es gone oids objects o pos = past_by es o pos (trim_of gone o) (past_play es gone oids objects pos)

  -- Rescue.

  pub data RescueTurn : Type 0 where
    Wider : (added : Oid) → RescueTurn  -- the set grows by an object, and the work starts over
    Wide : RescueTurn  -- a 129th object would join
    Absent : RescueTurn  -- no commit record is there
    StuckAt : (pos : ℕ) → (missing : Oid) → RescueTurn
    Known : (is_yes needs : Bool) → RescueTurn

  -- where the record at a position is blocked: below it, or by itself
  abbrev pub record_block : View m → Entries → ℕ → Verdict → Option (ℕ × Oid)
  record_block v es at (Unknown o) = Some (at, o)
  record_block v es at _ = None

  abbrev pub entry_block : View m → Entries → ℕ → Option Entry → Option (ℕ × Oid)
  entry_block v es at None = None
  entry_block v es at (Some e) = record_block v es at (view_outcome m v es at e)

  abbrev pub block_in : Play m → Entries → ℕ → PlayEnd → Option (ℕ × Oid)
  block_in p es at (Played upto) = entry_block p.view es at (commit_at es at)
  block_in p es at (Blocked pos o) = Some (pos, o)

  abbrev pub known_by : Entries → ℕ → Entry → Verdict → RescueTurn
  known_by es at e Commits = Known true (needs_decision e && not (is_some (decision_in es at)))
  known_by es at e Aborts = Known false (needs_decision e && not (is_some (decision_in es at)))
  known_by es at e (Unknown o) = StuckAt at o

  abbrev pub at_record : View m → Entries → ℕ → Option (ℕ × Oid) → Option Entry → RescueTurn
  at_record v es at b None = Absent
  at_record v es at (Some b) (Some e) = StuckAt b.0 b.1
  at_record v es at None (Some e) = known_by es at e (view_outcome m v es at e)

  abbrev pub grows : List Oid → Oid → RescueTurn
  grows oids o = if nat_le 128 (length oids) then Wide else Wider o

  -- a block by an object outside the set makes it wider, before anything else
  abbrev pub rescue_by : Play m → Entries → List Oid → ℕ → Option (ℕ × Oid) → RescueTurn
  rescue_by p es oids at None = at_record p.view es at None (commit_at es at)
  rescue_by p es oids at (Some b) = if has_oid b.1 oids then at_record p.view es at (Some b) (commit_at es at) else grows oids b.1

  abbrev pub rescue_played : Play m → Entries → List Oid → ℕ → RescueTurn
  rescue_played p es oids at = rescue_by p es oids at (block_in p es at p.came)

  -- a turn of rescuing the record at a position, over the entries of these streams; the play takes in that record
  unfoldable pub rescue_turn : Entries → TrimPoints → List Oid → List Oid → ℕ → RescueTurn
  rescue_turn es gone oids objects at = rescue_played (play m (view_start m (view_bases m es gone objects oids)) es (at + 1)) es oids at
