-- Checkpoints: saving an object, beginning from what was saved, and forgetting what is below.
use Rattle.std.specs.Prelude.{ℕ, Bool, not, ◌&&◌, ◌==◌, nat_lt, nat_le, List, [], ◌∷◌, ◌++◌, map, filter, Option, Some, None, is_some, if◌then◌else◌}
use Rattle.tg_base.specs.declared.ids.Oid.{Oid}
use Rattle.tg_base.specs.declared.marks.Part.TheVariants.{All}
use Rattle.tg_entry.specs.declared.entry.Body.{Body}
use Rattle.tg_entry.specs.declared.entry.Body.TheVariants.{Checkpoint}
use Rattle.tg_entry.specs.declared.entry.Entry.{Entry}
use Rattle.tg_kind.specs.Meaning.{Meaning}
use Rattle.tg_base.specs.Orders.{oid_eq}
use Rattle.tg_entry.specs.Needs.{needs_decision}
use Rattle.tg_protocol.specs.Entries.{draft, lists}
use Rattle.tg_protocol.specs.Versions.{Versions, based, Parts}
use Rattle.tg_protocol.specs.Views.{Entries, decision_in, Base, View, state_of, view_version, view_parts, fresh_base}

-- where an object's walk met a trim
abbrev pub TrimPoints : Type 0
TrimPoints = List (Oid × ℕ)

abbrev pub trim_of : TrimPoints → Oid → Option ℕ
trim_of [] o = None
trim_of (x ∷ xs) o = if oid_eq x.0 o then Some x.1 else trim_of xs o

-- the least record below a mark, in this stream, that needs a decision record and has none
unfoldable pub open_decision : Entries → Entries → Oid → ℕ → Option ℕ
open_decision es [] o mark = None
open_decision es (x ∷ xs) o mark =
    if nat_lt x.0 mark && lists x.1 o && needs_decision x.1 && not (is_some (decision_in es x.0)) then Some x.0 else open_decision es xs o mark

module _ (m : Meaning) where
  -- the entry that saves an object as the view has it

  abbrev pub saved_bytes : Option m.state → List ℕ
  saved_bytes None = []
  saved_bytes (Some s) = m.save s

  abbrev pub checkpoint_body : View m → Oid → ℕ → Parts → Body
  checkpoint_body v o upto ps = Checkpoint o upto (view_version m v o All) ps.whole ps.keys (saved_bytes (state_of m v o))

  unfoldable pub checkpoint : View m → Oid → ℕ → ℕ → ℕ → Entry
  checkpoint v o upto client number = draft client number (o ∷ []) (checkpoint_body v o upto (view_parts m v o))

  -- the base that a checkpoint gives: one of format 1, with a version above its `upto`, or of bytes that don't load, counts as absent

  abbrev pub loaded : Oid → ℕ → Versions → Option m.state → Option (Base m)
  loaded o upto vs None = None
  loaded o upto vs (Some s) = Some (record { oid = o; state = s; versions = vs; upto = upto })

  abbrev pub base_in : Oid → Body → Option (Base m)
  base_in o (Checkpoint p upto version whole keys bytes) =
      if oid_eq o p && nat_le version upto then loaded o upto (based o version whole keys) (m.load o bytes) else None
  base_in o _ = None

  abbrev pub base_at : Oid → Entry → Option (Base m)
  base_at o e = if e.head.format == 2 then base_in o e.body else None

  abbrev pub option_list : Option (Base m) → List (Base m)
  option_list None = []
  option_list (Some b) = b ∷ []

  -- the bases of an object that the entries give, by position
  unfoldable pub bases_in : Entries → Oid → List (Base m)
  bases_in [] o = []
  bases_in (x ∷ xs) o = option_list (base_at o x.1) ++ bases_in xs o

  abbrev pub lower : Base m → Option (Base m) → Base m
  lower b None = b
  lower b (Some c) = if nat_le b.upto c.upto then b else c

  -- the one of least `upto`; of several the first
  abbrev pub least_base : List (Base m) → Option (Base m)
  least_base [] = None
  least_base (b ∷ bs) = Some (lower b (least_base bs))

  abbrev pub higher : Base m → Option (Base m) → Base m
  higher b None = b
  higher b (Some c) = if nat_le c.upto b.upto then b else c

  -- the one of greatest `upto`; of several the first
  abbrev pub greatest_base : List (Base m) → Option (Base m)
  greatest_base [] = None
  greatest_base (b ∷ bs) = Some (higher b (greatest_base bs))

  abbrev pub from_upto : ℕ → Base m → Bool
  from_upto below b = nat_le below b.upto

  abbrev pub within : ℕ → ℕ → Base m → Bool
  within below high b = nat_le below b.upto && nat_le b.upto high

  -- the checkpoint of an object with the least `upto` that isn't below this position
  unfoldable pub load_from : Entries → Oid → ℕ → Option (Base m)
  load_from es o below = least_base (filter (from_upto below) (bases_in es o))

  abbrev pub base_or : List Oid → Oid → Option (Base m) → Base m
  base_or objects o None = fresh_base m objects o
  base_or objects o (Some b) = b

  abbrev pub base_by : Entries → List Oid → Oid → Option ℕ → Base m
  base_by es objects o None = fresh_base m objects o
  base_by es objects o (Some below) = base_or objects o (load_from es o below)

  -- the base of an object in a new view: where its walk met a trim, a checkpoint from there on, if there is one; else fresh
  unfoldable pub view_base : Entries → TrimPoints → List Oid → Oid → Base m
  view_base es gone objects o = base_by es objects o (trim_of gone o)

  unfoldable pub view_bases : Entries → TrimPoints → List Oid → List Oid → List (Base m)
  view_bases es gone objects os = map (view_base es gone objects) os

  -- why what is below a mark may not be forgotten

  pub data ForgetFault : Type 0 where
    NoCheckpoint : ForgetFault
    OpenDecision : (pos : ℕ) → ForgetFault

  abbrev pub open_fault : Option ℕ → Option ForgetFault
  open_fault None = None
  open_fault (Some p) = Some (OpenDecision p)

  abbrev pub forget_fault : Entries → Oid → ℕ → Option (Base m) → Option ForgetFault
  forget_fault es o mark None = Some NoCheckpoint
  forget_fault es o mark (Some b) = open_fault (open_decision es es o mark)

  unfoldable pub may_forget : Entries → Oid → ℕ → Option ForgetFault
  may_forget es o mark = forget_fault es o mark (load_from es o mark)
