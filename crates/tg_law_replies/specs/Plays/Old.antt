-- Entries of format 1, whose reads are of whole objects.
use Rattle.std.specs.Prelude.{◌≡◌, ℕ, ◌+◌, ◌&&◌, ◌==◌, Bool, true, List, [], ◌∷◌, map, Some, if◌then◌else◌, Contains}
use Rattle.std.specs.List.{list_any, list_all}
use Rattle.tg_base.specs.declared.ids.Oid.{Oid}
use Rattle.tg_base.specs.declared.marks.ReadMark.{ReadMark}
use Rattle.tg_entry.specs.declared.entry.WriteOp.{WriteOp}
use Rattle.tg_entry.specs.declared.entry.Entry.{Entry}
use Rattle.tg_kind.specs.Meaning.{Meaning}
use Rattle.tg_protocol.specs.Words.{has_oid}
use Rattle.tg_base.specs.Orders.{oid_eq}
use Rattle.tg_entry.specs.Needs.{reads_of, writes_of}
use Rattle.tg_protocol.specs.Entries.{is_commit}
use Rattle.tg_protocol.specs.Pages.{entry_of}
use Rattle.tg_protocol.specs.Views.{Entries, fresh_base, view_start, fate_of, play}
use Rattle.tg_law_replies.specs.Plays.Sound.{IsRising}

-- Outcomes by whole objects: a record commits where none of the objects that it read was written by a committed record since.
-- Nothing is said of parts.

abbrev pub is_write_of : Oid → WriteOp → Bool
is_write_of o w = oid_eq w.oid o

-- one past the last of these records that wrote the object; they stand last first
abbrev pub last_write : Entries → Oid → ℕ
last_write [] o = 0
last_write (x ∷ xs) o = if list_any (is_write_of o) (writes_of x.1) then x.0 + 1 else last_write xs o

abbrev pub is_unchanged : Entries → ReadMark → Bool
is_unchanged done r = last_write done r.oid == r.version

abbrev pub commits_whole : Entries → Entry → Bool
commits_whole done e = is_commit e && list_all (is_unchanged done) (reads_of e)

-- the committed records among entries, after those that were committed before
abbrev pub whole_outcomes : Entries → Entries → Entries
whole_outcomes done [] = done
whole_outcomes done (x ∷ xs) = whole_outcomes (if commits_whole done x.1 then x ∷ done else done) xs

abbrev pub has_position : ℕ → ℕ × Entry → Bool
has_position p x = x.0 == p

abbrev pub commits_at : Entries → ℕ → Bool
commits_at es p = list_any (has_position p) (whole_outcomes [] es)

-- each was read from a page of format 1
abbrev pub AreOld : Entries → Type 0
AreOld es = (p : ℕ) (e : Entry) → Contains es (p, e) → (e.head.format ≡ 1) × ((page : List ℕ) × (entry_of page ≡ Some e))

-- what records read and write is hosted, and no decision record is among them
pub record AreHosted (os : List Oid) (es : Entries) : Type 0 where
  pub commits : (p : ℕ) (e : Entry) → Contains es (p, e) → is_commit e ≡ true
  pub reads : (p : ℕ) (e : Entry) (r : ReadMark) → Contains es (p, e) → Contains (reads_of e) r → has_oid r.oid os ≡ true
  pub writes : (p : ℕ) (e : Entry) (w : WriteOp) → Contains es (p, e) → Contains (writes_of e) w → has_oid w.oid os ≡ true

-- a new view, played over entries of format 1, has the fates of whole reads
abbrev pub OldEntriesWhole : Meaning → Type 0
OldEntriesWhole m = (es : Entries) (os objects : List Oid) (upto p : ℕ) (b : Bool) → IsRising es → AreOld es → AreHosted os es →
    fate_of m (play m (view_start m (map (fresh_base m objects) os)) es upto).view p ≡ Some b → b ≡ commits_at es p
