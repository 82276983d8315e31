-- Entries of the log: their sizes, their streams, and which need a decision record.
use Rattle.std.specs.Prelude.{ℕ, ◌+◌, ◌*◌, Bool, true, false, not, ◌&&◌, ◌==◌, nat_le, List, [], ◌∷◌, ◌++◌, length, map, Option, Some, None, find}
use Rattle.std.specs.List.{list_any}
use Rattle.tg_base.specs.declared.ids.Oid.{Oid}
use Rattle.tg_base.specs.declared.marks.Part.{Part}
use Rattle.tg_base.specs.declared.marks.Part.TheVariants.{All, Text, Num}
use Rattle.tg_base.specs.declared.marks.ReadMark.{ReadMark}
use Rattle.tg_base.specs.declared.marks.StreamLink.{StreamLink}
use Rattle.tg_entry.specs.declared.entry.WriteOp.{WriteOp}
use Rattle.tg_entry.specs.declared.entry.Body.{Body}
use Rattle.tg_entry.specs.declared.entry.Body.TheVariants.{Commit, Decision, Checkpoint}
use Rattle.tg_entry.specs.declared.entry.Entry.{Entry}
use Rattle.tg_protocol.specs.Words.{where_true}
use Rattle.tg_base.specs.Orders.{oid_eq, rising_oids}

-- Sizes, in bytes.

abbrev pub sum_of : List ℕ → ℕ
sum_of [] = 0
sum_of (x ∷ xs) = x + sum_of xs

abbrev pub part_size : Part → ℕ
part_size All = 1
part_size (Text t) = 3 + length t
part_size (Num n) = 9

abbrev pub read_size : ReadMark → ℕ
read_size r = 12 + part_size r.part

abbrev pub write_size : WriteOp → ℕ
write_size w = 6 + length w.op

-- the head with n streams
abbrev pub head_size : ℕ → ℕ
head_size n = 9 + 1 + 37 * n

abbrev pub commit_size : ℕ → List ReadMark → List WriteOp → ℕ
commit_size n rs ws = head_size n + 2 + sum_of (map read_size rs) + sum_of (map write_size ws)

abbrev pub key_size : Part × ℕ → ℕ
key_size k = part_size k.0 + 8

abbrev pub body_size : Body → ℕ
body_size (Commit rs ws) = 2 + sum_of (map read_size rs) + sum_of (map write_size ws)
body_size (Decision at is_yes) = 9
body_size (Checkpoint o u v w ks s) = 4 + 8 + 8 + 8 + 2 + sum_of (map key_size ks) + 2 + length s

-- the size in format 02, in which every entry is written
unfoldable pub entry_size : Entry → ℕ
entry_size e = head_size (length e.head.streams) + body_size e.body

-- Streams.

abbrev pub link_of : Oid → List StreamLink → Option StreamLink
link_of o ls = find (λ l. oid_eq l.oid o) ls

-- the entry stands in this stream
abbrev pub lists : Entry → Oid → Bool
lists e o = list_any (λ l. oid_eq l.oid o) e.head.streams

abbrev pub backs_of : Option StreamLink → List ℕ
backs_of None = []
backs_of (Some l) = l.backs

-- the positions before it in this stream, newest first
abbrev pub backs_in : Entry → Oid → List ℕ
backs_in e o = backs_of (link_of o e.head.streams)

-- a link without positions, as drafts have them
abbrev pub unlinked : Oid → StreamLink
unlinked o = record { oid = o; backs = [] }

abbrev pub oid_of_link : StreamLink → Oid
oid_of_link l = l.oid

abbrev pub streams_of : Entry → List Oid
streams_of e = map oid_of_link e.head.streams

-- an entry before its position is issued: in these streams, rising, by this client
abbrev pub draft : ℕ → ℕ → List Oid → Body → Entry
draft client number oids body = record { head = record { format = 2; client = client; number = number; streams = map unlinked oids }; body = body }

-- Commit records.

abbrev pub body_commits : Body → Bool
body_commits (Commit rs ws) = true
body_commits _ = false

abbrev pub is_commit : Entry → Bool
is_commit e = body_commits e.body

-- a decision record for this position, and what it says
abbrev pub decides : ℕ → Body → Option Bool
decides p (Decision at is_yes) = where_true (at == p) is_yes
decides p _ = None
