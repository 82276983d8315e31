-- What an entry of format 2 keeps, field by field. By this a writer of records knows that they have a spelling.
use Rattle.std.specs.Prelude.{◌≡◌, ◌<◌, ◌≤◌, ◌^◌, ℕ, Bool, true, not, ◌&&◌, ◌||◌, ◌==◌, nat_lt, nat_le, List, [], ◌∷◌, length, map}
use Rattle.std.specs.List.{list_all}
use Rattle.std.specs.Ordering.{is_lt}
use Rattle.tg_base.specs.declared.ids.Oid.{Oid}
use Rattle.tg_base.specs.declared.marks.Part.{Part}
use Rattle.tg_base.specs.declared.marks.Part.TheVariants.{All, Text, Num}
use Rattle.tg_base.specs.declared.marks.ReadMark.{ReadMark}
use Rattle.tg_base.specs.declared.marks.StreamLink.{StreamLink}
use Rattle.tg_base.specs.Clusters.{is_user_object}
use Rattle.tg_base.specs.Orders.{oid_eq, oid_lt}
use Rattle.tg_base.specs.Parts.{part_cmp, is_part}
use Rattle.tg_base.specs.Units.{has, is_rising, is_within}
use Rattle.tg_entry.specs.declared.entry.WriteOp.{WriteOp}
use Rattle.tg_entry.specs.declared.entry.Head.{Head}
use Rattle.tg_entry.specs.declared.entry.Entry.{Entry}
use Rattle.tg_entry.specs.declared.entry.Body.TheVariants.{Commit, Decision, Checkpoint}
use Rattle.tg_entry.specs.Reads.{is_all}
use Rattle.tg_entry.specs.Writes.{stream_numbers}
use Rattle.tg_entry.specs.Checkpoints.{Keyed}
use Rattle.tg_entry.specs.Format.{entry}

-- the directory, or an object of one of the six other kinds
abbrev pub is_object : Oid → Bool
is_object o = o.0 == 0 || is_user_object o

abbrev pub is_byte : ℕ → Bool
is_byte b = nat_lt b 256

-- a number of eight bytes
abbrev pub is_number : ℕ → Bool
is_number n = nat_lt n (2 ^ 64)

-- ---- streams

-- each position is below the one before it
abbrev pub is_falling : List ℕ → Bool
is_falling [] = true
is_falling (p ∷ []) = true
is_falling (p ∷ q ∷ qs) = nat_lt q p && is_falling (q ∷ qs)

abbrev pub are_backs : List ℕ → Bool
are_backs ps = nat_le (length ps) 4 && list_all is_number ps && is_falling ps

abbrev pub is_stream : StreamLink → Bool
is_stream l = is_object l.oid && are_backs l.backs

pub record IsHead (h : Head) : Type 0 where
  pub format : h.format ≡ 2
  pub client : h.client < 2 ^ 16
  pub number : 1 ≤ h.number
  pub within : h.number < 2 ^ 32
  pub some : 1 ≤ length h.streams
  pub few : length h.streams ≤ 16
  pub streams : list_all is_stream h.streams ≡ true
  pub rising : is_rising (stream_numbers h.streams) ≡ true

-- ---- commit records

abbrev pub is_read : ReadMark → Bool
is_read m = is_object m.oid && is_part m.part && is_number m.version

-- by object, and then by part
abbrev pub read_lt : ReadMark → ReadMark → Bool
read_lt m n = oid_lt m.oid n.oid || (oid_eq m.oid n.oid && is_lt (part_cmp m.part n.part))

abbrev pub reads_rise : List ReadMark → Bool
reads_rise [] = true
reads_rise (m ∷ []) = true
reads_rise (m ∷ n ∷ ms) = read_lt m n && reads_rise (n ∷ ms)

abbrev pub is_write : WriteOp → Bool
is_write w = is_object w.oid && is_within 1 4096 (length w.op)

-- the objects that are written
abbrev pub written : List WriteOp → List ℕ
written ws = map (λ w. w.oid.0) ws

pub record IsCommit (h : Head) (rs : List ReadMark) (ws : List WriteOp) : Type 0 where
  pub head : IsHead h
  pub reads : list_all is_read rs ≡ true
  pub few_reads : length rs ≤ 64
  pub rising : reads_rise rs ≡ true
  pub writes : list_all is_write ws ≡ true
  pub few_writes : length ws ≤ 64
  -- the streams are exactly the objects written
  pub streams : (n : ℕ) → has (stream_numbers h.streams) n ≡ has (written ws) n

-- ---- checkpoints

-- a part that isn't the whole, with a version above that of the whole and not above the object's
abbrev pub is_key : ℕ → ℕ → Part × ℕ → Bool
is_key whole version k = is_part k.0 && not (is_all k.0) && nat_lt whole k.1 && nat_le k.1 version

abbrev pub keys_rise : Keyed → Bool
keys_rise [] = true
keys_rise (k ∷ []) = true
keys_rise (k ∷ l ∷ ks) = is_lt (part_cmp k.0 l.0) && keys_rise (l ∷ ks)

pub record IsCheckpoint (h : Head) (oid : Oid) (upto version whole : ℕ) (keys : Keyed) (state : List ℕ) : Type 0 where
  pub head : IsHead h
  -- the one stream is the object
  pub stream : stream_numbers h.streams ≡ oid.0 ∷ []
  pub upto_fits : upto < 2 ^ 64
  pub version_fits : version < 2 ^ 64
  pub below : whole ≤ version
  pub each_key : list_all (is_key whole version) keys ≡ true
  pub few_keys : length keys < 2 ^ 16
  pub rising : keys_rise keys ≡ true
  pub few_bytes : length state < 2 ^ 16

-- ---- the law

-- such entries have a spelling
pub record RecordsFit : Type 0 where
  pub commits : (h : Head) (rs : List ReadMark) (ws : List WriteOp) → IsCommit h rs ws → entry.fits (record { head = h; body = Commit rs ws }) ≡ true
  pub decisions : (h : Head) (at : ℕ) (fate : Bool) → IsHead h → at < 2 ^ 64 → entry.fits (record { head = h; body = Decision at fate }) ≡ true
  pub checkpoints : (h : Head) (oid : Oid) (upto version whole : ℕ) (keys : Keyed) (state : List ℕ) → IsCheckpoint h oid upto version whole keys state
      → entry.fits (record { head = h; body = Checkpoint oid upto version whole keys state }) ≡ true

-- ---- an entry whose streams get their last positions

abbrev pub has_backs : StreamLink → Bool
has_backs l = are_backs l.backs

-- the entry with these links, as a draft has those that were issued
abbrev pub linked : Entry → List StreamLink → Entry
linked e ls = record { head = record { format = e.head.format; client = e.head.client; number = e.head.number; streams = ls }; body = e.body }

-- an entry that has a spelling still has one with other last positions in the same streams
abbrev pub LinkedFit : Type 0
LinkedFit = (e : Entry) (ls : List StreamLink) → stream_numbers ls ≡ stream_numbers e.head.streams → list_all has_backs ls ≡ true → entry.fits e ≡ true → entry.fits (linked e ls) ≡ true
