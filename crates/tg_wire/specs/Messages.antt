-- Messages, each behind its tag.
use Rattle.std.specs.Prelude.{ℕ, List, [], ◌∷◌, Option, Some, None}
use Rattle.tg_base.specs.Layouts.{Layout}
use Rattle.tg_base.specs.declared.cell.Cell.{Cell}
use Rattle.tg_base.specs.declared.ids.Oid.{Oid}
use Rattle.tg_base.specs.declared.ids.Ballot.{Ballot}
use Rattle.tg_base.specs.declared.marks.StreamLink.{StreamLink}
use Rattle.tg_base.specs.declared.msg.Msg.{Msg}
use Rattle.tg_base.specs.declared.msg.Msg.TheVariants.{Read, Write, Fill, Copy, Has, Seal, Trim, Held, Taken, Unwritten, Gone, Fenced, Sealed, Missing, Whole, Prepare, Accept, Decided, AskLatest, Promise, Nack, Accepted, Latest, Learn, Token, Check, Issued, Tail, Scanning, OldEpoch, Full}
use Rattle.tg_codec.specs.Codec.{Codec, u64, dep, nothing, variant, tagged, from_table}
use Rattle.tg_codec.specs.Streams.{any, from_one, links}
use Rattle.tg_wire.specs.Fields.{page, cell, objects, ballot, projection, proposal, vote}

abbrev pub tag_of : Msg → ℕ
tag_of (Read x0 x1) = 0x01
tag_of (Write x0 x1 x2) = 0x02
tag_of (Fill x0 x1) = 0x03
tag_of (Copy x0 x1 x2) = 0x04
tag_of (Has x0 x1 x2 x3) = 0x05
tag_of (Seal x0) = 0x06
tag_of (Trim x0 x1) = 0x07
tag_of Held = 0x11
tag_of (Taken x0) = 0x12
tag_of Unwritten = 0x13
tag_of (Gone x0) = 0x14
tag_of (Fenced x0) = 0x15
tag_of (Sealed x0 x1) = 0x16
tag_of (Missing x0) = 0x17
tag_of Whole = 0x18
tag_of (Prepare x0 x1) = 0x21
tag_of (Accept x0 x1 x2) = 0x22
tag_of (Decided x0) = 0x23
tag_of AskLatest = 0x24
tag_of (Promise x0 x1 x2) = 0x29
tag_of (Nack x0 x1) = 0x2A
tag_of (Accepted x0 x1) = 0x2B
tag_of (Latest x0) = 0x2C
tag_of (Learn x0) = 0x31
tag_of (Token x0 x1) = 0x32
tag_of (Check x0 x1) = 0x33
tag_of (Issued x0 x1) = 0x39
tag_of (Tail x0 x1) = 0x3A
tag_of (Scanning x0 x1) = 0x3B
tag_of (OldEpoch x0) = 0x3C
tag_of (Full x0) = 0x3D

abbrev pub as_read : Msg → Option (ℕ × ℕ)
as_read (Read x0 x1) = Some (x0, x1)
as_read other = None

unfoldable pub read : Codec Msg
read = variant (λ p. Read p.0 p.1) as_read (dep (u64 from_one) (λ _. u64 any))

abbrev pub as_write : Msg → Option (ℕ × (ℕ × List ℕ))
as_write (Write x0 x1 x2) = Some (x0, (x1, x2))
as_write other = None

unfoldable pub write : Codec Msg
write = variant (λ p. Write p.0 p.1.0 p.1.1) as_write (dep (u64 from_one) (λ _. dep (u64 any) (λ _. page)))

abbrev pub as_fill : Msg → Option (ℕ × ℕ)
as_fill (Fill x0 x1) = Some (x0, x1)
as_fill other = None

unfoldable pub fill : Codec Msg
fill = variant (λ p. Fill p.0 p.1) as_fill (dep (u64 from_one) (λ _. u64 any))

abbrev pub as_copy : Msg → Option (ℕ × (ℕ × Cell))
as_copy (Copy x0 x1 x2) = Some (x0, (x1, x2))
as_copy other = None

unfoldable pub copy : Codec Msg
copy = variant (λ p. Copy p.0 p.1.0 p.1.1) as_copy (dep (u64 from_one) (λ _. dep (u64 any) (λ _. cell)))

abbrev pub as_has : Msg → Option (ℕ × (ℕ × (ℕ × ℕ)))
as_has (Has x0 x1 x2 x3) = Some (x0, (x1, (x2, x3)))
as_has other = None

unfoldable pub has : Codec Msg
has = variant (λ p. Has p.0 p.1.0 p.1.1.0 p.1.1.1) as_has (dep (u64 from_one) (λ _. dep (u64 any) (λ _. dep (u64 any) (λ _. u64 from_one))))

abbrev pub as_seal : Msg → Option (ℕ)
as_seal (Seal x0) = Some x0
as_seal other = None

unfoldable pub seal : Codec Msg
seal = variant Seal as_seal (u64 from_one)

abbrev pub as_trim : Msg → Option (ℕ × ℕ)
as_trim (Trim x0 x1) = Some (x0, x1)
as_trim other = None

unfoldable pub trim : Codec Msg
trim = variant (λ p. Trim p.0 p.1) as_trim (dep (u64 from_one) (λ _. u64 any))

abbrev pub as_held : Msg → Option (Unit {0})
as_held Held = Some tt
as_held other = None

unfoldable pub held : Codec Msg
held = variant (λ _. Held) as_held nothing

abbrev pub as_taken : Msg → Option (Cell)
as_taken (Taken x0) = Some x0
as_taken other = None

unfoldable pub taken : Codec Msg
taken = variant Taken as_taken cell

abbrev pub as_unwritten : Msg → Option (Unit {0})
as_unwritten Unwritten = Some tt
as_unwritten other = None

unfoldable pub unwritten : Codec Msg
unwritten = variant (λ _. Unwritten) as_unwritten nothing

abbrev pub as_gone : Msg → Option (ℕ)
as_gone (Gone x0) = Some x0
as_gone other = None

unfoldable pub gone : Codec Msg
gone = variant Gone as_gone (u64 any)

abbrev pub as_fenced : Msg → Option (ℕ)
as_fenced (Fenced x0) = Some x0
as_fenced other = None

unfoldable pub fenced : Codec Msg
fenced = variant Fenced as_fenced (u64 any)

abbrev pub as_sealed : Msg → Option (ℕ × ℕ)
as_sealed (Sealed x0 x1) = Some (x0, x1)
as_sealed other = None

unfoldable pub sealed : Codec Msg
sealed = variant (λ p. Sealed p.0 p.1) as_sealed (dep (u64 any) (λ _. u64 any))

abbrev pub as_missing : Msg → Option (ℕ)
as_missing (Missing x0) = Some x0
as_missing other = None

unfoldable pub missing : Codec Msg
missing = variant Missing as_missing (u64 any)

abbrev pub as_whole : Msg → Option (Unit {0})
as_whole Whole = Some tt
as_whole other = None

unfoldable pub whole : Codec Msg
whole = variant (λ _. Whole) as_whole nothing

abbrev pub as_prepare : Msg → Option (ℕ × Ballot)
as_prepare (Prepare x0 x1) = Some (x0, x1)
as_prepare other = None

unfoldable pub prepare : Codec Msg
prepare = variant (λ p. Prepare p.0 p.1) as_prepare (dep (u64 from_one) (λ _. ballot))

abbrev pub as_accept : Msg → Option (ℕ × (Ballot × Layout))
as_accept (Accept x0 x1 x2) = Some (x0, (x1, x2))
as_accept other = None

unfoldable pub accept : Codec Msg
accept = variant (λ p. Accept p.0 p.1.0 p.1.1) as_accept (dep (u64 from_one) proposal)

abbrev pub as_decided : Msg → Option (Layout)
as_decided (Decided x0) = Some x0
as_decided other = None

unfoldable pub decided : Codec Msg
decided = variant Decided as_decided projection

abbrev pub as_ask_latest : Msg → Option (Unit {0})
as_ask_latest AskLatest = Some tt
as_ask_latest other = None

unfoldable pub ask_latest : Codec Msg
ask_latest = variant (λ _. AskLatest) as_ask_latest nothing

abbrev pub as_promise : Msg → Option (ℕ × (Ballot × (Option (Ballot × Layout))))
as_promise (Promise x0 x1 x2) = Some (x0, (x1, x2))
as_promise other = None

unfoldable pub promise : Codec Msg
promise = variant (λ p. Promise p.0 p.1.0 p.1.1) as_promise (dep (u64 any) (λ _. dep ballot (λ _. vote)))

abbrev pub as_nack : Msg → Option (ℕ × Ballot)
as_nack (Nack x0 x1) = Some (x0, x1)
as_nack other = None

unfoldable pub nack : Codec Msg
nack = variant (λ p. Nack p.0 p.1) as_nack (dep (u64 any) (λ _. ballot))

abbrev pub as_accepted : Msg → Option (ℕ × Ballot)
as_accepted (Accepted x0 x1) = Some (x0, x1)
as_accepted other = None

unfoldable pub accepted : Codec Msg
accepted = variant (λ p. Accepted p.0 p.1) as_accepted (dep (u64 any) (λ _. ballot))

abbrev pub as_latest : Msg → Option (Layout)
as_latest (Latest x0) = Some x0
as_latest other = None

unfoldable pub latest : Codec Msg
latest = variant Latest as_latest projection

abbrev pub as_learn : Msg → Option (Layout)
as_learn (Learn x0) = Some x0
as_learn other = None

unfoldable pub learn : Codec Msg
learn = variant Learn as_learn projection

abbrev pub as_token : Msg → Option (ℕ × List Oid)
as_token (Token x0 x1) = Some (x0, x1)
as_token other = None

unfoldable pub token : Codec Msg
token = variant (λ p. Token p.0 p.1) as_token (dep (u64 from_one) (λ _. objects ((1, 16) ∷ [])))

abbrev pub as_check : Msg → Option (ℕ × List Oid)
as_check (Check x0 x1) = Some (x0, x1)
as_check other = None

unfoldable pub check : Codec Msg
check = variant (λ p. Check p.0 p.1) as_check (dep (u64 from_one) (λ _. objects ((0, 128) ∷ [])))

abbrev pub as_issued : Msg → Option (ℕ × List StreamLink)
as_issued (Issued x0 x1) = Some (x0, x1)
as_issued other = None

unfoldable pub issued : Codec Msg
issued = variant (λ p. Issued p.0 p.1) as_issued (dep (u64 any) (λ _. links ((0, 128) ∷ [])))

abbrev pub as_tail : Msg → Option (ℕ × List StreamLink)
as_tail (Tail x0 x1) = Some (x0, x1)
as_tail other = None

unfoldable pub tail : Codec Msg
tail = variant (λ p. Tail p.0 p.1) as_tail (dep (u64 any) (λ _. links ((0, 128) ∷ [])))

abbrev pub as_scanning : Msg → Option (ℕ × ℕ)
as_scanning (Scanning x0 x1) = Some (x0, x1)
as_scanning other = None

unfoldable pub scanning : Codec Msg
scanning = variant (λ p. Scanning p.0 p.1) as_scanning (dep (u64 any) (λ _. u64 any))

abbrev pub as_old_epoch : Msg → Option (ℕ)
as_old_epoch (OldEpoch x0) = Some x0
as_old_epoch other = None

unfoldable pub old_epoch : Codec Msg
old_epoch = variant OldEpoch as_old_epoch (u64 any)

abbrev pub as_full : Msg → Option (ℕ)
as_full (Full x0) = Some x0
as_full other = None

unfoldable pub full : Codec Msg
full = variant Full as_full (u64 any)

abbrev pub messages : List (ℕ × Codec Msg)
messages =
    (0x01, read) ∷
    (0x02, write) ∷
    (0x03, fill) ∷
    (0x04, copy) ∷
    (0x05, has) ∷
    (0x06, seal) ∷
    (0x07, trim) ∷
    (0x11, held) ∷
    (0x12, taken) ∷
    (0x13, unwritten) ∷
    (0x14, gone) ∷
    (0x15, fenced) ∷
    (0x16, sealed) ∷
    (0x17, missing) ∷
    (0x18, whole) ∷
    (0x21, prepare) ∷
    (0x22, accept) ∷
    (0x23, decided) ∷
    (0x24, ask_latest) ∷
    (0x29, promise) ∷
    (0x2A, nack) ∷
    (0x2B, accepted) ∷
    (0x2C, latest) ∷
    (0x31, learn) ∷
    (0x32, token) ∷
    (0x33, check) ∷
    (0x39, issued) ∷
    (0x3A, tail) ∷
    (0x3B, scanning) ∷
    (0x3C, old_epoch) ∷
    (0x3D, full) ∷ []

abbrev pub tags : List (ℕ × ℕ)
tags = (0x01, 0x07) ∷ (0x11, 0x18) ∷ (0x21, 0x24) ∷ (0x29, 0x2C) ∷ (0x31, 0x33) ∷ (0x39, 0x3D) ∷ []

unfoldable pub message : Codec Msg
message = tagged tags tag_of (from_table messages)
