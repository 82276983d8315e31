-- The laws of counters.
use Rattle.std.specs.Prelude.{◌≡◌, ℕ, Bool, true, false, List, ◌++◌, ℤ, pos, negsuc, ◌+ℤ◌, Ok, refl, ◌≤◌, length}
use Rattle.std.specs.Int.{w64, saturate_signed}
use Rattle.std.proofs.Common.{arith}
use Rattle.std.proofs.lemmas.Bool.{lt-ltb}
use Rattle.tg_base.specs.declared.ids.Oid.{Oid}
use Rattle.tg_codec.proofs.Laws.{IsCodec, via_law, no_front, and-left, and-right, both}
use Rattle.tg_kind.specs.Bytes.{IsBytes}
use Rattle.tg_kind.specs.Headers.{is_header}
use Rattle.tg_base.specs.Parts.{is_part}
use Rattle.tg_kind.specs.Parts.{overlap}
use Rattle.tg_kind.specs.Words as words
use Rattle.tg_cell.specs.Signed.{in_i64, i64, i64_law, spells_i64}
use Rattle.tg_cell.specs.declared.counter.CounterOp.{CounterOp}
use Rattle.tg_cell.specs.declared.counter.CounterOp.TheVariants.{Add}
use Rattle.tg_cell.specs.declared.counter.CounterAsk.{CounterAsk}
use Rattle.tg_cell.specs.Counters.{is_object, is_state, is_of, first, applied, answered, touched, looked, state_format, saved, loaded, added, op_format}

pub state_law : IsCodec state_format
state_law = words.after_law 1 i64 i64_law

added_back : (op : CounterOp) → Add (added op) ≡ op
added_back (Add by) = refl

pub op_law : IsCodec op_format
op_law = via_law _ _ (words.after_law 0x10 i64 i64_law) (λ z e. refl) added_back

pub first_is : (o : Oid) (os : List Oid) → is_object o ≡ true → is_header os ≡ true → is_state o (first o os) ≡ true
first_is o os e h = both _ _ e refl

stays : (z : ℤ) → in_i64 (saturate_signed w64 z) ≡ true
stays (pos n) = lt-ltb _ _ (omega arith)
stays (negsuc n) = lt-ltb _ _ (omega arith)

pub applied_is : (o : Oid) (s : ℤ) (op : CounterOp) → is_state o s ≡ true → op_format.fits op ≡ true → is_state o (applied s op) ≡ true
applied_is o s (Add by) e f = both _ _ (and-left _ _ e) (stays (s +ℤ by))

not_false : (b : Bool) → b ≡ true → b ≡ false → ⊥
not_false true e f = absurd cc
not_false false e f = absurd cc

pub other_kind : (o : Oid) (s : ℤ) (op : CounterOp) → is_state o s ≡ true → is_of o op ≡ false → applied s op ≡ s
other_kind o s op e f = absurd (not_false (is_object o) (and-left _ _ e) f)

pub touched_is : (op : CounterOp) → op_format.fits op ≡ true → is_part (touched op) ≡ true
touched_is op e = refl

pub apart : (s : ℤ) (op : CounterOp) (ask : CounterAsk) → overlap (touched op) (looked ask) ≡ false → answered (applied s op) ask ≡ answered s ask
apart s op ask e = absurd cc

pub loads_saved : (o : Oid) (s : ℤ) → is_state o s ≡ true → loaded o (saved s) ≡ Ok s
loads_saved o s e = words.loads_saved state_format state_law.exact s (spells_i64 s (and-right _ _ e))

pub loads_only : (o : Oid) (bytes : List ℕ) (s : ℤ) → is_object o ≡ true → IsBytes bytes → loaded o bytes ≡ Ok s → (is_state o s ≡ true) × (bytes ≡ saved s)
loads_only o bytes s is fits e = let t = words.loads_only state_format state_law.exact bytes s fits e in (both _ _ is (and-left _ _ t.0), t.1)

pub reads_spelled : (op : CounterOp) (rest : List ℕ) → op_format.fits op ≡ true → op_format.read (op_format.spell op ++ rest) ≡ Ok (op, rest)
reads_spelled op rest e = op_law.exact.again op rest e

pub reads_only : (bytes : List ℕ) (op : CounterOp) (rest : List ℕ) → IsBytes bytes → op_format.read bytes ≡ Ok (op, rest) → (op_format.fits op ≡ true) × (bytes ≡ op_format.spell op ++ rest)
reads_only bytes op rest fits e = words.reads_only op_format op_law.exact bytes op rest fits e

pub spelled_some : (op : CounterOp) → op_format.fits op ≡ true → 1 ≤ length (op_format.spell op)
spelled_some op e = words.after_some 0x10 i64 (added op)

pub no_front_law : (a b : CounterOp) (x y : List ℕ) → op_format.fits a ≡ true → op_format.fits b ≡ true → op_format.spell a ++ x ≡ op_format.spell b ++ y → a ≡ b
no_front_law a b x y f g e = no_front op_format op_law.exact a b x y f g e
