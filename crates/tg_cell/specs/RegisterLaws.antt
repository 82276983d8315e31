-- The laws of registers.
use Rattle.std.specs.Prelude.{◌≡◌, ℕ, Bool, true, false, List, ◌++◌, Ok, refl, ◌≤◌, length}
use Rattle.tg_base.specs.declared.ids.Oid.{Oid}
use Rattle.tg_codec.proofs.Laws.{IsCodec, via_law, no_front, and-left, and-right, both}
use Rattle.tg_kind.specs.Bytes.{IsBytes}
use Rattle.tg_kind.specs.Headers.{is_header}
use Rattle.tg_base.specs.Parts.{is_part}
use Rattle.tg_kind.specs.Parts.{overlap}
use Rattle.tg_kind.specs.Words as words
use Rattle.tg_kind.specs.Texts.{text_format, text_law}
use Rattle.tg_cell.specs.declared.register.RegisterOp.{RegisterOp}
use Rattle.tg_cell.specs.declared.register.RegisterOp.TheVariants.{Write}
use Rattle.tg_cell.specs.declared.register.RegisterAsk.{RegisterAsk}
use Rattle.tg_cell.specs.Registers.{Contents, is_object, is_state, is_of, first, applied, answered, touched, looked, state_format, saved, loaded, written, op_format}

pub state_law : IsCodec state_format
state_law = words.after_law 2 _ (words.maybe_law text_format text_law)

written_back : (op : RegisterOp) → Write (written op) ≡ op
written_back (Write text) = refl

pub op_law : IsCodec op_format
op_law = via_law _ _ (words.after_law 0x20 text_format text_law) (λ t e. refl) written_back

pub first_is : (o : Oid) (os : List Oid) → is_object o ≡ true → is_header os ≡ true → is_state o (first o os) ≡ true
first_is o os e h = both _ _ e refl

pub applied_is : (o : Oid) (s : Contents) (op : RegisterOp) → is_state o s ≡ true → op_format.fits op ≡ true → is_state o (applied s op) ≡ true
applied_is o s (Write text) e f = both _ _ (and-left _ _ e) f

not_false : (b : Bool) → b ≡ true → b ≡ false → ⊥
not_false true e f = absurd cc
not_false false e f = absurd cc

pub other_kind : (o : Oid) (s : Contents) (op : RegisterOp) → is_state o s ≡ true → is_of o op ≡ false → applied s op ≡ s
other_kind o s op e f = absurd (not_false (is_object o) (and-left _ _ e) f)

pub touched_is : (op : RegisterOp) → op_format.fits op ≡ true → is_part (touched op) ≡ true
touched_is op e = refl

pub apart : (s : Contents) (op : RegisterOp) (ask : RegisterAsk) → overlap (touched op) (looked ask) ≡ false → answered (applied s op) ask ≡ answered s ask
apart s op ask e = absurd cc

pub loads_saved : (o : Oid) (s : Contents) → is_state o s ≡ true → loaded o (saved s) ≡ Ok s
loads_saved o s e = words.loads_saved state_format state_law.exact s (and-right _ _ e)

pub loads_only : (o : Oid) (bytes : List ℕ) (s : Contents) → is_object o ≡ true → IsBytes bytes → loaded o bytes ≡ Ok s → (is_state o s ≡ true) × (bytes ≡ saved s)
loads_only o bytes s is fits e = let t = words.loads_only state_format state_law.exact bytes s fits e in (both _ _ is t.0, t.1)

pub reads_spelled : (op : RegisterOp) (rest : List ℕ) → op_format.fits op ≡ true → op_format.read (op_format.spell op ++ rest) ≡ Ok (op, rest)
reads_spelled op rest e = op_law.exact.again op rest e

pub reads_only : (bytes : List ℕ) (op : RegisterOp) (rest : List ℕ) → IsBytes bytes → op_format.read bytes ≡ Ok (op, rest) → (op_format.fits op ≡ true) × (bytes ≡ op_format.spell op ++ rest)
reads_only bytes op rest fits e = words.reads_only op_format op_law.exact bytes op rest fits e

pub spelled_some : (op : RegisterOp) → op_format.fits op ≡ true → 1 ≤ length (op_format.spell op)
spelled_some op e = words.after_some 0x20 text_format (written op)

pub no_front_law : (a b : RegisterOp) (x y : List ℕ) → op_format.fits a ≡ true → op_format.fits b ≡ true → op_format.spell a ++ x ≡ op_format.spell b ++ y → a ≡ b
no_front_law a b x y f g e = no_front op_format op_law.exact a b x y f g e
