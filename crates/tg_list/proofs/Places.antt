-- The place of a refusal is the length of the longest front that is lawful so far.
use Rattle.std.proofs.Common.{◌≡◌, ℕ, List, Result, Ok, Err}
use Rattle.tg_codec.specs.Codec.{Codec}
use Rattle.tg_codec.specs.Reading.{Read}
use Rattle.tg_codec.specs.Whole.{ended, whole, IsLongestLawful}
use Rattle.tg_codec.proofs.Laws.{IsBytes, IsCodec}
use Rattle.tg_codec.proofs.Wholes.{whole_law}
use Rattle.tg_kind.specs.Bytes.{Answers, front}
use Rattle.tg_kind.specs.declared.fault.KindFault.{KindFault}
use Rattle.tg_kind.specs.declared.fault.KindFault.TheVariants.{BadBytes, NoMemory}
use Rattle.tg_list.specs.Refusals.{OnBadBytes}

pub whole_place : {A : Type 0} {c : Codec A} → IsCodec c → (bytes : List ℕ) → IsBytes bytes → (r : Result A KindFault) → Answers r (whole c bytes) → OnBadBytes r (IsLongestLawful c bytes)
whole_place law bytes fits (Ok x) h = tt
whole_place law bytes fits (Err NoMemory) h = tt
whole_place law bytes fits (Err (BadBytes at)) h = (whole_law law bytes fits).place at h

-- where nothing is read in front, nothing is read of the whole
front_stops : {A : Type 0} (bytes : List ℕ) (read : Read A) (at : ℕ) → front bytes read ≡ Err at → ended bytes read ≡ Err at
front_stops bytes (Ok x) at e = absurd cc
front_stops bytes (Err left) at e = cc

pub front_place : {A : Type 0} {c : Codec A} → IsCodec c → (bytes : List ℕ) → IsBytes bytes → (r : Result (A × ℕ) KindFault) → Answers r (front bytes (c.read bytes)) → OnBadBytes r (IsLongestLawful c bytes)
front_place law bytes fits (Ok x) h = tt
front_place law bytes fits (Err NoMemory) h = tt
front_place {A} {c} law bytes fits (Err (BadBytes at)) h = (whole_law law bytes fits).place at (front_stops bytes (c.read bytes) at h)
