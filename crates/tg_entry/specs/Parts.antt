-- A part is one field: it is above the part before, if there is one.
use Rattle.std.specs.Prelude.{ℕ, zero, suc, ◌+◌, ◌-◌, ◌^◌, nat_lt, List, [], ◌∷◌, Option, Some, None, if◌then◌else◌}
use Rattle.tg_base.specs.declared.marks.Part.{Part}
use Rattle.tg_base.specs.declared.marks.Part.TheVariants.{All, Text, Num}
use Rattle.tg_codec.specs.Codec.{Codec, u16, u64, nothing, behind, variant, tagged}
use Rattle.tg_codec.specs.Bounds.{tops, raw_above}

abbrev pub part_tag : Part → ℕ
part_tag All = 0
part_tag (Text t) = 1
part_tag (Num n) = 2

abbrev pub as_all : Part → Option (Unit {0})
as_all All = Some tt
as_all (Text t) = None
as_all (Num n) = None

abbrev pub as_text : Part → Option (List ℕ)
as_text All = None
as_text (Text t) = Some t
as_text (Num n) = None

abbrev pub as_num : Part → Option ℕ
as_num All = None
as_num (Text t) = None
as_num (Num n) = Some n

-- the numbers above low up to high
abbrev pub over : ℕ → ℕ → ℕ × ℕ
over low high = if nat_lt low high then (low + 1, high) else (1, 0)

-- The least tag of a part above the one before. A text of nothing but the greatest byte, as long as texts are,
-- has no text above it, and the greatest number has no part above it.
abbrev pub least_tag : Option Part → ℕ
least_tag None = 0
least_tag (Some All) = 1
least_tag (Some (Text t)) = if nat_lt (tops t) 4096 then 1 else 2
least_tag (Some (Num n)) = if nat_lt n (2 ^ 64 - 1) then 2 else 3

-- the text that a text above the part before is above
abbrev pub text_bound : Option Part → List ℕ
text_bound None = []
text_bound (Some All) = []
text_bound (Some (Text t)) = t
text_bound (Some (Num n)) = []

-- a text of up to 4,096 bytes above another
abbrev pub text_above : List ℕ → Codec (List ℕ)
text_above bound = behind (u16 ((tops bound + 1, 4096) ∷ [])) (raw_above bound)

-- the numbers above the part before
abbrev pub number_range : Option Part → ℕ × ℕ
number_range None = (0, 2 ^ 64 - 1)
number_range (Some All) = (0, 2 ^ 64 - 1)
number_range (Some (Text t)) = (0, 2 ^ 64 - 1)
number_range (Some (Num n)) = over n (2 ^ 64 - 1)

abbrev pub part_body : Option Part → ℕ → Codec Part
part_body before zero = variant (λ _. All) as_all nothing
part_body before (suc zero) = variant Text as_text (text_above (text_bound before))
part_body before (suc (suc n)) = variant Num as_num (u64 (number_range before ∷ []))

abbrev pub part_above : Option Part → Codec Part
part_above before = tagged ((least_tag before, 2) ∷ []) part_tag (part_body before)
