-- Objects and streams, as both entries and packets have them.
use Rattle.std.specs.Prelude.{ℕ, zero, suc, ◌+◌, ◌-◌, ◌*◌, ◌^◌, max, List, [], ◌∷◌, length, replicate}
use Rattle.tg_codec.specs.Codec.{Codec, u8, u32, u64, fixed, dep, via, many, counted}
use Rattle.tg_base.specs.declared.ids.Oid.{Oid}
use Rattle.tg_base.specs.declared.marks.StreamLink.{StreamLink}

-- any number that fits its bytes
abbrev pub any : List (ℕ × ℕ)
any = (0, 2 ^ 64 - 1) ∷ []

-- any number but 0
abbrev pub from_one : List (ℕ × ℕ)
from_one = (1, 2 ^ 64 - 1) ∷ []

-- The objects' numbers from low on: the directory's, 0, and those of the six other kinds, whose tags stand
-- in the top byte.
abbrev pub oids_from : ℕ → List (ℕ × ℕ)
oids_from low = (low, 0) ∷ (max low 0x01000000, 0x06ffffff) ∷ []

abbrev pub oid : List (ℕ × ℕ) → Codec Oid
oid allowed = via (λ n. record { 0 = n }) (λ o. o.0) (u32 allowed)

abbrev pub oid_number : Oid → ℕ
oid_number o = o.0

-- the positions before one
abbrev pub before : ℕ → ℕ × ℕ
before zero = (1, 0)
before (suc n) = (0, n)

abbrev pub position : ℕ × ℕ → Codec ℕ
position range = u64 (range ∷ [])

abbrev pub then_before : ℕ × ℕ → ℕ → ℕ × ℕ
then_before range pos = before pos

-- so many zeros
abbrev pub zeros : ℕ → Codec (Unit {0})
zeros n = fixed (replicate n 0)

-- A count, so many positions that fall, and zeros in place of those that are missing.
abbrev pub backs : Codec (List ℕ)
backs =
    via (λ p. p.1.0) (λ ps. (length ps, (ps, tt)))
    (dep (u8 ((0, 4) ∷ [])) (λ n. dep (many position then_before n (0, 2 ^ 64 - 1)) (λ _. zeros (8 * (4 - n)))))

-- a stream, whose object is low at least
abbrev pub link : ℕ → Codec StreamLink
link low = via (λ p. record { oid = p.0; backs = p.1 }) (λ l. (l.oid, l.backs)) (dep (oid (oids_from low)) (λ _. backs))

abbrev pub after_link : ℕ → StreamLink → ℕ
after_link low l = l.oid.0 + 1

-- streams that rise by object, behind their count
abbrev pub links : List (ℕ × ℕ) → Codec (List StreamLink)
links counts = counted counts (λ n. many link after_link n 0)
