-- Fields of messages.
use Rattle.std.specs.Prelude.{ℕ, zero, suc, ◌+◌, ◌==◌, not, List, [], ◌∷◌, ◌++◌, filter, Option, Some, None}
use Rattle.std.specs.List.{list_any}
use Rattle.tg_base.specs.Layouts.{Layout}
use Rattle.tg_base.specs.declared.cell.Cell.{Cell}
use Rattle.tg_base.specs.declared.cell.Cell.TheVariants.{Junk, Data}
use Rattle.tg_base.specs.declared.ids.Oid.{Oid}
use Rattle.tg_base.specs.declared.ids.Ballot.{Ballot}
use Rattle.tg_base.specs.declared.layout.Range.{Range}
use Rattle.tg_codec.specs.Codec.{Codec, u16, u32, u64, nothing, dep, via, many, counted, text, variant, tagged}
use Rattle.tg_codec.specs.Owing.{points}
use Rattle.tg_codec.specs.Streams.{any, from_one, oids_from, oid}

-- a page behind its length
abbrev pub page : Codec (List ℕ)
page = text ((0, 4096) ∷ [])

abbrev pub cell_tag : Cell → ℕ
cell_tag Junk = 0
cell_tag (Data p) = 1

abbrev pub as_junk : Cell → Option (Unit {0})
as_junk Junk = Some tt
as_junk (Data p) = None

abbrev pub as_data : Cell → Option (List ℕ)
as_data Junk = None
as_data (Data p) = Some p

abbrev pub cell_body : ℕ → Codec Cell
cell_body zero = variant (λ _. Junk) as_junk nothing
cell_body (suc n) = variant Data as_data page

-- 0 for junk, or 1 and a page
abbrev pub cell : Codec Cell
cell = tagged ((0, 1) ∷ []) cell_tag cell_body

abbrev pub object : ℕ → Codec Oid
object low = oid (oids_from low)

abbrev pub after_object : ℕ → Oid → ℕ
after_object low o = o.0 + 1

-- objects that rise, behind their count
abbrev pub objects : List (ℕ × ℕ) → Codec (List Oid)
objects counts = counted counts (λ n. many object after_object n 0)

abbrev pub ballot : Codec Ballot
ballot = via (λ p. record { round = p.0; client = p.1 }) (λ b. (b.round, b.client)) (dep (u32 any) (λ _. u16 any))

-- units dropped, which rise
abbrev pub gone_unit : ℕ → Codec ℕ
gone_unit low = u16 ((low, 63) ∷ [])

abbrev pub after_gone : ℕ → ℕ → ℕ
after_gone low u = u + 1

abbrev pub gone : Codec (List ℕ)
gone = counted any (λ n. many gone_unit after_gone n 0)

-- the numbers below one
unfoldable pub below : ℕ → List ℕ
below zero = []
below (suc n) = below n ++ n ∷ []

-- the units that a chain does not have yet
abbrev pub others : List ℕ → List ℕ
others used = filter (λ u. not (list_any (λ v. v == u) used)) (below 64)

abbrev pub chain_unit : List ℕ → Codec ℕ
chain_unit used = u16 (points (others used))

abbrev pub after_unit : List ℕ → ℕ → List ℕ
after_unit used u = u ∷ used

-- one to five units, each once
unfoldable pub chain : Codec (List ℕ)
chain = counted ((1, 5) ∷ []) (λ n. many chain_unit after_unit n [])

abbrev pub stripe : Unit {0} → Codec (List ℕ)
stripe s = chain

abbrev pub after_stripe : Unit {0} → List ℕ → Unit {0}
after_stripe s c = s

unfoldable pub stripes : Codec (List (List ℕ))
stripes = counted ((1, 8) ∷ []) (λ n. many stripe after_stripe n tt)

-- a range that begins within some positions
abbrev pub range : ℕ × ℕ → Codec Range
range s = via (λ p. record { lo = p.0; stripes = p.1 }) (λ r. (r.lo, r.stripes)) (dep (u64 (s ∷ [])) (λ _. stripes))

abbrev pub after_range : ℕ → ℕ × ℕ → Range → ℕ × ℕ
after_range start s r = (r.lo, start)

-- The first range begins at 0. The others' beginnings do not fall, and none is above the projection's start.
unfoldable pub ranges : ℕ → Codec (List Range)
ranges start = counted ((1, 32) ∷ []) (λ n. many range (after_range start) n (0, 0))

-- a projection whose epoch is from some ranges
unfoldable pub projection_of : List (ℕ × ℕ) → Codec Layout
projection_of epochs =
    via (λ p. record { epoch = p.0; seq = p.1.0; start = p.1.1.0; by = p.1.1.1.0; gone = p.1.1.1.1.0; ranges = p.1.1.1.1.1 })
    (λ l. (l.epoch, (l.seq, (l.start, (l.by, (l.gone, l.ranges))))))
    (dep (u64 epochs) (λ _. dep (u16 any) (λ _. dep (u64 any) (λ start. dep (u16 any) (λ _. dep gone (λ _. ranges start))))))

abbrev pub projection : Codec Layout
projection = projection_of from_one

abbrev pub Proposal : Type 0
Proposal = Ballot × Layout

-- a ballot, and a projection of this epoch
abbrev pub proposal : ℕ → Codec Proposal
proposal epoch = dep ballot (λ _. projection_of ((epoch, epoch) ∷ []))

abbrev pub vote_tag : Option Proposal → ℕ
vote_tag None = 0
vote_tag (Some p) = 1

abbrev pub as_none : Option Proposal → Option (Unit {0})
as_none None = Some tt
as_none (Some p) = None

abbrev pub as_some : Option Proposal → Option Proposal
as_some None = None
as_some (Some p) = Some p

abbrev pub vote_body : ℕ → Codec (Option Proposal)
vote_body zero = variant (λ _. None) as_none nothing
vote_body (suc n) = variant Some as_some (dep ballot (λ _. projection))

-- 0, or 1 with ballot and projection
abbrev pub vote : Codec (Option Proposal)
vote = tagged ((0, 1) ∷ []) vote_tag vote_body
