-- The fields of messages keep the law.
use Rattle.std.proofs.Common.{◌≡◌, ℕ, zero, suc, true, List, [], ◌∷◌, Option, Some, None, refl, arith}
use Rattle.tg_base.specs.declared.cell.Cell.{Cell}
use Rattle.tg_base.specs.declared.cell.Cell.TheVariants.{Junk, Data}
use Rattle.tg_base.specs.Layouts.{Layout}
use Rattle.tg_codec.specs.Reading.{meets}
use Rattle.tg_codec.proofs.Laws.{IsCodec, nothing_law, dep_law, via_law, variant_law}
use Rattle.tg_codec.proofs.Widths.{u16_law, u32_law, u64_law}
use Rattle.tg_codec.proofs.Shapes.{counted_many_law, text_law, tagged_law, met_within}
use Rattle.tg_codec.proofs.Objects.{oid_law}
use Rattle.tg_wire.specs.Fields.{cell_tag, as_junk, as_data, cell_body, cell, object, after_object, objects, ballot, gone_unit, after_gone, gone, chain_unit, after_unit, chain, stripe, after_stripe, stripes, range, after_range, ranges, projection_of, projection, Proposal, vote_tag, as_none, as_some, vote_body, vote}

last_tag : (k : ℕ) → meets ((0, 1) ∷ []) (suc k) (suc k) ≡ true → 1 ≡ suc k
last_tag k e = let h = met_within 0 1 (suc k) e in omega (arith, h.1)

junk-back : (x : Cell) (p : Unit {0}) → as_junk x ≡ Some p → Junk ≡ x
junk-back Junk p e = refl
junk-back (Data b) p e = absurd cc

data-back : (x : Cell) (p : List ℕ) → as_data x ≡ Some p → Data p ≡ x
data-back Junk p e = absurd cc
data-back (Data b) p e = cc

cell_body_law : (t : ℕ) → IsCodec (cell_body t)
cell_body_law zero = variant_law _ _ nothing_law (λ p. refl) junk-back
cell_body_law (suc n) = variant_law _ _ (text_law ((0, 4096) ∷ [])) (λ p. refl) data-back

cell-tag : (t : ℕ) (x : Cell) → meets ((0, 1) ∷ []) t t ≡ true → (cell_body t).fits x ≡ true → cell_tag x ≡ t
cell-tag zero Junk m e = refl
cell-tag zero (Data p) m e = absurd cc
cell-tag (suc k) Junk m e = absurd cc
cell-tag (suc k) (Data p) m e = last_tag k m

pub cell_law : IsCodec cell
cell_law = tagged_law _ cell_tag cell_body cell_body_law cell-tag

pub objects_law : (counts : List (ℕ × ℕ)) → IsCodec (objects counts)
objects_law counts = counted_many_law counts object after_object (λ _. 0) (λ low. oid_law _)

pub ballot_law : IsCodec ballot
ballot_law = via_law _ _ (dep_law (u32_law _) (λ _. u16_law _)) (λ x e. refl) (λ y. refl)

pub gone_law : IsCodec gone
gone_law = counted_many_law _ gone_unit after_gone (λ _. 0) (λ low. u16_law _)

chain_law : IsCodec chain
unfolding chain
chain_law = counted_many_law _ chain_unit after_unit (λ _. []) (λ used. u16_law _)

stripes_law : IsCodec stripes
unfolding stripes
stripes_law = counted_many_law _ stripe after_stripe (λ _. tt) (λ s. chain_law)

range_law : (s : ℕ × ℕ) → IsCodec (range s)
range_law s = via_law _ _ (dep_law (u64_law (s ∷ [])) (λ _. stripes_law)) (λ x e. refl) (λ y. refl)

pub ranges_law : (start : ℕ) → IsCodec (ranges start)
unfolding ranges
ranges_law start = counted_many_law _ range (after_range start) (λ _. (0, 0)) range_law

pub projection_of_law : (epochs : List (ℕ × ℕ)) → IsCodec (projection_of epochs)
unfolding projection_of
projection_of_law epochs =
    via_law _ _ (dep_law (u64_law _) (λ _. dep_law (u16_law _) (λ _. dep_law (u64_law _) (λ start. dep_law (u16_law _) (λ _. dep_law gone_law (λ _. ranges_law start))))))
    (λ x e. refl) (λ y. refl)

pub projection_law : IsCodec projection
projection_law = projection_of_law _

-- the spelling is the same whatever epochs there may be
pub spelled_alike : (epochs : List (ℕ × ℕ)) (l : Layout) → projection.spell l ≡ (projection_of epochs).spell l
unfolding projection_of
spelled_alike epochs l = refl

none-back : (x : Option Proposal) (p : Unit {0}) → as_none x ≡ Some p → None ≡ x
none-back None p e = refl
none-back (Some q) p e = absurd cc

some-back : (x : Option Proposal) (p : Proposal) → as_some x ≡ Some p → Some p ≡ x
some-back None p e = absurd cc
some-back (Some q) p e = cc

vote_body_law : (t : ℕ) → IsCodec (vote_body t)
vote_body_law zero = variant_law _ _ nothing_law (λ p. refl) none-back
vote_body_law (suc n) = variant_law _ _ (dep_law ballot_law (λ _. projection_law)) (λ p. refl) some-back

vote-tag : (t : ℕ) (x : Option Proposal) → meets ((0, 1) ∷ []) t t ≡ true → (vote_body t).fits x ≡ true → vote_tag x ≡ t
vote-tag zero None m e = refl
vote-tag zero (Some p) m e = absurd cc
vote-tag (suc k) None m e = absurd cc
vote-tag (suc k) (Some p) m e = last_tag k m

pub vote_law : IsCodec vote
vote_law = tagged_law _ vote_tag vote_body vote_body_law vote-tag
