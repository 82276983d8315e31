-- Objects and streams keep the law.
use Rattle.std.proofs.Common.{◌≡◌, ◌≤◌, ◌-◌, ◌*◌, ◌^◌, ℕ, List, length, replicate, refl, arith}
use Rattle.std.specs.Int.{w32, to_be_bytes}
use Rattle.std.proofs.lemmas.List.{length-append, length-replicate}
use Rattle.tg_codec.specs.Codec.{spell_many}
use Rattle.tg_codec.proofs.Many.{same_len}
use Rattle.tg_base.specs.declared.marks.StreamLink.{StreamLink}
use Rattle.tg_codec.specs.Streams.{oid, position, then_before, backs, link, after_link, links}
use Rattle.tg_codec.proofs.Laws.{IsCodec, and-left, and-right, fixed_law, dep_law, via_law, many_law, length-fit_many}
use Rattle.tg_codec.proofs.Widths.{u8_law, u32_law, u64_law}
use Rattle.tg_codec.proofs.Shapes.{counted_many_law}

pub oid_law : (allowed : List (ℕ × ℕ)) → IsCodec (oid allowed)
oid_law allowed = via_law _ _ (u32_law allowed) (λ x e. refl) (λ y. refl)

-- so many positions and then nothing else: the count is their number
counted_positions : (p : ℕ × (List ℕ × Unit {0})) → length p.1.0 ≡ p.0 → ◌≡◌ {A = ℕ × (List ℕ × Unit {0})} (length p.1.0, (p.1.0, tt)) p
counted_positions p e = λ i. (e i, (p.1.0, tt))

pub backs_law : IsCodec backs
backs_law =
    via_law _ _ (dep_law (u8_law _) (λ n. dep_law (many_law position then_before (λ r. u64_law _) n _) (λ _. fixed_law _)))
    (λ p e. counted_positions p (length-fit_many position then_before p.0 _ p.1.0 (and-left _ _ (and-right _ _ e)))) (λ y. refl)

pub link_law : (low : ℕ) → IsCodec (link low)
link_law low = via_law _ _ (dep_law (oid_law _) (λ _. backs_law)) (λ x e. refl) (λ y. refl)

pub links_law : (counts : List (ℕ × ℕ)) → IsCodec (links counts)
links_law counts = counted_many_law counts link after_link (λ _. 0) link_law

-- positions and the zeros in place of those that are missing have 32 bytes
pub backs_len : (ps : List ℕ) → length ps ≤ 4 → length (backs.spell ps) ≡ 33
backs_len ps le =
    let some : length (spell_many position then_before (0, 2 ^ 64 - 1) ps) ≡ length ps * 8 = same_len position then_before 8 (λ s x. refl) (0, 2 ^ 64 - 1) ps in
    let none : length {A = ℕ} (replicate (8 * (4 - length ps)) 0) ≡ 8 * (4 - length ps) = length-replicate (8 * (4 - length ps)) 0 in
    omega (arith, le, some, none, length-append (spell_many position then_before (0, 2 ^ 64 - 1) ps) (replicate (8 * (4 - length ps)) 0))

pub link_len : (state : ℕ) (l : StreamLink) → length l.backs ≤ 4 → 37 ≡ length ((link state).spell l)
link_len state l le = omega (arith, backs_len l.backs le, length-append (to_be_bytes w32 l.oid.0) (backs.spell l.backs))
