-- Streams by object, and the list that the rules keep of them.
use Rattle.std.proofs.Common.{◌≡◌, ℕ, List, [], ◌∷◌, take, refl, arith}
use Rattle.std.specs.Prelude.{nat_eq, unwrap_or}
use Rattle.std.specs.Map.{lookup}
use Rattle.indexmap.specs.IndexMap.{insert_entry}
use Rattle.tg_base.specs.declared.ids.Oid.{Oid}
use Rattle.tg_base.specs.declared.marks.StreamLink.{StreamLink}
use Rattle.tg_protocol.specs.Entries.{link_of}
use Rattle.tg_protocol.specs.Sequencers.{link_or_new, with_position}
use Rattle.tg_seqr.specs.Kept.{links_kept}

-- a link is of the object that was looked for
pub link_is : (ls : List StreamLink) (o : Oid) → ◌≡◌ {A = StreamLink} (record { oid = o; backs = (link_or_new o (link_of o ls)).backs }) (link_or_new o (link_of o ls))
link_is [] o = refl
link_is (l ∷ ls) o = grind (arith, link_is ls o)

-- its positions are those that stand by the object
pub backs_kept : (es : List (ℕ × List ℕ)) (o : Oid) → unwrap_or (lookup (nat_eq o.0) es) [] ≡ (link_or_new o (link_of o (links_kept es))).backs
backs_kept [] o = refl
backs_kept (e ∷ es) o = grind (arith, backs_kept es o)

pub position_kept : (es : List (ℕ × List ℕ)) (p : ℕ) (o : Oid) →
    links_kept (insert_entry nat_eq es o.0 (take 4 (p ∷ (link_or_new o (link_of o (links_kept es))).backs))) ≡ with_position p o (links_kept es)
position_kept [] p o = refl
position_kept (e ∷ es) p o = grind (arith, position_kept es p o)
