-- Rows of new nodes.
use Rattle.std.specs.Prelude.{◌≡◌, ℕ, zero, suc, ◌+◌, ◌≤◌, List, [], ◌∷◌, ◌++◌, length, map, replicate, refl}
use Rattle.std.proofs.Common.{sym, ap, subst, ◌∙◌, arith}
use Rattle.std.proofs.Math.Nat.{add-zero}
use Rattle.std.proofs.lemmas.List.{append_assoc, length-map, length-replicate}
use Rattle.tg_base.specs.Clusters.{Header}
use Rattle.tg_base.specs.declared.ids.NodeId.{NodeId}
use Rattle.tg_base.specs.declared.ids.Role.{Role}
use Rattle.tg_base.specs.Layouts.{Layout}
use Rattle.tg_protocol.specs.Layouts.{first_layout}
use Rattle.tg_protocol.specs.LayoutServers.{LayoutState, new_layout}
use Rattle.tg_protocol.specs.Units.{UnitState, new_unit}
use Rattle.tg_protocol.specs.Words.{numbers}
use Rattle.tg_protocol.specs.Sequencers.{SeqrState, new_seqr}
use Rattle.tg_seqr.specs.Counted.{Counted}
use Rattle.tg_world_servers.specs.Kept.{IsWhole}
use Rattle.tg_world_servers.specs.Rows.{state_of, states_of, AreCounted}
use Rattle.tg_world_servers.specs.Servers.{node_of}

pub numbers_last : (n first : ℕ) → numbers (suc n) first ≡ numbers n first ++ (first + n) ∷ []
numbers_last zero first = ap (λ (k : ℕ). k ∷ []) (sym (add-zero first))
numbers_last (suc n) first = λ i. first ∷ (numbers_last n (first + 1) ∙ ap (λ (k : ℕ). numbers n (first + 1) ++ k ∷ []) (moved n first)) i
  where
    moved : (m k : ℕ) → (k + 1) + m ≡ k + suc m
    moved m k = omega arith

map_last : (f : ℕ → SeqrState) (xs : List ℕ) (x : ℕ) → map f (xs ++ x ∷ []) ≡ map f xs ++ f x ∷ []
map_last f [] x = refl
map_last f (y ∷ xs) x = λ i. f y ∷ map_last f xs x i

states_last : (cs : List Counted) (c : Counted) → states_of (cs ++ c ∷ []) ≡ states_of cs ++ c.state ∷ []
states_last [] c = refl
states_last (x ∷ cs) c = λ i. x.state ∷ states_last cs c i

last_number : (k : ℕ) → numbers k 0 ++ k ∷ [] ≡ numbers (k + 1) 0
last_number k =
    let plus : k ≡ 0 + k = omega arith in
    let next : suc k ≡ k + 1 = omega arith in
    ap (λ (j : ℕ). numbers k 0 ++ j ∷ []) plus ∙ sym (numbers_last k 0) ∙ ap (λ (j : ℕ). numbers j 0) next

-- one sequencer more
pub seqrs_last : (limit : ℕ) (q : Layout) (n : ℕ) (cs ds : List Counted) (c : Counted) → ds ≡ cs ++ c ∷ [] → c.state ≡ new_seqr n limit q
    → states_of cs ≡ map (λ k. new_seqr k limit q) (numbers n 0) → states_of ds ≡ map (λ k. new_seqr k limit q) (numbers (n + 1) 0)
seqrs_last limit q n cs ds c e is h =
    ap states_of e ∙ states_last cs c ∙ (λ i. h i ++ is i ∷ []) ∙ sym (map_last (λ k. new_seqr k limit q) (numbers n 0) n)
    ∙ ap (λ (ks : List ℕ). map (λ k. new_seqr k limit q) ks) (last_number n)

pub counted_last : (most : ℕ) (cs : List Counted) (c : Counted) → c.calls ≤ most → AreCounted most cs → AreCounted most (cs ++ c ∷ [])
counted_last most [] c h k = (h, k)
counted_last most (x ∷ cs) c h k = (k.0, counted_last most cs c h k.1)

pub counted_next : (most : ℕ) (cs ds : List Counted) (c : Counted) → ds ≡ cs ++ c ∷ [] → c.calls ≡ 0 → AreCounted most cs → AreCounted most ds
counted_next most cs ds c e none k =
    let le : c.calls ≤ most = omega (arith, none) in
    subst (λ (xs : List Counted). AreCounted most xs) (sym e) (counted_last most cs c le k)

-- one node of a role more
pub nodes_last : (r : Role) (first now after : List NodeId) (n : ℕ) (x : NodeId) → after ≡ now ++ x ∷ [] → x ≡ node_of r n → now ≡ first ++ map (node_of r) (numbers n 0)
    → after ≡ first ++ map (node_of r) (numbers (n + 1) 0)
nodes_last r first now after n x e is h =
    e ∙ (λ i. h i ++ is i ∷ []) ∙ append_assoc first (map (node_of r) (numbers n 0)) (node_of r n ∷ [])
    ∙ ap (λ (xs : List NodeId). first ++ xs) (sym (map_next (numbers n 0) n) ∙ ap (λ (ks : List ℕ). map (node_of r) ks) (last_number n))
  where
    map_next : (xs : List ℕ) (y : ℕ) → map (node_of r) (xs ++ y ∷ []) ≡ map (node_of r) xs ++ node_of r y ∷ []
    map_next [] y = refl
    map_next (z ∷ xs) y = λ i. node_of r z ∷ map_next xs y i

numbers_length : (n first : ℕ) → length (numbers n first) ≡ n
numbers_length zero first = refl
numbers_length (suc n) first = ap suc (numbers_length n (first + 1))

-- the rows of a header's nodes, before their first step
pub starts_whole : (h c : Header) (q : Layout) (us : List UnitState) (ls : List LayoutState) (cs : List Counted) (f : ℕ → SeqrState) → c ≡ h → q ≡ first_layout h → us ≡ replicate h.units new_unit → ls ≡ replicate h.layouts (new_layout q)
    → states_of cs ≡ map f (numbers h.seqs 0) → AreCounted 0 cs → IsWhole c q (length us) (length ls) cs 0
starts_whole h c q us ls cs f is begins units layouts seqrs counted = record {
  begins = begins ∙ sym (ap first_layout is);
  counted = counted;
  all_units = ap length units ∙ length-replicate h.units new_unit ∙ sym (ap (λ (x : Header). x.units) is);
  all_layouts = ap length layouts ∙ length-replicate h.layouts (new_layout q) ∙ sym (ap (λ (x : Header). x.layouts) is);
  all_seqrs = sym (length-map cs state_of) ∙ ap length seqrs ∙ length-map (numbers h.seqs 0) f ∙ numbers_length h.seqs 0 ∙ sym (ap (λ (x : Header). x.seqs) is);
}
