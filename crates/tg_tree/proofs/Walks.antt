-- Nodes of a tree, one after the other.
use Rattle.std.proofs.Common.{◌≡◌, ℕ, ◌<◌, true, false, cond, List, [], ◌∷◌, ◌++◌, length, map, filter, Option, Some, None, refl, sym, ap, subst, ◌∙◌, append_assoc, append-nil, arith}
use Rattle.std.specs.declared.cmp.Ordering.TheVariants.{Less, Equal, Greater}
use Rattle.std.specs.declared.cmp.Ordering.{Ordering}
use Rattle.std.specs.Ordering.{is_lt, match_ordering}
use Rattle.std.specs.Cmp.Lexicographic.{nat_list_cmp_total}
use Rattle.std.specs.List.{All, AllByRecursion}
use Rattle.std.specs.Map.{lookup, set_value, keys_of}
use Rattle.std.proofs.lemmas.List.Elements.{recursion_from_All}
use Rattle.std.specs.BTreeMap.{insert_entry}
use Rattle.tg_codec.specs.Codec.{spell_many}
use Rattle.tg_kind.specs.Words.{maybe}
use Rattle.tg_kind.specs.Texts.{text_format}
use Rattle.tg_tree.specs.Paths.{by_bytes, same, path_format, last_name, last_slash}
use Rattle.tg_tree.specs.Orders.{last_slash_within}
use Rattle.tg_tree.specs.Growth.{Grown, first_node, other_nodes, next_rises, AllUpTo}
use Rattle.tg_tree.specs.Trees.{Node, Nodes, is_child, node_format, after_node}

pub last_within : (bytes : List ℕ) → 0 < length bytes → last_slash bytes < length bytes
last_within [] lt = absurd (omega (arith, lt))
last_within (b ∷ bytes) lt = last_slash_within b bytes

-- a path that isn't there has no text to change
pub none_stored : (nodes : Nodes) (p : List ℕ) (t : Option (List ℕ)) → lookup (same p) nodes ≡ None → set_value (same p) nodes t ≡ nodes
none_stored [] p t e = refl
none_stored (n ∷ nodes) p t e =
    elim (same p n.0) as (λ b. cond b (Some n.1) (lookup (same p) nodes) ≡ None → cond b ((n.0, t) ∷ nodes) (n ∷ set_value (same p) nodes t) ≡ n ∷ nodes) [
      | true ↦ λ f. absurd cc
      | false ↦ λ f. ap (λ (ms : Nodes). n ∷ ms) (none_stored nodes p t f)
    ] e

-- ---- children

abbrev pub kids : List ℕ → Nodes → List (List ℕ)
kids p nodes = map (λ (n : Node). last_name n.0) (filter (λ (n : Node). is_child p n.0) nodes)

-- ---- bytes

abbrev pub spelled : Nodes → List ℕ
spelled nodes = spell_many node_format after_node [] nodes

spell_any : (s t : List (List ℕ)) (nodes : Nodes) → spell_many node_format after_node s nodes ≡ spell_many node_format after_node t nodes
unfolding spell_many
spell_any s t [] = refl
spell_any s t (n ∷ nodes) = ap (λ (l : List ℕ). (path_format.spell n.0 ++ (maybe text_format).spell n.1) ++ l) (spell_any (n.0 ∷ s) (n.0 ∷ t) nodes)

spelled_cons : (n : Node) (nodes : Nodes) → spelled (n ∷ nodes) ≡ (path_format.spell n.0 ++ (maybe text_format).spell n.1) ++ spelled nodes
unfolding spell_many
spelled_cons n nodes = ap (λ (l : List ℕ). (path_format.spell n.0 ++ (maybe text_format).spell n.1) ++ l) (spell_any (n.0 ∷ []) [] nodes)

pub spelled_more : (n : Node) (nodes : Nodes) (out new total : List ℕ) → new ≡ out ++ (path_format.spell n.0 ++ (maybe text_format).spell n.1) → out ++ spelled (n ∷ nodes) ≡ total → new ++ spelled nodes ≡ total
spelled_more n nodes out new total e so_far =
    let bytes = path_format.spell n.0 ++ (maybe text_format).spell n.1 in
    ap (λ (l : List ℕ). l ++ spelled nodes) e ∙ append_assoc out bytes (spelled nodes) ∙ ap (λ (l : List ℕ). out ++ l) (sym (spelled_cons n nodes)) ∙ so_far

pub spelled_none : (out : List ℕ) → out ++ spelled [] ≡ out
unfolding spell_many
spelled_none out = append-nil out

-- ---- copies

all_below : (q : List ℕ) (before : List (List ℕ)) (front : Nodes) (n : Node) (rest : Nodes) → Grown (q ∷ before) (front ++ n ∷ rest) → by_bytes q n.0 ≡ Less
all_below q before [] n rest e = next_rises q before n.0 (first_node (q ∷ before) n rest e).next
all_below q before (m ∷ front) n rest e =
    nat_list_cmp_total.trans q m.0 n.0 (next_rises q before m.0 (first_node (q ∷ before) m (front ++ n ∷ rest) e).next) (all_below m.0 (q ∷ before) front n rest (other_nodes (q ∷ before) m (front ++ n ∷ rest) e))

back_greater : (p q : List ℕ) → by_bytes p q ≡ Less → by_bytes q p ≡ Greater
back_greater p q e = let a = nat_list_cmp_total.antisymm q p in a ∙ rw e refl

-- the next node comes last
pub put_last : (before : List (List ℕ)) (front : Nodes) (n : Node) (rest : Nodes) → Grown before (front ++ n ∷ rest) → insert_entry by_bytes front n.0 n.1 ≡ front ++ n ∷ []
put_last before [] n rest e = refl
put_last before (m ∷ front) n rest e =
    let more = other_nodes before m (front ++ n ∷ rest) e in
    let o = back_greater m.0 n.0 (all_below m.0 before front n rest more) in
    ap (λ c. match_ordering c (n ∷ m ∷ front) ((m.0, n.1) ∷ front) (m ∷ insert_entry by_bytes front n.0 n.1)) o ∙ ap (λ (ms : Nodes). m ∷ ms) (put_last (m.0 ∷ before) front n rest more)

pub moved_on : (front : Nodes) (n : Node) (rest new total : Nodes) → new ≡ front ++ n ∷ [] → front ++ n ∷ rest ≡ total → new ++ rest ≡ total
moved_on front n rest new total e so_far = ap (λ (ms : Nodes). ms ++ rest) e ∙ append_assoc front (n ∷ []) rest ∙ so_far

-- ---- the last path

below_rest : (last : List ℕ) (nodes : Nodes) → AllByRecursion (λ q. is_lt (by_bytes last q) ≡ false) (keys_of nodes) → AllUpTo last nodes
below_rest last [] h = tt
below_rest last (n ∷ nodes) h = (h.0, below_rest last nodes h.1)

-- no path is above the last
pub below_last : (last : List ℕ) (nodes : Nodes) → All (λ q. is_lt (by_bytes last q) ≡ false) (keys_of nodes) → AllUpTo last nodes
below_last last [] h = tt
below_last last (n ∷ nodes) h =
    let r = recursion_from_All (λ q. is_lt (by_bytes last q) ≡ false) (n.0 ∷ keys_of nodes) h in
    (r.0, below_rest last nodes r.1)

pub as_less : (o : Ordering) → is_lt o ≡ true → o ≡ Less
as_less Less e = refl
as_less Equal e = absurd cc
as_less Greater e = absurd cc

-- one more node is copied
pub copies_on : (front : Nodes) (left rest new nodes : Nodes) (n : Node) → left ≡ n ∷ rest → front ++ left ≡ nodes → Grown [] nodes → new ≡ insert_entry by_bytes front n.0 n.1 → new ++ rest ≡ nodes
copies_on front left rest new nodes n e so_far grown put =
    let whole : front ++ n ∷ rest ≡ nodes = ap (λ (ms : Nodes). front ++ ms) (sym e) ∙ so_far in
    let here : Grown [] (front ++ n ∷ rest) = subst (λ (ms : Nodes). Grown [] ms) (sym whole) grown in
    moved_on front n rest new nodes (put ∙ put_last [] front n rest here) whole
