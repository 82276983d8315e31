-- Nodes and their children, as ops change them.
use Rattle.std.proofs.Common.{◌≡◌, ℕ, suc, arith, Bool, true, false, cond, ◌&&◌, ◌||◌, not, List, [], ◌∷◌, ◌++◌, length, map, filter, Option, Some, None, refl, sym, ap, subst, ◌∙◌, append_assoc}
use Rattle.std.specs.Prelude.{◌==◌, is_some}
use Rattle.std.specs.declared.cmp.Ordering.TheVariants.{Less, Equal, Greater}
use Rattle.std.specs.Ordering.{match_ordering}
use Rattle.std.specs.Map.{lookup, set_value, remove_entry}
use Rattle.std.specs.BTreeMap.{insert_entry}
use Rattle.std.proofs.lemmas.Bool.Decides.{nat_tests}
use Rattle.tg_tree.specs.Paths.{root, by_bytes, same, parent, last_name}
use Rattle.tg_tree.specs.Orders.{same_is}
use Rattle.tg_tree.specs.Growth.{ArePaths, name_of, not_both}
use Rattle.tg_tree.specs.Trees.{Node, Nodes, is_there, is_child, has_child}
use Rattle.tg_tree.specs.Links.{PathSet, Below, Rising, children_of, or_none, set_at, IsLinked, IsAdopted, IsReleased, names_of, AllPaths}
use Rattle.tg_tree.proofs.Rising.{lookup_put, removed_elsewhere, put_low, below_less, put_is_set}
use Rattle.tg_tree.proofs.Walks.{none_stored}

-- ---- the children among the nodes

children_below : (x q : List ℕ) (nodes : Nodes) → Below x nodes → Below x (children_of q nodes)
children_below x q [] h = tt
children_below x q (n ∷ nodes) h = elim (is_child q n.0) as (λ b. Below x (cond b ((n.0, tt) ∷ children_of q nodes) (children_of q nodes))) [ true ↦ (h.0, children_below x q nodes h.1) | false ↦ children_below x q nodes h.1 ]

-- a new child comes among the children
child_put : (q p : List ℕ) (t : Option (List ℕ)) (nodes : Nodes) → is_child q p ≡ true → Rising nodes → children_of q (insert_entry by_bytes nodes p t) ≡ insert_entry by_bytes (children_of q nodes) p tt
child_put q p t [] c g = ap (λ b. cond b ((p, tt) ∷ []) []) c
child_put q p t (n ∷ nodes) c g =
    let rest = child_put q p t nodes c g.1 in
    elim (by_bytes p n.0) as (λ o. by_bytes p n.0 ≡ o → children_of q (match_ordering o ((p, t) ∷ n ∷ nodes) ((n.0, t) ∷ nodes) (n ∷ insert_entry by_bytes nodes p t)) ≡ insert_entry by_bytes (children_of q (n ∷ nodes)) p tt) [
      | Less ↦ λ o.
          let low : Below p (children_of q (n ∷ nodes)) = children_below p q (n ∷ nodes) (o, below_less p n.0 nodes o g.0) in
          ap (λ b. cond b ((p, tt) ∷ children_of q (n ∷ nodes)) (children_of q (n ∷ nodes))) c ∙ sym (put_low (children_of q (n ∷ nodes)) p tt low)
      | Equal ↦ λ o.
          let at : same p n.0 ≡ true = rw o refl in
          let child : is_child q n.0 ≡ true = subst (λ (x : List ℕ). is_child q x ≡ true) (same_is p n.0 at) c in
          let kids : children_of q (n ∷ nodes) ≡ (n.0, tt) ∷ children_of q nodes = ap (λ b. cond b ((n.0, tt) ∷ children_of q nodes) (children_of q nodes)) child in
          kids ∙ sym (ap (λ (l : PathSet). insert_entry by_bytes l p tt) kids
          ∙ ap (λ r. match_ordering r ((p, tt) ∷ (n.0, tt) ∷ children_of q nodes) ((n.0, tt) ∷ children_of q nodes) ((n.0, tt) ∷ insert_entry by_bytes (children_of q nodes) p tt)) o)
      | Greater ↦ λ o.
          elim (is_child q n.0) as (λ b. cond b ((n.0, tt) ∷ children_of q (insert_entry by_bytes nodes p t)) (children_of q (insert_entry by_bytes nodes p t)) ≡ insert_entry by_bytes (cond b ((n.0, tt) ∷ children_of q nodes) (children_of q nodes)) p tt) [
            | true ↦ ap (λ (l : PathSet). (n.0, tt) ∷ l) rest
                ∙ sym (ap (λ r. match_ordering r ((p, tt) ∷ (n.0, tt) ∷ children_of q nodes) ((n.0, tt) ∷ children_of q nodes) ((n.0, tt) ∷ insert_entry by_bytes (children_of q nodes) p tt)) o)
            | false ↦ rest
          ]
    ] refl

-- a node that is no child changes no children
other_put : (q p : List ℕ) (t : Option (List ℕ)) (nodes : Nodes) → is_child q p ≡ false → children_of q (insert_entry by_bytes nodes p t) ≡ children_of q nodes
other_put q p t [] c = ap (λ b. cond b ((p, tt) ∷ []) []) c
other_put q p t (n ∷ nodes) c =
    let rest = other_put q p t nodes c in
    elim (by_bytes p n.0) as (λ o. children_of q (match_ordering o ((p, t) ∷ n ∷ nodes) ((n.0, t) ∷ nodes) (n ∷ insert_entry by_bytes nodes p t)) ≡ children_of q (n ∷ nodes)) [
      | Less ↦ ap (λ b. cond b ((p, tt) ∷ children_of q (n ∷ nodes)) (children_of q (n ∷ nodes))) c
      | Equal ↦ refl
      | Greater ↦ ap (λ (l : PathSet). cond (is_child q n.0) ((n.0, tt) ∷ l) l) rest
    ]

pub children_set : (q p : List ℕ) (t : Option (List ℕ)) (nodes : Nodes) → children_of q (set_value (same p) nodes t) ≡ children_of q nodes
children_set q p t [] = refl
children_set q p t (n ∷ nodes) =
    let rest = children_set q p t nodes in
    elim (same p n.0) as (λ b. children_of q (cond b ((n.0, t) ∷ nodes) (n ∷ set_value (same p) nodes t)) ≡ children_of q (n ∷ nodes)) [
      | true ↦ refl
      | false ↦ ap (λ (l : PathSet). cond (is_child q n.0) ((n.0, tt) ∷ l) l) rest
    ]

child_removed : (q p : List ℕ) (nodes : Nodes) → is_child q p ≡ true → children_of q (remove_entry (same p) nodes) ≡ remove_entry (same p) (children_of q nodes)
child_removed q p [] c = refl
child_removed q p (n ∷ nodes) c =
    let rest = child_removed q p nodes c in
    elim (same p n.0) as (λ b. same p n.0 ≡ b → children_of q (cond b nodes (n ∷ remove_entry (same p) nodes)) ≡ remove_entry (same p) (children_of q (n ∷ nodes))) [
      | true ↦ λ b.
          let child : is_child q n.0 ≡ true = subst (λ (x : List ℕ). is_child q x ≡ true) (same_is p n.0 b) c in
          sym (ap (λ k. remove_entry (same p) (cond k ((n.0, tt) ∷ children_of q nodes) (children_of q nodes))) child ∙ ap (λ k. cond k (children_of q nodes) ((n.0, tt) ∷ remove_entry (same p) (children_of q nodes))) b)
      | false ↦ λ b.
          elim (is_child q n.0) as (λ k. cond k ((n.0, tt) ∷ children_of q (remove_entry (same p) nodes)) (children_of q (remove_entry (same p) nodes)) ≡ remove_entry (same p) (cond k ((n.0, tt) ∷ children_of q nodes) (children_of q nodes))) [
            | true ↦ ap (λ (l : PathSet). (n.0, tt) ∷ l) rest ∙ sym (ap (λ k. cond k (children_of q nodes) ((n.0, tt) ∷ remove_entry (same p) (children_of q nodes))) b)
            | false ↦ rest
          ]
    ] refl

other_removed : (q p : List ℕ) (nodes : Nodes) → is_child q p ≡ false → children_of q (remove_entry (same p) nodes) ≡ children_of q nodes
other_removed q p [] c = refl
other_removed q p (n ∷ nodes) c =
    let rest = other_removed q p nodes c in
    elim (same p n.0) as (λ b. same p n.0 ≡ b → children_of q (cond b nodes (n ∷ remove_entry (same p) nodes)) ≡ children_of q (n ∷ nodes)) [
      | true ↦ λ b.
          let child : is_child q n.0 ≡ false = subst (λ (x : List ℕ). is_child q x ≡ false) (same_is p n.0 b) c in
          sym (ap (λ k. cond k ((n.0, tt) ∷ children_of q nodes) (children_of q nodes)) child)
      | false ↦ λ b. ap (λ (l : PathSet). cond (is_child q n.0) ((n.0, tt) ∷ l) l) rest
    ] refl

some : (n : ℕ) → true ≡ not (suc n == 0)
some n = grind (arith, nat_tests)

-- whether there are children
pub any_children : (q : List ℕ) (nodes : Nodes) → has_child nodes q ≡ not (length (children_of q nodes) == 0)
any_children q [] = refl
any_children q (n ∷ nodes) =
    let rest = any_children q nodes in
    elim (is_child q n.0) as (λ b. (b || has_child nodes q) ≡ not (length (cond b ((n.0, tt) ∷ children_of q nodes) (children_of q nodes)) == 0)) [
      | true ↦ some (length (children_of q nodes))
      | false ↦ rest
    ]

-- ---- the table of children

adopted_there : (table : List (List ℕ × PathSet)) (q p : List ℕ) (x : List ℕ)
    → set_at (insert_entry by_bytes (remove_entry (same q) table) q (insert_entry by_bytes (set_at table q) p tt)) x ≡ cond (same x q) (insert_entry by_bytes (set_at table x) p tt) (set_at table x)
adopted_there table q p x =
    let new = insert_entry by_bytes (set_at table q) p tt in
    ap or_none (lookup_put (remove_entry (same q) table) q new x) ∙ elim (same x q) as (λ b. same x q ≡ b → or_none (cond b (Some new) (lookup (same x) (remove_entry (same q) table))) ≡ cond b (insert_entry by_bytes (set_at table x) p tt) (set_at table x)) [
      | true ↦ λ b. ap (λ (y : List ℕ). insert_entry by_bytes (set_at table y) p tt) (sym (same_is x q b))
      | false ↦ λ b. ap or_none (removed_elsewhere table q x b)
    ] refl

root_is_none : (x p : List ℕ) → same root p ≡ true → is_child x p ≡ false
root_is_none x p is = ap (λ b. not b && same x (parent p)) is

child_of_parent : (p x : List ℕ) → same root p ≡ false → is_child x p ≡ same x (parent p)
child_of_parent p x other = ap (λ b. not b && same x (parent p)) other

-- the root is nothing's child
pub adopted_root : (table : List (List ℕ × PathSet)) (p : List ℕ) → same root p ≡ true → IsAdopted p table table
adopted_root table p is x = sym (ap (λ b. cond b (insert_entry by_bytes (set_at table x) p tt) (set_at table x)) (root_is_none x p is))

pub released_root : (table : List (List ℕ × PathSet)) (p : List ℕ) → same root p ≡ true → IsReleased p table table
released_root table p is x = sym (ap (λ b. cond b (remove_entry (same p) (set_at table x)) (set_at table x)) (root_is_none x p is))

-- a path is put among its parent's children
pub adopted_is : (table rest new : List (List ℕ × PathSet)) (q p : List ℕ) (taken put : PathSet) → same root p ≡ false → q ≡ parent p → rest ≡ remove_entry (same q) table → taken ≡ set_at table q → put ≡ insert_entry by_bytes taken p tt → new ≡ insert_entry by_bytes rest q put → IsAdopted p table new
adopted_is table rest new q p taken put other q_is rest_is taken_is put_is new_is x =
    let put_all : put ≡ insert_entry by_bytes (set_at table q) p tt = put_is ∙ ap (λ (s : PathSet). insert_entry by_bytes s p tt) taken_is in
    let whole : new ≡ insert_entry by_bytes (remove_entry (same q) table) q (insert_entry by_bytes (set_at table q) p tt) =
    new_is ∙ ap (λ (t : List (List ℕ × PathSet)). insert_entry by_bytes t q put) rest_is ∙ ap (λ (s : PathSet). insert_entry by_bytes (remove_entry (same q) table) q s) put_all in
    ap (λ (t : List (List ℕ × PathSet)). set_at t x) whole ∙ adopted_there table q p x
    ∙ ap (λ b. cond b (insert_entry by_bytes (set_at table x) p tt) (set_at table x)) (ap (λ (y : List ℕ). same x y) q_is ∙ sym (child_of_parent p x other))

-- a path leaves its parent's children, and others are left
pub released_some : (table rest new : List (List ℕ × PathSet)) (q p : List ℕ) (taken left : PathSet) → same root p ≡ false → q ≡ parent p → rest ≡ remove_entry (same q) table → taken ≡ set_at table q → left ≡ remove_entry (same p) taken → new ≡ insert_entry by_bytes rest q left → IsReleased p table new
released_some table rest new q p taken left other q_is rest_is taken_is left_is new_is x =
    let all : left ≡ remove_entry (same p) (set_at table q) = left_is ∙ ap (λ (s : PathSet). remove_entry (same p) s) taken_is in
    ap (λ (t : List (List ℕ × PathSet)). set_at t x) new_is ∙ ap or_none (lookup_put rest q left x)
    ∙ elim (same x q) as (λ b. same x q ≡ b → or_none (cond b (Some left) (lookup (same x) rest)) ≡ cond b (remove_entry (same p) (set_at table x)) (set_at table x)) [
      | true ↦ λ b. all ∙ ap (λ (y : List ℕ). remove_entry (same p) (set_at table y)) (sym (same_is x q b))
      | false ↦ λ b. ap (λ (t : List (List ℕ × PathSet)). set_at t x) rest_is ∙ ap or_none (removed_elsewhere table q x b)
    ] refl
    ∙ ap (λ b. cond b (remove_entry (same p) (set_at table x)) (set_at table x)) (ap (λ (y : List ℕ). same x y) q_is ∙ sym (child_of_parent p x other))

-- the same, where none is left
pub released_none : (table rest : List (List ℕ × PathSet)) (q p : List ℕ) (taken left : PathSet) → same root p ≡ false → q ≡ parent p → rest ≡ remove_entry (same q) table → taken ≡ set_at table q → left ≡ remove_entry (same p) taken → left ≡ [] → lookup (same q) rest ≡ None → IsReleased p table rest
released_none table rest q p taken left other q_is rest_is taken_is left_is none gone x =
    let all : [] ≡ remove_entry (same p) (set_at table q) = sym none ∙ left_is ∙ ap (λ (s : PathSet). remove_entry (same p) s) taken_is in
    elim (same x q) as (λ b. same x q ≡ b → set_at rest x ≡ cond b (remove_entry (same p) (set_at table x)) (set_at table x)) [
      | true ↦ λ b.
          let at : x ≡ q = same_is x q b in
          subst (λ (y : List ℕ). set_at rest y ≡ remove_entry (same p) (set_at table y)) (sym at) (ap or_none gone ∙ all)
      | false ↦ λ b. ap (λ (t : List (List ℕ × PathSet)). set_at t x) rest_is ∙ ap or_none (removed_elsewhere table q x b)
    ] refl
    ∙ ap (λ b. cond b (remove_entry (same p) (set_at table x)) (set_at table x)) (ap (λ (y : List ℕ). same x y) q_is ∙ sym (child_of_parent p x other))

-- ---- ops

-- a node is put
pub linked_put : (nodes : Nodes) (table new : List (List ℕ × PathSet)) (p : List ℕ) (t : Option (List ℕ)) → Rising nodes → IsLinked nodes table → IsAdopted p table new → IsLinked (insert_entry by_bytes nodes p t) new
linked_put nodes table new p t g linked adopted x =
    adopted x ∙ elim (is_child x p) as (λ b. is_child x p ≡ b → cond b (insert_entry by_bytes (set_at table x) p tt) (set_at table x) ≡ children_of x (insert_entry by_bytes nodes p t)) [
      | true ↦ λ b. ap (λ (s : PathSet). insert_entry by_bytes s p tt) (linked x) ∙ sym (child_put x p t nodes b g)
      | false ↦ λ b. linked x ∙ sym (other_put x p t nodes b)
    ] refl

pub linked_set : (nodes : Nodes) (table : List (List ℕ × PathSet)) (p : List ℕ) (t : Option (List ℕ)) → IsLinked nodes table → IsLinked (set_value (same p) nodes t) table
linked_set nodes table p t linked x = linked x ∙ sym (children_set x p t nodes)

pub linked_removed : (nodes : Nodes) (table new : List (List ℕ × PathSet)) (p : List ℕ) → IsLinked nodes table → IsReleased p table new → IsLinked (remove_entry (same p) nodes) new
linked_removed nodes table new p linked released x =
    released x ∙ elim (is_child x p) as (λ b. is_child x p ≡ b → cond b (remove_entry (same p) (set_at table x)) (set_at table x) ≡ children_of x (remove_entry (same p) nodes)) [
      | true ↦ λ b. ap (λ (s : PathSet). remove_entry (same p) s) (linked x) ∙ sym (child_removed x p nodes b)
      | false ↦ λ b. linked x ∙ sym (other_removed x p nodes b)
    ] refl

-- a node that is there is given a text
pub put_there : (nodes shown new : Nodes) (p : List ℕ) (t : Option (List ℕ)) → nodes ≡ shown → Rising nodes → is_there shown p ≡ true → new ≡ insert_entry by_bytes nodes p t → new ≡ set_value (same p) nodes t
put_there nodes shown new p t is g there new_is = new_is ∙ put_is_set nodes p t g (ap (λ (ms : Nodes). is_there ms p) is ∙ there)

none_from : {X : Type 0} (o : Option X) → false ≡ is_some o → o ≡ None
none_from None e = refl
none_from (Some x) e = absurd cc

-- a path that isn't there is given no text
pub not_stored : (nodes : Nodes) (k p : List ℕ) (t : Option (List ℕ)) → k ≡ p → false ≡ is_there nodes k → nodes ≡ set_value (same p) nodes t
not_stored nodes k p t is e = sym (none_stored nodes p t (none_from (lookup (same p) nodes) (e ∙ ap (λ (q : List ℕ). is_there nodes q) is)))

never : (n : ℕ) → (suc n == 0) ≡ false
never n = grind (arith, nat_tests)

pub empty_is : (s : PathSet) → (length s == 0) ≡ true → s ≡ []
empty_is [] e = refl
empty_is (x ∷ s) e = not_both (suc (length s) == 0) e (never (length s))

-- ---- what the table answers

pub set_none : (nodes shown : Nodes) (table : List (List ℕ × PathSet)) (p : List ℕ) → nodes ≡ shown → IsLinked nodes table → None ≡ lookup (same p) table → [] ≡ children_of p shown
set_none nodes shown table p is linked e = ap or_none e ∙ linked p ∙ ap (λ (ms : Nodes). children_of p ms) is

pub set_some : (nodes shown : Nodes) (table : List (List ℕ × PathSet)) (p : List ℕ) (paths : PathSet) → nodes ≡ shown → IsLinked nodes table → Some paths ≡ lookup (same p) table → paths ≡ children_of p shown
set_some nodes shown table p paths is linked e = ap or_none e ∙ linked p ∙ ap (λ (ms : Nodes). children_of p ms) is

pub no_child : (nodes shown : Nodes) (table : List (List ℕ × PathSet)) (p : List ℕ) → nodes ≡ shown → IsLinked nodes table → None ≡ lookup (same p) table → false ≡ has_child shown p
no_child nodes shown table p is linked e = ap (λ (l : PathSet). not (length l == 0)) (set_none nodes shown table p is linked e) ∙ sym (any_children p shown)

pub some_child : (nodes shown : Nodes) (table : List (List ℕ × PathSet)) (p : List ℕ) (paths : PathSet) (b : Bool) → nodes ≡ shown → IsLinked nodes table → Some paths ≡ lookup (same p) table → b ≡ (length paths == 0) → not b ≡ has_child shown p
some_child nodes shown table p paths b is linked e b_is = ap not b_is ∙ ap (λ (l : PathSet). not (length l == 0)) (set_some nodes shown table p paths is linked e) ∙ sym (any_children p shown)

-- ---- names

pub children_paths : (p : List ℕ) (nodes : Nodes) → ArePaths nodes → AllPaths (children_of p nodes)
children_paths p [] h = tt
children_paths p (n ∷ nodes) h = elim (is_child p n.0) as (λ b. AllPaths (cond b ((n.0, tt) ∷ children_of p nodes) (children_of p nodes))) [ true ↦ (h.0, children_paths p nodes h.1) | false ↦ children_paths p nodes h.1 ]

pub names_are : (p : List ℕ) (nodes : Nodes) → names_of p (children_of p nodes) ≡ map (λ (n : Node). last_name n.0) (filter (λ (n : Node). is_child p n.0) nodes)
names_are p [] = refl
names_are p (n ∷ nodes) =
    let rest = names_are p nodes in
    elim (is_child p n.0) as (λ b. is_child p n.0 ≡ b → names_of p (cond b ((n.0, tt) ∷ children_of p nodes) (children_of p nodes)) ≡ map (λ (m : Node). last_name m.0) (cond b (n ∷ filter (λ (m : Node). is_child p m.0) nodes) (filter (λ (m : Node). is_child p m.0) nodes))) [
      | true ↦ λ b. ap (λ k. cond k (last_name n.0 ∷ []) [] ++ names_of p (children_of p nodes)) b ∙ ap (λ (l : List (List ℕ)). last_name n.0 ∷ l) rest
      | false ↦ λ b. rest
    ] refl

pub names_more : (p : List ℕ) (e : List ℕ × Unit {0}) (paths : PathSet) (names new total : List (List ℕ)) → new ≡ names ++ name_of p e.0 → names ++ names_of p (e ∷ paths) ≡ total → new ++ names_of p paths ≡ total
names_more p e paths names new total is so_far = ap (λ (l : List (List ℕ)). l ++ names_of p paths) is ∙ append_assoc names (name_of p e.0) (names_of p paths) ∙ so_far
