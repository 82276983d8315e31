-- Nodes that stand behind their parents, as ops change them.
use Rattle.std.specs.Prelude.{◌≡◌, ℕ, suc, ◌-◌, Bool, slice_get, true, false, ◌&&◌, ◌||◌, not, List, [], ◌∷◌, ◌++◌, length, Option, Some, is_some, refl}
use Rattle.std.specs.declared.cmp.Ordering.{Ordering}
use Rattle.std.specs.declared.cmp.Ordering.TheVariants.{Less, Equal, Greater}
use Rattle.std.specs.Ordering.{is_lt, is_eq, match_ordering}
use Rattle.std.specs.Cmp.Lexicographic.{nat_list_cmp_total}
use Rattle.std.specs.List.{list_any}
use Rattle.std.specs.Map.{lookup, set_value, remove_entry}
use Rattle.std.specs.BTreeMap.{insert_entry}
use Rattle.std.proofs.Common.{arith, ap, sym, subst, cond, ◌∙◌, ◌⊎◌, inl, inr}
use Rattle.tg_codec.specs.Codec.{fit_many}
use Rattle.tg_codec.proofs.Laws.{and-left, and-right, both}
use Rattle.tg_kind.specs.Words.{maybe}
use Rattle.tg_kind.specs.Texts.{text_format}
use Rattle.tg_tree.specs.Paths.{root, by_bytes, same, IsPath, parent, last_name}
use Rattle.tg_tree.specs.PathLaws.{path_starts}
use Rattle.tg_tree.specs.Trees.{Node, Nodes, is_there, is_child, has_child, is_next, node_format, after_node}
use Rattle.tg_tree.specs.Orders.{same_is, same_itself, parent_less}

abbrev pub Grown : List (List ℕ) → Nodes → Type 0
Grown before nodes = fit_many node_format after_node (length nodes) before nodes ≡ true

-- ---- one node

pub record IsNode (before : List (List ℕ)) (n : Node) : Type 0 where
  pub path : IsPath n.0
  pub next : is_next before n.0 ≡ true
  pub text : (maybe text_format).fits n.1 ≡ true

pub node_is : (before : List (List ℕ)) (n : Node) → (node_format before).fits n ≡ true → IsNode before n
node_is before n e = record { path = and-left _ _ (and-left _ _ e); next = and-right _ _ (and-left _ _ e); text = and-right _ _ e }

pub is_node : (before : List (List ℕ)) (n : Node) → IsNode before n → (node_format before).fits n ≡ true
is_node before n i = both _ _ (both _ _ i.path i.next) i.text

pub first_node : (before : List (List ℕ)) (n : Node) (nodes : Nodes) → Grown before (n ∷ nodes) → IsNode before n
unfolding fit_many
first_node before n nodes e = node_is before n (and-left _ _ e)

pub other_nodes : (before : List (List ℕ)) (n : Node) (nodes : Nodes) → Grown before (n ∷ nodes) → Grown (n.0 ∷ before) nodes
unfolding fit_many
other_nodes before n nodes e = and-right _ _ e

pub grown_more : (before : List (List ℕ)) (n : Node) (nodes : Nodes) → IsNode before n → Grown (n.0 ∷ before) nodes → Grown before (n ∷ nodes)
unfolding fit_many
grown_more before n nodes i e = both _ _ (is_node before n i) e

grown_none : (before : List (List ℕ)) → Grown before []
unfolding fit_many
grown_none before = refl

-- ---- orders

is_less : (o : Ordering) → is_lt o ≡ true → o ≡ Less
is_less Less e = refl
is_less Equal e = absurd cc
is_less Greater e = absurd cc

less_is : (o : Ordering) → o ≡ Less → is_lt o ≡ true
less_is o e = rw e refl

less_apart : (o : Ordering) → o ≡ Less → is_eq o ≡ false
less_apart o e = rw e refl

greater_apart : (o : Ordering) → o ≡ Greater → is_eq o ≡ false
greater_apart o e = rw e refl

greater_back : (p q : List ℕ) → by_bytes p q ≡ Greater → by_bytes q p ≡ Less
greater_back p q e = let a = nat_list_cmp_total.antisymm q p in a ∙ rw e refl

or_left : (a b : Bool) → a ≡ true → (a || b) ≡ true
or_left a b e = rw e refl

or_right : (a b : Bool) → b ≡ true → (a || b) ≡ true
or_right true b e = refl
or_right false b e = e

or_rest : (a b : Bool) → a ≡ false → (a || b) ≡ true → b ≡ true
or_rest true b f e = absurd cc
or_rest false b f e = e

or_more : (a b c : Bool) → (b ≡ true → c ≡ true) → (a || b) ≡ true → (a || c) ≡ true
or_more true b c h e = refl
or_more false b c h e = h e

or_moved : (a b c : Bool) → (a || (b || c)) ≡ true → ((b || a) || c) ≡ true
or_moved true true c e = refl
or_moved true false c e = refl
or_moved false true c e = refl
or_moved false false c e = e

nor_left : (a b : Bool) → (a || b) ≡ false → a ≡ false
nor_left true b e = absurd cc
nor_left false b e = refl

nor_right : (a b : Bool) → (a || b) ≡ false → b ≡ false
nor_right true b e = absurd cc
nor_right false b e = e

nor : (a b : Bool) → a ≡ false → b ≡ false → (a || b) ≡ false
nor a b e f = rw (e, f) refl

pub not_both : {A : Type 0} (b : Bool) → b ≡ true → b ≡ false → A
not_both true e f = absurd cc
not_both false e f = absurd cc

-- a node rises above the one before, and its parent is among those before
pub next_rises : (q : List ℕ) (before : List (List ℕ)) (p : List ℕ) → is_next (q ∷ before) p ≡ true → by_bytes q p ≡ Less
next_rises q before p e = is_less _ (and-left _ _ e)

next_parent : (q : List ℕ) (before : List (List ℕ)) (p : List ℕ) → is_next (q ∷ before) p ≡ true → list_any (same (parent p)) (q ∷ before) ≡ true
next_parent q before p e = and-right _ _ e

next_is : (q : List ℕ) (before : List (List ℕ)) (p : List ℕ) → by_bytes q p ≡ Less → list_any (same (parent p)) (q ∷ before) ≡ true → is_next (q ∷ before) p ≡ true
next_is q before p l e = both _ _ (less_is _ l) e

-- whether a path is there, node by node
cond_some : {A : Type 0} (b : Bool) (x : A) (o : Option A) → is_some (cond b (Some x) o) ≡ (b || is_some o)
cond_some true x o = refl
cond_some false x o = refl

pub there_cons : (n : Node) (nodes : Nodes) (p : List ℕ) → is_there (n ∷ nodes) p ≡ (same p n.0 || is_there nodes p)
there_cons n nodes p = cond_some (same p n.0) n.1 (lookup (same p) nodes)

-- a path that is not above the last one before isn't there
absent : (x q : List ℕ) (before : List (List ℕ)) (nodes : Nodes) → by_bytes x q ≡ Less → Grown (q ∷ before) nodes → is_there nodes x ≡ false
absent x q before [] l e = refl
absent x q before (n ∷ nodes) l e =
    let up = next_rises q before n.0 (first_node (q ∷ before) n nodes e).next in
    let less : by_bytes x n.0 ≡ Less = nat_list_cmp_total.trans x q n.0 l up in
    there_cons n nodes x ∙ nor _ _ (less_apart _ less) (absent x n.0 (q ∷ before) nodes less (other_nodes (q ∷ before) n nodes e))

-- ---- more before, or fewer

-- each node's parent passes a test
Kept : (List ℕ → Bool) → Nodes → Type 0
Kept ok [] = Unit {0}
Kept ok (n ∷ nodes) = (ok (parent n.0) ≡ true) × Kept ok nodes

-- the paths that pass, and are among the first, are among the second
Covers : (List ℕ → Bool) → List (List ℕ) → List (List ℕ) → Type 0
Covers ok s t = (p : List ℕ) → ok p ≡ true → list_any (same p) s ≡ true → list_any (same p) t ≡ true

before_changes : (ok : List ℕ → Bool) (q : List ℕ) (s t : List (List ℕ)) (nodes : Nodes) → Covers ok (q ∷ s) (q ∷ t) → Kept ok nodes → Grown (q ∷ s) nodes → Grown (q ∷ t) nodes
unfolding Kept Covers
before_changes ok q s t [] h k e = grown_none (q ∷ t)
before_changes ok q s t (n ∷ nodes) h k e =
    let i = first_node (q ∷ s) n nodes e in
    let next = next_is q t n.0 (next_rises q s n.0 i.next) (h (parent n.0) k.0 (next_parent q s n.0 i.next)) in
    grown_more (q ∷ t) n nodes (record { path = i.path; next = next; text = i.text })
    (before_changes ok n.0 (q ∷ s) (q ∷ t) nodes (λ p o a. or_more (same p n.0) _ _ (h p o) a) k.1 (other_nodes (q ∷ s) n nodes e))

all_kept : (nodes : Nodes) → Kept (λ _. true) nodes
unfolding Kept
all_kept [] = tt
all_kept (n ∷ nodes) = (refl, all_kept nodes)

-- ---- create

abbrev pub Rises : List (List ℕ) → List ℕ → Type 0
Rises [] p = Unit {0}
Rises (q ∷ before) p = by_bytes q p ≡ Less

-- a new path before the first node
insert_first : (before : List (List ℕ)) (n : Node) (nodes : Nodes) (p : List ℕ) (t : Option (List ℕ)) → IsPath p → (maybe text_format).fits t ≡ true → Rises before p → list_any (same (parent p)) before ≡ true → by_bytes p n.0 ≡ Less
    → Grown before (n ∷ nodes) → Grown before ((p, t) ∷ n ∷ nodes)
unfolding Covers
insert_first [] n nodes p t is fits up parent_is less e = absurd cc
insert_first (q ∷ before) n nodes p t is fits up parent_is less e =
    let i = first_node (q ∷ before) n nodes e in
    let next = next_is p (q ∷ before) n.0 less (or_right (same (parent n.0) p) _ (next_parent q before n.0 i.next)) in
    let rest = before_changes (λ _. true) n.0 (q ∷ before) (p ∷ q ∷ before) nodes (λ x o a. or_more (same x n.0) _ _ (λ b. or_right (same x p) _ b) a) (all_kept nodes) (other_nodes (q ∷ before) n nodes e) in
    grown_more (q ∷ before) (p, t) (n ∷ nodes) (record { path = is; next = next_is q before p up parent_is; text = fits })
    (grown_more (p ∷ q ∷ before) n nodes (record { path = i.path; next = next; text = i.text }) rest)

insert_only : (before : List (List ℕ)) (p : List ℕ) (t : Option (List ℕ)) → IsPath p → (maybe text_format).fits t ≡ true → Rises before p → list_any (same (parent p)) before ≡ true → Grown before ((p, t) ∷ [])
insert_only [] p t is fits up parent_is = absurd cc
insert_only (q ∷ before) p t is fits up parent_is = grown_more (q ∷ before) (p, t) [] (record { path = is; next = next_is q before p up parent_is; text = fits }) (grown_none (p ∷ q ∷ before))

or_nothing : (a : Bool) → (a || false) ≡ true → a ≡ true
or_nothing true e = refl
or_nothing false e = absurd cc

or_first : (a b : Bool) → (a || b) ≡ true → b ≡ false → a ≡ true
or_first true b e f = refl
or_first false b e f = absurd cc

pub insert_grown : (before : List (List ℕ)) (nodes : Nodes) (p : List ℕ) (t : Option (List ℕ)) → IsPath p → same root p ≡ false → (maybe text_format).fits t ≡ true → Rises before p
    → (list_any (same (parent p)) before || is_there nodes (parent p)) ≡ true → is_there nodes p ≡ false → Grown before nodes → Grown before (insert_entry by_bytes nodes p t)
insert_grown before [] p t is other fits up parent_is new e = insert_only before p t is fits up (or_nothing _ parent_is)
insert_grown before (n ∷ nodes) p t is other fits up parent_is new e =
    let absent_here = sym (there_cons n nodes p) ∙ new in
    let parents : (list_any (same (parent p)) before || (same (parent p) n.0 || is_there nodes (parent p))) ≡ true = ap (λ b. list_any (same (parent p)) before || b) (sym (there_cons n nodes (parent p))) ∙ parent_is in
    elim (by_bytes p n.0) as (λ o. by_bytes p n.0 ≡ o → Grown before (match_ordering o ((p, t) ∷ n ∷ nodes) ((n.0, t) ∷ nodes) (n ∷ insert_entry by_bytes nodes p t))) [
      | Less ↦ λ o.
          let low = parent_less p is other in
          let less : by_bytes (parent p) n.0 ≡ Less = nat_list_cmp_total.trans (parent p) p n.0 low o in
          let none : (same (parent p) n.0 || is_there nodes (parent p)) ≡ false = nor _ _ (less_apart _ less) (absent (parent p) n.0 before nodes less (other_nodes before n nodes e)) in
          insert_first before n nodes p t is fits up (or_first _ _ parents none) o e
      | Equal ↦ λ o. let is_it : same p n.0 ≡ true = rw o refl in not_both (same p n.0) is_it (nor_left _ _ absent_here)
      | Greater ↦ λ o.
          grown_more before n (insert_entry by_bytes nodes p t) (first_node before n nodes e)
          (insert_grown (n.0 ∷ before) nodes p t is other fits (greater_back p n.0 o) (or_moved (list_any (same (parent p)) before) (same (parent p) n.0) (is_there nodes (parent p)) parents) (nor_right _ _ absent_here) (other_nodes before n nodes e))
    ] refl

-- ---- store

pub stored_grown : (before : List (List ℕ)) (nodes : Nodes) (p : List ℕ) (t : Option (List ℕ)) → (maybe text_format).fits t ≡ true → Grown before nodes → Grown before (set_value (same p) nodes t)
stored_grown before [] p t fits e = e
stored_grown before (n ∷ nodes) p t fits e =
    let i = first_node before n nodes e in
    elim (same p n.0) as (λ b. Grown before (cond b ((n.0, t) ∷ nodes) (n ∷ set_value (same p) nodes t))) [
      | true ↦ grown_more before (n.0, t) nodes (record { path = i.path; next = i.next; text = fits }) (other_nodes before n nodes e)
      | false ↦ grown_more before n (set_value (same p) nodes t) i (stored_grown (n.0 ∷ before) nodes p t fits (other_nodes before n nodes e))
    ]

-- ---- delete

not_less : (rest : List ℕ) → by_bytes (47 ∷ rest) root ≡ Less → ⊥
not_less [] e = absurd cc
not_less (b ∷ rest) e = absurd cc

above_root : (x p : List ℕ) → IsPath x → by_bytes x p ≡ Less → same root p ≡ false
above_root x p is l =
    elim (same root p) as (λ b. same root p ≡ b → same root p ≡ false) [
      | true ↦ λ b.
          let s = path_starts x is in
          let r : root ≡ p = same_is root p b in
          let m : by_bytes (47 ∷ s.0) root ≡ Less = subst (λ y. by_bytes (47 ∷ s.0) y ≡ Less) (sym r) (subst (λ y. by_bytes y p ≡ Less) s.1 l) in
          absurd (not_less s.0 m)
      | false ↦ λ b. b
    ] refl

-- a node that is no child has another parent
and_false : (a b : Bool) → (not a && b) ≡ false → a ≡ false → b ≡ false
and_false true b e f = absurd cc
and_false false b e f = e

not_false : (a : Bool) → a ≡ false → not a ≡ true
not_false a e = rw e refl

no_kids : (x q : List ℕ) (before : List (List ℕ)) (nodes : Nodes) → IsPath q → has_child nodes x ≡ false → Grown (q ∷ before) nodes → Kept (λ p. not (same x p)) nodes
unfolding Kept
no_kids x q before [] is none e = tt
no_kids x q before (n ∷ nodes) is none e =
    let i = first_node (q ∷ before) n nodes e in
    let other : same root n.0 ≡ false = above_root q n.0 is (next_rises q before n.0 i.next) in
    let apart : same x (parent n.0) ≡ false = and_false _ _ (nor_left _ _ none) other in
    (not_false _ apart, no_kids x n.0 (q ∷ before) nodes i.path (nor_right _ _ none) (other_nodes (q ∷ before) n nodes e))

not_true : (a : Bool) → not a ≡ true → a ≡ false
not_true true e = absurd cc
not_true false e = refl

pub same_turned : (p x : List ℕ) → same x p ≡ false → same p x ≡ false
same_turned p x e =
    elim (same p x) as (λ b. same p x ≡ b → same p x ≡ false) [
      | true ↦ λ b. let is : p ≡ x = same_is p x b in let f : same x x ≡ false = subst (λ y. same x y ≡ false) is e in not_both (same x x) (same_itself x) f
      | false ↦ λ b. b
    ] refl

without : (x q : List ℕ) (before : List (List ℕ)) (nodes : Nodes) → by_bytes q x ≡ Less → Kept (λ p. not (same x p)) nodes → Grown (x ∷ q ∷ before) nodes → Grown (q ∷ before) nodes
unfolding Kept Covers
without x q before [] l k e = grown_none (q ∷ before)
without x q before (n ∷ nodes) l k e =
    let i = first_node (x ∷ q ∷ before) n nodes e in
    let apart : same (parent n.0) x ≡ false = same_turned (parent n.0) x (not_true _ k.0) in
    let next = next_is q before n.0 (nat_list_cmp_total.trans q x n.0 l (next_rises x (q ∷ before) n.0 i.next)) (or_rest _ _ apart (next_parent x (q ∷ before) n.0 i.next)) in
    grown_more (q ∷ before) n nodes (record { path = i.path; next = next; text = i.text })
    (before_changes (λ p. not (same x p)) n.0 (x ∷ q ∷ before) (q ∷ before) nodes (λ p o a. or_more (same p n.0) _ _ (λ b. or_rest _ _ (same_turned p x (not_true _ o)) b) a) k.1 (other_nodes (x ∷ q ∷ before) n nodes e))

removed_here : (x : List ℕ) (before : List (List ℕ)) (n : Node) (nodes : Nodes) → same root x ≡ false → x ≡ n.0 → has_child nodes x ≡ false → Grown before (n ∷ nodes) → Grown before nodes
removed_here x [] n nodes other is none e =
    let first : same root n.0 ≡ true = (first_node [] n nodes e).next in
    not_both (same root x) (subst (λ y. same root y ≡ true) (sym is) first) other
removed_here x (q ∷ before) n nodes other is none e =
    let i = first_node (q ∷ before) n nodes e in
    let rest = other_nodes (q ∷ before) n nodes e in
    let kept = no_kids x n.0 (q ∷ before) nodes i.path none rest in
    without x q before nodes (subst (λ y. by_bytes q y ≡ Less) (sym is) (next_rises q before n.0 i.next)) kept (subst (λ y. Grown (y ∷ q ∷ before) nodes) (sym is) rest)

pub removed_grown : (x : List ℕ) (before : List (List ℕ)) (nodes : Nodes) → same root x ≡ false → has_child nodes x ≡ false → Grown before nodes → Grown before (remove_entry (same x) nodes)
removed_grown x before [] other none e = e
removed_grown x before (n ∷ nodes) other none e =
    elim (same x n.0) as (λ b. same x n.0 ≡ b → Grown before (cond b nodes (n ∷ remove_entry (same x) nodes))) [
      | true ↦ λ b. removed_here x before n nodes other (same_is x n.0 b) (nor_right _ _ none) e
      | false ↦ λ b. grown_more before n (remove_entry (same x) nodes) (first_node before n nodes e) (removed_grown x (n.0 ∷ before) nodes other (nor_right _ _ none) (other_nodes before n nodes e))
    ] refl

-- all paths are paths
abbrev pub ArePaths : Nodes → Type 0
ArePaths [] = Unit {0}
ArePaths (n ∷ nodes) = IsPath n.0 × ArePaths nodes

pub are_paths : (before : List (List ℕ)) (nodes : Nodes) → Grown before nodes → ArePaths nodes
are_paths before [] e = tt
are_paths before (n ∷ nodes) e = ((first_node before n nodes e).path, are_paths (n.0 ∷ before) nodes (other_nodes before n nodes e))

-- the last name of a path, where it is a child of another
abbrev pub name_of : List ℕ → List ℕ → List (List ℕ)
name_of p q = cond (is_child p q) (last_name q ∷ []) []

-- ---- nodes read one after the other

-- the paths of some nodes, the latest first, behind those before them
abbrev pub back : List (List ℕ) → Nodes → List (List ℕ)
back before [] = before
back before (n ∷ nodes) = back (n.0 ∷ before) nodes

pub back_more : (before : List (List ℕ)) (nodes : Nodes) (n : Node) → back before (nodes ++ n ∷ []) ≡ n.0 ∷ back before nodes
back_more before [] n = refl
back_more before (m ∷ nodes) n = back_more (m.0 ∷ before) nodes n

or_none : (a : Bool) → (a || false) ≡ a
or_none true = refl
or_none false = refl

some_is : (m n : Node) → Some m ≡ Some n → m ≡ n
some_is m n e = cc

or_three : (a b c : Bool) → ((a || b) || c) ≡ (b || (a || c))
or_three true true c = refl
or_three true false c = refl
or_three false true c = refl
or_three false false c = refl

pub back_any : (before : List (List ℕ)) (nodes : Nodes) (p : List ℕ) → list_any (same p) (back before nodes) ≡ (list_any (same p) before || is_there nodes p)
back_any before [] p = sym (or_none (list_any (same p) before))
back_any before (n ∷ nodes) p =
    back_any (n.0 ∷ before) nodes p ∙ or_three (same p n.0) (list_any (same p) before) (is_there nodes p) ∙ ap (λ b. list_any (same p) before || b) (sym (there_cons n nodes p))

-- the latest path
pub back_last : (before : List (List ℕ)) (nodes : Nodes) (n : Node) → slice_get nodes (length nodes - 1) ≡ Some n → (rest : List (List ℕ)) × (back before nodes ≡ n.0 ∷ rest)
back_last before [] n e = absurd cc
back_last before (m ∷ []) n e = let is : m ≡ n = some_is m n e in (before, ap (λ (k : Node). k.0 ∷ before) is)
back_last before (m ∷ k ∷ nodes) n e =
    let one : suc (suc (length nodes)) - 1 ≡ suc (suc (length nodes) - 1) = omega arith in
    let at : slice_get (m ∷ k ∷ nodes) (suc (suc (length nodes) - 1)) ≡ Some n = subst (λ i. slice_get (m ∷ k ∷ nodes) i ≡ Some n) one e in
    back_last (m.0 ∷ before) (k ∷ nodes) n at

-- what comes after some nodes
pub next_at : (nodes : Nodes) (n : Node) (p : List ℕ) → slice_get nodes (length nodes - 1) ≡ Some n → is_next (back [] nodes) p ≡ (is_lt (by_bytes n.0 p) && is_there nodes (parent p))
next_at nodes n p e =
    let b = back_last [] nodes n e in
    let among : list_any (same (parent p)) (n.0 ∷ b.0) ≡ is_there nodes (parent p) = ap (λ (s : List (List ℕ)). list_any (same (parent p)) s) (sym b.1) ∙ back_any [] nodes (parent p) in
    ap (λ (s : List (List ℕ)). is_next s p) b.1 ∙ ap (λ c. is_lt (by_bytes n.0 p) && c) among

pub next_at_first : (nodes : Nodes) (p : List ℕ) → length nodes ≡ 0 → is_next (back [] nodes) p ≡ same root p
next_at_first [] p e = refl
next_at_first (n ∷ nodes) p e = absurd (omega (arith, e))

-- each path is at most the last, which is below the new one: it comes last
abbrev pub AllUpTo : List ℕ → Nodes → Type 0
AllUpTo last [] = Unit {0}
AllUpTo last (n ∷ nodes) = (is_lt (by_bytes last n.0) ≡ false) × AllUpTo last nodes

not_up : (o : Ordering) → is_lt o ≡ false → (o ≡ Equal) ⊎ (o ≡ Greater)
not_up Less e = absurd cc
not_up Equal e = inl refl
not_up Greater e = inr refl

above : (last m p : List ℕ) → is_lt (by_bytes last m) ≡ false → by_bytes last p ≡ Less → by_bytes p m ≡ Greater
above last m p e l =
    let less : by_bytes m p ≡ Less = elim (not_up (by_bytes last m) e) [
      | inl o ↦ let c = nat_list_cmp_total.congr last m p o in sym c ∙ l
      | inr o ↦ nat_list_cmp_total.trans m last p (greater_back last m o) l
    ] in
    let a = nat_list_cmp_total.antisymm p m in
    a ∙ rw less refl

pub comes_last : (last : List ℕ) (nodes : Nodes) (p : List ℕ) (t : Option (List ℕ)) → AllUpTo last nodes → by_bytes last p ≡ Less → insert_entry by_bytes nodes p t ≡ nodes ++ (p, t) ∷ []
comes_last last [] p t h l = refl
comes_last last (n ∷ nodes) p t h l =
    let o = above last n.0 p h.0 l in
    ap (λ c. match_ordering c ((p, t) ∷ n ∷ nodes) ((n.0, t) ∷ nodes) (n ∷ insert_entry by_bytes nodes p t)) o ∙ ap (λ (ms : Nodes). n ∷ ms) (comes_last last nodes p t h.1 l)

pub comes_first : (nodes : Nodes) (p : List ℕ) (t : Option (List ℕ)) → length nodes ≡ 0 → insert_entry by_bytes nodes p t ≡ nodes ++ (p, t) ∷ []
comes_first [] p t e = refl
comes_first (n ∷ nodes) p t e = absurd (omega (arith, e))

-- ---- parents

-- the parent of the root is the root
root_parent : (p : List ℕ) → same root p ≡ true → parent p ≡ p
root_parent p e = let is : root ≡ p = same_is root p e in subst (λ (x : List ℕ). parent x ≡ x) is refl

or_back : (a b c : Bool) → ((b || a) || c) ≡ true → (a || (b || c)) ≡ true
or_back true b c e = refl
or_back false true c e = refl
or_back false false c e = e

parent_before : (before : List (List ℕ)) (n : Node) (nodes : Nodes) → IsNode before n → (list_any (same (parent n.0)) before || (same (parent n.0) n.0 || is_there nodes (parent n.0))) ≡ true
parent_before [] n nodes i =
    let is = root_parent n.0 i.next in
    let here : same (parent n.0) n.0 ≡ true = subst (λ (x : List ℕ). same x n.0 ≡ true) (sym is) (same_itself n.0) in
    or_left (same (parent n.0) n.0) _ here
parent_before (q ∷ before) n nodes i = or_left (list_any (same (parent n.0)) (q ∷ before)) _ (next_parent q before n.0 i.next)

-- the parent of each path that is there is among the paths before, or is there
among : (before : List (List ℕ)) (nodes : Nodes) (p : List ℕ) → Grown before nodes → is_there nodes p ≡ true → (list_any (same (parent p)) before || is_there nodes (parent p)) ≡ true
among before [] p e there = absurd cc
among before (n ∷ nodes) p e there =
    let i = first_node before n nodes e in
    let here = sym (there_cons n nodes p) ∙ there in
    let goal = λ (b : Bool). (list_any (same (parent p)) before || b) ≡ true in
    subst goal (sym (there_cons n nodes (parent p))) (elim (same p n.0) as (λ b. same p n.0 ≡ b → (list_any (same (parent p)) before || (same (parent p) n.0 || is_there nodes (parent p))) ≡ true) [
      | true ↦ λ b. let is : p ≡ n.0 = same_is p n.0 b in subst (λ (x : List ℕ). (list_any (same (parent x)) before || (same (parent x) n.0 || is_there nodes (parent x))) ≡ true) (sym is) (parent_before before n nodes i)
      | false ↦ λ b. or_back (list_any (same (parent p)) before) (same (parent p) n.0) (is_there nodes (parent p)) (among (n.0 ∷ before) nodes p (other_nodes before n nodes e) (or_rest _ _ b here))
    ] refl)

pub parent_among : (before : List (List ℕ)) (nodes : Nodes) (p : List ℕ) → Grown before nodes → is_there nodes p ≡ true → before ≡ [] → is_there nodes (parent p) ≡ true
parent_among before nodes p e there none =
    let a = among before nodes p e there in
    subst (λ (s : List (List ℕ)). (list_any (same (parent p)) s || is_there nodes (parent p)) ≡ true) none a
