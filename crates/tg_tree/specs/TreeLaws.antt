-- The laws of trees.
use Rattle.std.specs.Prelude.{◌≡◌, ℕ, suc, ◌<◌, ◌≤◌, ◌^◌, ◌-◌, max, min, Bool, true, false, ◌&&◌, ◌||◌, ◌==◌, not, nat_le, nat_lt, List, [], ◌∷◌, ◌++◌, length, Option, Some, None, is_some, Ok, refl}
use Rattle.std.specs.declared.cmp.Ordering.TheVariants.{Less, Equal, Greater}
use Rattle.std.specs.Ordering.{match_ordering}
use Rattle.std.specs.Cmp.Lexicographic.{pointwise}
use Rattle.std.specs.Map.{lookup, set_value, remove_entry}
use Rattle.std.specs.BTreeMap.{insert_entry}
use Rattle.std.proofs.Common.{arith, ap, sym, subst, cond, eqb, ◌∙◌}
use Rattle.std.proofs.lemmas.Bool.{le-leb, lt-ltb, leb-false, ltb-true}
use Rattle.std.proofs.lemmas.Bool.Decides.{nat_tests}
use Rattle.std.proofs.lemmas.Map.{length-set_value}
use Rattle.tg_base.specs.declared.ids.Oid.{Oid}
use Rattle.tg_base.specs.declared.marks.Part.TheVariants as parts
use Rattle.tg_codec.specs.Streams.{any}
use Rattle.tg_codec.specs.Codec.{variant, fixed, fit_many}
use Rattle.tg_codec.proofs.Laws.{IsExact, IsCodec, via_exact, dep_exact, fixed_law, only_if_exact, variant_law, dep_law, no_front, and-left, and-right, both}
use Rattle.tg_codec.proofs.Shapes.{behind_many_exact, tagged_law, IsTable, table_law, table_tag}
use Rattle.tg_codec.proofs.Widths.{u32_law}
use Rattle.tg_kind.specs.Bytes.{IsBytes}
use Rattle.tg_kind.specs.Headers.{is_header}
use Rattle.tg_base.specs.Parts.{is_part}
use Rattle.tg_kind.specs.Parts.{overlap}
use Rattle.tg_kind.specs.Words as words
use Rattle.tg_kind.specs.Texts.{text_format, text_law}
use Rattle.tg_tree.specs.Paths.{root, by_bytes, same, path_format, IsPath, parent}
use Rattle.tg_tree.specs.PathLaws.{path_law, path_is_part}
use Rattle.tg_tree.specs.Orders.{same_is}
use Rattle.tg_tree.specs.Growth.{Grown, first_node, insert_grown, stored_grown, removed_grown, parent_among, not_both, there_cons, same_turned}
use Rattle.tg_tree.specs.Trees.{Nodes, is_object, is_state, is_of, is_there, has_child, is_next, is_full, node_format, after_node, count_format, nodes_format, state_format, first, created, stored, deleted, applied, held, answered, touched, looked, saved, loaded, path_and_text, as_create, as_store, as_delete, code_of, op_bodies, op_format}
use Rattle.tg_tree.specs.declared.tree.TreeOp.{TreeOp}
use Rattle.tg_tree.specs.declared.tree.TreeOp.TheVariants.{Create, Store, Delete}
use Rattle.tg_tree.specs.declared.tree.TreeAsk.{TreeAsk}
use Rattle.tg_tree.specs.declared.tree.TreeAsk.TheVariants as asks
use Rattle.tg_tree.specs.declared.tree.TreeAns.TheVariants as answers

-- ---- the bytes of states

node_exact : (before : List (List ℕ)) → IsExact (node_format before)
node_exact before = dep_exact (only_if_exact (is_next before) path_law.exact) (λ _. (words.maybe_law text_format text_law).exact)

nodes_exact : IsExact nodes_format
nodes_exact = behind_many_exact node_format after_node (λ n. []) (only_if_exact (λ n. not (n == 0)) (u32_law any).exact) node_exact

pub state_law : IsExact state_format
state_law = via_exact (λ p. p.1) (λ x. (tt, x)) (dep_exact (fixed_law (5 ∷ [])).exact (λ _. nodes_exact)) (λ p e. refl) (λ x. refl)

-- ---- the bytes of ops

same_pair : (a b : List ℕ) (p : List ℕ × List ℕ) → Some (a, b) ≡ Some p → ◌≡◌ {A = List ℕ × List ℕ} (a, b) p
same_pair a b p e = cc

same_path : (a p : List ℕ) → Some a ≡ Some p → a ≡ p
same_path a p e = cc

create_forth : (op : TreeOp) (p : List ℕ × List ℕ) → as_create op ≡ Some p → Create p.0 p.1 ≡ op
create_forth (Create a t) p e = ap (λ (x : List ℕ × List ℕ). Create x.0 x.1) (sym (same_pair a t p e))
create_forth (Store a t) p e = absurd cc
create_forth (Delete a) p e = absurd cc

store_forth : (op : TreeOp) (p : List ℕ × List ℕ) → as_store op ≡ Some p → Store p.0 p.1 ≡ op
store_forth (Create a t) p e = absurd cc
store_forth (Store a t) p e = ap (λ (x : List ℕ × List ℕ). Store x.0 x.1) (sym (same_pair a t p e))
store_forth (Delete a) p e = absurd cc

delete_forth : (op : TreeOp) (p : List ℕ) → as_delete op ≡ Some p → Delete p ≡ op
delete_forth (Create a t) p e = absurd cc
delete_forth (Store a t) p e = absurd cc
delete_forth (Delete a) p e = ap (λ (x : List ℕ). Delete x) (sym (same_path a p e))

create_code : (op : TreeOp) → (variant (λ x. Create x.0 x.1) as_create path_and_text).fits op ≡ true → code_of op ≡ 0x50
create_code (Create a t) e = refl
create_code (Store a t) e = absurd cc
create_code (Delete a) e = absurd cc

store_code : (op : TreeOp) → (variant (λ x. Store x.0 x.1) as_store path_and_text).fits op ≡ true → code_of op ≡ 0x51
store_code (Create a t) e = absurd cc
store_code (Store a t) e = refl
store_code (Delete a) e = absurd cc

delete_code : (op : TreeOp) → (variant Delete as_delete path_format).fits op ≡ true → code_of op ≡ 0x52
delete_code (Create a t) e = absurd cc
delete_code (Store a t) e = absurd cc
delete_code (Delete a) e = refl

pair_law : IsCodec path_and_text
pair_law = dep_law path_law (λ _. text_law)

is_table : IsTable code_of op_bodies
is_table = (
  (variant_law (λ x. Create x.0 x.1) as_create pair_law (λ p. refl) create_forth, create_code),
  (
    (variant_law (λ x. Store x.0 x.1) as_store pair_law (λ p. refl) store_forth, store_code),
    ((variant_law Delete as_delete path_law (λ p. refl) delete_forth, delete_code), tt),
  ),
)

pub op_law : IsCodec op_format
op_law = tagged_law ((0x50, 0x52) ∷ []) code_of _ (table_law code_of op_bodies is_table) (λ t x m e. table_tag code_of op_bodies is_table t x e)

-- an op's numbers are within their types where its path is one, and its text

pub create_fits : (p t : List ℕ) → IsPath p → text_format.fits t ≡ true → op_format.fits (Create p t) ≡ true
create_fits p t e f = both _ _ e f

pub store_fits : (p t : List ℕ) → IsPath p → text_format.fits t ≡ true → op_format.fits (Store p t) ≡ true
store_fits p t e f = both _ _ e f

pub delete_fits : (p : List ℕ) → IsPath p → op_format.fits (Delete p) ≡ true
delete_fits p e = e

-- ---- states

-- a tree at first
pub first_fits : state_format.fits ((root, None) ∷ []) ≡ true
unfolding fit_many
first_fits = refl

-- what was read for a tree
pub was_tree : (bytes rest : List ℕ) (nodes : Nodes) (after : List ℕ) (u : Unit {0}) → IsBytes bytes → (fixed (5 ∷ [])).read bytes ≡ Ok (u, rest) → nodes_format.read rest ≡ Ok (nodes, after) → state_format.fits nodes ≡ true
was_tree bytes rest nodes after u fits e f =
    let t = (fixed_law (5 ∷ [])).exact.takes bytes u rest fits e in
    let v = nodes_exact.takes rest nodes after t.0.rest_fits f in
    v.1

pub first_is : (o : Oid) (os : List Oid) → is_object o ≡ true → is_header os ≡ true → is_state o (first o os) ≡ true
unfolding fit_many
first_is o os e h = both _ _ e refl

some_nodes : (n : ℕ) → not (n == 0) ≡ true → 1 ≤ n
some_nodes n e = grind (arith, nat_tests)

not_none : (n : ℕ) → 1 ≤ n → not (n == 0) ≡ true
not_none n le = grind (arith, nat_tests)

pub count_is : (nodes : Nodes) → state_format.fits nodes ≡ true → (1 ≤ length nodes) × (length nodes ≤ 2 ^ 32 - 1)
count_is nodes e =
    let size = and-left _ _ e in
    let few : length nodes < 2 ^ 32 = ltb-true _ _ (and-right _ _ (and-left _ _ size)) in
    (some_nodes (length nodes) (and-right _ _ size), omega (arith, few))

pub grown_is : (nodes : Nodes) → state_format.fits nodes ≡ true → Grown [] nodes
grown_is nodes e = and-right _ _ e

pub is_grown : (nodes : Nodes) → 1 ≤ length nodes → length nodes ≤ 2 ^ 32 - 1 → Grown [] nodes → state_format.fits nodes ≡ true
is_grown nodes low high e =
    let one : nat_le (max 0 (length nodes)) (min (2 ^ 64 - 1) (length nodes)) ≡ true = le-leb _ _ (omega (arith, high)) in
    let two : nat_lt (length nodes) (2 ^ 32) ≡ true = lt-ltb _ _ (omega (arith, high)) in
    let three : not (length nodes == 0) ≡ true = not_none (length nodes) low in
    let size : count_format.fits (length nodes) ≡ true = rw (one, two) three in
    both _ _ size e

insert_length : (nodes : Nodes) (p : List ℕ) (t : Option (List ℕ)) → (1 ≤ length (insert_entry by_bytes nodes p t)) × (length (insert_entry by_bytes nodes p t) ≤ suc (length nodes))
insert_length [] p t = (omega arith, omega arith)
insert_length (n ∷ nodes) p t =
    let rest = insert_length nodes p t in
    elim (by_bytes p n.0) as (λ o. (1 ≤ length (match_ordering o ((p, t) ∷ n ∷ nodes) ((n.0, t) ∷ nodes) (n ∷ insert_entry by_bytes nodes p t))) × (length (match_ordering o ((p, t) ∷ n ∷ nodes) ((n.0, t) ∷ nodes) (n ∷ insert_entry by_bytes nodes p t)) ≤ suc (suc (length nodes)))) [
      | Less ↦ (omega arith, omega arith)
      | Equal ↦ (omega arith, omega arith)
      | Greater ↦ (omega arith, omega (arith, rest.1))
    ]

remove_length : (nodes : Nodes) (p : List ℕ) → length (remove_entry (same p) nodes) ≤ length nodes
remove_length [] p = omega arith
remove_length (n ∷ nodes) p = let rest = remove_length nodes p in elim (same p n.0) as (λ b. length (cond b nodes (n ∷ remove_entry (same p) nodes)) ≤ suc (length nodes)) [ true ↦ omega arith | false ↦ omega (arith, rest) ]

-- the root stays
root_stays : (nodes : Nodes) (p : List ℕ) → 1 ≤ length nodes → same root p ≡ false → Grown [] nodes → 1 ≤ length (remove_entry (same p) nodes)
root_stays [] p le other e = le
root_stays (n ∷ nodes) p le other e =
    let is : same root n.0 ≡ true = (first_node [] n nodes e).next in
    elim (same p n.0) as (λ b. same p n.0 ≡ b → 1 ≤ length (cond b nodes (n ∷ remove_entry (same p) nodes))) [
      | true ↦ λ b. let at : p ≡ n.0 = same_is p n.0 b in not_both (same root p) (subst (λ (x : List ℕ). same root x ≡ true) (sym at) is) other
      | false ↦ λ b. omega arith
    ] refl

room_for : (n m : ℕ) → m ≤ suc n → n < 2 ^ 32 - 1 → m ≤ 2 ^ 32 - 1
room_for n m le lt = omega (arith, le, lt)

no_more : (n m : ℕ) → m ≤ n → n ≤ 2 ^ 32 - 1 → m ≤ 2 ^ 32 - 1
no_more n m le few = omega (arith, le, few)

choice_is : (b : Bool) (s u : Nodes) → state_format.fits s ≡ true → (b ≡ false → state_format.fits u ≡ true) → state_format.fits (cond b s u) ≡ true
choice_is true s u e h = e
choice_is false s u e h = h refl

nor_left : (a b : Bool) → (a || b) ≡ false → a ≡ false
nor_left true b e = absurd cc
nor_left false b e = refl

nor_right : (a b : Bool) → (a || b) ≡ false → b ≡ false
nor_right true b e = absurd cc
nor_right false b e = e

not_false_is : (a : Bool) → not a ≡ false → a ≡ true
not_false_is true e = refl
not_false_is false e = absurd cc

or_right : (a b : Bool) → b ≡ true → (a || b) ≡ true
or_right true b e = refl
or_right false b e = e

-- a new path isn't the root, which is there
not_the_root : (nodes : Nodes) (p : List ℕ) → 1 ≤ length nodes → Grown [] nodes → is_there nodes p ≡ false → same root p ≡ false
not_the_root [] p le e new = absurd (omega (arith, le))
not_the_root (n ∷ nodes) p le e new =
    let is : root ≡ n.0 = same_is root n.0 (first_node [] n nodes e).next in
    let apart : same p n.0 ≡ false = nor_left _ _ (sym (there_cons n nodes p) ∙ new) in
    same_turned root p (subst (λ (x : List ℕ). same p x ≡ false) (sym is) apart)

pub created_is : (s : Nodes) (p t : List ℕ) → state_format.fits s ≡ true → IsPath p → text_format.fits t ≡ true → state_format.fits (created s p t) ≡ true
created_is s p t e is fits =
    choice_is ((is_there s p || not (is_there s (parent p))) || is_full s) s (insert_entry by_bytes s p (Some t)) e (λ f.
    let new : is_there s p ≡ false = nor_left _ _ (nor_left _ _ f) in
    let parent_is : is_there s (parent p) ≡ true = not_false_is _ (nor_right _ _ (nor_left _ _ f)) in
    let room : length s < 2 ^ 32 - 1 = leb-false _ _ (nor_right _ _ f) in
    let count = count_is s e in
    let grown = grown_is s e in
    let size = insert_length s p (Some t) in
    is_grown (insert_entry by_bytes s p (Some t)) size.0 (room_for (length s) _ size.1 room)
    (insert_grown [] s p (Some t) is (not_the_root s p count.0 grown new) fits tt parent_is new grown))

pub stored_is : (s : Nodes) (p t : List ℕ) → state_format.fits s ≡ true → text_format.fits t ≡ true → state_format.fits (stored s p t) ≡ true
stored_is s p t e fits =
    let count = count_is s e in
    let size = length-set_value (same p) s (Some t) in
    is_grown (set_value (same p) s (Some t)) (omega (arith, size, count.0)) (omega (arith, size, count.1)) (stored_grown [] s p (Some t) fits (grown_is s e))

pub deleted_is : (s : Nodes) (p : List ℕ) → state_format.fits s ≡ true → state_format.fits (deleted s p) ≡ true
deleted_is s p e =
    choice_is (same root p || has_child s p) s (remove_entry (same p) s) e (λ f.
    let other : same root p ≡ false = nor_left _ _ f in
    let none : has_child s p ≡ false = nor_right _ _ f in
    let count = count_is s e in
    let grown = grown_is s e in
    is_grown (remove_entry (same p) s) (root_stays s p count.0 other grown) (no_more (length s) _ (remove_length s p) count.1) (removed_grown p [] s other none grown))

pub changed_is : (s : Nodes) (op : TreeOp) → state_format.fits s ≡ true → op_format.fits op ≡ true → state_format.fits (applied s op) ≡ true
changed_is s (Create p t) e f = let g : (path_format.fits p && text_format.fits t) ≡ true = f in created_is s p t e (and-left _ _ g) (and-right _ _ g)
changed_is s (Store p t) e f = let g : (path_format.fits p && text_format.fits t) ≡ true = f in stored_is s p t e (and-right _ _ g)
changed_is s (Delete p) e f = deleted_is s p e

-- the root is there
pub root_is_there : (s : Nodes) → state_format.fits s ≡ true → is_there s root ≡ true
root_is_there [] e = let count = count_is [] e in absurd (omega (arith, count.0))
root_is_there (n ∷ nodes) e = there_cons n nodes root ∙ ap (λ b. b || is_there nodes root) (first_node [] n nodes (grown_is (n ∷ nodes) e)).next

-- the parent of each path that is there is there
pub parent_is_there : (s : Nodes) (p : List ℕ) → state_format.fits s ≡ true → is_there s p ≡ true → is_there s (parent p) ≡ true
parent_is_there s p e there = parent_among [] s p (grown_is s e) there refl

pub applied_is : (o : Oid) (s : Nodes) (op : TreeOp) → is_state o s ≡ true → op_format.fits op ≡ true → is_state o (applied s op) ≡ true
applied_is o s op e f = both _ _ (and-left _ _ e) (changed_is s op (and-right _ _ e) f)

pub other_kind : (o : Oid) (s : Nodes) (op : TreeOp) → is_state o s ≡ true → is_of o op ≡ false → applied s op ≡ s
other_kind o s op e f = not_both (is_object o) (and-left _ _ e) f

-- ---- ops and asks of other paths

itself : (p : List ℕ) → pointwise (λ x y. x == y) p p ≡ true
itself [] = refl
itself (b ∷ p) = let one : eqb b b ≡ true = grind arith in both _ _ one (itself p)

other_path : (p q : List ℕ) → pointwise (λ x y. x == y) p q ≡ false → same q p ≡ false
other_path p q e =
    elim (same q p) as (λ b. same q p ≡ b → same q p ≡ false) [
      | true ↦ λ b. let is : q ≡ p = same_is q p b in not_both (pointwise (λ x y. x == y) p p) (itself p) (subst (λ (x : List ℕ). pointwise (λ x y. x == y) p x ≡ false) is e)
      | false ↦ λ b. b
    ] refl

inserted_elsewhere : (nodes : Nodes) (p q : List ℕ) (t : Option (List ℕ)) → same q p ≡ false → lookup (same q) (insert_entry by_bytes nodes p t) ≡ lookup (same q) nodes
inserted_elsewhere [] p q t e = ap (λ b. cond b (Some t) None) e
inserted_elsewhere (n ∷ nodes) p q t e =
    let rest = inserted_elsewhere nodes p q t e in
    elim (by_bytes p n.0) as (λ o. by_bytes p n.0 ≡ o → lookup (same q) (match_ordering o ((p, t) ∷ n ∷ nodes) ((n.0, t) ∷ nodes) (n ∷ insert_entry by_bytes nodes p t)) ≡ lookup (same q) (n ∷ nodes)) [
      | Less ↦ λ o. ap (λ b. cond b (Some t) (lookup (same q) (n ∷ nodes))) e
      | Equal ↦ λ o.
          let at : same p n.0 ≡ true = rw o refl in
          let is : p ≡ n.0 = same_is p n.0 at in
          let f : same q n.0 ≡ false = subst (λ (x : List ℕ). same q x ≡ false) is e in
          rw f refl
      | Greater ↦ λ o. ap (cond (same q n.0) (Some n.1)) rest
    ] refl

stored_elsewhere : (nodes : Nodes) (p q : List ℕ) (t : Option (List ℕ)) → same q p ≡ false → lookup (same q) (set_value (same p) nodes t) ≡ lookup (same q) nodes
stored_elsewhere [] p q t e = refl
stored_elsewhere (n ∷ nodes) p q t e =
    let rest = stored_elsewhere nodes p q t e in
    elim (same p n.0) as (λ b. same p n.0 ≡ b → lookup (same q) (cond b ((n.0, t) ∷ nodes) (n ∷ set_value (same p) nodes t)) ≡ lookup (same q) (n ∷ nodes)) [
      | true ↦ λ b.
          let is : p ≡ n.0 = same_is p n.0 b in
          let f : same q n.0 ≡ false = subst (λ (x : List ℕ). same q x ≡ false) is e in
          rw f refl
      | false ↦ λ b. ap (cond (same q n.0) (Some n.1)) rest
    ] refl

removed_elsewhere : (nodes : Nodes) (p q : List ℕ) → same q p ≡ false → lookup (same q) (remove_entry (same p) nodes) ≡ lookup (same q) nodes
removed_elsewhere [] p q e = refl
removed_elsewhere (n ∷ nodes) p q e =
    let rest = removed_elsewhere nodes p q e in
    elim (same p n.0) as (λ b. same p n.0 ≡ b → lookup (same q) (cond b nodes (n ∷ remove_entry (same p) nodes)) ≡ lookup (same q) (n ∷ nodes)) [
      | true ↦ λ b.
          let is : p ≡ n.0 = same_is p n.0 b in
          let f : same q n.0 ≡ false = subst (λ (x : List ℕ). same q x ≡ false) is e in
          rw f refl
      | false ↦ λ b. ap (cond (same q n.0) (Some n.1)) rest
    ] refl

either : (b : Bool) (q : List ℕ) (s u : Nodes) → lookup (same q) u ≡ lookup (same q) s → lookup (same q) (cond b s u) ≡ lookup (same q) s
either true q s u e = refl
either false q s u e = e

-- an op changes nothing at another path
elsewhere : (s : Nodes) (op : TreeOp) (q : List ℕ) → overlap (touched op) (parts.Text q) ≡ false → lookup (same q) (applied s op) ≡ lookup (same q) s
elsewhere s (Create p t) q e = either _ q s _ (inserted_elsewhere s p q (Some t) (other_path p q e))
elsewhere s (Store p t) q e = stored_elsewhere s p q (Some t) (other_path p q e)
elsewhere s (Delete p) q e = either _ q s _ (removed_elsewhere s p q (other_path p q e))

touches_all : (op : TreeOp) → overlap (touched op) parts.All ≡ true
touches_all (Create p t) = refl
touches_all (Store p t) = refl
touches_all (Delete p) = refl

pub apart : (s : Nodes) (op : TreeOp) (ask : TreeAsk) → overlap (touched op) (looked ask) ≡ false → answered (applied s op) ask ≡ answered s ask
apart s op (asks.Data q) e = ap (λ o. answers.Data (held o)) (elsewhere s op q e)
apart s op (asks.Has q) e = ap (λ o. answers.Has (is_some o)) (elsewhere s op q e)
apart s op (asks.Children q) e = not_both (overlap (touched op) parts.All) (touches_all op) e

pub touched_is : (op : TreeOp) → op_format.fits op ≡ true → is_part (touched op) ≡ true
touched_is (Create p t) e = let g : (path_format.fits p && text_format.fits t) ≡ true = e in path_is_part p (and-left _ _ g)
touched_is (Store p t) e = let g : (path_format.fits p && text_format.fits t) ≡ true = e in path_is_part p (and-left _ _ g)
touched_is (Delete p) e = path_is_part p e

-- ---- the laws of bytes

pub loads_saved : (o : Oid) (s : Nodes) → is_state o s ≡ true → loaded o (saved s) ≡ Ok s
loads_saved o s e = words.loads_saved state_format state_law s (and-right _ _ e)

pub loads_only : (o : Oid) (bytes : List ℕ) (s : Nodes) → is_object o ≡ true → IsBytes bytes → loaded o bytes ≡ Ok s → (is_state o s ≡ true) × (bytes ≡ saved s)
loads_only o bytes s is fits e = let t = words.loads_only state_format state_law bytes s fits e in (both _ _ is t.0, t.1)

pub reads_spelled : (op : TreeOp) (rest : List ℕ) → op_format.fits op ≡ true → op_format.read (op_format.spell op ++ rest) ≡ Ok (op, rest)
reads_spelled op rest e = op_law.exact.again op rest e

pub reads_only : (bytes : List ℕ) (op : TreeOp) (rest : List ℕ) → IsBytes bytes → op_format.read bytes ≡ Ok (op, rest) → (op_format.fits op ≡ true) × (bytes ≡ op_format.spell op ++ rest)
reads_only bytes op rest fits e = words.reads_only op_format op_law.exact bytes op rest fits e

pub spelled_some : (op : TreeOp) → op_format.fits op ≡ true → 1 ≤ length (op_format.spell op)
spelled_some (Create p t) e = omega arith
spelled_some (Store p t) e = omega arith
spelled_some (Delete p) e = omega arith

pub no_front_law : (a b : TreeOp) (x y : List ℕ) → op_format.fits a ≡ true → op_format.fits b ≡ true → op_format.spell a ++ x ≡ op_format.spell b ++ y → a ≡ b
no_front_law a b x y f g e = no_front op_format op_law.exact a b x y f g e
