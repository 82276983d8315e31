-- Nodes as tables keep them: values by path in no order, and the children of each path.
use Rattle.std.specs.Prelude.{◌≡◌, ℕ, ◌++◌, List, [], ◌∷◌, Option, Some, None, if◌then◌else◌}
use Rattle.std.specs.declared.cmp.Ordering.TheVariants.{Less}
use Rattle.std.specs.Map.{lookup, remove_entry}
use Rattle.std.specs.BTreeMap.{insert_entry}
use Rattle.tg_tree.specs.Paths.{by_bytes, same, IsPath}
use Rattle.tg_tree.specs.Growth.{name_of}
use Rattle.tg_tree.specs.Trees.{Nodes, is_child}

-- entries in the order of their paths, of which the first counts where a path stands twice
abbrev pub risen : {A : Type 0} → List (List ℕ × A) → List (List ℕ × A)
risen [] = []
risen (e ∷ es) = insert_entry by_bytes (risen es) e.0 e.1

-- the path is below those of all entries
abbrev pub Below : {A : Type 0} → List ℕ → List (List ℕ × A) → Type 0
Below p [] = Unit {0}
Below p (e ∷ es) = (by_bytes p e.0 ≡ Less) × Below p es

-- each path is below those after it
abbrev pub Rising : {A : Type 0} → List (List ℕ × A) → Type 0
Rising [] = Unit {0}
Rising (e ∷ es) = Below e.0 es × Rising es

-- paths, each with no value
abbrev pub PathSet : Type 0
PathSet = List (List ℕ × Unit {0})

-- a path's children, in the paths' order
abbrev pub children_of : List ℕ → Nodes → PathSet
children_of p [] = []
children_of p (n ∷ nodes) = if is_child p n.0 then (n.0, tt) ∷ children_of p nodes else children_of p nodes

abbrev pub or_none : Option PathSet → PathSet
or_none None = []
or_none (Some paths) = paths

-- the paths that a table has for a path, none where it has no entry
abbrev pub set_at : List (List ℕ × PathSet) → List ℕ → PathSet
set_at table p = or_none (lookup (same p) table)

-- the table has each path's children
abbrev pub IsLinked : Nodes → List (List ℕ × PathSet) → Type 0
IsLinked nodes table = (p : List ℕ) → set_at table p ≡ children_of p nodes

-- a path other than the root is put among those of its parent, and all others stay
abbrev pub IsAdopted : List ℕ → List (List ℕ × PathSet) → List (List ℕ × PathSet) → Type 0
IsAdopted p old new = (q : List ℕ) → set_at new q ≡ (if is_child q p then insert_entry by_bytes (set_at old q) p tt else set_at old q)

-- a path other than the root leaves those of its parent, and all others stay
abbrev pub IsReleased : List ℕ → List (List ℕ × PathSet) → List (List ℕ × PathSet) → Type 0
IsReleased p old new = (q : List ℕ) → set_at new q ≡ (if is_child q p then remove_entry (same p) (set_at old q) else set_at old q)

-- the last names of those paths that are children of a path
abbrev pub names_of : List ℕ → PathSet → List (List ℕ)
names_of p [] = []
names_of p (e ∷ paths) = name_of p e.0 ++ names_of p paths

-- all are paths
abbrev pub AllPaths : PathSet → Type 0
AllPaths [] = Unit {0}
AllPaths (e ∷ paths) = IsPath e.0 × AllPaths paths
