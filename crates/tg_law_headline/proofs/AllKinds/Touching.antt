-- What the store's kinds read as an op touches a part of the format, whatever the bytes are.
use Rattle.std.proofs.Common.{◌≡◌, ℕ, ◌^◌, ◌-◌, Bool, true, false, cond, List, [], ◌∷◌, length, Ok, Err, Some, None, refl, ap, subst, arith}
use Rattle.std.specs.Prelude.{◌||◌, ◌==◌, if◌then◌else◌}
use Rattle.std.specs.List.{list_all}
use Rattle.tg_base.specs.declared.marks.Part.TheVariants.{Text, Num}
use Rattle.tg_codec.specs.Reading.{Read, meets}
use Rattle.tg_codec.specs.Codec.{Codec, u8, u64, dep, variant, tagged, from_table, never}
use Rattle.tg_codec.specs.Bounds.{same_ranges, raw_in}
use Rattle.tg_codec.specs.Streams.{any}
use Rattle.tg_codec.proofs.Shapes.{met_within}
use Rattle.tg_kind.specs.Of.{read_by}
use Rattle.tg_base.specs.Parts.{is_part}
use Rattle.tg_kind.specs.Texts.{text_bytes, text_format}
use Rattle.tg_dir.specs.Directories as directories
use Rattle.tg_dir.specs.declared.directory.DirectoryOp.{DirectoryOp}
use Rattle.tg_dir.specs.declared.directory.DirectoryOp.TheVariants.{Name, Mark}
use Rattle.tg_dir.specs.Spellings.{object}
use Rattle.tg_cell.specs.Counters as counters
use Rattle.tg_cell.specs.Registers as registers
use Rattle.tg_map.specs.Maps as maps
use Rattle.tg_map.specs.declared.map.MapOp.{MapOp}
use Rattle.tg_map.specs.declared.map.MapOp.TheVariants as map
use Rattle.tg_list.specs.TextLists as lists
use Rattle.tg_tree.specs.Paths.{next_bytes, path_byte, after_byte, path_body, path_format}
use Rattle.tg_tree.specs.Trees as trees
use Rattle.tg_tree.specs.declared.tree.TreeOp.{TreeOp}
use Rattle.tg_tree.specs.declared.tree.TreeOp.TheVariants as tree
use Rattle.tg_set.specs.Sets as sets
use Rattle.tg_set.specs.declared.set.SetOp.{SetOp}
use Rattle.tg_set.specs.declared.set.SetOp.TheVariants as set
use Rattle.tg_any.specs.Anys as any
use Rattle.tg_any.specs.AllKinds.{all_kinds}
use Rattle.tg_any.specs.declared.any.AnyOp.{AnyOp}
use Rattle.tg_any.specs.declared.any.AnyOp.TheVariants as ops
use Rattle.tg_law_walks.specs.Drafts.Parts.{TouchParts}
use Rattle.tg_law_walks.proofs.Drafts.Heads.{ok_is}
use Rattle.tg_law_walks.proofs.Drafts.Ranges.{Reads, is_small, reads_dep, reads_shape, reads_many, reads_short, small_more, u8_met, u64_met}

-- Texts, paths and numbers.

pub letter_small : (b : ℕ) → meets text_bytes b b ≡ true → is_small b ≡ true
letter_small b e = grind (arith, e)

reads_letters : Reads text_format (λ t. is_part (Text t) ≡ true)
reads_letters = reads_short 1 (raw_in text_bytes) (omega arith) (λ n bytes t left e. let h = letters n text_bytes bytes t left e in (h.0, h.1 refl))
  where
    letters : (n : ℕ) (s : List (ℕ × ℕ)) (bytes t left : List ℕ) → (raw_in s n).read bytes ≡ Ok (t, left) → (length t ≡ n) × (s ≡ text_bytes → list_all is_small t ≡ true)
    letters n s = reads_many u8 same_ranges (λ s b. s ≡ text_bytes → is_small b ≡ true) (λ s bs. s ≡ text_bytes → list_all is_small bs ≡ true) (λ s is. refl) (λ s b bs p q is. small_more s b bs (p is) (q is))
        (λ s bytes b rest e is. letter_small b (subst (λ (r : List (ℕ × ℕ)). meets r b b ≡ true) is (u8_met s bytes b rest e))) n s

pub path_small : (s : ℕ × ℕ) (b : ℕ) → meets (next_bytes s) b b ≡ true → is_small b ≡ true
path_small s b e = by (s.1 == 0) ((s.1 == 47) || (s.0 == 1)) e
  where
    by : (c d : Bool) → meets (cond c ((47, 47) ∷ []) (cond d text_bytes ((47, 47) ∷ text_bytes))) b b ≡ true → is_small b ≡ true
    by true d f = let top = (met_within 47 47 b f).1 in grind (arith, top)
    by false true f = letter_small b f
    by false false f = grind (arith, f)

reads_path : Reads path_format (λ t. is_part (Text t) ≡ true)
reads_path = reads_short 1 path_body (omega arith)
    (λ n. reads_many path_byte after_byte (λ s b. is_small b ≡ true) (λ s bs. list_all is_small bs ≡ true) (λ s. refl) small_more (λ s bytes b rest e. path_small s b (u8_met (next_bytes s) bytes b rest e)) n (n, 0))

reads_number : Reads (u64 any) (λ n. is_part (Num n) ≡ true)
reads_number bytes n rest e = let top = (met_within 0 (2 ^ 64 - 1) n (u64_met any bytes n rest e)).1 in grind (arith, top)

-- Ops of each kind.

abbrev Any : {A : Type 0} → A → Type 0
Any x = Unit {0}

reads_any : {A : Type 0} (c : Codec A) → Reads c Any
reads_any c bytes x rest e = tt

-- an op by its code
reads_tagged : {X : Type 0} (tags : List (ℕ × ℕ)) (tag : X → ℕ) (body : ℕ → Codec X) (Q : X → Type 0) → ((n : ℕ) → Reads (body n) Q) → Reads (tagged tags tag body) Q
reads_tagged tags tag body Q each = reads_shape (λ p. p.1) (dep (u8 tags) body) (λ p. Any p.0 × Q p.1) Q (reads_dep (u8 tags) body Any (λ n x. Q x) (reads_any (u8 tags)) (λ n h. each n)) (λ p h. h.1)

-- a text, and then something
abbrev HasText : {B : Type 0} → List ℕ × B → Type 0
HasText p = (is_part (Text p.0) ≡ true) × Any p.1

first_text : {B : Type 0} (c : Codec (List ℕ)) (d : Codec B) → Reads c (λ t. is_part (Text t) ≡ true) → Reads (dep c (λ t. d)) HasText
first_text c d first = reads_dep c (λ t. d) (λ t. is_part (Text t) ≡ true) (λ t x. Any x) first (λ t h. reads_any d)

abbrev OfDirectory : DirectoryOp → Type 0
OfDirectory op = is_part (directories.touched op) ≡ true

directory_body : (b : Bool) → Reads (cond b directories.name_format directories.mark_format) OfDirectory
directory_body true = reads_shape (λ p. Name p.0 p.1) (dep text_format (λ t. object)) HasText OfDirectory (first_text text_format object reads_letters) (λ p h. h.0)
directory_body false = reads_shape (λ p. Mark p.0 p.1) (dep object (λ o. u64 any)) Any OfDirectory (reads_any (dep object (λ o. u64 any))) (λ p h. refl)

reads_directory : Reads directories.op_format OfDirectory
unfolding directories.op_format
reads_directory = reads_tagged ((1, 2) ∷ []) directories.code_of directories.op_body OfDirectory (λ n. directory_body (n == 1))

abbrev OfMap : MapOp → Type 0
OfMap op = is_part (maps.touched op) ≡ true

map_body : (b : Bool) → Reads (cond b maps.set_format maps.unset_format) OfMap
map_body true = reads_shape (λ p. map.Set p.0 p.1) (dep text_format (λ t. text_format)) HasText OfMap (first_text text_format text_format reads_letters) (λ p h. h.0)
map_body false = reads_shape map.Unset text_format (λ t. is_part (Text t) ≡ true) OfMap reads_letters (λ t h. h)

reads_map : Reads maps.op_format OfMap
unfolding maps.op_format
reads_map = reads_tagged ((0x30, 0x31) ∷ []) maps.op_code (λ code. if code == 0x30 then maps.set_format else maps.unset_format) OfMap (λ n. map_body (n == 0x30))

abbrev OfTree : TreeOp → Type 0
OfTree op = is_part (trees.touched op) ≡ true

tree_body : (a b c : Bool) → Reads (cond a (variant (λ x. tree.Create x.0 x.1) trees.as_create trees.path_and_text) (cond b (variant (λ x. tree.Store x.0 x.1) trees.as_store trees.path_and_text) (cond c (variant tree.Delete trees.as_delete path_format) never))) OfTree
tree_body true b c = reads_shape (λ p. tree.Create p.0 p.1) trees.path_and_text HasText OfTree (first_text path_format text_format reads_path) (λ p h. h.0)
tree_body false true c = reads_shape (λ p. tree.Store p.0 p.1) trees.path_and_text HasText OfTree (first_text path_format text_format reads_path) (λ p h. h.0)
tree_body false false true = reads_shape tree.Delete path_format (λ t. is_part (Text t) ≡ true) OfTree reads_path (λ t h. h)
tree_body false false false = λ bytes x rest e. absurd (cc)

reads_tree : Reads trees.op_format OfTree
reads_tree = reads_tagged ((0x50, 0x52) ∷ []) trees.code_of (from_table trees.op_bodies) OfTree (λ n. tree_body (n == 0x50) (n == 0x51) (n == 0x52))

abbrev OfSet : SetOp → Type 0
OfSet op = is_part (sets.touched op) ≡ true

set_body : (b : Bool) → Reads (cond b sets.include_format sets.exclude_format) OfSet
set_body true = reads_shape set.Include (u64 any) (λ n. is_part (Num n) ≡ true) OfSet reads_number (λ n h. h)
set_body false = reads_shape set.Exclude (u64 any) (λ n. is_part (Num n) ≡ true) OfSet reads_number (λ n h. h)

reads_set : Reads sets.op_format OfSet
unfolding sets.op_format
reads_set = reads_tagged ((0x60, 0x61) ∷ []) sets.op_code (λ code. if code == 0x60 then sets.include_format else sets.exclude_format) OfSet (λ n. set_body (n == 0x60))

-- All kinds as one.

abbrev Good : Read AnyOp → Type 0
Good r = (op : AnyOp) (rest : List ℕ) → r ≡ Ok (op, rest) → is_part (any.touched op) ≡ true

-- an op of one kind
made_good : {A : Type 0} (make : A → AnyOp) (Q : A → Type 0) → ((x : A) → Q x → is_part (any.touched (make x)) ≡ true) → (r : Read A) → ((x : A) (rest : List ℕ) → r ≡ Ok (x, rest) → Q x) → Good (any.made_op make r)
made_good make Q touches (Ok x) reads op rest e = subst (λ (y : AnyOp). is_part (any.touched y) ≡ true) (ap (λ (q : AnyOp × List ℕ). q.0) (ok_is (make x.0, x.1) (op, rest) e)) (touches x.0 (reads x.0 x.1 refl))
made_good make Q touches (Err n) reads op rest e = absurd cc

pick : (a b c d e f : Bool) (k0 k1 k2 k3 k4 k5 k6 : Read AnyOp) → Good k0 → Good k1 → Good k2 → Good k3 → Good k4 → Good k5 → Good k6 → Good (cond a k0 (cond b k1 (cond c k2 (cond d k3 (cond e k4 (cond f k5 k6))))))
pick true b c d e f k0 k1 k2 k3 k4 k5 k6 g0 g1 g2 g3 g4 g5 g6 = g0
pick false true c d e f k0 k1 k2 k3 k4 k5 k6 g0 g1 g2 g3 g4 g5 g6 = g1
pick false false true d e f k0 k1 k2 k3 k4 k5 k6 g0 g1 g2 g3 g4 g5 g6 = g2
pick false false false true e f k0 k1 k2 k3 k4 k5 k6 g0 g1 g2 g3 g4 g5 g6 = g3
pick false false false false true f k0 k1 k2 k3 k4 k5 k6 g0 g1 g2 g3 g4 g5 g6 = g4
pick false false false false false true k0 k1 k2 k3 k4 k5 k6 g0 g1 g2 g3 g4 g5 g6 = g5
pick false false false false false false k0 k1 k2 k3 k4 k5 k6 g0 g1 g2 g3 g4 g5 g6 = g6

any_reads : (bytes : List ℕ) → Good (any.read bytes)
unfolding any.read any.touched
any_reads bytes = pick (t == 0) (t == 1) (t == 2) (t == 3) (t == 4) (t == 5) _ _ _ _ _ _ _
    (made_good ops.Directory OfDirectory (λ x h. h) (directories.op_format.read bytes) (reads_directory bytes))
    (made_good ops.Counter Any (λ x h. refl) (counters.op_format.read bytes) (λ x rest e. tt))
    (made_good ops.Register Any (λ x h. refl) (registers.op_format.read bytes) (λ x rest e. tt))
    (made_good ops.Map OfMap (λ x h. h) (maps.op_format.read bytes) (reads_map bytes))
    (made_good ops.List Any (λ x h. refl) (lists.op_format.read bytes) (λ x rest e. tt))
    (made_good ops.Tree OfTree (λ x h. h) (trees.op_format.read bytes) (reads_tree bytes))
    (made_good ops.Set OfSet (λ x h. h) (sets.op_format.read bytes) (reads_set bytes))
  where
    t : ℕ
    t = any.code_tag bytes

pub kinds_touch_parts : TouchParts all_kinds
kinds_touch_parts o bytes op e = by (any.read bytes) (any_reads bytes) e
  where
    of : (x : AnyOp) (b : Bool) → is_part (any.touched x) ≡ true → cond b (Some x) None ≡ Some op → is_part (any.touched op) ≡ true
    of x true h f = let same : x ≡ op = cc in subst (λ (y : AnyOp). is_part (any.touched y) ≡ true) same h
    of x false h f = absurd cc

    by : (r : Read AnyOp) → Good r → read_by (any.is_of o) r ≡ Some op → is_part (any.touched op) ≡ true
    by (Ok x) good f = of x.0 _ (good x.0 x.1 refl) f
    by (Err n) good f = absurd cc
