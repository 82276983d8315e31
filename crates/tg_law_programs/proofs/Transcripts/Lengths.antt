-- How many bytes ops and states take: as their formats bound them.
use Rattle.std.proofs.Common.{◌≡◌, ℕ, zero, suc, ◌+◌, ◌*◌, ◌<◌, ◌≤◌, List, [], ◌∷◌, ◌++◌, length, true, arith, Some, None, Option}
use Rattle.std.specs.Prelude.{◌&&◌, nat_le}
use Rattle.std.specs.Int.{w16, w32, w64, to_be_bytes}
use Rattle.std.specs.List.{list_all}
use Rattle.std.proofs.lemmas.Bool.Decides.{nat_tests}
use Rattle.std.proofs.lemmas.List.{length-append}
use Rattle.tg_base.specs.declared.ids.Oid.{Oid}
use Rattle.tg_codec.specs.Codec.{Codec, u16, u32, fit_many, spell_many}
use Rattle.tg_codec.specs.Streams.{any as any_number}
use Rattle.tg_codec.proofs.Laws.{and-left, and-right}
use Rattle.tg_kind.specs.Texts.{text_format}
use Rattle.tg_kind.specs.Words.{maybe}
use Rattle.tg_dir.specs.Directories as directories
use Rattle.tg_dir.specs.declared.listing.Listing.{Listing}
use Rattle.tg_dir.specs.declared.directory.DirectoryOp.TheVariants as directory_ops
use Rattle.tg_cell.specs.Registers as registers
use Rattle.tg_cell.specs.declared.counter.CounterOp.TheVariants as counter_ops
use Rattle.tg_cell.specs.declared.register.RegisterOp.TheVariants as register_ops
use Rattle.tg_map.specs.Maps as maps
use Rattle.tg_map.specs.declared.map.MapOp.TheVariants as map_ops
use Rattle.tg_list.specs.TextLists as lists
use Rattle.tg_list.specs.declared.text_list.TextListOp.TheVariants as list_ops
use Rattle.tg_tree.specs.Trees as trees
use Rattle.tg_tree.specs.Paths.{path_format}
use Rattle.tg_tree.specs.declared.tree.TreeOp.TheVariants as tree_ops
use Rattle.tg_set.specs.Sets as sets
use Rattle.tg_set.specs.declared.set.SetOp.TheVariants as set_ops
use Rattle.tg_any.specs.declared.any.AnyOp.{AnyOp}
use Rattle.tg_any.specs.declared.any.AnyOp.TheVariants as ops
use Rattle.tg_any.specs.declared.any.AnyKind.{AnyKind}
use Rattle.tg_any.specs.declared.any.AnyKind.TheVariants as states
use Rattle.tg_any.specs.Anys as any
use Rattle.tg_any.specs.AnyWords.{op_fits}

pub few_letters : (n : ℕ) → (u16 ((1, 4096) ∷ [])).fits n ≡ true → n ≤ 4096
few_letters n e = grind (arith, nat_tests)

near_count : (n : ℕ) → (u32 any_number).fits n ≡ true → n < 4294967296
near_count n e = grind (arith, nat_tests)

few_texts : (n : ℕ) → nat_le n lists.most ≡ true → n < 4294967296
few_texts n e = grind (arith, nat_tests)

-- one after the other
two_long : (a b : List ℕ) (x y : ℕ) → length a ≤ x → length b ≤ y → length (a ++ b) ≤ x + y
two_long a b x y h k = let s = length-append a b in omega (arith, s, h, k)

-- behind a code of one byte
coded : (code : ℕ) (bytes : List ℕ) (x : ℕ) → length bytes ≤ x → length ((code ∷ []) ++ bytes) ≤ x + 1
coded code bytes x h = omega (arith, h)

text_long : (t : List ℕ) → text_format.fits t ≡ true → length (text_format.spell t) ≤ 4098
text_long t e = let few = few_letters (length t) (and-left ((u16 ((1, 4096) ∷ [])).fits (length t)) _ e) in two_long (to_be_bytes w16 (length t)) t 2 4096 (omega arith) few

path_long : (p : List ℕ) → path_format.fits p ≡ true → length (path_format.spell p) ≤ 4098
path_long p e = let few = few_letters (length p) (and-left ((u16 ((1, 4096) ∷ [])).fits (length p)) _ e) in two_long (to_be_bytes w16 (length p)) p 2 4096 (omega arith) few

-- Ops.

short : (bytes : List ℕ) (x : ℕ) → length bytes ≤ x → x ≤ 9000 → length bytes ≤ 9000
short bytes x h k = omega (arith, h, k)

two_texts : (code : ℕ) (a b : List ℕ) → length a ≤ 4098 → length b ≤ 4098 → length ((code ∷ []) ++ (a ++ b)) ≤ 9000
two_texts code a b h k = short ((code ∷ []) ++ (a ++ b)) 8197 (coded code (a ++ b) 8196 (two_long a b 4098 4098 h k)) (omega arith)

one_text : (code : ℕ) (a : List ℕ) → length a ≤ 4098 → length ((code ∷ []) ++ a) ≤ 9000
one_text code a h = short ((code ∷ []) ++ a) 4099 (coded code a 4098 h) (omega arith)

-- what has words is spelled in few bytes
pub op_short : (op : AnyOp) → op_fits op ≡ true → length (any.spelled op) ≤ 9000
unfolding any.spelled directories.op_format maps.op_format lists.op_format sets.op_format
op_short (ops.Directory (directory_ops.Name name o)) e = two_texts 1 (text_format.spell name) (to_be_bytes w32 o.0) (text_long name (and-left (text_format.fits name) _ e)) (omega arith)
op_short (ops.Directory (directory_ops.Mark o mark)) e = omega arith
op_short (ops.Counter (counter_ops.Add by)) e = omega arith
op_short (ops.Register (register_ops.Write text)) e = one_text 0x20 (text_format.spell text) (text_long text e)
op_short (ops.Map (map_ops.Set key value)) e = two_texts 0x30 (text_format.spell key) (text_format.spell value) (text_long key (and-left (text_format.fits key) _ e)) (text_long value (and-right (text_format.fits key) _ e))
op_short (ops.Map (map_ops.Unset key)) e = one_text 0x31 (text_format.spell key) (text_long key e)
op_short (ops.List (list_ops.PushFront text)) e = one_text 0x40 (text_format.spell text) (text_long text e)
op_short (ops.List (list_ops.PushBack text)) e = one_text 0x41 (text_format.spell text) (text_long text e)
op_short (ops.List (list_ops.Insert at text)) e = two_texts 0x42 (to_be_bytes w32 at) (text_format.spell text) (omega arith) (text_long text (and-right _ (text_format.fits text) e))
op_short (ops.List (list_ops.Remove at)) e = omega arith
op_short (ops.List list_ops.PopFront) e = omega arith
op_short (ops.List list_ops.PopBack) e = omega arith
op_short (ops.Tree (tree_ops.Create path text)) e = two_texts 0x50 (path_format.spell path) (text_format.spell text) (path_long path (and-left (path_format.fits path) _ e)) (text_long text (and-right (path_format.fits path) _ e))
op_short (ops.Tree (tree_ops.Store path text)) e = two_texts 0x51 (path_format.spell path) (text_format.spell text) (path_long path (and-left (path_format.fits path) _ e)) (text_long text (and-right (path_format.fits path) _ e))
op_short (ops.Tree (tree_ops.Delete path)) e = one_text 0x52 (path_format.spell path) (path_long path e)
op_short (ops.Set (set_ops.Include n)) e = omega arith
op_short (ops.Set (set_ops.Exclude n)) e = omega arith

-- States.

many_long : {S X : Type 0} (item : S → Codec X) (next : S → X → S) → ((s : S) (x : X) → (item s).fits x ≡ true → length ((item s).spell x) ≤ 9000) → (n : ℕ) (s : S) (xs : List X)
    → fit_many item next n s xs ≡ true → length (spell_many item next s xs) ≤ 9000 * length xs
unfolding fit_many spell_many
many_long item next h zero s [] e = omega arith
many_long item next h zero s (x ∷ xs) e = absurd cc
many_long item next h (suc n) s [] e = omega arith
many_long item next h (suc n) s (x ∷ xs) e =
    let a = h s x (and-left ((item s).fits x) _ e) in
    let b = many_long item next h n (next s x) xs (and-right ((item s).fits x) _ e) in
    let c = length-append ((item s).spell x) (spell_many item next (next s x) xs) in
    omega (arith, a, b, c)

-- the most bytes of a state
abbrev pub most : ℕ
most = 40000000000000

-- items behind their count, which has four bytes
counted_long : (bytes : List ℕ) (n : ℕ) → n < 4294967296 → length bytes ≤ 9000 * n → length (to_be_bytes w32 n ++ bytes) ≤ 38654705664004
counted_long bytes n less h = two_long (to_be_bytes w32 n) bytes 4 38654705664000 (omega arith) (omega (arith, less, h))

within : (bytes : List ℕ) (x : ℕ) → length bytes ≤ x → x ≤ 38654705664013 → length bytes ≤ most
within bytes x h k = omega (arith, h, k)

listing_long : (before : List Listing) (e : Listing) → (directories.listing before).fits e ≡ true → length ((directories.listing before).spell e) ≤ 9000
listing_long before e k =
    short (text_format.spell e.name ++ (to_be_bytes w32 e.oid.0 ++ to_be_bytes w64 e.mark)) 4110
    (two_long (text_format.spell e.name) (to_be_bytes w32 e.oid.0 ++ to_be_bytes w64 e.mark) 4098 12 (text_long e.name (and-left (text_format.fits e.name) _ (and-left ((directories.new_name before).fits e.name) _ k))) (omega arith)) (omega arith)

pair_long : (keys : List (List ℕ)) (p : List ℕ × List ℕ) → (maps.pair keys).fits p ≡ true → length ((maps.pair keys).spell p) ≤ 9000
pair_long keys p k =
    short (text_format.spell p.0 ++ text_format.spell p.1) 8196
    (two_long (text_format.spell p.0) (text_format.spell p.1) 4098 4098 (text_long p.0 (and-left (text_format.fits p.0) _ (and-left ((maps.new_key keys).fits p.0) _ k))) (text_long p.1 (and-right ((maps.new_key keys).fits p.0) _ k))) (omega arith)

maybe_long : (t : Option (List ℕ)) → (maybe text_format).fits t ≡ true → length ((maybe text_format).spell t) ≤ 4099
maybe_long None k = omega arith
maybe_long (Some t) k = coded 1 (text_format.spell t) 4098 (text_long t k)

node_long : (before : List (List ℕ)) (n : trees.Node) → (trees.node_format before).fits n ≡ true → length ((trees.node_format before).spell n) ≤ 9000
node_long before n k =
    short (path_format.spell n.0 ++ (maybe text_format).spell n.1) 8197
    (two_long (path_format.spell n.0) ((maybe text_format).spell n.1) 4098 4099 (path_long n.0 (and-left (path_format.fits n.0) _ (and-left ((Rattle.tg_codec.specs.Codec.only_if (trees.is_next before) path_format).fits n.0) _ k)))
    (maybe_long n.1 (and-right ((Rattle.tg_codec.specs.Codec.only_if (trees.is_next before) path_format).fits n.0) _ k))) (omega arith)

texts_long : (xs : lists.Texts) → list_all text_format.fits xs ≡ true → length (spell_many lists.item lists.onward tt xs) ≤ 9000 * length xs
unfolding spell_many
texts_long [] e = omega arith
texts_long (x ∷ xs) e =
    let a = text_long x (and-left (text_format.fits x) _ e) in
    let b = texts_long xs (and-right (text_format.fits x) _ e) in
    let c = length-append (text_format.spell x) (spell_many lists.item lists.onward tt xs) in
    omega (arith, a, b, c)

directory_long : (s : directories.Listings) → directories.state_format.fits s ≡ true → length (directories.saved s) ≤ most
unfolding directories.state_format
directory_long s e =
    let both = and-left ((u32 any_number).fits (length s.entries) && fit_many directories.listing directories.after_listing (length s.entries) [] s.entries) _ e in
    let count = near_count (length s.entries) (and-left ((u32 any_number).fits (length s.entries)) _ both) in
    let bytes = many_long directories.listing directories.after_listing listing_long (length s.entries) [] s.entries (and-right ((u32 any_number).fits (length s.entries)) _ both) in
    let entries = counted_long (spell_many directories.listing directories.after_listing [] s.entries) (length s.entries) count bytes in
    let all = two_long (to_be_bytes w32 (length s.entries) ++ spell_many directories.listing directories.after_listing [] s.entries) (to_be_bytes w64 s.floor) 38654705664004 8 entries (omega arith) in
    within ((0 ∷ []) ++ ((to_be_bytes w32 (length s.entries) ++ spell_many directories.listing directories.after_listing [] s.entries) ++ to_be_bytes w64 s.floor)) 38654705664013
    (coded 0 ((to_be_bytes w32 (length s.entries) ++ spell_many directories.listing directories.after_listing [] s.entries) ++ to_be_bytes w64 s.floor) 38654705664012 all) (omega arith)

map_long : (s : maps.Pairs) → maps.state_format.fits s ≡ true → length (maps.saved s) ≤ most
unfolding maps.state_format
map_long s e =
    let count = near_count (length s) (and-left ((u32 any_number).fits (length s)) _ e) in
    let bytes = many_long maps.pair maps.after_pair pair_long (length s) [] s (and-right ((u32 any_number).fits (length s)) _ e) in
    within ((3 ∷ []) ++ (to_be_bytes w32 (length s) ++ spell_many maps.pair maps.after_pair [] s)) 38654705664005
    (coded 3 (to_be_bytes w32 (length s) ++ spell_many maps.pair maps.after_pair [] s) 38654705664004 (counted_long (spell_many maps.pair maps.after_pair [] s) (length s) count bytes)) (omega arith)

list_long : (s : lists.Texts) → lists.is_list s ≡ true → length (lists.saved s) ≤ most
unfolding lists.state_format
list_long s e =
    let count = few_texts (length s) (and-left (nat_le (length s) lists.most) _ e) in
    let bytes = texts_long s (and-right (nat_le (length s) lists.most) _ e) in
    within ((4 ∷ []) ++ (to_be_bytes w32 (length s) ++ spell_many lists.item lists.onward tt s)) 38654705664005
    (coded 4 (to_be_bytes w32 (length s) ++ spell_many lists.item lists.onward tt s) 38654705664004 (counted_long (spell_many lists.item lists.onward tt s) (length s) count bytes)) (omega arith)

tree_long : (s : trees.Nodes) → trees.state_format.fits s ≡ true → length (trees.saved s) ≤ most
tree_long s e =
    let count = near_count (length s) (and-left ((u32 any_number).fits (length s)) _ (and-left (trees.count_format.fits (length s)) _ e)) in
    let bytes = many_long trees.node_format trees.after_node node_long (length s) [] s (and-right (trees.count_format.fits (length s)) _ e) in
    within ((5 ∷ []) ++ (to_be_bytes w32 (length s) ++ spell_many trees.node_format trees.after_node [] s)) 38654705664005
    (coded 5 (to_be_bytes w32 (length s) ++ spell_many trees.node_format trees.after_node [] s) 38654705664004 (counted_long (spell_many trees.node_format trees.after_node [] s) (length s) count bytes)) (omega arith)

set_long : (s : sets.Numbers) → sets.state_format.fits s ≡ true → length (sets.saved s) ≤ most
unfolding sets.state_format
set_long s e =
    let count = near_count (length s) (and-left ((u32 any_number).fits (length s)) _ e) in
    let bytes = many_long sets.number_format sets.after_number (λ last n k. omega arith) (length s) None s (and-right ((u32 any_number).fits (length s)) _ e) in
    within ((6 ∷ []) ++ (to_be_bytes w32 (length s) ++ spell_many sets.number_format sets.after_number None s)) 38654705664005
    (coded 6 (to_be_bytes w32 (length s) ++ spell_many sets.number_format sets.after_number None s) 38654705664004 (counted_long (spell_many sets.number_format sets.after_number None s) (length s) count bytes)) (omega arith)

-- a state of an object is saved in few bytes
pub state_short : (o : Oid) (s : AnyKind) → any.is_state o s ≡ true → length (any.saved s) ≤ most
unfolding any.saved
state_short o (states.Directory s) e = directory_long s (and-right (directories.is_object o) _ e)
state_short o (states.Counter s) e = omega arith
state_short o (states.Register s) e = let a = coded 2 ((maybe text_format).spell s) 4099 (maybe_long s (and-right (registers.is_object o) _ e)) in within ((2 ∷ []) ++ (maybe text_format).spell s) 4100 a (omega arith)
state_short o (states.Map s) e = map_long s (and-right (maps.is_object o) _ e)
state_short o (states.List s) e = list_long s (and-right (lists.is_object o) _ e)
state_short o (states.Tree s) e = tree_long s (and-right (trees.is_object o) _ e)
state_short o (states.Set s) e = set_long s (and-right (sets.is_object o) _ e)
