-- What a state answers to an ask of its kind is within the types of the answer's words.
use Rattle.std.proofs.Common.{◌≡◌, ℕ, zero, suc, ◌≤◌, ◌^◌, List, [], ◌∷◌, length, map, filter, Bool, true, false, cond, refl, sym, ap, ◌∙◌, subst, arith, Some, None, Option, ltb}
use Rattle.std.specs.Prelude.{◌&&◌, ◌==◌, not, nat_lt, nat_le, slice_get, find, option_map}
use Rattle.std.specs.List.{list_all}
use Rattle.std.proofs.lemmas.Bool.{eqb-true}
use Rattle.std.proofs.lemmas.Bool.Decides.{nat_tests}
use Rattle.tg_base.specs.declared.ids.Oid.{Oid}
use Rattle.tg_codec.specs.Codec.{Codec, u32, u64, fit_many, only_if}
use Rattle.tg_codec.specs.Streams.{any as any_number}
use Rattle.tg_codec.proofs.Laws.{and-left, and-right, both}
use Rattle.std.specs.Map.{lookup}
use Rattle.tg_kind.specs.Parts.{tag_of}
use Rattle.tg_kind.specs.Words.{maybe}
use Rattle.tg_kind.specs.Texts.{text_format}
use Rattle.tg_dir.specs.Directories as directories
use Rattle.tg_dir.specs.Spellings.{is_number}
use Rattle.tg_dir.specs.declared.listing.Listing.{Listing}
use Rattle.tg_dir.specs.declared.directory.DirectoryAsk.{DirectoryAsk}
use Rattle.tg_dir.specs.declared.directory.DirectoryAsk.TheVariants as directory_asks
use Rattle.tg_cell.specs.Counters as counters
use Rattle.tg_cell.specs.Registers as registers
use Rattle.tg_cell.specs.declared.counter.CounterAsk.TheVariants as counter_asks
use Rattle.tg_cell.specs.declared.register.RegisterAsk.TheVariants as register_asks
use Rattle.tg_map.specs.Maps as maps
use Rattle.tg_map.specs.declared.map.MapAsk.{MapAsk}
use Rattle.tg_map.specs.declared.map.MapAsk.TheVariants as map_asks
use Rattle.tg_list.specs.TextLists as lists
use Rattle.tg_list.specs.declared.text_list.TextListAsk.{TextListAsk}
use Rattle.tg_list.specs.declared.text_list.TextListAsk.TheVariants as list_asks
use Rattle.tg_tree.specs.Trees as trees
use Rattle.tg_tree.specs.Paths.{path_format, root, same, last_name}
use Rattle.tg_tree.specs.PathLaws.{last_name_is_text}
use Rattle.tg_tree.specs.declared.tree.TreeAsk.{TreeAsk}
use Rattle.tg_tree.specs.declared.tree.TreeAsk.TheVariants as tree_asks
use Rattle.tg_set.specs.Sets as sets
use Rattle.tg_set.specs.declared.set.SetAsk.{SetAsk}
use Rattle.tg_set.specs.declared.set.SetAsk.TheVariants as set_asks
use Rattle.tg_any.specs.declared.any.AnyKind.{AnyKind}
use Rattle.tg_any.specs.declared.any.AnyKind.TheVariants as states
use Rattle.tg_any.specs.declared.any.AnyAsk.{AnyAsk}
use Rattle.tg_any.specs.declared.any.AnyAsk.TheVariants as asks
use Rattle.tg_any.specs.Anys as any
use Rattle.tg_any.specs.Names.{is_named}
use Rattle.tg_any.specs.Words.{maybe_fits}
use Rattle.tg_any.specs.Words as words
use Rattle.tg_any.specs.DirectoryWords as directory_words
use Rattle.tg_any.specs.MapWords as map_words
use Rattle.tg_any.specs.ListWords as list_words
use Rattle.tg_any.specs.TreeWords as tree_words
use Rattle.tg_any.specs.SetWords as set_words
use Rattle.tg_any.specs.AnyWords.{answer_fits}

-- Small facts.

number_named : (o : Oid) → is_number o ≡ true → is_named o ≡ true
number_named o e = grind (arith, nat_tests)

number_near : (n : ℕ) → (u64 any_number).fits n ≡ true → ltb n (2 ^ 64) ≡ true
number_near n e = grind (arith, nat_tests)

count_near : (n : ℕ) → (u32 any_number).fits n ≡ true → ltb n (2 ^ 64) ≡ true
count_near n e = grind (arith, nat_tests)

less_near : (n m : ℕ) → n ≤ m → ltb m (2 ^ 64) ≡ true → ltb n (2 ^ 64) ≡ true
less_near n m le e = grind (arith, nat_tests)

few_near : (n : ℕ) → nat_le n 4294967295 ≡ true → ltb n (2 ^ 64) ≡ true
few_near n e = grind (arith, nat_tests)

-- of values that are read in a row each passes what each reading asks
each_fits : {S X : Type 0} (item : S → Codec X) (next : S → X → S) (f : X → Bool) → ((s : S) (x : X) → (item s).fits x ≡ true → f x ≡ true) → (n : ℕ) (s : S) (xs : List X) → fit_many item next n s xs ≡ true → list_all f xs ≡ true
unfolding fit_many
each_fits item next f k zero s [] e = refl
each_fits item next f k zero s (x ∷ xs) e = absurd cc
each_fits item next f k (suc n) s [] e = absurd cc
each_fits item next f k (suc n) s (x ∷ xs) e = both (f x) (list_all f xs) (k s x (and-left ((item s).fits x) _ e)) (each_fits item next f k n (next s x) xs (and-right ((item s).fits x) _ e))

all_mapped : {X Y : Type 0} (f : X → Bool) (g : Y → Bool) (to : X → Y) → ((x : X) → f x ≡ true → g (to x) ≡ true) → (xs : List X) → list_all f xs ≡ true → list_all g (map to xs) ≡ true
all_mapped f g to k [] e = refl
all_mapped f g to k (x ∷ xs) e = both (g (to x)) (list_all g (map to xs)) (k x (and-left (f x) _ e)) (all_mapped f g to k xs (and-right (f x) _ e))

all_filtered : {X : Type 0} (f t : X → Bool) (xs : List X) → list_all f xs ≡ true → list_all f (filter t xs) ≡ true
all_filtered f t [] e = refl
all_filtered f t (x ∷ xs) e = by (t x) (all_filtered f t xs (and-right (f x) _ e))
  where
    by : (b : Bool) → list_all f (filter t xs) ≡ true → list_all f (cond b (x ∷ filter t xs) (filter t xs)) ≡ true
    by true rest = both (f x) (list_all f (filter t xs)) (and-left (f x) _ e) rest
    by false rest = rest

filter_short : {X : Type 0} (t : X → Bool) (xs : List X) → length (filter t xs) ≤ length xs
filter_short t [] = omega arith
filter_short t (x ∷ xs) = by (t x) (filter_short t xs)
  where
    by : (b : Bool) → length (filter t xs) ≤ length xs → length (cond b (x ∷ filter t xs) (filter t xs)) ≤ length (x ∷ xs)
    by true le = omega (arith, le)
    by false le = omega (arith, le)

-- Directories.

listed_ok : Listing → Bool
listed_ok e = is_named e.oid && ltb e.mark (2 ^ 64)

module _ (s : directories.Listings) (is : directories.state_format.fits s ≡ true) where
  listing_ok : (before : List Listing) (e : Listing) → (directories.listing before).fits e ≡ true → listed_ok e ≡ true
  unfolding listed_ok
  listing_ok before e k =
      let rest = and-right ((directories.new_name before).fits e.name) _ k in
      both (is_named e.oid) (ltb e.mark (2 ^ 64)) (number_named e.oid (and-left (is_number e.oid) _ (and-left ((directories.new_object before).fits e.oid) _ rest)))
      (number_near e.mark (and-right ((directories.new_object before).fits e.oid) _ rest))

  listings_ok : list_all listed_ok s.entries ≡ true
  unfolding directories.state_format
  listings_ok = each_fits directories.listing directories.after_listing listed_ok listing_ok (length s.entries) [] s.entries
      (and-right ((u32 any_number).fits (length s.entries)) _ (and-left ((u32 any_number).fits (length s.entries) && fit_many directories.listing directories.after_listing (length s.entries) [] s.entries) _ is))

  floor_ok : ltb s.floor (2 ^ 64) ≡ true
  unfolding directories.state_format
  floor_ok = number_near s.floor (and-right ((u32 any_number).fits (length s.entries) && fit_many directories.listing directories.after_listing (length s.entries) [] s.entries) _ is)

  found_ok : (name : List ℕ) (es : List Listing) → list_all listed_ok es ≡ true → maybe_fits words.object (directories.found es name) ≡ true
  unfolding listed_ok
  found_ok name [] k = refl
  found_ok name (e ∷ es) k = by (directories.same_text e.name name) (found_ok name es (and-right (is_named e.oid && ltb e.mark (2 ^ 64)) _ k))
    where
      by : (b : Bool) → maybe_fits words.object (directories.found es name) ≡ true → maybe_fits words.object (option_map (λ (x : Listing). x.oid) (cond b (Some e) (find (λ (x : Listing). directories.same_text x.name name) es))) ≡ true
      by true rest = and-left (is_named e.oid) _ (and-left (is_named e.oid && ltb e.mark (2 ^ 64)) _ k)
      by false rest = rest

  mark_ok : (e : Listing) → listed_ok e ≡ true → words.mark.fits (e.oid, e.mark) ≡ true
  unfolding listed_ok
  mark_ok e k = k

  directory_ok : (q : DirectoryAsk) → directory_words.answer_fits q (directories.answered s q) ≡ true
  directory_ok (directory_asks.Find name) = found_ok name s.entries listings_ok
  directory_ok directory_asks.Marks = all_mapped listed_ok words.mark.fits (λ (e : Listing). (e.oid, e.mark)) mark_ok s.entries listings_ok
  directory_ok directory_asks.Floor = floor_ok

-- Maps.

pair_ok : List ℕ × List ℕ → Bool
pair_ok p = text_format.fits p.0 && text_format.fits p.1

module _ (s : maps.Pairs) (is : maps.state_format.fits s ≡ true) where
  one_pair : (keys : List (List ℕ)) (p : List ℕ × List ℕ) → (maps.pair keys).fits p ≡ true → pair_ok p ≡ true
  unfolding pair_ok
  one_pair keys p k = both (text_format.fits p.0) (text_format.fits p.1) (and-left (text_format.fits p.0) _ (and-left ((maps.new_key keys).fits p.0) _ k)) (and-right ((maps.new_key keys).fits p.0) _ k)

  pairs_ok : list_all pair_ok s ≡ true
  unfolding maps.state_format
  pairs_ok = each_fits maps.pair maps.after_pair pair_ok one_pair (length s) [] s (and-right ((u32 any_number).fits (length s)) _ is)

  pairs_near : ltb (length s) (2 ^ 64) ≡ true
  unfolding maps.state_format
  pairs_near = count_near (length s) (and-left ((u32 any_number).fits (length s)) _ is)

  value_ok : (key : List ℕ) (ps : maps.Pairs) → list_all pair_ok ps ≡ true → maybe_fits words.text (maps.value_of ps key) ≡ true
  unfolding pair_ok
  value_ok key [] k = refl
  value_ok key (p ∷ ps) k = by (maps.same key p.0) (value_ok key ps (and-right (text_format.fits p.0 && text_format.fits p.1) _ k))
    where
      by : (b : Bool) → maybe_fits words.text (maps.value_of ps key) ≡ true → maybe_fits words.text (cond b (Some p.1) (maps.value_of ps key)) ≡ true
      by true rest = and-right (text_format.fits p.0) _ (and-left (text_format.fits p.0 && text_format.fits p.1) _ k)
      by false rest = rest

  key_ok : (p : List ℕ × List ℕ) → pair_ok p ≡ true → text_format.fits p.0 ≡ true
  unfolding pair_ok
  key_ok p k = and-left (text_format.fits p.0) _ k

  map_ok : (q : MapAsk) → map_words.answer_fits q (maps.answered s q) ≡ true
  map_ok (map_asks.Get key) = value_ok key s pairs_ok
  map_ok map_asks.Size = pairs_near
  map_ok map_asks.Keys = all_mapped pair_ok text_format.fits _ key_ok s pairs_ok

-- Lists.

module _ (s : lists.Texts) (is : lists.is_list s ≡ true) where
  item_ok : (xs : lists.Texts) (i : ℕ) → list_all text_format.fits xs ≡ true → maybe_fits words.text (slice_get xs i) ≡ true
  item_ok [] i k = refl
  item_ok (x ∷ xs) zero k = and-left (text_format.fits x) _ k
  item_ok (x ∷ xs) (suc i) k = item_ok xs i (and-right (text_format.fits x) _ k)

  list_ok : (q : TextListAsk) → list_words.answer_fits q (lists.answered s q) ≡ true
  list_ok (list_asks.At i) = item_ok s i (and-right (nat_le (length s) lists.most) _ is)
  list_ok list_asks.Len = few_near (length s) (and-left (nat_le (length s) lists.most) _ is)
  list_ok list_asks.Items = and-right (nat_le (length s) lists.most) _ is

-- Trees.

node_ok : trees.Node → Bool
node_ok n = path_format.fits n.0 && maybe_fits words.text n.1

module _ (s : trees.Nodes) (is : trees.state_format.fits s ≡ true) where
  held_ok : (t : Option (List ℕ)) → (maybe text_format).fits t ≡ true → maybe_fits words.text t ≡ true
  held_ok None k = refl
  held_ok (Some t) k = k

  one_node : (before : List (List ℕ)) (n : trees.Node) → (trees.node_format before).fits n ≡ true → node_ok n ≡ true
  unfolding node_ok
  one_node before n k =
      both (path_format.fits n.0) (maybe_fits words.text n.1) (and-left (path_format.fits n.0) _ (and-left ((only_if (trees.is_next before) path_format).fits n.0) _ k))
      (held_ok n.1 (and-right ((only_if (trees.is_next before) path_format).fits n.0) _ k))

  nodes_ok : list_all node_ok s ≡ true
  nodes_ok = each_fits trees.node_format trees.after_node node_ok one_node (length s) [] s (and-right (trees.count_format.fits (length s)) _ is)

  data_ok : (path : List ℕ) (ns : trees.Nodes) → list_all node_ok ns ≡ true → maybe_fits words.text (trees.held (lookup (same path) ns)) ≡ true
  unfolding node_ok
  data_ok path [] k = refl
  data_ok path (n ∷ ns) k = by (same path n.0) (data_ok path ns (and-right (path_format.fits n.0 && maybe_fits words.text n.1) _ k))
    where
      by : (b : Bool) → maybe_fits words.text (trees.held (lookup (same path) ns)) ≡ true → maybe_fits words.text (trees.held (cond b (Some n.1) (lookup (same path) ns))) ≡ true
      by true rest = and-right (path_format.fits n.0) _ (and-left (path_format.fits n.0 && maybe_fits words.text n.1) _ k)
      by false rest = rest

  child_ok : (path : List ℕ) (n : trees.Node) → (trees.is_child path n.0 && node_ok n) ≡ true → text_format.fits (last_name n.0) ≡ true
  unfolding node_ok
  child_ok path n k = last_name_is_text n.0 (and-left (path_format.fits n.0) _ (and-right (trees.is_child path n.0) _ k)) (not_true (same root n.0) (and-left (not (same root n.0)) _ (and-left (trees.is_child path n.0) _ k)))
    where
      not_true : (b : Bool) → not b ≡ true → b ≡ false
      not_true true e = absurd cc
      not_true false e = refl

  both_all : {X : Type 0} (f g : X → Bool) (xs : List X) → list_all g xs ≡ true → list_all (λ x. f x && g x) (filter f xs) ≡ true
  both_all f g [] e = refl
  both_all f g (x ∷ xs) e = by (f x) refl (both_all f g xs (and-right (g x) _ e))
    where
      by : (b : Bool) → f x ≡ b → list_all (λ x. f x && g x) (filter f xs) ≡ true → list_all (λ x. f x && g x) (cond b (x ∷ filter f xs) (filter f xs)) ≡ true
      by true i rest = both (f x && g x) _ (both (f x) (g x) i (and-left (g x) _ e)) rest
      by false i rest = rest

  children_ok : (path : List ℕ) → list_all text_format.fits (trees.children s path) ≡ true
  children_ok path = by (trees.is_there s path)
    where
      by : (b : Bool) → list_all text_format.fits (cond b (map (λ (n : trees.Node). last_name n.0) (filter (λ (n : trees.Node). trees.is_child path n.0) s)) []) ≡ true
      by true = all_mapped (λ (n : trees.Node). trees.is_child path n.0 && node_ok n) text_format.fits (λ (n : trees.Node). last_name n.0) (child_ok path) (filter (λ (n : trees.Node). trees.is_child path n.0) s)
          (both_all (λ (n : trees.Node). trees.is_child path n.0) node_ok s nodes_ok)
      by false = refl

  tree_ok : (q : TreeAsk) → tree_words.answer_fits q (trees.answered s q) ≡ true
  tree_ok (tree_asks.Data path) = data_ok path s nodes_ok
  tree_ok (tree_asks.Has path) = refl
  tree_ok (tree_asks.Children path) = children_ok path

-- Sets.

module _ (s : sets.Numbers) (is : sets.state_format.fits s ≡ true) where
  one_number : (last : Option ℕ) (n : ℕ) → (sets.number_format last).fits n ≡ true → words.number.fits n ≡ true
  one_number last n k = number_near n (and-left ((u64 any_number).fits n) _ k)

  numbers_ok : list_all words.number.fits s ≡ true
  unfolding sets.state_format
  numbers_ok = each_fits sets.number_format sets.after_number words.number.fits one_number (length s) None s (and-right ((u32 any_number).fits (length s)) _ is)

  numbers_near : ltb (length s) (2 ^ 64) ≡ true
  unfolding sets.state_format
  numbers_near = count_near (length s) (and-left ((u32 any_number).fits (length s)) _ is)

  set_ok : (q : SetAsk) → set_words.answer_fits q (sets.answered s q) ≡ true
  set_ok (set_asks.Member n) = refl
  set_ok (set_asks.Count low high) = less_near (length (sets.between s low high)) (length s) (filter_short (λ n. nat_le low n && nat_lt n high) s) numbers_near
  set_ok (set_asks.Between low high) = all_filtered words.number.fits (λ n. nat_le low n && nat_lt n high) s numbers_ok

-- All kinds as one.

state_tag : AnyKind → ℕ
state_tag (states.Directory s) = 0
state_tag (states.Counter s) = 1
state_tag (states.Register s) = 2
state_tag (states.Map s) = 3
state_tag (states.List s) = 4
state_tag (states.Tree s) = 5
state_tag (states.Set s) = 6

first_tag : (o : Oid) → directories.is_object o ≡ true → tag_of o ≡ 0
first_tag o e = ap tag_of' (eqb-true o.0 0 e)
  where
    tag_of' : ℕ → ℕ
    tag_of' n = tag_of (record { 0 = n })

of_state : (o : Oid) (s : AnyKind) → any.is_state o s ≡ true → tag_of o ≡ state_tag s
unfolding state_tag
of_state o (states.Directory s) e = first_tag o (and-left (directories.is_object o) _ e)
of_state o (states.Counter s) e = eqb-true (tag_of o) 1 (and-left (counters.is_object o) _ e)
of_state o (states.Register s) e = eqb-true (tag_of o) 2 (and-left (registers.is_object o) _ e)
of_state o (states.Map s) e = eqb-true (tag_of o) 3 (and-left (maps.is_object o) _ e)
of_state o (states.List s) e = eqb-true (tag_of o) 4 (and-left (lists.is_object o) _ e)
of_state o (states.Tree s) e = eqb-true (tag_of o) 5 (and-left (trees.is_object o) _ e)
of_state o (states.Set s) e = eqb-true (tag_of o) 6 (and-left (sets.is_object o) _ e)

held_fits : (t : Option (List ℕ)) → (maybe text_format).fits t ≡ true → maybe_fits words.text t ≡ true
held_fits None k = refl
held_fits (Some t) k = k

-- what may be asked is an object
kind_of : ℕ → ℕ → Bool
kind_of t n = any.by_tag t (n == 0) (t == 1) (t == 2) (t == 3) (t == 4) (t == 5) (t == 6)

pub asked_object : (o : Oid) (q : AnyAsk) → any.allowed_ask o q ≡ true → any.is_object o ≡ true
unfolding kind_of
asked_object o (asks.Directory q) e = subst (λ (n : ℕ). any.is_object (record { 0 = n }) ≡ true) (sym (eqb-true o.0 0 e)) refl
asked_object o (asks.Counter q) e = subst (λ (t : ℕ). kind_of t o.0 ≡ true) (sym (eqb-true (tag_of o) 1 e)) refl
asked_object o (asks.Register q) e = subst (λ (t : ℕ). kind_of t o.0 ≡ true) (sym (eqb-true (tag_of o) 2 e)) refl
asked_object o (asks.Map q) e = subst (λ (t : ℕ). kind_of t o.0 ≡ true) (sym (eqb-true (tag_of o) 3 e)) refl
asked_object o (asks.List q) e = subst (λ (t : ℕ). kind_of t o.0 ≡ true) (sym (eqb-true (tag_of o) 4 e)) refl
asked_object o (asks.Tree q) e = subst (λ (t : ℕ). kind_of t o.0 ≡ true) (sym (eqb-true (tag_of o) 5 e)) refl
asked_object o (asks.Set q) e = subst (λ (t : ℕ). kind_of t o.0 ≡ true) (sym (eqb-true (tag_of o) 6 e)) refl

-- a floor has 64 bits
pub floors_fit : (o : Oid) (s : AnyKind) → any.is_state o s ≡ true → ltb (any.floor_of s) (2 ^ 64) ≡ true
floors_fit o (states.Directory s) e = floor_ok s (and-right (directories.is_object o) _ e)
floors_fit o (states.Counter s) e = refl
floors_fit o (states.Register s) e = refl
floors_fit o (states.Map s) e = refl
floors_fit o (states.List s) e = refl
floors_fit o (states.Tree s) e = refl
floors_fit o (states.Set s) e = refl

pub answers_fit : (o : Oid) (s : AnyKind) (q : AnyAsk) → any.is_state o s ≡ true → any.allowed_ask o q ≡ true → answer_fits q (any.answered s q) ≡ true
unfolding any.answered state_tag
answers_fit o s (asks.Directory q) e a = by s (sym (of_state o s e) ∙ first_tag o a) e
  where
    by : (s : AnyKind) → state_tag s ≡ 0 → any.is_state o s ≡ true → answer_fits (asks.Directory q) (any.answered s (asks.Directory q)) ≡ true
    by (states.Directory s) t e = directory_ok s (and-right (directories.is_object o) _ e) q
    by s t e = absurd (omega (arith, t))
answers_fit o s (asks.Counter q) e a = by s (sym (of_state o s e) ∙ eqb-true (tag_of o) 1 a) e
  where
    by : (s : AnyKind) → state_tag s ≡ 1 → any.is_state o s ≡ true → answer_fits (asks.Counter q) (any.answered s (asks.Counter q)) ≡ true
    by (states.Counter s) t e = one q
      where
        one : (q : Rattle.tg_cell.specs.declared.counter.CounterAsk.CounterAsk) → Rattle.tg_any.specs.CounterWords.answer_fits q (counters.answered s q) ≡ true
        one counter_asks.Value = and-right (counters.is_object o) _ e
    by s t e = absurd (omega (arith, t))
answers_fit o s (asks.Register q) e a = by s (sym (of_state o s e) ∙ eqb-true (tag_of o) 2 a) e
  where
    by : (s : AnyKind) → state_tag s ≡ 2 → any.is_state o s ≡ true → answer_fits (asks.Register q) (any.answered s (asks.Register q)) ≡ true
    by (states.Register s) t e = one q
      where
        one : (q : Rattle.tg_cell.specs.declared.register.RegisterAsk.RegisterAsk) → Rattle.tg_any.specs.RegisterWords.answer_fits q (registers.answered s q) ≡ true
        one register_asks.Text = held_fits s (and-right (registers.is_object o) _ e)
    by s t e = absurd (omega (arith, t))
answers_fit o s (asks.Map q) e a = by s (sym (of_state o s e) ∙ eqb-true (tag_of o) 3 a) e
  where
    by : (s : AnyKind) → state_tag s ≡ 3 → any.is_state o s ≡ true → answer_fits (asks.Map q) (any.answered s (asks.Map q)) ≡ true
    by (states.Map s) t e = map_ok s (and-right (maps.is_object o) _ e) q
    by s t e = absurd (omega (arith, t))
answers_fit o s (asks.List q) e a = by s (sym (of_state o s e) ∙ eqb-true (tag_of o) 4 a) e
  where
    by : (s : AnyKind) → state_tag s ≡ 4 → any.is_state o s ≡ true → answer_fits (asks.List q) (any.answered s (asks.List q)) ≡ true
    by (states.List s) t e = list_ok s (and-right (lists.is_object o) _ e) q
    by s t e = absurd (omega (arith, t))
answers_fit o s (asks.Tree q) e a = by s (sym (of_state o s e) ∙ eqb-true (tag_of o) 5 a) e
  where
    by : (s : AnyKind) → state_tag s ≡ 5 → any.is_state o s ≡ true → answer_fits (asks.Tree q) (any.answered s (asks.Tree q)) ≡ true
    by (states.Tree s) t e = tree_ok s (and-right (trees.is_object o) _ e) q
    by s t e = absurd (omega (arith, t))
answers_fit o s (asks.Set q) e a = by s (sym (of_state o s e) ∙ eqb-true (tag_of o) 6 a) e
  where
    by : (s : AnyKind) → state_tag s ≡ 6 → any.is_state o s ≡ true → answer_fits (asks.Set q) (any.answered s (asks.Set q)) ≡ true
    by (states.Set s) t e = set_ok s (and-right (sets.is_object o) _ e) q
    by s t e = absurd (omega (arith, t))
