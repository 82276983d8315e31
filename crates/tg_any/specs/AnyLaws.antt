-- The laws of all kinds as one, by those of each.
use Rattle.std.specs.Prelude.{◌≡◌, ℕ, Bool, true, false, List, ◌++◌, ◌&&◌, Result, Ok, Err, refl, ◌≤◌, length}
use Rattle.std.proofs.Common.{cond, eqb, sym, ap, ◌∙◌, subst, arith}
use Rattle.std.proofs.lemmas.Bool.{eqb-true}
use Rattle.tg_base.specs.declared.ids.Oid.{Oid}
use Rattle.tg_codec.specs.Reading.{Read}
use Rattle.tg_codec.proofs.Laws.{and-left}
use Rattle.tg_kind.specs.Bytes.{IsBytes}
use Rattle.tg_kind.specs.Headers.{is_header, directory}
use Rattle.tg_base.specs.Parts.{is_part}
use Rattle.tg_kind.specs.Parts.{tag_of, overlap}
use Rattle.tg_dir.specs.Directories as directories
use Rattle.tg_cell.specs.Counters as counters
use Rattle.tg_cell.specs.Registers as registers
use Rattle.tg_map.specs.Maps as maps
use Rattle.tg_list.specs.TextLists as lists
use Rattle.tg_tree.specs.Trees as trees
use Rattle.tg_set.specs.Sets as sets
use Rattle.tg_dir.specs.DirectoryLaws as directories_laws
use Rattle.tg_cell.specs.CounterLaws as counters_laws
use Rattle.tg_cell.specs.RegisterLaws as registers_laws
use Rattle.tg_map.specs.MapLaws as maps_laws
use Rattle.tg_list.specs.TextListLaws as lists_laws
use Rattle.tg_tree.specs.TreeLaws as trees_laws
use Rattle.tg_set.specs.SetLaws as sets_laws
use Rattle.tg_dir.specs.declared.directory.DirectoryOp.{DirectoryOp}
use Rattle.tg_dir.specs.declared.directory.DirectoryOp.TheVariants as directory_ops
use Rattle.tg_cell.specs.declared.counter.CounterOp.{CounterOp}
use Rattle.tg_cell.specs.declared.counter.CounterOp.TheVariants as counter_ops
use Rattle.tg_cell.specs.declared.register.RegisterOp.{RegisterOp}
use Rattle.tg_cell.specs.declared.register.RegisterOp.TheVariants as register_ops
use Rattle.tg_map.specs.declared.map.MapOp.{MapOp}
use Rattle.tg_map.specs.declared.map.MapOp.TheVariants as map_ops
use Rattle.tg_list.specs.declared.text_list.TextListOp.{TextListOp}
use Rattle.tg_list.specs.declared.text_list.TextListOp.TheVariants as list_ops
use Rattle.tg_tree.specs.declared.tree.TreeOp.{TreeOp}
use Rattle.tg_tree.specs.declared.tree.TreeOp.TheVariants as tree_ops
use Rattle.tg_set.specs.declared.set.SetOp.{SetOp}
use Rattle.tg_set.specs.declared.set.SetOp.TheVariants as set_ops
use Rattle.tg_any.specs.declared.any.AnyKind.{AnyKind}
use Rattle.tg_any.specs.declared.any.AnyKind.TheVariants as states
use Rattle.tg_any.specs.declared.any.AnyOp.{AnyOp}
use Rattle.tg_any.specs.declared.any.AnyOp.TheVariants as ops
use Rattle.tg_any.specs.declared.any.AnyAsk.{AnyAsk}
use Rattle.tg_any.specs.declared.any.AnyAsk.TheVariants as asks
use Rattle.tg_any.specs.declared.any.AnyAns.TheVariants as answers
use Rattle.tg_any.specs.Anys.{by_tag, is_object, is_state, is_op, is_of, first, applied, answered, touched, looked, saved, made, loaded, spelled, code_tag, made_op, read, allowed, marking}

pick : {A B : Type 0} (P : A → B → Type 0) (b : Bool) (x y : A) (u v : B) → P x u → P y v → P (cond b x y) (cond b u v)
pick P true x y u v p q = p
pick P false x y u v p q = q

-- what holds of each kind's two holds of the two that are chosen
by_both : {A B : Type 0} (P : A → B → Type 0) (t : ℕ) (k0 k1 k2 k3 k4 k5 k6 : A) (u0 u1 u2 u3 u4 u5 u6 : B) → P k0 u0 → P k1 u1 → P k2 u2 → P k3 u3 → P k4 u4 → P k5 u5 → P k6 u6 → P (by_tag t k0 k1 k2 k3 k4 k5 k6) (by_tag t u0 u1 u2 u3 u4 u5 u6)
by_both P t k0 k1 k2 k3 k4 k5 k6 u0 u1 u2 u3 u4 u5 u6 p0 p1 p2 p3 p4 p5 p6 = pick P (eqb t 0) _ _ _ _ p0 (pick P (eqb t 1) _ _ _ _ p1 (pick P (eqb t 2) _ _ _ _ p2 (pick P (eqb t 3) _ _ _ _ p3 (pick P (eqb t 4) _ _ _ _ p4 (pick P (eqb t 5) _ _ _ _ p5 p6)))))

at_0 : {A : Type 0} (t : ℕ) (k0 k1 k2 k3 k4 k5 k6 : A) → t ≡ 0 → by_tag t k0 k1 k2 k3 k4 k5 k6 ≡ k0
at_0 t k0 k1 k2 k3 k4 k5 k6 e = rw e refl

at_1 : {A : Type 0} (t : ℕ) (k0 k1 k2 k3 k4 k5 k6 : A) → t ≡ 1 → by_tag t k0 k1 k2 k3 k4 k5 k6 ≡ k1
at_1 t k0 k1 k2 k3 k4 k5 k6 e = rw e refl

at_2 : {A : Type 0} (t : ℕ) (k0 k1 k2 k3 k4 k5 k6 : A) → t ≡ 2 → by_tag t k0 k1 k2 k3 k4 k5 k6 ≡ k2
at_2 t k0 k1 k2 k3 k4 k5 k6 e = rw e refl

at_3 : {A : Type 0} (t : ℕ) (k0 k1 k2 k3 k4 k5 k6 : A) → t ≡ 3 → by_tag t k0 k1 k2 k3 k4 k5 k6 ≡ k3
at_3 t k0 k1 k2 k3 k4 k5 k6 e = rw e refl

at_4 : {A : Type 0} (t : ℕ) (k0 k1 k2 k3 k4 k5 k6 : A) → t ≡ 4 → by_tag t k0 k1 k2 k3 k4 k5 k6 ≡ k4
at_4 t k0 k1 k2 k3 k4 k5 k6 e = rw e refl

at_5 : {A : Type 0} (t : ℕ) (k0 k1 k2 k3 k4 k5 k6 : A) → t ≡ 5 → by_tag t k0 k1 k2 k3 k4 k5 k6 ≡ k5
at_5 t k0 k1 k2 k3 k4 k5 k6 e = rw e refl

at_6 : {A : Type 0} (t : ℕ) (k0 k1 k2 k3 k4 k5 k6 : A) → t ≡ 6 → by_tag t k0 k1 k2 k3 k4 k5 k6 ≡ k6
at_6 t k0 k1 k2 k3 k4 k5 k6 e = rw e refl

pub first_is : (o : Oid) (os : List Oid) → is_object o ≡ true → is_header os ≡ true → is_state o (first o os) ≡ true
unfolding first
first_is o os e h =
    by_both (λ (b : Bool) (s : AnyKind). b ≡ true → is_state o s ≡ true) (tag_of o) _ _ _ _ _ _ _ _ _ _ _ _ _ _
    (λ f. directories_laws.first_is o os f h) (λ f. counters_laws.first_is o os f h) (λ f. registers_laws.first_is o os f h) (λ f. maps_laws.first_is o os f h) (λ f. lists_laws.first_is o os f h) (λ f. trees_laws.first_is o os f h) (λ f. sets_laws.first_is o os f h) e

pub applied_is : (o : Oid) (s : AnyKind) (op : AnyOp) → is_state o s ≡ true → is_op op ≡ true → is_state o (applied s op) ≡ true
unfolding applied is_op
applied_is o (states.Directory s) (ops.Directory op) e f = directories_laws.applied_is o s op e f
applied_is o (states.Directory s) op e f = e
applied_is o (states.Counter s) (ops.Counter op) e f = counters_laws.applied_is o s op e f
applied_is o (states.Counter s) op e f = e
applied_is o (states.Register s) (ops.Register op) e f = registers_laws.applied_is o s op e f
applied_is o (states.Register s) op e f = e
applied_is o (states.Map s) (ops.Map op) e f = maps_laws.applied_is o s op e f
applied_is o (states.Map s) op e f = e
applied_is o (states.List s) (ops.List op) e f = lists_laws.applied_is o s op e f
applied_is o (states.List s) op e f = e
applied_is o (states.Tree s) (ops.Tree op) e f = trees_laws.applied_is o s op e f
applied_is o (states.Tree s) op e f = e
applied_is o (states.Set s) (ops.Set op) e f = sets_laws.applied_is o s op e f
applied_is o (states.Set s) op e f = e

pub other_kind : (o : Oid) (s : AnyKind) (op : AnyOp) → is_state o s ≡ true → is_of o op ≡ false → applied s op ≡ s
unfolding applied
other_kind o (states.Directory s) (ops.Directory op) e f = ap states.Directory (directories_laws.other_kind o s op e f)
other_kind o (states.Directory s) op e f = refl
other_kind o (states.Counter s) (ops.Counter op) e f = ap states.Counter (counters_laws.other_kind o s op e f)
other_kind o (states.Counter s) op e f = refl
other_kind o (states.Register s) (ops.Register op) e f = ap states.Register (registers_laws.other_kind o s op e f)
other_kind o (states.Register s) op e f = refl
other_kind o (states.Map s) (ops.Map op) e f = ap states.Map (maps_laws.other_kind o s op e f)
other_kind o (states.Map s) op e f = refl
other_kind o (states.List s) (ops.List op) e f = ap states.List (lists_laws.other_kind o s op e f)
other_kind o (states.List s) op e f = refl
other_kind o (states.Tree s) (ops.Tree op) e f = ap states.Tree (trees_laws.other_kind o s op e f)
other_kind o (states.Tree s) op e f = refl
other_kind o (states.Set s) (ops.Set op) e f = ap states.Set (sets_laws.other_kind o s op e f)
other_kind o (states.Set s) op e f = refl

pub touched_is : (op : AnyOp) → is_op op ≡ true → is_part (touched op) ≡ true
unfolding is_op touched
touched_is (ops.Directory op) e = directories_laws.touched_is op e
touched_is (ops.Counter op) e = counters_laws.touched_is op e
touched_is (ops.Register op) e = registers_laws.touched_is op e
touched_is (ops.Map op) e = maps_laws.touched_is op e
touched_is (ops.List op) e = lists_laws.touched_is op e
touched_is (ops.Tree op) e = trees_laws.touched_is op e
touched_is (ops.Set op) e = sets_laws.touched_is op e

pub apart : (s : AnyKind) (op : AnyOp) (ask : AnyAsk) → overlap (touched op) (looked ask) ≡ false → answered (applied s op) ask ≡ answered s ask
unfolding applied answered touched looked
apart (states.Directory s) (ops.Directory op) (asks.Directory ask) e = ap answers.Directory (directories_laws.apart s op ask e)
apart (states.Directory s) (ops.Directory op) ask e = refl
apart (states.Directory s) op ask e = refl
apart (states.Counter s) (ops.Counter op) (asks.Counter ask) e = ap answers.Counter (counters_laws.apart s op ask e)
apart (states.Counter s) (ops.Counter op) ask e = refl
apart (states.Counter s) op ask e = refl
apart (states.Register s) (ops.Register op) (asks.Register ask) e = ap answers.Register (registers_laws.apart s op ask e)
apart (states.Register s) (ops.Register op) ask e = refl
apart (states.Register s) op ask e = refl
apart (states.Map s) (ops.Map op) (asks.Map ask) e = ap answers.Map (maps_laws.apart s op ask e)
apart (states.Map s) (ops.Map op) ask e = refl
apart (states.Map s) op ask e = refl
apart (states.List s) (ops.List op) (asks.List ask) e = ap answers.List (lists_laws.apart s op ask e)
apart (states.List s) (ops.List op) ask e = refl
apart (states.List s) op ask e = refl
apart (states.Tree s) (ops.Tree op) (asks.Tree ask) e = ap answers.Tree (trees_laws.apart s op ask e)
apart (states.Tree s) (ops.Tree op) ask e = refl
apart (states.Tree s) op ask e = refl
apart (states.Set s) (ops.Set op) (asks.Set ask) e = ap answers.Set (sets_laws.apart s op ask e)
apart (states.Set s) (ops.Set op) ask e = refl
apart (states.Set s) op ask e = refl

tag_0 : (o : Oid) (b : Bool) → (directories.is_object o && b) ≡ true → tag_of o ≡ 0
tag_0 o b e = let z : o.0 ≡ 0 = eqb-true _ _ (and-left _ _ e) in omega arith

tag_1 : (o : Oid) (b : Bool) → (counters.is_object o && b) ≡ true → tag_of o ≡ 1
tag_1 o b e = eqb-true _ _ (and-left _ _ e)

tag_2 : (o : Oid) (b : Bool) → (registers.is_object o && b) ≡ true → tag_of o ≡ 2
tag_2 o b e = eqb-true _ _ (and-left _ _ e)

tag_3 : (o : Oid) (b : Bool) → (maps.is_object o && b) ≡ true → tag_of o ≡ 3
tag_3 o b e = eqb-true _ _ (and-left _ _ e)

tag_4 : (o : Oid) (b : Bool) → (lists.is_object o && b) ≡ true → tag_of o ≡ 4
tag_4 o b e = eqb-true _ _ (and-left _ _ e)

tag_5 : (o : Oid) (b : Bool) → (trees.is_object o && b) ≡ true → tag_of o ≡ 5
tag_5 o b e = eqb-true _ _ (and-left _ _ e)

tag_6 : (o : Oid) (b : Bool) → (sets.is_object o && b) ≡ true → tag_of o ≡ 6
tag_6 o b e = eqb-true _ _ (and-left _ _ e)

pub loads_saved : (o : Oid) (s : AnyKind) → is_state o s ≡ true → loaded o (saved s) ≡ Ok s
unfolding loaded saved
loads_saved o (states.Directory s) e = at_0 (tag_of o) _ _ _ _ _ _ _ (tag_0 o _ e) ∙ ap (made states.Directory) (directories_laws.loads_saved o s e)
loads_saved o (states.Counter s) e = at_1 (tag_of o) _ _ _ _ _ _ _ (tag_1 o _ e) ∙ ap (made states.Counter) (counters_laws.loads_saved o s e)
loads_saved o (states.Register s) e = at_2 (tag_of o) _ _ _ _ _ _ _ (tag_2 o _ e) ∙ ap (made states.Register) (registers_laws.loads_saved o s e)
loads_saved o (states.Map s) e = at_3 (tag_of o) _ _ _ _ _ _ _ (tag_3 o _ e) ∙ ap (made states.Map) (maps_laws.loads_saved o s e)
loads_saved o (states.List s) e = at_4 (tag_of o) _ _ _ _ _ _ _ (tag_4 o _ e) ∙ ap (made states.List) (lists_laws.loads_saved o s e)
loads_saved o (states.Tree s) e = at_5 (tag_of o) _ _ _ _ _ _ _ (tag_5 o _ e) ∙ ap (made states.Tree) (trees_laws.loads_saved o s e)
loads_saved o (states.Set s) e = at_6 (tag_of o) _ _ _ _ _ _ _ (tag_6 o _ e) ∙ ap (made states.Set) (sets_laws.loads_saved o s e)

made_is : {A B : Type 0} (make : A → B) (r : Result A ℕ) (y : B) → made make r ≡ Ok y → (x : A) × (r ≡ Ok x) × (make x ≡ y)
made_is make (Ok x) y e = (x, refl, cc)
made_is make (Err at) y e = absurd cc

abbrev LoadsOnly : Oid → List ℕ → Bool → Result AnyKind ℕ → Type 0
LoadsOnly o bytes b r = b ≡ true → (s : AnyKind) → r ≡ Ok s → (is_state o s ≡ true) × (bytes ≡ saved s)

only_0 : (o : Oid) (bytes : List ℕ) → IsBytes bytes → LoadsOnly o bytes (directories.is_object o) (made states.Directory (directories.loaded o bytes))
unfolding saved
only_0 o bytes fits is s e =
    let m = made_is states.Directory (directories.loaded o bytes) s e in
    subst (λ (s : AnyKind). (is_state o s ≡ true) × (bytes ≡ saved s)) m.2 (directories_laws.loads_only o bytes m.0 is fits m.1)

only_1 : (o : Oid) (bytes : List ℕ) → IsBytes bytes → LoadsOnly o bytes (counters.is_object o) (made states.Counter (counters.loaded o bytes))
unfolding saved
only_1 o bytes fits is s e =
    let m = made_is states.Counter (counters.loaded o bytes) s e in
    subst (λ (s : AnyKind). (is_state o s ≡ true) × (bytes ≡ saved s)) m.2 (counters_laws.loads_only o bytes m.0 is fits m.1)

only_2 : (o : Oid) (bytes : List ℕ) → IsBytes bytes → LoadsOnly o bytes (registers.is_object o) (made states.Register (registers.loaded o bytes))
unfolding saved
only_2 o bytes fits is s e =
    let m = made_is states.Register (registers.loaded o bytes) s e in
    subst (λ (s : AnyKind). (is_state o s ≡ true) × (bytes ≡ saved s)) m.2 (registers_laws.loads_only o bytes m.0 is fits m.1)

only_3 : (o : Oid) (bytes : List ℕ) → IsBytes bytes → LoadsOnly o bytes (maps.is_object o) (made states.Map (maps.loaded o bytes))
unfolding saved
only_3 o bytes fits is s e =
    let m = made_is states.Map (maps.loaded o bytes) s e in
    subst (λ (s : AnyKind). (is_state o s ≡ true) × (bytes ≡ saved s)) m.2 (maps_laws.loads_only o bytes m.0 is fits m.1)

only_4 : (o : Oid) (bytes : List ℕ) → IsBytes bytes → LoadsOnly o bytes (lists.is_object o) (made states.List (lists.loaded o bytes))
unfolding saved
only_4 o bytes fits is s e =
    let m = made_is states.List (lists.loaded o bytes) s e in
    subst (λ (s : AnyKind). (is_state o s ≡ true) × (bytes ≡ saved s)) m.2 (lists_laws.loads_only o bytes m.0 is fits m.1)

only_5 : (o : Oid) (bytes : List ℕ) → IsBytes bytes → LoadsOnly o bytes (trees.is_object o) (made states.Tree (trees.loaded o bytes))
unfolding saved
only_5 o bytes fits is s e =
    let m = made_is states.Tree (trees.loaded o bytes) s e in
    subst (λ (s : AnyKind). (is_state o s ≡ true) × (bytes ≡ saved s)) m.2 (trees_laws.loads_only o bytes m.0 is fits m.1)

only_6 : (o : Oid) (bytes : List ℕ) → IsBytes bytes → LoadsOnly o bytes (sets.is_object o) (made states.Set (sets.loaded o bytes))
unfolding saved
only_6 o bytes fits is s e =
    let m = made_is states.Set (sets.loaded o bytes) s e in
    subst (λ (s : AnyKind). (is_state o s ≡ true) × (bytes ≡ saved s)) m.2 (sets_laws.loads_only o bytes m.0 is fits m.1)

pub loads_only : (o : Oid) (bytes : List ℕ) (s : AnyKind) → is_object o ≡ true → IsBytes bytes → loaded o bytes ≡ Ok s → (is_state o s ≡ true) × (bytes ≡ saved s)
unfolding loaded
loads_only o bytes s is fits e =
    by_both (LoadsOnly o bytes) (tag_of o) _ _ _ _ _ _ _ _ _ _ _ _ _ _ (only_0 o bytes fits) (only_1 o bytes fits) (only_2 o bytes fits) (only_3 o bytes fits) (only_4 o bytes fits) (only_5 o bytes fits) (only_6 o bytes fits) is s e

abbrev done : {A : Type 0} → A → Result A ℕ
done x = Ok x

ok_is : {A : Type 0} (x y : A) → done x ≡ done y → x ≡ y
ok_is x y e = cc

made_op_is : {A B : Type 0} (make : A → B) (r : Read A) (y : B) (rest : List ℕ) → made_op make r ≡ Ok (y, rest) → (x : A × List ℕ) × (r ≡ Ok (x.0, rest)) × (make x.0 ≡ y)
made_op_is {A} {B} make (Ok x) y rest e =
    let same : (make x.0, x.1) ≡ (y, rest) = ok_is (make x.0, x.1) (y, rest) e in
    (x, ap (λ (t : List ℕ). Ok (x.0, t)) (ap (λ (p : B × List ℕ). p.1) same), ap (λ (p : B × List ℕ). p.0) same)
made_op_is make (Err at) y rest e = absurd cc

abbrev ReadsOnly : List ℕ → Unit {0} → Read AnyOp → Type 0
ReadsOnly bytes u r = (op : AnyOp) (rest : List ℕ) → r ≡ Ok (op, rest) → (is_op op ≡ true) × (bytes ≡ spelled op ++ rest)

op_only_0 : (bytes : List ℕ) → IsBytes bytes → ReadsOnly bytes tt (made_op ops.Directory (directories.op_format.read bytes))
unfolding is_op spelled
op_only_0 bytes fits op rest e =
    let m = made_op_is ops.Directory (directories.op_format.read bytes) op rest e in
    subst (λ (op : AnyOp). (is_op op ≡ true) × (bytes ≡ spelled op ++ rest)) m.2 (directories_laws.reads_only bytes m.0.0 rest fits m.1)

op_only_1 : (bytes : List ℕ) → IsBytes bytes → ReadsOnly bytes tt (made_op ops.Counter (counters.op_format.read bytes))
unfolding is_op spelled
op_only_1 bytes fits op rest e =
    let m = made_op_is ops.Counter (counters.op_format.read bytes) op rest e in
    subst (λ (op : AnyOp). (is_op op ≡ true) × (bytes ≡ spelled op ++ rest)) m.2 (counters_laws.reads_only bytes m.0.0 rest fits m.1)

op_only_2 : (bytes : List ℕ) → IsBytes bytes → ReadsOnly bytes tt (made_op ops.Register (registers.op_format.read bytes))
unfolding is_op spelled
op_only_2 bytes fits op rest e =
    let m = made_op_is ops.Register (registers.op_format.read bytes) op rest e in
    subst (λ (op : AnyOp). (is_op op ≡ true) × (bytes ≡ spelled op ++ rest)) m.2 (registers_laws.reads_only bytes m.0.0 rest fits m.1)

op_only_3 : (bytes : List ℕ) → IsBytes bytes → ReadsOnly bytes tt (made_op ops.Map (maps.op_format.read bytes))
unfolding is_op spelled
op_only_3 bytes fits op rest e =
    let m = made_op_is ops.Map (maps.op_format.read bytes) op rest e in
    subst (λ (op : AnyOp). (is_op op ≡ true) × (bytes ≡ spelled op ++ rest)) m.2 (maps_laws.reads_only bytes m.0.0 rest fits m.1)

op_only_4 : (bytes : List ℕ) → IsBytes bytes → ReadsOnly bytes tt (made_op ops.List (lists.op_format.read bytes))
unfolding is_op spelled
op_only_4 bytes fits op rest e =
    let m = made_op_is ops.List (lists.op_format.read bytes) op rest e in
    subst (λ (op : AnyOp). (is_op op ≡ true) × (bytes ≡ spelled op ++ rest)) m.2 (lists_laws.reads_only bytes m.0.0 rest fits m.1)

op_only_5 : (bytes : List ℕ) → IsBytes bytes → ReadsOnly bytes tt (made_op ops.Tree (trees.op_format.read bytes))
unfolding is_op spelled
op_only_5 bytes fits op rest e =
    let m = made_op_is ops.Tree (trees.op_format.read bytes) op rest e in
    subst (λ (op : AnyOp). (is_op op ≡ true) × (bytes ≡ spelled op ++ rest)) m.2 (trees_laws.reads_only bytes m.0.0 rest fits m.1)

op_only_6 : (bytes : List ℕ) → IsBytes bytes → ReadsOnly bytes tt (made_op ops.Set (sets.op_format.read bytes))
unfolding is_op spelled
op_only_6 bytes fits op rest e =
    let m = made_op_is ops.Set (sets.op_format.read bytes) op rest e in
    subst (λ (op : AnyOp). (is_op op ≡ true) × (bytes ≡ spelled op ++ rest)) m.2 (sets_laws.reads_only bytes m.0.0 rest fits m.1)

pub reads_only : (bytes : List ℕ) (op : AnyOp) (rest : List ℕ) → IsBytes bytes → read bytes ≡ Ok (op, rest) → (is_op op ≡ true) × (bytes ≡ spelled op ++ rest)
unfolding read
reads_only bytes op rest fits e =
    by_both (ReadsOnly bytes) (code_tag bytes) tt tt tt tt tt tt tt _ _ _ _ _ _ _ (op_only_0 bytes fits) (op_only_1 bytes fits) (op_only_2 bytes fits) (op_only_3 bytes fits) (op_only_4 bytes fits) (op_only_5 bytes fits) (op_only_6 bytes fits) op rest e

-- an op's first byte tells its kind
code_0 : (op : DirectoryOp) (rest : List ℕ) → code_tag (directories.op_format.spell op ++ rest) ≡ 0
unfolding directories.op_format
code_0 (directory_ops.Name name oid) rest = refl
code_0 (directory_ops.Mark oid mark) rest = refl

code_1 : (op : CounterOp) (rest : List ℕ) → code_tag (counters.op_format.spell op ++ rest) ≡ 1
code_1 (counter_ops.Add by) rest = refl

code_2 : (op : RegisterOp) (rest : List ℕ) → code_tag (registers.op_format.spell op ++ rest) ≡ 2
code_2 (register_ops.Write text) rest = refl

code_3 : (op : MapOp) (rest : List ℕ) → code_tag (maps.op_format.spell op ++ rest) ≡ 3
unfolding maps.op_format
code_3 (map_ops.Set key value) rest = refl
code_3 (map_ops.Unset key) rest = refl

code_4 : (op : TextListOp) (rest : List ℕ) → code_tag (lists.op_format.spell op ++ rest) ≡ 4
unfolding lists.op_format
code_4 (list_ops.PushFront text) rest = refl
code_4 (list_ops.PushBack text) rest = refl
code_4 (list_ops.Insert at text) rest = refl
code_4 (list_ops.Remove at) rest = refl
code_4 list_ops.PopFront rest = refl
code_4 list_ops.PopBack rest = refl

code_5 : (op : TreeOp) (rest : List ℕ) → code_tag (trees.op_format.spell op ++ rest) ≡ 5
code_5 (tree_ops.Create path text) rest = refl
code_5 (tree_ops.Store path text) rest = refl
code_5 (tree_ops.Delete path) rest = refl

code_6 : (op : SetOp) (rest : List ℕ) → code_tag (sets.op_format.spell op ++ rest) ≡ 6
unfolding sets.op_format
code_6 (set_ops.Include number) rest = refl
code_6 (set_ops.Exclude number) rest = refl

read_at_0 : (bytes : List ℕ) → code_tag bytes ≡ 0 → read bytes ≡ made_op ops.Directory (directories.op_format.read bytes)
unfolding read
read_at_0 bytes e = at_0 (code_tag bytes) _ _ _ _ _ _ _ e

read_at_1 : (bytes : List ℕ) → code_tag bytes ≡ 1 → read bytes ≡ made_op ops.Counter (counters.op_format.read bytes)
unfolding read
read_at_1 bytes e = at_1 (code_tag bytes) _ _ _ _ _ _ _ e

read_at_2 : (bytes : List ℕ) → code_tag bytes ≡ 2 → read bytes ≡ made_op ops.Register (registers.op_format.read bytes)
unfolding read
read_at_2 bytes e = at_2 (code_tag bytes) _ _ _ _ _ _ _ e

read_at_3 : (bytes : List ℕ) → code_tag bytes ≡ 3 → read bytes ≡ made_op ops.Map (maps.op_format.read bytes)
unfolding read
read_at_3 bytes e = at_3 (code_tag bytes) _ _ _ _ _ _ _ e

read_at_4 : (bytes : List ℕ) → code_tag bytes ≡ 4 → read bytes ≡ made_op ops.List (lists.op_format.read bytes)
unfolding read
read_at_4 bytes e = at_4 (code_tag bytes) _ _ _ _ _ _ _ e

read_at_5 : (bytes : List ℕ) → code_tag bytes ≡ 5 → read bytes ≡ made_op ops.Tree (trees.op_format.read bytes)
unfolding read
read_at_5 bytes e = at_5 (code_tag bytes) _ _ _ _ _ _ _ e

read_at_6 : (bytes : List ℕ) → code_tag bytes ≡ 6 → read bytes ≡ made_op ops.Set (sets.op_format.read bytes)
unfolding read
read_at_6 bytes e = at_6 (code_tag bytes) _ _ _ _ _ _ _ e

pub reads_spelled : (op : AnyOp) (rest : List ℕ) → is_op op ≡ true → read (spelled op ++ rest) ≡ Ok (op, rest)
unfolding is_op spelled
reads_spelled (ops.Directory op) rest e = read_at_0 (directories.op_format.spell op ++ rest) (code_0 op rest) ∙ ap (made_op ops.Directory) (directories_laws.reads_spelled op rest e)
reads_spelled (ops.Counter op) rest e = read_at_1 (counters.op_format.spell op ++ rest) (code_1 op rest) ∙ ap (made_op ops.Counter) (counters_laws.reads_spelled op rest e)
reads_spelled (ops.Register op) rest e = read_at_2 (registers.op_format.spell op ++ rest) (code_2 op rest) ∙ ap (made_op ops.Register) (registers_laws.reads_spelled op rest e)
reads_spelled (ops.Map op) rest e = read_at_3 (maps.op_format.spell op ++ rest) (code_3 op rest) ∙ ap (made_op ops.Map) (maps_laws.reads_spelled op rest e)
reads_spelled (ops.List op) rest e = read_at_4 (lists.op_format.spell op ++ rest) (code_4 op rest) ∙ ap (made_op ops.List) (lists_laws.reads_spelled op rest e)
reads_spelled (ops.Tree op) rest e = read_at_5 (trees.op_format.spell op ++ rest) (code_5 op rest) ∙ ap (made_op ops.Tree) (trees_laws.reads_spelled op rest e)
reads_spelled (ops.Set op) rest e = read_at_6 (sets.op_format.spell op ++ rest) (code_6 op rest) ∙ ap (made_op ops.Set) (sets_laws.reads_spelled op rest e)

pub spelled_some : (op : AnyOp) → is_op op ≡ true → 1 ≤ length (spelled op)
unfolding is_op spelled
spelled_some (ops.Directory op) e = directories_laws.spelled_some op e
spelled_some (ops.Counter op) e = counters_laws.spelled_some op e
spelled_some (ops.Register op) e = registers_laws.spelled_some op e
spelled_some (ops.Map op) e = maps_laws.spelled_some op e
spelled_some (ops.List op) e = lists_laws.spelled_some op e
spelled_some (ops.Tree op) e = trees_laws.spelled_some op e
spelled_some (ops.Set op) e = sets_laws.spelled_some op e

pub no_front_law : (a b : AnyOp) (x y : List ℕ) → is_op a ≡ true → is_op b ≡ true → spelled a ++ x ≡ spelled b ++ y → a ≡ b
no_front_law a b x y f g e =
    ap (λ (p : AnyOp × List ℕ). p.0) (ok_is (a, x) (b, y) (sym (reads_spelled a x f) ∙ ap read e ∙ reads_spelled b y g))

pub allowed_is : (o : Oid) (op : AnyOp) → allowed o op ≡ true → is_of o op ≡ true
allowed_is o (ops.Directory op) e = directories_laws.allowed_is o op e
allowed_is o op e = e

pub marking_is : (o : Oid) (m : ℕ) → (is_of directory (marking o m) ≡ true) × (allowed directory (marking o m) ≡ false)
marking_is o m = directories_laws.marking_is o m

pub marking_short : (o : Oid) (m : ℕ) → length (spelled (marking o m)) ≤ 64
unfolding spelled
marking_short o m = directories_laws.marking_short o m
