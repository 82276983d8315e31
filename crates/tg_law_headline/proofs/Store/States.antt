-- What is read of the store's logs is an op, and states load from what is saved of them.
use Rattle.std.proofs.Common.{◌≡◌, ℕ, Bool, true, false, cond, List, [], map, refl, sym, ap, ◌∙◌, subst, Some}
use Rattle.std.specs.Prelude.{◌==◌, Result, Contains}
use Rattle.std.proofs.lemmas.Bool.{eqb-true}
use Rattle.tg_base.specs.declared.ids.Oid.{Oid}
use Rattle.tg_entry.specs.declared.entry.Body.{Body}
use Rattle.tg_entry.specs.declared.entry.Body.TheVariants.{Commit, Decision, Checkpoint}
use Rattle.tg_entry.specs.declared.entry.WriteOp.{WriteOp}
use Rattle.tg_entry.specs.Needs.{writes_in}
use Rattle.tg_kind.specs.Headers.{directory}
use Rattle.tg_kind.specs.Of.{loaded_by}
use Rattle.tg_kind.specs.Parts.{tag_of}
use Rattle.tg_model.specs.Traces.{puts_of}
use Rattle.tg_protocol.specs.Clients.{write_of}
use Rattle.tg_protocol.specs.Entries.{body_commits}
use Rattle.tg_protocol.specs.Holding.{IsRecord}
use Rattle.tg_protocol.specs.Worlds.{trace}
use Rattle.tg_client_state.proofs.Headers.{header_kept}
use Rattle.tg_dir.specs.Directories as directories
use Rattle.tg_cell.specs.Counters as counters
use Rattle.tg_cell.specs.Registers as registers
use Rattle.tg_map.specs.Maps as maps
use Rattle.tg_list.specs.TextLists as lists
use Rattle.tg_tree.specs.Trees as trees
use Rattle.tg_set.specs.Sets as sets
use Rattle.tg_any.specs.Anys.{by_tag, made, is_object, is_state, is_op, first, loaded, saved}
use Rattle.tg_any.specs.AnyLaws as laws
use Rattle.tg_any.specs.AllKinds.{all_kinds}
use Rattle.tg_any.specs.declared.any.AnyKind.{AnyKind}
use Rattle.tg_any.specs.declared.any.AnyKind.TheVariants as states
use Rattle.tg_any.specs.declared.any.AnyOp.{AnyOp}
use Rattle.tg_law_layouts.proofs.Moves.Members.{Image, has_contained, has_map}
use Rattle.tg_law_walks.proofs.Once.Owning.{records_own}
use Rattle.tg_law_headline.proofs.AllKinds.Fitting.{kinds_read_back}
use Rattle.tg_law_headline.proofs.AllKinds.Touching.{kinds_touch_parts}
use Rattle.tg_law_headline.proofs.Legal.Legal.{runs_are_legal}
use Rattle.tg_law_headline.specs.Store.States.{StoreReadsOps, StoreHasStates, StoreRunsLegalWhere}

-- Ops. A record's writes are what its client had put.

pub store_reads_ops : StoreReadsOps
store_reads_ops h ms w r safe p e x op here writes reads = by e.body refl writes
  where
    of_put : IsRecord all_kinds w e → is_op op ≡ true
    of_put k =
        let puts = puts_of all_kinds (trace all_kinds w) e.head.client e.head.number in
        let i : Image (λ (y : Oid × AnyOp). write_of all_kinds y.0 y.1) puts x = has_map (λ (y : Oid × AnyOp). write_of all_kinds y.0 y.1) puts x (has_contained (map (λ (y : Oid × AnyOp). write_of all_kinds y.0 y.1) puts) x (subst (λ (ws : List WriteOp). Contains ws x) k.writes writes)) in
        kinds_read_back i.of.0 i.of.1 op (subst (λ (y : WriteOp). all_kinds.read y.oid y.op ≡ Some op) i.is reads)

    by : (b : Body) → e.body ≡ b → Contains (writes_in b) x → is_op op ≡ true
    by (Commit rs ws) is i = of_put (records_own all_kinds h ms w r safe p e here (ap body_commits is))
    by (Decision at so) is i = absurd (has_contained [] x i)
    by (Checkpoint o u v n ks s) is i = absurd (has_contained [] x i)

-- States. A number that is no object's has the state of an object of the kind by which it is read.

like_if : Bool → Bool → Oid → Oid
like_if true b o = o
like_if false true o = directory
like_if false false o = record { 0 = 0x06000000 }

abbrev like : Oid → Oid
like o = like_if (is_object o) (tag_of o == 0) o

like_is : (a b : Bool) (o : Oid) → is_object o ≡ a → is_object (like_if a b o) ≡ true
unfolding like_if
like_is true b o e = e
like_is false true o e = refl
like_is false false o e = refl

last_kind : {A : Type 0} (b0 b1 b2 b3 b4 b5 b6 d : Bool) (k0 k1 k2 k3 k4 k5 k6 : A) → b0 ≡ false → cond b0 d (cond b1 b1 (cond b2 b2 (cond b3 b3 (cond b4 b4 (cond b5 b5 b6))))) ≡ false
    → cond b0 k0 (cond b1 k1 (cond b2 k2 (cond b3 k3 (cond b4 k4 (cond b5 k5 k6))))) ≡ k6
last_kind true b1 b2 b3 b4 b5 b6 d k0 k1 k2 k3 k4 k5 k6 z e = absurd cc
last_kind false true b2 b3 b4 b5 b6 d k0 k1 k2 k3 k4 k5 k6 z e = absurd cc
last_kind false false true b3 b4 b5 b6 d k0 k1 k2 k3 k4 k5 k6 z e = absurd cc
last_kind false false false true b4 b5 b6 d k0 k1 k2 k3 k4 k5 k6 z e = absurd cc
last_kind false false false false true b5 b6 d k0 k1 k2 k3 k4 k5 k6 z e = absurd cc
last_kind false false false false false true b6 d k0 k1 k2 k3 k4 k5 k6 z e = absurd cc
last_kind false false false false false false b6 d k0 k1 k2 k3 k4 k5 k6 z e = refl

same_kind : {A : Type 0} (a b : Bool) (o : Oid) (k0 k1 k2 k3 k4 k5 k6 : A) → is_object o ≡ a → (tag_of o == 0) ≡ b → by_tag (tag_of o) k0 k1 k2 k3 k4 k5 k6 ≡ by_tag (tag_of (like_if a b o)) k0 k1 k2 k3 k4 k5 k6
unfolding like_if
same_kind true b o k0 k1 k2 k3 k4 k5 k6 e f = refl
same_kind false true o k0 k1 k2 k3 k4 k5 k6 e f = ap (λ (t : ℕ). by_tag t k0 k1 k2 k3 k4 k5 k6) (eqb-true (tag_of o) 0 f)
same_kind false false o k0 k1 k2 k3 k4 k5 k6 e f = last_kind (tag_of o == 0) (tag_of o == 1) (tag_of o == 2) (tag_of o == 3) (tag_of o == 4) (tag_of o == 5) (tag_of o == 6) (directories.is_object o) k0 k1 k2 k3 k4 k5 k6 f e

same_first : (o : Oid) (os : List Oid) → first o os ≡ first (like o) os
unfolding first
same_first o os =
    same_kind (is_object o) (tag_of o == 0) o (states.Directory (directories.first o os)) (states.Counter (counters.first o os)) (states.Register (registers.first o os)) (states.Map (maps.first o os)) (states.List (lists.first o os))
    (states.Tree (trees.first o os)) (states.Set (sets.first o os)) refl refl

same_load : (o : Oid) (bytes : List ℕ) → loaded o bytes ≡ loaded (like o) bytes
unfolding loaded
same_load o bytes =
    same_kind (is_object o) (tag_of o == 0) o (made states.Directory (directories.loaded o bytes)) (made states.Counter (counters.loaded o bytes)) (made states.Register (registers.loaded o bytes)) (made states.Map (maps.loaded o bytes))
    (made states.List (lists.loaded o bytes)) (made states.Tree (trees.loaded o bytes)) (made states.Set (sets.loaded o bytes)) refl refl

pub store_has_states : StoreHasStates
store_has_states h ms w r safe = record {
  is_state = λ o s. is_state (like o) s;
  is_op = is_op;
  states = record {
    applies = λ o s op is fits. laws.applied_is (like o) s op is fits;
    loads = λ o s is. ap (λ (t : Result AnyKind ℕ). loaded_by t) (same_load o (saved s) ∙ laws.loads_saved (like o) s is);
  };
  fresh = λ o. subst (λ (s : AnyKind). is_state (like o) s ≡ true) (sym (same_first o h.objects)) (laws.first_is (like o) h.objects (like_is (is_object o) (tag_of o == 0) o refl) (header_kept h r.header));
  ops = store_reads_ops h ms w r safe;
}

-- Legal runs.

pub store_runs_legal : StoreRunsLegalWhere
store_runs_legal h ms w r x =
    runs_are_legal all_kinds (λ s op q e. laws.apart s op q e) kinds_touch_parts h ms w r
    (record { trims = x.trims; states = store_has_states h ms w r x.trims.safe; views = x.views; order = x.order })
