-- The checkpoint that a client's view would make of an object is small: its parts are those of committed changes, and its state is one of its kind.
use Rattle.std.proofs.Common.{◌≡◌, ℕ, ◌*◌, ◌<◌, ◌≤◌, ◌^◌, List, [], ◌∷◌, length, map, Bool, true, false, cond, refl, sym, ap, ◌∙◌, subst, inl, inr, arith, Some, None, Option}
use Rattle.std.specs.Prelude.{◌==◌, nat_le}
use Rattle.std.proofs.lemmas.Bool.Decides.{nat_tests}
use Rattle.tg_base.specs.Clusters.{Header}
use Rattle.tg_base.specs.Parts.{is_part}
use Rattle.tg_base.specs.declared.ids.Oid.{Oid}
use Rattle.tg_base.specs.declared.marks.Part.{Part}
use Rattle.tg_kind.specs.Parts.{tag_of}
use Rattle.tg_protocol.specs.Checkpoints.{saved_bytes, checkpoint}
use Rattle.tg_protocol.specs.Entries.{sum_of, part_size, key_size, entry_size}
use Rattle.tg_protocol.specs.Logs.{history_of}
use Rattle.tg_protocol.specs.Runs.{Moves, Reaches}
use Rattle.tg_protocol.specs.Versions.{noted_or, version_of, parts_of}
use Rattle.tg_protocol.specs.Views.{Entries, Base, View, base_of, state_of, touched, played_version, view_version, played_parts, view_parts}
use Rattle.tg_protocol.specs.Worlds.{World, start, client, log, history}
use Rattle.tg_any.specs.declared.any.AnyKind.{AnyKind}
use Rattle.tg_any.specs.declared.any.AnyOp.{AnyOp}
use Rattle.tg_any.specs.Anys as any
use Rattle.tg_any.specs.AnyLaws as laws
use Rattle.tg_any.specs.AllKinds.{all_kinds}
use Rattle.tg_any.specs.Names.{is_named}
use Rattle.tg_client_state.proofs.Headers.{header_kept}
use Rattle.tg_law_layouts.specs.Moves.After.{after}
use Rattle.tg_law_layouts.proofs.Moves.Lists.{contained}
use Rattle.tg_law_replies.specs.History.Logs.{AreListed, state_below}
use Rattle.tg_law_replies.specs.History.Worlds.{entries_in}
use Rattle.tg_law_replies.specs.Views.Exact.{AreWriting}
use Rattle.tg_law_replies.specs.Views.Views.{reach}
use Rattle.tg_law_replies.proofs.History.Cells.{logs_rise}
use Rattle.tg_law_replies.proofs.History.Ledger.{Ledger, noted, below}
use Rattle.tg_law_replies.proofs.History.Versions.{version_at}
use Rattle.tg_law_replies.proofs.Pages.Read.{logs_keep_grammar}
use Rattle.tg_law_replies.proofs.Replies.Along.{at_end}
use Rattle.tg_law_replies.proofs.Replies.Moves.{IsRightView}
use Rattle.tg_law_replies.proofs.Replies.Shaping.{AllShaped}
use Rattle.tg_law_replies.proofs.Replies.Steps.{IsRightWorld}
use Rattle.tg_law_replies.proofs.Replies.Telling.{RightAndKept, found_kept}
use Rattle.tg_law_headline.proofs.AllKinds.Touching.{kinds_touch_parts}
use Rattle.tg_law_headline.proofs.Runs.Finding.{ends, found}
use Rattle.tg_law_programs.proofs.Transcripts.Histories.{limit_few, writes_are_ops}
use Rattle.tg_law_programs.proofs.Transcripts.Kept.{states_kept}
use Rattle.tg_law_programs.proofs.Transcripts.Keys.{Names, told_few}
use Rattle.tg_law_programs.proofs.Transcripts.Lengths.{most, state_short}
use Rattle.tg_law_programs.proofs.Transcripts.Places.{places_near}
use Rattle.tg_law_programs.proofs.Transcripts.Sizes.{part_small}
use Rattle.tg_law_programs.proofs.Transcripts.Written.{log_few, few_below, changes_few}

-- What has a name is an object.

last_tag : (t : ℕ) → (t == 0) ≡ false → (t == 1) ≡ false → (t == 2) ≡ false → (t == 3) ≡ false → (t == 4) ≡ false → (t == 5) ≡ false → nat_le t 6 ≡ true → (t == 6) ≡ true
last_tag t a b c d e f le = grind (arith, nat_tests)

one_of : (z le b0 b1 b2 b3 b4 b5 b6 : Bool) → cond b0 z le ≡ true → (b0 ≡ false → b1 ≡ false → b2 ≡ false → b3 ≡ false → b4 ≡ false → b5 ≡ false → le ≡ true → b6 ≡ true)
    → cond b0 z (cond b1 b1 (cond b2 b2 (cond b3 b3 (cond b4 b4 (cond b5 b5 b6))))) ≡ true
one_of z le true b1 b2 b3 b4 b5 b6 e h = e
one_of z le false true b2 b3 b4 b5 b6 e h = refl
one_of z le false false true b3 b4 b5 b6 e h = refl
one_of z le false false false true b4 b5 b6 e h = refl
one_of z le false false false false true b5 b6 e h = refl
one_of z le false false false false false true b6 e h = refl
one_of z le false false false false false false b6 e h = h refl refl refl refl refl refl e

named_object : (o : Oid) → is_named o ≡ true → any.is_object o ≡ true
named_object o e = one_of (o.0 == 0) (nat_le (tag_of o) 6) (tag_of o == 0) (tag_of o == 1) (tag_of o == 2) (tag_of o == 3) (tag_of o == 4) (tag_of o == 5) (tag_of o == 6) e (last_tag (tag_of o))

-- Changes of a log touch parts of the format.

touched_part : (o : Oid) (bytes : List ℕ) (op : Option AnyOp) → all_kinds.read o bytes ≡ op → is_part (touched all_kinds op) ≡ true
touched_part o bytes None is = refl
touched_part o bytes (Some op) is = kinds_touch_parts o bytes op is

changed_small : (xs : Ledger all_kinds) (k : Part) → Names (noted all_kinds xs) k → part_size k ≤ 5000
changed_small [] k i = absurd i
changed_small (x ∷ xs) k (inl e) = subst (λ (p : Part). part_size p ≤ 5000) e (part_small (touched all_kinds (all_kinds.read x.1.oid x.1.op)) (touched_part x.1.oid x.1.op (all_kinds.read x.1.oid x.1.op) refl))
changed_small (x ∷ xs) k (inr i) = changed_small xs k i

-- In a world that a run comes to.
module _ (h : Header) (zs : Moves all_kinds) (r : Reaches all_kinds h zs (after all_kinds h zs)) where
  abbrev w : World all_kinds
  w = after all_kinds h zs

  abbrev es : Entries
  es = entries_in all_kinds w

  grammar : AreListed es × AreWriting es
  grammar = logs_keep_grammar all_kinds w

  kept : RightAndKept all_kinds h es (logs_rise all_kinds w) grammar.0 w
  kept = at_end all_kinds (RightAndKept all_kinds h es (logs_rise all_kinds w) grammar.0) zs (start all_kinds h) (found_kept all_kinds h zs w grammar.0 grammar.1 r (found h zs w r) (ends h zs w r))

  right : IsRightWorld all_kinds h.objects es (logs_rise all_kinds w) grammar.0 w
  right = kept.0

  shaped : AllShaped all_kinds h.objects es w
  shaped = kept.2

  few_entries : length es ≤ 1000000
  few_entries =
      let a = few_below 0 w.cluster.limit es (omega arith) (logs_rise all_kinds w) (λ x i. places_near all_kinds h zs w r x.0 x.1 (contained es x i)) in
      let b = limit_few h zs w r in
      omega (arith, a, b)

  first : (p : Oid) → any.is_object p ≡ true → any.is_state p (all_kinds.fresh p h.objects) ≡ true
  first p is = laws.first_is p h.objects is (header_kept h r.header)

  state_good : (n : ℕ) (o : Oid) → any.is_object o ≡ true → any.is_state o (state_below all_kinds h.objects es n o) ≡ true
  unfolding history history_of
  state_good n o is = states_kept h.objects (history all_kinds w) n o (λ d i. writes_are_ops h zs w r d i) first is

  module _ (k : ℕ) (v : View all_kinds) (has : (client all_kinds w k).view ≡ Some v) (o : Oid) (object : any.is_object o ≡ true) where
    sight : IsRightView all_kinds h.objects es (logs_rise all_kinds w) grammar.0 v
    sight = (right.clients k).view v has

    -- the versions as played
    version_here : (b : Base all_kinds) → base_of all_kinds v o ≡ Some b → (p : Part) → noted_or b.versions.base v.noted o p ≡ view_version all_kinds v o p
    unfolding view_version version_of
    version_here b is p = sym (ap (λ (x : Option (Base all_kinds)). played_version all_kinds v x o p) is)

    same : (b : Base all_kinds) → base_of all_kinds v o ≡ Some b → (p : Part) → noted_or b.versions.base v.noted o p ≡ noted_or None (noted all_kinds (below all_kinds [] es (reach all_kinds h.objects es v b))) o p
    same b is p = version_here b is p ∙ ((sight.so.told o b is).versions p ∙ sym (version_at all_kinds h.objects es (logs_rise all_kinds w) (reach all_kinds h.objects es v b) o p))

    keys_near : sum_of (map key_size (view_parts all_kinds v o).keys) ≤ 320512000000
    unfolding view_parts parts_of version_of
    keys_near = by (base_of all_kinds v o) refl
      where
        by : (b : Option (Base all_kinds)) → base_of all_kinds v o ≡ b → sum_of (map key_size (played_parts all_kinds v b o).keys) ≤ 320512000000
        by None is = omega arith
        by (Some b) is =
            let n = reach all_kinds h.objects es v b in
            let a = told_few b.versions.base v.noted (noted all_kinds (below all_kinds [] es n)) o (same b is) (changed_small (below all_kinds [] es n)) in
            let c = changes_few all_kinds es n (log_few (log all_kinds w)) in
            let d = few_entries in
            within (sum_of (map key_size (played_parts all_kinds v (Some b) o).keys)) (length (noted all_kinds (below all_kinds [] es n))) a c d
          where
            within : (x y : ℕ) → x ≤ 5008 * y → y ≤ 64 * length es → length es ≤ 1000000 → x ≤ 320512000000
            within x y a c d = omega (arith, a, c, d)

    one_state : (s t : AnyKind) → Some s ≡ Some t → s ≡ t
    one_state s t e = cc

    state_near : length (saved_bytes all_kinds (state_of all_kinds v o)) ≤ most
    state_near = by (state_of all_kinds v o) refl
      where
        by : (s : Option AnyKind) → state_of all_kinds v o ≡ s → length (saved_bytes all_kinds s) ≤ most
        by None is = omega arith
        by (Some s) is =
            let b = ((shaped k).0.view v has).states o s is in
            let at = (sight.so.told o b.0 b.1).state in
            state_short o s (subst (λ (t : AnyKind). any.is_state o t ≡ true) (one_state (state_below all_kinds h.objects es (reach all_kinds h.objects es v b.0) o) s (sym at ∙ is)) (state_good (reach all_kinds h.objects es v b.0) o object))

    -- so is the entry that saves the object
    entry_near : (upto number number' : ℕ) → entry_size (checkpoint all_kinds v o upto number number') < 2 ^ 64
    unfolding entry_size checkpoint
    entry_near upto number number' = let a = keys_near in let b = state_near in omega (arith, a, b)

  -- a checkpoint of a client's view, of an object that has a name
  pub checkpoint_near : (k : ℕ) (v : View all_kinds) → (client all_kinds w k).view ≡ Some v → (o : Oid) → is_named o ≡ true → (upto number number' : ℕ) → entry_size (checkpoint all_kinds v o upto number number') < 2 ^ 64
  checkpoint_near k v has o named = entry_near k v has o (named_object o named)
