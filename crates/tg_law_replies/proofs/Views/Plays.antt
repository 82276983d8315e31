-- A true view stays true by every play over the entries of its objects.
use Rattle.std.proofs.Common.{◌≡◌, ◌⊎◌, ℕ, ◌+◌, ◌<◌, ◌≤◌, max, List, [], ◌∷◌, Bool, true, false, refl, sym, ap, ◌∙◌, subst, inl, inr, arith, Option, Some, None, Contains}
use Rattle.std.specs.Prelude.{nat_lt, nat_le, if◌then◌else◌, ◌&&◌, ◌==◌, cond, map}
use Rattle.std.specs.List.{list_any, list_all}
use Rattle.tg_base.specs.declared.ids.Oid.{Oid}
use Rattle.tg_base.specs.declared.marks.Part.{Part}
use Rattle.tg_base.specs.declared.marks.ReadMark.{ReadMark}
use Rattle.tg_entry.specs.declared.entry.WriteOp.{WriteOp}
use Rattle.tg_entry.specs.declared.entry.Entry.{Entry}
use Rattle.tg_kind.specs.Meaning.{Meaning}
use Rattle.tg_model.specs.declared.play.PlayEnd.TheVariants.{Played, Blocked}
use Rattle.tg_kind.specs.Parts.{overlap}
use Rattle.tg_base.specs.Orders.{oid_eq}
use Rattle.tg_entry.specs.Needs.{reads_of, writes_of}
use Rattle.tg_protocol.specs.Entries.{is_commit}
use Rattle.tg_protocol.specs.Versions.{PartVersion, Changed, noted_or, no_versions, version_of, first_changed}
use Rattle.tg_protocol.specs.Views.{Entries, decision_in, Verdict, Commits, Aborts, Unknown, Base, View, base_of, base_state, fresh_base, view_start, state_in, state_of, played_versions, played_version, view_version, fate_in, fate_of, past, version_by, version_at, unknown_by, unknown_in, changed_in, by_changes, by_versions, said, by_decision, verdict, with_state, applied, set_state, touched, note, write_by, plays, write, write_all, passed_over, with_fate, with_verdict, with_open, Play, stands_at, Step, On, Stuck, decided_step, record_step, entry_step, step_at, between, play_on, play_from, play}
use Rattle.tg_protocol.specs.Logs.{version_after, is_current, commits_after, changes_below}
use Rattle.tg_law_replies.specs.Plays.Sound.{IsRising, base_among}
use Rattle.tg_law_replies.proofs.Plays.Joins.{step_on, on_more}
use Rattle.tg_law_replies.proofs.Plays.Kept.{Within, within_between}
use Rattle.tg_law_replies.specs.History.Logs.{writes_to, state_below, version_below, commits, HasChange, AreListed, HasOutcome}
use Rattle.tg_law_replies.proofs.History.Members.{Has, has_contained, contained_has, same_oid, same_number, number_same, oid_itself, of_le, of_lt, of_not_lt, lt_of, not_lt, both_and, and_both, passes_somewhere, contrary, not_true}
use Rattle.tg_law_replies.proofs.History.Ledger.{Ledger, noted, with_writes, below, below_next, none_below, Steps, grow, one_entry}
use Rattle.tg_law_replies.proofs.History.Versions.{version_in, version_off, version_at as log_version_at, commits_at, version_since}
use Rattle.tg_law_replies.proofs.History.States.{op_on, state_after, state_on, state_off, state_at_is}
use Rattle.tg_law_replies.specs.Views.Views.{IsTrueBase, IsTrueOf, IsTrueView, AreTrueDecisions, AreEntriesFor, CanJudge, IsChanged}
use Rattle.tg_law_replies.specs.Views.Laws.{PlaysTrue, VerdictsTrue, ChangesTrue, StartsTrue, FreshTrue}

-- One object's state after a state was put.

trans_differs : (a b c : Oid) → oid_eq a b ≡ true → oid_eq b c ≡ false → oid_eq a c ≡ false
trans_differs a b c p q = grind arith

module _ (m : Meaning) where
  other_state : (xs : List (Oid × m.state)) (p o : Oid) (s : m.state) → oid_eq p o ≡ false → state_in m (with_state m xs p s) o ≡ state_in m xs o
  other_state [] p o s e = refl
  other_state (x ∷ xs) p o s e = by (oid_eq x.0 p) refl (other_state xs p o s e)
    where
      by : (b : Bool) → oid_eq x.0 p ≡ b → state_in m (with_state m xs p s) o ≡ state_in m xs o → state_in m (if b then (p, s) ∷ xs else x ∷ with_state m xs p s) o ≡ state_in m (x ∷ xs) o
      by true same rest =
          ap (λ (t : Bool). if t then Some s else state_in m xs o) e
          ∙ sym (ap (λ (t : Bool). if t then Some x.1 else state_in m xs o) (trans_differs x.0 p o same e))
      by false same rest = ap (λ (y : Option m.state). if oid_eq x.0 o then Some x.1 else y) rest

  own_state : (xs : List (Oid × m.state)) (o : Oid) (s t : m.state) → state_in m xs o ≡ Some t → state_in m (with_state m xs o s) o ≡ Some s
  own_state [] o s t e = absurd (none e)
    where
      none : None ≡ Some t → ⊥
      none h = cc
  own_state (x ∷ xs) o s t e = by (oid_eq x.0 o) refl (own_state xs o s t) e
    where
      by : (b : Bool) → oid_eq x.0 o ≡ b → (state_in m xs o ≡ Some t → state_in m (with_state m xs o s) o ≡ Some s) → (if b then Some x.1 else state_in m xs o) ≡ Some t
          → state_in m (if b then (o, s) ∷ xs else x ∷ with_state m xs o s) o ≡ Some s
      by true same rest h = ap (λ (b : Bool). if b then Some s else state_in m xs o) (oid_itself o)
      by false same rest h = ap (λ (b : Bool). if b then Some x.1 else state_in m (with_state m xs o s) o) same ∙ rest h

  not_past : (p : ℕ) (b : Base m) → plays m p (Some b) ≡ true → b.upto ≤ p
  not_past p b h = grind arith

  is_past : (p : ℕ) (b : Base m) → plays m p (Some b) ≡ false → p < b.upto
  is_past p b h = grind arith

  may_play : (p : ℕ) (b : Base m) → b.upto ≤ p → plays m p (Some b) ≡ true
  may_play p b h = grind arith

  some_base : (a b : Base m) → Some a ≡ Some b → a ≡ b
  some_base a b e = cc

  said_commits : (b : Bool) → said m b ≡ Commits → b ≡ true
  said_commits true h = refl
  said_commits false h = absurd cc

  -- The first read whose version differs is that which keeps a record from being committed.
  by_reads : (f : ReadMark → ℕ) (ns : List PartVersion) (rs : List ReadMark) → ((r : ReadMark) → Has rs r → f r ≡ version_after m ns r.oid r.part)
      → by_changes m (first_changed f rs) ≡ said m (list_all (is_current m ns) rs)
  by_reads f ns [] h = refl
  by_reads f ns (r ∷ rs) h = by (f r == r.version) refl (by_reads f ns rs (λ s i. h s (inr i)))
    where
      by : (b : Bool) → (f r == r.version) ≡ b → by_changes m (first_changed f rs) ≡ said m (list_all (is_current m ns) rs)
          → by_changes m (if b then first_changed f rs else Some (record { read = r; now = f r })) ≡ said m (list_all (is_current m ns) (r ∷ rs))
      by true e rest = rest ∙ ap (λ (c : Bool). said m (c && list_all (is_current m ns) rs)) (sym (ap (λ (n : ℕ). n == r.version) (sym (h r (inl refl))) ∙ e))
      by false e rest = ap (λ (c : Bool). said m (c && list_all (is_current m ns) rs)) (sym (ap (λ (n : ℕ). n == r.version) (sym (h r (inl refl))) ∙ e))

module _ (m : Meaning) (objects : List Oid) (es : Entries) (rising : IsRising es) (bs : List (Base m))
    (bases : (o : Oid) (b : Base m) → base_among m bs o ≡ Some b → IsTrueBase m objects es o b) where
  abbrev log : ℕ → Ledger m
  log n = below m [] es n

  abbrev state : Oid → Ledger m → m.state
  state o xs = state_after m objects o xs

  base_state_is : (o : Oid) (b : Base m) → base_among m bs o ≡ Some b → b.state ≡ state o (log b.upto)
  base_state_is o b is = (bases o b is).state ∙ state_at_is m objects es rising b.upto o

  base_version_is : (o : Oid) (b : Base m) → base_among m bs o ≡ Some b → (k : Part) → version_of b.versions o k ≡ version_in m o k (log b.upto)
  base_version_is o b is k = (bases o b is).versions k ∙ sym (log_version_at m objects es rising b.upto o k)

  -- what a view tells of an object, and what a ledger does
  abbrev Tells : Ledger m → View m → Oid → Base m → Type 0
  Tells xs v o b = (state_of m v o ≡ Some (state o xs)) × ((k : Part) → played_version m v (Some b) o k ≡ version_in m o k xs)

  abbrev TellsBase : View m → Oid → Base m → Type 0
  TellsBase v o b = (state_of m v o ≡ Some b.state) × ((k : Part) → played_version m v (Some b) o k ≡ version_of b.versions o k)

  -- a view is at a position where it has each object as this ledger, or as its base, which is past that
  abbrev IsAt : ℕ → Ledger m → View m → Type 0
  IsAt n xs v = (o : Oid) (b : Base m) → base_among m bs o ≡ Some b → (n < b.upto → TellsBase v o b) × (b.upto ≤ n → Tells xs v o b)

  -- A write.

  versions_more : (v : View m) (y : Oid) (j : Part) (t : Option m.state) (p : ℕ) (w : WriteOp) (o : Oid) (b : Base m) (xs : Ledger m) → y ≡ w.oid → j ≡ touched m (m.read w.oid w.op)
      → ((k : Part) → played_version m v (Some b) o k ≡ version_in m o k xs) → (k : Part) → played_version m (note m (set_state m v y t) y j p) (Some b) o k ≡ version_in m o k ((p, w) ∷ xs)
  unfolding version_of
  versions_more v y j None p w o b xs e f h k =
      ap (λ (n : ℕ). if oid_eq y o && overlap j k then p + 1 else n) (h k)
      ∙ (ap (λ (z : Oid). if oid_eq z o && overlap j k then p + 1 else version_in m o k xs) e
      ∙ ap (λ (z : Part). if oid_eq w.oid o && overlap z k then p + 1 else version_in m o k xs) f)
  versions_more v y j (Some s) p w o b xs e f h k =
      ap (λ (n : ℕ). if oid_eq y o && overlap j k then p + 1 else n) (h k)
      ∙ (ap (λ (z : Oid). if oid_eq z o && overlap j k then p + 1 else version_in m o k xs) e
      ∙ ap (λ (z : Part). if oid_eq w.oid o && overlap z k then p + 1 else version_in m o k xs) f)

  versions_same : (v : View m) (y : Oid) (j : Part) (t : Option m.state) (p : ℕ) (o : Oid) (b : Base m) → oid_eq y o ≡ false
      → (k : Part) → played_version m (note m (set_state m v y t) y j p) (Some b) o k ≡ played_version m v (Some b) o k
  unfolding version_of
  versions_same v y j None p o b e k = ap (λ (c : Bool). if c && overlap j k then p + 1 else noted_or b.versions.base v.noted o k) e
  versions_same v y j (Some s) p o b e k = ap (λ (c : Bool). if c && overlap j k then p + 1 else noted_or b.versions.base v.noted o k) e

  state_same : (v : View m) (y : Oid) (j : Part) (t : Option m.state) (p : ℕ) (o : Oid) → oid_eq y o ≡ false → state_of m (note m (set_state m v y t) y j p) o ≡ state_of m v o
  state_same v y j None p o e = refl
  state_same v y j (Some s) p o e = other_state m v.states y o s e

  state_own : (v : View m) (o : Oid) (j : Part) (op : Option m.op) (p : ℕ) (s : m.state) → state_of m v o ≡ Some s
      → state_of m (note m (set_state m v o (applied m op (state_of m v o))) o j p) o ≡ Some (op_on m objects op s)
  state_own v o j op p s is = ap (λ (t : Option m.state). state_of m (note m (set_state m v o (applied m op t)) o j p) o) is ∙ by op
    where
      by : (op : Option m.op) → state_of m (note m (set_state m v o (applied m op (Some s))) o j p) o ≡ Some (op_on m objects op s)
      by None = own_state m v.states o s s is
      by (Some op) = own_state m v.states o (m.apply s op) s is

  tells_write : (p : ℕ) (xs : Ledger m) (v : View m) (w : WriteOp) (o : Oid) (b : Base m) → oid_eq w.oid o ≡ true → Tells xs v o b → Tells ((p, w) ∷ xs) (write_by m v p w (m.read w.oid w.op)) o b
  tells_write p xs v w o b e h =
      let same = same_oid w.oid o e in (
        (subst (λ (y : Oid). state_of m (note m (set_state m v y (applied m (m.read w.oid w.op) (state_of m v y))) y (touched m (m.read w.oid w.op)) p) o ≡ Some (op_on m objects (m.read w.oid w.op) (state o xs)))
            (sym same) (state_own v o (touched m (m.read w.oid w.op)) (m.read w.oid w.op) p (state o xs) h.0)
            ∙ ap (λ (s : m.state). Some s) (sym (state_on m objects o p w xs e))),
        versions_more v w.oid (touched m (m.read w.oid w.op)) (applied m (m.read w.oid w.op) (state_of m v w.oid)) p w o b xs refl refl h.1,
      )

  tells_other : (p : ℕ) (xs : Ledger m) (v : View m) (w : WriteOp) (o : Oid) (b : Base m) → oid_eq w.oid o ≡ false → Tells xs v o b → Tells ((p, w) ∷ xs) v o b
  tells_other p xs v w o b e h = (h.0 ∙ ap (λ (s : m.state). Some s) (sym (state_off m objects o p w xs e)), λ k. h.1 k ∙ sym (version_off m o k p w xs (off k)))
    where
      off : (k : Part) → writes_to m o k w ≡ false
      off k = ap (λ (c : Bool). c && overlap (touched m (m.read w.oid w.op)) k) e

  same_bases : (v : View m) (p : ℕ) (w : WriteOp) (b : Bool) → (if b then write_by m v p w (m.read w.oid w.op) else v).bases ≡ v.bases
  same_bases v p w false = refl
  same_bases v p w true = by (applied m (m.read w.oid w.op) (state_of m v w.oid))
    where
      by : (t : Option m.state) → (note m (set_state m v w.oid t) w.oid (touched m (m.read w.oid w.op)) p).bases ≡ v.bases
      by None = refl
      by (Some s) = refl

  same_fates : (v : View m) (p : ℕ) (w : WriteOp) (b : Bool) → (if b then write_by m v p w (m.read w.oid w.op) else v).fates ≡ v.fates
  same_fates v p w false = refl
  same_fates v p w true = by (applied m (m.read w.oid w.op) (state_of m v w.oid))
    where
      by : (t : Option m.state) → (note m (set_state m v w.oid t) w.oid (touched m (m.read w.oid w.op)) p).fates ≡ v.fates
      by None = refl
      by (Some s) = refl

  write_at : (p : ℕ) (xs : Ledger m) (v : View m) (w : WriteOp) (t : Bool) → plays m p (base_among m bs w.oid) ≡ t → IsAt p xs v → IsAt p ((p, w) ∷ xs) (if t then write_by m v p w (m.read w.oid w.op) else v)
  write_at p xs v w true played h o b is = by (oid_eq w.oid o) refl
    where
      own : oid_eq w.oid o ≡ true → b.upto ≤ p
      own e = not_past m p b (subst (λ (c : Option (Base m)). plays m p c ≡ true) (ap (λ (y : Oid). base_among m bs y) (same_oid w.oid o e) ∙ is) played)

      by : (c : Bool) → oid_eq w.oid o ≡ c
          → (p < b.upto → TellsBase (write_by m v p w (m.read w.oid w.op)) o b) × (b.upto ≤ p → Tells ((p, w) ∷ xs) (write_by m v p w (m.read w.oid w.op)) o b)
      by true e = ((λ less. let le = own e in absurd (omega (arith, le, less))), (λ le. tells_write p xs v w o b e ((h o b is).1 le)))
      by false e =
          let s = state_same v w.oid (touched m (m.read w.oid w.op)) (applied m (m.read w.oid w.op) (state_of m v w.oid)) p o e in
          let n = versions_same v w.oid (touched m (m.read w.oid w.op)) (applied m (m.read w.oid w.op) (state_of m v w.oid)) p o b e in (
            (λ less. let old = (h o b is).0 less in (s ∙ old.0, λ k. n k ∙ old.1 k)),
            (λ le. let old = tells_other p xs v w o b e ((h o b is).1 le) in (s ∙ old.0, λ k. n k ∙ old.1 k)),
          )
  write_at p xs v w false played h o b is = ((h o b is).0, λ le. tells_other p xs v w o b (by le (oid_eq w.oid o) refl) ((h o b is).1 le))
    where
      by : b.upto ≤ p → (c : Bool) → oid_eq w.oid o ≡ c → oid_eq w.oid o ≡ false
      by le true e =
          let less = is_past m p b (subst (λ (c : Option (Base m)). plays m p c ≡ false) (ap (λ (y : Oid). base_among m bs y) (same_oid w.oid o e) ∙ is) played) in
          absurd (omega (arith, le, less))
      by le false e = e

  -- with its bases and fates
  pub record IsAfter (n : ℕ) (xs : Ledger m) (fates : List (ℕ × Bool)) (v : View m) : Type 0 where
    pub bases_are : v.bases ≡ bs
    pub fates_are : v.fates ≡ fates
    pub is_at : IsAt n xs v

  write_after : (p : ℕ) (xs : Ledger m) (fates : List (ℕ × Bool)) (v : View m) (w : WriteOp) → IsAfter p xs fates v → IsAfter p ((p, w) ∷ xs) fates (write m p v w)
  write_after p xs fates v w h = record {
    bases_are = same_bases v p w (plays m p (base_of m v w.oid)) ∙ h.bases_are;
    fates_are = same_fates v p w (plays m p (base_of m v w.oid)) ∙ h.fates_are;
    is_at = write_at p xs v w (plays m p (base_of m v w.oid)) (ap (λ (cs : List (Base m)). plays m p (base_among m cs w.oid)) (sym h.bases_are)) h.is_at;
  }

  writes_after : (p : ℕ) (ws : List WriteOp) (xs : Ledger m) (fates : List (ℕ × Bool)) (v : View m) → IsAfter p xs fates v → IsAfter p (with_writes m p ws xs) fates (write_all m p v ws)
  writes_after p [] xs fates v h = h
  writes_after p (w ∷ ws) xs fates v h = writes_after p ws ((p, w) ∷ xs) fates (write m p v w) (write_after p xs fates v w h)

  -- What a view says of a record.

  -- where a base's version isn't above a position before it, it was that there
  version_before : (p : ℕ) (o : Oid) (b : Base m) (k : Part) → base_among m bs o ≡ Some b → p < b.upto → version_of b.versions o k ≤ p → version_of b.versions o k ≡ version_in m o k (log p)
  version_before p o b k is less le = by (version_since m objects es rising p b.upto o k (omega (arith, less)))
    where
      by : (version_in m o k (log b.upto) ≡ version_in m o k (log p)) ⊎ HasChange m objects es o k p b.upto (version_in m o k (log b.upto)) → version_of b.versions o k ≡ version_in m o k (log p)
      by (inl e) = base_version_is o b is k ∙ e
      by (inr c) = let n = base_version_is o b is k in let makes = c.makes in let after = c.after in absurd (omega (arith, n, makes, after, le))

  -- of a read object whose base isn't past a position, a view has the version there
  abbrev Judges : ℕ → View m → ReadMark → Type 0
  Judges p v r = (b : Base m) → base_among m bs r.oid ≡ Some b → b.upto ≤ p → played_version m v (Some b) r.oid r.part ≡ version_in m r.oid r.part (log p)

  version_known : (p : ℕ) (v : View m) (r : ReadMark) (b : Option (Base m)) → base_among m bs r.oid ≡ b → Judges p v r → unknown_by m p b r ≡ false
      → version_by m v p b r ≡ version_in m r.oid r.part (log p)
  version_known p v r None is h known = absurd cc
  version_known p v r (Some b) is h known = by (past m b p) refl known
    where
      by : (c : Bool) → nat_lt p b.upto ≡ c → (c && nat_lt p (version_of b.versions r.oid r.part)) ≡ false
          → (if c then version_of b.versions r.oid r.part else version_of (played_versions m v b) r.oid r.part) ≡ version_in m r.oid r.part (log p)
      by true e f = version_before p r.oid b r.part is (lt_of p b.upto e) (not_lt p (version_of b.versions r.oid r.part) f)
      by false e f = h b is (not_lt p b.upto e)

  reads_known : (p : ℕ) (v : View m) (rs : List ReadMark) → v.bases ≡ bs → ((r : ReadMark) → Has rs r → Judges p v r) → unknown_in m v rs p ≡ None → (r : ReadMark) → Has rs r
      → version_at m v p r ≡ version_in m r.oid r.part (log p)
  unfolding unknown_in
  reads_known p v [] same h none r i = absurd i
  reads_known p v (s ∷ rs) same h none r i = by (unknown_by m p (base_of m v s.oid) s) refl none i (λ f j. reads_known p v rs same (λ t x. h t (inr x)) f r j)
    where
      by : (c : Bool) → unknown_by m p (base_of m v s.oid) s ≡ c → (if c then Some s.oid else unknown_in m v rs p) ≡ None → Has (s ∷ rs) r
          → (unknown_in m v rs p ≡ None → Has rs r → version_at m v p r ≡ version_in m r.oid r.part (log p)) → version_at m v p r ≡ version_in m r.oid r.part (log p)
      by true e f j rest = absurd cc
      by false e f (inl is) rest =
          subst (λ (t : ReadMark). version_at m v p t ≡ version_in m t.oid t.part (log p)) (sym is)
          (version_known p v s (base_of m v s.oid) (ap (λ (cs : List (Base m)). base_among m cs s.oid) (sym same)) (h s (inl refl)) e)
      by false e f (inr j) rest = rest f j

  abbrev Says : Verdict → ℕ → Entry → Type 0
  Says d p e = ((o : Oid) × (d ≡ Unknown o)) ⊎ (d ≡ said m (commits m objects es p e))

  verdict_says : (own : Entries) (p : ℕ) (e : Entry) (v : View m) → AreTrueDecisions m objects es own → Has es (p, e) → is_commit e ≡ true → v.bases ≡ bs
      → (decision_in own p ≡ None → unknown_in m v (reads_of e) p ≡ None → (r : ReadMark) → Has (reads_of e) r → Judges p v r) → Says (verdict m v own p e) p e
  unfolding verdict changed_in
  verdict_says own p e v decisions here commit same h = by (decision_in own p) refl
    where
      versions : decision_in own p ≡ None → (o : Option Oid) → unknown_in m v (reads_of e) p ≡ o → Says (by_versions m v (reads_of e) p o) p e
      versions none (Some o) is = inl (o, refl)
      versions none None is = inr (
          by_reads m (version_at m v p) (changes_below m [] es p) (reads_of e)
          (λ r i. reads_known p v (reads_of e) same (h none is) is r i ∙ log_version_at m objects es rising p r.oid r.part)
          ∙ ap (λ (c : Bool). said m (c && list_all (is_current m (changes_below m [] es p)) (reads_of e))) (sym commit))

      by : (d : Option Bool) → decision_in own p ≡ d → Says (by_decision m v e p d) p e
      by (Some b) is =
          let known = decisions p b is in
          let one = one_entry 0 es p known.entry e rising (has_contained es (p, known.entry) known.here) here in
          inr (ap (λ (c : Bool). said m c) (sym (ap (λ (d : Entry). commits m objects es p d) (sym one) ∙ known.outcome)))
      by None is = versions is (unknown_in m v (reads_of e) p) refl

  -- From one position to a later one.

  abbrev SameAs : ℕ → Oid → Ledger m → Type 0
  SameAs a o ys = (state o ys ≡ state o (log a)) × ((k : Part) → version_in m o k ys ≡ version_in m o k (log a))

  quiet : (a b : ℕ) (o : Oid) → a ≤ b
      → ((p : ℕ) (e : Entry) (w : WriteOp) → Has es (p, e) → a ≤ p → p < b → commits_after m (noted m (log p)) e ≡ true → Has (writes_of e) w → oid_eq w.oid o ≡ true → ⊥)
      → (state o (log b) ≡ state o (log a)) × ((k : Part) → version_in m o k (log b) ≡ version_in m o k (log a))
  quiet a b o le none = grow m (SameAs a o) [] 0 es a b rising le step (refl, λ k. refl)
    where
      by : (p : ℕ) (w : WriteOp) (ys : Ledger m) → SameAs a o ys → (c : Bool) → oid_eq w.oid o ≡ c → (c ≡ true → ⊥) → SameAs a o ((p, w) ∷ ys)
      by p w ys h true e never = absurd (never refl)
      by p w ys h false e never =
          (state_off m objects o p w ys e ∙ h.0, λ k. version_off m o k p w ys (ap (λ (c : Bool). c && overlap (touched m (m.read w.oid w.op)) k) e) ∙ h.1 k)

      step : Steps m [] es a b (SameAs a o)
      step p e w ys i low less c j h = by p w ys h (oid_eq w.oid o) refl (λ t. none p e w i low less c j t)

  abbrev NoHit : ℕ → ℕ → Type 0
  NoHit a b = (p : ℕ) (e : Entry) (w : WriteOp) (c : Base m) → Has es (p, e) → a ≤ p → p < b → is_commit e ≡ true → Has (writes_of e) w → base_among m bs w.oid ≡ Some c → c.upto ≤ p → ⊥

  below_or : (a b : ℕ) → (a < b) ⊎ (b ≤ a)
  below_or a b = grind arith

  commit_of : (ns : List PartVersion) (e : Entry) → commits_after m ns e ≡ true → is_commit e ≡ true
  commit_of ns e h = (and_both (is_commit e) (list_all (is_current m ns) (reads_of e)) h).0

  advance : (a b : ℕ) (v : View m) → a ≤ b → NoHit a b → IsAt a (log a) v → IsAt b (log b) v
  advance a b v le none h o c is = ((λ less. (h o c is).0 (omega (arith, less, le))), λ past. by past (below_or a c.upto))
    where
      no : (low p : ℕ) (e : Entry) (w : WriteOp) → a ≤ low → c.upto ≤ low → Has es (p, e) → low ≤ p → p < b → commits_after m (noted m (log p)) e ≡ true → Has (writes_of e) w → oid_eq w.oid o ≡ true → ⊥
      no low p e w al cl i lp less k j t =
          none p e w c i (omega (arith, al, lp)) less (commit_of (noted m (log p)) e k) j (ap (λ (y : Oid). base_among m bs y) (same_oid w.oid o t) ∙ is) (omega (arith, cl, lp))

      by : c.upto ≤ b → (a < c.upto) ⊎ (c.upto ≤ a) → Tells (log b) v o c
      by past (inl less) =
          let q = quiet c.upto b o past (λ p e w i lp l k j t. no c.upto p e w (omega (arith, less)) (omega arith) i lp l k j t) in
          let old = (h o c is).0 less in
          (old.0 ∙ ap (λ (s : m.state). Some s) (base_state_is o c is ∙ sym q.0), λ k. old.1 k ∙ (base_version_is o c is k ∙ sym (q.1 k)))
      by past (inr early) =
          let q = quiet a b o le (λ p e w i lp l k j t. no a p e w (omega arith) early i lp l k j t) in
          let old = (h o c is).1 early in
          (old.0 ∙ ap (λ (s : m.state). Some s) (sym q.0), λ k. old.1 k ∙ sym (q.1 k))

  shift : (p : ℕ) (v : View m) → IsAt p (log (p + 1)) v → IsAt (p + 1) (log (p + 1)) v
  shift p v h o c is = ((λ less. (h o c is).0 (omega (arith, less))), λ le. by le (below_or p c.upto))
    where
      by : c.upto ≤ p + 1 → (p < c.upto) ⊎ (c.upto ≤ p) → Tells (log (p + 1)) v o c
      by le (inl less) =
          let same : c.upto ≡ p + 1 = omega (arith, le, less) in
          let old = (h o c is).0 less in
          subst (λ (n : ℕ). Tells (log n) v o c) same (old.0 ∙ ap (λ (s : m.state). Some s) (base_state_is o c is), λ k. old.1 k ∙ base_version_is o c is k)
      by le (inr before) = (h o c is).1 before

  -- A view that is true as far as a position.

  pub record IsGood (n : ℕ) (v : View m) : Type 0 where
    pub bases_are : v.bases ≡ bs
    pub is_at : IsAt n (log n) v
    pub fates : (p : ℕ) (b : Bool) → fate_of m v p ≡ Some b → HasOutcome m objects es p b
    pub settled : (p : ℕ) (e : Entry) (w : WriteOp) (c : Base m) → Has es (p, e) → is_commit e ≡ true → Has (writes_of e) w → base_among m bs w.oid ≡ Some c → c.upto ≤ p → p < n
        → (b : Bool) × (fate_of m v p ≡ Some b)

  skip : (a b : ℕ) (v : View m) → a ≤ b → NoHit a b → IsGood a v → IsGood b v
  skip a b v le none h = record {
    bases_are = h.bases_are;
    is_at = advance a b v le none h.is_at;
    fates = h.fates;
    settled = λ p e w c i k j is past less. by p e w c i k j is past less (below_or p a);
  }
    where
      by : (p : ℕ) (e : Entry) (w : WriteOp) (c : Base m) → Has es (p, e) → is_commit e ≡ true → Has (writes_of e) w → base_among m bs w.oid ≡ Some c → c.upto ≤ p → p < b → (p < a) ⊎ (a ≤ p)
          → (d : Bool) × (fate_of m v p ≡ Some d)
      by p e w c i k j is past less (inl early) = h.settled p e w c i k j is past early
      by p e w c i k j is past less (inr late) = absurd (none p e w c i late less k j is past)

  fate_there : (v : View m) (p q : ℕ) (b : Bool) → ((d : Bool) × (fate_of m v q ≡ Some d)) → (d : Bool) × (fate_of m (with_fate m v p b) q ≡ Some d)
  fate_there v p q b old = by (p == q)
    where
      by : (c : Bool) → (d : Bool) × ((if c then Some b else fate_of m v q) ≡ Some d)
      by true = (b, refl)
      by false = old

  fate_true : (v : View m) (p q : ℕ) (b d : Bool) → HasOutcome m objects es p b → (fate_of m v q ≡ Some d → HasOutcome m objects es q d) → fate_of m (with_fate m v p b) q ≡ Some d → HasOutcome m objects es q d
  fate_true v p q b d out old is = by (p == q) refl is
    where
      one : (x y : Bool) → Some x ≡ Some y → x ≡ y
      one x y e = cc

      by : (c : Bool) → (p == q) ≡ c → (if c then Some b else fate_of m v q) ≡ Some d → HasOutcome m objects es q d
      by true e f = subst (λ (n : ℕ). HasOutcome m objects es n d) (same_number p q e) (subst (λ (t : Bool). HasOutcome m objects es p t) (one b d f) out)
      by false e f = old f

  -- a decided record, whatever it makes of the objects
  fated : (p : ℕ) (v w : View m) (b : Bool) → HasOutcome m objects es p b → w.bases ≡ bs → w.fates ≡ (p, b) ∷ v.fates → IsAt (p + 1) (log (p + 1)) w → IsGood p v → IsGood (p + 1) w
  fated p v w b out bases_are fates_are is_at h = record {
    bases_are = bases_are;
    is_at = is_at;
    fates = λ q d is. fate_true v p q b d out (h.fates q d) (sym (ap (λ (fs : List (ℕ × Bool)). fate_in m fs q) fates_are) ∙ is);
    settled = λ q e x c i k j is past less.
        subst (λ (fs : List (ℕ × Bool)). (d : Bool) × (fate_in m fs q ≡ Some d)) (sym fates_are) (by q e x c i k j is past less (below_or q p));
  }
    where
      by : (q : ℕ) (e : Entry) (x : WriteOp) (c : Base m) → Has es (q, e) → is_commit e ≡ true → Has (writes_of e) x → base_among m bs x.oid ≡ Some c → c.upto ≤ q → q < p + 1 → (q < p) ⊎ (p ≤ q)
          → (d : Bool) × (fate_in m ((p, b) ∷ v.fates) q ≡ Some d)
      by q e x c i k j is past less (inl early) = fate_there v p q b (h.settled q e x c i k j is past early)
      by q e x c i k j is past less (inr late) =
          (b, ap (λ (t : Bool). if t then Some b else fate_in m v.fates q) (number_same p q (omega (arith, less, late))))

  -- A record's step.

  abbrev StepGood : ℕ → Step m → Type 0
  StepGood n (On v) = IsGood n v
  StepGood n (Stuck o) = Unit {0}

  outcome_is : (p : ℕ) (e : Entry) (b : Bool) → Has es (p, e) → is_commit e ≡ true → commits m objects es p e ≡ b → HasOutcome m objects es p b
  outcome_is p e b here commit is = record { entry = e; here = contained_has es (p, e) here; commit = commit; outcome = is }

  next_is : (p : ℕ) (e : Entry) (b : Bool) → Has es (p, e) → commits m objects es p e ≡ b → log (p + 1) ≡ (if b then with_writes m p (writes_of e) (log p) else log p)
  next_is p e b here is =
      below_next m [] 0 es p e rising here ∙ ap (λ (c : Bool). if c then with_writes m p (writes_of e) (log p) else log p) (commits_at m objects es rising p e ∙ is)

  -- nothing that a record makes is hosted from its position on
  passes_by : (p : ℕ) (e : Entry) (v : View m) → v.bases ≡ bs → passed_over m v p e ≡ true → Has es (p, e) → NoHit p (p + 1)
  passes_by p e v same passed here q d w c i low less k j is past =
      let at : q ≡ p = omega (arith, low, less) in
      let one : d ≡ e = one_entry 0 es p d e rising (subst (λ (n : ℕ). Has es (n, d)) at i) here in
      contrary (list_any (λ (x : WriteOp). plays m p (base_of m v x.oid)) (writes_of e)) (not_true _ passed)
      (passes_somewhere (λ (x : WriteOp). plays m p (base_of m v x.oid)) (writes_of e) w (subst (λ (f : Entry). Has (writes_of f) w) one j)
      (ap (λ (cs : List (Base m)). plays m p (base_among m cs w.oid)) same ∙ (ap (λ (b : Option (Base m)). plays m p b) is ∙ may_play m p c (subst (λ (n : ℕ). c.upto ≤ n) at past))))

  others_by : (p : ℕ) (e : Entry) → is_commit e ≡ false → Has es (p, e) → NoHit p (p + 1)
  others_by p e none here q d w c i low less k j is past =
      let at : q ≡ p = omega (arith, low, less) in
      let one : d ≡ e = one_entry 0 es p d e rising (subst (λ (n : ℕ). Has es (n, d)) at i) here in
      contrary (is_commit e) none (subst (λ (f : Entry). is_commit f ≡ true) one k)

  commits_said : (d : Verdict) (p : ℕ) (e : Entry) (b : Bool) → d ≡ said m b → Says d p e → commits m objects es p e ≡ b
  commits_said d p e b is (inl u) = absurd (no b (sym is ∙ u.1))
    where
      no : (c : Bool) → said m c ≡ Unknown u.0 → ⊥
      no true h = cc
      no false h = cc
  commits_said d p e b is (inr s) = one (commits m objects es p e) b (sym s ∙ is)
    where
      one : (x y : Bool) → said m x ≡ said m y → x ≡ y
      one true true h = refl
      one true false h = absurd cc
      one false true h = absurd cc
      one false false h = refl

  -- where the record is passed over
  passed_good : (p : ℕ) (e : Entry) (v : View m) (d : Verdict) → Has es (p, e) → is_commit e ≡ true → NoHit p (p + 1) → Says d p e → IsGood p v → IsGood (p + 1) (with_verdict m v p d)
  passed_good p e v Commits here commit none says h =
      fated p v (with_fate m v p true) true (outcome_is p e true here commit (commits_said Commits p e true refl says)) h.bases_are refl (advance p (p + 1) v (omega arith) none h.is_at) h
  passed_good p e v Aborts here commit none says h =
      fated p v (with_fate m v p false) false (outcome_is p e false here commit (commits_said Aborts p e false refl says)) h.bases_are refl (advance p (p + 1) v (omega arith) none h.is_at) h
  passed_good p e v (Unknown o) here commit none says h = skip p (p + 1) v (omega arith) none h

  decided_good : (p : ℕ) (e : Entry) (v : View m) (d : Verdict) → Has es (p, e) → is_commit e ≡ true → Says d p e → IsGood p v → StepGood (p + 1) (decided_step m v p e d)
  decided_good p e v Commits here commit says h =
      let yes = commits_said Commits p e true refl says in
      let made = writes_after p (writes_of e) (log p) ((p, true) ∷ v.fates) (with_fate m v p true) (record { bases_are = h.bases_are; fates_are = refl; is_at = h.is_at }) in
      fated p v (write_all m p (with_fate m v p true) (writes_of e)) true (outcome_is p e true here commit yes) made.bases_are made.fates_are
      (shift p (write_all m p (with_fate m v p true) (writes_of e)) (subst (λ (xs : Ledger m). IsAt p xs (write_all m p (with_fate m v p true) (writes_of e))) (sym (next_is p e true here yes)) made.is_at)) h
  decided_good p e v Aborts here commit says h =
      let no = commits_said Aborts p e false refl says in
      fated p v (with_fate m v p false) false (outcome_is p e false here commit no) h.bases_are refl
      (shift p (with_fate m v p false) (subst (λ (xs : Ledger m). IsAt p xs (with_fate m v p false)) (sym (next_is p e false here no)) h.is_at)) h
  decided_good p e v (Unknown o) here commit says h = tt

  open_good : (n : ℕ) (v : View m) (p : ℕ) (b : Bool) → IsGood n v → IsGood n (if b then record v { open_records = p ∷ v.open_records } else v)
  open_good n v p true h = record { bases_are = h.bases_are; is_at = h.is_at; fates = h.fates; settled = h.settled }
  open_good n v p false h = h

  record_good : (p : ℕ) (e : Entry) (u v : View m) (d : Verdict) (b : Bool) → u.bases ≡ bs → passed_over m u p e ≡ b → Has es (p, e) → is_commit e ≡ true → Says d p e → IsGood p v
      → StepGood (p + 1) (record_step m v p e d b)
  record_good p e u v d true same passed here commit says h = passed_good p e v d here commit (passes_by p e u same passed here) says h
  record_good p e u v d false same passed here commit says h = decided_good p e v d here commit says h

  step_good : (own : Entries) (p : ℕ) (e : Entry) (v : View m) → AreTrueDecisions m objects es own → Has es (p, e) → IsGood p v → StepGood (p + 1) (step_at m v own p e)
  unfolding step_at
  step_good own p e v decisions here h = by (is_commit e) refl
    where
      by : (b : Bool) → is_commit e ≡ b → StepGood (p + 1) (entry_step m v own p e b)
      by true commit =
          record_good p e v (with_open m v own p e) (verdict m v own p e) (passed_over m v p e) h.bases_are refl here commit
          (verdict_says own p e v decisions here commit h.bases_are (λ none known r i b is le. ((h.is_at r.oid b is).1 le).1 r.part)) (open_good p v p _ h)
      by false none = skip p (p + 1) v (omega arith) (others_by p e none here) h

  -- Plays.

  within_has : (low high : ℕ) (xs : Entries) (x : ℕ × Entry) → Within low high xs → Has xs x → (low ≤ x.0) × (x.0 < high)
  within_has low high [] x w i = absurd i
  within_has low high (y ∷ xs) x w (inl e) = subst (λ (z : ℕ × Entry). (low ≤ z.0) × (z.0 < high)) (sym e) (w.0, w.1)
  within_has low high (y ∷ xs) x w (inr i) = let rest = within_has (y.0 + 1) high xs x w.2 i in let a = rest.0 in let b = w.0 in (omega (arith, a, b), rest.1)

  -- each record that a view has to play is among these entries
  abbrev Covers : ℕ → ℕ → Entries → Type 0
  Covers low high xs = (p : ℕ) (e : Entry) (w : WriteOp) (c : Base m) → Has es (p, e) → low ≤ p → p < high → is_commit e ≡ true → Has (writes_of e) w → base_among m bs w.oid ≡ Some c → c.upto ≤ p → Has xs (p, e)

  stood : (n : ℕ) (v : View m) → IsGood n v → IsGood n (stands_at m v n)
  stood n v h = record { bases_are = h.bases_are; is_at = h.is_at; fates = h.fates; settled = h.settled }

  abbrev PlayGood : Play m → Type 0
  PlayGood y = IsGood y.view.upto y.view

  on_good : (own : Entries) (upto p : ℕ) (v : View m) (xs : Entries) (s : Step m) → IsGood p v → ((w : View m) → IsGood (p + 1) w → PlayGood (play_on m own upto w xs)) → StepGood (p + 1) s
      → PlayGood (step_on m own upto v p xs s)
  unfolding step_on
  on_good own upto p v xs (On w) before rest h = rest w h
  on_good own upto p v xs (Stuck o) before rest h = stood p v before

  play_on_good : (own : Entries) (upto low : ℕ) (xs : Entries) (v : View m) → AreTrueDecisions m objects es own → low ≤ upto → Within low upto xs → ((x : ℕ × Entry) → Has xs x → Has es x)
      → Covers low upto xs → IsGood low v → PlayGood (play_on m own upto v xs)
  unfolding play_on
  play_on_good own upto low [] v decisions le w only all h = stood upto v (skip low upto v le (λ p e x c i a b k j is past. all p e x c i a b k j is past) h)
  play_on_good own upto low (x ∷ xs) v decisions le w only all h =
      let p = w.0 in let q = w.1 in
      let here = skip low x.0 v p gap h in
      subst PlayGood (sym (on_more m own upto v x xs))
      (on_good own upto x.0 v xs (step_at m v own x.0 x.1) here
      (λ u k. play_on_good own upto (x.0 + 1) xs u decisions (omega (arith, q)) w.2 (λ y i. only y (inr i)) rest k)
      (step_good own x.0 x.1 v decisions (only x (inl refl)) here))
    where
      gap : NoHit low x.0
      gap p e y c i a b k j is past = by (all p e y c i a (let q = w.1 in omega (arith, b, q)) k j is past)
        where
          by : Has (x ∷ xs) (p, e) → ⊥
          by (inl s) = let at : p ≡ x.0 = ap (λ (z : ℕ × Entry). z.0) s in omega (arith, at, b)
          by (inr t) = let later = (within_has (x.0 + 1) upto xs (p, e) w.2 t).0 in omega (arith, later, b)

      rest : Covers (x.0 + 1) upto xs
      rest p e y c i a b k j is past = by (all p e y c i (let q = w.0 in omega (arith, a, q)) b k j is past)
        where
          by : Has (x ∷ xs) (p, e) → Has xs (p, e)
          by (inl s) = let at : p ≡ x.0 = ap (λ (z : ℕ × Entry). z.0) s in absurd (omega (arith, at, a))
          by (inr t) = t

-- Entries between two positions.

module _ (m : Meaning) (low high : ℕ) where
  abbrev kept : ℕ × Entry → Bool
  kept x = nat_le low x.0 && nat_lt x.0 high

  pub between_only : (xs : Entries) (x : ℕ × Entry) → Has (between m low high xs) x → Has xs x
  between_only [] x i = absurd i
  between_only (y ∷ xs) x i = by (kept y) (between_only xs x) i
    where
      by : (b : Bool) → (Has (between m low high xs) x → Has xs x) → Has (if b then y ∷ between m low high xs else between m low high xs) x → Has (y ∷ xs) x
      by true rest (inl e) = inl e
      by true rest (inr j) = inr (rest j)
      by false rest j = inr (rest j)

  pub between_all : (xs : Entries) (x : ℕ × Entry) → Has xs x → kept x ≡ true → Has (between m low high xs) x
  between_all [] x i h = absurd i
  between_all (y ∷ xs) x (inl e) h = subst (λ (z : ℕ × Entry). Has (between m low high (y ∷ xs)) z) (sym e) (here (ap kept (sym e) ∙ h))
    where
      here : kept y ≡ true → Has (between m low high (y ∷ xs)) y
      here k = subst (λ (zs : Entries). Has zs y) (sym (ap (λ (b : Bool). if b then y ∷ between m low high xs else between m low high xs) k)) (inl refl)
  between_all (y ∷ xs) x (inr i) h = by (kept y) (between_all xs x i h)
    where
      by : (b : Bool) → Has (between m low high xs) x → Has (if b then y ∷ between m low high xs else between m low high xs) x
      by true j = inr j
      by false j = j

-- True views.

max_right : (a b : ℕ) → a < b → max a b ≡ b
max_right a b less = omega (arith, less)

pub max_left : (a b : ℕ) → b ≤ a → max a b ≡ a
max_left a b le = omega (arith, le)

most : (a b p : ℕ) → a ≤ p → b ≤ p → max a b ≤ p
most a b p x y = omega (arith, x, y)

module _ (m : Meaning) (objects : List Oid) (es : Entries) (rising : IsRising es) where
  told_version : (v : View m) (o : Oid) (b : Base m) (k : Part) → base_of m v o ≡ Some b → view_version m v o k ≡ played_version m v (Some b) o k
  unfolding view_version
  told_version v o b k is = ap (λ (c : Option (Base m)). played_version m v c o k) is

  good_of : (v : View m) (h : IsTrueView m objects es v) → IsGood m objects es rising v.bases (λ o b is. (h.told o b is).base) v.upto v
  good_of v h = record {
    bases_are = refl;
    is_at = λ o b is. ((λ less. early o b is (h.told o b is) less), (λ le. late o b is (h.told o b is) le));
    fates = h.fates;
    settled = λ p e w c i k j is past less. h.settled p (record {
      entry = e;
      here = contained_has es (p, e) i;
      commit = k;
      write = w;
      writes = contained_has (writes_of e) w j;
      base = c;
      hosted = is;
      after = past;
      before = less;
    });
  }
    where
      early : (o : Oid) (b : Base m) → base_of m v o ≡ Some b → IsTrueOf m objects es v o b → v.upto < b.upto
          → (state_of m v o ≡ Some b.state) × ((k : Part) → played_version m v (Some b) o k ≡ version_of b.versions o k)
      early o b is t less =
          let n = max_right v.upto b.upto less in (
            t.state ∙ (ap (λ (i : ℕ). Some (state_below m objects es i o)) n ∙ ap (λ (s : m.state). Some s) (sym t.base.state)),
            λ k. sym (told_version v o b k is) ∙ (t.versions k ∙ (ap (λ (i : ℕ). version_below m objects es i o k) n ∙ sym (t.base.versions k))),
          )

      late : (o : Oid) (b : Base m) → base_of m v o ≡ Some b → IsTrueOf m objects es v o b → b.upto ≤ v.upto
          → (state_of m v o ≡ Some (state_after m objects o (below m [] es v.upto))) × ((k : Part) → played_version m v (Some b) o k ≡ version_in m o k (below m [] es v.upto))
      late o b is t le =
          let n = max_left v.upto b.upto le in (
            t.state ∙ (ap (λ (i : ℕ). Some (state_below m objects es i o)) n ∙ ap (λ (s : m.state). Some s) (state_at_is m objects es rising v.upto o)),
            λ k. sym (told_version v o b k is) ∙ (t.versions k ∙ (ap (λ (i : ℕ). version_below m objects es i o k) n ∙ sym (log_version_at m objects es rising v.upto o k))),
          )

  true_of : (bs : List (Base m)) (bases : (o : Oid) (b : Base m) → base_among m bs o ≡ Some b → IsTrueBase m objects es o b) (w : View m)
      → IsGood m objects es rising bs bases w.upto w → IsTrueView m objects es w
  true_of bs bases w h = record {
    told = λ o b is. of o b is (ap (λ (cs : List (Base m)). base_among m cs o) (sym h.bases_are) ∙ is) (below_or m objects es rising bs bases w.upto b.upto);
    fates = h.fates;
    settled = λ p x. h.settled p x.entry x.write x.base (has_contained es (p, x.entry) x.here) x.commit (has_contained (writes_of x.entry) x.write x.writes)
        (ap (λ (cs : List (Base m)). base_among m cs x.write.oid) (sym h.bases_are) ∙ x.hosted) x.after x.before;
  }
    where
      of : (o : Oid) (b : Base m) → base_of m w o ≡ Some b → base_among m bs o ≡ Some b → (w.upto < b.upto) ⊎ (b.upto ≤ w.upto) → IsTrueOf m objects es w o b
      of o b is among (inl less) =
          let n = max_right w.upto b.upto less in let t = (h.is_at o b among).0 less in let base = bases o b among in
          record {
            base = base;
            state = t.0 ∙ (ap (λ (s : m.state). Some s) base.state ∙ ap (λ (i : ℕ). Some (state_below m objects es i o)) (sym n));
            versions = λ k. told_version w o b k is ∙ (t.1 k ∙ (base.versions k ∙ ap (λ (i : ℕ). version_below m objects es i o k) (sym n)));
          }
      of o b is among (inr le) =
          let n = max_left w.upto b.upto le in let t = (h.is_at o b among).1 le in
          record {
            base = bases o b among;
            state = t.0 ∙ (ap (λ (s : m.state). Some s) (sym (state_at_is m objects es rising w.upto o)) ∙ ap (λ (i : ℕ). Some (state_below m objects es i o)) (sym n));
            versions = λ k. told_version w o b k is ∙ (t.1 k ∙ (log_version_at m objects es rising w.upto o k ∙ ap (λ (i : ℕ). version_below m objects es i o k) (sym n)));
          }

  from_true : (own : Entries) (v : View m) (upto : ℕ) (b : Bool) → nat_lt upto v.upto ≡ b → AreListed es → AreTrueDecisions m objects es own → AreEntriesFor m objects es v own upto
      → IsTrueView m objects es v → IsTrueView m objects es (play_from m v own upto b).view
  from_true own v upto true e listed decisions entries h = h
  from_true own v upto false e listed decisions entries h =
      let le = not_lt upto v.upto e in
      true_of v.bases (λ o b is. (h.told o b is).base) (play_on m own upto v (between m v.upto upto own)).view
      (play_on_good m objects es rising v.bases (λ o b is. (h.told o b is).base) own upto v.upto (between m v.upto upto own) v decisions le (within_between m v.upto 0 upto own entries.rising)
      (λ x i. has_contained es x (entries.only x.0 x.1 (contained_has own x (between_only m v.upto upto own x i))))
      (λ p d w c i low less k j is past.
      between_all m v.upto upto own (p, d)
      (has_contained own (p, d)
      (entries.all w.oid c p d is (contained_has es (p, d) i) (listed p d w (contained_has es (p, d) i) (contained_has (writes_of d) w j)) (most v.upto c.upto p low past) less))
      (both_and (nat_le v.upto p) (nat_lt p upto) (of_le v.upto p low) (of_lt p upto less)))
      (good_of v h))

  -- A play keeps a view's bases, and stands where it came.

  play_bases : (own : Entries) (v : View m) (upto : ℕ) (b : Bool) → nat_lt upto v.upto ≡ b → AreListed es → AreTrueDecisions m objects es own → AreEntriesFor m objects es v own upto
      → IsTrueView m objects es v → (play_from m v own upto b).view.bases ≡ v.bases
  play_bases own v upto true e listed decisions entries h = refl
  play_bases own v upto false e listed decisions entries h =
      (play_on_good m objects es rising v.bases (λ o b is. (h.told o b is).base) own upto v.upto (between m v.upto upto own) v decisions (not_lt upto v.upto e) (within_between m v.upto 0 upto own entries.rising)
      (λ x i. has_contained es x (entries.only x.0 x.1 (contained_has own x (between_only m v.upto upto own x i))))
      (λ p d w c i low less k j is past.
      between_all m v.upto upto own (p, d)
      (has_contained own (p, d)
      (entries.all w.oid c p d is (contained_has es (p, d) i) (listed p d w (contained_has es (p, d) i) (contained_has (writes_of d) w j)) (most v.upto c.upto p low past) less))
      (both_and (nat_le v.upto p) (nat_lt p upto) (of_le v.upto p low) (of_lt p upto less)))
      (good_of v h)).bases_are

  -- Verdicts.

  judges : (v : View m) (p : ℕ) (h : IsTrueView m objects es v) (r : ReadMark) → ((b : Base m) → base_of m v r.oid ≡ Some b → b.upto ≤ p → v.upto ≡ p)
      → Judges m objects es rising v.bases (λ o b is. (h.told o b is).base) p v r
  judges v p h r stands b is le =
      let at = stands b is le in
      let t = h.told r.oid b is in
      sym (told_version v r.oid b r.part is)
      ∙ (t.versions r.part
      ∙ (ap (λ (n : ℕ). version_below m objects es n r.oid r.part) (max_left v.upto b.upto (omega (arith, at, le)) ∙ at)
      ∙ sym (log_version_at m objects es rising p r.oid r.part)))

  verdict_true : (own : Entries) (v : View m) (p : ℕ) (e : Entry) → AreTrueDecisions m objects es own → IsTrueView m objects es v → Contains es (p, e) → is_commit e ≡ true → CanJudge m v own p e
      → (b : Bool) → verdict m v own p e ≡ said m b → HasOutcome m objects es p b
  verdict_true own v p e decisions h here commit can b is =
      outcome_is m objects es rising v.bases (λ o c i. (h.told o c i).base) p e b (has_contained es (p, e) here) commit
      (commits_said m objects es rising v.bases (λ o c i. (h.told o c i).base) (verdict m v own p e) p e b is
      (verdict_says m objects es rising v.bases (λ o c i. (h.told o c i).base) own p e v decisions (has_contained es (p, e) here) commit refl
      (λ none known r i. judges v p h r (can none known r (contained_has (reads_of e) r i)))))

  first_is : (f : ReadMark → ℕ) (rs : List ReadMark) (x : Changed) → first_changed f rs ≡ Some x → Has rs x.read × ((x.now ≡ f x.read) × (x.now ≡ x.read.version → ⊥))
  first_is f [] x is = absurd (no is)
    where
      no : None ≡ Some x → ⊥
      no z = cc
  first_is f (r ∷ rs) x is = by (f r == r.version) refl (first_is f rs x) is
    where
      one : (y z : Changed) → Some y ≡ Some z → y ≡ z
      one y z e = cc

      by : (b : Bool) → (f r == r.version) ≡ b → (first_changed f rs ≡ Some x → Has rs x.read × ((x.now ≡ f x.read) × (x.now ≡ x.read.version → ⊥)))
          → (if b then first_changed f rs else Some (record { read = r; now = f r })) ≡ Some x → Has (r ∷ rs) x.read × ((x.now ≡ f x.read) × (x.now ≡ x.read.version → ⊥))
      by true e rest i = let t = rest i in (inr t.0, t.1)
      by false e rest i =
          subst (λ (y : Changed). Has (r ∷ rs) y.read × ((y.now ≡ f y.read) × (y.now ≡ y.read.version → ⊥))) (one (record { read = r; now = f r }) x i)
          (inl refl, (refl, λ same. contrary (f r == r.version) e (number_same (f r) r.version same)))

  changed_true : (v : View m) (p : ℕ) (rs : List ReadMark) (x : Changed) → IsTrueView m objects es v
      → ((r : ReadMark) → Contains rs r → (b : Base m) → base_of m v r.oid ≡ Some b → b.upto ≤ p → v.upto ≡ p)
      → unknown_in m v rs p ≡ None → changed_in m v rs p ≡ Some x → IsChanged m objects es p rs x
  unfolding changed_in
  changed_true v p rs x h stands known is =
      let f = first_is (version_at m v p) rs x is in
      record {
        read = contained_has rs x.read f.0;
        now = f.1.0
            ∙ (reads_known m objects es rising v.bases (λ o c i. (h.told o c i).base) p v rs refl (λ r i. judges v p h r (stands r (contained_has rs r i))) known x.read f.0
            ∙ log_version_at m objects es rising p x.read.oid x.read.part);
        differs = f.1.1;
      }

  -- Starts.

  starts : (bs : List (Base m)) → ((o : Oid) (b : Base m) → base_among m bs o ≡ Some b → IsTrueBase m objects es o b) → IsTrueView m objects es (view_start m bs)
  unfolding view_start view_version version_of
  starts bs bases = true_of bs bases (view_start m bs) (record {
    bases_are = refl;
    is_at = λ o b is. ((λ less. (start_state bs o b is, λ k. plain_version b o k (bases o b is).plain)), (λ le. (start_state bs o b is ∙ ap (λ (s : m.state). Some s) (first o b is le), λ k. plain_version b o k (bases o b is).plain ∙ first_version o b is le k)));
    fates = λ p b is. absurd (no b is);
    settled = λ p e w c i k j is past less. absurd (omega (arith, less));
  })
    where
      no : (b : Bool) → None ≡ Some b → ⊥
      no b z = cc

      start_state : (cs : List (Base m)) (o : Oid) (b : Base m) → base_among m cs o ≡ Some b → state_in m (map (base_state m) cs) o ≡ Some b.state
      start_state [] o b is = absurd (none is)
        where
          none : None ≡ Some b → ⊥
          none z = cc
      start_state (c ∷ cs) o b is = by (oid_eq c.oid o) (start_state cs o b) is
        where
          one : (x y : Base m) → Some x ≡ Some y → x ≡ y
          one x y e = cc

          by : (t : Bool) → (base_among m cs o ≡ Some b → state_in m (map (base_state m) cs) o ≡ Some b.state) → cond t (Some c) (base_among m cs o) ≡ Some b
              → (if t then Some c.state else state_in m (map (base_state m) cs) o) ≡ Some b.state
          by true rest i = ap (λ (x : Base m). Some x.state) (one c b i)
          by false rest i = rest i

      plain_version : (b : Base m) (o : Oid) (k : Part) → b.versions.noted ≡ [] → noted_or b.versions.base [] o k ≡ noted_or b.versions.base b.versions.noted o k
      plain_version b o k e = ap (λ (ns : List PartVersion). noted_or b.versions.base ns o k) (sym e)

      first : (o : Oid) (b : Base m) → base_among m bs o ≡ Some b → b.upto ≤ 0 → b.state ≡ state_after m objects o (below m [] es 0)
      first o b is le = base_state_is m objects es rising bs bases o b is ∙ ap (λ (n : ℕ). state_after m objects o (below m [] es n)) (omega (arith, le))

      first_version : (o : Oid) (b : Base m) → base_among m bs o ≡ Some b → b.upto ≤ 0 → (k : Part) → version_of b.versions o k ≡ version_in m o k (below m [] es 0)
      first_version o b is le k = base_version_is m objects es rising bs bases o b is k ∙ ap (λ (n : ℕ). version_in m o k (below m [] es n)) (omega (arith, le))

  fresh : (o : Oid) → IsTrueBase m objects es o (fresh_base m objects o)
  unfolding version_of no_versions
  fresh o = record {
    plain = refl;
    state = ap (λ (xs : Ledger m). state_after m objects o xs) (sym none) ∙ sym (state_at_is m objects es rising 0 o);
    versions = λ k. ap (λ (xs : Ledger m). version_in m o k xs) (sym none) ∙ log_version_at m objects es rising 0 o k;
  }
    where
      none : below m [] es 0 ≡ []
      none = none_below m [] 0 es 0 rising (omega arith)

-- A play that isn't blocked stands at its target.

module _ (m : Meaning) (own : Entries) (upto t : ℕ) where
  not_blocked : (p : ℕ) (o : Oid) → Blocked p o ≡ Played t → ⊥
  not_blocked p o e = cc

  stands_by : (v : View m) (p : ℕ) (xs : Entries) → ((w : View m) → (play_on m own upto w xs).came ≡ Played t → (play_on m own upto w xs).view.upto ≡ upto) → (s : Step m)
      → (step_on m own upto v p xs s).came ≡ Played t → (step_on m own upto v p xs s).view.upto ≡ upto
  unfolding step_on
  stands_by v p xs rest (On w) h = rest w h
  stands_by v p xs rest (Stuck o) h = absurd (not_blocked p o h)

  on_stands : (xs : Entries) (v : View m) → (play_on m own upto v xs).came ≡ Played t → (play_on m own upto v xs).view.upto ≡ upto
  unfolding play_on
  on_stands [] v h = refl
  on_stands (x ∷ xs) v h =
      ap (λ (y : Play m). y.view.upto) (on_more m own upto v x xs)
      ∙ stands_by v x.0 xs (λ w. on_stands xs w) (step_at m v own x.0 x.1) (sym (ap (λ (y : Play m). y.came) (on_more m own upto v x xs)) ∙ h)

  pub played_stands : (v : View m) → v.upto ≤ upto → (play m v own upto).came ≡ Played t → (play m v own upto).view.upto ≡ upto
  unfolding play
  played_stands v le h = by (nat_lt upto v.upto) (of_not_lt upto v.upto le) h
    where
      by : (b : Bool) → b ≡ false → (play_from m v own upto b).came ≡ Played t → (play_from m v own upto b).view.upto ≡ upto
      by true e k = absurd cc
      by false e k = on_stands (between m v.upto upto own) v k

pub bases_stay : (m : Meaning) (objects : List Oid) (es own : Entries) (v : View m) (upto : ℕ) → IsRising es → AreListed es → AreTrueDecisions m objects es own → AreEntriesFor m objects es v own upto
    → IsTrueView m objects es v → (play m v own upto).view.bases ≡ v.bases
unfolding play
bases_stay m objects es own v upto rising listed decisions entries h = play_bases m objects es rising own v upto (nat_lt upto v.upto) refl listed decisions entries h

pub verdicts_true : (m : Meaning) → VerdictsTrue m
verdicts_true m objects es own v p e rising decisions h here commit can =
    ((λ is. verdict_true m objects es rising own v p e decisions h here commit can true is), (λ is. verdict_true m objects es rising own v p e decisions h here commit can false is))

pub changes_true : (m : Meaning) → ChangesTrue m
changes_true m objects es v p rs x rising h stands known is = changed_true m objects es rising v p rs x h stands known is

pub starts_true : (m : Meaning) → StartsTrue m
starts_true m objects es bs rising bases = starts m objects es rising bs bases

pub fresh_true : (m : Meaning) → FreshTrue m
fresh_true m objects es o rising = fresh m objects es rising o

pub plays_true : (m : Meaning) → PlaysTrue m
unfolding play
plays_true m objects es own v upto rising listed decisions entries h = from_true m objects es rising own v upto (nat_lt upto v.upto) refl listed decisions entries h
