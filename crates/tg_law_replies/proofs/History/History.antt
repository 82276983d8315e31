-- The history of a log: its transactions are the records that commit, and its changes make the versions.
use Rattle.std.proofs.Common.{◌≡◌, ℕ, ◌+◌, ◌<◌, ◌≤◌, List, [], ◌∷◌, Bool, true, false, refl, sym, ap, ◌∙◌, subst, inl, inr, arith, Option, Some}
use Rattle.std.specs.Prelude.{nat_lt, if◌then◌else◌, ◌&&◌, ◌||◌}
use Rattle.std.specs.List.{list_any}
use Rattle.tg_base.specs.declared.ids.Oid.{Oid}
use Rattle.tg_base.specs.declared.marks.Part.{Part}
use Rattle.tg_entry.specs.declared.entry.WriteOp.{WriteOp}
use Rattle.tg_entry.specs.declared.entry.Entry.{Entry}
use Rattle.tg_kind.specs.Meaning.{Meaning}
use Rattle.tg_model.specs.Kinds.{DoneOf}
use Rattle.tg_model.specs.Stores.{writes_part, changes, later_of, changed}
use Rattle.tg_kind.specs.Parts.{overlap}
use Rattle.tg_base.specs.Orders.{oid_eq}
use Rattle.tg_entry.specs.Needs.{writes_of}
use Rattle.tg_protocol.specs.Versions.{PartVersion}
use Rattle.tg_protocol.specs.Views.{Entries, touched}
use Rattle.tg_protocol.specs.Logs.{commits_after, changes_after, op_if, ops_of, done_at, done_if, history_after}
use Rattle.tg_law_replies.specs.Plays.Sound.{rise_from}
use Rattle.tg_law_replies.specs.History.Logs.{writes_to}
use Rattle.tg_law_replies.specs.History.Laws.{VersionsAreChanges}
use Rattle.tg_law_replies.proofs.History.Members.{Has, contained_has, of_lt, of_not_lt, lt_of, not_lt}
use Rattle.tg_law_replies.proofs.History.Ledger.{Ledger, noted, with_writes, after, below, noted_after, rises_next, rises_here, has_from, on_below, none_below}
use Rattle.tg_law_replies.proofs.History.Versions.{version_in, version_on, version_off, version_at}

module _ (m : Meaning) where
  -- Its transactions.

  -- a record that commits, over a ledger before these entries
  pub record Made (xs : Ledger m) (es : Entries) (d : DoneOf m) : Type 0 where
    pub at : ℕ
    pub entry : Entry
    pub here : Has es (at, entry)
    pub commit : commits_after m (noted m (below m xs es at)) entry ≡ true
    pub is : d ≡ done_at m at entry

  made_later : (xs : Ledger m) (r : ℕ) (x : ℕ × Entry) (es : Entries) (d : DoneOf m) → rise_from r (x ∷ es) ≡ true → Made (after m xs x.0 x.1) es d → Made xs (x ∷ es) d
  made_later xs r x es d rise h =
      let later = has_from (x.0 + 1) es (h.at, h.entry) (rises_next r x es rise).1 h.here in
      record {
        at = h.at;
        entry = h.entry;
        here = inr h.here;
        commit = ap (λ (ys : Ledger m). commits_after m (noted m ys) h.entry) (on_below m xs x es h.at (omega (arith, later))) ∙ h.commit;
        is = h.is;
      }

  made_here : (xs : Ledger m) (r : ℕ) (x : ℕ × Entry) (es : Entries) → rise_from r (x ∷ es) ≡ true → commits_after m (noted m xs) x.1 ≡ true → Made xs (x ∷ es) (done_at m x.0 x.1)
  made_here xs r x es rise c = record {
    at = x.0;
    entry = x.1;
    here = inl refl;
    commit = ap (λ (ys : Ledger m). commits_after m (noted m ys) x.1) (none_below m xs x.0 (x ∷ es) x.0 (rises_here r x es rise) (omega arith)) ∙ c;
    is = refl;
  }

  pub has_made : (xs : Ledger m) (r : ℕ) (es : Entries) (d : DoneOf m) → rise_from r es ≡ true → Has (history_after m (noted m xs) es) d → Made xs es d
  has_made xs r [] d rise i = absurd i
  has_made xs r (x ∷ es) d rise i =
      by (commits_after m (noted m xs) x.1) refl i
      (λ j. has_made (after m xs x.0 x.1) (x.0 + 1) es d (rises_next r x es rise).1 (subst (λ (ns : List PartVersion). Has (history_after m ns es) d) (sym (noted_after m x.0 x.1 xs)) j))
    where
      by : (b : Bool) → commits_after m (noted m xs) x.1 ≡ b → Has (done_if m b x.0 x.1 (history_after m (changes_after m (noted m xs) x.0 x.1) es)) d
          → (Has (history_after m (changes_after m (noted m xs) x.0 x.1) es) d → Made (after m xs x.0 x.1) es d) → Made xs (x ∷ es) d
      by true c (inl e) rest = subst (λ (t : DoneOf m). Made xs (x ∷ es) t) (sym e) (made_here xs r x es rise c)
      by true c (inr j) rest = made_later xs r x es d rise (rest j)
      by false c j rest = made_later xs r x es d rise (rest j)

  pub made_has : (xs : Ledger m) (r : ℕ) (es : Entries) (p : ℕ) (e : Entry) → rise_from r es ≡ true → Has es (p, e) → commits_after m (noted m (below m xs es p)) e ≡ true
      → Has (history_after m (noted m xs) es) (done_at m p e)
  made_has xs r [] p e rise i c = absurd i
  made_has xs r (x ∷ es) p e rise (inl is) c =
      here (commits_after m (noted m xs) x.1)
      (ap (λ (ys : Ledger m). commits_after m (noted m ys) x.1) (sym (none_below m xs x.0 (x ∷ es) x.0 (rises_here r x es rise) (omega arith)))
      ∙ (ap (λ (y : ℕ × Entry). commits_after m (noted m (below m xs (x ∷ es) y.0)) y.1) (sym is) ∙ c))
    where
      here : (b : Bool) → b ≡ true → Has (done_if m b x.0 x.1 (history_after m (changes_after m (noted m xs) x.0 x.1) es)) (done_at m p e)
      here true k = inl (ap (λ (y : ℕ × Entry). done_at m y.0 y.1) is)
      here false k = absurd cc
  made_has xs r (x ∷ es) p e rise (inr j) c =
      let later = has_from (x.0 + 1) es (p, e) (rises_next r x es rise).1 j in
      there (commits_after m (noted m xs) x.1)
      (subst (λ (ns : List PartVersion). Has (history_after m ns es) (done_at m p e)) (noted_after m x.0 x.1 xs)
      (made_has (after m xs x.0 x.1) (x.0 + 1) es p e (rises_next r x es rise).1 j (ap (λ (ys : Ledger m). commits_after m (noted m ys) e) (sym (on_below m xs x es p (omega (arith, later)))) ∙ c)))
    where
      there : (b : Bool) → Has (history_after m (changes_after m (noted m xs) x.0 x.1) es) (done_at m p e)
          → Has (done_if m b x.0 x.1 (history_after m (changes_after m (noted m xs) x.0 x.1) es)) (done_at m p e)
      there true k = inr k
      there false k = k

  -- Its changes.

  module _ (o : Oid) (k : Part) (n : ℕ) where
    abbrev hits : List WriteOp → Bool
    hits ws = list_any (writes_to m o k) ws

    version_with : (p : ℕ) (ws : List WriteOp) (xs : Ledger m) → version_in m o k (with_writes m p ws xs) ≡ (if hits ws then p + 1 else version_in m o k xs)
    version_with p [] xs = refl
    version_with p (w ∷ ws) xs = version_with p ws ((p, w) ∷ xs) ∙ by (writes_to m o k w) refl (hits ws)
      where
        by : (b : Bool) → writes_to m o k w ≡ b → (c : Bool) → (if c then p + 1 else version_in m o k ((p, w) ∷ xs)) ≡ (if b || c then p + 1 else version_in m o k xs)
        by true e true = refl
        by true e false = version_on m o k p w xs e
        by false e true = refl
        by false e false = version_off m o k p w xs e

    part_is : (w : WriteOp) (op : m.op) → m.read w.oid w.op ≡ Some op → writes_part m o k (w.oid, op) ≡ writes_to m o k w
    part_is w op is =
        ap (λ (t : Option m.op). oid_eq w.oid o && overlap (touched m t) k) (sym is)

    pub changes_are : (ws : List WriteOp) → ((w : WriteOp) → Has ws w → (op : m.op) × (m.read w.oid w.op ≡ Some op)) → list_any (writes_part m o k) (ops_of m ws) ≡ hits ws
    changes_are [] h = refl
    changes_are (w ∷ ws) h =
        let s = h w (inl refl) in
        ap (λ (t : Option m.op). list_any (writes_part m o k) (op_if m w.oid t (ops_of m ws))) s.1
        ∙ (ap (λ (b : Bool). b || list_any (writes_part m o k) (ops_of m ws)) (part_is w s.0 s.1)
        ∙ ap (λ (b : Bool). writes_to m o k w || b) (changes_are ws (λ v i. h v (inr i))))

    abbrev Spelled : Entries → Type 0
    Spelled es = (p : ℕ) (e : Entry) (w : WriteOp) → Has es (p, e) → Has (writes_of e) w → (op : m.op) × (m.read w.oid w.op ≡ Some op)

    -- transactions from a position on make no change below it
    none_changed : (r : ℕ) (es : Entries) (ns : List PartVersion) → rise_from r es ≡ true → n ≤ r → changed m (history_after m ns es) o k n ≡ 0
    unfolding changed
    none_changed r [] ns rise le = refl
    none_changed r (x ∷ es) ns rise le =
        let next = rises_next r x es rise in let first = next.0 in
        by (commits_after m ns x.1) (of_not_lt x.0 n (omega (arith, first, le))) (none_changed (x.0 + 1) es (changes_after m ns x.0 x.1) next.1 (omega (arith, first, le)))
      where
        by : (b : Bool) → nat_lt x.0 n ≡ false → changed m (history_after m (changes_after m ns x.0 x.1) es) o k n ≡ 0
            → changed m (done_if m b x.0 x.1 (history_after m (changes_after m ns x.0 x.1) es)) o k n ≡ 0
        by true e rest =
            ap (λ (c : Bool). if c && changes m (done_at m x.0 x.1) o k then later_of m (x.0 + 1) (changed m (history_after m (changes_after m ns x.0 x.1) es) o k n)
            else changed m (history_after m (changes_after m ns x.0 x.1) es) o k n) e ∙ rest
        by false e rest = rest

    latest : (a b c : ℕ) → a ≤ b → later_of m (b + 1) c ≡ later_of m a (later_of m (b + 1) c)
    latest a b c le = grind arith

    latest_none : (a : ℕ) → a ≡ later_of m a 0
    latest_none a = grind arith

    changed_on : (p : ℕ) (e : Entry) (hs : List (DoneOf m)) (h : Bool) → p < n → changes m (done_at m p e) o k ≡ h
        → changed m (done_at m p e ∷ hs) o k n ≡ (if h then later_of m (p + 1) (changed m hs o k n) else changed m hs o k n)
    unfolding changed
    changed_on p e hs h less is =
        ap (λ (b : Bool). if b && changes m (done_at m p e) o k then later_of m (p + 1) (changed m hs o k n) else changed m hs o k n) (of_lt p n less)
        ∙ ap (λ (b : Bool). if b then later_of m (p + 1) (changed m hs o k n) else changed m hs o k n) is

    -- the change of a record that commits
    made_by : (x : ℕ × Entry) (xs : Ledger m) (h : Bool) (v : ℕ) (hs : List (DoneOf m)) → version_in m o k xs ≤ x.0 → x.0 < n → changes m (done_at m x.0 x.1) o k ≡ h
        → version_in m o k (with_writes m x.0 (writes_of x.1) xs) ≡ (if h then x.0 + 1 else version_in m o k xs)
        → (version_in m o k (with_writes m x.0 (writes_of x.1) xs) ≤ x.0 + 1 → v ≡ later_of m (version_in m o k (with_writes m x.0 (writes_of x.1) xs)) (changed m hs o k n))
        → v ≡ later_of m (version_in m o k xs) (changed m (done_at m x.0 x.1 ∷ hs) o k n)
    made_by x xs true v hs le less is new rest =
        rest (omega (arith, new))
        ∙ (ap (λ (a : ℕ). later_of m a (changed m hs o k n)) new
        ∙ (latest (version_in m o k xs) x.0 (changed m hs o k n) le
        ∙ ap (λ (c : ℕ). later_of m (version_in m o k xs) c) (sym (changed_on x.0 x.1 hs true less is))))
    made_by x xs false v hs le less is new rest =
        rest (omega (arith, new, le))
        ∙ (ap (λ (a : ℕ). later_of m a (changed m hs o k n)) new
        ∙ ap (λ (c : ℕ). later_of m (version_in m o k xs) c) (sym (changed_on x.0 x.1 hs false less is)))

    made : (x : ℕ × Entry) (xs : Ledger m) (b : Bool) (v : ℕ) (hs : List (DoneOf m)) → version_in m o k xs ≤ x.0 → x.0 < n
        → ((w : WriteOp) → Has (writes_of x.1) w → (op : m.op) × (m.read w.oid w.op ≡ Some op))
        → (version_in m o k (if b then with_writes m x.0 (writes_of x.1) xs else xs) ≤ x.0 + 1 → v ≡ later_of m (version_in m o k (if b then with_writes m x.0 (writes_of x.1) xs else xs)) (changed m hs o k n))
        → v ≡ later_of m (version_in m o k xs) (changed m (done_if m b x.0 x.1 hs) o k n)
    made x xs true v hs le less spelled rest =
        made_by x xs (hits (writes_of x.1)) v hs le less (changes_are (writes_of x.1) spelled) (version_with x.0 (writes_of x.1) xs) rest
    made x xs false v hs le less spelled rest = rest (omega (arith, le))

    version_made : (r : ℕ) (es : Entries) (xs : Ledger m) → rise_from r es ≡ true → version_in m o k xs ≤ r → Spelled es
        → version_in m o k (below m xs es n) ≡ later_of m (version_in m o k xs) (changed m (history_after m (noted m xs) es) o k n)
    unfolding changed below
    version_made r [] xs rise le spelled = latest_none (version_in m o k xs)
    version_made r (x ∷ es) xs rise le spelled =
        by (nat_lt x.0 n) refl
        (λ most. version_made (x.0 + 1) es (after m xs x.0 x.1) (rises_next r x es rise).1 most (λ p e w i j. spelled p e w (inr i) j)
        ∙ ap (λ (ns : List PartVersion). later_of m (version_in m o k (after m xs x.0 x.1)) (changed m (history_after m ns es) o k n)) (noted_after m x.0 x.1 xs))
      where
        by : (b : Bool) → nat_lt x.0 n ≡ b
            → (version_in m o k (after m xs x.0 x.1) ≤ x.0 + 1
            → version_in m o k (below m (after m xs x.0 x.1) es n) ≡ later_of m (version_in m o k (after m xs x.0 x.1)) (changed m (history_after m (changes_after m (noted m xs) x.0 x.1) es) o k n))
            → version_in m o k (if b then below m (after m xs x.0 x.1) es n else xs) ≡ later_of m (version_in m o k xs) (changed m (history_after m (noted m xs) (x ∷ es)) o k n)
        by true e rest =
            let first = (rises_next r x es rise).0 in
            made x xs (commits_after m (noted m xs) x.1) (version_in m o k (below m (after m xs x.0 x.1) es n)) (history_after m (changes_after m (noted m xs) x.0 x.1) es) (omega (arith, first, le))
            (lt_of x.0 n e) (λ w j. spelled x.0 x.1 w (inl refl) j) rest
        by false e rest = latest_none (version_in m o k xs) ∙ ap (λ (c : ℕ). later_of m (version_in m o k xs) c) (sym (none_changed x.0 (x ∷ es) (noted m xs) (rises_here r x es rise) (not_lt x.0 n e)))

zero_latest : (m : Meaning) (c : ℕ) → later_of m 0 c ≡ c
zero_latest m c = grind arith

pub versions_are_changes : (m : Meaning) → VersionsAreChanges m
versions_are_changes m objects es n o k rising spelled =
    sym (version_at m objects es rising n o k)
    ∙ (version_made m o k n 0 es [] rising (omega arith) (λ p e w i j. spelled p e (contained_has es (p, e) i) w (contained_has (writes_of e) w j))
    ∙ zero_latest m (changed m (history_after m [] es) o k n))
