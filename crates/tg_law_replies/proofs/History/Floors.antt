-- A floor says that each object that was registered before is marked.
use Rattle.std.proofs.Common.{◌≡◌, ◌⊎◌, ℕ, ◌<◌, ◌≤◌, List, [], ◌∷◌, Bool, true, false, refl, sym, ap, ◌∙◌, subst, inl, inr, arith, Option, Some, None, Contains}
use Rattle.std.specs.Prelude.{◌≢◌, ◌==◌}
use Rattle.tg_base.specs.declared.ids.Oid.{Oid}
use Rattle.tg_entry.specs.declared.entry.WriteOp.{WriteOp}
use Rattle.tg_entry.specs.declared.entry.Entry.{Entry}
use Rattle.tg_kind.specs.Meaning.{Meaning}
use Rattle.tg_protocol.specs.Words.{directory}
use Rattle.tg_base.specs.Orders.{oid_eq}
use Rattle.tg_entry.specs.Needs.{writes_of}
use Rattle.tg_protocol.specs.Entries.{lists}
use Rattle.tg_protocol.specs.Views.{Entries}
use Rattle.tg_protocol.specs.Logs.{commits_after}
use Rattle.tg_law_replies.specs.Plays.Sound.{IsRising}
use Rattle.tg_law_replies.specs.History.Logs.{state_below}
use Rattle.tg_law_replies.specs.History.Loading.{AreOpsOf}
use Rattle.tg_law_replies.specs.History.Floors.{IsDirectory, HasMark, IsCheckpointed, MarksAreKept, AreRegistered, FloorsAreMarked, FloorsAreSafe}
use Rattle.tg_law_replies.proofs.History.Members.{Has, contained_has, same_oid, same_number, number_same}
use Rattle.tg_law_replies.proofs.History.Ledger.{Ledger, noted, none_below, grow, grow_from}
use Rattle.tg_law_replies.proofs.History.Versions.{at, commits_at}
use Rattle.tg_law_replies.proofs.History.States.{op_on, state_after, state_on, state_off, state_at_is}

differ_or : (a b : ℕ) → (a ≡ b) ⊎ (a ≢ b)
differ_or a b = by (a == b) refl
  where
    by : (t : Bool) → (a == b) ≡ t → (a ≡ b) ⊎ (a ≢ b)
    by true e = inl (same_number a b e)
    by false e = inr (λ s. not_both (sym (number_same a b s) ∙ e))
      where
        not_both : true ≡ false → ⊥
        not_both z = cc

module _ (m : Meaning) (is_object : Oid → Bool) (is_op : m.op → Bool) (d : IsDirectory m is_object is_op) (objects : List Oid) (es : Entries) (rising : IsRising es) (ops : AreOpsOf m is_op es) (n : ℕ) (o : Oid) where
  abbrev dir : Ledger m → m.state
  dir ys = state_after m objects directory ys

  abbrev Marked : ℕ → Type 0
  Marked least = HasMark m is_object objects es o least n

  less_marked : (a b : ℕ) → a ≤ b → Marked b → Marked a
  less_marked a b le h = record {
    at = h.at;
    entry = h.entry;
    write = h.write;
    mark = h.mark;
    here = h.here;
    before = h.before;
    commit = h.commit;
    writes = h.writes;
    to = h.to;
    is = h.is;
    object = h.object;
    reaches = let r = h.reaches in omega (arith, le, r);
  }

  -- the object's mark is 0, or that of a committed op
  abbrev IsMarked : m.state → Type 0
  IsMarked s = (d.mark_of s o ≡ 0) ⊎ Marked (d.mark_of s o)

  op_marked : (p : ℕ) (e : Entry) (w : WriteOp) (s : m.state) (op : m.op) → Has es (p, e) → p < n → commits_after m (noted m (at m objects es rising p)) e ≡ true → Has (writes_of e) w → w.oid ≡ directory
      → m.read w.oid w.op ≡ Some op → IsMarked s → IsMarked (m.apply s op)
  op_marked p e w s op i less c j to is h = by (differ_or (d.mark_of (m.apply s op) o) (d.mark_of s o))
    where
      by : (d.mark_of (m.apply s op) o ≡ d.mark_of s o) ⊎ (d.mark_of (m.apply s op) o ≢ d.mark_of s o) → IsMarked (m.apply s op)
      by (inl same) = subst (λ (k : ℕ). (k ≡ 0) ⊎ Marked k) (sym same) h
      by (inr new) =
          let k = d.marks s op o (ops p e w op (contained_has es (p, e) i) (contained_has (writes_of e) w j) is) new in
          inr (record {
            at = p;
            entry = e;
            write = w;
            mark = d.mark_of (m.apply s op) o;
            here = contained_has es (p, e) i;
            before = less;
            commit = sym (commits_at m objects es rising p e) ∙ c;
            writes = contained_has (writes_of e) w j;
            to = to;
            is = ap (λ (y : Oid). m.read y w.op) (sym to) ∙ (is ∙ ap (λ (x : m.op). Some x) k.0);
            object = k.1;
            reaches = omega arith;
          })

  -- since a position: the object stays registered, and where the floor has risen it is marked
  pub record IsSince (f : ℕ) (s : m.state) : Type 0 where
    pub listed : m.registered s o ≡ true
    pub mark : IsMarked s
    pub floor : (m.floor s ≡ f) ⊎ Marked (m.floor s)

  op_since : (f p : ℕ) (e : Entry) (w : WriteOp) (s : m.state) (op : m.op) → Has es (p, e) → p < n → commits_after m (noted m (at m objects es rising p)) e ≡ true → Has (writes_of e) w → w.oid ≡ directory
      → m.read w.oid w.op ≡ Some op → IsSince f s → IsSince f (m.apply s op)
  op_since f p e w s op i less c j to is h = record { listed = listed; mark = mark; floor = by (differ_or (m.floor (m.apply s op)) (m.floor s)) }
    where
      listed : m.registered (m.apply s op) o ≡ true
      listed = d.stays s op o h.listed

      mark : IsMarked (m.apply s op)
      mark = op_marked p e w s op i less c j to is h.mark

      up : m.floor (m.apply s op) ≢ m.floor s → m.floor (m.apply s op) ≤ d.mark_of (m.apply s op) o → IsMarked (m.apply s op) → (m.floor (m.apply s op) ≡ f) ⊎ Marked (m.floor (m.apply s op))
      up new le (inr k) = inr (less_marked (m.floor (m.apply s op)) (d.mark_of (m.apply s op) o) le k)
      up new le (inl none) = let never = d.never_falls s op in absurd (new (omega (arith, never, le, none)))

      by : (m.floor (m.apply s op) ≡ m.floor s) ⊎ (m.floor (m.apply s op) ≢ m.floor s) → (m.floor (m.apply s op) ≡ f) ⊎ Marked (m.floor (m.apply s op))
      by (inl same) = subst (λ (k : ℕ). (k ≡ f) ⊎ Marked k) (sym same) h.floor
      by (inr new) = up new (d.rises s op o new listed) mark

  -- a committed write changes the directory by its op, or not at all
  dir_step : (P : m.state → Type 0) (p : ℕ) (w : WriteOp) (ys : Ledger m) → ((op : m.op) → w.oid ≡ directory → m.read w.oid w.op ≡ Some op → P (dir ys) → P (m.apply (dir ys) op)) → P (dir ys) → P (dir ((p, w) ∷ ys))
  dir_step P p w ys step h = by (oid_eq w.oid directory) refl
    where
      read : w.oid ≡ directory → (x : Option m.op) → m.read w.oid w.op ≡ x → P (op_on m objects x (dir ys))
      read to None is = h
      read to (Some op) is = step op to is h

      by : (b : Bool) → oid_eq w.oid directory ≡ b → P (dir ((p, w) ∷ ys))
      by true e = subst P (sym (state_on m objects directory p w ys e)) (read (same_oid w.oid directory e) (m.read w.oid w.op) refl)
      by false e = subst P (sym (state_off m objects directory p w ys e)) h

  marked_at : (a : ℕ) → a ≤ n → IsMarked (dir (at m objects es rising a))
  marked_at a le =
      grow_from m (λ (ys : Ledger m). IsMarked (dir ys)) [] 0 es 0 a rising (omega arith)
      (λ p e w ys i low less c j h. dir_step IsMarked p w ys (λ op to is k. op_marked p e w (dir ys) op i (omega (arith, less, le)) c j to is k) h) (inl (d.first_mark objects o))

  since : (a : ℕ) → a ≤ n → m.registered (dir (at m objects es rising a)) o ≡ true → IsSince (m.floor (dir (at m objects es rising a))) (dir (at m objects es rising n))
  since a le listed =
      grow m (λ (ys : Ledger m). IsSince (m.floor (dir (at m objects es rising a))) (dir ys)) [] 0 es a n rising le
      (λ p e w ys i low less c j h. dir_step (IsSince (m.floor (dir (at m objects es rising a)))) p w ys (λ op to is k. op_since (m.floor (dir (at m objects es rising a))) p e w (dir ys) op i less c j to is k) h)
      (record { listed = listed; mark = marked_at a le; floor = inl refl })

  pub floor_marked : (a : ℕ) → a ≤ n → m.registered (dir (at m objects es rising a)) o ≡ true → m.floor (dir (at m objects es rising a)) < m.floor (dir (at m objects es rising n)) → Marked (m.floor (dir (at m objects es rising n)))
  floor_marked a le listed more = by (since a le listed).floor
    where
      by : (m.floor (dir (at m objects es rising n)) ≡ m.floor (dir (at m objects es rising a))) ⊎ Marked (m.floor (dir (at m objects es rising n))) → Marked (m.floor (dir (at m objects es rising n)))
      by (inl same) = absurd (omega (arith, same, more))
      by (inr k) = k

pub floors_are_marked : (m : Meaning) → FloorsAreMarked m
floors_are_marked m is_object is_op d objects es a n o rising ops le listed more =
    let sa = state_at_is m objects es rising a directory in
    let sn = state_at_is m objects es rising n directory in
    subst (λ (s : m.state). HasMark m is_object objects es o (m.floor s) n) (sym sn)
    (floor_marked m is_object is_op d objects es rising ops n o a le (ap (λ (s : m.state). m.registered s o) (sym sa) ∙ listed)
    (subst (λ (s : m.state). m.floor s < m.floor (state_after m objects directory (at m objects es rising n))) sa (subst (λ (s : m.state). m.floor (state_below m objects es a directory) < m.floor s) sn more)))

-- What stands below a floor is saved.

module _ (m : Meaning) (is_object : Oid → Bool) (is_op : m.op → Bool) (d : IsDirectory m is_object is_op) (objects : List Oid) (es : Entries) (rising : IsRising es) (ops : AreOpsOf m is_op es) (kept : MarksAreKept m is_object objects es) where
  abbrev floor : ℕ → ℕ
  floor n = m.floor (state_below m objects es n directory)

  kept_by : (o : Oid) (f n : ℕ) → HasMark m is_object objects es o f n → IsCheckpointed m is_object objects es o f n
  kept_by o f n h =
      let c = kept h.at h.entry h.write o h.mark h.object h.here h.commit h.writes h.to h.is in
      let low = c.before in let up = h.before in let r = c.reaches in let k = h.reaches in
      record { at = c.at; entry = c.entry; base = c.base; here = c.here; before = omega (arith, low, up); saves = c.saves; reaches = omega (arith, r, k); earlier = c.earlier }

  first : state_below m objects es 0 directory ≡ m.fresh directory objects
  first = state_at_is m objects es rising 0 directory ∙ ap (λ (xs : Ledger m). state_after m objects directory xs) (none_below m [] 0 es 0 rising (omega arith))

  -- no floor is above its position
  low_floor : (n : ℕ) → floor n ≤ n
  low_floor n = by (zero_or (floor n))
    where
      zero_or : (f : ℕ) → (f ≡ 0) ⊎ (0 < f)
      zero_or f = grind arith

      by : (floor n ≡ 0) ⊎ (0 < floor n) → floor n ≤ n
      by (inl z) = omega (arith, z)
      by (inr more) =
          let none : m.floor (state_below m objects es 0 directory) ≡ 0 = ap (λ (s : m.state). m.floor s) first ∙ d.first_floor objects in
          let c = kept_by directory (floor n) n (floors_are_marked m is_object is_op d objects es 0 n directory rising ops (omega arith) (ap (λ (s : m.state). m.registered s directory) first ∙ d.first_listed objects) (omega (arith, none, more))) in
          let r = c.reaches in let e = c.earlier in let b = c.before in
          omega (arith, r, e, b)

  pub safe : (n q : ℕ) (e : Entry) (o : Oid) → AreRegistered m is_object objects es → Contains es (q, e) → lists e o ≡ true → q < floor n → IsCheckpointed m is_object objects es o (floor n) n
  safe n q e o listed i l less =
      let a = listed q e o i l in
      let low = low_floor a.0 in let up = low_floor n in let le = a.1 in
      kept_by o (floor n) n (floors_are_marked m is_object is_op d objects es a.0 n o rising ops (omega (arith, le, less, up)) a.2 (omega (arith, low, le, less)))

pub floors_are_safe : (m : Meaning) → FloorsAreSafe m
floors_are_safe m is_object is_op d objects es n q e o rising ops kept listed i l less = (low_floor m is_object is_op d objects es rising ops kept n, safe m is_object is_op d objects es rising ops kept n q e o listed i l less)
