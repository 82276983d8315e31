-- Hosted objects, and writes of them.
use Rattle.std.specs.Prelude.{◌≡◌, ℕ, ◌+◌, ◌≤◌, Bool, true, false, cond, nat_lt, List, [], ◌∷◌, Option, Some, None, refl}
use Rattle.std.specs.BTreeMap.{insert_entry, is_at}
use Rattle.std.specs.Cmp.{IsTotalOrder, nat_cmp_total, unsigned_ties, unsigned_Decides, on_total}
use Rattle.std.specs.List.Sorted.{IsStrictlySortedBy}
use Rattle.std.specs.Map.{keys_of, remove_entry, set_value}
use Rattle.std.specs.Ordering.{is_eq}
use Rattle.std.proofs.Common.{sym, ap, ◌∙◌, subst, arith}
use Rattle.std.proofs.lemmas.Bool.Decides.{nat_tests}
use Rattle.tg_base.specs.Orders.{oid_cmp, oid_eq}
use Rattle.tg_base.specs.declared.ids.Oid.{Oid}
use Rattle.tg_base.specs.declared.marks.Part.{Part}
use Rattle.tg_base.specs.declared.marks.ReadMark.{ReadMark}
use Rattle.tg_entry.specs.declared.entry.WriteOp.{WriteOp}
use Rattle.tg_kind.specs.Meaning.{Meaning}
use Rattle.tg_protocol.specs.Versions.{Based, PartVersion, version_of, with_change}
use Rattle.tg_protocol.specs.Views.{Base, View, base_of, state_in, state_of, past, plays, with_state, set_state, applied, touched, note, write_by, write, version_by, played_versions}
use Rattle.tg_vers.specs.Kept.{Objects, Keeps}
use Rattle.tg_vers.proofs.Lookups.{lookup_put, lookup_taken}
use Rattle.tg_play.specs.declared.hosted.Hosted.{Hosted}
use Rattle.tg_play.specs.Kept.{Hosts, Kept, hosted_of, own_noted, own}
use Rattle.tg_play.specs.Relations.{KeepsHosted, KeepsObject, KeepsObjects, written_state, written_noted}
use Rattle.tg_play.proofs.Own.{own_other, own_same}
use Rattle.tg_vers.proofs.Placing.{put_back}

-- ---- objects by number

pub oid_total : IsTotalOrder oid_cmp
oid_total = on_total (λ (o : Oid). o.0) nat_cmp_total

pub oid_eq_is : (o q : Oid) → oid_eq o q ≡ is_eq (oid_cmp o q)
oid_eq_is o q = unsigned_ties o.0 q.0

pub same_oid : (o q : Oid) → oid_eq o q ≡ true → o ≡ q
same_oid o q e = let is : o.0 ≡ q.0 = (unsigned_Decides o.0 q.0).0 e in λ i. record { 0 = is i }

-- an object that is taken out and put in again is one that is changed where it stands
pub hosted_back : {S : Type 0} (o : Oid) (g h : Hosted S) (hs : Hosts S) → IsStrictlySortedBy oid_cmp (keys_of hs) → hosted_of hs o ≡ Some g
    → insert_entry oid_cmp (remove_entry (is_at (oid_cmp o)) hs) o h ≡ set_value (is_at (oid_cmp o)) hs h
hosted_back o g h hs sorted found = put_back oid_total (λ a b e. same_oid a b (oid_eq_is a b ∙ ap is_eq e)) o g h hs sorted found

pub oid_itself : (o : Oid) → oid_eq o o ≡ true
oid_itself o = grind arith

trans_differs : (a b c : Oid) → oid_eq a b ≡ true → oid_eq b c ≡ false → oid_eq a c ≡ false
trans_differs a b c p q = grind arith

is_not_less : (p n : ℕ) → n ≤ p → nat_lt p n ≡ false
is_not_less p n h = grind (arith, nat_tests)

-- a change that is noted of an object is one of its own
pub changed_keeps : (o : Oid) (h : Objects) (b : Option Based) (ns : List PartVersion) (k j : Part) (p : ℕ) → k ≡ j → Keeps h (with_change (own b o ns) o k p)
    → Keeps h (own b o (record { oid = o; part = j; version = p + 1 } ∷ ns))
unfolding with_change
changed_keeps o h b ns k j p same keeps =
    subst (λ (xs : List PartVersion). Keeps h (record { base = b; noted = xs })) (sym (own_same (record { oid = o; part = j; version = p + 1 }) ns o (oid_itself o)))
    (subst (λ (i : Part). Keeps h (record { base = b; noted = record { oid = o; part = i; version = p + 1 } ∷ own_noted o ns })) same keeps)

module _ (m : Meaning) where
  -- ---- states

  other_state : (xs : List (Oid × m.state)) (p o : Oid) (s : m.state) → oid_eq p o ≡ false → state_in m (with_state m xs p s) o ≡ state_in m xs o
  other_state [] p o s e = refl
  other_state (x ∷ xs) p o s e = by (oid_eq x.0 p) refl (other_state xs p o s e)
    where
      by : (b : Bool) → oid_eq x.0 p ≡ b → state_in m (with_state m xs p s) o ≡ state_in m xs o → state_in m (cond b ((p, s) ∷ xs) (x ∷ with_state m xs p s)) o ≡ state_in m (x ∷ xs) o
      by true same rest =
          ap (λ (t : Bool). cond t (Some s) (state_in m xs o)) e
          ∙ sym (ap (λ (t : Bool). cond t (Some x.1) (state_in m xs o)) (trans_differs x.0 p o same e))
      by false same rest = ap (λ (y : Option m.state). cond (oid_eq x.0 o) (Some x.1) y) rest

  own_state : (xs : List (Oid × m.state)) (o : Oid) (s t : m.state) → state_in m xs o ≡ Some t → state_in m (with_state m xs o s) o ≡ Some s
  own_state [] o s t e = absurd (none e)
    where
      none : None ≡ Some t → ⊥
      none h = cc
  own_state (x ∷ xs) o s t e = by (oid_eq x.0 o) refl (own_state xs o s t) e
    where
      by : (b : Bool) → oid_eq x.0 o ≡ b → (state_in m xs o ≡ Some t → state_in m (with_state m xs o s) o ≡ Some s) → cond b (Some x.1) (state_in m xs o) ≡ Some t
          → state_in m (cond b ((o, s) ∷ xs) (x ∷ with_state m xs o s)) o ≡ Some s
      by true same rest h = ap (λ (b : Bool). cond b (Some s) (state_in m xs o)) (oid_itself o)
      by false same rest h = ap (λ (b : Bool). cond b (Some x.1) (state_in m (with_state m xs o s) o)) same ∙ rest h

  pub applied_on : (op : Option m.op) (s : Option m.state) (t u : m.state) → s ≡ Some t → Some u ≡ applied m op (Some t) → applied m op s ≡ Some u
  applied_on op s t u is made = ap (λ (x : Option m.state). applied m op x) is ∙ sym made

  -- ---- what is hosted

  pub record Found (o : Oid) (h : Hosted m.state) (v : View m) : Type 0 where
    pub base : Base m
    pub is : base_of m v o ≡ Some base
    pub keeps : KeepsHosted m o h base (state_of m v o) v.noted

  pub hosted : (hs : Hosts m.state) (v : View m) (o : Oid) (h : Hosted m.state) → KeepsObjects m hs v → hosted_of hs o ≡ Some h → Found o h v
  hosted hs v o h keeps e = by (base_of m v o) refl (subst (λ (x : Option (Hosted m.state)). KeepsObject m o x (base_of m v o) (state_of m v o) v.noted) e (keeps.each o))
    where
      by : (b : Option (Base m)) → base_of m v o ≡ b → KeepsObject m o (Some h) b (state_of m v o) v.noted → Found o h v
      by None is k = absurd k
      by (Some b) is k = record { base = b; is = is; keeps = k }

  pub unhosted : (hs : Hosts m.state) (v : View m) (o : Oid) → KeepsObjects m hs v → hosted_of hs o ≡ None → (base_of m v o ≡ None) × (state_of m v o ≡ None)
  unhosted hs v o keeps e = by (base_of m v o) (subst (λ (x : Option (Hosted m.state)). KeepsObject m o x (base_of m v o) (state_of m v o) v.noted) e (keeps.each o))
    where
      by : (b : Option (Base m)) → KeepsObject m o None b (state_of m v o) v.noted → (b ≡ None) × (state_of m v o ≡ None)
      by None k = (refl, k)
      by (Some b) k = absurd k

  pub at_none : {A : Type 0} (F : Option (Base m) → A) (hs : Hosts m.state) (v : View m) (o : Oid) → KeepsObjects m hs v → None ≡ hosted_of hs o → F None ≡ F (base_of m v o)
  at_none F hs v o keeps e = ap F (sym (unhosted hs v o keeps (sym e)).0)

  pub at_some : {A : Type 0} (F : Option (Base m) → A) (n : A) (hs : Hosts m.state) (v : View m) (o : Oid) (h : Hosted m.state) → KeepsObjects m hs v → Some h ≡ hosted_of hs o
      → ((b : Base m) → KeepsHosted m o h b (state_of m v o) v.noted → n ≡ F (Some b)) → n ≡ F (base_of m v o)
  at_some F n hs v o h keeps e is =
      let f = hosted hs v o h keeps (sym e) in
      is f.base f.keeps ∙ ap F (sym f.is)

  pub some_holds : (P : Option (Base m) → Type 0) (hs : Hosts m.state) (v : View m) (o : Oid) (h : Hosted m.state) → KeepsObjects m hs v → Some h ≡ hosted_of hs o
      → ((b : Base m) → KeepsHosted m o h b (state_of m v o) v.noted → P (Some b)) → P (base_of m v o)
  some_holds P hs v o h keeps e is =
      let f = hosted hs v o h keeps (sym e) in
      subst P (sym f.is) (is f.base f.keeps)

  pub state_none : (hs : Hosts m.state) (v : View m) (o : Oid) → KeepsObjects m hs v → None ≡ hosted_of hs o → None ≡ state_of m v o
  state_none hs v o keeps e = sym (unhosted hs v o keeps (sym e)).1

  pub state_some : (hs : Hosts m.state) (v : View m) (o : Oid) (h : Hosted m.state) → KeepsObjects m hs v → Some h ≡ hosted_of hs o → Some h.state ≡ state_of m v o
  state_some hs v o h keeps e = let f = hosted hs v o h keeps (sym e) in sym f.keeps.state

  -- the objects of a view's fields are those of the view
  pub objects_in : (c d : Kept m.state) (v : View m) → c ≡ d → KeepsObjects m d.objects v → KeepsObjects m c.objects v
  objects_in c d v e k = subst (λ (x : Kept m.state). KeepsObjects m x.objects v) (sym e) k

  -- ---- versions at a position

  pub played_at : (v : View m) (b : Base m) (r : ReadMark) (p n : ℕ) → past m b p ≡ false → n ≡ version_of (played_versions m v b) r.oid r.part → n ≡ version_by m v p (Some b) r
  played_at v b r p n e is =
      is
      ∙ ap (λ (t : Bool). cond t (version_of b.versions r.oid r.part) (version_of (played_versions m v b) r.oid r.part)) (sym e)

  pub not_past : (p : ℕ) (b : Base m) (n : ℕ) → n ≡ b.upto → n ≤ p → past m b p ≡ false
  not_past p b n e h = let le : b.upto ≤ p = subst (λ (k : ℕ). k ≤ p) e h in is_not_less p b.upto le

  -- ---- a write

  abbrev after : View m → Oid → Option m.state → Part → ℕ → View m
  after v y s k p = note m (set_state m v y s) y k p

  same_base : (v : View m) (y : Oid) (s : Option m.state) (k : Part) (p : ℕ) (o : Oid) → base_of m (after v y s k p) o ≡ base_of m v o
  same_base v y None k p o = refl
  same_base v y (Some s) k p o = refl

  more_noted : (v : View m) (y : Oid) (s : Option m.state) (k : Part) (p : ℕ) → (after v y s k p).noted ≡ record { oid = y; part = k; version = p + 1 } ∷ v.noted
  more_noted v y None k p = refl
  more_noted v y (Some s) k p = refl

  other_told : (v : View m) (y : Oid) (s : Option m.state) (k : Part) (p : ℕ) (o : Oid) → oid_eq y o ≡ false → state_of m (after v y s k p) o ≡ state_of m v o
  other_told v y None k p o e = refl
  other_told v y (Some s) k p o e = other_state v.states y o s e

  own_told : (v : View m) (y : Oid) (s : Option m.state) (k : Part) (p : ℕ) (t u : m.state) → state_of m v y ≡ Some t → s ≡ Some u → state_of m (after v y s k p) y ≡ s
  own_told v y None k p t u has is = absurd (none is)
    where
      none : None ≡ Some u → ⊥
      none h = cc
  own_told v y (Some s) k p t u has is = own_state v.states y s t has

  other_keeps : (o : Oid) (x : Option (Hosted m.state)) (b : Option (Base m)) (s t : Option m.state) (ns : List PartVersion) (n : PartVersion) → t ≡ s → oid_eq n.oid o ≡ false
      → KeepsObject m o x b s ns → KeepsObject m o x b t (n ∷ ns)
  other_keeps o None None s t ns n is e k = is ∙ k
  other_keeps o None (Some b) s t ns n is e k = absurd k
  other_keeps o (Some h) None s t ns n is e k = absurd k
  other_keeps o (Some h) (Some b) s t ns n is e k = record {
    state = is ∙ k.state;
    base = k.base;
    upto = k.upto;
    noted = subst (λ (ms : List PartVersion). Keeps h.noted (record { base = b.versions.base; noted = ms })) (sym (own_other n ns o e)) k.noted;
  }

  -- the object that is written is put back, the others stay
  module _ (hs new : Hosts m.state) (y : Oid) (h : Hosted m.state) (put : new ≡ insert_entry oid_cmp (remove_entry (is_at (oid_cmp y)) hs) y h) where
    there : (o : Oid) → hosted_of new o ≡ cond (oid_eq y o) (Some h) (hosted_of (remove_entry (is_at (oid_cmp y)) hs) o)
    there o =
        ap (λ (xs : Hosts m.state). hosted_of xs o) put
        ∙ lookup_put oid_total (remove_entry (is_at (oid_cmp y)) hs) y o h
        ∙ ap (λ (t : Bool). cond t (Some h) (hosted_of (remove_entry (is_at (oid_cmp y)) hs) o)) (sym (oid_eq_is y o))

    there_own : (o : Oid) → oid_eq y o ≡ true → hosted_of new o ≡ Some h
    there_own o e = there o ∙ ap (λ (t : Bool). cond t (Some h) (hosted_of (remove_entry (is_at (oid_cmp y)) hs) o)) e

    there_other : (o : Oid) → oid_eq y o ≡ false → hosted_of new o ≡ hosted_of hs o
    there_other o e =
        there o
        ∙ ap (λ (t : Bool). cond t (Some h) (hosted_of (remove_entry (is_at (oid_cmp y)) hs) o)) e
        ∙ lookup_taken oid_total hs y o (sym (oid_eq_is y o) ∙ e)

    -- where nothing is played, and where something is

    own_as : (v w : View m) (b : Base m) → base_of m w y ≡ Some b → KeepsHosted m y h b (state_of m w y) w.noted → (o : Oid) → oid_eq y o ≡ true
        → KeepsObject m o (hosted_of new o) (base_of m w o) (state_of m w o) w.noted
    own_as v w b is k o e =
        subst (λ (q : Oid). KeepsObject m q (hosted_of new q) (base_of m w q) (state_of m w q) w.noted) (same_oid y o e)
        (subst (λ (x : Option (Hosted m.state)). KeepsObject m y x (base_of m w y) (state_of m w y) w.noted) (sym (there_own y (oid_itself y)))
        (subst (λ (c : Option (Base m)). KeepsObject m y (Some h) c (state_of m w y) w.noted) (sym is) k))

    pub unplayed_keeps : (v : View m) (b : Base m) → base_of m v y ≡ Some b → KeepsObjects m hs v → KeepsHosted m y h b (state_of m v y) v.noted → KeepsObjects m new v
    unplayed_keeps v b is keeps k = record { each = λ o. by o (oid_eq y o) refl }
      where
        by : (o : Oid) (t : Bool) → oid_eq y o ≡ t → KeepsObject m o (hosted_of new o) (base_of m v o) (state_of m v o) v.noted
        by o true e = own_as v v b is k o e
        by o false e = subst (λ (x : Option (Hosted m.state)). KeepsObject m o x (base_of m v o) (state_of m v o) v.noted) (sym (there_other o e)) (keeps.each o)

    pub played_keeps : (v : View m) (b : Base m) (s : Option m.state) (k : Part) (p : ℕ) (t : m.state) → base_of m v y ≡ Some b → state_of m v y ≡ Some t → KeepsObjects m hs v
        → KeepsHosted m y h b s (record { oid = y; part = k; version = p + 1 } ∷ v.noted) → KeepsObjects m new (after v y s k p)
    played_keeps v b s k p t is has keeps mine = record { each = λ o. by o (oid_eq y o) refl }
      where
        own_keeps : KeepsHosted m y h b (state_of m (after v y s k p) y) (after v y s k p).noted
        own_keeps =
            subst (λ (ns : List PartVersion). KeepsHosted m y h b (state_of m (after v y s k p) y) ns) (sym (more_noted v y s k p))
            (subst (λ (u : Option m.state). KeepsHosted m y h b u (record { oid = y; part = k; version = p + 1 } ∷ v.noted)) (sym (own_told v y s k p t h.state has mine.state)) mine)

        by : (o : Oid) (e : Bool) → oid_eq y o ≡ e → KeepsObject m o (hosted_of new o) (base_of m (after v y s k p) o) (state_of m (after v y s k p) o) (after v y s k p).noted
        by o true e = own_as v (after v y s k p) b (same_base v y s k p y ∙ is) own_keeps o e
        by o false e =
            subst (λ (ns : List PartVersion). KeepsObject m o (hosted_of new o) (base_of m (after v y s k p) o) (state_of m (after v y s k p) o) ns) (sym (more_noted v y s k p))
            (subst (λ (c : Option (Base m)). KeepsObject m o (hosted_of new o) c (state_of m (after v y s k p) o) (record { oid = y; part = k; version = p + 1 } ∷ v.noted)) (sym (same_base v y s k p o))
            (subst (λ (x : Option (Hosted m.state)). KeepsObject m o x (base_of m v o) (state_of m (after v y s k p) o) (record { oid = y; part = k; version = p + 1 } ∷ v.noted)) (sym (there_other o e))
            (other_keeps o (hosted_of hs o) (base_of m v o) (state_of m v o) (state_of m (after v y s k p) o) v.noted (record { oid = y; part = k; version = p + 1 }) (other_told v y s k p o e) e (keeps.each o))))

  -- a write of a hosted object
  pub write_keeps : (hs new : Hosts m.state) (v : View m) (w : WriteOp) (p : ℕ) (g h : Hosted m.state) → KeepsObjects m hs v → hosted_of hs w.oid ≡ Some g
      → ((b : Base m) → KeepsHosted m w.oid g b (state_of m v w.oid) v.noted → KeepsHosted m w.oid h b (written_state m p w b (state_of m v w.oid)) (written_noted m p w b v.noted))
      → new ≡ insert_entry oid_cmp (remove_entry (is_at (oid_cmp w.oid)) hs) w.oid h → KeepsObjects m new (write m p v w)
  write_keeps hs new v w p g h keeps has made put =
      subst (λ (c : Option (Base m)). KeepsObjects m new (cond (plays m p c) (write_by m v p w (m.read w.oid w.op)) v)) (sym f.is)
      (by (plays m p (Some f.base)) (made f.base f.keeps))
    where
      f : Found w.oid g v
      f = hosted hs v w.oid g keeps has

      by : (t : Bool) → KeepsHosted m w.oid h f.base (cond t (applied m (m.read w.oid w.op) (state_of m v w.oid)) (state_of m v w.oid)) (cond t (record { oid = w.oid; part = touched m (m.read w.oid w.op); version = p + 1 } ∷ v.noted) v.noted)
          → KeepsObjects m new (cond t (write_by m v p w (m.read w.oid w.op)) v)
      by true k = played_keeps hs new w.oid h put v f.base (applied m (m.read w.oid w.op) (state_of m v w.oid)) (touched m (m.read w.oid w.op)) p g.state f.is f.keeps.state keeps k
      by false k = unplayed_keeps hs new w.oid h put v f.base f.is keeps k
