-- The bases of a new view are true where the checkpoints of the log are; and a world at its start is right.
use Rattle.std.proofs.Common.{◌≡◌, ◌⊎◌, ℕ, List, [], ◌∷◌, map, Bool, true, false, refl, sym, ap, ◌∙◌, subst, inl, inr, Option, Some, None}
use Rattle.std.specs.Prelude.{nat_le, if◌then◌else◌, ◌&&◌, ◌==◌, filter, cond}
use Rattle.tg_base.specs.declared.ids.Oid.{Oid}
use Rattle.tg_entry.specs.declared.entry.Body.{Body}
use Rattle.tg_entry.specs.declared.entry.Body.TheVariants.{Commit, Decision, Checkpoint}
use Rattle.tg_entry.specs.declared.entry.Entry.{Entry}
use Rattle.tg_kind.specs.Meaning.{Meaning}
use Rattle.tg_base.specs.Orders.{oid_eq}
use Rattle.tg_protocol.specs.Versions.{based, no_versions}
use Rattle.tg_protocol.specs.Views.{Entries, Base, fresh_base}
use Rattle.tg_protocol.specs.Checkpoints.{TrimPoints, trim_of, base_at, base_in, loaded, option_list, bases_in, lower, least_base, from_upto, load_from, base_or, base_by, view_base, view_bases}
use Rattle.tg_law_replies.specs.Plays.Sound.{IsRising, IsBase, AreBases, base_among}
use Rattle.tg_law_replies.proofs.History.Members.{has_either, has_kept, Has, same_oid}
use Rattle.tg_law_replies.specs.Views.Views.{IsTrueBase}
use Rattle.tg_law_replies.proofs.Views.Plays.{fresh_true}

module _ (m : Meaning) (objects : List Oid) (es : Entries) (rising : IsRising es) where
  pub record IsOfEntry (own : Entries) (o : Oid) (b : Base m) : Type 0 where
    pub at : ℕ
    pub entry : Entry
    pub here : Has own (at, entry)
    pub is : base_at m o entry ≡ Some b

  of_more : (x : ℕ × Entry) (own : Entries) (o : Oid) (b : Base m) → IsOfEntry own o b → IsOfEntry (x ∷ own) o b
  of_more x own o b h = record { at = h.at; entry = h.entry; here = inr h.here; is = h.is }

  pub in_entries : (own : Entries) (o : Oid) (b : Base m) → Has (bases_in m own o) b → IsOfEntry own o b
  unfolding bases_in
  in_entries [] o b i = absurd i
  in_entries (x ∷ own) o b i = by (base_at m o x.1) refl (has_either (option_list m (base_at m o x.1)) (bases_in m own o) b i) (λ j. in_entries own o b j)
    where
      by : (c : Option (Base m)) → base_at m o x.1 ≡ c → Has (option_list m c) b ⊎ Has (bases_in m own o) b → (Has (bases_in m own o) b → IsOfEntry own o b) → IsOfEntry (x ∷ own) o b
      by None is (inl j) rest = absurd j
      by (Some c) is (inl (inl e)) rest = record { at = x.0; entry = x.1; here = inl refl; is = is ∙ ap (λ (y : Base m). Some y) (sym e) }
      by (Some c) is (inl (inr j)) rest = absurd j
      by c is (inr j) rest = of_more x own o b (rest j)

  lower_is : (b : Base m) (bs : List (Base m)) (c : Base m) → lower m b (least_base m bs) ≡ c → ((d : Base m) → least_base m bs ≡ Some d → Has bs d) → Has (b ∷ bs) c
  lower_is b bs c e h = by (least_base m bs) refl e
    where
      by : (o : Option (Base m)) → least_base m bs ≡ o → lower m b o ≡ c → Has (b ∷ bs) c
      by None is k = inl (sym k)
      by (Some d) is k = if_low (nat_le b.upto d.upto) k
        where
          if_low : (t : Bool) → (if t then b else d) ≡ c → Has (b ∷ bs) c
          if_low true j = inl (sym j)
          if_low false j = inr (subst (λ (x : Base m). Has bs x) j (h d is))

  pub least_has : (bs : List (Base m)) (c : Base m) → least_base m bs ≡ Some c → Has bs c
  least_has [] c e = absurd (none e)
    where
      none : None ≡ Some c → ⊥
      none x = cc
  least_has (b ∷ bs) c e = lower_is b bs c (one e) (λ d is. least_has bs d is)
    where
      one : Some (lower m b (least_base m bs)) ≡ Some c → lower m b (least_base m bs) ≡ c
      one x = cc

  pub loaded_of : (own : Entries) (o : Oid) (below : ℕ) (b : Base m) → load_from m own o below ≡ Some b → IsOfEntry own o b
  unfolding load_from
  loaded_of own o below b is = in_entries own o b (has_kept (from_upto m below) (bases_in m own o) b (least_has (filter (from_upto m below) (bases_in m own o)) b is))

  none_is : (b : Base m) → None ≡ Some b → ⊥
  none_is b e = cc

  one_is : (a b : Base m) → Some a ≡ Some b → a ≡ b
  one_is a b e = cc

  -- a checkpoint's base is of the object that it was loaded for
  pub oid_loaded : (o : Oid) (b : Base m) (e : Entry) → base_at m o e ≡ Some b → b.oid ≡ o
  oid_loaded o b e is = by (e.head.format == 2) is
    where
      of_state : (u v w : ℕ) (keys : _) (s : Option m.state) → loaded m o u (based o v w keys) s ≡ Some b → b.oid ≡ o
      of_state u v w keys None k = absurd (none_is b k)
      of_state u v w keys (Some s) k = ap (λ (x : Base m). x.oid) (sym (one_is _ b k))

      of_body : (c : Body) → base_in m o c ≡ Some b → b.oid ≡ o
      of_body (Commit rs ws) k = absurd (none_is b k)
      of_body (Decision at w) k = absurd (none_is b k)
      of_body (Checkpoint p u v w keys bytes) k = inside (oid_eq o p && nat_le v u) k
        where
          inside : (t : Bool) → (if t then loaded m o u (based o v w keys) (m.load o bytes) else None) ≡ Some b → b.oid ≡ o
          inside true j = of_state u v w keys (m.load o bytes) j
          inside false j = absurd (none_is b j)

      by : (t : Bool) → (if t then base_in m o e.body else None) ≡ Some b → b.oid ≡ o
      by true k = of_body e.body k
      by false k = absurd (none_is b k)

  -- the base of an object in a new view
  pub record IsGoodBase (o : Oid) (b : Base m) : Type 0 where
    pub of : b.oid ≡ o
    pub so : IsTrueBase m objects es o b

  base_good : (own : Entries) (gone : TrimPoints) (o : Oid) → ((p : ℕ) (e : Entry) (x : Oid) (b : Base m) → Has own (p, e) → base_at m x e ≡ Some b → IsTrueBase m objects es x b) → IsGoodBase o (view_base m own gone objects o)
  unfolding view_base
  base_good own gone o good = by (trim_of gone o)
    where
      fresh : IsGoodBase o (fresh_base m objects o)
      fresh = record { of = refl; so = fresh_true m objects es o rising }

      from : (below : ℕ) (b : Option (Base m)) → load_from m own o below ≡ b → IsGoodBase o (base_or m objects o b)
      from below None is = fresh
      from below (Some b) is = let e = loaded_of own o below b is in record { of = oid_loaded o b e.entry e.is; so = good e.at e.entry o b e.here e.is }

      by : (t : Option ℕ) → IsGoodBase o (base_by m own objects o t)
      by None = fresh
      by (Some below) = from below (load_from m own o below) refl

  pub bases_good : (own : Entries) (gone : TrimPoints) (os : List Oid) → ((p : ℕ) (e : Entry) (x : Oid) (b : Base m) → Has own (p, e) → base_at m x e ≡ Some b → IsTrueBase m objects es x b) → (o : Oid) (b : Base m)
      → base_among m (view_bases m own gone objects os) o ≡ Some b → IsTrueBase m objects es o b
  unfolding view_bases
  bases_good own gone [] good o b is = absurd (none_is b is)
  bases_good own gone (x ∷ os) good o b is =
      by (oid_eq (view_base m own gone objects x).oid o) refl is (λ k. bases_good own gone os good o b k)
    where
      first : IsGoodBase x (view_base m own gone objects x)
      first = base_good own gone x good

      by : (t : Bool) → oid_eq (view_base m own gone objects x).oid o ≡ t → cond t (Some (view_base m own gone objects x)) (base_among m (map (view_base m own gone objects) os) o) ≡ Some b
          → (base_among m (map (view_base m own gone objects) os) o ≡ Some b → IsTrueBase m objects es o b) → IsTrueBase m objects es o b
      by true e k rest =
          subst (λ (y : Base m). IsTrueBase m objects es o y) (one_is (view_base m own gone objects x) b k)
          (subst (λ (y : Oid). IsTrueBase m objects es y (view_base m own gone objects x)) (sym first.of ∙ same_oid (view_base m own gone objects x).oid o e) first.so)
      by false e k rest = rest k

module _ (m : Meaning) (objects : List Oid) (es : Entries) (rising : IsRising es) where
  -- and lawful where those checkpoints are
  pub bases_lawful : (own : Entries) (gone : TrimPoints) (os : List Oid) → ((p : ℕ) (e : Entry) (x : Oid) (b : Base m) → Has own (p, e) → base_at m x e ≡ Some b → IsBase m b) → AreBases m (view_bases m own gone objects os)
  unfolding view_bases view_base no_versions
  bases_lawful own gone [] good = tt
  bases_lawful own gone (x ∷ os) good = (by (trim_of gone x), bases_lawful own gone os good)
    where
      from : (below : ℕ) (b : Option (Base m)) → load_from m own x below ≡ b → IsBase m (base_or m objects x b)
      from below None is = tt
      from below (Some b) is = let e = loaded_of m objects es rising own x below b is in good e.at e.entry x b e.here e.is

      by : (t : Option ℕ) → IsBase m (base_by m own objects x t)
      by None = tt
      by (Some below) = from below (load_from m own x below) refl
