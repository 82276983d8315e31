-- The bases of a client's view are of objects that it hosts: of a view that begins, and of one that has played.
use Rattle.std.proofs.Common.{◌≡◌, ℕ, ◌≤◌, arith, List, [], ◌∷◌, map, Bool, true, false, cond, refl, sym, ap, ◌∙◌, subst, inl, inr, Option, Some, None}
use Rattle.std.specs.Prelude.{Contains}
use Rattle.tg_base.specs.Orders.{oid_eq, with_oid}
use Rattle.tg_base.specs.declared.ids.Oid.{Oid}
use Rattle.tg_entry.specs.declared.entry.Entry.{Entry}
use Rattle.tg_kind.specs.Meaning.{Meaning}
use Rattle.tg_protocol.specs.Views.{Entries, Base, View, base_of, view_start}
use Rattle.tg_protocol.specs.Checkpoints.{TrimPoints, trim_of, base_at, load_from, base_or, base_by, view_base, view_bases}
use Rattle.tg_protocol.specs.Clients.{Work, Client, all_entries}
use Rattle.tg_protocol.specs.Answers.{view_or_new, own_view, play_target, with_view}
use Rattle.tg_law_replies.specs.Plays.Sound.{base_among}
use Rattle.tg_law_replies.proofs.History.Members.{Has, has_contained, contained_has, same_oid}
use Rattle.tg_law_replies.proofs.Views.Bases.{loaded_of, oid_loaded}
use Rattle.tg_law_replies.proofs.Views.Judges.{with_others}
use Rattle.tg_law_replies.proofs.Views.Settled.{plays_further}
use Rattle.tg_law_syncs.proofs.Known.Ways.{played_view}
use Rattle.tg_law_syncs.specs.Exact.Exact.{IsOfHosted}

-- an object more
pub more_oids : (x o : Oid) (os : List Oid) → Contains os o → Contains (with_oid x os) o
more_oids x o os i = contained_has (with_oid x os) o (with_others x o os (has_contained os o i))

module _ (m : Meaning) (es : Entries) (gone : TrimPoints) (objects : List Oid) where
  none_is : (b : Base m) → None ≡ Some b → ⊥
  none_is b e = cc

  -- the base of an object in a new view is of that object
  base_oid : (o : Oid) → (view_base m es gone objects o).oid ≡ o
  unfolding view_base
  base_oid o = by (trim_of gone o)
    where
      from : (below : ℕ) (b : Option (Base m)) → load_from m es o below ≡ b → (base_or m objects o b).oid ≡ o
      from below None is = refl
      from below (Some b) is = let e = loaded_of m objects [] refl es o below b is in oid_loaded m objects [] refl o b e.entry e.is

      by : (t : Option ℕ) → (base_by m es objects o t).oid ≡ o
      by None = refl
      by (Some below) = from below (load_from m es o below) refl

  made_of : (os : List Oid) (o : Oid) (b : Base m) → base_among m (map (view_base m es gone objects) os) o ≡ Some b → Has os o
  made_of [] o b is = absurd (none_is b is)
  made_of (x ∷ os) o b is = by (oid_eq (view_base m es gone objects x).oid o) refl is (λ k. made_of os o b k)
    where
      by : (t : Bool) → oid_eq (view_base m es gone objects x).oid o ≡ t → cond t (Some (view_base m es gone objects x)) (base_among m (map (view_base m es gone objects) os) o) ≡ Some b
          → (base_among m (map (view_base m es gone objects) os) o ≡ Some b → Has os o) → Has (x ∷ os) o
      by true e k rest = inl (sym (same_oid (view_base m es gone objects x).oid o e) ∙ base_oid x)
      by false e k rest = inr (rest k)

  -- a new view has bases of these objects alone
  pub start_of : (os : List Oid) (o : Oid) (b : Base m) → base_of m (view_start m (view_bases m es gone objects os)) o ≡ Some b → Contains os o
  unfolding view_start view_bases
  start_of os o b is = contained_has os o (made_of os o b is)

  one_is : (a b : Base m) → Some a ≡ Some b → a ≡ b
  one_is a b e = cc

  made_from : (os : List Oid) (o : Oid) (b : Base m) → base_among m (map (view_base m es gone objects) os) o ≡ Some b → (x : Oid) × (view_base m es gone objects x ≡ b)
  made_from [] o b is = absurd (none_is b is)
  made_from (x ∷ os) o b is = by (oid_eq (view_base m es gone objects x).oid o) is (λ k. made_from os o b k)
    where
      by : (t : Bool) → cond t (Some (view_base m es gone objects x)) (base_among m (map (view_base m es gone objects) os) o) ≡ Some b
          → (base_among m (map (view_base m es gone objects) os) o ≡ Some b → (y : Oid) × (view_base m es gone objects y ≡ b)) → (y : Oid) × (view_base m es gone objects y ≡ b)
      by true k rest = (x, one_is (view_base m es gone objects x) b k)
      by false k rest = rest k

  -- Where its entries save nothing past a tail, neither does a new view's base.
  module _ (tail : ℕ) (saved : (p : ℕ) (e : Entry) (x : Oid) (a : Base m) → Has es (p, e) → base_at m x e ≡ Some a → a.upto ≤ tail) where
    base_low : (o : Oid) → (view_base m es gone objects o).upto ≤ tail
    unfolding view_base
    base_low o = by (trim_of gone o)
      where
        from : (below : ℕ) (b : Option (Base m)) → load_from m es o below ≡ b → (base_or m objects o b).upto ≤ tail
        from below None is = omega arith
        from below (Some b) is = let e = loaded_of m objects [] refl es o below b is in saved e.at e.entry o b e.here e.is

        by : (t : Option ℕ) → (base_by m es objects o t).upto ≤ tail
        by None = omega arith
        by (Some below) = from below (load_from m es o below) refl

    pub new_low : (os : List Oid) (o : Oid) (b : Base m) → base_of m (view_start m (view_bases m es gone objects os)) o ≡ Some b → b.upto ≤ tail
    unfolding view_start view_bases
    new_low os o b is = let k = made_from os o b is in subst (λ (y : Base m). y.upto ≤ tail) k.1 (base_low k.0)

module _ (m : Meaning) where
  some_view : (u v : View m) → Some u ≡ Some v → u ≡ v
  some_view u v e = cc

  -- the view that a command plays
  own_of : (c : Client m) (w : Work m) (es : Entries) → IsOfHosted m c → (o : Oid) (b : Base m) → base_of m (own_view m c w es) o ≡ Some b → Contains c.hosted o
  own_of c w es h o b is = by c.view refl is
    where
      by : (v : Option (View m)) → c.view ≡ v → base_of m (view_or_new m c w es v) o ≡ Some b → Contains c.hosted o
      by None e k = start_of m es w.trims c.objects c.hosted o b k
      by (Some v) e k = h v o b e k

  -- and has played
  pub played_of : (c : Client m) (w : Work m) → IsOfHosted m c → IsOfHosted m (with_view m c (played_view m c w))
  played_of c w h v o b is k =
      let es = all_entries m c w c.hosted in
      let same = (plays_further m es (own_view m c w es) (play_target m w w.command)).bases in
      own_of c w es h o b (ap (λ (bs : List (Base m)). base_among m bs o) (sym same) ∙ (ap (λ (u : View m). base_of m u o) (some_view (played_view m c w) v is) ∙ k))
