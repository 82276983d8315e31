-- The bases of a past view: each is of its object, and past 0 only where the object's walk met a trim.
use Rattle.std.proofs.Common.{◌≡◌, ℕ, ◌<◌, List, [], ◌∷◌, filter, Bool, true, false, refl, sym, subst, inl, inr, arith, Option, Some, None}
use Rattle.std.specs.Prelude.{nat_le, if◌then◌else◌}
use Rattle.tg_base.specs.declared.ids.Oid.{Oid}
use Rattle.tg_kind.specs.Meaning.{Meaning}
use Rattle.tg_protocol.specs.Views.{Entries, Base}
use Rattle.tg_protocol.specs.Checkpoints.{TrimPoints, trim_of, bases_in, within, higher, greatest_base, load_from, base_or}
use Rattle.tg_protocol.specs.Past.{last_base, past_base_or, past_base_by, past_base}
use Rattle.tg_law_replies.proofs.History.Members.{Has, has_kept}
use Rattle.tg_law_replies.proofs.Views.Bases.{in_entries, loaded_of, oid_loaded}

module _ (m : Meaning) where
  none_is : (b : Base m) → None ≡ Some b → ⊥
  none_is b e = cc

  one_is : (a b : Base m) → Some a ≡ Some b → a ≡ b
  one_is a b e = cc

  greatest_has : (bs : List (Base m)) (c : Base m) → greatest_base m bs ≡ Some c → Has bs c
  greatest_has [] c e = absurd (none_is c e)
  greatest_has (b ∷ bs) c e = by (greatest_base m bs) refl (one_is (higher m b (greatest_base m bs)) c e) (λ d is. greatest_has bs d is)
    where
      by : (o : Option (Base m)) → greatest_base m bs ≡ o → higher m b o ≡ c → ((d : Base m) → greatest_base m bs ≡ Some d → Has bs d) → Has (b ∷ bs) c
      by None is k rest = inl (sym k)
      by (Some d) is k rest = if_high (nat_le d.upto b.upto) k
        where
          if_high : (t : Bool) → (if t then b else d) ≡ c → Has (b ∷ bs) c
          if_high true j = inl (sym j)
          if_high false j = inr (subst (λ (x : Base m). Has bs x) j (rest d is))

  module _ (es : Entries) (gone : TrimPoints) (objects : List Oid) (pos : ℕ) where
    pub past_oid : (o : Oid) → (past_base m es gone objects pos o).oid ≡ o
    past_oid o = by (trim_of gone o)
      where
        loaded : (below : ℕ) (b : Option (Base m)) → load_from m es o below ≡ b → (base_or m objects o b).oid ≡ o
        loaded below None is = refl
        loaded below (Some b) is = let e = loaded_of m objects [] refl es o below b is in oid_loaded m objects [] refl o b e.entry e.is

        last : (below : ℕ) (b : Option (Base m)) → last_base m es o below pos ≡ b → (past_base_or m es objects o below b).oid ≡ o
        last below None is = loaded below (load_from m es o below) refl
        last below (Some b) is =
            let e = in_entries m objects [] refl es o b (has_kept (within m below pos) (bases_in m es o) b (greatest_has (filter (within m below pos) (bases_in m es o)) b is)) in
            oid_loaded m objects [] refl o b e.entry e.is

        by : (t : Option ℕ) → (past_base_by m es objects pos o t).oid ≡ o
        by None = refl
        by (Some below) = last below (last_base m es o below pos) refl

    pub past_up : (o : Oid) → 0 < (past_base m es gone objects pos o).upto → (below : ℕ) × (trim_of gone o ≡ Some below)
    past_up o less = by (trim_of gone o) refl less
      where
        by : (t : Option ℕ) → trim_of gone o ≡ t → 0 < (past_base_by m es objects pos o t).upto → (below : ℕ) × (trim_of gone o ≡ Some below)
        by None e k = absurd (omega (arith, k))
        by (Some below) e k = (below, e)
