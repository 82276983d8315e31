-- Bases from entries that have a spelling are lawful.
use Rattle.std.specs.Prelude.{◌≡◌, ℕ, ◌≤◌, Bool, true, false, cond, ◌&&◌, ◌==◌, nat_le, List, [], ◌∷◌, map, Option, Some, None, IfSome, refl}
use Rattle.std.specs.List.{list_all}
use Rattle.std.proofs.Common.{sym, ◌∙◌, subst}
use Rattle.std.proofs.lemmas.Bool.{leb-true}
use Rattle.tg_base.specs.declared.ids.Oid.{Oid}
use Rattle.tg_base.specs.declared.marks.Part.{Part}
use Rattle.tg_entry.specs.declared.entry.Body.{Body}
use Rattle.tg_entry.specs.declared.entry.Body.TheVariants.{Commit, Decision, Checkpoint}
use Rattle.tg_entry.specs.declared.entry.Entry.{Entry}
use Rattle.tg_entry.specs.declared.entry.Head.{Head}
use Rattle.tg_entry.specs.Format.{entry}
use Rattle.tg_kind.specs.Meaning.{Meaning}
use Rattle.tg_base.specs.Orders.{oid_eq}
use Rattle.tg_protocol.specs.Versions.{based}
use Rattle.tg_protocol.specs.Views as told
use Rattle.tg_protocol.specs.Views.{Entries}
use Rattle.tg_protocol.specs.Checkpoints.{TrimPoints, trim_of, loaded, base_in, base_at, bases_in, load_from, base_or, base_by, view_base}
use Rattle.tg_protocol.specs.Past.{last_base}
use Rattle.tg_play.specs.declared.base.Base.{Base}
use Rattle.tg_play.specs.Lawful.{IsLawfulBase, AreLawfulBases}
use Rattle.tg_play.proofs.Lawful.{base_begun, base_fresh}
use Rattle.tg_play.proofs.Truths.{first_true, rest_true}
use Rattle.tg_ckpt.specs.Kept.{kept_base, kept_maybe, lowest, highest}
use Rattle.tg_ckpt.specs.Saving.{AreSpelled}
use Rattle.tg_ckpt.proofs.Spelled.{Tells, entry_tells}
use Rattle.tg_ckpt.proofs.Telling.{chosen_lower, told_counted, load_step, lowest_told, chosen_higher, told_inside, last_step, highest_told}

module _ (m : Meaning) where
  abbrev pub IsLawful : Option (told.Base m) → Type 0
  IsLawful None = Unit {0}
  IsLawful (Some d) = IsLawfulBase (kept_base m d)

  -- ---- the base that an entry gives

  lawful_loaded : (o : Oid) (upto version whole : ℕ) (keys : List (Part × ℕ)) (s : Option m.state) → version ≤ upto → Tells version whole keys → IsLawful (loaded m o upto (based o version whole keys) s)
  lawful_loaded o upto version whole keys None le h = tt
  lawful_loaded o upto version whole keys (Some s) le h =
      base_begun (kept_base m (record { oid = o; state = s; versions = based o version whole keys; upto = upto })) version whole keys (record { kept = refl }) h.below h.each le

  lawful_in : (o : Oid) (h : Head) (b : Body) → (h.format == 2) ≡ true → entry.fits (record { head = h; body = b }) ≡ true → IsLawful (base_in m o b)
  lawful_in o h (Commit rs ws) is fits = tt
  lawful_in o h (Decision at is_yes) is fits = tt
  lawful_in o h (Checkpoint p upto version whole keys bytes) is fits = by (oid_eq o p && nat_le version upto) refl
    where
      by : (t : Bool) → (oid_eq o p && nat_le version upto) ≡ t → IsLawful (cond t (loaded m o upto (based o version whole keys) (m.load o bytes)) None)
      by true e =
          lawful_loaded o upto version whole keys (m.load o bytes) (leb-true version upto (rest_true (oid_eq o p) (nat_le version upto) e))
          (entry_tells h p upto version whole keys bytes is fits)
      by false e = tt

  lawful_at : (o : Oid) (e : Entry) → entry.fits e ≡ true → IsLawful (base_at m o e)
  lawful_at o e fits = by (e.head.format == 2) refl
    where
      by : (t : Bool) → (e.head.format == 2) ≡ t → IsLawful (cond t (base_in m o e.body) None)
      by true is = lawful_in o e.head e.body is fits
      by false is = tt

  -- ---- the lowest one

  lawful_lower : (x y : Option (told.Base m)) → IsLawful x → IsLawful y → IsLawful (chosen_lower m x y)
  lawful_lower None y p q = q
  lawful_lower (Some b) None p q = p
  lawful_lower (Some b) (Some c) p q = by (nat_le b.upto c.upto)
    where
      by : (t : Bool) → IsLawful (Some (cond t b c))
      by true = p
      by false = q

  lawful_counted : (below : ℕ) (x : Option (told.Base m)) → IsLawful x → IsLawful (told_counted m below x)
  lawful_counted below None p = tt
  lawful_counted below (Some b) p = by (nat_le below b.upto)
    where
      by : (t : Bool) → IsLawful (cond t (Some b) None)
      by true = p
      by false = tt

  load_lawful : (o : Oid) (below : ℕ) (es : Entries) → AreSpelled es → IsLawful (load_from m es o below)
  unfolding load_from bases_in
  load_lawful o below [] h = tt
  load_lawful o below (x ∷ xs) h =
      subst IsLawful (sym (load_step m o below x xs))
      (lawful_lower (told_counted m below (base_at m o x.1)) (load_from m xs o below)
      (lawful_counted below (base_at m o x.1) (lawful_at o x.1 (first_true (entry.fits x.1) (list_all (λ (e : ℕ × Entry). entry.fits e.1) xs) h)))
      (load_lawful o below xs (rest_true (entry.fits x.1) (list_all (λ (e : ℕ × Entry). entry.fits e.1) xs) h)))

  -- ---- the highest one

  lawful_higher : (x y : Option (told.Base m)) → IsLawful x → IsLawful y → IsLawful (chosen_higher m x y)
  lawful_higher None y p q = q
  lawful_higher (Some b) None p q = p
  lawful_higher (Some b) (Some c) p q = by (nat_le c.upto b.upto)
    where
      by : (t : Bool) → IsLawful (Some (cond t b c))
      by true = p
      by false = q

  lawful_inside : (below high : ℕ) (x : Option (told.Base m)) → IsLawful x → IsLawful (told_inside m below high x)
  lawful_inside below high None p = tt
  lawful_inside below high (Some b) p = by (nat_le below b.upto && nat_le b.upto high)
    where
      by : (t : Bool) → IsLawful (cond t (Some b) None)
      by true = p
      by false = tt

  last_lawful : (o : Oid) (below high : ℕ) (es : Entries) → AreSpelled es → IsLawful (last_base m es o below high)
  unfolding bases_in
  last_lawful o below high [] h = tt
  last_lawful o below high (x ∷ xs) h =
      subst IsLawful (sym (last_step m o below high x xs))
      (lawful_higher (told_inside m below high (base_at m o x.1)) (last_base m xs o below high)
      (lawful_inside below high (base_at m o x.1) (lawful_at o x.1 (first_true (entry.fits x.1) (list_all (λ (e : ℕ × Entry). entry.fits e.1) xs) h)))
      (last_lawful o below high xs (rest_true (entry.fits x.1) (list_all (λ (e : ℕ × Entry). entry.fits e.1) xs) h)))

  -- ---- what is kept of them

  of_maybe : (b : Base m.state) (d : Option (told.Base m)) → Some b ≡ kept_maybe m d → IsLawful d → IsLawfulBase b
  of_maybe b None e h = absurd cc
  of_maybe b (Some d) e h = subst (λ (x : Base m.state). IsLawfulBase x) (sym (same e)) h
    where
      same : Some b ≡ Some (kept_base m d) → b ≡ kept_base m d
      same f = cc

  pub lowest_lawful : (o : Oid) (below : ℕ) (es : Entries) (b : Base m.state) → Some b ≡ lowest m o below es → AreSpelled es → IsLawfulBase b
  lowest_lawful o below es b is h = of_maybe b (load_from m es o below) (is ∙ lowest_told m o below es) (load_lawful o below es h)

  maybe_lawful : (b : Option (Base m.state)) (d : Option (told.Base m)) → b ≡ kept_maybe m d → IsLawful d → IfSome b (λ x. IsLawfulBase x)
  maybe_lawful b d is h = subst (λ (x : Option (Base m.state)). IfSome x (λ y. IsLawfulBase y)) (sym is) (by d h)
    where
      by : (e : Option (told.Base m)) → IsLawful e → IfSome (kept_maybe m e) (λ y. IsLawfulBase y)
      by None k = tt
      by (Some e) k = k

  pub last_lawful_kept : (o : Oid) (below high : ℕ) (es : Entries) (b : Option (Base m.state)) → b ≡ highest m o below high es → AreSpelled es → IfSome b (λ x. IsLawfulBase x)
  last_lawful_kept o below high es b is h = maybe_lawful b (last_base m es o below high) (is ∙ highest_told m o below high es) (last_lawful o below high es h)

  -- ---- the bases of a new view

  fresh : (os : List Oid) (o : Oid) → IsLawfulBase (kept_base m (told.fresh_base m os o))
  fresh os o = base_fresh (kept_base m (told.fresh_base m os o)) (record { kept = refl })

  pub fresh_lawful : (os : List Oid) (o : Oid) (b : Base m.state) → b ≡ kept_base m (told.fresh_base m os o) → IsLawfulBase b
  fresh_lawful os o b is = subst (λ (x : Base m.state). IsLawfulBase x) (sym is) (fresh os o)

  begun : (os : List Oid) (gone : TrimPoints) (o : Oid) (es : Entries) → AreSpelled es → IsLawfulBase (kept_base m (view_base m es gone os o))
  unfolding view_base
  begun os gone o es h = by (trim_of gone o)
    where
      or_first : (d : Option (told.Base m)) → IsLawful d → IsLawfulBase (kept_base m (base_or m os o d))
      or_first None k = fresh os o
      or_first (Some d) k = k

      by : (t : Option ℕ) → IsLawfulBase (kept_base m (base_by m es os o t))
      by None = fresh os o
      by (Some below) = or_first (load_from m es o below) (load_lawful o below es h)

  pub begun_lawful : (os : List Oid) (gone : TrimPoints) (o : Oid) (es : Entries) (b : Base m.state) → b ≡ kept_base m (view_base m es gone os o) → AreSpelled es → IsLawfulBase b
  begun_lawful os gone o es b is h = subst (λ (x : Base m.state). IsLawfulBase x) (sym is) (begun os gone o es h)

  each_begun : (os : List Oid) (gone : TrimPoints) (es : Entries) (oids : List Oid) → AreSpelled es → AreLawfulBases (map (λ (o : Oid). kept_base m (view_base m es gone os o)) oids)
  each_begun os gone es [] h = tt
  each_begun os gone es (o ∷ oids) h = (begun os gone o es h, each_begun os gone es oids h)

  pub all_lawful : (os : List Oid) (gone : TrimPoints) (es : Entries) (oids : List Oid) (bs : List (Base m.state)) → bs ≡ map (λ (o : Oid). kept_base m (view_base m es gone os o)) oids → AreSpelled es → AreLawfulBases bs
  all_lawful os gone es oids bs is h = subst (λ (xs : List (Base m.state)). AreLawfulBases xs) (sym is) (each_begun os gone es oids h)
