-- The bases that are chosen are those of the definitions.
use Rattle.std.specs.Prelude.{◌≡◌, ℕ, Bool, true, false, cond, ◌&&◌, ◌==◌, nat_le, List, [], ◌∷◌, ◌++◌, filter, map, Option, Some, None, refl}
use Rattle.std.proofs.Common.{sym, ap, ◌∙◌, subst}
use Rattle.tg_base.specs.declared.ids.Oid.{Oid}
use Rattle.tg_base.specs.declared.marks.Part.{Part}
use Rattle.tg_entry.specs.declared.entry.Body.{Body}
use Rattle.tg_entry.specs.declared.entry.Body.TheVariants.{Commit, Decision, Checkpoint}
use Rattle.tg_entry.specs.declared.entry.Entry.{Entry}
use Rattle.tg_kind.specs.Meaning.{Meaning}
use Rattle.tg_base.specs.Orders.{oid_eq}
use Rattle.tg_protocol.specs.Versions.{Versions, no_versions, based}
use Rattle.tg_protocol.specs.Views as told
use Rattle.tg_protocol.specs.Views.{Entries}
use Rattle.tg_protocol.specs.Checkpoints.{TrimPoints, trim_of, loaded, base_in, base_at, option_list, bases_in, lower, least_base, higher, greatest_base, from_upto, within, load_from, base_or, base_by, view_base, view_bases}
use Rattle.tg_protocol.specs.Past.{last_base}
use Rattle.tg_vers.specs.Kept.{Objects, notes_kept}
use Rattle.tg_play.specs.declared.base.Base.{Base}
use Rattle.tg_play.specs.Relations.{KeepsBase, KeepsBases}
use Rattle.tg_ckpt.specs.Answers.{KeepsMaybe}
use Rattle.tg_ckpt.specs.Kept.{offer_in, offered, counted, inside, lower_of, higher_of, kept_base, kept_maybe, kept_at, lowest, highest}
use Rattle.tg_ckpt.proofs.Choices.{Offers, lower_itself, lower_again}

module _ (m : Meaning) where
  -- ---- what an entry offers

  offers_loaded : (o : Oid) (upto : ℕ) (vs : Versions) (s : Option m.state) → Offers (kept_maybe m (loaded m o upto vs s)) (Some upto)
  offers_loaded o upto vs None = tt
  offers_loaded o upto vs (Some s) = refl

  offers_in : (o : Oid) (b : Body) → Offers (kept_maybe m (base_in m o b)) (offer_in o b)
  offers_in o (Commit rs ws) = tt
  offers_in o (Decision at is_yes) = tt
  offers_in o (Checkpoint p upto version whole keys bytes) = by (oid_eq o p && nat_le version upto)
    where
      by : (t : Bool) → Offers (kept_maybe m (cond t (loaded m o upto (based o version whole keys) (m.load o bytes)) None)) (cond t (Some upto) None)
      by true = offers_loaded o upto (based o version whole keys) (m.load o bytes)
      by false = tt

  pub offers : (o : Oid) (e : Entry) → Offers (kept_at m o e) (offered o e)
  offers o e = by (e.head.format == 2)
    where
      by : (t : Bool) → Offers (kept_maybe m (cond t (base_in m o e.body) None)) (cond t (offer_in o e.body) None)
      by true = offers_in o e.body
      by false = tt

  -- by what was told
  pub offers_told : (o : Oid) (e : Entry) (u : Option ℕ) → u ≡ offered o e → Offers (kept_at m o e) u
  offers_told o e u is = subst (λ (v : Option ℕ). Offers (kept_at m o e) v) (sym is) (offers o e)

  -- a state that was loaded, with the versions that are kept of those that are told
  pub loaded_kept : (o : Oid) (upto : ℕ) (vs : Versions) (os : Objects) (s : m.state) (t : Option m.state) → os ≡ notes_kept vs.base vs.noted → t ≡ Some s
      → ◌≡◌ {A = Option (Base m.state)} (Some (record { oid = o; state = s; vers = os; upto = upto })) (kept_maybe m (loaded m o upto vs t))
  loaded_kept o upto vs os s t is some = (λ i. Some (record { oid = o; state = s; vers = is i; upto = upto })) ∙ ap (λ (x : Option m.state). kept_maybe m (loaded m o upto vs x)) (sym some)

  -- ---- a base has no changes but those that its checkpoint tells

  abbrev pub IsBased : Option (told.Base m) → Type 0
  IsBased None = Unit {0}
  IsBased (Some d) = d.versions.noted ≡ []

  based_loaded : (o : Oid) (upto version whole : ℕ) (keys : List (Part × ℕ)) (s : Option m.state) → IsBased (loaded m o upto (based o version whole keys) s)
  unfolding based
  based_loaded o upto version whole keys None = tt
  based_loaded o upto version whole keys (Some s) = refl

  based_in : (o : Oid) (b : Body) → IsBased (base_in m o b)
  based_in o (Commit rs ws) = tt
  based_in o (Decision at is_yes) = tt
  based_in o (Checkpoint p upto version whole keys bytes) = by (oid_eq o p && nat_le version upto)
    where
      by : (t : Bool) → IsBased (cond t (loaded m o upto (based o version whole keys) (m.load o bytes)) None)
      by true = based_loaded o upto version whole keys (m.load o bytes)
      by false = tt

  based_at : (o : Oid) (e : Entry) → IsBased (base_at m o e)
  based_at o e = by (e.head.format == 2)
    where
      by : (t : Bool) → IsBased (cond t (base_in m o e.body) None)
      by true = based_in o e.body
      by false = tt

  keeps_kept : (d : told.Base m) → d.versions.noted ≡ [] → KeepsBase m (kept_base m d) d
  keeps_kept d is = record { oid = refl; state = refl; versions = record { kept = refl }; based = is; upto = refl }

  keeps_maybe : (d : Option (told.Base m)) → IsBased d → KeepsMaybe m (kept_maybe m d) d
  keeps_maybe None h = tt
  keeps_maybe (Some d) h = keeps_kept d h

  -- ---- the lowest base

  abbrev pub chosen_lower : Option (told.Base m) → Option (told.Base m) → Option (told.Base m)
  chosen_lower None c = c
  chosen_lower (Some b) c = Some (lower m b c)

  abbrev pub told_counted : ℕ → Option (told.Base m) → Option (told.Base m)
  told_counted below None = None
  told_counted below (Some b) = cond (nat_le below b.upto) (Some b) None

  least_front : (t : Bool) (b : told.Base m) (rest : List (told.Base m)) → least_base m (cond t (b ∷ rest) rest) ≡ chosen_lower (cond t (Some b) None) (least_base m rest)
  least_front true b rest = refl
  least_front false b rest = refl

  least_step : (below : ℕ) (x : Option (told.Base m)) (bs : List (told.Base m))
      → least_base m (filter (from_upto m below) (option_list m x ++ bs)) ≡ chosen_lower (told_counted below x) (least_base m (filter (from_upto m below) bs))
  least_step below None bs = refl
  least_step below (Some b) bs = least_front (nat_le below b.upto) b (filter (from_upto m below) bs)

  kept_lower : (x y : Option (told.Base m)) → kept_maybe m (chosen_lower x y) ≡ lower_of (kept_maybe m x) (kept_maybe m y)
  kept_lower None y = refl
  kept_lower (Some b) None = refl
  kept_lower (Some b) (Some c) = by (nat_le b.upto c.upto)
    where
      by : (t : Bool) → kept_maybe m (Some (cond t b c)) ≡ Some (cond t (kept_base m b) (kept_base m c))
      by true = refl
      by false = refl

  kept_counted : (below : ℕ) (x : Option (told.Base m)) → kept_maybe m (told_counted below x) ≡ counted below (kept_maybe m x)
  kept_counted below None = refl
  kept_counted below (Some b) = by (nat_le below b.upto)
    where
      by : (t : Bool) → kept_maybe m (cond t (Some b) None) ≡ cond t (Some (kept_base m b)) None
      by true = refl
      by false = refl

  pub load_step : (o : Oid) (below : ℕ) (x : ℕ × Entry) (xs : Entries) → load_from m (x ∷ xs) o below ≡ chosen_lower (told_counted below (base_at m o x.1)) (load_from m xs o below)
  unfolding load_from bases_in
  load_step o below x xs = least_step below (base_at m o x.1) (bases_in m xs o)

  pub lowest_told : (o : Oid) (below : ℕ) (es : Entries) → lowest m o below es ≡ kept_maybe m (load_from m es o below)
  unfolding load_from bases_in
  lowest_told o below [] = refl
  lowest_told o below (x ∷ xs) =
      ap (λ (r : Option (Base m.state)). lower_of (counted below (kept_at m o x.1)) r) (lowest_told o below xs)
      ∙ ap (λ (r : Option (Base m.state)). lower_of r (kept_maybe m (load_from m xs o below))) (sym (kept_counted below (base_at m o x.1)))
      ∙ sym (kept_lower (told_counted below (base_at m o x.1)) (load_from m xs o below))
      ∙ ap (λ (d : Option (told.Base m)). kept_maybe m d) (sym (load_step o below x xs))

  based_lower : (x y : Option (told.Base m)) → IsBased x → IsBased y → IsBased (chosen_lower x y)
  based_lower None y p q = q
  based_lower (Some b) None p q = p
  based_lower (Some b) (Some c) p q = by (nat_le b.upto c.upto)
    where
      by : (t : Bool) → IsBased (Some (cond t b c))
      by true = p
      by false = q

  based_counted : (below : ℕ) (x : Option (told.Base m)) → IsBased x → IsBased (told_counted below x)
  based_counted below None p = tt
  based_counted below (Some b) p = by (nat_le below b.upto)
    where
      by : (t : Bool) → IsBased (cond t (Some b) None)
      by true = p
      by false = tt

  load_based : (o : Oid) (below : ℕ) (es : Entries) → IsBased (load_from m es o below)
  unfolding load_from bases_in
  load_based o below [] = tt
  load_based o below (x ∷ xs) =
      subst IsBased (sym (load_step o below x xs))
      (based_lower (told_counted below (base_at m o x.1)) (load_from m xs o below) (based_counted below (base_at m o x.1) (based_at o x.1)) (load_based o below xs))

  -- one entry more is taken, and none is left
  pub lowest_more : (o : Oid) (below : ℕ) (a b : Option (Base m.state)) (x : ℕ × Entry) (xs rest : Entries) (all : Option (Base m.state)) → xs ≡ x ∷ rest → b ≡ lower_of a (counted below (kept_at m o x.1))
      → lower_of a (lowest m o below xs) ≡ all → lower_of b (lowest m o below rest) ≡ all
  lowest_more o below a b x xs rest all front is so_far =
      ap (λ (c : Option (Base m.state)). lower_of c (lowest m o below rest)) is
      ∙ lower_again a (counted below (kept_at m o x.1)) (lowest m o below rest)
      ∙ ap (λ (ys : Entries). lower_of a (lowest m o below ys)) (sym front)
      ∙ so_far

  pub lowest_end : (o : Oid) (below : ℕ) (a : Option (Base m.state)) (xs : Entries) (all : Option (Base m.state)) → xs ≡ [] → lower_of a (lowest m o below xs) ≡ all → a ≡ all
  lowest_end o below a xs all front so_far =
      sym (lower_itself a)
      ∙ ap (λ (ys : Entries). lower_of a (lowest m o below ys)) (sym front)
      ∙ so_far

  -- ---- the highest base

  abbrev pub chosen_higher : Option (told.Base m) → Option (told.Base m) → Option (told.Base m)
  chosen_higher None c = c
  chosen_higher (Some b) c = Some (higher m b c)

  abbrev pub told_inside : ℕ → ℕ → Option (told.Base m) → Option (told.Base m)
  told_inside below high None = None
  told_inside below high (Some b) = cond (nat_le below b.upto && nat_le b.upto high) (Some b) None

  greatest_front : (t : Bool) (b : told.Base m) (rest : List (told.Base m)) → greatest_base m (cond t (b ∷ rest) rest) ≡ chosen_higher (cond t (Some b) None) (greatest_base m rest)
  greatest_front true b rest = refl
  greatest_front false b rest = refl

  greatest_step : (below high : ℕ) (x : Option (told.Base m)) (bs : List (told.Base m))
      → greatest_base m (filter (within m below high) (option_list m x ++ bs)) ≡ chosen_higher (told_inside below high x) (greatest_base m (filter (within m below high) bs))
  greatest_step below high None bs = refl
  greatest_step below high (Some b) bs = greatest_front (nat_le below b.upto && nat_le b.upto high) b (filter (within m below high) bs)

  kept_higher : (x y : Option (told.Base m)) → kept_maybe m (chosen_higher x y) ≡ higher_of (kept_maybe m x) (kept_maybe m y)
  kept_higher None y = refl
  kept_higher (Some b) None = refl
  kept_higher (Some b) (Some c) = by (nat_le c.upto b.upto)
    where
      by : (t : Bool) → kept_maybe m (Some (cond t b c)) ≡ Some (cond t (kept_base m b) (kept_base m c))
      by true = refl
      by false = refl

  kept_inside : (below high : ℕ) (x : Option (told.Base m)) → kept_maybe m (told_inside below high x) ≡ inside below high (kept_maybe m x)
  kept_inside below high None = refl
  kept_inside below high (Some b) = by (nat_le below b.upto && nat_le b.upto high)
    where
      by : (t : Bool) → kept_maybe m (cond t (Some b) None) ≡ cond t (Some (kept_base m b)) None
      by true = refl
      by false = refl

  pub last_step : (o : Oid) (below high : ℕ) (x : ℕ × Entry) (xs : Entries) → last_base m (x ∷ xs) o below high ≡ chosen_higher (told_inside below high (base_at m o x.1)) (last_base m xs o below high)
  unfolding bases_in
  last_step o below high x xs = greatest_step below high (base_at m o x.1) (bases_in m xs o)

  pub highest_told : (o : Oid) (below high : ℕ) (es : Entries) → highest m o below high es ≡ kept_maybe m (last_base m es o below high)
  unfolding bases_in
  highest_told o below high [] = refl
  highest_told o below high (x ∷ xs) =
      ap (λ (r : Option (Base m.state)). higher_of (inside below high (kept_at m o x.1)) r) (highest_told o below high xs)
      ∙ ap (λ (r : Option (Base m.state)). higher_of r (kept_maybe m (last_base m xs o below high))) (sym (kept_inside below high (base_at m o x.1)))
      ∙ sym (kept_higher (told_inside below high (base_at m o x.1)) (last_base m xs o below high))
      ∙ ap (λ (d : Option (told.Base m)). kept_maybe m d) (sym (last_step o below high x xs))

  based_higher : (x y : Option (told.Base m)) → IsBased x → IsBased y → IsBased (chosen_higher x y)
  based_higher None y p q = q
  based_higher (Some b) None p q = p
  based_higher (Some b) (Some c) p q = by (nat_le c.upto b.upto)
    where
      by : (t : Bool) → IsBased (Some (cond t b c))
      by true = p
      by false = q

  based_inside : (below high : ℕ) (x : Option (told.Base m)) → IsBased x → IsBased (told_inside below high x)
  based_inside below high None p = tt
  based_inside below high (Some b) p = by (nat_le below b.upto && nat_le b.upto high)
    where
      by : (t : Bool) → IsBased (cond t (Some b) None)
      by true = p
      by false = tt

  last_based : (o : Oid) (below high : ℕ) (es : Entries) → IsBased (last_base m es o below high)
  unfolding bases_in
  last_based o below high [] = tt
  last_based o below high (x ∷ xs) =
      subst IsBased (sym (last_step o below high x xs))
      (based_higher (told_inside below high (base_at m o x.1)) (last_base m xs o below high) (based_inside below high (base_at m o x.1) (based_at o x.1)) (last_based o below high xs))

  -- ---- what is kept of them

  pub load_keeps : (o : Oid) (below : ℕ) (es : Entries) (b : Option (Base m.state)) → b ≡ lowest m o below es → KeepsMaybe m b (load_from m es o below)
  load_keeps o below es b is =
      subst (λ (c : Option (Base m.state)). KeepsMaybe m c (load_from m es o below)) (sym (is ∙ lowest_told o below es))
      (keeps_maybe (load_from m es o below) (load_based o below es))

  none_kept : (d : Option (told.Base m)) → None ≡ kept_maybe m d → d ≡ None
  none_kept None e = refl
  none_kept (Some d) e = absurd cc

  pub load_none : (o : Oid) (below : ℕ) (es : Entries) → None ≡ lowest m o below es → load_from m es o below ≡ None
  load_none o below es is = none_kept (load_from m es o below) (is ∙ lowest_told o below es)

  pub last_keeps : (o : Oid) (below high : ℕ) (es : Entries) (b : Option (Base m.state)) → b ≡ highest m o below high es → KeepsMaybe m b (last_base m es o below high)
  last_keeps o below high es b is =
      subst (λ (c : Option (Base m.state)). KeepsMaybe m c (last_base m es o below high)) (sym (is ∙ highest_told o below high es))
      (keeps_maybe (last_base m es o below high) (last_based o below high es))

  -- ---- the bases of a new view

  -- where none reaches far enough, the object is as at first
  pub from_none : (os : List Oid) (o : Oid) (below : ℕ) (es : Entries) (b : Base m.state) → None ≡ lowest m o below es → b ≡ kept_base m (told.fresh_base m os o)
      → b ≡ kept_base m (base_or m os o (load_from m es o below))
  from_none os o below es b none is = is ∙ ap (λ (d : Option (told.Base m)). kept_base m (base_or m os o d)) (sym (load_none o below es none))

  some_kept : (os : List Oid) (o : Oid) (b : Base m.state) (d : Option (told.Base m)) → Some b ≡ kept_maybe m d → b ≡ kept_base m (base_or m os o d)
  some_kept os o b None e = absurd cc
  some_kept os o b (Some d) e = same e
    where
      same : Some b ≡ Some (kept_base m d) → b ≡ kept_base m d
      same h = cc

  pub from_some : (os : List Oid) (o : Oid) (below : ℕ) (es : Entries) (b : Base m.state) → Some b ≡ lowest m o below es → b ≡ kept_base m (base_or m os o (load_from m es o below))
  from_some os o below es b is = some_kept os o b (load_from m es o below) (is ∙ lowest_told o below es)

  pub view_none : (os : List Oid) (gone : TrimPoints) (o : Oid) (es : Entries) (b : Base m.state) → None ≡ trim_of gone o → b ≡ kept_base m (told.fresh_base m os o) → b ≡ kept_base m (view_base m es gone os o)
  unfolding view_base
  view_none os gone o es b none is = is ∙ ap (λ (t : Option ℕ). kept_base m (base_by m es os o t)) none

  pub view_some : (os : List Oid) (gone : TrimPoints) (o : Oid) (es : Entries) (b : Base m.state) (below : ℕ) → Some below ≡ trim_of gone o → b ≡ kept_base m (base_or m os o (load_from m es o below))
      → b ≡ kept_base m (view_base m es gone os o)
  unfolding view_base
  view_some os gone o es b below some is = is ∙ ap (λ (t : Option ℕ). kept_base m (base_by m es os o t)) some

  abbrev IsBasedOne : told.Base m → Type 0
  IsBasedOne d = d.versions.noted ≡ []

  fresh_based : (os : List Oid) (o : Oid) → IsBasedOne (told.fresh_base m os o)
  unfolding no_versions
  fresh_based os o = refl

  view_based : (os : List Oid) (gone : TrimPoints) (o : Oid) (es : Entries) → IsBasedOne (view_base m es gone os o)
  unfolding view_base
  view_based os gone o es = by (trim_of gone o)
    where
      or_first : (d : Option (told.Base m)) → IsBased d → IsBasedOne (base_or m os o d)
      or_first None h = fresh_based os o
      or_first (Some d) h = h

      by : (t : Option ℕ) → IsBasedOne (base_by m es os o t)
      by None = fresh_based os o
      by (Some below) = or_first (load_from m es o below) (load_based o below es)

  pub fresh_keeps : (os : List Oid) (o : Oid) (b : Base m.state) → b ≡ kept_base m (told.fresh_base m os o) → KeepsBase m b (told.fresh_base m os o)
  fresh_keeps os o b is = subst (λ (c : Base m.state). KeepsBase m c (told.fresh_base m os o)) (sym is) (keeps_kept (told.fresh_base m os o) (fresh_based os o))

  pub view_keeps : (os : List Oid) (gone : TrimPoints) (o : Oid) (es : Entries) (b : Base m.state) → b ≡ kept_base m (view_base m es gone os o) → KeepsBase m b (view_base m es gone os o)
  view_keeps os gone o es b is = subst (λ (c : Base m.state). KeepsBase m c (view_base m es gone os o)) (sym is) (keeps_kept (view_base m es gone os o) (view_based os gone o es))

  each_keeps : (os : List Oid) (gone : TrimPoints) (es : Entries) (oids : List Oid)
      → KeepsBases m (map (λ (o : Oid). kept_base m (view_base m es gone os o)) oids) (view_bases m es gone os oids)
  unfolding view_bases
  each_keeps os gone es [] = tt
  each_keeps os gone es (o ∷ oids) = (keeps_kept (view_base m es gone os o) (view_based os gone o es), each_keeps os gone es oids)

  pub all_keep : (os : List Oid) (gone : TrimPoints) (es : Entries) (oids : List Oid) (bs : List (Base m.state)) → bs ≡ map (λ (o : Oid). kept_base m (view_base m es gone os o)) oids
      → KeepsBases m bs (view_bases m es gone os oids)
  all_keep os gone es oids bs is = subst (λ (cs : List (Base m.state)). KeepsBases m cs (view_bases m es gone os oids)) (sym is) (each_keeps os gone es oids)
