-- The bases and the view at a past position are those of the definitions.
use Rattle.std.specs.Prelude.{◌≡◌, ℕ, zero, suc, ◌+◌, ◌<◌, cond, List, [], ◌∷◌, ◌++◌, map, length, Option, Some, None, is_some, Result, Ok, Err, IfOk, refl}
use Rattle.std.proofs.Common.{get_or, drop, sym, ap, ◌∙◌, subst, arith}
use Rattle.tg_base.specs.declared.ids.Oid.{Oid}
use Rattle.tg_kind.specs.Meaning.{Meaning}
use Rattle.tg_model.specs.declared.play.PlayEnd.{PlayEnd}
use Rattle.tg_protocol.specs.Checkpoints.{TrimPoints, trim_of, base_by, view_base}
use Rattle.tg_protocol.specs.Past.{PastTurn, PastView, PastGone, last_base, past_base_or, past_base_by, past_base, past_play, past_or_gone, past_by, past_at}
use Rattle.tg_protocol.specs.Views as told
use Rattle.tg_protocol.specs.Views.{Entries, fresh_base, Play}
use Rattle.tg_play.specs.declared.base.Base.{Base}
use Rattle.tg_play.specs.Kept.{Kept}
use Rattle.tg_play.specs.Relations.{KeepsBase, KeepsBases, KeepsView, PlayedOn}
use Rattle.tg_ckpt.specs.Answers.{KeepsMaybe}
use Rattle.tg_past.specs.declared.past.PastTurn.TheVariants as variants
use Rattle.tg_past.specs.Answers.{lost_by, KeepsTurn}

drop_next : {X : Type 0} (xs : List X) (n : ℕ) (d : X) → n < length xs → drop n xs ≡ get_or xs n d ∷ drop (suc n) xs
drop_next [] n d h = absurd (omega (arith, h))
drop_next (y ∷ ys) zero d h = refl
drop_next (y ∷ ys) (suc n) d h = drop_next ys n d (omega (arith, h))

-- what is left begins with the item at its place
pub drop_at : {X : Type 0} (xs : List X) (n : ℕ) (d : X) → n < length xs → drop n xs ≡ get_or xs n d ∷ drop (n + 1) xs
drop_at {X} xs n d h =
    let same : suc n ≡ n + 1 = omega arith in
    drop_next xs n d h ∙ ap (λ (k : ℕ). get_or xs n d ∷ drop k xs) same

-- what follows where a call gives a value
pub given : {A E : Type 0} (P : A → Type 0) (r : Result A E) (x : A) → r ≡ Ok x → P x → IfOk r P
given {A} {E} P r x is h = subst (λ (s : Result A E). IfOk s P) (sym is) h

module _ (m : Meaning) where
  -- ---- the asked object

  abbrev unless : Option (told.Base m) → ℕ → Option ℕ
  unless d below = cond (is_some d) None (Some below)

  pub reached_none : (d : Option (told.Base m)) (b : Option (Base m.state)) (below : ℕ) → KeepsMaybe m b d → b ≡ None → Some below ≡ unless d below
  reached_none None b below k is = refl
  reached_none (Some d) None below k is = absurd k
  reached_none (Some d) (Some b) below k is = absurd (none is)
    where
      none : ◌≡◌ {A = Option (Base m.state)} (Some b) None → ⊥
      none h = cc

  pub reached_some : (d : Option (told.Base m)) (b : Option (Base m.state)) (x : Base m.state) (below : ℕ) → KeepsMaybe m b d → b ≡ Some x → None ≡ unless d below
  reached_some (Some d) b x below k is = refl
  reached_some None (Some b) x below k is = absurd k
  reached_some None None x below k is = absurd (none is)
    where
      none : ◌≡◌ {A = Option (Base m.state)} None (Some x) → ⊥
      none h = cc

  gone_if : (d : Option (told.Base m)) (b below : ℕ) (p : Play m) → unless d b ≡ Some below → past_or_gone m d b p ≡ PastGone below
  gone_if None b below p is = ap (λ (n : ℕ). PastGone n) (same is)
    where
      same : Some b ≡ Some below → b ≡ below
      same h = cc
  gone_if (Some d) b below p is = absurd (none is)
    where
      none : ◌≡◌ {A = Option ℕ} None (Some below) → ⊥
      none h = cc

  gone_by : (es : Entries) (o : Oid) (pos below : ℕ) (t : Option ℕ) (p : Play m) → lost_by m es o pos t ≡ Some below → past_by m es o pos t p ≡ PastGone below
  gone_by es o pos below (Some b) p is = gone_if (last_base m es o b pos) b below p is
  gone_by es o pos below None p is = absurd (none is)
    where
      none : ◌≡◌ {A = Option ℕ} None (Some below) → ⊥
      none h = cc

  view_if : (d : Option (told.Base m)) (b : ℕ) (p : Play m) → unless d b ≡ None → past_or_gone m d b p ≡ PastView p
  view_if (Some d) b p is = refl
  view_if None b p is = absurd (some is)
    where
      some : ◌≡◌ {A = Option ℕ} (Some b) None → ⊥
      some h = cc

  view_by : (es : Entries) (o : Oid) (pos : ℕ) (t : Option ℕ) (p : Play m) → lost_by m es o pos t ≡ None → past_by m es o pos t p ≡ PastView p
  view_by es o pos (Some b) p is = view_if (last_base m es o b pos) b p is
  view_by es o pos None p is = refl

  -- ---- a base

  -- the object met no trim
  pub untrimmed_base : (es : Entries) (gone : TrimPoints) (objects : List Oid) (pos : ℕ) (o : Oid) (b : Base m.state) → None ≡ trim_of gone o → KeepsBase m b (fresh_base m objects o) → KeepsBase m b (past_base m es gone objects pos o)
  untrimmed_base es gone objects pos o b is k = subst (λ (t : Option ℕ). KeepsBase m b (past_base_by m es objects pos o t)) is k

  none_last : (d : Option (told.Base m)) (b : Option (Base m.state)) → KeepsMaybe m b d → b ≡ None → d ≡ None
  none_last None b k is = refl
  none_last (Some d) None k is = absurd k
  none_last (Some d) (Some b) k is = absurd (none is)
    where
      none : ◌≡◌ {A = Option (Base m.state)} (Some b) None → ⊥
      none h = cc

  view_is : (es : Entries) (gone : TrimPoints) (objects : List Oid) (pos : ℕ) (o : Oid) (below : ℕ) → trim_of gone o ≡ Some below → last_base m es o below pos ≡ None → view_base m es gone objects o ≡ past_base m es gone objects pos o
  unfolding view_base
  view_is es gone objects pos o below is last =
      ap (λ (t : Option ℕ). base_by m es objects o t) is
      ∙ ap (λ (d : Option (told.Base m)). past_base_or m es objects o below d) (sym last)
      ∙ ap (λ (t : Option ℕ). past_base_by m es objects pos o t) (sym is)

  -- no checkpoint reaches from the trim to the position
  pub unreached_base : (es : Entries) (gone : TrimPoints) (objects : List Oid) (pos : ℕ) (o : Oid) (below : ℕ) (b : Option (Base m.state)) (x : Base m.state)
      → trim_of gone o ≡ Some below → KeepsMaybe m b (last_base m es o below pos) → b ≡ None → KeepsBase m x (view_base m es gone objects o) → KeepsBase m x (past_base m es gone objects pos o)
  unreached_base es gone objects pos o below b x is k none h =
      subst (λ (d : told.Base m). KeepsBase m x d) (view_is es gone objects pos o below is (none_last (last_base m es o below pos) b k none)) h

  last_or : (es : Entries) (objects : List Oid) (o : Oid) (below : ℕ) (d : Option (told.Base m)) (b : Option (Base m.state)) (x : Base m.state) → KeepsMaybe m b d → b ≡ Some x → KeepsBase m x (past_base_or m es objects o below d)
  last_or es objects o below (Some d) (Some b) x k is =
      let same : b ≡ x = cc in
      subst (λ (y : Base m.state). KeepsBase m y d) same k
  last_or es objects o below (Some d) None x k is = absurd k
  last_or es objects o below None (Some b) x k is = absurd k
  last_or es objects o below None None x k is = absurd (none is)
    where
      none : ◌≡◌ {A = Option (Base m.state)} None (Some x) → ⊥
      none h = cc

  -- one does
  pub reached_base : (es : Entries) (gone : TrimPoints) (objects : List Oid) (pos : ℕ) (o : Oid) (below : ℕ) (b : Option (Base m.state)) (x : Base m.state)
      → trim_of gone o ≡ Some below → KeepsMaybe m b (last_base m es o below pos) → b ≡ Some x → KeepsBase m x (past_base m es gone objects pos o)
  reached_base es gone objects pos o below b x is k some =
      subst (λ (t : Option ℕ). KeepsBase m x (past_base_by m es objects pos o t)) (sym is) (last_or es objects o below (last_base m es o below pos) b x k some)

  -- ---- the bases

  -- bases so far, which with those of the rest are those of all
  abbrev pub Begun : List (Base m.state) → List (told.Base m) → List (told.Base m) → Type 0
  Begun bs rest ds = (cs : List (Base m.state)) → KeepsBases m cs rest → KeepsBases m (bs ++ cs) ds

  joined : {X : Type 0} (xs : List X) (y : X) (zs : List X) → (xs ++ y ∷ []) ++ zs ≡ xs ++ y ∷ zs
  joined [] y zs = refl
  joined {X} (x ∷ xs) y zs = ap (λ (l : List X). x ∷ l) (joined xs y zs)

  no_more : {X : Type 0} (xs : List X) → xs ++ [] ≡ xs
  no_more [] = refl
  no_more {X} (x ∷ xs) = ap (λ (l : List X). x ∷ l) (no_more xs)

  pub begun_first : (bs : List (Base m.state)) (ds : List (told.Base m)) → bs ≡ [] → Begun bs ds ds
  begun_first bs ds is cs k = subst (λ (l : List (Base m.state)). KeepsBases m (l ++ cs) ds) (sym is) k

  pub begun_more : (f : Oid → told.Base m) (os rest : List Oid) (o : Oid) (bs next : List (Base m.state)) (b : Base m.state) (ds : List (told.Base m)) → os ≡ o ∷ rest → next ≡ bs ++ b ∷ [] → KeepsBase m b (f o) → Begun bs (map f os) ds → Begun next (map f rest) ds
  begun_more f os rest o bs next b ds is more k h cs rests =
      subst (λ (l : List (Base m.state)). KeepsBases m l ds) (sym (ap (λ (l : List (Base m.state)). l ++ cs) more ∙ joined bs b cs))
      (h (b ∷ cs) (subst (λ (l : List Oid). KeepsBases m (b ∷ cs) (map f l)) (sym is) (k, rests)))

  pub begun_all : (f : Oid → told.Base m) (os : List Oid) (bs : List (Base m.state)) (ds : List (told.Base m)) → os ≡ [] → Begun bs (map f os) ds → KeepsBases m bs ds
  begun_all f os bs ds is h =
      subst (λ (l : List (Base m.state)). KeepsBases m l ds) (no_more bs)
      (h [] (subst (λ (l : List Oid). KeepsBases m [] (map f l)) (sym is) tt))

  -- ---- the view

  pub played_both : {E : Type 0} (r : Result (Kept m.state × PlayEnd) E) (p : Play m) → IfOk r (λ x. KeepsView m x.0 p.view) → IfOk r (λ x. x.1 ≡ p.came) → IfOk r (λ x. PlayedOn m x.0 x.1 p)
  played_both (Ok x) p v c = record { view = v; came = c }
  played_both (Err e) p v c = v

  pub gone_turn : (es : Entries) (gone : TrimPoints) (oids objects : List Oid) (o : Oid) (pos below : ℕ) (b : Option ℕ) → b ≡ lost_by m es o pos (trim_of gone o) → b ≡ Some below
      → KeepsTurn m (variants.Gone below) (past_at m es gone oids objects o pos)
  unfolding past_at
  gone_turn es gone oids objects o pos below b h is =
      subst (λ (t : PastTurn m). KeepsTurn m (variants.Gone below) t) (sym (gone_by es o pos below (trim_of gone o) (past_play m es gone oids objects pos) (sym h ∙ is))) refl

  pub view_turn : (es : Entries) (gone : TrimPoints) (oids objects : List Oid) (o : Oid) (pos : ℕ) (b : Option ℕ) (c : Kept m.state) (came : PlayEnd) → b ≡ lost_by m es o pos (trim_of gone o) → b ≡ None
      → PlayedOn m c came (past_play m es gone oids objects pos) → KeepsTurn m (variants.Played c came) (past_at m es gone oids objects o pos)
  unfolding past_at
  view_turn es gone oids objects o pos b c came h is k =
      subst (λ (t : PastTurn m). KeepsTurn m (variants.Played c came) t) (sym (view_by es o pos (trim_of gone o) (past_play m es gone oids objects pos) (sym h ∙ is))) k
