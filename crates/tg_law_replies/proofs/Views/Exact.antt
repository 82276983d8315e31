-- New views over exact entries are true: those of plays, of past positions and of rescues.
use Rattle.std.proofs.Common.{◌≡◌, ℕ, ◌+◌, ◌<◌, ◌≤◌, max, List, [], ◌∷◌, map, Bool, true, false, refl, sym, ap, ◌∙◌, subst, inl, inr, arith, Option, Some, None, Contains}
use Rattle.std.specs.Prelude.{nat_le, if◌then◌else◌, filter, cond}
use Rattle.tg_base.specs.declared.ids.Oid.{Oid}
use Rattle.tg_entry.specs.declared.entry.Entry.{Entry}
use Rattle.tg_kind.specs.Meaning.{Meaning}
use Rattle.tg_model.specs.declared.play.PlayEnd.TheVariants.{Played}
use Rattle.tg_base.specs.Orders.{oid_eq}
use Rattle.tg_protocol.specs.Entries.{lists}
use Rattle.tg_protocol.specs.Views.{Entries, Base, View, Play, base_of, base_state, state_in, state_of, fate_of, fresh_base, view_start, play}
use Rattle.tg_protocol.specs.Checkpoints.{TrimPoints, trim_of, base_at, bases_in, from_upto, within, load_from, base_or, base_by, view_base, view_bases, higher, greatest_base, least_base}
use Rattle.tg_protocol.specs.Past.{commit_at, PastView, PastGone, last_base, past_base_or, past_base_by, past_base, past_play, past_or_gone, past_by, past_at}
use Rattle.tg_law_replies.specs.Plays.Sound.{IsRising, base_among}
use Rattle.tg_law_replies.specs.History.Logs.{AreListed}
use Rattle.tg_law_replies.proofs.History.Members.{Has, has_contained, contained_has, same_oid, oid_itself, and_both, contrary, has_kept}
use Rattle.tg_law_replies.specs.Views.Walks.{AreTrueFinds, NewViewsTrue, PastViewsTrue, RescuesJudge}
use Rattle.tg_law_replies.specs.Views.Views.{IsTrueBase, IsTrueView, AreTrueDecisions, AreEntriesFor, CanJudge}
use Rattle.tg_law_replies.specs.Views.Looking.{IsTrueAt, IsRescuer}
use Rattle.tg_law_replies.specs.Views.Exact.{low_of, or_first, AreExact}
use Rattle.tg_law_replies.proofs.Views.Plays.{starts_true, plays_true, fresh_true, played_stands}
use Rattle.tg_law_replies.proofs.Views.Settled.{plays_further, plays_fated}
use Rattle.tg_law_replies.proofs.Views.Records.{commit_there}
use Rattle.tg_law_replies.proofs.Views.Bases.{in_entries, least_has, oid_loaded}

has_passed : {X : Type 0} → (f : X → Bool) (xs : List X) (x : X) → Has (filter f xs) x → f x ≡ true
has_passed f [] x i = absurd i
has_passed f (y ∷ xs) x i = by (f y) refl i (has_passed f xs x)
  where
    by : (b : Bool) → f y ≡ b → Has (if b then y ∷ filter f xs else filter f xs) x → (Has (filter f xs) x → f x ≡ true) → f x ≡ true
    by true is (inl e) rest = ap f e ∙ is
    by true is (inr j) rest = rest j
    by false is j rest = rest j

at_most : (a b : ℕ) → nat_le a b ≡ true → a ≤ b
at_most a b h = grind arith

module _ (m : Meaning) where
  none_is : (b : Base m) → None ≡ Some b → ⊥
  none_is b e = cc

  one_is : (a b : Base m) → Some a ≡ Some b → a ≡ b
  one_is a b e = cc

  greatest_has : (bs : List (Base m)) (c : Base m) → greatest_base m bs ≡ Some c → Has bs c
  greatest_has [] c e = absurd (none_is c e)
  greatest_has (b ∷ bs) c e = by (greatest_base m bs) refl (one_is (higher m b (greatest_base m bs)) c e) (λ d is. greatest_has bs d is)
    where
      by : (o : Option (Base m)) → greatest_base m bs ≡ o → higher m b o ≡ c → ((d : Base m) → greatest_base m bs ≡ Some d → Has bs d) → Has (b ∷ bs) c
      by None is k rest = inl (sym k)
      by (Some d) is k rest = if_high (nat_le d.upto b.upto) k
        where
          if_high : (t : Bool) → (if t then b else d) ≡ c → Has (b ∷ bs) c
          if_high true j = inl (sym j)
          if_high false j = inr (subst (λ (x : Base m). Has bs x) j (rest d is))

  -- the bases that are made one for each object
  among_made : (f : Oid → Base m) (os : List Oid) (o : Oid) (b : Base m) → ((x : Oid) → Has os x → (f x).oid ≡ x) → base_among m (map f os) o ≡ Some b → Has os o × (b ≡ f o)
  among_made f [] o b of is = absurd (none_is b is)
  among_made f (x ∷ os) o b of is = by (oid_eq (f x).oid o) refl is (among_made f os o b (λ y i. of y (inr i)))
    where
      by : (t : Bool) → oid_eq (f x).oid o ≡ t → cond t (Some (f x)) (base_among m (map f os) o) ≡ Some b → (base_among m (map f os) o ≡ Some b → Has os o × (b ≡ f o)) → Has (x ∷ os) o × (b ≡ f o)
      by true e k rest =
          let same : x ≡ o = sym (of x (inl refl)) ∙ same_oid (f x).oid o e in
          (inl (sym same), sym (one_is (f x) b k) ∙ ap f same)
      by false e k rest = let r = rest k in (inr r.0, r.1)

  -- each of these objects has one
  pub made_there : (f : Oid → Base m) (os : List Oid) (o : Oid) → ((x : Oid) → Has os x → (f x).oid ≡ x) → Has os o → (b : Base m) × (base_among m (map f os) o ≡ Some b)
  made_there f [] o of i = absurd i
  made_there f (x ∷ os) o of i = by (oid_eq (f x).oid o) refl i (made_there f os o (λ y j. of y (inr j)))
    where
      by : (t : Bool) → oid_eq (f x).oid o ≡ t → Has (x ∷ os) o → (Has os o → (b : Base m) × (base_among m (map f os) o ≡ Some b)) → (b : Base m) × (cond t (Some (f x)) (base_among m (map f os) o) ≡ Some b)
      by true e j rest = (f x, refl)
      by false e (inl same) rest = absurd (contrary (oid_eq (f x).oid o) e (ap (λ (y : Oid). oid_eq y o) (of x (inl refl) ∙ sym same) ∙ oid_itself o))
      by false e (inr j) rest = rest j

  -- an object of which a new view has a state has a base
  pub state_based : (bs : List (Base m)) (o : Oid) (s : m.state) → state_in m (map (base_state m) bs) o ≡ Some s → (b : Base m) × (base_among m bs o ≡ Some b)
  state_based [] o s is = absurd (none is)
    where
      none : None ≡ Some s → ⊥
      none z = cc
  state_based (b ∷ bs) o s is = by (oid_eq b.oid o) is (state_based bs o s)
    where
      by : (t : Bool) → (if t then Some b.state else state_in m (map (base_state m) bs) o) ≡ Some s → (state_in m (map (base_state m) bs) o ≡ Some s → (c : Base m) × (base_among m bs o ≡ Some c))
          → (c : Base m) × (cond t (Some b) (base_among m bs o) ≡ Some c)
      by true k rest = (b, refl)
      by false k rest = rest k

  -- A play goes past a record that it can decide only with a fate.
  pub judges_new : (own : Entries) (v : View m) (upto p : ℕ) (e : Entry) → IsRising own → commit_at own p ≡ Some e → v.upto ≤ p → p < (play m v own upto).view.upto
      → fate_of m (play m v own upto).view p ≡ None → CanJudge m (play m v own upto).view own p e
  judges_new own v upto p e rising here low less none undecided known =
      let at = commit_there m own p e here in
      let f = plays_fated m own v upto p e rising at.0 at.1 low less (λ k. known) in
      λ r i b is le. absurd (no f.0 (sym none ∙ f.1))
    where
      no : (b : Bool) → None ≡ Some b → ⊥
      no b z = cc

module _ (m : Meaning) (objects : List Oid) (es : Entries) (rising : IsRising es) (listed : AreListed es) (own : Entries) (gone : TrimPoints) (oids : List Oid) (tail : ℕ) (exact : AreExact m es own gone oids tail)
    (good : (p : ℕ) (e : Entry) (x : Oid) (b : Base m) → Has own (p, e) → base_at m x e ≡ Some b → IsTrueBase m objects es x b) where
  -- a base of an object is so, and nothing of the object that its walk didn't find comes after it
  pub record IsFirm (o : Oid) (b : Base m) : Type 0 where
    pub of : b.oid ≡ o
    pub so : IsTrueBase m objects es o b
    pub from : (p : ℕ) (e : Entry) → Contains es (p, e) → lists e o ≡ true → b.upto ≤ p → low_of gone o ≤ p

  found_firm : (o : Oid) (below : ℕ) (b : Base m) → trim_of gone o ≡ Some below → Has (bases_in m own o) b → below ≤ b.upto → IsFirm o b
  found_firm o below b is i le =
      let e = in_entries m objects es rising own o b i in
      record {
        of = oid_loaded m objects es rising o b e.entry e.is;
        so = good e.at e.entry o b e.here e.is;
        from = λ p d j l low. subst (λ (t : Option ℕ). or_first t ≤ p) (sym is) (omega (arith, le, low));
      }

  fresh_firm : (o : Oid) → ((p : ℕ) (e : Entry) → Contains es (p, e) → lists e o ≡ true → low_of gone o ≤ p) → IsFirm o (fresh_base m objects o)
  fresh_firm o from = record { of = refl; so = fresh_true m objects es o rising; from = λ p e i l low. from p e i l }

  loaded_firm : (o : Oid) (below : ℕ) → Contains oids o → trim_of gone o ≡ Some below → IsFirm o (base_or m objects o (load_from m own o below))
  unfolding load_from
  loaded_firm o below io is = by (load_from m own o below) refl
    where
      lies : (b : Base m) → load_from m own o below ≡ Some b → Has (filter (from_upto m below) (bases_in m own o)) b
      lies b k = least_has m objects es rising (filter (from_upto m below) (bases_in m own o)) b k

      by : (b : Option (Base m)) → load_from m own o below ≡ b → IsFirm o (base_or m objects o b)
      by None none = fresh_firm o (λ p e i l. subst (λ (t : Option ℕ). or_first t ≤ p) (sym is) (exact.none_below o below p e io is none i l))
      by (Some b) k =
          let i = lies b k in
          found_firm o below b is (has_kept (from_upto m below) (bases_in m own o) b i) (at_most below b.upto (has_passed (from_upto m below) (bases_in m own o) b i))

  first_firm : (o : Oid) → trim_of gone o ≡ None → IsFirm o (fresh_base m objects o)
  first_firm o is = fresh_firm o (λ p e i l. subst (λ (t : Option ℕ). or_first t ≤ p) (sym is) (omega arith))

  new_firm : (o : Oid) → Contains oids o → IsFirm o (view_base m own gone objects o)
  unfolding view_base
  new_firm o io = by (trim_of gone o) refl
    where
      by : (t : Option ℕ) → trim_of gone o ≡ t → IsFirm o (base_by m own objects o t)
      by None is = first_firm o is
      by (Some below) is = loaded_firm o below io is

  last_is : (o : Oid) (below pos : ℕ) (b : Base m) → last_base m own o below pos ≡ Some b → Has (bases_in m own o) b × ((below ≤ b.upto) × (b.upto ≤ pos))
  last_is o below pos b k =
      let i = greatest_has m (filter (within m below pos) (bases_in m own o)) b k in
      let t = and_both (nat_le below b.upto) (nat_le b.upto pos) (has_passed (within m below pos) (bases_in m own o) b i) in
      (has_kept (within m below pos) (bases_in m own o) b i, (at_most below b.upto t.0, at_most b.upto pos t.1))

  past_firm : (pos : ℕ) (o : Oid) → Contains oids o → IsFirm o (past_base m own gone objects pos o)
  past_firm pos o io = by (trim_of gone o) refl
    where
      last : (below : ℕ) → trim_of gone o ≡ Some below → (b : Option (Base m)) → last_base m own o below pos ≡ b → IsFirm o (past_base_or m own objects o below b)
      last below is None k = loaded_firm o below io is
      last below is (Some b) k = let l = last_is o below pos b k in found_firm o below b is l.0 l.1.0

      by : (t : Option ℕ) → trim_of gone o ≡ t → IsFirm o (past_base_by m own objects pos o t)
      by None is = first_firm o is
      by (Some below) is = last below is (last_base m own o below pos) refl

  -- Views that begin with firm bases.

  module _ (f : Oid → Base m) (firm : (o : Oid) → Contains oids o → IsFirm o (f o)) where
    based_by : (o : Oid) (b : Base m) → base_among m (map f oids) o ≡ Some b → Contains oids o × (b ≡ f o)
    based_by o b is = let r = among_made m f oids o b (λ x i. (firm x (contained_has oids x i)).of) is in (contained_has oids o r.0, r.1)

    begins_true : IsTrueView m objects es (view_start m (map f oids))
    begins_true = starts_true m objects es (map f oids) rising (λ o b is. let r = based_by o b is in subst (λ (c : Base m). IsTrueBase m objects es o c) (sym r.1) (firm o r.0).so)

    begins_with : (upto : ℕ) → upto ≤ tail → AreEntriesFor m objects es (view_start m (map f oids)) own upto
    unfolding view_start
    begins_with upto le = record {
      rising = exact.rising;
      only = exact.only;
      all = λ o b p e is i l low less.
          let r = based_by o b is in
          exact.all o p e r.0 i l ((firm o r.0).from p e i l (subst (λ (c : Base m). c.upto ≤ p) r.1 (above b.upto p low))) (omega (arith, less, le));
    }
      where
        above : (u p : ℕ) → max 0 u ≤ p → u ≤ p
        above u p h = omega (arith, h)

    played_true : AreTrueDecisions m objects es own → (upto : ℕ) → upto ≤ tail → IsTrueView m objects es (play m (view_start m (map f oids)) own upto).view
    played_true decisions upto le = plays_true m objects es own (view_start m (map f oids)) upto rising listed decisions (begins_with upto le) begins_true

    begins_low : (upto : ℕ) → (view_start m (map f oids)).upto ≤ upto
    unfolding view_start
    begins_low upto = omega arith

    -- what a state is told of has its base
    played_based : (upto : ℕ) (o : Oid) (s : m.state) → state_of m (play m (view_start m (map f oids)) own upto).view o ≡ Some s
        → Contains oids o × (base_of m (play m (view_start m (map f oids)) own upto).view o ≡ Some (f o))
    unfolding view_start
    played_based upto o s is =
        let k = plays_further m own (view_start m (map f oids)) upto in
        let t = k.states o s is in
        let b = state_based m (map f oids) o t.0 t.1 in
        let r = based_by o b.0 b.1 in
        (r.0, ap (λ (bs : List (Base m)). base_among m bs o) k.bases ∙ (b.1 ∙ ap (λ (c : Base m). Some c) r.1))

  -- A new view to play.

  pub record IsNewView (v : View m) : Type 0 where
    pub entries : (upto : ℕ) → upto ≤ tail → AreEntriesFor m objects es v own upto
    pub low : (upto : ℕ) → v.upto ≤ upto
    pub hosts : (o : Oid) → Contains oids o → (b : Base m) × (base_of m v o ≡ Some b) × (b.upto ≤ tail)
    pub based : (o : Oid) (t : m.state) → state_of m v o ≡ Some t → (b : Base m) × (base_of m v o ≡ Some b) × (b.upto ≤ tail)

  -- where what is saved stands below the tail, so does a new view's base
  base_low : ((p : ℕ) (e : Entry) (o : Oid) (b : Base m) → Has own (p, e) → base_at m o e ≡ Some b → b.upto ≤ tail) → (o : Oid) → (view_base m own gone objects o).upto ≤ tail
  unfolding view_base load_from
  base_low saved o = by (trim_of gone o)
    where
      from : (below : ℕ) (b : Option (Base m)) → least_base m (filter (from_upto m below) (bases_in m own o)) ≡ b → (base_or m objects o b).upto ≤ tail
      from below None k = omega arith
      from below (Some b) k =
          let e = in_entries m objects es rising own o b (has_kept (from_upto m below) (bases_in m own o) b (least_has m objects es rising (filter (from_upto m below) (bases_in m own o)) b k)) in
          saved e.at e.entry o b e.here e.is

      by : (t : Option ℕ) → (base_by m own objects o t).upto ≤ tail
      by None = omega arith
      by (Some below) = from below (least_base m (filter (from_upto m below) (bases_in m own o))) refl

  pub new_view : ((p : ℕ) (e : Entry) (o : Oid) (b : Base m) → Has own (p, e) → base_at m o e ≡ Some b → b.upto ≤ tail) → IsNewView (view_start m (view_bases m own gone objects oids))
  unfolding view_bases view_start
  new_view saved = record {
    entries = λ upto le. begins_with (view_base m own gone objects) new_firm upto le;
    low = λ upto. begins_low (view_base m own gone objects) new_firm upto;
    hosts = λ o i.
        let b = made_there m (view_base m own gone objects) oids o (λ x j. (new_firm x (contained_has oids x j)).of) (has_contained oids o i) in
        let r = based_by (view_base m own gone objects) new_firm o b.0 b.1 in
        (b.0, b.1, subst (λ (c : Base m). c.upto ≤ tail) (sym r.1) (base_low saved o));
    based = λ o t is.
        let b = state_based m (map (view_base m own gone objects) oids) o t is in
        let r = based_by (view_base m own gone objects) new_firm o b.0 b.1 in
        (b.0, b.1, subst (λ (c : Base m). c.upto ≤ tail) (sym r.1) (base_low saved o));
  }

  -- Past views.

  past_play_is : (o : Oid) (pos : ℕ) (v : Play m) → past_at m own gone oids objects o pos ≡ PastView v → (past_play m own gone oids objects pos ≡ v) × ((past_base m own gone objects pos o).upto ≤ pos)
  unfolding past_at
  past_play_is o pos v is = by (trim_of gone o) is
    where
      one : (x y : Play m) → PastView x ≡ PastView y → x ≡ y
      one x y e = cc

      no : (b : ℕ) (y : Play m) → PastGone b ≡ PastView y → ⊥
      no b y e = cc

      last : (below : ℕ) (b : Option (Base m)) → last_base m own o below pos ≡ b → past_or_gone m b below (past_play m own gone oids objects pos) ≡ PastView v
          → (past_play m own gone oids objects pos ≡ v) × ((past_base_or m own objects o below b).upto ≤ pos)
      last below None k e = absurd (no below v e)
      last below (Some b) k e = (one (past_play m own gone oids objects pos) v e, (last_is o below pos b k).1.1)

      by : (t : Option ℕ) → past_by m own o pos t (past_play m own gone oids objects pos) ≡ PastView v → (past_play m own gone oids objects pos ≡ v) × ((past_base_by m own objects pos o t).upto ≤ pos)
      by None e = (one (past_play m own gone oids objects pos) v e, omega arith)
      by (Some below) e = last below (last_base m own o below pos) refl e

  -- the view of a past position that isn't ahead stands there
  pub past_at_tail : AreTrueDecisions m objects es own → (o : Oid) (pos : ℕ) (v : Play m) (t : ℕ) → pos ≤ tail → past_at m own gone oids objects o pos ≡ PastView v → v.came ≡ Played t → IsTrueAt m objects es v.view pos o
  past_at_tail decisions o pos v t le is came =
      let r = past_play_is o pos v is in
      subst (λ (y : Play m). IsTrueAt m objects es y.view pos o) r.0 (record {
        so = played_true (past_base m own gone objects pos) (past_firm pos) decisions pos le;
        stands = played_stands m own pos t (view_start m (map (past_base m own gone objects pos) oids)) (begins_low (past_base m own gone objects pos) (past_firm pos) pos) (ap (λ (y : Play m). y.came) r.0 ∙ came);
        based = λ s k. let b = played_based (past_base m own gone objects pos) (past_firm pos) pos o s k in (past_base m own gone objects pos o, b.1, r.1);
      })

  -- Rescues.

  pub rescuer : AreTrueDecisions m objects es own → (p : ℕ) (e : Entry) → p < tail → commit_at own p ≡ Some e → IsRescuer m objects es own gone oids objects p e
  unfolding view_bases
  rescuer decisions p e less here = record {
    only = exact.only;
    decisions = decisions;
    so = so;
    judge = λ t came none. record {
      so = so;
      decisions = decisions;
      here = exact.only p e (contained_has own (p, e) (commit_there m own p e here).0);
      commit = (commit_there m own p e here).1;
      can = judges_new m own (view_start m (map (view_base m own gone objects) oids)) (p + 1) p e exact.rising here (begins_low (view_base m own gone objects) new_firm p)
          (let at = played_stands m own (p + 1) t (view_start m (map (view_base m own gone objects) oids)) (begins_low (view_base m own gone objects) new_firm (p + 1)) came in omega (arith, at)) none;
    };
  }
    where
      so : IsTrueView m objects es (play m (view_start m (map (view_base m own gone objects) oids)) own (p + 1)).view
      so = played_true (view_base m own gone objects) new_firm decisions (p + 1) (omega (arith, less))

-- The same, over true finds.

module _ (m : Meaning) (objects oids : List Oid) (es own : Entries) (gone : TrimPoints) (tail : ℕ) (rising : IsRising es) (listed : AreListed es) (found : AreTrueFinds m objects es own gone oids tail) where
  good_in : (p : ℕ) (e : Entry) (o : Oid) (b : Base m) → Has own (p, e) → base_at m o e ≡ Some b → IsTrueBase m objects es o b
  good_in p e o b i is = found.checkpoints p e o b (contained_has own (p, e) i) is

  new_true : (upto : ℕ) → upto ≤ tail → IsTrueView m objects es (play m (view_start m (view_bases m own gone objects oids)) own upto).view
  unfolding view_bases
  new_true upto le =
      played_true m objects es rising listed own gone oids tail found.exact good_in (view_base m own gone objects) (new_firm m objects es rising listed own gone oids tail found.exact good_in) found.decisions upto le

  past_true : (p t : ℕ) (o : Oid) (v : Play m) → p ≤ tail → past_at m own gone oids objects o p ≡ PastView v → v.came ≡ Played t → IsTrueAt m objects es v.view p o
  past_true p t o v le is came = past_at_tail m objects es rising listed own gone oids tail found.exact good_in found.decisions o p v t le is came

  rescue_judges : (p : ℕ) (e : Entry) → p < tail → commit_at own p ≡ Some e → IsRescuer m objects es own gone oids objects p e
  rescue_judges p e less here = rescuer m objects es rising listed own gone oids tail found.exact good_in found.decisions p e less here

pub new_views_true : (m : Meaning) → NewViewsTrue m
new_views_true m objects oids es own gone tail upto rising listed found le = new_true m objects oids es own gone tail rising listed found upto le

pub past_views_true : (m : Meaning) → PastViewsTrue m
past_views_true m objects oids es own gone tail p t o v rising listed found le is came = past_true m objects oids es own gone tail rising listed found p t o v le is came

pub rescues_judge : (m : Meaning) → RescuesJudge m
rescues_judge m objects oids es own gone tail p e rising listed found less here = rescue_judges m objects oids es own gone tail rising listed found p e less here
