-- Entries that a client has, and the bases among them.
use Rattle.std.proofs.Common.{◌≡◌, ◌⊎◌, ℕ, ◌+◌, ◌≤◌, List, [], ◌∷◌, ◌++◌, Bool, true, false, refl, sym, ap, ◌∙◌, subst, inl, inr, arith, filter, cond, Option, Some, None}
use Rattle.std.specs.Prelude.{nat_le, ◌&&◌, ◌==◌, is_some, if◌then◌else◌}
use Rattle.tg_base.specs.declared.cell.Cell.{Cell}
use Rattle.tg_base.specs.declared.cell.Cell.TheVariants.{Junk, Data}
use Rattle.tg_base.specs.declared.ids.Oid.{Oid}
use Rattle.tg_entry.specs.declared.entry.Entry.{Entry}
use Rattle.tg_entry.specs.declared.entry.Body.{Body}
use Rattle.tg_entry.specs.declared.entry.Body.TheVariants.{Checkpoint}
use Rattle.tg_kind.specs.Meaning.{Meaning}
use Rattle.tg_protocol.specs.Words.{cell_at}
use Rattle.tg_base.specs.Orders.{oid_eq}
use Rattle.tg_protocol.specs.Versions.{Versions, based}
use Rattle.tg_protocol.specs.Views.{Entries, Base, entry_if}
use Rattle.tg_protocol.specs.Checkpoints.{trim_of, loaded, base_in, base_at, option_list, bases_in, lower, least_base, higher, greatest_base, within, from_upto, load_from}
use Rattle.tg_protocol.specs.Past.{last_base}
use Rattle.tg_protocol.specs.Clients.{entries_at}
use Rattle.tg_protocol.specs.Pages.{cell_entry}
use Rattle.tg_law_replies.specs.Plays.Sound.{rise_from}
use Rattle.tg_law_walks.specs.Walks.Streams.{rises}
use Rattle.tg_law_walks.specs.Walks.Rounds.{IsSaving}
use Rattle.tg_law_walks.proofs.Walks.Members.{Has, and_both, both_and, of_le, same_oid}
use Rattle.tg_law_walks.proofs.Walks.Cells.{less_rise, pair}

-- Where walks met a trim.

pub trim_split : (ts : List (Oid × ℕ)) (o p : Oid) (b c : ℕ) → trim_of (ts ++ (o, b) ∷ []) p ≡ Some c → (trim_of ts p ≡ Some c) ⊎ ((o ≡ p) × (b ≡ c))
trim_split [] o p b c h = by (oid_eq o p) refl h
  where
    by : (t : Bool) → oid_eq o p ≡ t → (if t then Some b else None) ≡ Some c → (None ≡ Some c) ⊎ ((o ≡ p) × (b ≡ c))
    by true e f = inr (same_oid o p e, cc)
    by false e f = inl f
trim_split (x ∷ ts) o p b c h = by (oid_eq x.0 p) h (λ k. trim_split ts o p b c k)
  where
    by : (t : Bool) → (if t then Some x.1 else trim_of (ts ++ (o, b) ∷ []) p) ≡ Some c → (trim_of (ts ++ (o, b) ∷ []) p ≡ Some c → (trim_of ts p ≡ Some c) ⊎ ((o ≡ p) × (b ≡ c))) →
        ((if t then Some x.1 else trim_of ts p) ≡ Some c) ⊎ ((o ≡ p) × (b ≡ c))
    by true f rest = inl f
    by false f rest = rest f

pub trim_none : (ts : List (Oid × ℕ)) (o p : Oid) (b : ℕ) → trim_of (ts ++ (o, b) ∷ []) p ≡ None → (trim_of ts p ≡ None) × (oid_eq o p ≡ false)
trim_none [] o p b h = by (oid_eq o p) refl h
  where
    by : (t : Bool) → oid_eq o p ≡ t → (if t then Some b else None) ≡ None → (trim_of [] p ≡ None) × (oid_eq o p ≡ false)
    by true e f = absurd (cc)
    by false e f = (refl, e)
trim_none (x ∷ ts) o p b h = by (oid_eq x.0 p) h (λ k. trim_none ts o p b k)
  where
    by : (t : Bool) → (if t then Some x.1 else trim_of (ts ++ (o, b) ∷ []) p) ≡ None → (trim_of (ts ++ (o, b) ∷ []) p ≡ None → (trim_of ts p ≡ None) × (oid_eq o p ≡ false)) →
        ((if t then Some x.1 else trim_of ts p) ≡ None) × (oid_eq o p ≡ false)
    by true f rest = absurd (cc)
    by false f rest = rest f

module _ (m : Meaning) where
  -- Entries at positions.

  some_entry : (a b : Entry) → Some a ≡ Some b → a ≡ b
  some_entry a b i = cc

  pub entries_have : (cells : List (ℕ × Cell)) (ps : List ℕ) (p : ℕ) (e : Entry) → Has (entries_at m cells ps) (p, e) → Has ps p × (cell_entry (cell_at cells p) ≡ Some e)
  unfolding entries_at
  entries_have cells [] p e i = absurd i
  entries_have cells (q ∷ ps) p e i = by (cell_entry (cell_at cells q)) refl i (λ j. entries_have cells ps p e j)
    where
      later : Has ps p × (cell_entry (cell_at cells p) ≡ Some e) → Has (q ∷ ps) p × (cell_entry (cell_at cells p) ≡ Some e)
      later h = (inr h.0, h.1)

      by : (d : Option Entry) → cell_entry (cell_at cells q) ≡ d → Has (entry_if q d (entries_at m cells ps)) (p, e) → (Has (entries_at m cells ps) (p, e) → Has ps p × (cell_entry (cell_at cells p) ≡ Some e)) →
          Has (q ∷ ps) p × (cell_entry (cell_at cells p) ≡ Some e)
      by None is j rest = later (rest j)
      by (Some d) is (inl s) rest =
          let at : p ≡ q = ap (λ (y : ℕ × Entry). y.0) s in (inl at, ap (λ n. cell_entry (cell_at cells n)) at ∙ (is ∙ ap (λ (y : ℕ × Entry). Some y.1) (sym s)))
      by (Some d) is (inr j) rest = later (rest j)

  pub have_entries : (cells : List (ℕ × Cell)) (ps : List ℕ) (p : ℕ) (e : Entry) → Has ps p → cell_entry (cell_at cells p) ≡ Some e → Has (entries_at m cells ps) (p, e)
  unfolding entries_at
  have_entries cells [] p e i h = absurd i
  have_entries cells (q ∷ ps) p e (inl s) h = by (cell_entry (cell_at cells q)) (ap (λ n. cell_entry (cell_at cells n)) (sym s) ∙ h)
    where
      by : (d : Option Entry) → d ≡ Some e → Has (entry_if q d (entries_at m cells ps)) (p, e)
      by None f = absurd (cc)
      by (Some d) f = inl (pair (p, e) (q, d) s (sym (some_entry d e f)))
  have_entries cells (q ∷ ps) p e (inr i) h = by (cell_entry (cell_at cells q)) (have_entries cells ps p e i h)
    where
      by : (d : Option Entry) → Has (entries_at m cells ps) (p, e) → Has (entry_if q d (entries_at m cells ps)) (p, e)
      by None j = j
      by (Some d) j = inr j

  pub entries_rising : (cells : List (ℕ × Cell)) (low : ℕ) (ps : List ℕ) → rises low ps ≡ true → rise_from low (entries_at m cells ps) ≡ true
  unfolding entries_at
  entries_rising cells low [] h = refl
  entries_rising cells low (q ∷ ps) h = by (cell_entry (cell_at cells q)) (entries_rising cells (q + 1) ps (and_both (nat_le low q) (rises (q + 1) ps) h).1)
    where
      first : low ≤ q
      first = let p = (and_both (nat_le low q) (rises (q + 1) ps) h).0 in grind arith

      by : (d : Option Entry) → rise_from (q + 1) (entries_at m cells ps) ≡ true → rise_from low (entry_if q d (entries_at m cells ps)) ≡ true
      by None rest = let le = first in less_rise (q + 1) low (entries_at m cells ps) (omega (arith, le)) rest
      by (Some d) rest = both_and (nat_le low q) (rise_from (q + 1) (entries_at m cells ps)) (and_both (nat_le low q) (rises (q + 1) ps) h).0 rest

  -- a known cell's entry is the log's
  pub known_entry : (x : Option Cell) (e : Entry) → cell_entry x ≡ Some e → (c : Cell) × (x ≡ Some c) × (cell_entry (Some c) ≡ Some e)
  known_entry None e h = absurd (cc)
  known_entry (Some Junk) e h = absurd (cc)
  known_entry (Some (Data d)) e h = (Data d, refl, h)

  -- Bases.

  some_base : (a b : Base m) → Some a ≡ Some b → a ≡ b
  some_base a b i = cc

  loaded_oid : (o : Oid) (upto : ℕ) (vs : Versions) (s : Option m.state) (b : Base m) → loaded m o upto vs s ≡ Some b → b.oid ≡ o
  loaded_oid o upto vs None b h = absurd (cc)
  loaded_oid o upto vs (Some s) b h = ap (λ (c : Base m). c.oid) (sym (some_base _ b h))

  base_in_oid : (o : Oid) (x : Body) (b : Base m) → base_in m o x ≡ Some b → b.oid ≡ o
  base_in_oid o (Checkpoint p upto version whole keys bytes) b h = by (oid_eq o p && nat_le version upto) h
    where
      by : (t : Bool) → (if t then loaded m o upto (based o version whole keys) (m.load o bytes) else None) ≡ Some b → b.oid ≡ o
      by true f = loaded_oid o upto (based o version whole keys) (m.load o bytes) b f
      by false f = absurd (cc)
  base_in_oid o x b h = absurd (cc)

  base_at_oid : (o : Oid) (e : Entry) (b : Base m) → base_at m o e ≡ Some b → b.oid ≡ o
  base_at_oid o e b h = by (e.head.format == 2) h
    where
      by : (t : Bool) → (if t then base_in m o e.body else None) ≡ Some b → b.oid ≡ o
      by true f = base_in_oid o e.body b f
      by false f = absurd (cc)

  has_left : {X : Type 0} (xs ys : List X) (y : X) → Has (xs ++ ys) y → Has xs y ⊎ Has ys y
  has_left [] ys y i = inr i
  has_left (x ∷ xs) ys y (inl e) = inl (inl e)
  has_left (x ∷ xs) ys y (inr i) = by (has_left xs ys y i)
    where
      by : Has xs y ⊎ Has ys y → Has (x ∷ xs) y ⊎ Has ys y
      by (inl j) = inl (inr j)
      by (inr j) = inr j

  has_right : {X : Type 0} (xs ys : List X) (y : X) → Has ys y → Has (xs ++ ys) y
  has_right [] ys y i = i
  has_right (x ∷ xs) ys y i = inr (has_right xs ys y i)

  -- an entry that gives a base
  pub record Gives (es : Entries) (o : Oid) (b : Base m) : Type 0 where
    pub at : ℕ
    pub entry : Entry
    pub here : Has es (at, entry)
    pub is : base_at m o entry ≡ Some b

  gives_later : (x : ℕ × Entry) (es : Entries) (o : Oid) (b : Base m) → Gives es o b → Gives (x ∷ es) o b
  gives_later x es o b g = record { at = g.at; entry = g.entry; here = inr g.here; is = g.is }

  gives : (es : Entries) (o : Oid) (b : Base m) → Has (bases_in m es o) b → Gives es o b
  unfolding bases_in
  gives [] o b i = absurd i
  gives (x ∷ es) o b i = by (has_left (option_list m (base_at m o x.1)) (bases_in m es o) b i) (λ j. gives es o b j)
    where
      first : (d : Option (Base m)) → base_at m o x.1 ≡ d → Has (option_list m d) b → base_at m o x.1 ≡ Some b
      first None is j = absurd j
      first (Some d) is (inl e) = is ∙ ap (λ (c : Base m). Some c) (sym e)
      first (Some d) is (inr j) = absurd j

      by : Has (option_list m (base_at m o x.1)) b ⊎ Has (bases_in m es o) b → (Has (bases_in m es o) b → Gives es o b) → Gives (x ∷ es) o b
      by (inl j) rest = record { at = x.0; entry = x.1; here = inl refl; is = first (base_at m o x.1) refl j }
      by (inr j) rest = gives_later x es o b (rest j)

  given : (es : Entries) (o : Oid) (p : ℕ) (e : Entry) (b : Base m) → Has es (p, e) → base_at m o e ≡ Some b → Has (bases_in m es o) b
  unfolding bases_in
  given [] o p e b i h = absurd i
  given (x ∷ es) o p e b (inl s) h =
      subst (λ (d : Option (Base m)). Has (option_list m d ++ bases_in m es o) b) (sym (ap (λ (y : ℕ × Entry). base_at m o y.1) (sym s) ∙ h)) (inl refl)
  given (x ∷ es) o p e b (inr i) h = has_right (option_list m (base_at m o x.1)) (bases_in m es o) b (given es o p e b i h)

  -- the least of those that pass is one of them
  abbrev Picked : (Base m → Bool) → List (Base m) → Base m → Type 0
  Picked f bs b = Has bs b × (f b ≡ true)

  picked_low : (b : Base m) (x : Option (Base m)) → (lower m b x ≡ b) ⊎ (x ≡ Some (lower m b x))
  picked_low b None = inl refl
  picked_low b (Some c) = by (nat_le b.upto c.upto)
    where
      by : (t : Bool) → ((if t then b else c) ≡ b) ⊎ (Some c ≡ Some (if t then b else c))
      by true = inl refl
      by false = inr refl

  picked : (f : Base m → Bool) (bs : List (Base m)) (b : Base m) → least_base m (filter f bs) ≡ Some b → Picked f bs b
  picked f [] b h = absurd (cc)
  picked f (x ∷ bs) b h = by (f x) refl h (λ k. picked f bs b k)
    where
      later : Picked f bs b → Picked f (x ∷ bs) b
      later k = (inr k.0, k.1)

      on : (lower m x (least_base m (filter f bs)) ≡ x) ⊎ (least_base m (filter f bs) ≡ Some (lower m x (least_base m (filter f bs)))) → f x ≡ true → lower m x (least_base m (filter f bs)) ≡ b →
          (least_base m (filter f bs) ≡ Some b → Picked f bs b) → Picked f (x ∷ bs) b
      on (inl e) t g rest = let is : x ≡ b = sym e ∙ g in (inl (sym is), ap f (sym is) ∙ t)
      on (inr e) t g rest = later (rest (e ∙ ap (λ (c : Base m). Some c) g))

      by : (t : Bool) → f x ≡ t → least_base m (cond t (x ∷ filter f bs) (filter f bs)) ≡ Some b → (least_base m (filter f bs) ≡ Some b → Picked f bs b) → Picked f (x ∷ bs) b
      by true t g rest = on (picked_low x (least_base m (filter f bs))) t (some_base _ b g) rest
      by false t g rest = later (rest g)

  least_some : (f : Base m → Bool) (bs : List (Base m)) (b : Base m) → Has bs b → f b ≡ true → is_some (least_base m (filter f bs)) ≡ true
  least_some f [] b i t = absurd i
  least_some f (x ∷ bs) b (inl e) t = ap (λ (c : Bool). is_some (least_base m (cond c (x ∷ filter f bs) (filter f bs)))) (ap f (sym e) ∙ t)
  least_some f (x ∷ bs) b (inr i) t = by (f x) (least_some f bs b i t)
    where
      by : (c : Bool) → is_some (least_base m (filter f bs)) ≡ true → is_some (least_base m (cond c (x ∷ filter f bs) (filter f bs))) ≡ true
      by true k = refl
      by false k = k

  -- a loaded base: an entry gives it, and it reaches the trim
  pub load_gives : (es : Entries) (o : Oid) (below : ℕ) (b : Base m) → load_from m es o below ≡ Some b → Gives es o b × (below ≤ b.upto) × (b.oid ≡ o)
  unfolding load_from
  load_gives es o below b h =
      let p = picked (from_upto m below) (bases_in m es o) b h in let g = gives es o b p.0 in let t = p.1 in (g, le below b.upto t, base_at_oid o g.entry b g.is)
    where
      le : (x y : ℕ) → nat_le x y ≡ true → x ≤ y
      le x y e = grind arith

  pub gives_load : (es : Entries) (o : Oid) (below : ℕ) (p : ℕ) (e : Entry) → Has es (p, e) → IsSaving m o below e → is_some (load_from m es o below) ≡ true
  unfolding load_from
  gives_load es o below p e i s = least_some (from_upto m below) (bases_in m es o) s.base (given es o p e s.base i s.is) (of_le below s.base.upto s.reaches)

  -- the greatest of those that pass is one of them
  high_either : (b : Base m) (x : Option (Base m)) → (higher m b x ≡ b) ⊎ (x ≡ Some (higher m b x))
  high_either b None = inl refl
  high_either b (Some c) = by (nat_le c.upto b.upto)
    where
      by : (t : Bool) → ((if t then b else c) ≡ b) ⊎ (Some c ≡ Some (if t then b else c))
      by true = inl refl
      by false = inr refl

  picked_high : (f : Base m → Bool) (bs : List (Base m)) (b : Base m) → greatest_base m (filter f bs) ≡ Some b → Picked f bs b
  picked_high f [] b h = absurd (cc)
  picked_high f (x ∷ bs) b h = by (f x) refl h (λ k. picked_high f bs b k)
    where
      later : Picked f bs b → Picked f (x ∷ bs) b
      later k = (inr k.0, k.1)

      on : (higher m x (greatest_base m (filter f bs)) ≡ x) ⊎ (greatest_base m (filter f bs) ≡ Some (higher m x (greatest_base m (filter f bs)))) → f x ≡ true → higher m x (greatest_base m (filter f bs)) ≡ b →
          (greatest_base m (filter f bs) ≡ Some b → Picked f bs b) → Picked f (x ∷ bs) b
      on (inl e) t g rest = let is : x ≡ b = sym e ∙ g in (inl (sym is), ap f (sym is) ∙ t)
      on (inr e) t g rest = later (rest (e ∙ ap (λ (c : Base m). Some c) g))

      by : (t : Bool) → f x ≡ t → greatest_base m (cond t (x ∷ filter f bs) (filter f bs)) ≡ Some b → (greatest_base m (filter f bs) ≡ Some b → Picked f bs b) → Picked f (x ∷ bs) b
      by true t g rest = on (high_either x (greatest_base m (filter f bs))) t (some_base _ b g) rest
      by false t g rest = later (rest g)

  pub last_gives : (es : Entries) (o : Oid) (n pos : ℕ) (b : Base m) → last_base m es o n pos ≡ Some b → (n ≤ b.upto) × (b.oid ≡ o)
  last_gives es o n pos b h =
      let p = picked_high (within m n pos) (bases_in m es o) b h in let g = gives es o b p.0 in let t = (and_both (nat_le n b.upto) (nat_le b.upto pos) p.1).0 in (le n b.upto t, base_at_oid o g.entry b g.is)
    where
      le : (x y : ℕ) → nat_le x y ≡ true → x ≤ y
      le x y e = grind arith
