-- Of a client's view: its versions are numbers of eight bytes, and those of lawful bases; the parts that it names are parts of the
-- format, as far as ops touch no others.
use Rattle.std.proofs.Common.{◌≡◌, ℕ, ◌-◌, ◌<◌, ◌≤◌, ◌^◌, Bool, true, false, cond, List, [], ◌∷◌, ◌++◌, Option, Some, None, refl, sym, subst, inl, inr, arith}
use Rattle.std.specs.Prelude.{filter, find, not, ◌&&◌, ◌==◌, nat_lt, nat_le, is_some}
use Rattle.tg_base.specs.declared.cell.Cell.{Cell}
use Rattle.tg_base.specs.declared.cell.Cell.TheVariants.{Junk, Data}
use Rattle.tg_base.specs.declared.ids.Oid.{Oid}
use Rattle.tg_base.specs.declared.marks.Part.{Part}
use Rattle.tg_base.specs.declared.marks.Part.TheVariants.{All, Text, Num}
use Rattle.tg_entry.specs.declared.entry.Body.{Body}
use Rattle.tg_entry.specs.declared.entry.Body.TheVariants.{Commit, Decision, Checkpoint}
use Rattle.tg_entry.specs.declared.entry.Entry.{Entry}
use Rattle.tg_entry.specs.declared.entry.WriteOp.{WriteOp}
use Rattle.tg_kind.specs.Meaning.{Meaning}
use Rattle.tg_protocol.specs.Words.{cell_at}
use Rattle.tg_base.specs.Parts.{is_part}
use Rattle.tg_kind.specs.Parts.{part_eq, overlap}
use Rattle.tg_base.specs.Orders.{oid_eq}
use Rattle.tg_protocol.specs.Pages.{entry_of, cell_entry}
use Rattle.tg_entry.specs.Needs.{writes_of, needs_decision}
use Rattle.tg_protocol.specs.Entries.{is_commit}
use Rattle.tg_protocol.specs.Versions.{Based, PartVersion, no_versions, based, key_version, version_in, base_version, noted_or, version_of}
use Rattle.tg_protocol.specs.Views.{Entries, decision_in, Verdict, Commits, Aborts, Unknown, Base, View, view_start, base_of, played_version, view_version, touched, applied, state_of, set_state, write_by, plays, write, write_all, with_fate, with_verdict, with_open, Play, stands_at, Step, On, Stuck, decided_step, record_step, entry_step, step_at, passed_over, verdict, between, play_on, play_from, play, entry_if}
use Rattle.tg_protocol.specs.Checkpoints.{TrimPoints, trim_of, loaded, base_in, base_at, option_list, bases_in, lower, least_base, from_upto, load_from, base_or, base_by, view_base, view_bases}
use Rattle.tg_protocol.specs.Clients.{entries_at}
use Rattle.tg_law_layouts.proofs.Moves.Members.{Has}
use Rattle.tg_law_replies.specs.Plays.Sound.{AreKeys, IsBase, AreBases, IsSound}
use Rattle.tg_law_replies.proofs.Plays.Kept.{starts_sound}
use Rattle.tg_law_walks.specs.Drafts.Parts.{TouchParts}
use Rattle.tg_law_walks.proofs.Drafts.Ranges.{KeysBelow, AreTold, told_below, checkpoint_versions}

-- Versions.

-- keys name parts of the format
abbrev pub NameParts : List (Part × ℕ) → Type 0
NameParts [] = Unit {0}
NameParts (k ∷ ks) = (is_part k.0 ≡ true) × NameParts ks

abbrev pub BasedOk : Option Based → Type 0
BasedOk None = Unit {0}
BasedOk (Some b) = (b.version < 2 ^ 64) × (b.whole < 2 ^ 64) × KeysBelow (2 ^ 64 - 1) b.keys × NameParts b.keys

-- changes of parts of the format, where ops touch no others
abbrev pub NotedOk : Meaning → List PartVersion → Type 0
NotedOk m [] = Unit {0}
NotedOk m (n ∷ ns) = (n.version < 2 ^ 64) × (TouchParts m → is_part n.part ≡ true) × NotedOk m ns

key_small : (k : Part) (whole : ℕ) (ks : List (Part × ℕ)) → whole < 2 ^ 64 → KeysBelow (2 ^ 64 - 1) ks → key_version k whole ks < 2 ^ 64
key_small k whole [] w h = w
key_small k whole (x ∷ xs) w h = by (part_eq k x.0) (key_small k whole xs w h.1)
  where
    by : (b : Bool) → key_version k whole xs < 2 ^ 64 → cond b x.1 (key_version k whole xs) < 2 ^ 64
    by true rest = let a = h.0 in omega (arith, a)
    by false rest = rest

in_small : (b : Based) (k : Part) → BasedOk (Some b) → version_in b k < 2 ^ 64
in_small b All h = h.0
in_small b (Text t) h = key_small (Text t) b.whole b.keys h.1 h.2
in_small b (Num n) h = key_small (Num n) b.whole b.keys h.1 h.2

base_small : (b : Option Based) (o : Oid) (k : Part) → BasedOk b → base_version b o k < 2 ^ 64
base_small None o k h = omega arith
base_small (Some b) o k h = by (oid_eq b.oid o)
  where
    by : (t : Bool) → cond t (version_in b k) 0 < 2 ^ 64
    by true = in_small b k h
    by false = omega arith

noted_small : (m : Meaning) (b : Option Based) (ns : List PartVersion) (o : Oid) (k : Part) → BasedOk b → NotedOk m ns → noted_or b ns o k < 2 ^ 64
noted_small m b [] o k h n = base_small b o k h
noted_small m b (x ∷ ns) o k h n = by (oid_eq x.oid o && overlap x.part k) (noted_small m b ns o k h n.2)
  where
    by : (t : Bool) → noted_or b ns o k < 2 ^ 64 → cond t x.version (noted_or b ns o k) < 2 ^ 64
    by true rest = n.0
    by false rest = rest

-- Entries that were read, below a position.

pub record IsRead (e : Entry) : Type 0 where
  pub page : List ℕ
  pub reads : entry_of page ≡ Some e

abbrev pub AreRead : ℕ → Entries → Type 0
AreRead top [] = Unit {0}
AreRead top (x ∷ xs) = (x.0 < top) × IsRead x.1 × AreRead top xs

pub read_in : (top : ℕ) (es : Entries) (x : ℕ × Entry) → AreRead top es → Has es x → (x.0 < top) × IsRead x.1
read_in top [] x h i = absurd i
read_in top (y ∷ ys) x h (inl e) = subst (λ (z : ℕ × Entry). (z.0 < top) × IsRead z.1) (sym e) (h.0, h.1)
read_in top (y ∷ ys) x h (inr i) = read_in top ys x h.2 i

filtered : (f : ℕ × Entry → Bool) (top : ℕ) (es : Entries) → AreRead top es → AreRead top (filter f es)
filtered f top [] h = tt
filtered f top (x ∷ xs) h = by (f x) (filtered f top xs h.2)
  where
    by : (b : Bool) → AreRead top (filter f xs) → AreRead top (cond b (x ∷ filter f xs) (filter f xs))
    by true rest = (h.0, h.1, rest)
    by false rest = rest

AllBelow : ℕ → List ℕ → Type 0
AllBelow top [] = Unit {0}
AllBelow top (p ∷ ps) = (p < top) × AllBelow top ps

below_all : (top : ℕ) (ps : List ℕ) → AllBelow top (filter (λ p. nat_lt p top) ps)
unfolding AllBelow
below_all top [] = tt
below_all top (p ∷ ps) = by (nat_lt p top) refl (below_all top ps)
  where
    by : (b : Bool) → nat_lt p top ≡ b → AllBelow top (filter (λ p. nat_lt p top) ps) → AllBelow top (cond b (p ∷ filter (λ p. nat_lt p top) ps) (filter (λ p. nat_lt p top) ps))
    by true e rest = (grind (arith, e), rest)
    by false e rest = rest

module _ (m : Meaning) where
  cell_read : (c : Option Cell) (e : Entry) → cell_entry c ≡ Some e → IsRead e
  cell_read None e h = absurd cc
  cell_read (Some Junk) e h = absurd cc
  cell_read (Some (Data d)) e h = record { page = d; reads = h }

  entries_read : (cells : List (ℕ × Cell)) (top : ℕ) (ps : List ℕ) → AllBelow top ps → AreRead top (entries_at m cells ps)
  unfolding entries_at AllBelow
  entries_read cells top [] h = tt
  entries_read cells top (p ∷ ps) h = by (cell_entry (cell_at cells p)) refl (entries_read cells top ps h.1)
    where
      by : (e : Option Entry) → cell_entry (cell_at cells p) ≡ e → AreRead top (entries_at m cells ps) → AreRead top (entry_if p e (entries_at m cells ps))
      by None i rest = rest
      by (Some e) i rest = (h.0, cell_read (cell_at cells p) e i, rest)

  -- what a client reads of its known cells below a position
  pub below_read : (cells : List (ℕ × Cell)) (top : ℕ) (ps : List ℕ) → AreRead top (entries_at m cells (filter (λ p. nat_lt p top) ps))
  below_read cells top ps = entries_read cells top _ (below_all top ps)

module _ (m : Meaning) where
  abbrev pub BaseOk : Base m → Type 0
  BaseOk b = BasedOk b.versions.base × IsBase m b

  abbrev pub BasesOk : List (Base m) → Type 0
  BasesOk [] = Unit {0}
  BasesOk (b ∷ bs) = BaseOk b × BasesOk bs

  abbrev pub ViewOk : View m → Type 0
  ViewOk v = BasesOk v.bases × NotedOk m v.noted

  pub found_ok : (o : Oid) (bs : List (Base m)) → BasesOk bs → (b : Option (Base m)) → find (λ b. oid_eq b.oid o) bs ≡ b → elim b as (λ _. Type 0) [ None ↦ Unit {0} | Some x ↦ BasedOk x.versions.base ]
  found_ok o [] h None e = tt
  found_ok o [] h (Some x) e = absurd cc
  found_ok o (y ∷ ys) h b e = by (oid_eq y.oid o) refl (λ c f. found_ok o ys h.1 c f) e
    where
      by : (t : Bool) → oid_eq y.oid o ≡ t → ((c : Option (Base m)) → find (λ b. oid_eq b.oid o) ys ≡ c → elim c as (λ _. Type 0) [ None ↦ Unit {0} | Some x ↦ BasedOk x.versions.base ])
          → cond t (Some y) (find (λ b. oid_eq b.oid o) ys) ≡ b → elim b as (λ _. Type 0) [ None ↦ Unit {0} | Some x ↦ BasedOk x.versions.base ]
      by true f rest g = subst (λ (c : Option (Base m)). elim c as (λ _. Type 0) [ None ↦ Unit {0} | Some x ↦ BasedOk x.versions.base ]) g h.0.0
      by false f rest g = rest b g

  pub version_small : (v : View m) (o : Oid) (k : Part) → ViewOk v → view_version m v o k < 2 ^ 64
  unfolding view_version version_of
  version_small v o k h = by (base_of m v o) (found_ok o v.bases h.0 (base_of m v o) refl)
    where
      by : (b : Option (Base m)) → elim b as (λ _. Type 0) [ None ↦ Unit {0} | Some x ↦ BasedOk x.versions.base ] → played_version m v b o k < 2 ^ 64
      by None i = omega arith
      by (Some b) i = noted_small m b.versions.base v.noted o k i h.1

  -- Playing.

  -- a view after playing: its bases, and more notes
  set_ok : (v : View m) (o : Oid) (s : Option m.state) → ViewOk v → ViewOk (set_state m v o s)
  set_ok v o None h = h
  set_ok v o (Some s) h = h

  -- bytes that spell no op change all of an object
  touched_part : (o : Oid) (bytes : List ℕ) (op : Option m.op) → m.read o bytes ≡ op → TouchParts m → is_part (touched m op) ≡ true
  touched_part o bytes None is parts = refl
  touched_part o bytes (Some op) is parts = parts o bytes op is

  write_ok : (p : ℕ) (v : View m) (w : WriteOp) → p < 2 ^ 62 → ViewOk v → ViewOk (write m p v w)
  write_ok p v w less h = by (plays m p (base_of m v w.oid))
    where
      set : ViewOk (set_state m v w.oid (applied m (m.read w.oid w.op) (state_of m v w.oid)))
      set = set_ok v w.oid (applied m (m.read w.oid w.op) (state_of m v w.oid)) h

      by : (b : Bool) → ViewOk (cond b (write_by m v p w (m.read w.oid w.op)) v)
      by true = (set.0, (omega (arith, less), touched_part w.oid w.op (m.read w.oid w.op) refl, set.1))
      by false = h

  writes_ok : (p : ℕ) (ws : List WriteOp) (v : View m) → p < 2 ^ 62 → ViewOk v → ViewOk (write_all m p v ws)
  writes_ok p [] v less h = h
  writes_ok p (w ∷ ws) v less h = writes_ok p ws (write m p v w) less (write_ok p v w less h)

  abbrev StepOk : Step m → Type 0
  StepOk (On v) = ViewOk v
  StepOk (Stuck o) = Unit {0}

  decided_ok : (v : View m) (p : ℕ) (e : Entry) (d : Verdict) → p < 2 ^ 62 → ViewOk v → StepOk (decided_step m v p e d)
  decided_ok v p e Commits less h = writes_ok p (writes_of e) (with_fate m v p true) less h
  decided_ok v p e Aborts less h = h
  decided_ok v p e (Unknown o) less h = tt

  verdict_ok : (v : View m) (p : ℕ) (d : Verdict) → ViewOk v → ViewOk (with_verdict m v p d)
  verdict_ok v p Commits h = h
  verdict_ok v p Aborts h = h
  verdict_ok v p (Unknown o) h = h

  record_ok : (v : View m) (p : ℕ) (e : Entry) (d : Verdict) (b : Bool) → p < 2 ^ 62 → ViewOk v → StepOk (record_step m v p e d b)
  record_ok v p e d true less h = verdict_ok v p d h
  record_ok v p e d false less h = decided_ok v p e d less h

  open_ok : (v : View m) (es : Entries) (p : ℕ) (e : Entry) → ViewOk v → ViewOk (with_open m v es p e)
  open_ok v es p e h = by (needs_decision e && not (is_some (decision_in es p)))
    where
      by : (b : Bool) → ViewOk (cond b (record v { open_records = p ∷ v.open_records }) v)
      by true = h
      by false = h

  step_ok : (v : View m) (es : Entries) (p : ℕ) (e : Entry) → p < 2 ^ 62 → ViewOk v → StepOk (step_at m v es p e)
  unfolding step_at
  step_ok v es p e less h = by (is_commit e)
    where
      by : (b : Bool) → StepOk (entry_step m v es p e b)
      by true = record_ok (with_open m v es p e) p e (verdict m v es p e) (passed_over m v p e) less (open_ok v es p e h)
      by false = h

  play_on_ok : (es : Entries) (top upto : ℕ) (v : View m) (xs : Entries) → top ≤ 2 ^ 62 → AreRead top xs → ViewOk v → ViewOk (play_on m es upto v xs).view
  unfolding play_on
  play_on_ok es top upto v [] t r h = h
  play_on_ok es top upto v (x ∷ xs) t r h = by (step_at m v es x.0 x.1) (step_ok v es x.0 x.1 (let a = r.0 in omega (arith, a, t)) h) (λ w k. play_on_ok es top upto w xs t r.2 k)
    where
      by : (s : Step m) → StepOk s → ((w : View m) → ViewOk w → ViewOk (play_on m es upto w xs).view) → ViewOk (elim s as (λ _. Play m) [
        | On w ↦ play_on m es upto w xs
        | Stuck o ↦ record { view = stands_at m v x.0; came = Rattle.tg_model.specs.declared.play.PlayEnd.TheVariants.Blocked x.0 o }
      ]).view
      by (On w) k ih = ih w k
      by (Stuck o) k ih = h

  pub play_ok : (v : View m) (es : Entries) (top upto : ℕ) → top ≤ 2 ^ 62 → AreRead top es → ViewOk v → ViewOk (play m v es upto).view
  unfolding play
  play_ok v es top upto t r h = by (nat_lt upto v.upto)
    where
      by : (b : Bool) → ViewOk (play_from m v es upto b).view
      by true = h
      by false = play_on_ok es top upto v (between m v.upto upto es) t (filtered _ top es r) h

  -- New views.

  -- a base that a checkpoint gives

  one_base : (a b : Base m) → Some a ≡ Some b → a ≡ b
  one_base a b e = cc

  loaded_ok : (o : Oid) (upto v w : ℕ) (ks : List (Part × ℕ)) (s : Option m.state) (b : Base m) → (BasedOk (Some (record { oid = o; version = v; whole = w; keys = ks }))) → v ≤ upto → w ≤ v → AreKeys w v ks → loaded m o upto (based o v w ks) s ≡ Some b → BaseOk b
  unfolding based
  loaded_ok o upto v w ks None b h le low keys e = absurd cc
  loaded_ok o upto v w ks (Some s) b h le low keys e =
      subst BaseOk (one_base (record { oid = o; state = s; versions = based o v w ks; upto = upto }) b e) (h, record { oid = refl; version = le; whole = low; keys = keys })

  keys_more : (a b : ℕ) (ks : List (Part × ℕ)) → a ≤ b → KeysBelow a ks → KeysBelow b ks
  keys_more a b [] le h = tt
  keys_more a b (k ∷ ks) le h = (let x = h.0 in omega (arith, x, le), keys_more a b ks le h.1)

  told_named : (w v : ℕ) (ks : List (Part × ℕ)) → AreTold w v ks → NameParts ks
  told_named w v [] h = tt
  told_named w v (k ∷ ks) h = (h.0.1, told_named w v ks h.1)

  told_keys : (w v : ℕ) (ks : List (Part × ℕ)) → AreTold w v ks → AreKeys w v ks
  told_keys w v [] h = tt
  told_keys w v (k ∷ ks) h = (h.0.0, h.0.2, h.0.3, told_keys w v ks h.1)

  base_in_ok : (o : Oid) (e : Entry) (b : Base m) (x : Body) → IsRead e → e.head.format ≡ 2 → e.body ≡ x → base_in m o x ≡ Some b → BaseOk b
  base_in_ok o e b (Commit rs ws) r format is h = absurd cc
  base_in_ok o e b (Decision at so) r format is h = absurd cc
  base_in_ok o e b (Checkpoint p u v w ks s) r format is h = by (oid_eq o p) (nat_le v u) refl h
    where
      by : (t x : Bool) → nat_le v u ≡ x → cond (t && x) (loaded m o u (based o v w ks) (m.load o s)) None ≡ Some b → BaseOk b
      by true true le f =
          let a = checkpoint_versions r.page e p u v w ks s r.reads format is in
          let fits = a.fits in
          let low = a.below in
          loaded_ok o u v w ks (m.load o s) b (fits, omega (arith, fits, low), keys_more v (2 ^ 64 - 1) ks (omega (arith, fits)) (told_below w v ks a.keys), told_named w v ks a.keys) (grind (arith, le)) low (told_keys w v ks a.keys) f
      by true false le f = absurd cc
      by false x le f = absurd cc

  base_at_ok : (o : Oid) (e : Entry) (b : Base m) → IsRead e → base_at m o e ≡ Some b → BaseOk b
  base_at_ok o e b r h = by (e.head.format == 2) refl h
    where
      by : (t : Bool) → (e.head.format == 2) ≡ t → cond t (base_in m o e.body) None ≡ Some b → BaseOk b
      by true f g = base_in_ok o e b e.body r (grind (arith, f)) refl g
      by false f g = absurd cc

  bases_ok : (top : ℕ) (es : Entries) (o : Oid) → AreRead top es → BasesOk (bases_in m es o)
  unfolding bases_in
  bases_ok top [] o r = tt
  bases_ok top (x ∷ xs) o r = by (base_at m o x.1) refl (bases_ok top xs o r.2)
    where
      by : (b : Option (Base m)) → base_at m o x.1 ≡ b → BasesOk (bases_in m xs o) → BasesOk (option_list m b ++ bases_in m xs o)
      by None e rest = rest
      by (Some b) e rest = (base_at_ok o x.1 b r.1 e, rest)

  filter_bases : (f : Base m → Bool) (bs : List (Base m)) → BasesOk bs → BasesOk (filter f bs)
  filter_bases f [] h = tt
  filter_bases f (b ∷ bs) h = by (f b) (filter_bases f bs h.1)
    where
      by : (t : Bool) → BasesOk (filter f bs) → BasesOk (cond t (b ∷ filter f bs) (filter f bs))
      by true rest = (h.0, rest)
      by false rest = rest

  abbrev MaybeOk : Option (Base m) → Type 0
  MaybeOk None = Unit {0}
  MaybeOk (Some b) = BaseOk b

  lower_ok : (b : Base m) (c : Option (Base m)) → BaseOk b → MaybeOk c → BaseOk (lower m b c)
  lower_ok b None h k = h
  lower_ok b (Some c) h k = by (nat_le b.upto c.upto)
    where
      by : (t : Bool) → BaseOk (cond t b c)
      by true = h
      by false = k

  least_ok : (bs : List (Base m)) → BasesOk bs → MaybeOk (least_base m bs)
  least_ok [] h = tt
  least_ok (b ∷ bs) h = lower_ok b (least_base m bs) h.0 (least_ok bs h.1)

  view_base_ok : (top : ℕ) (es : Entries) (gone : TrimPoints) (objects : List Oid) (o : Oid) → AreRead top es → BaseOk (view_base m es gone objects o)
  unfolding view_base load_from no_versions
  view_base_ok top es gone objects o r = by (trim_of gone o)
    where
      some : (b : Option (Base m)) → MaybeOk b → BaseOk (base_or m objects o b)
      some None h = (tt, tt)
      some (Some b) h = h

      by : (t : Option ℕ) → BaseOk (base_by m es objects o t)
      by None = (tt, tt)
      by (Some below) = some (load_from m es o below) (least_ok (filter (from_upto m below) (bases_in m es o)) (filter_bases (from_upto m below) (bases_in m es o) (bases_ok top es o r)))

  views_ok : (top : ℕ) (es : Entries) (gone : TrimPoints) (objects os : List Oid) → AreRead top es → BasesOk (view_bases m es gone objects os)
  unfolding view_bases
  views_ok top es gone objects [] r = tt
  views_ok top es gone objects (o ∷ os) r = (view_base_ok top es gone objects o r, views_ok top es gone objects os r)

  are_bases : (bs : List (Base m)) → BasesOk bs → AreBases m bs
  are_bases [] h = tt
  are_bases (b ∷ bs) h = (h.0.1, are_bases bs h.1)

  pub start_ok : (top : ℕ) (es : Entries) (gone : TrimPoints) (objects os : List Oid) → AreRead top es → ViewOk (view_start m (view_bases m es gone objects os)) × IsSound m (view_start m (view_bases m es gone objects os))
  unfolding view_start
  start_ok top es gone objects os r = let h = views_ok top es gone objects os r in ((h, tt), starts_sound m (view_bases m es gone objects os) (are_bases (view_bases m es gone objects os) h))
