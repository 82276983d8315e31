-- What a client plays from, once all streams are walked.
use Rattle.std.proofs.Common.{◌≡◌, ◌⊎◌, ℕ, ◌+◌, ◌<◌, ◌≤◌, List, [], ◌∷◌, Bool, true, false, refl, sym, ap, ◌∙◌, subst, inl, inr, arith, filter, map, Option, Some, None}
use Rattle.std.specs.Prelude.{nat_lt, nat_le, ◌==◌, ◌&&◌, max, is_some, find, Contains, if◌then◌else◌}
use Rattle.std.proofs.lemmas.Bool.Decides.{nat_tests}
use Rattle.tg_base.specs.declared.ids.Oid.{Oid}
use Rattle.tg_entry.specs.declared.entry.Entry.{Entry}
use Rattle.tg_kind.specs.Meaning.{Meaning}
use Rattle.tg_model.specs.Kinds.{CommandOf}
use Rattle.tg_model.specs.declared.command.Command.TheVariants as cmd
use Rattle.tg_protocol.specs.Words.{cell_at, with_nums}
use Rattle.tg_base.specs.Orders.{oid_eq}
use Rattle.tg_protocol.specs.Entries.{lists, is_commit}
use Rattle.tg_protocol.specs.Logs.{Log, entries_of, entry_at}
use Rattle.tg_protocol.specs.Views.{Entries, View, Base, base_of, view_start}
use Rattle.tg_protocol.specs.Checkpoints.{trim_of, load_from, base_or, base_by, view_base, view_bases}
use Rattle.tg_protocol.specs.Past.{commit_at, last_base, past_base_or, past_base_by, past_base}
use Rattle.tg_protocol.specs.Clients.{Work, Client, upto_in, positions_in, entries_at, below, member_positions, all_entries}
use Rattle.tg_protocol.specs.Answers.{view_or_new, play_target}
use Rattle.tg_protocol.specs.ClientSteps.{plays_kept}
use Rattle.tg_law_replies.specs.Plays.Sound.{IsRising}
use Rattle.tg_law_replies.specs.Views.Views.{reach, AreEntriesFor}
use Rattle.tg_law_walks.specs.Walks.Streams.{IsByPosition, stands_in}
use Rattle.tg_law_walks.specs.Walks.Rounds.{round, HasAll, IsSafe, IsRound, IsPlayable}
use Rattle.tg_law_replies.specs.Views.Exact.{AreExact, or_first}
use Rattle.tg_law_walks.specs.Walks.Laws.{RoundsPlay, PastPlays, RescuesPlay}
use Rattle.tg_law_walks.specs.Walks.Finding.{WalksFromStart, RoundsFindAll, RoundsFindMore}
use Rattle.tg_law_walks.proofs.Walks.Members.{Has, has_contained, contained_has, of_lt, lt_of, same_oid, same_number}
use Rattle.tg_law_walks.proofs.Walks.Cells.{there_entry, entry_there, pair}
use Rattle.tg_law_walks.proofs.Walks.Stretches.{entry_stand}
use Rattle.tg_law_walks.proofs.Walks.Positions.{nums_right, all_rise, rises_filter, has_filter, filter_passes, in_positions, positions_rise}
use Rattle.tg_law_walks.proofs.Walks.Saves.{entries_have, have_entries, entries_rising, load_gives, last_gives, gives_load}
use Rattle.tg_law_walks.proofs.Walks.Rounds.{entry_read, read_entry}

module _ (m : Meaning) (l : Log) (byp : IsByPosition l) (c : Client m) (w : Work m) (h : IsRound m l (round m c w c.cells) []) (os : List Oid) (extra : List ℕ) (sub : (o : Oid) → Contains os o → Contains w.oids o) where
  abbrev pub own : Entries
  own = entries_at m c.cells (below m w.tail (with_nums extra (member_positions m w os)))

  abbrev pub ps : List ℕ
  ps = below m w.tail (with_nums extra (member_positions m w os))

  pub own_rising : IsRising own
  own_rising =
      entries_rising m c.cells 0 ps
      (rises_filter (λ p. nat_lt p w.tail) 0 (with_nums extra (member_positions m w os))
      (all_rise extra (member_positions m w os) (positions_rise m w.found os)))

  pub own_only : (p : ℕ) (e : Entry) → Contains own (p, e) → Contains (entries_of l) (p, e)
  own_only p e i =
      let k = entries_have m c.cells ps p e (has_contained own (p, e) i) in
      contained_has (entries_of l) (p, e) (there_entry l p e (read_entry m l byp c.cells p e h.known k.1))

  -- a found position's entry is among them
  own_has : (o : Oid) (p : ℕ) (e : Entry) → Contains os o → p < w.tail → Contains (positions_in m w.found o) p → is_some (cell_at c.cells p) ≡ true → entry_at l p ≡ Some e → Has own (p, e)
  own_has o p e hosted less i known is =
      have_entries m c.cells ps p e
      (has_filter (λ q. nat_lt q w.tail) (with_nums extra (member_positions m w os)) p
      (nums_right extra (member_positions m w os) p
      (in_positions m w.found os o p (has_contained os o hosted) (has_contained (positions_in m w.found o) p i)))
      (of_lt p w.tail less))
      (entry_read m l byp c.cells p e h.known known is)

  abbrev pub From : Oid → ℕ → Type 0
  From o from = (p : ℕ) (e : Entry) → from ≤ p → p < w.tail → Has (entries_of l) (p, e) → lists e o ≡ true → Has own (p, e)

  from_all : (o : Oid) (from : ℕ) → Contains os o → HasAll m l (round m c w c.cells) o from → From o from
  from_all o from hosted all p e le less i f =
      let k = all p le less (entry_stand l o p e byp i f) in own_has o p e hosted less k.0 k.1 (entry_there 0 l p e byp i)

  -- by where its walk met a trim
  pub untrimmed : (o : Oid) → Contains os o → trim_of w.trims o ≡ None → From o w.lo
  untrimmed o hosted n = by (h.walked o (sub o hosted))
    where
      by : Contains [] o ⊎ (trim_of w.trims o ≡ None → HasAll m l (round m c w c.cells) o w.lo) → From o w.lo
      by (inl i) = absurd (has_contained [] o i)
      by (inr k) = from_all o w.lo hosted (k n)

  pub trimmed : (o : Oid) (b : ℕ) → Contains os o → trim_of w.trims o ≡ Some b → From o b
  trimmed o b hosted n = from_all o b hosted (h.trimmed o b n).all

  -- In a new one.

  some_base : (a b : Base m) → Some a ≡ Some b → a ≡ b
  some_base a b i = cc

  record IsNew (o : Oid) (b : Base m) : Type 0 where
    hosted : Contains os o
    is : b ≡ view_base m own w.trims c.objects o

  or_oid : (o : Oid) (below' : ℕ) (x : Option (Base m)) → load_from m own o below' ≡ x → (base_or m c.objects o x).oid ≡ o
  or_oid o n None e = refl
  or_oid o n (Some b) e = (load_gives m own o n b e).2

  by_oid : (o : Oid) (t : Option ℕ) → (base_by m own c.objects o t).oid ≡ o
  by_oid o None = refl
  by_oid o (Some n) = or_oid o n (load_from m own o n) refl

  base_oid : (o : Oid) → (view_base m own w.trims c.objects o).oid ≡ o
  unfolding view_base
  base_oid o = by_oid o (trim_of w.trims o)

  find_base : (os : List Oid) (o : Oid) (b : Base m) → find (λ (x : Base m). oid_eq x.oid o) (map (view_base m own w.trims c.objects) os) ≡ Some b → Has os o × (b ≡ view_base m own w.trims c.objects o)
  find_base [] o b e = absurd (cc)
  find_base (p ∷ os) o b e = by (oid_eq (view_base m own w.trims c.objects p).oid o) refl e (λ f. find_base os o b f)
    where
      later : Has os o × (b ≡ view_base m own w.trims c.objects o) → Has (p ∷ os) o × (b ≡ view_base m own w.trims c.objects o)
      later k = (inr k.0, k.1)

      by : (t : Bool) → oid_eq (view_base m own w.trims c.objects p).oid o ≡ t →
          (if t then Some (view_base m own w.trims c.objects p) else find (λ (x : Base m). oid_eq x.oid o) (map (view_base m own w.trims c.objects) os)) ≡ Some b →
          (find (λ (x : Base m). oid_eq x.oid o) (map (view_base m own w.trims c.objects) os) ≡ Some b → Has os o × (b ≡ view_base m own w.trims c.objects o)) → Has (p ∷ os) o × (b ≡ view_base m own w.trims c.objects o)
      by true t f rest =
          let is : p ≡ o = sym (base_oid p) ∙ same_oid (view_base m own w.trims c.objects p).oid o t in
          (inl (sym is), sym (some_base _ b f) ∙ ap (view_base m own w.trims c.objects) is)
      by false t f rest = later (rest f)

  new_base : (o : Oid) (b : Base m) → base_of m (view_start m (view_bases m own w.trims c.objects os)) o ≡ Some b → IsNew o b
  unfolding view_start view_bases
  new_base o b e = let k = find_base os o b e in record { hosted = contained_has os o k.0; is = k.1 }

  -- a stream whose walk met a trim, by what the entries have of it

  -- no entry saves it there, so nothing of it stands below
  pub none_saved : (o : Oid) (n : ℕ) → Contains os o → trim_of w.trims o ≡ Some n → load_from m own o n ≡ None → (p : ℕ) (d : Entry) → Has (entries_of l) (p, d) → lists d o ≡ true → n ≤ p
  none_saved o n hosted t e p d i f = by (h.trimmed o n t).safe
    where
      none_some : (x : Option (Base m)) → x ≡ None → is_some x ≡ true → ⊥
      none_some None g k = cc
      none_some (Some b) g k = cc

      stands : stands_in l o p ≡ true
      stands = entry_stand l o p d byp i f

      apart : ((q : ℕ) → q < n → stands_in l o q ≡ true → ⊥) → n ≤ p
      apart none = test (nat_le n p) refl
        where
          test : (b : Bool) → nat_le n p ≡ b → n ≤ p
          test true g = grind (arith, nat_tests)
          test false g = absurd (none p (grind (arith, nat_tests)) stands)

      by : IsSafe m l (round m c w c.cells) o n → n ≤ p
      by (inr none) = apart none
      by (inl s) =
          absurd (none_some (load_from m own o n) e
          (gives_load m own o n s.at s.entry
          (have_entries m c.cells ps s.at s.entry
          (has_filter (λ q. nat_lt q w.tail) (with_nums extra (member_positions m w os)) s.at
          (nums_right extra (member_positions m w os) s.at
          (in_positions m w.found os o s.at (has_contained os o hosted) (has_contained (positions_in m w.found o) s.at s.found)))
          (of_lt s.at w.tail s.below))
          s.here)
          s.saves))

  from_load : (o : Oid) (n : ℕ) (x : Option (Base m)) → Contains os o → trim_of w.trims o ≡ Some n → load_from m own o n ≡ x → From o (base_or m c.objects o x).upto
  from_load o n (Some b) hosted t e p d le less i f = let low = (load_gives m own o n b e).1 in trimmed o n hosted t p d (omega (arith, low, le)) less i f
  from_load o n None hosted t e p d le less i f = trimmed o n hosted t p d (none_saved o n hosted t e p d i f) less i f

  -- All of these streams, for a command that walks from 0.

  all_low : (o : Oid) (t : Option ℕ) → Contains os o → w.lo ≡ 0 → trim_of w.trims o ≡ t → From o (or_first t)
  all_low o None hosted none e p d le less i f = untrimmed o hosted e p d (omega (arith, none)) less i f
  all_low o (Some b) hosted none e p d le less i f = trimmed o b hosted e p d le less i f

  pub own_exact : w.lo ≡ 0 → AreExact m (entries_of l) (entries_at m c.cells (below m w.tail (with_nums extra (member_positions m w os)))) w.trims os w.tail
  own_exact none = record {
    rising = own_rising;
    only = own_only;
    all = λ o p e hosted i f le less. contained_has own (p, e) (all_low o (trim_of w.trims o) hosted none refl p e le less (has_contained (entries_of l) (p, e) i) f);
    none_below = λ o b p e hosted t n i f. none_saved o b hosted t n p e (has_contained (entries_of l) (p, e) i) f;
  }

  from_trim : (o : Oid) (t : Option ℕ) → Contains os o → w.lo ≡ 0 → trim_of w.trims o ≡ t → From o (base_by m own c.objects o t).upto
  from_trim o None hosted none e p d le less i f = untrimmed o hosted e p d (omega (arith, none)) less i f
  from_trim o (Some n) hosted none e p d le less i f = from_load o n (load_from m own o n) hosted e refl p d le less i f

  new_from : (o : Oid) → Contains os o → w.lo ≡ 0 → From o (view_base m own w.trims c.objects o).upto
  unfolding view_base
  new_from o hosted none = from_trim o (trim_of w.trims o) hosted none refl

  max_right : (a b p : ℕ) → max a b ≤ p → b ≤ p
  max_right a b p le = omega (arith, le)

  abbrev pub AllFor : View m → ℕ → Type 0
  AllFor v n = (o : Oid) (b : Base m) (p : ℕ) (e : Entry) → base_of m v o ≡ Some b → Contains (entries_of l) (p, e) → lists e o ≡ true → reach m c.objects (entries_of l) v b ≤ p → p < n → Contains own (p, e)

  pub new_for : (n : ℕ) → n ≤ w.tail → w.lo ≡ 0 → AllFor (view_start m (view_bases m own w.trims c.objects os)) n
  new_for n low zero' o b p e has i f le less =
      let k = new_base o b has in
      contained_has own (p, e) (new_from o k.hosted zero' p e (subst (λ (d : Base m). d.upto ≤ p) k.is (max_right (view_start m (view_bases m own w.trims c.objects os)).upto b.upto p le)) (omega (arith, less, low)) (has_contained (entries_of l) (p, e) i) f)

  -- each of them is below the tail
  pub within : (p : ℕ) (e : Entry) → Has own (p, e) → p + 1 ≤ w.tail
  within p e i = let k = entries_have m c.cells ps p e i in filtered (with_nums extra (member_positions m w os)) p k.0
    where
      filtered : (xs : List ℕ) (q : ℕ) → Has (filter (λ r. nat_lt r w.tail) xs) q → q + 1 ≤ w.tail
      filtered xs q j = let f = filter_passes (λ r. nat_lt r w.tail) xs q j in let less = lt_of q w.tail f in omega (arith, less)

  -- A past view.

  past_or_oid : (o : Oid) (n pos : ℕ) (x : Option (Base m)) → last_base m own o n pos ≡ x → (past_base_or m own c.objects o n x).oid ≡ o
  past_or_oid o n pos None e = or_oid o n (load_from m own o n) refl
  past_or_oid o n pos (Some b) e = (last_gives m own o n pos b e).1

  past_by_oid : (o : Oid) (pos : ℕ) (t : Option ℕ) → (past_base_by m own c.objects pos o t).oid ≡ o
  past_by_oid o pos None = refl
  past_by_oid o pos (Some n) = past_or_oid o n pos (last_base m own o n pos) refl

  find_by : (f : Oid → Base m) → ((o : Oid) → (f o).oid ≡ o) → (ks : List Oid) (o : Oid) (b : Base m) → find (λ (x : Base m). oid_eq x.oid o) (map f ks) ≡ Some b → Has ks o × (b ≡ f o)
  find_by f named [] o b e = absurd (cc)
  find_by f named (p ∷ ks) o b e = by (oid_eq (f p).oid o) refl e (λ g. find_by f named ks o b g)
    where
      later : Has ks o × (b ≡ f o) → Has (p ∷ ks) o × (b ≡ f o)
      later k = (inr k.0, k.1)

      by : (t : Bool) → oid_eq (f p).oid o ≡ t → (if t then Some (f p) else find (λ (x : Base m). oid_eq x.oid o) (map f ks)) ≡ Some b →
          (find (λ (x : Base m). oid_eq x.oid o) (map f ks) ≡ Some b → Has ks o × (b ≡ f o)) → Has (p ∷ ks) o × (b ≡ f o)
      by true t g rest = let is : p ≡ o = sym (named p) ∙ same_oid (f p).oid o t in (inl (sym is), sym (some_base _ b g) ∙ ap f is)
      by false t g rest = later (rest g)

  from_last : (o : Oid) (n pos : ℕ) (x : Option (Base m)) → Contains os o → trim_of w.trims o ≡ Some n → last_base m own o n pos ≡ x → From o (past_base_or m own c.objects o n x).upto
  from_last o n pos None hosted t e p d le less i f = from_load o n (load_from m own o n) hosted t refl p d le less i f
  from_last o n pos (Some b) hosted t e p d le less i f = let low = (last_gives m own o n pos b e).0 in trimmed o n hosted t p d (omega (arith, low, le)) less i f

  from_past : (o : Oid) (pos : ℕ) (t : Option ℕ) → Contains os o → w.lo ≡ 0 → trim_of w.trims o ≡ t → From o (past_base_by m own c.objects pos o t).upto
  from_past o pos None hosted none e p d le less i f = untrimmed o hosted e p d (omega (arith, none)) less i f
  from_past o pos (Some n) hosted none e p d le less i f = from_last o n pos (last_base m own o n pos) hosted e refl p d le less i f

  abbrev past_view : ℕ → View m
  past_view pos = view_start m (map (past_base m own w.trims c.objects pos) os)

  pub past_for : (pos n : ℕ) → n ≤ w.tail → w.lo ≡ 0 → AllFor (view_start m (map (past_base m own w.trims c.objects pos) os)) n
  unfolding view_start
  past_for pos n low zero' o b p e has i f le less =
      let k = find_by (past_base m own w.trims c.objects pos) (λ q. past_by_oid q pos (trim_of w.trims q)) os o b has in
      contained_has own (p, e)
      (from_past o pos (trim_of w.trims o) (contained_has os o k.0) zero' refl p e (subst (λ (d : Base m). d.upto ≤ p) k.1 (max_right 0 b.upto p le)) (omega (arith, less, low)) (has_contained (entries_of l) (p, e) i) f)

-- A command that plays its own view.
module _ (m : Meaning) (l : Log) (byp : IsByPosition l) (c : Client m) (w : Work m) (h : IsRound m l (round m c w c.cells) []) where
  abbrev mine : Entries
  mine = own m l byp c w h c.hosted c.own h.hosts

  abbrev Mine : Oid → ℕ → Type 0
  Mine o from = From m l byp c w h c.hosted c.own h.hosts o from

  kept_from : (v : View m) (o : Oid) → plays_kept m w.command ≡ true → c.view ≡ Some v → Contains c.hosted o → Mine o v.upto
  kept_from v o plays is hosted = by (trim_of w.trims o) refl
    where
      view_upto : (y : Option (View m)) → y ≡ Some v → upto_in m y ≡ v.upto
      view_upto y e = ap (upto_in m) e

      by : (t : Option ℕ) → trim_of w.trims o ≡ t → Mine o v.upto
      by None e p d le less i f = let low = h.low in let at = view_upto c.view is in untrimmed m l byp c w h c.hosted c.own h.hosts o hosted e p d (omega (arith, low, at, le)) less i f
      by (Some b) e p d le less i f = let low = (h.trimmed o b e).kept v plays is in trimmed m l byp c w h c.hosted c.own h.hosts o b hosted e p d (omega (arith, low, le)) less i f

  -- The target is no further than the tail.
  target_low : (x : CommandOf m) → play_target m w x ≤ w.tail
  target_low cmd.End = h.at
  target_low x = omega arith

  max_left : (a b p : ℕ) → max a b ≤ p → a ≤ p
  max_left a b p le = omega (arith, le)

  abbrev Mines : View m → Type 0
  Mines v = AllFor m l byp c w h c.hosted c.own h.hosts v (play_target m w w.command)

  all_for : (y : Option (View m)) → c.view ≡ y → plays_kept m w.command ≡ true → Mines (view_or_new m c w mine y)
  all_for (Some v) is plays =
      let low = target_low w.command in
      λ o b p e has i f le less. contained_has mine (p, e) (kept_from v o plays is (h.bases v o b is has) p e (max_left v.upto b.upto p le) (omega (arith, less, low)) (has_contained (entries_of l) (p, e) i) f)
  all_for None is plays =
      let low = h.low in let zero' : upto_in m c.view ≡ 0 = ap (upto_in m) is in
      new_for m l byp c w h c.hosted c.own h.hosts (play_target m w w.command) (target_low w.command) (omega (arith, low, zero'))

  kept_low : (x : CommandOf m) → w.command ≡ x → (v : View m) → c.view ≡ Some v → v.upto ≤ play_target m w x
  kept_low cmd.End e v is = let low = h.own e in let at : upto_in m c.view ≡ v.upto = ap (upto_in m) is in omega (arith, low, at)
  kept_low x e v is = let low = h.upto in let at : upto_in m c.view ≡ v.upto = ap (upto_in m) is in omega (arith, low, at)

  view_low : (y : Option (View m)) → c.view ≡ y → (view_or_new m c w mine y).upto ≤ play_target m w w.command
  unfolding view_start
  view_low None is = omega arith
  view_low (Some v) is = kept_low w.command refl v is

  -- all that it needs for its kept view, up to the tail
  pub more_for : (objects : List Oid) (v : View m) → plays_kept m w.command ≡ true → c.view ≡ Some v → AreEntriesFor m objects (entries_of l) v (all_entries m c w c.hosted) w.tail × (v.upto ≤ play_target m w w.command)
  more_for objects v plays is = (
    record {
      rising = own_rising m l byp c w h c.hosted c.own h.hosts;
      only = own_only m l byp c w h c.hosted c.own h.hosts;
      all = λ o b p e has i f le less. contained_has mine (p, e) (kept_from v o plays is (h.bases v o b is has) p e (max_left v.upto b.upto p le) less (has_contained (entries_of l) (p, e) i) f);
    },
    kept_low w.command refl v is,
  )

  pub plays : (objects : List Oid) → plays_kept m w.command ≡ true → IsPlayable m l objects c w
  plays objects k = record { entries = record { rising = own_rising m l byp c w h c.hosted c.own h.hosts; only = own_only m l byp c w h c.hosted c.own h.hosts; all = all_for c.view refl k }; low = view_low c.view refl }

pub rounds_play : (m : Meaning) → RoundsPlay m
rounds_play m l objects c w byp h k = plays m l byp c w h objects k

pub past_plays : (m : Meaning) → PastPlays m
past_plays m l objects c w p o q byp h is low =
    let all : (x : Oid) → Contains w.oids x → Contains w.oids x = λ x i. i in
    record {
      rising = own_rising m l byp c w h w.oids [] all;
      only = own_only m l byp c w h w.oids [] all;
      all = past_for m l byp c w h w.oids [] all p p low (h.whole (ap (plays_kept m) is));
    }

commit_has : (es : Entries) (p : ℕ) (e : Entry) → commit_at es p ≡ Some e → Has es (p, e)
unfolding commit_at
commit_has [] p e h = absurd (cc)
commit_has (x ∷ es) p e h = by (x.0 == p) (is_commit x.1) refl h (λ k. commit_has es p e k)
  where
    some_entry : (a b : Entry) → Some a ≡ Some b → a ≡ b
    some_entry a b i = cc

    by : (b d : Bool) → (x.0 == p) ≡ b → (if b && d then Some x.1 else commit_at es p) ≡ Some e → (commit_at es p ≡ Some e → Has es (p, e)) → Has (x ∷ es) (p, e)
    by true true t f rest = inl (pair (p, e) x (sym (same_number x.0 p t)) (sym (some_entry x.1 e f)))
    by true false t f rest = inr (rest f)
    by false d t f rest = inr (rest f)

pub rescues_play : (m : Meaning) → RescuesPlay m
rescues_play m l objects c w p e byp h is has =
    let all : (x : Oid) → Contains w.oids x → Contains w.oids x = λ x i. i in
    record {
      rising = own_rising m l byp c w h w.oids c.own all;
      only = own_only m l byp c w h w.oids c.own all;
      all = new_for m l byp c w h w.oids c.own all (p + 1) (within m l byp c w h w.oids c.own all p e (commit_has (all_entries m c w w.oids) p e has)) (h.whole (ap (plays_kept m) is));
    }

pub rounds_find_all : (m : Meaning) → RoundsFindAll m
rounds_find_all m l c w byp h from = record {
  hosted = own_exact m l byp c w h c.hosted c.own h.hosts (zero' from);
  members = own_exact m l byp c w h w.oids [] all (zero' from);
  all = own_exact m l byp c w h w.oids c.own all (zero' from);
}
  where
    all : (x : Oid) → Contains w.oids x → Contains w.oids x
    all x i = i

    zero' : WalksFromStart m c w → w.lo ≡ 0
    zero' (inl is) = let low = h.low in let none : upto_in m c.view ≡ 0 = ap (upto_in m) is in omega (arith, low, none)
    zero' (inr is) = h.whole is

pub rounds_find_more : (m : Meaning) → RoundsFindMore m
rounds_find_more m l objects c w v byp h plays is = more_for m l byp c w h objects v plays is
