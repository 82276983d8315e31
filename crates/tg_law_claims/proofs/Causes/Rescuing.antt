-- A rescue that is stuck, and a past view that is blocked: the named object has a base past the record, so its walk met a trim.
use Rattle.std.proofs.Common.{◌≡◌, ◌⊎◌, ℕ, ◌+◌, ◌<◌, ◌≤◌, List, [], ◌∷◌, map, Bool, true, false, refl, sym, ap, ◌∙◌, subst, inl, inr, arith, cond, Option, Some, None}
use Rattle.std.specs.Prelude.{nat_lt, nat_le, ◌&&◌, ◌||◌, if◌then◌else◌, length}
use Rattle.std.proofs.lemmas.Bool.Decides.{nat_tests}
use Rattle.tg_base.specs.Orders.{oid_eq}
use Rattle.tg_base.specs.declared.ids.Oid.{Oid}
use Rattle.tg_base.specs.declared.marks.ReadMark.{ReadMark}
use Rattle.tg_entry.specs.declared.entry.Entry.{Entry}
use Rattle.tg_kind.specs.Meaning.{Meaning}
use Rattle.tg_model.specs.declared.play.PlayEnd.{PlayEnd}
use Rattle.tg_model.specs.declared.play.PlayEnd.TheVariants.{Played, Blocked}
use Rattle.tg_protocol.specs.Words.{has_oid}
use Rattle.tg_protocol.specs.Versions.{version_of}
use Rattle.tg_protocol.specs.Views.{Entries, Base, View, Play, Verdict, Commits, Aborts, Unknown, base_of, unknown_by, passed_over, view_start, view_outcome, decision_in, play}
use Rattle.tg_protocol.specs.Checkpoints.{TrimPoints, trim_of, load_from, base_or, base_by, view_base, view_bases}
use Rattle.tg_protocol.specs.Past.{RescueTurn, Wider, Wide, Absent, StuckAt, Known, commit_at, record_block, entry_block, block_in, known_by, at_record, grows, rescue_by, rescue_turn}
use Rattle.tg_law_replies.specs.Plays.Sound.{base_among}
use Rattle.tg_law_replies.proofs.History.Members.{Has, same_oid}
use Rattle.tg_law_replies.proofs.Views.Bases.{loaded_of, oid_loaded}
use Rattle.tg_law_replies.proofs.Views.Exact.{made_there}
use Rattle.tg_law_replies.proofs.Views.Judges.{blocked_stands}
use Rattle.tg_law_replies.proofs.Views.Plays.{played_stands}
use Rattle.tg_law_replies.proofs.Views.Settled.{plays_further}
use Rattle.tg_law_claims.proofs.Causes.Stalling.{Unknowns, blocked_there, outcome_there}

pub has_oid_has : (o : Oid) (os : List Oid) → has_oid o os ≡ true → Has os o
has_oid_has o [] e = absurd (cc)
has_oid_has o (x ∷ os) e = by (oid_eq o x) refl e (has_oid_has o os)
  where
    by : (b : Bool) → oid_eq o x ≡ b → (b || has_oid o os) ≡ true → (has_oid o os ≡ true → Has os o) → Has (x ∷ os) o
    by true is k rest = inl (same_oid o x is)
    by false is k rest = inr (rest k)

-- a trim of a stream is one of those that were met
pub trim_has : (ts : List (Oid × ℕ)) (o : Oid) (b : ℕ) → trim_of ts o ≡ Some b → (x : Oid × ℕ) × Has ts x × (x.0 ≡ o)
trim_has [] o b is = absurd (cc)
trim_has (t ∷ ts) o b is = by (oid_eq t.0 o) refl (λ e. trim_has ts o b e) is
  where
    more : (x : Oid × ℕ) × Has ts x × (x.0 ≡ o) → (x : Oid × ℕ) × Has (t ∷ ts) x × (x.0 ≡ o)
    more g = (g.0, inr g.1, g.2)

    by : (c : Bool) → oid_eq t.0 o ≡ c → (trim_of ts o ≡ Some b → (x : Oid × ℕ) × Has ts x × (x.0 ≡ o)) → (if c then Some t.1 else trim_of ts o) ≡ Some b → (x : Oid × ℕ) × Has (t ∷ ts) x × (x.0 ≡ o)
    by true same rest e = (t, inl refl, same_oid t.0 o same)
    by false same rest e = more (rest e)

module _ (m : Meaning) where
  one_base : (a b : Base m) → Some a ≡ Some b → a ≡ b
  one_base a b e = cc

  -- a base past a position has gone past 0
  past_some : (b : Base m) (p : ℕ) (r : ReadMark) → unknown_by m p (Some b) r ≡ true → 0 < b.upto
  past_some b p r h = by (nat_lt p b.upto) refl h
    where
      less : nat_lt p b.upto ≡ true → 0 < b.upto
      less e = grind (arith, nat_tests, e)

      by : (c : Bool) → nat_lt p b.upto ≡ c → (c && nat_lt p (version_of b.versions r.oid r.part)) ≡ true → 0 < b.upto
      by true e k = less e
      by false e k = absurd (cc)

  -- Bases that are made, one for each object, where only past a trim one has gone past 0.
  module _ (gone : TrimPoints) (f : Oid → Base m) (of : (o : Oid) → (f o).oid ≡ o) (up : (o : Oid) → 0 < (f o).upto → (below : ℕ) × (trim_of gone o ≡ Some below)) where
    made_trimmed : (os : List Oid) (o : Oid) (b : Base m) → base_among m (map f os) o ≡ Some b → 0 < b.upto → (below : ℕ) × (trim_of gone o ≡ Some below)
    made_trimmed [] o b is less = absurd (cc)
    made_trimmed (x ∷ os) o b is less = by (oid_eq (f x).oid o) refl is (λ k. made_trimmed os o b k less)
      where
        by : (t : Bool) → oid_eq (f x).oid o ≡ t → cond t (Some (f x)) (base_among m (map f os) o) ≡ Some b → (base_among m (map f os) o ≡ Some b → (below : ℕ) × (trim_of gone o ≡ Some below)) → (below : ℕ) × (trim_of gone o ≡ Some below)
        by true e k rest =
            let same : x ≡ o = sym (of x) ∙ same_oid (f x).oid o e in
            subst (λ (y : Oid). (below : ℕ) × (trim_of gone y ≡ Some below)) same (up x (subst (λ (y : Base m). 0 < y.upto) (sym (one_base (f x) b k)) less))
        by false e k rest = rest k

    -- an object of which a read is unknown has no base, or its walk met a trim
    pub reads_trimmed : (os : List Oid) (own : Entries) (v : View m) (p : ℕ) (o : Oid) → v.bases ≡ map f os → Unknowns m own v p o → (base_among m (map f os) o ≡ None) ⊎ ((below : ℕ) × (trim_of gone o ≡ Some below))
    reads_trimmed os own v p o bases u = by (base_among m (map f os) o) refl
      where
        same : base_of m v o ≡ base_among m (map f os) o
        same = ap (λ (bs : List (Base m)). base_among m bs o) bases

        by : (b : Option (Base m)) → base_among m (map f os) o ≡ b → (base_among m (map f os) o ≡ None) ⊎ ((below : ℕ) × (trim_of gone o ≡ Some below))
        by None e = inl e
        by (Some b) e = inr (made_trimmed os o b e (past_some b p u.read (subst (λ (x : Option (Base m)). unknown_by m p x u.read ≡ true) (same ∙ e) u.unknown)))

    -- each of the objects has a base
    pub none_among : (os : List Oid) (o : Oid) → Has os o → base_among m (map f os) o ≡ None → ⊥
    none_among os o i none = let g = made_there m f os o (λ x j. of x) i in no g.0 (sym none ∙ g.1)
      where
        no : (b : Base m) → None ≡ Some b → ⊥
        no b e = cc

  -- A new view's bases.

  module _ (es : Entries) (gone : TrimPoints) (objects : List Oid) where
    base_oid : (o : Oid) → (view_base m es gone objects o).oid ≡ o
    unfolding view_base
    base_oid o = by (trim_of gone o)
      where
        from : (below : ℕ) (b : Option (Base m)) → load_from m es o below ≡ b → (base_or m objects o b).oid ≡ o
        from below None is = refl
        from below (Some b) is = let e = loaded_of m objects [] refl es o below b is in oid_loaded m objects [] refl o b e.entry e.is

        by : (t : Option ℕ) → (base_by m es objects o t).oid ≡ o
        by None = refl
        by (Some below) = from below (load_from m es o below) refl

    base_up : (o : Oid) → 0 < (view_base m es gone objects o).upto → (below : ℕ) × (trim_of gone o ≡ Some below)
    unfolding view_base
    base_up o less = by (trim_of gone o) refl less
      where
        by : (t : Option ℕ) → trim_of gone o ≡ t → 0 < (base_by m es objects o t).upto → (below : ℕ) × (trim_of gone o ≡ Some below)
        by None e k = absurd (omega (arith, k))
        by (Some below) e k = (below, e)

    -- A rescue.

    module _ (oids : List Oid) where
      abbrev begun : View m
      begun = view_start m (view_bases m es gone objects oids)

      abbrev pub playing : ℕ → Play m
      playing at = play m (view_start m (view_bases m es gone objects oids)) es (at + 1)

      -- a record at its position, or one below that isn't passed over, is undecided, since a read of this object is unknown
      pub record Blocks (at q : ℕ) (x : Oid) : Type 0 where
        pub unknowns : Unknowns m es (playing at).view q x
        pub undecided : decision_in es q ≡ None
        pub upto : q ≤ at
        pub played : q < at → passed_over m (playing at).view q unknowns.entry ≡ false
        pub stands : q ≤ (playing at).view.upto

      -- the object is one of those that are walked, and a commit record stands at its position
      pub record IsStuck (at q : ℕ) (x : Oid) : Type 0 where
        pub blocks : Blocks at q x
        pub among : has_oid x oids ≡ true
        pub entry : Entry
        pub there : commit_at es at ≡ Some entry

      some_pair : (a b : ℕ × Oid) → Some a ≡ Some b → a ≡ b
      some_pair a b e = cc

      none_pair : (b : ℕ × Oid) → None ≡ Some b → ⊥
      none_pair b e = cc

      pair_none : (b : ℕ × Oid) → Some b ≡ None → ⊥
      pair_none b e = cc

      record_blocks : (at : ℕ) (e : Entry) (d : Verdict) (b : ℕ × Oid) → at ≤ (playing at).view.upto → commit_at es at ≡ Some e → view_outcome m (playing at).view es at e ≡ d → record_block m (playing at).view es at d ≡ Some b → Blocks at b.0 b.1
      record_blocks at e Commits b stands here d is = absurd (none_pair b is)
      record_blocks at e Aborts b stands here d is = absurd (none_pair b is)
      record_blocks at e (Unknown o) b stands here d is =
          let g = outcome_there m es (playing at).view at e o here d in
          subst (λ (y : ℕ × Oid). Blocks at y.0 y.1) (some_pair (at, o) b is) (record { unknowns = g.0; undecided = g.1; upto = omega arith; played = λ l. absurd (omega (arith, l)); stands = stands })

      entry_blocks : (at : ℕ) (e : Option Entry) (b : ℕ × Oid) → at ≤ (playing at).view.upto → commit_at es at ≡ e → entry_block m (playing at).view es at e ≡ Some b → Blocks at b.0 b.1
      entry_blocks at None b stands here is = absurd (none_pair b is)
      entry_blocks at (Some e) b stands here is = record_blocks at e (view_outcome m (playing at).view es at e) b stands here refl is

      begun_stands : (at t : ℕ) → (playing at).came ≡ Played t → (playing at).view.upto ≡ at + 1
      unfolding view_start
      begun_stands at t came = played_stands m es (at + 1) t begun (omega arith) came

      blocks_by : (at : ℕ) (came : PlayEnd) (b : ℕ × Oid) → (playing at).came ≡ came → block_in m (playing at) es at came ≡ Some b → Blocks at b.0 b.1
      blocks_by at (Played t) b came is = let n = begun_stands at t came in entry_blocks at (commit_at es at) b (omega (arith, n)) refl is
      blocks_by at (Blocked q o) b came is =
          let g = blocked_there m es begun (at + 1) q o came in
          let less = g.below in
          let n = blocked_stands m es begun (at + 1) q o came in
          subst (λ (y : ℕ × Oid). Blocks at y.0 y.1) (some_pair (q, o) b is) (record { unknowns = g.unknowns; undecided = g.undecided; upto = omega (arith, less); played = λ l. g.played; stands = omega (arith, n) })

      -- not stuck without a block

      absent_stuck : (q : ℕ) (x : Oid) → ◌≡◌ {A = RescueTurn m} Absent (StuckAt q x) → ⊥
      absent_stuck q x e = cc

      known_stuck : (a b : Bool) (q : ℕ) (x : Oid) → ◌≡◌ {A = RescueTurn m} (Known a b) (StuckAt q x) → ⊥
      known_stuck a b q x e = cc

      verdict_free : (at q : ℕ) (x : Oid) (e : Entry) (d : Verdict) → record_block m (playing at).view es at d ≡ None → known_by m es at e d ≡ StuckAt q x → ⊥
      verdict_free at q x e Commits none k = known_stuck true _ q x k
      verdict_free at q x e Aborts none k = known_stuck false _ q x k
      verdict_free at q x e (Unknown o) none k = pair_none (at, o) none

      record_free : (at q : ℕ) (x : Oid) (e : Option Entry) → entry_block m (playing at).view es at e ≡ None → at_record m (playing at).view es at None e ≡ StuckAt q x → ⊥
      record_free at q x None none k = absent_stuck q x k
      record_free at q x (Some e) none k = verdict_free at q x e (view_outcome m (playing at).view es at e) none k

      free_by : (at q : ℕ) (x : Oid) (came : PlayEnd) → block_in m (playing at) es at came ≡ None → at_record m (playing at).view es at None (commit_at es at) ≡ StuckAt q x → ⊥
      free_by at q x (Played t) none k = record_free at q x (commit_at es at) none k
      free_by at q x (Blocked r o) none k = pair_none (r, o) none

      wide_stuck : (q : ℕ) (x : Oid) → ◌≡◌ {A = RescueTurn m} Wide (StuckAt q x) → ⊥
      wide_stuck q x e = cc

      wider_stuck : (o : Oid) (q : ℕ) (x : Oid) → ◌≡◌ {A = RescueTurn m} (Wider o) (StuckAt q x) → ⊥
      wider_stuck o q x e = cc

      grows_stuck : (o : Oid) (q : ℕ) (x : Oid) → grows m oids o ≡ StuckAt q x → ⊥
      grows_stuck o q x k = by (nat_le 128 (length oids)) k
        where
          by : (b : Bool) → ◌≡◌ {A = RescueTurn m} (if b then Wide else Wider o) (StuckAt q x) → ⊥
          by true e = wide_stuck q x e
          by false e = wider_stuck o q x e

      stuck_pos : (a b : ℕ) (o x : Oid) → ◌≡◌ {A = RescueTurn m} (StuckAt a o) (StuckAt b x) → a ≡ b
      stuck_pos a b o x e = cc

      stuck_oid : (a b : ℕ) (o x : Oid) → ◌≡◌ {A = RescueTurn m} (StuckAt a o) (StuckAt b x) → o ≡ x
      stuck_oid a b o x e = cc

      pub rescue_stuck : (at q : ℕ) (x : Oid) → rescue_turn m es gone oids objects at ≡ StuckAt q x → IsStuck at q x
      unfolding rescue_turn
      rescue_stuck at q x h = by (block_in m (playing at) es at (playing at).came) refl h
        where
          at_entry : (b : ℕ × Oid) → has_oid b.1 oids ≡ true → Blocks at b.0 b.1 → (e : Option Entry) → commit_at es at ≡ e → at_record m (playing at).view es at (Some b) e ≡ StuckAt q x → IsStuck at q x
          at_entry b set k None here is = absurd (absent_stuck q x is)
          at_entry b set k (Some e) here is =
              subst (λ (n : ℕ). IsStuck at n x) (stuck_pos b.0 q b.1 x is)
              (subst (λ (o : Oid). IsStuck at b.0 o) (stuck_oid b.0 q b.1 x is) (record { blocks = k; among = set; entry = e; there = here }))

          in_set : (b : ℕ × Oid) → Blocks at b.0 b.1 → (c : Bool) → has_oid b.1 oids ≡ c → (if c then at_record m (playing at).view es at (Some b) (commit_at es at) else grows m oids b.1) ≡ StuckAt q x → IsStuck at q x
          in_set b k true set is = at_entry b set k (commit_at es at) refl is
          in_set b k false set is = absurd (grows_stuck b.1 q x is)

          by : (b : Option (ℕ × Oid)) → block_in m (playing at) es at (playing at).came ≡ b → rescue_by m (playing at) es oids at b ≡ StuckAt q x → IsStuck at q x
          by None none k = absurd (free_by at q x (playing at).came none k)
          by (Some b) some k = in_set b (blocks_by at (playing at).came b refl some) (has_oid b.1 oids) refl k

      -- a rescue that would take one object more than there may be: a record at its position or below reads another
      pub record IsWide (at : ℕ) : Type 0 where
        pub pos : ℕ
        pub other : Oid
        pub blocks : Blocks at pos other
        pub outside : has_oid other oids ≡ false
        pub full : nat_le 128 (length oids) ≡ true

      known_wide : (at : ℕ) (e : Entry) (d : Verdict) → known_by m es at e d ≡ Wide → ⊥
      known_wide at e Commits k = cc
      known_wide at e Aborts k = cc
      known_wide at e (Unknown o) k = cc

      record_wide : (v : View m) (at : ℕ) (b : Option (ℕ × Oid)) (e : Option Entry) → at_record m v es at b e ≡ Wide → ⊥
      record_wide v at b None k = cc
      record_wide v at (Some b) (Some e) k = cc
      record_wide v at None (Some e) k = known_wide at e (view_outcome m v es at e) k

      grows_wide : (o : Oid) → grows m oids o ≡ Wide → nat_le 128 (length oids) ≡ true
      grows_wide o k = by (nat_le 128 (length oids)) k
        where
          by : (b : Bool) → ◌≡◌ {A = RescueTurn m} (if b then Wide else Wider o) Wide → b ≡ true
          by true e = refl
          by false e = absurd cc

      pub rescue_wide : (at : ℕ) → rescue_turn m es gone oids objects at ≡ Wide → IsWide at
      unfolding rescue_turn
      rescue_wide at h = by (block_in m (playing at) es at (playing at).came) refl h
        where
          in_set : (b : ℕ × Oid) → Blocks at b.0 b.1 → (c : Bool) → has_oid b.1 oids ≡ c → (if c then at_record m (playing at).view es at (Some b) (commit_at es at) else grows m oids b.1) ≡ Wide → IsWide at
          in_set b k true set is = absurd (record_wide (playing at).view at (Some b) (commit_at es at) is)
          in_set b k false set is = record { pos = b.0; other = b.1; blocks = k; outside = set; full = grows_wide b.1 is }

          by : (b : Option (ℕ × Oid)) → block_in m (playing at) es at (playing at).came ≡ b → rescue_by m (playing at) es oids at b ≡ Wide → IsWide at
          by None none k = absurd (record_wide (playing at).view at None (commit_at es at) k)
          by (Some b) some k = in_set b (blocks_by at (playing at).came b refl some) (has_oid b.1 oids) refl k

      -- its walk met a trim
      pub stuck_trimmed : (at q : ℕ) (x : Oid) → IsStuck at q x → (below : ℕ) × (trim_of gone x ≡ Some below)
      unfolding view_start view_bases
      stuck_trimmed at q x k = by (reads_trimmed gone (view_base m es gone objects) base_oid base_up oids es (playing at).view q x (plays_further m es begun (at + 1)).bases k.blocks.unknowns)
        where
          by : (base_among m (map (view_base m es gone objects) oids) x ≡ None) ⊎ ((below : ℕ) × (trim_of gone x ≡ Some below)) → (below : ℕ) × (trim_of gone x ≡ Some below)
          by (inl none) = absurd (none_among gone (view_base m es gone objects) base_oid base_up oids x (has_oid_has x oids k.among) none)
          by (inr t) = t
