-- Views over entries of format 1 have the outcomes of whole reads.
use Rattle.std.proofs.Common.{◌≡◌, ◌⊎◌, ℕ, ◌+◌, ◌<◌, ◌≤◌, List, [], ◌∷◌, map, Bool, true, false, refl, sym, ap, ◌∙◌, subst, inl, inr, arith, Some, None, Option, Contains}
use Rattle.std.specs.Prelude.{nat_lt, nat_le, not, ◌&&◌, ◌||◌, ◌==◌, if◌then◌else◌, find}
use Rattle.std.specs.List.{list_any, list_all}
use Rattle.tg_base.specs.declared.ids.Oid.{Oid}
use Rattle.tg_base.specs.declared.marks.Part.{Part}
use Rattle.tg_base.specs.declared.marks.Part.TheVariants.{All}
use Rattle.tg_base.specs.declared.marks.ReadMark.{ReadMark}
use Rattle.tg_entry.specs.declared.entry.Body.{Body}
use Rattle.tg_entry.specs.declared.entry.Body.TheVariants.{Commit, Decision, Checkpoint}
use Rattle.tg_entry.specs.declared.entry.WriteOp.{WriteOp}
use Rattle.tg_entry.specs.declared.entry.Entry.{Entry}
use Rattle.tg_kind.specs.Meaning.{Meaning}
use Rattle.tg_kind.specs.Parts.{is_whole, part_eq, overlap}
use Rattle.tg_base.specs.Orders.{oid_eq}
use Rattle.tg_entry.specs.Needs.{reads_of, writes_of}
use Rattle.tg_protocol.specs.Words.{has_oid, or_else}
use Rattle.tg_protocol.specs.Entries.{is_commit, body_commits, decides}
use Rattle.tg_protocol.specs.Versions.{PartVersion, Changed, noted_or, version_of, first_changed, no_versions}
use Rattle.tg_protocol.specs.Views.{Entries, decision_in, Verdict, Commits, Aborts, Unknown, said, Base, View, view_start, fresh_base, base_of, fate_in, fate_of, past, version_by, version_at, unknown_by, unknown_in, changed_in, by_changes, by_versions, by_decision, verdict, applied, state_of, set_state, touched, note, write_by, plays, write, write_all, passed_over, with_fate, with_verdict, with_open, Play, Step, On, Stuck, decided_step, record_step, entry_step, step_at, between, play_on, play_from, play}
use Rattle.tg_law_replies.specs.Plays.Sound.{rise_from, IsRising, base_among}
use Rattle.tg_law_replies.specs.Plays.Old.{is_write_of, last_write, is_unchanged, commits_whole, whole_outcomes, has_position, commits_at, AreOld, AreHosted, OldEntriesWhole}
use Rattle.tg_law_replies.proofs.History.Members.{Has, has_contained, contained_has, lt_of, not_lt, same_number, number_same, differ, either}
use Rattle.tg_law_replies.proofs.Pages.Old.{old_reads}
use Rattle.tg_law_replies.proofs.Plays.Joins.{step_on, on_more, rises_next}
use Rattle.tg_law_replies.proofs.Plays.Kept.{Within, within_between}

-- What is asked of a record.

abbrev AreRead : List Oid → List ReadMark → Type 0
AreRead os [] = Unit {0}
AreRead os (r ∷ rs) = (r.part ≡ All) × (has_oid r.oid os ≡ true) × AreRead os rs

abbrev AreWritten : List Oid → List WriteOp → Type 0
AreWritten os [] = Unit {0}
AreWritten os (w ∷ ws) = (has_oid w.oid os ≡ true) × AreWritten os ws

record IsPlain (os : List Oid) (e : Entry) : Type 0 where
  commits : is_commit e ≡ true
  reads : AreRead os (reads_of e)
  writes : AreWritten os (writes_of e)

abbrev ArePlain : List Oid → Entries → Type 0
ArePlain os [] = Unit {0}
ArePlain os (x ∷ xs) = IsPlain os x.1 × ArePlain os xs

are_read : (os : List Oid) (rs : List ReadMark) → ((r : ReadMark) → Has rs r → (r.part ≡ All) × (has_oid r.oid os ≡ true)) → AreRead os rs
are_read os [] h = tt
are_read os (r ∷ rs) h = let first = h r (inl refl) in (first.0, first.1, are_read os rs (λ x i. h x (inr i)))

are_written : (os : List Oid) (ws : List WriteOp) → ((w : WriteOp) → Has ws w → has_oid w.oid os ≡ true) → AreWritten os ws
are_written os [] h = tt
are_written os (w ∷ ws) h = (h w (inl refl), are_written os ws (λ x i. h x (inr i)))

are_plain : (os : List Oid) (xs : Entries) → ((p : ℕ) (e : Entry) → Has xs (p, e) → IsPlain os e) → ArePlain os xs
are_plain os [] h = tt
are_plain os (x ∷ xs) h = (h x.0 x.1 (inl refl), are_plain os xs (λ p e i. h p e (inr i)))

plain_of : (os : List Oid) (es : Entries) → AreOld es → AreHosted os es → ArePlain os es
plain_of os es old hosted = are_plain os es (λ p e i. let c = contained_has es (p, e) i in record {
  commits = hosted.commits p e c;
  reads = are_read os (reads_of e) (λ r j. (old_reads (old p e c).1.0 e (old p e c).1.1 (old p e c).0 r j, hosted.reads p e r c (contained_has (reads_of e) r j)));
  writes = are_written os (writes_of e) (λ w j. hosted.writes p e w c (contained_has (writes_of e) w j));
})

-- No record is a decision record.

none_decided : (os : List Oid) (es : Entries) (p : ℕ) → ArePlain os es → decision_in es p ≡ None
unfolding decision_in
none_decided os [] p h = refl
none_decided os (x ∷ xs) p h = by x.1.body h.0.commits (none_decided os xs p h.1)
  where
    by : (b : Body) → body_commits b ≡ true → decision_in xs p ≡ None → or_else (decides p b) (decision_in xs p) ≡ None
    by (Commit rs ws) is rest = rest
    by (Decision at so) is rest = absurd cc
    by (Checkpoint o u v whole keys state) is rest = absurd cc

-- Positions.

apart : (p q : ℕ) → q < p → (p == q) ≡ false
apart p q less = grind arith

same_or_less : (q p : ℕ) → q < p + 1 → (p ≡ q) ⊎ (q < p)
same_or_less q p less = grind arith

-- records from a position on have no part in what stands below
none_later : (low q : ℕ) (xs done : Entries) → rise_from low xs ≡ true → q < low → list_any (has_position q) (whole_outcomes done xs) ≡ list_any (has_position q) done
none_later low q [] done rising less = refl
none_later low q (x ∷ xs) done rising less = by (commits_whole done x.1) (λ (ds : Entries). none_later (x.0 + 1) q xs ds next.1 (omega (arith, above)))
  where
    next : (low ≤ x.0) × (rise_from (x.0 + 1) xs ≡ true)
    next = grind arith

    above : q < x.0
    above = let le = next.0 in omega (arith, le, less)

    by : (b : Bool) → ((ds : Entries) → list_any (has_position q) (whole_outcomes ds xs) ≡ list_any (has_position q) ds)
        → list_any (has_position q) (whole_outcomes (if b then x ∷ done else done) xs) ≡ list_any (has_position q) done
    by true rest = rest (x ∷ done) ∙ ap (λ (b : Bool). b || list_any (has_position q) done) (apart x.0 q above)
    by false rest = rest done

module _ (m : Meaning) (objects os : List Oid) (es : Entries) where
  abbrev bases : List (Base m)
  bases = map (fresh_base m objects) os

  -- a hosted object's base is fresh
  record IsFresh (b : Option (Base m)) : Type 0 where
    base : Base m
    is : b ≡ Some base
    upto : base.upto ≡ 0
    versions : base.versions ≡ no_versions

  fresh_in : (xs : List Oid) (o : Oid) → has_oid o xs ≡ true → IsFresh (base_among m (map (fresh_base m objects) xs) o)
  fresh_in [] o h = absurd (cc)
  fresh_in (x ∷ xs) o h = by (oid_eq x o) refl (λ e. fresh_in xs o (turned e))
    where
      turned : oid_eq x o ≡ false → has_oid o xs ≡ true
      turned e = grind arith

      by : (b : Bool) → oid_eq x o ≡ b → (oid_eq x o ≡ false → IsFresh (base_among m (map (fresh_base m objects) xs) o))
          → IsFresh (if b then Some (fresh_base m objects x) else base_among m (map (fresh_base m objects) xs) o)
      by true e rest = record { base = fresh_base m objects x; is = refl; upto = refl; versions = refl }
      by false e rest = rest e

  -- The versions that a view has are those of the records that were committed.

  abbrev whole_version : View m → Oid → ℕ
  whole_version v o = noted_or None v.noted o All

  record IsAt (done : Entries) (v : View m) : Type 0 where
    bases_are : v.bases ≡ bases
    versions_are : (o : Oid) → whole_version v o ≡ last_write done o

  fresh_at : (v : View m) (o : Oid) → v.bases ≡ bases → has_oid o os ≡ true → IsFresh (base_of m v o)
  fresh_at v o is h = subst (λ (bs : List (Base m)). IsFresh (base_among m bs o)) (sym is) (fresh_in os o h)

  no_past : (p n : ℕ) → n ≡ 0 → nat_lt p n ≡ false
  no_past p n h = grind arith

  known_by : (v : View m) (p : ℕ) (r : ReadMark) (b : Option (Base m)) → IsFresh b → unknown_by m p b r ≡ false
  known_by v p r b f = ap (λ (x : Option (Base m)). unknown_by m p x r) f.is ∙ ap (λ (t : Bool). t && nat_lt p (version_of f.base.versions r.oid r.part)) (no_past p f.base.upto f.upto)

  version_by_fresh : (v : View m) (p : ℕ) (r : ReadMark) (b : Option (Base m)) → r.part ≡ All → IsFresh b → version_by m v p b r ≡ whole_version v r.oid
  unfolding version_of no_versions
  version_by_fresh v p r b all f =
      ap (λ (x : Option (Base m)). version_by m v p x r) f.is
      ∙ (ap (λ (t : Bool). if t then version_of f.base.versions r.oid r.part else noted_or f.base.versions.base v.noted r.oid r.part) (no_past p f.base.upto f.upto)
      ∙ (ap (λ x. noted_or x.base v.noted r.oid r.part) f.versions
      ∙ ap (λ (k : Part). noted_or None v.noted r.oid k) all))

  none_unknown : (v : View m) (p : ℕ) (rs : List ReadMark) → v.bases ≡ bases → AreRead os rs → unknown_in m v rs p ≡ None
  unfolding unknown_in
  none_unknown v p [] is h = refl
  none_unknown v p (r ∷ rs) is h =
      ap (λ (t : Bool). if t then Some r.oid else unknown_in m v rs p) (known_by v p r (base_of m v r.oid) (fresh_at v r.oid is h.1)) ∙ none_unknown v p rs is h.2

  changes : (done : Entries) (v : View m) (p : ℕ) (rs : List ReadMark) → IsAt done v → AreRead os rs → by_changes m (first_changed (version_at m v p) rs) ≡ said m (list_all (is_unchanged done) rs)
  changes done v p [] at h = refl
  changes done v p (r ∷ rs) at h = by (version_at m v p r == r.version) refl (changes done v p rs at h.2)
    where
      version : version_at m v p r ≡ last_write done r.oid
      version = version_by_fresh v p r (base_of m v r.oid) h.0 (fresh_at v r.oid at.bases_are h.1) ∙ at.versions_are r.oid

      unchanged : is_unchanged done r ≡ (version_at m v p r == r.version)
      unchanged = ap (λ (n : ℕ). n == r.version) (sym version)

      by : (b : Bool) → (version_at m v p r == r.version) ≡ b → by_changes m (first_changed (version_at m v p) rs) ≡ said m (list_all (is_unchanged done) rs)
          → by_changes m (if b then first_changed (version_at m v p) rs else Some (record { read = r; now = version_at m v p r })) ≡ said m (is_unchanged done r && list_all (is_unchanged done) rs)
      by true e rest = rest ∙ ap (λ (t : Bool). said m (t && list_all (is_unchanged done) rs)) (sym (unchanged ∙ e))
      by false e rest = ap (λ (t : Bool). said m (t && list_all (is_unchanged done) rs)) (sym (unchanged ∙ e))

  -- so a record is decided by whole objects
  decided : (done : Entries) (v : View m) (p : ℕ) (e : Entry) → ArePlain os es → IsAt done v → IsPlain os e → verdict m v es p e ≡ said m (commits_whole done e)
  unfolding verdict changed_in
  decided done v p e plain at h =
      ap (λ (d : Option Bool). by_decision m v e p d) (none_decided os es p plain)
      ∙ (ap (λ (o : Option Oid). by_versions m v (reads_of e) p o) (none_unknown v p (reads_of e) at.bases_are h.reads)
      ∙ (changes done v p (reads_of e) at h.reads
      ∙ ap (λ (t : Bool). said m (t && list_all (is_unchanged done) (reads_of e))) (sym h.commits)))

  -- What a committed record leaves.

  record Wrote (p : ℕ) (ws : List WriteOp) (v w : View m) : Type 0 where
    bases_stay : w.bases ≡ v.bases
    fates_stay : w.fates ≡ v.fates
    versions_rise : (o : Oid) → whole_version w o ≡ (if list_any (is_write_of o) ws then p + 1 else whole_version v o)

  all_overlaps : (k : Part) → overlap k All ≡ true
  all_overlaps k = grind arith

  set_keeps : (v : View m) (o : Oid) (s : Option m.state) → ((set_state m v o s).bases ≡ v.bases) × ((set_state m v o s).fates ≡ v.fates) × ((set_state m v o s).noted ≡ v.noted)
  set_keeps v o None = (refl, refl, refl)
  set_keeps v o (Some s) = (refl, refl, refl)

  wrote_one : (p : ℕ) (v : View m) (w : WriteOp) (op : Option m.op) → Wrote p (w ∷ []) v (write_by m v p w op)
  wrote_one p v w op = let k = set_keeps v w.oid (applied m op (state_of m v w.oid)) in record {
    bases_stay = k.0;
    fates_stay = k.1;
    versions_rise = λ o. ap (λ (t : Bool). if oid_eq w.oid o && t then p + 1 else noted_or None (set_state m v w.oid (applied m op (state_of m v w.oid))).noted o All) (all_overlaps (touched m op))
        ∙ by (oid_eq w.oid o) o k.2;
  }
    where
      by : (b : Bool) (o : Oid) → (set_state m v w.oid (applied m op (state_of m v w.oid))).noted ≡ v.noted
          → (if b && true then p + 1 else noted_or None (set_state m v w.oid (applied m op (state_of m v w.oid))).noted o All) ≡ (if b || false then p + 1 else whole_version v o)
      by true o is = refl
      by false o is = ap (λ (ns : List PartVersion). noted_or None ns o All) is

  plays_fresh : (p : ℕ) (b : Option (Base m)) → IsFresh b → plays m p b ≡ true
  plays_fresh p b f = ap (λ (x : Option (Base m)). plays m p x) f.is ∙ ap not (no_past p f.base.upto f.upto)

  wrote_next : (p : ℕ) (v w : View m) (x : WriteOp) (xs : List WriteOp) (u : View m) → Wrote p (x ∷ []) v w → Wrote p xs w u → Wrote p (x ∷ xs) v u
  wrote_next p v w x xs u first rest = record {
    bases_stay = rest.bases_stay ∙ first.bases_stay;
    fates_stay = rest.fates_stay ∙ first.fates_stay;
    versions_rise = λ o. rest.versions_rise o ∙ (ap (λ (n : ℕ). if list_any (is_write_of o) xs then p + 1 else n) (first.versions_rise o) ∙ by o (list_any (is_write_of o) xs) (is_write_of o x));
  }
    where
      by : (o : Oid) (b c : Bool) → (if b then p + 1 else (if c || false then p + 1 else whole_version v o)) ≡ (if c || b then p + 1 else whole_version v o)
      by o true true = refl
      by o true false = refl
      by o false true = refl
      by o false false = refl

  wrote_all : (p : ℕ) (v : View m) (ws : List WriteOp) → v.bases ≡ bases → AreWritten os ws → Wrote p ws v (write_all m p v ws)
  wrote_all p v [] is h = record { bases_stay = refl; fates_stay = refl; versions_rise = λ o. refl }
  wrote_all p v (x ∷ xs) is h = by (plays m p (base_of m v x.oid)) (plays_fresh p (base_of m v x.oid) (fresh_at v x.oid is h.0)) (λ u same. wrote_all p u xs same h.1)
    where
      by : (b : Bool) → b ≡ true → ((u : View m) → u.bases ≡ bases → Wrote p xs u (write_all m p u xs)) → Wrote p (x ∷ xs) v (write_all m p (if b then write_by m v p x (m.read x.oid x.op) else v) xs)
      by true e rest = let first = wrote_one p v x (m.read x.oid x.op) in
          wrote_next p v (write_by m v p x (m.read x.oid x.op)) x xs _ first (rest (write_by m v p x (m.read x.oid x.op)) (first.bases_stay ∙ is))
      by false e rest = absurd (differ (sym e))

  -- a record is passed over only where it writes nothing
  writes_none : (v : View m) (p : ℕ) (ws : List WriteOp) → v.bases ≡ bases → AreWritten os ws → not (list_any (λ (w : WriteOp). plays m p (base_of m v w.oid)) ws) ≡ true → ws ≡ []
  writes_none v p [] is h none = refl
  writes_none v p (x ∷ xs) is h none = absurd (by (plays m p (base_of m v x.oid)) (plays_fresh p (base_of m v x.oid) (fresh_at v x.oid is h.0)) none)
    where
      by : (b : Bool) → b ≡ true → not (b || list_any (λ (w : WriteOp). plays m p (base_of m v w.oid)) xs) ≡ true → ⊥
      by true e z = cc
      by false e z = differ (sym e)

  -- One record.

  record Goes (done : Entries) (low : ℕ) (v : View m) : Type 0 where
    at : IsAt done v
    below : (q : ℕ) → low ≤ q → list_any (has_position q) done ≡ false
    fates_are : (q : ℕ) (b : Bool) → fate_of m v q ≡ Some b → (q < low) × (b ≡ list_any (has_position q) done)

  -- with the fate of the record at p, whose outcome b says
  fates_with : (done : Entries) (low p : ℕ) (e : Entry) (v : View m) → low ≤ p → Goes done low v → (b : Bool) (q : ℕ) (c : Bool)
      → fate_in m ((p, b) ∷ v.fates) q ≡ Some c → (q < p + 1) × (c ≡ list_any (has_position q) (if b then (p, e) ∷ done else done))
  fates_with done low p e v le goes b q c told = by (p == q) refl told
    where
      here : p ≡ q → Some b ≡ Some c → (t : Bool) → b ≡ t → (q < p + 1) × (c ≡ list_any (has_position q) (if t then (p, e) ∷ done else done))
      here same is true bt = (omega (arith, same), sym (some is) ∙ (bt ∙ sym (ap (λ (t : Bool). t || list_any (has_position q) done) (number_same p q same))))
        where
          some : Some b ≡ Some c → b ≡ c
          some z = cc
      here same is false bf = (omega (arith, same), sym (some is) ∙ (bf ∙ sym (goes.below q (omega (arith, le, same)))))
        where
          some : Some b ≡ Some c → b ≡ c
          some z = cc

      other : fate_in m v.fates q ≡ Some c → (t : Bool) → (q < p + 1) × (c ≡ list_any (has_position q) (if t then (p, e) ∷ done else done))
      other is true = let f = goes.fates_are q c is in let less = f.0 in
          (omega (arith, less, le), f.1 ∙ sym (ap (λ (t : Bool). t || list_any (has_position q) done) (apart p q (omega (arith, less, le)))))
      other is false = let f = goes.fates_are q c is in let less = f.0 in (omega (arith, less, le), f.1)

      by : (t : Bool) → (p == q) ≡ t → (if t then Some b else fate_in m v.fates q) ≡ Some c → (q < p + 1) × (c ≡ list_any (has_position q) (if b then (p, e) ∷ done else done))
      by true is z = here (same_number p q is) z b refl
      by false is z = other z b

  none_at : (done : Entries) (low p : ℕ) (e : Entry) (v : View m) → low ≤ p → Goes done low v → (b : Bool) (q : ℕ) → p + 1 ≤ q → list_any (has_position q) (if b then (p, e) ∷ done else done) ≡ false
  none_at done low p e v le goes true q more = ap (λ (t : Bool). t || list_any (has_position q) done) (differs p q more) ∙ goes.below q (omega (arith, le, more))
    where
      differs : (a c : ℕ) → a + 1 ≤ c → (a == c) ≡ false
      differs a c h = grind arith
  none_at done low p e v le goes false q more = goes.below q (omega (arith, le, more))

  abbrev GoesTo : Entries → ℕ → Step m → Type 0
  GoesTo done low (On w) = Goes done low w
  GoesTo done low (Stuck o) = ⊥

  record_goes : (done : Entries) (low p : ℕ) (e : Entry) (v : View m) → low ≤ p → IsPlain os e → Goes done low v → (b passed : Bool) → passed_over m v p e ≡ passed
      → GoesTo (if b then (p, e) ∷ done else done) (p + 1) (record_step m v p e (said m b) passed)
  record_goes done low p e v le h goes false true is = record {
    at = record { bases_are = goes.at.bases_are; versions_are = goes.at.versions_are };
    below = none_at done low p e v le goes false;
    fates_are = fates_with done low p e v le goes false;
  }
  record_goes done low p e v le h goes false false is = record {
    at = record { bases_are = goes.at.bases_are; versions_are = goes.at.versions_are };
    below = none_at done low p e v le goes false;
    fates_are = fates_with done low p e v le goes false;
  }
  record_goes done low p e v le h goes true true is = record {
    at = record {
      bases_are = goes.at.bases_are;
      versions_are = λ o. goes.at.versions_are o ∙ ap (λ (ws : List WriteOp). if list_any (is_write_of o) ws then p + 1 else last_write done o) (sym (writes_none v p (writes_of e) goes.at.bases_are h.writes is));
    };
    below = none_at done low p e v le goes true;
    fates_are = fates_with done low p e v le goes true;
  }
  record_goes done low p e v le h goes true false is = let w = wrote_all p (with_fate m v p true) (writes_of e) goes.at.bases_are h.writes in record {
    at = record {
      bases_are = w.bases_stay ∙ goes.at.bases_are;
      versions_are = λ o. w.versions_rise o ∙ ap (λ (n : ℕ). if list_any (is_write_of o) (writes_of e) then p + 1 else n) (goes.at.versions_are o);
    };
    below = none_at done low p e v le goes true;
    fates_are = λ q c told. fates_with done low p e v le goes true q c (ap (λ (fs : List (ℕ × Bool)). fate_in m fs q) (sym w.fates_stay) ∙ told);
  }

  open_goes : (done : Entries) (low p : ℕ) (v : View m) (b : Bool) → Goes done low v → Goes done low (if b then record v { open_records = p ∷ v.open_records } else v)
  open_goes done low p v true h = record { at = record { bases_are = h.at.bases_are; versions_are = h.at.versions_are }; below = h.below; fates_are = h.fates_are }
  open_goes done low p v false h = h

  open_passed : (p : ℕ) (e : Entry) (v : View m) (b : Bool) → passed_over m (if b then record v { open_records = p ∷ v.open_records } else v) p e ≡ passed_over m v p e
  open_passed p e v true = refl
  open_passed p e v false = refl

  step_goes : (done : Entries) (low p : ℕ) (e : Entry) (v : View m) → ArePlain os es → low ≤ p → IsPlain os e → Goes done low v → GoesTo (if commits_whole done e then (p, e) ∷ done else done) (p + 1) (step_at m v es p e)
  unfolding step_at
  step_goes done low p e v plain le h goes =
      subst (λ (t : Bool). GoesTo (if commits_whole done e then (p, e) ∷ done else done) (p + 1) (entry_step m v es p e t)) (sym h.commits)
      (subst (λ (d : Verdict). GoesTo (if commits_whole done e then (p, e) ∷ done else done) (p + 1) (record_step m (with_open m v es p e) p e d (passed_over m v p e))) (sym (decided done v p e plain goes.at h))
      (record_goes done low p e (with_open m v es p e) le h (open_goes done low p v _ goes) (commits_whole done e) (passed_over m v p e) (open_passed p e v _)))

  -- Plays.

  record Ends (done : Entries) (high : ℕ) (v : View m) : Type 0 where
    fates_end : (q : ℕ) (b : Bool) → fate_of m v q ≡ Some b → (q < high) × (b ≡ list_any (has_position q) done)

  on_ends : (upto : ℕ) (v : View m) (p : ℕ) (xs done all : Entries) → ((w : View m) → Goes done (p + 1) w → Ends all upto (play_on m es upto w xs).view) → (s : Step m) → GoesTo done (p + 1) s → Ends all upto (step_on m es upto v p xs s).view
  unfolding step_on
  on_ends upto v p xs done all rest (On w) h = rest w h
  on_ends upto v p xs done all rest (Stuck o) h = absurd h

  play_ends : (upto low : ℕ) (xs done : Entries) (v : View m) → ArePlain os es → low ≤ upto → Within low upto xs → ArePlain os xs → Goes done low v → Ends (whole_outcomes done xs) upto (play_on m es upto v xs).view
  unfolding play_on
  play_ends upto low [] done v plain le w h goes = record { fates_end = λ q b told. let f = goes.fates_are q b told in let less = f.0 in (omega (arith, less, le), f.1) }
  play_ends upto low (x ∷ xs) done v plain le w h goes =
      let less = w.1 in
      subst (λ (y : Play m). Ends (whole_outcomes done (x ∷ xs)) upto y.view) (sym (on_more m es upto v x xs))
      (on_ends upto v x.0 xs (if commits_whole done x.1 then x ∷ done else done) (whole_outcomes done (x ∷ xs))
      (λ u g. play_ends upto (x.0 + 1) xs (if commits_whole done x.1 then x ∷ done else done) u plain (omega (arith, less)) w.2 h.1 g) (step_at m v es x.0 x.1)
      (step_goes done low x.0 x.1 v plain w.0 h.0 goes))

  at_first : (low high : ℕ) (x : ℕ × Entry) (xs : Entries) → between m low high (x ∷ xs) ≡ (if nat_le low x.0 && nat_lt x.0 high then x ∷ between m low high xs else between m low high xs)
  at_first low high x xs = refl

  plain_between : (low high : ℕ) (xs : Entries) → ArePlain os xs → ArePlain os (between m low high xs)
  plain_between low high [] h = tt
  plain_between low high (x ∷ xs) h = subst (λ (ys : Entries). ArePlain os ys) (sym (at_first low high x xs)) (by (nat_le low x.0 && nat_lt x.0 high) (plain_between low high xs h.1))
    where
      by : (b : Bool) → ArePlain os (between m low high xs) → ArePlain os (if b then x ∷ between m low high xs else between m low high xs)
      by true rest = (h.0, rest)
      by false rest = rest

  all_above : (x : ℕ) → nat_le 0 x ≡ true
  all_above x = grind arith

  -- entries past the target say nothing of what stands below
  same_below : (upto q r : ℕ) (xs done : Entries) → rise_from r xs ≡ true → q < upto
      → list_any (has_position q) (whole_outcomes done (between m 0 upto xs)) ≡ list_any (has_position q) (whole_outcomes done xs)
  same_below upto q r [] done rising less = refl
  same_below upto q r (x ∷ xs) done rising less =
      ap (λ (ys : Entries). list_any (has_position q) (whole_outcomes done ys)) (at_first 0 upto x xs ∙ ap (λ (t : Bool). if t && nat_lt x.0 upto then x ∷ between m 0 upto xs else between m 0 upto xs) (all_above x.0))
      ∙ by (nat_lt x.0 upto) refl (λ (ds : Entries). same_below upto q (x.0 + 1) xs ds next less)
    where
      next : rise_from (x.0 + 1) xs ≡ true
      next = (rises_next m r x xs rising).1

      from_here : rise_from x.0 (x ∷ xs) ≡ true
      from_here = grind (arith, next)

      by : (b : Bool) → nat_lt x.0 upto ≡ b → ((ds : Entries) → list_any (has_position q) (whole_outcomes ds (between m 0 upto xs)) ≡ list_any (has_position q) (whole_outcomes ds xs))
          → list_any (has_position q) (whole_outcomes done (if true && b then x ∷ between m 0 upto xs else between m 0 upto xs)) ≡ list_any (has_position q) (whole_outcomes done (x ∷ xs))
      by true is rest = rest (if commits_whole done x.1 then x ∷ done else done)
      by false is rest = let le = not_lt x.0 upto is in
          rest done ∙ (none_later (x.0 + 1) q xs done next (omega (arith, le, less)) ∙ sym (none_later x.0 q (x ∷ xs) done from_here (omega (arith, le, less))))

  starts : Goes [] 0 (view_start m bases)
  unfolding view_start
  starts = record { at = record { bases_are = refl; versions_are = λ o. refl }; below = λ q le. refl; fates_are = λ q b told. absurd (none b told) }
    where
      none : (b : Bool) → None ≡ Some b → ⊥
      none b z = cc

  never : (upto : ℕ) → nat_lt upto 0 ≡ false
  never upto = grind arith

  ends : (upto : ℕ) → IsRising es → ArePlain os es → Ends (whole_outcomes [] (between m 0 upto es)) upto (play m (view_start m bases) es upto).view
  unfolding play view_start
  ends upto rising plain =
      subst (λ (t : Bool). Ends (whole_outcomes [] (between m 0 upto es)) upto (play_from m (view_start m bases) es upto t).view) (sym (never upto))
      (play_ends upto 0 (between m 0 upto es) [] (view_start m bases) plain (omega arith) (within_between m 0 0 upto es rising) (plain_between 0 upto es plain) starts)

pub old_entries_whole : (m : Meaning) → OldEntriesWhole m
old_entries_whole m es os objects upto p b rising old hosted told =
    let plain = plain_of os es old hosted in
    let f = (ends m objects os es upto rising plain).fates_end p b told in
    f.1 ∙ same_below m objects os es upto p 0 es [] rising f.0
