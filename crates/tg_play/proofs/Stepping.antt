-- What a record makes of a view.
use Rattle.std.specs.Prelude.{◌≡◌, ℕ, ◌+◌, ◌≤◌, Bool, true, false, cond, not, ◌&&◌, List, [], ◌∷◌, Option, Some, None, is_some, refl}
use Rattle.std.specs.BTreeMap.{insert_entry}
use Rattle.std.specs.BTreeSet.{insert_key}
use Rattle.std.specs.List.{list_any}
use Rattle.std.specs.Ordering.{nat_cmp}
use Rattle.std.proofs.Common.{sym, ap, ◌∙◌, subst, arith}
use Rattle.tg_base.specs.declared.ids.Oid.{Oid}
use Rattle.tg_base.specs.declared.marks.Part.{Part}
use Rattle.tg_entry.specs.declared.entry.WriteOp.{WriteOp}
use Rattle.tg_entry.specs.declared.entry.Entry.{Entry}
use Rattle.tg_kind.specs.Meaning.{Meaning}
use Rattle.tg_entry.specs.Needs.{writes_of, needs_decision}
use Rattle.tg_protocol.specs.Entries.{is_commit}
use Rattle.tg_protocol.specs.Views as told
use Rattle.tg_protocol.specs.Views.{Entries, decision_in}
use Rattle.tg_play.specs.Kept.{Kept, Hosts, at_position, fates_kept, rising_positions, decisions_kept}
use Rattle.tg_play.specs.Relations.{AtMost, KeepsObjects, KeepsTo, Stepped, record_made}
use Rattle.tg_play.proofs.Own.{at_most_more}
use Rattle.tg_play.proofs.Places.{decisions_told}

module _ (m : Meaning) where
  abbrev pub opened : Kept m.state → ℕ → Bool → Kept m.state
  opened c p needs = cond needs (record c { open_records = insert_key nat_cmp c.open_records p }) c

  abbrev pub open_told : told.View m → ℕ → Bool → told.View m
  open_told v p needs = cond needs (record v { open_records = p ∷ v.open_records }) v

  pub keeps_more : (p q : ℕ) (c : Kept m.state) (v : told.View m) → p ≤ q → KeepsTo m p c v → KeepsTo m q c v
  keeps_more p q c v le k = record { objects = k.objects; upto = k.upto; fates = k.fates; open_records = k.open_records; noted = at_most_more p q v.noted le k.noted }

  opens : (p q : ℕ) (c : Kept m.state) (v : told.View m) (needs : Bool) → KeepsTo m q c v → KeepsTo m q (opened c p needs) (open_told v p needs)
  opens p q c v true k = record {
    objects = record { each = k.objects.each };
    upto = k.upto;
    fates = k.fates;
    open_records = ap (λ (ps : List ℕ). insert_key nat_cmp ps p) k.open_records;
    noted = k.noted;
  }
  opens p q c v false k = k

  fated : (p q : ℕ) (b : Bool) (c : Kept m.state) (v : told.View m) → KeepsTo m q c v → KeepsTo m q (record c { fates = insert_entry nat_cmp c.fates p b }) (told.with_fate m v p b)
  fated p q b c v k = record {
    objects = record { each = k.objects.each };
    upto = k.upto;
    fates = ap (λ (xs : List (ℕ × Bool)). insert_entry nat_cmp xs p b) k.fates;
    open_records = k.open_records;
    noted = k.noted;
  }

  -- what writes leave of a view

  record Rest (p : ℕ) (v w : told.View m) : Type 0 where
    upto : w.upto ≡ v.upto
    fates : w.fates ≡ v.fates
    open_records : w.open_records ≡ v.open_records
    noted : AtMost (p + 1) w.noted

  rest_set : (p : ℕ) (v w : told.View m) (y : Oid) (s : Option m.state) (k : Part) → Rest p v w → Rest p v (told.note m (told.set_state m w y s) y k p)
  rest_set p v w y None k r = record { upto = r.upto; fates = r.fates; open_records = r.open_records; noted = (omega arith, r.noted) }
  rest_set p v w y (Some s) k r = record { upto = r.upto; fates = r.fates; open_records = r.open_records; noted = (omega arith, r.noted) }

  rest_write : (p : ℕ) (v w : told.View m) (x : WriteOp) (b : Bool) → Rest p v w → Rest p v (cond b (told.write_by m w p x (m.read x.oid x.op)) w)
  rest_write p v w x true r = rest_set p v w x.oid (told.applied m (m.read x.oid x.op) (told.state_of m w x.oid)) (told.touched m (m.read x.oid x.op)) r
  rest_write p v w x false r = r

  rest_all : (p : ℕ) (v w : told.View m) (xs : List WriteOp) → Rest p v w → Rest p v (told.write_all m p w xs)
  rest_all p v w [] r = r
  rest_all p v w (x ∷ xs) r = rest_all p v (told.write m p w x) xs (rest_write p v w x (told.plays m p (told.base_of m w x.oid)) r)

  wrote : (p : ℕ) (c : Kept m.state) (hs : Hosts m.state) (v : told.View m) (ws : List WriteOp) → KeepsTo m p c v → KeepsObjects m hs (told.write_all m p v ws)
      → KeepsTo m (p + 1) (record c { objects = hs }) (told.write_all m p v ws)
  wrote p c hs v ws k objects = record {
    objects = record { each = objects.each };
    upto = k.upto ∙ sym rest.upto;
    fates = k.fates ∙ ap fates_kept (sym rest.fates);
    open_records = k.open_records ∙ ap rising_positions (sym rest.open_records);
    noted = rest.noted;
  }
    where
      rest : Rest p v (told.write_all m p v ws)
      rest = rest_all p v v ws (record { upto = refl; fates = refl; open_records = refl; noted = at_most_more p (p + 1) v.noted (omega arith) k.noted })

  -- what becomes of a record, by the verdict, and by whether any of its writes is played

  abbrev pub passed : told.View m → ℕ → List WriteOp → Bool
  passed v p ws = list_any (λ (w : WriteOp). told.plays m p (told.base_of m v w.oid)) ws

  passed_by : (v : told.View m) (p : ℕ) (e : Entry) (ws : List WriteOp) (played : Bool) → writes_of e ≡ ws → played ≡ passed v p ws → told.passed_over m v p e ≡ not played
  passed_by v p e ws played same is = ap (λ (xs : List WriteOp). not (passed v p xs)) same ∙ ap not (sym is)

  abbrev made : told.View m → ℕ → Entry → Bool → told.Verdict → Bool → told.Step m
  made v p e needs d over = told.record_step m (open_told v p needs) p e d over

  pub stuck_step : (c : Kept m.state) (v : told.View m) (p : ℕ) (e : Entry) (ws : List WriteOp) (needs : Bool) (o : Oid) → writes_of e ≡ ws → true ≡ passed v p ws → KeepsTo m p c v
      → Stepped m p c v (Some o) (record_made m v p e needs (told.Unknown o))
  stuck_step c v p e ws needs o same played k =
      subst (λ (t : Bool). Stepped m p c v (Some o) (made v p e needs (told.Unknown o) t)) (sym (passed_by v p e ws true same played)) (refl, k)

  pub passed_step : (c : Kept m.state) (v : told.View m) (p : ℕ) (e : Entry) (ws : List WriteOp) (needs : Bool) (o : Oid) → writes_of e ≡ ws → false ≡ passed v p ws → KeepsTo m p c v
      → Stepped m p (opened c p needs) v None (record_made m v p e needs (told.Unknown o))
  passed_step c v p e ws needs o same played k =
      subst (λ (t : Bool). Stepped m p (opened c p needs) v None (made v p e needs (told.Unknown o) t)) (sym (passed_by v p e ws false same played))
      (keeps_more p (p + 1) (opened c p needs) (open_told v p needs) (omega arith) (opens p p c v needs k))

  abort_keeps : (c : Kept m.state) (v : told.View m) (p : ℕ) (needs : Bool) → KeepsTo m p c v
      → KeepsTo m (p + 1) (record (opened c p needs) { fates = insert_entry nat_cmp (opened c p needs).fates p false }) (told.with_fate m (open_told v p needs) p false)
  abort_keeps c v p needs k = keeps_more p (p + 1) _ _ (omega arith) (fated p p false (opened c p needs) (open_told v p needs) (opens p p c v needs k))

  pub abort_step : (c : Kept m.state) (v : told.View m) (p : ℕ) (e : Entry) (needs : Bool) → KeepsTo m p c v
      → Stepped m p (record (opened c p needs) { fates = insert_entry nat_cmp (opened c p needs).fates p false }) v None (record_made m v p e needs told.Aborts)
  abort_step c v p e needs k = by (told.passed_over m v p e)
    where
      by : (t : Bool) → Stepped m p (record (opened c p needs) { fates = insert_entry nat_cmp (opened c p needs).fates p false }) v None (made v p e needs told.Aborts t)
      by true = abort_keeps c v p needs k
      by false = abort_keeps c v p needs k

  -- a committed record, before its writes are played

  abbrev pub committed : Kept m.state → ℕ → Bool → Kept m.state
  committed c p needs = record (opened c p needs) { fates = insert_entry nat_cmp (opened c p needs).fates p true }

  abbrev pub commit_told : told.View m → ℕ → Bool → told.View m
  commit_told v p needs = told.with_fate m (open_told v p needs) p true

  pub commit_keeps : (c : Kept m.state) (v : told.View m) (p : ℕ) (needs : Bool) → KeepsTo m p c v → KeepsTo m p (committed c p needs) (commit_told v p needs)
  commit_keeps c v p needs k = fated p p true (opened c p needs) (open_told v p needs) (opens p p c v needs k)

  pub over_step : (c : Kept m.state) (v : told.View m) (p : ℕ) (e : Entry) (ws : List WriteOp) (needs : Bool) → writes_of e ≡ ws → false ≡ passed v p ws → KeepsTo m p c v
      → Stepped m p (committed c p needs) v None (record_made m v p e needs told.Commits)
  over_step c v p e ws needs same played k =
      subst (λ (t : Bool). Stepped m p (committed c p needs) v None (made v p e needs told.Commits t)) (sym (passed_by v p e ws false same played))
      (keeps_more p (p + 1) (committed c p needs) (commit_told v p needs) (omega arith) (commit_keeps c v p needs k))

  pub commit_step : (c : Kept m.state) (v : told.View m) (p : ℕ) (e : Entry) (ws : List WriteOp) (needs : Bool) (hs : Hosts m.state) → writes_of e ≡ ws → true ≡ passed v p ws → KeepsTo m p c v
      → KeepsObjects m hs (told.write_all m p (commit_told v p needs) ws)
      → Stepped m p (record (committed c p needs) { objects = hs }) v None (record_made m v p e needs told.Commits)
  commit_step c v p e ws needs hs same played k objects =
      subst (λ (t : Bool). Stepped m p (record (committed c p needs) { objects = hs }) v None (made v p e needs told.Commits t)) (sym (passed_by v p e ws true same played))
      (subst (λ (xs : List WriteOp). KeepsTo m (p + 1) (record (committed c p needs) { objects = hs }) (told.write_all m p (commit_told v p needs) xs)) (sym same)
      (wrote p (committed c p needs) hs (commit_told v p needs) ws (commit_keeps c v p needs k) objects))

  -- the same where the verdict and what is kept then are told by equations

  made_of : (c d : Kept m.state) (v : told.View m) (p : ℕ) (e : Entry) (needs : Bool) (o : Option Oid) (t u : told.Verdict) → t ≡ u → d ≡ c → Stepped m p c v o (record_made m v p e needs u) → Stepped m p d v o (record_made m v p e needs t)
  made_of c d v p e needs o t u is same h =
      subst (λ (x : Kept m.state). Stepped m p x v o (record_made m v p e needs t)) (sym same)
      (subst (λ (y : told.Verdict). Stepped m p c v o (record_made m v p e needs y)) (sym is) h)

  pub stuck_made : (c : Kept m.state) (v : told.View m) (p : ℕ) (e : Entry) (ws : List WriteOp) (needs : Bool) (o : Oid) (t : told.Verdict) → t ≡ told.Unknown o → writes_of e ≡ ws → true ≡ passed v p ws → KeepsTo m p c v
      → Stepped m p c v (Some o) (record_made m v p e needs t)
  stuck_made c v p e ws needs o t is same played k = made_of c c v p e needs (Some o) t (told.Unknown o) is refl (stuck_step c v p e ws needs o same played k)

  pub passed_made : (c d : Kept m.state) (v : told.View m) (p : ℕ) (e : Entry) (ws : List WriteOp) (needs : Bool) (o : Oid) (t : told.Verdict) → t ≡ told.Unknown o → writes_of e ≡ ws → false ≡ passed v p ws → d ≡ opened c p needs → KeepsTo m p c v
      → Stepped m p d v None (record_made m v p e needs t)
  passed_made c d v p e ws needs o t is same played now k = made_of (opened c p needs) d v p e needs None t (told.Unknown o) is now (passed_step c v p e ws needs o same played k)

  abbrev pub fated_at : Kept m.state → ℕ → Bool → Kept m.state
  fated_at c p b = record c { fates = insert_entry nat_cmp c.fates p b }

  pub abort_made : (c b d : Kept m.state) (v : told.View m) (p : ℕ) (e : Entry) (needs : Bool) (t : told.Verdict) → t ≡ told.Aborts → b ≡ opened c p needs → d ≡ fated_at b p false → KeepsTo m p c v
      → Stepped m p d v None (record_made m v p e needs t)
  abort_made c b d v p e needs t is first now k =
      made_of (fated_at (opened c p needs) p false) d v p e needs None t told.Aborts is (now ∙ ap (λ (x : Kept m.state). fated_at x p false) first) (abort_step c v p e needs k)

  pub over_made : (c b d : Kept m.state) (v : told.View m) (p : ℕ) (e : Entry) (ws : List WriteOp) (needs : Bool) (t : told.Verdict) → t ≡ told.Commits → writes_of e ≡ ws → false ≡ passed v p ws → b ≡ opened c p needs → d ≡ fated_at b p true → KeepsTo m p c v
      → Stepped m p d v None (record_made m v p e needs t)
  over_made c b d v p e ws needs t is same played first now k =
      made_of (committed c p needs) d v p e needs None t told.Commits is (now ∙ ap (λ (x : Kept m.state). fated_at x p true) first) (over_step c v p e ws needs same played k)

  -- what a committed record is played on
  pub commit_begun : (c b d : Kept m.state) (v : told.View m) (p : ℕ) (needs : Bool) → b ≡ opened c p needs → d ≡ fated_at b p true → KeepsTo m p c v → KeepsObjects m d.objects (commit_told v p needs)
  commit_begun c b d v p needs first now k =
      subst (λ (x : Kept m.state). KeepsObjects m x.objects (commit_told v p needs)) (sym (now ∙ ap (λ (x : Kept m.state). fated_at x p true) first)) (commit_keeps c v p needs k).objects

  pub commit_made_on : (c b d f : Kept m.state) (v : told.View m) (p : ℕ) (e : Entry) (ws : List WriteOp) (needs : Bool) (t : told.Verdict) → t ≡ told.Commits → writes_of e ≡ ws → true ≡ passed v p ws → b ≡ opened c p needs → d ≡ fated_at b p true
      → f ≡ record d { objects = f.objects } → KeepsTo m p c v → KeepsObjects m f.objects (told.write_all m p (commit_told v p needs) ws)
      → Stepped m p f v None (record_made m v p e needs t)
  commit_made_on c b d f v p e ws needs t is same played first now rest k objects =
      made_of (record (committed c p needs) { objects = f.objects }) f v p e needs None t told.Commits is
      (rest ∙ ap (λ (x : Kept m.state). record x { objects = f.objects }) (now ∙ ap (λ (x : Kept m.state). fated_at x p true) first))
      (commit_step c v p e ws needs f.objects same played k objects)

  -- an entry

  made_by : (v : told.View m) (es : Entries) (p : ℕ) (e : Entry) (needs : Bool) (d : told.Verdict) (b : Bool) → is_commit e ≡ b → b ≡ true
      → needs ≡ (needs_decision e && not (is_some (decision_in es p))) → d ≡ told.verdict m v es p e → record_made m v p e needs d ≡ told.entry_step m v es p e b
  made_by v es p e needs d true is commits needed said = λ i. told.record_step m (open_told v p (needed i)) p e (said i) (told.passed_over m v p e)
  made_by v es p e needs d false is commits needed said = absurd (differ commits)
    where
      differ : false ≡ true → ⊥
      differ h = cc

  pub record_step_is : (v : told.View m) (es : Entries) (p : ℕ) (e : Entry) (needs : Bool) (d : told.Verdict) → is_commit e ≡ true
      → needs ≡ (needs_decision e && not (is_some (decision_in es p))) → d ≡ told.by_decision m v e p (decision_in es p) → record_made m v p e needs d ≡ told.step_at m v es p e
  unfolding told.step_at told.verdict
  record_step_is v es p e needs d is needed said = made_by v es p e needs d (is_commit e) refl is needed said

  -- the same where the view's own decisions are looked at
  pub commit_made : (v : told.View m) (es : Entries) (p : ℕ) (e : Entry) (ds : List (ℕ × Bool)) (decision : Option Bool) (needs : Bool) (d : told.Verdict) → is_commit e ≡ true
      → ds ≡ decisions_kept es → decision ≡ at_position ds p → needs ≡ (needs_decision e && not (is_some decision)) → d ≡ told.by_decision m v e p decision
      → record_made m v p e needs d ≡ told.step_at m v es p e
  commit_made v es p e ds decision needs d is kept found needed said =
      let same : decision ≡ decision_in es p = found ∙ ap (λ (xs : List (ℕ × Bool)). at_position xs p) kept ∙ decisions_told es p in
      record_step_is v es p e needs d is (needed ∙ (λ i. needs_decision e && not (is_some (same i)))) (said ∙ (λ i. told.by_decision m v e p (same i)))

  pub other_step : (c : Kept m.state) (v : told.View m) (es : Entries) (p : ℕ) (e : Entry) → is_commit e ≡ false → KeepsTo m p c v → Stepped m p c v None (told.step_at m v es p e)
  unfolding told.step_at
  other_step c v es p e is k = by (is_commit e) is
    where
      differ : true ≡ false → ⊥
      differ h = cc

      by : (b : Bool) → b ≡ false → Stepped m p c v None (told.entry_step m v es p e b)
      by true h = absurd (differ h)
      by false h = keeps_more p (p + 1) c v (omega arith) k
