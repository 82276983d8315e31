-- When a view that has played can judge a record.
use Rattle.std.proofs.Common.{◌≡◌, ◌⊎◌, ℕ, ◌<◌, ◌≤◌, List, [], ◌∷◌, ◌++◌, map, Bool, true, false, not, refl, sym, ap, ◌∙◌, subst, inl, inr, arith, Option, Some, None, Contains, length}
use Rattle.std.specs.Prelude.{nat_lt, nat_le, if◌then◌else◌, ◌&&◌, ◌==◌}
use Rattle.tg_base.specs.declared.cell.Cell.{Cell}
use Rattle.tg_base.specs.declared.ids.Oid.{Oid}
use Rattle.tg_base.specs.declared.marks.ReadMark.{ReadMark}
use Rattle.tg_entry.specs.declared.entry.WriteOp.{WriteOp}
use Rattle.tg_entry.specs.declared.entry.Entry.{Entry}
use Rattle.tg_kind.specs.Meaning.{Meaning}
use Rattle.tg_model.specs.declared.play.PlayEnd.TheVariants.{Played, Blocked}
use Rattle.tg_model.specs.declared.play.PlayEnd.{PlayEnd}
use Rattle.tg_protocol.specs.Words.{cell_at}
use Rattle.tg_base.specs.Orders.{oid_eq, oid_lt, with_oid, rising_oids}
use Rattle.tg_entry.specs.Needs.{reads_of, writes_of, read_oid, write_oid, objects_of, needs_decision}
use Rattle.tg_protocol.specs.Entries.{is_commit}
use Rattle.tg_protocol.specs.Views.{Entries, Base, View, base_of, fate_of, Play, Step, On, Stuck, step_at, between, play_on, play_from, play, entry_if}
use Rattle.tg_protocol.specs.Past.{commit_at}
use Rattle.tg_protocol.specs.Clients.{Work, Client, entries_at, below, all_entries}
use Rattle.tg_protocol.specs.Pages.{cell_entry}
use Rattle.tg_law_replies.specs.Plays.Sound.{IsRising, base_among}
use Rattle.tg_law_replies.proofs.Plays.Joins.{step_on, on_more}
use Rattle.tg_law_replies.proofs.History.Members.{Has, has_contained, contained_has, same_oid, lt_of}
use Rattle.tg_law_replies.specs.Views.Walks.{ViewsJudge}
use Rattle.tg_law_replies.specs.Views.Views.{IsTrueView, CanJudge}
use Rattle.tg_law_replies.specs.Views.Exact.{LeavesNone, AreWriting}
use Rattle.tg_law_replies.proofs.Views.Plays.{played_stands}
use Rattle.tg_law_replies.proofs.Views.Settled.{IsFurther, plays_further, unknown_same}
use Rattle.tg_law_replies.proofs.Views.Records.{commit_there}
use Rattle.tg_law_replies.proofs.Views.Exact.{judges_new}

-- A record that needs no decision record reads what it writes.

with_itself : (x : Oid) (ys : List Oid) → Has (with_oid x ys) x
with_itself x [] = inl refl
with_itself x (y ∷ ys) = by (oid_lt x y) (oid_eq x y) refl (with_itself x ys)
  where
    by : (a b : Bool) → oid_eq x y ≡ b → Has (with_oid x ys) x → Has (if a then x ∷ y ∷ ys else (if b then y ∷ ys else y ∷ with_oid x ys)) x
    by true b e rest = inl refl
    by false true e rest = inl (same_oid x y e)
    by false false e rest = inr rest

pub with_others : (x o : Oid) (ys : List Oid) → Has ys o → Has (with_oid x ys) o
with_others x o [] i = absurd i
with_others x o (y ∷ ys) i = by (oid_lt x y) (oid_eq x y) i (with_others x o ys)
  where
    by : (a b : Bool) → Has (y ∷ ys) o → (Has ys o → Has (with_oid x ys) o) → Has (if a then x ∷ y ∷ ys else (if b then y ∷ ys else y ∷ with_oid x ys)) o
    by true b j rest = inr j
    by false true j rest = j
    by false false (inl e) rest = inl e
    by false false (inr j) rest = inr (rest j)

rising_has : (xs : List Oid) (o : Oid) → Has xs o → Has (rising_oids xs) o
rising_has [] o i = absurd i
rising_has (x ∷ xs) o (inl e) = subst (λ (y : Oid). Has (with_oid x (rising_oids xs)) y) (sym e) (with_itself x (rising_oids xs))
rising_has (x ∷ xs) o (inr i) = with_others x o (rising_oids xs) (rising_has xs o i)

left_has : (xs ys : List Oid) (o : Oid) → Has xs o → Has (xs ++ ys) o
left_has [] ys o i = absurd i
left_has (x ∷ xs) ys o (inl e) = inl e
left_has (x ∷ xs) ys o (inr i) = inr (left_has xs ys o i)

right_has : (xs ys : List Oid) (o : Oid) → Has ys o → Has (xs ++ ys) o
right_has [] ys o i = i
right_has (x ∷ xs) ys o i = inr (right_has xs ys o i)

reads_has : (rs : List ReadMark) (r : ReadMark) → Has rs r → Has (map read_oid rs) r.oid
reads_has [] r i = absurd i
reads_has (x ∷ rs) r (inl e) = inl (ap read_oid e)
reads_has (x ∷ rs) r (inr i) = inr (reads_has rs r i)

writes_has : (ws : List WriteOp) (w : WriteOp) → Has ws w → Has (map write_oid ws) w.oid
writes_has [] w i = absurd i
writes_has (x ∷ ws) w (inl e) = inl (ap write_oid e)
writes_has (x ∷ ws) w (inr i) = inr (writes_has ws w i)

just_one : (xs : List Oid) (a b : Oid) → nat_le 2 (length xs) ≡ false → Has xs a → Has xs b → a ≡ b
just_one [] a b n i j = absurd i
just_one (x ∷ []) a b n (inl e) (inl f) = e ∙ sym f
just_one (x ∷ []) a b n (inr i) j = absurd i
just_one (x ∷ []) a b n (inl e) (inr j) = absurd j
just_one (x ∷ y ∷ xs) a b n i j = absurd (more n)
  where
    more : nat_le 2 (length (x ∷ y ∷ xs)) ≡ false → ⊥
    more h = grind arith

not_empty : (rs : List ReadMark) (r : ReadMark) → Has rs r → (length rs == 0) ≡ false
not_empty [] r i = absurd i
not_empty (x ∷ rs) r i = grind arith

pub own_reads : (e : Entry) (r : ReadMark) (w : WriteOp) → needs_decision e ≡ false → Has (reads_of e) r → Has (writes_of e) w → r.oid ≡ w.oid
unfolding needs_decision
own_reads e r w needs i j =
    just_one (objects_of e) r.oid w.oid (few (length (reads_of e) == 0) (nat_le 2 (length (objects_of e))) (not_empty (reads_of e) r i) needs)
    (rising_has (map read_oid (reads_of e) ++ map write_oid (writes_of e)) r.oid (left_has (map read_oid (reads_of e)) (map write_oid (writes_of e)) r.oid (reads_has (reads_of e) r i)))
    (rising_has (map read_oid (reads_of e) ++ map write_oid (writes_of e)) w.oid (right_has (map read_oid (reads_of e)) (map write_oid (writes_of e)) w.oid (writes_has (writes_of e) w j)))
  where
    few : (a b : Bool) → a ≡ false → (not a && b) ≡ false → b ≡ false
    few a b x y = grind arith

-- Entries that a client has are below its tail.

module _ (m : Meaning) where
  entries_among : (cells : List (ℕ × Cell)) (t : ℕ) (ps : List ℕ) (p : ℕ) (e : Entry) → Has (entries_at m cells (below m t ps)) (p, e) → p < t
  unfolding entries_at
  entries_among cells t [] p e i = absurd i
  entries_among cells t (q ∷ ps) p e i = by (nat_lt q t) refl i (entries_among cells t ps p e)
    where
      first : q < t → (d : Option Entry) → Has (entry_if q d (entries_at m cells (below m t ps))) (p, e) → (Has (entries_at m cells (below m t ps)) (p, e) → p < t) → p < t
      first less None j rest = rest j
      first less (Some d) (inl s) rest = let n : p ≡ q = ap (λ (x : ℕ × Entry). x.0) s in omega (arith, n, less)
      first less (Some d) (inr j) rest = rest j

      by : (b : Bool) → nat_lt q t ≡ b → Has (entries_at m cells (if b then q ∷ below m t ps else below m t ps)) (p, e) → (Has (entries_at m cells (below m t ps)) (p, e) → p < t) → p < t
      by true less j rest = first (lt_of q t less) (cell_entry (cell_at cells q)) j rest
      by false less j rest = rest j

  pub mine_below : (c : Client m) (w : Work m) (os : List Oid) (p : ℕ) (e : Entry) → Has (all_entries m c w os) (p, e) → p < w.tail
  mine_below c w os p e i = entries_among c.cells w.tail _ p e i

  -- A blocked play stands where it is blocked.

  abbrev one_end : PlayEnd → ℕ
  one_end (Played t) = t
  one_end (Blocked q x) = q

  no_end : (t q : ℕ) (x : Oid) → Played t ≡ Blocked q x → ⊥
  no_end t q x e = cc

  stuck_by : (own : Entries) (upto p q : ℕ) (x : Oid) (v : View m) (xs : Entries) (s : Step m) → ((w : View m) → (play_on m own upto w xs).came ≡ Blocked q x → (play_on m own upto w xs).view.upto ≡ q)
      → (step_on m own upto v p xs s).came ≡ Blocked q x → (step_on m own upto v p xs s).view.upto ≡ q
  unfolding step_on
  stuck_by own upto p q x v xs (On w) rest h = rest w h
  stuck_by own upto p q x v xs (Stuck o) rest h = at (Blocked p o) (Blocked q x) h
    where
      at : (a b : PlayEnd) → a ≡ b → one_end a ≡ one_end b
      at a b e = ap one_end e

  on_stuck : (own : Entries) (upto q : ℕ) (x : Oid) (v : View m) (xs : Entries) → (play_on m own upto v xs).came ≡ Blocked q x → (play_on m own upto v xs).view.upto ≡ q
  unfolding play_on
  on_stuck own upto q x v [] h = absurd (no_end upto q x h)
  on_stuck own upto q x v (y ∷ xs) h =
      ap (λ (z : Play m). z.view.upto) (on_more m own upto v y xs)
      ∙ stuck_by own upto y.0 q x v xs (step_at m v own y.0 y.1) (λ w. on_stuck own upto q x w xs) (sym (ap (λ (z : Play m). z.came) (on_more m own upto v y xs)) ∙ h)

  pub blocked_stands : (own : Entries) (v : View m) (upto q : ℕ) (x : Oid) → (play m v own upto).came ≡ Blocked q x → (play m v own upto).view.upto ≡ q
  unfolding play
  blocked_stands own v upto q x h = by (nat_lt upto v.upto) h
    where
      by : (b : Bool) → (play_from m v own upto b).came ≡ Blocked q x → (play_from m v own upto b).view.upto ≡ q
      by true k = absurd (no_end v.upto q x k)
      by false k = on_stuck own upto q x v (between m v.upto upto own) k

  -- a play that isn't blocked at a position below its target goes past it
  pub goes_beyond : (own : Entries) (v : View m) (upto p : ℕ) → v.upto ≤ upto → p < upto → ((q : ℕ) (x : Oid) → (play m v own upto).came ≡ Blocked q x → p < q) → p < (play m v own upto).view.upto
  goes_beyond own v upto p le less past = by (play m v own upto).came refl
    where
      by : (c : PlayEnd) → (play m v own upto).came ≡ c → p < (play m v own upto).view.upto
      by (Played t) is = let n = played_stands m own upto t v le is in omega (arith, n, less)
      by (Blocked q x) is = let n = blocked_stands own v upto q x is in let l = past q x is in omega (arith, n, l)

module _ (m : Meaning) (objects : List Oid) (es : Entries) where
  before_or : (p n : ℕ) → (p < n) ⊎ (n ≤ p)
  before_or p n = grind arith

  -- a true view that has played over entries of the log can judge what it went past without a fate
  pub judges_all : (own : Entries) (v : View m) (upto p : ℕ) (e : Entry) → IsTrueView m objects es v → IsRising own → ((q : ℕ) (d : Entry) → Contains own (q, d) → Contains es (q, d)) → AreWriting own → LeavesNone m v own
      → commit_at own p ≡ Some e → p < (play m v own upto).view.upto → fate_of m (play m v own upto).view p ≡ None → CanJudge m (play m v own upto).view own p e
  judges_all own v upto p e so rising only writing leaves here less none = by (before_or p v.upto)
    where
      k : IsFurther m v (play m v own upto).view
      k = plays_further m own v upto

      at : Has own (p, e) × (is_commit e ≡ true)
      at = commit_there m own p e here

      no : (b : Bool) → None ≡ Some b → ⊥
      no b z = cc

      -- it had none before
      unfated : (f : Option Bool) → fate_of m v p ≡ f → fate_of m v p ≡ None
      unfated None is = is
      unfated (Some b) is = let f = k.fates p (b, is) in absurd (no f.0 (sym none ∙ f.1))

      early : p < v.upto → CanJudge m (play m v own upto).view own p e
      early before undecided known r i b is le = by_need (needs_decision e) refl
        where
          without : fate_of m v p ≡ None
          without = unfated (fate_of m v p) refl

          hosted : base_of m v r.oid ≡ Some b
          hosted = ap (λ (bs : List (Base m)). base_among m bs r.oid) (sym k.bases) ∙ is

          -- what it writes is based past it, since it would have a fate
          past : (w : WriteOp) (c : Base m) → Contains (writes_of e) w → base_of m v w.oid ≡ Some c → (p < c.upto) ⊎ (c.upto ≤ p) → p < c.upto
          past w c j has (inl less) = less
          past w c j has (inr low) =
              let f = so.settled p (record { entry = e; here = only p e (contained_has own (p, e) at.0); commit = at.1; write = w; writes = j; base = c; hosted = has; after = low; before = before }) in
              absurd (no f.0 (sym without ∙ f.1))

          by_need : (n : Bool) → needs_decision e ≡ n → (play m v own upto).view.upto ≡ p
          by_need true n =
              absurd (leaves p e (contained_has own (p, e) at.0) at.1 n before (λ w c j has. past w c j has (before_or p c.upto)) (record { read = r; reads = i; base = b; hosted = hosted; after = le }) without undecided
              (unknown_same m v (play m v own upto).view (reads_of e) p (sym k.bases) ∙ known))
          by_need false n =
              let w = writing p e (contained_has own (p, e) at.0) at.1 in
              let same = own_reads e r w.0 n (has_contained (reads_of e) r i) (has_contained (writes_of e) w.0 w.1) in
              let f = so.settled p (record {
                entry = e;
                here = only p e (contained_has own (p, e) at.0);
                commit = at.1;
                write = w.0;
                writes = w.1;
                base = b;
                hosted = ap (λ (o : Oid). base_of m v o) (sym same) ∙ hosted;
                after = le;
                before = before;
              }) in
              absurd (no f.0 (sym without ∙ f.1))

      by : (p < v.upto) ⊎ (v.upto ≤ p) → CanJudge m (play m v own upto).view own p e
      by (inl before) = early before
      by (inr late) = judges_new m own v upto p e rising here late less none

pub views_judge : (m : Meaning) → ViewsJudge m
views_judge m objects es own v upto p e rising only so writing leaves here less none = judges_all m objects es own v upto p e so rising only writing leaves here less none
