-- A record that isn't passed over writes an object whose base isn't past it.
use Rattle.std.proofs.Common.{◌≡◌, ℕ, ◌+◌, ◌<◌, ◌≤◌, Bool, true, false, List, [], ◌∷◌, refl, sym, ap, ◌∙◌, subst, inl, inr, arith, Option, Some, None}
use Rattle.std.specs.Prelude.{not, nat_lt, nat_le, if◌then◌else◌}
use Rattle.std.specs.List.{Any, list_any}
use Rattle.std.proofs.lemmas.Bool.Decides.{nat_tests}
use Rattle.std.proofs.lemmas.List.Folds.{Any-from_list_any, list_any-from_Any}
use Rattle.tg_base.specs.declared.ids.Oid.{Oid}
use Rattle.tg_entry.specs.Needs.{reads_of, writes_of}
use Rattle.tg_entry.specs.declared.entry.Entry.{Entry}
use Rattle.tg_entry.specs.declared.entry.WriteOp.{WriteOp}
use Rattle.tg_kind.specs.Meaning.{Meaning}
use Rattle.tg_protocol.specs.Entries.{is_commit}
use Rattle.tg_protocol.specs.Views.{Entries, Verdict, Commits, Aborts, Unknown, Base, View, base_of, state_of, unknown_in, by_versions, by_decision, verdict, applied, set_state, touched, note, write_by, plays, write, write_all, passed_over, with_fate, with_open, Play, Step, On, Stuck, decided_step, record_step, entry_step, step_at, between, view_start, play_on, play_from, play}
use Rattle.tg_law_replies.specs.Plays.Sound.{IsRising, base_among}
use Rattle.tg_law_replies.proofs.History.Members.{Has, has_contained, of_le, of_lt, both_and}
use Rattle.tg_law_replies.proofs.Plays.Joins.{step_on, on_more}
use Rattle.tg_law_replies.proofs.Plays.Kept.{Within, within_between}
use Rattle.tg_law_replies.proofs.Views.Plays.{between_all}
use Rattle.tg_law_replies.proofs.Views.Settled.{IsDecidable, unknown_same}
use Rattle.tg_law_claims.specs.Answers.Undecided.{IsPlayed, AllTold}

module _ (m : Meaning) where
  -- by the bases of another view, which are the same
  pub is_played : (u v : View m) (p : ℕ) (e : Entry) → u.bases ≡ v.bases → passed_over m u p e ≡ false → IsPlayed m v p e
  is_played u v p e bases over = by (base_of m u some.1.oid) refl some.4
    where
      any : (b : Bool) → not b ≡ false → b ≡ true
      any true is = refl
      any false is = absurd cc

      some : Any (λ (w : WriteOp). plays m p (base_of m u w.oid) ≡ true) (writes_of e)
      some = Any-from_list_any (λ (w : WriteOp). plays m p (base_of m u w.oid)) (writes_of e) (any (list_any (λ (w : WriteOp). plays m p (base_of m u w.oid)) (writes_of e)) over)

      by : (b : Option (Base m)) → base_of m u some.1.oid ≡ b → plays m p b ≡ true → IsPlayed m v p e
      by None is k = absurd cc
      by (Some b) is k = record {
        write = some.1;
        writes = (some.0, some.2, some.3);
        base = b;
        is = sym (ap (λ (bs : List (Base m)). base_among m bs some.1.oid) bases) ∙ is;
        upto = grind (arith, nat_tests, k);
      }

  -- and a record that does so isn't
  pub not_over : (v : View m) (p : ℕ) (e : Entry) → IsPlayed m v p e → passed_over m v p e ≡ false
  not_over v p e k = ap not (list_any-from_Any (λ (w : WriteOp). plays m p (base_of m v w.oid)) (writes_of e) (k.writes.0, k.write, k.writes.1, k.writes.2, ap (λ (b : Option (Base m)). plays m p b) k.is ∙ at k.base k.upto))
    where
      at : (b : Base m) → b.upto ≤ p → plays m p (Some b) ≡ true
      at b le = grind (arith, nat_tests, le)

-- What a play went past was decided, or passed over.
module _ (m : Meaning) (own : Entries) where
  -- A step keeps a view's bases.

  abbrev Keeps : View m → Step m → Type 0
  Keeps v (On w) = v.bases ≡ w.bases
  Keeps v (Stuck o) = Unit {0}

  write_bases : (p : ℕ) (v : View m) (w : WriteOp) → v.bases ≡ (write m p v w).bases
  write_bases p v w = by (plays m p (base_of m v w.oid))
    where
      set : (t : Option m.state) → v.bases ≡ (note m (set_state m v w.oid t) w.oid (touched m (m.read w.oid w.op)) p).bases
      set None = refl
      set (Some x) = refl

      by : (b : Bool) → v.bases ≡ (if b then write_by m v p w (m.read w.oid w.op) else v).bases
      by true = set (applied m (m.read w.oid w.op) (state_of m v w.oid))
      by false = refl

  writes_bases : (p : ℕ) (v : View m) (ws : List WriteOp) → v.bases ≡ (write_all m p v ws).bases
  writes_bases p v [] = refl
  writes_bases p v (w ∷ ws) = write_bases p v w ∙ writes_bases p (write m p v w) ws

  open_bases : (v : View m) (p : ℕ) (b : Bool) → v.bases ≡ (if b then record v { open_records = p ∷ v.open_records } else v).bases
  open_bases v p true = refl
  open_bases v p false = refl

  record_bases : (u v : View m) (p : ℕ) (e : Entry) (d : Verdict) (b : Bool) → u.bases ≡ v.bases → Keeps u (record_step m v p e d b)
  record_bases u v p e Commits true h = h
  record_bases u v p e Aborts true h = h
  record_bases u v p e (Unknown o) true h = h
  record_bases u v p e Commits false h = h ∙ writes_bases p (with_fate m v p true) (writes_of e)
  record_bases u v p e Aborts false h = h
  record_bases u v p e (Unknown o) false h = tt

  step_bases : (v : View m) (p : ℕ) (e : Entry) → Keeps v (step_at m v own p e)
  unfolding step_at
  step_bases v p e = by (is_commit e)
    where
      by : (b : Bool) → Keeps v (entry_step m v own p e b)
      by true = record_bases v (with_open m v own p e) p e (verdict m v own p e) (passed_over m v p e) (open_bases v p _)
      by false = refl

  went_on : (v w : View m) (p : ℕ) (e : Entry) → step_at m v own p e ≡ On w → is_commit e ≡ true → passed_over m v p e ≡ false → IsDecidable m v own p e
  unfolding step_at verdict
  went_on v w p e is commit over none = by (unknown_in m v (reads_of e) p) refl
    where
      stuck : (u : View m) (o : Oid) → decided_step m u p e (Unknown o) ≡ On w → ⊥
      stuck u o k = cc

      decides : decided_step m (with_open m v own p e) p e (verdict m v own p e) ≡ On w
      decides = subst (λ (b : Bool). record_step m (with_open m v own p e) p e (verdict m v own p e) b ≡ On w) over (subst (λ (b : Bool). entry_step m v own p e b ≡ On w) commit is)

      by : (o : Option Oid) → unknown_in m v (reads_of e) p ≡ o → unknown_in m v (reads_of e) p ≡ None
      by None k = k
      by (Some o) k =
          absurd (stuck (with_open m v own p e) o
          (subst (λ (d : Verdict). decided_step m (with_open m v own p e) p e d ≡ On w) (ap (λ (d : Option Bool). by_decision m v e p d) none ∙ ap (λ (x : Option Oid). by_versions m v (reads_of e) p x) k) decides))

  over_same : (v w : View m) (p : ℕ) (e : Entry) → v.bases ≡ w.bases → passed_over m v p e ≡ passed_over m w p e
  over_same v w p e same = ap (λ (bs : List (Base m)). not (list_any (λ (x : WriteOp). plays m p (base_among m bs x.oid)) (writes_of e))) same

  -- Past a view's bases nothing of it matters.
  decides_as : (v w : View m) (p : ℕ) (e : Entry) → v.bases ≡ w.bases → IsDecidable m w own p e → IsDecidable m v own p e
  decides_as v w p e same h = λ none. unknown_same m v w (reads_of e) p same ∙ h none

  from_low : (low high : ℕ) (xs : Entries) (x : ℕ × Entry) → Within low high xs → Has xs x → low ≤ x.0
  from_low low high [] x w i = absurd i
  from_low low high (y ∷ xs) x w (inl e) = subst (λ (z : ℕ × Entry). low ≤ z.0) (sym e) w.0
  from_low low high (y ∷ xs) x w (inr i) = let rest = from_low (y.0 + 1) high xs x w.2 i in let b = w.0 in omega (arith, rest, b)

  on_told : (upto low : ℕ) (v : View m) (xs : Entries) (p : ℕ) (e : Entry) → Within low upto xs → Has xs (p, e) → is_commit e ≡ true → passed_over m v p e ≡ false → p < (play_on m own upto v xs).view.upto → IsDecidable m v own p e
  unfolding step_on
  on_told upto low v [] p e w i commit over less = absurd i
  on_told upto low v (x ∷ xs) p e w i commit over less =
      by (step_at m v own x.0 x.1) refl (step_bases v x.0 x.1) (λ u j f l. on_told upto (x.0 + 1) u xs p e w.2 j commit f l) (subst (λ (y : Play m). p < y.view.upto) (on_more m own upto v x xs) less)
    where
      there : Has (x ∷ xs) (p, e) → x.0 ≤ p
      there (inl s) = let n : p ≡ x.0 = ap (λ (z : ℕ × Entry). z.0) s in omega (arith, n)
      there (inr j) = let n = from_low (x.0 + 1) upto xs (p, e) w.2 j in omega (arith, n)

      at : (u : View m) → step_at m v own x.0 x.1 ≡ On u → v.bases ≡ u.bases → ((f : View m) → Has xs (p, e) → passed_over m f p e ≡ false → p < (play_on m own upto f xs).view.upto → IsDecidable m f own p e)
          → p < (play_on m own upto u xs).view.upto → Has (x ∷ xs) (p, e) → IsDecidable m v own p e
      at u is same rest l (inl s) =
          subst (λ (z : ℕ × Entry). IsDecidable m v own z.0 z.1) (sym s)
          (went_on v u x.0 x.1 is (subst (λ (z : ℕ × Entry). is_commit z.1 ≡ true) s commit) (subst (λ (z : ℕ × Entry). passed_over m v z.0 z.1 ≡ false) s over))
      at u is same rest l (inr j) = decides_as v u p e same (rest u j (sym (over_same v u p e same) ∙ over) l)

      by : (s : Step m) → step_at m v own x.0 x.1 ≡ s → Keeps v s → ((f : View m) → Has xs (p, e) → passed_over m f p e ≡ false → p < (play_on m own upto f xs).view.upto → IsDecidable m f own p e)
          → p < (step_on m own upto v x.0 xs s).view.upto → IsDecidable m v own p e
      by (On u) is same rest l = at u is same rest l i
      by (Stuck o) is same rest l = let n = there i in absurd (omega (arith, n, l))

  -- from where the view stood
  pub all_told : (v : View m) (upto p : ℕ) (e : Entry) → IsRising own → Has own (p, e) → is_commit e ≡ true → v.upto ≤ p → p < upto → p < (play m v own upto).view.upto → passed_over m v p e ≡ false → IsDecidable m v own p e
  unfolding play
  all_told v upto p e rising i commit low high less over = by (nat_lt upto v.upto) refl less
    where
      by : (b : Bool) → nat_lt upto v.upto ≡ b → p < (play_from m v own upto b).view.upto → IsDecidable m v own p e
      by true is k = absurd (omega (arith, low, k))
      by false is k = on_told upto v.upto v (between m v.upto upto own) p e (within_between m v.upto 0 upto own rising)
          (between_all m v.upto upto own (p, e) i (both_and (nat_le v.upto p) (nat_lt p upto) (of_le v.upto p low) (of_lt p upto high))) commit over k

  -- so a view that begins has told all of what it went past
  pub begun_told : (bs : List (Base m)) (upto p : ℕ) → IsRising own → p ≤ upto → p ≤ (play m (view_start m bs) own upto).view.upto → AllTold m own (view_start m bs) p
  unfolding view_start
  begun_told bs upto p rising high stands q d i less commit played none =
      all_told (view_start m bs) upto q d rising (has_contained own (q, d) i) commit (omega arith) (omega (arith, less, high)) (omega (arith, less, stands)) (not_over m (view_start m bs) q d played) none
