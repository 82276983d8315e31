-- A play, entry by entry.
use Rattle.std.specs.Prelude.{◌≡◌, ℕ, ◌+◌, ◌<◌, ◌≤◌, Bool, true, false, cond, ◌&&◌, nat_lt, nat_le, [], ◌∷◌, Option, Some, None, refl}
use Rattle.std.proofs.Common.{sym, ap, ◌∙◌, subst, arith}
use Rattle.std.proofs.lemmas.Bool.Decides.{nat_tests}
use Rattle.tg_base.specs.declared.ids.Oid.{Oid}
use Rattle.tg_entry.specs.declared.entry.Entry.{Entry}
use Rattle.tg_entry.specs.Drafts.{IsInOrder}
use Rattle.tg_kind.specs.Meaning.{Meaning}
use Rattle.tg_model.specs.declared.play.PlayEnd.{PlayEnd}
use Rattle.tg_model.specs.declared.play.PlayEnd.TheVariants.{Played, Blocked}
use Rattle.tg_protocol.specs.Views.{Entries, View, Play, stands_at, Step, On, Stuck, step_at, between, play_on, play_from, play}
use Rattle.tg_play.specs.Kept.{Kept}
use Rattle.tg_play.specs.Relations.{KeepsTo, KeepsView, Stepped, PlayedOn}
use Rattle.tg_play.proofs.Own.{at_most_more}
use Rattle.tg_play.proofs.Stepping.{keeps_more}

-- a position that is to be played
abbrev pub IsDue : (from upto p : ℕ) → Type 0
IsDue from upto p = (nat_le from p && nat_lt p upto) ≡ true

pub due_from : (from upto p : ℕ) → (nat_le from p && nat_lt p upto) ≡ true → from ≤ p
due_from from upto p e = grind (arith, nat_tests)

pub due_below : (from upto p : ℕ) → (nat_le from p && nat_lt p upto) ≡ true → p < upto
due_below from upto p e = grind (arith, nat_tests)

-- positions that rise, from one on
abbrev pub Later : ℕ → Entries → Type 0
Later low [] = Unit {0}
Later low (x ∷ xs) = (low ≤ x.0) × Later (x.0 + 1) xs

later_by : (low : ℕ) (x : ℕ × Entry) (xs : Entries) → low ≤ x.0 → IsInOrder (x ∷ xs) → Later low (x ∷ xs)
later_by low x [] le h = (le, tt)
later_by low x (y ∷ ys) le h = let p = first h in (le, later_by (x.0 + 1) y ys p.0 p.1)
  where
    first : IsInOrder (x ∷ y ∷ ys) → (x.0 + 1 ≤ y.0) × IsInOrder (y ∷ ys)
    first e = grind (arith, nat_tests)

pub in_order : (xs : Entries) → IsInOrder xs → Later 0 xs
in_order [] h = tt
in_order (x ∷ xs) h = later_by 0 x xs (omega arith) h

module _ (m : Meaning) (es : Entries) (upto : ℕ) where
  unfoldable after_step : View m → ℕ → Entries → Step m → Play m
  after_step v p xs s = elim s as (λ _. Play m) [
    | On w ↦ play_on m es upto w xs
    | Stuck o ↦ record { view = stands_at m v p; came = Blocked p o }
  ]

  play_more : (v : View m) (x : ℕ × Entry) (xs : Entries) → play_on m es upto v (x ∷ xs) ≡ after_step v x.0 xs (step_at m v es x.0 x.1)
  unfolding play_on after_step
  play_more v x xs = refl

  -- how far a play has come: the view that is kept now, whose changes are at most at a bound, and what is left to play
  pub record Reached (from : ℕ) (v : View m) (c : Kept m.state) (rest : Entries) : Type 0 where
    pub now : View m
    pub bound : ℕ
    pub place : ℕ
    pub keeps : KeepsTo m bound c now
    pub low : bound ≤ upto
    pub later : Later place rest
    pub bounded : (n : ℕ) → from ≤ n → place ≤ n → bound ≤ n
    pub same : play_on m es upto v (between m from upto es) ≡ play_on m es upto now (between m from upto rest)

  pub reached_start : (from : ℕ) (v : View m) (c : Kept m.state) → from ≡ c.upto → from ≤ upto → IsInOrder es → KeepsView m c v → Reached from v c es
  reached_start from v c is le order k =
      let e : v.upto ≡ from = sym k.upto ∙ sym is in
      record {
        now = v;
        bound = from;
        place = 0;
        keeps = subst (λ (n : ℕ). KeepsTo m n c v) e k;
        low = le;
        later = in_order es order;
        bounded = λ n a b. a;
        same = refl;
      }

  dropped : (from : ℕ) (x : ℕ × Entry) (xs : Entries) → (nat_le from x.0 && nat_lt x.0 upto) ≡ false → between m from upto (x ∷ xs) ≡ between m from upto xs
  dropped from x xs e = ap (λ (b : Bool). cond b (x ∷ between m from upto xs) (between m from upto xs)) e

  taken : (from : ℕ) (x : ℕ × Entry) (xs : Entries) → IsDue from upto x.0 → between m from upto (x ∷ xs) ≡ x ∷ between m from upto xs
  taken from x xs e = ap (λ (b : Bool). cond b (x ∷ between m from upto xs) (between m from upto xs)) e

  pub reached_over : (from : ℕ) (x : ℕ × Entry) (xs : Entries) (v : View m) (c : Kept m.state) → (nat_le from x.0 && nat_lt x.0 upto) ≡ false → Reached from v c (x ∷ xs) → Reached from v c xs
  reached_over from x xs v c e r =
      let first = r.later.0 in
      record {
        now = r.now;
        bound = r.bound;
        place = x.0 + 1;
        keeps = r.keeps;
        low = r.low;
        later = r.later.1;
        bounded = λ n a b. r.bounded n a (omega (arith, first, b));
        same = r.same ∙ ap (λ (ys : Entries). play_on m es upto r.now ys) (dropped from x xs e);
      }

  abbrev StepsTo : ℕ × Entry → Kept m.state → Kept m.state → Option Oid → Type 0
  StepsTo x c d missing = (w : View m) → KeepsTo m x.0 c w → Stepped m x.0 d w missing (step_at m w es x.0 x.1)

  here : (from : ℕ) (x : ℕ × Entry) (xs : Entries) (v : View m) (c : Kept m.state) → IsDue from upto x.0 → (r : Reached from v c (x ∷ xs)) → KeepsTo m x.0 c r.now
  here from x xs v c e r = keeps_more m r.bound x.0 c r.now (r.bounded x.0 (due_from from upto x.0 e) r.later.0) r.keeps

  same_more : (from : ℕ) (x : ℕ × Entry) (xs : Entries) (v : View m) (c : Kept m.state) → IsDue from upto x.0 → (r : Reached from v c (x ∷ xs))
      → play_on m es upto v (between m from upto es) ≡ after_step r.now x.0 (between m from upto xs) (step_at m r.now es x.0 x.1)
  same_more from x xs v c e r =
      r.same
      ∙ ap (λ (ys : Entries). play_on m es upto r.now ys) (taken from x xs e)
      ∙ play_more r.now x (between m from upto xs)

  pub reached_step : (from : ℕ) (x : ℕ × Entry) (xs : Entries) (v : View m) (c d : Kept m.state) → IsDue from upto x.0 → StepsTo x c d None → Reached from v c (x ∷ xs) → Reached from v d xs
  unfolding after_step
  reached_step from x xs v c d e steps r = by (step_at m r.now es x.0 x.1) (steps r.now (here from x xs v c e r)) (same_more from x xs v c e r)
    where
      below : x.0 < upto
      below = due_below from upto x.0 e

      by : (s : Step m) → Stepped m x.0 d r.now None s → play_on m es upto v (between m from upto es) ≡ after_step r.now x.0 (between m from upto xs) s → Reached from v d xs
      by (On w) k same = record {
        now = w;
        bound = x.0 + 1;
        place = x.0 + 1;
        keeps = k;
        low = omega (arith, below);
        later = r.later.1;
        bounded = λ n p q. q;
        same = same;
      }
      by (Stuck o) k same = absurd k

  stands : (p q : ℕ) (c : Kept m.state) (v : View m) → p ≤ q → KeepsTo m p c v → KeepsView m (record c { upto = q }) (stands_at m v q)
  stands p q c v le k = record {
    objects = record { each = k.objects.each };
    upto = refl;
    fates = k.fates;
    open_records = k.open_records;
    noted = at_most_more p q v.noted le k.noted;
  }

  pub reached_stuck : (from : ℕ) (x : ℕ × Entry) (xs : Entries) (v : View m) (c d : Kept m.state) (o : Oid) → IsDue from upto x.0 → StepsTo x c d (Some o) → Reached from v c (x ∷ xs)
      → PlayedOn m (record d { upto = x.0 }) (Blocked x.0 o) (play_on m es upto v (between m from upto es))
  unfolding after_step
  reached_stuck from x xs v c d o e steps r =
      subst (λ (p : Play m). PlayedOn m (record d { upto = x.0 }) (Blocked x.0 o) p) (sym (same_more from x xs v c e r))
      (by (step_at m r.now es x.0 x.1) (steps r.now (here from x xs v c e r)))
    where
      by : (s : Step m) → Stepped m x.0 d r.now (Some o) s → PlayedOn m (record d { upto = x.0 }) (Blocked x.0 o) (after_step r.now x.0 (between m from upto xs) s)
      by (On w) k = absurd k
      by (Stuck q) k = record { view = stands x.0 x.0 d r.now (omega arith) k.1; came = ap (λ (y : Oid). Blocked x.0 y) k.0 }

  pub reached_end : (from : ℕ) (v : View m) (c : Kept m.state) → Reached from v c [] → PlayedOn m (record c { upto = upto }) (Played upto) (play_on m es upto v (between m from upto es))
  unfolding play_on
  reached_end from v c r =
      subst (λ (p : Play m). PlayedOn m (record c { upto = upto }) (Played upto) p) (sym r.same)
      (record { view = stands r.bound upto c r.now r.low r.keeps; came = refl })

-- a whole play

is_true : (x y : ℕ) → x < y → nat_lt x y ≡ true
is_true x y h = grind (arith, nat_tests)

is_false : (x y : ℕ) → y ≤ x → nat_lt x y ≡ false
is_false x y h = grind (arith, nat_tests)

pub played_before : (m : Meaning) (v : View m) (es : Entries) (upto : ℕ) → upto < v.upto → play m v es upto ≡ record { view = v; came = Played v.upto }
unfolding play
played_before m v es upto h = ap (λ (t : Bool). play_from m v es upto t) (is_true upto v.upto h)

pub played_on : (m : Meaning) (v : View m) (es : Entries) (upto : ℕ) → v.upto ≤ upto → play m v es upto ≡ play_on m es upto v (between m v.upto upto es)
unfolding play
played_on m v es upto h = ap (λ (t : Bool). play_from m v es upto t) (is_false upto v.upto h)

-- a play to a position before the view's end
pub before_keeps : (m : Meaning) (v : View m) (es : Entries) (upto from : ℕ) (c : Kept m.state) → from ≡ c.upto → upto < from → KeepsView m c v → PlayedOn m c (Played from) (play m v es upto)
before_keeps m v es upto from c is less k =
    let same : from ≡ v.upto = is ∙ k.upto in
    let before : upto < v.upto = subst (λ (n : ℕ). upto < n) same less in
    subst (λ (p : Play m). PlayedOn m c (Played from) p) (sym (played_before m v es upto before))
    (record { view = k; came = ap (λ (n : ℕ). Played n) same })

-- and to one from there on
pub on_keeps : (m : Meaning) (v : View m) (es : Entries) (upto from : ℕ) (c d : Kept m.state) (end : PlayEnd) → from ≡ c.upto → from ≤ upto → KeepsView m c v
    → PlayedOn m d end (play_on m es upto v (between m from upto es)) → PlayedOn m d end (play m v es upto)
on_keeps m v es upto from c d end is le k p =
    let same : from ≡ v.upto = is ∙ k.upto in
    let on : v.upto ≤ upto = subst (λ (n : ℕ). n ≤ upto) same le in
    subst (λ (q : Play m). PlayedOn m d end q) (ap (λ (n : ℕ). play_on m es upto v (between m n upto es)) same ∙ sym (played_on m v es upto on)) p
