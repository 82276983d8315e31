-- How far a view is played, and of which objects it has bases.
use Rattle.std.proofs.Common.{◌≡◌, ℕ, ◌<◌, ◌≤◌, [], ◌∷◌, Bool, true, false, cond, refl, sym, subst, arith, Option, Some, None}
use Rattle.std.specs.Prelude.{nat_lt, nat_le, ◌&&◌}
use Rattle.tg_kind.specs.Meaning.{Meaning}
use Rattle.tg_protocol.specs.Views.{Entries, View, Play, Step, On, Stuck, view_start, step_at, between, play_on, play_from, play}
use Rattle.tg_protocol.specs.Clients.{Work, Client, upto_in, upto, all_entries}
use Rattle.tg_protocol.specs.Answers.{own_view, view_or_new, play_target}
use Rattle.tg_law_replies.proofs.Plays.Joins.{step_on, on_more}
use Rattle.tg_law_syncs.proofs.Known.Ways.{played_view}

module _ (m : Meaning) (own : Entries) where
  -- each of them lies below a position
  abbrev AreBelow : ℕ → Entries → Type 0
  AreBelow n [] = Unit {0}
  AreBelow n (x ∷ xs) = (x.0 < n) × AreBelow n xs

  below_of : (a b : Bool) (p n : ℕ) → (a && nat_lt p n) ≡ true → p < n
  below_of a b p n e = grind arith

  between_below : (low n : ℕ) (xs : Entries) → AreBelow n (between m low n xs)
  between_below low n [] = tt
  between_below low n (x ∷ xs) = by (nat_le low x.0 && nat_lt x.0 n) refl (between_below low n xs)
    where
      by : (b : Bool) → (nat_le low x.0 && nat_lt x.0 n) ≡ b → AreBelow n (between m low n xs) → AreBelow n (cond b (x ∷ between m low n xs) (between m low n xs))
      by true e k = (below_of (nat_le low x.0) true x.0 n e, k)
      by false e k = k

  on_low : (top n p : ℕ) (v : View m) (xs : Entries) (s : Step m) → p < n → n ≤ top → ((w : View m) → (play_on m own n w xs).view.upto ≤ top) → (step_on m own n v p xs s).view.upto ≤ top
  unfolding step_on
  on_low top n p v xs (On w) less le rest = rest w
  on_low top n p v xs (Stuck o) less le rest = omega (arith, less, le)

  play_on_low : (top n : ℕ) (v : View m) (xs : Entries) → AreBelow n xs → n ≤ top → (play_on m own n v xs).view.upto ≤ top
  unfolding play_on
  play_on_low top n v [] k le = le
  play_on_low top n v (x ∷ xs) k le =
      subst (λ (y : Play m). y.view.upto ≤ top) (sym (on_more m own n v x xs))
      (on_low top n x.0 v xs (step_at m v own x.0 x.1) k.0 le (λ w. play_on_low top n w xs k.1 le))

  -- a play stops at its target, or where the view stood
  pub play_low : (top n : ℕ) (v : View m) → v.upto ≤ top → n ≤ top → (play m v own n).view.upto ≤ top
  unfolding play
  play_low top n v a b = by (nat_lt n v.upto)
    where
      by : (t : Bool) → (play_from m v own n t).view.upto ≤ top
      by true = a
      by false = play_on_low top n v (between m v.upto n own) (between_below v.upto n own) b

module _ (m : Meaning) where
  own_low : (c : Client m) (w : Work m) (es : Entries) (top : ℕ) → upto m c ≤ top → (own_view m c w es).upto ≤ top
  unfolding view_start
  own_low c w es top le = by c.view le
    where
      by : (v : Option (View m)) → upto_in m v ≤ top → (view_or_new m c w es v).upto ≤ top
      by None a = omega arith
      by (Some v) a = a

  pub played_low : (c : Client m) (w : Work m) (top : ℕ) → upto m c ≤ top → play_target m w w.command ≤ top → (played_view m c w).upto ≤ top
  played_low c w top a b = play_low m (all_entries m c w c.hosted) top (play_target m w w.command) (own_view m c w (all_entries m c w c.hosted)) (own_low c w (all_entries m c w c.hosted) top a) b
