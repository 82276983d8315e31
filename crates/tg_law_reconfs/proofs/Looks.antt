-- What a unit answers to a seal or a look, and with which answers a reconfiguration goes on.
use Rattle.std.proofs.Common.{◌≡◌, ◌^◌, ◌<◌, ◌≤◌, ℕ, Bool, true, false, cond, refl, ap, sym, subst, arith, Some, None, Option}
use Rattle.std.specs.Prelude.{⊤, ◌==◌, nat_lt}
use Rattle.std.proofs.lemmas.Bool.Decides.{nat_tests}
use Rattle.tg_base.specs.Layouts.{Layout}
use Rattle.tg_base.specs.declared.msg.Msg.{Msg}
use Rattle.tg_base.specs.declared.msg.Msg.TheVariants as msg
use Rattle.tg_protocol.specs.Words.{too_far}
use Rattle.tg_protocol.specs.Replies.{Reply, IsFenced, IsSealed, IsMissing, IsWhole, IsLatest, IsOther, near as if_near, reply}
use Rattle.tg_protocol.specs.Units.{UnitState, UnitTurn, in_epoch, on_has, on_seal, first_missing, how_many, on_ask, unit_ask, unit_step}
use Rattle.tg_law_reconfs.proofs.Votes.{OfUnit}

pub is_less : (a b : ℕ) → nat_lt a b ≡ true → a < b
is_less a b e = grind arith

at_least : (a b : ℕ) → nat_lt a b ≡ false → b ≤ a
at_least a b e = grind arith

is_more : (a b : ℕ) → a ≤ b → (b == a) ≡ false → a < b
is_more a b le e = grind (arith, le)

pub close : (p : ℕ) (x : Reply) → p < 2 ^ 62 → if_near p x ≡ x
close p x less = ap (λ b. cond b IsOther x) (not_far p less)
  where
    not_far : (p : ℕ) → p < 2 ^ 62 → too_far p ≡ false
    not_far p less = grind (arith, nat_tests, less)

some_is : (x y : ℕ) → Some x ≡ Some y → x ≡ y
some_is x y e = cc

-- a seal, or a look at positions of which each that is lacking is near
abbrev pub AsksNear : Msg → Type 0
AsksNear (msg.Seal e) = ⊤
AsksNear (msg.Has e lo hi step) = (x : UnitState) (p : ℕ) → first_missing x step (how_many lo hi step) lo ≡ Some p → p < 2 ^ 62
AsksNear y = ⊥

-- a unit that is looked at isn't below the epoch
abbrev pub Since : Msg → UnitState → Type 0
Since (msg.Has e lo hi step) x = e ≤ x.epoch
Since y x = ⊤

-- a unit that tells so has come to the epoch that it tells
abbrev pub ToldBy : UnitState → Reply → Type 0
ToldBy x (IsSealed e h) = e ≤ x.epoch
ToldBy x (IsFenced e) = e ≤ x.epoch
ToldBy x IsWhole = ⊤
ToldBy x (IsMissing p) = ⊤
ToldBy x y = ⊥

-- it is fenced by a later epoch, or answered
abbrev pub GoesOn : Msg → Reply → Type 0
GoesOn (msg.Seal e) (IsSealed f h) = f ≡ e
GoesOn (msg.Seal e) (IsFenced f) = e < f
GoesOn (msg.Has e lo hi step) IsWhole = ⊤
GoesOn (msg.Has e lo hi step) (IsMissing p) = ⊤
GoesOn (msg.Has e lo hi step) (IsFenced f) = e < f
GoesOn y x = ⊥

pub told_rises : (s t : UnitState) (x : Reply) → s.epoch ≤ t.epoch → ToldBy s x → ToldBy t x
told_rises s t (IsSealed e h) le told = omega (arith, le, told)
told_rises s t (IsFenced e) le told = omega (arith, le, told)
told_rises s t IsWhole le told = tt
told_rises s t (IsMissing p) le told = tt
told_rises s t x le told = absurd told

pub since_rises : (s t : UnitState) (y : Msg) → s.epoch ≤ t.epoch → Since y s → Since y t
since_rises s t (msg.Has e lo hi step) le since = omega (arith, le, since)
since_rises s t y le since = tt

-- how a unit goes on, and what it says
pub record UnitSays (s : UnitState) (y : Msg) (most : ℕ) (t : UnitTurn) : Type 0 where
  pub says : Msg
  pub is : t.says ≡ Some says
  pub rises : s.epoch ≤ t.now.epoch
  pub below : t.now.epoch ≤ most
  pub high : t.now.high ≡ s.high
  pub never : (q : Layout) → reply says ≡ IsLatest q → ⊥
  pub told : AsksNear y → s.high < 2 ^ 62 → ToldBy t.now (reply says)
  pub good : AsksNear y → s.high < 2 ^ 62 → Since y s → GoesOn y (reply says)

not_latest : (p : ℕ) (x : Reply) (q : Layout) → ((z : Layout) → x ≡ IsLatest z → ⊥) → if_near p x ≡ IsLatest q → ⊥
not_latest p x q f e = by (too_far p) e
  where
    other : (q : Layout) → IsOther ≡ IsLatest q → ⊥
    other q e = cc

    by : (b : Bool) → cond b IsOther x ≡ IsLatest q → ⊥
    by true e = other q e
    by false e = f q e

seal_not : (e h : ℕ) (q : Layout) → IsSealed e h ≡ IsLatest q → ⊥
seal_not e h q i = cc

fence_not : (e : ℕ) (q : Layout) → IsFenced e ≡ IsLatest q → ⊥
fence_not e q i = cc

whole_not : (q : Layout) → IsWhole ≡ IsLatest q → ⊥
whole_not q i = cc

missing_not : (p : ℕ) (q : Layout) → IsMissing p ≡ IsLatest q → ⊥
missing_not p q i = cc

seal_says : (s : UnitState) (e most : ℕ) (b : Bool) → nat_lt e s.epoch ≡ b → e ≤ most → s.epoch ≤ most → UnitSays s (msg.Seal e) most (on_seal s e b)
unfolding reply
seal_says s e most true past le low = record {
  says = msg.Fenced s.epoch;
  is = refl;
  rises = omega arith;
  below = low;
  high = refl;
  never = λ q i. fence_not s.epoch q i;
  told = λ near high. omega arith;
  good = λ near high since. is_less e s.epoch past;
}
seal_says s e most false past le low = let up = at_least e s.epoch past in record {
  says = msg.Sealed e s.high;
  is = refl;
  rises = omega (arith, up);
  below = le;
  high = refl;
  never = λ q i. not_latest s.high (IsSealed e s.high) q (λ z f. seal_not e s.high z f) i;
  told = λ near high. subst (λ (x : Reply). ToldBy (record s { epoch = e }) x) (sym (close s.high (IsSealed e s.high) high)) (omega arith);
  good = λ near high since. subst (λ (x : Reply). GoesOn (msg.Seal e) x) (sym (close s.high (IsSealed e s.high) high)) refl;
}

look_says : (s : UnitState) (e lo hi step most : ℕ) (b : Bool) (o : Option ℕ) → (s.epoch == e) ≡ b → first_missing s step (how_many lo hi step) lo ≡ o → s.epoch ≤ most → UnitSays s (msg.Has e lo hi step) most (in_epoch b s (on_has s o))
unfolding reply
look_says s e lo hi step most true None same is low = record { says = msg.Whole; is = refl; rises = omega arith; below = low; high = refl; never = λ q i. whole_not q i; told = λ near high. tt; good = λ near high since. tt }
look_says s e lo hi step most true (Some p) same is low = record {
  says = msg.Missing p;
  is = refl;
  rises = omega arith;
  below = low;
  high = refl;
  never = λ q i. not_latest p (IsMissing p) q (λ z f. missing_not p z f) i;
  told = λ near high. subst (λ (x : Reply). ToldBy s x) (sym (close p (IsMissing p) (near s p is))) tt;
  good = λ near high since. subst (λ (x : Reply). GoesOn (msg.Has e lo hi step) x) (sym (close p (IsMissing p) (near s p is))) tt;
}
look_says s e lo hi step most false o same is low = record {
  says = msg.Fenced s.epoch;
  is = refl;
  rises = omega arith;
  below = low;
  high = refl;
  never = λ q i. fence_not s.epoch q i;
  told = λ near high. omega arith;
  good = λ near high since. is_more e s.epoch since same;
}

pub unit_says : (s : UnitState) (y : Msg) (most : ℕ) → OfUnit most y → s.epoch ≤ most → UnitSays s y most (unit_step s y)
unfolding unit_step unit_ask on_ask
unit_says s (msg.Seal e) most of low = seal_says s e most (nat_lt e s.epoch) refl of low
unit_says s (msg.Has e lo hi step) most of low = look_says s e lo hi step most (s.epoch == e) (first_missing s step (how_many lo hi step) lo) refl refl low
unit_says s y most of low = absurd of
