-- The version of a part, over the transactions from the first on.
use Rattle.std.proofs.Common.{◌≡◌, ℕ, ◌<◌, ◌≤◌, List, [], ◌∷◌, Bool, true, false, refl, sym, ap, ◌∙◌, length, get_or, drop, arith}
use Rattle.std.specs.Prelude.{◌+◌, ◌&&◌, nat_lt, if◌then◌else◌}
use Rattle.std.proofs.lemmas.Bool.Decides.{nat_tests}
use Rattle.tg_base.specs.declared.ids.Oid.{Oid}
use Rattle.tg_base.specs.declared.marks.Part.{Part}
use Rattle.tg_kind.specs.Meaning.{Meaning}
use Rattle.tg_model.specs.Kinds.{DoneOf}
use Rattle.tg_model.specs.Stores.{History, changes, later_of, changed}
use Rattle.tg_audit.proofs.Lists.{rest_next, rest_none}
use Rattle.tg_audit.specs.Judging.{later, latest}

later_than : (a b c : ℕ) → (if nat_lt (if nat_lt a b then b else a) c then c else (if nat_lt a b then b else a)) ≡ (if nat_lt a (if nat_lt b c then c else b) then (if nat_lt b c then c else b) else a)
later_than a b c = grind (arith, nat_tests)

least : (a : ℕ) → (if nat_lt a 0 then 0 else a) ≡ a
least a = grind (arith, nat_tests)

from_none : (a : ℕ) → (if nat_lt 0 a then a else 0) ≡ a
from_none a = grind (arith, nat_tests)

module _ (m : Meaning) where
  step_by : (o : Oid) (k : Part) (n v : ℕ) (d : DoneOf m) (ds : History m) (b : Bool)
      → ((w : ℕ) → latest m o k n w ds ≡ later_of m w (changed m ds o k n))
      → latest m o k n (if b then later_of m v (d.stamp + 1) else v) ds ≡ later_of m v (if b then later_of m (d.stamp + 1) (changed m ds o k n) else changed m ds o k n)
  step_by o k n v d ds true rest = rest (later_of m v (d.stamp + 1)) ∙ later_than v (d.stamp + 1) (changed m ds o k n)
  step_by o k n v d ds false rest = rest v

  latest_from : (o : Oid) (k : Part) (n v : ℕ) (ds : History m) → latest m o k n v ds ≡ later_of m v (changed m ds o k n)
  unfolding latest changed
  latest_from o k n v [] = sym (least v)
  latest_from o k n v (d ∷ ds) = step_by o k n v d ds (nat_lt d.stamp n && changes m d o k) (λ w. latest_from o k n w ds)

  -- from no version on
  pub latest_is : (o : Oid) (k : Part) (n : ℕ) (ds : History m) → latest m o k n 0 ds ≡ changed m ds o k n
  latest_is o k n ds = latest_from o k n 0 ds ∙ from_none (changed m ds o k n)

  pub latest_next : (o : Oid) (k : Part) (p v w : ℕ) (ds : History m) (n : ℕ) (d : DoneOf m) (y : ℕ) → n < length ds → d ≡ get_or ds n d
      → w ≡ later m o k p v d → latest m o k p v (drop n ds) ≡ y → latest m o k p w (drop (n + 1) ds) ≡ y
  unfolding latest
  latest_next o k p v w ds n d y h e is so_far = ap (λ (z : ℕ). latest m o k p z (drop (n + 1) ds)) is ∙ rest_next (latest m o k p v) ds n d y h e so_far

  pub latest_all : (o : Oid) (k : Part) (p v : ℕ) (ds : History m) (n y : ℕ) → length ds ≤ n → latest m o k p v (drop n ds) ≡ y → v ≡ y
  unfolding latest
  latest_all o k p v ds n y h so_far = rest_none (latest m o k p v) ds n y h so_far
