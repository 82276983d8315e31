-- Which base is chosen of several.
use Rattle.std.specs.Prelude.{◌≡◌, ℕ, Bool, true, false, cond, ◌&&◌, nat_lt, nat_le, Option, Some, None, refl}
use Rattle.std.proofs.Common.{sym, ap, ◌∙◌, arith}
use Rattle.std.proofs.lemmas.Bool.Decides.{nat_tests}
use Rattle.tg_protocol.specs.Words.{or_else}
use Rattle.tg_play.specs.declared.base.Base.{Base}
use Rattle.tg_ckpt.specs.Kept.{counted, inside, lower_of, higher_of, is_lower, is_higher}

-- ---- comparisons

le_more : (x y z : ℕ) → nat_le x y ≡ true → nat_le y z ≡ true → nat_le x z ≡ true
le_more x y z p q = grind (arith, nat_tests)

not_le_more : (x y z : ℕ) → nat_le x y ≡ false → nat_le y z ≡ false → nat_le x z ≡ false
not_le_more x y z p q = grind (arith, nat_tests)

not_le : (x y : ℕ) → nat_lt x y ≡ true → nat_le y x ≡ false
not_le x y p = grind (arith, nat_tests)

le_back : (x y : ℕ) → nat_lt x y ≡ false → nat_le y x ≡ true
le_back x y p = grind (arith, nat_tests)

both_first : (a b : Bool) → (a && b) ≡ true → a ≡ true
both_first true b e = refl
both_first false b e = absurd cc

both_second : (a b : Bool) → (a && b) ≡ true → b ≡ true
both_second true b e = e
both_second false b e = absurd cc

-- the second test failed, where the first one holds
second_fails : (a b : Bool) → (a && b) ≡ false → a ≡ true → b ≡ false
second_fails true b e h = e
second_fails false b e h = absurd cc

-- ---- what an entry offers, by the `upto` that is told beforehand

abbrev pub Offers : {S : Type 0} → Option (Base S) → Option ℕ → Type 0
Offers None u = Unit {0}
Offers (Some b) None = ⊥
Offers (Some b) (Some u) = b.upto ≡ u

module _ {S : Type 0} where
  -- ---- the lower one

  pub lower_itself : (a : Option (Base S)) → lower_of a None ≡ a
  lower_itself None = refl
  lower_itself (Some b) = refl

  pub lower_again : (a b c : Option (Base S)) → lower_of (lower_of a b) c ≡ lower_of a (lower_of b c)
  lower_again None b c = refl
  lower_again (Some x) None c = refl
  lower_again (Some x) (Some y) None = refl
  lower_again (Some x) (Some y) (Some z) = by (nat_le x.upto y.upto) refl (nat_le y.upto z.upto) refl
    where
      by : (t : Bool) → nat_le x.upto y.upto ≡ t → (u : Bool) → nat_le y.upto z.upto ≡ u
          → lower_of (Some (cond t x y)) (Some z) ≡ lower_of (Some x) (Some (cond u y z))
      by true p true q =
          ap (λ (v : Bool). Some (cond v x z)) (le_more x.upto y.upto z.upto p q)
          ∙ ap (λ (v : Bool). Some (cond v x y)) (sym p)
      by true p false q = refl
      by false p true q =
          ap (λ (v : Bool). Some (cond v y z)) q
          ∙ ap (λ (v : Bool). Some (cond v x y)) (sym p)
      by false p false q =
          ap (λ (v : Bool). Some (cond v y z)) q
          ∙ ap (λ (v : Bool). Some (cond v x z)) (sym (not_le_more x.upto y.upto z.upto p q))

  pub lower_unoffered : (below : ℕ) (a x : Option (Base S)) → Offers x None → a ≡ lower_of a (counted below x)
  lower_unoffered below a None h = sym (lower_itself a)
  lower_unoffered below a (Some b) h = absurd h

  pub lower_taken : (below : ℕ) (a x : Option (Base S)) (u : ℕ) → Offers x (Some u) → is_lower a below u ≡ true → or_else x a ≡ lower_of a (counted below x)
  lower_taken below a None u h t = sym (lower_itself a)
  lower_taken below None (Some b) u h t = ap (λ (v : Bool). cond v (Some b) None) (sym (ap (λ (n : ℕ). nat_le below n) h ∙ t))
  lower_taken below (Some c) (Some b) u h t =
      let reaches : nat_le below b.upto ≡ true = ap (λ (n : ℕ). nat_le below n) h ∙ both_first (nat_le below u) (nat_lt u c.upto) t in
      let less : nat_le c.upto b.upto ≡ false = ap (λ (n : ℕ). nat_le c.upto n) h ∙ not_le u c.upto (both_second (nat_le below u) (nat_lt u c.upto) t) in
      ap (λ (v : Bool). Some (cond v c b)) (sym less)
      ∙ ap (λ (v : Bool). lower_of (Some c) (cond v (Some b) None)) (sym reaches)

  pub lower_kept : (below : ℕ) (a x : Option (Base S)) (u : ℕ) → Offers x (Some u) → is_lower a below u ≡ false → a ≡ lower_of a (counted below x)
  lower_kept below a None u h t = sym (lower_itself a)
  lower_kept below None (Some b) u h t = ap (λ (v : Bool). cond v (Some b) None) (sym (ap (λ (n : ℕ). nat_le below n) h ∙ t))
  lower_kept below (Some c) (Some b) u h t = by (nat_le below b.upto) refl
    where
      by : (v : Bool) → nat_le below b.upto ≡ v → Some c ≡ lower_of (Some c) (cond v (Some b) None)
      by true p =
          ap (λ (v : Bool). Some (cond v c b))
          (sym (ap (λ (n : ℕ). nat_le c.upto n) h ∙ le_back u c.upto (second_fails (nat_le below u) (nat_lt u c.upto) t (ap (λ (n : ℕ). nat_le below n) (sym h) ∙ p))))
      by false p = refl

  -- ---- the higher one

  pub higher_unoffered : (below high : ℕ) (a x : Option (Base S)) → Offers x None → a ≡ higher_of (inside below high x) a
  higher_unoffered below high a None h = refl
  higher_unoffered below high a (Some b) h = absurd h

  within_same : (below high : ℕ) (b : Base S) (u : ℕ) → b.upto ≡ u → (nat_le below b.upto && nat_le b.upto high) ≡ (nat_le below u && nat_le u high)
  within_same below high b u h = ap (λ (n : ℕ). nat_le below n && nat_le n high) h

  pub higher_taken : (below high : ℕ) (a x : Option (Base S)) (u : ℕ) → Offers x (Some u) → is_higher a below high u ≡ true → or_else x a ≡ higher_of (inside below high x) a
  higher_taken below high a None u h t = refl
  higher_taken below high None (Some b) u h t = ap (λ (v : Bool). higher_of (cond v (Some b) None) None) (sym (within_same below high b u h ∙ t))
  higher_taken below high (Some c) (Some b) u h t =
      let reaches : (nat_le below b.upto && nat_le b.upto high) ≡ true = within_same below high b u h ∙ both_first (nat_le below u && nat_le u high) (nat_le c.upto u) t in
      let more : nat_le c.upto b.upto ≡ true = ap (λ (n : ℕ). nat_le c.upto n) h ∙ both_second (nat_le below u && nat_le u high) (nat_le c.upto u) t in
      ap (λ (v : Bool). Some (cond v b c)) (sym more)
      ∙ ap (λ (v : Bool). higher_of (cond v (Some b) None) (Some c)) (sym reaches)

  pub higher_kept : (below high : ℕ) (a x : Option (Base S)) (u : ℕ) → Offers x (Some u) → is_higher a below high u ≡ false → a ≡ higher_of (inside below high x) a
  higher_kept below high a None u h t = refl
  higher_kept below high None (Some b) u h t = ap (λ (v : Bool). higher_of (cond v (Some b) None) None) (sym (within_same below high b u h ∙ t))
  higher_kept below high (Some c) (Some b) u h t = by (nat_le below b.upto && nat_le b.upto high) refl
    where
      by : (v : Bool) → (nat_le below b.upto && nat_le b.upto high) ≡ v → Some c ≡ higher_of (cond v (Some b) None) (Some c)
      by true p =
          ap (λ (v : Bool). Some (cond v b c))
          (sym (ap (λ (n : ℕ). nat_le c.upto n) h ∙ second_fails (nat_le below u && nat_le u high) (nat_le c.upto u) t (sym (within_same below high b u h) ∙ p)))
      by false p = refl
