-- Lists of last positions.
use Rattle.std.proofs.Common.{◌≡◌, ◌⊎◌, ℕ, ◌≤◌, List, [], ◌∷◌, length, Bool, true, false, refl, sym, ap, ◌∙◌, subst, inl, inr, arith}
use Rattle.std.specs.Prelude.{take}
use Rattle.tg_base.specs.declared.ids.Oid.{Oid}
use Rattle.tg_base.specs.declared.marks.StreamLink.{StreamLink}
use Rattle.tg_base.specs.Orders.{oid_eq}
use Rattle.tg_protocol.specs.Entries.{link_of, unlinked}
use Rattle.tg_protocol.specs.Sequencers.{link_or_new, links_of, pushed, choose, with_position, with_positions}
use Rattle.tg_law_layouts.proofs.Moves.Members.{Has, has_map}

-- falling, none past a bound
abbrev pub Falls : ℕ → List ℕ → Type 0
Falls b [] = Unit {0}
Falls b (x ∷ xs) = (x ≤ b) × Falls x xs

-- it stands there, or four others do, none below it
abbrev pub Stands : ℕ → List ℕ → Type 0
Stands q xs = Has xs q ⊎ ((length xs ≡ 4) × ((x : ℕ) → Has xs x → q ≤ x))

pub falls_more : (b c : ℕ) (xs : List ℕ) → b ≤ c → Falls b xs → Falls c xs
falls_more b c [] le f = tt
falls_more b c (x ∷ xs) le f = (let a = f.0 in omega (arith, a, le), f.1)

falls_below : (b : ℕ) (xs : List ℕ) (q : ℕ) → Falls b xs → Has xs q → q ≤ b
falls_below b [] q f h = absurd h
falls_below b (x ∷ xs) q f (inl e) = let a = f.0 in omega (arith, a, e)
falls_below b (x ∷ xs) q f (inr h) = let a = f.0 in let i = falls_below x xs q f.1 h in omega (arith, a, i)

push_falls : (p : ℕ) (xs : List ℕ) → Falls p xs → Falls p (take 4 (p ∷ xs))
push_falls p [] f = (omega arith, tt)
push_falls p (a ∷ []) f = (omega arith, f)
push_falls p (a ∷ b ∷ []) f = (omega arith, f)
push_falls p (a ∷ b ∷ c ∷ rest) f = (omega arith, (f.0, (f.1.0, (f.1.1.0, tt))))

push_here : (p : ℕ) (xs : List ℕ) → Has (take 4 (p ∷ xs)) p
push_here p xs = inl refl

push_stands : (p q : ℕ) (xs : List ℕ) → q ≤ p → Falls p xs → Stands q xs → Stands q (take 4 (p ∷ xs))
push_stands p q [] le f (inl h) = absurd h
push_stands p q [] le f (inr h) = absurd (cc)
push_stands p q (a ∷ []) le f (inl h) = inl (inr h)
push_stands p q (a ∷ []) le f (inr h) = absurd (let l = h.0 in omega (arith, l))
push_stands p q (a ∷ b ∷ []) le f (inl h) = inl (inr h)
push_stands p q (a ∷ b ∷ []) le f (inr h) = absurd (let l = h.0 in omega (arith, l))
push_stands p q (a ∷ b ∷ c ∷ rest) le f (inl (inl e)) = inl (inr (inl e))
push_stands p q (a ∷ b ∷ c ∷ rest) le f (inl (inr (inl e))) = inl (inr (inr (inl e)))
push_stands p q (a ∷ b ∷ c ∷ rest) le f (inl (inr (inr (inl e)))) = inl (inr (inr (inr (inl e))))
push_stands p q (a ∷ b ∷ c ∷ rest) le f (inl (inr (inr (inr h)))) = inr (refl, λ x g. all_past p a b c q x le f.0 f.1.0 f.1.1.0 (falls_below c rest q f.1.1.1 h) g)
  where
    all_past : (p a b c q x : ℕ) → q ≤ p → a ≤ p → b ≤ a → c ≤ b → q ≤ c → Has (p ∷ a ∷ b ∷ c ∷ []) x → q ≤ x
    all_past p a b c q x i j k l n (inl e) = omega (arith, i, e)
    all_past p a b c q x i j k l n (inr (inl e)) = omega (arith, k, l, n, e)
    all_past p a b c q x i j k l n (inr (inr (inl e))) = omega (arith, l, n, e)
    all_past p a b c q x i j k l n (inr (inr (inr (inl e)))) = omega (arith, n, e)
    all_past p a b c q x i j k l n (inr (inr (inr (inr h)))) = absurd h
push_stands p q (a ∷ b ∷ c ∷ rest) le f (inr h) = inr (refl, λ x g. by x g)
  where
    by : (x : ℕ) → Has (p ∷ a ∷ b ∷ c ∷ []) x → q ≤ x
    by x (inl e) = omega (arith, le, e)
    by x (inr (inl e)) = h.1 x (inl e)
    by x (inr (inr (inl e))) = h.1 x (inr (inl e))
    by x (inr (inr (inr (inl e)))) = h.1 x (inr (inr (inl e)))
    by x (inr (inr (inr (inr g)))) = absurd g

-- Of a stream.

abbrev pub backs : List StreamLink → Oid → List ℕ
backs ls o = (link_or_new o (link_of o ls)).backs

oid_same : (a b : Oid) → oid_eq a b ≡ true → a ≡ b
oid_same a b h = grind arith

oid_self : (a : Oid) → oid_eq a a ≡ true
oid_self a = grind arith

abbrev found : Oid → StreamLink → List StreamLink → Bool → List ℕ
found o l ls true = l.backs
found o l ls false = backs ls o

backs_cons : (o : Oid) (l : StreamLink) (ls : List StreamLink) (b : Bool) → oid_eq l.oid o ≡ b → backs (l ∷ ls) o ≡ found o l ls b
backs_cons o l ls true e = grind (arith, e)
backs_cons o l ls false e = grind (arith, e)

backs_same : (p : ℕ) (o : Oid) (ls : List StreamLink) → backs (with_position p o ls) o ≡ take 4 (p ∷ backs ls o)
backs_same p o [] = backs_cons o (pushed p (unlinked o)) [] true (oid_self o)
backs_same p o (l ∷ ls) = by (oid_eq l.oid o) refl (backs_same p o ls)
  where
    by : (b : Bool) → oid_eq l.oid o ≡ b → backs (with_position p o ls) o ≡ take 4 (p ∷ backs ls o) → backs (choose b (pushed p l ∷ ls) (l ∷ with_position p o ls)) o ≡ take 4 (p ∷ backs (l ∷ ls) o)
    by true e ih = backs_cons o (pushed p l) ls true e ∙ ap (λ xs. take 4 (p ∷ xs)) (sym (backs_cons o l ls true e))
    by false e ih = backs_cons o l (with_position p o ls) false e ∙ (ih ∙ ap (λ xs. take 4 (p ∷ xs)) (sym (backs_cons o l ls false e)))

backs_other : (p : ℕ) (n o : Oid) (ls : List StreamLink) → oid_eq n o ≡ false → backs (with_position p n ls) o ≡ backs ls o
backs_other p n o [] d = backs_cons o (pushed p (unlinked n)) [] false d
backs_other p n o (l ∷ ls) d = by (oid_eq l.oid n) (oid_eq l.oid o) refl refl (backs_other p n o ls d)
  where
    not_both : l.oid ≡ n → oid_eq l.oid o ≡ true → ⊥
    not_both e f = let g : oid_eq n o ≡ true = subst (λ x. oid_eq x o ≡ true) e f in no (oid_eq n o) g d
      where
        no : (b : Bool) → b ≡ true → b ≡ false → ⊥
        no b e f = cc

    by : (b c : Bool) → oid_eq l.oid n ≡ b → oid_eq l.oid o ≡ c → backs (with_position p n ls) o ≡ backs ls o → backs (choose b (pushed p l ∷ ls) (l ∷ with_position p n ls)) o ≡ backs (l ∷ ls) o
    by true true e f ih = absurd (not_both (oid_same l.oid n e) f)
    by true false e f ih = backs_cons o (pushed p l) ls false f ∙ sym (backs_cons o l ls false f)
    by false true e f ih = backs_cons o l (with_position p n ls) true f ∙ sym (backs_cons o l ls true f)
    by false false e f ih = backs_cons o l (with_position p n ls) false f ∙ (ih ∙ sym (backs_cons o l ls false f))

-- a position is put first in some streams' lists
pub record Pushed (p : ℕ) (o : Oid) (os : List Oid) (xs ys : List ℕ) : Type 0 where
  pub falls : Falls p ys
  pub stands : (q : ℕ) → q ≤ p → Stands q xs → Stands q ys
  pub here : Has os o ⊎ Has xs p → Has ys p

pushes_one : (p : ℕ) (n o : Oid) (ls : List StreamLink) (b : Bool) → oid_eq n o ≡ b → Falls p (backs ls o) → Pushed p o (n ∷ []) (backs ls o) (backs (with_position p n ls) o)
pushes_one p n o ls true e f = subst (λ x. Pushed p o (n ∷ []) (backs ls o) (backs (with_position p x ls) o)) (sym (oid_same n o e))
    (subst (λ ys. Pushed p o (n ∷ []) (backs ls o) ys) (sym (backs_same p o ls)) (record { falls = push_falls p _ f; stands = λ q le s. push_stands p q _ le f s; here = λ h. push_here p (backs ls o) }))
pushes_one p n o ls false e f = subst (λ ys. Pushed p o (n ∷ []) (backs ls o) ys) (sym (backs_other p n o ls e)) (record { falls = f; stands = λ q le s. s; here = λ h. by h })
  where
    no : (b : Bool) → b ≡ true → b ≡ false → ⊥
    no b e f = cc

    by : Has (n ∷ []) o ⊎ Has (backs ls o) p → Has (backs ls o) p
    by (inl (inl i)) = absurd (no (oid_eq n o) (subst (λ x. oid_eq n x ≡ true) (sym i) (oid_self n)) e)
    by (inl (inr h)) = absurd h
    by (inr h) = h

pub pushes : (p : ℕ) (o : Oid) (os : List Oid) (ls : List StreamLink) → Falls p (backs ls o) → Pushed p o os (backs ls o) (backs (with_positions p os ls) o)
pushes p o [] ls f = record { falls = f; stands = λ q le s. s; here = λ h. by h }
  where
    by : Has [] o ⊎ Has (backs ls o) p → Has (backs ls o) p
    by (inl h) = absurd h
    by (inr h) = h
pushes p o (n ∷ os) ls f =
    let a = pushes_one p n o ls _ refl f in
    let b = pushes p o os (with_position p n ls) a.falls in
    record { falls = b.falls; stands = λ q le s. b.stands q le (a.stands q le s); here = λ h. b.here (by a h) }
  where
    by : Pushed p o (n ∷ []) (backs ls o) (backs (with_position p n ls) o) → Has (n ∷ os) o ⊎ Has (backs ls o) p → Has os o ⊎ Has (backs (with_position p n ls) o) p
    by a (inl (inl e)) = inr (a.here (inl (inl e)))
    by a (inl (inr h)) = inl h
    by a (inr h) = inr (a.here (inr h))

-- The links that are issued.

link_oid : (o : Oid) (ls : List StreamLink) → (link_or_new o (link_of o ls)).oid ≡ o
link_oid o [] = refl
link_oid o (l ∷ ls) = by (oid_eq l.oid o) refl (link_oid o ls)
  where
    cons : (b : Bool) → oid_eq l.oid o ≡ b → link_or_new o (link_of o (l ∷ ls)) ≡ choose b l (link_or_new o (link_of o ls))
    cons true e = grind (arith, e)
    cons false e = grind (arith, e)

    by : (b : Bool) → oid_eq l.oid o ≡ b → (link_or_new o (link_of o ls)).oid ≡ o → (link_or_new o (link_of o (l ∷ ls))).oid ≡ o
    by true e ih = ap (λ (x : StreamLink). x.oid) (cons true e) ∙ oid_same l.oid o e
    by false e ih = ap (λ (x : StreamLink). x.oid) (cons false e) ∙ ih

pub link_backs : (ls : List StreamLink) (os : List Oid) (l : StreamLink) → Has (links_of ls os) l → l.backs ≡ backs ls l.oid
link_backs ls os l h =
    let i = has_map (λ o. link_or_new o (link_of o ls)) os l h in
    ap (λ (x : StreamLink). x.backs) i.is ∙ ap (λ o. backs ls o) (sym (ap (λ (x : StreamLink). x.oid) i.is ∙ link_oid i.of ls))
