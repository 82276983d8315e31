-- A client is taken out of a row, takes a step, and is put back.
use Rattle.std.specs.Prelude.{◌≡◌, ℕ, zero, suc, ◌+◌, ◌<◌, List, [], ◌∷◌, ◌++◌, length, map, swap, slice_set, slice_index_or, refl}
use Rattle.std.specs.List.{swap_remove}
use Rattle.std.proofs.Common.{sym, ap, subst, ◌∙◌, arith}
use Rattle.std.proofs.Math.Nat.{add-zero}
use Rattle.tg_base.specs.Clusters.{Header}
use Rattle.tg_kind.specs.Meaning.{Meaning}
use Rattle.tg_protocol.specs.Words.{numbers}
use Rattle.tg_protocol.specs.Clients.{Client, new_client}
use Rattle.tg_client.specs.Kept.{Kept, KeepsClient, IsClient}
use Rattle.tg_world_servers.proofs.Swapping.{set_back}
use Rattle.tg_world.specs.Clients.{KeepsClients, AreClients}
use Rattle.tg_world.proofs.Moving.{length_set, keeps_read, keeps_set, keeps_last}

pub length_back : {X : Type 0} (xs ys zs : List X) (n : ℕ) (x y : X) → n < length xs → ys ≡ swap_remove xs n x → zs ≡ swap (ys ++ y ∷ []) n (length ys) → length zs ≡ length xs
length_back {X} xs ys zs n x y h e f = ap (λ (l : List X). length l) (set_back xs ys zs n x y h e f) ∙ length_set xs n y

pub length_last : {X : Type 0} (xs ys : List X) (y : X) (n : ℕ) → ys ≡ xs ++ y ∷ [] → length xs ≡ n → length ys ≡ n + 1
length_last {X} xs ys y n e h = ap (λ (l : List X). length l) e ∙ more xs ∙ ap (λ (k : ℕ). k + 1) h
  where
    more : (zs : List X) → length (zs ++ y ∷ []) ≡ length zs + 1
    more [] = refl
    more (z ∷ zs) = let l : length (zs ++ y ∷ []) ≡ length zs + 1 = more zs in omega (arith, l)

module _ (m : Meaning) where
  -- the client that was taken out
  pub kept_there : (ks : List (Kept m)) (cs : List (Client m)) (n : ℕ) (was : Kept m) (d : Client m) → n < length ks → was ≡ slice_index_or ks n was → KeepsClients m ks cs
      → KeepsClient m was (slice_index_or cs n d)
  kept_there ks cs n was d h e k = subst (λ (x : Kept m). KeepsClient m x (slice_index_or cs n d)) (sym e) (keeps_read m ks cs n was d h k)

  pub is_there : (ks : List (Kept m)) (n : ℕ) (was : Kept m) → n < length ks → was ≡ slice_index_or ks n was → AreClients m ks → IsClient m was
  is_there ks n was h e are = by are.clients are.keep
    where
      by : (cs : List (Client m)) → KeepsClients m ks cs → IsClient m was
      by [] k = absurd (none ks h k)
        where
          none : (js : List (Kept m)) → n < length js → KeepsClients m js [] → ⊥
          none [] l j = omega (arith, l)
          none (x ∷ js) l j = j
      by (c ∷ cs) k = record { client = slice_index_or (c ∷ cs) n c; keeps = kept_there ks (c ∷ cs) n was c h e k }

  -- the row after it is put back
  pub kept_back : (ks js ls : List (Kept m)) (cs : List (Client m)) (n : ℕ) (x y : Kept m) (c : Client m) → n < length ks → js ≡ swap_remove ks n x → ls ≡ swap (js ++ y ∷ []) n (length js) → KeepsClients m ks cs → KeepsClient m y c
      → KeepsClients m ls (slice_set cs n c)
  kept_back ks js ls cs n x y c h e f k q = subst (λ (l : List (Kept m)). KeepsClients m l (slice_set cs n c)) (sym (set_back ks js ls n x y h e f)) (keeps_set m ks cs n y c k q)

  -- one client more
  numbers_last : (n first : ℕ) → numbers (suc n) first ≡ numbers n first ++ (first + n) ∷ []
  numbers_last zero first = ap (λ (k : ℕ). k ∷ []) (sym (add-zero first))
  numbers_last (suc n) first = λ i. first ∷ (numbers_last n (first + 1) ∙ ap (λ (k : ℕ). numbers n (first + 1) ++ k ∷ []) (passed n first)) i
    where
      passed : (a b : ℕ) → (b + 1) + a ≡ b + suc a
      passed a b = omega arith

  map_last : (h : Header) (xs : List ℕ) (x : ℕ) → map (new_client m h) (xs ++ x ∷ []) ≡ map (new_client m h) xs ++ new_client m h x ∷ []
  map_last h [] x = refl
  map_last h (y ∷ xs) x = λ i. new_client m h y ∷ map_last h xs x i

  pub new_last : (h : Header) (n : ℕ) (ks js : List (Kept m)) (y : Kept m) → js ≡ ks ++ y ∷ [] → KeepsClient m y (new_client m h n) → KeepsClients m ks (map (new_client m h) (numbers n 0))
      → KeepsClients m js (map (new_client m h) (numbers (n + 1) 0))
  new_last h n ks js y e q k =
      subst (λ (l : List (Kept m)). KeepsClients m l (map (new_client m h) (numbers (n + 1) 0))) (sym e)
      (subst (λ (cs : List (Client m)). KeepsClients m (ks ++ y ∷ []) cs) (sym (map_last h (numbers n 0) n) ∙ ap (λ (xs : List ℕ). map (new_client m h) xs) next)
      (keeps_last m ks (map (new_client m h) (numbers n 0)) y (new_client m h n) k q))
    where
      next : numbers n 0 ++ n ∷ [] ≡ numbers (n + 1) 0
      next =
          let plus : n ≡ 0 + n = omega arith in
          let more : suc n ≡ n + 1 = omega arith in
          ap (λ (j : ℕ). numbers n 0 ++ j ∷ []) plus ∙ sym (numbers_last n 0) ∙ ap (λ (j : ℕ). numbers j 0) more
