-- Rows of clients.
use Rattle.std.specs.Prelude.{◌≡◌, ℕ, zero, suc, ◌+◌, ◌<◌, ◌≤◌, true, false, nat_lt, List, [], ◌∷◌, ◌++◌, length, slice_get, slice_set, slice_index_or, Option, Some, None, is_some, IfSome, option_copied, refl}
use Rattle.std.proofs.Common.{Bor, sym, ap, ◌∙◌, arith}
use Rattle.std.proofs.lemmas.Bool.Decides.{nat_tests}
use Rattle.tg_base.specs.Clusters.{Header}
use Rattle.tg_kind.specs.Meaning.{Meaning}
use Rattle.tg_protocol.specs.Clients.{Client}
use Rattle.tg_protocol.specs.Worlds.{CommandStart}
use Rattle.tg_world_servers.specs.Servers.{ServersState}
use Rattle.tg_client.specs.Kept.{Kept, KeepsClient}
use Rattle.tg_world.specs.Clients.{KeepsClients}
use Rattle.tg_world.specs.Kept.{IsWhole}

pub same_read : {X : Type 0} (xs : List X) (n : ℕ) (d e : X) → n < length xs → slice_index_or xs n d ≡ slice_index_or xs n e
same_read [] n d e h = absurd (omega (arith, h))
same_read (x ∷ xs) zero d e h = refl
same_read (x ∷ xs) (suc n) d e h = let k : n < length xs = omega (arith, h) in same_read xs n d e k

pub length_set : {X : Type 0} (xs : List X) (n : ℕ) (y : X) → length (slice_set xs n y) ≡ length xs
length_set [] n y = refl
length_set (x ∷ xs) zero y = refl
length_set (x ∷ xs) (suc n) y = let h : length (slice_set xs n y) ≡ length xs = length_set xs n y in omega (arith, h)

-- the item at a place, as a reference to it tells

not_below : (a b : ℕ) → false ≡ nat_lt a b → b ≤ a
not_below a b e = grind (arith, nat_tests)

is_below : (a b : ℕ) → true ≡ nat_lt a b → a < b
is_below a b e = grind (arith, nat_tests)

none_at : {X : Type 0} (xs : List X) (n : ℕ) → length xs ≤ n → None ≡ slice_get xs n
none_at [] n h = refl
none_at (x ∷ xs) zero h = absurd (omega (arith, h))
none_at (x ∷ xs) (suc n) h = let k : length xs ≤ n = omega (arith, h) in none_at xs n k

some_at : {X : Type 0} (xs : List X) (n : ℕ) (x : X) → n < length xs → x ≡ slice_index_or xs n x → Some x ≡ slice_get xs n
some_at [] n x h e = absurd (omega (arith, h))
some_at {X} (y ∷ xs) zero x h e = ap (λ (z : X). Some z) e
some_at (y ∷ xs) (suc n) x h e = let k : n < length xs = omega (arith, h) in some_at xs n x k e

pub copied_there : {X : Type 0} (xs : List X) (n : ℕ) (r : Option (Bor X)) → is_some r ≡ nat_lt n (length xs) → IfSome r (λ x. x.now ≡ slice_index_or xs n x.now) → option_copied r ≡ slice_get xs n
copied_there xs n None e h = none_at xs n (not_below n (length xs) e)
copied_there xs n (Some x) e h = some_at xs n x.now (is_below n (length xs) e) h

-- what was taken out

pub was_there : {X : Type 0} (xs : List X) (n : ℕ) (x d : X) → n < length xs → x ≡ slice_index_or xs n x → x ≡ slice_index_or xs n d
was_there xs n x d h e = e ∙ same_read xs n x d h

-- a world stays whole as its servers take a step, and a client of the row too

pub whole_next : {C T : Type 0} (s t : ServersState) (ks : List C) (ts : List T) (us ns : List CommandStart) → IsWhole s ks ts us ns → t.cluster ≡ s.cluster → t.steps ≡ s.steps + 1 → s.steps < 200000 → IsWhole t ks ts us ns
whole_next s t ks ts us ns h e f room =
    record {
      many = h.many ∙ sym (ap (λ (c : Header). c.clients) e);
      each_noted = h.each_noted ∙ sym (ap (λ (c : Header). c.clients) e);
      replies_noted = h.replies_noted;
      few = omega (arith, f, room);
    }

pub whole_turned : {C T : Type 0} (s t : ServersState) (ks ls : List C) (ts vs : List T) (us xs ns ms : List CommandStart) → IsWhole s ks ts us ns → t.cluster ≡ s.cluster → t.steps ≡ s.steps + 1 → s.steps < 200000 → length ls ≡ length ks → length ms ≡ length ns
    → length xs ≡ length vs → IsWhole t ls vs xs ms
whole_turned s t ks ls ts vs us xs ns ms h e f room many each noted =
    record {
      many = many ∙ h.many ∙ sym (ap (λ (c : Header). c.clients) e);
      each_noted = each ∙ h.each_noted ∙ sym (ap (λ (c : Header). c.clients) e);
      replies_noted = noted;
      few = omega (arith, f, room);
    }

module _ (m : Meaning) where
  pub keeps_length : (ks : List (Kept m)) (cs : List (Client m)) → KeepsClients m ks cs → length ks ≡ length cs
  keeps_length [] [] h = refl
  keeps_length [] (c ∷ cs) h = absurd h
  keeps_length (k ∷ ks) [] h = absurd h
  keeps_length (k ∷ ks) (c ∷ cs) h = let l : length ks ≡ length cs = keeps_length ks cs h.1 in omega (arith, l)

  pub keeps_read : (ks : List (Kept m)) (cs : List (Client m)) (n : ℕ) (d : Kept m) (e : Client m) → n < length ks → KeepsClients m ks cs
      → KeepsClient m (slice_index_or ks n d) (slice_index_or cs n e)
  keeps_read [] cs n d e h k = absurd (omega (arith, h))
  keeps_read (x ∷ ks) [] n d e h k = absurd k
  keeps_read (x ∷ ks) (c ∷ cs) zero d e h k = k.0
  keeps_read (x ∷ ks) (c ∷ cs) (suc n) d e h k = let l : n < length ks = omega (arith, h) in keeps_read ks cs n d e l k.1

  pub keeps_set : (ks : List (Kept m)) (cs : List (Client m)) (n : ℕ) (y : Kept m) (c : Client m) → KeepsClients m ks cs → KeepsClient m y c
      → KeepsClients m (slice_set ks n y) (slice_set cs n c)
  keeps_set [] [] n y c h k = h
  keeps_set [] (b ∷ cs) n y c h k = absurd h
  keeps_set (x ∷ ks) [] n y c h k = absurd h
  keeps_set (x ∷ ks) (b ∷ cs) zero y c h k = (k, h.1)
  keeps_set (x ∷ ks) (b ∷ cs) (suc n) y c h k = (h.0, keeps_set ks cs n y c h.1 k)

  pub keeps_last : (ks : List (Kept m)) (cs : List (Client m)) (y : Kept m) (c : Client m) → KeepsClients m ks cs → KeepsClient m y c → KeepsClients m (ks ++ y ∷ []) (cs ++ c ∷ [])
  keeps_last [] [] y c h k = (k, h)
  keeps_last [] (b ∷ cs) y c h k = absurd h
  keeps_last (x ∷ ks) [] y c h k = absurd h
  keeps_last (x ∷ ks) (b ∷ cs) y c h k = (h.0, keeps_last ks cs y c h.1 k)
