-- A kept world is whole.
use Rattle.std.specs.Prelude.{◌≡◌, ℕ, zero, suc, ◌<◌, ◌≤◌, Bool, true, false, not, ◌&&◌, nat_le, nat_lt, List, [], ◌∷◌, length, replicate, Some, None, Result, Ok, Err, IfOk, refl}
use Rattle.std.proofs.Common.{sym, ap, subst, ◌∙◌, arith}
use Rattle.std.proofs.lemmas.Bool.Decides.{nat_tests}
use Rattle.tg_base.specs.Clusters.{Header}
use Rattle.tg_base.specs.declared.fault.Which.TheVariants as which
use Rattle.tg_base.specs.declared.ids.NodeId.{NodeId}
use Rattle.tg_base.specs.declared.ids.Role.{Role}
use Rattle.tg_base.specs.declared.ids.Role.TheVariants as role
use Rattle.tg_kind.specs.Meaning.{Meaning}
use Rattle.tg_protocol.specs.Words.{first_some, where_true}
use Rattle.tg_protocol.specs.Worlds.{CommandStart}
use Rattle.tg_world_servers.specs.Servers.{ServersState, servers_limit, servers_start, runs, count_of, has_stopped}
use Rattle.tg_world.specs.Clients.{KeepsClients, AreClients}
use Rattle.tg_world.specs.Kept.{KeptOf, IsWhole, IsWorld}

-- what a test of two numbers tells

not_at_most : (a b : ℕ) → nat_le a b ≡ false → b < a
not_at_most a b e = grind (arith, nat_tests)

is_below : (a b : ℕ) → nat_lt a b ≡ true → a < b
is_below a b e = grind (arith, nat_tests)

-- no limit is reached
pub has_room : (s : ServersState) → servers_limit s ≡ None → s.steps < 200000
unfolding servers_limit
has_room s e = by (nat_le 200000 s.steps) refl e
  where
    by : (b : Bool) → nat_le 200000 s.steps ≡ b → first_some (where_true b which.Steps ∷ where_true (nat_le 268435456 s.post.bytes) which.Bytes ∷ []) ≡ None → s.steps < 200000
    by true t h = let k : Some which.Steps ≡ None = h in absurd cc
    by false t h = not_at_most 200000 s.steps t

length_replicate : {X : Type 0} (n : ℕ) (x : X) → length (replicate n x) ≡ n
length_replicate zero x = refl
length_replicate (suc n) x = let h : length (replicate n x) ≡ n = length_replicate n x in omega (arith, h)

-- the first world
pub whole_start : {C T : Type 0} (h : Header) (s : ServersState) (ks : List C) (ts : List T) (us ns : List CommandStart) → s ≡ servers_start h → length ks ≡ h.clients → ts ≡ [] → us ≡ []
    → ns ≡ replicate h.clients (record { next = 1; epoch = 1; upto = 0 }) → IsWhole s ks ts us ns
unfolding servers_start
whole_start {C} {T} h s ks ts us ns e many t u n = record {
  many = many ∙ sym (ap (λ (x : ServersState). x.cluster.clients) e);
  each_noted = ap (λ (l : List CommandStart). length l) n ∙ length_replicate h.clients (record { next = 1; epoch = 1; upto = 0 }) ∙ sym (ap (λ (x : ServersState). x.cluster.clients) e);
  replies_noted = ap (λ (l : List CommandStart). length l) u ∙ sym (ap (λ (l : List T). length l) t);
  few = subst (λ (k : ℕ). k ≤ 200000) (sym (ap (λ (x : ServersState). x.steps) e)) (omega arith);
}

module _ (m : Meaning) where
  pub whole_of : (j k : KeptOf m) → j ≡ k → IsWhole j.servers j.clients j.told j.told_noted j.noted → IsWhole k.servers k.clients k.told k.told_noted k.noted
  whole_of j k e h = subst (λ (x : KeptOf m). IsWhole x.servers x.clients x.told x.told_noted x.noted) e h

  -- the clients of a world that is kept
  pub are_of : (j k : KeptOf m) → j ≡ k → IsWorld m k → AreClients m j.clients
  are_of j k e h = record { clients = h.world.clients; keep = subst (λ (x : KeptOf m). KeepsClients m x.clients h.world.clients) (sym e) h.keeps.clients }

  -- whether a node runs, as the code tests it
  pub runs_at : (j k : KeptOf m) → j ≡ k → (n o : NodeId) (a b : Bool) → a ≡ runs j.servers n → n ≡ o → a ≡ b → runs k.servers o ≡ b
  runs_at j k e n o a b r same is = ap (λ (x : KeptOf m). runs x.servers o) (sym e) ∙ ap (λ (y : NodeId). runs j.servers y) (sym same) ∙ sym r ∙ is

  -- a client that runs stands in the row
  pub client_within : (k : KeptOf m) → IsWhole k.servers k.clients k.told k.told_noted k.noted → (n : NodeId) → runs k.servers n ≡ true → n.role ≡ role.Client → n.num < length k.clients
  client_within k h n on is =
      let t : (nat_lt n.num k.servers.cluster.clients && not (has_stopped k.servers n)) ≡ true = ap (λ (r : Role). nat_lt n.num (count_of k.servers r) && not (has_stopped k.servers n)) (sym is) ∙ on in
      let l : n.num < k.servers.cluster.clients = is_below n.num k.servers.cluster.clients (first_true (nat_lt n.num k.servers.cluster.clients) (not (has_stopped k.servers n)) t) in
      let many : length k.clients ≡ k.servers.cluster.clients = h.many in
      omega (arith, l, many)
    where
      first_true : (a b : Bool) → (a && b) ≡ true → a ≡ true
      first_true true b e = refl
      first_true false b e = e

pub noted_within : {C T : Type 0} (s : ServersState) (ks : List C) (ts : List T) (us ns : List CommandStart) (n : ℕ) → IsWhole s ks ts us ns → n < length ks → n < length ns
noted_within s ks ts us ns n h within = let many : length ks ≡ s.cluster.clients = h.many in let each : length ns ≡ s.cluster.clients = h.each_noted in omega (arith, many, each, within)

-- what follows of a value follows of a result
pub if_ok : {A E : Type 0} (P Q : A → Type 0) (r : Result A E) → ((a : A) → P a → Q a) → IfOk r P → IfOk r Q
if_ok P Q (Ok a) f h = f a h
if_ok P Q (Err e) f h = h
