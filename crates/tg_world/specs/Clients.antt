-- Clients of the definitions that are kept in a row, and how many steps they have taken.
use Rattle.std.specs.Prelude.{ℕ, ◌<◌, ◌≤◌, List, [], ◌∷◌}
use Rattle.tg_kind.specs.Meaning.{Meaning}
use Rattle.tg_protocol.specs.Clients.{Client}
use Rattle.tg_client.specs.Kept.{Kept, KeepsClient}

module _ (m : Meaning) where
  abbrev pub KeepsClients : List (Kept m) → List (Client m) → Type 0
  KeepsClients [] [] = Unit {0}
  KeepsClients (k ∷ ks) (c ∷ cs) = KeepsClient m k c × KeepsClients ks cs
  KeepsClients _ _ = ⊥

  -- what is kept is kept of clients of the definitions
  pub record AreClients (ks : List (Kept m)) : Type 0 where
    pub clients : List (Client m)
    pub keep : KeepsClients ks clients

  -- none has taken more steps than the world
  abbrev pub AreCounted : ℕ → List (Client m) → Type 0
  AreCounted steps [] = Unit {0}
  AreCounted steps (c ∷ cs) = (c.calls ≤ steps) × AreCounted steps cs

  -- each may take one more step
  abbrev pub HaveRoom : List (Kept m) → Type 0
  HaveRoom [] = Unit {0}
  HaveRoom (k ∷ ks) = (k.state.calls < 200000) × HaveRoom ks
