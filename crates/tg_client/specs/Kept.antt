-- What is kept of a client, and the clients of the rules that are kept so.
use Rattle.std.specs.Prelude.{ℕ, ◌+◌, ◌*◌, ◌≤◌, ◌^◌}
use Rattle.tg_kind.specs.Meaning.{Meaning}
use Rattle.tg_protocol.specs.Clients as told
use Rattle.tg_client_state.specs.States as states
use Rattle.tg_client.specs.declared.client.Client.{Client}

module _ (m : Meaning) where
  abbrev pub Kept : Type 0
  Kept = Client m.state m.op m.ask m.answer

  -- in each step a client draws fewer than 2^18 numbers, and counts at most one transaction, one decision record and one
  -- checkpoint
  pub record IsCounted (c : told.Client m) : Type 0 where
    pub next : c.next ≤ 1 + c.calls * 2 ^ 18
    pub begun : c.begun ≤ c.calls
    pub decisions : c.decisions ≤ c.calls
    pub checkpoints : c.checkpoints ≤ c.calls

  -- a client of the rules is kept so, and has counted so
  pub record KeepsClient (k : Kept) (c : told.Client m) : Type 0 where
    pub kept : states.KeepsClient m k.state k.work c
    pub counted : IsCounted c

  -- some client of the rules is kept so
  pub record IsClient (k : Kept) : Type 0 where
    pub client : told.Client m
    pub keeps : KeepsClient k client
