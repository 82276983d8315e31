-- A client for which no command waits.
use Rattle.std.specs.Prelude.{ℕ, Option, None}
use Rattle.tg_kind.specs.Meaning.{Meaning}
use Rattle.tg_protocol.specs.Views.{View}
use Rattle.tg_protocol.specs.Clients as told
use Rattle.tg_client_state.specs.States.{StateOf, client_of}

module _ (m : Meaning) where
  -- a client for which no command waits, with this view and the directory played so far
  abbrev pub idle : StateOf m → Option (View m) → ℕ → told.Client m
  idle s v n = client_of m s (record { view = v; played = n; work = None })
