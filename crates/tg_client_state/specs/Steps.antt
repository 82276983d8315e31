-- The numbers of a machine's turn, in a step that may have begun with a lower number.
use Rattle.std.specs.Prelude.{◌≡◌, ⊤, ℕ, List}
use Rattle.tg_base.specs.declared.packet.Out.{Out}
use Rattle.tg_protocol.specs.Requests.{Next, Goes, Learns, Ends, Turn, drawn_from}
use Rattle.tg_client_state.specs.Numbers.{FitsNumbers}

-- no request has a number from the lower one on and below the turn's first one
abbrev pub ThenAlike : {M E : Type 0} → (M → List Out) → ℕ → ℕ → Next M E → Type 0
ThenAlike asks old next (Goes m) = drawn_from old (asks m) ≡ drawn_from next (asks m)
ThenAlike asks old next (Learns m) = ⊤
ThenAlike asks old next (Ends e) = ⊤

-- a turn that begins with the number `next`, in a step that began with `old`
pub record Fits {M E : Type 0} (asks : M → List Out) (old next : ℕ) (t : Turn M E) : Type 0 where
  pub numbers : FitsNumbers asks next t
  pub alike : ThenAlike asks old next t.to
