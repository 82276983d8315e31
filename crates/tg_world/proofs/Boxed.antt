-- What a box of parts is of a world.
use Rattle.std.proofs.Common.{◌≡◌, sym, subst}
use Rattle.tg_kind.specs.Meaning.{Meaning}
use Rattle.tg_world_servers.specs.Servers.{ServersState}
use Rattle.tg_world.specs.Kept.{KeptOf, IsWhole}
use Rattle.tg_world.specs.declared.world.Parts.{Parts}

module _ (m : Meaning) where
  abbrev pub PartsOf : Type 0
  PartsOf = Parts m.state m.op m.ask m.answer

  abbrev pub as_told : ServersState → PartsOf → KeptOf m
  as_told s p = record { servers = s; clients = p.clients.items; told = p.told.items; told_noted = p.told_noted.items; noted = p.noted.items; event = p.event }

  abbrev pub IsWholeIn : ServersState → PartsOf → Type 0
  IsWholeIn s p = IsWhole s p.clients.items p.told.items p.told_noted.items p.noted.items

  -- what is borrowed of a box is what it holds
  pub whole_in : (s : ServersState) (p q : PartsOf) → p ≡ q → IsWholeIn s q → IsWholeIn s p
  whole_in s p q e h = subst (IsWholeIn s) (sym e) h
