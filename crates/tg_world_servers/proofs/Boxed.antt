-- What a box of parts is of all servers.
use Rattle.std.proofs.Common.{◌≡◌, length, sym, subst}
use Rattle.tg_world_servers.specs.Kept.{IsWhole}
use Rattle.tg_world_servers.specs.Rows.{states_of}
use Rattle.tg_world_servers.specs.Servers.{ServersState}
use Rattle.tg_world_servers.specs.declared.servers.Parts.{Parts}

abbrev pub as_told : Parts → ServersState
as_told p = record { cluster = p.cluster; units = p.units.items; layouts = p.layouts.items; seqrs = states_of p.seqrs.items; stopped = p.stopped; post = p.post; archive = p.archive.entries; steps = p.steps }

abbrev pub IsWholeIn : Parts → Type 0
IsWholeIn p = IsWhole p.cluster p.first (length p.units.items) (length p.layouts.items) p.seqrs.items p.steps

-- what is borrowed of a box is what it holds
pub whole_in : (p q : Parts) → p ≡ q → IsWholeIn q → IsWholeIn p
whole_in p q e h = subst IsWholeIn (sym e) h
