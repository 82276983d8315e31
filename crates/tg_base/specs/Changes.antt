-- What a reconfiguration asks for, and the rules that each keeps.
use Rattle.std.specs.Prelude.{ℕ, Bool, true, ◌&&◌, nat_le, List, length, Option, Some, None, IsTrue}
use Rattle.std.specs.List.{list_all, concat}
use Rattle.tg_base.specs.declared.change.Join.{Join}
use Rattle.tg_base.specs.Units.{is_distinct, is_unit, is_chain}

pub record Changed : Type 0 where
  pub seq : ℕ
  pub drop : List ℕ
  pub opened : List (List ℕ)
  pub join : Option Join

-- at most eight chains, and each unit stands once in all
abbrev pub is_opening : List (List ℕ) → Bool
is_opening chains = nat_le (length chains) 8 && list_all is_chain chains && is_distinct (concat chains)

abbrev pub is_joining : Option Join → Bool
is_joining None = true
is_joining (Some j) = is_unit j.unit

abbrev pub is_change : Changed → Bool
is_change c = list_all is_unit c.drop && is_distinct c.drop && is_opening c.opened && is_joining c.join

abbrev pub IsChange : Changed → Type 0
IsChange c = IsTrue (is_change c)
