-- What a header declares, and the rules that each keeps.
use Rattle.std.specs.Prelude.{ℕ, Bool, ◌&&◌, ◌||◌, ◌==◌, nat_lt, nat_le, List, length, map, IsTrue}
use Rattle.std.specs.List.{list_all, concat}
use Rattle.tg_base.specs.declared.ids.Oid.{Oid}
use Rattle.tg_base.specs.Units.{is_distinct, is_within, is_chain}

pub record Header : Type 0 where
  pub units : ℕ
  pub layouts : ℕ
  pub seqs : ℕ
  pub clients : ℕ
  pub limit : ℕ
  pub chains : List (List ℕ)
  pub objects : List Oid

-- one to eight chains, and each unit is declared and stands once in all
abbrev pub are_chains : ℕ → List (List ℕ) → Bool
are_chains units chains =
    is_within 1 8 (length chains) && list_all is_chain chains
    && list_all (λ u. nat_lt u units) (concat chains) && is_distinct (concat chains)

abbrev pub number_of : Oid → ℕ
number_of o = o.0

-- the kind's tag is 1 to 6
abbrev pub is_user_object : Oid → Bool
is_user_object o = nat_le 0x1000000 o.0 && nat_lt o.0 0x7000000

abbrev pub are_objects : List Oid → Bool
are_objects oids = nat_le (length oids) 256 && list_all is_user_object oids && is_distinct (map number_of oids)

abbrev pub is_odd_to_seven : ℕ → Bool
is_odd_to_seven n = n == 1 || n == 3 || n == 5 || n == 7

abbrev pub is_header : Header → Bool
is_header h =
    is_within 1 64 h.units && is_odd_to_seven h.layouts && is_within 1 16 h.seqs && is_within 1 32 h.clients
    && is_within 1 1000000 h.limit && are_chains h.units h.chains && are_objects h.objects

abbrev pub IsHeader : Header → Type 0
IsHeader h = IsTrue (is_header h)
