-- What a layout is, and the rules that each keeps.
use Rattle.std.specs.Prelude.{ℕ, Bool, true, ◌&&◌, ◌==◌, nat_le, ◌<◌, ◌^◌, List, [], ◌∷◌, length, map, IsTrue}
use Rattle.std.specs.List.{list_all}
use Rattle.tg_base.specs.declared.layout.Range.{Range}
use Rattle.tg_base.specs.Units.{is_rising, never_falls, is_within, is_unit, is_chain}

-- the layout of an epoch
pub record Layout : Type 0 where
  pub epoch : ℕ
  pub seq : ℕ
  pub start : ℕ
  pub by : ℕ
  pub gone : List ℕ
  pub ranges : List Range

-- one to eight stripes, each a chain
abbrev pub is_range : Range → Bool
is_range r = is_within 1 8 (length r.stripes) && list_all is_chain r.stripes

abbrev pub lo_of : Range → ℕ
lo_of r = r.lo

-- the first range begins at 0
abbrev pub begins_at_zero : List Range → Bool
begins_at_zero [] = true
begins_at_zero (r ∷ rs) = r.lo == 0

abbrev pub is_layout : Layout → Bool
is_layout p =
    nat_le 1 p.epoch
    && list_all is_unit p.gone && is_rising p.gone
    && is_within 1 32 (length p.ranges) && list_all is_range p.ranges
    && begins_at_zero p.ranges && never_falls (map lo_of p.ranges)
    && list_all (λ r. nat_le r.lo p.start) p.ranges

abbrev pub IsLayout : Layout → Type 0
IsLayout p = IsTrue (is_layout p)

-- each number is one of its field's type
pub record IsWithinTypes (p : Layout) : Type 0 where
  pub epoch : p.epoch < 2 ^ 64
  pub seq : p.seq < 2 ^ 16
  pub start : p.start < 2 ^ 64
  pub by : p.by < 2 ^ 16
