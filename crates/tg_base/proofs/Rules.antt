-- The rules of layouts and changes, one by one.
use Rattle.std.proofs.Common.{◌≡◌, ℕ, ◌≤◌, true, List, length}
use Rattle.std.specs.Prelude.{map, nat_le}
use Rattle.std.specs.List.{list_all, concat}
use Rattle.std.proofs.lemmas.Bool.{leb-true, le-leb}
use Rattle.tg_base.proofs.Exact.{and-left, and-right, both}
use Rattle.tg_base.specs.Units.{is_rising, never_falls, is_distinct, is_within, is_unit, is_chain}
use Rattle.tg_base.specs.Layouts.{Layout, IsLayout, is_range, lo_of, begins_at_zero}
use Rattle.tg_base.specs.Changes.{Changed, IsChange, is_joining}

pub within-low : (low high n : ℕ) → is_within low high n ≡ true → low ≤ n
within-low low high n e = leb-true low n (and-left _ _ e)

pub within-high : (low high n : ℕ) → is_within low high n ≡ true → n ≤ high
within-high low high n e = leb-true n high (and-right _ _ e)

pub is_within-from : (low high n : ℕ) → low ≤ n → n ≤ high → is_within low high n ≡ true
is_within-from low high n p q = both _ _ (le-leb low n p) (le-leb n high q)

pub record LayoutRules (p : Layout) : Type 0 where
  pub epoch : 1 ≤ p.epoch
  pub gone_units : list_all is_unit p.gone ≡ true
  pub gone_rises : is_rising p.gone ≡ true
  pub some : 1 ≤ length p.ranges
  pub few : length p.ranges ≤ 32
  pub ranges : list_all is_range p.ranges ≡ true
  pub at_zero : begins_at_zero p.ranges ≡ true
  pub in_order : never_falls (map lo_of p.ranges) ≡ true
  pub below_start : list_all (λ r. nat_le r.lo p.start) p.ranges ≡ true

pub layout_rules : (p : Layout) → IsLayout p → LayoutRules p
layout_rules p h =
    let h7 = and-left _ _ h in
    let h6 = and-left _ _ h7 in
    let h5 = and-left _ _ h6 in
    let h4 = and-left _ _ h5 in
    let h3 = and-left _ _ h4 in
    let h2 = and-left _ _ h3 in
    record {
      epoch = leb-true 1 p.epoch (and-left _ _ h2);
      gone_units = and-right _ _ h2;
      gone_rises = and-right _ _ h3;
      some = within-low 1 32 (length p.ranges) (and-right _ _ h4);
      few = within-high 1 32 (length p.ranges) (and-right _ _ h4);
      ranges = and-right _ _ h5;
      at_zero = and-right _ _ h6;
      in_order = and-right _ _ h7;
      below_start = and-right _ _ h;
    }

pub IsLayout-from : (p : Layout) → LayoutRules p → IsLayout p
IsLayout-from p r =
    both _ _ (both _ _ (both _ _ (both _ _ (both _ _ (both _ _ (both _ _ (le-leb 1 p.epoch r.epoch) r.gone_units) r.gone_rises)
    (is_within-from 1 32 (length p.ranges) r.some r.few)) r.ranges) r.at_zero) r.in_order) r.below_start

pub record ChainRules (units : List ℕ) : Type 0 where
  pub some : 1 ≤ length units
  pub few : length units ≤ 5
  pub each_unit : list_all is_unit units ≡ true
  pub distinct : is_distinct units ≡ true

pub chain_rules : (units : List ℕ) → is_chain units ≡ true → ChainRules units
chain_rules units h =
    let h1 = and-left _ _ h in
    record {
      some = within-low 1 5 (length units) (and-left _ _ h1);
      few = within-high 1 5 (length units) (and-left _ _ h1);
      each_unit = and-right _ _ h1;
      distinct = and-right _ _ h;
    }

pub is_chain-from : (units : List ℕ) → ChainRules units → is_chain units ≡ true
is_chain-from units r = both _ _ (both _ _ (is_within-from 1 5 (length units) r.some r.few) r.each_unit) r.distinct

pub record ChangeRules (c : Changed) : Type 0 where
  pub drop_units : list_all is_unit c.drop ≡ true
  pub drop_distinct : is_distinct c.drop ≡ true
  pub opened_few : length c.opened ≤ 8
  pub opened_chains : list_all is_chain c.opened ≡ true
  pub opened_distinct : is_distinct (concat c.opened) ≡ true
  pub join : is_joining c.join ≡ true

pub change_rules : (c : Changed) → IsChange c → ChangeRules c
change_rules c h =
    let h2 = and-left _ _ h in
    let h1 = and-left _ _ h2 in
    let opened = and-right _ _ h2 in
    let o1 = and-left _ _ opened in
    record {
      drop_units = and-left _ _ h1;
      drop_distinct = and-right _ _ h1;
      opened_few = leb-true (length c.opened) 8 (and-left _ _ o1);
      opened_chains = and-right _ _ o1;
      opened_distinct = and-right _ _ opened;
      join = and-right _ _ h;
    }
