-- The units of the next layout.
use Rattle.std.proofs.Common.{◌≡◌, ℕ, List, [], ◌++◌, sym, ap, ◌∙◌}
use Rattle.tg_base.specs.Changes.{Changed}
use Rattle.tg_base.specs.Layouts.{Layout}
use Rattle.tg_proj.specs.Next.{next_ranges, opened_at}
use Rattle.tg_proj.specs.Refusals.{units_of as units_in}
use Rattle.tg_proj.proofs.Chains.{units_of-append, units_of-opened}
use Rattle.tg_protocol.specs.Words.{with_nums}
use Rattle.tg_protocol.specs.Layouts.{next_of, next_units, units_of}

-- whoever proposes it, and wherever it starts
next_same : (p : Layout) (c : Changed) (start : ℕ) →
    units_in (next_ranges c 0 p.ranges ++ opened_at c.opened start) ≡ units_in (next_ranges c 0 p.ranges ++ opened_at c.opened 0)
next_same p c start =
    let kept = next_ranges c 0 p.ranges in
    units_of-append kept (opened_at c.opened start) ∙ ap (λ us. units_in kept ++ us) (units_of-opened c.opened start ∙ sym (units_of-opened c.opened 0))
    ∙ sym (units_of-append kept (opened_at c.opened 0))

pub next_units_are : (p : Layout) (c : Changed) (by start : ℕ) → units_of (next_of p c by start) ≡ next_units p c
unfolding next_of units_of
next_units_are p c by start = ap (λ us. with_nums us []) (next_same p c start)
