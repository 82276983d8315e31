-- Which requests were drawn in a step.
use Rattle.std.proofs.Common.{◌≡◌, ℕ, ◌+◌}
use Rattle.tg_base.specs.Layouts.{Layout}
use Rattle.tg_base.specs.declared.change.Join.{Join}
use Rattle.tg_protocol.specs.Trimming.{copy_asks, copy_work_asks}
use Rattle.tg_chain.specs.Turns.{drawn_between}
use Rattle.tg_chain.proofs.Outs.{one_drawn}
use Rattle.tg_copy.specs.declared.copy_state.Ask.{Ask}
use Rattle.tg_copy.specs.declared.copy_state.Ask.TheVariants as ask
use Rattle.tg_copy.specs.Copies.{asking}

pub ask_drawn : (p : Layout) (s : Join) (a : Ask) (n : ℕ) → drawn_between n (n + 1) (copy_asks p (asking s n a)) ≡ copy_asks p (asking s n a)
unfolding copy_work_asks
ask_drawn p s ask.Seal n = one_drawn _ n _
ask_drawn p s (ask.Store pos x) n = one_drawn _ n _
ask_drawn p s (ask.Trim b) n = one_drawn _ n _
ask_drawn p s ask.Look n = one_drawn _ n _
