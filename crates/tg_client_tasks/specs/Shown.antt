-- Turns of machines, as calls show them: in a layout, from one number to the next, in a step that began with `old`.
use Rattle.std.specs.Prelude.{◌≡◌, ℕ, true, List, []}
use Rattle.tg_base.specs.Layouts.{Layout}
use Rattle.tg_base.specs.declared.change.Join.{Join}
use Rattle.tg_protocol.specs.Appending.{Append, AppendTurn, append_asks}
use Rattle.tg_protocol.specs.Trimming.{Trims, TrimTurn, trim_asks, Copying, CopyTurn, copy_asks}
use Rattle.tg_base.specs.declared.packet.Out.{Out}
use Rattle.tg_protocol.specs.Requests.{drawn_from}
use Rattle.tg_protocol.specs.Reconfiguring.{Reconf, ReconfTurn, reconf_asks, reconf_awaited}
use Rattle.tg_chain.specs.declared.step.Step.{Step as AppendStep}
use Rattle.tg_append.specs.declared.ends.AppendEnd.{AppendEnd}
use Rattle.tg_append.specs.Turns.{shown as append_shown}
use Rattle.tg_append.specs.Appends.{Paused, append_end, by_append}
use Rattle.tg_chain.specs.declared.step.Step.{Step as TrimStep}
use Rattle.tg_trim.specs.declared.ends.TrimEnd.{TrimEnd}
use Rattle.tg_trim.specs.Turns.{shown as trim_shown, by_trim}
use Rattle.tg_chain.specs.declared.step.Step.{Step as CopyStep}
use Rattle.tg_copy.specs.declared.ends.CopyEnd.{CopyEnd}
use Rattle.tg_copy.specs.Turns.{shown as copy_shown, by_copy}
use Rattle.tg_reconf.specs.declared.step.Step.{Step as ReconfStep}
use Rattle.tg_reconf.specs.Turns.{shown as reconf_shown, by_reconf, all_drawn}
use Rattle.tg_client_state.specs.Numbers.{ThenDrawn}
use Rattle.tg_client_state.specs.Near.{AppendThenNear}
use Rattle.tg_client_state.specs.Laws.{ThenHasStripe}
use Rattle.tg_client_state.specs.Steps.{Fits}

pub record AppendShown (old : ℕ) (p : Layout) (next now : ℕ) (s : AppendStep Append Paused AppendEnd) (t : AppendTurn) : Type 0 where
  pub turn : append_shown append_end s now ≡ by_append p next t
  pub fits : Fits (append_asks p) old next t
  pub near : AppendThenNear t.to

pub record TrimShown (old : ℕ) (p : Layout) (next now : ℕ) (s : TrimStep Trims ℕ TrimEnd) (t : TrimTurn) : Type 0 where
  pub turn : trim_shown s now ≡ by_trim p next t
  pub fits : Fits (trim_asks p) old next t
  pub none : t.besides ≡ []

pub record CopyShown (old : ℕ) (p : Layout) (next now : ℕ) (s : CopyStep Copying Join CopyEnd) (t : CopyTurn) : Type 0 where
  pub turn : copy_shown s now ≡ by_copy p next t
  pub fits : Fits (copy_asks p) old next t
  pub none : t.besides ≡ []
  pub stripe : ThenHasStripe p t.to

pub record ReconfShown (old next now : ℕ) (s : ReconfStep) (t : ReconfTurn) : Type 0 where
  pub turn : reconf_shown s now ≡ by_reconf next t
  pub fits : Fits reconf_asks old next t
  pub none : t.besides ≡ []
  pub awaited : ThenDrawn reconf_awaited t.next t.to

-- a change that goes on: what is sent for it, and its numbers
pub record Changes (old now : ℕ) (r : Reconf) (outs : List Out) : Type 0 where
  pub sent : outs ≡ drawn_from old (reconf_asks r)
  pub drawn : all_drawn now (reconf_awaited r) ≡ true
