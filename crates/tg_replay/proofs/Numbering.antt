-- Each line raises the number of a world's events by one.
use Rattle.std.proofs.Common.{◌≡◌, ◌+◌, ℕ, sym, ap, ◌∙◌}
use Rattle.tg_protocol.specs.Worlds.{next_event}
use Rattle.tg_world.specs.Kept.{KeptOf, KeepsWorld}
use Rattle.tg_world.proofs.Numbering.{drain_event, settle_event, on_event, update_event, event_told}
use Rattle.tg_any.specs.AllKinds.{all_kinds}
use Rattle.tg_script.specs.declared.line.Line.{Line}
use Rattle.tg_script.specs.declared.line.Line.TheVariants as line
use Rattle.tg_replay.specs.Runs.{Worlds, line_in, line_on}

-- its steps leave it
pub in_line : (w : Worlds) (l : Line) → (line_in w l).world.event ≡ w.event
in_line w (line.Event e) = on_event all_kinds w e
in_line w (line.Update k oid op) = update_event all_kinds w k oid op
in_line w line.Drain = drain_event all_kinds w
in_line w line.Settle = settle_event all_kinds w

pub counts_line : (k j : KeptOf all_kinds) (w : Worlds) (l : Line) → KeepsWorld all_kinds k w → KeepsWorld all_kinds j (line_on w l).world → j.event ≡ k.event + 1
counts_line k j w l before after =
    event_told all_kinds j (line_on w l).world after ∙ in_line (next_event all_kinds w) l ∙ ap (λ (n : ℕ). n + 1) (sym (event_told all_kinds k w before))
