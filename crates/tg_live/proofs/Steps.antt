-- A line's steps send packets after those that were sent.
use Rattle.std.proofs.Common.{◌≡◌, ℕ, true, Some, None, refl, sym, subst}
use Rattle.std.specs.declared.option.Option.{Option}
use Rattle.tg_base.specs.declared.fault.Which.{Which}
use Rattle.tg_base.specs.declared.ids.Oid.{Oid}
use Rattle.tg_any.specs.declared.any.AnyOp.{AnyOp}
use Rattle.tg_model.specs.Kinds.{EventOf}
use Rattle.tg_model.specs.declared.command.Command.TheVariants as cmd
use Rattle.tg_model.specs.declared.command.Event.TheVariants as event
use Rattle.tg_protocol.specs.Worlds.{next_event, limit_of, unless_stopped}
use Rattle.tg_world.specs.Runs.{happens_by, happens_on, puts_on}
use Rattle.tg_any.specs.AllKinds.{all_kinds}
use Rattle.tg_replay.specs.Runs.{Worlds, Runs, line_on}
use Rattle.tg_replay.proofs.Making.{goes_on, stops}
use Rattle.tg_script.specs.declared.line.Line.{Line}
use Rattle.tg_script.specs.declared.line.Line.TheVariants as line
use Rattle.tg_live.specs.Lives.{is_steps}
use Rattle.tg_live.proofs.Growing.{Begins, same_begins, longer_begins, happens_grows}

by_grows : (o : Option Which) (w : Worlds) (e : EventOf all_kinds) → Begins w.packets (happens_by all_kinds o w e).world.packets
by_grows (Some x) w e = same_begins w.packets
by_grows None w e = happens_grows all_kinds w e

on_grows : (w : Worlds) (e : EventOf all_kinds) → Begins w.packets (happens_on all_kinds w e).world.packets
on_grows w e = by_grows (limit_of all_kinds w) w e

unless_grows : (w : Worlds) (r : Runs) (f : Worlds → Runs) → Begins w.packets r.world.packets → ((v : Worlds) → Begins v.packets (f v).world.packets) → Begins w.packets (unless_stopped all_kinds r f).world.packets
unless_grows w r f b g = at r.stopped refl
  where
    at : (o : Option Which) → r.stopped ≡ o → Begins w.packets (unless_stopped all_kinds r f).world.packets
    at None e = subst (λ (x : Runs). Begins w.packets x.world.packets) (sym (goes_on r f e)) (longer_begins w.packets r.world.packets (f r.world).world.packets b (g r.world))
    at (Some x) e = subst (λ (y : Runs). Begins w.packets y.world.packets) (sym (stops r f x e)) b

puts_grow : (w : Worlds) (k : ℕ) (oid : Oid) (op : AnyOp) → Begins w.packets (puts_on all_kinds w k oid op).world.packets
puts_grow w k oid op =
    unless_grows w (happens_on all_kinds w (event.Command k (cmd.Put oid op))) (λ v. happens_on all_kinds v (event.Command k cmd.End))
    (on_grows w (event.Command k (cmd.Put oid op))) (λ v. on_grows v (event.Command k cmd.End))

pub line_grows : (w : Worlds) (l : Line) → is_steps l ≡ true → Begins w.packets (line_on w l).world.packets
line_grows w (line.Event e) h = on_grows (next_event all_kinds w) e
line_grows w (line.Update k oid op) h =
    let v = next_event all_kinds w in
    unless_grows v (happens_on all_kinds v (event.Command k cmd.Begin)) (λ u. puts_on all_kinds u k oid op)
    (on_grows v (event.Command k cmd.Begin)) (λ u. puts_grow u k oid op)
line_grows w line.Drain h = absurd cc
line_grows w line.Settle h = absurd cc
