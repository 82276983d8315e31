-- The first lines of examples/past-views.script, an update and a `settle` line: they meet the premises of the laws on
-- a `settle` line in whose world before a client waits alone, and on one whose drain ends the command.
use Rattle.std.specs.Prelude.{◌≡◌, [], ◌∷◌, pos, None}
use Rattle.tg_base.specs.declared.ids.Oid.{Oid}
use Rattle.tg_cell.specs.declared.counter.CounterOp.TheVariants.{Add}
use Rattle.tg_model.specs.declared.command.Command.TheVariants as cmd
use Rattle.tg_protocol.specs.Worlds.{client}
use Rattle.tg_protocol.specs.Finishing.{deliveries, is_with_client, IsReadyFor}
use Rattle.tg_any.specs.AllKinds.{all_kinds}
use Rattle.tg_any.specs.declared.any.AnyOp.TheVariants as ops
use Rattle.tg_script.specs.declared.line.Line.TheVariants as line
use Rattle.tg_replay.specs.Runs.{Script}
use Rattle.tg_law_finish.specs.Finish.Alone.{IsAlone}
use Rattle.tg_law_finish.specs.Finish.Laws.{append_bound}
use Rattle.tg_law_settles.specs.Settles.{IsSettleLine, Waits, world_before, world_drained, world_after}

abbrev pub ctr0 : Oid
ctr0 = record { 0 = 0x1000000 }

abbrev pub update_settled : Script
update_settled = record {
  header = record { units = 1; layouts = 1; seqs = 1; clients = 3; limit = 100; chains = (0 ∷ []) ∷ []; objects = ctr0 ∷ [] };
  events = line.Update 0 ctr0 (ops.Counter (Add (pos 5))) ∷ line.Settle ∷ [];
}

-- The update's request for a token is on its way. The line's drain ends the update, in four deliveries with the
-- client where eight are allowed.
pub record UpdateIsSettled : Type 0 where
  pub settles : IsSettleLine update_settled 1
  pub alone : IsAlone all_kinds (world_before update_settled 1) 0 cmd.End
  pub ready : IsReadyFor all_kinds (world_before update_settled 1) 0
  pub waits : Waits (world_before update_settled 1) 0 cmd.End (append_bound all_kinds (world_before update_settled 1))
  pub allowed : append_bound all_kinds (world_before update_settled 1) ≡ 8
  pub taken : deliveries all_kinds (is_with_client all_kinds 0) (world_before update_settled 1) (world_after update_settled 1) ≡ 4
  pub by_drain : (client all_kinds (world_drained update_settled 1) 0).work ≡ None
