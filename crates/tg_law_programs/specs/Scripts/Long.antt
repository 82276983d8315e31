-- A script that puts an op for which no record has room.
use Rattle.std.specs.Prelude.{ℕ, List, [], ◌∷◌, replicate}
use Rattle.tg_base.specs.Clusters.{Header}
use Rattle.tg_base.specs.declared.ids.Oid.{Oid}
use Rattle.tg_map.specs.declared.map.MapOp.TheVariants.{Set}
use Rattle.tg_model.specs.declared.command.Command.{Command}
use Rattle.tg_model.specs.declared.command.Command.TheVariants as cmd
use Rattle.tg_model.specs.declared.command.Event.TheVariants as event
use Rattle.tg_any.specs.declared.any.AnyAsk.{AnyAsk}
use Rattle.tg_any.specs.declared.any.AnyOp.{AnyOp}
use Rattle.tg_any.specs.declared.any.AnyOp.TheVariants as ops
use Rattle.tg_script.specs.declared.line.Line.TheVariants as line
use Rattle.tg_replay.specs.Runs.{Script}

abbrev pub a_map : Oid
a_map = record { 0 = 0x3000000 }

-- one node of each role, and the map
abbrev pub cluster : Header
cluster = record { units = 1; layouts = 1; seqs = 1; clients = 1; limit = 100; chains = (0 ∷ []) ∷ []; objects = a_map ∷ [] }

abbrev pub letters : List ℕ
letters = replicate 4000 97

-- the map is to have a key and a value of 4,000 letters each
abbrev pub long_op : AnyOp
long_op = ops.Map (Set letters letters)

abbrev pub long_put : Command AnyOp AnyAsk
long_put = cmd.Put a_map long_op

abbrev pub puts_long : Script
puts_long = record { header = cluster; events = line.Event (event.Command 0 long_put) ∷ [] }
