-- A script's `settle` line, as a replay runs it: it answers the client that waits alone.
use Rattle.std.specs.Prelude.{◌≡◌, ℕ, ◌+◌, ◌*◌, ◌≤◌, true, false, slice_get, Some, None}
use Rattle.tg_model.specs.Kinds.{CommandOf}
use Rattle.tg_protocol.specs.Clients.{Work}
use Rattle.tg_protocol.specs.Worlds.{client, latest, next_event}
use Rattle.tg_protocol.specs.Finishing.{longest_chain, IsReadyFor, IsSpareReady, NoReconf, most_deliveries_in, Finishes, HasReply}
use Rattle.tg_any.specs.AllKinds.{all_kinds}
use Rattle.tg_script.specs.declared.line.Line.TheVariants as line
use Rattle.tg_replay.specs.Runs.{Script, Worlds, IsScript, IsWithin, world_of, front}
use Rattle.tg_law_finish.specs.Finish.Alone.{IsAlone}
use Rattle.tg_law_finish.specs.Finish.Asks.{NothingTrimmed}
use Rattle.tg_law_finish.specs.Finish.Commands.{is_ask, plays}
use Rattle.tg_law_finish.specs.Finish.Copies.{WaitsForCopy, copy_bound}
use Rattle.tg_law_finish.specs.Finish.Drains.{drained}
use Rattle.tg_law_finish.specs.Finish.Granted.{next_position}
use Rattle.tg_law_finish.specs.Finish.Laws.{IsReply, append_bound}
use Rattle.tg_law_finish.specs.Finish.Store.{AppendsLast}
use Rattle.tg_law_finish.specs.Finish.Makes.{makes}
use Rattle.tg_law_finish.specs.Finish.Reads.{WaitsForRead}
use Rattle.tg_law_finish.specs.Finish.Ends.{EndsAppend, end_bound, EndsRecord, record_bound}
use Rattle.tg_law_finish.specs.Finish.Rescues.{is_rescue, rescue_bound}
use Rattle.tg_law_finish.specs.Finish.Trims.{WaitsForTrim, trim_bound}
use Rattle.tg_law_finish.specs.Finish.Walks.{floors, streams, passes_bound, walk_bound}

-- event line n, counted from 0, settles, and no limit stops the script before it
pub record IsSettleLine (s : Script) (n : ℕ) : Type 0 where
  pub script : IsScript s
  pub here : slice_get s.events n ≡ Some line.Settle
  pub within : IsWithin (front n s)

-- the world in which the line settles, and the one that it makes
abbrev pub world_before : Script → ℕ → Worlds
world_before s n = next_event all_kinds (world_of (front n s))

abbrev pub world_after : Script → ℕ → Worlds
world_after s n = world_of (front (n + 1) s)

-- a client waits with a command that is proved to finish, within so many deliveries
pub data Waits (w : Worlds) (k : ℕ) (x : CommandOf all_kinds) : ℕ → Type 0 where
  -- for an append after which nothing is left to do
  ForAppend : AppendsLast all_kinds w k → Waits w k x (append_bound all_kinds w)
  -- in a sync or in a walk: of `ask`, `fate` and `ask-at`
  ForAsk : is_ask all_kinds x ≡ true → (f : WaitsForRead all_kinds w k) → Waits w k x (walk_bound all_kinds w (streams all_kinds f.work))
  -- and of `decide`, `checkpoint`, `forget`, and `end` whose record is appended
  ForMake : makes all_kinds x ≡ true → (f : WaitsForRead all_kinds w k) → Waits w k x (walk_bound all_kinds w (streams all_kinds f.work) + 2 * (longest_chain (latest all_kinds w) + 1))
  -- and of `rescue`
  ForRescue : is_rescue all_kinds x ≡ true → (f : WaitsForRead all_kinds w k) → Waits w k x (rescue_bound all_kinds w (streams all_kinds f.work))
  -- of `trim`, in a sync, in a walk, or once units are asked to trim
  ForTrim : (f : WaitsForTrim all_kinds w k) → Waits w k x (trim_bound all_kinds w (streams all_kinds f.work))
  -- of `copy`, whose spare unit runs and isn't past the layout
  ForCopy : IsSpareReady all_kinds w x → WaitsForCopy all_kinds w k → Waits w k x (copy_bound all_kinds w)
  -- for the token of the record of a transaction with reads
  ForEnd : EndsAppend all_kinds w k → Waits w k x (end_bound all_kinds w)
  -- for its append, wherever that stands
  ForRecord : EndsRecord all_kinds w k → Waits w k x (record_bound all_kinds w)
  -- for whatever it is, with any command but a reconfiguration; the spare unit of a copy runs, and isn't past the layout
  ForAny : IsSpareReady all_kinds w x → NoReconf all_kinds x → Waits w k x (most_deliveries_in all_kinds w x + 129 * passes_bound all_kinds w 128)
  -- within the bound of its command alone: where nothing is trimmed,
  ForCalm : IsSpareReady all_kinds w x → NoReconf all_kinds x → NothingTrimmed all_kinds w → Waits w k x (most_deliveries_in all_kinds w x)
  -- where the log is long for the units that have trimmed anything,
  ForLong : IsSpareReady all_kinds w x → NoReconf all_kinds x → 23 * (floors all_kinds w + 2) ≤ next_position all_kinds w → Waits w k x (most_deliveries_in all_kinds w x)
  -- or, in a sync or in a walk of a command other than `rescue`, long for these and for the streams that it walks
  ForFew : plays all_kinds x ≡ true → is_rescue all_kinds x ≡ false → (f : WaitsForRead all_kinds w k) → (streams all_kinds f.work + 3) * (floors all_kinds w + 2) ≤ 6 * next_position all_kinds w + 23 → Waits w k x (most_deliveries_in all_kinds w x)

-- The client waits alone: nothing is on its way, or its requests alone are, as right after its command.
abbrev pub SettleLinesFinish : Type 0
SettleLinesFinish = (s : Script) (n k most : ℕ) (x : CommandOf all_kinds) → IsSettleLine s n → IsAlone all_kinds (world_before s n) k x → IsReadyFor all_kinds (world_before s n) k →
    Waits (world_before s n) k x most → Finishes all_kinds (world_before s n) (world_after s n) k most (IsReply all_kinds)

-- Whatever is on its way before the line, it begins with a drain.
abbrev pub world_drained : Script → ℕ → Worlds
world_drained s n = drained all_kinds (world_before s n)

-- which may leave the client waiting
abbrev pub DrainedLinesFinish : Type 0
DrainedLinesFinish = (s : Script) (n k most : ℕ) (x : CommandOf all_kinds) → IsSettleLine s n → IsAlone all_kinds (world_drained s n) k x → IsReadyFor all_kinds (world_drained s n) k →
    Waits (world_drained s n) k x most → Finishes all_kinds (world_drained s n) (world_after s n) k most (IsReply all_kinds)

-- or end its command: then it has told a reply, and the line leaves it idle
pub record DrainAnswers (s : Script) (n k : ℕ) : Type 0 where
  pub reply : HasReply all_kinds (world_before s n) (world_drained s n) k (IsReply all_kinds)
  pub idle : (client all_kinds (world_after s n) k).work ≡ None

abbrev pub DrainedLinesAnswer : Type 0
DrainedLinesAnswer = (s : Script) (n k : ℕ) (work : Work all_kinds) → IsSettleLine s n → (client all_kinds (world_before s n) k).work ≡ Some work → plays all_kinds work.command ≡ true →
    (client all_kinds (world_drained s n) k).work ≡ None → DrainAnswers s n k
