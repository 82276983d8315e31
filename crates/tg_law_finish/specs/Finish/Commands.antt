-- Commands that wait.
use Rattle.std.specs.Prelude.{Bool, true, false}
use Rattle.tg_kind.specs.Meaning.{Meaning}
use Rattle.tg_model.specs.declared.command.Command.TheVariants as cmd
use Rattle.tg_model.specs.Kinds.{CommandOf}

module _ (m : Meaning) where
  -- commands that are answered as soon as all is walked
  unfoldable pub is_ask : CommandOf m → Bool
  is_ask (cmd.Ask o q) = true
  is_ask (cmd.Fate p) = true
  is_ask (cmd.AskAt p o q) = true
  is_ask _ = false

  -- commands that sync, walk and play
  unfoldable pub plays : CommandOf m → Bool
  plays (cmd.Ask o q) = true
  plays cmd.End = true
  plays (cmd.Fate p) = true
  plays (cmd.AskAt p o q) = true
  plays (cmd.Decide p) = true
  plays (cmd.Checkpoint o) = true
  plays (cmd.Forget o n) = true
  plays cmd.Trim = true
  plays (cmd.Rescue p) = true
  plays _ = false
