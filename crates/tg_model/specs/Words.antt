-- The word of each command.
use Rattle.tg_model.specs.declared.command.Command.{Command}
use Rattle.tg_model.specs.declared.command.Command.TheVariants as cmd
use Rattle.tg_model.specs.declared.command.Word.{Word}
use Rattle.tg_model.specs.declared.command.Word.TheVariants as word

abbrev pub word_of : {O Q : Type 0} → Command O Q → Word
word_of (cmd.Host o) = word.Host
word_of cmd.Begin = word.Begin
word_of (cmd.Put o op) = word.Put
word_of (cmd.Ask o q) = word.Ask
word_of cmd.End = word.End
word_of cmd.Drop = word.Drop
word_of (cmd.Fate p) = word.Fate
word_of (cmd.Decide p) = word.Decide
word_of (cmd.Checkpoint o) = word.Checkpoint
word_of (cmd.Forget o n) = word.Forget
word_of cmd.Trim = word.Trim
word_of (cmd.Reconf c) = word.Reconf
word_of (cmd.Copy u r s) = word.Copy
word_of (cmd.AskAt p o q) = word.AskAt
word_of (cmd.Rescue p) = word.Rescue
