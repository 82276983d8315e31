use Rattle.tg_ckpt.proofs.Drafts.{none_left, size_told}
use Rattle.tg_ckpt.proofs.saving.checkpoint_size.Goals as goal

pub returns-clause-size : goal.returns-clause-size
returns-clause-size c = size_told c.loop-key.size _ _ c.loop-key.invariant.small (none_left c.args.keys.now c.loop-key.key-index c.loop-key-test.false) c.loop-key.invariant.size
