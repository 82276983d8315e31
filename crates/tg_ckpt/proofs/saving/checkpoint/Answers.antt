use Rattle.tg_protocol.specs.Checkpoints.{checkpoint}
use Rattle.tg_ckpt.proofs.Drafts.{saves_as}
use Rattle.tg_ckpt.proofs.saving.checkpoint.Goals as goal

pub returns : goal.returns
unfolding checkpoint
returns g c = λ v k.
    saves_as c.draft_of.result c.in_ok-head.head c.args.client c.args.number c.args.oid c.args.upto _ _ _ _ _ _ _ _ c.in_ok-head.ensures (c.version-version.ensures.told v k) (c.in_ok-whole.ensures.whole v k) (c.in_ok-whole.ensures.keys v k)
    (c.in_ok-state.ensures v k) c.draft_of.ensures
