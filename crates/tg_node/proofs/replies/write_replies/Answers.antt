use Rattle.std.proofs.Common.{refl}
use Rattle.tg_node.proofs.Writing.{writing_next, writing_end}
use Rattle.tg_node.proofs.replies.write_replies.Goals as goal

pub loop-alloc-init : goal.loop-alloc-init
loop-alloc-init c = refl

pub loop-alloc-preserved : goal.loop-alloc-preserved
loop-alloc-preserved c =
    writing_next c.args.event c.args.client c.args.out.now c.args.notes c.loop-alloc.notes c.remove-note.new.self c.loop-alloc.out c.write_reply.new.out c.remove-note.result c.loop-alloc.invariant c.remove-note.ensures.value c.remove-note.ensures.rest
    c.in_ok-write_reply.ensures

pub returns : goal.returns
returns c = writing_end c.args.event c.args.client c.args.out.now c.args.notes c.loop-alloc.notes c.loop-alloc.out c.is_empty.result c.loop-alloc.invariant c.is_empty.ensures c.loop-alloc-test.false
