use Rattle.std.proofs.Common.{◌++◌, ◌∙◌, ap, append_assoc, List, ℕ}
use Rattle.std.specs.Int.{w32, w64, to_be_bytes}
use Rattle.tg_entry.proofs.reads.OldMarksItem.write.Goals as goal

pub returns : goal.returns
returns c = λ state.
    let number = to_be_bytes w32 c.args.value.now.oid.0 in
    let version = to_be_bytes w64 c.args.value.now.version in
    c.in_ok-put_u64.ensures ∙ ap (λ (o : List ℕ). o ++ version) c.in_ok-put_u32.ensures ∙ append_assoc c.args.out.now number version
