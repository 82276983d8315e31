use Rattle.std.proofs.Common.{◌≡◌, ◌-◌, ◌^◌, ◌∷◌, [], true, min, subst, arith}
use Rattle.std.specs.List.{list_all}
use Rattle.tg_entry.specs.declared.entry.Body.TheVariants.{Checkpoint}
use Rattle.tg_entry.specs.Checkpoints.{Keyed}
use Rattle.tg_protocol.specs.Entries.{draft, entry_size}
use Rattle.tg_ckpt.specs.Saving.{key_of_bytes}
use Rattle.tg_ckpt.proofs.Drafts.{measured, more_than, at_most, draft_kept, drafted}
use Rattle.tg_ckpt.proofs.saving.draft_of.Goals as goal

pub new-requires : goal.new-requires
new-requires c =
    let size : c.checkpoint_size-bytes.result ≡ min (entry_size (draft c.args.head.client c.args.head.number (c.args.oid ∷ []) (Checkpoint c.args.oid c.args.upto c.args.version c.args.whole c.args.keys c.args.state))) (2 ^ 64 - 1) =
    measured c.args.head.client c.args.head.number c.args.oid c.args.upto c.args.version c.args.whole c.args.keys c.as_slice.result.now c.args.state c.as_slice-2.result.now c.checkpoint_size-bytes.result
    c.as_slice.ensures c.as_slice-2.ensures c.checkpoint_size-bytes.ensures.size in
    let bytes : list_all key_of_bytes c.args.keys ≡ true = subst (λ (ks : Keyed). list_all key_of_bytes ks ≡ true) c.as_slice.ensures c.checkpoint_size-bytes.ensures.bytes in
    draft_kept c.args.head c.args.oid c.args.upto c.args.version c.args.whole c.args.keys c.args.state c.requires.head c.requires.object (omega arith) c.requires.number (omega arith) (omega arith) (omega arith) c.requires.keys bytes
    (at_most _ _ size c.if-bytes-gt-MAX.false)

pub returns-then-bytes-gt-MAX : goal.returns-then-bytes-gt-MAX
returns-then-bytes-gt-MAX c =
    let size : c.checkpoint_size-bytes.result ≡ min (entry_size (draft c.args.head.client c.args.head.number (c.args.oid ∷ []) (Checkpoint c.args.oid c.args.upto c.args.version c.args.whole c.args.keys c.args.state))) (2 ^ 64 - 1) =
    measured c.args.head.client c.args.head.number c.args.oid c.args.upto c.args.version c.args.whole c.args.keys c.as_slice.result.now c.args.state c.as_slice-2.result.now c.checkpoint_size-bytes.result
    c.as_slice.ensures c.as_slice-2.ensures c.checkpoint_size-bytes.ensures.size in
    (size, more_than _ _ size c.if-bytes-gt-MAX.true)

pub returns : goal.returns
returns c =
    let size : c.checkpoint_size-bytes.result ≡ min (entry_size (draft c.args.head.client c.args.head.number (c.args.oid ∷ []) (Checkpoint c.args.oid c.args.upto c.args.version c.args.whole c.args.keys c.args.state))) (2 ^ 64 - 1) =
    measured c.args.head.client c.args.head.number c.args.oid c.args.upto c.args.version c.args.whole c.args.keys c.as_slice.result.now c.args.state c.as_slice-2.result.now c.checkpoint_size-bytes.result
    c.as_slice.ensures c.as_slice-2.ensures c.checkpoint_size-bytes.ensures.size in
    (drafted c.new.result c.args.head c.args.oid c.args.upto c.args.version c.args.whole c.args.keys c.args.state c.requires.head c.new.ensures, at_most _ _ size c.if-bytes-gt-MAX.false)
