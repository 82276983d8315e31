use Rattle.std.proofs.Common.{arith}
use Rattle.tg_ckpt.proofs.Drafts.{all_bytes}
use Rattle.tg_ckpt.proofs.saving.text_size.Goals as goal

pub returns-clause-bytes : goal.returns-clause-bytes
returns-clause-bytes c = all_bytes c.args.text.now (λ i. omega (arith, c.type_inv.text i))
