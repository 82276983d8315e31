use Rattle.tg_codec.proofs.Objects.{link_len}
use Rattle.tg_codec.proofs.streams.LinksMeasured.size.Goals as goal

pub returns-clause-len : goal.returns-clause-len
returns-clause-len c = λ state. link_len state c.args.value.now c.as_slice-backs.ensures.fits
