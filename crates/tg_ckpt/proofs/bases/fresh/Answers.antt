use Rattle.tg_ckpt.proofs.bases.fresh.Goals as goal

pub returns : goal.returns
returns g c = λ i. record { oid = c.args.oid; state = c.in_ok-state.ensures i; vers = c.new-vers.ensures.kept i; upto = 0 }
