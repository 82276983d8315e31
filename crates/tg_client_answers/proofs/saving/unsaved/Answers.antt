use Rattle.std.proofs.Common.{Err, subst}
use Rattle.tg_play.proofs.Means.{means}
use Rattle.tg_protocol.specs.Entries.{entry_size}
use Rattle.tg_ckpt.specs.Saving.{Saves}
use Rattle.tg_ckpt.specs.declared.fault.SaveFault.{SaveFault}
use Rattle.tg_client_state.specs.States.{client_of}
use Rattle.tg_client_answers.proofs.Moving.{moves_same, too_large_by}
use Rattle.tg_client_answers.proofs.saving.unsaved.Goals as goal

pub returns-in-TooLarge : goal.returns-in-TooLarge
returns-in-TooLarge g c = λ w o e r old h hv.
    let m = means g.K.Kind g.K.Registry in
    let told = subst (λ (x : SaveFault). Saves (Err x) e) c.in-TooLarge.is h in
    moves_same m c.too_large.result old _ _ (too_large_by m (client_of m c.args.state r) w o e told.1) (c.too_large.ensures (entry_size e) r old told.0 hv)
