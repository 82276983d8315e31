use Rattle.std.proofs.Common.{length, refl}
use Rattle.tg_world_servers.specs.declared.servers.Parts.{Parts}
use Rattle.tg_world_servers.proofs.Boxed.{whole_in}
use Rattle.tg_world_servers.proofs.Moving.{whole_more}
use Rattle.tg_world_servers.proofs.servers.Servers.count_step.Goals as goal

pub invariant_of-self : goal.invariant_of-self
invariant_of-self c =
    let x : Parts = c.deref_mut.result.now in
    whole_more x.cluster x.first (length x.units.items) (length x.units.items) (length x.layouts.items) (length x.layouts.items) x.seqrs.items x.steps refl refl (whole_in x _ c.deref_mut.ensures.value c.self.invariant)
