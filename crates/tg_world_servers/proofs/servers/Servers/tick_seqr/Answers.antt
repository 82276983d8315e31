use Rattle.std.proofs.Common.{◌<◌, length, sym, subst}
use Rattle.tg_protocol.specs.Sequencers.{new_seqr}
use Rattle.tg_world_servers.specs.Servers.{ServersState}
use Rattle.tg_world_servers.specs.declared.servers.Parts.{Parts}
use Rattle.tg_world_servers.proofs.Boxed.{IsWholeIn, whole_in}
use Rattle.tg_world_servers.proofs.Moving.{turned_length, whole_turned, has_room}
use Rattle.tg_world_servers.proofs.servers.Servers.tick_seqr.Goals as goal

pub seqr_ticks-requires-clause-room : goal.seqr_ticks-requires-clause-room
seqr_ticks-requires-clause-room c =
    let x : Parts = c.deref_mut-inner.result.now in
    has_room x.cluster x.first (length x.units.items) (length x.layouts.items) x.seqrs.items x.steps (whole_in x _ c.deref_mut-inner.ensures.value c.self.invariant)
    (subst (λ (p : Parts). p.steps < 200000) (sym c.deref_mut-inner.ensures.value) (subst (λ (s : ServersState). s.steps < 200000) (sym c.self.view_is) c.requires.room))

pub invariant_of-result : goal.invariant_of-result
invariant_of-result c =
    let x : Parts = c.deref_mut-inner.result.now in
    let whole : IsWholeIn x = whole_in x _ c.deref_mut-inner.ensures.value c.self.invariant in
    whole_turned x.cluster x.first (length x.units.items) (length x.layouts.items) x.seqrs.items c.seqr_ticks.new.seqrs.items x.steps
    (turned_length x.seqrs.items c.seqr_ticks.new.seqrs.items c.args.num _ (c.in_ok-outs.ensures.now (new_seqr 0 0 x.first))) whole (c.in_ok-outs.ensures.counted x.steps whole.counted)
