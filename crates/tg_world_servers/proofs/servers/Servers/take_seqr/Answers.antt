use Rattle.std.proofs.Common.{◌≡◌, ◌<◌, length, sym, ap, subst, ◌∙◌}
use Rattle.tg_protocol.specs.Sequencers.{new_seqr}
use Rattle.tg_world_servers.specs.Rows.{states_of}
use Rattle.tg_world_servers.specs.Servers.{ServersState, counted, seqr_takes}
use Rattle.tg_world_servers.specs.declared.servers.Parts.{Parts}
use Rattle.tg_world_servers.proofs.Boxed.{as_told, IsWholeIn, whole_in}
use Rattle.tg_world_servers.proofs.Moving.{turned_length, whole_turned, has_room}
use Rattle.tg_world_servers.proofs.Taking.{packet_got, seqr_took}
use Rattle.tg_world_servers.proofs.servers.Servers.take_seqr.Goals as goal

pub seqr_takes-requires-clause-room : goal.seqr_takes-requires-clause-room
seqr_takes-requires-clause-room c =
    let x : Parts = c.deref_mut-inner.result.now in
    has_room x.cluster x.first (length x.units.items) (length x.layouts.items) x.seqrs.items x.steps (whole_in x _ c.deref_mut-inner.ensures.value c.self.invariant)
    (subst (λ (p : Parts). p.steps < 200000) (sym c.deref_mut-inner.ensures.value) (subst (λ (s : ServersState). s.steps < 200000) (sym c.self.view_is) c.requires.room))

pub invariant_of-result : goal.invariant_of-result
invariant_of-result c =
    let x : Parts = c.deref_mut-inner.result.now in
    let whole : IsWholeIn x = whole_in x _ c.deref_mut-inner.ensures.value c.self.invariant in
    whole_turned x.cluster x.first (length x.units.items) (length x.layouts.items) x.seqrs.items c.seqr_takes.new.seqrs.items x.steps
    (turned_length x.seqrs.items c.seqr_takes.new.seqrs.items c.args.num _ (c.in_ok-outs.ensures.now (new_seqr 0 0 x.first))) whole (c.in_ok-outs.ensures.counted x.steps whole.counted)

pub returns-clause-now : goal.returns-clause-now
returns-clause-now c = λ p at to.
    let q : Parts = c.deref_mut-inner.result.now in
    let s : ServersState = as_told q in
    let found : c.index-packets-number.result ≡ p = packet_got c.packets.result.now c.args.self.post.packets c.args.number c.index-packets-number.result p (c.packets.ensures ∙ ap (λ (x : Parts). x.post.packets) c.deref_mut-inner.ensures.value ∙ ap (λ (x : ServersState). x.post.packets) c.self.view_is) at c.index-packets-number.is in
    seqr_took s p c.index-packets-number.result c.args.num found to (states_of c.seqr_takes.new.seqrs.items) c.in_ok-outs.outs c.seqr.result c.send_all.new.self c.in_ok-outs.ensures.now c.in_ok-outs.ensures.sends c.seqr.ensures c.in_ok-send_all.ensures
    ∙ ap (λ (x : Parts). counted (seqr_takes (as_told x) p)) c.deref_mut-inner.ensures.value ∙ ap (λ (x : ServersState). counted (seqr_takes x p)) c.self.view_is
