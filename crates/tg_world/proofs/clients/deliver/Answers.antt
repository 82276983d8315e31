use Rattle.std.specs.Prelude.{slice_index_or}
use Rattle.tg_play.proofs.Means.{means}
use Rattle.tg_protocol.specs.ClientSteps.{client_deliver}
use Rattle.tg_world.proofs.Counted.{room_there}
use Rattle.tg_world.proofs.Rows.{kept_there, is_there, kept_back, length_back}
use Rattle.tg_world.proofs.clients.deliver.Goals as goal

pub deliver-requires : goal.deliver-requires
deliver-requires g c = record {
  kept = is_there (means g.K.Kind g.K.Registry) c.args.clients.now.items c.args.num c.swap_remove-client.result c.requires.within c.swap_remove-client.ensures.value c.requires.kept;
  room = room_there (means g.K.Kind g.K.Registry) c.args.clients.now.items c.args.num c.swap_remove-client.result c.requires.within c.swap_remove-client.ensures.value c.requires.room;
}

pub returns-clause-keeps : goal.returns-clause-keeps
returns-clause-keeps g c = λ cs d k.
    let m = means g.K.Kind g.K.Registry in
    let row = c.args.clients.now.items in
    kept_back m row c.swap_remove-client.new.self.items c.put_back.new.row.items cs c.args.num c.swap_remove-client.result c.in_ok-now.field-0.now (client_deliver m (slice_index_or cs c.args.num d) c.args.from c.args.rid c.args.msg.now).now c.requires.within c.swap_remove-client.ensures.items c.in_ok-put_back.ensures k
    (c.in_ok-now.ensures.now (slice_index_or cs c.args.num d) (kept_there m row cs c.args.num c.swap_remove-client.result d c.requires.within c.swap_remove-client.ensures.value k))

pub returns-clause-sends : goal.returns-clause-sends
returns-clause-sends g c = λ cs d k.
    c.in_ok-now.ensures.sends (slice_index_or cs c.args.num d)
    (kept_there (means g.K.Kind g.K.Registry) c.args.clients.now.items cs c.args.num c.swap_remove-client.result d c.requires.within c.swap_remove-client.ensures.value k)

pub returns-clause-notes : goal.returns-clause-notes
returns-clause-notes g c = λ cs d k.
    c.in_ok-now.ensures.notes (slice_index_or cs c.args.num d)
    (kept_there (means g.K.Kind g.K.Registry) c.args.clients.now.items cs c.args.num c.swap_remove-client.result d c.requires.within c.swap_remove-client.ensures.value k)

pub returns-clause-many : goal.returns-clause-many
returns-clause-many g c =
    length_back c.args.clients.now.items c.swap_remove-client.new.self.items c.put_back.new.row.items c.args.num c.swap_remove-client.result c.in_ok-now.field-0.now c.requires.within c.swap_remove-client.ensures.items c.in_ok-put_back.ensures
