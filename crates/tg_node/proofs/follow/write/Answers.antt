use Rattle.std.proofs.Common.{◌≡◌, ℕ, List, refl, subst}
use Rattle.tg_io.specs.Bytes.{Takes, TakesFront}
use Rattle.tg_io.specs.Faults.{Rose}
use Rattle.tg_io.specs.declared.status.Status.TheVariants as status
use Rattle.tg_node.specs.Stages.{IsOfLine, GoesSound}
use Rattle.tg_node.specs.declared.stages.Next.{Next}
use Rattle.tg_node.specs.declared.stages.Next.TheVariants.{Ends}
use Rattle.tg_node.specs.declared.stages.Run.{Run}
use Rattle.tg_node.proofs.Following.{written_ok, by_stop}
use Rattle.tg_node.proofs.follow.write.Goals as goal

pub returns-in-Ok-clause-written : goal.returns-in-Ok-clause-written
returns-in-Ok-clause-written g c =
    let before = g.K.Sink.written c.args.sink.now in
    let now = g.K.Sink.written c.write_all.new.sink in
    written_ok c.args.id c.args.cluster c.args.event c.args.moved c.new.result before now c.args.moved.stopped c.go_on.result refl c.new.ensures c.go_on.ensures
    (subst (λ (l : List ℕ). Takes before l now) c.as_slice.ensures c.in-Ok.ensures.taken)

pub returns-in-Err-Failed-clause-written : goal.returns-in-Err-Failed-clause-written
returns-in-Err-Failed-clause-written g c = subst (λ (l : List ℕ). TakesFront (g.K.Sink.written c.args.sink.now) l (g.K.Sink.written c.write_all.new.sink)) c.as_slice.ensures c.in-Err-Failed.ensures.front

pub returns-clause-written : goal.returns-clause-written
returns-clause-written g c = subst (λ (l : List ℕ). TakesFront (g.K.Sink.written c.args.sink.now) l (g.K.Sink.written c.write_all.new.sink)) c.as_slice.ensures c.in-Err-NoMemory.ensures.front

pub returns-in-Ok-clause-sound : goal.returns-in-Ok-clause-sound
returns-in-Ok-clause-sound g c =
    let m = c.args.moved in
    let run : Run = record { id = c.args.id; cluster = c.args.cluster; lines = c.args.event; node = record { own = m.node.own; steps = m.node.steps; received = m.node.received; replies = c.new.result } } in
    by_stop m.stopped c.go_on.result run GoesSound c.go_on.ensures (record { node = c.requires.node; steps = c.requires.steps; received = c.requires.received }) (λ w. tt)

pub returns-in-Ok-clause-ways : goal.returns-in-Ok-clause-ways
returns-in-Ok-clause-ways g c =
    let m = c.args.moved in
    let run : Run = record { id = c.args.id; cluster = c.args.cluster; lines = c.args.event; node = record { own = m.node.own; steps = m.node.steps; received = m.node.received; replies = c.new.result } } in
    by_stop m.stopped c.go_on.result run IsOfLine c.go_on.ensures tt (λ w. tt)

pub returns-in-Ok-clause-write_fault : goal.returns-in-Ok-clause-write_fault
returns-in-Ok-clause-write_fault g c =
    let m = c.args.moved in
    let run : Run = record { id = c.args.id; cluster = c.args.cluster; lines = c.args.event; node = record { own = m.node.own; steps = m.node.steps; received = m.node.received; replies = c.new.result } } in
    by_stop m.stopped c.go_on.result run (λ (x : Next). x ≡ Ends status.WriteFault → Rose (g.K.Sink.faults c.args.sink.now) (g.K.Sink.faults c.write_all.new.sink)) c.go_on.ensures (λ e. absurd cc) (λ w e. absurd cc)

pub returns-in-Ok-clause-still : goal.returns-in-Ok-clause-still
returns-in-Ok-clause-still g c = λ a b. c.in-Ok.ensures.still

pub returns-in-Err-Failed-clause-still : goal.returns-in-Err-Failed-clause-still
returns-in-Err-Failed-clause-still g c = λ a b. absurd (a refl)

pub returns-clause-still : goal.returns-clause-still
returns-clause-still g c = λ a b. absurd (b refl)
