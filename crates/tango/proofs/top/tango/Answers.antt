use Rattle.std.proofs.Common.{◌≡◌, ◌⊎◌, ℕ, Some, map, string_bytes, IfSome}
use Rattle.tg_base.specs.declared.fault.Which.{Which}
use Rattle.tg_io.specs.Bytes.{Takes}
use Rattle.tg_io.specs.Faults.{Rose}
use Rattle.tg_io.specs.declared.status.Status.TheVariants.{Done, Script, ReadFault, WriteFault, LinkFault, Limit, NoMemory}
use Rattle.tg_replay.specs.Runs.{IsWithin, run_of}
use Rattle.tg_bench.specs.Loads.{load, summary, IsFront}
use Rattle.tg_node.specs.Stages.{seen}
use Rattle.tg_lines.specs.Feeds.{NoneOutside}
use Rattle.tg_lines.specs.Lines.{lines}
use Rattle.tg_node.specs.Texts.{Told, Followed, FirstOutside, Refused, PassesLimit, IsWithin as WithNoLimit, Limited, IsCutBetween, IsCutInLine, IsCutInReplies, IsCutShort, IsText, IsOrStops}
use Rattle.tango.proofs.Holding.{replayed_truly, refused_truly, limited_truly, lived_truly, live_refused_truly, live_limited_truly}
use Rattle.tango.proofs.Holding.{replayed_legally, refused_legally, limited_legally, lived_legally, live_refused_legally, live_limited_legally}
use Rattle.tg_law_programs.specs.Headline.Headline.{ScriptHolds}
use Rattle.tg_live.specs.Sends.{carried}
use Rattle.tg_live.specs.Stages.{over}
use Rattle.tango.proofs.Lawful.{legal_told, illegal_told}
use Rattle.tango.proofs.Loads.{moved}
use Rattle.tango.proofs.Nodes.{moved as moved_node}
use Rattle.tango.proofs.top.tango.Goals as goal

pub returns-in-Ok-Some-Bench-clause-load_done : goal.returns-in-Ok-Some-Bench-clause-load_done
returns-in-Ok-Some-Bench-clause-load_done g c = λ start count named. moved (map string_bytes c.args.words.now) c.in-Ok-Some-Bench.field-0 c.in-Ok-Some-Bench.field-0-0 c.in-Ok-Some-Bench.start c.in-Ok-Some-Bench.count start count
    (λ s n. c.bench.result ≡ Done → IsWithin (load s n) × Takes (g.K.Sink.written c.args.sink.now) (summary (load s n)) (g.K.Sink.written c.bench.new.sink))
    c.in-Ok-Some-Bench.ensures c.in-Ok-Some-Bench.field-0-is c.in-Ok-Some-Bench.field-0-0-is named c.bench.ensures.done

pub returns-in-Ok-Some-Bench-clause-load_limit : goal.returns-in-Ok-Some-Bench-clause-load_limit
returns-in-Ok-Some-Bench-clause-load_limit g c = λ start count named. moved (map string_bytes c.args.words.now) c.in-Ok-Some-Bench.field-0 c.in-Ok-Some-Bench.field-0-0 c.in-Ok-Some-Bench.start c.in-Ok-Some-Bench.count start count
    (λ s n. (which : Which) → c.bench.result ≡ Limit which → ((run_of (load s n)).stopped ≡ Some which) × Takes (g.K.Sink.written c.args.sink.now) (summary (load s n)) (g.K.Sink.written c.bench.new.sink))
    c.in-Ok-Some-Bench.ensures c.in-Ok-Some-Bench.field-0-is c.in-Ok-Some-Bench.field-0-0-is named c.bench.ensures.limit

pub returns-in-Ok-Some-Bench-clause-load_cut_short : goal.returns-in-Ok-Some-Bench-clause-load_cut_short
returns-in-Ok-Some-Bench-clause-load_cut_short g c = λ start count named. moved (map string_bytes c.args.words.now) c.in-Ok-Some-Bench.field-0 c.in-Ok-Some-Bench.field-0-0 c.in-Ok-Some-Bench.start c.in-Ok-Some-Bench.count start count
    (λ s n. (c.bench.result ≡ WriteFault) ⊎ (c.bench.result ≡ NoMemory) → IsFront (load s n) (g.K.Sink.written c.args.sink.now) (g.K.Sink.written c.bench.new.sink))
    c.in-Ok-Some-Bench.ensures c.in-Ok-Some-Bench.field-0-is c.in-Ok-Some-Bench.field-0-0-is named c.bench.ensures.cut_short

pub returns-in-Ok-Some-Bench-clause-load_complete : goal.returns-in-Ok-Some-Bench-clause-load_complete
returns-in-Ok-Some-Bench-clause-load_complete g c = λ start count named. moved (map string_bytes c.args.words.now) c.in-Ok-Some-Bench.field-0 c.in-Ok-Some-Bench.field-0-0 c.in-Ok-Some-Bench.start c.in-Ok-Some-Bench.count start count
    (λ s n. (Rose (g.K.Sink.faults c.args.sink.now) (g.K.Sink.faults c.bench.new.sink) → ⊥) → IsWithin (load s n) → (c.bench.result ≡ Done) ⊎ (c.bench.result ≡ NoMemory))
    c.in-Ok-Some-Bench.ensures c.in-Ok-Some-Bench.field-0-is c.in-Ok-Some-Bench.field-0-0-is named c.bench.ensures.complete

pub returns-in-Ok-Some-Bench-clause-load_limits : goal.returns-in-Ok-Some-Bench-clause-load_limits
returns-in-Ok-Some-Bench-clause-load_limits g c = λ start count named. moved (map string_bytes c.args.words.now) c.in-Ok-Some-Bench.field-0 c.in-Ok-Some-Bench.field-0-0 c.in-Ok-Some-Bench.start c.in-Ok-Some-Bench.count start count
    (λ s n. (Rose (g.K.Sink.faults c.args.sink.now) (g.K.Sink.faults c.bench.new.sink) → ⊥) → (which : Which) → (run_of (load s n)).stopped ≡ Some which → (c.bench.result ≡ Limit which) ⊎ (c.bench.result ≡ NoMemory))
    c.in-Ok-Some-Bench.ensures c.in-Ok-Some-Bench.field-0-is c.in-Ok-Some-Bench.field-0-0-is named c.bench.ensures.limits

pub returns-in-Ok-Some-Node-clause-node_done : goal.returns-in-Ok-Some-Node-clause-node_done
returns-in-Ok-Some-Node-clause-node_done g c = λ id named. moved_node (map string_bytes c.args.words.now) c.in-Ok-Some-Node.field-0 c.in-Ok-Some-Node.field-0-0 c.in-Ok-Some-Node.id id
    (λ n. c.node.result ≡ Done → Told (g.S.Source.left c.args.source.now) (λ text. Followed text n (seen (g.L.Link.sent c.args.link.now) (g.L.Link.handed c.args.link.now) (g.L.Link.acts c.args.link.now) (g.K.Sink.written c.args.sink.now)) (seen (g.L.Link.sent c.node.new.link) (g.L.Link.handed c.node.new.link) (g.L.Link.acts c.node.new.link) (g.K.Sink.written c.node.new.sink))))
    c.in-Ok-Some-Node.ensures c.in-Ok-Some-Node.field-0-is c.in-Ok-Some-Node.field-0-0-is named c.node.ensures.done

pub returns-in-Ok-Some-Node-clause-node_script : goal.returns-in-Ok-Some-Node-clause-node_script
returns-in-Ok-Some-Node-clause-node_script g c = λ id named. moved_node (map string_bytes c.args.words.now) c.in-Ok-Some-Node.field-0 c.in-Ok-Some-Node.field-0-0 c.in-Ok-Some-Node.id id
    (λ n. (line : ℕ) → c.node.result ≡ Script line → Told (g.S.Source.left c.args.source.now) (λ text. Refused text n line (seen (g.L.Link.sent c.args.link.now) (g.L.Link.handed c.args.link.now) (g.L.Link.acts c.args.link.now) (g.K.Sink.written c.args.sink.now)) (seen (g.L.Link.sent c.node.new.link) (g.L.Link.handed c.node.new.link) (g.L.Link.acts c.node.new.link) (g.K.Sink.written c.node.new.sink))))
    c.in-Ok-Some-Node.ensures c.in-Ok-Some-Node.field-0-is c.in-Ok-Some-Node.field-0-0-is named c.node.ensures.script

pub returns-in-Ok-Some-Node-clause-node_limit : goal.returns-in-Ok-Some-Node-clause-node_limit
returns-in-Ok-Some-Node-clause-node_limit g c = λ id named. moved_node (map string_bytes c.args.words.now) c.in-Ok-Some-Node.field-0 c.in-Ok-Some-Node.field-0-0 c.in-Ok-Some-Node.id id
    (λ n. (which : Which) → c.node.result ≡ Limit which → Told (g.S.Source.left c.args.source.now) (λ text. Limited text n which (seen (g.L.Link.sent c.args.link.now) (g.L.Link.handed c.args.link.now) (g.L.Link.acts c.args.link.now) (g.K.Sink.written c.args.sink.now)) (seen (g.L.Link.sent c.node.new.link) (g.L.Link.handed c.node.new.link) (g.L.Link.acts c.node.new.link) (g.K.Sink.written c.node.new.sink))))
    c.in-Ok-Some-Node.ensures c.in-Ok-Some-Node.field-0-is c.in-Ok-Some-Node.field-0-0-is named c.node.ensures.limit

pub returns-in-Ok-Some-Node-clause-node_read_cut : goal.returns-in-Ok-Some-Node-clause-node_read_cut
returns-in-Ok-Some-Node-clause-node_read_cut g c = λ id named. moved_node (map string_bytes c.args.words.now) c.in-Ok-Some-Node.field-0 c.in-Ok-Some-Node.field-0-0 c.in-Ok-Some-Node.id id
    (λ n. c.node.result ≡ ReadFault → Told (g.S.Source.left c.args.source.now) (λ text. IsCutBetween text n (seen (g.L.Link.sent c.args.link.now) (g.L.Link.handed c.args.link.now) (g.L.Link.acts c.args.link.now) (g.K.Sink.written c.args.sink.now)) (seen (g.L.Link.sent c.node.new.link) (g.L.Link.handed c.node.new.link) (g.L.Link.acts c.node.new.link) (g.K.Sink.written c.node.new.sink))))
    c.in-Ok-Some-Node.ensures c.in-Ok-Some-Node.field-0-is c.in-Ok-Some-Node.field-0-0-is named c.node.ensures.read_cut

pub returns-in-Ok-Some-Node-clause-node_write_cut : goal.returns-in-Ok-Some-Node-clause-node_write_cut
returns-in-Ok-Some-Node-clause-node_write_cut g c = λ id named. moved_node (map string_bytes c.args.words.now) c.in-Ok-Some-Node.field-0 c.in-Ok-Some-Node.field-0-0 c.in-Ok-Some-Node.id id
    (λ n. c.node.result ≡ WriteFault → Told (g.S.Source.left c.args.source.now) (λ text. IsCutInReplies text n (seen (g.L.Link.sent c.args.link.now) (g.L.Link.handed c.args.link.now) (g.L.Link.acts c.args.link.now) (g.K.Sink.written c.args.sink.now)) (seen (g.L.Link.sent c.node.new.link) (g.L.Link.handed c.node.new.link) (g.L.Link.acts c.node.new.link) (g.K.Sink.written c.node.new.sink))))
    c.in-Ok-Some-Node.ensures c.in-Ok-Some-Node.field-0-is c.in-Ok-Some-Node.field-0-0-is named c.node.ensures.write_cut

pub returns-in-Ok-Some-Node-clause-node_link_cut : goal.returns-in-Ok-Some-Node-clause-node_link_cut
returns-in-Ok-Some-Node-clause-node_link_cut g c = λ id named. moved_node (map string_bytes c.args.words.now) c.in-Ok-Some-Node.field-0 c.in-Ok-Some-Node.field-0-0 c.in-Ok-Some-Node.id id
    (λ n. c.node.result ≡ LinkFault → Told (g.S.Source.left c.args.source.now) (λ text. IsCutInLine text n (seen (g.L.Link.sent c.args.link.now) (g.L.Link.handed c.args.link.now) (g.L.Link.acts c.args.link.now) (g.K.Sink.written c.args.sink.now)) (seen (g.L.Link.sent c.node.new.link) (g.L.Link.handed c.node.new.link) (g.L.Link.acts c.node.new.link) (g.K.Sink.written c.node.new.sink))))
    c.in-Ok-Some-Node.ensures c.in-Ok-Some-Node.field-0-is c.in-Ok-Some-Node.field-0-0-is named c.node.ensures.link_cut

pub returns-in-Ok-Some-Node-clause-node_memory_cut : goal.returns-in-Ok-Some-Node-clause-node_memory_cut
returns-in-Ok-Some-Node-clause-node_memory_cut g c = λ id named. moved_node (map string_bytes c.args.words.now) c.in-Ok-Some-Node.field-0 c.in-Ok-Some-Node.field-0-0 c.in-Ok-Some-Node.id id
    (λ n. c.node.result ≡ NoMemory → Told (g.S.Source.left c.args.source.now) (λ text. IsCutShort text n (seen (g.L.Link.sent c.args.link.now) (g.L.Link.handed c.args.link.now) (g.L.Link.acts c.args.link.now) (g.K.Sink.written c.args.sink.now)) (seen (g.L.Link.sent c.node.new.link) (g.L.Link.handed c.node.new.link) (g.L.Link.acts c.node.new.link) (g.K.Sink.written c.node.new.sink))))
    c.in-Ok-Some-Node.ensures c.in-Ok-Some-Node.field-0-is c.in-Ok-Some-Node.field-0-0-is named c.node.ensures.memory_cut

pub returns-in-Ok-Some-Node-clause-node_complete : goal.returns-in-Ok-Some-Node-clause-node_complete
returns-in-Ok-Some-Node-clause-node_complete g c = λ id named. moved_node (map string_bytes c.args.words.now) c.in-Ok-Some-Node.field-0 c.in-Ok-Some-Node.field-0-0 c.in-Ok-Some-Node.id id
    (λ n. (Rose (g.S.Source.faults c.args.source.now) (g.S.Source.faults c.node.new.source) → ⊥) → (Rose (g.K.Sink.faults c.args.sink.now) (g.K.Sink.faults c.node.new.sink) → ⊥) → (Rose (g.L.Link.faults c.args.link.now) (g.L.Link.faults c.node.new.link) → ⊥) → Told (g.S.Source.left c.args.source.now) (λ text. IsText text n → WithNoLimit text n (g.L.Link.handed c.args.link.now) (g.L.Link.handed c.node.new.link) → (c.node.result ≡ Done) ⊎ (c.node.result ≡ NoMemory)))
    c.in-Ok-Some-Node.ensures c.in-Ok-Some-Node.field-0-is c.in-Ok-Some-Node.field-0-0-is named c.node.ensures.complete

pub returns-in-Ok-Some-Node-clause-node_refuses : goal.returns-in-Ok-Some-Node-clause-node_refuses
returns-in-Ok-Some-Node-clause-node_refuses g c = λ id named. moved_node (map string_bytes c.args.words.now) c.in-Ok-Some-Node.field-0 c.in-Ok-Some-Node.field-0-0 c.in-Ok-Some-Node.id id
    (λ n. (Rose (g.S.Source.faults c.args.source.now) (g.S.Source.faults c.node.new.source) → ⊥) → (Rose (g.K.Sink.faults c.args.sink.now) (g.K.Sink.faults c.node.new.sink) → ⊥) → (Rose (g.L.Link.faults c.args.link.now) (g.L.Link.faults c.node.new.link) → ⊥) → Told (g.S.Source.left c.args.source.now) (λ text. (line : ℕ) → FirstOutside (lines text) n line → WithNoLimit text n (g.L.Link.handed c.args.link.now) (g.L.Link.handed c.node.new.link) → (c.node.result ≡ Script line) ⊎ (c.node.result ≡ NoMemory)))
    c.in-Ok-Some-Node.ensures c.in-Ok-Some-Node.field-0-is c.in-Ok-Some-Node.field-0-0-is named c.node.ensures.refuses

pub returns-in-Ok-Some-Node-clause-node_limits : goal.returns-in-Ok-Some-Node-clause-node_limits
returns-in-Ok-Some-Node-clause-node_limits g c = λ id named. moved_node (map string_bytes c.args.words.now) c.in-Ok-Some-Node.field-0 c.in-Ok-Some-Node.field-0-0 c.in-Ok-Some-Node.id id
    (λ n. (Rose (g.S.Source.faults c.args.source.now) (g.S.Source.faults c.node.new.source) → ⊥) → (Rose (g.K.Sink.faults c.args.sink.now) (g.K.Sink.faults c.node.new.sink) → ⊥) → (Rose (g.L.Link.faults c.args.link.now) (g.L.Link.faults c.node.new.link) → ⊥) → Told (g.S.Source.left c.args.source.now) (λ text. IfSome (g.L.Link.handed c.args.link.now) (λ handed. (which : Which) → PassesLimit text n which (g.L.Link.handed c.args.link.now) (g.L.Link.handed c.node.new.link) → (c.node.result ≡ Limit which) ⊎ (c.node.result ≡ NoMemory))))
    c.in-Ok-Some-Node.ensures c.in-Ok-Some-Node.field-0-is c.in-Ok-Some-Node.field-0-0-is named c.node.ensures.limits

pub returns-in-Ok-Some-Audit-clause-lawful : goal.returns-in-Ok-Some-Audit-clause-lawful
returns-in-Ok-Some-Audit-clause-lawful g c = λ named done.
    legal_told c.verdicts_are_true.ensures (g.S.Source.left c.args.source.now) (g.K.Sink.written c.args.sink.now) (g.K.Sink.written c.judge.new.sink) (c.judge.ensures.done done)

pub returns-in-Ok-Some-Audit-clause-unlawful : goal.returns-in-Ok-Some-Audit-clause-unlawful
returns-in-Ok-Some-Audit-clause-unlawful g c = λ named line clause is.
    illegal_told c.verdicts_are_true.ensures (g.S.Source.left c.args.source.now) (g.K.Sink.written c.args.sink.now) (g.K.Sink.written c.judge.new.sink) line clause (c.judge.ensures.illegal line clause is)

pub returns-in-Ok-Some-Node-clause-node_ends : goal.returns-in-Ok-Some-Node-clause-node_ends
returns-in-Ok-Some-Node-clause-node_ends g c = λ id named. moved_node (map string_bytes c.args.words.now) c.in-Ok-Some-Node.field-0 c.in-Ok-Some-Node.field-0-0 c.in-Ok-Some-Node.id id
    (λ n. (Rose (g.S.Source.faults c.args.source.now) (g.S.Source.faults c.node.new.source) → ⊥) → (Rose (g.K.Sink.faults c.args.sink.now) (g.K.Sink.faults c.node.new.sink) → ⊥) → (Rose (g.L.Link.faults c.args.link.now) (g.L.Link.faults c.node.new.link) → ⊥) →
    Told (g.S.Source.left c.args.source.now) (λ text. IsText text n → IsOrStops c.node.result Done))
    c.in-Ok-Some-Node.ensures c.in-Ok-Some-Node.field-0-is c.in-Ok-Some-Node.field-0-0-is named c.node.ensures.ends

pub returns-in-Ok-Some-Node-clause-node_refuses_or_ends : goal.returns-in-Ok-Some-Node-clause-node_refuses_or_ends
returns-in-Ok-Some-Node-clause-node_refuses_or_ends g c = λ id named. moved_node (map string_bytes c.args.words.now) c.in-Ok-Some-Node.field-0 c.in-Ok-Some-Node.field-0-0 c.in-Ok-Some-Node.id id
    (λ n. (Rose (g.S.Source.faults c.args.source.now) (g.S.Source.faults c.node.new.source) → ⊥) → (Rose (g.K.Sink.faults c.args.sink.now) (g.K.Sink.faults c.node.new.sink) → ⊥) → (Rose (g.L.Link.faults c.args.link.now) (g.L.Link.faults c.node.new.link) → ⊥) →
    Told (g.S.Source.left c.args.source.now) (λ text. (line : ℕ) → FirstOutside (lines text) n line → IsOrStops c.node.result (Script line)))
    c.in-Ok-Some-Node.ensures c.in-Ok-Some-Node.field-0-is c.in-Ok-Some-Node.field-0-0-is named c.node.ensures.refuses_or_ends

pub returns-in-Ok-Some-Node-clause-node_first : goal.returns-in-Ok-Some-Node-clause-node_first
returns-in-Ok-Some-Node-clause-node_first g c = λ id named. moved_node (map string_bytes c.args.words.now) c.in-Ok-Some-Node.field-0 c.in-Ok-Some-Node.field-0-0 c.in-Ok-Some-Node.id id
    (λ n. c.node.result ≡ ReadFault → Told (g.S.Source.left c.args.source.now) (λ text. NoneOutside text (g.S.Source.left c.node.new.source) (FirstOutside (lines text) n)))
    c.in-Ok-Some-Node.ensures c.in-Ok-Some-Node.field-0-is c.in-Ok-Some-Node.field-0-0-is named c.node.ensures.first

pub returns-in-Ok-Some-Replay-clause-done_truly : goal.returns-in-Ok-Some-Replay-clause-done_truly
returns-in-Ok-Some-Replay-clause-done_truly g c = λ named done.
    replayed_truly c.scripts_hold.ensures (g.S.Source.left c.args.source.now) (g.K.Sink.written c.args.sink.now) (g.K.Sink.written c.replay.new.sink) (c.replay.ensures.done done)

pub returns-in-Ok-Some-Replay-clause-script_truly : goal.returns-in-Ok-Some-Replay-clause-script_truly
returns-in-Ok-Some-Replay-clause-script_truly g c = λ named line is.
    refused_truly c.scripts_hold.ensures (g.S.Source.left c.args.source.now) (g.K.Sink.written c.args.sink.now) (g.K.Sink.written c.replay.new.sink) line (c.replay.ensures.script line is)

pub returns-in-Ok-Some-Replay-clause-limit_truly : goal.returns-in-Ok-Some-Replay-clause-limit_truly
returns-in-Ok-Some-Replay-clause-limit_truly g c = λ named which is.
    limited_truly c.scripts_hold.ensures (g.S.Source.left c.args.source.now) (g.K.Sink.written c.args.sink.now) (g.K.Sink.written c.replay.new.sink) which (c.replay.ensures.limit which is)

pub returns-in-Ok-Some-Live-clause-live_done_truly : goal.returns-in-Ok-Some-Live-clause-live_done_truly
returns-in-Ok-Some-Live-clause-live_done_truly g c = λ named done.
    lived_truly c.lives_hold.ensures (over (g.L.Link.handed c.args.link.now) (g.L.Link.handed c.run.new.link) (carried (g.L.Link.sent c.args.link.now) (g.L.Link.acts c.args.link.now)) (carried (g.L.Link.sent c.run.new.link) (g.L.Link.acts c.run.new.link))) (g.S.Source.left c.args.source.now) (g.K.Sink.written c.args.sink.now) (g.K.Sink.written c.run.new.sink) (c.run.ensures.done done)

pub returns-in-Ok-Some-Live-clause-live_script_truly : goal.returns-in-Ok-Some-Live-clause-live_script_truly
returns-in-Ok-Some-Live-clause-live_script_truly g c = λ named line is.
    live_refused_truly c.lives_hold.ensures (over (g.L.Link.handed c.args.link.now) (g.L.Link.handed c.run.new.link) (carried (g.L.Link.sent c.args.link.now) (g.L.Link.acts c.args.link.now)) (carried (g.L.Link.sent c.run.new.link) (g.L.Link.acts c.run.new.link))) (g.S.Source.left c.args.source.now) (g.K.Sink.written c.args.sink.now) (g.K.Sink.written c.run.new.sink) line (c.run.ensures.script line is)

pub returns-in-Ok-Some-Live-clause-live_limit_truly : goal.returns-in-Ok-Some-Live-clause-live_limit_truly
returns-in-Ok-Some-Live-clause-live_limit_truly g c = λ named which is.
    live_limited_truly c.lives_hold.ensures (over (g.L.Link.handed c.args.link.now) (g.L.Link.handed c.run.new.link) (carried (g.L.Link.sent c.args.link.now) (g.L.Link.acts c.args.link.now)) (carried (g.L.Link.sent c.run.new.link) (g.L.Link.acts c.run.new.link))) (g.S.Source.left c.args.source.now) (g.K.Sink.written c.args.sink.now) (g.K.Sink.written c.run.new.sink) which (c.run.ensures.limit which is)

pub returns-in-Ok-Some-Node-clause-nodes_truly : goal.returns-in-Ok-Some-Node-clause-nodes_truly
returns-in-Ok-Some-Node-clause-nodes_truly g c = λ id named came. c.nodes_hold.ensures

pub returns-in-Ok-Some-Bench-clause-load_truly : goal.returns-in-Ok-Some-Bench-clause-load_truly
returns-in-Ok-Some-Bench-clause-load_truly g c = λ start count named came. moved (map string_bytes c.args.words.now) c.in-Ok-Some-Bench.field-0 c.in-Ok-Some-Bench.field-0-0 c.in-Ok-Some-Bench.start c.in-Ok-Some-Bench.count start count
    (λ s n. ScriptHolds (load s n)) c.in-Ok-Some-Bench.ensures c.in-Ok-Some-Bench.field-0-is c.in-Ok-Some-Bench.field-0-0-is named
    (c.scripts_hold-in-Ok-Some-Bench.ensures (load c.in-Ok-Some-Bench.start c.in-Ok-Some-Bench.count) c.bench.ensures.load.0)

pub returns-in-Ok-Some-Replay-clause-done_legally : goal.returns-in-Ok-Some-Replay-clause-done_legally
returns-in-Ok-Some-Replay-clause-done_legally g c = λ named done.
    replayed_legally c.transcripts_fit.ensures.each c.audits_say_legal.ensures (g.S.Source.left c.args.source.now) (g.K.Sink.written c.args.sink.now) (g.K.Sink.written c.replay.new.sink) (c.replay.ensures.done done)

pub returns-in-Ok-Some-Live-clause-live_done_legally : goal.returns-in-Ok-Some-Live-clause-live_done_legally
returns-in-Ok-Some-Live-clause-live_done_legally g c = λ named done.
    lived_legally c.live_audits_say_legal.ensures (over (g.L.Link.handed c.args.link.now) (g.L.Link.handed c.run.new.link) (carried (g.L.Link.sent c.args.link.now) (g.L.Link.acts c.args.link.now)) (carried (g.L.Link.sent c.run.new.link) (g.L.Link.acts c.run.new.link))) (g.S.Source.left c.args.source.now) (g.K.Sink.written c.args.sink.now) (g.K.Sink.written c.run.new.sink) (c.run.ensures.done done)

pub returns-in-Ok-Some-Replay-clause-script_legally : goal.returns-in-Ok-Some-Replay-clause-script_legally
returns-in-Ok-Some-Replay-clause-script_legally g c = λ named line is.
    refused_legally c.transcripts_fit.ensures.each c.audits_say_legal.ensures (g.S.Source.left c.args.source.now) (g.K.Sink.written c.args.sink.now) (g.K.Sink.written c.replay.new.sink) line (c.replay.ensures.script line is)

pub returns-in-Ok-Some-Live-clause-live_script_legally : goal.returns-in-Ok-Some-Live-clause-live_script_legally
returns-in-Ok-Some-Live-clause-live_script_legally g c = λ named line is.
    live_refused_legally c.live_audits_say_legal.ensures (over (g.L.Link.handed c.args.link.now) (g.L.Link.handed c.run.new.link) (carried (g.L.Link.sent c.args.link.now) (g.L.Link.acts c.args.link.now)) (carried (g.L.Link.sent c.run.new.link) (g.L.Link.acts c.run.new.link))) (g.S.Source.left c.args.source.now) (g.K.Sink.written c.args.sink.now) (g.K.Sink.written c.run.new.sink) line (c.run.ensures.script line is)

pub returns-in-Ok-Some-Replay-clause-limit_legally : goal.returns-in-Ok-Some-Replay-clause-limit_legally
returns-in-Ok-Some-Replay-clause-limit_legally g c = λ named which is.
    limited_legally c.transcripts_fit.ensures.each c.audits_say_legal.ensures (g.S.Source.left c.args.source.now) (g.K.Sink.written c.args.sink.now) (g.K.Sink.written c.replay.new.sink) which (c.replay.ensures.limit which is)

pub returns-in-Ok-Some-Live-clause-live_limit_legally : goal.returns-in-Ok-Some-Live-clause-live_limit_legally
returns-in-Ok-Some-Live-clause-live_limit_legally g c = λ named which is.
    live_limited_legally c.live_audits_say_legal.ensures (over (g.L.Link.handed c.args.link.now) (g.L.Link.handed c.run.new.link) (carried (g.L.Link.sent c.args.link.now) (g.L.Link.acts c.args.link.now)) (carried (g.L.Link.sent c.run.new.link) (g.L.Link.acts c.run.new.link))) (g.S.Source.left c.args.source.now) (g.K.Sink.written c.args.sink.now) (g.K.Sink.written c.run.new.sink) which (c.run.ensures.limit which is)
