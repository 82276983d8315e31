-- Texts of a run in which one client begins a transaction, and texts that say otherwise.
use Rattle.std.specs.Prelude.{◌≡◌, true, ℕ, List, [], ◌∷◌, ◌++◌, ◌^◌, map, codes, pos, Some, None}
use Rattle.tg_base.specs.Clusters.{Header}
use Rattle.tg_base.specs.declared.ids.Oid.{Oid}
use Rattle.tg_base.specs.declared.packet.Packet.{Packet}
use Rattle.tg_io.specs.Acts.{Act, Comes, Goes}
use Rattle.tg_wire.specs.Packets.{packet}
use Rattle.tg_model.specs.declared.command.Command.TheVariants as cmd
use Rattle.tg_model.specs.declared.command.Event.TheVariants as event
use Rattle.tg_protocol.specs.Worlds.{Told}
use Rattle.tg_cell.specs.declared.counter.CounterOp.TheVariants.{Add}
use Rattle.tg_any.specs.AllKinds.{all_kinds}
use Rattle.tg_any.specs.declared.any.AnyOp.{AnyOp}
use Rattle.tg_any.specs.declared.any.AnyOp.TheVariants as ops
use Rattle.tg_script.specs.Headers.{lines_text}
use Rattle.tg_script.specs.declared.line.Line.{Line}
use Rattle.tg_script.specs.declared.line.Line.TheVariants as line
use Rattle.tg_trace.specs.Transcripts.{is_transcript}
use Rattle.tg_replay.specs.Runs.{Script, Worlds, IsScript, IsWithin, world_of}
use Rattle.tg_replay.specs.Headline.{told_in}
use Rattle.tg_live.specs.Lives.{Answer, Live}
use Rattle.tg_live.specs.Sends.{carried, sending}
use Rattle.tg_live.specs.Scripts.{Over}

-- one node of each role, and a counter
abbrev pub counter : Oid
counter = record { 0 = 0x1000000 }

abbrev pub cluster : Header
cluster = record { units = 1; layouts = 1; seqs = 1; clients = 1; limit = 100; chains = (0 ∷ []) ∷ []; objects = counter ∷ [] }

abbrev pub cluster_lines : List (List ℕ)
cluster_lines = codes "cluster units 1 layouts 1 seqs 1 clients 1 limit 100" ∷ codes "chains u0" ∷ codes "objects ctr0" ∷ []

-- Replays.

-- a client begins a transaction
abbrev pub begin : Line
begin = line.Event (event.Command 0 cmd.Begin)

abbrev pub begins : Script
begins = record { header = cluster; events = begin ∷ [] }

abbrev pub script : List ℕ
script = lines_text (cluster_lines ++ codes "c0 begin" ∷ [])

-- what is told of it
abbrev pub transcript_lines : List (List ℕ)
transcript_lines = codes "objects ctr0" ∷ codes "1 c0 1 begin" ∷ codes "history 0" ∷ []

abbrev pub transcript_text : List ℕ
transcript_text = lines_text transcript_lines

-- with the reply of another transaction
abbrev pub another_reply : List ℕ
another_reply = lines_text (codes "objects ctr0" ∷ codes "1 c0 2 begin" ∷ codes "history 0" ∷ [])

abbrev pub no_reply : List ℕ
no_reply = lines_text (codes "objects ctr0" ∷ codes "history 0" ∷ [])

-- the script names a client that the header doesn't declare
abbrev pub script_of_a_stranger : List ℕ
script_of_a_stranger = lines_text (cluster_lines ++ codes "c1 begin" ∷ [])

-- under a header that is none, since the log has no position
abbrev pub begins_nowhere : Script
begins_nowhere = record { header = record cluster { limit = 0 }; events = begin ∷ [] }

-- the event of its reply has a number past all numbers of transcripts
abbrev pub told_late : Told all_kinds → Told all_kinds
told_late t = record t { mark = record t.mark { event = 2 ^ 64 } }

abbrev pub late_reply : Worlds
late_reply = record (world_of begins) { told = map told_late (world_of begins).told }

-- A transaction that commits.

-- a client adds 5 to the counter, and all packets arrive
abbrev pub five : AnyOp
five = ops.Counter (Add (pos 5))

abbrev pub adds : Script
adds = record { header = cluster; events = line.Update 0 counter five ∷ line.Drain ∷ [] }

abbrev pub adding_script : List ℕ
adding_script = lines_text (cluster_lines ++ codes "c0 update ctr0 add 5" ∷ codes "drain" ∷ [])

abbrev pub adding_replies : List (List ℕ)
adding_replies = codes "objects ctr0" ∷ codes "1 c0 1 begin" ∷ codes "1 c0 1 put ctr0 add 5" ∷ codes "1 c0 1 end" ∷ codes "2 c0 1 committed 0" ∷ []

abbrev pub adding_transcript : List ℕ
adding_transcript = lines_text (adding_replies ++ codes "history 1" ∷ codes "0 c0 1 ctr0 add 5" ∷ [])

-- another op in the history
abbrev pub another_op : List ℕ
another_op = lines_text (adding_replies ++ codes "history 1" ∷ codes "0 c0 1 ctr0 add 6" ∷ [])

abbrev pub no_history : List ℕ
no_history = lines_text (adding_replies ++ codes "history 0" ∷ [])

-- Live runs.

-- the packets are to arrive, where any is sent
abbrev pub drains : Script
drains = record { header = cluster; events = begin ∷ line.Drain ∷ [] }

abbrev pub live_script : List ℕ
live_script = lines_text (cluster_lines ++ codes "c0 begin" ∷ codes "drain" ∷ [])

-- a link that is asked once, and hands nothing over; nothing is sent
abbrev pub link : Over
link = record { handed = Some []; handed_after = Some (None ∷ []); carried = carried (Some []) (Some []); carried_after = carried (Some []) (Some (Comes None ∷ [])) }

-- the recording of the run, which has no drain, and its transcript
abbrev pub recording_text : List ℕ
recording_text = lines_text (cluster_lines ++ codes "c0 begin" ∷ codes "transcript" ∷ transcript_lines)

-- with the drain in it
abbrev pub drain_recorded : List ℕ
drain_recorded = lines_text (cluster_lines ++ codes "c0 begin" ∷ codes "drain" ∷ codes "transcript" ∷ transcript_lines)

-- a link that isn't asked
abbrev pub unasked : Over
unasked = record link { handed_after = Some []; carried_after = carried (Some []) (Some []) }

-- the live run at its end
abbrev pub lived : Live
lived = record { world = world_of begins; lines = begin ∷ []; delivered = []; received = 0; acts = Comes None ∷ [] }

-- with nothing recorded
abbrev pub unrecorded : Live
unrecorded = record lived { lines = [] }

-- The transaction that commits, live.

abbrev pub deliver : ℕ → Line
deliver i = line.Event (event.Deliver i)

-- what is recorded where each packet arrives once, in order
abbrev pub adds_recorded : Script
adds_recorded = record { header = cluster; events = line.Update 0 counter five ∷ deliver 0 ∷ deliver 1 ∷ deliver 2 ∷ deliver 3 ∷ [] }

-- its datagram comes
abbrev pub brings : Packet → Answer
brings p = Some (record { to = p.to; datagram = packet.spell p })

-- each packet is sent, and comes before the next is; and then none comes
abbrev pub by_turns : List Packet → List Act
by_turns [] = Comes None ∷ []
by_turns (p ∷ ps) = Goes (sending p) ∷ Comes (brings p) ∷ by_turns ps

-- a link that is sent the packets of that world, and hands each over, and then none
abbrev pub busy_link : Over
busy_link = record {
  handed = Some [];
  handed_after = Some (map brings (world_of adds_recorded).packets ++ None ∷ []);
  carried = carried (Some []) (Some []);
  carried_after = carried (Some (map sending (world_of adds_recorded).packets)) (Some (by_turns (world_of adds_recorded).packets));
}

abbrev pub adding_recording : List ℕ
adding_recording = lines_text (cluster_lines ++ codes "c0 update ctr0 add 5" ∷ codes "deliver 0" ∷ codes "deliver 1" ∷ codes "deliver 2" ∷ codes "deliver 3" ∷ codes "transcript"
    ∷ codes "objects ctr0" ∷ codes "1 c0 1 begin" ∷ codes "1 c0 1 put ctr0 add 5" ∷ codes "1 c0 1 end" ∷ codes "5 c0 1 committed 0" ∷ codes "history 1" ∷ codes "0 c0 1 ctr0 add 5" ∷ [])

-- The transcript of each script, however many lines it has, keeps the grammar.
abbrev pub AllTranscriptsFit : Type 0
AllTranscriptsFit = (s : Script) → IsScript s → IsWithin s → is_transcript (told_in s.header (world_of s)) ≡ true
