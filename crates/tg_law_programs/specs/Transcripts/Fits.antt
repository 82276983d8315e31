-- The world of each script keeps the grammar of transcripts.
use Rattle.std.specs.Prelude.{◌≡◌, ◌≢◌, ℕ, ◌<◌, ◌^◌, Bool, true, ◌&&◌, [], length, Contains}
use Rattle.std.specs.List.{list_all}
use Rattle.tg_base.specs.Clusters.{Header}
use Rattle.tg_base.specs.Units.{is_rising}
use Rattle.tg_base.specs.declared.msg.Msg.TheVariants as msg
use Rattle.tg_base.specs.declared.packet.Packet.{Packet}
use Rattle.tg_model.specs.declared.trace.What.TheVariants as told
use Rattle.tg_model.specs.Kinds.{WhatOf}
use Rattle.tg_model.specs.Traces.{puts_of}
use Rattle.tg_protocol.specs.Words.{seqr_id}
use Rattle.tg_protocol.specs.Worlds.{World, Told, trace, history}
use Rattle.tg_protocol.specs.Runs.{Moves, Reaches}
use Rattle.tg_any.specs.AllKinds.{all_kinds}
use Rattle.tg_any.specs.Words.{number, index}
use Rattle.tg_trace.specs.Fields.{client}
use Rattle.tg_trace.specs.Replies.{what_fits}
use Rattle.tg_trace.specs.Transcripts.{Reply, objects, count, entry, stamps, is_transcript}
use Rattle.tg_replay.specs.Headline.{told_in}
use Rattle.tg_replay.specs.Runs.{Script, IsScript, world_of}

-- the numbers of a reply's event, its client and its transaction are within their types
abbrev pub is_numbered : Reply → Bool
is_numbered m = number.fits m.event && (client.fits m.client && index.fits m.tx)

abbrev pub EachIsNumbered : Type 0
EachIsNumbered = (s : Script) → IsScript s → length s.events < 2 ^ 64 → list_all is_numbered (trace all_kinds (world_of s)) ≡ true

-- the objects and the transactions of a world are within their types, and the stamps of these rise
abbrev pub is_history : Header → World all_kinds → Bool
is_history h w = objects.fits h.objects && count.fits (length (history all_kinds w)) && list_all entry.fits (history all_kinds w) && is_rising (stamps (history all_kinds w))

abbrev pub EachHistoryFits : Type 0
EachHistoryFits = (h : Header) (ms : Moves all_kinds) (w : World all_kinds) → Reaches all_kinds h ms w → is_history h w ≡ true

-- a commit record with writes, an aborted or unsure one, or a checkpoint stands below the header's limit, where a reply tells of it
abbrev pub TellsBelow : World all_kinds → ℕ → ℕ → WhatOf all_kinds → Type 0
TellsBelow w k x (told.Committed p) = puts_of all_kinds (trace all_kinds w) k x ≢ [] → p < w.cluster.limit
TellsBelow w k x (told.Aborted p o part seen now) = p < w.cluster.limit
TellsBelow w k x (told.Unsure p q) = p < w.cluster.limit
TellsBelow w k x (told.Saved o p u) = p < w.cluster.limit
TellsBelow w k x what = Unit {0}

abbrev pub EachTellsBelow : Type 0
EachTellsBelow = (h : Header) (ms : Moves all_kinds) (w : World all_kinds) → Reaches all_kinds h ms w → (t : Told all_kinds) → Contains w.told t → TellsBelow w t.mark.client t.mark.tx t.mark.what

-- a sequencer that says that the log is full tells the header's limit
abbrev pub EachFullTells : Type 0
EachFullTells = (h : Header) (ms : Moves all_kinds) (w : World all_kinds) → Reaches all_kinds h ms w → (s : ℕ) (a : Packet) (l : ℕ) → Contains w.packets a → a.from ≡ seqr_id s → a.msg ≡ msg.Full l → l ≡ w.cluster.limit

-- what each reply tells is within its type
abbrev pub tells_within : Reply → Bool
tells_within m = what_fits m.what

abbrev pub EachTells : Type 0
EachTells = (s : Script) → IsScript s → list_all tells_within (trace all_kinds (world_of s)) ≡ true

-- so the whole is a transcript, whether a limit stops the script or not
abbrev pub EachFits : Type 0
EachFits = (s : Script) → IsScript s → length s.events < 2 ^ 64 → is_transcript (told_in s.header (world_of s)) ≡ true
