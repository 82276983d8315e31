-- The lines of a node's replies.
use Rattle.std.specs.Prelude.{ℕ, List, map}
use Rattle.std.specs.List.{flat_map}
use Rattle.tg_model.specs.declared.trace.Note.{Note}
use Rattle.tg_any.specs.declared.any.AnyOp.{AnyOp}
use Rattle.tg_any.specs.declared.any.AnyAsk.{AnyAsk}
use Rattle.tg_any.specs.declared.any.AnyAns.{AnyAns}
use Rattle.tg_trace.specs.Transcripts.{Reply, reply_text}

abbrev pub AnyNote : Type 0
AnyNote = Note AnyOp AnyAsk AnyAns

-- the reply that a client's note makes in an event
abbrev pub reply_in : ℕ → ℕ → AnyNote → Reply
reply_in event client n = record { event = event; client = client; tx = n.tx; what = n.what }

abbrev pub replies_in : ℕ → ℕ → List AnyNote → List Reply
replies_in event client notes = map (reply_in event client) notes

-- a line for each reply
abbrev pub replies_text : List Reply → List ℕ
replies_text rs = flat_map reply_text rs
