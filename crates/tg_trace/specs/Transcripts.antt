-- The text of a transcript: the objects, a line for each reply, and the history.
use Rattle.std.specs.Prelude.{ℕ, Bool, not, ◌&&◌, ◌==◌, List, [], ◌∷◌, ◌++◌, codes, length, map, option_map}
use Rattle.std.specs.List.{list_all, flat_map, slice_split}
use Rattle.std.specs.Str.{bytes_eq}
use Rattle.tg_base.specs.declared.ids.Oid.{Oid}
use Rattle.tg_base.specs.Clusters.{are_objects}
use Rattle.tg_base.specs.Units.{is_rising}
use Rattle.tg_model.specs.declared.trace.Mark.{Mark}
use Rattle.tg_model.specs.declared.history.Done.{Done}
use Rattle.tg_any.specs.declared.any.AnyOp.{AnyOp}
use Rattle.tg_any.specs.declared.any.AnyAsk.{AnyAsk}
use Rattle.tg_any.specs.declared.any.AnyAns.{AnyAns}
use Rattle.tg_any.specs.Words.{Phrase, number, index, object, one}
use Rattle.tg_trace.specs.declared.transcript.Transcript.{Transcript}
use Rattle.tg_trace.specs.Lines.{line_of, first, named, each, many}
use Rattle.tg_trace.specs.Fields.{client, any_op}
use Rattle.tg_trace.specs.Replies.{Told, what}

-- replies and transactions over all kinds
abbrev pub Reply : Type 0
Reply = Mark AnyOp AnyAsk AnyAns

abbrev pub Entry : Type 0
Entry = Done AnyOp

-- `objects ctr0 map0`, or `objects` alone where there is none
abbrev pub objects : Phrase (List Oid)
objects = named (codes "objects") (many object are_objects)

-- `8 c1 1 committed 1`: the event, the client, the number of its transaction, and what it told
abbrev pub told_by : Phrase (ℕ × (ℕ × (ℕ × Told)))
told_by = first number (first client (first index what))

abbrev pub reply_of : ℕ × (ℕ × (ℕ × Told)) → Reply
reply_of p = record { event = p.0; client = p.1.0; tx = p.1.1.0; what = p.1.1.1 }

abbrev pub reply : Phrase Reply
reply = record {
  spell = λ m. told_by.spell (m.event, (m.client, (m.tx, m.what)));
  fits = λ m. told_by.fits (m.event, (m.client, (m.tx, m.what)));
  read = λ words. option_map reply_of (told_by.read words);
}

-- `ctr0 add 5`
abbrev pub write : Phrase (Oid × AnyOp)
write = first object any_op

-- the words with a semicolon between any two of the lists
abbrev pub parted : List (List (List ℕ)) → List (List ℕ)
parted [] = []
parted (ws ∷ []) = ws
parted (ws ∷ vs ∷ us) = ws ++ codes ";" ∷ parted (vs ∷ us)

-- one or more writes
abbrev pub writes : Phrase (List (Oid × AnyOp))
writes = record {
  spell = λ ws. parted (map write.spell ws);
  fits = λ ws. not (length ws == 0) && list_all write.fits ws;
  read = λ words. each write.read (slice_split (bytes_eq (codes ";")) words);
}

-- `1 c1 1 ctr0 add 7 ; reg0 write x`: the place, the client, the number of its transaction, and the writes
abbrev pub made_by : Phrase (ℕ × (ℕ × (ℕ × List (Oid × AnyOp))))
made_by = first number (first client (first index writes))

abbrev pub entry_of : ℕ × (ℕ × (ℕ × List (Oid × AnyOp))) → Entry
entry_of p = record { stamp = p.0; client = p.1.0; number = p.1.1.0; writes = p.1.1.1 }

abbrev pub entry : Phrase Entry
entry = record {
  spell = λ d. made_by.spell (d.stamp, (d.client, (d.number, d.writes)));
  fits = λ d. made_by.fits (d.stamp, (d.client, (d.number, d.writes)));
  read = λ words. option_map entry_of (made_by.read words);
}

-- `history 2`
abbrev pub count : Phrase ℕ
count = named (codes "history") (one number)

-- the line of one value, without its line feed
abbrev pub line_by : {A : Type 0} → Phrase A → A → List ℕ
line_by phrase x = line_of (phrase.spell x)

abbrev pub stamps : List Entry → List ℕ
stamps history = map (λ (d : Entry). d.stamp) history

-- the lines of a transcript, without their line feeds
abbrev pub transcript_lines : Transcript → List (List ℕ)
transcript_lines t =
    line_by objects t.objects ∷ map (line_by reply) t.trace ++ line_by count (length t.history) ∷ map (line_by entry) t.history

-- each line with a line feed behind it
abbrev pub text_of : List (List ℕ) → List ℕ
text_of lines = flat_map (λ line. line ++ 10 ∷ []) lines

unfoldable pub rendered : Transcript → List ℕ
rendered t = text_of (transcript_lines t)

-- the line of one reply
unfoldable pub reply_text : Reply → List ℕ
reply_text m = line_by reply m ++ 10 ∷ []

-- the line of one transaction
unfoldable pub entry_text : Entry → List ℕ
entry_text d = line_by entry d ++ 10 ∷ []

-- the fields are within their types, an answer has the form of its ask's, and the places of the history rise
unfoldable pub is_transcript : Transcript → Bool
is_transcript t =
    objects.fits t.objects && list_all reply.fits t.trace && count.fits (length t.history) && list_all entry.fits t.history && is_rising (stamps t.history)
