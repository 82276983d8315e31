-- The types of commands, replies and history by what a kind means.
use Rattle.tg_kind.specs.Meaning.{Meaning}
use Rattle.tg_model.specs.declared.command.Command.{Command}
use Rattle.tg_model.specs.declared.command.Event.{Event}
use Rattle.tg_model.specs.declared.trace.What.{What}
use Rattle.tg_model.specs.declared.trace.Note.{Note}
use Rattle.tg_model.specs.declared.trace.Mark.{Mark}
use Rattle.tg_model.specs.declared.history.Done.{Done}

abbrev pub CommandOf : Meaning → Type 0
CommandOf m = Command m.op m.ask

abbrev pub EventOf : Meaning → Type 0
EventOf m = Event m.op m.ask

abbrev pub WhatOf : Meaning → Type 0
WhatOf m = What m.op m.ask m.answer

abbrev pub NoteOf : Meaning → Type 0
NoteOf m = Note m.op m.ask m.answer

abbrev pub MarkOf : Meaning → Type 0
MarkOf m = Mark m.op m.ask m.answer

abbrev pub DoneOf : Meaning → Type 0
DoneOf m = Done m.op
