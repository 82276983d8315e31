-- Worlds in which one reply, or one fact, was changed.
use Rattle.std.specs.Prelude.{ℕ, zero, suc, ◌+◌, ◌-◌, ◌==◌, List, [], ◌∷◌, ◌++◌, map, length, slice_set, not, Option, Some, None, if◌then◌else◌, pos, Bool, true, false}
use Rattle.tg_base.specs.declared.packet.Packet.{Packet}
use Rattle.tg_base.specs.declared.msg.Msg.{Msg}
use Rattle.tg_base.specs.declared.msg.Msg.TheVariants as msg
use Rattle.tg_model.specs.declared.refusal.Refusal.TheVariants as cause
use Rattle.tg_model.specs.declared.trace.What.TheVariants as told
use Rattle.tg_base.specs.Changes.{Changed}
use Rattle.tg_model.specs.Kinds.{CommandOf, WhatOf}
use Rattle.tg_base.specs.declared.cell.Cell.{Cell}
use Rattle.tg_base.specs.declared.cell.Cell.TheVariants.{Junk, Data}
use Rattle.tg_protocol.specs.Views.{view_start, fresh_base}
use Rattle.tg_protocol.specs.Words.{cell_at, client_id, unit_id, directory}
use Rattle.tg_protocol.specs.Units.{UnitState}
use Rattle.tg_protocol.specs.Clients.{Purpose, Decides, Task, Appending, Hand, Doing, Learning, Work, Client}
use Rattle.tg_protocol.specs.ClientSteps.{new_work}
use Rattle.tg_entry.specs.declared.entry.Body.{Body}
use Rattle.tg_entry.specs.declared.entry.Body.TheVariants.{Decision}
use Rattle.tg_entry.specs.declared.entry.Entry.{Entry}
use Rattle.tg_protocol.specs.Pages.{entry_of}
use Rattle.tg_protocol.specs.Worlds.{Told, unit, client, log}
use Rattle.tg_law_examples.proofs.SevenKinds.{kinds}
use Rattle.tg_law_examples.proofs.SevenKinds as kind
use Rattle.tg_law_instances.proofs.Tests.{W}

-- a wrong reply in place of a right one
abbrev pub wrong : WhatOf kinds → WhatOf kinds
wrong (told.Asked o q t (kind.Signed x)) = told.Asked o q t (kind.Signed (pos 77))
wrong (told.Past o q t (kind.Signed x)) = told.Past o q t (kind.Signed (pos 77))
wrong (told.Committed p) = told.Committed (p + 1)
wrong (told.Aborted p o k seen now) = told.Aborted p o k seen (now + 1)
wrong (told.Unsure p q) = told.Unsure (p + 1) q
wrong (told.Fate p (Some b)) = told.Fate p (Some (not b))
wrong (told.Decided p (Some b)) = told.Decided p (Some (not b))
wrong (told.Rescued p (Some b)) = told.Rescued p (Some (not b))
wrong (told.Saved o p u) = told.Saved o p (u + 1)
wrong (told.Trimmed n) = told.Trimmed (n + 1)
wrong (told.Marked o n) = told.Marked o (n + 1000)
wrong (told.Installed e) = told.Installed (e + 1)
wrong (told.Copied u r s) = told.Copied (u + 1) r s
wrong (told.Refused (cause.Overtaken e)) = told.Refused (cause.Overtaken (e + 1))
wrong (told.Refused (cause.Undecided p o)) = told.Refused (cause.Undecided (p + 1) o)
wrong (told.Refused (cause.Forgotten p b)) = told.Refused (cause.Forgotten p (b + 1))
wrong (told.Refused (cause.OpenDecision p)) = told.Refused (cause.OpenDecision (p + 1))
wrong (told.Refused (cause.LogFull n)) = told.Refused (cause.LogFull (n + 1))
wrong (told.Refused (cause.Ahead n)) = told.Refused (cause.Ahead (n + 1))
wrong (told.Refused (cause.NotWhole u p)) = told.Refused (cause.NotWhole u (p + 1))
wrong what = what

abbrev pub with_wrong : Told kinds → Told kinds
with_wrong t = record { mark = record { event = t.mark.event; client = t.mark.client; tx = t.mark.tx; what = wrong t.mark.what }; noted = t.noted }

-- the reply at a place is wrong
abbrev pub at_place : ℕ → List (Told kinds) → List (Told kinds)
at_place n [] = []
at_place zero (t ∷ ts) = with_wrong t ∷ ts
at_place (suc n) (t ∷ ts) = t ∷ at_place n ts

abbrev pub doctored : ℕ → W → W
doctored n w = record w { told = at_place n w.told }

-- a unit has trimmed more than it has
abbrev pub trimmed_more : ℕ → ℕ → W → W
trimmed_more u n w = record w { units = slice_set w.units u (record (unit kinds w u) { low = n; cells = [] }) }

-- a client says that it played the directory further than it did
abbrev pub played_more : ℕ → ℕ → W → W
played_more k n w = record w { clients = slice_set w.clients k (record (client kinds w k) { played = n }) }

-- no `Issued`, `Tail` or `Whole` was sent
abbrev pub unsaid : Msg → Msg
unsaid (msg.Issued p ls) = msg.Held
unsaid (msg.Tail t ls) = msg.Held
unsaid msg.Whole = msg.Held
unsaid (msg.Accepted e b) = msg.Held
unsaid x = x

abbrev pub unsaid_in : Packet → Packet
unsaid_in p = record p { msg = unsaid p.msg }

abbrev pub unheard : W → W
unheard w = record w { packets = map unsaid_in w.packets }

-- an `accepted` of every layout that was proposed, with another sequencer, by the same ballot
abbrev pub another : Msg → Msg
another (msg.Accept e b q) = msg.Accept e b (record q { seq = q.seq + 1 })
another x = x

abbrev pub two_layouts : W → W
two_layouts w = record w { packets = w.packets ++ map (λ (p : Packet). record p { msg = another p.msg }) w.packets }

-- each unit told a higher `high`
abbrev pub unsealed : Msg → Msg
unsealed (msg.Sealed e h) = msg.Sealed e (h + 1)
unsealed x = x

abbrev pub higher : W → W
higher w = record w { packets = map (λ (p : Packet). record p { msg = unsealed p.msg }) w.packets }

-- nothing was told
abbrev pub untold : W → W
untold w = record w { told = [] }

-- what was trimmed is lost
abbrev pub unarchived : W → W
unarchived w = record w { archive = [] }

-- a cell is replaced by junk, in each unit and in the archive

abbrev pub junk_at : ℕ → ℕ × Cell → ℕ × Cell
junk_at p x = if x.0 == p then (p, Junk) else x

abbrev pub junk_in : ℕ → UnitState → UnitState
junk_in p u = record u { cells = map (junk_at p) u.cells }

abbrev pub replaced : ℕ → W → W
replaced p w = record w { units = map (junk_in p) w.units; archive = map (junk_at p) w.archive }

-- every cell is

abbrev pub junk : ℕ × Cell → ℕ × Cell
junk x = (x.0, Junk)

abbrev pub emptied : W → W
emptied w = record w { units = map (λ (u : UnitState). record u { cells = map junk u.cells }) w.units; archive = map junk w.archive }

-- the page of one position stands at another too

abbrev pub cells_at : ℕ → Option Cell → List (ℕ × Cell)
cells_at p None = []
cells_at p (Some c) = (p, c) ∷ []

abbrev pub copied : ℕ → ℕ → W → W
copied p q w = record w { archive = w.archive ++ cells_at q (cell_at (log kinds w) p) }

-- a client has read a position
abbrev pub reads : ℕ → ℕ → W → W
reads k p w = record w { packets = w.packets ++ record { from = client_id k; to = unit_id 0; rid = 1; msg = msg.Read 1 p } ∷ [] }

-- all that was read was position 0

abbrev pub low : Msg → Msg
low (msg.Read e p) = msg.Read e 0
low x = x

abbrev pub reads_low : W → W
reads_low w = record w { packets = map (λ (p : Packet). record p { msg = low p.msg }) w.packets }

-- what a step made of a client, changed

abbrev pub with_client : (Client kinds → Client kinds) → ℕ → W → W
with_client f k w = record w { clients = slice_set w.clients k (f (client kinds w k)) }

abbrev pub viewless : Client kinds → Client kinds
viewless c = record c { view = None }

abbrev pub closed : Client kinds → Client kinds
closed c = record c { tx = None }

abbrev pub knows_log : W → Client kinds → Client kinds
knows_log w c = record c { cells = log kinds w }

-- the last reply of a step, changed

abbrev pub last_wrong : W → W
last_wrong w = doctored (length w.told - 1) w

abbrev pub with_what : (WhatOf kinds → WhatOf kinds) → Told kinds → Told kinds
with_what f t = record { mark = record { event = t.mark.event; client = t.mark.client; tx = t.mark.tx; what = f t.mark.what }; noted = t.noted }

abbrev pub replied_so : (WhatOf kinds → WhatOf kinds) → W → W
replied_so f w = record w { told = map (with_what f) w.told }

abbrev pub accepted : WhatOf kinds → WhatOf kinds
accepted (told.Refused why) = told.Begin
accepted what = what

abbrev pub none_there : WhatOf kinds → WhatOf kinds
none_there (told.Fate p b) = told.Fate p None
none_there what = what

-- an abort names an object after all others
abbrev pub named_late : WhatOf kinds → WhatOf kinds
named_late (told.Aborted p o k seen now) = told.Aborted p (record { 0 = 4294967295 }) k seen now
named_late what = what

-- no unit said that it had trimmed

abbrev pub ungone : Msg → Msg
ungone (msg.Gone b) = msg.Held
ungone x = x

abbrev pub untrimmed : W → W
untrimmed w = record w { packets = map (λ (p : Packet). record p { msg = ungone p.msg }) w.packets }

-- no page of a decision record is left

abbrev pub is_decision : Body → Bool
is_decision (Decision p b) = true
is_decision body = false

abbrev pub decides_at : Option Entry → Bool
decides_at None = false
decides_at (Some e) = is_decision e.body

abbrev pub undecided_cell : Cell → Cell
undecided_cell Junk = Junk
undecided_cell (Data d) = if decides_at (entry_of d) then Junk else Data d

abbrev pub undecided_at : ℕ × Cell → ℕ × Cell
undecided_at x = (x.0, undecided_cell x.1)

abbrev pub undecided : W → W
undecided w = record w { units = map (λ (u : UnitState). record u { cells = map undecided_at u.cells }) w.units }

-- a mark says less than what was marked
abbrev pub marked_less : WhatOf kinds → WhatOf kinds
marked_less (told.Marked o n) = told.Marked o 0
marked_less what = what

-- commits are told as later ones
abbrev pub commits_later : WhatOf kinds → WhatOf kinds
commits_later (told.Committed p) = told.Committed (p + 40)
commits_later what = what

-- a mark says more than what was marked
abbrev pub marked_more : WhatOf kinds → WhatOf kinds
marked_more (told.Marked o n) = told.Marked o (n + 1000)
marked_more what = what

-- each proposed layout has another epoch than the one for which it was proposed
abbrev pub misnamed : Msg → Msg
misnamed (msg.Accept e b q) = msg.Accept e b (record q { epoch = q.epoch + 7 })
misnamed x = x

abbrev pub misnumbered : W → W
misnumbered w = record w { packets = map (λ (p : Packet). record p { msg = misnamed p.msg }) w.packets }

-- a client's directory lists an object that isn't registered, or no object

abbrev pub knows_more : Client kinds → Client kinds
knows_more c = record c { dir = kind.Dir (record { name = 120 ∷ []; oid = record { 0 = 16777300 }; mark = 0 } ∷ []) 0 }

abbrev pub knows_nothing : Client kinds → Client kinds
knows_nothing c = record c { dir = kind.Dir [] 0 }

-- a client waits, and has asked nobody
abbrev pub waits_forever : CommandOf kinds → Client kinds → Client kinds
waits_forever x c = record c { work = Some (new_work kinds x) }

-- a change that only names the sequencer
abbrev pub same_again : Changed
same_again = record { seq = 0; drop = []; opened = []; join = None }

-- the answer that waits for a decision record is a refusal

abbrev pub refusal_for : Purpose kinds → Purpose kinds
refusal_for (Decides x) = Decides (told.Refused cause.NoTx)
refusal_for y = y

abbrev pub task_refused : Task kinds → Task kinds
task_refused (Appending a y) = Appending a (refusal_for y)
task_refused t = t

abbrev pub hand_refused : Hand kinds → Hand kinds
hand_refused (Doing t) = Doing (task_refused t)
hand_refused (Learning waits t) = Learning waits (task_refused t)

abbrev pub work_refused : Option (Work kinds) → Option (Work kinds)
work_refused None = None
work_refused (Some x) = Some (record x { hand = hand_refused x.hand })

abbrev pub refused_instead : W → W
refused_instead w = record w { clients = map (λ (c : Client kinds). record c { work = work_refused c.work }) w.clients }

-- a client is in the midst of a transaction that asked at position 3, and its view stands at 0
abbrev pub asked_before : Client kinds → Client kinds
asked_before c = record c {
  hosted = directory ∷ record { 0 = 16777216 } ∷ [];
  view = Some (view_start kinds (map (fresh_base kinds (record { 0 = 16777216 } ∷ [])) (directory ∷ record { 0 = 16777216 } ∷ [])));
  tx = Some (record { number = 1; reads = []; writes = []; snapshot = Some 3 });
}
