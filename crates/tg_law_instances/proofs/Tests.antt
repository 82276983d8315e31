-- The claims on worlds as tests that compute, of the worked runs' kinds.
use Rattle.std.specs.Prelude.{ℕ, ◌+◌, ◌&&◌, ◌||◌, ◌==◌, not, nat_lt, nat_le, Bool, true, false, List, [], ◌∷◌, ◌++◌, map, filter, Option, Some, None, is_some, if◌then◌else◌}
use Rattle.std.specs.Cmp.Lexicographic.{pointwise}
use Rattle.std.specs.List.{list_any, list_all}
use Rattle.tg_base.specs.Layouts.{Layout}
use Rattle.tg_base.specs.declared.ids.NodeId.{NodeId}
use Rattle.tg_base.specs.declared.ids.Oid.{Oid}
use Rattle.tg_base.specs.declared.marks.Part.{Part}
use Rattle.tg_base.specs.declared.marks.Part.TheVariants.{All}
use Rattle.tg_base.specs.declared.marks.ReadMark.{ReadMark}
use Rattle.tg_base.specs.declared.marks.StreamLink.{StreamLink}
use Rattle.tg_base.specs.declared.msg.Msg.{Msg}
use Rattle.tg_base.specs.declared.msg.Msg.TheVariants as msg
use Rattle.tg_base.specs.declared.packet.Packet.{Packet}
use Rattle.tg_entry.specs.declared.entry.Body.{Body}
use Rattle.tg_entry.specs.declared.entry.Body.TheVariants.{Decision, Checkpoint}
use Rattle.tg_entry.specs.declared.entry.Entry.{Entry}
use Rattle.tg_entry.specs.declared.entry.WriteOp.{WriteOp}
use Rattle.tg_entry.specs.Format.{tag_of}
use Rattle.tg_model.specs.declared.refusal.Refusal.TheVariants as cause
use Rattle.tg_model.specs.declared.trace.What.TheVariants as told
use Rattle.tg_model.specs.Kinds.{EventOf, MarkOf, WhatOf, DoneOf}
use Rattle.tg_model.specs.Stores.{state_at, answer_at, is_stamp}
use Rattle.tg_model.specs.Traces.{puts_of, has_items}
use Rattle.tg_model.specs.Verdicts.{fault, bound}
use Rattle.tg_protocol.specs.Words.{bytes_eq, cell_at, has_num, directory, client_id, unit_id, numbers, seqr_id, where_true}
use Rattle.tg_kind.specs.Parts.{is_whole, part_eq}
use Rattle.tg_base.specs.Orders.{oid_eq, node_eq}
use Rattle.tg_protocol.specs.Layouts.{units_of, first_layout}
use Rattle.tg_entry.specs.Needs.{needs_decision, reads_of, writes_of}
use Rattle.tg_protocol.specs.Entries.{is_commit, lists, streams_of}
use Rattle.tg_protocol.specs.Views.{Base, View, Entries, decision_in}
use Rattle.tg_protocol.specs.Transactions.{read_before}
use Rattle.tg_protocol.specs.Checkpoints.{base_at}
use Rattle.tg_protocol.specs.Versions.{Based, PartVersion, version_in, noted_or, whole_noted}
use Rattle.tg_protocol.specs.Logs.{Log, entries_of, version, changes_below, outcome, path, by_majority}
use Rattle.tg_protocol.specs.Units.{UnitState}
use Rattle.tg_protocol.specs.Clients.{Client, write_of}
use Rattle.tg_protocol.specs.Trimming.{has_stripe}
use Rattle.tg_protocol.specs.Worlds.{World, Told, unit, latest, log, history, trace}
use Rattle.tg_law_examples.proofs.SevenKinds.{kinds, State, Named, Dir}
use Rattle.tg_law_examples.proofs.Sameness.{same}

-- What was tested, by the name of the claim.
pub data Claim : Type 0 where
  StampsRise : Claim  -- of a world: `Rises`
  IsLegal : Claim  -- `Legal`, by the judge's verdict
  Once : Claim  -- `EntriesOnce`
  Linked : Claim  -- `EntriesLinked`
  RecordsOwn : Claim
  TrimsSpare : Claim
  FloorsStay : Claim
  DirectoryTrue : Claim
  CheckpointsTrue : Claim
  FatesTrue : Claim  -- of `Alike`: decision records, and the fates of kept views
  OneLayout : Claim  -- and `LatestDecided`
  LayoutsFollow : Claim  -- as far as seals and starts go; whole in FollowSound
  LogAgrees : Claim  -- what replies tell: the rest of `Alike`, `RepliesHaveRecords`, `AbortsLeast`, `PastTrue`, `RescueTrue`
  MarksRest : Claim
  InOrder : Claim  -- `RecordsInOrder`, of commit records; of places by the judge
  ReadsOnPath : Claim  -- where nothing is copied
  Stands : Claim  -- of a step: the four rules of `PlaysOn`
  Falls : Claim
  GivesUp : Claim
  ReadsOn : Claim
  SyncsExact : Claim  -- in the world after the step
  CausesRefuse : Claim
  CausesTrue : Claim  -- `RefusalsTrue` and `UnsureTrue`
  NonesTrue : Claim
  RefusalsKeep : Claim
  StuckTrue : Claim
  LogStays : Claim  -- of a line
  Finishes : Claim  -- of a settling: `CommandFinishes`, `ReconfFinishes`

abbrev pub W : Type 0
W = World kinds

abbrev pub E : Type 0
E = EventOf kinds

-- small tests

abbrev pub implies : Bool → Bool → Bool
implies true b = b
implies false b = true

abbrev pub nums_eq : List ℕ → List ℕ → Bool
nums_eq xs ys = pointwise (λ x y. x == y) xs ys

abbrev pub links_eq : List StreamLink → List StreamLink → Bool
links_eq xs ys = pointwise (λ (x y : StreamLink). oid_eq x.oid y.oid && nums_eq x.backs y.backs) xs ys

abbrev pub oids_eq : List Oid → List Oid → Bool
oids_eq xs ys = pointwise (λ x y. oid_eq x y) xs ys

abbrev pub bool_eq : Bool → Bool → Bool
bool_eq true b = b
bool_eq false b = not b

abbrev pub named_eq : Named → Named → Bool
named_eq a b = bytes_eq a.name b.name && oid_eq a.oid b.oid && (a.mark == b.mark)

-- two states of the directory
abbrev pub states_eq : State → State → Bool
states_eq (Dir ns f) (Dir ms g) = pointwise named_eq ns ms && (f == g)
states_eq s t = false

-- messages of a command

abbrev pub heard : W → ℕ → ℕ → (Msg → Bool) → Bool
heard w k next f = list_any (λ (p : Packet). node_eq p.to (client_id k) && nat_le next p.rid && f p.msg) w.packets

abbrev pub heard_now : W → Told kinds → (Msg → Bool) → Bool
heard_now w t f = heard w t.mark.client t.noted.next f

abbrev pub is_gone : ℕ → Msg → Bool
is_gone b (msg.Gone c) = b == c
is_gone b x = false

abbrev pub is_gone_above : ℕ → Msg → Bool
is_gone_above b (msg.Gone c) = nat_lt b c
is_gone_above b x = false

abbrev pub is_full : ℕ → Msg → Bool
is_full n (msg.Full l) = n == l
is_full n x = false

abbrev pub is_tail : (ℕ → Bool) → Msg → Bool
is_tail f (msg.Tail t ls) = f t
is_tail f x = false

abbrev pub is_issued : ℕ → (List StreamLink → Bool) → Msg → Bool
is_issued p f (msg.Issued q ls) = (p == q) && f ls
is_issued p f x = false

abbrev pub entry_here : Entries → ℕ → (Entry → Bool) → Bool
entry_here es p f = list_any (λ (x : ℕ × Entry). (x.0 == p) && f x.1) es

-- Worlds.

abbrev pub rises : List (DoneOf kinds) → Bool
rises [] = true
rises (d ∷ ds) = list_all (λ (e : DoneOf kinds). nat_lt d.stamp e.stamp) ds && rises ds

abbrev pub same_head : Entry → Entry → Bool
same_head e f = (e.head.client == f.head.client) && (e.head.number == f.head.number) && (tag_of e.body == tag_of f.body)

abbrev pub once : Entries → Bool
once [] = true
once (x ∷ xs) = not (list_any (λ (y : ℕ × Entry). same_head x.1 y.1) xs) && once xs

abbrev pub linked : W → Entries → Bool
linked w es = list_all (λ (x : ℕ × Entry). heard w x.1.head.client 0 (is_issued x.0 (λ ls. links_eq ls x.1.head.streams))) es

abbrev pub told_of : W → ℕ → ℕ → (WhatOf kinds → Bool) → Bool
told_of w k x f = list_any (λ (t : MarkOf kinds). (t.client == k) && (t.tx == x) && f t.what) (trace kinds w)

abbrev pub is_end : WhatOf kinds → Bool
is_end told.End = true
is_end what = false

abbrev pub asked_part : Oid → Part → WhatOf kinds → Bool
asked_part o k (told.Asked p q t a) = oid_eq o p && part_eq k (kinds.look q)
asked_part o k what = false

abbrev pub has_read_of : Entry → WhatOf kinds → Bool
has_read_of e (told.Asked p q t a) = list_any (λ (r : ReadMark). oid_eq r.oid p && part_eq r.part (kinds.look q)) (reads_of e)
has_read_of e what = true

abbrev pub writes_eq : List WriteOp → List WriteOp → Bool
writes_eq xs ys = pointwise (λ (x y : WriteOp). oid_eq x.oid y.oid && bytes_eq x.op y.op) xs ys

abbrev pub is_record : W → Entry → Bool
is_record w e =
    nat_lt 0 e.head.number && told_of w e.head.client e.head.number is_end
    && writes_eq (writes_of e) (map (λ x. write_of kinds x.0 x.1) (puts_of kinds (trace kinds w) e.head.client e.head.number))
    && list_all (λ (r : ReadMark). told_of w e.head.client e.head.number (asked_part r.oid r.part)) (reads_of e)
    && list_all (λ (t : MarkOf kinds). implies ((t.client == e.head.client) && (t.tx == e.head.number)) (has_read_of e t.what)) (trace kinds w)

abbrev pub records_own : W → Entries → Bool
records_own w es = list_all (λ (x : ℕ × Entry). implies (is_commit x.1) (is_record w x.1)) es

abbrev pub has_record : Entries → ℕ → ℕ → ℕ → Bool
has_record es p k x = entry_here es p (λ e. is_commit e && (e.head.client == k) && (e.head.number == x))

abbrev pub has_commit : Entries → ℕ → Bool
has_commit es p = entry_here es p is_commit

abbrev pub has_cell : Log → ℕ → Bool
has_cell l p = is_some (cell_at l p)

abbrev pub base_reaches : ℕ → Option (Base kinds) → Bool
base_reaches n None = false
base_reaches n (Some b) = nat_le n b.upto

abbrev pub has_decision : Entries → ℕ → Bool
has_decision es p = is_some (decision_in es p)

abbrev pub marks_rest_of : Entries → WhatOf kinds → Bool
marks_rest_of es (told.Marked o n) = list_any (λ (x : ℕ × Entry). nat_le n x.0 && base_reaches n (base_at kinds o x.1)) es
    && list_all (λ (x : ℕ × Entry). implies (nat_lt x.0 n && lists x.1 o && needs_decision x.1) (has_decision es x.0)) es
marks_rest_of es what = true

abbrev pub marks_rest : W → Entries → Bool
marks_rest w es = list_all (λ (t : Told kinds). marks_rest_of es t.mark.what) w.told

abbrev pub has_base_past : Entries → Oid → ℕ → Bool
has_base_past es o n = list_any (λ (x : ℕ × Entry). nat_le n x.0 && base_reaches n (base_at kinds o x.1)) es

abbrev pub trims_spare : W → Log → Entries → Bool
trims_spare w l es = list_all (λ (u : UnitState). list_all (has_cell l) (numbers u.low 0)
    && list_all (λ (x : ℕ × Entry). implies (nat_lt x.0 u.low) (list_all (λ o. has_base_past es o u.low) (streams_of x.1))) es) w.units

abbrev pub directory_at : W → ℕ → State
directory_at w p = state_at kinds w.cluster.objects (history kinds w) p directory

abbrev pub floors_stay : W → Log → Bool
floors_stay w l = list_all (λ (c : Client kinds). list_all (has_cell l) (numbers (kinds.floor (directory_at w c.played)) 0)) w.clients

abbrev pub directories : W → Bool
directories w = list_all (λ (c : Client kinds). states_eq c.dir (directory_at w c.played)) w.clients

-- Parts are endless: those that the committed changes and the checkpoint name are tested one by one, and any other has
-- the version of the last change of the whole.

abbrev pub part_true : List PartVersion → Based → Part → Bool
part_true ns b k = is_whole k || (noted_or None ns b.oid k == version_in b k)

abbrev pub parts_true : List PartVersion → Based → Bool
parts_true ns b = list_all (λ (n : PartVersion). part_true ns b n.part) ns && list_all (λ (x : Part × ℕ). part_true ns b x.0) b.keys
    && (whole_noted None ns b.oid == b.whole) && (noted_or None ns b.oid All == b.version)

abbrev pub checkpoint_true : W → Entry → Body → Bool
checkpoint_true w e (Checkpoint o u v whole keys state) = implies (e.head.format == 2) (
    bytes_eq state (kinds.save (state_at kinds w.cluster.objects (history kinds w) u o))
    && parts_true (changes_below kinds [] (entries_of (log kinds w)) u) (record { oid = o; version = v; whole = whole; keys = keys }))
checkpoint_true w e body = true

abbrev pub checkpoints : W → Entries → Bool
checkpoints w es = list_all (λ (x : ℕ × Entry). checkpoint_true w x.1 x.1.body) es

abbrev pub outcome_is : W → Entries → ℕ → Bool → Bool
outcome_is w es p b = has_commit es p && bool_eq b (outcome kinds (log kinds w) p)

abbrev pub decision_true : W → Entries → Body → Bool
decision_true w es (Decision p b) = outcome_is w es p b
decision_true w es body = true

abbrev pub fates_of : Option (View kinds) → List (ℕ × Bool)
fates_of None = []
fates_of (Some v) = v.fates

abbrev pub decisions : W → Entries → Bool
decisions w es = list_all (λ (x : ℕ × Entry). decision_true w es x.1.body) es
    && list_all (λ (c : Client kinds). list_all (λ (x : ℕ × Bool). outcome_is w es x.0 x.1) (fates_of c.view)) w.clients

-- decided layouts: proposals that a majority accepted

abbrev pub layout_in : W → Msg → List (ℕ × Layout)
layout_in w (msg.Accept e b q) = if nat_lt 1 e && by_majority w.packets w.cluster.layouts e b then (e, q) ∷ [] else []
layout_in w x = []

abbrev pub layouts_in : W → List Packet → List (ℕ × Layout)
layouts_in w [] = (1, first_layout w.cluster) ∷ []
layouts_in w (p ∷ ps) = layout_in w p.msg ++ layouts_in w ps

abbrev pub layouts : W → List (ℕ × Layout)
layouts w = layouts_in w w.packets

abbrev pub ranges_eq : Layout → Layout → Bool
ranges_eq p q = (p.epoch == q.epoch) && (p.seq == q.seq) && (p.start == q.start) && (p.by == q.by) && nums_eq p.gone q.gone
    && pointwise (λ r s. (r.lo == s.lo) && pointwise nums_eq r.stripes s.stripes) p.ranges q.ranges

abbrev pub one_layout : List (ℕ × Layout) → Bool
one_layout [] = true
one_layout (x ∷ xs) = list_all (λ (y : ℕ × Layout). implies (x.0 == y.0) (ranges_eq x.1 y.1)) xs && one_layout xs

abbrev pub latest_decided : W → List (ℕ × Layout) → Bool
latest_decided w qs = list_any (λ (x : ℕ × Layout). (x.0 == (latest kinds w).epoch) && ranges_eq x.1 (latest kinds w)) qs
    && list_all (λ (x : ℕ × Layout). nat_le x.0 (latest kinds w).epoch) qs

-- a decided layout and the one before it: its units were sealed, and told where it starts

abbrev pub is_sealed : ℕ → (ℕ → Bool) → Msg → Bool
is_sealed e f (msg.Sealed d h) = (d == e) && f h
is_sealed e f x = false

abbrev pub told_high : W → ℕ → ℕ → (ℕ → Bool) → Bool
told_high w e u f = list_any (λ (p : Packet). node_eq p.from (unit_id u) && is_sealed e f p.msg) w.packets

abbrev pub follows : W → Layout → Layout → Bool
follows w p q = nat_le p.start q.start && list_all (λ u. told_high w q.epoch u (λ h. nat_le h q.start)) (units_of q)
    && ((q.start == p.start) || list_any (λ u. told_high w q.epoch u (λ h. h == q.start)) (units_of q))

abbrev pub follow : W → List (ℕ × Layout) → Bool
follow w qs = list_all (λ (x : ℕ × Layout). list_all (λ (y : ℕ × Layout). implies (y.0 == x.0 + 1) (follows w x.1 y.1)) qs) qs

-- what is told of the log

abbrev pub is_trimmed : W → List (ℕ × Layout) → ℕ → ℕ → Bool
is_trimmed w qs e0 n = list_any (λ (x : ℕ × Layout). nat_le e0 x.0 && list_all (λ u. nat_le n (unit kinds w u).low) (units_of x.1)) qs

abbrev pub is_look : Msg → Msg → Bool
is_look (msg.Has e a b s) (msg.Has f c d t) = (e == f) && (a == c) && (b == d) && (s == t)
is_look x y = false

abbrev pub tells_whole : Msg → Bool
tells_whole msg.Whole = true
tells_whole x = false

abbrev pub answered : W → Told kinds → (Msg → Bool) → ℕ → (Msg → Bool) → Bool
answered w t asks u says = list_any (λ (p : Packet). node_eq p.from (client_id t.mark.client) && node_eq p.to (unit_id u) && nat_le t.noted.next p.rid && asks p.msg
    && list_any (λ (q : Packet). node_eq q.from (unit_id u) && node_eq q.to (client_id t.mark.client) && (q.rid == p.rid) && says q.msg) w.packets) w.packets

abbrev pub is_copied : W → List (ℕ × Layout) → Told kinds → ℕ → ℕ → ℕ → Bool
is_copied w qs t u r s = list_any (λ (x : ℕ × Layout). answered w t (is_look (has_stripe x.0 x.1 r s)) u tells_whole) qs

abbrev pub is_saved : W → Entries → Told kinds → Oid → ℕ → Body → Bool
is_saved w es t o u (Checkpoint p v a b c d) = oid_eq o p && (u == v)
is_saved w es t o u body = false

-- a record that needs a decision record has one, or the client met the log's end or a trim

abbrev pub is_full_log : Msg → Bool
is_full_log (msg.Full n) = true
is_full_log x = false

abbrev pub needs_one : Entries → ℕ → Bool
needs_one es p = entry_here es p needs_decision

abbrev pub is_any_issued : Msg → Bool
is_any_issued (msg.Issued p ls) = true
is_any_issued x = false

abbrev pub is_any_gone : Msg → Bool
is_any_gone (msg.Gone b) = true
is_any_gone x = false

-- what a client was sent from a number on
abbrev pub sent_from : W → ℕ → ℕ → (Msg → Bool) → List Packet
sent_from w k next f = filter (λ (p : Packet). node_eq p.to (client_id k) && nat_le next p.rid && f p.msg) w.packets

-- after an answer, the log's end
abbrev pub then_full : W → ℕ → Packet → Bool
then_full w k x = heard w k (x.rid + 1) is_full_log

-- after an answer, a trim
abbrev pub then_gone : W → ℕ → Packet → Bool
then_gone w k x = heard w k (x.rid + 1) is_any_gone

abbrev pub then_issued_and_gone : W → ℕ → Packet → Bool
then_issued_and_gone w k x = list_any (then_gone w k) (sent_from w k (x.rid + 1) is_any_issued)

abbrev pub issued_at : W → ℕ → ℕ → List Packet
issued_at w k p = sent_from w k 0 (is_issued p (λ ls. true))

abbrev pub met_end : W → ℕ → ℕ → Bool
met_end w k p = list_any (then_full w k) (issued_at w k p) || list_any (then_issued_and_gone w k) (issued_at w k p)

abbrev pub met_end_now : W → ℕ → ℕ → Bool
met_end_now w k next = heard w k next is_full_log || list_any (then_gone w k) (sent_from w k next is_any_issued)

abbrev pub recorded : W → Entries → Told kinds → ℕ → Bool
recorded w es t p = elim (has_record es p t.mark.client t.mark.tx && needs_one es p) as (λ _. Bool) [
  | false ↦ true
  | true ↦ elim (has_decision es p) as (λ _. Bool) [ true ↦ true | false ↦ met_end w t.mark.client p ]
]

abbrev pub recorded_now : W → Entries → Told kinds → ℕ → Bool
recorded_now w es t p = elim (needs_one es p) as (λ _. Bool) [
  | false ↦ true
  | true ↦ elim (has_decision es p) as (λ _. Bool) [ true ↦ true | false ↦ met_end_now w t.mark.client t.noted.next ]
]

-- `rescued`: the history has the transaction, or it has a commit record alone
abbrev pub rescued_so : W → Entries → ℕ → Bool → Bool
rescued_so w es p true = is_stamp kinds (history kinds w) p
rescued_so w es p false = has_commit es p && not (is_stamp kinds (history kinds w) p)

-- the reads before the one that an abort names have their versions
abbrev pub is_least : W → Oid → Part → ℕ → ℕ → ℕ × Entry → Bool
is_least w o k seen p x = implies (x.0 == p) (list_all (λ (r : ReadMark).
    implies (read_before r (record { oid = o; part = k; version = seen })) (version kinds (log kinds w) r.oid r.part p == r.version)) (reads_of x.1))

-- the new sequencer's tail, or a later layout, was heard

abbrev pub is_later : ℕ → Msg → Bool
is_later e (msg.Latest q) = nat_lt e q.epoch
is_later e x = false

abbrev pub heard_new : W → Told kinds → ℕ → Layout → Bool
heard_new w t e q = heard w t.mark.client 0 (is_later e)
    || list_any (λ (p : Packet). node_eq p.from (seqr_id q.seq) && node_eq p.to (client_id t.mark.client) && nat_le t.noted.next p.rid && is_tail (λ x. true) p.msg) w.packets

abbrev pub overtakes : Told kinds → ℕ → ℕ × Layout → Bool
overtakes t e x = (x.0 == e) && not (x.1.by == t.mark.client) && nat_lt t.noted.epoch e

abbrev pub agrees : W → Entries → List (ℕ × Layout) → Told kinds → WhatOf kinds → Bool
agrees w es qs t (told.Fate p (Some b)) = outcome_is w es p b
agrees w es qs t (told.Decided p (Some b)) = outcome_is w es p b && recorded_now w es t p
agrees w es qs t (told.Rescued p (Some b)) = rescued_so w es p b && implies (needs_one es p) (has_decision es p)
agrees w es qs t (told.Committed p) = implies (has_items kinds (puts_of kinds (trace kinds w) t.mark.client t.mark.tx)) (has_record es p t.mark.client t.mark.tx && outcome_is w es p true) && recorded w es t p
agrees w es qs t (told.Aborted p o k seen now) = has_record es p t.mark.client t.mark.tx && outcome_is w es p false && recorded w es t p && list_all (is_least w o k seen p) es
agrees w es qs t (told.Unsure p q) = has_record es p t.mark.client t.mark.tx && has_commit es q
agrees w es qs t (told.Saved o p u) = entry_here es p (λ e. (e.head.client == t.mark.client) && is_saved w es t o u e.body) && heard_now w t (is_issued p (λ ls. true)) && heard_now w t (is_tail (λ x. x == u))
agrees w es qs t (told.Trimmed n) = heard_now w t (is_tail (λ x. kinds.floor (state_at kinds w.cluster.objects (history kinds w) x directory) == n)) && is_trimmed w qs t.noted.epoch n
agrees w es qs t (told.Copied u r s) = is_copied w qs t u r s
agrees w es qs t (told.Installed e) = list_any (λ (x : ℕ × Layout). (x.0 == e) && (x.1.by == t.mark.client) && nat_lt t.noted.epoch e && heard_new w t e x.1) qs
agrees w es qs t (told.Refused (cause.Overtaken e)) = list_any (overtakes t e) qs
agrees w es qs t (told.Past o q p a) = same.answers a (answer_at kinds w.cluster.objects (history kinds w) p o q)
agrees w es qs t what = true

-- a mark comes after the commit of the transaction that marks

abbrev pub does_mark : Oid → ℕ → DoneOf kinds → Bool
does_mark o n d = list_any (λ x. oid_eq x.0 directory && same.ops x.1 (kinds.mark_op o n)) d.writes

abbrev pub commits_mark : W → Oid → ℕ → Told kinds → WhatOf kinds → Bool
commits_mark w o n t (told.Committed p) = list_any (λ (d : DoneOf kinds). (d.stamp == p) && (d.client == t.mark.client) && (d.number == t.mark.tx) && does_mark o n d) (history kinds w)
commits_mark w o n t what = false

abbrev pub marked_by : W → Oid → ℕ → Option (Told kinds) → Bool
marked_by w o n None = false
marked_by w o n (Some t) = commits_mark w o n t t.mark.what

abbrev pub of_client : ℕ → Told kinds → Bool
of_client k t = t.mark.client == k

abbrev pub this_or : ℕ → Told kinds → Option (Told kinds) → Option (Told kinds)
this_or k t (Some u) = Some u
this_or k t None = where_true (of_client k t) t

-- a client's last reply
abbrev pub last_of : ℕ → List (Told kinds) → Option (Told kinds)
last_of k [] = None
last_of k (t ∷ ts) = this_or k t (last_of k ts)

abbrev pub mark_follows : W → List (Told kinds) → ℕ → WhatOf kinds → Bool
mark_follows w before k (told.Marked o n) = marked_by w o n (last_of k before)
mark_follows w before k what = true

-- of the replies after those before them
abbrev pub marks_follow : W → List (Told kinds) → List (Told kinds) → Bool
marks_follow w before [] = true
marks_follow w before (t ∷ ts) = mark_follows w before t.mark.client t.mark.what && marks_follow w (before ++ t ∷ []) ts

abbrev pub all_agree : W → Entries → List (ℕ × Layout) → Bool
all_agree w es qs = list_all (λ (t : Told kinds). agrees w es qs t t.mark.what) w.told && marks_follow w [] w.told

abbrev pub read_pos : Msg → Option ℕ
read_pos (msg.Read e p) = Some p
read_pos x = None

-- a client's reads are on a path from a tail that it heard; only where nothing was copied

abbrev pub on_links : Log → ℕ → List StreamLink → Bool
on_links l p ls = list_any (λ (x : StreamLink). has_num p (path l x.oid x.backs)) ls

abbrev pub tail_links : Msg → List StreamLink
tail_links (msg.Tail t ls) = ls
tail_links x = []

abbrev pub on_path : W → Log → NodeId → Option ℕ → Bool
on_path w l n None = true
on_path w l n (Some p) = list_any (λ (x : Packet). node_eq x.to n && on_links l p (tail_links x.msg)) w.packets

abbrev pub is_client : NodeId → Bool
is_client n = node_eq n (client_id n.num)

abbrev pub reads_on_path : W → Log → Bool
reads_on_path w l = list_all (λ (x : Packet). implies (is_client x.from) (on_path w l x.from (read_pos x.msg))) w.packets

-- no commit record precedes a reply that came before its transaction's `begin`
abbrev pub in_order : W → Entries → Bool
in_order w es = list_all (λ (x : ℕ × Entry). implies (is_commit x.1)
    (nat_le (bound kinds same w.cluster.objects (history kinds w) (trace kinds w) x.1.head.client x.1.head.number) x.0)) es

abbrev pub fails : Claim → Bool → List Claim
fails n true = []
fails n false = n ∷ []

-- the claims whose tests fail
abbrev pub failed : List (Claim × Bool) → List Claim
failed [] = []
failed (x ∷ xs) = fails x.0 x.1 ++ failed xs

abbrev pub world_tests : W → Log → Entries → List (ℕ × Layout) → List (Claim × Bool)
world_tests w l es qs =
    (StampsRise, rises (history kinds w)) ∷ (IsLegal, not (is_some (fault kinds same w.cluster.objects (history kinds w) (trace kinds w))))
    ∷ (Once, once es) ∷ (Linked, linked w es) ∷ (RecordsOwn, records_own w es) ∷ (TrimsSpare, trims_spare w l es) ∷ (FloorsStay, floors_stay w l)
    ∷ (DirectoryTrue, directories w) ∷ (CheckpointsTrue, checkpoints w es) ∷ (FatesTrue, decisions w es) ∷ (OneLayout, one_layout qs && latest_decided w qs)
    ∷ (LayoutsFollow, follow w qs) ∷ (LogAgrees, all_agree w es qs) ∷ (MarksRest, marks_rest w es) ∷ (InOrder, in_order w es) ∷ []

unfoldable pub world_fails : W → List Claim
world_fails w = failed (world_tests w (log kinds w) (entries_of (log kinds w)) (layouts w))

unfoldable pub path_fails : W → List Claim
path_fails w = fails ReadsOnPath (reads_on_path w (log kinds w))
