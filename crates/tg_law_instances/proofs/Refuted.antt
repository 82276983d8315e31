-- Tests that failed refute the claims that they test: of changed worlds.
use Rattle.std.proofs.Common.{◌≡◌, ℕ, zero, suc, ◌<◌, ◌≤◌, List, [], ◌∷◌, ◌++◌, length, Bool, true, false, Option, Some, None, refl, sym, ap, ◌∙◌, subst, inl, inr, arith}
use Rattle.std.specs.Prelude.{◌&&◌, ◌||◌, ◌==◌, not, nat_lt, nat_le, is_some, Contains, slice_index_or}
use Rattle.std.specs.List.{list_any, list_all}
use Rattle.std.specs.Cmp.Lexicographic.{pointwise}
use Rattle.tg_base.specs.Layouts.{Layout}
use Rattle.tg_base.specs.declared.cell.Cell.{Cell}
use Rattle.tg_base.specs.declared.cell.Cell.TheVariants.{Junk, Data}
use Rattle.tg_base.specs.declared.ids.Oid.{Oid}
use Rattle.tg_base.specs.declared.marks.ReadMark.{ReadMark}
use Rattle.tg_base.specs.declared.msg.Msg.{Msg}
use Rattle.tg_base.specs.declared.msg.Msg.TheVariants as msg
use Rattle.tg_base.specs.declared.packet.Packet.{Packet}
use Rattle.tg_entry.specs.declared.entry.Body.{Body}
use Rattle.tg_entry.specs.declared.entry.Body.TheVariants.{Commit, Decision, Checkpoint}
use Rattle.tg_entry.specs.declared.entry.Entry.{Entry}
use Rattle.tg_model.specs.declared.trace.What.TheVariants as told
use Rattle.tg_model.specs.Kinds.{WhatOf}
use Rattle.tg_model.specs.Stores.{state_at, answer_at, is_stamp}
use Rattle.tg_model.specs.Legal.{Legal}
use Rattle.tg_model.specs.Verdicts.{Fault, fault}
use Rattle.tg_protocol.specs.Words.{client_id, directory, bytes_eq, cell_eq, numbers, or_else, where_true}
use Rattle.tg_base.specs.Orders.{oid_eq, node_eq}
use Rattle.tg_entry.specs.Needs.{needs_decision, reads_of}
use Rattle.tg_protocol.specs.Entries.{decides}
use Rattle.tg_protocol.specs.Transactions.{read_before}
use Rattle.tg_protocol.specs.Views.{Entries, decision_in}
use Rattle.tg_protocol.specs.Logs.{version}
use Rattle.tg_protocol.specs.Clients.{Client, new_client}
use Rattle.tg_protocol.specs.Units.{UnitState, new_unit}
use Rattle.tg_protocol.specs.Worlds.{Told, unit, client, log, history, trace}
use Rattle.tg_protocol.specs.Alike.{SentTo, SentNow, HasEntry, HasDecision, Recorded, RecordedNow, LogAgrees, CheckpointsTrue, Alike, PastTrue, RescueTrue}
use Rattle.tg_protocol.specs.Headline.{Holds}
use Rattle.tg_protocol.specs.Chosen.{IsDecided, OneLayout}
use Rattle.tg_protocol.specs.Holding.{EntriesLinked, HasCell, FloorsStay, TrimsSpare, LogStays}
use Rattle.tg_protocol.specs.Causes.{DirectoryTrue, AbortsLeast}
use Rattle.tg_law_instances.proofs.Small.{clash}
use Rattle.tg_law_verdicts.proofs.Members.{Has, has_contained, contained_has, and_both, both_and, not_true, found, passes_somewhere, each_passes, cut_at}
use Rattle.tg_law_verdicts.proofs.Tests.{same_number, number_same, oid_same, of_le, lt_of}
use Rattle.tg_law_examples.proofs.SevenKinds.{kinds, State, Named, Dir}
use Rattle.tg_law_examples.proofs.Sameness.{same}
use Rattle.tg_law_instances.proofs.Same.{sameness_exact, links_exact, node_itself, layout_itself, bytes_itself}
use Rattle.tg_law_instances.proofs.Readings.{so_then, es_of, in_log, of_log, record_found, outcome_is_so, entry_found, layouts_decided}
use Rattle.tg_law_instances.proofs.HeadlineSound.{illegal_sound}
use Rattle.tg_law_instances.proofs.Tests.{Claim, StampsRise, IsLegal, W, fails, failed, world_tests, world_fails, implies, heard, heard_now, is_issued, is_tail, is_full_log, is_any_gone, links_eq, linked, rises, layouts, ranges_eq, one_layout, has_record, has_decision, needs_one, outcome_is, is_least, does_mark, named_eq, states_eq, directory_at}

-- Bools.

pub not_both : (b : Bool) → not b ≡ true → b ≡ true → ⊥
not_both b n y = clash b y (not_true b n)

-- a list of which not all pass has one that doesn't
pub record Off {X : Type 0} (f : X → Bool) (xs : List X) : Type 0 where
  pub it : X
  pub has : Has xs it
  pub off : f it ≡ false

off_more : {X : Type 0} → (f : X → Bool) (y : X) (xs : List X) → Off f xs → Off f (y ∷ xs)
off_more f y xs o = record { it = o.it; has = inr o.has; off = o.off }

off_by : {X : Type 0} → (f : X → Bool) (y : X) (xs : List X) (b : Bool) → f y ≡ b → (list_all f xs ≡ false → Off f xs) → (b && list_all f xs) ≡ false → Off f (y ∷ xs)
off_by f y xs true e rest h = off_more f y xs (rest h)
off_by f y xs false e rest h = record { it = y; has = inl refl; off = e }

pub some_off : {X : Type 0} → (f : X → Bool) (xs : List X) → list_all f xs ≡ false → Off f xs
some_off f [] h = absurd cc
some_off f (y ∷ xs) h = off_by f y xs (f y) refl (some_off f xs) h

pub off_parts : (a b : Bool) → implies a b ≡ false → (a ≡ true) × (b ≡ false)
off_parts true b h = (refl, h)
off_parts false b h = absurd cc

-- Legal runs.

abbrev pub is_legal : Claim → Bool
is_legal IsLegal = true
is_legal c = false

abbrev pub names_legal : List Claim → Bool
names_legal [] = false
names_legal (c ∷ cs) = is_legal c || names_legal cs

-- of tests of other claims none is named
abbrev Others : List (Claim × Bool) → Type 0
Others [] = Unit {0}
Others (x ∷ xs) = (is_legal x.0 ≡ false) × Others xs

one_other : (c : Claim) (b : Bool) (rest : List Claim) → is_legal c ≡ false → names_legal rest ≡ false → names_legal (fails c b ++ rest) ≡ false
one_other c true rest o n = n
one_other c false rest o n = ap (λ x. x || names_legal rest) o ∙ n

none_named : (xs : List (Claim × Bool)) → Others xs → names_legal (failed xs) ≡ false
none_named [] o = refl
none_named (x ∷ xs) o = one_other x.0 x.1 (failed xs) o.0 (none_named xs o.1)

abbrev legal_test : W → Bool
legal_test w = not (is_some (fault kinds same w.cluster.objects (history kinds w) (trace kinds w)))

not_legal_by : (rest : List (Claim × Bool)) (a b : Bool) → Others rest → names_legal (failed ((StampsRise, a) ∷ (IsLegal, b) ∷ rest)) ≡ true → b ≡ false
not_legal_by rest a false o h = refl
not_legal_by rest true true o h = absurd (clash (names_legal (failed rest)) h (none_named rest o))
not_legal_by rest false true o h = absurd (clash (names_legal (failed rest)) h (none_named rest o))

-- the stamps of what failed otherwise rise
abbrev pub first_is : List Claim → Bool
first_is (StampsRise ∷ cs) = true
first_is cs = false

rising_by : (b : Bool) (rest : List Claim) → first_is (fails StampsRise b ++ rest) ≡ false → b ≡ true
rising_by true rest e = refl
rising_by false rest e = absurd cc

some_fault : (o : Option Fault) → not (is_some o) ≡ false → (f : Fault) × (o ≡ Some f)
some_fault (Some f) e = (f, refl)
some_fault None e = absurd cc

abbrev past_two : List (Claim × Bool) → List (Claim × Bool)
past_two (x ∷ y ∷ xs) = xs
past_two xs = []

-- a world of which the judge found a fault isn't legal
pub legal_refuted : (w : W) (cs : List Claim) → world_fails w ≡ cs → names_legal cs ≡ true → first_is cs ≡ false → Legal kinds w.cluster.objects (history kinds w) (trace kinds w) → ⊥
unfolding world_fails
legal_refuted w cs e named first legal =
    let h = subst (λ (x : List Claim). names_legal x ≡ true) (sym e) named in
    let r = rising_by (rises (history kinds w)) (failed ((IsLegal, legal_test w) ∷ past_two (world_tests w (log kinds w) (es_of w) (layouts w)))) (subst (λ (x : List Claim). first_is x ≡ false) (sym e) first) in
    let rest = past_two (world_tests w (log kinds w) (es_of w) (layouts w)) in
    let f = not_legal_by rest (rises (history kinds w)) (legal_test w) (refl, (refl, (refl, (refl, (refl, (refl, (refl, (refl, (refl, (refl, (refl, (refl, (refl, tt))))))))))))) h in
    let s = some_fault (fault kinds same w.cluster.objects (history kinds w) (trace kinds w)) f in
    illegal_sound w s.0 r s.1 legal

pub headline_refuted : (w : W) (cs : List Claim) → world_fails w ≡ cs → names_legal cs ≡ true → first_is cs ≡ false → Holds kinds w → ⊥
headline_refuted w cs e named first h = legal_refuted w cs e named first h.legal

-- Messages that were sent are heard.

pub heard_is : (w : W) (k next rid : ℕ) (f : Msg → Bool) (x : Msg) → next ≤ rid → SentTo kinds w k rid x → f x ≡ true → heard w k next f ≡ true
heard_is w k next rid f x le s h =
    let r = s.number in
    passes_somewhere (λ (p : Packet). node_eq p.to (client_id k) && nat_le next p.rid && f p.msg) w.packets s.packet (has_contained w.packets s.packet s.sent)
    (both_and (node_eq s.packet.to (client_id k) && nat_le next s.packet.rid) (f s.packet.msg)
    (both_and (node_eq s.packet.to (client_id k)) (nat_le next s.packet.rid) (node_itself s.packet.to (client_id k) s.to) (of_le next s.packet.rid (omega (arith, le, r)))) (ap f s.says ∙ h))

pub heard_now_is : (w : W) (t : Told kinds) (f : Msg → Bool) (x : Msg) → SentNow kinds w t x → f x ≡ true → heard_now w t f ≡ true
heard_now_is w t f x s h = heard_is w t.mark.client t.noted.next s.rid f x s.now s.sent h

pub linked_refuted : (w : W) → linked w (es_of w) ≡ false → EntriesLinked kinds w → ⊥
linked_refuted w off claim =
    let x = some_off (λ (y : ℕ × Entry). heard w y.1.head.client 0 (is_issued y.0 (λ ls. links_eq ls y.1.head.streams))) (es_of w) off in
    let i = claim x.it.0 x.it.1 (in_log w x.it.0 x.it.1 x.has) in
    clash (heard w x.it.1.head.client 0 (is_issued x.it.0 (λ ls. links_eq ls x.it.1.head.streams)))
    (heard_is w x.it.1.head.client 0 i.rid (is_issued x.it.0 (λ ls. links_eq ls x.it.1.head.streams)) (msg.Issued x.it.0 x.it.1.head.streams) (omega arith) i.sent
    (both_and (x.it.0 == x.it.0) (links_eq x.it.1.head.streams x.it.1.head.streams) (number_same x.it.0 x.it.0 refl) ((links_exact x.it.1.head.streams x.it.1.head.streams).1 refl))) x.off

-- Layouts.

one_by : (w : W) → OneLayout kinds w → (qs : List (ℕ × Layout)) → ((x : ℕ × Layout) → Has qs x → Has (layouts w) x) → one_layout qs ≡ true
one_by w claim [] all = refl
one_by w claim (x ∷ qs) all =
    both_and (list_all (λ (y : ℕ × Layout). implies (x.0 == y.0) (ranges_eq x.1 y.1)) qs) (one_layout qs)
    (each_passes (λ (y : ℕ × Layout). implies (x.0 == y.0) (ranges_eq x.1 y.1)) qs (λ y i. so_then (x.0 == y.0) (ranges_eq x.1 y.1)
    (λ e. layout_itself x.1 y.1 (claim x.0 x.1 y.1 (layouts_decided w x (all x (inl refl)))
    (subst (λ (n : ℕ). IsDecided kinds w n y.1) (sym (same_number x.0 y.0 e)) (layouts_decided w y (all y (inr i))))))))
    (one_by w claim qs (λ y i. all y (inr i)))

pub one_layout_refuted : (w : W) → one_layout (layouts w) ≡ false → OneLayout kinds w → ⊥
one_layout_refuted w off claim = clash (one_layout (layouts w)) (one_by w claim (layouts w) (λ x i. i)) off

-- Replies.

abbrev pub past_off : W → Told kinds → WhatOf kinds → Bool
past_off w t (told.Past o q p a) = not (same.answers a (answer_at kinds w.cluster.objects (history kinds w) p o q))
past_off w t what = false

past_by : (w : W) (t : Told kinds) (what : WhatOf kinds) → Contains w.told t → t.mark.what ≡ what → past_off w t what ≡ true → PastTrue kinds w → ⊥
past_by w t (told.Past o q p a) c is h claim =
    not_both (same.answers a (answer_at kinds w.cluster.objects (history kinds w) p o q)) h ((sameness_exact.answers a (answer_at kinds w.cluster.objects (history kinds w) p o q)).1 (claim t o q p a c is))
past_by w t what c is h claim = absurd cc

abbrev pub some_past_off : W → Bool
some_past_off w = list_any (λ (t : Told kinds). past_off w t t.mark.what) w.told

pub past_refuted : (w : W) → some_past_off w ≡ true → PastTrue kinds w → ⊥
past_refuted w h claim = let x = found (λ (t : Told kinds). past_off w t t.mark.what) w.told h in past_by w x.it x.it.mark.what (contained_has w.told x.it x.has) refl x.passes claim

abbrev pub rescue_off : W → Entries → Told kinds → WhatOf kinds → Bool
rescue_off w es t (told.Rescued p (Some true)) = not (is_stamp kinds (history kinds w) p)
rescue_off w es t (told.Rescued p (Some false)) = is_stamp kinds (history kinds w) p
rescue_off w es t what = false

rescue_by : (w : W) (t : Told kinds) (what : WhatOf kinds) → Contains w.told t → t.mark.what ≡ what → rescue_off w (es_of w) t what ≡ true → RescueTrue kinds w → ⊥
rescue_by w t (told.Rescued p (Some true)) c is h claim = not_both (is_stamp kinds (history kinds w) p) h (claim.yes_told t p c is)
rescue_by w t (told.Rescued p (Some false)) c is h claim = clash (is_stamp kinds (history kinds w) p) h (claim.no_told t p c is).1
rescue_by w t what c is h claim = absurd cc

abbrev pub some_rescue_off : W → Bool
some_rescue_off w = list_any (λ (t : Told kinds). rescue_off w (es_of w) t t.mark.what) w.told

pub rescue_refuted : (w : W) → some_rescue_off w ≡ true → RescueTrue kinds w → ⊥
rescue_refuted w h claim = let x = found (λ (t : Told kinds). rescue_off w (es_of w) t t.mark.what) w.told h in rescue_by w x.it x.it.mark.what (contained_has w.told x.it x.has) refl x.passes claim

-- a trim tells another floor than that of any tail of its command; a mark tells what no transaction marked

abbrev pub floors_at : W → ℕ → ℕ → Bool
floors_at w n x = kinds.floor (directory_at w x) == n

-- a record without a decision record, of which no end of the log and no trim was told
abbrev pub is_unrecorded : W → Entries → ℕ → ℕ → Bool
is_unrecorded w es k p = not (has_decision es p) && not (heard w k 0 is_full_log) && not (heard w k 0 is_any_gone)

abbrev pub log_off : W → Entries → Told kinds → WhatOf kinds → Bool
log_off w es t (told.Trimmed n) = not (heard_now w t (is_tail (floors_at w n)))
log_off w es t (told.Marked o n) = not (list_any (does_mark o n) (history kinds w))
log_off w es t (told.Fate p (Some b)) = not (outcome_is w es p b)
log_off w es t (told.Decided p (Some b)) = needs_one es p && is_unrecorded w es t.mark.client p
log_off w es t (told.Committed p) = has_record es p t.mark.client t.mark.tx && needs_one es p && is_unrecorded w es t.mark.client p
log_off w es t what = false

decides_it : (p : ℕ) (says : Bool) (rest : Option Bool) → is_some (or_else (decides p (Decision p says)) rest) ≡ true
decides_it p says rest = ap (λ b. is_some (or_else (where_true b says) rest)) (number_same p p refl)

or_rest : (o rest : Option Bool) → is_some rest ≡ true → is_some (or_else o rest) ≡ true
or_rest None rest h = h
or_rest (Some b) rest h = refl

decision_there : (es : Entries) (p at : ℕ) (e : Entry) (says : Bool) → Has {X = ℕ × Entry} es (at, e) → e.body ≡ Decision p says → is_some (decision_in es p) ≡ true
unfolding decision_in
decision_there [] p at e says i is = absurd i
decision_there (x ∷ es) p at e says (inl k) is =
    subst (λ (b : Body). is_some (or_else (decides p b) (decision_in es p)) ≡ true) (sym is ∙ ap (λ (y : ℕ × Entry). y.1.body) k) (decides_it p says (decision_in es p))
decision_there (x ∷ es) p at e says (inr i) is = or_rest (decides p x.1.body) (decision_in es p) (decision_there es p at e says i is)

has_decision_there : (w : W) (p : ℕ) → HasDecision kinds w p → has_decision (es_of w) p ≡ true
has_decision_there w p d = decision_there (es_of w) p d.at d.entry d.is_yes (of_log w d.at d.entry d.here) d.decides

is_recorded : (w : W) (k p : ℕ) → Recorded kinds w k p → is_unrecorded w (es_of w) k p ≡ true → ⊥
is_recorded w k p r h =
    let b1 = and_both (not (has_decision (es_of w) p) && not (heard w k 0 is_full_log)) (not (heard w k 0 is_any_gone)) h in
    let b2 = and_both (not (has_decision (es_of w) p)) (not (heard w k 0 is_full_log)) b1.0 in
    elim r [
      | inl d ↦ not_both (has_decision (es_of w) p) b2.0 (has_decision_there w p d)
      | inr (inl e) ↦ not_both (heard w k 0 is_full_log) b2.1 (heard_is w k 0 e.full_at is_full_log (msg.Full e.limit) (omega arith) e.full refl)
      | inr (inr g) ↦ not_both (heard w k 0 is_any_gone) b1.1 (heard_is w k 0 g.gone_at is_any_gone (msg.Gone g.below) (omega arith) g.gone refl)
    ]

is_recorded_now : (w : W) (t : Told kinds) (p : ℕ) → RecordedNow kinds w t p → is_unrecorded w (es_of w) t.mark.client p ≡ true → ⊥
is_recorded_now w t p r h =
    let k = t.mark.client in
    let b1 = and_both (not (has_decision (es_of w) p) && not (heard w k 0 is_full_log)) (not (heard w k 0 is_any_gone)) h in
    let b2 = and_both (not (has_decision (es_of w) p)) (not (heard w k 0 is_full_log)) b1.0 in
    elim r [
      | inl d ↦ not_both (has_decision (es_of w) p) b2.0 (has_decision_there w p d)
      | inr (inl e) ↦ not_both (heard w k 0 is_full_log) b2.1 (heard_is w k 0 e.full.rid is_full_log (msg.Full e.limit) (omega arith) e.full.sent refl)
      | inr (inr g) ↦ not_both (heard w k 0 is_any_gone) b1.1 (heard_is w k 0 g.gone.rid is_any_gone (msg.Gone g.below) (omega arith) g.gone.sent refl)
    ]

-- a reply with those before and after it
record Cut (w : W) (t : Told kinds) : Type 0 where
  before : List (Told kinds)
  after : List (Told kinds)
  is : w.told ≡ before ++ t ∷ after

log_by : (w : W) (t : Told kinds) (what : WhatOf kinds) → Cut w t → Contains w.told t → t.mark.what ≡ what → log_off w (es_of w) t what ≡ true → Alike kinds w → ⊥
log_by w t (told.Trimmed n) cut c is h claim =
    let a = subst (λ (x : WhatOf kinds). LogAgrees kinds w t x) is (claim.marks t c) in
    not_both (heard_now w t (is_tail (floors_at w n))) h (heard_now_is w t (is_tail (floors_at w n)) (msg.Tail a.tail a.links) a.synced (number_same (kinds.floor (directory_at w a.tail)) n (sym a.floor)))
log_by w t (told.Marked o n) cut c is h claim =
    let m = claim.marked cut.before cut.after t o n cut.is is in
    not_both (list_any (does_mark o n) (history kinds w)) h (passes_somewhere (does_mark o n) (history kinds w) m.done (has_contained (history kinds w) m.done m.in_history)
    (passes_somewhere (λ (y : Oid × kinds.op). oid_eq y.0 directory && same.ops y.1 (kinds.mark_op o n)) m.done.writes (directory, kinds.mark_op o n) (has_contained m.done.writes (directory, kinds.mark_op o n) m.writes)
    (both_and (oid_eq directory directory) (same.ops (kinds.mark_op o n) (kinds.mark_op o n)) (oid_same directory directory refl) ((sameness_exact.ops (kinds.mark_op o n) (kinds.mark_op o n)).1 refl))))
log_by w t (told.Fate p (Some b)) cut c is h claim =
    not_both (outcome_is w (es_of w) p b) h (outcome_is_so w p b (subst (λ (x : WhatOf kinds). LogAgrees kinds w t x) is (claim.marks t c)))
log_by w t (told.Decided p (Some b)) cut c is h claim =
    let n = and_both (needs_one (es_of w) p) (is_unrecorded w (es_of w) t.mark.client p) h in
    let e = entry_found (es_of w) p needs_decision n.0 in
    is_recorded_now w t p (claim.decided_recorded t p b e.entry c is (in_log w p e.entry e.here) e.passes) n.1
log_by w t (told.Committed p) cut c is h claim =
    let b1 = and_both (has_record (es_of w) p t.mark.client t.mark.tx && needs_one (es_of w) p) (is_unrecorded w (es_of w) t.mark.client p) h in
    let b2 = and_both (has_record (es_of w) p t.mark.client t.mark.tx) (needs_one (es_of w) p) b1.0 in
    let e = entry_found (es_of w) p needs_decision b2.1 in
    is_recorded w t.mark.client p (claim.committed_recorded t p e.entry c is (record_found w p t.mark.client t.mark.tx b2.0) (in_log w p e.entry e.here) e.passes) b1.1
log_by w t what cut c is h claim = absurd cc

abbrev pub some_alike_off : W → Bool
some_alike_off w = list_any (λ (t : Told kinds). log_off w (es_of w) t t.mark.what) w.told

pub alike_refuted : (w : W) → some_alike_off w ≡ true → Alike kinds w → ⊥
alike_refuted w h claim =
    let x = found (λ (t : Told kinds). log_off w (es_of w) t t.mark.what) w.told h in
    let s = cut_at w.told x.it x.has in
    log_by w x.it x.it.mark.what (record { before = s.before; after = s.after; is = s.is }) (contained_has w.told x.it x.has) refl x.passes claim

-- Aborts.

abbrev pub abort_off : W → Entries → WhatOf kinds → Bool
abort_off w es (told.Aborted p o k seen now) = not (list_all (is_least w o k seen p) es)
abort_off w es what = false

abort_by : (w : W) (t : Told kinds) (what : WhatOf kinds) → Contains w.told t → t.mark.what ≡ what → abort_off w (es_of w) what ≡ true → AbortsLeast kinds w → ⊥
abort_by w t (told.Aborted p o k seen now) c is h claim =
    let x = some_off (is_least w o k seen p) (es_of w) (not_true (list_all (is_least w o k seen p) (es_of w)) h) in
    let named : ReadMark = record { oid = o; part = k; version = seen } in
    let d = off_parts (x.it.0 == p) (list_all (λ (r : ReadMark). implies (read_before r named) (version kinds (log kinds w) r.oid r.part p == r.version)) (reads_of x.it.1)) x.off in
    let y = some_off (λ (r : ReadMark). implies (read_before r named) (version kinds (log kinds w) r.oid r.part p == r.version)) (reads_of x.it.1) d.1 in
    let f = off_parts (read_before y.it named) (version kinds (log kinds w) y.it.oid y.it.part p == y.it.version) y.off in
    let here = in_log w p x.it.1 (subst (λ (n : ℕ). Has {X = ℕ × Entry} (es_of w) (n, x.it.1)) (same_number x.it.0 p d.0) x.has) in
    clash (version kinds (log kinds w) y.it.oid y.it.part p == y.it.version)
    (number_same (version kinds (log kinds w) y.it.oid y.it.part p) y.it.version (claim t p o k seen now x.it.1 y.it c is here (contained_has (reads_of x.it.1) y.it y.has) f.0)) f.1
abort_by w t what c is h claim = absurd cc

abbrev pub some_aborts_off : W → Bool
some_aborts_off w = list_any (λ (t : Told kinds). abort_off w (es_of w) t.mark.what) w.told

pub aborts_refuted : (w : W) → some_aborts_off w ≡ true → AbortsLeast kinds w → ⊥
aborts_refuted w h claim = let x = found (λ (t : Told kinds). abort_off w (es_of w) t.mark.what) w.told h in abort_by w x.it x.it.mark.what (contained_has w.told x.it x.has) refl x.passes claim

-- Checkpoints: one whose state isn't the history's.

abbrev checkpoint_off : W → Entry → Body → Bool
checkpoint_off w e (Checkpoint o u v whole keys state) = (e.head.format == 2) && not (bytes_eq state (kinds.save (state_at kinds w.cluster.objects (history kinds w) u o)))
checkpoint_off w e body = false

abbrev pub some_checkpoint_off : W → Bool
some_checkpoint_off w = list_any (λ (x : ℕ × Entry). checkpoint_off w x.1 x.1.body) (es_of w)

checkpoint_by : (w : W) (p : ℕ) (e : Entry) (b : Body) → HasEntry kinds w p e → e.body ≡ b → checkpoint_off w e b ≡ true → CheckpointsTrue kinds w → ⊥
checkpoint_by w p e (Checkpoint o u v whole keys state) here is h claim =
    let b = and_both (e.head.format == 2) (not (bytes_eq state (kinds.save (state_at kinds w.cluster.objects (history kinds w) u o)))) h in
    let c = claim p e o u v whole keys state here (same_number e.head.format 2 b.0) is in
    not_both (bytes_eq state (kinds.save (state_at kinds w.cluster.objects (history kinds w) u o))) b.1
    (subst (λ (x : List ℕ). bytes_eq state x ≡ true) c.saved (bytes_itself state))
checkpoint_by w p e (Commit rs ws) here is h claim = absurd cc
checkpoint_by w p e (Decision at says) here is h claim = absurd cc

pub checkpoints_refuted : (w : W) → some_checkpoint_off w ≡ true → CheckpointsTrue kinds w → ⊥
checkpoints_refuted w h claim =
    let x = found (λ (y : ℕ × Entry). checkpoint_off w y.1 y.1.body) (es_of w) h in
    checkpoint_by w x.it.0 x.it.1 x.it.1.body (in_log w x.it.0 x.it.1 x.has) refl x.passes claim

-- Clients: of a list, each stands at some number.

at_default : {X : Type 0} → (xs : List X) (x d : X) (k : ℕ) → k < length xs → slice_index_or xs k x ≡ slice_index_or xs k d
at_default [] x d k less = absurd (omega (arith, less))
at_default (y ∷ xs) x d zero less = refl
at_default (y ∷ xs) x d (suc k) less = at_default xs x d k (omega (arith, less))

client_of : (w : W) (c : Client kinds) → Has w.clients c → (k : ℕ) × (client kinds w k ≡ c)
client_of w c i =
    let n = contained_has w.clients c i in
    (n.0, sym (at_default w.clients c (new_client kinds w.cluster n.0) n.0 n.1) ∙ n.2)

abbrev pub is_dir : State → Bool
is_dir (Dir ns f) = true
is_dir s = false

named_itself : (a : Named) → named_eq a a ≡ true
named_itself a = both_and (bytes_eq a.name a.name && oid_eq a.oid a.oid) (a.mark == a.mark)
    (both_and (bytes_eq a.name a.name) (oid_eq a.oid a.oid) (bytes_itself a.name) (oid_same a.oid a.oid refl)) (number_same a.mark a.mark refl)

names_themselves : (xs : List Named) → pointwise named_eq xs xs ≡ true
names_themselves [] = refl
names_themselves (x ∷ xs) = both_and (named_eq x x) (pointwise named_eq xs xs) (named_itself x) (names_themselves xs)

dir_itself : (s : State) → is_dir s ≡ true → states_eq s s ≡ true
dir_itself (Dir ns f) h = both_and (pointwise named_eq ns ns) (f == f) (names_themselves ns) (number_same f f refl)
dir_itself s h = absurd cc

abbrev directory_off : W → Client kinds → Bool
directory_off w c = is_dir c.dir && not (states_eq c.dir (directory_at w c.played))

abbrev pub some_directory_off : W → Bool
some_directory_off w = list_any (directory_off w) w.clients

pub directories_refuted : (w : W) → some_directory_off w ≡ true → DirectoryTrue kinds w → ⊥
directories_refuted w h claim =
    let x = found (directory_off w) w.clients h in
    let k = client_of w x.it x.has in
    let b = and_both (is_dir x.it.dir) (not (states_eq x.it.dir (directory_at w x.it.played))) x.passes in
    let e = subst (λ (c : Client kinds). c.dir ≡ directory_at w c.played) k.1 (claim k.0) in
    not_both (states_eq x.it.dir (directory_at w x.it.played)) b.1 (subst (λ (s : State). states_eq x.it.dir s ≡ true) e (dir_itself x.it.dir b.0))

-- Cells.

cell_itself : (c : Cell) → cell_eq c c ≡ true
unfolding cell_eq
cell_itself Junk = refl
cell_itself (Data d) = bytes_itself d

abbrev is_cell : ℕ × Cell → ℕ × Cell → Bool
is_cell x y = (x.0 == y.0) && cell_eq x.1 y.1

abbrev pub some_cell_lost : W → W → Bool
some_cell_lost w v = list_any (λ (x : ℕ × Cell). not (list_any (is_cell x) (log kinds v))) (log kinds w)

pub stays_refuted : (w v : W) → some_cell_lost w v ≡ true → LogStays kinds w v → ⊥
stays_refuted w v h claim =
    let x = found (λ (y : ℕ × Cell). not (list_any (is_cell y) (log kinds v))) (log kinds w) h in
    not_both (list_any (is_cell x.it) (log kinds v)) x.passes
    (passes_somewhere (is_cell x.it) (log kinds v) x.it (has_contained {X = ℕ × Cell} (log kinds v) x.it (claim x.it.0 x.it.1 (contained_has {X = ℕ × Cell} (log kinds w) x.it x.has)))
    (both_and (x.it.0 == x.it.0) (cell_eq x.it.1 x.it.1) (number_same x.it.0 x.it.0 refl) (cell_itself x.it.1)))

-- a position below the floor that a client has played, without a cell
abbrev bare_at : W → ℕ → Bool
bare_at w p = not (list_any (λ (y : ℕ × Cell). p == y.0) (log kinds w))

abbrev floor_off : W → Client kinds → Bool
floor_off w c = list_any (λ p. nat_lt p (kinds.floor (directory_at w c.played)) && bare_at w p) (numbers (kinds.floor (directory_at w c.played)) 0)

abbrev pub some_floor_off : W → Bool
some_floor_off w = list_any (floor_off w) w.clients

no_cell : (w : W) (p : ℕ) → bare_at w p ≡ true → HasCell kinds w p → ⊥
no_cell w p h c =
    not_both (list_any (λ (y : ℕ × Cell). p == y.0) (log kinds w)) h
    (passes_somewhere (λ (y : ℕ × Cell). p == y.0) (log kinds w) (p, c.0) (has_contained {X = ℕ × Cell} (log kinds w) (p, c.0) c.1) (number_same p p refl))

pub floors_refuted : (w : W) → some_floor_off w ≡ true → FloorsStay kinds w → ⊥
floors_refuted w h claim =
    let x = found (floor_off w) w.clients h in
    let k = client_of w x.it x.has in
    let p = found (λ (n : ℕ). nat_lt n (kinds.floor (directory_at w x.it.played)) && bare_at w n) (numbers (kinds.floor (directory_at w x.it.played)) 0) x.passes in
    let b = and_both (nat_lt p.it (kinds.floor (directory_at w x.it.played))) (bare_at w p.it) p.passes in
    let at = subst (λ (c : Client kinds). (q : ℕ) → q < kinds.floor (directory_at w c.played) → HasCell kinds w q) k.1 (claim k.0) in
    no_cell w p.it b.1 (at p.it (lt_of p.it (kinds.floor (directory_at w x.it.played)) b.0))

-- a unit that has trimmed more than the log has

abbrev trim_off : W → UnitState → Bool
trim_off w u = list_any (λ p. nat_lt p u.low && bare_at w p) (numbers u.low 0)

abbrev pub some_trim_off : W → Bool
some_trim_off w = list_any (trim_off w) w.units

unit_of : (w : W) (u : UnitState) → Has w.units u → (k : ℕ) × (unit kinds w k ≡ u)
unit_of w u i =
    let n = contained_has w.units u i in
    (n.0, sym (at_default w.units u new_unit n.0 n.1) ∙ n.2)

pub trims_refuted : (w : W) → some_trim_off w ≡ true → TrimsSpare kinds w → ⊥
trims_refuted w h claim =
    let x = found (trim_off w) w.units h in
    let k = unit_of w x.it x.has in
    let p = found (λ (n : ℕ). nat_lt n x.it.low && bare_at w n) (numbers x.it.low 0) x.passes in
    let b = and_both (nat_lt p.it x.it.low) (bare_at w p.it) p.passes in
    let at = subst (λ (u : UnitState). (q : ℕ) → q < u.low → HasCell kinds w q) k.1 (claim.whole k.0) in
    no_cell w p.it b.1 (at p.it (lt_of p.it x.it.low b.0))
