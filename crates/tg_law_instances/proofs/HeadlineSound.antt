-- Tests of a world that passed prove the headline of it: `Holds`; and a fault that is found refutes `Legal`.
use Rattle.std.proofs.Common.{◌≡◌, ◌⊎◌, ℕ, ◌≤◌, List, [], ◌∷◌, ◌++◌, Bool, true, false, Option, Some, None, refl, sym, ap, ◌∙◌, subst, inl, inr, arith}
use Rattle.std.specs.Prelude.{◌+◌, ◌&&◌, ◌==◌, not, nat_lt, nat_le, is_some, Contains, if◌then◌else◌, ◌≢◌}
use Rattle.std.specs.List.{list_any, list_all}
use Rattle.tg_base.specs.Layouts.{Layout}
use Rattle.tg_base.specs.declared.ids.Oid.{Oid}
use Rattle.tg_base.specs.declared.marks.Part.{Part}
use Rattle.tg_base.specs.declared.msg.Msg.{Msg}
use Rattle.tg_base.specs.declared.msg.Msg.TheVariants as msg
use Rattle.tg_base.specs.declared.packet.Packet.{Packet}
use Rattle.tg_entry.specs.declared.entry.Body.{Body}
use Rattle.tg_entry.specs.declared.entry.Body.TheVariants.{Commit, Decision, Checkpoint}
use Rattle.tg_entry.specs.declared.entry.Entry.{Entry}
use Rattle.tg_model.specs.declared.refusal.Refusal.TheVariants as cause
use Rattle.tg_model.specs.declared.trace.What.TheVariants as told
use Rattle.tg_model.specs.Kinds.{MarkOf, WhatOf, DoneOf}
use Rattle.tg_model.specs.Stores.{Rises, answer_at, is_stamp, state_at}
use Rattle.tg_model.specs.Traces.{put_of, puts_of, has_items}
use Rattle.tg_model.specs.Legal.{Legal}
use Rattle.tg_model.specs.Verdicts.{Fault, fault}
use Rattle.tg_protocol.specs.Words.{client_id, unit_id, seqr_id, directory, where_true}
use Rattle.tg_base.specs.Orders.{oid_eq, node_eq}
use Rattle.tg_protocol.specs.Layouts.{units_of}
use Rattle.tg_protocol.specs.Trimming.{has_stripe}
use Rattle.tg_entry.specs.Needs.{needs_decision}
use Rattle.tg_protocol.specs.Views.{View, fate_of}
use Rattle.tg_protocol.specs.Logs.{outcome}
use Rattle.tg_protocol.specs.Clients.{Client, new_client}
use Rattle.tg_protocol.specs.Worlds.{Told, unit, client, log, history, trace}
use Rattle.tg_protocol.specs.Chosen.{IsDecided}
use Rattle.tg_protocol.specs.Alike.{HasEntry, HasRecord, Outcome, SavedAt, UnitsTrimmed, TrimmedTo, CopiedBy, LogAgrees, OfTx, MarkedBy, HeardTail, HeardLater, InstalledBy, OvertakenBy, MetEnd, MetTrim, Recorded, MetEndNow, MetTrimNow, RecordedNow, Alike, PastTrue, RescueTrue}
use Rattle.tg_protocol.specs.Headline.{Holds}
use Rattle.tg_law_verdicts.proofs.Legality.{verdicts_are_true}
use Rattle.tg_law_instances.proofs.Small.{clash, is_none, never, of_some}
use Rattle.tg_law_verdicts.proofs.Members.{Has, has_contained, contained_has, joined, and_both, both_and, not_true, found, all_pass}
use Rattle.tg_law_verdicts.proofs.Tests.{same_number, number_same, same_oid, le_of, lt_of}
use Rattle.tg_law_examples.proofs.SevenKinds.{kinds}
use Rattle.tg_law_examples.proofs.Sameness.{same}
use Rattle.tg_law_instances.proofs.Same.{sameness_exact, nodes_same}
use Rattle.tg_law_instances.proofs.Sound.{rises_sound}
use Rattle.tg_law_instances.proofs.Readings.{then_so, either_so, has_mapped, index_or, entry_found, entry_is_here, es_of, in_log, of_log, record_found, record_is_there, commit_found, outcome_found, decision_found, fate_kept, Heard, heard_found, sent_found, sent_to, sent_now, issued_is, some_issued, tail_is, full_is, gone_is, later_is, layouts_decided}
use Rattle.tg_law_instances.proofs.Tests.{Claim, W, implies, heard, heard_now, is_any_gone, is_full_log, is_tail, is_issued, is_any_issued, is_later, entry_here, rises, once, linked, records_own, has_record, has_commit, has_decision, marks_rest, trims_spare, floors_stay, directories, checkpoints, outcome_is, decision_true, fates_of, decisions, layouts, one_layout, latest_decided, follow, is_trimmed, is_look, tells_whole, answered, is_saved, needs_one, sent_from, issued_at, then_full, then_gone, then_issued_and_gone, met_end, met_end_now, recorded, recorded_now, rescued_so, is_least, heard_new, overtakes, agrees, does_mark, commits_mark, marked_by, of_client, this_or, last_of, mark_follows, marks_follow, all_agree, in_order, fails, failed, world_tests, world_fails}

-- A world that passes all tests.

pub record Passed (w : W) : Type 0 where
  pub stamps : rises (history kinds w) ≡ true
  pub no_fault : not (is_some (fault kinds same w.cluster.objects (history kinds w) (trace kinds w))) ≡ true
  pub stand_once : once (es_of w) ≡ true
  pub are_linked : linked w (es_of w) ≡ true
  pub are_own : records_own w (es_of w) ≡ true
  pub spare : trims_spare w (log kinds w) (es_of w) ≡ true
  pub stay : floors_stay w (log kinds w) ≡ true
  pub played : directories w ≡ true
  pub saved : checkpoints w (es_of w) ≡ true
  pub outcomes : decisions w (es_of w) ≡ true
  pub decided : (one_layout (layouts w) && latest_decided w (layouts w)) ≡ true
  pub followed : follow w (layouts w) ≡ true
  pub replies : all_agree w (es_of w) (layouts w) ≡ true
  pub marks : marks_rest w (es_of w) ≡ true
  pub ordered : in_order w (es_of w) ≡ true

unfoldable pub AllPass : List (Claim × Bool) → Type 0
AllPass [] = Unit {0}
AllPass (x ∷ xs) = (x.1 ≡ true) × AllPass xs

pub passed : (c : Claim) (b : Bool) (rest : List Claim) → fails c b ++ rest ≡ [] → (b ≡ true) × (rest ≡ [])
passed c true rest e = (refl, e)
passed c false rest e = absurd cc

pub none_fail : (xs : List (Claim × Bool)) → failed xs ≡ [] → AllPass xs
unfolding AllPass
none_fail [] e = tt
none_fail (x ∷ xs) e = let p = passed x.0 x.1 (failed xs) e in (p.0, none_fail xs p.1)

pub passed_all : (w : W) → world_fails w ≡ [] → Passed w
unfolding world_fails AllPass
passed_all w e =
    let a0 = none_fail (world_tests w (log kinds w) (es_of w) (layouts w)) e in
    let a1 = a0.1 in let a2 = a1.1 in let a3 = a2.1 in let a4 = a3.1 in let a5 = a4.1 in let a6 = a5.1 in let a7 = a6.1 in
    let a8 = a7.1 in let a9 = a8.1 in let b0 = a9.1 in let b1 = b0.1 in let b2 = b1.1 in let b3 = b2.1 in let b4 = b3.1 in
    record {
      stamps = a0.0;
      no_fault = a1.0;
      stand_once = a2.0;
      are_linked = a3.0;
      are_own = a4.0;
      spare = a5.0;
      stay = a6.0;
      played = a7.0;
      saved = a8.0;
      outcomes = a9.0;
      decided = b0.0;
      followed = b1.0;
      replies = b2.0;
      marks = b3.0;
      ordered = b4.0;
    }

-- Legal runs, and runs with a fault.

pub rises_of : (w : W) → rises (history kinds w) ≡ true → Rises kinds (history kinds w)
rises_of w e = rises_sound (history kinds w) e

pub legal_sound : (w : W) → rises (history kinds w) ≡ true → not (is_some (fault kinds same w.cluster.objects (history kinds w) (trace kinds w))) ≡ true
    → Legal kinds w.cluster.objects (history kinds w) (trace kinds w)
legal_sound w r e =
    (verdicts_are_true kinds same w.cluster.objects (history kinds w) (trace kinds w) sameness_exact (rises_of w r)).0
    (is_none (fault kinds same w.cluster.objects (history kinds w) (trace kinds w)) e)

pub illegal_sound : (w : W) (f : Fault) → rises (history kinds w) ≡ true → fault kinds same w.cluster.objects (history kinds w) (trace kinds w) ≡ Some f
    → Legal kinds w.cluster.objects (history kinds w) (trace kinds w) → ⊥
illegal_sound w f r e legal =
    let none = (verdicts_are_true kinds same w.cluster.objects (history kinds w) (trace kinds w) sameness_exact (rises_of w r)).1 legal in
    never f (sym none ∙ e)

-- What is said of a reply, by the tests of all of them.

abbrev Agrees : W → Told kinds → WhatOf kinds → Type 0
Agrees w t what = agrees w (es_of w) (layouts w) t what ≡ true

pub agrees_at : (w : W) → all_agree w (es_of w) (layouts w) ≡ true → (t : Told kinds) (what : WhatOf kinds) → Contains w.told t → t.mark.what ≡ what → Agrees w t what
agrees_at w h t what c is =
    let b = and_both (list_all (λ (u : Told kinds). agrees w (es_of w) (layouts w) u u.mark.what) w.told) (marks_follow w [] w.told) h in
    subst (λ (x : WhatOf kinds). Agrees w t x) is (all_pass (λ (u : Told kinds). agrees w (es_of w) (layouts w) u u.mark.what) w.told b.0 t (has_contained w.told t c))

-- Checkpoints that were saved.

abbrev saves_it : W → Told kinds → Oid → ℕ → Entry → Bool
saves_it w t o u e = (e.head.client == t.mark.client) && is_saved w (es_of w) t o u e.body

record Saves (e : Entry) (o : Oid) (u : ℕ) : Type 0 where
  version : ℕ
  whole : ℕ
  keys : List (Part × ℕ)
  state : List ℕ
  saves : e.body ≡ Checkpoint o u version whole keys state

saves_by : (w : W) (t : Told kinds) (o : Oid) (u : ℕ) (e : Entry) (b : Body) → e.body ≡ b → is_saved w (es_of w) t o u b ≡ true → Saves e o u
saves_by w t o u e (Checkpoint p v a c ks s) is h =
    let b = and_both (oid_eq o p) (u == v) h in
    let x = sym (same_oid o p b.0) in
    let y = sym (same_number u v b.1) in
    record { version = a; whole = c; keys = ks; state = s; saves = is ∙ (λ i. Checkpoint (x i) (y i) a c ks s) }
saves_by w t o u e (Commit rs ws) is h = absurd cc
saves_by w t o u e (Decision p b) is h = absurd cc

pub saved_of : (w : W) (t : Told kinds) (o : Oid) (p u : ℕ) → Agrees w t (told.Saved o p u) → SavedAt kinds w t o p u
saved_of w t o p u h =
    let b = and_both (entry_here (es_of w) p (saves_it w t o u) && heard_now w t (is_issued p (λ ls. true))) (heard_now w t (is_tail (λ x. x == u))) h in
    let c = and_both (entry_here (es_of w) p (saves_it w t o u)) (heard_now w t (is_issued p (λ ls. true))) b.0 in
    let a = entry_found (es_of w) p (saves_it w t o u) c.0 in
    let d = and_both (a.entry.head.client == t.mark.client) (is_saved w (es_of w) t o u a.entry.body) a.passes in
    let s = saves_by w t o u a.entry a.entry.body refl d.1 in
    let hi = heard_found w t.mark.client t.noted.next (is_issued p (λ ls. true)) c.1 in
    let ii = issued_is p (λ ls. true) hi.packet.msg hi.passes in
    let ht = heard_found w t.mark.client t.noted.next (is_tail (λ x. x == u)) b.1 in
    let it = tail_is (λ x. x == u) ht.packet.msg ht.passes in
    let tail = it.is ∙ ap (λ (n : ℕ). msg.Tail n it.links) (same_number it.tail u it.passes) in
    record {
      entry = a.entry;
      version = s.version;
      whole = s.whole;
      keys = s.keys;
      state = s.state;
      here = in_log w p a.entry a.here;
      by = same_number a.entry.head.client t.mark.client d.0;
      saves = s.saves;
      issued_links = ii.links;
      issued = sent_now w t (is_issued p (λ ls. true)) (msg.Issued p ii.links) hi ii.is;
      tail_links = it.links;
      tail = sent_now w t (is_tail (λ x. x == u)) (msg.Tail u it.links) ht tail;
    }

-- Trims.

abbrev trims_all : W → ℕ → ℕ → ℕ × Layout → Bool
trims_all w e0 n x = nat_le e0 x.0 && list_all (λ u. nat_le n (unit kinds w u).low) (units_of x.1)

units_trimmed : (w : W) (e0 n : ℕ) → is_trimmed w (layouts w) e0 n ≡ true → UnitsTrimmed kinds w e0 n
units_trimmed w e0 n h =
    let x = found (trims_all w e0 n) (layouts w) h in
    let b = and_both (nat_le e0 x.it.0) (list_all (λ u. nat_le n (unit kinds w u).low) (units_of x.it.1)) x.passes in
    record {
      epoch = x.it.0;
      later = le_of e0 x.it.0 b.0;
      layout = x.it.1;
      decided = layouts_decided w x.it x.has;
      units = λ u c. le_of n (unit kinds w u).low (all_pass (λ (v : ℕ). nat_le n (unit kinds w v).low) (units_of x.it.1) b.1 u (has_contained (units_of x.it.1) u c));
    }

abbrev floor_is : W → ℕ → ℕ → Bool
floor_is w n x = kinds.floor (state_at kinds w.cluster.objects (history kinds w) x directory) == n

trimmed_by : (w : W) (t : Told kinds) (n : ℕ) → Agrees w t (told.Trimmed n) → TrimmedTo kinds w t n
trimmed_by w t n h =
    let b = and_both (heard_now w t (is_tail (floor_is w n))) (is_trimmed w (layouts w) t.noted.epoch n) h in
    let ht = heard_found w t.mark.client t.noted.next (is_tail (floor_is w n)) b.0 in
    let it = tail_is (floor_is w n) ht.packet.msg ht.passes in
    record {
      tail = it.tail;
      links = it.links;
      synced = sent_now w t (is_tail (floor_is w n)) (msg.Tail it.tail it.links) ht it.is;
      floor = sym (same_number (kinds.floor (state_at kinds w.cluster.objects (history kinds w) it.tail directory)) n it.passes);
      units = units_trimmed w t.noted.epoch n b.1;
    }

-- Copies.

pub look_is : (x y : Msg) → is_look x y ≡ true → y ≡ x
look_is (msg.Has e a b s) (msg.Has f c d u) h =
    let h1 = and_both ((e == f) && (a == c) && (b == d)) (s == u) h in
    let h2 = and_both ((e == f) && (a == c)) (b == d) h1.0 in
    let h3 = and_both (e == f) (a == c) h2.0 in
    let e0 = sym (same_number e f h3.0) in
    let e1 = sym (same_number a c h3.1) in
    let e2 = sym (same_number b d h2.1) in
    let e3 = sym (same_number s u h1.1) in
    λ i. msg.Has (e0 i) (e1 i) (e2 i) (e3 i)
look_is x y h = absurd cc

pub whole_is : (x : Msg) → tells_whole x ≡ true → x ≡ msg.Whole
whole_is msg.Whole h = refl
whole_is x h = absurd cc

abbrev asks_it : Told kinds → ℕ → (Msg → Bool) → Packet → Bool
asks_it t u asks p = node_eq p.from (client_id t.mark.client) && node_eq p.to (unit_id u) && nat_le t.noted.next p.rid && asks p.msg

abbrev answers_it : Told kinds → ℕ → (Msg → Bool) → Packet → Packet → Bool
answers_it t u says p q = node_eq q.from (unit_id u) && node_eq q.to (client_id t.mark.client) && (q.rid == p.rid) && says q.msg

-- a request of a command, and a unit's answer to it
pub record AnsweredBy (w : W) (t : Told kinds) (asks : Msg → Bool) (u : ℕ) (says : Msg → Bool) : Type 0 where
  pub rid : ℕ
  pub now : t.noted.next ≤ rid
  pub request : Msg
  pub asked : asks request ≡ true
  pub was_asked : Has w.packets (record { from = client_id t.mark.client; to = unit_id u; rid = rid; msg = request })
  pub answer : Msg
  pub said : says answer ≡ true
  pub was_answered : Has w.packets (record { from = unit_id u; to = client_id t.mark.client; rid = rid; msg = answer })

pub answered_found : (w : W) (t : Told kinds) (asks : Msg → Bool) (u : ℕ) (says : Msg → Bool) → answered w t asks u says ≡ true → AnsweredBy w t asks u says
answered_found w t asks u says h =
    let x = found (λ (p : Packet). asks_it t u asks p && list_any (answers_it t u says p) w.packets) w.packets h in
    let b = and_both (asks_it t u asks x.it) (list_any (answers_it t u says x.it) w.packets) x.passes in
    let b1 = and_both (node_eq x.it.from (client_id t.mark.client) && node_eq x.it.to (unit_id u) && nat_le t.noted.next x.it.rid) (asks x.it.msg) b.0 in
    let b2 = and_both (node_eq x.it.from (client_id t.mark.client) && node_eq x.it.to (unit_id u)) (nat_le t.noted.next x.it.rid) b1.0 in
    let b3 = and_both (node_eq x.it.from (client_id t.mark.client)) (node_eq x.it.to (unit_id u)) b2.0 in
    let y = found (answers_it t u says x.it) w.packets b.1 in
    let c1 = and_both (node_eq y.it.from (unit_id u) && node_eq y.it.to (client_id t.mark.client) && (y.it.rid == x.it.rid)) (says y.it.msg) y.passes in
    let c2 = and_both (node_eq y.it.from (unit_id u) && node_eq y.it.to (client_id t.mark.client)) (y.it.rid == x.it.rid) c1.0 in
    let c3 = and_both (node_eq y.it.from (unit_id u)) (node_eq y.it.to (client_id t.mark.client)) c2.0 in
    let xf = nodes_same x.it.from (client_id t.mark.client) b3.0 in
    let xt = nodes_same x.it.to (unit_id u) b3.1 in
    let yf = nodes_same y.it.from (unit_id u) c3.0 in
    let yt = nodes_same y.it.to (client_id t.mark.client) c3.1 in
    let yr = same_number y.it.rid x.it.rid c2.1 in
    record {
      rid = x.it.rid;
      now = le_of t.noted.next x.it.rid b2.1;
      request = x.it.msg;
      asked = b1.1;
      was_asked = subst (λ (p : Packet). Has w.packets p) (λ i. record { from = xf i; to = xt i; rid = x.it.rid; msg = x.it.msg }) x.has;
      answer = y.it.msg;
      said = c1.1;
      was_answered = subst (λ (p : Packet). Has w.packets p) (λ i. record { from = yf i; to = yt i; rid = yr i; msg = y.it.msg }) y.has;
    }

copied_by : (w : W) (t : Told kinds) (u r s : ℕ) → Agrees w t (told.Copied u r s) → CopiedBy kinds w t u r s
copied_by w t u r s h =
    let x = found (λ (y : ℕ × Layout). answered w t (is_look (has_stripe y.0 y.1 r s)) u tells_whole) (layouts w) h in
    let a = answered_found w t (is_look (has_stripe x.it.0 x.it.1 r s)) u tells_whole x.passes in
    let look = look_is (has_stripe x.it.0 x.it.1 r s) a.request a.asked in
    let whole = whole_is a.answer a.said in
    record {
      epoch = x.it.0;
      layout = x.it.1;
      decided = layouts_decided w x.it x.has;
      asked = a.rid;
      now = a.now;
      look = contained_has w.packets (record { from = client_id t.mark.client; to = unit_id u; rid = a.rid; msg = has_stripe x.it.0 x.it.1 r s })
          (subst (λ (y : Msg). Has w.packets (record { from = client_id t.mark.client; to = unit_id u; rid = a.rid; msg = y })) look a.was_asked);
      whole = contained_has w.packets (record { from = unit_id u; to = client_id t.mark.client; rid = a.rid; msg = msg.Whole })
          (subst (λ (y : Msg). Has w.packets (record { from = unit_id u; to = client_id t.mark.client; rid = a.rid; msg = y })) whole a.was_answered);
    }

-- What a reply tells of the log.

pub aborted_by : (w : W) (t : Told kinds) (p : ℕ) (o : Oid) (k : Part) (seen now : ℕ) → Agrees w t (told.Aborted p o k seen now)
    → (HasRecord kinds w p t.mark.client t.mark.tx × (outcome kinds (log kinds w) p ≡ false)) × ((recorded w (es_of w) t p ≡ true) × (list_all (is_least w o k seen p) (es_of w) ≡ true))
aborted_by w t p o k seen now h =
    let b1 = and_both (has_record (es_of w) p t.mark.client t.mark.tx && outcome_is w (es_of w) p false && recorded w (es_of w) t p) (list_all (is_least w o k seen p) (es_of w)) h in
    let b2 = and_both (has_record (es_of w) p t.mark.client t.mark.tx && outcome_is w (es_of w) p false) (recorded w (es_of w) t p) b1.0 in
    let b3 = and_both (has_record (es_of w) p t.mark.client t.mark.tx) (outcome_is w (es_of w) p false) b2.0 in
    ((record_found w p t.mark.client t.mark.tx b3.0, (outcome_found w p false b3.1).1), (b2.1, b1.1))

log_agrees : (w : W) (t : Told kinds) (what : WhatOf kinds) → Agrees w t what → LogAgrees kinds w t what
log_agrees w t (told.Fate p (Some b)) h = outcome_found w p b h
log_agrees w t (told.Decided p (Some b)) h = outcome_found w p b (and_both (outcome_is w (es_of w) p b) (recorded_now w (es_of w) t p) h).0
log_agrees w t (told.Aborted p o k seen now) h = (aborted_by w t p o k seen now h).0
log_agrees w t (told.Unsure p q) h =
    let b = and_both (has_record (es_of w) p t.mark.client t.mark.tx) (has_commit (es_of w) q) h in
    (record_found w p t.mark.client t.mark.tx b.0, commit_found w q b.1)
log_agrees w t (told.Saved o p u) h = saved_of w t o p u h
log_agrees w t (told.Trimmed n) h = trimmed_by w t n h
log_agrees w t (told.Copied u r s) h = copied_by w t u r s h
log_agrees w t what h = tt

-- Commits.

put_if : (k x client tx : ℕ) (o : Oid) (op : kinds.op) (ws : List (Oid × kinds.op)) → client ≡ k → tx ≡ x → has_items kinds (put_of kinds k x client tx (told.Put o op) ws) ≡ true
put_if k x client tx o op ws c n = ap (λ b. has_items kinds (if b then (o, op) ∷ ws else ws)) (both_and (k == client) (x == tx) (number_same k client (sym c)) (number_same x tx (sym n)))

items_if : (b : Bool) (y : Oid × kinds.op) (ws : List (Oid × kinds.op)) → has_items kinds ws ≡ true → has_items kinds (if b then y ∷ ws else ws) ≡ true
items_if true y ws h = refl
items_if false y ws h = h

put_more : (k x client tx : ℕ) (what : WhatOf kinds) (ws : List (Oid × kinds.op)) → has_items kinds ws ≡ true → has_items kinds (put_of kinds k x client tx what ws) ≡ true
put_more k x client tx (told.Put o op) ws h = items_if ((k == client) && (x == tx)) (o, op) ws h
put_more k x client tx what ws h = h

put_in : (ts : List (MarkOf kinds)) (k x : ℕ) (o : Oid) (op : kinds.op) (t : MarkOf kinds) → Has ts t → t.client ≡ k → t.tx ≡ x → t.what ≡ told.Put o op → has_items kinds (puts_of kinds ts k x) ≡ true
unfolding puts_of
put_in [] k x o op t i c n is = absurd i
put_in (u ∷ ts) k x o op t (inl e) c n is =
    subst (λ (what : WhatOf kinds). has_items kinds (put_of kinds k x u.client u.tx what (puts_of kinds ts k x)) ≡ true) (sym is ∙ ap (λ (y : MarkOf kinds). y.what) e)
    (put_if k x u.client u.tx o op (puts_of kinds ts k x) (ap (λ (y : MarkOf kinds). y.client) (sym e) ∙ c) (ap (λ (y : MarkOf kinds). y.tx) (sym e) ∙ n))
put_in (u ∷ ts) k x o op t (inr i) c n is = put_more k x u.client u.tx u.what (puts_of kinds ts k x) (put_in ts k x o op t i c n is)

puts_there : (w : W) (k x : ℕ) (o : Oid) (op : kinds.op) → OfTx kinds w k x (told.Put o op) → has_items kinds (puts_of kinds (trace kinds w) k x) ≡ true
puts_there w k x o op u = put_in (trace kinds w) k x o op u.told.mark (has_mapped (λ (t : Told kinds). t.mark) w.told u.told (has_contained w.told u.told u.here)) u.client u.number u.says

pub commits_by : (w : W) (t : Told kinds) (p : ℕ) → Agrees w t (told.Committed p) → has_items kinds (puts_of kinds (trace kinds w) t.mark.client t.mark.tx) ≡ true
    → HasRecord kinds w p t.mark.client t.mark.tx × (outcome kinds (log kinds w) p ≡ true)
commits_by w t p h has =
    let b = and_both (implies (has_items kinds (puts_of kinds (trace kinds w) t.mark.client t.mark.tx)) (has_record (es_of w) p t.mark.client t.mark.tx && outcome_is w (es_of w) p true)) (recorded w (es_of w) t p) h in
    let c = then_so (has_items kinds (puts_of kinds (trace kinds w) t.mark.client t.mark.tx)) (has_record (es_of w) p t.mark.client t.mark.tx && outcome_is w (es_of w) p true) b.0 has in
    let d = and_both (has_record (es_of w) p t.mark.client t.mark.tx) (outcome_is w (es_of w) p true) c in
    (record_found w p t.mark.client t.mark.tx d.0, (outcome_found w p true d.1).1)

-- Records that need a decision record.

met_end_by : (w : W) (k p : ℕ) (x : Packet) → Has (issued_at w k p) x → then_full w k x ≡ true → MetEnd kinds w k p
met_end_by w k p x i h =
    let s = sent_found w k 0 (is_issued p (λ ls. true)) x i in
    let n = issued_is p (λ ls. true) s.heard.packet.msg s.heard.passes in
    let f = heard_found w k (x.rid + 1) is_full_log h in
    let l = full_is f.packet.msg f.passes in
    let r = ap (λ (y : Packet). y.rid) s.is in
    let now = f.now in
    record {
      rid = s.heard.packet.rid;
      links = n.links;
      issued = sent_to w k 0 (is_issued p (λ ls. true)) (msg.Issued p n.links) s.heard n.is;
      full_at = f.packet.rid;
      limit = l.limit;
      full = sent_to w k (x.rid + 1) is_full_log (msg.Full l.limit) f l.is;
      later = omega (arith, r, now);
    }

met_trim_by : (w : W) (k p : ℕ) (x y : Packet) → Has (issued_at w k p) x → Has (sent_from w k (x.rid + 1) is_any_issued) y → then_gone w k y ≡ true → MetTrim kinds w k p
met_trim_by w k p x y i j h =
    let s = sent_found w k 0 (is_issued p (λ ls. true)) x i in
    let n = issued_is p (λ ls. true) s.heard.packet.msg s.heard.passes in
    let a = sent_found w k (x.rid + 1) is_any_issued y j in
    let m = some_issued a.heard.packet.msg a.heard.passes in
    let f = heard_found w k (y.rid + 1) is_any_gone h in
    let g = gone_is f.packet.msg f.passes in
    let r = ap (λ (z : Packet). z.rid) s.is in
    let q = ap (λ (z : Packet). z.rid) a.is in
    let now = a.heard.now in
    let later = f.now in
    record {
      rid = s.heard.packet.rid;
      links = n.links;
      issued = sent_to w k 0 (is_issued p (λ ls. true)) (msg.Issued p n.links) s.heard n.is;
      again_at = a.heard.packet.rid;
      pos = m.pos;
      more = m.links;
      again = sent_to w k (x.rid + 1) is_any_issued (msg.Issued m.pos m.links) a.heard m.is;
      gone_at = f.packet.rid;
      below = g.below;
      gone = sent_to w k (y.rid + 1) is_any_gone (msg.Gone g.below) f g.is;
      order = (omega (arith, r, now), omega (arith, q, later));
    }

met_found : (w : W) (k p : ℕ) → met_end w k p ≡ true → MetEnd kinds w k p ⊎ MetTrim kinds w k p
met_found w k p h =
    elim (either_so (list_any (then_full w k) (issued_at w k p)) (list_any (then_issued_and_gone w k) (issued_at w k p)) h) [
      | inl a ↦ (let x = found (then_full w k) (issued_at w k p) a in inl (met_end_by w k p x.it x.has x.passes))
      | inr b ↦ (let x = found (then_issued_and_gone w k) (issued_at w k p) b in
          let y = found (then_gone w k) (sent_from w k (x.it.rid + 1) is_any_issued) x.passes in
          inr (met_trim_by w k p x.it y.it x.has y.has y.passes))
    ]

met_now_found : (w : W) (t : Told kinds) → met_end_now w t.mark.client t.noted.next ≡ true → MetEndNow kinds w t ⊎ MetTrimNow kinds w t
met_now_found w t h =
    elim (either_so (heard w t.mark.client t.noted.next is_full_log) (list_any (then_gone w t.mark.client) (sent_from w t.mark.client t.noted.next is_any_issued)) h) [
      | inl a ↦ inl (end_by a)
      | inr b ↦ inr (trim_by (found (then_gone w t.mark.client) (sent_from w t.mark.client t.noted.next is_any_issued) b).it
          (found (then_gone w t.mark.client) (sent_from w t.mark.client t.noted.next is_any_issued) b).has (found (then_gone w t.mark.client) (sent_from w t.mark.client t.noted.next is_any_issued) b).passes)
    ]
  where
    end_by : heard w t.mark.client t.noted.next is_full_log ≡ true → MetEndNow kinds w t
    end_by a =
        let f = heard_found w t.mark.client t.noted.next is_full_log a in
        let l = full_is f.packet.msg f.passes in
        record { limit = l.limit; full = sent_now w t is_full_log (msg.Full l.limit) f l.is }

    trim_by : (x : Packet) → Has (sent_from w t.mark.client t.noted.next is_any_issued) x → then_gone w t.mark.client x ≡ true → MetTrimNow kinds w t
    trim_by x i g =
        let s = sent_found w t.mark.client t.noted.next is_any_issued x i in
        let m = some_issued s.heard.packet.msg s.heard.passes in
        let f = heard_found w t.mark.client (x.rid + 1) is_any_gone g in
        let b = gone_is f.packet.msg f.passes in
        let r = ap (λ (z : Packet). z.rid) s.is in
        let old = s.heard.now in
        let later = f.now in
        record {
          pos = m.pos;
          links = m.links;
          issued = record { rid = s.heard.packet.rid; now = old; sent = sent_to w t.mark.client t.noted.next is_any_issued (msg.Issued m.pos m.links) s.heard m.is };
          below = b.below;
          gone = record { rid = f.packet.rid; now = omega (arith, r, old, later); sent = sent_to w t.mark.client (x.rid + 1) is_any_gone (msg.Gone b.below) f b.is };
          order = omega (arith, r, later);
        }

abbrev when_needed : Bool → Bool → Bool → Bool
when_needed needs has met = elim needs as (λ _. Bool) [ false ↦ true | true ↦ elim has as (λ _. Bool) [ true ↦ true | false ↦ met ] ]

needed : (needs has met : Bool) → needs ≡ true → when_needed needs has met ≡ true → (has ≡ true) ⊎ (met ≡ true)
needed true true met n h = inl refl
needed true false met n h = inr h
needed false has met n h = absurd cc

recorded_by : (w : W) (t : Told kinds) (p : ℕ) (e : Entry) → recorded w (es_of w) t p ≡ true → HasRecord kinds w p t.mark.client t.mark.tx → HasEntry kinds w p e → needs_decision e ≡ true
    → Recorded kinds w t.mark.client p
recorded_by w t p e h r here needs =
    let n = both_and (has_record (es_of w) p t.mark.client t.mark.tx) (needs_one (es_of w) p) (record_is_there w p t.mark.client t.mark.tx r) (entry_is_here (es_of w) p needs_decision e (of_log w p e here) needs) in
    elim (needed (has_record (es_of w) p t.mark.client t.mark.tx && needs_one (es_of w) p) (has_decision (es_of w) p) (met_end w t.mark.client p) n h) [
      | inl a ↦ inl (decision_found w p a)
      | inr b ↦ inr (met_found w t.mark.client p b)
    ]

recorded_now_by : (w : W) (t : Told kinds) (p : ℕ) (e : Entry) → recorded_now w (es_of w) t p ≡ true → HasEntry kinds w p e → needs_decision e ≡ true → RecordedNow kinds w t p
recorded_now_by w t p e h here needs =
    elim (needed (needs_one (es_of w) p) (has_decision (es_of w) p) (met_end_now w t.mark.client t.noted.next) (entry_is_here (es_of w) p needs_decision e (of_log w p e here) needs) h) [
      | inl a ↦ inl (decision_found w p a)
      | inr b ↦ inr (met_now_found w t b)
    ]

-- Marks.

-- a list cut at the last reply of a client
record LastOf (k : ℕ) (ts : List (Told kinds)) (u : Told kinds) : Type 0 where
  earlier : List (Told kinds)
  between : List (Told kinds)
  split : ts ≡ earlier ++ u ∷ between
  of : u.mark.client ≡ k
  others : (t : Told kinds) → Has between t → t.mark.client ≢ k

last_more : (k : ℕ) (t : Told kinds) (ts : List (Told kinds)) (u : Told kinds) → LastOf k ts u → LastOf k (t ∷ ts) u
last_more k t ts u l = record { earlier = t ∷ l.earlier; between = l.between; split = ap (λ us. t ∷ us) l.split; of = l.of; others = l.others }

or_not : (t : Told kinds) (k : ℕ) (o : Option (Told kinds)) → this_or k t o ≡ None → (o ≡ None) × (of_client k t ≡ false)
or_not t k (Some u) e = absurd cc
or_not t k None e = (refl, by (of_client k t) refl e)
  where
    by : (b : Bool) → of_client k t ≡ b → where_true b t ≡ None → of_client k t ≡ false
    by true s f = absurd cc
    by false s f = s

nobody : (k : ℕ) (ts : List (Told kinds)) → last_of k ts ≡ None → (t : Told kinds) → Has ts t → t.mark.client ≢ k
nobody k [] e t i is = absurd i
nobody k (u ∷ ts) e t (inl s) is =
    let b = or_not u k (last_of k ts) e in
    let y = number_same t.mark.client k is in
    let z = ap (λ (v : Told kinds). of_client k v) s in
    absurd (clash (of_client k t) y (z ∙ b.1))
nobody k (u ∷ ts) e t (inr i) is = nobody k ts (or_not u k (last_of k ts) e).0 t i is

last_by : (k : ℕ) (t : Told kinds) (ts : List (Told kinds)) (u : Told kinds) (o : Option (Told kinds)) → last_of k ts ≡ o → ((v : Told kinds) → last_of k ts ≡ Some v → LastOf k ts v) → this_or k t o ≡ Some u → LastOf k (t ∷ ts) u
last_by k t ts u (Some v) is rest e = last_more k t ts u (rest u (is ∙ e))
last_by k t ts u None is rest e = by (of_client k t) refl e
  where
    by : (b : Bool) → of_client k t ≡ b → where_true b t ≡ Some u → LastOf k (t ∷ ts) u
    by true s f =
        let same_one = of_some t u f in
        record {
          earlier = [];
          between = ts;
          split = ap (λ v. v ∷ ts) same_one;
          of = ap (λ (v : Told kinds). v.mark.client) (sym same_one) ∙ same_number t.mark.client k s;
          others = nobody k ts is;
        }
    by false s f = absurd (never u f)

last_found : (k : ℕ) (ts : List (Told kinds)) (u : Told kinds) → last_of k ts ≡ Some u → LastOf k ts u
last_found k [] u e = absurd (never u e)
last_found k (t ∷ ts) u e = last_by k t ts u (last_of k ts) refl (last_found k ts) e

marks_writes : (o : Oid) (n : ℕ) (d : DoneOf kinds) → does_mark o n d ≡ true → Contains d.writes (directory, kinds.mark_op o n)
marks_writes o n d h =
    let x = found (λ (y : Oid × kinds.op). oid_eq y.0 directory && same.ops y.1 (kinds.mark_op o n)) d.writes h in
    let b = and_both (oid_eq x.it.0 directory) (same.ops x.it.1 (kinds.mark_op o n)) x.passes in
    let e0 = same_oid x.it.0 directory b.0 in
    let e1 = (sameness_exact.ops x.it.1 (kinds.mark_op o n)).0 b.1 in
    contained_has d.writes (directory, kinds.mark_op o n) (subst (λ (y : Oid × kinds.op). Has d.writes y) (λ i. (e0 i, e1 i)) x.has)

record CommitsMark (w : W) (o : Oid) (n : ℕ) (t : Told kinds) : Type 0 where
  at : ℕ
  committed : t.mark.what ≡ told.Committed at
  done : DoneOf kinds
  in_history : Contains (history kinds w) done
  of : (done.client ≡ t.mark.client) × (done.number ≡ t.mark.tx)
  stamp : done.stamp ≡ at
  writes : Contains done.writes (directory, kinds.mark_op o n)

commits_by_mark : (w : W) (o : Oid) (n : ℕ) (t : Told kinds) (what : WhatOf kinds) → t.mark.what ≡ what → commits_mark w o n t what ≡ true → CommitsMark w o n t
commits_by_mark w o n t (told.Committed p) is h =
    let x = found (λ (d : DoneOf kinds). (d.stamp == p) && (d.client == t.mark.client) && (d.number == t.mark.tx) && does_mark o n d) (history kinds w) h in
    let b1 = and_both ((x.it.stamp == p) && (x.it.client == t.mark.client) && (x.it.number == t.mark.tx)) (does_mark o n x.it) x.passes in
    let b2 = and_both ((x.it.stamp == p) && (x.it.client == t.mark.client)) (x.it.number == t.mark.tx) b1.0 in
    let b3 = and_both (x.it.stamp == p) (x.it.client == t.mark.client) b2.0 in
    record {
      at = p;
      committed = is;
      done = x.it;
      in_history = contained_has (history kinds w) x.it x.has;
      of = (same_number x.it.client t.mark.client b3.1, same_number x.it.number t.mark.tx b2.1);
      stamp = same_number x.it.stamp p b3.0;
      writes = marks_writes o n x.it b1.1;
    }
commits_by_mark w o n t what is h = absurd cc

marked_found : (w : W) (before : List (Told kinds)) (k : ℕ) (o : Oid) (n : ℕ) (x : Option (Told kinds)) → last_of k before ≡ x → marked_by w o n x ≡ true → MarkedBy kinds w before k o n
marked_found w before k o n None is h = absurd cc
marked_found w before k o n (Some u) is h =
    let l = last_found k before u is in
    let c = commits_by_mark w o n u u.mark.what refl h in
    record {
      earlier = l.earlier;
      last = u;
      between = l.between;
      split = l.split;
      of_client = l.of;
      others = λ t i. l.others t (has_contained l.between t i);
      at = c.at;
      committed = c.committed;
      done = c.done;
      in_history = c.in_history;
      of = (c.of.0 ∙ l.of, c.of.1);
      stamp = c.stamp;
      writes = c.writes;
    }

follows_at : (w : W) (front ts before after : List (Told kinds)) (t : Told kinds) → marks_follow w front ts ≡ true → ts ≡ before ++ t ∷ after → mark_follows w (front ++ before) t.mark.client t.mark.what ≡ true
follows_at w front ts [] after t h is =
    let g = subst (λ (us : List (Told kinds)). marks_follow w front us ≡ true) is h in
    let b = and_both (mark_follows w front t.mark.client t.mark.what) (marks_follow w (front ++ t ∷ []) after) g in
    subst (λ (us : List (Told kinds)). mark_follows w us t.mark.client t.mark.what ≡ true) (sym (nothing_after front)) b.0
  where
    nothing_after : (xs : List (Told kinds)) → xs ++ [] ≡ xs
    nothing_after [] = refl
    nothing_after (x ∷ xs) = ap (λ ys. x ∷ ys) (nothing_after xs)
follows_at w front ts (u ∷ before) after t h is =
    let g = subst (λ (us : List (Told kinds)). marks_follow w front us ≡ true) is h in
    let b = and_both (mark_follows w front u.mark.client u.mark.what) (marks_follow w (front ++ u ∷ []) (before ++ t ∷ after)) g in
    subst (λ (us : List (Told kinds)). mark_follows w us t.mark.client t.mark.what ≡ true) (joined front u before) (follows_at w (front ++ u ∷ []) (before ++ t ∷ after) before after t b.1 refl)

marks_by : (w : W) → all_agree w (es_of w) (layouts w) ≡ true → (before after : List (Told kinds)) (t : Told kinds) (o : Oid) (n : ℕ) → w.told ≡ before ++ t ∷ after → t.mark.what ≡ told.Marked o n
    → MarkedBy kinds w before t.mark.client o n
marks_by w h before after t o n split is =
    let b = and_both (list_all (λ (u : Told kinds). agrees w (es_of w) (layouts w) u u.mark.what) w.told) (marks_follow w [] w.told) h in
    let f = follows_at w [] w.told before after t b.1 split in
    marked_found w before t.mark.client o n (last_of t.mark.client before) refl (subst (λ (what : WhatOf kinds). mark_follows w before t.mark.client what ≡ true) is f)

-- Reconfigurations.

abbrev installs : W → Told kinds → ℕ → ℕ × Layout → Bool
installs w t e x = (x.0 == e) && (x.1.by == t.mark.client) && nat_lt t.noted.epoch e && heard_new w t e x.1

abbrev tails_new : Told kinds → Layout → Packet → Bool
tails_new t q p = node_eq p.from (seqr_id q.seq) && node_eq p.to (client_id t.mark.client) && nat_le t.noted.next p.rid && is_tail (λ x. true) p.msg

new_heard : (w : W) (t : Told kinds) (e : ℕ) (q : Layout) → heard_new w t e q ≡ true → HeardTail kinds w t q ⊎ HeardLater kinds w t e
new_heard w t e q h =
    elim (either_so (heard w t.mark.client 0 (is_later e)) (list_any (tails_new t q) w.packets) h) [
      | inl a ↦ inr (later_by (heard_found w t.mark.client 0 (is_later e) a))
      | inr b ↦ inl (tail_by (found (tails_new t q) w.packets b).it (found (tails_new t q) w.packets b).has (found (tails_new t q) w.packets b).passes)
    ]
  where
    later_by : Heard w t.mark.client 0 (is_later e) → HeardLater kinds w t e
    later_by f =
        let l = later_is e f.packet.msg f.passes in
        record { proj = l.layout; rid = f.packet.rid; sent = sent_to w t.mark.client 0 (is_later e) (msg.Latest l.layout) f l.is; later = l.later }

    tail_by : (p : Packet) → Has w.packets p → tails_new t q p ≡ true → HeardTail kinds w t q
    tail_by p i g =
        let b1 = and_both (node_eq p.from (seqr_id q.seq) && node_eq p.to (client_id t.mark.client) && nat_le t.noted.next p.rid) (is_tail (λ x. true) p.msg) g in
        let b2 = and_both (node_eq p.from (seqr_id q.seq) && node_eq p.to (client_id t.mark.client)) (nat_le t.noted.next p.rid) b1.0 in
        let b3 = and_both (node_eq p.from (seqr_id q.seq)) (node_eq p.to (client_id t.mark.client)) b2.0 in
        let a = tail_is (λ x. true) p.msg b1.1 in
        record {
          packet = p;
          sent = contained_has w.packets p i;
          from = nodes_same p.from (seqr_id q.seq) b3.0;
          to = nodes_same p.to (client_id t.mark.client) b3.1;
          now = le_of t.noted.next p.rid b2.1;
          tail = a.tail;
          links = a.links;
          says = a.is;
        }

installed_by : (w : W) (t : Told kinds) (e : ℕ) → Agrees w t (told.Installed e) → InstalledBy kinds w t e
installed_by w t e h =
    let x = found (installs w t e) (layouts w) h in
    let b1 = and_both ((x.it.0 == e) && (x.it.1.by == t.mark.client) && nat_lt t.noted.epoch e) (heard_new w t e x.it.1) x.passes in
    let b2 = and_both ((x.it.0 == e) && (x.it.1.by == t.mark.client)) (nat_lt t.noted.epoch e) b1.0 in
    let b3 = and_both (x.it.0 == e) (x.it.1.by == t.mark.client) b2.0 in
    record {
      decided_for = record { proj = x.it.1; is = subst (λ (n : ℕ). IsDecided kinds w n x.it.1) (same_number x.it.0 e b3.0) (layouts_decided w x.it x.has); later = lt_of t.noted.epoch e b2.1 };
      own = same_number x.it.1.by t.mark.client b3.1;
      heard = new_heard w t e x.it.1 b1.1;
    }

pub overtaken_by : (w : W) (t : Told kinds) (e : ℕ) → Agrees w t (told.Refused (cause.Overtaken e)) → OvertakenBy kinds w t e
overtaken_by w t e h =
    let x = found (overtakes t e) (layouts w) h in
    let b2 = and_both ((x.it.0 == e) && not (x.it.1.by == t.mark.client)) (nat_lt t.noted.epoch e) x.passes in
    let b3 = and_both (x.it.0 == e) (not (x.it.1.by == t.mark.client)) b2.0 in
    record {
      decided_for = record { proj = x.it.1; is = subst (λ (n : ℕ). IsDecided kinds w n x.it.1) (same_number x.it.0 e b3.0) (layouts_decided w x.it x.has); later = lt_of t.noted.epoch e b2.1 };
      other = λ s. clash (x.it.1.by == t.mark.client) (number_same x.it.1.by t.mark.client s) (not_true (x.it.1.by == t.mark.client) b3.1);
    }

-- Decision records, and the fates of kept views.

decision_so : (w : W) (x : ℕ × Entry) (p : ℕ) (b : Bool) → x.1.body ≡ Decision p b → decision_true w (es_of w) x.1.body ≡ true → Outcome kinds w p b
decision_so w x p b is h = outcome_found w p b (subst (λ (y : Body). decision_true w (es_of w) y ≡ true) is h)

fate_so : (w : W) (p : ℕ) (v : View kinds) (b : Bool) (c : Client kinds) → list_all (λ (x : ℕ × Bool). outcome_is w (es_of w) x.0 x.1) (fates_of c.view) ≡ true → c.view ≡ Some v → fate_of kinds v p ≡ Some b → Outcome kinds w p b
fate_so w p v b c h is f =
    let g = subst (λ (o : Option (View kinds)). list_all (λ (x : ℕ × Bool). outcome_is w (es_of w) x.0 x.1) (fates_of o) ≡ true) is h in
    outcome_found w p b (all_pass (λ (x : ℕ × Bool). outcome_is w (es_of w) x.0 x.1) v.fates g (p, b) (fate_kept v.fates p b f))

new_view : (w : W) (k : ℕ) → (new_client kinds w.cluster k).view ≡ None
unfolding new_client
new_view w k = refl

fates_so : (w : W) (k p : ℕ) (v : View kinds) (b : Bool) → list_all (λ (c : Client kinds). list_all (λ (x : ℕ × Bool). outcome_is w (es_of w) x.0 x.1) (fates_of c.view)) w.clients ≡ true
    → (client kinds w k).view ≡ Some v → fate_of kinds v p ≡ Some b → Outcome kinds w p b
fates_so w k p v b h is f =
    elim (index_or w.clients k (new_client kinds w.cluster k)) [
      | inl i ↦ fate_so w p v b (client kinds w k) (all_pass (λ (c : Client kinds). list_all (λ (x : ℕ × Bool). outcome_is w (es_of w) x.0 x.1) (fates_of c.view)) w.clients h (client kinds w k) i) is f
      | inr e ↦ absurd (never v (sym (ap (λ (c : Client kinds). c.view) e ∙ new_view w k) ∙ is))
    ]

-- All of it.

pub alike_sound : (w : W) → decisions w (es_of w) ≡ true → all_agree w (es_of w) (layouts w) ≡ true → Alike kinds w
alike_sound w d a =
    let b = and_both (list_all (λ (x : ℕ × Entry). decision_true w (es_of w) x.1.body) (es_of w))
    (list_all (λ (c : Client kinds). list_all (λ (x : ℕ × Bool). outcome_is w (es_of w) x.0 x.1) (fates_of c.view)) w.clients) d in
    record {
      decisions = λ at p e y here is. decision_so w (at, e) p y is (all_pass (λ (x : ℕ × Entry). decision_true w (es_of w) x.1.body) (es_of w) b.0 (at, e) (of_log w at e here));
      fates = λ k p v y is f. fates_so w k p v y b.1 is f;
      marks = λ t c. log_agrees w t t.mark.what (agrees_at w a t t.mark.what c refl);
      committed = λ t p o op c is u. commits_by w t p (agrees_at w a t (told.Committed p) c is) (puts_there w t.mark.client t.mark.tx o op u);
      marked = marks_by w a;
      installed = λ t e c is. installed_by w t e (agrees_at w a t (told.Installed e) c is);
      overtaken = λ t e c is. overtaken_by w t e (agrees_at w a t (told.Refused (cause.Overtaken e)) c is);
      committed_recorded = λ t p e c is r here needs. recorded_by w t p e
          (and_both (implies (has_items kinds (puts_of kinds (trace kinds w) t.mark.client t.mark.tx)) (has_record (es_of w) p t.mark.client t.mark.tx && outcome_is w (es_of w) p true)) (recorded w (es_of w) t p)
          (agrees_at w a t (told.Committed p) c is)).1 r here needs;
      aborted_recorded = λ t p o k seen now e c is here needs.
          let x = aborted_by w t p o k seen now (agrees_at w a t (told.Aborted p o k seen now) c is) in recorded_by w t p e x.1.0 x.0.0 here needs;
      decided_recorded = λ t p y e c is here needs. recorded_now_by w t p e (and_both (outcome_is w (es_of w) p y) (recorded_now w (es_of w) t p) (agrees_at w a t (told.Decided p (Some y)) c is)).1 here needs;
    }

pub past_sound : (w : W) → all_agree w (es_of w) (layouts w) ≡ true → PastTrue kinds w
past_sound w h t o q p a c is = (sameness_exact.answers a (answer_at kinds w.cluster.objects (history kinds w) p o q)).0 (agrees_at w h t (told.Past o q p a) c is)

pub rescue_sound : (w : W) → all_agree w (es_of w) (layouts w) ≡ true → RescueTrue kinds w
rescue_sound w h = record {
  yes_told = λ t p c is. (and_both (is_stamp kinds (history kinds w) p) (implies (needs_one (es_of w) p) (has_decision (es_of w) p)) (agrees_at w h t (told.Rescued p (Some true)) c is)).0;
  no_told = λ t p c is.
      let b = and_both (rescued_so w (es_of w) p false) (implies (needs_one (es_of w) p) (has_decision (es_of w) p)) (agrees_at w h t (told.Rescued p (Some false)) c is) in
      let d = and_both (has_commit (es_of w) p) (not (is_stamp kinds (history kinds w) p)) b.0 in
      (commit_found w p d.0, not_true (is_stamp kinds (history kinds w) p) d.1);
  recorded = λ t p y e c is here needs.
      let b = and_both (rescued_so w (es_of w) p y) (implies (needs_one (es_of w) p) (has_decision (es_of w) p)) (agrees_at w h t (told.Rescued p (Some y)) c is) in
      decision_found w p (then_so (needs_one (es_of w) p) (has_decision (es_of w) p) b.1 (entry_is_here (es_of w) p needs_decision e (of_log w p e here) needs));
}

pub holds_sound : (w : W) → world_fails w ≡ [] → Holds kinds w
holds_sound w e =
    let p = passed_all w e in
    record { rises = rises_of w p.stamps; legal = legal_sound w p.stamps p.no_fault; alike = alike_sound w p.outcomes p.replies; past = past_sound w p.replies; rescues = rescue_sound w p.replies }
