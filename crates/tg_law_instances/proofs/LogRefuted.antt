-- Tests that failed refute what is claimed of the one log, and of what clients read: of changed worlds.
use Rattle.std.proofs.Common.{◌≡◌, ℕ, zero, suc, ◌<◌, ◌≤◌, List, [], ◌∷◌, ◌++◌, Bool, true, false, Option, Some, None, refl, sym, ap, ◌∙◌, subst, inl, inr, arith}
use Rattle.std.specs.Prelude.{◌+◌, ◌&&◌, ◌||◌, ◌==◌, ◌≢◌, not, nat_lt, nat_le, max, map, Contains}
use Rattle.std.specs.List.{list_any, list_all}
use Rattle.tg_base.specs.Layouts.{Layout}
use Rattle.tg_base.specs.Clusters.{Header}
use Rattle.tg_base.specs.declared.ids.NodeId.{NodeId}
use Rattle.tg_base.specs.declared.ids.Oid.{Oid}
use Rattle.tg_base.specs.declared.marks.StreamLink.{StreamLink}
use Rattle.tg_base.specs.declared.msg.Msg.{Msg}
use Rattle.tg_base.specs.declared.msg.Msg.TheVariants as msg
use Rattle.tg_base.specs.declared.packet.Packet.{Packet}
use Rattle.tg_entry.specs.declared.entry.Entry.{Entry}
use Rattle.tg_model.specs.declared.command.Command.TheVariants as cmd
use Rattle.tg_model.specs.declared.command.Event.TheVariants.{Command as Commands}
use Rattle.tg_model.specs.declared.trace.What.TheVariants as told
use Rattle.tg_model.specs.Kinds.{MarkOf, WhatOf, DoneOf}
use Rattle.tg_model.specs.Traces.{Trace, Tells, puts_of, has_items, point_of}
use Rattle.tg_model.specs.Legal.{HasNoAsk}
use Rattle.tg_proj.specs.Refusals.{new_start}
use Rattle.tg_base.specs.Orders.{node_eq}
use Rattle.tg_protocol.specs.Words.{client_id, unit_id, has_num, numbers}
use Rattle.tg_protocol.specs.Layouts.{units_of}
use Rattle.tg_protocol.specs.Entries.{is_commit}
use Rattle.tg_protocol.specs.Logs.{path}
use Rattle.tg_protocol.specs.Checkpoints.{base_at}
use Rattle.tg_protocol.specs.Clients.{Client, Work, new_client}
use Rattle.tg_protocol.specs.Worlds.{Told, start, client, latest, log, history, trace}
use Rattle.tg_protocol.specs.Runs.{Moves, Takes, run}
use Rattle.tg_protocol.specs.Chosen.{IsDecided, LatestDecided}
use Rattle.tg_protocol.specs.Following.{LayoutsFollow}
use Rattle.tg_protocol.specs.Alike.{HasRecord}
use Rattle.tg_protocol.specs.Holding.{append_by, EntriesOwn, RecordsOwn, HasItsRecord, RepliesHaveRecords, RecordsInOrder, SerialFirst, HasBasePast, MarksRest}
use Rattle.tg_protocol.specs.Playing.{OnPath, ReadsOnPath}
use Rattle.tg_law_instances.proofs.Small.{never}
use Rattle.tg_law_verdicts.proofs.Members.{differ, Has, joined, has_contained, contained_has, and_both, both_and, found, passes_somewhere, all_pass}
use Rattle.tg_law_verdicts.proofs.Tests.{same_number, number_same, lt_of, of_le}
use Rattle.tg_law_examples.proofs.SevenKinds.{kinds}
use Rattle.tg_law_instances.proofs.Same.{nodes_same, node_itself, layout_itself}
use Rattle.tg_law_instances.proofs.Readings.{then_so, either_so, index_or, es_of, in_log, of_log, record_is_there, decided_listed, layouts_decided}
use Rattle.tg_law_instances.proofs.Refuted.{not_both}
use Rattle.tg_law_instances.proofs.Tests.{W, implies, told_of, is_end, has_record, has_base_past, base_reaches, layouts, ranges_eq, read_pos, on_links, tail_links, on_path, is_client}

-- Layouts.

abbrev is_latest : W → ℕ × Layout → Bool
is_latest w x = (x.0 == (latest kinds w).epoch) && ranges_eq x.1 (latest kinds w)

-- the layout over which the log is read is none of those that were decided
abbrev pub latest_off : W → Bool
latest_off w = not (list_any (is_latest w) (layouts w))

pub latest_refuted : (w : W) → latest_off w ≡ true → LatestDecided kinds w → ⊥
latest_refuted w h claim =
    let q = latest kinds w in
    not_both (list_any (is_latest w) (layouts w)) h
    (passes_somewhere (is_latest w) (layouts w) (q.epoch, q) (decided_listed w q.epoch q claim.decided)
    (both_and (q.epoch == q.epoch) (ranges_eq q q) (number_same q.epoch q.epoch refl) (layout_itself q q refl)))

abbrev seals_above : Layout → Msg → Bool
seals_above q (msg.Sealed e h) = implies (e == q.epoch) (nat_lt q.start h)
seals_above q x = true

abbrev sealed_above : W → Layout → ℕ → Bool
sealed_above w q u = list_all (λ (p : Packet). implies (node_eq p.from (unit_id u)) (seals_above q p.msg)) w.packets

-- a unit of a decided layout was sealed above the layout's start
abbrev follows_off : W → ℕ × Layout → Bool
follows_off w y = nat_lt 1 y.0 && list_any (sealed_above w y.1) (units_of y.1)

abbrev pub some_follows_off : W → Bool
some_follows_off w = list_any (follows_off w) (layouts w)

max_above : (s a b : ℕ) → a ≤ s → a ≤ max s b
max_above s a b le = omega (arith, le)

starts_above : (acks : List (ℕ × ℕ)) (s n : ℕ) → n ≤ s → n ≤ new_start s acks
starts_above [] s n le = le
starts_above (a ∷ acks) s n le = starts_above acks (max s a.1) n (max_above s n a.1 le)

acks_above : (us : List ℕ) (high : ℕ → ℕ) (u s : ℕ) → Has us u → high u ≤ new_start s (map (λ v. (v, high v)) us)
acks_above [] high u s i = absurd i
acks_above (v ∷ us) high u s (inl e) =
    let is = ap high e in
    starts_above (map (λ n. (n, high n)) us) (max s (high v)) (high u) (omega (arith, is))
acks_above (v ∷ us) high u s (inr i) = acks_above us high u (max s (high v)) i

next_epoch : (e : ℕ) → 1 < e → (d : ℕ) × (d + 1 ≡ e) × (0 < d)
next_epoch zero less = absurd (omega (arith, less))
next_epoch (suc d) less = (d, omega arith, omega (arith, less))

pub follows_refuted : (w : W) → some_follows_off w ≡ true → LayoutsFollow kinds w → ⊥
follows_refuted w h claim =
    let y = found (follows_off w) (layouts w) h in
    let q = y.it.1 in
    let b = and_both (nat_lt 1 y.it.0) (list_any (sealed_above w q) (units_of q)) y.passes in
    let u = found (sealed_above w q) (units_of q) b.1 in
    let d = next_epoch y.it.0 (lt_of 1 y.it.0 b.0) in
    let n = sym d.1 in
    let p = claim d.0 q d.2 (subst (λ (e : ℕ). IsDecided kinds w e q) n (layouts_decided w y.it y.has)) in
    let f = p.follows in
    let s = f.were_sealed u.it (contained_has (units_of q) u.it u.has) in
    let t = then_so (node_eq s.packet.from (unit_id u.it)) (seals_above q s.packet.msg)
    (all_pass (λ (z : Packet). implies (node_eq z.from (unit_id u.it)) (seals_above q z.msg)) w.packets u.passes s.packet (has_contained w.packets s.packet s.sent)) (node_itself s.packet.from (unit_id u.it) s.from) in
    let above = lt_of q.start (f.high u.it) (then_so (q.epoch == q.epoch) (nat_lt q.start (f.high u.it)) (subst (λ (x : Msg). seals_above q x ≡ true) s.says t) (number_same q.epoch q.epoch refl)) in
    let most = acks_above (units_of q) f.high u.it p.before.start u.has in
    let starts = f.starts in
    omega (arith, above, most, starts)

-- Entries that nobody begun: in a run without moves.

start_idle : (h : Header) (k : ℕ) → (client kinds (start kinds h) k).work ≡ None
unfolding start new_client
start_idle h k =
    elim (index_or (map (new_client kinds h) (numbers h.clients 0)) k (new_client kinds h k)) [
      | inl i ↦ idle (numbers h.clients 0) (client kinds (start kinds h) k) i
      | inr e ↦ ap (λ (c : Client kinds). c.work) e
    ]
  where
    idle : (ns : List ℕ) (c : Client kinds) → Has (map (new_client kinds h) ns) c → c.work ≡ None
    idle [] c i = absurd i
    idle (n ∷ ns) c (inl e) = ap (λ (d : Client kinds). d.work) e
    idle (n ∷ ns) c (inr i) = idle ns c i

front_none : {X : Type 0} → (xs ys : List X) → [] ≡ xs ++ ys → xs ≡ []
front_none [] ys e = refl
front_none (x ∷ xs) ys e = absurd cc

abbrev pub has_entries : W → Bool
has_entries w = list_any (λ (x : ℕ × Entry). true) (es_of w)

pub own_refuted : (h : Header) (w : W) → has_entries w ≡ true → EntriesOwn kinds h [] w → ⊥
unfolding run
own_refuted h w t claim =
    let x = found (λ (y : ℕ × Entry). true) (es_of w) t in
    let b = claim x.it.0 x.it.1 (in_log w x.it.0 x.it.1 x.has) in
    let p = b.passed in
    let at_start = p.is ∙ ap (λ (ms : Moves kinds). run kinds ms (start kinds h)) (front_none p.before p.after p.split) in
    let idle = ap (λ (v : W). (client kinds v x.it.1.head.client).work) at_start ∙ start_idle h x.it.1.head.client in
    never b.append (ap (λ (o : Option (Work kinds)). append_by kinds o) (sym idle) ∙ b.begun)

-- Commit records of transactions that nobody ended.

abbrev unended : W → ℕ × Entry → Bool
unended w x = is_commit x.1 && not (told_of w x.1.head.client x.1.head.number is_end)

abbrev pub some_unended : W → Bool
some_unended w = list_any (unended w) (es_of w)

told_it : (w : W) (k x : ℕ) (what : WhatOf kinds) (f : WhatOf kinds → Bool) → Tells kinds (trace kinds w) k x what → f what ≡ true → told_of w k x f ≡ true
told_it w k x what f t h =
    passes_somewhere (λ (u : MarkOf kinds). (u.client == k) && (u.tx == x) && f u.what) (trace kinds w) (record { event = t.event; client = k; tx = x; what = what })
    (has_contained (trace kinds w) (record { event = t.event; client = k; tx = x; what = what }) t.here)
    (both_and ((k == k) && (x == x)) (f what) (both_and (k == k) (x == x) (number_same k k refl) (number_same x x refl)) h)

pub records_refuted : (w : W) → some_unended w ≡ true → RecordsOwn kinds w → ⊥
records_refuted w h claim =
    let x = found (unended w) (es_of w) h in
    let e = x.it.1 in
    let b = and_both (is_commit e) (not (told_of w e.head.client e.head.number is_end)) x.passes in
    let r = claim x.it.0 e (in_log w x.it.0 e x.has) b.0 in
    not_both (told_of w e.head.client e.head.number is_end) b.1 (told_it w e.head.client e.head.number told.End is_end r.ended refl)

-- Replies that tell of a record that isn't there.

abbrev record_off : W → Told kinds → WhatOf kinds → Bool
record_off w t (told.Committed p) = has_items kinds (puts_of kinds (trace kinds w) t.mark.client t.mark.tx) && not (has_record (es_of w) p t.mark.client t.mark.tx)
record_off w t what = false

abbrev pub some_record_off : W → Bool
some_record_off w = list_any (λ (t : Told kinds). record_off w t t.mark.what) w.told

some_items : (xs : List (Oid × kinds.op)) → has_items kinds xs ≡ true → xs ≢ []
some_items [] h e = absurd (differ (sym h))
some_items (x ∷ xs) h e = cc

record_by : (w : W) (t : Told kinds) (what : WhatOf kinds) → HasItsRecord kinds w t.mark.client t.mark.tx what → record_off w t what ≡ true → ⊥
record_by w t (told.Committed p) claim h =
    let ps = puts_of kinds (trace kinds w) t.mark.client t.mark.tx in
    let b = and_both (has_items kinds ps) (not (has_record (es_of w) p t.mark.client t.mark.tx)) h in
    not_both (has_record (es_of w) p t.mark.client t.mark.tx) b.1 (record_is_there w p t.mark.client t.mark.tx (claim (some_items ps b.0)))
record_by w t what claim h = absurd cc

pub replies_refuted : (w : W) → some_record_off w ≡ true → RepliesHaveRecords kinds w → ⊥
replies_refuted w h claim =
    let x = found (λ (t : Told kinds). record_off w t t.mark.what) w.told h in
    record_by w x.it x.it.mark.what (claim x.it (contained_has w.told x.it x.has)) x.passes

-- A record below a reply that came before its transaction's `begin`.

abbrev is_begin_of : WhatOf kinds → Bool
is_begin_of told.Begin = true
is_begin_of what = false

begin_is : (what : WhatOf kinds) → is_begin_of what ≡ true → what ≡ told.Begin
begin_is told.Begin h = refl
begin_is what h = absurd cc

abbrev record_below : W → MarkOf kinds → Option ℕ → ℕ × Entry → Bool
record_below w b None x = false
record_below w b (Some p) x = is_commit x.1 && (x.1.head.client == b.client) && (x.1.head.number == b.tx) && nat_lt x.0 p

abbrev precedes : W → MarkOf kinds → MarkOf kinds → Bool
precedes w b r = list_any (record_below w b (point_of kinds (trace kinds w) r)) (es_of w)

abbrev order_off : W → List (MarkOf kinds) → List (MarkOf kinds) → Bool
order_off w before [] = false
order_off w before (b ∷ ts) = (is_begin_of b.what && nat_lt 0 b.tx && list_any (precedes w b) before) || order_off w (before ++ b ∷ []) ts

abbrev pub some_order_off : W → Bool
some_order_off w = order_off w [] (trace kinds w)

below_it : (w : W) (b r : MarkOf kinds) (o : Option ℕ) (x : ℕ × Entry) → RecordsInOrder kinds w → (before after : Trace kinds) → trace kinds w ≡ before ++ b ∷ after → b.what ≡ told.Begin → 0 < b.tx → Has before r
    → point_of kinds (trace kinds w) r ≡ o → Has {X = ℕ × Entry} (es_of w) x → record_below w b o x ≡ true → ⊥
below_it w b r None x claim before after split is above i point has h = absurd cc
below_it w b r (Some p) x claim before after split is above i point has h =
    let c1 = and_both (is_commit x.1 && (x.1.head.client == b.client) && (x.1.head.number == b.tx)) (nat_lt x.0 p) h in
    let c2 = and_both (is_commit x.1 && (x.1.head.client == b.client)) (x.1.head.number == b.tx) c1.0 in
    let c3 = and_both (is_commit x.1) (x.1.head.client == b.client) c2.0 in
    let r_at : HasRecord kinds w x.0 b.client b.tx = record {
      record_at = x.1;
      here = in_log w x.0 x.1 has;
      commit = c3.0;
      of_client = same_number x.1.head.client b.client c3.1;
      of_number = same_number x.1.head.number b.tx c2.1;
    } in
    let le = claim.records before after b r p x.0 split is above (contained_has before r i) point r_at in
    let less = lt_of x.0 p c1.1 in
    omega (arith, le, less)

order_by : (w : W) → RecordsInOrder kinds w → (before ts : Trace kinds) → trace kinds w ≡ before ++ ts → order_off w before ts ≡ true → ⊥
order_by w claim before [] split h = absurd cc
order_by w claim before (b ∷ ts) split h =
    elim (either_so (is_begin_of b.what && nat_lt 0 b.tx && list_any (precedes w b) before) (order_off w (before ++ b ∷ []) ts) h) [
      | inl a ↦ (
          let c1 = and_both (is_begin_of b.what && nat_lt 0 b.tx) (list_any (precedes w b) before) a in
          let c2 = and_both (is_begin_of b.what) (nat_lt 0 b.tx) c1.0 in
          let r = found (precedes w b) before c1.1 in
          let x = found (record_below w b (point_of kinds (trace kinds w) r.it)) (es_of w) r.passes in
          below_it w b r.it (point_of kinds (trace kinds w) r.it) x.it claim before ts split (begin_is b.what c2.0) (lt_of 0 b.tx c2.1) r.has refl x.has x.passes)
      | inr d ↦ order_by w claim (before ++ b ∷ []) ts (split ∙ sym (joined before b ts)) d
    ]

pub order_refuted : (w : W) → some_order_off w ≡ true → RecordsInOrder kinds w → ⊥
order_refuted w h claim = order_by w claim [] (trace kinds w) refl h

-- Where no transaction has asked: one transaction stands twice in the history.

abbrev is_asked : WhatOf kinds → Bool
is_asked (told.Asked o q t a) = true
is_asked what = false

abbrev is_again : DoneOf kinds → DoneOf kinds → Bool
is_again d e = (e.client == d.client) && (e.number == d.number) && not (d.stamp == e.stamp)

abbrev done_twice : W → DoneOf kinds → Bool
done_twice w d = list_any (is_again d) (history kinds w)

abbrev pub serial_off : W → Bool
serial_off w = list_all (λ (t : MarkOf kinds). not (is_asked t.what)) (trace kinds w) && list_any (done_twice w) (history kinds w)

pub serial_refuted : (w : W) → serial_off w ≡ true → SerialFirst kinds w → ⊥
serial_refuted w h claim =
    let b = and_both (list_all (λ (t : MarkOf kinds). not (is_asked t.what)) (trace kinds w)) (list_any (done_twice w) (history kinds w)) h in
    let d = found (done_twice w) (history kinds w) b.1 in
    let e = found (is_again d.it) (history kinds w) d.passes in
    let c1 = and_both ((e.it.client == d.it.client) && (e.it.number == d.it.number)) (not (d.it.stamp == e.it.stamp)) e.passes in
    let c2 = and_both (e.it.client == d.it.client) (e.it.number == d.it.number) c1.0 in
    let r = claim (λ k x. inr (none b.0 k x)) in
    let same = r.entries.once d.it e.it (contained_has (history kinds w) d.it d.has) (contained_has (history kinds w) e.it e.has) (same_number e.it.client d.it.client c2.0, same_number e.it.number d.it.number c2.1) in
    not_both (d.it.stamp == e.it.stamp) c1.1 (number_same d.it.stamp e.it.stamp (ap (λ (x : DoneOf kinds). x.stamp) same))
  where
    none : list_all (λ (t : MarkOf kinds). not (is_asked t.what)) (trace kinds w) ≡ true → (k x : ℕ) → HasNoAsk kinds (trace kinds w) k x
    none all k x o q t a tells =
        let m : MarkOf kinds = record { event = tells.event; client = k; tx = x; what = told.Asked o q t a } in
        let n = all_pass (λ (u : MarkOf kinds). not (is_asked u.what)) (trace kinds w) all m (has_contained (trace kinds w) m tells.here) in
        not_both true n refl

-- Marks without a checkpoint.

abbrev mark_off : W → WhatOf kinds → Bool
mark_off w (told.Marked o n) = not (has_base_past (es_of w) o n)
mark_off w what = false

abbrev pub some_mark_off : W → Bool
some_mark_off w = list_any (λ (t : Told kinds). mark_off w t.mark.what) w.told

base_is_past : (w : W) (o : Oid) (n : ℕ) → HasBasePast kinds w o n → has_base_past (es_of w) o n ≡ true
base_is_past w o n b =
    passes_somewhere (λ (y : ℕ × Entry). nat_le n y.0 && base_reaches n (base_at kinds o y.1)) (es_of w) (b.at, b.entry) (of_log w b.at b.entry b.here)
    (both_and (nat_le n b.at) (base_reaches n (base_at kinds o b.entry)) (of_le n b.at b.later) (ap (base_reaches n) b.gives ∙ of_le n b.base.upto b.reaches))

mark_by : (w : W) (t : Told kinds) (what : WhatOf kinds) → Contains w.told t → t.mark.what ≡ what → mark_off w what ≡ true → MarksRest kinds w → ⊥
mark_by w t (told.Marked o n) c is h claim = not_both (has_base_past (es_of w) o n) h (base_is_past w o n (claim.based t o n c is))
mark_by w t what c is h claim = absurd cc

pub marks_refuted : (w : W) → some_mark_off w ≡ true → MarksRest kinds w → ⊥
marks_refuted w h claim = let x = found (λ (t : Told kinds). mark_off w t.mark.what) w.told h in mark_by w x.it x.it.mark.what (contained_has w.told x.it x.has) refl x.passes claim

-- Reads off the path, where nothing was copied.

abbrev read_off : W → Packet → Bool
read_off w x = is_client x.from && not (on_path w (log kinds w) x.from (read_pos x.msg))

abbrev pub some_read_off : W → Bool
some_read_off w = list_any (read_off w) w.packets

read_by : (w : W) (x : Packet) (m : Msg) → Has w.packets x → x.msg ≡ m → is_client x.from ≡ true → not (on_path w (log kinds w) x.from (read_pos m)) ≡ true → ReadsOnPath kinds [] w → ⊥
read_by w x (msg.Read epoch p) i is c off claim =
    let k = x.from.num in
    let from = nodes_same x.from (client_id k) c in
    elim (claim x k epoch p (contained_has w.packets x i) from is) [
      | inl on ↦ not_both (on_path w (log kinds w) x.from (Some p)) off (subst (λ (n : NodeId). on_path w (log kinds w) n (Some p) ≡ true) (sym from) (path_is on))
      | inr copy ↦ has_contained [] (Takes (Commands k (cmd.Copy copy.unit copy.range copy.stripe))) copy.given
    ]
  where
    path_is : OnPath kinds w x.from.num p → on_path w (log kinds w) (client_id x.from.num) (Some p) ≡ true
    path_is on =
        let s = on.heard in
        let links = ap tail_links s.says in
        let l = on.link in
        passes_somewhere (λ (y : Packet). node_eq y.to (client_id x.from.num) && on_links (log kinds w) p (tail_links y.msg)) w.packets s.packet (has_contained w.packets s.packet s.sent)
        (both_and (node_eq s.packet.to (client_id x.from.num)) (on_links (log kinds w) p (tail_links s.packet.msg)) (node_itself s.packet.to (client_id x.from.num) s.to)
        (subst (λ (ls : List StreamLink). on_links (log kinds w) p ls ≡ true) (sym links)
        (passes_somewhere (λ (y : StreamLink). has_num p (path (log kinds w) y.oid y.backs)) on.links l (has_contained on.links l on.linked)
        (passes_somewhere (λ (n : ℕ). p == n) (path (log kinds w) l.oid l.backs) p (has_contained (path (log kinds w) l.oid l.backs) p on.here) (number_same p p refl)))))
read_by w x m i is c off claim = absurd cc

pub reads_refuted : (w : W) → some_read_off w ≡ true → ReadsOnPath kinds [] w → ⊥
reads_refuted w h claim =
    let x = found (read_off w) w.packets h in
    let b = and_both (is_client x.it.from) (not (on_path w (log kinds w) x.it.from (read_pos x.it.msg))) x.passes in
    read_by w x.it x.it.msg x.has refl b.0 b.1 claim
