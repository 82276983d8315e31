-- Tests of a world that passed prove what is claimed of its one log, of what was forgotten, and of its aborts.
use Rattle.std.proofs.Common.{◌≡◌, ℕ, zero, suc, ◌<◌, ◌≤◌, List, [], ◌∷◌, ◌++◌, Bool, true, false, Option, Some, None, refl, sym, ap, ◌∙◌, subst, inl, inr, arith}
use Rattle.std.specs.Prelude.{◌+◌, ◌&&◌, ◌==◌, nat_lt, nat_le, map, max, is_some, Contains, if◌then◌else◌, ◌≢◌}
use Rattle.std.specs.List.{list_any, list_all}
use Rattle.std.specs.Cmp.Lexicographic.{pointwise}
use Rattle.std.proofs.lemmas.Bool.Decides.{nat_tests}
use Rattle.tg_base.specs.Layouts.{Layout}
use Rattle.tg_base.specs.declared.cell.Cell.{Cell}
use Rattle.tg_base.specs.declared.ids.NodeId.{NodeId}
use Rattle.tg_base.specs.declared.ids.Oid.{Oid}
use Rattle.tg_base.specs.declared.marks.Part.{Part}
use Rattle.tg_base.specs.declared.marks.ReadMark.{ReadMark}
use Rattle.tg_base.specs.declared.marks.StreamLink.{StreamLink}
use Rattle.tg_base.specs.declared.msg.Msg.{Msg}
use Rattle.tg_base.specs.declared.msg.Msg.TheVariants as msg
use Rattle.tg_base.specs.declared.packet.Packet.{Packet}
use Rattle.tg_entry.specs.declared.entry.Entry.{Entry}
use Rattle.tg_model.specs.declared.trace.What.TheVariants as told
use Rattle.tg_model.specs.Kinds.{MarkOf, WhatOf, DoneOf}
use Rattle.tg_model.specs.Stores.{stored_state, store_after, after_writes}
use Rattle.tg_model.specs.Traces.{Trace, puts_of, has_items, point_of}
use Rattle.tg_model.specs.Verdicts.{is_of, is_begin, begins, or_zero, bound_in, bound}
use Rattle.tg_model.specs.Legal.{Legal}
use Rattle.tg_protocol.specs.Words.{directory, cell_at, bytes_eq, numbers, has_num, client_id}
use Rattle.tg_kind.specs.Parts.{part_eq}
use Rattle.tg_base.specs.Orders.{oid_eq, node_eq}
use Rattle.tg_entry.specs.Needs.{needs_decision, reads_of, writes_of}
use Rattle.tg_protocol.specs.Entries.{is_commit, lists, streams_of}
use Rattle.tg_protocol.specs.Transactions.{read_before}
use Rattle.tg_protocol.specs.Checkpoints.{base_at}
use Rattle.tg_protocol.specs.Units.{UnitState, new_unit}
use Rattle.tg_protocol.specs.Views.{Base}
use Rattle.tg_protocol.specs.Logs.{Log, version, path}
use Rattle.tg_protocol.specs.Clients.{Client, new_client, write_of}
use Rattle.tg_protocol.specs.Worlds.{Told, unit, client, latest, log, history, trace}
use Rattle.tg_protocol.specs.Runs.{Moves}
use Rattle.tg_protocol.specs.Chosen.{IsDecided, OneLayout, LatestDecided}
use Rattle.tg_protocol.specs.Alike.{HasEntry, CheckpointsTrue}
use Rattle.tg_protocol.specs.Holding.{HasCell, EntriesOnce, EntriesLinked, RecordsOwn, IsRecord, AskedOf, ReadsOf, HasItsRecord, RepliesHaveRecords, RecordsInOrder, SerialFirst, FloorsStay, HasBasePast, TrimsSpare, MarksRest}
use Rattle.tg_protocol.specs.Playing.{ReadsOnPath, OnPath}
use Rattle.tg_protocol.specs.Causes.{DirectoryTrue, AbortsLeast}
use Rattle.tg_law_verdicts.proofs.Members.{Has, has_right, has_contained, contained_has, and_both, both_and, found, passes_somewhere, all_pass}
use Rattle.tg_law_verdicts.proofs.Tests.{same_number, number_same, same_oid, le_of, lt_of, of_lt}
use Rattle.tg_law_verdicts.proofs.Asks.{mark_is}
use Rattle.tg_law_examples.proofs.SevenKinds.{kinds, State, Named, Dir}
use Rattle.tg_law_examples.proofs.Sameness.{same}
use Rattle.tg_law_instances.proofs.Same.{layouts_same, links_exact, writes_exact, bytes_same, parts_same, nodes_same, node_itself}
use Rattle.tg_law_instances.proofs.Sound.{cell_has, once_sound}
use Rattle.tg_law_instances.proofs.Readings.{then_so, has_mapped, index_or, es_of, in_log, of_log, record_found, decision_found, heard_found, issued_is, sent_to, layouts_decided, decided_listed}
use Rattle.tg_law_instances.proofs.CheckpointSound.{checkpoints_sound}
use Rattle.tg_law_instances.proofs.HeadlineSound.{passed_all, agrees_at, legal_sound, commits_by, saved_of, aborted_by}
use Rattle.tg_law_instances.proofs.Tests.{Claim, ReadsOnPath as Off, fails, world_fails, path_fails, W, implies, links_eq, writes_eq, named_eq, states_eq, heard, is_issued, linked, told_of, is_end, asked_part, has_read_of, is_record, records_own, has_record, has_commit, has_cell, base_reaches, has_decision, has_base_past, trims_spare, floors_stay, directories, directory_at, marks_rest_of, marks_rest, layouts, ranges_eq, one_layout, latest_decided, agrees, is_least, read_pos, on_links, tail_links, on_path, is_client, reads_on_path, in_order, all_agree}

-- Layouts.

one_of : (qs : List (ℕ × Layout)) → one_layout qs ≡ true → (x y : ℕ × Layout) → Has qs x → Has qs y → x.0 ≡ y.0 → x.1 ≡ y.1
one_of [] h x y i j e = absurd i
one_of (z ∷ qs) h x y (inl a) (inl b) e = ap (λ (u : ℕ × Layout). u.1) (a ∙ sym b)
one_of (z ∷ qs) h x y (inl a) (inr j) e =
    let b = and_both (list_all (λ (u : ℕ × Layout). implies (z.0 == u.0) (ranges_eq z.1 u.1)) qs) (one_layout qs) h in
    let t = all_pass (λ (u : ℕ × Layout). implies (z.0 == u.0) (ranges_eq z.1 u.1)) qs b.0 y j in
    ap (λ (u : ℕ × Layout). u.1) a ∙ layouts_same z.1 y.1 (then_so (z.0 == y.0) (ranges_eq z.1 y.1) t (number_same z.0 y.0 (ap (λ (u : ℕ × Layout). u.0) (sym a) ∙ e)))
one_of (z ∷ qs) h x y (inr i) (inl b) e =
    let c = and_both (list_all (λ (u : ℕ × Layout). implies (z.0 == u.0) (ranges_eq z.1 u.1)) qs) (one_layout qs) h in
    let t = all_pass (λ (u : ℕ × Layout). implies (z.0 == u.0) (ranges_eq z.1 u.1)) qs c.0 x i in
    sym (layouts_same z.1 x.1 (then_so (z.0 == x.0) (ranges_eq z.1 x.1) t (number_same z.0 x.0 (sym (e ∙ ap (λ (u : ℕ × Layout). u.0) b))))) ∙ ap (λ (u : ℕ × Layout). u.1) (sym b)
one_of (z ∷ qs) h x y (inr i) (inr j) e = one_of qs (and_both (list_all (λ (u : ℕ × Layout). implies (z.0 == u.0) (ranges_eq z.1 u.1)) qs) (one_layout qs) h).1 x y i j e

pub one_layout_sound : (w : W) → one_layout (layouts w) ≡ true → OneLayout kinds w
one_layout_sound w h e p q a b = one_of (layouts w) h (e, p) (e, q) (decided_listed w e p a) (decided_listed w e q b) refl

abbrev is_newest : W → ℕ × Layout → Bool
is_newest w x = (x.0 == (latest kinds w).epoch) && ranges_eq x.1 (latest kinds w)

pub latest_sound : (w : W) → latest_decided w (layouts w) ≡ true → LatestDecided kinds w
latest_sound w h =
    let b = and_both (list_any (is_newest w) (layouts w)) (list_all (λ (x : ℕ × Layout). nat_le x.0 (latest kinds w).epoch) (layouts w)) h in
    let x = found (is_newest w) (layouts w) b.0 in
    let c = and_both (x.it.0 == (latest kinds w).epoch) (ranges_eq x.it.1 (latest kinds w)) x.passes in
    let n = same_number x.it.0 (latest kinds w).epoch c.0 in
    let q = layouts_same x.it.1 (latest kinds w) c.1 in
    record {
      decided = subst (λ (y : ℕ × Layout). IsDecided kinds w y.0 y.1) (λ i. (n i, q i)) (layouts_decided w x.it x.has);
      greatest = λ e p d. le_of e (latest kinds w).epoch (all_pass (λ (y : ℕ × Layout). nat_le y.0 (latest kinds w).epoch) (layouts w) b.1 (e, p) (decided_listed w e p d));
    }

-- Entries with the links that were issued.

pub linked_sound : (w : W) → linked w (es_of w) ≡ true → EntriesLinked kinds w
linked_sound w h p e here =
    let t = all_pass (λ (x : ℕ × Entry). heard w x.1.head.client 0 (is_issued x.0 (λ ls. links_eq ls x.1.head.streams))) (es_of w) h (p, e) (of_log w p e here) in
    let f = heard_found w e.head.client 0 (is_issued p (λ ls. links_eq ls e.head.streams)) t in
    let n = issued_is p (λ ls. links_eq ls e.head.streams) f.packet.msg f.passes in
    let same_links = (links_exact n.links e.head.streams).0 n.passes in
    record { rid = f.packet.rid; sent = sent_to w e.head.client 0 (is_issued p (λ ls. links_eq ls e.head.streams)) (msg.Issued p e.head.streams) f (n.is ∙ ap (λ (ls : List StreamLink). msg.Issued p ls) same_links) }

-- Commit records of transactions.

record ToldOf (w : W) (k x : ℕ) (f : WhatOf kinds → Bool) : Type 0 where
  event : ℕ
  what : WhatOf kinds
  here : Has (trace kinds w) (record { event = event; client = k; tx = x; what = what })
  passes : f what ≡ true

told_found : (w : W) (k x : ℕ) (f : WhatOf kinds → Bool) → told_of w k x f ≡ true → ToldOf w k x f
told_found w k x f h =
    let t = found (λ (u : MarkOf kinds). (u.client == k) && (u.tx == x) && f u.what) (trace kinds w) h in
    let b = and_both ((t.it.client == k) && (t.it.tx == x)) (f t.it.what) t.passes in
    record {
      event = t.it.event;
      what = t.it.what;
      here = subst (λ (u : MarkOf kinds). Has (trace kinds w) u) (mark_is kinds same w.cluster.objects (history kinds w) (trace kinds w) t.it k x t.it.what b.0 refl) t.has;
      passes = b.1;
    }

end_what : (what : WhatOf kinds) → is_end what ≡ true → what ≡ told.End
end_what told.End h = refl
end_what what h = absurd cc

record AsksPart (o : Oid) (k : Part) (what : WhatOf kinds) : Type 0 where
  ask : kinds.ask
  at : ℕ
  answer : kinds.answer
  is : what ≡ told.Asked o ask at answer
  looks : kinds.look ask ≡ k

asks_part : (o : Oid) (k : Part) (what : WhatOf kinds) → asked_part o k what ≡ true → AsksPart o k what
asks_part o k (told.Asked p q t a) h =
    let b = and_both (oid_eq o p) (part_eq k (kinds.look q)) h in
    record { ask = q; at = t; answer = a; is = ap (λ (r : Oid). told.Asked r q t a) (sym (same_oid o p b.0)); looks = sym (parts_same k (kinds.look q) b.1) }
asks_part o k what h = absurd cc

asked_of : (w : W) (k x : ℕ) (o : Oid) (part : Part) → 0 < x → told_of w k x (asked_part o part) ≡ true → AskedOf kinds w k x o part
asked_of w k x o part above h =
    let t = told_found w k x (asked_part o part) h in
    let a = asks_part o part t.what t.passes in
    record {
      ask = a.ask;
      at = a.at;
      answer = a.answer;
      looks = a.looks;
      asked = record {
        number = above;
        event = t.event;
        here = contained_has (trace kinds w) (record { event = t.event; client = k; tx = x; what = told.Asked o a.ask a.at a.answer })
            (subst (λ (what : WhatOf kinds). Has (trace kinds w) (record { event = t.event; client = k; tx = x; what = what })) a.is t.here);
      };
    }

abbrev reads_it : Oid → Part → ReadMark → Bool
reads_it p part r = oid_eq r.oid p && part_eq r.part part

reads_asked : (e : Entry) (p : Oid) (part : Part) → list_any (reads_it p part) (reads_of e) ≡ true → ReadsOf kinds e p part
reads_asked e p part h =
    let x = found (reads_it p part) (reads_of e) h in
    let b = and_both (oid_eq x.it.oid p) (part_eq x.it.part part) x.passes in
    record { read = x.it; here = contained_has (reads_of e) x.it x.has; oid = same_oid x.it.oid p b.0; of_part = parts_same x.it.part part b.1 }

is_record_sound : (w : W) (e : Entry) → is_record w e ≡ true → IsRecord kinds w e
is_record_sound w e h =
    let k = e.head.client in let n = e.head.number in
    let spelled = map (λ (x : Oid × kinds.op). write_of kinds x.0 x.1) (puts_of kinds (trace kinds w) k n) in
    let reads_told = list_all (λ (r : ReadMark). told_of w k n (asked_part r.oid r.part)) (reads_of e) in
    let asks_read = list_all (λ (t : MarkOf kinds). implies ((t.client == k) && (t.tx == n)) (has_read_of e t.what)) (trace kinds w) in
    let b1 = and_both (nat_lt 0 n && told_of w k n is_end && writes_eq (writes_of e) spelled && reads_told) asks_read h in
    let b2 = and_both (nat_lt 0 n && told_of w k n is_end && writes_eq (writes_of e) spelled) reads_told b1.0 in
    let b3 = and_both (nat_lt 0 n && told_of w k n is_end) (writes_eq (writes_of e) spelled) b2.0 in
    let b4 = and_both (nat_lt 0 n) (told_of w k n is_end) b3.0 in
    let above = lt_of 0 n b4.0 in
    let t = told_found w k n is_end b4.1 in
    let ends = end_what t.what t.passes in
    record {
      ended = record {
        number = above;
        event = t.event;
        here = contained_has (trace kinds w) (record { event = t.event; client = k; tx = n; what = told.End })
            (subst (λ (what : WhatOf kinds). Has (trace kinds w) (record { event = t.event; client = k; tx = n; what = what })) ends t.here);
      };
      writes = (writes_exact (writes_of e) spelled).0 b3.1;
      asked = λ o part r.
          let a = all_pass (λ (y : ReadMark). told_of w k n (asked_part y.oid y.part)) (reads_of e) b2.1 r.read (has_contained (reads_of e) r.read r.here) in
          let there = asked_of w k n r.read.oid r.read.part above a in
          let oid = r.oid in let of_part = r.of_part in
          subst (λ (y : Oid × Part). AskedOf kinds w k n y.0 y.1) (λ i. (oid i, of_part i)) there;
      read = λ o part a.
          let m : MarkOf kinds = record { event = a.asked.event; client = k; tx = n; what = told.Asked o a.ask a.at a.answer } in
          let i = all_pass (λ (y : MarkOf kinds). implies ((y.client == k) && (y.tx == n)) (has_read_of e y.what)) (trace kinds w) b1.1 m (has_contained (trace kinds w) m a.asked.here) in
          let has = then_so ((k == k) && (n == n)) (list_any (reads_it o (kinds.look a.ask)) (reads_of e)) i (both_and (k == k) (n == n) (number_same k k refl) (number_same n n refl)) in
          subst (λ (y : Part). ReadsOf kinds e o y) a.looks (reads_asked e o (kinds.look a.ask) has);
    }

pub records_own_sound : (w : W) → records_own w (es_of w) ≡ true → RecordsOwn kinds w
records_own_sound w h p e here commit =
    is_record_sound w e (then_so (is_commit e) (is_record w e) (all_pass (λ (x : ℕ × Entry). implies (is_commit x.1) (is_record w x.1)) (es_of w) h (p, e) (of_log w p e here)) commit)

-- Replies and their records.

items_of : {X : Type 0} → (xs : List X) → xs ≢ [] → has_items kinds xs ≡ true
items_of [] n = absurd (n refl)
items_of (x ∷ xs) n = refl

has_its_record : (w : W) (t : Told kinds) (what : WhatOf kinds) → agrees w (es_of w) (layouts w) t what ≡ true → HasItsRecord kinds w t.mark.client t.mark.tx what
has_its_record w t (told.Committed p) h = λ n. (commits_by w t p h (items_of (puts_of kinds (trace kinds w) t.mark.client t.mark.tx) n)).0
has_its_record w t (told.Aborted p o k seen now) h = (aborted_by w t p o k seen now h).0.0
has_its_record w t (told.Unsure p q) h = record_found w p t.mark.client t.mark.tx (and_both (has_record (es_of w) p t.mark.client t.mark.tx) (has_commit (es_of w) q) h).0
has_its_record w t (told.Saved o p u) h =
    let s = saved_of w t o p u h in
    record { entry = s.entry; here = s.here; by = s.by; upto = u; version = s.version; whole = s.whole; keys = s.keys; state = s.state; saves = s.saves }
has_its_record w t what h = tt

pub replies_sound : (w : W) → all_agree w (es_of w) (layouts w) ≡ true → RepliesHaveRecords kinds w
replies_sound w h t c = has_its_record w t t.mark.what (agrees_at w h t t.mark.what c refl)

pub aborts_sound : (w : W) → all_agree w (es_of w) (layouts w) ≡ true → AbortsLeast kinds w
aborts_sound w h t p o k seen now e r c is here reads before =
    let a = (aborted_by w t p o k seen now (agrees_at w h t (told.Aborted p o k seen now) c is)).1.1 in
    let least = all_pass (is_least w o k seen p) (es_of w) a (p, e) (of_log w p e here) in
    let each = then_so (p == p) (list_all (λ (x : ReadMark). implies (read_before x (record { oid = o; part = k; version = seen })) (version kinds (log kinds w) x.oid x.part p == x.version)) (reads_of e)) least (number_same p p refl) in
    let this = all_pass (λ (x : ReadMark). implies (read_before x (record { oid = o; part = k; version = seen })) (version kinds (log kinds w) x.oid x.part p == x.version)) (reads_of e) each r (has_contained (reads_of e) r reads) in
    same_number (version kinds (log kinds w) r.oid r.part p) r.version (then_so (read_before r (record { oid = o; part = k; version = seen })) (version kinds (log kinds w) r.oid r.part p == r.version) this before)

-- Order.

abbrev Tr : Type 0
Tr = Trace kinds

module _ (w : W) where
  abbrev begun : ℕ → ℕ → MarkOf kinds → Bool
  begun k x t = is_of kinds same w.cluster.objects (history kinds w) (trace kinds w) k x t && is_begin kinds same w.cluster.objects (history kinds w) (trace kinds w) t.what

  abbrev reach : MarkOf kinds → ℕ
  reach t = or_zero kinds same w.cluster.objects (history kinds w) (trace kinds w) (point_of kinds (trace kinds w) t)

  abbrev bound_of : Tr → ℕ → ℕ → ℕ
  bound_of ts k x = bound_in kinds same w.cluster.objects (history kinds w) (trace kinds w) ts k x

  abbrev begins_in : ℕ → ℕ → Tr → Bool
  begins_in k x ts = begins kinds same w.cluster.objects (history kinds w) (trace kinds w) k x ts

  at_most : (a b c : ℕ) (t : Bool) → t ≡ true → c ≤ b → (a ≤ (if t then max a b else 0)) × (c ≤ (if t then max a b else 0))
  at_most a b c true e le = (omega arith, omega (arith, le))
  at_most a b c false e le = absurd cc

  bound_above : (us vs : Tr) (b r : MarkOf kinds) (k x : ℕ) → begun k x b ≡ true → Has us r → reach r ≤ bound_of (us ++ b ∷ vs) k x
  unfolding bound_in
  bound_above [] vs b r k x is i = absurd i
  bound_above (t ∷ us) vs b r k x is (inl e) =
      let starts = passes_somewhere (begun k x) (us ++ b ∷ vs) b (has_right us (b ∷ vs) b (inl refl)) is in
      subst (λ (y : MarkOf kinds). reach y ≤ bound_of (t ∷ us ++ b ∷ vs) k x) (sym e) (at_most (reach t) (bound_of (us ++ b ∷ vs) k x) 0 (begins_in k x (us ++ b ∷ vs)) starts (omega arith)).0
  bound_above (t ∷ us) vs b r k x is (inr i) =
      let starts = passes_somewhere (begun k x) (us ++ b ∷ vs) b (has_right us (b ∷ vs) b (inl refl)) is in
      (at_most (reach t) (bound_of (us ++ b ∷ vs) k x) (reach r) (begins_in k x (us ++ b ∷ vs)) starts (bound_above us vs b r k x is i)).1

  begin_of : (b : MarkOf kinds) → b.what ≡ told.Begin → begun b.client b.tx b ≡ true
  begin_of b e = both_and ((b.client == b.client) && (b.tx == b.tx)) (is_begin kinds same w.cluster.objects (history kinds w) (trace kinds w) b.what)
      (both_and (b.client == b.client) (b.tx == b.tx) (number_same b.client b.client refl) (number_same b.tx b.tx refl))
      (ap (λ (x : WhatOf kinds). is_begin kinds same w.cluster.objects (history kinds w) (trace kinds w) x) e)

  in_bound : (p n : ℕ) (m : ℕ) (o : Option ℕ) → o ≡ Some p → or_zero kinds same w.cluster.objects (history kinds w) (trace kinds w) o ≤ m → m ≤ n → p ≤ n
  in_bound p n m o e le more =
      let is = ap (or_zero kinds same w.cluster.objects (history kinds w) (trace kinds w)) e in
      omega (arith, is, le, more)

  pub order_sound : Legal kinds w.cluster.objects (history kinds w) (trace kinds w) → in_order w (es_of w) ≡ true → RecordsInOrder kinds w
  order_sound legal h = record {
    places = legal.order;
    records = λ before after b r p n split is above there point rec.
        let e = rec.record_at in
        let t = all_pass (λ (x : ℕ × Entry). implies (is_commit x.1) (nat_le (bound kinds same w.cluster.objects (history kinds w) (trace kinds w) x.1.head.client x.1.head.number) x.0)) (es_of w) h (n, e) (of_log w n e rec.here) in
        let le = le_of (bound_of (trace kinds w) e.head.client e.head.number) n (then_so (is_commit e) (nat_le (bound_of (trace kinds w) e.head.client e.head.number) n) t rec.commit) in
        let c = rec.of_client in
        let m = rec.of_number in
        let ours = subst (λ (y : ℕ × ℕ). bound_of (trace kinds w) y.0 y.1 ≤ n) (λ i. (c i, m i)) le in
        let cut = subst (λ (ts : Tr). bound_of ts b.client b.tx ≤ n) split ours in
        in_bound p n (bound_of (before ++ b ∷ after) b.client b.tx) (point_of kinds (trace kinds w) r) point (bound_above before after b r b.client b.tx (begin_of b is) (has_contained before r there)) cut;
  }

pub serial_sound : (w : W) → Legal kinds w.cluster.objects (history kinds w) (trace kinds w) → SerialFirst kinds w
serial_sound w legal serial = record { answers = legal.answers; commits = legal.commits; entries = legal.entries }

-- Forgetting.

cell_by : (l : Log) (p : ℕ) (o : Option Cell) → cell_at l p ≡ o → is_some o ≡ true → (c : Cell) × Has {X = ℕ × Cell} l (p, c)
cell_by l p None e h = absurd cc
cell_by l p (Some c) e h = (c, cell_has l p c e)

cell_found : (w : W) (p : ℕ) → has_cell (log kinds w) p ≡ true → HasCell kinds w p
cell_found w p h = let c = cell_by (log kinds w) p (cell_at (log kinds w) p) refl h in (c.0, contained_has {X = ℕ × Cell} (log kinds w) (p, c.0) c.1)

first_or_later : (n first p : ℕ) (b : Bool) → (p == first) ≡ b → first ≤ p → p < suc n + first → (first + 1 ≤ p → p < n + (first + 1) → Has (numbers n (first + 1)) p) → Has (numbers (suc n) first) p
first_or_later n first p true e le less rest = inl (same_number p first e)
first_or_later n first p false e le less rest = inr (rest (above p first e le) (omega (arith, less)))
  where
    above : (a b : ℕ) → (a == b) ≡ false → b ≤ a → b + 1 ≤ a
    above a b f l = grind (arith, nat_tests)

pub in_numbers : (n first p : ℕ) → first ≤ p → p < n + first → Has (numbers n first) p
in_numbers zero first p le less = absurd (omega (arith, le, less))
in_numbers (suc n) first p le less = first_or_later n first p (p == first) refl le less (λ a b. in_numbers n (first + 1) p a b)

base_found : (w : W) (o : Oid) (n : ℕ) → has_base_past (es_of w) o n ≡ true → HasBasePast kinds w o n
base_found w o n h =
    let x = found (λ (y : ℕ × Entry). nat_le n y.0 && base_reaches n (base_at kinds o y.1)) (es_of w) h in
    let b = and_both (nat_le n x.it.0) (base_reaches n (base_at kinds o x.it.1)) x.passes in
    by x.it.0 x.it.1 x.has (le_of n x.it.0 b.0) (base_at kinds o x.it.1) refl b.1
  where
    by : (at : ℕ) (e : Entry) → Has {X = ℕ × Entry} (es_of w) (at, e) → n ≤ at → (m : Option (Base kinds)) → base_at kinds o e ≡ m → base_reaches n m ≡ true → HasBasePast kinds w o n
    by at e i le None g r = absurd cc
    by at e i le (Some m) g r = record { at = at; later = le; entry = e; here = in_log w at e i; base = m; gives = g; reaches = le_of n m.upto r }

-- an entry stands in the streams that it lists
listed_in : (o : Oid) (ls : List StreamLink) → list_any (λ (l : StreamLink). oid_eq l.oid o) ls ≡ true → Has (map (λ (l : StreamLink). l.oid) ls) o
listed_in o ls h =
    let x = found (λ (l : StreamLink). oid_eq l.oid o) ls h in
    subst (λ (p : Oid). Has (map (λ (l : StreamLink). l.oid) ls) p) (same_oid x.it.oid o x.passes) (has_mapped (λ (l : StreamLink). l.oid) ls x.it x.has)

abbrev spares : W → UnitState → Bool
spares w u = list_all (has_cell (log kinds w)) (numbers u.low 0)
    && list_all (λ (x : ℕ × Entry). implies (nat_lt x.0 u.low) (list_all (λ o. has_base_past (es_of w) o u.low) (streams_of x.1))) (es_of w)

new_low : new_unit.low ≡ 0
unfolding new_unit
new_low = refl

pub trims_sound : (w : W) → trims_spare w (log kinds w) (es_of w) ≡ true → TrimsSpare kinds w
trims_sound w h = record { whole = whole_at; based = based_at }
  where
    none_below : (u p : ℕ) → p < (unit kinds w u).low → unit kinds w u ≡ new_unit → ⊥
    none_below u p less e = let z = ap (λ (x : UnitState). x.low) e ∙ new_low in omega (arith, less, z)

    whole_at : (u p : ℕ) → p < (unit kinds w u).low → HasCell kinds w p
    whole_at u p less =
        elim (index_or w.units u new_unit) [
          | inl i ↦ cell_found w p (all_pass (has_cell (log kinds w)) (numbers (unit kinds w u).low 0)
              (and_both (list_all (has_cell (log kinds w)) (numbers (unit kinds w u).low 0)) (list_all (λ (x : ℕ × Entry). implies (nat_lt x.0 (unit kinds w u).low) (list_all (λ o. has_base_past (es_of w) o (unit kinds w u).low) (streams_of x.1))) (es_of w))
              (all_pass (spares w) w.units h (unit kinds w u) i)).0 p (in_numbers (unit kinds w u).low 0 p (omega arith) (omega (arith, less))))
          | inr e ↦ absurd (none_below u p less e)
        ]

    based_at : (u p : ℕ) (e : Entry) (o : Oid) → p < (unit kinds w u).low → HasEntry kinds w p e → lists e o ≡ true → HasBasePast kinds w o (unit kinds w u).low
    based_at u p e o less here stands =
        elim (index_or w.units u new_unit) [
          | inl i ↦ base_found w o (unit kinds w u).low (all_pass (λ (q : Oid). has_base_past (es_of w) q (unit kinds w u).low) (streams_of e)
              (then_so (nat_lt p (unit kinds w u).low) (list_all (λ q. has_base_past (es_of w) q (unit kinds w u).low) (streams_of e))
              (all_pass (λ (x : ℕ × Entry). implies (nat_lt x.0 (unit kinds w u).low) (list_all (λ q. has_base_past (es_of w) q (unit kinds w u).low) (streams_of x.1))) (es_of w)
              (and_both (list_all (has_cell (log kinds w)) (numbers (unit kinds w u).low 0)) (list_all (λ (x : ℕ × Entry). implies (nat_lt x.0 (unit kinds w u).low) (list_all (λ q. has_base_past (es_of w) q (unit kinds w u).low) (streams_of x.1))) (es_of w))
              (all_pass (spares w) w.units h (unit kinds w u) i)).1 (p, e) (of_log w p e here)) (of_lt p (unit kinds w u).low less))
              o (listed_in o e.head.streams stands))
          | inr d ↦ absurd (none_below u p less d)
        ]

-- before the first position no object was written
nothing_before : (objects : List Oid) (ds : List (DoneOf kinds)) → store_after kinds objects [] ds 0 ≡ []
unfolding store_after
nothing_before objects [] = refl
nothing_before objects (d ∷ ds) = skipped d ds (nat_lt d.stamp 0) (none_less d.stamp) ∙ nothing_before objects ds
  where
    none_less : (n : ℕ) → nat_lt n 0 ≡ false
    none_less n = grind (arith, nat_tests)

    skipped : (d : DoneOf kinds) (ds : List (DoneOf kinds)) (b : Bool) → b ≡ false
        → (if b then store_after kinds objects (after_writes kinds objects [] d.writes) ds 0 else store_after kinds objects [] ds 0) ≡ store_after kinds objects [] ds 0
    skipped d ds true e = absurd cc
    skipped d ds false e = refl

first_directory : (w : W) → directory_at w 0 ≡ kinds.fresh directory w.cluster.objects
first_directory w = ap (λ (s : List (Oid × State)). stored_state kinds w.cluster.objects s directory) (nothing_before w.cluster.objects (history kinds w))

new_played : (w : W) (k : ℕ) → (new_client kinds w.cluster k).played ≡ 0
unfolding new_client
new_played w k = refl

new_dir : (w : W) (k : ℕ) → (new_client kinds w.cluster k).dir ≡ kinds.fresh directory w.cluster.objects
unfolding new_client
new_dir w k = refl

pub floors_sound : (w : W) → floors_stay w (log kinds w) ≡ true → FloorsStay kinds w
floors_sound w h k p less =
    elim (index_or w.clients k (new_client kinds w.cluster k)) [
      | inl i ↦ cell_found w p (all_pass (has_cell (log kinds w)) (numbers (kinds.floor (directory_at w (client kinds w k).played)) 0)
          (all_pass (λ (c : Client kinds). list_all (has_cell (log kinds w)) (numbers (kinds.floor (directory_at w c.played)) 0)) w.clients h (client kinds w k) i)
          p (in_numbers (kinds.floor (directory_at w (client kinds w k).played)) 0 p (omega arith) (omega (arith, less))))
      | inr e ↦ absurd (below_first e)
    ]
  where
    below_first : client kinds w k ≡ new_client kinds w.cluster k → ⊥
    below_first e =
        let z = ap (λ (c : Client kinds). c.played) e ∙ new_played w k in
        let f = ap (λ (n : ℕ). kinds.floor (directory_at w n)) z ∙ ap kinds.floor (first_directory w) in
        omega (arith, less, f)

named_same : (a b : Named) → named_eq a b ≡ true → a ≡ b
named_same a b h =
    let b1 = and_both (bytes_eq a.name b.name && oid_eq a.oid b.oid) (a.mark == b.mark) h in
    let b2 = and_both (bytes_eq a.name b.name) (oid_eq a.oid b.oid) b1.0 in
    let e0 = bytes_same a.name b.name b2.0 in
    let e1 = same_oid a.oid b.oid b2.1 in
    let e2 = same_number a.mark b.mark b1.1 in
    λ i. record { name = e0 i; oid = e1 i; mark = e2 i }

names_same : (xs ys : List Named) → pointwise named_eq xs ys ≡ true → xs ≡ ys
names_same [] [] h = refl
names_same (x ∷ xs) (y ∷ ys) h = let b = and_both (named_eq x y) (pointwise named_eq xs ys) h in let e = named_same x y b.0 in let f = names_same xs ys b.1 in λ i. e i ∷ f i
names_same [] (y ∷ ys) h = absurd cc
names_same (x ∷ xs) [] h = absurd cc

pub states_same : (s t : State) → states_eq s t ≡ true → s ≡ t
states_same (Dir ns f) (Dir ms g) h =
    let b = and_both (pointwise named_eq ns ms) (f == g) h in
    let e0 = names_same ns ms b.0 in
    let e1 = same_number f g b.1 in
    λ i. Dir (e0 i) (e1 i)
states_same s t h = absurd cc

pub directories_sound : (w : W) → directories w ≡ true → DirectoryTrue kinds w
directories_sound w h k =
    elim (index_or w.clients k (new_client kinds w.cluster k)) [
      | inl i ↦ states_same (client kinds w k).dir (directory_at w (client kinds w k).played)
          (all_pass (λ (c : Client kinds). states_eq c.dir (directory_at w c.played)) w.clients h (client kinds w k) i)
      | inr e ↦ ap (λ (c : Client kinds). c.dir) e ∙ new_dir w k ∙ sym (first_directory w) ∙ ap (λ (n : ℕ). directory_at w n) (sym (ap (λ (c : Client kinds). c.played) e ∙ new_played w k))
    ]

-- Marks.

marks_of : (w : W) → marks_rest w (es_of w) ≡ true → (t : Told kinds) (o : Oid) (n : ℕ) → Contains w.told t → t.mark.what ≡ told.Marked o n → marks_rest_of (es_of w) (told.Marked o n) ≡ true
marks_of w h t o n c is = subst (λ (what : WhatOf kinds). marks_rest_of (es_of w) what ≡ true) is (all_pass (λ (u : Told kinds). marks_rest_of (es_of w) u.mark.what) w.told h t (has_contained w.told t c))

abbrev is_decided : W → Oid → ℕ → ℕ × Entry → Bool
is_decided w o n x = implies (nat_lt x.0 n && lists x.1 o && needs_decision x.1) (has_decision (es_of w) x.0)

pub marks_sound : (w : W) → marks_rest w (es_of w) ≡ true → MarksRest kinds w
marks_sound w h = record {
  based = λ t o n c is. base_found w o n (and_both (has_base_past (es_of w) o n) (list_all (is_decided w o n) (es_of w)) (marks_of w h t o n c is)).0;
  decided = λ t o n p e c is here below stands needs.
      decision_found w p (then_so (nat_lt p n && lists e o && needs_decision e) (has_decision (es_of w) p)
      (all_pass (is_decided w o n) (es_of w) (and_both (has_base_past (es_of w) o n) (list_all (is_decided w o n) (es_of w)) (marks_of w h t o n c is)).1 (p, e) (of_log w p e here))
      (both_and (nat_lt p n && lists e o) (needs_decision e) (both_and (nat_lt p n) (lists e o) (of_lt p n below) stands) needs));
}

-- Reads on a path, where nothing is copied.

pub tail_by : (ls : List StreamLink) (x : Msg) → tail_links x ≡ ls → (l : StreamLink) → Has ls l → (t : ℕ) × (x ≡ msg.Tail t ls)
tail_by ls (msg.Tail t ks) e l i = (t, ap (λ (k : List StreamLink). msg.Tail t k) e)
tail_by ls x e l i = absurd (subst (λ (k : List StreamLink). Has k l) (sym e) i)

abbrev on_tail : W → NodeId → ℕ → Packet → Bool
on_tail w n p x = node_eq x.to n && on_links (log kinds w) p (tail_links x.msg)

on_path_found : (w : W) (k p : ℕ) → on_path w (log kinds w) (client_id k) (Some p) ≡ true → OnPath kinds w k p
on_path_found w k p h =
    let x = found (on_tail w (client_id k) p) w.packets h in
    let b = and_both (node_eq x.it.to (client_id k)) (on_links (log kinds w) p (tail_links x.it.msg)) x.passes in
    let l = found (λ (y : StreamLink). has_num p (path (log kinds w) y.oid y.backs)) (tail_links x.it.msg) b.1 in
    let t = tail_by (tail_links x.it.msg) x.it.msg refl l.it l.has in
    let q = found (λ (y : ℕ). p == y) (path (log kinds w) l.it.oid l.it.backs) l.passes in
    record {
      rid = x.it.rid;
      tail = t.0;
      links = tail_links x.it.msg;
      heard = record { packet = x.it; sent = contained_has w.packets x.it x.has; to = nodes_same x.it.to (client_id k) b.0; number = refl; says = t.1 };
      link = l.it;
      linked = contained_has (tail_links x.it.msg) l.it l.has;
      here = contained_has (path (log kinds w) l.it.oid l.it.backs) p (subst (λ (n : ℕ). Has (path (log kinds w) l.it.oid l.it.backs) n) (sym (same_number p q.it q.passes)) q.has);
    }

pub paths_sound : (w : W) → reads_on_path w (log kinds w) ≡ true → (ms : Moves kinds) → ReadsOnPath kinds ms w
paths_sound w h ms x k epoch p sent from is =
    let t = all_pass (λ (y : Packet). implies (is_client y.from) (on_path w (log kinds w) y.from (read_pos y.msg))) w.packets h x (has_contained w.packets x sent) in
    let ours = subst (λ (n : NodeId). implies (is_client n) (on_path w (log kinds w) n (read_pos x.msg)) ≡ true) from t in
    let reads = subst (λ (m : Msg). implies (is_client (client_id k)) (on_path w (log kinds w) (client_id k) (read_pos m)) ≡ true) is ours in
    inl (on_path_found w k p (then_so (is_client (client_id k)) (on_path w (log kinds w) (client_id k) (Some p)) reads (node_itself (client_id k) (client_id k) refl)))

-- All of it.

pub record LogHolds (w : W) : Type 0 where
  pub one_layout : OneLayout kinds w
  pub latest_decided : LatestDecided kinds w
  pub once : EntriesOnce kinds w
  pub linked : EntriesLinked kinds w
  pub records_own : RecordsOwn kinds w
  pub replies_have_records : RepliesHaveRecords kinds w
  pub order : RecordsInOrder kinds w
  pub serial : SerialFirst kinds w
  pub floors : FloorsStay kinds w
  pub trims : TrimsSpare kinds w
  pub marks : MarksRest kinds w
  pub checkpoints : CheckpointsTrue kinds w
  pub directories : DirectoryTrue kinds w
  pub aborts : AbortsLeast kinds w

pub log_sound : (w : W) → world_fails w ≡ [] → LogHolds w
log_sound w e =
    let p = passed_all w e in
    let d = and_both (one_layout (layouts w)) (latest_decided w (layouts w)) p.decided in
    let legal = legal_sound w p.stamps p.no_fault in
    record {
      one_layout = one_layout_sound w d.0;
      latest_decided = latest_sound w d.1;
      once = once_sound w p.stand_once;
      linked = linked_sound w p.are_linked;
      records_own = records_own_sound w p.are_own;
      replies_have_records = replies_sound w p.replies;
      order = order_sound w legal p.ordered;
      serial = serial_sound w legal;
      floors = floors_sound w p.stay;
      trims = trims_sound w p.spare;
      marks = marks_sound w p.marks;
      checkpoints = checkpoints_sound w p.saved;
      directories = directories_sound w p.played;
      aborts = aborts_sound w p.replies;
    }

path_passed : (c : Claim) (b : Bool) → fails c b ≡ [] → b ≡ true
path_passed c true e = refl
path_passed c false e = absurd cc

pub reads_sound : (w : W) → path_fails w ≡ [] → (ms : Moves kinds) → ReadsOnPath kinds ms w
unfolding path_fails
reads_sound w e = paths_sound w (path_passed Off (reads_on_path w (log kinds w)) e)
