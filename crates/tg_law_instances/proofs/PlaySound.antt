-- Tests of a step that passed prove what is claimed of it: from where clients play on, what their walks found, and of answers that tell of nothing.
use Rattle.std.proofs.Common.{◌≡◌, ◌⊎◌, ℕ, ◌<◌, ◌≤◌, List, ◌∷◌, ◌++◌, length, Bool, true, false, Option, Some, None, refl, sym, ap, ◌∙◌, subst, inl, inr, arith}
use Rattle.std.specs.Prelude.{drop, nat_lt, nat_le, not, ◌&&◌, ◌||◌, ◌==◌, slice_get, Contains, if◌then◌else◌}
use Rattle.std.specs.List.{list_any, list_all}
use Rattle.std.proofs.Math.Seq.{drop-append_seam}
use Rattle.tg_base.specs.Clusters.{Header}
use Rattle.tg_base.specs.declared.cell.Cell.{Cell}
use Rattle.tg_base.specs.declared.cell.Cell.TheVariants.{Data}
use Rattle.tg_base.specs.declared.ids.Oid.{Oid}
use Rattle.tg_base.specs.declared.marks.ReadMark.{ReadMark}
use Rattle.tg_base.specs.declared.msg.Msg.{Msg}
use Rattle.tg_base.specs.declared.msg.Msg.TheVariants as msg
use Rattle.tg_base.specs.declared.packet.Packet.{Packet}
use Rattle.tg_entry.specs.declared.entry.Entry.{Entry}
use Rattle.tg_model.specs.declared.command.Command.TheVariants as cmd
use Rattle.tg_model.specs.declared.command.Event.TheVariants.{Command as Commands, Deliver, Lose, Tick, Stop}
use Rattle.tg_model.specs.declared.trace.What.TheVariants as told
use Rattle.tg_model.specs.Kinds.{CommandOf, WhatOf}
use Rattle.tg_protocol.specs.Words.{client_id, cell_at, has_num, directory}
use Rattle.tg_base.specs.Orders.{oid_eq, node_eq}
use Rattle.tg_entry.specs.Needs.{reads_of}
use Rattle.tg_protocol.specs.Entries.{is_commit, lists}
use Rattle.tg_protocol.specs.Pages.{entry_of}
use Rattle.tg_protocol.specs.Replies.{reply}
use Rattle.tg_protocol.specs.Views.{View, base_of, decision_in, unknown_by}
use Rattle.tg_protocol.specs.Logs.{members}
use Rattle.tg_protocol.specs.Clients.{Client, Work, new_client, upto, known, work_cells}
use Rattle.tg_protocol.specs.Stuck.{command_in}
use Rattle.tg_protocol.specs.Worlds.{Told, client, runs, noted_of, log, happens}
use Rattle.tg_protocol.specs.Walked.{Walked, work_end, packet_end, walked_in, walked_from, positions_found, entries_had}
use Rattle.tg_protocol.specs.Playing.{Answers, from_to, IsExact, MetTrimAbove, IsHosted, IsOwn, ReadsForView, ReadsNow, PlaysOn}
use Rattle.tg_protocol.specs.Causes.{IsBelowTail, IsFor, IsUnknown, LacksDecision, IsUnsure, UnsureTrue, IsNone, SaysNone, NonesTrue}
use Rattle.tg_law_instances.proofs.Small.{clash, is_none, never}
use Rattle.tg_law_verdicts.proofs.Members.{differ, Has, has_contained, contained_has, and_both, both_and, not_true, found, passes_somewhere, all_pass}
use Rattle.tg_law_verdicts.proofs.Tests.{same_number, number_same, same_oid, le_of, lt_of, of_lt}
use Rattle.tg_law_examples.proofs.SevenKinds.{kinds}
use Rattle.tg_law_instances.proofs.Same.{node_itself, nums_exact}
use Rattle.tg_law_instances.proofs.Sound.{cell_has}
use Rattle.tg_law_instances.proofs.Readings.{then_so, either_so, es_of, in_log, of_log, EntryAt, entry_found, entry_is_here, heard_found, sent_to, sent_now, tail_is}
use Rattle.tg_law_instances.proofs.Tests.{W, E, implies, is_gone_above, is_tail, entry_here}
use Rattle.tg_law_instances.proofs.StepTests.{replies, says, each_client, is_hosted, met_trim_above, asked_at, some_is, stands_ok, falls_ok, own_entry, own_page, is_idle, gives_up_ok, for_view, read_ok, reads_on_ok, stream_exact, exact_by, exact_ok, tail_above, is_for, unknown_in_view, is_unknown, lacks_by, lacks, caused, causes_ok, none_at, none_ok_of, nones_ok}
use Rattle.tg_law_instances.proofs.Steps.{reply_has, says_it, within, new_there, of_client_test}

pub idle_none : (o : Option (Work kinds)) → is_idle o ≡ true → o ≡ None
idle_none None h = refl
idle_none (Some x) h = absurd cc

-- Playing on.

stands_sound : (w : W) (e : E) → stands_ok w (happens kinds w e) ≡ true → (k : ℕ) (o : Oid) (q : kinds.ask) (at : ℕ) (a : kinds.answer) → Answers kinds w e k (λ t. t.mark.what ≡ told.Asked o q at a)
    → upto kinds (client kinds (happens kinds w e) k) ≡ at
stands_sound w e h k o q at a s =
    let v = happens kinds w e in
    let t = all_pass (λ (u : Told kinds). some_is (asked_at u.mark.what) (upto kinds (client kinds v u.mark.client))) (replies w v) h s.told (reply_has w e s.told s.says) in
    let here = subst (λ (what : WhatOf kinds). some_is (asked_at what) (upto kinds (client kinds v s.told.mark.client)) ≡ true) s.holds t in
    subst (λ (j : ℕ). upto kinds (client kinds v j) ≡ at) s.client (sym (same_number at (upto kinds (client kinds v s.told.mark.client)) here))

hosted_is : (what : WhatOf kinds) → is_hosted what ≡ true → (o : Oid) × (what ≡ told.Hosted o)
hosted_is (told.Hosted o) h = (o, refl)
hosted_is what h = absurd cc

record GoneAbove (b : ℕ) (x : Msg) : Type 0 where
  below : ℕ
  is : x ≡ msg.Gone below
  above : b < below

gone_above_is : (b : ℕ) (x : Msg) → is_gone_above b x ≡ true → GoneAbove b x
gone_above_is b (msg.Gone c) h = record { below = c; is = refl; above = lt_of b c h }
gone_above_is b x h = absurd cc

met_above : (v : W) (k : ℕ) → met_trim_above v k ≡ true → MetTrimAbove kinds v k
met_above v k h =
    let n = noted_of kinds v k in
    let f = heard_found v k n.next (is_gone_above n.upto) h in
    let g = gone_above_is n.upto f.packet.msg f.passes in
    record { rid = f.packet.rid; below = g.below; gone = sent_to v k n.next (is_gone_above n.upto) (msg.Gone g.below) f g.is; now = f.now; above = g.above }

new_upto : (h : Header) (k : ℕ) → upto kinds (new_client kinds h k) ≡ 0
unfolding new_client
new_upto h k = refl

new_work : (h : Header) (k : ℕ) → (new_client kinds h k).work ≡ None
unfolding new_client
new_work h k = refl

new_known : (h : Header) (k p : ℕ) → known kinds (new_client kinds h k) p ≡ None
unfolding new_client
new_known h k p = refl

falls_sound : (w : W) (e : E) → each_client w (falls_ok w (happens kinds w e)) ≡ true → (k : ℕ) → upto kinds (client kinds (happens kinds w e) k) < upto kinds (client kinds w k)
    → Answers kinds w e k (IsHosted kinds) ⊎ MetTrimAbove kinds (happens kinds w e) k
falls_sound w e h k less =
    elim (within k (length w.clients)) [
      | inl here ↦ by (either_so (says w v k is_hosted) (met_trim_above v k)
          (then_so (nat_lt (upto kinds (client kinds v k)) (upto kinds (client kinds w k))) (says w v k is_hosted || met_trim_above v k) (of_client_test w (falls_ok w v) k h here)
          (of_lt (upto kinds (client kinds v k)) (upto kinds (client kinds w k)) less)))
      | inr past ↦ absurd (none_below (ap (λ (c : Client kinds). upto kinds c) (new_there w k past) ∙ new_upto w.cluster k))
    ]
  where
    v : W
    v = happens kinds w e

    none_below : upto kinds (client kinds w k) ≡ 0 → ⊥
    none_below z = omega (arith, less, z)

    by : (says w v k is_hosted ≡ true) ⊎ (met_trim_above v k ≡ true) → Answers kinds w e k (IsHosted kinds) ⊎ MetTrimAbove kinds (happens kinds w e) k
    by (inl a) = let s = says_it w e k is_hosted a in inl (record { told = s.told; says = s.reply; client = s.client; holds = hosted_is s.told.mark.what s.passes })
    by (inr b) = inr (met_above v k b)

own_of : (k : ℕ) (page : List ℕ) (o : Option Entry) → entry_of page ≡ o → own_entry k o ≡ true → IsOwn kinds k page
own_of k page None e h = absurd cc
own_of k page (Some x) e h = let b = and_both (is_commit x) (x.head.client == k) h in (x, e, b.0, same_number x.head.client k b.1)

gives_up_sound : (v : W) → each_client v (gives_up_ok v) ≡ true → (k p : ℕ) (page : List ℕ) → (client kinds v k).work ≡ None → p < upto kinds (client kinds v k)
    → known kinds (client kinds v k) p ≡ Some (Data page) → IsOwn kinds k page
gives_up_sound v h k p page idle less there =
    let c = client kinds v k in
    elim (within k (length v.clients)) [
      | inl here ↦
          let t = then_so (is_idle c.work) (list_all (λ (x : ℕ × Cell). implies (nat_lt x.0 (upto kinds c)) (own_page k x.1)) c.cells) (of_client_test v (gives_up_ok v) k h here) (ap is_idle idle) in
          let at = cell_has c.cells p (Data page) (subst (λ (x : Option (Work kinds)). cell_at (work_cells kinds x c.cells) p ≡ Some (Data page)) idle there) in
          own_of k page (entry_of page) refl (then_so (nat_lt p (upto kinds c)) (own_page k (Data page)) (all_pass (λ (x : ℕ × Cell). implies (nat_lt x.0 (upto kinds c)) (own_page k x.1)) c.cells t (p, Data page) at) (of_lt p (upto kinds c) less))
      | inr past ↦ absurd (never (Data page) (sym (ap (λ (d : Client kinds). known kinds d p) (new_there v k past) ∙ new_known v.cluster k p) ∙ there))
    ]

for_view_is : (x : CommandOf kinds) → ReadsForView kinds x → for_view (Some x) ≡ true
for_view_is (cmd.Ask o q) r = refl
for_view_is cmd.End r = refl
for_view_is (cmd.Checkpoint o) r = refl
for_view_is cmd.Trim r = refl
for_view_is x r = absurd r

abbrev reads_here : W → ℕ → Packet → Bool
reads_here v k p = implies (node_eq p.from (client_id k)) (read_ok (noted_of kinds v k).upto p.msg)

sent_since : (w v : W) (ps : List Packet) → v.packets ≡ w.packets ++ ps → drop (length w.packets) v.packets ≡ ps
sent_since w v ps e = ap (λ (xs : List Packet). drop (length w.packets) xs) e ∙ drop-append_seam w.packets ps

reads_on_sound : (w : W) (e : E) → each_client (happens kinds w e) (reads_on_ok w (happens kinds w e)) ≡ true → (k p : ℕ) → ReadsNow kinds w e k p
    → ((noted_of kinds (happens kinds w e) k).upto ≤ p) ⊎ MetTrimAbove kinds (happens kinds w e) k
reads_on_sound w e h k p r =
    elim (within k (length v.clients)) [
      | inl here ↦ by (either_so (met_trim_above v k) (list_all (reads_here v k) (drop (length w.packets) v.packets))
          (then_so (for_view (command_in kinds (client kinds v k).work)) (met_trim_above v k || list_all (reads_here v k) (drop (length w.packets) v.packets)) (of_client_test v (reads_on_ok w v) k h here)
          (ap (λ (x : Option (Work kinds)). for_view (command_in kinds x)) r.works ∙ for_view_is r.work.command r.for_view)))
      | inr past ↦ absurd (never r.work (sym (ap (λ (c : Client kinds). c.work) (new_there v k past) ∙ new_work v.cluster k) ∙ r.works))
    ]
  where
    v : W
    v = happens kinds w e

    by : (met_trim_above v k ≡ true) ⊎ (list_all (reads_here v k) (drop (length w.packets) v.packets) ≡ true) → ((noted_of kinds (happens kinds w e) k).upto ≤ p) ⊎ MetTrimAbove kinds (happens kinds w e) k
    by (inl a) = inr (met_above v k a)
    by (inr b) =
        let there = subst (λ (ps : List Packet). Has ps r.packet) (sym (sent_since w v r.packets r.are)) (has_contained r.packets r.packet r.here) in
        let t = all_pass (reads_here v k) (drop (length w.packets) v.packets) b r.packet there in
        let s = then_so (node_eq r.packet.from (client_id k)) (read_ok (noted_of kinds v k).upto r.packet.msg) t (node_itself r.packet.from (client_id k) r.from) in
        inl (le_of (noted_of kinds v k).upto p (subst (λ (x : Msg). read_ok (noted_of kinds v k).upto x ≡ true) r.reads s))

pub plays_sound : (w : W) (e : E) → stands_ok w (happens kinds w e) ≡ true → each_client w (falls_ok w (happens kinds w e)) ≡ true → each_client (happens kinds w e) (gives_up_ok (happens kinds w e)) ≡ true
    → each_client (happens kinds w e) (reads_on_ok w (happens kinds w e)) ≡ true → PlaysOn kinds w e
plays_sound w e a b c d = record { stands = stands_sound w e a; falls = falls_sound w e b; gives_up = gives_up_sound (happens kinds w e) c; reads_on = reads_on_sound w e d }

-- Exact syncs, in one later world.

abbrev pub ExactIn : W → E → W → Type 0
ExactIn w e later = (k : ℕ) (x : Walked kinds) (o : Oid) → walked_in kinds w e k ≡ Some x → Contains x.work.oids o → IsExact kinds later x o

if_none : (b : Bool) (o : Option (Walked kinds)) → o ≡ None → (if b then o else None) ≡ None
if_none true o e = e
if_none false o e = refl

none_handed : (w : W) (k : ℕ) (o : Option Packet) → (client kinds w k).work ≡ None → packet_end kinds w k o ≡ None
none_handed w k None e = refl
none_handed w k (Some p) e =
    if_none (node_eq p.to (client_id k) && runs kinds w p.to) (work_end kinds (client kinds w k) (client kinds w k).work p.from p.rid (reply p.msg))
    (ap (λ (x : Option (Work kinds)). work_end kinds (client kinds w k) x p.from p.rid (reply p.msg)) e)

none_walked : (w : W) (e : E) (k : ℕ) → (client kinds w k).work ≡ None → walked_in kinds w e k ≡ None
none_walked w (Deliver i) k idle = none_handed w k (slice_get w.packets i) idle
none_walked w (Commands j x) k idle = refl
none_walked w (Lose i) k idle = refl
none_walked w (Tick n) k idle = refl
none_walked w (Stop n) k idle = refl

pub exact_sound : (w : W) (e : E) (later : W) → each_client w (exact_ok w e later) ≡ true → ExactIn w e later
exact_sound w e later h k x o is there =
    elim (within k (length w.clients)) [
      | inl here ↦
          let t = subst (λ (y : Option (Walked kinds)). exact_by later y ≡ true) is (of_client_test w (exact_ok w e later) k h here) in
          let s = all_pass (stream_exact later x) x.work.oids t o (has_contained x.work.oids o there) in
          (nums_exact (from_to kinds (walked_from kinds x o) x.work.tail (positions_found kinds x o)) (members (log kinds later) o (walked_from kinds x o) x.work.tail)).0 s
      | inr past ↦ absurd (never x (sym (none_walked w e k (ap (λ (c : Client kinds). c.work) (new_there w k past) ∙ new_work w.cluster k)) ∙ is))
    ]

-- Entries that are for a client.

pub for_is : (c : Client kinds) (p : ℕ) (e : Entry) → IsFor kinds c p e → is_for c p e ≡ true
for_is c p e (inl own) = left_so (has_num p c.own) (list_any (λ o. lists e o) c.hosted) (passes_somewhere (λ (y : ℕ). p == y) c.own p (has_contained c.own p own) (number_same p p refl))
  where
    left_so : (a b : Bool) → a ≡ true → (a || b) ≡ true
    left_so a b t = ap (λ x. x || b) t
for_is c p e (inr s) =
    let x = found (λ (q : Oid). oid_eq s.0 q) c.hosted s.1 in
    right_so (has_num p c.own) (list_any (λ o. lists e o) c.hosted) (passes_somewhere (λ (o : Oid). lists e o) c.hosted x.it x.has (subst (λ (o : Oid). lists e o ≡ true) (same_oid s.0 x.it x.passes) s.2))
  where
    right_so : (a b : Bool) → b ≡ true → (a || b) ≡ true
    right_so true b t = refl
    right_so false b t = t

pub is_for_it : (c : Client kinds) (p : ℕ) (e : Entry) → is_for c p e ≡ true → IsFor kinds c p e
is_for_it c p e h =
    elim (either_so (has_num p c.own) (list_any (λ o. lists e o) c.hosted) h) [
      | inl a ↦ (let x = found (λ (y : ℕ). p == y) c.own a in inl (contained_has c.own p (subst (λ (n : ℕ). Has c.own n) (sym (same_number p x.it x.passes)) x.has)))
      | inr b ↦ (let x = found (λ (o : Oid). lists e o) c.hosted b in inr (x.it, passes_somewhere (λ (q : Oid). oid_eq x.it q) c.hosted x.it x.has (number_same x.it.0 x.it.0 refl), x.passes))
    ]

-- Answers that tell of no record.

none_of : (v : W) (t : Told kinds) (p : ℕ) → none_at v t p ≡ true → IsNone kinds v t p
none_of v t p h =
    let c = client kinds v t.mark.client in
    let mine = λ (d : Entry). is_commit d && is_for c p d in
    let ok = λ (tail : ℕ). not (nat_lt p tail && entry_here (es_of v) p mine) in
    let f = heard_found v t.mark.client t.noted.next (is_tail ok) h in
    let i = tail_is ok f.packet.msg f.passes in
    record {
      tail = i.tail;
      links = i.links;
      synced = sent_now v t (is_tail ok) (msg.Tail i.tail i.links) f i.is;
      none = λ d here commit below ours.
          clash (nat_lt p i.tail && entry_here (es_of v) p mine)
          (both_and (nat_lt p i.tail) (entry_here (es_of v) p mine) (of_lt p i.tail below) (entry_is_here (es_of v) p mine d (of_log v p d here) (both_and (is_commit d) (is_for c p d) commit (for_is c p d ours))))
          (not_true (nat_lt p i.tail && entry_here (es_of v) p mine) i.passes);
    }

says_none : (v : W) (t : Told kinds) (what : WhatOf kinds) → none_ok_of v t what ≡ true → SaysNone kinds what (λ p. IsNone kinds v t p)
says_none v t (told.Fate p None) h = none_of v t p h
says_none v t (told.Decided p None) h = none_of v t p h
says_none v t (told.Rescued p None) h = none_of v t p h
says_none v t what h = tt

pub nones_sound : (w : W) (e : E) → nones_ok w (happens kinds w e) ≡ true → NonesTrue kinds w e
nones_sound w e h t r =
    let v = happens kinds w e in
    says_none v t t.mark.what (all_pass (λ (u : Told kinds). none_ok_of v u u.mark.what) (replies w v) h t (reply_has w e t r))

-- Records whose outcome a client can't know.

pub below_tail : (v : W) (t : Told kinds) (p : ℕ) → tail_above v t p ≡ true → IsBelowTail kinds v t p
below_tail v t p h =
    let f = heard_found v t.mark.client t.noted.next (is_tail (λ x. nat_lt p x)) h in
    let i = tail_is (λ x. nat_lt p x) f.packet.msg f.passes in
    record { tail = i.tail; links = i.links; synced = sent_now v t (is_tail (λ x. nat_lt p x)) (msg.Tail i.tail i.links) f i.is; below = lt_of p i.tail i.passes }

abbrev is_of_unknown : Client kinds → ℕ → Oid → Option (View kinds) → Entry → Bool
is_of_unknown c p o u e = is_commit e && is_for c p e && unknown_in_view o p e u

unknown_by_view : (v : W) (t : Told kinds) (p : ℕ) (o : Oid) → IsBelowTail kinds v t p → (u : Option (View kinds)) → (client kinds v t.mark.client).view ≡ u → EntryAt (es_of v) p (is_of_unknown (client kinds v t.mark.client) p o u) → IsUnknown kinds v t p o
unknown_by_view v t p o below None is a = let c = client kinds v t.mark.client in absurd (differ (sym (and_both (is_commit a.entry && is_for c p a.entry) false a.passes).1))
unknown_by_view v t p o below (Some u) is a =
    let c = client kinds v t.mark.client in
    let b = and_both (is_commit a.entry && is_for c p a.entry) (unknown_in_view o p a.entry (Some u)) a.passes in
    let d = and_both (is_commit a.entry) (is_for c p a.entry) b.0 in
    let r = found (λ (x : ReadMark). oid_eq x.oid o && unknown_by kinds p (base_of kinds u o) x) (reads_of a.entry) b.1 in
    let g = and_both (oid_eq r.it.oid o) (unknown_by kinds p (base_of kinds u o) r.it) r.passes in
    record {
      reads = record { entry = a.entry; here = in_log v p a.entry a.here; commit = d.0; read = r.it; reads = contained_has (reads_of a.entry) r.it r.has; of = same_oid r.it.oid o g.0 };
      seen = is_for_it c p a.entry d.1;
      below = below;
      view = u;
      is = is;
      unknown = g.1;
    }

pub unknown_of : (v : W) (t : Told kinds) (p : ℕ) (o : Oid) → is_unknown v t p o ≡ true → IsUnknown kinds v t p o
unknown_of v t p o h =
    let b = and_both (tail_above v t p) (entry_here (es_of v) p (is_of_unknown (client kinds v t.mark.client) p o (client kinds v t.mark.client).view)) h in
    unknown_by_view v t p o (below_tail v t p b.0) (client kinds v t.mark.client).view refl (entry_found (es_of v) p (is_of_unknown (client kinds v t.mark.client) p o (client kinds v t.mark.client).view) b.1)

pub lacks_of : (w : W) (e : E) (t : Told kinds) (p : ℕ) → lacks w e t p ≡ true → LacksDecision kinds w e t p
lacks_of w e t p h = by (walked_in kinds w e t.mark.client) refl h
  where
    by : (x : Option (Walked kinds)) → walked_in kinds w e t.mark.client ≡ x → lacks_by p x ≡ true → LacksDecision kinds w e t p
    by None is l = absurd cc
    by (Some had) is l = record { had = had; walked = is; none = is_none (decision_in (entries_had kinds had) p) l }

unsure_of : (w : W) (e : E) (t : Told kinds) (at p : ℕ) → caused w e (happens kinds w e) t (told.Unsure at p) ≡ true → IsUnsure kinds w e t at p
unsure_of w e t at p h =
    let v = happens kinds w e in
    let objects = directory ∷ v.cluster.objects in
    let b = and_both (nat_le p at && list_any (λ o. is_unknown v t p o) objects) (implies (nat_lt p at) (lacks w e t p)) h in
    let a = and_both (nat_le p at) (list_any (λ o. is_unknown v t p o) objects) b.0 in
    let x = found (λ (o : Oid). is_unknown v t p o) objects a.1 in
    record {
      upto = le_of p at a.0;
      missing = x.it;
      unknown = unknown_of v t p x.it x.passes;
      lacks = λ less. lacks_of w e t p (then_so (nat_lt p at) (lacks w e t p) b.1 (of_lt p at less));
    }

pub unsure_sound : (w : W) (e : E) → causes_ok w e (happens kinds w e) ≡ true → UnsureTrue kinds w e
unsure_sound w e h t at p r is =
    let v = happens kinds w e in
    unsure_of w e t at p (subst (λ (what : WhatOf kinds). caused w e v t what ≡ true) is (all_pass (λ (u : Told kinds). caused w e v u u.mark.what) (replies w v) h t (reply_has w e t r)))
