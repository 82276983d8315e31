-- All steps of a run together: the packets that came, and the replies that were told.
use Rattle.std.specs.Prelude.{◌≡◌, ℕ, zero, suc, ◌+◌, ◌≤◌, Bool, true, false, nat_lt, nat_le, List, [], ◌∷◌, ◌++◌, map, reverse, take, length, slice_get, Option, Some, None, is_some, if◌then◌else◌, refl}
use Rattle.std.proofs.Common.{sym, ap, subst, ◌∙◌, arith, append_assoc, length-append}
use Rattle.std.proofs.lemmas.Bool.Decides.{nat_tests}
use Rattle.std.proofs.lemmas.Grind.{flat_map-append}
use Rattle.std.proofs.lemmas.List.{append-nil, map-append, reverse-append}
use Rattle.std.proofs.Math.Seq.{take-length}
use Rattle.tg_base.specs.Clusters.{Header}
use Rattle.tg_base.specs.declared.ids.NodeId.{NodeId}
use Rattle.tg_base.specs.declared.ids.Role.{Role}
use Rattle.tg_base.specs.declared.ids.Role.TheVariants as role
use Rattle.tg_base.specs.declared.packet.Packet.{Packet}
use Rattle.tg_model.specs.Kinds.{EventOf, CommandOf}
use Rattle.tg_model.specs.declared.command.Event.TheVariants.{Command as Commands, Deliver, Lose, Tick, Stop}
use Rattle.tg_picture.specs.Courses.{courses, course_at, course_in, course_by, course_of, came_before, delivery, listed, sent_by, sent_before, sent_in}
use Rattle.tg_picture.specs.Replies.{told_from, told_before, told_by, told_in}
use Rattle.tg_picture.specs.declared.picture.Reply.{Reply}
use Rattle.tg_picture.specs.declared.steps.Happening.{Happening}
use Rattle.tg_picture.specs.declared.steps.Happening.TheVariants.{Given, Came, Lost, Ticked, Stopped}
use Rattle.tg_picture.specs.declared.steps.Step.{Step}
use Rattle.tg_picture.specs.declared.telling.Telling.{Telling}
use Rattle.tg_picture.specs.declared.ways.Course.{Course}
use Rattle.tg_picture.specs.declared.ways.Ending.TheVariants.{Lost as Losing}
use Rattle.tg_protocol.specs.Runs.{Next, Takes, run as along}
use Rattle.tg_protocol.specs.Words.{client_id, seqr_id}
use Rattle.tg_protocol.specs.Clients.{Client}
use Rattle.tg_protocol.specs.ClientSteps.{ClientTurn, client_command, client_tick}
use Rattle.tg_protocol.specs.Sequencers.{seqr_tick}
use Rattle.tg_protocol.specs.Worlds as rules
use Rattle.tg_protocol.specs.Worlds.{start, happens, next_event, trace}
use Rattle.tg_trace.specs.Transcripts as transcripts
use Rattle.tg_trace.specs.Transcripts.{reply_text}
use Rattle.tg_any.specs.AllKinds.{all_kinds}
use Rattle.tg_replay.specs.Runs.{Worlds}
use Rattle.space_time.specs.Records.{Moves, happening_of, step_of, steps_from}
use Rattle.space_time.specs.Pictures.{came, unless_lost, marks, mark_of, AreAlike, AreWhole}

some_same : {X : Type 0} (x y : X) → Some x ≡ Some y → x ≡ y
some_same x y e = cc

-- What a step sends, and that it delivers nothing by itself.

record Sends (w v : Worlds) : Type 0 where
  more : List Packet
  packets : v.packets ≡ w.packets ++ more
  delivered : v.delivered ≡ w.delivered

nothing : (w v : Worlds) → v.packets ≡ w.packets → v.delivered ≡ w.delivered → Sends w v
nothing w v packets delivered = record { more = []; packets = packets ∙ sym (append-nil w.packets); delivered = delivered }

client_sends : (w : Worlds) (n : ℕ) (t : ClientTurn all_kinds) → Sends w (rules.client_turned all_kinds w n t)
unfolding rules.client_turned
client_sends w n t = record { more = map (rules.packet_of all_kinds (client_id n)) t.sends; packets = refl; delivered = refl }

node_sends : (w : Worlds) (p : Packet) (r : Role) → Sends w (rules.moves all_kinds w p r)
unfolding rules.unit_moves rules.layout_moves rules.seqr_moves
node_sends w p role.Unit = record { more = _; packets = refl; delivered = refl }
node_sends w p role.Layout = record { more = _; packets = refl; delivered = refl }
node_sends w p role.Seqr = record { more = _; packets = refl; delivered = refl }
node_sends w p role.Client = client_sends w p.to.num _

comes_sends : (b : Bool) (w : Worlds) (p : Packet) → Sends w (rules.comes all_kinds b w p)
comes_sends true w p = node_sends w p p.to.role
comes_sends false w p = nothing w w refl refl

noted_packets : (b : Bool) (w : Worlds) (n : ℕ) (k : Client all_kinds) → (rules.noted_if all_kinds b w n k).packets ≡ w.packets
noted_packets true w n k = refl
noted_packets false w n k = refl

noted_delivered : (b : Bool) (w : Worlds) (n : ℕ) (k : Client all_kinds) → (rules.noted_if all_kinds b w n k).delivered ≡ w.delivered
noted_delivered true w n k = refl
noted_delivered false w n k = refl

-- one step after another
both : (u v w : Worlds) → v.packets ≡ u.packets → v.delivered ≡ u.delivered → Sends v w → Sends u w
both u v w packets delivered h = record { more = h.more; packets = h.packets ∙ ap (λ (ps : List Packet). ps ++ h.more) packets; delivered = h.delivered ∙ delivered }

command_sends : (b : Bool) (w : Worlds) (n : ℕ) (x : CommandOf all_kinds) → Sends w (rules.commands all_kinds b w n x)
command_sends false w n x = nothing w w refl refl
command_sends true w n x =
    let k = rules.client all_kinds w n in
    let v = rules.noted_if all_kinds (is_some k.work) w n k in
    both w v (rules.client_turned all_kinds v n (client_command all_kinds k x)) (noted_packets (is_some k.work) w n k) (noted_delivered (is_some k.work) w n k) (client_sends v n (client_command all_kinds k x))

tick_sends : (w : Worlds) (n : ℕ) (r : Role) → Sends w (rules.ticks all_kinds w n r)
tick_sends w n role.Unit = nothing w w refl refl
tick_sends w n role.Layout = nothing w w refl refl
tick_sends w n role.Seqr = record { more = map (rules.packet_of all_kinds (seqr_id n)) (seqr_tick (rules.seqr all_kinds w n)).sends; packets = refl; delivered = refl }
tick_sends w n role.Client = client_sends w n (client_tick all_kinds (rules.client all_kinds w n))

ticks_sends : (b : Bool) (w : Worlds) (n : NodeId) → Sends w (rules.ticks_if all_kinds b w n)
ticks_sends true w n = tick_sends w n.num n.role
ticks_sends false w n = nothing w w refl refl

stops_sends : (b : Bool) (w : Worlds) (n : NodeId) → Sends w (rules.stops_if all_kinds b w n)
stops_sends true w n = nothing w _ refl refl
stops_sends false w n = nothing w w refl refl

-- What a step delivers.

abbrev came_if : Bool → ℕ → List ℕ
came_if true i = i ∷ []
came_if false i = []

-- the packets that come in a step, when so many had been sent
abbrev came_in : ℕ → Happening → List ℕ
came_in n (Came i) = came_if (nat_lt i n) i
came_in n h = []

record Steps (w v : Worlds) (h : Happening) : Type 0 where
  more : List Packet
  packets : v.packets ≡ w.packets ++ more
  delivered : reverse v.delivered ≡ reverse w.delivered ++ came_in (length w.packets) h

-- a packet that was sent is there, and no other
sent_is_there : (ps : List Packet) (i : ℕ) (p : Packet) → slice_get ps i ≡ Some p → nat_lt i (length ps) ≡ true
sent_is_there [] i p e = absurd cc
sent_is_there (q ∷ ps) zero p e = grind (arith, nat_tests)
sent_is_there (q ∷ ps) (suc i) p e = let h = sent_is_there ps i p e in grind (arith, nat_tests, h)

unsent_is_not : (ps : List Packet) (i : ℕ) → slice_get ps i ≡ None → nat_lt i (length ps) ≡ false
unsent_is_not [] i e = grind (arith, nat_tests)
unsent_is_not (q ∷ ps) zero e = absurd cc
unsent_is_not (q ∷ ps) (suc i) e = let h = unsent_is_not ps i e in grind (arith, nat_tests, h)

quiet : (w v : Worlds) (h : Happening) → Sends w v → came_in (length w.packets) h ≡ [] → Steps w v h
quiet w v h s none = record {
  more = s.more;
  packets = s.packets;
  delivered = ap (λ (is : List ℕ). reverse is) s.delivered ∙ sym (append-nil (reverse w.delivered)) ∙ ap (λ (is : List ℕ). reverse w.delivered ++ is) (sym none);
}

delivery_steps : (w : Worlds) (i : ℕ) (o : Option Packet) → slice_get w.packets i ≡ o → Steps w (rules.delivers all_kinds w i o) (Came i)
delivery_steps w i None e = quiet w w (Came i) (nothing w w refl refl) (ap (λ (b : Bool). came_if b i) (unsent_is_not w.packets i e))
delivery_steps w i (Some p) e =
    let s = comes_sends (rules.runs all_kinds w p.to) (rules.handed all_kinds w i) p in
    record {
      more = s.more;
      packets = s.packets;
      delivered = ap (λ (is : List ℕ). reverse is) s.delivered ∙ reverse-append (i ∷ []) w.delivered
          ∙ ap (λ (b : Bool). reverse w.delivered ++ came_if b i) (sym (sent_is_there w.packets i p e));
    }

effect_steps : (w : Worlds) (e : EventOf all_kinds) → Steps w (rules.effect all_kinds w e) (happening_of e)
effect_steps w (Commands k x) = quiet w (rules.commands all_kinds (rules.runs all_kinds w (client_id k)) w k x) (Given k) (command_sends (rules.runs all_kinds w (client_id k)) w k x) refl
effect_steps w (Deliver i) = delivery_steps w i (slice_get w.packets i) refl
effect_steps w (Lose i) = quiet w (rules.effect all_kinds w (Lose i)) (Lost i) (nothing w (rules.effect all_kinds w (Lose i)) refl refl) refl
effect_steps w (Tick n) = quiet w (rules.ticks_if all_kinds (rules.runs all_kinds w n) w n) (Ticked n) (ticks_sends (rules.runs all_kinds w n) w n) refl
effect_steps w (Stop n) = quiet w (rules.stops_if all_kinds (rules.runs all_kinds w n) w n) (Stopped n) (stops_sends (rules.runs all_kinds w n) w n) refl

event_steps : (w : Worlds) (e : EventOf all_kinds) → Steps w (happens all_kinds w e) (happening_of e)
unfolding happens
event_steps w e = let s = effect_steps w e in record { more = s.more; packets = s.packets; delivered = s.delivered }

-- The packets that came in the steps of a run.

abbrev came_from : ℕ → List Step → List ℕ
came_from n [] = []
came_from n (s ∷ ss) = came_in n s.happening ++ came_from s.sent ss

came_along : (line : ℕ) (ms : Moves) (w : Worlds) → reverse (along all_kinds ms w).delivered ≡ reverse w.delivered ++ came_from (length w.packets) (steps_from line ms w)
unfolding along steps_from
came_along line [] w = sym (append-nil (reverse w.delivered))
came_along line (Next ∷ ms) w = came_along (suc line) ms (next_event all_kinds w)
came_along line (Takes e ∷ ms) w =
    let v = happens all_kinds w e in
    let rest = came_from (length v.packets) (steps_from line ms v) in
    came_along line ms v ∙ ap (λ (is : List ℕ). is ++ rest) (event_steps w e).delivered ∙ append_assoc (reverse w.delivered) (came_in (length w.packets) (happening_of e)) rest

-- no step has more packets than the run has in the end
abbrev AreSent : ℕ → List Step → Type 0
AreSent n ss = (k : ℕ) (s : Step) → slice_get ss k ≡ Some s → s.sent ≤ n

grows : (ms : Moves) (w : Worlds) → length w.packets ≤ length (along all_kinds ms w).packets
unfolding along
grows [] w = omega arith
grows (Next ∷ ms) w = grows ms (next_event all_kinds w)
grows (Takes e ∷ ms) w =
    let s = event_steps w e in
    let longer : length (happens all_kinds w e).packets ≡ length w.packets + length s.more = ap (λ (ps : List Packet). length ps) s.packets ∙ length-append w.packets s.more in
    let more = grows ms (happens all_kinds w e) in
    omega (arith, longer, more)

are_sent : (line : ℕ) (ms : Moves) (w : Worlds) → AreSent (length (along all_kinds ms w).packets) (steps_from line ms w)
unfolding along steps_from
are_sent line [] w k s e = absurd cc
are_sent line (Next ∷ ms) w k s e = are_sent (suc line) ms (next_event all_kinds w) k s e
are_sent line (Takes d ∷ ms) w zero s e =
    let v = happens all_kinds w d in
    let more = grows ms v in
    let is : step_of line d v ≡ s = some_same (step_of line d v) s e in
    subst (λ (x : Step). x.sent ≤ length (along all_kinds ms v).packets) is more
are_sent line (Takes d ∷ ms) w (suc k) s e = are_sent line ms (happens all_kinds w d) k s e

-- Their courses.

sent_ahead : ℕ → List Step → ℕ → ℕ
sent_ahead n ss zero = n
sent_ahead n ss (suc k) = sent_by (slice_get ss k)

came_more : (n k : ℕ) (ss : List Step) (s : Step) → slice_get ss k ≡ Some s → came_from n (take (suc k) ss) ≡ came_from n (take k ss) ++ came_in (sent_ahead n ss k) s.happening
unfolding sent_ahead
came_more n k [] s e = absurd cc
came_more n zero (x ∷ ss) s e = append-nil (came_in n x.happening) ∙ ap (λ (y : Step). came_in n y.happening) (some_same x s e)
came_more n (suc zero) (x ∷ ss) s e =
    ap (λ (is : List ℕ). came_in n x.happening ++ is) (came_more x.sent zero ss s e) ∙ sym (append_assoc (came_in n x.happening) (came_from x.sent (take zero ss)) (came_in x.sent s.happening))
came_more n (suc (suc k)) (x ∷ ss) s e =
    ap (λ (is : List ℕ). came_in n x.happening ++ is) (came_more x.sent (suc k) ss s e)
    ∙ sym (append_assoc (came_in n x.happening) (came_from x.sent (take (suc k) ss)) (came_in (sent_by (slice_get ss k)) s.happening))

ahead_is : (ss : List Step) (k : ℕ) → sent_ahead 0 ss k ≡ sent_before ss k
unfolding sent_ahead
ahead_is ss zero = refl
ahead_is ss (suc k) = refl

before_bound : (m : ℕ) (ss : List Step) (k : ℕ) → AreSent m ss → sent_before ss k ≤ m
before_bound m ss zero h = omega arith
before_bound m ss (suc k) h = by (slice_get ss k) refl
  where
    by : (o : Option Step) → slice_get ss k ≡ o → sent_by o ≤ m
    by None e = omega arith
    by (Some s) e = h k s e

kept_back : (ps : List Packet) (i n : ℕ) → slice_get ps i ≡ None → n ≤ length ps → nat_lt i n ≡ false
kept_back ps i n e h = let no = unsent_is_not ps i e in grind (arith, nat_tests, no, h)

-- the course of a delivery, and of a loss
delivered_course : (ps : List Packet) (ss : List Step) (k i : ℕ) (b : Bool) (o : Option Packet) → slice_get ps i ≡ o → sent_before ss k ≤ length ps →
    came (listed (course_of ss k i (delivery b) o)) ≡ came_if (nat_lt i (sent_before ss k)) i
delivered_course ps ss k i b None e h = ap (λ (c : Bool). came_if c i) (sym (kept_back ps i (sent_before ss k) e h))
delivered_course ps ss k i b (Some p) e h = by b (nat_lt i (sent_before ss k))
  where
    by : (b c : Bool) → came (listed (if c then Some (record { packet = i; from = p.from; to = p.to; sent_in = sent_in ss i; ends_in = k; ending = delivery b }) else None)) ≡ came_if c i
    by true true = refl
    by false true = refl
    by b false = refl

lost_course : (ss : List Step) (k i : ℕ) (o : Option Packet) → came (listed (course_of ss k i Losing o)) ≡ []
lost_course ss k i None = refl
lost_course ss k i (Some p) = by (nat_lt i (sent_before ss k))
  where
    by : (c : Bool) → came (listed (if c then Some (record { packet = i; from = p.from; to = p.to; sent_in = sent_in ss i; ends_in = k; ending = Losing }) else None)) ≡ []
    by true = refl
    by false = refl

step_course : (ps : List Packet) (ss : List Step) (k : ℕ) (h : Happening) → sent_before ss k ≤ length ps → came (listed (course_by ps ss k h)) ≡ came_in (sent_before ss k) h
step_course ps ss k (Given c) few = refl
step_course ps ss k (Came i) few = delivered_course ps ss k i (came_before ss k i) (slice_get ps i) refl few
step_course ps ss k (Lost i) few = lost_course ss k i (slice_get ps i)
step_course ps ss k (Ticked n) few = refl
step_course ps ss k (Stopped n) few = refl

take_none : (ss : List Step) (k : ℕ) → slice_get ss k ≡ None → take (suc k) ss ≡ take k ss
take_none [] zero e = refl
take_none [] (suc k) e = refl
take_none (s ∷ ss) zero e = absurd cc
take_none (s ∷ ss) (suc k) e = ap (λ (xs : List Step). s ∷ xs) (take_none ss k e)

from_start : (n : ℕ) {X : Type 0} (x y : X) → (if nat_le 0 n then x else y) ≡ x
from_start n x y = let yes : nat_le 0 n ≡ true = grind (arith, nat_tests) in ap (λ (b : Bool). if b then x else y) yes

courses_came : (ps : List Packet) (ss : List Step) (n : ℕ) → AreSent (length ps) ss → came (courses ps ss 0 n) ≡ came_from 0 (take n ss)
unfolding courses
courses_came ps ss zero h = refl
courses_came ps ss (suc k) h =
    ap (λ (cs : List Course). came (courses ps ss 0 k ++ cs)) (from_start k (listed (course_at ps ss k)) [])
    ∙ flat_map-append (λ (c : Course). unless_lost c.ending c.packet) (courses ps ss 0 k) (listed (course_at ps ss k))
    ∙ ap (λ (is : List ℕ). is ++ came (listed (course_at ps ss k))) (courses_came ps ss k h)
    ∙ by (slice_get ss k) refl
  where
    by : (o : Option Step) → slice_get ss k ≡ o → came_from 0 (take k ss) ++ came (listed (course_in ps ss k o)) ≡ came_from 0 (take (suc k) ss)
    by None e = append-nil (came_from 0 (take k ss)) ∙ ap (λ (xs : List Step). came_from 0 xs) (sym (take_none ss k e))
    by (Some s) e =
        ap (λ (is : List ℕ). came_from 0 (take k ss) ++ is) (step_course ps ss k s.happening (before_bound (length ps) ss k h))
        ∙ ap (λ (m : ℕ). came_from 0 (take k ss) ++ came_in m s.happening) (sym (ahead_is ss k))
        ∙ sym (came_more 0 k ss s e)

-- All replies of a run.

told_after : ℕ → List Step → ℕ
told_after n [] = n
told_after n (s ∷ ss) = told_after s.told ss

told_along : (line : ℕ) (ms : Moves) (w : Worlds) → told_after (length (trace all_kinds w)) (steps_from line ms w) ≡ length (trace all_kinds (along all_kinds ms w))
unfolding along steps_from told_after
told_along line [] w = refl
told_along line (Next ∷ ms) w = told_along (suc line) ms (next_event all_kinds w)
told_along line (Takes e ∷ ms) w = told_along line ms (happens all_kinds w e)

after_last : (n : ℕ) (s : Step) (ss : List Step) → told_after n (s ∷ ss) ≡ told_by (slice_get (s ∷ ss) (length ss))
unfolding told_after
after_last n s [] = refl
after_last n s (x ∷ ss) = after_last s.told x ss

told_at_end : (ss : List Step) → told_before ss (length ss) ≡ told_after 0 ss
unfolding told_after
told_at_end [] = refl
told_at_end (s ∷ ss) = sym (after_last 0 s ss)

marks_append : (ts us : List Telling) (rs : List transcripts.Reply) → marks (ts ++ us) rs ≡ marks ts rs ++ marks us rs
unfolding marks
marks_append [] us rs = refl
marks_append (t ∷ ts) us rs =
    ap (λ (ms : List Reply). mark_of t (slice_get rs t.reply) ++ ms) (marks_append ts us rs) ∙ sym (append_assoc (mark_of t (slice_get rs t.reply)) (marks ts rs) (marks us rs))

one_more_line : (rs : List transcripts.Reply) (k : ℕ) (t : Telling) → map reply_text (take k rs) ++ map (λ (r : Reply). r.line) (mark_of t (slice_get rs k) ++ []) ≡ map reply_text (take (suc k) rs)
one_more_line [] zero t = refl
one_more_line [] (suc k) t = refl
one_more_line (r ∷ rs) zero t = refl
one_more_line (r ∷ rs) (suc k) t = ap (λ (ls : List (List ℕ)). reply_text r ∷ ls) (one_more_line rs k t)

lines_told : (ss : List Step) (rs : List transcripts.Reply) (n : ℕ) → map (λ (r : Reply). r.line) (marks (told_from ss 0 n) rs) ≡ map reply_text (take n rs)
unfolding told_from marks
lines_told ss rs zero = refl
lines_told ss rs (suc k) =
    let t : Telling = record { reply = k; step = told_in ss k } in
    ap (λ (ts : List Telling). map (λ (r : Reply). r.line) (marks (told_from ss 0 k ++ ts) rs)) (from_start k (t ∷ []) [])
    ∙ ap (λ (ms : List Reply). map (λ (r : Reply). r.line) ms) (marks_append (told_from ss 0 k) (t ∷ []) rs)
    ∙ map-append (λ (r : Reply). r.line) (marks (told_from ss 0 k) rs) (marks (t ∷ []) rs)
    ∙ ap (λ (ls : List (List ℕ)). ls ++ map (λ (r : Reply). r.line) (marks (t ∷ []) rs)) (lines_told ss rs k)
    ∙ one_more_line rs k t

no_replies : (h : Header) → trace all_kinds (start all_kinds h) ≡ []
unfolding start
no_replies h = refl

no_packets : (h : Header) → (start all_kinds h).packets ≡ []
unfolding start
no_packets h = refl

no_deliveries : (h : Header) → (start all_kinds h).delivered ≡ []
unfolding start
no_deliveries h = refl

-- A run from its start, of which another world tells alike.
pub whole : (h : Header) (ms : Moves) (v : Worlds) → AreAlike (along all_kinds ms (start all_kinds h)) v → AreWhole (steps_from 0 ms (start all_kinds h)) v
whole h ms v alike =
    let before = start all_kinds h in
    let w = along all_kinds ms before in
    let ss = steps_from 0 ms before in
    let packets : w.packets ≡ v.packets = ap (λ (x : Worlds). x.packets) alike in
    let delivered : w.delivered ≡ v.delivered = ap (λ (x : Worlds). x.delivered) alike in
    let told : trace all_kinds w ≡ trace all_kinds v = ap (λ (x : Worlds). trace all_kinds x) alike in
    let rs = trace all_kinds v in
    let count : told_before ss (length ss) ≡ length rs =
    told_at_end ss ∙ ap (λ (ts : List transcripts.Reply). told_after (length ts) ss) (sym (no_replies h)) ∙ told_along 0 ms before ∙ ap (λ (ts : List transcripts.Reply). length ts) told in
    record {
      deliveries =
          courses_came v.packets ss (length ss) (subst (λ (ps : List Packet). AreSent (length ps) ss) packets (are_sent 0 ms before))
          ∙ ap (λ (xs : List Step). came_from 0 xs) (take-length ss)
          ∙ ap (λ (ps : List Packet). came_from (length ps) ss) (sym (no_packets h))
          ∙ ap (λ (is : List ℕ). reverse is ++ came_from (length before.packets) ss) (sym (no_deliveries h))
          ∙ sym (came_along 0 ms before)
          ∙ ap (λ (is : List ℕ). reverse is) delivered;
      replies = ap (λ (n : ℕ). map (λ (r : Reply). r.line) (marks (told_from ss 0 n) rs)) count ∙ lines_told ss rs (length rs) ∙ ap (λ (ts : List transcripts.Reply). map reply_text ts) (take-length rs);
    }
