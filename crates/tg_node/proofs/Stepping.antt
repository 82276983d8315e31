-- Sessions over several inputs.
use Rattle.std.proofs.Common.{◌≡◌, ℕ, zero, suc, ◌+◌, ◌-◌, ◌<◌, ◌≤◌, List, [], ◌∷◌, ◌++◌, length, take, map, Option, Some, None, ⊎_elim, inl, inr, sym, refl, subst, ap, ◌∙◌, arith, true, false, Bool}
use Rattle.std.specs.Prelude.{nat_le, is_some, ◌&&◌, Result, Ok, Err, IfOk, OnErr}
use Rattle.tg_io.specs.declared.fault.IoErr.{IoErr}
use Rattle.tg_base.specs.Orders.{node_eq}
use Rattle.tg_codec.specs.Whole.{whole}
use Rattle.tg_wire.specs.Packets.{packet}
use Rattle.std.specs.List.{flat_map}
use Rattle.std.proofs.lemmas.Bool.Decides.{nat_tests}
use Rattle.std.proofs.lemmas.List.{append_assoc, append-nil, map-append}
use Rattle.tg_base.specs.declared.fault.Which.{Which}
use Rattle.tg_base.specs.declared.fault.Which.TheVariants as which
use Rattle.tg_base.specs.declared.ids.NodeId.{NodeId}
use Rattle.tg_base.specs.declared.packet.Out.{Out}
use Rattle.tg_base.specs.declared.packet.Packet.{Packet}
use Rattle.tg_io.specs.Acts.{Act, Comes}
use Rattle.tg_io.specs.Bytes.{Grows}
use Rattle.tg_io.specs.Links.{Adds}
use Rattle.tg_io.specs.declared.link.Arrival.{Arrival}
use Rattle.tg_io.specs.declared.link.Sent.{Sent}
use Rattle.tg_io.proofs.Bytes.{grows_none, grows_more}
use Rattle.tg_link_packets.specs.Mail.{HandsOne, all_gone, all_sent, packets_from, came_to, taken_by, taken_if}
use Rattle.tg_link_packets.specs.declared.receiving.Came.{Came}
use Rattle.tg_link_packets.specs.declared.receiving.Came.TheVariants as came
use Rattle.tg_node.specs.Replies.{replies_in, replies_text}
use Rattle.tg_node.specs.declared.asked.Asked.{Asked}
use Rattle.tg_node.specs.declared.asked.Asked.TheVariants.{Wait}
use Rattle.tg_node_state.specs.Nodes.{Node as RuleNode, node_step}
use Rattle.tg_node_state.specs.Kept.{SteppedOf, KeepsTurn, KeepsNode, IsNode}
use Rattle.tg_node_state.specs.declared.input.Input.TheVariants as input
use Rattle.tg_node_state.proofs.Roles.{is_later}
use Rattle.tg_trace.specs.Transcripts.{Reply, reply_text}
use Rattle.tg_node.specs.Acts.{GrowsFront, acts_in, step_acts, wait_acts}
use Rattle.tg_any.specs.AllKinds.{all_kinds}
use Rattle.tg_node.specs.Sessions.{AnyInput, Session, IsWhole, inputs_by, input_of, packets_in, datagrams_in, plays, steps}
use Rattle.tg_node.specs.Texts.{IsPart, IsPast}
use Rattle.tg_node.specs.Steps.{Stands, IsSound, after, Goes, Does, Breaks, BreaksLine, made_acts, asked_acts, Counts, Makes, EndsLine, TakesOne, Waits, TookLine}
use Rattle.tg_node.specs.declared.nodes.Node.{Node}
use Rattle.tg_node.specs.declared.nodes.Moved.{Moved}
use Rattle.tg_node.specs.declared.nodes.Place.{Place}
use Rattle.tg_node.proofs.Doing.{take_none, take_all, many_both, sent_both, plays_both, acts_front, wait_both, acts_answers, wait_answers, front_answers, more_answers, front_none, front_wider, front_later, front_gone}

-- Lists.

take_past : {X : Type 0} (xs ys : List X) (k : ℕ) → take (length xs + k) (xs ++ ys) ≡ xs ++ take k ys
take_past [] ys k = let e : 0 + k ≡ k = omega arith in ap (λ (n : ℕ). take n ys) e
take_past {X} (x ∷ xs) ys k =
    let e : suc (length xs) + k ≡ suc (length xs + k) = omega arith in
    ap (λ (n : ℕ). take n (x ∷ (xs ++ ys))) e ∙ ap (λ (l : List X). x ∷ l) (take_past xs ys k)

-- a front that ends within the first list
pub take_before : {X : Type 0} (xs ys : List X) (n : ℕ) → n ≤ length xs → take n (xs ++ ys) ≡ take n xs
take_before xs ys zero h = refl
take_before [] ys (suc n) h = absurd (omega (arith, h))
take_before {X} (x ∷ xs) ys (suc n) h = let k : n ≤ length xs = omega (arith, h) in ap (λ (l : List X). x ∷ l) (take_before xs ys n k)

text_both : (xs ys : List Reply) → replies_text (xs ++ ys) ≡ replies_text xs ++ replies_text ys
text_both [] ys = refl
text_both (x ∷ xs) ys = ap (λ (l : List ℕ). reply_text x ++ l) (text_both xs ys) ∙ sym (append_assoc (reply_text x) (replies_text xs) (replies_text ys))

-- One step.

pub stands_next : (p : Place) (i : AnyInput) (k : Node) (from before sent : Option (List Sent)) (written : List ℕ) (s : Session) (t : SteppedOf all_kinds) (out : List ℕ) → Stands from written k before s
    → KeepsTurn all_kinds (k.steps + 1) t (node_step all_kinds s.node i) → Grows before (all_sent (packets_from p.node t.sends)) sent → out ≡ k.replies ++ replies_text (replies_in p.event p.node.num t.notes)
    → Stands from written (record { own = t.own; steps = k.steps + 1; received = k.received; replies = out }) sent (after p (i ∷ []) s)
stands_next p i k from before sent written s t out st turn grown e =
    let to = node_step all_kinds s.node i in
    record {
      node = turn.now;
      sent =
          subst (λ (l : List Sent). Grows from l sent) (sym (sent_both s.sent (packets_from p.node to.sends)))
          (subst (λ (l : List Out). Grows from (all_sent s.sent ++ all_sent (packets_from p.node l)) sent) turn.sends
          (grows_more from before sent (all_sent s.sent) (all_sent (packets_from p.node t.sends)) st.sent grown));
      replies =
          text_both s.replies (replies_in p.event p.node.num to.notes)
          ∙ ap (λ (l : List ℕ). l ++ replies_text (replies_in p.event p.node.num to.notes)) st.replies
          ∙ append_assoc written k.replies (replies_text (replies_in p.event p.node.num to.notes))
          ∙ ap (λ (l : List ℕ). written ++ l) (ap (λ (x : _). k.replies ++ replies_text (replies_in p.event p.node.num x)) (sym turn.notes) ∙ sym e);
    }

pub sound_next : (i : AnyInput) (k : Node) (t : SteppedOf all_kinds) (out : List ℕ) → IsSound k → k.steps < 200000 → ((n : RuleNode all_kinds) → KeepsNode all_kinds k.steps k.own n → KeepsTurn all_kinds (k.steps + 1) t (node_step all_kinds n i))
    → IsSound (record { own = t.own; steps = k.steps + 1; received = k.received; replies = out })
sound_next i k t out h room turns = record {
  node = record { node = (node_step all_kinds h.node.node i).now; keeps = (turns h.node.node h.node.keeps).now };
  steps = let r : k.steps < 200000 = room in omega (arith, r);
  received = h.received;
}

pub room_for : (k : Node) → IsSound k → k.steps < 200000 → IsNode all_kinds 199999 k.own
room_for k h room = let le : k.steps ≤ 199999 = omega (arith, room) in is_later all_kinds k.steps 199999 k.own h.node le

-- Several.

goes_none : (p : Place) (k : Node) (sent : Option (List Sent)) (n : ℕ) → Goes p (take n []) k sent k sent
goes_none p k sent n = λ from written s st. subst (λ (is : List AnyInput). Stands from written k sent (after p is s)) (sym (take_none n)) st

goes_more : (p : Place) (is js : List AnyInput) (k l m : Node) (a b c : Option (List Sent)) → Goes p is k a l b → Goes p js l b m c → Goes p (is ++ js) k a m c
goes_more p is js k l m a b c g h = λ from written s st.
    subst (λ (x : Session). Stands from written m c x) (sym (plays_both p.node p.event is js s)) (h from written (after p is s) (g from written s st))

-- the first inputs were made, and the node goes on
pub makes_more : (p : Place) (is js : List AnyInput) (k l : Node) (m : Moved) (a b c : Option (List Sent)) → Makes p is k a (record { node = l; stopped = None }) b → Makes p js l b m c → Makes p (is ++ js) k a m c
makes_more p is js k l m a b c g h =
    let made : l.steps ≡ k.steps + length is = g.counts in
    let few : l.steps ≤ 200000 = g.sound.steps in
    let all : take (200000 - k.steps) is ≡ is = take_all is (200000 - k.steps) (omega (arith, made, few)) in
    let left : 200000 - k.steps ≡ length is + (200000 - l.steps) = omega (arith, made, few) in
    let parts : take (200000 - k.steps) (is ++ js) ≡ is ++ take (200000 - l.steps) js = ap (λ n. take n (is ++ js)) left ∙ take_past is js (200000 - l.steps) in
    let many : length (is ++ js) ≡ length is + length js = many_both is js in
    let total : l.steps + length js ≡ k.steps + length (is ++ js) = omega (arith, made, many) in
    record {
      goes =
          subst (λ (x : List AnyInput). Goes p x k a m.node c) (sym parts)
          (goes_more p is (take (200000 - l.steps) js) k l m.node a b c (subst (λ (x : List AnyInput). Goes p x k a l b) all g.goes) h.goes);
      counts = subst (λ (n : ℕ). Counts n m.stopped m.node.steps) total h.counts;
      sound = h.sound;
    }

stopped_counts : (w : Option Which) (n o made : ℕ) → is_some w ≡ true → n ≤ o → Counts n w made → Counts o w made
stopped_counts None n o made e le h = absurd cc
stopped_counts (Some which.Steps) n o made e le h = let past : 200000 < n = h.0 in (omega (arith, past, le), h.1)
stopped_counts (Some which.Bytes) n o made e le h = h
stopped_counts (Some which.Datagrams) n o made e le h = h

stopped_past : (w : Option Which) (n made : ℕ) → is_some w ≡ true → Counts n w made → 200000 < n
stopped_past None n made e h = absurd cc
stopped_past (Some which.Steps) n made e h = h.0
stopped_past (Some which.Bytes) n made e h = absurd h
stopped_past (Some which.Datagrams) n made e h = absurd h

-- a limit was passed in the midst of the first inputs
pub makes_part : (p : Place) (is js : List AnyInput) (k : Node) (m : Moved) (a b : Option (List Sent)) → is_some m.stopped ≡ true → k.steps ≤ 200000 → Makes p is k a m b → Makes p (is ++ js) k a m b
makes_part p is js k m a b stopped few g =
    let past : 200000 < k.steps + length is = stopped_past m.stopped (k.steps + length is) m.node.steps stopped g.counts in
    let within : 200000 - k.steps ≤ length is = omega (arith, past, few) in
    let many : length (is ++ js) ≡ length is + length js = many_both is js in
    let longer : k.steps + length is ≤ k.steps + length (is ++ js) = omega (arith, many) in
    record {
      goes = subst (λ (x : List AnyInput). Goes p x k a m.node b) (sym (take_before is js (200000 - k.steps) within)) g.goes;
      counts = stopped_counts m.stopped (k.steps + length is) (k.steps + length (is ++ js)) m.node.steps stopped longer g.counts;
      sound = g.sound;
    }

-- no step more may be made
pub makes_stop : (p : Place) (i : AnyInput) (k : Node) (sent : Option (List Sent)) → IsSound k → nat_le 200000 k.steps ≡ true → Makes p (i ∷ []) k sent (record { node = k; stopped = Some which.Steps }) sent
makes_stop p i k sent h e =
    let few : k.steps ≤ 200000 = h.steps in
    let at : k.steps ≡ 200000 = at_limit k.steps few e in
    let nothing : 200000 - k.steps ≡ 0 = omega (arith, at) in
    record {
      goes = λ from written s st. subst (λ (n : ℕ). Stands from written k sent (after p (take n (i ∷ [])) s)) (sym nothing) st;
      counts = (omega (arith, at), at);
      sound = h;
    }
  where
    at_limit : (n : ℕ) → n ≤ 200000 → nat_le 200000 n ≡ true → n ≡ 200000
    at_limit n le e = grind (arith, nat_tests)

-- a step was made
pub makes_one : (p : Place) (i : AnyInput) (k l : Node) (a b : Option (List Sent)) → k.steps < 200000 → Goes p (i ∷ []) k a l b → l.steps ≡ k.steps + 1 → IsSound l → Makes p (i ∷ []) k a (record { node = l; stopped = None }) b
makes_one p i k l a b room g e h =
    let one : length (i ∷ []) ≤ 200000 - k.steps = omega (arith, room) in
    record { goes = subst (λ (x : List AnyInput). Goes p x k a l b) (sym (take_all (i ∷ []) (200000 - k.steps) one)) g; counts = e; sound = h }

pub room_left : (n : ℕ) (b : Bool) → b ≡ nat_le 200000 n → b ≡ false → n < 200000
room_left n b e f = room n (sym e ∙ f)
  where
    room : (n : ℕ) → nat_le 200000 n ≡ false → n < 200000
    room n e = grind (arith, nat_tests)

-- Lines that take no answer.

ends_alone : (a : Asked) (w : Option Which) (all datagrams made : ℕ) → IsWhole a [] → IsPart a [] → (200000 < all → IsPast a all) → Counts all w made → EndsLine a [] all datagrams w made
ends_alone a None all datagrams made whole part past h = (whole, h)
ends_alone a (Some which.Steps) all datagrams made whole part past h = (part, past h.0)
ends_alone a (Some which.Bytes) all datagrams made whole part past h = absurd h
ends_alone a (Some which.Datagrams) all datagrams made whole part past h = absurd h

pub took_alone : (p : Place) (a : Asked) (k : Node) (m : Moved) (handed handed_after : Option (List (Option Arrival))) (sent sent_after : Option (List Sent)) (acts acts_after : Option (List Act)) → IsWhole a [] → IsPart a [] → ((n : ℕ) → 200000 < n → IsPast a n)
    → Makes p (inputs_by p.node a []) k sent m sent_after → m.node.received ≡ k.received → handed_after ≡ handed → Does k sent (asked_acts p k a []) acts acts_after → TookLine p a handed k sent m handed_after sent_after acts acts_after
took_alone p a k m handed handed_after sent sent_after acts acts_after whole part past g e same does = record {
  does = does;
  answers = [];
  grown = subst (λ (x : Option (List (Option Arrival))). Grows handed [] x) (sym same) (grows_none handed);
  takes = record {
    goes = g.goes;
    ends = ends_alone a m.stopped (k.steps + length (inputs_by p.node a [])) (k.received + 0) m.node.steps whole part (past (k.steps + length (inputs_by p.node a []))) g.counts;
    received = let r : m.node.received ≡ k.received = e in omega (arith, r);
    sound = g.sound;
  };
}

-- Waits.

pub packets_both : (n : NodeId) (came_all bs : List (Option Arrival)) → packets_in n (came_all ++ bs) ≡ packets_in n came_all ++ packets_in n bs
packets_both n [] bs = refl
packets_both n (a ∷ came_all) bs = ap (λ (l : List AnyInput). input_of (came_to n a) ++ l) (packets_both n came_all bs) ∙ sym (append_assoc (input_of (came_to n a)) (packets_in n came_all) (packets_in n bs))

pub datagrams_both : (came_all bs : List (Option Arrival)) → datagrams_in (came_all ++ bs) ≡ datagrams_in came_all + datagrams_in bs
datagrams_both [] bs = omega arith
datagrams_both (None ∷ came_all) bs = datagrams_both came_all bs
datagrams_both (Some a ∷ came_all) bs = let e : datagrams_in (came_all ++ bs) ≡ datagrams_in came_all + datagrams_in bs = datagrams_both came_all bs in omega (arith, e)

makes_nothing : (p : Place) (k : Node) (sent : Option (List Sent)) → IsSound k → Makes p [] k sent (record { node = k; stopped = None }) sent
makes_nothing p k sent h = record { goes = goes_none p k sent (200000 - k.steps); counts = omega arith; sound = h }

pub waits_none : (p : Place) (k : Node) (handed : Option (List (Option Arrival))) (sent : Option (List Sent)) (acts : Option (List Act)) → IsSound k → Waits p 0 handed k sent k handed sent acts acts
waits_none p k handed sent acts h = record { does = λ from written s st. grows_none acts; answers = []; many = refl; grown = grows_none handed; makes = makes_nothing p k sent h; received = omega arith }

-- nothing came, or another datagram
pub one_passed : (p : Place) (a : Option Arrival) (k l : Node) (sent : Option (List Sent)) → IsSound k → input_of (came_to p.node a) ≡ [] → l.own ≡ k.own → l.steps ≡ k.steps → l.replies ≡ k.replies → l.received ≡ k.received + datagrams_in (a ∷ []) → l.received ≤ 1000000
    → TakesOne p a k sent (record { node = l; stopped = None }) sent
one_passed p a k l sent h none own steps_same replies e few =
    let nothing : packets_in p.node (a ∷ []) ≡ [] = ap (λ (x : List AnyInput). x ++ []) none in
    record {
      makes = record {
        goes = subst (λ (x : List AnyInput). Goes p (take (200000 - k.steps) x) k sent l sent) (sym nothing)
            (λ from written s st. subst (λ (is : List AnyInput). Stands from written l sent (after p is s)) (sym (take_none (200000 - k.steps)))
            (record { node = subst (λ (x : _). KeepsNode all_kinds l.steps x s.node) (sym own) (subst (λ (n : ℕ). KeepsNode all_kinds n k.own s.node) (sym steps_same) st.node); sent = st.sent; replies = st.replies ∙ ap (λ (x : List ℕ). written ++ x) (sym replies) }));
        counts = let same : l.steps ≡ k.steps = steps_same in let zero_many : length (packets_in p.node (a ∷ [])) ≡ 0 = ap length nothing in omega (arith, same, zero_many);
        sound = record { node = subst (λ (x : _). IsNode all_kinds l.steps x) (sym own) (subst (λ (n : ℕ). IsNode all_kinds n k.own) (sym steps_same) h.node); steps = let same : l.steps ≡ k.steps = steps_same in let le : k.steps ≤ 200000 = h.steps in omega (arith, same, le); received = few };
      };
      received = e;
    }

-- which answer it was
not_nothing : (n to : NodeId) (r : Result Packet ℕ) → taken_by n to r ≡ came.Nothing → ⊥
not_nothing n to (Err at) e = absurd cc
not_nothing n to (Ok p) e = by (node_eq p.to n && node_eq to n) e
  where
    by : (b : Bool) → taken_if b p ≡ came.Nothing → ⊥
    by true e = absurd cc
    by false e = absurd cc

pub none_came : (n : NodeId) (a : Option Arrival) → came_to n a ≡ came.Nothing → datagrams_in (a ∷ []) ≡ 0
none_came n None e = refl
none_came n (Some x) e = absurd (not_nothing n x.to (whole packet x.datagram) e)

pub stranger_came : (n : NodeId) (a : Option Arrival) → came_to n a ≡ came.Stranger → datagrams_in (a ∷ []) ≡ 1
stranger_came n None e = absurd cc
stranger_came n (Some x) e = refl

pub packet_came : (n : NodeId) (a : Option Arrival) (q : Packet) → came_to n a ≡ came.Taken q → datagrams_in (a ∷ []) ≡ 1
packet_came n None q e = absurd cc
packet_came n (Some x) q e = refl

-- a node that has taken one datagram more
abbrev pub counted : Node → Node
counted k = record { own = k.own; steps = k.steps; received = k.received + 1; replies = k.replies }

pub counted_sound : (k : Node) → IsSound k → k.received < 1000000 → IsSound (counted k)
counted_sound k h few = record { node = h.node; steps = h.steps; received = let f : k.received < 1000000 = few in omega (arith, f) }

makes_counted : (p : Place) (is : List AnyInput) (k : Node) (m : Moved) (a b : Option (List Sent)) → Makes p is (counted k) a m b → Makes p is k a m b
makes_counted p is k m a b h = record { goes = λ from written s st. h.goes from written s (record { node = st.node; sent = st.sent; replies = st.replies }); counts = h.counts; sound = h.sound }

-- a packet came
pub one_taken : (p : Place) (a : Option Arrival) (q : Packet) (k : Node) (m : Moved) (sent after_sent : Option (List Sent)) → came_to p.node a ≡ came.Taken q → Makes p (input.Packet q ∷ []) (counted k) sent m after_sent → m.node.received ≡ k.received + 1
    → TakesOne p a k sent m after_sent
one_taken p a q k m sent after_sent e h r =
    let is : packets_in p.node (a ∷ []) ≡ input.Packet q ∷ [] = ap (λ (x : Came). input_of x ++ []) e in
    let one : datagrams_in (a ∷ []) ≡ 1 = packet_came p.node a q e in
    record {
      makes = subst (λ (x : List AnyInput). Makes p x k sent m after_sent) (sym is) (makes_counted p (input.Packet q ∷ []) k m sent after_sent h);
      received = let made : m.node.received ≡ k.received + 1 = r in omega (arith, made, one);
    }

-- The answers of a wait.

many_last : {X : Type 0} (xs : List X) (x : X) → length (xs ++ x ∷ []) ≡ length xs + 1
many_last [] x = refl
many_last (y ∷ xs) x = let e : length (xs ++ x ∷ []) ≡ length xs + 1 = many_last xs x in omega (arith, e)

received_more : (came_all : List (Option Arrival)) (a : Option Arrival) (x y z : ℕ) → y ≡ x + datagrams_in came_all → z ≡ y + datagrams_in (a ∷ []) → z ≡ x + datagrams_in (came_all ++ a ∷ [])
received_more came_all a x y z e f = let both : datagrams_in (came_all ++ a ∷ []) ≡ datagrams_in came_all + datagrams_in (a ∷ []) = datagrams_both came_all (a ∷ []) in omega (arith, both, e, f)

answers_more : (p : Place) (came_all : List (Option Arrival)) (a : Option Arrival) (k l : Node) (m : Moved) (x y z : Option (List Sent)) → Makes p (packets_in p.node came_all) k x (record { node = l; stopped = None }) y → Makes p (packets_in p.node (a ∷ [])) l y m z
    → Makes p (packets_in p.node (came_all ++ a ∷ [])) k x m z
answers_more p came_all a k l m x y z g h =
    subst (λ (is : List AnyInput). Makes p is k x m z) (sym (packets_both p.node came_all (a ∷ []))) (makes_more p (packets_in p.node came_all) (packets_in p.node (a ∷ [])) k l m x y z g h)

-- what a wait so far has left of the steps
room_then : (p : Place) (i : ℕ) (k l : Node) (handed handed_next : Option (List (Option Arrival))) (x y : Option (List Sent)) (d e : Option (List Act)) → (w : Waits p i handed k x l handed_next y d e)
    → (length (packets_in p.node w.answers) ≤ 200000 - k.steps) × (200000 - k.steps - length (packets_in p.node w.answers) ≡ 200000 - l.steps)
room_then p i k l handed handed_next x y d e w =
    let made : l.steps ≡ k.steps + length (packets_in p.node w.answers) = w.makes.counts in
    let low : l.steps ≤ 200000 = w.makes.sound.steps in
    (omega (arith, made, low), omega (arith, made, low))

-- the session of a wait so far
stands_then : (p : Place) (i : ℕ) (k l : Node) (handed handed_next : Option (List (Option Arrival))) (x y : Option (List Sent)) (d e : Option (List Act)) → (w : Waits p i handed k x l handed_next y d e) → (from : Option (List Sent)) (written : List ℕ) (s : Session)
    → Stands from written k x s → Stands from written l y (plays p.node p.event (packets_in p.node w.answers) s)
stands_then p i k l handed handed_next x y d e w from written s st =
    subst (λ (is : List AnyInput). Stands from written l y (plays p.node p.event is s))
    (take_all (packets_in p.node w.answers) (200000 - k.steps) (room_then p i k l handed handed_next x y d e w).0) (w.makes.goes from written s st)

-- what a wait does with some answers more
acts_then : (p : Place) (i : ℕ) (k l : Node) (handed handed_next : Option (List (Option Arrival))) (x y : Option (List Sent)) (d e : Option (List Act)) (more : List (Option Arrival)) (s : Session) → (w : Waits p i handed k x l handed_next y d e)
    → wait_acts p.node p.event (200000 - k.steps) (w.answers ++ more) s
    ≡ wait_acts p.node p.event (200000 - k.steps) w.answers s ++ wait_acts p.node p.event (200000 - l.steps) more (plays p.node p.event (packets_in p.node w.answers) s)
acts_then p i k l handed handed_next x y d e more s w =
    let room = room_then p i k l handed handed_next x y d e w in
    wait_both p.node p.event (200000 - k.steps) w.answers more s room.0
    ∙ ap (λ (n : ℕ). wait_acts p.node p.event (200000 - k.steps) w.answers s ++ wait_acts p.node p.event n more (plays p.node p.event (packets_in p.node w.answers) s)) room.1

does_more : (p : Place) (i : ℕ) (k l : Node) (handed handed_next : Option (List (Option Arrival))) (x y : Option (List Sent)) (d e f : Option (List Act)) (more : List (Option Arrival)) → (w : Waits p i handed k x l handed_next y d e)
    → Does l y (asked_acts p l (Wait 1) more) e f → Does k x (asked_acts p k (Wait 1) (w.answers ++ more)) d f
does_more p i k l handed handed_next x y d e f more w does = λ from written s st.
    let next = plays p.node p.event (packets_in p.node w.answers) s in
    subst (λ (whole : List Act). Grows d whole f) (sym (acts_then p i k l handed handed_next x y d e more s w))
    (grows_more d e f (wait_acts p.node p.event (200000 - k.steps) w.answers s) (wait_acts p.node p.event (200000 - l.steps) more next) (w.does from written s st)
    (does from written next (stands_then p i k l handed handed_next x y d e w from written s st)))

-- a wait is cut off at an answer
pub waits_breaks : (p : Place) (i calls : ℕ) (k l : Node) (handed handed_next : Option (List (Option Arrival))) (x y : Option (List Sent)) (d e f : Option (List Act)) → Waits p i handed k x l handed_next y d e → i < calls
    → BreaksLine p (Wait 1) l y e f → BreaksLine p (Wait calls) k x d f
waits_breaks p i calls k l handed handed_next x y d e f w less b = record {
  answers = w.answers ++ b.answers;
  part =
      let many : length w.answers ≡ i = w.many in
      let one : length b.answers ≤ 1 = b.part in
      let both : length (w.answers ++ b.answers) ≡ length w.answers + length b.answers = many_both w.answers b.answers in
      omega (arith, many, one, both, less);
  breaks = λ from written s st.
      let next = plays p.node p.event (packets_in p.node w.answers) s in
      let first = wait_acts p.node p.event (200000 - k.steps) w.answers s in
      let cut = b.breaks from written next (stands_then p i k l handed handed_next x y d e w from written s st) in (
        first ++ cut.0,
        cut.1,
        acts_then p i k l handed handed_next x y d e b.answers s w ∙ ap (λ (l : List Act). first ++ l) cut.2 ∙ sym (append_assoc first cut.0 cut.1),
        more_answers w.answers b.answers first cut.0 (wait_answers p.node p.event (200000 - k.steps) w.answers s) cut.3,
        grows_more d e f first cut.0 (w.does from written s st) cut.4,
      );
}

pub waits_more : (p : Place) (i : ℕ) (a : Option Arrival) (k l m : Node) (handed handed_next handed_last : Option (List (Option Arrival))) (x y z : Option (List Sent)) (d e f : Option (List Act)) → Waits p i handed k x l handed_next y d e → Adds handed_next a handed_last
    → TakesOne p a l y (record { node = m; stopped = None }) z → Does l y (asked_acts p l (Wait 1) (a ∷ [])) e f → Waits p (i + 1) handed k x m handed_last z d f
waits_more p i a k l m handed handed_next handed_last x y z d e f w adds t does = record {
  does = does_more p i k l handed handed_next x y d e f (a ∷ []) w does;
  answers = w.answers ++ a ∷ [];
  many = let e : length w.answers ≡ i = w.many in let f : length (w.answers ++ a ∷ []) ≡ length w.answers + 1 = many_last w.answers a in omega (arith, e, f);
  grown = grows_more handed handed_next handed_last w.answers (a ∷ []) w.grown adds;
  makes = answers_more p w.answers a k l (record { node = m; stopped = None }) x y z w.makes t.makes;
  received = received_more w.answers a k.received l.received m.received w.received t.received;
}

-- one step was asked too many
past_by_one : (p : Place) (a : Option Arrival) → length (packets_in p.node (a ∷ [])) ≤ 1
past_by_one p a = by (came_to p.node a)
  where
    by : (c : Came) → length (input_of c ++ []) ≤ 1
    by came.Nothing = omega arith
    by came.Stranger = omega arith
    by (came.Taken q) = omega arith

stop_ends : (w : Option Which) (p : Place) (calls : ℕ) (came_all : List (Option Arrival)) (a : Option Arrival) (x all made datagrams : ℕ) → is_some w ≡ true → length came_all < calls → x ≤ 200000 → all ≡ x + length (packets_in p.node (a ∷ [])) → Counts all w made
    → EndsLine (Wait calls) (came_all ++ a ∷ []) all datagrams w made
stop_ends None p calls came_all a x all made datagrams e few low is h = absurd cc
stop_ends (Some which.Steps) p calls came_all a x all made datagrams e few low is h =
    let one : length (packets_in p.node (a ∷ [])) ≤ 1 = past_by_one p a in
    let past : 200000 < all = h.0 in
    let many : length (came_all ++ a ∷ []) ≡ length came_all + 1 = many_last came_all a in
    (omega (arith, many, few), omega (arith, one, past, is, low))
stop_ends (Some which.Bytes) p calls came_all a x all made datagrams e few low is h = absurd h
stop_ends (Some which.Datagrams) p calls came_all a x all made datagrams e few low is h = absurd h

pub waits_stop : (p : Place) (i calls : ℕ) (a : Option Arrival) (k l : Node) (m : Moved) (handed handed_next handed_last : Option (List (Option Arrival))) (x y z : Option (List Sent)) (d e f : Option (List Act)) → Waits p i handed k x l handed_next y d e → i < calls → Adds handed_next a handed_last
    → TakesOne p a l y m z → Does l y (asked_acts p l (Wait 1) (a ∷ [])) e f → is_some m.stopped ≡ true → TookLine p (Wait calls) handed k x m handed_last z d f
waits_stop p i calls a k l m handed handed_next handed_last x y z d e f w less adds t does stopped =
    let made : l.steps ≡ k.steps + length (packets_in p.node w.answers) = w.makes.counts in
    let low : l.steps ≤ 200000 = w.makes.sound.steps in
    let few : length w.answers < calls = let e : length w.answers ≡ i = w.many in omega (arith, e, less) in
    let both : length (packets_in p.node (w.answers ++ a ∷ [])) ≡ length (packets_in p.node w.answers) + length (packets_in p.node (a ∷ [])) =
    ap length (packets_both p.node w.answers (a ∷ [])) ∙ many_both (packets_in p.node w.answers) (packets_in p.node (a ∷ [])) in
    let all : k.steps + length (packets_in p.node (w.answers ++ a ∷ [])) ≡ l.steps + length (packets_in p.node (a ∷ [])) = omega (arith, made, both) in
    let makes = answers_more p w.answers a k l m x y z w.makes t.makes in
    record {
      answers = w.answers ++ a ∷ [];
      grown = grows_more handed handed_next handed_last w.answers (a ∷ []) w.grown adds;
      does = does_more p i k l handed handed_next x y d e f (a ∷ []) w does;
      takes = record {
        goes = makes.goes;
        ends = stop_ends m.stopped p calls w.answers a l.steps (k.steps + length (packets_in p.node (w.answers ++ a ∷ []))) m.node.steps (k.received + datagrams_in (w.answers ++ a ∷ [])) stopped few low all makes.counts;
        received = received_more w.answers a k.received l.received m.node.received w.received t.received;
        sound = makes.sound;
      };
    }

-- no datagram more may be taken
pub waits_full : (p : Place) (i calls : ℕ) (k l : Node) (handed handed_next : Option (List (Option Arrival))) (x y : Option (List Sent)) (d e : Option (List Act)) → Waits p i handed k x l handed_next y d e → i < calls → 1000000 ≤ l.received
    → TookLine p (Wait calls) handed k x (record { node = l; stopped = Some which.Datagrams }) handed_next y d e
waits_full p i calls k l handed handed_next x y d e w less full =
    let many : length w.answers ≡ i = w.many in
    let got : l.received ≡ k.received + datagrams_in w.answers = w.received in
    let most : l.received ≤ 1000000 = w.makes.sound.received in
    record {
      answers = w.answers;
      grown = w.grown;
      does = w.does;
      takes = record {
        goes = w.makes.goes;
        ends = (omega (arith, many, less), omega (arith, many, less), omega (arith, got, most, full), w.makes.counts);
        received = w.received;
        sound = w.makes.sound;
      };
    }

pub waits_end : (p : Place) (calls : ℕ) (k l : Node) (handed handed_next : Option (List (Option Arrival))) (x y : Option (List Sent)) (d e : Option (List Act)) → Waits p calls handed k x l handed_next y d e → TookLine p (Wait calls) handed k x (record { node = l; stopped = None }) handed_next y d e
waits_end p calls k l handed handed_next x y d e w = record {
  does = w.does;
  answers = w.answers;
  grown = w.grown;
  takes = record { goes = w.makes.goes; ends = (w.many, w.makes.counts); received = w.received; sound = w.makes.sound };
}

-- No limit was passed.

not_some : (o : Option Which) (b : Bool) → b ≡ is_some o → b ≡ false → o ≡ None
not_some None b e f = refl
not_some (Some w) b e f = let h : false ≡ true = sym f ∙ e in absurd cc

pub makes_on : (p : Place) (is : List AnyInput) (k : Node) (m : Moved) (x y : Option (List Sent)) (b : Bool) → Makes p is k x m y → b ≡ is_some m.stopped → b ≡ false → Makes p is k x (record { node = m.node; stopped = None }) y
makes_on p is k m x y b h e f = record {
  goes = h.goes;
  counts = subst (λ (o : Option Which). Counts (k.steps + length is) o m.node.steps) (not_some m.stopped b e f) h.counts;
  sound = h.sound;
}

pub takes_on : (p : Place) (a : Option Arrival) (k : Node) (m : Moved) (x y : Option (List Sent)) (b : Bool) → TakesOne p a k x m y → b ≡ is_some m.stopped → b ≡ false → TakesOne p a k x (record { node = m.node; stopped = None }) y
takes_on p a k m x y b h e f = record { makes = makes_on p (packets_in p.node (a ∷ [])) k m x y b h.makes e f; received = h.received }

-- a step by the name of what comes
pub makes_by : (p : Place) (i j : AnyInput) (k : Node) (m : Moved) (x y : Option (List Sent)) → i ≡ j → Makes p (i ∷ []) k x m y → Makes p (j ∷ []) k x m y
makes_by p i j k m x y e h = subst (λ (z : AnyInput). Makes p (z ∷ []) k x m y) e h

-- Results of calls.

pub took_result : (p : Place) (a : Asked) (k : Node) (r : Result Moved IoErr) (handed handed_next : Option (List (Option Arrival))) (sent sent_next : Option (List Sent)) (acts acts_next : Option (List Act)) → IsWhole a [] → IsPart a [] → ((n : ℕ) → 200000 < n → IsPast a n)
    → IfOk r (λ m. Makes p (inputs_by p.node a []) k sent m sent_next) → IfOk r (λ m. m.node.received ≡ k.received) → handed_next ≡ handed → IfOk r (λ _. Does k sent (asked_acts p k a []) acts acts_next)
    → IfOk r (λ m. TookLine p a handed k sent m handed_next sent_next acts acts_next)
took_result p a k (Ok m) handed handed_next sent sent_next acts acts_next whole part past g e same does = took_alone p a k m handed handed_next sent sent_next acts acts_next whole part past g e same does
took_result p a k (Err x) handed handed_next sent sent_next acts acts_next whole part past g e same does = tt

-- of results
pub ok_both : (r : Result Moved IoErr) (P Q : Type 0) → (P → Q) → IfOk r (λ _. P) → IfOk r (λ _. Q)
ok_both (Ok m) P Q f h = f h
ok_both (Err x) P Q f h = tt

-- what holds of each error
pub on_err : {X E P : Type 0} (r : Result X E) → P → OnErr r P
on_err (Ok x) h = tt
on_err (Err e) h = h

pub err_both : (r : Result Moved IoErr) (P Q : Type 0) → (P → Q) → OnErr r P → OnErr r Q
err_both (Ok m) P Q f h = tt
err_both (Err x) P Q f h = f h

-- a line that takes no answer is cut off
pub line_breaks : (p : Place) (a : Asked) (k : Node) (r : Result Moved IoErr) (is : List AnyInput) (sent : Option (List Sent)) (acts acts_next : Option (List Act)) → IsPart a [] → ((s : Session) → asked_acts p k a [] s ≡ made_acts p k is s)
    → OnErr r (Breaks k sent (made_acts p k is) acts acts_next) → OnErr r (BreaksLine p a k sent acts acts_next)
line_breaks p a k (Ok m) is sent acts acts_next part same breaks = tt
line_breaks p a k (Err x) is sent acts acts_next part same breaks = record {
  answers = [];
  part = part;
  breaks = λ from written s st.
      let cut = breaks from written s st in
      let made = made_acts p k is s in
      (cut.0, cut.1, same s ∙ cut.2, front_answers made cut.0 cut.1 (acts_answers p.node p.event (take (200000 - k.steps) is) s) cut.2, cut.3);
}

-- What is done with the link.

-- a step's packets went out
pub does_step : (p : Place) (i : AnyInput) (k : Node) (t : SteppedOf all_kinds) (sent : Option (List Sent)) (before after_acts : Option (List Act)) → ((n : RuleNode all_kinds) → KeepsNode all_kinds k.steps k.own n → KeepsTurn all_kinds (k.steps + 1) t (node_step all_kinds n i))
    → Grows before (all_gone (packets_from p.node t.sends)) after_acts → Does k sent (step_acts p.node i) before after_acts
does_step p i k t sent before after_acts turns grown = λ from written s st.
    subst (λ (l : List Out). Grows before (all_gone (packets_from p.node l)) after_acts) (turns s.node st.node).sends grown

-- nothing was done
pub breaks_none : (k : Node) (sent : Option (List Sent)) (acts : Session → List Act) (before after_acts : Option (List Act)) → after_acts ≡ before → Breaks k sent acts before after_acts
breaks_none k sent acts before after_acts same = λ from written s st. subst (λ (x : Option (List Act)). GrowsFront before (acts s) x) (sym same) (front_none before (acts s))

-- a step's packets went out in part
pub breaks_step : (p : Place) (i : AnyInput) (k : Node) (t : SteppedOf all_kinds) (sent : Option (List Sent)) (before after_acts : Option (List Act)) (done rest : List Out) → ((n : RuleNode all_kinds) → KeepsNode all_kinds k.steps k.own n → KeepsTurn all_kinds (k.steps + 1) t (node_step all_kinds n i))
    → t.sends ≡ done ++ rest → Grows before (all_gone (packets_from p.node done)) after_acts → Breaks k sent (step_acts p.node i) before after_acts
breaks_step p i k t sent before after_acts done rest turns cut grown = λ from written s st.
    front_gone before after_acts p.node t.sends (node_step all_kinds s.node i).sends done rest (turns s.node st.node).sends cut grown

-- one input is made
one_made : (p : Place) (i : AnyInput) (k : Node) (s : Session) → k.steps < 200000 → made_acts p k (i ∷ []) s ≡ step_acts p.node i s
one_made p i k s room =
    let one : length (i ∷ []) ≤ 200000 - k.steps = omega (arith, room) in
    ap (λ (is : List AnyInput). acts_in p.node p.event is s) (take_all (i ∷ []) (200000 - k.steps) one) ∙ append-nil (step_acts p.node i s)

pub does_one : (p : Place) (i : AnyInput) (k : Node) (sent : Option (List Sent)) (before after_acts : Option (List Act)) → k.steps < 200000 → Does k sent (step_acts p.node i) before after_acts → Does k sent (made_acts p k (i ∷ [])) before after_acts
does_one p i k sent before after_acts room does = λ from written s st. subst (λ (l : List Act). Grows before l after_acts) (sym (one_made p i k s room)) (does from written s st)

pub breaks_one : (p : Place) (i : AnyInput) (k : Node) (sent : Option (List Sent)) (before after_acts : Option (List Act)) → k.steps < 200000 → Breaks k sent (step_acts p.node i) before after_acts → Breaks k sent (made_acts p k (i ∷ [])) before after_acts
breaks_one p i k sent before after_acts room breaks = λ from written s st. subst (λ (l : List Act). GrowsFront before l after_acts) (sym (one_made p i k s room)) (breaks from written s st)

-- no step more may be made
pub does_stop : (p : Place) (i : AnyInput) (k : Node) (sent : Option (List Sent)) (acts : Option (List Act)) → nat_le 200000 k.steps ≡ true → Does k sent (made_acts p k (i ∷ [])) acts acts
does_stop p i k sent acts e = λ from written s st.
    let nothing : 0 ≡ 200000 - k.steps = past k.steps e in
    subst (λ (n : ℕ). Grows acts (acts_in p.node p.event (take n (i ∷ [])) s) acts) nothing (grows_none acts)
  where
    past : (n : ℕ) → nat_le 200000 n ≡ true → 0 ≡ 200000 - n
    past n e = grind (arith, nat_tests)

-- the first inputs were made, and those after them
module _ (p : Place) (i : AnyInput) (js : List AnyInput) (k l : Node) (a b : Option (List Sent)) (d e f : Option (List Act)) (g : Makes p (i ∷ []) k a (record { node = l; stopped = None }) b) (first : Does k a (made_acts p k (i ∷ [])) d e) where
  acts_later : (s : Session) → made_acts p k (i ∷ js) s ≡ made_acts p k (i ∷ []) s ++ made_acts p l js (after p (take (200000 - k.steps) (i ∷ [])) s)
  acts_later s =
      let made : l.steps ≡ k.steps + 1 = g.counts in
      let left : 200000 - k.steps - 1 ≡ 200000 - l.steps = omega (arith, made) in
      let next = after p (take (200000 - k.steps) (i ∷ [])) s in
      acts_front p.node p.event (200000 - k.steps) (i ∷ []) js s ∙ ap (λ (n : ℕ). made_acts p k (i ∷ []) s ++ acts_in p.node p.event (take n js) next) left

  pub does_both : Does l b (made_acts p l js) e f → Does k a (made_acts p k (i ∷ js)) d f
  does_both then_does = λ from written s st.
      let next = after p (take (200000 - k.steps) (i ∷ [])) s in
      subst (λ (whole : List Act). Grows d whole f) (sym (acts_later s))
      (grows_more d e f (made_acts p k (i ∷ []) s) (made_acts p l js next) (first from written s st) (then_does from written next (g.goes from written s st)))

  pub breaks_later : Breaks l b (made_acts p l js) e f → Breaks k a (made_acts p k (i ∷ js)) d f
  breaks_later then_breaks = λ from written s st.
      let next = after p (take (200000 - k.steps) (i ∷ [])) s in
      front_later d e f (made_acts p k (i ∷ []) s) (made_acts p l js next) (made_acts p k (i ∷ js) s) (acts_later s) (first from written s st) (then_breaks from written next (g.goes from written s st))

-- cut off in the midst of the first of several inputs
pub breaks_first : (p : Place) (i : AnyInput) (js : List AnyInput) (k : Node) (sent : Option (List Sent)) (before after_acts : Option (List Act)) → Breaks k sent (made_acts p k (i ∷ [])) before after_acts → Breaks k sent (made_acts p k (i ∷ js)) before after_acts
breaks_first p i js k sent before after_acts breaks = λ from written s st.
    let next = after p (take (200000 - k.steps) (i ∷ [])) s in
    front_wider before after_acts (made_acts p k (i ∷ []) s) (acts_in p.node p.event (take (200000 - k.steps - 1) js) next) (made_acts p k (i ∷ js) s) (acts_front p.node p.event (200000 - k.steps) (i ∷ []) js s)
    (breaks from written s st)

-- a limit was passed at the first of several inputs
pub does_part : (p : Place) (i : AnyInput) (js : List AnyInput) (k : Node) (m : Moved) (a b : Option (List Sent)) (before after_acts : Option (List Act)) → is_some m.stopped ≡ true → k.steps ≤ 200000 → Makes p (i ∷ []) k a m b → Does k a (made_acts p k (i ∷ [])) before after_acts
    → Does k a (made_acts p k (i ∷ js)) before after_acts
does_part p i js k m a b before after_acts stopped few g does =
    let past : 200000 < k.steps + 1 = stopped_past m.stopped (k.steps + 1) m.node.steps stopped g.counts in
    let within : 200000 - k.steps ≤ length (i ∷ []) = omega (arith, past, few) in
    λ from written s st. subst (λ (is : List AnyInput). Grows before (acts_in p.node p.event is s) after_acts) (sym (take_before (i ∷ []) js (200000 - k.steps) within)) (does from written s st)

-- what comes of the first of several inputs, by the name of the input
pub does_by : (p : Place) (i j : AnyInput) (k : Node) (sent : Option (List Sent)) (before after_acts : Option (List Act)) → i ≡ j → Does k sent (made_acts p k (i ∷ [])) before after_acts → Does k sent (made_acts p k (j ∷ [])) before after_acts
does_by p i j k sent before after_acts e h = subst (λ (x : AnyInput). Does k sent (made_acts p k (x ∷ [])) before after_acts) e h

pub breaks_by : (p : Place) (i j : AnyInput) (k : Node) (sent : Option (List Sent)) (before after_acts : Option (List Act)) → i ≡ j → Breaks k sent (made_acts p k (i ∷ [])) before after_acts → Breaks k sent (made_acts p k (j ∷ [])) before after_acts
breaks_by p i j k sent before after_acts e h = subst (λ (x : AnyInput). Breaks k sent (made_acts p k (x ∷ [])) before after_acts) e h

-- An answer.

-- what a wait does with one answer
one_heard : (p : Place) (a : Option Arrival) (k : Node) (s : Session) → asked_acts p k (Wait 1) (a ∷ []) s ≡ Comes a ∷ made_acts p k (input_of (came_to p.node a)) s
one_heard p a k s = ap (λ (l : List Act). Comes a ∷ l) (append-nil (made_acts p k (input_of (came_to p.node a)) s))

-- an answer that has nothing for the node
pub does_heard : (p : Place) (a : Option Arrival) (k : Node) (sent : Option (List Sent)) (before after_acts : Option (List Act)) → input_of (came_to p.node a) ≡ [] → Grows before (Comes a ∷ []) after_acts → Does k sent (asked_acts p k (Wait 1) (a ∷ [])) before after_acts
does_heard p a k sent before after_acts none adds = λ from written s st.
    let nothing : made_acts p k (input_of (came_to p.node a)) s ≡ [] = ap (λ (is : List AnyInput). made_acts p k is s) none ∙ ap (λ (is : List AnyInput). acts_in p.node p.event is s) (take_none (200000 - k.steps)) in
    subst (λ (l : List Act). Grows before l after_acts) (sym (one_heard p a k s ∙ ap (λ (l : List Act). Comes a ∷ l) nothing)) adds

-- no answer was taken, or one, and nothing was done for it
pub breaks_heard : (p : Place) (k : Node) (sent : Option (List Sent)) (before after_acts : Option (List Act)) → HandsOne before after_acts → BreaksLine p (Wait 1) k sent before after_acts
breaks_heard p k sent before after_acts (inl same) = record {
  answers = [];
  part = omega arith;
  breaks = λ from written s st. ([], [], refl, refl, subst (λ (x : Option (List Act)). Grows before [] x) (sym same) (grows_none before));
}
breaks_heard p k sent before after_acts (inr (a, adds)) = record {
  answers = a ∷ [];
  part = omega arith;
  breaks = λ from written s st. (Comes a ∷ [], made_acts p k (input_of (came_to p.node a)) s, one_heard p a k s, refl, adds);
}

-- an answer with a packet for the node
module _ (p : Place) (a : Option Arrival) (q : Packet) (k : Node) (sent : Option (List Sent)) (before now after_acts : Option (List Act)) (is : came_to p.node a ≡ came.Taken q) (adds : Grows before (Comes a ∷ []) now) where
  heard_made : (s : Session) → asked_acts p k (Wait 1) (a ∷ []) s ≡ Comes a ∷ made_acts p k (input.Packet q ∷ []) s
  heard_made s = one_heard p a k s ∙ ap (λ (c : Came). Comes a ∷ made_acts p k (input_of c) s) is

  counted_stands : (from : Option (List Sent)) (written : List ℕ) (s : Session) → Stands from written k sent s → Stands from written (counted k) sent s
  counted_stands from written s st = record { node = st.node; sent = st.sent; replies = st.replies }

  pub does_taken : Does (counted k) sent (made_acts p (counted k) (input.Packet q ∷ [])) now after_acts → Does k sent (asked_acts p k (Wait 1) (a ∷ [])) before after_acts
  does_taken does = λ from written s st.
      subst (λ (l : List Act). Grows before l after_acts) (sym (heard_made s))
      (grows_more before now after_acts (Comes a ∷ []) (made_acts p k (input.Packet q ∷ []) s) adds (does from written s (counted_stands from written s st)))

  pub breaks_taken : Breaks (counted k) sent (made_acts p (counted k) (input.Packet q ∷ [])) now after_acts → BreaksLine p (Wait 1) k sent before after_acts
  breaks_taken breaks = record {
    answers = a ∷ [];
    part = omega arith;
    breaks = λ from written s st.
        let cut = breaks from written s (counted_stands from written s st) in
        let made = made_acts p k (input.Packet q ∷ []) s in (
          Comes a ∷ cut.0,
          cut.1,
          heard_made s ∙ ap (λ (l : List Act). Comes a ∷ l) cut.2,
          ap (λ (l : List (Option Arrival)). a ∷ l) (front_answers made cut.0 cut.1 (acts_answers p.node p.event (take (200000 - k.steps) (input.Packet q ∷ [])) s) cut.2),
          grows_more before now after_acts (Comes a ∷ []) cut.0 adds cut.3,
        );
  }

-- an answer that has nothing for the node
pub came_passed : (p : Place) (k l : Node) (m : Moved) (c : Came) (handed handed_next : Option (List (Option Arrival))) (sent sent_next : Option (List Sent)) (acts acts_next : Option (List Act)) → IsSound k → k.received < 1000000 → input_of c ≡ []
    → ((a : Option Arrival) → came_to p.node a ≡ c → l.received ≡ k.received + datagrams_in (a ∷ [])) → l.received ≤ 1000000 → l.own ≡ k.own → l.steps ≡ k.steps → l.replies ≡ k.replies → m ≡ record { node = l; stopped = None }
    → (a : Option Arrival) × Adds handed a handed_next × Adds acts (Comes a) acts_next × (c ≡ came_to p.node a) → sent_next ≡ sent
    → (a : Option Arrival) × Adds handed a handed_next × TakesOne p a k sent m sent_next × Does k sent (asked_acts p k (Wait 1) (a ∷ [])) acts acts_next
came_passed p k l m c handed handed_next sent sent_next acts acts_next h few none got most own steps_same replies is arrived same =
    let a = arrived.0 in
    let nothing : input_of (came_to p.node a) ≡ [] = ap input_of (sym arrived.3) ∙ none in
    let one : TakesOne p a k sent (record { node = l; stopped = None }) sent = one_passed p a k l sent h nothing own steps_same replies (got a (sym arrived.3)) most in
    (a, arrived.1, subst (λ (x : Moved). TakesOne p a k sent x sent_next) (sym is) (subst (λ (x : Option (List Sent)). TakesOne p a k sent (record { node = l; stopped = None }) x) (sym same) one), does_heard p a k sent acts acts_next nothing arrived.2)

-- an answer with a packet for the node
pub came_taken : (p : Place) (k l : Node) (c : Came) (q : Packet) (r : Result Moved IoErr) (handed handed_next handed_last : Option (List (Option Arrival))) (sent sent_next sent_last : Option (List Sent)) (acts acts_next acts_last : Option (List Act)) → c ≡ came.Taken q → l ≡ counted k
    → (a : Option Arrival) × Adds handed a handed_next × Adds acts (Comes a) acts_next × (c ≡ came_to p.node a) → sent_next ≡ sent → handed_last ≡ handed_next → IfOk r (λ m. Makes p (input.Packet q ∷ []) l sent_next m sent_last) → IfOk r (λ m. m.node.received ≡ l.received)
    → IfOk r (λ _. Does l sent_next (made_acts p l (input.Packet q ∷ [])) acts_next acts_last)
    → IfOk r (λ m. (a : Option Arrival) × Adds handed a handed_last × TakesOne p a k sent m sent_last × Does k sent (asked_acts p k (Wait 1) (a ∷ [])) acts acts_last)
came_taken p k l c q (Err x) handed handed_next handed_last sent sent_next sent_last acts acts_next acts_last is same arrived s h makes got does = tt
came_taken p k l c q (Ok m) handed handed_next handed_last sent sent_next sent_last acts acts_next acts_last is same arrived s h makes got does =
    let a = arrived.0 in
    let made : Makes p (input.Packet q ∷ []) (counted k) sent m sent_last =
    subst (λ (x : Option (List Sent)). Makes p (input.Packet q ∷ []) (counted k) x m sent_last) s (subst (λ (x : Node). Makes p (input.Packet q ∷ []) x sent_next m sent_last) same makes) in
    let done : Does (counted k) sent (made_acts p (counted k) (input.Packet q ∷ [])) acts_next acts_last =
    subst (λ (x : Option (List Sent)). Does (counted k) x (made_acts p (counted k) (input.Packet q ∷ [])) acts_next acts_last) s (subst (λ (x : Node). Does x sent_next (made_acts p x (input.Packet q ∷ [])) acts_next acts_last) same does) in
    let more : m.node.received ≡ k.received + 1 = got ∙ ap (λ (x : Node). x.received) same in
    let came_is : came_to p.node a ≡ came.Taken q = sym arrived.3 ∙ is in (
      a,
      subst (λ (x : Option (List (Option Arrival))). Adds handed a x) (sym h) arrived.1,
      one_taken p a q k m sent sent_last came_is made more,
      does_taken p a q k sent acts acts_next acts_last came_is arrived.2 done,
    )

-- the step of its packet is cut off
pub taken_breaks : (p : Place) (k l : Node) (c : Came) (q : Packet) (r : Result Moved IoErr) (handed handed_next : Option (List (Option Arrival))) (sent sent_next : Option (List Sent)) (acts acts_next acts_last : Option (List Act)) → c ≡ came.Taken q → l ≡ counted k
    → (a : Option Arrival) × Adds handed a handed_next × Adds acts (Comes a) acts_next × (c ≡ came_to p.node a) → sent_next ≡ sent → OnErr r (Breaks l sent_next (made_acts p l (input.Packet q ∷ [])) acts_next acts_last)
    → OnErr r (BreaksLine p (Wait 1) k sent acts acts_last)
taken_breaks p k l c q (Ok m) handed handed_next sent sent_next acts acts_next acts_last is same arrived s breaks = tt
taken_breaks p k l c q (Err x) handed handed_next sent sent_next acts acts_next acts_last is same arrived s breaks =
    breaks_taken p arrived.0 q k sent acts acts_next acts_last (sym arrived.3 ∙ is) arrived.2
    (subst (λ (x : Option (List Sent)). Breaks (counted k) x (made_acts p (counted k) (input.Packet q ∷ [])) acts_next acts_last) s (subst (λ (x : Node). Breaks x sent_next (made_acts p x (input.Packet q ∷ [])) acts_next acts_last) same breaks))
