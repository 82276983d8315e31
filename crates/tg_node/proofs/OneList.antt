-- What a session does with its link, as one list, has the packets that it sends and the answers that its waits take.
use Rattle.std.proofs.Common.{◌≡◌, ℕ, suc, ◌+◌, ◌-◌, ◌≤◌, List, [], ◌∷◌, ◌++◌, length, take, Option, sym, refl, ap, ◌∙◌, arith}
use Rattle.std.proofs.lemmas.List.{append_assoc, append-nil}
use Rattle.tg_base.specs.Clusters.{Header}
use Rattle.tg_base.specs.declared.ids.NodeId.{NodeId}
use Rattle.tg_base.specs.declared.packet.Packet.{Packet}
use Rattle.tg_io.specs.Acts.{Act, Goes, Comes, sends_in, answers_in}
use Rattle.tg_io.specs.declared.link.Arrival.{Arrival}
use Rattle.tg_io.specs.declared.link.Sent.{Sent}
use Rattle.tg_link_packets.specs.Mail.{all_gone, all_sent, came_to, packets_from}
use Rattle.tg_node.specs.Acts.{step_acts, acts_in, allowed, wait_acts, line_acts, lines_acts, acts_of}
use Rattle.tg_any.specs.AllKinds.{all_kinds}
use Rattle.tg_node.specs.Sessions.{AnyInput, Deed, Session, IsWhole, answers_of, input_of, inputs_by, inputs_of, opening, packets_in, plays, plays_lines, session, steps, steps_of}
use Rattle.tg_node.specs.Texts.{AreDone}
use Rattle.tg_node.specs.declared.asked.Asked.{Asked}
use Rattle.tg_node.specs.declared.asked.Asked.TheVariants.{Tick, Wait, Given, Update}
use Rattle.tg_node_state.specs.Nodes.{node_step}
use Rattle.tg_node.proofs.Doing.{take_all, many_both, sent_both, plays_both, acts_answers, wait_answers, more_answers}

sends_both : (xs ys : List Act) → sends_in (xs ++ ys) ≡ sends_in xs ++ sends_in ys
sends_both [] ys = refl
sends_both (Goes s ∷ xs) ys = ap (λ (l : List Sent). s ∷ l) (sends_both xs ys)
sends_both (Comes a ∷ xs) ys = sends_both xs ys

gone_sends : (ps : List Packet) → sends_in (all_gone ps) ≡ all_sent ps
gone_sends [] = refl
gone_sends (p ∷ ps) = λ i. all_sent (p ∷ []) ++ gone_sends ps i

-- what was sent before, and then what two lists send
more_sends : (before now after : List Sent) (xs ys : List Act) → now ≡ before ++ sends_in xs → after ≡ now ++ sends_in ys → after ≡ before ++ sends_in (xs ++ ys)
more_sends before now after xs ys e f =
    f ∙ ap (λ (l : List Sent). l ++ sends_in ys) e ∙ append_assoc before (sends_in xs) (sends_in ys) ∙ ap (λ (l : List Sent). before ++ l) (sym (sends_both xs ys))

acts_sends : (n : NodeId) (event : ℕ) (is : List AnyInput) (s : Session) → all_sent (plays n event is s).sent ≡ all_sent s.sent ++ sends_in (acts_in n event is s)
acts_sends n event [] s = sym (append-nil (all_sent s.sent))
acts_sends n event (i ∷ is) s =
    let next = steps n event i s in
    let ps = packets_from n (node_step all_kinds s.node i).sends in
    more_sends (all_sent s.sent) (all_sent next.sent) (all_sent (plays n event is next).sent) (step_acts n i s) (acts_in n event is next)
    (sent_both s.sent ps ∙ ap (λ (l : List Sent). all_sent s.sent ++ l) (sym (gone_sends ps))) (acts_sends n event is next)

wait_sends : (n : NodeId) (event room : ℕ) (came : List (Option Arrival)) (s : Session) → length (packets_in n came) ≤ room → all_sent (plays n event (packets_in n came) s).sent ≡ all_sent s.sent ++ sends_in (wait_acts n event room came s)
wait_sends n event room [] s h = sym (append-nil (all_sent s.sent))
wait_sends n event room (a ∷ came) s h =
    let b = input_of (came_to n a) in
    let rest = packets_in n came in
    let many : length (b ++ rest) ≡ length b + length rest = many_both b rest in
    let all : allowed n room a ≡ b = take_all b room (omega (arith, many, h)) in
    let next = plays n event (allowed n room a) s in
    let after : plays n event rest next ≡ plays n event (b ++ rest) s = ap (λ (l : List AnyInput). plays n event rest (plays n event l s)) all ∙ sym (plays_both n event b rest s) in
    sym (ap (λ (x : Session). all_sent x.sent) after)
    ∙ more_sends (all_sent s.sent) (all_sent next.sent) (all_sent (plays n event rest next).sent) (acts_in n event (allowed n room a) s) (wait_acts n event (room - length b) came next)
    (acts_sends n event (allowed n room a) s) (wait_sends n event (room - length b) came next (omega (arith, many, h)))

made_sends : (n : NodeId) (event room : ℕ) (is : List AnyInput) (s : Session) → length is ≤ room → all_sent (plays n event is s).sent ≡ all_sent s.sent ++ sends_in (acts_in n event (take room is) s)
made_sends n event room is s h = acts_sends n event is s ∙ ap (λ (l : List AnyInput). all_sent s.sent ++ sends_in (acts_in n event l s)) (sym (take_all is room h))

line_sends : (n : NodeId) (event room : ℕ) (a : Asked) (came : List (Option Arrival)) (s : Session) → length (inputs_by n a came) ≤ room → all_sent (plays n event (inputs_by n a came) s).sent ≡ all_sent s.sent ++ sends_in (line_acts n event room a came s)
line_sends n event room (Wait calls) came s h = wait_sends n event room came s h
line_sends n event room Tick came s h = made_sends n event room (inputs_by n Tick came) s h
line_sends n event room (Given c) came s h = made_sends n event room (inputs_by n (Given c) came) s h
line_sends n event room (Update oid op) came s h = made_sends n event room (inputs_by n (Update oid op) came) s h

lines_sends : (n : NodeId) (event room : ℕ) (ds : List Deed) (s : Session) → steps_of n ds ≤ room → all_sent (plays_lines n event ds s).sent ≡ all_sent s.sent ++ sends_in (lines_acts n event room ds s)
lines_sends n event room [] s h = sym (append-nil (all_sent s.sent))
lines_sends n event room (d ∷ ds) s h =
    let made = length (inputs_of n d) in
    let next = plays n event (inputs_of n d) s in
    let few : made ≤ room = omega (arith, h) in
    let fewer : steps_of n ds ≤ room - made = omega (arith, h) in
    more_sends (all_sent s.sent) (all_sent next.sent) (all_sent (plays_lines n (suc event) ds next).sent) (line_acts n event room d.asked d.answers s) (lines_acts n (suc event) (room - made) ds next)
    (line_sends n event room d.asked d.answers s few) (lines_sends n (suc event) (room - made) ds next fewer)

-- the sends of the list are the packets of the session
pub sends_are_packets : (h : Header) (n : NodeId) (ds : List Deed) → steps_of n ds ≤ 200000 → sends_in (acts_of h n ds) ≡ all_sent (session h n ds).sent
sends_are_packets h n ds few = sym (lines_sends n 1 200000 ds (opening h n) few)

line_answers : (n : NodeId) (event room : ℕ) (a : Asked) (came : List (Option Arrival)) (s : Session) → IsWhole a came → answers_in (line_acts n event room a came s) ≡ came
line_answers n event room (Wait calls) came s whole = wait_answers n event room came s
line_answers n event room Tick came s whole = acts_answers n event (take room (inputs_by n Tick came)) s ∙ sym whole
line_answers n event room (Given c) came s whole = acts_answers n event (take room (inputs_by n (Given c) came)) s ∙ sym whole
line_answers n event room (Update oid op) came s whole = acts_answers n event (take room (inputs_by n (Update oid op) came)) s ∙ sym whole

lines_answers : (h : Header) (n : NodeId) (event room : ℕ) (ts : List (List ℕ)) (ds : List Deed) (s : Session) → AreDone h n ts ds → answers_in (lines_acts n event room ds s) ≡ answers_of ds
lines_answers h n event room [] [] s done = refl
lines_answers h n event room [] (d ∷ ds) s done = absurd done
lines_answers h n event room (t ∷ ts) [] s done = absurd done
lines_answers h n event room (t ∷ ts) (d ∷ ds) s done =
    let next = plays n event (inputs_of n d) s in
    more_answers d.answers (answers_of ds) (line_acts n event room d.asked d.answers s) (lines_acts n (suc event) (room - length (inputs_of n d)) ds next)
    (line_answers n event room d.asked d.answers s done.1) (lines_answers h n (suc event) (room - length (inputs_of n d)) ts ds next done.2)

-- the answers of the list are those that the lines took
pub answers_are_taken : (h : Header) (n : NodeId) (ts : List (List ℕ)) (ds : List Deed) → AreDone h n ts ds → answers_in (acts_of h n ds) ≡ answers_of ds
answers_are_taken h n ts ds done = lines_answers h n 1 200000 ts ds (opening h n) done
