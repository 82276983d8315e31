-- What a session does with its link, input by input and answer by answer.
use Rattle.std.proofs.Common.{◌≡◌, ℕ, zero, suc, ◌+◌, ◌-◌, ◌≤◌, List, [], ◌∷◌, ◌++◌, length, take, Option, Some, None, sym, refl, subst, ap, ◌∙◌, arith}
use Rattle.std.proofs.lemmas.List.{append_assoc, append-nil}
use Rattle.tg_base.specs.declared.ids.NodeId.{NodeId}
use Rattle.tg_base.specs.declared.packet.Out.{Out}
use Rattle.tg_base.specs.declared.packet.Packet.{Packet}
use Rattle.tg_io.specs.Acts.{Act, Goes, Comes, answers_in}
use Rattle.tg_io.specs.Bytes.{Grows}
use Rattle.tg_io.specs.declared.link.Arrival.{Arrival}
use Rattle.tg_io.proofs.Bytes.{grows_none, grows_more}
use Rattle.tg_link_packets.specs.Mail.{all_gone, all_sent, came_to, packets_from}
use Rattle.tg_node.specs.Acts.{GrowsFront, step_acts, acts_in, allowed, wait_acts, line_acts, lines_acts}
use Rattle.tg_node.specs.Sessions.{AnyInput, Deed, Session, input_of, inputs_of, packets_in, plays, plays_lines, steps, steps_of}
use Rattle.tg_any.specs.AllKinds.{all_kinds}
use Rattle.tg_node_state.specs.Nodes.{node_step}

-- Lists.

pub take_none : {X : Type 0} (n : ℕ) → ◌≡◌ {A = List X} (take n []) []
take_none zero = refl
take_none (suc n) = refl

pub take_all : {X : Type 0} (xs : List X) (n : ℕ) → length xs ≤ n → take n xs ≡ xs
take_all [] n h = take_none n
take_all (x ∷ xs) zero h = absurd (omega (arith, h))
take_all {X} (x ∷ xs) (suc n) h = let k : length xs ≤ n = omega (arith, h) in ap (λ (l : List X). x ∷ l) (take_all xs n k)

-- a front of two lists
pub take_both : {X : Type 0} (xs ys : List X) (n : ℕ) → take n (xs ++ ys) ≡ take n xs ++ take (n - length xs) ys
take_both {X} [] ys n =
    let e : n ≡ n - 0 = omega arith in
    ap (λ (k : ℕ). take k ys) e ∙ ap (λ (l : List X). l ++ take (n - 0) ys) (sym (take_none n))
take_both {X} (x ∷ xs) ys zero = let e : 0 ≡ 0 - suc (length xs) = omega arith in ap (λ (k : ℕ). take k ys) e
take_both {X} (x ∷ xs) ys (suc n) =
    let e : n - length xs ≡ suc n - suc (length xs) = omega arith in
    ap (λ (l : List X). x ∷ l) (take_both xs ys n) ∙ ap (λ (k : ℕ). x ∷ (take n xs ++ take k ys)) e

pub many_both : {X : Type 0} (xs ys : List X) → length (xs ++ ys) ≡ length xs + length ys
many_both [] ys = omega arith
many_both (x ∷ xs) ys = let e : length (xs ++ ys) ≡ length xs + length ys = many_both xs ys in omega (arith, e)

no_items : {X : Type 0} (xs ys : List X) → xs ++ ys ≡ [] → xs ≡ []
no_items [] ys e = refl
no_items (x ∷ xs) ys e = absurd cc

pub sent_both : (xs ys : List Packet) → all_sent (xs ++ ys) ≡ all_sent xs ++ all_sent ys
sent_both [] ys = refl
sent_both (x ∷ xs) ys = λ i. all_sent (x ∷ []) ++ sent_both xs ys i

pub plays_both : (n : NodeId) (event : ℕ) (is js : List AnyInput) (s : Session) → plays n event (is ++ js) s ≡ plays n event js (plays n event is s)
plays_both n event [] js s = refl
plays_both n event (i ∷ is) js s = plays_both n event is js (steps n event i s)

-- Inputs.

pub acts_both : (n : NodeId) (event : ℕ) (is js : List AnyInput) (s : Session) → acts_in n event (is ++ js) s ≡ acts_in n event is s ++ acts_in n event js (plays n event is s)
acts_both n event [] js s = refl
acts_both n event (i ∷ is) js s =
    let next = steps n event i s in
    ap (λ (l : List Act). step_acts n i s ++ l) (acts_both n event is js next)
    ∙ sym (append_assoc (step_acts n i s) (acts_in n event is next) (acts_in n event js (plays n event is next)))

-- a front of two lists of inputs
pub acts_front : (n : NodeId) (event room : ℕ) (is js : List AnyInput) (s : Session)
    → acts_in n event (take room (is ++ js)) s ≡ acts_in n event (take room is) s ++ acts_in n event (take (room - length is) js) (plays n event (take room is) s)
acts_front n event room is js s =
    ap (λ (l : List AnyInput). acts_in n event l s) (take_both is js room) ∙ acts_both n event (take room is) (take (room - length is) js) s

-- Answers.

pub wait_both : (n : NodeId) (event room : ℕ) (came more : List (Option Arrival)) (s : Session) → length (packets_in n came) ≤ room
    → wait_acts n event room (came ++ more) s ≡ wait_acts n event room came s ++ wait_acts n event (room - length (packets_in n came)) more (plays n event (packets_in n came) s)
wait_both n event room [] more s h = let e : room ≡ room - 0 = omega arith in ap (λ (k : ℕ). wait_acts n event k more s) e
wait_both n event room (a ∷ came) more s h =
    let b = input_of (came_to n a) in
    let rest = packets_in n came in
    let many : length (b ++ rest) ≡ length b + length rest = many_both b rest in
    let few : length b ≤ room = omega (arith, many, h) in
    let fewer : length rest ≤ room - length b = omega (arith, many, h) in
    let all : take room b ≡ b = take_all b room few in
    let next = plays n event (take room b) s in
    let left : room - length b - length rest ≡ room - length (b ++ rest) = omega (arith, many, h) in
    let after : plays n event rest next ≡ plays n event (b ++ rest) s = ap (λ (l : List AnyInput). plays n event rest (plays n event l s)) all ∙ sym (plays_both n event b rest s) in
    let made = acts_in n event (take room b) s in
    let first = wait_acts n event (room - length b) came next in
    let last : wait_acts n event (room - length b - length rest) more (plays n event rest next) ≡ wait_acts n event (room - length (b ++ rest)) more (plays n event (b ++ rest) s) =
    ap (λ (k : ℕ). wait_acts n event k more (plays n event rest next)) left ∙ ap (λ (x : Session). wait_acts n event (room - length (b ++ rest)) more x) after in
    ap (λ (l : List Act). Comes a ∷ (made ++ l)) (wait_both n event (room - length b) came more next fewer)
    ∙ ap (λ (l : List Act). Comes a ∷ l) (sym (append_assoc made first (wait_acts n event (room - length b - length rest) more (plays n event rest next))))
    ∙ ap (λ (l : List Act). Comes a ∷ ((made ++ first) ++ l)) last

answers_both : (xs ys : List Act) → answers_in (xs ++ ys) ≡ answers_in xs ++ answers_in ys
answers_both [] ys = refl
answers_both (Goes s ∷ xs) ys = answers_both xs ys
answers_both (Comes a ∷ xs) ys = ap (λ (l : List (Option Arrival)). a ∷ l) (answers_both xs ys)

gone_answers : (ps : List Packet) → answers_in (all_gone ps) ≡ []
gone_answers [] = refl
gone_answers (p ∷ ps) = gone_answers ps

-- no step takes an answer
pub acts_answers : (n : NodeId) (event : ℕ) (is : List AnyInput) (s : Session) → answers_in (acts_in n event is s) ≡ []
acts_answers n event [] s = refl
acts_answers n event (i ∷ is) s =
    let next = steps n event i s in
    answers_both (step_acts n i s) (acts_in n event is next)
    ∙ ap (λ (l : List (Option Arrival)). l ++ answers_in (acts_in n event is next)) (gone_answers (packets_from n (node_step all_kinds s.node i).sends))
    ∙ acts_answers n event is next

pub wait_answers : (n : NodeId) (event room : ℕ) (came : List (Option Arrival)) (s : Session) → answers_in (wait_acts n event room came s) ≡ came
wait_answers n event room [] s = refl
wait_answers n event room (a ∷ came) s =
    let made = acts_in n event (allowed n room a) s in
    let next = plays n event (allowed n room a) s in
    let rest = wait_acts n event (room - length (input_of (came_to n a))) came next in
    ap (λ (l : List (Option Arrival)). a ∷ l)
    (answers_both made rest ∙ ap (λ (l : List (Option Arrival)). l ++ answers_in rest) (acts_answers n event (allowed n room a) s) ∙ wait_answers n event (room - length (input_of (came_to n a))) came next)

-- the answers of a front of what was done, with the first of them
pub front_answers : (xs done rest : List Act) → answers_in xs ≡ [] → xs ≡ done ++ rest → answers_in done ≡ []
front_answers xs done rest none cut = no_items (answers_in done) (answers_in rest) (sym (answers_both done rest) ∙ sym (ap answers_in cut) ∙ none)

pub more_answers : (came more : List (Option Arrival)) (xs done : List Act) → answers_in xs ≡ came → answers_in done ≡ more → answers_in (xs ++ done) ≡ came ++ more
more_answers came more xs done e f = answers_both xs done ∙ ap (λ (l : List (Option Arrival)). l ++ answers_in done) e ∙ ap (λ (l : List (Option Arrival)). came ++ l) f

-- Lines.

lines_both : (n : NodeId) (event room : ℕ) (ds : List Deed) (d : Deed) (s : Session)
    → lines_acts n event room (ds ++ d ∷ []) s ≡ lines_acts n event room ds s ++ line_acts n (event + length ds) (room - steps_of n ds) d.asked d.answers (plays_lines n event ds s)
lines_both n event room [] d s =
    let e : event ≡ event + 0 = omega arith in
    let f : room ≡ room - 0 = omega arith in
    append-nil (line_acts n event room d.asked d.answers s)
    ∙ ap (λ (k : ℕ). line_acts n k room d.asked d.answers s) e ∙ ap (λ (k : ℕ). line_acts n (event + 0) k d.asked d.answers s) f
lines_both n event room (x ∷ ds) d s =
    let made = length (inputs_of n x) in
    let next = plays n event (inputs_of n x) s in
    let first = line_acts n event room x.asked x.answers s in
    let after = plays_lines n (suc event) ds next in
    let e : suc event + length ds ≡ event + suc (length ds) = omega arith in
    let f : room - made - steps_of n ds ≡ room - (made + steps_of n ds) = omega arith in
    ap (λ (l : List Act). first ++ l) (lines_both n (suc event) (room - made) ds d next)
    ∙ sym (append_assoc first (lines_acts n (suc event) (room - made) ds next) (line_acts n (suc event + length ds) (room - made - steps_of n ds) d.asked d.answers after))
    ∙ ap (λ (k : ℕ). (first ++ lines_acts n (suc event) (room - made) ds next) ++ line_acts n k (room - made - steps_of n ds) d.asked d.answers after) e
    ∙ ap (λ (k : ℕ). (first ++ lines_acts n (suc event) (room - made) ds next) ++ line_acts n (event + suc (length ds)) k d.asked d.answers after) f

-- one line more
pub lines_more : (n : NodeId) (ds : List Deed) (d : Deed) (s : Session)
    → lines_acts n 1 200000 (ds ++ d ∷ []) s ≡ lines_acts n 1 200000 ds s ++ line_acts n (1 + length ds) (200000 - steps_of n ds) d.asked d.answers (plays_lines n 1 ds s)
lines_more n ds d s = lines_both n 1 200000 ds d s

-- What was done.

pub front_none : (before : Option (List Act)) (whole : List Act) → GrowsFront before whole before
front_none before whole = ([], whole, refl, grows_none before)

-- a front of what goes on
pub front_wider : (before after : Option (List Act)) (whole more all : List Act) → all ≡ whole ++ more → GrowsFront before whole after → GrowsFront before all after
front_wider before after whole more all e (done, rest, cut, grown) =
    (done, rest ++ more, e ∙ ap (λ (l : List Act). l ++ more) cut ∙ append_assoc done rest more, grown)

-- a part, and then a front of the rest
pub front_later : (before now after : Option (List Act)) (whole more all : List Act) → all ≡ whole ++ more → Grows before whole now → GrowsFront now more after → GrowsFront before all after
front_later before now after whole more all e grown (done, rest, cut, then_grown) = (
  whole ++ done,
  rest,
  e ∙ ap (λ (l : List Act). whole ++ l) cut ∙ sym (append_assoc whole done rest),
  grows_more before now after whole done grown then_grown,
)

-- of a step's packets those before the one that failed went out
pub front_gone : (before after : Option (List Act)) (n : NodeId) (outs sends done rest : List Out) → outs ≡ sends → outs ≡ done ++ rest → Grows before (all_gone (packets_from n done)) after
    → GrowsFront before (all_gone (packets_from n sends)) after
front_gone before after n outs sends done rest same cut grown =
    (all_gone (packets_from n done), all_gone (packets_from n rest), ap (λ (l : List Out). all_gone (packets_from n l)) (sym same ∙ cut) ∙ gone_both done, grown)
  where
    gone_both : (xs : List Out) → all_gone (packets_from n (xs ++ rest)) ≡ all_gone (packets_from n xs) ++ all_gone (packets_from n rest)
    gone_both [] = refl
    gone_both (x ∷ xs) = λ i. all_gone (packets_from n (x ∷ [])) ++ gone_both xs i
