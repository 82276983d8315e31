-- What came to a node that followed a text is lawful and not too long, and its session is what that gives.
use Rattle.std.proofs.Common.{◌≡◌, ◌+◌, ◌-◌, ◌≤◌, ℕ, zero, suc, List, [], ◌∷◌, ◌++◌, length, Option, Some, None, inl, inr}
use Rattle.std.proofs.Common.{refl, subst, arith}
use Rattle.std.specs.Prelude.{Contains, take}
use Rattle.std.proofs.lemmas.List.{length-append, length-take}
use Rattle.tg_base.specs.Clusters.{Header, IsHeader}
use Rattle.tg_base.specs.declared.ids.NodeId.{NodeId}
use Rattle.tg_io.specs.declared.link.Arrival.{Arrival}
use Rattle.tg_link_packets.specs.Mail.{came_to}
use Rattle.tg_link_packets.specs.declared.receiving.Came.{Came}
use Rattle.tg_link_packets.specs.declared.receiving.Came.TheVariants as came
use Rattle.tg_model.specs.declared.command.Event.TheVariants as event
use Rattle.tg_any.specs.AllKinds.{all_kinds}
use Rattle.tg_node.specs.Lines.{IsAsked}
use Rattle.tg_node.specs.declared.asked.Asked.{Asked}
use Rattle.tg_node.specs.declared.asked.Asked.TheVariants.{Tick, Wait, Given, Update}
use Rattle.tg_node.specs.Sessions.{AnyInput, Deed, input_of, packets_in, inputs_by, inputs_of, steps_of}
use Rattle.tg_node.specs.Sessions.{plays, session, opening}
use Rattle.tg_node.specs.Texts.{AreDone}
use Rattle.tg_law_programs.proofs.Scripts.Lawful.{event_lawful, update_lawful}
use Rattle.tg_law_programs.specs.Sessions.Holding.{LawfulInput, AreSessions}
use Rattle.tg_law_programs.specs.Sessions.Whole.{inputs_in}
use Rattle.tg_law_programs.specs.Sessions.Nodes.{Progress, Ran, header_of, inputs_to, session_to, inputs_ran, session_ran}
use Rattle.tg_law_programs.proofs.Sessions.Wholes.{GoesOn, goes_on, goes_nowhere, plays_on, lines_on}

-- Lawful inputs.

abbrev AreLawful : List AnyInput → Type 0
AreLawful [] = Unit {0}
AreLawful (i ∷ is) = LawfulInput all_kinds i × AreLawful is

both_lawful : (is js : List AnyInput) → AreLawful is → AreLawful js → AreLawful (is ++ js)
both_lawful [] js a b = b
both_lawful (i ∷ is) js a b = (a.0, both_lawful is js a.1 b)

front_lawful : (k : ℕ) (is : List AnyInput) → AreLawful is → AreLawful (take k is)
front_lawful zero [] a = tt
front_lawful zero (i ∷ is) a = tt
front_lawful (suc k) [] a = tt
front_lawful (suc k) (i ∷ is) a = (a.0, front_lawful k is a.1)

each_lawful : (is : List AnyInput) → AreLawful is → (i : AnyInput) → Contains is i → LawfulInput all_kinds i
each_lawful [] a i (k, less, at) = absurd (omega (arith, less))
each_lawful (j ∷ is) a i (zero, less, at) = subst (LawfulInput all_kinds) at a.0
each_lawful (j ∷ is) a i (suc k, less, at) = each_lawful is a.1 i (k, omega (arith, less), at)

came_lawful : (c : Came) → AreLawful (input_of c)
came_lawful came.Nothing = tt
came_lawful came.Stranger = tt
came_lawful (came.Taken p) = (tt, tt)

packets_lawful : (n : NodeId) (answers : List (Option Arrival)) → AreLawful (packets_in n answers)
packets_lawful n [] = tt
packets_lawful n (a ∷ more) =
    both_lawful (input_of (came_to n a)) (packets_in n more) (came_lawful (came_to n a)) (packets_lawful n more)

-- a command that a line asks is lawful
asked_lawful : (h : Header) → IsHeader h → (n : NodeId) (text : List ℕ) (a : Asked) (answers : List (Option Arrival)) →
    IsAsked h n text a → AreLawful (inputs_by n a answers)
asked_lawful h header n text Tick answers is = (tt, tt)
asked_lawful h header n text (Wait calls) answers is = packets_lawful n answers
asked_lawful h header n text (Given c) answers is = ((event_lawful h header (event.Command n.num c) is.1.fits).1, tt)
asked_lawful h header n text (Update oid op) answers is = (tt, ((update_lawful h n.num oid op is.1.fits).1, (tt, tt)))

lines_lawful : (h : Header) → IsHeader h → (n : NodeId) (ts : List (List ℕ)) (ds : List Deed) → AreDone h n ts ds →
    AreLawful (inputs_in n ds)
lines_lawful h header n [] [] done = tt
lines_lawful h header n [] (d ∷ ds) done = absurd done
lines_lawful h header n (t ∷ ts) [] done = absurd done
lines_lawful h header n (t ∷ ts) (d ∷ ds) done =
    both_lawful (inputs_of n d) (inputs_in n ds)
    (asked_lawful h header n t d.asked d.answers done.0) (lines_lawful h header n ts ds done.2)

to_lawful : {text : List ℕ} {n : NodeId} (to : Progress text n) → AreLawful (inputs_to to)
to_lawful {text} {n} (inl p) = lines_lawful p.header p.lawful n p.read p.deeds p.done
to_lawful {text} {n} (inr (w, m)) =
    let p = m.point in
    both_lawful (inputs_in n p.deeds) (take (200000 - steps_of n p.deeds) (inputs_of n m.last))
    (lines_lawful p.header p.lawful n p.read p.deeds p.done)
    (front_lawful (200000 - steps_of n p.deeds) (inputs_of n m.last)
    (asked_lawful p.header p.lawful n m.line m.last.asked m.last.answers m.asked))

ran_lawful : (h : Header) (n : NodeId) (ran : Option (Ran h n)) → AreLawful (inputs_ran ran)
ran_lawful h n None = tt
ran_lawful h n (Some r) = to_lawful r.progress

-- No more than the limit.

as_many_steps : (n : NodeId) (ds : List Deed) → length (inputs_in n ds) ≡ steps_of n ds
as_many_steps n [] = refl
as_many_steps n (d ∷ ds) =
    let a = length-append (inputs_of n d) (inputs_in n ds) in
    let b = as_many_steps n ds in
    omega (arith, a, b)

-- what is left of a limit is filled
filled : (limit steps : ℕ) (is js : List AnyInput) → length is ≡ steps → steps ≤ limit →
    length (is ++ take (limit - steps) js) ≤ limit
filled limit steps is js as_many few =
    let a = length-append is (take (limit - steps) js) in
    let b = length-take (limit - steps) js in
    omega (arith, a, b, as_many, few)

to_few : {text : List ℕ} {n : NodeId} (to : Progress text n) → length (inputs_to to) ≤ 200000
to_few {text} {n} (inl p) = let a = as_many_steps n p.deeds in let b = p.few in omega (arith, a, b)
to_few {text} {n} (inr (w, m)) =
    let p = m.point in
    filled 200000 (steps_of n p.deeds) (inputs_in n p.deeds) (inputs_of n m.last) (as_many_steps n p.deeds) p.few

ran_few : (h : Header) (n : NodeId) (ran : Option (Ran h n)) → length (inputs_ran ran) ≤ 200000
ran_few h n None = omega arith
ran_few h n (Some r) = to_few r.progress

pub all_sessions : (h : Header) (ran : (n : NodeId) → Option (Ran h n)) →
    AreSessions all_kinds (λ n. inputs_ran (ran n))
all_sessions h ran = record {
  lawful = λ n i c. each_lawful (inputs_ran (ran n)) (ran_lawful h n (ran n)) i c;
  few = λ n. ran_few h n (ran n);
}

-- Their session.

-- whole lines, and then some inputs
lines_and : (h : Header) (n : NodeId) (ds : List Deed) (is : List AnyInput) →
    GoesOn n (opening h n) (plays n (1 + length ds) is (session h n ds)) (inputs_in n ds ++ is)
lines_and h n ds is =
    goes_on n (opening h n) (session h n ds) (plays n (1 + length ds) is (session h n ds)) (inputs_in n ds) is
    (lines_on n 1 ds (opening h n)) (plays_on n (1 + length ds) is (session h n ds))

to_session : {text : List ℕ} {n : NodeId} (to : Progress text n) →
    GoesOn n (opening (header_of to) n) (session_to to) (inputs_to to)
to_session {text} {n} (inl p) = lines_on n 1 p.deeds (opening p.header n)
to_session {text} {n} (inr (w, m)) =
    let p = m.point in lines_and p.header n p.deeds (take (200000 - steps_of n p.deeds) (inputs_of n m.last))

pub ran_session : (h : Header) (n : NodeId) (ran : Option (Ran h n)) →
    GoesOn n (opening h n) (session_ran h n ran) (inputs_ran ran)
ran_session h n None = goes_nowhere n (opening h n)
ran_session h n (Some r) =
    let to = r.progress in
    subst (λ (x : Header). GoesOn n (opening x n) (session_to to) (inputs_to to)) r.under (to_session to)
