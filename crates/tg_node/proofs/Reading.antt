-- Each line asks one thing.
use Rattle.std.proofs.Common.{◌≡◌, ℕ, ◌+◌, ◌<◌, ◌≤◌, ◌^◌, Bool, true, false, ◌&&◌, cond, List, [], ◌∷◌, ◌++◌, codes, length, Option, Some, None, sym, refl, subst, ap, ◌∙◌, arith, ⊎_elim, inl, inr, ◌⊎◌}
use Rattle.std.specs.Prelude.{option_and_then, IfSome, IfOk, Result, Ok, Err, ◌==◌, nat_le, slice_index_or}
use Rattle.std.specs.Str.{bytes_eq}
use Rattle.std.specs.Fmt.{decimal}
use Rattle.std.proofs.lemmas.Bool.Decides.{nat_tests}
use Rattle.std.proofs.lemmas.Slice.Eq.{bytes_eq-Decides}
use Rattle.tg_base.specs.Clusters.{Header}
use Rattle.tg_base.specs.declared.ids.NodeId.{NodeId}
use Rattle.tg_base.specs.declared.ids.Role.TheVariants as role
use Rattle.tg_base.specs.declared.ids.Oid.{Oid}
use Rattle.tg_codec.proofs.Laws.{and-left, and-right, both}
use Rattle.tg_model.specs.declared.command.Command.{Command}
use Rattle.tg_model.specs.declared.command.Event.TheVariants as event
use Rattle.tg_any.specs.declared.any.AnyOp.{AnyOp}
use Rattle.tg_any.specs.declared.any.AnyAsk.{AnyAsk}
use Rattle.tg_any.specs.Decimals.{number_in}
use Rattle.tg_any.specs.Fronts.{after}
use Rattle.tg_any.specs.Words.{joined, object}
use Rattle.tg_any.proofs.Numbers.{bind_takes, when_takes, number_in_takes, number_in_again}
use Rattle.tg_any.proofs.Fronts.{some_is, bind_again, if_takes, if_again, after_takes, after_again}
use Rattle.tg_script.specs.Commands.{first, put_op, command_words}
use Rattle.tg_script.specs.Lines.{IsLine, line_words}
use Rattle.tg_script.specs.declared.line.Line.{Line}
use Rattle.tg_script.specs.declared.line.Line.TheVariants as line
use Rattle.tg_node.specs.declared.asked.Asked.{Asked}
use Rattle.tg_node.specs.declared.asked.Asked.TheVariants.{Tick, Wait, Given, Update}
use Rattle.tg_node.specs.Lines.{is_client, IsAsked, wait_of, wait_read, own_read, is_node, asked_of}

within_again : (n : ℕ) → 1 ≤ n → n ≤ 1000000 → (nat_le 1 n && nat_le n 1000000) ≡ true
within_again n low high = grind (arith, nat_tests)

within_takes : (n : ℕ) → (nat_le 1 n && nat_le n 1000000) ≡ true → (1 ≤ n) × (n ≤ 1000000)
within_takes n e = grind (arith, nat_tests)

-- a tick or a wait that is read of a line is asked by it
wait_takes : (h : Header) (n : NodeId) (text : List ℕ) (a : Asked) → wait_read text ≡ Some a → IsAsked h n text a
wait_takes h n text a e =
    let b = bind_takes (λ digits. option_and_then wait_of (number_in digits)) (after (codes "wait ") text) a e in
    let d = bind_takes wait_of (number_in b.0) a b.2 in
    let w = when_takes (nat_le 1 d.0 && nat_le d.0 1000000) (Wait d.0) a d.2 in
    let numbers = number_in_takes b.0 d.0 d.1 in
    let within = within_takes d.0 w.0 in
    let text_is : text ≡ codes "wait " ++ decimal d.0 = after_takes (codes "wait ") text b.0 b.1 ∙ ap (λ (l : List ℕ). codes "wait " ++ l) numbers.1 in
    subst (λ (x : Asked). IsAsked h n text x) w.1 (text_is, within.0, within.1)

tick_takes : (h : Header) (n : NodeId) (text : List ℕ) (a : Asked) (b : Bool) → bytes_eq text (codes "tick") ≡ b → cond b (Some Tick) (wait_read text) ≡ Some a → IsAsked h n text a
tick_takes h n text a true t e = subst (λ (x : Asked). IsAsked h n text x) (some_is Tick a e) ((bytes_eq-Decides text (codes "tick")).0 t)
tick_takes h n text a false t e = wait_takes h n text a e

pub own_takes : (h : Header) (n : NodeId) (text : List ℕ) (a : Asked) → own_read text ≡ Some a → IsAsked h n text a
own_takes h n text a e = tick_takes h n text a (bytes_eq text (codes "tick")) refl e

-- the first letter of a line
abbrev letter : List ℕ → ℕ
letter text = slice_index_or text 0 0

joined_letter : (b : ℕ) (bs : List ℕ) (ws : List (List ℕ)) → letter (joined ((b ∷ bs) ∷ ws)) ≡ b
joined_letter b bs [] = refl
joined_letter b bs (w ∷ ws) = refl

given_letter : (h : Header) (n : NodeId) (text : List ℕ) (c : Command AnyOp AnyAsk) → IsAsked h n text (Given c) → letter text ≡ 99
given_letter h n text c is = ap letter is.1.spelled ∙ joined_letter 99 (decimal n.num) (command_words c)

update_letter : (h : Header) (n : NodeId) (text : List ℕ) (oid : Oid) (op : AnyOp) → IsAsked h n text (Update oid op) → letter text ≡ 99
update_letter h n text oid op is = ap letter is.1.spelled ∙ joined_letter 99 (decimal n.num) (codes "update" ∷ (first object put_op).spell (oid, op))

tick_letter : (h : Header) (n : NodeId) (text : List ℕ) → IsAsked h n text Tick → letter text ≡ 116
tick_letter h n text is = ap letter is

wait_letter : (h : Header) (n : NodeId) (text : List ℕ) (calls : ℕ) → IsAsked h n text (Wait calls) → letter text ≡ 119
wait_letter h n text calls is = ap letter is.0

-- a line of a client is neither a tick nor a wait
no_own : (text : List ℕ) (h : Header) (n : NodeId) (a : Asked) → own_read text ≡ Some a → letter text ≡ 99 → ⊥
no_own text h n Tick e l = let is = tick_letter h n text (own_takes h n text Tick e) in omega (arith, l, is)
no_own text h n (Wait calls) e l = let is = wait_letter h n text calls (own_takes h n text (Wait calls) e) in omega (arith, l, is)
no_own text h n (Given c) e l = never_given text (bytes_eq text (codes "tick")) e
  where
    wait_no : (t : List ℕ) → wait_read t ≡ Some (Given c) → ⊥
    wait_no t f =
        let b = bind_takes (λ digits. option_and_then wait_of (number_in digits)) (after (codes "wait ") t) (Given c) f in
        let d = bind_takes wait_of (number_in b.0) (Given c) b.2 in
        let w = (when_takes (nat_le 1 d.0 && nat_le d.0 1000000) (Wait d.0) (Given c) d.2).1 in absurd cc

    never_given : (t : List ℕ) (b : Bool) → cond b (Some Tick) (wait_read t) ≡ Some (Given c) → ⊥
    never_given t true f = absurd cc
    never_given t false f = wait_no t f
no_own text h n (Update oid op) e l = never_given text (bytes_eq text (codes "tick")) e
  where
    wait_no : (t : List ℕ) → wait_read t ≡ Some (Update oid op) → ⊥
    wait_no t f =
        let b = bind_takes (λ digits. option_and_then wait_of (number_in digits)) (after (codes "wait ") t) (Update oid op) f in
        let d = bind_takes wait_of (number_in b.0) (Update oid op) b.2 in
        let w = (when_takes (nat_le 1 d.0 && nat_le d.0 1000000) (Wait d.0) (Update oid op) d.2).1 in absurd cc

    never_given : (t : List ℕ) (b : Bool) → cond b (Some Tick) (wait_read t) ≡ Some (Update oid op) → ⊥
    never_given t true f = absurd cc
    never_given t false f = wait_no t f

-- what a tick's and a wait's line is read as
tick_again : own_read (codes "tick") ≡ Some Tick
tick_again = refl

wait_again : (calls : ℕ) → 1 ≤ calls → calls ≤ 1000000 → own_read (codes "wait " ++ decimal calls) ≡ Some (Wait calls)
wait_again calls low high =
    bind_again (λ digits. option_and_then wait_of (number_in digits)) (after (codes "wait ") (codes "wait " ++ decimal calls)) (decimal calls) (Wait calls) (after_again (codes "wait ") (decimal calls))
    (bind_again wait_of (number_in (decimal calls)) calls (Wait calls) (number_in_again calls (omega (arith, high))) (if_again _ _ _ (within_again calls low high) refl))

pub own_again : (h : Header) (n : NodeId) (text : List ℕ) (a : Asked) → IsAsked h n text a → (own_read text ≡ Some a) ⊎ (letter text ≡ 99)
own_again h n text Tick is = inl (ap own_read is ∙ tick_again)
own_again h n text (Wait calls) is = inl (ap own_read is.0 ∙ wait_again calls is.1 is.2)
own_again h n text (Given c) is = inr (given_letter h n text c is)
own_again h n text (Update oid op) is = inr (update_letter h n text oid op is)

-- a line that is read as a tick or a wait asks nothing else
pub own_only : (h : Header) (n : NodeId) (text : List ℕ) (x a : Asked) → own_read text ≡ Some x → IsAsked h n text a → x ≡ a
own_only h n text x a e is = ⊎_elim
    (λ (again : own_read text ≡ Some a). some_is x a (sym e ∙ again))
    (λ (l : letter text ≡ 99). absurd (no_own text h n x e l))
    (own_again h n text a is)

role_of : (b c : Bool) → (b && c) ≡ true → (b ≡ true) × (c ≡ true)
role_of b c e = (and-left b c e, and-right b c e)

same_number : (n k : ℕ) → (n == k) ≡ true → n ≡ k
same_number n k e = grind (arith, nat_tests)

number_same : (n : ℕ) → (n == n) ≡ true
number_same n = grind (arith, nat_tests)

-- what a script's line asks
pub line_takes : (h : Header) (n : NodeId) (text : List ℕ) (l : Line) (a : Asked) → IsLine h text l → asked_of n l ≡ Some a → IsAsked h n text a
line_takes h n text (line.Event (event.Command k c)) a is e =
    let w = when_takes (is_node n k) (Given c) a e in
    let r = role_of (is_client n.role) (n.num == k) w.0 in
    subst (λ (x : Asked). IsAsked h n text x) w.1 (r.0, subst (λ (j : ℕ). IsLine h text (line.Event (event.Command j c))) (sym (same_number n.num k r.1)) is)
line_takes h n text (line.Event (event.Deliver i)) a is e = absurd cc
line_takes h n text (line.Event (event.Lose i)) a is e = absurd cc
line_takes h n text (line.Event (event.Tick m)) a is e = absurd cc
line_takes h n text (line.Event (event.Stop m)) a is e = absurd cc
line_takes h n text (line.Update k oid op) a is e =
    let w = when_takes (is_node n k) (Update oid op) a e in
    let r = role_of (is_client n.role) (n.num == k) w.0 in
    subst (λ (x : Asked). IsAsked h n text x) w.1 (r.0, subst (λ (j : ℕ). IsLine h text (line.Update j oid op)) (sym (same_number n.num k r.1)) is)
line_takes h n text line.Drain a is e = absurd cc
line_takes h n text line.Settle a is e = absurd cc

-- the script's line by which a client is asked something
pub record OfLine (h : Header) (n : NodeId) (text : List ℕ) (a : Asked) : Type 0 where
  pub line : Line
  pub is : IsLine h text line
  pub asks : asked_of n line ≡ Some a

pub line_again : (h : Header) (n : NodeId) (text : List ℕ) (a : Asked) → own_read text ≡ None → IsAsked h n text a → OfLine h n text a
line_again h n text Tick none is = let e = ap own_read is ∙ tick_again in let f : None ≡ Some Tick = sym none ∙ e in absurd cc
line_again h n text (Wait calls) none is = let e = ap own_read is.0 ∙ wait_again calls is.1 is.2 in let f : None ≡ Some (Wait calls) = sym none ∙ e in absurd cc
line_again h n text (Given c) none is = record {
  line = line.Event (event.Command n.num c);
  is = is.1;
  asks = if_again (is_node n n.num) (Some (Given c)) (Given c) (both (is_client n.role) (n.num == n.num) is.0 (number_same n.num)) refl;
}
line_again h n text (Update oid op) none is = record {
  line = line.Update n.num oid op;
  is = is.1;
  asks = if_again (is_node n n.num) (Some (Update oid op)) (Update oid op) (both (is_client n.role) (n.num == n.num) is.0 (number_same n.num)) refl;
}
