-- A book after a packet was sent, and after one was delivered.
use Rattle.std.proofs.Common.{◌≡◌, ◌∙◌, ◌⊎◌, inl, inr, ℕ, suc, zero, ◌+◌, ◌<◌, Bool, true, false, cond, ◌&&◌, List, [], ◌∷◌, ◌++◌, length, drop, slice_get, Some, None, Result, Ok, Err, OnOk, OnErr, refl, sym, ap, subst, arith, length-append}
use Rattle.std.specs.declared.option.Option.{Option}
use Rattle.std.specs.Str.{bytes_eq}
use Rattle.std.proofs.lemmas.List.{append-nil, drop-append-le}
use Rattle.tg_base.specs.Orders.{node_eq}
use Rattle.tg_base.specs.declared.ids.NodeId.{NodeId}
use Rattle.tg_live.specs.declared.copies.Copies.{Copies}
use Rattle.tg_live.specs.declared.book.Book.{Book}
use Rattle.tg_live.specs.Matching.{Sent, where_so, copies, without, undelivered, lowest, or_lowest, lowest_first, with_delivered}
use Rattle.tg_live.specs.Books.{GoesTo, spelled_so, AreCopies, AreKept, AllBelow, IsBook, found, next_of, after, with_number, answer, handed}
use Rattle.tg_live.proofs.Lookups.{bytes_same, bytes_true}
use Rattle.tg_live.proofs.Numbers.{Lacks, Rising, where_rising, where_append, where_alike, where_none, where_apart, where_below, where_fewer, below, without_lacking, lacks_drop, undelivered_append, undelivered_new, undelivered_none, all_below_more, next_in, one_more, none_more, more_within}

and_true : (a : Bool) → a ≡ true → (a && true) ≡ true
and_true true e = refl
and_true false e = e

and_false : (a : Bool) → (a && false) ≡ false
and_false true = refl
and_false false = refl

not_both : (a : Bool) → a ≡ false → (b : Bool) → (a && b) ≡ false
not_both true e b = absurd cc
not_both false e b = refl

right_of : (a b : Bool) → (a && b) ≡ true → b ≡ true
right_of true b e = e
right_of false b e = absurd cc

-- ---- which packets equal a datagram

here : (datagram : List ℕ) (to node : NodeId) (x : NodeId × List ℕ) → (x.1 ≡ datagram → x.0 ≡ to) → node_eq to node ≡ true → (node_eq x.0 node && bytes_eq datagram x.1) ≡ bytes_eq datagram x.1
here datagram to node x goes h = by (bytes_eq datagram x.1) refl
  where
    by : (b : Bool) → bytes_eq datagram x.1 ≡ b → (node_eq x.0 node && b) ≡ b
    by true e = and_true (node_eq x.0 node) (ap (λ n. node_eq n node) (goes (sym (bytes_same datagram x.1 e))) ∙ h)
    by false e = and_false (node_eq x.0 node)

there : (datagram : List ℕ) (to node : NodeId) (x : NodeId × List ℕ) → (x.1 ≡ datagram → x.0 ≡ to) → node_eq to node ≡ false → (node_eq x.0 node && bytes_eq datagram x.1) ≡ false
there datagram to node x goes h = by (bytes_eq datagram x.1) refl
  where
    by : (b : Bool) → bytes_eq datagram x.1 ≡ b → (node_eq x.0 node && b) ≡ false
    by true e = not_both (node_eq x.0 node) (ap (λ n. node_eq n node) (goes (sym (bytes_same datagram x.1 e))) ∙ h) true
    by false e = and_false (node_eq x.0 node)

copies_here : (sent : Sent) (datagram : List ℕ) (to node : NodeId) → GoesTo sent datagram to → node_eq to node ≡ true → copies sent node datagram ≡ spelled_so sent datagram
copies_here sent datagram to node goes h =
    where_alike (λ x. node_eq x.0 node && bytes_eq datagram x.1) (λ x. bytes_eq datagram x.1) sent 0 (λ i x e. here datagram to node x (goes.each i x e) h)

copies_there : (sent : Sent) (datagram : List ℕ) (to node : NodeId) → GoesTo sent datagram to → node_eq to node ≡ false → copies sent node datagram ≡ []
copies_there sent datagram to node goes h =
    where_none (λ x. node_eq x.0 node && bytes_eq datagram x.1) sent 0 (λ i x e. there datagram to node x (goes.each i x e) h)

lowest_none : (delivered : List ℕ) → lowest_first delivered [] ≡ None
lowest_none delivered = ap (λ (js : List ℕ). or_lowest (lowest js) []) (undelivered_none delivered)

-- what is kept tells which packet a datagram delivers
pub answered : (sent : Sent) (delivered : List ℕ) (node : NodeId) (datagram : List ℕ) (o : Option Copies) → AreKept sent delivered datagram o → answer node o ≡ lowest_first delivered (copies sent node datagram)
answered sent delivered node datagram None k =
    sym (ap (lowest_first delivered) (where_fewer (λ x. bytes_eq datagram x.1) (λ x. node_eq x.0 node && bytes_eq datagram x.1) sent 0 (λ x e. right_of (node_eq x.0 node) (bytes_eq datagram x.1) e) k) ∙ lowest_none delivered)
answered sent delivered node datagram (Some c) k = by (node_eq c.to node) refl
  where
    by : (b : Bool) → node_eq c.to node ≡ b → cond b (next_of c) None ≡ lowest_first delivered (copies sent node datagram)
    by true e =
        ap (λ (js : List ℕ). or_lowest (lowest js) c.numbers) (sym k.rest)
        ∙ sym (ap (lowest_first delivered) (copies_here sent datagram c.to node k.to e ∙ sym k.numbers))
    by false e = sym (ap (lowest_first delivered) (copies_there sent datagram c.to node k.to e) ∙ lowest_none delivered)

-- ---- one more is delivered

of_row : (sent : Sent) (datagram numbers : List ℕ) → numbers ≡ spelled_so sent datagram → Rising 0 numbers
of_row sent datagram numbers e = subst (Rising 0) (sym e) (where_rising (λ x. bytes_eq datagram x.1) sent 0)

pub kept_here : (sent : Sent) (delivered : List ℕ) (node : NodeId) (datagram : List ℕ) (o : Option Copies) → AreKept sent delivered datagram o → AreKept sent (with_delivered (answer node o) delivered) datagram (handed node o)
kept_here sent delivered node datagram None k = k
kept_here sent delivered node datagram (Some c) k = by (node_eq c.to node)
  where
    at : (r : Option ℕ) → next_of c ≡ r → AreCopies sent (with_delivered r delivered) datagram (after c)
    at None e = record {
      numbers = k.numbers;
      some = k.some;
      to = k.to;
      within = more_within c.done (length c.numbers) k.within;
      rest = k.rest ∙ ap (λ (n : ℕ). drop n c.numbers) (sym (none_more c.numbers c.done e));
    }
    at (Some i) e = record {
      numbers = k.numbers;
      some = k.some;
      to = k.to;
      within = more_within c.done (length c.numbers) k.within;
      rest = one_more c.numbers delivered c.done i (of_row sent datagram c.numbers k.numbers) k.rest k.within e;
    }

    by : (b : Bool) → AreKept sent (with_delivered (cond b (next_of c) None) delivered) datagram (Some (cond b (after c) c))
    by true = at (next_of c) refl
    by false = k

-- a number of other packets
pub answer_lacks : (sent : Sent) (delivered : List ℕ) (node : NodeId) (datagram other : List ℕ) (o : Option Copies) (i : ℕ) → AreKept sent delivered datagram o → answer node o ≡ Some i
    → bytes_eq datagram other ≡ false → Lacks i (spelled_so sent other)
answer_lacks sent delivered node datagram other None i k e apart = absurd cc
answer_lacks sent delivered node datagram other (Some c) i k e apart = by (node_eq c.to node) e
  where
    not_other : (x : NodeId × List ℕ) → bytes_eq datagram x.1 ≡ true → bytes_eq other x.1 ≡ false
    not_other x h = at (bytes_eq other x.1) refl
      where
        at : (b : Bool) → bytes_eq other x.1 ≡ b → b ≡ false
        at true g = let f : true ≡ false = sym (bytes_true datagram other (bytes_same datagram x.1 h ∙ sym (bytes_same other x.1 g))) ∙ apart in f
        at false g = refl

    by : (b : Bool) → cond b (next_of c) None ≡ Some i → Lacks i (spelled_so sent other)
    by true h = where_apart (λ x. bytes_eq datagram x.1) (λ x. bytes_eq other x.1) sent 0 i not_other (λ l. next_in c.done c.numbers i h (subst (Lacks i) (sym k.numbers) l))
    by false h = absurd cc

pub answer_below : (sent : Sent) (delivered : List ℕ) (node : NodeId) (datagram : List ℕ) (o : Option Copies) (i : ℕ) → AreKept sent delivered datagram o → answer node o ≡ Some i → i < length sent
answer_below sent delivered node datagram None i k e = absurd cc
answer_below sent delivered node datagram (Some c) i k e = by (node_eq c.to node) e
  where
    by : (b : Bool) → cond b (next_of c) None ≡ Some i → i < length sent
    by true h = below (length sent) i (λ f. where_below (λ x. bytes_eq datagram x.1) sent 0 i (λ l. next_in c.done c.numbers i h (subst (Lacks i) (sym k.numbers) l)) (λ l. f (omega (arith, l))))
    by false h = absurd cc

pub kept_there : (sent : Sent) (delivered other : List ℕ) (r : Option ℕ) (o : Option Copies) → ((i : ℕ) → r ≡ Some i → Lacks i (spelled_so sent other)) → AreKept sent delivered other o → AreKept sent (with_delivered r delivered) other o
kept_there sent delivered other None o f k = k
kept_there sent delivered other (Some i) None f k = k
kept_there sent delivered other (Some i) (Some c) f k = record {
  numbers = k.numbers;
  some = k.some;
  to = k.to;
  within = k.within;
  rest = ap (without i) k.rest ∙ without_lacking i (drop c.done c.numbers) (lacks_drop i c.done c.numbers (subst (Lacks i) (sym k.numbers) (f i refl)));
}

all_below_with : (n : ℕ) (r : Option ℕ) (delivered : List ℕ) → ((i : ℕ) → r ≡ Some i → i < n) → AllBelow n delivered → AllBelow n (with_delivered r delivered)
all_below_with n None delivered f h = h
all_below_with n (Some i) delivered f h = (f i refl, h)

pub book_arrives : (b c : Book) (node : NodeId) (datagram : List ℕ)
    → ((d : List ℕ) → found c.copies.entries d ≡ cond (bytes_eq datagram d) (handed node (found b.copies.entries d)) (found b.copies.entries d))
    → (sent : Sent) (delivered : List ℕ) → IsBook b sent delivered → IsBook c sent (with_delivered (answer node (found b.copies.entries datagram)) delivered)
book_arrives b c node datagram at sent delivered h = record {
  known = all_below_with (length sent) (answer node (found b.copies.entries datagram)) delivered (λ i e. answer_below sent delivered node datagram (found b.copies.entries datagram) i (h.kept datagram) e) h.known;
  kept = λ d. subst (AreKept sent (with_delivered (answer node (found b.copies.entries datagram)) delivered) d) (sym (at d)) (by d (bytes_eq datagram d) refl);
}
  where
    by : (d : List ℕ) (t : Bool) → bytes_eq datagram d ≡ t → AreKept sent (with_delivered (answer node (found b.copies.entries datagram)) delivered) d (cond t (handed node (found b.copies.entries d)) (found b.copies.entries d))
    by d true e =
        subst (λ (x : List ℕ). AreKept sent (with_delivered (answer node (found b.copies.entries x)) delivered) d (handed node (found b.copies.entries d))) (sym (bytes_same datagram d e))
        (kept_here sent delivered node d (found b.copies.entries d) (h.kept d))
    by d false e =
        kept_there sent delivered d (answer node (found b.copies.entries datagram)) (found b.copies.entries d)
        (λ i g. answer_lacks sent delivered node datagram d (found b.copies.entries datagram) i (h.kept datagram) g e) (h.kept d)

-- ---- one more is sent

turned : (p q : List ℕ) → bytes_eq p q ≡ false → bytes_eq q p ≡ false
turned p q e = by (bytes_eq q p) refl
  where
    by : (b : Bool) → bytes_eq q p ≡ b → b ≡ false
    by true f = let g : true ≡ false = sym (bytes_true p q (sym (bytes_same q p f))) ∙ e in g
    by false f = refl

got_append : {A : Type 0} (xs : List A) (x : A) (i : ℕ) (y : A) → slice_get (xs ++ x ∷ []) i ≡ Some y → (slice_get xs i ≡ Some y) ⊎ (x ≡ y)
got_append [] x zero y e = inr cc
got_append [] x (suc i) y e = absurd cc
got_append (z ∷ zs) x zero y e = inl e
got_append (z ∷ zs) x (suc i) y e = got_append zs x i y e

goes_more : (sent : Sent) (datagram : List ℕ) (to : NodeId) (x : NodeId × List ℕ) → GoesTo sent datagram to → (x.1 ≡ datagram → x.0 ≡ to) → GoesTo (sent ++ x ∷ []) datagram to
goes_more sent datagram to x goes f = record { each = λ i y e h. by y h (got_append sent x i y e) (λ g. goes.each i y g h) }
  where
    by : (y : NodeId × List ℕ) → y.1 ≡ datagram → {P : Type 0} → P ⊎ (x ≡ y) → (P → y.0 ≡ to) → y.0 ≡ to
    by y h (inl g) k = k g
    by y h (inr g) k = sym (ap (λ (z : NodeId × List ℕ). z.0) g) ∙ f (ap (λ (z : NodeId × List ℕ). z.1) g ∙ h)

-- where something was sent as these bytes, it went to one node
one_node : (xs : Sent) (n : ℕ) (datagram : List ℕ) (a b : NodeId) → GoesTo xs datagram a → GoesTo xs datagram b → 0 < length (where_so (λ x. bytes_eq datagram x.1) xs n) → a ≡ b
one_node [] n datagram a b f g l = absurd (omega (arith, l))
one_node (x ∷ xs) n datagram a b f g l =
    by (bytes_eq datagram x.1) refl l (λ k. one_node xs (n + 1) datagram a b (record { each = λ i y e h. f.each (suc i) y e h }) (record { each = λ i y e h. g.each (suc i) y e h }) k)
  where
    by : (t : Bool) → bytes_eq datagram x.1 ≡ t → 0 < length (cond t (n ∷ where_so (λ x. bytes_eq datagram x.1) xs (n + 1)) (where_so (λ x. bytes_eq datagram x.1) xs (n + 1)))
        → (0 < length (where_so (λ x. bytes_eq datagram x.1) xs (n + 1)) → a ≡ b) → a ≡ b
    by true e k more = sym (f.each zero x refl (sym (bytes_same datagram x.1 e))) ∙ g.each zero x refl (sym (bytes_same datagram x.1 e))
    by false e k more = more k

row_more : (sent : Sent) (datagram : List ℕ) (x : NodeId × List ℕ) (t : Bool) → bytes_eq datagram x.1 ≡ t → spelled_so (sent ++ x ∷ []) datagram ≡ spelled_so sent datagram ++ cond t (length sent ∷ []) []
row_more sent datagram x t e =
    let n : 0 + length sent ≡ length sent = omega arith in
    where_append (λ y. bytes_eq datagram y.1) sent x 0
    ∙ ap (λ (b : Bool). spelled_so sent datagram ++ cond b ((0 + length sent) ∷ []) []) e
    ∙ ap (λ (k : ℕ). spelled_so sent datagram ++ cond t (k ∷ []) []) n

pub noted_here : (sent : Sent) (delivered datagram : List ℕ) (to : NodeId) (o : Option Copies) → GoesTo sent datagram to → AllBelow (length sent) delivered → AreKept sent delivered datagram o
    → AreCopies (sent ++ (to, datagram) ∷ []) delivered datagram (with_number to (length sent) o)
noted_here sent delivered datagram to None goes known k = record {
  numbers = sym (row_more sent datagram (to, datagram) true (bytes_true datagram datagram refl) ∙ ap (λ (is : List ℕ). is ++ length sent ∷ []) k);
  some = omega arith;
  to = goes_more sent datagram to (to, datagram) goes (λ e. refl);
  within = omega arith;
  rest = undelivered_new (length sent) delivered known;
}
noted_here sent delivered datagram to (Some c) goes known k = record {
  numbers = ap (λ (is : List ℕ). is ++ length sent ∷ []) k.numbers ∙ sym (row_more sent datagram (to, datagram) true (bytes_true datagram datagram refl));
  some = omega (arith, length-append c.numbers (length sent ∷ []));
  to = goes_more sent datagram c.to (to, datagram) k.to (λ e. one_node sent 0 datagram to c.to goes k.to (subst (λ (is : List ℕ). 0 < length is) k.numbers k.some));
  within = omega (arith, length-append c.numbers (length sent ∷ []), k.within);
  rest = undelivered_append delivered c.numbers (length sent ∷ [])
      ∙ ap (λ (is : List ℕ). undelivered delivered c.numbers ++ is) (undelivered_new (length sent) delivered known)
      ∙ ap (λ (is : List ℕ). is ++ length sent ∷ []) k.rest
      ∙ sym (drop-append-le c.done c.numbers (length sent ∷ []) k.within);
}

pub noted_there : (sent : Sent) (delivered other : List ℕ) (x : NodeId × List ℕ) (o : Option Copies) → bytes_eq x.1 other ≡ false → AreKept sent delivered other o → AreKept (sent ++ x ∷ []) delivered other o
noted_there sent delivered other x None apart k = row_more sent other x false (turned x.1 other apart) ∙ ap (λ (is : List ℕ). is ++ []) k
noted_there sent delivered other x (Some c) apart k = record {
  numbers = k.numbers ∙ sym (row_more sent other x false (turned x.1 other apart) ∙ append-nil (spelled_so sent other));
  some = k.some;
  to = goes_more sent other c.to x k.to (λ e. let f : true ≡ false = sym (bytes_true x.1 other e) ∙ apart in absurd cc);
  within = k.within;
  rest = k.rest;
}

pub book_notes : {X E : Type 0} (r : Result X E) (b c : Book) (number : ℕ) (to : NodeId) (datagram : List ℕ)
    → ((d : List ℕ) → OnOk r (found c.copies.entries d ≡ cond (bytes_eq datagram d) (Some (with_number to number (found b.copies.entries datagram))) (found b.copies.entries d)))
    → (sent : Sent) (delivered : List ℕ) → IsBook b sent delivered → number ≡ length sent → GoesTo sent datagram to → OnOk r (IsBook c (sent ++ (to, datagram) ∷ []) delivered)
book_notes (Err e) b c number to datagram at sent delivered h next goes = tt
book_notes (Ok r) b c number to datagram at sent delivered h next goes = record {
  known = (let e : length sent + 1 ≡ length (sent ++ (to, datagram) ∷ []) = omega (arith, length-append sent ((to, datagram) ∷ [])) in
      subst (λ (n : ℕ). AllBelow n delivered) e (all_below_more (length sent) delivered h.known));
  kept = λ d. subst (AreKept (sent ++ (to, datagram) ∷ []) delivered d) (sym (at d)) (by d (bytes_eq datagram d) refl);
}
  where
    by : (d : List ℕ) (t : Bool) → bytes_eq datagram d ≡ t → AreKept (sent ++ (to, datagram) ∷ []) delivered d (cond t (Some (with_number to number (found b.copies.entries datagram))) (found b.copies.entries d))
    by d true e =
        subst (λ (x : List ℕ). AreCopies (sent ++ (to, datagram) ∷ []) delivered x (with_number to number (found b.copies.entries datagram))) (bytes_same datagram d e)
        (subst (λ (n : ℕ). AreCopies (sent ++ (to, datagram) ∷ []) delivered datagram (with_number to n (found b.copies.entries datagram))) (sym next)
        (noted_here sent delivered datagram to (found b.copies.entries datagram) goes h.known (h.kept datagram)))
    by d false e = noted_there sent delivered d (to, datagram) (found b.copies.entries d) e (h.kept d)

-- ---- nothing more

pub book_same : {X E : Type 0} (r : Result X E) (b c : Book) → ((d : List ℕ) → OnErr r (found c.copies.entries d ≡ found b.copies.entries d)) → (sent : Sent) (delivered : List ℕ) → IsBook b sent delivered
    → OnErr r (IsBook c sent delivered)
book_same (Ok x) b c at sent delivered h = tt
book_same (Err e) b c at sent delivered h = record {
  known = h.known;
  kept = λ d. subst (AreKept sent delivered d) (sym (at d)) (h.kept d);
}
