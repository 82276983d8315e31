-- A packet that a datagram delivers was sent.
use Rattle.std.proofs.Common.{◌≡◌, ℕ, ◌+◌, ◌<◌, ◌≤◌, Bool, true, false, cond, not, List, [], ◌∷◌, length, Option, Some, None, subst, arith}
use Rattle.std.specs.Prelude.{◌==◌}
use Rattle.std.proofs.lemmas.List.{length-map}
use Rattle.tg_base.specs.declared.ids.NodeId.{NodeId}
use Rattle.tg_base.specs.declared.packet.Packet.{Packet}
use Rattle.tg_live.specs.Matching.{Sent, where_so, copies, without, undelivered, lowest, or_lowest, matched}
use Rattle.tg_live.specs.Books.{AllBelow}
use Rattle.tg_live.specs.Sends.{spellings}

where_below : {A : Type 0} (test : A → Bool) (xs : List A) (n many : ℕ) → n + length xs ≤ many → AllBelow many (where_so test xs n)
where_below test [] n many h = tt
where_below test (x ∷ xs) n many h = at (test x) (where_below test xs (n + 1) many (omega (arith, h)))
  where
    at : (b : Bool) → AllBelow many (where_so test xs (n + 1)) → AllBelow many (cond b (n ∷ where_so test xs (n + 1)) (where_so test xs (n + 1)))
    at true rest = (omega (arith, h), rest)
    at false rest = rest

without_below : (n i : ℕ) (js : List ℕ) → AllBelow n js → AllBelow n (without i js)
without_below n i [] h = tt
without_below n i (j ∷ js) h = at (not (i == j)) (without_below n i js h.1)
  where
    at : (b : Bool) → AllBelow n (without i js) → AllBelow n (cond b (j ∷ without i js) (without i js))
    at true rest = (h.0, rest)
    at false rest = rest

undelivered_below : (n : ℕ) (delivered is : List ℕ) → AllBelow n is → AllBelow n (undelivered delivered is)
undelivered_below n [] is h = h
undelivered_below n (i ∷ delivered) is h = without_below n i (undelivered delivered is) (undelivered_below n delivered is h)

lowest_below : (n i : ℕ) (is : List ℕ) → AllBelow n is → lowest is ≡ Some i → i < n
lowest_below n i [] h e = absurd cc
lowest_below n i (j ∷ is) h e = let same : j ≡ i = cc in subst (λ (k : ℕ). k < n) same h.0

first_below : (n i : ℕ) (o : Option ℕ) (is : List ℕ) → ((j : ℕ) → o ≡ Some j → j < n) → AllBelow n is → or_lowest o is ≡ Some i → i < n
first_below n i None is f h e = lowest_below n i is h e
first_below n i (Some j) is f h e = f i e

sent_below : (sent : Sent) (delivered : List ℕ) (node : NodeId) (datagram : List ℕ) (i : ℕ) → matched sent delivered node datagram ≡ Some i → i < length sent
sent_below sent delivered node datagram i e =
    let h : AllBelow (length sent) (copies sent node datagram) = where_below _ sent 0 (length sent) (omega arith) in
    first_below (length sent) i (lowest (undelivered delivered (copies sent node datagram))) (copies sent node datagram)
    (λ j f. lowest_below (length sent) j (undelivered delivered (copies sent node datagram)) (undelivered_below (length sent) delivered (copies sent node datagram) h) f) h e

-- it was sent
pub matched_sent : (ps : List Packet) (delivered : List ℕ) (node : NodeId) (datagram : List ℕ) (i : ℕ) → matched (spellings ps) delivered node datagram ≡ Some i → i < length ps
matched_sent ps delivered node datagram i e =
    let long : length (spellings ps) ≡ length ps = length-map ps _ in
    omega (arith, sent_below (spellings ps) delivered node datagram i e, long)
