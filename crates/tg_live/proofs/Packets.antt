-- Packets in a book: equal datagrams are of one packet.
use Rattle.std.proofs.Common.{◌≡◌, ◌∙◌, ◌⊎◌, ⊎_elim, inl, inr, ℕ, zero, suc, ◌+◌, ◌<◌, ◌≤◌, true, List, [], ◌∷◌, ◌++◌, map, take, drop, length, Option, Some, None, Result, Ok, Err, OnOk, refl, sym, ap, subst, arith, append_assoc, length-append}
use Rattle.std.proofs.lemmas.List.{length-take, length-take-le, map-append, drop-append-le}
use Rattle.std.proofs.Math.Seq.{take-length, take-append_seam, drop-append_seam}
use Rattle.std.proofs.Math.ListN.{drop_of_length-le}
use Rattle.std.proofs.lemmas.Option.{slice_get_within}
use Rattle.std.specs.Prelude.{slice_get}
use Rattle.tg_base.specs.declared.ids.NodeId.{NodeId}
use Rattle.tg_base.specs.declared.packet.Packet.{Packet}
use Rattle.tg_io.specs.Acts.{Goes}
use Rattle.tg_io.specs.Bytes.{Grows}
use Rattle.tg_io.specs.Links.{Adds}
use Rattle.tg_io.specs.declared.link.Sent.{Sent}
use Rattle.tg_io.proofs.Bytes.{grows_none}
use Rattle.tg_live.specs.Books.{GoesTo, IsBook}
use Rattle.tg_live.specs.declared.book.Book.{Book}
use Rattle.tg_wire.specs.Packets.{packet}
use Rattle.tg_wire.specs.Answers.{IsPrefixFree}
use Rattle.tg_live.specs.Sends.{Carried, all_gone, sending, spellings, AreFit, AreSent, IsMadeOver}
use Rattle.tg_live.proofs.Growing.{Begins}

pub on_ok_any : {X E P : Type 0} (r : Result X E) → P → OnOk r P
on_ok_any (Ok x) p = p
on_ok_any (Err e) p = tt

-- an element of a list of images is the image of an element
image : {A B : Type 0} (f : A → B) (xs : List A) (k : ℕ) (y : B) → slice_get (map f xs) k ≡ Some y → (x : A) × (slice_get xs k ≡ Some x) × (f x ≡ y)
image f [] k y e = absurd cc
image f (x ∷ xs) zero y e = let h : f x ≡ y = cc in (x, refl, h)
image f (x ∷ xs) (suc k) y e = image f xs k y e

pub goes_to : (ps : List Packet) (p : Packet) → IsPrefixFree packet → AreFit ps → packet.fits p ≡ true → GoesTo (spellings ps) (packet.spell p) p.to
goes_to ps p free fit is = record {
  each = λ i x at same.
      let found = image (λ (q : Packet). (q.to, packet.spell q)) ps i x at in
      let q = found.0 in
      let spelled : packet.spell q ≡ packet.spell p = ap (λ (y : NodeId × List ℕ). y.1) found.2 ∙ same in
      let one : q ≡ p = free q p [] [] (fit.each i q found.1) is (ap (λ (bs : List ℕ). bs ++ []) spelled) in
      sym (ap (λ (y : NodeId × List ℕ). y.0) found.2) ∙ ap (λ (y : Packet). y.to) one;
}

pub spellings_more : (ps : List Packet) (p : Packet) → spellings (ps ++ p ∷ []) ≡ spellings ps ++ (p.to, packet.spell p) ∷ []
spellings_more ps p = map-append (λ (q : Packet). (q.to, packet.spell q)) ps (p ∷ [])

-- ---- the packets of a step, one after another

take_next : {A : Type 0} (xs : List A) (n : ℕ) (x : A) → slice_get xs n ≡ Some x → take (suc n) xs ≡ take n xs ++ x ∷ []
take_next [] n x e = absurd cc
take_next (y ∷ ys) zero x e = let h : y ≡ x = cc in ap (λ z. z ∷ []) h
take_next (y ∷ ys) (suc n) x e = ap (λ xs. y ∷ xs) (take_next ys n x e)

got_last : {A : Type 0} (xs : List A) (x : A) (i : ℕ) (y : A) → slice_get (xs ++ x ∷ []) i ≡ Some y → (slice_get xs i ≡ Some y) ⊎ (x ≡ y)
got_last [] x zero y e = inr cc
got_last [] x (suc i) y e = absurd cc
got_last (z ∷ zs) x zero y e = inl e
got_last (z ∷ zs) x (suc i) y e = got_last zs x i y e

pub fit_more : (ps : List Packet) (p : Packet) → AreFit ps → packet.fits p ≡ true → AreFit (ps ++ p ∷ [])
fit_more ps p fit is = record {
  each = λ i q e. ⊎_elim
      (λ (h : slice_get ps i ≡ Some q). fit.each i q h)
      (λ (h : p ≡ q). subst (λ (x : Packet). packet.fits x ≡ true) h is)
      (got_last ps p i q e);
}

pub grows_by : {X : Type 0} (a b c : Option (List X)) (x y : List X) → Grows a x b → Grows b y c → Grows a (x ++ y) c
grows_by None b c x y h k = subst (λ (o : Option (List _)). Grows o y c) h k
grows_by (Some xs) b c x y h k =
    let e : Grows (Some (xs ++ x)) y c = subst (λ (o : Option (List _)). Grows o y c) h k in
    e ∙ ap Some (append_assoc xs x y)

-- what a list grows by that has the image of each packet
grown_none : {X : Type 0} (f : Packet → X) (ps : List Packet) (from : ℕ) (before : Option (List X)) → Grows before (map f (drop from (take from ps))) before
grown_none {X} f ps from before =
    let few : length (take from ps) ≤ from = omega (arith, length-take from ps) in
    subst (λ (qs : List Packet). Grows before (map f qs) before) (sym (drop_of_length-le (take from ps) few)) (grows_none before)

grown_next : {X : Type 0} (f : Packet → X) (qs : List Packet) (from : ℕ) (p : Packet) (before now after : Option (List X)) → from ≤ length qs → Grows before (map f (drop from qs)) now → Adds now (f p) after
    → Grows before (map f (drop from (qs ++ p ∷ []))) after
grown_next {X} f qs from p before now after here grown adds =
    subst (λ (xs : List X). Grows before xs after) (sym (ap (map f) (drop-append-le from qs (p ∷ []) here) ∙ map-append f (drop from qs) (p ∷ []))) (grows_by before now after (map f (drop from qs)) (f p ∷ []) grown adds)

pub sent_none : (ps : List Packet) (from : ℕ) (book : Book) (before : Carried) → AreFit (take from ps) → AreSent ps from from book book before before
sent_none ps from book before fit = record {
  fit = fit;
  noted = λ delivered h. h;
  sent = grown_none sending ps from before.sent;
  acts = grown_none (λ p. Goes (sending p)) ps from before.acts;
}

pub sent_next : (ps : List Packet) (from n : ℕ) (p : Packet) (old book new : Book) (before now after : Carried) → from ≤ n → slice_get ps n ≡ Some p
    → AreSent ps from n old book before now → packet.fits p ≡ true
    → ((delivered : List ℕ) → IsBook book (spellings (take n ps)) delivered → IsBook new (spellings (take n ps ++ p ∷ [])) delivered)
    → Adds now.sent (sending p) after.sent → Adds now.acts (Goes (sending p)) after.acts → AreSent ps from (n + 1) old new before after
sent_next ps from n p old book new before now after le at s is noted adds act =
    let whole : take (n + 1) ps ≡ take n ps ++ p ∷ [] = (let one : n + 1 ≡ suc n = omega arith in ap (λ k. take k ps) one ∙ take_next ps n p at) in
    let long : length (take n ps) ≡ n = length-take-le n ps (let h : n < length ps = slice_get_within ps n p at in omega (arith, h)) in
    let here : from ≤ length (take n ps) = omega (arith, long, le) in
    record {
      fit = subst AreFit (sym whole) (fit_more (take n ps) p s.fit is);
      noted = λ delivered h. subst (λ (qs : List Packet). IsBook new (spellings qs) delivered) (sym whole) (noted delivered (s.noted delivered h));
      sent = subst (λ (qs : List Packet). Grows before.sent (map sending (drop from qs)) after.sent) (sym whole) (grown_next sending (take n ps) from p before.sent now.sent after.sent here s.sent adds);
      acts = subst (λ (qs : List Packet). Grows before.acts (all_gone (drop from qs)) after.acts) (sym whole) (grown_next (λ q. Goes (sending q)) (take n ps) from p before.acts now.acts after.acts here s.acts act);
    }

-- ---- and those of a line after those before it

pub first_of : (ps qs : List Packet) → Begins ps qs → take (length ps) qs ≡ ps
first_of ps qs b = ap (take (length ps)) b.whole ∙ take-append_seam ps b.more

pub no_fewer : (ps qs : List Packet) → Begins ps qs → length ps ≤ length qs
no_fewer ps qs b = omega (arith, length-append ps b.more, ap length b.whole)

pub made_over : (ps qs : List Packet) (from : ℕ) (old new : Book) (before after : Carried) → Begins ps qs → from ≡ length ps → AreFit ps
    → (from ≤ length qs → AreFit (take from qs) → AreSent qs from (length qs) old new before after) → IsMadeOver ps qs old new before after
made_over ps qs from old new before after b at fit sent =
    let le : from ≤ length qs = omega (arith, no_fewer ps qs b, at) in
    let s : AreSent qs from (length qs) old new before after = sent le (subst AreFit (sym (ap (λ n. take n qs) at ∙ first_of ps qs b)) fit) in
    let all : take (length qs) qs ≡ qs = take-length qs in
    let t : AreSent qs (length ps) (length qs) old new before after = subst (λ (n : ℕ). AreSent qs n (length qs) old new before after) at s in
    let left : drop (length ps) (take (length qs) qs) ≡ b.more = ap (drop (length ps)) (all ∙ b.whole) ∙ drop-append_seam ps b.more in
    record {
      fit = subst AreFit all t.fit;
      noted = λ delivered h. subst (λ (xs : List Packet). IsBook new (spellings xs) delivered) all (t.noted delivered (subst (λ (xs : List Packet). IsBook old (spellings xs) delivered) (sym (first_of ps qs b)) h));
      sent = λ first h.
          let more : Grows before.sent (map sending b.more) after.sent = subst (λ (xs : List Packet). Grows before.sent (map sending xs) after.sent) left t.sent in
          subst (λ (xs : List Sent). Grows first xs after.sent) (sym (map-append sending ps b.more) ∙ ap (map sending) (sym b.whole)) (grows_by first before.sent after.sent (map sending ps) (map sending b.more) h more);
      acts = subst (λ (xs : List Packet). Grows before.acts (all_gone (drop (length ps) xs)) after.acts) all t.acts;
    }
