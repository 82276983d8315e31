-- Where a number is of no open transaction, nothing is put or asked with it any more.
use Rattle.std.proofs.Common.{◌≡◌, ◌⊎◌, ℕ, ◌+◌, ◌<◌, List, [], ◌∷◌, ◌++◌, map, refl, sym, ap, ◌∙◌, subst, inl, inr, arith, Option, Some, None}
use Rattle.tg_base.specs.declared.ids.Oid.{Oid}
use Rattle.tg_entry.specs.declared.entry.Entry.{Entry}
use Rattle.tg_kind.specs.Meaning.{Meaning}
use Rattle.tg_model.specs.declared.trace.What.TheVariants as told
use Rattle.tg_model.specs.Kinds.{EventOf, WhatOf, MarkOf, NoteOf}
use Rattle.tg_model.specs.Traces.{Trace}
use Rattle.tg_protocol.specs.Transactions.{Tx}
use Rattle.tg_protocol.specs.Views.{Entries}
use Rattle.tg_protocol.specs.Clients.{Client, tx_number}
use Rattle.tg_protocol.specs.Answers.{Moved, note, mark_notes}
use Rattle.tg_protocol.specs.Worlds.{World, client, happens, next_event, trace}
use Rattle.tg_protocol.specs.Runs.{Moves, Next, Takes, run}
use Rattle.tg_law_replies.proofs.History.Members.{Has, has_image, has_either}
use Rattle.tg_law_replies.proofs.Replies.Books.{mark, IsPlain}
use Rattle.tg_law_replies.proofs.Replies.Closed.{LeavesAlone}
use Rattle.tg_law_replies.proofs.Books.Effects.{AllZero, Quit, Zeros, AskFails, Filled, Marked, MarkFilled, MarkLost, On, Quits, Closes, Asks, Marks'}
use Rattle.tg_law_replies.proofs.Books.Commands.{Refuses, Takes', Nothing, Opening, Putting, Answering, Ending, EndingLater, Dropping, Beginning, Turned, Idles, Works}
use Rattle.tg_law_replies.proofs.Books.Commands as turn
use Rattle.tg_law_replies.proofs.Books.Closing.{Only}
use Rattle.tg_law_replies.proofs.Books.Worlds.{nil_right, regroup, cancel, WorldBook, Stepped, Rests, Turns, step, step_book, Grown, grown_by, run_grows, only_stepped}

module _ (m : Meaning) where
  module _ (c : Client m) (n : ℕ) (positive : 0 < n) (Q : Entry → Type 0) (o : Only m n Q c) where
    abbrev PlainOf : NoteOf m → Type 0
    PlainOf x = x.tx ≡ n → IsPlain m x.what

    zero_plain : (ns : List (NoteOf m)) → AllZero m ns → (x : NoteOf m) → Has ns x → PlainOf x
    zero_plain [] z x i at = absurd i
    zero_plain (y ∷ ns) z x (inl e) at = let zero_is = ap (λ (u : NoteOf m). u.tx) e in let z0 = z.0 in absurd (omega (arith, zero_is, z0, at, positive))
    zero_plain (y ∷ ns) z x (inr i) at = zero_plain ns z.1 x i at

    -- the transaction that is open has another number
    not_open : tx_number m c.tx ≡ n → ⊥
    not_open = by c.tx refl
      where
        by : (t : Option Tx) → c.tx ≡ t → tx_number m t ≡ n → ⊥
        by None is z = absurd (omega (arith, z, positive))
        by (Some t) is z = o.1 t is z

    one_plain : (ns : List (NoteOf m)) (y : NoteOf m) → ns ≡ y ∷ [] → PlainOf y → (x : NoteOf m) → Has ns x → PlainOf x
    one_plain ns y is h x i = by (subst (λ (xs : List (NoteOf m)). Has xs x) is i)
      where
        by : Has (y ∷ []) x → PlainOf x
        by (inl e) = subst PlainOf (sym e) h
        by (inr j) = absurd j

    none_plain : (ns : List (NoteOf m)) → ns ≡ [] → (x : NoteOf m) → Has ns x → PlainOf x
    none_plain ns is x i = absurd (subst (λ (xs : List (NoteOf m)). Has xs x) is i)

    two_plain : (y z : NoteOf m) → PlainOf y → PlainOf z → (x : NoteOf m) → Has (y ∷ z ∷ []) x → PlainOf x
    two_plain y z a b x (inl e) = subst PlainOf (sym e) a
    two_plain y z a b x (inr (inl e)) = subst PlainOf (sym e) b
    two_plain y z a b x (inr (inr i)) = absurd i

    marks_plain : (p : Oid) (j : ℕ) (x : NoteOf m) → Has (mark_notes m (c.begun + 1) p j) x → PlainOf x
    marks_plain p j x (inl e) at = let y = ap (λ (u : NoteOf m). u.tx) e in let le = o.0 in absurd (omega (arith, y, at, le))
    marks_plain p j x (inr (inl e)) at = let y = ap (λ (u : NoteOf m). u.tx) e in let le = o.0 in absurd (omega (arith, y, at, le))
    marks_plain p j x (inr (inr (inl e))) at = let y = ap (λ (u : NoteOf m). u.tx) e in let le = o.0 in absurd (omega (arith, y, at, le))
    marks_plain p j x (inr (inr (inr i))) at = absurd i

    quit_plain : {w : _} {end : _} (ns : List (NoteOf m)) → Quit m c w end ns → (x : NoteOf m) → Has ns x → PlainOf x
    quit_plain ns (Zeros other z) x i = zero_plain ns z x i
    quit_plain ns (AskFails why is z) x i = one_plain ns _ refl (λ at. tt) x i
    quit_plain ns (Filled a y l is z f) x i = one_plain ns _ refl (λ at. tt) x i
    quit_plain ns (Marked a k p j q page is e) x i = two_plain (note m k (told.Committed q)) (note m 0 (told.Marked p j)) (λ at. tt) (λ at. tt) x i
    quit_plain ns (MarkFilled a k p j l is f) x i = one_plain ns _ refl (λ at. tt) x i
    quit_plain ns (MarkLost a k p j q b is e) x i = one_plain ns _ refl (λ at. tt) x i

    turn_plain : (r : Moved m) → Turned m c r → (x : NoteOf m) → Has r.notes x → PlainOf x
    turn_plain r (Idles s same notes) x i = none_plain r.notes notes x i
    turn_plain r (Works w end has (On s notes v is same on)) x i = none_plain r.notes notes x i
    turn_plain r (Works w end has (Quits s none q)) x i = quit_plain r.notes q x i
    turn_plain r (Works w end has (Closes s none e what notes z)) x i = one_plain r.notes (note m (tx_number m c.tx) what) notes (λ at. absurd (not_open at)) x i
    turn_plain r (Works w end has (Asks a)) x i = one_plain r.notes _ a.notes (λ at. absurd (o.1 a.of a.from at)) x i
    turn_plain r (Works w end has (Marks' y)) x i = marks_plain y.oid y.mark x (subst (λ (xs : List (NoteOf m)). Has xs x) y.notes i)
    turn_plain r (turn.Takes y (Refuses why is e)) x i = one_plain r.notes _ (ap (λ (z : Moved m). z.notes) e) (λ at. tt) x i
    turn_plain r (turn.Takes y (Takes' idle fine (Nothing s none z))) x i = zero_plain r.notes z x i
    turn_plain r (turn.Takes y (Takes' idle fine (Opening p))) x i = one_plain r.notes _ p.notes (λ at. tt) x i
    turn_plain r (turn.Takes y (Takes' idle fine (Putting p))) x i = one_plain r.notes _ p.notes (λ at. absurd (o.1 p.of p.from at)) x i
    turn_plain r (turn.Takes y (Takes' idle fine (Answering a))) x i = one_plain r.notes _ a.notes (λ at. absurd (o.1 a.of a.from at)) x i
    turn_plain r (turn.Takes y (Takes' idle fine (Ending e))) x i = two_plain _ _ (λ at. tt) (λ at. tt) x (subst (λ (xs : List (NoteOf m)). Has xs x) e.notes i)
    turn_plain r (turn.Takes y (Takes' idle fine (EndingLater e))) x i = one_plain r.notes _ e.notes (λ at. tt) x i
    turn_plain r (turn.Takes y (Takes' idle fine (Dropping d))) x i = one_plain r.notes _ d.notes (λ at. tt) x i
    turn_plain r (turn.Takes y (Takes' idle fine (Beginning b))) x i = none_plain r.notes b.notes x i

  module _ (objects : List Oid) (es : Entries) (k n : ℕ) (positive : 0 < n) (Q : Entry → Type 0) where
    stepped_plain : (e : EventOf m) (w v : World m) (ys : Trace m) → Only m n Q (client m w k) → Stepped m k e w v → trace m v ≡ trace m w ++ ys → LeavesAlone m objects es k n ys
    stepped_plain e w v ys o (Rests c zs t alone) grown u i at number =
        absurd (alone u (subst (λ (xs : Trace m). Has xs u) (cancel (trace m w) ys zs (sym grown ∙ t)) i) at)
    stepped_plain e w v ys o (Turns r t f g c x) grown u i at number =
        let j = has_image (mark m w.event k) r.notes u (subst (λ (xs : Trace m). Has xs u) (cancel (trace m w) ys (map (mark m w.event k) r.notes) (sym grown ∙ x)) i) in
        subst (λ (y : WhatOf m). IsPlain m y) (sym (ap (λ (y : MarkOf m). y.what) j.2)) (turn_plain (client m w k) n positive Q o r t j.0 j.1 (sym (ap (λ (y : MarkOf m). y.tx) j.2) ∙ number))

    both_plain : (xs ys : Trace m) → LeavesAlone m objects es k n xs → LeavesAlone m objects es k n ys → LeavesAlone m objects es k n (xs ++ ys)
    both_plain xs ys a b u i at number = by (has_either xs ys u i)
      where
        by : Has xs u ⊎ Has ys u → IsPlain m u.what
        by (inl j) = a u j at number
        by (inr j) = b u j at number

    -- along a run
    pub run_plain : (ms : Moves m) (w : World m) (ys : Trace m) → WorldBook m w → Only m n Q (client m w k) → trace m (run m ms w) ≡ trace m w ++ ys → LeavesAlone m objects es k n ys
    unfolding run
    run_plain [] w ys h o grown = subst (λ (xs : Trace m). LeavesAlone m objects es k n xs) (cancel (trace m w) [] ys (nil_right (trace m w) ∙ grown)) (λ u i. absurd i)
    run_plain (Next ∷ ms) w ys h o grown = run_plain ms (next_event m w) ys h o grown
    run_plain (Takes e ∷ ms) w ys h o grown =
        subst (λ (xs : Trace m). LeavesAlone m objects es k n xs) (sym split)
        (both_plain one.0 rest.0 (stepped_plain e w (happens m w e) one.0 o (step m w e h k) one.1)
        (run_plain ms (happens m w e) rest.0 (step_book m w e h) (only_stepped m k e w (happens m w e) n Q (h k) o (step m w e h k)) rest.1))
      where
        one : Grown m w (happens m w e)
        one = grown_by m 0 e w (happens m w e) (step m w e h 0)

        rest : Grown m (happens m w e) (run m ms (happens m w e))
        rest = run_grows m ms (happens m w e) (step_book m w e h)

        split : ys ≡ one.0 ++ rest.0
        split = cancel (trace m w) ys (one.0 ++ rest.0) (sym grown ∙ (rest.1 ∙ (ap (λ (tr : Trace m). tr ++ rest.0) one.1 ∙ regroup (trace m w) one.0 rest.0)))
