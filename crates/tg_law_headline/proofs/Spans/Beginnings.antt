-- The beginning of a transaction is the first that its step tells: so the replies before it are those of the world before the step.
use Rattle.std.proofs.Common.{◌≡◌, ◌⊎◌, ℕ, ◌+◌, ◌<◌, List, [], ◌∷◌, ◌++◌, map, refl, sym, ap, ◌∙◌, subst, inl, inr, arith, Option, Some, append-nil}
use Rattle.tg_base.specs.Clusters.{Header}
use Rattle.tg_base.specs.declared.ids.Oid.{Oid}
use Rattle.tg_kind.specs.Meaning.{Meaning}
use Rattle.tg_model.specs.Kinds.{CommandOf, EventOf, MarkOf, NoteOf, WhatOf}
use Rattle.tg_model.specs.Traces.{Trace}
use Rattle.tg_model.specs.declared.refusal.Refusal.{Refusal}
use Rattle.tg_model.specs.declared.refusal.Refusal.TheVariants as cause
use Rattle.tg_model.specs.declared.trace.What.TheVariants as told
use Rattle.tg_protocol.specs.Words.{directory}
use Rattle.tg_protocol.specs.Appending.{AppendEnd}
use Rattle.tg_protocol.specs.Clients.{Work, Client, tx_number, number_on}
use Rattle.tg_protocol.specs.Answers.{Moved, note}
use Rattle.tg_protocol.specs.ClientSteps.{snapshot_or}
use Rattle.tg_protocol.specs.Worlds.{start, client, trace, happens}
use Rattle.tg_protocol.specs.Runs.{Move, Moves, Next as Counts, Takes, Reaches, AlwaysBy, run}
use Rattle.tg_law_layouts.specs.Moves.After.{after}
use Rattle.tg_law_replies.proofs.Replies.Books.{mark}
use Rattle.tg_law_replies.proofs.History.Members.{Has, has_right}
use Rattle.tg_law_replies.proofs.Books.Effects.{IsEnd, OfRecord, AllZero, Quit, Zeros, AskFails, Filled, Marked, MarkFilled, MarkLost, Close, Lost, Written, Decided, Told, On, Quits, Closes, Asks, Marks'}
use Rattle.tg_law_replies.proofs.Books.Commands.{Refuses, Takes', Taking, Nothing, Opening, Putting, Answering, Ending, EndingLater, Dropping, Beginning, Turned, Idles, Works, Takes as Taken}
use Rattle.tg_law_replies.proofs.Books.Worlds.{Stepped, Rests, Turns, run_book, start_book, compare, cancel}
use Rattle.tg_law_replies.proofs.Books.Worlds as books
use Rattle.tg_law_walks.proofs.Drafts.Written.{then_next, then_takes}
use Rattle.tg_law_walks.proofs.Drafts.Written as written
use Rattle.tg_law_walks.proofs.Once.Along.{on_moves}
use Rattle.tg_law_walks.proofs.Once.Nowhere.{reached}
use Rattle.tg_law_walks.proofs.Once.Refusing.{Awaits}
use Rattle.tg_law_headline.specs.Spans.Begun.{BeginsApart}
use Rattle.tg_law_headline.proofs.Spans.Opened.{awaits_at}

same_head : {X : Type 0} → (x y : X) (xs ys : List X) → x ∷ xs ≡ y ∷ ys → x ≡ y
same_head x y xs ys e = cc

same_tail : {X : Type 0} → (x y : X) (xs ys : List X) → x ∷ xs ≡ y ∷ ys → xs ≡ ys
same_tail x y xs ys e = cc

none_in : {X Y : Type 0} → (xs : List X) (y : X) (ys : List X) → [] ≡ xs ++ y ∷ ys → Y
none_in [] y ys e = absurd cc
none_in (x ∷ xs) y ys e = absurd cc

-- a part of an image
record Unmapped {X Y : Type 0} (f : X → Y) (ns : List X) (ys : List Y) (y : Y) : Type 0 where
  pre : List X
  of : X
  post : List X
  split : ns ≡ pre ++ of ∷ post
  before : ys ≡ map f pre
  is : y ≡ f of

unmapped : {X Y : Type 0} → (f : X → Y) (ns : List X) (ys : List Y) (y : Y) (zs : List Y) → map f ns ≡ ys ++ y ∷ zs → Unmapped f ns ys y
unmapped f [] ys y zs e = none_in ys y zs e
unmapped f (n ∷ ns) [] y zs e = record { pre = []; of = n; post = ns; split = refl; before = refl; is = sym (same_head (f n) y (map f ns) zs e) }
unmapped f (n ∷ ns) (x ∷ ys) y zs e =
    let r = unmapped f ns ys y zs (same_tail (f n) x (map f ns) (ys ++ y ∷ zs) e) in
    let g = same_head (f n) x (map f ns) (ys ++ y ∷ zs) e in
    record { pre = n ∷ r.pre; of = r.of; post = r.post; split = ap (λ us. n ∷ us) r.split; before = ap (λ us. x ∷ us) r.before ∙ ap (λ z. z ∷ map f r.pre) (sym g); is = r.is }

module _ (m : Meaning) where
  module _ (c : Client m) (awaits : Awaits m c) (r : Moved m) (pre : List (NoteOf m)) (n : NoteOf m) (post : List (NoteOf m)) (split : r.notes ≡ pre ++ n ∷ post) (begins : n.what ≡ told.Begin) (positive : 0 < n.tx) where
    abbrev IsFirst : Type 0
    IsFirst = (pre ≡ []) × (n.tx ≡ c.begun + 1)

    -- notes of which none tells a beginning
    abbrev NoneBegins : List (NoteOf m) → Type 0
    NoneBegins ns = (x : NoteOf m) → Has ns x → x.what ≡ told.Begin → 0 < x.tx → ⊥

    nothing : NoneBegins []
    nothing x i e less = i

    also : (y : NoteOf m) (ns : List (NoteOf m)) → (y.what ≡ told.Begin → ⊥) → NoneBegins ns → NoneBegins (y ∷ ns)
    also y ns f rest x (inl g) e less = f (ap (λ (z : NoteOf m). z.what) (sym g) ∙ e)
    also y ns f rest x (inr g) e less = rest x g e less

    zeros : (ns : List (NoteOf m)) → AllZero m ns → NoneBegins ns
    zeros [] z x i e less = i
    zeros (y ∷ ns) z x (inl g) e less = let a = ap (λ (u : NoteOf m). u.tx) g in let b = z.0 in absurd (omega (arith, a, b, less))
    zeros (y ∷ ns) z x (inr g) e less = zeros ns z.1 x g e less

    no_refusal : (why : Refusal) → ◌≡◌ {A = WhatOf m} (told.Refused why) told.Begin → ⊥
    no_refusal why e = cc

    no_commit : (p : ℕ) → ◌≡◌ {A = WhatOf m} (told.Committed p) told.Begin → ⊥
    no_commit p e = cc

    no_mark : (o : Oid) (j : ℕ) → ◌≡◌ {A = WhatOf m} (told.Marked o j) told.Begin → ⊥
    no_mark o j e = cc

    no_put : (o : Oid) (op : m.op) → ◌≡◌ {A = WhatOf m} (told.Put o op) told.Begin → ⊥
    no_put o op e = cc

    no_end : ◌≡◌ {A = WhatOf m} told.End told.Begin → ⊥
    no_end e = cc

    no_drop : ◌≡◌ {A = WhatOf m} told.Dropped told.Begin → ⊥
    no_drop e = cc

    no_ask : (o : Oid) (q : m.ask) (s : ℕ) (a : m.answer) → ◌≡◌ {A = WhatOf m} (told.Asked o q s a) told.Begin → ⊥
    no_ask o q s a e = cc

    here : (xs : List (NoteOf m)) → Has (xs ++ n ∷ post) n
    here xs = has_right xs (n ∷ post) n (inl refl)

    never : (ns : List (NoteOf m)) → r.notes ≡ ns → NoneBegins ns → IsFirst
    never ns e f = absurd (f n (subst (λ (xs : List (NoteOf m)). Has xs n) (sym split ∙ e) (here pre)) begins positive)

    one : (y : NoteOf m) → r.notes ≡ y ∷ [] → (y.what ≡ told.Begin → ⊥) → IsFirst
    one y e f = never (y ∷ []) e (also y [] f nothing)

    leads : (rest : List (NoteOf m)) → r.notes ≡ note m (c.begun + 1) told.Begin ∷ rest → NoneBegins rest → IsFirst
    leads rest e f = by pre (sym split ∙ e)
      where
        by : (ps : List (NoteOf m)) → ps ++ n ∷ post ≡ note m (c.begun + 1) told.Begin ∷ rest → (ps ≡ []) × (n.tx ≡ c.begun + 1)
        by [] g = (refl, ap (λ (z : NoteOf m). z.tx) (same_head n (note m (c.begun + 1) told.Begin) post rest g))
        by (z ∷ ps) g = absurd (f n (subst (λ (xs : List (NoteOf m)). Has xs n) (same_tail z (note m (c.begun + 1) told.Begin) (ps ++ n ∷ post) rest g) (here ps)) begins positive)

    quit_none : (w : Work m) (end : Option AppendEnd) (ns : List (NoteOf m)) → Quit m c w end ns → NoneBegins ns
    quit_none w end ns (Zeros other z) = zeros ns z
    quit_none w end ns (AskFails why i z) = also (note m (tx_number m c.tx) (told.Refused why)) [] (no_refusal why) nothing
    quit_none w end ns (Filled a y l is rec f) = also (note m (tx_number m c.tx) (told.Refused (cause.LogFull l))) [] (no_refusal (cause.LogFull l)) nothing
    quit_none w end ns (Marked a k o j p page is e) = also (note m k (told.Committed p)) (note m 0 (told.Marked o j) ∷ []) (no_commit p) (also (note m 0 (told.Marked o j)) [] (no_mark o j) nothing)
    quit_none w end ns (MarkFilled a k o j l is e) = also (note m k (told.Refused (cause.LogFull l))) [] (no_refusal (cause.LogFull l)) nothing
    quit_none w end ns (MarkLost a k o j p b is e) = also (note m k (told.Refused (cause.Forgotten p b))) [] (no_refusal (cause.Forgotten p b)) nothing

    close_none : (w : Work m) (end : Option AppendEnd) (what : WhatOf m) → c.work ≡ Some w → IsEnd m w.command → Close m c w end what → what ≡ told.Begin → ⊥
    close_none w end what works e (Lost b y p g is rec f) z = no_refusal (cause.Forgotten p g) z
    close_none w end what works e (Written b p page is f) z = no_commit p z
    close_none w end what works e (Decided b y is) z = let k = awaits w works e b what is in subst (OfRecord m k.0) z k.1
    close_none w end what works e (Told y idle of) z = subst (OfRecord m w.at) z of

    taken_first : {y : CommandOf m} → Taking m c y r → IsFirst
    taken_first (Nothing st e z) = never r.notes refl (zeros r.notes z)
    taken_first (Opening p) = leads [] p.notes nothing
    taken_first (Putting p) = one (note m p.of.number (told.Put p.oid p.op)) p.notes (no_put p.oid p.op)
    taken_first (Answering y) = one (note m y.of.number (told.Asked y.oid y.ask y.at y.answer)) y.notes (no_ask y.oid y.ask y.at y.answer)
    taken_first (Ending e) = never _ e.notes (also (note m e.of.number told.End) (note m e.of.number (told.Committed (snapshot_or m e.of.snapshot)) ∷ []) no_end
        (also (note m e.of.number (told.Committed (snapshot_or m e.of.snapshot))) [] (no_commit (snapshot_or m e.of.snapshot)) nothing))
    taken_first (EndingLater e) = one (note m e.of.number told.End) e.notes no_end
    taken_first (Dropping d) = one (note m (tx_number m c.tx) told.Dropped) d.notes no_drop
    taken_first (Beginning b) = never [] b.notes nothing

    pub begins_first : Turned m c r → IsFirst
    begins_first (Idles st e notes) = never [] notes nothing
    begins_first (Works w end works (On st notes v at e on)) = never [] notes nothing
    begins_first (Works w end works (Quits st e z)) = never r.notes refl (quit_none w end r.notes z)
    begins_first (Works w end works (Closes st e i what notes z)) = one (note m (tx_number m c.tx) what) notes (close_none w end what works i z)
    begins_first (Works w end works (Asks y)) = one (note m y.of.number (told.Asked y.oid y.ask y.tail y.answer)) y.notes (no_ask y.oid y.ask y.tail y.answer)
    begins_first (Works w end works (Marks' y)) = leads (note m (c.begun + 1) (told.Put directory (m.mark_op y.oid y.mark)) ∷ note m (c.begun + 1) told.End ∷ []) y.notes
        (also (note m (c.begun + 1) (told.Put directory (m.mark_op y.oid y.mark))) (note m (c.begun + 1) told.End ∷ []) (no_put directory (m.mark_op y.oid y.mark)) (also (note m (c.begun + 1) told.End) [] no_end nothing))
    begins_first (Taken y (Refuses why at e)) = one (note m (number_on m c why) (told.Refused why)) (ap (λ (z : Moved m). z.notes) e) (no_refusal why)
    begins_first (Taken y (Takes' free fine z)) = taken_first z

module _ (m : Meaning) (h : Header) (zs : Moves m) (reach : Reaches m h zs (after m h zs)) where
  pub record There (xs : Moves m) (before : Trace m) (b : MarkOf m) : Type 0 where
    pub start' : Moves m
    pub rest : Moves m
    pub split : xs ≡ start' ++ rest
    pub traced : trace m (after m h start') ≡ before
    pub since : (client m (after m h start') b.client).begun < b.tx

  abbrev Apart : Moves m → Type 0
  Apart xs = (before later : Trace m) (b : MarkOf m) → trace m (after m h xs) ≡ before ++ b ∷ later → b.what ≡ told.Begin → 0 < b.tx → There xs before b

  longer : (xs ys : Moves m) (before : Trace m) (b : MarkOf m) → There xs before b → There (xs ++ ys) before b
  longer xs ys before b y = record { start' = y.start'; rest = y.rest ++ ys; split = ap (λ (us : Moves m). us ++ ys) y.split ∙ written.regroup m y.start' y.rest ys; traced = y.traced; since = y.since }

  module _ (xs : Moves m) (e : EventOf m) (apart : Apart xs) (before later : Trace m) (b : MarkOf m) (begins : b.what ≡ told.Begin) (positive : 0 < b.tx) where
    -- what a step adds to the replies
    added : (ys : Trace m) → trace m (after m h xs) ++ ys ≡ before ++ b ∷ later → ((mid : Trace m) → before ≡ trace m (after m h xs) ++ mid → ys ≡ mid ++ b ∷ later → There (xs ++ Takes e ∷ []) before b) → There (xs ++ Takes e ∷ []) before b
    added ys is f = by (compare (trace m (after m h xs)) ys before later b is)
      where
        by : ((mid : Trace m) × (before ≡ trace m (after m h xs) ++ mid)) ⊎ ((mid : Trace m) × (trace m (after m h xs) ≡ before ++ b ∷ mid)) → There (xs ++ Takes e ∷ []) before b
        by (inl y) = f y.0 y.1 (cancel (trace m (after m h xs)) ys (y.0 ++ b ∷ later) (is ∙ (ap (λ (tr : Trace m). tr ++ b ∷ later) y.1 ∙ books.regroup (trace m (after m h xs)) y.0 (b ∷ later))))
        by (inr y) = longer xs (Takes e ∷ []) before b (apart before y.0 b y.1 begins positive)

    stepped : trace m (happens m (after m h xs) e) ≡ before ++ b ∷ later → There (xs ++ Takes e ∷ []) before b
    stepped is = by (books.step m (after m h xs) e (run_book m xs (start m h) (start_book m h)) b.client)
      where
        by : Stepped m b.client e (after m h xs) (happens m (after m h xs) e) → There (xs ++ Takes e ∷ []) before b
        by (Rests same ys traced alone) = added ys (sym traced ∙ is) (λ mid at end. absurd (alone b (subst (λ (tr : Trace m). Has tr b) (sym end) (has_right mid (b ∷ later) b (inl refl))) refl))
        by (Turns r turn f g same traced) = added (map (mark m (after m h xs).event b.client) r.notes) (sym traced ∙ is) (λ mid at end. made mid at (unmapped (mark m (after m h xs).event b.client) r.notes mid b later end))
          where
            made : (mid : Trace m) → before ≡ trace m (after m h xs) ++ mid → Unmapped (mark m (after m h xs).event b.client) r.notes mid b → There (xs ++ Takes e ∷ []) before b
            made mid at y = on (begins_first m (client m (after m h xs) b.client) (awaits_at m h xs b.client) r y.pre y.of y.post y.split
                (ap (λ (z : MarkOf m). z.what) (sym y.is) ∙ begins) (subst (λ (i : ℕ). 0 < i) (ap (λ (z : MarkOf m). z.tx) y.is) positive) turn)
              where
                on : (y.pre ≡ []) × (y.of.tx ≡ (client m (after m h xs) b.client).begun + 1) → There (xs ++ Takes e ∷ []) before b
                on q = record {
                  start' = xs;
                  rest = Takes e ∷ [];
                  split = refl;
                  traced = sym (at ∙ (ap (λ (tr : Trace m). trace m (after m h xs) ++ tr) (y.before ∙ ap (λ (ns : List (NoteOf m)). map (mark m (after m h xs).event b.client) ns) q.0) ∙ append-nil (trace m (after m h xs))));
                  since = (let i = ap (λ (z : MarkOf m). z.tx) y.is in let j = q.1 in omega (arith, i, j));
                }

  on_move : (xs : Moves m) (x : Move m) (rest : Moves m) → zs ≡ xs ++ x ∷ rest → Apart xs → Apart (xs ++ x ∷ [])
  on_move xs Counts rest e apart before later b is begins positive = longer xs (Counts ∷ []) before b (apart before later b (ap (trace m) (sym (then_next m h xs)) ∙ is) begins positive)
  on_move xs (Takes x) rest e apart before later b is begins positive = stepped xs x apart before later b begins positive (ap (trace m) (sym (then_takes m h xs x)) ∙ is)

  starts : Apart []
  unfolding run start
  starts before later b is begins positive = none_in before b later is

  pub apart_here : Apart zs
  apart_here = on_moves m h zs reach Apart on_move [] zs [] (sym (append-nil zs)) starts

module _ (m : Meaning) where
  pub begins_are_apart : AlwaysBy m (BeginsApart m)
  begins_are_apart h ms w r before later b is begins positive =
      let y = apart_here m h ms (reached m h ms w r) before later b (ap (trace m) (sym r.goes.is) ∙ is) begins positive in
      record { at = after m h y.start'; passed = record { before = y.start'; after = y.rest; split = y.split; is = refl }; traced = y.traced; since = y.since }
