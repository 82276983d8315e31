-- A mark is told right after the commit of its own transaction, whose put was told before.
use Rattle.std.proofs.Common.{◌≡◌, ℕ, ◌<◌, List, [], ◌∷◌, ◌++◌, refl, sym, ap, ◌∙◌, subst, inl, inr, arith, Some}
use Rattle.tg_base.specs.declared.ids.Oid.{Oid}
use Rattle.tg_kind.specs.Meaning.{Meaning}
use Rattle.tg_model.specs.declared.trace.What.TheVariants as told
use Rattle.tg_model.specs.Kinds.{WhatOf, NoteOf}
use Rattle.tg_model.specs.Traces.{Trace, Tells}
use Rattle.tg_protocol.specs.Words.{directory}
use Rattle.tg_protocol.specs.Appending.{Append}
use Rattle.tg_protocol.specs.Clients.{Appending, Marks, Work, Client}
use Rattle.tg_protocol.specs.Answers.{Moved, note}
use Rattle.tg_protocol.specs.ClientSteps.{ClientTurn, task_in}
use Rattle.tg_protocol.specs.Worlds.{World, Told, client, trace}
use Rattle.tg_law_layouts.specs.Moves.Configs.{config}
use Rattle.tg_law_layouts.proofs.Moves.Members.{Has, has_right}
use Rattle.tg_law_layouts.proofs.Moves.Moves.{ClientInput, Commanded, Hears', Ticks'}
use Rattle.tg_law_replies.proofs.Books.Effects.{AllZero, Quit, Zeros, AskFails, Filled, Marked, MarkFilled, MarkLost, On, Quits, Closes, Asks, Marks'}
use Rattle.tg_law_replies.proofs.Books.Commands.{Turned, Idles, Works, Takes, Refuses, Takes', Nothing, Opening, Putting, Answering, Ending, EndingLater, Dropping, Beginning, commanding, delivered}
use Rattle.tg_law_replies.proofs.Books.Turns.{DraftOf}
use Rattle.tg_law_replies.proofs.Books.Worlds.{WorldBook, regroup, cancel, compare, Compared, commanded_notes, delivered_notes, tick_of}

module _ (m : Meaning) where
  -- what is told where a mark's record stands
  abbrev pub both : ℕ → Oid → ℕ → ℕ → List (NoteOf m)
  both x o j p = note m x (told.Committed p) ∷ note m 0 (told.Marked o j) ∷ []

  not_none : (x : ℕ) (o : Oid) (j p : ℕ) → [] ≡ both x o j p → ⊥
  not_none x o j p e = cc

  not_one : (k : NoteOf m) (x : ℕ) (o : Oid) (j p : ℕ) → k ∷ [] ≡ both x o j p → ⊥
  not_one k x o j p e = cc

  not_three : (k l n : NoteOf m) (x : ℕ) (o : Oid) (j p : ℕ) → k ∷ l ∷ n ∷ [] ≡ both x o j p → ⊥
  not_three k l n x o j p e = cc

  -- the number and the word of the first note, and the word of the second
  abbrev first_tx : List (NoteOf m) → ℕ
  first_tx [] = 0
  first_tx (k ∷ ns) = k.tx

  abbrev first_what : List (NoteOf m) → WhatOf m
  first_what [] = told.End
  first_what (k ∷ ns) = k.what

  abbrev second_what : List (NoteOf m) → WhatOf m
  second_what [] = told.End
  second_what (k ∷ ns) = first_what ns

  no_end : (p : ℕ) → ◌≡◌ {A = WhatOf m} told.End (told.Committed p) → ⊥
  no_end p e = cc

  same_mark : (o q : Oid) (j k : ℕ) → ◌≡◌ {A = WhatOf m} (told.Marked o j) (told.Marked q k) → (o ≡ q) × (j ≡ k)
  same_mark o q j k e = (cc, cc)

  not_end : (n : ℕ) (k : NoteOf m) (x : ℕ) (o : Oid) (j p : ℕ) → note m n told.End ∷ k ∷ [] ≡ both x o j p → ⊥
  not_end n k x o j p e = no_end p (ap first_what e)

  module _ (c : Client m) where
    -- the client appends a mark's record
    pub record InHand (x : ℕ) (o : Oid) (j : ℕ) : Type 0 where
      pub work : Work m
      pub has : c.work ≡ Some work
      pub append : Append
      pub is : task_in m work.hand ≡ Appending append (Marks x o j)

    module _ (x : ℕ) (o : Oid) (j p : ℕ) (positive : 0 < x) where
      zeros : (ns : List (NoteOf m)) → AllZero m ns → ns ≡ both x o j p → ⊥
      zeros ns z is = let e = (subst (λ (ks : List (NoteOf m)). AllZero m ks) is z).0 in omega (arith, e, positive)

      same : (n : ℕ) (q : Oid) (k r : ℕ) → both n q k r ≡ both x o j p → (n ≡ x) × (q ≡ o) × (k ≡ j)
      same n q k r e = let z = same_mark q o k j (ap second_what e) in (ap first_tx e, z.0, z.1)

      quit_hand : (w : Work m) (end : _) (ns : List (NoteOf m)) → c.work ≡ Some w → Quit m c w end ns → ns ≡ both x o j p → InHand x o j
      quit_hand w end ns has (Zeros other z) is = absurd (zeros ns z is)
      quit_hand w end ns has (AskFails why ask z) is = absurd (not_one _ x o j p is)
      quit_hand w end ns has (Filled a y l at z f) is = absurd (not_one _ x o j p is)
      quit_hand w end ns has (Marked a n q k r page at e) is =
          let s = same n q k r is in
          record {
            work = w;
            has = has;
            append = a;
            is = at ∙ ap (λ (i : ℕ). Appending a (Marks i q k)) s.0 ∙ ap (λ (z : Oid). Appending a (Marks x z k)) s.1 ∙ ap (λ (i : ℕ). Appending a (Marks x o i)) s.2;
          }
      quit_hand w end ns has (MarkFilled a n q k l at f) is = absurd (not_one _ x o j p is)
      quit_hand w end ns has (MarkLost a n q k r b at e) is = absurd (not_one _ x o j p is)

      pub turned_hand : (r : Moved m) → Turned m c r → r.notes ≡ both x o j p → InHand x o j
      turned_hand r (Idles s kept notes) is = absurd (not_none x o j p (sym notes ∙ is))
      turned_hand r (Works w end has (On s notes v works kept on)) is = absurd (not_none x o j p (sym notes ∙ is))
      turned_hand r (Works w end has (Quits s none q)) is = quit_hand w end r.notes has q is
      turned_hand r (Works w end has (Closes s none e what notes z)) is = absurd (not_one _ x o j p (sym notes ∙ is))
      turned_hand r (Works w end has (Asks a)) is = absurd (not_one _ x o j p (sym a.notes ∙ is))
      turned_hand r (Works w end has (Marks' y)) is = absurd (not_three _ _ _ x o j p (sym y.notes ∙ is))
      turned_hand r (Takes y (Refuses why f e)) is = absurd (not_one _ x o j p (sym (ap (λ (z : Moved m). z.notes) e) ∙ is))
      turned_hand r (Takes y (Takes' idle fine (Nothing s none z))) is = absurd (zeros r.notes z is)
      turned_hand r (Takes y (Takes' idle fine (Opening e))) is = absurd (not_one _ x o j p (sym e.notes ∙ is))
      turned_hand r (Takes y (Takes' idle fine (Putting e))) is = absurd (not_one _ x o j p (sym e.notes ∙ is))
      turned_hand r (Takes y (Takes' idle fine (Answering e))) is = absurd (not_one _ x o j p (sym e.notes ∙ is))
      turned_hand r (Takes y (Takes' idle fine (Ending e))) is = absurd (not_end _ _ x o j p (sym e.notes ∙ is))
      turned_hand r (Takes y (Takes' idle fine (EndingLater e))) is = absurd (not_one _ x o j p (sym e.notes ∙ is))
      turned_hand r (Takes y (Takes' idle fine (Dropping e))) is = absurd (not_one _ x o j p (sym e.notes ∙ is))
      turned_hand r (Takes y (Takes' idle fine (Beginning e))) is = absurd (not_none x o j p (sym e.notes ∙ is))

  -- In a turn of a world's client.

  module _ (w : World m) (books : WorldBook m w) (n : ℕ) (x : ℕ) (o : Oid) (j p : ℕ) (positive : 0 < x) where
    pub hand_of : (t : ClientTurn m) → ClientInput m (config m w) n t → t.notes ≡ both x o j p → InHand (client m w n) x o j
    hand_of t (Commanded y) is = turned_hand (client m w n) x o j p positive _ (Takes y (commanding m (client m w n) y)) (sym (commanded_notes m (client m w n) y) ∙ is)
    hand_of t (Hears' q comes) is = turned_hand (client m w n) x o j p positive _ (delivered m (client m w n) q.from q.rid q.msg (λ v has. (books n).suits v has)).turned (sym (delivered_notes m (client m w n) q) ∙ is)
    hand_of t Ticks' is = let y = tick_of m (client m w n) in turned_hand (client m w n) x o j p positive y.makes y.turned (sym y.notes ∙ is)

    pub put_told : (t : ClientTurn m) → ClientInput m (config m w) n t → t.notes ≡ both x o j p → Tells m (trace m w) n x (told.Put directory (m.mark_op o j))
    put_told t i is = let y = hand_of t i is in (subst (DraftOf m n (trace m w) (client m w n).tx (client m w n).begun) y.is ((books n).drafts y.work y.has)).put

  -- In the list of what is told.

  module _ (tr : Trace m) where
    -- the last before a mark's reply is the commit of a transaction that put the mark
    pub record MarkTold (before : List (Told m)) (k : ℕ) (o : Oid) (j : ℕ) : Type 0 where
      pub earlier : List (Told m)
      pub last : Told m
      pub split : before ≡ earlier ++ last ∷ []
      pub of_client : last.mark.client ≡ k
      pub at : ℕ
      pub committed : last.mark.what ≡ told.Committed at
      pub put : Tells m tr k last.mark.tx (told.Put directory (m.mark_op o j))

    abbrev pub MarksTold : List (Told m) → Type 0
    MarksTold ts = (before after : List (Told m)) (t : Told m) (o : Oid) (j : ℕ) → ts ≡ before ++ t ∷ after → t.mark.what ≡ told.Marked o j → MarkTold before t.mark.client o j

    no_split : (before after : List (Told m)) (t : Told m) → [] ≡ before ++ t ∷ after → ⊥
    no_split [] after t e = cc
    no_split (x ∷ before) after t e = cc

    pub none_marked : MarksTold []
    none_marked before after t o j e is = absurd (no_split before after t e)

    pub more_marked : (ts us : List (Told m)) → MarksTold ts → MarksTold us → MarksTold (ts ++ us)
    more_marked ts us old new before after t o j e is = by (compare ts us before after t e)
      where
        later : (mid : List (Told m)) → before ≡ ts ++ mid → MarkTold mid t.mark.client o j → MarkTold before t.mark.client o j
        later mid f y = record {
          earlier = ts ++ y.earlier;
          last = y.last;
          split = f ∙ ap (λ (zs : List (Told m)). ts ++ zs) y.split ∙ sym (regroup ts y.earlier (y.last ∷ []));
          of_client = y.of_client;
          at = y.at;
          committed = y.committed;
          put = y.put;
        }

        by : Compared ts before t → MarkTold before t.mark.client o j
        by (inl y) = later y.0 y.1 (new y.0 after t o j (cancel ts us (y.0 ++ t ∷ after) (e ∙ ap (λ (zs : List (Told m)). zs ++ t ∷ after) y.1 ∙ regroup ts y.0 (t ∷ after))) is)
        by (inr y) = old before y.0 t o j y.1 is

    -- no mark
    pub un_marked : (ts : List (Told m)) → ((t : Told m) (o : Oid) (j : ℕ) → Has ts t → t.mark.what ≡ told.Marked o j → ⊥) → MarksTold ts
    un_marked ts none before after t o j e is = absurd (none t o j (subst (λ (zs : List (Told m)). Has zs t) (sym e) (has_right before (t ∷ after) t (inl refl))) is)

    not_marked : (p : ℕ) (o : Oid) (j : ℕ) → ◌≡◌ {A = WhatOf m} (told.Committed p) (told.Marked o j) → ⊥
    not_marked p o j e = cc

    head_is : (x y : Told m) (xs ys : List (Told m)) → x ∷ xs ≡ y ∷ ys → (x ≡ y) × (xs ≡ ys)
    head_is x y xs ys e = (cc, cc)

    -- a commit and a mark of one client
    pub pair_marked : (a b : Told m) (p : ℕ) (o : Oid) (j : ℕ) → a.mark.what ≡ told.Committed p → b.mark.what ≡ told.Marked o j → a.mark.client ≡ b.mark.client → Tells m tr b.mark.client a.mark.tx (told.Put directory (m.mark_op o j)) → MarksTold (a ∷ b ∷ [])
    pair_marked a b p o j commits marks one put [] after t q k e is =
        absurd (not_marked p q k (sym commits ∙ ap (λ (z : Told m). z.mark.what) (head_is a t (b ∷ []) after e).0 ∙ is))
    pair_marked a b p o j commits marks one put (u ∷ []) after t q k e is = record {
      earlier = [];
      last = u;
      split = refl;
      of_client = sym (ap (λ (z : Told m). z.mark.client) first.0) ∙ one ∙ ap (λ (z : Told m). z.mark.client) second;
      at = p;
      committed = sym (ap (λ (z : Told m). z.mark.what) first.0) ∙ commits;
      put = subst (λ (z : Oid). Tells m tr t.mark.client u.mark.tx (told.Put directory (m.mark_op z k))) mark.0
          (subst (λ (i : ℕ). Tells m tr t.mark.client u.mark.tx (told.Put directory (m.mark_op o i))) mark.1
          (subst (λ (z : Told m). Tells m tr z.mark.client u.mark.tx (told.Put directory (m.mark_op o j))) second
          (subst (λ (z : Told m). Tells m tr b.mark.client z.mark.tx (told.Put directory (m.mark_op o j))) first.0 put)));
    }
      where
        first : (a ≡ u) × (b ∷ [] ≡ t ∷ after)
        first = head_is a u (b ∷ []) (t ∷ after) e

        second : b ≡ t
        second = (head_is b t [] after first.1).0

        mark : (o ≡ q) × (j ≡ k)
        mark = same_mark o q j k (sym marks ∙ ap (λ (z : Told m). z.mark.what) second ∙ is)
    pair_marked a b p o j commits marks one put (u ∷ v ∷ mid) after t q k e is =
        absurd (no_split mid after t (head_is b v [] (mid ++ t ∷ after) (head_is a u (b ∷ []) (v ∷ (mid ++ t ∷ after)) e).1).1)
