-- Each ask of a transaction was answered at a tail that was confirmed.
use Rattle.std.proofs.Common.{◌≡◌, ◌⊎◌, ℕ, ◌+◌, ◌<◌, ◌≤◌, List, [], ◌∷◌, ◌++◌, refl, sym, ap, ◌∙◌, subst, inl, inr, Some, None, Option}
use Rattle.tg_base.specs.Clusters.{Header}
use Rattle.tg_base.specs.declared.ids.Oid.{Oid}
use Rattle.tg_base.specs.declared.packet.Packet.{Packet}
use Rattle.tg_kind.specs.Meaning.{Meaning}
use Rattle.tg_model.specs.declared.trace.What.TheVariants as told
use Rattle.tg_model.specs.Kinds.{CommandOf, EventOf, MarkOf, NoteOf, WhatOf}
use Rattle.tg_model.specs.Traces.{Tells}
use Rattle.tg_protocol.specs.Words.{numbers}
use Rattle.tg_protocol.specs.Appending.{AppendEnd}
use Rattle.tg_protocol.specs.Transactions.{Tx, open_tx, tx_put, tx_read}
use Rattle.tg_protocol.specs.Clients.{Work, Client, new_client, write_of}
use Rattle.tg_protocol.specs.Answers.{Moved, note}
use Rattle.tg_protocol.specs.ClientSteps.{task_in}
use Rattle.tg_protocol.specs.Worlds.{World, start, client, happens, trace}
use Rattle.tg_protocol.specs.Chosen.{Sent}
use Rattle.tg_protocol.specs.Runs.{Move, Moves, Next as Counts, Takes as Moves', Reaches, run}
use Rattle.tg_law_layouts.specs.Moves.After.{after}
use Rattle.tg_law_layouts.proofs.Moves.Lists.{at_map, contained}
use Rattle.tg_law_layouts.proofs.Moves.Members.{has_contained as got}
use Rattle.tg_law_replies.specs.History.Worlds.{entries_in}
use Rattle.tg_law_replies.proofs.History.Members.{Has, has_contained}
use Rattle.tg_law_layouts.proofs.Layouts.Deciding.{decided_stays}
use Rattle.tg_law_replies.specs.Replies.Steps.{EachEvent}
use Rattle.tg_law_replies.proofs.Replies.Books.{IsPlain}
use Rattle.tg_law_replies.specs.Books.Kept.{RecordsEnd}
use Rattle.tg_law_replies.proofs.Books.Commands.{Refuses, Takes', Taking, Nothing, Opening, Putting, Answering, Ending, EndingLater, Dropping, Beginning, Turned, Idles, Works, Takes}
use Rattle.tg_law_replies.proofs.Books.Effects.{IsEnd, IsAsk, OfRecord, Close, Lost, Written, Decided, Told, On, Quits, Closes, Asks, Marks'}
use Rattle.tg_law_replies.proofs.Books.Landed.{LandedTask, Landed, landed_at}
use Rattle.tg_law_replies.proofs.Books.Told.{ToldIn, all_told}
use Rattle.tg_law_replies.proofs.Books.Worlds.{WorldBook, Stepped, Rests, Turns, step, run_book, start_book}
use Rattle.tg_law_walks.proofs.Drafts.Became.{no_some, same_some}
use Rattle.tg_law_walks.proofs.Drafts.Written.{then_next, then_takes, regroup}
use Rattle.tg_law_syncs.proofs.Exact.Finds.{spare_before}
use Rattle.tg_law_headline.proofs.Floors.Tails.{walks_have_tails}
use Rattle.tg_law_syncs.proofs.Follow.Looks.{IsWalk, Looks, SameView, NoneOpen, Walked}
use Rattle.tg_law_syncs.proofs.Follow.Snapshots.{same_asked, no_snapshot, step_sees}
use Rattle.tg_law_walks.proofs.Lists.Reached.{before_reached, goes_later}
use Rattle.tg_law_walks.proofs.Lists.Safe.{safe_before}
use Rattle.tg_law_walks.specs.Lists.Spared.{TrimsWereSpare}
use Rattle.tg_law_walks.proofs.Once.Along.{on_moves}
use Rattle.tg_law_walks.proofs.Once.Ending.{appends_end}
use Rattle.tg_law_walks.proofs.Once.Quieting.{PlainFor, nil_plain, zero_plain, quit_plain}
use Rattle.tg_law_cells.specs.Order.Tails.{ToldTail, ConfirmedTail, IsSettledBelow}
use Rattle.tg_law_cells.specs.Places.Late.{StoodTail}
use Rattle.tg_law_syncs.proofs.Syncs.Later.{grow, late}
use Rattle.tg_law_headline.specs.Trims.Floors.{HasTail}
use Rattle.tg_law_headline.specs.Trims.Spare.{WereSpare}
use Rattle.tg_law_headline.proofs.Points.Answered.{IsTail, AskedAtTail}
use Rattle.tg_law_headline.proofs.Points.Steps.{asks_stepped}

module _ (m : Meaning) where
  -- a tail that was confirmed
  abbrev pub WasConfirmed : World m → ℕ → Type 0
  WasConfirmed w s = (epoch : ℕ) × ConfirmedTail m w w epoch s

  -- What was confirmed in a world is confirmed in a later one.
  module _ (h : Header) (zs : Moves m) (r : Reaches m h zs (after m h zs)) (xs ys : Moves m) (split : zs ≡ xs ++ ys) where
    abbrev u : World m
    u = after m h xs

    abbrev v : World m
    v = after m h zs

    sent : (x : Packet) → Sent m u x → Sent m v x
    sent x i = contained v.packets x (grow m h zs r xs ys split x (got u.packets x i))

    below : (epoch tail : ℕ) → IsSettledBelow m u epoch tail → IsSettledBelow m v epoch tail
    below epoch tail s = record { below = s.below; is = s.is; cell = s.cell; settled = late m h zs r xs ys split s.below s.cell s.settled; early = s.early }

    confirmed_since : (epoch tail : ℕ) → ConfirmedTail m u u epoch tail → ConfirmedTail m u v epoch tail
    confirmed_since epoch tail t = record {
      some = t.some;
      layout = t.layout;
      decided = (decided_stays m h xs u v (before_reached m h zs r xs ys split) (goes_later m h zs r xs ys split)).stays epoch t.layout t.decided;
      told = t.told;
      confirmed = by t.confirmed;
    }
      where
        by : (tail ≤ t.layout.start) ⊎ IsSettledBelow m u epoch tail → (tail ≤ t.layout.start) ⊎ IsSettledBelow m v epoch tail
        by (inl le) = inl le
        by (inr s) = inr (below epoch tail s)

    -- by a layout that was decided there
    pub stood_since : (epoch tail : ℕ) → ConfirmedTail m u u epoch tail → StoodTail m u v epoch tail
    unfolding confirmed_since
    stood_since epoch tail t = record { confirmed = confirmed_since epoch tail t; stood = t.decided }

    told_later : (s epoch tail : ℕ) → ToldTail m u s epoch tail → ToldTail m v s epoch tail
    told_later s epoch tail t = record {
      streams = t.streams;
      links = t.links;
      ask = t.ask;
      answer = t.answer;
      asked = sent t.ask t.asked;
      answered = sent t.answer t.answered;
      to_seqr = t.to_seqr;
      from_seqr = t.from_seqr;
      back = t.back;
      number = t.number;
      asks = t.asks;
      tells = t.tells;
    }

    pub confirmed_later : (s : ℕ) → WasConfirmed u s → WasConfirmed v s
    confirmed_later s t =
        let c = confirmed_since t.0 s t.1 in
        (t.0, record { some = c.some; layout = c.layout; decided = c.decided; told = told_later c.layout.seq t.0 s c.told; confirmed = c.confirmed })

  -- Open transactions.

  -- the snapshot of each is such a tail
  abbrev OpenAtTails : World m → Type 0
  OpenAtTails w = (k : ℕ) (t : Tx) (s : ℕ) → (client m w k).tx ≡ Some t → t.snapshot ≡ Some s → WasConfirmed w s

  module _ (h : Header) (zs : Moves m) (r : Reaches m h zs (after m h zs)) (trims : TrimsWereSpare m h zs) where
    module _ (xs : Moves m) (e : EventOf m) (ys : Moves m) (split : zs ≡ xs ++ Moves' e ∷ ys) where
      abbrev w : World m
      w = after m h xs

      abbrev next : World m
      next = happens m w e

      reach : Reaches m h xs w
      reach = before_reached m h zs r xs (Moves' e ∷ ys) split

      books : WorldBook m w
      books = run_book m xs (start m h) (start_book m h)

      spare : WereSpare m h xs
      spare = record {
        were = spare_before m h zs xs (Moves' e ∷ ys) trims split (safe_before m h zs r trims xs (Moves' e ∷ ys) split);
        now = trims.spare w (record { before = xs; event = e; later = ys; split = split; is = refl });
      }

      ends : EachEvent m h.objects (entries_in m w) (HasTail m w) w e
      ends = walks_have_tails m h xs w e reach spare

      -- an ask that waits is answered at a confirmed tail
      answered : (k : ℕ) (v : Work m) (of t : Tx) (s : ℕ) → (client m w k).work ≡ Some v → IsAsk m v.command → (client m w k).tx ≡ Some of → of.snapshot ≡ None → (client m next k).tx ≡ Some t → t.snapshot ≡ Some s → WasConfirmed w s
      answered k v of t s has i from first is snap = by (step_sees m w e k).0
        where
          same : {X : Type 0} → (client m next k).tx ≡ (client m w k).tx → X
          same g = no_snapshot m of s first (ap (λ (z : Tx). z.snapshot) (same_some of t (sym from ∙ (sym g ∙ is))) ∙ snap)

          kept : ((client m next k).tx ≡ (client m w k).tx) ⊎ ((client m next k).tx ≡ None) → WasConfirmed w s
          kept (inl g) = same g
          kept (inr g) = no_some t (sym g ∙ is)

          tail : IsTail m h.objects (entries_in m w) (HasTail m w) s → WasConfirmed w s
          tail x = (x.holds.epoch, subst (ConfirmedTail m w w x.holds.epoch) x.tail x.holds.tail)

          at_tail : AskedAtTail m h.objects (entries_in m w) (HasTail m w) (client m w k).tx (client m next k) → WasConfirmed w s
          at_tail (inl g) = same g
          at_tail (inr f) = tail (f t s is snap)

          by : Looks m (client m w k) (client m next k) → WasConfirmed w s
          by (SameView g f) = kept (f v has)
          by (NoneOpen g) = no_some of (sym g ∙ from)
          by (Walked x g j f) = at_tail (asks_stepped m h.objects (entries_in m w) (HasTail m w) w e ends k v has i (subst (λ (z : Work m). IsWalk m (task_in m z.hand)) (same_some x v (sym g ∙ has)) j))

      module _ (open' : OpenAtTails w) (k : ℕ) (t : Tx) (s : ℕ) (is : (client m next k).tx ≡ Some t) (snap : t.snapshot ≡ Some s) where
        abbrev c : Client m
        c = client m w k

        stays : c.tx ≡ Some t → WasConfirmed w s
        stays has = open' k t s has snap

        -- of a transaction that another one comes from, with this snapshot
        stood : (of : Tx) → c.tx ≡ Some of → of.snapshot ≡ Some s → WasConfirmed w s
        stood of has at = open' k of s has at

        of_taking : {x : CommandOf m} (z : Moved m) → (client m next k).tx ≡ z.now.tx → Taking m c x z → WasConfirmed w s
        of_taking z g (Nothing st idle ns) = stays (sym st.0 ∙ (sym g ∙ is))
        of_taking z g (Opening p) = no_snapshot m t s (ap (λ (y : Tx). y.snapshot) (sym (same_some (open_tx (c.begun + 1)) t (sym p.tx ∙ (sym g ∙ is))))) snap
        of_taking z g (Putting p) = stood p.of p.from (ap (λ (y : Tx). y.snapshot) (same_some (tx_put p.of (write_of m p.oid p.op)) t (sym p.tx ∙ (sym g ∙ is))) ∙ snap)
        of_taking z g (Answering a) = stood a.of a.from (a.first ∙ (ap (λ (y : Tx). y.snapshot) (same_some (tx_read a.of (record { oid = a.oid; part = m.look a.ask; version = a.version }) a.at) t (sym a.tx ∙ (sym g ∙ is))) ∙ snap))
        of_taking z g (Ending d) = no_some t (sym d.tx ∙ (sym g ∙ is))
        of_taking z g (EndingLater d) = stays (sym d.same.0 ∙ (sym g ∙ is))
        of_taking z g (Dropping d) = no_some t (sym d.tx ∙ (sym g ∙ is))
        of_taking z g (Beginning b) = stays (sym b.same.0 ∙ (sym g ∙ is))

        of_turn : (z : Moved m) → (client m next k).tx ≡ z.now.tx → Turned m c z → WasConfirmed w s
        of_turn z g (Idles st same notes) = stays (sym st.0 ∙ (sym g ∙ is))
        of_turn z g (Works v end has (On st notes y at same on)) = stays (sym st.0 ∙ (sym g ∙ is))
        of_turn z g (Works v end has (Quits st idle q)) = stays (sym st.0 ∙ (sym g ∙ is))
        of_turn z g (Works v end has (Closes st idle i what notes q)) = no_some t (sym st.0 ∙ (sym g ∙ is))
        of_turn z g (Works v end has (Asks a)) = answered k v a.of t s has a.is_ask a.from ((books k).first v a.of has a.is_ask a.from) is snap
        of_turn z g (Works v end has (Marks' x)) = stays (sym x.tx ∙ (sym g ∙ is))
        of_turn z g (Takes x (Refuses why i d)) = stays (sym (ap (λ (y : Moved m). y.now.tx) d) ∙ (sym g ∙ is))
        of_turn z g (Takes x (Takes' free fine y)) = of_taking z g y

        of_step : Stepped m k e w next → WasConfirmed w s
        of_step (Rests g y f alone) = stays (ap (λ (d : Client m). d.tx) (sym g) ∙ is)
        of_step (Turns z y f a g traced) = of_turn z (ap (λ (d : Client m). d.tx) g) y

      shifted : zs ≡ (xs ++ Moves' e ∷ []) ++ ys
      shifted = split ∙ sym (regroup m xs (Moves' e ∷ []) ys)

      stepped : OpenAtTails w → OpenAtTails (after m h (xs ++ Moves' e ∷ []))
      stepped open' k t s is snap =
          confirmed_later h (xs ++ Moves' e ∷ []) (before_reached m h zs r (xs ++ Moves' e ∷ []) ys shifted) xs (Moves' e ∷ []) refl s
          (of_step open' k t s (subst (λ (v : World m). (client m v k).tx ≡ Some t) (then_takes m h xs e) is) snap (step m w e books k))

    counted : (xs rest : Moves m) → zs ≡ xs ++ Counts ∷ rest → OpenAtTails (after m h xs) → OpenAtTails (after m h (xs ++ Counts ∷ []))
    counted xs rest split open' k t s is snap =
        confirmed_later h (xs ++ Counts ∷ []) (before_reached m h zs r (xs ++ Counts ∷ []) rest (split ∙ sym (regroup m xs (Counts ∷ []) rest))) xs (Counts ∷ []) refl s
        (open' k t s (subst (λ (v : World m). (client m v k).tx ≡ Some t) (then_next m h xs) is) snap)

    on_move : (xs : Moves m) (x : Move m) (rest : Moves m) → zs ≡ xs ++ x ∷ rest → OpenAtTails (after m h xs) → OpenAtTails (after m h (xs ++ x ∷ []))
    on_move xs Counts rest split open' = counted xs rest split open'
    on_move xs (Moves' e) rest split open' = stepped xs e rest split open'

    new_open : (j : ℕ) (t : Tx) → (new_client m h j).tx ≡ Some t → ⊥
    unfolding new_client
    new_open j t is = no_some t is

    start_open : OpenAtTails (after m h [])
    unfolding run start
    start_open k t s is snap = absurd (at_map (new_client m h) (numbers h.clients 0) k (new_client m h k) (λ (x : Client m). x.tx ≡ Some t → ⊥) (λ j. new_open j t) (new_open k t) is)

    pub open_at_tails : (xs ys : Moves m) → zs ≡ xs ++ ys → OpenAtTails (after m h xs)
    open_at_tails xs ys split = on_moves m h zs r (λ (us : Moves m). OpenAtTails (after m h us)) on_move [] xs ys split start_open

    -- What was asked.

    ends_so : RecordsEnd m h zs (after m h zs)
    ends_so = appends_end m h zs (after m h zs) r trims.safe

    module _ (k x : ℕ) (positive : 0 < x) (o : Oid) (q : m.ask) (s : ℕ) (a : m.answer) (t : ToldIn m h zs k x (told.Asked o q s a)) where
      abbrev before : World m
      before = after m h t.before

      abbrev of : Client m
      of = client m before k

      landed : Landed m (entries_in m (after m h zs)) k of
      landed = landed_at m h zs ends_so t.before (Moves' t.event ∷ t.after) t.split k

      abbrev NotAsked : WhatOf m → Type 0
      NotAsked (told.Asked p y n b) = ⊥
      NotAsked what = Unit {0}

      NoneAsked : List (NoteOf m) → Type 0
      NoneAsked [] = Unit {0}
      NoneAsked (n ∷ ns) = NotAsked n.what × NoneAsked ns

      none_asked : (ns : List (NoteOf m)) (n : NoteOf m) → NoneAsked ns → Has ns n → NotAsked n.what
      unfolding NoneAsked
      none_asked [] n z i = absurd i
      none_asked (y ∷ ns) n z (inl g) = subst (λ (v : NoteOf m). NotAsked v.what) (sym g) z.0
      none_asked (y ∷ ns) n z (inr i) = none_asked ns n z.1 i

      no : {X : Type 0} (ns : List (NoteOf m)) → t.moved.notes ≡ ns → NoneAsked ns → X
      no ns g z = absurd (subst NotAsked t.says (none_asked ns t.note z (subst (λ (ys : List (NoteOf m)). Has ys t.note) g t.here)))

      plain : {X : Type 0} → PlainFor m x t.moved.notes → X
      plain p = absurd (subst (IsPlain m) t.says (p t.note t.here t.number))

      one : (n : NoteOf m) → t.moved.notes ≡ n ∷ [] → t.note ≡ n
      one n g = by (subst (λ (ys : List (NoteOf m)). Has ys t.note) g t.here)
        where
          by : Has (n ∷ []) t.note → t.note ≡ n
          by (inl z) = z
          by (inr z) = absurd z

      -- where this is the only note
      asked_so : (n : ℕ) (o' : Oid) (q' : m.ask) (s' : ℕ) (a' : m.answer) → t.moved.notes ≡ note m n (told.Asked o' q' s' a') ∷ [] → s' ≡ s
      asked_so n o' q' s' a' g = same_asked m o' o q' q s' s a' a t.note.what (told.Asked o q s a) (ap (λ (y : NoteOf m). y.what) (one (note m n (told.Asked o' q' s' a')) g)) refl t.says

      abbrev Result : Type 0
      Result = WasConfirmed (after m h zs) s

      told_taking : {y : CommandOf m} → Taking m of y t.moved → Result
      unfolding NoneAsked
      told_taking (Nothing st idle z) = plain (zero_plain m x t.moved.notes positive z)
      told_taking (Opening p) = no _ p.notes (tt, tt)
      told_taking (Putting p) = no _ p.notes (tt, tt)
      told_taking (Answering d) =
          let at = asked_so d.of.number d.oid d.ask d.at d.answer d.notes in
          confirmed_later h zs r t.before (Moves' t.event ∷ t.after) t.split s (open_at_tails t.before (Moves' t.event ∷ t.after) t.split k d.of s d.from (d.first ∙ ap Some at))
      told_taking (Ending d) = no _ d.notes (tt, (tt, tt))
      told_taking (EndingLater d) = no _ d.notes (tt, tt)
      told_taking (Dropping d) = no _ d.notes (tt, tt)
      told_taking (Beginning b) = plain (nil_plain m x t.moved.notes b.notes)

      then_split : zs ≡ (t.before ++ Moves' t.event ∷ []) ++ t.after
      then_split = t.split ∙ sym (regroup m t.before (Moves' t.event ∷ []) t.after)

      closing : (y : Work m) (end : Option AppendEnd) (what : WhatOf m) → of.work ≡ Some y → IsEnd m y.command → what ≡ told.Asked o q s a → Close m of y end what → Result
      closing y end what has i g (Lost b z p n at rec f) = absurd (subst NotAsked g tt)
      closing y end what has i g (Written b p page at f) = absurd (subst NotAsked g tt)
      closing y end what has i g (Decided b what' at) = absurd (subst (OfRecord m y.at) g (subst (LandedTask m (entries_in m (after m h zs)) k of.tx y.at) at (landed y has i)).1)
      closing y end what has i g (Told what' idle rec) = absurd (subst (OfRecord m y.at) g rec)

      told_turn : Turned m of t.moved → Result
      unfolding NoneAsked
      told_turn (Idles st same notes) = plain (nil_plain m x t.moved.notes notes)
      told_turn (Works y end has (On st notes z at same on)) = plain (nil_plain m x t.moved.notes notes)
      told_turn (Works y end has (Quits st idle z)) = plain (quit_plain m of y end x positive t.moved.notes z)
      told_turn (Works y end has (Closes st idle i what notes z)) = closing y end what has i (sym (ap (λ (n : NoteOf m). n.what) (one _ notes)) ∙ t.says) z
      told_turn (Works y end has (Asks d)) =
          let at = asked_so d.of.number d.oid d.ask d.tail d.answer d.notes in
          let tx : Tx = tx_read d.of (record { oid = d.oid; part = m.look d.ask; version = d.version }) d.tail in
          confirmed_later h zs r (t.before ++ Moves' t.event ∷ []) t.after then_split s
          (open_at_tails (t.before ++ Moves' t.event ∷ []) t.after then_split k tx s
          (subst (λ (w : World m). (client m w k).tx ≡ Some tx) (sym (then_takes m h t.before t.event)) (ap (λ (c : Client m). c.tx) t.now ∙ d.tx)) (ap Some at))
      told_turn (Works y end has (Marks' z)) = no _ z.notes (tt, (tt, (tt, tt)))
      told_turn (Takes y (Refuses why i g)) = no _ (ap (λ (z : Moved m). z.notes) g) (tt, tt)
      told_turn (Takes y (Takes' free fine z)) = told_taking z

    pub asked_at_tails : (k x : ℕ) (o : Oid) (q : m.ask) (s : ℕ) (a : m.answer) → Tells m (trace m (after m h zs)) k x (told.Asked o q s a) → WasConfirmed (after m h zs) s
    asked_at_tails k x o q s a t =
        let u : MarkOf m = record { event = t.event; client = k; tx = x; what = told.Asked o q s a } in
        let told = all_told m h zs u (has_contained (trace m (after m h zs)) u t.here) in
        told_turn k x t.number o q s a told told.turn
