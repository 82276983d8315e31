-- Through a client's turn: of its pages for one kind of body and number all but one were given up.
use Rattle.std.proofs.Common.{◌≡◌, ◌⊎◌, ℕ, ◌+◌, ◌<◌, ◌≤◌, List, ◌++◌, length, map, true, refl, sym, ap, ◌∙◌, subst, inl, inr, arith, Option, Some, None}
use Rattle.tg_base.specs.Layouts.{Layout}
use Rattle.tg_base.specs.Clusters.{Header}
use Rattle.tg_base.specs.declared.cell.Cell.TheVariants.{Data}
use Rattle.tg_base.specs.declared.marks.StreamLink.{StreamLink}
use Rattle.tg_base.specs.declared.msg.Msg.{Msg}
use Rattle.tg_base.specs.declared.msg.Msg.TheVariants as msg
use Rattle.tg_base.specs.declared.packet.Out.{Out}
use Rattle.tg_base.specs.declared.packet.Packet.{Packet}
use Rattle.tg_entry.specs.declared.entry.Entry.{Entry}
use Rattle.tg_entry.specs.declared.entry.Head.{Head}
use Rattle.tg_entry.specs.Format.{tag_of}
use Rattle.tg_entry.specs.Format as format
use Rattle.tg_append.proofs.Pages.{linked_fits}
use Rattle.tg_kind.specs.Meaning.{Meaning}
use Rattle.tg_model.specs.Traces.{Trace}
use Rattle.tg_protocol.specs.Words.{client_id}
use Rattle.tg_protocol.specs.Entries.{streams_of}
use Rattle.tg_entry.specs.Records.{linked}
use Rattle.tg_protocol.specs.Pages.{page_of, entry_of}
use Rattle.tg_protocol.specs.Requests.{awaits, Next, Goes}
use Rattle.tg_protocol.specs.Replies.{IsLatest, reply}
use Rattle.tg_protocol.specs.Cells.{Place, place_in, unit_at, Puts, CellJob, Done}
use Rattle.tg_protocol.specs.Appending.{names_all, AppendWork, Asking, Putting, Judging, Token, Append, AppendEnd, append_asks, append_feed, append_again}
use Rattle.tg_protocol.specs.Transactions.{Tx}
use Rattle.tg_protocol.specs.Clients.{Appending, Hand, Doing, Work, Client, refusal}
use Rattle.tg_protocol.specs.Answers.{Moved}
use Rattle.tg_protocol.specs.ClientSteps.{task_in, feed, refused_or, ClientTurn, called}
use Rattle.tg_protocol.specs.Worlds.{World, packet_of, trace}
use Rattle.tg_protocol.specs.Runs.{Moves, LawfulCommand, Reaches}
use Rattle.tg_law_layouts.specs.Moves.After.{after}
use Rattle.tg_law_layouts.specs.Moves.Configs.{Config, config, client_in}
use Rattle.tg_law_layouts.proofs.Moves.Lists.{contained}
use Rattle.tg_law_layouts.proofs.Moves.Members.{Has, has_either, has_map}
use Rattle.tg_law_layouts.proofs.Moves.Moves.{Comes, ClientInput, Commanded, Hears', Ticks', Given}
use Rattle.tg_law_layouts.specs.Layouts.Decisions.{LayoutsKnown, TellsDecided, IsOfDecided}
use Rattle.tg_law_layouts.proofs.Layouts.Deciding.{layouts_are_known}
use Rattle.tg_law_cells.specs.Cells.Settled.{head}
use Rattle.tg_law_cells.proofs.Cells.Justified.{ToldBy, EndOk}
use Rattle.tg_law_cells.proofs.Cells.Jobs.{JobOk, AppendOk}
use Rattle.tg_law_cells.proofs.Tokens.Jobs as own_jobs
use Rattle.tg_law_cells.proofs.Tokens.Hands as own_hands
use Rattle.tg_law_cells.proofs.Tokens.Pages.{TurnFine, input_fine}
use Rattle.tg_law_cells.proofs.Tokens.Puts.{HandPuts}
use Rattle.tg_law_cells.proofs.Tokens.Linked.{some_entry, read_back}
use Rattle.tg_law_cells.proofs.Tokens.Own.{low_of, both_hold}
use Rattle.tg_law_replies.proofs.Books.Effects.{IsRecord}
use Rattle.tg_law_replies.proofs.Books.Commands.{Turned, Takes, delivered, commanding}
use Rattle.tg_law_replies.proofs.Books.Worlds.{commanded_as, delivered_as, tick_of}
use Rattle.tg_law_replies.proofs.Books.Turns.{BookOf, turned}
use Rattle.tg_law_replies.proofs.Replies.Books.{mark}
use Rattle.tg_law_replies.proofs.Replies.Turns.{feed_keeps, again_keeps}
use Rattle.tg_law_walks.proofs.Drafts.Sound.{IsAsking, Kind, OfRecord, OfDecision, OfCheckpoint}
use Rattle.tg_law_walks.proofs.Drafts.Became.{no_some, Holds, NextIs, Became, Fresh, Same, Fed, Again, became, same_append, held_in}
use Rattle.tg_law_walks.proofs.Drafts.Clients.{State, few_in, Grown, hand_grown}
use Rattle.tg_law_walks.proofs.Drafts.Clients as drafts
use Rattle.tg_law_walks.proofs.Drafts.Drafting.{Fitting, Whole, Saving}
use Rattle.tg_law_walks.proofs.Drafts.Drafts.{twin_of}
use Rattle.tg_law_walks.proofs.Drafts.Heads.{SameHead, head_read}
use Rattle.tg_law_walks.proofs.Drafts.Written.{Written, Ours, PutsOk, next_draft, state_at, short_at, turned_hands}
use Rattle.tg_law_walks.specs.Once.GivenUp.{IsGivenUp}
use Rattle.tg_law_walks.proofs.Once.Feeding.{TokenOk, FedSo, fed_so, AgainSo, again_so}
use Rattle.tg_law_walks.proofs.Once.Feeding as feeding
use Rattle.tg_law_walks.proofs.Once.Reached.{header, give, short, decided_later, told_later, ends_settle, reach_at, append_ok, claims_of}
use Rattle.tg_law_walks.proofs.Once.Turning.{commit_tag, NotEnding, record_number, record_ends, record_of, record_tag, Starts, OfOpen, OfMark, starts, Opened, Was, New, Ran, RanFull, opened}
use Rattle.tg_law_walks.proofs.Once.Filling.{fed_idle, command_waits, tick_waits}

-- A page that a client has sent among these packets, and the entry that it reads as.
pub record Put (ps : List Packet) (k : ℕ) : Type 0 where
  pub packet : Packet
  pub sent : Has ps packet
  pub from : packet.from ≡ client_id k
  pub epoch : ℕ
  pub pos : ℕ
  pub page : List ℕ
  pub is : packet.msg ≡ msg.Write epoch pos page
  pub entry : Entry
  pub reads : entry_of page ≡ Some entry

-- among fewer packets
abbrev pub put_among : (ps qs : List Packet) (k : ℕ) → (x : Put qs k) → Has ps x.packet → Put ps k
put_among ps qs k x g = record { packet = x.packet; sent = g; from = x.from; epoch = x.epoch; pos = x.pos; page = x.page; is = x.is; entry = x.entry; reads = x.reads }

-- an entry of a draft's kind and number
abbrev pub OfKind : Entry → Entry → Type 0
OfKind e d = (tag_of e.body ≡ tag_of d.body) × (e.head.number ≡ d.head.number)

module _ (m : Meaning) where
  -- the page is that of the append's token
  pub record InHand (c : Client m) (a : Append) (e p : ℕ) (d : List ℕ) : Type 0 where
    pub of : Token
    pub has : a.token ≡ Some of
    pub pos : p ≡ of.pos
    pub page : d ≡ of.page
    pub epoch : e ≤ c.stand.epoch
    pub puts : (j : CellJob) → a.work ≡ Putting j → e ≡ j.place.epoch

  -- the token's page is that of the draft with links
  abbrev pub IsDrawn : Append → Token → Type 0
  IsDrawn a t = (ls : List StreamLink) × (names_all (streams_of a.draft) ls ≡ true) × (t.page ≡ page_of (linked a.draft ls))

  -- a number that a client has begun
  pub record Counted (c : Client m) (e : Entry) : Type 0 where
    pub commit : tag_of e.body ≡ 1 → e.head.number ≤ c.begun
    pub decision : tag_of e.body ≡ 2 → e.head.number ≤ c.decisions
    pub checkpoint : tag_of e.body ≡ 3 → e.head.number ≤ c.checkpoints

  abbrev pub Bounded : Client m → Entry → Type 0
  Bounded c d = (tag_of d.body ≡ 2 → d.head.number ≤ c.decisions) × (tag_of d.body ≡ 3 → d.head.number ≤ c.checkpoints)

  two_tags : {X : Type 0} (a b n : ℕ) → n ≡ a → n ≡ b → (a ≡ b → ⊥) → X
  two_tags a b n e f isnt = absurd (isnt (sym e ∙ f))

  -- a record fits the format
  pub whole : (d : Entry) → Fitting d → tag_of d.body ≡ 1 → format.entry.fits d ≡ true
  whole d (Whole f) tag = f
  whole d (Saving saves t) tag = two_tags 3 1 (tag_of d.body) saves tag (λ f. omega (arith, f))

  -- Of each client: its pages for one kind of body and number were given up but for one position; those for an append in
  -- hand but that of its token; and those of an open transaction, unless its end waits.
  module _ (w : World m) where
    abbrev pub Dead : ℕ → ℕ → List ℕ → Type 0
    Dead e p d = IsGivenUp m w e p d

    pub record SpentOf (ps : List Packet) (k : ℕ) (c : Client m) : Type 0 where
      pub pairs : (x y : Put ps k) → tag_of x.entry.body ≡ tag_of y.entry.body → x.entry.head.number ≡ y.entry.head.number → Dead x.epoch x.pos x.page ⊎ (Dead y.epoch y.pos y.page ⊎ (x.pos ≡ y.pos))
      pub hands : (a : Append) → Holds m c a → (x : Put ps k) → OfKind x.entry a.draft → Dead x.epoch x.pos x.page ⊎ InHand c a x.epoch x.pos x.page
      pub tokens : (a : Append) → Holds m c a → TokenOk a
      pub drawn : (a : Append) → Holds m c a → (t : Token) → a.token ≡ Some t → IsDrawn a t
      pub bounds : (a : Append) → Holds m c a → Bounded c a.draft
      pub unended : (t : Tx) → c.tx ≡ Some t → NotEnding m c → (x : Put ps k) → tag_of x.entry.body ≡ 1 → x.entry.head.number ≡ t.number → Dead x.epoch x.pos x.page
      pub below : (x : Put ps k) → Counted c x.entry

    -- among packets of which this client has sent no more
    pub fewer : (ps qs : List Packet) (k : ℕ) (c : Client m) → ((x : Packet) → Has qs x → x.from ≡ client_id k → Has ps x) → SpentOf ps k c → SpentOf qs k c
    fewer ps qs k c f s = record {
      pairs = λ x y. s.pairs (put_among ps qs k x (f x.packet x.sent x.from)) (put_among ps qs k y (f y.packet y.sent y.from));
      hands = λ a o x. s.hands a o (put_among ps qs k x (f x.packet x.sent x.from));
      tokens = s.tokens;
      drawn = s.drawn;
      bounds = s.bounds;
      unended = λ t is none x. s.unended t is none (put_among ps qs k x (f x.packet x.sent x.from));
      below = λ x. s.below (put_among ps qs k x (f x.packet x.sent x.from));
    }

-- A turn of a client, as one of its books.
pub record TurnOf (m : Meaning) (c : Client m) (u : ClientTurn m) : Type 0 where
  pub moved : Moved m
  pub turn : Turned m c moved
  pub now : u.now ≡ called m moved.now
  pub full : (a : Append) → (o : Holds m c a) → TokenOk a → IsRecord m o.purpose → moved.now.work ≡ None → (t : Tx) → moved.now.tx ≡ Some t → a.token ≡ None

pub turn_of : (m : Meaning) (g : Config m) (k : ℕ) (tr : Trace m) → BookOf m k tr (client_in m g k) → (u : ClientTurn m) → ClientInput m g k u → TurnOf m (client_in m g k) u
turn_of m g k tr book u (Commanded x) = record {
  moved = refused_or m (client_in m g k) x (refusal m (client_in m g k) x);
  turn = Takes x (commanding m (client_in m g k) x);
  now = commanded_as m (client_in m g k) x;
  full = λ a o ok rec idle t open'. command_waits m (client_in m g k) a o x idle;
}
turn_of m g k tr book u (Hears' p comes) =
    let d = delivered m (client_in m g k) p.from p.rid p.msg book.suits in
    record {
      moved = feed m (client_in m g k) (client_in m g k).work p.from p.rid (reply p.msg);
      turn = d.turned;
      now = delivered_as m (client_in m g k) p;
      full = λ a o ok rec idle t open'. fed_idle m (client_in m g k) a o ok rec (book.suits o.work o.has) p.from p.rid t (reply p.msg) idle open';
    }
turn_of m g k tr book u Ticks' =
    let t = tick_of m (client_in m g k) in
    record { moved = t.makes; turn = t.turned; now = t.now; full = λ a o ok rec idle v open'. no_some o.work (sym idle ∙ (ap (λ (d : Client m). d.work) (sym t.now) ∙ (tick_waits m (client_in m g k) ∙ o.has))) }

is_latest : (y : Msg) (q : Layout) → reply y ≡ IsLatest q → y ≡ msg.Latest q
unfolding reply
is_latest y q e = grind arith

same_puts : (r s i j : ℕ) (d x : List ℕ) → Puts r d i ≡ Puts s x j → d ≡ x
same_puts r s i j d x e = cc

same_job : (j k : CellJob) → Putting j ≡ Putting k → j ≡ k
same_job j k e = cc

same_token : (s t : Token) → Some s ≡ Some t → s ≡ t
same_token s t e = cc

module _ (m : Meaning) (h : Header) (zs : Moves m) (reach : Reaches m h zs (after m h zs)) (xs ys : Moves m) (split : zs ≡ xs ++ ys) where
  abbrev w : World m
  w = after m h zs

  abbrev g : Config m
  g = config m (after m h xs)

  abbrev ps : List Packet
  ps = (after m h xs).packets

  state : State m h (after m h xs)
  state = state_at m h zs (header m h zs reach) (give m h zs reach) (short m h zs reach) xs ys split

  abbrev IsWritten : Type 0
  IsWritten = Written m h zs (header m h zs reach) (give m h zs reach) (short m h zs reach) g

  known_here : LayoutsKnown m (after m h xs)
  known_here = layouts_are_known m h xs (after m h xs) (reach_at m h zs reach xs ys split)

  module _ (w' : IsWritten) (k : ℕ) (s : SpentOf m w ps k (client_in m g k)) (u : ClientTurn m) (i : ClientInput m g k u) (lawful : Given m (LawfulCommand m) g k u i) (less : k < length (after m h xs).clients) where
    abbrev c : Client m
    c = client_in m g k

    abbrev new : List Packet
    new = map (packet_of m (client_id k)) u.sends

    abbrev tr : Trace m
    tr = trace m (after m h xs)

    book : BookOf m k tr c
    book = state.book k

    of : TurnOf m c u
    of = turn_of m g k tr book u i

    book_now : BookOf m k (tr ++ map (mark m (after m h xs).event k) of.moved.notes) of.moved.now
    book_now = turned m k (after m h xs).event tr c book of.moved of.turn

    grown : Grown m c u.now
    grown = let x = drafts.turned m g k u i lawful (few_in m h (header m h zs reach) (after m h xs) (short_at m h zs (header m h zs reach) (give m h zs reach) (short m h zs reach) xs ys split) state k less) (state.clients.sound k) in
        subst (λ (d : Client m). Grown m c d) (sym x.now) (regrown x.made (hand_grown m c x.made c.work x.made.work x.good.comes))
      where
        regrown : (d : Client m) → Grown m c d → Grown m c (record d { calls = d.calls + 1 })
        regrown d x = record { decisions = x.decisions; one = x.one; checkpoints = x.checkpoints; other = x.other }

    begun_grows : c.begun ≤ u.now.begun
    begun_grows = let x = drafts.turned m g k u i lawful (few_in m h (header m h zs reach) (after m h xs) (short_at m h zs (header m h zs reach) (give m h zs reach) (short m h zs reach) xs ys split) state k less) (state.clients.sound k) in
        let e = ap (λ (d : Client m). d.begun) x.now in let b = x.good.begun.0 in omega (arith, e, b)

    came : (b : Append) → Holds m u.now b → Became m g k u.now b
    came b o = became m g k u i lawful (few_in m h (header m h zs reach) (after m h xs) (short_at m h zs (header m h zs reach) (give m h zs reach) (short m h zs reach) xs ys split) state k less) (state.clients.sound k) b o

    -- the client as its books have it
    in_books : (b : Append) → Holds m u.now b → Holds m of.moved.now b
    in_books b o = let x = subst (λ (d : Client m). Holds m d b) of.now o in record { work = x.work; purpose = x.purpose; has = x.has; holds = x.holds }

    fine : TurnFine m ps (client_id k) u
    fine = input_fine m g (low_of m g (both_hold m h xs).0) (both_hold m h xs).1 k u i

    -- A page that is sent in this turn is of the append that is then in hand.

    pub record IsNew (e p : ℕ) (d : List ℕ) (y : Entry) : Type 0 where
      pub append : Append
      pub holds : Holds m u.now append
      pub job : CellJob
      pub works : append.work ≡ Putting job
      pub rid : ℕ
      pub index : ℕ
      pub puts : job.work ≡ Puts rid d index
      pub epoch : e ≡ job.place.epoch
      pub at : p ≡ job.place.pos
      pub stands : e ≡ u.now.stand.epoch
      pub kind : OfKind y append.draft
      pub spelled : tag_of y.body ≡ 1 → (ls : List StreamLink) × (y ≡ linked append.draft ls)

    new_of : (o : Out) → Has u.sends o → (e p : ℕ) (d : List ℕ) → o.msg ≡ msg.Write e p d → (y : Entry) → entry_of d ≡ Some y → IsNew e p d y
    new_of o has e p d is y reads = record {
      append = f.append;
      holds = holds;
      job = f.job;
      works = f.putting;
      rid = f.puts.rid;
      index = f.puts.index;
      puts = f.puts.puts;
      epoch = f.puts.epoch;
      at = f.puts.at;
      stands = f.puts.epoch ∙ ap (λ (a : Place). a.epoch) job.place;
      kind = (alike.tag ∙ ap (λ (x : Entry). tag_of x.body) ours.1, ap (λ (x : Head). x.number) alike.head ∙ ap (λ (x : Entry). x.head.number) ours.1);
      spelled = λ tag. (ours.0.links, same_entry tag);
    }
      where
        f : HandPuts m u.now e p d
        f = fine.puts o has e p d is

        holds : Holds m u.now f.append
        holds = record { work = f.work; purpose = f.purpose; has = f.has; holds = ap (task_in m) f.doing }

        job : own_jobs.JobOk ps (own_jobs.Mine ps (client_id k) u.now.stand) u.now.stand f.job
        job = subst (λ (a : AppendWork). own_jobs.AppendOk ps (client_id k) u.now.stand a) f.putting
            (subst (λ (x : Hand m). own_hands.HandOk m ps (client_id k) u.now.stand x) f.doing (subst (λ (x : Option (Work m)). own_hands.WorkOk m ps (client_id k) u.now.stand x) f.has fine.ok))

        puts_ok : PutsOk m h zs (header m h zs reach) (give m h zs reach) (short m h zs reach) k f.append.draft (Putting f.job)
        puts_ok = subst (λ (a : AppendWork). PutsOk m h zs (header m h zs reach) (give m h zs reach) (short m h zs reach) k f.append.draft a) f.putting
            (turned_hands m h zs (header m h zs reach) (give m h zs reach) (short m h zs reach) xs ys split w' k u i lawful less f.append holds)

        ours : Ours m h zs (header m h zs reach) (give m h zs reach) (short m h zs reach) k f.append.draft f.job.place.epoch f.job.place.pos d
        ours = puts_ok f.puts.rid d f.puts.index f.puts.puts

        alike : SameHead (linked ours.0.append.draft ours.0.links) y
        alike = head_read (linked ours.0.append.draft ours.0.links) y (twin_of ours.0.append.draft ours.0.links ours.0.names ours.0.ok.fits) (ap entry_of (sym ours.0.page) ∙ reads)

        same_entry : tag_of y.body ≡ 1 → y ≡ linked f.append.draft ours.0.links
        same_entry tag =
            let fits = linked_fits ours.0.append.draft ours.0.links ours.0.names (whole m ours.0.append.draft ours.0.ok.fits (sym alike.tag ∙ tag)) in
            some_entry y (linked ours.0.append.draft ours.0.links) (sym reads ∙ read_back (linked ours.0.append.draft ours.0.links) d fits ours.0.page) ∙ ap (λ (x : Entry). linked x ours.0.links) ours.1

    abbrev Then : Type 0
    Then = Put (ps ++ new) k

    pub either : (x : Then) → Has ps x.packet ⊎ IsNew x.epoch x.pos x.page x.entry
    either x = by (has_either ps new x.packet x.sent)
      where
        by : Has ps x.packet ⊎ Has new x.packet → Has ps x.packet ⊎ IsNew x.epoch x.pos x.page x.entry
        by (inl a) = inl a
        by (inr a) = let o = has_map (packet_of m (client_id k)) u.sends x.packet a in inr (new_of o.of o.has x.epoch x.pos x.page (sym (ap (λ (z : Packet). z.msg) o.is) ∙ x.is) x.entry x.reads)

    abbrev was : (x : Then) → Has ps x.packet → Put ps k
    was x a = put_among ps (ps ++ new) k x a

    abbrev DeadAt : Then → Type 0
    DeadAt x = Dead m w x.epoch x.pos x.page

    -- one append is in hand
    one_append : (a b : Append) → Holds m u.now a → Holds m u.now b → a ≡ b
    one_append a b o q = same_append m a b o.purpose q.purpose (sym o.holds ∙ held_in m u.now b o.work o.has q)

    -- What becomes of an append in hand.

    module _ (a : Append) (old : Holds m c a) (x : Packet) (comes : Comes m g x (client_id k)) (doing : old.work.hand ≡ Doing (Appending a old.purpose)) (awaited : awaits (append_asks c.stand a) x.from x.rid ≡ true) where
      fed : FedSo ps a (append_feed c.stand a a.work x.from.num (reply x.msg) c.next).to
      fed = fed_so ps c.stand a x.from.num x.msg c.next (s.tokens a old) (append_ok m h zs reach xs ys split k a old doing) (claims_of m h zs reach xs ys split k a old doing x comes awaited)

    -- Tokens.

    asking_ok : (b : AppendWork) (o : Option Token) → IsAsking m b → o ≡ None → feeding.WorkToken o b
    asking_ok (Asking r) o a e = e
    asking_ok (Putting j) o a e = absurd a
    asking_ok (Judging j) o a e = absurd a

    fed_token : (a b : Append) → TokenOk a → (n : Next Append AppendEnd) → NextIs b n → FedSo ps a n → TokenOk b
    fed_token a b ok n (inl e) f = by (subst (FedSo ps a) e f)
      where
        by : FedSo ps a (Goes b) → TokenOk b
        by (inl y) = y.ok
        by (inr (inl y)) = y.ok
        by (inr (inr y)) = y.ok
    fed_token a b ok n (inr e) f = subst TokenOk (sym (subst (FedSo ps a) e f)) ok

    again_token : (q : Layout) (a b : Append) (n : Next Append AppendEnd) → NextIs b n → AgainSo q a n → TokenOk b
    again_token q a b n (inl e) f = by (subst (AgainSo q a) e f)
      where
        by : AgainSo q a (Goes b) → TokenOk b
        by (inl y) = y.ok
        by (inr y) = y.ok
    again_token q a b n (inr e) f = absurd (subst (AgainSo q a) e f)

    tokens_now : (b : Append) → Holds m u.now b → TokenOk b
    tokens_now b o = by (came b o)
      where
        by : Became m g k u.now b → TokenOk b
        by (Fresh none asks kind isnt) = asking_ok b.work b.token asks none
        by (Same old stand) = s.tokens b old
        by (Fed a old x comes doing awaited is stand) = fed_token a b (s.tokens a old) _ is (fed a old x comes doing awaited)
        by (Again a old x q comes is node later next stand) = again_token q a b _ next (again_so q a c.next)

    drawn_as : (a b : Append) (t : Token) → b.draft ≡ a.draft → IsDrawn m a t → IsDrawn m b t
    drawn_as a b t e x = (x.0, subst (λ (d : Entry). names_all (streams_of d) x.0 ≡ true) (sym e) x.1, x.2 ∙ ap (λ (d : Entry). page_of (linked d x.0)) (sym e))

    -- a token that has just come
    new_drawn : (b : Append) → Holds m u.now b → (j : CellJob) → b.work ≡ Putting j → (t : Token) → b.token ≡ Some t → IsDrawn m b t
    new_drawn b o j works t is = (
      ours.0.links,
      subst (λ (d : Entry). names_all (streams_of d) ours.0.links ≡ true) ours.1 ours.0.names,
      ap (λ (x : Token). x.page) (same_token t ok.0 (sym is ∙ ok.1)) ∙ (ours.0.page ∙ ap (λ (d : Entry). page_of (linked d ours.0.links)) ours.1),
    )
      where
        ok : feeding.WorkToken b.token (Putting j)
        ok = subst (λ (z : AppendWork). feeding.WorkToken b.token z) works (tokens_now b o)

        puts_ok : PutsOk m h zs (header m h zs reach) (give m h zs reach) (short m h zs reach) k b.draft (Putting j)
        puts_ok = subst (λ (a : AppendWork). PutsOk m h zs (header m h zs reach) (give m h zs reach) (short m h zs reach) k b.draft a) works
            (turned_hands m h zs (header m h zs reach) (give m h zs reach) (short m h zs reach) xs ys split w' k u i lawful less b o)

        ours : Ours m h zs (header m h zs reach) (give m h zs reach) (short m h zs reach) k b.draft j.place.epoch j.place.pos ok.0.page
        ours = puts_ok ok.3.rid ok.0.page ok.3.index ok.3.is

    fed_drawn : (a b : Append) → Holds m u.now b → ((t : Token) → a.token ≡ Some t → IsDrawn m a t) → b.draft ≡ a.draft → (n : Next Append AppendEnd) → NextIs b n → FedSo ps a n → (t : Token) → b.token ≡ Some t → IsDrawn m b t
    fed_drawn a b o f e n (inl z) y t is = by (subst (FedSo ps a) z y)
      where
        by : FedSo ps a (Goes b) → IsDrawn m b t
        by (inl x) = drawn_as a b t e (f t (sym x.token ∙ is))
        by (inr (inl x)) = new_drawn b o x.job x.works t is
        by (inr (inr x)) = no_some t (sym x.none ∙ is)
    fed_drawn a b o f e n (inr z) y t is = let same = subst (FedSo ps a) z y in drawn_as a b t e (f t (sym (ap (λ (x : Append). x.token) same) ∙ is))

    again_drawn : (q : Layout) (a b : Append) → ((t : Token) → a.token ≡ Some t → IsDrawn m a t) → b.draft ≡ a.draft → (n : Next Append AppendEnd) → NextIs b n → AgainSo q a n → (t : Token) → b.token ≡ Some t → IsDrawn m b t
    again_drawn q a b f e n (inl z) y t is = by (subst (AgainSo q a) z y)
      where
        by : AgainSo q a (Goes b) → IsDrawn m b t
        by (inl x) = no_some t (sym x.none ∙ is)
        by (inr x) = drawn_as a b t e (f t (x.had ∙ (sym x.has ∙ is)))
    again_drawn q a b f e n (inr z) y t is = absurd (subst (AgainSo q a) z y)

    drawn_now : (b : Append) → Holds m u.now b → (t : Token) → b.token ≡ Some t → IsDrawn m b t
    drawn_now b o = by (came b o)
      where
        by : Became m g k u.now b → (t : Token) → b.token ≡ Some t → IsDrawn m b t
        by (Fresh none asks kind isnt) t is = no_some t (sym none ∙ is)
        by (Same old stand) t is = s.drawn b old t is
        by (Fed a old x comes doing awaited next stand) t is =
            fed_drawn a b o (s.drawn a old) (next_draft a.draft b (append_feed c.stand a a.work x.from.num (reply x.msg) c.next).to next (feed_keeps c.stand a x.from.num (reply x.msg) c.next)) (append_feed c.stand a a.work x.from.num (reply x.msg) c.next).to next (fed a old x comes doing awaited) t is
        by (Again a old x q comes said node later next stand) t is =
            again_drawn q a b (s.drawn a old) (next_draft a.draft b (append_again q a c.next).to next (again_keeps q a c.next)) (append_again q a c.next).to next (again_so q a c.next) t is

    -- Pages of the append in hand.

    kept_hand : (a b : Append) (e p : ℕ) (d : List ℕ) → b.token ≡ a.token → c.stand.epoch ≤ u.now.stand.epoch → ((j : CellJob) → b.work ≡ Putting j → (l : CellJob) × (a.work ≡ Putting l) × (j.place ≡ l.place)) → InHand m c a e p d → InHand m u.now b e p d
    kept_hand a b e p d same le place x = record {
      of = x.of;
      has = same ∙ x.has;
      pos = x.pos;
      page = x.page;
      epoch = (let y = x.epoch in omega (arith, y, le));
      puts = λ j is. let l = place j is in x.puts l.0 l.1 ∙ ap (λ (z : Place). z.epoch) (sym l.2);
    }

    same_hand : (a : Append) (e p : ℕ) (d : List ℕ) → c.stand.epoch ≤ u.now.stand.epoch → InHand m c a e p d → InHand m u.now a e p d
    same_hand a e p d le x = kept_hand a a e p d refl le (λ j is. (j, is, refl)) x

    -- a token that is given up
    given_up : (a b : Append) (old : Holds m c a) (doing : old.work.hand ≡ Doing (Appending a old.purpose)) (e p : ℕ) (d : List ℕ) → InHand m c a e p d → feeding.Gives ps a b → Dead m w e p d
    given_up a b old doing e p d x y = by y.why
      where
        same : y.of ≡ x.of
        same = same_token y.of x.of (sym y.had ∙ x.has)

        stand : IsOfDecided m w c.stand
        stand = decided_later m h zs reach xs ys split c.stand (known_here.clients k)

        page : d ≡ y.of.page
        page = x.page ∙ ap (λ (z : Token). z.page) (sym same)

        pos_of : (j : CellJob) → (a.work ≡ Putting j) ⊎ (a.work ≡ Judging j) → j.place.pos ≡ p
        pos_of j is = y.pos j is ∙ (ap (λ (z : Token). z.pos) same ∙ sym x.pos)

        -- the place is that of the layout at which the client stands
        place_of : (j : CellJob) → JobOk ps c.stand j → j.place.pos ≡ p → j.place ≡ place_in c.stand p
        place_of j ok at = ok.place ∙ ap (λ (n : ℕ). place_in c.stand n) at

        lost : feeding.IsLost ps a y.of → Dead m w e p d
        lost l = inl (record {
          layout = c.stand;
          decided = stand;
          of = sym epoch;
          cell = l.cell;
          told = told_later m h zs reach xs ys split (head c.stand p) e p l.cell
              (subst (λ (n : ℕ). ToldBy ps (head c.stand p) n p l.cell) (sym epoch) (subst (λ (z : Place). ToldBy ps (unit_at z 0) z.epoch z.pos l.cell) place l.told));
          other = λ z. l.other (z ∙ ap (λ (v : List ℕ). Data v) page);
        })
          where
            ok : JobOk ps c.stand l.job
            ok = subst (λ (z : AppendWork). AppendOk ps c.stand z) l.works (append_ok m h zs reach xs ys split k a old doing)

            place : l.job.place ≡ place_in c.stand p
            place = place_of l.job ok (pos_of l.job (inl l.works))

            epoch : e ≡ c.stand.epoch
            epoch = x.puts l.job l.works ∙ ap (λ (z : Place). z.epoch) place

        filled : feeding.IsFilled ps a y.of → Dead m w e p d
        filled l = inr (inr (record {
          cell = l.cell;
          settled = ends_settle m h zs reach xs ys split c.stand (known_here.clients k) p l.cell (subst (λ (z : Place). EndOk ps z (Done l.cell)) place l.told);
          other = λ z. l.other (z ∙ ap (λ (v : List ℕ). Data v) page);
        }))
          where
            ok : JobOk ps c.stand l.job
            ok = subst (λ (z : AppendWork). AppendOk ps c.stand z) l.works (append_ok m h zs reach xs ys split k a old doing)

            place : l.job.place ≡ place_in c.stand p
            place = place_of l.job ok (pos_of l.job (inr l.works))

        by : feeding.IsLost ps a y.of ⊎ feeding.IsFilled ps a y.of → Dead m w e p d
        by (inl l) = lost l
        by (inr l) = filled l

    fed_hand : (a b : Append) (old : Holds m c a) (doing : old.work.hand ≡ Doing (Appending a old.purpose)) (n : Next Append AppendEnd) → NextIs b n → FedSo ps a n → u.now.stand ≡ c.stand → (e p : ℕ) (d : List ℕ) → InHand m c a e p d → Dead m w e p d ⊎ InHand m u.now b e p d
    fed_hand a b old doing n is f stand e p d x = by is
      where
        le : c.stand.epoch ≤ u.now.stand.epoch
        le = let z = ap (λ (q : Layout). q.epoch) stand in omega (arith, z)

        goes : FedSo ps a (Goes b) → Dead m w e p d ⊎ InHand m u.now b e p d
        goes (inl y) = inr (kept_hand a b e p d y.token le y.place x)
        goes (inr (inl y)) = absurd (no_some x.of (sym y.was ∙ x.has))
        goes (inr (inr y)) = inl (given_up a b old doing e p d x y)

        by : NextIs b n → Dead m w e p d ⊎ InHand m u.now b e p d
        by (inl z) = goes (subst (FedSo ps a) z f)
        by (inr z) = inr (subst (λ (y : Append). InHand m u.now y e p d) (sym (subst (FedSo ps a) z f)) (same_hand a e p d le x))

    again_hand : (q : Layout) (a b : Append) (n : Next Append AppendEnd) → NextIs b n → AgainSo q a n → IsOfDecided m w q → c.stand.epoch < q.epoch → u.now.stand ≡ q → (e p : ℕ) (d : List ℕ) → InHand m c a e p d → Dead m w e p d ⊎ InHand m u.now b e p d
    again_hand q a b n is f decided later stand e p d x = by is
      where
        le : c.stand.epoch ≤ u.now.stand.epoch
        le = let z = ap (λ (y : Layout). y.epoch) stand in omega (arith, z, later)

        goes : AgainSo q a (Goes b) → Dead m w e p d ⊎ InHand m u.now b e p d
        goes (inl y) = inl (inr (inl (record { layout = q; decided = decided; later = (let z = x.epoch in omega (arith, z, later)); start = (let z = y.why x.of x.has in let v = x.pos in omega (arith, z, v)) })))
        goes (inr y) = inr (kept_hand a b e p d (y.has ∙ sym y.had) le (λ j z. absurd (y.asks j z)) x)

        by : NextIs b n → Dead m w e p d ⊎ InHand m u.now b e p d
        by (inl z) = goes (subst (AgainSo q a) z f)
        by (inr z) = absurd (subst (AgainSo q a) z f)

    -- an append that begins has no page left
    fresh_dead : (b : Append) → Holds m u.now b → Kind m c u.now.decisions u.now.checkpoints b.draft → ((a : Append) → Holds m c a → ⊥) → (x : Put ps k) → OfKind x.entry b.draft → Dead m w x.epoch x.pos x.page
    fresh_dead b o (OfRecord tag d e) isnt x kind = by (starts m c of.moved of.turn isnt b (in_books b o) (commit_tag b.draft.body tag b.draft refl))
      where
        by : Starts m c b.draft → Dead m w x.epoch x.pos x.page
        by (OfOpen t at free number) = s.unended t at (λ v is z. no_some v (sym free ∙ is)) x (kind.0 ∙ tag) (kind.1 ∙ number)
        by (OfMark number) = let n = kind.1 in let le = (s.below x).commit (kind.0 ∙ tag) in absurd (omega (arith, n, number, le))
    fresh_dead b o (OfDecision tag number d e) isnt x kind = let n = kind.1 in let le = (s.below x).decision (kind.0 ∙ tag) in absurd (omega (arith, n, number, le))
    fresh_dead b o (OfCheckpoint tag number d e) isnt x kind = let n = kind.1 in let le = (s.below x).checkpoint (kind.0 ∙ tag) in absurd (omega (arith, n, number, le))

    old_hands : (b : Append) → Holds m u.now b → (x : Put ps k) → OfKind x.entry b.draft → Dead m w x.epoch x.pos x.page ⊎ InHand m u.now b x.epoch x.pos x.page
    old_hands b o x kind = by (came b o)
      where
        kind_of : (a : Append) → b.draft ≡ a.draft → OfKind x.entry a.draft
        kind_of a e = subst (OfKind x.entry) e kind

        on : (a : Append) → (InHand m c a x.epoch x.pos x.page → Dead m w x.epoch x.pos x.page ⊎ InHand m u.now b x.epoch x.pos x.page) → Dead m w x.epoch x.pos x.page ⊎ InHand m c a x.epoch x.pos x.page → Dead m w x.epoch x.pos x.page ⊎ InHand m u.now b x.epoch x.pos x.page
        on a f (inl y) = inl y
        on a f (inr y) = f y

        told : (y : Packet) (q : Layout) → Has ps y → reply y.msg ≡ IsLatest q → IsOfDecided m w q
        told y q sent is = decided_later m h zs reach xs ys split q (subst (TellsDecided m (after m h xs)) (is_latest y.msg q is) (known_here.sent y (contained ps y sent)))

        by : Became m g k u.now b → Dead m w x.epoch x.pos x.page ⊎ InHand m u.now b x.epoch x.pos x.page
        by (Fresh none asks k' isnt) = inl (fresh_dead b o k' isnt x kind)
        by (Same old stand) = on b (λ y. inr (same_hand b x.epoch x.pos x.page (let z = ap (λ (q : Layout). q.epoch) stand in omega (arith, z)) y)) (s.hands b old x kind)
        by (Fed a old y comes doing awaited is stand) =
            on a (λ z. fed_hand a b old doing (append_feed c.stand a a.work y.from.num (reply y.msg) c.next).to is (fed a old y comes doing awaited) stand x.epoch x.pos x.page z)
            (s.hands a old x (kind_of a (next_draft a.draft b (append_feed c.stand a a.work y.from.num (reply y.msg) c.next).to is (feed_keeps c.stand a y.from.num (reply y.msg) c.next))))
        by (Again a old y q comes is node later next stand) =
            on a (λ z. again_hand q a b (append_again q a c.next).to next (again_so q a c.next) (told y q comes.sent is) later stand x.epoch x.pos x.page z)
            (s.hands a old x (kind_of a (next_draft a.draft b (append_again q a c.next).to next (again_keeps q a c.next))))

    new_hands : (b : Append) → Holds m u.now b → (e p : ℕ) (d : List ℕ) (y : Entry) → IsNew e p d y → InHand m u.now b e p d
    new_hands b o e p d y n = record {
      of = ok.0;
      has = ok.1;
      pos = n.at ∙ ok.2;
      page = same_puts n.rid ok.3.rid n.index ok.3.index d ok.0.page (sym n.puts ∙ ok.3.is);
      epoch = (let z = n.stands in omega (arith, z));
      puts = λ j is. n.epoch ∙ ap (λ (z : CellJob). z.place.epoch) (same_job n.job j (sym works ∙ is));
    }
      where
        works : b.work ≡ Putting n.job
        works = subst (λ (z : Append). z.work ≡ Putting n.job) (one_append n.append b n.holds o) n.works

        ok : feeding.WorkToken b.token (Putting n.job)
        ok = subst (λ (z : AppendWork). feeding.WorkToken b.token z) works (tokens_now b o)

    hands_now : (b : Append) → Holds m u.now b → (x : Then) → OfKind x.entry b.draft → DeadAt x ⊎ InHand m u.now b x.epoch x.pos x.page
    hands_now b o x kind = by (either x)
      where
        by : Has ps x.packet ⊎ IsNew x.epoch x.pos x.page x.entry → DeadAt x ⊎ InHand m u.now b x.epoch x.pos x.page
        by (inl a) = old_hands b o (was x a) kind
        by (inr n) = inr (new_hands b o x.epoch x.pos x.page x.entry n)

    -- Two pages.

    one_pos : (b : Append) (x y : Then) → DeadAt x ⊎ InHand m u.now b x.epoch x.pos x.page → DeadAt y ⊎ InHand m u.now b y.epoch y.pos y.page → DeadAt x ⊎ (DeadAt y ⊎ (x.pos ≡ y.pos))
    one_pos b x y (inl a) f = inl a
    one_pos b x y (inr a) (inl f) = inr (inl f)
    one_pos b x y (inr a) (inr f) = inr (inr (a.pos ∙ (ap (λ (z : Token). z.pos) (same_token a.of f.of (sym a.has ∙ f.has)) ∙ sym f.pos)))

    pairs_now : (x y : Then) → tag_of x.entry.body ≡ tag_of y.entry.body → x.entry.head.number ≡ y.entry.head.number → DeadAt x ⊎ (DeadAt y ⊎ (x.pos ≡ y.pos))
    pairs_now x y tag number = by (either x) (either y)
      where
        by : Has ps x.packet ⊎ IsNew x.epoch x.pos x.page x.entry → Has ps y.packet ⊎ IsNew y.epoch y.pos y.page y.entry → DeadAt x ⊎ (DeadAt y ⊎ (x.pos ≡ y.pos))
        by (inl a) (inl b) = s.pairs (was x a) (was y b) tag number
        by (inr n) v = one_pos n.append x y (hands_now n.append n.holds x n.kind) (hands_now n.append n.holds y (sym tag ∙ n.kind.0, sym number ∙ n.kind.1))
        by (inl a) (inr n) = one_pos n.append x y (hands_now n.append n.holds x (tag ∙ n.kind.0, number ∙ n.kind.1)) (hands_now n.append n.holds y n.kind)

    -- Numbers.

    bounds_now : (b : Append) → Holds m u.now b → Bounded m u.now b.draft
    bounds_now b o = by (came b o)
      where
        grows : (a : Append) → b.draft ≡ a.draft → Bounded m c a.draft → Bounded m u.now b.draft
        grows a e f = subst (λ (z : Entry). Bounded m u.now z) (sym e) (
          λ z. let x = f.0 z in let y = grown.decisions in omega (arith, x, y),
          λ z. let x = f.1 z in let y = grown.checkpoints in omega (arith, x, y),
        )

        fresh : Kind m c u.now.decisions u.now.checkpoints b.draft → Bounded m u.now b.draft
        fresh (OfRecord tag d e) = (λ z. two_tags m 1 2 (tag_of b.draft.body) tag z (λ f. omega (arith, f)), λ z. two_tags m 1 3 (tag_of b.draft.body) tag z (λ f. omega (arith, f)))
        fresh (OfDecision tag n d e) = (λ z. omega (arith, n, d), λ z. two_tags m 2 3 (tag_of b.draft.body) tag z (λ f. omega (arith, f)))
        fresh (OfCheckpoint tag n d e) = (λ z. two_tags m 3 2 (tag_of b.draft.body) tag z (λ f. omega (arith, f)), λ z. omega (arith, n, e))

        by : Became m g k u.now b → Bounded m u.now b.draft
        by (Fresh none asks kind isnt) = fresh kind
        by (Same old stand) = grows b refl (s.bounds b old)
        by (Fed a old x comes doing awaited is stand) = grows a (next_draft a.draft b (append_feed c.stand a a.work x.from.num (reply x.msg) c.next).to is (feed_keeps c.stand a x.from.num (reply x.msg) c.next)) (s.bounds a old)
        by (Again a old x q comes is node later next stand) = grows a (next_draft a.draft b (append_again q a c.next).to next (again_keeps q a c.next)) (s.bounds a old)

    begun_is : u.now.begun ≡ of.moved.now.begun
    begun_is = ap (λ (d : Client m). d.begun) of.now

    below_now : (x : Then) → Counted m u.now x.entry
    below_now x = by (either x)
      where
        by : Has ps x.packet ⊎ IsNew x.epoch x.pos x.page x.entry → Counted m u.now x.entry
        by (inl a) =
            let f = s.below (was x a) in
            record {
              commit = λ z. let y = f.commit z in let b = begun_grows in omega (arith, y, b);
              decision = λ z. let y = f.decision z in let b = grown.decisions in omega (arith, y, b);
              checkpoint = λ z. let y = f.checkpoint z in let b = grown.checkpoints in omega (arith, y, b);
            }
        by (inr n) =
            let f = bounds_now n.append n.holds in
            let e = n.kind.1 in
            record {
              commit = λ z. let y = record_number m k _ of.moved.now book_now n.append (in_books n.append n.holds) (commit_tag n.append.draft.body (sym n.kind.0 ∙ z) n.append.draft refl) in let b = begun_is in omega (arith, y, b, e);
              decision = λ z. let y = f.0 (sym n.kind.0 ∙ z) in omega (arith, y, e);
              checkpoint = λ z. let y = f.1 (sym n.kind.0 ∙ z) in omega (arith, y, e);
            }

    -- An open transaction.

    none_in_books : NotEnding m u.now → NotEnding m of.moved.now
    none_in_books none v is e = none v (ap (λ (d : Client m). d.work) of.now ∙ is) e

    unended_now : (o : Tx) → u.now.tx ≡ Some o → NotEnding m u.now → (x : Then) → tag_of x.entry.body ≡ 1 → x.entry.head.number ≡ o.number → DeadAt x
    unended_now o is none x tag number = by (either x)
      where
        is' : of.moved.now.tx ≡ Some o
        is' = ap (λ (d : Client m). d.tx) (sym of.now) ∙ is

        ran : (a : Has ps x.packet) → RanFull m c of.moved o → DeadAt x
        ran a f = after_full (s.hands f.append f.hand (was x a) (tag ∙ sym (record_tag m k tr c book f.append f.hand f.record'), number ∙ (f.number ∙ sym (record_of m k tr c book f.append f.hand f.record' f.was f.open'))))
          where
            after_full : DeadAt x ⊎ InHand m c f.append x.epoch x.pos x.page → DeadAt x
            after_full (inl y) = y
            after_full (inr y) = absurd (no_some y.of (sym (of.full f.append f.hand (s.tokens f.append f.hand) f.record' f.idle o f.still) ∙ y.has))

        old : Has ps x.packet → Opened m c of.moved o → DeadAt x
        old a (Was t' at n not) = s.unended t' at not (was x a) tag (number ∙ n)
        old a (New n) = let le = (s.below (was x a)).commit tag in absurd (omega (arith, number, n, le))
        old a (Ran f) = ran a f

        by : Has ps x.packet ⊎ IsNew x.epoch x.pos x.page x.entry → DeadAt x
        by (inl a) = old a (opened m c book.suits of.moved o is' (none_in_books none) of.turn)
        by (inr n) = absurd (record_ends m k _ of.moved.now book_now n.append (in_books n.append n.holds) (commit_tag n.append.draft.body (sym n.kind.0 ∙ tag) n.append.draft refl) (none_in_books none) o is' (sym n.kind.1 ∙ number))

    pub spent_turned : SpentOf m w (ps ++ new) k u.now
    spent_turned = record { pairs = pairs_now; hands = hands_now; tokens = tokens_now; drawn = drawn_now; bounds = bounds_now; unended = unended_now; below = below_now }
