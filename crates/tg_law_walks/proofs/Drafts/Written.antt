-- Each page that a client sends is that of a draft which it had in hand, with the links that were issued to it.
use Rattle.std.proofs.Common.{◌≡◌, ◌⊎◌, ℕ, ◌<◌, ◌≤◌, List, [], ◌∷◌, ◌++◌, length, map, true, refl, sym, ap, ◌∙◌, subst, inl, inr, Option, Some, None, arith, append-nil}
use Rattle.std.specs.Prelude.{slice_index_or}
use Rattle.tg_base.specs.Layouts.{Layout}
use Rattle.tg_base.specs.Clusters.{Header, IsHeader}
use Rattle.tg_base.specs.declared.ids.NodeId.{NodeId}
use Rattle.tg_base.specs.declared.ids.Role.TheVariants as role
use Rattle.tg_base.specs.declared.marks.StreamLink.{StreamLink}
use Rattle.tg_base.specs.declared.msg.Msg.{Msg}
use Rattle.tg_base.specs.declared.msg.Msg.TheVariants as msg
use Rattle.tg_base.specs.declared.packet.Out.{Out}
use Rattle.tg_base.specs.declared.packet.Packet.{Packet}
use Rattle.tg_entry.specs.declared.entry.Entry.{Entry}
use Rattle.tg_kind.specs.Meaning.{Meaning}
use Rattle.tg_model.specs.Kinds.{EventOf}
use Rattle.tg_protocol.specs.Words.{client_id, seqr_id, numbers}
use Rattle.tg_protocol.specs.Entries.{streams_of}
use Rattle.tg_entry.specs.Records.{linked}
use Rattle.tg_protocol.specs.Pages.{page_of}
use Rattle.tg_protocol.specs.Requests.{awaits, Next, Goes, Learns, Ends}
use Rattle.tg_protocol.specs.Replies.{reply}
use Rattle.tg_protocol.specs.Replies as replied
use Rattle.tg_protocol.specs.Cells.{Place, Puts, CellJob}
use Rattle.tg_protocol.specs.Appending.{names_all, AppendWork, Asking, Putting, Judging, Append, AppendEnd, AppendTurn, append_work_asks, append_asks, append_feed, append_again}
use Rattle.tg_protocol.specs.Clients.{Appending, Hand, Doing, Work, Client, new_client}
use Rattle.tg_protocol.specs.ClientSteps.{task_asks, task_in, ClientTurn}
use Rattle.tg_protocol.specs.Worlds.{World, start, packet_of, happens, next_event}
use Rattle.tg_protocol.specs.Runs.{Move, Moves, Next as Counts, Takes, run, most_steps, LawfulCommand}
use Rattle.tg_law_layouts.specs.Moves.After.{after}
use Rattle.tg_law_layouts.specs.Moves.Configs.{Config, config, client_in}
use Rattle.tg_law_layouts.proofs.Moves.Clients.{reserved, work_reserved, hand_reserved}
use Rattle.tg_law_layouts.proofs.Moves.Members.{Has, has_either, has_map}
use Rattle.tg_law_layouts.proofs.Moves.Lists.{at_set, at_map}
use Rattle.tg_law_layouts.proofs.Moves.Moves.{AllGive, Comes, ClientInput, Given, CasesOf, client_turn, step_cases_of}
use Rattle.tg_law_layouts.proofs.Moves.Growth.{IsCalm, unit_quiet, layout_quiet, seqr_quiet}
use Rattle.tg_law_layouts.proofs.Moves.Scripts.{run_both}
use Rattle.tg_law_layouts.proofs.Layouts.Layouts.{stays_sent}
use Rattle.tg_law_cells.proofs.Cells.Justified.{Awaited, awaited_ask}
use Rattle.tg_law_cells.proofs.Tokens.Owning.{Pair}
use Rattle.tg_law_cells.proofs.Tokens.Pages.{Low, input_fine, issued_to}
use Rattle.tg_law_cells.proofs.Tokens.Own.{low_of, both_hold}
use Rattle.tg_law_replies.proofs.Replies.Turns.{Keeps, feed_keeps, again_keeps}
use Rattle.tg_law_steps.proofs.Machines.Appends as appends
use Rattle.tg_law_walks.proofs.Drafts.Sound.{DraftOk, TaskOk, HandOk, IsAsking}
use Rattle.tg_law_walks.proofs.Drafts.Became.{Holds, NextIs, Became, Fresh, Same, Fed, Again, became}
use Rattle.tg_law_walks.proofs.Drafts.Clients.{State, few_in, state_hold, more_steps}
use Rattle.tg_law_walks.proofs.Drafts.Cells.{PutBefore, NextPuts, cell_puts}

-- what an append asks that asks for a token
token_asked : (p : Layout) (a : Append) (w : AppendWork) (r : ℕ) → w ≡ Asking r → (o : Out) → Has (append_work_asks p a w) o → (o.to ≡ seqr_id p.seq) × (o.msg ≡ msg.Token p.epoch (streams_of a.draft))
unfolding append_work_asks
token_asked p a (Asking q) r e o (inl i) = (ap (λ (y : Out). y.to) i, ap (λ (y : Out). y.msg) i)
token_asked p a (Asking q) r e o (inr i) = absurd i
token_asked p a (Putting j) r e o i = absurd cc
token_asked p a (Judging j) r e o i = absurd cc

-- Along moves.

-- the draft stays
pub next_draft : (d : Entry) (b : Append) (n : Next Append AppendEnd) → NextIs b n → Keeps d n → b.draft ≡ d
next_draft d b n (inl e) f = subst (Keeps d) e f
next_draft d b n (inr e) f = subst (Keeps d) e f

module _ (m : Meaning) where
  pub then_next : (h : Header) (xs : Moves m) → after m h (xs ++ Counts ∷ []) ≡ next_event m (after m h xs)
  unfolding run
  then_next h xs = run_both m xs (Counts ∷ []) (start m h)

  pub then_takes : (h : Header) (xs : Moves m) (e : EventOf m) → after m h (xs ++ Takes e ∷ []) ≡ happens m (after m h xs) e
  unfolding run
  then_takes h xs e = run_both m xs (Takes e ∷ []) (start m h)

  pub give_left : (xs ys : Moves m) → AllGive m (LawfulCommand m) (xs ++ ys) → AllGive m (LawfulCommand m) xs
  give_left [] ys g = tt
  give_left (Counts ∷ xs) ys g = give_left xs ys g
  give_left (Takes e ∷ xs) ys g = (g.0, give_left xs ys g.1)

  pub give_right : (xs ys : Moves m) → AllGive m (LawfulCommand m) (xs ++ ys) → AllGive m (LawfulCommand m) ys
  give_right [] ys g = g
  give_right (Counts ∷ xs) ys g = give_right xs ys g
  give_right (Takes e ∷ xs) ys g = give_right xs ys g.1

  pub regroup : (xs ys zs : Moves m) → (xs ++ ys) ++ zs ≡ xs ++ (ys ++ zs)
  regroup [] ys zs = refl
  regroup (x ∷ xs) ys zs = ap (λ us. x ∷ us) (regroup xs ys zs)

-- A run, as far as its end.
module _ (m : Meaning) (h : Header) (zs : Moves m) (header : IsHeader h) (give : AllGive m (LawfulCommand m) zs) (short : (after m h zs).steps ≤ most_steps) where
  abbrev pub final : List Packet
  final = (after m h zs).packets

  -- what is known of a world through which the run comes
  pub state_at : (xs ys : Moves m) → zs ≡ xs ++ ys → State m h (after m h xs)
  state_at xs ys e = state_hold m h header xs (give_left m xs ys (subst (AllGive m (LawfulCommand m)) e give)) (few xs ys e)
    where
      few : (xs ys : Moves m) → zs ≡ xs ++ ys → (after m h xs).steps ≤ most_steps
      few xs ys e =
          let a = more_steps m ys (after m h xs) in
          let b = ap (λ (w : World m). w.steps) (ap (λ (ms : Moves m). after m h ms) e ∙ run_both m xs ys (start m h)) in
          omega (arith, a, b, short)

  pub short_at : (xs ys : Moves m) → zs ≡ xs ++ ys → (after m h xs).steps ≤ most_steps
  short_at xs ys e =
      let a = more_steps m ys (after m h xs) in
      let b = ap (λ (w : World m). w.steps) (ap (λ (ms : Moves m). after m h ms) e ∙ run_both m xs ys (start m h)) in
      omega (arith, a, b, short)

  pub sent_at : (xs ys : Moves m) → zs ≡ xs ++ ys → (x : Packet) → Has (after m h xs).packets x → Has final x
  sent_at xs ys e x g = subst (λ (w : World m). Has w.packets x) (sym (ap (λ (ms : Moves m). after m h ms) e ∙ run_both m xs ys (start m h))) (stays_sent m ys (after m h xs) x g)

  -- A page of a draft that a client had in hand in a world of the run, with the links that were issued to it.
  pub record Drafted (k e pos : ℕ) (d : List ℕ) : Type 0 where
    pub before : Moves m
    pub later : Moves m
    pub split : zs ≡ before ++ later
    pub append : Append
    pub holds : Holds m (client_in m (config m (after m h before)) k) append
    pub ok : DraftOk m k append.draft
    pub links : List StreamLink
    pub names : names_all (streams_of append.draft) links ≡ true
    pub page : d ≡ page_of (linked append.draft links)
    pub answer : Packet
    pub sent : Has final answer
    pub to : answer.to ≡ client_id k
    pub issues : answer.msg ≡ msg.Issued pos links
    pub seqr : ℕ
    pub pair : Pair final (client_id k) seqr (msg.Token e (streams_of append.draft)) pos links

  -- of an append with this draft
  module _ (k : ℕ) (d0 : Entry) where
    abbrev pub Ours : ℕ → ℕ → List ℕ → Type 0
    Ours e pos d = (x : Drafted k e pos d) × (x.append.draft ≡ d0)

    abbrev pub PutsOk : AppendWork → Type 0
    PutsOk (Putting j) = (r : ℕ) (d : List ℕ) (i : ℕ) → j.work ≡ Puts r d i → Ours j.place.epoch j.place.pos d
    PutsOk w = Unit {0}

    abbrev AppendPuts : Next Append AppendEnd → Type 0
    AppendPuts (Goes b) = PutsOk b.work
    AppendPuts (Learns b) = PutsOk b.work
    AppendPuts (Ends e) = Unit {0}

    asking_puts : (w : AppendWork) → IsAsking m w → PutsOk w
    asking_puts (Asking r) h = tt
    asking_puts (Putting j) h = absurd h
    asking_puts (Judging j) h = absurd h

    next_puts : (b : Append) (n : Next Append AppendEnd) → NextIs b n → AppendPuts n → PutsOk b.work
    next_puts b n (inl e) h = subst AppendPuts e h
    next_puts b n (inr e) h = subst AppendPuts e h

    -- the same page at the same place
    kept_puts : (j x : CellJob) → ((r : ℕ) (d : List ℕ) (i : ℕ) → x.work ≡ Puts r d i → PutBefore j x d) → PutsOk (Putting j) → PutsOk (Putting x)
    kept_puts j x f k' r d i is = let b = f r d i is in subst (λ (a : Place). Ours a.epoch a.pos d) (sym b.place) (k' b.rid d b.index b.was)

    -- what is made of links that are issued
    abbrev pub Makes : Layout → Entry → AppendWork → Msg → Type 0
    Makes p d (Asking r) y = (pos : ℕ) (ls : List StreamLink) → y ≡ msg.Issued pos ls → names_all (streams_of d) ls ≡ true → Ours p.epoch pos (page_of (linked d ls))
    Makes p d w y = Unit {0}

    same_page : (r s i j : ℕ) (d x : List ℕ) → Puts r d i ≡ Puts s x j → d ≡ x
    same_page r s i j d x e = cc

    is_issued : (y : Msg) (pos : ℕ) (ls : List StreamLink) → reply y ≡ replied.IsIssued pos ls → y ≡ msg.Issued pos ls
    unfolding reply
    is_issued y pos ls e = grind arith

    turn_puts : (p : Layout) (n : ℕ) (y : Msg) (next : ℕ) (a : Append) (t : AppendTurn) → appends.Fed p n (reply y) next a t → PutsOk a.work → Makes p a.draft a.work y → AppendPuts t.to
    turn_puts p n y next _ _ (appends.Issues d o r pos ls is names) h f = λ s x i e. subst (Ours p.epoch pos) (same_page next s 0 i (page_of (linked d ls)) x e) (f pos ls (is_issued y pos ls is) names)
    turn_puts p n y next _ _ (appends.PutGoes d t j i e) h f = kept_puts j i (subst (NextPuts j) e (cell_puts j n (reply y) next)).1 h
    turn_puts p n y next _ _ (appends.PutDone d t j c e) h f = tt
    turn_puts p n y next _ _ (appends.PutLost d t j c e) h f = tt
    turn_puts p n y next _ _ (appends.PutGone d t j b e) h f = tt
    turn_puts p n y next _ _ came h f = h

    feed_puts : (p : Layout) (a : Append) (n : ℕ) (y : Msg) (next : ℕ) → PutsOk a.work → Makes p a.draft a.work y → AppendPuts (append_feed p a a.work n (reply y) next).to
    feed_puts p a n y next h f = turn_puts p n y next a _ (appends.append_fed p n (reply y) next a) h f

    again_turn : (p : Layout) (next : ℕ) (a : Append) (t : AppendTurn) → appends.Anew p next a t → AppendPuts t.to
    again_turn p next _ _ (appends.HasNone d w) = tt
    again_turn p next _ _ came = tt

    again_puts : (p : Layout) (a : Append) (next : ℕ) → AppendPuts (append_again p a next).to
    again_puts p a next = again_turn p next a _ (appends.append_anew p next a)

  -- A world of the run.

  pub record Written (c : Config m) : Type 0 where
    pub hands : (k : ℕ) (b : Append) → Holds m (client_in m c k) b → PutsOk k b.draft b.work
    pub sent : (x : Packet) → Has c.packets x → (k : ℕ) → x.from ≡ client_id k → (e pos : ℕ) (d : List ℕ) → x.msg ≡ msg.Write e pos d → Drafted k e pos d

  module _ (xs ys : Moves m) (split : zs ≡ xs ++ ys) where
    abbrev w : World m
    w = after m h xs

    abbrev c : Config m
    c = config m (after m h xs)

    state : State m h (after m h xs)
    state = state_at xs ys split

    pub low : Low m (config m (after m h xs))
    low = low_of m (config m (after m h xs)) (both_hold m h xs).0

    pub draft_in : (k : ℕ) (a : Append) → Holds m (client_in m (config m (after m h xs)) k) a → DraftOk m k a.draft
    draft_in k a o =
        let s = state.clients.sound k in
        subst (λ (n : ℕ). DraftOk m n a.draft) (state.book k).num_is (subst (TaskOk m (client_in m (config m (after m h xs)) k).num) o.holds (subst (HandOk m (client_in m (config m (after m h xs)) k).num (client_in m (config m (after m h xs)) k).tx) o.has s.hand).2)

    -- the links of an answer that it hears
    module _ (k : ℕ) (a : Append) (o : Holds m (client_in m (config m (after m h xs)) k) a) (x : Packet) (comes : Comes m (config m (after m h xs)) x (client_id k)) (doing : o.work.hand ≡ Doing (Appending a o.purpose))
        (awaited : awaits (append_asks (client_in m (config m (after m h xs)) k).stand a) x.from x.rid ≡ true) where
      abbrev p : Layout
      p = (client_in m (config m (after m h xs)) k).stand

      -- its request, as it may still be answered
      asks_open : (q : Out) → Has (append_asks p a) q → Has (reserved m (client_in m (config m (after m h xs)) k)) q
      unfolding task_asks
      asks_open q g = subst (λ (w : Option (Work m)). Has (work_reserved m p w) q) (sym o.has) (subst (λ (d : Hand m). Has (hand_reserved m p d) q) (sym doing) g)

      pair_of : (r pos : ℕ) (ls : List StreamLink) → a.work ≡ Asking r → x.msg ≡ msg.Issued pos ls → Pair (after m h xs).packets (client_id k) p.seq (msg.Token p.epoch (streams_of a.draft)) pos ls
      pair_of r pos ls at is = by (awaited_ask (append_asks p a) x.from x.rid awaited)
        where
          by : Awaited (append_asks p a) x.from x.rid → Pair (after m h xs).packets (client_id k) p.seq (msg.Token p.epoch (streams_of a.draft)) pos ls
          by g =
              let t = token_asked p a a.work r at g.ask g.has in
              subst (λ (y : Msg). Pair (after m h xs).packets (client_id k) p.seq y pos ls) t.1
              (issued_to m (config m (after m h xs)) low (both_hold m h xs).1 k x comes g.ask (asks_open g.ask g.has) g.to g.number p.seq (sym g.to ∙ t.0) pos ls is)

      late : (s : ℕ) (y : Msg) (pos : ℕ) (ls : List StreamLink) → Pair (after m h xs).packets (client_id k) s y pos ls → Pair final (client_id k) s y pos ls
      late s y pos ls g = record {
        ask = g.ask;
        answer = g.answer;
        asked = sent_at xs ys split g.ask g.asked;
        answered = sent_at xs ys split g.answer g.answered;
        by = g.by;
        to_seqr = g.to_seqr;
        from_seqr = g.from_seqr;
        back = g.back;
        number = g.number;
        asks = g.asks;
        issues = g.issues;
      }

      makes_by : (w : AppendWork) → a.work ≡ w → Makes k a.draft p a.draft w x.msg
      makes_by (Asking r) at = λ pos ls is names. (
        record {
          before = xs;
          later = ys;
          split = split;
          append = a;
          holds = o;
          ok = draft_in k a o;
          links = ls;
          names = names;
          page = refl;
          answer = x;
          sent = sent_at xs ys split x comes.sent;
          to = comes.to_node;
          issues = is;
          seqr = p.seq;
          pair = late p.seq (msg.Token p.epoch (streams_of a.draft)) pos ls (pair_of r pos ls at is);
        },
        refl,
      )
      makes_by (Putting j) at = tt
      makes_by (Judging j) at = tt

      makes : Makes k a.draft p a.draft a.work x.msg
      makes = makes_by a.work refl

    module _ (t : Written (config m (after m h xs))) where
      calm : IsCalm m role.Client (config m (after m h xs)) Written
      calm d q = record {
        hands = λ k b o. t.hands k b (subst (λ (x : Client m). Holds m x b) (λ i. slice_index_or (q.clients refl i) k (new_client m (q.cluster i) k)) o);
        sent = λ x g k from e pos p is. t.sent x (q.old x g (ap (λ (n : NodeId). n.role) from)) k from e pos p is;
      }

      pub turned_hands : (k : ℕ) (u : ClientTurn m) → (i : ClientInput m (config m (after m h xs)) k u) → Given m (LawfulCommand m) (config m (after m h xs)) k u i → k < length (after m h xs).clients → (b : Append) → Holds m u.now b → PutsOk k b.draft b.work
      turned_hands k u i lawful less b o = by (became m (config m (after m h xs)) k u i lawful (few_in m h header (after m h xs) (short_at xs ys split) state k less) (state.clients.sound k) b o)
        where
          kept : (a : Append) (n : Next Append AppendEnd) → NextIs b n → Keeps a.draft n → PutsOk k a.draft b.work → PutsOk k b.draft b.work
          kept a n is f p = subst (λ (d : Entry). PutsOk k d b.work) (sym (next_draft a.draft b n is f)) p

          by : Became m (config m (after m h xs)) k u.now b → PutsOk k b.draft b.work
          by (Fresh none asks kind new) = asking_puts k b.draft b.work asks
          by (Same old stand) = t.hands k b old
          by (Fed a old x comes doing awaited is stand) = kept a (append_feed (client_in m (config m (after m h xs)) k).stand a a.work x.from.num (reply x.msg) (client_in m (config m (after m h xs)) k).next).to is (feed_keeps (client_in m (config m (after m h xs)) k).stand a x.from.num (reply x.msg) (client_in m (config m (after m h xs)) k).next)
              (next_puts k a.draft b _ is (feed_puts k a.draft (client_in m (config m (after m h xs)) k).stand a x.from.num x.msg (client_in m (config m (after m h xs)) k).next (t.hands k a old) (makes k a old x comes doing awaited)))
          by (Again a old x q comes is node less next stand) = kept a (append_again q a (client_in m (config m (after m h xs)) k).next).to next (again_keeps q a (client_in m (config m (after m h xs)) k).next) (next_puts k a.draft b _ next (again_puts k a.draft q a (client_in m (config m (after m h xs)) k).next))

      same_client : (j k : ℕ) → client_id j ≡ client_id k → j ≡ k
      same_client j k e = ap (λ (n : NodeId). n.num) e

      turned_sent : (k : ℕ) (u : ClientTurn m) → ClientInput m (config m (after m h xs)) k u → ((b : Append) → Holds m u.now b → PutsOk k b.draft b.work) → (o : Out) → Has u.sends o → (e pos : ℕ) (d : List ℕ) → o.msg ≡ msg.Write e pos d → Drafted k e pos d
      turned_sent k u i hands o g e pos d is =
          let f = (input_fine m (config m (after m h xs)) low (both_hold m h xs).1 k u i).puts o g e pos d is in
          let p = subst (PutsOk k f.append.draft) f.putting (hands f.append (record { work = f.work; purpose = f.purpose; has = f.has; holds = ap (task_in m) f.doing })) in
          subst (λ (n : ℕ). Drafted k n pos d) (sym f.puts.epoch) (subst (λ (n : ℕ). Drafted k f.job.place.epoch n d) (sym f.puts.at) (p f.puts.rid d f.puts.index f.puts.puts).0)

      own : (k : ℕ) (u : ClientTurn m) → (i : ClientInput m (config m (after m h xs)) k u) → Given m (LawfulCommand m) (config m (after m h xs)) k u i → k < length (after m h xs).clients → Written (client_turn m (config m (after m h xs)) k u)
      own k u i lawful less = record {
        hands = at_set (after m h xs).clients k u.now (new_client m (after m h xs).cluster) (λ j x. (b : Append) → Holds m x b → PutsOk j b.draft b.work) less (turned_hands k u i lawful less) (λ j other. t.hands j);
        sent = λ x g j from e pos d is. by x j from e pos d is (has_either (after m h xs).packets (map (packet_of m (client_id k)) u.sends) x g);
      }
        where
          by : (x : Packet) (j : ℕ) → x.from ≡ client_id j → (e pos : ℕ) (d : List ℕ) → x.msg ≡ msg.Write e pos d → Has (after m h xs).packets x ⊎ Has (map (packet_of m (client_id k)) u.sends) x → Drafted j e pos d
          by x j from e pos d is (inl g) = t.sent x g j from e pos d is
          by x j from e pos d is (inr g) =
              let o = has_map (packet_of m (client_id k)) u.sends x g in
              let same = same_client k j (sym (ap (λ (y : Packet). y.from) o.is) ∙ from) in
              subst (λ (n : ℕ). Drafted n e pos d) same (turned_sent k u i (turned_hands k u i lawful less) o.of o.has e pos d (sym (ap (λ (y : Packet). y.msg) o.is) ∙ is))

      pub cases : CasesOf m (LawfulCommand m) (config m (after m h xs)) Written
      cases = record {
        idle = t;
        unit = λ u p a less. calm _ (unit_quiet m role.Client (λ e. cc) (config m (after m h xs)) u p a less);
        layout = λ l p a less. calm _ (layout_quiet m role.Client (λ e. cc) (config m (after m h xs)) l p _ a);
        seqr = λ s u i less. calm _ (seqr_quiet m role.Client (λ e. cc) (config m (after m h xs)) s u);
        client = own;
      }

  pub shift : (xs : Moves m) (x : Move m) (ys : Moves m) → zs ≡ xs ++ x ∷ ys → zs ≡ (xs ++ x ∷ []) ++ ys
  shift xs x ys e = e ∙ sym (regroup m xs (x ∷ []) ys)

  on_run : (xs ys : Moves m) → zs ≡ xs ++ ys → Written (config m (after m h xs)) → Written (config m (after m h zs))
  on_run xs [] e t = subst (λ (ms : Moves m). Written (config m (after m h ms))) (sym (e ∙ append-nil xs)) t
  on_run xs (Counts ∷ ys) e t = on_run (xs ++ Counts ∷ []) ys (shift xs Counts ys e) (subst (λ (w : World m). Written (config m w)) (sym (then_next m h xs)) (record { hands = t.hands; sent = t.sent }))
  on_run xs (Takes x ∷ ys) e t =
      on_run (xs ++ Takes x ∷ []) ys (shift xs (Takes x) ys e)
      (subst (λ (w : World m). Written (config m w)) (sym (then_takes m h xs x)) (step_cases_of m (LawfulCommand m) (after m h xs) Written (cases xs (Takes x ∷ ys) e t) x (give_right m xs (Takes x ∷ ys) (subst (AllGive m (LawfulCommand m)) e give)).0))

  none_holds : (k : ℕ) (b : Append) → Holds m (new_client m h k) b → ⊥
  unfolding new_client
  none_holds k b o = no o.has
    where
      no : {X : Type 0} {x : X} → None ≡ Some x → ⊥
      no e = cc

  pub start_written : Written (config m (after m h []))
  unfolding run start
  start_written = record {
    hands = λ k b o. absurd (at_map (new_client m h) (numbers h.clients 0) k (new_client m h k) (λ (x : Client m). Holds m x b → ⊥) (λ j. none_holds j b) (none_holds k b) o);
    sent = λ x g k from e pos d is. absurd g;
  }

  pub written : Written (config m (after m h zs))
  written = on_run [] zs refl start_written
