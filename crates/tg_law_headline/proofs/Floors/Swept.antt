-- Over a run, below what a sequencer has told in an epoch all was settled up to the epoch's start, and each position from there on
-- was issued.
use Rattle.std.proofs.Common.{◌≡◌, ◌⊎◌, ℕ, ◌+◌, ◌<◌, ◌≤◌, List, [], ◌∷◌, ◌++◌, length, map, true, false, refl, sym, ap, ◌∙◌, subst, inl, inr, arith, Some, Option, append-nil}
use Rattle.std.specs.Prelude.{slice_index_or, min, nat_lt}
use Rattle.std.proofs.lemmas.Bool.Decides.{nat_tests}
use Rattle.tg_base.specs.Clusters.{Header}
use Rattle.tg_base.specs.Layouts.{Layout}
use Rattle.tg_base.specs.declared.cell.Cell.{Cell}
use Rattle.tg_base.specs.declared.ids.NodeId.{NodeId}
use Rattle.tg_base.specs.declared.ids.Oid.{Oid}
use Rattle.tg_base.specs.declared.ids.Role.TheVariants as role
use Rattle.tg_base.specs.declared.marks.StreamLink.{StreamLink}
use Rattle.tg_base.specs.declared.msg.Msg.{Msg}
use Rattle.tg_base.specs.declared.msg.Msg.TheVariants as msg
use Rattle.tg_base.specs.declared.packet.Out.{Out}
use Rattle.tg_base.specs.declared.packet.Packet.{Packet}
use Rattle.tg_kind.specs.Meaning.{Meaning}
use Rattle.tg_model.specs.Kinds.{EventOf}
use Rattle.tg_protocol.specs.Words.{seqr_id, unit_id, numbers}
use Rattle.tg_protocol.specs.Layouts.{first_layout}
use Rattle.tg_protocol.specs.Requests.{out, awaits, Next, Ends}
use Rattle.tg_protocol.specs.Replies.{reply}
use Rattle.tg_protocol.specs.Cells.{Place, place_in, last_unit, CellJob, CellEnd, Done, Gone, cell_asks, cell_feed}
use Rattle.tg_protocol.specs.Units.{unit_ask}
use Rattle.tg_protocol.specs.Sequencers.{SeqrState, SeqrTurn, links_of, scanning, scan_asks, new_seqr, seqr_step, seqr_tick}
use Rattle.tg_protocol.specs.Worlds.{World, start, packet_of, happens, next_event}
use Rattle.tg_protocol.specs.Chosen.{IsDecided}
use Rattle.tg_protocol.specs.Runs.{Moves, Next as Counts, Takes, run, Reaches, LawfulCommand}
use Rattle.tg_law_layouts.specs.Moves.After.{after}
use Rattle.tg_law_layouts.specs.Moves.Configs.{Config, config, seqr_in}
use Rattle.tg_law_layouts.specs.Moves.Telling.{is_request}
use Rattle.tg_law_layouts.proofs.Moves.Always.{lawful_give}
use Rattle.tg_law_layouts.proofs.Moves.Growth.{IsCalm, by_seqr}
use Rattle.tg_law_layouts.proofs.Moves.Lists.{contained, at_map, at_set}
use Rattle.tg_law_layouts.proofs.Moves.Members.{Has, has_left, has_right, has_either, has_map, has_contained}
use Rattle.tg_law_layouts.proofs.Moves.Moves.{AllGive, Comes, SeqrInput, Hears, Ticks, seqr_turn, step_cases}
use Rattle.tg_law_layouts.proofs.Moves.Scripts.{run_both}
use Rattle.tg_law_layouts.proofs.Requests.Starts.{All, all_hold}
use Rattle.tg_law_layouts.proofs.Requests.Numbers.{numbers_once}
use Rattle.tg_law_layouts.specs.Layouts.Decisions.{IsOfDecided}
use Rattle.tg_law_layouts.proofs.Layouts.Deciding.{K, known, decided_for, layouts_are_known, decided_stays}
use Rattle.tg_law_cells.proofs.Cells.Justified.{ToldBy, EndOk, NextOk, Awaited, awaited_ask, scan_told}
use Rattle.tg_law_cells.proofs.Cells.Jobs.{JobOk, MaybeOk, CellOk, cell_ok}
use Rattle.tg_law_cells.proofs.Cells.Sent.{Heard, maybe_claims}
use Rattle.tg_law_cells.proofs.Cells.Settles.{Settled, Rooted, end_settles}
use Rattle.tg_law_cells.proofs.Cells.Settling.{facts, roots, told_here}
use Rattle.tg_law_cells.proofs.Cells.Stores.{cells_hold, up_to}
use Rattle.tg_law_cells.proofs.Cells.Successors.{words}
use Rattle.tg_law_cells.specs.Tokens.Issuing.{Issued}
use Rattle.tg_law_cells.proofs.Tokens.Issues.{low_holds}
use Rattle.tg_law_cells.proofs.Tokens.Named.{naming_holds}
use Rattle.tg_law_cells.specs.Homes.Homes.{TrimAsked, ToldGone, epoch_asked}
use Rattle.tg_law_cells.proofs.Homes.Gones.{gone_is_asked}
use Rattle.tg_law_cells.proofs.Entries.Lists.{joined}
use Rattle.tg_law_walks.specs.Lists.Spared.{WasSettled, TrimsSaved, TrimsWereSpare}
use Rattle.tg_law_walks.specs.Lists.Telling.{asks_links, tells_links}
use Rattle.tg_law_walks.proofs.Lists.Reached.{before_reached, goes_later}
use Rattle.tg_law_walks.proofs.Lists.Scanning.{AtTrim, at_trim, is_gone}
use Rattle.tg_law_cells.specs.Order.Tails.{ConfirmedTail}
use Rattle.tg_law_syncs.proofs.Syncs.Later.{grow, late}
use Rattle.tg_law_syncs.proofs.Known.Past.{Tells, turn_tells}
use Rattle.tg_law_headline.specs.Trims.Floors.{WasIssued, IsWhole}
use Rattle.tg_law_headline.specs.Floors.Wholes.{TailsAreWhole}
use Rattle.tg_law_headline.proofs.Floors.Named.{tokens_name}
use Rattle.tg_law_headline.proofs.Floors.Sweeping.{Alike, Sweeps, Stays, Begins, Reads, Jumps, Issues, sweeps}

less_or_here : (q n : ℕ) → q < n + 1 → (q < n) ⊎ (q ≡ n)
less_or_here q n less = grind arith

less_min : (q b s : ℕ) → q < min b s → q < b
less_min q b s less = grind arith

not_scanning : (a b : ℕ) → nat_lt a b ≡ false → b ≤ a
not_scanning a b e = grind (arith, nat_tests)

check_links : (e : ℕ) (os : List Oid) → asks_links (msg.Check e os) ≡ Some (e, os)
unfolding asks_links
check_links e os = refl

tail_links : (t : ℕ) (ls : List StreamLink) → tells_links (msg.Tail t ls) ≡ Some (t, ls)
unfolding tells_links
tail_links t ls = refl

check_request : (x : Msg) (e : ℕ) (os : List Oid) → x ≡ msg.Check e os → is_request x ≡ true
unfolding is_request
check_request x e os is = grind arith

module _ (m : Meaning) (h : Header) (zs : Moves m) (r : Reaches m h zs (after m h zs)) (trims : TrimsWereSpare m h zs) where
  -- a position was issued by the end of the run
  pub record IssuedAt (epoch pos : ℕ) : Type 0 where
    pub seqr : ℕ
    pub streams : List Oid
    pub links : List StreamLink
    pub issued : Issued m (after m h zs) seqr epoch pos streams links

  -- Below a sequencer's next position.
  pub record Swept (s : SeqrState) : Type 0 where
    pub old : (q : ℕ) → q < s.next → q < s.proj.start → WasSettled m (after m h zs) s.proj.epoch q
    pub new : (q : ℕ) → s.proj.start ≤ q → q < s.next → IssuedAt s.epoch q

  -- Below a position that a sequencer told in an epoch, of a layout.
  pub record Whole (s e pos : ℕ) : Type 0 where
    pub proj : Layout
    pub decided : IsOfDecided m (after m h zs) proj
    pub own : 0 < e → proj.epoch ≡ e
    pub old : (q : ℕ) → q < proj.start → WasSettled m (after m h zs) proj.epoch q
    pub new : (q : ℕ) → proj.start ≤ q → q < pos → IssuedAt e q

  pub record Answered (ps : List Packet) (s : ℕ) (a : Packet) (pos : ℕ) : Type 0 where
    pub ask : Packet
    pub has : Has ps ask
    pub to : ask.to ≡ a.from
    pub from : ask.from ≡ a.to
    pub rid : ask.rid ≡ a.rid
    pub request : is_request ask.msg ≡ true
    pub whole : (e : ℕ) (os : List Oid) → asks_links ask.msg ≡ Some (e, os) → Whole s e pos

  abbrev SentLate : List Packet → Type 0
  SentLate ps = (x : Packet) → Has ps x → Has (after m h zs).packets x

  pub record Held (c : Config m) : Type 0 where
    pub seqrs : (s : ℕ) → Swept (seqr_in m c s)
    pub told : (s : ℕ) (a : Packet) (pos : ℕ) (ls : List StreamLink) → Has c.packets a → a.from ≡ seqr_id s → tells_links a.msg ≡ Some (pos, ls) → Answered c.packets s a pos

  abbrev HeldLate : Config m → Type 0
  HeldLate c = SentLate c.packets → Held c

  answered_on : (ps qs : List Packet) (s : ℕ) (a : Packet) (pos : ℕ) → ((x : Packet) → Has ps x → Has qs x) → Answered ps s a pos → Answered qs s a pos
  answered_on ps qs s a pos up k = record { ask = k.ask; has = up k.ask k.has; to = k.to; from = k.from; rid = k.rid; request = k.request; whole = k.whole }

  module _ (xs : Moves m) (e : EventOf m) (ys : Moves m) (split : zs ≡ xs ++ Takes e ∷ ys) where
    abbrev c : Config m
    c = config m (after m h xs)

    rw : Reaches m h xs (after m h xs)
    rw = before_reached m h zs r xs (Takes e ∷ ys) split

    all : All m (config m (after m h xs))
    all = all_hold m h xs

    give : AllGive m (LawfulCommand m) xs
    give = lawful_give m (start m h).cluster xs rw.goes.lawful

    spare : TrimsSaved m (after m h xs)
    spare = trims.spare (after m h xs) (record { before = xs; event = e; later = ys; split = split; is = refl })

    module _ (s : ℕ) where
      abbrev z : SeqrState
      z = seqr_in m (config m (after m h xs)) s

      abbrev proj : Layout
      proj = (seqr_in m (config m (after m h xs)) s).proj

      proj_decided : IsOfDecided m (after m h xs) proj
      proj_decided = (layouts_are_known m h xs (after m h xs) rw).seqrs s

      proj_late : IsOfDecided m (after m h zs) proj
      proj_late = (decided_stays m h xs (after m h xs) (after m h zs) rw (goes_later m h zs r xs (Takes e ∷ ys) split)).stays proj.epoch proj proj_decided

      proj_known : K m h xs proj
      proj_known = (known m h xs proj.epoch proj proj_decided).0

      settled_late : (q : ℕ) → WasSettled m (after m h xs) proj.epoch q → WasSettled m (after m h zs) proj.epoch q
      settled_late q g = record { cell = g.cell; settled = late m h zs r xs (Takes e ∷ ys) split q g.cell g.settled; in_time = g.in_time }

      -- the cell that a scan ends with was settled in its epoch or before
      settled_by : (pos : ℕ) (d : Cell) → CellOk (after m h xs).packets proj pos d → WasSettled m (after m h xs) proj.epoch pos
      settled_by pos d f =
          let line = facts m h xs r.header give (told_here m h xs r.header give) in
          let root = roots m h xs r.header give (told_here m h xs r.header give) in
          of_settled (end_settles words (K m h xs) (after m h xs).packets line proj pos d proj_known (λ t. rooted pos d t (root.tells _ t.claim t.tells)) f)
        where
          of_settled : Settled words (K m h xs) (after m h xs).packets proj.epoch pos d → WasSettled m (after m h xs) proj.epoch pos
          of_settled g = record {
            cell = d;
            settled = record { layout = g.layout; decided = decided_for m h xs r.header give g.layout g.decided; told = λ i less. up_to (after m h xs).packets _ _ _ d (g.told i less) };
            in_time = g.up_to;
          }

          rooted : (q : ℕ) (i : Cell) → (t : ToldBy (after m h xs).packets (last_unit (place_in proj q)) proj.epoch q i) → Rooted words (K m h xs) (after m h xs).packets (last_unit (place_in proj q)) t.claim.epoch t.claim.pos t.claim.cell
              → Rooted words (K m h xs) (after m h xs).packets (last_unit (place_in proj q)) proj.epoch q i
          rooted q i t g =
              let g' : Rooted words (K m h xs) (after m h xs).packets (last_unit (place_in proj q)) t.claim.epoch q i =
              subst (λ (y : Cell). Rooted words (K m h xs) (after m h xs).packets (last_unit (place_in proj q)) t.claim.epoch q y) t.cell
              (subst (λ (n : ℕ). Rooted words (K m h xs) (after m h xs).packets (last_unit (place_in proj q)) t.claim.epoch n t.claim.cell) t.pos g) in
              record { layout = g'.layout; decided = g'.decided; up_to = (let b = g'.up_to in let n = t.epoch in omega (arith, b, n)); how = g'.how }

      -- What it hears.

      module _ (p : Packet) (comes : Comes m (config m (after m h xs)) p (seqr_id s)) (j : CellJob) (scans : z.scan ≡ Some j) (awaited : awaits (cell_asks j) p.from p.rid ≡ true) where
        job_ok : JobOk (after m h xs).packets proj j
        job_ok = subst (λ (o : Option CellJob). MaybeOk (after m h xs).packets proj o) scans ((cells_hold m h xs).scans s)

        hears : Heard (after m h xs).packets p.from p.rid p.msg (cell_asks j)
        hears = subst (λ (o : Option CellJob). Heard (after m h xs).packets p.from p.rid p.msg (scan_asks o)) scans
            (λ o g to number u from l is. scan_told m (config m (after m h xs)) all.0.0 all.0.1 s u o p g comes.sent comes.to_node from to number l is)

        read : (d : Cell) → (cell_feed j p.from.num (reply p.msg) z.rids).to ≡ Ends (Done d) → WasSettled m (after m h xs) proj.epoch j.place.pos
        read d f =
            settled_by j.place.pos d (subst (λ (a : Place). EndOk (after m h xs).packets a (Done d)) job_ok.place
            (subst (λ (y : Next CellJob CellEnd). NextOk (after m h xs).packets j.place y) f
            (cell_ok (after m h xs).packets proj j p.msg job_ok (maybe_claims (after m h xs).packets p.from p.rid p.msg proj (Some j) awaited hears) p.from.num z.rids)))

        jumped : (b : ℕ) → (cell_feed j p.from.num (reply p.msg) z.rids).to ≡ Ends (Gone b) → (q : ℕ) → q < b → WasSettled m (after m h xs) proj.epoch q
        jumped b f q less = by (awaited_ask (cell_asks j) p.from p.rid awaited)
          where
            trim : AtTrim j (reply p.msg) b
            trim = at_trim j p.from.num (reply p.msg) z.rids b f

            trimmed : TrimAsked m (after m h xs) proj.epoch b → WasSettled m (after m h xs) proj.epoch q
            trimmed t =
                let g = spare.whole t.packet t.of b q t.sent t.is less in
                record { cell = g.cell; settled = g.settled; in_time = (let i = g.in_time in let u = t.up_to in omega (arith, i, u)) }

            by : Awaited (cell_asks j) p.from p.rid → WasSettled m (after m h xs) proj.epoch q
            by a =
                let of = trim.asks a.ask a.has in
                let from : p.from ≡ unit_id of.1.0 = sym a.to ∙ of.1.1 in
                let heard = all.0.1.answered of.1.0 p comes.sent from in
                let same : a.ask.msg ≡ heard.ask.msg = (all.0.0.seqrs s).agree a.ask heard.ask (subst (λ (o : Option CellJob). Has (scan_asks o) a.ask) (sym scans) a.has) heard.asked (heard.from ∙ comes.to_node) heard.request (a.number ∙ sym heard.rid) (a.to ∙ sym heard.to) in
                let told : ToldGone m (after m h xs) of.1.0 proj.epoch b = record {
                  ask = heard.ask;
                  answer = p;
                  asked = contained _ heard.ask heard.asked;
                  answered = contained _ p comes.sent;
                  to_unit = heard.to ∙ from;
                  from_unit = from;
                  back = sym heard.from;
                  number = sym heard.rid;
                  request = heard.request;
                  of = ap (λ (y : Msg). epoch_asked (unit_ask y)) (sym same) ∙ (of.0 ∙ ap (λ (y : Place). y.epoch) job_ok.place);
                  is = is_gone p.msg b trim.says;
                } in
                trimmed (gone_is_asked m h xs (after m h xs) rw of.1.0 proj.epoch b told (let l = trim.past in omega (arith, l)))

      -- Its step.

      module _ (k : Swept z) where
        as_before : (t : SeqrState) → Alike z t → t.next ≡ z.next → Swept t
        as_before t a n = record {
          old = λ q less low. subst (λ (y : Layout). WasSettled m (after m h zs) y.epoch q) (sym a.proj) (k.old q (subst (λ i. q < i) n less) (subst (λ (y : Layout). q < y.start) a.proj low));
          new = λ q past less. subst (λ i. IssuedAt i q) (sym a.epoch) (k.new q (subst (λ (y : Layout). y.start ≤ q) a.proj past) (subst (λ i. q < i) n less));
        }

        heard_by : (p : Packet) → Comes m (config m (after m h xs)) p (seqr_id s) → (t : SeqrTurn) → SentLate (seqr_turn m (config m (after m h xs)) s t).packets → Sweeps z p.from p.rid p.msg t → Swept t.now
        heard_by p comes t f (Stays a n) = as_before t.now a n
        heard_by p comes t f (Begins n) = record { old = λ q less low. absurd (omega (arith, less, n)); new = λ q past less. absurd (omega (arith, less, n)) }
        heard_by p comes t f (Reads j d scans awaited ends a n) = record {
          old = λ q less low. subst (λ (y : Layout). WasSettled m (after m h zs) y.epoch q) (sym a.proj) (by q (less_or_here q z.next (subst (λ i. q < i) n less)) (subst (λ (y : Layout). q < y.start) a.proj low));
          new = λ q past less. absurd (let b = (low_holds m h xs).1.scans s in let u = b.below j scans in let v : proj.start ≤ q = subst (λ (y : Layout). y.start ≤ q) a.proj past in omega (arith, less, n, u, v));
        }
          where
            by : (q : ℕ) → (q < z.next) ⊎ (q ≡ z.next) → q < proj.start → WasSettled m (after m h zs) proj.epoch q
            by q (inl less) low = k.old q less low
            by q (inr is) low = subst (λ i. WasSettled m (after m h zs) proj.epoch i) (((low_holds m h xs).1.scans s).at j scans ∙ sym is) (settled_late j.place.pos (read p comes j scans awaited d ends))
        heard_by p comes t f (Jumps j b scans awaited ends a n) = record {
          old = λ q less low. subst (λ (y : Layout). WasSettled m (after m h zs) y.epoch q) (sym a.proj) (settled_late q (jumped p comes j scans awaited b ends q (less_min q b proj.start (subst (λ i. q < i) n less))));
          new = λ q past less. absurd (apart q (subst (λ i. q < i) n less) (subst (λ (y : Layout). y.start ≤ q) a.proj past));
        }
          where
            apart : (q : ℕ) → q < min b proj.start → proj.start ≤ q → ⊥
            apart q x y = grind arith
        heard_by p comes t f (Issues os is ready a n sends) = record {
          old = λ q less low. subst (λ (y : Layout). WasSettled m (after m h zs) y.epoch q) (sym a.proj)
              (let start = not_scanning z.next proj.start ready in let u : q < proj.start = subst (λ (y : Layout). q < y.start) a.proj low in k.old q (omega (arith, start, u)) u);
          new = λ q past less. subst (λ i. IssuedAt i q) (sym a.epoch) (by q (less_or_here q z.next (subst (λ i. q < i) n less)) (subst (λ (y : Layout). y.start ≤ q) a.proj past));
        }
          where
            up : (y : Packet) → Has (after m h xs).packets y → Has (after m h zs).packets y
            up y g = grow m h zs r xs (Takes e ∷ ys) split y g

            here : IssuedAt z.epoch z.next
            here = record {
              seqr = s;
              streams = os;
              links = links_of z.lists os;
              issued = record {
                ask = p;
                answer = packet_of m (seqr_id s) (out p.from p.rid (msg.Issued z.next (links_of z.lists os)));
                asked = contained (after m h zs).packets p (up p comes.sent);
                answered = contained (after m h zs).packets (packet_of m (seqr_id s) (out p.from p.rid (msg.Issued z.next (links_of z.lists os))))
                    (f (packet_of m (seqr_id s) (out p.from p.rid (msg.Issued z.next (links_of z.lists os))))
                    (has_right (after m h xs).packets (map (packet_of m (seqr_id s)) t.sends) (packet_of m (seqr_id s) (out p.from p.rid (msg.Issued z.next (links_of z.lists os)))) (mapped t.sends (out p.from p.rid (msg.Issued z.next (links_of z.lists os))) sends)));
                to_seqr = comes.to_node;
                from_seqr = refl;
                back = refl;
                number = refl;
                asks = is;
                issues = refl;
              };
            }
              where
                mapped : (os : List Out) (o : Out) → Has os o → Has (map (packet_of m (seqr_id s)) os) (packet_of m (seqr_id s) o)
                mapped [] o i = absurd i
                mapped (x ∷ xs) o (inl i) = inl (ap (packet_of m (seqr_id s)) i)
                mapped (x ∷ xs) o (inr i) = inr (mapped xs o i)

            by : (q : ℕ) → (q < z.next) ⊎ (q ≡ z.next) → proj.start ≤ q → IssuedAt z.epoch q
            by q (inl less) past = k.new q past less
            by q (inr at) past = subst (λ i. IssuedAt z.epoch i) (sym at) here

        swept : (t : SeqrTurn) → SeqrInput m (config m (after m h xs)) s t → SentLate (seqr_turn m (config m (after m h xs)) s t).packets → Swept t.now
        unfolding seqr_tick
        swept t (Hears p comes) f = heard_by p comes (seqr_step z p.from p.rid p.msg) f (sweeps z p.from p.rid p.msg)
        swept t Ticks f = as_before z (record { epoch = refl; proj = refl }) refl

        -- what it tells
        tells_whole : (o : Out) (pos : ℕ) (ls : List StreamLink) → (g : Tells m (config m (after m h xs)) s o pos ls) → (n : ℕ) (os : List Oid) → asks_links g.ask.msg ≡ Some (n, os) → Whole s n pos
        tells_whole o pos ls g n os asks = by (g.told.links n os asks)
          where
            by : (n ≡ z.epoch) × (scanning z ≡ false) × (pos ≡ z.next) × (ls ≡ links_of z.lists os) → Whole s n pos
            by q =
                let start = not_scanning z.next proj.start q.1 in
                let at = q.2 in
                record {
                  proj = proj;
                  decided = proj_late;
                  own = λ some. (((naming_holds m h xs).seqs s).own (let i = q.0 in omega (arith, some, i))).0 ∙ sym q.0;
                  old = λ i low. k.old i (omega (arith, low, start)) low;
                  new = λ i past less. subst (λ y. IssuedAt y i) (sym q.0) (k.new i past (omega (arith, less, at)));
                }

    module _ (held : HeldLate (config m (after m h xs))) where
      calm : IsCalm m role.Seqr (config m (after m h xs)) HeldLate
      calm d q f =
          let before = held (λ x g. f x (q.grows.sent x g)) in
          record {
            seqrs = λ s. subst Swept (λ i. slice_index_or (sym (q.seqrs refl) i) s (new_seqr s (sym q.cluster i).limit (first_layout (sym q.cluster i)))) (before.seqrs s);
            told = λ s a pos ls has from tells. answered_on c.packets d.packets s a pos q.grows.sent (before.told s a pos ls (q.old a has (ap (λ (n : NodeId). n.role) from)) from tells);
          }

      own : (s : ℕ) (t : SeqrTurn) → SeqrInput m (config m (after m h xs)) s t → s < length (after m h xs).seqrs → HeldLate (seqr_turn m (config m (after m h xs)) s t)
      own s t i less f = record {
        seqrs = at_set (after m h xs).seqrs s t.now (λ j. new_seqr j (after m h xs).cluster.limit (first_layout (after m h xs).cluster)) (λ j x. Swept x) less (swept s (before.seqrs s) t i f) (λ j other. before.seqrs j);
        told = λ j a pos ls has from tells. by j a pos ls from tells (has_either (after m h xs).packets (map (packet_of m (seqr_id s)) t.sends) a has);
      }
        where
          up : (x : Packet) → Has (after m h xs).packets x → Has (seqr_turn m (config m (after m h xs)) s t).packets x
          up x g = has_left (after m h xs).packets _ x g

          before : Held (config m (after m h xs))
          before = held (λ x g. f x (up x g))

          here : (a : Packet) (pos : ℕ) (ls : List StreamLink) (o : Out) → a ≡ packet_of m (seqr_id s) o → Tells m c s o pos ls → Answered (seqr_turn m c s t).packets s a pos
          here a pos ls o is k = record {
            ask = k.ask;
            has = up k.ask k.comes.sent;
            to = k.comes.to_node ∙ sym (ap (λ (x : Packet). x.from) is);
            from = sym (ap (λ (x : Packet). x.to) is ∙ k.told.to);
            rid = sym (ap (λ (x : Packet). x.rid) is ∙ k.told.number);
            request = k.told.request;
            whole = λ n os asks. tells_whole s (before.seqrs s) o pos ls k n os asks;
          }

          by : (j : ℕ) (a : Packet) (pos : ℕ) (ls : List StreamLink) → a.from ≡ seqr_id j → tells_links a.msg ≡ Some (pos, ls) → Has (after m h xs).packets a ⊎ Has (map (packet_of m (seqr_id s)) t.sends) a → Answered (seqr_turn m c s t).packets j a pos
          by j a pos ls from tells (inl g) = answered_on c.packets _ j a pos up (before.told j a pos ls g from tells)
          by j a pos ls from tells (inr g) =
              let o = has_map (packet_of m (seqr_id s)) t.sends a g in
              let same : s ≡ j = ap (λ (n : NodeId). n.num) (sym (ap (λ (x : Packet). x.from) o.is) ∙ from) in
              subst (λ n. Answered (seqr_turn m c s t).packets n a pos) same (here a pos ls o.of o.is (turn_tells m c s t i o.of pos ls o.has (sym (ap (λ (x : Packet). tells_links x.msg) o.is) ∙ tells)))

      stepped : HeldLate (config m (happens m (after m h xs) e))
      stepped = step_cases m (after m h xs) HeldLate (by_seqr m HeldLate (config m (after m h xs)) held calm own) e

  -- Along the run.

  then_takes : (xs : Moves m) (e : EventOf m) → after m h (xs ++ Takes e ∷ []) ≡ happens m (after m h xs) e
  unfolding run
  then_takes xs e = run_both m xs (Takes e ∷ []) (start m h)

  then_next : (xs : Moves m) → after m h (xs ++ Counts ∷ []) ≡ next_event m (after m h xs)
  unfolding run
  then_next xs = run_both m xs (Counts ∷ []) (start m h)

  held_on : (xs ms ys : Moves m) → zs ≡ xs ++ (ms ++ ys) → HeldLate (config m (after m h xs)) → HeldLate (config m (after m h (xs ++ ms)))
  held_on xs [] ys e a = subst (λ (us : Moves m). HeldLate (config m (after m h us))) (sym (append-nil xs)) a
  held_on xs (Counts ∷ ms) ys e a =
      subst (λ (us : Moves m). HeldLate (config m (after m h us))) (joined xs (Counts ∷ []) ms)
      (held_on (xs ++ Counts ∷ []) ms ys (e ∙ sym (joined xs (Counts ∷ []) (ms ++ ys))) (subst (λ (u : World m). HeldLate (config m u)) (sym (then_next xs)) (λ f. record { seqrs = (a f).seqrs; told = (a f).told })))
  held_on xs (Takes x ∷ ms) ys e a =
      subst (λ (us : Moves m). HeldLate (config m (after m h us))) (joined xs (Takes x ∷ []) ms)
      (held_on (xs ++ Takes x ∷ []) ms ys (e ∙ sym (joined xs (Takes x ∷ []) (ms ++ ys))) (subst (λ (u : World m). HeldLate (config m u)) (sym (then_takes xs x)) (stepped xs x (ms ++ ys) e a)))

  start_swept : (n : ℕ) → Swept (new_seqr n h.limit (first_layout h))
  unfolding new_seqr
  start_swept n = record { old = λ q less low. absurd (omega (arith, less)); new = λ q past less. absurd (omega (arith, less)) }

  start_held : HeldLate (config m (after m h []))
  unfolding run start
  start_held f = record { seqrs = λ s. at_map (λ n. new_seqr n h.limit (first_layout h)) (numbers h.seqs 0) s (new_seqr s h.limit (first_layout h)) Swept (λ n. start_swept n) (start_swept s); told = λ s a pos ls has. absurd has }

  held_now : Held (config m (after m h zs))
  held_now = held_on [] zs [] (sym (append-nil zs)) start_held (λ x g. g)

  -- So a confirmed tail is whole.

  whole_here : (epoch tail : ℕ) → ConfirmedTail m (after m h zs) (after m h zs) epoch tail → IsWhole m (after m h zs) epoch tail
  whole_here epoch tail t =
      let told = t.told in
      let g = held_now.told t.layout.seq told.answer tail told.links (has_contained _ told.answer told.answered) told.from_seqr (ap tells_links told.tells ∙ tail_links tail told.links) in
      let same : told.ask.msg ≡ g.ask.msg = (numbers_once m (config m (after m h zs)) (all_hold m h zs).0.0).same told.ask g.ask (has_contained _ told.ask told.asked) g.has (check_request told.ask.msg epoch told.streams told.asks) g.request
      (sym told.back ∙ sym g.from) (told.to_seqr ∙ sym (g.to ∙ told.from_seqr)) (sym told.number ∙ sym g.rid) in
      by (g.whole epoch told.streams (ap asks_links (sym same ∙ told.asks) ∙ check_links epoch told.streams))
    where
      by : Whole t.layout.seq epoch tail → IsWhole m (after m h zs) epoch tail
      by k =
          let e : k.proj.epoch ≡ epoch = k.own t.some in
          record {
            layout = k.proj;
            decided = subst (λ n. IsDecided m (after m h zs) n k.proj) e k.decided;
            old = λ q low. subst (λ n. WasSettled m (after m h zs) n q) e (k.old q low);
            new = λ q past less. named q (k.new q past less);
          }
        where
          named : (q : ℕ) → IssuedAt epoch q → WasIssued m (after m h zs) epoch q
          named q i =
              let some = tokens_name m h zs (after m h zs) r i.issued.ask epoch i.streams i.issued.asked i.issued.asks in
              record { seqr = i.seqr; streams = i.streams; links = i.links; issued = i.issued; stream = some.0; here = some.1 }

module _ (m : Meaning) where
  pub tails_are_whole : TailsAreWhole m
  tails_are_whole h ms w r trims =
      subst (λ (v : World m). Reaches m h ms v → (epoch tail : ℕ) → ConfirmedTail m v v epoch tail → IsWhole m v epoch tail) (sym r.goes.is) (λ a epoch tail t. whole_here m h ms a trims epoch tail t) r
