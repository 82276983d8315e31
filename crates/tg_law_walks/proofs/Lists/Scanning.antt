-- What a scan's cell ends with is true of the log that the run ends with, and a trim that it meets leaves each stream
-- something past it.
use Rattle.std.proofs.Common.{◌≡◌, ◌⊎◌, ℕ, zero, suc, ◌+◌, ◌<◌, ◌≤◌, List, [], ◌∷◌, ◌++◌, true, refl, sym, ap, ◌∙◌, subst, inl, inr, arith, Some, Option}
use Rattle.std.specs.Prelude.{Contains, nat_lt}
use Rattle.std.proofs.lemmas.Bool.Decides.{nat_tests}
use Rattle.tg_base.specs.Clusters.{Header}
use Rattle.tg_base.specs.Layouts.{Layout}
use Rattle.tg_base.specs.declared.cell.Cell.{Cell}
use Rattle.tg_base.specs.declared.cell.Cell.TheVariants.{Data}
use Rattle.tg_base.specs.declared.ids.Oid.{Oid}
use Rattle.tg_base.specs.declared.msg.Msg.{Msg}
use Rattle.tg_base.specs.declared.msg.Msg.TheVariants as msg
use Rattle.tg_base.specs.declared.packet.Out.{Out}
use Rattle.tg_base.specs.declared.packet.Packet.{Packet}
use Rattle.tg_kind.specs.Meaning.{Meaning}
use Rattle.tg_model.specs.Kinds.{EventOf}
use Rattle.tg_protocol.specs.Words.{seqr_id, unit_id, cell_at}
use Rattle.tg_protocol.specs.Entries.{streams_of}
use Rattle.tg_protocol.specs.Pages.{cell_entry}
use Rattle.tg_protocol.specs.Units.{unit_ask}
use Rattle.tg_protocol.specs.Requests.{awaits, Next, Ends}
use Rattle.tg_protocol.specs.Replies.{Reply, reply}
use Rattle.tg_protocol.specs.Replies as replied
use Rattle.tg_protocol.specs.Cells.{Place, CellWork, CellJob, CellTurn, CellEnd, Done, Gone, cell_asks, cell_feed, work_asks, works}
use Rattle.tg_protocol.specs.Sequencers.{SeqrState, scanning, scan_asks}
use Rattle.tg_protocol.specs.Worlds.{World, start, log}
use Rattle.tg_protocol.specs.Chosen.{IsDecided}
use Rattle.tg_protocol.specs.Runs.{Moves, Takes, Reaches, Later, LawfulCommand}
use Rattle.tg_law_layouts.specs.Moves.After.{after}
use Rattle.tg_law_layouts.specs.Moves.Configs.{config, seqr_in}
use Rattle.tg_law_layouts.proofs.Moves.Always.{lawful_give}
use Rattle.tg_law_layouts.proofs.Moves.Lists.{contained}
use Rattle.tg_law_layouts.proofs.Moves.Members.{Has, has_contained}
use Rattle.tg_law_layouts.proofs.Moves.Moves.{AllGive}
use Rattle.tg_law_layouts.proofs.Requests.Numbers.{numbers_once}
use Rattle.tg_law_layouts.proofs.Requests.Starts.{All, all_hold}
use Rattle.tg_law_layouts.specs.Layouts.Decisions.{IsOfDecided}
use Rattle.tg_law_layouts.proofs.Layouts.Deciding.{layouts_are_known, one_layout}
use Rattle.tg_law_steps.proofs.Machines.Cells.{IsOne, OnePut, OneGet, OneFill, OneCopy, Fed, IsTrim, cell_fed}
use Rattle.tg_law_cells.specs.Cells.Settled.{IsSettled}
use Rattle.tg_law_cells.proofs.Cells.Justified.{Awaited, awaited_ask}
use Rattle.tg_law_cells.proofs.Cells.Jobs.{JobOk, MaybeOk}
use Rattle.tg_law_cells.proofs.Cells.Stores.{cells_hold}
use Rattle.tg_law_cells.specs.Tokens.Issuing.{Issued, IsOwnPage}
use Rattle.tg_law_cells.proofs.Tokens.Issues.{asked_of, low_holds, same_asked, token_epoch}
use Rattle.tg_law_cells.proofs.Tokens.Named.{issuer_is_named, naming_holds}
use Rattle.tg_law_cells.proofs.Tokens.Own.{pages_are_own}
use Rattle.tg_law_cells.specs.Homes.Homes.{Home, TrimAsked, ToldGone, epoch_asked}
use Rattle.tg_law_cells.proofs.Homes.Gones.{gone_is_asked}
use Rattle.tg_law_cells.proofs.Homes.Homes.{settled_has_home, settled_is_below}
use Rattle.tg_law_cells.proofs.Entries.Archive.{settled_later}
use Rattle.tg_law_walks.specs.Walks.Streams.{entry_lists, stands_in}
use Rattle.tg_law_walks.specs.Walks.Seqrs.{IsHeldPast, ScanEndsAs}
use Rattle.tg_law_walks.proofs.Walks.Reading.{scans_read_settled}
use Rattle.tg_law_walks.specs.Lists.Drafted.{DraftsFit}
use Rattle.tg_law_walks.specs.Lists.Spared.{IsSaved, WasSettled, TrimsWereSpare}
use Rattle.tg_law_walks.proofs.Lists.Ends.{cell_of, once_there, stands_there}
use Rattle.tg_law_walks.proofs.Lists.Reached.{before_reached, goes_later}
use Rattle.tg_law_walks.proofs.Lists.Safe.{safe_of, safe_before}

-- Where a cell's reading ends at a trim.

abbrev pub OfUnit : ℕ → Out → Type 0
OfUnit epoch o = (epoch_asked (unit_ask o.msg) ≡ epoch) × ((u : ℕ) × (o.to ≡ unit_id u))

pub record AtTrim (j : CellJob) (x : Reply) (b : ℕ) : Type 0 where
  pub says : x ≡ replied.IsGone b
  pub past : j.place.pos < b
  pub asks : (o : Out) → Has (cell_asks j) o → OfUnit j.place.epoch o

less_of : (a b : ℕ) → nat_lt a b ≡ true → a < b
less_of a b e = grind (arith, nat_tests)

one_asks : (to : ℕ) (r : ℕ) (y : Msg) (epoch : ℕ) → epoch_asked (unit_ask y) ≡ epoch → (o : Out) → Has (record { to = unit_id to; rid = r; msg = y } ∷ []) o → OfUnit epoch o
one_asks to r y epoch e o (inl i) = subst (OfUnit epoch) (sym i) (e, (to, refl))
one_asks to r y epoch e o (inr i) = absurd i

gone_asks : (a : Place) (w : CellWork) → IsOne w → (o : Out) → Has (cell_asks (works a w)) o → OfUnit a.epoch o
unfolding work_asks epoch_asked unit_ask
gone_asks a _ (OnePut r d i) o h = one_asks _ r _ a.epoch refl o h
gone_asks a _ (OneGet r) o h = one_asks _ r _ a.epoch refl o h
gone_asks a _ (OneFill r) o h = one_asks _ r _ a.epoch refl o h
gone_asks a _ (OneCopy r c i) o h = one_asks _ r _ a.epoch refl o h

abbrev gone_end : ℕ → Next CellJob CellEnd
gone_end b = Ends (Gone b)

same_end : (b c : ℕ) → gone_end b ≡ gone_end c → b ≡ c
same_end b c e = cc

turn_trim : (u : ℕ) (x : Reply) (next b : ℕ) (j : CellJob) (t : CellTurn) → Fed u x next j t → t.to ≡ Ends (Gone b) → AtTrim j x b
turn_trim u x next b _ _ (IsTrim a w c one is past) e = subst (AtTrim (works a w) x) (same_end c b e) (record { says = is; past = less_of a.pos c past; asks = gone_asks a w one })
turn_trim u x next b _ _ came e = absurd (cc)

pub at_trim : (j : CellJob) (u : ℕ) (x : Reply) (next b : ℕ) → (cell_feed j u x next).to ≡ Ends (Gone b) → AtTrim j x b
at_trim j u x next b e = turn_trim u x next b j _ (cell_fed u x next j) e

pub is_gone : (y : Msg) (b : ℕ) → reply y ≡ replied.IsGone b → y ≡ msg.Gone b
unfolding reply
is_gone y b h = grind arith

module _ (m : Meaning) (h : Header) (zs : Moves m) (r : Reaches m h zs (after m h zs)) (trims : TrimsWereSpare m h zs) (fit : DraftsFit m (after m h zs)) (xs : Moves m) (e : EventOf m) (ys : Moves m) (split : zs ≡ xs ++ Takes e ∷ ys) where
  abbrev v : World m
  v = after m h zs

  abbrev w : World m
  w = after m h xs

  rw : Reaches m h xs (after m h xs)
  rw = before_reached m h zs r xs (Takes e ∷ ys) split

  later : Later m (after m h xs) (after m h zs)
  later = goes_later m h zs r xs (Takes e ∷ ys) split

  give : AllGive m (LawfulCommand m) (xs ++ Takes e ∷ ys)
  give = subst (λ (ms : Moves m). AllGive m (LawfulCommand m) ms) split (lawful_give m (start m h).cluster zs r.goes.lawful)

  pub settled_on : (p : ℕ) (c : Cell) → IsSettled m (after m h xs) p c → IsSettled m (after m h zs) p c
  settled_on p c s = subst (λ (ms : Moves m). IsSettled m (after m h ms) p c) (sym split) (settled_later m h xs (Takes e ∷ ys) r.header give p c s)

  module _ (s : ℕ) (p : Packet) (sent : Has (after m h xs).packets p) (to : p.to ≡ seqr_id s) (j : CellJob) (scans : (seqr_in m (config m (after m h xs)) s).scan ≡ Some j)
      (at : j.place.pos ≡ (seqr_in m (config m (after m h xs)) s).next) (scanning' : scanning (seqr_in m (config m (after m h xs)) s) ≡ true)
      (none : (seqr_in m (config m (after m h xs)) s).epoch ≡ 0 → (seqr_in m (config m (after m h xs)) s).proj.start ≡ 0)
      (awaited : awaits (cell_asks j) p.from p.rid ≡ true) where
    abbrev z : SeqrState
    z = seqr_in m (config m (after m h xs)) s

    abbrev E : ℕ
    E = (seqr_in m (config m (after m h xs)) s).proj.epoch

    -- a cell
    done : (c : Cell) → (cell_feed j p.from.num (reply p.msg) z.rids).to ≡ Ends (Done c) → ScanEndsAs (log m (after m h zs)) z (Ends (Done c))
    done c f =
        let k = settled_on j.place.pos c (scans_read_settled m h xs (after m h xs) rw s p j c (record { scans = scans; sent = contained _ p sent; to = to; awaited = awaited }) f) in
        (subst (λ (n : ℕ). cell_at (log m (after m h zs)) n ≡ Some c) at (cell_of m h zs r (safe_of m h zs r trims) j.place.pos c k), once_there m h zs r fit j.place.pos c k)

    -- A trim.

    started : z.next < z.proj.start
    started = less_of z.next z.proj.start scanning'

    some_epoch : 0 < z.epoch
    some_epoch = by z.epoch refl
      where
        by : (n : ℕ) → z.epoch ≡ n → 0 < z.epoch
        by zero i = let k = none i in let l = started in absurd (omega (arith, k, l))
        by (suc n) i = omega (arith, i)

    own : (z.proj.epoch ≡ z.epoch) × (z.proj.seq ≡ s)
    own = ((naming_holds m h xs).seqs s).own some_epoch

    proj_decided : IsOfDecided m (after m h xs) z.proj
    proj_decided = (layouts_are_known m h xs (after m h xs) rw).seqrs s

    -- what is settled up to this epoch lies below its start: the sequencer has issued nothing there
    below_start : (q : ℕ) (d : List ℕ) → (k : IsSettled m (after m h xs) q (Data d)) → k.layout.epoch ≤ z.proj.epoch → q < z.proj.start
    below_start q d k le = by (which k.layout.epoch z.proj.epoch le)
      where
        which : (a b : ℕ) → a ≤ b → (a < b) ⊎ (a ≡ b)
        which a b le = grind arith

        home : Home m (after m h xs) q d k.layout.epoch
        home = settled_has_home m h xs (after m h xs) rw q d k

        own_page : IsOwnPage m (after m h xs) home.write.from home.epoch q d
        own_page = pages_are_own m h xs (after m h xs) rw home.write home.epoch q d home.sent home.is

        here : home.epoch ≡ z.proj.epoch → q < z.proj.start
        here i = issued_here (subst (λ (n : ℕ). Issued m (after m h xs) own_page.seqr n q (streams own_page) own_page.links) (i ∙ own.0) own_page.issued)
          where
            streams : IsOwnPage m (after m h xs) home.write.from home.epoch q d → List Oid
            streams o = streams_of o.draft

            issued_here : Issued m (after m h xs) own_page.seqr z.epoch q (streams own_page) own_page.links → q < z.proj.start
            issued_here a =
                let named = issuer_is_named m h xs (after m h xs) rw own_page.seqr z.epoch q _ own_page.links a some_epoch in
                let same : named.layout ≡ z.proj = one_layout m h xs (after m h xs) rw z.epoch named.layout z.proj named.decided (subst (λ (n : ℕ). IsDecided m (after m h xs) n z.proj) own.0 proj_decided) in
                let mine : own_page.seqr ≡ s = sym named.names ∙ (ap (λ (x : Layout). x.seq) same ∙ own.1) in
                of_mine (subst (λ (n : ℕ). Issued m (after m h xs) n z.epoch q (streams own_page) own_page.links) mine a)
              where
                of_mine : Issued m (after m h xs) s z.epoch q (streams own_page) own_page.links → q < z.proj.start
                of_mine a =
                    let low = low_holds m h xs in
                    let o = low.1.ours s a.answer q own_page.links (has_contained _ a.answer a.answered) a.from_seqr a.issues in
                    let asked = asked_of m (after m h xs) s z.epoch q (streams own_page) own_page.links a in
                    let same = token_epoch o.epoch z.epoch o.os (streams own_page) (same_asked (after m h xs).packets (numbers_once m (config m (after m h xs)) low.0.0.0) a.answer o.epoch z.epoch o.os (streams own_page) o.asked asked) in
                    let k = o.here same in
                    let n = k.1 in
                    let l = started in
                    omega (arith, n, l)

        by : (k.layout.epoch < z.proj.epoch) ⊎ (k.layout.epoch ≡ z.proj.epoch) → q < z.proj.start
        by (inl less) = settled_is_below m h xs (after m h xs) rw q (Data d) k z.proj proj_decided less
        by (inr i) = at_home (which home.epoch z.proj.epoch (let a = home.up_to in omega (arith, a, i)))
          where
            at_home : (home.epoch < z.proj.epoch) ⊎ (home.epoch ≡ z.proj.epoch) → q < z.proj.start
            at_home (inl less) = home.past z.proj proj_decided less
            at_home (inr j') = here j'

    job_ok : JobOk (after m h xs).packets z.proj j
    job_ok = subst (λ (o : Option CellJob). MaybeOk (after m h xs).packets z.proj o) scans ((cells_hold m h xs).scans s)

    told_gone : (b : ℕ) → AtTrim j (reply p.msg) b → (u : ℕ) × ToldGone m (after m h xs) u z.proj.epoch b
    told_gone b g = by (awaited_ask (cell_asks j) p.from p.rid awaited)
      where
        by : Awaited (cell_asks j) p.from p.rid → (u : ℕ) × ToldGone m (after m h xs) u z.proj.epoch b
        by a =
            let of = g.asks a.ask a.has in
            let all : All m (config m (after m h xs)) = all_hold m h xs in
            let from : p.from ≡ unit_id of.1.0 = sym a.to ∙ of.1.1 in
            let heard = all.0.1.answered of.1.0 p sent from in
            let same : a.ask.msg ≡ heard.ask.msg = (all.0.0.seqrs s).agree a.ask heard.ask (subst (λ (o : Option CellJob). Has (scan_asks o) a.ask) (sym scans) a.has) heard.asked (heard.from ∙ to) heard.request (a.number ∙ sym heard.rid) (a.to ∙ sym heard.to) in (
              of.1.0,
              record {
                ask = heard.ask;
                answer = p;
                asked = contained _ heard.ask heard.asked;
                answered = contained _ p sent;
                to_unit = heard.to ∙ from;
                from_unit = from;
                back = sym heard.from;
                number = sym heard.rid;
                request = heard.request;
                of = ap (λ (y : Msg). epoch_asked (unit_ask y)) (sym same) ∙ (of.0 ∙ ap (λ (y : Place). y.epoch) job_ok.place);
                is = is_gone p.msg b g.says;
              },
            )

    -- a position below the trim stands in the log of this world as it does at the end
    stood : (o : Oid) (q b epoch : ℕ) (x : Packet) → Contains (after m h xs).packets x → x.msg ≡ msg.Trim epoch b → q < b → stands_in (log m (after m h zs)) o q ≡ true → stands_in (log m (after m h xs)) o q ≡ true
    stood o q b epoch x has is less st = by ((trims.spare (after m h xs) (record { before = xs; event = e; later = ys; split = split; is = refl })).whole x epoch b q has is less)
      where
        by : WasSettled m (after m h xs) epoch q → stands_in (log m (after m h xs)) o q ≡ true
        by g =
            let early = cell_of m h xs rw (safe_before m h zs r trims xs (Takes e ∷ ys) split) q g.cell g.settled in
            let late = cell_of m h zs r (safe_of m h zs r trims) q g.cell (settled_on q g.cell g.settled) in
            ap (λ (y : Option Cell). entry_lists o (cell_entry y)) (early ∙ sym late) ∙ st

    gone : (b : ℕ) → AtTrim j (reply p.msg) b → IsHeldPast (log m (after m h zs)) b z.proj.start
    gone b g o q less st = by (told_gone b g)
      where
        saved : (t : TrimAsked m (after m h xs) z.proj.epoch b) → IsSaved m (after m h xs) o t.of b
        saved t = (trims.spare (after m h xs) (record { before = xs; event = e; later = ys; split = split; is = refl })).saved t.packet t.of b q o t.sent t.is less (stood o q b t.of t.packet t.sent t.is less st)

        by : (u : ℕ) × ToldGone m (after m h xs) u z.proj.epoch b → (n : ℕ) × (b ≤ n) × (n < z.proj.start) × (stands_in (log m (after m h zs)) o n ≡ true)
        by t = held (gone_is_asked m h xs (after m h xs) rw t.0 z.proj.epoch b t.1 (let a = g.past in omega (arith, a)))
          where
            held : TrimAsked m (after m h xs) z.proj.epoch b → (n : ℕ) × (b ≤ n) × (n < z.proj.start) × (stands_in (log m (after m h zs)) o n ≡ true)
            held t =
                let k = saved t in
                let a = k.in_time in
                let c = t.up_to in (
                  k.at,
                  k.after,
                  below_start k.at k.page k.settled (omega (arith, a, c)),
                  stands_there (log m (after m h zs)) o k.at k.page k.entry (cell_of m h zs r (safe_of m h zs r trims) k.at (Data k.page) (settled_on k.at (Data k.page) k.settled)) k.reads k.stands,
                )

    ends_as : (to' : Next CellJob CellEnd) → (cell_feed j p.from.num (reply p.msg) z.rids).to ≡ to' → ScanEndsAs (log m (after m h zs)) z to'
    ends_as (Ends (Done c)) f = done c f
    ends_as (Ends (Gone b)) f = gone b (at_trim j p.from.num (reply p.msg) z.rids b f)
    ends_as x f = tt

    pub scan_ends : ScanEndsAs (log m (after m h zs)) z (cell_feed j p.from.num (reply p.msg) z.rids).to
    scan_ends = ends_as (cell_feed j p.from.num (reply p.msg) z.rids).to refl
