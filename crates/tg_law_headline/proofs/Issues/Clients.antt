-- Over a run, each position that is named lies below what the run's last world has issued.
use Rattle.std.proofs.Common.{◌≡◌, ◌≢◌, ◌⊎◌, ℕ, ◌+◌, ◌-◌, ◌<◌, ◌≤◌, List, [], ◌∷◌, ◌++◌, length, map, Bool, true, false, refl, sym, ap, ◌∙◌, subst, inl, inr, arith, Some, None, Option, append-nil}
use Rattle.std.specs.Prelude.{nat_le}
use Rattle.std.specs.List.{list_all}
use Rattle.std.proofs.lemmas.Bool.Decides.{nat_tests}
use Rattle.tg_base.specs.Clusters.{Header}
use Rattle.tg_base.specs.Layouts.{Layout}
use Rattle.tg_base.specs.declared.cell.Cell.{Cell}
use Rattle.tg_base.specs.declared.ids.Oid.{Oid}
use Rattle.tg_base.specs.declared.layout.Range.{Range}
use Rattle.tg_base.specs.declared.marks.StreamLink.{StreamLink}
use Rattle.tg_base.specs.declared.msg.Msg.{Msg}
use Rattle.tg_base.specs.declared.msg.Msg.TheVariants as msg
use Rattle.tg_base.specs.declared.packet.Out.{Out}
use Rattle.tg_base.specs.declared.packet.Packet.{Packet}
use Rattle.tg_base.proofs.Rules.{layout_rules}
use Rattle.tg_kind.specs.Meaning.{Meaning}
use Rattle.tg_model.specs.Kinds.{EventOf}
use Rattle.tg_proj.specs.Places.{range_at}
use Rattle.tg_protocol.specs.Words.{client_id, seqr_id, unit_id}
use Rattle.tg_protocol.specs.Entries.{streams_of}
use Rattle.tg_protocol.specs.Units.{unit_ask}
use Rattle.tg_protocol.specs.Requests.{awaits, Next, Ends}
use Rattle.tg_protocol.specs.Replies.{reply, IsTail, IsIssued, IsLatest}
use Rattle.tg_protocol.specs.Cells.{Place, place_in, last_unit, CellJob, CellEnd, Done, Gone, cell_feed}
use Rattle.tg_protocol.specs.Appending.{AppendWork, Asking, Append, append_work_asks}
use Rattle.tg_protocol.specs.Syncing.{Answer, SyncWork, Checking, Settling, Sync}
use Rattle.tg_protocol.specs.Clients.{Task, Syncing, Appending, Walking, Copying', Reconfiguring, Hand, Doing, Work, Client, Purpose, new_client}
use Rattle.tg_protocol.specs.Clients as task
use Rattle.tg_protocol.specs.ClientSteps.{task_asks, task_awaited}
use Rattle.tg_protocol.specs.Worlds.{start}
use Rattle.tg_protocol.specs.Runs.{Moves, Takes, Reaches, Later, LawfulCommand}
use Rattle.tg_law_layouts.specs.Moves.After.{after}
use Rattle.tg_law_layouts.specs.Moves.Configs.{config, client_in, seqr_in}
use Rattle.tg_law_layouts.specs.Moves.Telling.{is_request}
use Rattle.tg_law_layouts.proofs.Moves.Always.{lawful_give}
use Rattle.tg_law_layouts.proofs.Moves.Clients.{reserved, work_reserved, hand_reserved}
use Rattle.tg_law_layouts.proofs.Moves.Lists.{contained}
use Rattle.tg_law_layouts.proofs.Moves.Members.{Has, has_contained}
use Rattle.tg_law_layouts.proofs.Moves.Moves.{AllGive, Comes}
use Rattle.tg_law_layouts.proofs.Requests.Starts.{All, all_hold}
use Rattle.tg_law_layouts.specs.Layouts.Decisions.{IsOfDecided, TellsDecided}
use Rattle.tg_law_layouts.proofs.Layouts.Deciding.{K, decided_for, known, layouts_are_known, layouts_are_sound, decided_stays}
use Rattle.tg_law_cells.proofs.Cells.Hands as cells
use Rattle.tg_law_cells.proofs.Cells.Jobs.{JobOk, SyncClaims, cell_ok, CellOk}
use Rattle.tg_law_cells.proofs.Cells.Justified.{Awaited, awaited_ask, ToldBy, EndOk, NextOk, heard}
use Rattle.tg_law_cells.proofs.Cells.Sent.{Heard, task_claims}
use Rattle.tg_law_cells.proofs.Cells.Settles.{Settled, Rooted, end_settles}
use Rattle.tg_law_cells.proofs.Cells.Settling.{facts, roots, told_here}
use Rattle.tg_law_cells.proofs.Cells.Stores.{cells_hold, up_to}
use Rattle.tg_law_cells.proofs.Cells.Successors.{words}
use Rattle.tg_law_cells.specs.Homes.Homes.{TrimAsked, ToldGone, epoch_asked}
use Rattle.tg_law_cells.proofs.Homes.Gones.{gone_is_asked}
use Rattle.tg_law_cells.proofs.Homes.Homes.{settled_is_below, starts_rise}
use Rattle.tg_law_walks.specs.Lists.Spared.{WasSettled}
use Rattle.tg_law_walks.specs.Lists.Telling.{asks_links, tells_links}
use Rattle.tg_law_walks.proofs.Lists.Reached.{before_reached, goes_later}
use Rattle.tg_law_walks.proofs.Lists.Scanning.{AtTrim, OfUnit, at_trim, is_gone}
use Rattle.tg_law_syncs.proofs.Syncs.Later.{late, grow}
use Rattle.tg_law_syncs.proofs.Syncs.Clients.{asked_check, settling_asks, job_of, last_below}
use Rattle.tg_law_headline.specs.Issues.Issues.{position_named, TailTold, IsBelow, BelowStart, WasIssued, BelowTail, TrimsInTime}
use Rattle.tg_law_headline.proofs.Issues.Machines.{AnswerOk, SyncHears, AppendHears}
use Rattle.tg_law_headline.proofs.Issues.Hands.{StandOk, NewerOk, ClientHears, TaskHears}
use Rattle.tg_law_headline.proofs.Issues.Sent.{named_pair}
use Rattle.tg_law_headline.proofs.Issues.Tails.{OurTail, asked_pair, told_pair, tails_hold}

is_tail : (y : Msg) (t : ℕ) (ls : List StreamLink) → reply y ≡ IsTail t ls → y ≡ msg.Tail t ls
unfolding reply
is_tail y t ls h = grind arith

is_issue : (y : Msg) (p : ℕ) (ls : List StreamLink) → reply y ≡ IsIssued p ls → y ≡ msg.Issued p ls
unfolding reply
is_issue y p ls h = grind arith

is_latest : (y : Msg) (q : Layout) → reply y ≡ IsLatest q → y ≡ msg.Latest q
unfolding reply
is_latest y q h = grind arith

tail_told : (t : ℕ) (ls : List StreamLink) → tells_links (msg.Tail t ls) ≡ told_pair t ls
unfolding tells_links
tail_told t ls = refl

issue_told : (t : ℕ) (ls : List StreamLink) → tells_links (msg.Issued t ls) ≡ told_pair t ls
unfolding tells_links
issue_told t ls = refl

check_asks : (e : ℕ) (os : List Oid) → asks_links (msg.Check e os) ≡ asked_pair e os
unfolding asks_links
check_asks e os = refl

pub named_asks : (x : Msg) (e p : ℕ) → position_named x ≡ named_pair e p → is_request x ≡ true
unfolding position_named is_request
named_asks x e p h = grind arith

-- what an append asks for a token
module _ (m : Meaning) (p : Layout) (a : Append) (y : Purpose m) where
  token_has : (w : AppendWork) (rid : ℕ) → w ≡ Asking rid → (o : Out) → Has (append_work_asks p a w) o → (o.to ≡ seqr_id p.seq) × (o.msg ≡ msg.Token p.epoch (streams_of a.draft))
  unfolding append_work_asks
  token_has (Asking r) rid e o (inl i) = (ap (λ (z : Out). z.to) i, ap (λ (z : Out). z.msg) i)
  token_has (Asking r) rid e o (inr i) = absurd i
  token_has (Rattle.tg_protocol.specs.Appending.Putting j) rid e o i = absurd (cc)
  token_has (Rattle.tg_protocol.specs.Appending.Judging j) rid e o i = absurd (cc)

  asked_token : (rid : ℕ) → a.work ≡ Asking rid → (o : Out) → Has (task_awaited m p (Appending a y)) o → (o.to ≡ seqr_id p.seq) × (o.msg ≡ msg.Token p.epoch (streams_of a.draft))
  unfolding task_asks
  asked_token rid e o i = token_has a.work rid e o i

-- a layout's ranges begin at its start or before
end_within : (s : ℕ) (rs : List Range) (n : ℕ) → list_all (λ (r : Range). nat_le r.lo s) rs ≡ true → (range_at rs n).lo ≤ s
end_within s [] n e = omega arith
end_within s (r ∷ rs) n e = by n (first r rs e) (λ k. end_within s rs k (rest r rs e))
  where
    first : (r : Range) (rs : List Range) → list_all (λ (x : Range). nat_le x.lo s) (r ∷ rs) ≡ true → r.lo ≤ s
    first r rs e = grind (arith, nat_tests, e)

    rest : (r : Range) (rs : List Range) → list_all (λ (x : Range). nat_le x.lo s) (r ∷ rs) ≡ true → list_all (λ (x : Range). nat_le x.lo s) rs ≡ true
    rest r rs e = grind (arith, e)

    by : (n : ℕ) → r.lo ≤ s → ((k : ℕ) → (range_at rs k).lo ≤ s) → (range_at (r ∷ rs) n).lo ≤ s
    by Rattle.std.proofs.Common.zero a ih = a
    by (Rattle.std.proofs.Common.suc n) a ih = ih n

module _ (m : Meaning) (h : Header) (zs : Moves m) (r : Reaches m h zs (after m h zs)) (trims : TrimsInTime m (after m h zs)) where
  abbrev pub B : ℕ → ℕ → Type 0
  B = IsBelow m (after m h zs)

  -- each later layout starts past a bound
  abbrev pub L : ℕ → ℕ → Type 0
  L e t = (q : Layout) → IsOfDecided m (after m h zs) q → e < q.epoch → t ≤ q.start

  stand_ok : (p : Layout) → IsOfDecided m (after m h zs) p → StandOk m B L p
  stand_ok p d = record {
    start = λ q less. BelowStart p d less;
    ranges = λ n. end_within p.start p.ranges (n + 1) (layout_rules p (layouts_are_sound m h zs (after m h zs) r p.epoch p d).rules).below_start;
  }

  newer_ok : (p q : Layout) → IsOfDecided m (after m h zs) q → p.epoch < q.epoch → NewerOk m B L p q
  newer_ok p q d less = record {
    stand = stand_ok q d;
    tail = λ t l. (λ x lt. BelowStart q d (let a = l q d less in omega (arith, a, lt)), λ u e lt. l u e (omega (arith, less, lt)));
  }

  low : (p : Layout) → IsOfDecided m (after m h zs) p → (t : ℕ) → t ≤ p.start → L p.epoch t
  low p d t le q e less = let up = starts_rise m h zs (after m h zs) r p q d e (omega (arith, less)) in omega (arith, le, up)

  -- a settled cell
  settled_bound : (epoch t : ℕ) → WasSettled m (after m h zs) epoch (t - 1) → L epoch t
  settled_bound epoch t g q e less = let a = g.in_time in last_below t q.start (settled_is_below m h zs (after m h zs) r (t - 1) g.cell g.settled q e (omega (arith, a, less)))

  module _ (xs : Moves m) (e : EventOf m) (ys : Moves m) (split : zs ≡ xs ++ Takes e ∷ ys) where
    rw : Reaches m h xs (after m h xs)
    rw = before_reached m h zs r xs (Takes e ∷ ys) split

    later : Later m (after m h xs) (after m h zs)
    later = goes_later m h zs r xs (Takes e ∷ ys) split

    pub give : AllGive m (LawfulCommand m) xs
    give = lawful_give m (start m h).cluster xs rw.goes.lawful

    grown : (x : Packet) → Has (after m h xs).packets x → Has (after m h zs).packets x
    grown x g = grow m h zs r xs (Takes e ∷ ys) split x g

    pub decided_late : (q : Layout) → IsOfDecided m (after m h xs) q → IsOfDecided m (after m h zs) q
    decided_late q d = (decided_stays m h xs (after m h xs) (after m h zs) rw later).stays q.epoch q d

    all : All m (config m (after m h xs))
    all = all_hold m h xs

    module _ (k : ℕ) (x : Packet) (comes : Comes m (config m (after m h xs)) x (client_id k)) where
      abbrev p : Layout
      p = (client_in m (config m (after m h xs)) k).stand

      stand_late : IsOfDecided m (after m h zs) p
      stand_late = decided_late p ((layouts_are_known m h xs (after m h xs) rw).clients k)

      newer : (q : Layout) → reply x.msg ≡ IsLatest q → p.epoch < q.epoch → NewerOk m B L p q
      newer q is less = newer_ok p q (decided_late q (subst (TellsDecided m (after m h xs)) (is_latest x.msg q is) ((layouts_are_known m h xs (after m h xs) rw).sent x (contained _ x comes.sent)))) less

      module _ (work : Work m) (t : Task m) (works : (client_in m (config m (after m h xs)) k).work ≡ Some work) (hand : work.hand ≡ Doing t) where
        -- its request, as it may still be answered
        open_out : (o : Out) → Has (task_awaited m p t) o → Has (reserved m (client_in m (config m (after m h xs)) k)) o
        open_out o g = subst (λ (w : Option (Work m)). Has (work_reserved m p w) o) (sym works) (subst (λ (d : Hand m). Has (hand_reserved m p d) o) (sym hand) g)

        -- an answer of a sequencer is to that request
        same_ask : (s y : ℕ) (ls : List StreamLink) (o : Out) → Has (task_awaited m p t) o → o.to ≡ x.from → o.rid ≡ x.rid → x.from ≡ seqr_id s → (g : OurTail (after m h xs).packets (seqr_in m (config m (after m h xs)) s) x y ls) → o.msg ≡ g.ask.msg
        same_ask s y ls o has to rid from g = (all.0.0.clients k).agree o g.ask (open_out o has) g.has (g.from ∙ comes.to_node) g.request (rid ∙ sym g.rid) (to ∙ sym g.to)

      module _ (work : Work m) (s : Sync) (works : (client_in m (config m (after m h xs)) k).work ≡ Some work) (hand : work.hand ≡ Doing (Syncing s)) (awaited : awaits (task_awaited m p (Syncing s)) x.from x.rid ≡ true) where
        tail : (rid t : ℕ) (ls : List StreamLink) → s.work ≡ Checking rid → reply x.msg ≡ IsTail t ls → AnswerOk B L p.epoch t ls
        tail rid t ls is says = by (awaited_ask (task_awaited m p (Syncing s)) x.from x.rid awaited)
          where
            by : Awaited (task_awaited m p (Syncing s)) x.from x.rid → AnswerOk B L p.epoch t ls
            by a = checked (asked_check m p s rid is a.ask a.has)
              where
                checked : (a.ask.to ≡ seqr_id p.seq) × (a.ask.msg ≡ msg.Check p.epoch s.oids) → AnswerOk B L p.epoch t ls
                checked q =
                    let from : x.from ≡ seqr_id p.seq = sym a.to ∙ q.0 in
                    let g = (tails_hold m h xs).told p.seq x t ls comes.sent from (ap tells_links (is_tail x.msg t ls says) ∙ tail_told t ls) in
                    let same = same_ask work (Syncing s) works hand p.seq t ls a.ask a.has a.to a.number from g in
                    let asks : g.ask.msg ≡ msg.Check p.epoch s.oids = sym same ∙ q.1 in
                    let told : TailTold m (after m h zs) p.seq p.epoch t = record {
                      ask = g.ask;
                      answer = x;
                      streams = s.oids;
                      links = ls;
                      asked = contained _ g.ask (grown g.ask g.has);
                      answered = contained _ x (grown x comes.sent);
                      to_seqr = g.to ∙ from;
                      from_seqr = from;
                      back = sym g.from;
                      number = sym g.rid;
                      asks = asks;
                      tells = is_tail x.msg t ls says;
                    } in
                    record { fit = λ y less. BelowTail p stand_late t told less; links = g.links p.epoch s.oids (ap asks_links asks ∙ check_asks p.epoch s.oids) }

        works_ok : cells.TaskOk m (after m h xs).packets p (Syncing s)
        works_ok = subst (λ (d : Hand m). cells.HandOk m (after m h xs).packets p d) hand (subst (λ (w : Option (Work m)). cells.WorkOk m (after m h xs).packets p w) works ((cells_hold m h xs).hands k))

        place_epoch : (a : Answer) (j : CellJob) → s.work ≡ Settling a j → j.place.epoch ≡ p.epoch
        place_epoch a j e = ap (λ (y : Place). y.epoch) (job_of m p s (after m h xs).packets a j e works_ok).place

        -- a unit's answer that all is trimmed
        gone : (a : Answer) (j : CellJob) (b : ℕ) → s.work ≡ Settling a j → j.place.pos ≡ a.tail - 1 → (cell_feed j x.from.num (reply x.msg) (client_in m (config m (after m h xs)) k).next).to ≡ Ends (Gone b) → L p.epoch a.tail
        gone a j b is at ends = by (awaited_ask (task_awaited m p (Syncing s)) x.from x.rid awaited)
          where
            trim : AtTrim j (reply x.msg) b
            trim = at_trim j x.from.num (reply x.msg) (client_in m (config m (after m h xs)) k).next b ends

            by : Awaited (task_awaited m p (Syncing s)) x.from x.rid → L p.epoch a.tail
            by w = of_unit (trim.asks w.ask (settling_asks m p s a j is w.ask w.has))
              where
                trimmed : TrimAsked m (after m h xs) p.epoch b → L p.epoch a.tail
                trimmed t = was (trims.settled t.packet t.of b (a.tail - 1) (contained _ t.packet (grown t.packet (has_contained _ t.packet t.sent))) t.is (let l = trim.past in omega (arith, l, at)))
                  where
                    was : WasSettled m (after m h zs) t.of (a.tail - 1) → L p.epoch a.tail
                    was g q d less = let le = t.up_to in settled_bound t.of a.tail g q d (omega (arith, le, less))

                of_unit : OfUnit j.place.epoch w.ask → L p.epoch a.tail
                of_unit of =
                    let from : x.from ≡ unit_id of.1.0 = sym w.to ∙ of.1.1 in
                    let heard = all.0.1.answered of.1.0 x comes.sent from in
                    let same : w.ask.msg ≡ heard.ask.msg = (all.0.0.clients k).agree w.ask heard.ask (open_out work (Syncing s) works hand w.ask w.has) heard.asked (heard.from ∙ comes.to_node) heard.request (w.number ∙ sym heard.rid) (w.to ∙ sym heard.to) in
                    let told : ToldGone m (after m h xs) of.1.0 p.epoch b = record {
                      ask = heard.ask;
                      answer = x;
                      asked = contained _ heard.ask heard.asked;
                      answered = contained _ x comes.sent;
                      to_unit = heard.to ∙ from;
                      from_unit = from;
                      back = sym heard.from;
                      number = sym heard.rid;
                      request = heard.request;
                      of = ap (λ (y : Msg). epoch_asked (unit_ask y)) (sym same) ∙ (of.0 ∙ place_epoch a j is);
                      is = is_gone x.msg b trim.says;
                    } in
                    trimmed (gone_is_asked m h xs (after m h xs) rw of.1.0 p.epoch b told (let l = trim.past in omega (arith, l)))

        -- the cell that a settling ends with was settled in this epoch or before
        hears : Heard (after m h xs).packets x.from x.rid x.msg (reserved m (client_in m (config m (after m h xs)) k))
        hears o g to number u from c is = (heard m (config m (after m h xs)) all.0.0 all.0.1 k u o x g comes.sent comes.to_node from to number).tells c is

        claims : cells.TaskClaims m (after m h xs).packets p (Syncing s) x.msg
        claims = task_claims (after m h xs).packets x.from x.rid x.msg m p (Syncing s) awaited
            (subst (λ (d : Hand m). Heard (after m h xs).packets x.from x.rid x.msg (hand_reserved m p d)) hand
            (subst (λ (o : Option (Work m)). Heard (after m h xs).packets x.from x.rid x.msg (work_reserved m p o)) works hears))

        stand_known : K m h xs p
        stand_known = (known m h xs p.epoch p ((layouts_are_known m h xs (after m h xs) rw).clients k)).0

        settled_by : (pos : ℕ) (c : Cell) → CellOk (after m h xs).packets p pos c → WasSettled m (after m h xs) p.epoch pos
        settled_by pos c f =
            let line = facts m h xs r.header give (told_here m h xs r.header give) in
            let root = roots m h xs r.header give (told_here m h xs r.header give) in
            of_settled (end_settles words (K m h xs) (after m h xs).packets line p pos c stand_known (λ t. rooted pos c t (root.tells _ t.claim t.tells)) f)
          where
            of_settled : Settled words (K m h xs) (after m h xs).packets p.epoch pos c → WasSettled m (after m h xs) p.epoch pos
            of_settled g = record {
              cell = c;
              settled = record { layout = g.layout; decided = decided_for m h xs r.header give g.layout g.decided; told = λ i less. up_to (after m h xs).packets _ _ _ c (g.told i less) };
              in_time = g.up_to;
            }

            rooted : (q : ℕ) (d : Cell) → (t : ToldBy (after m h xs).packets (last_unit (place_in p q)) p.epoch q d) → Rooted words (K m h xs) (after m h xs).packets (last_unit (place_in p q)) t.claim.epoch t.claim.pos t.claim.cell
                → Rooted words (K m h xs) (after m h xs).packets (last_unit (place_in p q)) p.epoch q d
            rooted q d t g =
                let g' : Rooted words (K m h xs) (after m h xs).packets (last_unit (place_in p q)) t.claim.epoch q d =
                subst (λ (y : Cell). Rooted words (K m h xs) (after m h xs).packets (last_unit (place_in p q)) t.claim.epoch q y) t.cell
                (subst (λ (i : ℕ). Rooted words (K m h xs) (after m h xs).packets (last_unit (place_in p q)) t.claim.epoch i t.claim.cell) t.pos g) in
                record { layout = g'.layout; decided = g'.decided; up_to = (let b = g'.up_to in let e = t.epoch in omega (arith, b, e)); how = g'.how }

        done : (a : Answer) (j : CellJob) (c : Cell) → s.work ≡ Settling a j → j.place.pos ≡ a.tail - 1 → (cell_feed j x.from.num (reply x.msg) (client_in m (config m (after m h xs)) k).next).to ≡ Ends (Done c) → L p.epoch a.tail
        done a j c is at ends = was (settled_by j.place.pos c ended)
          where
            o : JobOk (after m h xs).packets p j
            o = job_of m p s (after m h xs).packets a j is works_ok

            ended : CellOk (after m h xs).packets p j.place.pos c
            ended =
                subst (λ (y : Place). EndOk (after m h xs).packets y (Done c)) o.place
                (subst (λ (y : Next CellJob CellEnd). NextOk (after m h xs).packets j.place y) ends
                (cell_ok (after m h xs).packets p j x.msg o (subst (λ (y : SyncWork). SyncClaims (after m h xs).packets p y x.msg) is claims) x.from.num (client_in m (config m (after m h xs)) k).next))

            was : WasSettled m (after m h xs) p.epoch j.place.pos → L p.epoch a.tail
            was g = settled_bound p.epoch a.tail (subst (λ n. WasSettled m (after m h zs) p.epoch n) at (record { cell = g.cell; settled = late m h zs r xs (Takes e ∷ ys) split j.place.pos g.cell g.settled; in_time = g.in_time }))

        sync_hears : SyncHears B L p s x.from.num (reply x.msg) (client_in m (config m (after m h xs)) k).next
        sync_hears = record { tail = tail; low = λ t le. low p stand_late t le; gone = gone; done = done }

      -- an issued position
      module _ (work : Work m) (a : Append) (y : Purpose m) (works : (client_in m (config m (after m h xs)) k).work ≡ Some work) (hand : work.hand ≡ Doing (Appending a y)) (awaited : awaits (task_awaited m p (Appending a y)) x.from x.rid ≡ true) where
        issued : (rid pos : ℕ) (ls : List StreamLink) → a.work ≡ Asking rid → reply x.msg ≡ IsIssued pos ls → B p.epoch pos
        issued rid pos ls is says = by (awaited_ask (task_awaited m p (Appending a y)) x.from x.rid awaited)
          where
            by : Awaited (task_awaited m p (Appending a y)) x.from x.rid → B p.epoch pos
            by w = asked (asked_token m p a y rid is w.ask w.has)
              where
                asked : (w.ask.to ≡ seqr_id p.seq) × (w.ask.msg ≡ msg.Token p.epoch (streams_of a.draft)) → B p.epoch pos
                asked q =
                    let from : x.from ≡ seqr_id p.seq = sym w.to ∙ q.0 in
                    let g = (tails_hold m h xs).told p.seq x pos ls comes.sent from (ap tells_links (is_issue x.msg pos ls says) ∙ issue_told pos ls) in
                    let same = same_ask work (Appending a y) works hand p.seq pos ls w.ask w.has w.to w.number from g in
                    WasIssued p stand_late (streams_of a.draft) ls (record {
                      ask = g.ask;
                      answer = x;
                      asked = contained _ g.ask (grown g.ask g.has);
                      answered = contained _ x (grown x comes.sent);
                      to_seqr = g.to ∙ from;
                      from_seqr = from;
                      back = sym g.from;
                      number = sym g.rid;
                      asks = sym same ∙ q.1;
                      issues = is_issue x.msg pos ls says;
                    })

        append_hears : AppendHears B L p a (reply x.msg)
        append_hears = record { issued = issued }

      pub client_hears : ClientHears m B L (client_in m (config m (after m h xs)) k) x.from x.rid (reply x.msg)
      client_hears = record { stand = stand_ok p stand_late; task = by; newer = newer }
        where
          by : (w : Work m) (t : Task m) → (client_in m (config m (after m h xs)) k).work ≡ Some w → w.hand ≡ Doing t → awaits (task_awaited m p t) x.from x.rid ≡ true → TaskHears m B L (client_in m (config m (after m h xs)) k) t x.from.num (reply x.msg)
          by w (Syncing s) is hand awaited = sync_hears w s is hand awaited
          by w (Appending a y) is hand awaited = append_hears w a y is hand awaited
          by w (Walking v os) is hand awaited = tt
          by w (task.Trimming t) is hand awaited = tt
          by w (Copying' c) is hand awaited = tt
          by w (Reconfiguring c) is hand awaited = tt
