-- What a client hears, in a world through which a run comes: the lists that are told with a tail, and trims that its walks meet.
use Rattle.std.proofs.Common.{◌≡◌, ℕ, ◌<◌, List, ◌++◌, true, refl, sym, ap, ◌∙◌, subst, arith, Some, Option}
use Rattle.tg_base.specs.Clusters.{Header}
use Rattle.tg_base.specs.Layouts.{Layout}
use Rattle.tg_base.specs.declared.ids.Oid.{Oid}
use Rattle.tg_base.specs.declared.marks.StreamLink.{StreamLink}
use Rattle.tg_base.specs.declared.msg.Msg.{Msg}
use Rattle.tg_base.specs.declared.msg.Msg.TheVariants as msg
use Rattle.tg_base.specs.declared.packet.Out.{Out}
use Rattle.tg_base.specs.declared.packet.Packet.{Packet}
use Rattle.tg_kind.specs.Meaning.{Meaning}
use Rattle.tg_protocol.specs.Words.{client_id, seqr_id, unit_id}
use Rattle.tg_protocol.specs.Requests.{awaits, Ends}
use Rattle.tg_protocol.specs.Replies.{reply, IsTail}
use Rattle.tg_protocol.specs.Cells.{Place, CellJob, Gone, cell_asks, cell_feed}
use Rattle.tg_protocol.specs.Syncing.{Checking, Sync}
use Rattle.tg_protocol.specs.Walking.{Walk, Members, job_asks, walk_feed}
use Rattle.tg_protocol.specs.Units.{unit_ask}
use Rattle.tg_protocol.specs.Clients.{Syncing, Walking, Hand, Doing, Work, Client}
use Rattle.tg_protocol.specs.ClientSteps.{task_asks, task_awaited}
use Rattle.tg_protocol.specs.Chosen.{Sent}
use Rattle.tg_protocol.specs.Runs.{Moves, Reaches}
use Rattle.tg_law_layouts.specs.Moves.After.{after}
use Rattle.tg_law_layouts.specs.Moves.Configs.{config, client_in}
use Rattle.tg_law_layouts.proofs.Moves.Clients.{reserved, work_reserved, hand_reserved}
use Rattle.tg_law_layouts.proofs.Moves.Lists.{contained}
use Rattle.tg_law_layouts.proofs.Moves.Members.{Has}
use Rattle.tg_law_layouts.proofs.Moves.Moves.{Comes}
use Rattle.tg_law_layouts.proofs.Requests.Starts.{All, all_hold}
use Rattle.tg_law_cells.proofs.Cells.Hands as cells
use Rattle.tg_law_cells.proofs.Cells.Jobs.{JobOk, MaybeOk}
use Rattle.tg_law_cells.proofs.Cells.Justified.{Awaited, awaited_ask}
use Rattle.tg_law_cells.proofs.Cells.Stores.{cells_hold}
use Rattle.tg_law_cells.specs.Homes.Homes.{TrimAsked, ToldGone, epoch_asked}
use Rattle.tg_law_cells.proofs.Homes.Gones.{gone_is_asked}
use Rattle.tg_law_walks.specs.Lists.Spared.{WasSettled, TrimsSaved}
use Rattle.tg_law_walks.specs.Lists.Telling.{asks_links, tells_links, ToldLinks}
use Rattle.tg_law_walks.proofs.Lists.Reached.{before_reached}
use Rattle.tg_law_walks.proofs.Lists.Scanning.{AtTrim, OfUnit, at_trim, is_gone}
use Rattle.tg_law_syncs.proofs.Syncs.Clients.{asked_check}
use Rattle.tg_law_syncs.proofs.Syncs.Later.{grow, late}
use Rattle.tg_law_syncs.proofs.Known.Past.{answers_hold}
use Rattle.tg_law_headline.proofs.Settled.Meets.{MeetsAt, feed_meets}

tail_message : (y : Msg) (t : ℕ) (ls : List StreamLink) → reply y ≡ IsTail t ls → y ≡ msg.Tail t ls
unfolding reply
tail_message y t ls h = grind arith

tail_links : (t : ℕ) (ls : List StreamLink) → tells_links (msg.Tail t ls) ≡ Some (t, ls)
unfolding tells_links
tail_links t ls = refl

check_links : (e : ℕ) (os : List Oid) → asks_links (msg.Check e os) ≡ Some (e, os)
unfolding asks_links
check_links e os = refl

job_has : (a : Option CellJob) (j : CellJob) → a ≡ Some j → (o : Out) → Has (job_asks a) o → Has (cell_asks j) o
job_has a j is o g = subst (λ (y : Option CellJob). Has (job_asks y) o) is g

module _ (m : Meaning) where
  walk_has : (p : Layout) (k : Walk) (os : List Oid) (j : CellJob) → k.job ≡ Some j → (o : Out) → Has (task_awaited m p (Walking k os)) o → Has (cell_asks j) o
  unfolding task_asks
  walk_has p k os j is o g = job_has k.job j is o g

module _ (m : Meaning) (h : Header) (zs : Moves m) (r : Reaches m h zs (after m h zs)) (xs ys : Moves m) (split : zs ≡ xs ++ ys) (k : ℕ) (x : Packet) (comes : Comes m (config m (after m h xs)) x (client_id k)) where
  abbrev cl : Client m
  cl = client_in m (config m (after m h xs)) k

  abbrev p : Layout
  p = (client_in m (config m (after m h xs)) k).stand

  rw : Reaches m h xs (after m h xs)
  rw = before_reached m h zs r xs ys split

  all : All m (config m (after m h xs))
  all = all_hold m h xs

  sent : (y : Packet) → Has (after m h xs).packets y → Sent m (after m h zs) y
  sent y g = contained (after m h zs).packets y (grow m h zs r xs ys split y g)

  -- the lists that a sequencer tells with its tail
  module _ (work : Work m) (s : Sync) (works : cl.work ≡ Some work) (hand : work.hand ≡ Doing (Syncing s)) (awaited : awaits (task_awaited m p (Syncing s)) x.from x.rid ≡ true) where
    sync_open : (o : Out) → Has (task_awaited m p (Syncing s)) o → Has (reserved m cl) o
    sync_open o g = subst (λ (v : Option (Work m)). Has (work_reserved m p v) o) (sym works) (subst (λ (d : Hand m). Has (hand_reserved m p d) o) (sym hand) g)

    pub lists_told : (rid t : ℕ) (ls : List StreamLink) → s.work ≡ Checking rid → reply x.msg ≡ IsTail t ls → ToldLinks m (after m h zs) p.seq p.epoch s.oids t ls
    lists_told rid t ls at says = by (awaited_ask (task_awaited m p (Syncing s)) x.from x.rid awaited)
      where
        by : Awaited (task_awaited m p (Syncing s)) x.from x.rid → ToldLinks m (after m h zs) p.seq p.epoch s.oids t ls
        by a = checked (asked_check m p s rid at a.ask a.has)
          where
            checked : (a.ask.to ≡ seqr_id p.seq) × (a.ask.msg ≡ msg.Check p.epoch s.oids) → ToldLinks m (after m h zs) p.seq p.epoch s.oids t ls
            checked q =
                let from : x.from ≡ seqr_id p.seq = sym a.to ∙ q.0 in
                let tells = ap tells_links (tail_message x.msg t ls says) ∙ tail_links t ls in
                let g = (answers_hold m h xs).1.each p.seq x t ls comes.sent from tells in
                let same : a.ask.msg ≡ g.ask.msg = (all.0.0.clients k).agree a.ask g.ask (sync_open a.ask a.has) g.has (g.from ∙ comes.to_node) g.request (a.number ∙ sym g.rid) (a.to ∙ sym g.to) in
                record {
                  ask = g.ask;
                  answer = x;
                  asked = sent g.ask g.has;
                  answered = sent x comes.sent;
                  to_seqr = g.to ∙ from;
                  from_seqr = from;
                  back = sym g.from;
                  number = sym g.rid;
                  asks = ap asks_links (sym same ∙ q.1) ∙ check_links p.epoch s.oids;
                  tells = tells;
                }

  -- a trim that a walk meets: all below it is settled
  module _ (now : TrimsSaved m (after m h xs)) (work : Work m) (walk : Walk) (os : List Oid) (works : cl.work ≡ Some work) (hand : work.hand ≡ Doing (Walking walk os)) (awaited : awaits (task_awaited m p (Walking walk os)) x.from x.rid ≡ true) where
    walk_open : (o : Out) → Has (task_awaited m p (Walking walk os)) o → Has (reserved m cl) o
    walk_open o g = subst (λ (v : Option (Work m)). Has (work_reserved m p v) o) (sym works) (subst (λ (d : Hand m). Has (hand_reserved m p d) o) (sym hand) g)

    in_hand : MaybeOk (after m h xs).packets p walk.job
    in_hand = subst (λ (d : Hand m). cells.HandOk m (after m h xs).packets p d) hand (subst (λ (o : Option (Work m)). cells.WorkOk m (after m h xs).packets p o) works ((cells_hold m h xs).hands k))

    trimmed : (b : ℕ) → TrimAsked m (after m h xs) p.epoch b → (q : ℕ) → q < b → WasSettled m (after m h zs) p.epoch q
    trimmed b t q less = was (now.whole t.packet t.of b q t.sent t.is less)
      where
        was : WasSettled m (after m h xs) t.of q → WasSettled m (after m h zs) p.epoch q
        was g = record { cell = g.cell; settled = late m h zs r xs ys split q g.cell g.settled; in_time = (let i = g.in_time in let u = t.up_to in omega (arith, i, u)) }

    gone_asked : (j : CellJob) (b : ℕ) → walk.job ≡ Some j → (cell_feed j x.from.num (reply x.msg) cl.next).to ≡ Ends (Gone b) → TrimAsked m (after m h xs) p.epoch b
    gone_asked j b is ends = by (awaited_ask (task_awaited m p (Walking walk os)) x.from x.rid awaited)
      where
        trim : AtTrim j (reply x.msg) b
        trim = at_trim j x.from.num (reply x.msg) cl.next b ends

        job : JobOk (after m h xs).packets p j
        job = subst (λ (y : Option CellJob). MaybeOk (after m h xs).packets p y) is in_hand

        place : j.place.epoch ≡ p.epoch
        place = ap (λ (y : Place). y.epoch) job.place

        by : Awaited (task_awaited m p (Walking walk os)) x.from x.rid → TrimAsked m (after m h xs) p.epoch b
        by w = of_unit (trim.asks w.ask (walk_has m p walk os j is w.ask w.has))
          where
            of_unit : OfUnit j.place.epoch w.ask → TrimAsked m (after m h xs) p.epoch b
            of_unit of =
                let from : x.from ≡ unit_id of.1.0 = sym w.to ∙ of.1.1 in
                let heard = all.0.1.answered of.1.0 x comes.sent from in
                let same : w.ask.msg ≡ heard.ask.msg = (all.0.0.clients k).agree w.ask heard.ask (walk_open w.ask w.has) heard.asked (heard.from ∙ comes.to_node) heard.request (w.number ∙ sym heard.rid) (w.to ∙ sym heard.to) in
                let told : ToldGone m (after m h xs) of.1.0 p.epoch b = record {
                  ask = heard.ask;
                  answer = x;
                  asked = contained _ heard.ask heard.asked;
                  answered = contained _ x comes.sent;
                  to_unit = heard.to ∙ from;
                  from_unit = from;
                  back = sym heard.from;
                  number = sym heard.rid;
                  request = heard.request;
                  of = ap (λ (y : Msg). epoch_asked (unit_ask y)) (sym same) ∙ (of.0 ∙ place);
                  is = is_gone x.msg b trim.says;
                } in
                gone_is_asked m h xs (after m h xs) rw of.1.0 p.epoch b told (let l = trim.past in omega (arith, l))

    pub walk_meets : (y : Members) (b q : ℕ) → (walk_feed p walk walk.job x.from.num (reply x.msg) cl.next).to ≡ Ends y → y.gone ≡ Some b → q < b → WasSettled m (after m h zs) p.epoch q
    walk_meets y b q ends gone less =
        let a : MeetsAt walk x.from.num (reply x.msg) cl.next b = feed_meets p walk x.from.num (reply x.msg) cl.next y b gone ends in
        trimmed b (gone_asked a.job b a.is a.ends) q less
