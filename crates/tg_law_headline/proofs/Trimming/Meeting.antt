-- Over a run, each trim that walks met was told by a client that trims.
use Rattle.std.proofs.Common.{◌≡◌, ℕ, ◌<◌, List, [], ◌∷◌, ◌++◌, length, true, refl, sym, ap, ◌∙◌, subst, inl, inr, arith, Some, None, Option, append-nil}
use Rattle.std.specs.Prelude.{slice_index_or, Bool, false, if◌then◌else◌}
use Rattle.tg_base.specs.Clusters.{Header}
use Rattle.tg_base.specs.Layouts.{Layout}
use Rattle.tg_base.specs.Orders.{oid_eq}
use Rattle.tg_base.specs.declared.ids.Oid.{Oid}
use Rattle.tg_base.specs.declared.ids.Role.TheVariants as role
use Rattle.tg_base.specs.declared.msg.Msg.{Msg}
use Rattle.tg_base.specs.declared.packet.Out.{Out}
use Rattle.tg_base.specs.declared.packet.Packet.{Packet}
use Rattle.tg_kind.specs.Meaning.{Meaning}
use Rattle.tg_model.specs.Kinds.{EventOf}
use Rattle.tg_protocol.specs.Words.{client_id, unit_id, numbers}
use Rattle.tg_protocol.specs.Requests.{awaits, Ends}
use Rattle.tg_protocol.specs.Replies.{reply}
use Rattle.tg_protocol.specs.Cells.{Place, CellJob, Gone, cell_asks, cell_feed}
use Rattle.tg_protocol.specs.Units.{unit_ask}
use Rattle.tg_protocol.specs.Walking.{Walk, job_asks, walk_feed}
use Rattle.tg_protocol.specs.Checkpoints.{trim_of}
use Rattle.tg_protocol.specs.Clients.{Task, Syncing, Walking, Appending, Trimming, Copying', Reconfiguring, Hand, Doing, Work, Client, new_client}
use Rattle.tg_protocol.specs.ClientSteps.{ClientTurn, task_asks, task_awaited, task_in}
use Rattle.tg_protocol.specs.Walked.{Walked, walked_in}
use Rattle.tg_protocol.specs.Worlds.{World, start, happens}
use Rattle.tg_protocol.specs.Runs.{Move, Moves, Next as Counts, Takes, Reaches, run}
use Rattle.tg_law_layouts.specs.Moves.After.{after}
use Rattle.tg_law_layouts.specs.Moves.Configs.{Config, config, client_in}
use Rattle.tg_law_layouts.proofs.Moves.Clients.{reserved, work_reserved, hand_reserved}
use Rattle.tg_law_layouts.proofs.Moves.Growth.{IsCalm, by_client}
use Rattle.tg_law_layouts.proofs.Moves.Lists.{contained, at_map, at_set}
use Rattle.tg_law_layouts.proofs.Moves.Members.{Has}
use Rattle.tg_law_layouts.proofs.Moves.Moves.{Comes, client_turn, ClientInput, Commanded, Hears', Ticks', step_cases}
use Rattle.tg_law_layouts.proofs.Requests.Starts.{All, all_hold}
use Rattle.tg_law_cells.proofs.Cells.Hands as cells
use Rattle.tg_law_cells.proofs.Cells.Jobs.{JobOk, MaybeOk}
use Rattle.tg_law_cells.proofs.Cells.Justified.{Awaited, awaited_ask}
use Rattle.tg_law_cells.proofs.Cells.Stores.{cells_hold}
use Rattle.tg_law_cells.specs.Homes.Homes.{ToldGone, epoch_asked}
use Rattle.tg_law_cells.proofs.Homes.Gones.{gone_is_asked}
use Rattle.tg_law_walks.proofs.Drafts.Written.{then_next, then_takes}
use Rattle.tg_law_walks.proofs.Once.Along.{on_moves}
use Rattle.tg_law_walks.proofs.Once.Nowhere.{reached}
use Rattle.tg_law_walks.proofs.Lists.Reached.{before_reached}
use Rattle.tg_law_walks.proofs.Lists.Scanning.{AtTrim, OfUnit, at_trim, is_gone}
use Rattle.tg_law_replies.proofs.Replies.Carried.{WalksBy}
use Rattle.tg_law_headline.proofs.Leaves.Walks.{MetBy, feed_by}
use Rattle.tg_law_headline.proofs.Leaves.Ended.{Tells, stays_there}
use Rattle.tg_law_headline.specs.Trimming.Trimming.{FloorTold, WalksMeetToldTrims}
use Rattle.tg_law_headline.proofs.Trimming.Asked.{asked_has}
use Rattle.tg_law_headline.proofs.Trimming.Told.{told_grows, told_later, all_told}
use Rattle.tg_law_headline.proofs.Trimming.Turns.{AllMet, TaskTold, WorkTold, ClientTold, GoneBy, HasMet, stays, command_fine, deliver_fine, tick_fine}

module _ (m : Meaning) (h : Header) (xs : Moves m) (r : Reaches m h xs (after m h xs)) (k : ℕ) (x : Packet) (comes : Comes m (config m (after m h xs)) x (client_id k)) where
  abbrev p : Layout
  p = (client_in m (config m (after m h xs)) k).stand

  abbrev cl : Client m
  cl = client_in m (config m (after m h xs)) k

  abbrev Of : Layout → ℕ → Type 0
  Of q b = FloorTold m h xs q.epoch b

  abbrev HasMet' : Client m → Work m → Type 0
  HasMet' c w = HasMet m (FloorTold m h xs) (told_grows m h xs) c w

  all : All m (config m (after m h xs))
  all = all_hold m h xs

  module _ (work : Work m) (v : Walk) (os : List Oid) (works : cl.work ≡ Some work) (hand : work.hand ≡ Doing (Walking v os)) (awaited : awaits (task_awaited m p (Walking v os)) x.from x.rid ≡ true) where
    asks_open : (o : Out) → Has (task_awaited m p (Walking v os)) o → Has (reserved m cl) o
    asks_open o g = subst (λ (z : Option (Work m)). Has (work_reserved m p z) o) (sym works) (subst (λ (d : Hand m). Has (hand_reserved m p d) o) (sym hand) g)

    -- the cell that is read
    reading_asks : (j : CellJob) → v.job ≡ Some j → (o : Out) → Has (task_awaited m p (Walking v os)) o → Has (cell_asks j) o
    unfolding task_asks
    reading_asks j at o g = subst (λ (z : Option CellJob). Has (job_asks z) o) at g

    in_hand : cells.TaskOk m (after m h xs).packets p (Walking v os)
    in_hand = subst (λ (d : Hand m). cells.HandOk m (after m h xs).packets p d) hand (subst (λ (o : Option (Work m)). cells.WorkOk m (after m h xs).packets p o) works ((cells_hold m h xs).hands k))

    job : (j : CellJob) → v.job ≡ Some j → JobOk (after m h xs).packets p j
    job j at = subst (λ (z : Option CellJob). MaybeOk (after m h xs).packets p z) at in_hand

    gone : (j : CellJob) (b : ℕ) → v.job ≡ Some j → (cell_feed j x.from.num (reply x.msg) cl.next).to ≡ Ends (Gone b) → FloorTold m h xs p.epoch b
    gone j b at ends = by (awaited_ask (task_awaited m p (Walking v os)) x.from x.rid awaited)
      where
        trim : AtTrim j (reply x.msg) b
        trim = at_trim j x.from.num (reply x.msg) cl.next b ends

        place : j.place.epoch ≡ p.epoch
        place = ap (λ (y : Place). y.epoch) (job j at).place

        by : Awaited (task_awaited m p (Walking v os)) x.from x.rid → FloorTold m h xs p.epoch b
        by a = of_unit (trim.asks a.ask (reading_asks j at a.ask a.has))
          where
            of_unit : OfUnit j.place.epoch a.ask → FloorTold m h xs p.epoch b
            of_unit of =
                let from : x.from ≡ unit_id of.1.0 = sym a.to ∙ of.1.1 in
                let heard = all.0.1.answered of.1.0 x comes.sent from in
                let same : a.ask.msg ≡ heard.ask.msg = (all.0.0.clients k).agree a.ask heard.ask (asks_open a.ask a.has) heard.asked (heard.from ∙ comes.to_node) heard.request (a.number ∙ sym heard.rid) (a.to ∙ sym heard.to) in
                let told : ToldGone m (after m h xs) of.1.0 p.epoch b = record {
                  ask = heard.ask;
                  answer = x;
                  asked = contained _ heard.ask heard.asked;
                  answered = contained _ x comes.sent;
                  to_unit = heard.to ∙ from;
                  from_unit = from;
                  back = sym heard.from;
                  number = sym heard.rid;
                  request = heard.request;
                  of = ap (λ (y : Msg). epoch_asked (unit_ask y)) (sym same) ∙ (of.0 ∙ place);
                  is = is_gone x.msg b trim.says;
                } in
                asked_has m h [] (FloorTold m h xs) (told_grows m h xs) xs r (all_told m h xs r) p.epoch b (gone_is_asked m h xs (after m h xs) r of.1.0 p.epoch b told (let l = trim.past in omega (arith, l)))

    walk_tells : MetBy (λ b. FloorTold m h xs p.epoch b) (walk_feed p v v.job x.from.num (reply x.msg) cl.next).to
    walk_tells = feed_by (λ b. FloorTold m h xs p.epoch b) p v x.from.num (reply x.msg) cl.next gone

  pub hears : Tells m (GoneBy m (FloorTold m h xs) (told_grows m h xs)) (HasMet m (FloorTold m h xs) (told_grows m h xs)) (client_in m (config m (after m h xs)) k) x.from x.rid (reply x.msg)
  hears w (Walking v os) works hand awaited = walk_tells w v os works hand awaited
  hears w (Syncing s) works hand awaited = tt
  hears w (Appending a y) works hand awaited = tt
  hears w (Trimming t) works hand awaited = tt
  hears w (Copying' y) works hand awaited = tt
  hears w (Reconfiguring y) works hand awaited = tt

module _ (m : Meaning) (h : Header) where
  abbrev Told : Moves m → Client m → Type 0
  Told xs c = ClientTold m (FloorTold m h xs) (told_grows m h xs) c

  record Held (xs : Moves m) (c : Config m) : Type 0 where
    clients : (k : ℕ) → ClientTold m (FloorTold m h xs) (told_grows m h xs) (client_in m c k)

  module _ (xs ys : Moves m) (c : Client m) where
    task_later : (ts : List (Oid × ℕ)) (t : Task m) → TaskTold m (FloorTold m h xs) (told_grows m h xs) c.stand.epoch ts t → TaskTold m (FloorTold m h (xs ++ ys)) (told_grows m h (xs ++ ys)) c.stand.epoch ts t
    task_later ts (Syncing s) k = λ y i. told_later m h xs ys c.stand.epoch y.1 (k y i)
    task_later ts (Walking v os) k = λ y i. told_later m h xs ys c.stand.epoch y.1 (k y i)
    task_later ts (Appending a y) k = tt
    task_later ts (Trimming t) k = tt
    task_later ts (Copying' y) k = tt
    task_later ts (Reconfiguring r) k = tt

    work_later : (o : Option (Work m)) → WorkTold m (FloorTold m h xs) (told_grows m h xs) c.stand.epoch o → WorkTold m (FloorTold m h (xs ++ ys)) (told_grows m h (xs ++ ys)) c.stand.epoch o
    work_later None k = tt
    work_later (Some w) k = task_later w.trims (task_in m w.hand) k

  later : (xs ys : Moves m) (c : Config m) → Held xs c → Held (xs ++ ys) c
  later xs ys c k = record { clients = λ i. work_later xs ys (client_in m c i) (client_in m c i).work (k.clients i) }

  -- A step.

  module _ (xs : Moves m) (r : Reaches m h xs (after m h xs)) (held : Held xs (config m (after m h xs))) where
    turned : (k : ℕ) (t : ClientTurn m) → ClientInput m (config m (after m h xs)) k t → Told xs t.now
    turned k t (Commanded x) = command_fine m (FloorTold m h xs) (told_grows m h xs) (client_in m (config m (after m h xs)) k) x (held.clients k)
    turned k t (Hears' x comes) = deliver_fine m (FloorTold m h xs) (told_grows m h xs) (client_in m (config m (after m h xs)) k) x.from x.rid x.msg (held.clients k) (hears m h xs r k x comes)
    turned k t Ticks' = tick_fine m (FloorTold m h xs) (told_grows m h xs) (client_in m (config m (after m h xs)) k) (held.clients k)

    calm : IsCalm m role.Client (config m (after m h xs)) (Held xs)
    calm d q = record { clients = λ k. subst (Told xs) (λ i. slice_index_or (sym (q.clients refl) i) k (new_client m (sym q.cluster i) k)) (held.clients k) }

    own : (k : ℕ) (t : ClientTurn m) → ClientInput m (config m (after m h xs)) k t → k < length (after m h xs).clients → Held xs (client_turn m (config m (after m h xs)) k t)
    own k t i less = record { clients = at_set (after m h xs).clients k t.now (new_client m (after m h xs).cluster) (λ j x. Told xs x) less (turned k t i) (λ j other. held.clients j) }

    stepped : (e : EventOf m) → Held xs (config m (happens m (after m h xs) e))
    stepped e = step_cases m (after m h xs) (Held xs) (by_client m (Held xs) (config m (after m h xs)) held calm own) e

  -- Along the run.

  module _ (zs : Moves m) (r : Reaches m h zs (after m h zs)) where
    on_move : (xs : Moves m) (x : Move m) (rest : Moves m) → zs ≡ xs ++ x ∷ rest → Held xs (config m (after m h xs)) → Held (xs ++ x ∷ []) (config m (after m h (xs ++ x ∷ [])))
    on_move xs Counts rest split k = subst (λ (w : World m). Held (xs ++ Counts ∷ []) (config m w)) (sym (then_next m h xs)) (record { clients = (later xs (Counts ∷ []) (config m (after m h xs)) k).clients })
    on_move xs (Takes e) rest split k =
        subst (λ (w : World m). Held (xs ++ Takes e ∷ []) (config m w)) (sym (then_takes m h xs e))
        (later xs (Takes e ∷ []) (config m (happens m (after m h xs) e)) (stepped xs (before_reached m h zs r xs (Takes e ∷ rest) split) k e))

    start_client : (k : ℕ) → Told [] (new_client m h k)
    unfolding new_client
    start_client k = tt

    start_held : Held [] (config m (after m h []))
    unfolding run start
    start_held = record { clients = λ k. at_map (new_client m h) (numbers h.clients 0) k (new_client m h k) (Told []) (λ j. start_client j) (start_client k) }

    held_now : Held zs (config m (after m h zs))
    held_now = on_moves m h zs r (λ (ms : Moves m). Held ms (config m (after m h ms))) on_move [] zs [] (sym (append-nil zs)) start_held

    walks_of : (c : Client m) (v : Work m) (t : Task m) → TaskTold m (FloorTold m h zs) (told_grows m h zs) c.stand.epoch v.trims t → WalksBy m (HasMet m (FloorTold m h zs) (told_grows m h zs)) c v t
    walks_of c v (Syncing s) k = k
    walks_of c v (Walking y os) k = k
    walks_of c v (Appending a y) k = tt
    walks_of c v (Trimming t) k = tt
    walks_of c v (Copying' y) k = tt
    walks_of c v (Reconfiguring y) k = tt

    -- where a further step comes to the end of a command's walks
    met_there : (e : EventOf m) (k : ℕ) (y : Walked m) → walked_in m (after m h zs) e k ≡ Some y → AllMet m (FloorTold m h zs) (told_grows m h zs) y.client.stand.epoch y.work.trims
    met_there e k y is =
        stays_there m (GoneBy m (FloorTold m h zs) (told_grows m h zs)) (HasMet m (FloorTold m h zs) (told_grows m h zs)) (stays m (FloorTold m h zs) (told_grows m h zs)) (after m h zs) k
        (λ v works. walks_of (client_in m (config m (after m h zs)) k) v (task_in m v.hand) (subst (λ (o : Option (Work m)). WorkTold m (FloorTold m h zs) (told_grows m h zs) (client_in m (config m (after m h zs)) k).stand.epoch o) works (held_now.clients k)))
        (λ x sent to. hears m h zs r k x (record { sent = sent; to_node = to })) e y is

-- a trim of a stream is one of those that were met
has_trim : (ts : List (Oid × ℕ)) (o : Oid) (b : ℕ) → trim_of ts o ≡ Some b → (x : Oid × ℕ) × Has ts x × (x.1 ≡ b)
has_trim [] o b is = absurd (cc)
has_trim (t ∷ ts) o b is = by (oid_eq t.0 o) (λ e. has_trim ts o b e) is
  where
    same : (a c : ℕ) → Some a ≡ Some c → a ≡ c
    same a c e = cc

    more : (x : Oid × ℕ) × Has ts x × (x.1 ≡ b) → (x : Oid × ℕ) × Has (t ∷ ts) x × (x.1 ≡ b)
    more g = (g.0, inr g.1, g.2)

    by : (c : Bool) → (trim_of ts o ≡ Some b → (x : Oid × ℕ) × Has ts x × (x.1 ≡ b)) → (if c then Some t.1 else trim_of ts o) ≡ Some b → (x : Oid × ℕ) × Has (t ∷ ts) x × (x.1 ≡ b)
    by true rest e = (t, inl refl, same t.1 b e)
    by false rest e = more (rest e)

pub walks_meet_told_trims : (m : Meaning) → WalksMeetToldTrims m
walks_meet_told_trims m h ms w r e k end is o below met =
    let g = has_trim end.work.trims o below met in
    subst (λ (b : ℕ). FloorTold m h ms end.client.stand.epoch b) g.2
    (met_there m h ms (reached m h ms w r) e k end (subst (λ (v : World m). walked_in m v e k ≡ Some end) r.goes.is is) g.0 g.1)
