-- Along a run: each position that a client reads is on a path of a tail that it was told, or of a stripe that it was to copy.
use Rattle.std.proofs.Common.{◌≡◌, ◌⊎◌, ℕ, ◌+◌, List, [], ◌∷◌, ◌++◌, map, length, Bool, true, false, refl, sym, ap, ◌∙◌, subst, inl, inr, arith, Option, Some, None}
use Rattle.std.specs.Prelude.{Contains, ◌&&◌, ◌==◌, if◌then◌else◌}
use Rattle.tg_base.specs.Clusters.{Header}
use Rattle.tg_base.specs.Layouts.{Layout}
use Rattle.tg_base.specs.Orders.{node_eq, oid_eq}
use Rattle.tg_base.specs.declared.ids.NodeId.{NodeId}
use Rattle.tg_base.specs.declared.ids.Oid.{Oid}
use Rattle.tg_base.specs.declared.marks.StreamLink.{StreamLink}
use Rattle.tg_base.specs.declared.msg.Msg.{Msg}
use Rattle.tg_base.specs.declared.msg.Msg.TheVariants as msg
use Rattle.tg_base.specs.declared.packet.Out.{Out}
use Rattle.tg_base.specs.declared.packet.Packet.{Packet}
use Rattle.tg_kind.specs.Meaning.{Meaning}
use Rattle.tg_model.specs.declared.command.Command.TheVariants as cmd
use Rattle.tg_model.specs.declared.command.Event.TheVariants.{Command as Commands}
use Rattle.tg_model.specs.Kinds.{CommandOf, EventOf}
use Rattle.tg_proj.specs.Places.{range_at}
use Rattle.tg_protocol.specs.Words.{client_id, unit_id, numbers}
use Rattle.tg_protocol.specs.Layouts.{range_end}
use Rattle.tg_protocol.specs.Entries.{link_of, backs_of}
use Rattle.tg_protocol.specs.Requests.{awaits}
use Rattle.tg_protocol.specs.Replies.{reply, IsTail, IsMissing}
use Rattle.tg_protocol.specs.Units.{Looks, unit_ask}
use Rattle.tg_protocol.specs.Trimming.{CopyWork, Looking, Copying, copy_work_asks, has_stripe}
use Rattle.tg_protocol.specs.Logs.{path}
use Rattle.tg_protocol.specs.Clients.{Task, Syncing, Walking, Appending, Trimming, Copying', Reconfiguring, Hand, Doing, Work, Client, new_client, refusal}
use Rattle.tg_protocol.specs.ClientSteps as step
use Rattle.tg_protocol.specs.ClientSteps.{ClientTurn, task_in, task_asks, task_awaited, refused_or, client_command, client_deliver, client_tick}
use Rattle.tg_protocol.specs.Worlds.{World, start, client, log, packet_of, happens}
use Rattle.tg_protocol.specs.Chosen.{IsDecided}
use Rattle.tg_protocol.specs.Runs.{Moves, Next, Takes, Reaches, run}
use Rattle.tg_protocol.specs.Alike.{SentTo}
use Rattle.tg_protocol.specs.Playing.{OnPath, OfCopy, ReadsOnPath}
use Rattle.tg_law_layouts.specs.Moves.After.{after}
use Rattle.tg_law_layouts.specs.Moves.Configs.{config}
use Rattle.tg_law_layouts.proofs.Moves.Lists.{contained, at_map}
use Rattle.tg_law_layouts.proofs.Moves.Members.{Has, Image, has_contained, has_either, has_right, has_map, found}
use Rattle.tg_law_layouts.proofs.Moves.Clients.{reserved, hand_reserved, work_reserved}
use Rattle.tg_law_layouts.proofs.Moves.Turns.{not_busy}
use Rattle.tg_law_layouts.proofs.Requests.Starts.{All, all_hold}
use Rattle.tg_law_layouts.proofs.Layouts.Layouts.{stays_sent}
use Rattle.tg_law_layouts.proofs.Layouts.Deciding.{layouts_are_known, decided_stays}
use Rattle.tg_law_replies.proofs.History.Members.{same_oid}
use Rattle.tg_law_replies.proofs.Books.Worlds.{nil_right, regroup, run_both}
use Rattle.tg_law_walks.specs.Walks.Streams.{IsGood, AreLinked}
use Rattle.tg_law_walks.specs.Walks.Rounds.{IsAtWalk, IsAtTask, IsAtWork}
use Rattle.tg_law_walks.proofs.Walks.Cells.{known_at}
use Rattle.tg_law_walks.proofs.Lists.Reached.{before_reached, goes_later}
use Rattle.tg_law_claims.proofs.Playing.Moving.{Input, Commanded, Handed, Ticked, Turns, Makes, Rests, Turned, makes}
use Rattle.tg_law_claims.proofs.Playing.Missing.{IsStep, IsMissed, misses}
use Rattle.tg_law_claims.proofs.Playing.Trails.{ListsFall, on_path, no_path}
use Rattle.tg_law_claims.proofs.Playing.Treading.{IsTreading}
use Rattle.tg_law_claims.proofs.Playing.Stripes.{IsOfStripe, IsCopying, nth_of}
use Rattle.tg_law_claims.proofs.Playing.Pathing.{TaskOn, WorkOn, IsOn, GivesCopy, TaskMisses, feed_fine, command_fine, tick_fine}
use Rattle.tg_law_claims.proofs.Playing.Pathing as pathing
use Rattle.tg_law_claims.proofs.Playing.Outstanding.{WalkReads, CopyReads, ReadsIt, AllRead, given_read, tick_read}
use Rattle.tg_law_claims.proofs.Playing.Reading.{feed_quiet, command_quiet}

is_tail : (y : Msg) (t : ℕ) (ls : List StreamLink) → reply y ≡ IsTail t ls → y ≡ msg.Tail t ls
unfolding reply
is_tail y t ls h = grind arith

is_missing : (y : Msg) (p : ℕ) → reply y ≡ IsMissing p → y ≡ msg.Missing p
unfolding reply
is_missing y p h = grind arith

-- an awaited answer's request
record Asked (outs : List Out) (from : NodeId) (rid : ℕ) : Type 0 where
  of : Out
  has : Has outs of
  to : of.to ≡ from
  number : of.rid ≡ rid

same_node : (a b : NodeId) → node_eq a b ≡ true → a ≡ b
unfolding node_eq
same_node a b h = grind arith

both : (a b : Bool) → (a && b) ≡ true → (a ≡ true) × (b ≡ true)
both a b h = grind arith

same_rid : (a b : ℕ) → (a == b) ≡ true → a ≡ b
same_rid a b h = grind arith

asked : (outs : List Out) (from : NodeId) (rid : ℕ) → awaits outs from rid ≡ true → Asked outs from rid
asked outs from rid h =
    let p = found (λ (o : Out). node_eq o.to from && (o.rid == rid)) outs h in
    let t = both (node_eq p.it.to from) (p.it.rid == rid) p.passes in
    record { of = p.it; has = p.has; to = same_node p.it.to from t.0; number = same_rid p.it.rid rid t.1 }

-- a link that is found stands among them, and is the stream's
link_found : (o : Oid) (ls : List StreamLink) (y : StreamLink) → link_of o ls ≡ Some y → Has ls y × (y.oid ≡ o)
link_found o [] y e = absurd (cc)
link_found o (z ∷ ls) y e = by (oid_eq z.oid o) refl e (λ f. link_found o ls y f)
  where
    same : Some z ≡ Some y → y ≡ z
    same f = cc

    by : (b : Bool) → oid_eq z.oid o ≡ b → (if b then Some z else link_of o ls) ≡ Some y → (link_of o ls ≡ Some y → Has ls y × (y.oid ≡ o)) → Has (z ∷ ls) y × (y.oid ≡ o)
    by true t f rest = (inl (same f), ap (λ (l : StreamLink). l.oid) (same f) ∙ same_oid z.oid o t)
    by false t f rest = let r = rest f in (inr r.0, r.1)

look_is : (e : ℕ) (p : Layout) (r s : ℕ) → unit_ask (has_stripe e p r s) ≡ Looks e ((range_at p.ranges r).lo + s) (range_end p r) (length (range_at p.ranges r).stripes)
unfolding unit_ask
look_is e p r s = refl

module _ (m : Meaning) (h : Header) (ms : Moves m) (r : Reaches m h ms (after m h ms)) where
  abbrev end : World m
  end = after m h ms

  -- a client was told these links with a tail, by the end
  record Heard (k : ℕ) (ls : List StreamLink) : Type 0 where
    rid : ℕ
    tail : ℕ
    sent : SentTo m end k rid (msg.Tail tail ls)

  -- it was given this copy to make
  abbrev Given : ℕ → ℕ → ℕ → ℕ → Type 0
  Given k u g s = Contains ms (Takes (Commands k (cmd.Copy u g s)))

  abbrev On : ℕ → Client m → Type 0
  On k c = IsOn m (Heard k) (Given k) c

  abbrev Good : ℕ → ℕ → ℕ → Type 0
  Good k epoch p = OnPath m end k p ⊎ OfCopy m ms end k epoch p

  -- At a world of the run.
  module _ (xs ys : Moves m) (split : ms ≡ xs ++ ys) where
    abbrev w : World m
    w = after m h xs

    reached : Reaches m h xs (after m h xs)
    reached = before_reached m h ms r xs ys split

    sent : (p : Packet) → Has w.packets p → Has end.packets p
    sent p i = subst (λ (v : World m). Has v.packets p) (sym (ap (λ (zs : Moves m). after m h zs) split ∙ run_both m xs ys (start m h))) (stays_sent m ys w p i)

    decided : (q : Layout) → IsDecided m w q.epoch q → IsDecided m end q.epoch q
    decided q d = (decided_stays m h xs w end reached (goes_later m h ms r xs ys split)).stays q.epoch q d

    all : All m (config m (after m h xs))
    all = all_hold m h xs

    module _ (n : ℕ) (on : On n (client m w n)) where
      abbrev c : Client m
      c = client m w n

      stand : IsDecided m end c.stand.epoch c.stand
      stand = decided c.stand ((layouts_are_known m h xs w reached).clients n)

      -- what a copy reads
      copy_good : (epoch p : ℕ) → CopyReads m (Heard n) (Given n) c epoch p → OfCopy m ms end n epoch p
      copy_good epoch p y = record {
        unit = y.copy.unit;
        range = y.copy.range;
        stripe = y.copy.stripe;
        given = y.copies.given;
        layout = c.stand;
        decided = subst (λ (e : ℕ). IsDecided m end e c.stand) (sym y.now) stand;
        here = y.here;
      }

      -- what a walk reads, by what is true of the log
      module _ (linked : AreLinked (log m end)) (works : IsAtWork m (log m end) c c.work) where
        falls : ListsFall (log m end)
        falls o q d ps e i = (linked o q d ps e i).falling

        path_of : (ls : List StreamLink) (o : Oid) (p : ℕ) (x : Option StreamLink) → Heard n ls → link_of o ls ≡ x → Has (path (log m end) o (backs_of x)) p → OnPath m end n p
        path_of ls o p None heard e i = no_path (log m end) o p i
        path_of ls o p (Some y) heard e i =
            let f = link_found o ls y e in
            record {
              rid = heard.rid;
              tail = heard.tail;
              links = ls;
              heard = heard.sent;
              link = y;
              linked = contained ls y f.0;
              here = contained _ p (subst (λ (z : Oid). Has (path (log m end) z y.backs) p) (sym f.1) i);
            }

        walk_good : (p : ℕ) → WalkReads m (Heard n) (Given n) c p → OnPath m end n p
        walk_good p y = subst (OnPath m end n) (sym y.at) (path_of y.work.lasts y.walk.oid y.job.place.pos (link_of y.walk.oid y.work.lasts) on_task.0 refl here)
          where
            on_task : Heard n y.work.lasts × IsTreading (backs_of (link_of y.walk.oid y.work.lasts)) y.walk
            on_task = subst (TaskOn m (Heard n) (Given n) c.stand y.work.lasts) y.task (subst (WorkOn m (Heard n) (Given n) c.stand) y.works on)

            at_walk : IsAtWalk m (log m end) c y.work y.walk y.rest
            at_walk = subst (IsAtTask m (log m end) c y.work) y.task (subst (IsAtWork m (log m end) c) y.works works)

            first : Contains (y.walk.oid ∷ y.rest) y.walk.oid
            first = contained (y.walk.oid ∷ y.rest) y.walk.oid (inl refl)

            good : IsGood (log m end) y.walk.oid y.work.tail (backs_of (link_of y.walk.oid y.work.lasts))
            good = at_walk.round.lists y.walk.oid (at_walk.round.left y.walk.oid first)

            here : Has (path (log m end) y.walk.oid (backs_of (link_of y.walk.oid y.work.lasts))) y.job.place.pos
            here = on_path (log m end) y.walk.cells y.walk.oid (backs_of (link_of y.walk.oid y.work.lasts)) y.walk.trail y.work.tail y.job.place.pos on_task.1.came
                (λ q d e. known_at (log m end) y.walk.cells at_walk.round.known q d e) falls good.falling (on_task.1.reads y.job y.reads).0

        reads_good : (epoch p : ℕ) → ReadsIt m (Heard n) (Given n) c epoch p → Good n epoch p
        reads_good epoch p (inl y) = inl (walk_good p y)
        reads_good epoch p (inr y) = inr (copy_good epoch p y)

      -- what comes

      kept_out : (v : Work m) (t : Task m) (o : Out) → c.work ≡ Some v → v.hand ≡ Doing t → Has (task_awaited m c.stand t) o → Has (reserved m c) o
      kept_out v t o is e j = subst (λ (z : Option (Work m)). Has (work_reserved m c.stand z) o) (sym is) (subst (λ (d : Hand m). Has (hand_reserved m c.stand d) o) (sym e) j)

      module _ (p : Packet) (i : Has w.packets p) (to : p.to ≡ client_id n) where
        tells : pathing.Tells m (Heard n) (Given n) (reply p.msg)
        tells t ls is = record { rid = p.rid; tail = t; sent = record { packet = p; sent = contained end.packets p (sent p i); to = to; number = refl; says = is_tail p.msg t ls is } }

        look_asked : (y : Copying) (l : ℕ) (o : Out) → Has (copy_work_asks c.stand y (Looking l)) o → (o.to ≡ unit_id y.unit) × (o.msg ≡ has_stripe c.stand.epoch c.stand y.range y.stripe)
        unfolding copy_work_asks
        look_asked y l o (inl e) = (ap (λ (z : Out). z.to) e, ap (λ (z : Out). z.msg) e)
        look_asked y l o (inr j) = absurd j

        asks_copy : (y : Copying) (o : Out) → Has (task_awaited m c.stand (Copying' y)) o → Has (copy_work_asks c.stand y y.work) o
        unfolding task_asks
        asks_copy y o j = j

        missing_in : (v : Work m) (y : Copying) → c.work ≡ Some v → v.hand ≡ Doing (Copying' y) → Asked (task_awaited m c.stand (Copying' y)) p.from p.rid → (l pos : ℕ) → y.work ≡ Looking l → reply p.msg ≡ IsMissing pos → IsOfStripe c.stand y.range y.stripe pos
        missing_in v y works hand a l pos look is = record { from = omega (arith, place.is); stripe = nth_of lo y.stripe n' pos place.at copies.stripe (omega (arith, place.is)) }
          where
            lo : ℕ
            lo = (range_at c.stand.ranges y.range).lo

            n' : ℕ
            n' = length (range_at c.stand.ranges y.range).stripes

            copies : IsCopying m (Given n) c.stand y
            copies = subst (λ (d : Hand m). TaskOn m (Heard n) (Given n) c.stand v.lasts (task_in m d)) hand (subst (WorkOn m (Heard n) (Given n) c.stand) works on)

            of : (a.of.to ≡ unit_id y.unit) × (a.of.msg ≡ has_stripe c.stand.epoch c.stand y.range y.stripe)
            of = look_asked y l a.of (subst (λ (z : CopyWork). Has (copy_work_asks c.stand y z) a.of) look (asks_copy y a.of a.has))

            missed : IsMissed m w.packets p pos
            missed = (misses m h xs).each y.unit p pos i (sym a.to ∙ of.0) (is_missing p.msg pos is)

            same : a.of.msg ≡ missed.ask.msg
            same = (all.0.0.clients n).agree a.of missed.ask (kept_out v (Copying' y) a.of works hand a.has) missed.asked (missed.from ∙ to) missed.request (a.number ∙ sym missed.rid) (a.to ∙ sym missed.to)

            place : IsStep (lo + y.stripe) n' pos
            place = missed.steps c.stand.epoch (lo + y.stripe) (range_end c.stand y.range) n' (ap unit_ask (sym same ∙ of.1) ∙ look_is c.stand.epoch c.stand y.range y.stripe)

        task_misses : (v : Work m) (t : Task m) → c.work ≡ Some v → v.hand ≡ Doing t → awaits (task_awaited m c.stand t) p.from p.rid ≡ true → TaskMisses m (Heard n) (Given n) c.stand t (reply p.msg)
        task_misses v (Copying' y) works hand a = λ l pos look is. missing_in v y works hand (asked (task_awaited m c.stand (Copying' y)) p.from p.rid a) l pos look is
        task_misses v (Syncing s) works hand a = tt
        task_misses v (Walking k os) works hand a = tt
        task_misses v (Appending b y) works hand a = tt
        task_misses v (Trimming t) works hand a = tt
        task_misses v (Reconfiguring q) works hand a = tt

      -- a turn

      gives : (x : CommandOf m) → Contains ms (Takes (Commands n x)) → GivesCopy m (Heard n) (Given n) x
      gives (cmd.Copy u g s) i = i
      gives x i = tt

      turn_on : (e : EventOf m) → Contains ms (Takes e) → (t : ClientTurn m) → Input m w e n t → On n t.now × AllRead m (Heard n) (Given n) t.now t.sends
      unfolding client_command client_deliver client_tick
      turn_on e i t (Commanded x is) =
          let f = command_fine m (Heard n) (Given n) c x (refusal m c x) refl (not_busy m c x) (gives x (subst (λ (y : EventOf m). Contains ms (Takes y)) is i)) on in
          (f, given_read m (Heard n) (Given n) c (refused_or m c x (refusal m c x)) (command_quiet m c x) f)
      turn_on e i t (Handed p has to) =
          let f = feed_fine m (Heard n) (Given n) c p.from p.rid (reply p.msg) (tells p has to) (λ v t a b d. task_misses p has to v t a b d) on in
          (f, given_read m (Heard n) (Given n) c (step.feed m c c.work p.from p.rid (reply p.msg)) (feed_quiet m c p.from p.rid (reply p.msg)) f)
      turn_on e i t Ticked = (tick_fine m (Heard n) (Given n) c c.work refl on, tick_read m (Heard n) (Given n) c c.work refl on)

  -- Along the run.

  module _ (linked : AreLinked (log m end)) (works : (xs ys : Moves m) → ms ≡ xs ++ ys → (k : ℕ) → IsAtWork m (log m end) (client m (after m h xs) k) (client m (after m h xs) k).work) where
    record State (v : World m) : Type 0 where
      clients : (k : ℕ) → On k (client m v k)
      reads : (x : Packet) (k epoch p : ℕ) → Has v.packets x → x.from ≡ client_id k → x.msg ≡ msg.Read epoch p → Good k epoch p

    same_num : (a b : ℕ) → client_id a ≡ client_id b → a ≡ b
    same_num a b e = ap (λ (z : NodeId). z.num) e

    given_here : (xs ys : Moves m) (e : EventOf m) → ms ≡ xs ++ Takes e ∷ ys → Contains ms (Takes e)
    given_here xs ys e split = subst (λ (zs : Moves m). Contains zs (Takes e)) (sym split) (contained (xs ++ Takes e ∷ ys) (Takes e) (has_right xs (Takes e ∷ ys) (Takes e) (inl refl)))

    module _ (xs ys : Moves m) (e : EventOf m) (split : ms ≡ xs ++ Takes e ∷ ys) (st : State (after m h xs)) where
      abbrev v : World m
      v = happens m (after m h xs) e

      then_is : after m h (xs ++ Takes e ∷ []) ≡ v
      unfolding run
      then_is = run_both m xs (Takes e ∷ []) (start m h)

      then_split : ms ≡ (xs ++ Takes e ∷ []) ++ ys
      then_split = split ∙ sym (regroup xs (Takes e ∷ []) ys)

      -- what is read by a client as it stands after the step
      now_good : (n epoch p : ℕ) → On n (client m v n) → ReadsIt m (Heard n) (Given n) (client m v n) epoch p → Good n epoch p
      now_good n epoch p on y =
          reads_good (xs ++ Takes e ∷ []) ys then_split n (subst (λ (u : World m). On n (client m u n)) (sym then_is) on) linked (works (xs ++ Takes e ∷ []) ys then_split n) epoch p
          (subst (λ (u : World m). ReadsIt m (Heard n) (Given n) (client m u n) epoch p) (sym then_is) y)

      stepped : Makes m (after m h xs) e v → State v
      stepped (Rests ps more others same) = record {
        clients = λ k. subst (On k) (sym (same k)) (st.clients k);
        reads = λ x k epoch p i from is. by x k epoch p from is (has_either (after m h xs).packets ps x (subst (λ (zs : List Packet). Has zs x) more i));
      }
        where
          by : (x : Packet) (k epoch p : ℕ) → x.from ≡ client_id k → x.msg ≡ msg.Read epoch p → Has (after m h xs).packets x ⊎ Has ps x → Good k epoch p
          by x k epoch p from is (inl i) = st.reads x k epoch p i from is
          by x k epoch p from is (inr i) = absurd (others x k i from)
      stepped (Turned n t input more here turns) = record {
        clients = clients;
        reads = λ x k epoch p i from is. by x k epoch p from is (has_either (after m h xs).packets (map (packet_of m (client_id n)) t.sends) x (subst (λ (zs : List Packet). Has zs x) more i));
      }
        where
          turned : On n t.now × AllRead m (Heard n) (Given n) t.now t.sends
          turned = turn_on xs (Takes e ∷ ys) split n (st.clients n) e (given_here xs ys e split) t input

          clients : (k : ℕ) → On k (client m v k)
          clients k = at (turns k)
            where
              at : Turns m (after m h xs) v n t k → On k (client m v k)
              at (inl a) = subst (On k) (sym a.1) (subst (λ (j : ℕ). On j t.now) (sym a.0) turned.0)
              at (inr a) = subst (On k) (sym a) (st.clients k)

          new : (x : Packet) (k epoch p : ℕ) → x.from ≡ client_id k → x.msg ≡ msg.Read epoch p → Image (packet_of m (client_id n)) t.sends x → Good k epoch p
          new x k epoch p from is y =
              subst (λ (j : ℕ). Good j epoch p) (sym (same_num k n (sym from ∙ ap (λ (z : Packet). z.from) y.is)))
              (now_good n epoch p (clients n) (subst (λ (d : Client m). ReadsIt m (Heard n) (Given n) d epoch p) (sym here) (turned.1 y.of epoch p y.has (sym (ap (λ (z : Packet). z.msg) y.is) ∙ is))))

          by : (x : Packet) (k epoch p : ℕ) → x.from ≡ client_id k → x.msg ≡ msg.Read epoch p → Has (after m h xs).packets x ⊎ Has (map (packet_of m (client_id n)) t.sends) x → Good k epoch p
          by x k epoch p from is (inl i) = st.reads x k epoch p i from is
          by x k epoch p from is (inr i) = new x k epoch p from is (has_map (packet_of m (client_id n)) t.sends x i)

    new_on : (k j : ℕ) → On k (new_client m h j)
    unfolding new_client
    new_on k j = tt

    start_state : State (start m h)
    unfolding start
    start_state = record {
      clients = λ k. at_map (new_client m h) (numbers h.clients 0) k (new_client m h k) (λ (c : Client m). On k c) (λ j. new_on k j) (new_on k k);
      reads = λ x k epoch p i. absurd i;
    }

    state_on : (zs done : Moves m) → ms ≡ done ++ zs → State (after m h done) → State end
    unfolding run
    state_on [] done e st = subst (λ (xs : Moves m). State (after m h xs)) (sym (e ∙ nil_right done)) st
    state_on (Next ∷ zs) done e st = state_on zs (done ++ Next ∷ []) (e ∙ sym (regroup done (Next ∷ []) zs))
        (subst State (sym (run_both m done (Next ∷ []) (start m h))) (record { clients = st.clients; reads = st.reads }))
    state_on (Takes x ∷ zs) done e st = state_on zs (done ++ Takes x ∷ []) (e ∙ sym (regroup done (Takes x ∷ []) zs))
        (subst State (sym (run_both m done (Takes x ∷ []) (start m h))) (stepped done zs x e st (makes m (after m h done) x)))

    end_state : State end
    unfolding run
    end_state = state_on ms [] refl start_state

    pub on_paths : ReadsOnPath m ms end
    on_paths x k epoch p i from is = end_state.reads x k epoch p (has_contained end.packets x i) from is
