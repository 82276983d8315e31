-- Of a client's copy, in any run, through each of its turns: it is the one of the command, the layout at which the client stands
-- doesn't refuse it, what it reads and stores is of the stripe, and past the seal the spare is in that layout's epoch or later.
use Rattle.std.proofs.Common.{◌≡◌, ℕ, ◌+◌, ◌*◌, ◌<◌, ◌≤◌, List, [], ◌∷◌, length, true, refl, sym, ap, ◌∙◌, subst, inl, inr, arith, Option, Some, None, append-nil}
use Rattle.std.specs.Prelude.{◌==◌, nat_lt, slice_index_or}
use Rattle.tg_base.specs.Clusters.{Header}
use Rattle.tg_base.specs.Layouts.{Layout}
use Rattle.tg_base.specs.declared.ids.NodeId.{NodeId}
use Rattle.tg_base.specs.declared.ids.Role.TheVariants as role
use Rattle.tg_base.specs.declared.msg.Msg.{Msg}
use Rattle.tg_base.specs.declared.msg.Msg.TheVariants as msg
use Rattle.tg_base.specs.declared.packet.Out.{Out}
use Rattle.tg_base.specs.declared.packet.Packet.{Packet}
use Rattle.tg_kind.specs.Meaning.{Meaning}
use Rattle.tg_model.specs.Kinds.{CommandOf}
use Rattle.tg_model.specs.declared.command.Command.TheVariants as cmd
use Rattle.tg_protocol.specs.Words.{first_some, client_id, unit_id, numbers}
use Rattle.tg_protocol.specs.Layouts.{range_end}
use Rattle.tg_protocol.specs.Requests.{awaits, Next, Goes, Learns, Ends, Turn}
use Rattle.tg_protocol.specs.Replies.{Reply, IsSealed, IsMissing, reply}
use Rattle.tg_protocol.specs.Units.{Looks, unit_ask}
use Rattle.tg_protocol.specs.Cells.{Place as CellPlace}
use Rattle.tg_protocol.specs.Appending.{append_start}
use Rattle.tg_protocol.specs.Syncing.{sync_start}
use Rattle.tg_protocol.specs.Trimming.{CopyWork, Sealing, Reading, Storing, Trimming, Looking, Copying, CopyEnd, copies, copy_start, copy_work_asks, has_stripe}
use Rattle.tg_protocol.specs.Clients.{Task, Syncing, Walking, Appending, Copying', Reconfiguring, Hand, Doing, Learning, Work, Client, new_client, copy_fault, busy, tx_open, tests, refusal}
use Rattle.tg_protocol.specs.Clients as clients
use Rattle.tg_protocol.specs.Answers.{Moved, appends, syncs}
use Rattle.tg_protocol.specs.ClientSteps.{ClientTurn, task_in, task_asks, task_awaited, client_command, client_deliver, client_tick}
use Rattle.tg_protocol.specs.Worlds.{start}
use Rattle.tg_protocol.specs.Runs.{Moves}
use Rattle.tg_law_layouts.specs.Moves.After.{after}
use Rattle.tg_law_layouts.specs.Moves.Configs.{Config, config, client_in, unit_in}
use Rattle.tg_law_layouts.proofs.Moves.Clients.{reserved, work_reserved, hand_reserved}
use Rattle.tg_law_layouts.proofs.Moves.Growth.{IsCalm, by_client}
use Rattle.tg_law_layouts.proofs.Moves.Lists.{at_set, at_map}
use Rattle.tg_law_layouts.proofs.Moves.Members.{Has}
use Rattle.tg_law_layouts.proofs.Moves.Moves.{ClientInput, Commanded, Hears', Ticks', Comes, client_turn}
use Rattle.tg_law_layouts.proofs.Moves.Turns.{not_busy}
use Rattle.tg_law_layouts.proofs.Requests.Starts.{All, all_hold}
use Rattle.tg_law_cells.proofs.Cells.Justified.{Awaited, awaited_ask}
use Rattle.tg_law_claims.proofs.Playing.Missing.{IsMissed, IsStep, misses}
use Rattle.tg_law_claims.proofs.Playing.Past.{same_place}
use Rattle.tg_law_steps.proofs.Along.{delivered, commanded, ticked, over_walks}
use Rattle.tg_law_steps.proofs.Ends.{CopyGoes, CopyLearns, End, GoesOn, LearnsNewer}
use Rattle.tg_law_steps.proofs.Machines.Copies as copying
use Rattle.tg_law_steps.proofs.Places.{Place, Feeds, Newer, OnCopy, Walks}
use Rattle.tg_law_steps.proofs.Takes.{Taken, SaidAtOnce, CopyBegins, said_work}
use Rattle.tg_law_steps.proofs.Ways.{Way, FeedsCopy, NewerCopy, AllWalked, HasPlayed}
use Rattle.tg_law_headline.proofs.Issues.Along.{along}
use Rattle.tg_law_finish.proofs.Finish.Midway.{ReadShape, ReadNext, read_job}
use Rattle.tg_law_finish.proofs.Finish.Stripes.{InStripe, first_of, step_of, next_past, some_step}

less_of : (a b : ℕ) → nat_lt a b ≡ true → a < b
less_of a b e = grind arith

equal_of : (a b : ℕ) → (a == b) ≡ true → a ≡ b
equal_of a b e = grind arith

is_missing : (y : Msg) (p : ℕ) → reply y ≡ IsMissing p → y ≡ msg.Missing p
unfolding reply
is_missing y p e = grind arith

is_sealed : (y : Msg) (e h : ℕ) → reply y ≡ IsSealed e h → y ≡ msg.Sealed e h
unfolding reply
is_sealed y e h is = grind arith

look_is : (e : ℕ) (p : Layout) (r s : ℕ) → unit_ask (has_stripe e p r s) ≡ Looks e (first_of p r s) (range_end p r) (step_of p r)
unfolding unit_ask
look_is e p r s = refl

-- what is read and stored is of the stripe
abbrev pub WorkShape : Layout → ℕ → ℕ → CopyWork → Type 0
WorkShape p r s (Reading j) = ReadShape j.place j.work × InStripe p r s j.place.pos
WorkShape p r s (Storing i pos c) = InStripe p r s pos
WorkShape p r s w = Unit {0}

-- past the seal the spare has come to the epoch
abbrev pub Since : Layout → ℕ → CopyWork → Type 0
Since p e (Sealing i) = Unit {0}
Since p e w = p.epoch ≤ e

-- it is the command's
abbrev pub OfCommand : (m : Meaning) → CommandOf m → Copying → Type 0
OfCommand m y x = y ≡ cmd.Copy x.unit x.range x.stripe

module _ (m : Meaning) (epochs : ℕ → ℕ) where
  pub record CopyShape (p : Layout) (x : Copying) : Type 0 where
    pub fault : copy_fault m p x.unit x.range x.stripe ≡ None
    pub work : WorkShape p x.range x.stripe x.work
    pub since : Since p (epochs x.unit) x.work

  abbrev CopyNext : CommandOf m → Layout → Next Copying CopyEnd → Type 0
  CopyNext y p (Goes x) = CopyShape p x × OfCommand m y x
  CopyNext y p (Learns x) = OfCommand m y x
  CopyNext y p (Ends e) = Unit {0}

  -- what an awaited answer tells of the spare
  pub record CopyHears (p : Layout) (c : Copying) (x : Reply) : Type 0 where
    pub lacks : (i pos : ℕ) → c.work ≡ Looking i → x ≡ IsMissing pos → (at : ℕ) × (pos ≡ first_of p c.range c.stripe + at * step_of p c.range)
    pub sealed : (i e h : ℕ) → c.work ≡ Sealing i → x ≡ IsSealed e h → e ≤ epochs c.unit

  module _ (p : Layout) (u : ℕ) (x : Reply) (next : ℕ) where
    -- the position at which it goes on is of the stripe
    goes_at : (c : Copying) (w : CopyWork) (at gone : ℕ) → copying.GoesOn p u x next c w at gone → 0 < step_of p c.range → CopyHears p (copies c w) x → (i : ℕ) × (at ≡ first_of p c.range c.stripe + i * step_of p c.range)
    goes_at c _ _ _ (copying.Lacks i pos is) some f = f.lacks i pos refl is
    goes_at c _ _ _ (copying.IsSeal i e h is k) some f = let y = next_past p c.range c.stripe 0 some in (y.at, y.is)
    goes_at c _ _ _ (copying.IsStored i pos y is) some f = let z = next_past p c.range c.stripe (pos + 1) some in (z.at, z.is)
    goes_at c _ _ _ (copying.HasSame i pos y z is k) some f = let v = next_past p c.range c.stripe (pos + 1) some in (v.at, v.is)
    goes_at c _ _ _ (copying.IsPast i pos y b is k) some f = let z = next_past p c.range c.stripe b some in (z.at, z.is)
    goes_at c _ _ _ (copying.IsTrimmed i b d is) some f = let z = next_past p c.range c.stripe b some in (z.at, z.is)

    -- and the spare has been sealed
    goes_since : (c : Copying) (w : CopyWork) (at gone : ℕ) → copying.GoesOn p u x next c w at gone → CopyHears p (copies c w) x → Since p (epochs c.unit) w → p.epoch ≤ epochs c.unit
    goes_since c _ _ _ (copying.IsSeal i e h is same) f k = let le = f.sealed i e h refl is in let at = equal_of e p.epoch same in omega (arith, le, at)
    goes_since c _ _ _ (copying.IsStored i pos y is) f k = k
    goes_since c _ _ _ (copying.HasSame i pos y z is e) f k = k
    goes_since c _ _ _ (copying.IsPast i pos y b is e) f k = k
    goes_since c _ _ _ (copying.IsTrimmed i b d is) f k = k
    goes_since c _ _ _ (copying.Lacks i pos is) f k = k

    copy_turn : (y : CommandOf m) (c : Copying) (t : Turn Copying CopyEnd) → copying.Fed p u x next c t → CopyShape p c → OfCommand m y c → CopyHears p c x → CopyNext y p t.to
    copy_turn y _ _ (copying.Nothing c) k of f = (k, of)
    copy_turn y _ _ (copying.ReadGoes c j z e) k of f = (
      record {
        fault = k.fault;
        work = (subst ReadNext e (read_job u x next j k.work.0), subst (λ (a : CellPlace). InStripe p c.range c.stripe a.pos) (sym (same_place j u x next z e)) k.work.1);
        since = k.since;
      },
      of,
    )
    copy_turn y _ _ (copying.Stores c j z e) k of f = (record { fault = k.fault; work = k.work.1; since = k.since }, of)
    copy_turn y _ _ (copying.Trims c j b e) k of f = (record { fault = k.fault; work = tt; since = k.since }, of)
    copy_turn y _ _ (copying.JobLearns c j z e) k of f = of
    copy_turn y _ _ (copying.JobFenced c j v e i) k of f = of
    copy_turn y _ _ (copying.JobPasses c j e i) k of f = (k, of)
    copy_turn y _ _ (copying.Reads c w at gone g e) k of f =
        let z = goes_at c w at gone g (some_step m p c.unit c.range c.stripe k.fault) f in
        (record { fault = k.fault; work = (tt, record { at = z.0; is = z.1; below = less_of at (range_end p c.range) e }); since = goes_since c w at gone g f k.since }, of)
    copy_turn y _ _ (copying.LooksLast c w at gone g e) k of f = (record { fault = k.fault; work = tt; since = goes_since c w at gone g f k.since }, of)
    copy_turn y _ _ (copying.HasAll c i is) k of f = tt
    copy_turn y _ _ (copying.IsFence c w e is i g) k of f = of

  -- Along a turn.

  abbrev pub TaskStands : Layout → Work m → Task m → Type 0
  TaskStands p w (Copying' x) = CopyShape p x × OfCommand m w.command x
  TaskStands p w t = Unit {0}

  -- while it learns a newer layout
  abbrev LearnStands : Work m → Task m → Type 0
  LearnStands w (Copying' x) = OfCommand m w.command x
  LearnStands w t = Unit {0}

  abbrev pub HandStands : Layout → Work m → Hand m → Type 0
  HandStands p w (Doing t) = TaskStands p w t
  HandStands p w (Learning ws t) = LearnStands w t

  abbrev pub WorkStands : Layout → Option (Work m) → Type 0
  WorkStands p None = Unit {0}
  WorkStands p (Some w) = HandStands p w w.hand

  abbrev Good : Moved m → Type 0
  Good x = WorkStands x.now.stand x.now.work

  learns : (p : Layout) (w : Work m) (h : Hand m) → HandStands p w h → LearnStands w (task_in m h)
  learns p w (Doing (Copying' x)) k = k.1
  learns p w (Doing (Syncing x)) k = tt
  learns p w (Doing (Walking x os)) k = tt
  learns p w (Doing (Appending x y)) k = tt
  learns p w (Doing (clients.Trimming x)) k = tt
  learns p w (Doing (Reconfiguring x)) k = tt
  learns p w (Learning ws t) k = k

  abbrev TaskHears : Layout → Task m → Reply → Type 0
  TaskHears p (Copying' y) x = CopyHears p y x
  TaskHears p t x = Unit {0}

  abbrev Here : Client m → Work m → Place m → Type 0
  Here c w (Feeds t n rid x) = TaskStands c.stand w t × TaskHears c.stand t x
  Here c w (Newer t n rid q) = LearnStands w t
  Here c w (OnCopy x to) = CopyNext w.command c.stand to
  Here c w p = Unit {0}

  way : (c : Client m) (w : Work m) (p : Place m) (d : Client m) (v : Work m) (q : Place m) → Way m c w p d v q → Here c w p → Here d v q
  unfolding copy_start
  way c w _ _ _ _ (FeedsCopy y n rid x) k = copy_turn c.stand n x c.next w.command y _ (copying.copy_fed c.stand n x c.next y) k.0.0 k.0.1 k.1
  way c w _ _ _ _ (NewerCopy x n rid q fine) k = (record { fault = fine; work = tt; since = tt }, k)
  way c w _ _ _ _ x k = tt

  walked_way : (c : Client m) (w : Work m) (d : Client m) (q : Place m) → AllWalked m c w d q → Here c w (Walks []) → Here d w q
  walked_way c w _ _ (HasPlayed of) k = tt
  walked_way c w _ _ x k = tt

  ends : (c : Client m) (w : Work m) (p : Place m) (x : Moved m) → End m c w p x → Here c w p → Good x
  unfolding appends append_start syncs sync_start
  ends c w _ _ (GoesOn _ _ _ (CopyGoes x y)) k = k
  ends c w _ _ (GoesOn _ _ _ x) k = tt
  ends c w _ _ (LearnsNewer _ (CopyLearns x y)) k = k
  ends c w _ _ (LearnsNewer _ x) k = tt
  ends c w _ _ x k = tt

  none_of : {X : Type 0} (x : Option X) (xs : List (Option X)) → first_some (x ∷ xs) ≡ None → (x ≡ None) × (first_some xs ≡ None)
  none_of None xs e = (refl, e)
  none_of (Some x) xs e = absurd cc

  not_refused : (c : Client m) (u r s : ℕ) → refusal m c (cmd.Copy u r s) ≡ None → copy_fault m c.stand u r s ≡ None
  unfolding refusal tests
  not_refused c u r s fine =
      let a = none_of (busy m c.work) _ fine in
      let b = none_of (tx_open m c) _ a.1 in
      (none_of (copy_fault m c.stand u r s) [] b.1).0

  takes : (c : Client m) (x : CommandOf m) → c.work ≡ None → refusal m c x ≡ None → (y : Moved m) → Taken m c x y → Good y
  unfolding appends append_start syncs sync_start
  takes c _ free fine _ (SaidAtOnce x d ns s) = subst (WorkStands d.stand) (sym (said_work m c x d ns s ∙ free)) tt
  takes c _ free fine _ (CopyBegins u r s) = (record { fault = not_refused c u r s fine; work = tt; since = tt }, refl)
  takes c _ free fine _ x = tt

  -- The turns.

  abbrev Stands : Client m → Type 0
  Stands c = WorkStands c.stand c.work

  commands : (c : Client m) (x : CommandOf m) → Stands c → Stands (client_command m c x).now
  unfolding client_command
  commands c x k = commanded m Good c x (λ why e. k) (λ e. takes c x (not_busy m c x e) e)

  hears : (c : Client m) (from : NodeId) (rid : ℕ) (y : Msg) → Stands c → ((w : Work m) (t : Task m) → c.work ≡ Some w → w.hand ≡ Doing t → awaits (task_awaited m c.stand t) from rid ≡ true → TaskHears c.stand t (reply y)) → Stands (client_deliver m c from rid y).now
  unfolding client_deliver
  hears c from rid y k heard = delivered m Here Good ends way (over_walks m Here Good ends walked_way) c from rid (reply y) k
      (λ w t has doing a other. (subst (HandStands c.stand w) doing (subst (WorkStands c.stand) has k), heard w t has doing a))
      (λ w q has is a. learns c.stand w w.hand (subst (WorkStands c.stand) has k))

  ticks : (c : Client m) → Stands c → Stands (client_tick m c).now
  ticks c k = ticked m (λ (t : ClientTurn m). Stands t.now) c (λ none. k) (λ w has. k)

-- Units go to no earlier epoch.
module _ (m : Meaning) (e f : ℕ → ℕ) (up : (u : ℕ) → e u ≤ f u) where
  since_later : (p : Layout) (a b : ℕ) (w : CopyWork) → a ≤ b → Since p a w → Since p b w
  since_later p a b (Sealing i) le k = tt
  since_later p a b (Reading j) le k = omega (arith, le, k)
  since_later p a b (Storing i pos c) le k = omega (arith, le, k)
  since_later p a b (Trimming i d) le k = omega (arith, le, k)
  since_later p a b (Looking i) le k = omega (arith, le, k)

  hand_later : (p : Layout) (w : Work m) (d : Hand m) → HandStands m e p w d → HandStands m f p w d
  hand_later p w (Doing (Copying' x)) k = (record { fault = k.0.fault; work = k.0.work; since = since_later p (e x.unit) (f x.unit) x.work (up x.unit) k.0.since }, k.1)
  hand_later p w (Doing (Syncing x)) k = tt
  hand_later p w (Doing (Walking x os)) k = tt
  hand_later p w (Doing (Appending x y)) k = tt
  hand_later p w (Doing (clients.Trimming x)) k = tt
  hand_later p w (Doing (Reconfiguring x)) k = tt
  hand_later p w (Learning ws t) k = k

  pub work_later : (p : Layout) (o : Option (Work m)) → WorkStands m e p o → WorkStands m f p o
  work_later p None k = tt
  work_later p (Some w) k = hand_later p w w.hand k

-- Each client of a run.
module _ (m : Meaning) where
  abbrev Epochs : Config m → ℕ → ℕ
  Epochs c = λ u. (unit_in m c u).epoch

  abbrev pub AllStand : Config m → Type 0
  AllStand c = (k : ℕ) → WorkStands m (λ u. (unit_in m c u).epoch) (client_in m c k).stand (client_in m c k).work

  stand_calm : (c : Config m) → AllStand c → IsCalm m role.Client c AllStand
  stand_calm c h d q k =
      let same : client_in m d k ≡ client_in m c k = λ j. slice_index_or (q.clients refl j) k (new_client m (q.cluster j) k) in
      subst (λ (x : Client m). WorkStands m (Epochs d) x.stand x.work) (sym same)
      (work_later m (Epochs c) (Epochs d) (λ u. (q.grows.unit u).epoch) (client_in m c k).stand (client_in m c k).work (h k))

  module _ (h : Header) (xs : Moves m) (n : ℕ) (x : Packet) (comes : Comes m (config m (after m h xs)) x (client_id n)) where
    abbrev c : Config m
    c = config m (after m h xs)

    abbrev p : Layout
    p = (client_in m (config m (after m h xs)) n).stand

    all : All m (config m (after m h xs))
    all = all_hold m h xs

    asks_copy : (y : Copying) (o : Out) → Has (task_awaited m p (Copying' y)) o → Has (copy_work_asks p y y.work) o
    unfolding task_asks
    asks_copy y o i = i

    seal_asked : (y : Copying) (l : ℕ) (o : Out) → Has (copy_work_asks p y (Sealing l)) o → o.to ≡ unit_id y.unit
    unfolding copy_work_asks
    seal_asked y l o (inl e) = ap (λ (z : Out). z.to) e
    seal_asked y l o (inr i) = absurd i

    look_asked : (y : Copying) (l : ℕ) (o : Out) → Has (copy_work_asks p y (Looking l)) o → (o.to ≡ unit_id y.unit) × (o.msg ≡ has_stripe p.epoch p y.range y.stripe)
    unfolding copy_work_asks
    look_asked y l o (inl e) = (ap (λ (z : Out). z.to) e, ap (λ (z : Out). z.msg) e)
    look_asked y l o (inr i) = absurd i

    module _ (v : Work m) (y : Copying) (works : (client_in m (config m (after m h xs)) n).work ≡ Some v) (hand : v.hand ≡ Doing (Copying' y)) (a : Awaited (task_awaited m p (Copying' y)) x.from x.rid) where
      kept_out : Has (reserved m (client_in m (config m (after m h xs)) n)) a.ask
      kept_out = subst (λ (z : Option (Work m)). Has (work_reserved m p z) a.ask) (sym works) (subst (λ (d : Hand m). Has (hand_reserved m p d) a.ask) (sym hand) a.has)

      lacks : (i pos : ℕ) → y.work ≡ Looking i → reply x.msg ≡ IsMissing pos → (at : ℕ) × (pos ≡ first_of p y.range y.stripe + at * step_of p y.range)
      lacks i pos look is = (place.at, place.is)
        where
          of : (a.ask.to ≡ unit_id y.unit) × (a.ask.msg ≡ has_stripe p.epoch p y.range y.stripe)
          of = look_asked y i a.ask (subst (λ (z : CopyWork). Has (copy_work_asks p y z) a.ask) look (asks_copy y a.ask a.has))

          missed : IsMissed m (after m h xs).packets x pos
          missed = (misses m h xs).each y.unit x pos comes.sent (sym a.to ∙ of.0) (is_missing x.msg pos is)

          same : a.ask.msg ≡ missed.ask.msg
          same = (all.0.0.clients n).agree a.ask missed.ask kept_out missed.asked (missed.from ∙ comes.to_node) missed.request (a.number ∙ sym missed.rid) (a.to ∙ sym missed.to)

          place : IsStep (first_of p y.range y.stripe) (step_of p y.range) pos
          place = missed.steps p.epoch (first_of p y.range y.stripe) (range_end p y.range) (step_of p y.range) (ap unit_ask (sym same ∙ of.1) ∙ look_is p.epoch p y.range y.stripe)

      sealed : (i e b : ℕ) → y.work ≡ Sealing i → reply x.msg ≡ IsSealed e b → e ≤ (unit_in m (config m (after m h xs)) y.unit).epoch
      sealed i e b work is =
          let to = seal_asked y i a.ask (subst (λ (z : CopyWork). Has (copy_work_asks p y z) a.ask) work (asks_copy y a.ask a.has)) in
          (all.0.1.answered y.unit x comes.sent (sym a.to ∙ to)).true.sealed e b (is_sealed x.msg e b is)

    task_hears : (v : Work m) (t : Task m) → (client_in m (config m (after m h xs)) n).work ≡ Some v → v.hand ≡ Doing t → awaits (task_awaited m p t) x.from x.rid ≡ true → TaskHears m (Epochs c) p t (reply x.msg)
    task_hears v (Copying' y) works hand a =
        let b = awaited_ask (task_awaited m p (Copying' y)) x.from x.rid a in
        record { lacks = λ i pos e is. lacks v y works hand b i pos e is; sealed = λ i e d w is. sealed v y works hand b i e d w is }
    task_hears v (Syncing s) works hand a = tt
    task_hears v (Walking y os) works hand a = tt
    task_hears v (Appending y z) works hand a = tt
    task_hears v (clients.Trimming y) works hand a = tt
    task_hears v (Reconfiguring y) works hand a = tt

  module _ (h : Header) (xs : Moves m) (held : AllStand (config m (after m h xs))) where
    abbrev now : Config m
    now = config m (after m h xs)

    turns : (k : ℕ) (t : ClientTurn m) → ClientInput m (config m (after m h xs)) k t → WorkStands m (Epochs now) t.now.stand t.now.work
    turns k t (Commanded x) = commands m (Epochs now) (client_in m now k) x (held k)
    turns k t (Hears' x comes) = hears m (Epochs now) (client_in m now k) x.from x.rid x.msg (held k) (λ v y works hand a. task_hears h xs k x comes v y works hand a)
    turns k t Ticks' = ticks m (Epochs now) (client_in m now k) (held k)

    client_moves : (k : ℕ) (t : ClientTurn m) → ClientInput m (config m (after m h xs)) k t → k < length (after m h xs).clients → AllStand (client_turn m (config m (after m h xs)) k t)
    client_moves k t i less = at_set (after m h xs).clients k t.now (new_client m (after m h xs).cluster) (λ j d. WorkStands m (Epochs now) d.stand d.work) less (turns k t i) (λ j other. held j)

  new_stands : (h : Header) (epochs : ℕ → ℕ) (j : ℕ) → WorkStands m epochs (new_client m h j).stand (new_client m h j).work
  unfolding new_client
  new_stands h epochs j = tt

  start_stands : (h : Header) → AllStand (config m (start m h))
  unfolding start
  start_stands h k = at_map (new_client m h) (numbers h.clients 0) k (new_client m h k) (λ (d : Client m). WorkStands m (Epochs (config m (start m h))) d.stand d.work) (λ j. new_stands h (Epochs (config m (start m h))) j) (new_stands h (Epochs (config m (start m h))) k)

  pub copies_stand : (h : Header) (zs : Moves m) → AllStand (config m (after m h zs))
  copies_stand h zs = along m h zs AllStand (λ xs e ys split held. by_client m AllStand (config m (after m h xs)) held (stand_calm (config m (after m h xs)) held) (λ k t i less. client_moves h xs held k t i less)) (start_stands h) zs [] (sym (append-nil zs))
