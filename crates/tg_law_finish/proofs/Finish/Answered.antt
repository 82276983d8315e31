-- The laws, from what is proved of a settling.
use Rattle.std.proofs.Common.{◌≡◌, ◌≢◌, ◌⊎◌, ℕ, zero, suc, ◌+◌, ◌-◌, ◌*◌, ◌<◌, ◌≤◌, List, [], ◌∷◌, ◌++◌, length, filter, take, cond, Bool, true, false, ◌||◌, eqb, refl, ap, ◌∙◌, sym, subst, inl, inr, arith, Some, None, Option, length-append}
use Rattle.std.proofs.Math.Seq.{take-append_seam}
use Rattle.std.proofs.lemmas.Nat.{mul-le}
use Rattle.std.specs.Prelude.{slice_get, nat_lt}
use Rattle.tg_base.specs.Clusters.{Header}
use Rattle.tg_base.specs.Layouts.{Layout}
use Rattle.tg_base.specs.declared.ids.NodeId.{NodeId}
use Rattle.tg_base.specs.declared.packet.Packet.{Packet}
use Rattle.tg_base.specs.declared.packet.Out.{Out}
use Rattle.tg_kind.specs.Meaning.{Meaning}
use Rattle.tg_model.specs.Kinds.{CommandOf}
use Rattle.tg_base.specs.Orders.{node_eq}
use Rattle.tg_protocol.specs.Words.{client_id, seqr_id}
use Rattle.tg_protocol.specs.Requests.{out}
use Rattle.tg_base.specs.declared.msg.Msg.TheVariants as msg
use Rattle.tg_protocol.specs.Cells.{CellWork, Puts, Gets, Fills, Copies, Probes, place_in, work_asks, Place}
use Rattle.tg_protocol.specs.Appending.{Append, AppendWork, Asking, Putting, Judging, append_work_asks, append_asks}
use Rattle.tg_protocol.specs.Syncing.{SyncWork}
use Rattle.tg_protocol.specs.Entries.{streams_of}
use Rattle.tg_model.specs.declared.command.Command.TheVariants as cmd
use Rattle.tg_protocol.specs.Layouts.{units_of}
use Rattle.tg_protocol.specs.Trimming.{Trims, Copying}
use Rattle.tg_protocol.specs.Clients.{Judged, Appending, Syncing, Trimming, Copying', Doing, Work, Client, Hand, Task}
use Rattle.tg_protocol.specs.ClientSteps.{task_asks, task_awaited, task_in}
use Rattle.tg_protocol.specs.Worlds.{World, seqr, client, latest, settle}
use Rattle.tg_protocol.specs.Runs.{Moves, Reaches, Always}
use Rattle.tg_protocol.specs.Finishing.{longest_chain, is_with_client, passes, IsReadyFor, most_deliveries, most_deliveries_in, Finishes, HasReply}
use Rattle.tg_law_layouts.proofs.Layouts.Deciding.{latest_decided, layouts_are_sound}
use Rattle.tg_law_layouts.proofs.Moves.Clients.{reserved, work_reserved, hand_reserved}
use Rattle.tg_law_layouts.proofs.Moves.Members.{Has}
use Rattle.tg_law_cells.proofs.Cells.Hands as hands
use Rattle.tg_law_cells.proofs.Cells.Jobs.{AppendOk}
use Rattle.tg_law_headline.specs.Issues.Issues.{TrimsInTime}
use Rattle.tg_law_headline.specs.Trims.Spare.{TrimsAre}
use Rattle.tg_law_finish.specs.Finish.Alone.{IsAlone}
use Rattle.tg_law_finish.specs.Finish.Drains.{drained, DrainsAnswer}
use Rattle.tg_law_finish.specs.Finish.Granted.{Granted}
use Rattle.tg_law_finish.specs.Finish.Appends as appends
use Rattle.tg_law_finish.specs.Finish.Appends.{WaitsForAppend, AppendStands, PuttingStands, JudgingStands}
use Rattle.tg_law_finish.specs.Finish.Asks.{NothingTrimmed, WaitsForSync}
use Rattle.tg_law_finish.specs.Finish.Copies.{copy_bound}
use Rattle.tg_law_finish.specs.Finish.Makes.{makes, make_bound}
use Rattle.tg_law_finish.specs.Finish.Ends.{EndsAppend, end_bound, record_bound}
use Rattle.tg_law_finish.specs.Finish.Reads.{WaitsForRead}
use Rattle.tg_law_finish.specs.Finish.Rescues.{is_rescue, rescue_bound}
use Rattle.tg_law_finish.specs.Finish.Trims.{trim_bound}
use Rattle.tg_law_finish.specs.Finish.Walks.{StreamsFew, passes_of, floors, passes_bound, walk_bound, streams}
use Rattle.tg_law_finish.specs.Finish.Laws.{IsReply, IsAnswered, append_bound, ask_bound, AppendAnswered, AppendInTime, AskAnswered, AskInTime, EndsAreTold, RepliesAreTold}
use Rattle.tg_law_finish.proofs.Finish.Asking.{HeldWhereTrimmed, Walkable, Owns, Holds, Trims', SyncStands, TaskStands, Reads}
use Rattle.tg_law_finish.proofs.Finish.Counted.{is_of, one_if, cost, counted, Finishes as Counted}
use Rattle.tg_law_finish.proofs.Finish.Drains.{stays_idle}
use Rattle.tg_law_finish.proofs.Finish.Replying.{settle_replies, drain_replies, copy_replies, settle_tells}
use Rattle.tg_law_finish.proofs.Finish.Suiting.{WorkSuits, task_replies, all_suit}
use Rattle.tg_law_finish.proofs.Finish.Sparing.{Lasting, copy_facts}
use Rattle.tg_law_finish.proofs.Finish.Stripes.{not_gone, stands_off}
use Rattle.tg_law_finish.proofs.Finish.Telling.{HasIt, HasCopy}
use Rattle.tg_law_finish.specs.Finish.Commands.{is_ask, plays}
use Rattle.tg_law_finish.proofs.Finish.Finishes.{writes_finish}
use Rattle.tg_law_finish.proofs.Finish.Waits.{ends_finish_by}
use Rattle.tg_law_finish.proofs.Finish.Waited.{no_floors, pays_less}
use Rattle.tg_law_finish.proofs.Finish.Walked.{asks_finish_by, makes_finish_by, rescues_finish_by}
use Rattle.tg_law_finish.proofs.Finish.Copied.{Brings, copies_finish_by}
use Rattle.tg_law_finish.proofs.Finish.Trimmed.{trims_finish_by, units_finish_by}
use Rattle.tg_law_finish.proofs.Finish.Probes.{Asked}
use Rattle.tg_law_finish.proofs.Finish.Reached.{NearFloor, Reached, reached_facts}
use Rattle.tg_law_finish.proofs.Finish.Settles.{Facts}
use Rattle.tg_law_finish.proofs.Finish.Recorded.{records_finish_by}
use Rattle.tg_law_finish.proofs.Finish.Hosting.{WorkFew, hosting}
use Rattle.tg_law_finish.proofs.Finish.Standing.{numbers_hold, cells_always, pax_always, working, lawful, next_near, names_below, once_there, units_rise, some_unit, units_are, cluster_is, header_limits}
use Rattle.tg_law_finish.proofs.Finish.Writing.{Writes, Stands, InHand, PutStands, JudgeStands}

-- Counting.

node_turned : (a b : NodeId) → node_eq a b ≡ node_eq b a
unfolding node_eq
node_turned a b = grind arith

is_same : (m : Meaning) (k : ℕ) (x : Packet) → is_of k x ≡ is_with_client m k x
is_same m k x = ap (λ b. b || node_eq x.to (client_id k)) (node_turned x.from (client_id k)) ∙ ap (λ b. node_eq (client_id k) x.from || b) (node_turned x.to (client_id k))

cost_is : (m : Meaning) (k : ℕ) (o : Option Packet) → cost k o ≡ one_if (passes m (is_with_client m k) o)
cost_is m k None = refl
cost_is m k (Some x) = ap one_if (is_same m k x)

long_by : (b : Bool) (i : ℕ) (is : List ℕ) → length (cond b (i ∷ is) is) ≡ one_if b + length is
long_by true i is = omega arith
long_by false i is = omega arith

counted_is : (m : Meaning) (k : ℕ) (ps : List Packet) (is : List ℕ) → counted k ps is ≡ length (filter (λ i. passes m (is_with_client m k) (slice_get ps i)) is)
unfolding counted
counted_is m k ps [] = refl
counted_is m k ps (i ∷ is) =
    let a = cost_is m k (slice_get ps i) in
    let b = counted_is m k ps is in
    let c : length (filter (λ i. passes m (is_with_client m k) (slice_get ps i)) (i ∷ is)) ≡ one_if (passes m (is_with_client m k) (slice_get ps i)) + length (filter (λ i. passes m (is_with_client m k) (slice_get ps i)) is) = long_by (passes m (is_with_client m k) (slice_get ps i)) i (filter (λ i. passes m (is_with_client m k) (slice_get ps i)) is) in
    omega (arith, a, b, c)

front_of : (xs ys zs : List ℕ) → zs ≡ xs ++ ys → take (length zs - length ys) zs ≡ xs
front_of xs ys zs e = subst (λ (l : List ℕ). take (length l - length ys) l ≡ xs) (sym e) (ap (λ n. take n (xs ++ ys)) (less xs ys) ∙ take-append_seam xs ys)
  where
    less : (xs ys : List ℕ) → length (xs ++ ys) - length ys ≡ length xs
    less xs ys = let a = length-append xs ys in omega (arith, a)

answered_of : (m : Meaning) (k n : ℕ) (w v : World m) → Counted m k n w v → HasReply m w v k (IsReply m) → Finishes m w v k n (IsReply m)
answered_of m k n w v f r = record {
  idle = f.answered;
  reply = r;
  few = subst (λ (is : List ℕ). length (filter (λ i. passes m (is_with_client m k) (slice_get v.packets i)) is) ≤ n) (sym (front_of f.done w.delivered v.delivered f.since))
      (subst (λ c. c ≤ n) (counted_is m k v.packets f.done) f.few);
}

pub within : (m : Meaning) (k a b : ℕ) (w v : World m) → a ≤ b → Finishes m w v k a (IsReply m) → Finishes m w v k b (IsReply m)
within m k a b w v le f = let few = f.few in record { idle = f.idle; reply = f.reply; few = omega (arith, le, few) }

-- The bounds of commands.

rooms : (c t l : ℕ) → 1 ≤ c → l ≤ 7 → 4 * c + 2 * l + 2 ≤ 16 * c * (t + 4)
rooms c t l one few = let e = mul-le (16 * c) 4 (16 * c) (t + 4) (omega arith) (omega arith) in omega (arith, e, one, few)

each_room : (c t l : ℕ) → 1 ≤ c → l ≤ 7 → 2 * ((c + 1) * (t + 1)) + 2 * l ≤ 16 * c * (t + 4)
each_room c t l one few =
    let a = mul-le (c + 1) (t + 1) (2 * c) (t + 1) (omega (arith, one)) (omega arith) in
    let b = mul-le (16 * c) (t + 1) (16 * c) (t + 1) (omega arith) (omega arith) in
    omega (arith, one, few)

made_room : (c t l : ℕ) → 1 ≤ c → l ≤ 7 → 2 * ((c + 1) * (t + 1)) + 2 * l + 2 * (c + 1) ≤ 16 * c * (t + 4)
made_room c t l one few =
    let a = mul-le (c + 1) (t + 1) (2 * c) (t + 1) (omega (arith, one)) (omega arith) in
    let b = mul-le (16 * c) (t + 1) (16 * c) (t + 1) (omega arith) (omega arith) in
    omega (arith, one, few)

walks_room : (c t l : ℕ) → 1 ≤ c → l ≤ 7 → 2 * ((c + 1) * t) + 2 * l + 2 * (c + 1) ≤ 16 * c * (t + 4)
walks_room c t l one few =
    let a = mul-le (c + 1) t (2 * c) t (omega (arith, one)) (omega arith) in
    let b = mul-le (16 * c) t (16 * c) t (omega arith) (omega arith) in
    omega (arith, one, few, a, b)

ends_room : (c t l : ℕ) → 1 ≤ c → l ≤ 7 → 2 * ((c + 1) * t) + 2 * l + 6 * (c + 1) ≤ 16 * c * (t + 4)
ends_room c t l one few =
    let a = mul-le (c + 1) t (2 * c) t (omega (arith, one)) (omega arith) in
    let b = mul-le (16 * c) t (16 * c) t (omega arith) (omega arith) in
    omega (arith, one, few, a, b)

records_room : (c t l : ℕ) → 1 ≤ c → l ≤ 7 → 2 * ((c + 1) * t) + 2 * l + 8 * (c + 1) ≤ 16 * c * (t + 4)
records_room c t l one few =
    let a = mul-le (c + 1) t (2 * c) t (omega (arith, one)) (omega arith) in
    let b = mul-le (16 * c) t (16 * c) t (omega arith) (omega arith) in
    omega (arith, one, few, a, b)

copies_room : (c t l : ℕ) → 1 ≤ c → l ≤ 7 → 4 * ((c + 2) * t) + 2 * l + 6 ≤ 16 * c * (t + 4)
copies_room c t l one few =
    let a = mul-le (c + 2) t (3 * c) t (omega (arith, one)) (omega arith) in
    let b = mul-le (16 * c) t (16 * c) t (omega arith) (omega arith) in
    omega (arith, one, few, a, b)

-- a walk's bound taken j + 1 times
rescues_room : (c t l z j : ℕ) → 1 ≤ c → l ≤ 7 → j ≤ 128 → (2 * ((c + 1) * t) + 2 * l + z) * (j + 1) + 2 * (c + 1) ≤ 128 * (16 * c * (t + 4)) + 129 * z
rescues_room c t l z j one few le =
    let a = mul-le (c + 1) t (2 * c) t (omega (arith, one)) (omega arith) in
    let b = mul-le (16 * c) t (16 * c) t (omega arith) (omega arith) in
    let e = mul-le (2 * ((c + 1) * t) + 2 * l + z) (j + 1) (2 * ((c + 1) * t) + 2 * l + z) 129 (omega arith) (omega (arith, le)) in
    omega (arith, one, few, a, b, e)

-- where nothing is trimmed a walk takes no more than an ask
calm_room : (c t l s f : ℕ) → f ≡ 0 → 2 * ((c + 1) * t) + 2 * l + passes_of c s f ≤ 2 * ((c + 1) * (t + 1)) + 2 * l
calm_room c t l s f none = subst (λ n. 2 * ((c + 1) * t) + 2 * l + passes_of c s n ≤ 2 * ((c + 1) * (t + 1)) + 2 * l) (sym none) (omega arith)

-- Nothing is trimmed, or the log is long for the units that have trimmed anything.
abbrev pub IsLong : ℕ → ℕ → Type 0
IsLong f t = (f ≡ 0) ⊎ (23 * (f + 2) ≤ t)

few_passes : (c t s f : ℕ) → 1 ≤ c → s ≤ 128 → IsLong f t → 23 * passes_of c s f ≤ 262 * (c * t) + 92 * c
few_passes c t s f one few (inl none) = subst (λ n. 23 * passes_of c s n ≤ 262 * (c * t) + 92 * c) (sym none) (omega (arith, one))
few_passes c t s zero one few (inr long) = omega (arith, one)
few_passes c t s (suc f) one few (inr long) =
    let a = mul-le (2 * c + 1 + s) (suc f + 2) (131 * c) (suc f + 2) (omega (arith, one, few)) (omega arith) in
    let b = mul-le c (23 * (suc f + 2)) c t (omega arith) long in
    omega (arith, a, b)

long_room : (c t l p : ℕ) → 1 ≤ c → l ≤ 7 → 23 * p ≤ 262 * (c * t) + 92 * c → 2 * ((c + 1) * t) + 2 * l + p + 8 * (c + 1) ≤ 16 * c * (t + 4)
long_room c t l p one few le =
    let a = mul-le (c + 1) t (2 * c) t (omega (arith, one)) (omega arith) in
    omega (arith, one, few, a, le)

-- Streams and units that have trimmed anything are few for the log.
streams_room : (c t l s f : ℕ) → 1 ≤ c → l ≤ 7 → (s + 3) * (f + 2) ≤ 6 * t + 23 → 2 * ((c + 1) * t) + 2 * l + passes_of c s f + 2 * (c + 1) ≤ 16 * c * (t + 4)
streams_room c t l s zero one few le = let a = mul-le (c + 1) t (2 * c) t (omega (arith, one)) (omega arith) in omega (arith, one, few, a)
streams_room c t l s (suc f) one few le =
    let a = mul-le (c + 1) t (2 * c) t (omega (arith, one)) (omega arith) in
    let b = pass c s (suc f + 2) (6 * t + 23) one le in
    omega (arith, one, few, a, b)
  where
    -- a pass takes no more than c times the streams and three
    pass : (c s n y : ℕ) → 1 ≤ c → (s + 3) * n ≤ y → (2 * c + 1 + s) * n ≤ c * y
    pass zero s n y one le = absurd (omega (arith, one))
    pass (suc zero) s n y one le = let e = mul-le (2 * 1 + 1 + s) n (s + 3) n (omega arith) (omega arith) in omega (arith, e, le)
    pass (suc (suc c)) s n y one le =
        let e = pass (suc c) s n y (omega arith) le in
        let g = mul-le 2 n (s + 3) n (omega arith) (omega arith) in
        let x = split (2 * suc c + 1 + s) n in
        let z = ap (λ i. i * n) (next c s) in
        omega (arith, e, g, le, x, z)
      where
        next : (c s : ℕ) → 2 * suc (suc c) + 1 + s ≡ (2 * suc c + 1 + s) + 2
        next c s = omega arith

        split : (x n : ℕ) → (x + 2) * n ≡ x * n + 2 * n
        split x n = omega arith

long_rescues : (c t l p j : ℕ) → 1 ≤ c → l ≤ 7 → j ≤ 128 → 23 * p ≤ 262 * (c * t) + 92 * c → (2 * ((c + 1) * t) + 2 * l + p) * (j + 1) + 2 * (c + 1) ≤ 128 * (16 * c * (t + 4))
long_rescues c t l p j one few le pay =
    let a = mul-le (c + 1) t (2 * c) t (omega (arith, one)) (omega arith) in
    let e = mul-le (2 * ((c + 1) * t) + 2 * l + p) (j + 1) (2 * ((c + 1) * t) + 2 * l + p) 129 (omega arith) (omega (arith, le)) in
    omega (arith, one, few, a, e, pay)

rescues_most : (m : Meaning) (x : CommandOf m) (c t n : ℕ) → is_rescue m x ≡ true → most_deliveries m x c t n ≡ 128 * (16 * c * (t + 4))
unfolding is_rescue
rescues_most m x c t n e = grind arith

bounds : (m : Meaning) (x : CommandOf m) (c t n a : ℕ) → a ≤ 16 * c * (t + 4) → a ≤ most_deliveries m x c t n
bounds m x c t n a le = grind arith

module _ (m : Meaning) (h : Header) (ms : Moves m) (w : World m) (r : Reaches m h ms w) (k : ℕ) where
  abbrev p : Layout
  p = latest m w

  -- What a client has asked has a number below its next one.

  below_next : (o : Out) → Has (reserved m (client m w k)) o → o.rid < (client m w k).next
  below_next o g = ((numbers_hold m h ms w r).clients k).open' o g

  reserves : (c : Client m) (work : Work m) (t : Task m) (o : Out) → c.work ≡ Some work → work.hand ≡ Doing t → Has (hand_reserved m c.stand (Doing t)) o → Has (reserved m c) o
  reserves c work t o e f g = subst (λ (y : Option (Work m)). Has (work_reserved m c.stand y) o) (sym e) (subst (λ (y : Hand m). Has (hand_reserved m c.stand y) o) (sym f) g)

  pub task_below : (client m w k).stand ≡ p → (v : Work m) (t : Task m) → (client m w k).work ≡ Some v → v.hand ≡ Doing t → (o : Out) → Has (task_awaited m p t) o → o.rid < (client m w k).next
  task_below e v t has hand o g = below_next o (reserves (client m w k) v t o has hand (subst (λ (q : Layout). Has (hand_reserved m q (Doing t)) o) (sym e) g))

  -- Appends.

  append_below : (f : WaitsForAppend m w k) (o : Out) → Has (append_asks (client m w k).stand f.append) o → o.rid < (client m w k).next
  unfolding task_asks
  append_below f o g = below_next o (reserves (client m w k) f.work (Appending f.append f.purpose) o f.waits f.hand g)

  append_ok : (f : WaitsForAppend m w k) → AppendOk w.packets (client m w k).stand f.append.work
  append_ok f = subst (λ (y : Hand m). hands.HandOk m w.packets (client m w k).stand y) f.hand (subst (λ (y : Option (Work m)). hands.WorkOk m w.packets (client m w k).stand y) f.waits ((cells_always m h ms w r).hands k))

  in_hand : (a : Append) (pos i rid : ℕ) → rid < (client m w k).next → appends.InHand m w a pos i → InHand m w (client m w k) p a pos rid i
  in_hand a pos i rid less f = record { token = f.token; has = f.has; less = f.within; off = unequal _ _ f.issued; below = less }
    where
      unequal : (c d : ℕ) → c ≢ d → eqb c d ≡ false
      unequal c d f = grind (arith, f)

  putting : (a : Append) (pos : ℕ) (y : CellWork) (rid : ℕ) → ((o : Out) → Has (work_asks (place_in p pos) y) o → o.rid < (client m w k).next) → PuttingStands m w a pos y → PutStands m w (client m w k) p a pos y
  unfolding work_asks
  putting a pos (Puts r d zero) rid g f = in_hand a pos zero r (g _ (inl refl)) f
  putting a pos (Puts r d (suc i)) rid g f = (in_hand a pos (suc i) r (g _ (inl refl)) f.0, f.1)
  putting a pos (Gets r) rid g f = absurd f
  putting a pos (Fills r) rid g f = absurd f
  putting a pos (Copies r c i) rid g f = absurd f
  putting a pos (Probes ws) rid g f = absurd f

  judging : (a : Append) (pos : ℕ) (y : CellWork) (rid : ℕ) → ((o : Out) → Has (work_asks (place_in p pos) y) o → o.rid < (client m w k).next) → JudgingStands m w a pos y → JudgeStands m w (client m w k) p a pos y
  unfolding work_asks
  judging a pos (Fills r) rid g f = in_hand a pos 0 r (g _ (inl refl)) f
  judging a pos (Copies r c i) rid g f = (in_hand a pos i r (g _ (inl refl)) f.0, f.1)
  judging a pos (Puts r d i) rid g f = absurd f
  judging a pos (Gets r) rid g f = absurd f
  judging a pos (Probes ws) rid g f = absurd f

  stands : (a : Append) (y : AppendWork) → ((o : Out) → Has (append_work_asks p a y) o → o.rid < (client m w k).next) → AppendOk w.packets p y → AppendStands m w a y → Stands m w (client m w k) p a y
  unfolding append_work_asks
  stands a (Asking rid) g ok f = g _ (inl refl)
  stands a (Putting j) g ok f = (ok.place, putting a j.place.pos j.work 0 (λ o x. g o (subst (λ (b : Place). Has (work_asks b j.work) o) (sym ok.place) x)) f)
  stands a (Judging j) g ok f = (ok.place, judging a j.place.pos j.work 0 (λ o x. g o (subst (λ (b : Place). Has (work_asks b j.work) o) (sym ok.place) x)) f)

  writes : (client m w k).stand ≡ p → (f : WaitsForAppend m w k) → Writes m w k p
  writes e f = record {
    work = f.work;
    waits = f.waits;
    append = f.append;
    purpose = f.purpose;
    hand = f.hand;
    last = f.last;
    stands = stands f.append f.append.work (λ o g. append_below f o (subst (λ (q : Layout). Has (append_asks q f.append) o) (sym e) g)) (subst (λ (q : Layout). AppendOk w.packets q f.append.work) e (append_ok f)) f.stands;
  }

  -- Asks.

  walkable : IsReadyFor m w k → HeldWhereTrimmed m w p → Walkable m w p
  walkable b held = record { near = next_near m h ms w r; backs = λ o os. names_below m h ms w r o os; once = λ pos. once_there m h ms w r pos; units = units_rise m h ms w r k b; some_unit = some_unit m h ms w r; held = held }

  none_trimmed : NothingTrimmed m w → HeldWhereTrimmed m w p
  none_trimmed u pos j less e = absurd (never pos _ (u _) e)
    where
      never : (n low : ℕ) → low ≡ 0 → nat_lt n low ≡ true → ⊥
      never n low e less = grind arith

  abbrev token_of : ℕ → Append → Out
  token_of rid x = out (seqr_id (client m w k).stand.seq) rid (msg.Token (client m w k).stand.epoch (streams_of x.draft))

  pub token_below : (f : EndsAppend m w k) → f.rid < (client m w k).next
  unfolding task_asks append_work_asks
  token_below f = below_next (token_of f.rid f.append) (reserves (client m w k) f.work (Appending f.append Judged) (token_of f.rid f.append) f.waits f.hand
      (subst (λ (y : AppendWork). Has (append_work_asks (client m w k).stand f.append y) (token_of f.rid f.append)) (sym f.first) (inl refl)))

  ends_play : (x : CommandOf m) → x ≡ cmd.End → plays m x ≡ true
  unfolding plays
  ends_play x e = ap (λ y. plays m y) e

  rescues_play : (x : CommandOf m) → is_rescue m x ≡ true → plays m x ≡ true
  unfolding is_rescue plays
  rescues_play x e = grind arith

  -- Commands that make a record of their own.

  makes_play : (x : CommandOf m) → makes m x ≡ true → plays m x ≡ true
  unfolding makes plays
  makes_play x e = grind arith

  layouts_are : (client m w k).layouts ≡ w.cluster.layouts
  layouts_are = (pax_always m h ms w r).layouts k

  few_layouts : w.cluster.layouts ≤ 7
  few_layouts = subst (λ (y : Header). y.layouts ≤ 7) (sym (cluster_is m h ms w r)) (header_limits h r.header).0

  has_command : (work : Work m) → (client m w k).work ≡ Some work → HasIt m (IsReply m) work.command (client m w k).work
  has_command work e = subst (λ (o : Option (Work m)). HasIt m (IsReply m) work.command o) (sym e) (refl, task_replies m work.command (task_in m work.hand) (subst (λ (o : Option (Work m)). WorkSuits m o) e (all_suit m h ms w r k)))

  replied : (work : Work m) → (client m w k).work ≡ Some work → plays m work.command ≡ true → (client m (settle m w).world k).work ≡ None → HasReply m w (settle m w).world k (IsReply m)
  replied work e play idle = settle_replies m (IsReply m) (λ what i. i) k work.command play w (has_command work e) idle

  drain_replied : (work : Work m) → (client m w k).work ≡ Some work → plays m work.command ≡ true → (client m (drained m w) k).work ≡ None → HasReply m w (drained m w) k (IsReply m)
  drain_replied work e play idle = drain_replies m (IsReply m) (λ what i. i) k work.command play w (has_command work e) idle

  asks_play : (x : CommandOf m) → is_ask m x ≡ true → plays m x ≡ true
  unfolding is_ask plays
  asks_play x e = grind arith

  longest : Granted m w → (x : CommandOf m) → IsAlone m w k x → IsReadyFor m w k → 1 ≤ longest_chain p
  longest g x a b = let l = lawful m h ms w r k x a b g in let y = l.some 0 in let z = l.short 0 in omega (arith, y, z)

  pub append_answered : (x : CommandOf m) → IsAlone m w k x → IsReadyFor m w k → Granted m w → WaitsForAppend m w k → IsAnswered m w k (4 * longest_chain p + 2 * w.cluster.layouts + 2)
  append_answered x a b g f =
      let c = writes_finish m w k p (longest_chain p) (working m h ms w r k x a b) (lawful m h ms w r k x a b g) (writes b.stand f) a.within in
      answered_of m k _ w _ (subst (λ l. Counted m k (4 * longest_chain p + 2 * l + 2) w (settle m w).world) layouts_are c) (replied f.work f.waits f.command c.answered)

  pub append_in_time : (x : CommandOf m) → IsAlone m w k x → IsReadyFor m w k → Granted m w → WaitsForAppend m w k → IsAnswered m w k (most_deliveries_in m w x)
  append_in_time x a b g f = within m k _ _ w _ (bounds m x _ _ _ _ (rooms _ _ _ (longest g x a b) few_layouts)) (append_answered x a b g f)

  -- Whatever is trimmed.

  one_work : (v u : Work m) → Some v ≡ Some u → v ≡ u
  one_work v u e = cc

  reading : (client m w k).stand ≡ p → (f : WaitsForRead m w k) → TaskStands m w p f.work f.task → Reads m w k p
  reading e f stands = record {
    work = f.work;
    waits = f.waits;
    task = f.task;
    hand = f.hand;
    stands = stands;
    below = λ o g. below_next o (reserves (client m w k) f.work f.task o f.waits f.hand (subst (λ (q : Layout). Has (hand_reserved m q (Doing f.task)) o) (sym e) g));
  }

  pub same_command : (x : CommandOf m) → IsAlone m w k x → (v : Work m) → (client m w k).work ≡ Some v → x ≡ v.command
  same_command x a v e = sym (ap (λ (u : Work m). u.command) (one_work v a.work (sym e ∙ a.waits)) ∙ a.command)

  pub few_streams : (v : Work m) → (client m w k).work ≡ Some v → length v.oids ≤ 128
  few_streams v e = subst (λ (o : Option (Work m)). WorkFew m o) e (hosting m h ms w r k).work

  ask_by : (x : CommandOf m) → IsAlone m w k x → IsReadyFor m w k → Granted m w → HeldWhereTrimmed m w p → (f : WaitsForRead m w k) → TaskStands m w p f.work f.task → is_ask m f.work.command ≡ true → IsAnswered m w k (walk_bound m w (streams m f.work))
  unfolding reading
  ask_by x a b g held f stands is =
      let c = asks_finish_by m w k p (longest_chain p) (working m h ms w r k x a b) (lawful m h ms w r k x a b g) (walkable b held) (reading b.stand f stands) is a.within in
      answered_of m k _ w _ (subst (λ l. Counted m k (2 * ((longest_chain p + 1) * (seqr m w p.seq).next) + 2 * l + passes_of (longest_chain p) (length f.work.oids) (floors m w)) w (settle m w).world) layouts_are c)
      (replied f.work f.waits (asks_play f.work.command is) c.answered)

  make_by : (x : CommandOf m) → IsAlone m w k x → IsReadyFor m w k → Granted m w → HeldWhereTrimmed m w p → (f : WaitsForRead m w k) → TaskStands m w p f.work f.task → makes m f.work.command ≡ true
      → IsAnswered m w k (walk_bound m w (streams m f.work) + 2 * (longest_chain p + 1))
  unfolding reading
  make_by x a b g held f stands is =
      let c = makes_finish_by m w k p (longest_chain p) (working m h ms w r k x a b) (lawful m h ms w r k x a b g) (walkable b held) (reading b.stand f stands) is a.within in
      answered_of m k _ w _ (subst (λ l. Counted m k (2 * ((longest_chain p + 1) * (seqr m w p.seq).next) + 2 * l + passes_of (longest_chain p) (length f.work.oids) (floors m w) + 2 * (longest_chain p + 1)) w (settle m w).world) layouts_are c)
      (replied f.work f.waits (makes_play f.work.command is) c.answered)

  pub ask_walks : (x : CommandOf m) → IsAlone m w k x → IsReadyFor m w k → Granted m w → HeldWhereTrimmed m w p → is_ask m x ≡ true → (f : WaitsForRead m w k) → TaskStands m w p f.work f.task
      → IsAnswered m w k (walk_bound m w (streams m f.work)) × IsAnswered m w k (most_deliveries_in m w x + passes_bound m w 128)
  ask_walks x a b g held is f stands =
      let y = ask_by x a b g held f stands (subst (λ (z : CommandOf m). is_ask m z ≡ true) (same_command x a f.work f.waits) is) in
      let few = pays_less (longest_chain p) (length f.work.oids) 128 (floors m w) (few_streams f.work f.waits) in
      let room = bounds m x (longest_chain p) (seqr m w p.seq).next w.cluster.units _ (walks_room (longest_chain p) (seqr m w p.seq).next w.cluster.layouts (longest g x a b) few_layouts) in
      (y, within m k _ _ w _ (omega (arith, room, few)) y)

  pub make_walks : (x : CommandOf m) → IsAlone m w k x → IsReadyFor m w k → Granted m w → HeldWhereTrimmed m w p → makes m x ≡ true → (f : WaitsForRead m w k) → TaskStands m w p f.work f.task
      → IsAnswered m w k (walk_bound m w (streams m f.work) + 2 * (longest_chain p + 1)) × IsAnswered m w k (most_deliveries_in m w x + passes_bound m w 128)
  make_walks x a b g held is f stands =
      let y = make_by x a b g held f stands (subst (λ (z : CommandOf m). makes m z ≡ true) (same_command x a f.work f.waits) is) in
      let few = pays_less (longest_chain p) (length f.work.oids) 128 (floors m w) (few_streams f.work f.waits) in
      let room = bounds m x (longest_chain p) (seqr m w p.seq).next w.cluster.units _ (walks_room (longest_chain p) (seqr m w p.seq).next w.cluster.layouts (longest g x a b) few_layouts) in
      (y, within m k _ _ w _ (omega (arith, room, few)) y)

  -- Nothing is trimmed.

  calm : (s : ℕ) → NothingTrimmed m w → walk_bound m w s ≤ ask_bound m w
  calm s u = calm_room (longest_chain p) (seqr m w p.seq).next w.cluster.layouts s (floors m w) (no_floors w.units u)

  pub ask_calm : (x : CommandOf m) → IsAlone m w k x → IsReadyFor m w k → Granted m w → NothingTrimmed m w → (f : WaitsForRead m w k) → TaskStands m w p f.work f.task → is_ask m f.work.command ≡ true
      → IsAnswered m w k (ask_bound m w) × IsAnswered m w k (most_deliveries_in m w x)
  ask_calm x a b g u f stands is =
      let y = within m k _ _ w _ (calm (length f.work.oids) u) (ask_by x a b g (none_trimmed u) f stands is) in
      (y, within m k _ _ w _ (bounds m x _ _ _ _ (each_room _ _ _ (longest g x a b) few_layouts)) y)

  pub make_calm : (x : CommandOf m) → IsAlone m w k x → IsReadyFor m w k → Granted m w → NothingTrimmed m w → (f : WaitsForRead m w k) → TaskStands m w p f.work f.task → makes m f.work.command ≡ true
      → IsAnswered m w k (make_bound m w) × IsAnswered m w k (most_deliveries_in m w x)
  make_calm x a b g u f stands is =
      let le = calm (length f.work.oids) u in
      let y = within m k _ (make_bound m w) w _ (omega (arith, le)) (make_by x a b g (none_trimmed u) f stands is) in
      (y, within m k _ _ w _ (bounds m x _ _ _ _ (made_room _ _ _ (longest g x a b) few_layouts)) y)

  syncing : WaitsForSync m w k → WaitsForRead m w k
  syncing f = record { work = f.work; waits = f.waits; task = Syncing f.sync; hand = f.hand; reads = tt }

  pub ask_answered : (x : CommandOf m) → IsAlone m w k x → IsReadyFor m w k → Granted m w → NothingTrimmed m w → WaitsForSync m w k → IsAnswered m w k (ask_bound m w) × IsAnswered m w k (most_deliveries_in m w x)
  unfolding syncing
  ask_answered x a b g u f = ask_calm x a b g u (syncing f) (subst (λ (y : SyncWork). SyncStands m w p y) (sym f.first) tt) f.asks

  rescue_by : (x : CommandOf m) → IsAlone m w k x → IsReadyFor m w k → Granted m w → HeldWhereTrimmed m w p → (f : WaitsForRead m w k) → TaskStands m w p f.work f.task → is_rescue m f.work.command ≡ true → IsAnswered m w k (rescue_bound m w (streams m f.work))
  unfolding reading
  rescue_by x a b g held f stands is =
      let c = rescues_finish_by m w k p (longest_chain p) (working m h ms w r k x a b) (lawful m h ms w r k x a b g) (walkable b held) (reading b.stand f stands) is (few_streams f.work f.waits) a.within in
      answered_of m k _ w _
      (subst (λ l. Counted m k ((2 * ((longest_chain p + 1) * (seqr m w p.seq).next) + 2 * l + passes_of (longest_chain p) 128 (floors m w)) * ((128 - length f.work.oids) + 1) + 2 * (longest_chain p + 1)) w (settle m w).world) layouts_are c)
      (replied f.work f.waits (rescues_play f.work.command is) c.answered)

  pub rescue_walks : (x : CommandOf m) → IsAlone m w k x → IsReadyFor m w k → Granted m w → HeldWhereTrimmed m w p → is_rescue m x ≡ true → (f : WaitsForRead m w k) → TaskStands m w p f.work f.task
      → IsAnswered m w k (rescue_bound m w (streams m f.work)) × IsAnswered m w k (most_deliveries_in m w x + 129 * passes_bound m w 128)
  rescue_walks x a b g held is f stands =
      let y = rescue_by x a b g held f stands (subst (λ (z : CommandOf m). is_rescue m z ≡ true) (same_command x a f.work f.waits) is) in
      let most = rescues_most m x (longest_chain p) (seqr m w p.seq).next w.cluster.units is in
      let room = rescues_room (longest_chain p) (seqr m w p.seq).next w.cluster.layouts (passes_bound m w 128) (128 - length f.work.oids) (longest g x a b) few_layouts (omega arith) in
      (y, within m k _ _ w _ (omega (arith, room, most)) y)

  end_by : (x : CommandOf m) → IsAlone m w k x → IsReadyFor m w k → Granted m w → HeldWhereTrimmed m w p → Owns m w k p → IsAnswered m w k (end_bound m w)
  end_by x a b g held f =
      let c = ends_finish_by m w k p (longest_chain p) (working m h ms w r k x a b) (lawful m h ms w r k x a b g) (walkable b held) f a.within in
      answered_of m k _ w _ (subst (λ l. Counted m k (2 * ((longest_chain p + 1) * (seqr m w p.seq).next) + 2 * l + passes_of (longest_chain p) 128 (floors m w) + 6 * (longest_chain p + 1)) w (settle m w).world) layouts_are c)
      (replied f.work f.waits (ends_play f.work.command f.command) c.answered)

  pub end_walks : (x : CommandOf m) → IsAlone m w k x → IsReadyFor m w k → Granted m w → HeldWhereTrimmed m w p → Owns m w k p → IsAnswered m w k (end_bound m w) × IsAnswered m w k (most_deliveries_in m w x + passes_bound m w 128)
  end_walks x a b g held f =
      let y = end_by x a b g held f in
      let room = bounds m x (longest_chain p) (seqr m w p.seq).next w.cluster.units _ (ends_room (longest_chain p) (seqr m w p.seq).next w.cluster.layouts (longest g x a b) few_layouts) in
      (y, within m k _ _ w _ (omega (arith, room)) y)

  pub record_below : (client m w k).stand ≡ p → (v : Work m) (a : Append) → (client m w k).work ≡ Some v → v.hand ≡ Doing (Appending a Judged) → (o : Out) → Has (append_asks p a) o → o.rid < (client m w k).next
  unfolding task_asks
  record_below e v a has hand o g = below_next o (reserves (client m w k) v (Appending a Judged) o has hand (subst (λ (q : Layout). Has (append_asks q a) o) (sym e) g))

  record_by : (x : CommandOf m) → IsAlone m w k x → IsReadyFor m w k → Granted m w → HeldWhereTrimmed m w p → Holds m w k p → IsAnswered m w k (record_bound m w)
  record_by x a b g held f =
      let c = records_finish_by m w k p (longest_chain p) (working m h ms w r k x a b) (lawful m h ms w r k x a b g) (walkable b held) f a.within in
      answered_of m k _ w _ (subst (λ l. Counted m k (2 * ((longest_chain p + 1) * (seqr m w p.seq).next) + 2 * l + passes_of (longest_chain p) 128 (floors m w) + 8 * (longest_chain p + 1)) w (settle m w).world) layouts_are c)
      (replied f.work f.waits (ends_play f.work.command f.command) c.answered)

  pub record_walks : (x : CommandOf m) → IsAlone m w k x → IsReadyFor m w k → Granted m w → HeldWhereTrimmed m w p → Holds m w k p → IsAnswered m w k (record_bound m w) × IsAnswered m w k (most_deliveries_in m w x + passes_bound m w 128)
  record_walks x a b g held f =
      let y = record_by x a b g held f in
      let room = bounds m x (longest_chain p) (seqr m w p.seq).next w.cluster.units _ (records_room (longest_chain p) (seqr m w p.seq).next w.cluster.layouts (longest g x a b) few_layouts) in
      (y, within m k _ _ w _ (omega (arith, room)) y)

  -- Trims.

  trims_play : (x : CommandOf m) → x ≡ cmd.Trim → plays m x ≡ true
  unfolding plays
  trims_play x e = ap (λ y. plays m y) e

  trims_most : (x : CommandOf m) (c t n b : ℕ) → x ≡ cmd.Trim → b ≤ 16 * c * (t + 4) → b + 2 * n ≤ most_deliveries m x c t n
  trims_most x c t n b e le = subst (λ (y : CommandOf m). b + 2 * n ≤ most_deliveries m y c t n) (sym e) (omega (arith, le))

  module _ (in_time : (zs : Moves m) (v : World m) → Reaches m h zs v → TrimsInTime m v) where
    abbrev facts : Facts m (Reached m h) (λ s y. NearFloor y)
    facts = reached_facts m h in_time

    trim_by : (x : CommandOf m) → IsAlone m w k x → IsReadyFor m w k → Granted m w → HeldWhereTrimmed m w p → (f : WaitsForRead m w k) → TaskStands m w p f.work f.task → f.work.command ≡ cmd.Trim → IsAnswered m w k (trim_bound m w (streams m f.work))
    unfolding reading
    trim_by x a b g held f stands is =
        let c = trims_finish_by m w k p (longest_chain p) (working m h ms w r k x a b) (lawful m h ms w r k x a b g) (walkable b held) (Reached m h) facts (ms, r) (reading b.stand f stands) is a.within in
        answered_of m k _ w _ (subst (λ n. Counted m k (2 * ((longest_chain p + 1) * (seqr m w p.seq).next) + 2 * w.cluster.layouts + passes_of (longest_chain p) (length f.work.oids) (floors m w) + 2 * n) w (settle m w).world) (units_are m h ms w r)
        (subst (λ l. Counted m k (2 * ((longest_chain p + 1) * (seqr m w p.seq).next) + 2 * l + passes_of (longest_chain p) (length f.work.oids) (floors m w) + 2 * length w.units) w (settle m w).world) layouts_are c))
        (replied f.work f.waits (trims_play f.work.command is) c.answered)

    trimming : (client m w k).stand ≡ p → (v : Work m) (t : Trims) → (client m w k).work ≡ Some v → v.hand ≡ Doing (Trimming t) → Asked (units_of p) t.waits → Trims' m w k p
    unfolding task_asks
    trimming e v t has hand asked = record {
      work = v;
      waits = has;
      trims = t;
      hand = hand;
      asked = asked;
      below = λ o g. below_next o (reserves (client m w k) v (Trimming t) o has hand (subst (λ (q : Layout). Has (hand_reserved m q (Doing (Trimming t))) o) (sym e) g));
    }

    units_by : (x : CommandOf m) → IsAlone m w k x → IsReadyFor m w k → Granted m w → HeldWhereTrimmed m w p → (v : Work m) (t : Trims) → (client m w k).work ≡ Some v → v.hand ≡ Doing (Trimming t) → Asked (units_of p) t.waits → v.command ≡ cmd.Trim
        → IsAnswered m w k (2 * w.cluster.layouts + 2 * w.cluster.units)
    unfolding trimming
    units_by x a b g held v t has hand asked is =
        let c = units_finish_by m w k p (longest_chain p) (working m h ms w r k x a b) (lawful m h ms w r k x a b g) (walkable b held) (Reached m h) facts (ms, r) (trimming b.stand v t has hand asked) a.within in
        answered_of m k _ w _ (subst (λ n. Counted m k (2 * w.cluster.layouts + 2 * n) w (settle m w).world) (units_are m h ms w r) (subst (λ l. Counted m k (2 * l + 2 * length w.units) w (settle m w).world) layouts_are c))
        (replied v has (trims_play v.command is) c.answered)

    abbrev TrimAnswered : CommandOf m → ℕ → Type 0
    TrimAnswered x n = IsAnswered m w k (trim_bound m w n) × IsAnswered m w k (most_deliveries_in m w x + passes_bound m w 128)

    in_time_too : (x : CommandOf m) → IsAlone m w k x → IsReadyFor m w k → Granted m w → (v : Work m) → (client m w k).work ≡ Some v → v.command ≡ cmd.Trim → IsAnswered m w k (trim_bound m w (streams m v)) → TrimAnswered x (streams m v)
    in_time_too x a b g v has is y =
        let few = pays_less (longest_chain p) (length v.oids) 128 (floors m w) (few_streams v has) in
        let room = trims_most x (longest_chain p) (seqr m w p.seq).next w.cluster.units _ (same_command x a v has ∙ is) (walks_room (longest_chain p) (seqr m w p.seq).next w.cluster.layouts (longest g x a b) few_layouts) in
        (y, within m k _ _ w _ (omega (arith, room, few)) y)

    pub trim_walks : (x : CommandOf m) → IsAlone m w k x → IsReadyFor m w k → Granted m w → HeldWhereTrimmed m w p → (f : WaitsForRead m w k) → TaskStands m w p f.work f.task → f.work.command ≡ cmd.Trim → TrimAnswered x (streams m f.work)
    trim_walks x a b g held f stands is = in_time_too x a b g f.work f.waits is (trim_by x a b g held f stands is)

    pub units_trim : (x : CommandOf m) → IsAlone m w k x → IsReadyFor m w k → Granted m w → HeldWhereTrimmed m w p → (v : Work m) (t : Trims) → (client m w k).work ≡ Some v → v.hand ≡ Doing (Trimming t) → Asked (units_of p) t.waits → v.command ≡ cmd.Trim → TrimAnswered x (streams m v)
    units_trim x a b g held v t has hand asked is = in_time_too x a b g v has is (within m k _ _ w _ (omega arith) (units_by x a b g held v t has hand asked is))

  -- A bound of a command allows as much, whatever its client waits for.

  pub record Allows (x : CommandOf m) (most : ℕ) : Type 0 where
    pub appends : append_bound m w ≤ most
    pub copies : copy_bound m w ≤ most
    pub walks : record_bound m w ≤ most
    pub trims : x ≡ cmd.Trim → trim_bound m w 128 ≤ most
    pub rescues : is_rescue m x ≡ true → (s : ℕ) → rescue_bound m w s ≤ most

  allows_where : (x : CommandOf m) (b n : ℕ) → 1 ≤ longest_chain p → 16 * longest_chain p * ((seqr m w p.seq).next + 4) ≤ b → b ≤ n → (x ≡ cmd.Trim → b + 2 * w.cluster.units ≤ n) → record_bound m w ≤ b → (is_rescue m x ≡ true → (s : ℕ) → rescue_bound m w s ≤ n)
      → Allows x n
  allows_where x b n one room up trim walks rescues = record {
    appends = let y = rooms (longest_chain p) (seqr m w p.seq).next w.cluster.layouts one few_layouts in omega (arith, y, room, up);
    copies = let y = copies_room (longest_chain p) (seqr m w p.seq).next w.cluster.layouts one few_layouts in omega (arith, y, room, up);
    walks = omega (arith, walks, up);
    trims = λ is. let y = trim is in omega (arith, walks, y);
    rescues = rescues;
  }

  abbrev pub most : ℕ
  most = 16 * longest_chain p * ((seqr m w p.seq).next + 4)

  pub of_trim : (x : CommandOf m) → x ≡ cmd.Trim → most + 2 * w.cluster.units ≤ most_deliveries_in m w x
  of_trim x e = trims_most x (longest_chain p) (seqr m w p.seq).next w.cluster.units most e (omega arith)

  pub allows_all : (x : CommandOf m) → IsAlone m w k x → IsReadyFor m w k → Granted m w → Allows x (most_deliveries_in m w x + 129 * passes_bound m w 128)
  allows_all x a b g =
      let one = longest g x a b in
      let any = bounds m x (longest_chain p) (seqr m w p.seq).next w.cluster.units most (omega arith) in
      let rest = records_room (longest_chain p) (seqr m w p.seq).next w.cluster.layouts one few_layouts in
      allows_where x (most + passes_bound m w 128) _ one (omega arith) (omega (arith, any)) (λ e. let y = of_trim x e in omega (arith, y)) (omega (arith, rest))
      (λ e s.
      let y = rescues_most m x (longest_chain p) (seqr m w p.seq).next w.cluster.units e in
      let z = rescues_room (longest_chain p) (seqr m w p.seq).next w.cluster.layouts (passes_bound m w 128) (128 - s) one few_layouts (omega arith) in
      omega (arith, y, z))

  pub allows_few : (x : CommandOf m) → IsAlone m w k x → IsReadyFor m w k → Granted m w → IsLong (floors m w) (seqr m w p.seq).next → Allows x (most_deliveries_in m w x)
  allows_few x a b g long =
      let one = longest g x a b in
      let any = bounds m x (longest_chain p) (seqr m w p.seq).next w.cluster.units most (omega arith) in
      let pay = few_passes (longest_chain p) (seqr m w p.seq).next 128 (floors m w) one (omega arith) long in
      allows_where x most _ one (omega arith) any (of_trim x) (long_room (longest_chain p) (seqr m w p.seq).next w.cluster.layouts (passes_bound m w 128) one few_layouts pay)
      (λ e s.
      let y = rescues_most m x (longest_chain p) (seqr m w p.seq).next w.cluster.units e in
      let z = long_rescues (longest_chain p) (seqr m w p.seq).next w.cluster.layouts (passes_bound m w 128) (128 - s) one few_layouts (omega arith) pay in
      omega (arith, y, z))

  -- what a sync and walks over few streams take, with a record
  pub walks_few : (x : CommandOf m) → IsAlone m w k x → IsReadyFor m w k → Granted m w → (s : ℕ) → (s + 3) * (floors m w + 2) ≤ 6 * (seqr m w p.seq).next + 23 → walk_bound m w s + 2 * (longest_chain p + 1) ≤ most
  walks_few x a b g s le = streams_room (longest_chain p) (seqr m w p.seq).next w.cluster.layouts s (floors m w) (longest g x a b) few_layouts le

  pub in_bound : (x : CommandOf m) → most ≤ most_deliveries_in m w x
  in_bound x = bounds m x (longest_chain p) (seqr m w p.seq).next w.cluster.units most (omega arith)

  pub allows_calm : (x : CommandOf m) → IsAlone m w k x → IsReadyFor m w k → Granted m w → NothingTrimmed m w → Allows x (most_deliveries_in m w x)
  allows_calm x a b g u = allows_few x a b g (inl (no_floors w.units u))

  -- Copies.

  module _ (trims : (zs : Moves m) (v : World m) → Reaches m h zs v → TrimsAre m h zs v) where
    copied : (v : Work m) (y : Copying) → (client m w k).work ≡ Some v → v.hand ≡ Doing (Copying' y) → HasCopy m (IsReply m) (client m w k).work
    copied v y has hand = subst (λ (o : Option (Work m)). HasCopy m (IsReply m) o) (sym has) (subst (λ (d : Hand m). HasCopy m (IsReply m) (Some (record v { hand = d }))) (sym hand) tt)

    copy_by : (x : CommandOf m) → IsAlone m w k x → IsReadyFor m w k → Granted m w → HeldWhereTrimmed m w p → p.start ≤ (seqr m w p.seq).next → (f : Brings m w k p) → IsAnswered m w k (copy_bound m w)
    copy_by x a b g held past f =
        let decided = (latest_decided m h ms w r).decided in
        let sound = layouts_are_sound m h ms w r p.epoch p decided in
        let u = f.copying.unit in
        let i = f.copying.range in
        let s = f.copying.stripe in
        let off = stands_off m p u i s f.fault sound.rules in
        let stays = not_gone m p u i s f.fault in
        let c = copies_finish_by m w k p (longest_chain p) (working m h ms w r k x a b) (lawful m h ms w r k x a b g) (walkable b held) sound.rules sound.near past f (Lasting m h p u i s off stays) (copy_facts m h p u i s off stays trims) ((ms, r), decided) a.within in
        answered_of m k _ w _ (subst (λ l. Counted m k (4 * ((longest_chain p + 2) * (seqr m w p.seq).next) + 2 * l + 6) w (settle m w).world) layouts_are c)
        (copy_replies m (IsReply m) (λ what i. i) k w (copied f.work f.copying f.waits f.hand) c.answered)

    pub copy_walks : (x : CommandOf m) → IsAlone m w k x → IsReadyFor m w k → Granted m w → HeldWhereTrimmed m w p → p.start ≤ (seqr m w p.seq).next → (f : Brings m w k p) → IsAnswered m w k (copy_bound m w) × IsAnswered m w k (most_deliveries_in m w x)
    copy_walks x a b g held past f =
        let y = copy_by x a b g held past f in
        (y, within m k _ _ w _ (bounds m x (longest_chain p) (seqr m w p.seq).next w.cluster.units _ (copies_room (longest_chain p) (seqr m w p.seq).next w.cluster.layouts (longest g x a b) few_layouts)) y)

pub appends_are_answered : (m : Meaning) → Always m (AppendAnswered m)
appends_are_answered m h ms w r k x a b g f = append_answered m h ms w r k x a b g f

pub appends_in_time : (m : Meaning) → Always m (AppendInTime m)
appends_in_time m h ms w r k x a b g f = append_in_time m h ms w r k x a b g f

pub asks_are_answered : (m : Meaning) → Always m (AskAnswered m)
asks_are_answered m h ms w r k x a b g u f = (ask_answered m h ms w r k x a b g u f).0

pub asks_in_time : (m : Meaning) → Always m (AskInTime m)
asks_in_time m h ms w r k x a b g u f = (ask_answered m h ms w r k x a b g u f).1

pub ends_are_told : (m : Meaning) → EndsAreTold m
ends_are_told m w k work e g idle = settle_tells m k w work g e idle

pub replies_are_told : (m : Meaning) → Always m (RepliesAreTold m)
replies_are_told m h ms w r k work e g idle = replied m h ms w r k work e g idle

pub drains_answer : (m : Meaning) → Always m (DrainsAnswer m)
drains_answer m h ms w r k work e g idle = record { reply = drain_replied m h ms w r k work e g idle; idle = stays_idle m k w idle }

pub streams_are_few : (m : Meaning) → Always m (StreamsFew m)
streams_are_few m h ms w r k v e = few_streams m h ms w r k v e
