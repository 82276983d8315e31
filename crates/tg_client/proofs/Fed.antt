-- What a machine that is fed shows, in a step that begins with it.
use Rattle.std.proofs.Common.{◌≡◌, ℕ, Bool, true, false, List, sym, ap, subst}
use Rattle.tg_base.specs.Layouts.{Layout}
use Rattle.tg_base.specs.declared.change.Join.{Join}
use Rattle.tg_base.specs.declared.ids.NodeId.{NodeId}
use Rattle.tg_base.specs.declared.ids.Oid.{Oid}
use Rattle.tg_base.specs.declared.msg.Msg.{Msg}
use Rattle.tg_kind.specs.Meaning.{Meaning}
use Rattle.tg_protocol.specs.Answers.{Moved}
use Rattle.tg_protocol.specs.Clients as told
use Rattle.tg_protocol.specs.ClientSteps.{on_walk}
use Rattle.tg_protocol.specs.Requests.{Next, Goes, Learns, Ends, awaits}
use Rattle.tg_protocol.specs.Replies.{reply}
use Rattle.tg_protocol.specs.Appending.{Append, append_asks}
use Rattle.tg_protocol.specs.Syncing.{Sync, sync_asks}
use Rattle.tg_protocol.specs.Walking.{Walk, Members, WalkTurn, walk_asks}
use Rattle.tg_protocol.specs.Trimming.{Trims, trim_asks, Copying, copy_asks}
use Rattle.tg_protocol.specs.Reconfiguring.{Reconf, reconf_awaited, reconf_latest}
use Rattle.tg_chain.specs.declared.step.Step.{Step}
use Rattle.tg_append.specs.declared.ends.AppendEnd.{AppendEnd}
use Rattle.tg_append.specs.declared.ends.Confirmed.{Confirmed}
use Rattle.tg_append.specs.Turns.{shown}
use Rattle.tg_append.specs.Appends.{Paused, append_end, append_fed, by_append}
use Rattle.tg_append.specs.SyncLaws.{answer_in}
use Rattle.tg_append.specs.Syncs.{confirmed_of, sync_fed, by_sync}
use Rattle.tg_stream.specs.declared.members.Members.{Members as Found}
use Rattle.tg_chain.specs.declared.step.Step.{Step as WalkStep}
use Rattle.tg_chain.specs.declared.step.Next.{Next as Given}
use Rattle.tg_chain.specs.declared.step.Next.TheVariants as given
use Rattle.tg_stream.specs.Turns.{Over, given_to, ruled_to, shown as walk_shown, by_walk}
use Rattle.tg_stream.specs.Walks.{Course, members_of, walk_fed, walk_fed_if}
use Rattle.tg_chain.specs.declared.step.Step.{Step as TrimStep}
use Rattle.tg_trim.specs.declared.ends.TrimEnd.{TrimEnd}
use Rattle.tg_trim.specs.Turns.{shown as trim_shown, by_trim, trim_fed}
use Rattle.tg_chain.specs.declared.step.Step.{Step as CopyStep}
use Rattle.tg_copy.specs.declared.ends.CopyEnd.{CopyEnd}
use Rattle.tg_copy.specs.Stripes.{HasStripe}
use Rattle.tg_copy.specs.Turns.{shown as copy_shown, spare_of, by_copy}
use Rattle.tg_copy.specs.Copies.{copy_fed}
use Rattle.tg_reconf.specs.declared.step.Step.{Step as ReconfStep}
use Rattle.tg_reconf.specs.Turns.{shown as reconf_shown, by_reconf, all_drawn, fed}
use Rattle.tg_client_cells.specs.Known.{Knowledge, IsSettled}
use Rattle.tg_client_cells.specs.Walks.{InOrder, FindsDown, OverSettled, ThenSettled, ThenInOrder}
use Rattle.tg_client_cells.proofs.Ordered.{finds_in_order}
use Rattle.tg_client_cells.proofs.Keeping.{keeps_settled}
use Rattle.tg_client_state.specs.Near.{NearAnswer, NearToken}
use Rattle.tg_client_state.proofs.Appends.{append_numbers}
use Rattle.tg_client_state.proofs.Syncs.{sync_numbers}
use Rattle.tg_client_state.proofs.Walks as walks
use Rattle.tg_client_state.proofs.Trims as trims
use Rattle.tg_client_state.proofs.Copies as copies
use Rattle.tg_client_state.proofs.Reconfs.{reconf_numbers, fed_send, latest_send}
use Rattle.tg_client_state.proofs.Nears.{append_stays_near, sync_stays_near}
use Rattle.tg_client_state.proofs.NearNumbers.{copy_stays}
use Rattle.tg_client_state.specs.States.{WalksOn}
use Rattle.tg_client_state.proofs.Turning.{fits_now}
use Rattle.tg_client_tasks.specs.Shown.{AppendShown, TrimShown, CopyShown, ReconfShown}
use Rattle.tg_client_sync.specs.Syncs.{SyncShown}
use Rattle.tg_client_sync.specs.Walks.{WalkShown, IsStepFit}

pub sync_shown : (p : Layout) (s : Sync) (from : NodeId) (rid : ℕ) (m : Msg) (n now : ℕ) (step : Step Sync (List Oid) Confirmed) → shown confirmed_of step now ≡ by_sync p n (sync_fed p s from rid m n) → all_drawn n (sync_asks p s) ≡ true → NearAnswer (answer_in s.work) →
    SyncShown n p n now step (sync_fed p s from rid m n)
sync_shown p s from rid m n now step e d near = record { turn = e; fits = fits_now (sync_asks p) n (sync_fed p s from rid m n) (sync_numbers.fed p s from rid m n d); near = sync_stays_near.fed p s from rid m n near }

pub append_shown : (p : Layout) (a : Append) (from : NodeId) (rid : ℕ) (m : Msg) (n now : ℕ) (step : Step Append Paused AppendEnd) → shown append_end step now ≡ by_append p n (append_fed p a from rid m n) → all_drawn n (append_asks p a) ≡ true → NearToken a.token →
    AppendShown n p n now step (append_fed p a from rid m n)
append_shown p a from rid m n now step e d near = record { turn = e; fits = fits_now (append_asks p) n (append_fed p a from rid m n) (append_numbers.fed p a from rid m n d); near = append_stays_near.fed p a from rid m n near }

pub trim_fed_shown : (p : Layout) (t : Trims) (from : NodeId) (rid : ℕ) (m : Msg) (n now : ℕ) (step : TrimStep Trims ℕ TrimEnd) → trim_shown step now ≡ by_trim p n (trim_fed p t from rid m n) → all_drawn n (trim_asks p t) ≡ true →
    TrimShown n p n now step (trim_fed p t from rid m n)
trim_fed_shown p t from rid m n now step e d = record {
  turn = e;
  fits = fits_now (trim_asks p) n (trim_fed p t from rid m n) (trims.trim_numbers.fed p t from rid m n d);
  none = (trims.if_plain (awaits (trim_asks p t) from rid) p t from.num m n d).none;
}

pub copy_fed_shown : (p : Layout) (c : Copying) (from : NodeId) (rid : ℕ) (m : Msg) (n now : ℕ) (step : CopyStep Copying Join CopyEnd) → copy_shown step now ≡ by_copy p n (copy_fed p c from rid m n) → all_drawn n (copy_asks p c) ≡ true → HasStripe p (spare_of c) →
    CopyShown n p n now step (copy_fed p c from rid m n)
copy_fed_shown p c from rid m n now step e d stripe = record {
  turn = e;
  fits = fits_now (copy_asks p) n (copy_fed p c from rid m n) (copies.copy_numbers.fed p c from rid m n d);
  none = (copies.if_plain (awaits (copy_asks p c) from rid) p c from.num m n d).none;
  stripe = copy_stays.stripe p c from rid m n stripe;
}

pub reconf_fed_shown : (r : Reconf) (from : NodeId) (rid : ℕ) (m : Msg) (n now : ℕ) (step : ReconfStep) → reconf_shown step now ≡ by_reconf n (fed r from rid m n) → all_drawn n (reconf_awaited r) ≡ true → ReconfShown n n now step (fed r from rid m n)
reconf_fed_shown r from rid m n now step e d = record {
  turn = e;
  fits = fits_now _ n (fed r from rid m n) (reconf_numbers.fed r from rid m n d);
  none = (fed_send r from rid m n).none;
  awaited = (reconf_numbers.fed_awaits r from rid m n d).drawn;
}

pub reconf_latest_shown : (r : Reconf) (server rid : ℕ) (q : Layout) (n now : ℕ) (step : ReconfStep) → reconf_shown step now ≡ by_reconf n (reconf_latest r r.work server rid q n) → all_drawn n (reconf_awaited r) ≡ true →
    ReconfShown n n now step (reconf_latest r r.work server rid q n)
reconf_latest_shown r server rid q n now step e d = record {
  turn = e;
  fits = fits_now _ n (reconf_latest r r.work server rid q n) (reconf_numbers.latest r server rid q n d);
  none = (latest_send r r.work server rid q n).none;
  awaited = (reconf_numbers.latest_awaits r server rid q n d).drawn;
}

-- A walk, whose cells are settled and whose members rise.

settled-if : (b : Bool) (p : Layout) (w : Walk) (u : ℕ) (m : Msg) (n : ℕ) (own : List ℕ) (s : ℕ) → OverSettled own s w → ThenSettled own s (walk_fed_if b p w u m n).to
settled-if true p w u m n own s h = keeps_settled.feeds p w u (reply m) n own s h
settled-if false p w u m n own s h = h

order-if : (b : Bool) (p : Layout) (w : Walk) (u : ℕ) (m : Msg) (n : ℕ) → FindsDown w → ThenInOrder (walk_fed_if b p w u m n).to
order-if true p w u m n h = finds_in_order.feeds p w u (reply m) n h
order-if false p w u m n h = h

pub walk_fed_shown : (g : Meaning) (p : Layout) (k : Knowledge) (w : Walk) (from : NodeId) (rid : ℕ) (m : Msg) (n now : ℕ) (step : WalkStep Walk Course Found) → walk_shown step now ≡ by_walk n (walk_fed p w from rid m n) → all_drawn n (walk_asks w) ≡ true → WalksOn g k w →
    WalkShown n k n now step (walk_fed p w from rid m n)
walk_fed_shown g p k w from rid m n now step e d h = record {
  turn = e;
  fits = fits_now walk_asks n (walk_fed p w from rid m n) (walks.walk_numbers.fed p w from rid m n d);
  none = (walks.if_plain (awaits (walk_asks w) from rid) p w from.num m n d).none;
  settled = settled-if (awaits (walk_asks w) from rid) p w from.num m n k.own k.settled h.settled;
  order = order-if (awaits (walk_asks w) from rid) p w from.num m n h.finds;
}

-- one that has ended gives such cells and members back

ends-fit : (k : Knowledge) (x : Found) (to : Next Walk Members) → Over (members_of x) ≡ ruled_to to → ThenSettled k.own k.settled to → ThenInOrder to → IsStepFit k (given.Ends x)
ends-fit k x (Goes w) e s o = absurd cc
ends-fit k x (Learns w) e s o = absurd cc
ends-fit k x (Ends y) e s o =
    let same : members_of x ≡ y = cc in
    (subst (λ (z : Members). IsSettled k.own k.settled z.cells) (sym same) s, subst (λ (z : Members). InOrder z.list) (sym same) o)

pub step_fit : (k : Knowledge) (x : Given Walk Course Found) (to : Next Walk Members) → given_to x ≡ ruled_to to → ThenSettled k.own k.settled to → ThenInOrder to → IsStepFit k x
step_fit k (given.Goes w) to e s o = tt
step_fit k (given.Learns c) to e s o = tt
step_fit k (given.Ends x) to e s o = ends-fit k x to e s o

pub walk_fed_fit : (g : Meaning) (p : Layout) (k : Knowledge) (w : Walk) (from : NodeId) (rid : ℕ) (m : Msg) (n now : ℕ) (step : WalkStep Walk Course Found) → walk_shown step now ≡ by_walk n (walk_fed p w from rid m n) → WalksOn g k w → IsStepFit k step.next
walk_fed_fit g p k w from rid m n now step e h =
    step_fit k step.next (walk_fed p w from rid m n).to (ap (λ v. v.to) e) (settled-if (awaits (walk_asks w) from rid) p w from.num m n k.own k.settled h.settled)
    (order-if (awaits (walk_asks w) from rid) p w from.num m n h.finds)

-- the walk of an object

pub from_oid : (g : Meaning) (P : Moved g → Type 0) (c : told.Client g) (w : told.Work g) (o p : Oid) (os : List Oid) (t : WalkTurn) → o ≡ p → P (on_walk g c w o os t) → P (on_walk g c w p os t)
from_oid g P c w o p os t e h = subst (λ x. P (on_walk g c w x os t)) e h
