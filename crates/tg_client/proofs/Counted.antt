-- What a client has counted before a step, and after it.
use Rattle.std.proofs.Common.{◌≡◌, ℕ, ◌+◌, ◌*◌, ◌≤◌, Option, sym, ap, ◌∙◌, arith}
use Rattle.std.specs.Prelude.{◌<◌, ◌^◌}
use Rattle.tg_base.specs.declared.ids.NodeId.{NodeId}
use Rattle.tg_base.specs.declared.msg.Msg.{Msg}
use Rattle.tg_kind.specs.Meaning.{Meaning}
use Rattle.tg_model.specs.Kinds.{CommandOf}
use Rattle.tg_protocol.specs.Replies.{reply}
use Rattle.tg_protocol.specs.Answers.{Moved}
use Rattle.tg_protocol.specs.Clients.{Client, refusal}
use Rattle.tg_protocol.specs.ClientSteps.{refused_or, feed, client_command, client_deliver, client_tick}
use Rattle.tg_client_state.specs.Counts.{HasNumbers}
use Rattle.tg_client_state.specs.States.{StateOf, MovedOf, KeepsMoved}
use Rattle.tg_client_state.specs.States as states
use Rattle.tg_client_state.specs.Tasks.{WorkOf}
use Rattle.tg_law_numbers.specs.Counts.{IsFew, GivesFew, TellsFew, CountsOne}
use Rattle.tg_law_numbers.proofs.Counting.{all_count_one}
use Rattle.tg_law_numbers.proofs.Drawing.{draw_few}
use Rattle.tg_client.specs.Kept.{IsCounted}

module _ (m : Meaning) where
  -- what is left for a step
  pub has_numbers : (s : StateOf m) (w : Option (WorkOf m)) (c : Client m) → states.KeepsClient m s w c → IsCounted m c → s.calls < 200000 → HasNumbers m s
  has_numbers s w c h k room =
      let calls : c.calls ≡ s.calls = ap (λ (d : Client m). d.calls) h.is in
      let next : c.next ≡ s.rids.next = ap (λ (d : Client m). d.next) h.is in
      let begun : c.begun ≡ s.begun = ap (λ (d : Client m). d.begun) h.is in
      let decisions : c.decisions ≡ s.decisions = ap (λ (d : Client m). d.decisions) h.is in
      let checkpoints : c.checkpoints ≡ s.checkpoints = ap (λ (d : Client m). d.checkpoints) h.is in
      let next_few : c.next ≤ 1 + c.calls * 2 ^ 18 = k.next in
      let begun_few : c.begun ≤ c.calls = k.begun in
      let decisions_few : c.decisions ≤ c.calls = k.decisions in
      let checkpoints_few : c.checkpoints ≤ c.calls = k.checkpoints in
      record {
        next = omega (arith, calls, next, next_few, room);
        begun = omega (arith, calls, begun, begun_few, room);
        decisions = omega (arith, calls, decisions, decisions_few, room);
        checkpoints = omega (arith, calls, checkpoints, checkpoints_few, room);
      }

  -- a step counts on
  counted_on : (c d : Client m) → CountsOne m c d → d.next ≤ c.next + (2 * 65536 + 3) → IsCounted m c → IsCounted m d
  counted_on c d one few k =
      let calls : d.calls ≡ c.calls + 1 = one.calls in
      let next : c.next ≤ 1 + c.calls * 2 ^ 18 = k.next in
      let begun : c.begun ≤ c.calls = k.begun in
      let begun_on : d.begun ≤ c.begun + 1 = one.begun in
      let decisions : c.decisions ≤ c.calls = k.decisions in
      let decisions_on : d.decisions ≤ c.decisions + 1 = one.decisions in
      let checkpoints : c.checkpoints ≤ c.calls = k.checkpoints in
      let checkpoints_on : d.checkpoints ≤ c.checkpoints + 1 = one.checkpoints in
      record {
        next = omega (arith, calls, next, few);
        begun = omega (arith, calls, begun, begun_on);
        decisions = omega (arith, calls, decisions, decisions_on);
        checkpoints = omega (arith, calls, checkpoints, checkpoints_on);
      }

  pub command_counted : (c : Client m) (x : CommandOf m) → IsFew m 65536 c → GivesFew m 65536 c x → IsCounted m c → IsCounted m (client_command m c x).now
  command_counted c x few gives k = counted_on c (client_command m c x).now ((all_count_one m c).command x) ((draw_few m 65536 c few).command x gives) k

  pub deliver_counted : (c : Client m) (from : NodeId) (rid : ℕ) (x : Msg) → IsFew m 65536 c → TellsFew m 65536 x → IsCounted m c → IsCounted m (client_deliver m c from rid x).now
  deliver_counted c from rid x few tells k = counted_on c (client_deliver m c from rid x).now ((all_count_one m c).deliver from rid x) ((draw_few m 65536 c few).deliver from rid x tells) k

  pub tick_counted : (c : Client m) → IsFew m 65536 c → IsCounted m c → IsCounted m (client_tick m c).now
  tick_counted c few k = counted_on c (client_tick m c).now (all_count_one m c).tick (draw_few m 65536 c few).tick k

  -- within a step no call is counted

  moved_calls : (r : MovedOf m) (old : ℕ) (x : Moved m) → KeepsMoved m old r x → x.now.calls ≡ r.state.calls
  moved_calls r old x h = ap (λ (d : Client m). d.calls) h.now.is

  pub moved_room : (r : MovedOf m) (old n : ℕ) (x : Moved m) → KeepsMoved m old r x → x.now.calls ≡ n → n + 1 < 2 ^ 32 → r.state.calls + 1 < 2 ^ 32
  moved_room r old n x h e room = let calls : x.now.calls ≡ r.state.calls = moved_calls r old x h in omega (arith, calls, e, room)

  pub commanded_calls : (c : Client m) (x : CommandOf m) → (refused_or m c x (refusal m c x)).now.calls ≡ c.calls
  unfolding client_command
  commanded_calls c x = let one : (refused_or m c x (refusal m c x)).now.calls + 1 ≡ c.calls + 1 = ((all_count_one m c).command x).calls in omega (arith, one)

  pub fed_calls : (c : Client m) (from : NodeId) (rid : ℕ) (x : Msg) → (feed m c c.work from rid (reply x)).now.calls ≡ c.calls
  unfolding client_deliver
  fed_calls c from rid x = let one : (feed m c c.work from rid (reply x)).now.calls + 1 ≡ c.calls + 1 = ((all_count_one m c).deliver from rid x).calls in omega (arith, one)

  -- each step is counted

  pub command_calls : (c : Client m) (x : CommandOf m) → (client_command m c x).now.calls ≡ c.calls + 1
  command_calls c x = ((all_count_one m c).command x).calls

  pub deliver_calls : (c : Client m) (from : NodeId) (rid : ℕ) (x : Msg) → (client_deliver m c from rid x).now.calls ≡ c.calls + 1
  deliver_calls c from rid x = ((all_count_one m c).deliver from rid x).calls

  pub tick_calls : (c : Client m) → (client_tick m c).now.calls ≡ c.calls + 1
  tick_calls c = (all_count_one m c).tick.calls
