-- Which messages are awaited.
use Rattle.std.proofs.Common.{◌≡◌, ℕ, ◌||◌, ◌&&◌, List, [], ◌∷◌, ◌++◌, Option, Some, None, refl, sym, ap, ◌∙◌}
use Rattle.std.specs.Prelude.{◌==◌}
use Rattle.std.proofs.lemmas.List.Folds.{list_any-append}
use Rattle.tg_base.specs.declared.ids.NodeId.{NodeId}
use Rattle.tg_base.specs.declared.msg.Msg.{Msg}
use Rattle.tg_base.specs.declared.change.Join.{Join}
use Rattle.tg_base.specs.declared.ids.Role.{Role}
use Rattle.tg_base.specs.declared.ids.Role.TheVariants as role
use Rattle.tg_base.specs.declared.packet.Out.{Out}
use Rattle.tg_base.specs.Orders.{node_eq}
use Rattle.tg_protocol.specs.Words.{unit_id}
use Rattle.tg_protocol.specs.Requests.{out, awaits, Waits, asked_of}
use Rattle.tg_protocol.specs.Reconfiguring.{Reconf, reconf_asks, reconf_awaited, reconf_work_asks, join_asks, stage_asks, later_asks, set_asks}
use Rattle.tg_reconf.specs.declared.plan.Plan.{Plan}
use Rattle.tg_reconf.specs.declared.job.Work.{Work}
use Rattle.tg_reconf.specs.declared.job.Work.TheVariants as work
use Rattle.tg_reconf.specs.declared.vote.NextRound.{NextRound}
use Rattle.tg_reconf.specs.declared.vote.VoteStage.{VoteStage}
use Rattle.tg_reconf.specs.declared.vote.VoteStage.TheVariants as stage
use Rattle.tg_reconf.specs.States.{working, work_of, stage_of, stage_waits, later_of, later_waits, set_waits}
use Rattle.tg_chain.specs.Waits.{waits_on}
use Rattle.tg_reconf.specs.Waits.{joined_on, asked_on}

-- of one list of requests or of another
pub awaits_either : (xs ys : List Out) (from : NodeId) (rid : ℕ) → awaits (xs ++ ys) from rid ≡ (awaits xs from rid || awaits ys from rid)
awaits_either xs ys from rid = list_any-append (λ o. node_eq o.to from && (o.rid == rid)) xs ys

on_each : (r : Role) (m : Msg) (ws : Waits) (from : NodeId) (rid : ℕ) → waits_on r ws from rid ≡ awaits (asked_of (λ n. record { role = r; num = n }) m ws) from rid
on_each r m [] from rid = refl
on_each r m (w ∷ ws) from rid = ap (λ b. (node_eq (record { role = r; num = w.0 }) from && (w.1 == rid)) || b) (on_each r m ws from rid)

on_joined : (j : Option Join) (m : Join → Msg) (k : ℕ) (from : NodeId) (rid : ℕ) → joined_on j k from rid ≡ awaits (join_asks j (λ x. out (unit_id x.unit) k (m x) ∷ [])) from rid
on_joined None m k from rid = refl
on_joined (Some j) m k from rid = refl

on_stage : (r : Reconf) (round : ℕ) (s : VoteStage) (from : NodeId) (rid : ℕ) → waits_on role.Layout (stage_waits s) from rid ≡ awaits (stage_asks r round (stage_of s)) from rid
on_stage r round (stage.Prepares ws ps) from rid = on_each role.Layout _ ws from rid
on_stage r round (stage.Accepts ws k q) from rid = on_each role.Layout _ ws from rid

on_asked : (p : Plan) (w : Work) (from : NodeId) (rid : ℕ) → asked_on p w from rid ≡ awaits (reconf_asks (working p (work_of w))) from rid
unfolding reconf_work_asks
on_asked p (work.SealsSpare k) from rid = on_joined p.change.join _ k from rid
on_asked p (work.LooksAtSpare k) from rid = on_joined p.change.join _ k from rid
on_asked p (work.Seals ws acks) from rid = on_each role.Unit _ ws from rid
on_asked p (work.LooksAgain k acks) from rid = on_joined p.change.join _ k from rid
on_asked p (work.Votes v) from rid = on_stage (working p (work_of (work.Votes v))) v.round.number v.stage from rid
on_asked p (work.Tells ws n q) from rid = on_each role.Layout _ ws from rid
on_asked p (work.Starts k) from rid = refl

on_later : (r : Reconf) (l : Option NextRound) (from : NodeId) (rid : ℕ) → waits_on role.Layout (later_waits l) from rid ≡ awaits (set_asks r (later_of l)) from rid
on_later r None from rid = refl
on_later r (Some l) from rid = on_each role.Layout _ l.waits from rid

on_set : (p : Plan) (w : Work) (from : NodeId) (rid : ℕ) → waits_on role.Layout (set_waits w) from rid ≡ awaits (later_asks (working p (work_of w)) (work_of w)) from rid
on_set p (work.Votes v) from rid = on_later (working p (work_of (work.Votes v))) v.round.later from rid
on_set p _ from rid = refl

pub awaits_both : (p : Plan) (w : Work) (from : NodeId) (rid : ℕ) →
    (asked_on p w from rid || waits_on role.Layout (set_waits w) from rid) ≡ awaits (reconf_awaited (working p (work_of w))) from rid
awaits_both p w from rid =
    let asks = reconf_asks (working p (work_of w)) in
    let later = later_asks (working p (work_of w)) (work_of w) in
    ap (λ b. b || waits_on role.Layout (set_waits w) from rid) (on_asked p w from rid) ∙ ap (λ b. awaits asks from rid || b) (on_set p w from rid) ∙ sym (awaits_either asks later from rid)
