use Rattle.std.proofs.Common.{◌≡◌, sym, subst, ◌∙◌, ap, arith}
use Rattle.std.specs.Prelude.{IfOk, ◌<◌, ◌^◌}
use Rattle.tg_play.proofs.Means.{means}
use Rattle.tg_client_state.specs.declared.paused.Paused.TheVariants as given
use Rattle.tg_protocol.specs.Reconfiguring.{Reconf, reconf_latest}
use Rattle.tg_protocol.specs.Trimming.{Copying}
use Rattle.tg_protocol.specs.Clients.{copy_fault}
use Rattle.tg_protocol.specs.ClientSteps.{task_again, copies_again, on_reconf}
use Rattle.tg_reconf.specs.Turns.{AreDrawn}
use Rattle.tg_copy.specs.Turns.{spare_of}
use Rattle.tg_client_state.specs.Tasks.{GoesOn}
use Rattle.tg_client_state.specs.States.{StateOf, client_of, KeepsMoved, IsLeftFit}
use Rattle.tg_client_state.specs.Moves.{Holds}
use Rattle.tg_client.proofs.Resumed.{copy_resumes, newer, change_newer, walk_left, reconf_left}
use Rattle.tg_client.specs.Feeding.{IsCourseFit}
use Rattle.tg_client_state.specs.Counts.{HasNumbers}
use Rattle.tg_client.proofs.again.goes_on_in.Goals as goal

pub walks_again-requires-clause-fit : goal.walks_again-requires-clause-fit
walks_again-requires-clause-fit g c =
    subst (λ (s : StateOf (means g.K.Kind g.K.Registry)). IsCourseFit (means g.K.Kind g.K.Registry) s.known c.in-Walk.walk) (sym (c.deref_mut-in-Walk.ensures.value ∙ c.state-in-Walk.view_is))
    (walk_left (means g.K.Kind g.K.Registry) c.args.state c.args.paused c.in-Walk.walk c.in-Walk.rest c.in-Walk.is c.requires.kept)

pub changes_again-requires-clause-drawn : goal.changes_again-requires-clause-drawn
changes_again-requires-clause-drawn g c =
    subst (λ (a : Reconf). AreDrawn c.args.state.rids.next a) (sym c.into_inner-reconf.ensures) (reconf_left (means g.K.Kind g.K.Registry) c.args.state c.args.paused c.in-Reconf.reconf c.in-Reconf.is c.requires.kept)

pub returns-in-Sync : goal.returns-in-Sync
returns-in-Sync g c = λ r w t h k f.
    let m = means g.K.Kind g.K.Registry in
    let was : c.deref_mut.result.now ≡ c.args.state = c.deref_mut.ensures.value ∙ c.state.view_is in
    let goes = subst (λ (s : StateOf m). Holds m (record s { stand = c.args.proj }) c.args.job r w c.args.state.rids.next → GoesOn m (given.Sync c.in-Sync.oids) t → IfOk c.syncs_again.result (λ x. KeepsMoved m c.args.state.rids.next x (task_again m (client_of m (record s { stand = c.args.proj }) r) w t))) was
    (λ i l. c.syncs_again.ensures r w c.args.state.rids.next t i l) in
    newer (means g.K.Kind g.K.Registry) (λ z. IfOk c.syncs_again.result (λ x. KeepsMoved (means g.K.Kind g.K.Registry) c.args.state.rids.next x z)) c.args.state c.args.job r w c.args.state.rids.next c.args.server c.args.rid c.args.proj c.args.paused (given.Sync c.in-Sync.oids) t c.in-Sync.is tt h k
    goes

pub returns-in-Walk : goal.returns-in-Walk
returns-in-Walk g c = λ r w t h k f.
    let m = means g.K.Kind g.K.Registry in
    let was : c.deref_mut-in-Walk.result.now ≡ c.args.state = c.deref_mut-in-Walk.ensures.value ∙ c.state-in-Walk.view_is in
    let goes = subst (λ (s : StateOf m). Holds m (record s { stand = c.args.proj }) c.args.job r w c.args.state.rids.next → GoesOn m (given.Walk c.in-Walk.walk c.in-Walk.rest) t → IfOk c.walks_again.result (λ x. KeepsMoved m c.args.state.rids.next x (task_again m (client_of m (record s { stand = c.args.proj }) r) w t))) was
    (λ i l. c.walks_again.ensures r w c.args.state.rids.next t i l) in
    newer (means g.K.Kind g.K.Registry) (λ z. IfOk c.walks_again.result (λ x. KeepsMoved (means g.K.Kind g.K.Registry) c.args.state.rids.next x z)) c.args.state c.args.job r w c.args.state.rids.next c.args.server c.args.rid c.args.proj c.args.paused (given.Walk c.in-Walk.walk c.in-Walk.rest) t c.in-Walk.is tt h k
    goes

pub returns-in-Append : goal.returns-in-Append
returns-in-Append g c = λ r w t h k f.
    let m = means g.K.Kind g.K.Registry in
    let was : c.deref_mut-in-Append.result.now ≡ c.args.state = c.deref_mut-in-Append.ensures.value ∙ c.state-in-Append.view_is in
    let goes = subst (λ (s : StateOf m). Holds m (record s { stand = c.args.proj }) c.args.job r w c.args.state.rids.next → GoesOn m (given.Append c.in-Append.append c.in-Append.purpose) t → IsLeftFit m s.known t → IfOk c.appends_again.result (λ x. KeepsMoved m c.args.state.rids.next x (task_again m (client_of m (record s { stand = c.args.proj }) r) w t))) was
    (λ i l u. c.appends_again.ensures r w c.args.state.rids.next t i l u) in
    newer (means g.K.Kind g.K.Registry) (λ z. IfOk c.appends_again.result (λ x. KeepsMoved (means g.K.Kind g.K.Registry) c.args.state.rids.next x z)) c.args.state c.args.job r w c.args.state.rids.next c.args.server c.args.rid c.args.proj c.args.paused (given.Append c.in-Append.append c.in-Append.purpose) t c.in-Append.is tt h k
    (λ i l. goes i l f)

pub returns-in-Trim : goal.returns-in-Trim
returns-in-Trim g c = λ r w t h k f.
    let m = means g.K.Kind g.K.Registry in
    let was : c.deref_mut-in-Trim.result.now ≡ c.args.state = c.deref_mut-in-Trim.ensures.value ∙ c.state-in-Trim.view_is in
    let goes = subst (λ (s : StateOf m). Holds m (record s { stand = c.args.proj }) c.args.job r w c.args.state.rids.next → GoesOn m (given.Trim c.in-Trim.below) t → IfOk c.trims_again.result (λ x. KeepsMoved m c.args.state.rids.next x (task_again m (client_of m (record s { stand = c.args.proj }) r) w t))) was
    (λ i l. c.trims_again.ensures r w c.args.state.rids.next t i l) in
    newer (means g.K.Kind g.K.Registry) (λ z. IfOk c.trims_again.result (λ x. KeepsMoved (means g.K.Kind g.K.Registry) c.args.state.rids.next x z)) c.args.state c.args.job r w c.args.state.rids.next c.args.server c.args.rid c.args.proj c.args.paused (given.Trim c.in-Trim.below) t c.in-Trim.is tt h k
    goes

pub returns-in-Copy : goal.returns-in-Copy
returns-in-Copy g c = λ r w t h k f.
    let m = means g.K.Kind g.K.Registry in
    let was : c.deref_mut-in-Copy.result.now ≡ c.args.state = c.deref_mut-in-Copy.ensures.value ∙ c.state-in-Copy.view_is in
    let goes = subst (λ (s : StateOf m). (b : Copying) → Holds m (record s { stand = c.args.proj }) c.args.job r w c.args.state.rids.next → spare_of b ≡ c.in-Copy.spare → IfOk c.copies_again.result (λ x. KeepsMoved m c.args.state.rids.next x (copies_again m (client_of m (record s { stand = c.args.proj }) r) w b (copy_fault m c.args.proj b.unit b.range b.stripe)))) was
    (λ b i e. c.copies_again.ensures r w c.args.state.rids.next b i e) in
    newer (means g.K.Kind g.K.Registry) (λ z. IfOk c.copies_again.result (λ x. KeepsMoved (means g.K.Kind g.K.Registry) c.args.state.rids.next x z)) c.args.state c.args.job r w c.args.state.rids.next c.args.server c.args.rid c.args.proj c.args.paused (given.Copy c.in-Copy.spare) t c.in-Copy.is tt h k
    (λ i l. copy_resumes (means g.K.Kind g.K.Registry) t c.copies_again.result (record c.args.state { stand = c.args.proj }) r w c.args.state.rids.next c.in-Copy.spare l (λ b e. goes b i e))

pub returns-in-Reconf : goal.returns-in-Reconf
returns-in-Reconf g c = λ r w t h k f.
    change_newer (means g.K.Kind g.K.Registry) (λ z. IfOk c.changes_again.result (λ x. KeepsMoved (means g.K.Kind g.K.Registry) c.args.state.rids.next x z)) t c.args.state r w c.args.server c.args.rid c.args.proj c.args.paused c.in-Reconf.reconf c.in-Reconf.is k
    (subst (λ (a : Reconf). IfOk c.changes_again.result (λ x. KeepsMoved (means g.K.Kind g.K.Registry) c.args.state.rids.next x (on_reconf (means g.K.Kind g.K.Registry) (client_of (means g.K.Kind g.K.Registry) c.args.state r) w (reconf_latest a a.work c.args.server c.args.rid c.args.proj c.args.state.rids.next)))) c.into_inner-reconf.ensures (c.changes_again.ensures r w h))

pub syncs_again-requires : goal.syncs_again-requires
syncs_again-requires g c =
    let m = means g.K.Kind g.K.Registry in
    let was : c.deref_mut.result.now ≡ c.args.state = c.deref_mut.ensures.value ∙ c.state.view_is in
    subst (λ (s : StateOf m). HasNumbers m (record s { stand = c.args.proj })) (sym was) c.requires.numbers

pub walks_again-requires-clause-numbers : goal.walks_again-requires-clause-numbers
walks_again-requires-clause-numbers g c =
    let m = means g.K.Kind g.K.Registry in
    let was : c.deref_mut-in-Walk.result.now ≡ c.args.state = c.deref_mut-in-Walk.ensures.value ∙ c.state-in-Walk.view_is in
    subst (λ (s : StateOf m). HasNumbers m (record s { stand = c.args.proj })) (sym was) c.requires.numbers

pub appends_again-requires : goal.appends_again-requires
appends_again-requires g c =
    let m = means g.K.Kind g.K.Registry in
    let was : c.deref_mut-in-Append.result.now ≡ c.args.state = c.deref_mut-in-Append.ensures.value ∙ c.state-in-Append.view_is in
    subst (λ (s : StateOf m). s.rids.next < 2 ^ 61) (sym was) c.requires.numbers.next

pub trims_again-requires : goal.trims_again-requires
trims_again-requires g c =
    let m = means g.K.Kind g.K.Registry in
    let was : c.deref_mut-in-Trim.result.now ≡ c.args.state = c.deref_mut-in-Trim.ensures.value ∙ c.state-in-Trim.view_is in
    subst (λ (s : StateOf m). s.rids.next < 2 ^ 61) (sym was) c.requires.numbers.next

pub copies_again-requires : goal.copies_again-requires
copies_again-requires g c =
    let m = means g.K.Kind g.K.Registry in
    let was : c.deref_mut-in-Copy.result.now ≡ c.args.state = c.deref_mut-in-Copy.ensures.value ∙ c.state-in-Copy.view_is in
    subst (λ (s : StateOf m). s.rids.next < 2 ^ 61) (sym was) c.requires.numbers.next

pub changes_again-requires-clause-numbers : goal.changes_again-requires-clause-numbers
changes_again-requires-clause-numbers g c = c.requires.numbers.next
