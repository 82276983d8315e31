-- Which requests were drawn in a step.
use Rattle.std.proofs.Common.{◌≡◌, ℕ, zero, suc, ◌+◌, ◌<◌, ◌≤◌, List, [], ◌∷◌, length, Option, Some, None, refl, sym, ap, subst, ◌∙◌, arith}
use Rattle.tg_base.specs.Layouts.{Layout}
use Rattle.tg_base.specs.declared.change.Join.{Join}
use Rattle.tg_base.specs.declared.msg.Msg.{Msg}
use Rattle.tg_base.specs.declared.packet.Out.{Out}
use Rattle.tg_protocol.specs.Words.{unit_id, layout_id, numbers}
use Rattle.tg_protocol.specs.Requests.{out, Waits, waits_for, asked_of}
use Rattle.tg_protocol.specs.Reconfiguring.{Acks, Before, Later, Voting, Preparing, Accepting, ReconfWork, SealingSpare, LookingSpare, Sealing, LookingAgain, Agreeing, Telling, Starting, join_asks, reconf_asks, reconf_work_asks}
use Rattle.tg_chain.specs.Turns.{drawn_between}
use Rattle.tg_chain.proofs.Outs.{one_drawn, all_drawn}
use Rattle.tg_reconf.specs.declared.plan.Plan.{Plan}
use Rattle.tg_reconf.specs.States.{working}
use Rattle.tg_reconf.specs.Turns.{AreNew, only_rid}

-- One.

joined_drawn : (j : Option Join) (m : Join → Msg) (n : ℕ) →
    drawn_between n (n + 1) (join_asks j (λ x. out (unit_id x.unit) n (m x) ∷ [])) ≡ join_asks j (λ x. out (unit_id x.unit) n (m x) ∷ [])
unfolding drawn_between
joined_drawn None m n = refl
joined_drawn (Some j) m n = one_drawn (unit_id j.unit) n (m j)

spare_new : (p : Plan) (n : ℕ) → AreNew n (n + 1) (working p (SealingSpare n))
unfolding reconf_work_asks
spare_new p n = joined_drawn p.change.join _ n

look_new : (p : Plan) (n : ℕ) → AreNew n (n + 1) (working p (LookingSpare n))
unfolding reconf_work_asks
look_new p n = joined_drawn p.change.join _ n

again_new : (p : Plan) (n : ℕ) (acks : Acks) → AreNew n (n + 1) (working p (LookingAgain n acks))
unfolding reconf_work_asks
again_new p n acks = joined_drawn p.change.join _ n

start_new : (p : Plan) (n : ℕ) → AreNew n (n + 1) (working p (Starting n))
unfolding reconf_work_asks
start_new p n = one_drawn _ n _

some_same : (k n : ℕ) → Some k ≡ Some n → n ≡ k
some_same k n e = cc

-- where the single request has the number that the step draws
pub one_new : (p : Plan) (w : ReconfWork) (n m : ℕ) → only_rid w ≡ Some n → m ≡ n + 1 → AreNew n m (working p w)
one_new p (SealingSpare k) n m e q = subst (λ j. AreNew n j (working p (SealingSpare k))) (sym q) (subst (λ j. AreNew n (n + 1) (working p (SealingSpare j))) (some_same k n e) (spare_new p n))
one_new p (LookingSpare k) n m e q = subst (λ j. AreNew n j (working p (LookingSpare k))) (sym q) (subst (λ j. AreNew n (n + 1) (working p (LookingSpare j))) (some_same k n e) (look_new p n))
one_new p (LookingAgain k acks) n m e q = subst (λ j. AreNew n j (working p (LookingAgain k acks))) (sym q) (subst (λ j. AreNew n (n + 1) (working p (LookingAgain j acks))) (some_same k n e) (again_new p n acks))
one_new p (Starting k) n m e q = subst (λ j. AreNew n j (working p (Starting k))) (sym q) (subst (λ j. AreNew n (n + 1) (working p (Starting j))) (some_same k n e) (start_new p n))
one_new p (Sealing ws acks) n m e q = absurd (cc)
one_new p (Agreeing v) n m e q = absurd (cc)
one_new p (Telling ws k t) n m e q = absurd (cc)

-- All, where each node draws one.

pub seals_new : (p : Plan) (nodes : List ℕ) (acks : Acks) (n : ℕ) → AreNew n (n + length nodes) (working p (Sealing (waits_for nodes n) acks))
unfolding reconf_work_asks
seals_new p nodes acks n = all_drawn unit_id _ nodes n

pub length_numbers : (n first : ℕ) → length (numbers n first) ≡ n
length_numbers zero first = refl
length_numbers (suc n) first = ap suc (length_numbers n (first + 1))

servers_drawn : (k : ℕ) (m : Msg) (n : ℕ) →
    drawn_between n (n + k) (asked_of layout_id m (waits_for (numbers k 0) n)) ≡ asked_of layout_id m (waits_for (numbers k 0) n)
servers_drawn k m n =
    subst (λ i. drawn_between n (n + i) (asked_of layout_id m (waits_for (numbers k 0) n)) ≡ asked_of layout_id m (waits_for (numbers k 0) n)) (length_numbers k 0) (all_drawn layout_id m (numbers k 0) n)

pub prepares_new : (p : Plan) (own : Layout) (round : ℕ) (bs : List Before) (l : Option Later) (n : ℕ) →
    AreNew n (n + p.stand.layouts) (working p (Agreeing (record { own = own; round = round; stage = Preparing (waits_for (numbers p.stand.layouts 0) n) bs; later = l })))
unfolding reconf_work_asks
prepares_new p own round bs l n = servers_drawn p.stand.layouts _ n

pub accepts_new : (p : Plan) (own : Layout) (round k : ℕ) (q : Layout) (l : Option Later) (n : ℕ) →
    AreNew n (n + p.stand.layouts) (working p (Agreeing (record { own = own; round = round; stage = Accepting (waits_for (numbers p.stand.layouts 0) n) k q; later = l })))
unfolding reconf_work_asks
accepts_new p own round k q l n = servers_drawn p.stand.layouts _ n

pub tells_new : (p : Plan) (k : ℕ) (q : Layout) (n : ℕ) → AreNew n (n + p.stand.layouts) (working p (Telling (waits_for (numbers p.stand.layouts 0) n) k q))
unfolding reconf_work_asks
tells_new p k q n = servers_drawn p.stand.layouts _ n

-- The same, where equations tell what was drawn.

pub seals_fresh : (p : Plan) (nodes : List ℕ) (acks : Acks) (ws : Waits) (old new : ℕ) → ws ≡ waits_for nodes old → new ≡ old + length nodes →
    AreNew old new (working p (Sealing ws acks))
seals_fresh p nodes acks ws old new e f =
    subst (λ n. AreNew old n (working p (Sealing ws acks))) (sym f) (subst (λ vs. AreNew old (old + length nodes) (working p (Sealing vs acks))) (sym e) (seals_new p nodes acks old))

pub prepares_fresh : (p : Plan) (own : Layout) (round : ℕ) (ws : Waits) (bs : List Before) (l : Option Later) (old new : ℕ) →
    ws ≡ waits_for (numbers p.stand.layouts 0) old → new ≡ old + p.stand.layouts →
    AreNew old new (working p (Agreeing (record { own = own; round = round; stage = Preparing ws bs; later = l })))
prepares_fresh p own round ws bs l old new e f =
    let at : Waits → ReconfWork = λ vs. Agreeing (record { own = own; round = round; stage = Preparing vs bs; later = l }) in
    subst (λ n. AreNew old n (working p (at ws))) (sym f) (subst (λ vs. AreNew old (old + p.stand.layouts) (working p (at vs))) (sym e) (prepares_new p own round bs l old))

pub accepts_fresh : (p : Plan) (own : Layout) (round : ℕ) (ws : Waits) (k : ℕ) (q : Layout) (l : Option Later) (old new : ℕ) →
    ws ≡ waits_for (numbers p.stand.layouts 0) old → new ≡ old + p.stand.layouts →
    AreNew old new (working p (Agreeing (record { own = own; round = round; stage = Accepting ws k q; later = l })))
accepts_fresh p own round ws k q l old new e f =
    let at : Waits → ReconfWork = λ vs. Agreeing (record { own = own; round = round; stage = Accepting vs k q; later = l }) in
    subst (λ n. AreNew old n (working p (at ws))) (sym f) (subst (λ vs. AreNew old (old + p.stand.layouts) (working p (at vs))) (sym e) (accepts_new p own round k q l old))

pub tells_fresh : (p : Plan) (ws : Waits) (k : ℕ) (q : Layout) (old new : ℕ) →
    ws ≡ waits_for (numbers p.stand.layouts 0) old → new ≡ old + p.stand.layouts → AreNew old new (working p (Telling ws k q))
tells_fresh p ws k q old new e f =
    subst (λ n. AreNew old n (working p (Telling ws k q))) (sym f) (subst (λ vs. AreNew old (old + p.stand.layouts) (working p (Telling vs k q))) (sym e) (tells_new p k q old))
