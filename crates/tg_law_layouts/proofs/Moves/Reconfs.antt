-- The request numbers that a reconfiguration draws.
use Rattle.std.proofs.Common.{◌≡◌, ◌⊎◌, ℕ, zero, suc, ◌+◌, List, [], ◌∷◌, ◌++◌, length, refl, sym, ap, subst, inl, inr, arith, Some, None, Option}
use Rattle.tg_base.specs.Layouts.{Layout}
use Rattle.tg_base.specs.Changes.{Changed}
use Rattle.tg_base.specs.declared.change.Join.{Join}
use Rattle.tg_base.specs.declared.ids.NodeId.{NodeId}
use Rattle.tg_base.specs.declared.msg.Msg.{Msg}
use Rattle.tg_base.specs.declared.msg.Msg.TheVariants as msg
use Rattle.tg_base.specs.declared.packet.Out.{Out}
use Rattle.tg_protocol.specs.Words.{unit_id, layout_id, numbers}
use Rattle.tg_protocol.specs.Layouts.{next_units}
use Rattle.tg_protocol.specs.Requests.{out, Waits, waits_for, asked_of, without_wait}
use Rattle.tg_protocol.specs.Replies.{Reply}
use Rattle.tg_protocol.specs.Reconfiguring.{Acks, proposes, round_after, Stage, Accepting, Later, Voting, Reconf, ReconfTurn, next_epoch, servers, ballot_of, join_asks, stage_asks, reconf_work_asks, set_asks, reconf_awaited, seals, reconf_start, greatest, value_or, tells, reconf_feed, reconf_latest}
use Rattle.tg_law_layouts.proofs.Moves.Members.{Has, has_left, has_right, has_either}
use Rattle.tg_law_layouts.proofs.Moves.Draws.{Drawn, IsNew, TurnDraws, keeps, same, news, none_new, one_new, all_new, draws_one, draws_all, fewer_asked}
use Rattle.tg_law_steps.proofs.Machines.Reconfs as turns

abbrev ReconfDraws : List Out → ℕ → ReconfTurn → Type 0
ReconfDraws old next t = TurnDraws reconf_awaited old next t

-- nothing comes after
abbrev alone : (old : List Out) (next : ℕ) (now : List Out) (end : ℕ) → Drawn old next now end → Drawn old next (now ++ []) end
alone old next now end d = record { up = d.up; new = d.new; is_new = d.is_new; either = λ o h. by o (has_either now [] o h) }
  where
    by : (o : Out) → Has now o ⊎ Has [] o → Has old o ⊎ Has d.new o
    by o (inl h) = d.either o h
    by o (inr h) = absurd h

join_new : (j : Option Join) (next : ℕ) (to : Join → NodeId) (m : Join → Msg) → IsNew next (next + 1) (join_asks j (λ x. out (to x) next (m x) ∷ []))
join_new None next to m = none_new next (next + 1)
join_new (Some x) next to m = one_new next (to x) (m x)

draws_join : (old : List Out) (j : Option Join) (next : ℕ) (to : Join → NodeId) (m : Join → Msg) → Drawn old next (join_asks j (λ x. out (to x) next (m x) ∷ []) ++ []) (next + 1)
draws_join old j next to m = alone old next _ (next + 1) (news old next _ (next + 1) (omega arith) (join_new j next to m))

seals_draws : (old : List Out) (r : Reconf) (next : ℕ) → ReconfDraws old next (seals r next)
unfolding reconf_work_asks
seals_draws old r next = alone old next _ _ (draws_all old next unit_id _ (next_units r.stand r.change))

begun_draws : (r : Reconf) (next : ℕ) (t : ReconfTurn) → turns.Begun r next t → ReconfDraws [] next t
unfolding reconf_work_asks
begun_draws r next _ (turns.JoinsNone e) = seals_draws [] r next
begun_draws r next _ (turns.Joins j e) = draws_join [] r.change.join next (λ x. unit_id x.unit) (λ x. msg.Seal r.stand.epoch)

pub reconf_start_draws : (p : Layout) (layouts : ℕ) (c : Changed) (me next : ℕ) → ReconfDraws [] next (reconf_start p layouts c me next)
reconf_start_draws p layouts c me next = begun_draws _ next _ (turns.reconf_begun p layouts c me next)

pub numbers_long : (n first : ℕ) → length (numbers n first) ≡ n
numbers_long zero first = refl
numbers_long (suc n) first = ap suc (numbers_long n (first + 1))

-- all layout servers are asked alike
servers_draw : (old : List Out) (r : Reconf) (next : ℕ) (m : Msg) → Drawn old next (asked_of layout_id m (waits_for (servers r) next) ++ []) (next + r.layouts)
servers_draw old r next m = subst (λ n. Drawn old next (asked_of layout_id m (waits_for (servers r) next) ++ []) (next + n)) (numbers_long r.layouts 0) (alone old next _ _ (draws_all old next layout_id m (servers r)))

proposes_draws : (old : List Out) (r : Reconf) (acks : Acks) (next : ℕ) → ReconfDraws old next (proposes r acks next)
unfolding reconf_work_asks
proposes_draws old r acks next = servers_draw old r next _

tells_draws : (old : List Out) (r : Reconf) (q : Layout) (next : ℕ) → ReconfDraws old next (tells r q next)
unfolding reconf_work_asks
tells_draws old r q next = servers_draw old r next _

-- The rounds.

-- what is awaited in a voting's stage, and for a round that is set
abbrev voting_asks : Reconf → Voting → List Out
voting_asks r v = stage_asks r v.round v.stage ++ set_asks r v.later

-- a round that was set was awaited
voting_asked : (n rid : ℕ) (x : Reply) (next : ℕ) (r : Reconf) (v u : Voting) → turns.IsVoting n rid x next r v u → (o : Out) → Has (voting_asks r u) o → Has (voting_asks r v) o
voting_asked n rid x next r v _ (turns.Present none) o h = h
voting_asked n rid x next r v _ (turns.IsBegun l is has answers) o h = has_right (stage_asks r v.round v.stage) (set_asks r v.later) o (subst (λ i. Has (set_asks r i) o) (sym is) (by (has_either (set_asks r (Some l)) [] o h)))
  where
    by : Has (set_asks r (Some l)) o ⊎ Has [] o → Has (set_asks r (Some l)) o
    by (inl k) = k
    by (inr k) = absurd k

-- a new stage beside the set round
stage_draws : (old : List Out) (r : Reconf) (v : Voting) (m : Msg) (next : ℕ) (s : Stage) → stage_asks r v.round s ≡ asked_of layout_id m (waits_for (servers r) next)
    → ((o : Out) → Has (set_asks r v.later) o → Has old o) → Drawn old next (stage_asks r v.round s ++ set_asks r v.later) (next + r.layouts)
stage_draws old r v m next s e k = record {
  up = omega arith;
  new = asked_of layout_id m (waits_for (servers r) next);
  is_new = subst (λ n. IsNew next (next + n) (asked_of layout_id m (waits_for (servers r) next))) (numbers_long r.layouts 0) (all_new layout_id m (servers r) next);
  either = λ o h. by o (has_either (stage_asks r v.round s) (set_asks r v.later) o h);
}
  where
    by : (o : Out) → Has (stage_asks r v.round s) o ⊎ Has (set_asks r v.later) o → Has old o ⊎ Has (asked_of layout_id m (waits_for (servers r) next)) o
    by o (inl h) = inr (subst (λ xs. Has xs o) e h)
    by o (inr h) = inl (k o h)

-- fewer servers are waited for in a stage
fewer_stage : (old : List Out) (r : Reconf) (round n : ℕ) (m : Msg) (ws : Waits) (l : Option Later) → ((o : Out) → Has (asked_of layout_id m ws ++ set_asks r l) o → Has old o)
    → (o : Out) → Has (asked_of layout_id m (without_wait n ws) ++ set_asks r l) o → Has old o
fewer_stage old r round n m ws l k o h = by (has_either (asked_of layout_id m (without_wait n ws)) (set_asks r l) o h)
  where
    by : Has (asked_of layout_id m (without_wait n ws)) o ⊎ Has (set_asks r l) o → Has old o
    by (inl x) = k o (has_left (asked_of layout_id m ws) (set_asks r l) o (fewer_asked layout_id m n ws o x))
    by (inr x) = k o (has_right (asked_of layout_id m ws) (set_asks r l) o x)

-- a round is set beside the stage
sets_draws : (old : List Out) (r : Reconf) (v : Voting) (round next : ℕ) → ((o : Out) → Has (voting_asks r v) o → Has old o)
    → Drawn old next (stage_asks r v.round v.stage ++ asked_of layout_id (msg.Prepare (next_epoch r) (ballot_of r round)) (waits_for (servers r) next)) (next + r.layouts)
sets_draws old r v round next k = record {
  up = omega arith;
  new = new;
  is_new = subst (λ n. IsNew next (next + n) new) (numbers_long r.layouts 0) (all_new layout_id _ (servers r) next);
  either = λ o h. by o (has_either (stage_asks r v.round v.stage) new o h);
}
  where
    new : List Out
    new = asked_of layout_id (msg.Prepare (next_epoch r) (ballot_of r round)) (waits_for (servers r) next)

    by : (o : Out) → Has (stage_asks r v.round v.stage) o ⊎ Has new o → Has old o ⊎ Has new o
    by o (inl h) = inl (k o (has_left (stage_asks r v.round v.stage) (set_asks r v.later) o h))
    by o (inr h) = inr h

-- An awaited answer.

fed_draws : (n rid : ℕ) (x : Reply) (next : ℕ) (r : Reconf) (t : ReconfTurn) → turns.Fed n rid x next r t → ReconfDraws (reconf_awaited r) next t
unfolding reconf_work_asks
fed_draws n rid x next _ _ (turns.Nothing r) = same _ next
fed_draws n rid x next _ _ (turns.LooksSpare r k e h is f) = draws_join _ r.change.join next _ _
fed_draws n rid x next _ _ (turns.SpareWhole r k is) = seals_draws _ r next
fed_draws n rid x next _ _ (turns.SpareMisses r k pos is) = omega arith
fed_draws n rid x next _ _ (turns.SpareFenced r w e k is f) = seals_draws _ r next
fed_draws n rid x next _ _ (turns.SealsMore r ws acks e h w vs is f left) = alone _ next _ next (keeps _ next (asked_of unit_id (msg.Seal (next_epoch r)) (w ∷ vs)) next (omega arith)
    (λ o y. has_left _ [] o (fewer_asked unit_id _ n ws o (subst (λ (zs : Waits). Has (asked_of unit_id (msg.Seal (next_epoch r)) zs) o) (sym left) y))))
fed_draws n rid x next _ _ (turns.SealsLast r ws acks e h is f none j) = proposes_draws _ r ((n, h) ∷ acks) next
fed_draws n rid x next _ _ (turns.LooksAgain r ws acks e h j is f none i) = draws_join _ r.change.join next _ _
fed_draws n rid x next _ _ (turns.AgainWhole r k acks is) = proposes_draws _ r acks next
fed_draws n rid x next _ _ (turns.AgainMisses r k acks pos is) = omega arith
fed_draws n rid x next _ _ (turns.NextFenced r w e k is f) = (omega arith, λ o h. h)
fed_draws n rid x next _ _ (turns.Promises r v u ws ps e b a of st is f g) = keeps _ next _ next (omega arith)
    (fewer_stage (voting_asks r v) r u.round n _ ws u.later (λ o h. voting_asked n rid x next r v u of o (subst (λ (s : Stage). Has (stage_asks r u.round s ++ set_asks r u.later) o) (sym st) h)))
fed_draws n rid x next _ _ (turns.PromisesMost r v u ws ps e b a of st is f g) = stage_draws _ r u _ next (Accepting (waits_for (servers r) next) 0 (value_or (greatest (a ∷ ps)) u.own)) refl
    (λ o h. voting_asked n rid x next r v u of o (has_right (stage_asks r u.round u.stage) (set_asks r u.later) o h))
fed_draws n rid x next _ _ (turns.Accepts r v u ws k q e b of st is f g) = keeps _ next _ next (omega arith)
    (fewer_stage (voting_asks r v) r u.round n _ ws u.later (λ o h. voting_asked n rid x next r v u of o (subst (λ (s : Stage). Has (stage_asks r u.round s ++ set_asks r u.later) o) (sym st) h)))
fed_draws n rid x next _ _ (turns.AcceptsMost r v u ws k q e b of st is f g) = tells_draws _ r q next
fed_draws n rid x next _ _ (turns.Nacks r v u e b of is f g) = sets_draws _ r u (round_after u b) next (voting_asked n rid x next r v u of)
fed_draws n rid x next _ _ (turns.NacksLow r v u e b of is f g) = keeps _ next _ next (omega arith) (voting_asked n rid x next r v u of)
fed_draws n rid x next _ _ (turns.Starts r k t ls is e) = omega arith
fed_draws n rid x next _ _ (turns.StartsPast r k e is f) = (omega arith, λ o h. h)

pub reconf_draws : (r : Reconf) (n rid : ℕ) (x : Reply) (next : ℕ) → ReconfDraws (reconf_awaited r) next (reconf_feed r r.work n rid x next)
reconf_draws r n rid x next = fed_draws n rid x next r _ (turns.reconf_fed n rid x next r)

-- A newer layout.

heard_draws : (n rid : ℕ) (q : Layout) (next : ℕ) (r : Reconf) (t : ReconfTurn) → turns.Heard n rid q next r t → ReconfDraws (reconf_awaited r) next t
unfolding reconf_work_asks
heard_draws n rid q next _ _ (turns.HearsOne r ws k p e f) = alone _ next _ next (keeps _ next (asked_of layout_id (msg.Decided p) (without_wait n ws)) next (omega arith) (λ o y. has_left _ [] o (fewer_asked layout_id _ n ws o y)))
heard_draws n rid q next _ _ (turns.Adopts r ws k p e f g) = draws_one _ next _ _
heard_draws n rid q next _ _ (turns.TellsOwn r ws k p e) = same _ next
heard_draws n rid q next _ _ (turns.OwnDecided r w k e) = tells_draws _ r q next
heard_draws n rid q next _ _ x = omega arith

pub reconf_latest_draws : (r : Reconf) (n rid : ℕ) (q : Layout) (next : ℕ) → ReconfDraws (reconf_awaited r) next (reconf_latest r r.work n rid q next)
reconf_latest_draws r n rid q next = heard_draws n rid q next r _ (turns.reconf_heard n rid q next r)

-- A spare unit is asked at most.
pub join_plain : (P : List Out → Type 0) (j : Option Join) (f : Join → List Out) → P [] → ((x : Join) → P (f x)) → P (join_asks j f)
join_plain P None f empty some = empty
join_plain P (Some x) f empty some = some x
