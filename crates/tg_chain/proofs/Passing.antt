-- What a machine passes by.
use Rattle.std.proofs.Common.{◌≡◌, ℕ, ◌+◌, Bool, true, false, not, ◌&&◌, ◌||◌, ◌==◌, nat_le, nat_lt, List, [], ◌∷◌, length, refl, sym, ◌∙◌, arith}
use Rattle.std.proofs.lemmas.Bool.Decides.{nat_tests}
use Rattle.tg_base.specs.declared.cell.Cell.{Cell}
use Rattle.tg_base.specs.declared.cell.Cell.TheVariants.{Junk, Data}
use Rattle.tg_base.specs.declared.msg.Msg.{Msg}
use Rattle.tg_base.specs.declared.packet.Out.{Out}
use Rattle.tg_protocol.specs.Words.{cell_eq}
use Rattle.tg_protocol.specs.Requests.{Waits, Next, Goes, Ends, awaits, without_wait}
use Rattle.tg_protocol.specs.Replies.{Reply, IsHeld, IsTaken, IsUnwritten, IsGone, IsFenced, IsMissing, IsWhole, reply}
use Rattle.tg_protocol.specs.Cells.{Place, CellJob, CellWork, Puts, Gets, Fills, Copies, Probes, CellEnd, Lost, Fenced, Gone, cell_asks, work_asks, works, put_on, copy_on, end_if, copy_if_same, probe_on, cell_feed, work_feed, fill_cell}
use Rattle.tg_chain.specs.Turns.{by_rules, fed_if, drawn_between}
use Rattle.tg_chain.specs.Laws.{passed_by, awaits_more, WaitsForAnswers}
use Rattle.tg_chain.proofs.Outs.{put_drawn, fill_drawn, copy_drawn}

no_cons : (o : Out) (os : List Out) → o ∷ os ≡ [] → ⊥
no_cons o os e = cc

-- a request that is drawn in the step is sent
puts_send : (a : Place) (d : List ℕ) (i next : ℕ) → drawn_between next (next + 1) (cell_asks (works a (Puts next d i))) ≡ [] → ⊥
unfolding work_asks
puts_send a d i next n = no_cons _ _ (sym (put_drawn a d i next) ∙ n)

fills_send : (a : Place) (next : ℕ) → drawn_between next (next + 1) (cell_asks (works a (Fills next))) ≡ [] → ⊥
unfolding work_asks
fills_send a next n = no_cons _ _ (sym (fill_drawn a next) ∙ n)

copies_send : (a : Place) (c : Cell) (i next : ℕ) → drawn_between next (next + 1) (cell_asks (works a (Copies next c i))) ≡ [] → ⊥
unfolding work_asks
copies_send a c i next n = no_cons _ _ (sym (copy_drawn a c i next) ∙ n)

ends_go : (e : CellEnd) (k : CellJob) → ◌≡◌ {A = Next CellJob CellEnd} (Ends e) (Goes k) → ⊥
ends_go e k g = cc

put_waits : (b : Bool) (a : Place) (d : List ℕ) (i next : ℕ) (k : CellJob) →
    (put_on a d i next b).to ≡ Goes k → (by_rules cell_asks next (put_on a d i next b)).outs ≡ [] → ⊥
put_waits true a d i next k g n = puts_send a d i next n
put_waits false a d i next k g n = ends_go _ k g

copy_waits : (b : Bool) (a : Place) (c : Cell) (i next : ℕ) (k : CellJob) →
    (copy_on a c i next b).to ≡ Goes k → (by_rules cell_asks next (copy_on a c i next b)).outs ≡ [] → ⊥
copy_waits true a c i next k g n = copies_send a c i next n
copy_waits false a c i next k g n = ends_go _ k g

end_waits : (b : Bool) (j : CellJob) (next : ℕ) (e : CellEnd) (k : CellJob) → (end_if b j next e).to ≡ Goes k → b ≡ false
end_waits true j next e k g = absurd (ends_go e k g)
end_waits false j next e k g = refl

not_below : (a b : ℕ) → nat_lt a b ≡ false → (nat_le b a || false) ≡ true
not_below a b e = grind (arith, nat_tests)

same_waits : (b : Bool) (a : Place) (r : ℕ) (c : Cell) (i next : ℕ) (k : CellJob) →
    (copy_if_same (works a (Copies r c i)) c i next b).to ≡ Goes k →
    (by_rules cell_asks next (copy_if_same (works a (Copies r c i)) c i next b)).outs ≡ [] → b ≡ false
same_waits true a r c i next k g n = absurd (copy_waits (nat_lt (i + 1) (length a.chain)) a c (i + 1) next k g n)
same_waits false a r c i next k g n = refl

not_false : (b : Bool) → b ≡ false → (not b || false) ≡ true
not_false true e = absurd (cc)
not_false false e = refl

probe_goes : (a : Place) (vs : Waits) (next : ℕ) (k : CellJob) → (probe_on a vs next).to ≡ Goes k → nat_lt 0 (length vs) ≡ true
probe_goes a [] next k g = absurd (ends_go _ k g)
probe_goes a (v ∷ vs) next k g = grind (arith, nat_tests)

put_passed : (a : Place) (r : ℕ) (d : List ℕ) (i u : ℕ) (x : Reply) (next : ℕ) (k : CellJob) →
    (cell_feed (works a (Puts r d i)) u x next).to ≡ Goes k →
    (by_rules cell_asks next (cell_feed (works a (Puts r d i)) u x next)).outs ≡ [] →
    (passed_by a (Puts r d i) x || awaits_more (Puts r d i) u x) ≡ true
unfolding cell_feed work_feed
put_passed a r d i u IsHeld next k g n = absurd (put_waits (nat_lt (i + 1) (length a.chain)) a d (i + 1) next k g n)
put_passed a r d i u (IsTaken c) next k g n = not_false ((i == 0) && not (cell_eq c (Data d))) (end_waits ((i == 0) && not (cell_eq c (Data d))) (works a (Puts r d i)) next (Lost c) k g)
put_passed a r d i u (IsGone b) next k g n = not_below a.pos b (end_waits (nat_lt a.pos b) (works a (Puts r d i)) next (Gone b) k g)
put_passed a r d i u (IsFenced e) next k g n = not_below a.epoch e (end_waits (nat_lt a.epoch e) (works a (Puts r d i)) next (Fenced u e) k g)
put_passed a r d i u _ next k g n = refl

get_passed : (a : Place) (r u : ℕ) (x : Reply) (next : ℕ) (k : CellJob) →
    (cell_feed (works a (Gets r)) u x next).to ≡ Goes k →
    (by_rules cell_asks next (cell_feed (works a (Gets r)) u x next)).outs ≡ [] →
    (passed_by a (Gets r) x || awaits_more (Gets r) u x) ≡ true
unfolding cell_feed work_feed fill_cell
get_passed a r u (IsTaken c) next k g n = absurd (ends_go _ k g)
get_passed a r u IsUnwritten next k g n = absurd (fills_send a next n)
get_passed a r u (IsGone b) next k g n = not_below a.pos b (end_waits (nat_lt a.pos b) (works a (Gets r)) next (Gone b) k g)
get_passed a r u (IsFenced e) next k g n = not_below a.epoch e (end_waits (nat_lt a.epoch e) (works a (Gets r)) next (Fenced u e) k g)
get_passed a r u _ next k g n = refl

fill_passed : (a : Place) (r u : ℕ) (x : Reply) (next : ℕ) (k : CellJob) →
    (cell_feed (works a (Fills r)) u x next).to ≡ Goes k →
    (by_rules cell_asks next (cell_feed (works a (Fills r)) u x next)).outs ≡ [] →
    (passed_by a (Fills r) x || awaits_more (Fills r) u x) ≡ true
unfolding cell_feed work_feed
fill_passed a r u IsHeld next k g n = absurd (copy_waits (nat_lt 1 (length a.chain)) a Junk 1 next k g n)
fill_passed a r u (IsTaken c) next k g n = absurd (copy_waits (nat_lt 1 (length a.chain)) a c 1 next k g n)
fill_passed a r u (IsGone b) next k g n = not_below a.pos b (end_waits (nat_lt a.pos b) (works a (Fills r)) next (Gone b) k g)
fill_passed a r u (IsFenced e) next k g n = not_below a.epoch e (end_waits (nat_lt a.epoch e) (works a (Fills r)) next (Fenced u e) k g)
fill_passed a r u _ next k g n = refl

copy_passed : (a : Place) (r : ℕ) (c : Cell) (i u : ℕ) (x : Reply) (next : ℕ) (k : CellJob) →
    (cell_feed (works a (Copies r c i)) u x next).to ≡ Goes k →
    (by_rules cell_asks next (cell_feed (works a (Copies r c i)) u x next)).outs ≡ [] →
    (passed_by a (Copies r c i) x || awaits_more (Copies r c i) u x) ≡ true
unfolding cell_feed work_feed
copy_passed a r c i u IsHeld next k g n = absurd (copy_waits (nat_lt (i + 1) (length a.chain)) a c (i + 1) next k g n)
copy_passed a r c i u (IsTaken y) next k g n = not_false (cell_eq y c) (same_waits (cell_eq y c) a r c i next k g n)
copy_passed a r c i u (IsGone b) next k g n = not_below a.pos b (end_waits (nat_lt a.pos b) (works a (Copies r c i)) next (Gone b) k g)
copy_passed a r c i u (IsFenced e) next k g n = not_below a.epoch e (end_waits (nat_lt a.epoch e) (works a (Copies r c i)) next (Fenced u e) k g)
copy_passed a r c i u _ next k g n = refl

probe_passed : (a : Place) (ws : Waits) (u : ℕ) (x : Reply) (next : ℕ) (k : CellJob) →
    (cell_feed (works a (Probes ws)) u x next).to ≡ Goes k → (passed_by a (Probes ws) x || awaits_more (Probes ws) u x) ≡ true
unfolding cell_feed work_feed
probe_passed a ws u IsWhole next k g = probe_goes a (without_wait u ws) next k g
probe_passed a ws u (IsMissing p) next k g = probe_goes a (without_wait u ws) next k g
probe_passed a ws u (IsFenced e) next k g = not_below a.epoch e (end_waits (nat_lt a.epoch e) (works a (Probes ws)) next (Fenced u e) k g)
probe_passed a ws u _ next k g = refl

work_waits : (a : Place) (w : CellWork) (u : ℕ) (x : Reply) (next : ℕ) (k : CellJob) →
    (cell_feed (works a w) u x next).to ≡ Goes k → (by_rules cell_asks next (cell_feed (works a w) u x next)).outs ≡ [] →
    (passed_by a w x || awaits_more w u x) ≡ true
work_waits a (Puts r d i) u x next k g n = put_passed a r d i u x next k g n
work_waits a (Gets r) u x next k g n = get_passed a r u x next k g n
work_waits a (Fills r) u x next k g n = fill_passed a r u x next k g n
work_waits a (Copies r c i) u x next k g n = copy_passed a r c i u x next k g n
work_waits a (Probes ws) u x next k g n = probe_passed a ws u x next k g

if_waits : (b : Bool) (j : CellJob) (u : ℕ) (m : Msg) (next : ℕ) (k : CellJob) →
    (fed_if b j u m next).to ≡ Goes k → (by_rules cell_asks next (fed_if b j u m next)).outs ≡ [] →
    (not b || (passed_by j.place j.work (reply m) || awaits_more j.work u (reply m))) ≡ true
if_waits true j u m next k g n = work_waits j.place j.work u (reply m) next k g n
if_waits false j u m next k g n = refl

pub waits_for_answers : WaitsForAnswers
waits_for_answers j from rid m next k g n = if_waits (awaits (cell_asks j) from rid) j from.num m next k g n
