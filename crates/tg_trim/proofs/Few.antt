-- How many requests a trim sends, and that it waits for a unit from its beginning on.
use Rattle.std.proofs.Common.{◌≡◌, ℕ, ◌+◌, ◌≤◌, Bool, true, false, List, [], ◌∷◌, ◌++◌, length, refl, ◌∙◌, arith}
use Rattle.std.specs.Prelude.{nat_lt}
use Rattle.std.specs.List.{list_all, concat}
use Rattle.tg_base.specs.declared.layout.Range.{Range}
use Rattle.tg_base.specs.declared.ids.NodeId.{NodeId}
use Rattle.tg_base.specs.declared.msg.Msg.{Msg}
use Rattle.tg_base.specs.declared.packet.Packet.{Packet}
use Rattle.tg_base.specs.Units.{is_chain}
use Rattle.tg_base.specs.Layouts.{Layout, IsLayout, is_range}
use Rattle.tg_base.proofs.Exact.{and-left, and-right}
use Rattle.tg_base.proofs.Rules.{layout_rules, chain_rules, within-low}
use Rattle.tg_proj.specs.Refusals.{units_of as units_in}
use Rattle.tg_protocol.specs.Words.{with_num, with_nums}
use Rattle.tg_protocol.specs.Layouts.{units_of}
use Rattle.tg_protocol.specs.Requests.{Waits, waits_for, without_wait, Next, Goes, Learns, Ends}
use Rattle.tg_protocol.specs.Replies.{Reply, IsGone, IsFenced, reply}
use Rattle.tg_protocol.specs.Trimming.{Trims, Trimmed, trims_left, trim_asks, trim_start, trim_feed, learns_if}
use Rattle.tg_trim.specs.Turns.{trim_fed, trim_fed_if}
use Rattle.tg_protocol.specs.Requests.{awaits}
use Rattle.tg_trim.specs.Laws.{TrimsWait, NextWaits, TrimsAreFew, fed_next, fed_all}
use Rattle.tg_chain.proofs.Rising.{few_units}
use Rattle.tg_trim.proofs.Answers.{fed_waits}

-- Some unit stands in a layout.

one_more : (u : ℕ) (xs : List ℕ) → 1 ≤ length (with_num u xs)
one_more u [] = omega arith
one_more u (x ∷ xs) = grind arith

some_of : (xs ys : List ℕ) → 1 ≤ length xs → 1 ≤ length (with_nums (xs ++ ys) [])
some_of [] ys h = absurd (omega arith)
some_of (x ∷ xs) ys h = one_more x (with_nums (xs ++ ys) [])

in_either : (xs ys : List ℕ) → 1 ≤ length xs → 1 ≤ length (xs ++ ys)
in_either [] ys h = absurd (omega arith)
in_either (x ∷ xs) ys h = omega arith

in_chains : (cs : List (List ℕ)) → 1 ≤ length cs → list_all is_chain cs ≡ true → 1 ≤ length (concat cs)
in_chains [] h each = absurd (omega arith)
in_chains (c ∷ cs) h each = in_either c (concat cs) (chain_rules c (and-left _ _ each)).some

some_in : (rs : List Range) → 1 ≤ length rs → list_all is_range rs ≡ true → 1 ≤ length (with_nums (units_in rs) [])
some_in [] h each = absurd (omega arith)
some_in (r ∷ rs) h each =
    let one = and-left _ _ each in
    some_of (concat r.stripes) (units_in rs) (in_chains r.stripes (within-low 1 8 (length r.stripes) (and-left _ _ one)) (and-right _ _ one))

some_units : (p : Layout) → IsLayout p → 1 ≤ length (units_of p)
unfolding units_of
some_units p h = some_in p.ranges (layout_rules p h).some (layout_rules p h).ranges

few : (p : Layout) → IsLayout p → length (units_of p) ≤ 64
unfolding units_of
few p h = few_units p h

each_waits : (us : List ℕ) (n : ℕ) → 1 ≤ length us → 1 ≤ length (waits_for us n)
each_waits [] n h = absurd (omega arith)
each_waits (u ∷ us) n h = omega arith

starts_wait : (p : Layout) (below next : ℕ) → IsLayout p → NextWaits (trim_start p below next).to
unfolding trim_start
starts_wait p below next h = each_waits (units_of p) next (some_units p h)

pub trims_wait : TrimsWait
trims_wait = record { starts = starts_wait; steps = fed_waits }

-- No number is drawn after the start.

left_draws : (b : ℕ) (ws : Waits) (n : ℕ) → (trims_left b ws n).next ≡ n
left_draws b [] n = refl
left_draws b (w ∷ ws) n = refl

fence_draws : (b : Bool) (t : Trims) (n : ℕ) → (learns_if {E = Trimmed} b t n).next ≡ n
fence_draws true t n = refl
fence_draws false t n = refl

feed_draws : (p : Layout) (t : Trims) (u : ℕ) (x : Reply) (n : ℕ) → (trim_feed p t u x n).next ≡ n
unfolding trim_feed
feed_draws p t u (IsGone b) n = left_draws t.below (without_wait u t.waits) n
feed_draws p t u (IsFenced e) n = fence_draws (nat_lt p.epoch e) t n
feed_draws p t u _ n = refl

if_draws : (b : Bool) (p : Layout) (t : Trims) (u : ℕ) (m : Msg) (n : ℕ) → (trim_fed_if b p t u m n).next ≡ n
if_draws true p t u m n = feed_draws p t u (reply m) n
if_draws false p t u m n = refl

pub fed_draws : (p : Layout) (t : Trims) (from : NodeId) (rid : ℕ) (m : Msg) (n : ℕ) → (trim_fed p t from rid m n).next ≡ n
fed_draws p t from rid m n = if_draws (awaits (trim_asks p t) from rid) p t from.num m n

next_draws : (p : Layout) (x : Next Trims Trimmed) (q : Packet) (n : ℕ) → (fed_next p x q n).next ≡ n
next_draws p (Goes t) q n = fed_draws p t q.from q.rid q.msg n
next_draws p (Learns t) q n = refl
next_draws p (Ends e) q n = refl

runs_draw : (p : Layout) (x : Next Trims Trimmed) (qs : List Packet) (n : ℕ) → (fed_all p x qs n).next ≡ n
unfolding fed_all
runs_draw p x [] n = refl
runs_draw p x (q ∷ qs) n = runs_draw p (fed_next p x q n).to qs (fed_next p x q n).next ∙ next_draws p x q n

starts_draw : (p : Layout) (below next : ℕ) → (trim_start p below next).next ≡ next + length (units_of p)
unfolding trim_start
starts_draw p below next = refl

pub trims_are_few : TrimsAreFew
trims_are_few = record { starts = starts_draw; few = few; runs = λ p t qs n. runs_draw p (Goes t) qs n }
