-- Which requests were drawn in a step.
use Rattle.std.proofs.Common.{◌≡◌, ℕ, ◌+◌, ◌≤◌, List, [], ◌∷◌, length, refl, ap, subst, arith, zero, suc}
use Rattle.tg_base.specs.declared.cell.Cell.{Cell}
use Rattle.tg_base.specs.declared.ids.NodeId.{NodeId}
use Rattle.tg_base.specs.declared.msg.Msg.{Msg}
use Rattle.tg_base.specs.declared.msg.Msg.TheVariants as msg
use Rattle.tg_base.specs.declared.packet.Out.{Out}
use Rattle.tg_base.specs.declared.turn.Stand.{Stand}
use Rattle.tg_protocol.specs.Cells.{Place, CellJob, CellEnd, Puts, Gets, Fills, Copies, Probes, works, cell_asks, work_asks, probe}
use Rattle.tg_protocol.specs.Requests.{out, Goes, Waits, waits_for, asked_of}
use Rattle.tg_protocol.specs.Words.{unit_id, layout_id, numbers}
use Rattle.tg_chain.specs.Turns.{Shown, by_rules, drawn_between}

-- none, where no number was drawn
pub none_drawn : (n : ℕ) (outs : List Out) → drawn_between n n outs ≡ []
unfolding drawn_between
none_drawn n [] = refl
none_drawn n (o ∷ os) = grind (arith, none_drawn n os)

-- one, where one was
pub one_drawn : (to : NodeId) (n : ℕ) (m : Msg) → drawn_between n (n + 1) (out to n m ∷ []) ≡ out to n m ∷ []
unfolding drawn_between
one_drawn to n m = grind arith

pub put_drawn : (a : Place) (d : List ℕ) (i n : ℕ) → drawn_between n (n + 1) (cell_asks (works a (Puts n d i))) ≡ cell_asks (works a (Puts n d i))
unfolding work_asks
put_drawn a d i n = one_drawn _ n _

pub get_drawn : (a : Place) (n : ℕ) → drawn_between n (n + 1) (cell_asks (works a (Gets n))) ≡ cell_asks (works a (Gets n))
unfolding work_asks
get_drawn a n = one_drawn _ n _

pub fill_drawn : (a : Place) (n : ℕ) → drawn_between n (n + 1) (cell_asks (works a (Fills n))) ≡ cell_asks (works a (Fills n))
unfolding work_asks
fill_drawn a n = one_drawn _ n _

pub copy_drawn : (a : Place) (c : Cell) (i n : ℕ) → drawn_between n (n + 1) (cell_asks (works a (Copies n c i))) ≡ cell_asks (works a (Copies n c i))
unfolding work_asks
copy_drawn a c i n = one_drawn _ n _

-- all, where each node draws one
each_drawn : (name : ℕ → NodeId) (m : Msg) (nodes : List ℕ) (n k : ℕ) → n ≤ k →
    drawn_between n (k + length nodes) (asked_of name m (waits_for nodes k)) ≡ asked_of name m (waits_for nodes k)
unfolding drawn_between
each_drawn name m [] n k le = refl
each_drawn name m (x ∷ xs) n k le = grind (arith, each_drawn name m xs n (k + 1))

pub all_drawn : (name : ℕ → NodeId) (m : Msg) (nodes : List ℕ) (n : ℕ) →
    drawn_between n (n + length nodes) (asked_of name m (waits_for nodes n)) ≡ asked_of name m (waits_for nodes n)
all_drawn name m nodes n = each_drawn name m nodes n n (omega arith)

pub probe_drawn : (a : Place) (n : ℕ) →
    drawn_between n (n + length a.chain) (cell_asks (works a (Probes (waits_for a.chain n)))) ≡ cell_asks (works a (Probes (waits_for a.chain n)))
unfolding work_asks
probe_drawn a n = all_drawn unit_id _ a.chain n

pub probe_started : (a : Place) (n m : ℕ) (waits : Waits) (outs : List Out) →
    m ≡ n + length a.chain → waits ≡ waits_for a.chain n → outs ≡ cell_asks (works a (Probes waits)) →
    ◌≡◌ {A = Shown CellJob CellEnd} (record { next = m; to = Goes (works a (Probes waits)); outs = outs }) (by_rules cell_asks n (probe a n))
unfolding probe
probe_started a n m waits outs e f g = cc (probe_drawn a n)

length_numbers : (n first : ℕ) → length (numbers n first) ≡ n
length_numbers zero first = refl
length_numbers (suc n) first = ap suc (length_numbers n (first + 1))

pub learn_drawn : (s : Stand) (n : ℕ) →
    drawn_between n (n + s.layouts) (asked_of layout_id msg.AskLatest (waits_for (numbers s.layouts 0) n)) ≡ asked_of layout_id msg.AskLatest (waits_for (numbers s.layouts 0) n)
learn_drawn s n = subst (λ k. drawn_between n (n + k) (asked_of layout_id msg.AskLatest (waits_for (numbers s.layouts 0) n)) ≡ asked_of layout_id msg.AskLatest (waits_for (numbers s.layouts 0) n)) (length_numbers s.layouts 0) (all_drawn layout_id msg.AskLatest (numbers s.layouts 0) n)
