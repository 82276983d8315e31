-- Why a command is refused at once names what the command gives, or a place of the layout.
use Rattle.std.proofs.Common.{◌≡◌, ℕ, ◌+◌, ◌<◌, ◌≤◌, ◌^◌, List, [], ◌∷◌, length, Bool, true, false, cond, refl, inl, inr, arith, Some, None, Option}
use Rattle.std.specs.Prelude.{find, option_map}
use Rattle.std.specs.List.{position_from}
use Rattle.tg_base.specs.Layouts.{Layout}
use Rattle.tg_base.specs.Changes.{Changed}
use Rattle.tg_base.specs.declared.change.Join.{Join}
use Rattle.tg_base.specs.declared.ids.Oid.{Oid}
use Rattle.tg_base.specs.declared.layout.Range.{Range}
use Rattle.tg_kind.specs.Meaning.{Meaning}
use Rattle.tg_model.specs.declared.command.Command.TheVariants as cmd
use Rattle.tg_model.specs.declared.refusal.Refusal.{Refusal}
use Rattle.tg_model.specs.Kinds.{CommandOf}
use Rattle.tg_proj.specs.declared.fault.ProjFault.{ProjFault}
use Rattle.tg_proj.specs.declared.fault.ProjFault.TheVariants as layout
use Rattle.tg_proj.specs.Refusals.{on_test, join_refusal, spare_refusal, is_out, coming, is_lost, lost_refusal, is_not_closed, has_no_stripe, stands_there, is_full, opens_too_many}
use Rattle.tg_proj.specs.Refusals as refusals
use Rattle.tg_base.specs.Units.{has}
use Rattle.tg_protocol.specs.Words.{first_some, where_true}
use Rattle.tg_protocol.specs.Layouts.{change_fault}
use Rattle.tg_protocol.specs.Transactions.{TxFault, Tx}
use Rattle.tg_protocol.specs.Transactions as tx
use Rattle.tg_protocol.specs.Clients.{Client, Work, by_layout, by_tx, busy, no_tx, tx_open, wrong_kind, not_hosted, put_fault, ask_fault, copy_fault, tests, refusal}
use Rattle.tg_law_programs.proofs.Transcripts.Near.{Near}
use Rattle.tg_law_programs.proofs.Transcripts.Given.{Few, JoinOk, AreFew, CommandOk, AllowedOk, WhyOk}

-- Faults of layouts.

abbrev pub FaultOk : Option ProjFault → Type 0
FaultOk None = Unit {0}
FaultOk (Some (layout.TooMany x)) = Unit {0}
FaultOk (Some (layout.NotClosed r)) = Near r
FaultOk (Some (layout.NoStripe r s)) = Near r × Near s
FaultOk (Some (layout.InChain u)) = Few u
FaultOk (Some (layout.Returned u)) = Few u
FaultOk (Some (layout.NoReplica r s)) = Near r × Near s
FaultOk (Some (layout.NotAcked u)) = Few u

-- ranges that have few stripes
abbrev pub AreSmall : List Range → Type 0
AreSmall [] = Unit {0}
AreSmall (r ∷ rs) = (length r.stripes ≤ 8) × AreSmall rs

-- a layout with few ranges and stripes
abbrev pub SmallLayout : Layout → Type 0
SmallLayout p = (length p.ranges ≤ 32) × AreSmall p.ranges

one_or : (a b : Option ProjFault) → FaultOk a → FaultOk b → FaultOk (refusals.first_some a b)
one_or None b x y = y
one_or (Some f) b x y = x

join_ok : (p : Layout) (drop : List ℕ) (j : Option Join) → JoinOk j → FaultOk (join_refusal p drop j)
join_ok p drop None k = tt
join_ok p drop (Some j) k = by (is_not_closed p j) (has_no_stripe p j) (stands_there p j) (is_full p drop j)
  where
    by : (a b c d : Bool) → FaultOk (cond a (Some (layout.NotClosed j.range)) (cond b (Some (layout.NoStripe j.range j.stripe)) (cond c (Some (layout.InChain j.unit)) (cond d (Some (layout.TooMany Rattle.tg_base.specs.declared.fault.Many.TheVariants.Units)) None))))
    by true b c d = k.1
    by false true c d = (k.1, k.2)
    by false false true d = k.0
    by false false false true = tt
    by false false false false = tt

spare_ok : (p : Layout) (j : Join) → JoinOk (Some j) → FaultOk (spare_refusal p j)
spare_ok p j k = by (is_not_closed p j) (has_no_stripe p j) (stands_there p j) (has p.gone j.unit)
  where
    by : (a b c d : Bool) → FaultOk (cond a (Some (layout.NotClosed j.range)) (cond b (Some (layout.NoStripe j.range j.stripe)) (cond c (Some (layout.InChain j.unit)) (cond d (Some (layout.Returned j.unit)) None))))
    by true b c d = k.1
    by false true c d = (k.1, k.2)
    by false false true d = k.0
    by false false false true = k.0
    by false false false false = tt

found_few : (f : ℕ → Bool) (us : List ℕ) → AreFew us → FaultOk (option_map (λ u. layout.Returned u) (find f us))
found_few f [] k = tt
found_few f (u ∷ us) k = by (f u) (found_few f us (λ x i. k x (inr i)))
  where
    by : (b : Bool) → FaultOk (option_map (λ u. layout.Returned u) (find f us)) → FaultOk (option_map (λ u. layout.Returned u) (cond b (Some u) (find f us)))
    by true rest = k u (inl refl)
    by false rest = rest

place_ok : (f : List ℕ → Bool) (n i : ℕ) (xs : List (List ℕ)) → Near n → i + length xs < 2 ^ 64 → FaultOk (option_map (λ k. layout.NoReplica n k) (position_from f i xs))
place_ok f n i [] a b = tt
place_ok f n i (x ∷ xs) a b = by (f x) (place_ok f n (i + 1) xs a (omega (arith, b)))
  where
    by : (t : Bool) → FaultOk (option_map (λ k. layout.NoReplica n k) (position_from f (i + 1) xs)) → FaultOk (option_map (λ k. layout.NoReplica n k) (cond t (Some i) (position_from f (i + 1) xs)))
    by true rest = (a, omega (arith, b))
    by false rest = rest

lost_ok : (drop : List ℕ) (n : ℕ) (rs : List Range) → n + length rs < 2 ^ 63 → AreSmall rs → FaultOk (lost_refusal drop n rs)
lost_ok drop n [] a k = tt
lost_ok drop n (r ∷ rs) a k = let l = k.0 in one_or _ _ (place_ok (is_lost drop) n 0 r.stripes (omega (arith, a)) (omega (arith, l))) (lost_ok drop (n + 1) rs (omega (arith, a)) k.1)

change_ok : (p : Layout) (c : Changed) → SmallLayout p → JoinOk c.join → AreFew (coming c) → FaultOk (change_fault p c)
unfolding change_fault
change_ok p c s j k = one_or _ _ (opens (opens_too_many p c)) (one_or _ _ (join_ok p c.drop c.join j) (one_or _ _ (found_few (is_out p c) (coming c) k) (lost_ok c.drop 0 p.ranges (let l = s.0 in omega (arith, l)) s.1)))
  where
    opens : (b : Bool) → FaultOk (on_test b (layout.TooMany Rattle.tg_base.specs.declared.fault.Many.TheVariants.Ranges))
    opens true = tt
    opens false = tt

module _ (m : Meaning) (Named : Oid → Type 0) (OpOk : m.op → Type 0) (AskOk : m.ask → Type 0) where
  abbrev pub OptOk : Option Refusal → Type 0
  OptOk None = Unit {0}
  OptOk (Some why) = WhyOk m Named OpOk AskOk why

  abbrev EachOk : List (Option Refusal) → Type 0
  EachOk [] = Unit {0}
  EachOk (o ∷ os) = OptOk o × EachOk os

  first_ok : (os : List (Option Refusal)) → EachOk os → OptOk (first_some os)
  first_ok [] k = tt
  first_ok (None ∷ os) k = first_ok os k.1
  first_ok (Some w ∷ os) k = k.0

  true_ok : (b : Bool) (why : Refusal) → WhyOk m Named OpOk AskOk why → OptOk (where_true b why)
  true_ok true why k = k
  true_ok false why k = tt

  layout_ok : (o : Option ProjFault) → FaultOk o → OptOk (by_layout m o)
  layout_ok None k = tt
  layout_ok (Some (layout.TooMany x)) k = tt
  layout_ok (Some (layout.NotClosed r)) k = k
  layout_ok (Some (layout.NoStripe r s)) k = k
  layout_ok (Some (layout.InChain u)) k = k
  layout_ok (Some (layout.Returned u)) k = k
  layout_ok (Some (layout.NoReplica r s)) k = k
  layout_ok (Some (layout.NotAcked u)) k = k

  tx_ok : (o : Option TxFault) → OptOk (by_tx m o)
  tx_ok None = tt
  tx_ok (Some (tx.TooMany x)) = tt
  tx_ok (Some (tx.TooLarge n)) = tt

  busy_ok : (w : Option (Work m)) → OptOk (busy m w)
  busy_ok None = tt
  busy_ok (Some w) = tt

  put_ok : (t : Option Tx) (w : Rattle.tg_entry.specs.declared.entry.WriteOp.WriteOp) → OptOk (put_fault m t w)
  put_ok None w = tt
  put_ok (Some t) w = tx_ok _

  ask_ok : (t : Option Tx) (o : Oid) (k : Rattle.tg_base.specs.declared.marks.Part.Part) → OptOk (ask_fault m t o k)
  ask_ok None o k = tt
  ask_ok (Some t) o k = tx_ok _

  pub copying_ok : (p : Layout) (u r s : ℕ) → Few u → Near r → Near s → OptOk (copy_fault m p u r s)
  unfolding copy_fault
  copying_ok p u r s a b c = layout_ok _ (spare_ok p (record { unit = u; range = r; stripe = s }) (a, b, c))

  each_ok : (c : Client m) (x : CommandOf m) → CommandOk m Named OpOk AskOk x → SmallLayout c.stand → EachOk (tests m c x)
  unfolding tests
  each_ok c (cmd.Host o) k s = (true_ok _ _ tt, (true_ok _ _ k, (true_ok _ _ tt, tt)))
  each_ok c cmd.Begin k s = (true_ok _ _ tt, tt)
  each_ok c (cmd.Put o op) k s = (true_ok _ _ tt, (true_ok _ _ k.0, (true_ok _ _ k.0, (put_ok c.tx _, tt))))
  each_ok c (cmd.Ask o q) k s = (true_ok _ _ tt, (true_ok _ _ k.0, (true_ok _ _ k.0, (ask_ok c.tx o _, tt))))
  each_ok c cmd.End k s = (true_ok _ _ tt, tt)
  each_ok c cmd.Drop k s = (true_ok _ _ tt, tt)
  each_ok c (cmd.Fate p) k s = (true_ok _ _ tt, tt)
  each_ok c (cmd.Decide p) k s = (true_ok _ _ tt, tt)
  each_ok c (cmd.Checkpoint o) k s = (true_ok _ _ tt, (true_ok _ _ k, tt))
  each_ok c (cmd.Forget o n) k s = (true_ok _ _ tt, (true_ok _ _ k.0, tt))
  each_ok c cmd.Trim k s = (true_ok _ _ tt, tt)
  each_ok c (cmd.Reconf x) k s = (true_ok _ _ tt, (layout_ok _ (change_ok c.stand x s k.0 k.1), tt))
  each_ok c (cmd.Copy u r t) k s = (true_ok _ _ tt, (copying_ok c.stand u r t k.0 k.1 k.2, tt))
  each_ok c (cmd.AskAt p o q) k s = (true_ok _ _ tt, (true_ok _ _ k.1, (true_ok _ _ k.1, tt)))
  each_ok c (cmd.Rescue p) k s = (true_ok _ _ tt, tt)

  pub refusal_ok : (c : Client m) (x : CommandOf m) → CommandOk m Named OpOk AskOk x → SmallLayout c.stand → OptOk (refusal m c x)
  unfolding refusal
  refusal_ok c x k s = first_ok (busy m c.work ∷ tests m c x) (busy_ok c.work, each_ok c x k s)

-- The ask of a command that isn't refused is one of its object's.

none_second : {X : Type 0} → (a b : Option X) (os : List (Option X)) → first_some (a ∷ b ∷ os) ≡ None → b ≡ None
none_second None None os e = refl
none_second None (Some x) os e = absurd cc
none_second (Some x) b os e = absurd cc

none_rest : {X : Type 0} → (a : Option X) (os : List (Option X)) → first_some (a ∷ os) ≡ None → first_some os ≡ None
none_rest None os e = e
none_rest (Some x) os e = absurd cc

not_wrong : (m : Meaning) (b : Bool) (o : Oid) → wrong_kind m b o ≡ None → b ≡ true
not_wrong m true o e = refl
not_wrong m false o e = absurd cc

-- what is tested second, after the client's work
third_none : (m : Meaning) (c : Client m) (a b : Option Refusal) (os : List (Option Refusal)) → first_some (busy m c.work ∷ a ∷ b ∷ os) ≡ None → b ≡ None
third_none m c a b os e = none_second a b os (none_rest (busy m c.work) (a ∷ b ∷ os) e)

pub allowed_of : (m : Meaning) (Named : Oid → Type 0) (OpOk : m.op → Type 0) (AskOk : m.ask → Type 0) (c : Client m) (x : CommandOf m) → refusal m c x ≡ None → AllowedOk m Named OpOk AskOk x
unfolding refusal tests
allowed_of m Named OpOk AskOk c (cmd.Ask o q) e = not_wrong m _ o (third_none m c (no_tx m c) (wrong_kind m (m.allows_ask o q) o) (not_hosted m c o ∷ ask_fault m c.tx o (m.look q) ∷ []) e)
allowed_of m Named OpOk AskOk c (cmd.AskAt p o q) e = not_wrong m _ o (third_none m c (tx_open m c) (wrong_kind m (m.allows_ask o q) o) (not_hosted m c o ∷ []) e)
allowed_of m Named OpOk AskOk c x e = tt
