-- The laws on homes.
use Rattle.std.proofs.Common.{◌≡◌, ◌⊎◌, ℕ, zero, suc, ◌+◌, ◌-◌, ◌<◌, ◌≤◌, List, ap, subst, inl, inr, arith}
use Rattle.tg_base.specs.Layouts.{Layout}
use Rattle.tg_base.specs.Clusters.{Header, IsHeader}
use Rattle.tg_base.specs.declared.cell.Cell.{Cell}
use Rattle.tg_base.specs.declared.cell.Cell.TheVariants.{Data}
use Rattle.tg_kind.specs.Meaning.{Meaning}
use Rattle.tg_protocol.specs.Chosen.{IsDecided}
use Rattle.tg_protocol.specs.Runs.{Moves, LawfulCommand, Always}
use Rattle.tg_law_layouts.specs.Moves.After.{after}
use Rattle.tg_law_layouts.specs.Moves.Configs.{config}
use Rattle.tg_law_layouts.proofs.Moves.Always.{always_lawful}
use Rattle.tg_law_layouts.proofs.Moves.Lists.{contained}
use Rattle.tg_law_layouts.proofs.Moves.Moves.{AllGive}
use Rattle.tg_law_layouts.proofs.Layouts.Deciding.{K, known, decided_for}
use Rattle.tg_law_layouts.proofs.Layouts.Layouts.{has_header}
use Rattle.tg_law_cells.specs.Cells.Settled.{IsSettled}
use Rattle.tg_law_cells.proofs.Cells.Settles.{Settled, After, settled_below, apart, Line as Facts}
use Rattle.tg_law_cells.proofs.Cells.Settling.{facts, roots, told_here, told_by}
use Rattle.tg_law_cells.proofs.Cells.Stores.{up_to}
use Rattle.tg_law_cells.proofs.Cells.Successors.{words}
use Rattle.tg_law_cells.specs.Homes.Homes.{SettledHome, SettledBelow, StartsRise, EpochsDecided}
use Rattle.tg_law_cells.proofs.Homes.Homing.{HomeAt, Homes, settled_home, homes_hold}

apart_more : (a b : ℕ) → a < b → b ≡ a + suc (b - a - 1)
apart_more a b less = grind arith

module _ (m : Meaning) (h : Header) (xs : Moves m) (header : IsHeader h) (give : AllGive m (LawfulCommand m) xs) where
  line : Facts words (K m h xs) (after m h xs).packets
  line = facts m h xs header give (told_here m h xs header give)

  homes : Homes m h words (after m h xs).packets line (roots m h xs header give (told_here m h xs header give)).tells (config m (after m h xs))
  homes = homes_hold m h words (after m h xs).packets line (roots m h xs header give (told_here m h xs header give)).tells h xs (record { cluster = has_header m h xs; sent = λ x g. g })

  abbrev inner : (p : ℕ) (c : Cell) → (s : IsSettled m (after m h xs) p c) → Settled words (K m h xs) (after m h xs).packets s.layout.epoch p c
  inner p c s = record { layout = s.layout; decided = (known m h xs s.layout.epoch s.layout s.decided).0; up_to = omega arith; told = λ k less. told_by _ _ _ _ c (s.told k less) }

  -- up to any epoch, however great
  home_up_to : (p : ℕ) (d : List ℕ) → (s : IsSettled m (after m h xs) p (Data d)) → (last : ℕ) → s.layout.epoch ≤ last → HomeAt words (K m h xs) (after m h xs).packets p d last
  home_up_to p d s last le = settled_home words (K m h xs) (after m h xs).packets line (roots m h xs header give (told_here m h xs header give)).tells homes.tells s.layout.epoch p d (inner p (Data d) s) last le

  home_here : SettledHome m (after m h xs)
  home_here p d s = record {
    epoch = a.epoch;
    up_to = a.up_to;
    write = a.write;
    sent = contained _ a.write a.sent;
    is = a.is;
    layout = a.layout;
    decided = decided_for m h xs header give a.layout a.decided;
    of = a.of;
    told = up_to (after m h xs).packets _ _ _ _ a.told;
    past = λ q dq more. by q ((known m h xs q.epoch q dq).0) more (le_or_more q.epoch s.layout.epoch);
  }
    where
      a : HomeAt words (K m h xs) (after m h xs).packets p d s.layout.epoch
      a = home_up_to p d s s.layout.epoch (omega arith)

      le_or_more : (e f : ℕ) → (e ≤ f) ⊎ (f < e)
      le_or_more e f = grind arith

      by : (q : Layout) → K m h xs q → a.epoch < q.epoch → (q.epoch ≤ s.layout.epoch) ⊎ (s.layout.epoch < q.epoch) → p < q.start
      by q k more (inl le) = a.past q k more le
      by q k more (inr less) = settled_below words (K m h xs) (after m h xs).packets line (q.epoch - s.layout.epoch - 1) s.layout q p (Data d) (known m h xs s.layout.epoch s.layout s.decided).0 k (apart_more s.layout.epoch q.epoch less) (inner p (Data d) s).told

  below_here : SettledBelow m (after m h xs)
  below_here p c s q dq less = settled_below words (K m h xs) (after m h xs).packets line (q.epoch - s.layout.epoch - 1) s.layout q p c (known m h xs s.layout.epoch s.layout s.decided).0 (known m h xs q.epoch q dq).0 (apart_more s.layout.epoch q.epoch less) (inner p c s).told

  before : (q : Layout) → K m h xs q → 1 < q.epoch → After words (K m h xs) q
  before q k less = by (line.after q k)
    where
      by : (q.epoch ≡ 1) ⊎ After words (K m h xs) q → After words (K m h xs) q
      by (inl i) = absurd (omega (arith, i, less))
      by (inr a) = a

  -- back from a decided layout to an earlier epoch's
  back_to : (n e : ℕ) (q : Layout) → K m h xs q → 0 < e → q.epoch ≡ e + n → (p : Layout) × K m h xs p × (p.epoch ≡ e)
  back_to zero e q k some is = (q, k, omega (arith, is))
  back_to (suc n) e q k some is = let a = before q k (omega (arith, some, is)) in let f = a.next.epoch in back_to n e a.old a.decided some (omega (arith, is, f))

  epochs_here : EpochsDecided m (after m h xs)
  epochs_here e q dq some le =
      let r = back_to (q.epoch - e) e q (known m h xs q.epoch q dq).0 some (apart words (K m h xs) (after m h xs).packets line e q.epoch le) in
      (r.0, subst (λ (n : ℕ). IsDecided m (after m h xs) n r.0) r.2 (decided_for m h xs header give r.0 r.1))

  rise_by : (n : ℕ) (p q : Layout) → K m h xs p → K m h xs q → q.epoch ≡ p.epoch + n → p.start ≤ q.start
  rise_by zero p q kp kq e = let i = ap (λ (x : Layout). x.start) (line.once p q kp kq (omega (arith, e))) in omega (arith, i)
  rise_by (suc n) p q kp kq e = let a = before q kq (let f = line.first p kp in omega (arith, e, f)) in let f = a.next.epoch in let i = rise_by n p a.old kp a.decided (omega (arith, e, f)) in let j = a.next.start in omega (arith, i, j)

  rise_here : StartsRise m (after m h xs)
  rise_here p q dp dq le = rise_by (q.epoch - p.epoch) p q (known m h xs p.epoch p dp).0 (known m h xs q.epoch q dq).0 (apart words (K m h xs) (after m h xs).packets line p.epoch q.epoch le)

module _ (m : Meaning) where
  pub settled_has_home : Always m (SettledHome m)
  settled_has_home = always_lawful m (SettledHome m) (λ h xs a b. home_here m h xs a b)

  pub settled_is_below : Always m (SettledBelow m)
  settled_is_below = always_lawful m (SettledBelow m) (λ h xs a b. below_here m h xs a b)

  pub epochs_are_decided : Always m (EpochsDecided m)
  epochs_are_decided = always_lawful m (EpochsDecided m) (λ h xs a b. epochs_here m h xs a b)

  pub starts_rise : Always m (StartsRise m)
  starts_rise = always_lawful m (StartsRise m) (λ h xs a b. rise_here m h xs a b)
