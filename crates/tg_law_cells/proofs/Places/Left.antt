-- A layout is decided once units of each chain of the one before it have left that one's epoch; and what follows from it.
use Rattle.std.proofs.Common.{◌≡◌, ◌⊎◌, ℕ, zero, suc, ◌+◌, ◌-◌, ◌<◌, ◌≤◌, [], ◌∷◌, ◌++◌, sym, ap, ◌∙◌, subst, inl, inr, arith}
use Rattle.tg_base.specs.Layouts.{Layout}
use Rattle.tg_base.specs.Clusters.{Header, IsHeader}
use Rattle.tg_kind.specs.Meaning.{Meaning}
use Rattle.tg_protocol.specs.Layouts.{first_layout, chain_of}
use Rattle.tg_protocol.specs.Units.{UnitState, new_unit}
use Rattle.tg_protocol.specs.Worlds.{World, start}
use Rattle.tg_protocol.specs.Runs.{Moves, Next as Next', Takes, LawfulCommand, Always, run}
use Rattle.tg_law_layouts.specs.Moves.After.{after}
use Rattle.tg_law_layouts.specs.Moves.Configs.{config, unit_in}
use Rattle.tg_law_layouts.proofs.Moves.Always.{always_lawful, lawful_give}
use Rattle.tg_law_layouts.proofs.Moves.Lists.{contained, at_replicate}
use Rattle.tg_law_layouts.proofs.Moves.Members.{Has, has_contained}
use Rattle.tg_law_layouts.proofs.Moves.Moves.{AllGive}
use Rattle.tg_law_layouts.proofs.Moves.Scripts.{run_both}
use Rattle.tg_law_layouts.proofs.Requests.Starts.{all_hold, start_all, tells_of, known as base}
use Rattle.tg_law_layouts.proofs.Requests.Told.{seal_holds}
use Rattle.tg_law_layouts.proofs.Layouts.Standing.{known_grows}
use Rattle.tg_law_layouts.proofs.Layouts.Layouts.{more}
use Rattle.tg_law_layouts.proofs.Layouts.Deciding.{K, Made, known, first_or}
use Rattle.tg_law_cells.specs.Cells.Chains.{ToldUpTo}
use Rattle.tg_law_cells.proofs.Cells.Befores.{at_has}
use Rattle.tg_law_cells.proofs.Cells.Settles.{Next, After, apart, Line as Facts}
use Rattle.tg_law_cells.proofs.Cells.Settling.{facts, told_here}
use Rattle.tg_law_cells.proofs.Cells.Stores.{told_of}
use Rattle.tg_law_cells.proofs.Cells.Successors.{words}
use Rattle.tg_law_cells.specs.Order.Tails.{EachPassed}
use Rattle.tg_law_cells.specs.Places.Left.{LeftRefuse, LeftTold, ChainsStand, ChainsLeft, EarlySettledTold, ServedLate}
use Rattle.tg_law_cells.proofs.Places.Units.{Since, Serves, since}

-- From a run and a part of it to the worlds.

module _ (m : Meaning) where
  first_give : (xs ys : Moves m) → AllGive m (LawfulCommand m) (xs ++ ys) → AllGive m (LawfulCommand m) xs
  first_give [] ys g = tt
  first_give (Next' ∷ xs) ys g = first_give xs ys g
  first_give (Takes e ∷ xs) ys g = (g.0, first_give xs ys g.1)

  abbrev pub Lawfully : (World m → World m → Type 0) → Type 0
  Lawfully P = (h : Header) (xs ys : Moves m) → IsHeader h → AllGive m (LawfulCommand m) xs → AllGive m (LawfulCommand m) (xs ++ ys) → P (after m h xs) (after m h (xs ++ ys))

  pub passed_lawful : (P : World m → World m → Type 0) → Lawfully P → EachPassed m P
  passed_lawful P f h ms u v r x =
      subst (λ (y : World m). P y v) (sym x.is) (subst (λ (y : World m). P (after m h x.before) y) (sym is) (f h x.before x.after r.header (first_give x.before x.after give) give))
    where
      is : v ≡ after m h (x.before ++ x.after)
      is = r.goes.is ∙ ap (λ (zs : Moves m). run m zs (start m h)) x.split

      give : AllGive m (LawfulCommand m) (x.before ++ x.after)
      give = subst (λ (zs : Moves m). AllGive m (LawfulCommand m) zs) x.split (lawful_give m (start m h).cluster ms r.goes.lawful)

-- Of one world.

module _ (m : Meaning) (h : Header) (xs : Moves m) (header : IsHeader h) (give : AllGive m (LawfulCommand m) xs) where
  pub line : Facts words (K m h xs) (after m h xs).packets
  line = facts m h xs header give (told_here m h xs header give)

  abbrev pub epoch_of : ℕ → ℕ
  epoch_of n = (unit_in m (config m (after m h xs)) n).epoch

  start_one : (n : ℕ) → 1 ≤ (unit_in m (config m (start m h)) n).epoch
  unfolding start new_unit
  start_one n = at_replicate h.units new_unit n new_unit (λ (t : UnitState). 1 ≤ t.epoch) (omega arith) (omega arith)

  -- units of a layout stand in its epoch, or later
  pub stands_at : (q : Layout) → K m h xs q → (n : ℕ) → words.Stands q n → q.epoch ≤ epoch_of n
  stands_at q k n st = by (first_or m h xs header give q k)
    where
      by : (q ≡ first_layout h) ⊎ Made m h xs q → q.epoch ≤ epoch_of n
      by (inl e) =
          let a = ap (λ (x : Layout). x.epoch) e in
          let b = start_one n in
          let c = (since m (start m h) (start_all m h) xs).up n in
          omega (arith, a, b, c)
      by (inr s) = let a = s.good.acked n st in seal_holds m (config m (after m h xs)) n q.epoch a.high (base m h xs) a.sealed

  stand_here : ChainsStand m (after m h xs)
  stand_here q pos n d g = let k = (known m h xs q.epoch q d).0 in stands_at q k n (line.stands q pos n k (has_contained _ n g))

  before : (q : Layout) → K m h xs q → 1 < q.epoch → After words (K m h xs) q
  before q k less = by (line.after q k)
    where
      by : (q.epoch ≡ 1) ⊎ After words (K m h xs) q → After words (K m h xs) q
      by (inl i) = absurd (omega (arith, i, less))
      by (inr a) = a

  -- back from a decided layout to an earlier epoch's
  back_to : (n e : ℕ) (q : Layout) → K m h xs q → 0 < e → q.epoch ≡ e + n → (p : Layout) × K m h xs p × (p.epoch ≡ e)
  back_to zero e q k some is = (q, k, omega (arith, is))
  back_to (suc n) e q k some is = let a = before q k (omega (arith, some, is)) in let f = a.next.epoch in back_to n e a.old a.decided some (omega (arith, is, f))

  pub of_epoch : (e : ℕ) (q : Layout) → K m h xs q → 0 < e → e ≤ q.epoch → (p : Layout) × K m h xs p × (p.epoch ≡ e)
  of_epoch e q k some le = back_to (q.epoch - e) e q k some (apart words (K m h xs) (after m h xs).packets line e q.epoch le)

  -- the layout that follows one
  pub record Follower (p : Layout) (last : ℕ) : Type 0 where
    pub layout : Layout
    pub decided : K m h xs layout
    pub next : Next words p layout
    pub up_to : layout.epoch ≤ last

  pub follower : (p q : Layout) → K m h xs p → K m h xs q → p.epoch < q.epoch → Follower p q.epoch
  follower p q kp kq less = record {
    layout = r.0;
    decided = r.1;
    next = subst (λ (y : Layout). Next words y r.0) same a.next;
    up_to = let e = r.2 in omega (arith, e, less);
  }
    where
      r : (y : Layout) × K m h xs y × (y.epoch ≡ p.epoch + 1)
      r = of_epoch (p.epoch + 1) q kq (omega arith) (omega (arith, less))

      a : After words (K m h xs) r.0
      a = before r.0 r.1 (let e = r.2 in let f = line.first p kp in omega (arith, e, f))

      same : a.old ≡ p
      same = line.once a.old p a.decided kp (let e = r.2 in let f = a.next.epoch in omega (arith, e, f))

  -- a unit of its chain stands there
  pub record Survivor (p : Layout) (pos : ℕ) : Type 0 where
    pub by : ℕ
    pub here : Has (chain_of p pos) by
    pub left : p.epoch < epoch_of by

  pub survivor : (p q : Layout) (pos : ℕ) → K m h xs p → K m h xs q → p.epoch < q.epoch → Survivor p pos
  survivor p q pos kp kq less = record {
    by = x.0;
    here = x.1;
    left = let a = stands_at f.layout f.decided x.0 x.2 in let e = f.next.epoch in omega (arith, a, e);
  }
    where
      f : Follower p q.epoch
      f = follower p q kp kq less

      x : (n : ℕ) × Has (chain_of p pos) n × words.Stands f.layout n
      x = f.next.left pos

  left_here : ChainsLeft m (after m h xs)
  left_here p q pos dp dq less =
      let s = survivor p q pos (known m h xs p.epoch p dp).0 (known m h xs q.epoch q dq).0 less in
      record { by = s.by; here = contained _ s.by s.here; left = s.left }

-- Of a world and a later one.

module _ (m : Meaning) (h : Header) (xs ys : Moves m) (header : IsHeader h) (first : AllGive m (LawfulCommand m) xs) (give : AllGive m (LawfulCommand m) (xs ++ ys)) where
  pub since_here : Since m (config m (after m h xs)) (config m (after m h (xs ++ ys)))
  since_here = subst (λ (y : World m). Since m (config m (after m h xs)) (config m y)) (sym (run_both m xs ys (start m h))) (since m (after m h xs) (all_hold m h xs) ys)

  pub up_known : (q : Layout) → K m h xs q → K m h (xs ++ ys) q
  up_known q k = known_grows h.layouts (first_layout h) (after m h xs).packets (after m h (xs ++ ys)).packets (more m h xs ys) q k

  -- a layout of an epoch up to that of one that was decided was decided too
  pub was_known : (p q : Layout) → K m h (xs ++ ys) p → K m h xs q → p.epoch ≤ q.epoch → K m h xs p
  was_known p q kp kq le =
      let r = of_epoch m h xs header first p.epoch q kq ((line m h (xs ++ ys) header give).first p kp) le in
      subst (λ (y : Layout). K m h xs y) ((line m h (xs ++ ys) header give).once r.0 p (up_known r.0 r.1) kp r.2) r.1

  told_left : LeftTold m (after m h xs) (after m h (xs ++ ys))
  told_left n k t less = told_of _ n k (since_here.told n k (tells_of _ n k t) less)

  refuse_left : LeftRefuse m (after m h xs) (after m h (xs ++ ys))
  refuse_left n epoch s = by (since_here.served n epoch s.served.answer (has_contained _ s.served.answer s.served.answered) serves)
    where
      serves : Serves (after m h (xs ++ ys)).packets n epoch s.served.answer
      serves = record {
        ask = s.served.ask;
        asked = has_contained _ s.served.ask s.served.asked;
        to_unit = s.served.to_unit;
        from_unit = s.served.from_unit;
        back = s.served.back;
        number = s.served.number;
        request = s.served.request;
        of = s.served.of;
        kept = s.served.kept;
      }

      by : Has (after m h xs).packets s.served.answer ⊎ (epoch_of m h xs header first n ≤ epoch) → epoch_of m h xs header first n ≤ epoch
      by (inl old) = absurd (s.since (contained _ s.served.answer old))
      by (inr le) = le

  settled_told : EarlySettledTold m (after m h xs) (after m h (xs ++ ys))
  settled_told pos c s q dq less = record {
    by = x.by;
    here = contained _ x.by x.here;
    told = record { claim = t.claim; told = told_left x.by t.claim t.told (let a = t.up_to in let b = x.left in omega (arith, a, b)); up_to = t.up_to; at = t.at; is = t.is };
  }
    where
      kq : K m h xs q
      kq = (known m h xs q.epoch q dq).0

      x : Survivor m h xs header first s.layout pos
      x = survivor m h xs header first s.layout q pos (was_known s.layout q (known m h (xs ++ ys) s.layout.epoch s.layout s.decided).0 kq (omega (arith, less))) kq less

      t : ToldUpTo (after m h (xs ++ ys)).packets x.by s.layout.epoch pos c
      t = let i = at_has (chain_of s.layout pos) x.by x.here in subst (λ (n : ℕ). ToldUpTo (after m h (xs ++ ys)).packets n s.layout.epoch pos c) i.1.is (s.told i.0 i.1.within)

  served_late : ServedLate m (after m h xs) (after m h (xs ++ ys))
  served_late p q pos dp served dq = by (le_or_more q.epoch p.epoch)
    where
      le_or_more : (a b : ℕ) → (a ≤ b) ⊎ (b < a)
      le_or_more a b = grind arith

      by : (q.epoch ≤ p.epoch) ⊎ (p.epoch < q.epoch) → q.epoch ≤ p.epoch
      by (inl le) = le
      by (inr less) =
          let kq = (known m h xs q.epoch q dq).0 in
          let x = survivor m h xs header first p q pos (was_known p q (known m h (xs ++ ys) p.epoch p dp).0 kq (omega (arith, less))) kq less in
          let a = refuse_left x.by p.epoch (served x.by (contained _ x.by x.here)) in
          let b = x.left in
          absurd (omega (arith, a, b))

module _ (m : Meaning) where
  pub left_refuse : EachPassed m (LeftRefuse m)
  left_refuse = passed_lawful m (LeftRefuse m) (λ h xs ys a b c. refuse_left m h xs ys a b c)

  pub left_told : EachPassed m (LeftTold m)
  left_told = passed_lawful m (LeftTold m) (λ h xs ys a b c. told_left m h xs ys a b c)

  pub chains_stand : Always m (ChainsStand m)
  chains_stand = always_lawful m (ChainsStand m) (λ h xs a b. stand_here m h xs a b)

  pub chains_are_left : Always m (ChainsLeft m)
  chains_are_left = always_lawful m (ChainsLeft m) (λ h xs a b. left_here m h xs a b)

  pub early_settled_told : EachPassed m (EarlySettledTold m)
  early_settled_told = passed_lawful m (EarlySettledTold m) (λ h xs ys a b c. settled_told m h xs ys a b c)

  pub served_chains_are_late : EachPassed m (ServedLate m)
  served_chains_are_late = passed_lawful m (ServedLate m) (λ h xs ys a b c. served_late m h xs ys a b c)
