-- A settled cell stays: the laws, from how decided layouts follow each other.
use Rattle.std.proofs.Common.{◌≡◌, ◌⊎◌, ℕ, zero, suc, ◌^◌, ◌<◌, ◌≤◌, List, [], ◌∷◌, ◌++◌, length, true, false, ◌&&◌, refl, sym, ap, ◌∙◌, subst, inl, inr, arith, Some, None, Option}
use Rattle.std.specs.Prelude.{slice_index_or}
use Rattle.tg_base.specs.Layouts.{Layout}
use Rattle.tg_base.specs.Units.{has}
use Rattle.tg_base.specs.Clusters.{Header, IsHeader}
use Rattle.tg_base.specs.declared.cell.Cell.{Cell}
use Rattle.tg_base.specs.declared.cell.Cell.TheVariants.{Junk, Data}
use Rattle.tg_base.specs.declared.packet.Packet.{Packet}
use Rattle.tg_base.proofs.Rules.{layout_rules}
use Rattle.tg_proj.specs.Next.{next_ranges, opened_at}
use Rattle.tg_proj.specs.Refusals.{units_of}
use Rattle.tg_proj.specs.Follows.{Follows}
use Rattle.tg_proj.proofs.Following.{next_follows}
use Rattle.tg_kind.specs.Meaning.{Meaning}
use Rattle.tg_protocol.specs.Words.{plus_one, cell_at, cell_eq, bytes_eq, where_true, or_else}
use Rattle.tg_protocol.specs.Layouts.{first_layout, chain_of}
use Rattle.tg_protocol.specs.Units.{UnitState, new_unit}
use Rattle.tg_protocol.specs.Cells.{place_in, last_unit}
use Rattle.tg_protocol.specs.Logs.{chain_cell, if_all_hold, all_hold as each_holds, holds_it, unit_cells}
use Rattle.tg_protocol.specs.Runs.{Moves, LawfulCommand, Always, EachLater}
use Rattle.tg_law_layouts.specs.Moves.After.{after}
use Rattle.tg_law_layouts.specs.Moves.Configs.{config, unit_in}
use Rattle.tg_law_layouts.specs.Moves.Telling.{Claim}
use Rattle.tg_law_layouts.proofs.Moves.Members.{Has, has_contained}
use Rattle.tg_law_layouts.proofs.Moves.Lists.{contained}
use Rattle.tg_law_layouts.proofs.Moves.Moves.{AllGive}
use Rattle.tg_law_layouts.proofs.Moves.Always.{always_lawful, later_lawful}
use Rattle.tg_law_layouts.proofs.Requests.Told.{Tells, told_holds}
use Rattle.tg_law_layouts.proofs.Requests.Starts.{all_hold, known as base, tells_of}
use Rattle.tg_law_layouts.specs.Layouts.Decisions.{IsOfDecided}
use Rattle.tg_law_layouts.proofs.Layouts.Standing.{known_grows}
use Rattle.tg_law_layouts.proofs.Layouts.Layouts.{more, has_header}
use Rattle.tg_law_layouts.proofs.Layouts.Deciding.{K, Made, known, decided_for, first_or, rules, near, once}
use Rattle.tg_law_cells.specs.Cells.Chains.{ToldUpTo}
use Rattle.tg_law_cells.specs.Cells.Settled.{HadBefore, IsSettled, Joins, JoinsTold, JoinsWhole, SettledTold, SettledOnce, LastSettles, SettledKept, ChainKept, SettledHeld, SettledInLog}
use Rattle.tg_law_cells.proofs.Cells.Justified.{ToldBy}
use Rattle.tg_law_cells.proofs.Cells.Stores.{told_of, up_to}
use Rattle.tg_law_cells.proofs.Cells.Sent.{told_grows}
use Rattle.tg_law_cells.proofs.Cells.Settles.{Settled, Rooted, Got, Next, After, ToldBefore, last_settles, settled_stays, settled_once, settled_present, Line as Facts}
use Rattle.tg_law_cells.proofs.Cells.Roots.{Roots, roots_hold}
use Rattle.tg_law_cells.proofs.Cells.Joining.{Brought, joins_bring}
use Rattle.tg_law_cells.proofs.Cells.Successors.{words, next, none_gone, stands_there, single_there, some_there}

under : (p high start : ℕ) → plus_one p ≤ high → high ≤ start → start < 2 ^ 62 → p < start
under p high start a b c = grind arith

module _ (m : Meaning) (h : Header) (xs : Moves m) (header : IsHeader h) (give : AllGive m (LawfulCommand m) xs) where
  module _ (f : JoinsTold m (after m h xs)) where
    follows : (q : Layout) → (s : Made m h xs q) → Follows s.good.old s.good.change q
    follows q s = subst (λ (x : Layout). Follows s.good.old s.good.change x) (sym s.is) (next_follows s.good.old s.good.change q.by q.start (rules m h xs header give s.good.old s.good.known) s.may)

    ranges : (q : Layout) → (s : Made m h xs q) → q.ranges ≡ next_ranges s.good.change 0 s.good.old.ranges ++ opened_at s.good.change.opened q.start
    ranges q s = ap (λ (x : Layout). x.ranges) s.is

    made_after : (q : Layout) → K m h xs q → (q.epoch ≡ 1) ⊎ After words (K m h xs) q
    made_after q k = by (first_or m h xs header give q k)
      where
        by : (q ≡ first_layout h) ⊎ Made m h xs q → (q.epoch ≡ 1) ⊎ After words (K m h xs) q
        by (inl e) = inl (ap (λ (x : Layout). x.epoch) e)
        by (inr s) = inr (record { old = s.good.old; decided = s.good.known; next = next s.good.old s.good.change q (follows q s) (rules m h xs header give s.good.old s.good.known) (rules m h xs header give q k) (ranges q s) })

    -- No unit that stands is gone.

    first_out : (q : Layout) (u : ℕ) → q ≡ first_layout h → has q.gone u ≡ true → ⊥
    first_out q u e g = no (sym (ap (λ (x : Layout). has x.gone u) e) ∙ g)
      where
        no : false ≡ true → ⊥
        no i = cc

    out_by : (q : Layout) → K m h xs q → ((p : Layout) → K m h xs p → p.epoch < q.epoch → (u : ℕ) → has p.gone u ≡ true → Has (units_of p.ranges) u → ⊥) → (q ≡ first_layout h) ⊎ Made m h xs q → (u : ℕ) → has q.gone u ≡ true → Has (units_of q.ranges) u → ⊥
    out_by q k ih (inl e) u g s = first_out q u e g
    out_by q k ih (inr s) u g t = none_gone s.good.old s.good.change q (follows q s) (rules m h xs header give s.good.old s.good.known) (rules m h xs header give q k) (ranges q s) (ih s.good.old s.good.known (let e = s.epoch in omega (arith, e))) u g t

    out_at : (n : ℕ) (q : Layout) → K m h xs q → q.epoch ≤ n → (u : ℕ) → has q.gone u ≡ true → Has (units_of q.ranges) u → ⊥
    out_at zero q k le = out_by q k (λ p j less. absurd (omega (arith, less, le))) (first_or m h xs header give q k)
    out_at (suc n) q k le = out_by q k (λ p j less. out_at n p j (omega (arith, less, le))) (first_or m h xs header give q k)

    -- What was told before the seals lies below the start.

    sealed : (q : Layout) (u : ℕ) (k : Claim) → K m h xs q → 1 < q.epoch → Has (units_of q.ranges) u → Tells (after m h xs).packets u k → k.epoch < q.epoch → k.pos < q.start
    sealed q u k d late st t less = by (first_or m h xs header give q d)
      where
        by : (q ≡ first_layout h) ⊎ Made m h xs q → k.pos < q.start
        by (inl e) = let o = ap (λ (x : Layout). x.epoch) e in absurd (omega (arith, o, late))
        by (inr s) = let a = s.good.acked u st in under k.pos a.high q.start ((all_hold m h xs).1.sealed u q.epoch a.high k a.sealed t less) a.under (near m h xs header give q d)

    pub joins_of : (p q : Layout) (pos u : ℕ) → K m h xs p → K m h xs q → Next words p q → words.Joins p q pos u → pos < q.start → Joins m (after m h xs) p q pos u
    joins_of p q pos u a b n j less = record {
      before = decided_for m h xs header give p a;
      after = decided_for m h xs header give q b;
      next = n.epoch;
      here = contained _ u j.0;
      new = λ c. j.1 (has_contained _ u c);
      old = less;
    }

    pub before_of : (u e pos : ℕ) → HadBefore (after m h xs).packets u e pos → ToldBefore words (K m h xs) (after m h xs).packets u e pos
    before_of u e pos x = record { claim = x.claim; tells = tells_of _ u x.claim x.told; at = x.at; early = x.early }

    rooted : (p q : Layout) (pos u : ℕ) (k : Claim) → K m h xs p → K m h xs q → Next words p q → words.Joins p q pos u → pos < q.start → Tells (after m h xs).packets u k → k.pos ≡ pos → ToldBefore words (K m h xs) (after m h xs).packets u q.epoch pos
    rooted p q pos u k a b n j less t at = before_of u q.epoch pos (f p q pos u k (joins_of p q pos u a b n j less) (told_of _ u k t) at)

    pub facts : Facts words (K m h xs) (after m h xs).packets
    facts = record {
      once = once m h xs header give;
      after = made_after;
      first = λ q k. (layout_rules q (rules m h xs header give q k)).epoch;
      out = λ q u k g s. out_at q.epoch q k (omega arith) u g s;
      stands = λ q pos u k g. stands_there q pos u (rules m h xs header give q k) g;
      single = λ q pos u k b. single_there q pos u (rules m h xs header give q k) b;
      some = λ q pos k. some_there q pos (rules m h xs header give q k);
      sealed = sealed;
      one = λ u k l s t e. (all_hold m h xs).1.once u k l s t e;
      rooted = rooted;
    }

    pub roots : Roots m h words (after m h xs).packets facts (config m (after m h xs))
    roots = roots_hold m h words (after m h xs).packets facts h xs (record { cluster = has_header m h xs; sent = λ x g. g })

-- From the words of the laws to those of the argument.

pub told_by : (ps : List Packet) (u e p : ℕ) (c : Cell) → ToldUpTo ps u e p c → ToldBy ps u e p c
told_by ps u e p c t = record { claim = t.claim; tells = tells_of ps u t.claim t.told; epoch = t.up_to; pos = t.at; cell = t.is }

-- the head has what the whole chain has
head_has : (us : List UnitState) (pos : ℕ) (units : List ℕ) (x : Cell) → chain_cell us pos units ≡ Some x → (u : ℕ) × Has units u × (cell_at (slice_index_or us u new_unit).cells pos ≡ Some x)
head_has us pos [] x e = absurd (cc)
head_has us pos (u ∷ rest) x e = (u, inl refl, by _ refl e)
  where
    by : (o : Option Cell) → cell_at (slice_index_or us u new_unit).cells pos ≡ o → if_all_hold us pos rest o ≡ Some x → cell_at (slice_index_or us u new_unit).cells pos ≡ Some x
    by None i e = absurd (cc)
    by (Some c) i e = i ∙ ap (λ (y : Cell). Some y) (where_is _ c x e)
      where
        where_is : (b : _) (c x : Cell) → where_true b c ≡ Some x → c ≡ x
        where_is true c x e = cc
        where_is false c x e = absurd (cc)

-- a chain whose units all have a cell holds it

bytes_more : (x : ℕ) (xs : List ℕ) → bytes_eq xs xs ≡ true → bytes_eq (x ∷ xs) (x ∷ xs) ≡ true
unfolding bytes_eq
bytes_more x xs h = grind arith

bytes_self : (xs : List ℕ) → bytes_eq xs xs ≡ true
unfolding bytes_eq
bytes_self [] = refl
bytes_self (x ∷ xs) = bytes_more x xs (bytes_self xs)

pub cell_self : (c : Cell) → cell_eq c c ≡ true
unfolding cell_eq
cell_self Junk = refl
cell_self (Data d) = bytes_self d

holds_more : (us : List UnitState) (pos u : ℕ) (rest : List ℕ) (c : Cell) → cell_at (unit_cells us u) pos ≡ Some c → each_holds us pos c rest ≡ true → each_holds us pos c (u ∷ rest) ≡ true
holds_more us pos u rest c e h = ap (λ o. holds_it o c && each_holds us pos c rest) e ∙ (ap (λ b. b && each_holds us pos c rest) (cell_self c) ∙ h)

holding : (us : List UnitState) (pos : ℕ) (units : List ℕ) (c : Cell) → ((u : ℕ) → Has units u → cell_at (unit_cells us u) pos ≡ Some c) → each_holds us pos c units ≡ true
holding us pos [] c f = refl
holding us pos (u ∷ rest) c f = holds_more us pos u rest c (f u (inl refl)) (holding us pos rest c (λ v i. f v (inr i)))

whole_chain : (us : List UnitState) (pos : ℕ) (units : List ℕ) (c : Cell) → 0 < length units → ((u : ℕ) → Has units u → cell_at (unit_cells us u) pos ≡ Some c) → chain_cell us pos units ≡ Some c
whole_chain us pos [] c some f = absurd (omega (arith, some))
whole_chain us pos (u ∷ rest) c some f = ap (λ o. if_all_hold us pos rest o) (f u (inl refl)) ∙ ap (λ b. where_true b c) (holding us pos rest c (λ v i. f v (inr i)))

-- The laws.

module _ (m : Meaning) (h : Header) (xs ys : Moves m) (header : IsHeader h) (give : AllGive m (LawfulCommand m) (xs ++ ys)) where
  -- a settled cell of a world is one of each later world
  abbrev settled : (pos : ℕ) (c : Cell) → (s : IsSettled m (after m h xs) pos c) → Settled words (K m h (xs ++ ys)) (after m h (xs ++ ys)).packets s.layout.epoch pos c
  settled pos c s = record {
    layout = s.layout;
    decided = known_grows h.layouts (first_layout h) (after m h xs).packets (after m h (xs ++ ys)).packets (more m h xs ys) s.layout (known m h xs s.layout.epoch s.layout s.decided).0;
    up_to = omega arith;
    told = λ k less. told_grows (after m h xs).packets (after m h (xs ++ ys)).packets (more m h xs ys) _ _ _ c (told_by _ _ _ _ c (s.told k less));
  }

  abbrev settled_here : (pos : ℕ) (c : Cell) → (s : IsSettled m (after m h (xs ++ ys)) pos c) → Settled words (K m h (xs ++ ys)) (after m h (xs ++ ys)).packets s.layout.epoch pos c
  settled_here pos c s = record { layout = s.layout; decided = (known m h (xs ++ ys) s.layout.epoch s.layout s.decided).0; up_to = omega arith; told = λ k less. told_by _ _ _ _ c (s.told k less) }

  here : (q : Layout) → IsOfDecided m (after m h (xs ++ ys)) q → K m h (xs ++ ys) q
  here q d = (known m h (xs ++ ys) q.epoch q d).0

  told_law : JoinsTold m (after m h (xs ++ ys)) → SettledTold m (after m h xs) (after m h (xs ++ ys))
  told_law f pos c s q u k t told at =
      settled_stays words (K m h (xs ++ ys)) _ (facts m h (xs ++ ys) header give f) (roots m h (xs ++ ys) header give f).tells pos c s.layout.epoch (settled pos c s) q (here q t.decided) t.later u k (has_contained _ u t.here) (tells_of _ u k told) at

  once_law : JoinsTold m (after m h (xs ++ ys)) → SettledOnce m (after m h xs) (after m h (xs ++ ys))
  once_law f pos c d s t =
      settled_once words (K m h (xs ++ ys)) _ (facts m h (xs ++ ys) header give f) (roots m h (xs ++ ys) header give f).tells pos d c t.layout.epoch s.layout.epoch (settled_here pos d t) (settled pos c s)

  kept_law : JoinsTold m (after m h (xs ++ ys)) → SettledKept m (after m h xs) (after m h (xs ++ ys))
  kept_law f pos c x s q u t at = by _ (r.cells u pos x at)
    where
      r : Roots m h words (after m h (xs ++ ys)).packets (facts m h (xs ++ ys) header give f) (config m (after m h (xs ++ ys)))
      r = roots m h (xs ++ ys) header give f

      by : (n : ℕ) → Rooted words (K m h (xs ++ ys)) (after m h (xs ++ ys)).packets u n pos x → x ≡ c
      by n o = how o.how
        where
          how : Got words (K m h (xs ++ ys)) (after m h (xs ++ ys)).packets u pos x o.layout ⊎ Settled words (K m h (xs ++ ys)) (after m h (xs ++ ys)).packets o.layout.epoch pos x → x ≡ c
          how (inl g) = sym g.own.cell ∙ settled_stays words (K m h (xs ++ ys)) _ (facts m h (xs ++ ys) header give f) r.tells pos c s.layout.epoch (settled pos c s) q (here q t.decided) t.later u g.own.claim (has_contained _ u t.here) g.own.tells g.own.pos
          how (inr y) = settled_once words (K m h (xs ++ ys)) _ (facts m h (xs ++ ys) header give f) r.tells pos c x s.layout.epoch o.layout.epoch (settled pos c s) y

  chain_law : JoinsTold m (after m h (xs ++ ys)) → ChainKept m (after m h xs) (after m h (xs ++ ys))
  chain_law f pos c x s q d le at =
      let a = head_has (after m h (xs ++ ys)).units pos (chain_of q pos) x at in
      kept_law f pos c x s q a.0 (record { decided = d; later = le; here = contained _ a.0 a.1 }) a.2

  abbrev Low : ℕ → ℕ → Type 0
  Low u p = p < (unit_in m (config m (after m h (xs ++ ys))) u).low

  held_law : JoinsTold m (after m h (xs ++ ys)) → JoinsWhole m (after m h (xs ++ ys)) → SettledHeld m (after m h xs) (after m h (xs ++ ys))
  held_law f w pos c s q u t = by (settled_present words (K m h (xs ++ ys)) _ (facts m h (xs ++ ys) header give f) Low whole (roots m h (xs ++ ys) header give f).tells pos c s.layout.epoch (settled pos c s) q (here q t.decided) t.later u (has_contained _ u t.here))
    where
      whole : (p q : Layout) (p' v : ℕ) → K m h (xs ++ ys) p → K m h (xs ++ ys) q → Next words p q → words.Joins p q p' v → p' < q.start → ToldBefore words (K m h (xs ++ ys)) (after m h (xs ++ ys)).packets v q.epoch p' ⊎ Low v p'
      whole p q p' x a b n j less = had (w p q p' x (joins_of m h (xs ++ ys) header give f p q p' x a b n j less))
        where
          had : HadBefore (after m h (xs ++ ys)).packets x q.epoch p' ⊎ Low x p' → ToldBefore words (K m h (xs ++ ys)) (after m h (xs ++ ys)).packets x q.epoch p' ⊎ Low x p'
          had (inl y) = inl (before_of m h (xs ++ ys) header give f x q.epoch p' y)
          had (inr y) = inr y

      by : ToldBy (after m h (xs ++ ys)).packets u q.epoch pos c ⊎ Low u pos → (cell_at (unit_in m (config m (after m h (xs ++ ys))) u).cells pos ≡ Some c) ⊎ Low u pos
      by (inl t) = subst (λ (y : Cell). (cell_at (unit_in m (config m (after m h (xs ++ ys))) u).cells pos ≡ Some y) ⊎ Low u pos) t.cell
          (subst (λ (p : ℕ). (cell_at (unit_in m (config m (after m h (xs ++ ys))) u).cells p ≡ Some t.claim.cell) ⊎ Low u p) t.pos
          (told_holds m (config m (after m h (xs ++ ys))) u t.claim (base m h (xs ++ ys)) t.tells).cell)
      by (inr t) = inr t

  in_log_law : JoinsTold m (after m h (xs ++ ys)) → JoinsWhole m (after m h (xs ++ ys)) → SettledInLog m (after m h xs) (after m h (xs ++ ys))
  in_log_law f w pos c s q d le kept = ap (λ o. or_else o (cell_at (after m h (xs ++ ys)).archive pos)) (whole_chain (after m h (xs ++ ys)).units pos (chain_of q pos) c (some_there q pos (rules m h (xs ++ ys) header give q (here q d))) each)
    where
      each : (u : ℕ) → Has (chain_of q pos) u → cell_at (unit_in m (config m (after m h (xs ++ ys))) u).cells pos ≡ Some c
      each u g = by (held_law f w pos c s q u (record { decided = d; later = le; here = contained _ u g }))
        where
          by : (cell_at (unit_in m (config m (after m h (xs ++ ys))) u).cells pos ≡ Some c) ⊎ Low u pos → cell_at (unit_in m (config m (after m h (xs ++ ys))) u).cells pos ≡ Some c
          by (inl x) = x
          by (inr x) = let k = kept u (contained _ u g) in absurd (omega (arith, x, k))

last_law : (m : Meaning) (h : Header) (xs : Moves m) → IsHeader h → AllGive m (LawfulCommand m) xs → JoinsTold m (after m h xs) → LastSettles m (after m h xs)
last_law m h xs header give f q pos c d t =
    let b = told_by _ (last_unit (place_in q pos)) q.epoch pos c t in
    let r = (roots m h xs header give f).tells (last_unit (place_in q pos)) b.claim b.tells in
    let root : Rooted words (K m h xs) (after m h xs).packets (last_unit (place_in q pos)) q.epoch pos c =
    subst (λ (y : Cell). Rooted words (K m h xs) (after m h xs).packets (last_unit (place_in q pos)) q.epoch pos y) b.cell
    (subst (λ (p : ℕ). Rooted words (K m h xs) (after m h xs).packets (last_unit (place_in q pos)) q.epoch p b.claim.cell) b.pos
    (record { layout = r.layout; decided = r.decided; up_to = (let a = r.up_to in let e = b.epoch in omega (arith, a, e)); how = r.how })) in
    let s = last_settles words (K m h xs) _ (facts m h xs header give f) q pos c (known m h xs q.epoch q d).0 b root in
    record { layout = s.layout; decided = decided_for m h xs header give s.layout s.decided; told = λ k less. up_to (after m h xs).packets _ _ _ c (s.told k less) }

-- What units that join bring.

module _ (m : Meaning) (h : Header) (xs : Moves m) (header : IsHeader h) (give : AllGive m (LawfulCommand m) xs) where
  brought : (p q : Layout) (pos u : ℕ) → Joins m (after m h xs) p q pos u → Brought m h xs header give u q.epoch pos
  brought p q pos u j =
      joins_bring m h xs header give q (known m h xs q.epoch q j.after).0 p (known m h xs p.epoch p j.before).0 j.next pos u (has_contained _ u j.here) (λ g. j.new (contained _ u g)) j.old

  before : (u e pos : ℕ) → ToldBefore words (K m h xs) (after m h xs).packets u e pos → HadBefore (after m h xs).packets u e pos
  before u e pos t = record { claim = t.claim; told = told_of _ u t.claim t.tells; at = t.at; early = t.early }

  pub told_here : JoinsTold m (after m h xs)
  told_here p q pos u k j t at = before u q.epoch pos ((brought p q pos u j).told k (tells_of _ u k t) at)

  pub whole_here : JoinsWhole m (after m h xs)
  whole_here p q pos u j = by (brought p q pos u j).had
    where
      by : ToldBefore words (K m h xs) (after m h xs).packets u q.epoch pos ⊎ (pos < (unit_in m (config m (after m h xs)) u).low) → HadBefore (after m h xs).packets u q.epoch pos ⊎ (pos < (unit_in m (config m (after m h xs)) u).low)
      by (inl x) = inl (before u q.epoch pos x)
      by (inr x) = inr x

module _ (m : Meaning) where
  pub joins_tell_old_cells : Always m (JoinsTold m)
  joins_tell_old_cells = always_lawful m (JoinsTold m) (λ h xs a b. told_here m h xs a b)

  pub joins_are_whole : Always m (JoinsWhole m)
  joins_are_whole = always_lawful m (JoinsWhole m) (λ h xs a b. whole_here m h xs a b)

  pub last_unit_settles : Always m (LastSettles m)
  last_unit_settles = always_lawful m (LastSettles m) (λ h xs a b. last_law m h xs a b (told_here m h xs a b))

  pub units_tell_settled : EachLater m (SettledTold m)
  units_tell_settled = later_lawful m (SettledTold m) (λ h xs ys a b c. told_law m h xs ys a c (told_here m h (xs ++ ys) a c))

  pub one_is_settled : EachLater m (SettledOnce m)
  one_is_settled = later_lawful m (SettledOnce m) (λ h xs ys a b c. once_law m h xs ys a c (told_here m h (xs ++ ys) a c))

  pub units_have_no_other : EachLater m (SettledKept m)
  units_have_no_other = later_lawful m (SettledKept m) (λ h xs ys a b c. kept_law m h xs ys a c (told_here m h (xs ++ ys) a c))

  pub chains_have_no_other : EachLater m (ChainKept m)
  chains_have_no_other = later_lawful m (ChainKept m) (λ h xs ys a b c. chain_law m h xs ys a c (told_here m h (xs ++ ys) a c))

  pub settled_is_held : EachLater m (SettledHeld m)
  settled_is_held = later_lawful m (SettledHeld m) (λ h xs ys a b c. held_law m h xs ys a c (told_here m h (xs ++ ys) a c) (whole_here m h (xs ++ ys) a c))

  pub settled_is_in_log : EachLater m (SettledInLog m)
  settled_is_in_log = later_lawful m (SettledInLog m) (λ h xs ys a b c. in_log_law m h xs ys a c (told_here m h (xs ++ ys) a c) (whole_here m h (xs ++ ys) a c))
