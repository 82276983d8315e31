-- A settled cell stays: an argument on decided layouts and on what units have told, without worlds.
use Rattle.std.proofs.Common.{◌≡◌, ◌⊎◌, ℕ, zero, suc, ◌+◌, ◌-◌, ◌<◌, ◌≤◌, List, length, sym, ◌∙◌, subst, inl, inr, arith}
use Rattle.std.specs.Prelude.{slice_index}
use Rattle.tg_base.specs.Layouts.{Layout}
use Rattle.tg_base.specs.declared.cell.Cell.{Cell}
use Rattle.tg_base.specs.declared.packet.Packet.{Packet}
use Rattle.tg_protocol.specs.Layouts.{chain_of}
use Rattle.tg_protocol.specs.Cells.{place_in, last_unit}
use Rattle.tg_law_layouts.proofs.Moves.Members.{Has}
use Rattle.tg_law_layouts.specs.Moves.Telling.{Claim}
use Rattle.tg_law_layouts.proofs.Requests.Told.{Tells}
use Rattle.tg_law_cells.proofs.Cells.Justified.{ToldBy, Upto}
use Rattle.tg_law_cells.proofs.Cells.Jobs.{CellOk}
use Rattle.tg_law_cells.proofs.Cells.Befores.{Before, At, has_at, at_has, before_at, earlier}

-- Which units stand in a layout, which have gone, and which join the chain of a position in the next layout.
pub record Words : Type 1 where
  pub Stands : Layout → ℕ → Type 0
  pub Gone : Layout → ℕ → Type 0
  pub Joins : Layout → Layout → ℕ → ℕ → Type 0

module _ (s : Words) where
  -- layout q comes next after p
  pub record Next (p q : Layout) : Type 0 where
    pub epoch : q.epoch ≡ p.epoch + 1
    pub start : p.start ≤ q.start
    pub gone : (u : ℕ) → s.Gone p u → s.Gone q u
    pub stays : (u : ℕ) → s.Stands p u → s.Stands q u ⊎ s.Gone q u
    pub left : (pos : ℕ) → (u : ℕ) × Has (chain_of p pos) u × s.Stands q u
    -- of a position below the start
    pub kept : (pos u : ℕ) → pos < q.start → Has (chain_of p pos) u → Has (chain_of q pos) u ⊎ s.Gone q u
    pub old : (pos u : ℕ) → pos < q.start → Has (chain_of q pos) u → Has (chain_of p pos) u ⊎ s.Joins p q pos u
    pub order : (pos w v : ℕ) → pos < q.start → Before (chain_of q pos) w v → Has (chain_of p pos) v → Before (chain_of p pos) w v
    pub joins : (pos u : ℕ) → s.Joins p q pos u → (Has (chain_of p pos) u → ⊥) × (s.Gone p u → ⊥)

  pub record After (D : Layout → Type 0) (q : Layout) : Type 0 where
    pub old : Layout
    pub decided : D old
    pub next : Next old q

  module _ (D : Layout → Type 0) (ps : List Packet) where
    -- told before an epoch
    pub record ToldBefore (u epoch pos : ℕ) : Type 0 where
      pub claim : Claim
      pub tells : Tells ps u claim
      pub at : claim.pos ≡ pos
      pub early : claim.epoch < epoch

    -- What is asked of decided layouts and of units.
    pub record Line : Type 0 where
      pub once : (p q : Layout) → D p → D q → p.epoch ≡ q.epoch → p ≡ q
      pub after : (q : Layout) → D q → (q.epoch ≡ 1) ⊎ After D q
      pub first : (q : Layout) → D q → 1 ≤ q.epoch
      pub out : (q : Layout) (u : ℕ) → D q → s.Gone q u → s.Stands q u → ⊥
      pub stands : (q : Layout) (pos u : ℕ) → D q → Has (chain_of q pos) u → s.Stands q u
      pub single : (q : Layout) (pos u : ℕ) → D q → Before (chain_of q pos) u u → ⊥
      pub some : (q : Layout) (pos : ℕ) → D q → 0 < length (chain_of q pos)
      -- what a unit of a layout told in an earlier epoch lies below the layout's start
      pub sealed : (q : Layout) (u : ℕ) (k : Claim) → D q → 1 < q.epoch → s.Stands q u → Tells ps u k → k.epoch < q.epoch → k.pos < q.start
      pub one : (u : ℕ) (k l : Claim) → Tells ps u k → Tells ps u l → k.pos ≡ l.pos → k.cell ≡ l.cell
      -- what a unit that joins has of the chain's cells it had before
      pub rooted : (p q : Layout) (pos u : ℕ) (k : Claim) → D p → D q → Next p q → s.Joins p q pos u → pos < q.start → Tells ps u k → k.pos ≡ pos → ToldBefore u q.epoch pos

    -- Settled: every unit of a decided layout's chain has told the cell.
    pub record Settled (epoch pos : ℕ) (c : Cell) : Type 0 where
      pub layout : Layout
      pub decided : D layout
      pub up_to : layout.epoch ≤ epoch
      pub told : Upto ps (place_in layout pos) c (length (chain_of layout pos))

    -- a unit has got a cell in a decided layout's chain, where all before it have told the cell, or of a settled cell
    pub record Got (u pos : ℕ) (c : Cell) (q : Layout) : Type 0 where
      pub place : ℕ
      pub at : At (chain_of q pos) u place
      pub own : ToldBy ps u q.epoch pos c
      pub told : Upto ps (place_in q pos) c place

    pub record Rooted (u epoch pos : ℕ) (c : Cell) : Type 0 where
      pub layout : Layout
      pub decided : D layout
      pub up_to : layout.epoch ≤ epoch
      pub how : Got u pos c layout ⊎ Settled layout.epoch pos c

    told_later : (u e f p : ℕ) (c : Cell) → e ≤ f → ToldBy ps u e p c → ToldBy ps u f p c
    told_later u e f p c le t = record { claim = t.claim; tells = t.tells; epoch = (let a = t.epoch in omega (arith, a, le)); pos = t.pos; cell = t.cell }

    module _ (l : Line) where
      pub told_sealed : (q : Layout) (u e pos : ℕ) (c : Cell) → D q → 1 ≤ e → s.Stands q u → ToldBy ps u e pos c → e < q.epoch → pos < q.start
      told_sealed q u e pos c d some st t less = let a = l.sealed q u t.claim d (omega (arith, some, less)) st t.tells (let b = t.epoch in omega (arith, b, less)) in let e = t.pos in omega (arith, a, e)

      told_one : (u e f pos : ℕ) (c x : Cell) → ToldBy ps u e pos c → ToldBy ps u f pos x → c ≡ x
      told_one u e f pos c x a b = sym a.cell ∙ (l.one u a.claim b.claim a.tells b.tells (a.pos ∙ sym b.pos) ∙ b.cell)

      -- the layout before, of an epoch that isn't the first
      before : (q : Layout) → D q → 1 < q.epoch → After D q
      before q d less = by (l.after q d)
        where
          by : (q.epoch ≡ 1) ⊎ After D q → After D q
          by (inl e) = absurd (omega (arith, e, less))
          by (inr a) = a

      -- A unit that stands in a position's chain and has told its cell stays in the chain, or is gone.

      pub along : (n : ℕ) (q r : Layout) (u pos : ℕ) (c : Cell) → D q → D r → r.epoch ≡ q.epoch + n → Has (chain_of q pos) u → ToldBy ps u q.epoch pos c → Has (chain_of r pos) u ⊎ s.Gone r u
      along zero q r u pos c dq dr e h t = inl (subst (λ (p : Layout). Has (chain_of p pos) u) (l.once q r dq dr (omega (arith, e))) h)
      along (suc n) q r u pos c dq dr e h t = by (along n q p u pos c dq a.decided (let f = a.next.epoch in omega (arith, e, f)) h t)
        where
          a : After D r
          a = before r dr (let f = l.first q dq in omega (arith, e, f))

          p : Layout
          p = a.old

          stood : Has (chain_of p pos) u → s.Stands r u ⊎ s.Gone r u → Has (chain_of r pos) u ⊎ s.Gone r u
          stood g (inl st) = a.next.kept pos u (told_sealed r u q.epoch pos c dr (l.first q dq) st t (omega (arith, e))) g
          stood g (inr x) = inr x

          by : Has (chain_of p pos) u ⊎ s.Gone p u → Has (chain_of r pos) u ⊎ s.Gone r u
          by (inl g) = stood g (a.next.stays u (l.stands p pos u a.decided g))
          by (inr g) = inr (a.next.gone u g)

      pub gone_stays : (n : ℕ) (q r : Layout) (u : ℕ) → D q → D r → r.epoch ≡ q.epoch + n → s.Gone q u → s.Gone r u
      gone_stays zero q r u dq dr e g = subst (λ (p : Layout). s.Gone p u) (l.once q r dq dr (omega (arith, e))) g
      gone_stays (suc n) q r u dq dr e g = a.next.gone u (gone_stays n q a.old u dq a.decided (let f = a.next.epoch in omega (arith, e, f)) g)
        where
          a : After D r
          a = before r dr (let f = l.first q dq in omega (arith, e, f))

      pub apart : (e f : ℕ) → e ≤ f → f ≡ e + (f - e)
      apart e f le = grind arith

      -- Before such a unit stand only those that stood before it.

      still_before : (n : ℕ) (q r : Layout) (w u pos : ℕ) (c : Cell) → D q → D r → r.epoch ≡ q.epoch + n → Has (chain_of q pos) u → ToldBy ps u q.epoch pos c → Has (chain_of r pos) u → Before (chain_of r pos) w u → Before (chain_of q pos) w u
      still_before zero q r w u pos c dq dr e h t g b = subst (λ (p : Layout). Before (chain_of p pos) w u) (sym (l.once q r dq dr (omega (arith, e)))) b
      still_before (suc n) q r w u pos c dq dr e h t g b = still_before n q p w u pos c dq a.decided at h t stood (a.next.order pos w u (told_sealed r u q.epoch pos c dr (l.first q dq) (l.stands r pos u dr g) t (omega (arith, e))) b stood)
        where
          a : After D r
          a = before r dr (let f = l.first q dq in omega (arith, e, f))

          p : Layout
          p = a.old

          at : p.epoch ≡ q.epoch + n
          at = let f = a.next.epoch in omega (arith, e, f)

          stood : Has (chain_of p pos) u
          stood = by (along n q p u pos c dq a.decided at h t)
            where
              by : Has (chain_of p pos) u ⊎ s.Gone p u → Has (chain_of p pos) u
              by (inl x) = x
              by (inr x) = absurd (l.out r u dr (a.next.gone u x) (l.stands r pos u dr g))

      -- a unit that stands before one that got a cell has told it
      pub before_tells : (q r : Layout) (w u pos : ℕ) (c : Cell) → D q → D r → r.epoch ≤ q.epoch → Got u pos c r → Has (chain_of q pos) u → Before (chain_of q pos) w u → ToldBy ps w q.epoch pos c
      before_tells q r w u pos c dq dr le g h b =
          let a = still_before (q.epoch - r.epoch) r q w u pos c dr dq (apart _ _ le) (subst (λ (v : ℕ). Has (chain_of r pos) v) g.at.is (has_at _ g.place g.at.within)) g.own h b in
          let x = earlier (chain_of r pos) w u g.place a g.at (l.single r pos u dr) in
          subst (λ (v : ℕ). ToldBy ps v q.epoch pos c) x.is (told_later _ _ _ pos c le (g.told x.place x.less))

      -- What the last unit of a chain has told is settled.

      settled_later : (e f pos : ℕ) (c : Cell) → e ≤ f → Settled e pos c → Settled f pos c
      settled_later e f pos c le x = record { layout = x.layout; decided = x.decided; up_to = (let a = x.up_to in omega (arith, a, le)); told = x.told }

      pub last_settles : (q : Layout) (pos : ℕ) (c : Cell) → D q → ToldBy ps (last_unit (place_in q pos)) q.epoch pos c → Rooted (last_unit (place_in q pos)) q.epoch pos c → Settled q.epoch pos c
      last_settles q pos c d t r = by r.how
        where
          v : ℕ
          v = last_unit (place_in q pos)

          n : ℕ
          n = length (chain_of q pos)

          end : n - 1 < n
          end = let a = l.some q pos d in omega (arith, a)

          each : Got v pos c r.layout → (k : ℕ) → k < n - 1 → ToldBy ps (slice_index (chain_of q pos) k) q.epoch pos c
          each g k less =
              let b = still_before (q.epoch - r.layout.epoch) r.layout q (slice_index (chain_of q pos) k) v pos c r.decided d (apart _ _ r.up_to) (subst (λ (u : ℕ). Has (chain_of r.layout pos) u) g.at.is (has_at _ g.place g.at.within)) g.own
              (has_at _ (n - 1) end) (before_at (chain_of q pos) k (n - 1) less end) in
              let x = earlier (chain_of r.layout pos) _ v g.place b g.at (l.single r.layout pos v r.decided) in
              subst (λ (u : ℕ). ToldBy ps u q.epoch pos c) x.is (told_later _ _ _ pos c r.up_to (g.told x.place x.less))

          all : Got v pos c r.layout → (k : ℕ) → k < n → (k < n - 1) ⊎ (k ≡ n - 1) → ToldBy ps (slice_index (chain_of q pos) k) q.epoch pos c
          all g k less (inl x) = each g k x
          all g k less (inr x) = subst (λ (j : ℕ). ToldBy ps (slice_index (chain_of q pos) j) q.epoch pos c) (sym x) t

          which : (k n : ℕ) → k < n → (k < n - 1) ⊎ (k ≡ n - 1)
          which k n less = grind arith

          by : Got v pos c r.layout ⊎ Settled r.layout.epoch pos c → Settled q.epoch pos c
          by (inl g) = record { layout = q; decided = d; up_to = omega arith; told = λ k less. all g k less (which k n less) }
          by (inr x) = settled_later _ _ pos c r.up_to x

      -- what a client or a sequencer ends with is settled
      pub end_settles : (q : Layout) (pos : ℕ) (c : Cell) → D q → (ToldBy ps (last_unit (place_in q pos)) q.epoch pos c → Rooted (last_unit (place_in q pos)) q.epoch pos c) → CellOk ps q pos c → Settled q.epoch pos c
      end_settles q pos c d roots (inl f) = record { layout = q; decided = d; up_to = omega arith; told = f }
      end_settles q pos c d roots (inr t) = last_settles q pos c d t (roots t)

      -- A settled position lies below the start of each later layout.

      pub settled_below : (n : ℕ) (q r : Layout) (pos : ℕ) (c : Cell) → D q → D r → r.epoch ≡ q.epoch + suc n → Upto ps (place_in q pos) c (length (chain_of q pos)) → pos < r.start
      settled_below zero q r pos c dq dr e f =
          let a = before r dr (let f = l.first q dq in omega (arith, e, f)) in
          let same = l.once q a.old dq a.decided (let f = a.next.epoch in omega (arith, e, f)) in
          let x = a.next.left pos in
          let i = at_has (chain_of a.old pos) x.0 x.1 in
          let g = subst (λ (p : Layout). Upto ps (place_in p pos) c (length (chain_of p pos))) same f in
          told_sealed r x.0 a.old.epoch pos c dr (l.first a.old a.decided) x.2 (subst (λ (u : ℕ). ToldBy ps u a.old.epoch pos c) i.1.is (g i.0 i.1.within)) (let h = a.next.epoch in omega (arith, h))
      settled_below (suc n) q r pos c dq dr e f =
          let a = before r dr (let f = l.first q dq in omega (arith, e, f)) in
          let b = settled_below n q a.old pos c dq a.decided (let h = a.next.epoch in omega (arith, e, h)) f in
          let s = a.next.start in
          omega (arith, b, s)

      -- The units of later chains tell no other cell.

      abbrev Told : Type 0
      Told = (u : ℕ) (k : Claim) → Tells ps u k → Rooted u k.epoch k.pos k.cell

      abbrev Keeps : ℕ → Type 0
      Keeps n = (q r : Layout) (pos : ℕ) (c : Cell) → D q → D r → q.epoch ≤ r.epoch → r.epoch ≤ n → Upto ps (place_in q pos) c (length (chain_of q pos)) → (u : ℕ) (k : Claim) → Has (chain_of r pos) u → Tells ps u k → k.pos ≡ pos → k.cell ≡ c

      -- of one layout
      keeps_here : (q : Layout) (pos : ℕ) (c : Cell) → Upto ps (place_in q pos) c (length (chain_of q pos)) → (u : ℕ) (k : Claim) → Has (chain_of q pos) u → Tells ps u k → k.pos ≡ pos → k.cell ≡ c
      keeps_here q pos c f u k h t at =
          let i = at_has (chain_of q pos) u h in
          let b = subst (λ (v : ℕ). ToldBy ps v q.epoch pos c) i.1.is (f i.0 i.1.within) in
          l.one u k b.claim t b.tells (at ∙ sym b.pos) ∙ b.cell

      -- two settled cells of one position are the same
      agree : (n : ℕ) → Keeps n → (q r : Layout) (pos : ℕ) (c x : Cell) → D q → D r → q.epoch ≤ n → r.epoch ≤ n → Upto ps (place_in q pos) c (length (chain_of q pos)) → Upto ps (place_in r pos) x (length (chain_of r pos)) → x ≡ c
      agree n k q r pos c x dq dr a b f g = by (which q.epoch r.epoch)
        where
          which : (e f : ℕ) → (e ≤ f) ⊎ (f ≤ e)
          which e f = grind arith

          head : (p : Layout) (y : Cell) → D p → Upto ps (place_in p pos) y (length (chain_of p pos)) → ToldBy ps (slice_index (chain_of p pos) 0) p.epoch pos y
          head p y d h = h 0 (l.some p pos d)

          by : (q.epoch ≤ r.epoch) ⊎ (r.epoch ≤ q.epoch) → x ≡ c
          by (inl le) = let t = head r x dr g in sym t.cell ∙ k q r pos c dq dr le b f _ t.claim (has_at _ 0 (l.some r pos dr)) t.tells t.pos
          by (inr le) = let t = head q c dq f in sym (sym t.cell ∙ k r q pos x dr dq le a g _ t.claim (has_at _ 0 (l.some q pos dq)) t.tells t.pos)

      keeps_next : Told → (n : ℕ) → Keeps n → (q r : Layout) (pos : ℕ) (c : Cell) → D q → D r → q.epoch ≤ n → r.epoch ≡ suc n → Upto ps (place_in q pos) c (length (chain_of q pos)) → (u : ℕ) (k : Claim) → Has (chain_of r pos) u → Tells ps u k → k.pos ≡ pos → k.cell ≡ c
      keeps_next roots n ih q r pos c dq dr le e f u k h t at = by (a.next.old pos u below h)
        where
          a : After D r
          a = before r dr (let f = l.first q dq in omega (arith, e, f, le))

          p : Layout
          p = a.old

          epoch : p.epoch ≡ n
          epoch = let f = a.next.epoch in omega (arith, e, f)

          below : pos < r.start
          below = settled_below (n - q.epoch) q r pos c dq dr (omega (arith, e, le)) f

          -- a unit that joined has its cell of a settled one
          joined : s.Joins p r pos u → (b : ToldBefore u r.epoch pos) → (x : Rooted u b.claim.epoch b.claim.pos b.claim.cell) → k.cell ≡ c
          joined j b x = l.one u k b.claim t b.tells (at ∙ sym b.at) ∙ how x.how
            where
              early : x.layout.epoch ≤ n
              early = let i = x.up_to in let m = b.early in omega (arith, i, m, e)

              settled : Settled x.layout.epoch b.claim.pos b.claim.cell → b.claim.cell ≡ c
              settled y = agree n ih q y.layout pos c b.claim.cell dq y.decided le (let z = y.up_to in omega (arith, z, early)) f (subst (λ (p : ℕ). Upto ps (place_in y.layout p) b.claim.cell (length (chain_of y.layout p))) b.at y.told)

              no : Has (chain_of p pos) u ⊎ s.Gone p u → ⊥
              no (inl z) = (a.next.joins pos u j).0 z
              no (inr z) = (a.next.joins pos u j).1 z

              how : Got u b.claim.pos b.claim.cell x.layout ⊎ Settled x.layout.epoch b.claim.pos b.claim.cell → b.claim.cell ≡ c
              how (inl g) = absurd (no (along (p.epoch - x.layout.epoch) x.layout p u pos b.claim.cell x.decided a.decided (apart _ _ (omega (arith, early, epoch)))
                  (subst (λ (i : ℕ). Has (chain_of x.layout i) u) b.at (subst (λ (v : ℕ). Has (chain_of x.layout b.claim.pos) v) g.at.is (has_at _ g.place g.at.within)))
                  (subst (λ (i : ℕ). ToldBy ps u x.layout.epoch i b.claim.cell) b.at g.own)))
              how (inr y) = settled y

          by : Has (chain_of p pos) u ⊎ s.Joins p r pos u → k.cell ≡ c
          by (inl x) = ih q p pos c dq a.decided (omega (arith, epoch, le)) (omega (arith, epoch)) f u k x t at
          by (inr j) = let b = l.rooted p r pos u k a.decided dr a.next j below t at in joined j b (roots u b.claim b.tells)

      keeps_by : Told → (n : ℕ) → Keeps n → Keeps (suc n)
      keeps_by roots n ih q r pos c dq dr le top f u k h t at = by (which r.epoch q.epoch n top le)
        where
          which : (e d n : ℕ) → e ≤ suc n → d ≤ e → (e ≤ n) ⊎ ((e ≡ suc n) × (d ≤ n)) ⊎ (d ≡ e)
          which e d n a b = grind arith

          by : (r.epoch ≤ n) ⊎ ((r.epoch ≡ suc n) × (q.epoch ≤ n)) ⊎ (q.epoch ≡ r.epoch) → k.cell ≡ c
          by (inl x) = ih q r pos c dq dr le x f u k h t at
          by (inr (inl x)) = keeps_next roots n ih q r pos c dq dr x.1 x.0 f u k h t at
          by (inr (inr x)) = keeps_here q pos c f u k (subst (λ (p : Layout). Has (chain_of p pos) u) (sym (l.once q r dq dr x)) h) t at

      keeps : Told → (n : ℕ) → Keeps n
      keeps roots zero = λ q r pos c dq dr le top f u k h t at. absurd (let a = l.first r dr in omega (arith, a, top))
      keeps roots (suc n) = keeps_by roots n (keeps roots n)

      -- The main result: a position has one settled cell, and no unit of a later chain has told another.

      pub settled_stays : Told → (pos : ℕ) (c : Cell) (e : ℕ) → (x : Settled e pos c) → (r : Layout) → D r → x.layout.epoch ≤ r.epoch → (u : ℕ) (k : Claim) → Has (chain_of r pos) u → Tells ps u k → k.pos ≡ pos → k.cell ≡ c
      settled_stays roots pos c e x r dr le u k h t at = keeps roots r.epoch x.layout r pos c x.decided dr le (omega arith) x.told u k h t at

      pub settled_once : Told → (pos : ℕ) (c y : Cell) (e f : ℕ) → Settled e pos c → Settled f pos y → y ≡ c
      settled_once roots pos c y e f x z = agree (e + f) (keeps roots (e + f)) x.layout z.layout pos c y x.decided z.decided (let a = x.up_to in omega (arith, a)) (let a = z.up_to in omega (arith, a)) x.told z.told

      -- Each unit of a later chain has told the cell, or has trimmed it.

      module _ (T : ℕ → ℕ → Type 0) (whole : (p q : Layout) (pos u : ℕ) → D p → D q → Next p q → s.Joins p q pos u → pos < q.start → ToldBefore u q.epoch pos ⊎ T u pos) where
        present_here : (q : Layout) (pos u : ℕ) (c : Cell) → Upto ps (place_in q pos) c (length (chain_of q pos)) → Has (chain_of q pos) u → ToldBy ps u q.epoch pos c
        present_here q pos u c f h = let i = at_has (chain_of q pos) u h in subst (λ (v : ℕ). ToldBy ps v q.epoch pos c) i.1.is (f i.0 i.1.within)

        present : Told → (n : ℕ) (q r : Layout) (pos u : ℕ) (c : Cell) → D q → D r → r.epoch ≡ q.epoch + n → Upto ps (place_in q pos) c (length (chain_of q pos)) → Has (chain_of r pos) u → ToldBy ps u r.epoch pos c ⊎ T u pos
        present roots zero q r pos u c dq dr e f h =
            let same = l.once q r dq dr (omega (arith, e)) in
            inl (subst (λ (p : Layout). ToldBy ps u p.epoch pos c) same (present_here q pos u c f (subst (λ (p : Layout). Has (chain_of p pos) u) (sym same) h)))
        present roots (suc n) q r pos u c dq dr e f h = present_by roots n q r pos u c dq dr e f h (before r dr (let g = l.first q dq in omega (arith, e, g))) (λ p g i k. present roots n q p pos u c dq g i f k)
          where
            present_by : Told → (n : ℕ) (q r : Layout) (pos u : ℕ) (c : Cell) → D q → D r → r.epoch ≡ q.epoch + suc n → Upto ps (place_in q pos) c (length (chain_of q pos)) → Has (chain_of r pos) u → (a : After D r)
                → ((p : Layout) → D p → p.epoch ≡ q.epoch + n → Has (chain_of p pos) u → ToldBy ps u p.epoch pos c ⊎ T u pos) → ToldBy ps u r.epoch pos c ⊎ T u pos
            present_by roots n q r pos u c dq dr e f h a ih = by (a.next.old pos u below h)
              where
                below : pos < r.start
                below = settled_below n q r pos c dq dr e f

                up : ToldBy ps u a.old.epoch pos c ⊎ T u pos → ToldBy ps u r.epoch pos c ⊎ T u pos
                up (inl t) = inl (told_later u _ _ pos c (let g = a.next.epoch in omega (arith, g)) t)
                up (inr t) = inr t

                had : ToldBefore u r.epoch pos ⊎ T u pos → ToldBy ps u r.epoch pos c ⊎ T u pos
                had (inl b) = inl (record { claim = b.claim; tells = b.tells; epoch = (let g = b.early in omega (arith, g)); pos = b.at; cell = keeps roots r.epoch q r pos c dq dr (omega (arith, e)) (omega arith) f u b.claim h b.tells b.at })
                had (inr t) = inr t

                by : Has (chain_of a.old pos) u ⊎ s.Joins a.old r pos u → ToldBy ps u r.epoch pos c ⊎ T u pos
                by (inl g) = up (ih a.old a.decided (let g = a.next.epoch in omega (arith, e, g)) g)
                by (inr j) = had (whole a.old r pos u a.decided dr a.next j below)

        pub settled_present : Told → (pos : ℕ) (c : Cell) (e : ℕ) → (x : Settled e pos c) → (r : Layout) → D r → x.layout.epoch ≤ r.epoch → (u : ℕ) → Has (chain_of r pos) u → ToldBy ps u r.epoch pos c ⊎ T u pos
        settled_present roots pos c e x r d le u h = present roots (r.epoch - x.layout.epoch) x.layout r pos u c x.decided d (apart _ _ le) x.told h
