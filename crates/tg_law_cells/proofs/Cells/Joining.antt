-- A unit that joins a chain brings the cells of its positions from earlier epochs.
use Rattle.std.proofs.Common.{◌≡◌, ◌⊎◌, ℕ, zero, suc, ◌+◌, ◌<◌, ◌≤◌, List, [], ◌∷◌, length, true, refl, sym, ap, ◌∙◌, subst, inl, inr, arith, Some, None, Option}
use Rattle.tg_base.specs.Layouts.{Layout, IsLayout}
use Rattle.tg_base.specs.Changes.{Changed}
use Rattle.tg_base.specs.Clusters.{Header, IsHeader}
use Rattle.tg_base.specs.declared.ids.NodeId.{NodeId}
use Rattle.tg_base.specs.declared.msg.Msg.TheVariants as msg
use Rattle.tg_base.specs.declared.packet.Packet.{Packet}
use Rattle.tg_kind.specs.Meaning.{Meaning}
use Rattle.tg_proj.specs.Next.{next_layout}
use Rattle.tg_proj.specs.Places.{range_at}
use Rattle.tg_proj.proofs.Allowed.{later_start}
use Rattle.tg_proj.proofs.Following.{next_follows}
use Rattle.tg_protocol.specs.Layouts.{first_layout, chain_of, range_end, next_of, change_fault}
use Rattle.tg_protocol.specs.Units.{Looks, unit_ask}
use Rattle.tg_protocol.specs.Trimming.{has_stripe}
use Rattle.tg_protocol.specs.Reconfiguring.{Reconf, next_epoch}
use Rattle.tg_protocol.specs.Cells.{Place}
use Rattle.tg_protocol.specs.Worlds.{start}
use Rattle.tg_protocol.specs.Runs.{Moves, LawfulCommand}
use Rattle.tg_law_layouts.specs.Moves.After.{after}
use Rattle.tg_law_layouts.specs.Moves.Configs.{Config, config, unit_in}
use Rattle.tg_law_layouts.specs.Moves.Telling.{Claim, claimed, is_request}
use Rattle.tg_law_layouts.proofs.Moves.Members.{Has}
use Rattle.tg_law_layouts.proofs.Moves.Units.{IsHeld}
use Rattle.tg_law_layouts.proofs.Moves.Moves.{Cases, Keeps, AllGive, cases_map, keeps_above}
use Rattle.tg_law_layouts.proofs.Requests.Told.{Tells, tells_grows}
use Rattle.tg_law_layouts.proofs.Requests.Starts.{All, base_of}
use Rattle.tg_law_layouts.proofs.Layouts.Standing.{IsKnown, known_grows}
use Rattle.tg_law_layouts.proofs.Layouts.Layouts.{has_header}
use Rattle.tg_law_layouts.proofs.Layouts.Successions.{Whole, Sealed, IsLooked, own_of}
use Rattle.tg_law_layouts.proofs.Layouts.Succeeding as runs
use Rattle.tg_law_layouts.proofs.Layouts.Deciding.{K, Made, first_or, rules, once, from_one}
use Rattle.tg_law_cells.proofs.Cells.Sent.{GoesDown, GoesAside}
use Rattle.tg_law_cells.proofs.Cells.Chains.{Cells}
use Rattle.tg_law_cells.proofs.Cells.Chains as chains
use Rattle.tg_law_cells.proofs.Cells.Stores.{Below, start_below, keeps}
use Rattle.tg_law_cells.proofs.Cells.Settles.{ToldBefore}
use Rattle.tg_law_cells.proofs.Cells.Roots.{stored_just}
use Rattle.tg_law_cells.proofs.Cells.Successors.{words, JoinsAt, joins_at}
use Rattle.tg_law_cells.proofs.Cells.Owned.{StoreTold, Owned, Ahead, owned_keep, start_owned, ahead_back}

-- A request to store, of this epoch or a later one.

pub record Late (e : ℕ) (ps : List Packet) : Type 0 where
  pub packet : Packet
  pub has : Has ps packet
  pub claim : Claim
  pub is : claimed (unit_ask packet.msg) msg.Held ≡ Some claim
  pub late : e ≤ claim.epoch

abbrev pub AllEarly : ℕ → List Packet → Type 0
AllEarly e ps = (x : Packet) (k : Claim) → Has ps x → claimed (unit_ask x.msg) msg.Held ≡ Some k → k.epoch < e

le_or_lt : (a b : ℕ) → (a ≤ b) ⊎ (b < a)
le_or_lt a b = grind arith

late_more : (e : ℕ) (x : Packet) (ps : List Packet) (o : Option Claim) → claimed (unit_ask x.msg) msg.Held ≡ o → Late e ps ⊎ AllEarly e ps → Late e (x ∷ ps) ⊎ AllEarly e (x ∷ ps)
late_more e x ps o is (inl l) = inl (record { packet = l.packet; has = inr l.has; claim = l.claim; is = l.is; late = l.late })
late_more e x ps None is (inr f) = inr all
  where
    all : AllEarly e (x ∷ ps)
    all y k (inl i) j = absurd (no k (sym is ∙ (ap (λ (z : Packet). claimed (unit_ask z.msg) msg.Held) (sym i) ∙ j)))
      where
        no : (k : Claim) → None ≡ Some k → ⊥
        no k e = cc
    all y k (inr h) j = f y k h j
late_more e x ps (Some c) is (inr f) = by (le_or_lt e c.epoch)
  where
    same : (a b : Claim) → Some a ≡ Some b → a ≡ b
    same a b i = cc

    all : c.epoch < e → AllEarly e (x ∷ ps)
    all less y k (inl i) j = subst (λ (z : Claim). z.epoch < e) (same c k (sym is ∙ (ap (λ (z : Packet). claimed (unit_ask z.msg) msg.Held) (sym i) ∙ j))) less
    all less y k (inr h) j = f y k h j

    by : (e ≤ c.epoch) ⊎ (c.epoch < e) → Late e (x ∷ ps) ⊎ AllEarly e (x ∷ ps)
    by (inl le) = inl (record { packet = x; has = inl refl; claim = c; is = is; late = le })
    by (inr less) = inr (all less)

late_or : (e : ℕ) (ps : List Packet) → Late e ps ⊎ AllEarly e ps
late_or e [] = inr (λ x k h i. absurd h)
late_or e (x ∷ ps) = late_more e x ps (claimed (unit_ask x.msg) msg.Held) refl (late_or e ps)

-- What is looked at.

look_asks : (e : ℕ) (p : Layout) (r s : ℕ) → is_request (has_stripe e p r s) ≡ true
unfolding is_request
look_asks e p r s = refl

look_is : (e : ℕ) (p : Layout) (r s : ℕ) → unit_ask (has_stripe e p r s) ≡ Looks e ((range_at p.ranges r).lo + s) (range_end p r) (length (range_at p.ranges r).stripes)
unfolding unit_ask
look_is e p r s = refl

-- the join of a unit that is new in a chain of the next layout
join_of : (p : Layout) (c : Changed) (by start : ℕ) → IsLayout p → IsLayout (next_of p c by start) → change_fault p c ≡ None → p.start ≤ start
    → (pos u : ℕ) → pos < (next_of p c by start).start → Has (chain_of (next_of p c by start) pos) u → (Has (chain_of p pos) u → ⊥) → JoinsAt p c pos u
unfolding next_of change_fault
join_of p c by start before after allowed later pos u below here new =
    joins_at p c (next_layout p c by start) (next_follows p c by start before (record { allowed = allowed; later = later })) before after refl pos u below here new

next_epoch_is : (p : Layout) (c : Changed) (by start : ℕ) → (next_of p c by start).epoch ≡ p.epoch + 1
unfolding next_of
next_epoch_is p c by start = refl

module _ (m : Meaning) (h : Header) (xs : Moves m) (header : IsHeader h) (give : AllGive m (LawfulCommand m) xs) where
  abbrev fin : Config m
  fin = config m (after m h xs)

  abbrev final : List Packet
  final = (after m h xs).packets

  -- what a unit has told of a position it told before too, and it told of it, or has trimmed it
  pub record Brought (u e pos : ℕ) : Type 0 where
    pub had : ToldBefore words (K m h xs) (after m h xs).packets u e pos ⊎ (pos < (unit_in m (config m (after m h xs)) u).low)
    pub told : (k : Claim) → Tells (after m h xs).packets u k → k.pos ≡ pos → ToldBefore words (K m h xs) (after m h xs).packets u e pos

  -- what is known of a proposal, if it is decided
  abbrev pub X : Layout → Type 0
  X q = K m h xs q → (p : Layout) → K m h xs p → q.epoch ≡ p.epoch + 1 → (pos u : ℕ) → Has (chain_of q pos) u → (Has (chain_of p pos) u → ⊥) → pos < q.start → Brought u q.epoch pos

  abbrev Ahead' : Config m → Type 0
  Ahead' c = Ahead m (config m (after m h xs)) c

  abbrev Early : Config m → Type 0
  Early c = runs.Early m h (after m h xs).packets X Ahead' c

  abbrev Succ : Config m → Type 0
  Succ c = runs.Succ m h (after m h xs).packets X Ahead' c

  abbrev All' : Config m → Type 0
  All' c = (Below m c × Cells m c) × Owned m c

  -- each layout that is known in a world is the first, or one before it is known there
  abbrev Chained : Config m → Type 0
  Chained c = (q : Layout) → IsKnown h.layouts (first_layout h) c.packets q → (q ≡ first_layout h) ⊎ ((old : Layout) × IsKnown h.layouts (first_layout h) c.packets old × (q.epoch ≡ old.epoch + 1))

  chained : (ys : Moves m) → AllGive m (LawfulCommand m) ys → Chained (config m (after m h ys))
  chained ys g q k = by (first_or m h ys header g q k)
    where
      by : (q ≡ first_layout h) ⊎ Made m h ys q → (q ≡ first_layout h) ⊎ ((old : Layout) × IsKnown h.layouts (first_layout h) (after m h ys).packets old × (q.epoch ≡ old.epoch + 1))
      by (inl e) = inl e
      by (inr s) = inr (s.good.old, s.good.known, s.epoch)

  module _ (c : Config m) (ch : Chained c) (b : All' c) (a : Early c) (s : Succ c) where
    abbrev L : Layout → Type 0
    L = IsKnown h.layouts (first_layout h) c.packets

    -- a layout of an earlier epoch

    back_by : (n e : ℕ) (y : Layout) → L y → 1 < e → e ≤ y.epoch → y.epoch ≤ e + suc n → ((o : Layout) → L o → e ≤ o.epoch → o.epoch ≤ e + n → (r : Layout) × L r × (r.epoch ≡ e))
        → (y.epoch ≤ e) ⊎ (e < y.epoch) → (y ≡ first_layout h) ⊎ ((old : Layout) × L old × (y.epoch ≡ old.epoch + 1)) → (r : Layout) × L r × (r.epoch ≡ e)
    back_by n e y k late le ge rest (inl i) o = (y, k, omega (arith, le, i))
    back_by n e y k late le ge rest (inr i) (inl f) = let j = ap (λ (z : Layout). z.epoch) f in absurd (omega (arith, i, j, late))
    back_by n e y k late le ge rest (inr i) (inr o) = let j = o.2 in rest o.0 o.1 (omega (arith, i, j)) (omega (arith, ge, j))

    back_to : (n e : ℕ) (y : Layout) → L y → 1 < e → e ≤ y.epoch → y.epoch ≤ e + n → (r : Layout) × L r × (r.epoch ≡ e)
    back_to zero e y k late le ge = (y, k, omega (arith, le, ge))
    back_to (suc n) e y k late le ge = back_by n e y k late le ge (λ o l f g. back_to n e o l late f g) (le_or_lt y.epoch e) (ch y k)

    later : (q : Layout) → L q → K m h xs q
    later q k = known_grows h.layouts (first_layout h) c.packets (after m h xs).packets a.sent q k

    -- a store's layout
    stored_in : (to : NodeId) (l : Claim) → GoesDown c.packets (chains.K m c c.packets) to l.epoch l.pos l.cell ⊎ GoesAside c.packets (chains.K m c c.packets) l.epoch l.pos l.cell → (y : Layout) × L y × (l.epoch ≡ y.epoch)
    stored_in to l (inl g) = (g.layout, subst (λ (x : Header). IsKnown x.layouts (first_layout x) c.packets g.layout) a.cluster g.known, g.epoch ∙ ap (λ (z : Place). z.epoch) g.at)
    stored_in to l (inr g) = (g.layout, subst (λ (x : Header). IsKnown x.layouts (first_layout x) c.packets g.layout) a.cluster g.known, g.epoch)

    -- where a store of its epoch or a later one was sent, the layout was proposed already
    proposed : (q : Layout) → K m h xs q → 1 < q.epoch → Late q.epoch c.packets → X q
    proposed q d late l =
        let y = stored_in l.packet.to l.claim (stored_just c.packets (chains.K m c c.packets) l.packet.to l.packet.msg l.claim l.is (b.0.1.sent l.packet l.has)) in
        let e = y.2 in
        let f = l.late in
        let r = back_to y.0.epoch q.epoch y.0 y.1 late (omega (arith, e, f)) (omega arith) in
        by r (once m h xs header give r.0 q (later r.0 r.1) d r.2)
      where
        by : (r : (z : Layout) × L z × (z.epoch ≡ q.epoch)) → r.0 ≡ q → X q
        by r i = which r.1
          where
            which : L r.0 → X q
            which (inl f) = let j = ap (λ (z : Layout). z.epoch) f in let k = r.2 in absurd (omega (arith, j, k, late))
            which (inr w) = subst X i (s.sent w.proposed.packet r.0.epoch w.ballot r.0 w.proposed.sent w.proposed.is).more

    -- else all that the unit has is of earlier epochs
    brought : (e pos u : ℕ) → AllEarly e c.packets → IsHeld (unit_in m c u) pos → Brought u e pos
    brought e pos u early held = record { had = had held; told = told held }
      where
        first_of : StoreTold c.packets u pos → ToldBefore words (K m h xs) (after m h xs).packets u e pos
        first_of t = record { claim = t.claim; tells = tells_grows c.packets (after m h xs).packets u t.claim a.sent t.told; at = t.at; early = early t.ask t.claim t.asked t.stores }

        had : IsHeld (unit_in m c u) pos → ToldBefore words (K m h xs) (after m h xs).packets u e pos ⊎ (pos < (unit_in m (config m (after m h xs)) u).low)
        had (inl i) = inl (first_of (b.1.cells u pos i.0 i.1))
        had (inr low) = let le = a.ahead.low u in inr (omega (arith, low, le))

        told : IsHeld (unit_in m c u) pos → (k : Claim) → Tells (after m h xs).packets u k → k.pos ≡ pos → ToldBefore words (K m h xs) (after m h xs).packets u e pos
        told (inl i) k t at = first_of (b.1.cells u pos i.0 i.1)
        told (inr low) k t at = first_of (subst (λ (p : ℕ). StoreTold c.packets u p) at (b.1.tells u k (a.ahead.told u k t (omega (arith, low, at)))))

    -- a unit that was asked for a stripe has it
    held : (e : ℕ) (p : Layout) (c' : Changed) (pos u : ℕ) → (j : JoinsAt p c' pos u) → Whole c.packets (K m h xs) X e p j.join → IsHeld (unit_in m c u) pos
    held e p c' pos u j w =
        let base = base_of m c b.0.0.0.0 in
        let y = base.units.answered j.join.unit w.answer w.answered w.from in
        let same = base.numbers.same y.ask w.ask y.asked w.asked y.request (subst (λ z. is_request z ≡ true) (sym w.look) (look_asks e p j.join.range j.join.stripe)) (y.from ∙ w.back) (y.to ∙ (w.from ∙ sym w.to)) (y.rid ∙ w.number) in
        subst (λ (v : ℕ). IsHeld (unit_in m c v) pos) j.unit
        (y.true.whole e _ _ _ (ap unit_ask (same ∙ w.look) ∙ look_is e p j.join.range j.join.stripe) w.is pos j.steps)

    ready : (r : Reconf) (acks : List (ℕ × ℕ)) → Sealed (after m h xs).packets (K m h xs) X r [] acks → IsLooked c.packets (K m h xs) X r → X (own_of (after m h xs).packets (K m h xs) X r acks)
    ready r acks z l d p dp e pos u here new below = by (late_or q.epoch c.packets)
      where
        q : Layout
        q = own_of (after m h xs).packets (K m h xs) X r acks

        epoch : (own_of (after m h xs).packets (K m h xs) X r acks).epoch ≡ r.stand.epoch + 1
        epoch = next_epoch_is r.stand r.change r.me _

        same : p ≡ r.stand
        same = once m h xs header give p r.stand dp z.early.known (let i = epoch in omega (arith, e, i))

        join : JoinsAt r.stand r.change pos u
        join = join_of r.stand r.change r.me _ (rules m h xs header give r.stand z.early.known) (rules m h xs header give _ d) z.early.allowed (later_start r.stand.start acks) pos u below here (subst (λ (y : Layout). Has (chain_of y pos) u → ⊥) same new)

        by : Late (own_of (after m h xs).packets (K m h xs) X r acks).epoch c.packets ⊎ AllEarly (own_of (after m h xs).packets (K m h xs) X r acks).epoch c.packets → Brought u (own_of (after m h xs).packets (K m h xs) X r acks).epoch pos
        by (inl t) = proposed _ d (let i = from_one m h xs header give p dp in omega (arith, e, i)) t d p dp e pos u here new below
        by (inr t) = brought _ pos u t (held (next_epoch r) r.stand r.change pos u join (l join.join join.is))

  all_keeps : Keeps m All'
  all_keeps = keeps_above m (λ c. Below m c × Cells m c) (Owned m) (keeps m) (λ c b o. cases_map m c (λ d. All m d → Owned m d) (λ d. (Below m d × Cells m d) → Owned m d) (λ d g y. g y.0.0) (owned_keep m c b.0.0 o))

  back : (c : Config m) → All' c → Cases m c (λ d. All' d → Ahead' d → Ahead' c)
  back c b = cases_map m c (λ d. All m d → Ahead' d → Ahead' c) (λ d. All' d → Ahead' d → Ahead' c) (λ d g y. g y.0.0.0) (ahead_back m (config m (after m h xs)) c b.0.0.0)

  succ : Succ (config m (after m h xs))
  succ = runs.succ_holds m h (after m h xs).packets X Ahead' All' (λ c b. (b.0.0.1, b.0.0.0)) all_keeps (λ g. (start_below m g, start_owned m g)) Chained chained back (λ c z b a s k r acks hand. ready c z b a s r acks) xs give
      (record { cluster = has_header m h xs; sent = λ x i. i; ahead = record { low = λ u. omega arith; told = λ u k t less. t } })

  -- a unit that is new in a chain of a decided layout brings its cells
  pub joins_bring : (q : Layout) → X q
  joins_bring q d p dp e pos u here new below = by d
    where
      by : K m h xs q → Brought u q.epoch pos
      by (inl f) = let i = from_one m h xs header give p dp in let j = ap (λ (z : Layout). z.epoch) f in absurd (omega (arith, e, i, j))
      by (inr w) = (succ.sent w.proposed.packet q.epoch w.ballot q w.proposed.sent w.proposed.is).more d p dp e pos u here new below
