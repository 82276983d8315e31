-- Over a run, each page that a unit has told came from a page that was sent in some epoch, seen from the world that the
-- run ends with.
use Rattle.std.proofs.Common.{◌≡◌, ◌⊎◌, ℕ, zero, suc, ◌+◌, ◌-◌, ◌<◌, ◌≤◌, List, length, refl, sym, ap, ◌∙◌, subst, inl, inr, arith, Some, Option}
use Rattle.std.specs.Prelude.{slice_index, slice_index_or}
use Rattle.tg_base.specs.Layouts.{Layout}
use Rattle.tg_base.specs.Clusters.{Header}
use Rattle.tg_base.specs.declared.cell.Cell.{Cell}
use Rattle.tg_base.specs.declared.cell.Cell.TheVariants.{Junk, Data}
use Rattle.tg_base.specs.declared.ids.NodeId.{NodeId}
use Rattle.tg_base.specs.declared.ids.Role.TheVariants as role
use Rattle.tg_base.specs.declared.msg.Msg.{Msg}
use Rattle.tg_base.specs.declared.msg.Msg.TheVariants as msg
use Rattle.tg_base.specs.declared.packet.Packet.{Packet}
use Rattle.tg_kind.specs.Meaning.{Meaning}
use Rattle.tg_protocol.specs.Words.{unit_id, cell_at}
use Rattle.tg_protocol.specs.Layouts.{first_layout, chain_of}
use Rattle.tg_protocol.specs.Units.{UnitState, new_unit, unit_ask}
use Rattle.tg_protocol.specs.Cells.{Place, place_in, unit_at, last_unit}
use Rattle.tg_protocol.specs.Runs.{Moves}
use Rattle.tg_protocol.specs.Worlds.{start, answer_to}
use Rattle.tg_law_layouts.specs.Moves.After.{after}
use Rattle.tg_law_layouts.specs.Moves.Configs.{Config, config, unit_in}
use Rattle.tg_law_layouts.specs.Moves.Telling.{Claim, claimed}
use Rattle.tg_law_layouts.proofs.Moves.Growth.{IsCalm, by_unit}
use Rattle.tg_law_layouts.proofs.Moves.Lists.{at_set, at_replicate}
use Rattle.tg_law_layouts.proofs.Moves.Members.{Has, has_left, has_right}
use Rattle.tg_law_layouts.proofs.Moves.Moves.{Cases, Comes, unit_turn, keeps_above, run_keeps}
use Rattle.tg_law_layouts.proofs.Moves.Units.{unit_grows, unit_stores}
use Rattle.tg_law_layouts.proofs.Requests.Answered.{turn_on}
use Rattle.tg_law_layouts.proofs.Requests.Starts.{base_of}
use Rattle.tg_law_layouts.proofs.Requests.Told.{Tells, Base, Anew, tells_or_anew, old_tells}
use Rattle.tg_law_layouts.proofs.Layouts.Standing.{IsKnown, known_grows}
use Rattle.tg_law_cells.proofs.Cells.Befores.{has_at}
use Rattle.tg_law_cells.proofs.Cells.Chains.{K, Cells}
use Rattle.tg_law_cells.proofs.Cells.Jobs.{CellOk}
use Rattle.tg_law_cells.proofs.Cells.Justified.{ToldBy}
use Rattle.tg_law_cells.proofs.Cells.Sent.{Justified, GoesDown, GoesOn, GoesAside, told_grows}
use Rattle.tg_law_cells.proofs.Cells.Settles.{Words, Settled, Rooted, Got, told_sealed, along, gone_stays, apart, settled_below, Line as Facts}
use Rattle.tg_law_cells.proofs.Cells.Stores.{Below, start_below, keeps as low_keeps}

abbrev claim_of : ℕ → ℕ → List ℕ → Claim
claim_of e p d = record { epoch = e; pos = p; cell = Data d }

-- A unit of a layout's chain has told a cell, in the layout's epoch or before.
pub record Carried (ps : List Packet) (L : Layout → Type 0) (e p : ℕ) (c : Cell) : Type 0 where
  pub layout : Layout
  pub known : L layout
  pub epoch : e ≡ layout.epoch
  pub unit : ℕ
  pub here : Has (chain_of layout p) unit
  pub told : ToldBy ps unit e p c

module _ (ps : List Packet) (L : Layout → Type 0) (some : (q : Layout) (p : ℕ) → L q → 0 < length (chain_of q p)) where
  on_carries : (to : NodeId) (e p : ℕ) (c : Cell) → GoesOn ps L to e p c → Carried ps L e p c
  on_carries to e p c g = record {
    layout = g.0.layout;
    known = g.0.known;
    epoch = g.0.epoch ∙ ap (λ (a : Place). a.epoch) at;
    unit = unit_at (place_in g.0.layout p) 0;
    here = has_at (chain_of g.0.layout p) 0 (some g.0.layout p g.0.known);
    told = subst (λ (n : ℕ). ToldBy ps (unit_at (place_in g.0.layout p) 0) n p c) (sym (g.0.epoch ∙ ap (λ (a : Place). a.epoch) at))
        (subst (λ (a : Place). ToldBy ps (unit_at a 0) a.epoch a.pos c) at (g.0.told 0 g.1));
  }
    where
      at : g.0.place ≡ place_in g.0.layout p
      at = g.0.at ∙ ap (λ (n : ℕ). place_in g.0.layout n) (sym g.0.pos)

  aside_carries : (e p : ℕ) (c : Cell) → GoesAside ps L e p c → Carried ps L e p c
  aside_carries e p c g = by g.told
    where
      less : 0 < length (chain_of g.layout p)
      less = some g.layout p g.known

      carried : (u : ℕ) → Has (chain_of g.layout p) u → ToldBy ps u g.layout.epoch p c → Carried ps L e p c
      carried u h t = record { layout = g.layout; known = g.known; epoch = g.epoch; unit = u; here = h; told = subst (λ (n : ℕ). ToldBy ps u n p c) (sym g.epoch) t }

      by : CellOk ps g.layout p c → Carried ps L e p c
      by (inl f) = carried _ (has_at (chain_of g.layout p) 0 less) (f 0 less)
      by (inr t) = carried (last_unit (place_in g.layout p)) (has_at (chain_of g.layout p) (length (chain_of g.layout p) - 1) (omega (arith, less))) t

  -- a page is sent to be stored as its writer's, or is carried on
  stored_page : (to : NodeId) (y : Msg) (e p : ℕ) (d : List ℕ) → claimed (unit_ask y) msg.Held ≡ Some (record { epoch = e; pos = p; cell = Data d }) → Justified ps L to y → (y ≡ msg.Write e p d) ⊎ Carried ps L e p (Data d)
  unfolding claimed unit_ask
  stored_page to (msg.Write f q x) e p d is j = inl (written (same _ _ is))
    where
      same : (y z : Claim) → Some y ≡ Some z → y ≡ z
      same y z i = cc

      same_page : Data x ≡ Data d → x ≡ d
      same_page i = cc

      written : claim_of f q x ≡ claim_of e p d → msg.Write f q x ≡ msg.Write e p d
      written k = let a : f ≡ e = ap (λ (z : Claim). z.epoch) k in let b : q ≡ p = ap (λ (z : Claim). z.pos) k in let c : x ≡ d = same_page (ap (λ (z : Claim). z.cell) k) in λ i. msg.Write (a i) (b i) (c i)
  stored_page to (msg.Fill f q) e p d is j = absurd (no (ap (λ (z : Claim). z.cell) (same _ _ is)))
    where
      same : (y z : Claim) → Some y ≡ Some z → y ≡ z
      same y z i = cc

      no : Junk ≡ Data d → ⊥
      no i = cc
  stored_page to (msg.Copy f q c) e p d is j = inr (by j)
    where
      same : (x y : Claim) → Some x ≡ Some y → x ≡ y
      same x y i = cc

      moved : Carried ps L f q c → Carried ps L e p (Data d)
      moved k = subst (λ (x : Claim). Carried ps L x.epoch x.pos x.cell) (same (record { epoch = f; pos = q; cell = c }) (record { epoch = e; pos = p; cell = Data d }) is) k

      by : GoesOn ps L to f q c ⊎ GoesAside ps L f q c → Carried ps L e p (Data d)
      by (inl g) = moved (on_carries to f q c g)
      by (inr g) = moved (aside_carries f q c g)
  stored_page to y e p d is j = absurd (cc)

module _ (s : Words) (D : Layout → Type 0) (ps : List Packet) where
  -- a page was sent in an epoch, in whose chain the first unit has told it; up to another one each later layout starts past it
  pub record HomeAt (p : ℕ) (d : List ℕ) (last : ℕ) : Type 0 where
    pub epoch : ℕ
    pub up_to : epoch ≤ last
    pub write : Packet
    pub sent : Has ps write
    pub is : write.msg ≡ msg.Write epoch p d
    pub layout : Layout
    pub decided : D layout
    pub of : layout.epoch ≡ epoch
    pub told : ToldBy ps (unit_at (place_in layout p) 0) epoch p (Data d)
    pub past : (q : Layout) → D q → epoch < q.epoch → q.epoch ≤ last → p < q.start

  -- a unit stored the page in an epoch up to this one, up to which it has a home
  pub record HomeOf (u epoch p : ℕ) (d : List ℕ) : Type 0 where
    pub at : ℕ
    pub up_to : at ≤ epoch
    pub told : ToldBy ps u at p (Data d)
    pub home : HomeAt p d at

  home_later : (u e f p : ℕ) (d : List ℕ) → e ≤ f → HomeOf u e p d → HomeOf u f p d
  home_later u e f p d le h = record { at = h.at; up_to = (let a = h.up_to in omega (arith, a, le)); told = h.told; home = h.home }

  module _ (l : Facts s D ps) (roots : (u : ℕ) (k : Claim) → Tells ps u k → Rooted s D ps u k.epoch k.pos k.cell) where
    le_or_more : (a b : ℕ) → (a ≤ b) ⊎ (b < a)
    le_or_more a b = grind arith

    -- what a unit told that stands in a later chain of the position lies below the start of each layout between
    stays_below : (z e p : ℕ) (c : Cell) → ToldBy ps z e p c → (r : Layout) → D r → Has (chain_of r p) z → (q : Layout) → D q → e < q.epoch → q.epoch ≤ r.epoch → p < q.start
    stays_below z e p c t r dr here q dq more le = by root.how
      where
        root : Rooted s D ps z t.claim.epoch p c
        root = subst (λ (y : Cell). Rooted s D ps z t.claim.epoch p y) t.cell (subst (λ (n : ℕ). Rooted s D ps z t.claim.epoch n t.claim.cell) t.pos (roots z t.claim t.tells))

        early : root.layout.epoch < q.epoch
        early = let a = root.up_to in let b = t.epoch in omega (arith, a, b, more)

        in_place : (n : ℕ) (g : Got s D ps z p c root.layout) → q.epoch ≡ root.layout.epoch + n → Has (chain_of q p) z ⊎ s.Gone q z → p < q.start
        in_place n g at (inl h) = told_sealed s D ps l q z root.layout.epoch p c dq (l.first root.layout root.decided) (l.stands q p z dq h) g.own early
        in_place n g at (inr gone) = absurd (l.out r z dr (gone_stays s D ps l (r.epoch - q.epoch) q r z dq dr (apart s D ps l q.epoch r.epoch le) gone) (l.stands r p z dr here))

        by : Got s D ps z p c root.layout ⊎ Settled s D ps root.layout.epoch p c → p < q.start
        by (inl g) =
            let at = apart s D ps l root.layout.epoch q.epoch (omega (arith, early)) in
            in_place (q.epoch - root.layout.epoch) g at
            (along s D ps l (q.epoch - root.layout.epoch) root.layout q z p c root.decided dq at (subst (λ (v : ℕ). Has (chain_of root.layout p) v) g.at.is (has_at (chain_of root.layout p) g.place g.at.within)) g.own)
        by (inr x) = let a = x.up_to in settled_below s D ps l (q.epoch - x.layout.epoch - 1) x.layout q p c x.decided dq (apart_more x.layout.epoch q.epoch (omega (arith, a, early))) x.told
          where
            apart_more : (a b : ℕ) → a < b → b ≡ a + suc (b - a - 1)
            apart_more a b less = grind arith

    -- in an epoch in which it is carried on it still has its home
    carries_home : (e p : ℕ) (d : List ℕ) (q : Layout) → D q → e ≡ q.epoch → (u f : ℕ) → Has (chain_of q p) u → f ≤ e → HomeOf u f p d → HomeAt p d e
    carries_home e p d r dr epoch u f here told h = record {
      epoch = h.home.epoch;
      up_to = omega (arith, first', second, told);
      write = h.home.write;
      sent = h.home.sent;
      is = h.home.is;
      layout = h.home.layout;
      decided = h.home.decided;
      of = h.home.of;
      told = h.home.told;
      past = λ q dq more le. by q dq more le (le_or_more q.epoch h.at);
    }
      where
        first' : h.home.epoch ≤ h.at
        first' = h.home.up_to

        second : h.at ≤ f
        second = h.up_to

        by : (q : Layout) → D q → h.home.epoch < q.epoch → q.epoch ≤ e → (q.epoch ≤ h.at) ⊎ (h.at < q.epoch) → p < q.start
        by q dq more le (inl x) = h.home.past q dq more x
        by q dq more le (inr x) = stays_below u h.at p (Data d) h.told r dr here q dq x (omega (arith, le, epoch))

    -- a settled page has a home for good
    pub settled_home : ((u : ℕ) (k : Claim) (d : List ℕ) → Tells ps u k → k.cell ≡ Data d → HomeOf u k.epoch k.pos d) → (e p : ℕ) (d : List ℕ) → (x : Settled s D ps e p (Data d)) → (last : ℕ) → x.layout.epoch ≤ last → HomeAt p d last
    settled_home homes e p d x last le = record {
      epoch = h.home.epoch;
      up_to = omega (arith, first', second, third, le);
      write = h.home.write;
      sent = h.home.sent;
      is = h.home.is;
      layout = h.home.layout;
      decided = h.home.decided;
      of = h.home.of;
      told = h.home.told;
      past = λ q dq more up. by q dq more (le_or_more q.epoch h.at) (le_or_more q.epoch x.layout.epoch);
    }
      where
        z : ℕ
        z = slice_index (chain_of x.layout p) 0

        less : 0 < length (chain_of x.layout p)
        less = l.some x.layout p x.decided

        t : ToldBy ps (slice_index (chain_of x.layout p) 0) x.layout.epoch p (Data d)
        t = x.told 0 less

        h : HomeOf (slice_index (chain_of x.layout p) 0) t.claim.epoch p d
        h = subst (λ (n : ℕ). HomeOf (slice_index (chain_of x.layout p) 0) t.claim.epoch n d) t.pos (homes _ t.claim d t.tells t.cell)

        first' : h.home.epoch ≤ h.at
        first' = h.home.up_to

        second : h.at ≤ t.claim.epoch
        second = h.up_to

        third : t.claim.epoch ≤ x.layout.epoch
        third = t.epoch

        apart_more : (a b : ℕ) → a < b → b ≡ a + suc (b - a - 1)
        apart_more a b more = grind arith

        by : (q : Layout) → D q → h.home.epoch < q.epoch → (q.epoch ≤ h.at) ⊎ (h.at < q.epoch) → (q.epoch ≤ x.layout.epoch) ⊎ (x.layout.epoch < q.epoch) → p < q.start
        by q dq more (inl i) j = h.home.past q dq more i
        by q dq more (inr i) (inl j) = stays_below _ h.at p (Data d) h.told x.layout x.decided (has_at (chain_of x.layout p) 0 less) q dq i j
        by q dq more (inr i) (inr j) = settled_below s D ps l (q.epoch - x.layout.epoch - 1) x.layout q p (Data d) x.decided dq (apart_more x.layout.epoch q.epoch j) x.told

-- Over a run.

module _ (m : Meaning) (h : Header) (s : Words) (final : List Packet) where
  -- decided, as far as the last world tells
  abbrev pub D : Layout → Type 0
  D = IsKnown h.layouts (first_layout h) final

  module _ (l : Facts s D final) (roots : (u : ℕ) (k : Claim) → Tells final u k → Rooted s D final u k.epoch k.pos k.cell) where
    abbrev pub Home' : ℕ → ℕ → ℕ → List ℕ → Type 0
    Home' = HomeOf s D final

    pub record Homes (c : Config m) : Type 0 where
      pub cells : (u p : ℕ) (d : List ℕ) → cell_at (unit_in m c u).cells p ≡ Some (Data d) → Home' u (unit_in m c u).epoch p d
      pub tells : (u : ℕ) (k : Claim) (d : List ℕ) → Tells c.packets u k → k.cell ≡ Data d → Home' u k.epoch k.pos d

    -- a world of the run
    pub record Early (c : Config m) : Type 0 where
      pub cluster : c.cluster ≡ h
      pub sent : (x : Packet) → Has c.packets x → Has final x

    pub record Kept (c : Config m) : Type 0 where
      pub homes : Early c → Homes c

    abbrev Low : Config m → Type 0
    Low c = Below m c × Cells m c

    base : (c : Config m) → Low c → Base m c
    base c b = base_of m c b.0.0.0

    known_of : (c : Config m) → Early c → (q : Layout) → K m c c.packets q → D q
    known_of c a q k = known_grows h.layouts (first_layout h) c.packets final a.sent q (subst (λ (x : Header). IsKnown x.layouts (first_layout x) c.packets q) a.cluster k)

    -- units are quiet
    calm : (c : Config m) → Low c → Kept c → IsCalm m role.Unit c (λ d. Low d → Kept d)
    calm c b k d q low = record {
      homes = λ a.
          let r = k.homes (record { cluster = sym q.cluster ∙ a.cluster; sent = λ x g. a.sent x (q.grows.sent x g) }) in
          record {
            cells = λ u p x i. subst (λ us. Home' u (slice_index_or us u new_unit).epoch p x) (sym (q.units refl)) (r.cells u p x (subst (λ us. cell_at (slice_index_or us u new_unit).cells p ≡ Some (Data x)) (q.units refl) i));
            tells = λ u e x t i. r.tells u e x (old_tells m c d u e q (base d low) t (base c b)) i;
          };
    }

    module _ (c : Config m) (b : Low c) (k : Kept c) (u : ℕ) (p : Packet) (comes : Comes m c p (unit_id u)) (less : u < length c.units) (low : Low (unit_turn m c u p (turn_on m c u p))) (a : Early (unit_turn m c u p (turn_on m c u p))) where
      early : Early c
      early = record { cluster = a.cluster; sent = λ x g. a.sent x (has_left c.packets _ x g) }

      r : Homes c
      r = k.homes early

      -- it stores a page
      fresh : (q : ℕ) (d : List ℕ) → (turn_on m c u p).says ≡ Some msg.Held → claimed (unit_ask p.msg) msg.Held ≡ Some (record { epoch = (turn_on m c u p).now.epoch; pos = q; cell = Data d }) → Home' u (turn_on m c u p).now.epoch q d
      fresh q d says is =
          which (stored_page c.packets (K m c c.packets) (λ y n j. l.some y n (known_of c early y j)) p.to p.msg (turn_on m c u p).now.epoch q d is (b.1.sent p comes.sent))
        where
          told : ToldBy final u (turn_on m c u p).now.epoch q (Data d)
          told = record {
            claim = record { epoch = (turn_on m c u p).now.epoch; pos = q; cell = Data d };
            tells = record {
              ask = p;
              answer = record { from = p.to; to = p.from; rid = p.rid; msg = msg.Held };
              asked = early.sent p comes.sent;
              answered = a.sent _ (has_right c.packets _ _ (subst (λ (o : Option Msg). Has (answer_to m p o) (record { from = p.to; to = p.from; rid = p.rid; msg = msg.Held })) (sym says) (inl refl)));
              to_unit = comes.to_node;
              from_unit = comes.to_node;
              back = refl;
              number = refl;
              tells = is;
            };
            epoch = omega arith;
            pos = refl;
            cell = refl;
          }

          -- the unit stands in the chain after those that have told the page
          goes : p.msg ≡ msg.Write (turn_on m c u p).now.epoch q d → GoesDown c.packets (K m c c.packets) p.to (turn_on m c u p).now.epoch q (Data d)
          goes w = subst (λ (y : Msg). Justified c.packets (K m c c.packets) p.to y) w (b.1.sent p comes.sent)

          placed : (g : GoesDown c.packets (K m c c.packets) p.to (turn_on m c u p).now.epoch q (Data d)) → g.place ≡ place_in g.layout q
          placed g = g.at ∙ ap (λ (n : ℕ). place_in g.layout n) (sym g.pos)

          of_goes : (g : GoesDown c.packets (K m c c.packets) p.to (turn_on m c u p).now.epoch q (Data d)) → g.layout.epoch ≡ (turn_on m c u p).now.epoch
          of_goes g = sym (g.epoch ∙ ap (λ (a : Place). a.epoch) (placed g))

          headed : (g : GoesDown c.packets (K m c c.packets) p.to (turn_on m c u p).now.epoch q (Data d)) → ToldBy final (unit_at (place_in g.layout q) 0) (turn_on m c u p).now.epoch q (Data d)
          headed g = subst (λ (a : Place). ToldBy final (unit_at a 0) (turn_on m c u p).now.epoch q (Data d)) (placed g) (by g.index refl)
            where
              by : (i : ℕ) → g.index ≡ i → ToldBy final (unit_at g.place 0) (turn_on m c u p).now.epoch q (Data d)
              by zero is = subst (λ (n : ℕ). ToldBy final n (turn_on m c u p).now.epoch q (Data d)) (ap (λ (n : NodeId). n.num) (sym comes.to_node ∙ g.unit) ∙ ap (λ (i : ℕ). unit_at g.place i) is) told
              by (suc i) is = subst (λ (n : ℕ). ToldBy final (unit_at g.place 0) n q (Data d)) (sym g.epoch)
                  (subst (λ (n : ℕ). ToldBy final (unit_at g.place 0) g.place.epoch n (Data d)) (sym g.pos)
                  (told_grows c.packets final early.sent (unit_at g.place 0) g.place.epoch g.place.pos (Data d) (g.told 0 (omega (arith, is)))))

          home : HomeAt s D final q d (turn_on m c u p).now.epoch → Home' u (turn_on m c u p).now.epoch q d
          home g = record { at = (turn_on m c u p).now.epoch; up_to = omega arith; told = told; home = g }

          which : (p.msg ≡ msg.Write (turn_on m c u p).now.epoch q d) ⊎ Carried c.packets (K m c c.packets) (turn_on m c u p).now.epoch q (Data d) → Home' u (turn_on m c u p).now.epoch q d
          which (inl w) = home (record { epoch = (turn_on m c u p).now.epoch; up_to = omega arith; write = p; sent = early.sent p comes.sent; is = w; layout = (goes w).layout; decided = known_of c early (goes w).layout (goes w).known; of = of_goes (goes w); told = headed (goes w); past = λ y dy more le. absurd (omega (arith, more, le)) })
          which (inr g) =
              home (carries_home s D final l roots (turn_on m c u p).now.epoch q d g.layout (known_of c early g.layout g.known) g.epoch g.unit g.told.claim.epoch g.here g.told.epoch
              (subst (λ (n : ℕ). Home' g.unit g.told.claim.epoch n d) g.told.pos (r.tells g.unit g.told.claim d g.told.tells g.told.cell)))

      here : (q : ℕ) (d : List ℕ) → cell_at (turn_on m c u p).now.cells q ≡ Some (Data d) → Home' u (turn_on m c u p).now.epoch q d
      here q d i = which (unit_stores (unit_in m c u) p.msg q (Data d) i)
        where
          which : (cell_at (unit_in m c u).cells q ≡ Some (Data d)) ⊎ (((turn_on m c u p).says ≡ Some msg.Held) × (claimed (unit_ask p.msg) msg.Held ≡ Some (record { epoch = (turn_on m c u p).now.epoch; pos = q; cell = Data d }))) → Home' u (turn_on m c u p).now.epoch q d
          which (inl e) = home_later s D final u _ _ q d (unit_grows (unit_in m c u) p.msg).epoch (r.cells u q d e)
          which (inr e) = fresh q d e.0 e.1

      told_now : (v : ℕ) (e : Claim) (d : List ℕ) → e.cell ≡ Data d → Tells c.packets v e ⊎ Anew m c (base c b) b.0.0.1 u p comes less (base _ low) v e → Home' v e.epoch e.pos d
      told_now v e d i (inl t) = r.tells v e d t i
      told_now v e d i (inr n) =
          subst (λ (w : ℕ). Home' w e.epoch e.pos d) (sym n.unit) (subst (λ (f : ℕ). Home' u f e.pos d) (sym n.holds.epoch)
          (here e.pos d (n.holds.cell ∙ ap (λ (y : Cell). Some y) i)))

      own : Homes (unit_turn m c u p (turn_on m c u p))
      own = record {
        cells = at_set c.units u (turn_on m c u p).now (λ v. new_unit) (λ v t. (q : ℕ) (d : List ℕ) → cell_at t.cells q ≡ Some (Data d) → Home' v t.epoch q d) less here (λ v other q d i. r.cells v q d i);
        tells = λ v e d t i. told_now v e d i (tells_or_anew m c (base c b) b.0.0.1 u p comes less (base _ low) v e t);
      }

    kept_keep : (c : Config m) → Low c → Kept c → Cases m c (λ d. Low d → Kept d)
    kept_keep c b k = by_unit m (λ d. Low d → Kept d) c (λ _. k) (calm c b k) (λ u p a less low. record { homes = λ e. own c b k u p a less low e })

    start_kept : (g : Header) → Kept (config m (start m g))
    unfolding start new_unit
    start_kept g = record {
      homes = λ a. record {
        cells = λ u. at_replicate g.units new_unit u new_unit (λ (t : UnitState). (p : ℕ) (d : List ℕ) → cell_at t.cells p ≡ Some (Data d) → Home' u t.epoch p d) (λ p d i. absurd (cc)) (λ p d i. absurd (cc));
        tells = λ u k d t i. absurd t.asked;
      };
    }

    pub homes_hold : (g : Header) (xs : Moves m) → Early (config m (after m g xs)) → Homes (config m (after m g xs))
    homes_hold g xs a = (run_keeps m (λ c. Low c × Kept c) (keeps_above m Low Kept (low_keeps m) kept_keep) xs (start m g) (start_below m g, start_kept g)).1.homes a
