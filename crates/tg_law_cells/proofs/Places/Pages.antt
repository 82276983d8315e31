-- Over a run, each page that a unit of a late layout's chain has told was sent early, or late, seen from the world that the run
-- ends with.
use Rattle.std.proofs.Common.{◌≡◌, ◌⊎◌, ℕ, ◌-◌, ◌<◌, ◌≤◌, List, length, refl, sym, ap, ◌∙◌, subst, inl, inr, arith, Some, Option}
use Rattle.std.specs.Prelude.{slice_index_or}
use Rattle.tg_base.specs.Layouts.{Layout}
use Rattle.tg_base.specs.Clusters.{Header}
use Rattle.tg_base.specs.declared.cell.Cell.{Cell}
use Rattle.tg_base.specs.declared.cell.Cell.TheVariants.{Junk, Data}
use Rattle.tg_base.specs.declared.ids.NodeId.{NodeId}
use Rattle.tg_base.specs.declared.ids.Role.TheVariants as role
use Rattle.tg_base.specs.declared.msg.Msg.{Msg}
use Rattle.tg_base.specs.declared.msg.Msg.TheVariants as msg
use Rattle.tg_base.specs.declared.packet.Packet.{Packet}
use Rattle.tg_kind.specs.Meaning.{Meaning}
use Rattle.tg_protocol.specs.Words.{unit_id, cell_at}
use Rattle.tg_protocol.specs.Layouts.{first_layout, chain_of}
use Rattle.tg_protocol.specs.Units.{UnitState, new_unit, unit_ask}
use Rattle.tg_protocol.specs.Cells.{Place, place_in, unit_at, last_unit}
use Rattle.tg_protocol.specs.Runs.{Moves}
use Rattle.tg_protocol.specs.Worlds.{start, answer_to}
use Rattle.tg_law_layouts.specs.Moves.After.{after}
use Rattle.tg_law_layouts.specs.Moves.Configs.{Config, config, unit_in}
use Rattle.tg_law_layouts.specs.Moves.Telling.{Claim, claimed}
use Rattle.tg_law_layouts.proofs.Moves.Growth.{IsCalm, by_unit}
use Rattle.tg_law_layouts.proofs.Moves.Lists.{at_set, at_replicate}
use Rattle.tg_law_layouts.proofs.Moves.Members.{Has, has_left, has_right}
use Rattle.tg_law_layouts.proofs.Moves.Moves.{Cases, Comes, unit_turn, keeps_above, run_keeps}
use Rattle.tg_law_layouts.proofs.Moves.Units.{unit_stores}
use Rattle.tg_law_layouts.proofs.Requests.Answered.{turn_on}
use Rattle.tg_law_layouts.proofs.Requests.Starts.{base_of}
use Rattle.tg_law_layouts.proofs.Requests.Told.{Tells, Base, Anew, tells_or_anew, old_tells}
use Rattle.tg_law_layouts.proofs.Layouts.Standing.{IsKnown, known_grows}
use Rattle.tg_law_cells.proofs.Cells.Befores.{has_at}
use Rattle.tg_law_cells.proofs.Cells.Chains.{K, Cells}
use Rattle.tg_law_cells.proofs.Cells.Jobs.{CellOk}
use Rattle.tg_law_cells.proofs.Cells.Justified.{ToldBy}
use Rattle.tg_law_cells.proofs.Cells.Sent.{Justified, GoesOn, GoesAside}
use Rattle.tg_law_cells.proofs.Cells.Stores.{Below, start_below, keeps as low_keeps}
use Rattle.tg_law_cells.proofs.Homes.Homing.{Carried}

-- What a stored page came from: its writer, or a unit of the same chain that has told it.

module _ (ps : List Packet) (L : Layout → Type 0) (some : (q : Layout) (p : ℕ) → L q → 0 < length (chain_of q p)) where
  on_carries : (to : NodeId) (e p : ℕ) (c : Cell) → GoesOn ps L to e p c → Carried ps L e p c
  on_carries to e p c g = record {
    layout = g.0.layout;
    known = g.0.known;
    epoch = g.0.epoch ∙ ap (λ (a : Place). a.epoch) at;
    unit = unit_at (place_in g.0.layout p) 0;
    here = has_at (chain_of g.0.layout p) 0 (some g.0.layout p g.0.known);
    told = subst (λ (n : ℕ). ToldBy ps (unit_at (place_in g.0.layout p) 0) n p c) (sym (g.0.epoch ∙ ap (λ (a : Place). a.epoch) at))
        (subst (λ (a : Place). ToldBy ps (unit_at a 0) a.epoch a.pos c) at (g.0.told 0 g.1));
  }
    where
      at : g.0.place ≡ place_in g.0.layout p
      at = g.0.at ∙ ap (λ (n : ℕ). place_in g.0.layout n) (sym g.0.pos)

  aside_carries : (e p : ℕ) (c : Cell) → GoesAside ps L e p c → Carried ps L e p c
  aside_carries e p c g = by g.told
    where
      less : 0 < length (chain_of g.layout p)
      less = some g.layout p g.known

      carried : (u : ℕ) → Has (chain_of g.layout p) u → ToldBy ps u g.layout.epoch p c → Carried ps L e p c
      carried u h t = record { layout = g.layout; known = g.known; epoch = g.epoch; unit = u; here = h; told = subst (λ (n : ℕ). ToldBy ps u n p c) (sym g.epoch) t }

      by : CellOk ps g.layout p c → Carried ps L e p c
      by (inl f) = carried _ (has_at (chain_of g.layout p) 0 less) (f 0 less)
      by (inr t) = carried (last_unit (place_in g.layout p)) (has_at (chain_of g.layout p) (length (chain_of g.layout p) - 1) (omega (arith, less))) t

  stored_page : (to : NodeId) (y : Msg) (k : Claim) (d : List ℕ) → claimed (unit_ask y) msg.Held ≡ Some k → k.cell ≡ Data d → Justified ps L to y → (y ≡ msg.Write k.epoch k.pos d) ⊎ Carried ps L k.epoch k.pos k.cell
  unfolding claimed unit_ask
  stored_page to (msg.Write f q x) k d is cell j = inl (written (same _ k is))
    where
      same : (y z : Claim) → Some y ≡ Some z → y ≡ z
      same y z i = cc

      same_page : Data x ≡ Data d → x ≡ d
      same_page i = cc

      written : record { epoch = f; pos = q; cell = Data x } ≡ k → msg.Write f q x ≡ msg.Write k.epoch k.pos d
      written i = let a : f ≡ k.epoch = ap (λ (z : Claim). z.epoch) i in let b : q ≡ k.pos = ap (λ (z : Claim). z.pos) i in let c : x ≡ d = same_page (ap (λ (z : Claim). z.cell) i ∙ cell) in λ n. msg.Write (a n) (b n) (c n)
  stored_page to (msg.Fill f q) k d is cell j = absurd (no (ap (λ (z : Claim). z.cell) (same _ k is) ∙ cell))
    where
      same : (y z : Claim) → Some y ≡ Some z → y ≡ z
      same y z i = cc

      no : Junk ≡ Data d → ⊥
      no i = cc
  stored_page to (msg.Copy f q c) k d is cell j = inr (subst (λ (x : Claim). Carried ps L x.epoch x.pos x.cell) (same _ k is) (by j))
    where
      same : (x y : Claim) → Some x ≡ Some y → x ≡ y
      same x y i = cc

      by : GoesOn ps L to f q c ⊎ GoesAside ps L f q c → Carried ps L f q c
      by (inl g) = on_carries to f q c g
      by (inr g) = aside_carries f q c g
  stored_page to y k d is cell j = absurd (cc)

module _ (m : Meaning) (h : Header) (final : List Packet) where
  -- decided, as far as the last world tells
  abbrev pub D : Layout → Type 0
  D = IsKnown h.layouts (first_layout h) final

  -- of an epoch, and of what is to be shown of pages
  module _ (F : ℕ) (P : ℕ → List ℕ → Type 0) where
    -- it holds of a page that a unit of a late layout's chain has
    abbrev pub Late : ℕ → ℕ → List ℕ → Type 0
    Late n p d = (r : Layout) → D r → Has (chain_of r p) n → F ≤ r.epoch → P p d

    module _ (some : (q : Layout) (p : ℕ) → D q → 0 < length (chain_of q p))
        (early : (n p : ℕ) (d : List ℕ) (k : Claim) → Tells final n k → k.pos ≡ p → k.cell ≡ Data d → k.epoch < F → Late n p d)
        (wrote : (x : Packet) (e p : ℕ) (d : List ℕ) → Has final x → x.msg ≡ msg.Write e p d → F ≤ e → P p d) where
      pub record Lates (c : Config m) : Type 0 where
        pub cells : (n p : ℕ) (d : List ℕ) → cell_at (unit_in m c n).cells p ≡ Some (Data d) → Late n p d
        pub tells : (n : ℕ) (k : Claim) (d : List ℕ) → Tells c.packets n k → k.cell ≡ Data d → Late n k.pos d

      -- a world of the run
      pub record Before (c : Config m) : Type 0 where
        pub cluster : c.cluster ≡ h
        pub sent : (x : Packet) → Has c.packets x → Has final x

      pub record Kept (c : Config m) : Type 0 where
        pub lates : Before c → Lates c

      abbrev Low : Config m → Type 0
      Low c = Below m c × Cells m c

      base : (c : Config m) → Low c → Base m c
      base c b = base_of m c b.0.0.0

      known_of : (c : Config m) → Before c → (q : Layout) → K m c c.packets q → D q
      known_of c a q k = known_grows h.layouts (first_layout h) c.packets final a.sent q (subst (λ (x : Header). IsKnown x.layouts (first_layout x) c.packets q) a.cluster k)

      calm : (c : Config m) → Low c → Kept c → IsCalm m role.Unit c (λ d. Low d → Kept d)
      calm c b k d q low = record {
        lates = λ a.
            let r = k.lates (record { cluster = sym q.cluster ∙ a.cluster; sent = λ x g. a.sent x (q.grows.sent x g) }) in
            record {
              cells = λ u p x i. r.cells u p x (subst (λ us. cell_at (slice_index_or us u new_unit).cells p ≡ Some (Data x)) (q.units refl) i);
              tells = λ u e x t i. r.tells u e x (old_tells m c d u e q (base d low) t (base c b)) i;
            };
      }

      module _ (c : Config m) (b : Low c) (k : Kept c) (u : ℕ) (p : Packet) (comes : Comes m c p (unit_id u)) (less : u < length c.units) (low : Low (unit_turn m c u p (turn_on m c u p))) (a : Before (unit_turn m c u p (turn_on m c u p))) where
        was : Before c
        was = record { cluster = a.cluster; sent = λ x g. a.sent x (has_left c.packets _ x g) }

        r : Lates c
        r = k.lates was

        -- it stores a page
        fresh : (q : ℕ) (d : List ℕ) → (turn_on m c u p).says ≡ Some msg.Held → claimed (unit_ask p.msg) msg.Held ≡ Some (record { epoch = (turn_on m c u p).now.epoch; pos = q; cell = Data d }) → Late u q d
        fresh q d says is y dy here up = by (le_or_more F e)
          where
            e : ℕ
            e = (turn_on m c u p).now.epoch

            le_or_more : (x z : ℕ) → (x ≤ z) ⊎ (z < x)
            le_or_more x z = grind arith

            told : Tells final u (record { epoch = (turn_on m c u p).now.epoch; pos = q; cell = Data d })
            told = record {
              ask = p;
              answer = record { from = p.to; to = p.from; rid = p.rid; msg = msg.Held };
              asked = was.sent p comes.sent;
              answered = a.sent _ (has_right c.packets _ _ (subst (λ (o : Option Msg). Has (answer_to m p o) (record { from = p.to; to = p.from; rid = p.rid; msg = msg.Held })) (sym says) (inl refl)));
              to_unit = comes.to_node;
              from_unit = comes.to_node;
              back = refl;
              number = refl;
              tells = is;
            }

            from : F ≤ (turn_on m c u p).now.epoch → (p.msg ≡ msg.Write (turn_on m c u p).now.epoch q d) ⊎ Carried c.packets (K m c c.packets) (turn_on m c u p).now.epoch q (Data d) → P q d
            from late (inl w) = wrote p (turn_on m c u p).now.epoch q d (was.sent p comes.sent) w late
            from late (inr g) = (subst (λ (n : ℕ). Late g.unit n d) g.told.pos (r.tells g.unit g.told.claim d g.told.tells g.told.cell)) g.layout (known_of c was g.layout g.known) g.here (let x = g.epoch in omega (arith, x, late))

            by : (F ≤ (turn_on m c u p).now.epoch) ⊎ ((turn_on m c u p).now.epoch < F) → P q d
            by (inl late) = from late (stored_page c.packets (K m c c.packets) (λ z n j. some z n (known_of c was z j)) p.to p.msg (record { epoch = (turn_on m c u p).now.epoch; pos = q; cell = Data d }) d is refl (b.1.sent p comes.sent))
            by (inr soon) = early u q d (record { epoch = (turn_on m c u p).now.epoch; pos = q; cell = Data d }) told refl refl soon y dy here up

        here : (q : ℕ) (d : List ℕ) → cell_at (turn_on m c u p).now.cells q ≡ Some (Data d) → Late u q d
        here q d i = which (unit_stores (unit_in m c u) p.msg q (Data d) i)
          where
            which : (cell_at (unit_in m c u).cells q ≡ Some (Data d)) ⊎ (((turn_on m c u p).says ≡ Some msg.Held) × (claimed (unit_ask p.msg) msg.Held ≡ Some (record { epoch = (turn_on m c u p).now.epoch; pos = q; cell = Data d }))) → Late u q d
            which (inl e) = r.cells u q d e
            which (inr e) = fresh q d e.0 e.1

        told_now : (v : ℕ) (e : Claim) (d : List ℕ) → e.cell ≡ Data d → Tells c.packets v e ⊎ Anew m c (base c b) b.0.0.1 u p comes less (base _ low) v e → Late v e.pos d
        told_now v e d i (inl t) = r.tells v e d t i
        told_now v e d i (inr n) = subst (λ (w : ℕ). Late w e.pos d) (sym n.unit) (here e.pos d (n.holds.cell ∙ ap (λ (y : Cell). Some y) i))

        own : Lates (unit_turn m c u p (turn_on m c u p))
        own = record {
          cells = at_set c.units u (turn_on m c u p).now (λ v. new_unit) (λ v t. (q : ℕ) (d : List ℕ) → cell_at t.cells q ≡ Some (Data d) → Late v q d) less here (λ v other q d i. r.cells v q d i);
          tells = λ v e d t i. told_now v e d i (tells_or_anew m c (base c b) b.0.0.1 u p comes less (base _ low) v e t);
        }

      kept_keep : (c : Config m) → Low c → Kept c → Cases m c (λ d. Low d → Kept d)
      kept_keep c b k = by_unit m (λ d. Low d → Kept d) c (λ _. k) (calm c b k) (λ u p a less low. record { lates = λ e. own c b k u p a less low e })

      start_kept : (g : Header) → Kept (config m (start m g))
      unfolding start new_unit
      start_kept g = record {
        lates = λ a. record {
          cells = λ u. at_replicate g.units new_unit u new_unit (λ (t : UnitState). (p : ℕ) (d : List ℕ) → cell_at t.cells p ≡ Some (Data d) → Late u p d) (λ p d i. absurd (cc)) (λ p d i. absurd (cc));
          tells = λ u k d t i. absurd t.asked;
        };
      }

      pub lates_hold : (g : Header) (xs : Moves m) → Before (config m (after m g xs)) → Lates (config m (after m g xs))
      lates_hold g xs a = (run_keeps m (λ c. Low c × Kept c) (keeps_above m Low Kept (low_keeps m) kept_keep) xs (start m g) (start_below m g, start_kept g)).1.lates a
