-- Over a run, each cell of a unit came down a chain or was settled, seen from the world that the run ends with.
use Rattle.std.proofs.Common.{◌≡◌, ◌⊎◌, ℕ, ◌<◌, ◌≤◌, List, length, refl, sym, ap, ◌∙◌, subst, inl, inr, arith, Some, Option}
use Rattle.std.specs.Prelude.{slice_index, slice_index_or}
use Rattle.tg_base.specs.Layouts.{Layout}
use Rattle.tg_base.specs.Clusters.{Header}
use Rattle.tg_base.specs.declared.cell.Cell.{Cell}
use Rattle.tg_base.specs.declared.ids.NodeId.{NodeId}
use Rattle.tg_base.specs.declared.ids.Role.TheVariants as role
use Rattle.tg_base.specs.declared.msg.Msg.{Msg}
use Rattle.tg_base.specs.declared.msg.Msg.TheVariants as msg
use Rattle.tg_base.specs.declared.packet.Packet.{Packet}
use Rattle.tg_kind.specs.Meaning.{Meaning}
use Rattle.tg_protocol.specs.Words.{unit_id, cell_at}
use Rattle.tg_protocol.specs.Layouts.{first_layout, chain_of}
use Rattle.tg_protocol.specs.Units.{UnitState, new_unit, unit_ask}
use Rattle.tg_protocol.specs.Cells.{Place, place_in, unit_at}
use Rattle.tg_protocol.specs.Worlds.{start, answer_to}
use Rattle.tg_law_layouts.proofs.Moves.Members.{Has, has_left, has_right}
use Rattle.tg_law_layouts.specs.Moves.Configs.{Config, config, unit_in}
use Rattle.tg_law_layouts.specs.Moves.Telling.{Claim, claimed}
use Rattle.tg_law_layouts.proofs.Moves.Lists.{at_set, at_replicate}
use Rattle.tg_law_layouts.proofs.Moves.Units.{unit_grows, unit_stores}
use Rattle.tg_law_layouts.proofs.Moves.Moves.{Cases, Comes, unit_turn, keeps_above, run_keeps}
use Rattle.tg_law_layouts.proofs.Moves.Growth.{IsCalm, by_unit}
use Rattle.tg_law_layouts.proofs.Requests.Answered.{turn_on}
use Rattle.tg_law_layouts.proofs.Requests.Told.{Tells, Base, tells_or_anew, Anew, old_tells}
use Rattle.tg_law_layouts.proofs.Requests.Starts.{base_of}
use Rattle.tg_law_cells.proofs.Cells.Justified.{ToldBy, Upto}
use Rattle.tg_law_cells.proofs.Cells.Jobs.{CellOk}
use Rattle.tg_law_layouts.proofs.Layouts.Standing.{IsKnown, known_grows}
use Rattle.tg_law_cells.proofs.Cells.Sent.{Justified, GoesDown, GoesOn, GoesAside, told_grows}
use Rattle.tg_law_cells.proofs.Cells.Chains.{K, Cells}
use Rattle.tg_law_cells.proofs.Cells.Stores.{Below, start_below, keeps as low_keeps}
use Rattle.tg_law_cells.proofs.Cells.Settles.{Words, Settled, Rooted, end_settles, Line as Facts}
use Rattle.tg_protocol.specs.Runs.{Moves}
use Rattle.tg_law_layouts.specs.Moves.After.{after}

-- what is stored was sent down a chain or aside
pub stored_just : (ps : List Packet) (L : Layout → Type 0) (to : NodeId) (y : Msg) (k : Claim) → claimed (unit_ask y) msg.Held ≡ Some k → Justified ps L to y → GoesDown ps L to k.epoch k.pos k.cell ⊎ GoesAside ps L k.epoch k.pos k.cell
unfolding claimed unit_ask
stored_just ps L to (msg.Write e p d) k is j = inl (subst (λ (x : Claim). GoesDown ps L to x.epoch x.pos x.cell) (same _ k is) j)
  where
    same : (x y : Claim) → Some x ≡ Some y → x ≡ y
    same x y e = cc
stored_just ps L to (msg.Fill e p) k is j = inl (subst (λ (x : Claim). GoesDown ps L to x.epoch x.pos x.cell) (same _ k is) j)
  where
    same : (x y : Claim) → Some x ≡ Some y → x ≡ y
    same x y e = cc
stored_just ps L to (msg.Copy e p c) k is j = by j
  where
    same : (x y : Claim) → Some x ≡ Some y → x ≡ y
    same x y e = cc

    by : GoesOn ps L to e p c ⊎ GoesAside ps L e p c → GoesDown ps L to k.epoch k.pos k.cell ⊎ GoesAside ps L k.epoch k.pos k.cell
    by (inl g) = inl (subst (λ (x : Claim). GoesDown ps L to x.epoch x.pos x.cell) (same _ k is) g.0)
    by (inr g) = inr (subst (λ (x : Claim). GoesAside ps L x.epoch x.pos x.cell) (same _ k is) g)
stored_just ps L to y k is j = absurd (cc)

module _ (m : Meaning) (h : Header) (s : Words) (final : List Packet) where
  -- decided, as far as the last world tells
  abbrev pub D : Layout → Type 0
  D = IsKnown h.layouts (first_layout h) final

  module _ (l : Facts s D final) where
    abbrev pub Root : ℕ → ℕ → ℕ → Cell → Type 0
    Root = Rooted s D final

    pub record Roots (c : Config m) : Type 0 where
      pub cells : (u p : ℕ) (x : Cell) → cell_at (unit_in m c u).cells p ≡ Some x → Root u (unit_in m c u).epoch p x
      pub tells : (u : ℕ) (k : Claim) → Tells c.packets u k → Root u k.epoch k.pos k.cell

    -- a world of the run
    pub record Early (c : Config m) : Type 0 where
      pub cluster : c.cluster ≡ h
      pub sent : (x : Packet) → Has c.packets x → Has final x

    pub record Kept (c : Config m) : Type 0 where
      pub roots : Early c → Roots c

    root_later : (u e f p : ℕ) (x : Cell) → e ≤ f → Root u e p x → Root u f p x
    root_later u e f p x le r = record { layout = r.layout; decided = r.decided; up_to = (let a = r.up_to in omega (arith, a, le)); how = r.how }

    root_settled : (u e p : ℕ) (x : Cell) → Settled s D final e p x → Root u e p x
    root_settled u e p x y = record { layout = y.layout; decided = y.decided; up_to = y.up_to; how = inr (record { layout = y.layout; decided = y.decided; up_to = omega arith; told = y.told }) }

    known_of : (c : Config m) → Early c → (q : Layout) → K m c c.packets q → D q
    known_of c a q k = known_grows h.layouts (first_layout h) c.packets final a.sent q (subst (λ (x : Header). IsKnown x.layouts (first_layout x) c.packets q) a.cluster k)

    module _ (c : Config m) (a : Early c) (r : Roots c) (u : ℕ) where
      told_root : (v e p : ℕ) (x : Cell) → ToldBy c.packets v e p x → Root v e p x
      told_root v e p x t = subst (λ (y : Cell). Root v e p y) t.cell (subst (λ (q : ℕ). Root v e q t.claim.cell) t.pos (root_later v t.claim.epoch e t.claim.pos t.claim.cell t.epoch (r.tells v t.claim t.tells)))

      later : (v e p : ℕ) (x : Cell) → ToldBy c.packets v e p x → ToldBy final v e p x
      later v e p x t = told_grows c.packets final a.sent v e p x t

      less_or : (i n : ℕ) → (i < n) ⊎ (n ≤ i)
      less_or i n = grind arith

      down_root : (to : NodeId) (e p : ℕ) (x : Cell) → to ≡ unit_id u → ToldBy final u e p x → GoesDown c.packets (K m c c.packets) to e p x → Root u e p x
      down_root to e p x is own g = by (less_or g.index (length (chain_of g.layout p)))
        where
          at : g.place ≡ place_in g.layout p
          at = g.at ∙ ap (λ (n : ℕ). place_in g.layout n) (sym g.pos)

          epoch : e ≡ g.layout.epoch
          epoch = g.epoch ∙ ap (λ (b : Place). b.epoch) at

          told : Upto final (place_in g.layout p) x g.index
          told = subst (λ (b : Place). Upto final b x g.index) at (λ k less. later _ _ _ x (g.told k less))

          unit : slice_index (chain_of g.layout p) g.index ≡ u
          unit = sym (ap (λ (n : NodeId). n.num) (sym is ∙ subst (λ (b : Place). to ≡ unit_id (unit_at b g.index)) at g.unit))

          by : (g.index < length (chain_of g.layout p)) ⊎ (length (chain_of g.layout p) ≤ g.index) → Root u e p x
          by (inl less) = record {
            layout = g.layout;
            decided = known_of c a g.layout g.known;
            up_to = omega (arith, epoch);
            how = inl (record { place = g.index; at = record { within = less; is = unit }; own = subst (λ (f : ℕ). ToldBy final u f p x) epoch own; told = told });
          }
          by (inr le) = root_settled u e p x (record { layout = g.layout; decided = known_of c a g.layout g.known; up_to = omega (arith, epoch); told = λ k less. told k (omega (arith, less, le)) })

      aside_root : (e p : ℕ) (x : Cell) → GoesAside c.packets (K m c c.packets) e p x → Root u e p x
      aside_root e p x g = by g.told
        where
          d : D g.layout
          d = known_of c a g.layout g.known

          settled : Settled s D final g.layout.epoch p x → Root u e p x
          settled y = root_settled u e p x (subst (λ (f : ℕ). Settled s D final f p x) (sym g.epoch) y)

          by : CellOk c.packets g.layout p x → Root u e p x
          by (inl f) = settled (record { layout = g.layout; decided = d; up_to = omega arith; told = λ k less. later _ _ _ x (f k less) })
          by (inr t) = settled (end_settles s D final l g.layout p x d (λ _. told_root _ _ p x t) (inr (later _ _ p x t)))

    abbrev Low : Config m → Type 0
    Low c = Below m c × Cells m c

    base : (c : Config m) → Low c → Base m c
    base c b = base_of m c b.0.0.0

    -- units are quiet
    calm : (c : Config m) → Low c → Kept c → IsCalm m role.Unit c (λ d. Low d → Kept d)
    calm c b k d q low = record {
      roots = λ a.
          let r = k.roots (record { cluster = sym q.cluster ∙ a.cluster; sent = λ x g. a.sent x (q.grows.sent x g) }) in
          record {
            cells = λ u p x i. subst (λ us. Root u (slice_index_or us u new_unit).epoch p x) (sym (q.units refl)) (r.cells u p x (subst (λ us. cell_at (slice_index_or us u new_unit).cells p ≡ Some x) (q.units refl) i));
            tells = λ u e t. r.tells u e (old_tells m c d u e q (base d low) t (base c b));
          };
    }

    own : (c : Config m) → Low c → Kept c → (u : ℕ) (p : Packet) → Comes m c p (unit_id u) → u < length c.units → Low (unit_turn m c u p (turn_on m c u p)) → Kept (unit_turn m c u p (turn_on m c u p))
    own c b k u p comes less low = record { roots = both }
      where
        d : Config m
        d = unit_turn m c u p (turn_on m c u p)

        both : Early (unit_turn m c u p (turn_on m c u p)) → Roots (unit_turn m c u p (turn_on m c u p))
        both a = record {
          cells = at_set c.units u (turn_on m c u p).now (λ v. new_unit) (λ v t. (q : ℕ) (x : Cell) → cell_at t.cells q ≡ Some x → Root v t.epoch q x) less here (λ v other q x i. r.cells v q x i);
          tells = λ v e t. by v e (tells_or_anew m c (base c b) b.0.0.1 u p comes less (base _ low) v e t);
        }
          where
            early : Early c
            early = record { cluster = a.cluster; sent = λ x g. a.sent x (has_left c.packets _ x g) }

            r : Roots c
            r = k.roots early

            -- it stores a cell
            fresh : (q : ℕ) (x : Cell) → (turn_on m c u p).says ≡ Some msg.Held → claimed (unit_ask p.msg) msg.Held ≡ Some (record { epoch = (turn_on m c u p).now.epoch; pos = q; cell = x }) → Root u (turn_on m c u p).now.epoch q x
            fresh q x says is = which (stored_just c.packets (K m c c.packets) p.to p.msg _ is (b.1.sent p comes.sent))
              where
                answer : Packet
                answer = record { from = p.to; to = p.from; rid = p.rid; msg = msg.Held }

                told : ToldBy final u (turn_on m c u p).now.epoch q x
                told = record {
                  claim = record { epoch = (turn_on m c u p).now.epoch; pos = q; cell = x };
                  tells = record {
                    ask = p;
                    answer = record { from = p.to; to = p.from; rid = p.rid; msg = msg.Held };
                    asked = early.sent p comes.sent;
                    answered = a.sent _ (has_right c.packets _ _ (subst (λ (o : Option Msg). Has (answer_to m p o) (record { from = p.to; to = p.from; rid = p.rid; msg = msg.Held })) (sym says) (inl refl)));
                    to_unit = comes.to_node;
                    from_unit = comes.to_node;
                    back = refl;
                    number = refl;
                    tells = is;
                  };
                  epoch = omega arith;
                  pos = refl;
                  cell = refl;
                }

                which : GoesDown c.packets (K m c c.packets) p.to (turn_on m c u p).now.epoch q x ⊎ GoesAside c.packets (K m c c.packets) (turn_on m c u p).now.epoch q x → Root u (turn_on m c u p).now.epoch q x
                which (inl g) = down_root c early r u p.to _ q x comes.to_node told g
                which (inr g) = aside_root c early r u _ q x g

            here : (q : ℕ) (x : Cell) → cell_at (turn_on m c u p).now.cells q ≡ Some x → Root u (turn_on m c u p).now.epoch q x
            here q x i = which (unit_stores (unit_in m c u) p.msg q x i)
              where
                which : (cell_at (unit_in m c u).cells q ≡ Some x) ⊎ (((turn_on m c u p).says ≡ Some msg.Held) × (claimed (unit_ask p.msg) msg.Held ≡ Some (record { epoch = (turn_on m c u p).now.epoch; pos = q; cell = x }))) → Root u (turn_on m c u p).now.epoch q x
                which (inl e) = root_later u _ _ q x (unit_grows (unit_in m c u) p.msg).epoch (r.cells u q x e)
                which (inr e) = fresh q x e.0 e.1

            by : (v : ℕ) (e : Claim) → Tells c.packets v e ⊎ Anew m c (base c b) b.0.0.1 u p comes less (base _ low) v e → Root v e.epoch e.pos e.cell
            by v e (inl t) = r.tells v e t
            by v e (inr n) = subst (λ (w : ℕ). Root w e.epoch e.pos e.cell) (sym n.unit) (subst (λ (f : ℕ). Root u f e.pos e.cell) (sym n.holds.epoch) (here e.pos e.cell n.holds.cell))

    kept_keep : (c : Config m) → Low c → Kept c → Cases m c (λ d. Low d → Kept d)
    kept_keep c b k = by_unit m (λ d. Low d → Kept d) c (λ _. k) (calm c b k) (λ u p a less low. own c b k u p a less low)

    start_kept : (g : Header) → Kept (config m (start m g))
    unfolding start new_unit
    start_kept g = record {
      roots = λ a. record {
        cells = λ u. at_replicate g.units new_unit u new_unit (λ (t : UnitState). (p : ℕ) (x : Cell) → cell_at t.cells p ≡ Some x → Root u t.epoch p x) (λ p x i. absurd (cc)) (λ p x i. absurd (cc));
        tells = λ u k t. absurd t.asked;
      };
    }

    pub roots_hold : (g : Header) (xs : Moves m) → Early (config m (after m g xs)) → Roots (config m (after m g xs))
    roots_hold g xs a = (run_keeps m (λ c. Low c × Kept c) (keeps_above m Low Kept (low_keeps m) kept_keep) xs (start m g) (start_below m g, start_kept g)).1.roots a
