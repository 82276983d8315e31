-- The log has exactly the settled cells, trimmed or not; so what it has stays.
use Rattle.std.proofs.Common.{◌≡◌, ◌⊎◌, ℕ, ◌<◌, ◌≤◌, List, [], ◌∷◌, ◌++◌, Bool, true, false, refl, sym, ap, ◌∙◌, subst, inl, inr, arith, Option, Some, None, append-nil}
use Rattle.std.specs.Prelude.{nat_lt}
use Rattle.tg_base.specs.Clusters.{Header, IsHeader}
use Rattle.tg_base.specs.Layouts.{Layout}
use Rattle.tg_base.specs.declared.cell.Cell.{Cell}
use Rattle.tg_base.specs.declared.msg.Msg.TheVariants as msg
use Rattle.tg_base.specs.declared.packet.Packet.{Packet}
use Rattle.tg_kind.specs.Meaning.{Meaning}
use Rattle.tg_model.specs.Kinds.{EventOf}
use Rattle.tg_protocol.specs.Words.{cell_at, or_else}
use Rattle.tg_protocol.specs.Layouts.{first_layout, chain_of}
use Rattle.tg_protocol.specs.Units.{UnitState, new_unit}
use Rattle.tg_protocol.specs.Cells.{place_in, last_unit}
use Rattle.tg_protocol.specs.Logs.{Log, unit_cells, chain_cell, log_cell, newest}
use Rattle.tg_protocol.specs.Worlds.{World, start, unit, latest, log, archived, happens, next_event}
use Rattle.tg_protocol.specs.Runs.{Move, Moves, Next, Takes, run, LawfulCommand}
use Rattle.tg_protocol.specs.Chosen.{Sent}
use Rattle.tg_protocol.specs.Holding.{LogStays, HasCell}
use Rattle.tg_law_layouts.specs.Moves.After.{after}
use Rattle.tg_law_layouts.specs.Moves.Configs.{config, unit_in}
use Rattle.tg_law_layouts.proofs.Moves.Always.{lawful_give}
use Rattle.tg_law_layouts.proofs.Moves.Lists.{contained, at_replicate}
use Rattle.tg_law_layouts.proofs.Moves.Members.{Has, has_contained}
use Rattle.tg_law_layouts.proofs.Moves.Moves.{AllGive}
use Rattle.tg_law_layouts.proofs.Moves.Scripts.{run_both}
use Rattle.tg_law_layouts.proofs.Requests.Told.{told_holds}
use Rattle.tg_law_layouts.proofs.Requests.Starts.{known as base}
use Rattle.tg_law_layouts.proofs.Layouts.Layouts.{more, has_header, pax}
use Rattle.tg_law_layouts.proofs.Layouts.Latest.{newest_known, newest_last}
use Rattle.tg_law_layouts.proofs.Layouts.Standing.{known_grows}
use Rattle.tg_law_layouts.proofs.Layouts.Deciding.{K, known, decided_for, rules}
use Rattle.tg_law_cells.specs.Cells.Settled.{HadBefore, IsSettled}
use Rattle.tg_law_cells.proofs.Cells.Befores.{has_at}
use Rattle.tg_law_cells.proofs.Cells.Justified.{ToldBy}
use Rattle.tg_law_cells.proofs.Cells.Stores.{up_to}
use Rattle.tg_law_cells.proofs.Cells.Sent.{told_grows}
use Rattle.tg_law_cells.proofs.Cells.Settles.{Settled, Rooted, Got, Next as NextLayout, ToldBefore, last_settles, settled_once, settled_present}
use Rattle.tg_law_cells.proofs.Cells.Successors.{words}
use Rattle.tg_law_cells.proofs.Cells.Successors as successors
use Rattle.tg_law_cells.proofs.Cells.Settling.{told_by, joins_of, before_of, facts, roots, told_here, whole_here}
use Rattle.tg_law_cells.specs.Entries.Archive.{TrimsWereSafe, AlwaysBySafeTrims, EachLaterBySafeTrims, LogIsSettled, LogIsOne, TrimmedInLog}
use Rattle.tg_law_cells.proofs.Entries.Lists.{joined, some_same, none_cell, read_has, has_read}
use Rattle.tg_law_cells.proofs.Entries.Logged.{chain_has, whole_chain, log_has, log_is}
use Rattle.tg_law_cells.proofs.Entries.Steps.{WasAsked, Does, Still, Trims, does, low_in, below_at, past_at}

-- Whatever a unit was ever asked to trim is in the log.
abbrev pub TrimsSafe : (m : Meaning) → World m → Type 0
TrimsSafe m w = (x : Packet) (epoch below p : ℕ) → Sent m w x → x.msg ≡ msg.Trim epoch below → p < below → HasCell m w p

module _ (m : Meaning) (h : Header) (xs : Moves m) (header : IsHeader h) (give : AllGive m (LawfulCommand m) xs) where
  abbrev w : World m
  w = after m h xs

  abbrev ps : List Packet
  ps = (after m h xs).packets

  -- The latest layout.

  latest_is : latest m (after m h xs) ≡ newest (first_layout h) (after m h xs).packets h.layouts
  unfolding latest
  latest_is = ap (λ (x : Header). newest (first_layout x) (after m h xs).packets x.layouts) (has_header m h xs)

  latest_known : K m h xs (latest m (after m h xs))
  latest_known = subst (λ (q : Layout). K m h xs q) (sym latest_is) (newest_known h.layouts (first_layout h) (after m h xs).packets (pax m h xs))

  latest_last : (q : Layout) → K m h xs q → q.epoch ≤ (latest m (after m h xs)).epoch
  latest_last q k = subst (λ (r : Layout). q.epoch ≤ r.epoch) (sym latest_is) (newest_last h.layouts (first_layout h) (after m h xs).packets (pax m h xs) q k)

  -- Settled cells, in the words of the argument and in those of the laws.

  inner : (p : ℕ) (c : Cell) → (s : IsSettled m (after m h xs) p c) → Settled words (K m h xs) (after m h xs).packets s.layout.epoch p c
  inner p c s = record { layout = s.layout; decided = (known m h xs s.layout.epoch s.layout s.decided).0; up_to = omega arith; told = λ k less. told_by _ _ _ _ c (s.told k less) }

  outer : (e p : ℕ) (c : Cell) → Settled words (K m h xs) (after m h xs).packets e p c → IsSettled m (after m h xs) p c
  outer e p c s = record { layout = s.layout; decided = decided_for m h xs header give s.layout s.decided; told = λ k less. up_to (after m h xs).packets _ _ _ c (s.told k less) }

  once_here : (p : ℕ) (c d : Cell) → IsSettled m (after m h xs) p c → IsSettled m (after m h xs) p d → c ≡ d
  once_here p c d s t =
      settled_once words (K m h xs) _ (facts m h xs header give (told_here m h xs header give)) (roots m h xs header give (told_here m h xs header give)).tells p d c t.layout.epoch s.layout.epoch (inner p d t) (inner p c s)

  -- What the whole chain of the latest layout has is settled.

  last_has : (p : ℕ) → Has (chain_of (latest m (after m h xs)) p) (last_unit (place_in (latest m (after m h xs)) p))
  last_has p = let l = successors.some_there (latest m (after m h xs)) p (rules m h xs header give (latest m (after m h xs)) latest_known) in has_at (chain_of (latest m (after m h xs)) p) _ (omega (arith, l))

  root_settled : (u e p : ℕ) (x : Cell) → u ≡ last_unit (place_in (latest m (after m h xs)) p) → Rooted words (K m h xs) (after m h xs).packets u e p x → IsSettled m (after m h xs) p x
  root_settled u e p x is r = by r.how
    where
      le : r.layout.epoch ≤ (latest m (after m h xs)).epoch
      le = latest_last r.layout r.decided

      got : (v : ℕ) → v ≡ last_unit (place_in (latest m (after m h xs)) p) → Got words (K m h xs) (after m h xs).packets v p x r.layout → IsSettled m (after m h xs) p x
      got v i g = outer _ p x (last_settles words (K m h xs) _ (facts m h xs header give (told_here m h xs header give)) (latest m (after m h xs)) p x latest_known
          (subst (λ (n : ℕ). ToldBy (after m h xs).packets n (latest m (after m h xs)).epoch p x) i
          (record { claim = g.own.claim; tells = g.own.tells; epoch = (let a = g.own.epoch in let b = latest_last r.layout r.decided in omega (arith, a, b)); pos = g.own.pos; cell = g.own.cell }))
          (record { layout = r.layout; decided = r.decided; up_to = latest_last r.layout r.decided; how = inl (subst (λ (n : ℕ). Got words (K m h xs) (after m h xs).packets n p x r.layout) i g) }))

      by : Got words (K m h xs) (after m h xs).packets u p x r.layout ⊎ Settled words (K m h xs) (after m h xs).packets r.layout.epoch p x → IsSettled m (after m h xs) p x
      by (inl g) = got u is g
      by (inr s) = outer r.layout.epoch p x s

  chain_settled : (p : ℕ) (x : Cell) → chain_cell (after m h xs).units p (chain_of (latest m (after m h xs)) p) ≡ Some x → IsSettled m (after m h xs) p x
  chain_settled p x e =
      root_settled (last_unit (place_in (latest m (after m h xs)) p)) _ p x refl
      ((roots m h xs header give (told_here m h xs header give)).cells (last_unit (place_in (latest m (after m h xs)) p)) p x
      (chain_has (after m h xs).units p (chain_of (latest m (after m h xs)) p) x e (last_unit (place_in (latest m (after m h xs)) p)) (last_has p)))

  -- Each unit of that chain has a settled cell, or has trimmed it.

  abbrev Low : ℕ → ℕ → Type 0
  Low u p = p < (unit_in m (config m (after m h xs)) u).low

  brought : (p q : Layout) (pos u : ℕ) → K m h xs p → K m h xs q → NextLayout words p q → words.Joins p q pos u → pos < q.start → ToldBefore words (K m h xs) (after m h xs).packets u q.epoch pos ⊎ Low u pos
  brought p q pos u a b n j less = had (whole_here m h xs header give p q pos u (joins_of m h xs header give (told_here m h xs header give) p q pos u a b n j less))
    where
      had : HadBefore (after m h xs).packets u q.epoch pos ⊎ Low u pos → ToldBefore words (K m h xs) (after m h xs).packets u q.epoch pos ⊎ Low u pos
      had (inl y) = inl (before_of m h xs header give (told_here m h xs header give) u q.epoch pos y)
      had (inr y) = inr y

  unit_has : (u p : ℕ) (c : Cell) → IsSettled m (after m h xs) p c → Has (chain_of (latest m (after m h xs)) p) u → (cell_at (unit_cells (after m h xs).units u) p ≡ Some c) ⊎ Low u p
  unfolding inner
  unit_has u p c s g = by (settled_present words (K m h xs) _ (facts m h xs header give (told_here m h xs header give)) Low brought (roots m h xs header give (told_here m h xs header give)).tells p c s.layout.epoch (inner p c s) (latest m (after m h xs)) latest_known (latest_last s.layout (known m h xs s.layout.epoch s.layout s.decided).0) u g)
    where
      by : ToldBy (after m h xs).packets u (latest m (after m h xs)).epoch p c ⊎ Low u p → (cell_at (unit_cells (after m h xs).units u) p ≡ Some c) ⊎ Low u p
      by (inl t) = subst (λ (y : Cell). (cell_at (unit_cells (after m h xs).units u) p ≡ Some y) ⊎ Low u p) t.cell
          (subst (λ (n : ℕ). (cell_at (unit_cells (after m h xs).units u) n ≡ Some t.claim.cell) ⊎ Low u n) t.pos
          (told_holds m (config m (after m h xs)) u t.claim (base m h xs) t.tells).cell)
      by (inr t) = inr t

  each_or_low : (p : ℕ) (c : Cell) (units : List ℕ) → ((u : ℕ) → Has units u → (cell_at (unit_cells (after m h xs).units u) p ≡ Some c) ⊎ Low u p) → ((u : ℕ) → Has units u → cell_at (unit_cells (after m h xs).units u) p ≡ Some c) ⊎ ((u : ℕ) × Low u p)
  each_or_low p c [] f = inl (λ u g. absurd g)
  each_or_low p c (v ∷ rest) f = by (f v (inl refl)) (each_or_low p c rest (λ u g. f u (inr g)))
    where
      each : cell_at (unit_cells (after m h xs).units v) p ≡ Some c → ((u : ℕ) → Has rest u → cell_at (unit_cells (after m h xs).units u) p ≡ Some c) → (u : ℕ) → Has (v ∷ rest) u → cell_at (unit_cells (after m h xs).units u) p ≡ Some c
      each e k u (inl s) = subst (λ (n : ℕ). cell_at (unit_cells (after m h xs).units n) p ≡ Some c) (sym s) e
      each e k u (inr g) = k u g

      by : (cell_at (unit_cells (after m h xs).units v) p ≡ Some c) ⊎ Low v p → ((u : ℕ) → Has rest u → cell_at (unit_cells (after m h xs).units u) p ≡ Some c) ⊎ ((u : ℕ) × Low u p)
          → ((u : ℕ) → Has (v ∷ rest) u → cell_at (unit_cells (after m h xs).units u) p ≡ Some c) ⊎ ((u : ℕ) × Low u p)
      by (inr l) k = inr (v, l)
      by (inl e) (inr l) = inr l
      by (inl e) (inl k) = inl (each e k)

-- What holds of each world of a run: the archive has settled cells, and all that was trimmed.
pub record Whole (m : Meaning) (w : World m) : Type 0 where
  pub archived : (p : ℕ) (c : Cell) → cell_at w.archive p ≡ Some c → IsSettled m w p c
  pub trimmed : (u p : ℕ) → p < low_in m w.units u → (c : Cell) × (cell_at w.archive p ≡ Some c)

module _ (m : Meaning) (h : Header) (xs : Moves m) (header : IsHeader h) (give : AllGive m (LawfulCommand m) xs) (k : Whole m (after m h xs)) where
  abbrev reads : ℕ → Option Cell
  reads p = log_cell (latest m (after m h xs)) (after m h xs).units (after m h xs).archive p

  pub settled_at : (p : ℕ) (c : Cell) → log_cell (latest m (after m h xs)) (after m h xs).units (after m h xs).archive p ≡ Some c → IsSettled m (after m h xs) p c
  settled_at p c e = by (chain_cell (after m h xs).units p (chain_of (latest m (after m h xs)) p)) refl e
    where
      by : (o : Option Cell) → chain_cell (after m h xs).units p (chain_of (latest m (after m h xs)) p) ≡ o → or_else o (cell_at (after m h xs).archive p) ≡ Some c → IsSettled m (after m h xs) p c
      by None i f = k.archived p c f
      by (Some x) i f = chain_settled m h xs header give p c (i ∙ f)

  pub at_settled : (p : ℕ) (c : Cell) → IsSettled m (after m h xs) p c → log_cell (latest m (after m h xs)) (after m h xs).units (after m h xs).archive p ≡ Some c
  at_settled p c s = by (chain_cell (after m h xs).units p (chain_of (latest m (after m h xs)) p)) refl
    where
      from_archive : (u : ℕ) → p < low_in m (after m h xs).units u → cell_at (after m h xs).archive p ≡ Some c
      from_archive u l = let a = k.trimmed u p l in a.1 ∙ ap (λ (y : Cell). Some y) (once_here m h xs header give p a.0 c (k.archived p a.0 a.1) s)

      whole : ((u : ℕ) → Has (chain_of (latest m (after m h xs)) p) u → cell_at (unit_cells (after m h xs).units u) p ≡ Some c) ⊎ ((u : ℕ) × (p < low_in m (after m h xs).units u))
          → chain_cell (after m h xs).units p (chain_of (latest m (after m h xs)) p) ≡ None → cell_at (after m h xs).archive p ≡ Some c
      whole (inl f) i = none_cell c (sym i ∙ whole_chain (after m h xs).units p (chain_of (latest m (after m h xs)) p) c (successors.some_there (latest m (after m h xs)) p (rules m h xs header give (latest m (after m h xs)) (latest_known m h xs header give))) f)
      whole (inr l) i = from_archive l.0 l.1

      by : (o : Option Cell) → chain_cell (after m h xs).units p (chain_of (latest m (after m h xs)) p) ≡ o → log_cell (latest m (after m h xs)) (after m h xs).units (after m h xs).archive p ≡ Some c
      by None i = ap (λ o. or_else o (cell_at (after m h xs).archive p)) i ∙ whole (each_or_low m h xs header give p c (chain_of (latest m (after m h xs)) p) (λ u g. unit_has m h xs header give u p c s g)) i
      by (Some x) i = ap (λ o. or_else o (cell_at (after m h xs).archive p)) i ∙ ap (λ (y : Cell). Some y) (once_here m h xs header give p x c (chain_settled m h xs header give p x i) s)

  pub log_settled : LogIsSettled m (after m h xs)
  log_settled = record {
    settled = λ p c g. settled_at p c (log_is m (after m h xs) p c (has_contained _ (p, c) g));
    has = λ p c s. contained _ (p, c) (log_has m (after m h xs) p c (at_settled p c s));
  }

  -- what a log has at a position is read there, and is settled
  pub record Read (p : ℕ) : Type 0 where
    pub cell : Cell
    pub reads : cell_at (log m (after m h xs)) p ≡ Some cell
    pub settled : IsSettled m (after m h xs) p cell

  read_in : (p : ℕ) (c : Cell) → Has (log m (after m h xs)) (p, c) → Read p
  read_in p c g =
      let a = has_read (log m (after m h xs)) p c g in
      record { cell = a.0; reads = a.1; settled = settled_at p a.0 (log_is m (after m h xs) p a.0 (read_has (log m (after m h xs)) p a.0 a.1)) }

  pub read_trimmed : (u p : ℕ) → p < low_in m (after m h xs).units u → Read p
  read_trimmed u p l = let a = k.trimmed u p l in read_in p a.0 (log_has m (after m h xs) p a.0 (at_settled p a.0 (k.archived p a.0 a.1)))

  pub read_asked : TrimsSafe m (after m h xs) → (p : ℕ) → WasAsked m (after m h xs) p → Read p
  read_asked safe p a = let c = safe a.packet a.asks.epoch a.asks.below p (contained _ a.packet a.sent) a.asks.is a.asks.past in read_in p c.0 (has_contained _ (p, c.0) c.1)

-- A settled cell is one later.

module _ (m : Meaning) (h : Header) (xs ys : Moves m) (header : IsHeader h) (give : AllGive m (LawfulCommand m) (xs ++ ys)) where
  pub settled_later : (p : ℕ) (c : Cell) → IsSettled m (after m h xs) p c → IsSettled m (after m h (xs ++ ys)) p c
  settled_later p c s = record {
    layout = s.layout;
    decided = decided_for m h (xs ++ ys) header give s.layout (known_grows h.layouts (first_layout h) (after m h xs).packets (after m h (xs ++ ys)).packets (more m h xs ys) s.layout (known m h xs s.layout.epoch s.layout s.decided).0);
    told = λ k less. up_to (after m h (xs ++ ys)).packets _ _ _ c (told_grows (after m h xs).packets (after m h (xs ++ ys)).packets (more m h xs ys) _ _ _ c (told_by _ _ _ _ c (s.told k less)));
  }

-- A step.

module _ (m : Meaning) where
  then_next : (h : Header) (xs : Moves m) → after m h (xs ++ Next ∷ []) ≡ next_event m (after m h xs)
  unfolding run
  then_next h xs = run_both m xs (Next ∷ []) (start m h)

  then_takes : (h : Header) (xs : Moves m) (e : EventOf m) → after m h (xs ++ Takes e ∷ []) ≡ happens m (after m h xs) e
  unfolding run
  then_takes h xs e = run_both m xs (Takes e ∷ []) (start m h)

  on_next : (h : Header) (xs : Moves m) → IsHeader h → AllGive m (LawfulCommand m) (xs ++ Next ∷ []) → Whole m (after m h xs) → Whole m (next_event m (after m h xs))
  on_next h xs header give k = record {
    archived = λ p c i. subst (λ (v : World m). IsSettled m v p c) (then_next h xs) (settled_later m h xs (Next ∷ []) header give p c (k.archived p c i));
    trimmed = λ u p l. k.trimmed u p l;
  }

  module _ (h : Header) (xs : Moves m) (e : EventOf m) (header : IsHeader h) (before : AllGive m (LawfulCommand m) xs) (give : AllGive m (LawfulCommand m) (xs ++ Takes e ∷ [])) (k : Whole m (after m h xs)) (safe : TrimsSafe m (after m h xs)) where
    grown : (p : ℕ) (c : Cell) → IsSettled m (after m h xs) p c → IsSettled m (happens m (after m h xs) e) p c
    grown p c s = subst (λ (v : World m). IsSettled m v p c) (then_takes h xs e) (settled_later m h xs (Takes e ∷ []) header give p c s)

    less_is : (p low : ℕ) → nat_lt p low ≡ true → p < low
    less_is p low t = grind arith

    not_less : (p low : ℕ) → p < low → nat_lt p low ≡ false → ⊥
    not_less p low l t = grind arith

    module _ (n low : ℕ) (asked : (p : ℕ) → p < low → (p < low_in m (after m h xs).units n) ⊎ WasAsked m (after m h xs) p) where
      abbrev dropped : Log
      dropped = archived m (unit m (after m h xs) n).cells low (after m h xs).archive

      read : (p : ℕ) → p < low → Read m h xs header before k p
      read p l = by (asked p l)
        where
          by : (p < low_in m (after m h xs).units n) ⊎ WasAsked m (after m h xs) p → Read m h xs header before k p
          by (inl a) = read_trimmed m h xs header before k n p a
          by (inr a) = read_asked m h xs header before k safe p a

      old_at : (p : ℕ) → nat_lt p low ≡ false → cell_at (archived m (log m (after m h xs)) low dropped) p ≡ cell_at (after m h xs).archive p
      old_at p t = past_at m (log m (after m h xs)) low dropped p t ∙ past_at m (unit m (after m h xs) n).cells low (after m h xs).archive p t

      new_archived : (p : ℕ) (c : Cell) → cell_at (archived m (log m (after m h xs)) low dropped) p ≡ Some c → IsSettled m (happens m (after m h xs) e) p c
      new_archived p c i = by (nat_lt p low) refl
        where
          by : (b : Bool) → nat_lt p low ≡ b → IsSettled m (happens m (after m h xs) e) p c
          by true t =
              let r = read p (less_is p low t) in
              subst (λ (y : Cell). IsSettled m (happens m (after m h xs) e) p y) (some_same r.cell c (sym (below_at m (log m (after m h xs)) low dropped p r.cell t r.reads) ∙ i)) (grown p r.cell r.settled)
          by false t = grown p c (k.archived p c (sym (old_at p t) ∙ i))

      new_trimmed : (p l : ℕ) → p < l → (l ≡ low) ⊎ ((u : ℕ) × (l ≡ low_in m (after m h xs).units u)) → (c : Cell) × (cell_at (archived m (log m (after m h xs)) low dropped) p ≡ Some c)
      new_trimmed p l less how = by (nat_lt p low) refl how
        where
          by : (b : Bool) → nat_lt p low ≡ b → (l ≡ low) ⊎ ((u : ℕ) × (l ≡ low_in m (after m h xs).units u)) → (c : Cell) × (cell_at (archived m (log m (after m h xs)) low dropped) p ≡ Some c)
          by true t i = let r = read p (less_is p low t) in (r.cell, below_at m (log m (after m h xs)) low dropped p r.cell t r.reads)
          by false t (inl i) = absurd (not_less p low (omega (arith, less, i)) t)
          by false t (inr i) = let j = i.1 in let a = k.trimmed i.0 p (omega (arith, less, j)) in (a.0, old_at p t ∙ a.1)

    on_does : Does m (after m h xs) (happens m (after m h xs) e).units (happens m (after m h xs) e).archive → Whole m (happens m (after m h xs) e)
    on_does (Still lows same) = record {
      archived = λ p c i. grown p c (k.archived p c (sym (ap (λ (l : Log). cell_at l p) same) ∙ i));
      trimmed = λ u p l. let j = lows u in let a = k.trimmed u p (omega (arith, l, j)) in (a.0, ap (λ (x : Log). cell_at x p) same ∙ a.1);
    }
    on_does (Trims n low asked is lows) = record {
      archived = λ p c i. new_archived n low asked p c (sym (ap (λ (l : Log). cell_at l p) is) ∙ i);
      trimmed = λ u p l. let a = new_trimmed n low asked p (low_in m (happens m (after m h xs) e).units u) l (which u (lows u)) in (a.0, ap (λ (x : Log). cell_at x p) is ∙ a.1);
    }
      where
        which : (u : ℕ) → (low_in m (happens m (after m h xs) e).units u ≡ low_in m (after m h xs).units u) ⊎ (low_in m (happens m (after m h xs) e).units u ≡ low)
            → (low_in m (happens m (after m h xs) e).units u ≡ low) ⊎ ((v : ℕ) × (low_in m (happens m (after m h xs) e).units u ≡ low_in m (after m h xs).units v))
        which u (inl i) = inr (u, i)
        which u (inr i) = inl i

    pub on_event : Whole m (happens m (after m h xs) e)
    on_event = on_does (does m (after m h xs) e)

  -- A run.

  give_left : (xs ys : Moves m) → AllGive m (LawfulCommand m) (xs ++ ys) → AllGive m (LawfulCommand m) xs
  give_left [] ys g = tt
  give_left (Next ∷ xs) ys g = give_left xs ys g
  give_left (Takes e ∷ xs) ys g = (g.0, give_left xs ys g.1)

  module _ (h : Header) (zs : Moves m) (header : IsHeader h) (give : AllGive m (LawfulCommand m) zs) (safe : TrimsWereSafe m h zs) where
    left : (xs ys : Moves m) → zs ≡ xs ++ ys → AllGive m (LawfulCommand m) xs
    left xs ys e = give_left xs ys (subst (λ (ms : Moves m). AllGive m (LawfulCommand m) ms) e give)

    shifts : (xs : Moves m) (x : Move m) (ys : Moves m) → zs ≡ xs ++ x ∷ ys → zs ≡ (xs ++ x ∷ []) ++ ys
    shifts xs x ys e = e ∙ sym (joined xs (x ∷ []) ys)

    -- what the log has it has after a further move
    kept : (xs : Moves m) (x : Move m) → AllGive m (LawfulCommand m) xs → AllGive m (LawfulCommand m) (xs ++ x ∷ []) → Whole m (after m h xs) → Whole m (after m h (xs ++ x ∷ []))
        → (p : ℕ) → HasCell m (after m h xs) p → HasCell m (after m h (xs ++ x ∷ [])) p
    kept xs x before now k l p c =
        (c.0, (log_settled m h (xs ++ x ∷ []) header now l).has p c.0 (settled_later m h xs (x ∷ []) header now p c.0 ((log_settled m h xs header before k).settled p c.0 c.1)))

    next_safe : (xs : Moves m) → AllGive m (LawfulCommand m) xs → AllGive m (LawfulCommand m) (xs ++ Next ∷ []) → Whole m (after m h xs) → Whole m (after m h (xs ++ Next ∷ []))
        → TrimsSafe m (after m h xs) → TrimsSafe m (after m h (xs ++ Next ∷ []))
    next_safe xs before now k l old x epoch below p sent is less =
        kept xs Next before now k l p (old x epoch below p (subst (λ (v : World m). Sent m v x) (then_next h xs) sent) is less)

    event_safe : (xs : Moves m) (e : EventOf m) (ms : Moves m) → zs ≡ xs ++ Takes e ∷ ms → AllGive m (LawfulCommand m) xs → AllGive m (LawfulCommand m) (xs ++ Takes e ∷ [])
        → Whole m (after m h xs) → Whole m (after m h (xs ++ Takes e ∷ [])) → TrimsSafe m (after m h xs) → TrimsSafe m (after m h (xs ++ Takes e ∷ []))
    event_safe xs e ms split before now k l old x epoch below p sent is less =
        kept xs (Takes e) before now k l p (by (safe xs e ms split x epoch below (subst (λ (v : World m). Sent m v x) (then_takes h xs e) sent) is))
      where
        by : Sent m (after m h xs) x ⊎ ((q : ℕ) → q < below → HasCell m (after m h xs) q) → HasCell m (after m h xs) p
        by (inl s) = old x epoch below p s is less
        by (inr f) = f p less

    whole_on : (xs ms : Moves m) → zs ≡ xs ++ ms → Whole m (after m h xs) → TrimsSafe m (after m h xs) → Whole m (after m h zs)
    whole_on xs [] e k old = subst (λ (ys : Moves m). Whole m (after m h ys)) (sym (e ∙ append-nil xs)) k
    whole_on xs (Next ∷ ms) e k old =
        let before = left xs (Next ∷ ms) e in
        let now = left (xs ++ Next ∷ []) ms (shifts xs Next ms e) in
        let l = subst (λ (v : World m). Whole m v) (sym (then_next h xs)) (on_next h xs header now k) in
        whole_on (xs ++ Next ∷ []) ms (shifts xs Next ms e) l (next_safe xs before now k l old)
    whole_on xs (Takes x ∷ ms) e k old =
        let before = left xs (Takes x ∷ ms) e in
        let now = left (xs ++ Takes x ∷ []) ms (shifts xs (Takes x) ms e) in
        let l = subst (λ (v : World m). Whole m v) (sym (then_takes h xs x)) (on_event h xs x header before now k old) in
        whole_on (xs ++ Takes x ∷ []) ms (shifts xs (Takes x) ms e) l (event_safe xs x ms e before now k l old)

    start_whole : Whole m (after m h [])
    unfolding run start new_unit
    start_whole = record {
      archived = λ p c i. none_cell c i;
      trimmed = λ u. at_replicate h.units new_unit u new_unit (λ (t : UnitState). (p : ℕ) → p < t.low → (c : Cell) × (cell_at [] p ≡ Some c)) (λ p l. absurd (omega (arith, l))) (λ p l. absurd (omega (arith, l)));
    }

    start_safe : TrimsSafe m (after m h [])
    unfolding run start
    start_safe x epoch below p sent is less = absurd (has_contained [] x sent)

    pub whole_run : Whole m (after m h zs)
    whole_run = whole_on [] zs refl start_whole start_safe

  -- The laws.

  safe_left : (h : Header) (xs ys : Moves m) → TrimsWereSafe m h (xs ++ ys) → TrimsWereSafe m h xs
  safe_left h xs ys safe before e later split = safe before e (later ++ ys) (ap (λ (ms : Moves m). ms ++ ys) split ∙ joined before (Takes e ∷ later) ys)

  pub always_safe : (P : World m → Type 0) → ((h : Header) (ms : Moves m) → IsHeader h → AllGive m (LawfulCommand m) ms → TrimsWereSafe m h ms → P (after m h ms)) → AlwaysBySafeTrims m P
  always_safe P f h ms w r safe = subst P (sym r.goes.is) (f h ms r.header (lawful_give m (start m h).cluster ms r.goes.lawful) safe)

  both_give : (xs ys : Moves m) → AllGive m (LawfulCommand m) xs → AllGive m (LawfulCommand m) ys → AllGive m (LawfulCommand m) (xs ++ ys)
  both_give [] ys a b = b
  both_give (Next ∷ xs) ys a b = both_give xs ys a b
  both_give (Takes e ∷ xs) ys a b = (a.0, both_give xs ys a.1 b)

  later_is : (h : Header) (xs ys : Moves m) (w v : World m) → w ≡ after m h xs → v ≡ run m ys w → after m h (xs ++ ys) ≡ v
  later_is h xs ys w v a b = run_both m xs ys (start m h) ∙ sym (b ∙ ap (λ u. run m ys u) a)

  pub later_safe : (P : World m → World m → Type 0)
      → ((h : Header) (xs ys : Moves m) → IsHeader h → AllGive m (LawfulCommand m) xs → AllGive m (LawfulCommand m) (xs ++ ys) → TrimsWereSafe m h (xs ++ ys) → P (after m h xs) (after m h (xs ++ ys))) → EachLaterBySafeTrims m P
  later_safe P f h xs w v r l safe =
      let a = lawful_give m (start m h).cluster xs r.goes.lawful in
      let b = both_give xs l.0 a (lawful_give m w.cluster l.0 l.1.lawful) in
      subst (λ u. P u v) (sym r.goes.is) (subst (λ u. P (after m h xs) u) (later_is h xs l.0 w v r.goes.is l.1.is) (f h xs l.0 r.header a b safe))

  settled_run : (h : Header) (ms : Moves m) → IsHeader h → AllGive m (LawfulCommand m) ms → TrimsWereSafe m h ms → LogIsSettled m (after m h ms)
  settled_run h ms header give safe = log_settled m h ms header give (whole_run h ms header give safe)

  module _ (h : Header) (xs ys : Moves m) (header : IsHeader h) (a : AllGive m (LawfulCommand m) xs) (b : AllGive m (LawfulCommand m) (xs ++ ys)) (safe : TrimsWereSafe m h (xs ++ ys)) where
    early : LogIsSettled m (after m h xs)
    early = settled_run h xs header a (safe_left h xs ys safe)

    late : LogIsSettled m (after m h (xs ++ ys))
    late = settled_run h (xs ++ ys) header b safe

    stays_here : LogStays m (after m h xs) (after m h (xs ++ ys))
    stays_here p c g = late.has p c (settled_later m h xs ys header b p c (early.settled p c g))

    one_here : LogIsOne m (after m h xs) (after m h (xs ++ ys))
    one_here p c d g i = once_here m h (xs ++ ys) header b p c d (settled_later m h xs ys header b p c (early.settled p c g)) (late.settled p d i)

  pub cells_stay : EachLaterBySafeTrims m (LogStays m)
  cells_stay = later_safe (LogStays m) (λ h xs ys header a b safe. stays_here h xs ys header a b safe)

  pub one_cell : EachLaterBySafeTrims m (LogIsOne m)
  one_cell = later_safe (LogIsOne m) (λ h xs ys header a b safe. one_here h xs ys header a b safe)

  pub log_is_settled : AlwaysBySafeTrims m (LogIsSettled m)
  log_is_settled = always_safe (LogIsSettled m) settled_run

  trimmed_here : (h : Header) (ms : Moves m) → IsHeader h → AllGive m (LawfulCommand m) ms → TrimsWereSafe m h ms → TrimmedInLog m (after m h ms)
  trimmed_here h ms header give safe u p l =
      let k = whole_run h ms header give safe in
      let r = read_trimmed m h ms header give k u p l in
      (r.cell, contained _ (p, r.cell) (read_has (log m (after m h ms)) p r.cell r.reads))

  pub trimmed_is_in_log : AlwaysBySafeTrims m (TrimmedInLog m)
  trimmed_is_in_log = always_safe (TrimmedInLog m) trimmed_here
