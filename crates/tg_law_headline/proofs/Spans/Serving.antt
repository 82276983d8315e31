-- A machine that fills a cell, or probes a chain, ends so only once each unit of the chain has served a request of it.
use Rattle.std.proofs.Common.{◌≡◌, ◌⊎◌, ℕ, ◌+◌, ◌<◌, ◌≤◌, List, [], ◌∷◌, length, Bool, true, false, refl, sym, ap, ◌∙◌, subst, inl, inr, arith}
use Rattle.std.specs.Prelude.{nat_lt, not, ◌==◌, zip, if◌then◌else◌}
use Rattle.std.proofs.lemmas.Bool.Decides.{nat_tests}
use Rattle.tg_base.specs.declared.cell.Cell.{Cell}
use Rattle.tg_protocol.specs.Words.{numbers}
use Rattle.tg_protocol.specs.Requests.{Waits, waits_for, without_wait, Next, Goes, Learns, Ends}
use Rattle.tg_protocol.specs.Replies.{Reply}
use Rattle.tg_protocol.specs.Replies as replied
use Rattle.tg_protocol.specs.Cells.{Place, CellWork, Puts, Gets, Fills, Copies, Probes, CellJob, CellEnd, CellTurn, Done, Seen, unit_at, cell_feed}
use Rattle.tg_law_steps.proofs.Machines.Cells.{IsCopied, FillHeld, FillTaken, CopyHeld, CopySame, IsProbed, HasWhole, HasMissing, Fed, IsFence, IsTrim, PutsOn, PutsLast, PutRefused, ReadsCell, ReadsNone, CopiesOn, CopiesLast, ProbesLast, ProbesOn, Nothing, cell_fed}
use Rattle.tg_law_layouts.proofs.Moves.Members.{Has}
use Rattle.tg_law_cells.proofs.Cells.Befores.{at_has}

-- a unit that is asked is among those that are awaited
waits_in : (ns : List ℕ) (r n : ℕ) → Has ns n → (i : ℕ) × Has (zip ns (numbers (length ns) r)) (n, i)
waits_in [] r n h = absurd h
waits_in (x ∷ ns) r n (inl e) = (r, inl (ap (λ (y : ℕ). (y, r)) e))
waits_in (x ∷ ns) r n (inr h) = let k = waits_in ns (r + 1) n h in (k.0, inr k.1)

-- one that is taken out was it
taken_out : (u : ℕ) (ws : Waits) (n i : ℕ) → Has ws (n, i) → (n ≡ u) ⊎ Has (without_wait u ws) (n, i)
taken_out u [] n i h = absurd h
taken_out u (x ∷ ws) n i h = by (x.0 == u) refl (λ g. taken_out u ws n i g) h
  where
    same : (a b : ℕ) → (a == b) ≡ true → a ≡ b
    same a b e = grind arith

    by : (b : Bool) → (x.0 == u) ≡ b → (Has ws (n, i) → (n ≡ u) ⊎ Has (without_wait u ws) (n, i)) → Has (x ∷ ws) (n, i) → (n ≡ u) ⊎ Has (without_wait u (x ∷ ws)) (n, i)
    by true e rest (inl g) = inl (ap (λ (y : ℕ × ℕ). y.0) g ∙ same x.0 u e)
    by true e rest (inr g) = subst (λ (b : Bool). (n ≡ u) ⊎ Has (if not b then x ∷ without_wait u ws else without_wait u ws) (n, i)) (sym e) (rest g)
    by false e rest (inl g) = subst (λ (b : Bool). (n ≡ u) ⊎ Has (if not b then x ∷ without_wait u ws else without_wait u ws) (n, i)) (sym e) (inr (inl g))
    by false e rest (inr g) = subst (λ (b : Bool). (n ≡ u) ⊎ Has (if not b then x ∷ without_wait u ws else without_wait u ws) (n, i)) (sym e) (on (rest g))
      where
        on : (n ≡ u) ⊎ Has (without_wait u ws) (n, i) → (n ≡ u) ⊎ Has (x ∷ without_wait u ws) (n, i)
        on (inl k) = inl k
        on (inr k) = inr (inr k)

-- a unit has served a request of an epoch
module _ (S : ℕ → ℕ → Type 0) where
  abbrev pub AllServed : Place → Type 0
  AllServed a = (n : ℕ) → Has a.chain n → S n a.epoch

  abbrev pub FirstServed : Place → ℕ → Type 0
  FirstServed a i = (q : ℕ) → q < i → S (unit_at a q) a.epoch

  -- no page is put
  abbrev pub WorkServed : Place → CellWork → Type 0
  WorkServed a (Puts r d i) = ⊥
  WorkServed a (Gets r) = ⊥
  WorkServed a (Fills r) = Unit {0}
  WorkServed a (Copies r c i) = FirstServed a i
  WorkServed a (Probes ws) = (n : ℕ) → Has a.chain n → ((i : ℕ) × Has ws (n, i)) ⊎ S n a.epoch

  abbrev pub EndServed : Place → CellEnd → Type 0
  EndServed a (Done c) = AllServed a
  EndServed a Seen = AllServed a
  EndServed a e = Unit {0}

  abbrev pub NextServed : Place → Next CellJob CellEnd → Type 0
  NextServed a (Goes j) = (j.place ≡ a) × WorkServed a j.work
  NextServed a (Learns j) = (j.place ≡ a) × WorkServed a j.work
  NextServed a (Ends e) = EndServed a e

  -- what an answer tells that isn't a fence
  abbrev pub NotFenced : Reply → Type 0
  NotFenced x = (e : ℕ) → x ≡ replied.IsFenced e → ⊥

  abbrev pub WorkHears : Place → CellWork → ℕ → Reply → Type 0
  WorkHears a (Fills r) u x = NotFenced x → S (unit_at a 0) a.epoch
  WorkHears a (Copies r c i) u x = NotFenced x → S (unit_at a i) a.epoch
  WorkHears a (Probes ws) u x = NotFenced x → S u a.epoch
  WorkHears a w u x = Unit {0}

  not_less : (a b : ℕ) → nat_lt a b ≡ false → b ≤ a
  not_less a b e = grind (arith, nat_tests)

  at_last : (q i : ℕ) → q < i + 1 → (q < i) ⊎ (q ≡ i)
  at_last q i less = grind arith

  one_more : (a : Place) (i : ℕ) → FirstServed a i → S (unit_at a i) a.epoch → FirstServed a (i + 1)
  one_more a i k s q less = by (at_last q i less)
    where
      by : (q < i) ⊎ (q ≡ i) → S (unit_at a q) a.epoch
      by (inl l) = k q l
      by (inr e) = subst (λ (v : ℕ). S (unit_at a v) a.epoch) (sym e) s

  none_yet : (a : Place) → S (unit_at a 0) a.epoch → FirstServed a 1
  none_yet a s q less = subst (λ (v : ℕ). S (unit_at a v) a.epoch) (sym (zero_is q less)) s
    where
      zero_is : (v : ℕ) → v < 1 → v ≡ 0
      zero_is v l = grind arith

  module _ (u : ℕ) (x : Reply) (next : ℕ) where
    -- the units that a cell has been copied to
    copied : (a : Place) (w : CellWork) (c : Cell) (i : ℕ) → IsCopied u x next w c i → WorkServed a w → WorkHears a w u x → FirstServed a i
    copied a _ _ _ (FillHeld r is) k h = none_yet a (h (λ e i. cc))
    copied a _ _ _ (FillTaken r c is) k h = none_yet a (h (λ e i. cc))
    copied a _ _ _ (CopyHeld r c i is) k h = one_more a i k (h (λ e j. cc))
    copied a _ _ _ (CopySame r c i y is same) k h = one_more a i k (h (λ e j. cc))

    all_of : (a : Place) (i : ℕ) → nat_lt i (length a.chain) ≡ false → FirstServed a i → AllServed a
    all_of a i e k n h = let y = at_has a.chain n h in
        let within = y.1.within in
        let le = not_less i (length a.chain) e in
        subst (λ (v : ℕ). S v a.epoch) y.1.is (k y.0 (omega (arith, within, le)))

    -- those that are left of a probe, but for one that answers now
    probed : (a : Place) (ws vs : Waits) → IsProbed u x next ws → without_wait u ws ≡ vs → WorkServed a (Probes ws) → WorkHears a (Probes ws) u x → WorkServed a (Probes vs)
    probed a ws vs is left k h n has = by (k n has)
      where
        answers : IsProbed u x next ws → S u a.epoch
        answers (HasWhole _ is) = h (λ e j. cc)
        answers (HasMissing _ q is) = h (λ e j. cc)

        out : (i : ℕ) → (n ≡ u) ⊎ Has (without_wait u ws) (n, i) → ((i : ℕ) × Has vs (n, i)) ⊎ S n a.epoch
        out i (inl g) = inr (subst (λ (v : ℕ). S v a.epoch) (sym g) (answers is))
        out i (inr g) = inl (i, subst (λ (zs : Waits). Has zs (n, i)) left g)

        by : ((i : ℕ) × Has ws (n, i)) ⊎ S n a.epoch → ((i : ℕ) × Has vs (n, i)) ⊎ S n a.epoch
        by (inl g) = out g.0 (taken_out u ws n g.0 g.1)
        by (inr g) = inr g

    turn_served : (j : CellJob) (t : CellTurn) → Fed u x next j t → WorkServed j.place j.work → WorkHears j.place j.work u x → NextServed j.place t.to
    turn_served _ _ (IsFence j e is past) k h = tt
    turn_served _ _ (IsTrim a w b one is past) k h = tt
    turn_served _ _ (PutsOn a r d i is more) k h = absurd k
    turn_served _ _ (PutsLast a r d i is last) k h = absurd k
    turn_served _ _ (PutRefused a r d i c is other) k h = absurd k
    turn_served _ _ (ReadsCell a r c is) k h = absurd k
    turn_served _ _ (ReadsNone a r is) k h = absurd k
    turn_served _ _ (CopiesOn a w c i of more) k h = (refl, copied a w c i of k h)
    turn_served _ _ (CopiesLast a w c i of last) k h = all_of a i last (copied a w c i of k h)
    turn_served _ _ (ProbesLast a ws of left) k h = λ n has. none n (probed a ws [] of left k h n has)
      where
        none : (n : ℕ) → ((i : ℕ) × Has {X = ℕ × ℕ} [] (n, i)) ⊎ S n a.epoch → S n a.epoch
        none n (inl g) = absurd g.1
        none n (inr g) = g
    turn_served _ _ (ProbesOn a ws v vs of left) k h = (refl, probed a ws (v ∷ vs) of left k h)
    turn_served _ _ (Nothing j) k h = (refl, k)

  pub cell_served : (j : CellJob) (u : ℕ) (x : Reply) (next : ℕ) → WorkServed j.place j.work → WorkHears j.place j.work u x → NextServed j.place (cell_feed j u x next).to
  cell_served j u x next k h = turn_served u x next j _ (cell_fed u x next j) k h

  -- a chain whose probe begins
  pub probe_served : (a : Place) (next : ℕ) → WorkServed a (Probes (waits_for a.chain next))
  probe_served a next n h = inl (waits_in a.chain next n h)
