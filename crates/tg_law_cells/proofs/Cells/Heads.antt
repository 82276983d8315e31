-- What a unit of a chain has, the chain's first unit has too.
use Rattle.std.proofs.Common.{◌≡◌, ◌⊎◌, ℕ, zero, suc, ◌<◌, ◌≤◌, sym, subst, inl, inr, arith, Some}
use Rattle.tg_base.specs.Layouts.{Layout}
use Rattle.tg_base.specs.Clusters.{Header, IsHeader}
use Rattle.tg_base.specs.declared.cell.Cell.{Cell}
use Rattle.tg_kind.specs.Meaning.{Meaning}
use Rattle.tg_protocol.specs.Words.{cell_at}
use Rattle.tg_protocol.specs.Layouts.{chain_of}
use Rattle.tg_protocol.specs.Runs.{Moves, LawfulCommand, Always}
use Rattle.tg_law_layouts.specs.Moves.After.{after}
use Rattle.tg_law_layouts.specs.Moves.Configs.{config, unit_in}
use Rattle.tg_law_layouts.proofs.Moves.Members.{Has, has_contained}
use Rattle.tg_law_layouts.proofs.Moves.Moves.{AllGive}
use Rattle.tg_law_layouts.proofs.Moves.Always.{always_lawful}
use Rattle.tg_law_layouts.proofs.Requests.Told.{told_holds}
use Rattle.tg_law_layouts.proofs.Requests.Starts.{known as base}
use Rattle.tg_law_layouts.proofs.Layouts.Deciding.{K, known}
use Rattle.tg_law_cells.specs.Cells.Settled.{HadBefore, head, HeadsHave}
use Rattle.tg_law_cells.proofs.Cells.Befores.{Before, At, at_has, before_at, has_at}
use Rattle.tg_law_cells.proofs.Cells.Justified.{ToldBy}
use Rattle.tg_law_cells.proofs.Cells.Settles.{Settled, Rooted, Got, Next, ToldBefore, before_tells, settled_present}
use Rattle.tg_law_cells.proofs.Cells.Successors.{words}
use Rattle.tg_law_cells.proofs.Cells.Settling.{joins_of, before_of, facts, roots, told_here, whole_here}

module _ (m : Meaning) (h : Header) (xs : Moves m) (header : IsHeader h) (give : AllGive m (LawfulCommand m) xs) where
  abbrev Low : ℕ → ℕ → Type 0
  Low u p = p < (unit_in m (config m (after m h xs)) u).low

  abbrev HasIt : ℕ → ℕ → Cell → Type 0
  HasIt u pos c = (cell_at (unit_in m (config m (after m h xs)) u).cells pos ≡ Some c) ⊎ Low u pos

  told_is_had : (u e pos : ℕ) (c : Cell) → ToldBy (after m h xs).packets u e pos c → HasIt u pos c
  told_is_had u e pos c t = subst (λ (y : Cell). HasIt u pos y) t.cell (subst (λ (p : ℕ). HasIt u p t.claim.cell) t.pos (told_holds m (config m (after m h xs)) u t.claim (base m h xs) t.tells).cell)

  whole : (p q : Layout) (pos u : ℕ) → K m h xs p → K m h xs q → Next words p q → words.Joins p q pos u → pos < q.start → ToldBefore words (K m h xs) (after m h xs).packets u q.epoch pos ⊎ Low u pos
  whole p q pos u a b n j less = had (whole_here m h xs header give p q pos u (joins_of m h xs header give (told_here m h xs header give) p q pos u a b n j less))
    where
      had : HadBefore (after m h xs).packets u q.epoch pos ⊎ Low u pos → ToldBefore words (K m h xs) (after m h xs).packets u q.epoch pos ⊎ Low u pos
      had (inl y) = inl (before_of m h xs header give (told_here m h xs header give) u q.epoch pos y)
      had (inr y) = inr y

  some_there : (q : Layout) (pos u : ℕ) → (i : ℕ) × At (chain_of q pos) u i → Has (chain_of q pos) (head q pos)
  some_there q pos u a = let l = a.1.within in has_at (chain_of q pos) 0 (omega (arith, l))

  below_head : (q : Layout) (pos u : ℕ) (c : Cell) → K m h xs q → Has (chain_of q pos) u → Has (chain_of q pos) (head q pos) → Before (chain_of q pos) (head q pos) u → Rooted words (K m h xs) (after m h xs).packets u q.epoch pos c → HasIt (head q pos) pos c
  below_head q pos u c d here first before root = by root.how
    where
      by : Got words (K m h xs) (after m h xs).packets u pos c root.layout ⊎ Settled words (K m h xs) (after m h xs).packets root.layout.epoch pos c → HasIt (head q pos) pos c
      by (inl g) = told_is_had (head q pos) q.epoch pos c (before_tells words (K m h xs) _ (facts m h xs header give (told_here m h xs header give)) q root.layout (head q pos) u pos c d root.decided root.up_to g here before)
      by (inr s) = held (settled_present words (K m h xs) _ (facts m h xs header give (told_here m h xs header give)) Low whole (roots m h xs header give (told_here m h xs header give)).tells pos c root.layout.epoch s q d (let a = s.up_to in let b = root.up_to in omega (arith, a, b)) (head q pos) first)
        where
          held : ToldBy (after m h xs).packets (head q pos) q.epoch pos c ⊎ Low (head q pos) pos → HasIt (head q pos) pos c
          held (inl t) = told_is_had (head q pos) q.epoch pos c t
          held (inr t) = inr t

  root_later : (u e f pos : ℕ) (c : Cell) → e ≤ f → Rooted words (K m h xs) (after m h xs).packets u e pos c → Rooted words (K m h xs) (after m h xs).packets u f pos c
  root_later u e f pos c le r = record { layout = r.layout; decided = r.decided; up_to = (let a = r.up_to in omega (arith, a, le)); how = r.how }

  heads_here : HeadsHave m (after m h xs)
  heads_here q pos u c d here le at = by a.0 a.1
    where
      a : (i : ℕ) × At (chain_of q pos) u i
      a = at_has (chain_of q pos) u (has_contained _ u here)

      by : (i : ℕ) → At (chain_of q pos) u i → HasIt (head q pos) pos c
      by zero x = inl (subst (λ (v : ℕ). cell_at (unit_in m (config m (after m h xs)) v).cells pos ≡ Some c) (sym x.is) at)
      by (suc i) x = below_head q pos u c (known m h xs q.epoch q d).0 (has_contained _ u here) (some_there q pos u a)
          (subst (λ (v : ℕ). Before (chain_of q pos) (head q pos) v) x.is (before_at (chain_of q pos) 0 (suc i) (omega arith) x.within))
          (root_later u _ _ pos c le ((roots m h xs header give (told_here m h xs header give)).cells u pos c at))

pub heads_have_cells : (m : Meaning) → Always m (HeadsHave m)
heads_have_cells m = always_lawful m (HeadsHave m) (λ h xs a b. heads_here m h xs a b)
