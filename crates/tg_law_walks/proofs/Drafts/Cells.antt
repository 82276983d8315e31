-- A machine that puts a page has put the same page at the same place before.
use Rattle.std.proofs.Common.{◌≡◌, ℕ, ◌+◌, List, ◌∷◌, Bool, true, false, refl, ap, ◌∙◌, arith}
use Rattle.std.specs.Prelude.{not, ◌&&◌, ◌==◌}
use Rattle.tg_base.specs.declared.cell.Cell.{Cell}
use Rattle.tg_base.specs.declared.cell.Cell.TheVariants.{Data}
use Rattle.tg_protocol.specs.Words.{cell_eq}
use Rattle.tg_protocol.specs.Requests.{Next, Goes, Learns, Ends}
use Rattle.tg_protocol.specs.Replies.{Reply}
use Rattle.tg_protocol.specs.Cells.{Place, CellWork, Puts, Gets, Fills, Copies, Probes, CellJob, CellEnd, CellTurn, Lost, works, cell_feed}
use Rattle.tg_law_steps.proofs.Machines.Cells.{Fed, PutsOn, PutRefused, ReadsNone, CopiesOn, ProbesOn, Nothing, cell_fed}
use Rattle.tg_law_cells.proofs.Cells.Settling.{cell_self}

-- the machine put this page too, at the same place
pub record PutBefore (j x : CellJob) (d : List ℕ) : Type 0 where
  pub rid : ℕ
  pub index : ℕ
  pub was : j.work ≡ Puts rid d index
  pub place : x.place ≡ j.place

abbrev pub KeepsPuts : CellJob → CellJob → Type 0
KeepsPuts j x = (x.place ≡ j.place) × ((r : ℕ) (d : List ℕ) (i : ℕ) → x.work ≡ Puts r d i → PutBefore j x d)

-- a page is lost to another cell
pub record LostTo (j : CellJob) (c : Cell) : Type 0 where
  pub rid : ℕ
  pub page : List ℕ
  pub index : ℕ
  pub was : j.work ≡ Puts rid page index
  pub other : c ≡ Data page → ⊥

abbrev pub EndPuts : CellJob → CellEnd → Type 0
EndPuts j (Lost c) = LostTo j c
EndPuts j e = Unit {0}

abbrev pub NextPuts : CellJob → Next CellJob CellEnd → Type 0
NextPuts j (Goes x) = KeepsPuts j x
NextPuts j (Learns x) = KeepsPuts j x
NextPuts j (Ends e) = EndPuts j e

same_puts : (j : CellJob) → KeepsPuts j j
same_puts j = (refl, λ r d i is. record { rid = r; index = i; was = is; place = refl })

other_puts : (j : CellJob) (w : CellWork) → ((r : ℕ) (d : List ℕ) (i : ℕ) → w ≡ Puts r d i → ⊥) → KeepsPuts j (works j.place w)
other_puts j w f = (refl, λ r d i is. absurd (f r d i is))

-- the test of a loss
lost_puts : (a : Place) (r : ℕ) (d : List ℕ) (i : ℕ) (c : Cell) → ((i == 0) && not (cell_eq c (Data d))) ≡ true → LostTo (works a (Puts r d i)) c
lost_puts a r d i c e = record { rid = r; page = d; index = i; was = refl; other = λ same. differ (cell_eq c (Data d)) (rest (i == 0) (not (cell_eq c (Data d))) e) (ap (λ (x : Cell). cell_eq x (Data d)) same ∙ cell_self (Data d)) }
  where
    rest : (s t : Bool) → (s && t) ≡ true → t ≡ true
    rest s t e = grind arith

    differ : (b : Bool) → not b ≡ true → b ≡ true → ⊥
    differ true e f = cc
    differ false e f = cc

same_page : (r s i k : ℕ) (d x : List ℕ) → Puts r d i ≡ Puts s x k → d ≡ x
same_page r s i k d x e = cc

turn_puts : (u : ℕ) (x : Reply) (next : ℕ) (j : CellJob) (t : CellTurn) → Fed u x next j t → NextPuts j t.to
turn_puts u x next _ _ (PutsOn a r d i is more) = (refl, λ s y l e. let same = same_page next s (i + 1) l d y e in record { rid = r; index = i; was = ap (λ (z : List ℕ). Puts r z i) same; place = refl })
turn_puts u x next _ _ (PutRefused a r d i c is other) = lost_puts a r d i c other
turn_puts u x next _ _ (ReadsNone a r is) = other_puts (works a (Gets r)) (Fills next) (λ s d i e. cc)
turn_puts u x next _ _ (CopiesOn a w c i of more) = other_puts (works a w) (Copies next c i) (λ s d k e. cc)
turn_puts u x next _ _ (ProbesOn a ws v vs of left) = other_puts (works a (Probes ws)) (Probes (v ∷ vs)) (λ s d i e. cc)
turn_puts u x next _ _ (Nothing j) = same_puts j
turn_puts u x next _ _ came = tt

pub cell_puts : (j : CellJob) (u : ℕ) (x : Reply) (next : ℕ) → NextPuts j (cell_feed j u x next).to
cell_puts j u x next = turn_puts u x next j _ (cell_fed u x next j)
