-- An append ends with its token's page, which is the log's where the cell is that its machine ends with.
use Rattle.std.proofs.Common.{◌≡◌, ◌⊎◌, ℕ, ◌+◌, List, Bool, true, false, refl, ap, ◌∙◌, subst, inl, inr, Option, Some}
use Rattle.tg_base.specs.Layouts.{Layout}
use Rattle.tg_base.specs.declared.cell.Cell.{Cell}
use Rattle.tg_base.specs.declared.cell.Cell.TheVariants.{Data}
use Rattle.tg_protocol.specs.Words.{cell_at, cell_eq}
use Rattle.tg_entry.specs.Records.{linked}
use Rattle.tg_protocol.specs.Pages.{page_of}
use Rattle.tg_protocol.specs.Requests.{Next, Goes, Learns, Ends}
use Rattle.tg_protocol.specs.Replies.{Reply}
use Rattle.tg_protocol.specs.Cells.{place_in, CellWork, Puts, Gets, Probes, CellJob, CellEnd, CellTurn, Done, works, cell_feed}
use Rattle.tg_protocol.specs.Appending.{AppendWork, Asking, Putting, Judging, Token, Append, AppendEnd, At, append_feed, append_again}
use Rattle.tg_protocol.specs.Logs.{Log}
use Rattle.tg_law_layouts.proofs.Moves.Units.{cell_same}
use Rattle.tg_law_walks.specs.Walks.Walks.{EndsAs}
use Rattle.tg_law_walks.proofs.Walks.Turns.{Fine, cell_fine}
use Rattle.tg_law_steps.proofs.Machines.Cells as cells
use Rattle.tg_law_steps.proofs.Machines.Appends.{AppendCame, Waits as AppendWaits, NewerCame as NewerForAppend, PutsAt, LogFull, PutsOn, IsPut as PageIsPut, LostTo, PutTrimmed, JudgesOn, IsOwn, IsAnothers, JudgedTrimmed, append_came, AppendAgain, AsksAgain, Judges, append_again_came}

-- A machine that puts a page puts that page, and ends with it.

pub record IsPut (j : CellJob) (d : List ℕ) : Type 0 where
  pub rid : ℕ
  pub index : ℕ
  pub is : j.work ≡ Puts rid d index

abbrev pub NextPut : List ℕ → Next CellJob CellEnd → Type 0
NextPut d (Goes x) = IsPut x d
NextPut d (Learns x) = IsPut x d
NextPut d (Ends (Done c)) = c ≡ Data d
NextPut d (Ends e) = Unit {0}

module _ (d : List ℕ) (u : ℕ) (x : Reply) (next : ℕ) where
  same_page : (r s i k : ℕ) (e : List ℕ) → Puts r e i ≡ Puts s d k → e ≡ d
  same_page r s i k e is = cc

  no_put : (w : CellWork) (c : Cell) (i : ℕ) → cells.IsCopied u x next w c i → (r k : ℕ) → w ≡ Puts r d k → ⊥
  no_put _ _ _ (cells.FillHeld r is) s k e = cc
  no_put _ _ _ (cells.FillTaken r c is) s k e = cc
  no_put _ _ _ (cells.CopyHeld r c i is) s k e = cc
  no_put _ _ _ (cells.CopySame r c i y is same) s k e = cc

  fed_put : (j : CellJob) (t : CellTurn) → cells.Fed u x next j t → IsPut j d → NextPut d t.to
  fed_put _ _ (cells.PutsOn a r e i is more) p = record { rid = next; index = i + 1; is = ap (λ (y : List ℕ). Puts next y (i + 1)) (same_page r p.rid i p.index e p.is) }
  fed_put _ _ (cells.PutsLast a r e i is last) p = ap (λ (y : List ℕ). Data y) (same_page r p.rid i p.index e p.is)
  fed_put _ _ (cells.ReadsCell a r c is) p = let e : Gets r ≡ Puts p.rid d p.index = p.is in absurd (cc)
  fed_put _ _ (cells.ReadsNone a r is) p = let e : Gets r ≡ Puts p.rid d p.index = p.is in absurd (cc)
  fed_put _ _ (cells.CopiesOn a w c i of more) p = absurd (no_put w c i of p.rid p.index p.is)
  fed_put _ _ (cells.CopiesLast a w c i of last) p = absurd (no_put w c i of p.rid p.index p.is)
  fed_put _ _ (cells.ProbesOn a ws v vs of left) p = let e : Probes ws ≡ Puts p.rid d p.index = p.is in absurd (cc)
  fed_put _ _ (cells.Nothing j) p = p
  fed_put _ _ came p = tt

pub put_stays : (j : CellJob) (d : List ℕ) (u : ℕ) (x : Reply) (next : ℕ) → IsPut j d → NextPut d (cell_feed j u x next).to
put_stays j d u x next p = fed_put d u x next j _ (cells.cell_fed u x next j) p

-- Appends.

-- the machine in hand is at the position of the token, and puts its page
abbrev pub WorkFits : Option Token → AppendWork → Type 0
WorkFits o (Asking r) = Unit {0}
WorkFits o (Putting j) = (t : Token) → o ≡ Some t → (j.place.pos ≡ t.pos) × IsPut j t.page
WorkFits o (Judging j) = (t : Token) → o ≡ Some t → j.place.pos ≡ t.pos

abbrev pub TokenFits : Append → Type 0
TokenFits a = WorkFits a.token a.work

module _ (l : Log) where
  -- its page is the log's
  abbrev pub Lands : AppendEnd → Type 0
  Lands (At p d) = cell_at l p ≡ Some (Data d)
  Lands e = Unit {0}

  abbrev pub LandsNext : Next Append AppendEnd → Type 0
  LandsNext (Goes a) = TokenFits a
  LandsNext (Learns a) = TokenFits a
  LandsNext (Ends e) = Lands e

  -- the cell that its machine ends with is the log's
  abbrev pub AppendEndsAs : AppendWork → ℕ → Reply → ℕ → Type 0
  AppendEndsAs (Asking r) n x next = Unit {0}
  AppendEndsAs (Putting j) n x next = EndsAs l j.place.pos (cell_feed j n x next).to
  AppendEndsAs (Judging j) n x next = EndsAs l j.place.pos (cell_feed j n x next).to

  same_token : (t u : Token) → Some t ≡ Some u → t ≡ u
  same_token t u e = cc

  -- an append's machine ends with the page of its token, where it was put
  own_lands : (t : Token) (c : Cell) → cell_eq c (Data t.page) ≡ true → cell_at l t.pos ≡ Some c → cell_at l t.pos ≡ Some (Data t.page)
  own_lands t c e h = by (cell_same c (Data t.page))
    where
      contrary : (x : Bool) → x ≡ true → x ≡ false → ⊥
      contrary x t f = cc

      by : (cell_eq c (Data t.page) ≡ false) ⊎ (c ≡ Data t.page) → cell_at l t.pos ≡ Some (Data t.page)
      by (inl f) = absurd (contrary (cell_eq c (Data t.page)) e f)
      by (inr i) = h ∙ ap (λ (y : Cell). Some y) i

  came_lands : (p : Layout) (a : Append) (n : ℕ) (x : Reply) (next : ℕ) (w : AppendWork) (to : Next Append AppendEnd) → TokenFits a → WorkFits a.token w → AppendEndsAs w n x next → AppendCame p a n x next w to → LandsNext to
  came_lands p a n x next _ _ f k h (AppendWaits w) = f
  came_lands p a n x next _ _ f k h (NewerForAppend w) = f
  came_lands p a n x next _ _ f k h (PutsAt r pos ls is names) = λ u e. subst (λ (v : Token). (pos ≡ v.pos) × IsPut (works (place_in p pos) (Puts next (page_of (linked a.draft ls)) 0)) v.page) (same_token (record { pos = pos; page = page_of (linked a.draft ls) }) u e) (refl, record { rid = next; index = 0; is = refl })
  came_lands p a n x next _ _ f k h (LogFull r b is) = tt
  came_lands p a n x next _ _ f k h (PutsOn j i t has g) = λ u e. subst (λ (v : Token). (i.place.pos ≡ v.pos) × IsPut i v.page) (same_token t u e)
      (subst (Fine j.place.pos) g (cell_fine j n x next) ∙ (k t has).0, subst (NextPut t.page) g (put_stays j t.page n x next (k t has).1))
  came_lands p a n x next _ _ f k h (PageIsPut j t c has g) = subst (λ (q : ℕ). cell_at l q ≡ Some (Data t.page)) (k t has).0
      (subst (EndsAs l j.place.pos) g h ∙ ap (λ (y : Cell). Some y) (subst (NextPut t.page) g (put_stays j t.page n x next (k t has).1)))
  came_lands p a n x next _ _ f k h (LostTo j t c has g) = tt
  came_lands p a n x next _ _ f k h (PutTrimmed j t b has g) = tt
  came_lands p a n x next _ _ f k h (JudgesOn j i t has g) = λ u e. subst (λ (v : Token). i.place.pos ≡ v.pos) (same_token t u e) (subst (Fine j.place.pos) g (cell_fine j n x next) ∙ k t has)
  came_lands p a n x next _ _ f k h (IsOwn j t c has g own) = own_lands t c own (subst (λ (q : ℕ). cell_at l q ≡ Some c) (k t has) (subst (EndsAs l j.place.pos) g h))
  came_lands p a n x next _ _ f k h (IsAnothers j t c has g other) = tt
  came_lands p a n x next _ _ f k h (JudgedTrimmed j t b has g) = tt

  pub feed_lands : (p : Layout) (a : Append) (n : ℕ) (x : Reply) (next : ℕ) → TokenFits a → AppendEndsAs a.work n x next → LandsNext (append_feed p a a.work n x next).to
  feed_lands p a n x next f h = came_lands p a n x next a.work _ f f h (append_came p a n x next a.work)

  pub again_lands : (q : Layout) (a : Append) (next : ℕ) → LandsNext (append_again q a next).to
  again_lands q a next = by _ (append_again_came q a next)
    where
      by : (to : Next Append AppendEnd) → AppendAgain q a next to → LandsNext to
      by _ AsksAgain = tt
      by _ (Judges t has less) = λ u e. ap (λ (v : Token). v.pos) (same_token t u e)
