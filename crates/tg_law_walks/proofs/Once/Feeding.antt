-- What an answer, or a newer layout, makes of an append's token.
use Rattle.std.proofs.Common.{◌≡◌, ◌⊎◌, ℕ, ◌+◌, ◌≤◌, List, Bool, true, false, refl, sym, ap, ◌∙◌, subst, inl, inr, Option, Some, None, arith}
use Rattle.std.specs.Prelude.{not, nat_le, ◌&&◌, ◌==◌}
use Rattle.tg_base.specs.Layouts.{Layout}
use Rattle.tg_base.specs.declared.cell.Cell.{Cell}
use Rattle.tg_base.specs.declared.cell.Cell.TheVariants.{Data}
use Rattle.tg_base.specs.declared.msg.Msg.{Msg}
use Rattle.tg_base.specs.declared.packet.Packet.{Packet}
use Rattle.tg_entry.specs.declared.entry.Entry.{Entry}
use Rattle.tg_protocol.specs.Words.{cell_eq}
use Rattle.tg_protocol.specs.Requests.{Next, Goes, Learns, Ends}
use Rattle.tg_protocol.specs.Replies.{Reply, reply}
use Rattle.tg_protocol.specs.Cells.{Place, unit_at, CellWork, Puts, CellJob, CellEnd, Done, Lost, cell_feed}
use Rattle.tg_protocol.specs.Appending.{AppendWork, Asking, Putting, Judging, Token, Append, AppendEnd, At, Full, Forgotten, append_feed, append_again}
use Rattle.tg_protocol.specs.Requests.{Turn}
use Rattle.tg_law_steps.proofs.Machines.Cells as cells
use Rattle.tg_law_steps.proofs.Machines.Cells.{cell_fed, IsCopied, FillHeld, FillTaken, CopyHeld, CopySame}
use Rattle.tg_law_steps.proofs.Machines.Appends as appending
use Rattle.tg_law_steps.proofs.Machines.Appends.{putting, judging, append_fed, append_anew}
use Rattle.tg_law_layouts.proofs.Moves.Units.{cell_same}
use Rattle.tg_law_cells.proofs.Cells.Justified.{ToldBy, EndOk, NextOk}
use Rattle.tg_law_cells.proofs.Cells.Jobs.{AppendOk, AppendClaims, cell_ok}
use Rattle.tg_law_cells.proofs.Cells.Settling.{cell_self}

-- A machine that puts a page.

pub record IsPut (w : CellWork) (d : List ℕ) : Type 0 where
  pub rid : ℕ
  pub index : ℕ
  pub is : w ≡ Puts rid d index

-- it goes on so, or has ended with that page, or has lost it to another cell
abbrev PutNext : Place → List ℕ → Next CellJob CellEnd → Type 0
PutNext a d (Goes x) = (x.place ≡ a) × IsPut x.work d
PutNext a d (Learns x) = (x.place ≡ a) × IsPut x.work d
PutNext a d (Ends (Done c)) = c ≡ Data d
PutNext a d (Ends (Lost c)) = c ≡ Data d → ⊥
PutNext a d (Ends e) = Unit {0}

same_data : (r i : ℕ) (c d : List ℕ) → IsPut (Puts r c i) d → c ≡ d
same_data r i c d p = let e = p.is in cc

-- what copies a cell puts no page
no_copy : (u : ℕ) (x : Reply) (next : ℕ) (w : CellWork) (c : Cell) (i : ℕ) (d : List ℕ) → IsCopied u x next w c i → IsPut w d → ⊥
no_copy u x next _ c _ d (FillHeld r e) p = let f = p.is in cc
no_copy u x next _ c _ d (FillTaken r _ e) p = let f = p.is in cc
no_copy u x next _ c _ d (CopyHeld r _ i e) p = let f = p.is in cc
no_copy u x next _ c _ d (CopySame r _ i y e g) p = let f = p.is in cc

-- a loss tells another cell
other_cell : (i : ℕ) (c : Cell) (d : List ℕ) → ((i == 0) && not (cell_eq c (Data d))) ≡ true → c ≡ Data d → ⊥
other_cell i c d e same = differ (cell_eq c (Data d)) (rest (i == 0) (not (cell_eq c (Data d))) e) (ap (λ (x : Cell). cell_eq x (Data d)) same ∙ cell_self (Data d))
  where
    rest : (s t : Bool) → (s && t) ≡ true → t ≡ true
    rest s t e = grind arith

    differ : (b : Bool) → not b ≡ true → b ≡ true → ⊥
    differ true e f = cc
    differ false e f = cc

module _ (d : List ℕ) (u : ℕ) (x : Reply) (next : ℕ) where
  cell_next : (j : CellJob) (t : Turn CellJob CellEnd) → cells.Fed u x next j t → IsPut j.work d → PutNext j.place d t.to
  cell_next _ _ (cells.IsFence j e is f) p = tt
  cell_next _ _ (cells.IsTrim a w b one is f) p = tt
  cell_next _ _ (cells.PutsOn a r c i is f) p = (refl, record { rid = next; index = i + 1; is = ap (λ (z : List ℕ). Puts next z (i + 1)) (same_data r i c d p) })
  cell_next _ _ (cells.PutsLast a r c i is f) p = ap (λ (z : List ℕ). Data z) (same_data r i c d p)
  cell_next _ _ (cells.PutRefused a r c i y is f) p = subst (λ (z : List ℕ). y ≡ Data z → ⊥) (same_data r i c d p) (other_cell i y c f)
  cell_next _ _ (cells.ReadsCell a r c is) p = let e = p.is in absurd cc
  cell_next _ _ (cells.ReadsNone a r is) p = let e = p.is in absurd cc
  cell_next _ _ (cells.CopiesOn a w c i k f) p = absurd (no_copy u x next w c i d k p)
  cell_next _ _ (cells.CopiesLast a w c i k f) p = absurd (no_copy u x next w c i d k p)
  cell_next _ _ (cells.ProbesLast a ws k f) p = let e = p.is in absurd cc
  cell_next _ _ (cells.ProbesOn a ws v vs k f) p = let e = p.is in absurd cc
  cell_next _ _ (cells.Nothing j) p = (refl, p)

job_next : (j : CellJob) (d : List ℕ) → IsPut j.work d → (u : ℕ) (x : Reply) (next : ℕ) → PutNext j.place d (cell_feed j u x next).to
job_next j d p u x next = cell_next d u x next j (cell_feed j u x next) (cell_fed u x next j) p

-- Of an append: while it asks it has no token, and the machine that is in hand is of its token.
abbrev pub WorkToken : Option Token → AppendWork → Type 0
WorkToken o (Asking r) = o ≡ None
WorkToken o (Putting j) = (t : Token) × (o ≡ Some t) × (j.place.pos ≡ t.pos) × IsPut j.work t.page
WorkToken o (Judging j) = (t : Token) × (o ≡ Some t) × (j.place.pos ≡ t.pos)

abbrev pub TokenOk : Append → Type 0
TokenOk a = WorkToken a.token a.work

some_is : (s t : Token) → Some s ≡ Some t → s ≡ t
some_is s t e = cc

is_put : (j k : CellJob) → Putting j ≡ Putting k → j ≡ k
is_put j k e = cc

module _ (ps : List Packet) where
  -- the append keeps its token, and puts its page at the same place
  pub record Keeps (a b : Append) : Type 0 where
    pub token : b.token ≡ a.token
    pub ok : TokenOk b
    pub place : (k : CellJob) → b.work ≡ Putting k → (j : CellJob) × (a.work ≡ Putting j) × (k.place ≡ j.place)

  -- it has got a token
  pub record Takes (a b : Append) : Type 0 where
    pub was : a.token ≡ None
    pub ok : TokenOk b
    pub job : CellJob
    pub works : b.work ≡ Putting job

  -- Why a token is given up: the first unit of the chain has told another cell than its page, or the whole chain has.

  pub record IsLost (a : Append) (t : Token) : Type 0 where
    pub job : CellJob
    pub works : a.work ≡ Putting job
    pub cell : Cell
    pub told : ToldBy ps (unit_at job.place 0) job.place.epoch job.place.pos cell
    pub other : cell ≡ Data t.page → ⊥

  pub record IsFilled (a : Append) (t : Token) : Type 0 where
    pub job : CellJob
    pub works : a.work ≡ Judging job
    pub cell : Cell
    pub told : EndOk ps job.place (Done cell)
    pub other : cell ≡ Data t.page → ⊥

  pub record Gives (a b : Append) : Type 0 where
    pub none : b.token ≡ None
    pub ok : TokenOk b
    pub asks : (k : CellJob) → b.work ≡ Putting k → ⊥
    pub of : Token
    pub had : a.token ≡ Some of
    pub pos : (j : CellJob) → (a.work ≡ Putting j) ⊎ (a.work ≡ Judging j) → j.place.pos ≡ of.pos
    pub why : IsLost a of ⊎ IsFilled a of

  -- it has ended: its page is told at the position of its token
  pub record Lands (a : Append) (p : ℕ) (d : List ℕ) : Type 0 where
    pub of : Token
    pub had : a.token ≡ Some of
    pub at : p ≡ of.pos
    pub page : d ≡ of.page
    pub job : CellJob
    pub works : (a.work ≡ Putting job) ⊎ (a.work ≡ Judging job)
    pub pos : job.place.pos ≡ of.pos
    pub told : EndOk ps job.place (Done (Data of.page))

  pub record Forgets (a : Append) (p : ℕ) : Type 0 where
    pub of : Token
    pub had : a.token ≡ Some of
    pub at : p ≡ of.pos

  abbrev pub EndedSo : Append → AppendEnd → Type 0
  EndedSo a (At p d) = Lands a p d
  EndedSo a (Full l) = a.token ≡ None
  EndedSo a (Forgotten p b) = Forgets a p

  abbrev pub FedSo : Append → Next Append AppendEnd → Type 0
  FedSo a (Goes b) = Keeps a b ⊎ (Takes a b ⊎ Gives a b)
  FedSo a (Learns b) = b ≡ a
  FedSo a (Ends e) = EndedSo a e

  stays : (a : Append) → TokenOk a → Keeps a a
  stays a ok = record { token = refl; ok = ok; place = λ k is. (k, is, refl) }

  no_put : (r : ℕ) (k : CellJob) → Asking r ≡ Putting k → ⊥
  no_put r k e = cc

  no_judge : (j k : CellJob) → Judging j ≡ Putting k → ⊥
  no_judge j k e = cc

  contrary : (b : Bool) → b ≡ true → b ≡ false → ⊥
  contrary b f g = cc

  equal : (t : Token) (c : Cell) → cell_eq c (Data t.page) ≡ true → c ≡ Data t.page
  equal t c e = by (cell_same c (Data t.page))
    where
      by : (cell_eq c (Data t.page) ≡ false) ⊎ (c ≡ Data t.page) → c ≡ Data t.page
      by (inl f) = absurd (contrary (cell_eq c (Data t.page)) e f)
      by (inr s) = s

  same_put : (j : CellJob) (t : Token) → j.place.pos ≡ t.pos → (i : CellJob) → (Putting j ≡ Putting i) ⊎ (Putting j ≡ Judging i) → i.place.pos ≡ t.pos
  same_put j t at i (inl e) = subst (λ (x : CellJob). x.place.pos ≡ t.pos) (is_put j i e) at
  same_put j t at i (inr e) = absurd cc

  same_judge : (j : CellJob) (t : Token) → j.place.pos ≡ t.pos → (i : CellJob) → (Judging j ≡ Putting i) ⊎ (Judging j ≡ Judging i) → i.place.pos ≡ t.pos
  same_judge j t at i (inl e) = absurd cc
  same_judge j t at i (inr e) = let f : j ≡ i = cc in subst (λ (x : CellJob). x.place.pos ≡ t.pos) f at

  put_at : (d : Entry) (t : Token) (j : CellJob) → TokenOk (putting d t j) → (j.place.pos ≡ t.pos) × IsPut j.work t.page
  put_at d t j ok = let e = some_is ok.0 t (sym ok.1) in (ok.2 ∙ ap (λ (x : Token). x.pos) e, subst (λ (x : Token). IsPut j.work x.page) e ok.3)

  judge_at : (d : Entry) (t : Token) (j : CellJob) → TokenOk (judging d t j) → j.place.pos ≡ t.pos
  judge_at d t j ok = ok.2 ∙ ap (λ (x : Token). x.pos) (some_is ok.0 t (sym ok.1))

  module _ (p : Layout) (n : ℕ) (y : Msg) (next : ℕ) where
    told : (j k : CellJob) (to : Next CellJob CellEnd) → (cell_feed j n (reply y) next).to ≡ to → AppendOk ps p (Putting j) → AppendClaims ps p (Putting j) y → NextOk ps j.place to
    told j k to e ok h = subst (NextOk ps j.place) e (cell_ok ps p j y ok h n next)

    told_judging : (j : CellJob) (to : Next CellJob CellEnd) → (cell_feed j n (reply y) next).to ≡ to → AppendOk ps p (Judging j) → AppendClaims ps p (Judging j) y → NextOk ps j.place to
    told_judging j to e ok h = subst (NextOk ps j.place) e (cell_ok ps p j y ok h n next)

    put_next : (d : Entry) (t : Token) (j : CellJob) (to : Next CellJob CellEnd) → (cell_feed j n (reply y) next).to ≡ to → TokenOk (putting d t j) → PutNext j.place t.page to
    put_next d t j to e ok = subst (PutNext j.place t.page) e (job_next j t.page (put_at d t j ok).1 n (reply y) next)

    so : (a : Append) (t : Turn Append AppendEnd) → appending.Fed p n (reply y) next a t → TokenOk a → AppendOk ps p a.work → AppendClaims ps p a.work y → FedSo a t.to
    so _ _ (appending.Issues d o r pos ls is e) ok k h = inr (inl (record { was = ok; ok = (_, refl, refl, record { rid = next; index = 0; is = refl }); job = _; works = refl }))
    so _ _ (appending.IsFilled d o r l is) ok k h = ok
    so _ _ (appending.TellsLayout d o r e is f g) ok k h = inl (stays _ ok)
    so _ _ (appending.LearnsEpoch d o r e is f) ok k h = refl
    so _ _ (appending.Nothing a) ok k h = inl (stays a ok)
    so _ _ (appending.PutGoes d t j i e) ok k h =
        let f = put_next d t j (Goes i) e ok in
        inl (record { token = refl; ok = (t, refl, ap (λ (a : Place). a.pos) f.0 ∙ (put_at d t j ok).0, f.1); place = λ z q. (j, refl, ap (λ (y : CellJob). y.place) (sym (is_put i z q)) ∙ f.0) })
    so _ _ (appending.PutDone d t j c e) ok k h = record {
      of = t;
      had = refl;
      at = refl;
      page = refl;
      job = j;
      works = inl refl;
      pos = (put_at d t j ok).0;
      told = subst (λ (x : Cell). EndOk ps j.place (Done x)) (put_next d t j (Ends (Done c)) e ok) (told j j (Ends (Done c)) e k h);
    }
    so _ _ (appending.PutLost d t j c e) ok k h = inr (inr (record {
      none = refl;
      ok = refl;
      asks = λ z q. no_put _ z q;
      of = t;
      had = refl;
      pos = same_put j t (put_at d t j ok).0;
      why = inl (record { job = j; works = refl; cell = c; told = told j j (Ends (Lost c)) e k h; other = put_next d t j (Ends (Lost c)) e ok });
    }))
    so _ _ (appending.PutGone d t j b e) ok k h = record { of = t; had = refl; at = refl }
    so _ _ (appending.JudgeGoes d t j i e) ok k h =
        inl (record { token = refl; ok = (t, refl, ap (λ (a : Place). a.pos) (told_judging j (Goes i) e k h).0 ∙ judge_at d t j ok); place = λ z q. absurd (no_judge i z q) })
    so _ _ (appending.JudgeOwn d t j c e f) ok k h = record {
      of = t;
      had = refl;
      at = refl;
      page = refl;
      job = j;
      works = inr refl;
      pos = judge_at d t j ok;
      told = subst (λ (x : Cell). EndOk ps j.place (Done x)) (equal t c f) (told_judging j (Ends (Done c)) e k h);
    }
    so _ _ (appending.JudgeOther d t j c e f) ok k h = inr (inr (record {
      none = refl;
      ok = refl;
      asks = λ z q. no_put _ z q;
      of = t;
      had = refl;
      pos = same_judge j t (judge_at d t j ok);
      why = inr (record { job = j; works = refl; cell = c; told = told_judging j (Ends (Done c)) e k h; other = λ same. contrary (cell_eq c (Data t.page)) (ap (λ (x : Cell). cell_eq x (Data t.page)) same ∙ cell_self (Data t.page)) f });
    }))
    so _ _ (appending.JudgeGone d t j b e) ok k h = record { of = t; had = refl; at = refl }
    so _ _ (appending.JobLearns d t w j i of e) ok k h = refl
    so _ _ (appending.JobFenced d t w j u f of e) ok k h = refl
    so _ _ (appending.JobPasses d t w j f of e) ok k h = inl (stays _ ok)

  -- an awaited answer
  pub fed_so : (p : Layout) (a : Append) (n : ℕ) (y : Msg) (next : ℕ) → TokenOk a → AppendOk ps p a.work → AppendClaims ps p a.work y → FedSo a (append_feed p a a.work n (reply y) next).to
  fed_so p a n y next ok k h = so p n y next a (append_feed p a a.work n (reply y) next) (append_fed p n (reply y) next a) ok k h

-- In a newer layout: a token at or past its start is given up, and the position of another is settled first.

pub record Drops (q : Layout) (a b : Append) : Type 0 where
  pub none : b.token ≡ None
  pub ok : TokenOk b
  pub asks : (k : CellJob) → b.work ≡ Putting k → ⊥
  pub why : (t : Token) → a.token ≡ Some t → q.start ≤ t.pos

pub record Judges (q : Layout) (a b : Append) : Type 0 where
  pub of : Token
  pub had : a.token ≡ Some of
  pub has : b.token ≡ Some of
  pub ok : TokenOk b
  pub asks : (k : CellJob) → b.work ≡ Putting k → ⊥

abbrev pub AgainSo : Layout → Append → Next Append AppendEnd → Type 0
AgainSo q a (Goes b) = Drops q a b ⊎ Judges q a b
AgainSo q a x = ⊥

starts_below : (p q : ℕ) → nat_le p q ≡ true → p ≤ q
starts_below p q e = grind arith

anew_so : (q : Layout) (next : ℕ) (a : Append) (t : Turn Append AppendEnd) → appending.Anew q next a t → AgainSo q a t.to
anew_so q next _ _ (appending.HasNone d w) = inl (record { none = refl; ok = refl; asks = λ k f. cc; why = λ t is. absurd cc })
anew_so q next _ _ (appending.IsDead d t w e) = inl (record { none = refl; ok = refl; asks = λ k f. cc; why = λ u is. subst (λ (x : Token). q.start ≤ x.pos) (some_is t u is) (starts_below q.start t.pos e) })
anew_so q next _ _ (appending.Settles d t w e) = inr (record { of = t; had = refl; has = refl; ok = (t, refl, refl); asks = λ k f. cc })

pub again_so : (q : Layout) (a : Append) (next : ℕ) → AgainSo q a (append_again q a next).to
again_so q a next = anew_so q next a (append_again q a next) (append_anew q next a)
