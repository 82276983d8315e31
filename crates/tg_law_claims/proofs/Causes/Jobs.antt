-- What a cell's job, an append and a walk were told where they end, by an answer that was awaited.
use Rattle.std.proofs.Common.{◌≡◌, ℕ, ◌<◌, ◌≤◌, List, true, refl, sym, ap, ◌∙◌, subst, inl, inr, arith, Option, Some, None}
use Rattle.std.specs.Prelude.{◌==◌}
use Rattle.tg_base.specs.Layouts.{Layout}
use Rattle.tg_base.specs.declared.cell.Cell.{Cell}
use Rattle.tg_base.specs.declared.ids.NodeId.{NodeId}
use Rattle.tg_base.specs.declared.ids.Oid.{Oid}
use Rattle.tg_base.specs.declared.msg.Msg.{Msg}
use Rattle.tg_base.specs.declared.msg.Msg.TheVariants as msg
use Rattle.tg_base.specs.declared.packet.Out.{Out}
use Rattle.tg_protocol.specs.Words.{unit_id}
use Rattle.tg_protocol.specs.Requests.{Waits, Next, Goes, Learns, Ends}
use Rattle.tg_protocol.specs.Replies.{Reply, reply, IsGone}
use Rattle.tg_protocol.specs.Cells.{Place, CellWork, CellJob, Puts, Gets, Fills, Copies, Probes, Gone, unit_at, last_unit, fill_cell, work_asks, cell_asks, work_feed, cell_feed}
use Rattle.tg_protocol.specs.Appending.{AppendTurn, Token, Append, AppendWork, Asking, Putting, Judging, AppendEnd, At, Full, Forgotten, append_work_asks, append_asks, append_feed, append_again}
use Rattle.tg_protocol.specs.Walking.{Walk, WalkTurn, Members, walk_on, walk_start, walk_feed, walk_again, walk_asks}
use Rattle.tg_protocol.specs.Causes.{is_at}
use Rattle.tg_law_layouts.proofs.Moves.Members.{Has}
use Rattle.tg_law_headline.proofs.Alike.Appends.{Asked, is_gone, is_full}
use Rattle.tg_law_steps.proofs.Machines.Appends.{Fed as AppendFed, Issues, IsFilled, PutGoes, PutDone, PutLost, PutGone, JudgeGoes, JudgeOwn, JudgeOther, JudgeGone, append_fed, Anew, HasNone, IsDead, Settles, append_anew as append_renewed}
use Rattle.tg_law_steps.proofs.Machines.Walks.{goes_on, Fed as WalkFed, ReadDone, ReadGone, walk_fed}

-- A cell's job.

cell_gone : (j : CellJob) (u : ℕ) (x : Reply) (next b : ℕ) → (cell_feed j u x next).to ≡ Ends (Gone b) → x ≡ IsGone b
unfolding cell_feed work_feed fill_cell
cell_gone j u x next b h = grind arith

gone_past : (j : CellJob) (u : ℕ) (x : Reply) (next b : ℕ) → (cell_feed j u x next).to ≡ Ends (Gone b) → j.place.pos < b
unfolding cell_feed work_feed fill_cell
gone_past j u x next b h = grind arith

gone_probe : (j : CellJob) (u : ℕ) (x : Reply) (next b : ℕ) (ws : Waits) → (cell_feed j u x next).to ≡ Ends (Gone b) → j.work ≡ Probes ws → ⊥
unfolding cell_feed work_feed fill_cell
gone_probe j u x next b ws h is = grind arith

cell_stays : (j k : CellJob) (u : ℕ) (x : Reply) (next : ℕ) → (cell_feed j u x next).to ≡ Goes k → k.place ≡ j.place
unfolding cell_feed work_feed fill_cell
cell_stays j k u x next h = grind arith

-- a request about a position, of a unit
abbrev pub IsAbout : ℕ → Out → Type 0
IsAbout p o = (u : ℕ) × (o.to ≡ unit_id u) × (is_at p o.msg ≡ true)

same_number : (n : ℕ) → (n == n) ≡ true
same_number n = grind arith

about_by : (a : Place) (w : CellWork) → ((ws : Waits) → w ≡ Probes ws → ⊥) → (o : Out) → Has (work_asks a w) o → IsAbout a.pos o
unfolding work_asks
about_by a (Puts r d i) n o (inl e) = subst (IsAbout a.pos) (sym e) (unit_at a i, refl, same_number a.pos)
about_by a (Puts r d i) n o (inr h) = absurd h
about_by a (Gets r) n o (inl e) = subst (IsAbout a.pos) (sym e) (last_unit a, refl, same_number a.pos)
about_by a (Gets r) n o (inr h) = absurd h
about_by a (Fills r) n o (inl e) = subst (IsAbout a.pos) (sym e) (unit_at a 0, refl, same_number a.pos)
about_by a (Fills r) n o (inr h) = absurd h
about_by a (Copies r c i) n o (inl e) = subst (IsAbout a.pos) (sym e) (unit_at a i, refl, same_number a.pos)
about_by a (Copies r c i) n o (inr h) = absurd h
about_by a (Probes ws) n o h = absurd (n ws refl)

-- What a client got, of which node and with which number, and what it has asked so. Its command began with this number.
module _ (Got AskSent : NodeId → ℕ → Msg → Type 0) (lo : ℕ) where
  -- an answer that was awaited
  pub record Heard (outs : List Out) (from : NodeId) (rid : ℕ) (y : Msg) : Type 0 where
    pub got : Got from rid y
    pub now : lo ≤ rid
    pub asked : Asked outs from rid
    pub sent : (u : ℕ) (o : Out) → Has outs o → o.to ≡ unit_id u → o.to ≡ from → o.rid ≡ rid → AskSent o.to o.rid o.msg

  -- a message that was told to the command
  pub record ToldNow (y : Msg) : Type 0 where
    pub from : NodeId
    pub rid : ℕ
    pub now : lo ≤ rid
    pub got : Got from rid y

  -- a unit answered a request about a position that all is trimmed below another
  pub record OwnGone (at below : ℕ) : Type 0 where
    pub past : at < below
    pub unit : ℕ
    pub rid : ℕ
    pub now : lo ≤ rid
    pub request : Msg
    pub asks : is_at at request ≡ true
    pub asked : AskSent (unit_id unit) rid request
    pub got : Got (unit_id unit) rid (msg.Gone below)

  told_gone : (outs : List Out) (from : NodeId) (rid : ℕ) (y : Msg) (b : ℕ) → Heard outs from rid y → reply y ≡ IsGone b → ToldNow (msg.Gone b)
  told_gone outs from rid y b h is = record { from = from; rid = rid; now = h.now; got = subst (Got from rid) (is_gone y b is) h.got }

  own_gone : (j : CellJob) (n next b at : ℕ) (from : NodeId) (rid : ℕ) (y : Msg) → j.place.pos ≡ at → Heard (cell_asks j) from rid y → (cell_feed j n (reply y) next).to ≡ Ends (Gone b) → OwnGone at b
  own_gone j n next b at from rid y place h is =
      let o = h.asked.of in
      let a = about_by j.place j.work (λ ws w. gone_probe j n (reply y) next b ws is w) o h.asked.has in
      record {
        past = let l = gone_past j n (reply y) next b is in omega (arith, l, place);
        unit = a.0;
        rid = rid;
        now = h.now;
        request = o.msg;
        asks = subst (λ (p : ℕ). is_at p o.msg ≡ true) place a.2;
        asked = subst (λ (i : ℕ). AskSent (unit_id a.0) i o.msg) h.asked.number (subst (λ (z : NodeId). AskSent z o.rid o.msg) a.1 (h.sent a.0 o h.asked.has a.1 h.asked.to h.asked.number));
        got = subst (λ (z : NodeId). Got z rid (msg.Gone b)) (sym h.asked.to ∙ a.1) (subst (Got from rid) (is_gone y b (cell_gone j n (reply y) next b is)) h.got);
      }

  -- Appends: the job is about the token's position.

  abbrev pub JobAt : Option Token → CellJob → Type 0
  JobAt None j = Unit {0}
  JobAt (Some t) j = j.place.pos ≡ t.pos

  abbrev pub PlaceOk : Option Token → AppendWork → Type 0
  PlaceOk o (Asking r) = Unit {0}
  PlaceOk o (Putting j) = JobAt o j
  PlaceOk o (Judging j) = JobAt o j

  abbrev pub Places : Append → Type 0
  Places a = PlaceOk a.token a.work

  abbrev pub AppendNext : Next Append AppendEnd → Type 0
  AppendNext (Goes a) = Places a
  AppendNext (Learns a) = Places a
  AppendNext (Ends (At p d)) = Unit {0}
  AppendNext (Ends (Full l)) = ToldNow (msg.Full l)
  AppendNext (Ends (Forgotten p b)) = OwnGone p b

  module _ (p : Layout) (n next : ℕ) (from : NodeId) (rid : ℕ) (y : Msg) where
    told_so : (a : Append) (t : AppendTurn) → AppendFed p n (reply y) next a t → Places a → Heard (append_asks p a) from rid y → AppendNext t.to
    unfolding append_work_asks
    told_so _ _ (Issues d o r pos ls is named) ok h = refl
    told_so _ _ (IsFilled d o r l is) ok h = record { from = from; rid = rid; now = h.now; got = subst (Got from rid) (is_full y l is) h.got }
    told_so _ _ (PutGoes d t j k e) ok h = ap (λ (z : Place). z.pos) (cell_stays j k n (reply y) next e) ∙ ok
    told_so _ _ (PutDone d t j c e) ok h = tt
    told_so _ _ (PutLost d t j c e) ok h = tt
    told_so _ _ (PutGone d t j b e) ok h = own_gone j n next b t.pos from rid y ok h e
    told_so _ _ (JudgeGoes d t j k e) ok h = ap (λ (z : Place). z.pos) (cell_stays j k n (reply y) next e) ∙ ok
    told_so _ _ (JudgeOwn d t j c e f) ok h = tt
    told_so _ _ (JudgeOther d t j c e f) ok h = tt
    told_so _ _ (JudgeGone d t j b e) ok h = own_gone j n next b t.pos from rid y ok h e
    told_so _ _ x ok h = ok

  pub append_told : (a : Append) → Places a → (from : NodeId) (rid : ℕ) (y : Msg) (p : Layout) (n next : ℕ) → Heard (append_asks p a) from rid y → AppendNext (append_feed p a a.work n (reply y) next).to
  append_told a ok from rid y p n next h = told_so p n next from rid y a _ (append_fed p n (reply y) next a) ok h

  pub append_anew : (a : Append) → Places a → (p : Layout) (next : ℕ) → AppendNext (append_again p a next).to
  append_anew a ok p next = by a _ (append_renewed p next a)
    where
      by : (a : Append) (t : AppendTurn) → Anew p next a t → AppendNext t.to
      by _ _ (HasNone d w) = tt
      by _ _ (IsDead d t w e) = tt
      by _ _ (Settles d t w e) = refl

  -- Walks: where one ends at a trim, that was told.

  abbrev pub WalkNext : Next Walk Members → Type 0
  WalkNext (Ends x) = (b : ℕ) → x.gone ≡ Some b → ToldNow (msg.Gone b)
  WalkNext to = Unit {0}

  -- over known cells it meets none
  on_told : (p : Layout) (next n : ℕ) (w : Walk) → WalkNext (walk_on p next n w).to
  on_told p next n w = goes_on p next (λ v. Unit {0}) (λ t. WalkNext t.to) (λ v q c is e k. tt) (λ v k b is. absurd (differ b is)) (λ v q is e k. tt) n w tt
    where
      differ : (b : ℕ) → None ≡ Some b → ⊥
      differ b z = cc

  pub walk_begun : (p : Layout) (o : Oid) (ls : List ℕ) (low : ℕ) (cells : List (ℕ × Cell)) (next : ℕ) → WalkNext (walk_start p o ls low cells next).to
  unfolding walk_start
  walk_begun p o ls low cells next = on_told p next _ _

  pub walk_anew : (p : Layout) (w : Walk) (next : ℕ) → WalkNext (walk_again p w next).to
  walk_anew p w next = on_told p next _ w

  pub walk_told : (p : Layout) (w : Walk) (n next : ℕ) (from : NodeId) (rid : ℕ) (y : Msg) → Heard (walk_asks w) from rid y → WalkNext (walk_feed p w w.job n (reply y) next).to
  walk_told p w n next from rid y h = by w _ (walk_fed p n (reply y) next w) h
    where
      same : (a c : ℕ) → Some a ≡ Some c → a ≡ c
      same a c z = cc

      by : (v : Walk) (t : WalkTurn) → WalkFed p n (reply y) next v t → Heard (walk_asks v) from rid y → WalkNext t.to
      by _ _ (ReadDone v j c e) h = on_told p (cell_feed j n (reply y) next).next _ _
      by _ _ (ReadGone v j b e) h = λ d f. subst (λ (z : ℕ). ToldNow (msg.Gone z)) (same b d f) (told_gone (cell_asks j) from rid y b h (cell_gone j n (reply y) next b e))
      by _ _ x h = tt
