-- The turns of a layout's own sequencer: while it scans, each answer that is good for something brings it on, and what it may still ask gets less.
use Rattle.std.proofs.Common.{◌≡◌, ◌⊎◌, ℕ, zero, suc, ◌+◌, ◌-◌, ◌*◌, ◌<◌, ◌≤◌, List, [], ◌∷◌, length, not, ◌||◌, Bool, true, false, eqb, refl, ap, ◌∙◌, sym, subst, inl, inr, arith, Some, None, Option}
use Rattle.std.specs.Prelude.{nat_lt, min}
use Rattle.tg_base.specs.Layouts.{Layout, IsLayout}
use Rattle.tg_base.specs.declared.ids.NodeId.{NodeId}
use Rattle.tg_base.specs.declared.msg.Msg.{Msg}
use Rattle.tg_base.specs.declared.msg.Msg.TheVariants as msg
use Rattle.tg_base.specs.declared.packet.Out.{Out}
use Rattle.tg_protocol.specs.Words.{unit_id}
use Rattle.tg_protocol.specs.Layouts.{chain_of}
use Rattle.tg_protocol.specs.Requests.{out, awaits, drawn_from}
use Rattle.tg_protocol.specs.Replies.{reply}
use Rattle.tg_protocol.specs.Cells.{Place, CellWork, Puts, Gets, Fills, Copies, Probes, CellJob, CellTurn, place_in, last_unit, works, work_asks, get_cell, cell_asks, cell_feed}
use Rattle.tg_protocol.specs.Sequencers.{SeqrState, SeqrTurn, with_positions, cell_streams, scan_on, scan_turn, scanning, sends_new, fed_if, scan_fed, begun, learns, answers, stand_answer, unfenced, on_learn, learn_or_old, seqr_step}
use Rattle.tg_protocol.specs.Finishing.{longest_chain}
use Rattle.tg_law_finish.proofs.Finish.Strays.{is_plain}
use Rattle.tg_law_reconfs.proofs.Grounds.{need, Fares, FDone, FGone, FGoes, FaresBy, chain_short}

-- it takes what is no request to it as an answer to its scan
pub plain_step : (s : SeqrState) (from : NodeId) (rid : ℕ) (y : Msg) → is_plain y ≡ true → seqr_step s from rid y ≡ scan_fed s s.scan from rid y
unfolding seqr_step is_plain
plain_step s from rid y e = grind arith

drawn_one : (u : NodeId) (r : ℕ) (z : Msg) → drawn_from r (out u r z ∷ []) ≡ out u r z ∷ []
drawn_one u r z = grind arith

module _ (p : Layout) (rules : IsLayout p) where
  -- it has learnt its layout, and no later epoch has fenced it
  pub record Learnt (s : SeqrState) : Type 0 where
    pub num : s.num ≡ p.seq
    pub epoch : s.epoch ≡ p.epoch
    pub proj : s.proj ≡ p
    pub fence : s.fence ≡ None

  -- how many requests so many positions may take
  unfoldable pub span : ℕ → ℕ
  span zero = 0
  span (suc n) = span n + (longest_chain p + 1)

  span_more : (n a : ℕ) → span n ≤ span (n + a)
  unfolding span
  span_more n zero = subst (λ (i : ℕ). span n ≤ span i) plain (omega arith)
    where
      plain : n ≡ n + 0
      plain = omega arith
  span_more n (suc a) = subst (λ (i : ℕ). span n ≤ span i) one (let le = span_more n a in omega (arith, le))
    where
      one : suc (n + a) ≡ n + suc a
      one = omega arith

  span_up : (a b : ℕ) → a ≤ b → span a ≤ span b
  span_up a b le = subst (λ (i : ℕ). span a ≤ span i) rest (span_more a (b - a))
    where
      rest : a + (b - a) ≡ b
      rest = omega (arith, le)

  span_one : (a b : ℕ) → b < a → span (a - b) ≡ span (a - (b + 1)) + (longest_chain p + 1)
  unfolding span
  span_one a b less = ap span next
    where
      next : a - b ≡ suc (a - (b + 1))
      next = omega (arith, less)

  -- the requests that it may still make
  abbrev pub togo_of : ℕ → Option CellJob → ℕ
  togo_of next None = 0
  togo_of next (Some j) = need (length j.place.chain) j.work + span (p.start - (next + 1))

  abbrev pub togo : SeqrState → ℕ
  togo s = togo_of s.next s.scan

  -- what it has in hand then, and has asked
  pub record Asks (s : SeqrState) (t : SeqrTurn) : Type 0 where
    pub job : CellJob
    pub has : t.now.scan ≡ Some job
    pub unit : ℕ
    pub says : Msg
    pub is : cell_asks job ≡ out (unit_id unit) s.rids says ∷ []
    pub sends : t.sends ≡ cell_asks job

  pub record Rests (t : SeqrTurn) : Type 0 where
    pub none : t.now.scan ≡ None
    pub sends : t.sends ≡ []

  pub record Moved (s : SeqrState) (t : SeqrTurn) (before : ℕ) : Type 0 where
    pub learnt : Learnt t.now
    pub sort : Rests t ⊎ Asks s t
    pub less : togo t.now + length t.sends ≤ before

  -- the scan goes on at a position, or is over
  on_moves : (s : SeqrState) (b : Bool) → scanning s ≡ b → Learnt s → Moved s (sends_new s (scan_on s b)) (span (p.start - s.next))
  unfolding get_cell work_asks
  on_moves s false is l = record { learnt = record { num = l.num; epoch = l.epoch; proj = l.proj; fence = l.fence }; sort = inl (record { none = refl; sends = refl }); less = omega arith }
  on_moves s true is l =
      let a = place_in s.proj s.next in
      let sends = drawn_one (unit_id (last_unit a)) s.rids (msg.Read a.epoch a.pos) in
      record {
        learnt = record { num = l.num; epoch = l.epoch; proj = l.proj; fence = l.fence };
        sort = inr (record { job = works a (Gets s.rids); has = refl; unit = last_unit a; says = msg.Read a.epoch a.pos; is = refl; sends = sends });
        less = let few = short s.proj l.proj s.next in let one = span_one p.start s.next (below s.proj l.proj s.next is) in let long = ap (λ (os : List Out). length os) sends in omega (arith, few, one, long);
      }
    where
      short : (q : Layout) → q ≡ p → (pos : ℕ) → length (chain_of q pos) ≤ longest_chain p
      short q e pos = subst (λ (x : Layout). length (chain_of x pos) ≤ longest_chain p) (sym e) (chain_short p pos rules)

      is_less : (a b : ℕ) → nat_lt a b ≡ true → a < b
      is_less a b e = grind arith

      below : (q : Layout) → q ≡ p → (n : ℕ) → nat_lt n q.start ≡ true → n < p.start
      below q e n is = subst (λ (x : Layout). n < x.start) e (is_less n q.start is)

  moved_less : (s : SeqrState) (t : SeqrTurn) (a b : ℕ) → a ≤ b → Moved s t a → Moved s t b
  moved_less s t a b le x = record { learnt = x.learnt; sort = x.sort; less = let l = x.less in omega (arith, l, le) }

  -- an answer that is good for something
  fares_moves : (s : SeqrState) (j : CellJob) → Learnt s → j.place ≡ place_in s.proj s.next → (x : CellTurn) → Fares j s.rids x → Moved s (sends_new s (scan_turn s x)) (need (length j.place.chain) j.work + span (p.start - (s.next + 1)))
  fares_moves s j l at _ (FDone c) =
      let t = record s { next = s.next + 1; lists = with_positions s.next (cell_streams c) s.lists } in
      let x = on_moves t (scanning t) refl (record { num = l.num; epoch = l.epoch; proj = l.proj; fence = l.fence }) in
      record { learnt = x.learnt; sort = same x.sort; less = let a = x.less in omega (arith, a) }
    where
      same : {t : SeqrTurn} → Rests t ⊎ Asks (record s { next = s.next + 1; lists = with_positions s.next (cell_streams c) s.lists }) t → Rests t ⊎ Asks s t
      same (inl y) = inl y
      same (inr y) = inr (record { job = y.job; has = y.has; unit = y.unit; says = y.says; is = y.is; sends = y.sends })
  fares_moves s j l at _ (FGone g past) =
      let t = record s { next = min g s.proj.start } in
      let x = on_moves t (scanning t) refl (record { num = l.num; epoch = l.epoch; proj = l.proj; fence = l.fence }) in
      let up = span_up (p.start - min g s.proj.start) (p.start - (s.next + 1)) (further s.proj l.proj (subst (λ (a : Place). nat_lt a.pos g ≡ true) at past)) in
      record { learnt = x.learnt; sort = same x.sort; less = let a = x.less in omega (arith, a, up) }
    where
      same : {t : SeqrTurn} → Rests t ⊎ Asks (record s { next = min g s.proj.start }) t → Rests t ⊎ Asks s t
      same (inl y) = inl y
      same (inr y) = inr (record { job = y.job; has = y.has; unit = y.unit; says = y.says; is = y.is; sends = y.sends })

      least : (g n b : ℕ) → nat_lt n g ≡ true → b - min g b ≤ b - (n + 1)
      least g n b e = grind arith

      further : (q : Layout) → q ≡ p → nat_lt s.next g ≡ true → p.start - min g q.start ≤ p.start - (s.next + 1)
      further q e i = subst (λ (x : Layout). p.start - min g x.start ≤ p.start - (s.next + 1)) (sym e) (least g s.next p.start i)
  fares_moves s j l at _ (FGoes y u z is less) =
      let sends = ap (λ (os : List Out). drawn_from s.rids os) is ∙ (drawn_one (unit_id u) s.rids z ∙ sym is) in
      record {
        learnt = record { num = l.num; epoch = l.epoch; proj = l.proj; fence = l.fence };
        sort = inr (record { job = works j.place y; has = refl; unit = u; says = z; is = is; sends = sends });
        less = let long = ap (λ (os : List Out). length os) (sends ∙ is) in omega (arith, less, long);
      }

  -- An answer to what it awaits, and any other.

  pub awaited_moves : (s : SeqrState) (j : CellJob) (v rid : ℕ) (y : Msg) → is_plain y ≡ true → Learnt s → s.scan ≡ Some j → j.place ≡ place_in s.proj s.next → awaits (cell_asks j) (unit_id v) rid ≡ true → FaresBy j y → Moved s (seqr_step s (unit_id v) rid y) (togo s)
  awaited_moves s j v rid y plain l has at awaited fares =
      let same = plain_step s (unit_id v) rid y plain ∙ (ap (λ (o : Option CellJob). scan_fed s o (unit_id v) rid y) has ∙ ap (λ b. fed_if b s (scan_turn s (cell_feed j v (reply y) s.rids))) awaited) in
      subst (λ (t : SeqrTurn). Moved s t (togo s)) (sym same) (subst (λ (o : Option CellJob). Moved s (sends_new s (scan_turn s (cell_feed j v (reply y) s.rids))) (togo_of s.next o)) (sym has) (fares_moves s j l at _ (fares v s.rids)))

  abbrev pub NotAwaited : SeqrState → NodeId → ℕ → Type 0
  NotAwaited s from rid = (j : CellJob) → s.scan ≡ Some j → awaits (cell_asks j) from rid ≡ false

  pub passed : (s : SeqrState) (from : NodeId) (rid : ℕ) (y : Msg) → is_plain y ≡ true → NotAwaited s from rid → seqr_step s from rid y ≡ record { now = s; sends = [] }
  passed s from rid y plain off = plain_step s from rid y plain ∙ by s.scan refl
    where
      by : (o : Option CellJob) → s.scan ≡ o → scan_fed s o from rid y ≡ record { now = s; sends = [] }
      by None e = refl
      by (Some j) e = ap (λ b. fed_if b s (scan_turn s (cell_feed j from.num (reply y) s.rids))) (off j e)

  -- It is told its layout.

  its_own : (a b c d : ℕ) → a ≡ b → d ≤ c → (not (eqb a b) || nat_lt c d) ≡ false
  its_own a b c d e f = grind arith

  not_below : (n k : ℕ) → n ≤ k → nat_lt k n ≡ false
  not_below n k le = grind arith

  is_below : (n k : ℕ) → n < k → nat_lt n k ≡ true
  is_below n k less = grind arith

  -- again
  pub told_again : (s : SeqrState) (from : NodeId) (rid : ℕ) → Learnt s → seqr_step s from rid (msg.Learn p) ≡ record { now = s; sends = out from rid (stand_answer s [] (scanning s)) ∷ [] }
  unfolding seqr_step
  told_again s from rid l =
      ap (λ b. learn_or_old s p from rid b) (its_own p.seq s.num p.epoch s.epoch (sym l.num) (let e = l.epoch in omega (arith, e)))
      ∙ (ap (λ b. on_learn s p from rid b) (not_below p.epoch s.epoch (let e = l.epoch in omega (arith, e)))
      ∙ ap (λ o. unfenced o s from rid (answers s from rid (stand_answer s [] (scanning s)))) l.fence)

  abbrev pub fresh : SeqrState → SeqrState
  fresh s = record s { epoch = p.epoch; proj = p; next = 0; lists = []; fence = None; scan = None }

  pub first_told : (s : SeqrState) (from : NodeId) (rid : ℕ) → s.num ≡ p.seq → s.epoch < p.epoch → seqr_step s from rid (msg.Learn p) ≡ learns s (begun s p) from rid
  unfolding seqr_step
  first_told s from rid num less =
      ap (λ b. learn_or_old s p from rid b) (its_own p.seq s.num p.epoch s.epoch (sym num) (omega (arith, less)))
      ∙ ap (λ b. on_learn s p from rid b) (is_below s.epoch p.epoch less)

  -- then it begins at 0
  pub first_moves : (s : SeqrState) → s.num ≡ p.seq → Moved s (record { now = begun s p; sends = drawn_from s.rids (Rattle.tg_protocol.specs.Sequencers.seqr_asks (begun s p)) }) (span p.start)
  first_moves s num =
      let t = fresh s in
      let x = on_moves t (scanning t) refl (record { num = num; epoch = refl; proj = refl; fence = refl }) in
      record { learnt = x.learnt; sort = same x.sort; less = subst (λ (n : ℕ). togo (begun s p) + length (drawn_from s.rids (Rattle.tg_protocol.specs.Sequencers.seqr_asks (begun s p))) ≤ span n) whole x.less }
    where
      whole : p.start - 0 ≡ p.start
      whole = omega arith

      same : {t : SeqrTurn} → Rests t ⊎ Asks (fresh s) t → Rests t ⊎ Asks s t
      same (inl y) = inl y
      same (inr y) = inr (record { job = y.job; has = y.has; unit = y.unit; says = y.says; is = y.is; sends = y.sends })

  -- the bound of a whole scan
  pub whole_span : (n : ℕ) → 2 * span n ≡ n * (2 * longest_chain p + 2)
  unfolding span
  whole_span zero = omega arith
  whole_span (suc n) = let e = whole_span n in grind (arith, e)

  -- what is left of a scan is no more
  need_most : (n : ℕ) (y : CellWork) → need n y ≤ n
  need_most n (Gets r) = omega arith
  need_most n (Fills r) = omega arith
  need_most n (Copies r c i) = omega arith
  need_most n (Puts r d i) = omega arith
  need_most n (Probes ws) = omega arith

  pub togo_most : (s : SeqrState) (j : CellJob) → Learnt s → s.scan ≡ Some j → j.place ≡ place_in s.proj s.next → scanning s ≡ true → togo s ≤ span p.start
  togo_most s j l has at is = subst (λ (o : Option CellJob). togo_of s.next o ≤ span p.start) (sym has) (
      let few = need_most (length j.place.chain) j.work in
      let long = ap (λ (a : Place). length a.chain) at in
      let short = fits s.proj l.proj s.next in
      let one = span_one p.start s.next (below s.proj l.proj s.next is) in
      let up = span_up (p.start - s.next) p.start (omega arith) in
      omega (arith, few, long, short, one, up))
    where
      fits : (q : Layout) → q ≡ p → (pos : ℕ) → length (chain_of q pos) ≤ longest_chain p
      fits q e pos = subst (λ (x : Layout). length (chain_of x pos) ≤ longest_chain p) (sym e) (chain_short p pos rules)

      is_less : (a b : ℕ) → nat_lt a b ≡ true → a < b
      is_less a b e = grind arith

      below : (q : Layout) → q ≡ p → (n : ℕ) → nat_lt n q.start ≡ true → n < p.start
      below q e n is = subst (λ (x : Layout). n < x.start) e (is_less n q.start is)
