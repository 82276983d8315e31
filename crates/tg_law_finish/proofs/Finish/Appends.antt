-- An append: where it stands, what its node answers, and where it stands then.
use Rattle.std.proofs.Common.{◌≡◌, ◌⊎◌, ℕ, suc, ◌+◌, ◌-◌, ◌^◌, ◌<◌, ◌≤◌, List, [], ◌∷◌, length, cond, Bool, true, false, not, refl, ap, ◌∙◌, sym, subst, inl, inr, arith, Some, None, eqb}
use Rattle.std.specs.Prelude.{slice_set, slice_index_or, nat_lt, nat_le}
use Rattle.tg_base.specs.Layouts.{Layout}
use Rattle.tg_base.specs.Clusters.{Header}
use Rattle.tg_base.specs.declared.cell.Cell.{Cell}
use Rattle.tg_base.specs.declared.cell.Cell.TheVariants.{Junk, Data}
use Rattle.tg_base.specs.declared.ids.NodeId.{NodeId}
use Rattle.tg_base.specs.declared.msg.Msg.{Msg}
use Rattle.tg_base.specs.declared.msg.Msg.TheVariants as msg
use Rattle.tg_entry.specs.declared.entry.Entry.{Entry}
use Rattle.tg_kind.specs.Meaning.{Meaning}
use Rattle.tg_protocol.specs.Words.{cell_at, cell_eq, too_far, unit_id, seqr_id}
use Rattle.tg_protocol.specs.Units.{UnitState, UnitTurn, new_unit}
use Rattle.tg_protocol.specs.Entries.{streams_of}
use Rattle.tg_entry.specs.Records.{linked}
use Rattle.tg_protocol.specs.Pages.{page_of}
use Rattle.tg_base.specs.declared.marks.StreamLink.{StreamLink}
use Rattle.tg_protocol.specs.Sequencers.{SeqrState, SeqrTurn, seqr_step, own_epoch, unfenced, on_token, issue, scanning, links_of}
use Rattle.tg_protocol.specs.Requests.{out, Goes, Ends}
use Rattle.tg_protocol.specs.Replies.{Reply, IsLatest, IsGone, IsIssued, IsOther, reply}
use Rattle.tg_protocol.specs.Appending.{Append, AppendWork, Asking, Putting, Judging, Token, AppendEnd, AppendTurn, append_asks, append_work_asks, append_feed, put_turn, judge_turn, own_or_not, asks_token, on_issued}
use Rattle.tg_protocol.specs.Cells.{Place, CellWork, Puts, Fills, Copies, Lost, Gone, works, place_in, unit_at, work_asks, work_feed, put_on, copy_on, end_if, put_cell}
use Rattle.tg_law_finish.proofs.Finish.Nets.{Net, unit_of, seqr_of, on_in}
use Rattle.tg_law_finish.proofs.Finish.Lists.{set_index}
use Rattle.tg_law_finish.proofs.Finish.Stores.{Kept, Outcome, IsGone', IsHeld', IsTaken', Put, with_unit, unit_puts, unit_same}
use Rattle.tg_law_finish.proofs.Finish.Places.{Serves, Clear, Below, CanIssue, Issues, puts_serves, puts_clear, head_clear, same_clear, puts_issue}

unfoldable pub is_latest : Reply → Bool
is_latest (IsLatest q) = true
is_latest _ = false

module _ (m : Meaning) (h : Header) (stopped : List NodeId) (k : ℕ) (p : Layout) (longest : ℕ) where
  -- A page goes down a chain in which no unit has another.
  pub record PutFresh (s : Net m) (a : Append) (pl : Place) (d : List ℕ) (i n : ℕ) : Type 0 where
    pub token : Token
    pub has : a.token ≡ Some token
    pub serves : Serves m h stopped k p longest s pl
    pub less : i < length pl.chain
    pub clear : Clear m h stopped k p longest s pl (Data d) i
    pub few : length pl.chain ≤ n + suc i

  -- A page for the head, which may have another cell.
  pub record PutOld (s : Net m) (a : Append) (pl : Place) (i n : ℕ) : Type 0 where
    pub token : Token
    pub has : a.token ≡ Some token
    pub serves : Serves m h stopped k p longest s pl
    pub first : i ≡ 0
    pub below : Below m h stopped k p longest s pl
    pub issue : CanIssue m h stopped k p longest s a.draft
    pub off : eqb (seqr_of m h s p.seq).next pl.pos ≡ false
    pub few : longest + 1 ≤ n

  pub record Filling (s : Net m) (a : Append) (pl : Place) (n : ℕ) : Type 0 where
    pub token : Token
    pub has : a.token ≡ Some token
    pub serves : Serves m h stopped k p longest s pl
    pub below : Below m h stopped k p longest s pl
    pub issue : CanIssue m h stopped k p longest s a.draft
    pub off : eqb (seqr_of m h s p.seq).next pl.pos ≡ false
    pub few : length pl.chain + longest ≤ n

  pub record Copying (s : Net m) (a : Append) (pl : Place) (c : Cell) (i n : ℕ) : Type 0 where
    pub token : Token
    pub has : a.token ≡ Some token
    pub serves : Serves m h stopped k p longest s pl
    pub less : i < length pl.chain
    pub clear : Clear m h stopped k p longest s pl c i
    pub issue : CanIssue m h stopped k p longest s a.draft
    pub off : eqb (seqr_of m h s p.seq).next pl.pos ≡ false
    pub few : length pl.chain + longest ≤ n + i

  abbrev pub PutsStage : Net m → Append → Place → CellWork → ℕ → Type 0
  PutsStage s a pl (Puts r d i) n = PutFresh s a pl d i n ⊎ PutOld s a pl i n
  PutsStage s a pl _ n = ⊥

  abbrev pub JudgeStage : Net m → Append → Place → CellWork → ℕ → Type 0
  JudgeStage s a pl (Fills r) n = Filling s a pl n
  JudgeStage s a pl (Copies r c i) n = Copying s a pl c i n
  JudgeStage s a pl _ n = ⊥

  -- an append may still send so many requests after the one that is outstanding
  abbrev pub AppendStage : Net m → Append → AppendWork → ℕ → Type 0
  AppendStage s a (Asking r) n = CanIssue m h stopped k p longest s a.draft × (longest ≤ n)
  AppendStage s a (Putting j) n = PutsStage s a j.place j.work n
  AppendStage s a (Judging j) n = JudgeStage s a j.place j.work n

  -- an answer that makes it go on by one new request, or ends it
  pub data Well (t : Net m) (n next : ℕ) : AppendTurn → Type 0 where
    Ended : (end gone : ℕ) (e : AppendEnd) → Well t n next (record { next = end; besides = []; gone = gone; to = Ends e })
    Going : (a : Append) (to : NodeId) (y : Msg) (left : ℕ) → append_asks p a ≡ out to next y ∷ [] → AppendStage t a a.work left → left + 1 ≤ n → Well t n next (record { next = next + 1; besides = []; gone = 0; to = Goes a })

  token_well : (t : Net m) (d : Entry) (n next : ℕ) → CanIssue m h stopped k p longest t d → longest + 1 ≤ n → Well t n next (asks_token d next)
  unfolding append_work_asks
  token_well t d n next issue few = Going (record { draft = d; token = None; work = Asking next }) (seqr_id p.seq) _ longest refl (issue, omega arith) few

  put_on_well : (t : Net m) (a : Append) (token : Token) (pl : Place) (d : List ℕ) (i n next : ℕ) (b : Bool) → nat_lt i (length pl.chain) ≡ b → Serves m h stopped k p longest t pl → Clear m h stopped k p longest t pl (Data d) i → length pl.chain + 0 ≤ n + i
      → Well t n next (put_turn a token (put_on pl d i next b))
  unfolding append_work_asks work_asks
  put_on_well t a token pl d i n next true e serves clear few = Going (record { draft = a.draft; token = Some token; work = Putting (works pl (Puts next d i)) }) (unit_id (unit_at pl i)) _ (n - 1) refl
      (inl (record { token = token; has = refl; serves = serves; less = below i (length pl.chain) e; clear = clear; few = low (length pl.chain) n i few (below i (length pl.chain) e) })) (pos (length pl.chain) n i few (below i (length pl.chain) e))
    where
      below : (a b : ℕ) → nat_lt a b ≡ true → a < b
      below a b e = grind arith

      low : (len n i : ℕ) → len + 0 ≤ n + i → i < len → len ≤ (n - 1) + suc i
      low len n i a b = omega (arith, a, b)

      pos : (len n i : ℕ) → len + 0 ≤ n + i → i < len → (n - 1) + 1 ≤ n
      pos len n i a b = omega (arith, a, b)
  put_on_well t a token pl d i n next false e serves clear few = Ended _ _ _

  copy_on_well : (t : Net m) (a : Append) (token : Token) (pl : Place) (c : Cell) (i n next : ℕ) (b : Bool) → nat_lt i (length pl.chain) ≡ b → Serves m h stopped k p longest t pl → Clear m h stopped k p longest t pl c i → CanIssue m h stopped k p longest t a.draft
      → eqb (seqr_of m h t p.seq).next pl.pos ≡ false → length pl.chain + longest + 1 ≤ n + i → i ≤ length pl.chain → Well t n next (judge_turn a token (copy_on pl c i next b))
  unfolding append_work_asks work_asks
  copy_on_well t a token pl c i n next true e serves clear issue off few le = Going (record { draft = a.draft; token = Some token; work = Judging (works pl (Copies next c i)) }) (unit_id (unit_at pl i)) _ (n - 1) refl
      (record { token = token; has = refl; serves = serves; less = below i (length pl.chain) e; clear = clear; issue = issue; off = off; few = low (length pl.chain) n i few le }) (pos (length pl.chain) n i few le)
    where
      below : (a b : ℕ) → nat_lt a b ≡ true → a < b
      below a b e = grind arith

      low : (len n i : ℕ) → len + longest + 1 ≤ n + i → i ≤ len → len + longest ≤ (n - 1) + i
      low len n i a b = omega (arith, a, b)

      pos : (len n i : ℕ) → len + longest + 1 ≤ n + i → i ≤ len → (n - 1) + 1 ≤ n
      pos len n i a b = omega (arith, a, b)
  copy_on_well t a token pl c i n next false e serves clear issue off few le = by (cell_eq c (Data token.page))
    where
      wide : (len n i : ℕ) → len + longest + 1 ≤ n + i → i ≤ len → longest + 1 ≤ n
      wide len n i a b = omega (arith, a, b)

      by : (b : Bool) → Well t n next (own_or_not a token next b)
      by true = Ended _ _ _
      by false = token_well t a.draft n next issue (wide (length pl.chain) n i few le)

  -- What is heard.

  pub record Heard (t : Net m) (y : Msg) (n : ℕ) (feeds : ℕ → Reply → ℕ → AppendTurn) : Type 0 where
    pub no_latest : is_latest (reply y) ≡ false
    pub well : (u next : ℕ) → Well t n next (feeds u (reply y) next)

  pub gone_near : (b : ℕ) → too_far b ≡ false → reply (msg.Gone b) ≡ IsGone b
  unfolding reply
  gone_near b e = ap (λ x. cond x IsOther (IsGone b)) e

  put_gone : (t : Net m) (a : Append) (token : Token) (pl : Place) (r : ℕ) (d : List ℕ) (i n low : ℕ) → too_far low ≡ false → nat_lt pl.pos low ≡ true → Heard t (msg.Gone low) n (λ u x next. put_turn a token (work_feed (works pl (Puts r d i)) (Puts r d i) u x next))
  unfolding work_feed is_latest
  put_gone t a token pl r d i n low far trimmed = record { no_latest = ap is_latest (gone_near low far); well = λ u next. subst (λ x. Well t n next (put_turn a token (work_feed (works pl (Puts r d i)) (Puts r d i) u x next))) (sym (gone_near low far)) (subst (λ b. Well t n next (put_turn a token (end_if b (works pl (Puts r d i)) next (Gone low)))) (sym trimmed) (Ended _ _ _)) }

  put_held : (t : Net m) (a : Append) (token : Token) (pl : Place) (r : ℕ) (d : List ℕ) (i n : ℕ) → Serves m h stopped k p longest t pl → Clear m h stopped k p longest t pl (Data d) (i + 1) → length pl.chain + 0 ≤ n + (i + 1)
      → Heard t msg.Held n (λ u x next. put_turn a token (work_feed (works pl (Puts r d i)) (Puts r d i) u x next))
  unfolding work_feed is_latest reply
  put_held t a token pl r d i n serves clear few = record { no_latest = refl; well = λ u next. put_on_well t a token pl d (i + 1) n next (nat_lt (i + 1) (length pl.chain)) refl serves clear few }

  put_lost : (t : Net m) (a : Append) (token : Token) (pl : Place) (r : ℕ) (d : List ℕ) (n : ℕ) (x : Cell) → cell_eq x (Data d) ≡ false → CanIssue m h stopped k p longest t a.draft → longest + 1 ≤ n
      → Heard t (msg.Taken x) n (λ u y next. put_turn a token (work_feed (works pl (Puts r d 0)) (Puts r d 0) u y next))
  unfolding work_feed is_latest reply
  put_lost t a token pl r d n x other issue few = record { no_latest = refl; well = λ u next. subst (λ b. Well t n next (put_turn a token (end_if (not b) (works pl (Puts r d 0)) next (Lost x)))) (sym other) (token_well t a.draft n next issue few) }

  fill_gone : (t : Net m) (a : Append) (token : Token) (pl : Place) (r n low : ℕ) → too_far low ≡ false → nat_lt pl.pos low ≡ true → Heard t (msg.Gone low) n (λ u x next. judge_turn a token (work_feed (works pl (Fills r)) (Fills r) u x next))
  unfolding work_feed is_latest
  fill_gone t a token pl r n low far trimmed = record { no_latest = ap is_latest (gone_near low far); well = λ u next. subst (λ x. Well t n next (judge_turn a token (work_feed (works pl (Fills r)) (Fills r) u x next))) (sym (gone_near low far)) (subst (λ b. Well t n next (judge_turn a token (end_if b (works pl (Fills r)) next (Gone low)))) (sym trimmed) (Ended _ _ _)) }

  fill_held : (t : Net m) (a : Append) (token : Token) (pl : Place) (r n : ℕ) → Serves m h stopped k p longest t pl → Clear m h stopped k p longest t pl Junk 1 → CanIssue m h stopped k p longest t a.draft
      → eqb (seqr_of m h t p.seq).next pl.pos ≡ false → length pl.chain + longest ≤ n → Heard t msg.Held n (λ u x next. judge_turn a token (work_feed (works pl (Fills r)) (Fills r) u x next))
  unfolding work_feed is_latest reply
  fill_held t a token pl r n serves clear issue off few = let one = serves.some in record { no_latest = refl; well = λ u next. copy_on_well t a token pl Junk 1 n next (nat_lt 1 (length pl.chain)) refl serves clear issue off (omega (arith, few)) (omega (arith, one)) }

  fill_taken : (t : Net m) (a : Append) (token : Token) (pl : Place) (r n : ℕ) (c : Cell) → Serves m h stopped k p longest t pl → Clear m h stopped k p longest t pl c 1 → CanIssue m h stopped k p longest t a.draft
      → eqb (seqr_of m h t p.seq).next pl.pos ≡ false → length pl.chain + longest ≤ n → Heard t (msg.Taken c) n (λ u x next. judge_turn a token (work_feed (works pl (Fills r)) (Fills r) u x next))
  unfolding work_feed is_latest reply
  fill_taken t a token pl r n c serves clear issue off few = let one = serves.some in record { no_latest = refl; well = λ u next. copy_on_well t a token pl c 1 n next (nat_lt 1 (length pl.chain)) refl serves clear issue off (omega (arith, few)) (omega (arith, one)) }

  copy_gone : (t : Net m) (a : Append) (token : Token) (pl : Place) (r : ℕ) (c : Cell) (i n low : ℕ) → too_far low ≡ false → nat_lt pl.pos low ≡ true → Heard t (msg.Gone low) n (λ u x next. judge_turn a token (work_feed (works pl (Copies r c i)) (Copies r c i) u x next))
  unfolding work_feed is_latest
  copy_gone t a token pl r c i n low far trimmed = record { no_latest = ap is_latest (gone_near low far); well = λ u next. subst (λ x. Well t n next (judge_turn a token (work_feed (works pl (Copies r c i)) (Copies r c i) u x next))) (sym (gone_near low far)) (subst (λ b. Well t n next (judge_turn a token (end_if b (works pl (Copies r c i)) next (Gone low)))) (sym trimmed) (Ended _ _ _)) }

  copy_held : (t : Net m) (a : Append) (token : Token) (pl : Place) (r : ℕ) (c : Cell) (i n : ℕ) → i < length pl.chain → Serves m h stopped k p longest t pl → Clear m h stopped k p longest t pl c (i + 1) → CanIssue m h stopped k p longest t a.draft
      → eqb (seqr_of m h t p.seq).next pl.pos ≡ false → length pl.chain + longest ≤ n + i → Heard t msg.Held n (λ u x next. judge_turn a token (work_feed (works pl (Copies r c i)) (Copies r c i) u x next))
  unfolding work_feed is_latest reply
  copy_held t a token pl r c i n less serves clear issue off few = record { no_latest = refl; well = λ u next. copy_on_well t a token pl c (i + 1) n next (nat_lt (i + 1) (length pl.chain)) refl serves clear issue off (omega (arith, few)) (omega (arith, less)) }

  -- What a unit makes of a request.

  -- it answers so, and the nodes are then such that the answer does well
  pub record Replies (s : Net m) (u : ℕ) (tu : UnitTurn) (n : ℕ) (feeds : ℕ → Reply → ℕ → AppendTurn) : Type 0 where
    pub says : Msg
    pub is : tu.says ≡ Some says
    pub heard : Heard (with_unit m stopped s u tu.now) says n feeds

  pub held_put : (s : Net m) (u : ℕ) (t : UnitState) (pos : ℕ) (c : Cell) → Kept (unit_of m s u) t pos c → ((x : Cell) → cell_at t.cells pos ≡ Some x → cell_eq x c ≡ true) → Put m stopped s (with_unit m stopped s u t) pos c
  held_put s u t pos c kept here = unit_puts m stopped s u t pos c kept (λ x e. inl (here x e))

  pub here_at : (s : Net m) (u : ℕ) (t : UnitState) (pos : ℕ) (c : Cell) → Kept (unit_of m s u) t pos c → ((x : Cell) → cell_at t.cells pos ≡ Some x → cell_eq x c ≡ true) → (x : Cell) → cell_at (unit_of m (with_unit m stopped s u t) u).cells pos ≡ Some x → cell_eq x c ≡ true
  here_at s u t pos c kept here x e = by (set_index s.units u t u new_unit)
    where
      by : ((u ≡ u) × (slice_index_or (slice_set s.units u t) u new_unit ≡ t)) ⊎ (slice_index_or (slice_set s.units u t) u new_unit ≡ unit_of m s u) → cell_eq x c ≡ true
      by (inl f) = here x (sym (ap (λ y. cell_at y.cells pos) f.1) ∙ e)
      by (inr f) = here x (kept.stays x (sym (ap (λ y. cell_at y.cells pos) f) ∙ e))

  pub unit_back : (s : Net m) (u pos v : ℕ) (x : Cell) → cell_at (unit_of m (with_unit m stopped s u (unit_of m s u)) v).cells pos ≡ Some x → cell_at (unit_of m s v).cells pos ≡ Some x
  unit_back s u pos v x e = by (set_index s.units u (unit_of m s u) v new_unit)
    where
      by : ((v ≡ u) × (slice_index_or (slice_set s.units u (unit_of m s u)) v new_unit ≡ unit_of m s u)) ⊎ (slice_index_or (slice_set s.units u (unit_of m s u)) v new_unit ≡ unit_of m s v) → cell_at (unit_of m s v).cells pos ≡ Some x
      by (inl f) = ap (λ n. cell_at (unit_of m s n).cells pos) f.0 ∙ (sym (ap (λ y. cell_at y.cells pos) f.1) ∙ e)
      by (inr f) = sym (ap (λ y. cell_at y.cells pos) f) ∙ e

  pub put_fresh_replies : (s : Net m) (a : Append) (pl : Place) (r : ℕ) (d : List ℕ) (i n : ℕ) (f : PutFresh s a pl d i n) (tu : UnitTurn) → Outcome (unit_of m s (unit_at pl i)) pl.pos (Data d) tu
      → Replies s (unit_at pl i) tu n (λ u x next. put_turn a f.token (work_feed (works pl (Puts r d i)) (Puts r d i) u x next))
  put_fresh_replies s a pl r d i n f tu (IsGone' trimmed) = record { says = _; is = refl; heard = put_gone _ a f.token pl r d i n _ (f.serves.unit i f.less).low trimmed }
  put_fresh_replies s a pl r d i n f tu (IsHeld' t kept here low same) =
      let put = held_put s (unit_at pl i) t pl.pos (Data d) kept here in
      let few = f.few in
      record { says = _; is = refl; heard = put_held _ a f.token pl r d i n (puts_serves m h stopped k p longest s _ pl.pos (Data d) pl put f.serves) (puts_clear m h stopped k p longest s _ pl (Data d) i (i + 1) put (omega arith) f.clear) (omega (arith, few)) }
  put_fresh_replies s a pl r d i n f tu (IsTaken' x e differs low) = absurd (two (f.clear i x (omega arith) f.less e) differs)
    where
      two : {b : Bool} → b ≡ true → b ≡ false → ⊥
      two e f = grind arith

  pub put_old_replies : (s : Net m) (a : Append) (pl : Place) (r : ℕ) (d : List ℕ) (n : ℕ) (f : PutOld s a pl 0 n) (tu : UnitTurn) → Outcome (unit_of m s (unit_at pl 0)) pl.pos (Data d) tu
      → Replies s (unit_at pl 0) tu n (λ u x next. put_turn a f.token (work_feed (works pl (Puts r d 0)) (Puts r d 0) u x next))
  put_old_replies s a pl r d n f tu (IsGone' trimmed) = record { says = _; is = refl; heard = put_gone _ a f.token pl r d 0 n _ (f.serves.unit 0 f.serves.some).low trimmed }
  put_old_replies s a pl r d n f tu (IsHeld' t kept here low same) =
      let put = held_put s (unit_at pl 0) t pl.pos (Data d) kept here in
      let few = f.few in
      let short = f.serves.short in
      record { says = _; is = refl; heard = put_held _ a f.token pl r d 0 n (puts_serves m h stopped k p longest s _ pl.pos (Data d) pl put f.serves) (head_clear m h stopped k p longest s _ pl (Data d) put f.below low (here_at s (unit_at pl 0) t pl.pos (Data d) kept here)) (omega (arith, few, short)) }
  put_old_replies s a pl r d n f tu (IsTaken' x e differs low) =
      record { says = _; is = refl; heard = put_lost _ a f.token pl r d n x differs (puts_issue m h stopped k p longest s _ pl.pos (Data d) a.draft (unit_same m stopped s (unit_at pl 0) pl.pos (Data d)) refl f.off f.issue) f.few }

  pub fill_replies : (s : Net m) (a : Append) (pl : Place) (r n : ℕ) (f : Filling s a pl n) (tu : UnitTurn) → Outcome (unit_of m s (unit_at pl 0)) pl.pos Junk tu
      → Replies s (unit_at pl 0) tu n (λ u x next. judge_turn a f.token (work_feed (works pl (Fills r)) (Fills r) u x next))
  fill_replies s a pl r n f tu (IsGone' trimmed) = record { says = _; is = refl; heard = fill_gone _ a f.token pl r n _ (f.serves.unit 0 f.serves.some).low trimmed }
  fill_replies s a pl r n f tu (IsHeld' t kept here low same) =
      let put = held_put s (unit_at pl 0) t pl.pos Junk kept here in
      record {
        says = _;
        is = refl;
        heard = fill_held _ a f.token pl r n (puts_serves m h stopped k p longest s _ pl.pos Junk pl put f.serves)
            (head_clear m h stopped k p longest s _ pl Junk put f.below low (here_at s (unit_at pl 0) t pl.pos Junk kept here))
            (puts_issue m h stopped k p longest s _ pl.pos Junk a.draft put refl f.off f.issue) f.off f.few;
      }
  fill_replies s a pl r n f tu (IsTaken' x e differs low) =
      let put = unit_same m stopped s (unit_at pl 0) pl.pos Junk in
      record {
        says = _;
        is = refl;
        heard = fill_taken _ a f.token pl r n x (puts_serves m h stopped k p longest s _ pl.pos Junk pl put f.serves)
            (same_clear m h stopped k p longest s _ pl x Junk put f.below low e (unit_back s (unit_at pl 0) pl.pos))
            (puts_issue m h stopped k p longest s _ pl.pos Junk a.draft put refl f.off f.issue) f.off f.few;
      }

  pub copy_replies : (s : Net m) (a : Append) (pl : Place) (r : ℕ) (c : Cell) (i n : ℕ) (f : Copying s a pl c i n) (tu : UnitTurn) → Outcome (unit_of m s (unit_at pl i)) pl.pos c tu
      → Replies s (unit_at pl i) tu n (λ u x next. judge_turn a f.token (work_feed (works pl (Copies r c i)) (Copies r c i) u x next))
  copy_replies s a pl r c i n f tu (IsGone' trimmed) = record { says = _; is = refl; heard = copy_gone _ a f.token pl r c i n _ (f.serves.unit i f.less).low trimmed }
  copy_replies s a pl r c i n f tu (IsHeld' t kept here low same) =
      let put = held_put s (unit_at pl i) t pl.pos c kept here in
      record {
        says = _;
        is = refl;
        heard = copy_held _ a f.token pl r c i n f.less (puts_serves m h stopped k p longest s _ pl.pos c pl put f.serves) (puts_clear m h stopped k p longest s _ pl c i (i + 1) put (omega arith) f.clear)
            (puts_issue m h stopped k p longest s _ pl.pos c a.draft put refl f.off f.issue) f.off f.few;
      }
  copy_replies s a pl r c i n f tu (IsTaken' x e differs low) = absurd (two (f.clear i x (omega arith) f.less e) differs)
    where
      two : {b : Bool} → b ≡ true → b ≡ false → ⊥
      two e f = grind arith

  -- What the sequencer makes of a request for a token.

  pub record Issued' (s : Net m) (x : SeqrState) (a : Append) (from : NodeId) (rid r n : ℕ) (t : SeqrTurn) : Type 0 where
    pub says : Msg
    pub sends : t.sends ≡ out from rid says ∷ []
    pub rests : t.now.scan ≡ None
    pub no_latest : is_latest (reply says) ≡ false
    pub well : (s' : Net m) → s'.units ≡ s.units → ((y : NodeId) → on_in m stopped s' y ≡ on_in m stopped s y) → (u next : ℕ) → Well s' n next (append_feed p a (Asking r) u (reply says) next)

  full_turn : (s : Net m) (x : SeqrState) (a : Append) (from : NodeId) (rid r n : ℕ) → Issues m h stopped k p longest s x a.draft → Issued' s x a from rid r n (issue x (streams_of a.draft) from rid true)
  unfolding append_feed reply is_latest
  full_turn s x a from rid r n i = record { says = _; sends = refl; rests = i.rests; no_latest = refl; well = λ t e f u next. Ended _ _ _ }

  below_limit : (limit next : ℕ) → nat_le limit next ≡ false → limit ≤ 2 ^ 62 → too_far next ≡ false
  below_limit limit next e le = grind arith

  issued_near : (pos : ℕ) (ls : List StreamLink) → too_far pos ≡ false → reply (msg.Issued pos ls) ≡ IsIssued pos ls
  unfolding reply
  issued_near pos ls e = ap (λ x. cond x IsOther (IsIssued pos ls)) e

  token_put : (t : Net m) (a : Append) (pos : ℕ) (ls : List StreamLink) (n next : ℕ) → Serves m h stopped k p longest t (place_in p pos)
      → ((j : ℕ) → j < length (place_in p pos).chain → cell_at (unit_of m t (unit_at (place_in p pos) j)).cells pos ≡ None) → longest ≤ n → Well t n next (on_issued p a pos ls next true)
  unfolding put_cell append_work_asks work_asks
  token_put t a pos ls n next serves free few =
      let token : Token = record { pos = pos; page = page_of (linked a.draft ls) } in
      let one = serves.some in
      let short = serves.short in
      Going (record { draft = a.draft; token = Some token; work = Putting (works (place_in p pos) (Puts next token.page 0)) }) (unit_id (unit_at (place_in p pos) 0)) _ (length (place_in p pos).chain - 1) refl
      (inl (record { token = token; has = refl; serves = serves; less = one; clear = λ j x le less e. absurd (two j x less e); few = omega (arith, one) })) (omega (arith, one, short, few))
    where
      two : (j : ℕ) (x : Cell) → j < length (place_in p pos).chain → cell_at (unit_of m t (unit_at (place_in p pos) j)).cells pos ≡ Some x → ⊥
      two j x less e = let f = sym (free j less) ∙ e in absurd cc

  issued_turn : (s : Net m) (x : SeqrState) (a : Append) (from : NodeId) (rid r n : ℕ) → Issues m h stopped k p longest s x a.draft → longest ≤ n → nat_le x.limit x.next ≡ false → Issued' s x a from rid r n (issue x (streams_of a.draft) from rid false)
  unfolding is_latest append_feed
  issued_turn s x a from rid r n i few room = record {
    says = _;
    sends = refl;
    rests = i.rests;
    no_latest = ap is_latest (issued_near x.next _ (below_limit x.limit x.next room i.limit));
    well = λ t e f u next.
        subst (λ y. Well t n next (append_feed p a (Asking r) u y next)) (sym (issued_near x.next _ (below_limit x.limit x.next room i.limit)))
        (subst (λ b. Well t n next (on_issued p a x.next (links_of x.lists (streams_of a.draft)) next b)) (sym i.named) (token_put t a x.next (links_of x.lists (streams_of a.draft)) n next (served t e f) (free t e) few));
  }
    where
      unit_is : (t : Net m) → t.units ≡ s.units → (v : ℕ) → unit_of m t v ≡ unit_of m s v
      unit_is t e v = ap (λ us. slice_index_or us v new_unit) e

      served : (t : Net m) → t.units ≡ s.units → ((y : NodeId) → on_in m stopped t y ≡ on_in m stopped s y) → Serves m h stopped k p longest t (place_in p x.next)
      served t e f = record {
        epoch = i.serves.epoch;
        some = i.serves.some;
        short = i.serves.short;
        unit = λ j less. record {
          on = f (unit_id (unit_at (place_in p x.next) j)) ∙ (i.serves.unit j less).on;
          epoch = ap (λ y. y.epoch) (unit_is t e (unit_at (place_in p x.next) j)) ∙ (i.serves.unit j less).epoch;
          low = ap (λ y. too_far y.low) (unit_is t e (unit_at (place_in p x.next) j)) ∙ (i.serves.unit j less).low;
        };
      }

      free : (t : Net m) → t.units ≡ s.units → (j : ℕ) → j < length (place_in p x.next).chain → cell_at (unit_of m t (unit_at (place_in p x.next) j)).cells x.next ≡ None
      free t e j less = ap (λ y. cell_at y.cells x.next) (unit_is t e (unit_at (place_in p x.next) j)) ∙ i.unwritten j less

  issue_turn : (s : Net m) (x : SeqrState) (a : Append) (from : NodeId) (rid r n : ℕ) (b : Bool) → nat_le x.limit x.next ≡ b → Issues m h stopped k p longest s x a.draft → longest ≤ n → Issued' s x a from rid r n (issue x (streams_of a.draft) from rid b)
  issue_turn s x a from rid r n true e i few = full_turn s x a from rid r n i
  issue_turn s x a from rid r n false e i few = issued_turn s x a from rid r n i few e

  pub token_turn : (s : Net m) (x : SeqrState) (a : Append) (from : NodeId) (rid r n : ℕ) → Issues m h stopped k p longest s x a.draft → longest ≤ n → Issued' s x a from rid r n (seqr_step x from rid (msg.Token p.epoch (streams_of a.draft)))
  unfolding seqr_step
  token_turn s x a from rid r n i few =
      subst (λ b. Issued' s x a from rid r n (own_epoch b x from rid (on_token x (streams_of a.draft) from rid (scanning x)))) (sym (tested p.epoch x.epoch (sym i.epoch)))
      (subst (λ f. Issued' s x a from rid r n (unfenced f x from rid (on_token x (streams_of a.draft) from rid (scanning x)))) (sym i.unfenced)
      (subst (λ b. Issued' s x a from rid r n (on_token x (streams_of a.draft) from rid b)) (sym i.ready) (issue_turn s x a from rid r n (nat_le x.limit x.next) refl i few)))
    where
      tested : (a b : ℕ) → a ≡ b → eqb a b ≡ true
      tested a b e = grind arith
