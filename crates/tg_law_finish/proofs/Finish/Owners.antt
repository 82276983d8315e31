-- A client that appends the record of a transaction with reads: a token, and its page down the chain; then it
-- syncs, below the position that is next then.
use Rattle.std.proofs.Common.{◌≡◌, ◌⊎◌, ℕ, zero, suc, ◌+◌, ◌-◌, ◌^◌, ◌<◌, ◌≤◌, List, [], ◌∷◌, ◌++◌, length, map, cond, Bool, true, false, refl, ap, ◌∙◌, sym, subst, inl, inr, arith, Some, None, eqb}
use Rattle.std.specs.Prelude.{slice_set, nat_lt, nat_le, max, ⊤}
use Rattle.tg_base.specs.Layouts.{Layout}
use Rattle.tg_base.specs.Clusters.{Header}
use Rattle.tg_base.specs.declared.cell.Cell.{Cell}
use Rattle.tg_base.specs.declared.cell.Cell.TheVariants.{Data}
use Rattle.tg_base.specs.declared.ids.NodeId.{NodeId}
use Rattle.tg_base.specs.declared.ids.Oid.{Oid}
use Rattle.tg_base.specs.declared.marks.StreamLink.{StreamLink}
use Rattle.tg_base.specs.declared.msg.Msg.{Msg}
use Rattle.tg_base.specs.declared.msg.Msg.TheVariants as msg
use Rattle.tg_base.specs.declared.packet.Out.{Out}
use Rattle.tg_entry.specs.declared.entry.Entry.{Entry}
use Rattle.tg_entry.specs.Records.{linked}
use Rattle.tg_kind.specs.Meaning.{Meaning}
use Rattle.tg_protocol.specs.Words.{cell_at, too_far, unit_id, seqr_id, client_id}
use Rattle.tg_protocol.specs.Units.{UnitState, UnitTurn, new_unit, unit_step, unit_ask, on_ask}
use Rattle.tg_protocol.specs.Entries.{streams_of, link_of, backs_of}
use Rattle.tg_protocol.specs.Layouts.{first_layout}
use Rattle.tg_protocol.specs.Pages.{page_of}
use Rattle.tg_protocol.specs.Sequencers.{SeqrState, SeqrTurn, new_seqr, seqr_step, own_epoch, unfenced, on_token, issue, issued, scanning, links_of, with_positions}
use Rattle.tg_protocol.specs.Requests.{out, awaits, drawn_from, Goes as Goes', Ends}
use Rattle.tg_protocol.specs.Replies.{Reply, IsOther, IsIssued, reply}
use Rattle.tg_protocol.specs.Appending.{Append, AppendWork, Asking, Putting, Judging, AppendEnd, At, Full, Forgotten, AppendTurn, Token, append_asks, append_work_asks, append_feed, by_token, put_turn, names_all, on_issued}
use Rattle.tg_protocol.specs.Cells.{CellWork, Puts, Gets, Fills, Copies, Probes, work_asks, work_feed, cell_feed, works, unit_at, Place, place_in, put_on, put_cell, end_if, Gone}
use Rattle.tg_protocol.specs.Clients.{Judged, Appending, Work, Client}
use Rattle.tg_protocol.specs.Answers.{Moved, syncs}
use Rattle.tg_protocol.specs.ClientSteps.{task_asks, client_asks, owns, append_ended, on_append, task_feed, fed_if, hand_feed, feed, given, called, client_deliver, ClientTurn}
use Rattle.tg_protocol.specs.Worlds.{packet_of, answer_to}
use Rattle.tg_law_finish.specs.Finish.Makes.{makes}
use Rattle.tg_law_finish.proofs.Finish.Appends.{is_latest, gone_near, held_put}
use Rattle.tg_law_finish.proofs.Finish.Askers.{Kind, Here, here_keeps, here_put, stable_at}
use Rattle.tg_law_finish.proofs.Finish.Lines.{Item, IsOver, Talk}
use Rattle.tg_law_finish.proofs.Finish.Lists.{set_there, set_other}
use Rattle.tg_law_finish.proofs.Finish.Nets.{Net, unit_of, seqr_of, client_of, on_in, on_alike, seqr_alike}
use Rattle.tg_law_finish.proofs.Finish.Others.{Keeps, Ready}
use Rattle.tg_law_finish.proofs.Finish.Places.{Serves, AllServe, Clear, CanIssue, Issues, keeps_unit, keeps_clear, keeps_issue, puts_unit, puts_clear}
use Rattle.tg_law_finish.proofs.Finish.Readings.{Good, good_keeps, good_put, good_here, below_put}
use Rattle.tg_law_finish.proofs.Finish.Stores.{Outcome, IsGone', IsHeld', IsTaken', Put, stores, with_unit}
use Rattle.tg_law_finish.proofs.Finish.Strays.{Old}
use Rattle.tg_law_finish.proofs.Finish.Talks.{One, More, Asked, Machine, one_talk}
use Rattle.tg_law_finish.proofs.Finish.Trails.{Low}
use Rattle.tg_law_finish.proofs.Finish.Writers.{Shape, shape_called, shape_ticked, shape_at, awaited_is, again_is, calm_shape, to_hand, over_asks, new_drawn, unit_away, awaited_itself, unit_no_client, seqr_no_client, below_count, same_out}

unfoldable pub is_at : AppendEnd → Bool
is_at (At p d) = true
is_at _ = false

module _ (m : Meaning) where
  pub lost_over : (c : Client m) (w : Work m) (e : AppendEnd) → is_at e ≡ false → ((append_ended m c w Judged e).now.work ≡ None) × ((append_ended m c w Judged e).besides ≡ [])
  unfolding is_at
  lost_over c w (At p d) l = absurd cc
  lost_over c w (Full b) l = (refl, refl)
  lost_over c w (Forgotten p b) l = (refl, refl)

module _ (m : Meaning) (h : Header) (stopped : List NodeId) (k : ℕ) (p : Layout) (longest : ℕ) (low_at : ℕ → ℕ) (many tail most : ℕ) (kind : Kind low_at p) where
  -- what the reads need, once the position is issued
  abbrev pub Then : Net m → Type 0
  Then s = Here m h stopped k p longest low_at many (suc tail) most kind s

  -- Before the token: no unit has a cell at the next position or past it, and the lists can grow by it.
  pub record Before (s : Net m) (d : Entry) : Type 0 where
    pub issue : CanIssue m h stopped k p longest s d
    pub units : AllServe m h stopped k p longest s
    pub good : Good m h stopped k p longest low_at many s
    pub next : (seqr_of m h s p.seq).next ≡ tail
    pub limit : (seqr_of m h s p.seq).limit < 2 ^ 62
    pub ahead : (pos j : ℕ) → tail ≤ pos → j < length (place_in p pos).chain → cell_at (unit_of m s (unit_at (place_in p pos) j)).cells pos ≡ None
    pub named : too_far (suc tail) ≡ false → (ts : List Oid) → names_all ts (links_of (with_positions (seqr_of m h s p.seq).next (streams_of d) (seqr_of m h s p.seq).lists) ts) ≡ true
    pub lasts : (o : Oid) (ts : List Oid) → Low p (suc tail) (backs_of (link_of o (links_of (with_positions (seqr_of m h s p.seq).next (streams_of d) (seqr_of m h s p.seq).lists) ts)))

  pub before_keeps : (s t : Net m) (d : Entry) → Keeps m h stopped k p s t → Before s d → Before t d
  before_keeps s t d keep x = record {
    issue = keeps_issue m h stopped k p longest s t d keep x.issue;
    units = λ u g. keeps_unit m h stopped k p longest s t u keep (x.units u g);
    good = good_keeps m h stopped k p longest low_at many s t keep x.good;
    next = ap (λ (y : SeqrState). y.next) keep.seqr ∙ x.next;
    limit = subst (λ (y : SeqrState). y.limit < 2 ^ 62) (sym keep.seqr) x.limit;
    ahead = λ pos j from less. ap (λ u. cell_at u.cells pos) (keep.units _ ((x.good pos).stable.serves.unit j less).epoch) ∙ x.ahead pos j from less;
    named = λ near ts. ap (λ (y : SeqrState). names_all ts (links_of (with_positions y.next (streams_of d) y.lists) ts)) keep.seqr ∙ x.named near ts;
    lasts = λ o ts. subst (λ (y : SeqrState). Low p (suc tail) (backs_of (link_of o (links_of (with_positions y.next (streams_of d) y.lists) ts)))) (sym keep.seqr) (x.lasts o ts);
  }

  -- The page goes down: the first unit has it where another is asked.
  abbrev pub HeadHas : Net m → Place → List ℕ → ℕ → Type 0
  HeadHas s pl d zero = ⊤
  HeadHas s pl d (suc i) = cell_at (unit_of m s (unit_at pl 0)).cells pl.pos ≡ Some (Data d)

  pub record Fresh (s : Net m) (a : Append) (pl : Place) (d : List ℕ) (i n : ℕ) : Type 0 where
    pub token : Token
    pub has : a.token ≡ Some token
    pub place : pl ≡ place_in p pl.pos
    pub at : pl.pos < suc tail
    pub here : Then s
    pub less : i < length pl.chain
    pub clear : Clear m h stopped k p longest s pl (Data d) i
    pub head : HeadHas s pl d i
    pub few : length pl.chain ≤ n + suc i

  abbrev pub PutsStage : Net m → Append → Place → CellWork → ℕ → Type 0
  PutsStage s a pl (Puts r d i) n = Fresh s a pl d i n
  PutsStage s a pl _ n = ⊥

  abbrev pub OwnStage : Net m → Append → AppendWork → ℕ → Type 0
  OwnStage s a (Asking r) n = Before s a.draft × (longest ≤ n)
  OwnStage s a (Putting j) n = PutsStage s a j.place j.work n
  OwnStage s a (Judging j) n = ⊥

  serves_at : (s : Net m) (pl : Place) → pl ≡ place_in p pl.pos → Then s → Serves m h stopped k p longest s pl
  serves_at s pl e here = (stable_at m h stopped k p longest low_at many (suc tail) most kind s pl e here).serves

  head_keeps : (s t : Net m) (pl : Place) (d : List ℕ) (i : ℕ) → Keeps m h stopped k p s t → Serves m h stopped k p longest s pl → HeadHas s pl d i → HeadHas t pl d i
  head_keeps s t pl d zero keep serves x = x
  head_keeps s t pl d (suc i) keep serves x = ap (λ u. cell_at u.cells pl.pos) (keep.units _ (serves.unit 0 serves.some).epoch) ∙ x

  fresh_keeps : (s t : Net m) (a : Append) (pl : Place) (d : List ℕ) (i n : ℕ) → Keeps m h stopped k p s t → Fresh s a pl d i n → Fresh t a pl d i n
  fresh_keeps s t a pl d i n keep f =
      let serves = serves_at s pl f.place f.here in
      record {
        token = f.token;
        has = f.has;
        place = f.place;
        at = f.at;
        here = here_keeps m h stopped k p longest low_at many (suc tail) most kind s t keep f.here;
        less = f.less;
        clear = keeps_clear m h stopped k p longest s t pl (Data d) i keep serves f.clear;
        head = head_keeps s t pl d i keep serves f.head;
        few = f.few;
      }

  puts_keeps : (s t : Net m) (a : Append) (pl : Place) (w : CellWork) (n : ℕ) → Keeps m h stopped k p s t → PutsStage s a pl w n → PutsStage t a pl w n
  puts_keeps s t a pl (Puts r d i) n keep f = fresh_keeps s t a pl d i n keep f
  puts_keeps s t a pl (Gets r) n keep f = absurd f
  puts_keeps s t a pl (Fills r) n keep f = absurd f
  puts_keeps s t a pl (Copies r c i) n keep f = absurd f
  puts_keeps s t a pl (Probes ws) n keep f = absurd f

  stage_keeps : (s t : Net m) (a : Append) (w : AppendWork) (n : ℕ) → Keeps m h stopped k p s t → OwnStage s a w n → OwnStage t a w n
  stage_keeps s t a (Asking r) n keep x = (before_keeps s t a.draft keep x.0, x.1)
  stage_keeps s t a (Putting j) n keep x = puts_keeps s t a j.place j.work n keep x
  stage_keeps s t a (Judging j) n keep x = absurd x

  -- What an answer makes of the append: it is lost, has its place, or goes on.
  pub data Well (t : Net m) (n next : ℕ) : AppendTurn → Type 0 where
    WellLost : (end gone : ℕ) (e : AppendEnd) → is_at e ≡ false → Well t n next (record { next = end; besides = []; gone = gone; to = Ends e })
    WellAt : (pos : ℕ) (page : List ℕ) → Then t → Well t n next (record { next = next; besides = []; gone = 0; to = Ends (At pos page) })
    WellGoes : (a : Append) (token : Token) (pl : Place) (d : List ℕ) (i left : ℕ) → Fresh t (record { draft = a.draft; token = Some token; work = Putting (works pl (Puts next d i)) }) pl d i left → left + 1 ≤ n
        → Well t n next (record { next = next + 1; besides = []; gone = 0; to = Goes' (record { draft = a.draft; token = Some token; work = Putting (works pl (Puts next d i)) }) })

  well_keeps : (s t : Net m) (n next : ℕ) (x : AppendTurn) → Keeps m h stopped k p s t → Well s n next x → Well t n next x
  well_keeps s t n next x keep (WellLost end gone e l) = WellLost end gone e l
  well_keeps s t n next x keep (WellAt pos page here) = WellAt pos page (here_keeps m h stopped k p longest low_at many (suc tail) most kind s t keep here)
  well_keeps s t n next x keep (WellGoes a token pl d i left f few) = WellGoes a token pl d i left (fresh_keeps s t _ pl d i left keep f) few

  put_on_well : (t : Net m) (a : Append) (token : Token) (pl : Place) (d : List ℕ) (i n next : ℕ) (b : Bool) → nat_lt i (length pl.chain) ≡ b → pl ≡ place_in p pl.pos → pl.pos < suc tail → Then t → Clear m h stopped k p longest t pl (Data d) i → HeadHas t pl d i → length pl.chain + 0 ≤ n + i
      → Well t n next (put_turn a token (put_on pl d i next b))
  put_on_well t a token pl d i n next true e place at here clear head few =
      WellGoes a token pl d i (n - 1) (record { token = token; has = refl; place = place; at = at; here = here; less = below i (length pl.chain) e; clear = clear; head = head; few = low (length pl.chain) n i few (below i (length pl.chain) e) }) (pos (length pl.chain) n i few (below i (length pl.chain) e))
    where
      below : (a b : ℕ) → nat_lt a b ≡ true → a < b
      below a b e = grind arith

      low : (len n i : ℕ) → len + 0 ≤ n + i → i < len → len ≤ (n - 1) + suc i
      low len n i a b = omega (arith, a, b)

      pos : (len n i : ℕ) → len + 0 ≤ n + i → i < len → (n - 1) + 1 ≤ n
      pos len n i a b = omega (arith, a, b)
  put_on_well t a token pl d i n next false e place at here clear head few = WellAt _ _ here

  pub record Heard (t : Net m) (y : Msg) (n : ℕ) (feeds : ℕ → Reply → ℕ → AppendTurn) : Type 0 where
    pub no_latest : is_latest (reply y) ≡ false
    pub well : (u next : ℕ) → Well t n next (feeds u (reply y) next)

  put_gone : (t : Net m) (a : Append) (token : Token) (pl : Place) (r : ℕ) (d : List ℕ) (i n low : ℕ) → too_far low ≡ false → nat_lt pl.pos low ≡ true → Heard t (msg.Gone low) n (λ u x next. put_turn a token (work_feed (works pl (Puts r d i)) (Puts r d i) u x next))
  unfolding work_feed is_latest is_at
  put_gone t a token pl r d i n low far trimmed = record { no_latest = ap is_latest (gone_near m h stopped k p longest low far); well = λ u next. subst (λ x. Well t n next (put_turn a token (work_feed (works pl (Puts r d i)) (Puts r d i) u x next))) (sym (gone_near m h stopped k p longest low far)) (subst (λ b. Well t n next (put_turn a token (end_if b (works pl (Puts r d i)) next (Gone low)))) (sym trimmed) (WellLost _ _ _ refl)) }

  put_held : (t : Net m) (a : Append) (token : Token) (pl : Place) (r : ℕ) (d : List ℕ) (i n : ℕ) → pl ≡ place_in p pl.pos → pl.pos < suc tail → Then t → Clear m h stopped k p longest t pl (Data d) (i + 1) → HeadHas t pl d (i + 1) → length pl.chain + 0 ≤ n + (i + 1)
      → Heard t msg.Held n (λ u x next. put_turn a token (work_feed (works pl (Puts r d i)) (Puts r d i) u x next))
  unfolding work_feed is_latest reply
  put_held t a token pl r d i n place at here clear head few = record { no_latest = refl; well = λ u next. put_on_well t a token pl d (i + 1) n next (nat_lt (i + 1) (length pl.chain)) refl place at here clear head few }

  pub record Replies (s : Net m) (u : ℕ) (tu : UnitTurn) (n : ℕ) (feeds : ℕ → Reply → ℕ → AppendTurn) : Type 0 where
    pub says : Msg
    pub is : tu.says ≡ Some says
    pub heard : Heard (with_unit m stopped s u tu.now) says n feeds

  unit_there : (s : Net m) (u : ℕ) → on_in m stopped s (unit_id u) ≡ true → u < length s.units
  unit_there s u e = grind arith

  -- the first unit has the page then
  head_now : (s : Net m) (pl : Place) (d : List ℕ) (i : ℕ) (t : UnitState) → on_in m stopped s (unit_id (unit_at pl i)) ≡ true → cell_at t.cells pl.pos ≡ Some (Data d) → Put m stopped s (with_unit m stopped s (unit_at pl i) t) pl.pos (Data d) → HeadHas s pl d i
      → cell_at (unit_of m (with_unit m stopped s (unit_at pl i) t) (unit_at pl 0)).cells pl.pos ≡ Some (Data d)
  head_now s pl d zero t on same put x = ap (λ y. cell_at y.cells pl.pos) (set_there s.units (unit_at pl 0) t new_unit (unit_there s (unit_at pl 0) on)) ∙ same
  head_now s pl d (suc i) t on same put x = put.stays (unit_at pl 0) (Data d) x

  head_next : (t : Net m) (pl : Place) (d : List ℕ) (i : ℕ) → cell_at (unit_of m t (unit_at pl 0)).cells pl.pos ≡ Some (Data d) → HeadHas t pl d (i + 1)
  head_next t pl d i e = subst (λ n. HeadHas t pl d n) (one i) e
    where
      one : (i : ℕ) → suc i ≡ i + 1
      one i = omega arith

  put_replies : (s : Net m) (a : Append) (pl : Place) (r : ℕ) (d : List ℕ) (i n : ℕ) (f : Fresh s a pl d i n) (tu : UnitTurn) → Outcome (unit_of m s (unit_at pl i)) pl.pos (Data d) tu
      → Replies s (unit_at pl i) tu n (λ u x next. put_turn a f.token (work_feed (works pl (Puts r d i)) (Puts r d i) u x next))
  put_replies s a pl r d i n f tu (IsGone' trimmed) = record { says = _; is = refl; heard = put_gone _ a f.token pl r d i n _ ((serves_at s pl f.place f.here).unit i f.less).low trimmed }
  put_replies s a pl r d i n f tu (IsHeld' t kept here low same) =
      let put = held_put m h stopped k p longest s (unit_at pl i) t pl.pos (Data d) kept here in
      let serves = serves_at s pl f.place f.here in
      let head = head_now s pl d i t (serves.unit i f.less).on same put f.head in
      let next = with_unit m stopped s (unit_at pl i) t in
      let few = f.few in
      let then = here_put m h stopped k p longest low_at many (suc tail) most kind s next pl (Data d) f.place f.at put
      (λ g. good_here m h stopped k p longest low_at many s next pl (Data d) put (below_put m h stopped k p longest low_at many s next pl (Data d) put (λ b. head)) g) refl f.here in
      record { says = _; is = refl; heard = put_held next a f.token pl r d i n f.place f.at then (puts_clear m h stopped k p longest s next pl (Data d) i (i + 1) put (omega arith) f.clear) (head_next next pl d i head) (omega (arith, few)) }
  put_replies s a pl r d i n f tu (IsTaken' x e differs low) = absurd (two (f.clear i x (omega arith) f.less e) differs)
    where
      two : {b : Bool} → b ≡ true → b ≡ false → ⊥
      two e f = grind arith

  -- The token.

  abbrev with_seqr : Net m → SeqrState → Net m
  with_seqr s x = record s { seqrs = slice_set s.seqrs p.seq x }

  seqr_now : (s : Net m) (x : SeqrState) → on_in m stopped s (seqr_id p.seq) ≡ true → seqr_of m h (with_seqr s x) p.seq ≡ x
  seqr_now s x on = set_there s.seqrs p.seq x (new_seqr p.seq h.limit (first_layout h)) (below_count m h stopped k p longest s p.seq on)

  -- the units are as before
  same_put : (s : Net m) (x : SeqrState) (pos : ℕ) (c : Cell) → Put m stopped s (with_seqr s x) pos c
  same_put s x pos c = record { epochs = λ v. refl; lows = λ v. refl; others = λ v q e. refl; stays = λ v y e. e; here = λ v y e. inr e; on = λ n. on_alike m stopped s (with_seqr s x) (seqr_alike m s p.seq x) n }

  same_good : (s : Net m) (x : SeqrState) → Good m h stopped k p longest low_at many s → Good m h stopped k p longest low_at many (with_seqr s x)
  same_good s x good =
      let pl = place_in p tail in
      let put = same_put s x tail (Data []) in
      good_put m h stopped k p longest low_at many s (with_seqr s x) pl (Data []) refl put (λ g. good_here m h stopped k p longest low_at many s (with_seqr s x) pl (Data []) put (λ b. b) g) good

  near_next : (limit next : ℕ) → nat_le limit next ≡ false → limit < 2 ^ 62 → next ≡ tail → too_far (suc tail) ≡ false
  near_next limit next e le same = grind (arith, e, le, same)

  near_now : (limit next : ℕ) → nat_le limit next ≡ false → limit < 2 ^ 62 → too_far next ≡ false
  near_now limit next e le = grind (arith, e, le)

  still_ready : (next start : ℕ) → nat_lt next start ≡ false → nat_lt (next + 1) start ≡ false
  still_ready next start e = grind arith

  abbrev seqr_in : Net m → SeqrState
  seqr_in s = seqr_of m h s p.seq

  abbrev issued_in : Net m → Entry → SeqrState
  issued_in s d = issued (seqr_in s) (streams_of d)

  then_here : (s : Net m) (d : Entry) → Before s d → nat_le (seqr_in s).limit (seqr_in s).next ≡ false → Then (with_seqr s (issued_in s d))
  then_here s d f room =
      let x = issued_in s d in
      let t = with_seqr s x in
      let same = seqr_now s x f.issue.on in
      let good = same_good s x f.good in
      let near = near_next (seqr_in s).limit (seqr_in s).next room f.limit f.next in
      let on : on_in m stopped t (seqr_id p.seq) ≡ true = on_alike m stopped s t (seqr_alike m s p.seq x) (seqr_id p.seq) ∙ f.issue.on in
      let named : (ts : List Oid) → names_all ts (links_of x.lists ts) ≡ true = f.named near in
      let next : x.next ≡ suc tail = after_it (seqr_in s).next f.next in
      record {
        good = good;
        on = on;
        epoch = ap (λ (y : SeqrState). y.epoch) same ∙ f.issue.epoch;
        unfenced = ap (λ (y : SeqrState). y.fence) same ∙ f.issue.unfenced;
        ready = ap (λ (y : SeqrState). scanning y) same ∙ still_ready (seqr_in s).next (seqr_in s).proj.start f.issue.ready;
        rests = ap (λ (y : SeqrState). y.scan) same ∙ f.issue.rests;
        next = ap (λ (y : SeqrState). y.next) same ∙ next;
        near = near;
        named = λ ts. ap (λ (y : SeqrState). names_all ts (links_of y.lists ts)) same ∙ named ts;
        lasts = λ o ts. subst (λ (y : SeqrState). Low p (suc tail) (backs_of (link_of o (links_of y.lists ts)))) (sym same) (f.lasts o ts);
        issue = λ e. subst (λ (y : SeqrState). Issues m h stopped k p longest t y e) (sym same) (record {
          on = on;
          epoch = f.issue.epoch;
          unfenced = f.issue.unfenced;
          ready = still_ready (seqr_in s).next (seqr_in s).proj.start f.issue.ready;
          rests = f.issue.rests;
          limit = f.issue.limit;
          named = named (streams_of e);
          serves = (good x.next).stable.serves;
          unwritten = λ j less. f.ahead x.next j (omega (arith, next)) less;
        });
        units = λ u g. puts_unit m h stopped k p longest s t tail (Data []) u (same_put s x tail (Data [])) (f.units u g);
      }
    where
      after_it : (a : ℕ) → a ≡ tail → a + 1 ≡ suc tail
      after_it a e = omega (arith, e)

  pub record Issued' (s : Net m) (a : Append) (from : NodeId) (rid r n : ℕ) (t : SeqrTurn) : Type 0 where
    pub says : Msg
    pub sends : t.sends ≡ out from rid says ∷ []
    pub rests : t.now.scan ≡ None
    pub no_latest : is_latest (reply says) ≡ false
    pub well : (u next : ℕ) → Well (with_seqr s t.now) n next (append_feed p a (Asking r) u (reply says) next)

  full_turn : (s : Net m) (a : Append) (from : NodeId) (rid r n : ℕ) → Before s a.draft → Issued' s a from rid r n (issue (seqr_in s) (streams_of a.draft) from rid true)
  unfolding append_feed reply is_latest is_at
  full_turn s a from rid r n f = record { says = _; sends = refl; rests = f.issue.rests; no_latest = refl; well = λ u next. WellLost _ _ _ refl }

  issued_near : (pos : ℕ) (ls : List StreamLink) → too_far pos ≡ false → reply (msg.Issued pos ls) ≡ IsIssued pos ls
  unfolding reply
  issued_near pos ls e = ap (λ x. cond x IsOther (IsIssued pos ls)) e

  issued_turn : (s : Net m) (a : Append) (from : NodeId) (rid r n : ℕ) → Before s a.draft → longest ≤ n → nat_le (seqr_in s).limit (seqr_in s).next ≡ false → Issued' s a from rid r n (issue (seqr_in s) (streams_of a.draft) from rid false)
  unfolding is_latest append_feed put_cell
  issued_turn s a from rid r n f few room =
      let x = seqr_in s in
      let ls = links_of x.lists (streams_of a.draft) in
      let near = near_now x.limit x.next room f.limit in
      let t = with_seqr s (issued_in s a.draft) in
      let then = then_here s a.draft f room in
      let pl = place_in p x.next in
      let serves = (then.good x.next).stable.serves in
      let some = serves.some in
      let short = serves.short in
      let token : Token = record { pos = x.next; page = page_of (linked a.draft ls) } in
      let same = f.next in
      record {
        says = _;
        sends = refl;
        rests = f.issue.rests;
        no_latest = ap is_latest (issued_near x.next _ near);
        well = λ u next.
            subst (λ y. Well t n next (append_feed p a (Asking r) u y next)) (sym (issued_near x.next ls near))
            (subst (λ b. Well t n next (on_issued p a x.next ls next b)) (sym f.issue.named)
            (WellGoes a token pl token.page 0 (length pl.chain - 1) (record {
              token = token;
              has = refl;
              place = refl;
              at = omega (arith, same);
              here = then;
              less = some;
              clear = λ j y le less e. absurd (two j y less e);
              head = tt;
              few = omega (arith, some);
            }) (omega (arith, some, short, few))));
      }
    where
      two : (j : ℕ) (y : Cell) → j < length (place_in p (seqr_in s).next).chain → cell_at (unit_of m s (unit_at (place_in p (seqr_in s).next) j)).cells (seqr_in s).next ≡ Some y → ⊥
      two j y less e = let g = sym (f.ahead (seqr_in s).next j (let same = f.next in omega (arith, same)) less) ∙ e in absurd cc

  issue_turn : (s : Net m) (a : Append) (from : NodeId) (rid r n : ℕ) (b : Bool) → nat_le (seqr_in s).limit (seqr_in s).next ≡ b → Before s a.draft → longest ≤ n → Issued' s a from rid r n (issue (seqr_in s) (streams_of a.draft) from rid b)
  issue_turn s a from rid r n true e f few = full_turn s a from rid r n f
  issue_turn s a from rid r n false e f few = issued_turn s a from rid r n f few e

  token_turn : (s : Net m) (a : Append) (from : NodeId) (rid r n : ℕ) → Before s a.draft → longest ≤ n → Issued' s a from rid r n (seqr_step (seqr_in s) from rid (msg.Token p.epoch (streams_of a.draft)))
  unfolding seqr_step
  token_turn s a from rid r n f few =
      let x = seqr_in s in
      subst (λ b. Issued' s a from rid r n (own_epoch b x from rid (on_token x (streams_of a.draft) from rid (scanning x)))) (sym (tested p.epoch x.epoch (sym f.issue.epoch)))
      (subst (λ g. Issued' s a from rid r n (unfenced g x from rid (on_token x (streams_of a.draft) from rid (scanning x)))) (sym f.issue.unfenced)
      (subst (λ b. Issued' s a from rid r n (on_token x (streams_of a.draft) from rid b)) (sym f.issue.ready) (issue_turn s a from rid r n (nat_le x.limit x.next) refl f few)))
    where
      tested : (a b : ℕ) → a ≡ b → eqb a b ≡ true
      tested a b e = grind arith

  -- The client.

  pub record Own (c : Client m) (a : Append) (o : Out) : Type 0 where
    pub shape : Shape m h stopped k p longest c a o
    pub judged : shape.purpose ≡ Judged
    pub such : makes m shape.work.command ≡ true
    pub hosted : length c.hosted ≤ most

  pub record Owning (s : Net m) (c : Client m) (o : Out) (n : ℕ) : Type 0 where
    pub append : Append
    pub own : Own c append o
    pub stage : OwnStage s append append.work n

  pub record Hearing (s : Net m) (c : Client m) (from : NodeId) (rid : ℕ) (y : Msg) (n : ℕ) : Type 0 where
    pub append : Append
    pub o : Out
    pub own : Own c append o
    pub awaited : awaits (o ∷ []) from rid ≡ true
    pub no_latest : is_latest (reply y) ≡ false
    pub well : (u next : ℕ) → Well s n next (append_feed p append append.work u (reply y) next)

  -- the record is lost, or it is appended and the client syncs
  pub data OwnEnds (s : Net m) (c : Client m) (t : ClientTurn m) (n : ℕ) : Type 0 where
    OwnOver : IsOver m h stopped k p t → OwnEnds s c t n
    OwnSyncs : (d : Client m) (w : Work m) (os : List Oid) → Then s → d.next ≡ c.next → d.stand ≡ p → makes m w.command ≡ true → length os ≤ most → t ≡ given m c (syncs m d w os) → OwnEnds s c t n

  pub own_called : (c : Client m) (a : Append) (o : Out) → Own c a o → Own (called m c) a o
  own_called c a o x = record { shape = shape_called m h stopped k p longest c a o x.shape; judged = x.judged; such = x.such; hosted = x.hosted }

  pub own_ticked : (c : Client m) (a : Append) (o : Out) → Own c a o → Own (called m (record c { next = c.next + c.layouts })) a o
  own_ticked c a o x = record { shape = shape_ticked m h stopped k p longest c a o x.shape; judged = x.judged; such = x.such; hosted = x.hosted }

  abbrev Comes : Net m → Client m → ClientTurn m → ℕ → Type 0
  Comes s c t n = OwnEnds s c t n ⊎ More m h stopped k p Owning Hearing s t n

  pub now_over : (c : Client m) (x : Moved m) → x.now.work ≡ None → x.besides ≡ [] → IsOver m h stopped k p (given m c x)
  now_over c x e f = record { none = e; sends = ap (λ os. os ++ drawn_from c.next (client_asks m x.now)) f ∙ ap (λ os. drawn_from c.next os) (over_asks m x.now e) }

  turned : (s : Net m) (c : Client m) (a : Append) (o : Out) (x : Own c a o) (t : AppendTurn) (n : ℕ) → Well s n c.next t → Comes s c (given m c (on_append m c x.shape.work Judged t)) n
  unfolding client_asks task_asks append_work_asks work_asks
  turned s c a o x t n (WellLost end gone e l) = let f = lost_over m (record c { next = end }) (record x.shape.work { gone = max x.shape.work.gone gone }) e l in inl (OwnOver (now_over c _ f.0 f.1))
  turned s c a o x t n (WellAt pos page here) = inl (OwnSyncs (owns m (record c { next = c.next }) pos page) (record x.shape.work { gone = max x.shape.work.gone 0; at = pos }) c.hosted here refl x.shape.stand x.such x.hosted refl)
  turned s c a o x t n (WellGoes b token pl d i left f few) =
      let q = out (unit_id (unit_at pl i)) c.next (msg.Write pl.epoch pl.pos d) in
      let now : Append = record { draft = b.draft; token = Some token; work = Putting (works pl (Puts c.next d i)) } in
      inr (record {
        o = q;
        left = left;
        sends = ap (λ y. drawn_from c.next (append_asks y now)) x.shape.stand ∙ new_drawn m h stopped k p longest (unit_id (unit_at pl i)) c.next (msg.Write pl.epoch pl.pos d);
        stage = record {
          append = now;
          own = record { shape = record { stand = x.shape.stand; work = _; waits = refl; purpose = Judged; hand = refl; asks = refl; below = omega arith; away = λ l. unit_away m h stopped k p longest (unit_at pl i) l }; judged = refl; such = x.such; hosted = x.hosted };
          stage = f;
        };
        less = few;
      })

  -- an awaited answer goes to the append
  pub own_fed : (c : Client m) (a : Append) (o : Out) (from : NodeId) (rid : ℕ) (r : Reply) (x : Shape m h stopped k p longest c a o) → x.purpose ≡ Judged → awaits (o ∷ []) from rid ≡ true → is_latest r ≡ false
      → feed m c c.work from rid r ≡ on_append m c x.work Judged (append_feed p a a.work from.num r c.next)
  unfolding task_feed
  own_fed c a o from rid r x judged awaited plain = ap (λ w. feed m c w from rid r) x.waits ∙ (to_hand m c x.work from rid r plain ∙ (ap (λ z. hand_feed m c x.work z from rid r) x.hand
      ∙ (ap (λ b. fed_if m b c x.work (Appending a x.purpose) from rid r) (ap (λ os. awaits os from rid) (awaited_is m h stopped k p longest c a o x) ∙ awaited)
      ∙ (ap (λ q. on_append m c x.work x.purpose (append_feed q a a.work from.num r c.next)) x.stand ∙ ap (λ z. on_append m c x.work z (append_feed p a a.work from.num r c.next)) judged))))

  answered : (s : Net m) (c : Client m) (from : NodeId) (rid : ℕ) (y : Msg) (n : ℕ) → Hearing s c from rid y n → Comes s c (client_deliver m c from rid y) n
  unfolding client_deliver
  answered s c from rid y n g =
      subst (λ (z : Moved m). Comes s c (given m c z) n) (sym (own_fed c g.append g.o from rid (reply y) g.own.shape g.own.judged g.awaited g.no_latest))
      (turned s c g.append g.o g.own (append_feed p g.append g.append.work from.num (reply y) c.next) n (g.well from.num c.next))

  -- The request comes to its node.

  abbrev Told' : Net m → Out → ℕ → Type 0
  Told' s o n = Asked m h stopped k p Owning Hearing s o n

  pub own_at : (c : Client m) (a : Append) (x o : Out) → x ≡ o → Own c a o → Own c a x
  own_at c a x o e f = record { shape = shape_at m h stopped k p longest c a x o e f.shape; judged = f.judged; such = f.such; hosted = f.hosted }

  asked_at : (s : Net m) (x o : Out) (n : ℕ) → x ∷ [] ≡ o ∷ [] → (x ≡ o → Told' s x n) → Told' s o n
  asked_at s x o n e f = let is = same_out m h stopped k p longest x o e in subst (λ (y : Out). Told' s y n) is (f is)

  seqr_asked : (s : Net m) (a : Append) (r n : ℕ) → a.work ≡ Asking r → Ready m h stopped k p s → Own (client_of m h s k) a (out (seqr_id p.seq) r (msg.Token p.epoch (streams_of a.draft))) → Before s a.draft → longest ≤ n
      → Told' s (out (seqr_id p.seq) r (msg.Token p.epoch (streams_of a.draft))) n
  seqr_asked s a r n is ready own f few =
      let x = seqr_in s in
      let t = token_turn s a (client_id k) r r n f few in
      let now = (seqr_step x (client_id k) r (msg.Token p.epoch (streams_of a.draft))).now in
      record {
        running = f.issue.on;
        from = seqr_id p.seq;
        rid = r;
        says = t.says;
        sent = ap (λ os. map (packet_of m (seqr_id p.seq)) os) t.sends;
        no_client = seqr_no_client m h stopped k p longest p.seq;
        ready = record {
          on = ready.on;
          rests = ap (λ (y : SeqrState). y.scan) (seqr_now s now f.issue.on) ∙ t.rests;
          old = λ j off. subst (λ (y : SeqrState). Old p.epoch y) (sym (set_other s.seqrs p.seq now j (new_seqr j h.limit (first_layout h)) off)) (ready.old j off);
          layouts = ready.layouts;
          idle = ready.idle;
        };
        client = refl;
        hears = record {
          append = a;
          o = out (seqr_id p.seq) r (msg.Token p.epoch (streams_of a.draft));
          own = own;
          awaited = awaited_itself m h stopped k p longest (out (seqr_id p.seq) r (msg.Token p.epoch (streams_of a.draft)));
          no_latest = t.no_latest;
          well = λ u next. subst (λ w. Well (with_seqr s now) n next (append_feed p a w u (reply t.says) next)) (sym is) (t.well u next);
        };
      }

  unit_asked : (s : Net m) (a : Append) (pl : Place) (r : ℕ) (d : List ℕ) (i n : ℕ) → a.work ≡ Putting (works pl (Puts r d i)) → Ready m h stopped k p s → Own (client_of m h s k) a (out (unit_id (unit_at pl i)) r (msg.Write pl.epoch pl.pos d)) → Fresh s a pl d i n
      → Told' s (out (unit_id (unit_at pl i)) r (msg.Write pl.epoch pl.pos d)) n
  unfolding unit_step unit_ask on_ask append_feed cell_feed
  unit_asked s a pl r d i n is ready own f =
      let u = unit_at pl i in
      let o = out (unit_id u) r (msg.Write pl.epoch pl.pos d) in
      let all = serves_at s pl f.place f.here in
      let serves = all.unit i f.less in
      let tu = unit_step (unit_of m s u) (msg.Write pl.epoch pl.pos d) in
      let rep : Replies s u tu n (λ v x next. put_turn a f.token (work_feed (works pl (Puts r d i)) (Puts r d i) v x next)) = put_replies s a pl r d i n f tu (stores (unit_of m s u) pl.epoch pl.pos (Data d) (serves.epoch ∙ sym all.epoch)) in
      record {
        running = serves.on;
        from = unit_id u;
        rid = r;
        says = rep.says;
        sent = ap (λ y. answer_to m (packet_of m (client_id k) o) y) rep.is;
        no_client = unit_no_client m h stopped k p longest u;
        ready = record { on = ready.on; rests = ready.rests; old = ready.old; layouts = ready.layouts; idle = ready.idle };
        client = refl;
        hears = record {
          append = a;
          o = o;
          own = own;
          awaited = awaited_itself m h stopped k p longest o;
          no_latest = rep.heard.no_latest;
          well = λ v next. subst (λ w. Well (with_unit m stopped s u tu.now) n next (append_feed p a w v (reply rep.says) next)) (sym is)
              (subst (λ y. Well (with_unit m stopped s u tu.now) n next (by_token a next y (λ t. put_turn a t (cell_feed (works pl (Puts r d i)) v (reply rep.says) next)))) (sym f.has) (rep.heard.well v next));
        };
      }

  put_asked : (s : Net m) (a : Append) (o : Out) (pl : Place) (w : CellWork) (n : ℕ) → a.work ≡ Putting (works pl w) → work_asks pl w ≡ o ∷ [] → Ready m h stopped k p s → Own (client_of m h s k) a o → PutsStage s a pl w n → Told' s o n
  unfolding work_asks
  put_asked s a o pl (Puts r d i) n is asks ready own f = asked_at s (out (unit_id (unit_at pl i)) r (msg.Write pl.epoch pl.pos d)) o n asks (λ e. unit_asked s a pl r d i n is ready (own_at _ a _ o e own) f)
  put_asked s a o pl (Gets r) n is asks ready own f = absurd f
  put_asked s a o pl (Fills r) n is asks ready own f = absurd f
  put_asked s a o pl (Copies r c i) n is asks ready own f = absurd f
  put_asked s a o pl (Probes ws) n is asks ready own f = absurd f

  own_asked : (s : Net m) (a : Append) (o : Out) (w : AppendWork) (n : ℕ) → a.work ≡ w → append_work_asks p a w ≡ o ∷ [] → Ready m h stopped k p s → Own (client_of m h s k) a o → OwnStage s a w n → Told' s o n
  unfolding append_work_asks
  own_asked s a o (Asking r) n is asks ready own stage = asked_at s (out (seqr_id p.seq) r (msg.Token p.epoch (streams_of a.draft))) o n asks (λ e. seqr_asked s a r n is ready (own_at _ a _ o e own) stage.0 stage.1)
  own_asked s a o (Putting j) n is asks ready own stage = put_asked s a o j.place j.work n is asks ready own stage
  own_asked s a o (Judging j) n is asks ready own stage = absurd stage

  owns_machine : Machine m h stopped k p Owning Hearing OwnEnds
  owns_machine = record {
    facts = λ s c o n x. record { work = x.own.shape.work; waits = x.own.shape.waits; again = again_is m h stopped k p longest c x.append o x.own.shape; calm = calm_shape m h stopped k p longest c x.append o x.own.shape };
    hears_calm = λ s c from rid y n x. record { work = x.own.shape.work; waits = x.own.shape.waits; calm = calm_shape m h stopped k p longest c x.append x.o x.own.shape };
    stage_stays = λ s t c o n keep x. record { append = x.append; own = x.own; stage = stage_keeps s t x.append x.append.work n keep x.stage };
    hears_stays = λ s t c from rid y n keep x. record { append = x.append; o = x.o; own = x.own; awaited = x.awaited; no_latest = x.no_latest; well = λ u next. well_keeps s t n next _ keep (x.well u next) };
    stage_called = λ s c o n x. record { append = x.append; own = own_called c x.append o x.own; stage = x.stage };
    hears_called = λ s c from rid y n x. record { append = x.append; o = x.o; own = own_called c x.append x.o x.own; awaited = x.awaited; no_latest = x.no_latest; well = x.well };
    stage_ticked = λ s c o n x. record { append = x.append; own = own_ticked c x.append o x.own; stage = x.stage };
    asked = λ s o n fair ready x. own_asked s x.append o x.append.work n refl x.own.shape.asks ready x.own x.stage;
    answered = λ s from rid y n ready x. answered s (client_of m h s k) from rid y n x;
  }

  abbrev pub OwnsStage : Net m → Client m → List Item → ℕ → Type 0
  OwnsStage = One m h stopped k p Owning Hearing

  pub owns_talk : Talk m h stopped k p OwnsStage OwnEnds
  owns_talk = one_talk m h stopped k p Owning Hearing OwnEnds owns_machine
