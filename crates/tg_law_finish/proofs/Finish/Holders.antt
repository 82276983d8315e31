-- A client that appends the record of a transaction with reads, and has a token for it: the page goes down the
-- chain, or the position of a token of an older layout is settled. The record is there then, and the client syncs
-- at the tail as it is; or another cell is, and it asks for another token.
use Rattle.std.proofs.Common.{◌≡◌, ◌⊎◌, ℕ, zero, suc, ◌+◌, ◌-◌, ◌^◌, ◌<◌, ◌≤◌, List, [], ◌∷◌, length, Bool, true, false, refl, ap, ◌∙◌, sym, subst, inl, inr, arith, Some, None, eqb}
use Rattle.std.specs.Prelude.{nat_lt, max, not}
use Rattle.tg_base.specs.Layouts.{Layout}
use Rattle.tg_base.specs.Clusters.{Header}
use Rattle.tg_base.specs.declared.cell.Cell.{Cell}
use Rattle.tg_base.specs.declared.cell.Cell.TheVariants.{Data}
use Rattle.tg_base.specs.declared.ids.NodeId.{NodeId}
use Rattle.tg_base.specs.declared.ids.Oid.{Oid}
use Rattle.tg_base.specs.declared.msg.Msg.{Msg}
use Rattle.tg_base.specs.declared.msg.Msg.TheVariants as msg
use Rattle.tg_base.specs.declared.packet.Out.{Out}
use Rattle.tg_entry.specs.declared.entry.Entry.{Entry}
use Rattle.tg_kind.specs.Meaning.{Meaning}
use Rattle.tg_protocol.specs.Words.{cell_at, cell_eq, unit_id, seqr_id, client_id}
use Rattle.tg_protocol.specs.Units.{UnitState, UnitTurn, says, unit_step, unit_ask, on_ask}
use Rattle.tg_protocol.specs.Entries.{streams_of, link_of, backs_of}
use Rattle.tg_protocol.specs.Sequencers.{SeqrState, links_of, with_positions}
use Rattle.tg_protocol.specs.Appending.{Append, AppendWork, Asking, Putting, Judging, AppendEnd, At, Forgotten, AppendTurn, Token, append_asks, append_work_asks, append_feed, names_all, by_token, put_turn, judge_turn, own_or_not}
use Rattle.tg_protocol.specs.Requests.{out, awaits, drawn_from, Goes as Goes', Ends}
use Rattle.tg_protocol.specs.Replies.{reply}
use Rattle.tg_protocol.specs.Cells.{CellWork, Puts, Gets, Fills, Copies, Probes, CellTurn, Done, Lost, Gone, Place, place_in, works, unit_at, work_asks, work_feed, cell_feed, put_on, end_if}
use Rattle.tg_protocol.specs.Clients.{Judged, Client, Work}
use Rattle.tg_protocol.specs.Answers.{Moved, syncs}
use Rattle.tg_protocol.specs.ClientSteps.{task_asks, client_asks, owns, on_append, given, client_deliver, ClientTurn}
use Rattle.tg_protocol.specs.Worlds.{packet_of, answer_to}
use Rattle.tg_law_finish.specs.Finish.Makes.{makes}
use Rattle.tg_law_finish.proofs.Finish.Appends.{is_latest, gone_near, held_put, unit_back}
use Rattle.tg_law_finish.proofs.Finish.Askers.{Kind, Here, here_keeps, here_put, stable_at}
use Rattle.tg_law_finish.proofs.Finish.Lines.{Item, IsOver, Talk}
use Rattle.tg_law_finish.proofs.Finish.Nets.{Net, unit_of, seqr_of, client_of, on_in}
use Rattle.tg_law_finish.proofs.Finish.Others.{Keeps, Ready}
use Rattle.tg_law_finish.proofs.Finish.Owners.{is_at, lost_over, Before, before_keeps, Own, own_called, own_ticked, own_at, own_fed, now_over, Owning}
use Rattle.tg_law_finish.proofs.Finish.Places.{puts_unit, puts_issue}
use Rattle.tg_law_finish.proofs.Finish.Readings.{two, one_cell, Stable, BelowHead, Held, GoodAt, Sort, Carries, Carrying, CellStage, CellWell, CellDone, CellGoes, CellGone, held_stays, good_here, good_put, below_put, untrimmed, stored_there, sort_keeps, carries_keeps, cell_keeps, cell_ask}
use Rattle.tg_law_finish.proofs.Finish.Stores.{Kept, Outcome, IsGone', IsHeld', IsTaken', Put, cell_itself, stores, unit_same, with_unit}
use Rattle.tg_law_finish.proofs.Finish.Talks.{One, More, Asked, Machine, one_talk}
use Rattle.tg_law_finish.proofs.Finish.Trails.{Low}
use Rattle.tg_law_finish.proofs.Finish.Writers.{again_is, calm_shape, new_drawn, unit_away, seqr_away, awaited_itself, unit_no_client, same_out}

module _ (m : Meaning) (h : Header) (stopped : List NodeId) (k : ℕ) (p : Layout) (longest : ℕ) (low_at : ℕ → ℕ) (many tail most : ℕ) (kind : Kind low_at p) where
  -- the tail as it is, and what a token needs
  abbrev pub HereNow : Net m → Type 0
  HereNow s = Here m h stopped k p longest low_at many tail most kind s

  abbrev pub CanGrow : Net m → Entry → Type 0
  CanGrow s d = Before m h stopped k p longest low_at many tail most kind s d

  abbrev Good' : Net m → Place → Type 0
  Good' s pl = GoodAt m h stopped k p longest low_at many s pl

  abbrev Stable' : Net m → Place → Type 0
  Stable' s pl = Stable m h stopped k p longest low_at many s pl

  abbrev Sorted : Net m → Place → Bool → Type 0
  Sorted s pl b = Sort m h stopped k p longest low_at many s pl b

  abbrev Carried : Net m → Place → Bool → Cell → Type 0
  Carried s pl b c = Carries m h stopped k p longest low_at many s pl b c

  -- A page: of the first unit, or further down, where the first one has it.

  abbrev pub PutStage : Net m → Place → Bool → CellWork → ℕ → Type 0
  PutStage s pl b (Puts r d zero) n = Sort m h stopped k p longest low_at many s pl b × (length pl.chain ≤ n + 1)
  PutStage s pl b (Puts r d (suc i)) n = Carrying m h stopped k p longest low_at many s pl b (Data d) (suc i) n
  PutStage s pl b (Gets r) n = ⊥
  PutStage s pl b (Fills r) n = ⊥
  PutStage s pl b (Copies r c i) n = ⊥
  PutStage s pl b (Probes ws) n = ⊥

  -- an answer that ends it, or makes it go on by one request
  pub data PutWell (t : Net m) (pl : Place) (b : Bool) (n next : ℕ) : CellTurn → Type 0 where
    PutDone : (d : List ℕ) → PutWell t pl b n next (record { next = next; besides = []; gone = 0; to = Ends (Done (Data d)) })
    PutLost : (c : Cell) → PutWell t pl b n next (record { next = next; besides = []; gone = 0; to = Ends (Lost c) })
    PutGone : (g : ℕ) → PutWell t pl b n next (record { next = next; besides = []; gone = 0; to = Ends (Gone g) })
    PutGoes : (d : List ℕ) (i left : ℕ) → PutStage t pl b (Puts next d i) left → left + 1 ≤ n → PutWell t pl b n next (record { next = next + 1; besides = []; gone = 0; to = Goes' (works pl (Puts next d i)) })

  pub record PutReplies (s : Net m) (u : ℕ) (tu : UnitTurn) (pl : Place) (b : Bool) (w : CellWork) (n : ℕ) : Type 0 where
    pub says : Msg
    pub is : tu.says ≡ Some says
    pub stored : Cell
    pub put : Put m stopped s (with_unit m stopped s u tu.now) pl.pos stored
    pub good : Good' s pl → Good' (with_unit m stopped s u tu.now) pl
    pub no_latest : is_latest (reply says) ≡ false
    pub well : (v next : ℕ) → PutWell (with_unit m stopped s u tu.now) pl b n next (work_feed (works pl w) w v (reply says) next)

  -- on to unit i
  put_on_well : (t : Net m) (pl : Place) (b : Bool) (d : List ℕ) (i j n next : ℕ) (c : Bool) → i ≡ suc j → nat_lt i (length pl.chain) ≡ c → Carried t pl b (Data d) → length pl.chain ≤ n + i → PutWell t pl b n next (put_on pl d i next c)
  put_on_well t pl b d i j n next true is e holds few =
      PutGoes d i (n - 1) (subst (λ x. PutStage t pl b (Puts next d x) (n - 1)) (sym is) (record { holds = holds; less = less (length pl.chain) i j e is; few = low (length pl.chain) n i j few (less (length pl.chain) i j e is) is })) (pos (length pl.chain) n i j few (less (length pl.chain) i j e is) is)
    where
      less : (len i j : ℕ) → nat_lt i len ≡ true → i ≡ suc j → suc j < len
      less len i j e is = grind (arith, e, is)

      low : (len n i j : ℕ) → len ≤ n + i → suc j < len → i ≡ suc j → len ≤ (n - 1) + suc (suc j)
      low len n i j a b is = omega (arith, a, b, is)

      pos : (len n i j : ℕ) → len ≤ n + i → suc j < len → i ≡ suc j → (n - 1) + 1 ≤ n
      pos len n i j a b is = omega (arith, a, b, is)
  put_on_well t pl b d i j n next false is e holds few = PutDone d

  same_good : (s : Net m) (pl : Place) (u : ℕ) → Good' s pl → Good' (with_unit m stopped s u (unit_of m s u)) pl
  same_good s pl u g =
      let put = unit_same m stopped s u pl.pos (Data []) in
      good_here m h stopped k p longest low_at many s (with_unit m stopped s u (unit_of m s u)) pl (Data []) put
      (λ below i y l e. put.stays (unit_at pl 0) y (below i y l (unit_back m h stopped k p longest s u pl.pos (unit_at pl i) y e))) g

  put_gone : (s : Net m) (pl : Place) (r : ℕ) (d : List ℕ) (i n : ℕ) (b : Bool) → Stable' s pl → i < length pl.chain → nat_lt pl.pos (unit_of m s (unit_at pl i)).low ≡ true
      → PutReplies s (unit_at pl i) (says (unit_of m s (unit_at pl i)) (msg.Gone (unit_of m s (unit_at pl i)).low)) pl b (Puts r d i) n
  unfolding is_latest work_feed
  put_gone s pl r d i n b x less trimmed =
      let u = unit_at pl i in
      let low = (unit_of m s u).low in
      let near = gone_near m h stopped k p longest low (x.serves.unit i less).low in
      let t = with_unit m stopped s u (unit_of m s u) in
      record {
        says = _;
        is = refl;
        stored = Data [];
        put = unit_same m stopped s u pl.pos (Data []);
        good = same_good s pl u;
        no_latest = ap is_latest near;
        well = λ v next. subst (λ z. PutWell t pl b n next (work_feed (works pl (Puts r d i)) (Puts r d i) v z next)) (sym near)
            (subst (λ c. PutWell t pl b n next (end_if c (works pl (Puts r d i)) next (Gone low))) (sym trimmed) (PutGone low));
      }

  put_held : (s : Net m) (pl : Place) (r : ℕ) (d : List ℕ) (i n : ℕ) (b : Bool) (t : UnitState) → length pl.chain ≤ n + suc i → Kept (unit_of m s (unit_at pl i)) t pl.pos (Data d) → ((x : Cell) → cell_at t.cells pl.pos ≡ Some x → cell_eq x (Data d) ≡ true)
      → (BelowHead m h stopped k p longest low_at many s pl → BelowHead m h stopped k p longest low_at many (with_unit m stopped s (unit_at pl i) t) pl) → Carried (with_unit m stopped s (unit_at pl i) t) pl b (Data d)
      → PutReplies s (unit_at pl i) (record { now = t; says = Some msg.Held }) pl b (Puts r d i) n
  unfolding work_feed reply is_latest
  put_held s pl r d i n b t few kept here below holds =
      let put = held_put m h stopped k p longest s (unit_at pl i) t pl.pos (Data d) kept here in
      record {
        says = _;
        is = refl;
        stored = Data d;
        put = put;
        good = good_here m h stopped k p longest low_at many s _ pl (Data d) put below;
        no_latest = refl;
        well = λ v next. put_on_well _ pl b d (i + 1) i n next (nat_lt (i + 1) (length pl.chain)) (omega arith) refl holds (omega (arith, few));
      }

  put_taken : (s : Net m) (pl : Place) (r : ℕ) (d : List ℕ) (n : ℕ) (b : Bool) (c : Cell) → cell_eq c (Data d) ≡ false → PutReplies s (unit_at pl 0) (says (unit_of m s (unit_at pl 0)) (msg.Taken c)) pl b (Puts r d 0) n
  unfolding work_feed reply is_latest
  put_taken s pl r d n b c differs =
      let u = unit_at pl 0 in
      let t = with_unit m stopped s u (unit_of m s u) in
      record {
        says = _;
        is = refl;
        stored = Data [];
        put = unit_same m stopped s u pl.pos (Data []);
        good = same_good s pl u;
        no_latest = refl;
        well = λ v next. subst (λ x. PutWell t pl b n next (end_if (not x) (works pl (Puts r d 0)) next (Lost c))) (sym differs) (PutLost c);
      }

  head_below : (s : Net m) (pl : Place) (d : List ℕ) (t : UnitState) → Stable' s pl → Kept (unit_of m s (unit_at pl 0)) t pl.pos (Data d) → ((x : Cell) → cell_at t.cells pl.pos ≡ Some x → cell_eq x (Data d) ≡ true) → cell_at t.cells pl.pos ≡ Some (Data d)
      → BelowHead m h stopped k p longest low_at many s pl → BelowHead m h stopped k p longest low_at many (with_unit m stopped s (unit_at pl 0) t) pl
  head_below s pl d t x kept here same = below_put m h stopped k p longest low_at many s _ pl (Data d) (held_put m h stopped k p longest s (unit_at pl 0) t pl.pos (Data d) kept here)
      (λ below. stored_there m h stopped k p longest low_at many s (unit_at pl 0) t pl.pos (Data d) (x.serves.unit 0 x.serves.some).on same)

  head_replies : (s : Net m) (pl : Place) (r : ℕ) (d : List ℕ) (n : ℕ) (b : Bool) → Stable' s pl → Sorted s pl b → length pl.chain ≤ n + 1 → (tu : UnitTurn) → Outcome (unit_of m s (unit_at pl 0)) pl.pos (Data d) tu → PutReplies s (unit_at pl 0) tu pl b (Puts r d 0) n
  head_replies s pl r d n b x c few tu (IsGone' trimmed) = put_gone s pl r d 0 n b x x.serves.some trimmed
  head_replies s pl r d n true x c few tu (IsHeld' t kept here low same) =
      let below = head_below s pl d t x kept here same in
      put_held s pl r d 0 n true t few kept here below (record { free = c.free; below = below c.below }, stored_there m h stopped k p longest low_at many s (unit_at pl 0) t pl.pos (Data d) (x.serves.unit 0 x.serves.some).on same)
  head_replies s pl r d n false x c few tu (IsHeld' t kept here low same) =
      let put = held_put m h stopped k p longest s (unit_at pl 0) t pl.pos (Data d) kept here in
      let is = one_cell c.cell (Data d) (sym (kept.stays c.cell (untrimmed m h stopped k p longest low_at many s pl 0 c.cell x c.held x.serves.some low)) ∙ same) in
      put_held s pl r d 0 n false t few kept here (head_below s pl d t x kept here same)
      (subst (λ (y : Cell). Held m h stopped k p longest low_at many (with_unit m stopped s (unit_at pl 0) t) pl y) is (held_stays m h stopped k p longest low_at many s _ pl (Data d) c.cell put c.held))
  head_replies s pl r d n b x c few tu (IsTaken' y e differs low) = put_taken s pl r d n b y differs

  down_replies : (s : Net m) (pl : Place) (r : ℕ) (d : List ℕ) (i n : ℕ) (b : Bool) → Stable' s pl → Carried s pl b (Data d) → i < length pl.chain → length pl.chain ≤ n + suc i → (tu : UnitTurn) → Outcome (unit_of m s (unit_at pl i)) pl.pos (Data d) tu
      → PutReplies s (unit_at pl i) tu pl b (Puts r d i) n
  down_replies s pl r d i n b x holds less few tu (IsGone' trimmed) = put_gone s pl r d i n b x less trimmed
  down_replies s pl r d i n true x holds less few tu (IsHeld' t kept here low same) =
      let put = held_put m h stopped k p longest s (unit_at pl i) t pl.pos (Data d) kept here in
      let has = put.stays (unit_at pl 0) (Data d) holds.1 in
      let below = below_put m h stopped k p longest low_at many s _ pl (Data d) put (λ f. has) in
      put_held s pl r d i n true t few kept here below (record { free = holds.0.free; below = below holds.0.below }, has)
  down_replies s pl r d i n true x holds less few tu (IsTaken' y e differs low) =
      let is = one_cell y (Data d) (sym (holds.0.below i y less e) ∙ holds.1) in
      absurd (two (subst (λ (z : Cell). cell_eq z (Data d) ≡ true) (sym is) (cell_itself (Data d))) differs)
  down_replies s pl r d i n false x held less few tu (IsHeld' t kept here low same) =
      let put = held_put m h stopped k p longest s (unit_at pl i) t pl.pos (Data d) kept here in
      let has = untrimmed m h stopped k p longest low_at many s pl i (Data d) x held less low in
      put_held s pl r d i n false t few kept here (below_put m h stopped k p longest low_at many s _ pl (Data d) put (λ below. put.stays (unit_at pl 0) (Data d) (below i (Data d) less has)))
      (held_stays m h stopped k p longest low_at many s _ pl (Data d) (Data d) put held)
  down_replies s pl r d i n false x held less few tu (IsTaken' y e differs low) =
      let is = one_cell y (Data d) (sym e ∙ untrimmed m h stopped k p longest low_at many s pl i (Data d) x held less low) in
      absurd (two (subst (λ (z : Cell). cell_eq z (Data d) ≡ true) (sym is) (cell_itself (Data d))) differs)

  put_keeps : (s t : Net m) (pl : Place) (b : Bool) (y : CellWork) (n : ℕ) → Keeps m h stopped k p s t → Stable' s pl → PutStage s pl b y n → PutStage t pl b y n
  put_keeps s t pl b (Puts r d zero) n keep st x = (sort_keeps m h stopped k p longest low_at many s t pl b keep st x.0, x.1)
  put_keeps s t pl b (Puts r d (suc i)) n keep st x = record { holds = carries_keeps m h stopped k p longest low_at many s t pl b (Data d) keep st x.holds; less = x.less; few = x.few }
  put_keeps s t pl b (Gets r) n keep st x = absurd x
  put_keeps s t pl b (Fills r) n keep st x = absurd x
  put_keeps s t pl b (Copies r c i) n keep st x = absurd x
  put_keeps s t pl b (Probes ws) n keep st x = absurd x

  -- The append: its position was issued, and the next one can be.
  pub record Standing (s : Net m) (a : Append) (pl : Place) : Type 0 where
    pub token : Token
    pub has : a.token ≡ Some token
    pub place : pl ≡ place_in p pl.pos
    pub less : pl.pos < tail
    pub here : HereNow s
    pub grows : CanGrow s a.draft

  pub record PutsOn (s : Net m) (a : Append) (pl : Place) (y : CellWork) (n : ℕ) : Type 0 where
    pub standing : Standing s a pl
    pub sort : Bool
    pub cell : PutStage s pl sort y n

  pub record Judges (s : Net m) (a : Append) (pl : Place) (y : CellWork) (n : ℕ) : Type 0 where
    pub standing : Standing s a pl
    pub sort : Bool
    pub cell : CellStage m h stopped k p longest low_at many s pl sort y n

  abbrev pub HoldStage : Net m → Append → AppendWork → ℕ → Type 0
  HoldStage s a (Asking r) n = ⊥
  HoldStage s a (Putting j) n = PutsOn s a j.place j.work n
  HoldStage s a (Judging j) n = Judges s a j.place j.work n

  stable : (s : Net m) (a : Append) (pl : Place) → Standing s a pl → Stable' s pl
  stable s a pl x = stable_at m h stopped k p longest low_at many tail most kind s pl x.place x.here

  standing_keeps : (s t : Net m) (a : Append) (pl : Place) → Keeps m h stopped k p s t → Standing s a pl → Standing t a pl
  standing_keeps s t a pl keep x = record {
    token = x.token;
    has = x.has;
    place = x.place;
    less = x.less;
    here = here_keeps m h stopped k p longest low_at many tail most kind s t keep x.here;
    grows = before_keeps m h stopped k p longest low_at many tail most kind s t a.draft keep x.grows;
  }

  stage_keeps : (s t : Net m) (a : Append) (y : AppendWork) (n : ℕ) → Keeps m h stopped k p s t → HoldStage s a y n → HoldStage t a y n
  stage_keeps s t a (Asking r) n keep x = absurd x
  stage_keeps s t a (Putting j) n keep x = record { standing = standing_keeps s t a j.place keep x.standing; sort = x.sort; cell = put_keeps s t j.place x.sort j.work n keep (stable s a j.place x.standing) x.cell }
  stage_keeps s t a (Judging j) n keep x = record { standing = standing_keeps s t a j.place keep x.standing; sort = x.sort; cell = cell_keeps m h stopped k p longest low_at many s t j.place x.sort j.work n keep (stable s a j.place x.standing) x.cell }

  -- A store at a position that was issued.

  off : (n pos : ℕ) → tail ≤ n → pos < tail → eqb n pos ≡ false
  off n pos le less = grind (arith, le, less)

  grows_put : (s t : Net m) (d : Entry) (pl : Place) (c : Cell) → pl ≡ place_in p pl.pos → pl.pos < tail → Put m stopped s t pl.pos c → (Good' s pl → Good' t pl) → seqr_of m h t p.seq ≡ seqr_of m h s p.seq → CanGrow s d → CanGrow t d
  grows_put s t d pl c is less put good same x = record {
    issue = puts_issue m h stopped k p longest s t pl.pos c d put same (off (seqr_of m h s p.seq).next pl.pos (let e = x.next in omega (arith, e)) less) x.issue;
    units = λ u g. puts_unit m h stopped k p longest s t pl.pos c u put (x.units u g);
    good = good_put m h stopped k p longest low_at many s t pl c is put good x.good;
    next = ap (λ (y : SeqrState). y.next) same ∙ x.next;
    limit = subst (λ (y : SeqrState). y.limit < 2 ^ 62) (sym same) x.limit;
    ahead = λ pos j from there. put.others _ pos (off pos pl.pos from less) ∙ x.ahead pos j from there;
    named = λ near ts. ap (λ (y : SeqrState). names_all ts (links_of (with_positions y.next (streams_of d) y.lists) ts)) same ∙ x.named near ts;
    lasts = λ o ts. subst (λ (y : SeqrState). Low p (suc tail) (backs_of (link_of o (links_of (with_positions y.next (streams_of d) y.lists) ts)))) (sym same) (x.lasts o ts);
  }

  -- What an answer makes of the append: it is lost, has its place, asks for another token, or goes on.
  pub data Well (t : Net m) (n next : ℕ) : AppendTurn → Type 0 where
    IsLost : (gone : ℕ) (e : AppendEnd) → is_at e ≡ false → Well t n next (record { next = next; besides = []; gone = gone; to = Ends e })
    IsAt : (pos : ℕ) (page : List ℕ) → HereNow t → Well t n next (record { next = next; besides = []; gone = 0; to = Ends (At pos page) })
    AsksAnew : (d : Entry) → CanGrow t d → Well t n next (record { next = next + 1; besides = []; gone = 0; to = Goes' (record { draft = d; token = None; work = Asking next }) })
    GoesOn : (a : Append) (u : ℕ) (z : Msg) (left : ℕ) → append_work_asks p a a.work ≡ out (unit_id u) next z ∷ [] → HoldStage t a a.work left → left + 1 ≤ n → Well t n next (record { next = next + 1; besides = []; gone = 0; to = Goes' a })

  well_keeps : (s t : Net m) (n next : ℕ) (x : AppendTurn) → Keeps m h stopped k p s t → Well s n next x → Well t n next x
  well_keeps s t n next x keep (IsLost gone e l) = IsLost gone e l
  well_keeps s t n next x keep (IsAt pos page here) = IsAt pos page (here_keeps m h stopped k p longest low_at many tail most kind s t keep here)
  well_keeps s t n next x keep (AsksAnew d grows) = AsksAnew d (before_keeps m h stopped k p longest low_at many tail most kind s t d keep grows)
  well_keeps s t n next x keep (GoesOn a u z left asks stage few) = GoesOn a u z left asks (stage_keeps s t a a.work left keep stage) few

  abbrev with_token : Append → Token → AppendWork → Append
  with_token a t y = record { draft = a.draft; token = Some t; work = y }

  -- the same for the append that goes on
  goes_standing : (s t : Net m) (a : Append) (pl : Place) (c : Cell) (y : AppendWork) (x : Standing s a pl) → Put m stopped s t pl.pos c → (Good' s pl → Good' t pl) → seqr_of m h t p.seq ≡ seqr_of m h s p.seq → Standing t (with_token a x.token y) pl
  goes_standing s t a pl c y x put good same = record {
    token = x.token;
    has = refl;
    place = x.place;
    less = x.less;
    here = here_put m h stopped k p longest low_at many tail most kind s t pl c x.place x.less put good same x.here;
    grows = grows_put s t a.draft pl c x.place x.less put good same x.grows;
  }

  put_well : (t : Net m) (a : Append) (token : Token) (pl : Place) (b : Bool) (n next : ℕ) → ((y : AppendWork) → Standing t (with_token a token y) pl) → (x : CellTurn) → PutWell t pl b n next x → Well t n next (put_turn a token x)
  unfolding append_work_asks work_asks is_at
  put_well t a token pl b n next standing x (PutDone d) = IsAt token.pos token.page (standing (Asking 0)).here
  put_well t a token pl b n next standing x (PutLost c) = AsksAnew a.draft (standing (Asking 0)).grows
  put_well t a token pl b n next standing x (PutGone g) = IsLost g (Forgotten token.pos g) refl
  put_well t a token pl b n next standing x (PutGoes d i left cell few) =
      GoesOn (with_token a token (Putting (works pl (Puts next d i)))) (unit_at pl i) (msg.Write pl.epoch pl.pos d) left refl (record { standing = standing (Putting (works pl (Puts next d i))); sort = b; cell = cell }) few

  judged_well : (t : Net m) (a : Append) (token : Token) (n next : ℕ) (b : Bool) → HereNow t → CanGrow t a.draft → Well t n next (own_or_not a token next b)
  judged_well t a token n next true here grows = IsAt token.pos token.page here
  judged_well t a token n next false here grows = AsksAnew a.draft grows

  judge_well : (t : Net m) (a : Append) (token : Token) (pl : Place) (b : Bool) (n next : ℕ) → ((y : AppendWork) → Standing t (with_token a token y) pl) → (x : CellTurn) → CellWell m h stopped k p longest low_at many t pl b n next x → Well t n next (judge_turn a token x)
  unfolding append_work_asks is_at
  judge_well t a token pl b n next standing x (CellDone c) = let y = standing (Asking 0) in judged_well t a token n next (cell_eq c (Data token.page)) y.here y.grows
  judge_well t a token pl b n next standing x (CellGone u g not_clean less is past) = IsLost g (Forgotten token.pos g) refl
  judge_well t a token pl b n next standing x (CellGoes w u z left asks cell few) =
      GoesOn (with_token a token (Judging (works pl w))) u z left asks (record { standing = standing (Judging (works pl w)); sort = b; cell = cell }) few

  -- The request comes to its unit.
  pub record Request' (s : Net m) (a : Append) (y : AppendWork) (n : ℕ) : Type 0 where
    pub unit : ℕ
    pub rid : ℕ
    pub asks : Msg
    pub is : append_work_asks p a y ≡ out (unit_id unit) rid asks ∷ []
    pub on : on_in m stopped s (unit_id unit) ≡ true
    pub answer : Msg
    pub answers : (unit_step (unit_of m s unit) asks).says ≡ Some answer
    pub no_latest : is_latest (reply answer) ≡ false
    pub well : (v next : ℕ) → Well (with_unit m stopped s unit (unit_step (unit_of m s unit) asks).now) n next (append_feed p a y v (reply answer) next)

  put_request : (s : Net m) (a : Append) (pl : Place) (r : ℕ) (d : List ℕ) (i n : ℕ) (b : Bool) → Standing s a pl → i < length pl.chain → ((tu : UnitTurn) → Outcome (unit_of m s (unit_at pl i)) pl.pos (Data d) tu → PutReplies s (unit_at pl i) tu pl b (Puts r d i) n)
      → Request' s a (Putting (works pl (Puts r d i))) n
  unfolding append_work_asks work_asks append_feed cell_feed unit_step unit_ask on_ask
  put_request s a pl r d i n b x less replies =
      let st = stable s a pl x in
      let at = st.serves.unit i less in
      let u = unit_at pl i in
      let f = replies (unit_step (unit_of m s u) (msg.Write pl.epoch pl.pos d)) (stores (unit_of m s u) pl.epoch pl.pos (Data d) (at.epoch ∙ sym st.serves.epoch)) in
      let t = with_unit m stopped s u (unit_step (unit_of m s u) (msg.Write pl.epoch pl.pos d)).now in
      record {
        unit = u;
        rid = r;
        asks = msg.Write pl.epoch pl.pos d;
        is = refl;
        on = at.on;
        answer = f.says;
        answers = f.is;
        no_latest = f.no_latest;
        well = λ v next. subst (λ o. Well t n next (by_token a next o (λ z. put_turn a z (cell_feed (works pl (Puts r d i)) v (reply f.says) next)))) (sym x.has)
            (put_well t a x.token pl b n next (λ y. goes_standing s t a pl f.stored y x f.put f.good refl) _ (f.well v next));
      }

  puts_request : (s : Net m) (a : Append) (pl : Place) (y : CellWork) (n : ℕ) → PutsOn s a pl y n → Request' s a (Putting (works pl y)) n
  puts_request s a pl (Puts r d zero) n f = let st = stable s a pl f.standing in put_request s a pl r d 0 n f.sort f.standing st.serves.some (head_replies s pl r d n f.sort st f.cell.0 f.cell.1)
  puts_request s a pl (Puts r d (suc i)) n f = put_request s a pl r d (suc i) n f.sort f.standing f.cell.less (down_replies s pl r d (suc i) n f.sort (stable s a pl f.standing) f.cell.holds f.cell.less f.cell.few)
  puts_request s a pl (Gets r) n f = absurd f.cell
  puts_request s a pl (Fills r) n f = absurd f.cell
  puts_request s a pl (Copies r c i) n f = absurd f.cell
  puts_request s a pl (Probes ws) n f = absurd f.cell

  judge_request : (s : Net m) (a : Append) (pl : Place) (y : CellWork) (n : ℕ) → Judges s a pl y n → Request' s a (Judging (works pl y)) n
  unfolding append_work_asks append_feed cell_feed
  judge_request s a pl y n x =
      let g = cell_ask m h stopped k p longest low_at many s pl x.sort y n (stable s a pl x.standing) x.cell in
      let f = g.replies in
      let t = with_unit m stopped s g.unit (unit_step (unit_of m s g.unit) g.says).now in
      record {
        unit = g.unit;
        rid = g.rid;
        asks = g.says;
        is = g.is;
        on = g.on;
        answer = f.says;
        answers = f.is;
        no_latest = f.no_latest;
        well = λ v next. subst (λ o. Well t n next (by_token a next o (λ z. judge_turn a z (cell_feed (works pl y) v (reply f.says) next)))) (sym x.standing.has)
            (judge_well t a x.standing.token pl x.sort n next (λ z. goes_standing s t a pl f.stored z x.standing f.put f.good refl) _ (f.well v next));
      }

  pub request : (s : Net m) (a : Append) (y : AppendWork) (n : ℕ) → HoldStage s a y n → Request' s a y n
  request s a (Asking r) n x = absurd x
  request s a (Putting j) n x = puts_request s a j.place j.work n x
  request s a (Judging j) n x = judge_request s a j.place j.work n x

  -- The client.

  abbrev Mine : Client m → Append → Out → Type 0
  Mine c a o = Own m h stopped k p longest low_at many tail most kind c a o

  pub record Holding (s : Net m) (c : Client m) (o : Out) (n : ℕ) : Type 0 where
    pub append : Append
    pub own : Own m h stopped k p longest low_at many tail most kind c append o
    pub stage : HoldStage s append append.work n

  pub record Hearing (s : Net m) (c : Client m) (from : NodeId) (rid : ℕ) (y : Msg) (n : ℕ) : Type 0 where
    pub append : Append
    pub o : Out
    pub own : Own m h stopped k p longest low_at many tail most kind c append o
    pub awaited : awaits (o ∷ []) from rid ≡ true
    pub no_latest : is_latest (reply y) ≡ false
    pub well : (u next : ℕ) → Well s n next (append_feed p append append.work u (reply y) next)

  -- the record is lost; it is there, and the client syncs; or another token is asked for
  pub data HoldEnds (s : Net m) (c : Client m) (t : ClientTurn m) (n : ℕ) : Type 0 where
    HoldOver : IsOver m h stopped k p t → HoldEnds s c t n
    HoldSyncs : (d : Client m) (w : Work m) (os : List Oid) → HereNow s → d.next ≡ c.next → d.stand ≡ p → makes m w.command ≡ true → length os ≤ most → t ≡ given m c (syncs m d w os) → HoldEnds s c t n
    HoldAsks : (o : Out) → t.sends ≡ o ∷ [] → Owning m h stopped k p longest low_at many tail most kind s t.now o longest → HoldEnds s c t n

  abbrev Comes : Net m → Client m → ClientTurn m → ℕ → Type 0
  Comes s c t n = HoldEnds s c t n ⊎ More m h stopped k p Holding Hearing s t n

  turned : (s : Net m) (c : Client m) (a : Append) (o : Out) (x : Mine c a o) (t : AppendTurn) (n : ℕ) → Well s n c.next t → Comes s c (given m c (on_append m c x.shape.work Judged t)) n
  unfolding client_asks task_asks append_work_asks
  turned s c a o x t n (IsLost gone e l) =
      let f = lost_over m (record c { next = c.next }) (record x.shape.work { gone = max x.shape.work.gone gone }) e l in
      inl (HoldOver (now_over m h stopped k p longest low_at many tail most kind c _ f.0 f.1))
  turned s c a o x t n (IsAt pos page here) = inl (HoldSyncs (owns m (record c { next = c.next }) pos page) (record x.shape.work { gone = max x.shape.work.gone 0; at = pos }) c.hosted here refl x.shape.stand x.such x.hosted refl)
  turned s c a o x t n (AsksAnew d grows) =
      let q = out (seqr_id p.seq) c.next (msg.Token p.epoch (streams_of d)) in
      let now : Append = record { draft = d; token = None; work = Asking c.next } in
      inl (HoldAsks q (ap (λ y. drawn_from c.next (append_asks y now)) x.shape.stand ∙ new_drawn m h stopped k p longest (seqr_id p.seq) c.next (msg.Token p.epoch (streams_of d))) (record {
        append = now;
        own = record { shape = record { stand = x.shape.stand; work = _; waits = refl; purpose = Judged; hand = refl; asks = refl; below = omega arith; away = λ l. seqr_away m h stopped k p longest p.seq l }; judged = refl; such = x.such; hosted = x.hosted };
        stage = (grows, omega arith);
      }))
  turned s c a o x t n (GoesOn now u z left asks stage few) =
      let q = out (unit_id u) c.next z in
      inr (record {
        o = q;
        left = left;
        sends = ap (λ y. drawn_from c.next (append_asks y now)) x.shape.stand ∙ (ap (λ os. drawn_from c.next os) asks ∙ new_drawn m h stopped k p longest (unit_id u) c.next z);
        stage = record {
          append = now;
          own = record { shape = record { stand = x.shape.stand; work = _; waits = refl; purpose = Judged; hand = refl; asks = asks; below = omega arith; away = λ l. unit_away m h stopped k p longest u l }; judged = refl; such = x.such; hosted = x.hosted };
          stage = stage;
        };
        less = few;
      })

  answered : (s : Net m) (c : Client m) (from : NodeId) (rid : ℕ) (y : Msg) (n : ℕ) → Hearing s c from rid y n → Comes s c (client_deliver m c from rid y) n
  unfolding client_deliver
  answered s c from rid y n g =
      subst (λ (z : Moved m). Comes s c (given m c z) n) (sym (own_fed m h stopped k p longest low_at many tail most kind c g.append g.o from rid (reply y) g.own.shape g.own.judged g.awaited g.no_latest))
      (turned s c g.append g.o g.own (append_feed p g.append g.append.work from.num (reply y) c.next) n (g.well from.num c.next))

  abbrev Told' : Net m → Out → ℕ → Type 0
  Told' s o n = Asked m h stopped k p Holding Hearing s o n

  asked_at : (s : Net m) (x o : Out) (n : ℕ) → x ∷ [] ≡ o ∷ [] → (x ≡ o → Told' s x n) → Told' s o n
  asked_at s x o n e f = let is = same_out m h stopped k p longest x o e in subst (λ (y : Out). Told' s y n) is (f is)

  asked : (s : Net m) (a : Append) (o : Out) (n : ℕ) → append_work_asks p a a.work ≡ o ∷ [] → Ready m h stopped k p s → Mine (client_of m h s k) a o → HoldStage s a a.work n → Told' s o n
  asked s a o n asks ready own stage =
      let f = request s a a.work n stage in
      let q = out (unit_id f.unit) f.rid f.asks in
      asked_at s q o n (sym f.is ∙ asks) (λ e. record {
        running = f.on;
        from = unit_id f.unit;
        rid = f.rid;
        says = f.answer;
        sent = ap (λ y. answer_to m (packet_of m (client_id k) q) y) f.answers;
        no_client = unit_no_client m h stopped k p longest f.unit;
        ready = record { on = ready.on; rests = ready.rests; old = ready.old; layouts = ready.layouts; idle = ready.idle };
        client = refl;
        hears = record {
          append = a;
          o = q;
          own = own_at m h stopped k p longest low_at many tail most kind _ a q o e own;
          awaited = awaited_itself m h stopped k p longest q;
          no_latest = f.no_latest;
          well = f.well;
        };
      })

  holds_machine : Machine m h stopped k p Holding Hearing HoldEnds
  holds_machine = record {
    facts = λ s c o n x. record { work = x.own.shape.work; waits = x.own.shape.waits; again = again_is m h stopped k p longest c x.append o x.own.shape; calm = calm_shape m h stopped k p longest c x.append o x.own.shape };
    hears_calm = λ s c from rid y n x. record { work = x.own.shape.work; waits = x.own.shape.waits; calm = calm_shape m h stopped k p longest c x.append x.o x.own.shape };
    stage_stays = λ s t c o n keep x. record { append = x.append; own = x.own; stage = stage_keeps s t x.append x.append.work n keep x.stage };
    hears_stays = λ s t c from rid y n keep x. record { append = x.append; o = x.o; own = x.own; awaited = x.awaited; no_latest = x.no_latest; well = λ u next. well_keeps s t n next _ keep (x.well u next) };
    stage_called = λ s c o n x. record { append = x.append; own = own_called m h stopped k p longest low_at many tail most kind c x.append o x.own; stage = x.stage };
    hears_called = λ s c from rid y n x. record { append = x.append; o = x.o; own = own_called m h stopped k p longest low_at many tail most kind c x.append x.o x.own; awaited = x.awaited; no_latest = x.no_latest; well = x.well };
    stage_ticked = λ s c o n x. record { append = x.append; own = own_ticked m h stopped k p longest low_at many tail most kind c x.append o x.own; stage = x.stage };
    asked = λ s o n fair ready x. asked s x.append o n x.own.shape.asks ready x.own x.stage;
    answered = λ s from rid y n ready x. answered s (client_of m h s k) from rid y n x;
  }

  abbrev pub HoldsStage : Net m → Client m → List Item → ℕ → Type 0
  HoldsStage = One m h stopped k p Holding Hearing

  pub holds_talk : Talk m h stopped k p HoldsStage HoldEnds
  holds_talk = one_talk m h stopped k p Holding Hearing HoldEnds holds_machine
