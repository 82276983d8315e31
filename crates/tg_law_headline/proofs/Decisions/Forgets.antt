-- A client that may forget an object up to a mark has found a checkpoint that reaches the mark, and the decision of each record of the
-- object below it.
use Rattle.std.proofs.Common.{◌≡◌, ◌⊎◌, ℕ, ◌<◌, ◌≤◌, List, [], ◌∷◌, ◌++◌, Bool, true, false, refl, sym, ap, ◌∙◌, subst, inl, inr, arith, Option, Some, None, is_some, append-nil}
use Rattle.std.specs.Prelude.{Contains, nat_lt, not, ◌&&◌, if◌then◌else◌}
use Rattle.tg_base.specs.Clusters.{Header}
use Rattle.tg_base.specs.declared.cell.Cell.{Cell}
use Rattle.tg_base.specs.declared.cell.Cell.TheVariants.{Junk, Data}
use Rattle.tg_base.specs.declared.ids.Oid.{Oid}
use Rattle.tg_entry.specs.declared.entry.Body.TheVariants.{Decision}
use Rattle.tg_entry.specs.declared.entry.Body.{Body}
use Rattle.tg_entry.specs.declared.entry.Entry.{Entry}
use Rattle.tg_entry.specs.Needs.{needs_decision}
use Rattle.tg_kind.specs.Meaning.{Meaning}
use Rattle.tg_model.specs.Kinds.{EventOf}
use Rattle.tg_model.specs.declared.command.Event.TheVariants.{Command as Commands, Deliver, Lose, Tick, Stop}
use Rattle.tg_protocol.specs.Alike.{HasEntry}
use Rattle.tg_protocol.specs.Checkpoints.{trim_of, open_decision, open_fault, forget_fault, NoCheckpoint, OpenDecision, may_forget, load_from}
use Rattle.tg_protocol.specs.Clients.{Work, Client, positions_in, member_positions, below}
use Rattle.tg_protocol.specs.Entries.{is_commit, lists, decides}
use Rattle.tg_protocol.specs.Holding.{EntriesOwn}
use Rattle.tg_protocol.specs.Logs.{entries_of}
use Rattle.tg_protocol.specs.Pages.{entry_of, cell_entry}
use Rattle.tg_protocol.specs.Replies.{reply}
use Rattle.tg_protocol.specs.Runs.{Moves, Reaches, Later}
use Rattle.tg_protocol.specs.Views.{Entries, Base, decision_in}
use Rattle.tg_protocol.specs.Words.{cell_at, with_nums, where_true}
use Rattle.tg_protocol.specs.Worlds.{World, client, log}
use Rattle.tg_law_layouts.specs.Moves.After.{after}
use Rattle.tg_law_replies.specs.History.Worlds.{entries_in}
use Rattle.tg_law_replies.proofs.History.Members.{Has, has_contained, contained_has, of_lt, number_same}
use Rattle.tg_law_replies.specs.Views.Exact.{low_of, or_first}
use Rattle.tg_law_replies.proofs.Views.Judges.{mine_below}
use Rattle.tg_law_replies.proofs.Views.Records.{decision_there}
use Rattle.tg_law_replies.specs.Replies.Found.{mine}
use Rattle.tg_law_replies.specs.Replies.Steps.{EachEvent}
use Rattle.tg_law_replies.proofs.Replies.Carried.{both_more}
use Rattle.tg_law_walks.specs.Walks.Laws.{IsFound}
use Rattle.tg_law_walks.specs.Walks.Rounds.{round, IsRound, HasAll}
use Rattle.tg_law_walks.specs.Walks.Streams.{IsByPosition}
use Rattle.tg_law_walks.proofs.Walks.Cells.{entry_there, there_entry}
use Rattle.tg_law_walks.proofs.Walks.Positions.{nums_right, in_positions, has_filter}
use Rattle.tg_law_walks.proofs.Walks.Rounds.{read_entry, entry_read}
use Rattle.tg_law_walks.proofs.Walks.Saves.{Gives, entries_have, have_entries, load_gives}
use Rattle.tg_law_walks.proofs.Walks.Stretches.{entry_stand}
use Rattle.tg_law_walks.proofs.Walks.Syncs.{logs_by_position}
use Rattle.tg_law_walks.specs.Lists.Spared.{TrimsWereSpare}
use Rattle.tg_law_walks.proofs.Lists.Telling.{entries_are_good}
use Rattle.tg_law_syncs.specs.Finds.Left.{SavesPrecede}
use Rattle.tg_law_syncs.proofs.Exact.Exact.{step_ends}
use Rattle.tg_law_syncs.proofs.Exact.Finds.{of_client, delivery_exact}
use Rattle.tg_law_syncs.proofs.Exact.Held.{goes_on, clients_work}
use Rattle.tg_law_syncs.proofs.Follow.Saves.{saves_precede}
use Rattle.tg_law_syncs.specs.Timely.Timely.{KnowsInTime, SettledBy}
use Rattle.tg_law_syncs.proofs.Timely.Walked.{walks_know_in_time}
use Rattle.tg_law_headline.specs.Decisions.Decisions.{DecisionsFollow, IsDecidedBy}
use Rattle.tg_law_headline.specs.Decisions.Forgetting.{IsDecidedUpTo, ForgetsDecided, ForgetsDecide, WalksWhole}
use Rattle.tg_law_headline.proofs.Decisions.Following.{decisions_follow}
use Rattle.tg_law_headline.proofs.Decisions.Saved.{saves_listed}
use Rattle.tg_law_headline.proofs.Decisions.Wholes.{forgets_walk_whole}

-- The test.

some_no : {X Y : Type 0} (x : X) → Some x ≡ None → Y
some_no x e = absurd cc

no_some : {X Y : Type 0} (x : X) → None ≡ Some x → Y
no_some x e = absurd cc

some_is : {X : Type 0} (o : Option X) → is_some o ≡ true → (x : X) × (o ≡ Some x)
some_is None e = absurd cc
some_is (Some x) e = (x, refl)

-- where no record is open, each is decided
none_open : (es own : Entries) (o : Oid) (mark p : ℕ) (e : Entry) → open_decision es own o mark ≡ None → Has own (p, e) → p < mark → lists e o ≡ true → needs_decision e ≡ true → is_some (decision_in es p) ≡ true
unfolding open_decision
none_open es [] o mark p e none i less l needs = absurd i
none_open es (x ∷ own) o mark p e none i less l needs = by (nat_lt x.0 mark && lists x.1 o && needs_decision x.1 && not (is_some (decision_in es x.0))) refl none i (λ z j. none_open es own o mark p e z j less l needs)
  where
    decided : (a b c d : Bool) → a ≡ true → b ≡ true → c ≡ true → (a && b && c && not d) ≡ false → d ≡ true
    decided a b c d e f g k = grind arith

    by : (b : Bool) → (nat_lt x.0 mark && lists x.1 o && needs_decision x.1 && not (is_some (decision_in es x.0))) ≡ b → (if b then Some x.0 else open_decision es own o mark) ≡ None → Has (x ∷ own) (p, e)
        → (open_decision es own o mark ≡ None → Has own (p, e) → is_some (decision_in es p) ≡ true) → is_some (decision_in es p) ≡ true
    by true is z i rest = some_no x.0 z
    by false is z (inr i) rest = rest z i
    by false is z (inl same) rest =
        let at : p ≡ x.0 = ap (λ (y : ℕ × Entry). y.0) same in
        let of : e ≡ x.1 = ap (λ (y : ℕ × Entry). y.1) same in
        subst (λ (q : ℕ). is_some (decision_in es q) ≡ true) (sym at)
        (decided (nat_lt x.0 mark) (lists x.1 o) (needs_decision x.1) (is_some (decision_in es x.0)) (of_lt x.0 mark (omega (arith, at, less))) (ap (λ (y : Entry). lists y o) (sym of) ∙ l) (ap (λ (y : Entry). needs_decision y) (sym of) ∙ needs) is)

module _ (m : Meaning) where
  -- it has found a checkpoint, and no record is open
  pub record Passes (own : Entries) (o : Oid) (mark : ℕ) : Type 0 where
    pub base : Base m
    pub loads : load_from m own o mark ≡ Some base
    pub none : open_decision own own o mark ≡ None

  passes : (own : Entries) (o : Oid) (mark : ℕ) → may_forget m own o mark ≡ None → Passes own o mark
  unfolding may_forget
  passes own o mark fine = by (load_from m own o mark) refl fine
    where
      on : (f : Option ℕ) → open_fault m f ≡ None → f ≡ None
      on None z = refl
      on (Some q) z = some_no (OpenDecision q) z

      by : (x : Option (Base m)) → load_from m own o mark ≡ x → forget_fault m own o mark x ≡ None → Passes own o mark
      by None is z = some_no NoCheckpoint z
      by (Some b) is z = record { base = b; loads = is; none = on (open_decision own own o mark) z }

-- A client that has walked its streams.
module _ (m : Meaning) (w : World m) (c : Client m) (v : Work m) (r : IsRound m (log m w) (round m c v c.cells) []) (known : KnowsInTime m w c v) where
  abbrev own : Entries
  own = mine m c v

  byp : IsByPosition (log m w)
  byp = logs_by_position m w

  -- what it has found is of the log, below the tail, and was settled in time
  pub record Found (p : ℕ) (e : Entry) : Type 0 where
    pub here : HasEntry m w p e
    pub below : p < v.tail
    pub page : List ℕ
    pub reads : entry_of page ≡ Some e
    pub settled : SettledBy m w c.stand.epoch p (Data page)

  found : (p : ℕ) (e : Entry) → Has (mine m c v) (p, e) → Found p e
  found p e i = by (cell_at c.cells p) refl k.1
    where
      k : Has (below m v.tail (with_nums c.own (member_positions m v c.hosted))) p × (cell_entry (cell_at c.cells p) ≡ Some e)
      k = entries_have m c.cells (below m v.tail (with_nums c.own (member_positions m v c.hosted))) p e i

      by : (x : Option Cell) → cell_at c.cells p ≡ x → cell_entry x ≡ Some e → Found p e
      by None at read = no_some e read
      by (Some Junk) at read = no_some e read
      by (Some (Data page)) at read = record {
        here = contained_has (entries_of (log m w)) (p, e) (there_entry (log m w) p e (read_entry m (log m w) byp c.cells p e r.known k.1));
        below = mine_below m c v c.hosted p e i;
        page = page;
        reads = read;
        settled = known p (Data page) at;
      }

  -- it has found all of a hosted stream below the tail from where its walk met a trim, or from the log's beginning
  all_from : (o : Oid) → Contains c.hosted o → v.lo ≡ 0 → (t : Option ℕ) → trim_of v.trims o ≡ t → HasAll m (log m w) (round m c v c.cells) o (or_first t)
  all_from o hosted whole None is = by (r.walked o (r.hosts o hosted))
    where
      none : {X : Type 0} → Contains [] o → X
      none i = absurd (has_contained [] o i)

      by : Contains [] o ⊎ (trim_of v.trims o ≡ None → HasAll m (log m w) (round m c v c.cells) o v.lo) → HasAll m (log m w) (round m c v c.cells) o 0
      by (inl i) = none i
      by (inr f) = subst (λ (n : ℕ). HasAll m (log m w) (round m c v c.cells) o n) whole (f is)
  all_from o hosted whole (Some b) is = (r.trimmed o b is).all

  has_mine : (o : Oid) → Contains c.hosted o → v.lo ≡ 0 → (p : ℕ) (e : Entry) → HasEntry m w p e → lists e o ≡ true → low_of v.trims o ≤ p → p < v.tail → Has (mine m c v) (p, e)
  has_mine o hosted whole p e here l low less =
      let i = has_contained (entries_of (log m w)) (p, e) here in
      let a = all_from o hosted whole (trim_of v.trims o) refl p low less (entry_stand (log m w) o p e byp i l) in
      have_entries m c.cells (below m v.tail (with_nums c.own (member_positions m v c.hosted))) p e
      (has_filter (λ q. nat_lt q v.tail) (with_nums c.own (member_positions m v c.hosted)) p
      (nums_right c.own (member_positions m v c.hosted) p (in_positions m v.found c.hosted o p (has_contained c.hosted o hosted) (has_contained (positions_in m v.found o) p a.0)))
      (of_lt p v.tail less))
      (entry_read m (log m w) byp c.cells p e r.known a.1 (entry_there 0 (log m w) p e byp i))

  module _ (precede : SavesPrecede m (entries_in m w)) (follow : DecisionsFollow m w) (o : Oid) (mark : ℕ) (hosted : Contains c.hosted o) (whole : v.lo ≡ 0) (k : Passes m (mine m c v) o mark) where
    saver : Gives m (mine m c v) o k.base × (mark ≤ k.base.upto) × (k.base.oid ≡ o)
    saver = load_gives m (mine m c v) o mark k.base k.loads

    abbrev at : ℕ
    at = saver.0.at

    here : Found saver.0.at saver.0.entry
    here = found saver.0.at saver.0.entry saver.0.here

    past : mark ≤ saver.0.at
    past = let a = saver.1 in let b = precede saver.0.at saver.0.entry o k.base here.here saver.0.is in omega (arith, a, b)

    says : (p : ℕ) (b : Bool) (d : Body) → d ≡ Decision p b → decides p d ≡ Some b
    says p b d is = ap (λ (x : Body). decides p x) is ∙ ap (λ (t : Bool). where_true t b) (number_same p p refl)

    decided : (p : ℕ) (e : Entry) → HasEntry m w p e → is_commit e ≡ true → needs_decision e ≡ true → lists e o ≡ true → low_of v.trims o ≤ p → p < mark → IsDecidedBy m w c.stand.epoch p e
    decided p e i commit needs l low less =
        let tail : p < v.tail = (let a = here.below in let b = past in omega (arith, a, b, less)) in
        let some = some_is (decision_in (mine m c v) p) (none_open (mine m c v) (mine m c v) o mark p e k.none (has_mine o hosted whole p e i l low tail) less l needs) in
        let d = decision_there (mine m c v) p some.0 some.1 in
        let f = found d.at d.entry d.here in
        let follows = follow d.at p d.entry e some.0 f.here d.is i in
        record {
          at = d.at;
          decision = d.entry;
          here = f.here;
          above = follows.0;
          settled = record { cell = Data f.page; settled = f.settled.settled; in_time = f.settled.in_time };
          is_yes = some.0;
          says = says p some.0 d.entry.body d.is;
          streams = follows.1;
        }

    pub decided_up_to : IsDecidedUpTo m w c.stand.epoch o mark v
    decided_up_to = record {
      saved = record {
        at = saver.0.at;
        after = past;
        page = here.page;
        settled = here.settled.settled;
        in_time = here.settled.in_time;
        entry = saver.0.entry;
        reads = here.reads;
        stands = saves_listed m here.page saver.0.entry o k.base here.reads saver.0.is;
        saves = record { base = k.base; is = saver.0.is; reaches = saver.1 };
      };
      here = here.here;
      below = here.below;
      decided = decided;
    }

  -- where its walks of a command that forgets begin at the log's beginning
  pub forgets_decided : SavesPrecede m (entries_in m w) → DecisionsFollow m w → WalksWhole m c v → ForgetsDecided m w c v
  forgets_decided precede follow whole o mark is hosted fine = decided_up_to precede follow o mark hosted (whole o mark is) (passes m (mine m c v) o mark fine)

-- Over a run.
module _ (m : Meaning) (h : Header) (zs : Moves m) (reach : Reaches m h zs (after m h zs)) (trims : TrimsWereSpare m h zs) where
  abbrev w : World m
  w = after m h zs

  abbrev itself : Later m (after m h zs) (after m h zs)
  itself = ([], goes_on m h zs reach zs [] (sym (append-nil zs)))

  spare : TrimsWereSpare m h (zs ++ [])
  spare = subst (λ (ms : Moves m). TrimsWereSpare m h ms) (sym (append-nil zs)) trims

  exact : (e : EventOf m) → EachEvent m h.objects (entries_in m (after m h zs)) (IsFound m (log m (after m h zs))) (after m h zs) e
  exact (Deliver i) = λ x at is on.
      delivery_exact m (log m (after m h zs)) (logs_by_position m (after m h zs)) (entries_are_good m h zs (after m h zs) reach trims) h.objects (client m (after m h zs) x.to.num) (client m (after m h zs) x.to.num).work x.from x.rid (reply x.msg) refl
      ((clients_work m h zs (after m h zs) (after m h zs) reach itself spare).work x.to.num)
      (step_ends m h zs (after m h zs) (after m h zs) reach itself spare (Deliver i) x.to.num x at (of_client x.to is))
  exact (Commands k x) = tt
  exact (Lose i) = tt
  exact (Tick n) = tt
  exact (Stop n) = tt

  forgets : EntriesOwn m h zs (after m h zs) → (e : EventOf m) → EachEvent m h.objects (entries_in m (after m h zs)) (ForgetsDecided m (after m h zs)) (after m h zs) e
  forgets all e =
      both_more m h.objects (entries_in m (after m h zs)) (λ c v. IsFound m (log m (after m h zs)) c v × KnowsInTime m (after m h zs) c v) (ForgetsDecided m (after m h zs)) (WalksWhole m)
      (λ c v k whole. forgets_decided m (after m h zs) c v k.0 k.1 (saves_precede m h zs (after m h zs) reach trims all) (decisions_follow m h zs (after m h zs) reach trims) whole) (after m h zs) e
      (both_more m h.objects (entries_in m (after m h zs)) (IsFound m (log m (after m h zs))) (λ c v. IsFound m (log m (after m h zs)) c v × KnowsInTime m (after m h zs) c v) (KnowsInTime m (after m h zs)) (λ c v a b. (a, b)) (after m h zs) e
      (exact e) (walks_know_in_time m h zs (after m h zs) e reach trims))
      (forgets_walk_whole m h zs (after m h zs) e reach)

module _ (m : Meaning) where
  pub forgets_decide : ForgetsDecide m
  forgets_decide h ms w e r trims own =
      subst (λ (u : World m). Reaches m h ms u → EntriesOwn m h ms u → EachEvent m h.objects (entries_in m u) (ForgetsDecided m u) u e) (sym r.goes.is)
      (λ a b. forgets m h ms a trims b e) r own
