-- What stands below a floor of the log's directory, at whatever position, is in the log: whoever marked an object found its stream
-- settled up to the mark.
use Rattle.std.proofs.Common.{◌≡◌, ◌⊎◌, ℕ, ◌<◌, ◌≤◌, [], true, refl, sym, ap, ◌∙◌, subst, inl, inr, arith, append-nil}
use Rattle.tg_base.specs.Clusters.{Header}
use Rattle.tg_base.specs.Layouts.{Layout}
use Rattle.tg_base.specs.declared.ids.Oid.{Oid}
use Rattle.tg_dir.specs.Spellings.{is_number}
use Rattle.tg_any.specs.Anys.{is_op}
use Rattle.tg_any.specs.AllKinds.{all_kinds}
use Rattle.tg_model.specs.Stores.{state_at}
use Rattle.tg_protocol.specs.Words.{directory}
use Rattle.tg_protocol.specs.Chosen.{IsDecided}
use Rattle.tg_protocol.specs.Holding.{HasCell, FloorsStay}
use Rattle.tg_protocol.specs.Logs.{history_of}
use Rattle.tg_protocol.specs.Worlds.{World, client, history}
use Rattle.tg_protocol.specs.Runs.{Moves, Reaches, Passes, Always}
use Rattle.tg_law_layouts.specs.Moves.After.{after}
use Rattle.tg_law_layouts.proofs.Layouts.Deciding.{layouts_are_sound}
use Rattle.tg_law_layouts.proofs.Layouts.Layouts.{has_header}
use Rattle.tg_law_cells.specs.Tokens.Issuing.{Issued}
use Rattle.tg_law_cells.specs.Order.Tails.{ConfirmedTail}
use Rattle.tg_law_cells.proofs.Order.Tails.{starts_past}
use Rattle.tg_law_cells.proofs.Entries.Archive.{log_is_settled}
use Rattle.tg_law_replies.specs.History.Logs.{state_below}
use Rattle.tg_law_replies.specs.History.Worlds.{entries_in}
use Rattle.tg_law_replies.specs.History.Floors.{HasMark}
use Rattle.tg_law_replies.proofs.History.Cells.{logs_rise}
use Rattle.tg_law_replies.proofs.History.Floors.{floors_are_marked}
use Rattle.tg_law_replies.proofs.Views.Plays.{fresh_true}
use Rattle.tg_law_walks.specs.Lists.Spared.{WasSettled}
use Rattle.tg_law_headline.specs.Trims.Floors.{directory_at, floor_at, WasRegistered, WasIssued, IsWhole, RestsOn, FloorsRest}
use Rattle.tg_law_headline.proofs.AllKinds.Holds.{kinds_have_directory}
use Rattle.tg_law_headline.proofs.Store.States.{store_reads_ops}
use Rattle.tg_law_claims.proofs.Forgetting.Resting.{trims, floors_rest}

less_or : (a b : ℕ) → (a < b) ⊎ (b ≤ a)
less_or a b = grind arith

zero_or : (n : ℕ) → (n ≡ 0) ⊎ (0 < n)
zero_or n = grind arith

same : (a b : ℕ) → a ≤ b → b ≤ a → a ≡ b
same a b x y = grind arith

module _ (h : Header) (ms : Moves all_kinds) (r : Reaches all_kinds h ms (after all_kinds h ms)) where
  abbrev w : World all_kinds
  w = after all_kinds h ms

  abbrev floor : ℕ → ℕ
  floor n = floor_at all_kinds h.objects (after all_kinds h ms) n

  abbrev Marked : Oid → ℕ → ℕ → Type 0
  Marked o least n = HasMark all_kinds is_number h.objects (entries_in all_kinds (after all_kinds h ms)) o least n

  rest : FloorsRest all_kinds is_number h.objects (after all_kinds h ms)
  rest = floors_rest h ms r

  -- the run so far is one of its own worlds
  here : Passes all_kinds h ms (after all_kinds h ms)
  here = record { before = ms; after = []; split = sym (append-nil ms); is = refl }

  rests : (o : Oid) (f n : ℕ) → (k : Marked o f n) → RestsOn all_kinds (after all_kinds h ms) o k.mark k.at
  rests o f n k = rest.marks k.at k.entry k.write o k.mark k.object k.here k.commit k.writes k.to k.is

  -- where the floor rises past a registered object's place, the object is marked
  marked : (o : Oid) (a n : ℕ) → a ≤ n → all_kinds.registered (directory_at all_kinds h.objects (after all_kinds h ms) a) o ≡ true → floor a < floor n → Marked o (floor n) n
  marked o a n le listed more =
      floors_are_marked all_kinds is_number is_op kinds_have_directory h.objects (entries_in all_kinds (after all_kinds h ms)) a n o (logs_rise all_kinds (after all_kinds h ms))
      (store_reads_ops h ms (after all_kinds h ms) r (trims h ms r).were.safe) le listed more

  first : directory_at all_kinds h.objects (after all_kinds h ms) 0 ≡ all_kinds.fresh directory h.objects
  first = sym (fresh_true all_kinds h.objects (entries_in all_kinds (after all_kinds h ms)) directory (logs_rise all_kinds (after all_kinds h ms))).state

  -- where there is a floor the directory itself is marked past it
  directory_marked : (n : ℕ) → 0 < floor n → Marked directory (floor n) n
  directory_marked n more =
      let none : floor 0 ≡ 0 = ap (λ (s : all_kinds.state). all_kinds.floor s) first ∙ kinds_have_directory.first_floor h.objects in
      marked directory 0 n (omega arith) (ap (λ (s : all_kinds.state). all_kinds.registered s directory) first ∙ kinds_have_directory.first_listed h.objects) (omega (arith, none, more))

  -- no floor is above its position
  low : (n : ℕ) → floor n ≤ n
  low n = by (zero_or (floor n))
    where
      at_checkpoint : Marked directory (floor n) n → floor n ≤ n
      at_checkpoint k =
          let s = rests directory (floor n) n k in
          let a = k.reaches in let b = s.saved.saves.reaches in let c = s.earlier in let e = s.below in let f = k.before in
          omega (arith, a, b, c, e, f)

      by : (floor n ≡ 0) ⊎ (0 < floor n) → floor n ≤ n
      by (inl z) = omega (arith, z)
      by (inr more) = at_checkpoint (directory_marked n more)

  marked_there : (n : ℕ) (o : Oid) (q : ℕ) → q < floor n → WasRegistered all_kinds h.objects (after all_kinds h ms) o q → Marked o (floor n) n
  marked_there n o q less g =
      let a = low n in let b = low g.at in let c = g.low in
      marked o g.at n (omega (arith, a, c, less)) g.registered (omega (arith, b, c, less))

  -- a tail of an epoch lies at or below the start of each later layout
  starts : (epoch tail : ℕ) → ConfirmedTail all_kinds (after all_kinds h ms) (after all_kinds h ms) epoch tail → (last : ℕ) (q : Layout) → IsDecided all_kinds (after all_kinds h ms) last q → epoch < last → tail ≤ q.start
  starts epoch tail t last q dq later =
      let at = (layouts_are_sound all_kinds h ms (after all_kinds h ms) r last q dq).epoch in
      starts_past all_kinds h ms (after all_kinds h ms) (after all_kinds h ms) r here epoch tail t q (subst (λ (e : ℕ). IsDecided all_kinds (after all_kinds h ms) e q) (sym at) dq) (omega (arith, later, at))

  abbrev Settled : ℕ → Type 0
  Settled q = (epoch : ℕ) × WasSettled all_kinds (after all_kinds h ms) epoch q

  -- A position that was issued in the epoch of a whole tail, at or past that epoch's start: whoever marked its stream's object found
  -- the stream settled past it, in this epoch or in another.
  module _ (epoch tail : ℕ) (t : ConfirmedTail all_kinds (after all_kinds h ms) (after all_kinds h ms) epoch tail) (n q : ℕ) (less : q < floor n) (under : q < tail)
      (whole : IsWhole all_kinds (after all_kinds h ms) epoch tail) (i : WasIssued all_kinds (after all_kinds h ms) epoch q) (k : Marked i.stream (floor n) n) where
    s : RestsOn all_kinds (after all_kinds h ms) i.stream k.mark k.at
    s = rests i.stream (floor n) n k

    below : q < s.saved.saves.base.upto
    below = let a = k.reaches in let b = s.saved.saves.reaches in omega (arith, a, b, less)

    issued_settled : whole.layout.start ≤ q → Settled q
    issued_settled past = by (less_or s.whole.epoch epoch) (less_or epoch s.whole.epoch)
      where
        by : (s.whole.epoch < epoch) ⊎ (epoch ≤ s.whole.epoch) → (epoch < s.whole.epoch) ⊎ (s.whole.epoch ≤ epoch) → Settled q
        by (inl earlier) other =
            let a = starts s.whole.epoch s.saved.saves.base.upto s.whole.tail epoch whole.layout whole.decided earlier in
            let b = below in
            absurd (omega (arith, a, b, past))
        by (inr le) (inl later) =
            let v = rest.tails s.whole.epoch s.saved.saves.base.upto s.whole.tail in
            let a = starts epoch tail t s.whole.epoch v.layout v.decided later in
            (s.whole.epoch, v.old q (omega (arith, a, under)))
        by (inr le) (inr up) =
            let e = same epoch s.whole.epoch le up in
            (s.last, s.whole.settled i.seqr q i.streams i.links (subst (λ (x : ℕ). Issued all_kinds (after all_kinds h ms) i.seqr x q i.streams i.links) e i.issued) i.here below)

  settled_below : (n q : ℕ) → q < floor n → Settled q
  settled_below n q less = by (directory_marked n (omega (arith, less)))
    where
      by : Marked directory (floor n) n → Settled q
      by k = at_tail (rests directory (floor n) n k)
        where
          at_tail : RestsOn all_kinds (after all_kinds h ms) directory k.mark k.at → Settled q
          at_tail x = from (less_or q v.layout.start)
            where
              under : q < x.saved.saves.base.upto
              under = let a = k.reaches in let b = x.saved.saves.reaches in omega (arith, a, b, less)

              v : IsWhole all_kinds (after all_kinds h ms) x.whole.epoch x.saved.saves.base.upto
              v = rest.tails x.whole.epoch x.saved.saves.base.upto x.whole.tail

              issued : v.layout.start ≤ q → WasIssued all_kinds (after all_kinds h ms) x.whole.epoch q → Settled q
              issued past i =
                  issued_settled x.whole.epoch x.saved.saves.base.upto x.whole.tail n q less under v i
                  (marked_there n i.stream q less (rest.tokens i.seqr x.whole.epoch q i.streams i.links i.stream i.issued i.here)) past

              from : (q < v.layout.start) ⊎ (v.layout.start ≤ q) → Settled q
              from (inl old) = (x.whole.epoch, v.old q old)
              from (inr past) = issued past (v.new q past under)

  cell_below : (n q : ℕ) → q < floor n → HasCell all_kinds (after all_kinds h ms) q
  cell_below n q less =
      let s = (settled_below n q less).1 in (s.cell, (log_is_settled all_kinds h ms (after all_kinds h ms) r (trims h ms r).were.safe).has q s.cell s.settled)

  -- the floor of the history at a position is that of the log below it
  floor_is : (n : ℕ) → all_kinds.floor (state_at all_kinds w.cluster.objects (history all_kinds w) n directory) ≡ floor_at all_kinds h.objects w n
  unfolding history history_of
  floor_is n = ap (λ (c : Header). all_kinds.floor (state_below all_kinds c.objects (entries_in all_kinds w) n directory)) (has_header all_kinds h ms)

  stay : FloorsStay all_kinds (after all_kinds h ms)
  stay k p less = let n = (client all_kinds w k).played in let e = floor_is n in cell_below n p (omega (arith, less, e))

pub floors_stay : Always all_kinds (FloorsStay all_kinds)
floors_stay h ms w r = subst (FloorsStay all_kinds) (sym r.goes.is) (stay h ms (subst (Reaches all_kinds h ms) r.goes.is r))
