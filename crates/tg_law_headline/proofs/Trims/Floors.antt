-- The floor of a log's directory below a confirmed tail is spare.
use Rattle.std.proofs.Common.{◌≡◌, ◌⊎◌, ℕ, ◌<◌, ◌≤◌, [], ◌∷◌, Bool, true, refl, sym, ap, ◌∙◌, subst, inl, inr, arith, Option, append-nil}
use Rattle.tg_base.specs.Clusters.{Header}
use Rattle.tg_base.specs.Layouts.{Layout}
use Rattle.tg_base.specs.declared.cell.Cell.TheVariants.{Data}
use Rattle.tg_base.specs.declared.ids.Oid.{Oid}
use Rattle.tg_kind.specs.Meaning.{Meaning}
use Rattle.tg_protocol.specs.Words.{directory}
use Rattle.tg_protocol.specs.Entries.{streams_of}
use Rattle.tg_protocol.specs.Views.{state_of}
use Rattle.tg_protocol.specs.Clients.{Work, Client}
use Rattle.tg_protocol.specs.Answers.{floor_of}
use Rattle.tg_protocol.specs.Chosen.{IsDecided}
use Rattle.tg_protocol.specs.Worlds.{World, log}
use Rattle.tg_protocol.specs.Runs.{Moves, Takes, Reaches, Passes}
use Rattle.tg_law_layouts.specs.Moves.After.{after}
use Rattle.tg_law_layouts.proofs.Moves.Lists.{contained}
use Rattle.tg_law_layouts.proofs.Layouts.Deciding.{layouts_are_sound}
use Rattle.tg_law_cells.specs.Tokens.Issuing.{Issued}
use Rattle.tg_law_cells.specs.Order.Tails.{ConfirmedTail}
use Rattle.tg_law_cells.proofs.Order.Tails.{starts_past}
use Rattle.tg_law_cells.specs.Entries.Archive.{TrimsWereSafe}
use Rattle.tg_law_replies.specs.History.Worlds.{entries_in}
use Rattle.tg_law_replies.specs.History.Loading.{AreOpsOf}
use Rattle.tg_law_replies.specs.History.Floors.{IsDirectory, HasMark}
use Rattle.tg_law_replies.proofs.History.Cells.{logs_rise}
use Rattle.tg_law_replies.proofs.History.Floors.{floors_are_marked}
use Rattle.tg_law_replies.proofs.History.Ledger.{Ledger, none_below}
use Rattle.tg_law_replies.proofs.History.States.{state_after, state_at_is}
use Rattle.tg_law_replies.specs.Replies.Runs.{InEachStep}
use Rattle.tg_law_replies.specs.Replies.Steps.{EachEvent}
use Rattle.tg_law_replies.proofs.Replies.Carried.{both_more}
use Rattle.tg_law_walks.specs.Walks.Streams.{stands_in}
use Rattle.tg_law_walks.specs.Lists.Spared.{IsSaved, WasSettled}
use Rattle.tg_law_walks.proofs.Lists.Ends.{PageAt, page_at, settled_of, streams_there, fit_page, home}
use Rattle.tg_law_walks.proofs.Lists.Fits.{drafts_fit}
use Rattle.tg_law_walks.proofs.Lists.Reached.{before_reached}
use Rattle.tg_law_headline.specs.Trims.Spare.{IsSpare, own_play, TellsSpare, WereSpare, FloorsSpare}
use Rattle.tg_law_headline.specs.Trims.Floors.{directory_at, floor_at, WasRegistered, WasIssued, IsWhole, RestsOn, FloorsRest, HasTail, ConfirmsTail, SeesDirectory, StepRests, FloorsAreSpare, TrimsAreSpareBySight}
use Rattle.tg_law_headline.proofs.Trims.Growing.{settled_on, spare_on}
use Rattle.tg_law_headline.proofs.Trims.Runs.{trims_are_spare}

less_or : (a b : ℕ) → (a < b) ⊎ (b ≤ a)
less_or a b = grind arith

module _ (m : Meaning) (is_object : Oid → Bool) (is_op : m.op → Bool) (d : IsDirectory m is_object is_op) (h : Header) (ms : Moves m) (r : Reaches m h ms (after m h ms)) (safe : TrimsWereSafe m h ms)
    (ops : AreOpsOf m is_op (entries_in m (after m h ms))) (rest : FloorsRest m is_object h.objects (after m h ms)) where
  abbrev w : World m
  w = after m h ms

  abbrev floor : ℕ → ℕ
  floor n = floor_at m h.objects (after m h ms) n

  abbrev Marked : Oid → ℕ → ℕ → Type 0
  Marked o least n = HasMark m is_object h.objects (entries_in m (after m h ms)) o least n

  -- the run so far is one of its own worlds
  here : Passes m h ms (after m h ms)
  here = record { before = ms; after = []; split = sym (append-nil ms); is = refl }

  -- What a mark rests on.

  rests : (o : Oid) (f n : ℕ) → (k : Marked o f n) → RestsOn m (after m h ms) o k.mark k.at
  rests o f n k = rest.marks k.at k.entry k.write o k.mark k.object k.here k.commit k.writes k.to k.is

  -- where the floor rises past a registered object's place, the object is marked
  marked : (o : Oid) (a n : ℕ) → a ≤ n → m.registered (directory_at m h.objects (after m h ms) a) o ≡ true → floor a < floor n → Marked o (floor n) n
  marked o a n le listed more = floors_are_marked m is_object is_op d h.objects (entries_in m (after m h ms)) a n o (logs_rise m (after m h ms)) ops le listed more

  first : directory_at m h.objects (after m h ms) 0 ≡ m.fresh directory h.objects
  first =
      state_at_is m h.objects (entries_in m (after m h ms)) (logs_rise m (after m h ms)) 0 directory
      ∙ ap (λ (xs : Ledger m). state_after m h.objects directory xs) (none_below m [] 0 (entries_in m (after m h ms)) 0 (logs_rise m (after m h ms)) (omega arith))

  -- no floor is above its position
  low : (n : ℕ) → floor n ≤ n
  low n = by (zero_or (floor n))
    where
      zero_or : (f : ℕ) → (f ≡ 0) ⊎ (0 < f)
      zero_or f = grind arith

      at_checkpoint : Marked directory (floor n) n → floor n ≤ n
      at_checkpoint k =
          let s = rests directory (floor n) n k in
          let a = k.reaches in let b = s.saved.saves.reaches in let c = s.earlier in let e = s.below in let f = k.before in
          omega (arith, a, b, c, e, f)

      by : (floor n ≡ 0) ⊎ (0 < floor n) → floor n ≤ n
      by (inl z) = omega (arith, z)
      by (inr more) =
          let none : floor 0 ≡ 0 = ap (λ (s : m.state). m.floor s) first ∙ d.first_floor h.objects in
          at_checkpoint (marked directory 0 n (omega arith) (ap (λ (s : m.state). m.registered s directory) first ∙ d.first_listed h.objects) (omega (arith, none, more)))

  module _ (epoch tail : ℕ) (confirmed : ConfirmedTail m (after m h ms) (after m h ms) epoch tail) where
    -- a layout that starts at a position below the tail is of this epoch or before
    early : (last pos : ℕ) (q : Layout) → IsDecided m (after m h ms) last q → q.start ≤ pos → pos < tail → last ≤ epoch
    early last pos q dq past less = by (less_or epoch last)
      where
        at : q.epoch ≡ last
        at = (layouts_are_sound m h ms (after m h ms) r last q dq).epoch

        by : (epoch < last) ⊎ (last ≤ epoch) → last ≤ epoch
        by (inr le) = le
        by (inl later) =
            let k = starts_past m h ms (after m h ms) (after m h ms) r here epoch tail confirmed q (subst (λ (e : ℕ). IsDecided m (after m h ms) e q) (sym at) dq) (omega (arith, later, at)) in
            absurd (omega (arith, k, past, less))

    -- An object that was registered at or below a position under the floor is marked past the floor.
    marked_there : (o : Oid) (q : ℕ) → q < floor tail → WasRegistered m h.objects (after m h ms) o q → Marked o (floor tail) tail
    marked_there o q less g =
        let a = low tail in let b = low g.at in let c = g.low in
        marked o g.at tail (omega (arith, a, c, less)) g.registered (omega (arith, b, c, less))

    whole : IsWhole m (after m h ms) epoch tail
    whole = rest.tails epoch tail confirmed

    -- A position that was issued in this epoch was settled by the walks before a checkpoint of its stream.
    settled_new : (q : ℕ) → whole.layout.start ≤ q → q < floor tail → WasIssued m (after m h ms) epoch q → WasSettled m (after m h ms) epoch q
    settled_new q past less i = by (marked_there i.stream q less (rest.tokens i.seqr epoch q i.streams i.links i.stream i.issued i.here))
      where
        by : Marked i.stream (floor tail) tail → WasSettled m (after m h ms) epoch q
        by k = on (rests i.stream (floor tail) tail k)
          where
            on : RestsOn m (after m h ms) i.stream k.mark k.at → WasSettled m (after m h ms) epoch q
            on s = at_epoch (same s.whole.epoch epoch low_epoch (high (less_or s.whole.epoch epoch)))
              where
                last_low : s.last ≤ epoch
                last_low = early s.last k.at s.layout s.decided s.past k.before

                low_epoch : s.whole.epoch ≤ epoch
                low_epoch = let a = s.whole.up_to in let b = last_low in omega (arith, a, b)

                below : q < s.saved.saves.base.upto
                below = let a = k.reaches in let b = s.saved.saves.reaches in omega (arith, a, b, less)

                same : (a b : ℕ) → a ≤ b → b ≤ a → a ≡ b
                same a b x y = grind arith

                -- a tail of an earlier epoch lies below this epoch's start
                high : (s.whole.epoch < epoch) ⊎ (epoch ≤ s.whole.epoch) → epoch ≤ s.whole.epoch
                high (inr le) = le
                high (inl earlier) =
                    let e = (layouts_are_sound m h ms (after m h ms) r epoch whole.layout whole.decided).epoch in
                    let b = below in
                    let k = starts_past m h ms (after m h ms) (after m h ms) r here s.whole.epoch s.saved.saves.base.upto s.whole.tail whole.layout
                    (subst (λ (n : ℕ). IsDecided m (after m h ms) n whole.layout) (sym e) whole.decided) (omega (arith, earlier, e)) in
                    absurd (omega (arith, k, past, b))

                at_epoch : s.whole.epoch ≡ epoch → WasSettled m (after m h ms) epoch q
                at_epoch e = settled_on m (after m h ms) s.last epoch last_low q (s.whole.settled i.seqr q i.streams i.links (subst (λ (n : ℕ). Issued m (after m h ms) i.seqr n q i.streams i.links) (sym e) i.issued) i.here below)

    settled_all : (q : ℕ) → q < floor tail → WasSettled m (after m h ms) epoch q
    settled_all q less = by (less_or q whole.layout.start)
      where
        by : (q < whole.layout.start) ⊎ (whole.layout.start ≤ q) → WasSettled m (after m h ms) epoch q
        by (inl old) = whole.old q old
        by (inr new) = settled_new q new less (whole.new q new (let a = low tail in omega (arith, a, less)))

    -- What stands below the floor is saved past it.

    listed_there : (q : ℕ) (o : Oid) → stands_in (log m (after m h ms)) o q ≡ true → WasRegistered m h.objects (after m h ms) o q
    listed_there q o st = by (page_at (log m (after m h ms)) o q st)
      where
        by : PageAt (log m (after m h ms)) o q → WasRegistered m h.objects (after m h ms) o q
        by g =
            let fit = drafts_fit m h ms (after m h ms) r in
            let s = settled_of m h ms r safe q (Data g.page) g.here in
            let own = (fit_page m h ms r fit q g.page s).own in
            rest.tokens own.seqr (home m h ms r fit q g.page s).epoch q (streams_of own.draft) own.links o own.issued (contained _ o (streams_there m h ms r fit q g.page s g.entry o g.reads g.stands))

    saved_there : (q : ℕ) (o : Oid) → q < floor tail → stands_in (log m (after m h ms)) o q ≡ true → IsSaved m (after m h ms) o epoch (floor tail)
    saved_there q o less st = by (marked_there o q less (listed_there q o st))
      where
        by : Marked o (floor tail) tail → IsSaved m (after m h ms) o epoch (floor tail)
        by k = on (rests o (floor tail) tail k)
          where
            on : RestsOn m (after m h ms) o k.mark k.at → IsSaved m (after m h ms) o epoch (floor tail)
            on s =
                let last_low = early s.last k.at s.layout s.decided s.past k.before in
                let reaches = k.reaches in
                record {
                  at = s.saved.at;
                  after = (let a = s.saved.after in omega (arith, a, reaches));
                  page = s.saved.page;
                  settled = s.saved.settled;
                  in_time = (let a = s.saved.in_time in omega (arith, a, last_low));
                  entry = s.saved.entry;
                  reads = s.saved.reads;
                  stands = s.saved.stands;
                  saves = record { base = s.saved.saves.base; is = s.saved.saves.is; reaches = (let a = s.saved.saves.reaches in omega (arith, a, reaches)) };
                }

    pub floor_spare : IsSpare m (after m h ms) epoch (floor tail)
    floor_spare = record { whole = settled_all; saved = saved_there }

  -- So is the floor that a client tells which sees the log's directory.
  pub tells_spare : (c : Client m) (v : Work m) → ConfirmsTail m (after m h ms) c v → SeesDirectory m h.objects (after m h ms) c v → TellsSpare m (after m h ms) c v
  tells_spare c v tail sees t is came = by (tail is)
    where
      by : HasTail m (after m h ms) c v → IsSpare m (after m h ms) c.stand.epoch (floor_of m (state_of m (own_play m c v).view directory))
      by s =
          subst (λ (x : Option m.state). IsSpare m (after m h ms) c.stand.epoch (floor_of m x)) (sym (sees t is came))
          (spare_on m (after m h ms) s.epoch c.stand.epoch s.up_to (floor v.tail) (floor_spare s.epoch v.tail s.tail))

pub floors_are_spare : (m : Meaning) → FloorsAreSpare m
floors_are_spare m is_object is_op d h ms w r safe ops rest epoch tail confirmed =
    subst (λ (v : World m). Reaches m h ms v → AreOpsOf m is_op (entries_in m v) → FloorsRest m is_object h.objects v → ConfirmedTail m v v epoch tail → IsSpare m v epoch (floor_at m h.objects v tail)) (sym r.goes.is)
    (λ a b c t. floor_spare m is_object is_op d h ms a safe b c epoch tail t) r ops rest confirmed

module _ (m : Meaning) (is_object : Oid → Bool) (is_op : m.op → Bool) (d : IsDirectory m is_object is_op) (h : Header) (ms : Moves m) (r : Reaches m h ms (after m h ms))
    (sees : InEachStep m h ms (λ before u e. WereSpare m h before → StepRests m is_object is_op h.objects u e)) where
  floors_here : FloorsSpare m h ms
  floors_here before later e split spare = by (sees before later e split spare)
    where
      by : StepRests m is_object is_op h.objects (after m h before) e → EachEvent m h.objects (entries_in m (after m h before)) (TellsSpare m (after m h before)) (after m h before) e
      by s =
          both_more m h.objects (entries_in m (after m h before)) (ConfirmsTail m (after m h before)) (TellsSpare m (after m h before)) (SeesDirectory m h.objects (after m h before))
          (tells_spare m is_object is_op d h before (before_reached m h ms r before (Takes e ∷ later) split) spare.were.safe s.ops s.rest) (after m h before) e s.tails s.sees

pub trims_are_spare_by_sight : (m : Meaning) → TrimsAreSpareBySight m
trims_are_spare_by_sight m is_object is_op d h ms w r sees =
    trims_are_spare m h ms w r (floors_here m is_object is_op d h ms (subst (λ (v : World m). Reaches m h ms v) r.goes.is r) sees)
