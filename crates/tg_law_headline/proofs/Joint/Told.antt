-- What stands below a floor that a trimming client told is decided: whoever marked it had found it so, or had met an earlier trim.
use Rattle.std.proofs.Common.{◌≡◌, ◌⊎◌, ℕ, zero, suc, ◌<◌, ◌≤◌, List, [], ◌∷◌, ◌++◌, length, Bool, true, refl, sym, ap, ◌∙◌, subst, inl, inr, arith, Some, None, Option}
use Rattle.tg_base.specs.Clusters.{Header}
use Rattle.tg_base.specs.declared.ids.Oid.{Oid}
use Rattle.tg_entry.specs.Needs.{needs_decision}
use Rattle.tg_entry.specs.declared.entry.Entry.{Entry}
use Rattle.tg_kind.specs.Meaning.{Meaning}
use Rattle.tg_protocol.specs.Words.{directory}
use Rattle.tg_protocol.specs.Alike.{HasEntry}
use Rattle.tg_protocol.specs.Answers.{floor_of}
use Rattle.tg_protocol.specs.Checkpoints.{trim_of}
use Rattle.tg_protocol.specs.Entries.{is_commit, lists}
use Rattle.tg_protocol.specs.Runs.{Moves, Takes, Reaches}
use Rattle.tg_law_layouts.specs.Moves.After.{after}
use Rattle.tg_law_cells.proofs.Entries.Lists.{joined}
use Rattle.tg_law_replies.specs.History.Worlds.{entries_in}
use Rattle.tg_law_replies.specs.History.Loading.{AreOpsOf}
use Rattle.tg_law_replies.specs.History.Floors.{IsDirectory, HasMark}
use Rattle.tg_law_replies.proofs.History.Cells.{logs_rise}
use Rattle.tg_law_replies.proofs.History.Floors.{floors_are_marked}
use Rattle.tg_law_replies.proofs.Views.Plays.{fresh_true}
use Rattle.tg_law_replies.specs.Views.Exact.{or_first, low_of}
use Rattle.tg_law_replies.specs.Replies.Runs.{InEachStep}
use Rattle.tg_law_walks.specs.Lists.Spared.{WasSettled, TrimsWereSpare}
use Rattle.tg_law_walks.proofs.Lists.Reached.{before_reached}
use Rattle.tg_law_headline.specs.Trims.Spare.{WereSpare}
use Rattle.tg_law_headline.specs.Trims.Floors.{directory_at, floor_at, WasRegistered, FloorsRest, HasTail, ConfirmsTail, SeesDirectory, StepRests}
use Rattle.tg_law_headline.proofs.Trims.Floors.{floors_are_spare}
use Rattle.tg_law_headline.specs.Origins.Origins.{MarkFrom}
use Rattle.tg_law_headline.specs.Decisions.Decisions.{IsDecidedBy}
use Rattle.tg_law_headline.specs.Trimming.Trimming.{FloorTold}
use Rattle.tg_law_headline.proofs.Trimming.Meeting.{walks_meet_told_trims}
use Rattle.tg_law_headline.specs.Joint.Joint.{JointRests, EachOwns}
use Rattle.tg_law_replies.proofs.Replies.Reached.{at_end}
use Rattle.tg_law_headline.proofs.Joint.Lifting.{entry_was, decided_late, front_spare, step_spare}
use Rattle.tg_law_headline.proofs.Joint.Settled.{token_of}
use Rattle.tg_law_headline.proofs.Joint.Resting.{decided_there}

less_or : (a b : ℕ) → (a < b) ⊎ (b ≤ a)
less_or a b = grind arith

zero_or : (n : ℕ) → (n ≡ 0) ⊎ (0 < n)
zero_or n = grind arith

pub longer : {X : Type 0} (xs : List X) (y : X) (ys zs : List X) → zs ≡ xs ++ y ∷ ys → length xs < length zs
longer [] y ys zs e = subst (λ (us : List _). 0 < length us) (sym e) (omega arith)
longer (x ∷ xs) y ys zs e = subst (λ (us : List _). length (x ∷ xs) < length us) (sym e) (let k = longer xs y ys (xs ++ y ∷ ys) refl in omega (arith, k))

-- Of a world whose floors rest: where the floor is past an object's record, the object is marked past the floor.
module _ (m : Meaning) (is_object : Oid → Bool) (is_op : m.op → Bool) (d : IsDirectory m is_object is_op) (h : Header) (zs : Moves m) (ops : AreOpsOf m is_op (entries_in m (after m h zs)))
    (rest : FloorsRest m is_object h.objects (after m h zs)) where
  abbrev floor : ℕ → ℕ
  floor n = floor_at m h.objects (after m h zs) n

  abbrev Marked : Oid → ℕ → ℕ → Type 0
  Marked o least n = HasMark m is_object h.objects (entries_in m (after m h zs)) o least n

  marked : (o : Oid) (a n : ℕ) → a ≤ n → m.registered (directory_at m h.objects (after m h zs) a) o ≡ true → floor a < floor n → Marked o (floor n) n
  marked o a n le listed more = floors_are_marked m is_object is_op d h.objects (entries_in m (after m h zs)) a n o (logs_rise m (after m h zs)) ops le listed more

  first : directory_at m h.objects (after m h zs) 0 ≡ m.fresh directory h.objects
  first = sym (fresh_true m h.objects (entries_in m (after m h zs)) directory (logs_rise m (after m h zs))).state

  -- no floor is above its position
  low : (n : ℕ) → floor n ≤ n
  low n = by (zero_or (floor n))
    where
      at_checkpoint : Marked directory (floor n) n → floor n ≤ n
      at_checkpoint k =
          let s = rest.marks k.at k.entry k.write directory k.mark k.object k.here k.commit k.writes k.to k.is in
          let a = k.reaches in let b = s.saved.saves.reaches in let c = s.earlier in let e = s.below in let f = k.before in
          omega (arith, a, b, c, e, f)

      by : (floor n ≡ 0) ⊎ (0 < floor n) → floor n ≤ n
      by (inl z) = omega (arith, z)
      by (inr more) =
          let none : floor 0 ≡ 0 = ap (λ (s : m.state). m.floor s) first ∙ d.first_floor h.objects in
          at_checkpoint (marked directory 0 n (omega arith) (ap (λ (s : m.state). m.registered s directory) first ∙ d.first_listed h.objects) (omega (arith, none, more)))

  pub marked_there : (tail : ℕ) (o : Oid) (q : ℕ) → q < floor tail → WasRegistered m h.objects (after m h zs) o q → Marked o (floor tail) tail
  marked_there tail o q less g =
      let a = low tail in let b = low g.at in let c = g.low in
      marked o g.at tail (omega (arith, a, c, less)) g.registered (omega (arith, b, c, less))

module _ (m : Meaning) (is_object : Oid → Bool) (is_op : m.op → Bool) (d : IsDirectory m is_object is_op) (rests : JointRests m is_object) (owns : EachOwns m)
    (h : Header) (zs : Moves m) (r : Reaches m h zs (after m h zs)) (trims : TrimsWereSpare m h zs) (steps : InEachStep m h zs (λ before u e. WereSpare m h before → StepRests m is_object is_op h.objects u e)) where
  -- In the step in which a floor was told, a record below it stood in the log, and its object was marked past it.
  module _ (b c : Moves m) (split : zs ≡ b ++ c) (epoch below : ℕ) (f : FloorTold m h b epoch below) (p : ℕ) (e : Entry) (o : Oid) (less : p < below) (stands : lists e o ≡ true) (here : HasEntry m (after m h zs) p e) where
    abbrev t : Moves m
    t = f.came.before

    abbrev later : Moves m
    later = Takes f.came.event ∷ (f.came.after ++ c)

    at : zs ≡ t ++ later
    at = split ∙ (ap (λ (ms : Moves m). ms ++ c) f.came.split ∙ joined f.came.before (Takes f.came.event ∷ f.came.after) c)

    rt : Reaches m h f.came.before (after m h f.came.before)
    rt = before_reached m h zs r t later at

    spare : WereSpare m h f.came.before
    spare = step_spare m h zs r trims t (f.came.after ++ c) f.came.event at

    step : StepRests m is_object is_op h.objects (after m h f.came.before) f.came.event
    step = steps t (f.came.after ++ c) f.came.event at spare

    tail : HasTail m (after m h f.came.before) f.end.client f.end.work
    tail = at_end m h.objects (entries_in m (after m h t)) (ConfirmsTail m (after m h t)) (after m h t) f.client f.came.event f.end step.tails f.came.walked f.command

    reaches : below ≤ floor_at m h.objects (after m h f.came.before) f.end.work.tail
    reaches = subst (λ (x : Option m.state). below ≤ floor_of m x)
        (at_end m h.objects (entries_in m (after m h t)) (SeesDirectory m h.objects (after m h t)) (after m h t) f.client f.came.event f.end step.sees f.came.walked f.at f.command f.played) f.reaches

    under : p < floor_at m h.objects (after m h f.came.before) f.end.work.tail
    under = let a = reaches in omega (arith, a, less)

    settled : WasSettled m (after m h f.came.before) tail.epoch p
    settled = (floors_are_spare m is_object is_op d h t (after m h t) rt spare.were.safe step.ops step.rest tail.epoch f.end.work.tail tail.tail).whole p under

    there : HasEntry m (after m h f.came.before) p e
    there = entry_was m h zs r t later at trims.safe tail.epoch p e settled here

    registered : WasRegistered m h.objects (after m h f.came.before) o p
    registered = let k = token_of m h t rt spare.were p e o stands there in step.rest.tokens k.seqr k.epoch p k.streams k.links o k.issued k.stream

    mark : HasMark m is_object h.objects (entries_in m (after m h f.came.before)) o (floor_at m h.objects (after m h f.came.before) f.end.work.tail) f.end.work.tail
    mark = marked_there m is_object is_op d h t step.ops step.rest f.end.work.tail o p under registered

    from : MarkFrom m h f.came.before (after m h f.came.before) mark.at mark.entry o mark.mark
    from = rests.marks h t (after m h t) rt spare.were mark.at mark.entry mark.write o mark.mark mark.object mark.here mark.writes mark.to mark.is

    past_mark : p < mark.mark
    past_mark = let a = under in let b = mark.reaches in omega (arith, a, b)

    split_there : f.came.before ≡ from.walk.came.before ++ Takes from.walk.came.event ∷ from.walk.came.after
    split_there = from.walk.came.split

    -- the run that told the floor goes on from the step in which the client had walked to forget
    abbrev rest_of : Moves m
    rest_of = Takes from.walk.came.event ∷ (from.walk.came.after ++ (Takes f.came.event ∷ f.came.after))

    rest_is : b ≡ from.walk.came.before ++ rest_of
    rest_is = f.came.split ∙ (ap (λ (ms : Moves m). ms ++ Takes f.came.event ∷ f.came.after) from.walk.came.split ∙ joined from.walk.came.before (Takes from.walk.came.event ∷ from.walk.came.after) (Takes f.came.event ∷ f.came.after))

    shorter : length from.walk.came.before < length b
    shorter = longer from.walk.came.before (Takes from.walk.came.event) (from.walk.came.after ++ (Takes f.came.event ∷ f.came.after)) b rest_is

    -- it was decided there, or lies below a trim that the walk had met
    decided_or : is_commit e ≡ true → needs_decision e ≡ true
        → IsDecidedBy m (after m h from.walk.came.before) from.walk.end.client.stand.epoch p e ⊎ ((low : ℕ) × (p < low) × FloorTold m h from.walk.came.before from.walk.end.client.stand.epoch low)
    decided_or commit needs = by (less_or p (low_of from.walk.end.work.trims o))
      where
        met : (x : Option ℕ) → trim_of from.walk.end.work.trims o ≡ x → p < or_first x → (low : ℕ) × (p < low) × FloorTold m h from.walk.came.before from.walk.end.client.stand.epoch low
        met None is less = absurd (omega (arith, less))
        met (Some low) is less = (low, less, walks_meet_told_trims m h from.walk.came.before (after m h from.walk.came.before) (before_reached m h t rt from.walk.came.before (Takes from.walk.came.event ∷ from.walk.came.after) from.walk.came.split) from.walk.came.event mark.entry.head.client from.walk.end from.walk.came.walked o low is)

        by : (p < low_of from.walk.end.work.trims o) ⊎ (low_of from.walk.end.work.trims o ≤ p)
            → IsDecidedBy m (after m h from.walk.came.before) from.walk.end.client.stand.epoch p e ⊎ ((low : ℕ) × (p < low) × FloorTold m h from.walk.came.before from.walk.end.client.stand.epoch low)
        by (inl less) = inr (met (trim_of from.walk.end.work.trims o) refl less)
        by (inr le) = inl (decided_there m is_object rests owns h t rt spare.were mark.at mark.entry o mark.mark from p e there commit needs stands past_mark le)

  -- So it was decided, there or before an earlier floor.
  module _ (p : ℕ) (e : Entry) (o : Oid) (commit : is_commit e ≡ true) (needs : needs_decision e ≡ true) (stands : lists e o ≡ true) (here : HasEntry m (after m h zs) p e) where
    abbrev Decided : Moves m → Type 0
    Decided b = (last : ℕ) × IsDecidedBy m (after m h b) last p e

    decided_on : (b c x y : Moves m) → zs ≡ b ++ c → b ≡ x ++ y → Decided x → Decided b
    decided_on b c x y split at k = (k.0, decided_late m h b (before_reached m h zs r b c split) x y at (front_spare m h zs r trims b c split).safe k.0 p e k.1)

    pub told_decided : (n : ℕ) (b c : Moves m) (split : zs ≡ b ++ c) → length b ≤ n → (epoch below : ℕ) → FloorTold m h b epoch below → p < below → Decided b
    told_decided zero b c split short epoch below f less = let k = shorter b c split epoch below f p e o less stands here in absurd (omega (arith, k, short))
    told_decided (suc n) b c split short epoch below f less =
        decided_on b c (from b c split epoch below f p e o less stands here).walk.came.before (rest_of b c split epoch below f p e o less stands here) split (rest_is b c split epoch below f p e o less stands here)
        (by (decided_or b c split epoch below f p e o less stands here commit needs) (λ low k g. told_decided n x (y ++ c) onto lower (from b c split epoch below f p e o less stands here).walk.end.client.stand.epoch low g k))
      where
        x : Moves m
        x = (from b c split epoch below f p e o less stands here).walk.came.before

        y : Moves m
        y = rest_of b c split epoch below f p e o less stands here

        onto : zs ≡ x ++ (y ++ c)
        onto = split ∙ (ap (λ (ms : Moves m). ms ++ c) (rest_is b c split epoch below f p e o less stands here) ∙ joined x y c)

        lower : length x ≤ n
        lower = let k = shorter b c split epoch below f p e o less stands here in omega (arith, k, short)

        by : IsDecidedBy m (after m h x) (from b c split epoch below f p e o less stands here).walk.end.client.stand.epoch p e
            ⊎ ((low : ℕ) × (p < low) × FloorTold m h x (from b c split epoch below f p e o less stands here).walk.end.client.stand.epoch low)
            → ((low : ℕ) → p < low → FloorTold m h x (from b c split epoch below f p e o less stands here).walk.end.client.stand.epoch low → Decided x) → Decided x
        by (inl k) earlier = ((from b c split epoch below f p e o less stands here).walk.end.client.stand.epoch, k)
        by (inr k) earlier = earlier k.0 k.1 k.2
