-- The laws on the points of replies.
use Rattle.std.proofs.Common.{◌≡◌, ◌⊎◌, ℕ, ◌+◌, ◌<◌, [], ◌++◌, Bool, true, false, refl, sym, ap, ◌∙◌, subst, inl, inr, arith, Some, None}
use Rattle.std.specs.Prelude.{◌==◌, if◌then◌else◌, Contains}
use Rattle.tg_base.specs.Clusters.{Header}
use Rattle.tg_base.specs.declared.cell.Cell.TheVariants.{Data}
use Rattle.tg_kind.specs.Meaning.{Meaning}
use Rattle.tg_model.specs.declared.trace.What.TheVariants as told
use Rattle.tg_model.specs.Kinds.{MarkOf, WhatOf}
use Rattle.tg_model.specs.Traces.{Tells, puts_of, has_items, point}
use Rattle.tg_protocol.specs.Worlds.{World, start, trace, log}
use Rattle.tg_protocol.specs.Runs.{Moves, Reaches, run}
use Rattle.tg_law_layouts.specs.Moves.After.{after}
use Rattle.tg_law_layouts.proofs.Moves.Lists.{contained}
use Rattle.tg_law_layouts.proofs.Moves.Members.{has_contained as got}
use Rattle.tg_law_layouts.proofs.Moves.Scripts.{run_both}
use Rattle.tg_law_replies.specs.History.Worlds.{entries_in}
use Rattle.tg_law_replies.proofs.History.Members.{has_contained}
use Rattle.tg_law_cells.proofs.Tokens.Linked.{page_in}
use Rattle.tg_law_cells.specs.Entries.Archive.{TrimsWereSafe}
use Rattle.tg_law_cells.proofs.Entries.Archive.{log_is_settled}
use Rattle.tg_law_walks.specs.Lists.Spared.{TrimsWereSpare}
use Rattle.tg_law_walks.proofs.Lists.Reached.{before_reached}
use Rattle.tg_law_walks.proofs.Lists.Safe.{safe_before}
use Rattle.tg_law_replies.specs.Replies.Told.{HasRecordOf}
use Rattle.tg_law_replies.specs.Books.Laws.{RepliesKnown}
use Rattle.tg_law_replies.proofs.Books.Told.{ToldIn, all_told}
use Rattle.tg_law_walks.proofs.Drafts.Became.{no_some, same_some}
use Rattle.tg_law_walks.proofs.Once.Ending.{appends_end}
use Rattle.tg_law_walks.proofs.Once.Known.{replies_known}
use Rattle.tg_law_syncs.proofs.Exact.Finds.{spare_before}
use Rattle.tg_law_syncs.proofs.Follow.Asks.{records_follow_asks}
use Rattle.tg_law_syncs.proofs.Follow.Committed.{committed_for_good}
use Rattle.tg_law_cells.specs.Places.Order.{IsPoint, Confirmed, PastPage}
use Rattle.tg_law_cells.proofs.Places.Order.{points_precede_places}
use Rattle.tg_law_headline.specs.Points.Points.{RepliesHavePoints, RepliesPrecede, EachPassedBySpareTrims}
use Rattle.tg_law_headline.proofs.Points.Snapshots.{WasConfirmed, stood_since, asked_at_tails}

module _ (m : Meaning) where
  module _ (h : Header) (zs : Moves m) (r : Reaches m h zs (after m h zs)) (trims : TrimsWereSpare m h zs) (xs ys : Moves m) (split : zs ≡ xs ++ ys) where
    abbrev u : World m
    u = after m h xs

    abbrev v : World m
    v = after m h zs

    reach : Reaches m h xs u
    reach = before_reached m h zs r xs ys split

    safe : TrimsWereSafe m h xs
    safe = safe_before m h zs r trims xs ys split

    spare : TrimsWereSpare m h xs
    spare = spare_before m h zs xs ys trims split safe

    known : RepliesKnown m u
    known = replies_known m h xs u reach safe (records_follow_asks m h xs u reach spare)

    -- a record was settled
    record_point : (p k x : ℕ) → HasRecordOf (entries_in m u) p k x → IsPoint m u v (p + 1)
    record_point p k x c =
        let d = page_in (log m u) p c.entry (got (entries_in m u) (p, c.entry) c.here) in
        PastPage p d.page ((log_is_settled m h xs u reach safe).settled p (Data d.page) (contained (log m u) (p, Data d.page) d.here))

    tail_point : (s : ℕ) → WasConfirmed m u s → IsPoint m u v s
    tail_point s t = Confirmed t.0 s (stood_since m h zs r xs ys split t.0 s t.1)

    module _ (t : MarkOf m) (i : Contains (trace m u) t) (number : 0 < t.tx) (p : ℕ) where
      tells : (what : WhatOf m) → t.what ≡ what → Tells m (trace m u) t.client t.tx what
      tells what is = subst (Tells m (trace m u) t.client t.tx) is (record { number = number; event = t.event; here = i })

      its : {q : ℕ} → Some q ≡ Some p → IsPoint m u v q → IsPoint m u v p
      its {q} e a = subst (IsPoint m u v) (same_some q p e) a

      later : v ≡ run m ys u
      later = ap (after m h) split ∙ run_both m xs ys (start m h)

      none_put : {X : Type 0} → puts_of m (trace m v) t.client t.tx ≡ [] → has_items m (puts_of m (trace m v) t.client t.tx) ≡ true → X
      none_put e f = absurd (no (sym (ap (λ us. has_items m us) e) ∙ f))
        where
          no : false ≡ true → ⊥
          no z = cc

      committed : (q : ℕ) → t.what ≡ told.Committed q → has_items m (puts_of m (trace m v) t.client t.tx) ≡ true → IsPoint m u v (q + 1)
      committed q is some = by (committed_for_good m h xs (appends_end m h xs u reach safe) t.client t.tx q number (told_in (tells (told.Committed q) is)) ys)
        where
          told_in : Tells m (trace m u) t.client t.tx (told.Committed q) → ToldIn m h xs t.client t.tx (told.Committed q)
          told_in k = all_told m h xs (record { event = k.event; client = t.client; tx = t.tx; what = told.Committed q }) (has_contained (trace m u) (record { event = k.event; client = t.client; tx = t.tx; what = told.Committed q }) k.here)

          by : HasRecordOf (entries_in m u) q t.client t.tx ⊎ (puts_of m (trace m (run m ys u)) t.client t.tx ≡ []) → IsPoint m u v (q + 1)
          by (inl c) = record_point q t.client t.tx c
          by (inr none) = none_put (ap (λ (w : World m). puts_of m (trace m w) t.client t.tx) later ∙ none) some

      by_what : (what : WhatOf m) (b : Bool) → t.what ≡ what → has_items m (puts_of m (trace m v) t.client t.tx) ≡ b → point m b what ≡ Some p → IsPoint m u v p
      by_what (told.Asked o q s a) b is put e = its e (tail_point s (asked_at_tails m h xs reach spare t.client t.tx o q s a (tells (told.Asked o q s a) is)))
      by_what (told.Unsure q n) b is put e = its e (record_point q t.client t.tx (known.unsure t.client t.tx q n (tells (told.Unsure q n) is)))
      by_what (told.Aborted q o k seen now) b is put e = its e (record_point q t.client t.tx (known.aborted t.client t.tx q o k seen now (tells (told.Aborted q o k seen now) is)))
      by_what (told.Committed q) true is put e = its e (committed q is put)
      by_what (told.Committed q) false is put e = no_some p e
      by_what what true is put e = no_some p e
      by_what what false is put e = no_some p e

    counted : (a : ℕ) → (a == 0) ≡ false → 0 < a
    counted a e = grind arith

    points_here : RepliesHavePoints m u v
    points_here t p i e = by (t.tx == 0) refl e
      where
        by : (b : Bool) → (t.tx == 0) ≡ b → (if b then None else point m (has_items m (puts_of m (trace m v) t.client t.tx)) t.what) ≡ Some p → IsPoint m u v p
        by true z f = no_some p f
        by false z f = by_what t i (counted t.tx z) p t.what (has_items m (puts_of m (trace m v) t.client t.tx)) refl refl f

  pub replies_have_points : EachPassedBySpareTrims m (RepliesHavePoints m)
  replies_have_points h ms u v r trims x =
      subst (λ (y : World m). RepliesHavePoints m y v) (sym x.is)
      (subst (λ (y : World m). Reaches m h ms y → RepliesHavePoints m (after m h x.before) y) (sym r.goes.is) (λ s. points_here h ms s trims x.before x.after x.split) r)

  pub replies_precede_places : EachPassedBySpareTrims m (RepliesPrecede m)
  replies_precede_places h ms u v r trims x t point place i is at = points_precede_places m h ms u v r x point place (replies_have_points h ms u v r trims x t point i is) at
