-- What is told of transactions that were aborted, are unsure, or have committed.
use Rattle.std.proofs.Common.{◌≡◌, ◌≢◌, ◌⊎◌, ℕ, ◌<◌, List, [], ◌∷◌, map, ◌&&◌, Bool, true, false, refl, sym, ap, ◌∙◌, subst, inl, inr, arith}
use Rattle.std.specs.Prelude.{◌==◌, if◌then◌else◌}
use Rattle.tg_base.specs.Clusters.{Header}
use Rattle.tg_base.specs.declared.ids.Oid.{Oid}
use Rattle.tg_kind.specs.Meaning.{Meaning}
use Rattle.tg_model.specs.declared.trace.What.TheVariants as told
use Rattle.tg_model.specs.Kinds.{MarkOf, WhatOf}
use Rattle.tg_model.specs.Traces.{Trace, Tells, put_of, puts_of}
use Rattle.tg_protocol.specs.Worlds.{World, Told, start, trace}
use Rattle.tg_protocol.specs.Runs.{Moves, Reaches, run}
use Rattle.tg_protocol.specs.Alike.{HasEntry, HasRecord, HasCommit, OfTx}
use Rattle.tg_protocol.specs.Holding.{HasItsRecord, RepliesHaveRecords}
use Rattle.tg_law_replies.proofs.History.Members.{Has, has_contained, contained_has}
use Rattle.tg_law_walks.specs.Lists.Spared.{TrimsWereSpare}
use Rattle.tg_law_replies.specs.Replies.Ended.{AppendsEnd}
use Rattle.tg_law_syncs.proofs.Follow.Asks.{records_follow_asks}
use Rattle.tg_law_syncs.proofs.Follow.Says.{Other}
use Rattle.tg_law_syncs.proofs.Follow.Replies.{Fact, IsOther, IsOfTx, IsSaved, state, replies_have_records}
use Rattle.tg_law_headline.specs.Alike.Rows.{AbortsAgreeByRuns, UnsureAgreeByRuns, CommitsAgreeByRuns}

module _ (m : Meaning) where
  its_records : (h : Header) (ms : Moves m) (w : World m) → Reaches m h ms w → TrimsWereSpare m h ms → AppendsEnd m h ms w → RepliesHaveRecords m w
  its_records h ms w r trims ends = replies_have_records m h ms w r trims.safe (records_follow_asks m h ms w r trims) ends

  pub aborts_agree : AbortsAgreeByRuns m
  aborts_agree h ms w r trims ends out t p o k seen now i is = (subst (HasItsRecord m w t.mark.client t.mark.tx) is (its_records h ms w r trims ends t i), (out.aborted t p o k seen now i is).1)

  -- a record is a commit record
  commit_of : (w : World m) (p q k x : ℕ) → q ≡ p → HasRecord m w p k x → HasCommit m w q
  commit_of w p q k x e y = record { record_at = y.record_at; here = subst (λ (z : ℕ). HasEntry m w z y.record_at) (sym e) y.here; commit = y.commit }

  pub unsure_agree : UnsureAgreeByRuns m
  unsure_agree h ms w r trims ends out t p q i is = (its, by (out.unsure t p q i is))
    where
      its : HasRecord m w p t.mark.client t.mark.tx
      its = subst (HasItsRecord m w t.mark.client t.mark.tx) is (its_records h ms w r trims ends t i)

      by : (q ≡ p) ⊎ HasCommit m w q → HasCommit m w q
      by (inl e) = commit_of w p q t.mark.client t.mark.tx e its
      by (inr c) = c

  -- Puts.

  pub has_mark : (ts : List (Told m)) (t : Told m) → Has ts t → Has (map (λ (x : Told m). x.mark) ts) t.mark
  has_mark [] t i = absurd i
  has_mark (x ∷ ts) t (inl e) = inl (ap (λ (y : Told m). y.mark) e)
  has_mark (x ∷ ts) t (inr i) = inr (has_mark ts t i)

  pub some_put : (tr : Trace m) (k x : ℕ) (o : Oid) (op : m.op) (u : MarkOf m) → Has tr u → u.client ≡ k → u.tx ≡ x → u.what ≡ told.Put o op → Has (puts_of m tr k x) (o, op)
  unfolding puts_of
  some_put [] k x o op u i c n is = absurd i
  some_put (t ∷ tr) k x o op u (inl e) c n is =
      subst (λ (y : WhatOf m). Has (put_of m k x t.client t.tx y (puts_of m tr k x)) (o, op)) (sym (ap (λ (z : MarkOf m). z.what) (sym e) ∙ is)) (by ((k == t.client) && (x == t.tx)) (itself t.client t.tx (ap (λ (z : MarkOf m). z.client) (sym e) ∙ c) (ap (λ (z : MarkOf m). z.tx) (sym e) ∙ n)))
    where
      itself : (a b : ℕ) → a ≡ k → b ≡ x → ((k == a) && (x == b)) ≡ true
      itself a b f g = grind arith

      by : (b : Bool) → b ≡ true → Has (if b then (o, op) ∷ puts_of m tr k x else puts_of m tr k x) (o, op)
      by true f = inl refl
      by false f = absurd cc
  some_put (t ∷ tr) k x o op u (inr i) c n is = later t.what (some_put tr k x o op u i c n is)
    where
      put : (p : Oid) (q : m.op) (b : Bool) → Has (puts_of m tr k x) (o, op) → Has (if b then (p, q) ∷ puts_of m tr k x else puts_of m tr k x) (o, op)
      put p q true j = inr j
      put p q false j = j

      later : (w : WhatOf m) → Has (puts_of m tr k x) (o, op) → Has (put_of m k x t.client t.tx w (puts_of m tr k x)) (o, op)
      later (told.Put p q) j = put p q ((k == t.client) && (x == t.tx)) j
      later w j = j

  pub has_some : {X : Type 0} (xs : List X) (x : X) → Has xs x → xs ≢ []
  has_some {X} xs x i none = subst (λ (ys : List X). Has ys x) none i

  pub puts_some : (w : World m) (k x : ℕ) (o : Oid) (op : m.op) → OfTx m w k x (told.Put o op) → puts_of m (trace m w) k x ≢ []
  puts_some w k x o op y = has_some (puts_of m (trace m w) k x) (o, op)
      (some_put (trace m w) k x o op y.told.mark (has_mark w.told y.told (has_contained w.told y.told y.here)) y.client y.number y.says)

  -- A reply that tells of a commit bears the number of a transaction.

  number_of : (h : Header) (ms : Moves m) (u : MarkOf m) (p : ℕ) → u.what ≡ told.Committed p → Fact m h ms u → 0 < u.tx
  number_of h ms u p is (IsOther o) = absurd (subst (Other m) is o)
  number_of h ms u p is (IsOfTx n s) = n
  number_of h ms u p is (IsSaved before after e split o q n now saved) = absurd (no (sym is ∙ saved))
    where
      no : ◌≡◌ {A = WhatOf m} (told.Committed p) (told.Saved o q n) → ⊥
      no f = cc

  tells : (h : Header) (ms : Moves m) (w : World m) → w ≡ run m ms (start m h) → (u : MarkOf m) (p : ℕ) → Has (trace m w) u → u.what ≡ told.Committed p → Tells m (trace m w) u.client u.tx (told.Committed p)
  tells h ms w goes u p i is =
      let number = number_of h ms u p is ((state m h ms).facts u (subst (λ (v : World m). Has (trace m v) u) goes i)) in
      subst (Tells m (trace m w) u.client u.tx) is (record { number = number; event = u.event; here = contained_has (trace m w) u i })

  pub commits_agree : CommitsAgreeByRuns m
  commits_agree h ms w r trims ends out t p o op i is y =
      let some = puts_some w t.mark.client t.mark.tx o op y in
      let told' = tells h ms w r.goes.is t.mark p (has_mark w.told t (has_contained w.told t i)) is in
      (subst (HasItsRecord m w t.mark.client t.mark.tx) is (its_records h ms w r trims ends t i) some, (out.committed t.mark.client t.mark.tx p told' some).1)
