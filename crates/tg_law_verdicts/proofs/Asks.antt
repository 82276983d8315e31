-- What a transaction asked, and how it was answered.
use Rattle.std.proofs.Common.{◌≡◌, ℕ, List, [], ◌∷◌, Bool, true, false, refl, sym, ap, ◌∙◌, subst, inl, inr}
use Rattle.std.specs.Prelude.{◌==◌}
use Rattle.tg_base.specs.declared.ids.Oid.{Oid}
use Rattle.tg_kind.specs.Meaning.{Meaning}
use Rattle.tg_model.specs.declared.trace.What.TheVariants as told
use Rattle.tg_model.specs.Kinds.{WhatOf, MarkOf}
use Rattle.tg_model.specs.Stores.{History}
use Rattle.tg_model.specs.Traces.{Trace}
use Rattle.tg_model.specs.Verdicts.{Sameness, Question, is_of, with_ask, asks_in, is_begin, is_end}
use Rattle.tg_law_verdicts.proofs.Members.{Has, and_both, both_and}
use Rattle.tg_law_verdicts.proofs.Tests.{same_number, number_same}

module _ (m : Meaning) (same : Sameness m) (objects : List Oid) (h : History m) (trace : Trace m) where
  -- a reply of this client with this number
  abbrev pub mark : ℕ → ℕ → ℕ → WhatOf m → MarkOf m
  mark event k x w = record { event = event; client = k; tx = x; what = w }

  pub mark_is : (t : MarkOf m) (k x : ℕ) (w : WhatOf m) → is_of m same objects h trace k x t ≡ true → t.what ≡ w → t ≡ mark t.event k x w
  mark_is t k x w of e =
      let p = and_both (t.client == k) (t.tx == x) of in
      let c = same_number t.client k p.0 in
      let n = same_number t.tx x p.1 in
      λ i. record { event = t.event; client = c i; tx = n i; what = e i }

  pub of_itself : (event k x : ℕ) (w : WhatOf m) → is_of m same objects h trace k x (mark event k x w) ≡ true
  of_itself event k x w = both_and (k == k) (x == x) (number_same k k refl) (number_same x x refl)

  abbrev pub Q : Type 0
  Q = Question m same objects h trace

  pub record Answered (ts : Trace m) (k x : ℕ) (q : Q) : Type 0 where
    pub event : ℕ
    pub has : Has ts (mark event k x (told.Asked q.oid q.ask q.at q.ans))

  answered_more : (t : MarkOf m) (ts : Trace m) (k x : ℕ) (q : Q) → Answered ts k x q → Answered (t ∷ ts) k x q
  answered_more t ts k x q a = record { event = a.event; has = inr a.has }

  -- an answer to an ask, or a reply that asks nothing
  data Sort (w : WhatOf m) : Type 0 where
    IsAsk : (o : Oid) (a : m.ask) (s : ℕ) (r : m.answer) → w ≡ told.Asked o a s r → Sort w
    IsOther : ((qs : List Q) → with_ask m same objects h trace true w qs ≡ qs) → Sort w

  sort_of : (w : WhatOf m) → Sort w
  sort_of (told.Asked o a s r) = IsAsk o a s r refl
  sort_of told.Begin = IsOther (λ qs. refl)
  sort_of (told.Put a b) = IsOther (λ qs. refl)
  sort_of told.End = IsOther (λ qs. refl)
  sort_of (told.Committed a) = IsOther (λ qs. refl)
  sort_of (told.Aborted a b c d e) = IsOther (λ qs. refl)
  sort_of (told.Unsure a b) = IsOther (λ qs. refl)
  sort_of told.Dropped = IsOther (λ qs. refl)
  sort_of (told.Hosted a) = IsOther (λ qs. refl)
  sort_of (told.Fate a b) = IsOther (λ qs. refl)
  sort_of (told.Decided a b) = IsOther (λ qs. refl)
  sort_of (told.Saved a b c) = IsOther (λ qs. refl)
  sort_of (told.Marked a b) = IsOther (λ qs. refl)
  sort_of (told.Trimmed a) = IsOther (λ qs. refl)
  sort_of (told.Installed a) = IsOther (λ qs. refl)
  sort_of (told.Refused a) = IsOther (λ qs. refl)
  sort_of (told.Copied a b c) = IsOther (λ qs. refl)
  sort_of (told.Past a b c d) = IsOther (λ qs. refl)
  sort_of (told.Rescued a b) = IsOther (λ qs. refl)

  abbrev question : Oid → m.ask → ℕ → m.answer → Q
  question o a s r = record { oid = o; ask = a; at = s; ans = r }

  first_or : (t : MarkOf m) (ts : Trace m) (k x : ℕ) (q : Q) (o : Oid) (a : m.ask) (s : ℕ) (r : m.answer) (qs : List Q) → is_of m same objects h trace k x t ≡ true → t.what ≡ told.Asked o a s r
      → (Has qs q → Answered ts k x q) → Has (question o a s r ∷ qs) q → Answered (t ∷ ts) k x q
  first_or t ts k x q o a s r qs of what rest (inl e) = record {
    event = t.event;
    has = inl (sym (mark_is t k x (told.Asked q.oid q.ask q.at q.ans) of (what ∙ sym (ap (λ (y : Q). told.Asked y.oid y.ask y.at y.ans) e))));
  }
  first_or t ts k x q o a s r qs of what rest (inr i) = answered_more t ts k x q (rest i)

  by_sort : (t : MarkOf m) (ts : Trace m) (k x : ℕ) (q : Q) (qs : List Q) → is_of m same objects h trace k x t ≡ true → Sort t.what
      → (Has qs q → Answered ts k x q) → Has (with_ask m same objects h trace true t.what qs) q → Answered (t ∷ ts) k x q
  by_sort t ts k x q qs of (IsAsk o a s r e) rest i = first_or t ts k x q o a s r qs of e rest (subst (λ (w : WhatOf m). Has (with_ask m same objects h trace true w qs) q) e i)
  by_sort t ts k x q qs of (IsOther f) rest i = answered_more t ts k x q (rest (subst (λ (ys : List Q). Has ys q) (f qs) i))

  by_of : (t : MarkOf m) (ts : Trace m) (k x : ℕ) (q : Q) (qs : List Q) (b : Bool) → is_of m same objects h trace k x t ≡ b
      → (Has qs q → Answered ts k x q) → Has (with_ask m same objects h trace b t.what qs) q → Answered (t ∷ ts) k x q
  by_of t ts k x q qs true of rest i = by_sort t ts k x q qs of (sort_of t.what) rest i
  by_of t ts k x q qs false of rest i = answered_more t ts k x q (rest i)

  -- a question is of a reply
  pub answered : (ts : Trace m) (k x : ℕ) (q : Q) → Has (asks_in m same objects h trace ts k x) q → Answered ts k x q
  unfolding asks_in
  answered [] k x q i = absurd i
  answered (t ∷ ts) k x q i = by_of t ts k x q (asks_in m same objects h trace ts k x) (is_of m same objects h trace k x t) refl (answered ts k x q) i

  kept_by : (w : WhatOf m) (qs : List Q) (q : Q) → Sort w → Has qs q → Has (with_ask m same objects h trace true w qs) q
  kept_by w qs q (IsAsk o a s r e) i = subst (λ (v : WhatOf m). Has (with_ask m same objects h trace true v qs) q) (sym e) (inr i)
  kept_by w qs q (IsOther f) i = subst (λ (ys : List Q). Has ys q) (sym (f qs)) i

  kept : (b : Bool) (w : WhatOf m) (qs : List Q) (q : Q) → Has qs q → Has (with_ask m same objects h trace b w qs) q
  kept true w qs q i = kept_by w qs q (sort_of w) i
  kept false w qs q i = i

  -- and each such reply is a question
  pub asked_in : (ts : Trace m) (event k x : ℕ) (o : Oid) (a : m.ask) (s : ℕ) (r : m.answer) → Has ts (mark event k x (told.Asked o a s r)) → Has (asks_in m same objects h trace ts k x) (question o a s r)
  unfolding asks_in
  asked_in [] event k x o a s r i = absurd i
  asked_in (t ∷ ts) event k x o a s r (inl e) =
      subst (λ (y : MarkOf m). Has (with_ask m same objects h trace (is_of m same objects h trace k x y) y.what (asks_in m same objects h trace ts k x)) (question o a s r)) e
      (subst (λ (b : Bool). Has (with_ask m same objects h trace b (told.Asked o a s r) (asks_in m same objects h trace ts k x)) (question o a s r)) (sym (of_itself event k x (told.Asked o a s r))) (inl refl))
  asked_in (t ∷ ts) event k x o a s r (inr i) =
      kept (is_of m same objects h trace k x t) t.what (asks_in m same objects h trace ts k x) (question o a s r) (asked_in ts event k x o a s r i)

  pub begin_is : (w : WhatOf m) → is_begin m same objects h trace w ≡ true → w ≡ told.Begin
  begin_is told.Begin e = refl
  begin_is (told.Put a b) e = absurd cc
  begin_is told.End e = absurd cc
  begin_is (told.Committed a) e = absurd cc
  begin_is (told.Aborted a b c d f) e = absurd cc
  begin_is (told.Unsure a b) e = absurd cc
  begin_is told.Dropped e = absurd cc
  begin_is (told.Hosted a) e = absurd cc
  begin_is (told.Fate a b) e = absurd cc
  begin_is (told.Decided a b) e = absurd cc
  begin_is (told.Saved a b c) e = absurd cc
  begin_is (told.Marked a b) e = absurd cc
  begin_is (told.Trimmed a) e = absurd cc
  begin_is (told.Installed a) e = absurd cc
  begin_is (told.Refused a) e = absurd cc
  begin_is (told.Copied a b c) e = absurd cc
  begin_is (told.Past a b c d) e = absurd cc
  begin_is (told.Rescued a b) e = absurd cc
  begin_is (told.Asked a b c d) e = absurd cc

  pub end_is : (w : WhatOf m) → is_end m same objects h trace w ≡ true → w ≡ told.End
  end_is told.Begin e = absurd cc
  end_is (told.Put a b) e = absurd cc
  end_is told.End e = refl
  end_is (told.Committed a) e = absurd cc
  end_is (told.Aborted a b c d f) e = absurd cc
  end_is (told.Unsure a b) e = absurd cc
  end_is told.Dropped e = absurd cc
  end_is (told.Hosted a) e = absurd cc
  end_is (told.Fate a b) e = absurd cc
  end_is (told.Decided a b) e = absurd cc
  end_is (told.Saved a b c) e = absurd cc
  end_is (told.Marked a b) e = absurd cc
  end_is (told.Trimmed a) e = absurd cc
  end_is (told.Installed a) e = absurd cc
  end_is (told.Refused a) e = absurd cc
  end_is (told.Copied a b c) e = absurd cc
  end_is (told.Past a b c d) e = absurd cc
  end_is (told.Rescued a b) e = absurd cc
  end_is (told.Asked a b c d) e = absurd cc
