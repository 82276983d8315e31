-- What further replies leave as it is.
use Rattle.std.proofs.Common.{◌≡◌, ◌⊎◌, ℕ, List, [], ◌∷◌, ◌++◌, Bool, true, false, refl, sym, ap, ◌∙◌, inl, inr}
use Rattle.std.specs.Prelude.{if◌then◌else◌, ◌&&◌, ◌==◌}
use Rattle.tg_base.specs.declared.ids.Oid.{Oid}
use Rattle.tg_kind.specs.Meaning.{Meaning}
use Rattle.tg_model.specs.declared.trace.What.TheVariants as told
use Rattle.tg_model.specs.Kinds.{WhatOf, MarkOf}
use Rattle.tg_model.specs.Traces.{Trace, Tells, put_of, puts_of}
use Rattle.tg_protocol.specs.Views.{Entries}
use Rattle.tg_protocol.specs.Transactions.{Tx}
use Rattle.tg_law_replies.proofs.History.Members.{Has, has_contained, contained_has, same_number, and_both, has_either, has_left}
use Rattle.tg_law_replies.proofs.Replies.Books.{puts_more, IsPlain, IsOpen}

module _ (m : Meaning) (objects : List Oid) (es : Entries) where
  -- Further replies of which none puts or asks for this transaction.

  abbrev pub LeavesAlone : ℕ → ℕ → Trace m → Type 0
  LeavesAlone k x ys = (t : MarkOf m) → Has ys t → t.client ≡ k → t.tx ≡ x → IsPlain m t.what

  pub none_put : (k x : ℕ) (ys : Trace m) → LeavesAlone k x ys → puts_of m ys k x ≡ []
  unfolding puts_of
  none_put k x [] h = refl
  none_put k x (t ∷ ys) h = by t.what (h t (inl refl)) (none_put k x ys (λ u i. h u (inr i)))
    where
      here : (o : Oid) (op : m.op) → (t.client ≡ k → t.tx ≡ x → ⊥) → (b : Bool) → ((k == t.client) && (x == t.tx)) ≡ b → (vs : List (Oid × m.op)) → vs ≡ [] → (if b then (o, op) ∷ vs else vs) ≡ []
      here o op never true e vs none = let p = and_both (k == t.client) (x == t.tx) e in absurd (never (sym (same_number k t.client p.0)) (sym (same_number x t.tx p.1)))
      here o op never false e vs none = none

      by : (w : WhatOf m) → (t.client ≡ k → t.tx ≡ x → IsPlain m w) → puts_of m ys k x ≡ [] → put_of m k x t.client t.tx w (puts_of m ys k x) ≡ []
      by (told.Put o op) p rest = here o op p ((k == t.client) && (x == t.tx)) refl (puts_of m ys k x) rest
      by w p rest = rest

  nil_right : (us : List (Oid × m.op)) → us ++ [] ≡ us
  nil_right [] = refl
  nil_right (u ∷ us) = ap (λ (vs : List (Oid × m.op)). u ∷ vs) (nil_right us)

  pub puts_stay : (k x : ℕ) (trace ys : Trace m) → LeavesAlone k x ys → puts_of m (trace ++ ys) k x ≡ puts_of m trace k x
  puts_stay k x trace ys h = puts_more m trace ys k x ∙ (ap (λ (vs : List (Oid × m.op)). puts_of m trace k x ++ vs) (none_put k x ys h) ∙ nil_right (puts_of m trace k x))

  pub told_still : (k x : ℕ) (trace ys : Trace m) (w : WhatOf m) → Tells m trace k x w → Tells m (trace ++ ys) k x w
  told_still k x trace ys w h = record {
    number = h.number;
    event = h.event;
    here = contained_has (trace ++ ys) (record { event = h.event; client = k; tx = x; what = w }) (has_left trace ys (record { event = h.event; client = k; tx = x; what = w }) (has_contained trace (record { event = h.event; client = k; tx = x; what = w }) h.here));
  }

  pub told_before : (k x : ℕ) (trace ys : Trace m) (o : Oid) (q : m.ask) (s : ℕ) (a : m.answer) → LeavesAlone k x ys → Tells m (trace ++ ys) k x (told.Asked o q s a) → Tells m trace k x (told.Asked o q s a)
  told_before k x trace ys o q s a h i =
      by (has_either trace ys (record { event = i.event; client = k; tx = x; what = told.Asked o q s a }) (has_contained (trace ++ ys) (record { event = i.event; client = k; tx = x; what = told.Asked o q s a }) i.here))
    where
      by : Has trace (record { event = i.event; client = k; tx = x; what = told.Asked o q s a }) ⊎ Has ys (record { event = i.event; client = k; tx = x; what = told.Asked o q s a }) → Tells m trace k x (told.Asked o q s a)
      by (inl j) = record { number = i.number; event = i.event; here = contained_has trace (record { event = i.event; client = k; tx = x; what = told.Asked o q s a }) j }
      by (inr j) = absurd (h (record { event = i.event; client = k; tx = x; what = told.Asked o q s a }) j refl refl)

  -- an open transaction stays as it is
  pub open_stays : (k : ℕ) (trace ys : Trace m) (t : Tx) → LeavesAlone k t.number ys → IsOpen m objects es k trace t → IsOpen m objects es k (trace ++ ys) t
  open_stays k trace ys t alone h = record {
    puts = h.puts ∙ sym (puts_stay k t.number trace ys alone);
    snap = λ o q s a i. h.snap o q s a (told_before k t.number trace ys o q s a alone i);
    asks = λ o q s a i. h.asks o q s a (told_before k t.number trace ys o q s a alone i);
    reads = λ r i. let x = h.reads r i in (x.0, x.1, x.2, x.3, told_still k t.number trace ys (told.Asked r.oid x.1 x.0 x.2) x.4, x.5, x.6);
    ops = h.ops;
    asked = λ s is. let x = h.asked s is in record { oid = x.oid; ask = x.ask; answer = x.answer; tells = told_still k t.number trace ys (told.Asked x.oid x.ask s x.answer) x.tells };
  }
