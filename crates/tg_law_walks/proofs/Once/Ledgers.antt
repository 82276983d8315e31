-- What a transaction has put and asked, by the trace, and what an open one writes and reads.
use Rattle.std.proofs.Common.{◌≡◌, ◌⊎◌, ℕ, ◌<◌, List, [], ◌∷◌, ◌++◌, map, Bool, true, false, refl, sym, ap, ◌∙◌, subst, inl, inr, arith}
use Rattle.std.proofs.lemmas.List.{map-append}
use Rattle.std.specs.Prelude.{if◌then◌else◌, ◌&&◌, ◌==◌}
use Rattle.tg_base.specs.declared.ids.Oid.{Oid}
use Rattle.tg_base.specs.declared.marks.Part.{Part}
use Rattle.tg_base.specs.declared.marks.ReadMark.{ReadMark}
use Rattle.tg_entry.specs.declared.entry.WriteOp.{WriteOp}
use Rattle.tg_kind.specs.Meaning.{Meaning}
use Rattle.tg_model.specs.declared.trace.What.TheVariants as told
use Rattle.tg_model.specs.Kinds.{WhatOf, MarkOf}
use Rattle.tg_model.specs.Traces.{Trace, Tells, puts_of}
use Rattle.tg_kind.specs.Parts.{part_eq}
use Rattle.tg_base.specs.Orders.{oid_eq}
use Rattle.tg_protocol.specs.Transactions.{same_part, read_before, with_read}
use Rattle.tg_protocol.specs.Clients.{write_of}
use Rattle.tg_law_replies.proofs.Plays.Parts.{part_same}
use Rattle.tg_law_replies.proofs.History.Members.{Has, has_contained, contained_has, same_oid, and_both, has_either, has_right}
use Rattle.tg_law_replies.proofs.Replies.Books.{puts_more}
use Rattle.tg_law_replies.proofs.Replies.Closed.{LeavesAlone, none_put, puts_stay, told_still, told_before}
use Rattle.tg_law_replies.proofs.Books.Worlds.{nil_right}

-- Reads, with one more.

pub record ReadIn (rs : List ReadMark) (o : Oid) (part : Part) : Type 0 where
  pub read : ReadMark
  pub here : Has rs read
  pub oid : read.oid ≡ o
  pub of_part : read.part ≡ part

first_read : (y : ReadMark) (rs : List ReadMark) → ReadIn (y ∷ rs) y.oid y.part
first_read y rs = record { read = y; here = inl refl; oid = refl; of_part = refl }

more_read : (y : ReadMark) (rs : List ReadMark) (o : Oid) (part : Part) → ReadIn rs o part → ReadIn (y ∷ rs) o part
more_read y rs o part x = record { read = x.read; here = inr x.here; oid = x.oid; of_part = x.of_part }

with_this : (r : ReadMark) (rs : List ReadMark) → ReadIn (with_read r rs) r.oid r.part
with_this r [] = first_read r []
with_this r (y ∷ rs) = by (read_before r y) (same_part y.oid y.part r) refl (with_this r rs)
  where
    by : (b c : Bool) → same_part y.oid y.part r ≡ c → ReadIn (with_read r rs) r.oid r.part → ReadIn (if b then r ∷ y ∷ rs else (if c then y ∷ rs else y ∷ with_read r rs)) r.oid r.part
    by true c e rest = first_read r (y ∷ rs)
    by false true e rest =
        let p = and_both (oid_eq r.oid y.oid) (part_eq r.part y.part) e in
        record { read = y; here = inl refl; oid = sym (same_oid r.oid y.oid p.0); of_part = sym (part_same r.part y.part p.1) }
    by false false e rest = more_read y (with_read r rs) r.oid r.part rest

with_others : (r : ReadMark) (rs : List ReadMark) (o : Oid) (part : Part) → ReadIn rs o part → ReadIn (with_read r rs) o part
with_others r [] o part x = absurd x.here
with_others r (y ∷ rs) o part x = by (read_before r y) (same_part y.oid y.part r) x.here (λ z. with_others r rs o part z)
  where
    by : (b c : Bool) → Has (y ∷ rs) x.read → (ReadIn rs o part → ReadIn (with_read r rs) o part) → ReadIn (if b then r ∷ y ∷ rs else (if c then y ∷ rs else y ∷ with_read r rs)) o part
    by true c i rest = more_read r (y ∷ rs) o part (record { read = x.read; here = i; oid = x.oid; of_part = x.of_part })
    by false true i rest = record { read = x.read; here = i; oid = x.oid; of_part = x.of_part }
    by false false (inl e) rest = record { read = x.read; here = inl e; oid = x.oid; of_part = x.of_part }
    by false false (inr i) rest = more_read y (with_read r rs) o part (rest (record { read = x.read; here = i; oid = x.oid; of_part = x.of_part }))

with_either : (r : ReadMark) (rs : List ReadMark) (x : ReadMark) → Has (with_read r rs) x → (x ≡ r) ⊎ Has rs x
with_either r [] x (inl e) = inl e
with_either r [] x (inr i) = absurd i
with_either r (y ∷ rs) x i = by (read_before r y) (same_part y.oid y.part r) i (λ j. with_either r rs x j)
  where
    more : (x ≡ r) ⊎ Has rs x → (x ≡ r) ⊎ Has (y ∷ rs) x
    more (inl e) = inl e
    more (inr k) = inr (inr k)

    by : (b c : Bool) → Has (if b then r ∷ y ∷ rs else (if c then y ∷ rs else y ∷ with_read r rs)) x → (Has (with_read r rs) x → (x ≡ r) ⊎ Has rs x) → (x ≡ r) ⊎ Has (y ∷ rs) x
    by true c (inl e) rest = inl e
    by true c (inr j) rest = inr j
    by false true j rest = inr j
    by false false (inl e) rest = inr (inl e)
    by false false (inr j) rest = more (rest j)

module _ (m : Meaning) where
  -- a part was asked of
  pub record AskedIn (tr : Trace m) (k x : ℕ) (o : Oid) (part : Part) : Type 0 where
    pub ask : m.ask
    pub at : ℕ
    pub answer : m.answer
    pub asked : Tells m tr k x (told.Asked o ask at answer)
    pub looks : m.look ask ≡ part

  abbrev write_in : Oid × m.op → WriteOp
  write_in u = write_of m u.0 u.1

  -- the reads are of what was asked, and the writes are what was put
  pub record Ledger (tr : Trace m) (k x : ℕ) (rs : List ReadMark) (ws : List WriteOp) : Type 0 where
    pub writes : ws ≡ map (λ (u : Oid × m.op). write_of m u.0 u.1) (puts_of m tr k x)
    pub asked : (r : ReadMark) → Has rs r → AskedIn tr k x r.oid r.part
    pub read : (o : Oid) (q : m.ask) (s : ℕ) (a : m.answer) → Tells m tr k x (told.Asked o q s a) → ReadIn rs o (m.look q)

  module _ (k x : ℕ) where
    more_asked : (tr ys : Trace m) (o : Oid) (part : Part) → AskedIn tr k x o part → AskedIn (tr ++ ys) k x o part
    more_asked tr ys o part y = record { ask = y.ask; at = y.at; answer = y.answer; asked = told_still m [] [] k x tr ys (told.Asked o y.ask y.at y.answer) y.asked; looks = y.looks }

    -- further replies that leave it alone
    pub ledger_stays : (tr ys : Trace m) (rs : List ReadMark) (ws : List WriteOp) → LeavesAlone m [] [] k x ys → Ledger tr k x rs ws → Ledger (tr ++ ys) k x rs ws
    ledger_stays tr ys rs ws alone l = record {
      writes = l.writes ∙ ap (λ (us : List (Oid × m.op)). map (λ (u : Oid × m.op). write_of m u.0 u.1) us) (sym (puts_stay m [] [] k x tr ys alone));
      asked = λ r i. more_asked tr ys r.oid r.part (l.asked r i);
      read = λ o q s a i. l.read o q s a (told_before m [] [] k x tr ys o q s a alone i);
    }

    -- of a number that nothing was told of
    pub new_ledger : (tr : Trace m) → ((u : MarkOf m) → Has tr u → u.client ≡ k → u.tx ≡ x → ⊥) → Ledger tr k x [] []
    new_ledger tr never = record {
      writes = ap (λ (us : List (Oid × m.op)). map (λ (u : Oid × m.op). write_of m u.0 u.1) us) (sym (none_put m [] [] k x tr (λ u i at number. absurd (never u i at number))));
      asked = λ r i. absurd i;
      read = λ o q s a i. absurd (never (record { event = i.event; client = k; tx = x; what = told.Asked o q s a }) (has_contained tr _ i.here) refl refl);
    }

    -- what is told of a trace with one mark more
    told_or : (tr : Trace m) (u : MarkOf m) (what : WhatOf m) → Tells m (tr ++ u ∷ []) k x what → Tells m tr k x what ⊎ (what ≡ u.what)
    told_or tr u what i = by (has_either tr (u ∷ []) (record { event = i.event; client = k; tx = x; what = what }) (has_contained (tr ++ u ∷ []) _ i.here))
      where
        by : Has tr (record { event = i.event; client = k; tx = x; what = what }) ⊎ Has (u ∷ []) (record { event = i.event; client = k; tx = x; what = what }) → Tells m tr k x what ⊎ (what ≡ u.what)
        by (inl j) = inl (record { number = i.number; event = i.event; here = contained_has tr _ j })
        by (inr (inl e)) = inr (ap (λ (y : MarkOf m). y.what) e)
        by (inr (inr j)) = absurd j

    module _ (event : ℕ) (tr : Trace m) (rs : List ReadMark) (ws : List WriteOp) (l : Ledger tr k x rs ws) where
      -- an op is put
      pub put_ledger : (o : Oid) (op : m.op) → Ledger (tr ++ record { event = event; client = k; tx = x; what = told.Put o op } ∷ []) k x rs (ws ++ write_of m o op ∷ [])
      unfolding puts_of
      put_ledger o op = record {
        writes = ap (λ (us : List WriteOp). us ++ write_of m o op ∷ []) l.writes
            ∙ (sym (map-append (λ (u : Oid × m.op). write_of m u.0 u.1) (puts_of m tr k x) ((o, op) ∷ []))
            ∙ ap (λ (us : List (Oid × m.op)). map (λ (u : Oid × m.op). write_of m u.0 u.1) us)
            (ap (λ (b : Bool). puts_of m tr k x ++ (if b then (o, op) ∷ [] else [])) (sym itself) ∙ sym (puts_more m tr (record { event = event; client = k; tx = x; what = told.Put o op } ∷ []) k x)));
        asked = λ r i. more_asked tr (record { event = event; client = k; tx = x; what = told.Put o op } ∷ []) r.oid r.part (l.asked r i);
        read = λ p q s a i. old p q s a (told_or tr (record { event = event; client = k; tx = x; what = told.Put o op }) (told.Asked p q s a) i);
      }
        where
          itself : ((k == k) && (x == x)) ≡ true
          itself = grind arith

          other : (p : Oid) (q : m.ask) (s : ℕ) (a : m.answer) → told.Asked p q s a ≡ told.Put o op → ⊥
          other p q s a e = cc

          old : (p : Oid) (q : m.ask) (s : ℕ) (a : m.answer) → Tells m tr k x (told.Asked p q s a) ⊎ (told.Asked p q s a ≡ told.Put o op) → ReadIn rs p (m.look q)
          old p q s a (inl i) = l.read p q s a i
          old p q s a (inr e) = absurd (other p q s a e)

      -- an ask is answered
      pub ask_ledger : 0 < x → (o : Oid) (q : m.ask) (version s : ℕ) (a : m.answer)
          → Ledger (tr ++ record { event = event; client = k; tx = x; what = told.Asked o q s a } ∷ []) k x (with_read (record { oid = o; part = m.look q; version = version }) rs) ws
      unfolding puts_of
      ask_ledger positive o q version s a = record {
        writes = l.writes ∙ ap (λ (us : List (Oid × m.op)). map (λ (u : Oid × m.op). write_of m u.0 u.1) us)
            (sym (puts_more m tr (record { event = event; client = k; tx = x; what = told.Asked o q s a } ∷ []) k x ∙ nil_right (puts_of m tr k x)));
        asked = λ r i. asked_by r (with_either (record { oid = o; part = m.look q; version = version }) rs r i);
        read = λ p u t b i. read_by p u t b (told.Asked p u t b) refl (told_or tr (record { event = event; client = k; tx = x; what = told.Asked o q s a }) (told.Asked p u t b) i);
      }
        where
          new : AskedIn (tr ++ record { event = event; client = k; tx = x; what = told.Asked o q s a } ∷ []) k x o (m.look q)
          new = record {
            ask = q;
            at = s;
            answer = a;
            asked = record { number = positive; event = event; here = contained_has (tr ++ record { event = event; client = k; tx = x; what = told.Asked o q s a } ∷ []) _ (has_right tr (record { event = event; client = k; tx = x; what = told.Asked o q s a } ∷ []) _ (inl refl)) };
            looks = refl;
          }

          asked_by : (r : ReadMark) → (r ≡ record { oid = o; part = m.look q; version = version }) ⊎ Has rs r → AskedIn (tr ++ record { event = event; client = k; tx = x; what = told.Asked o q s a } ∷ []) k x r.oid r.part
          asked_by r (inl e) = subst (λ (y : ReadMark). AskedIn (tr ++ record { event = event; client = k; tx = x; what = told.Asked o q s a } ∷ []) k x y.oid y.part) (sym e) new
          asked_by r (inr i) = more_asked tr (record { event = event; client = k; tx = x; what = told.Asked o q s a } ∷ []) r.oid r.part (l.asked r i)

          this : (p : Oid) (u : m.ask) (t : ℕ) (b : m.answer) (what : WhatOf m) → what ≡ told.Asked p u t b → what ≡ told.Asked o q s a → (o ≡ p) × (m.look q ≡ m.look u)
          this p u t b what e f = (cc, cc)

          read_by : (p : Oid) (u : m.ask) (t : ℕ) (b : m.answer) (what : WhatOf m) → what ≡ told.Asked p u t b → Tells m tr k x what ⊎ (what ≡ told.Asked o q s a) → ReadIn (with_read (record { oid = o; part = m.look q; version = version }) rs) p (m.look u)
          read_by p u t b what e (inl i) = with_others (record { oid = o; part = m.look q; version = version }) rs p (m.look u) (l.read p u t b (subst (Tells m tr k x) e i))
          read_by p u t b what e (inr f) =
              let y = with_this (record { oid = o; part = m.look q; version = version }) rs in
              record { read = y.read; here = y.here; oid = y.oid ∙ (this p u t b what e f).0; of_part = y.of_part ∙ (this p u t b what e f).1 }
