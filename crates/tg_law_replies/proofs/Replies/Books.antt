-- What a transaction that is open has put and asked, by the trace.
use Rattle.std.proofs.Common.{◌≡◌, ◌⊎◌, ℕ, ◌<◌, List, [], ◌∷◌, ◌++◌, map, Bool, true, false, refl, sym, ap, ◌∙◌, subst, inl, inr, arith, Option, Some, None}
use Rattle.std.specs.Prelude.{if◌then◌else◌, ◌&&◌, ◌==◌}
use Rattle.std.specs.Cmp.Lexicographic.{bytes_decides}
use Rattle.tg_base.specs.declared.ids.Oid.{Oid}
use Rattle.tg_base.specs.declared.marks.Part.{Part}
use Rattle.tg_base.specs.declared.marks.Part.TheVariants.{All, Text, Num}
use Rattle.tg_base.specs.declared.marks.ReadMark.{ReadMark}
use Rattle.tg_entry.specs.declared.entry.WriteOp.{WriteOp}
use Rattle.tg_kind.specs.Meaning.{Meaning}
use Rattle.tg_model.specs.declared.trace.What.TheVariants as told
use Rattle.tg_model.specs.Kinds.{WhatOf, MarkOf, NoteOf}
use Rattle.tg_model.specs.Traces.{Trace, Tells, put_of, puts_of}
use Rattle.tg_kind.specs.Parts.{part_eq}
use Rattle.tg_base.specs.Orders.{oid_eq}
use Rattle.tg_protocol.specs.Views.{Entries}
use Rattle.tg_protocol.specs.Logs.{op_if, ops_of}
use Rattle.tg_protocol.specs.Transactions.{Tx, same_part, read_before, with_read, tx_read, tx_put}
use Rattle.tg_protocol.specs.Clients.{write_of}
use Rattle.tg_law_replies.specs.History.Logs.{version_below, AreOps}
use Rattle.tg_law_replies.proofs.History.Members.{Has, has_contained, contained_has, same_number, same_oid, and_both, has_left, has_right, has_image, has_either}

-- Parts.

same_part_is : (a b : Part) → part_eq a b ≡ true → a ≡ b
same_part_is All All e = refl
same_part_is All (Text t) e = absurd cc
same_part_is All (Num n) e = absurd cc
same_part_is (Text s) All e = absurd cc
same_part_is (Text s) (Text t) e = ap Text ((bytes_decides s t).0 e)
same_part_is (Text s) (Num n) e = absurd cc
same_part_is (Num i) All e = absurd cc
same_part_is (Num i) (Text t) e = absurd cc
same_part_is (Num i) (Num n) e = ap Num (same_number i n e)

-- Reads.

-- one more read stands among them, and the others stay
with_old : (r : ReadMark) (rs : List ReadMark) (x : ReadMark) → Has rs x → Has (with_read r rs) x
with_old r [] x i = absurd i
with_old r (y ∷ rs) x i = by (read_before r y) (same_part y.oid y.part r) i (λ j. with_old r rs x j)
  where
    by : (b c : Bool) → Has (y ∷ rs) x → (Has rs x → Has (with_read r rs) x) → Has (if b then r ∷ y ∷ rs else (if c then y ∷ rs else y ∷ with_read r rs)) x
    by true c j rest = inr j
    by false true j rest = j
    by false false (inl e) rest = inl e
    by false false (inr j) rest = inr (rest j)

with_new : (r : ReadMark) (rs : List ReadMark) → ((x : ReadMark) → Has rs x → x.oid ≡ r.oid → x.part ≡ r.part → x ≡ r) → Has (with_read r rs) r
with_new r [] one = inl refl
with_new r (y ∷ rs) one = by (read_before r y) (same_part y.oid y.part r) refl (with_new r rs (λ x i. one x (inr i)))
  where
    by : (b c : Bool) → same_part y.oid y.part r ≡ c → Has (with_read r rs) r → Has (if b then r ∷ y ∷ rs else (if c then y ∷ rs else y ∷ with_read r rs)) r
    by true c e rest = inl refl
    by false true e rest = let p = and_both (oid_eq r.oid y.oid) (part_eq r.part y.part) e in inl (sym (one y (inl refl) (sym (same_oid r.oid y.oid p.0)) (sym (same_part_is r.part y.part p.1))))
    by false false e rest = inr rest

with_only : (r : ReadMark) (rs : List ReadMark) (x : ReadMark) → Has (with_read r rs) x → (x ≡ r) ⊎ Has rs x
with_only r [] x (inl e) = inl e
with_only r [] x (inr i) = absurd i
with_only r (y ∷ rs) x i = by (read_before r y) (same_part y.oid y.part r) i (λ j. with_only r rs x j)
  where
    by : (b c : Bool) → Has (if b then r ∷ y ∷ rs else (if c then y ∷ rs else y ∷ with_read r rs)) x → (Has (with_read r rs) x → (x ≡ r) ⊎ Has rs x) → (x ≡ r) ⊎ Has (y ∷ rs) x
    by true c (inl e) rest = inl e
    by true c (inr j) rest = inr j
    by false true j rest = inr j
    by false false (inl e) rest = inr (inl e)
    by false false (inr j) rest = more (rest j)
      where
        more : (x ≡ r) ⊎ Has rs x → (x ≡ r) ⊎ Has (y ∷ rs) x
        more (inl e) = inl e
        more (inr k) = inr (inr k)

module _ (m : Meaning) where
  -- Puts.

  put_more : (k x client tx : ℕ) (w : WhatOf m) (us vs : List (Oid × m.op)) → put_of m k x client tx w (us ++ vs) ≡ put_of m k x client tx w us ++ vs
  put_more k x client tx (told.Put o op) us vs = by ((k == client) && (x == tx))
    where
      by : (b : Bool) → (if b then (o, op) ∷ (us ++ vs) else us ++ vs) ≡ (if b then (o, op) ∷ us else us) ++ vs
      by true = refl
      by false = refl
  put_more k x client tx w us vs = refl

  pub puts_more : (xs ys : Trace m) (k x : ℕ) → puts_of m (xs ++ ys) k x ≡ puts_of m xs k x ++ puts_of m ys k x
  unfolding puts_of
  puts_more [] ys k x = refl
  puts_more (t ∷ xs) ys k x = ap (λ (us : List (Oid × m.op)). put_of m k x t.client t.tx t.what us) (puts_more xs ys k x) ∙ put_more k x t.client t.tx t.what (puts_of m xs k x) (puts_of m ys k x)

  ops_more : (us vs : List WriteOp) → ops_of m (us ++ vs) ≡ ops_of m us ++ ops_of m vs
  ops_more [] vs = refl
  ops_more (w ∷ us) vs = ap (λ (os : List (Oid × m.op)). op_if m w.oid (m.read w.oid w.op) os) (ops_more us vs) ∙ by (m.read w.oid w.op)
    where
      by : (op : Option m.op) → op_if m w.oid op (ops_of m us ++ ops_of m vs) ≡ op_if m w.oid op (ops_of m us) ++ ops_of m vs
      by None = refl
      by (Some op) = refl

  -- a note's mark
  abbrev pub mark : ℕ → ℕ → NoteOf m → MarkOf m
  mark event k n = record { event = event; client = k; tx = n.tx; what = n.what }

  -- neither an op that is put nor an answer to an ask
  abbrev pub IsPlain : WhatOf m → Type 0
  IsPlain (told.Put o op) = ⊥
  IsPlain (told.Asked o q t a) = ⊥
  IsPlain w = Unit {0}

  abbrev pub ArePlain : List (NoteOf m) → Type 0
  ArePlain ns = (n : NoteOf m) → Has ns n → IsPlain n.what

  no_puts : (event k x : ℕ) (ns : List (NoteOf m)) → ArePlain ns → puts_of m (map (mark event k) ns) k x ≡ []
  unfolding puts_of
  no_puts event k x [] h = refl
  no_puts event k x (n ∷ ns) h = by n.what (h n (inl refl)) (no_puts event k x ns (λ j i. h j (inr i)))
    where
      by : (w : WhatOf m) → IsPlain w → puts_of m (map (mark event k) ns) k x ≡ [] → put_of m k x k n.tx w (puts_of m (map (mark event k) ns) k x) ≡ []
      by (told.Put o op) p rest = absurd p
      by w p rest = rest

  -- something was answered at a snapshot
  pub record AskedAt (trace : Trace m) (k x s : ℕ) : Type 0 where
    pub oid : Oid
    pub ask : m.ask
    pub answer : m.answer
    pub tells : Tells m trace k x (told.Asked oid ask s answer)

  module _ (objects : List Oid) (es : Entries) (k : ℕ) where
    -- an open transaction: its writes are the ops that it put, and its reads are what it asked, at one snapshot
    pub record IsOpen (trace : Trace m) (t : Tx) : Type 0 where
      pub puts : ops_of m t.writes ≡ puts_of m trace k t.number
      pub snap : (o : Oid) (q : m.ask) (s : ℕ) (a : m.answer) → Tells m trace k t.number (told.Asked o q s a) → t.snapshot ≡ Some s
      pub asks : (o : Oid) (q : m.ask) (s : ℕ) (a : m.answer) → Tells m trace k t.number (told.Asked o q s a)
          → Has t.reads (record { oid = o; part = m.look q; version = version_below m objects es s o (m.look q) })
      pub reads : (r : ReadMark) → Has t.reads r
          → (s : ℕ) × (q : m.ask) × (a : m.answer) × (t.snapshot ≡ Some s) × Tells m trace k t.number (told.Asked r.oid q s a) × (m.look q ≡ r.part) × (r.version ≡ version_below m objects es s r.oid r.part)
      pub ops : AreOps m t.writes
      pub asked : (s : ℕ) → t.snapshot ≡ Some s → AskedAt trace k t.number s

  module _ (objects : List Oid) (es : Entries) (k event : ℕ) where
    tells_more : (xs ys : Trace m) (x : ℕ) (w : WhatOf m) → Tells m xs k x w → Tells m (xs ++ ys) k x w
    tells_more xs ys x w h = record { number = h.number; event = h.event; here = contained_has (xs ++ ys) _ (has_left xs ys _ (has_contained xs _ h.here)) }

    -- a transaction tells something in the trace, or in these notes
    tells_either : (trace : Trace m) (ns : List (NoteOf m)) (x : ℕ) (w : WhatOf m) → Tells m (trace ++ map (mark event k) ns) k x w → Tells m trace k x w ⊎ ((n : NoteOf m) × Has ns n × (n.what ≡ w) × (n.tx ≡ x))
    tells_either trace ns x w h = by (has_either trace (map (mark event k) ns) (record { event = h.event; client = k; tx = x; what = w }) (has_contained (trace ++ map (mark event k) ns) _ h.here))
      where
        by : Has trace (record { event = h.event; client = k; tx = x; what = w }) ⊎ Has (map (mark event k) ns) (record { event = h.event; client = k; tx = x; what = w })
            → Tells m trace k x w ⊎ ((n : NoteOf m) × Has ns n × (n.what ≡ w) × (n.tx ≡ x))
        by (inl i) = inl (record { number = h.number; event = h.event; here = contained_has trace _ i })
        by (inr i) =
            let r = has_image (mark event k) ns (record { event = h.event; client = k; tx = x; what = w }) i in
            inr (r.0, r.1, sym (ap (λ (y : MarkOf m). y.what) r.2), sym (ap (λ (y : MarkOf m). y.tx) r.2))

    asked_more : (xs ys : Trace m) (x s : ℕ) → AskedAt xs k x s → AskedAt (xs ++ ys) k x s
    asked_more xs ys x s h = record { oid = h.oid; ask = h.ask; answer = h.answer; tells = tells_more xs ys x (told.Asked h.oid h.ask s h.answer) h.tells }

    nil_right : (us : List (Oid × m.op)) → us ++ [] ≡ us
    nil_right [] = refl
    nil_right (u ∷ us) = ap (λ (vs : List (Oid × m.op)). u ∷ vs) (nil_right us)

    -- plain notes leave it as it is
    pub plain_open : (trace : Trace m) (ns : List (NoteOf m)) (t : Tx) → ArePlain ns → IsOpen objects es k trace t → IsOpen objects es k (trace ++ map (mark event k) ns) t
    plain_open trace ns t plain h = record {
      puts = h.puts ∙ sym (puts_more trace (map (mark event k) ns) k t.number
          ∙ (ap (λ (vs : List (Oid × m.op)). puts_of m trace k t.number ++ vs) (no_puts event k t.number ns plain) ∙ nil_right (puts_of m trace k t.number)));
      snap = λ o q s a i. h.snap o q s a (old o q s a (tells_either trace ns t.number (told.Asked o q s a) i));
      asks = λ o q s a i. h.asks o q s a (old o q s a (tells_either trace ns t.number (told.Asked o q s a) i));
      reads = λ r i. let x = h.reads r i in (x.0, x.1, x.2, x.3, tells_more trace (map (mark event k) ns) t.number (told.Asked r.oid x.1 x.0 x.2) x.4, x.5, x.6);
      ops = h.ops;
      asked = λ s is. asked_more trace (map (mark event k) ns) t.number s (h.asked s is);
    }
      where
        old : (o : Oid) (q : m.ask) (s : ℕ) (a : m.answer) → Tells m trace k t.number (told.Asked o q s a) ⊎ ((n : NoteOf m) × Has ns n × (n.what ≡ told.Asked o q s a) × (n.tx ≡ t.number))
            → Tells m trace k t.number (told.Asked o q s a)
        old o q s a (inl i) = i
        old o q s a (inr n) = absurd (subst (λ (w : WhatOf m). IsPlain w) n.2 (plain n.0 n.1))

    -- an op that is put
    pub put_open : (trace : Trace m) (t : Tx) (o : Oid) (op : m.op) → m.read o (m.spell op) ≡ Some op → IsOpen objects es k trace t
        → IsOpen objects es k (trace ++ map (mark event k) (record { tx = t.number; what = told.Put o op } ∷ [])) (tx_put t (write_of m o op))
    unfolding puts_of
    put_open trace t o op spelled h = record {
      puts = ops_more t.writes (write_of m o op ∷ [])
          ∙ (ap (λ (us : List (Oid × m.op)). us ++ ops_of m (write_of m o op ∷ [])) h.puts
          ∙ (ap (λ (x : Option m.op). puts_of m trace k t.number ++ op_if m o x []) spelled
          ∙ (ap (λ (b : Bool). puts_of m trace k t.number ++ (if b then (o, op) ∷ [] else [])) (sym itself)
          ∙ sym (puts_more trace (record { event = event; client = k; tx = t.number; what = told.Put o op } ∷ []) k t.number))));
      snap = λ p q s a i. h.snap p q s a (old p q s a (tells_either trace (record { tx = t.number; what = told.Put o op } ∷ []) t.number (told.Asked p q s a) i));
      asks = λ p q s a i. h.asks p q s a (old p q s a (tells_either trace (record { tx = t.number; what = told.Put o op } ∷ []) t.number (told.Asked p q s a) i));
      reads = λ r i. let x = h.reads r i in
          (x.0, x.1, x.2, x.3, tells_more trace (map (mark event k) (record { tx = t.number; what = told.Put o op } ∷ [])) t.number (told.Asked r.oid x.1 x.0 x.2) x.4, x.5, x.6);
      ops = λ w i. one_of w (has_either t.writes (write_of m o op ∷ []) w (has_contained (t.writes ++ write_of m o op ∷ []) w i));
      asked = λ s is. asked_more trace (map (mark event k) (record { tx = t.number; what = told.Put o op } ∷ [])) t.number s (h.asked s is);
    }
      where
        one_of : (w : WriteOp) → Has t.writes w ⊎ Has (write_of m o op ∷ []) w → (x : m.op) × (m.read w.oid w.op ≡ Some x)
        one_of w (inl i) = h.ops w (contained_has t.writes w i)
        one_of w (inr (inl e)) = subst (λ (v : WriteOp). (x : m.op) × (m.read v.oid v.op ≡ Some x)) (sym e) (op, spelled)
        one_of w (inr (inr i)) = absurd i

        itself : ((k == k) && (t.number == t.number)) ≡ true
        itself = grind arith

        no : (p : Oid) (q : m.ask) (s : ℕ) (a : m.answer) → told.Put o op ≡ told.Asked p q s a → ⊥
        no p q s a e = cc

        old : (p : Oid) (q : m.ask) (s : ℕ) (a : m.answer)
            → Tells m trace k t.number (told.Asked p q s a) ⊎ ((n : NoteOf m) × Has (record { tx = t.number; what = told.Put o op } ∷ []) n × (n.what ≡ told.Asked p q s a) × (n.tx ≡ t.number))
            → Tells m trace k t.number (told.Asked p q s a)
        old p q s a (inl i) = i
        old p q s a (inr (n, inl e, is, x)) = absurd (no p q s a (ap (λ (y : NoteOf m). y.what) (sym e) ∙ is))
        old p q s a (inr (n, inr i, is, x)) = absurd i

    abbrev SnapIs : ℕ → WhatOf m → Type 0
    SnapIs s (told.Asked p u x b) = Some s ≡ Some x
    SnapIs s w = Unit {0}

    abbrev AsksIs : List ReadMark → WhatOf m → Type 0
    AsksIs rs (told.Asked p u x b) = Has rs (record { oid = p; part = m.look u; version = version_below m objects es x p (m.look u) })
    AsksIs rs w = Unit {0}

    abbrev ReadsIs : Trace m → Tx → ℕ → ReadMark → Type 0
    ReadsIs trace t s r =
        (x : ℕ) × (q : m.ask) × (a : m.answer) × (Some s ≡ Some x) × Tells m trace k t.number (told.Asked r.oid q x a) × (m.look q ≡ r.part) × (r.version ≡ version_below m objects es x r.oid r.part)

    -- an answer to an ask, at the snapshot of those before
    pub ask_open : (trace : Trace m) (t : Tx) (o : Oid) (q : m.ask) (s : ℕ) (a : m.answer) → 0 < t.number → (t.snapshot ≡ None) ⊎ (t.snapshot ≡ Some s) → IsOpen objects es k trace t
        → IsOpen objects es k (trace ++ map (mark event k) (record { tx = t.number; what = told.Asked o q s a } ∷ []))
        (tx_read t (record { oid = o; part = m.look q; version = version_below m objects es s o (m.look q) }) s)
    unfolding puts_of
    ask_open trace t o q s a positive first h = record {
      puts = h.puts ∙ sym (puts_more trace (record { event = event; client = k; tx = t.number; what = told.Asked o q s a } ∷ []) k t.number ∙ nil_right (puts_of m trace k t.number));
      snap = λ p u x b i. snap_by p u x b (tells_either trace (record { tx = t.number; what = told.Asked o q s a } ∷ []) t.number (told.Asked p u x b) i);
      asks = λ p u x b i. asks_by p u x b (tells_either trace (record { tx = t.number; what = told.Asked o q s a } ∷ []) t.number (told.Asked p u x b) i);
      reads = λ x i. reads_by x (with_only (record { oid = o; part = m.look q; version = version_below m objects es s o (m.look q) }) t.reads x i);
      ops = h.ops;
      asked = λ x is. record { oid = o; ask = q; answer = a; tells = subst (λ (n : ℕ). Tells m (trace ++ record { event = event; client = k; tx = t.number; what = told.Asked o q s a } ∷ []) k t.number (told.Asked o q n a)) (one s x is) tells_new };
    }
      where
        one : (x y : ℕ) → Some x ≡ Some y → x ≡ y
        one x y e = cc

        none : (x : ℕ) → None ≡ Some x → ⊥
        none x e = cc

        -- what was read before was read at this snapshot
        same_snap : (x : ℕ) → (t.snapshot ≡ None) ⊎ (t.snapshot ≡ Some s) → t.snapshot ≡ Some x → s ≡ x
        same_snap x (inl n) e = absurd (none x (sym n ∙ e))
        same_snap x (inr y) e = one s x (sym y ∙ e)

        told_now : (F : WhatOf m → Type 0) (w : WhatOf m) (n : NoteOf m) → n ≡ record { tx = t.number; what = told.Asked o q s a } → n.what ≡ w → F (told.Asked o q s a) → F w
        told_now F w n e is g = subst F (ap (λ (y : NoteOf m). y.what) (sym e) ∙ is) g

        snap_by : (p : Oid) (u : m.ask) (x : ℕ) (b : m.answer)
            → Tells m trace k t.number (told.Asked p u x b) ⊎ ((n : NoteOf m) × Has (record { tx = t.number; what = told.Asked o q s a } ∷ []) n × (n.what ≡ told.Asked p u x b) × (n.tx ≡ t.number)) → Some s ≡ Some x
        snap_by p u x b (inl i) = ap (λ (n : ℕ). Some n) (same_snap x first (h.snap p u x b i))
        snap_by p u x b (inr (n, inl e, is, y)) = told_now (SnapIs s) (told.Asked p u x b) n e is refl
        snap_by p u x b (inr (n, inr i, is, y)) = absurd i

        -- the same part was read with the same version
        once : (x : ReadMark) → Has t.reads x → x.oid ≡ o → x.part ≡ m.look q → x ≡ record { oid = o; part = m.look q; version = version_below m objects es s o (m.look q) }
        once x i d e =
            let r = h.reads x i in
            let at = same_snap r.0 first r.3 in
            let v : x.version ≡ version_below m objects es s o (m.look q) =
            r.6 ∙ (ap (λ (n : ℕ). version_below m objects es n x.oid x.part) (sym at)
            ∙ (ap (λ (y : Oid). version_below m objects es s y x.part) d ∙ ap (λ (y : Part). version_below m objects es s o y) e)) in
            λ j. record { oid = d j; part = e j; version = v j }

        asks_by : (p : Oid) (u : m.ask) (x : ℕ) (b : m.answer)
            → Tells m trace k t.number (told.Asked p u x b) ⊎ ((n : NoteOf m) × Has (record { tx = t.number; what = told.Asked o q s a } ∷ []) n × (n.what ≡ told.Asked p u x b) × (n.tx ≡ t.number))
            → Has (with_read (record { oid = o; part = m.look q; version = version_below m objects es s o (m.look q) }) t.reads) (record { oid = p; part = m.look u; version = version_below m objects es x p (m.look u) })
        asks_by p u x b (inl i) =
            with_old (record { oid = o; part = m.look q; version = version_below m objects es s o (m.look q) }) t.reads (record { oid = p; part = m.look u; version = version_below m objects es x p (m.look u) }) (h.asks p u x b i)
        asks_by p u x b (inr (n, inl e, is, y)) =
            told_now (AsksIs (with_read (record { oid = o; part = m.look q; version = version_below m objects es s o (m.look q) }) t.reads)) (told.Asked p u x b) n e is
            (with_new (record { oid = o; part = m.look q; version = version_below m objects es s o (m.look q) }) t.reads once)
        asks_by p u x b (inr (n, inr i, is, y)) = absurd i

        tells_new : Tells m (trace ++ record { event = event; client = k; tx = t.number; what = told.Asked o q s a } ∷ []) k t.number (told.Asked o q s a)
        tells_new = record {
          number = positive;
          event = event;
          here = contained_has (trace ++ record { event = event; client = k; tx = t.number; what = told.Asked o q s a } ∷ []) (record { event = event; client = k; tx = t.number; what = told.Asked o q s a })
              (has_right trace (record { event = event; client = k; tx = t.number; what = told.Asked o q s a } ∷ []) (record { event = event; client = k; tx = t.number; what = told.Asked o q s a }) (inl refl));
        }

        reads_by : (x : ReadMark) → (x ≡ record { oid = o; part = m.look q; version = version_below m objects es s o (m.look q) }) ⊎ Has t.reads x
            → ReadsIs (trace ++ record { event = event; client = k; tx = t.number; what = told.Asked o q s a } ∷ []) t s x
        reads_by x (inl e) =
            subst (λ (y : ReadMark). ReadsIs (trace ++ record { event = event; client = k; tx = t.number; what = told.Asked o q s a } ∷ []) t s y) (sym e) (s, q, a, refl, tells_new, refl, refl)
        reads_by x (inr i) =
            let r = h.reads x i in (
              r.0,
              r.1,
              r.2,
              ap (λ (n : ℕ). Some n) (same_snap r.0 first r.3),
              tells_more trace (record { event = event; client = k; tx = t.number; what = told.Asked o q s a } ∷ []) t.number (told.Asked x.oid r.1 r.0 r.2) r.4,
              r.5,
              r.6,
            )
