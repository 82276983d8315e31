-- What a transaction wrote, reply by reply.
use Rattle.std.proofs.Common.{◌≡◌, ℕ, suc, ◌+◌, ◌<◌, ◌≤◌, cond, List, [], ◌∷◌, Bool, true, false, refl, sym, ap, ◌∙◌, length, get_or, drop, arith}
use Rattle.std.specs.Prelude.{◌&&◌, ◌||◌, ◌==◌, filter, Option, Some, None, if◌then◌else◌}
use Rattle.std.specs.Borrow.{Bor}
use Rattle.std.specs.List.{list_any}
use Rattle.std.proofs.lemmas.Bool.Decides.{nat_tests}
use Rattle.tg_base.specs.declared.ids.Oid.{Oid}
use Rattle.tg_kind.specs.Meaning.{Meaning}
use Rattle.tg_model.specs.declared.trace.What.TheVariants as told
use Rattle.tg_model.specs.Kinds.{WhatOf, MarkOf}
use Rattle.tg_model.specs.Traces.{Trace, put_of, puts_of, has_items}
use Rattle.tg_audit.proofs.Lists.{rest_next, rest_none}
use Rattle.tg_audit.specs.Judging.{is_of, is_put, puts_by, are_same, after_put, left_is}

same_order : (a b : ℕ) → (a == b) ≡ (b == a)
same_order a b = grind (arith, nat_tests)

not_none : (n : ℕ) → (suc n == 0) ≡ false
not_none n = grind (arith, nat_tests)

module _ (m : Meaning) where
  -- whether a reply is of a transaction, as `put_of` asks
  abbrev of_it : ℕ → ℕ → MarkOf m → Bool
  of_it k x t = (k == t.client) && (x == t.tx)

  of_order : (k x : ℕ) (t : MarkOf m) → of_it k x t ≡ is_of m k x t
  of_order k x t = ap (λ b. b && (x == t.tx)) (same_order k t.client) ∙ ap (λ b. (t.client == k) && b) (same_order x t.tx)

  abbrev put_if : Bool → WhatOf m → List (Oid × m.op) → List (Oid × m.op)
  put_if b (told.Put o op) ws = if b then (o, op) ∷ ws else ws
  put_if b _ ws = ws

  put_is : (k x client tx : ℕ) (w : WhatOf m) (ws : List (Oid × m.op)) → put_of m k x client tx w ws ≡ put_if ((k == client) && (x == tx)) w ws
  put_is k x client tx w ws = grind arith

  put_none : (w : WhatOf m) (ws : List (Oid × m.op)) → put_if false w ws ≡ ws
  put_none w ws = grind arith

  some_if : (b : Bool) (w : WhatOf m) (ws : List (Oid × m.op)) → has_items m (put_if b w ws) ≡ ((b && is_put m w) || has_items m ws)
  some_if true w ws = grind arith
  some_if false w ws = ap (λ (vs : List (Oid × m.op)). has_items m vs) (put_none w ws)

  -- a transaction wrote where a reply tells so
  pub some_puts : (k x : ℕ) (ts : Trace m) → list_any (puts_by m k x) ts ≡ has_items m (puts_of m ts k x)
  unfolding puts_of
  some_puts k x [] = refl
  some_puts k x (t ∷ ts) =
      ap (λ b. puts_by m k x t || b) (some_puts k x ts)
      ∙ sym (some_if (is_of m k x t) t.what (puts_of m ts k x))
      ∙ ap (λ b. has_items m (put_if b t.what (puts_of m ts k x))) (sym (of_order k x t))
      ∙ ap (λ (vs : List (Oid × m.op)). has_items m vs) (sym (put_is k x t.client t.tx t.what (puts_of m ts k x)))

  -- the writes of a transaction after a reply of another
  pub puts_other : (k x : ℕ) (t : MarkOf m) (ts : Trace m) → is_of m k x t ≡ false → puts_of m (t ∷ ts) k x ≡ puts_of m ts k x
  unfolding puts_of
  puts_other k x t ts e =
      put_is k x t.client t.tx t.what (puts_of m ts k x)
      ∙ ap (λ b. put_if b t.what (puts_of m ts k x)) (of_order k x t ∙ e)
      ∙ put_none t.what (puts_of m ts k x)

  puts_own : (k x : ℕ) (t : MarkOf m) (ts : Trace m) → is_of m k x t ≡ true → puts_of m (t ∷ ts) k x ≡ put_if true t.what (puts_of m ts k x)
  unfolding puts_of
  puts_own k x t ts e =
      put_is k x t.client t.tx t.what (puts_of m ts k x)
      ∙ ap (λ b. put_if b t.what (puts_of m ts k x)) (of_order k x t ∙ e)

  puts_step : (k x : ℕ) (t : MarkOf m) (ts us : Trace m) (b : Bool) → is_of m k x t ≡ b → puts_of m ts k x ≡ puts_of m us k x → puts_of m (t ∷ ts) k x ≡ puts_of m (cond b (t ∷ us) us) k x
  puts_step k x t ts us true e rest = puts_own k x t ts e ∙ ap (put_if true t.what) rest ∙ sym (puts_own k x t us e)
  puts_step k x t ts us false e rest = puts_other k x t ts e ∙ rest

  puts_kept : (k x : ℕ) (ts : Trace m) → puts_of m ts k x ≡ puts_of m (filter (is_of m k x) ts) k x
  puts_kept k x [] = refl
  puts_kept k x (t ∷ ts) = puts_step k x t ts (filter (is_of m k x) ts) (is_of m k x t) refl (puts_kept k x ts)

  -- the writes of a transaction are those that its own replies tell
  pub puts_alike : (k x : ℕ) (ts us : Trace m) → filter (is_of m k x) ts ≡ filter (is_of m k x) us → puts_of m ts k x ≡ puts_of m us k x
  puts_alike k x ts us same = puts_kept k x ts ∙ ap (λ (vs : Trace m). puts_of m vs k x) same ∙ sym (puts_kept k x us)

  abbrev same_from : (m.op → m.op → Bool) → Option (List (Oid × m.op)) → List (Oid × m.op) → Bool
  same_from ops None ws = false
  same_from ops (Some vs) ws = are_same m ops vs ws

  after_is : (ops : m.op → m.op → Bool) (vs : List (Oid × m.op)) (w : WhatOf m) (ws : List (Oid × m.op)) → are_same m ops vs (put_if true w ws) ≡ same_from ops (after_put m ops vs w) ws
  after_is ops [] w ws = grind arith
  after_is ops (v ∷ vs) w ws = grind arith

  -- what is left after a reply of the transaction is to be its later writes
  pub puts_next : (ops : m.op → m.op → Bool) (vs : List (Oid × m.op)) (k x : ℕ) (t : MarkOf m) (ts : Trace m) (o : Option (List (Oid × m.op)))
      → is_of m k x t ≡ true → after_put m ops vs t.what ≡ o → are_same m ops vs (puts_of m (t ∷ ts) k x) ≡ same_from ops o (puts_of m ts k x)
  puts_next ops vs k x t ts o own e =
      ap (λ (ws : List (Oid × m.op)). are_same m ops vs ws) (puts_own k x t ts own)
      ∙ after_is ops vs t.what (puts_of m ts k x)
      ∙ ap (λ (p : Option (List (Oid × m.op))). same_from ops p (puts_of m ts k x)) e

  -- what a slice tells

  left_none : (o : Option (List (Oid × m.op))) (r : Option (Bor (List (Oid × m.op)))) → left_is m o r → r ≡ None → o ≡ None
  left_none None r h e = refl
  left_none (Some vs) None h e = absurd h
  left_none (Some vs) (Some s) h e = absurd cc

  left_some : (o : Option (List (Oid × m.op))) (r : Option (Bor (List (Oid × m.op)))) (s : Bor (List (Oid × m.op))) → left_is m o r → r ≡ Some s → o ≡ Some s.now
  left_some None None s h e = absurd cc
  left_some None (Some t) s h e = absurd h
  left_some (Some vs) None s h e = absurd h
  left_some (Some vs) (Some t) s h e =
      let same : t ≡ s = some_same e in
      ap (λ (ws : List (Oid × m.op)). Some ws) (sym h ∙ ap (λ (u : Bor (List (Oid × m.op))). u.now) same)
    where
      some_same : Some t ≡ Some s → t ≡ s
      some_same f = cc

  -- One reply further, and none more.

  abbrev Same : (m.op → m.op → Bool) → List (Oid × m.op) → ℕ → ℕ → Trace m → Bool
  Same ops vs k x ts = are_same m ops vs (puts_of m ts k x)

  pub same_other : (ops : m.op → m.op → Bool) (vs : List (Oid × m.op)) (k x : ℕ) (ts : Trace m) (n : ℕ) (t : MarkOf m) (y : Bool) → n < length ts → t ≡ get_or ts n t
      → is_of m k x t ≡ false → Same ops vs k x (drop n ts) ≡ y → Same ops vs k x (drop (n + 1) ts) ≡ y
  same_other ops vs k x ts n t y h e other so_far =
      ap (λ (ws : List (Oid × m.op)). are_same m ops vs ws) (sym (puts_other k x t (drop (n + 1) ts) other))
      ∙ rest_next (Same ops vs k x) ts n t y h e so_far

  pub same_own : (ops : m.op → m.op → Bool) (vs : List (Oid × m.op)) (k x : ℕ) (ts : Trace m) (n : ℕ) (t : MarkOf m) (y : Bool) (r : Option (Bor (List (Oid × m.op)))) (s : Bor (List (Oid × m.op)))
      → n < length ts → t ≡ get_or ts n t → is_of m k x t ≡ true → left_is m (after_put m ops vs t.what) r → r ≡ Some s
      → Same ops vs k x (drop n ts) ≡ y → Same ops s.now k x (drop (n + 1) ts) ≡ y
  same_own ops vs k x ts n t y r s h e own left is so_far =
      sym (puts_next ops vs k x t (drop (n + 1) ts) (Some s.now) own (left_some (after_put m ops vs t.what) r s left is))
      ∙ rest_next (Same ops vs k x) ts n t y h e so_far

  pub same_not : (ops : m.op → m.op → Bool) (vs : List (Oid × m.op)) (k x : ℕ) (ts : Trace m) (n : ℕ) (t : MarkOf m) (y : Bool) (r : Option (Bor (List (Oid × m.op))))
      → n < length ts → t ≡ get_or ts n t → is_of m k x t ≡ true → left_is m (after_put m ops vs t.what) r → r ≡ None
      → Same ops vs k x (drop n ts) ≡ y → false ≡ y
  same_not ops vs k x ts n t y r h e own left is so_far =
      sym (puts_next ops vs k x t (drop (n + 1) ts) None own (left_none (after_put m ops vs t.what) r left is))
      ∙ rest_next (Same ops vs k x) ts n t y h e so_far

  none_left : (ops : m.op → m.op → Bool) (vs : List (Oid × m.op)) → (length vs == 0) ≡ are_same m ops vs []
  none_left ops [] = refl
  none_left ops (v ∷ vs) = not_none (length vs)

  pub same_all : (ops : m.op → m.op → Bool) (vs : List (Oid × m.op)) (k x : ℕ) (ts : Trace m) (n : ℕ) (y b : Bool) → length ts ≤ n → b ≡ (length vs == 0)
      → Same ops vs k x (drop n ts) ≡ y → b ≡ y
  unfolding puts_of
  same_all ops vs k x ts n y b h e so_far = e ∙ none_left ops vs ∙ rest_none (Same ops vs k x) ts n y h so_far
