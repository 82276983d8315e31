-- Each test that a command doesn't pass when it is given is a cause of its refusal.
use Rattle.std.proofs.Common.{◌≡◌, ℕ, suc, ◌+◌, ◌<◌, ◌≤◌, List, [], ◌∷◌, ◌++◌, length, Bool, true, false, refl, sym, ap, ◌∙◌, subst, arith, get_or, zero-add, length-append, Option, Some, None, is_some}
use Rattle.std.specs.Prelude.{not, nat_lt, nat_le, ◌&&◌, ◌||◌, if◌then◌else◌, option_map, find}
use Rattle.std.specs.BTreeSet.{insert_key}
use Rattle.std.specs.List.{position_from}
use Rattle.std.specs.Ordering.{is_eq, match_ordering}
use Rattle.std.specs.declared.cmp.Ordering.{Ordering}
use Rattle.std.specs.declared.cmp.Ordering.TheVariants.{Less, Equal, Greater}
use Rattle.std.proofs.lemmas.List.{get_or_append_left}
use Rattle.tg_base.specs.Layouts.{Layout}
use Rattle.tg_base.specs.Changes.{Changed as Change}
use Rattle.tg_base.specs.declared.change.Join.{Join}
use Rattle.tg_base.specs.declared.fault.Many.{Many}
use Rattle.tg_base.specs.declared.fault.Many.TheVariants as many
use Rattle.tg_base.specs.declared.ids.Oid.{Oid}
use Rattle.tg_base.specs.declared.layout.Range.{Range}
use Rattle.tg_base.specs.declared.marks.ReadMark.{ReadMark}
use Rattle.tg_base.specs.Orders.{oid_eq, oid_lt, with_oid}
use Rattle.tg_entry.specs.declared.entry.WriteOp.{WriteOp}
use Rattle.tg_kind.specs.Meaning.{Meaning}
use Rattle.tg_model.specs.declared.command.Command.TheVariants as cmd
use Rattle.tg_model.specs.declared.refusal.Refusal.{Refusal}
use Rattle.tg_model.specs.declared.refusal.Refusal.TheVariants as cause
use Rattle.tg_model.specs.Kinds.{CommandOf}
use Rattle.tg_model.specs.Stores.{state_at}
use Rattle.tg_proj.specs.declared.fault.ProjFault.{ProjFault}
use Rattle.tg_proj.specs.declared.fault.ProjFault.TheVariants as layout
use Rattle.tg_proj.specs.Places.{no_range, range_at, chain_at}
use Rattle.tg_proj.specs.Next.{kept, joined, next_chain, next_range, next_ranges, opened_at}
use Rattle.tg_proj.specs.Refusals.{is_not_closed, has_no_stripe, stands_there, is_full, join_refusal, return_refusal, is_lost, lost_refusal, early_refusal, opens_too_many, on_test}
use Rattle.tg_proj.specs.Refusals as proj
use Rattle.tg_proj.proofs.Chains.{length-next_ranges, get_or-next_chains, get_or-next_ranges}
use Rattle.tg_protocol.specs.Words.{directory, has_oid, first_some, where_true}
use Rattle.tg_protocol.specs.Layouts.{change_fault, next_of, spare_fault}
use Rattle.tg_protocol.specs.Transactions.{Tx, TxFault, has_read, with_read, tx_streams, record_size, too_large, read_fault, write_fault}
use Rattle.tg_protocol.specs.Transactions as tx
use Rattle.tg_protocol.specs.Clients.{Work, Client, hosts_oid, write_of, by_layout, by_tx, busy, no_tx, tx_open, wrong_kind, not_registered, not_hosted, too_many_hosted, put_fault, ask_fault, copy_fault, tests, refusal}
use Rattle.tg_protocol.specs.Worlds.{World, client, history}
use Rattle.tg_protocol.specs.Causes.{joined_chain, is_of_tx, reads_with, writes_with, layout_cause, CauseAtOnce}
use Rattle.tg_tx.specs.Pendings.{read_cmp, has_key}
use Rattle.tg_tx.proofs.Orders.{with_read_is, has_read_is}

-- Lists with one more.

neither : (a b : Bool) → (a || b) ≡ false → (a ≡ false) × (b ≡ false)
neither a b e = grind arith

is_not : (b : Bool) → not b ≡ true → b ≡ false
is_not b e = grind arith

longer_put : {K : Type 0} (R : K → K → Ordering) (k : K) (xs : List K) → has_key R k xs ≡ false → length (insert_key R xs k) ≡ suc (length xs)
longer_put R k [] none = refl
longer_put R k (x ∷ xs) none = let n = neither (is_eq (R k x)) (has_key R k xs) none in by (longer_put R k xs n.1) (R k x) n.0
  where
    by : length (insert_key R xs k) ≡ suc (length xs) → (r : Ordering) → is_eq r ≡ false → length (match_ordering r (k ∷ x ∷ xs) (x ∷ xs) (x ∷ insert_key R xs k)) ≡ suc (suc (length xs))
    by more Less e = refl
    by more Equal e = absurd cc
    by more Greater e = ap suc more

more_reads : (r : ReadMark) (rs : List ReadMark) → has_read rs r.oid r.part ≡ false → length (with_read r rs) ≡ suc (length rs)
more_reads r rs none = ap (λ (xs : List ReadMark). length xs) (with_read_is r rs) ∙ longer_put read_cmp r rs (sym (has_read_is r rs) ∙ none)

more_oids : (o : Oid) (os : List Oid) → has_oid o os ≡ false → length (with_oid o os) ≡ suc (length os)
more_oids o [] none = refl
more_oids o (x ∷ xs) none = let n = neither (oid_eq o x) (has_oid o xs) none in by (more_oids o xs n.1) (oid_lt o x) (oid_eq o x) n.0
  where
    by : length (with_oid o xs) ≡ suc (length xs) → (a b : Bool) → b ≡ false → length (if a then o ∷ x ∷ xs else (if b then x ∷ xs else x ∷ with_oid o xs)) ≡ suc (suc (length xs))
    by more true b e = refl
    by more false true e = absurd cc
    by more false false e = ap suc more

-- Layouts that a change would make.

-- a further range is opened where 32 stand
more_ranges : (p : Layout) (c : Change) → opens_too_many p c ≡ true → 32 < length (next_of p c 0 0).ranges
unfolding next_of
more_ranges p c too = by c.opened too
  where
    by : (os : List (List ℕ)) → (nat_lt 0 (length os) && nat_le 32 (length p.ranges)) ≡ true → 32 < length (next_ranges c 0 p.ranges ++ opened_at os 0)
    by [] e = absurd cc
    by (x ∷ xs) e =
        let long = length-append (next_ranges c 0 p.ranges) (opened_at (x ∷ xs) 0) in
        let same = length-next_ranges c 0 p.ranges in
        let many = room (length p.ranges) (nat_lt 0 (length (x ∷ xs))) e in
        omega (arith, long, same, many)
      where
        room : (n : ℕ) (b : Bool) → (b && nat_le 32 n) ≡ true → 32 ≤ n
        room n b e = grind arith

-- a unit joins a chain in which five stay
more_units : (p : Layout) (c : Change) (j : Join) → c.join ≡ Some j → is_not_closed p j ≡ false → has_no_stripe p j ≡ false → is_full p c.drop j ≡ true → 5 < length (joined_chain (next_of p c 0 0) c.join)
unfolding next_of
more_units p c j is closed stripe full =
    subst (λ (o : Option Join). 5 < length (joined_chain (next_of p c 0 0) o)) (sym is)
    (subst (λ (us : List ℕ). 5 < length us) (sym there) longer)
  where
    within : j.range < length p.ranges
    within = below (length p.ranges) (j.range) closed
      where
        below : (n r : ℕ) → nat_le n (r + 1) ≡ false → r < n
        below n r e = grind arith

    has : j.stripe < length (range_at p.ranges j.range).stripes
    has = below (length (range_at p.ranges j.range).stripes) j.stripe stripe
      where
        below : (n r : ℕ) → nat_le n r ≡ false → r < n
        below n r e = grind arith

    range : range_at (next_ranges c 0 p.ranges ++ opened_at c.opened 0) j.range ≡ next_range c j.range (range_at p.ranges j.range)
    range = get_or_append_left (next_ranges c 0 p.ranges) (opened_at c.opened 0) no_range j.range (subst (λ m. j.range < m) (sym (length-next_ranges c 0 p.ranges)) within)
        ∙ get_or-next_ranges c 0 p.ranges j.range no_range no_range within ∙ ap (λ m. next_range c m (range_at p.ranges j.range)) (zero-add j.range)

    there : chain_at (next_ranges c 0 p.ranges ++ opened_at c.opened 0) j.range j.stripe ≡ kept c.drop (chain_at p.ranges j.range j.stripe) ++ joined c.join j.range j.stripe
    there = ap (λ (r : Range). get_or r.stripes j.stripe []) range
        ∙ get_or-next_chains c j.range 0 (range_at p.ranges j.range).stripes j.stripe [] [] has ∙ ap (λ m. next_chain c j.range m (chain_at p.ranges j.range j.stripe)) (zero-add j.stripe)

    one : length (joined c.join j.range j.stripe) ≡ 1
    one = subst (λ (o : Option Join). length (joined o j.range j.stripe) ≡ 1) (sym is) (itself j.range j.stripe j.unit)
      where
        itself : (r s u : ℕ) → length (joined (Some (record { unit = u; range = r; stripe = s })) r s) ≡ 1
        itself r s u = grind arith

    longer : 5 < length (kept c.drop (chain_at p.ranges j.range j.stripe) ++ joined c.join j.range j.stripe)
    longer =
        let long = length-append (kept c.drop (chain_at p.ranges j.range j.stripe)) (joined c.join j.range j.stripe) in
        let last = one in
        let five = room (length (kept c.drop (chain_at p.ranges j.range j.stripe))) full in
        omega (arith, long, last, five)
      where
        room : (n : ℕ) → nat_le 5 n ≡ true → 5 ≤ n
        room n e = grind arith

-- a stripe's copy is never refused for numbers
pub spare_few : (p : Layout) (j : Join) (n : Many) → spare_fault p j ≡ Some (layout.TooMany n) → ⊥
spare_few p j n e = by (is_not_closed p j) (has_no_stripe p j) (stands_there p j) _ e
  where
    by : (a b s g : Bool) → (if a then Some (layout.NotClosed j.range) else if b then Some (layout.NoStripe j.range j.stripe) else if s then Some (layout.InChain j.unit) else if g then Some (layout.Returned j.unit) else None) ≡ Some (layout.TooMany n) → ⊥
    by true b s g e = absurd cc
    by false true s g e = absurd cc
    by false false true g e = absurd cc
    by false false false true e = absurd cc
    by false false false false e = absurd cc

module _ (m : Meaning) (w : World m) (k : ℕ) (dir : (client m w k).dir ≡ state_at m w.cluster.objects (history m w) (client m w k).played directory) where
  abbrev c : Client m
  c = client m w k

  abbrev pub Caused : CommandOf m → Option Refusal → Type 0
  Caused x None = Unit {0}
  Caused x (Some why) = CauseAtOnce m w k x why

  abbrev AllCaused : CommandOf m → List (Option Refusal) → Type 0
  AllCaused x [] = Unit {0}
  AllCaused x (o ∷ os) = Caused x o × AllCaused x os

  first_caused : (x : CommandOf m) (os : List (Option Refusal)) → AllCaused x os → Caused x (first_some os)
  first_caused x [] h = tt
  first_caused x (None ∷ os) h = first_caused x os h.1
  first_caused x (Some why ∷ os) h = h.0

  -- a test that refuses where it holds
  test_caused : (x : CommandOf m) (b : Bool) (why : Refusal) → (b ≡ true → CauseAtOnce m w k x why) → Caused x (where_true b why)
  test_caused x true why h = h refl
  test_caused x false why h = tt

  busy_caused : (x : CommandOf m) (o : Option (Work m)) → c.work ≡ o → Caused x (busy m o)
  busy_caused x None is = tt
  busy_caused x (Some v) is = (v, is, refl)

  none_open : (o : Option Tx) → not (is_some o) ≡ true → o ≡ None
  none_open None e = refl
  none_open (Some t) e = absurd cc

  no_tx_caused : (x : CommandOf m) → is_of_tx m x ≡ true → Caused x (no_tx m c)
  no_tx_caused x of = test_caused x (not (is_some c.tx)) cause.NoTx (λ e. (of, none_open c.tx e))

  open_caused : (x : CommandOf m) → is_of_tx m x ≡ false → Caused x (tx_open m c)
  open_caused x of = test_caused x (is_some c.tx) cause.TxOpen (λ e. (of, e))

  not_registered_as : (o : Oid) → not (m.registered c.dir o) ≡ true → m.registered (state_at m w.cluster.objects (history m w) c.played directory) o ≡ false
  not_registered_as o e = subst (λ (s : m.state). m.registered s o ≡ false) dir (is_not (m.registered c.dir o) e)

  hosted_caused : (o : Oid) → Caused (cmd.Host o) (too_many_hosted m c o)
  hosted_caused o = test_caused (cmd.Host o) (not (hosts_oid m c o) && nat_le 128 (length c.hosted)) (cause.TooMany many.Hosted)
      (λ e. let f = both (hosts_oid m c o) (length c.hosted) e in let long = more_oids o c.hosted f.0 in let n = f.1 in omega (arith, long, n))
    where
      both : (b : Bool) (n : ℕ) → (not b && nat_le 128 n) ≡ true → (b ≡ false) × (128 ≤ n)
      both b n e = grind arith

  -- Transactions.

  tx_caused : (x : CommandOf m) (b : Bool) (f : TxFault) → (b ≡ true → Caused x (by_tx m (Some f))) → Caused x (by_tx m (where_true b f))
  tx_caused x true f h = h refl
  tx_caused x false f h = tt

  first_two : (x : CommandOf m) (a b : Option TxFault) → Caused x (by_tx m a) → Caused x (by_tx m b) → Caused x (by_tx m (first_some (a ∷ b ∷ [])))
  first_two x None None h i = tt
  first_two x None (Some b) h i = i
  first_two x (Some a) b h i = h

  first_three : (x : CommandOf m) (a b d : Option TxFault) → Caused x (by_tx m a) → Caused x (by_tx m b) → Caused x (by_tx m d) → Caused x (by_tx m (first_some (a ∷ b ∷ d ∷ [])))
  first_three x None b d h i j = first_two x b d i j
  first_three x (Some a) b d h i j = h

  less : (a b : ℕ) → nat_lt a b ≡ true → a < b
  less a b e = grind arith

  within : (a b : ℕ) → nat_le a b ≡ true → a ≤ b
  within a b e = grind arith

  put_caused : (o : Oid) (op : m.op) (t : Option Tx) → c.tx ≡ t → Caused (cmd.Put o op) (put_fault m t (write_of m o op))
  unfolding write_fault
  put_caused o op None is = tt
  put_caused o op (Some t) is = first_three x _ _ _
      (tx_caused x (nat_lt 16 (length (tx_streams more))) (tx.TooMany many.Streams) (λ e. subst (λ (u : Option Tx). 16 < length (tx_streams (writes_with m u x))) (sym is) (less 16 (length (tx_streams more)) e)))
      (tx_caused x (nat_le 64 (length t.writes)) (tx.TooMany many.Writes) (λ e. subst (λ (u : Option Tx). 64 < length (writes_with m u x)) (sym is)
      (let long = length-append t.writes (write_of m o op ∷ []) in let n = within 64 (length t.writes) e in omega (arith, long, n))))
      (tx_caused x (nat_lt 4096 (record_size t.reads more)) (tx.TooLarge (record_size t.reads more)) (λ e. (less 4096 (record_size t.reads more) e, subst (λ (u : Option Tx). record_size t.reads more ≡ record_size (reads_with m u x) (writes_with m u x)) (sym is) refl)))
    where
      x : CommandOf m
      x = cmd.Put o op

      more : List WriteOp
      more = t.writes ++ write_of m o op ∷ []

  ask_caused : (o : Oid) (q : m.ask) (t : Option Tx) → c.tx ≡ t → Caused (cmd.Ask o q) (ask_fault m t o (m.look q))
  unfolding read_fault
  ask_caused o q None is = tt
  ask_caused o q (Some t) is = by (has_read t.reads o (m.look q)) refl
    where
      r : ReadMark
      r = record { oid = o; part = m.look q; version = 0 }

      size : ℕ
      size = record_size (with_read r t.reads) t.writes

      by : (b : Bool) → has_read t.reads o (m.look q) ≡ b → Caused (cmd.Ask o q) (by_tx m (if b then None else first_some (where_true (nat_le 64 (length t.reads)) (tx.TooMany many.Reads) ∷ too_large size ∷ [])))
      by true has = tt
      by false has = first_two (cmd.Ask o q) _ _
          (tx_caused (cmd.Ask o q) (nat_le 64 (length t.reads)) (tx.TooMany many.Reads) (λ e. subst (λ (u : Option Tx). 64 < length (reads_with m u (cmd.Ask o q))) (sym is)
          (let long = more_reads r t.reads has in let n = within 64 (length t.reads) e in omega (arith, long, n))))
          (tx_caused (cmd.Ask o q) (nat_lt 4096 size) (tx.TooLarge size) (λ e. (less 4096 size e, subst (λ (u : Option Tx). size ≡ record_size (reads_with m u (cmd.Ask o q)) (writes_with m u (cmd.Ask o q))) (sym is) refl)))

  -- Layouts.

  -- a fault other than of numbers is its own cause
  abbrev IsOfNumbers : ProjFault → Type 0
  IsOfNumbers (layout.TooMany n) = Unit {0}
  IsOfNumbers f = ⊥

  fault_caused : (x : CommandOf m) (o : Option ProjFault) → layout_cause m c.stand x ≡ by_layout m o → ((n : Many) → o ≡ Some (layout.TooMany n) → CauseAtOnce m w k x (cause.TooMany n)) → Caused x (by_layout m o)
  fault_caused x None is h = tt
  fault_caused x (Some (layout.TooMany n)) is h = h n refl
  fault_caused x (Some (layout.NotClosed r)) is h = is
  fault_caused x (Some (layout.NoStripe r s)) is h = is
  fault_caused x (Some (layout.InChain u)) is h = is
  fault_caused x (Some (layout.Returned u)) is h = is
  fault_caused x (Some (layout.NoReplica r s)) is h = is
  fault_caused x (Some (layout.NotAcked u)) is h = is

  reconf_caused : (d : Change) → Caused (cmd.Reconf d) (by_layout m (change_fault c.stand d))
  unfolding change_fault
  reconf_caused d = fault_caused (cmd.Reconf d) (early_refusal c.stand d) refl many_of
    where
      p : Layout
      p = c.stand

      same : (a b : Many) → ◌≡◌ {A = Option ProjFault} (Some (layout.TooMany a)) (Some (layout.TooMany b)) → a ≡ b
      same a b e = cc

      join_many : (j : Option Join) → d.join ≡ j → (n : Many) → join_refusal p d.drop j ≡ Some (layout.TooMany n) → CauseAtOnce m w k (cmd.Reconf d) (cause.TooMany n)
      join_many None is n e = absurd cc
      join_many (Some j) is n e = by (is_not_closed p j) (has_no_stripe p j) (stands_there p j) (is_full p d.drop j) refl refl refl e
        where
          by : (a b s f : Bool) → is_not_closed p j ≡ a → has_no_stripe p j ≡ b → is_full p d.drop j ≡ f
              → (if a then Some (layout.NotClosed j.range) else if b then Some (layout.NoStripe j.range j.stripe) else if s then Some (layout.InChain j.unit) else if f then Some (layout.TooMany many.Units) else None) ≡ Some (layout.TooMany n)
              → CauseAtOnce m w k (cmd.Reconf d) (cause.TooMany n)
          by true b s f closed stripe full e = absurd cc
          by false true s f closed stripe full e = absurd cc
          by false false true f closed stripe full e = absurd cc
          by false false false false closed stripe full e = absurd cc
          by false false false true closed stripe full e = subst (λ (x : Many). CauseAtOnce m w k (cmd.Reconf d) (cause.TooMany x)) (same many.Units n e) (more_units p d j is closed stripe full)

      other_fault : (f : ℕ → ProjFault) → ((u : ℕ) (n : Many) → f u ≡ layout.TooMany n → ⊥) → (o : Option ℕ) (n : Many) → option_map f o ≡ Some (layout.TooMany n) → ⊥
      other_fault f never None n e = absurd cc
      other_fault f never (Some u) n e = never u n (inner (f u) (layout.TooMany n) e)
        where
          inner : (a b : ProjFault) → Some a ≡ Some b → a ≡ b
          inner a b e = cc

      lost_many : (l : ℕ) (rs : List Range) (n : Many) → lost_refusal d.drop l rs ≡ Some (layout.TooMany n) → ⊥
      lost_many l [] n e = absurd cc
      lost_many l (r ∷ rs) n e = by (position_from (is_lost d.drop) 0 r.stripes) (lost_refusal d.drop (l + 1) rs) (lost_many (l + 1) rs n) e
        where
          by : (o : Option ℕ) (rest : Option ProjFault) → (rest ≡ Some (layout.TooMany n) → ⊥) → proj.first_some (option_map (λ i. layout.NoReplica l i) o) rest ≡ Some (layout.TooMany n) → ⊥
          by None rest never e = never e
          by (Some i) rest never e = absurd cc

      many_of : (n : Many) → early_refusal p d ≡ Some (layout.TooMany n) → CauseAtOnce m w k (cmd.Reconf d) (cause.TooMany n)
      many_of n e = by (opens_too_many p d) (join_refusal p d.drop d.join) (return_refusal p d) (lost_refusal d.drop 0 p.ranges) refl refl
          (λ z. other_fault (λ u. layout.Returned u) (λ u n e. absurd cc) (find (proj.is_out p d) (proj.coming d)) n z) (λ z. lost_many 0 p.ranges n z) e
        where
          by : (b : Bool) (j r l : Option ProjFault) → opens_too_many p d ≡ b → join_refusal p d.drop d.join ≡ j → (r ≡ Some (layout.TooMany n) → ⊥) → (l ≡ Some (layout.TooMany n) → ⊥)
              → proj.first_some (on_test b (layout.TooMany many.Ranges)) (proj.first_some j (proj.first_some r l)) ≡ Some (layout.TooMany n) → CauseAtOnce m w k (cmd.Reconf d) (cause.TooMany n)
          by true j r l opens join not_r not_l e = subst (λ (x : Many). CauseAtOnce m w k (cmd.Reconf d) (cause.TooMany x)) (same many.Ranges n e) (more_ranges p d opens)
          by false (Some f) r l opens join not_r not_l e = join_many d.join refl n (join ∙ e)
          by false None (Some f) l opens join not_r not_l e = absurd (not_r e)
          by false None None l opens join not_r not_l e = absurd (not_l e)

  copy_caused : (u r s : ℕ) → Caused (cmd.Copy u r s) (copy_fault m c.stand u r s)
  unfolding copy_fault
  copy_caused u r s = fault_caused (cmd.Copy u r s) (spare_fault c.stand (record { unit = u; range = r; stripe = s })) refl (λ n e. absurd (spare_few c.stand (record { unit = u; range = r; stripe = s }) n e))

  -- All tests of a command.

  kind_caused : (x : CommandOf m) (b : Bool) (o : Oid) → (b ≡ false → CauseAtOnce m w k x (cause.WrongKind o)) → Caused x (wrong_kind m b o)
  kind_caused x b o h = test_caused x (not b) (cause.WrongKind o) (λ e. h (is_not b e))

  absent_caused : (x : CommandOf m) (o : Oid) → (hosts_oid m c o ≡ false → CauseAtOnce m w k x (cause.NotHosted o)) → Caused x (not_hosted m c o)
  absent_caused x o h = test_caused x (not (hosts_oid m c o)) (cause.NotHosted o) (λ e. h (is_not (hosts_oid m c o) e))

  unknown_caused : (x : CommandOf m) (o : Oid) → (not (m.registered c.dir o) ≡ true → CauseAtOnce m w k x (cause.NotRegistered o)) → Caused x (not_registered m c o)
  unknown_caused x o h = test_caused x (not (m.registered c.dir o)) (cause.NotRegistered o) h

  tests_caused : (x : CommandOf m) → AllCaused x (tests m c x)
  unfolding tests
  tests_caused (cmd.Host o) = (open_caused (cmd.Host o) refl, (unknown_caused (cmd.Host o) o (λ e. (refl, not_registered_as o e)), (hosted_caused o, tt)))
  tests_caused cmd.Begin = (open_caused cmd.Begin refl, tt)
  tests_caused (cmd.Put o op) = (no_tx_caused (cmd.Put o op) refl, (kind_caused (cmd.Put o op) (m.allows o op) o (λ e. (refl, e)), (unknown_caused (cmd.Put o op) o (λ e. (refl, not_registered_as o e)), (put_caused o op c.tx refl, tt))))
  tests_caused (cmd.Ask o q) = (no_tx_caused (cmd.Ask o q) refl, (kind_caused (cmd.Ask o q) (m.allows_ask o q) o (λ e. (refl, e)), (absent_caused (cmd.Ask o q) o (λ e. (refl, e)), (ask_caused o q c.tx refl, tt))))
  tests_caused cmd.End = (no_tx_caused cmd.End refl, tt)
  tests_caused cmd.Drop = (no_tx_caused cmd.Drop refl, tt)
  tests_caused (cmd.Fate p) = (open_caused (cmd.Fate p) refl, tt)
  tests_caused (cmd.Decide p) = (open_caused (cmd.Decide p) refl, tt)
  tests_caused (cmd.Checkpoint o) = (open_caused (cmd.Checkpoint o) refl, (absent_caused (cmd.Checkpoint o) o (λ e. (refl, e)), tt))
  tests_caused (cmd.Forget o n) = (open_caused (cmd.Forget o n) refl, (absent_caused (cmd.Forget o n) o (λ e. (refl, e)), tt))
  tests_caused cmd.Trim = (open_caused cmd.Trim refl, tt)
  tests_caused (cmd.Reconf x) = (open_caused (cmd.Reconf x) refl, (reconf_caused x, tt))
  tests_caused (cmd.Copy u r s) = (open_caused (cmd.Copy u r s) refl, (copy_caused u r s, tt))
  tests_caused (cmd.AskAt p o q) = (open_caused (cmd.AskAt p o q) refl, (kind_caused (cmd.AskAt p o q) (m.allows_ask o q) o (λ e. (refl, e)), (absent_caused (cmd.AskAt p o q) o (λ e. (refl, e)), tt)))
  tests_caused (cmd.Rescue p) = (open_caused (cmd.Rescue p) refl, tt)

  pub refusal_caused : (x : CommandOf m) → Caused x (refusal m c x)
  unfolding refusal
  refusal_caused x = first_caused x (busy m c.work ∷ tests m c x) (busy_caused x c.work refl, tests_caused x)
