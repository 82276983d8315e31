-- A command for whose refusal there is a cause at once is refused.
use Rattle.std.proofs.Common.{◌≡◌, ℕ, zero, suc, ◌<◌, ◌≤◌, List, [], ◌∷◌, ◌++◌, length, map, Bool, true, false, refl, sym, ap, ◌∙◌, subst, inl, arith, Option, Some, None, is_some}
use Rattle.std.specs.Prelude.{not, nat_le, ◌&&◌, IfSome}
use Rattle.std.proofs.lemmas.Bool.Decides.{nat_tests}
use Rattle.tg_base.specs.Changes.{Changed as Change}
use Rattle.tg_base.specs.Clusters.{Header}
use Rattle.tg_base.specs.Layouts.{Layout, IsLayout}
use Rattle.tg_base.specs.declared.change.Join.{Join}
use Rattle.tg_base.specs.declared.fault.Many.{Many}
use Rattle.tg_base.specs.declared.fault.Many.TheVariants as many
use Rattle.tg_base.specs.declared.ids.Oid.{Oid}
use Rattle.tg_base.specs.declared.layout.Range.{Range}
use Rattle.tg_kind.specs.Meaning.{Meaning}
use Rattle.tg_model.specs.declared.command.Command.TheVariants as cmd
use Rattle.tg_model.specs.declared.command.Event.TheVariants.{Command as Commands}
use Rattle.tg_model.specs.declared.refusal.Refusal.{Refusal}
use Rattle.tg_model.specs.declared.refusal.Refusal.TheVariants as cause
use Rattle.tg_model.specs.declared.trace.What.TheVariants as told
use Rattle.tg_model.specs.Kinds.{CommandOf, EventOf}
use Rattle.tg_proj.specs.Next.{next_layout, next_ranges, opened_at}
use Rattle.tg_proj.specs.Places.{chain_at}
use Rattle.tg_proj.specs.Follows.{IsJoined}
use Rattle.tg_proj.specs.Refusals.{early_refusal}
use Rattle.tg_proj.specs.declared.fault.ProjFault.{ProjFault}
use Rattle.tg_proj.proofs.Following.{next_follows}
use Rattle.tg_protocol.specs.Words.{client_id, numbers, first_some, where_true}
use Rattle.tg_protocol.specs.Layouts.{next_of, change_fault}
use Rattle.tg_protocol.specs.Transactions.{Tx, read_fault, write_fault}
use Rattle.tg_protocol.specs.Clients.{Work, Client, new_client, busy, no_tx, tx_open, wrong_kind, not_registered, not_hosted, too_many_hosted, put_fault, ask_fault, by_layout, copy_fault, write_of, tests, refusal, hosts_oid, number_on}
use Rattle.tg_protocol.specs.Answers.{note}
use Rattle.tg_protocol.specs.ClientSteps.{ClientTurn, refused_or, client_command}
use Rattle.tg_protocol.specs.Worlds.{World, Told, start, client, runs, mark_of, noted_if, commands, client_turned, happens}
use Rattle.tg_protocol.specs.Runs.{Moves, Reaches}
use Rattle.tg_protocol.specs.Playing.{Answers}
use Rattle.tg_protocol.specs.Causes.{most, tx_reads, tx_writes, joined_chain, DirectoryTrue, is_of_tx, IsWrong, Names, AsksOf, reads_with, writes_with, hosted_with, ranges_with, units_with, would_be, layout_cause, CauseAtOnce, CausesRefuse, IsRefused}
use Rattle.tg_law_layouts.specs.Moves.Configs.{Config, config, client_in}
use Rattle.tg_law_layouts.proofs.Moves.Lists.{at_set, at_map, contained}
use Rattle.tg_law_layouts.proofs.Moves.Moves.{ClientInput, Commanded, Hears', Ticks', Cases, run_keeps}
use Rattle.tg_law_layouts.proofs.Layouts.Deciding.{layouts_are_known, layouts_are_sound}
use Rattle.tg_law_claims.proofs.Answers.Limits.{IsWithin, first_none, untrue, none_within, read_lean, put_lean, host_few}
use Rattle.tg_law_claims.proofs.Answers.Limited.{MaybeLean, Limited, no_fault, commanded, delivered, ticked}

-- The layout after a change, whatever its start.

same_long : (rs : List Range) (cs : List (List ℕ)) (a b : ℕ) → length (rs ++ opened_at cs a) ≡ length (rs ++ opened_at cs b)
same_long rs [] a b = refl
same_long [] (c ∷ cs) a b = refl
same_long (r ∷ rs) (c ∷ cs) a b = ap suc (same_long rs (c ∷ cs) a b)

same_chain : (rs : List Range) (cs : List (List ℕ)) (a b n k : ℕ) → chain_at (rs ++ opened_at cs a) n k ≡ chain_at (rs ++ opened_at cs b) n k
same_chain rs [] a b n k = refl
same_chain [] (c ∷ cs) a b zero k = refl
same_chain [] (c ∷ cs) a b (suc n) k = refl
same_chain (r ∷ rs) (c ∷ cs) a b zero k = refl
same_chain (r ∷ rs) (c ∷ cs) a b (suc n) k = same_chain rs (c ∷ cs) a b n k

module _ (p : Layout) (c : Change) (rules : IsLayout p) (fine : early_refusal p c ≡ None) where
  few_ranges : length (next_layout p c 0 0).ranges ≤ 32
  few_ranges =
      let f = (next_follows p c 0 p.start rules (record { allowed = fine; later = omega arith })).few in
      let e = same_long (next_ranges c 0 p.ranges) c.opened 0 p.start in
      omega (arith, e, f)

  few_units : length (joined_chain (next_layout p c 0 0) c.join) ≤ 5
  few_units = by c.join (next_follows p c 0 p.start rules (record { allowed = fine; later = omega arith })).join
    where
      by : (j : Option Join) → IfSome j (IsJoined p (next_layout p c 0 p.start)) → length (joined_chain (next_layout p c 0 0) j) ≤ 5
      by None f = omega arith
      by (Some j) f = subst (λ (us : List ℕ). length us ≤ 5) (sym (same_chain (next_ranges c 0 p.ranges) c.opened 0 p.start j.range j.stripe)) f.fits

module _ (m : Meaning) where
  -- Each client of a run is within the limits.

  abbrev AllLimited : Config m → Type 0
  AllLimited c = (k : ℕ) → Limited m (client_in m c k)

  turn_limited : (c : Config m) → AllLimited c → (k : ℕ) (t : ClientTurn m) → ClientInput m c k t → Limited m t.now
  turn_limited c h k t (Commanded x) = commanded m (client_in m c k) x (h k)
  turn_limited c h k t (Hears' p comes) = delivered m (client_in m c k) p.from p.rid p.msg (h k)
  turn_limited c h k t Ticks' = ticked m (client_in m c k) (h k)

  limited_keeps : (c : Config m) → AllLimited c → Cases m c AllLimited
  limited_keeps c h = record {
    idle = h;
    unit = λ u p a less. h;
    layout = λ l p a less. h;
    seqr = λ s t i less. h;
    client = λ k t i less. at_set c.clients k t.now (new_client m c.cluster) (λ j d. Limited m d) less (turn_limited c h k t i) (λ j other. h j);
  }

  new_limited : (h : Header) (j : ℕ) → Limited m (new_client m h j)
  unfolding new_client
  new_limited h j = record { hosted = record { rise = (tt, tt); few = omega arith }; tx = tt; work = tt }

  start_limited : (h : Header) → AllLimited (config m (start m h))
  unfolding start
  start_limited h k = at_map (new_client m h) (numbers h.clients 0) k (new_client m h k) (λ d. Limited m d) (new_limited h) (new_limited h k)

  all_limited : (h : Header) (ms : Moves m) (w : World m) → Reaches m h ms w → AllLimited (config m w)
  all_limited h ms w r = subst (λ (v : World m). AllLimited (config m v)) (sym r.goes.is) (run_keeps m AllLimited limited_keeps ms (start m h) (start_limited h))

  stands_sound : (h : Header) (ms : Moves m) (w : World m) → Reaches m h ms w → (k : ℕ) → IsLayout (client m w k).stand
  stands_sound h ms w r k = (layouts_are_sound m h ms w r (client m w k).stand.epoch (client m w k).stand ((layouts_are_known m h ms w r).clients k)).rules

  -- What passes all tests has no cause.

  none_is : {X : Type 0} {Y : Type 0} (y : Y) → None ≡ Some y → X
  none_is y e = absurd cc

  no_change : (f : Option ProjFault) → by_layout m f ≡ None → f ≡ None
  no_change None e = refl
  no_change (Some f) e = absurd cc

  module _ (c : Client m) (limited : Limited m c) (rules : IsLayout c.stand) where
    tx_tests : (x : CommandOf m) → first_some (tests m c x) ≡ None → (is_of_tx m x ≡ true → no_tx m c ≡ None) × (is_of_tx m x ≡ false → tx_open m c ≡ None)
    unfolding tests
    tx_tests (cmd.Put o op) f = ((λ e. (first_none (no_tx m c) _ f).0), (λ e. absurd cc))
    tx_tests (cmd.Ask o q) f = ((λ e. (first_none (no_tx m c) _ f).0), (λ e. absurd cc))
    tx_tests cmd.End f = ((λ e. (first_none (no_tx m c) _ f).0), (λ e. absurd cc))
    tx_tests cmd.Drop f = ((λ e. (first_none (no_tx m c) _ f).0), (λ e. absurd cc))
    tx_tests (cmd.Host o) f = ((λ e. absurd cc), (λ e. (first_none (tx_open m c) _ f).0))
    tx_tests cmd.Begin f = ((λ e. absurd cc), (λ e. (first_none (tx_open m c) _ f).0))
    tx_tests (cmd.Fate p) f = ((λ e. absurd cc), (λ e. (first_none (tx_open m c) _ f).0))
    tx_tests (cmd.Decide p) f = ((λ e. absurd cc), (λ e. (first_none (tx_open m c) _ f).0))
    tx_tests (cmd.Checkpoint o) f = ((λ e. absurd cc), (λ e. (first_none (tx_open m c) _ f).0))
    tx_tests (cmd.Forget o n) f = ((λ e. absurd cc), (λ e. (first_none (tx_open m c) _ f).0))
    tx_tests cmd.Trim f = ((λ e. absurd cc), (λ e. (first_none (tx_open m c) _ f).0))
    tx_tests (cmd.Reconf y) f = ((λ e. absurd cc), (λ e. (first_none (tx_open m c) _ f).0))
    tx_tests (cmd.Copy u r s) f = ((λ e. absurd cc), (λ e. (first_none (tx_open m c) _ f).0))
    tx_tests (cmd.AskAt p o q) f = ((λ e. absurd cc), (λ e. (first_none (tx_open m c) _ f).0))
    tx_tests (cmd.Rescue p) f = ((λ e. absurd cc), (λ e. (first_none (tx_open m c) _ f).0))

    none_open : (t : Option Tx) → where_true (not (is_some t)) cause.NoTx ≡ None → t ≡ None → ⊥
    none_open None f e = absurd cc
    none_open (Some t) f e = absurd cc

    some_open : (t : Option Tx) → where_true (is_some t) cause.TxOpen ≡ None → is_some t ≡ true → ⊥
    some_open None f e = absurd cc
    some_open (Some t) f e = absurd cc

    untested : (b : Bool) (why : Refusal) → where_true (not b) why ≡ None → b ≡ false → ⊥
    untested true why f e = absurd cc
    untested false why f e = absurd cc

    wrong : (x : CommandOf m) → first_some (tests m c x) ≡ None → (o : Oid) → IsWrong m x o → ⊥
    unfolding tests
    wrong (cmd.Put p op) f o h = let b = first_none (no_tx m c) _ f in untested (m.allows o op) (cause.WrongKind p) (subst (λ (z : Oid). wrong_kind m (m.allows z op) p ≡ None) h.0 (first_none (wrong_kind m (m.allows p op) p) _ b.1).0) h.1
    wrong (cmd.Ask p q) f o h = let b = first_none (no_tx m c) _ f in untested (m.allows_ask o q) (cause.WrongKind p) (subst (λ (z : Oid). wrong_kind m (m.allows_ask z q) p ≡ None) h.0 (first_none (wrong_kind m (m.allows_ask p q) p) _ b.1).0) h.1
    wrong (cmd.AskAt at p q) f o h = let b = first_none (tx_open m c) _ f in untested (m.allows_ask o q) (cause.WrongKind p) (subst (λ (z : Oid). wrong_kind m (m.allows_ask z q) p ≡ None) h.0 (first_none (wrong_kind m (m.allows_ask p q) p) _ b.1).0) h.1
    wrong x f o h = absurd h

    unnamed : (x : CommandOf m) → first_some (tests m c x) ≡ None → (o : Oid) → Names m x o → m.registered c.dir o ≡ false → ⊥
    unfolding tests
    unnamed (cmd.Host p) f o h none = let b = first_none (tx_open m c) _ f in untested (m.registered c.dir o) (cause.NotRegistered o) (subst (λ (z : Oid). not_registered m c z ≡ None) h (first_none (not_registered m c p) _ b.1).0) none
    unnamed (cmd.Put p op) f o h none =
        let b = first_none (no_tx m c) _ f in
        let d = first_none (wrong_kind m (m.allows p op) p) _ b.1 in
        untested (m.registered c.dir o) (cause.NotRegistered o) (subst (λ (z : Oid). not_registered m c z ≡ None) h (first_none (not_registered m c p) _ d.1).0) none
    unnamed x f o h none = absurd h

    unhosted : (x : CommandOf m) → first_some (tests m c x) ≡ None → (o : Oid) → AsksOf m x o → hosts_oid m c o ≡ false → ⊥
    unfolding tests
    unhosted (cmd.Ask p q) f o h none =
        let b = first_none (no_tx m c) _ f in
        let d = first_none (wrong_kind m (m.allows_ask p q) p) _ b.1 in
        untested (hosts_oid m c o) (cause.NotHosted o) (subst (λ (z : Oid). not_hosted m c z ≡ None) h (first_none (not_hosted m c p) _ d.1).0) none
    unhosted (cmd.Checkpoint p) f o h none = let b = first_none (tx_open m c) _ f in untested (hosts_oid m c o) (cause.NotHosted o) (subst (λ (z : Oid). not_hosted m c z ≡ None) h (first_none (not_hosted m c p) _ b.1).0) none
    unhosted (cmd.Forget p n) f o h none = let b = first_none (tx_open m c) _ f in untested (hosts_oid m c o) (cause.NotHosted o) (subst (λ (z : Oid). not_hosted m c z ≡ None) h (first_none (not_hosted m c p) _ b.1).0) none
    unhosted (cmd.AskAt at p q) f o h none =
        let b = first_none (tx_open m c) _ f in
        let d = first_none (wrong_kind m (m.allows_ask p q) p) _ b.1 in
        untested (hosts_oid m c o) (cause.NotHosted o) (subst (λ (z : Oid). not_hosted m c z ≡ None) h (first_none (not_hosted m c p) _ d.1).0) none
    unhosted x f o h none = absurd h

    unfaulted : (x : CommandOf m) → first_some (tests m c x) ≡ None → (why : Refusal) → layout_cause m c.stand x ≡ Some why → ⊥
    unfolding tests
    unfaulted (cmd.Reconf y) f why h = let b = first_none (tx_open m c) _ f in none_is why (sym (first_none (by_layout m (change_fault c.stand y)) [] b.1).0 ∙ h)
    unfaulted (cmd.Copy u r s) f why h = let b = first_none (tx_open m c) _ f in none_is why (sym (first_none (copy_fault m c.stand u r s) [] b.1).0 ∙ h)
    unfaulted x f why h = none_is why h

    -- the reads and writes that the transaction would have with it
    old_within : (t : Option Tx) → MaybeLean m t → IsWithin (tx_reads t) (tx_writes t)
    old_within None l = none_within
    old_within (Some t) l = l.within

    put_within : (o : Oid) (op : m.op) (t : Option Tx) → MaybeLean m t → where_true (not (is_some t)) cause.NoTx ≡ None → put_fault m t (write_of m o op) ≡ None → IsWithin (reads_with m t (cmd.Put o op)) (writes_with m t (cmd.Put o op))
    put_within o op None l open' f = absurd cc
    put_within o op (Some t) l open' f = (put_lean t (write_of m o op) (no_fault m (write_fault t (write_of m o op)) f) l).within

    ask_within : (o : Oid) (q : m.ask) (t : Option Tx) → MaybeLean m t → where_true (not (is_some t)) cause.NoTx ≡ None → ask_fault m t o (m.look q) ≡ None → IsWithin (reads_with m t (cmd.Ask o q)) (writes_with m t (cmd.Ask o q))
    ask_within o q None l open' f = absurd cc
    ask_within o q (Some t) l open' f = (read_lean t (record { oid = o; part = m.look q; version = 0 }) 0 (no_fault m (read_fault t o (m.look q)) f) l).within

    within : (x : CommandOf m) → first_some (tests m c x) ≡ None → IsWithin (reads_with m c.tx x) (writes_with m c.tx x)
    unfolding tests
    within (cmd.Put o op) f =
        let b = first_none (no_tx m c) _ f in
        let d = first_none (wrong_kind m (m.allows o op) o) _ b.1 in
        let e = first_none (not_registered m c o) _ d.1 in
        put_within o op c.tx limited.tx b.0 (first_none (put_fault m c.tx (write_of m o op)) [] e.1).0
    within (cmd.Ask o q) f =
        let b = first_none (no_tx m c) _ f in
        let d = first_none (wrong_kind m (m.allows_ask o q) o) _ b.1 in
        let e = first_none (not_hosted m c o) _ d.1 in
        ask_within o q c.tx limited.tx b.0 (first_none (ask_fault m c.tx o (m.look q)) [] e.1).0
    within x f = old_within c.tx limited.tx

    hosts_few : (x : CommandOf m) → first_some (tests m c x) ≡ None → length (hosted_with m c.hosted x) ≤ 128
    unfolding tests
    hosts_few (cmd.Host o) f =
        let b = first_none (tx_open m c) _ f in
        let d = first_none (not_registered m c o) _ b.1 in
        (host_few c.hosted o limited.hosted (λ none. room (hosts_oid m c o) none (first_none (too_many_hosted m c o) [] d.1).0)).few
      where
        room : (b : Bool) → b ≡ false → where_true (not b && nat_le 128 (length c.hosted)) (cause.TooMany many.Hosted) ≡ None → length c.hosted < 128
        room true e f = absurd cc
        room false e f = let g = untrue (nat_le 128 (length c.hosted)) (cause.TooMany many.Hosted) f in grind (arith, nat_tests, g)
    hosts_few x f = limited.hosted.few

    change_fine : (y : Change) → first_some (tests m c (cmd.Reconf y)) ≡ None → early_refusal c.stand y ≡ None
    unfolding tests change_fault
    change_fine y f = let b = first_none (tx_open m c) _ f in no_change (early_refusal c.stand y) (first_none (by_layout m (change_fault c.stand y)) [] b.1).0

    ranges_few : (x : CommandOf m) → first_some (tests m c x) ≡ None → ranges_with m c.stand x ≤ 32
    unfolding next_of
    ranges_few (cmd.Reconf y) f = few_ranges c.stand y rules (change_fine y f)
    ranges_few x f = omega arith

    units_few : (x : CommandOf m) → first_some (tests m c x) ≡ None → units_with m c.stand x ≤ 5
    unfolding next_of
    units_few (cmd.Reconf y) f = few_units c.stand y rules (change_fine y f)
    units_few x f = omega arith

    over : (a b : ℕ) → a ≤ b → b < a → ⊥
    over a b le lt = absurd (omega (arith, le, lt))

    too_many : (x : CommandOf m) → first_some (tests m c x) ≡ None → (what : Many) → most what < would_be m c x what → ⊥
    too_many x f many.Streams h = over _ _ (within x f).few_streams h
    too_many x f many.Reads h = over _ _ (within x f).few_reads h
    too_many x f many.Writes h = over _ _ (within x f).few_writes h
    too_many x f many.Hosted h = over _ _ (hosts_few x f) h
    too_many x f many.Ranges h = over _ _ (ranges_few x f) h
    too_many x f many.Units h = over _ _ (units_few x f) h

  module _ (w : World m) (k : ℕ) (x : CommandOf m) (limited : Limited m (client m w k)) (rules : IsLayout (client m w k).stand) (dir : DirectoryTrue m w) where
    contrary : refusal m (client m w k) x ≡ None → (why : Refusal) → CauseAtOnce m w k x why → ⊥
    unfolding refusal
    contrary fine = by
      where
        idle : (v : Option (Work m)) → busy m v ≡ None → (y : Work m) → v ≡ Some y → ⊥
        idle None e y is = absurd cc
        idle (Some v) e y is = absurd cc

        free : busy m (client m w k).work ≡ None
        free = (first_none (busy m (client m w k).work) (tests m (client m w k) x) fine).0

        f : first_some (tests m (client m w k) x) ≡ None
        f = (first_none (busy m (client m w k).work) (tests m (client m w k) x) fine).1

        by : (why : Refusal) → CauseAtOnce m w k x why → ⊥
        by (cause.Busy word) h = idle (client m w k).work free h.0 h.1
        by cause.NoTx h = none_open (client m w k) limited rules (client m w k).tx ((tx_tests (client m w k) limited rules x f).0 h.0) h.1
        by cause.TxOpen h = some_open (client m w k) limited rules (client m w k).tx ((tx_tests (client m w k) limited rules x f).1 h.0) h.1
        by (cause.WrongKind o) h = wrong (client m w k) limited rules x f o h
        by (cause.NotRegistered o) h = unnamed (client m w k) limited rules x f o h.0 (ap (λ (s : m.state). m.registered s o) (dir k) ∙ h.1)
        by (cause.NotHosted o) h = unhosted (client m w k) limited rules x f o h.0 h.1
        by (cause.TooMany what) h = too_many (client m w k) limited rules x f what h
        by (cause.TooLarge n) h = let a = (within (client m w k) limited rules x f).small in let b = h.0 in let e = h.1 in absurd (omega (arith, a, b, e))
        by (cause.NotClosed r) h = unfaulted (client m w k) limited rules x f (cause.NotClosed r) h
        by (cause.NoStripe r s) h = unfaulted (client m w k) limited rules x f (cause.NoStripe r s) h
        by (cause.InChain u) h = unfaulted (client m w k) limited rules x f (cause.InChain u) h
        by (cause.Returned u) h = unfaulted (client m w k) limited rules x f (cause.Returned u) h
        by (cause.NoReplica r s) h = unfaulted (client m w k) limited rules x f (cause.NoReplica r s) h
        by why h = h

  -- A refusal is told in the step.

  module _ (w : World m) (k : ℕ) (x : CommandOf m) where
    abbrev c : Client m
    c = client m w k

    abbrev seen : World m
    seen = noted_if m (is_some (client m w k).work) w k (client m w k)

    seen_told : (b : Bool) → (noted_if m b w k (client m w k)).told ≡ w.told
    seen_told true = refl
    seen_told false = refl

    abbrev refused : Refusal → Told m
    refused why = mark_of m seen k (note m (number_on m c why) (told.Refused why))

    told_so : (why : Refusal) → runs m w (client_id k) ≡ true → refusal m c x ≡ Some why → (happens m w (Commands k x)).told ≡ w.told ++ refused why ∷ []
    unfolding happens client_turned client_command
    told_so why on is =
        ap (λ (b : Bool). (commands m b w k x).told) on
        ∙ (ap (λ (o : Option Refusal). seen.told ++ map (mark_of m seen k) (refused_or m c x o).notes) is
        ∙ ap (λ (ts : List (Told m)). ts ++ refused why ∷ []) (seen_told (is_some (client m w k).work)))

    refuses : (why : Refusal) → runs m w (client_id k) ≡ true → refusal m c x ≡ Some why → Answers m w (Commands k x) k (IsRefused m)
    refuses why on is = record {
      told = refused why;
      says = record { replies = refused why ∷ []; are = told_so why on is; here = contained (refused why ∷ []) (refused why) (inl refl) };
      client = refl;
      holds = (why, refl);
    }

  pub causes_refuse_here : (h : Header) (ms : Moves m) (w : World m) (e : EventOf m) → Reaches m h ms w → DirectoryTrue m w → CausesRefuse m w e
  causes_refuse_here h ms w e r dir k x why ev on because =
      subst (λ (y : EventOf m). Answers m w y k (IsRefused m)) (sym ev) (by (refusal m (client m w k) x) refl)
    where
      by : (o : Option Refusal) → refusal m (client m w k) x ≡ o → Answers m w (Commands k x) k (IsRefused m)
      by None is = absurd (contrary w k x (all_limited h ms w r k) (stands_sound h ms w r k) dir is why because)
      by (Some y) is = refuses w k x y on is
