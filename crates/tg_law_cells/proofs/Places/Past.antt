-- What follows a settled page, in whatever layout.
use Rattle.std.proofs.Common.{◌≡◌, ◌⊎◌, ℕ, suc, ◌+◌, ◌-◌, ◌<◌, ◌≤◌, ◌++◌, List, sym, ap, ◌∙◌, subst, inl, inr, arith}
use Rattle.tg_base.specs.Clusters.{Header, IsHeader}
use Rattle.tg_base.specs.Layouts.{Layout}
use Rattle.tg_base.specs.declared.cell.Cell.TheVariants.{Data}
use Rattle.tg_base.specs.declared.ids.Oid.{Oid}
use Rattle.tg_base.specs.declared.marks.StreamLink.{StreamLink}
use Rattle.tg_base.specs.declared.msg.Msg.{Msg}
use Rattle.tg_base.specs.declared.packet.Packet.{Packet}
use Rattle.tg_kind.specs.Meaning.{Meaning}
use Rattle.tg_protocol.specs.Entries.{streams_of}
use Rattle.tg_protocol.specs.Layouts.{first_layout}
use Rattle.tg_protocol.specs.Chosen.{Sent, IsDecided}
use Rattle.tg_protocol.specs.Runs.{Moves, LawfulCommand, Reaches, Passes, run}
use Rattle.tg_protocol.specs.Worlds.{World, start}
use Rattle.tg_law_layouts.specs.Moves.After.{after}
use Rattle.tg_law_layouts.specs.Moves.Configs.{config, seqr_in}
use Rattle.tg_law_layouts.proofs.Moves.Lists.{contained}
use Rattle.tg_law_layouts.proofs.Moves.Members.{Has, has_contained}
use Rattle.tg_law_layouts.proofs.Moves.Moves.{AllGive, run_keeps}
use Rattle.tg_law_layouts.proofs.Moves.Scripts.{run_both}
use Rattle.tg_law_layouts.proofs.Requests.Numbers.{numbers_once}
use Rattle.tg_law_layouts.specs.Layouts.Decisions.{IsOfDecided}
use Rattle.tg_law_layouts.proofs.Layouts.Layouts.{more}
use Rattle.tg_law_layouts.proofs.Layouts.Deciding.{K, known, decided_for, layouts_are_sound, one_layout}
use Rattle.tg_law_cells.specs.Cells.Settled.{IsSettled}
use Rattle.tg_law_cells.proofs.Cells.Sent.{told_grows}
use Rattle.tg_law_cells.proofs.Cells.Settles.{settled_below}
use Rattle.tg_law_cells.proofs.Cells.Settling.{roots, told_here, told_by}
use Rattle.tg_law_cells.proofs.Cells.Successors.{words}
use Rattle.tg_law_cells.specs.Tokens.Issuing.{Issued, IsOwnPage, IsNamed}
use Rattle.tg_law_cells.proofs.Tokens.Issues.{Low, low_holds, asked_of, same_asked, token_epoch}
use Rattle.tg_law_cells.proofs.Tokens.Named.{issuer_is_named}
use Rattle.tg_law_cells.proofs.Tokens.Own.{own_page, pages_hold, pages_are_own}
use Rattle.tg_law_cells.proofs.Tokens.Sent.{Justified}
use Rattle.tg_law_cells.proofs.Homes.Homing.{HomeAt, settled_home}
use Rattle.tg_law_cells.specs.Order.Tails.{EachPassed, IssuedSince}
use Rattle.tg_law_cells.specs.Order.Later.{ToldSince}
use Rattle.tg_law_cells.proofs.Order.Later as tails
use Rattle.tg_law_cells.proofs.Order.Tails as tokens
use Rattle.tg_law_cells.proofs.Order.Tails.{Passed}
use Rattle.tg_law_cells.specs.Places.Late.{WasSent}
use Rattle.tg_law_cells.specs.Places.Past.{NewPagesRise, ServedTailsPast}
use Rattle.tg_law_cells.proofs.Places.Late.{late_pages, homes}
use Rattle.tg_law_cells.proofs.Places.Left.{passed_lawful, served_chains_are_late, line, up_known, was_known}
use Rattle.tg_law_cells.proofs.Places.Tails.{new_unsent}

apart_more : (a b : ℕ) → a < b → (n : ℕ) × (b ≡ a + suc n)
apart_more a b less = (b - a - 1, by a b less)
  where
    by : (x y : ℕ) → x < y → y ≡ x + suc (y - x - 1)
    by x y less = grind arith

-- In one epoch.

module _ (m : Meaning) where
  -- what a sequencer issues, and tells, in an epoch after it issued a position there
  pub record Rises (u v : World m) : Type 0 where
    pub issued : (s epoch pos later : ℕ) (os : List Oid) (ls : List StreamLink) → Issued m u s epoch pos os ls → IssuedSince m u v s epoch later → pos < later
    pub told : (s epoch pos tail : ℕ) (os : List Oid) (ls : List StreamLink) → Issued m u s epoch pos os ls → ToldSince m u v s epoch tail → pos < tail

  module _ (h : Header) (xs ys : Moves m) where
    abbrev u : World m
    u = after m h xs

    abbrev w : World m
    w = run m ys (after m h xs)

    passed : (s epoch pos : ℕ) (os : List Oid) (ls : List StreamLink) → Issued m (after m h xs) s epoch pos os ls → Passed (seqr_in m (config m (after m h xs)) s) epoch (pos + 1)
    passed s epoch pos os ls i =
        let low = low_holds m h xs in
        let o = low.1.ours s i.answer pos ls (has_contained _ i.answer i.answered) i.from_seqr i.issues in
        let same = token_epoch o.epoch epoch o.os os (same_asked u.packets (numbers_once m (config m u) low.0.0.0) i.answer o.epoch epoch o.os os o.asked (asked_of m u s epoch pos os ls i)) in
        record { up = let a = o.up in omega (arith, a, same); here = λ e. let k = o.here (same ∙ e) in let a = k.0 in let b = k.1 in (omega (arith, a, b), omega (arith, b)) }

    issued_rise : (s epoch pos later : ℕ) (os : List Oid) (ls : List StreamLink) → Issued m (after m h xs) s epoch pos os ls → IssuedSince m (after m h xs) (run m ys (after m h xs)) s epoch later → pos < later
    issued_rise s epoch pos later os ls i j =
        by (since.1.each j.issued.answer later j.links j.streams (has_contained _ j.issued.answer j.issued.answered) j.issued.from_seqr j.issued.issues (asked_of m (run m ys (after m h xs)) s epoch later j.streams j.links j.issued))
      where
        since : Low m (config m (run m ys (after m h xs))) × tokens.Since m s epoch (pos + 1) (after m h xs).packets (config m (run m ys (after m h xs)))
        since = run_keeps m (λ c. Low m c × tokens.Since m s epoch (pos + 1) (after m h xs).packets c) (tokens.since_keeps m s epoch (pos + 1) (after m h xs).packets) ys (after m h xs)
            (low_holds m h xs, record { passed = passed s epoch pos os ls i; each = λ a p ks oz has from is k. inl has })

        by : Has (after m h xs).packets j.issued.answer ⊎ (pos + 1 ≤ later) → pos < later
        by (inl old) = absurd (j.since (contained (after m h xs).packets j.issued.answer old))
        by (inr le) = omega (arith, le)

    told_rise : (s epoch pos tail : ℕ) (os : List Oid) (ls : List StreamLink) → Issued m (after m h xs) s epoch pos os ls → ToldSince m (after m h xs) (run m ys (after m h xs)) s epoch tail → pos < tail
    told_rise s epoch pos tail os ls i t =
        by (since.1.each t.told.answer tail t.told.links t.told.streams (has_contained _ t.told.answer t.told.answered) t.told.from_seqr t.told.tells check)
      where
        check : tails.Checked (run m ys (after m h xs)).packets t.told.answer epoch t.told.streams
        check = record { ask = t.told.ask; has = has_contained _ t.told.ask t.told.asked; to = t.told.to_seqr ∙ sym t.told.from_seqr; from = sym t.told.back; rid = sym t.told.number; is = t.told.asks }

        since : (Low m (config m (run m ys (after m h xs))) × tokens.Tails m (config m (run m ys (after m h xs)))) × tails.Since m s epoch (pos + 1) (after m h xs).packets (config m (run m ys (after m h xs)))
        since = run_keeps m (λ c. (Low m c × tokens.Tails m c) × tails.Since m s epoch (pos + 1) (after m h xs).packets c) (tails.since_keeps m s epoch (pos + 1) (after m h xs).packets) ys (after m h xs)
            (tokens.both_hold m h xs, record { passed = passed s epoch pos os ls i; each = λ a p ks oz has from is k. inl has })

        by : Has (after m h xs).packets t.told.answer ⊎ (pos + 1 ≤ tail) → pos < tail
        by (inl old) = absurd (t.since (contained (after m h xs).packets t.told.answer old))
        by (inr le) = omega (arith, le)

  rises : EachPassed m Rises
  rises = passed_lawful m Rises (λ h xs ys header a b. subst (λ (y : World m). Rises (after m h xs) y) (sym (run_both m xs ys (start m h)))
      (record { issued = λ s e p l os ls i j. issued_rise h xs ys s e p l os ls i j; told = λ s e p t os ls i j. told_rise h xs ys s e p t os ls i j }))

  -- A settled page was issued in an epoch, and each later layout starts past it.

  pub record Taken (u v : World m) (pos : ℕ) : Type 0 where
    pub layout : Layout
    pub decided : IsOfDecided m u layout
    pub seqr : ℕ
    pub streams : List Oid
    pub links : List StreamLink
    pub issued : Issued m u seqr layout.epoch pos streams links
    pub kept : Issued m v seqr layout.epoch pos streams links
    pub stays : IsOfDecided m v layout
    pub past : (q : Layout) → IsOfDecided m v q → layout.epoch < q.epoch → pos < q.start

  abbrev SettledTaken : World m → World m → Type 0
  SettledTaken u v = (pos : ℕ) (page : List ℕ) → IsSettled m u pos (Data page) → Taken u v pos

  module _ (h : Header) (xs ys : Moves m) (header : IsHeader h) (first : AllGive m (LawfulCommand m) xs) (give : AllGive m (LawfulCommand m) (xs ++ ys)) where
    up_sent : (p : Packet) → Sent m (after m h xs) p → Sent m (after m h (xs ++ ys)) p
    up_sent p g = contained _ p (more m h xs ys p (has_contained _ p g))

    taken_here : SettledTaken (after m h xs) (after m h (xs ++ ys))
    taken_here pos page s = record {
      layout = a.layout;
      decided = decided_for m h xs header first a.layout a.decided;
      seqr = o.seqr;
      streams = streams_of o.draft;
      links = o.links;
      issued = issued;
      kept = record {
        ask = issued.ask;
        answer = issued.answer;
        asked = up_sent issued.ask issued.asked;
        answered = up_sent issued.answer issued.answered;
        to_seqr = issued.to_seqr;
        from_seqr = issued.from_seqr;
        back = issued.back;
        number = issued.number;
        asks = issued.asks;
        issues = issued.issues;
      };
      stays = decided_for m h (xs ++ ys) header give a.layout (up_known m h xs ys header first give a.layout a.decided);
      past = λ q dq less. past q ((known m h (xs ++ ys) q.epoch q dq).0) less (le_or_more q.epoch s.layout.epoch);
    }
      where
        le_or_more : (e f : ℕ) → (e ≤ f) ⊎ (f < e)
        le_or_more e f = grind arith

        ks : K m h xs s.layout
        ks = (known m h xs s.layout.epoch s.layout s.decided).0

        a : HomeAt words (K m h xs) (after m h xs).packets pos page s.layout.epoch
        a = settled_home words (K m h xs) (after m h xs).packets (line m h xs header first) (roots m h xs header first (told_here m h xs header first)).tells (homes m h xs header first).tells s.layout.epoch pos page
            (record { layout = s.layout; decided = ks; up_to = omega arith; told = λ k less. told_by _ _ _ _ (Data page) (s.told k less) }) s.layout.epoch (omega arith)

        o : IsOwnPage m (after m h xs) a.write.from a.epoch pos page
        o = own_page m (after m h xs) a.write.from a.epoch pos page (subst (λ (y : Msg). Justified (after m h xs).packets a.write.from a.write.to y) a.is ((pages_hold m h xs).sent a.write a.sent))

        issued : Issued m (after m h xs) o.seqr a.layout.epoch pos (streams_of o.draft) o.links
        issued = subst (λ (e : ℕ). Issued m (after m h xs) o.seqr e pos (streams_of o.draft) o.links) (sym a.of) o.issued

        past : (q : Layout) → K m h (xs ++ ys) q → a.layout.epoch < q.epoch → (q.epoch ≤ s.layout.epoch) ⊎ (s.layout.epoch < q.epoch) → pos < q.start
        past q k less (inl le) = let of = a.of in a.past q (was_known m h xs ys header first give q s.layout k ks le) (omega (arith, of, less)) le
        past q k less (inr late) =
            let n = apart_more s.layout.epoch q.epoch late in
            settled_below words (K m h (xs ++ ys)) (after m h (xs ++ ys)).packets (line m h (xs ++ ys) header give) n.0 s.layout q pos (Data page) (up_known m h xs ys header first give s.layout ks) k n.1
            (λ i within. told_grows (after m h xs).packets (after m h (xs ++ ys)).packets (more m h xs ys) _ _ _ (Data page) (told_by _ _ _ _ (Data page) (s.told i within)))

  taken : EachPassed m SettledTaken
  taken = passed_lawful m SettledTaken (λ h xs ys a b c. taken_here h xs ys a b c)

  -- So what follows it.

  module _ (h : Header) (ms : Moves m) (u v : World m) (r : Reaches m h ms v) (x : Passes m h ms u) where
    equal_or_more : (e f : ℕ) → e ≤ f → (e ≡ f) ⊎ (e < f)
    equal_or_more e f le = grind arith

    positive : (q : Layout) → IsOfDecided m v q → 0 < q.epoch
    positive q (inl d) = let e = d.0 in omega (arith, e)
    positive q (inr d) = let e = d.0 in omega (arith, e)

    -- the layout in which a position was issued names its sequencer
    names : (pos : ℕ) → (t : Taken u v pos) → t.layout.seq ≡ t.seqr
    names pos t =
        let n = issuer_is_named m h ms v r t.seqr t.layout.epoch pos t.streams t.links t.kept (positive t.layout t.stays) in
        ap (λ (q : Layout). q.seq) (one_layout m h ms v r t.layout.epoch t.layout n.layout t.stays n.decided) ∙ n.names

    pages_rise : NewPagesRise m u v
    pages_rise pos later page next s z new = by (late_pages m h ms u v r x later next z t.layout t.decided)
      where
        t : Taken u v pos
        t = taken h ms u v r x pos page s

        sent : (y : WasSent m v t.layout.epoch later next) → (o : IsOwnPage m v y.packet.from y.epoch later next) → pos < later
        sent y o = at (equal_or_more t.layout.epoch y.epoch y.late)
          where
            named : IsNamed m v o.seqr y.epoch later
            named = issuer_is_named m h ms v r o.seqr y.epoch later (streams_of o.draft) o.links o.issued (let a = positive t.layout t.stays in let b = y.late in omega (arith, a, b))

            since : IssuedSince m u v o.seqr y.epoch later
            since = record { streams = streams_of o.draft; links = o.links; issued = o.issued; since = λ g. new y.packet o.seqr y.epoch (streams_of o.draft) o.links y.sent y.is o.issued o.own g }

            at : (t.layout.epoch ≡ y.epoch) ⊎ (t.layout.epoch < y.epoch) → pos < later
            at (inl e) =
                let one = one_layout m h ms v r y.epoch t.layout named.layout (subst (λ (n : ℕ). IsDecided m v n t.layout) e t.stays) named.decided in
                let same : o.seqr ≡ t.seqr = sym (ap (λ (q : Layout). q.seq) one ∙ named.names) ∙ names pos t in
                (rises h ms u v r x).issued t.seqr t.layout.epoch pos later t.streams t.links t.issued (subst (λ (n : ℕ). IssuedSince m u v n t.layout.epoch later) same (subst (λ (n : ℕ). IssuedSince m u v o.seqr n later) (sym e) since))
            at (inr less) =
                let of = (layouts_are_sound m h ms v r y.epoch named.layout named.decided).epoch in
                let a = t.past named.layout (subst (λ (n : ℕ). IsDecided m v n named.layout) (sym of) named.decided) (omega (arith, less, of)) in
                let b = named.past in
                omega (arith, a, b)

        by : WasSent m u 0 later next ⊎ WasSent m v t.layout.epoch later next → pos < later
        by (inl y) = absurd (new_unsent m h ms u v r x 0 later next new y)
        by (inr y) = sent y (pages_are_own m h ms v r y.packet y.epoch later next y.sent y.is)

    tails_past : ServedTailsPast m u v
    tails_past pos tail at page p s dp told served = by (equal_or_more t.layout.epoch p.epoch (served_chains_are_late m h ms u v r x p t.layout at dp served t.decided))
      where
        t : Taken u v pos
        t = taken h ms u v r x pos page s

        under : tails.Under m v.packets (first_layout v.cluster) p.seq p.epoch tail
        under = tails.under_of m h ms u v r x p.seq p.epoch tail (positive p dp) told.told

        by : (t.layout.epoch ≡ p.epoch) ⊎ (t.layout.epoch < p.epoch) → pos < tail
        by (inl e) =
            let one = one_layout m h ms v r p.epoch t.layout p (subst (λ (n : ℕ). IsDecided m v n t.layout) e t.stays) dp in
            let same : p.seq ≡ t.seqr = sym (ap (λ (q : Layout). q.seq) one) ∙ names pos t in
            (rises h ms u v r x).told t.seqr t.layout.epoch pos tail t.streams t.links t.issued (subst (λ (n : ℕ). ToldSince m u v n t.layout.epoch tail) same (subst (λ (n : ℕ). ToldSince m u v p.seq n tail) (sym e) told))
        by (inr less) =
            let of = under.epoch in
            let a = t.past under.layout (tails.decided_of m h ms u v r x under.layout under.known) (omega (arith, less, of)) in
            let b = under.past in
            omega (arith, a, b)

  pub new_pages_rise : EachPassed m (NewPagesRise m)
  new_pages_rise h ms u v r x = pages_rise h ms u v r x

  pub served_tails_past : EachPassed m (ServedTailsPast m)
  served_tails_past h ms u v r x = tails_past h ms u v r x
