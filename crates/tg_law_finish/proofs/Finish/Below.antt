-- What is settled lies below what a serving sequencer issues next, and so does all that units have trimmed.
use Rattle.std.proofs.Common.{◌≡◌, ◌⊎◌, ℕ, zero, suc, ◌<◌, ◌≤◌, List, Bool, true, false, refl, sym, ap, ◌∙◌, subst, inl, inr, arith, Some, None, Option}
use Rattle.std.specs.Prelude.{nat_lt, Contains}
use Rattle.tg_base.specs.Clusters.{Header}
use Rattle.tg_base.specs.Layouts.{Layout}
use Rattle.tg_base.specs.declared.cell.Cell.{Cell}
use Rattle.tg_base.specs.declared.ids.Oid.{Oid}
use Rattle.tg_base.specs.declared.marks.StreamLink.{StreamLink}
use Rattle.tg_base.specs.declared.msg.Msg.{Msg}
use Rattle.tg_base.specs.declared.msg.Msg.TheVariants as msg
use Rattle.tg_base.proofs.Rules.{layout_rules}
use Rattle.tg_kind.specs.Meaning.{Meaning}
use Rattle.tg_protocol.specs.Words.{cell_at}
use Rattle.tg_protocol.specs.Layouts.{chain_of}
use Rattle.tg_protocol.specs.Cells.{place_in, unit_at}
use Rattle.tg_protocol.specs.Units.{unit_ask}
use Rattle.tg_protocol.specs.Sequencers.{SeqrState}
use Rattle.tg_protocol.specs.Worlds.{start, unit, seqr, latest}
use Rattle.tg_protocol.specs.Chosen.{IsDecided}
use Rattle.tg_protocol.specs.Runs.{Moves, Reaches, LawfulCommand}
use Rattle.tg_protocol.specs.Finishing.{IsServing}
use Rattle.tg_protocol.specs.Holding.{HasCell}
use Rattle.tg_law_layouts.specs.Moves.After.{after}
use Rattle.tg_law_layouts.specs.Moves.Configs.{config}
use Rattle.tg_law_layouts.specs.Moves.Telling.{claimed, claim, is_request}
use Rattle.tg_law_layouts.proofs.Moves.Always.{lawful_give}
use Rattle.tg_law_layouts.proofs.Moves.Lists.{contained}
use Rattle.tg_law_layouts.proofs.Moves.Members.{has_contained}
use Rattle.tg_law_layouts.proofs.Moves.Moves.{AllGive}
use Rattle.tg_law_layouts.proofs.Requests.Numbers.{numbers_once}
use Rattle.tg_law_layouts.proofs.Requests.Starts.{all_hold}
use Rattle.tg_law_layouts.proofs.Requests.Told.{NumbersOnce, Tells}
use Rattle.tg_law_layouts.specs.Layouts.Decisions.{IsOfDecided}
use Rattle.tg_law_layouts.proofs.Layouts.Deciding.{known, one_layout, latest_decided, layouts_are_known, layouts_are_sound}
use Rattle.tg_law_cells.specs.Cells.Chains.{ToldUpTo}
use Rattle.tg_law_cells.specs.Cells.Settled.{IsSettled}
use Rattle.tg_law_cells.specs.Entries.Archive.{TrimsWereSafe}
use Rattle.tg_law_cells.specs.Tokens.Issuing.{Issued}
use Rattle.tg_law_cells.proofs.Cells.Befores.{has_at}
use Rattle.tg_law_cells.proofs.Cells.Settling.{facts, told_here, told_by}
use Rattle.tg_law_cells.proofs.Cells.Justified.{ToldBy}
use Rattle.tg_law_cells.proofs.Cells.Successors.{some_there}
use Rattle.tg_law_cells.proofs.Entries.Archive.{log_is_settled, trimmed_is_in_log}
use Rattle.tg_law_cells.proofs.Homes.Homes.{settled_is_below}
use Rattle.tg_law_cells.proofs.Tokens.Issues.{low_holds, asked_of, same_asked, token_epoch}
use Rattle.tg_law_cells.proofs.Tokens.Named.{naming_holds}
use Rattle.tg_law_walks.specs.Lists.Telling.{asks_links, tells_links}
use Rattle.tg_law_headline.specs.Issues.Issues.{position_named, TailTold, IsBelow, BelowStart, WasIssued, BelowTail, TrimsInTime}
use Rattle.tg_law_headline.proofs.Issues.Sent.{named_pair}
use Rattle.tg_law_headline.proofs.Issues.Tails.{asked_pair, told_pair, tails_hold}
use Rattle.tg_law_headline.proofs.Issues.Stored.{StoredBy, stored_hold}
use Rattle.tg_law_headline.proofs.Issues.Positions.{below_here}

-- a request on whose answer a unit tells a cell names its position
claim_names : (x y : Msg) (e p : ℕ) (c : Cell) → claimed (unit_ask x) y ≡ claim e p c → position_named x ≡ named_pair e p
unfolding claimed unit_ask position_named
claim_names x y e p c h = grind arith

tail_tells : (t : ℕ) (ls : List StreamLink) → tells_links (msg.Tail t ls) ≡ told_pair t ls
unfolding tells_links
tail_tells t ls = refl

check_asks : (e : ℕ) (os : List Oid) → asks_links (msg.Check e os) ≡ asked_pair e os
unfolding asks_links
check_asks e os = refl

check_requests : (e : ℕ) (os : List Oid) → is_request (msg.Check e os) ≡ true
unfolding is_request
check_requests e os = refl

which : (a b : ℕ) → a ≤ b → (a < b) ⊎ (a ≡ b)
which a b le = grind (arith, le)

module _ (m : Meaning) (h : Header) (zs : Moves m) (r : Reaches m h zs (after m h zs)) where
  abbrev q : Layout
  q = latest m (after m h zs)

  abbrev s : SeqrState
  s = seqr m (after m h zs) (latest m (after m h zs)).seq

  decided : IsOfDecided m (after m h zs) q
  decided = (latest_decided m h zs (after m h zs) r).decided

  pub once : (p : Layout) (e : ℕ) → IsDecided m (after m h zs) e p → e ≡ q.epoch → p ≡ q
  once p e d i = one_layout m h zs (after m h zs) r q.epoch p q (subst (λ n. IsDecided m (after m h zs) n p) i d) decided

  pub greatest : (p : Layout) → IsOfDecided m (after m h zs) p → p.epoch ≤ q.epoch
  greatest p d = (latest_decided m h zs (after m h zs) r).greatest p.epoch p d

  numbers : NumbersOnce (after m h zs).packets
  numbers = numbers_once m (config m (after m h zs)) (all_hold m h zs).0.0

  give : AllGive m (LawfulCommand m) zs
  give = lawful_give m (start m h).cluster zs r.goes.lawful

  -- epochs begin with 1
  one_of : (e : ℕ) (p : Layout) → IsDecided m (after m h zs) e p → 1 ≤ e
  one_of e p d = let k = layouts_are_sound m h zs (after m h zs) r e p d in let a = (layout_rules p k.rules).epoch in let b = k.epoch in omega (arith, a, b)

  pub some : 1 ≤ q.epoch
  some = one_of q.epoch q decided

  epoch_some : (e p : ℕ) → IsBelow m (after m h zs) e p → 1 ≤ e
  epoch_some e p (BelowStart l d less) = one_of e l d
  epoch_some e p (WasIssued l d os ls i) = one_of e l d
  epoch_some e p (BelowTail l d t i less) = one_of e l d

  -- its sequencer stands in no later epoch
  seqr_up : s.epoch ≤ q.epoch
  seqr_up = by s.epoch refl
    where
      by : (e : ℕ) → s.epoch ≡ e → s.epoch ≤ q.epoch
      by zero is = omega (arith, is)
      by (suc e) is =
          let k = ((naming_holds m h zs).seqs q.seq).own (omega (arith, is)) in
          let same = k.0 in
          let up = greatest s.proj ((layouts_are_known m h zs (after m h zs) r).seqrs q.seq) in
          omega (arith, same, up)

  -- A position past the epoch's start, and past what its sequencer issues next where that stands in the epoch.
  module _ (top : ℕ) (starts : q.start ≤ top) (next : s.epoch ≡ q.epoch → s.next ≤ top) where
    issued_under : (e p : ℕ) (os : List Oid) (ls : List StreamLink) → Issued m (after m h zs) q.seq e p os ls → e ≡ q.epoch → p < top
    issued_under e p os ls i at =
        let o = (low_holds m h zs).1.ours q.seq i.answer p ls (has_contained _ i.answer i.answered) i.from_seqr i.issues in
        let same = token_epoch o.epoch e o.os os (same_asked (after m h zs).packets numbers i.answer o.epoch e o.os os o.asked (asked_of m (after m h zs) q.seq e p os ls i)) in
        let up = o.up in
        let low = seqr_up in
        let is : s.epoch ≡ q.epoch = omega (arith, same, at, up, low) in
        let less = (o.here (same ∙ (at ∙ sym is))).1 in
        let le = next is in
        omega (arith, less, le)

    tail_under : (e t : ℕ) → TailTold m (after m h zs) q.seq e t → e ≡ q.epoch → t ≤ top
    tail_under e t i at =
        let o = (tails_hold m h zs).told q.seq i.answer t i.links (has_contained _ i.answer i.answered) i.from_seqr (ap tells_links i.tells ∙ tail_tells t i.links) in
        let same : o.ask.msg ≡ i.ask.msg = numbers.same o.ask i.ask o.has (has_contained _ i.ask i.asked) o.request (ap is_request i.asks ∙ check_requests e i.streams) (o.from ∙ i.back) (o.to ∙ (i.from_seqr ∙ sym i.to_seqr)) (o.rid ∙ i.number) in
        let told = o.up e i.streams (ap asks_links (same ∙ i.asks) ∙ check_asks e i.streams) in
        let up = told.0 in
        let low = seqr_up in
        let is : s.epoch ≡ q.epoch = omega (arith, at, up, low) in
        let less = told.1 (at ∙ sym is) in
        let le = next is in
        omega (arith, less, le)

    none_under : (e p : ℕ) → IsBelow m (after m h zs) e p → e ≡ q.epoch → p < top
    none_under e p (BelowStart l d less) at = let a = ap (λ (x : Layout). x.start) (once l e d at) in omega (arith, less, a, starts)
    none_under e p (WasIssued l d os ls i) at = issued_under e p os ls (subst (λ n. Issued m (after m h zs) n e p os ls) (ap (λ (x : Layout). x.seq) (once l e d at)) i) at
    none_under e p (BelowTail l d t i less) at = let a = tail_under e t (subst (λ n. TailTold m (after m h zs) n e t) (ap (λ (x : Layout). x.seq) (once l e d at)) i) at in omega (arith, less, a)

    module _ (trims : TrimsInTime m (after m h zs)) where
      -- what a unit of the latest layout's chain has told
      told_under : (pos : ℕ) (c : Cell) → ToldUpTo (after m h zs).packets (unit_at (place_in q pos) 0) q.epoch pos c → pos < top
      told_under pos c t = by (which t.claim.epoch q.epoch t.up_to)
        where
          named : IsBelow m (after m h zs) t.claim.epoch t.claim.pos
          named = below_here m h zs r trims t.told.ask t.claim.epoch t.claim.pos t.told.asked (claim_names t.told.ask.msg t.told.answer.msg t.claim.epoch t.claim.pos t.claim.cell t.told.tells)

          tells : ToldBy (after m h zs).packets (unit_at (place_in q pos) 0) q.epoch pos c
          tells = told_by (after m h zs).packets (unit_at (place_in q pos) 0) q.epoch pos c t

          by : (t.claim.epoch < q.epoch) ⊎ (t.claim.epoch ≡ q.epoch) → pos < top
          by (inl less) =
              let line = facts m h zs r.header give (told_here m h zs r.header give) in
              let kq = (known m h zs q.epoch q decided).0 in
              let first = epoch_some t.claim.epoch t.claim.pos named in
              let le = tells.epoch in
              let old = line.sealed q (unit_at (place_in q pos) 0) t.claim kq (omega (arith, first, less)) (line.stands q pos (unit_at (place_in q pos) 0) kq (has_at (chain_of q pos) 0 (line.some q pos kq))) (tells_it t) less in
              let at = t.at in
              omega (arith, old, starts, at)
            where
              tells_it : (x : ToldUpTo (after m h zs).packets (unit_at (place_in q pos) 0) q.epoch pos c) → Tells (after m h zs).packets (unit_at (place_in q pos) 0) x.claim
              tells_it x = record { ask = x.told.ask; answer = x.told.answer; asked = has_contained _ x.told.ask x.told.asked; answered = has_contained _ x.told.answer x.told.answered; to_unit = x.told.to_unit; from_unit = x.told.from_unit; back = x.told.back; number = x.told.number; tells = x.told.tells }
          by (inr same) = let a = none_under t.claim.epoch t.claim.pos named same in let at = t.at in omega (arith, a, at)

      pub settled_under : (pos : ℕ) (c : Cell) → IsSettled m (after m h zs) pos c → pos < top
      settled_under pos c g = by (which g.layout.epoch q.epoch (greatest g.layout g.decided))
        where
          by : (g.layout.epoch < q.epoch) ⊎ (g.layout.epoch ≡ q.epoch) → pos < top
          by (inl less) = let a = settled_is_below m h zs (after m h zs) r pos c g q decided less in omega (arith, a, starts)
          by (inr same) = told_under pos c (subst (λ (l : Layout). ToldUpTo (after m h zs).packets (unit_at (place_in l pos) 0) l.epoch pos c) (once g.layout g.layout.epoch g.decided same)
              (g.told 0 (some_there g.layout pos (layouts_are_sound m h zs (after m h zs) r g.layout.epoch g.layout g.decided).rules)))

  module _ (serves : IsServing s q.epoch) where
    own : s.proj ≡ q
    own =
        let e = serves.epoch in
        let k = ((naming_holds m h zs).seqs q.seq).own (let a = some in omega (arith, e, a)) in
        once s.proj s.proj.epoch ((layouts_are_known m h zs (after m h zs) r).seqrs q.seq) (k.0 ∙ serves.epoch)

    -- the epoch starts at or below what is issued next
    pub past : q.start ≤ s.next
    past = subst (λ (p : Layout). p.start ≤ s.next) own serves.scanned

    itself : s.epoch ≡ q.epoch → s.next ≤ s.next
    itself e = omega arith

    pub issued_below : (e p : ℕ) (os : List Oid) (ls : List StreamLink) → Issued m (after m h zs) q.seq e p os ls → e ≡ q.epoch → p < s.next
    issued_below = issued_under s.next past itself

    pub none_below : (e p : ℕ) → IsBelow m (after m h zs) e p → e ≡ q.epoch → p < s.next
    none_below = none_under s.next past itself

    module _ (trims : TrimsInTime m (after m h zs)) where
      -- what a unit of the latest layout holds lies below
      pub unwritten_past : (u pos : ℕ) → s.next ≤ pos → Contains (chain_of q pos) u → (unit m (after m h zs) u).epoch ≡ q.epoch → cell_at (unit m (after m h zs) u).cells pos ≡ None
      unwritten_past u pos from there stands = by (cell_at (unit m (after m h zs) u).cells pos) refl
        where
          stored : (c : Cell) → StoredBy (after m h zs).packets u (unit m (after m h zs) u).epoch pos c → ⊥
          stored c k = of (which k.of q.epoch (let a = k.up_to in omega (arith, a, stands)))
            where
              tells : Tells (after m h zs).packets u (record { epoch = k.of; pos = pos; cell = c })
              tells = record { ask = k.ask; answer = k.answer; asked = k.asked; answered = k.answered; to_unit = k.to_unit; from_unit = k.from_unit; back = k.back; number = k.number; tells = ap (λ (y : Msg). claimed (unit_ask k.ask.msg) y) k.held ∙ k.tells }

              of : (k.of < q.epoch) ⊎ (k.of ≡ q.epoch) → ⊥
              of (inl less) =
                  let line = facts m h zs r.header give (told_here m h zs r.header give) in
                  let kq = (known m h zs q.epoch q decided).0 in
                  let a = k.some in
                  let below = line.sealed q u (record { epoch = k.of; pos = pos; cell = c }) kq (omega (arith, a, less)) (line.stands q pos u kq (has_contained _ u there)) tells less in
                  let b = past in
                  omega (arith, below, b, from)
              of (inr same) =
                  let a = none_below k.of pos (below_here m h zs r trims k.ask k.of pos (contained (after m h zs).packets k.ask k.asked) (claim_names k.ask.msg msg.Held k.of pos c k.tells)) same in
                  omega (arith, a, from)

          by : (o : Option Cell) → cell_at (unit m (after m h zs) u).cells pos ≡ o → o ≡ None
          by None e = refl
          by (Some c) e = absurd (stored c (((stored_hold m h zs) u).1 pos c e))

      settled_below : (pos : ℕ) (c : Cell) → IsSettled m (after m h zs) pos c → pos < s.next
      settled_below = settled_under s.next past itself trims

      module _ (safe : TrimsWereSafe m h zs) where
        pub trimmed_settled : (u p : ℕ) → p < (unit m (after m h zs) u).low → (c : Cell) × IsSettled m (after m h zs) p c
        trimmed_settled u p less = by (trimmed_is_in_log m h zs (after m h zs) r safe u p less)
          where
            by : HasCell m (after m h zs) p → (c : Cell) × IsSettled m (after m h zs) p c
            by g = (g.0, (log_is_settled m h zs (after m h zs) r safe).settled p g.0 g.1)

        pub lows_below : (u : ℕ) → (unit m (after m h zs) u).low ≤ s.next
        lows_below u = by (nat_lt s.next (unit m (after m h zs) u).low) refl
          where
            is_less : (a b : ℕ) → nat_lt a b ≡ true → a < b
            is_less a b e = grind arith

            not_less : (a b : ℕ) → nat_lt a b ≡ false → b ≤ a
            not_less a b e = grind arith

            by : (b : Bool) → nat_lt s.next (unit m (after m h zs) u).low ≡ b → (unit m (after m h zs) u).low ≤ s.next
            by true e = let g = trimmed_settled u s.next (is_less s.next (unit m (after m h zs) u).low e) in let a = settled_below s.next g.0 g.1 in absurd (omega (arith, a))
            by false e = not_less s.next (unit m (after m h zs) u).low e
