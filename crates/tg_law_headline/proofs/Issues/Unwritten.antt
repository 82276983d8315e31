-- What a serving sequencer issues next is written nowhere in its chain.
use Rattle.std.proofs.Common.{◌≡◌, ◌⊎◌, ℕ, ◌<◌, ◌≤◌, List, true, refl, sym, ap, ◌∙◌, subst, inl, inr, arith, Some, None, Option}
use Rattle.std.specs.Prelude.{Contains}
use Rattle.tg_base.specs.Clusters.{Header}
use Rattle.tg_base.specs.Layouts.{Layout}
use Rattle.tg_base.specs.declared.cell.Cell.{Cell}
use Rattle.tg_base.specs.declared.ids.Oid.{Oid}
use Rattle.tg_base.specs.declared.marks.StreamLink.{StreamLink}
use Rattle.tg_base.specs.declared.msg.Msg.{Msg}
use Rattle.tg_base.specs.declared.msg.Msg.TheVariants as msg
use Rattle.tg_base.proofs.Rules.{layout_rules}
use Rattle.tg_kind.specs.Meaning.{Meaning}
use Rattle.tg_protocol.specs.Words.{cell_at}
use Rattle.tg_protocol.specs.Layouts.{chain_of}
use Rattle.tg_protocol.specs.Units.{unit_ask}
use Rattle.tg_protocol.specs.Sequencers.{SeqrState}
use Rattle.tg_protocol.specs.Worlds.{World, start, unit, seqr, latest}
use Rattle.tg_protocol.specs.Chosen.{IsDecided}
use Rattle.tg_protocol.specs.Runs.{Moves, Reaches, LawfulCommand}
use Rattle.tg_protocol.specs.Finishing.{IsServing}
use Rattle.tg_law_layouts.specs.Moves.After.{after}
use Rattle.tg_law_layouts.specs.Moves.Configs.{config}
use Rattle.tg_law_layouts.specs.Moves.Telling.{Claim, claimed, claim, is_request}
use Rattle.tg_law_layouts.proofs.Moves.Always.{lawful_give}
use Rattle.tg_law_layouts.proofs.Moves.Members.{Has, has_contained}
use Rattle.tg_law_layouts.proofs.Moves.Moves.{AllGive}
use Rattle.tg_law_layouts.proofs.Requests.Numbers.{numbers_once}
use Rattle.tg_law_layouts.proofs.Requests.Starts.{all_hold}
use Rattle.tg_law_layouts.proofs.Requests.Told.{NumbersOnce, Tells}
use Rattle.tg_law_layouts.specs.Layouts.Decisions.{IsOfDecided}
use Rattle.tg_law_layouts.proofs.Layouts.Deciding.{known, one_layout, latest_decided, layouts_are_known, layouts_are_sound}
use Rattle.tg_law_cells.proofs.Cells.Settling.{facts, told_here}
use Rattle.tg_law_cells.specs.Tokens.Issuing.{Issued}
use Rattle.tg_law_cells.proofs.Tokens.Issues.{low_holds, asked_of, same_asked, token_epoch}
use Rattle.tg_law_cells.proofs.Tokens.Named.{naming_holds}
use Rattle.tg_law_walks.specs.Lists.Telling.{asks_links, tells_links}
use Rattle.tg_law_headline.specs.Issues.Issues.{position_named, TailTold, IsBelow, BelowStart, WasIssued, BelowTail, TrimsInTime, NextUnwritten, AlwaysByTrims}
use Rattle.tg_law_headline.proofs.Issues.Sent.{named_pair}
use Rattle.tg_law_headline.proofs.Issues.Tails.{asked_pair, told_pair, tails_hold}
use Rattle.tg_law_headline.proofs.Issues.Stored.{StoredBy, stored_hold}
use Rattle.tg_law_headline.proofs.Issues.Positions.{below_here}

-- a request that was held names its position
held_names : (x : Msg) (e p : ℕ) (c : Cell) → claimed (unit_ask x) msg.Held ≡ claim e p c → position_named x ≡ named_pair e p
unfolding claimed unit_ask position_named
held_names x e p c h = grind arith

tail_tells : (t : ℕ) (ls : List StreamLink) → tells_links (msg.Tail t ls) ≡ told_pair t ls
unfolding tells_links
tail_tells t ls = refl

check_asks : (e : ℕ) (os : List Oid) → asks_links (msg.Check e os) ≡ asked_pair e os
unfolding asks_links
check_asks e os = refl

check_requests : (e : ℕ) (os : List Oid) → is_request (msg.Check e os) ≡ true
unfolding is_request
check_requests e os = refl

module _ (m : Meaning) (h : Header) (zs : Moves m) (r : Reaches m h zs (after m h zs)) (trims : TrimsInTime m (after m h zs)) where
  abbrev q : Layout
  q = latest m (after m h zs)

  abbrev s : SeqrState
  s = seqr m (after m h zs) (latest m (after m h zs)).seq

  decided : IsOfDecided m (after m h zs) q
  decided = (latest_decided m h zs (after m h zs) r).decided

  once : (p : Layout) (e : ℕ) → IsDecided m (after m h zs) e p → e ≡ q.epoch → p ≡ q
  once p e d i = one_layout m h zs (after m h zs) r q.epoch p q (subst (λ n. IsDecided m (after m h zs) n p) i d) decided

  numbers : NumbersOnce (after m h zs).packets
  numbers = numbers_once m (config m (after m h zs)) (all_hold m h zs).0.0

  give : AllGive m (LawfulCommand m) zs
  give = lawful_give m (start m h).cluster zs r.goes.lawful

  module _ (serves : IsServing s q.epoch) where
    some : 1 ≤ q.epoch
    some = (layout_rules q (layouts_are_sound m h zs (after m h zs) r q.epoch q decided).rules).epoch

    own : s.proj ≡ q
    own =
        let e = serves.epoch in
        let k = ((naming_holds m h zs).seqs q.seq).own (let a = some in omega (arith, e, a)) in
        once s.proj s.proj.epoch ((layouts_are_known m h zs (after m h zs) r).seqrs q.seq) (k.0 ∙ serves.epoch)

    past : q.start ≤ s.next
    past = subst (λ (p : Layout). p.start ≤ s.next) own serves.scanned

    issued_below : (e p : ℕ) (os : List Oid) (ls : List StreamLink) → Issued m (after m h zs) q.seq e p os ls → e ≡ q.epoch → p < s.next
    issued_below e p os ls i at =
        let o = (low_holds m h zs).1.ours q.seq i.answer p ls (has_contained _ i.answer i.answered) i.from_seqr i.issues in
        let same = token_epoch o.epoch e o.os os (same_asked (after m h zs).packets numbers i.answer o.epoch e o.os os o.asked (asked_of m (after m h zs) q.seq e p os ls i)) in
        (o.here (same ∙ (at ∙ sym serves.epoch))).1

    tail_below : (e t : ℕ) → TailTold m (after m h zs) q.seq e t → e ≡ q.epoch → t ≤ s.next
    tail_below e t i at =
        let o = (tails_hold m h zs).told q.seq i.answer t i.links (has_contained _ i.answer i.answered) i.from_seqr (ap tells_links i.tells ∙ tail_tells t i.links) in
        let same : o.ask.msg ≡ i.ask.msg = numbers.same o.ask i.ask o.has (has_contained _ i.ask i.asked) o.request (ap is_request i.asks ∙ check_requests e i.streams) (o.from ∙ i.back) (o.to ∙ (i.from_seqr ∙ sym i.to_seqr)) (o.rid ∙ i.number) in
        (o.up e i.streams (ap asks_links (same ∙ i.asks) ∙ check_asks e i.streams)).1 (at ∙ sym serves.epoch)

    none_below : (e p : ℕ) → IsBelow m (after m h zs) e p → e ≡ q.epoch → p < s.next
    none_below e p (BelowStart l d less) at = let a = ap (λ (x : Layout). x.start) (once l e d at) in let b = past in omega (arith, less, a, b)
    none_below e p (WasIssued l d os ls i) at = issued_below e p os ls (subst (λ n. Issued m (after m h zs) n e p os ls) (ap (λ (x : Layout). x.seq) (once l e d at)) i) at
    none_below e p (BelowTail l d t i less) at = let a = tail_below e t (subst (λ n. TailTold m (after m h zs) n e t) (ap (λ (x : Layout). x.seq) (once l e d at)) i) at in omega (arith, less, a)

    module _ (u : ℕ) (there : Contains (chain_of q s.next) u) (stands : (unit m (after m h zs) u).epoch ≡ q.epoch) where
      claim_of : ℕ → Cell → Claim
      claim_of e c = record { epoch = e; pos = s.next; cell = c }

      unwritten_by : (c : Cell) → StoredBy (after m h zs).packets u (unit m (after m h zs) u).epoch s.next c → ⊥
      unwritten_by c k = by (which k.of q.epoch (let a = k.up_to in omega (arith, a, stands)))
        where
          which : (a b : ℕ) → a ≤ b → (a < b) ⊎ (a ≡ b)
          which a b le = grind (arith, le)

          tells : Tells (after m h zs).packets u (record { epoch = k.of; pos = s.next; cell = c })
          tells = record { ask = k.ask; answer = k.answer; asked = k.asked; answered = k.answered; to_unit = k.to_unit; from_unit = k.from_unit; back = k.back; number = k.number; tells = ap (λ (y : Msg). claimed (unit_ask k.ask.msg) y) k.held ∙ k.tells }

          by : (k.of < q.epoch) ⊎ (k.of ≡ q.epoch) → ⊥
          by (inl less) =
              let line = facts m h zs r.header give (told_here m h zs r.header give) in
              let kq = (known m h zs q.epoch q decided).0 in
              let a = k.some in
              let below = line.sealed q u (record { epoch = k.of; pos = s.next; cell = c }) kq (omega (arith, a, less)) (line.stands q s.next u kq (has_contained _ u there)) tells less in
              let b = past in
              omega (arith, below, b)
          by (inr same) =
              let a = none_below k.of s.next (below_here m h zs r trims k.ask k.of s.next (contained_in k.asked) (held_names k.ask.msg k.of s.next c k.tells)) same in
              omega (arith, a)
            where
              contained_in : Has (after m h zs).packets k.ask → Contains (after m h zs).packets k.ask
              contained_in g = Rattle.tg_law_layouts.proofs.Moves.Lists.contained (after m h zs).packets k.ask g

      next_here : cell_at (unit m (after m h zs) u).cells s.next ≡ None
      next_here = by (cell_at (unit m (after m h zs) u).cells s.next) refl
        where
          by : (o : Option Cell) → cell_at (unit m (after m h zs) u).cells s.next ≡ o → o ≡ None
          by None e = refl
          by (Some c) e = absurd (unwritten_by c (((stored_hold m h zs) u).1 s.next c e))

module _ (m : Meaning) where
  pub next_is_unwritten : AlwaysByTrims m (NextUnwritten m)
  next_is_unwritten h ms w r trims = subst (λ (v : World m). Reaches m h ms v → TrimsInTime m v → NextUnwritten m v) (sym r.goes.is) (λ a b u serves there stands. next_here m h ms a b serves u there stands) r trims
