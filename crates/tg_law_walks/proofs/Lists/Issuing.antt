-- A token that is issued is for the streams of the entry that the log has there, or the position is for nothing.
use Rattle.std.proofs.Common.{◌≡◌, ◌⊎◌, ℕ, ◌+◌, ◌<◌, ◌≤◌, List, [], ◌∷◌, ◌++◌, map, Bool, true, false, refl, sym, ap, ◌∙◌, subst, inl, inr, arith, Option}
use Rattle.std.specs.Prelude.{Contains, nat_le, nat_lt, ◌==◌}
use Rattle.std.proofs.lemmas.Bool.Decides.{nat_tests}
use Rattle.tg_base.specs.Clusters.{Header}
use Rattle.tg_base.specs.Layouts.{Layout}
use Rattle.tg_base.specs.declared.cell.Cell.TheVariants.{Data}
use Rattle.tg_base.specs.declared.ids.NodeId.{NodeId}
use Rattle.tg_base.specs.declared.ids.Oid.{Oid}
use Rattle.tg_base.specs.declared.msg.Msg.TheVariants as msg
use Rattle.tg_base.specs.declared.packet.Out.{Out}
use Rattle.tg_base.specs.declared.packet.Packet.{Packet}
use Rattle.tg_kind.specs.Meaning.{Meaning}
use Rattle.tg_model.specs.Kinds.{EventOf}
use Rattle.tg_protocol.specs.Words.{seqr_id}
use Rattle.tg_protocol.specs.Entries.{streams_of}
use Rattle.tg_protocol.specs.Requests.{out}
use Rattle.tg_protocol.specs.Sequencers.{SeqrState, scanning, links_of, issue, on_token, unfenced, own_epoch, seqr_step}
use Rattle.tg_protocol.specs.Worlds.{World, log, packet_of}
use Rattle.tg_protocol.specs.Chosen.{IsDecided}
use Rattle.tg_protocol.specs.Runs.{Moves, Takes, Reaches, Later}
use Rattle.tg_law_layouts.specs.Moves.After.{after}
use Rattle.tg_law_layouts.specs.Moves.Configs.{config, seqr_in}
use Rattle.tg_law_layouts.proofs.Moves.Lists.{contained}
use Rattle.tg_law_layouts.proofs.Moves.Members.{Has, has_left, has_right}
use Rattle.tg_law_layouts.proofs.Moves.Moves.{seqr_turn}
use Rattle.tg_law_layouts.specs.Layouts.Decisions.{IsOfDecided}
use Rattle.tg_law_layouts.proofs.Layouts.Deciding.{layouts_are_known, layouts_are_sound, decided_stays}
use Rattle.tg_law_cells.specs.Cells.Settled.{IsSettled}
use Rattle.tg_law_cells.specs.Tokens.Issuing.{Issued, IsOwnPage}
use Rattle.tg_law_cells.proofs.Tokens.Named.{issuer_is_named, naming_holds}
use Rattle.tg_law_cells.specs.Homes.Homes.{Home}
use Rattle.tg_law_cells.proofs.Homes.Homes.{starts_rise, epochs_are_decided}
use Rattle.tg_law_walks.specs.Walks.Seqrs.{IsIssued, IssuesAs}
use Rattle.tg_law_walks.specs.Lists.Drafted.{IsFitPage, DraftsFit}
use Rattle.tg_law_walks.specs.Lists.Lists.{Counts, AreBounds}
use Rattle.tg_law_walks.specs.Lists.Spared.{TrimsWereSpare}
use Rattle.tg_law_walks.proofs.Lists.Ends.{PageAt, page_at, same_streams, settled_of, home, fit_page, streams_there}
use Rattle.tg_law_walks.proofs.Lists.Reached.{before_reached, goes_later}
use Rattle.tg_law_walks.proofs.Lists.Safe.{safe_of}

is_same : (a b : ℕ) → a ≡ b → (a == b) ≡ true
is_same a b e = grind (arith, nat_tests)

has_room : (n limit : ℕ) → n < limit → nat_le limit n ≡ false
has_room n limit less = grind (arith, nat_tests)

not_below : (a b : ℕ) → nat_lt a b ≡ false → b ≤ a
not_below a b e = grind (arith, nat_tests)

-- what it sends
issue_sends : (s : SeqrState) (from : NodeId) (rid epoch : ℕ) (os : List Oid) → IsIssued s epoch → (seqr_step s from rid (msg.Token epoch os)).sends ≡ out from rid (msg.Issued s.next (links_of s.lists os)) ∷ []
unfolding seqr_step
issue_sends s from rid epoch os i =
    ap (λ (b : Bool). (own_epoch b s from rid (on_token s os from rid (scanning s))).sends) (is_same epoch s.epoch i.own)
    ∙ (ap (λ (f : Option ℕ). (unfenced f s from rid (on_token s os from rid (scanning s))).sends) i.unfenced
    ∙ (ap (λ (b : Bool). (on_token s os from rid b).sends) i.ready
    ∙ ap (λ (b : Bool). (issue s os from rid b).sends) (has_room s.next s.limit i.room)))

module _ (m : Meaning) (h : Header) (zs : Moves m) (r : Reaches m h zs (after m h zs)) (trims : TrimsWereSpare m h zs) (fit : DraftsFit m (after m h zs)) (bound : ℕ → ℕ) (bounds : AreBounds m (after m h zs) bound)
    (xs : Moves m) (e : EventOf m) (ys : Moves m) (split : zs ≡ xs ++ Takes e ∷ ys) where
  abbrev v : World m
  v = after m h zs

  abbrev w : World m
  w = after m h xs

  rw : Reaches m h xs (after m h xs)
  rw = before_reached m h zs r xs (Takes e ∷ ys) split

  later : Later m (after m h xs) (after m h zs)
  later = goes_later m h zs r xs (Takes e ∷ ys) split

  module _ (s : ℕ) (p : Packet) (sent : Has (after m h xs).packets p) (to : p.to ≡ seqr_id s) (epoch : ℕ) (os : List Oid) (is : p.msg ≡ msg.Token epoch os) (i : IsIssued (seqr_in m (config m (after m h xs)) s) epoch)
      (more : (x : Packet) → Has (seqr_turn m (config m (after m h xs)) s (seqr_step (seqr_in m (config m (after m h xs)) s) p.from p.rid (msg.Token epoch os))).packets x → Has (after m h zs).packets x) where
    abbrev z : SeqrState
    z = seqr_in m (config m (after m h xs)) s

    answer : Out
    answer = out p.from p.rid (msg.Issued z.next (links_of z.lists os))

    issued : Issued m (after m h zs) s epoch z.next os (links_of z.lists os)
    issued = record {
      ask = p;
      answer = packet_of m (seqr_id s) (out p.from p.rid (msg.Issued z.next (links_of z.lists os)));
      asked = contained _ p (more p (has_left (after m h xs).packets _ p sent));
      answered = contained _ _ (more _ (has_right (after m h xs).packets _ _
          (subst (λ (outs : List Out). Has (map (packet_of m (seqr_id s)) outs) (packet_of m (seqr_id s) (out p.from p.rid (msg.Issued z.next (links_of z.lists os))))) (sym (issue_sends z p.from p.rid epoch os i)) (inl refl))));
      to_seqr = to;
      from_seqr = refl;
      back = refl;
      number = refl;
      asks = is;
      issues = refl;
    }

    -- its layout
    proj_epoch : 0 < epoch → z.proj.epoch ≡ epoch
    proj_epoch some = let k = i.own in let own : 0 < z.epoch = omega (arith, k, some) in (((naming_holds m h xs).seqs s).own own).0 ∙ sym i.own

    proj_decided : IsOfDecided m (after m h zs) z.proj
    proj_decided = (decided_stays m h xs (after m h xs) (after m h zs) rw later).stays z.proj.epoch z.proj ((layouts_are_known m h xs (after m h xs) rw).seqrs s)

    past_start : z.proj.start ≤ z.next
    past_start = not_below z.next z.proj.start i.ready

    module _ (less : z.next < bound z.epoch) where
      bound_counts : Counts m (after m h zs) z.epoch (bound z.epoch)
      bound_counts = bounds z.epoch (omega (arith, less))

      some_epoch : 0 < epoch
      some_epoch = let a = bound_counts.some in let k = i.own in omega (arith, a, k)

      -- no later epoch has issued the position for an entry
      not_later : (n : ℕ) (page : List ℕ) (from : NodeId) → IsOwnPage m (after m h zs) from n z.next page → epoch < n → ⊥
      not_later n page from own more' =
          let named = issuer_is_named m h zs (after m h zs) r own.seqr n z.next _ own.links own.issued (omega (arith, more')) in
          let q = named.layout in
          let dq : IsOfDecided m (after m h zs) named.layout = decided_as n named.layout named.decided in
          let of = of_epoch n named.layout named.decided in
          let next = epochs_are_decided m h zs (after m h zs) r (epoch + 1) named.layout dq (omega arith) (omega (arith, more', of)) in
          let dn : IsOfDecided m (after m h zs) next.0 = decided_as (epoch + 1) next.0 next.1 in
          let of' = of_epoch (epoch + 1) next.0 next.1 in
          let up = starts_rise m h zs (after m h zs) r next.0 named.layout dn dq (omega (arith, of, of', more')) in
          let k = i.own in
          let b = bound_counts.before next.0 (subst (λ (y : ℕ). IsDecided m (after m h zs) (y + 1) next.0) k next.1) in
          let past = named.past in
          omega (arith, less, b, up, past)
        where
          of_epoch : (y : ℕ) (q : Layout) → IsDecided m (after m h zs) y q → q.epoch ≡ y
          of_epoch y q d = (layouts_are_sound m h zs (after m h zs) r y q d).epoch

          decided_as : (y : ℕ) (q : Layout) → IsDecided m (after m h zs) y q → IsOfDecided m (after m h zs) q
          decided_as y q d = subst (λ (x : ℕ). IsDecided m (after m h zs) x q) (sym (of_epoch y q d)) d

      fits_there : (o : Oid) → PageAt (log m (after m h zs)) o z.next → Contains os o
      fits_there o g = by (which home'.epoch epoch)
        where
          set : IsSettled m (after m h zs) z.next (Data g.page)
          set = settled_of m h zs r (safe_of m h zs r trims) z.next (Data g.page) g.here

          home' : Home m (after m h zs) z.next g.page set.layout.epoch
          home' = home m h zs r fit z.next g.page set

          page : IsFitPage m (after m h zs) home'.write.from home'.epoch z.next g.page
          page = fit_page m h zs r fit z.next g.page set

          streams : Has (streams_of page.own.draft) o
          streams = streams_there m h zs r fit z.next g.page set g.entry o g.reads g.stands

          which : (a b : ℕ) → (a < b) ⊎ (a ≡ b) ⊎ (b < a)
          which a b = grind arith

          by : (home'.epoch < epoch) ⊎ (home'.epoch ≡ epoch) ⊎ (epoch < home'.epoch) → Contains os o
          by (inl x) = let a = home'.past z.proj proj_decided (let k = proj_epoch some_epoch in omega (arith, x, k)) in let b = past_start in absurd (omega (arith, a, b))
          by (inr (inl x)) =
              contained os o (subst (λ (ns : List Oid). Has ns o)
              (sym (same_streams m h zs r s page.own.seqr epoch z.next os (streams_of page.own.draft) (links_of z.lists os) page.own.links issued
              (subst (λ (n : ℕ). Issued m (after m h zs) page.own.seqr n z.next (streams_of page.own.draft) page.own.links) x page.own.issued) some_epoch)) streams)
          by (inr (inr x)) = absurd (not_later home'.epoch g.page home'.write.from page.own x)

    pub issues_as : IssuesAs (log m (after m h zs)) bound z os
    issues_as = record {
      once = fit.tokens p epoch os (contained _ p (more p (has_left (after m h xs).packets _ p sent))) is;
      fits = λ less o st. fits_there less o (page_at (log m (after m h zs)) o z.next st);
    }
