-- In a world of a run: what was confirmed of a layout lies below its sequencer's next position, as long as it issues in that
-- layout; so it does in each later layout; and a trim that was met has left each stream an entry there that saves it.
use Rattle.std.proofs.Common.{◌≡◌, ◌⊎◌, ℕ, ◌+◌, ◌<◌, ◌≤◌, List, ◌∷◌, ◌++◌, true, false, refl, sym, ap, ◌∙◌, subst, inl, inr, arith, Some, Option}
use Rattle.std.specs.Prelude.{Contains, nat_lt}
use Rattle.std.proofs.lemmas.Bool.Decides.{nat_tests}
use Rattle.tg_base.specs.Clusters.{Header}
use Rattle.tg_base.specs.Layouts.{Layout}
use Rattle.tg_base.specs.declared.cell.Cell.{Cell}
use Rattle.tg_base.specs.declared.cell.Cell.TheVariants.{Data}
use Rattle.tg_base.specs.declared.ids.Oid.{Oid}
use Rattle.tg_base.specs.declared.marks.StreamLink.{StreamLink}
use Rattle.tg_base.specs.declared.msg.Msg.{Msg}
use Rattle.tg_base.specs.declared.msg.Msg.TheVariants as msg
use Rattle.tg_base.specs.declared.packet.Out.{Out}
use Rattle.tg_base.specs.declared.packet.Packet.{Packet}
use Rattle.tg_base.proofs.Rules.{layout_rules}
use Rattle.tg_kind.specs.Meaning.{Meaning}
use Rattle.tg_model.specs.Kinds.{EventOf}
use Rattle.tg_protocol.specs.Words.{client_id, seqr_id, unit_id}
use Rattle.tg_protocol.specs.Entries.{streams_of}
use Rattle.tg_protocol.specs.Pages.{cell_entry}
use Rattle.tg_protocol.specs.Units.{unit_ask}
use Rattle.tg_protocol.specs.Requests.{awaits, Ends}
use Rattle.tg_protocol.specs.Replies.{reply}
use Rattle.tg_protocol.specs.Cells.{Place, CellJob, Gone, cell_asks, cell_feed}
use Rattle.tg_protocol.specs.Sequencers.{scanning}
use Rattle.tg_protocol.specs.Worlds.{log}
use Rattle.tg_protocol.specs.Chosen.{IsDecided}
use Rattle.tg_protocol.specs.Runs.{Moves, Takes, Reaches, Later}
use Rattle.tg_law_layouts.specs.Moves.After.{after}
use Rattle.tg_law_layouts.specs.Moves.Configs.{Config, config, client_in, seqr_in}
use Rattle.tg_law_layouts.proofs.Moves.Clients.{reserved}
use Rattle.tg_law_layouts.proofs.Moves.Lists.{contained}
use Rattle.tg_law_layouts.proofs.Moves.Members.{Has, has_contained}
use Rattle.tg_law_layouts.proofs.Moves.Moves.{Comes}
use Rattle.tg_law_layouts.proofs.Requests.Numbers.{numbers_once}
use Rattle.tg_law_layouts.proofs.Requests.Starts.{All, all_hold}
use Rattle.tg_law_layouts.specs.Layouts.Decisions.{IsOfDecided}
use Rattle.tg_law_layouts.proofs.Layouts.Deciding.{layouts_are_known, layouts_are_sound, one_layout, decided_stays}
use Rattle.tg_law_cells.specs.Cells.Settled.{IsSettled}
use Rattle.tg_law_cells.proofs.Cells.Justified.{Awaited, awaited_ask}
use Rattle.tg_law_cells.proofs.Cells.Jobs.{JobOk}
use Rattle.tg_law_cells.specs.Tokens.Issuing.{Issued, IsOwnPage}
use Rattle.tg_law_cells.proofs.Tokens.Issues.{asked_of, low_holds, same_asked, token_epoch}
use Rattle.tg_law_cells.proofs.Tokens.Named.{issuer_is_named, naming_holds}
use Rattle.tg_law_cells.proofs.Tokens.Own.{pages_are_own}
use Rattle.tg_law_cells.specs.Homes.Homes.{Home, TrimAsked, ToldGone, epoch_asked}
use Rattle.tg_law_cells.proofs.Homes.Gones.{gone_is_asked}
use Rattle.tg_law_cells.proofs.Homes.Homes.{settled_has_home, settled_is_below, starts_rise, epochs_are_decided}
use Rattle.tg_law_walks.specs.Walks.Streams.{entry_lists, stands_in}
use Rattle.tg_law_walks.specs.Lists.Drafted.{DraftsFit}
use Rattle.tg_law_walks.specs.Lists.Lists.{Counts}
use Rattle.tg_law_walks.specs.Lists.Spared.{WasSettled, TrimsWereSpare}
use Rattle.tg_law_walks.specs.Lists.Telling.{tells_links}
use Rattle.tg_law_walks.proofs.Lists.Ends.{cell_of}
use Rattle.tg_law_walks.proofs.Lists.Reached.{before_reached, goes_later}
use Rattle.tg_law_walks.proofs.Lists.Safe.{safe_of, safe_before}
use Rattle.tg_law_walks.proofs.Lists.Scanning.{AtTrim, OfUnit, at_trim, is_gone}
use Rattle.tg_law_syncs.proofs.Syncs.Later.{late}
use Rattle.tg_law_syncs.proofs.Known.Past.{SeqrReached}
use Rattle.tg_law_syncs.proofs.Known.FarTurns.{GoneOk}

module _ (m : Meaning) (h : Header) (zs : Moves m) (r : Reaches m h zs (after m h zs)) (trims : TrimsWereSpare m h zs) (fit : DraftsFit m (after m h zs)) where
  abbrev pub Reached : Config m → Layout → ℕ → Type 0
  Reached c p t = SeqrReached m c p.seq p.epoch t

  -- it lies below the layout's start, or has been issued there and lies below the next layout's start
  abbrev pub Past : Config m → Layout → ℕ → Type 0
  Past c p t = (t ≤ p.start) ⊎ (Reached c p t × Counts m (after m h zs) p.epoch t)

  abbrev pub Told : Config m → ℕ → Layout → ℕ → (ℕ → Type 0) → Type 0
  Told c k p rid G = (a : Packet) → Has c.packets a → a.to ≡ client_id k → a.from ≡ seqr_id p.seq → a.rid ≡ rid → (t : ℕ) (ls : List StreamLink) → tells_links a.msg ≡ Some (t, ls) → G t

  pub past_low : (c : Config m) (p : Layout) (t : ℕ) → t ≤ p.start → Past c p t
  past_low c p t le = inl le

  pub past_down : (c : Config m) (p : Layout) (t u : ℕ) → u ≤ t → Past c p t → Past c p u
  past_down c p t u le (inl a) = inl (omega (arith, le, a))
  past_down c p t u le (inr k) = inr (by k.0, record { some = k.1.some; before = λ q d. let a = k.1.before q d in omega (arith, le, a) })
    where
      by : Reached c p t → Reached c p u
      by (inl less) = inl less
      by (inr j) = let a = j.1 in inr (j.0, omega (arith, le, a))

  pub past_on : (c d : Config m) → ((s e t : ℕ) → SeqrReached m c s e t → SeqrReached m d s e t) → (p : Layout) (t : ℕ) → Past c p t → Past d p t
  past_on c d f p t (inl a) = inl a
  past_on c d f p t (inr k) = inr (f p.seq p.epoch t k.0, k.1)

  of_epoch : (n : ℕ) (q : Layout) → IsDecided m (after m h zs) n q → q.epoch ≡ n
  of_epoch n q d = (layouts_are_sound m h zs (after m h zs) r n q d).epoch

  decided_as : (n : ℕ) (q : Layout) → IsDecided m (after m h zs) n q → IsOfDecided m (after m h zs) q
  decided_as n q d = subst (λ (y : ℕ). IsDecided m (after m h zs) y q) (sym (of_epoch n q d)) d

  -- in a later layout
  pub onto : (c : Config m) (p q : Layout) → IsOfDecided m (after m h zs) p → IsOfDecided m (after m h zs) q → p.epoch < q.epoch → (t : ℕ) → Past c p t → Past c q t
  onto c p q dp dq less t (inl a) = let up = starts_rise m h zs (after m h zs) r p q dp dq (omega (arith, less)) in inl (omega (arith, a, up))
  onto c p q dp dq less t (inr k) =
      let next = epochs_are_decided m h zs (after m h zs) r (p.epoch + 1) q dq (omega arith) (omega (arith, less)) in
      let of = of_epoch (p.epoch + 1) next.0 next.1 in
      let up = starts_rise m h zs (after m h zs) r next.0 q (decided_as (p.epoch + 1) next.0 next.1) dq (omega (arith, of, less)) in
      let at = k.1.before next.0 next.1 in
      inl (omega (arith, at, up))

  -- A world through which the run comes.

  module _ (xs ys : Moves m) (split : zs ≡ xs ++ ys) where
    rw : Reaches m h xs (after m h xs)
    rw = before_reached m h zs r xs ys split

    later : Later m (after m h xs) (after m h zs)
    later = goes_later m h zs r xs ys split

    pub stay : (q : Layout) → IsOfDecided m (after m h xs) q → IsOfDecided m (after m h zs) q
    stay q d = (decided_stays m h xs (after m h xs) (after m h zs) rw later).stays q.epoch q d

    pub from_one : (q : Layout) → IsOfDecided m (after m h xs) q → 0 < q.epoch
    from_one q d = let a = (layout_rules q (layouts_are_sound m h xs (after m h xs) rw q.epoch q d).rules).epoch in omega (arith, a)

    not_below : (a b : ℕ) → nat_lt a b ≡ false → b ≤ a
    not_below a b e = grind (arith, nat_tests)

    -- what is past lies below what its sequencer issues next
    pub below_next : (p : Layout) (t : ℕ) → IsOfDecided m (after m h xs) p → (seqr_in m (config m (after m h xs)) p.seq).epoch ≡ p.epoch → scanning (seqr_in m (config m (after m h xs)) p.seq) ≡ false → Past (config m (after m h xs)) p t
        → t ≤ (seqr_in m (config m (after m h xs)) p.seq).next
    below_next p t d e ready (inr k) = by k.0
      where
        by : Reached (config m (after m h xs)) p t → t ≤ (seqr_in m (config m (after m h xs)) p.seq).next
        by (inl less) = absurd (omega (arith, less, e))
        by (inr j) = j.1
    below_next p t d e ready (inl a) =
        let own = ((naming_holds m h xs).seqs p.seq).own (let some = from_one p d in omega (arith, some, e)) in
        let dz = (layouts_are_known m h xs (after m h xs) rw).seqrs p.seq in
        let same = one_layout m h xs (after m h xs) rw p.epoch (seqr_in m (config m (after m h xs)) p.seq).proj p (subst (λ (n : ℕ). IsDecided m (after m h xs) n (seqr_in m (config m (after m h xs)) p.seq).proj) (own.0 ∙ e) dz) d in
        let low = not_below (seqr_in m (config m (after m h xs)) p.seq).next (seqr_in m (config m (after m h xs)) p.seq).proj.start ready in
        let s = ap (λ (q : Layout). q.start) same in
        omega (arith, a, low, s)

    -- a position that is settled in an epoch up to this one
    pub settled_counts : (p : Layout) (q t : ℕ) → t ≤ q + 1 → IsOfDecided m (after m h xs) p → WasSettled m (after m h xs) p.epoch q → Counts m (after m h zs) p.epoch t
    settled_counts p q t le d g = record {
      some = from_one p d;
      before = λ y dy.
          let of = of_epoch (p.epoch + 1) y dy in
          let in_time = g.in_time in
          let below = settled_is_below m h zs (after m h zs) r q g.cell (late m h zs r xs ys split q g.cell g.settled) y (decided_as (p.epoch + 1) y dy) (omega (arith, of, in_time)) in
          omega (arith, below, le);
    }

    -- a page that is settled so is past
    page_past : (p : Layout) (q : ℕ) (d : List ℕ) → IsOfDecided m (after m h xs) p → (k : IsSettled m (after m h xs) q (Data d)) → k.layout.epoch ≤ p.epoch → Past (config m (after m h xs)) p (q + 1)
    page_past p q d dp k le = by (which home.epoch p.epoch (let a = home.up_to in omega (arith, a, le)))
      where
        home : Home m (after m h xs) q d k.layout.epoch
        home = settled_has_home m h xs (after m h xs) rw q d k

        own_page : IsOwnPage m (after m h xs) home.write.from home.epoch q d
        own_page = pages_are_own m h xs (after m h xs) rw home.write home.epoch q d home.sent home.is

        which : (a b : ℕ) → a ≤ b → (a < b) ⊎ (a ≡ b)
        which a b le = grind arith

        apart : (a b : ℕ) → a ≤ b → (b ≡ a) ⊎ (a < b)
        apart a b le = grind arith

        here : (s : ℕ) → s ≡ p.seq → Issued m (after m h xs) s p.epoch q (streams_of own_page.draft) own_page.links → Reached (config m (after m h xs)) p (q + 1)
        here s same a =
            let low = low_holds m h xs in
            let o = low.1.ours s a.answer q own_page.links (has_contained _ a.answer a.answered) a.from_seqr a.issues in
            let asked = asked_of m (after m h xs) s p.epoch q (streams_of own_page.draft) own_page.links a in
            let is = token_epoch o.epoch p.epoch o.os (streams_of own_page.draft) (same_asked (after m h xs).packets (numbers_once m (config m (after m h xs)) low.0.0.0) a.answer o.epoch p.epoch o.os (streams_of own_page.draft) o.asked asked) in
            subst (λ (n : ℕ). SeqrReached m (config m (after m h xs)) n p.epoch (q + 1)) same
            (at (apart o.epoch (seqr_in m (config m (after m h xs)) s).epoch o.up) is o.here)
          where
            at : {e : ℕ} → ((seqr_in m (config m (after m h xs)) s).epoch ≡ e) ⊎ (e < (seqr_in m (config m (after m h xs)) s).epoch) → e ≡ p.epoch
                → (e ≡ (seqr_in m (config m (after m h xs)) s).epoch → ((seqr_in m (config m (after m h xs)) s).proj.start ≤ q) × (q < (seqr_in m (config m (after m h xs)) s).next)) → SeqrReached m (config m (after m h xs)) s p.epoch (q + 1)
            at (inl i) is f = let less = (f (sym i)).1 in inr (i ∙ is, omega (arith, less))
            at (inr x) is f = inl (omega (arith, x, is))

        there : home.epoch ≡ p.epoch → Past (config m (after m h xs)) p (q + 1)
        there i =
            let a = subst (λ (n : ℕ). Issued m (after m h xs) own_page.seqr n q (streams_of own_page.draft) own_page.links) i own_page.issued in
            let named = issuer_is_named m h xs (after m h xs) rw own_page.seqr p.epoch q _ own_page.links a (from_one p dp) in
            let same = one_layout m h xs (after m h xs) rw p.epoch named.layout p named.decided dp in
            inr (here own_page.seqr (sym named.names ∙ ap (λ (y : Layout). y.seq) same) a, settled_counts p q (q + 1) (omega arith) dp (record { cell = Data d; settled = k; in_time = le }))

        by : (home.epoch < p.epoch) ⊎ (home.epoch ≡ p.epoch) → Past (config m (after m h xs)) p (q + 1)
        by (inl less) = let b = home.past p dp less in inl (omega (arith, b))
        by (inr i) = there i

  -- A trim that a client meets.

  module _ (xs : Moves m) (e : EventOf m) (ys : Moves m) (split : zs ≡ xs ++ Takes e ∷ ys) (k : ℕ) (x : Packet) (comes : Comes m (config m (after m h xs)) x (client_id k)) where
    abbrev p : Layout
    p = (client_in m (config m (after m h xs)) k).stand

    rw' : Reaches m h xs (after m h xs)
    rw' = before_reached m h zs r xs (Takes e ∷ ys) split

    stand_decided : IsOfDecided m (after m h xs) p
    stand_decided = (layouts_are_known m h xs (after m h xs) rw').clients k

    settled_on : (q : ℕ) (c : Cell) → IsSettled m (after m h xs) q c → IsSettled m (after m h zs) q c
    settled_on q c s = late m h zs r xs (Takes e ∷ ys) split q c s

    -- a position below the trim stands in the log of this world as it does at the end
    stood : (o : Oid) (q b epoch : ℕ) (y : Packet) → Contains (after m h xs).packets y → y.msg ≡ msg.Trim epoch b → q < b → stands_in (log m (after m h zs)) o q ≡ true → stands_in (log m (after m h xs)) o q ≡ true
    stood o q b epoch y has is less st = by ((trims.spare (after m h xs) (record { before = xs; event = e; later = ys; split = split; is = refl })).whole y epoch b q has is less)
      where
        by : WasSettled m (after m h xs) epoch q → stands_in (log m (after m h xs)) o q ≡ true
        by g =
            let early = cell_of m h xs rw' (safe_before m h zs r trims xs (Takes e ∷ ys) split) q g.cell g.settled in
            let at_end = cell_of m h zs r (safe_of m h zs r trims) q g.cell (settled_on q g.cell g.settled) in
            ap (λ (y : Option Cell). entry_lists o (cell_entry y)) (early ∙ sym at_end) ∙ st

    pub trim_ok : (b : ℕ) → TrimAsked m (after m h xs) p.epoch b → GoneOk m (log m (after m h zs)) (Reached (config m (after m h xs))) (Past (config m (after m h xs))) (Told (config m (after m h xs)) k) p b
    trim_ok b t o q less st =
        let s = (trims.spare (after m h xs) (record { before = xs; event = e; later = ys; split = split; is = refl })).saved t.packet t.of b q o t.sent t.is less (stood o q b t.of t.packet t.sent t.is less st) in
        let a = s.in_time in
        let up = t.up_to in
        record {
          top = s.at + 1;
          saved = record {
            at = s.at;
            entry = s.entry;
            here = ap cell_entry (cell_of m h zs r (safe_of m h zs r trims) s.at (Data s.page) (settled_on s.at (Data s.page) s.settled)) ∙ s.reads;
            stands = s.stands;
            after = s.after;
            below = omega arith;
            saves = s.saves;
          };
          is_past = page_past xs (Takes e ∷ ys) split p s.at s.page stand_decided s.settled (omega (arith, a, up));
        }

    module _ (asks : List Out) (awaited : awaits asks x.from x.rid ≡ true) (asks_open : (o : Out) → Has asks o → Has (reserved m (client_in m (config m (after m h xs)) k)) o) where
      pub gone_ok : (j : CellJob) (b : ℕ) → JobOk (after m h xs).packets p j → ((o : Out) → Has asks o → Has (cell_asks j) o) → (cell_feed j x.from.num (reply x.msg) (client_in m (config m (after m h xs)) k).next).to ≡ Ends (Gone b)
          → GoneOk m (log m (after m h zs)) (Reached (config m (after m h xs))) (Past (config m (after m h xs))) (Told (config m (after m h xs)) k) p b
      gone_ok j b job in_job ends = by (awaited_ask asks x.from x.rid awaited)
        where
          trim : AtTrim j (reply x.msg) b
          trim = at_trim j x.from.num (reply x.msg) (client_in m (config m (after m h xs)) k).next b ends

          place : j.place.epoch ≡ p.epoch
          place = ap (λ (y : Place). y.epoch) job.place

          by : Awaited asks x.from x.rid → GoneOk m (log m (after m h zs)) (Reached (config m (after m h xs))) (Past (config m (after m h xs))) (Told (config m (after m h xs)) k) p b
          by w = of_unit (trim.asks w.ask (in_job w.ask w.has))
            where
              of_unit : OfUnit j.place.epoch w.ask → GoneOk m (log m (after m h zs)) (Reached (config m (after m h xs))) (Past (config m (after m h xs))) (Told (config m (after m h xs)) k) p b
              of_unit of =
                  let all : All m (config m (after m h xs)) = all_hold m h xs in
                  let from : x.from ≡ unit_id of.1.0 = sym w.to ∙ of.1.1 in
                  let heard = all.0.1.answered of.1.0 x comes.sent from in
                  let same : w.ask.msg ≡ heard.ask.msg = (all.0.0.clients k).agree w.ask heard.ask (asks_open w.ask w.has) heard.asked (heard.from ∙ comes.to_node) heard.request (w.number ∙ sym heard.rid) (w.to ∙ sym heard.to) in
                  let told : ToldGone m (after m h xs) of.1.0 p.epoch b = record {
                    ask = heard.ask;
                    answer = x;
                    asked = contained _ heard.ask heard.asked;
                    answered = contained _ x comes.sent;
                    to_unit = heard.to ∙ from;
                    from_unit = from;
                    back = sym heard.from;
                    number = sym heard.rid;
                    request = heard.request;
                    of = ap (λ (y : Msg). epoch_asked (unit_ask y)) (sym same) ∙ (of.0 ∙ place);
                    is = is_gone x.msg b trim.says;
                  } in
                  trim_ok b (gone_is_asked m h xs (after m h xs) rw' of.1.0 p.epoch b told (let l = trim.past in omega (arith, l)))
