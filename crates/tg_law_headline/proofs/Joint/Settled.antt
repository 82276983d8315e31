-- An object that is settled up to a position in a world stays so; and a record of it below that position, in a later world's log, stood
-- in the log of that world.
use Rattle.std.proofs.Common.{◌≡◌, ◌⊎◌, ℕ, ◌<◌, ◌≤◌, [], ◌++◌, List, true, refl, sym, subst, inl, inr, arith, append-nil}
use Rattle.std.specs.Prelude.{Contains}
use Rattle.tg_base.specs.Clusters.{Header}
use Rattle.tg_base.specs.Layouts.{Layout}
use Rattle.tg_base.specs.declared.cell.Cell.TheVariants.{Data}
use Rattle.tg_base.specs.declared.ids.Oid.{Oid}
use Rattle.tg_base.specs.declared.marks.StreamLink.{StreamLink}
use Rattle.tg_entry.specs.declared.entry.Entry.{Entry}
use Rattle.tg_kind.specs.Meaning.{Meaning}
use Rattle.tg_protocol.specs.Alike.{HasEntry}
use Rattle.tg_protocol.specs.Chosen.{IsDecided}
use Rattle.tg_protocol.specs.Entries.{lists, streams_of}
use Rattle.tg_protocol.specs.Logs.{entries_of}
use Rattle.tg_protocol.specs.Runs.{Moves, Reaches, Passes}
use Rattle.tg_protocol.specs.Worlds.{log}
use Rattle.tg_law_layouts.specs.Moves.After.{after}
use Rattle.tg_law_layouts.proofs.Moves.Lists.{contained}
use Rattle.tg_law_layouts.proofs.Moves.Members as moves
use Rattle.tg_law_layouts.proofs.Layouts.Deciding.{layouts_are_sound}
use Rattle.tg_law_cells.specs.Cells.Settled.{IsSettled}
use Rattle.tg_law_cells.specs.Tokens.Issuing.{Issued, IsNamed}
use Rattle.tg_law_cells.proofs.Tokens.Linked.{PageOf, page_in}
use Rattle.tg_law_cells.proofs.Tokens.Named.{issuer_is_named}
use Rattle.tg_law_cells.proofs.Order.Tails.{starts_past}
use Rattle.tg_law_cells.proofs.Entries.Archive.{log_is_settled}
use Rattle.tg_law_walks.specs.Lists.Drafted.{DraftsFit}
use Rattle.tg_law_walks.specs.Lists.Spared.{WasSettled, TrimsWereSpare}
use Rattle.tg_law_walks.proofs.Lists.Ends.{same_streams, home, fit_page, streams_there}
use Rattle.tg_law_walks.proofs.Lists.Fits.{drafts_fit}
use Rattle.tg_law_walks.proofs.Lists.Reached.{before_reached}
use Rattle.tg_law_headline.specs.Trims.Floors.{WasIssued, IsWhole, IsSettledFor}
use Rattle.tg_law_headline.proofs.Floors.Swept.{tails_are_whole}
use Rattle.tg_law_headline.proofs.Joint.Lifting.{layout_late, issued_late, tail_late, settled_late, entry_was, front_spare}

less_or : (a b : ℕ) → (a < b) ⊎ (b ≤ a)
less_or a b = grind arith

-- of a page of the log, the token with which it was written
module _ (m : Meaning) (h : Header) (zs : Moves m) (r : Reaches m h zs (after m h zs)) (trims : TrimsWereSpare m h zs) (p : ℕ) (e : Entry) (o : Oid) (stands : lists e o ≡ true) where
  pub record TokenOf : Type 0 where
    pub seqr : ℕ
    pub epoch : ℕ
    pub streams : List Oid
    pub links : List StreamLink
    pub issued : Issued m (after m h zs) seqr epoch p streams links
    pub stream : Contains streams o
    pub past : (q : Layout) → IsDecided m (after m h zs) q.epoch q → epoch < q.epoch → p < q.start

  pub token_of : HasEntry m (after m h zs) p e → TokenOf
  token_of i = by (page_in (log m (after m h zs)) p e (moves.has_contained (entries_of (log m (after m h zs))) (p, e) i))
    where
      fit : DraftsFit m (after m h zs)
      fit = drafts_fit m h zs (after m h zs) r

      by : PageOf (log m (after m h zs)) p e → TokenOf
      by k = of_page ((log_is_settled m h zs (after m h zs) r trims.safe).settled p (Data k.page) (contained (log m (after m h zs)) (p, Data k.page) k.here))
        where
          of_page : IsSettled m (after m h zs) p (Data k.page) → TokenOf
          of_page s =
              let g = home m h zs r fit p k.page s in
              let own = (fit_page m h zs r fit p k.page s).own in
              record {
                seqr = own.seqr;
                epoch = g.epoch;
                streams = streams_of own.draft;
                links = own.links;
                issued = own.issued;
                stream = contained (streams_of own.draft) o (streams_there m h zs r fit p k.page s e o k.reads stands);
                past = g.past;
              }

module _ (m : Meaning) (h : Header) (zs : Moves m) (r : Reaches m h zs (after m h zs)) (trims : TrimsWereSpare m h zs) (xs ys : Moves m) (split : zs ≡ xs ++ ys) where
  reached : Reaches m h xs (after m h xs)
  reached = before_reached m h zs r xs ys split

  -- the run so far is one of its own worlds
  itself : Passes m h zs (after m h zs)
  itself = record { before = zs; after = []; split = sym (append-nil zs); is = refl }

  module _ (o : Oid) (upto last : ℕ) (s : IsSettledFor m (after m h xs) o upto last) where
    whole : IsWhole m (after m h xs) s.epoch upto
    whole = tails_are_whole m h xs (after m h xs) reached (front_spare m h zs r trims xs ys split) s.epoch upto s.tail

    -- two tokens of a position in the tail's epoch are of the same streams
    moved : (z q : ℕ) (os : List Oid) (ls : List StreamLink) → Issued m (after m h zs) z s.epoch q os ls → Contains os o → (g : WasIssued m (after m h xs) s.epoch q) → Contains g.streams o
    moved z q os ls i here g =
        subst (λ (us : List Oid). Contains us o) (same_streams m h zs r z g.seqr s.epoch q os g.streams ls g.links i (issued_late m h zs r xs ys split g.seqr s.epoch q g.streams g.links g.issued) s.tail.some) here

    issued_settled : (z q : ℕ) (os : List Oid) (ls : List StreamLink) → Issued m (after m h zs) z s.epoch q os ls → Contains os o → q < upto → WasIssued m (after m h xs) s.epoch q → WasSettled m (after m h xs) last q
    issued_settled z q os ls i here less g = s.settled g.seqr q g.streams g.links g.issued (moved z q os ls i here g) less

    -- So it stays settled, by each later epoch.
    pub whole_late : (later : ℕ) → last ≤ later → IsSettledFor m (after m h zs) o upto later
    whole_late later le = record {
      epoch = s.epoch;
      up_to = (let a = s.up_to in omega (arith, a, le));
      tail = tail_late m h zs r xs ys split s.epoch upto s.tail;
      settled = λ z q os ls i here less. by z q os ls i here less (less_or q whole.layout.start);
    }
      where
        by : (z q : ℕ) (os : List Oid) (ls : List StreamLink) → Issued m (after m h zs) z s.epoch q os ls → Contains os o → q < upto → (q < whole.layout.start) ⊎ (whole.layout.start ≤ q) → WasSettled m (after m h zs) later q
        by z q os ls i here less (inl low) = settled_late m h zs r xs ys split s.epoch later q (let a = s.up_to in omega (arith, a, le)) (whole.old q low)
        by z q os ls i here less (inr past) = settled_late m h zs r xs ys split last later q le (issued_settled z q os ls i here less (whole.new q past less))

    -- And no record of the object comes below that position afterwards.
    module _ (p : ℕ) (e : Entry) (stands : lists e o ≡ true) (less : p < upto) where
      was : (by : ℕ) → WasSettled m (after m h xs) by p → HasEntry m (after m h zs) p e → HasEntry m (after m h xs) p e
      was by k i = entry_was m h zs r xs ys split trims.safe by p e k i

      at_epoch : (t : TokenOf m h zs r trims p e o stands) → t.epoch ≡ s.epoch → WasIssued m (after m h xs) s.epoch p → WasSettled m (after m h xs) last p
      at_epoch t same g = issued_settled t.seqr p t.streams t.links (subst (λ (n : ℕ). Issued m (after m h zs) t.seqr n p t.streams t.links) same t.issued) t.stream less g

      -- its token is of no earlier epoch than the tail's, where it lies at or past the start of the tail's layout
      not_earlier : (t : TokenOf m h zs r trims p e o stands) → whole.layout.start ≤ p → s.epoch ≤ t.epoch
      not_earlier t past = by (less_or t.epoch s.epoch)
        where
          decided : IsDecided m (after m h zs) s.epoch whole.layout
          decided = layout_late m h zs r xs ys split s.epoch whole.layout whole.decided

          at : whole.layout.epoch ≡ s.epoch
          at = (layouts_are_sound m h zs (after m h zs) r s.epoch whole.layout decided).epoch

          by : (t.epoch < s.epoch) ⊎ (s.epoch ≤ t.epoch) → s.epoch ≤ t.epoch
          by (inr le) = le
          by (inl earlier) =
              let k = t.past whole.layout (subst (λ (n : ℕ). IsDecided m (after m h zs) n whole.layout) (sym at) decided) (omega (arith, earlier, at)) in
              absurd (omega (arith, k, past))

      -- nor of a later one
      not_later : (t : TokenOf m h zs r trims p e o stands) → t.epoch ≤ s.epoch
      not_later t = by (less_or s.epoch t.epoch)
        where
          named : s.epoch < t.epoch → IsNamed m (after m h zs) t.seqr t.epoch p
          named later = issuer_is_named m h zs (after m h zs) r t.seqr t.epoch p t.streams t.links t.issued (omega (arith, later))

          by : (s.epoch < t.epoch) ⊎ (t.epoch ≤ s.epoch) → t.epoch ≤ s.epoch
          by (inr le) = le
          by (inl later) =
              let n = named later in
              let at = (layouts_are_sound m h zs (after m h zs) r t.epoch n.layout n.decided).epoch in
              let k = starts_past m h zs (after m h zs) (after m h zs) r itself s.epoch upto (tail_late m h zs r xs ys split s.epoch upto s.tail) n.layout
              (subst (λ (y : ℕ). IsDecided m (after m h zs) y n.layout) (sym at) n.decided) (omega (arith, later, at)) in
              let past = n.past in
              absurd (omega (arith, k, past, less))

      same : (a b : ℕ) → a ≤ b → b ≤ a → a ≡ b
      same a b x y = grind arith

      pub stood : HasEntry m (after m h zs) p e → HasEntry m (after m h xs) p e
      stood i = by (less_or p whole.layout.start)
        where
          t : TokenOf m h zs r trims p e o stands
          t = token_of m h zs r trims p e o stands i

          by : (p < whole.layout.start) ⊎ (whole.layout.start ≤ p) → HasEntry m (after m h xs) p e
          by (inl low) = was s.epoch (whole.old p low) i
          by (inr past) = was last (at_epoch t (same t.epoch s.epoch (not_later t) (not_earlier t past)) (whole.new p past less)) i
