-- A play keeps what a view has gone past, where its client's walks were exact, and the pages of the client's own records are known.
use Rattle.std.proofs.Common.{◌≡◌, ◌⊎◌, ℕ, ◌<◌, ◌≤◌, List, Bool, true, false, refl, sym, ap, ◌∙◌, subst, inl, inr, arith, Option, Some, None, []}
use Rattle.std.specs.Prelude.{nat_lt, is_some, Contains}
use Rattle.tg_base.specs.declared.cell.Cell.{Cell}
use Rattle.tg_base.specs.declared.ids.Oid.{Oid}
use Rattle.tg_entry.specs.declared.entry.Entry.{Entry}
use Rattle.tg_kind.specs.Meaning.{Meaning}
use Rattle.tg_model.specs.Kinds.{CommandOf}
use Rattle.tg_model.specs.declared.command.Command.TheVariants as cmd
use Rattle.tg_entry.specs.Needs.{reads_of}
use Rattle.tg_protocol.specs.Entries.{is_commit, lists}
use Rattle.tg_protocol.specs.Words.{cell_at, with_nums}
use Rattle.tg_protocol.specs.Logs.{Log, entries_of}
use Rattle.tg_protocol.specs.Views.{Entries, View, unknown_in, view_start, play}
use Rattle.tg_protocol.specs.Checkpoints.{trim_of, view_bases}
use Rattle.tg_protocol.specs.Clients.{Work, Client, upto_in, member_positions, all_entries}
use Rattle.tg_protocol.specs.Answers.{view_or_new, play_target}
use Rattle.tg_law_replies.proofs.History.Members.{Has, has_contained, lt_of, of_lt, not_lt}
use Rattle.tg_law_replies.proofs.Views.Settled.{IsFated, plays_further, plays_fated, unknown_same}
use Rattle.tg_law_walks.specs.Walks.Streams.{IsByPosition}
use Rattle.tg_law_walks.specs.Walks.Rounds.{round, IsRound}
use Rattle.tg_law_walks.proofs.Walks.Plays.{own_rising, ps, From, untrimmed, trimmed}
use Rattle.tg_law_walks.proofs.Walks.Cells.{entry_there}
use Rattle.tg_law_walks.proofs.Walks.Positions.{has_filter, nums_left}
use Rattle.tg_law_walks.proofs.Walks.Rounds.{entry_read}
use Rattle.tg_law_walks.proofs.Walks.Saves.{have_entries}
use Rattle.tg_law_syncs.proofs.Known.Views.{play_low}
use Rattle.tg_law_syncs.proofs.Known.Ways.{played_view}
use Rattle.tg_law_headline.specs.Leaves.Passed.{HasPassed}

module _ (m : Meaning) (G : Oid → ℕ → Type 0) (es : Entries) where
  -- of a kept view, where there is one
  abbrev pub Passes : List Oid → Option (View m) → Type 0
  Passes hosted view = (k : View m) → view ≡ Some k → HasPassed m G es hosted k

  pub none_passes : (hosted : List Oid) → Passes hosted None
  none_passes hosted k e = absurd (no k e)
    where
      no : (k : View m) → None ≡ Some k → ⊥
      no k e = cc

  -- the pages of a client's own records are known
  abbrev pub OwnsKnown : List ℕ → List (ℕ × Cell) → Type 0
  OwnsKnown own cells = (p : ℕ) → Contains own p → is_some (cell_at cells p) ≡ true

  -- of these a view has each that it went past, with its fate, where it knows all reads there
  abbrev pub OwnPasses : List ℕ → View m → Type 0
  OwnPasses own v = (p : ℕ) (e : Entry) → Contains own p → Contains es (p, e) → is_commit e ≡ true → p < v.upto → unknown_in m v (reads_of e) p ≡ None → IsFated m v p

  abbrev pub OwnsPassed : List ℕ → Option (View m) → Type 0
  OwnsPassed own view = (k : View m) → view ≡ Some k → OwnPasses own k

  pub none_owned : (own : List ℕ) → OwnsPassed own None
  none_owned own k e = absurd (no k e)
    where
      no : (k : View m) → None ≡ Some k → ⊥
      no k e = cc

  -- what the walks of a command met
  abbrev pub Meets : Client m → Work m → Type 0
  Meets c w = (o : Oid) (b p : ℕ) → trim_of w.trims o ≡ Some b → p < b → G o p

module _ (m : Meaning) (G : Oid → ℕ → Type 0) (l : Log) (byp : IsByPosition l) (c : Client m) (w : Work m) (h : IsRound m l (round m c w c.cells) []) (met : Meets m G (entries_of l) c w) where
  abbrev own : Entries
  own = all_entries m c w c.hosted

  abbrev Mine : Oid → ℕ → Type 0
  Mine o from = From m l byp c w h c.hosted c.own h.hosts o from

  target_low : (x : CommandOf m) → play_target m w x ≤ w.tail
  target_low cmd.End = h.at
  target_low x = omega arith

  -- A record from where the view stood is among the entries, or below a trim.
  found : (p : ℕ) (e : Entry) (o : Oid) → Has (entries_of l) (p, e) → Contains c.hosted o → lists e o ≡ true → w.lo ≤ p → p < w.tail → Has own (p, e) ⊎ G o p
  found p e o i hosted f low less = by (trim_of w.trims o) refl
    where
      by : (t : Option ℕ) → trim_of w.trims o ≡ t → Has own (p, e) ⊎ G o p
      by None is = inl (untrimmed m l byp c w h c.hosted c.own h.hosts o hosted is p e low less i f)
      by (Some b) is = test (nat_lt p b) refl
        where
          test : (t : Bool) → nat_lt p b ≡ t → Has own (p, e) ⊎ G o p
          test true k = inr (met o b p is (lt_of p b k))
          test false k = inl (trimmed m l byp c w h c.hosted c.own h.hosts o b hosted is p e (not_lt p b k) less i f)

  -- of a view that stands where the walks began or further, whatever it has passed before
  module _ (u : View m) (low : w.lo ≤ u.upto) (top : u.upto ≤ w.tail) (before : HasPassed m G (entries_of l) c.hosted u) where
    abbrev target : ℕ
    target = play_target m w w.command

    abbrev v : View m
    v = (play m u (all_entries m c w c.hosted) (play_target m w w.command)).view

    further : HasPassed m G (entries_of l) c.hosted (play m u (all_entries m c w c.hosted) (play_target m w w.command)).view
    further p e o i commit hosted f less known = by (nat_lt p u.upto) refl
      where
        old : p < u.upto → IsFated m v p ⊎ G o p
        old small = fated (before p e o i commit hosted f small (unknown_same m u v (reads_of e) p (sym (plays_further m own u target).bases) ∙ known))
          where
            fated : IsFated m u p ⊎ G o p → IsFated m v p ⊎ G o p
            fated (inl k) = inl ((plays_further m own u target).fates p k)
            fated (inr g) = inr g

        new : u.upto ≤ p → IsFated m v p ⊎ G o p
        new le =
            let n = play_low m own w.tail target u top (target_low w.command) in
            played (found p e o (has_contained (entries_of l) (p, e) i) hosted f (omega (arith, low, le)) (omega (arith, less, n)))
          where
            played : Has own (p, e) ⊎ G o p → IsFated m v p ⊎ G o p
            played (inl j) = inl (plays_fated m own u target p e (own_rising m l byp c w h c.hosted c.own h.hosts) j commit le less (λ k. known))
            played (inr g) = inr g

        by : (b : Bool) → nat_lt p u.upto ≡ b → IsFated m v p ⊎ G o p
        by true k = old (lt_of p u.upto k)
        by false k = new (not_lt p u.upto k)

  -- a new view has passed nothing
  starts : (u : View m) → u.upto ≡ 0 → HasPassed m G (entries_of l) c.hosted u
  starts u is p e o i commit hosted f less known = absurd (omega (arith, is, less))

  own_passes : (view : Option (View m)) → c.view ≡ view → Passes m G (entries_of l) c.hosted c.view
      → HasPassed m G (entries_of l) c.hosted (play m (view_or_new m c w (all_entries m c w c.hosted) view) (all_entries m c w c.hosted) (play_target m w w.command)).view
  unfolding view_start
  own_passes None is k =
      let low = h.low in let zero' : upto_in m c.view ≡ 0 = ap (upto_in m) is in
      further (view_start m (view_bases m own w.trims c.objects c.hosted)) (omega (arith, low, zero')) (omega arith) (starts (view_start m (view_bases m own w.trims c.objects c.hosted)) refl)
  own_passes (Some u) is k =
      let low = h.low in let top = h.upto in let at : upto_in m c.view ≡ u.upto = ap (upto_in m) is in
      further u (omega (arith, low, at)) (omega (arith, top, at)) (k u is)

  some_view : (x y : View m) → Some x ≡ Some y → x ≡ y
  some_view x y e = cc

  pub play_passes : Passes m G (entries_of l) c.hosted c.view → Passes m G (entries_of l) c.hosted (Some (played_view m c w))
  play_passes k v is = subst (λ (x : View m). HasPassed m G (entries_of l) c.hosted x) (some_view (played_view m c w) v is) (own_passes c.view refl k)

  -- The client's own records.

  module _ (known : OwnsKnown m G (entries_of l) c.own c.cells) where
    -- each is among the entries
    own_found : (p : ℕ) (e : Entry) → Contains c.own p → Has (entries_of l) (p, e) → p < w.tail → Has own (p, e)
    own_found p e i there less =
        have_entries m c.cells (ps m l byp c w h c.hosted c.own h.hosts) p e
        (has_filter (λ q. nat_lt q w.tail) (with_nums c.own (member_positions m w c.hosted)) p
        (nums_left c.own (member_positions m w c.hosted) p (has_contained c.own p i))
        (of_lt p w.tail less))
        (entry_read m l byp c.cells p e h.known (known p i) (entry_there 0 l p e byp there))

    own_further : (u : View m) → u.upto ≤ w.tail → OwnPasses m G (entries_of l) c.own u → OwnPasses m G (entries_of l) c.own (play m u (all_entries m c w c.hosted) (play_target m w w.command)).view
    own_further u top before p e i there commit less reads = by (nat_lt p u.upto) refl
      where
        by : (b : Bool) → nat_lt p u.upto ≡ b → IsFated m (play m u (all_entries m c w c.hosted) (play_target m w w.command)).view p
        by true k = (plays_further m own u (play_target m w w.command)).fates p (before p e i there commit (lt_of p u.upto k) (unknown_same m u (play m u (all_entries m c w c.hosted) (play_target m w w.command)).view (reads_of e) p (sym (plays_further m own u (play_target m w w.command)).bases) ∙ reads))
        by false k =
            let n = play_low m own w.tail (play_target m w w.command) u top (target_low w.command) in
            plays_fated m own u (play_target m w w.command) p e (own_rising m l byp c w h c.hosted c.own h.hosts) (own_found p e i (has_contained (entries_of l) (p, e) there) (omega (arith, less, n))) commit (not_lt p u.upto k) less (λ k. reads)

    owns_further : (view : Option (View m)) → c.view ≡ view → OwnsPassed m G (entries_of l) c.own c.view → OwnPasses m G (entries_of l) c.own (play m (view_or_new m c w (all_entries m c w c.hosted) view) (all_entries m c w c.hosted) (play_target m w w.command)).view
    unfolding view_start
    owns_further None is k = own_further (view_start m (view_bases m own w.trims c.objects c.hosted)) (omega arith) (λ p e i there commit less. absurd (omega (arith, less)))
    owns_further (Some u) is k = let top = h.upto in let at : upto_in m c.view ≡ u.upto = ap (upto_in m) is in own_further u (omega (arith, top, at)) (k u is)

    pub owns_play : OwnsPassed m G (entries_of l) c.own c.view → OwnsPassed m G (entries_of l) c.own (Some (played_view m c w))
    owns_play k u is = subst (λ (x : View m). OwnPasses m G (entries_of l) c.own x) (some_view (played_view m c w) u is) (owns_further c.view refl k)
