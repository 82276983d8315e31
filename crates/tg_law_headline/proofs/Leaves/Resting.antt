-- What a walk met a trim above has its decision among the entries, where the log has one below the tail: walks find all of a
-- stream above what they find.
use Rattle.std.proofs.Common.{◌≡◌, ◌⊎◌, ℕ, [], ◌∷◌, Bool, true, refl, sym, ap, ◌∙◌, inl, inr, arith, Option, Some, None}
use Rattle.std.specs.Prelude.{nat_lt, is_some, Contains, ◌++◌}
use Rattle.tg_base.specs.Clusters.{Header}
use Rattle.tg_base.specs.declared.ids.Oid.{Oid}
use Rattle.tg_entry.specs.declared.entry.Entry.{Entry}
use Rattle.tg_kind.specs.Meaning.{Meaning}
use Rattle.tg_model.specs.Kinds.{EventOf}
use Rattle.tg_protocol.specs.Words.{with_nums, or_else}
use Rattle.tg_protocol.specs.Entries.{lists, decides}
use Rattle.tg_protocol.specs.Logs.{Log, entries_of, entry_at}
use Rattle.tg_protocol.specs.Views.{Entries, decision_in, fate_of}
use Rattle.tg_protocol.specs.Clients.{Work, Client, positions_in, member_positions, below}
use Rattle.tg_protocol.specs.Runs.{Moves, Takes, run}
use Rattle.tg_protocol.specs.Worlds.{World, start, log}
use Rattle.tg_law_replies.specs.History.Worlds.{entries_in}
use Rattle.tg_law_replies.proofs.History.Members.{Has, has_contained, contained_has, has_kept, of_lt}
use Rattle.tg_law_replies.specs.Replies.Found.{mine}
use Rattle.tg_law_replies.specs.Replies.Steps.{EachEvent}
use Rattle.tg_law_replies.proofs.Replies.Carried.{both_more}
use Rattle.tg_law_walks.specs.Walks.Streams.{IsByPosition}
use Rattle.tg_law_walks.specs.Walks.Rounds.{round, IsRound}
use Rattle.tg_law_walks.proofs.Walks.Cells.{entry_there}
use Rattle.tg_law_walks.proofs.Walks.Positions.{nums_split, nums_right, in_positions, has_filter}
use Rattle.tg_law_walks.proofs.Walks.Rounds.{entry_read}
use Rattle.tg_law_walks.proofs.Walks.Saves.{entries_have, have_entries}
use Rattle.tg_law_walks.proofs.Walks.Stretches.{stand_entry, entry_stand}
use Rattle.tg_law_walks.proofs.Walks.Syncs.{logs_by_position}
use Rattle.tg_law_syncs.specs.Finds.Left.{RoundsExact}
use Rattle.tg_law_syncs.proofs.Exact.Finds.{rounds_exact}
use Rattle.tg_law_headline.specs.Leaves.Passed.{TellsFates, HasRested, HasOwn, IsDecidedBelow, HasDecided, OwnsPass, MetDecided, TrimsRestWhere}
use Rattle.tg_law_headline.proofs.Leaves.Leaving.{mine_of, positions_from, owns_pass}

-- a decision record among the entries decides
decision_has : (es : Entries) (p q : ℕ) (d : Entry) (b : Bool) → Has es (q, d) → decides p d.body ≡ Some b → is_some (decision_in es p) ≡ true
unfolding decision_in
decision_has [] p q d b i f = absurd i
decision_has (x ∷ es) p q d b (inl e) f = by (decides p x.1.body) (ap (λ (y : ℕ × Entry). decides p y.1.body) (sym e) ∙ f)
  where
    by : (o : Option Bool) → o ≡ Some b → is_some (or_else o (decision_in es p)) ≡ true
    by None g = absurd (cc)
    by (Some c) g = refl
decision_has (x ∷ es) p q d b (inr i) f = by (decides p x.1.body) (decision_has es p q d b i f)
  where
    by : (o : Option Bool) → is_some (decision_in es p) ≡ true → is_some (or_else o (decision_in es p)) ≡ true
    by None g = g
    by (Some c) g = refl

module _ (m : Meaning) (l : Log) (byp : IsByPosition l) (c : Client m) (x : Work m) (r : IsRound m l (round m c x c.cells) []) where
  -- a record among the client's entries is its own, or its walks found it in a hosted stream
  abbrev IsFound : ℕ → Type 0
  IsFound p = (o : Oid) × Contains c.hosted o × Contains (positions_in m x.found o) p

  found_of : (p : ℕ) (e : Entry) → Contains (mine m c x) (p, e) → Contains c.own p ⊎ IsFound p
  found_of p e i =
      let k = entries_have m c.cells (below m x.tail (with_nums c.own (member_positions m x c.hosted))) p e (has_contained (mine m c x) (p, e) i) in
      by (nums_split c.own (member_positions m x c.hosted) p (has_kept (λ q. nat_lt q x.tail) (with_nums c.own (member_positions m x c.hosted)) p k.0))
    where
      by : Has c.own p ⊎ Has (member_positions m x c.hosted) p → Contains c.own p ⊎ IsFound p
      by (inl j) = inl (contained_has c.own p j)
      by (inr j) = let o = positions_from m x.found c.hosted p j in inr (o.0, contained_has c.hosted o.0 o.1, contained_has (positions_in m x.found o.0) p o.2)

  some_entry : (a b : Entry) (y : Option Entry) → y ≡ Some a → y ≡ Some b → a ≡ b
  some_entry a b y e f = cc

  -- so its decision is among them too
  decided_here : (p : ℕ) (e : Entry) (o : Oid) → Contains (entries_of l) (p, e) → Contains c.hosted o → Contains (positions_in m x.found o) p → IsDecidedBelow m (entries_of l) p e x.tail → is_some (decision_in (mine m c x) p) ≡ true
  decided_here p e o there hosted found d =
      let s = stand_entry l o p (r.only o p found).1 in
      let here : lists e o ≡ true = ap (λ (y : Entry). lists y o) (some_entry e s.0 (entry_at l p) (entry_there 0 l p e byp (has_contained (entries_of l) (p, e) there)) s.1) ∙ s.2 in
      let i = has_contained (entries_of l) (d.at, d.decision) d.here in
      let up = d.above in
      let a = r.above o p d.at found (omega (arith, up)) d.below (entry_stand l o d.at d.decision byp i (d.streams o here)) in
      decision_has (mine m c x) p d.at d.decision d.is_yes
      (have_entries m c.cells (below m x.tail (with_nums c.own (member_positions m x c.hosted))) d.at d.decision
      (has_filter (λ q. nat_lt q x.tail) (with_nums c.own (member_positions m x c.hosted)) d.at
      (nums_right c.own (member_positions m x c.hosted) d.at
      (in_positions m x.found c.hosted o d.at (has_contained c.hosted o hosted) (has_contained (positions_in m x.found o) d.at a.0)))
      (of_lt d.at x.tail d.below))
      (entry_read m l byp c.cells d.at d.decision r.known a.1 (entry_there 0 l d.at d.decision byp i)))
      d.says

  rested : (h : Header) (before : Moves m) → HasDecided m h (entries_of l) before c x → HasOwn m c x → HasRested m h before c x
  rested h before decided own k p e o is i commit needs hosted f less unfated known met undecided = by (found_of p e i)
    where
      there : Contains (entries_of l) (p, e)
      there = (mine_of m l byp c x r p e i).0

      no_fate : (b : Bool) (y : Option Bool) → y ≡ None → y ≡ Some b → ⊥
      no_fate b y g j = cc

      no_decision : (y : Option Bool) → y ≡ None → is_some y ≡ true → ⊥
      no_decision None g j = cc
      no_decision (Some b) g j = cc

      by : Contains c.own p ⊎ IsFound p → ⊥
      by (inl j) = let b = own k p e is j i commit less known in no_fate b.0 (fate_of m k p) unfated b.1
      by (inr j) = no_decision (decision_in (mine m c x) p) undecided (decided_here p e j.0 there j.1 j.2 (decided p e o there commit needs f met))

module _ (m : Meaning) where
  module _ (h : Header) (ms : Moves m) (w : World m) (exact : RoundsExact m h ms w) (own : OwnsPass m h ms w) (decided : MetDecided m h ms w) (before after : Moves m) (e : EventOf m) (split : ms ≡ before ++ Takes e ∷ after) where
    abbrev Each : (Client m → Work m → Type 0) → Type 0
    Each P = EachEvent m h.objects (entries_in m w) P (run m before (start m h)) e

    abbrev Exact : Client m → Work m → Type 0
    Exact c x = IsRound m (log m w) (round m c x c.cells) []

    abbrev Owns : Client m → Work m → Type 0
    Owns c x = TellsFates m x.command → HasOwn m c x

    abbrev Decided : Client m → Work m → Type 0
    Decided c x = TellsFates m x.command → HasDecided m h (entries_in m w) before c x

    abbrev Rests : Client m → Work m → Type 0
    Rests c x = TellsFates m x.command → HasRested m h before c x

    both : (P Q : Client m → Work m → Type 0) → Each P → Each Q → Each (λ c x. P c x × Q c x)
    both P Q p q = both_more m h.objects (entries_in m w) P (λ c x. P c x × Q c x) Q (λ c x i j. (i, j)) (run m before (start m h)) e p q

    each_rests : Each Rests
    each_rests =
        both_more m h.objects (entries_in m w) (λ c x. Exact c x × Owns c x) Rests Decided
        (λ c x p q t. rested m (log m w) (logs_by_position m w) c x p.0 h before (q t) (p.1 t)) (run m before (start m h)) e
        (both Exact Owns (exact before after e split) (own before after e split)) (decided before after e split)

  pub trims_rest : TrimsRestWhere m
  trims_rest h ms w r trims decided = each_rests h ms w (rounds_exact m h ms w r trims) (owns_pass m h ms w r trims) decided
