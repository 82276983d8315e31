-- What kept views leave for `fate` and `decide`.
use Rattle.std.proofs.Common.{◌≡◌, ◌⊎◌, ℕ, List, [], ◌∷◌, true, refl, ap, ◌∙◌, inl, inr, Option, Some, None}
use Rattle.std.specs.Prelude.{nat_lt, Bool, Contains, ◌++◌}
use Rattle.tg_base.specs.Clusters.{Header}
use Rattle.tg_base.specs.declared.ids.Oid.{Oid}
use Rattle.tg_entry.specs.declared.entry.Entry.{Entry}
use Rattle.tg_kind.specs.Meaning.{Meaning}
use Rattle.tg_model.specs.declared.command.Command.TheVariants as cmd
use Rattle.tg_model.specs.Kinds.{CommandOf, EventOf}
use Rattle.tg_protocol.specs.Words.{with_nums}
use Rattle.tg_protocol.specs.Entries.{lists}
use Rattle.tg_protocol.specs.Logs.{Log, entries_of, entry_at}
use Rattle.tg_protocol.specs.Views.{View, fate_of}
use Rattle.tg_protocol.specs.Clients.{Work, Client, positions_in, positions_of, member_positions, below}
use Rattle.tg_protocol.specs.Runs.{Moves, Takes, run}
use Rattle.tg_protocol.specs.Worlds.{World, start, log}
use Rattle.tg_law_replies.specs.History.Worlds.{entries_in}
use Rattle.tg_law_replies.proofs.History.Members.{Has, has_contained, contained_has, has_kept}
use Rattle.tg_law_replies.specs.Views.Exact.{LeavesNone}
use Rattle.tg_law_replies.specs.Replies.Found.{mine}
use Rattle.tg_law_replies.specs.Replies.Steps.{EachEvent}
use Rattle.tg_law_replies.proofs.Replies.Carried.{both_more}
use Rattle.tg_law_walks.specs.Walks.Streams.{IsByPosition}
use Rattle.tg_law_walks.specs.Walks.Rounds.{round, IsRound}
use Rattle.tg_law_walks.proofs.Walks.Cells.{there_entry}
use Rattle.tg_law_walks.proofs.Walks.Positions.{nums_split}
use Rattle.tg_law_walks.proofs.Walks.Rounds.{read_entry}
use Rattle.tg_law_walks.proofs.Walks.Saves.{entries_have}
use Rattle.tg_law_walks.proofs.Walks.Stretches.{stand_entry}
use Rattle.tg_law_walks.proofs.Walks.Syncs.{logs_by_position}
use Rattle.tg_law_syncs.specs.Finds.Left.{RoundsExact}
use Rattle.tg_law_syncs.specs.Exact.Finds.{LeavesFor}
use Rattle.tg_law_syncs.proofs.Exact.Finds.{rounds_exact}
use Rattle.tg_law_headline.specs.Leaves.Passed.{WasMet, HasPassed, ViewsPass, TellsFates, HasRested, HasOwn, TrimsRest, OwnsPass, OwnsPassBySpareTrims, ViewsLeaveNoneWhere}
use Rattle.tg_law_headline.proofs.Leaves.Plays.{OwnsPassed}
use Rattle.tg_law_headline.proofs.Leaves.Passing.{views_pass, owns_stay}

-- a position of some streams is one of one of them
pub positions_from : (m : Meaning) (xs : List (Oid × List ℕ)) (os : List Oid) (q : ℕ) → Has (positions_of m xs os) q → (o : Oid) × Has os o × Has (positions_in m xs o) q
positions_from m xs [] q i = absurd i
positions_from m xs (o ∷ os) q i = by (nums_split (positions_in m xs o) (positions_of m xs os) q i) (λ j. positions_from m xs os q j)
  where
    by : Has (positions_in m xs o) q ⊎ Has (positions_of m xs os) q → (Has (positions_of m xs os) q → (p : Oid) × Has os p × Has (positions_in m xs p) q) → (p : Oid) × Has (o ∷ os) p × Has (positions_in m xs p) q
    by (inl j) rest = (o, inl refl, j)
    by (inr j) rest = let r = rest j in (r.0, inr r.1, r.2)

module _ (m : Meaning) (l : Log) (byp : IsByPosition l) (c : Client m) (x : Work m) (r : IsRound m l (round m c x c.cells) []) where
  -- an entry stands in a hosted stream
  abbrev IsMember : ℕ → Entry → Type 0
  IsMember p e = (o : Oid) × Contains c.hosted o × (lists e o ≡ true)

  same_entry : (a b : Entry) (y : Option Entry) → y ≡ Some a → y ≡ Some b → a ≡ b
  same_entry a b y e f = cc

  -- each of the client's entries is of the log, and stands in a hosted stream or is its own
  pub mine_of : (p : ℕ) (e : Entry) → Contains (mine m c x) (p, e) → Contains (entries_of l) (p, e) × (Contains c.own p ⊎ IsMember p e)
  mine_of p e i =
      let k = entries_have m c.cells (below m x.tail (with_nums c.own (member_positions m x c.hosted))) p e (has_contained (mine m c x) (p, e) i) in
      let at = read_entry m l byp c.cells p e r.known k.1 in
      (contained_has (entries_of l) (p, e) (there_entry l p e at), by at (nums_split c.own (member_positions m x c.hosted) p (has_kept (λ q. nat_lt q x.tail) (with_nums c.own (member_positions m x c.hosted)) p k.0)))
    where
      by : entry_at l p ≡ Some e → Has c.own p ⊎ Has (member_positions m x c.hosted) p → Contains c.own p ⊎ IsMember p e
      by at (inl j) = inl (contained_has c.own p j)
      by at (inr j) =
          let o = positions_from m x.found c.hosted p j in
          let s = stand_entry l o.0 p (r.only o.0 p (contained_has (positions_in m x.found o.0) p o.2)).1 in
          inr (o.0, contained_has c.hosted o.0 o.1, ap (λ (d : Entry). lists d o.0) (same_entry e s.0 (entry_at l p) at s.1) ∙ s.2)

  module _ (h : Header) (before : Moves m) (pass : (k : View m) → c.view ≡ Some k → HasPassed m (WasMet m h before c.num) (entries_of l) c.hosted k) (rest : HasRested m h before c x) (own : HasOwn m c x) where
    none_some : (b : Bool) (y : Option Bool) → y ≡ None → y ≡ Some b → ⊥
    none_some b y e f = cc

    pub leaves_none : (k : View m) → c.view ≡ Some k → LeavesNone m k (mine m c x)
    leaves_none k is p e i commit needs less writes reads unfated undecided known = let f = mine_of p e i in by f.0 f.1
      where
        passed : (o : Oid) → Contains c.hosted o → lists e o ≡ true → ((b : Bool) × (fate_of m k p ≡ Some b)) ⊎ WasMet m h before c.num o p → ⊥
        passed o hosted f (inl b) = none_some b.0 (fate_of m k p) unfated b.1
        passed o hosted f (inr t) = rest k p e o is i commit needs hosted f less unfated known t undecided

        by : Contains (entries_of l) (p, e) → Contains c.own p ⊎ IsMember p e → ⊥
        by j (inl o) = let b = own k p e is o i commit less known in none_some b.0 (fate_of m k p) unfated b.1
        by j (inr o) = passed o.0 o.1 o.2 (pass k is p e o.0 j commit o.1 o.2 less known)

module _ (m : Meaning) where
  -- for the commands that tell fates
  for_fates : (c : Client m) (v : Work m) (x : CommandOf m) → (TellsFates m x → (k : View m) → c.view ≡ Some k → LeavesNone m k (mine m c v)) → LeavesFor m c v x
  for_fates c v (cmd.Fate p) f = f tt
  for_fates c v (cmd.Decide p) f = f tt
  for_fates c v x f = tt

  module _ (h : Header) (ms : Moves m) (w : World m) (exact : RoundsExact m h ms w) (pass : ViewsPass m h ms w) (rest : TrimsRest m h ms w) (own : OwnsPass m h ms w) (before after : Moves m) (e : EventOf m) (split : ms ≡ before ++ Takes e ∷ after) where
    abbrev Each : (Client m → Work m → Type 0) → Type 0
    Each P = EachEvent m h.objects (entries_in m w) P (run m before (start m h)) e

    abbrev Exact : Client m → Work m → Type 0
    Exact c x = IsRound m (log m w) (round m c x c.cells) []

    abbrev Passed : Client m → Work m → Type 0
    Passed c x = (k : View m) → c.view ≡ Some k → HasPassed m (WasMet m h before c.num) (entries_in m w) c.hosted k

    abbrev Rests : Client m → Work m → Type 0
    Rests c x = TellsFates m x.command → HasRested m h before c x

    abbrev Owns : Client m → Work m → Type 0
    Owns c x = TellsFates m x.command → HasOwn m c x

    both : (P Q : Client m → Work m → Type 0) → Each P → Each Q → Each (λ c x. P c x × Q c x)
    both P Q p q = both_more m h.objects (entries_in m w) P (λ c x. P c x × Q c x) Q (λ c x i j. (i, j)) (run m before (start m h)) e p q

    leaves : (c : Client m) (x : Work m) → Exact c x × Passed c x → Rests c x × Owns c x → LeavesFor m c x x.command
    leaves c x p q = for_fates c x x.command (λ t. leaves_none m (log m w) (logs_by_position m w) c x p.0 h before p.1 (q.0 t) (q.1 t))

    each_leaves : Each (λ c x. LeavesFor m c x x.command)
    each_leaves =
        both_more m h.objects (entries_in m w) (λ c x. Exact c x × Passed c x) (λ c x. LeavesFor m c x x.command) (λ c x. Rests c x × Owns c x) leaves (run m before (start m h)) e
        (both Exact Passed (exact before after e split) (pass before after e split)) (both Rests Owns (rest before after e split) (own before after e split))

  -- the client's own records
  has_own : (h : Header) (before : Moves m) (l : Log) (byp : IsByPosition l) (c : Client m) (x : Work m) → IsRound m l (round m c x c.cells) [] → OwnsPassed m (WasMet m h before c.num) (entries_of l) c.own c.view → HasOwn m c x
  has_own h before l byp c x r f k p e is own i commit less known = f k is p e own (mine_of m l byp c x r p e i).0 commit less known

  pub owns_pass : OwnsPassBySpareTrims m
  owns_pass h ms w r trims before after e split =
      both_more m h.objects (entries_in m w) (λ c x. IsRound m (log m w) (round m c x c.cells) []) (λ c x. TellsFates m x.command → HasOwn m c x) (λ c x. OwnsPassed m (WasMet m h before c.num) (entries_in m w) c.own c.view)
      (λ c x p q t. has_own h before (log m w) (logs_by_position m w) c x p q) (run m before (start m h)) e (rounds_exact m h ms w r trims before after e split) (owns_stay m h ms w r trims before after e split)

  pub views_leave_none : ViewsLeaveNoneWhere m
  views_leave_none h ms w r trims rest = each_leaves h ms w (rounds_exact m h ms w r trims) (views_pass m h ms w r trims) rest (owns_pass h ms w r trims)
