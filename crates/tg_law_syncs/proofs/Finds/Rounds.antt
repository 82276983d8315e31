-- What exact walks give of what clients find.
use Rattle.std.proofs.Common.{◌≡◌, ℕ, ◌≤◌, List, [], ◌∷◌, true, refl, ap, ◌∙◌, inl, inr, arith, Contains}
use Rattle.tg_base.specs.Clusters.{Header}
use Rattle.tg_base.specs.declared.cell.Cell.{Cell}
use Rattle.tg_entry.specs.declared.entry.Entry.{Entry}
use Rattle.tg_kind.specs.Meaning.{Meaning}
use Rattle.tg_model.specs.Kinds.{CommandOf, EventOf}
use Rattle.tg_model.specs.declared.command.Command.TheVariants as cmd
use Rattle.tg_protocol.specs.Answers.{play_target}
use Rattle.tg_protocol.specs.Clients.{Work, Client, entries_at}
use Rattle.tg_protocol.specs.Holding.{EntriesOwn}
use Rattle.tg_protocol.specs.ClientSteps.{plays_kept}
use Rattle.tg_protocol.specs.Logs.{Log, entries_of}
use Rattle.tg_protocol.specs.Runs.{Moves, Takes, run}
use Rattle.tg_protocol.specs.Views.{Entries}
use Rattle.tg_protocol.specs.Worlds.{World, start, log}
use Rattle.tg_law_replies.specs.History.Worlds.{entries_in}
use Rattle.tg_law_replies.proofs.History.Members.{has_contained, contained_has}
use Rattle.tg_law_replies.proofs.Views.Judges.{mine_below}
use Rattle.tg_law_replies.specs.Replies.Found.{mine, HasFound, FindsFor, Finds}
use Rattle.tg_law_replies.specs.Replies.Laws.{ClientsFind}
use Rattle.tg_law_replies.specs.Replies.Steps.{EachEvent}
use Rattle.tg_law_replies.proofs.Replies.Carried.{both_more}
use Rattle.tg_law_walks.specs.Walks.Streams.{IsByPosition, AreKnown}
use Rattle.tg_law_walks.specs.Walks.Rounds.{round, IsRound}
use Rattle.tg_law_walks.proofs.Walks.Cells.{there_entry}
use Rattle.tg_law_walks.proofs.Walks.Plays.{rounds_find_all, rounds_find_more}
use Rattle.tg_law_walks.proofs.Walks.Rounds.{read_entry}
use Rattle.tg_law_walks.proofs.Walks.Saves.{entries_have}
use Rattle.tg_law_walks.proofs.Walks.Syncs.{logs_by_position}
use Rattle.tg_law_syncs.specs.Finds.Left.{IsLeft, LeftFor, AreBegun, SavesBelow, PlaysFor, SavesPrecede, RoundsExact, RoundsKnown, RoundsFit, PassesOwn}
use Rattle.tg_law_syncs.specs.Finds.Laws.{RoundsFind, ClientsFindWhere}

module _ (m : Meaning) (h : Header) (l : Log) (before : Moves m) (c : Client m) (v : Work m) (by_position : IsByPosition l) (r : IsRound m l (round m c v c.cells) []) where
  -- a command plays no further than the tail
  plays_to : (x : CommandOf m) → play_target m v x ≤ v.tail
  plays_to cmd.End = r.at
  plays_to x = omega arith

  plays_found : (x : CommandOf m) → v.command ≡ x → plays_kept m x ≡ true → IsLeft m h (entries_of l) before c v → HasFound m h (entries_of l) before c v
  plays_found x is kept k = record {
    written = k.written;
    high = plays_to v.command;
    new = λ none. (rounds_find_all m l c v by_position r (inl none)).hosted;
    kept = λ u has. let f = rounds_find_more m l h.objects c v u by_position r (ap (plays_kept m) is ∙ kept) has in
        record { entries = f.0; stands = f.1; low = λ o b at. k.based u o b has at };
    saved = k.saved;
    fits = k.fits;
  }

  found_for : (x : CommandOf m) → v.command ≡ x → LeftFor m h (entries_of l) before c v x → FindsFor m h (entries_of l) before c v x
  found_for (cmd.AskAt p o q) is k = record { written = k; exact = (rounds_find_all m l c v by_position r (inr (ap (plays_kept m) is))).members }
  found_for (cmd.Rescue p) is k = record { written = k; exact = (rounds_find_all m l c v by_position r (inr (ap (plays_kept m) is))).all }
  found_for x is k = plays_found x is refl k

  pub found : LeftFor m h (entries_of l) before c v v.command → Finds m h (entries_of l) before c v
  found k = found_for v.command refl k

pub rounds_find : (m : Meaning) → RoundsFind m
rounds_find m h l before c v by_position r k = found m h l before c v by_position r k

-- Over a run.

-- entries at known positions are of the log of which the cells are known
known_there : (m : Meaning) (l : Log) (cells : List (ℕ × Cell)) (ps : List ℕ) → IsByPosition l → AreKnown l cells → (p : ℕ) (e : Entry) → Contains (entries_at m cells ps) (p, e) → Contains (entries_of l) (p, e)
known_there m l cells ps by_position known p e i =
    let k = entries_have m cells ps p e (has_contained (entries_at m cells ps) (p, e) i) in
    contained_has (entries_of l) (p, e) (there_entry l p e (read_entry m l by_position cells p e known k.1))

module _ (m : Meaning) (h : Header) (ms : Moves m) (end : World m) (own : PassesOwn m h ms end) (precede : SavesPrecede m (entries_in m end)) where
  abbrev es : Entries
  es = entries_in m end

  module _ (before : Moves m) (passed : EntriesOwn m h before (run m before (start m h))) where
    abbrev Known : Client m → Work m → Type 0
    Known c v = AreKnown (log m (run m before (start m h))) c.cells

    abbrev Exact : Client m → Work m → Type 0
    Exact c v = IsRound m (log m end) (round m c v c.cells) []

    begun : (c : Client m) (v : Work m) (ps : List ℕ) → Known c v → AreBegun m h es before (entries_at m c.cells ps)
    begun c v ps known p e i = passed p e (known_there m (log m (run m before (start m h))) c.cells ps (logs_by_position m (run m before (start m h))) known p e i)

    saves : (c : Client m) (v : Work m) → Exact c v → SavesBelow m h es before c v
    saves c v r p e o b i is =
        let less = mine_below m c v c.hosted p e (has_contained (mine m c v) (p, e) i) in
        let low = precede p e o b (known_there m (log m end) c.cells _ (logs_by_position m end) r.known p e i) is in
        omega (arith, less, low)

    left_for : (c : Client m) (v : Work m) (x : CommandOf m) → v.command ≡ x → Known c v → Exact c v → PlaysFor m h es before c v x → LeftFor m h es before c v x
    left_for c v (cmd.AskAt p o q) is known r k = begun c v _ known
    left_for c v (cmd.Rescue p) is known r k = begun c v _ known
    left_for c v x is known r k = record { written = begun c v _ known; based = k.based; saved = saves c v r; fits = k.fits }

    finds_here : (c : Client m) (v : Work m) → Known c v → Exact c v × PlaysFor m h es before c v v.command → Finds m h es before c v
    finds_here c v known r = found m h (log m end) before c v (logs_by_position m end) r.0 (left_for c v v.command refl known r.0 r.1)

    finds_in : (w : World m) (e : EventOf m) → EachEvent m h.objects es Exact w e → EachEvent m h.objects es Known w e → EachEvent m h.objects es (λ c v. PlaysFor m h es before c v v.command) w e → EachEvent m h.objects es (Finds m h es before) w e
    finds_in w e exact known fits =
        both_more m h.objects es Known (Finds m h es before) (λ c v. Exact c v × PlaysFor m h es before c v v.command) finds_here w e known
        (both_more m h.objects es Exact (λ c v. Exact c v × PlaysFor m h es before c v v.command) (λ c v. PlaysFor m h es before c v v.command) (λ c v x y. (x, y)) w e exact fits)

  all_found : RoundsExact m h ms end → RoundsKnown m h ms end → RoundsFit m h ms end → ClientsFind m h ms end
  all_found exact known fits before after e split =
      finds_in before (own before (Takes e ∷ after) split) (run m before (start m h)) e (exact before after e split) (known before after e split) (fits before after e split)

pub clients_find : (m : Meaning) → ClientsFindWhere m
clients_find m h ms w r exact known own precede fits = all_found m h ms w own precede exact known fits
