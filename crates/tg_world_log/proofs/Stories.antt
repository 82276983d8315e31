-- The history, cell by cell.
use Rattle.std.specs.Prelude.{◌≡◌, ℕ, Bool, true, false, List, [], ◌∷◌, ◌++◌, Option, Some, None, refl}
use Rattle.std.proofs.Common.{ap, sym, ◌∙◌}
use Rattle.std.proofs.lemmas.List.{append_assoc, append-nil}
use Rattle.tg_base.specs.declared.cell.Cell.{Cell}
use Rattle.tg_entry.specs.declared.entry.Entry.{Entry}
use Rattle.tg_kind.specs.Meaning.{Meaning}
use Rattle.tg_model.specs.Kinds.{DoneOf}
use Rattle.tg_protocol.specs.Versions.{PartVersion, no_versions}
use Rattle.tg_protocol.specs.Views.{Entries, entry_if}
use Rattle.tg_protocol.specs.Logs.{Log, entries_of, commits_after, changes_after, done_if, history_after, history_of}
use Rattle.tg_protocol.specs.Pages.{entry_in}
use Rattle.tg_vers.specs.Kept.{Objects, Keeps}
use Rattle.tg_world_log.specs.Turns.{changed, dones_of, dones_by, changes_by}

module _ (m : Meaning) where
  if_done : (b : Bool) (p : ℕ) (e : Entry) (ds : List (DoneOf m)) → done_if m b p e ds ≡ done_if m b p e [] ++ ds
  if_done true p e ds = refl
  if_done false p e ds = refl

  next_entry : (ns : List PartVersion) (p : ℕ) (o : Option Entry) (es : Entries) → history_after m ns (entry_if p o es) ≡ dones_by m ns p o ++ history_after m (changes_by m ns p o) es
  next_entry ns p None es = refl
  next_entry ns p (Some e) es = if_done (commits_after m ns e) p e (history_after m (changes_after m ns p e) es)

  -- what a cell adds, and what is left
  pub next_cell : (ns : List PartVersion) (x : ℕ × Cell) (xs : Log) → history_after m ns (entries_of (x ∷ xs)) ≡ dones_by m ns x.0 (entry_in x.1) ++ history_after m (changes_by m ns x.0 (entry_in x.1)) (entries_of xs)
  unfolding entries_of
  next_cell ns x xs = next_entry ns x.0 (entry_in x.1) (entries_of xs)

  -- what was reached of the history: the changes so far, and the transactions, which with those of the rest are all
  pub record Reached (l : Log) (versions : Objects) (dones : List (DoneOf m)) (rest : Log) : Type 0 where
    pub noted : List PartVersion
    pub kept : Keeps versions (changed noted)
    pub all : dones ++ history_after m noted (entries_of rest) ≡ history_of m l

  pub reached_start : (l : Log) (versions : Objects) → Keeps versions no_versions → Reached l versions [] l
  unfolding no_versions history_of
  reached_start l versions k = record { noted = []; kept = k; all = refl }

  pub reached_next : (l : Log) (versions after : Objects) (dones more : List (DoneOf m)) (x : ℕ × Cell) (xs rest : Log) → rest ≡ x ∷ xs
      → ((ns : List PartVersion) → Keeps versions (changed ns) → Keeps after (changed (changes_by m ns x.0 (entry_in x.1))))
      → ((ns : List PartVersion) → Keeps versions (changed ns) → more ≡ dones ++ dones_by m ns x.0 (entry_in x.1))
      → Reached l versions dones rest → Reached l after more xs
  reached_next l versions after dones more x xs rest first keeps adds r = record {
    noted = changes_by m r.noted x.0 (entry_in x.1);
    kept = keeps r.noted r.kept;
    all =
        ap (λ (ds : List (DoneOf m)). ds ++ history_after m (changes_by m r.noted x.0 (entry_in x.1)) (entries_of xs)) (adds r.noted r.kept)
        ∙ append_assoc dones (dones_by m r.noted x.0 (entry_in x.1)) (history_after m (changes_by m r.noted x.0 (entry_in x.1)) (entries_of xs))
        ∙ ap (λ (ds : List (DoneOf m)). dones ++ ds) (sym (next_cell r.noted x xs))
        ∙ ap (λ (ys : Log). dones ++ history_after m r.noted (entries_of ys)) (sym first)
        ∙ r.all;
  }

  pub reached_end : (l : Log) (versions : Objects) (dones : List (DoneOf m)) (rest : Log) → rest ≡ [] → Reached l versions dones rest → dones ≡ history_of m l
  unfolding entries_of
  reached_end l versions dones rest e r = sym (append-nil dones) ∙ ap (λ (ys : Log). dones ++ history_after m r.noted (entries_of ys)) (sym e) ∙ r.all
