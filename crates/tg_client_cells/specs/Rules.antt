-- What is known, in the words of a client's rules.
use Rattle.std.specs.Prelude.{◌≡◌, ℕ, ◌≤◌, List, filter}
use Rattle.tg_base.specs.declared.cell.Cell.{Cell}
use Rattle.tg_base.specs.declared.ids.Oid.{Oid}
use Rattle.tg_entry.specs.declared.entry.Entry.{Entry}
use Rattle.tg_kind.specs.Meaning.{Meaning}
use Rattle.tg_protocol.specs.Views.{Entries, View, decision_in, verdict, view_outcome, play}
use Rattle.tg_protocol.specs.Past.{commit_at}
use Rattle.tg_protocol.specs.Clients as rules
use Rattle.tg_protocol.specs.Clients.{Client, Work, upto}
use Rattle.tg_protocol.specs.Answers as replies
use Rattle.tg_client_cells.specs.Words.{ByStream, positions_in, with_positions, entries_at, entries_from}
use Rattle.tg_client_cells.specs.Known.{Knowledge, keeps, all_entries, member_entries, CommitsBelow}

-- what a client of the rules knows, where this much is settled
abbrev pub known_by : (m : Meaning) → Client m → ℕ → Knowledge
known_by m c s = record { cells = c.cells; own = c.own; settled = s }

-- the words are the rules', for the kinds of any implementation
pub record AsRuled (m : Meaning) : Type 0 where
  pub positions : (xs : ByStream) (o : Oid) → positions_in xs o ≡ rules.positions_in m xs o
  pub with_positions : (xs : ByStream) (o : Oid) (ps : List ℕ) → with_positions xs o ps ≡ rules.with_positions m xs o ps
  pub entries : (cells : List (ℕ × Cell)) (ps : List ℕ) → entries_at cells ps ≡ rules.entries_at m cells ps
  pub all : (c : Client m) (w : Work m) (os : List Oid) (s : ℕ) → all_entries (known_by m c s) w.found os w.tail ≡ rules.all_entries m c w os
  pub members : (c : Client m) (w : Work m) (os : List Oid) (s : ℕ) → member_entries (known_by m c s) w.found os w.tail ≡ rules.member_entries m c w os
  pub kept : (c : Client m) → filter (keeps (upto m c) c.own) c.cells ≡ (replies.pruned m c).cells

-- Where all entries below a position are commit records, nothing that is played or decided from there on goes by them.
pub record PlaysNew (m : Meaning) (es : Entries) (s : ℕ) : Type 0 where
  pub decisions : (p : ℕ) → decision_in (entries_from s es) p ≡ decision_in es p
  pub verdicts : (v : View m) (p : ℕ) (e : Entry) → verdict m v (entries_from s es) p e ≡ verdict m v es p e
  pub outcomes : (v : View m) (p : ℕ) (e : Entry) → view_outcome m v (entries_from s es) p e ≡ view_outcome m v es p e
  pub commits : (p : ℕ) → s ≤ p → commit_at (entries_from s es) p ≡ commit_at es p
  pub plays : (v : View m) (target : ℕ) → s ≤ v.upto → play m v (entries_from s es) target ≡ play m v es target

abbrev pub NewPlayed : Meaning → Type 0
NewPlayed m = (es : Entries) (s : ℕ) → CommitsBelow s es → PlaysNew m es s
