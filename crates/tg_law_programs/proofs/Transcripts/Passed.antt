-- Along a run whose commands keep the grammar of scripts: what each client keeps, and what each reply tells.
use Rattle.std.proofs.Common.{◌≡◌, ℕ, ◌<◌, ◌≤◌, ◌^◌, List, [], ◌∷◌, length, Bool, true, false, cond, refl, sym, ap, ◌∙◌, subst, inl, inr, arith, Some, None, Option, nat_cmp}
use Rattle.std.specs.Prelude.{nat_lt, nat_le}
use Rattle.std.specs.BTreeMap.{is_at}
use Rattle.std.specs.List.{list_all}
use Rattle.std.proofs.lemmas.Bool.Decides.{nat_tests}
use Rattle.tg_base.specs.Clusters.{Header}
use Rattle.tg_base.specs.Layouts.{Layout, IsLayout, is_range}
use Rattle.tg_base.specs.declared.cell.Cell.{Cell}
use Rattle.tg_base.specs.declared.ids.Oid.{Oid}
use Rattle.tg_base.specs.declared.layout.Range.{Range}
use Rattle.tg_base.specs.declared.marks.ReadMark.{ReadMark}
use Rattle.tg_codec.proofs.Laws.{both, and-left, and-right}
use Rattle.tg_dir.specs.Spellings.{is_number}
use Rattle.tg_entry.specs.declared.entry.Body.{Body}
use Rattle.tg_entry.specs.declared.entry.Body.TheVariants.{Commit, Decision, Checkpoint}
use Rattle.tg_entry.specs.declared.entry.Entry.{Entry}
use Rattle.tg_entry.specs.Needs.{reads_of, reads_in}
use Rattle.tg_model.specs.declared.command.Command.TheVariants as cmd
use Rattle.tg_model.specs.Kinds.{CommandOf, MarkOf, NoteOf, WhatOf}
use Rattle.tg_protocol.specs.Clients.{Work, Client, entries_at}
use Rattle.tg_protocol.specs.Entries.{is_commit}
use Rattle.tg_protocol.specs.Holding.{IsRecord}
use Rattle.tg_protocol.specs.Logs.{Log, entries_of, entry_at}
use Rattle.tg_protocol.specs.Pages.{cell_entry, entry_in}
use Rattle.tg_protocol.specs.Runs.{Moves, Reaches}
use Rattle.tg_protocol.specs.Views.{entry_if}
use Rattle.tg_protocol.specs.Words.{cell_at, directory}
use Rattle.tg_protocol.specs.Worlds.{World, Told, client, log, trace}
use Rattle.tg_any.specs.declared.any.AnyOp.{AnyOp}
use Rattle.tg_any.specs.declared.any.AnyOp.TheVariants as ops
use Rattle.tg_any.specs.declared.any.AnyAsk.{AnyAsk}
use Rattle.tg_any.specs.AllKinds.{all_kinds}
use Rattle.tg_any.specs.AnyWords.{op_fits, ask_fits}
use Rattle.tg_any.specs.Names.{is_named}
use Rattle.tg_dir.specs.declared.directory.DirectoryOp.TheVariants as directory_ops
use Rattle.tg_law_layouts.proofs.Moves.Lists.{contained}
use Rattle.tg_law_layouts.proofs.Moves.Members.{Has, has_map, has_contained}
use Rattle.tg_law_walks.proofs.Walks.Cells.{known_at}
use Rattle.tg_law_walks.specs.Walks.Streams.{AreKnown}
use Rattle.tg_law_headline.proofs.Runs.Holding.{logs_hold}
use Rattle.tg_law_programs.proofs.Transcripts.Near.{Near}
use Rattle.tg_law_programs.proofs.Transcripts.Given.{SayOk, NotesOk}
use Rattle.tg_law_programs.proofs.Transcripts.Faults.{SmallLayout, AreSmall}
use Rattle.tg_law_programs.proofs.Transcripts.Blocks.{ReadsOk, AllRead}
use Rattle.tg_law_programs.proofs.Transcripts.Spoken.{ClientOk, EndReads}

abbrev pub Named : Oid → Type 0
Named o = is_named o ≡ true

abbrev pub OpOk : AnyOp → Type 0
OpOk op = op_fits op ≡ true

abbrev pub AskOk : AnyAsk → Type 0
AskOk q = ask_fits q ≡ true

pub own_directory : Named directory
own_directory = refl

number_named : (o : Oid) → is_number o ≡ true → is_named o ≡ true
number_named o e = grind (arith, nat_tests)

near_test : (n : ℕ) → n < 2 ^ 64 → nat_lt n (2 ^ 64) ≡ true
near_test n e = grind (arith, nat_tests)

near_of : (n : ℕ) → nat_lt n (2 ^ 64) ≡ true → n < 2 ^ 64
near_of n e = grind (arith, nat_tests)

pub marks_ok : (o : Oid) (n : ℕ) → Named o → Near n → OpOk (all_kinds.mark_op o n)
marks_ok o n a b = by (is_number o)
  where
    by : (t : Bool) → op_fits (ops.Directory (cond t (directory_ops.Mark o n) (directory_ops.Mark directory 0))) ≡ true
    by true = both (is_named o) (nat_lt n (2 ^ 64)) a (near_test n b)
    by false = refl

-- what replies tell is named and counted so
abbrev pub Says : ℕ → WhatOf all_kinds → Type 0
Says x what = SayOk all_kinds Named OpOk AskOk x what

abbrev pub Kept : ℕ → Client all_kinds → Type 0
Kept top c = ClientOk all_kinds Named OpOk AskOk own_directory marks_ok top c

-- Layouts.

le_of : (a b : ℕ) → nat_le a b ≡ true → a ≤ b
le_of a b e = grind (arith, nat_tests)

small_ranges : (rs : List Range) → list_all is_range rs ≡ true → AreSmall rs
small_ranges [] e = tt
small_ranges (r ∷ rs) e = (le_of (length r.stripes) 8 (and-right _ _ (and-left _ _ (and-left (is_range r) _ e))), small_ranges rs (and-right (is_range r) _ e))

pub small_of : (p : Layout) → IsLayout p → SmallLayout p
small_of p e =
    let two = and-left _ _ (and-left _ _ (and-left _ _ e)) in
    (le_of (length p.ranges) 32 (and-right _ _ (and-right _ _ (and-left _ _ two))), small_ranges p.ranges (and-right _ _ two))

-- Entries at known cells are the log's.

has_entry : (l : Log) (p : ℕ) (e : Entry) → entry_at l p ≡ Some e → Has (entries_of l) (p, e)
unfolding entries_of
has_entry [] p e i = absurd cc
has_entry (x ∷ xs) p e i = by (is_at (nat_cmp p) x.0) refl i (λ f. has_entry xs p e f)
  where
    same : is_at (nat_cmp p) x.0 ≡ true → p ≡ x.0
    same t = grind arith

    later : (o : Option Entry) → Has (entries_of xs) (p, e) → Has (entry_if x.0 o (entries_of xs)) (p, e)
    later None j = j
    later (Some d) j = inr j

    some_entry : (a b : Entry) → Some a ≡ Some b → a ≡ b
    some_entry a b f = cc

    first : (o : Option Entry) → p ≡ x.0 → o ≡ Some e → Has (entry_if x.0 o (entries_of xs)) (p, e)
    first None at f = absurd cc
    first (Some d) at f = inl (ap (λ (n : ℕ). (n, e)) at ∙ ap (λ (y : Entry). (x.0, y)) (sym (some_entry d e f)))

    by : (b : Bool) → is_at (nat_cmp p) x.0 ≡ b → cell_entry (cond b (Some x.1) (cell_at xs p)) ≡ Some e → (entry_at xs p ≡ Some e → Has (entries_of xs) (p, e)) → Has (entry_if x.0 (entry_in x.1) (entries_of xs)) (p, e)
    by true t f rest = first (entry_in x.1) (same t) f
    by false t f rest = later (entry_in x.1) (rest f)

module _ (cells : List (ℕ × Cell)) (l : Log) (known : AreKnown l cells) (named : (p : ℕ) (e : Entry) → Has (entries_of l) (p, e) → ReadsOk Named (reads_of e)) where
  all_read : (ps : List ℕ) → AllRead Named (entries_at all_kinds cells ps)
  unfolding entries_at
  all_read [] = tt
  all_read (p ∷ ps) = by (cell_entry (cell_at cells p)) refl (all_read ps)
    where
      at_log : (e : Entry) (c : Option Cell) → cell_at cells p ≡ c → cell_entry c ≡ Some e → entry_at l p ≡ Some e
      at_log e None is f = absurd cc
      at_log e (Some c) is f = ap cell_entry (known_at l cells known p c is) ∙ f

      by : (o : Option Entry) → cell_entry (cell_at cells p) ≡ o → AllRead Named (entries_at all_kinds cells ps) → AllRead Named (entry_if p o (entries_at all_kinds cells ps))
      by None is rest = rest
      by (Some e) is rest = (named p e (has_entry l p e (at_log e (cell_at cells p) refl is)), rest)

  pub end_reads : (c : Client all_kinds) (w : Work all_kinds) → c.cells ≡ cells → EndReads all_kinds Named OpOk AskOk own_directory marks_ok c w
  end_reads c w same = by w.command
    where
      at_cells : (ps : List ℕ) → AllRead Named (entries_at all_kinds c.cells ps)
      at_cells ps = subst (λ (x : List (ℕ × Cell)). AllRead Named (entries_at all_kinds x ps)) (sym same) (all_read ps)

      by : (x : CommandOf all_kinds) → Rattle.tg_law_programs.proofs.Transcripts.Spoken.ReadsFor all_kinds Named OpOk AskOk own_directory marks_ok c w x
      by (cmd.AskAt p o q) = at_cells _
      by (cmd.Rescue p) = at_cells _
      by x = at_cells _

-- What holds of a world.

pub record State (top : ℕ) (w : World all_kinds) : Type 0 where
  pub clients : (k : ℕ) → Kept top (client all_kinds w k)
  pub told : (t : Told all_kinds) → Has w.told t → Says t.mark.tx t.mark.what

pub note_says : (ns : List (NoteOf all_kinds)) → NotesOk all_kinds Named OpOk AskOk ns → (n : NoteOf all_kinds) → Has ns n → Says n.tx n.what
note_says [] k n i = absurd i
note_says (x ∷ ns) k n (inl e) = subst (λ (y : NoteOf all_kinds). Says y.tx y.what) (sym e) k.0
note_says (x ∷ ns) k n (inr i) = note_says ns k.1 n i

-- The reads of each record of a world's log name objects.
module _ (h : Header) (xs : Moves all_kinds) (w : World all_kinds) (r : Reaches all_kinds h xs w) (top : ℕ) (s : State top w) where
  reads_each : (k x : ℕ) (rs : List ReadMark) → ((q : ReadMark) → Has rs q → Named q.oid) → ReadsOk Named rs
  reads_each k x [] f = tt
  reads_each k x (q ∷ rs) f = (f q (inl refl), reads_each k x rs (λ y i. f y (inr i)))

  no_reads : (b : Body) → Rattle.tg_protocol.specs.Entries.body_commits b ≡ false → ReadsOk Named (reads_in b)
  no_reads (Commit rs ws) e = absurd cc
  no_reads (Decision at so) e = tt
  no_reads (Checkpoint o u v n ks st) e = tt

  pub reads_named : (p : ℕ) (e : Entry) → Has (entries_of (log all_kinds w)) (p, e) → ReadsOk Named (reads_of e)
  reads_named p e i = by (is_commit e) refl
    where
      by : (b : Bool) → is_commit e ≡ b → ReadsOk Named (reads_of e)
      by false f = no_reads e.body f
      by true f = reads_each e.head.client e.head.number (reads_of e) asked
        where
          of : IsRecord all_kinds w e
          of = (logs_hold h xs w r).records p e (contained _ (p, e) i) f

          asked : (q : ReadMark) → Has (reads_of e) q → Named q.oid
          asked q j =
              let a = of.asked q.oid q.part (record { read = q; here = contained (reads_of e) q j; oid = refl; of_part = refl }) in
              let t = has_map (λ (t : Told all_kinds). t.mark) w.told _ (has_contained (trace all_kinds w) _ a.asked.here) in
              (subst (λ (y : MarkOf all_kinds). Says y.tx y.what) (sym t.is) (s.told t.of t.has)).0
