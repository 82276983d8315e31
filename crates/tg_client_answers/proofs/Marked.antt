-- The record of a mark has a spelling.
use Rattle.std.proofs.Common.{◌≡◌, ◌<◌, ◌≤◌, ◌^◌, ℕ, true, List, [], ◌∷◌, refl, sym, subst, arith}
use Rattle.std.specs.Prelude.{length}
use Rattle.std.specs.List.{list_all}
use Rattle.std.proofs.lemmas.Bool.Decides.{nat_tests}
use Rattle.tg_base.specs.Units.{is_within}
use Rattle.tg_base.specs.declared.marks.ReadMark.{ReadMark}
use Rattle.tg_base.specs.declared.marks.StreamLink.{StreamLink}
use Rattle.tg_entry.specs.declared.entry.Head.{Head}
use Rattle.tg_entry.specs.declared.entry.Entry.{Entry}
use Rattle.tg_entry.specs.declared.entry.WriteOp.{WriteOp}
use Rattle.tg_entry.specs.declared.entry.Body.TheVariants.{Commit}
use Rattle.tg_entry.specs.Drafts.{IsDraft}
use Rattle.tg_entry.specs.Records.{is_write, IsHead, IsCommit}
use Rattle.tg_entry.proofs.Fits.{records_fit}
use Rattle.tg_protocol.specs.Entries.{unlinked}
use Rattle.tg_protocol.specs.Words.{directory}
use Rattle.tg_client_state.proofs.Headers.{both}

abbrev pub head_of : ℕ → ℕ → List StreamLink → Head
head_of client number ls = record { format = 2; client = client; number = number; streams = ls }

abbrev pub links : List StreamLink
links = unlinked directory ∷ []

abbrev pub written : List ℕ → List WriteOp
written op = record { oid = directory; op = op } ∷ []

head_kept : (client number : ℕ) → client < 2 ^ 16 → 1 ≤ number → number < 2 ^ 32 → IsHead (head_of client number links)
head_kept client number lt low high = record {
  format = refl;
  client = lt;
  number = low;
  within = high;
  some = omega arith;
  few = omega arith;
  streams = refl;
  rising = refl;
}

write_kept : (op : List ℕ) → 1 ≤ length op → length op ≤ 4096 → list_all is_write (written op) ≡ true
write_kept op low high =
    let within : is_within 1 4096 (length op) ≡ true = grind (arith, nat_tests, low, high) in
    both _ _ (both _ _ refl within) refl

commit_kept : (client number : ℕ) (op : List ℕ) → client < 2 ^ 16 → 1 ≤ number → number < 2 ^ 32 → 1 ≤ length op → length op ≤ 4096 → IsCommit (head_of client number links) [] (written op)
commit_kept client number op lt low high some few = record {
  head = head_kept client number lt low high;
  reads = refl;
  few_reads = omega arith;
  rising = refl;
  writes = write_kept op some few;
  few_writes = omega arith;
  streams = λ n. refl;
}

entry_of : ℕ → ℕ → List StreamLink → List ReadMark → List WriteOp → Entry
entry_of client number ls rs ws = record { head = head_of client number ls; body = Commit rs ws }

pub mark_kept : (client number : ℕ) (op : List ℕ) (ls : List StreamLink) (rs : List ReadMark) (ws : List WriteOp) → ls ≡ links → rs ≡ [] → ws ≡ written op →
    client < 2 ^ 16 → 1 ≤ number → number < 2 ^ 32 → 1 ≤ length op → length op ≤ 4096 → IsDraft (record { head = head_of client number ls; body = Commit rs ws })
unfolding entry_of
mark_kept client number op ls rs ws hl hr hw lt low high some few = subst (λ (x : Entry). IsDraft x) (λ i. entry_of client number (sym hl i) (sym hr i) (sym hw i)) (record {
  spelled = records_fit.commits (head_of client number links) [] (written op) (commit_kept client number op lt low high some few);
  unlinked = refl;
})
