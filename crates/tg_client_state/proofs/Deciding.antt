-- A decision record in the streams of an entry has a spelling.
use Rattle.std.proofs.Common.{◌≡◌, ◌<◌, ◌≤◌, ◌^◌, ℕ, Bool, true, List, [], ◌∷◌, refl, sym, ap, ◌∙◌, subst, arith}
use Rattle.std.specs.Prelude.{◌==◌, nat_le, length, map}
use Rattle.std.specs.List.{list_all}
use Rattle.std.proofs.lemmas.Bool.Decides.{nat_tests}
use Rattle.tg_base.specs.Units.{is_rising}
use Rattle.tg_base.specs.declared.marks.StreamLink.{StreamLink}
use Rattle.tg_entry.specs.declared.entry.Head.{Head}
use Rattle.tg_entry.specs.declared.entry.Entry.{Entry}
use Rattle.tg_entry.specs.declared.entry.Body.TheVariants.{Decision}
use Rattle.tg_entry.specs.Drafts.{IsDraft}
use Rattle.tg_entry.specs.Records.{is_stream, IsHead}
use Rattle.tg_entry.specs.Writes.{stream_numbers}
use Rattle.tg_entry.proofs.Fits.{records_fit}
use Rattle.tg_protocol.specs.Entries.{unlinked, oid_of_link}
use Rattle.tg_client_state.specs.Drafts.{are_streams, of_object}
use Rattle.tg_client_state.proofs.Headers.{first_true, rest_true, both}

abbrev pub bare : List StreamLink → List StreamLink
bare ls = map unlinked (map oid_of_link ls)

bare_length : (ls : List StreamLink) → length (bare ls) ≡ length ls
bare_length [] = refl
bare_length (l ∷ ls) = grind (arith, bare_length ls)

bare_numbers : (ls : List StreamLink) → stream_numbers (bare ls) ≡ stream_numbers ls
bare_numbers [] = refl
bare_numbers (l ∷ ls) = ap (λ (ns : List ℕ). l.oid.0 ∷ ns) (bare_numbers ls)

bare_streams : (ls : List StreamLink) → list_all of_object ls ≡ true → list_all is_stream (bare ls) ≡ true
bare_streams [] e = refl
bare_streams (l ∷ ls) e = both _ _ (both _ _ (first_true _ _ e) refl) (bare_streams ls (rest_true (of_object l) _ e))

bare_unlinked : (ls : List StreamLink) → list_all (λ (l : StreamLink). length l.backs == 0) (bare ls) ≡ true
bare_unlinked [] = refl
bare_unlinked (l ∷ ls) = bare_unlinked ls

abbrev pub head_of : ℕ → ℕ → List StreamLink → Head
head_of client number ls = record { format = 2; client = client; number = number; streams = ls }

head_kept : (client number : ℕ) (ls : List StreamLink) → are_streams ls ≡ true → client < 2 ^ 16 → 1 ≤ number → number < 2 ^ 32 → IsHead (head_of client number (bare ls))
head_kept client number ls e lt low high =
    let some : nat_le 1 (length ls) ≡ true = first_true _ _ (first_true _ _ (first_true _ _ e)) in
    let few : nat_le (length ls) 16 ≡ true = rest_true _ _ (first_true _ _ (first_true _ _ e)) in
    let long : length (bare ls) ≡ length ls = bare_length ls in
    let at_least : 1 ≤ length ls = grind (arith, nat_tests, some) in
    let at_most : length ls ≤ 16 = grind (arith, nat_tests, few) in
    record {
      format = refl;
      client = lt;
      number = low;
      within = high;
      some = subst (λ (n : ℕ). 1 ≤ n) (sym long) at_least;
      few = subst (λ (n : ℕ). n ≤ 16) (sym long) at_most;
      streams = bare_streams ls (rest_true _ _ (first_true _ _ e));
      rising = ap is_rising (bare_numbers ls) ∙ rest_true _ _ e;
    }

abbrev pub entry_of : ℕ → ℕ → ℕ → Bool → List StreamLink → Entry
entry_of client number at is_yes ls = record { head = head_of client number ls; body = Decision at is_yes }

pub decision_kept : (client number at : ℕ) (is_yes : Bool) (ls streams : List StreamLink) → streams ≡ bare ls → are_streams ls ≡ true → client < 2 ^ 16 → 1 ≤ number → number < 2 ^ 32 → at < 2 ^ 64 →
    IsDraft (record { head = head_of client number streams; body = Decision at is_yes })
decision_kept client number at is_yes ls streams same e lt low high far = subst (λ (l : List StreamLink). IsDraft (entry_of client number at is_yes l)) (sym same) (record {
  spelled = records_fit.decisions (head_of client number (bare ls)) at is_yes (head_kept client number ls e lt low high) far;
  unlinked = bare_unlinked ls;
})
