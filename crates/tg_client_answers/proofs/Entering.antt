-- The entries that are played, in the words of the rules.
use Rattle.std.proofs.Common.{◌≡◌, true, sym, ap, subst, ◌∙◌}
use Rattle.tg_kind.specs.Meaning.{Meaning}
use Rattle.tg_protocol.specs.Views.{Entries}
use Rattle.tg_protocol.specs.Clients as rules
use Rattle.tg_protocol.specs.Clients.{Client, Work}
use Rattle.tg_protocol.specs.Answers.{plays_own}
use Rattle.tg_client_cells.specs.Known.{all_entries, new_entries, CommitsBelow}
use Rattle.tg_client_cells.proofs.Ruled.{as_ruled}
use Rattle.tg_client_cells.proofs.Played.{new_played}
use Rattle.tg_client_state.specs.Tasks.{JobOf, KeepsJob, work_of}
use Rattle.tg_client_state.specs.States.{StateOf, Rest, client_of}
use Rattle.tg_client_answers.specs.Playing.{goes_by_new, plays_from, Suffice}
use Rattle.tg_client_answers.proofs.Sufficing.{plays_same}

module _ (m : Meaning) (s : StateOf m) (r : Rest m) (j : JobOf m) (w : Work m) (hj : KeepsJob m j w) where
  abbrev c : Client m
  c = client_of m s r

  ruled : all_entries s.known j.found s.hosted j.tail ≡ rules.all_entries m c w s.hosted
  ruled = (as_ruled m).all c (work_of m j w.hand) s.hosted s.known.settled ∙ ap (λ (u : Work m). rules.all_entries m c u s.hosted) (sym hj)

  pub all_suffice : (es : Entries) → es ≡ all_entries s.known j.found s.hosted j.tail → Suffice m c w es
  all_suffice es h = ap (λ (xs : Entries). plays_own m c w xs) (h ∙ ruled)

  pub new_suffice : (es : Entries) → es ≡ new_entries s.known j.found s.hosted j.tail → CommitsBelow s.known.settled (all_entries s.known j.found s.hosted j.tail) →
      plays_from m r.view s.known.settled ≡ true → goes_by_new m j.command j.at s.known.settled ≡ true → Suffice m c w es
  new_suffice es h hc hv hg =
      ap (λ (xs : Entries). plays_own m c w xs) h
      ∙ plays_same m (all_entries s.known j.found s.hosted j.tail) s.known.settled (new_played m _ _ hc) c w hv (subst (λ (u : Work m). goes_by_new m u.command u.at s.known.settled ≡ true) (sym hj) hg)
      ∙ ap (λ (xs : Entries). plays_own m c w xs) ruled
