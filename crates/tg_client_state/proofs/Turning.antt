-- What is sent of a machine's turn.
use Rattle.std.proofs.Common.{◌≡◌, ℕ, ◌≤◌, List, ◌++◌, refl, sym, ap, subst, ◌∙◌, arith}
use Rattle.std.specs.Prelude.{⊤}
use Rattle.tg_base.specs.declared.packet.Out.{Out}
use Rattle.tg_protocol.specs.Requests.{Next, Goes, Learns, Ends, Turn, drawn_from}
use Rattle.tg_append.specs.Turns.{Then, On, Paused, Over, ruled_to, new_asks, after}
use Rattle.tg_client_state.specs.Numbers.{ThenNew, ThenFresh, FitsNumbers, BeginsNumbers}
use Rattle.tg_client_state.specs.Steps.{ThenAlike, Fits}
use Rattle.tg_client_state.proofs.Waiting.{all_kept}

-- In a step that begins with the turn.

same-alike : {M E : Type 0} (asks : M → List Out) (n : ℕ) (to : Next M E) → ThenAlike asks n n to
same-alike asks n (Goes m) = refl
same-alike asks n (Learns m) = tt
same-alike asks n (Ends e) = tt

pub fits_now : {M E : Type 0} (asks : M → List Out) (n : ℕ) (t : Turn M E) → FitsNumbers asks n t → Fits asks n n t
fits_now asks n t h = record { numbers = h; alike = same-alike asks n t.to }

-- In one that began before, where all is new.

fresh-alike : {M E : Type 0} (asks : M → List Out) (old n : ℕ) (to : Next M E) → old ≤ n → ThenFresh asks n to → ThenAlike asks old n to
fresh-alike asks old n (Goes m) le h = all_kept (asks m) old n le h ∙ sym (all_kept (asks m) n n (omega arith) h)
fresh-alike asks old n (Learns m) le h = tt
fresh-alike asks old n (Ends e) le h = tt

pub fits_later : {M E : Type 0} (asks : M → List Out) (old n : ℕ) (t : Turn M E) → old ≤ n → BeginsNumbers asks n t → Fits asks old n t
fits_later asks old n t le h = record { numbers = h.fits; alike = fresh-alike asks old n t.to le h.fresh }

-- What goes on is sent so.

abbrev pub ThenSent : {M E : Type 0} → (M → List Out) → ℕ → List Out → List Out → Next M E → Type 0
ThenSent asks old besides outs (Goes m) = outs ≡ besides ++ drawn_from old (asks m)
ThenSent asks old besides outs (Learns m) = ⊤
ThenSent asks old besides outs (Ends e) = ⊤

pub then_sent : {M E : Type 0} (asks : M → List Out) (old next now : ℕ) (besides outs : List Out) (to : Next M E) → ThenAlike asks old next to → ThenNew asks next (after next besides) now to →
    outs ≡ besides ++ new_asks asks (after next besides) now to → ThenSent asks old besides outs to
then_sent asks old next now besides outs (Goes m) a n h = h ∙ ap (λ os. besides ++ os) (sym n) ∙ ap (λ os. besides ++ os) (sym a)
then_sent asks old next now besides outs (Learns m) a n h = tt
then_sent asks old next now besides outs (Ends e) a n h = tt

-- By what a call shows of it.

pub on_case : {M P E : Type 0} (pause : M → P) (C : Next M E → Type 0) (a : M) (to : Next M E) → ◌≡◌ {A = Then M P E} (On a) (ruled_to pause to) → C (Goes a) → C to
on_case pause C a (Goes b) e h = let same : a ≡ b = cc in subst (λ x. C (Goes x)) same h
on_case pause C a (Learns b) e h = absurd cc
on_case pause C a (Ends x) e h = absurd cc

pub paused_case : {M P E : Type 0} (pause : M → P) (C : Next M E → Type 0) (p : P) (to : Next M E) → ◌≡◌ {A = Then M P E} (Paused p) (ruled_to pause to) → ((b : M) → p ≡ pause b → C (Learns b)) → C to
paused_case pause C p (Goes b) e h = absurd cc
paused_case pause C p (Learns b) e h = let same : p ≡ pause b = cc in h b same
paused_case pause C p (Ends x) e h = absurd cc

pub over_case : {M P E : Type 0} (pause : M → P) (C : Next M E → Type 0) (x : E) (to : Next M E) → ◌≡◌ {A = Then M P E} (Over x) (ruled_to pause to) → C (Ends x) → C to
over_case pause C x (Goes b) e h = absurd cc
over_case pause C x (Learns b) e h = absurd cc
over_case pause C x (Ends y) e h = let same : x ≡ y = cc in subst (λ z. C (Ends z)) same h
