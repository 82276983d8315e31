-- What is played from new entries alone.
use Rattle.std.proofs.Common.{◌≡◌, ℕ, ◌≤◌, Bool, true, false, cond, not, ◌&&◌, ◌||◌, [], ◌∷◌, nat_lt, Option, Some, None, refl, sym, ap, ◌∙◌, arith}
use Rattle.std.specs.Prelude.{◌==◌, nat_le, is_some}
use Rattle.std.proofs.lemmas.Bool.Decides.{nat_tests}
use Rattle.tg_entry.specs.declared.entry.Body.{Body}
use Rattle.tg_entry.specs.declared.entry.Body.TheVariants.{Commit, Decision, Checkpoint}
use Rattle.tg_entry.specs.declared.entry.Entry.{Entry}
use Rattle.tg_kind.specs.Meaning.{Meaning}
use Rattle.tg_protocol.specs.Words.{or_else}
use Rattle.tg_entry.specs.Needs.{needs_decision}
use Rattle.tg_protocol.specs.Entries.{body_commits, is_commit, decides}
use Rattle.tg_protocol.specs.Views.{Entries, decision_in, View, Play, Step, On, Stuck, verdict, by_decision, fate_or_verdict, fate_of, view_outcome, passed_over, record_step, entry_step, step_at, between, play_on, play_from, play, stands_at}
use Rattle.tg_model.specs.declared.play.PlayEnd.TheVariants.{Blocked}
use Rattle.tg_protocol.specs.Past.{commit_at}
use Rattle.tg_client_cells.specs.Words.{entries_from}
use Rattle.tg_client_cells.specs.Known.{CommitsBelow}
use Rattle.tg_client_cells.specs.Rules.{NewPlayed}

-- ---- decisions

commit-decides : (p : ℕ) (b : Body) → body_commits b ≡ true → decides p b ≡ None
commit-decides p (Commit rs ws) h = refl
commit-decides p (Decision at is_yes) h = absurd cc
commit-decides p (Checkpoint o u v w ks s) h = absurd cc

decision-if : (s p : ℕ) (x : ℕ × Entry) (es : Entries) (b : Bool) → nat_le s x.0 ≡ b → (b || is_commit x.1) ≡ true → decision_in (entries_from s es) p ≡ decision_in es p → decision_in (entries_from s (x ∷ es)) p ≡ decision_in (x ∷ es) p
unfolding decision_in
decision-if s p x es true e h more = ap (λ c. decision_in (cond c (x ∷ entries_from s es) (entries_from s es)) p) e ∙ ap (or_else (decides p x.1.body)) more
decision-if s p x es false e h more =
    ap (λ c. decision_in (cond c (x ∷ entries_from s es) (entries_from s es)) p) e
    ∙ more
    ∙ ap (λ (d : Option Bool). or_else d (decision_in es p)) (sym (commit-decides p x.1.body h))

decisions-same : (s : ℕ) (es : Entries) → CommitsBelow s es → (p : ℕ) → decision_in (entries_from s es) p ≡ decision_in es p
decisions-same s [] h p = refl
decisions-same s (x ∷ es) h p =
    let head : (nat_le s x.0 || is_commit x.1) ≡ true = grind arith in
    let tail : CommitsBelow s es = grind arith in
    decision-if s p x es (nat_le s x.0) refl head (decisions-same s es tail p)

-- ---- commit records

commit-if : (s p : ℕ) (x : ℕ × Entry) (es : Entries) (b : Bool) → nat_le s x.0 ≡ b → s ≤ p → commit_at (entries_from s es) p ≡ commit_at es p → commit_at (entries_from s (x ∷ es)) p ≡ commit_at (x ∷ es) p
unfolding commit_at
commit-if s p x es true e le more =
    ap (λ c. commit_at (cond c (x ∷ entries_from s es) (entries_from s es)) p) e
    ∙ ap (λ (r : Option Entry). cond ((x.0 == p) && is_commit x.1) (Some x.1) r) more
commit-if s p x es false e le more =
    let apart : (x.0 == p) ≡ false = grind (arith, nat_tests) in
    ap (λ c. commit_at (cond c (x ∷ entries_from s es) (entries_from s es)) p) e
    ∙ more
    ∙ ap (λ c. cond (c && is_commit x.1) (Some x.1) (commit_at es p)) (sym apart)

commits-same : (s : ℕ) (es : Entries) (p : ℕ) → s ≤ p → commit_at (entries_from s es) p ≡ commit_at es p
commits-same s [] p le = refl
commits-same s (x ∷ es) p le = commit-if s p x es (nat_le s x.0) refl le (commits-same s es p le)

-- ---- plays

module _ (m : Meaning) where
  -- what the record at p makes of a view, by what the decision records say of it
  stepped : View m → ℕ → Entry → Option Bool → Bool → Step m
  stepped v p e d true = record_step m (cond (needs_decision e && not (is_some d)) (record v { open_records = p ∷ v.open_records }) v) p e (by_decision m v e p d) (passed_over m v p e)
  stepped v p e d false = On v

  entry-is : (v : View m) (es : Entries) (p : ℕ) (e : Entry) (b : Bool) → entry_step m v es p e b ≡ stepped v p e (decision_in es p) b
  unfolding stepped verdict
  entry-is v es p e true = refl
  entry-is v es p e false = refl

  step-is : (v : View m) (es : Entries) (p : ℕ) (e : Entry) → step_at m v es p e ≡ stepped v p e (decision_in es p) (is_commit e)
  unfolding step_at
  step-is v es p e = entry-is v es p e (is_commit e)

  Alike : Entries → Entries → Type 0
  Alike es fs = (p : ℕ) → decision_in es p ≡ decision_in fs p

  step-same : (v : View m) (es fs : Entries) (p : ℕ) (e : Entry) → Alike es fs → step_at m v es p e ≡ step_at m v fs p e
  unfolding Alike
  step-same v es fs p e h = step-is v es p e ∙ ap (λ (d : Option Bool). stepped v p e d (is_commit e)) (h p) ∙ sym (step-is v fs p e)

  stepped-on : Entries → ℕ → View m → ℕ × Entry → Entries → Step m → Play m
  stepped-on es upto v x xs st = elim st as (λ _. Play m) [
    | On w ↦ play_on m es upto w xs
    | Stuck o ↦ record { view = stands_at m v x.0; came = Blocked x.0 o }
  ]

  on-is : (es : Entries) (upto : ℕ) (v : View m) (x : ℕ × Entry) (xs : Entries) → play_on m es upto v (x ∷ xs) ≡ stepped-on es upto v x xs (step_at m v es x.0 x.1)
  unfolding play_on stepped-on
  on-is es upto v x xs = refl

  by-step : (es fs : Entries) (upto : ℕ) (v : View m) (x : ℕ × Entry) (xs : Entries) (st : Step m) → ((w : View m) → play_on m es upto w xs ≡ play_on m fs upto w xs) → stepped-on es upto v x xs st ≡ stepped-on fs upto v x xs st
  unfolding stepped-on
  by-step es fs upto v x xs (On w) h = h w
  by-step es fs upto v x xs (Stuck o) h = refl

  on-same : (es fs : Entries) (upto : ℕ) → Alike es fs → (xs : Entries) (v : View m) → play_on m es upto v xs ≡ play_on m fs upto v xs
  unfolding play_on
  on-same es fs upto h [] v = refl
  on-same es fs upto h (x ∷ xs) v =
      on-is es upto v x xs
      ∙ ap (stepped-on es upto v x xs) (step-same v es fs x.0 x.1 h)
      ∙ by-step es fs upto v x xs (step_at m v fs x.0 x.1) (on-same es fs upto h xs)
      ∙ sym (on-is fs upto v x xs)

between-if : (m : Meaning) (s low high : ℕ) (x : ℕ × Entry) (es : Entries) (b : Bool) → nat_le s x.0 ≡ b → s ≤ low → between m low high (entries_from s es) ≡ between m low high es → between m low high (entries_from s (x ∷ es)) ≡ between m low high (x ∷ es)
between-if m s low high x es true e le more =
    ap (λ c. between m low high (cond c (x ∷ entries_from s es) (entries_from s es))) e
    ∙ ap (λ (l : Entries). cond (nat_le low x.0 && nat_lt x.0 high) (x ∷ l) l) more
between-if m s low high x es false e le more =
    let out : (nat_le low x.0 && nat_lt x.0 high) ≡ false = grind (arith, nat_tests) in
    ap (λ c. between m low high (cond c (x ∷ entries_from s es) (entries_from s es))) e
    ∙ more
    ∙ ap (λ c. cond c (x ∷ between m low high es) (between m low high es)) (sym out)

between-same : (m : Meaning) (s low high : ℕ) (es : Entries) → s ≤ low → between m low high (entries_from s es) ≡ between m low high es
between-same m s low high [] le = refl
between-same m s low high (x ∷ es) le = between-if m s low high x es (nat_le s x.0) refl le (between-same m s low high es le)

from-same : (m : Meaning) (s : ℕ) (es : Entries) → CommitsBelow s es → (v : View m) (target : ℕ) (b : Bool) → s ≤ v.upto → play_from m v (entries_from s es) target b ≡ play_from m v es target b
unfolding Alike
from-same m s es h v target true le = refl
from-same m s es h v target false le =
    ap (play_on m (entries_from s es) target v) (between-same m s v.upto target es le)
    ∙ on-same m (entries_from s es) es target (decisions-same s es h) (between m v.upto target es) v

verdict-same : (m : Meaning) (s : ℕ) (es : Entries) → CommitsBelow s es → (v : View m) (p : ℕ) (e : Entry) → verdict m v (entries_from s es) p e ≡ verdict m v es p e
unfolding verdict
verdict-same m s es h v p e = ap (by_decision m v e p) (decisions-same s es h p)

outcome-by : (m : Meaning) (s : ℕ) (es : Entries) → CommitsBelow s es → (v : View m) (p : ℕ) (e : Entry) (o : Option Bool) → fate_or_verdict m v (entries_from s es) p e o ≡ fate_or_verdict m v es p e o
outcome-by m s es h v p e None = verdict-same m s es h v p e
outcome-by m s es h v p e (Some b) = refl

outcome-same : (m : Meaning) (s : ℕ) (es : Entries) → CommitsBelow s es → (v : View m) (p : ℕ) (e : Entry) → view_outcome m v (entries_from s es) p e ≡ view_outcome m v es p e
unfolding view_outcome
outcome-same m s es h v p e = outcome-by m s es h v p e (fate_of m v p)

plays-same : (m : Meaning) (s : ℕ) (es : Entries) → CommitsBelow s es → (v : View m) (target : ℕ) → s ≤ v.upto → play m v (entries_from s es) target ≡ play m v es target
unfolding play
plays-same m s es h v target le = from-same m s es h v target (nat_lt target v.upto) le

pub new_played : (m : Meaning) → NewPlayed m
new_played m es s h = record {
  decisions = decisions-same s es h;
  verdicts = verdict-same m s es h;
  outcomes = outcome-same m s es h;
  commits = commits-same s es;
  plays = plays-same m s es h;
}
