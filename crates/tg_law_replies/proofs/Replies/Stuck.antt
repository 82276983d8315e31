-- A play is blocked at a commit record of its entries.
use Rattle.std.proofs.Common.{◌≡◌, ℕ, [], ◌∷◌, Bool, true, false, refl, ap, subst, inl, inr}
use Rattle.std.specs.Prelude.{nat_lt, nat_le, ◌&&◌, if◌then◌else◌}
use Rattle.tg_base.specs.declared.ids.Oid.{Oid}
use Rattle.tg_entry.specs.declared.entry.Entry.{Entry}
use Rattle.tg_kind.specs.Meaning.{Meaning}
use Rattle.tg_model.specs.declared.play.PlayEnd.{PlayEnd}
use Rattle.tg_model.specs.declared.play.PlayEnd.TheVariants.{Played, Blocked}
use Rattle.tg_protocol.specs.Entries.{is_commit}
use Rattle.tg_protocol.specs.Views.{Entries, View, Play, Step, On, Stuck, stands_at, entry_step, step_at, between, play_on, play_from, play}
use Rattle.tg_law_replies.proofs.History.Members.{Has}

module _ (m : Meaning) (own : Entries) where
  pub record HasCommitAt (p : ℕ) : Type 0 where
    pub entry : Entry
    pub here : Has own (p, entry)
    pub commit : is_commit entry ≡ true

  not_played : (t q : ℕ) (x : Oid) → Played t ≡ Blocked q x → ⊥
  not_played t q x e = cc

  abbrev place : PlayEnd → ℕ
  place (Played t) = t
  place (Blocked q x) = q

  same_place : (p q : ℕ) (o x : Oid) → Blocked p o ≡ Blocked q x → p ≡ q
  same_place p q o x e = ap place e

  stuck_commits : (v : View m) (p : ℕ) (e : Entry) (o : Oid) → step_at m v own p e ≡ Stuck o → is_commit e ≡ true
  unfolding step_at
  stuck_commits v p e o h = by (is_commit e) refl h
    where
      by : (b : Bool) → is_commit e ≡ b → entry_step m v own p e b ≡ Stuck o → is_commit e ≡ true
      by true is k = is
      by false is k = absurd cc

  on_record : (upto q : ℕ) (x : Oid) (v : View m) (xs : Entries) → ((y : ℕ × Entry) → Has xs y → Has own y) → (play_on m own upto v xs).came ≡ Blocked q x → HasCommitAt q
  unfolding play_on
  on_record upto q x v [] only h = absurd (not_played upto q x h)
  on_record upto q x v (y ∷ xs) only h = by (step_at m v own y.0 y.1) refl h (λ w k. on_record upto q x w xs (λ z i. only z (inr i)) k)
    where
      stuck : (o : Oid) → step_at m v own y.0 y.1 ≡ Stuck o → y.0 ≡ q → HasCommitAt q
      stuck o is at = record { entry = y.1; here = subst (λ (n : ℕ). Has own (n, y.1)) at (only y (inl refl)); commit = stuck_commits v y.0 y.1 o is }

      by : (s : Step m) → step_at m v own y.0 y.1 ≡ s
          → (elim s as (λ _. Play m) [
            | On w ↦ play_on m own upto w xs
            | Stuck o ↦ record { view = stands_at m v y.0; came = Blocked y.0 o }
          ]).came ≡ Blocked q x → ((w : View m) → (play_on m own upto w xs).came ≡ Blocked q x → HasCommitAt q) → HasCommitAt q
      by (On w) is k rest = rest w k
      by (Stuck o) is k rest = stuck o is (same_place y.0 q o x k)

  among : (low high : ℕ) (es : Entries) (y : ℕ × Entry) → Has (between m low high es) y → Has es y
  among low high [] y i = absurd i
  among low high (z ∷ es) y i = by (nat_le low z.0 && nat_lt z.0 high) i (λ j. among low high es y j)
    where
      by : (b : Bool) → Has (if b then z ∷ between m low high es else between m low high es) y → (Has (between m low high es) y → Has es y) → Has (z ∷ es) y
      by true (inl e) rest = inl e
      by true (inr j) rest = inr (rest j)
      by false j rest = inr (rest j)

  pub blocked_record : (v : View m) (upto q : ℕ) (x : Oid) → (play m v own upto).came ≡ Blocked q x → HasCommitAt q
  unfolding play
  blocked_record v upto q x h = by (nat_lt upto v.upto) h
    where
      by : (b : Bool) → (play_from m v own upto b).came ≡ Blocked q x → HasCommitAt q
      by true k = absurd (not_played v.upto q x k)
      by false k = on_record upto q x v (between m v.upto upto own) (among v.upto upto own) k
