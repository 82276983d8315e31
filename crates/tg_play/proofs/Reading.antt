-- The reads and the writes of a record, one after the other.
use Rattle.std.specs.Prelude.{◌≡◌, ℕ, Bool, true, false, cond, ◌==◌, ◌||◌, List, [], ◌∷◌, Option, Some, None, is_some, refl}
use Rattle.std.specs.List.{list_any}
use Rattle.std.proofs.Common.{sym, ap, ◌∙◌, eq-eqb}
use Rattle.std.proofs.lemmas.Bool.{eqb-true}
use Rattle.tg_base.specs.declared.ids.Oid.{Oid}
use Rattle.tg_base.specs.declared.marks.ReadMark.{ReadMark}
use Rattle.tg_entry.specs.declared.entry.Entry.{Entry}
use Rattle.tg_entry.specs.declared.entry.WriteOp.{WriteOp}
use Rattle.tg_kind.specs.Meaning.{Meaning}
use Rattle.tg_entry.specs.Needs.{reads_of}
use Rattle.tg_protocol.specs.Versions.{Changed, first_changed}
use Rattle.tg_protocol.specs.Views as told

module _ (m : Meaning) where
  pub unknown_none : (v : told.View m) (p : ℕ) (rs : List ReadMark) → rs ≡ [] → None ≡ told.unknown_in m v rs p
  unfolding told.unknown_in
  unknown_none v p rs e = ap (λ (xs : List ReadMark). told.unknown_in m v xs p) (sym e)

  pub unknown_first : (v : told.View m) (p : ℕ) (all rest : List ReadMark) (r : ReadMark) → all ≡ r ∷ rest → true ≡ told.unknown_by m p (told.base_of m v r.oid) r
      → Some r.oid ≡ told.unknown_in m v all p
  unfolding told.unknown_in
  unknown_first v p all rest r e is =
      ap (λ (b : Bool). cond b (Some r.oid) (told.unknown_in m v rest p)) is
      ∙ ap (λ (xs : List ReadMark). told.unknown_in m v xs p) (sym e)

  pub unknown_later : (v : told.View m) (p : ℕ) (all rest : List ReadMark) (r : ReadMark) (x : Option Oid) → all ≡ r ∷ rest → false ≡ told.unknown_by m p (told.base_of m v r.oid) r
      → x ≡ told.unknown_in m v rest p → x ≡ told.unknown_in m v all p
  unfolding told.unknown_in
  unknown_later v p all rest r x e is later =
      later
      ∙ ap (λ (b : Bool). cond b (Some r.oid) (told.unknown_in m v rest p)) is
      ∙ ap (λ (xs : List ReadMark). told.unknown_in m v xs p) (sym e)

  pub changed_none : (v : told.View m) (p : ℕ) (rs : List ReadMark) → rs ≡ [] → false ≡ is_some (told.changed_in m v rs p)
  unfolding told.changed_in
  changed_none v p rs e = ap (λ (xs : List ReadMark). is_some (told.changed_in m v xs p)) (sym e)

  apart : (a b : ℕ) (t : Bool) → (a == b) ≡ t → (a ≡ b → ⊥) → (a == b) ≡ false
  apart a b true e h = absurd (h (eqb-true a b e))
  apart a b false e h = e

  pub changed_first : (v : told.View m) (p : ℕ) (all rest : List ReadMark) (r : ReadMark) (n : ℕ) → all ≡ r ∷ rest → n ≡ told.version_at m v p r → (n ≡ r.version → ⊥)
      → true ≡ is_some (told.changed_in m v all p)
  unfolding told.changed_in
  changed_first v p all rest r n e is other =
      ap (λ (b : Bool). is_some (cond b (first_changed (told.version_at m v p) rest) (Some (record { read = r; now = told.version_at m v p r }))))
      (sym (apart (told.version_at m v p r) r.version (told.version_at m v p r == r.version) refl (λ h. other (is ∙ h))))
      ∙ ap (λ (xs : List ReadMark). is_some (told.changed_in m v xs p)) (sym e)

  pub changed_later : (v : told.View m) (p : ℕ) (all rest : List ReadMark) (r : ReadMark) (n : ℕ) (x : Bool) → all ≡ r ∷ rest → n ≡ told.version_at m v p r → n ≡ r.version
      → x ≡ is_some (told.changed_in m v rest p) → x ≡ is_some (told.changed_in m v all p)
  unfolding told.changed_in
  changed_later v p all rest r n x e is same later =
      later
      ∙ ap (λ (b : Bool). is_some (cond b (first_changed (told.version_at m v p) rest) (Some (record { read = r; now = told.version_at m v p r }))))
      (sym (eq-eqb (told.version_at m v p r) r.version (sym is ∙ same)))
      ∙ ap (λ (xs : List ReadMark). is_some (told.changed_in m v xs p)) (sym e)

  by_changed : (x : Option Changed) → cond (is_some x) told.Aborts told.Commits ≡ told.by_changes m x
  by_changed None = refl
  by_changed (Some c) = refl

  pub changes_told : (v : told.View m) (p : ℕ) (rs : List ReadMark) (changed : Bool) (d : told.Verdict) → changed ≡ is_some (told.changed_in m v rs p) → d ≡ cond changed told.Aborts told.Commits
      → None ≡ told.unknown_in m v rs p → d ≡ told.by_versions m v rs p (told.unknown_in m v rs p)
  changes_told v p rs changed d is told_so none =
      told_so
      ∙ ap (λ (b : Bool). cond b told.Aborts told.Commits) is
      ∙ by_changed (told.changed_in m v rs p)
      ∙ ap (λ (o : Option Oid). told.by_versions m v rs p o) none

  pub decision_none : (v : told.View m) (e : Entry) (p : ℕ) (rs : List ReadMark) (d : told.Verdict) → reads_of e ≡ rs → d ≡ told.by_versions m v rs p (told.unknown_in m v rs p)
      → d ≡ told.by_decision m v e p None
  decision_none v e p rs d same is = is ∙ ap (λ (xs : List ReadMark). told.by_versions m v xs p (told.unknown_in m v xs p)) (sym same)

  -- writes

  abbrev playing : told.View m → ℕ → WriteOp → Bool
  playing v p w = told.plays m p (told.base_of m v w.oid)

  pub plays_first : (v : told.View m) (p : ℕ) (all rest : List WriteOp) (w : WriteOp) → all ≡ w ∷ rest → true ≡ playing v p w → true ≡ list_any (λ (x : WriteOp). playing v p x) all
  plays_first v p all rest w e is =
      ap (λ (b : Bool). b || list_any (λ (x : WriteOp). playing v p x) rest) is
      ∙ ap (λ (xs : List WriteOp). list_any (λ (x : WriteOp). playing v p x) xs) (sym e)

  pub plays_later : (v : told.View m) (p : ℕ) (all rest : List WriteOp) (w : WriteOp) (b : Bool) → all ≡ w ∷ rest → false ≡ playing v p w → b ≡ list_any (λ (x : WriteOp). playing v p x) rest
      → b ≡ list_any (λ (x : WriteOp). playing v p x) all
  plays_later v p all rest w b e is later =
      later
      ∙ ap (λ (t : Bool). t || list_any (λ (x : WriteOp). playing v p x) rest) is
      ∙ ap (λ (xs : List WriteOp). list_any (λ (x : WriteOp). playing v p x) xs) (sym e)
