-- Versions from one position to a later one.
use Rattle.std.proofs.Common.{◌≡◌, ◌⊎◌, ℕ, ◌+◌, ◌<◌, ◌≤◌, List, [], ◌∷◌, Bool, true, false, refl, sym, ap, ◌∙◌, subst, inl, inr, arith, None}
use Rattle.std.specs.Prelude.{if◌then◌else◌}
use Rattle.tg_base.specs.declared.ids.Oid.{Oid}
use Rattle.tg_base.specs.declared.marks.Part.{Part}
use Rattle.tg_entry.specs.declared.entry.WriteOp.{WriteOp}
use Rattle.tg_entry.specs.declared.entry.Entry.{Entry}
use Rattle.tg_kind.specs.Meaning.{Meaning}
use Rattle.tg_entry.specs.Needs.{writes_of}
use Rattle.tg_protocol.specs.Versions.{PartVersion, noted_or}
use Rattle.tg_protocol.specs.Views.{Entries}
use Rattle.tg_protocol.specs.Logs.{commits_after, version_after}
use Rattle.tg_law_replies.specs.Plays.Sound.{IsRising}
use Rattle.tg_law_replies.specs.History.Logs.{writes_to, commits, version_below, HasChange}
use Rattle.tg_law_replies.specs.History.Laws.{VersionsBelow, VersionsChange}
use Rattle.tg_law_replies.proofs.History.Members.{Has, contained_has}
use Rattle.tg_law_replies.proofs.History.Ledger.{Ledger, noted, below, noted_below, Steps, grow_from, grow}

-- the version that a ledger tells
abbrev pub version_in : (m : Meaning) → Oid → Part → Ledger m → ℕ
version_in m o k xs = noted_or None (noted m xs) o k

pub version_on : (m : Meaning) (o : Oid) (k : Part) (p : ℕ) (w : WriteOp) (ys : Ledger m) → writes_to m o k w ≡ true → version_in m o k ((p, w) ∷ ys) ≡ p + 1
version_on m o k p w ys h = ap (λ (b : Bool). if b then p + 1 else version_in m o k ys) h

pub version_off : (m : Meaning) (o : Oid) (k : Part) (p : ℕ) (w : WriteOp) (ys : Ledger m) → writes_to m o k w ≡ false → version_in m o k ((p, w) ∷ ys) ≡ version_in m o k ys
version_off m o k p w ys h = ap (λ (b : Bool). if b then p + 1 else version_in m o k ys) h

module _ (m : Meaning) (objects : List Oid) (es : Entries) (rising : IsRising es) where
  abbrev pub at : ℕ → Ledger m
  at n = below m [] es n

  pub version_at : (n : ℕ) (o : Oid) (k : Part) → version_in m o k (at n) ≡ version_below m objects es n o k
  version_at n o k = ap (λ (ns : List PartVersion). version_after m ns o k) (noted_below m [] es n)

  pub commits_at : (p : ℕ) (e : Entry) → commits_after m (noted m (at p)) e ≡ commits m objects es p e
  commits_at p e = ap (λ (ns : List PartVersion). commits_after m ns e) (noted_below m [] es p)

  pub version_most : (n : ℕ) (o : Oid) (k : Part) → version_in m o k (at n) ≤ n
  version_most n o k = grow_from m (λ (ys : Ledger m). version_in m o k ys ≤ n) [] 0 es 0 n rising (omega arith) step (omega arith)
    where
      by : (p : ℕ) (w : WriteOp) (ys : Ledger m) → p < n → version_in m o k ys ≤ n → (b : Bool) → writes_to m o k w ≡ b → version_in m o k ((p, w) ∷ ys) ≤ n
      by p w ys less h true c = let is = version_on m o k p w ys c in omega (arith, is, less)
      by p w ys less h false c = let is = version_off m o k p w ys c in omega (arith, is, h)

      step : Steps m [] es 0 n (λ (ys : Ledger m). version_in m o k ys ≤ n)
      step p e w ys i le less c j h = by p w ys less h (writes_to m o k w) refl

  abbrev Since : ℕ → ℕ → Oid → Part → Ledger m → Type 0
  Since a b o k ys = (version_in m o k ys ≡ version_in m o k (at a)) ⊎ HasChange m objects es o k a b (version_in m o k ys)

  pub version_since : (a b : ℕ) (o : Oid) (k : Part) → a ≤ b → Since a b o k (at b)
  version_since a b o k le = grow m (Since a b o k) [] 0 es a b rising le step (inl refl)
    where
      by : (p : ℕ) (e : Entry) (w : WriteOp) (ys : Ledger m) → Has es (p, e) → a ≤ p → p < b → commits_after m (noted m (at p)) e ≡ true → Has (writes_of e) w
          → Since a b o k ys → (t : Bool) → writes_to m o k w ≡ t → Since a b o k ((p, w) ∷ ys)
      by p e w ys i low less c j h true to = inr (record {
        at = p;
        entry = e;
        write = w;
        here = contained_has es (p, e) i;
        after = low;
        before = less;
        commit = sym (commits_at p e) ∙ c;
        writes = contained_has (writes_of e) w j;
        to = to;
        makes = version_on m o k p w ys to;
      })
      by p e w ys i low less c j h false to =
          subst (λ (n : ℕ). (n ≡ version_in m o k (at a)) ⊎ HasChange m objects es o k a b n) (sym (version_off m o k p w ys to)) h

      step : Steps m [] es a b (Since a b o k)
      step p e w ys i low less c j h = by p e w ys i low less c j h (writes_to m o k w) refl

pub versions_below : (m : Meaning) → VersionsBelow m
versions_below m objects es n o k rising = subst (λ (v : ℕ). v ≤ n) (version_at m objects es rising n o k) (version_most m objects es rising n o k)

pub versions_change : (m : Meaning) → VersionsChange m
versions_change m objects es a b o k rising le =
    subst (λ (v : ℕ). (version_below m objects es b o k ≡ v) ⊎ HasChange m objects es o k a b (version_below m objects es b o k)) (version_at m objects es rising a o k)
    (subst (λ (v : ℕ). (v ≡ version_in m o k (at m objects es rising a)) ⊎ HasChange m objects es o k a b v) (version_at m objects es rising b o k)
    (version_since m objects es rising a b o k le))
