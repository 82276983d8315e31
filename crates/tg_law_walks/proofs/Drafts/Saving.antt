-- A checkpoint of a view has a spelling, where ops touch parts of the format.
use Rattle.std.proofs.Common.{◌≡◌, ℕ, ◌<◌, ◌≤◌, ◌^◌, Bool, true, false, cond, List, [], ◌∷◌, filter, map, Option, Some, None, refl, sym, ap, ◌∙◌, arith}
use Rattle.std.specs.Prelude.{not, ◌&&◌, nat_lt, if◌then◌else◌}
use Rattle.std.specs.List.{list_all}
use Rattle.std.specs.Ordering.{is_lt, is_eq, ordering_reverse}
use Rattle.std.specs.declared.cmp.Ordering.{Ordering}
use Rattle.std.specs.declared.cmp.Ordering.TheVariants.{Less, Equal, Greater}
use Rattle.tg_base.specs.declared.ids.Oid.{Oid}
use Rattle.tg_base.specs.declared.marks.Part.{Part}
use Rattle.tg_base.specs.declared.marks.Part.TheVariants.{All, Text, Num}
use Rattle.tg_base.specs.Parts.{part_cmp, is_part}
use Rattle.tg_base.specs.Orders.{oid_eq}
use Rattle.tg_entry.specs.Format.{entry}
use Rattle.tg_entry.specs.Records.{is_object, keys_rise}
use Rattle.tg_kind.specs.Meaning.{Meaning}
use Rattle.tg_kind.specs.Parts.{part_eq, is_whole}
use Rattle.tg_protocol.specs.Words.{part_lt}
use Rattle.tg_protocol.specs.Entries.{entry_size}
use Rattle.tg_protocol.specs.Versions.{Based, PartVersion, noted_or, version_of, whole_noted, with_part, parts_noted, parts_based, base_parts, Parts, parts_of}
use Rattle.tg_protocol.specs.Views.{Base, View, base_of, state_of, view_version, view_parts, played_version, played_parts}
use Rattle.tg_protocol.specs.Checkpoints.{saved_bytes, checkpoint}
use Rattle.tg_vers.proofs.Order.{part_total, part_lt_is, part_eq_is}
use Rattle.tg_play.specs.Lawful.{AreKeys, is_shown}
use Rattle.tg_ckpt.specs.Saving.{key_of_bytes}
use Rattle.tg_ckpt.proofs.Drafts.{draft_kept}
use Rattle.tg_law_replies.specs.Plays.Sound.{IsSound}
use Rattle.tg_law_replies.proofs.Plays.Saved.{base_lawful, after_of}
use Rattle.tg_law_replies.proofs.Views.Saves.{part_at_most, whole_at_most}
use Rattle.tg_law_walks.specs.Drafts.Parts.{TouchParts}
use Rattle.tg_law_walks.proofs.Drafts.Views.{NameParts, BasedOk, NotedOk, ViewOk, found_ok, version_small}

-- Parts rise, and each is one of the format that isn't the whole.

abbrev Above : Part → List Part → Type 0
Above p [] = Unit {0}
Above p (x ∷ xs) = (part_cmp p x ≡ Less) × Above p xs

abbrev IsNamed : Part → Type 0
IsNamed k = (is_whole k ≡ false) × (is_part k ≡ true)

abbrev Rise : List Part → Type 0
Rise [] = Unit {0}
Rise (x ∷ xs) = IsNamed x × Above x xs × Rise xs

above_more : (p q : Part) (xs : List Part) → part_cmp p q ≡ Less → Above q xs → Above p xs
above_more p q [] less h = tt
above_more p q (x ∷ xs) less h = (part_total.trans p q x less h.0, above_more p q xs less h.1)

lesser : (k x : Part) (b : Bool) → part_lt k x ≡ b → is_lt (part_cmp k x) ≡ b
lesser k x b e = sym (part_lt_is k x) ∙ e

same : (k x : Part) (b : Bool) → part_eq k x ≡ b → is_eq (part_cmp k x) ≡ b
same k x b e = sym (part_eq_is k x) ∙ e

less_is : (r : Ordering) → is_lt r ≡ true → r ≡ Less
less_is Less e = refl
less_is Equal e = absurd cc
less_is Greater e = absurd cc

-- what is neither less nor equal is above
other_is : (r : Ordering) → is_lt r ≡ false → is_eq r ≡ false → ordering_reverse r ≡ Less
other_is Less e f = absurd cc
other_is Equal e f = absurd cc
other_is Greater e f = refl

above_with : (p k : Part) (xs : List Part) → part_cmp p k ≡ Less → Above p xs → Above p (with_part k xs)
above_with p k [] less h = (less, tt)
above_with p k (x ∷ xs) less h = by (part_lt k x) (part_eq k x) (above_with p k xs less h.1)
  where
    by : (b c : Bool) → Above p (with_part k xs) → Above p (if b then k ∷ x ∷ xs else (if c then x ∷ xs else x ∷ with_part k xs))
    by true c rest = (less, h)
    by false true rest = h
    by false false rest = (h.0, rest)

with_rises : (k : Part) (xs : List Part) → IsNamed k → Rise xs → Rise (with_part k xs)
with_rises k [] named h = (named, tt, tt)
with_rises k (x ∷ xs) named h = by (part_lt k x) refl (part_eq k x) refl (with_rises k xs named h.2)
  where
    by : (b : Bool) → part_lt k x ≡ b → (c : Bool) → part_eq k x ≡ c → Rise (with_part k xs) → Rise (if b then k ∷ x ∷ xs else (if c then x ∷ xs else x ∷ with_part k xs))
    by true e c f rest = let less = less_is (part_cmp k x) (lesser k x true e) in (named, (less, above_more k x xs less h.1), h)
    by false e true f rest = h
    by false e false f rest = (h.0, above_with x k xs (part_total.antisymm x k ∙ other_is (part_cmp k x) (lesser k x false e) (same k x false f)) h.1, rest)

based_rise : (xs : List (Part × ℕ)) → NameParts xs → Rise (parts_based xs)
based_rise [] h = tt
based_rise (x ∷ xs) h = by (is_whole x.0) refl (based_rise xs h.1)
  where
    by : (b : Bool) → is_whole x.0 ≡ b → Rise (parts_based xs) → Rise (if b then parts_based xs else with_part x.0 (parts_based xs))
    by true e rest = rest
    by false e rest = with_rises x.0 (parts_based xs) (e, h.0) rest

base_rise : (b : Option Based) (o : Oid) → BasedOk b → Rise (base_parts b o)
base_rise None o h = tt
base_rise (Some b) o h = by (oid_eq b.oid o)
  where
    by : (t : Bool) → Rise (if t then parts_based b.keys else [])
    by true = based_rise b.keys h.3
    by false = tt

noted_rise : (m : Meaning) → TouchParts m → (ns : List PartVersion) (o : Oid) (ks : List Part) → NotedOk m ns → Rise ks → Rise (parts_noted ns o ks)
noted_rise m parts [] o ks h r = r
noted_rise m parts (n ∷ ns) o ks h r = by (oid_eq n.oid o) (is_whole n.part) refl (noted_rise m parts ns o ks h.2 r)
  where
    by : (t u : Bool) → is_whole n.part ≡ u → Rise (parts_noted ns o ks) → Rise (if t && not u then with_part n.part (parts_noted ns o ks) else parts_noted ns o ks)
    by true true e rest = rest
    by true false e rest = with_rises n.part (parts_noted ns o ks) (e, h.1 parts) rest
    by false u e rest = rest

-- What a checkpoint tells of them.

module _ (f : Part → ℕ) (whole version : ℕ) where
  abbrev keys_for : List Part → List (Part × ℕ)
  keys_for ks = filter (λ (x : Part × ℕ). nat_lt whole x.1) (map (λ (k : Part). (k, f k)) ks)

  abbrev KeysAbove : Part → List (Part × ℕ) → Type 0
  KeysAbove p [] = Unit {0}
  KeysAbove p (x ∷ xs) = (part_cmp p x.0 ≡ Less) × KeysAbove p xs

  keys_above : (p : Part) (ks : List Part) → Above p ks → KeysAbove p (keys_for ks)
  keys_above p [] h = tt
  keys_above p (k ∷ ks) h = by (nat_lt whole (f k)) (keys_above p ks h.1)
    where
      by : (b : Bool) → KeysAbove p (keys_for ks) → KeysAbove p (cond b ((k, f k) ∷ keys_for ks) (keys_for ks))
      by true rest = (h.0, rest)
      by false rest = rest

  both : (a b : Bool) → a ≡ true → b ≡ true → (a && b) ≡ true
  both a b e g = grind arith

  rise_on : (k : Part × ℕ) (xs : List (Part × ℕ)) → KeysAbove k.0 xs → keys_rise xs ≡ true → keys_rise (k ∷ xs) ≡ true
  rise_on k [] h r = refl
  rise_on k (x ∷ xs) h r = both (is_lt (part_cmp k.0 x.0)) (keys_rise (x ∷ xs)) (ap is_lt h.0) r

  shown : (k : Part) → IsNamed k → f k ≤ version → nat_lt whole (f k) ≡ true → (is_shown whole version (k, f k) ≡ true) × (key_of_bytes (k, f k) ≡ true)
  shown All named le e = absurd (let a = named.0 in cc)
  shown (Text t) named le e = let a = named.1 in (grind (arith, a, le, e), grind (arith, a))
  shown (Num n) named le e = let a = named.1 in (grind (arith, a, le, e), refl)

  pub record Told (xs : List (Part × ℕ)) : Type 0 where
    pub each : list_all (is_shown whole version) xs ≡ true
    pub bytes : list_all key_of_bytes xs ≡ true
    pub rising : keys_rise xs ≡ true

  pub keys_told : (ks : List Part) → ((k : Part) → f k ≤ version) → Rise ks → Told (keys_for ks)
  keys_told [] le h = record { each = refl; bytes = refl; rising = refl }
  keys_told (k ∷ ks) le h = by (nat_lt whole (f k)) refl (keys_told ks le h.2)
    where
      by : (b : Bool) → nat_lt whole (f k) ≡ b → Told (keys_for ks) → Told (cond b ((k, f k) ∷ keys_for ks) (keys_for ks))
      by true e rest =
          let s = shown k h.0 (le k) e in
          record {
            each = both (is_shown whole version (k, f k)) (list_all (is_shown whole version) (keys_for ks)) s.0 rest.each;
            bytes = both (key_of_bytes (k, f k)) (list_all key_of_bytes (keys_for ks)) s.1 rest.bytes;
            rising = rise_on (k, f k) (keys_for ks) (keys_above k ks h.1) rest.rising;
          }
      by false e rest = rest

module _ (m : Meaning) (parts : TouchParts m) (v : View m) (o : Oid) (ok : ViewOk m v) (is_sound : IsSound m v) where
  abbrev IsSaved : ℕ → Parts → Type 0
  IsSaved version ps = AreKeys version ps.whole ps.keys × (list_all key_of_bytes ps.keys ≡ true)

  saved : IsSaved (view_version m v o All) (view_parts m v o)
  unfolding view_version view_parts version_of parts_of
  saved = by (base_of m v o) refl (found_ok m o v.bases ok.0 (base_of m v o) refl)
    where
      by : (b : Option (Base m)) → base_of m v o ≡ b → elim b as (λ _. Type 0) [ None ↦ Unit {0} | Some x ↦ BasedOk x.versions.base ] → IsSaved (played_version m v b o All) (played_parts m v b o)
      by None is h = (record { below = omega arith; each = refl; rising = refl }, refl)
      by (Some b) is h =
          let lawful = base_lawful m v.bases o b is_sound.bases is in
          let after = after_of m v.bases v.noted o b is is_sound.after in
          let t = keys_told (λ (k : Part). noted_or b.versions.base v.noted o k) (whole_noted b.versions.base v.noted o) (noted_or b.versions.base v.noted o All) (parts_noted v.noted o (base_parts b.versions.base o))
          (λ k. part_at_most o b.versions.base b.upto lawful v.noted v.upto k is_sound.fall after) (noted_rise m parts v.noted o (base_parts b.versions.base o) ok.1 (base_rise b.versions.base o h)) in
          (record { below = whole_at_most o b.versions.base b.upto lawful v.noted v.upto is_sound.fall after; each = t.each; rising = t.rising }, t.bytes)

  pub checkpoint_fits : (upto client number : ℕ) → is_object o ≡ true → client < 2 ^ 16 → 1 ≤ number → number < 2 ^ 32 → upto < 2 ^ 64 → nat_lt 4096 (entry_size (checkpoint m v o upto client number)) ≡ false → entry.fits (checkpoint m v o upto client number) ≡ true
  unfolding checkpoint
  checkpoint_fits upto client number object lt low high near small =
      (draft_kept _ o upto (view_version m v o All) (view_parts m v o).whole (view_parts m v o).keys (saved_bytes m (state_of m v o)) refl object lt low high near (version_small m v o All ok) saved.0 saved.1 (grind (arith, small))).spelled
