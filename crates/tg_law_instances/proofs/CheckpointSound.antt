-- Tests of checkpoints that passed prove their states, and the versions of all parts.
use Rattle.std.proofs.Common.{◌≡◌, ℕ, List, [], ◌∷◌, Bool, true, false, None, refl, sym, ap, ◌∙◌, subst, inl, inr}
use Rattle.std.specs.Prelude.{◌&&◌, ◌||◌, ◌==◌, if◌then◌else◌}
use Rattle.std.specs.List.{list_any, list_all}
use Rattle.tg_base.specs.declared.ids.Oid.{Oid}
use Rattle.tg_base.specs.declared.marks.Part.{Part}
use Rattle.tg_base.specs.declared.marks.Part.TheVariants.{All, Text, Num}
use Rattle.tg_entry.specs.declared.entry.Body.{Body}
use Rattle.tg_entry.specs.declared.entry.Entry.{Entry}
use Rattle.tg_model.specs.Stores.{state_at}
use Rattle.tg_protocol.specs.Words.{bytes_eq}
use Rattle.tg_kind.specs.Parts.{part_eq, is_whole}
use Rattle.tg_base.specs.Orders.{oid_eq}
use Rattle.tg_protocol.specs.Versions.{Based, PartVersion, key_version, version_in, noted_or, whole_noted}
use Rattle.tg_protocol.specs.Logs.{version, changes_below}
use Rattle.tg_protocol.specs.Worlds.{history}
use Rattle.tg_protocol.specs.Alike.{CheckpointsTrue}
use Rattle.tg_law_verdicts.proofs.Members.{differ, and_both, found, all_pass}
use Rattle.tg_law_verdicts.proofs.Tests.{same_number, number_same}
use Rattle.tg_law_examples.proofs.SevenKinds.{kinds}
use Rattle.tg_law_instances.proofs.Same.{bytes_same, parts_same}
use Rattle.tg_law_instances.proofs.Readings.{then_so, either_so, es_of, of_log}
use Rattle.tg_law_instances.proofs.Tests.{W, part_true, parts_true, checkpoint_true, checkpoints}

-- A part that no change names has the version of the whole.

past_two : (a b c : Bool) → b ≡ false → c ≡ false → (a || b || c) ≡ a
past_two true b c e f = refl
past_two false true c e f = absurd cc
past_two false false true e f = absurd cc
past_two false false false e f = refl

neither : (a b : Bool) → (a || b) ≡ false → (a ≡ false) × (b ≡ false)
neither true b e = absurd cc
neither false b e = (refl, e)

abbrev names : Part → PartVersion → Bool
names k n = part_eq n.part k

untouched : (ns : List PartVersion) (o : Oid) (k : Part) → is_whole k ≡ false → list_any (names k) ns ≡ false → noted_or None ns o k ≡ whole_noted None ns o
untouched [] o k w none = refl
untouched (n ∷ ns) o k w none =
    let b = neither (names k n) (list_any (names k) ns) none in
    ap (λ (c : Bool). if oid_eq n.oid o && c then n.version else noted_or None ns o k) (past_two (is_whole n.part) (is_whole k) (part_eq n.part k) w b.0)
    ∙ ap (λ (m : ℕ). if oid_eq n.oid o && is_whole n.part then n.version else m) (untouched ns o k w b.1)

abbrev keys_it : Part → Part × ℕ → Bool
keys_it k x = part_eq k x.0

unkeyed : (keys : List (Part × ℕ)) (whole : ℕ) (k : Part) → list_any (keys_it k) keys ≡ false → key_version k whole keys ≡ whole
unkeyed [] whole k none = refl
unkeyed (x ∷ keys) whole k none =
    let b = neither (part_eq k x.0) (list_any (keys_it k) keys) none in
    ap (λ (c : Bool). if c then x.1 else key_version k whole keys) b.0 ∙ unkeyed keys whole k b.1

keyed : (b : Based) (k : Part) → is_whole k ≡ false → version_in b k ≡ key_version k b.whole b.keys
keyed b All w = absurd cc
keyed b (Text t) w = refl
keyed b (Num n) w = refl

part_is : (ns : List PartVersion) (b : Based) (k p : Part) → is_whole k ≡ false → p ≡ k → part_true ns b p ≡ true → noted_or None ns b.oid k ≡ version_in b k
part_is ns b k p w e t =
    elim (either_so (is_whole k) (noted_or None ns b.oid k == version_in b k) (subst (λ (q : Part). part_true ns b q ≡ true) e t)) [
      | inl a ↦ absurd (differ (sym a ∙ w))
      | inr c ↦ same_number (noted_or None ns b.oid k) (version_in b k) c
    ]

other_part : (ns : List PartVersion) (b : Based) (k : Part) → is_whole k ≡ false → parts_true ns b ≡ true → noted_or None ns b.oid k ≡ version_in b k
other_part ns b k w t = by_change (list_any (names k) ns) refl
  where
    changes : Bool
    changes = list_all (λ (n : PartVersion). part_true ns b n.part) ns

    keys : Bool
    keys = list_all (λ (x : Part × ℕ). part_true ns b x.0) b.keys

    parts : (((changes ≡ true) × (keys ≡ true)) × ((whole_noted None ns b.oid == b.whole) ≡ true)) × ((noted_or None ns b.oid All == b.version) ≡ true)
    parts =
        let c0 = and_both (changes && keys && (whole_noted None ns b.oid == b.whole)) (noted_or None ns b.oid All == b.version) t in
        let c1 = and_both (changes && keys) (whole_noted None ns b.oid == b.whole) c0.0 in
        ((and_both changes keys c1.0, c1.1), c0.1)

    by_key : (c : Bool) → list_any (keys_it k) b.keys ≡ c → list_any (names k) ns ≡ false → noted_or None ns b.oid k ≡ version_in b k
    by_key true e none = let x = found (keys_it k) b.keys e in part_is ns b k x.it.0 w (sym (parts_same k x.it.0 x.passes)) (all_pass (λ (y : Part × ℕ). part_true ns b y.0) b.keys parts.0.0.1 x.it x.has)
    by_key false e none =
        untouched ns b.oid k w none ∙ same_number (whole_noted None ns b.oid) b.whole parts.0.1 ∙ sym (unkeyed b.keys b.whole k e) ∙ sym (keyed b k w)

    by_change : (c : Bool) → list_any (names k) ns ≡ c → noted_or None ns b.oid k ≡ version_in b k
    by_change true e = let x = found (names k) ns e in part_is ns b k x.it.part w (parts_same x.it.part k x.passes) (all_pass (λ (n : PartVersion). part_true ns b n.part) ns parts.0.0.0 x.it x.has)
    by_change false e = by_key (list_any (keys_it k) b.keys) refl e

whole_part : (ns : List PartVersion) (b : Based) → parts_true ns b ≡ true → noted_or None ns b.oid All ≡ b.version
whole_part ns b t =
    same_number (noted_or None ns b.oid All) b.version
    (and_both (list_all (λ (n : PartVersion). part_true ns b n.part) ns && list_all (λ (x : Part × ℕ). part_true ns b x.0) b.keys && (whole_noted None ns b.oid == b.whole)) (noted_or None ns b.oid All == b.version) t).1

each_part : (ns : List PartVersion) (b : Based) → parts_true ns b ≡ true → (k : Part) → noted_or None ns b.oid k ≡ version_in b k
each_part ns b t All = whole_part ns b t
each_part ns b t (Text x) = other_part ns b (Text x) refl t
each_part ns b t (Num n) = other_part ns b (Num n) refl t

pub checkpoints_sound : (w : W) → checkpoints w (es_of w) ≡ true → CheckpointsTrue kinds w
unfolding version
checkpoints_sound w h p e o u v whole keys state here format is =
    let b : Based = record { oid = o; version = v; whole = whole; keys = keys } in
    let ns = changes_below kinds [] (es_of w) u in
    let saved = kinds.save (state_at kinds w.cluster.objects (history kinds w) u o) in
    let t = subst (λ (y : Body). checkpoint_true w e y ≡ true) is (all_pass (λ (x : ℕ × Entry). checkpoint_true w x.1 x.1.body) (es_of w) h (p, e) (of_log w p e here)) in
    let c = and_both (bytes_eq state saved) (parts_true ns b) (then_so (e.head.format == 2) (bytes_eq state saved && parts_true ns b) t (number_same e.head.format 2 format)) in
    record { saved = bytes_same state saved c.0; version_all = sym (whole_part ns b c.1); parts = each_part ns b c.1 }
