-- What a checkpoint that has a spelling tells of its object's parts.
use Rattle.std.specs.Prelude.{◌≡◌, ℕ, zero, suc, ◌+◌, ◌≤◌, ◌^◌, Bool, true, false, cond, ◌==◌, nat_lt, nat_le, List, [], ◌∷◌, length, Option, refl}
use Rattle.std.specs.List.{list_all}
use Rattle.std.proofs.Common.{subst, arith, le-leb}
use Rattle.std.proofs.lemmas.Bool.{eqb-true}
use Rattle.tg_base.specs.declared.ids.Oid.{Oid}
use Rattle.tg_base.specs.declared.marks.Part.{Part}
use Rattle.tg_base.specs.declared.marks.Part.TheVariants.{All, Text, Num}
use Rattle.tg_base.specs.declared.marks.StreamLink.{StreamLink}
use Rattle.tg_codec.specs.Bounds.{tops, raw_above}
use Rattle.tg_codec.specs.Codec.{u8, u16, u32, u64, dep, text, fit_many}
use Rattle.tg_codec.specs.Owing.{points}
use Rattle.tg_codec.specs.Streams.{any, from_one, links, oid}
use Rattle.tg_codec.specs.Reading.{meets}
use Rattle.tg_codec.proofs.Laws.{and-left, and-right, both}
use Rattle.tg_codec.proofs.Shapes.{met_within}
use Rattle.tg_entry.specs.declared.checkpoints.KeyBound.{KeyBound}
use Rattle.tg_entry.specs.declared.entry.Body.{Body}
use Rattle.tg_entry.specs.declared.entry.Body.TheVariants.{Checkpoint}
use Rattle.tg_entry.specs.declared.entry.Head.{Head}
use Rattle.tg_entry.specs.Parts.{over, least_tag, text_bound, text_above, number_range, part_above}
use Rattle.tg_entry.specs.Checkpoints.{Keyed, key, after_key, first_key, keys, by_versions, by_version, new_rest, new_fields, fields}
use Rattle.tg_entry.specs.Format.{body, stream_counts, in_streams, by_number, by_client, of_tag, of_format, entry}
use Rattle.tg_entry.specs.Writes.{stream_numbers}
use Rattle.tg_play.specs.Lawful.{is_named, is_told}

part_named : (before : Option Part) (p : Part) → (part_above before).fits p ≡ true → is_named p ≡ true
part_named before All e = refl
part_named before (Text t) e =
    let body : (text_above (text_bound before)).fits t ≡ true = and-right ((u8 ((least_tag before, 2) ∷ [])).fits 1) ((text_above (text_bound before)).fits t) e in
    let count : (u16 ((tops (text_bound before) + 1, 4096) ∷ [])).fits (length t) ≡ true = and-left ((u16 ((tops (text_bound before) + 1, 4096) ∷ [])).fits (length t)) ((raw_above (text_bound before) (length t)).fits t) body in
    let within : (tops (text_bound before) + 1 ≤ length t) × (length t ≤ 4096) =
    met_within (tops (text_bound before) + 1) 4096 (length t) (and-left (meets ((tops (text_bound before) + 1, 4096) ∷ []) (length t) (length t)) (nat_lt (length t) (2 ^ 16)) count) in
    let from_one : tops (text_bound before) + 1 ≤ length t = within.0 in
    both (nat_le 1 (length t)) (nat_le (length t) 4096) (le-leb 1 (length t) (omega (arith, from_one))) (le-leb (length t) 4096 within.1)
part_named before (Num n) e =
    let body : (u64 (number_range before ∷ [])).fits n ≡ true = and-right ((u8 ((least_tag before, 2) ∷ [])).fits 2) ((u64 (number_range before ∷ [])).fits n) e in
    and-right (meets (number_range before ∷ []) n n) (nat_lt n (2 ^ 64)) body

not_later : (whole version n : ℕ) → meets (over whole version ∷ []) n n ≡ true → n ≤ version
not_later whole version n e = by (nat_lt whole version) e
  where
    by : (t : Bool) → meets (cond t (whole + 1, version) (1, 0) ∷ []) n n ≡ true → n ≤ version
    by true h = (met_within (whole + 1) version n h).1
    by false h = let w = met_within 1 0 n h in absurd (omega (arith, w.0, w.1))

key_told : (s : KeyBound) (k : Part × ℕ) → (key s).fits k ≡ true → is_told s.version k ≡ true
key_told s k e =
    let part : (part_above s.part).fits k.0 ≡ true = and-left ((part_above s.part).fits k.0) ((u64 (over s.whole s.version ∷ [])).fits k.1) e in
    let version : (u64 (over s.whole s.version ∷ [])).fits k.1 ≡ true = and-right ((part_above s.part).fits k.0) ((u64 (over s.whole s.version ∷ [])).fits k.1) e in
    both (is_named k.0) (nat_le k.1 s.version) (part_named s.part k.0 part)
    (le-leb k.1 s.version (not_later s.whole s.version k.1 (and-left (meets (over s.whole s.version ∷ []) k.1 k.1) (nat_lt k.1 (2 ^ 64)) version)))

each_told : (n : ℕ) (s : KeyBound) (ks : Keyed) → fit_many key after_key n s ks ≡ true → list_all (is_told s.version) ks ≡ true
unfolding fit_many
each_told zero s [] e = refl
each_told zero s (k ∷ ks) e = absurd cc
each_told (suc n) s [] e = absurd cc
each_told (suc n) s (k ∷ ks) e =
    both (is_told s.version k) (list_all (is_told s.version) ks) (key_told s k (and-left ((key s).fits k) (fit_many key after_key n (after_key s k) ks) e))
    (each_told n (after_key s k) ks (and-right ((key s).fits k) (fit_many key after_key n (after_key s k) ks) e))

pub record Tells (version whole : ℕ) (ks : Keyed) : Type 0 where
  pub below : whole ≤ version
  pub each : list_all (is_told version) ks ≡ true

fields_tell : (oids : List (ℕ × ℕ)) (o : Oid) (upto version whole : ℕ) (ks : Keyed) (state : List ℕ) → (new_fields oids).fits (o, (upto, (version, (whole, (ks, state))))) ≡ true → Tells version whole ks
unfolding new_fields keys
fields_tell oids o upto version whole ks state e =
    let from_upto : (dep (u64 any) (λ (_ : ℕ). new_rest)).fits (upto, (version, (whole, (ks, state)))) ≡ true =
    and-right ((oid oids).fits o) ((dep (u64 any) (λ (_ : ℕ). new_rest)).fits (upto, (version, (whole, (ks, state))))) e in
    let from_version : new_rest.fits (version, (whole, (ks, state))) ≡ true = and-right ((u64 any).fits upto) (new_rest.fits (version, (whole, (ks, state)))) from_upto in
    let from_whole : (by_version version).fits (whole, (ks, state)) ≡ true = and-right ((u64 any).fits version) ((by_version version).fits (whole, (ks, state))) from_version in
    let from_keys : (by_versions version whole).fits (ks, state) ≡ true = and-right ((u64 ((0, version) ∷ [])).fits whole) ((by_versions version whole).fits (ks, state)) from_whole in
    let of_whole : (u64 ((0, version) ∷ [])).fits whole ≡ true = and-left ((u64 ((0, version) ∷ [])).fits whole) ((by_versions version whole).fits (ks, state)) from_whole in
    let of_keys : (keys whole version).fits ks ≡ true = and-left ((keys whole version).fits ks) ((text any).fits state) from_keys in
    record {
      below = (met_within 0 version whole (and-left (meets ((0, version) ∷ []) whole whole) (nat_lt whole (2 ^ 64)) of_whole)).1;
      each = each_told (length ks) (first_key whole version) ks (and-right ((u16 any).fits (length ks)) (fit_many key after_key (length ks) (first_key whole version) ks) of_keys);
    }

body_tells : (format : ℕ) (ls : List StreamLink) (o : Oid) (upto version whole : ℕ) (ks : Keyed) (state : List ℕ) → format ≡ 2 → (body format ls 3).fits (Checkpoint o upto version whole ks state) ≡ true → Tells version whole ks
unfolding body
body_tells format ls o upto version whole ks state is e =
    fields_tell (points (stream_numbers ls)) o upto version whole ks state
    (subst (λ (f : ℕ). (fields f (points (stream_numbers ls))).fits (o, (upto, (version, (whole, (ks, state))))) ≡ true) is e)

pub entry_tells : (h : Head) (o : Oid) (upto version whole : ℕ) (ks : Keyed) (state : List ℕ) → (h.format == 2) ≡ true → entry.fits (record { head = h; body = Checkpoint o upto version whole ks state }) ≡ true → Tells version whole ks
unfolding entry
entry_tells h o upto version whole ks state is e =
    let b : Body = Checkpoint o upto version whole ks state in
    let from_format : of_format.fits (h.format, (3, (h.client, (h.number, (h.streams, b))))) ≡ true = e in
    let from_tag : (of_tag h.format).fits (3, (h.client, (h.number, (h.streams, b)))) ≡ true =
    and-right ((u8 ((1, 2) ∷ [])).fits h.format) ((of_tag h.format).fits (3, (h.client, (h.number, (h.streams, b))))) from_format in
    let from_client : (by_client h.format 3).fits (h.client, (h.number, (h.streams, b))) ≡ true =
    and-right ((u8 ((1, 3) ∷ [])).fits 3) ((by_client h.format 3).fits (h.client, (h.number, (h.streams, b)))) from_tag in
    let from_number : (by_number h.format 3).fits (h.number, (h.streams, b)) ≡ true = and-right ((u16 any).fits h.client) ((by_number h.format 3).fits (h.number, (h.streams, b))) from_client in
    let from_streams : (in_streams h.format 3).fits (h.streams, b) ≡ true = and-right ((u32 from_one).fits h.number) ((in_streams h.format 3).fits (h.streams, b)) from_number in
    body_tells h.format h.streams o upto version whole ks state (eqb-true h.format 2 is) (and-right ((links (stream_counts 3)).fits h.streams) ((body h.format h.streams 3).fits b) from_streams)
