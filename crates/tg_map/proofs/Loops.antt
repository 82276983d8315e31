-- Steps of the loops over the pairs of a map.
use Rattle.std.specs.Prelude.{◌≡◌, ℕ, ◌<◌, Bool, true, false, ◌||◌, nat_lt, List, [], ◌∷◌, ◌++◌, length, refl}
use Rattle.std.specs.Map.{keys_of}
use Rattle.std.proofs.Common.{ap, sym, ◌∙◌, append_assoc}
use Rattle.std.proofs.lemmas.Bool.{lt-ltb}
use Rattle.std.proofs.lemmas.List.{map_push}
use Rattle.indexmap.specs.IndexMap.{insert_entry}
use Rattle.tg_codec.specs.Codec.{spell_many}
use Rattle.tg_kind.specs.Texts.{text_format}
use Rattle.tg_map.specs.Maps.{Pairs, same, has_key, most, set_pair, pair, after_pair}

neither : (a b : Bool) → (a || b) ≡ false → (a ≡ false) × (b ≡ false)
neither true b e = absurd cc
neither false b e = (refl, e)

inserted_last : (pairs : Pairs) (k v : List ℕ) → has_key (keys_of pairs) k ≡ false → insert_entry same pairs k v ≡ pairs ++ (k, v) ∷ []
inserted_last [] k v absent = refl
inserted_last (x ∷ pairs) k v absent = let parts = neither _ _ absent in let other : same k x.0 ≡ false = parts.0 in rw other (ap (λ (ps : Pairs). x ∷ ps) (inserted_last pairs k v parts.1))

-- a key that a map doesn't have goes last, where there is room
pub set_new : (pairs : Pairs) (k v : List ℕ) → length pairs < most → has_key (keys_of pairs) k ≡ false → set_pair pairs k v ≡ pairs ++ (k, v) ∷ []
set_new pairs k v lt absent = let room : nat_lt (length pairs) most ≡ true = lt-ltb _ _ lt in rw room (inserted_last pairs k v absent)

pub keys_push : (pairs : Pairs) (k v : List ℕ) → keys_of (pairs ++ (k, v) ∷ []) ≡ keys_of pairs ++ k ∷ []
keys_push pairs k v = map_push (λ (p : List ℕ × List ℕ). p.0) pairs (k, v)

-- a pair's bytes don't depend on the pairs before it
spell_any : (pairs : Pairs) (s t : List (List ℕ)) → spell_many pair after_pair s pairs ≡ spell_many pair after_pair t pairs
unfolding spell_many
spell_any [] s t = refl
spell_any (x ∷ pairs) s t = ap (λ (bytes : List ℕ). (pair s).spell x ++ bytes) (spell_any pairs (after_pair s x) (after_pair t x))

-- one pair more is put
pub put_on : (out new : List ℕ) (k v : List ℕ) (left pairs : Pairs) (total : List ℕ) → left ≡ (k, v) ∷ pairs → new ≡ out ++ (text_format.spell k ++ text_format.spell v)
    → out ++ spell_many pair after_pair [] left ≡ total → new ++ spell_many pair after_pair [] pairs ≡ total
unfolding spell_many
put_on out new k v left pairs total front put so_far =
    let bytes = text_format.spell k ++ text_format.spell v in
    ap (λ (o : List ℕ). o ++ spell_many pair after_pair [] pairs) put
    ∙ append_assoc out bytes (spell_many pair after_pair [] pairs)
    ∙ ap (λ (rest : List ℕ). out ++ (bytes ++ rest)) (spell_any pairs [] (k ∷ []))
    ∙ ap (λ (ps : Pairs). out ++ spell_many pair after_pair [] ps) (sym front)
    ∙ so_far

-- no pair is left
pub put_all : (out : List ℕ) (left : Pairs) (total : List ℕ) → left ≡ [] → out ++ spell_many pair after_pair [] left ≡ total → out ++ [] ≡ total
unfolding spell_many
put_all out left total none so_far = ap (λ (ps : Pairs). out ++ spell_many pair after_pair [] ps) (sym none) ∙ so_far
