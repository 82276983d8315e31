-- Rows of nodes: what was moved out, and what the row is afterwards.
use Rattle.std.specs.Prelude.{◌≡◌, ℕ, zero, suc, ◌+◌, ◌<◌, ◌≤◌, List, [], ◌∷◌, ◌++◌, length, swap, slice_set, slice_index_or, refl}
use Rattle.std.specs.List.{swap_remove}
use Rattle.std.proofs.Common.{sym, ap, subst, ◌∙◌, arith}
use Rattle.std.proofs.lemmas.List.{length-map}
use Rattle.tg_base.specs.Clusters.{Header}
use Rattle.tg_base.specs.Layouts.{Layout}
use Rattle.tg_protocol.specs.Sequencers.{SeqrState}
use Rattle.tg_seqr.specs.Counted.{Counted}
use Rattle.tg_world_servers.specs.Kept.{IsWhole}
use Rattle.tg_world_servers.specs.Rows.{state_of, states_of, AreCounted}
use Rattle.tg_world_servers.proofs.Swapping.{set_back}

pub set_length : {X : Type 0} (xs : List X) (n : ℕ) (y : X) → length (slice_set xs n y) ≡ length xs
set_length [] n y = refl
set_length (x ∷ xs) zero y = refl
set_length (x ∷ xs) (suc n) y = ap suc (set_length xs n y)

pub same_read : {X : Type 0} (xs : List X) (n : ℕ) (d e : X) → n < length xs → slice_index_or xs n d ≡ slice_index_or xs n e
same_read [] n d e h = absurd (omega (arith, h))
same_read (x ∷ xs) zero d e h = refl
same_read (x ∷ xs) (suc n) d e h = let k : n < length xs = omega (arith, h) in same_read xs n d e k

-- what was moved out

pub was_there : {X : Type 0} (xs : List X) (n : ℕ) (x d : X) → n < length xs → x ≡ slice_index_or xs n x → x ≡ slice_index_or xs n d
was_there xs n x d h e = e ∙ same_read xs n x d h

-- ---- sequencers by their states

pub states_set : (cs : List Counted) (n : ℕ) (c : Counted) → states_of (slice_set cs n c) ≡ slice_set (states_of cs) n c.state
states_set [] n c = refl
states_set (x ∷ cs) zero c = refl
states_set (x ∷ cs) (suc n) c = λ i. x.state ∷ states_set cs n c i

pub states_read : (cs : List Counted) (n : ℕ) (d : Counted) (e : SeqrState) → n < length cs → (slice_index_or cs n d).state ≡ slice_index_or (states_of cs) n e
states_read [] n d e h = absurd (omega (arith, h))
states_read (x ∷ cs) zero d e h = refl
states_read (x ∷ cs) (suc n) d e h = let k : n < length cs = omega (arith, h) in states_read cs n d e k

-- a turn leaves as many as there were
pub turned_length : (cs ds : List Counted) (n : ℕ) (s : SeqrState) → states_of ds ≡ slice_set (states_of cs) n s → length ds ≡ length cs
turned_length cs ds n s e = sym (length-map ds state_of) ∙ ap length e ∙ set_length (states_of cs) n s ∙ length-map cs state_of

-- ---- how many steps they have taken

pub counted_read : (most : ℕ) (cs : List Counted) (n : ℕ) (d : Counted) → n < length cs → AreCounted most cs → (slice_index_or cs n d).calls ≤ most
counted_read most [] n d h k = absurd (omega (arith, h))
counted_read most (x ∷ cs) zero d h k = k.0
counted_read most (x ∷ cs) (suc n) d h k = let l : n < length cs = omega (arith, h) in counted_read most cs n d l k.1

pub counted_more : (most high : ℕ) (cs : List Counted) → most ≤ high → AreCounted most cs → AreCounted high cs
counted_more most high [] h k = k
counted_more most high (x ∷ cs) h k = let l : x.calls ≤ most = k.0 in (omega (arith, h, l), counted_more most high cs h k.1)

pub counted_set : (most : ℕ) (cs : List Counted) (n : ℕ) (c : Counted) → c.calls ≤ most → AreCounted most cs → AreCounted most (slice_set cs n c)
counted_set most [] n c h k = k
counted_set most (x ∷ cs) zero c h k = (h, k.1)
counted_set most (x ∷ cs) (suc n) c h k = (k.0, counted_set most cs n c h k.1)

-- ---- the servers stay whole as a step is counted

pub whole_more : (c : Header) (q : Layout) (us vs ls ms : ℕ) (cs : List Counted) (steps : ℕ) → vs ≡ us → ms ≡ ls → IsWhole c q us ls cs steps → IsWhole c q vs ms cs (steps + 1)
whole_more c q us vs ls ms cs steps units layouts h = record {
  begins = h.begins;
  counted = counted_more steps (steps + 1) cs (omega arith) h.counted;
  all_units = units ∙ h.all_units;
  all_layouts = layouts ∙ h.all_layouts;
  all_seqrs = h.all_seqrs;
}

pub whole_turned : (c : Header) (q : Layout) (us ls : ℕ) (cs ds : List Counted) (steps : ℕ) → length ds ≡ length cs → IsWhole c q us ls cs steps → AreCounted (steps + 1) ds → IsWhole c q us ls ds (steps + 1)
whole_turned c q us ls cs ds steps long h k = record {
  begins = h.begins;
  counted = k;
  all_units = h.all_units;
  all_layouts = h.all_layouts;
  all_seqrs = long ∙ h.all_seqrs;
}

-- there is room for one step more
pub has_room : (c : Header) (q : Layout) (us ls : ℕ) (cs : List Counted) (steps : ℕ) → IsWhole c q us ls cs steps → steps < 200000 → AreCounted 199999 cs
has_room c q us ls cs steps h room = counted_more steps 199999 cs (omega (arith, room)) h.counted

-- ---- a sequencer's turn in its row

module _ (cs ds es : List Counted) (n : ℕ) (was now : Counted) (within : n < length cs) (there : was ≡ slice_index_or cs n was) (taken : ds ≡ swap_remove cs n was) (put : es ≡ swap (ds ++ now ∷ []) n (length ds)) where
  row_is : es ≡ slice_set cs n now
  row_is = set_back cs ds es n was now within taken put

  pub state_was : (d : SeqrState) → was.state ≡ slice_index_or (states_of cs) n d
  state_was d = ap (λ (c : Counted). c.state) there ∙ states_read cs n was d within

  pub states_now : (turn : SeqrState → SeqrState) (d : SeqrState) → now.state ≡ turn was.state → states_of es ≡ slice_set (states_of cs) n (turn (slice_index_or (states_of cs) n d))
  states_now turn d e = ap states_of row_is ∙ states_set cs n now ∙ ap (λ (x : SeqrState). slice_set (states_of cs) n x) (e ∙ ap turn (state_was d))

  pub counted_now : (steps : ℕ) → now.calls ≡ was.calls + 1 → AreCounted steps cs → AreCounted (steps + 1) es
  counted_now steps e k =
      let few : (slice_index_or cs n was).calls ≤ steps = counted_read steps cs n was within k in
      let same : was.calls ≡ (slice_index_or cs n was).calls = ap (λ (c : Counted). c.calls) there in
      let le : now.calls ≤ steps + 1 = omega (arith, e, few, same) in
      subst (λ (xs : List Counted). AreCounted (steps + 1) xs) (sym row_is) (counted_set (steps + 1) cs n now le (counted_more steps (steps + 1) cs (omega arith) k))

pub calls_below : (cs : List Counted) (n : ℕ) (was : Counted) → n < length cs → was ≡ slice_index_or cs n was → AreCounted 199999 cs → was.calls < 200000
calls_below cs n was h there k =
    let few : (slice_index_or cs n was).calls ≤ 199999 = counted_read 199999 cs n was h k in
    let same : was.calls ≡ (slice_index_or cs n was).calls = ap (λ (c : Counted). c.calls) there in
    omega (arith, few, same)
