-- What is read of the words of nodes and of lists of units is what they spell, and nothing else.
use Rattle.std.proofs.Common.{◌≡◌, ℕ, ◌<◌, ◌≤◌, ◌^◌, Bool, true, false, not, ◌&&◌, ltb, List, [], ◌∷◌, ◌++◌, length, map, Option, Some, None, sym, refl, subst, ap, ◌∙◌, arith, codes}
use Rattle.std.specs.Prelude.{option_map}
use Rattle.std.specs.List.{list_all}
use Rattle.std.specs.Char.{is_ascii_digit}
use Rattle.std.specs.Fmt.{decimal}
use Rattle.tg_base.specs.Units.{is_distinct, is_chain}
use Rattle.tg_base.specs.Clusters.{Header}
use Rattle.tg_base.specs.declared.ids.Role.{Role}
use Rattle.tg_base.specs.declared.ids.Role.TheVariants as role
use Rattle.tg_base.specs.declared.ids.NodeId.{NodeId}
use Rattle.tg_codec.proofs.Laws.{both}
use Rattle.tg_any.specs.Fronts.{after}
use Rattle.tg_any.specs.AnyWords.{or_other}
use Rattle.tg_any.specs.Words.{Word}
use Rattle.tg_any.proofs.Numbers.{map_takes}
use Rattle.tg_any.proofs.Words.{IsWord}
use Rattle.tg_script.specs.Parts.{lettered, separated, narrowed}
use Rattle.tg_script.specs.Nodes.{letter_of, count_of, member_word, numbered, node_at, node_word, is_declared, node_of, node_in, node, units, distinct_units, chain, few_apart, chains}
use Rattle.tg_script.proofs.Parts.{lettered_law, separated_law, narrowed_law}
use Rattle.tg_script.proofs.Bytes.{Passes, is_graphic, is_not, digit_is_graphic, digit_is_not, lettered_passes, separated_passes, narrowed_passes}

-- Units and chains.

unit_law : (count : ℕ) → count ≤ 2 ^ 64 → IsWord (lettered (codes "u") count)
unfolding after
unit_law count most = lettered_law (codes "u") count most refl

unit_passes : (p : ℕ → Bool) (count : ℕ) → count ≤ 2 ^ 64 → p 117 ≡ true → ((b : ℕ) → is_ascii_digit b ≡ true → p b ≡ true) → Passes p (lettered (codes "u") count)
unit_passes p count most here digit = lettered_passes p (codes "u") count most (both _ _ here refl) digit

pub units_law : (count : ℕ) → count ≤ 2 ^ 64 → IsWord (units count)
units_law count most = separated_law 44 (lettered (codes "u") count) (unit_law count most) (unit_passes (is_not 44) count most refl (λ b e. digit_is_not 44 b (omega arith) e))

pub distinct_units_law : (count : ℕ) → count ≤ 2 ^ 64 → IsWord (distinct_units count)
distinct_units_law count most = narrowed_law is_distinct (units count) (units_law count most)

pub chain_law : (count : ℕ) → count ≤ 2 ^ 64 → IsWord (chain count)
chain_law count most = narrowed_law is_chain (units count) (units_law count most)

chain_passes : (p : ℕ → Bool) (count : ℕ) → count ≤ 2 ^ 64 → p 117 ≡ true → p 44 ≡ true → ((b : ℕ) → is_ascii_digit b ≡ true → p b ≡ true) → Passes p (chain count)
chain_passes p count most letter comma digit = narrowed_passes p is_chain (units count) (separated_passes p 44 (lettered (codes "u") count) comma (unit_passes p count most letter digit))

pub chains_law : (count : ℕ) → count ≤ 2 ^ 64 → IsWord (chains count)
chains_law count most =
    narrowed_law few_apart (separated 47 (chain count))
    (separated_law 47 (chain count) (chain_law count most) (chain_passes (is_not 47) count most refl refl (λ b e. digit_is_not 47 b (omega arith) e)))

pub chains_graphic : (count : ℕ) → count ≤ 2 ^ 64 → Passes is_graphic (chains count)
chains_graphic count most = narrowed_passes is_graphic few_apart (separated 47 (chain count)) (separated_passes is_graphic 47 (chain count) refl (chain_passes is_graphic count most refl refl digit_is_graphic))

pub distinct_units_graphic : (count : ℕ) → count ≤ 2 ^ 64 → Passes is_graphic (distinct_units count)
distinct_units_graphic count most =
    narrowed_passes is_graphic is_distinct (units count) (separated_passes is_graphic 44 (lettered (codes "u") count) refl (unit_passes is_graphic count most refl digit_is_graphic))

-- Nodes.

pub numbered_law : (h : Header) (r : Role) → count_of h r ≤ 2 ^ 64 → IsWord (numbered h r)
unfolding after
numbered_law h role.Unit most = lettered_law (codes "u") h.units most refl
numbered_law h role.Layout most = lettered_law (codes "l") h.layouts most refl
numbered_law h role.Seqr most = lettered_law (codes "s") h.seqs most refl
numbered_law h role.Client most = lettered_law (codes "c") h.clients most refl

letter_graphic : (r : Role) → list_all is_graphic (letter_of r) ≡ true
letter_graphic role.Unit = refl
letter_graphic role.Layout = refl
letter_graphic role.Seqr = refl
letter_graphic role.Client = refl

pub numbered_graphic : (h : Header) (r : Role) → count_of h r ≤ 2 ^ 64 → Passes is_graphic (numbered h r)
numbered_graphic h r most = lettered_passes is_graphic (letter_of r) (count_of h r) most (letter_graphic r) digit_is_graphic

-- the header declares numbers of 64 bits
abbrev pub AreCounts : Header → Type 0
AreCounts h = (r : Role) → count_of h r ≤ 2 ^ 64

abbrev IsNode : Header → List ℕ → NodeId → Type 0
IsNode h text n = (text ≡ node_word n) × (is_declared h n ≡ true)

node_of_takes : (h : Header) (r : Role) (text : List ℕ) (n : NodeId) → count_of h r ≤ 2 ^ 64 → node_of h r text ≡ Some n → IsNode h text n
node_of_takes h r text n most e =
    let m = map_takes _ _ _ e in
    let k = (numbered_law h r most).takes text m.0 m.1 in
    subst (IsNode h text) m.2 (k.0, k.1)

pub first_other : {A : Type 0} (o other : Option A) (x : A) (P : Type 0) → or_other o other ≡ Some x → (o ≡ Some x → P) → (other ≡ Some x → P) → P
first_other (Some y) other x P e first second = first e
first_other None other x P e first second = second e

node-takes : (h : Header) → AreCounts h → (text : List ℕ) (n : NodeId) → node_in h text ≡ Some n → IsNode h text n
node-takes h most text n e =
    first_other _ _ n (IsNode h text n) e (node_of_takes h role.Unit text n (most role.Unit)) (λ e.
    first_other _ _ n (IsNode h text n) e (node_of_takes h role.Layout text n (most role.Layout)) (λ e.
    first_other _ _ n (IsNode h text n) e (node_of_takes h role.Seqr text n (most role.Seqr)) (node_of_takes h role.Client text n (most role.Client))))

node_read : (h : Header) (r : Role) (m : ℕ) → count_of h r ≤ 2 ^ 64 → ltb m (count_of h r) ≡ true → node_of h r (member_word r m) ≡ Some (node_at r m)
node_read h r m most e = ap (option_map (node_at r)) ((numbered_law h r most).again m e)

pub or_first : {A : Type 0} (o other : Option A) (x : A) → o ≡ Some x → or_other o other ≡ Some x
or_first o other x e = ap (λ o. or_other o other) e

pub or_second : {A : Type 0} (o other : Option A) (x : A) → o ≡ None → other ≡ Some x → or_other o other ≡ Some x
or_second o other x e f = ap (λ o. or_other o other) e ∙ f

node_again_of : (h : Header) → AreCounts h → (r : Role) (m : ℕ) → ltb m (count_of h r) ≡ true → node_in h (member_word r m) ≡ Some (node_at r m)
unfolding after
node_again_of h most role.Unit m e = or_first _ _ _ (node_read h role.Unit m (most role.Unit) e)
node_again_of h most role.Layout m e = or_first _ _ _ (node_read h role.Layout m (most role.Layout) e)
node_again_of h most role.Seqr m e = or_first _ _ _ (node_read h role.Seqr m (most role.Seqr) e)
node_again_of h most role.Client m e = node_read h role.Client m (most role.Client) e

no_node : (h : Header) → node_in h [] ≡ None
unfolding after
no_node h = refl

pub node_law : (h : Header) → AreCounts h → IsWord (node h)
node_law h most = record { takes = node-takes h most; again = λ n e. node_again_of h most n.role n.num e; some = no_node h }

pub node_graphic : (h : Header) → AreCounts h → Passes is_graphic (node h)
node_graphic h most n e = numbered_graphic h n.role (most n.role) n.num e
