-- What is read of a reconfiguration's words keeps the rules of a change.
use Rattle.std.proofs.Common.{◌≡◌, ℕ, ◌<◌, ◌≤◌, ◌^◌, Bool, true, ltb, leb, List, [], ◌∷◌, length, Option, Some, None, sym, refl, subst, ap, ◌∙◌, arith, codes}
use Rattle.std.specs.Prelude.{Result, Ok, Err, IfOk, IfSome, option_and_then}
use Rattle.std.specs.List.{list_all, concat}
use Rattle.std.proofs.lemmas.Bool.Decides.{nat_tests}
use Rattle.tg_base.specs.declared.ids.Role.TheVariants as role
use Rattle.tg_base.specs.declared.change.Join.{Join}
use Rattle.tg_base.specs.Units.{is_unit, is_chain, is_distinct, is_within}
use Rattle.tg_base.specs.Changes.{Changed, is_opening, is_joining, IsChange}
use Rattle.tg_base.specs.Clusters.{Header, IsHeader, are_chains}
use Rattle.tg_codec.proofs.Laws.{and-left, and-right, both}
use Rattle.tg_any.proofs.Fronts.{if_some}
use Rattle.tg_script.specs.Nodes.{numbered, distinct_units, chains}
use Rattle.tg_script.specs.Commands.{place, part_at, part_read, joined_change, opened_change, dropped_change}
use Rattle.tg_script.specs.Headers.{sizes_of}
use Rattle.tg_script.proofs.Bytes.{all_weaker}
use Rattle.tg_script.proofs.NodeWords.{distinct_units_law, chains_law}
use Rattle.tg_script.proofs.Clusters.{chains_are, header_sizes}
use Rattle.tg_script.proofs.EventLines.{counts_small}
use Rattle.tg_script.proofs.Commands.{place_law}

-- what holds of all that is read
pub read_fits : {A E : Type 0} (r : Result (Option A) E) (o : Option A) (P : A → Type 0) → IfOk r (λ (x : Option A). x ≡ o) → ((x : A) → o ≡ Some x → P x) → IfOk r (λ (x : Option A). IfSome x P)
read_fits (Ok x) o P e f = if_some x o P e f
read_fits (Err e) o P is f = tt

unit_below : (count u : ℕ) → count ≤ 64 → ltb u count ≡ true → is_unit u ≡ true
unit_below count u few e = grind (arith, nat_tests)

pub units_lawful : (count : ℕ) → count ≤ 64 → (word us : List ℕ) → (distinct_units count).read word ≡ Some us → (list_all is_unit us ≡ true) × (is_distinct us ≡ true)
units_lawful count few word us e =
    let fits = ((distinct_units_law count (omega (arith, few))).takes word us e).1 in
    (all_weaker (λ (u : ℕ). ltb u count) is_unit (λ u f. unit_below count u few f) us (and-right _ _ (and-left _ _ fits)), and-right _ _ fits)

pub chains_lawful : (count : ℕ) → count ≤ 64 → (word : List ℕ) (cs : List (List ℕ)) → (chains count).read word ≡ Some cs → is_opening cs ≡ true
chains_lawful count few word cs e =
    let a : are_chains count cs ≡ true = chains_are count cs ((chains_law count (omega (arith, few))).takes word cs e).1 in
    let within : is_within 1 8 (length cs) ≡ true = and-left _ _ (and-left _ _ (and-left _ _ a)) in
    let short : leb (length cs) 8 ≡ true = and-right _ _ within in
    let each : list_all is_chain cs ≡ true = and-right _ _ (and-left _ _ (and-left _ _ a)) in
    let apart : is_distinct (concat cs) ≡ true = and-right _ _ a in
    both _ _ (both _ _ short each) apart

-- a header declares at most 64 units
pub few_units : (h : Header) → IsHeader h → h.units ≤ 64
few_units h e =
    let units : is_within 1 64 h.units ≡ true = and-left _ _ (and-left _ _ (and-left _ _ (and-left _ _ (header_sizes h e)))) in
    grind (arith, nat_tests)

pub join_lawful : (h : Header) → IsHeader h → (words : List (List ℕ)) (j : Join) → (place h).read words ≡ Some j → is_unit j.unit ≡ true
join_lawful h lawful words j e =
    let t = (place_law h (counts_small h lawful)).takes words j e in
    unit_below h.units j.unit (few_units h lawful) (and-left _ _ (and-left _ _ t.1))

-- a change of lawful parts is lawful
pub change_lawful : (c : Changed) → (list_all is_unit c.drop ≡ true) × (is_distinct c.drop ≡ true) → is_opening c.opened ≡ true → is_joining c.join ≡ true → IsChange c
change_lawful c units opening joining = both _ _ (both _ _ (both _ _ units.0 units.1) opening) joining

-- What is read part by part, where o is the word of a part that is read as x, and t are the words that follow.

opened_is : (h : Header) (count seq : ℕ) (drop : List ℕ) (o : Option (List ℕ)) (p : Option (List ℕ) × List (List ℕ)) (x : Option (List (List ℕ))) → count ≡ h.units → o ≡ p.0 → x ≡ part_read (chains count) o
    → option_and_then (λ (cs : List (List ℕ)). joined_change h seq drop cs p.1) x ≡ opened_change h seq drop p
opened_is h count seq drop o p x is word read =
    ap (option_and_then (λ (cs : List (List ℕ)). joined_change h seq drop cs p.1)) (read ∙ ap (λ (n : ℕ). part_read (chains n) o) is ∙ ap (part_read (chains h.units)) word)

pub opened_none : (h : Header) (count seq : ℕ) (drop : List ℕ) (o : Option (List ℕ)) (p : Option (List ℕ) × List (List ℕ)) (x : Option (List (List ℕ))) → count ≡ h.units → o ≡ p.0 → x ≡ part_read (chains count) o
    → x ≡ None → None ≡ opened_change h seq drop p
opened_none h count seq drop o p x is word read none =
    ap (option_and_then (λ (cs : List (List ℕ)). joined_change h seq drop cs p.1)) (sym none) ∙ opened_is h count seq drop o p x is word read

pub opened_some : (h : Header) (count seq : ℕ) (drop : List ℕ) (o : Option (List ℕ)) (p : Option (List ℕ) × List (List ℕ)) (x : Option (List (List ℕ))) (cs t : List (List ℕ)) → count ≡ h.units → o ≡ p.0 → x ≡ part_read (chains count) o
    → x ≡ Some cs → t ≡ p.1 → joined_change h seq drop cs t ≡ opened_change h seq drop p
opened_some h count seq drop o p x cs t is word read some rest =
    ap (joined_change h seq drop cs) rest ∙ ap (option_and_then (λ (cs : List (List ℕ)). joined_change h seq drop cs p.1)) (sym some) ∙ opened_is h count seq drop o p x is word read

dropped_is : (h : Header) (count seq : ℕ) (o : Option (List ℕ)) (p : Option (List ℕ) × List (List ℕ)) (x : Option (List ℕ)) → count ≡ h.units → o ≡ p.0 → x ≡ part_read (distinct_units count) o
    → option_and_then (λ (us : List ℕ). opened_change h seq us (part_at (codes "open") p.1)) x ≡ dropped_change h seq p
dropped_is h count seq o p x is word read =
    ap (option_and_then (λ (us : List ℕ). opened_change h seq us (part_at (codes "open") p.1))) (read ∙ ap (λ (n : ℕ). part_read (distinct_units n) o) is ∙ ap (part_read (distinct_units h.units)) word)

pub dropped_none : (h : Header) (count seq : ℕ) (o : Option (List ℕ)) (p : Option (List ℕ) × List (List ℕ)) (x : Option (List ℕ)) → count ≡ h.units → o ≡ p.0 → x ≡ part_read (distinct_units count) o
    → x ≡ None → None ≡ dropped_change h seq p
dropped_none h count seq o p x is word read none =
    ap (option_and_then (λ (us : List ℕ). opened_change h seq us (part_at (codes "open") p.1))) (sym none) ∙ dropped_is h count seq o p x is word read

pub dropped_some : (h : Header) (count seq : ℕ) (o : Option (List ℕ)) (p : Option (List ℕ) × List (List ℕ)) (x : Option (List ℕ)) (us : List ℕ) (t : List (List ℕ)) → count ≡ h.units → o ≡ p.0 → x ≡ part_read (distinct_units count) o
    → x ≡ Some us → t ≡ p.1 → opened_change h seq us (part_at (codes "open") t) ≡ dropped_change h seq p
dropped_some h count seq o p x us t is word read some rest =
    ap (λ (t : List (List ℕ)). opened_change h seq us (part_at (codes "open") t)) rest
    ∙ ap (option_and_then (λ (us : List ℕ). opened_change h seq us (part_at (codes "open") p.1))) (sym some) ∙ dropped_is h count seq o p x is word read
