-- The lines that a live run makes by itself keep the grammar, and those of its script may come at any time.
use Rattle.std.proofs.Common.{◌≡◌, ◌∙◌, ℕ, ◌+◌, ◌<◌, ◌≤◌, ◌^◌, true, false, List, ◌∷◌, ◌++◌, length, refl, sym, ap, arith}
use Rattle.std.specs.Prelude.{nat_lt, codes, not}
use Rattle.std.specs.Fmt.{decimal}
use Rattle.std.proofs.lemmas.Bool.{lt-ltb, ltb-true}
use Rattle.std.proofs.lemmas.List.{length-append}
use Rattle.std.proofs.lemmas.Fmt.{length-decimal-le}
use Rattle.tg_base.specs.Clusters.{Header, IsHeader}
use Rattle.tg_base.specs.declared.ids.NodeId.{NodeId}
use Rattle.tg_base.specs.declared.ids.Role.{Role}
use Rattle.tg_base.specs.declared.ids.Role.TheVariants as role
use Rattle.tg_codec.proofs.Laws.{and-left}
use Rattle.tg_model.specs.declared.command.Event.TheVariants as event
use Rattle.tg_protocol.specs.Worlds.{runs, has_stopped, count_of}
use Rattle.tg_any.specs.AllKinds.{all_kinds}
use Rattle.tg_script.specs.Nodes.{letter_of, node_word, count_of as declared_of}
use Rattle.tg_script.specs.declared.line.Line.{Line}
use Rattle.tg_script.specs.declared.line.Line.TheVariants as line
use Rattle.tg_script.proofs.EventLines.{counts_small}
use Rattle.tg_replay.specs.Runs.{Worlds, IsLine, MayCome, line_text}
use Rattle.tg_live.specs.Scripts.{is_delivery}
use Rattle.tg_live.proofs.Standing.{Stands}

-- a number of 64 bits has at most 20 digits
few_digits : (n : ℕ) → n < 2 ^ 64 → length (decimal n) ≤ 20
few_digits n small = length-decimal-le 20 n (omega arith) (omega (arith, small)) small

-- a word after another of at most six letters
short_line : (first word : List ℕ) → length word ≤ 21 → length (first ++ 32 ∷ word) ≤ length first + 22
short_line first word few = omega (arith, length-append first (32 ∷ word), few)

-- ---- deliveries

deliver_short : (i : ℕ) → i < 2 ^ 64 → length (line_text (line.Event (event.Deliver i))) ≤ 8192
deliver_short i small = let d = few_digits i small in let l = short_line (codes "deliver") (decimal i) (omega (arith, d)) in omega (arith, l)

pub deliver_is : (h : Header) (i : ℕ) → i < 2 ^ 64 → IsLine h (line.Event (event.Deliver i))
deliver_is h i small = record { fits = lt-ltb i (2 ^ 64) small; short = deliver_short i small }

-- ---- ticks

one_letter : (r : Role) → length (letter_of r) ≡ 1
one_letter role.Unit = refl
one_letter role.Layout = refl
one_letter role.Seqr = refl
one_letter role.Client = refl

word_short : (n : NodeId) → n.num < 2 ^ 64 → length (node_word n) ≤ 21
word_short n small = omega (arith, length-append (letter_of n.role) (decimal n.num), one_letter n.role, few_digits n.num small)

tick_short : (n : NodeId) → n.num < 2 ^ 64 → length (line_text (line.Event (event.Tick n))) ≤ 8192
tick_short n small = let l = short_line (codes "tick") (node_word n) (word_short n small) in omega (arith, l)

counted : (h : Header) (w : Worlds) (r : Role) → Stands all_kinds h w → count_of all_kinds w r ≡ declared_of h r
counted h w role.Unit s = s.all_units
counted h w role.Layout s = s.all_layouts
counted h w role.Seqr s = s.all_seqrs
counted h w role.Client s = s.all_clients

-- a node that runs is declared
running_below : (h : Header) (w : Worlds) (n : NodeId) → Stands all_kinds h w → runs all_kinds w n ≡ true → nat_lt n.num (declared_of h n.role) ≡ true
running_below h w n s e =
    let below : nat_lt n.num (count_of all_kinds w n.role) ≡ true = and-left (nat_lt n.num (count_of all_kinds w n.role)) (not (has_stopped all_kinds w n)) e in
    ap (λ (k : ℕ). nat_lt n.num k) (sym (counted h w n.role s)) ∙ below

pub tick_is : (h : Header) (w : Worlds) (n : NodeId) → IsHeader h → Stands all_kinds h w → runs all_kinds w n ≡ true → IsLine h (line.Event (event.Tick n))
tick_is h w n header s e =
    let fits = running_below h w n s e in
    let less : n.num < declared_of h n.role = ltb-true n.num (declared_of h n.role) fits in
    let few = counts_small h header n.role in
    record { fits = fits; short = tick_short n (omega (arith, less, few)) }

-- ---- lines of the live run's script

-- they deliver and lose no packet
pub free_comes : (w : Worlds) (x : Line) → is_delivery x ≡ false → MayCome w x
free_comes w (line.Event (event.Command k c)) e = tt
free_comes w (line.Event (event.Deliver i)) e = absurd cc
free_comes w (line.Event (event.Lose i)) e = absurd cc
free_comes w (line.Event (event.Tick n)) e = tt
free_comes w (line.Event (event.Stop n)) e = tt
free_comes w (line.Update k oid op) e = tt
free_comes w line.Drain e = tt
free_comes w line.Settle e = tt
