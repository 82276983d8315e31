-- Each line of a made load keeps the grammar.
use Rattle.std.proofs.Common.{◌≡◌, ℕ, zero, suc, ◌+◌, ◌*◌, ◌<◌, ◌≤◌, ◌^◌, ℤ, pos, Bool, true, false, ◌&&◌, ltb, leb, List, [], ◌∷◌, ◌++◌, length, Option, Some, None, refl, sym, ap, ◌∙◌, subst, arith, codes}
use Rattle.std.specs.Prelude.{◌%◌, ◌==◌, ◌/◌, slice_get, if◌then◌else◌}
use Rattle.std.specs.Fmt.{decimal}
use Rattle.std.proofs.lemmas.Bool.{lt-ltb, leb-true}
use Rattle.std.proofs.lemmas.Fmt.{length-decimal-le}
use Rattle.std.proofs.lemmas.List.{length-append}
use Rattle.tg_base.specs.Clusters.{Header, IsHeader}
use Rattle.tg_base.specs.declared.ids.Oid.{Oid}
use Rattle.tg_base.specs.declared.ids.Role.TheVariants as role
use Rattle.tg_kind.specs.Parts.{tag_of}
use Rattle.tg_codec.specs.Codec.{fit_many}
use Rattle.tg_codec.proofs.Laws.{both}
use Rattle.tg_model.specs.declared.command.Command.{Command}
use Rattle.tg_model.specs.declared.command.Command.TheVariants as cmd
use Rattle.tg_model.specs.declared.command.Event.TheVariants as event
use Rattle.tg_any.specs.declared.any.AnyOp.{AnyOp}
use Rattle.tg_any.specs.declared.any.AnyAsk.{AnyAsk}
use Rattle.tg_any.specs.Names.{kind_name, object_word}
use Rattle.tg_any.specs.Words.{object, joined}
use Rattle.tg_any.specs.AnyWords.{op_words, ask_words}
use Rattle.tg_script.specs.declared.line.Line.{Line}
use Rattle.tg_script.specs.declared.line.Line.TheVariants as line
use Rattle.tg_script.specs.Nodes.{member_word}
use Rattle.tg_script.specs.Commands.{first, put_op, any_ask, command_words, command_fits}
use Rattle.tg_script.specs.Lines.{line_words, line_fits}
use Rattle.tg_gen.specs.declared.round.Form.{Form}
use Rattle.tg_gen.specs.declared.round.Form.TheVariants as form
use Rattle.tg_gen.specs.declared.round.Target.{Target}
use Rattle.tg_gen.specs.declared.round.Target.TheVariants as target
use Rattle.tg_gen.specs.declared.round.Round.{Round}
use Rattle.tg_gen.specs.Draws.{drawn, round_of}
use Rattle.tg_gen.specs.Loads.{oid_of, op_of, ask_of, after, given, host, begin, put, ask, end, update, other, rival_lines, form_lines, reconf, middle_lines, turn_lines, rounds, hosts, hosting, header, load_lines}

-- what holds of each number below 8
by_digit : (P : ℕ → Type 0) → P 0 → P 1 → P 2 → P 3 → P 4 → P 5 → P 6 → P 7 → (v : ℕ) → v < 8 → P v
by_digit P a b c d e f g h zero l = a
by_digit P a b c d e f g h (suc zero) l = b
by_digit P a b c d e f g h (suc (suc zero)) l = c
by_digit P a b c d e f g h (suc (suc (suc zero))) l = d
by_digit P a b c d e f g h (suc (suc (suc (suc zero)))) l = e
by_digit P a b c d e f g h (suc (suc (suc (suc (suc zero))))) l = f
by_digit P a b c d e f g h (suc (suc (suc (suc (suc (suc zero)))))) l = g
by_digit P a b c d e f g h (suc (suc (suc (suc (suc (suc (suc zero))))))) l = h
by_digit P a b c d e f g h (suc (suc (suc (suc (suc (suc (suc (suc n)))))))) l = absurd (omega (arith, l))

-- Fields are within their types.

put_fits : (t : Target) (v : ℕ) → v < 8 → (first object put_op).fits (oid_of t, op_of t v) ≡ true
unfolding fit_many
put_fits target.Counter = by_digit (λ v. (first object put_op).fits (oid_of target.Counter, op_of target.Counter v) ≡ true) refl refl refl refl refl refl refl refl
put_fits target.Register = by_digit (λ v. (first object put_op).fits (oid_of target.Register, op_of target.Register v) ≡ true) refl refl refl refl refl refl refl refl
put_fits target.Map = by_digit (λ v. (first object put_op).fits (oid_of target.Map, op_of target.Map v) ≡ true) refl refl refl refl refl refl refl refl
put_fits target.List = by_digit (λ v. (first object put_op).fits (oid_of target.List, op_of target.List v) ≡ true) refl refl refl refl refl refl refl refl
put_fits target.Tree = by_digit (λ v. (first object put_op).fits (oid_of target.Tree, op_of target.Tree v) ≡ true) refl refl refl refl refl refl refl refl
put_fits target.Set = by_digit (λ v. (first object put_op).fits (oid_of target.Set, op_of target.Set v) ≡ true) refl refl refl refl refl refl refl refl

ask_fit : (t : Target) (v : ℕ) → v < 8 → (first object any_ask).fits (oid_of t, ask_of t v) ≡ true
unfolding fit_many
ask_fit target.Counter v small = refl
ask_fit target.Register v small = refl
ask_fit target.Map v small = by_digit (λ v. (first object any_ask).fits (oid_of target.Map, ask_of target.Map v) ≡ true) refl refl refl refl refl refl refl refl v small
ask_fit target.List v small = refl
ask_fit target.Tree v small = refl
ask_fit target.Set v small = by_digit (λ v. (first object any_ask).fits (oid_of target.Set, ask_of target.Set v) ≡ true) refl refl refl refl refl refl refl refl v small

host_fits : (t : Target) → object.fits (oid_of t) ≡ true
host_fits target.Counter = refl
host_fits target.Register = refl
host_fits target.Map = refl
host_fits target.List = refl
host_fits target.Tree = refl
host_fits target.Set = refl

-- Lines are short.

-- a line of these words has at most n bytes
abbrev Short : ℕ → List (List ℕ) → Type 0
Short n words = length (joined words) ≤ n

more : (a b : ℕ) (w : List ℕ) (words : List (List ℕ)) → length w ≤ a → Short b words → Short (a + suc b) (w ∷ words)
more a b w [] e f = omega (arith, e)
more a b w (v ∷ words) e f =
    let len : length (w ++ 32 ∷ joined (v ∷ words)) ≡ length w + suc (length (joined (v ∷ words))) = length-append w (32 ∷ joined (v ∷ words)) in
    omega (arith, len, e, f)

digit_short : (v : ℕ) → v < 10 → length (decimal v) ≤ 1
digit_short v small = length-decimal-le 1 v (omega arith) (omega (arith, small)) (omega (arith, small))

object_short : (o : Oid) → length (kind_name (tag_of o)) ≤ 4 → length (object_word o) ≤ 12
object_short o name =
    let small : o.0 % 2 ^ 24 < 10 ^ 8 = omega arith in
    let short : length (decimal (o.0 % 2 ^ 24)) ≤ 8 = length-decimal-le 8 (o.0 % 2 ^ 24) (omega arith) small (omega (arith, small)) in
    let len : length (object_word o) ≡ length (kind_name (tag_of o)) + length (decimal (o.0 % 2 ^ 24)) = length-append (kind_name (tag_of o)) (decimal (o.0 % 2 ^ 24)) in
    omega (arith, len, name, short)

target_short : (t : Target) → length (object_word (oid_of t)) ≤ 12
target_short target.Counter = object_short (oid_of target.Counter) (leb-true _ _ refl)
target_short target.Register = object_short (oid_of target.Register) (leb-true _ _ refl)
target_short target.Map = object_short (oid_of target.Map) (leb-true _ _ refl)
target_short target.List = object_short (oid_of target.List) (leb-true _ _ refl)
target_short target.Tree = object_short (oid_of target.Tree) (leb-true _ _ refl)
target_short target.Set = object_short (oid_of target.Set) (leb-true _ _ refl)

one_more : (w : List ℕ) → length w ≤ 12 → Short 51 (w ∷ [])
one_more w e = let h = more 12 12 w [] e (omega arith) in omega (arith, h)

two_more : (w v : List ℕ) → length w ≤ 12 → length v ≤ 12 → Short 51 (w ∷ v ∷ [])
two_more w v e f = let h = more 12 25 w (v ∷ []) e (more 12 12 v [] f (omega arith)) in omega (arith, h)

three_more : (w v u : List ℕ) → length w ≤ 12 → length v ≤ 12 → length u ≤ 12 → Short 51 (w ∷ v ∷ u ∷ [])
three_more w v u e f g = more 12 38 w (v ∷ u ∷ []) e (more 12 25 v (u ∷ []) f (more 12 12 u [] g (omega arith)))

longer : (words : List (List ℕ)) → Short 51 words → Short 77 words
longer words e = omega (arith, e)

op_short : (t : Target) (v : ℕ) → v < 8 → Short 51 (op_words (op_of t v))
op_short target.Counter v small = two_more (codes "add") (decimal v) (leb-true _ _ refl) (let h = digit_short v (omega (arith, small)) in omega (arith, h))
op_short target.Register v small = two_more (codes "write") (116 ∷ (48 + v) ∷ []) (leb-true _ _ refl) (leb-true _ _ refl)
op_short target.Map v small = three_more (codes "set") (107 ∷ (48 + v) ∷ []) (116 ∷ (48 + v) ∷ []) (leb-true _ _ refl) (leb-true _ _ refl) (leb-true _ _ refl)
op_short target.List v small = two_more (codes "push_back") (116 ∷ (48 + v) ∷ []) (leb-true _ _ refl) (leb-true _ _ refl)
op_short target.Tree v small = three_more (codes "create") (47 ∷ 116 ∷ (48 + v) ∷ []) (116 ∷ (48 + v) ∷ []) (leb-true _ _ refl) (leb-true _ _ refl) (leb-true _ _ refl)
op_short target.Set v small = two_more (codes "include") (decimal v) (leb-true _ _ refl) (let h = digit_short v (omega (arith, small)) in omega (arith, h))

ask_short : (t : Target) (v : ℕ) → v < 8 → Short 51 (ask_words (ask_of t v))
ask_short target.Counter v small = one_more (codes "value") (leb-true _ _ refl)
ask_short target.Register v small = one_more (codes "text") (leb-true _ _ refl)
ask_short target.Map v small = two_more (codes "get") (107 ∷ (48 + v) ∷ []) (leb-true _ _ refl) (leb-true _ _ refl)
ask_short target.List v small = one_more (codes "len") (leb-true _ _ refl)
ask_short target.Tree v small = two_more (codes "children") (codes "/") (leb-true _ _ refl) (leb-true _ _ refl)
ask_short target.Set v small = two_more (codes "member") (decimal v) (leb-true _ _ refl) (let h = digit_short v (omega (arith, small)) in omega (arith, h))

-- a verb, an object and other words
object_words_short : (verb : List ℕ) (t : Target) (words : List (List ℕ)) → length verb ≤ 12 → Short 51 words → Short 77 (verb ∷ object_word (oid_of t) ∷ words)
object_words_short verb t words e f = more 12 64 verb (object_word (oid_of t) ∷ words) e (more 12 51 (object_word (oid_of t)) words (target_short t) f)

member_short : (c : ℕ) → c < 4 → length (member_word role.Client c) ≤ 12
member_short c few =
    let h = digit_short c (omega (arith, few)) in
    let len : length (member_word role.Client c) ≡ 1 + length (decimal c) = length-append (codes "c") (decimal c) in
    omega (arith, h, len)

-- Lines.

-- no packet is delivered or lost by it
abbrev pub IsQuiet : Line → Type 0
IsQuiet (line.Event (event.Deliver i)) = ⊥
IsQuiet (line.Event (event.Lose i)) = ⊥
IsQuiet l = Unit {0}

pub record IsFine (l : Line) : Type 0 where
  pub fits : line_fits header l ≡ true
  pub short : length (joined (line_words l)) ≤ 8192
  pub quiet : IsQuiet l

fine_given : (c : ℕ) → c < 4 → (x : Command AnyOp AnyAsk) → command_fits header x ≡ true → Short 77 (command_words x) → IsFine (given c x)
unfolding header
fine_given c few x fits short = record {
  fits = both _ _ (lt-ltb c 4 few) fits;
  short = let h = more 12 77 (member_word role.Client c) (command_words x) (member_short c few) short in omega (arith, h);
  quiet = tt;
}

fine_host : (c : ℕ) → c < 4 → (t : Target) → IsFine (host c t)
fine_host c few t = fine_given c few (cmd.Host (oid_of t)) (host_fits t) (longer (codes "host" ∷ object_word (oid_of t) ∷ []) (two_more (codes "host") (object_word (oid_of t)) (leb-true _ _ refl) (target_short t)))

fine_begin : (c : ℕ) → c < 4 → IsFine (begin c)
fine_begin c few = fine_given c few cmd.Begin refl (longer (codes "begin" ∷ []) (one_more (codes "begin") (leb-true _ _ refl)))

fine_end : (c : ℕ) → c < 4 → IsFine (end c)
fine_end c few = fine_given c few cmd.End refl (longer (codes "end" ∷ []) (one_more (codes "end") (leb-true _ _ refl)))

fine_put : (c : ℕ) → c < 4 → (t : Target) (v : ℕ) → v < 8 → IsFine (put c t v)
fine_put c few t v small = fine_given c few (cmd.Put (oid_of t) (op_of t v)) (put_fits t v small) (object_words_short (codes "put") t (op_words (op_of t v)) (leb-true _ _ refl) (op_short t v small))

fine_ask : (c : ℕ) → c < 4 → (t : Target) (v : ℕ) → v < 8 → IsFine (ask c t v)
fine_ask c few t v small = fine_given c few (cmd.Ask (oid_of t) (ask_of t v)) (ask_fit t v small) (object_words_short (codes "ask") t (ask_words (ask_of t v)) (leb-true _ _ refl) (ask_short t v small))

fine_update : (c : ℕ) → c < 4 → (t : Target) (v : ℕ) → v < 8 → IsFine (update c t v)
unfolding header
fine_update c few t v small = record {
  fits = both _ _ (lt-ltb c 4 few) (put_fits t v small);
  short =
      let h = more 12 77 (member_word role.Client c) (codes "update" ∷ object_word (oid_of t) ∷ op_words (op_of t v)) (member_short c few)
      (object_words_short (codes "update") t (op_words (op_of t v)) (leb-true _ _ refl) (op_short t v small)) in
      omega (arith, h);
  quiet = tt;
}

fine_settle : IsFine line.Settle
fine_settle = record { fits = refl; short = leb-true _ _ refl; quiet = tt }

fine_reconf : IsFine reconf
unfolding header
fine_reconf = record {
  fits = refl;
  short =
      let digit = digit_short 1 (omega arith) in
      let client = member_short 0 (omega arith) in
      let seq : length (codes "s" ++ decimal 1) ≤ 12 = omega (arith, digit, length-append (codes "s") (decimal 1)) in
      let unit : length (codes "u" ++ decimal 1) ≤ 12 = omega (arith, digit, length-append (codes "u") (decimal 1)) in
      let h = more 12 51 (codes "reconf") ((codes "s" ++ decimal 1) ∷ codes "drop" ∷ (codes "u" ++ decimal 1) ∷ []) (leb-true _ _ refl)
      (three_more (codes "s" ++ decimal 1) (codes "drop") (codes "u" ++ decimal 1) seq (leb-true _ _ refl) unit) in
      let whole = more 12 64 (member_word role.Client 0) (codes "reconf" ∷ (codes "s" ++ decimal 1) ∷ codes "drop" ∷ (codes "u" ++ decimal 1) ∷ []) client h in
      omega (arith, whole);
  quiet = tt;
}

-- All lines.

abbrev pub AllFine : List Line → Type 0
AllFine [] = Unit {0}
AllFine (l ∷ ls) = IsFine l × AllFine ls

all_both : (xs ys : List Line) → AllFine xs → AllFine ys → AllFine (xs ++ ys)
all_both [] ys e f = f
all_both (x ∷ xs) ys e f = (e.0, all_both xs ys e.1 f)

all_if : (b : Bool) (xs : List Line) → AllFine xs → AllFine (if b then xs else [])
all_if true xs e = e
all_if false xs e = tt

pub each_fine : (ls : List Line) → AllFine ls → (k : ℕ) (l : Line) → slice_get ls k ≡ Some l → IsFine l
each_fine [] e k l f = absurd cc
each_fine (x ∷ xs) e zero l f = let same : x ≡ l = cc in subst IsFine same e.0
each_fine (x ∷ xs) e (suc k) l f = each_fine xs e.1 k l f

fine_rival : (t : Target) (v : ℕ) → v < 8 → AllFine (rival_lines t v)
fine_rival t v small = all_if (v % 2 == 0) (update other t v ∷ []) (fine_update other (omega arith) t v small, tt)

fine_form : (c : ℕ) → c < 4 → (f : Form) (t : Target) (v : ℕ) → v < 8 → AllFine (form_lines c f t v)
fine_form c few form.Change t v small =
    all_both (begin c ∷ ask c t v ∷ line.Settle ∷ [] ++ rival_lines t v) (put c (after t) v ∷ end c ∷ line.Settle ∷ [])
    (all_both (begin c ∷ ask c t v ∷ line.Settle ∷ []) (rival_lines t v) (fine_begin c few, (fine_ask c few t v small, (fine_settle, tt))) (fine_rival t v small))
    (fine_put c few (after t) v small, (fine_end c few, (fine_settle, tt)))
fine_form c few form.Glance t v small =
    (fine_begin other (omega arith), (fine_ask other (omega arith) target.Counter v small, (fine_settle, (fine_end other (omega arith), tt))))
fine_form c few form.Look t v small = (fine_begin c few, (fine_ask c few t v small, (fine_settle, (fine_end c few, tt))))
fine_form c few form.Update t v small = (fine_update c few t v small, (fine_settle, tt))

digit_of : (start i : ℕ) → (round_of start i).value < 8
digit_of start i = omega arith

fine_turn : (count i : ℕ) (r : Round) → r.value < 8 → AllFine (turn_lines count i r)
fine_turn count i r small =
    let few : i % 3 < 4 = omega arith in
    all_both (middle_lines count i) _ (all_if (i == count / 2) (reconf ∷ line.Settle ∷ []) (fine_reconf, (fine_settle, tt))) (fine_form (i % 3) few r.form r.target r.value small)

fine_rounds : (start count n : ℕ) → AllFine (rounds start count n)
unfolding rounds
fine_rounds start count zero = tt
fine_rounds start count (suc i) = all_both (rounds start count i) (turn_lines count i (round_of start i)) (fine_rounds start count i) (fine_turn count i (round_of start i) (digit_of start i))

fine_hosts : (c : ℕ) → c < 4 → AllFine (hosts c)
fine_hosts c few = (
  fine_host c few target.Counter,
  (fine_host c few target.Register, (fine_host c few target.Map, (fine_host c few target.List, (fine_host c few target.Tree, (fine_host c few target.Set, tt))))),
)

fine_hosting : AllFine hosting
fine_hosting =
    let last : AllFine (host other target.Counter ∷ []) = (fine_host other (omega arith) target.Counter, tt) in
    all_both (hosts 0) (hosts 1 ++ (hosts 2 ++ host other target.Counter ∷ [])) (fine_hosts 0 (omega arith))
    (all_both (hosts 1) (hosts 2 ++ host other target.Counter ∷ []) (fine_hosts 1 (omega arith))
    (all_both (hosts 2) (host other target.Counter ∷ []) (fine_hosts 2 (omega arith)) last))

pub fine_load : (start count : ℕ) → AllFine (load_lines start count)
fine_load start count = all_both hosting (rounds start count count) fine_hosting (fine_rounds start count count)

pub header_lawful : IsHeader header
unfolding header
header_lawful = refl
