-- What is read of the lines of events is what they spell, and nothing else.
use Rattle.std.proofs.Common.{◌≡◌, ℕ, ◌<◌, ◌≤◌, ◌^◌, Bool, true, false, ◌&&◌, cond, leb, List, [], ◌∷◌, ◌++◌, length, Option, Some, None, sym, refl, subst, ap, ◌∙◌, arith, codes}
use Rattle.std.specs.Prelude.{option_map, option_and_then, IfSome}
use Rattle.std.specs.List.{list_all}
use Rattle.std.specs.Str.{IsAscii}
use Rattle.std.specs.Fmt.{decimal}
use Rattle.std.proofs.lemmas.Bool.{leb-true, le-leb}
use Rattle.std.proofs.lemmas.List.Folds.{list_all-append}
use Rattle.tg_base.specs.declared.ids.Oid.{Oid}
use Rattle.tg_base.specs.declared.ids.NodeId.{NodeId}
use Rattle.tg_base.specs.declared.ids.Role.TheVariants as role
use Rattle.tg_base.specs.declared.change.Join.{Join}
use Rattle.tg_base.specs.Changes.{Changed}
use Rattle.tg_base.specs.Clusters.{Header, IsHeader}
use Rattle.tg_codec.proofs.Laws.{and-left, and-right, both}
use Rattle.tg_model.specs.declared.command.Command.{Command}
use Rattle.tg_model.specs.declared.command.Command.TheVariants as cmd
use Rattle.tg_model.specs.declared.command.Event.TheVariants as event
use Rattle.tg_any.specs.declared.any.AnyOp.{AnyOp}
use Rattle.tg_any.specs.declared.any.AnyAsk.{AnyAsk}
use Rattle.tg_any.specs.Words.{Word, Phrase, number, object, nothing, one, two, joined}
use Rattle.tg_any.specs.AnyWords.{op_words, ask_words}
use Rattle.tg_any.proofs.Fronts.{bind_again, if_takes, if_again}
use Rattle.tg_any.proofs.Numbers.{bind_takes, map_takes}
use Rattle.tg_any.proofs.Words.{IsWord, IsPhrase, number_law, object_law, nothing_law, one_law, verb_takes, made_again}
use Rattle.tg_script.specs.Parts.{words_of}
use Rattle.tg_script.specs.Nodes.{member_word, node_word, units_word, chains_word, count_of, numbered, node, distinct_units, chains}
use Rattle.tg_script.specs.Commands.{first, put_op, any_ask, mark, place, part_words, part_fits, join_words, join_fits, change_words, change_fits, command_words, command_fits, command_read}
use Rattle.tg_script.specs.declared.line.Line.{Line}
use Rattle.tg_script.specs.declared.line.Line.TheVariants as line
use Rattle.tg_script.specs.Lines.{line_words, line_fits, event_of, update_read, given_of, line_read, short_read, script_line, IsLine}
use Rattle.tg_script.specs.Headers.{sizes_of}
use Rattle.tg_script.proofs.Bytes.{is_graphic, Passes}
use Rattle.tg_script.proofs.Headers.{object_graphic, sizes_small}
use Rattle.tg_script.proofs.Clusters.{header_sizes}
use Rattle.tg_script.proofs.NodeWords.{AreCounts, numbered_law, node_law, numbered_graphic, node_graphic, distinct_units_graphic, chains_graphic, first_other, or_first, or_second}
use Rattle.tg_script.proofs.Lines.{IsPlain, line_takes, line_again, line_none}
use Rattle.tg_script.proofs.Graphics.{IsGraphic, AreGraphic, none, word_and, plain, one_word, number_graphic, op_graphic, ask_graphic}
use Rattle.tg_script.proofs.Commands.{command_takes, command_spelled, put_law}

-- a header declares few nodes
pub counts_small : (h : Header) → IsHeader h → AreCounts h
counts_small h e role.Unit = let small = (sizes_small (sizes_of h) (header_sizes h e)).units in omega (arith, small)
counts_small h e role.Layout = let small = (sizes_small (sizes_of h) (header_sizes h e)).layouts in omega (arith, small)
counts_small h e role.Seqr = let small = (sizes_small (sizes_of h) (header_sizes h e)).seqs in omega (arith, small)
counts_small h e role.Client = let small = (sizes_small (sizes_of h) (header_sizes h e)).clients in omega (arith, small)

-- What is read.

abbrev IsLined : Header → List (List ℕ) → Line → Type 0
IsLined h words l = (words ≡ line_words l) × (line_fits h l ≡ true)

same_cons : (w v : List ℕ) (ws vs : List (List ℕ)) → w ≡ v → ws ≡ vs → w ∷ ws ≡ v ∷ vs
same_cons w v ws vs e f = rw (e, f) refl

update_takes : (h : Header) (k : ℕ) (w : List ℕ) (words : List (List ℕ)) (y : Line) → w ≡ member_word role.Client k → (numbered h role.Client).fits k ≡ true → update_read k words ≡ Some y → IsLined h (w ∷ words) y
update_takes h k w [] y is declared e = absurd cc
update_takes h k w (v ∷ fields) y is declared e =
    verb_takes (codes "update") (first object put_op) put_law (λ (p : Oid × AnyOp). line.Update k p.0 p.1) v fields None y
    (IsLined h (w ∷ v ∷ fields)) e (λ x fits f. (same_cons _ _ _ _ is f, both _ _ declared fits)) (λ e. absurd cc)

given_takes : (h : Header) → AreCounts h → (k : ℕ) (w : List ℕ) (words : List (List ℕ)) (y : Line) → w ≡ member_word role.Client k → (numbered h role.Client).fits k ≡ true → given_of h k words ≡ Some y → IsLined h (w ∷ words) y
given_takes h most k w words y is declared e =
    first_other _ _ y (IsLined h (w ∷ words) y) e
    (λ e. let m = map_takes _ _ _ e in let c = command_takes h most words m.0 m.1 in subst (IsLined h (w ∷ words)) m.2 (same_cons _ _ _ _ is c.0, both _ _ declared c.1))
    (update_takes h k w words y is declared)

client_takes : (h : Header) → AreCounts h → (w : List ℕ) (fields : List (List ℕ)) (y : Line) → option_and_then (λ (k : ℕ). given_of h k fields) ((numbered h role.Client).read w) ≡ Some y → IsLined h (w ∷ fields) y
client_takes h most w fields y e =
    let b = bind_takes _ _ _ e in
    let k = (numbered_law h role.Client (most role.Client)).takes w b.0 b.1 in
    given_takes h most b.0 w fields y k.0 k.1 b.2

line-takes : (h : Header) → AreCounts h → (words : List (List ℕ)) (y : Line) → line_read h words ≡ Some y → IsLined h words y
unfolding line_read
line-takes h most [] y e = absurd cc
line-takes h most (w ∷ fields) y e =
    verb_takes (codes "drain") nothing nothing_law (λ (u : Unit {0}). line.Drain) w fields _ y (IsLined h (w ∷ fields)) e (λ x fits is. (is, refl)) (λ e.
    verb_takes (codes "settle") nothing nothing_law (λ (u : Unit {0}). line.Settle) w fields _ y (IsLined h (w ∷ fields)) e (λ x fits is. (is, refl)) (λ e.
    verb_takes (codes "deliver") (one number) (one_law number number_law) (λ (i : ℕ). line.Event (event.Deliver i)) w fields _ y (IsLined h (w ∷ fields)) e (λ x fits is. (is, fits)) (λ e.
    verb_takes (codes "lose") (one number) (one_law number number_law) (λ (i : ℕ). line.Event (event.Lose i)) w fields _ y (IsLined h (w ∷ fields)) e (λ x fits is. (is, fits)) (λ e.
    verb_takes (codes "tick") (one (node h)) (one_law (node h) (node_law h most)) (λ (n : NodeId). line.Event (event.Tick n)) w fields _ y (IsLined h (w ∷ fields)) e (λ x fits is. (is, fits)) (λ e.
    verb_takes (codes "stop") (one (node h)) (one_law (node h) (node_law h most)) (λ (n : NodeId). line.Event (event.Stop n)) w fields _ y (IsLined h (w ∷ fields)) e (λ x fits is. (is, fits)) (λ e.
    client_takes h most w fields y e))))))

client_again : (h : Header) → AreCounts h → (k : ℕ) (words : List (List ℕ)) (y : Line) → (numbered h role.Client).fits k ≡ true → given_of h k words ≡ Some y
    → option_and_then (λ (k : ℕ). given_of h k words) ((numbered h role.Client).read (member_word role.Client k)) ≡ Some y
client_again h most k words y declared e = bind_again _ _ _ _ ((numbered_law h role.Client (most role.Client)).again k declared) e

-- no command's verb is `update`
no_update : (h : Header) (fields : List (List ℕ)) → command_read h (codes "update" ∷ fields) ≡ None
unfolding command_read
no_update h fields = refl

line-again : (h : Header) → AreCounts h → (l : Line) → line_fits h l ≡ true → line_read h (line_words l) ≡ Some l
unfolding line_read
line-again h most (line.Event (event.Command k c)) e =
    client_again h most k (command_words c) _ (and-left _ _ e) (or_first _ _ _ (ap (option_map (λ (x : Command AnyOp AnyAsk). line.Event (event.Command k x))) (command_spelled h most c (and-right _ _ e))))
line-again h most (line.Event (event.Deliver i)) e = made_again (one number) (one_law number number_law) (λ (i : ℕ). line.Event (event.Deliver i)) i e
line-again h most (line.Event (event.Lose i)) e = made_again (one number) (one_law number number_law) (λ (i : ℕ). line.Event (event.Lose i)) i e
line-again h most (line.Event (event.Tick n)) e = made_again (one (node h)) (one_law (node h) (node_law h most)) (λ (n : NodeId). line.Event (event.Tick n)) n e
line-again h most (line.Event (event.Stop n)) e = made_again (one (node h)) (one_law (node h) (node_law h most)) (λ (n : NodeId). line.Event (event.Stop n)) n e
line-again h most (line.Update k oid op) e =
    client_again h most k (codes "update" ∷ (first object put_op).spell (oid, op)) _ (and-left _ _ e)
    (or_second _ _ _ (ap (option_map (λ (x : Command AnyOp AnyAsk). line.Event (event.Command k x))) (no_update h ((first object put_op).spell (oid, op))))
    (made_again (first object put_op) put_law (λ (p : Oid × AnyOp). line.Update k p.0 p.1) (oid, op) (and-right _ _ e)))
line-again h most line.Drain e = refl
line-again h most line.Settle e = refl

pub line_law : (h : Header) → AreCounts h → IsPhrase (script_line h)
line_law h most = record { takes = line-takes h most; again = line-again h most }

-- Each byte of a line's words is graphic.

append_graphic : (a b : List (List ℕ)) → AreGraphic a → AreGraphic b → AreGraphic (a ++ b)
append_graphic a b e f = record { all = list_all-append (list_all is_graphic) a b ∙ both _ _ e.all f.all }

part_graphic : {A : Type 0} (name : List ℕ) (word : Word (List A)) → IsGraphic name → Passes is_graphic word → (xs : List A) → part_fits word xs ≡ true → AreGraphic (part_words name word.spell xs)
part_graphic name word named item [] e = none
part_graphic name word named item (x ∷ xs) e = word_and named (one_word (plain (item (x ∷ xs) e)))

place_graphic : (h : Header) → AreCounts h → (j : Join) → (place h).fits j ≡ true → AreGraphic ((place h).spell j)
place_graphic h most j e =
    word_and (plain (numbered_graphic h role.Unit (most role.Unit) j.unit (and-left _ _ (and-left _ _ e))))
    (word_and (plain (number_graphic j.range (and-right _ _ (and-left _ _ e)))) (one_word (plain (number_graphic j.stripe (and-right _ _ e)))))

join_graphic : (h : Header) → AreCounts h → (j : Option Join) → join_fits h j ≡ true → AreGraphic (join_words j)
join_graphic h most None e = none
join_graphic h most (Some j) e = word_and (plain refl) (place_graphic h most j e)

change_graphic : (h : Header) → AreCounts h → (c : Changed) → change_fits h c ≡ true → AreGraphic (change_words c)
change_graphic h most c e =
    word_and (plain (numbered_graphic h role.Seqr (most role.Seqr) c.seq (and-left _ _ (and-left _ _ (and-left _ _ e)))))
    (append_graphic _ _ (part_graphic (codes "drop") (distinct_units h.units) (plain refl) (distinct_units_graphic h.units (most role.Unit)) c.drop (and-right _ _ (and-left _ _ (and-left _ _ e))))
    (append_graphic _ _ (part_graphic (codes "open") (chains h.units) (plain refl) (chains_graphic h.units (most role.Unit)) c.opened (and-right _ _ (and-left _ _ e))) (join_graphic h most c.join (and-right _ _ e))))

put_graphic : (oid : Oid) (op : AnyOp) → (first object put_op).fits (oid, op) ≡ true → AreGraphic ((first object put_op).spell (oid, op))
put_graphic oid op e = word_and (plain (object_graphic oid (and-left _ _ e))) (op_graphic op (and-left _ _ (and-right _ _ e)))

asked_graphic : (oid : Oid) (ask : AnyAsk) → (first object any_ask).fits (oid, ask) ≡ true → AreGraphic ((first object any_ask).spell (oid, ask))
asked_graphic oid ask e = word_and (plain (object_graphic oid (and-left _ _ e))) (ask_graphic ask (and-right _ _ e))

number_after : (name : List ℕ) (n : ℕ) → IsGraphic name → number.fits n ≡ true → AreGraphic (name ∷ decimal n ∷ [])
number_after name n named e = word_and named (one_word (plain (number_graphic n e)))

object_after : (name : List ℕ) (oid : Oid) → IsGraphic name → object.fits oid ≡ true → AreGraphic (name ∷ object.spell oid ∷ [])
object_after name oid named e = word_and named (one_word (plain (object_graphic oid e)))

command_graphic : (h : Header) → AreCounts h → (c : Command AnyOp AnyAsk) → command_fits h c ≡ true → AreGraphic (command_words c)
command_graphic h most (cmd.Host oid) e = object_after (codes "host") oid (plain refl) e
command_graphic h most cmd.Begin e = one_word (plain refl)
command_graphic h most (cmd.Put oid op) e = word_and (plain refl) (put_graphic oid op e)
command_graphic h most (cmd.Ask oid ask) e = word_and (plain refl) (asked_graphic oid ask e)
command_graphic h most cmd.End e = one_word (plain refl)
command_graphic h most cmd.Drop e = one_word (plain refl)
command_graphic h most (cmd.Fate at) e = number_after (codes "fate") at (plain refl) e
command_graphic h most (cmd.Decide at) e = number_after (codes "decide") at (plain refl) e
command_graphic h most (cmd.Checkpoint oid) e = object_after (codes "checkpoint") oid (plain refl) e
command_graphic h most (cmd.Forget oid m) e =
    let small : number.fits m ≡ true = and-left _ _ (and-right _ _ e) in
    word_and (plain refl) (word_and (plain (object_graphic oid (and-left _ _ e))) (one_word (plain (number_graphic m small))))
command_graphic h most cmd.Trim e = one_word (plain refl)
command_graphic h most (cmd.Reconf c) e = word_and (plain refl) (change_graphic h most c e)
command_graphic h most (cmd.Copy unit range stripe) e = word_and (plain refl) (place_graphic h most (record { unit = unit; range = range; stripe = stripe }) e)
command_graphic h most (cmd.AskAt at oid ask) e = word_and (plain refl) (word_and (plain (number_graphic at (and-left _ _ e))) (asked_graphic oid ask (and-right _ _ e)))
command_graphic h most (cmd.Rescue at) e = number_after (codes "rescue") at (plain refl) e

-- a command has a verb
pub command_some : (c : Command AnyOp AnyAsk) → command_words c ≡ [] → ⊥
command_some (cmd.Host oid) e = absurd cc
command_some cmd.Begin e = absurd cc
command_some (cmd.Put oid op) e = absurd cc
command_some (cmd.Ask oid ask) e = absurd cc
command_some cmd.End e = absurd cc
command_some cmd.Drop e = absurd cc
command_some (cmd.Fate at) e = absurd cc
command_some (cmd.Decide at) e = absurd cc
command_some (cmd.Checkpoint oid) e = absurd cc
command_some (cmd.Forget oid m) e = absurd cc
command_some cmd.Trim e = absurd cc
command_some (cmd.Reconf c) e = absurd cc
command_some (cmd.Copy unit range stripe) e = absurd cc
command_some (cmd.AskAt at oid ask) e = absurd cc
command_some (cmd.Rescue at) e = absurd cc

client_graphic : (h : Header) → AreCounts h → (k : ℕ) → (numbered h role.Client).fits k ≡ true → IsGraphic (member_word role.Client k)
client_graphic h most k e = plain (numbered_graphic h role.Client (most role.Client) k e)

line-graphic : (h : Header) → AreCounts h → (l : Line) → line_fits h l ≡ true → AreGraphic (line_words l)
line-graphic h most (line.Event (event.Command k c)) e = word_and (client_graphic h most k (and-left _ _ e)) (command_graphic h most c (and-right _ _ e))
line-graphic h most (line.Event (event.Deliver i)) e = number_after (codes "deliver") i (plain refl) e
line-graphic h most (line.Event (event.Lose i)) e = number_after (codes "lose") i (plain refl) e
line-graphic h most (line.Event (event.Tick n)) e = word_and (plain refl) (one_word (plain (node_graphic h most n e)))
line-graphic h most (line.Event (event.Stop n)) e = word_and (plain refl) (one_word (plain (node_graphic h most n e)))
line-graphic h most (line.Update k oid op) e = word_and (client_graphic h most k (and-left _ _ e)) (word_and (plain refl) (put_graphic oid op (and-right _ _ e)))
line-graphic h most line.Drain e = one_word (plain refl)
line-graphic h most line.Settle e = one_word (plain refl)

line-some : (l : Line) → line_words l ≡ [] → ⊥
line-some (line.Event (event.Command k c)) e = absurd cc
line-some (line.Event (event.Deliver i)) e = absurd cc
line-some (line.Event (event.Lose i)) e = absurd cc
line-some (line.Event (event.Tick n)) e = absurd cc
line-some (line.Event (event.Stop n)) e = absurd cc
line-some (line.Update k oid op) e = absurd cc
line-some line.Drain e = absurd cc
line-some line.Settle e = absurd cc

pub line_plain : (h : Header) → AreCounts h → IsPlain (script_line h)
line_plain h most = record { some = λ l e none. line-some l none; graphic = λ l e. (line-graphic h most l e).all }

-- A text that is read is a line, and each line is read.

pub line_found : (h : Header) → IsHeader h → (text : List ℕ) (l : Line) → short_read h text ≡ Some l → IsLine h text l
line_found h lawful text l e =
    let d = if_takes (leb (length text) 8192) _ l e in
    let t = line_takes (script_line h) (line_law h (counts_small h lawful)) text l d.1 in
    record { spelled = t.0; fits = t.1; short = leb-true _ _ d.0 }

pub line_only : (h : Header) → IsHeader h → (text : List ℕ) (l : Line) → IsLine h text l → short_read h text ≡ Some l
line_only h lawful text l is =
    if_again (leb (length text) 8192) _ l (le-leb _ _ is.short)
    (ap (λ (text : List ℕ). line_read h (words_of text)) is.spelled ∙ line_again (script_line h) (line_law h (counts_small h lawful)) (line_plain h (counts_small h lawful)) l is.fits)

pub line_ascii_only : (h : Header) → IsHeader h → (text : List ℕ) → (IsAscii text → ⊥) → line_read h (words_of text) ≡ None
line_ascii_only h lawful text other = line_none (script_line h) (line_law h (counts_small h lawful)) (line_plain h (counts_small h lawful)) text other
