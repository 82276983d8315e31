-- What is read of the words of commands is what they spell, and nothing else.
use Rattle.std.proofs.Common.{◌≡◌, ℕ, ◌<◌, ◌≤◌, ◌^◌, Bool, true, false, ◌&&◌, cond, leb, eqb, List, [], ◌∷◌, ◌++◌, length, Option, Some, None, sym, refl, subst, ap, ◌∙◌, arith, codes}
use Rattle.std.specs.Prelude.{option_map, option_and_then, IfSome, IfOk, Result, Ok, Err}
use Rattle.std.specs.Str.{bytes_eq}
use Rattle.std.proofs.lemmas.Slice.Eq.{bytes_eq-Decides}
use Rattle.tg_base.specs.declared.ids.Oid.{Oid}
use Rattle.tg_base.specs.declared.ids.Role.TheVariants as role
use Rattle.tg_base.specs.declared.change.Join.{Join}
use Rattle.tg_base.specs.Changes.{Changed}
use Rattle.tg_base.specs.Clusters.{Header}
use Rattle.tg_codec.proofs.Laws.{and-left, and-right, both}
use Rattle.tg_model.specs.declared.command.Command.{Command}
use Rattle.tg_model.specs.declared.command.Command.TheVariants as cmd
use Rattle.tg_any.specs.declared.any.AnyOp.{AnyOp}
use Rattle.tg_any.specs.declared.any.AnyAsk.{AnyAsk}
use Rattle.tg_any.specs.AnyWords.{op_words, op_fits, op_read, ask_words, ask_fits, ask_read}
use Rattle.tg_any.specs.Words.{Word, Phrase, number, object, nothing, one, two}
use Rattle.tg_any.proofs.AnyForms.{op_takes, op_again, ask_takes, ask_again}
use Rattle.tg_any.proofs.Fronts.{some_is, bind_again, if_again}
use Rattle.tg_any.proofs.Numbers.{map_takes, bind_takes, when_takes}
use Rattle.tg_any.proofs.Words.{IsWord, IsPhrase, number_law, object_law, nothing_law, one_law, two_law, verb_takes, made_again, none_of}
use Rattle.tg_script.specs.Nodes.{member_word, units_word, chains_word, numbered, distinct_units, chains}
use Rattle.tg_script.specs.Commands.{is_put, put_read, put_op, any_ask, first_read, first, mark, part_words, part_fits, part_at, part_read, join_at, place, join_words, join_fits, join_read, change_words, change_fits, joined_change, opened_change, dropped_change, change_read, change, command_words, command_fits, transaction_read, record_read, object_read, layout_read, command_read}
use Rattle.tg_script.proofs.Parts.{narrowed_law}
use Rattle.tg_script.proofs.NodeWords.{AreCounts, numbered_law, distinct_units_law, chains_law, first_other, or_first, or_second}

-- Phrases.

pub put_op_law : IsPhrase put_op
put_op_law = record {
  takes = λ words op e.
      let b = bind_takes _ _ _ e in
      let d = when_takes _ _ _ b.2 in
      let h = op_takes words b.0 b.1 in
      subst (λ (op : AnyOp). (words ≡ put_op.spell op) × (put_op.fits op ≡ true)) d.1 (h.0, both _ _ h.1 d.0);
  again = λ op e. bind_again _ _ _ _ (op_again _ op (and-left _ _ e) refl) (if_again _ _ _ (and-right _ _ e) refl);
}

pub any_ask_law : IsPhrase any_ask
any_ask_law = record { takes = ask_takes; again = λ ask e. ask_again _ ask e refl }

same_cons : (w v : List ℕ) (ws vs : List (List ℕ)) → w ≡ v → ws ≡ vs → w ∷ ws ≡ v ∷ vs
same_cons w v ws vs e f = rw (e, f) refl

first-takes : {A B : Type 0} (a : Word A) (b : Phrase B) → IsWord a → IsPhrase b → (words : List (List ℕ)) (p : A × B) → first_read a b words ≡ Some p → (words ≡ a.spell p.0 ∷ b.spell p.1) × ((a.fits p.0 && b.fits p.1) ≡ true)
first-takes a b law more [] p e = absurd cc
first-takes {A} {B} a b law more (w ∷ words) p e =
    let f = bind_takes _ _ _ e in
    let g = bind_takes _ _ _ f.2 in
    let h = law.takes w f.0 f.1 in
    let k = more.takes words g.0 g.1 in
    let is : (f.0, g.0) ≡ p = some_is _ _ g.2 in
    subst (λ (p : A × B). (w ∷ words ≡ a.spell p.0 ∷ b.spell p.1) × ((a.fits p.0 && b.fits p.1) ≡ true)) is (same_cons _ _ _ _ h.0 k.0, both _ _ h.1 k.1)

pub first_law : {A B : Type 0} (a : Word A) (b : Phrase B) → IsWord a → IsPhrase b → IsPhrase (first a b)
first_law a b law more = record {
  takes = first-takes a b law more;
  again = λ p e. bind_again _ _ _ _ (law.again p.0 (and-left _ _ e)) (bind_again _ _ _ _ (more.again p.1 (and-right _ _ e)) refl);
}

mark_law : IsWord mark
mark_law = narrowed_law (λ (n : ℕ). leb 1 n) number number_law

forget_law : IsPhrase (two object mark)
forget_law = two_law object mark object_law mark_law

pub put_law : IsPhrase (first object put_op)
put_law = first_law object put_op object_law put_op_law

ask_law : IsPhrase (first object any_ask)
ask_law = first_law object any_ask object_law any_ask_law

ask_at_law : IsPhrase (first number (first object any_ask))
ask_at_law = first_law number (first object any_ask) number_law ask_law

triple_law : (h : Header) → AreCounts h → IsPhrase (first (numbered h role.Unit) (two number number))
triple_law h most = first_law (numbered h role.Unit) (two number number) (numbered_law h role.Unit (most role.Unit)) (two_law number number number_law number_law)

left_first : (a b c : Bool) → (a && (b && c)) ≡ true → ((a && b) && c) ≡ true
left_first a b c e = both (a && b) c (both a b (and-left a (b && c) e) (and-left b c (and-right a (b && c) e))) (and-right b c (and-right a (b && c) e))

right_first : (a b c : Bool) → ((a && b) && c) ≡ true → (a && (b && c)) ≡ true
right_first a b c e = both a (b && c) (and-left a b (and-left (a && b) c e)) (both b c (and-right a b (and-left (a && b) c e)) (and-right (a && b) c e))

pub place_law : (h : Header) → AreCounts h → IsPhrase (place h)
place_law h most = record {
  takes = λ words j e.
      let m = map_takes join_at _ j e in
      let t = (triple_law h most).takes words m.0 m.1 in
      subst (λ (j : Join). (words ≡ (place h).spell j) × ((place h).fits j ≡ true)) m.2
      (t.0, left_first ((numbered h role.Unit).fits m.0.0) (number.fits m.0.1.0) (number.fits m.0.1.1) t.1);
  again = λ j e.
      ap (option_map join_at) ((triple_law h most).again (j.unit, (j.range, j.stripe)) (right_first ((numbered h role.Unit).fits j.unit) (number.fits j.range) (number.fits j.stripe) e));
}

-- Changes.

text_is : (a b : List ℕ) → bytes_eq a b ≡ true → a ≡ b
text_is a b e = (bytes_eq-Decides a b).0 e

abbrev IsPart : {A : Type 0} → List ℕ → Word (List A) → List (List ℕ) → List (List ℕ) → List A → Type 0
IsPart name word words rest xs = (words ≡ part_words name word.spell xs ++ rest) × (part_fits word xs ≡ true)

some_part : {A : Type 0} (name : List ℕ) (word : Word (List A)) → word.fits [] ≡ false → (w v : List ℕ) (rest : List (List ℕ)) (xs : List A) → w ≡ name → v ≡ word.spell xs → word.fits xs ≡ true → IsPart name word (w ∷ v ∷ rest) rest xs
some_part name word none w v rest [] e f fits = absurd cc
some_part name word none w v rest (x ∷ xs) e f fits = (rw (e, f) refl, fits)

no_part : {A : Type 0} (name : List ℕ) (word : Word (List A)) (words : List (List ℕ)) (xs : List A) → Some [] ≡ Some xs → IsPart name word words words xs
no_part {A} name word words xs e = subst (λ (xs : List A). IsPart name word words words xs) (some_is _ _ e) (refl, refl)

abbrev part_if : Bool → List ℕ → List (List ℕ) → List (List ℕ) → Option (List ℕ) × List (List ℕ)
part_if b v words all = cond b (Some v, words) (None, all)

part_takes_if : {A : Type 0} (b : Bool) (name : List ℕ) (word : Word (List A)) → IsWord word → word.fits [] ≡ false → (w v : List ℕ) (words : List (List ℕ)) (xs : List A) → (b ≡ true → w ≡ name)
    → part_read word (part_if b v words (w ∷ v ∷ words)).0 ≡ Some xs → IsPart name word (w ∷ v ∷ words) (part_if b v words (w ∷ v ∷ words)).1 xs
part_takes_if true name word law none w v words xs is e = let h = law.takes v xs e in some_part name word none w v words xs (is refl) h.0 h.1
part_takes_if false name word law none w v words xs is e = no_part name word (w ∷ v ∷ words) xs e

part_takes : {A : Type 0} (name : List ℕ) (word : Word (List A)) → IsWord word → word.fits [] ≡ false → (words : List (List ℕ)) (xs : List A)
    → part_read word (part_at name words).0 ≡ Some xs → IsPart name word words (part_at name words).1 xs
part_takes name word law none [] xs e = no_part name word [] xs e
part_takes name word law none (w ∷ []) xs e = no_part name word (w ∷ []) xs e
part_takes name word law none (w ∷ v ∷ words) xs e = part_takes_if (bytes_eq w name) name word law none w v words xs (text_is w name) e

join-takes : (h : Header) → AreCounts h → (words : List (List ℕ)) (j : Option Join) → join_read h words ≡ Some j → (words ≡ join_words j) × (join_fits h j ≡ true)
join-takes h most [] j e = subst (λ (j : Option Join). ([] ≡ join_words j) × (join_fits h j ≡ true)) (some_is _ _ e) (refl, refl)
join-takes h most (w ∷ words) j e =
    verb_takes (codes "join") (place h) (place_law h most) (λ (j : Join). Some j) w words None j
    (λ (j : Option Join). (w ∷ words ≡ join_words j) × (join_fits h j ≡ true)) e (λ x fits is. (is, fits)) (λ e. absurd cc)

join_again : (h : Header) → AreCounts h → (j : Option Join) → join_fits h j ≡ true → join_read h (join_words j) ≡ Some j
join_again h most None e = refl
join_again h most (Some j) e = made_again (place h) (place_law h most) (λ (j : Join). Some j) j e

units_some : (count : ℕ) → (distinct_units count).fits [] ≡ false
units_some count = refl

chains_some : (count : ℕ) → (chains count).fits [] ≡ false
chains_some count = refl

-- what stands behind the sequencer
abbrev change_tail : Changed → List (List ℕ)
change_tail c = part_words (codes "drop") units_word c.drop ++ (part_words (codes "open") chains_word c.opened ++ join_words c.join)

joined_takes : (h : Header) → AreCounts h → (seq : ℕ) (drop : List ℕ) (opened words : List (List ℕ)) (c : Changed) → joined_change h seq drop opened words ≡ Some c
    → (record { seq = seq; drop = drop; opened = opened; join = c.join } ≡ c) × (words ≡ join_words c.join) × (join_fits h c.join ≡ true)
joined_takes h most seq drop opened words c e =
    let j = bind_takes _ _ _ e in
    let t = join-takes h most words j.0 j.1 in
    subst (λ (c : Changed). (record { seq = seq; drop = drop; opened = opened; join = c.join } ≡ c) × (words ≡ join_words c.join) × (join_fits h c.join ≡ true)) (some_is _ _ j.2)
    (refl, t.0, t.1)

-- what is read as a change, of which the sequencer, the units that leave, or the chains too are known
pub record IsTail (h : Header) (seq : ℕ) (words : List (List ℕ)) (c : Changed) : Type 0 where
  pub seqr : seq ≡ c.seq
  pub spelled : words ≡ change_tail c
  pub drop : part_fits (distinct_units h.units) c.drop ≡ true
  pub opened : part_fits (chains h.units) c.opened ≡ true
  pub join : join_fits h c.join ≡ true

abbrev open_tail : Changed → List (List ℕ)
open_tail c = part_words (codes "open") chains_word c.opened ++ join_words c.join

record IsOpened (h : Header) (seq : ℕ) (drop : List ℕ) (words : List (List ℕ)) (c : Changed) : Type 0 where
  seqr : seq ≡ c.seq
  dropped : drop ≡ c.drop
  spelled : words ≡ open_tail c
  opened : part_fits (chains h.units) c.opened ≡ true
  join : join_fits h c.join ≡ true

same_rest : (all front rest tail : List (List ℕ)) → all ≡ front ++ rest → rest ≡ tail → all ≡ front ++ tail
same_rest all front rest tail e f = rw (e, f) refl

opened_takes : (h : Header) → AreCounts h → (seq : ℕ) (drop : List ℕ) (words : List (List ℕ)) (c : Changed) → opened_change h seq drop (part_at (codes "open") words) ≡ Some c → IsOpened h seq drop words c
opened_takes h most seq drop words c e =
    let o = bind_takes _ _ _ e in
    let t = part_takes (codes "open") (chains h.units) (chains_law h.units (most role.Unit)) (chains_some h.units) words o.0 o.1 in
    let j = joined_takes h most seq drop o.0 (part_at (codes "open") words).1 c o.2 in
    let is : o.0 ≡ c.opened = ap (λ (c : Changed). c.opened) j.0 in
    record {
      seqr = ap (λ (c : Changed). c.seq) j.0;
      dropped = ap (λ (c : Changed). c.drop) j.0;
      spelled = subst (λ (cs : List (List ℕ)). words ≡ part_words (codes "open") chains_word cs ++ join_words c.join) is (same_rest words (part_words (codes "open") chains_word o.0) (part_at (codes "open") words).1 (join_words c.join) t.0 j.1);
      opened = subst (λ (cs : List (List ℕ)). part_fits (chains h.units) cs ≡ true) is t.1;
      join = j.2;
    }

tail_takes : (h : Header) → AreCounts h → (seq : ℕ) (words : List (List ℕ)) (c : Changed) → dropped_change h seq (part_at (codes "drop") words) ≡ Some c → IsTail h seq words c
tail_takes h most seq words c e =
    let d = bind_takes _ _ _ e in
    let t = part_takes (codes "drop") (distinct_units h.units) (distinct_units_law h.units (most role.Unit)) (units_some h.units) words d.0 d.1 in
    let o = opened_takes h most seq d.0 (part_at (codes "drop") words).1 c d.2 in
    record {
      seqr = o.seqr;
      spelled = subst (λ (us : List ℕ). words ≡ part_words (codes "drop") units_word us ++ open_tail c) o.dropped (same_rest words (part_words (codes "drop") units_word d.0) (part_at (codes "drop") words).1 (open_tail c) t.0 o.spelled);
      drop = subst (λ (us : List ℕ). part_fits (distinct_units h.units) us ≡ true) o.dropped t.1;
      opened = o.opened;
      join = o.join;
    }

joined_again : (h : Header) → AreCounts h → (seq : ℕ) (drop : List ℕ) (opened : List (List ℕ)) (j : Option Join) → join_fits h j ≡ true
    → joined_change h seq drop opened (join_words j) ≡ Some (record { seq = seq; drop = drop; opened = opened; join = j })
joined_again h most seq drop opened j e =
    bind_again (λ (j : Option Join). Some (record { seq = seq; drop = drop; opened = opened; join = j })) (join_read h (join_words j)) j _ (join_again h most j e) refl

opened_again : (h : Header) → AreCounts h → (seq : ℕ) (drop : List ℕ) (opened : List (List ℕ)) (j : Option Join) → part_fits (chains h.units) opened ≡ true → join_fits h j ≡ true
    → opened_change h seq drop (part_at (codes "open") (part_words (codes "open") chains_word opened ++ join_words j)) ≡ Some (record { seq = seq; drop = drop; opened = opened; join = j })
opened_again h most seq drop [] None e f = joined_again h most seq drop [] None f
opened_again h most seq drop [] (Some j) e f = joined_again h most seq drop [] (Some j) f
opened_again h most seq drop (c ∷ cs) j e f =
    bind_again (λ (o : List (List ℕ)). joined_change h seq drop o (join_words j)) ((chains h.units).read (chains_word (c ∷ cs))) (c ∷ cs) _
    ((chains_law h.units (most role.Unit)).again (c ∷ cs) e) (joined_again h most seq drop (c ∷ cs) j f)

tail_again : (h : Header) → AreCounts h → (seq : ℕ) (drop : List ℕ) (opened : List (List ℕ)) (j : Option Join) → part_fits (distinct_units h.units) drop ≡ true → part_fits (chains h.units) opened ≡ true → join_fits h j ≡ true
    → dropped_change h seq (part_at (codes "drop") (change_tail (record { seq = seq; drop = drop; opened = opened; join = j }))) ≡ Some (record { seq = seq; drop = drop; opened = opened; join = j })
tail_again h most seq [] [] None d e f = opened_again h most seq [] [] None e f
tail_again h most seq [] [] (Some j) d e f = opened_again h most seq [] [] (Some j) e f
tail_again h most seq [] (c ∷ cs) j d e f = opened_again h most seq [] (c ∷ cs) j e f
tail_again h most seq (u ∷ us) opened j d e f =
    bind_again (λ (d : List ℕ). opened_change h seq d (part_at (codes "open") (part_words (codes "open") chains_word opened ++ join_words j))) ((distinct_units h.units).read (units_word (u ∷ us))) (u ∷ us) _
    ((distinct_units_law h.units (most role.Unit)).again (u ∷ us) d) (opened_again h most seq (u ∷ us) opened j e f)

change-takes : (h : Header) → AreCounts h → (words : List (List ℕ)) (c : Changed) → change_read h words ≡ Some c → (words ≡ change_words c) × (change_fits h c ≡ true)
change-takes h most [] c e = absurd cc
change-takes h most (w ∷ words) c e =
    let b = bind_takes _ _ _ e in
    let s = (numbered_law h role.Seqr (most role.Seqr)).takes w b.0 b.1 in
    let t = tail_takes h most b.0 words c b.2 in
    let seq : (numbered h role.Seqr).fits c.seq ≡ true = subst (λ (n : ℕ). (numbered h role.Seqr).fits n ≡ true) t.seqr s.1 in
    (same_cons _ _ _ _ (s.0 ∙ ap (member_word role.Seqr) t.seqr) t.spelled, both _ _ (both _ _ (both _ _ seq t.drop) t.opened) t.join)

change-again : (h : Header) → AreCounts h → (c : Changed) → change_fits h c ≡ true → change_read h (change_words c) ≡ Some c
change-again h most c e =
    let seq : (numbered h role.Seqr).fits c.seq ≡ true = and-left _ _ (and-left _ _ (and-left _ _ e)) in
    let drop : part_fits (distinct_units h.units) c.drop ≡ true = and-right _ _ (and-left _ _ (and-left _ _ e)) in
    let opened : part_fits (chains h.units) c.opened ≡ true = and-right _ _ (and-left _ _ e) in
    let join : join_fits h c.join ≡ true = and-right _ _ e in
    bind_again (λ (seq : ℕ). dropped_change h seq (part_at (codes "drop") (change_tail c))) ((numbered h role.Seqr).read (member_word role.Seqr c.seq)) c.seq _
    ((numbered_law h role.Seqr (most role.Seqr)).again c.seq seq) (tail_again h most c.seq c.drop c.opened c.join drop opened join)

pub change_law : (h : Header) → AreCounts h → IsPhrase (change h)
change_law h most = record { takes = change-takes h most; again = change-again h most }

-- Commands.

abbrev IsCommand : Header → List (List ℕ) → Command AnyOp AnyAsk → Type 0
IsCommand h words c = (words ≡ command_words c) × (command_fits h c ≡ true)

transaction_takes : (h : Header) → AreCounts h → (w : List ℕ) (fields : List (List ℕ)) (y : Command AnyOp AnyAsk) → transaction_read w fields ≡ Some y → IsCommand h (w ∷ fields) y
transaction_takes h most w fields y e =
    verb_takes (codes "begin") nothing nothing_law (λ (u : Unit {0}). cmd.Begin) w fields _ y (IsCommand h (w ∷ fields)) e (λ x fits is. (is, refl)) (λ e.
    verb_takes (codes "put") (first object put_op) put_law (λ (p : Oid × AnyOp). cmd.Put p.0 p.1) w fields _ y (IsCommand h (w ∷ fields)) e (λ x fits is. (is, fits)) (λ e.
    verb_takes (codes "ask") (first object any_ask) ask_law (λ (p : Oid × AnyAsk). cmd.Ask p.0 p.1) w fields _ y (IsCommand h (w ∷ fields)) e (λ x fits is. (is, fits)) (λ e.
    verb_takes (codes "end") nothing nothing_law (λ (u : Unit {0}). cmd.End) w fields _ y (IsCommand h (w ∷ fields)) e (λ x fits is. (is, refl)) (λ e.
    verb_takes (codes "drop") nothing nothing_law (λ (u : Unit {0}). cmd.Drop) w fields None y (IsCommand h (w ∷ fields)) e (λ x fits is. (is, refl)) (λ e. absurd cc)))))

record_takes : (h : Header) → AreCounts h → (w : List ℕ) (fields : List (List ℕ)) (y : Command AnyOp AnyAsk) → record_read w fields ≡ Some y → IsCommand h (w ∷ fields) y
record_takes h most w fields y e =
    verb_takes (codes "fate") (one number) (one_law number number_law) cmd.Fate w fields _ y (IsCommand h (w ∷ fields)) e (λ x fits is. (is, fits)) (λ e.
    verb_takes (codes "decide") (one number) (one_law number number_law) cmd.Decide w fields _ y (IsCommand h (w ∷ fields)) e (λ x fits is. (is, fits)) (λ e.
    verb_takes (codes "rescue") (one number) (one_law number number_law) cmd.Rescue w fields None y (IsCommand h (w ∷ fields)) e (λ x fits is. (is, fits)) (λ e. absurd cc)))

object_takes : (h : Header) → AreCounts h → (w : List ℕ) (fields : List (List ℕ)) (y : Command AnyOp AnyAsk) → object_read w fields ≡ Some y → IsCommand h (w ∷ fields) y
object_takes h most w fields y e =
    verb_takes (codes "host") (one object) (one_law object object_law) cmd.Host w fields _ y (IsCommand h (w ∷ fields)) e (λ x fits is. (is, fits)) (λ e.
    verb_takes (codes "checkpoint") (one object) (one_law object object_law) cmd.Checkpoint w fields _ y (IsCommand h (w ∷ fields)) e (λ x fits is. (is, fits)) (λ e.
    verb_takes (codes "forget") (two object mark) forget_law (λ (p : Oid × ℕ). cmd.Forget p.0 p.1) w fields _ y (IsCommand h (w ∷ fields)) e (λ x fits is. (is, fits)) (λ e.
    verb_takes (codes "ask-at") (first number (first object any_ask)) ask_at_law (λ (p : ℕ × (Oid × AnyAsk)). cmd.AskAt p.0 p.1.0 p.1.1) w fields None y (IsCommand h (w ∷ fields)) e (λ x fits is. (is, fits)) (λ e. absurd cc))))

layout_takes : (h : Header) → AreCounts h → (w : List ℕ) (fields : List (List ℕ)) (y : Command AnyOp AnyAsk) → layout_read h w fields ≡ Some y → IsCommand h (w ∷ fields) y
layout_takes h most w fields y e =
    verb_takes (codes "trim") nothing nothing_law (λ (u : Unit {0}). cmd.Trim) w fields _ y (IsCommand h (w ∷ fields)) e (λ x fits is. (is, refl)) (λ e.
    verb_takes (codes "reconf") (change h) (change_law h most) cmd.Reconf w fields _ y (IsCommand h (w ∷ fields)) e (λ x fits is. (is, fits)) (λ e.
    verb_takes (codes "copy") (place h) (place_law h most) (λ (j : Join). cmd.Copy j.unit j.range j.stripe) w fields None y (IsCommand h (w ∷ fields)) e (λ x fits is. (is, fits)) (λ e. absurd cc)))

pub command_takes : (h : Header) → AreCounts h → (words : List (List ℕ)) (y : Command AnyOp AnyAsk) → command_read h words ≡ Some y → IsCommand h words y
unfolding command_read
command_takes h most [] y e = absurd cc
command_takes h most (w ∷ fields) y e =
    first_other _ _ y (IsCommand h (w ∷ fields) y) e (transaction_takes h most w fields y) (λ e.
    first_other _ _ y (IsCommand h (w ∷ fields) y) e (record_takes h most w fields y) (λ e.
    first_other _ _ y (IsCommand h (w ∷ fields) y) e (object_takes h most w fields y) (layout_takes h most w fields y)))

pub command_spelled : (h : Header) → AreCounts h → (c : Command AnyOp AnyAsk) → command_fits h c ≡ true → command_read h (command_words c) ≡ Some c
unfolding command_read
command_spelled h most (cmd.Host oid) e = or_second _ _ _ refl (or_second _ _ _ refl (or_first _ _ _ (made_again (one object) (one_law object object_law) cmd.Host oid e)))
command_spelled h most cmd.Begin e = refl
command_spelled h most (cmd.Put oid op) e = or_first _ _ _ (made_again (first object put_op) put_law (λ (p : Oid × AnyOp). cmd.Put p.0 p.1) (oid, op) e)
command_spelled h most (cmd.Ask oid ask) e = or_first _ _ _ (made_again (first object any_ask) ask_law (λ (p : Oid × AnyAsk). cmd.Ask p.0 p.1) (oid, ask) e)
command_spelled h most cmd.End e = refl
command_spelled h most cmd.Drop e = refl
command_spelled h most (cmd.Fate at) e = or_second _ _ _ refl (or_first _ _ _ (made_again (one number) (one_law number number_law) cmd.Fate at e))
command_spelled h most (cmd.Decide at) e = or_second _ _ _ refl (or_first _ _ _ (made_again (one number) (one_law number number_law) cmd.Decide at e))
command_spelled h most (cmd.Checkpoint oid) e = or_second _ _ _ refl (or_second _ _ _ refl (or_first _ _ _ (made_again (one object) (one_law object object_law) cmd.Checkpoint oid e)))
command_spelled h most (cmd.Forget oid m) e = or_second _ _ _ refl (or_second _ _ _ refl (or_first _ _ _ (made_again (two object mark) forget_law (λ (p : Oid × ℕ). cmd.Forget p.0 p.1) (oid, m) e)))
command_spelled h most cmd.Trim e = refl
command_spelled h most (cmd.Reconf c) e = or_second _ _ _ refl (or_second _ _ _ refl (or_second _ _ _ refl (made_again (change h) (change_law h most) cmd.Reconf c e)))
command_spelled h most (cmd.Copy unit range stripe) e = or_second _ _ _ refl (or_second _ _ _ refl (or_second _ _ _ refl (made_again (place h) (place_law h most) (λ (j : Join). cmd.Copy j.unit j.range j.stripe) (record { unit = unit; range = range; stripe = stripe }) e)))
command_spelled h most (cmd.AskAt at oid ask) e = or_second _ _ _ refl (or_second _ _ _ refl (or_first _ _ _ (made_again (first number (first object any_ask)) ask_at_law (λ (p : ℕ × (Oid × AnyAsk)). cmd.AskAt p.0 p.1.0 p.1.1) (at, (oid, ask)) e)))
command_spelled h most (cmd.Rescue at) e = or_second _ _ _ refl (or_first _ _ _ (made_again (one number) (one_law number number_law) cmd.Rescue at e))

pub command_law : (h : Header) → AreCounts h → IsPhrase (record { spell = command_words; fits = command_fits h; read = command_read h })
command_law h most = record { takes = command_takes h most; again = command_spelled h most }

none_some : {A : Type 0} (x : A) → None ≡ Some x → ⊥
none_some x e = absurd cc

-- what is read of an op's words is the op that has them
pub op_is : (words : List (List ℕ)) (x : Option AnyOp) → IfSome x (λ (op : AnyOp). (words ≡ op_words op) × (op_fits op ≡ true)) → ((op : AnyOp) → op_fits op ≡ true → words ≡ op_words op → x ≡ Some op) → x ≡ op_read words
op_is words None found only = sym (none_of _ (λ op e. let h = op_takes words op e in absurd (none_some op (only op h.1 h.0))))
op_is words (Some op) found only = sym (op_again words op found.1 found.0)

pub ask_is : (words : List (List ℕ)) (x : Option AnyAsk) → IfSome x (λ (ask : AnyAsk). (words ≡ ask_words ask) × (ask_fits ask ≡ true)) → ((ask : AnyAsk) → ask_fits ask ≡ true → words ≡ ask_words ask → x ≡ Some ask) → x ≡ ask_read words
ask_is words None found only = sym (none_of _ (λ ask e. let h = ask_takes words ask e in absurd (none_some ask (only ask h.1 h.0))))
ask_is words (Some ask) found only = sym (ask_again words ask found.1 found.0)

pub ok_op_is : {E : Type 0} (r : Result (Option AnyOp) E) (words : List (List ℕ)) → IfOk r (λ (x : Option AnyOp). IfSome x (λ (op : AnyOp). (words ≡ op_words op) × (op_fits op ≡ true)))
    → ((op : AnyOp) → op_fits op ≡ true → words ≡ op_words op → IfOk r (λ (x : Option AnyOp). x ≡ Some op)) → IfOk r (λ (x : Option AnyOp). x ≡ op_read words)
ok_op_is (Ok x) words found only = op_is words x found only
ok_op_is (Err e) words found only = tt

pub ok_ask_is : {E : Type 0} (r : Result (Option AnyAsk) E) (words : List (List ℕ)) → IfOk r (λ (x : Option AnyAsk). IfSome x (λ (ask : AnyAsk). (words ≡ ask_words ask) × (ask_fits ask ≡ true)))
    → ((ask : AnyAsk) → ask_fits ask ≡ true → words ≡ ask_words ask → IfOk r (λ (x : Option AnyAsk). x ≡ Some ask)) → IfOk r (λ (x : Option AnyAsk). x ≡ ask_read words)
ok_ask_is (Ok x) words found only = ask_is words x found only
ok_ask_is (Err e) words found only = tt
