-- What is read of the fields of replies is what they spell, and nothing else.
use Rattle.std.proofs.Common.{◌≡◌, ℕ, ◌<◌, Bool, true, false, ◌&&◌, List, [], ◌∷◌, ◌++◌, length, take, drop, codes, Option, Some, None, sym, refl, subst, ap, ◌∙◌, arith}
use Rattle.std.specs.Prelude.{option_map, option_and_then}
use Rattle.std.specs.Str.{bytes_eq}
use Rattle.std.proofs.lemmas.List.{take-append-drop}
use Rattle.std.proofs.lemmas.Slice.Eq.{bytes_eq-Decides}
use Rattle.tg_base.specs.declared.fault.Many.{Many}
use Rattle.tg_base.specs.declared.fault.Many.TheVariants as many
use Rattle.tg_base.specs.declared.marks.Part.{Part}
use Rattle.tg_base.specs.declared.marks.Part.TheVariants.{All as AllParts, Text, Num}
use Rattle.tg_codec.proofs.Laws.{and-left, and-right, both}
use Rattle.tg_model.specs.declared.command.Word.{Word as Command}
use Rattle.tg_model.specs.declared.command.Word.TheVariants as command
use Rattle.tg_any.specs.declared.any.AnyAsk.{AnyAsk}
use Rattle.tg_any.specs.declared.any.AnyAsk.TheVariants as asks
use Rattle.tg_any.specs.declared.any.AnyAns.{AnyAns}
use Rattle.tg_dir.specs.declared.directory.DirectoryAsk.TheVariants as directory_asks
use Rattle.tg_cell.specs.declared.counter.CounterAsk.TheVariants as counter_asks
use Rattle.tg_cell.specs.declared.register.RegisterAsk.TheVariants as register_asks
use Rattle.tg_map.specs.declared.map.MapAsk.TheVariants as map_asks
use Rattle.tg_list.specs.declared.text_list.TextListAsk.TheVariants as list_asks
use Rattle.tg_tree.specs.declared.tree.TreeAsk.TheVariants as tree_asks
use Rattle.tg_set.specs.declared.set.SetAsk.TheVariants as set_asks
use Rattle.tg_any.specs.Fronts.{after}
use Rattle.tg_any.specs.AnyWords.{ask_words, ask_fits, ask_read}
use Rattle.tg_any.specs.Words.{flag, number}
use Rattle.tg_any.proofs.Numbers.{map_takes, bind_takes, when_takes}
use Rattle.tg_any.proofs.Fronts.{some_is, bind_again, if_again}
use Rattle.tg_any.proofs.Words.{IsWord, IsPhrase, cond_takes, number_law, flag_law, one_law, verb_takes, made_again}
use Rattle.tg_any.proofs.AnyForms.{op_takes, op_again, ask_takes, ask_again, answer_takes, answer_again}
use Rattle.tg_trace.specs.Lines.{first}
use Rattle.tg_trace.specs.Fields.{in_table, command_word, commands, waiting, many_word, manies, crowd, fate_word, fate_in, fate, client, unit, is_key, key, versions, clash_read, clash, any_op, any_ask, answer_to, ask_len, told_at, answered_read, answered}
use Rattle.tg_trace.proofs.Phrases.{lettered_law, first_law, named_law}

bytes_is : (a b : List ℕ) → bytes_eq a b ≡ true → a ≡ b
bytes_is a b e = (bytes_eq-Decides a b).0 e

-- Tables.

-- each row has its value's word
abbrev AreRows : {A : Type 0} → (A → List ℕ) → List (List ℕ × A) → Type 0
AreRows spell [] = Unit {0}
AreRows spell (row ∷ rows) = (row.0 ≡ spell row.1) × AreRows spell rows

table_takes : {A : Type 0} (spell : A → List ℕ) (rows : List (List ℕ × A)) → AreRows spell rows → (word : List ℕ) (x : A) → in_table rows word ≡ Some x → word ≡ spell x
table_takes spell [] rules word x e = absurd cc
table_takes spell (row ∷ rows) rules word x e =
    cond_takes (bytes_eq word row.0) (Some row.1) (in_table rows word) x (word ≡ spell x) e
    (λ is f. bytes_is word row.0 is ∙ rules.0 ∙ ap spell (some_is _ _ f)) (λ f. table_takes spell rows rules.1 word x f)

waiting-again : (c : Command) → in_table commands (command_word c) ≡ Some c
waiting-again command.Host = refl
waiting-again command.Begin = refl
waiting-again command.Put = refl
waiting-again command.Ask = refl
waiting-again command.End = refl
waiting-again command.Drop = refl
waiting-again command.Fate = refl
waiting-again command.Decide = refl
waiting-again command.Checkpoint = refl
waiting-again command.Forget = refl
waiting-again command.Trim = refl
waiting-again command.Reconf = refl
waiting-again command.Copy = refl
waiting-again command.AskAt = refl
waiting-again command.Rescue = refl

command-rows : AreRows command_word commands
command-rows = (refl, (refl, (refl, (refl, (refl, (refl, (refl, (refl, (refl, (refl, (refl, (refl, (refl, (refl, (refl, tt)))))))))))))))

pub waiting_law : IsWord waiting
waiting_law = record { takes = λ w c e. (table_takes command_word commands command-rows w c e, refl); again = λ c e. waiting-again c; some = refl }

crowd-again : (m : Many) → in_table manies (many_word m) ≡ Some m
crowd-again many.Streams = refl
crowd-again many.Reads = refl
crowd-again many.Writes = refl
crowd-again many.Hosted = refl
crowd-again many.Ranges = refl
crowd-again many.Units = refl

many-rows : AreRows many_word manies
many-rows = (refl, (refl, (refl, (refl, (refl, (refl, tt))))))

pub crowd_law : IsWord crowd
crowd_law = record { takes = λ w m e. (table_takes many_word manies many-rows w m e, refl); again = λ m e. crowd-again m; some = refl }

-- Single words.

fate-takes : (w : List ℕ) (x : Option Bool) → fate_in w ≡ Some x → w ≡ fate_word x
fate-takes w x e =
    cond_takes (bytes_eq w (codes "none")) (Some None) (option_map (λ (b : Bool). Some b) (flag.read w)) x (w ≡ fate_word x) e
    (λ is f. bytes_is w (codes "none") is ∙ ap fate_word (some_is _ _ f))
    (λ f. let m = map_takes _ _ _ f in (flag_law.takes w m.0 m.1).0 ∙ ap fate_word m.2)

fate-again : (x : Option Bool) → fate_in (fate_word x) ≡ Some x
fate-again None = refl
fate-again (Some true) = refl
fate-again (Some false) = refl

pub fate_law : IsWord fate
fate_law = record { takes = λ w x e. (fate-takes w x e, refl); again = λ x e. fate-again x; some = refl }

no_letter : (letter : List ℕ) → 0 < length letter → after letter [] ≡ None
unfolding after
no_letter [] e = absurd (omega (arith, e))
no_letter (b ∷ letter) e = refl

pub client_law : IsWord client
client_law = lettered_law (codes "c") (no_letter (codes "c") (omega arith))

pub unit_law : IsWord unit
unit_law = lettered_law (codes "u") (no_letter (codes "u") (omega arith))

pub key_law : IsWord key
key_law = record {
  takes = λ t x e. let d = when_takes _ _ _ e in (d.1, subst (λ (x : List ℕ). is_key x ≡ true) d.1 d.0);
  again = λ x e. if_again _ _ _ e refl;
  some = refl;
}

-- Parts and versions.

pub versions_law : IsPhrase versions
versions_law = named_law (codes "seen") _ (first_law number _ number_law (named_law (codes "now") _ (one_law number number_law)))

abbrev IsClash : List (List ℕ) → Part × (ℕ × ℕ) → Type 0
IsClash ws p = (ws ≡ clash.spell p) × (clash.fits p ≡ true)

clash-takes : (ws : List (List ℕ)) (p : Part × (ℕ × ℕ)) → clash_read ws ≡ Some p → IsClash ws p
clash-takes [] p e = absurd cc
clash-takes (w ∷ ws) p e =
    verb_takes (codes "all") versions versions_law (λ (v : ℕ × ℕ). (AllParts, v)) w ws _ p (IsClash (w ∷ ws)) e (λ x fits is. (is, fits))
    (λ e. verb_takes (codes "key") (first key versions) (first_law key versions key_law versions_law) (λ (p : List ℕ × (ℕ × ℕ)). (Text p.0, p.1)) w ws _ p (IsClash (w ∷ ws)) e (λ x fits is. (is, fits))
    (λ e. verb_takes (codes "num") (first number versions) (first_law number versions number_law versions_law) (λ (p : ℕ × (ℕ × ℕ)). (Num p.0, p.1)) w ws None p (IsClash (w ∷ ws)) e (λ x fits is. (is, fits)) (λ e. absurd cc)))

clash-again : (part : Part) (v : ℕ × ℕ) → clash.fits (part, v) ≡ true → clash_read (clash.spell (part, v)) ≡ Some (part, v)
clash-again AllParts v e = made_again versions versions_law (λ (v : ℕ × ℕ). (AllParts, v)) v e
clash-again (Text t) v e = made_again (first key versions) (first_law key versions key_law versions_law) (λ (p : List ℕ × (ℕ × ℕ)). (Text p.0, p.1)) (t, v) e
clash-again (Num n) v e = made_again (first number versions) (first_law number versions number_law versions_law) (λ (p : ℕ × (ℕ × ℕ)). (Num p.0, p.1)) (n, v) e

pub clash_law : IsPhrase clash
clash_law = record { takes = clash-takes; again = λ p e. clash-again p.0 p.1 e }

-- Ops, asks and answers.

pub any_op_law : IsPhrase any_op
any_op_law = record { takes = op_takes; again = λ op e. op_again _ op e refl }

pub any_ask_law : IsPhrase any_ask
any_ask_law = record { takes = ask_takes; again = λ ask e. ask_again _ ask e refl }

pub answer_law : (ask : AnyAsk) → IsPhrase (answer_to ask)
answer_law ask = record { takes = answer_takes ask; again = λ answer e. answer_again ask _ answer e refl }

pub told_at_law : (ask : AnyAsk) → IsPhrase (told_at ask)
told_at_law ask = named_law (codes "at") _ (first_law number _ number_law (named_law (codes "=") (answer_to ask) (answer_law ask)))

abbrev IsAnswered : List (List ℕ) → AnyAsk × (ℕ × AnyAns) → Type 0
IsAnswered ws p = (ws ≡ answered.spell p) × (answered.fits p ≡ true)

same_parts : (ws xs ys us vs : List (List ℕ)) → xs ++ ys ≡ ws → xs ≡ us → ys ≡ vs → ws ≡ us ++ vs
same_parts ws xs ys us vs e f g = sym e ∙ rw (f, g) refl

answered-takes : (ws : List (List ℕ)) (p : AnyAsk × (ℕ × AnyAns)) → answered_read ws ≡ Some p → IsAnswered ws p
answered-takes [] p e = absurd cc
answered-takes (w ∷ ws) p e =
    let f = bind_takes _ _ _ e in
    let g = bind_takes _ _ _ f.2 in
    let h = ask_takes (take (ask_len w) (w ∷ ws)) f.0 f.1 in
    let k = (told_at_law f.0).takes (drop (ask_len w) (w ∷ ws)) g.0 g.1 in
    let is : (f.0, g.0) ≡ p = some_is _ _ g.2 in
    subst (IsAnswered (w ∷ ws)) is (same_parts (w ∷ ws) _ _ _ _ (take-append-drop (ask_len w) (w ∷ ws)) h.0 k.0, both _ _ h.1 k.1)

-- an ask's words are cut off at its length
abbrev cut_read : List (List ℕ) → ℕ → Option (AnyAsk × (ℕ × AnyAns))
cut_read ws n = option_and_then (λ (ask : AnyAsk). option_and_then (λ (p : ℕ × AnyAns). Some (ask, p)) ((told_at ask).read (drop n ws))) (ask_read (take n ws))

abbrev with_told : AnyAsk → ℕ × AnyAns → List (List ℕ)
with_told ask p = ask_words ask ++ (told_at ask).spell p

cut_again : (ask : AnyAsk) (p : ℕ × AnyAns) (n : ℕ) → take n (with_told ask p) ≡ ask_words ask → drop n (with_told ask p) ≡ (told_at ask).spell p → (ask_fits ask && (told_at ask).fits p) ≡ true
    → ◌≡◌ {A = Option (AnyAsk × (ℕ × AnyAns))} (cut_read (with_told ask p) n) (Some (ask, p))
cut_again ask p n front rest e =
    bind_again _ _ _ _ (ask_again (take n (with_told ask p)) ask (and-left _ _ e) front)
    (bind_again _ _ _ _ (ap (told_at ask).read rest ∙ (told_at_law ask).again p (and-right _ _ e)) refl)

answered-again : (ask : AnyAsk) (p : ℕ × AnyAns) → (ask_fits ask && (told_at ask).fits p) ≡ true → ◌≡◌ {A = Option (AnyAsk × (ℕ × AnyAns))} (answered_read (with_told ask p)) (Some (ask, p))
answered-again (asks.Directory (directory_asks.Find x)) p e = cut_again (asks.Directory (directory_asks.Find x)) p 2 refl refl e
answered-again (asks.Directory directory_asks.Marks) p e = cut_again (asks.Directory directory_asks.Marks) p 1 refl refl e
answered-again (asks.Directory directory_asks.Floor) p e = cut_again (asks.Directory directory_asks.Floor) p 1 refl refl e
answered-again (asks.Counter counter_asks.Value) p e = cut_again (asks.Counter counter_asks.Value) p 1 refl refl e
answered-again (asks.Register register_asks.Text) p e = cut_again (asks.Register register_asks.Text) p 1 refl refl e
answered-again (asks.Map (map_asks.Get x)) p e = cut_again (asks.Map (map_asks.Get x)) p 2 refl refl e
answered-again (asks.Map map_asks.Size) p e = cut_again (asks.Map map_asks.Size) p 1 refl refl e
answered-again (asks.Map map_asks.Keys) p e = cut_again (asks.Map map_asks.Keys) p 1 refl refl e
answered-again (asks.List (list_asks.At x)) p e = cut_again (asks.List (list_asks.At x)) p 2 refl refl e
answered-again (asks.List list_asks.Len) p e = cut_again (asks.List list_asks.Len) p 1 refl refl e
answered-again (asks.List list_asks.Items) p e = cut_again (asks.List list_asks.Items) p 1 refl refl e
answered-again (asks.Tree (tree_asks.Data x)) p e = cut_again (asks.Tree (tree_asks.Data x)) p 2 refl refl e
answered-again (asks.Tree (tree_asks.Has x)) p e = cut_again (asks.Tree (tree_asks.Has x)) p 2 refl refl e
answered-again (asks.Tree (tree_asks.Children x)) p e = cut_again (asks.Tree (tree_asks.Children x)) p 2 refl refl e
answered-again (asks.Set (set_asks.Member x)) p e = cut_again (asks.Set (set_asks.Member x)) p 2 refl refl e
answered-again (asks.Set (set_asks.Count x y)) p e = cut_again (asks.Set (set_asks.Count x y)) p 3 refl refl e
answered-again (asks.Set (set_asks.Between x y)) p e = cut_again (asks.Set (set_asks.Between x y)) p 3 refl refl e

pub answered_law : IsPhrase answered
answered_law = record { takes = answered-takes; again = λ p e. answered-again p.0 p.1 e }
