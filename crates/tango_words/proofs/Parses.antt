-- What `clap` makes of words that are no flags.
use Rattle.std.proofs.Common.{◌≡◌, ◌≢◌, ◌∙◌, ◌||◌, ◌&&◌, Bool, true, false, refl, sym, ap, ap₂, ℕ, List, [], ◌∷◌, Option, Some, None, option_map, inl, inr, codes}
use Rattle.std.specs.Prelude.{◌⊎◌, fold, if◌then◌else◌, is_some, option_and_then}
use Rattle.std.specs.List.{list_any}
use Rattle.std.specs.Option.{option_map_or}
use Rattle.std.specs.Str.{bytes_eq}
use Rattle.std.proofs.lemmas.Slice.Eq.{bytes_eq-Decides}
use Rattle.clap.specs.Words.{App, Kinds, Row, Rule, Shape, Text, built, fault_of, subcommand_of}
use Rattle.clap.specs.Kinds.{or_else}
use Rattle.clap.specs.Lexer.{long_of, long_of_rest, short_of, short_of_rest, strip_byte}
use Rattle.clap.specs.Faults.{bundle_fault, check_fault, defaults_fault, entered_fault, flag_word_fault, level_fault, other_fault, positional_fault, settle_fault, step_fault, stray_fault, turn_fault, walk_fault, word_fault}
use Rattle.clap.specs.Walk.{Held, Names, Step, Walk, after_step, arg_by_index, finished, idle, long_or_other, nothing_held, rows_after, settled, short_or_plain, subcommand_met, subcommand_or_other, to_positional, trailing, value, walk, walk_from, walked, word_met}
use Rattle.clap.specs.Simple.{built_leaf, entered, inherited, names_of, new_app}
use Rattle.clap.proofs.FaultLemmas.{stopped_fault}
use Rattle.clap.proofs.OnLiterals.{clap_on_literals}
use Rattle.clap.proofs.WalkLemmas.{walk_stopped}
use Rattle.tango_words.specs.declared.forms.Form.TheVariants.{Node}
use Rattle.tango_words.specs.Forms.{form_by, form_of, node_in, of_bench}
use Rattle.tango_words.specs.Commands.{begins_with_dash, bench_app, command_app, form_named, form_in, node_app}
use Rattle.tango_words.proofs.Flags.{by_name, others_are_none}

first_part : (a b : Kinds) → or_else a b ≡ [] → a ≡ []
first_part [] b e = refl
first_part (k ∷ ks) b e = e

second_part : (a b : Kinds) → or_else a b ≡ [] → b ≡ []
second_part [] b e = e
second_part (k ∷ ks) b e = cc

-- ---- a word that is no flag

no_strip : (word : Text) → begins_with_dash word ≡ false → strip_byte 45 word ≡ None
no_strip [] no_dash = refl
no_strip (first ∷ rest) no_dash = ap (λ (b : Bool). if b then Some rest else None) no_dash

no_escape : (word : Text) → begins_with_dash word ≡ false → bytes_eq word (45 ∷ 45 ∷ []) ≡ false
no_escape [] no_dash = refl
no_escape (first ∷ rest) no_dash = ap (λ (b : Bool). b && bytes_eq rest (45 ∷ [])) no_dash

no_long : (word : Text) → begins_with_dash word ≡ false → long_of word ≡ None
no_long word no_dash = ap (λ (r : Option Text). option_and_then long_of_rest (option_and_then (strip_byte 45) r)) (no_strip word no_dash)

no_short : (word : Text) → begins_with_dash word ≡ false → short_of word ≡ None
no_short word no_dash = ap (option_and_then short_of_rest) (no_strip word no_dash)

-- it is a value, where it names no subcommand
value_met : (c : List Rule) (names : Names) (position : ℕ) (word : Text) (h : Held) → subcommand_met names idle word ≡ None → begins_with_dash word ≡ false
    → word_met c names false idle position word h ≡ (h, value)
value_met c names position word h no_name no_dash =
    ap (λ (m : Option Text). subcommand_or_other c m idle position word h) no_name
    ∙ ap (λ (b : Bool). if b then (h, trailing position) else long_or_other c idle word (long_of word) h) (no_escape word no_dash)
    ∙ ap (λ (l : Option (Text × Option Text)). long_or_other c idle word l h) (no_long word no_dash)
    ∙ ap (λ (r : Option Text). short_or_plain c idle word r h) (no_short word no_dash)

-- and is not refused as a flag
no_flag_fault : (s : Shape) (names : Names) (word : Text) (h : Held) → subcommand_met names idle word ≡ None → begins_with_dash word ≡ false
    → word_fault s names false idle word h ≡ []
no_flag_fault s names word h no_name no_dash =
    ap (λ (m : Option Text). other_fault s m word h) no_name
    ∙ ap (λ (b : Bool). if b then [] else flag_word_fault s.rules s.args_override_self (long_of word) word h) (no_escape word no_dash)
    ∙ ap (λ (l : Option (Text × Option Text)). flag_word_fault s.rules s.args_override_self l word h) (no_long word no_dash)
    ∙ ap (λ (r : Option Text). option_map_or (λ flags. bundle_fault s.rules s.args_override_self flags h) r []) (no_short word no_dash)

abbrev at : ℕ → Held → Walk
at position h = record { held = h; waiting = idle; position = position; is_trailing = false; stopped = None }

walked_value : (c : List Rule) (names : Names) (position : ℕ) (h : Held) (word : Text) → subcommand_met names idle word ≡ None → begins_with_dash word ≡ false
    → walked c names (at position h) word ≡ to_positional c (arg_by_index c position) word (at position h) h
unfolding walked
walked_value c names position h word no_name no_dash =
    ap (λ (p : Held × Step). after_step c word (at position h) p.0 p.1) (value_met c names position word h no_name no_dash)

turn_of_value : (s : Shape) (names : Names) (position : ℕ) (h : Held) (word : Text) → subcommand_met names idle word ≡ None → begins_with_dash word ≡ false
    → turn_fault s names (at position h) word ≡ step_fault s position h value
turn_of_value s names position h word no_name no_dash =
    let met : Held × Step = word_met s.rules names false idle position word h in
    ap (λ (k : Kinds). or_else k (step_fault s position met.0 met.1)) (no_flag_fault s names word h no_name no_dash)
    ∙ ap (λ (p : Held × Step). step_fault s position p.0 p.1) (value_met s.rules names position word h no_name no_dash)

fault_step : (s : Shape) (names : Names) (position : ℕ) (h : Held) (word : Text) (rest : List Text) → subcommand_met names idle word ≡ None → begins_with_dash word ≡ false
    → walk_fault s names (at position h) (word ∷ rest)
    ≡ or_else (step_fault s position h value) (walk_fault s names (to_positional s.rules (arg_by_index s.rules position) word (at position h) h) rest)
unfolding walk_fault
fault_step s names position h word rest no_name no_dash =
    ap₂ (λ (k : Kinds) (w : Walk). or_else k (walk_fault s names w rest)) (turn_of_value s names position h word no_name no_dash)
    (walked_value s.rules names position h word no_name no_dash)

stray_fails : (s : Shape) (is_leaf : Bool) → stray_fault (record s { is_leaf = is_leaf }) ≢ []
stray_fails s true e = cc
stray_fails s false e = cc

-- where no argument is left for it, the parse fails
stray : (s : Shape) (names : Names) (position : ℕ) (h : Held) (word : Text) (rest : List Text) → arg_by_index s.rules position ≡ None
    → subcommand_met names idle word ≡ None → begins_with_dash word ≡ false → walk_fault s names (at position h) (word ∷ rest) ≢ []
stray s names position h word rest none no_name no_dash e =
    let step : step_fault s position h value ≡ [] = first_part _ _ (sym (fault_step s names position h word rest no_name no_dash) ∙ e) in
    stray_fails s s.is_leaf (sym (ap (λ (o : Option Rule). option_map_or (λ a. positional_fault s.rules s.args_override_self a h) o (stray_fault s)) none) ∙ step)

no_rest : (word : Text) (rest : List Text) → list_any begins_with_dash (word ∷ rest) ≡ false
    → (begins_with_dash word ≡ false) × (list_any begins_with_dash rest ≡ false)
no_rest word rest = go (begins_with_dash word)
  where
    go : (x : Bool) → (x || list_any begins_with_dash rest) ≡ false → (x ≡ false) × (list_any begins_with_dash rest ≡ false)
    go true e = cc
    go false e = (refl, e)

-- ---- a subcommand's own words

abbrev start : Walk
start = walk_from nothing_held

abbrev level : Shape → List Text → Kinds
level s own = level_fault s [] nothing_held own false []

abbrev level_with : Shape → Walk → Kinds → Kinds
level_with s w first =
    or_else first (or_else [] (or_else (settle_fault s.rules s.args_override_self w.held)
    (or_else (defaults_fault (settled s.rules w.held).rows s.rules) (check_fault s (finished s.rules w.held) false))))

abbrev leaf : App → Shape
leaf a = built_leaf (inherited command_app.top a.top)

abbrev pub Told : List Text → Type 0
Told words = ((fault_of command_app words ≡ []) × (form_named (subcommand_of command_app words) ≡ form_of words))
    ⊎ ((fault_of command_app words ≢ []) × (form_of words ≡ None))

abbrev Enters : Text → Shape → List Text → Type 0
Enters name s own = (fault_of command_app (name ∷ own) ≡ or_else (level s own) []) × (subcommand_of command_app (name ∷ own) ≡ Some (name, rows_after s.rules [] own))

told_taken : (name : Text) (s : Shape) (own : List Text) → Enters name s own → level s own ≡ [] → form_in name (rows_after s.rules [] own) ≡ form_by name own → Told (name ∷ own)
told_taken name s own enters passes form = inl (enters.0 ∙ ap (λ (k : Kinds). or_else k []) passes, ap form_named enters.1 ∙ form)

told_refused : (name : Text) (s : Shape) (own : List Text) → Enters name s own → level s own ≢ [] → form_by name own ≡ None → Told (name ∷ own)
told_refused name s own enters fails form = inr (λ e. fails (first_part _ _ (sym enters.0 ∙ e)), form)

-- ---- a subcommand's name

abbrev app : App
app = built command_app

abbrev stopped_at : Text → List Text → Walk
stopped_at name own = record start { stopped = Some (name, own) }

abbrev fault_with : Walk → Kinds → Kinds
fault_with w first =
    or_else first (or_else (entered_fault app w.stopped) (or_else (settle_fault app.top.rules app.top.args_override_self w.held)
    (or_else (defaults_fault (settled app.top.rules w.held).rows app.top.rules) (check_fault app.top (finished app.top.rules w.held) (is_some (entered app w.stopped))))))

enters : (name : Text) (own : List Text) → walked app.top.rules (names_of app) start name ≡ stopped_at name [] → turn_fault app.top (names_of app) start name ≡ []
    → (fault_of command_app (name ∷ own) ≡ fault_with (stopped_at name own) []) × (subcommand_of command_app (name ∷ own) ≡ entered app (Some (name, own)))
unfolding walk_fault
enters name own met passes =
    let whole : walk app.top.rules (names_of app) nothing_held (name ∷ own) ≡ stopped_at name own =
    ap (λ (w : Walk). fold (walked app.top.rules (names_of app)) w own) met ∙ sym (walk_stopped app.top.rules (names_of app) start name [] own) in
    let first : walk_fault app.top (names_of app) start (name ∷ own) ≡ [] =
    ap₂ (λ (k : Kinds) (w : Walk). or_else k (walk_fault app.top (names_of app) w own)) passes met ∙ stopped_fault app.top (names_of app) start (name, []) own in
    (ap₂ fault_with whole first, ap (λ (w : Walk). entered app w.stopped) whole)

enters_replay : (own : List Text) → Enters (codes "replay") (leaf (new_app (codes "replay"))) own
unfolding clap_on_literals
enters_replay own = enters (codes "replay") own refl refl

enters_live : (own : List Text) → Enters (codes "live") (leaf (new_app (codes "live"))) own
unfolding clap_on_literals
enters_live own = enters (codes "live") own refl refl

enters_node : (own : List Text) → Enters (codes "node") (leaf node_app) own
unfolding clap_on_literals
enters_node own = enters (codes "node") own refl refl

enters_bench : (own : List Text) → Enters (codes "bench") (leaf bench_app) own
unfolding clap_on_literals
enters_bench own = enters (codes "bench") own refl refl

enters_audit : (own : List Text) → Enters (codes "audit") (leaf (new_app (codes "audit"))) own
unfolding clap_on_literals
enters_audit own = enters (codes "audit") own refl refl

-- ---- the forms with no words of their own

alone_fails : (name word : Text) (rest : List Text) → begins_with_dash word ≡ false → level (leaf (new_app name)) (word ∷ rest) ≢ []
alone_fails name word rest no_dash e = stray (leaf (new_app name)) [] 1 nothing_held word rest refl refl no_dash (first_part _ _ e)

told_replay : (own : List Text) → list_any begins_with_dash own ≡ false → Told (codes "replay" ∷ own)
unfolding clap_on_literals
told_replay [] no_dash = told_taken (codes "replay") (leaf (new_app (codes "replay"))) [] (enters_replay []) refl refl
told_replay (word ∷ rest) no_dash =
    told_refused (codes "replay") (leaf (new_app (codes "replay"))) (word ∷ rest) (enters_replay (word ∷ rest)) (alone_fails (codes "replay") word rest (no_rest word rest no_dash).0) refl

told_live : (own : List Text) → list_any begins_with_dash own ≡ false → Told (codes "live" ∷ own)
unfolding clap_on_literals
told_live [] no_dash = told_taken (codes "live") (leaf (new_app (codes "live"))) [] (enters_live []) refl refl
told_live (word ∷ rest) no_dash =
    told_refused (codes "live") (leaf (new_app (codes "live"))) (word ∷ rest) (enters_live (word ∷ rest)) (alone_fails (codes "live") word rest (no_rest word rest no_dash).0) refl

told_audit : (own : List Text) → list_any begins_with_dash own ≡ false → Told (codes "audit" ∷ own)
unfolding clap_on_literals
told_audit [] no_dash = told_taken (codes "audit") (leaf (new_app (codes "audit"))) [] (enters_audit []) refl refl
told_audit (word ∷ rest) no_dash =
    told_refused (codes "audit") (leaf (new_app (codes "audit"))) (word ∷ rest) (enters_audit (word ∷ rest)) (alone_fails (codes "audit") word rest (no_rest word rest no_dash).0) refl

-- ---- a node

abbrev node_leaf : Shape
node_leaf = leaf node_app

abbrev holding : List Row → Text → Text → Held
holding rows id word = record { rows = rows; pending = Some (id, word ∷ []); skip = 0 }

abbrev node_held : Text → Held
node_held id = holding [] (codes "ID") id

node_wants : level node_leaf [] ≢ []
unfolding clap_on_literals
node_wants e = cc

node_walk : (id : Text) (rest : List Text) → begins_with_dash id ≡ false → walk_fault node_leaf [] start (id ∷ rest) ≡ walk_fault node_leaf [] (at 2 (node_held id)) rest
node_walk id rest no_dash = fault_step node_leaf [] 1 nothing_held id rest refl no_dash

node_whole : (id : Text) → begins_with_dash id ≡ false → walk node_leaf.rules [] nothing_held (id ∷ []) ≡ at 2 (node_held id)
node_whole id no_dash = walked_value node_leaf.rules [] 1 nothing_held id refl no_dash

node_ends : (id : Text) → level_with node_leaf (at 2 (node_held id)) (walk_fault node_leaf [] (at 2 (node_held id)) []) ≡ []
unfolding clap_on_literals
node_ends id = refl

node_reads : (id : Text) → form_in (codes "node") (finished node_leaf.rules (node_held id)) ≡ option_map Node (node_in id)
unfolding clap_on_literals
node_reads id = refl

node_fails : (id word : Text) (rest : List Text) → begins_with_dash id ≡ false → begins_with_dash word ≡ false → level node_leaf (id ∷ word ∷ rest) ≢ []
node_fails id word rest no_dash next e =
    stray node_leaf [] 2 (node_held id) word rest refl refl next (sym (node_walk id (word ∷ rest) no_dash) ∙ first_part _ _ e)

told_node : (own : List Text) → list_any begins_with_dash own ≡ false → Told (codes "node" ∷ own)
told_node [] no_dash = told_refused (codes "node") node_leaf [] (enters_node []) node_wants refl
told_node (id ∷ []) no_dash =
    let plain = (no_rest id [] no_dash).0 in
    told_taken (codes "node") node_leaf (id ∷ []) (enters_node (id ∷ [])) (ap₂ (level_with node_leaf) (node_whole id plain) (node_walk id [] plain) ∙ node_ends id)
    (ap (λ (w : Walk). form_in (codes "node") (finished node_leaf.rules w.held)) (node_whole id plain) ∙ node_reads id)
told_node (id ∷ word ∷ rest) no_dash =
    let plain = no_rest id (word ∷ rest) no_dash in
    told_refused (codes "node") node_leaf (id ∷ word ∷ rest) (enters_node (id ∷ word ∷ rest)) (node_fails id word rest plain.0 (no_rest word rest plain.1).0) refl

-- ---- a made load

abbrev bench_leaf : Shape
bench_leaf = leaf bench_app

abbrev start_held : Text → Held
start_held first = holding [] (codes "START") first

abbrev both_held : Text → Text → Held
both_held first count = holding (settled bench_leaf.rules (start_held first)).rows (codes "COUNT") count

bench_wants : level bench_leaf [] ≢ []
unfolding clap_on_literals
bench_wants e = cc

bench_walk : (first : Text) (rest : List Text) → begins_with_dash first ≡ false → walk_fault bench_leaf [] start (first ∷ rest) ≡ walk_fault bench_leaf [] (at 2 (start_held first)) rest
bench_walk first rest no_dash = fault_step bench_leaf [] 1 nothing_held first rest refl no_dash

bench_whole : (first : Text) → begins_with_dash first ≡ false → walked bench_leaf.rules [] start first ≡ at 2 (start_held first)
bench_whole first no_dash = walked_value bench_leaf.rules [] 1 nothing_held first refl no_dash

start_wants : (first : Text) → level_with bench_leaf (at 2 (start_held first)) (walk_fault bench_leaf [] (at 2 (start_held first)) []) ≢ []
unfolding clap_on_literals
start_wants first e = cc

count_walk : (first count : Text) (rest : List Text) → begins_with_dash count ≡ false
    → walk_fault bench_leaf [] (at 2 (start_held first)) (count ∷ rest) ≡ walk_fault bench_leaf [] (at 3 (both_held first count)) rest
count_walk first count rest no_dash = fault_step bench_leaf [] 2 (start_held first) count rest refl no_dash

count_whole : (first count : Text) → begins_with_dash count ≡ false → walked bench_leaf.rules [] (at 2 (start_held first)) count ≡ at 3 (both_held first count)
count_whole first count no_dash = walked_value bench_leaf.rules [] 2 (start_held first) count refl no_dash

bench_ends : (first count : Text) → level_with bench_leaf (at 3 (both_held first count)) (walk_fault bench_leaf [] (at 3 (both_held first count)) []) ≡ []
unfolding clap_on_literals
bench_ends first count = refl

bench_reads : (first count : Text) → form_in (codes "bench") (finished bench_leaf.rules (both_held first count)) ≡ of_bench (first ∷ count ∷ [])
unfolding clap_on_literals
bench_reads first count = refl

bench_fails : (first count word : Text) (rest : List Text) → begins_with_dash first ≡ false → begins_with_dash count ≡ false → begins_with_dash word ≡ false
    → level bench_leaf (first ∷ count ∷ word ∷ rest) ≢ []
bench_fails first count word rest p q r e =
    stray bench_leaf [] 3 (both_held first count) word rest refl refl r
    (sym (bench_walk first (count ∷ word ∷ rest) p ∙ count_walk first count (word ∷ rest) q) ∙ first_part _ _ e)

told_bench : (own : List Text) → list_any begins_with_dash own ≡ false → Told (codes "bench" ∷ own)
told_bench [] no_dash = told_refused (codes "bench") bench_leaf [] (enters_bench []) bench_wants refl
told_bench (first ∷ []) no_dash =
    let plain = (no_rest first [] no_dash).0 in
    told_refused (codes "bench") bench_leaf (first ∷ []) (enters_bench (first ∷ []))
    (λ e. start_wants first (sym (ap₂ (level_with bench_leaf) (bench_whole first plain) (bench_walk first [] plain)) ∙ e)) refl
told_bench (first ∷ count ∷ []) no_dash =
    let plain = no_rest first (count ∷ []) no_dash in
    let next = (no_rest count [] plain.1).0 in
    let whole : walk bench_leaf.rules [] nothing_held (first ∷ count ∷ []) ≡ at 3 (both_held first count) =
    ap (λ (w : Walk). walked bench_leaf.rules [] w count) (bench_whole first plain.0) ∙ count_whole first count next in
    told_taken (codes "bench") bench_leaf (first ∷ count ∷ []) (enters_bench (first ∷ count ∷ []))
    (ap₂ (level_with bench_leaf) whole (bench_walk first (count ∷ []) plain.0 ∙ count_walk first count [] next) ∙ bench_ends first count)
    (ap (λ (w : Walk). form_in (codes "bench") (finished bench_leaf.rules w.held)) whole ∙ bench_reads first count)
told_bench (first ∷ count ∷ word ∷ rest) no_dash =
    let plain = no_rest first (count ∷ word ∷ rest) no_dash in
    let next = no_rest count (word ∷ rest) plain.1 in
    told_refused (codes "bench") bench_leaf (first ∷ count ∷ word ∷ rest) (enters_bench (first ∷ count ∷ word ∷ rest))
    (bench_fails first count word rest plain.0 next.0 (no_rest word rest next.1).0) refl

-- ---- every list

differs : (a b : Text) → bytes_eq a b ≡ false → bytes_eq b a ≡ false
differs a b e = go (bytes_eq b a) refl
  where
    go : (x : Bool) → bytes_eq b a ≡ x → x ≡ false
    go false is = refl
    go true is =
        let clash : true ≡ false = sym ((bytes_eq-Decides a b).1 (sym ((bytes_eq-Decides b a).0 is))) ∙ e in
        absurd cc

no_subcommand : (name : Text) → bytes_eq name (codes "replay") ≡ false → bytes_eq name (codes "live") ≡ false → bytes_eq name (codes "node") ≡ false
    → bytes_eq name (codes "bench") ≡ false → bytes_eq name (codes "audit") ≡ false → subcommand_met (names_of app) idle name ≡ None
no_subcommand name p q r s t = rw (differs name (codes "replay") p, differs name (codes "live") q, differs name (codes "node") r, differs name (codes "bench") s, differs name (codes "audit") t) refl

no_words : Told []
unfolding clap_on_literals
no_words = inr (λ e. cc, refl)

-- words that are no flags are a form that `clap` takes, or no form, and `clap` refuses them
pub told : (words : List Text) → list_any begins_with_dash words ≡ false → Told words
told [] no_dash = no_words
told (name ∷ own) no_dash =
    let plain = no_rest name own no_dash in
    by_name (λ (n : Text). begins_with_dash n ≡ false → Told (n ∷ own)) (λ _. told_replay own plain.1) (λ _. told_live own plain.1) (λ _. told_node own plain.1)
    (λ _. told_bench own plain.1) (λ _. told_audit own plain.1) name
    (λ p q r s t no_flag. inr (λ e. stray app.top (names_of app) 1 nothing_held name own refl (no_subcommand name p q r s t) no_flag (first_part _ _ e), others_are_none name own p q r s t))
    plain.0
