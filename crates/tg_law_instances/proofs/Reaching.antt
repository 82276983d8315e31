-- The moves of a script: by them a run reaches its world, and each entry was begun on the way.
use Rattle.std.proofs.Common.{◌≡◌, ℕ, ◌≤◌, List, [], ◌∷◌, ◌++◌, length, Bool, true, false, Option, Some, None, refl, sym, ap, ◌∙◌, subst, inl, inr}
use Rattle.std.specs.Prelude.{◌&&◌, ◌==◌, nat_lt, nat_le}
use Rattle.std.specs.List.{list_any, list_all}
use Rattle.std.specs.Cmp.Lexicographic.{pointwise, pointwise_decides}
use Rattle.tg_base.specs.Changes.{is_change}
use Rattle.tg_base.specs.Clusters.{Header, IsHeader}
use Rattle.tg_base.specs.Units.{is_within}
use Rattle.tg_base.specs.declared.ids.NodeId.{NodeId}
use Rattle.tg_base.specs.declared.ids.Oid.{Oid}
use Rattle.tg_base.specs.declared.marks.Part.{Part}
use Rattle.tg_entry.specs.declared.entry.Body.{Body}
use Rattle.tg_entry.specs.declared.entry.Body.TheVariants.{Commit, Decision, Checkpoint}
use Rattle.tg_entry.specs.declared.entry.Entry.{Entry}
use Rattle.tg_entry.specs.Records.{is_object, linked}
use Rattle.tg_base.specs.Parts.{is_part}
use Rattle.tg_kind.specs.Parts.{part_eq}
use Rattle.tg_model.specs.declared.command.Command.TheVariants as cmd
use Rattle.tg_model.specs.declared.command.Event.TheVariants.{Command as Commands, Deliver, Lose, Tick, Stop}
use Rattle.tg_model.specs.Kinds.{CommandOf}
use Rattle.tg_protocol.specs.Words.{client_id, bytes_eq, directory, numbers}
use Rattle.tg_base.specs.Orders.{oid_eq}
use Rattle.tg_protocol.specs.Entries.{streams_of}
use Rattle.tg_protocol.specs.Appending.{Append}
use Rattle.tg_protocol.specs.Holding.{append_by, EntriesOwn}
use Rattle.tg_protocol.specs.Worlds.{Line, start, client, next_event, happens}
use Rattle.tg_protocol.specs.Runs.{declared_of, IsSpelled, LawfulCommand, LawfulEvent, Move, Moves, Next, Takes, LawfulMove, run, Reaches, most_steps}
use Rattle.tg_law_verdicts.proofs.Members.{Has, has_contained, and_both, both_and, found, all_pass}
use Rattle.tg_law_verdicts.proofs.Tests.{same_number, number_same, same_oid, lt_of, le_of}
use Rattle.tg_law_examples.proofs.SevenKinds.{kinds}
use Rattle.tg_law_examples.proofs.Sameness.{same}
use Rattle.tg_law_instances.proofs.Same.{Exact, exact_by, oids_exact, bytes_same, parts_same, part_itself, writes_exact, sameness_exact}
use Rattle.tg_law_instances.proofs.Readings.{then_so, bools_same, has_either, es_of, of_log}
use Rattle.tg_protocol.specs.Headline.{Holds}
use Rattle.tg_law_instances.proofs.RunSound.{LinesHold}
use Rattle.tg_law_instances.proofs.KeepSound.{reads_exact}
use Rattle.tg_law_instances.proofs.Tests.{W, E, implies, bool_eq, oids_eq, writes_eq}
use Rattle.tg_law_instances.proofs.StepTests.{reads_eq, line_ev, all_of}

-- The moves of a script, and the world that they make.

abbrev steps_of : List E → Moves kinds
steps_of [] = []
steps_of (e ∷ es) = Takes e ∷ steps_of es

abbrev pub script_moves : List (Line kinds) → W → Moves kinds
script_moves [] w = []
script_moves (x ∷ xs) w = let v = next_event kinds w in let es = line_ev v x in Next ∷ (steps_of es ++ script_moves xs (all_of es v))

abbrev pub script_world : List (Line kinds) → W → W
script_world [] w = w
script_world (x ∷ xs) w = let v = next_event kinds w in script_world xs (all_of (line_ev v x) v)

run_both : (xs ys : Moves kinds) (w : W) → run kinds (xs ++ ys) w ≡ run kinds ys (run kinds xs w)
unfolding run
run_both [] ys w = refl
run_both (Next ∷ xs) ys w = run_both xs ys (next_event kinds w)
run_both (Takes e ∷ xs) ys w = run_both xs ys (happens kinds w e)

run_steps : (es : List E) (w : W) → run kinds (steps_of es) w ≡ all_of es w
unfolding run
run_steps [] w = refl
run_steps (e ∷ es) w = run_steps es (happens kinds w e)

run_line : (es : List E) (ms : Moves kinds) (w : W) → run kinds (Next ∷ (steps_of es ++ ms)) w ≡ run kinds ms (all_of es (next_event kinds w))
unfolding run
run_line es ms w = run_both (steps_of es) ms (next_event kinds w) ∙ ap (λ (v : W). run kinds ms v) (run_steps es (next_event kinds w))

run_is : (xs : List (Line kinds)) (w : W) → run kinds (script_moves xs w) w ≡ script_world xs w
unfolding run
run_is [] w = refl
run_is (x ∷ xs) w =
    let v = next_event kinds w in
    let es = line_ev v x in
    run_line es (script_moves xs (all_of es v)) w ∙ run_is xs (all_of es v)

-- Lawful events.

abbrev reads_back : Option kinds.op → kinds.op → Bool
reads_back None op = false
reads_back (Some x) op = same.ops x op

abbrev spelled : Oid → kinds.op → Bool
spelled o op = reads_back (kinds.read o (kinds.spell op)) op && is_within 1 4096 (length (kinds.spell op))

abbrev lawful_command : CommandOf kinds → Bool
lawful_command (cmd.Host o) = is_object o
lawful_command (cmd.Put o op) = is_object o && implies (kinds.allows o op) (spelled o op)
lawful_command (cmd.Ask o q) = is_object o && is_part (kinds.look q)
lawful_command (cmd.Checkpoint o) = is_object o
lawful_command (cmd.Forget o mark) = is_object o && spelled directory (kinds.mark_op o mark)
lawful_command (cmd.Reconf c) = is_change c
lawful_command (cmd.AskAt at o q) = is_object o
lawful_command x = true

abbrev declares : Header → NodeId → Bool
declares h n = nat_lt n.num (declared_of h n.role)

abbrev lawful_event : Header → E → Bool
lawful_event h (Commands k x) = declares h (client_id k) && lawful_command x
lawful_event h (Tick n) = declares h n
lawful_event h (Stop n) = declares h n
lawful_event h e = true

abbrev lawful_steps : Header → List E → Bool
lawful_steps h es = list_all (lawful_event h) es

unfoldable pub lawful_lines : Header → List (Line kinds) → W → Bool
lawful_lines h [] w = nat_le w.steps most_steps
lawful_lines h (x ∷ xs) w = let v = next_event kinds w in let es = line_ev v x in lawful_steps h es && lawful_lines h xs (all_of es v)

back_is : (o : Option kinds.op) (op : kinds.op) → reads_back o op ≡ true → o ≡ Some op
back_is None op h = absurd cc
back_is (Some x) op h = ap (λ (y : kinds.op). Some y) ((sameness_exact.ops x op).0 h)

spelled_is : (o : Oid) (op : kinds.op) → spelled o op ≡ true → IsSpelled kinds o op
spelled_is o op h =
    let b = and_both (reads_back (kinds.read o (kinds.spell op)) op) (is_within 1 4096 (length (kinds.spell op))) h in
    record { read = back_is (kinds.read o (kinds.spell op)) op b.0; fits = b.1 }

command_is : (x : CommandOf kinds) → lawful_command x ≡ true → LawfulCommand kinds x
command_is (cmd.Host o) h = h
command_is (cmd.Put o op) h = let b = and_both (is_object o) (implies (kinds.allows o op) (spelled o op)) h in (b.0, λ a short. spelled_is o op (then_so (kinds.allows o op) (spelled o op) b.1 a))
command_is (cmd.Ask o q) h = and_both (is_object o) (is_part (kinds.look q)) h
command_is (cmd.Checkpoint o) h = h
command_is (cmd.Forget o mark) h = let b = and_both (is_object o) (spelled directory (kinds.mark_op o mark)) h in (b.0, spelled_is directory (kinds.mark_op o mark) b.1)
command_is (cmd.Reconf c) h = h
command_is (cmd.AskAt at o q) h = h
command_is x h = tt

event_is : (h : Header) (e : E) → lawful_event h e ≡ true → LawfulEvent kinds h e
event_is h (Commands k x) t = let b = and_both (declares h (client_id k)) (lawful_command x) t in (lt_of k (declared_of h (client_id k).role) b.0, command_is x b.1)
event_is h (Deliver i) t = tt
event_is h (Lose i) t = tt
event_is h (Tick n) t = lt_of n.num (declared_of h n.role) t
event_is h (Stop n) t = lt_of n.num (declared_of h n.role) t

steps_are : (h : Header) (es : List E) → lawful_steps h es ≡ true → (x : Move kinds) → Has (steps_of es) x → LawfulMove kinds h x
steps_are h [] t x i = absurd i
steps_are h (e ∷ es) t x (inl s) = subst (λ (y : Move kinds). LawfulMove kinds h y) (sym s) (event_is h e (and_both (lawful_event h e) (list_all (lawful_event h) es) t).0)
steps_are h (e ∷ es) t x (inr i) = steps_are h es (and_both (lawful_event h e) (list_all (lawful_event h) es) t).1 x i

moves_are : (h : Header) (xs : List (Line kinds)) (w : W) → lawful_lines h xs w ≡ true → (x : Move kinds) → Has (script_moves xs w) x → LawfulMove kinds h x
unfolding lawful_lines
moves_are h [] w t x i = absurd i
moves_are h (l ∷ xs) w t x (inl e) = subst (λ (y : Move kinds). LawfulMove kinds h y) (sym e) tt
moves_are h (l ∷ xs) w t x (inr i) =
    let v = next_event kinds w in
    let es = line_ev v l in
    let b = and_both (lawful_steps h es) (lawful_lines h xs (all_of es v)) t in
    elim (has_either (steps_of es) (script_moves xs (all_of es v)) x i) [ inl j ↦ steps_are h es b.0 x j | inr j ↦ moves_are h xs (all_of es v) b.1 x j ]

few_steps : (h : Header) (xs : List (Line kinds)) (w : W) → lawful_lines h xs w ≡ true → (script_world xs w).steps ≤ most_steps
unfolding lawful_lines
few_steps h [] w t = le_of w.steps most_steps t
few_steps h (x ∷ xs) w t =
    let v = next_event kinds w in
    let es = line_ev v x in
    few_steps h xs (all_of es v) (and_both (lawful_steps h es) (lawful_lines h xs (all_of es v)) t).1

-- a script of lawful events is a run that reaches its world
pub reaches_sound : (h : Header) (xs : List (Line kinds)) → IsHeader h → lawful_lines h xs (start kinds h) ≡ true → Reaches kinds h (script_moves xs (start kinds h)) (script_world xs (start kinds h))
unfolding start
reaches_sound h xs is t = record {
  header = is;
  goes = record {
    lawful = λ x c. moves_are h xs (start kinds h) t x (has_contained (script_moves xs (start kinds h)) x c);
    is = sym (run_is xs (start kinds h));
    few = few_steps h xs (start kinds h) t;
  };
}

-- and of the world that it reaches the headline holds, where it does after each line

abbrev has_lines : List (Line kinds) → Bool
has_lines [] = false
has_lines (x ∷ xs) = true

pub last_holds : (xs : List (Line kinds)) (w : W) → has_lines xs ≡ true → LinesHold xs w → Holds kinds (script_world xs w)
unfolding LinesHold
last_holds [] w some h = absurd cc
last_holds (x ∷ []) w some h = h.0.holds
last_holds (x ∷ y ∷ xs) w some h = let v = next_event kinds w in last_holds (y ∷ xs) (all_of (line_ev v x) v) refl h.1

-- Drafts that clients append along a run.

abbrev draft_if : ℕ → Option Append → List (ℕ × Append)
draft_if k None = []
draft_if k (Some a) = (k, a) ∷ []

abbrev drafts_at : W → List ℕ → List (ℕ × Append)
drafts_at v [] = []
drafts_at v (k ∷ ks) = draft_if k (append_by kinds (client kinds v k).work) ++ drafts_at v ks

abbrev drafts_of : List E → W → List (ℕ × Append)
drafts_of [] w = []
drafts_of (e ∷ es) w = let v = happens kinds w e in drafts_at v (numbers (length v.clients) 0) ++ drafts_of es v

unfoldable pub drafts_in : List (Line kinds) → W → List (ℕ × Append)
drafts_in [] w = []
drafts_in (x ∷ xs) w = let v = next_event kinds w in let es = line_ev v x in drafts_of es v ++ drafts_in xs (all_of es v)

draft_one : (k j : ℕ) (o : Option Append) (a : Append) → Has {X = ℕ × Append} (draft_if k o) (j, a) → (k ≡ j) × (o ≡ Some a)
draft_one k j None a i = absurd i
draft_one k j (Some b) a (inl e) = (sym (ap (λ (y : ℕ × Append). y.0) e), ap (λ (c : Append). Some c) (sym (ap (λ (y : ℕ × Append). y.1) e)))
draft_one k j (Some b) a (inr i) = absurd i

draft_at : (v : W) (ks : List ℕ) (k : ℕ) (a : Append) → Has {X = ℕ × Append} (drafts_at v ks) (k, a) → append_by kinds (client kinds v k).work ≡ Some a
draft_at v [] k a i = absurd i
draft_at v (j ∷ ks) k a i =
    elim (has_either (draft_if j (append_by kinds (client kinds v j).work)) (drafts_at v ks) (k, a) i) [
      | inl h ↦ (let b = draft_one j k (append_by kinds (client kinds v j).work) a h in subst (λ (n : ℕ). append_by kinds (client kinds v n).work ≡ Some a) b.0 b.1)
      | inr h ↦ draft_at v ks k a h
    ]

record InSteps (es : List E) (w : W) (k : ℕ) (a : Append) : Type 0 where
  before : List E
  after : List E
  split : es ≡ before ++ after
  is : append_by kinds (client kinds (all_of before w) k).work ≡ Some a

in_steps : (es : List E) (w : W) (k : ℕ) (a : Append) → Has {X = ℕ × Append} (drafts_of es w) (k, a) → InSteps es w k a
in_steps [] w k a i = absurd i
in_steps (e ∷ es) w k a i =
    let v = happens kinds w e in
    elim (has_either (drafts_at v (numbers (length v.clients) 0)) (drafts_of es v) (k, a) i) [
      | inl h ↦ record { before = e ∷ []; after = es; split = refl; is = draft_at v (numbers (length v.clients) 0) k a h }
      | inr h ↦ (let s = in_steps es v k a h in record { before = e ∷ s.before; after = s.after; split = ap (λ xs. e ∷ xs) s.split; is = s.is })
    ]

record InMoves (ms : Moves kinds) (w : W) (k : ℕ) (a : Append) : Type 0 where
  before : Moves kinds
  after : Moves kinds
  split : ms ≡ before ++ after
  is : append_by kinds (client kinds (run kinds before w) k).work ≡ Some a

steps_both : (xs ys : List E) (ms : Moves kinds) → steps_of (xs ++ ys) ++ ms ≡ steps_of xs ++ (steps_of ys ++ ms)
steps_both [] ys ms = refl
steps_both (x ∷ xs) ys ms = ap (λ zs. Takes x ∷ zs) (steps_both xs ys ms)

steps_then : (xs : List E) (ms ns : Moves kinds) → steps_of xs ++ (ms ++ ns) ≡ (steps_of xs ++ ms) ++ ns
steps_then [] ms ns = refl
steps_then (x ∷ xs) ms ns = ap (λ zs. Takes x ∷ zs) (steps_then xs ms ns)

run_next : (es : List E) (w : W) → run kinds (Next ∷ steps_of es) w ≡ all_of es (next_event kinds w)
unfolding run
run_next es w = run_steps es (next_event kinds w)

in_moves : (xs : List (Line kinds)) (w : W) (k : ℕ) (a : Append) → Has {X = ℕ × Append} (drafts_in xs w) (k, a) → InMoves (script_moves xs w) w k a
unfolding drafts_in
in_moves [] w k a i = absurd i
in_moves (x ∷ xs) w k a i =
    let v = next_event kinds w in
    let es = line_ev v x in
    let rest = script_moves xs (all_of es v) in
    elim (has_either (drafts_of es v) (drafts_in xs (all_of es v)) (k, a) i) [
      | inl h ↦ (let s = in_steps es v k a h in record {
        before = Next ∷ steps_of s.before;
        after = steps_of s.after ++ rest;
        split = ap (λ (ds : List E). Next ∷ (steps_of ds ++ rest)) s.split ∙ ap (λ (ms : Moves kinds). Next ∷ ms) (steps_both s.before s.after rest);
        is = ap (λ (u : W). append_by kinds (client kinds u k).work) (run_next s.before w) ∙ s.is;
      })
      | inr h ↦ (let s = in_moves xs (all_of es v) k a h in record {
        before = Next ∷ (steps_of es ++ s.before);
        after = s.after;
        split = ap (λ (ms : Moves kinds). Next ∷ (steps_of es ++ ms)) s.split ∙ ap (λ (ms : Moves kinds). Next ∷ ms) (steps_then es s.before s.after);
        is = ap (λ (u : W). append_by kinds (client kinds u k).work) (run_line es s.before w) ∙ s.is;
      })
    ]

-- Entries are drafts with other links.

abbrev key_eq : Part × ℕ → Part × ℕ → Bool
key_eq x y = part_eq x.0 y.0 && (x.1 == y.1)

abbrev keys_eq : List (Part × ℕ) → List (Part × ℕ) → Bool
keys_eq xs ys = pointwise key_eq xs ys

abbrev body_eq : Body → Body → Bool
body_eq (Commit rs ws) (Commit qs vs) = reads_eq rs qs && writes_eq ws vs
body_eq (Decision p b) (Decision q c) = (p == q) && bool_eq b c
body_eq (Checkpoint o u v a ks s) (Checkpoint p x y b ls t) = oid_eq o p && (u == x) && (v == y) && (a == b) && keys_eq ks ls && bytes_eq s t
body_eq a b = false

key_same : (x y : Part × ℕ) → key_eq x y ≡ true → x ≡ y
key_same x y h =
    let b = and_both (part_eq x.0 y.0) (x.1 == y.1) h in
    let p = parts_same x.0 y.0 b.0 in
    let n = same_number x.1 y.1 b.1 in
    λ i. (p i, n i)

key_itself : (x : Part × ℕ) → key_eq x x ≡ true
key_itself x = both_and (part_eq x.0 x.0) (x.1 == x.1) (part_itself x.0) (number_same x.1 x.1 refl)

keys_exact : Exact keys_eq
keys_exact a b = pointwise_decides (exact_by key_eq key_same key_itself) a b

bodies_same : (a b : Body) → body_eq a b ≡ true → a ≡ b
bodies_same (Commit rs ws) (Commit qs vs) h =
    let b = and_both (reads_eq rs qs) (writes_eq ws vs) h in
    let e0 = (reads_exact rs qs).0 b.0 in
    let e1 = (writes_exact ws vs).0 b.1 in
    λ i. Commit (e0 i) (e1 i)
bodies_same (Decision p b) (Decision q c) h =
    let d = and_both (p == q) (bool_eq b c) h in
    let e0 = same_number p q d.0 in
    let e1 = sym (bools_same b c d.1) in
    λ i. Decision (e0 i) (e1 i)
bodies_same (Checkpoint o u v a ks s) (Checkpoint p x y b ls t) h =
    let c1 = and_both (oid_eq o p && (u == x) && (v == y) && (a == b) && keys_eq ks ls) (bytes_eq s t) h in
    let c2 = and_both (oid_eq o p && (u == x) && (v == y) && (a == b)) (keys_eq ks ls) c1.0 in
    let c3 = and_both (oid_eq o p && (u == x) && (v == y)) (a == b) c2.0 in
    let c4 = and_both (oid_eq o p && (u == x)) (v == y) c3.0 in
    let c5 = and_both (oid_eq o p) (u == x) c4.0 in
    let e0 = same_oid o p c5.0 in
    let e1 = same_number u x c5.1 in
    let e2 = same_number v y c4.1 in
    let e3 = same_number a b c3.1 in
    let e4 = (keys_exact ks ls).0 c2.1 in
    let e5 = bytes_same s t c1.1 in
    λ i. Checkpoint (e0 i) (e1 i) (e2 i) (e3 i) (e4 i) (e5 i)
bodies_same a b h = absurd cc

abbrev drafted : Entry → Entry → Bool
drafted d e = (e.head.format == d.head.format) && (e.head.client == d.head.client) && (e.head.number == d.head.number) && body_eq e.body d.body

drafted_is : (d e : Entry) → drafted d e ≡ true → e ≡ linked d e.head.streams
drafted_is d e h =
    let b1 = and_both ((e.head.format == d.head.format) && (e.head.client == d.head.client) && (e.head.number == d.head.number)) (body_eq e.body d.body) h in
    let b2 = and_both ((e.head.format == d.head.format) && (e.head.client == d.head.client)) (e.head.number == d.head.number) b1.0 in
    let b3 = and_both (e.head.format == d.head.format) (e.head.client == d.head.client) b2.0 in
    let e0 = same_number e.head.format d.head.format b3.0 in
    let e1 = same_number e.head.client d.head.client b3.1 in
    let e2 = same_number e.head.number d.head.number b2.1 in
    let e3 = bodies_same e.body d.body b1.1 in
    λ i. record { head = record { format = e0 i; client = e1 i; number = e2 i; streams = e.head.streams }; body = e3 i }

abbrev is_draft_of : Entry → ℕ × Append → Bool
is_draft_of e y = (y.0 == e.head.client) && drafted y.1.draft e && oids_eq (streams_of e) (streams_of y.1.draft)

abbrev pub are_own : List (ℕ × Append) → W → Bool
are_own ds w = list_all (λ (x : ℕ × Entry). list_any (is_draft_of x.1) ds) (es_of w)

pub own_sound : (h : Header) (xs : List (Line kinds)) → are_own (drafts_in xs (start kinds h)) (script_world xs (start kinds h)) ≡ true → EntriesOwn kinds h (script_moves xs (start kinds h)) (script_world xs (start kinds h))
own_sound h xs t p e here =
    let w = script_world xs (start kinds h) in
    let ds = drafts_in xs (start kinds h) in
    let y = found (is_draft_of e) ds (all_pass (λ (x : ℕ × Entry). list_any (is_draft_of x.1) ds) (es_of w) t (p, e) (of_log w p e here)) in
    let a = y.it.1 in
    let b = and_both ((y.it.0 == e.head.client) && drafted a.draft e) (oids_eq (streams_of e) (streams_of a.draft)) y.passes in
    let c = and_both (y.it.0 == e.head.client) (drafted a.draft e) b.0 in
    let m = in_moves xs (start kinds h) y.it.0 a y.has in
    let at = run kinds m.before (start kinds h) in
    record {
      at = at;
      passed = record { before = m.before; after = m.after; split = m.split; is = refl };
      append = a;
      begun = subst (λ (k : ℕ). append_by kinds (client kinds at k).work ≡ Some a) (same_number y.it.0 e.head.client c.0) m.is;
      draft = drafted_is a.draft e c.1;
      streams = (pointwise_decides oids_exact (streams_of e) (streams_of a.draft)).0 b.1;
    }
