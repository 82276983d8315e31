-- One line more: what a line makes of what was begun has that line behind the others, and each beginning is made so.
use Rattle.std.proofs.Common.{◌≡◌, ◌⊎◌, ℕ, Bool, true, false, cond, ltb, List, [], ◌∷◌, ◌++◌, length, map, Option, Some, None, inl, inr, ⊎_elim, sym, refl, subst, ap, ◌∙◌, arith, length-append}
use Rattle.std.specs.Prelude.{option_map, option_and_then, nat_le}
use Rattle.std.specs.List.{list_all}
use Rattle.std.specs.Str.{IsAscii}
use Rattle.std.proofs.lemmas.Bool.Decides.{nat_tests}
use mathlib.Core.List.{append_assoc, append-nil}
use Rattle.tg_base.specs.declared.ids.Oid.{Oid}
use Rattle.tg_base.specs.Units.{is_rising}
use Rattle.tg_codec.proofs.Laws.{and-left, and-right, both}
use Rattle.tg_any.specs.AnyWords.{or_other}
use Rattle.tg_any.proofs.Numbers.{map_takes, bind_takes, when_takes}
use Rattle.tg_any.proofs.Fronts.{bind_again, if_takes, if_again}
use Rattle.tg_trace.specs.declared.beginning.Beginning.{Beginning}
use Rattle.tg_trace.specs.declared.beginning.Past.{Past}
use Rattle.tg_trace.specs.Lines.{words_of}
use Rattle.tg_trace.specs.Transcripts.{Reply, Entry, objects, reply, entry, count, line_by, stamps}
use Rattle.tg_trace.specs.Reading.{begun_lines, is_begun, begin, with_reply, with_count, with_entry, is_above, next_entry, step_past, step}
use Rattle.tg_trace.proofs.Phrases.{or_other_takes, or_other_first, or_other_second}
use Rattle.tg_trace.proofs.Bytes.{all_append}
use Rattle.tg_trace.proofs.LineForms.{line_none}
use Rattle.tg_trace.proofs.LineWords.{objects_line, count_line, reply_line, entry_line, count_is_no_reply}

-- what was read, and its lines
abbrev pub lines_of : Option Beginning → List (List ℕ)
lines_of None = []
lines_of (Some b) = begun_lines b

abbrev pub is_so_far : Option Beginning → Bool
is_so_far None = true
is_so_far (Some b) = is_begun b

abbrev of_parts : List Oid → List Reply → Option Past → Beginning
of_parts os ms h = record { objects = os; trace = ms; history = h }

abbrev past_of : ℕ → List Entry → Past
past_of n ds = record { count = n; entries = ds }

-- Lists with one item more.

pub mapped_more : {A B : Type 0} (f : A → B) (xs : List A) (x : A) → map f (xs ++ x ∷ []) ≡ map f xs ++ f x ∷ []
mapped_more f [] x = refl
mapped_more f (y ∷ xs) x = ap (λ t. f y ∷ t) (mapped_more f xs x)

all_front : {A : Type 0} (p : A → Bool) (xs : List A) (x : A) → list_all p (xs ++ x ∷ []) ≡ true → (list_all p xs ≡ true) × (p x ≡ true)
all_front p [] x e = (refl, and-left _ _ e)
all_front p (y ∷ xs) x e = let h = all_front p xs x (and-right _ _ e) in (both _ _ (and-left _ _ e) h.0, h.1)

all_more : {A : Type 0} (p : A → Bool) (xs : List A) (x : A) → list_all p xs ≡ true → p x ≡ true → list_all p (xs ++ x ∷ []) ≡ true
all_more p xs x e f = all_append p xs (x ∷ []) e (both _ _ f refl)

pub record IsMore {A : Type 0} (xs : List A) : Type 0 where
  pub front : List A
  pub last : A
  pub same : xs ≡ front ++ last ∷ []

more_more : {A : Type 0} (x : A) (xs : List A) → IsMore xs → IsMore (x ∷ xs)
more_more x xs h = record { front = x ∷ h.front; last = h.last; same = ap (λ t. x ∷ t) h.same }

pub none_or_more : {A : Type 0} (xs : List A) → (xs ≡ []) ⊎ IsMore xs
none_or_more [] = inl refl
none_or_more {A} (x ∷ xs) = ⊎_elim
    (λ (e : xs ≡ []). inr (record { front = []; last = x; same = ap (λ (t : List A). x ∷ t) e }))
    (λ (h : IsMore xs). inr (more_more x xs h)) (none_or_more xs)

pub record AreSame {A : Type 0} (xs ys : List A) (x y : A) : Type 0 where
  pub fronts : xs ≡ ys
  pub lasts : x ≡ y

pub last_same : {A : Type 0} (xs ys : List A) (x y : A) → xs ++ x ∷ [] ≡ ys ++ y ∷ [] → AreSame xs ys x y
last_same [] [] x y e = record { fronts = refl; lasts = cc }
last_same {A} [] (z ∷ ys) x y e = let len : length (x ∷ []) ≡ length (z ∷ ys ++ y ∷ []) = ap (λ (t : List A). length t) e in absurd (omega (arith, len, length-append ys (y ∷ [])))
last_same {A} (z ∷ xs) [] x y e = let len : length (z ∷ xs ++ x ∷ []) ≡ length (y ∷ []) = ap (λ (t : List A). length t) e in absurd (omega (arith, len, length-append xs (x ∷ [])))
last_same {A} (z ∷ xs) (w ∷ ys) x y e =
    let heads : z ≡ w = cc in
    let tails : xs ++ x ∷ [] ≡ ys ++ y ∷ [] = cc in
    let h = last_same xs ys x y tails in record { fronts = rw (heads, h.fronts) refl; lasts = h.lasts }

-- Rising places.

rising_more : (ds : List Entry) (d : Entry) → is_rising (stamps ds) ≡ true → is_above ds d.stamp ≡ true → is_rising (stamps (ds ++ d ∷ [])) ≡ true
rising_more [] d e f = refl
rising_more (x ∷ []) d e f = both _ _ f refl
rising_more (x ∷ y ∷ ds) d e f = both _ _ (and-left _ _ e) (rising_more (y ∷ ds) d (and-right _ _ e) f)

rising_front : (ds : List Entry) (d : Entry) → is_rising (stamps (ds ++ d ∷ [])) ≡ true → (is_rising (stamps ds) ≡ true) × (is_above ds d.stamp ≡ true)
rising_front [] d e = (refl, refl)
rising_front (x ∷ []) d e = (refl, and-left _ _ e)
rising_front (x ∷ y ∷ ds) d e = let h = rising_front (y ∷ ds) d (and-right _ _ e) in (both _ _ (and-left _ _ e) h.0, h.1)

-- What a line makes.

pub record Grown (so_far : Option Beginning) (line : List ℕ) (b : Beginning) : Type 0 where
  pub lines : begun_lines b ≡ lines_of so_far ++ line ∷ []
  pub lawful : is_begun b ≡ true

begin_grown : (line : List ℕ) (os : List Oid) → objects.read (words_of line) ≡ Some os → Grown None line (begin os)
unfolding is_begun
begin_grown line os e =
    let h = objects_line.takes line os e in
    record { lines = ap (λ (l : List ℕ). l ∷ []) (sym h.0); lawful = both _ _ (both _ _ h.1 refl) refl }

reply_lines : (first line : List ℕ) (f : Reply → List ℕ) (ms : List Reply) (m : Reply) → line ≡ f m → first ∷ map f (ms ++ m ∷ []) ++ [] ≡ (first ∷ map f ms ++ []) ++ line ∷ []
reply_lines first line f ms m e = rw (e, append-nil (map f (ms ++ m ∷ [])), append-nil (map f ms), mapped_more f ms m) refl

reply_grown : (line : List ℕ) (os : List Oid) (ms : List Reply) (m : Reply) → is_begun (of_parts os ms None) ≡ true → reply.read (words_of line) ≡ Some m → Grown (Some (of_parts os ms None)) line (of_parts os (ms ++ m ∷ []) None)
unfolding is_begun
reply_grown line os ms m e f =
    let h = reply_line.takes line m f in
    record {
      lines = reply_lines (line_by objects os) line (line_by reply) ms m h.0;
      lawful = both _ _ (both _ _ (and-left _ _ (and-left _ _ e)) (all_more reply.fits ms m (and-right _ _ (and-left _ _ e)) h.1)) refl;
    }

count_lines : (first line : List ℕ) (ls : List (List ℕ)) (c : List ℕ) → line ≡ c → first ∷ ls ++ c ∷ [] ≡ (first ∷ ls ++ []) ++ line ∷ []
count_lines first line ls c e = rw (e, append-nil ls) refl

none_few : (n : ℕ) → nat_le 0 n ≡ true
none_few n = grind (arith, nat_tests)

count_grown : (line : List ℕ) (os : List Oid) (ms : List Reply) (n : ℕ) → is_begun (of_parts os ms None) ≡ true → count.read (words_of line) ≡ Some n → Grown (Some (of_parts os ms None)) line (of_parts os ms (Some (past_of n [])))
unfolding is_begun
count_grown line os ms n e f =
    let h = count_line.takes line n f in
    record {
      lines = count_lines (line_by objects os) line (map (line_by reply) ms) (line_by count n) h.0;
      lawful = both _ _ (and-left _ _ e) (both _ _ (both _ _ (both _ _ h.1 (none_few n)) refl) refl);
    }

entry_lines : (first line c : List ℕ) (ls : List (List ℕ)) (g : Entry → List ℕ) (ds : List Entry) (d : Entry) → line ≡ g d → first ∷ ls ++ c ∷ map g (ds ++ d ∷ []) ≡ (first ∷ ls ++ c ∷ map g ds) ++ line ∷ []
entry_lines first line c ls g ds d e = rw (e, mapped_more g ds d, append_assoc ls (c ∷ map g ds) (g d ∷ [])) refl

few_more : (ds : List Entry) (d : Entry) (n : ℕ) → ltb (length ds) n ≡ true → nat_le (length (ds ++ d ∷ [])) n ≡ true
few_more ds d n e = let len = length-append ds (d ∷ []) in grind (arith, nat_tests)

few_front : (ds : List Entry) (d : Entry) (n : ℕ) → nat_le (length (ds ++ d ∷ [])) n ≡ true → ltb (length ds) n ≡ true
few_front ds d n e = let len = length-append ds (d ∷ []) in grind (arith, nat_tests)

few_still : (ds : List Entry) (n : ℕ) → ltb (length ds) n ≡ true → nat_le (length ds) n ≡ true
few_still ds n e = grind (arith, nat_tests)

entry_grown : (line : List ℕ) (os : List Oid) (ms : List Reply) (n : ℕ) (ds : List Entry) (d : Entry) → is_begun (of_parts os ms (Some (past_of n ds))) ≡ true → next_entry (past_of n ds) (words_of line) ≡ Some d
    → Grown (Some (of_parts os ms (Some (past_of n ds)))) line (of_parts os ms (Some (past_of n (ds ++ d ∷ []))))
unfolding is_begun
entry_grown line os ms n ds d e f =
    let t = if_takes _ _ _ f in
    let b = bind_takes _ _ _ t.1 in
    let w = when_takes _ _ _ b.2 in
    let r : entry.read (words_of line) ≡ Some d = b.1 ∙ ap (λ (d : Entry). Some d) w.1 in
    let above : is_above ds d.stamp ≡ true = subst (λ (d : Entry). is_above ds d.stamp ≡ true) w.1 w.0 in
    let h = entry_line.takes line d r in
    let past = and-right _ _ e in
    record {
      lines = entry_lines (line_by objects os) line (line_by count n) (map (line_by reply) ms) (line_by entry) ds d h.0;
      lawful = both _ _ (and-left _ _ e) (both _ _ (both _ _ (both _ _ (and-left _ _ (and-left _ _ (and-left _ _ past))) (few_more ds d n t.0))
          (all_more entry.fits ds d (and-right _ _ (and-left _ _ past)) h.1)) (rising_more ds d (and-right _ _ past) above));
    }

none_takes : (line : List ℕ) (b : Beginning) → step None line ≡ Some b → Grown None line b
unfolding step
none_takes line b e = let m = map_takes begin (objects.read (words_of line)) b e in subst (λ (b : Beginning). Grown None line b) m.2 (begin_grown line m.0 m.1)

past_takes : (line : List ℕ) (os : List Oid) (ms : List Reply) (h : Option Past) (b : Beginning) → is_begun (of_parts os ms h) ≡ true → step (Some (of_parts os ms h)) line ≡ Some b → Grown (Some (of_parts os ms h)) line b
unfolding step
past_takes line os ms None b lawful e =
    or_other_takes _ _ b (Grown (Some (of_parts os ms None)) line b) e
    (λ f. let m = map_takes (with_reply (of_parts os ms None)) (reply.read (words_of line)) b f in
    subst (λ (b : Beginning). Grown (Some (of_parts os ms None)) line b) m.2 (reply_grown line os ms m.0 lawful m.1))
    (λ f. let m = map_takes (with_count (of_parts os ms None)) (count.read (words_of line)) b f in
    subst (λ (b : Beginning). Grown (Some (of_parts os ms None)) line b) m.2 (count_grown line os ms m.0 lawful m.1))
past_takes line os ms (Some p) b lawful e =
    let m = map_takes (with_entry (of_parts os ms (Some p)) p) (next_entry p (words_of line)) b e in
    subst (λ (b : Beginning). Grown (Some (of_parts os ms (Some p))) line b) m.2 (entry_grown line os ms p.count p.entries m.0 lawful m.1)

pub step_takes : (so_far : Option Beginning) (line : List ℕ) (b : Beginning) → is_so_far so_far ≡ true → step so_far line ≡ Some b → Grown so_far line b
step_takes None line b lawful e = none_takes line b e
step_takes (Some a) line b lawful e = past_takes line a.objects a.trace a.history b lawful e

-- Each beginning is made by its last line.

pub record Made (b : Beginning) (ls : List (List ℕ)) (line : List ℕ) : Type 0 where
  pub so_far : Option Beginning
  pub lawful : is_so_far so_far ≡ true
  pub lines : lines_of so_far ≡ ls
  pub makes : step so_far line ≡ Some b

begin_made : (os : List Oid) → is_begun (begin os) ≡ true → Made (begin os) [] (line_by objects os)
unfolding is_begun step
begin_made os e = record { so_far = None; lawful = refl; lines = refl; makes = ap (option_map begin) (objects_line.again os (and-left _ _ (and-left _ _ e))) }

reply_made : (os : List Oid) (ms : List Reply) (m : Reply) → is_begun (of_parts os (ms ++ m ∷ []) None) ≡ true → Made (of_parts os (ms ++ m ∷ []) None) (begun_lines (of_parts os ms None)) (line_by reply m)
unfolding is_begun step
reply_made os ms m e =
    let fits = all_front reply.fits ms m (and-right _ _ (and-left _ _ e)) in
    record {
      so_far = Some (of_parts os ms None);
      lawful = both _ _ (both _ _ (and-left _ _ (and-left _ _ e)) fits.0) refl;
      lines = refl;
      makes = or_other_first _ _ _ (ap (option_map (with_reply (of_parts os ms None))) (reply_line.again m fits.1));
    }

count_made : (os : List Oid) (ms : List Reply) (n : ℕ) → is_begun (of_parts os ms (Some (past_of n []))) ≡ true → Made (of_parts os ms (Some (past_of n []))) (begun_lines (of_parts os ms None)) (line_by count n)
unfolding is_begun step
count_made os ms n e =
    let fits : count.fits n ≡ true = and-left _ _ (and-left _ _ (and-left _ _ (and-right _ _ e))) in
    record {
      so_far = Some (of_parts os ms None);
      lawful = both _ _ (and-left _ _ e) refl;
      lines = refl;
      makes = or_other_second _ _ _ (ap (option_map (with_reply (of_parts os ms None))) (count_is_no_reply n fits)) (ap (option_map (with_count (of_parts os ms None))) (count_line.again n fits));
    }

entry_made : (os : List Oid) (ms : List Reply) (n : ℕ) (ds : List Entry) (d : Entry) → is_begun (of_parts os ms (Some (past_of n (ds ++ d ∷ [])))) ≡ true
    → Made (of_parts os ms (Some (past_of n (ds ++ d ∷ [])))) (begun_lines (of_parts os ms (Some (past_of n ds)))) (line_by entry d)
unfolding is_begun step
entry_made os ms n ds d e =
    let past = and-right _ _ e in
    let few = few_front ds d n (and-right _ _ (and-left _ _ (and-left _ _ past))) in
    let fits = all_front entry.fits ds d (and-right _ _ (and-left _ _ past)) in
    let rising = rising_front ds d (and-right _ _ past) in
    record {
      so_far = Some (of_parts os ms (Some (past_of n ds)));
      lawful = both _ _ (and-left _ _ e) (both _ _ (both _ _ (both _ _ (and-left _ _ (and-left _ _ (and-left _ _ past))) (few_still ds n few)) fits.0) rising.0);
      lines = refl;
      makes = ap (option_map (with_entry (of_parts os ms (Some (past_of n ds))) (past_of n ds))) (if_again _ _ _ few (bind_again _ _ _ _ (entry_line.again d fits.1) (if_again _ _ _ rising.1 refl)));
    }

-- the same with other words for its lines
made_of : (b : Beginning) (xs ls : List (List ℕ)) (l line : List ℕ) → begun_lines b ≡ xs ++ l ∷ [] → begun_lines b ≡ ls ++ line ∷ [] → Made b xs l → Made b ls line
made_of b xs ls l line e f h =
    let same = last_same xs ls l line (sym e ∙ f) in
    record { so_far = h.so_far; lawful = h.lawful; lines = h.lines ∙ same.fronts; makes = subst (λ (line : List ℕ). step h.so_far line ≡ Some b) same.lasts h.makes }

replies_made : (os : List Oid) (ms : List Reply) (ls : List (List ℕ)) (line : List ℕ) → is_begun (of_parts os ms None) ≡ true → begun_lines (of_parts os ms None) ≡ ls ++ line ∷ [] → Made (of_parts os ms None) ls line
replies_made os ms ls line lawful is = ⊎_elim
    (λ (e : ms ≡ []). subst (λ (ms : List Reply). is_begun (of_parts os ms None) ≡ true → begun_lines (of_parts os ms None) ≡ ls ++ line ∷ [] → Made (of_parts os ms None) ls line) (sym e)
    (λ lawful is. made_of (begin os) [] ls (line_by objects os) line refl is (begin_made os lawful)) lawful is)
    (λ (h : IsMore ms). subst (λ (ms : List Reply). is_begun (of_parts os ms None) ≡ true → begun_lines (of_parts os ms None) ≡ ls ++ line ∷ [] → Made (of_parts os ms None) ls line) (sym h.same)
    (λ lawful is. made_of (of_parts os (h.front ++ h.last ∷ []) None) (begun_lines (of_parts os h.front None)) ls (line_by reply h.last) line
    (reply_lines (line_by objects os) (line_by reply h.last) (line_by reply) h.front h.last refl) is (reply_made os h.front h.last lawful)) lawful is)
    (none_or_more ms)

entries_made : (os : List Oid) (ms : List Reply) (n : ℕ) (ds : List Entry) (ls : List (List ℕ)) (line : List ℕ) → is_begun (of_parts os ms (Some (past_of n ds))) ≡ true → begun_lines (of_parts os ms (Some (past_of n ds))) ≡ ls ++ line ∷ []
    → Made (of_parts os ms (Some (past_of n ds))) ls line
entries_made os ms n ds ls line lawful is = ⊎_elim
    (λ (e : ds ≡ []). subst (λ (ds : List Entry). is_begun (of_parts os ms (Some (past_of n ds))) ≡ true → begun_lines (of_parts os ms (Some (past_of n ds))) ≡ ls ++ line ∷ [] → Made (of_parts os ms (Some (past_of n ds))) ls line) (sym e)
    (λ lawful is. made_of (of_parts os ms (Some (past_of n []))) (begun_lines (of_parts os ms None)) ls (line_by count n) line
    (count_lines (line_by objects os) (line_by count n) (map (line_by reply) ms) (line_by count n) refl) is (count_made os ms n lawful)) lawful is)
    (λ (h : IsMore ds). subst (λ (ds : List Entry). is_begun (of_parts os ms (Some (past_of n ds))) ≡ true → begun_lines (of_parts os ms (Some (past_of n ds))) ≡ ls ++ line ∷ [] → Made (of_parts os ms (Some (past_of n ds))) ls line) (sym h.same)
    (λ lawful is. made_of (of_parts os ms (Some (past_of n (h.front ++ h.last ∷ [])))) (begun_lines (of_parts os ms (Some (past_of n h.front)))) ls (line_by entry h.last) line
    (entry_lines (line_by objects os) (line_by entry h.last) (line_by count n) (map (line_by reply) ms) (line_by entry) h.front h.last refl) is (entry_made os ms n h.front h.last lawful)) lawful is)
    (none_or_more ds)

step_made : (os : List Oid) (ms : List Reply) (h : Option Past) (ls : List (List ℕ)) (line : List ℕ) → is_begun (of_parts os ms h) ≡ true → begun_lines (of_parts os ms h) ≡ ls ++ line ∷ [] → Made (of_parts os ms h) ls line
step_made os ms None ls line lawful is = replies_made os ms ls line lawful is
step_made os ms (Some p) ls line lawful is = entries_made os ms p.count p.entries ls line lawful is

pub step_again : (b : Beginning) (ls : List (List ℕ)) (line : List ℕ) → is_begun b ≡ true → begun_lines b ≡ ls ++ line ∷ [] → Made b ls line
step_again b ls line lawful is = step_made b.objects b.trace b.history ls line lawful is

-- A line that isn't ASCII makes nothing.

if_none : {A : Type 0} (b : Bool) → ◌≡◌ {A = Option A} (cond b None None) None
if_none true = refl
if_none false = refl

none_reply : (a : Beginning) (o : Option Reply) (p : Option ℕ) → o ≡ None → p ≡ None → or_other (option_map (with_reply a) o) (option_map (with_count a) p) ≡ None
none_reply a o p e f = rw (e, f) refl

none_entry : (a : Beginning) (p : Past) (o : Option Entry) → o ≡ None
    → option_map (with_entry a p) (cond (ltb (length p.entries) p.count) (option_and_then (λ (d : Entry). cond (is_above p.entries d.stamp) (Some d) None) o) None) ≡ None
none_entry a p o e = rw e (ap (option_map (with_entry a p)) (if_none {A = Entry} (ltb (length p.entries) p.count)))

past_none : (a : Beginning) (h : Option Past) (line : List ℕ) → (IsAscii line → ⊥) → step_past a h (words_of line) ≡ None
past_none a None line other = none_reply a _ _ (line_none reply reply_line line other) (line_none count count_line line other)
past_none a (Some p) line other = none_entry a p _ (line_none entry entry_line line other)

pub step_none : (so_far : Option Beginning) (line : List ℕ) → (IsAscii line → ⊥) → step so_far line ≡ None
unfolding step
step_none None line other = ap (option_map begin) (line_none objects objects_line line other)
step_none (Some a) line other = past_none a a.history line other
