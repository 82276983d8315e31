-- A text tells one script, and ends in one way.
use Rattle.std.proofs.Common.{◌≡◌, ◌⊎◌, ℕ, zero, suc, ◌+◌, ◌-◌, ◌<◌, ◌≤◌, List, [], ◌∷◌, length, take, drop, map, refl, sym, ap, ◌∙◌, subst, ⊎_elim, inl, inr, arith, Some, None, Option}
use Rattle.std.proofs.lemmas.List.{take-take, length-map}
use Rattle.std.specs.Prelude.{slice_get}
use Rattle.tg_base.specs.Clusters.{Header, IsHeader}
use Rattle.tg_base.specs.declared.fault.Which.{Which}
use Rattle.tg_io.specs.declared.status.Status.{Status}
use Rattle.tg_io.specs.declared.status.Status.TheVariants.{Done, Illegal, Words, Script as AtLine, ReadFault, WriteFault, LinkFault, Limit, NoMemory}
use Rattle.tg_protocol.specs.Worlds.{start}
use Rattle.tg_script.specs.Headers.{header_lines}
use Rattle.tg_script.specs.declared.line.Line.{Line}
use Rattle.tg_script.proofs.Clusters.{same_header}
use Rattle.tg_script.proofs.EventLines.{line_only}
use Rattle.tg_lines.specs.Lines.{lines}
use Rattle.tg_any.specs.AllKinds.{all_kinds}
use Rattle.tg_replay.specs.Runs.{Script, IsScript, IsWithin, IsLine, line_text, text_lines, run_of, front, Begins, Tells, FirstOutside, PassesLimit}
use Rattle.tg_replay.specs.Outcomes.{Written}
use Rattle.tg_replay.proofs.Making.{front_goes_on}
use Rattle.tg_replay.proofs.Scripts.{front_whole}
use Rattle.tg_replay.proofs.Feeding.{text_of_line}

same_value : {A : Type 0} (o : Option A) (x y : A) → o ≡ Some x → o ≡ Some y → x ≡ y
same_value o x y e f = cc

-- a text is the line of one value
same_line : (h : Header) → IsHeader h → (l m : Line) → IsLine h l → IsLine h m → line_text l ≡ line_text m → l ≡ m
same_line h lawful l m is also e =
    same_value _ l m (line_only h lawful (line_text l) l (text_of_line h (line_text l) l is refl)) (line_only h lawful (line_text l) m (text_of_line h (line_text l) m also e))

pub head_same : {A : Type 0} (x y : A) (xs ys : List A) → x ∷ xs ≡ y ∷ ys → (x ≡ y) × (xs ≡ ys)
head_same x y xs ys e = (cc, cc)

pub cons_same : {A : Type 0} (x y : A) (xs ys : List A) → x ≡ y → xs ≡ ys → x ∷ xs ≡ y ∷ ys
cons_same x y xs ys e f = cc

same_events : (h : Header) → IsHeader h → (k : ℕ) (xs ys : List Line) → ((j : ℕ) (l : Line) → slice_get xs j ≡ Some l → IsLine h l) → ((j : ℕ) (l : Line) → slice_get ys j ≡ Some l → IsLine h l) →
    take k (map line_text xs) ≡ take k (map line_text ys) → take k xs ≡ take k ys
same_events h lawful zero xs ys f g e = refl
same_events h lawful (suc k) [] [] f g e = refl
same_events h lawful (suc k) [] (y ∷ ys) f g e = absurd cc
same_events h lawful (suc k) (x ∷ xs) [] f g e = absurd cc
same_events h lawful (suc k) (x ∷ xs) (y ∷ ys) f g e =
    let parts = head_same (line_text x) (line_text y) (take k (map line_text xs)) (take k (map line_text ys)) e in
    cons_same x y (take k xs) (take k ys) (same_line h lawful x y (f 0 x refl) (g 0 y refl) parts.0)
    (same_events h lawful k xs ys (λ j l i. f (suc j) l i) (λ j l i. g (suc j) l i) parts.1)

-- scripts with the same first lines have the same header and first events
pub same_front : (k : ℕ) (s t : Script) → IsHeader s.header → IsHeader t.header → ((j : ℕ) (l : Line) → slice_get s.events j ≡ Some l → IsLine s.header l) → ((j : ℕ) (l : Line) → slice_get t.events j ≡ Some l → IsLine t.header l) →
    take (suc (suc (suc k))) (text_lines s) ≡ take (suc (suc (suc k))) (text_lines t) → front k s ≡ front k t
same_front k s t h g of_s of_t e =
    let first : header_lines s.header ≡ header_lines t.header = ap (λ (ls : List (List ℕ)). take 3 ls) e in
    let rest : take k (map line_text s.events) ≡ take k (map line_text t.events) = ap (λ (ls : List (List ℕ)). drop 3 ls) e in
    let header : s.header ≡ t.header = same_header s.header t.header h g (header_lines s.header) refl first in
    let each : (j : ℕ) (l : Line) → slice_get t.events j ≡ Some l → IsLine s.header l = λ j l i. subst (λ (x : Header). IsLine x l) (sym header) (of_t j l i) in
    let events : take k s.events ≡ take k t.events = same_events s.header h k s.events t.events of_s each rest in
    λ i. record { header = header i; events = events i }

pub three_more : (k : ℕ) → 3 + k ≡ suc (suc (suc k))
three_more k = omega arith

agree : (text : List ℕ) (k : ℕ) (s t : Script) → IsScript s → IsScript t → Begins text (3 + k) s → Begins text (3 + k) t → front k s ≡ front k t
agree text k s t h g a b = same_front k s t h.header g.header h.each g.each (subst (λ n. take n (text_lines s) ≡ take n (text_lines t)) (three_more k) (sym a ∙ b))

pub begins_less : (text : List ℕ) (m n : ℕ) (s : Script) → m ≤ n → Begins text n s → Begins text m s
begins_less text m n s le h = sym (take-take m n (lines text) le) ∙ ap (λ (ls : List (List ℕ)). take m ls) h ∙ take-take m n (text_lines s) le

pub tells_begins : (text : List ℕ) (n : ℕ) (s : Script) → Tells text s → Begins text n s
tells_begins text n s h = ap (λ (ls : List (List ℕ)). take n ls) h

-- a text is one script's
pub told_once : (text : List ℕ) (s t : Script) → IsScript s → IsScript t → Tells text s → Tells text t → s ≡ t
told_once text s t h g a b =
    let three : length (text_lines s) ≡ length (text_lines t) = ap length (sym a ∙ b) in
    let long : length s.events ≡ length t.events = let m = length-map s.events line_text in let n = length-map t.events line_text in omega arith in
    sym (front_whole s) ∙ agree text (length s.events) s t h g (tells_begins text (3 + length s.events) s a) (tells_begins text (3 + length s.events) t b)
    ∙ ap (λ k. front k t) long ∙ front_whole t

-- a limit stops the script of a text in the midst of it
pub limit_within : (text : List ℕ) (by : Which) (s p : Script) → IsScript s → Tells text s → PassesLimit text by p → front (length p.events) s ≡ p
limit_within text by s p h tells g = agree text (length p.events) s p h g.lawful (tells_begins text (3 + length p.events) s tells) g.begins ∙ front_whole p

-- a limit that stops a script stops each that begins so
front_within : (k : ℕ) (s p : Script) → front k s ≡ p → IsWithin s → IsWithin p
front_within k s p e within = subst IsWithin e (front_goes_on k s.events (start all_kinds s.header) within)

no_limit : (o : Option Which) (by : Which) → o ≡ None → o ≡ Some by → ⊥
no_limit o by e f = absurd cc

over_within : (k : ℕ) (s : Script) (by : Which) (p : Script) → front k s ≡ p → (run_of p).stopped ≡ Some by → IsWithin s → ⊥
over_within k s by p e over within = no_limit (run_of p).stopped by (front_within k s p e within) over

pub le_or_lt : (m n : ℕ) → (m ≤ n) ⊎ (n < m)
le_or_lt zero n = inl (omega arith)
le_or_lt (suc m) zero = inr (omega arith)
le_or_lt (suc m) (suc n) = ⊎_elim (λ (h : m ≤ n). inl (omega arith)) (λ (h : n < m). inr (omega arith)) (le_or_lt m n)

-- The ways to end exclude each other.
told_passes : (text : List ℕ) (s : Script) (by : Which) (p : Script) → IsScript s → IsWithin s → Tells text s → PassesLimit text by p → ⊥
told_passes text s by p lawful within tells h =
    over_within (length p.events) s by p (agree text (length p.events) s p lawful h.lawful (tells_begins text (3 + length p.events) s tells) h.begins ∙ front_whole p) h.over within

outside_passes : (text : List ℕ) (n : ℕ) (b : Script) (by : Which) (p : Script) → FirstOutside text n b → PassesLimit text by p → ⊥
outside_passes text n b by p g h = ⊎_elim
    (λ (le : n ≤ 3 + length p.events). g.outside p h.lawful (begins_less text n (3 + length p.events) p le h.begins))
    (λ (lt : 3 + length p.events < n).
    let le : 3 + length p.events ≤ n - 1 = omega arith in
    over_within (length p.events) b by p (agree text (length p.events) b p g.lawful h.lawful (begins_less text (3 + length p.events) (n - 1) b le g.begins) h.begins ∙ front_whole p) h.over g.within)
    (le_or_lt n (3 + length p.events))

not_before : (text : List ℕ) (m n : ℕ) (a b : Script) → FirstOutside text m a → FirstOutside text n b → m < n → ⊥
not_before text m n a b g h lt = let le : m ≤ n - 1 = omega arith in g.outside b h.lawful (begins_less text m (n - 1) b le h.begins)

first_once : (text : List ℕ) (m n : ℕ) (a b : Script) → FirstOutside text m a → FirstOutside text n b → m ≡ n
first_once text m n a b g h = ⊎_elim
    (λ (le : m ≤ n). ⊎_elim (λ (ge : n ≤ m). let e : m ≡ n = omega arith in e) (λ (lt : m < n). absurd (not_before text m n a b g h lt)) (le_or_lt n m))
    (λ (lt : n < m). absurd (not_before text n m b a h g lt))
    (le_or_lt m n)

-- the longer of two scripts that a limit stops would have been stopped before its last line
not_longer : (text : List ℕ) (one by : Which) (s p : Script) → PassesLimit text one s → PassesLimit text by p → length s.events < length p.events → ⊥
not_longer text one by s p g h lt =
    let le : 3 + length s.events ≤ 3 + length p.events = omega arith in
    let less : length s.events ≤ length p.events - 1 = omega arith in
    let same : front (length s.events) p ≡ s = agree text (length s.events) p s h.lawful g.lawful (begins_less text (3 + length s.events) (3 + length p.events) p le h.begins) g.begins ∙ front_whole s in
    let cut : front (length s.events) (front (length p.events - 1) p) ≡ s =
    ap (λ (ls : List Line). record { header = p.header; events = ls }) (take-take (length s.events) (length p.events - 1) p.events less) ∙ same in
    over_within (length s.events) (front (length p.events - 1) p) one s cut g.over h.before

same_length : (text : List ℕ) (one by : Which) (s p : Script) → PassesLimit text one s → PassesLimit text by p → length s.events ≡ length p.events → s ≡ p
same_length text one by s p g h e =
    let at : 3 + length p.events ≡ 3 + length s.events = omega arith in
    sym (front_whole s) ∙ agree text (length s.events) s p g.lawful h.lawful g.begins (subst (λ n. Begins text n p) at h.begins) ∙ ap (λ k. front k p) e ∙ front_whole p

limit_once : (text : List ℕ) (one by : Which) (s p : Script) → PassesLimit text one s → PassesLimit text by p → one ≡ by
limit_once text one by s p g h =
    let e : length s.events ≡ length p.events = ⊎_elim
    (λ (le : length s.events ≤ length p.events). ⊎_elim
    (λ (ge : length p.events ≤ length s.events). let e : length s.events ≡ length p.events = omega arith in e)
    (λ (lt : length s.events < length p.events). absurd (not_longer text one by s p g h lt)) (le_or_lt (length p.events) (length s.events)))
    (λ (lt : length p.events < length s.events). absurd (not_longer text by one p s h g lt))
    (le_or_lt (length s.events) (length p.events)) in
    same_value (run_of p).stopped one by (ap (λ (x : Script). (run_of x).stopped) (sym (same_length text one by s p g h e)) ∙ g.over) h.over

-- where nothing outside the text failed
pub record IsUndisturbed (status : Status) : Type 0 where
  pub words : status ≡ Words → ⊥
  pub reads : status ≡ ReadFault → ⊥
  pub writes : status ≡ WriteFault → ⊥

-- a script that is whole is replayed whole
pub completes : (text out : List ℕ) (status : Status) (s : Script) → Written text status out → IsUndisturbed status → IsScript s → IsWithin s → Tells text s → (status ≡ Done) ⊎ (status ≡ NoMemory)
completes text out Done s w u lawful within tells = inl refl
completes text out NoMemory s w u lawful within tells = inr refl
completes text out Words s w u lawful within tells = absurd (u.words refl)
completes text out ReadFault s w u lawful within tells = absurd (u.reads refl)
completes text out WriteFault s w u lawful within tells = absurd (u.writes refl)
completes text out LinkFault s w u lawful within tells = absurd w
completes text out (Illegal line clause) s w u lawful within tells = absurd w
completes text out (AtLine n) s w u lawful within tells = absurd (w.first.outside s lawful (tells_begins text n s tells))
completes text out (Limit which) s w u lawful within tells = absurd (told_passes text s which w.script lawful within tells w.passes)

-- a line that is the first outside is refused
pub refuses : (text out : List ℕ) (status : Status) (n : ℕ) (b : Script) → Written text status out → IsUndisturbed status → FirstOutside text n b → (status ≡ AtLine n) ⊎ (status ≡ NoMemory)
refuses text out Done n b w u first = absurd (first.outside w.script w.lawful (tells_begins text n w.script w.tells))
refuses text out NoMemory n b w u first = inr refl
refuses text out Words n b w u first = absurd (u.words refl)
refuses text out ReadFault n b w u first = absurd (u.reads refl)
refuses text out WriteFault n b w u first = absurd (u.writes refl)
refuses text out LinkFault n b w u first = absurd w
refuses text out (Illegal line clause) n b w u first = absurd w
refuses text out (AtLine m) n b w u first = inl (ap AtLine (first_once text m n w.before b w.first first))
refuses text out (Limit which) n b w u first = absurd (outside_passes text n b which w.script first w.passes)

-- a limit that is passed stops the run
pub limits : (text out : List ℕ) (status : Status) (by : Which) (p : Script) → Written text status out → IsUndisturbed status → PassesLimit text by p → (status ≡ Limit by) ⊎ (status ≡ NoMemory)
limits text out Done by p w u passes = absurd (told_passes text w.script by p w.lawful w.within w.tells passes)
limits text out NoMemory by p w u passes = inr refl
limits text out Words by p w u passes = absurd (u.words refl)
limits text out ReadFault by p w u passes = absurd (u.reads refl)
limits text out WriteFault by p w u passes = absurd (u.writes refl)
limits text out LinkFault by p w u passes = absurd w
limits text out (Illegal line clause) by p w u passes = absurd w
limits text out (AtLine m) by p w u passes = absurd (outside_passes text m w.before by p w.first passes)
limits text out (Limit which) by p w u passes = inl (ap Limit (limit_once text which by w.script p w.passes passes))
