-- Entries that are read keep the grammar.
use Rattle.std.proofs.Common.{◌≡◌, ℕ, ◌+◌, ◌-◌, ◌≤◌, max, min, Bool, true, false, List, [], ◌∷◌, map, length, Option, Some, None, Result, Ok, Err, refl, sym, ap, subst, inl, inr, arith, Contains}
use Rattle.std.specs.Prelude.{nat_le, not, filter, ◌==◌, if◌then◌else◌}
use Rattle.std.specs.List.{list_any}
use Rattle.std.proofs.lemmas.Bool.{leb-true, or_cases, or_left, or_right}
use Rattle.tg_base.specs.declared.cell.Cell.{Cell}
use Rattle.tg_base.specs.declared.cell.Cell.TheVariants.{Junk, Data}
use Rattle.tg_base.specs.declared.ids.Oid.{Oid}
use Rattle.tg_base.specs.declared.marks.StreamLink.{StreamLink}
use Rattle.tg_codec.specs.Reading.{meets}
use Rattle.tg_codec.specs.Codec.{Codec, u8, u16, u32, u64, fixed, dep, many, from_table, text}
use Rattle.tg_codec.specs.Owing.{Debt, points, owing, named}
use Rattle.tg_codec.specs.Streams.{any, from_one, oids_from, oid, backs, link, after_link, links}
use Rattle.tg_codec.proofs.Shapes.{met_within}
use Rattle.tg_entry.specs.declared.entry.WriteOp.{WriteOp}
use Rattle.tg_entry.specs.declared.entry.Body.{Body}
use Rattle.tg_entry.specs.declared.entry.Body.TheVariants.{Commit, Decision, Checkpoint}
use Rattle.tg_entry.specs.declared.entry.Entry.{Entry}
use Rattle.tg_entry.specs.Reads.{reads}
use Rattle.tg_entry.specs.Writes.{write, after_write, stream_numbers, writes}
use Rattle.tg_entry.specs.Checkpoints.{Fields, fields, make_checkpoint}
use Rattle.tg_entry.specs.Format.{commit, truth, decision, checkpoint, body, stream_counts, in_streams, by_number, by_client, of_tag, of_format, Row, to_entry, from_entry, entry}
use Rattle.tg_kind.specs.Meaning.{Meaning}
use Rattle.tg_codec.specs.Whole.{ended}
use Rattle.tg_protocol.specs.Pages.{entry_of, if_read, entry_in}
use Rattle.tg_base.specs.Orders.{oid_eq}
use Rattle.tg_entry.specs.Needs.{writes_in, writes_of}
use Rattle.tg_protocol.specs.Entries.{oid_of_link, body_commits, lists}
use Rattle.tg_protocol.specs.Logs.{Log, entries_of}
use Rattle.tg_protocol.specs.Views.{entry_if}
use Rattle.tg_protocol.specs.Worlds.{log}
use Rattle.tg_law_replies.specs.History.Worlds.{entries_in}
use Rattle.tg_law_replies.proofs.History.Members.{Has, has_contained, contained_has, number_same}
use Rattle.tg_law_replies.specs.Pages.Grammar.{AreApart, KeepsGrammar, PagesKeepGrammar, LogsKeepGrammar}
use Rattle.tg_law_replies.proofs.Pages.Formats.{Reads, reads_any, reads_dep, reads_via, reads_many, reads_u32, reads_counted}

-- Objects and streams.

reads_oid : (allowed : List (ℕ × ℕ)) → Reads (oid allowed) (λ o. meets allowed o.0 o.0 ≡ true)
reads_oid allowed = reads_via (λ n. record { 0 = n }) (λ o. o.0) (u32 allowed) (λ n. meets allowed n n ≡ true) (λ o. meets allowed o.0 o.0 ≡ true) (reads_u32 allowed) (λ n h. h)

from_low : (low n : ℕ) → meets (oids_from low) n n ≡ true → low ≤ n
from_low low n e = elim (or_cases (nat_le (max low n) (min 0 n)) _ e) [
  | inl first ↦ let le = leb-true _ _ first in omega (arith, le)
  | inr rest ↦ elim (or_cases (nat_le (max (max low 0x01000000) n) (min 0x06ffffff n)) false rest) [
    | inl second ↦ let le = leb-true _ _ second in omega (arith, le)
    | inr none ↦ absurd cc
  ]
]

of_points : (xs : List ℕ) (n : ℕ) → meets (points xs) n n ≡ true → Has xs n
of_points [] n e = absurd cc
of_points (x ∷ xs) n e = elim (or_cases (nat_le (max x n) (min x n)) (meets (points xs) n n) e) [
  | inl first ↦ let le = leb-true _ _ first in inl (omega (arith, le))
  | inr rest ↦ inr (of_points xs n rest)
]

reads_link : (low : ℕ) → Reads (link low) (λ l. low ≤ l.oid.0)
reads_link low =
    reads_via (λ p. record { oid = p.0; backs = p.1 }) (λ l. (l.oid, l.backs)) (dep (oid (oids_from low)) (λ _. backs)) (λ p. (meets (oids_from low) p.0.0 p.0.0 ≡ true) × Unit {0}) (λ l. low ≤ l.oid.0)
    (reads_dep (oid (oids_from low)) (λ _. backs) (λ o. meets (oids_from low) o.0 o.0 ≡ true) (λ o bs. Unit {0}) (reads_oid (oids_from low)) (λ o h. reads_any backs)) (λ p h. from_low low p.0.0 h.0)

-- streams rise from a number on
abbrev Rise : ℕ → List StreamLink → Type 0
Rise low [] = Unit {0}
Rise low (l ∷ ls) = (low ≤ l.oid.0) × Rise (l.oid.0 + 1) ls

-- and are one at least
abbrev AreStreams : List StreamLink → Type 0
AreStreams ls = Rise 0 ls × (1 ≤ length ls)

reads_links : (tag : ℕ) → Reads (links (stream_counts tag)) AreStreams
reads_links tag = reads_counted (stream_counts tag) (λ n. many link after_link n 0) (λ n ls. Rise 0 ls × (length ls ≡ n)) AreStreams
    (λ n. reads_many link after_link (λ low l. low ≤ l.oid.0) Rise (λ low. tt) (λ low l ls first rest. (first, rest)) reads_link n 0)
    (λ n ls met h. (h.0, let low = (met_within 1 (if tag == 3 then 1 else 16) n met).0 in let len = h.1 in omega (arith, low, len)))

low_stays : (low : ℕ) (ls : List StreamLink) (o : Oid) → Rise low ls → Has (map oid_of_link ls) o → low ≤ o.0
low_stays low [] o h i = absurd i
low_stays low (l ∷ ls) o h (inl e) = let same : o.0 ≡ l.oid.0 = ap (λ (x : Oid). x.0) e in let le = h.0 in omega (arith, same, le)
low_stays low (l ∷ ls) o h (inr i) = let le = h.0 in let more = low_stays (l.oid.0 + 1) ls o h.1 i in omega (arith, le, more)

apart : (low : ℕ) (ls : List StreamLink) → Rise low ls → AreApart (map oid_of_link ls)
apart low [] h = tt
apart low (l ∷ ls) h = (λ i. let le = low_stays (l.oid.0 + 1) ls l.oid h.1 (has_contained (map oid_of_link ls) l.oid i) in omega (arith, le), apart (l.oid.0 + 1) ls h.1)

-- Writes.

reads_write : (o : Debt) → Reads (write o) (λ w. meets (named o) w.oid.0 w.oid.0 ≡ true)
reads_write o =
    reads_via (λ p. record { oid = p.0; op = p.1 }) (λ w. (w.oid, w.op)) (dep (oid (named o)) (λ _. text ((1, 4096) ∷ []))) (λ p. (meets (named o) p.0.0 p.0.0 ≡ true) × Unit {0}) (λ w. meets (named o) w.oid.0 w.oid.0 ≡ true)
    (reads_dep (oid (named o)) (λ _. text ((1, 4096) ∷ [])) (λ x. meets (named o) x.0 x.0 ≡ true) (λ x bs. Unit {0}) (reads_oid (named o)) (λ x h. reads_any (text ((1, 4096) ∷ [])))) (λ p h. h.0)

-- what is owed is among the names
abbrev Owes : Debt → Type 0
Owes o = (n : ℕ) → Has o.missing n → Has o.names n

abbrev NameOnly : Debt → List WriteOp → Type 0
NameOnly o ws = Owes o → (w : WriteOp) → Has ws w → Has o.names w.oid.0

kept : (xs : List ℕ) (k n : ℕ) → Has (filter (λ x. not (x == k)) xs) n → Has xs n
kept [] k n i = absurd i
kept (x ∷ xs) k n i = by (not (x == k)) i (λ j. kept xs k n j)
  where
    by : (b : Bool) → Has (if b then x ∷ filter (λ y. not (y == k)) xs else filter (λ y. not (y == k)) xs) n → (Has (filter (λ y. not (y == k)) xs) n → Has xs n) → Has (x ∷ xs) n
    by true (inl e) more = inl e
    by true (inr j) more = inr (more j)
    by false j more = inr (more j)

name_of : (o : Debt) (n : ℕ) → Owes o → meets (named o) n n ≡ true → Has o.names n
name_of o n owes e = by (length o.missing == o.left) e
  where
    by : (b : Bool) → meets (if b then points o.missing else points o.names) n n ≡ true → Has o.names n
    by true e = owes n (of_points o.missing n e)
    by false e = of_points o.names n e

one_more : (o : Debt) (w : WriteOp) (ws : List WriteOp) → meets (named o) w.oid.0 w.oid.0 ≡ true → NameOnly (after_write o w) ws → NameOnly o (w ∷ ws)
one_more o w ws first rest owes v (inl e) = subst (λ (x : WriteOp). Has o.names x.oid.0) (sym e) (name_of o w.oid.0 owes first)
one_more o w ws first rest owes v (inr i) = rest (λ n j. owes n (kept o.missing w.oid.0 n j)) v i

abbrev AreOf : List StreamLink → List WriteOp → Type 0
AreOf ls ws = ((w : WriteOp) → Has ws w → Has (stream_numbers ls) w.oid.0) × (length ls ≤ length ws)

reads_writes : (ls : List StreamLink) → Reads (writes ls) (AreOf ls)
unfolding writes
reads_writes ls = reads_counted ((length ls, 64) ∷ []) (λ n. many write after_write n (owing n (stream_numbers ls))) (λ n ws. NameOnly (owing n (stream_numbers ls)) ws × (length ws ≡ n)) (AreOf ls)
    (λ n. reads_many write after_write (λ o w. meets (named o) w.oid.0 w.oid.0 ≡ true) NameOnly (λ o owes w i. absurd i) one_more reads_write n (owing n (stream_numbers ls)))
    (λ n ws met h. (h.0 (λ k i. i), let low = (met_within (length ls) 64 n met).0 in let len = h.1 in omega (arith, low, len)))

-- Bodies.

abbrev IsBodyOf : List StreamLink → Body → Type 0
IsBodyOf ls (Commit rs ws) = AreOf ls ws
IsBodyOf ls b = Unit {0}

reads_commit : (format : ℕ) (ls : List StreamLink) → Reads (commit format ls) (IsBodyOf ls)
reads_commit format ls =
    reads_via (λ p. Commit p.0 p.1) (λ b. ([], [])) (dep (reads format) (λ _. writes ls)) (λ p. Unit {0} × AreOf ls p.1) (IsBodyOf ls)
    (reads_dep (reads format) (λ _. writes ls) (λ rs. Unit {0}) (λ rs. AreOf ls) (reads_any (reads format)) (λ rs h. reads_writes ls)) (λ p h. h.1)

reads_decision : (ls : List StreamLink) → Reads decision (IsBodyOf ls)
reads_decision ls = reads_via (λ p. Decision p.0 p.1) (λ b. (0, true)) (dep (u64 any) (λ _. truth)) (λ p. Unit {0}) (IsBodyOf ls) (reads_any (dep (u64 any) (λ _. truth))) (λ p h. tt)

reads_checkpoint : (format : ℕ) (ls : List StreamLink) → Reads (checkpoint format ls) (IsBodyOf ls)
reads_checkpoint format ls bytes b rest e =
    reads_via {B = Body} make_checkpoint (λ b. back) (fields format (points (stream_numbers ls))) (λ p. Unit {0}) (IsBodyOf ls) (reads_any (fields format (points (stream_numbers ls)))) (λ p h. tt) bytes b rest e
  where
    back : Fields
    back = (record { 0 = 0 }, (0, (0, (0, ([], [])))))

reads_body : (format : ℕ) (ls : List StreamLink) (tag : ℕ) → Reads (body format ls tag) (IsBodyOf ls)
unfolding body
reads_body format ls tag bytes b rest e = by (tag == 1) (tag == 2) (tag == 3) e
  where
    by : (x y z : Bool) → (if x then commit format ls else (if y then decision else (if z then checkpoint format ls else from_table [] tag))).read bytes ≡ Ok (b, rest) → IsBodyOf ls b
    by true y z e = reads_commit format ls bytes b rest e
    by false true z e = reads_decision ls bytes b rest e
    by false false true e = reads_checkpoint format ls bytes b rest e
    by false false false e = absurd cc

-- Entries.

abbrev IsOf : List StreamLink × Body → Type 0
IsOf p = AreStreams p.0 × IsBodyOf p.0 p.1

reads_streams : (format tag : ℕ) → Reads (in_streams format tag) IsOf
reads_streams format tag = reads_dep (links (stream_counts tag)) (λ ls. body format ls tag) AreStreams IsBodyOf (reads_links tag) (λ ls h. reads_body format ls tag)

abbrev IsRow : Row → Type 0
IsRow p = IsOf p.1.1.1.1

reads_format : Reads of_format IsRow
reads_format = after {B = ℕ × (ℕ × (ℕ × (List StreamLink × Body)))} (u8 ((1, 2) ∷ [])) of_tag (λ p. IsOf p.1.1.1)
    (λ format. after {B = ℕ × (ℕ × (List StreamLink × Body))} (u8 ((1, 3) ∷ [])) (by_client format) (λ p. IsOf p.1.1)
    (λ tag. after {B = ℕ × (List StreamLink × Body)} (u16 any) (λ _. by_number format tag) (λ p. IsOf p.1)
    (λ client. after {B = List StreamLink × Body} (u32 from_one) (λ _. in_streams format tag) IsOf (λ number. reads_streams format tag))))
  where
    -- after a value that doesn't matter
    after : {A B : Type 0} (a : Codec A) (b : A → Codec B) (Q : B → Type 0) → ((x : A) → Reads (b x) Q) → Reads (dep a b) (λ p. Q p.1)
    after {A} {B} a b Q each bytes p rest e = (reads_dep a b (λ x. Unit {0}) (λ x. Q) (reads_any a) (λ x h. each x) bytes p rest e).1

abbrev IsRead : Entry → Type 0
IsRead e = IsOf (e.head.streams, e.body)

reads_entry : Reads entry IsRead
unfolding entry
reads_entry = reads_via to_entry from_entry (dep (fixed (0x54 ∷ [])) (λ _. of_format)) (λ p. Unit {0} × IsRow p.1) IsRead
    (reads_dep (fixed (0x54 ∷ [])) (λ _. of_format) (λ x. Unit {0}) (λ x. IsRow) (reads_any (fixed (0x54 ∷ []))) (λ x h. reads_format)) (λ p h. h.1)

-- what holds of each entry that is read holds of each page's
pub page_has : (P : Entry → Type 0) → Reads entry P → (page : List ℕ) (e : Entry) → entry_of page ≡ Some e → P e
unfolding entry_of
page_has P reads page e is = by (entry.read page) refl is
  where
    none : {X : Type 0} → None ≡ Some e → X
    none z = absurd cc

    one : (x : Entry) → Some x ≡ Some e → x ≡ e
    one x z = cc

    ended_by : (x : Entry) (rest : List ℕ) → entry.read page ≡ Ok (x, rest) → (b : Bool) → if_read (if b then Ok x else Err (length page - length rest)) ≡ Some e → P e
    ended_by x rest at true z = subst P (one x z) (reads page x rest at)
    ended_by x rest at false z = none z

    by : (r : Result (Entry × List ℕ) ℕ) → entry.read page ≡ r → if_read (ended page r) ≡ Some e → P e
    by (Ok x) at z = ended_by x.0 x.1 at (length x.1 == 0) z
    by (Err n) at z = none z

number_listed : (ls : List StreamLink) (o : Oid) → Has (stream_numbers ls) o.0 → list_any (λ l. oid_eq l.oid o) ls ≡ true
number_listed [] o i = absurd i
number_listed (l ∷ ls) o (inl e) = or_left _ _ (number_same l.oid.0 o.0 (sym e))
number_listed (l ∷ ls) o (inr i) = or_right _ _ (number_listed ls o i)

first_of : {X : Type 0} (xs : List X) → 1 ≤ length xs → (x : X) × Contains xs x
first_of [] le = absurd (omega (arith, le))
first_of (x ∷ xs) le = (x, contained_has (x ∷ xs) x (inl refl))

keeps : (e : Entry) → IsRead e → KeepsGrammar e
keeps e h = record {
  streams = apart 0 e.head.streams h.0.0;
  listed = λ w i. listed e.body h.1 w (has_contained (writes_of e) w i);
  writing = λ commit. writing e.body h.1 commit;
}
  where
    listed : (b : Body) → IsBodyOf e.head.streams b → (w : WriteOp) → Has (writes_in b) w → lists e w.oid ≡ true
    listed (Commit rs ws) of w i = number_listed e.head.streams w.oid (of.0 w i)
    listed (Decision p so) of w i = absurd i
    listed (Checkpoint o u v whole keys state) of w i = absurd i

    writing : (b : Body) → IsBodyOf e.head.streams b → body_commits b ≡ true → (w : WriteOp) × Contains (writes_in b) w
    writing (Commit rs ws) of commit = first_of ws (let some = h.0.1 in let more = of.1 in omega (arith, some, more))
    writing (Decision p so) of commit = absurd cc
    writing (Checkpoint o u v whole keys state) of commit = absurd cc

pub pages_keep_grammar : PagesKeepGrammar
pages_keep_grammar page e is = keeps e (page_has IsRead reads_entry page e is)

-- Logs.

in_log : (l : Log) (p : ℕ) (e : Entry) → Has (entries_of l) (p, e) → KeepsGrammar e
unfolding entries_of
in_log [] p e i = absurd i
in_log (x ∷ xs) p e i = by x.1 i (λ j. in_log xs p e j)
  where
    of_page : (d : List ℕ) (o : Option Entry) → entry_of d ≡ o → Has (entry_if x.0 o (entries_of xs)) (p, e) → (Has (entries_of xs) (p, e) → KeepsGrammar e) → KeepsGrammar e
    of_page d None is j more = more j
    of_page d (Some y) is (inl same) more = subst KeepsGrammar (sym (ap (λ (z : ℕ × Entry). z.1) same)) (pages_keep_grammar d y is)
    of_page d (Some y) is (inr j) more = more j

    by : (c : Cell) → Has (entry_if x.0 (entry_in c) (entries_of xs)) (p, e) → (Has (entries_of xs) (p, e) → KeepsGrammar e) → KeepsGrammar e
    by Junk j more = more j
    by (Data d) j more = of_page d (entry_of d) refl j more

pub logs_keep_grammar : (m : Meaning) → LogsKeepGrammar m
logs_keep_grammar m w = (
  λ p e v i j. (in_log (log m w) p e (has_contained (entries_in m w) (p, e) i)).listed v j,
  λ p e i commit. (in_log (log m w) p e (has_contained (entries_in m w) (p, e) i)).writing commit,
)
