-- A page has the same length whatever links are issued.
use Rattle.std.proofs.Common.{◌≡◌, ℕ, ◌+◌, ◌*◌, ◌≤◌, ◌==◌, suc, Bool, true, List, [], ◌∷◌, ◌++◌, length, map, refl, sym, ap, ◌∙◌, arith}
use Rattle.std.proofs.Common.{length-append}
use Rattle.std.proofs.lemmas.Bool.{leb-true, eqb-true}
use Rattle.std.specs.List.{list_all}
use Rattle.std.specs.Int.{w16, w32, to_be_bytes}
use Rattle.tg_base.specs.declared.ids.Oid.{Oid}
use Rattle.tg_base.specs.declared.marks.StreamLink.{StreamLink}
use Rattle.tg_base.specs.declared.marks.ReadMark.{ReadMark}
use Rattle.tg_base.proofs.Exact.{and-left, and-right}
use Rattle.tg_codec.specs.Codec.{spell_many}
use Rattle.tg_codec.specs.Owing.{points, owing}
use Rattle.tg_codec.specs.Streams.{link, after_link, links}
use Rattle.tg_codec.proofs.Objects.{link_len}
use Rattle.tg_entry.specs.declared.entry.Body.{Body}
use Rattle.tg_entry.specs.declared.entry.Body.TheVariants.{Commit, Decision, Checkpoint}
use Rattle.tg_entry.specs.declared.entry.Entry.{Entry}
use Rattle.tg_entry.specs.declared.entry.WriteOp.{WriteOp}
use Rattle.tg_entry.specs.Reads.{reads}
use Rattle.tg_entry.specs.Writes.{write, after_write, stream_numbers, writes}
use Rattle.tg_entry.specs.Checkpoints.{fields}
use Rattle.tg_entry.specs.Drafts.{is_draft}
use Rattle.tg_entry.specs.Format.{body, tag_of, stream_counts, entry}
use Rattle.tg_protocol.specs.Entries.{oid_of_link, streams_of}
use Rattle.tg_entry.specs.Records.{linked}
use Rattle.tg_protocol.specs.Pages.{page_of}
use Rattle.tg_protocol.specs.Appending.{is_link, names_all}
use Rattle.tg_append.proofs.Pages.{links_numbers}

-- each link has four positions at most
abbrev Short : List StreamLink → Type 0
Short [] = Unit {0}
Short (l ∷ ls) = (length l.backs ≤ 4) × Short ls

links_long : (low : ℕ) (ls : List StreamLink) → Short ls → length (spell_many link after_link low ls) ≡ length ls * 37
unfolding spell_many
links_long low [] h = refl
links_long low (l ∷ ls) h =
    let one : 37 ≡ length ((link low).spell l) = link_len low l h.0 in
    let rest : length (spell_many link after_link (after_link low l) ls) ≡ length ls * 37 = links_long (after_link low l) ls h.1 in
    let both : length ((link low).spell l ++ spell_many link after_link (after_link low l) ls) ≡ length ((link low).spell l) + length (spell_many link after_link (after_link low l) ls) = length-append ((link low).spell l) (spell_many link after_link (after_link low l) ls) in
    omega (arith, one, rest, both)

issued_short : (os : List Oid) (ls : List StreamLink) → names_all os ls ≡ true → Short ls
issued_short [] [] e = tt
issued_short [] (l ∷ ls) e = absurd cc
issued_short (o ∷ os) [] e = tt
issued_short (o ∷ os) (l ∷ ls) e = (leb-true (length l.backs) 4 (and-right _ _ (and-left _ _ (and-right _ _ (and-left _ _ e)))), issued_short os ls (and-right _ _ e))

draft_short : (ls : List StreamLink) → list_all (λ l. length l.backs == 0) ls ≡ true → Short ls
draft_short [] e = tt
draft_short (l ∷ ls) e =
    let none : length l.backs ≡ 0 = eqb-true (length l.backs) 0 (and-left _ _ e) in
    (omega (arith, none), draft_short ls (and-right _ _ e))

as_many : (os : List Oid) (ls : List StreamLink) → names_all os ls ≡ true → length ls ≡ length os
as_many [] [] e = refl
as_many [] (l ∷ ls) e = absurd cc
as_many (o ∷ os) [] e = absurd cc
as_many (o ∷ os) (l ∷ ls) e =
    let named : names_all os ls ≡ true = and-right _ _ e in
    let rest : length ls ≡ length os = as_many os ls named in
    omega (arith, rest)

objects_many : (ls : List StreamLink) → length (map oid_of_link ls) ≡ length ls
objects_many [] = refl
objects_many (l ∷ ls) = let rest : length (map oid_of_link ls) ≡ length ls = objects_many ls in omega (arith, rest)

abbrev written_in : ℕ → List ReadMark → List WriteOp → List ℕ → List ℕ
written_in format rs ws ns = (reads format).spell rs ++ ((length ws ∷ []) ++ spell_many write after_write (owing (length ws) ns) ws)

-- the spelling of a body knows its streams by their objects alone
body_same : (format : ℕ) (ls ms : List StreamLink) (b : Body) → stream_numbers ms ≡ stream_numbers ls → (body format ms (tag_of b)).spell b ≡ (body format ls (tag_of b)).spell b
unfolding body writes
body_same format ls ms (Commit rs ws) e = ap (λ ns. written_in format rs ws ns) e
body_same format ls ms (Decision at is_yes) e = refl
body_same format ls ms (Checkpoint o u v w ks s) e = ap (λ ns. (fields format (points ns)).spell (o, (u, (v, (w, (ks, s)))))) e

behind : (xs ys zs : List ℕ) → length ys ≡ length zs → length (xs ++ ys) ≡ length (xs ++ zs)
behind xs ys zs e =
    let one : length (xs ++ ys) ≡ length xs + length ys = length-append xs ys in
    let two : length (xs ++ zs) ≡ length xs + length zs = length-append xs zs in
    omega (arith, e, one, two)

streams_long : (tag : ℕ) (ls ms : List StreamLink) → Short ls → Short ms → length ms ≡ length ls → length ((links (stream_counts tag)).spell ms) ≡ length ((links (stream_counts tag)).spell ls)
streams_long tag ls ms h i e =
    let one : length (spell_many link after_link 0 ls) ≡ length ls * 37 = links_long 0 ls h in
    let two : length (spell_many link after_link 0 ms) ≡ length ms * 37 = links_long 0 ms i in
    omega (arith, one, two, e)

ends_long : (a b c d : List ℕ) → length a ≡ length b → c ≡ d → length (a ++ c) ≡ length (b ++ d)
ends_long a b c d e f =
    let one : length (a ++ c) ≡ length a + length c = length-append a c in
    let two : length (b ++ d) ≡ length b + length d = length-append b d in
    let same : length c ≡ length d = ap length f in
    omega (arith, e, one, two, same)

pub page_long : (e : Entry) (ls : List StreamLink) → names_all (streams_of e) ls ≡ true → is_draft e ≡ true → length (page_of (linked e ls)) ≡ length (page_of e)
unfolding page_of entry
page_long e ls named draft =
    let ss = e.head.streams in
    let numbers = links_numbers ss ls named in
    let many : length ls ≡ length ss = as_many (streams_of e) ls named ∙ objects_many ss in
    let tag = tag_of e.body in
    let streams = streams_long tag ss ls (draft_short ss (and-right _ _ draft)) (issued_short (streams_of e) ls named) many in
    let rest = ends_long ((links (stream_counts tag)).spell ls) ((links (stream_counts tag)).spell ss) ((body e.head.format ls tag).spell e.body) ((body e.head.format ss tag).spell e.body) streams (body_same e.head.format ss ls e.body numbers) in
    let linked_rest : List ℕ = (links (stream_counts tag)).spell ls ++ (body e.head.format ls tag).spell e.body in
    let draft_rest : List ℕ = (links (stream_counts tag)).spell ss ++ (body e.head.format ss tag).spell e.body in
    let number = to_be_bytes w32 e.head.number in
    let client = to_be_bytes w16 e.head.client in
    ap (λ (n : ℕ). suc (suc (suc n))) (behind client (number ++ linked_rest) (number ++ draft_rest) (behind number linked_rest draft_rest rest))
