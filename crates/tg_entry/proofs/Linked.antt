-- An entry whose streams get other last positions still has a spelling.
use Rattle.std.proofs.Common.{◌≡◌, ℕ, ◌+◌, Bool, true, List, [], ◌∷◌, length, refl, sym, ap, ◌∙◌, subst}
use Rattle.std.specs.List.{list_all}
use Rattle.tg_base.specs.declared.marks.StreamLink.{StreamLink}
use Rattle.tg_codec.specs.Codec.{u8, u16, u32, fixed, many, counted, fit_many}
use Rattle.tg_codec.specs.Owing.{points, owing}
use Rattle.tg_codec.specs.Streams.{any, from_one, oids_from, backs, link, after_link, links}
use Rattle.tg_codec.proofs.Laws.{and-left, and-right, both}
use Rattle.tg_codec.proofs.Shapes.{dep_first, dep_second}
use Rattle.tg_entry.specs.declared.entry.WriteOp.{WriteOp}
use Rattle.tg_entry.specs.declared.entry.Body.{Body}
use Rattle.tg_entry.specs.declared.entry.Body.TheVariants.{Commit, Decision, Checkpoint}
use Rattle.tg_entry.specs.Reads.{reads}
use Rattle.tg_entry.specs.Writes.{write, after_write, stream_numbers, writes}
use Rattle.tg_entry.specs.Checkpoints.{fields}
use Rattle.tg_entry.specs.Format.{body, tag_of, stream_counts, in_streams, by_number, by_client, of_tag, of_format, from_entry, entry}
use Rattle.tg_entry.specs.Records.{has_backs, LinkedFit}
use Rattle.tg_entry.proofs.Fits.{backs_fit, links-length}

first_same : (x y : ℕ) (xs ys : List ℕ) → x ∷ xs ≡ y ∷ ys → x ≡ y
first_same x y xs ys e = cc

rest_same : (x y : ℕ) (xs ys : List ℕ) → x ∷ xs ≡ y ∷ ys → xs ≡ ys
rest_same x y xs ys e = cc

same-length : (ls ms : List StreamLink) → stream_numbers ms ≡ stream_numbers ls → length ms ≡ length ls
same-length ls ms e = sym (links-length ms) ∙ ap length e ∙ links-length ls

links_same : (low : ℕ) (ls ms : List StreamLink) → stream_numbers ms ≡ stream_numbers ls → list_all has_backs ms ≡ true → fit_many link after_link (length ls) low ls ≡ true → fit_many link after_link (length ms) low ms ≡ true
unfolding fit_many
links_same low [] [] e b h = refl
links_same low [] (m ∷ ms) e b h = absurd cc
links_same low (l ∷ ls) [] e b h = absurd cc
links_same low (l ∷ ls) (m ∷ ms) e b h =
    let here : m.oid.0 ≡ l.oid.0 = first_same m.oid.0 l.oid.0 (stream_numbers ms) (stream_numbers ls) e in
    let rest = rest_same m.oid.0 l.oid.0 (stream_numbers ms) (stream_numbers ls) e in
    let object = and-left ((u32 (oids_from low)).fits l.oid.0) (backs.fits l.backs) (and-left _ _ h) in
    let more = and-right _ _ h in
    let object_too : (u32 (oids_from low)).fits m.oid.0 ≡ true = subst (λ n. (u32 (oids_from low)).fits n ≡ true) (sym here) object in
    let more_too : fit_many link after_link (length ls) (m.oid.0 + 1) ls ≡ true = subst (λ n. fit_many link after_link (length ls) (n + 1) ls ≡ true) (sym here) more in
    both _ _ (both _ _ object_too (backs_fit m.backs (and-left _ _ b))) (links_same (m.oid.0 + 1) ls ms rest (and-right _ _ b) more_too)

abbrev written_in : ℕ → List ℕ → List WriteOp → Bool
written_in n ns ws = (counted ((n, 64) ∷ []) (λ k. many write after_write k (owing k ns))).fits ws

writes_same : (ls ms : List StreamLink) (ws : List WriteOp) → stream_numbers ms ≡ stream_numbers ls → (writes ls).fits ws ≡ true → (writes ms).fits ws ≡ true
unfolding writes
writes_same ls ms ws e h =
    let named : written_in (length ls) (stream_numbers ms) ws ≡ true = subst (λ ns. written_in (length ls) ns ws ≡ true) (sym e) h in
    subst (λ n. written_in n (stream_numbers ms) ws ≡ true) (sym (same-length ls ms e)) named

body_same : (format : ℕ) (ls ms : List StreamLink) (b : Body) → stream_numbers ms ≡ stream_numbers ls → (body format ls (tag_of b)).fits b ≡ true → (body format ms (tag_of b)).fits b ≡ true
unfolding body
body_same format ls ms (Commit rs ws) e h = both _ _ (dep_first (reads format) (λ _. writes ls) (rs, ws) h) (writes_same ls ms ws e (dep_second (reads format) (λ _. writes ls) (rs, ws) h))
body_same format ls ms (Decision at fate) e h = h
body_same format ls ms (Checkpoint o u v w ks s) e h = subst (λ ns. (fields format (points ns)).fits (o, (u, (v, (w, (ks, s))))) ≡ true) (sym e) h

pub linked_fit : LinkedFit
unfolding entry
linked_fit e ms same backs fits =
    let p = from_entry e in
    let r = p.1 in
    let ls = e.head.streams in
    let counts = stream_counts r.1.0 in
    let h1 = dep_second (fixed (0x54 ∷ [])) (λ _. of_format) p fits in
    let h2 = dep_second (u8 ((1, 2) ∷ [])) of_tag r h1 in
    let h3 = dep_second (u8 ((1, 3) ∷ [])) (by_client r.0) r.1 h2 in
    let h4 = dep_second (u16 any) (λ _. by_number r.0 r.1.0) r.1.1 h3 in
    let h5 = dep_second (u32 from_one) (λ _. in_streams r.0 r.1.0) r.1.1.1 h4 in
    let streams = dep_first (links counts) (λ ls. body r.0 ls r.1.0) r.1.1.1.1 h5 in
    let rest = dep_second (links counts) (λ ls. body r.0 ls r.1.0) r.1.1.1.1 h5 in
    let count = and-left ((u8 counts).fits (length ls)) (fit_many link after_link (length ls) 0 ls) streams in
    let each = and-right ((u8 counts).fits (length ls)) (fit_many link after_link (length ls) 0 ls) streams in
    let count_too : (u8 counts).fits (length ms) ≡ true = subst (λ n. (u8 counts).fits n ≡ true) (sym (same-length ls ms same)) count in
    let each_too = links_same 0 ls ms same backs each in
    let rest_too = body_same e.head.format ls ms e.body same rest in
    both _ _ refl
    (both _ _ (dep_first (u8 ((1, 2) ∷ [])) of_tag r h1)
    (both _ _ (dep_first (u8 ((1, 3) ∷ [])) (by_client r.0) r.1 h2)
    (both _ _ (dep_first (u16 any) (λ _. by_number r.0 r.1.0) r.1.1 h3)
    (both _ _ (dep_first (u32 from_one) (λ _. in_streams r.0 r.1.0) r.1.1.1 h4) (both _ _ (both _ _ count_too each_too) rest_too)))))
